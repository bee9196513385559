-- What the tree after holds of the run.
use Rattle.std.specs.Prelude.{◌≡◌, ◌⊎◌, ℕ, ◌+◌, ◌≤◌, List, [], ◌∷◌, ◌++◌, max, take}
use Rattle.std.specs.List.{All}
use Rattle.plfs_types.specs.declared.entries.Trunc.{Trunc}
use Rattle.plain_file.specs.declared.changes.Change.{Change}
use Rattle.plain_file.specs.declared.changes.Change.TheVariants.{Truncate, Write as Written}
use Rattle.plain_file.specs.File.{stored_bytes}
use Rattle.container_layout.specs.declared.items.Item.TheVariants.{Meta, OpenHost}
use Rattle.script_lang.specs.declared.line.Outcome.TheVariants.{Opened, Stopped}
use Rattle.headline.specs.Run.{Run, Told, own, told}
use Rattle.headline.specs.Trees.{Has, landed_writes, log_in}
use Rattle.headline.specs.Writers.{Writer}
use Rattle.headline.specs.Names.{Story}
use Rattle.headline.specs.Views.{Truncates, item_of}
use Rattle.headline.specs.Changes.{last_stamp_of, none, writer, writing_after}

-- the bytes of the writes, one after the other, and the greatest end of one
abbrev pub content_of : List Change → List ℕ
content_of [] = []
content_of (Written entry bytes ∷ writes) = bytes ++ content_of writes
content_of (Truncate t ∷ writes) = content_of writes

abbrev pub end_of : List Change → ℕ
end_of [] = 0
end_of (Written entry bytes ∷ writes) = max (entry.at + entry.len) (end_of writes)
end_of (Truncate t ∷ writes) = end_of writes

-- Of a writer of the run, and of one that the tree had before, no more and no less has landed than the lines allow: the first writes. Its log begins with the
-- bytes of all that it wrote.
pub record IsLeft (run : Run) (n : ℕ) (w : Writer) : Type 0 where
  pub count : ℕ
  pub at_least : w.least ≤ count
  pub at_most : count ≤ w.most
  pub landed : landed_writes run.after n w.host w.id ≡ take count w.writes
  pub rest : List ℕ
  pub log : log_in run.after n w.host w.id ≡ content_of w.writes ++ rest

-- A closed writer has left: its metadata tell of all that it wrote, and its entry of an open writer is gone.
pub record HasLeft (run : Run) (n : ℕ) (w : Writer) : Type 0 where
  pub meta : Has run.after n (Meta (end_of w.writes) (stored_bytes w.writes) (last_stamp_of w.writes) w.host w.id)
  pub gone : Has run.after n (OpenHost w.host w.id) → ⊥

-- The line opened this writer, which its actor still has at the end, and no stop ended the actor.
pub record StaysOpen (run : Run) (t : Told) (id : ℕ) : Type 0 where
  pub opened : t.outcome ≡ Opened id
  pub had : writing_after none (own t.actor (told run)) ≡ writer id
  pub alive : All (λ (s : Told). s.outcome ≡ Stopped → ⊥) (own t.actor (told run))

-- The truncates that stand after are those that stood before, and those of lines.
pub record AreTruncsLeft (run : Run) (story : Story) (n : ℕ) : Type 0 where
  pub stood : (u : Trunc) → Has run.before n (item_of u) → Has run.after n (item_of u)
  pub known : (u : Trunc) → Has run.after n (item_of u) → Has run.before n (item_of u) ⊎ ((s : Told) × Truncates run story s n u)
