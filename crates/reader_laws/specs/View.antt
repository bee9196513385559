-- The file that a reader sees, and its answers.
use Rattle.std.specs.Prelude.{◌≡◌, ◌<◌, ℕ, List, [], ◌∷◌, ◌++◌, take, drop, map, replicate}
use Rattle.std.specs.List.{All, AllByRecursion, Any}
use Rattle.plfs_types.specs.declared.entries.Entry.{Entry}
use Rattle.plfs_types.specs.declared.entries.Trunc.{Trunc}
use Rattle.index_entry.specs.Valid.{IsValidEntry}
use Rattle.index_entry.specs.Spelling.{FitsPlaces}
use Rattle.store_api.specs.declared.step.Answer.TheVariants.{Bytes}
use Rattle.plain_file.specs.declared.changes.Change.{Change}
use Rattle.plain_file.specs.declared.changes.Change.TheVariants.{Truncate}
use Rattle.plain_file.specs.File.{plain}
use Rattle.read_plan.specs.declared.part.Part.{Part}
use Rattle.read_plan.specs.declared.part.Part.TheVariants.{Hole, From}
use Rattle.mount_model.specs.declared.call.Call.TheVariants.{Look}
use Rattle.mount_model.specs.declared.call.Look.TheVariants.{Read}
use Rattle.mount_model.specs.declared.reply.Reply.TheVariants.{Looked}
use Rattle.mount_model.specs.Paths.{log_path}
use Rattle.mount_sound.specs.Entries.{AreEntriesOf, last_stamp, logged}
use Rattle.mount_sound.specs.Ledger.{Written, entries_in, content}
use Rattle.reader_laws.specs.Moments.{Moment, issued_by}
use Rattle.reader_laws.specs.Seen.{Asked}
use Rattle.reader_laws.specs.Gathering.{Gathered}
use Rattle.mount_sound.specs.Ledger.{change_of}

abbrev pub cut_off : Trunc → Change
cut_off t = Truncate t

-- the first writes of each writer, as many as the cut says
abbrev pub writes_in : Moment → List Gathered → List Written
writes_in moment [] = []
writes_in moment (g ∷ cut) = take g.count (issued_by moment g.dropping) ++ writes_in moment cut

abbrev pub changes_in : Moment → List Gathered → List Trunc → List Change
changes_in moment cut truncs = map change_of (writes_in moment cut) ++ map cut_off truncs

-- the plain file of a cut and its truncates
abbrev pub view : Moment → List Gathered → List Trunc → List ℕ
view moment cut truncs = plain (changes_in moment cut truncs)

-- the entries that a reader gathered of the index droppings
abbrev pub tails_of : List Gathered → List Entry
tails_of [] = []
tails_of (g ∷ cut) = g.tail ++ tails_of cut

-- the entries of one writer of the cut
abbrev pub own_entries : Moment → Gathered → List Entry
own_entries moment g = take g.count (entries_in (issued_by moment g.dropping))

-- the truncate has a stamp above every entry of the cut
abbrev pub IsAboveCut : Moment → List Gathered → Trunc → Type 0
IsAboveCut end cut t = All (λ (e : Entry). e.stamp < t.stamp) (entries_in (writes_in end cut))

-- the entries of the cut that a flattened index covers
abbrev pub covered_in : Moment → List Gathered → List Entry
covered_in moment [] = []
covered_in moment (g ∷ cut) = take g.covered (own_entries moment g) ++ covered_in moment cut

-- the entries of the cut that no flattened index covers
abbrev pub tails_in : Moment → List Gathered → List Entry
tails_in moment [] = []
tails_in moment (g ∷ cut) = drop g.covered (own_entries moment g) ++ tails_in moment cut

-- the entry is valid, and its bytes determine it
pub record IsReadable (e : Entry) : Type 0 where
  pub valid : IsValidEntry e
  pub fits : FitsPlaces e

-- those that no flattened index covers follow, by the rules of a writer's entries, the ones that it covers
abbrev pub FollowsCovered : Moment → Gathered → Type 0
FollowsCovered moment g = AreEntriesOf g.dropping.writer
    (last_stamp 0 (take g.covered (own_entries moment g)))
    (logged (take g.covered (own_entries moment g)))
    (drop g.covered (own_entries moment g))

-- the writers are of one room, and their ids rise
abbrev pub WritersRise : ℕ → List Gathered → Type 0
WritersRise room [] = Unit {0}
WritersRise room (g ∷ cut) = (g.dropping.room ≡ room) × AllByRecursion (λ (h : Gathered). g.dropping.writer < h.dropping.writer) cut × WritersRise room cut

-- what the logs of the room's writers have of their issued writes
abbrev pub logs_of : Moment → ℕ → ℕ → List ℕ
logs_of moment room writer = content (moment.issued room writer)

-- bytes of a gathered writer's log were asked and told
pub record IsLogRead (cut : List Gathered) (writer at len : ℕ) (bytes : List ℕ) (asked : Asked) : Type 0 where
  pub of : Gathered
  pub gathered : Any (λ g. g ≡ of) cut
  pub log_of : of.dropping.writer ≡ writer
  pub call : asked.ask.call ≡ Look of.dropping.room (Read (log_path of.dropping.host of.dropping.writer) at len)
  pub reply : asked.reply ≡ Looked (Bytes bytes)

-- The answer to a read: zeros for each hole, and for each other part the bytes that one read of a log gave.
abbrev pub IsAnswer : List Gathered → List Part → List Asked → List ℕ → Type 0
IsAnswer cut [] [] answer = answer ≡ []
IsAnswer cut [] (asked ∷ rest) answer = ⊥
IsAnswer cut (Hole len ∷ parts) asked answer = (more : List ℕ) × IsAnswer cut parts asked more × (answer ≡ replicate len 0 ++ more)
IsAnswer cut (From writer at len ∷ parts) [] answer = ⊥
IsAnswer cut (From writer at len ∷ parts) (asked ∷ rest) answer = (bytes more : List ℕ) × IsLogRead cut writer at len bytes asked × IsAnswer cut parts rest more × (answer ≡ bytes ++ more)
