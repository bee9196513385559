-- What a reader of a target sees.
use Rattle.std.specs.Prelude.{◌≡◌, ◌≤◌, ◌*◌, ℕ, List, [], ◌∷◌, length, take}
use Rattle.std.specs.List.{All, Any}
use Rattle.plfs_types.specs.declared.limits.TheConstants.{ENTRY_SIZE}
use Rattle.plfs_types.specs.declared.entries.Trunc.{Trunc}
use Rattle.container_layout.specs.declared.items.Item.TheVariants.{Index, Trunc as TruncItem}
use Rattle.store_api.specs.declared.tree.Room.{Room}
use Rattle.store_api.specs.declared.tree.Tree.{Tree}
use Rattle.mount_model.specs.declared.call.Call.{Call}
use Rattle.mount_model.specs.declared.call.Call.TheVariants.{Find, Greet, Look, Rooms}
use Rattle.mount_model.specs.State.{State}
use Rattle.mount_sound.specs.Dropping.{log_bytes}
use Rattle.mount_sound.specs.Entries.{logged}
use Rattle.mount_sound.specs.Items.{HasItem}
use Rattle.mount_sound.specs.Ledger.{entries_in}
use Rattle.mount_sound.specs.Sound.{IsSoundTree}
use Rattle.reader_laws.specs.Gathering.{Gathered}
use Rattle.plfs_types.specs.Places.{IsAmong}
use Rattle.reader_laws.specs.Moments.{HadTrunc, Moment, landed}
use Rattle.reader_laws.specs.View.{view}
use Rattle.drain_sound.specs.Fronts.{dropping_in}

-- the same cut in the source's room of this number
abbrev pub cut_there : ℕ → List Gathered → List Gathered
cut_there number [] = []
cut_there number (g ∷ cut) = record g { dropping = dropping_in number g.dropping.host g.dropping.writer } ∷ cut_there number cut

-- a mount over a sound tree as it begins, where what was issued is what has landed in the tree
abbrev pub mounted_there : {tree : Tree} → IsSoundTree tree → State → Moment
mounted_there sound start = record { state = start; issued = sound.issued }

-- between these moments of a mount nobody wrote in the room, and no truncate came
pub record StaysQuiet (from end : Moment) (n : ℕ) : Type 0 where
  pub writes : (writer : ℕ) → end.issued n writer ≡ from.issued n writer
  pub truncates : (stamp size : ℕ) → HadTrunc end n stamp size → HadTrunc from n stamp size

-- The plain file of the cut and its truncates is that of the same cut at the source. It counts of each writer no more than has
-- landed there, and its truncates are truncates of the source.
pub record IsOfSource (source : Moment) (number : ℕ) (end : Moment) (cut : List Gathered) (truncs : List Trunc) : Type 0 where
  pub same : view end cut truncs ≡ view source (cut_there number cut) truncs
  pub landed : All (λ (g : Gathered). g.count ≤ landed source g.dropping) (cut_there number cut)
  pub truncates : All (λ (t : Trunc). HadTrunc source number t.stamp t.size) truncs

-- The target's room has so many of the writer's entries whole, and their bytes.
pub record HasCopied (source : Moment) (number : ℕ) (room : Room) (host writer count : ℕ) : Type 0 where
  pub bytes : List ℕ
  pub has : HasItem room (Index host writer) bytes
  pub entries : ENTRY_SIZE * count ≤ length bytes
  pub written : logged (take count (entries_in (source.issued number writer))) ≤ length (log_bytes room host writer)

-- The reader's cut has of each writer as many entries as were copied, and its truncates are no fewer than the target's.
pub record MissesNothing (source : Moment) (number n : ℕ) (room : Room) (cut : List Gathered) (truncs : List Trunc) : Type 0 where
  pub entries : (host writer count : ℕ) → HasCopied source number room host writer count → Any (λ (g : Gathered). (g.dropping ≡ dropping_in n host writer) × (count ≤ g.count)) cut
  pub truncates : (t : Trunc) (inside : List ℕ) → HasItem room (TruncItem t.stamp t.size) inside → IsAmong t truncs

-- a call that only reads
abbrev pub OnlyReads : Call → Type 0
OnlyReads Greet = Unit {0}
OnlyReads (Find name) = Unit {0}
OnlyReads Rooms = Unit {0}
OnlyReads (Look room look) = Unit {0}
OnlyReads call = ⊥
