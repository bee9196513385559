-- How a reader gathers the entries of writers.
use Rattle.std.specs.Prelude.{◌≡◌, ◌⊎◌, ◌≤◌, ◌<◌, ◌+◌, ◌*◌, ◌/◌, ◌++◌, ℕ, List, [], ◌∷◌, length, take, drop, Bool, true, false}
use Rattle.std.specs.List.{All, Any, AllByRecursion}
use Rattle.plfs_types.specs.declared.entries.Entry.{Entry}
use Rattle.plfs_types.specs.declared.limits.TheConstants.{ENTRY_SIZE}
use Rattle.store_api.specs.declared.step.Answer.TheVariants.{Number, Bytes, Absent}
use Rattle.mount_model.specs.declared.call.Call.TheVariants.{Look}
use Rattle.mount_model.specs.declared.call.Look.TheVariants.{Length, Read}
use Rattle.mount_model.specs.declared.reply.Reply.TheVariants.{Looked}
use Rattle.mount_model.specs.Paths.{index_path, log_path}
use Rattle.mount_model.specs.History.{Event}
use Rattle.mount_sound.specs.Landed.{whole}
use Rattle.mount_sound.specs.Ledger.{entries_in}
use Rattle.index_entry.specs.Within.{within_log}
use Rattle.reader_laws.specs.Moments.{Moment, Dropping, IsNamed, Stood, issued_by, landed}
use Rattle.reader_laws.specs.Seen.{Asked, calls_of}
use Rattle.reader_laws.specs.Packs.{ReadsPack}
use Rattle.plfs_types.specs.Places.{IsAmong}

-- the length of the index dropping was asked and told
pub record IsLength (d : Dropping) (length : ℕ) (asked : Asked) : Type 0 where
  pub call : asked.ask.call ≡ Look d.room (Length (index_path d.host d.writer))
  pub reply : asked.reply ≡ Looked (Number length)

-- the length of the log was asked and told; where it is absent, it has no bytes
pub record IsLogLength (d : Dropping) (length : ℕ) (asked : Asked) : Type 0 where
  pub call : asked.ask.call ≡ Look d.room (Length (log_path d.host d.writer))
  pub reply : (asked.reply ≡ Looked (Number length)) ⊎ ((asked.reply ≡ Looked Absent) × (length ≡ 0))

-- bytes of the index dropping were asked and told
pub record IsRead (d : Dropping) (at len : ℕ) (bytes : List ℕ) (asked : Asked) : Type 0 where
  pub call : asked.ask.call ≡ Look d.room (Read (index_path d.host d.writer) at len)
  pub reply : asked.reply ≡ Looked (Bytes bytes)

-- Reads of the whole entries from this one on, up to that one, one Read after the other, and what they gave. A Read that
-- gave less than it asked for is the last.
abbrev pub AreReads : Dropping → ℕ → ℕ → List Asked → List ℕ → Type 0
AreReads d first end [] content = (first ≡ end) × (content ≡ [])
AreReads d first end (asked ∷ rest) content =
    (count : ℕ) × (bytes : List ℕ) × IsRead d (ENTRY_SIZE * first) (ENTRY_SIZE * count) bytes asked × (first + count ≤ end)
    × (((length bytes ≡ ENTRY_SIZE * count) × ((more : List ℕ) × AreReads d (first + count) end rest more × (content ≡ bytes ++ more)))
    ⊎ ((length bytes < ENTRY_SIZE * count) × (rest ≡ []) × (content ≡ bytes)))

-- What was gathered of a writer, of its index dropping or of its packed index: how many entries, and those that a flattened
-- index doesn't cover.
pub record Gathered : Type 0 where
  pub dropping : Dropping
  pub packed : Bool
  pub covered : ℕ
  pub count : ℕ
  pub tail : List Entry

-- The calls that gathered it of the index dropping: its length, that of the log, then the bytes of the whole entries past
-- the covered ones. Those count that end within the log, up to the first that doesn't.
pub record GathersIndex (g : Gathered) (asked : List Asked) : Type 0 where
  pub first : Asked
  pub second : Asked
  pub reads : List Asked
  pub calls : asked ≡ first ∷ second ∷ reads
  pub told : ℕ
  pub log : ℕ
  pub content : List ℕ
  pub index_length : IsLength g.dropping told first
  pub log_length : IsLogLength g.dropping log second
  pub bytes : AreReads g.dropping g.covered (told / ENTRY_SIZE) reads content
  pub tail : g.tail ≡ within_log log (whole content) content
  pub count : g.count ≡ g.covered + length g.tail

-- they read the packed index, or else the index dropping
abbrev pub GathersSo : Bool → Gathered → List Asked → Type 0
GathersSo true g asked = ReadsPack g.dropping g.covered g.count g.tail asked
GathersSo false g asked = GathersIndex g asked

-- The calls that gathered it.
pub record Gathers (g : Gathered) (asked : List Asked) : Type 0 where
  pub named : IsNamed g.dropping
  pub reads : GathersSo g.packed g asked

-- what a flattened index covers of it had landed at that moment
abbrev pub CoversLanded : Moment → Gathered → Type 0
CoversLanded moment g = g.covered ≤ landed moment g.dropping

-- the calls that gathered them all, one writer after the other
abbrev pub GathersAll : List Gathered → List Asked → Type 0
GathersAll [] asked = asked ≡ []
GathersAll (g ∷ rest) asked = (mine others : List Asked) × (asked ≡ mine ++ others) × Gathers g mine × GathersAll rest others

-- each of the cut was gathered, in whatever order
abbrev pub AreGathered : List Gathered → List Gathered → Type 0
AreGathered gathered cut = All (λ (g : Gathered). IsAmong g gathered) cut

-- A reader's count of a writer lies between what had landed at the two moments, and it read the first entries issued.
pub record IsPrefixOf (start end : Moment) (g : Gathered) : Type 0 where
  pub least : landed start g.dropping ≤ g.count
  pub most : g.count ≤ landed end g.dropping
  pub were_issued : g.count ≤ length (issued_by end g.dropping)
  pub stands : Stood end g.dropping
  pub entries : g.tail ≡ drop g.covered (take g.count (entries_in (issued_by end g.dropping)))

-- each count lies between what had landed at the two moments
abbrev pub IsAdmissible : Moment → Moment → List Gathered → Type 0
IsAdmissible start end cut = AllByRecursion (IsPrefixOf start end) cut

-- a caller, such as a worker of a reader, and what it gathered
pub record Share : Type 0 where
  pub worker : ℕ
  pub part : List Gathered

-- Each worker gathered its share in these events.
abbrev pub GatherShares : List Event → List Share → Type 0
GatherShares events [] = Unit {0}
GatherShares events (share ∷ others) = GathersAll share.part (calls_of share.worker events) × GatherShares events others

-- what was gathered of each writer of the cut is in one of the shares
abbrev pub AreShared : List Share → List Gathered → Type 0
AreShared shares cut = All (λ (g : Gathered). Any (λ (share : Share). IsAmong g share.part) shares) cut
