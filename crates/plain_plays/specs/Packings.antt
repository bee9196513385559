-- Small files that are packed, as a plain machine has it: by statements of one actor.
use Rattle.std.specs.Prelude.{ℕ, ◌≡◌, ◌≤◌, ◌<◌, ◌+◌, List, [], ◌∷◌, ◌++◌, map, Some, None, Result, Ok, Err, codes, slice_get}
use Rattle.std.specs.List.{AllByRecursion}
use Rattle.index_entry.specs.Records.{IsBytes}
use Rattle.store_api.specs.Acts.{Stored}
use Rattle.script_lang.specs.declared.line.Line.{Line}
use Rattle.script_lang.specs.declared.line.Outcome.{Outcome}
use Rattle.script_lang.specs.declared.line.Outcome.TheVariants.{Refused}
use Rattle.script_lang.specs.declared.script.ActorDecl.{ActorDecl}
use Rattle.script_lang.specs.declared.script.Data.TheVariants.{Hex}
use Rattle.script_lang.specs.declared.script.Numbered.{Numbered}
use Rattle.script_lang.specs.declared.script.Script.{Script}
use Rattle.script_lang.specs.declared.script.Statement.{Statement}
use Rattle.script_lang.specs.declared.script.Statement.TheVariants.{Close, Open, Sync, Write}
use Rattle.mount_model.specs.Paths.{Name}
use Rattle.mount_model.specs.declared.reply.Refusal.{Refusal}
use Rattle.mount_model.specs.declared.stuck.Stuck.TheVariants as stuck
use Rattle.unit_format.specs.Regions.{IsBadRegion, IsRegion}
use Rattle.unit_format.specs.Units.{SmallFile, unit_size, unit_spelling}
use Rattle.pack_files.specs.declared.scan.ScanStuck.{ScanStuck}
use Rattle.pack_files.specs.declared.scan.ScanStuck.TheVariants.{Bad, Stuck}
use Rattle.pack_input.specs.declared.files.NamedFile.{NamedFile}
use Rattle.pack_laws.specs.Scanned.{region_bytes, region_start, region_stop}
use Rattle.lone_flow.specs.Putting.{small_file}
use Rattle.lone_flow.specs.declared.packing.Packed.{Packed}
use Rattle.lone_flow.specs.declared.packing.Packed.TheVariants as packed
use Rattle.outcomes.specs.Outcomes.{why_of}
use Rattle.plain_machine.specs.Machine.{Plain, PlainRoom}
use Rattle.plain_machine.specs.Finding.{find}
use Rattle.plain_machine.specs.Landed.{bytes_seen, file_of}
use Rattle.plain_plays.specs.OverStores.{IsSaidOver}

-- ---- the region

-- the machine's file of this name, where there is one, has bytes: numbers below 256
abbrev pub HasByteFile : Plain → Name → Type 0
HasByteFile p name = (number : ℕ) (room : PlainRoom) → find p name ≡ Some number → slice_get p.rooms number ≡ Some room → IsBytes (bytes_seen (file_of number room))

-- Where the units end that the machine's file of this name has in the region. Without such a file that is the region's start.
pub data HasUnitsUpTo (p : Plain) (name : Name) (region end : ℕ) : Type 0 where
  unmade : find p name ≡ None → end ≡ region_start region → HasUnitsUpTo p name region end
  behind : (number : ℕ) (room : PlainRoom) (units : List SmallFile) → find p name ≡ Some number → slice_get p.rooms number ≡ Some room
      → IsRegion (region_start region) (region_stop region) (region_bytes region (bytes_seen (file_of number room))) units end → HasUnitsUpTo p name region end

-- the first place of the region at which the machine's file breaks a rule of units
pub record BreaksRuleAt (p : Plain) (name : Name) (region place : ℕ) : Type 0 where
  pub number : ℕ
  pub room : PlainRoom
  pub found : find p name ≡ Some number
  pub there : slice_get p.rooms number ≡ Some room
  pub bad : IsBadRegion (region_start region) (region_stop region) (region_bytes region (bytes_seen (file_of number room))) place

-- ---- the statements

-- the one actor: its writer is of host 0, with a buffer of 64 entries
abbrev pub packer : ActorDecl
packer = record { host = 0; cap = 64; name = codes "a" }

-- a statement of it, under line 0
abbrev pub by_packer : Statement → Numbered
by_packer statement = record { line = 0; actor = 0; statement = statement }

-- it makes these in one phase
abbrev pub packer_script : List Statement → Script
packer_script statements = record { actors = packer ∷ []; phases = record { turns = []; statements = map by_packer statements } ∷ [] }

-- the units of these files, one behind the other from this place on, each by one write
abbrev pub unit_writes : ℕ → List NamedFile → List Statement
unit_writes at [] = []
unit_writes at (f ∷ files) = Write at (Hex (unit_spelling (small_file f))) ∷ unit_writes (at + unit_size (small_file f)) files

-- where the last of them ends
abbrev pub end_behind : ℕ → List NamedFile → ℕ
end_behind at [] = at
end_behind at (f ∷ files) = end_behind (at + unit_size (small_file f)) files

-- a writer is opened, the units are written, and it is synced and closed
abbrev pub pack_statements : Name → ℕ → List NamedFile → List Statement
pack_statements name at files = Open name ∷ (unit_writes at files ++ (Sync ∷ Close ∷ []))

-- ---- how it ends

-- the line doesn't tell of a refusal
abbrev pub IsUnrefused : Outcome → Type 0
IsUnrefused (Refused why) = ⊥
IsUnrefused other = Unit {0}

abbrev pub AreUnrefused : List Line → Type 0
AreUnrefused lines = AllByRecursion (λ (line : Line). IsUnrefused line.outcome) lines

-- So the machine's actor packs these files, and the store is left so. It makes the statements for all of them where they fit in the region behind the units that
-- are there, and else for those before the first that doesn't fit. A statement that is refused is the last one. Where the region breaks a rule there is none.
pub data PacksPlainly (name : Name) (region : ℕ) (files : List NamedFile) (p : Plain) (told : Result Packed ScanStuck) (after : Stored) : Type 0 where
  all : (at : ℕ) (lines : List Line) → HasUnitsUpTo p name region at → end_behind at files ≤ region_stop region
      → IsSaidOver (packer_script (pack_statements name at files)) p lines after → AreUnrefused lines → told ≡ Ok (packed.All (end_behind at files)) → PacksPlainly name region files p told after
  full : (at : ℕ) (first : List NamedFile) (f : NamedFile) (rest : List NamedFile) (lines : List Line) → HasUnitsUpTo p name region at → files ≡ first ++ f ∷ rest
      → end_behind at first ≤ region_stop region → region_stop region < end_behind at first + unit_size (small_file f)
      → IsSaidOver (packer_script (pack_statements name at first)) p lines after → AreUnrefused lines → told ≡ Ok packed.Full → PacksPlainly name region files p told after
  unopened : (at : ℕ) (line : Line) (why : Refusal) → HasUnitsUpTo p name region at
      → IsSaidOver (packer_script (Open name ∷ [])) p (line ∷ []) after → line.outcome ≡ Refused (why_of why) → told ≡ Err (Stuck (stuck.Refused why)) → PacksPlainly name region files p told after
  unwritten : (at : ℕ) (first : List NamedFile) (f : NamedFile) (rest : List NamedFile) (lines : List Line) (line : Line) (why : Refusal) → HasUnitsUpTo p name region at → files ≡ first ++ f ∷ rest
      → end_behind at first + unit_size (small_file f) ≤ region_stop region
      → IsSaidOver (packer_script (Open name ∷ unit_writes at (first ++ f ∷ []))) p (lines ++ line ∷ []) after → AreUnrefused lines → line.outcome ≡ Refused (why_of why)
      → told ≡ Err (Stuck (stuck.Refused why)) → PacksPlainly name region files p told after
  broken : (place : ℕ) → BreaksRuleAt p name region place → IsSaidOver (packer_script []) p [] after → told ≡ Err (Bad place) → PacksPlainly name region files p told after
