-- A unit's first byte is not 0, so a write shows it.
use Rattle.std.proofs.Common.{◌≡◌, ℕ, ◌+◌, ◌<◌, min, List, length, drop, get_or, Option, Some, None, refl, sym, ap, subst, ◌∙◌, arith}
use Rattle.std.specs.Prelude.{slice_index, option_map, MatchOption}
use Rattle.std.specs.List.{Contains}
use Rattle.std.proofs.lemmas.List.{get_or-take, get_or-drop}
use Rattle.plfs_types.specs.declared.entries.Entry.{Entry}
use Rattle.plain_file.specs.File.{slice}
use Rattle.plain_file.specs.declared.changes.Change.{Change}
use Rattle.plain_file.specs.declared.pieces.Piece.{Piece}
use Rattle.plain_file.specs.Runs.{ArePiecesOf}
use Rattle.plain_file.specs.Shows.{IsByteOf, ShowsNewest, write_at}
use Rattle.plain_file.specs.Sources.{Source, source_at, source_of}
use Rattle.unit_format.specs.declared.finding.Region.{Region}
use Rattle.unit_format.specs.declared.finding.Unit.{Unit as Found}
use Rattle.unit_format.specs.declared.units.TheConstants.{MAX_CONTENT}
use Rattle.unit_format.specs.Regions.{placed_at}
use Rattle.unit_format.specs.Units.{SmallFile, IsSmallFile, unit_size, unit_spelling}
use Rattle.pack_files.specs.Scanning.{key_at, key_of, unit_of}
use Rattle.pack_laws.specs.Scanned.{TellsUnits, region_bytes, region_start}
use Rattle.packing_laws.specs.Keys.{HasKeyOfWrite, begins_at}
use Rattle.packing_laws.specs.Told.{StandsIn}
use Rattle.packing_laws.proofs.Unpacking.Units.{IsUnitAt, unit_in, unit_stands}

first_of : (f : SmallFile) → IsSmallFile f → slice_index (unit_spelling f) 0 ≡ length f.name
first_of f small = omega (arith, small.named.short)

-- the byte of the file there is that of the spelling
there : (file : List ℕ) (place : ℕ) (f : SmallFile) → slice file place (unit_size f) ≡ unit_spelling f → slice_index file place ≡ slice_index (unit_spelling f) 0
there file place f is =
    let within : 0 < unit_size f = omega arith in
    let same : place + 0 ≡ place = omega arith in
    sym (get_or-take (unit_size f) (drop place file) 0 0 within ∙ get_or-drop place file 0 0 ∙ ap (λ (n : ℕ). get_or file n 0) same) ∙ ap (λ (bytes : List ℕ). get_or bytes 0 0) is

-- the key of a place that a write shows
key_shown : (pieces : List Piece) (place : ℕ) (e : Entry) → source_at pieces place ≡ Some (source_of place e) → key_at pieces place ≡ record { stamp = e.stamp; writer = e.writer }
key_shown pieces place e is = ap (λ (s : Option Source). key_of s) is

key_there : (pieces : List Piece) (u : Found) (place : ℕ) (f : SmallFile) → u ≡ unit_of pieces (placed_at place f) → u.key ≡ key_at pieces (begins_at u)
key_there pieces u place f is = subst (λ (v : Found). v.key ≡ key_at pieces (begins_at v)) (sym is) refl

shown_by : (changes : List Change) (pieces : List Piece) (u : Found) (byte : ℕ) (shown : Option Entry) → write_at changes (begins_at u) ≡ shown → 0 < byte
    → MatchOption shown (byte ≡ 0) (IsByteOf changes (begins_at u) byte) → source_at pieces (begins_at u) ≡ option_map (source_of (begins_at u)) shown → u.key ≡ key_at pieces (begins_at u) → HasKeyOfWrite changes u
shown_by changes pieces u byte None is some zero source key = absurd (omega (arith, some, zero))
shown_by changes pieces u byte (Some e) is some of source key = record { entry = e; shows = is; key = key ∙ key_shown pieces (begins_at u) e source }

pub unit_shown : (changes : List Change) (pieces : List Piece) (file : List ℕ) (region : ℕ) (r : Region) (u : Found) → ShowsNewest changes file → ArePiecesOf changes pieces → TellsUnits pieces region file r → Contains r.units u
    → HasKeyOfWrite changes u
unit_shown changes pieces file region r u shows are told has =
    let x : IsUnitAt pieces (region_start region) (region_bytes region file) u = unit_in pieces region file r u told has in
    let f : SmallFile = record { name = u.name; content = slice file u.at (min u.len MAX_CONTENT) } in
    let stands : StandsIn file u f = unit_stands pieces region file r u u.name (slice file u.at (min u.len MAX_CONTENT)) told has refl refl in
    let byte : slice_index file (begins_at u) ≡ length u.name = there file (begins_at u) f stands.spelled ∙ first_of f stands.small in
    let some : 0 < slice_index file (begins_at u) = omega (arith, byte, stands.small.named.not_empty) in
    shown_by changes pieces u (slice_index file (begins_at u)) (write_at changes (begins_at u)) refl some (shows.inside (begins_at u)) (are.shown (begins_at u)) (key_there pieces u (region_start region + length x.before) x.f x.is)
