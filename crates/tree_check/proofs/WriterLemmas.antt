-- What is shown of a writer by its index dropping that was read.
use Rattle.std.proofs.Common.{◌≡◌, ℕ, zero, suc, ◌+◌, ◌*◌, ◌/◌, ◌≤◌, ◌<◌, ◌^◌, inl, inr, Bool, true, false, nat_le, List, [], ◌∷◌, length, take, Option, Some, None, Result, Ok, Err, refl, ap, sym, ◌∙◌, subst, arith}
use Rattle.std.specs.Prelude.{slice_get, is_some, if◌then◌else◌, IfErr, OnOk}
use Rattle.std.proofs.lemmas.Bool.{false≢true}
use Rattle.std.proofs.lemmas.Bool.Decides.{nat_tests}
use Rattle.std.proofs.lemmas.List.{take_all, length-take-le}
use Rattle.plfs_types.specs.declared.limits.TheConstants.{MAX_LOG}
use Rattle.plfs_types.specs.declared.entries.Entry.{Entry}
use Rattle.plfs_types.specs.declared.entries.Trunc.{Trunc}
use Rattle.plfs_types.specs.declared.names.Path.{Path}
use Rattle.container_layout.specs.declared.items.Item.TheVariants as item
use Rattle.container_layout.specs.Paths.{IsAt}
use Rattle.index_entry.specs.Entries.{AreEntriesOf, logged}
use Rattle.index_entry.specs.Records.{records_in}
use Rattle.index_entry.specs.Spelling.{entry_in, spelling_all}
use Rattle.index_entry.proofs.Facts.{entries_format, length-records_in, length-spelling_all, records_back}
use Rattle.store_api.specs.declared.tree.Room.{Room}
use Rattle.store_api.specs.declared.tree.Tree.{Tree}
use Rattle.store_api.specs.Acts.{Stored}
use Rattle.store_laws.specs.Files.{file_at, kept_at}
use Rattle.mount_model.specs.Paths.{Name, index_path, log_path, open_path}
use Rattle.mount_sound.specs.Dropping.{bytes_of, log_bytes, AreBeside, IsKeptWhole, IsToldOf}
use Rattle.mount_sound.specs.Items.{HasItem, HasMeta}
use Rattle.mount_sound.specs.There.{entries_there, landed_entries, landed_in}
use Rattle.tree_laws.specs.Checked.{whole_entries}
use Rattle.shape_check.specs.declared.files.Place.{Place}
use Rattle.shape_check.specs.declared.finding.Complaint.TheVariants.{Unaccounted}
use Rattle.shape_check.specs.declared.finding.Finding.{Finding}
use Rattle.shape_check.specs.declared.finding.Finding.TheVariants.{Broken, Fault}
use Rattle.shape_check.specs.Files.{IsPlaced, OfPlace}
use Rattle.shape_check.specs.Rightness.{Fails, IsRight}
use Rattle.shape_check.specs.Seeing.{IsSeen}
use Rattle.shape_check.proofs.Facts.{kept_whole}
use Rattle.tree_check.specs.declared.droppings.Dropping.{Dropping}
use Rattle.tree_check.specs.declared.droppings.Left.{Left}
use Rattle.tree_check.specs.Droppings.{IsReadAs, IsDroppingOf, landed_of, AreBesideAll, IsBetween, IsLeftRight, IsLeftWrong}
use Rattle.tree_check.specs.Entries.{ends_within}
use Rattle.tree_check.specs.Known.{IsFineDropping, IsLeftWriter, IsAtWork, OfWork, IsOpenAt, IsOpenEntry}
use Rattle.tree_check.specs.Truncates.{AreTruncsOf}
use Rattle.tree_check.proofs.DroppingLemmas.{landed_is}

-- ---- what is kept

-- all bytes of a file are kept
pub all_kept_there : (stored : Stored) (tree : Tree) (n : ℕ) (room : Room) (path : Path) (found : Option (List ℕ)) → IsSeen stored tree → slice_get tree.rooms n ≡ Some room → file_at room path ≡ found → length (bytes_of found) ≤ kept_at room path
all_kept_there stored tree n room path None seen there e = omega arith
all_kept_there stored tree n room path (Some bytes) seen there e = omega (arith, kept_whole stored tree n room path bytes seen there e)

ends_so : (a b : ℕ) → nat_le a b ≡ true → a ≤ b
ends_so a b e = grind (arith, nat_tests)

-- the bytes of entries that end within a log are in it
ends_logged : (log writer last before : ℕ) (es : List Entry) → AreEntriesOf writer last before es → before ≤ log → before + logged (take (ends_within log es) es) ≤ log
ends_logged log writer last before [] o fits = omega (arith, fits)
ends_logged log writer last before (e ∷ es) o fits =
    elim (nat_le (e.physical + e.len) log) as (λ b. nat_le (e.physical + e.len) log ≡ b → before + logged (take (if b then suc (ends_within log es) else 0) (e ∷ es)) ≤ log) [
      | true ↦ λ t. (
          let within : e.physical + e.len ≤ log = ends_so (e.physical + e.len) log t in
          let rest : before + e.len + logged (take (ends_within log es) es) ≤ log = ends_logged log writer e.stamp (before + e.len) es o.1 (omega (arith, within, o.0.place)) in
          omega (arith, rest))
      | false ↦ λ t. omega (arith, fits)
    ] refl

whole_of : (n landed : ℕ) → 40 * landed ≡ n → landed ≡ n / 40
whole_of n landed e = omega arith

whole_parts : (n landed : ℕ) → 40 * landed ≡ n → n ≤ 40 * (n / 40)
whole_parts n landed e = omega arith

parts_within : (n : ℕ) → 40 * (n / 40) ≤ n
parts_within n = omega arith

-- an index dropping that is as long as its landed entries spells just them
spelled_so : (writer : ℕ) (index : List ℕ) (log : ℕ) (dropping : Dropping) → IsReadAs writer index log dropping → dropping.size ≡ 40 * dropping.landed → index ≡ spelling_all (landed_of dropping)
spelled_so writer index log dropping is exact =
    let k : ℕ = length index / 40 in
    let long : 40 * dropping.landed ≡ length index = sym exact ∙ is.size in
    let back : spelling_all (records_in entry_in 40 k index) ≡ take (40 * k) index = records_back entries_format k index is.are_bytes (parts_within (length index)) in
    let all : take (40 * k) index ≡ index = take_all (40 * k) index (whole_parts (length index) dropping.landed long) in
    let counted : length (whole_entries index) ≡ k = length-records_in entry_in 40 k index in
    let first : landed_of dropping ≡ whole_entries index = ap (λ (es : List Entry). take dropping.landed es) is.are
    ∙ take_all dropping.landed (whole_entries index) (omega (arith, counted, whole_of (length index) dropping.landed long)) in
    sym (ap spelling_all first ∙ back ∙ all)

landed_long : (writer : ℕ) (index : List ℕ) (log : ℕ) (dropping : Dropping) → IsReadAs writer index log dropping → length (landed_of dropping) ≡ dropping.landed
landed_long writer index log dropping is = length-take-le dropping.landed dropping.entries is.within

pub landed_number : (host writer : ℕ) (dropping : Dropping) (tree : Tree) (room : Room) → IsDroppingOf host writer dropping tree room → dropping.landed ≡ landed_in room host writer
landed_number host writer dropping tree room is =
    sym (landed_long writer (bytes_of (file_at room (index_path host writer))) (length (log_bytes room host writer)) dropping is)
    ∙ ap (λ (es : List Entry). length es) (landed_is host writer dropping tree room is)

pub landed_logged : (host writer : ℕ) (dropping : Dropping) (tree : Tree) (room : Room) → IsDroppingOf host writer dropping tree room → logged (landed_of dropping) ≤ length (log_bytes room host writer)
landed_logged host writer dropping tree room is =
    let log : ℕ = length (log_bytes room host writer) in
    let in_log : 0 + logged (take (ends_within log dropping.entries) dropping.entries) ≤ log = ends_logged log writer 0 0 dropping.entries is.fine.in_order (omega arith) in
    let same : logged (landed_of dropping) ≡ logged (take (ends_within log dropping.entries) dropping.entries) = ap (λ (k : ℕ). logged (take k dropping.entries)) is.landed_are in
    omega (arith, same, in_log)

pub kept_so : (stored : Stored) (tree : Tree) (n : ℕ) (room : Room) (host writer : ℕ) (dropping : Dropping) → IsSeen stored tree → slice_get tree.rooms n ≡ Some room → IsDroppingOf host writer dropping tree room → dropping.size ≡ 40 * dropping.landed
    → IsKeptWhole room host writer (landed_entries room host writer)
kept_so stored tree n room host writer dropping seen there is exact =
    let index : List ℕ = bytes_of (file_at room (index_path host writer)) in
    let log : ℕ = length (log_bytes room host writer) in
    let long : length (landed_of dropping) ≡ dropping.landed = landed_long writer index log dropping is in
    let index_there : length index ≤ kept_at room (index_path host writer) = all_kept_there stored tree n room (index_path host writer) (file_at room (index_path host writer)) seen there refl in
    let log_there : log ≤ kept_at room (log_path host writer) = all_kept_there stored tree n room (log_path host writer) (file_at room (log_path host writer)) seen there refl in
    subst (IsKeptWhole room host writer) (landed_is host writer dropping tree room is) (record {
      index = spelled_so writer index log dropping is exact;
      index_kept = omega (arith, long, exact, is.size, index_there);
      log_kept = omega (arith, landed_logged host writer dropping tree room is, log_there);
    })

-- ---- its entries, and the truncates beside them

pub fine_of : (host writer : ℕ) (dropping : Dropping) (truncs : List Trunc) (tree : Tree) (room : Room) → IsDroppingOf host writer dropping tree room → AreTruncsOf truncs room → AreBesideAll truncs (landed_of dropping) → IsFineDropping room host writer
fine_of host writer dropping truncs tree room is are beside = record {
  dropping = record {
    in_order = subst (AreEntriesOf writer 0 0) is.are is.fine.in_order;
    small = subst (λ (es : List Entry). logged es ≤ MAX_LOG) is.are is.fine.small;
  };
  beside = λ stamp size content has. subst (AreBeside stamp) (landed_is host writer dropping tree room is) (beside (record { stamp = stamp; size = size }) (are.all stamp size content has));
}

pub none_landed : (room : Room) (host writer : ℕ) → file_at room (index_path host writer) ≡ None → landed_entries room host writer ≡ []
none_landed room host writer e = ap (λ (found : Option (List ℕ)). entries_there (bytes_of found) (log_bytes room host writer)) e

-- a writer with an entry beside which a truncate is not has an index dropping
index_beside : (room : Room) (host writer stamp : ℕ) (found : Option (List ℕ)) → file_at room (index_path host writer) ≡ found → (AreBeside stamp (landed_entries room host writer) → ⊥) → (bytes : List ℕ) × (file_at room (index_path host writer) ≡ Some bytes)
index_beside room host writer stamp None e wrong = absurd (wrong (subst (AreBeside stamp) (sym (none_landed room host writer e)) (inl tt)))
index_beside room host writer stamp (Some bytes) e wrong = (bytes, e)

as_index : (room : Room) (host writer : ℕ) (bytes : List ℕ) → host < 2 ^ 32 → writer < 2 ^ 64 → file_at room (index_path host writer) ≡ Some bytes → HasItem room (item.Index host writer) bytes
as_index room host writer bytes h w there = record { is_item = record { in_range = tt; widths = (h, w) }; there = there }

between_right : (place : Place) (host writer : ℕ) (dropping : Dropping) (truncs : List Trunc) (tree : Tree) (at : IsPlaced place tree) (finding : Finding) → host < 2 ^ 32 → writer < 2 ^ 64 → IsDroppingOf host writer dropping tree at.room → AreTruncsOf truncs at.room
    → IsBetween place.name host writer (landed_of dropping) truncs finding → IsRight tree finding
between_right place host writer dropping truncs tree at finding h w is are (trunc, one, e, wrong) =
    let file = are.are trunc one in
    let denied : AreBeside trunc.stamp (landed_entries at.room host writer) → ⊥ = λ beside. wrong (subst (AreBeside trunc.stamp) (sym (landed_is host writer dropping tree at.room is)) beside) in
    let index = index_beside at.room host writer trunc.stamp (file_at at.room (index_path host writer)) refl denied in
    subst (IsRight tree) (sym e) (
      place.number,
      at.room,
      at.there,
      at.named,
      (host, writer, index.0, refl, as_index at.room host writer index.0 h w index.1, (trunc.size, file.0, file.1, denied)),
    )

between_no_fault : (room : Name) (host writer : ℕ) (landed : List Entry) (truncs : List Trunc) (finding : Finding) → IsBetween room host writer landed truncs finding → finding ≡ Fault → ⊥
between_no_fault room host writer landed truncs finding (trunc, one, is, wrong) e = cc

-- the container has these truncates wherever P holds
abbrev pub ShowsTruncs : (Tree → Type 0) → Place → List Trunc → Type 0
ShowsTruncs P place truncs = (tree : Tree) → P tree → (at : IsPlaced place tree) × AreTruncsOf truncs at.room

pub between_fails : (P : Tree → Type 0) (place : Place) (host writer : ℕ) (dropping : Dropping) (truncs : List Trunc) (old new : Stored) (result : Result Unit Finding) → host < 2 ^ 32 → writer < 2 ^ 64 → ShowsTruncs P place truncs
    → OfPlace (IsDroppingOf host writer dropping) place old → IfErr result (IsBetween place.name host writer (landed_of dropping) truncs) → IfErr result (Fails P old new)
between_fails P place host writer dropping truncs old new (Ok done) h w shows is wrong = tt
between_fails P place host writer dropping truncs old new (Err finding) h w shows is wrong = record {
  cause = λ e. absurd (between_no_fault place.name host writer (landed_of dropping) truncs finding wrong e);
  right = λ tree seen has. (let s = shows tree has in between_right place host writer dropping truncs tree s.0 finding h w (is tree seen s.0) s.1 wrong);
}

-- ---- a writer that has left

index_unsettled : (room : Room) (host writer log : ℕ) (dropping : Dropping) (found : Option (List ℕ)) → file_at room (index_path host writer) ≡ found → IsReadAs writer (bytes_of found) log dropping → (dropping.size ≡ 40 * dropping.landed → ⊥)
    → (bytes : List ℕ) × (file_at room (index_path host writer) ≡ Some bytes)
index_unsettled room host writer log dropping None e is wrong =
    let none : length dropping.entries ≡ 0 = ap (λ (es : List Entry). length es) is.are in
    let empty : dropping.size ≡ 0 = is.size in
    absurd (wrong (omega (arith, none, empty, is.within)))
index_unsettled room host writer log dropping (Some bytes) e is wrong = (bytes, e)

module _ (place : Place) (truncs : List Trunc) (path : Path) (left : Left) (is_meta : IsAt path (item.Meta left.last left.bytes left.stamp left.host left.writer)) (dropping : Dropping) where
  its_meta : (tree : Tree) (at : IsAtWork place truncs path tree) → HasItem at.placed.room (item.Meta left.last left.bytes left.stamp left.host left.writer) at.bytes
  its_meta tree at = record { is_item = is_meta.is_item; there = ap (file_at at.placed.room) (sym is_meta.printed) ∙ at.there }

  has_meta : (tree : Tree) (at : IsAtWork place truncs path tree) → HasMeta at.placed.room left.host left.writer
  has_meta tree at = record { last = left.last; bytes = left.bytes; stamp = left.stamp; content = at.bytes; has = its_meta tree at }

  wrong_right : (tree : Tree) (at : IsAtWork place truncs path tree) (finding : Finding) → IsDroppingOf left.host left.writer dropping tree at.placed.room → IsLeftWrong place.name path left dropping finding → IsRight tree finding
  wrong_right tree at finding is (inl (e, wrong)) =
      subst (IsRight tree) (sym e) (
        place.number,
        at.placed.room,
        at.placed.there,
        at.placed.named,
        (
          left.last,
          left.bytes,
          left.stamp,
          left.host,
          left.writer,
          at.bytes,
          is_meta.printed,
          its_meta tree at,
          λ told. wrong (subst (IsToldOf left.last left.bytes left.stamp) (sym (landed_is left.host left.writer dropping tree at.placed.room is)) told),
        ),
      )
  wrong_right tree at finding is (inr (e, wrong)) =
      let room : Room = at.placed.room in
      let index = index_unsettled room left.host left.writer (length (log_bytes room left.host left.writer)) dropping (file_at room (index_path left.host left.writer)) refl is wrong in
      subst (IsRight tree) (sym e) (
        place.number,
        room,
        at.placed.there,
        at.placed.named,
        (
          left.host,
          left.writer,
          index.0,
          refl,
          as_index room left.host left.writer index.0 is_meta.is_item.widths.0 is_meta.is_item.widths.1 index.1,
          (
            has_meta tree at,
            λ kept. wrong (
                let long : length (bytes_of (file_at room (index_path left.host left.writer))) ≡ 40 * landed_in room left.host left.writer =
                ap (λ (l : List ℕ). length l) kept.index ∙ length-spelling_all (landed_entries room left.host left.writer) in
                omega (arith, long, is.size, landed_number left.host left.writer dropping tree room is)),
          ),
        ),
      )

  wrong_no_fault : (finding : Finding) → IsLeftWrong place.name path left dropping finding → finding ≡ Fault → ⊥
  wrong_no_fault finding (inl (is, wrong)) e = cc
  wrong_no_fault finding (inr (is, wrong)) e = cc

  pub wrong_fails : (old new : Stored) (result : Result Unit Finding) → OfPlace (IsDroppingOf left.host left.writer dropping) place old → IfErr result (IsLeftWrong place.name path left dropping) → IfErr result (Fails (IsAtWork place truncs path) old new)
  wrong_fails old new (Ok done) is wrong = tt
  wrong_fails old new (Err finding) is wrong = record {
    cause = λ e. absurd (wrong_no_fault finding wrong e);
    right = λ tree seen at. wrong_right tree at finding (is tree seen at.placed) wrong;
  }

  pub left_beside_fails : (old new : Stored) (result : Result Unit Finding) → OfPlace (IsDroppingOf left.host left.writer dropping) place old → IfErr result (IsBetween place.name left.host left.writer (landed_of dropping) truncs)
      → IfErr result (Fails (IsAtWork place truncs path) old new)
  left_beside_fails old new result is wrong =
      between_fails (IsAtWork place truncs path) place left.host left.writer dropping truncs old new result is_meta.is_item.widths.0 is_meta.is_item.widths.1 (λ tree at. (at.placed, at.truncs_are)) is wrong

  pub left_so : (old : Stored) (result : Result Unit Finding) → OfPlace (IsDroppingOf left.host left.writer dropping) place old → IsLeftRight left dropping → OnOk result (AreBesideAll truncs (landed_of dropping))
      → OnOk result (OfWork (λ tree room. IsLeftWriter room left.last left.bytes left.stamp left.host left.writer) place truncs path old)
  left_so old (Err finding) is right beside = tt
  left_so old (Ok done) is right beside = λ tree seen at. (
      let d : IsDroppingOf left.host left.writer dropping tree at.placed.room = is tree seen at.placed in
      record {
        fine = fine_of left.host left.writer dropping truncs tree at.placed.room d at.truncs_are beside;
        told = subst (IsToldOf left.last left.bytes left.stamp) (landed_is left.host left.writer dropping tree at.placed.room d) right.told;
        settled = kept_so old tree place.number at.placed.room left.host left.writer dropping seen at.placed.there d right.exact;
      })

  pub read_fails : (old new : Stored) (finding : Finding) → Fails (IsPlaced place) old new finding → Fails (IsAtWork place truncs path) old new finding
  read_fails old new finding f = record { cause = f.cause; right = λ tree seen at. f.right tree seen at.placed }

-- ---- a writer that has the container open

pub accounted_none : (place : Place) (host writer landed : ℕ) (old : Stored) → landed ≡ 0 → OfPlace (IsOpenEntry host writer landed) place old
accounted_none place host writer landed old none = λ tree seen at gone some. omega (arith, none, some)

pub accounted_there : (place : Place) (host writer landed : ℕ) (old : Stored) (has : Bool) → OfPlace (λ tree room. is_some (file_at room (open_path host writer)) ≡ has) place old → has ≡ true → OfPlace (IsOpenEntry host writer landed) place old
accounted_there place host writer landed old has shows e = λ tree seen at gone some. false≢true (ap is_some (sym gone) ∙ shows tree seen at ∙ e)

nothing_there : (found : Option (List ℕ)) → is_some found ≡ false → found ≡ None
nothing_there None e = refl
nothing_there (Some bytes) e = absurd (false≢true (sym e))

positive : (n : ℕ) → (n ≡ 0 → ⊥) → 1 ≤ n
positive zero wrong = absurd (wrong refl)
positive (suc n) wrong = omega arith

pub unaccounted : (place : Place) (host writer landed : ℕ) (old new : Stored) (has : Bool) → (landed ≡ 0 → ⊥) → OfPlace (λ tree room. is_some (file_at room (open_path host writer)) ≡ has) place old → has ≡ false
    → Fails (IsOpenAt place host writer landed) old new (Broken (Unaccounted place.name (index_path host writer)))
unaccounted place host writer landed old new has some shows e = record {
  cause = λ e. absurd (cc);
  right = λ tree seen at. (
    place.number,
    at.placed.room,
    at.placed.there,
    at.placed.named,
    (
      host,
      writer,
      at.bytes,
      refl,
      at.has,
      (nothing_there (file_at at.placed.room (open_path host writer)) (shows tree seen at.placed ∙ e), omega (arith, at.landed_are, positive landed some), at.stays),
    ),
  );
}

pub open_fails : (place : Place) (host writer landed : ℕ) (old new : Stored) (finding : Finding) → Fails (IsPlaced place) old new finding → Fails (IsOpenAt place host writer landed) old new finding
open_fails place host writer landed old new finding f = record { cause = f.cause; right = λ tree seen at. f.right tree seen at.placed }
