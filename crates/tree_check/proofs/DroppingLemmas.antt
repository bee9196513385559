-- What is shown of an index dropping that was read.
use Rattle.std.proofs.Common.{◌≡◌, ℕ, zero, suc, ◌+◌, ◌-◌, ◌*◌, ◌/◌, ◌%◌, ◌≤◌, ◌<◌, ◌^◌, ◌⊎◌, inl, inr, Bool, true, false, List, [], ◌∷◌, length, take, get_or, Option, Some, None, Result, Ok, Err, refl, ap, sym, ◌∙◌, subst, arith}
use Rattle.std.specs.Prelude.{slice_get, ◌↔◌, IsTrue, IfErr, IfOk, OnOk}
use Rattle.std.proofs.lemmas.Bool.{cases_lt}
use Rattle.std.proofs.lemmas.List.{take_all}
use Rattle.std.proofs.lemmas.Option.{slice_get-get_or}
use Rattle.plfs_types.specs.declared.limits.TheConstants.{MAX_LOG}
use Rattle.plfs_types.specs.declared.entries.Entry.{Entry}
use Rattle.plfs_types.specs.declared.entries.Trunc.{Trunc}
use Rattle.plfs_types.specs.declared.names.Path.{Path}
use Rattle.index_entry.specs.Entries.{AreEntriesOf, logged, last_stamp}
use Rattle.index_entry.specs.Spelling.{entry_in}
use Rattle.index_entry.proofs.Facts.{length-records_in}
use Rattle.plain_file.proofs.Facts.{shorter_last}
use Rattle.store_api.specs.declared.tree.Room.{Room}
use Rattle.store_api.specs.declared.tree.Tree.{Tree}
use Rattle.store_api.specs.Acts.{Stored}
use Rattle.store_laws.specs.Files.{file_at}
use Rattle.mount_model.specs.Paths.{Name, index_path, log_path}
use Rattle.mount_sound.specs.Dropping.{bytes_of, log_bytes, AreBeside, IsToldOf}
use Rattle.mount_sound.specs.Entries.{greatest_end}
use Rattle.mount_sound.specs.There.{landed_entries}
use Rattle.tree_laws.specs.Checked.{whole_entries}
use Rattle.shape_check.specs.declared.files.Place.{Place}
use Rattle.shape_check.specs.declared.finding.Complaint.TheVariants.{Entry as misplaced, LongLog, Between, Untrue, Unsettled}
use Rattle.shape_check.specs.declared.finding.Finding.{Finding}
use Rattle.shape_check.specs.declared.finding.Finding.TheVariants.{Broken, Fault}
use Rattle.shape_check.specs.Files.{IsPlaced, OfPlace}
use Rattle.shape_check.specs.Rightness.{Fails, IsRight}
use Rattle.shape_check.specs.Seeing.{IsSeen, IsLookedAt}
use Rattle.shape_check.proofs.Facts.{seen_on}
use Rattle.tree_check.specs.declared.droppings.Dropping.{Dropping}
use Rattle.tree_check.specs.declared.droppings.Left.{Left}
use Rattle.tree_check.specs.declared.droppings.Read.{Read}
use Rattle.tree_check.specs.Droppings.{IsMadeOf, IsReadAs, IsOrderly, IsDroppingOf, IsKept, WasKept, landed_of, IsTruncOf, AreBesideAll, IsBetween, AreOutside, IsFromTo, IsInside, IsLeftRight, IsLeftWrong}
use Rattle.tree_check.specs.Entries.{AreEntriesIn, AreInOrder, ends_within, IsMisfit}
use Rattle.tree_check.specs.Whole.{HasLength}
use Rattle.tree_check.proofs.Failing.{denied}
use Rattle.tree_check.proofs.EntryLemmas.{within_is, order_front, outside_beside, inside_between, none_there}

-- ---- reading

-- the entries are those of the file there, which has this length
abbrev pub ShowsEntries : Place → Path → ℕ → List Entry → Stored → Type 0
ShowsEntries place path size entries stored = OfPlace (λ tree room. (length (bytes_of (file_at room path)) ≡ size) × AreEntriesIn (bytes_of (file_at room path)) entries) place stored

-- the file there has this length
abbrev pub ShowsSize : Place → Path → ℕ → Stored → Type 0
ShowsSize place path size stored = OfPlace (λ tree room. length (bytes_of (file_at room path)) ≡ size) place stored

-- the entries are those of a file that has this length
abbrev pub TellsEntries : Place → Path → ℕ → List Entry → Stored → Type 0
TellsEntries place path size entries stored = (tree : Tree) → IsSeen stored tree → (has : HasLength place path size tree) → AreEntriesIn (bytes_of (file_at has.placed.room path)) entries

pub its_length : (place : Place) (path : Path) (size : ℕ) (stored : Stored) → ShowsSize place path size stored → (tree : Tree) → IsSeen stored tree → IsPlaced place tree → HasLength place path size tree
its_length place path size stored long tree seen at = record { placed = at; long = long tree seen at }

pub shows_entries : (place : Place) (path : Path) (size : ℕ) (entries : List Entry) (old mid : Stored) → IsLookedAt old mid → ShowsSize place path size old → TellsEntries place path size entries mid → ShowsEntries place path size entries old
unfolding its_length
shows_entries place path size entries old mid looked long tells = λ tree seen at. (long tree seen at, tells tree (seen_on old mid tree looked seen) (its_length place path size old long tree seen at))

-- those that have landed of a dropping that was read
pub landed_is : (host writer : ℕ) (dropping : Dropping) (tree : Tree) (room : Room) → IsDroppingOf host writer dropping tree room → landed_of dropping ≡ landed_entries room host writer
landed_is host writer dropping tree room is =
    let index : List ℕ = bytes_of (file_at room (index_path host writer)) in
    let log : ℕ = length (log_bytes room host writer) in
    ap (λ (n : ℕ). take n dropping.entries) is.landed_are ∙ ap (λ (l : List Entry). take (ends_within log l) l) is.are ∙ sym (within_is log (length index / 40) index)

pub landed_ordered : (writer : ℕ) (bytes : List ℕ) (log : ℕ) (dropping : Dropping) → IsReadAs writer bytes log dropping → AreInOrder writer (landed_of dropping)
landed_ordered writer bytes log dropping is = order_front writer dropping.landed dropping.entries is.fine

-- ---- troubles of reading

index_there : (room : Room) (host writer : ℕ) (found : Option (List ℕ)) → file_at room (index_path host writer) ≡ found → (1 ≤ length (whole_entries (bytes_of found))) → (bytes : List ℕ) × (file_at room (index_path host writer) ≡ Some bytes) × (bytes_of found ≡ bytes)
index_there room host writer None e some = absurd (omega arith)
index_there room host writer (Some bytes) e some = (bytes, e, refl)

some_logged : (es : List Entry) → MAX_LOG < logged es → 1 ≤ length es
some_logged [] past = absurd (omega arith)
some_logged (e ∷ es) past = omega arith

misfit_right : (place : Place) (host writer : ℕ) (tree : Tree) (at : IsPlaced place tree) (finding : Finding) → host < 2 ^ 32 → writer < 2 ^ 64
    → IsMisfit place.name (index_path host writer) writer (whole_entries (bytes_of (file_at at.room (index_path host writer)))) finding → IsRight tree finding
misfit_right place host writer tree at finding h w (inl (k, is, less, before, wrong)) =
    let there = index_there at.room host writer (file_at at.room (index_path host writer)) refl (omega (arith, less)) in
    let es : List Entry = whole_entries there.0 in
    let same : whole_entries (bytes_of (file_at at.room (index_path host writer))) ≡ es = ap whole_entries there.2 in
    let long : length (whole_entries (bytes_of (file_at at.room (index_path host writer)))) ≡ length there.0 / 40 = ap (λ (l : List Entry). length l) same ∙ length-records_in entry_in 40 (length there.0 / 40) there.0 in
    subst (IsRight tree) (sym is) (
      place.number,
      at.room,
      at.there,
      at.named,
      (
        host,
        writer,
        there.0,
        refl,
        record { is_item = record { in_range = tt; widths = (h, w) }; there = there.1 },
        (k, refl, omega (arith, less, long), subst (λ (l : List Entry). AreEntriesOf writer 0 0 (take k l)) same before, subst (λ (l : List Entry). AreEntriesOf writer 0 0 (take (k + 1) l) → ⊥) same wrong),
      ),
    )
misfit_right place host writer tree at finding h w (inr (is, past)) =
    let there = index_there at.room host writer (file_at at.room (index_path host writer)) refl (some_logged (whole_entries (bytes_of (file_at at.room (index_path host writer)))) past) in
    let same : whole_entries (bytes_of (file_at at.room (index_path host writer))) ≡ whole_entries there.0 = ap whole_entries there.2 in
    subst (IsRight tree) (sym is) (place.number, at.room, at.there, at.named, (host, writer, there.0, refl, record { is_item = record { in_range = tt; widths = (h, w) }; there = there.1 }, subst (λ (l : List Entry). MAX_LOG < logged l) same past))

misfit_no_fault : (room : Name) (path : Path) (writer : ℕ) (es : List Entry) (finding : Finding) → IsMisfit room path writer es finding → finding ≡ Fault → ⊥
misfit_no_fault room path writer es finding (inl m) e = let is : finding ≡ Broken (misplaced room path (40 * m.0)) = m.1 in cc
misfit_no_fault room path writer es finding (inr m) e = let is : finding ≡ Broken (LongLog room path) = m.0 in cc

misfit_fails : (place : Place) (host writer : ℕ) (old new : Stored) (size : ℕ) (entries : List Entry) (finding : Finding) → host < 2 ^ 32 → writer < 2 ^ 64 → ShowsEntries place (index_path host writer) size entries old
    → IsMisfit place.name (index_path host writer) writer entries finding → Fails (IsPlaced place) old new finding
misfit_fails place host writer old new size entries finding h w shows misfit = record {
  cause = λ e. absurd (misfit_no_fault place.name (index_path host writer) writer entries finding misfit e);
  right = λ tree seen at. misfit_right place host writer tree at finding h w (subst (λ (es : List Entry). IsMisfit place.name (index_path host writer) writer es finding) (shows tree seen at).1.1 misfit);
}

pub reading_fails : (place : Place) (host writer : ℕ) (old new : Stored) (size : ℕ) (entries : List Entry) (result : Result Dropping Finding) → host < 2 ^ 32 → writer < 2 ^ 64 → ShowsEntries place (index_path host writer) size entries old
    → IfErr result (IsMisfit place.name (index_path host writer) writer entries) → IfErr result (Fails (IsPlaced place) old new)
reading_fails place host writer old new size entries (Ok dropping) h w shows misfit = tt
reading_fails place host writer old new size entries (Err finding) h w shows misfit = misfit_fails place host writer old new size entries finding h w shows misfit

pub reading_is : (place : Place) (host writer : ℕ) (old mid : Stored) (size : ℕ) (entries : List Entry) (log : ℕ) (result : Result Dropping Finding) → IsLookedAt old mid → ShowsEntries place (index_path host writer) size entries old
    → ShowsSize place (log_path host writer) log mid → IfOk result (IsMadeOf writer size entries log) → IfOk result (λ dropping. OfPlace (IsDroppingOf host writer dropping) place old)
reading_is place host writer old mid size entries log (Err finding) looked shows long is = tt
reading_is place host writer old mid size entries log (Ok dropping) looked shows long is = λ tree seen at. record {
  size = is.size_is ∙ sym (shows tree seen at).0;
  are_bytes = (shows tree seen at).1.0;
  are = is.are ∙ (shows tree seen at).1.1;
  fine = is.fine;
  landed_are = is.landed_are ∙ ap (λ (n : ℕ). ends_within n dropping.entries) (sym (long tree (seen_on old mid tree looked seen) at));
  within = is.within;
}

pub reading_orderly : (writer size : ℕ) (entries : List Entry) (log : ℕ) (result : Result Dropping Finding) → IfOk result (IsMadeOf writer size entries log) → IfOk result (IsOrderly writer)
reading_orderly writer size entries log (Err finding) is = tt
reading_orderly writer size entries log (Ok dropping) is = record { fine = is.fine; within = is.within }

-- those that have landed of a dropping are in order
pub orderly_landed : (writer : ℕ) (dropping : Dropping) → IsOrderly writer dropping → AreInOrder writer (landed_of dropping)
orderly_landed writer dropping is = order_front writer dropping.landed dropping.entries is.fine

-- ---- the one that is kept

seen_back : (old new : Stored) (tree : Tree) → IsLookedAt old new → IsSeen new tree → IsSeen old tree
seen_back old new tree looked seen = record { told = seen.told; tells = sym looked.same ∙ seen.tells; kept = seen.kept }

pub kept_on : (place : Place) (kept : Option Read) (old new : Stored) → IsLookedAt old new → IsKept place kept old → IsKept place kept new
kept_on place None old new looked is = tt
kept_on place (Some read) old new looked (orderly, of) = (orderly, λ tree seen at. of tree (seen_back old new tree looked seen) at)

pub kept_none : (place : Place) (kept : Option Read) (stored : Stored) → kept ≡ None → IsKept place kept stored
kept_none place kept stored none = subst (λ (k : Option Read). IsKept place k stored) (sym none) tt

-- what was read is so as long as the store is looked at alone
pub kept_now : (place : Place) (host writer : ℕ) (dropping : Dropping) (old new : Stored) → IsLookedAt old new → IsOrderly writer dropping → OfPlace (IsDroppingOf host writer dropping) place old
    → IsKept place (Some (record { host = host; writer = writer; dropping = dropping })) new
kept_now place host writer dropping old new looked orderly of = kept_on place (Some (record { host = host; writer = writer; dropping = dropping })) old new looked (orderly, of)

pub read_as : (read : Read) (host writer : ℕ) → read.host ≡ host → read.writer ≡ writer → read ≡ record { host = host; writer = writer; dropping = read.dropping }
read_as read host writer h w = ap (λ (x : ℕ). record { host = x; writer = read.writer; dropping = read.dropping }) h ∙ ap (λ (x : ℕ). record { host = host; writer = x; dropping = read.dropping }) w

pub was_kept : (place : Place) (kept : Option Read) (host writer : ℕ) (dropping : Dropping) (stored : Stored) → WasKept host writer kept dropping → IsKept place kept stored → IsOrderly writer dropping × OfPlace (IsDroppingOf host writer dropping) place stored
was_kept place kept host writer dropping stored was is = subst (λ (k : Option Read). IsKept place k stored) was is

-- ---- truncates

pub one_more_trunc : (truncs : List Trunc) (i : ℕ) (trunc other : Trunc) → slice_get truncs i ≡ Some trunc → IsTruncOf (take (suc i) truncs) other → IsTruncOf (take i truncs) other ⊎ (trunc ≡ other)
one_more_trunc [] i trunc other at one = absurd one
one_more_trunc (x ∷ xs) zero trunc other at (inl same) = let first : x ≡ trunc = cc in inr (sym first ∙ same)
one_more_trunc (x ∷ xs) zero trunc other at (inr later) = absurd later
one_more_trunc (x ∷ xs) (suc i) trunc other at (inl same) = inl (inl same)
one_more_trunc (x ∷ xs) (suc i) trunc other at (inr later) = elim (one_more_trunc xs i trunc other at later) [
  | inl before ↦ inl (inr before)
  | inr here ↦ inr here
]

pub trunc_there : (truncs : List Trunc) (i : ℕ) (trunc : Trunc) → slice_get truncs i ≡ Some trunc → IsTruncOf truncs trunc
trunc_there [] i trunc at = absurd (cc)
trunc_there (x ∷ xs) zero trunc at = let same : x ≡ trunc = cc in inl same
trunc_there (x ∷ xs) (suc i) trunc at = inr (trunc_there xs i trunc at)

pub outside_none : (first last : ℕ) (truncs : List Trunc) → AreOutside first last (take 0 truncs)
outside_none first last truncs = λ trunc one. absurd one

pub outside_more : (first last : ℕ) (truncs : List Trunc) (i : ℕ) (trunc : Trunc) → slice_get truncs i ≡ Some trunc → AreOutside first last (take i truncs) → (last < trunc.stamp) ⊎ (trunc.stamp < first) → AreOutside first last (take (i + 1) truncs)
outside_more first last truncs i trunc at before this = λ other one. (
    let next : i + 1 ≡ suc i = omega arith in
    elim (one_more_trunc truncs i trunc other at (subst (λ (n : ℕ). IsTruncOf (take n truncs) other) next one)) [
      | inl earlier ↦ before other earlier
      | inr same ↦ subst (λ (t : Trunc). (last < t.stamp) ⊎ (t.stamp < first)) same this
    ])

pub outside_all : (first last : ℕ) (truncs : List Trunc) (i : ℕ) → length truncs ≤ i → AreOutside first last (take i truncs) → AreOutside first last truncs
outside_all first last truncs i past all = subst (AreOutside first last) (take_all i truncs past) all

-- whether the one at hand is
pub inside_found : (room : Name) (host writer first last : ℕ) (truncs : List Trunc) (i : ℕ) (trunc : Trunc) (is : Bool) → slice_get truncs i ≡ Some trunc → is ≡ true → IsTrue is ↔ IsFromTo first last trunc
    → IsInside room host writer first last truncs (Broken (Between room (index_path host writer) trunc.stamp))
inside_found room host writer first last truncs i trunc is at e tells = (let within = tells.0 e in (trunc, trunc_there truncs i trunc at, refl, within.0, within.1))

not_inside : (first last : ℕ) (trunc : Trunc) (is : Bool) → is ≡ false → IsTrue is ↔ IsFromTo first last trunc → (last < trunc.stamp) ⊎ (trunc.stamp < first)
not_inside first last trunc is e tells = elim (cases_lt last trunc.stamp) [
  | inl past ↦ inl past
  | inr within ↦ elim (cases_lt trunc.stamp first) [
    | inl before ↦ inr before
    | inr from ↦ absurd (denied is e (tells.1 (from, within)))
  ]
]

pub outside_next : (first last : ℕ) (truncs : List Trunc) (i : ℕ) (trunc : Trunc) (is : Bool) → slice_get truncs i ≡ Some trunc → is ≡ false → IsTrue is ↔ IsFromTo first last trunc → AreOutside first last (take i truncs) → AreOutside first last (take (i + 1) truncs)
outside_next first last truncs i trunc is at e tells before = outside_more first last truncs i trunc at before (not_inside first last trunc is e tells)

pub beside_all : (writer : ℕ) (landed : List Entry) (first : Entry) (last : ℕ) (truncs : List Trunc) (result : Result Unit Finding) → slice_get landed 0 ≡ Some first → AreInOrder writer landed → last ≡ last_stamp 0 landed
    → OnOk result (AreOutside first.stamp last truncs) → OnOk result (AreBesideAll truncs landed)
beside_all writer landed first last truncs (Err finding) at o e out = tt
beside_all writer landed first last truncs (Ok done) at o e out = λ trunc one. outside_beside writer trunc.stamp landed first at o (subst (λ (n : ℕ). (n < trunc.stamp) ⊎ (trunc.stamp < first.stamp)) e (out trunc one))

pub between_one : (room : Name) (host writer : ℕ) (landed : List Entry) (first : Entry) (last : ℕ) (truncs : List Trunc) (result : Result Unit Finding) → slice_get landed 0 ≡ Some first → last ≡ last_stamp 0 landed
    → IfErr result (IsInside room host writer first.stamp last truncs) → IfErr result (IsBetween room host writer landed truncs)
between_one room host writer landed first last truncs (Ok done) at e wrong = tt
between_one room host writer landed first last truncs (Err finding) at e wrong = (wrong.0, wrong.1, wrong.2, inside_between wrong.0.stamp landed first at wrong.3 (subst (λ (n : ℕ). wrong.0.stamp ≤ n) e wrong.4))

-- the stamp of the last one
pub last_is : (last : ℕ) (entries : List Entry) (entry : Entry) → slice_get entries (length entries - 1) ≡ Some entry → entry.stamp ≡ last_stamp last entries
last_is last [] entry at = absurd (cc)
last_is last (e ∷ []) entry at = let same : e ≡ entry = cc in ap (λ (x : Entry). x.stamp) (sym same)
last_is last (e ∷ d ∷ entries) entry at = last_is e.stamp (d ∷ entries) entry (shorter_last e d entries entry at)

pub beside_nothing : (truncs : List Trunc) (landed : List Entry) → slice_get landed 0 ≡ None → AreBesideAll truncs landed
beside_nothing truncs landed none = λ trunc one. subst (AreBeside trunc.stamp) (sym (none_there landed none)) (inl tt)

-- ---- a metadata dropping

pub untrue : (left : Left) (landed : List Entry) (end bytes stamp : ℕ) → end ≡ greatest_end landed → bytes ≡ logged landed → stamp ≡ last_stamp 0 landed
    → (left.last ≡ end → left.bytes ≡ bytes → left.stamp ≡ stamp → ⊥) → IsToldOf left.last left.bytes left.stamp landed → ⊥
untrue left landed end bytes stamp e b s wrong told = wrong (told.end ∙ sym e) (told.sum ∙ sym b) (told.latest ∙ sym s)

exact_so : (size landed : ℕ) → size % 40 ≡ 0 → size / 40 ≡ landed → size ≡ 40 * landed
exact_so size landed r q = omega arith

pub left_right : (left : Left) (dropping : Dropping) (end bytes stamp : ℕ) → end ≡ greatest_end (landed_of dropping) → bytes ≡ logged (landed_of dropping) → stamp ≡ last_stamp 0 (landed_of dropping)
    → left.last ≡ end → left.bytes ≡ bytes → left.stamp ≡ stamp → dropping.size % 40 ≡ 0 → dropping.size / 40 ≡ dropping.landed → IsLeftRight left dropping
left_right left dropping end bytes stamp e b s le lb ls r q = record {
  told = record { end = le ∙ e; sum = lb ∙ b; latest = ls ∙ s };
  exact = exact_so dropping.size dropping.landed r q;
}

pub left_untrue : (room : Name) (path : Path) (left : Left) (dropping : Dropping) (end bytes stamp : ℕ) → end ≡ greatest_end (landed_of dropping) → bytes ≡ logged (landed_of dropping) → stamp ≡ last_stamp 0 (landed_of dropping)
    → (left.last ≡ end → left.bytes ≡ bytes → left.stamp ≡ stamp → ⊥) → IsLeftWrong room path left dropping (Broken (Untrue room path))
left_untrue room path left dropping end bytes stamp e b s wrong = inl (refl, untrue left (landed_of dropping) end bytes stamp e b s wrong)

inexact : (size landed : ℕ) → (size % 40 ≡ 0 → size / 40 ≡ landed → ⊥) → size ≡ 40 * landed → ⊥
inexact size landed wrong e = wrong (omega (arith, e)) (omega (arith, e))

pub left_unsettled : (room : Name) (path : Path) (left : Left) (dropping : Dropping) → (dropping.size % 40 ≡ 0 → dropping.size / 40 ≡ dropping.landed → ⊥) → IsLeftWrong room path left dropping (Broken (Unsettled room (index_path left.host left.writer)))
left_unsettled room path left dropping wrong = inr (refl, inexact dropping.size dropping.landed wrong)

-- ---- the truncate at hand

-- what stands behind the last one
abbrev pub no_trunc : Trunc
no_trunc = record { stamp = 0; size = 0 }

abbrev pub trunc_at : List Trunc → ℕ → Trunc
trunc_at truncs i = get_or truncs i no_trunc

pub trunc_at_hand : (truncs : List Trunc) (i : ℕ) → i < length truncs → slice_get truncs i ≡ Some (trunc_at truncs i)
trunc_at_hand truncs i less = slice_get-get_or truncs i no_trunc less
