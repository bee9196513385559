-- The truncates of later moments are those that a reader listed, and behind them such as are above all of its cut.
use Rattle.std.proofs.Common.{◌≡◌, ℕ, ◌<◌, List, [], ◌∷◌, ◌++◌, take, Option, Some, None, refl, ap, sym, ◌∙◌, ◌⊎◌, inl, inr, subst, arith}
use Rattle.std.specs.List.{All, AllByRecursion}
use Rattle.std.proofs.lemmas.List.Elements.{All-from_recursion}
use Rattle.plfs_types.specs.declared.entries.Entry.{Entry}
use Rattle.plfs_types.specs.declared.entries.Trunc.{Trunc}
use Rattle.plain_file.proofs.Facts.{Among, All-Among, cases_Option}
use Rattle.mount_model.specs.Paths.{trunc_path}
use Rattle.mount_model.specs.History.{Event}
use Rattle.mount_sound.specs.Owed.{IsLawful}
use Rattle.mount_sound.specs.Ledger.{entries_in}
use Rattle.mount_sound.proofs.Facts.{take_less}
use Rattle.reader_laws.specs.Moments.{Moment, IsSoundAt, moment_after, file_then, Dropping, HadTrunc, issued_by, landed_by, landed}
use Rattle.reader_laws.specs.Gathering.{Gathered, IsAdmissible}
use Rattle.reader_laws.specs.GatheringListing.{StampsRise, AreTruncsAt}
use Rattle.reader_laws.specs.View.{IsAboveCut, writes_in, own_entries, WritersRise}
use Rattle.reader_laws.specs.GatheringOpening.{HasView}
use Rattle.reader_laws.proofs.Gathered.Containers.Members.{all_at, among}
use Rattle.reader_laws.proofs.Gathered.OpenReaders.Viewing.{All-append, All-take, entries_split}
use Rattle.reader_laws.proofs.Gathered.Logs.Fronts.{landed_is_first}
use Rattle.reader_laws.proofs.Gathered.Moments.Stepping.{IsAboveThen}
use Rattle.reader_laws.proofs.Gathered.Moments.Bounds.{trunc_stays, truncs_above}

-- ---------- lists whose stamps rise

-- the stamp is above those of these truncates
abbrev IsAboveTruncs : List Trunc → Trunc → Type 0
IsAboveTruncs ts t = (u : Trunc) → Among u ts → u.stamp < t.stamp

-- the one list, and then truncates of which this holds
abbrev GoesOn : (Trunc → Type 0) → List Trunc → List Trunc → Type 0
GoesOn P ts later = (more : List Trunc) × (later ≡ ts ++ more) × AllByRecursion P more

all_of : (P : Trunc → Type 0) (ts : List Trunc) → ((t : Trunc) → Among t ts → P t) → AllByRecursion P ts
all_of P [] each = tt
all_of P (t ∷ ts) each = (each t (inl refl), all_of P ts (λ u a. each u (inr a)))

rising : (t u : Trunc) (ts : List Trunc) → StampsRise (t ∷ ts) → Among u ts → t.stamp < u.stamp
rising t u ts rise a = All-Among (λ (later : Trunc). t.stamp < later.stamp) ts u rise.0 a

-- the first of a list that has all of another, and else only what is above those, is the first of the other
first_is : (t u : Trunc) (ts later : List Trunc) → StampsRise (t ∷ ts) → StampsRise (u ∷ later) → Among t (u ∷ later) → Among u (t ∷ ts) ⊎ IsAboveTruncs (t ∷ ts) u → t ≡ u
first_is t u ts later rise rises (inl same) either = same
first_is t u ts later rise rises (inr a) either =
    let after : u.stamp < t.stamp = rising u t later rises a in
    elim either as (λ _. t ≡ u) [
      | inl (inl same) ↦ sym same
      | inl (inr b) ↦ absurd (omega (arith, after, rising t u ts rise b))
      | inr above ↦ absurd (omega (arith, after, above t (inl refl)))
    ]

begins : (P : Trunc → Type 0) (ts later : List Trunc) → StampsRise ts → StampsRise later → ((t : Trunc) → Among t ts → Among t later) → ((t : Trunc) → Among t later → Among t ts ⊎ (IsAboveTruncs ts t × P t)) → GoesOn P ts later
begins P [] later rise rises has either = (later, refl, all_of P later (λ t a. elim (either t a) as (λ _. P t) [ inl none ↦ absurd none | inr above ↦ above.1 ]))
begins P (t ∷ ts) [] rise rises has either = absurd (has t (inl refl))
begins P (t ∷ ts) (u ∷ later) rise rises has either =
    let same : t ≡ u = first_is t u ts later rise rises (has t (inl refl)) (elim (either u (inl refl)) as (λ _. Among u (t ∷ ts) ⊎ IsAboveTruncs (t ∷ ts) u) [ inl a ↦ inl a | inr above ↦ inr above.0 ]) in
    let rest = begins P ts later rise.1 rises.1 (λ x a. still x a (has x (inr a)) same) (λ x a. new x a (either x (inr a)) same) in
    (rest.0, ap (λ l. u ∷ l) rest.1 ∙ ap (λ (x : Trunc). x ∷ (ts ++ rest.0)) (sym same), rest.2)
  where
    still : (x : Trunc) → Among x ts → Among x (u ∷ later) → t ≡ u → Among x later
    still x a (inl is) same = absurd (omega (arith, rising t x ts rise a, ap (λ (y : Trunc). y.stamp) is, ap (λ (y : Trunc). y.stamp) same))
    still x a (inr b) same = b

    new : (x : Trunc) → Among x later → Among x (t ∷ ts) ⊎ (IsAboveTruncs (t ∷ ts) x × P x) → t ≡ u → Among x ts ⊎ (IsAboveTruncs ts x × P x)
    new x a (inl (inl is)) same = absurd (omega (arith, rising u x later rises a, ap (λ (y : Trunc). y.stamp) is, ap (λ (y : Trunc). y.stamp) same))
    new x a (inl (inr b)) same = inl b
    new x a (inr (above, p)) same = inr (λ y b. above y (inr b), p)

-- ---------- what is above the cut

above_cut : (start end : Moment) (room stamp : ℕ) (cut : List Gathered) → IsSoundAt end → WritersRise room cut → IsAdmissible start end cut → IsAboveThen end room stamp → AllByRecursion (λ (e : Entry). e.stamp < stamp) (entries_in (writes_in end cut))
above_cut start end room stamp [] s rise a above = tt
above_cut start end room stamp (g ∷ cut) s rise a above =
    let P : Entry → Type 0 = λ (e : Entry). e.stamp < stamp in
    let d : Dropping = g.dropping in
    let own : own_entries end g ≡ take g.count (landed_by end d) =
    sym (take_less g.count (landed end d) (entries_in (issued_by end d)) a.0.most) ∙ ap (take g.count) (sym (landed_is_first end s d a.0.stands.is_item)) in
    subst (AllByRecursion P) (sym (entries_split end g cut))
    (All-append P (own_entries end g) (entries_in (writes_in end cut))
    (subst (AllByRecursion P) (sym own) (All-take P g.count (landed_by end d) (above.entries d a.0.stands.is_item rise.0)))
    (above_cut start end room stamp cut s rise.2 a.1 above))

-- ---------- the law

no_file : (o : Option (List ℕ)) (bytes : List ℕ) → o ≡ None → o ≡ Some bytes → ⊥
no_file o bytes none some = cc

pub later_truncates : (start end : Moment) (events : List Event) (room : ℕ) (cut : List Gathered) (truncs later : List Trunc) → IsLawful end.state events → IsSoundAt end → HasView start end room cut truncs → AreTruncsAt (moment_after end events) room later
    → (more : List Trunc) × (later ≡ truncs ++ more) × All (IsAboveCut end cut) more
later_truncates start end events room cut truncs later legal s view are =
    let last : Moment = moment_after end events in
    let P : Trunc → Type 0 = λ t. AllByRecursion (λ (e : Entry). e.stamp < t.stamp) (entries_in (writes_in end cut)) in
    let goes = begins P truncs later view.all_truncs.rise are.rise
    (λ t a. among later t (are.all t (trunc_stays end events room t.stamp t.size legal s (all_at (λ (u : Trunc). HadTrunc end room u.stamp u.size) truncs t view.all_truncs.there a))))
    (λ t a. either t (all_at (λ (u : Trunc). HadTrunc last room u.stamp u.size) later t are.there a)) in
    (goes.0, goes.1, All-from_recursion (IsAboveCut end cut) goes.0 (all_of (IsAboveCut end cut) goes.0 (λ t a. All-from_recursion (λ (e : Entry). e.stamp < t.stamp) (entries_in (writes_in end cut)) (All-Among P goes.0 t goes.2 a))))
  where
    either : (t : Trunc) → HadTrunc (moment_after end events) room t.stamp t.size → Among t truncs ⊎ (IsAboveTruncs truncs t × AllByRecursion (λ (e : Entry). e.stamp < t.stamp) (entries_in (writes_in end cut)))
    either t had = elim (cases_Option (file_then end room (trunc_path t.stamp t.size))) as (λ _. Among t truncs ⊎ (IsAboveTruncs truncs t × AllByRecursion (λ (e : Entry). e.stamp < t.stamp) (entries_in (writes_in end cut)))) [
      | inr (bytes, there) ↦ inl (among truncs t (view.all_truncs.all t (record { is_item = had.is_item; bytes = bytes; there = there })))
      | inl absent ↦
          let above : IsAboveThen end room t.stamp = truncs_above end events room t.stamp t.size legal s (λ h. no_file (file_then end room (trunc_path t.stamp t.size)) h.bytes absent h.there) had in
          inr (λ u a. above.truncates u.stamp u.size (all_at (λ (x : Trunc). HadTrunc end room x.stamp x.size) truncs u view.all_truncs.there a), above_cut start end room t.stamp cut s view.rise view.admissible above)
    ]
