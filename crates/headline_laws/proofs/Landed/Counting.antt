-- The count of one writer in a cut, as it is printed.
use Rattle.std.proofs.Common.{◌≡◌, ◌⊎◌, ◌≤◌, ◌<◌, inl, inr, ℕ, Bool, true, false, nat_eq, List, [], ◌∷◌, map, suc, zero, refl, sym, ap, ◌∙◌, subst, arith, if◌then◌else◌}
use Rattle.std.specs.List.{AllByRecursion, Any}
use Rattle.std.proofs.lemmas.Bool.Decides.{nat_tests}
use Rattle.plfs_types.specs.declared.entries.Trunc.{Trunc}
use Rattle.plfs_types.specs.declared.entries.WriterCount.{WriterCount}
use Rattle.plain_file.proofs.Facts.{Among}
use Rattle.reader_laws.specs.Gathering.{Gathered, IsPrefixOf}
use Rattle.reader_laws.specs.Moments.{Dropping, IsNamed, Moment, landed}
use Rattle.reader_laws.specs.GatheringOpening.{HasView}
use Rattle.reader_laws.specs.View.{WritersRise}
use Rattle.reader_laws.proofs.Gathered.Facts.{any_found, prefix_of}
use Rattle.headline_laws.specs.OneFile.{printed_cut}
use Rattle.headline.specs.Views.{Seen, count_of, counted}
use Rattle.headline_laws.proofs.Landed.Cuts.{at_least}

abbrev pub counted_in : ℕ → List WriterCount → ℕ
counted_in id [] = 0
counted_in id (c ∷ cut) = if nat_eq c.writer id then c.count else counted_in id cut

pub seen_counted : (id : ℕ) (seen : List Seen) → count_of id seen ≡ counted_in id (map counted seen)
seen_counted id [] = refl
seen_counted id (s ∷ seen) = ap (λ k. if nat_eq s.writer.id id then s.count else k) (seen_counted id seen)

pub seen_rise : (seen : List Seen) → map (λ (c : WriterCount). c.writer) (map counted seen) ≡ map (λ (s : Seen). s.writer.id) seen
seen_rise [] = refl
seen_rise (s ∷ seen) = ap (λ z. s.writer.id ∷ z) (seen_rise seen)

module _ (id : ℕ) where
  -- a printed count of another writer, or none
  passed : (g : Gathered) (cut : List Gathered) → nat_eq g.dropping.writer id ≡ false → counted_in id (printed_cut (g ∷ cut)) ≡ counted_in id (printed_cut cut)
  passed g cut off = elim (nat_eq g.count 0) as (λ b. counted_in id (if b then printed_cut cut else record { writer = g.dropping.writer; count = g.count } ∷ printed_cut cut) ≡ counted_in id (printed_cut cut)) [
    | true ↦ refl
    | false ↦ ap (λ b. if b then g.count else counted_in id (printed_cut cut)) off
  ]

  none_counted : (cut : List Gathered) → AllByRecursion (λ (h : Gathered). id < h.dropping.writer) cut → counted_in id (printed_cut cut) ≡ 0
  none_counted [] all = refl
  none_counted (h ∷ cut) all =
      let above : id < h.dropping.writer = all.0 in
      let off : nat_eq h.dropping.writer id ≡ false = grind (arith, nat_tests) in
      passed h cut off ∙ none_counted cut all.1

  -- the count of one that was gathered
  found : (g : Gathered) (cut : List Gathered) → nat_eq g.dropping.writer id ≡ true → AllByRecursion (λ (h : Gathered). g.dropping.writer < h.dropping.writer) cut → counted_in id (printed_cut (g ∷ cut)) ≡ g.count
  found g cut on all = elim (nat_eq g.count 0) as (λ b. nat_eq g.count 0 ≡ b → counted_in id (if b then printed_cut cut else record { writer = g.dropping.writer; count = g.count } ∷ printed_cut cut) ≡ g.count) [
    | true ↦ λ none.
        let is : g.dropping.writer ≡ id = grind (arith, nat_tests) in
        let zero_is : g.count ≡ 0 = grind (arith, nat_tests) in
        none_counted cut (subst (λ k. AllByRecursion (λ (h : Gathered). k < h.dropping.writer) cut) is all) ∙ sym zero_is
    | false ↦ λ some. ap (λ b. if b then g.count else counted_in id (printed_cut cut)) on
  ] refl

  later_id : (g : Gathered) (k : ℕ) (cut : List Gathered) → Among g cut → AllByRecursion (λ (h : Gathered). k < h.dropping.writer) cut → k < g.dropping.writer
  later_id g k [] at all = absurd at
  later_id g k (h ∷ cut) (inl same) all = subst (λ (x : Gathered). k < x.dropping.writer) (sym same) all.0
  later_id g k (h ∷ cut) (inr at) all = later_id g k cut at all.1

  pub cut_found : (room : ℕ) (cut : List Gathered) (g : Gathered) → WritersRise room cut → Among g cut → g.dropping.writer ≡ id → counted_in id (printed_cut cut) ≡ g.count
  cut_found room [] g rise at is = absurd at
  cut_found room (h ∷ cut) g rise (inl same) is =
      let its : h.dropping.writer ≡ id = ap (λ (x : Gathered). x.dropping.writer) (sym same) ∙ is in
      let on : nat_eq h.dropping.writer id ≡ true = grind (arith, nat_tests) in
      found h cut on rise.1 ∙ ap (λ (x : Gathered). x.count) (sym same)
  cut_found room (h ∷ cut) g rise (inr at) is =
      let above : h.dropping.writer < g.dropping.writer = later_id g h.dropping.writer cut at rise.1 in
      let off : nat_eq h.dropping.writer id ≡ false = grind (arith, nat_tests, above, is) in
      passed h cut off ∙ cut_found room cut g rise.2 at is

  pub found_or_none : (cut : List Gathered) → (counted_in id (printed_cut cut) ≡ 0) ⊎ ((g : Gathered) × Among g cut × (g.dropping.writer ≡ id))
  found_or_none [] = inl refl
  found_or_none (h ∷ cut) = by (nat_eq h.dropping.writer id) refl (found_or_none cut)
    where
      same_id : nat_eq h.dropping.writer id ≡ true → h.dropping.writer ≡ id
      same_id on = grind (arith, nat_tests)

      by : (b : Bool) → nat_eq h.dropping.writer id ≡ b → (counted_in id (printed_cut cut) ≡ 0) ⊎ ((g : Gathered) × Among g cut × (g.dropping.writer ≡ id)) → (counted_in id (printed_cut (h ∷ cut)) ≡ 0) ⊎ ((g : Gathered) × Among g (h ∷ cut) × (g.dropping.writer ≡ id))
      by true on rest = inr (h, inl refl, same_id on)
      by false off (inl none) = inl (passed h cut off ∙ none)
      by false off (inr (g, at, is)) = inr (g, inr at, is)

-- A writer's count lies between what had landed at the first call and at the listing.
pub count_between : (first end : Moment) (room : ℕ) (cut : List Gathered) (truncs : List Trunc) (d : Dropping) → IsNamed d → HasView first end room cut truncs → d.room ≡ room → ((g : Gathered) → Among g cut → g.dropping.writer ≡ d.writer → g.dropping ≡ d)
    → (landed first d ≤ counted_in d.writer (printed_cut cut)) × (counted_in d.writer (printed_cut cut) ≤ landed end d)
count_between first end room cut truncs d named view its one = (low (landed first d) refl, high (found_or_none d.writer cut))
  where
    low : (k : ℕ) → landed first d ≡ k → landed first d ≤ counted_in d.writer (printed_cut cut)
    low zero is = omega (arith, is)
    low (suc k) is = by (at_least first end room cut truncs d (landed first d) named view its (omega (arith, is)) (omega arith))
      where
        by : Any (λ (g : Gathered). (g.dropping ≡ d) × (landed first d ≤ g.count)) cut → landed first d ≤ counted_in d.writer (printed_cut cut)
        by any =
            let f = any_found (λ (g : Gathered). (g.dropping ≡ d) × (landed first d ≤ g.count)) cut any in
            let count = cut_found d.writer room cut f.0 view.rise f.1 (ap (λ (x : Dropping). x.writer) f.2.0) in
            omega (arith, count, f.2.1)

    high : (counted_in d.writer (printed_cut cut) ≡ 0) ⊎ ((g : Gathered) × Among g cut × (g.dropping.writer ≡ d.writer)) → counted_in d.writer (printed_cut cut) ≤ landed end d
    high (inl none) = omega (arith, none)
    high (inr (g, at, is)) =
        let count = cut_found d.writer room cut g view.rise at is in
        let p : IsPrefixOf first end g = prefix_of first end cut g view.admissible at in
        let most : g.count ≤ landed end d = subst (λ x. g.count ≤ landed end x) (one g at is) p.most in
        omega (arith, count, most)
