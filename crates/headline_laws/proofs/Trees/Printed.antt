-- The counts of a cut and the truncates as a line prints them.
use Rattle.std.proofs.Common.{◌≡◌, ◌≤◌, ◌<◌, ℕ, Bool, true, false, nat_eq, List, [], ◌∷◌, map, refl, arith, if◌then◌else◌}
use Rattle.std.specs.List.{AllByRecursion}
use Rattle.std.proofs.lemmas.Bool.Decides.{nat_tests}
use Rattle.plfs_types.specs.declared.entries.Trunc.{Trunc}
use Rattle.plfs_types.specs.declared.entries.WriterCount.{WriterCount}
use Rattle.reader_laws.specs.Gathering.{Gathered}
use Rattle.reader_laws.specs.View.{WritersRise}
use Rattle.reader_laws.specs.GatheringListing.{StampsRise}
use Rattle.headline_laws.specs.OneFile.{printed_cut}
use Rattle.headline.specs.Views.{IdsRise}

abbrev pub IsCounted : (WriterCount → Type 0) → Gathered → Type 0
IsCounted Good g = 1 ≤ g.count → Good (record { writer = g.dropping.writer; count = g.count })

pub printed_all : (Good : WriterCount → Type 0) (cut : List Gathered) → AllByRecursion (IsCounted Good) cut → AllByRecursion Good (printed_cut cut)
printed_all Good [] all = tt
printed_all Good (g ∷ cut) all = by_count (nat_eq g.count 0) refl (printed_all Good cut all.1)
  where
    by_count : (b : Bool) → nat_eq g.count 0 ≡ b → AllByRecursion Good (printed_cut cut) → AllByRecursion Good (if b then printed_cut cut else record { writer = g.dropping.writer; count = g.count } ∷ printed_cut cut)
    by_count true is rest = rest
    by_count false is rest = (all.0 (let some : 1 ≤ g.count = grind (arith, nat_tests) in some), rest)

later_ids : (id : ℕ) (cut : List Gathered) → AllByRecursion (λ (h : Gathered). id < h.dropping.writer) cut → AllByRecursion (λ (later : ℕ). id < later) (map (λ (c : WriterCount). c.writer) (printed_cut cut))
later_ids id [] all = tt
later_ids id (g ∷ cut) all = by_count (nat_eq g.count 0) (later_ids id cut all.1)
  where
    by_count : (b : Bool) → AllByRecursion (λ (later : ℕ). id < later) (map (λ (c : WriterCount). c.writer) (printed_cut cut)) → AllByRecursion (λ (later : ℕ). id < later) (map (λ (c : WriterCount). c.writer) (if b then printed_cut cut else record { writer = g.dropping.writer; count = g.count } ∷ printed_cut cut))
    by_count true rest = rest
    by_count false rest = (all.0, rest)

pub ids_rise : (room : ℕ) (cut : List Gathered) → WritersRise room cut → IdsRise (map (λ (c : WriterCount). c.writer) (printed_cut cut))
ids_rise room [] rise = tt
ids_rise room (g ∷ cut) rise = by_count (nat_eq g.count 0) (ids_rise room cut rise.2)
  where
    by_count : (b : Bool) → IdsRise (map (λ (c : WriterCount). c.writer) (printed_cut cut)) → IdsRise (map (λ (c : WriterCount). c.writer) (if b then printed_cut cut else record { writer = g.dropping.writer; count = g.count } ∷ printed_cut cut))
    by_count true rest = rest
    by_count false rest = (later_ids g.dropping.writer cut rise.1, rest)

later_stamps : (stamp : ℕ) (ts : List Trunc) → AllByRecursion (λ (later : Trunc). stamp < later.stamp) ts → AllByRecursion (λ (later : ℕ). stamp < later) (map (λ (u : Trunc). u.stamp) ts)
later_stamps stamp [] all = tt
later_stamps stamp (t ∷ ts) all = (all.0, later_stamps stamp ts all.1)

pub stamps_rise : (ts : List Trunc) → StampsRise ts → IdsRise (map (λ (u : Trunc). u.stamp) ts)
stamps_rise [] rise = tt
stamps_rise (t ∷ ts) rise = (later_stamps t.stamp ts rise.0, stamps_rise ts rise.1)
