-- How many writes of each writer a line tells: those of the plain machine's room, where the cut is what has landed there.
use Rattle.std.proofs.Common.{◌≡◌, ◌≤◌, ℕ, true, false, nat_eq, nat_lt, List, [], ◌∷◌, ◌++◌, length, map, filter, refl, sym, ap, ◌∙◌, arith, if◌then◌else◌}
use Rattle.std.specs.List.{AllByRecursion}
use Rattle.std.proofs.lemmas.Bool.Decides.{nat_tests}
use Rattle.plfs_types.specs.declared.entries.Cover.{Cover}
use Rattle.plfs_types.specs.declared.entries.Entry.{Entry}
use Rattle.plfs_types.specs.declared.entries.Trunc.{Trunc}
use Rattle.plfs_types.specs.declared.entries.WriterCount.{WriterCount}
use Rattle.mount_sound.specs.Ledger.{entries_in}
use Rattle.store_api.specs.declared.tree.Room.{Room}
use Rattle.reader_laws.specs.Gathering.{Gathered, IsPrefixOf}
use Rattle.reader_laws.specs.Moments.{Dropping, Moment, Stood, issued_by, landed}
use Rattle.reader_laws.specs.GatheringOpening.{HasView}
use Rattle.reader_laws.specs.View.{own_entries}
use Rattle.reader_laws.proofs.Gathered.Facts.{length-entries, length_taken}
use Rattle.index_reader.specs.Sharing.{covered}
use Rattle.reader_laws.specs.Covering.{counts_in, cover_with, empty_cover}
use Rattle.outcomes.specs.Counts.{counted, counts_of, cut_of}
use Rattle.plain_machine.specs.Machine.{PlainRoom}
use Rattle.plain_machine.specs.Landed.{counts}
use Rattle.plain_plays.specs.Mirrors.{MirrorsRoom}
use Rattle.plain_plays.proofs.PlainSteps.ByName.Cuts.{count_is, counts_same, droppings_in, tallies}

-- a writer's cover, before others
one_count : (writer k : ℕ) (es : List Entry) (covers : List Cover) (rest : List WriterCount) → length es ≡ k → cut_of covers ≡ rest → cut_of (covered (cover_with (empty_cover writer) es) ++ covers) ≡ (if nat_eq k 0 then rest else record { writer = writer; count = k } ∷ rest)
one_count writer k [] covers rest long e = e ∙ ap (λ j. if nat_eq j 0 then rest else record { writer = writer; count = j } ∷ rest) long
one_count writer k (x ∷ es) covers rest long e =
    let c : Cover = cover_with (empty_cover writer) (x ∷ es) in
    let is : c.count ≡ k = omega (arith, long) in
    let more : nat_eq c.count 0 ≡ false = (let j : 1 ≤ c.count = omega arith in grind (arith, nat_tests)) in
    let some : nat_lt 0 c.count ≡ true = (let j : 1 ≤ c.count = omega arith in grind (arith, nat_tests)) in
    ap (λ b. cut_of ((if b then [] else c ∷ []) ++ covers)) more
    ∙ ap (λ b. map counted (if b then c ∷ filter (λ (d : Cover). nat_lt 0 d.count) covers else filter (λ (d : Cover). nat_lt 0 d.count) covers)) some
    ∙ ap (λ l. record { writer = writer; count = c.count } ∷ l) e
    ∙ sym (ap (λ b. if b then rest else record { writer = writer; count = c.count } ∷ rest) more)
    ∙ ap (λ j. if nat_eq j 0 then rest else record { writer = writer; count = j } ∷ rest) is

-- each has a byte, so those without entries have no cover
each_counted : (covers : List Cover) (writer : ℕ) (es : List Entry) → cut_of covers ≡ counts_of covers → cut_of (covered (cover_with (empty_cover writer) es) ++ covers) ≡ counts_of (covered (cover_with (empty_cover writer) es) ++ covers)
each_counted covers writer [] e = e
each_counted covers writer (x ∷ es) e =
    let c : Cover = cover_with (empty_cover writer) (x ∷ es) in
    let more : nat_eq c.count 0 ≡ false = (let j : 1 ≤ c.count = omega arith in grind (arith, nat_tests)) in
    let some : nat_lt 0 c.count ≡ true = (let j : 1 ≤ c.count = omega arith in grind (arith, nat_tests)) in
    ap (λ b. cut_of ((if b then [] else c ∷ []) ++ covers)) more
    ∙ ap (λ b. map counted (if b then c ∷ filter (λ (d : Cover). nat_lt 0 d.count) covers else filter (λ (d : Cover). nat_lt 0 d.count) covers)) some
    ∙ ap (λ l. counted c ∷ l) e
    ∙ sym (ap (λ b. counts_of ((if b then [] else c ∷ []) ++ covers)) more)

-- of a cut all covers are told, also where counts of 0 are left out
pub all_counted : (end : Moment) (cut : List Gathered) → cut_of (counts_in end cut) ≡ counts_of (counts_in end cut)
all_counted end [] = refl
all_counted end (g ∷ cut) = each_counted (counts_in end cut) g.dropping.writer (own_entries end g) (all_counted end cut)

module _ (s e : Moment) (n : ℕ) (cut : List Gathered) (truncs : List Trunc) (v : HasView s e n cut truncs) (same : (d : Dropping) → landed s d ≡ landed e d) (stays : (d : Dropping) → Stood e d → Stood s d) (r : Room) (room : PlainRoom) (o : MirrorsRoom e n r room) where
  cut_tallies : (gs : List Gathered) → AllByRecursion (IsPrefixOf s e) gs → cut_of (counts_in e gs) ≡ tallies e (droppings_in gs)
  cut_tallies [] all = refl
  cut_tallies (g ∷ gs) all =
      let issued = all.0.were_issued in
      let entries = length-entries (issued_by e g.dropping) in
      let long : length (own_entries e g) ≡ landed e g.dropping = length_taken g.count (entries_in (issued_by e g.dropping)) (omega (arith, issued, entries)) ∙ count_is s e n cut truncs v same stays r room o g all.0 in
      one_count g.dropping.writer (landed e g.dropping) (own_entries e g) (counts_in e gs) (tallies e (droppings_in gs)) long (cut_tallies gs all.1)

  -- The counts of the cut are those of the machine's room.
  pub cut_counts : cut_of (counts_in e cut) ≡ counts room.writers
  cut_counts = cut_tallies cut v.admissible ∙ counts_same s e n cut truncs v same stays r room o
