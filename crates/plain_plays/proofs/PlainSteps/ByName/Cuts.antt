-- What a reader gathered of a room, while nobody else called, is what has landed in the plain machine's room.
use Rattle.std.proofs.Common.{◌≡◌, ◌≤◌, ◌<◌, ℕ, Bool, true, false, nat_le, nat_eq, List, [], ◌∷◌, ◌++◌, length, map, filter, Option, Some, None, refl, sym, ap, ◌∙◌, inl, inr, subst, arith, if◌then◌else◌}
use Rattle.std.specs.Prelude.{take}
use Rattle.std.specs.List.{AllByRecursion}
use Rattle.std.proofs.lemmas.Bool.Decides.{nat_tests}
use Rattle.plfs_types.specs.declared.entries.Trunc.{Trunc}
use Rattle.plfs_types.specs.declared.entries.WriterCount.{WriterCount}
use Rattle.plain_file.proofs.Facts.{All-Among, Among}
use Rattle.store_api.specs.declared.tree.Room.{Room}
use Rattle.mount_sound.specs.Dropping.{bytes_of}
use Rattle.mount_sound.specs.Ledger.{Written}
use Rattle.mount_sound.specs.There.{entries_there}
use Rattle.reader_laws.specs.Gathering.{Gathered, IsPrefixOf}
use Rattle.reader_laws.specs.GatheringListing.{AreTruncsAt, StampsRise}
use Rattle.reader_laws.specs.Moments.{Dropping, HadTrunc, IsNamed, Moment, Stood, index_then, issued_by, landed, log_then}
use Rattle.reader_laws.specs.GatheringOpening.{HasView}
use Rattle.reader_laws.specs.View.{WritersRise, writes_in}
use Rattle.reader_laws.proofs.Gathered.Facts.{all_at, among, any_found}
use Rattle.plain_machine.specs.Machine.{PlainRoom, PlainWriter}
use Rattle.plain_machine.specs.Landed.{counts, landed_writes}
use Rattle.plain_plays.specs.Mirrors.{IdsRise, MirrorsRoom, MirrorsWriter}
use Rattle.plain_plays.specs.Plainly.{dropping_of}

-- ---- rising lists with the same members

abbrev DroppingsRise : List Dropping → Type 0
DroppingsRise [] = Unit {0}
DroppingsRise (d ∷ ds) = AllByRecursion (λ (later : Dropping). d.writer < later.writer) ds × DroppingsRise ds

first_same : (x y : Dropping) (xs ys : List Dropping) → DroppingsRise (x ∷ xs) → DroppingsRise (y ∷ ys) → Among x (y ∷ ys) → Among y (x ∷ xs) → x ≡ y
first_same x y xs ys a b (inl same) m = same
first_same x y xs ys a b (inr later) (inl same) = sym same
first_same x y xs ys a b (inr later) (inr also) =
    let p : y.writer < x.writer = All-Among (λ (z : Dropping). y.writer < z.writer) ys x b.0 later in
    let q : x.writer < y.writer = All-Among (λ (z : Dropping). x.writer < z.writer) xs y a.0 also in
    absurd (omega (arith, p, q))

behind : (x y : Dropping) (ys : List Dropping) (d : Dropping) → x ≡ y → x.writer < d.writer → Among d (y ∷ ys) → Among d ys
behind x y ys d same less (inl here) = absurd (let e : d.writer ≡ x.writer = ap (λ (z : Dropping). z.writer) (here ∙ sym same) in omega (arith, e, less))
behind x y ys d same less (inr later) = later

same_droppings : (xs ys : List Dropping) → DroppingsRise xs → DroppingsRise ys → ((d : Dropping) → Among d xs → Among d ys) → ((d : Dropping) → Among d ys → Among d xs) → xs ≡ ys
same_droppings [] [] a b to back = refl
same_droppings [] (y ∷ ys) a b to back = absurd (back y (inl refl))
same_droppings (x ∷ xs) [] a b to back = absurd (to x (inl refl))
same_droppings (x ∷ xs) (y ∷ ys) a b to back =
    let same : x ≡ y = first_same x y xs ys a b (to x (inl refl)) (back y (inl refl)) in
    let rest : xs ≡ ys = same_droppings xs ys a.1 b.1
    (λ d m. behind x y ys d same (All-Among (λ (z : Dropping). x.writer < z.writer) xs d a.0 m) (to d (inr m)))
    (λ d m. behind y x xs d (sym same) (All-Among (λ (z : Dropping). y.writer < z.writer) ys d b.0 m) (back d (inr m))) in
    (λ i. same i ∷ rest i)

stamps_same : (xs ys : List Trunc) → StampsRise xs → StampsRise ys → ((t : Trunc) → Among t xs → Among t ys) → ((t : Trunc) → Among t ys → Among t xs) → xs ≡ ys
stamps_same [] [] a b to back = refl
stamps_same [] (y ∷ ys) a b to back = absurd (back y (inl refl))
stamps_same (x ∷ xs) [] a b to back = absurd (to x (inl refl))
stamps_same (x ∷ xs) (y ∷ ys) a b to back =
    let same : x ≡ y = heads (to x (inl refl)) (back y (inl refl)) in
    let rest : xs ≡ ys = stamps_same xs ys a.1 b.1
    (λ t m. later x y ys t same (All-Among (λ (z : Trunc). x.stamp < z.stamp) xs t a.0 m) (to t (inr m)))
    (λ t m. later y x xs t (sym same) (All-Among (λ (z : Trunc). y.stamp < z.stamp) ys t b.0 m) (back t (inr m))) in
    (λ i. same i ∷ rest i)
  where
    heads : Among x (y ∷ ys) → Among y (x ∷ xs) → x ≡ y
    heads (inl e) m = e
    heads (inr l) (inl e) = sym e
    heads (inr l) (inr k) = absurd (let p : y.stamp < x.stamp = All-Among (λ (z : Trunc). y.stamp < z.stamp) ys x b.0 l in let q : x.stamp < y.stamp = All-Among (λ (z : Trunc). x.stamp < z.stamp) xs y a.0 k in omega (arith, p, q))

    later : (first head : Trunc) (ts : List Trunc) (t : Trunc) → first ≡ head → first.stamp < t.stamp → Among t (head ∷ ts) → Among t ts
    later first head ts t e less (inl here) = absurd (let k : t.stamp ≡ first.stamp = ap (λ (z : Trunc). z.stamp) (here ∙ sym e) in omega (arith, k, less))
    later first head ts t e less (inr m) = m

-- the truncates of a room at a moment are these alone
pub truncs_one : (m : Moment) (n : ℕ) (xs ys : List Trunc) → AreTruncsAt m n xs → AreTruncsAt m n ys → xs ≡ ys
truncs_one m n xs ys a b = stamps_same xs ys a.rise b.rise
    (λ t x. among ys t (b.all t (all_at (λ (z : Trunc). HadTrunc m n z.stamp z.size) xs t a.there x)))
    (λ t y. among xs t (a.all t (all_at (λ (z : Trunc). HadTrunc m n z.stamp z.size) ys t b.there y)))

-- ---- those of whom some has landed

module _ (e : Moment) where
  abbrev pub some : Dropping → Bool
  some d = nat_le 1 (landed e d)

  abbrev pub only_some : List Dropping → List Dropping
  only_some ds = filter some ds

  -- what has landed of these, one after the other
  abbrev pub parts : List Dropping → List Written
  parts [] = []
  parts (d ∷ ds) = take (landed e d) (issued_by e d) ++ parts ds

  -- how many of each
  abbrev pub tallies : List Dropping → List WriterCount
  tallies [] = []
  tallies (d ∷ ds) = if nat_eq (landed e d) 0 then tallies ds else record { writer = d.writer; count = landed e d } ∷ tallies ds

  parts_some : (ds : List Dropping) → parts (only_some ds) ≡ parts ds
  parts_some [] = refl
  parts_some (d ∷ ds) = elim (some d) as (λ b. some d ≡ b → parts (if b then d ∷ only_some ds else only_some ds) ≡ take (landed e d) (issued_by e d) ++ parts ds) [
    | true ↦ λ t. ap (λ l. take (landed e d) (issued_by e d) ++ l) (parts_some ds)
    | false ↦ λ t. parts_some ds ∙ sym (ap (λ k. take k (issued_by e d) ++ parts ds) (none t))
  ] refl
    where
      none : some d ≡ false → landed e d ≡ 0
      none t = grind (arith, nat_tests)

  tallies_some : (ds : List Dropping) → tallies (only_some ds) ≡ tallies ds
  tallies_some [] = refl
  tallies_some (d ∷ ds) = elim (some d) as (λ b. some d ≡ b → tallies (if b then d ∷ only_some ds else only_some ds) ≡ (if nat_eq (landed e d) 0 then tallies ds else record { writer = d.writer; count = landed e d } ∷ tallies ds)) [
    | true ↦ λ t. let more : nat_eq (landed e d) 0 ≡ false = grind (arith, nat_tests) in rw more (ap (λ l. record { writer = d.writer; count = landed e d } ∷ l) (tallies_some ds))
    | false ↦ λ t. let none : nat_eq (landed e d) 0 ≡ true = grind (arith, nat_tests) in rw none (tallies_some ds)
  ] refl

  among_some : (ds : List Dropping) (d : Dropping) → Among d ds → 1 ≤ landed e d → Among d (only_some ds)
  among_some [] d a l = absurd a
  among_some (x ∷ ds) d (inl same) l = let t : some x ≡ true = (let k : 1 ≤ landed e x = subst (λ z. 1 ≤ landed e z) same l in grind (arith, nat_tests)) in rw t (inl same)
  among_some (x ∷ ds) d (inr a) l = elim (some x) as (λ b. Among d (if b then x ∷ only_some ds else only_some ds)) [ true ↦ inr (among_some ds d a l) | false ↦ among_some ds d a l ]

  of_some : (ds : List Dropping) (d : Dropping) → Among d (only_some ds) → Among d ds × (1 ≤ landed e d)
  of_some [] d a = absurd a
  of_some (x ∷ ds) d a = elim (some x) as (λ b. some x ≡ b → Among d (if b then x ∷ only_some ds else only_some ds) → Among d (x ∷ ds) × (1 ≤ landed e d)) [
    | true ↦ λ t m. elim m as (λ _. Among d (x ∷ ds) × (1 ≤ landed e d)) [
      | inl same ↦ (inl same, let k : 1 ≤ landed e x = grind (arith, nat_tests) in subst (λ z. 1 ≤ landed e z) (sym same) k)
      | inr more ↦ let r = of_some ds d more in (inr r.0, r.1)
    ]
    | false ↦ λ t m. let r = of_some ds d m in (inr r.0, r.1)
  ] refl a

  above_some : (k : ℕ) (ds : List Dropping) → AllByRecursion (λ (later : Dropping). k < later.writer) ds → AllByRecursion (λ (later : Dropping). k < later.writer) (only_some ds)
  above_some k [] a = tt
  above_some k (x ∷ ds) a = elim (some x) as (λ b. AllByRecursion (λ (later : Dropping). k < later.writer) (if b then x ∷ only_some ds else only_some ds)) [ true ↦ (a.0, above_some k ds a.1) | false ↦ above_some k ds a.1 ]

  rise_some : (ds : List Dropping) → DroppingsRise ds → DroppingsRise (only_some ds)
  rise_some [] r = tt
  rise_some (x ∷ ds) r = elim (some x) as (λ b. DroppingsRise (if b then x ∷ only_some ds else only_some ds)) [ true ↦ (above_some x.writer ds r.0, rise_some ds r.1) | false ↦ rise_some ds r.1 ]

  pub stood_some : (d : Dropping) → IsNamed d → 1 ≤ landed e d → Stood e d
  stood_some d named some_landed = by (index_then e d) refl
    where
      by : (f : Option (List ℕ)) → index_then e d ≡ f → Stood e d
      by (Some bytes) is = record { is_item = named; bytes = bytes; there = is }
      by None is = absurd (let none : landed e d ≡ 0 = ap (λ f. length (entries_there (bytes_of f) (bytes_of (log_then e d)))) is in omega (arith, none, some_landed))

-- ---- a cut

abbrev pub droppings_in : List Gathered → List Dropping
droppings_in cut = map (λ (g : Gathered). g.dropping) cut

abbrev pub droppings_of : ℕ → List PlainWriter → List Dropping
droppings_of n ws = map (dropping_of n) ws

cut_among : (cut : List Gathered) (d : Dropping) → Among d (droppings_in cut) → (g : Gathered) × Among g cut × (d ≡ g.dropping)
cut_among [] d a = absurd a
cut_among (g ∷ cut) d (inl same) = (g, inl refl, same)
cut_among (g ∷ cut) d (inr a) = let r = cut_among cut d a in (r.0, inr r.1, r.2)

among_cut : (cut : List Gathered) (g : Gathered) → Among g cut → Among g.dropping (droppings_in cut)
among_cut [] g a = absurd a
among_cut (x ∷ cut) g (inl same) = inl (ap (λ (z : Gathered). z.dropping) same)
among_cut (x ∷ cut) g (inr a) = inr (among_cut cut g a)

writer_among : (n : ℕ) (ws : List PlainWriter) (d : Dropping) → Among d (droppings_of n ws) → (w : PlainWriter) × Among w ws × (d ≡ dropping_of n w)
writer_among n [] d a = absurd a
writer_among n (w ∷ ws) d (inl same) = (w, inl refl, same)
writer_among n (w ∷ ws) d (inr a) = let r = writer_among n ws d a in (r.0, inr r.1, r.2)

among_writers : (n : ℕ) (ws : List PlainWriter) (w : PlainWriter) → Among w ws → Among (dropping_of n w) (droppings_of n ws)
among_writers n [] w a = absurd a
among_writers n (x ∷ ws) w (inl same) = inl (ap (dropping_of n) same)
among_writers n (x ∷ ws) w (inr a) = inr (among_writers n ws w a)

cut_above : (k : ℕ) (cut : List Gathered) → AllByRecursion (λ (h : Gathered). k < h.dropping.writer) cut → AllByRecursion (λ (later : Dropping). k < later.writer) (droppings_in cut)
cut_above k [] a = tt
cut_above k (g ∷ cut) a = (a.0, cut_above k cut a.1)

cut_rise : (n : ℕ) (cut : List Gathered) → WritersRise n cut → DroppingsRise (droppings_in cut)
cut_rise n [] r = tt
cut_rise n (g ∷ cut) r = (cut_above g.dropping.writer cut r.1, cut_rise n cut r.2)

cut_room : (n : ℕ) (cut : List Gathered) (g : Gathered) → WritersRise n cut → Among g cut → g.dropping.room ≡ n
cut_room n [] g r a = absurd a
cut_room n (x ∷ cut) g r (inl same) = ap (λ (z : Gathered). z.dropping.room) same ∙ r.0
cut_room n (x ∷ cut) g r (inr a) = cut_room n cut g r.2 a

writers_above : (n k : ℕ) (ws : List PlainWriter) → AllByRecursion (λ (later : PlainWriter). k < later.id) ws → AllByRecursion (λ (later : Dropping). k < later.writer) (droppings_of n ws)
writers_above n k [] a = tt
writers_above n k (w ∷ ws) a = (a.0, writers_above n k ws a.1)

writers_rise : (n : ℕ) (ws : List PlainWriter) → IdsRise ws → DroppingsRise (droppings_of n ws)
writers_rise n [] r = tt
writers_rise n (w ∷ ws) r = (writers_above n w.id ws r.0, writers_rise n ws r.1)

module _ (s e : Moment) (n : ℕ) (cut : List Gathered) (truncs : List Trunc) (v : HasView s e n cut truncs) (same : (d : Dropping) → landed s d ≡ landed e d) (stays : (d : Dropping) → Stood e d → Stood s d) (r : Room) (room : PlainRoom) (o : MirrorsRoom e n r room) where
  its_prefix : (g : Gathered) → Among g cut → IsPrefixOf s e g
  its_prefix g a = All-Among (IsPrefixOf s e) cut g v.admissible a

  -- the count of each is what has landed
  pub count_is : (g : Gathered) → IsPrefixOf s e g → g.count ≡ landed e g.dropping
  count_is g p = let a = p.least in let b = p.most in let k = same g.dropping in omega (arith, a, b, k)

  writes_parts : (gs : List Gathered) → AllByRecursion (IsPrefixOf s e) gs → writes_in e gs ≡ parts e (droppings_in gs)
  writes_parts [] a = refl
  writes_parts (g ∷ gs) a = ap (λ k. take k (issued_by e g.dropping) ++ writes_in e gs) (count_is g a.0) ∙ ap (λ l. take (landed e g.dropping) (issued_by e g.dropping) ++ l) (writes_parts gs a.1)

  landed_parts : (ws : List PlainWriter) → AllByRecursion (MirrorsWriter e n) ws → landed_writes ws ≡ parts e (droppings_of n ws)
  landed_parts [] a = refl
  landed_parts (w ∷ ws) a =
      ap (λ k. take k w.issued ++ landed_writes ws) (sym a.0.landed_is) ∙ ap (λ l. take (landed e (dropping_of n w)) l ++ landed_writes ws) (sym a.0.issued) ∙ ap (λ l. take (landed e (dropping_of n w)) (issued_by e (dropping_of n w)) ++ l) (landed_parts ws a.1)

  counts_tallies : (ws : List PlainWriter) → AllByRecursion (MirrorsWriter e n) ws → counts ws ≡ tallies e (droppings_of n ws)
  counts_tallies [] a = refl
  counts_tallies (w ∷ ws) a =
      ap (λ k. if nat_eq k 0 then counts ws else record { writer = w.id; count = k } ∷ counts ws) (sym a.0.landed_is) ∙ ap (λ l. if nat_eq (landed e (dropping_of n w)) 0 then l else record { writer = w.id; count = landed e (dropping_of n w) } ∷ l) (counts_tallies ws a.1)

  -- the same writers have something that has landed
  pub some_same : only_some e (droppings_in cut) ≡ only_some e (droppings_of n room.writers)
  some_same = same_droppings (only_some e (droppings_in cut)) (only_some e (droppings_of n room.writers)) (rise_some e (droppings_in cut) (cut_rise n cut v.rise)) (rise_some e (droppings_of n room.writers) (writers_rise n room.writers o.rise)) to back
    where
      to : (d : Dropping) → Among d (only_some e (droppings_in cut)) → Among d (only_some e (droppings_of n room.writers))
      to d a =
          let x = of_some e (droppings_in cut) d a in
          let g = cut_among cut d x.0 in
          let here : d.room ≡ n = ap (λ (z : Dropping). z.room) g.2 ∙ cut_room n cut g.0 v.rise g.1 in
          let named : IsNamed d = subst IsNamed (sym g.2) (its_prefix g.0 g.1).stands.is_item in
          let w = any_found (λ (z : PlainWriter). dropping_of n z ≡ d) room.writers (o.all d named here (inl x.1)) in
          among_some e (droppings_of n room.writers) d (subst (λ z. Among z (droppings_of n room.writers)) w.2 (among_writers n room.writers w.0 w.1)) x.1

      back : (d : Dropping) → Among d (only_some e (droppings_of n room.writers)) → Among d (only_some e (droppings_in cut))
      back d a =
          let x = of_some e (droppings_of n room.writers) d a in
          let w = writer_among n room.writers d x.0 in
          let named : IsNamed d = subst IsNamed (sym w.2) (All-Among (MirrorsWriter e n) room.writers w.0 o.writers w.1).named in
          let here : d.room ≡ n = ap (λ (z : Dropping). z.room) w.2 in
          let g = any_found (λ (z : Gathered). z.dropping ≡ d) cut (v.complete d here (stays d (stood_some e d named x.1))) in
          among_some e (droppings_in cut) d (subst (λ z. Among z (droppings_in cut)) g.2 (among_cut cut g.0 g.1)) x.1

  -- The writes of the cut are those that have landed in the machine's room.
  pub writes_same : writes_in e cut ≡ landed_writes room.writers
  writes_same =
      writes_parts cut v.admissible ∙ sym (parts_some e (droppings_in cut)) ∙ ap (parts e) some_same ∙ parts_some e (droppings_of n room.writers) ∙ sym (landed_parts room.writers o.writers)

  -- So are how many there are of each writer.
  pub counts_same : tallies e (droppings_in cut) ≡ counts room.writers
  counts_same = sym (tallies_some e (droppings_in cut)) ∙ ap (tallies e) some_same ∙ tallies_some e (droppings_of n room.writers) ∙ sym (counts_tallies room.writers o.writers)

  -- and the truncates
  pub truncs_same : truncs ≡ room.truncs
  truncs_same = truncs_one e n truncs room.truncs v.all_truncs o.truncs
