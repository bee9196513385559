-- The bytes that metadata tells of are those of the cut.
use Rattle.std.proofs.Common.{◌≡◌, ◌⊎◌, inl, inr, ℕ, ◌<◌, true, false, List, [], ◌∷◌, refl, sym, ap, ◌∙◌, subst, arith, eq-eqb}
use Rattle.std.specs.Prelude.{◌==◌}
use Rattle.std.specs.List.{AllByRecursion}
use Rattle.std.proofs.lemmas.Bool.{cases_Bool, cond-true, cond-false}
use Rattle.plfs_types.specs.declared.entries.ShareBytes.{ShareBytes}
use Rattle.index_entry.specs.Entries.{logged}
use Rattle.plain_file.proofs.Facts.{All-Among, Among}
use Rattle.mount_model.specs.declared.names.Metadata.{Metadata}
use Rattle.attr_flow.specs.Shares.{shares_left, with_share}
use Rattle.reader_laws.specs.Gathering.{Gathered}
use Rattle.reader_laws.specs.Moments.{Moment}
use Rattle.reader_laws.specs.View.{WritersRise, own_entries}
use Rattle.look_laws.specs.Shares.{shares_seen}
use Rattle.look_laws.proofs.Cuts.{IsLeftOf}
use Rattle.look_laws.proofs.Leavings.{writer_left}
use Rattle.look_laws.proofs.Orders.{Rise}

-- ---- lists of shares by rising writer that have the same members are one

abbrev of_writer : ShareBytes → ℕ
of_writer s = s.writer

share : ℕ → ℕ → ShareBytes
share writer bytes = record { writer = writer; bytes = bytes }

below : (s t : ShareBytes) (ss : List ShareBytes) → Rise of_writer (s ∷ ss) → Among t ss → s.writer < t.writer
below s t ss rise a = All-Among (λ (u : ShareBytes). s.writer < u.writer) ss t rise.0 a

same_shares : (xs ys : List ShareBytes) → Rise of_writer xs → Rise of_writer ys → ((s : ShareBytes) → Among s xs → Among s ys) → ((s : ShareBytes) → Among s ys → Among s xs) → xs ≡ ys
same_shares [] [] rx ry to back = refl
same_shares [] (y ∷ ys) rx ry to back = absurd (back y (inl refl))
same_shares (x ∷ xs) [] rx ry to back = absurd (to x (inl refl))
same_shares (x ∷ xs) (y ∷ ys) rx ry to back =
    let first : x ≡ y = heads (to x (inl refl)) (back y (inl refl)) in
    ap (λ s. s ∷ xs) first ∙ ap (λ ss. y ∷ ss)
    (same_shares xs ys rx.1 ry.1
    (λ s a. others x s xs ys (below x s xs rx a) first (to s (inr a)))
    (λ s a. others y s ys xs (below y s ys ry a) (sym first) (back s (inr a))))
  where
    heads : Among x (y ∷ ys) → Among y (x ∷ xs) → x ≡ y
    heads (inl e) b = e
    heads (inr a) (inl e) = sym e
    heads (inr a) (inr b) = absurd (omega (arith, below y x ys ry a, below x y xs rx b))

    others : (first s : ShareBytes) (here there : List ShareBytes) {head : ShareBytes} → first.writer < s.writer → first ≡ head → Among s (head ∷ there) → Among s there
    others first s here there l same (inl e) = absurd (omega (arith, l, ap (λ (u : ShareBytes). u.writer) same, ap (λ (u : ShareBytes). u.writer) e))
    others first s here there l same (inr a) = a

-- ---- with one share more, or none

with_none : (writer bytes : ℕ) (ss : List ShareBytes) → (bytes == 0) ≡ true → with_share writer bytes ss ≡ ss
with_none writer bytes ss e = cond-true (bytes == 0) ss (record { writer = writer; bytes = bytes } ∷ ss) e

with_some : (writer bytes : ℕ) (ss : List ShareBytes) → (bytes == 0) ≡ false → with_share writer bytes ss ≡ record { writer = writer; bytes = bytes } ∷ ss
with_some writer bytes ss e = cond-false (bytes == 0) ss (record { writer = writer; bytes = bytes } ∷ ss) e

-- it is of this writer, who has so many bytes, or one of the others
with_among : (writer bytes : ℕ) (ss : List ShareBytes) (s : ShareBytes) → Among s (with_share writer bytes ss) → ((s ≡ record { writer = writer; bytes = bytes }) × ((bytes == 0) ≡ false)) ⊎ Among s ss
with_among writer bytes ss s a = elim (cases_Bool (bytes == 0)) as (λ _. ((s ≡ record { writer = writer; bytes = bytes }) × ((bytes == 0) ≡ false)) ⊎ Among s ss) [
  | inl none ↦ inr (subst (Among s) (with_none writer bytes ss none) a)
  | inr some ↦ of some (subst (Among s) (with_some writer bytes ss some) a)
]
  where
    of : (bytes == 0) ≡ false → Among s (record { writer = writer; bytes = bytes } ∷ ss) → ((s ≡ record { writer = writer; bytes = bytes }) × ((bytes == 0) ≡ false)) ⊎ Among s ss
    of some (inl e) = inl (e, some)
    of some (inr b) = inr b

among_with : (writer bytes : ℕ) (ss : List ShareBytes) → (bytes == 0) ≡ false → Among (record { writer = writer; bytes = bytes }) (with_share writer bytes ss)
among_with writer bytes ss some = subst (Among (record { writer = writer; bytes = bytes })) (sym (with_some writer bytes ss some)) (inl refl)

among_behind : (writer bytes : ℕ) (ss : List ShareBytes) (s : ShareBytes) → Among s ss → Among s (with_share writer bytes ss)
among_behind writer bytes ss s a = elim (cases_Bool (bytes == 0)) as (λ _. Among s (with_share writer bytes ss)) [
  | inl none ↦ subst (Among s) (sym (with_none writer bytes ss none)) a
  | inr some ↦ subst (Among s) (sym (with_some writer bytes ss some)) (inr a)
]

rise_with : (writer bytes : ℕ) (ss : List ShareBytes) → AllByRecursion (λ (s : ShareBytes). writer < s.writer) ss → Rise of_writer ss → Rise of_writer (with_share writer bytes ss)
rise_with writer bytes ss above rise = elim (cases_Bool (bytes == 0)) as (λ _. Rise of_writer (with_share writer bytes ss)) [
  | inl none ↦ subst (Rise of_writer) (sym (with_none writer bytes ss none)) rise
  | inr some ↦ subst (Rise of_writer) (sym (with_some writer bytes ss some)) (above, rise)
]

all_with : (P : ShareBytes → Type 0) (writer bytes : ℕ) (ss : List ShareBytes) → P (record { writer = writer; bytes = bytes }) → AllByRecursion P ss → AllByRecursion P (with_share writer bytes ss)
all_with P writer bytes ss p all = elim (cases_Bool (bytes == 0)) as (λ _. AllByRecursion P (with_share writer bytes ss)) [
  | inl none ↦ subst (AllByRecursion P) (sym (with_none writer bytes ss none)) all
  | inr some ↦ subst (AllByRecursion P) (sym (with_some writer bytes ss some)) (p, all)
]

-- ---- of metadata

left_above : (least : ℕ) (metas : List Metadata) → AllByRecursion (λ (m : Metadata). least < m.writer) metas → AllByRecursion (λ (s : ShareBytes). least < s.writer) (shares_left metas)
left_above least [] all = tt
left_above least (m ∷ metas) all = all_with (λ (s : ShareBytes). least < s.writer) m.writer m.bytes (shares_left metas) all.0 (left_above least metas all.1)

left_rise : (metas : List Metadata) → Rise writer_left metas → Rise of_writer (shares_left metas)
left_rise [] rise = tt
left_rise (m ∷ metas) rise = rise_with m.writer m.bytes (shares_left metas) (left_above m.writer metas rise.0) (left_rise metas rise.1)

of_left : (metas : List Metadata) (s : ShareBytes) → Among s (shares_left metas) → (m : Metadata) × Among m metas × (s ≡ record { writer = m.writer; bytes = m.bytes }) × ((m.bytes == 0) ≡ false)
of_left [] s a = absurd a
of_left (m ∷ metas) s a = of (with_among m.writer m.bytes (shares_left metas) s a) (λ b. of_left metas s b)
  where
    of : ((s ≡ record { writer = m.writer; bytes = m.bytes }) × ((m.bytes == 0) ≡ false)) ⊎ Among s (shares_left metas) → (Among s (shares_left metas) → (k : Metadata) × Among k metas × (s ≡ record { writer = k.writer; bytes = k.bytes }) × ((k.bytes == 0) ≡ false))
        → (k : Metadata) × Among k (m ∷ metas) × (s ≡ record { writer = k.writer; bytes = k.bytes }) × ((k.bytes == 0) ≡ false)
    of (inl e) later = (m, inl refl, e.0, e.1)
    of (inr b) later = let k = later b in (k.0, inr k.1, k.2, k.3)

left_has : (metas : List Metadata) (m : Metadata) → Among m metas → (m.bytes == 0) ≡ false → Among (record { writer = m.writer; bytes = m.bytes }) (shares_left metas)
left_has [] m a some = absurd a
left_has (x ∷ metas) m (inl e) some = subst (λ (k : Metadata). Among (record { writer = k.writer; bytes = k.bytes }) (shares_left (x ∷ metas))) (sym e) (among_with x.writer x.bytes (shares_left metas) (subst (λ (k : Metadata). (k.bytes == 0) ≡ false) e some))
left_has (x ∷ metas) m (inr a) some = among_behind x.writer x.bytes (shares_left metas) (record { writer = m.writer; bytes = m.bytes }) (left_has metas m a some)

-- ---- of a cut

module _ (end : Moment) where
  abbrev sum : Gathered → ℕ
  sum g = logged (own_entries end g)

  seen_above : (least : ℕ) (cut : List Gathered) → AllByRecursion (λ (g : Gathered). least < g.dropping.writer) cut → AllByRecursion (λ (s : ShareBytes). least < s.writer) (shares_seen end cut)
  seen_above least [] all = tt
  seen_above least (g ∷ cut) all = all_with (λ (s : ShareBytes). least < s.writer) g.dropping.writer (sum g) (shares_seen end cut) all.0 (seen_above least cut all.1)

  seen_rise : (room : ℕ) (cut : List Gathered) → WritersRise room cut → Rise of_writer (shares_seen end cut)
  seen_rise room [] rise = tt
  seen_rise room (g ∷ cut) rise = rise_with g.dropping.writer (sum g) (shares_seen end cut) (seen_above g.dropping.writer cut rise.1) (seen_rise room cut rise.2)

  of_seen : (cut : List Gathered) (s : ShareBytes) → Among s (shares_seen end cut) → (g : Gathered) × Among g cut × (s ≡ record { writer = g.dropping.writer; bytes = sum g }) × ((sum g == 0) ≡ false)
  of_seen [] s a = absurd a
  of_seen (g ∷ cut) s a = of (with_among g.dropping.writer (sum g) (shares_seen end cut) s a) (λ b. of_seen cut s b)
    where
      of : ((s ≡ record { writer = g.dropping.writer; bytes = sum g }) × ((sum g == 0) ≡ false)) ⊎ Among s (shares_seen end cut) → (Among s (shares_seen end cut) → (k : Gathered) × Among k cut × (s ≡ record { writer = k.dropping.writer; bytes = sum k }) × ((sum k == 0) ≡ false))
          → (k : Gathered) × Among k (g ∷ cut) × (s ≡ record { writer = k.dropping.writer; bytes = sum k }) × ((sum k == 0) ≡ false)
      of (inl e) later = (g, inl refl, e.0, e.1)
      of (inr b) later = let k = later b in (k.0, inr k.1, k.2, k.3)

  seen_has : (cut : List Gathered) (g : Gathered) → Among g cut → (sum g == 0) ≡ false → Among (record { writer = g.dropping.writer; bytes = sum g }) (shares_seen end cut)
  seen_has [] g a some = absurd a
  seen_has (x ∷ cut) g (inl e) some =
      subst (λ (k : Gathered). Among (record { writer = k.dropping.writer; bytes = sum k }) (shares_seen end (x ∷ cut))) (sym e) (among_with x.dropping.writer (sum x) (shares_seen end cut) (subst (λ (k : Gathered). (sum k == 0) ≡ false) e some))
  seen_has (x ∷ cut) g (inr a) some = among_behind x.dropping.writer (sum x) (shares_seen end cut) (record { writer = g.dropping.writer; bytes = sum g }) (seen_has cut g a some)

  share_same : (m : Metadata) (g : Gathered) → IsLeftOf end m g → ◌≡◌ {A = ShareBytes} (record { writer = m.writer; bytes = m.bytes }) (record { writer = g.dropping.writer; bytes = sum g })
  share_same m g l = λ i. record { writer = l.same i; bytes = l.told.sum i }

  -- The shares that metadata tells are those of a cut of which it tells.
  pub shares_same : (room : ℕ) (metas : List Metadata) (cut : List Gathered) → Rise writer_left metas → WritersRise room cut → ((g : Gathered) → Among g cut → ((x : Metadata) × Among x metas × IsLeftOf end x g) ⊎ (own_entries end g ≡ []))
      → ((x : Metadata) → Among x metas → ((g : Gathered) × Among g cut × IsLeftOf end x g) ⊎ ((x.last ≡ 0) × (x.bytes ≡ 0))) → shares_left metas ≡ shares_seen end cut
  shares_same room metas cut rise rises each all =
      same_shares (shares_left metas) (shares_seen end cut) (left_rise metas rise) (seen_rise room cut rises)
      (λ s a. let m = of_left metas s a in subst (λ t. Among t (shares_seen end cut)) (sym m.2) (forth m.0 m.3 (all m.0 m.1)))
      (λ s a. let g = of_seen cut s a in subst (λ t. Among t (shares_left metas)) (sym g.2) (back g.0 g.3 (each g.0 g.1)))
    where
      no_bytes : (n : ℕ) → (n == 0) ≡ false → n ≡ 0 → ⊥
      no_bytes n some none = (let e : (n == 0) ≡ true = eq-eqb n 0 none in let clash : true ≡ false = sym e ∙ some in cc)

      forth : (m : Metadata) → (m.bytes == 0) ≡ false → ((g : Gathered) × Among g cut × IsLeftOf end m g) ⊎ ((m.last ≡ 0) × (m.bytes ≡ 0)) → Among (record { writer = m.writer; bytes = m.bytes }) (shares_seen end cut)
      forth m some (inl (g, a, l)) = subst (λ t. Among t (shares_seen end cut)) (sym (share_same m g l)) (seen_has cut g a (subst (λ n. (n == 0) ≡ false) l.told.sum some))
      forth m some (inr none) = absurd (no_bytes m.bytes some none.1)

      back : (g : Gathered) → (sum g == 0) ≡ false → ((x : Metadata) × Among x metas × IsLeftOf end x g) ⊎ (own_entries end g ≡ []) → Among (record { writer = g.dropping.writer; bytes = sum g }) (shares_left metas)
      back g some (inl (x, a, l)) = subst (λ t. Among t (shares_left metas)) (share_same x g l) (left_has metas x a (subst (λ n. (n == 0) ≡ false) (sym l.told.sum) some))
      back g some (inr none) = absurd (no_bytes (sum g) some (ap logged none))
