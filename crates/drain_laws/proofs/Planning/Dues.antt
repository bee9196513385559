-- What is due, and what was settled at the target, of the writers that were read.
use Rattle.std.proofs.Common.{◌≡◌, ℕ, ◌≤◌, nat_lt, true, false, List, [], ◌∷◌, ◌++◌, length, take, Option, Some, None, refl, ap, sym, ◌∙◌, inl, inr, subst, arith}
use Rattle.std.specs.Prelude.{if◌then◌else◌, ◌&&◌}
use Rattle.std.specs.List.{AllByRecursion}
use Rattle.std.proofs.lemmas.Bool.{cases_Bool, cond-true, cond-false}
use Rattle.std.proofs.lemmas.Bool.Decides.{nat_tests}
use Rattle.plain_file.proofs.Facts.{Among, All-Among}
use Rattle.plfs_types.specs.declared.entries.Entry.{Entry}
use Rattle.container_layout.specs.declared.items.Item.TheVariants.{Index}
use Rattle.container_layout.specs.Items.{IsItem}
use Rattle.mount_sound.specs.Entries.{logged}
use Rattle.mount_sound.proofs.Facts.{logged_take, take_less}
use Rattle.reader_laws.proofs.Gathered.Facts.{among_right}
use Rattle.drain_read.specs.declared.held.Held.{Held}
use Rattle.drain_read.specs.declared.held.Mirror.{Mirror}
use Rattle.drain_read.specs.declared.read.WriterRead.{WriterRead}
use Rattle.drain_copy.specs.declared.outcome.DrainStuck.TheVariants.{Taken}
use Rattle.drain_copy.specs.declared.plan.Due.{Due}
use Rattle.drain_copy.specs.declared.plan.Owner.{Owner}
use Rattle.drain_copy.specs.Planning.{count_there, due_of, dues_of, is_new, is_settled, is_taken, mirror_in, owners_of, taken}
use Rattle.drain_laws.proofs.Planning.Aims.{AreApart, IsApart}
use Rattle.drain_laws.proofs.Planning.Plan.{settled_if, settled_of}
use Rattle.drain_laws.proofs.Reading.Read.{Differ}

module _ (P : Due → Type 0) (held : Held) where
  pub dues_all : (ws : List WriterRead) → ((w : WriterRead) → Among w ws → is_settled held w.writer ≡ false → P (due_of held w)) → AllByRecursion P (dues_of held ws)
  dues_all [] h = tt
  dues_all (w ∷ ws) h = elim (cases_Bool (is_settled held w.writer)) as (λ _. AllByRecursion P (dues_of held (w ∷ ws))) [
    | inl there ↦ subst (λ l. AllByRecursion P (l ++ dues_of held ws)) (sym (cond-true (is_settled held w.writer) [] (due_of held w ∷ []) there)) (dues_all ws (λ x a. h x (inr a)))
    | inr free ↦ subst (λ l. AllByRecursion P (l ++ dues_of held ws)) (sym (cond-false (is_settled held w.writer) [] (due_of held w ∷ []) free)) (h w (inl refl) free, dues_all ws (λ x a. h x (inr a)))
  ]

  pub settled_all : (ws : List WriterRead) → ((w : WriterRead) → Among w ws → is_settled held w.writer ≡ true → (x : Mirror) → mirror_in held.mirrors w.writer ≡ Some x → P (due_of held w)) → AllByRecursion P (settled_of held ws)
  settled_all [] h = tt
  settled_all (w ∷ ws) h = elim (cases_Bool (is_settled held w.writer)) as (λ _. AllByRecursion P (settled_of held (w ∷ ws))) [
    | inl there ↦ subst (λ l. AllByRecursion P (l ++ settled_of held ws)) (sym (cond-true (is_settled held w.writer) (settled_if held w (mirror_in held.mirrors w.writer)) [] there)) (by_mirror (settled_all ws (λ x a. h x (inr a))) (mirror_in held.mirrors w.writer) refl there)
    | inr free ↦ subst (λ l. AllByRecursion P (l ++ settled_of held ws)) (sym (cond-false (is_settled held w.writer) (settled_if held w (mirror_in held.mirrors w.writer)) [] free)) (settled_all ws (λ x a. h x (inr a)))
  ]
    where
      by_mirror : AllByRecursion P (settled_of held ws) → (found : Option Mirror) → mirror_in held.mirrors w.writer ≡ found → is_settled held w.writer ≡ true → AllByRecursion P (settled_if held w found ++ settled_of held ws)
      by_mirror rest None e there = rest
      by_mirror rest (Some x) e there = (h w (inl refl) there x e, rest)

pub dues_among : (held : Held) (ws : List WriterRead) (w : WriterRead) → Among w ws → is_settled held w.writer ≡ false → Among (due_of held w) (dues_of held ws)
dues_among held [] w a free = absurd a
dues_among held (v ∷ ws) w (inl same) free =
    let f : is_settled held v.writer ≡ false = subst (λ (x : WriterRead). is_settled held x.writer ≡ false) same free in
    subst (λ l. Among (due_of held w) (l ++ dues_of held ws)) (sym (cond-false (is_settled held v.writer) [] (due_of held v ∷ []) f)) (inl (ap (due_of held) same))
dues_among held (v ∷ ws) w (inr a) free = elim (cases_Bool (is_settled held v.writer)) as (λ _. Among (due_of held w) (dues_of held (v ∷ ws))) [
  | inl there ↦ subst (λ l. Among (due_of held w) (l ++ dues_of held ws)) (sym (cond-true (is_settled held v.writer) [] (due_of held v ∷ []) there)) (dues_among held ws w a free)
  | inr f ↦ subst (λ l. Among (due_of held w) (l ++ dues_of held ws)) (sym (cond-false (is_settled held v.writer) [] (due_of held v ∷ []) f)) (inr (dues_among held ws w a free))
]

pub settled_among : (held : Held) (ws : List WriterRead) (w : WriterRead) (x : Mirror) → Among w ws → is_settled held w.writer ≡ true → mirror_in held.mirrors w.writer ≡ Some x → Among (due_of held w) (settled_of held ws)
settled_among held [] w x a there e = absurd a
settled_among held (v ∷ ws) w x (inl same) there e =
    let f : is_settled held v.writer ≡ true = subst (λ (y : WriterRead). is_settled held y.writer ≡ true) same there in
    let g : mirror_in held.mirrors v.writer ≡ Some x = subst (λ (y : WriterRead). mirror_in held.mirrors y.writer ≡ Some x) same e in
    subst (λ l. Among (due_of held w) (l ++ settled_of held ws)) (sym (cond-true (is_settled held v.writer) (settled_if held v (mirror_in held.mirrors v.writer)) [] f ∙ ap (settled_if held v) g)) (inl (ap (due_of held) same))
settled_among held (v ∷ ws) w x (inr a) there e = among_right (due_of held w) (if is_settled held v.writer then settled_if held v (mirror_in held.mirrors v.writer) else []) (settled_of held ws) (settled_among held ws w x a there e)

pub none_taken : (held : Held) (ws : List WriterRead) (w : WriterRead) → taken held ws ≡ None → Among w ws → is_taken held w ≡ false
none_taken held [] w e a = absurd a
none_taken held (v ∷ ws) w e a = elim (cases_Bool (is_taken held v)) as (λ _. is_taken held w ≡ false) [
  | inl there ↦ let clash : Some (Taken v.writer (count_there held v.writer) v.cover.count) ≡ None = sym (cond-true (is_taken held v) (Some (Taken v.writer (count_there held v.writer) v.cover.count)) (taken held ws) there) ∙ e in absurd (cc)
  | inr free ↦ by_place a (sym (cond-false (is_taken held v) (Some (Taken v.writer (count_there held v.writer) v.cover.count)) (taken held ws) free) ∙ e) free (λ more b. none_taken held ws w more b)
]
  where
    by_place : Among w (v ∷ ws) → taken held ws ≡ None → is_taken held v ≡ false → (taken held ws ≡ None → Among w ws → is_taken held w ≡ false) → is_taken held w ≡ false
    by_place (inl same) more free later = ap (is_taken held) same ∙ free
    by_place (inr b) more free later = later more b

pub not_more : (held : Held) (w : WriterRead) → is_taken held w ≡ false → is_settled held w.writer ≡ true → nat_lt (count_there held w.writer) w.cover.count ≡ false
not_more held w free there = sym (ap (λ b. b && nat_lt (count_there held w.writer) w.cover.count) there) ∙ free

pub logged_first : (n k : ℕ) (es : List Entry) → n ≤ k → logged (take n es) ≤ logged (take k es)
logged_first n k es l = omega (arith, ap logged (take_less n k es l), logged_take n (take k es))

-- ---- those with new entries

pub owner_among : (ws : List WriterRead) (w : WriterRead) → Among w ws → 1 ≤ length w.entries → Among (record { host = w.host; writer = w.writer }) (owners_of ws)
owner_among [] w a some = absurd a
owner_among (v ∷ ws) w (inl same) some =
    let new : is_new v ≡ true = subst (λ (x : WriterRead). is_new x ≡ true) same (is_some (length w.entries) some) in
    subst (λ os. Among (record { host = w.host; writer = w.writer }) os) (sym (cond-true (is_new v) (record { host = v.host; writer = v.writer } ∷ owners_of ws) (owners_of ws) new))
    (inl (ap (λ (x : WriterRead). record { host = x.host; writer = x.writer }) same))
  where
    is_some : (n : ℕ) → 1 ≤ n → nat_lt 0 n ≡ true
    is_some n some = grind (arith, nat_tests, some)
owner_among (v ∷ ws) w (inr a) some = elim (cases_Bool (is_new v)) as (λ _. Among (record { host = w.host; writer = w.writer }) (owners_of (v ∷ ws))) [
  | inl new ↦ subst (λ os. Among (record { host = w.host; writer = w.writer }) os) (sym (cond-true (is_new v) (record { host = v.host; writer = v.writer } ∷ owners_of ws) (owners_of ws) new)) (inr (owner_among ws w a some))
  | inr old ↦ subst (λ os. Among (record { host = w.host; writer = w.writer }) os) (sym (cond-false (is_new v) (record { host = v.host; writer = v.writer } ∷ owners_of ws) (owners_of ws) old)) (owner_among ws w a some)
]

-- an owner is of a writer with new entries
pub new_owner : (ws : List WriterRead) (o : Owner) (os : List Owner) → owners_of ws ≡ o ∷ os → (w : WriterRead) × Among w ws × (1 ≤ length w.entries)
new_owner [] o os e = absurd (cc)
new_owner (v ∷ ws) o os e = elim (cases_Bool (is_new v)) as (λ _. (w : WriterRead) × Among w (v ∷ ws) × (1 ≤ length w.entries)) [
  | inl new ↦ (v, inl refl, some_new (length v.entries) new)
  | inr old ↦ let r = new_owner ws o os (sym (cond-false (is_new v) (record { host = v.host; writer = v.writer } ∷ owners_of ws) (owners_of ws) old) ∙ e) in (r.0, inr r.1, r.2)
]
  where
    some_new : (n : ℕ) → nat_lt 0 n ≡ true → 1 ≤ n
    some_new n e = grind (arith, nat_tests, e)

-- ---- writers apart

-- each two of these are of two writers
abbrev AreTwoByTwo : List Due → Type 0
AreTwoByTwo [] = Unit {0}
AreTwoByTwo (due ∷ dues) = AllByRecursion (λ other. IsApart due other × IsApart other due) dues × AreTwoByTwo dues

all_from : (P : Due → Type 0) (xs : List Due) → ((x : Due) → Among x xs → P x) → AllByRecursion P xs
all_from P [] h = tt
all_from P (x ∷ xs) h = (h x (inl refl), all_from P xs (λ y a. h y (inr a)))

apart_from : (rest done : List Due) → AreTwoByTwo rest → ((due other : Due) → Among due rest → Among other done → IsApart due other) → AreApart rest done
apart_from [] done two each = tt
apart_from (due ∷ rest) done two each = (
  all_from (IsApart due) rest (λ other a. (All-Among (λ x. IsApart due x × IsApart x due) rest other two.0 a).0),
  all_from (IsApart due) done (λ other a. each due other (inl refl) a),
  apart_from rest (due ∷ done) two.1 (λ x other a b. by_place x other a b),
)
  where
    by_place : (x other : Due) → Among x rest → Among other (due ∷ done) → IsApart x other
    by_place x other a (inl same) = subst (IsApart x) (sym same) (All-Among (λ y. IsApart due y × IsApart y due) rest x two.0 a).1
    by_place x other a (inr b) = each x other (inr a) b

module _ (held : Held) where
  two_by_two : (ws : List WriterRead) → Differ ws → ((w : WriterRead) → Among w ws → IsItem (Index w.host w.writer)) → AreTwoByTwo (dues_of held ws)
  two_by_two [] differ items = tt
  two_by_two (w ∷ ws) differ items = elim (cases_Bool (is_settled held w.writer)) as (λ _. AreTwoByTwo (dues_of held (w ∷ ws))) [
    | inl there ↦ subst (λ l. AreTwoByTwo (l ++ dues_of held ws)) (sym (cond-true (is_settled held w.writer) [] (due_of held w ∷ []) there)) (two_by_two ws differ.1 (λ x a. items x (inr a)))
    | inr free ↦ subst (λ l. AreTwoByTwo (l ++ dues_of held ws)) (sym (cond-false (is_settled held w.writer) [] (due_of held w ∷ []) free)) (
      dues_all (λ other. IsApart (due_of held w) other × IsApart other (due_of held w)) held ws (λ v a open_.
          let other : v.writer ≡ w.writer → ⊥ = All-Among (λ (x : WriterRead). x.writer ≡ w.writer → ⊥) ws v differ.0 a in
          ((other, items v (inr a)), (λ e. other (sym e), items w (inl refl)))),
      two_by_two ws differ.1 (λ x a. items x (inr a)),
    )
  ]

  pub dues_apart : (ws : List WriterRead) → Differ ws → ((w : WriterRead) → Among w ws → IsItem (Index w.host w.writer)) → AreApart (dues_of held ws) (settled_of held ws)
  dues_apart ws differ items =
      let open_ = dues_all (λ (due : Due). is_settled held due.writer ≡ false) held ws (λ w a free. free) in
      let closed = settled_all (λ (due : Due). (is_settled held due.writer ≡ true) × IsItem (Index due.host due.writer)) held ws (λ w a there x e. (there, items w a)) in
      apart_from (dues_of held ws) (settled_of held ws) (two_by_two ws differ items) (λ due other a b.
      let free : is_settled held due.writer ≡ false = All-Among (λ (x : Due). is_settled held x.writer ≡ false) (dues_of held ws) due open_ a in
      let there = All-Among (λ (x : Due). (is_settled held x.writer ≡ true) × IsItem (Index x.host x.writer)) (settled_of held ws) other closed b in
      (λ e. (let clash : true ≡ false = sym there.0 ∙ ap (is_settled held) e ∙ free in cc), there.1))
