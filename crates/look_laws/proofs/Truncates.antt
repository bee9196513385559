-- The truncates that a look lists are those of the names, by rising stamp.
use Rattle.std.proofs.Common.{◌≡◌, inl, inr, ℕ, true, false, List, [], ◌∷◌, Option, Some, None, refl, sym, ap, ◌∙◌, subst, arith}
use Rattle.std.specs.Prelude.{nat_le}
use Rattle.std.specs.List.{Any, AllByRecursion}
use Rattle.std.proofs.lemmas.Bool.{cases_Bool, cond-true, cond-false}
use Rattle.std.proofs.lemmas.Bool.Decides.{nat_tests}
use Rattle.std.proofs.lemmas.List.Elements.{All-from_recursion}
use Rattle.plfs_types.specs.declared.entries.Trunc.{Trunc}
use Rattle.plfs_types.specs.declared.names.Path.{Path}
use Rattle.container_layout.specs.declared.items.Item.TheVariants as item
use Rattle.container_layout.specs.Paths.{path_of}
use Rattle.store_api.specs.Room.{is_top}
use Rattle.store_laws.specs.Files.{file_at}
use Rattle.store_laws.specs.There.{ListsFolder}
use Rattle.store_laws.proofs.Facts.{ordered_differ}
use Rattle.plain_file.specs.Size.{is_later, last_trunc, later}
use Rattle.plain_file.proofs.Facts.{Among}
use Rattle.mount_model.specs.Paths.{Name, truncs}
use Rattle.mount_sound.specs.Items.{HasItem}
use Rattle.mount_model.specs.Names.{trunc_in}
use Rattle.mount_model.specs.Order.{ordered_by, put_by, truncs_by_stamp}
use Rattle.mount_model.proofs.Flows.Facts.{trunc_in-found, trunc_in-is}
use Rattle.reader_laws.specs.GatheringListing.{AreTruncsOf, IsTruncName, StampsRise}
use Rattle.reader_laws.specs.Moments.{IsSoundAt, Moment}
use Rattle.reader_laws.proofs.Gathered.Facts.{any_found, found_any, is_among, named_file}
use Rattle.look_laws.proofs.Named.{AreOf, differ_so, name_of, told_by_name}
use Rattle.look_laws.proofs.Orders.{Differ, Rise, among_ordered, differ_ordered, ordered_among, rise_ordered}

-- ---- the last truncate is the last in any order

same_trunc : (a b : Trunc) → a.stamp ≡ b.stamp → a.size ≡ b.size → a ≡ b
same_trunc a b s z = λ i. record { stamp = s i; size = z i }

either_last : (a b : Trunc) → later (Some a) (Some b) ≡ later (Some b) (Some a)
either_last a b = elim (cases_Bool (is_later b a)) as (λ _. later (Some a) (Some b) ≡ later (Some b) (Some a)) [
  | inl above ↦ cond-true (is_later b a) (Some b) (Some a) above ∙ sym (cond-false (is_later a b) (Some a) (Some b) (one_way a b above))
  | inr no_later ↦ elim (cases_Bool (is_later a b)) as (λ _. later (Some a) (Some b) ≡ later (Some b) (Some a)) [
    | inl above ↦ cond-false (is_later b a) (Some b) (Some a) no_later ∙ sym (cond-true (is_later a b) (Some a) (Some b) above)
    | inr neither ↦ cond-false (is_later b a) (Some b) (Some a) no_later ∙ ap (λ (t : Trunc). Some t) (same_trunc a b (one_stamp a b no_later neither) (one_size a b no_later neither)) ∙ sym (cond-false (is_later a b) (Some a) (Some b) neither)
  ]
]
  where
    one_way : (a b : Trunc) → is_later b a ≡ true → is_later a b ≡ false
    one_way a b h = grind (arith, nat_tests)

    one_stamp : (a b : Trunc) → is_later b a ≡ false → is_later a b ≡ false → a.stamp ≡ b.stamp
    one_stamp a b h k = grind (arith, nat_tests)

    one_size : (a b : Trunc) → is_later b a ≡ false → is_later a b ≡ false → a.size ≡ b.size
    one_size a b h k = grind (arith, nat_tests)

above_both : (a b c : Trunc) → is_later c b ≡ true → is_later c a ≡ false → is_later a b ≡ true
above_both a b c h k = grind (arith, nat_tests)

swapped : (a b : Trunc) (o : Option Trunc) → later (Some a) (later (Some b) o) ≡ later (Some b) (later (Some a) o)
swapped a b None = either_last a b
swapped a b (Some c) = elim (cases_Bool (is_later c b)) as (λ _. later (Some a) (later (Some b) (Some c)) ≡ later (Some b) (later (Some a) (Some c))) [
  | inl over_b ↦ elim (cases_Bool (is_later c a)) as (λ _. later (Some a) (later (Some b) (Some c)) ≡ later (Some b) (later (Some a) (Some c))) [
    | inl over_a ↦ ap (later (Some a)) (cond-true (is_later c b) (Some c) (Some b) over_b) ∙ cond-true (is_later c a) (Some c) (Some a) over_a
        ∙ sym (ap (later (Some b)) (cond-true (is_later c a) (Some c) (Some a) over_a) ∙ cond-true (is_later c b) (Some c) (Some b) over_b)
    | inr under_a ↦ ap (later (Some a)) (cond-true (is_later c b) (Some c) (Some b) over_b) ∙ cond-false (is_later c a) (Some c) (Some a) under_a
        ∙ sym (ap (later (Some b)) (cond-false (is_later c a) (Some c) (Some a) under_a) ∙ cond-true (is_later a b) (Some a) (Some b) (above_both a b c over_b under_a))
  ]
  | inr under_b ↦ elim (cases_Bool (is_later c a)) as (λ _. later (Some a) (later (Some b) (Some c)) ≡ later (Some b) (later (Some a) (Some c))) [
    | inl over_a ↦ ap (later (Some a)) (cond-false (is_later c b) (Some c) (Some b) under_b) ∙ cond-true (is_later b a) (Some b) (Some a) (above_both b a c over_a under_b)
        ∙ sym (ap (later (Some b)) (cond-true (is_later c a) (Some c) (Some a) over_a) ∙ cond-false (is_later c b) (Some c) (Some b) under_b)
    | inr under_a ↦ ap (later (Some a)) (cond-false (is_later c b) (Some c) (Some b) under_b) ∙ either_last a b ∙ sym (ap (later (Some b)) (cond-false (is_later c a) (Some c) (Some a) under_a))
  ]
]

last_put : (number : Trunc → ℕ) (a : Trunc) (ts : List Trunc) → last_trunc (put_by number a ts) ≡ later (Some a) (last_trunc ts)
last_put number a [] = refl
last_put number a (t ∷ ts) = elim (cases_Bool (nat_le (number a) (number t))) as (λ _. last_trunc (put_by number a (t ∷ ts)) ≡ later (Some a) (last_trunc (t ∷ ts))) [
  | inl first ↦ ap last_trunc (cond-true (nat_le (number a) (number t)) (a ∷ t ∷ ts) (t ∷ put_by number a ts) first)
  | inr behind ↦ ap last_trunc (cond-false (nat_le (number a) (number t)) (a ∷ t ∷ ts) (t ∷ put_by number a ts) behind) ∙ ap (later (Some t)) (last_put number a ts) ∙ swapped t a (last_trunc ts)
]

last_ordered : (number : Trunc → ℕ) (ts : List Trunc) → last_trunc (ordered_by number ts) ≡ last_trunc ts
last_ordered number [] = refl
last_ordered number (t ∷ ts) = last_put number t (ordered_by number ts) ∙ ap (later (Some t)) (last_ordered number ts)

pub last_by_stamp : (ts : List Trunc) → last_trunc (truncs_by_stamp ts) ≡ last_trunc ts
last_by_stamp ts = last_ordered (λ (t : Trunc). t.stamp) (ordered_by (λ (t : Trunc). t.size) ts) ∙ last_ordered (λ (t : Trunc). t.size) ts

-- ---- the truncates of names

abbrev stamp_of : Trunc → ℕ
stamp_of t = t.stamp

stamps_rise : (ts : List Trunc) → Rise stamp_of ts → StampsRise ts
stamps_rise [] rise = tt
stamps_rise (t ∷ ts) rise = (rise.0, stamps_rise ts rise.1)

members : (P : Trunc → Type 0) (ts : List Trunc) → ((t : Trunc) → Among t ts → P t) → AllByRecursion P ts
members P [] f = tt
members P (t ∷ ts) f = (f t (inl refl), members P ts (λ u a. f u (inr a)))

by_stamp_among : (t : Trunc) (ts : List Trunc) → Among t ts → Among t (truncs_by_stamp ts)
by_stamp_among t ts a = among_ordered stamp_of t (ordered_by (λ (u : Trunc). u.size) ts) (among_ordered (λ (u : Trunc). u.size) t ts a)

among_by_stamp : (t : Trunc) (ts : List Trunc) → Among t (truncs_by_stamp ts) → Among t ts
among_by_stamp t ts a = ordered_among (λ (u : Trunc). u.size) t ts (ordered_among stamp_of t (ordered_by (λ (u : Trunc). u.size) ts) a)

its_name : (name : Name) (t : Trunc) → IsTruncName name t → name ≡ (path_of (item.Trunc t.stamp t.size)).file
its_name name t is = ap (λ (p : Path). p.file) is.printed

-- Of a folder that was listed, truncates that its names tell are those of the names.
pub truncs_named_so : (m : Moment) (s : IsSoundAt m) (room : ℕ) (names : List Name) (ts : List Trunc) → ListsFolder s.shape.tree room truncs names → AreOf trunc_in names ts → AreTruncsOf names (truncs_by_stamp ts)
truncs_named_so m s room names ts l are = record {
  rise = stamps_rise (truncs_by_stamp ts) (rise_ordered stamp_of (ordered_by (λ (t : Trunc). t.size) ts) (differ_ordered stamp_of (λ (t : Trunc). t.size) ts differ));
  named = All-from_recursion (λ (t : Trunc). Any (λ name. IsTruncName name t) names) (truncs_by_stamp ts)
      (members (λ (t : Trunc). Any (λ name. IsTruncName name t) names) (truncs_by_stamp ts) (λ t a. (let n = name_of trunc_in names ts are t (among_by_stamp t ts a) in found_any (λ name. IsTruncName name t) names n.0 n.1 (trunc_in-found n.0 t n.2))));
  all = λ t any. (let f = any_found (λ name. IsTruncName name t) names any in
      is_among (truncs_by_stamp ts) t (by_stamp_among t ts (told_by_name trunc_in names ts are f.0 f.1 t (trunc_in-is f.0 t.stamp t.size f.2))));
}
  where
    below_top : is_top truncs ≡ false
    below_top = refl

    one_name : (name other : Name) (t u : Trunc) → Among name names → Among other names → trunc_in name ≡ Some t → trunc_in other ≡ Some u → t.stamp ≡ u.stamp → name ≡ other
    one_name name other t u a b is also same =
        let here = trunc_in-found name t is in
        let there = trunc_in-found other u also in
        let f = named_file l.room truncs name names below_top l.entries a in
        let g = named_file l.room truncs other names below_top l.entries b in
        let one : HasItem l.room (item.Trunc t.stamp t.size) f.0 = record { is_item = here.is_item; there = subst (λ (p : Path). file_at l.room p ≡ Some f.0) here.printed f.1 } in
        let two : HasItem l.room (item.Trunc u.stamp u.size) g.0 = record { is_item = there.is_item; there = subst (λ (p : Path). file_at l.room p ≡ Some g.0) there.printed g.1 } in
        let at_one : HasItem l.room (item.Trunc t.stamp u.size) g.0 = subst (λ k. HasItem l.room (item.Trunc k u.size) g.0) (sym same) two in
        let size : t.size ≡ u.size = (s.sound.rooms room l.room l.has_room).truncates t.stamp t.size u.size f.0 g.0 one at_one in
        its_name name t here ∙ (λ i. (path_of (item.Trunc (same i) (size i))).file) ∙ sym (its_name other u there)

    differ : Differ stamp_of ts
    differ = differ_so trunc_in stamp_of names names ts (λ n a. a) (ordered_differ names l.entries.ordered) are one_name
