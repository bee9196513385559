-- Who runs the program that lists truncates has those of the names.
use Rattle.store_laws.specs.There.{ListsFolder}
use Rattle.std.proofs.Common.{◌≡◌, ℕ, suc, ◌+◌, ◌<◌, ◌≤◌, nat_eq, nat_lt, true, false, List, [], ◌∷◌, ◌++◌, take, drop, Some, refl, ap, sym, ◌∙◌, ◌⊎◌, inl, inr, subst, arith}
use Rattle.std.specs.Prelude.{Result, Ok, Err}
use Rattle.std.specs.List.{Any, AllByRecursion}
use Rattle.std.proofs.lemmas.Bool.{cases_Bool, cond-true, cond-false}
use Rattle.std.proofs.lemmas.Bool.Decides.{nat_tests}
use Rattle.std.proofs.lemmas.List.Elements.{All-from_recursion}
use Rattle.plfs_types.specs.declared.entries.Trunc.{Trunc}
use Rattle.plfs_types.specs.declared.names.Path.{Path}
use Rattle.plain_file.proofs.Facts.{Among, cases_Option}
use Rattle.container_layout.specs.declared.items.Item.TheVariants as item
use Rattle.container_layout.specs.Paths.{IsIn, path_of}
use Rattle.store_api.specs.Room.{is_top}
use Rattle.store_laws.specs.Differ.{is_listed, NamesDiffer}
use Rattle.store_laws.specs.Files.{file_at}
use Rattle.store_laws.proofs.Facts.{ordered_differ}
use Rattle.mount_model.specs.declared.call.Ask.{Ask}
use Rattle.mount_model.specs.declared.call.Call.TheVariants.{Look}
use Rattle.mount_model.specs.declared.call.Look.TheVariants.{List as ListFolder}
use Rattle.mount_model.specs.Paths.{Name, truncs as truncs_folder}
use Rattle.mount_model.specs.Step.{IsStep}
use Rattle.mount_model.specs.History.{Event}
use Rattle.mount_sound.specs.Items.{HasItem}
use Rattle.mount_model.specs.declared.stuck.Stuck.{Stuck}
use Rattle.mount_model.specs.Running.{unbroken}
use Rattle.mount_model.specs.FlowReplies.{damage, names_in}
use Rattle.mount_model.specs.Names.{trunc_in}
use Rattle.index_reader.specs.Truncs.{is_before, place_of, inserted, truncs_path, truncs_of, if_trunc}
use Rattle.mount_model.proofs.Flows.Facts.{trunc_in-found, trunc_in-is}
use Rattle.reader_laws.specs.Moments.{Moment, IsSoundAt}
use Rattle.reader_laws.specs.Seen.{asked_in}
use Rattle.reader_laws.specs.GatheringListing.{IsTruncName, StampsRise, AreTruncsOf}
use Rattle.reader_laws.specs.GatheringOpening.{ListsTruncs}
use Rattle.reader_laws.proofs.Gathered.Facts.{All-weaker, among_listed, answers_as, any_found, folder_listed, found_any, is_among, named_file}
use Rattle.reader_laws.proofs.Calls.Calling.{names_given}

-- ---- putting one in its place

put_first : (t u : Trunc) (us : List Trunc) → is_before t u ≡ true → inserted t (u ∷ us) ≡ t ∷ u ∷ us
put_first t u us h = ap (λ n. take n (u ∷ us) ++ t ∷ drop n (u ∷ us)) (cond-true (is_before t u) 0 (1 + place_of t us) h)

one_on : (n : ℕ) → 1 + n ≡ suc n
one_on n = omega arith

put_later : (t u : Trunc) (us : List Trunc) → is_before t u ≡ false → inserted t (u ∷ us) ≡ u ∷ inserted t us
put_later t u us h = ap (λ n. take n (u ∷ us) ++ t ∷ drop n (u ∷ us)) (cond-false (is_before t u) 0 (1 + place_of t us) h ∙ one_on (place_of t us))

-- what holds of it and of the others holds of all
all_put : (P : Trunc → Type 0) (t : Trunc) (us : List Trunc) → P t → AllByRecursion P us → AllByRecursion P (inserted t us)
all_put P t [] p all = (p, tt)
all_put P t (u ∷ us) p all = elim (cases_Bool (is_before t u)) [
  | inl before ↦ subst (AllByRecursion P) (sym (put_first t u us before)) (p, all)
  | inr later ↦ subst (AllByRecursion P) (sym (put_later t u us later)) (all.0, all_put P t us p all.1)
]

before_is : (t u : Trunc) → (t.stamp ≡ u.stamp → ⊥) → is_before t u ≡ true → t.stamp < u.stamp
before_is t u other h =
    let differ : nat_eq t.stamp u.stamp ≡ false = grind (arith, nat_tests) in
    let less : nat_lt t.stamp u.stamp ≡ true = sym (cond-false (nat_eq t.stamp u.stamp) (nat_lt t.size u.size) (nat_lt t.stamp u.stamp) differ) ∙ h in
    grind (arith, nat_tests, less)

later_is : (t u : Trunc) → (t.stamp ≡ u.stamp → ⊥) → is_before t u ≡ false → u.stamp < t.stamp
later_is t u other h =
    let differ : nat_eq t.stamp u.stamp ≡ false = grind (arith, nat_tests) in
    let more : nat_lt t.stamp u.stamp ≡ false = sym (cond-false (nat_eq t.stamp u.stamp) (nat_lt t.size u.size) (nat_lt t.stamp u.stamp) differ) ∙ h in
    let least : u.stamp ≤ t.stamp = grind (arith, nat_tests, more) in
    grind (arith, least, other)

-- stamps that rise do so with one more among them
rise_put : (t : Trunc) (us : List Trunc) → StampsRise us → AllByRecursion (λ (u : Trunc). t.stamp ≡ u.stamp → ⊥) us → StampsRise (inserted t us)
rise_put t [] rise others = (tt, tt)
rise_put t (u ∷ us) rise others = elim (cases_Bool (is_before t u)) [
  | inl before ↦
      let less : t.stamp < u.stamp = before_is t u others.0 before in
      subst StampsRise (sym (put_first t u us before)) ((less, All-weaker (λ (v : Trunc). u.stamp < v.stamp) (λ (v : Trunc). t.stamp < v.stamp) us (λ v l. omega (arith, l, less)) rise.0), rise)
  | inr later ↦
      subst StampsRise (sym (put_later t u us later)) (all_put (λ (v : Trunc). u.stamp < v.stamp) t us (later_is t u others.0 later) rise.0, rise_put t us rise.1 others.1)
]

among_put : (t x : Trunc) (us : List Trunc) → (x ≡ t) ⊎ Among x us → Among x (inserted t us)
among_put t x [] (inl e) = inl e
among_put t x [] (inr a) = absurd a
among_put t x (u ∷ us) a = elim (cases_Bool (is_before t u)) [
  | inl before ↦ subst (Among x) (sym (put_first t u us before)) a
  | inr later ↦ subst (Among x) (sym (put_later t u us later)) (deeper a (λ b. among_put t x us b))
]
  where
    deeper : (x ≡ t) ⊎ Among x (u ∷ us) → ((x ≡ t) ⊎ Among x us → Among x (inserted t us)) → Among x (u ∷ inserted t us)
    deeper (inl e) put = inr (put (inl e))
    deeper (inr (inl e)) put = inl e
    deeper (inr (inr a)) put = inr (put (inr a))

put_among : (t x : Trunc) (us : List Trunc) → Among x (inserted t us) → (x ≡ t) ⊎ Among x us
put_among t x [] (inl e) = inl e
put_among t x [] (inr a) = inr a
put_among t x (u ∷ us) a = elim (cases_Bool (is_before t u)) [
  | inl before ↦ subst (Among x) (put_first t u us before) a
  | inr later ↦ higher (subst (Among x) (put_later t u us later) a) (λ b. put_among t x us b)
]
  where
    higher : Among x (u ∷ inserted t us) → (Among x (inserted t us) → (x ≡ t) ⊎ Among x us) → (x ≡ t) ⊎ Among x (u ∷ us)
    higher (inl e) from = inr (inl e)
    higher (inr b) from = elim (from b) as (λ _. (x ≡ t) ⊎ Among x (u ∷ us)) [ inl e ↦ inl e | inr c ↦ inr (inr c) ]

-- ---- the truncates of names

-- it is that of one of these names
abbrev IsOfNames : List Name → Trunc → Type 0
IsOfNames names t = (name : Name) × Among name names × (trunc_in name ≡ Some t)

-- it has another stamp than those of the names
abbrev IsApart : List Name → Trunc → Type 0
IsApart names t = (u : Trunc) → IsOfNames names u → u.stamp ≡ t.stamp → ⊥

-- no two names are of truncates of one stamp
abbrev StampsDiffer : List Name → Type 0
StampsDiffer [] = Unit {0}
StampsDiffer (name ∷ names) = ((t : Trunc) → trunc_in name ≡ Some t → IsApart names t) × StampsDiffer names

-- The list has those so far and those of the names.
record HasTruncs (names : List Name) (sofar ts : List Trunc) : Type 0 where
  pub rise : StampsRise ts
  pub each : AllByRecursion (λ (t : Trunc). Among t sofar ⊎ IsOfNames names t) ts
  pub old : (t : Trunc) → Among t sofar → Among t ts
  pub new : (t : Trunc) → IsOfNames names t → Among t ts

among_all : (P : Trunc → Type 0) (ts : List Trunc) → ((t : Trunc) → Among t ts → P t) → AllByRecursion P ts
among_all P [] f = tt
among_all P (t ∷ ts) f = (f t (inl refl), among_all P ts (λ u a. f u (inr a)))

one_found : (name : Name) (t u : Trunc) → trunc_in name ≡ Some t → trunc_in name ≡ Some u → t ≡ u
one_found name t u p q = let both : Some t ≡ Some u = sym p ∙ q in cc

truncs_so : (names : List Name) (sofar ts : List Trunc) → StampsRise sofar → StampsDiffer names → AllByRecursion (IsApart names) sofar → truncs_of names sofar ≡ Ok ts → HasTruncs names sofar ts
truncs_so [] sofar ts rise differ apart made =
    let same : sofar ≡ ts = cc in
    subst (HasTruncs [] sofar) same (record { rise = rise; each = among_all (λ (t : Trunc). Among t sofar ⊎ IsOfNames [] t) sofar (λ t a. inl a); old = λ t a. a; new = λ t of. absurd of.1 })
truncs_so (name ∷ names) sofar ts rise differ apart made = elim (cases_Option (trunc_in name)) [
  | inl none ↦
      let foreign : ◌≡◌ {A = Result (List Trunc) Stuck} (Err (damage (truncs_path name) 0)) (Ok ts) = sym (ap (λ o. if_trunc name o (λ t. truncs_of names (inserted t sofar))) none) ∙ made in
      absurd (cc)
  | inr (t, found) ↦
      let more : truncs_of names (inserted t sofar) ≡ Ok ts = sym (ap (λ o. if_trunc name o (λ t. truncs_of names (inserted t sofar))) found) ∙ made in
      let others : AllByRecursion (λ (u : Trunc). t.stamp ≡ u.stamp → ⊥) sofar = All-weaker (IsApart (name ∷ names)) (λ (u : Trunc). t.stamp ≡ u.stamp → ⊥) sofar (λ u a. a t (name, inl refl, found)) apart in
      let left : AllByRecursion (IsApart names) sofar = All-weaker (IsApart (name ∷ names)) (IsApart names) sofar (λ u a v of. a v (of.0, inr of.1, of.2)) apart in
      let h = truncs_so names (inserted t sofar) ts (rise_put t sofar rise others) differ.1 (all_put (IsApart names) t sofar (differ.0 t found) left) more in
      record {
        rise = h.rise;
        each = All-weaker (λ (u : Trunc). Among u (inserted t sofar) ⊎ IsOfNames names u) (λ (u : Trunc). Among u sofar ⊎ IsOfNames (name ∷ names) u) ts (λ u w. placed t u found w) h.each;
        old = λ u a. h.old u (among_put t u sofar (inr a));
        new = λ u of. its t u found of (h.old u) (h.new u);
      }
]
  where
    placed : (t u : Trunc) → trunc_in name ≡ Some t → Among u (inserted t sofar) ⊎ IsOfNames names u → Among u sofar ⊎ IsOfNames (name ∷ names) u
    placed t u found (inr of) = inr (of.0, inr of.1, of.2)
    placed t u found (inl a) = elim (put_among t u sofar a) as (λ _. Among u sofar ⊎ IsOfNames (name ∷ names) u) [ inl e ↦ inr (name, inl refl, found ∙ ap (λ (x : Trunc). Some x) (sym e)) | inr b ↦ inl b ]

    its : (t u : Trunc) → trunc_in name ≡ Some t → IsOfNames (name ∷ names) u → (Among u (inserted t sofar) → Among u ts) → (IsOfNames names u → Among u ts) → Among u ts
    its t u found (other, inl e, is) old new = old (among_put t u sofar (inl (one_found name u t (subst (λ n. trunc_in n ≡ Some u) e is) found)))
    its t u found (other, inr a, is) old new = new (other, a, is)

-- names without truncates of one stamp are told as their truncates
pub names_told : (names : List Name) (ts : List Trunc) → StampsDiffer names → truncs_of names [] ≡ Ok ts → AreTruncsOf names ts
names_told names ts differ made =
    let h = truncs_so names [] ts tt differ tt made in
    record {
      rise = h.rise;
      named = All-from_recursion (λ (t : Trunc). Any (λ name. IsTruncName name t) names) ts
          (All-weaker (λ (t : Trunc). Among t [] ⊎ IsOfNames names t) (λ (t : Trunc). Any (λ name. IsTruncName name t) names) ts (λ t w. named t w) h.each);
      all = λ t any. let (name, a, is) = any_found (λ name. IsTruncName name t) names any in is_among ts t (h.new t (name, a, trunc_in-is name t.stamp t.size is));
    }
  where
    named : (t : Trunc) → Among t [] ⊎ IsOfNames names t → Any (λ name. IsTruncName name t) names
    named t (inl a) = absurd a
    named t (inr of) = found_any (λ name. IsTruncName name t) names of.0 of.1 (trunc_in-found of.0 t of.2)

-- ---- in a sound state

below_top : is_top truncs_folder ≡ false
below_top = refl

not_listed : (name : Name) (names : List Name) → is_listed name names ≡ false → Among name names → ⊥
not_listed name names none a = let listed = among_listed name names a in absurd (cc)

-- the name is that of the truncate
its_name : (name : Name) (t : Trunc) → IsIn truncs_folder name (item.Trunc t.stamp t.size) → name ≡ (path_of (item.Trunc t.stamp t.size)).file
its_name name t is = ap (λ (p : Path). p.file) is.printed

-- no two truncates that a sound room lists have one stamp
stamps_differ : (m : Moment) (s : IsSoundAt m) (room : ℕ) (all : List Name) (l : ListsFolder s.shape.tree room truncs_folder all) (names : List Name) → ((name : Name) → Among name names → Among name all) → NamesDiffer names → StampsDiffer names
stamps_differ m s room all l [] among differ = tt
stamps_differ m s room all l (name ∷ names) among differ = (
  λ t found u of same.
      let here = trunc_in-found name t found in
      let there = trunc_in-found of.0 u of.2 in
      let f = named_file l.room truncs_folder name all below_top l.entries (among name (inl refl)) in
      let g = named_file l.room truncs_folder of.0 all below_top l.entries (among of.0 (inr of.1)) in
      let a : HasItem l.room (item.Trunc t.stamp t.size) f.0 = record { is_item = here.is_item; there = subst (λ (p : Path). file_at l.room p ≡ Some f.0) here.printed f.1 } in
      let b : HasItem l.room (item.Trunc u.stamp u.size) g.0 = record { is_item = there.is_item; there = subst (λ (p : Path). file_at l.room p ≡ Some g.0) there.printed g.1 } in
      let c : HasItem l.room (item.Trunc t.stamp u.size) g.0 = subst (λ k. HasItem l.room (item.Trunc k u.size) g.0) same b in
      let size : t.size ≡ u.size = (s.sound.rooms room l.room l.has_room).truncates t.stamp t.size u.size f.0 g.0 a c in
      let one : of.0 ≡ name = its_name of.0 u there ∙ (λ i. (path_of (item.Trunc (same i) (sym size i))).file) ∙ sym (its_name name t here) in
      not_listed name names differ.0 (subst (λ n. Among n names) one of.1),
  stamps_differ m s room all l names (λ n a. among n (inr a)) differ.1,
)

-- Names that were listed and told as truncates are those of a list of truncates.
pub truncs_told : (m : Moment) (s : IsSoundAt m) (caller room : ℕ) (e : Event) (names : List Name) (ts : List Trunc) → IsStep m.state caller e.ask e.reply e.after → e.ask ≡ unbroken (Look room (ListFolder truncs_folder)) → names_in e.reply ≡ Some names → truncs_of names [] ≡ Ok ts → ListsTruncs room ts (asked_in e)
truncs_told m s caller room e names ts step asked given made =
    let call = ap (λ (a : Ask). a.call) asked in
    let reply = names_given e.reply names given in
    let l = folder_listed m s caller room truncs_folder names e.after (answers_as m.state caller e.ask _ e.reply _ e.after call reply refl step) in
    record {
      names = names;
      lists = record { call = call; reply = reply };
      told = names_told names ts (stamps_differ m s room names l names (λ n a. a) (ordered_differ names l.entries.ordered)) made;
    }
