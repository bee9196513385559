-- Who runs the program of a flattened index has read it whole.
use Rattle.std.proofs.Common.{◌≡◌, ℕ, ◌+◌, ◌-◌, ◌≤◌, ◌<◌, ◌^◌, max, List, [], ◌∷◌, ◌++◌, length, drop, Option, Some, None, refl, ap, sym, ◌∙◌, ◌⊎◌, inl, inr, subst, arith}
use Rattle.std.specs.Prelude.{Result, Ok, Err, slice_get}
use Rattle.std.specs.List.{Any}
use Rattle.std.proofs.lemmas.Bool.{cases_lt}
use Rattle.std.proofs.lemmas.List.{append-nil}
use Rattle.plfs_types.specs.declared.names.Path.{Path}
use Rattle.plain_file.proofs.Facts.{Among, cases_Option}
use Rattle.container_layout.specs.declared.items.Item.{Item}
use Rattle.container_layout.specs.declared.items.Item.TheVariants as item
use Rattle.container_layout.specs.Items.{IsItem}
use Rattle.container_layout.proofs.Facts.{one_item}
use Rattle.flat_format.specs.declared.flat.Flat.{Flat}
use Rattle.flat_format.specs.Spelling.{SpellsFlat}
use Rattle.flat_format.specs.Valid.{IsFlat}
use Rattle.flat_format.proofs.Facts.{valid_spells}
use Rattle.mount_model.specs.declared.call.Ask.{Ask}
use Rattle.mount_model.specs.declared.row.Making.TheVariants as making
use Rattle.mount_model.specs.Paths.{Name, flat_path}
use Rattle.mount_model.specs.History.{Event}
use Rattle.mount_sound.specs.Flats.{IsRightFlat}
use Rattle.turn_object.specs.Callers.{made_by}
use Rattle.mount_model.specs.Program.{done}
use Rattle.mount_model.specs.Calls.{AreCallsOf}
use Rattle.mount_model.specs.declared.stuck.Stuck.{Stuck}
use Rattle.mount_model.specs.Running.{asking, Runs}
use Rattle.mount_model.specs.FlowReplies.{Tries, on_ok}
use Rattle.mount_model.proofs.Flows.Facts.{runs_in_two}
use Rattle.index_reader.specs.Replies.{number_in}
use Rattle.index_reader.specs.FileReads.{parts_of, bytes_left}
use Rattle.index_reader.specs.FlatRules.{flat_told}
use Rattle.index_reader.specs.Items.{flat_item}
use Rattle.index_reader.specs.Newest.{flats_path, greater_id, if_flat, newest_in}
use Rattle.index_reader.specs.Opening.{flat_or_damage, flat_program}
use Rattle.index_reader.proofs.Facts.{flat_item-at, flat_item-here, flat_told-valid}
use Rattle.reader_laws.specs.Moments.{Moment, IsSoundAt, file_then}
use Rattle.reader_laws.specs.Seen.{asked_in, calls_of, IsSeen, IsSeenCall}
use Rattle.reader_laws.specs.Files.{AreFileReads, ReadsFile}
use Rattle.reader_laws.specs.Flats.{IsFlatName, IsNewest}
use Rattle.reader_laws.proofs.Gathered.Facts.{answers_as, any_found, few_covers, found_any, in_a_room, in_tree, its_writers, length_told}
use Rattle.reader_laws.proofs.Containers.FileRuns.{parts_run}
use Rattle.reader_laws.proofs.Containers.FlatBytes.{plain_ends}
use Rattle.reader_laws.proofs.Calls.Histories.{first_of, calls_from}
use Rattle.reader_laws.proofs.Calls.Calling.{asked_all, calls_are, calls_append, given_so, same_ok, number_given}

-- ---- the newest of the names

one_id : (name : Name) (id other : ℕ) → IsFlatName name id → IsFlatName name other → id ≡ other
one_id name id other a b = let same : item.Flat id ≡ item.Flat other = one_item _ (item.Flat id) (item.Flat other) a b in cc

record IsNewestSo (names : List Name) (sofar newest : Option ℕ) : Type 0 where
  pub named_in : (name : Name) (id : ℕ) → Among name names → IsFlatName name id → (m : ℕ) × (newest ≡ Some m) × (id ≤ m)
  pub sofar_in : (k : ℕ) → sofar ≡ Some k → (m : ℕ) × (newest ≡ Some m) × (k ≤ m)
  pub is : (m : ℕ) → newest ≡ Some m → (sofar ≡ Some m) ⊎ ((name : Name) × Among name names × IsFlatName name m)

-- the greater of an id and what was so far
record IsGreater (id : ℕ) (sofar : Option ℕ) : Type 0 where
  pub m : ℕ
  pub found : greater_id id sofar ≡ Some m
  pub above : id ≤ m
  pub above_sofar : (k : ℕ) → sofar ≡ Some k → k ≤ m
  pub either : (m ≡ id) ⊎ (sofar ≡ Some m)

greater : (id : ℕ) (sofar : Option ℕ) → IsGreater id sofar
greater id None = record { m = id; found = refl; above = omega arith; above_sofar = λ k e. absurd (cc); either = inl refl }
greater id (Some other) = record {
  m = max id other;
  found = refl;
  above = omega arith;
  above_sofar = λ k e. (let same : other ≡ k = cc in omega (arith, same));
  either = elim (cases_lt id other) as (λ _. (max id other ≡ id) ⊎ (Some other ≡ Some (max id other))) [
    | inl less ↦ inr (ap (λ n. Some n) (omega (arith, less)))
    | inr more ↦ inl (omega (arith, more))
  ];
}

same_some : (a b : ℕ) → ◌≡◌ {A = Option ℕ} (Some a) (Some b) → a ≡ b
same_some a b e = cc

with_item : (name : Name) (names : List Name) (sofar newest : Option ℕ) (it : Item) → flat_item (flats_path name) ≡ Some it → if_flat name (Some it) sofar (λ further. newest_in names further) ≡ Ok newest → ((further : Option ℕ) → newest_in names further ≡ Ok newest → IsNewestSo names further newest)
    → IsNewestSo (name ∷ names) sofar newest
with_item name names sofar newest (item.Flat id) found made later =
    let g = greater id sofar in
    let h = later (greater_id id sofar) made in
    let top = h.sofar_in g.m g.found in
    record {
      named_in = λ other k a is. its other k a is (one_id name id) h top;
      sofar_in = λ k e. (top.0, top.1, omega (arith, top.2, g.above_sofar k e));
      is = λ m e. elim (h.is m e) as (λ _. (sofar ≡ Some m) ⊎ ((other : Name) × Among other (name ∷ names) × IsFlatName other m)) [
        | inl so ↦ elim g.either as (λ _. (sofar ≡ Some m) ⊎ ((other : Name) × Among other (name ∷ names) × IsFlatName other m)) [
          | inl here ↦ (let one : id ≡ m = sym here ∙ same_some g.m m (sym g.found ∙ so) in inr (name, inl refl, subst (IsFlatName name) one (flat_item-at (flats_path name) (item.Flat id) found)))
          | inr old ↦ (let one : g.m ≡ m = same_some g.m m (sym g.found ∙ so) in inl (old ∙ ap (λ n. Some n) one))
        ]
        | inr named ↦ inr (named.0, inr named.1, named.2)
      ];
    }
  where
    its : (other : Name) (k : ℕ) → Among other (name ∷ names) → IsFlatName other k → ((n : ℕ) → IsFlatName name id → IsFlatName name n → id ≡ n) → IsNewestSo names (greater_id id sofar) newest → ((m : ℕ) × (newest ≡ Some m) × ((greater id sofar).m ≤ m)) → (m : ℕ) × (newest ≡ Some m) × (k ≤ m)
    its other k (inl e) is one h top =
        let same : id ≡ k = one k (flat_item-at (flats_path name) (item.Flat id) found) (subst (λ n. IsFlatName n k) e is) in
        (top.0, top.1, omega (arith, same, top.2, (greater id sofar).above))
    its other k (inr a) is one h top = h.named_in other k a is
with_item name names sofar newest other found made later =
    let h = later sofar made in
    record {
      named_in = λ n k a is. its n k a is h;
      sofar_in = h.sofar_in;
      is = λ m e. elim (h.is m e) as (λ _. (sofar ≡ Some m) ⊎ ((n : Name) × Among n (name ∷ names) × IsFlatName n m)) [ inl so ↦ inl so | inr named ↦ inr (named.0, inr named.1, named.2) ];
    }
  where
    its : (n : Name) (k : ℕ) → Among n (name ∷ names) → IsFlatName n k → IsNewestSo names sofar newest → (m : ℕ) × (newest ≡ Some m) × (k ≤ m)
    its n k (inl e) is h = let clash : Some other ≡ Some (item.Flat k) = sym found ∙ flat_item-here (flats_path name) (item.Flat k) refl (subst (λ x. IsFlatName x k) e is) in absurd (cc)
    its n k (inr a) is h = h.named_in n k a is

newest_so : (names : List Name) (sofar newest : Option ℕ) → newest_in names sofar ≡ Ok newest → IsNewestSo names sofar newest
newest_so [] sofar newest made =
    let same : sofar ≡ newest = same_ok sofar newest made in
    record { named_in = λ name id a is. absurd a; sofar_in = λ k e. (k, sym same ∙ e, omega arith); is = λ m e. inl (same ∙ e) }
newest_so (name ∷ names) sofar newest made = elim (cases_Option (flat_item (flats_path name))) [
  | inl none ↦ (let foreign : ◌≡◌ {A = Result (Option ℕ) Stuck} (if_flat name None sofar (λ further. newest_in names further)) (Ok newest) = sym (ap (λ o. if_flat name o sofar (λ further. newest_in names further)) none) ∙ made in absurd (cc))
  | inr (it, found) ↦ with_item name names sofar newest it found (sym (ap (λ o. if_flat name o sofar (λ further. newest_in names further)) found) ∙ made) (λ further e. newest_so names further newest e)
]

-- the newest flattened index that is named, or none is
pub none_named : (names : List Name) → newest_in names None ≡ Ok None → (id : ℕ) → Any (λ name. IsFlatName name id) names → ⊥
none_named names made id any =
    let (name, a, is) = any_found (λ n. IsFlatName n id) names any in
    let m = (newest_so names None None made).named_in name id a is in
    let clash : None ≡ Some m.0 = m.1 in
    cc

pub newest_named : (names : List Name) (id : ℕ) → newest_in names None ≡ Ok (Some id) → IsNewest names id
newest_named names id made =
    let h = newest_so names None (Some id) made in
    record {
      named = elim (h.is id refl) as (λ _. Any (λ name. IsFlatName name id) names) [
        | inl so ↦ absurd (cc)
        | inr named ↦ found_any (λ name. IsFlatName name id) names named.0 named.1 named.2
      ];
      greatest = λ other any. (let (name, a, is) = any_found (λ n. IsFlatName n other) names any in let m = h.named_in name other a is in omega (arith, same_some id m.0 m.1, m.2));
    }

-- ---- that it is right

-- a flattened index that stands spells a valid one
pub spells_there : (m : Moment) (s : IsSoundAt m) (number id : ℕ) (content : List ℕ) → IsItem (item.Flat id) → file_then m number (flat_path id) ≡ Some content → (flat : Flat) × IsFlat flat × SpellsFlat content flat
spells_there m s number id content is there =
    let r = in_a_room (slice_get s.shape.tree.rooms number) (flat_path id) content (in_tree m s number (flat_path id) content there) in
    let right : IsRightFlat r.0 content = (s.flats number r.0 r.1 making.Flat id content (record { is_item = is; there = r.2 })).0 in
    let w = its_writers m s number r.0 r.1 right.flat.covers right.entries right.covered in
    let few : length right.flat.covers < 2 ^ 64 = fewer (length right.flat.covers) (few_covers 1 right.flat.covers (omega arith) right.valid.covers w.0 w.1) in
    (right.flat, right.valid, subst (λ b. SpellsFlat b right.flat) (sym right.spelled) (valid_spells right.flat right.valid w.1 few))
  where
    fewer : (n : ℕ) → n + 1 ≤ 2 ^ 64 → n < 2 ^ 64
    fewer n l = omega (arith, l)

-- The flattened index was read, and its bytes spell this one.
pub record HasFlat (caller room id : ℕ) (events : List Event) (flat : Flat) : Type 0 where
  pub content : List ℕ
  pub reads : ReadsFile room (flat_path id) content (calls_of caller events)
  pub spells : SpellsFlat content flat

same_flat : (a b : Flat) → ◌≡◌ {A = Result Flat Stuck} (Ok a) (Ok b) → a ≡ b
same_flat a b e = cc

-- the value of a part of a program that ended well
pub part_so : {A R : Type 0} (next : A → Tries R) (value : Result A Stuck) (calls : List Event) (out : R) → AreCallsOf (asking (on_ok next value)) calls (Ok out) → (a : A) × (value ≡ Ok a) × AreCallsOf (asking (next a)) calls (Ok out)
part_so next (Ok a) calls out made = (a, refl, made)
part_so {A} {R} next (Err why) calls out made = let clash : ◌≡◌ {A = Result R Stuck} (Err why) (Ok out) = made.1 in absurd (cc)

damaged_not : (id : ℕ) (content : List ℕ) (right flat : Flat) → flat_told content ≡ Ok right → flat_or_damage id (flat_told content) ≡ Ok flat → right ≡ flat
damaged_not id content right flat told_ made = same_flat right flat (sym (ap (flat_or_damage id) told_) ∙ made)

pub flat_run : (caller room id : ℕ) (start end : Moment) (events : List Event) (flat : Flat) → IsItem (item.Flat id) → IsSeen caller start (calls_of caller events) end → Runs caller (flat_program room id) events (Ok flat) → HasFlat caller room id events flat
flat_run caller room id start end events flat is seen runs =
    let path : Path = flat_path id in
    let f = first_of caller _ _ events (Ok flat) runs in
    let e : Event = f.event in
    let s : IsSeen caller start (asked_in e ∷ calls_of caller f.later) end = subst (λ a. IsSeen caller start a end) (calls_from caller _ _ events (Ok flat) f) seen in
    let next : Moment = s.0 in
    let call : IsSeenCall caller start (asked_in e) next = s.1 in
    let g = given_so (number_in e.reply) _ _ (made_by caller f.later) flat f.rest in
    let size : ℕ = g.0 in
    let asks = ap (λ (a : Ask). a.call) f.asked in
    let reply = number_given e.reply size g.1 in
    let m : Moment = call.before in
    let t = length_told m call.sound caller room path size next.state (answers_as m.state caller e.ask _ e.reply _ next.state asks reply refl call.answers) in
    let then_ : List ℕ → Tries Flat = λ bytes. done (flat_or_damage id (flat_told bytes)) in
    let two = runs_in_two caller (bytes_left room path size size []) (on_ok then_) f.later (Ok flat) (plain_ends room id size (made_by caller f.later) flat g.2) in
    let v = part_so then_ two.value (made_by caller two.rest) flat two.then_runs in
    let content : List ℕ = v.0 in
    let none : calls_of caller two.rest ≡ [] = calls_are caller two.rest ∙ ap asked_all v.2.0 in
    let later : calls_of caller f.later ≡ asked_all (made_by caller two.first) =
    ap (calls_of caller) two.all ∙ calls_append caller two.first two.rest ∙ ap (λ l. calls_of caller two.first ++ l) none ∙ append_nil (calls_of caller two.first) ∙ calls_are caller two.first in
    let read = parts_run caller making.Flat room id (parts_of size) size size next end (made_by caller two.first) t.0 [] content is (call.goes.indices making.Flat room id t.0 is t.1) t.2 (omega arith) refl
    (subst (λ a. IsSeen caller next a end) later s.2) (subst (λ r. Runs caller (bytes_left room path size size []) two.first r) v.1 two.runs) in
    let begins : size - size ≡ 0 = omega arith in
    let whole : content ≡ t.0 = read.whole ∙ ap (λ n. drop n t.0) begins ∙ drop_none t.0 in
    let r = spells_there m call.sound room id content is (t.1 ∙ ap (λ b. Some b) (sym whole)) in
    let one : r.0 ≡ flat = damaged_not id content r.0 flat (flat_told-valid content r.0 r.1 r.2) v.2.1 in
    record {
      content = content;
      reads = record {
        first = asked_in e;
        reads = asked_all (made_by caller two.first);
        calls = calls_from caller _ _ events (Ok flat) f ∙ ap (λ l. asked_in e ∷ l) later;
        told = size;
        call = asks;
        reply = reply;
        bytes = subst (λ b. AreFileReads room path 0 size (asked_all (made_by caller two.first)) b) (sym read.whole) (subst (λ n. AreFileReads room path n size (asked_all (made_by caller two.first)) (drop (size - size) t.0)) begins read.reads);
      };
      spells = subst (SpellsFlat content) one r.2;
    }
  where
    drop_none : (bytes : List ℕ) → drop 0 bytes ≡ bytes
    drop_none [] = refl
    drop_none (b ∷ bytes) = refl

    append_nil : {X : Type 0} (xs : List X) → xs ++ [] ≡ xs
    append_nil xs = append-nil xs
