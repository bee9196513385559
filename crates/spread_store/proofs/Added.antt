-- A room is made in one of the stores.
use Rattle.std.proofs.Common.{◌≡◌, ◌⊎◌, inl, inr, ℕ, true, List, [], ◌∷◌, ◌++◌, length, slice_get, Option, Some, None, refl, ap, sym, ◌∙◌, subst}
use Rattle.std.specs.Prelude.{Ok, Err}
use Rattle.store_api.specs.declared.tree.Room.{Room}
use Rattle.store_api.specs.declared.tree.Tree.{Tree}
use Rattle.store_api.specs.declared.step.Answer.{Answer}
use Rattle.store_api.specs.declared.step.Answer.TheVariants.{Number, Absent, Old}
use Rattle.store_api.specs.declared.store.Trouble.TheVariants.{Fault}
use Rattle.store_api.specs.Step.{Step, Name, make_room}
use Rattle.store_api.specs.Names.{same_name}
use Rattle.store_api.specs.Effect.{Effect, effect, tree_after, number_of, new_room, room_made}
use Rattle.store_api.specs.Leaves.{MayLeave, not_made, whole, in_part}
use Rattle.store_api.specs.Acts.{Stored, Goes}
use Rattle.store_laws.proofs.Facts.{name_other, slice_get-slice_set, slice_get_before, slice_get_last, slice_get_more, slice_get_other-slice_set, slice_set_same}
use Rattle.spread_store.specs.declared.places.Place.{Place}
use Rattle.spread_store.specs.declared.places.Doubt.{Doubt}
use Rattle.spread_store.specs.Asking.{ActsOn}
use Rattle.spread_store.specs.Joined.{Held, held_by, all_tell, rooms_of, rooms_in, room_at, or_blank, rooms_at, joined, spreading, tree_of}
use Rattle.spread_store.specs.Fits.{Fits, IsFit}
use Rattle.spread_store.specs.Finding.{number_told, IsNamed, IsFreeIn, Finds}
use Rattle.spread_store.specs.Numbering.{place_number, or_zero}
use Rattle.spread_store.specs.Performs.{Performs}
use Rattle.spread_store.proofs.Lists.{map_alike, length_map}
use Rattle.spread_store.proofs.Held.{with_tree, place_eq, nat_cases}
use Rattle.spread_store.proofs.Going.{faults_same, faults_more, faults_risen, tree_goes, fit_goes, held_goes}
use Rattle.spread_store.proofs.Doubts.{one_named, learnt, made_tree, made_fits, unmade_tree}
use Rattle.spread_store.proofs.Naming.{position_none, free_number, named_number}
use Rattle.spread_store.proofs.Renames.{answered_then, number_known}

-- the tree with one more room
abbrev pub grown : Tree → Room → Tree
grown t new = record { rooms = t.rooms ++ new ∷ [] }

pub same_room : (o : Option Room) (a b : Room) → o ≡ Some a → o ≡ Some b → a ≡ b
same_room o a b e f = let both : Some a ≡ Some b = sym e ∙ f in cc

module _ (held : Held) (places : List Place) (fit : Fits held places None) (n : ℕ) (t : Tree) (there : slice_get held n ≡ Some (Some t)) (name : Name) (free : IsFreeIn held name) (new : Room) (is : new.name ≡ name) where
  abbrev now : Held
  now = with_tree held n (grown t new)

  abbrev spot : Place
  spot = record { store = n; room = length t.rooms }

  abbrev doubt : Doubt
  doubt = record { store = n; name = name }

  here : rooms_in now n ≡ t.rooms ++ new ∷ []
  here = ap rooms_of (slice_get-slice_set held n (Some t) (Some (grown t new)) there)

  before : rooms_in held n ≡ t.rooms
  before = ap rooms_of there

  away : (s : ℕ) → (s ≡ n → ⊥) → rooms_in now s ≡ rooms_in held s
  away s other = ap rooms_of (slice_get_other-slice_set held n s (Some (grown t new)) other)

  pub stands : room_at now spot ≡ Some new
  stands = ap (λ l. slice_get l (length t.rooms)) here ∙ slice_get_last t.rooms new

  keeps_at : (s i : ℕ) (r : Room) → slice_get (rooms_in held s) i ≡ Some r → slice_get (rooms_in now s) i ≡ Some r
  keeps_at s i r e = elim (nat_cases s n) as (λ _. slice_get (rooms_in now s) i ≡ Some r) [
    | inl at ↦ subst (λ z. slice_get (rooms_in now z) i ≡ Some r) (sym at)
        (ap (λ l. slice_get l i) here ∙ slice_get_before t.rooms i r new (ap (λ l. slice_get l i) (sym before) ∙ ap (λ z. slice_get (rooms_in held z) i) (sym at) ∙ e))
    | inr other ↦ ap (λ l. slice_get l i) (away s other) ∙ e
  ]

  IsNew : ℕ → ℕ → Room → Type 0
  IsNew s i r = (s ≡ n) × (i ≡ length t.rooms) × (r ≡ new)

  back_here : (i : ℕ) (r : Room) → slice_get (t.rooms ++ new ∷ []) i ≡ Some r → (slice_get (rooms_in held n) i ≡ Some r) ⊎ ((i ≡ length t.rooms) × (r ≡ new))
  back_here i r e =
      let m = slice_get_more t.rooms i r new e in
      elim (nat_cases i (length t.rooms)) as (λ _. (slice_get (rooms_in held n) i ≡ Some r) ⊎ ((i ≡ length t.rooms) × (r ≡ new))) [
        | inl at ↦ inr (at, m.0 at)
        | inr other ↦ inl (ap (λ l. slice_get l i) before ∙ m.1 other)
      ]

  back_at : (s i : ℕ) (r : Room) → slice_get (rooms_in now s) i ≡ Some r → (slice_get (rooms_in held s) i ≡ Some r) ⊎ ((s ≡ n) × (i ≡ length t.rooms) × (r ≡ new))
  back_at s i r e = elim (nat_cases s n) as (λ _. (slice_get (rooms_in held s) i ≡ Some r) ⊎ ((s ≡ n) × (i ≡ length t.rooms) × (r ≡ new))) [
    | inl at ↦ elim (back_here i r (ap (λ l. slice_get l i) (sym here) ∙ ap (λ z. slice_get (rooms_in now z) i) (sym at) ∙ e)) as (λ _. (slice_get (rooms_in held s) i ≡ Some r) ⊎ ((s ≡ n) × (i ≡ length t.rooms) × (r ≡ new))) [
      | inl was ↦ inl (ap (λ z. slice_get (rooms_in held z) i) at ∙ was)
      | inr last ↦ inr (at, last.0, last.1)
    ]
    | inr other ↦ inl (ap (λ l. slice_get l i) (sym (away s other)) ∙ e)
  ]

  pub added_tree : joined now places (Some doubt) ≡ record { rooms = rooms_at held places ++ new ∷ [] }
  added_tree =
      let same : rooms_at now places ≡ rooms_at held places = map_alike (λ q. or_blank (room_at held q)) (λ q. or_blank (room_at now q)) places
      (λ j q e. let r = fit.placed j q e in ap or_blank (keeps_at q.store q.room r.0 r.1) ∙ sym (ap or_blank r.1)) in
      let one = one_named name (rooms_in now n) (length t.rooms) new stands is
      (λ j s e same_too. elim (back_at n j s e) as (λ _. j ≡ length t.rooms) [
        | inl was ↦ absurd (free (record { store = n; room = j }) s was same_too)
        | inr last ↦ last.1
      ]) in
      (λ i. record { rooms = same i ++ one i })

  pub added_fits : Fits now places (Some doubt)
  added_fits = record {
    placed = λ k p at. let r = fit.placed k p at in (r.0, keeps_at p.store p.room r.0 r.1);
    apart = fit.apart;
    whole = λ p r e. elim (back_at p.store p.room r e) [
      | inl was ↦ elim (fit.whole p r was) [ inl at ↦ inl at | inr d ↦ absurd d ]
      | inr last ↦ inr (last.0, ap (λ (x : Room). x.name) last.2 ∙ is)
    ];
    sure = λ k p r at e d.
        let was = fit.placed k p at in
        let same = same_room (room_at now p) was.0 r (keeps_at p.store p.room was.0 was.1) e in
        free p was.0 was.1 (ap (λ (x : Room). x.name) same ∙ d.1);
    named = λ p q a b e f same. elim (back_at p.store p.room a e) [
      | inl x ↦ elim (back_at q.store q.room b f) [
        | inl y ↦ fit.named p q a b x y same
        | inr l ↦ absurd (free p a x (same ∙ ap (λ (z : Room). z.name) l.2 ∙ is))
      ]
      | inr k ↦ elim (back_at q.store q.room b f) [
        | inl y ↦ absurd (free q b y (sym same ∙ ap (λ (z : Room). z.name) k.2 ∙ is))
        | inr l ↦ place_eq p q (k.0 ∙ sym l.0) (k.1 ∙ sym l.1)
      ]
    ];
  }

-- a doubt about a room that isn't there
pub doubt_fits : (held : Held) (places : List Place) (d : Doubt) → IsFreeIn held d.name → Fits held places None → Fits held places (Some d)
doubt_fits held places d free fit = record {
  placed = fit.placed;
  apart = fit.apart;
  whole = λ p r e. elim (fit.whole p r e) [ inl at ↦ inl at | inr none ↦ absurd none ];
  sure = λ k p r at e doubts. free p r e doubts.1;
  named = fit.named;
}

module _ (held : Held) (places : List Place) (fit : Fits held places None) (n : ℕ) (t : Tree) (there : slice_get held n ≡ Some (Some t)) (name : Name) (folders files : List Name) (free : IsFreeIn held name) where
  abbrev step : Step
  step = make_room name folders files

  abbrev J : Tree
  J = joined held places None

  abbrev d : Doubt
  d = record { store = n; name = name }

  free_there : number_of t name ≡ None
  free_there = position_none (λ (r : Room). same_name r.name name) t.rooms (λ j y e. name_other y.name name (free (record { store = n; room = j }) y (ap (λ x. slice_get (rooms_of x) j) there ∙ e)))

  made_there : effect t step ≡ record { tree = grown t (new_room name folders files); answer = Number (length t.rooms) }
  made_there = ap (λ o. room_made t (new_room name folders files) o) free_there

  made_here : effect J step ≡ record { tree = record { rooms = rooms_at held places ++ new_room name folders files ∷ [] }; answer = Number (length places) }
  made_here = ap (λ o. room_made J (new_room name folders files) o) (free_number held places name fit free)
      ∙ ap (λ k. record { tree = record { rooms = rooms_at held places ++ new_room name folders files ∷ [] }; answer = Number k }) (length_map (λ q. or_blank (room_at held q)) places)

  pub exactly_made : (new : Tree) (answer : Answer) → effect t step ≡ record { tree = new; answer = answer }
      → (effect J step ≡ record { tree = joined (with_tree held n new) places (Some d); answer = Number (length places) }) × Fits (with_tree held n new) places (Some d)
  exactly_made new answer e =
      let same : grown t (new_room name folders files) ≡ new = ap (λ (x : Effect). x.tree) (sym made_there ∙ e) in
      subst (λ w. (effect J step ≡ record { tree = joined (with_tree held n w) places (Some d); answer = Number (length places) }) × Fits (with_tree held n w) places (Some d)) same (
        made_here ∙ ap (λ w. record { tree = w; answer = Number (length places) }) (sym (added_tree held places fit n t there name free (new_room name folders files) refl)),
        added_fits held places fit n t there name free (new_room name folders files) refl,
      )

  -- the room that was made stands where the answer says
  pub number_made : (new : Tree) (answer : Answer) (room : ℕ) → number_told answer ≡ Some room → effect t step ≡ record { tree = new; answer = answer } → IsNamed (with_tree held n new) name (record { store = n; room = room })
  number_made new answer room told e =
      let same : grown t (new_room name folders files) ≡ new = ap (λ (x : Effect). x.tree) (sym made_there ∙ e) in
      let says : Number (length t.rooms) ≡ answer = ap (λ (x : Effect). x.answer) (sym made_there ∙ e) in
      let at : length t.rooms ≡ room = some_same (ap number_told says ∙ told) in
      subst (λ w. IsNamed (with_tree held n w) name (record { store = n; room = room })) same
      (subst (λ i. IsNamed (with_tree held n (grown t (new_room name folders files))) name (record { store = n; room = i })) at
      (record { room = new_room name folders files; there = stands held places fit n t there name free (new_room name folders files) refl; named = refl }))
    where
      some_same : {a b : ℕ} → ◌≡◌ {A = Option ℕ} (Some a) (Some b) → a ≡ b
      some_same e = cc

  pub must_number : (new : Tree) (answer : Answer) → number_told answer ≡ None → effect t step ≡ record { tree = new; answer = answer } → ⊥
  must_number new answer none e =
      let says : Number (length t.rooms) ≡ answer = ap (λ (x : Effect). x.answer) (sym made_there ∙ e) in
      let bad : ◌≡◌ {A = Option ℕ} (Some (length t.rooms)) None = ap number_told says ∙ none in
      absurd (cc)

  whole_made : (new : Tree) → new ≡ tree_after t step → MayLeave J step (joined (with_tree held n new) places (Some d)) × Fits (with_tree held n new) places (Some d)
  whole_made new e =
      let m = exactly_made new (effect t step).answer (λ i. record { tree = sym e i; answer = (effect t step).answer }) in
      (whole (sym (ap (λ (x : Effect). x.tree) m.0)), m.1)

  pub partly_made : (new : Tree) → MayLeave t step new → MayLeave J step (joined (with_tree held n new) places (Some d)) × Fits (with_tree held n new) places (Some d)
  partly_made new (not_made e) =
      let same : held ≡ with_tree held n new = sym (slice_set_same held n (Some t) there) ∙ ap (λ w. with_tree held n w) (sym e) in (
        not_made (ap (λ h. joined h places (Some d)) (sym same) ∙ sym (unmade_tree held places d (λ i r e2. free (record { store = n; room = i }) r e2))),
        subst (λ h. Fits h places (Some d)) same (doubt_fits held places d free fit),
      )
  partly_made new (whole e) = whole_made new e
  partly_made new (in_part j made e) = whole_made new e

-- ---- the act

module _ (old new : List Stored) (places : List Place) (n : ℕ) (name : Name) (folders files : List Name)
    (fit : IsFit (spreading old places None)) (free : all_tell (held_by old) ≡ true → IsFreeIn (held_by old) name) where
  abbrev making : Step
  making = make_room name folders files

  abbrev doubted : Doubt
  doubted = record { store = n; name = name }

  pub made_in_doubt : (answer : Answer) → ActsOn n making old new (Ok answer) → Performs making (spreading old places None) (spreading new places (Some doubted)) (Ok (Number (length places)))
  made_in_doubt answer a =
      let R : Tree → Tree → Type 0 = λ x y. effect x making ≡ record { tree = y; answer = answer } in
      let Q : Tree → Tree → Type 0 = λ x y. effect x making ≡ record { tree = y; answer = Number (length places) } in
      let so = λ (t after : Tree) (tell : all_tell (held_by old) ≡ true) (there : slice_get (held_by old) n ≡ Some (Some t)) (r : R t after). exactly_made (held_by old) places (fit tell) n t there name folders files (free tell) after answer r in
      subst (λ l. Performs making (spreading old places None) (spreading l places (Some doubted)) (Ok (Number (length places)))) (sym a.is) (record {
        tree = tree_goes old n a.before a.after places places None (Some doubted) R Q a.was a.acts.tree so;
        faults = faults_same old n a.before a.after a.was a.acts.faults;
        fit = fit_goes old n a.before a.after places places None (Some doubted) R Q a.was a.acts.tree so;
      })

  named_made : (answer : Answer) (room : ℕ) → number_told answer ≡ Some room → ActsOn n making old new (Ok answer) → all_tell (held_by new) ≡ true → IsNamed (held_by new) name (record { store = n; room = room })
  named_made answer room told a =
      let R : Tree → Tree → Type 0 = λ x y. effect x making ≡ record { tree = y; answer = answer } in
      subst (λ l. all_tell (held_by l) ≡ true → IsNamed (held_by l) name (record { store = n; room = room })) (sym a.is)
      (held_goes old n a.before a.after R (λ h. IsNamed h name (record { store = n; room = room })) a.was a.acts.tree
      (λ t after tell there r. number_made (held_by old) places (fit tell) n t there name folders files (free tell) after answer room told r))

  -- the room has its number
  pub made_numbered : (answer : Answer) (room : ℕ) → number_told answer ≡ Some room → ActsOn n making old new (Ok answer)
      → Performs making (spreading old places None) (spreading new (places ++ record { store = n; room = room } ∷ []) None) (Ok (Number (length places)))
  made_numbered answer room told a =
      let m = made_in_doubt answer a in
      let s = learnt new new places (places ++ record { store = n; room = room } ∷ []) (Some doubted) None (record { held = refl; faults = refl })
      (λ tell. (made_tree (held_by new) places doubted room (m.fit tell) (named_made answer room told a tell), made_fits (held_by new) places doubted room (m.fit tell) (named_made answer room told a tell))) in
      record {
        tree = subst (λ t. Goes (λ x y. effect x making ≡ record { tree = y; answer = Number (length places) }) (tree_of (spreading old places None)) t) (sym s.tree) m.tree;
        faults = s.faults ∙ m.faults;
        fit = s.fit;
      }

  -- another answer comes from no store that tells
  pub made_otherwise : (answer : Answer) → number_told answer ≡ None → ActsOn n making old new (Ok answer) → Performs making (spreading old places None) (spreading new places None) (Ok Absent)
  made_otherwise answer none a =
      let R : Tree → Tree → Type 0 = λ x y. effect x making ≡ record { tree = y; answer = answer } in
      let Q : Tree → Tree → Type 0 = λ x y. effect x making ≡ record { tree = y; answer = Absent } in
      let so = λ (t after : Tree) (tell : all_tell (held_by old) ≡ true) (there : slice_get (held_by old) n ≡ Some (Some t)) (r : R t after).
      absurd {A = Q (joined (held_by old) places None) (joined (with_tree (held_by old) n after) places None) × Fits (with_tree (held_by old) n after) places None} (must_number (held_by old) places (fit tell) n t there name folders files (free tell) after answer none r) in
      subst (λ l. Performs making (spreading old places None) (spreading l places None) (Ok Absent)) (sym a.is) (record {
        tree = tree_goes old n a.before a.after places places None None R Q a.was a.acts.tree so;
        faults = faults_same old n a.before a.after a.was a.acts.faults;
        fit = fit_goes old n a.before a.after places places None None R Q a.was a.acts.tree so;
      })

  pub made_failed : ActsOn n making old new (Err Fault) → Performs making (spreading old places None) (spreading new places (Some doubted)) (Err Fault)
  made_failed a =
      let R : Tree → Tree → Type 0 = λ x y. MayLeave x making y in
      let Q : Tree → Tree → Type 0 = λ x y. MayLeave x making y in
      let so = λ (t after : Tree) (tell : all_tell (held_by old) ≡ true) (there : slice_get (held_by old) n ≡ Some (Some t)) (r : R t after). partly_made (held_by old) places (fit tell) n t there name folders files (free tell) after r in
      subst (λ l. Performs making (spreading old places None) (spreading l places (Some doubted)) (Err Fault)) (sym a.is) (record {
        tree = tree_goes old n a.before a.after places places None (Some doubted) R Q a.was a.acts.tree so;
        faults = faults_more old n a.before a.after a.was a.acts.faults;
        cause = faults_risen old n a.before a.after a.was a.acts.cause;
        fit = fit_goes old n a.before a.after places places None (Some doubted) R Q a.was a.acts.tree so;
      })

-- a room has the name already
pub old_then : (old new : List Stored) (places : List Place) (p : Place) (name : Name) (folders files : List Name) → Finds name old new (Ok (Some p)) → IsFit (spreading old places None)
    → Performs (make_room name folders files) (spreading old places None) (spreading new places None) (Ok (Old (or_zero (place_number places p))))
old_then old new places p name folders files f fit = answered_then old new places None (make_room name folders files) (Old (or_zero (place_number places p))) f.0 fit (λ tell.
    let held = held_by old in
    let is = f.1 tell in
    let known : (k : ℕ) × (number_of (joined held places None) name ≡ Some k) = elim ((fit tell).whole p is.room is.there) [ inl z ↦ (z.0, named_number held places name p z.0 (fit tell) is z.1) | inr d ↦ absurd d ] in
    let same : Some known.0 ≡ place_number places p = sym known.1 ∙ number_known held places name p (fit tell) is in
    ap (λ o. room_made (joined held places None) (new_room name folders files) o) known.1 ∙ ap (λ o. record { tree = joined held places None; answer = Old (or_zero o) }) same)
