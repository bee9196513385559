-- An act within a room of one store is that act on the joined tree.
use Rattle.std.proofs.Common.{◌≡◌, ℕ, true, List, slice_get, Option, Some, None, refl, ap, sym, ◌∙◌, subst}
use Rattle.std.specs.Prelude.{Result, Ok, Err}
use Rattle.store_api.specs.declared.tree.Room.{Room}
use Rattle.store_api.specs.declared.tree.Tree.{Tree}
use Rattle.store_api.specs.declared.step.Answer.{Answer}
use Rattle.store_api.specs.declared.step.Answer.TheVariants.{NoRoom}
use Rattle.store_api.specs.declared.store.Trouble.{Trouble}
use Rattle.store_api.specs.declared.store.Trouble.TheVariants.{Fault, NoMemory}
use Rattle.store_api.specs.Step.{Step}
use Rattle.store_api.specs.Effect.{Effect, effect, tree_after, or_no_room}
use Rattle.store_api.specs.Leaves.{MayLeave, not_made, whole, in_part, with_first}
use Rattle.store_api.specs.Acts.{Stored}
use Rattle.store_laws.proofs.Facts.{slice_set_same}
use Rattle.spread_store.specs.declared.places.Place.{Place}
use Rattle.spread_store.specs.declared.places.Doubt.{Doubt}
use Rattle.spread_store.specs.Asking.{ActsAt}
use Rattle.spread_store.specs.Joined.{Held, held_by, all_tell, rooms_of, room_at, or_blank, faults_of, joined, spreading, tree_of}
use Rattle.spread_store.specs.Fits.{Fits, IsFit}
use Rattle.spread_store.specs.InRoom.{number_in, at_room}
use Rattle.store_api.specs.InRoom.{room_outcome}
use Rattle.spread_store.specs.Performs.{Performs, Stays}
use Rattle.spread_store.proofs.Lists.{get_map_none}
use Rattle.spread_store.proofs.Steps.{effect_at, at_same, first_at, first_in, name_stays}
use Rattle.spread_store.proofs.Held.{with_tree, with_room, one_room, alike_now, fits_alike}
use Rattle.spread_store.proofs.Going.{faults_same, faults_more, faults_risen, goes_cond, tree_goes, fit_goes}

pub found_there : (held : Held) (p : Place) (t : Tree) (r : Room) → slice_get held p.store ≡ Some (Some t) → room_at held p ≡ Some r → slice_get t.rooms p.room ≡ Some r
found_there held p t r there e = sym (ap (λ x. slice_get (rooms_of x) p.room) there) ∙ e

module _ (held : Held) (places : List Place) (k : ℕ) (p : Place) (at : slice_get places k ≡ Some p) (fit : Fits held places None) (t : Tree) (there : slice_get held p.store ≡ Some (Some t)) where
  abbrev Made_ : Step → Tree → Answer → Type 0
  Made_ step new answer = (effect (joined held places None) step ≡ record { tree = joined (with_tree held p.store new) places None; answer = answer }) × Fits (with_tree held p.store new) places None

  exactly : (step : Step) (new : Tree) (answer : Answer) → number_in step ≡ Some k → effect t (at_room p.room step) ≡ record { tree = new; answer = answer } → Made_ step new answer
  exactly step new answer n e =
      let room = fit.placed k p at in
      let found = found_there held p t room.0 there room.1 in
      let one = one_room held places k p t room.0 at fit there found (room_outcome step) (room_outcome step) new answer refl (sym (effect_at step t k p.room n) ∙ e) in (
        ap (λ s. effect (joined held places None) s) (sym (at_same step k n)) ∙ effect_at step (joined held places None) k k n ∙ one.1,
        subst (λ w. Fits (with_tree held p.store w) places None) (sym one.0)
            (fits_alike held (with_tree held p.store (with_room t p.room (room_outcome step room.0).room)) places None
            (alike_now held p t room.0 there found (room_outcome step room.0).room (name_stays step room.0)) fit),
      )

  unchanged : (new : Tree) → new ≡ t → held ≡ with_tree held p.store new
  unchanged new e = sym (slice_set_same held p.store (Some t) there) ∙ ap (λ w. with_tree held p.store w) (sym e)

  partly : (step : Step) (new : Tree) → number_in step ≡ Some k → MayLeave t (at_room p.room step) new
      → MayLeave (joined held places None) step (joined (with_tree held p.store new) places None) × Fits (with_tree held p.store new) places None
  partly step new n (not_made e) =
      let same = unchanged new e in
      (not_made (ap (λ h. joined h places None) (sym same)), subst (λ h. Fits h places None) same fit)
  partly step new n (whole e) =
      let m = exactly step new (effect t (at_room p.room step)).answer n (λ i. record { tree = sym e i; answer = (effect t (at_room p.room step)).answer }) in
      (whole (sym (ap (λ (x : Effect). x.tree) m.0)), m.1)
  partly step new n (in_part j made e) =
      let first = with_first j step in
      let e_first : new ≡ tree_after t (at_room p.room first) = e ∙ ap (λ s. tree_after t s) (first_at step j p.room) in
      let m = exactly first new (effect t (at_room p.room first)).answer (first_in step j ∙ n) (λ i. record { tree = sym e_first i; answer = (effect t (at_room p.room first)).answer }) in
      let w = exactly step (effect t (at_room p.room step)).tree (effect t (at_room p.room step)).answer n refl in
      (in_part j (ap (λ (x : Effect). x.answer) w.0 ∙ made) (sym (ap (λ (x : Effect). x.tree) m.0)), m.1)

pub stayed : (old new : List Stored) (places : List Place) (doubt : Option Doubt) → new ≡ old → IsFit (spreading old places doubt) → Stays (spreading old places doubt) (spreading new places doubt)
stayed old new places doubt e fit = record {
  tree = ap (λ l. tree_of (spreading l places doubt)) e;
  faults = ap faults_of e;
  fit = subst (λ l. IsFit (spreading l places doubt)) (sym e) fit;
}

pub within_acts : (old new : List Stored) (places : List Place) (k : ℕ) (p : Place) (step : Step) (told : Result Answer Trouble) → slice_get places k ≡ Some p → number_in step ≡ Some k
    → IsFit (spreading old places None) → ActsAt p.store (at_room p.room step) old new told → Performs step (spreading old places None) (spreading new places None) told
within_acts old new places k p step (Ok answer) at n fit a =
    let R : Tree → Tree → Type 0 = λ x y. effect x (at_room p.room step) ≡ record { tree = y; answer = answer } in
    let Q : Tree → Tree → Type 0 = λ x y. effect x step ≡ record { tree = y; answer = answer } in
    let so = λ (t after : Tree) (tell : all_tell (held_by old) ≡ true) (there : slice_get (held_by old) p.store ≡ Some (Some t)) (r : R t after). exactly (held_by old) places k p at (fit tell) t there step after answer n r in
    subst (λ l. Performs step (spreading old places None) (spreading l places None) (Ok answer)) (sym a.is) (record {
      tree = tree_goes old p.store a.before a.after places places None None R Q a.was a.acts.tree so;
      faults = faults_same old p.store a.before a.after a.was a.acts.faults;
      fit = fit_goes old p.store a.before a.after places places None None R Q a.was a.acts.tree so;
    })
within_acts old new places k p step (Err Fault) at n fit a =
    let R : Tree → Tree → Type 0 = λ x y. MayLeave x (at_room p.room step) y in
    let Q : Tree → Tree → Type 0 = λ x y. MayLeave x step y in
    let so = λ (t after : Tree) (tell : all_tell (held_by old) ≡ true) (there : slice_get (held_by old) p.store ≡ Some (Some t)) (r : R t after). partly (held_by old) places k p at (fit tell) t there step after n r in
    subst (λ l. Performs step (spreading old places None) (spreading l places None) (Err Fault)) (sym a.is) (record {
      tree = tree_goes old p.store a.before a.after places places None None R Q a.was a.acts.tree so;
      faults = faults_more old p.store a.before a.after a.was a.acts.faults;
      cause = faults_risen old p.store a.before a.after a.was a.acts.cause;
      fit = fit_goes old p.store a.before a.after places places None None R Q a.was a.acts.tree so;
    })
within_acts old new places k p step (Err NoMemory) at n fit a = stayed old new places None a fit

-- what leaves the stores as they are, and answers
pub answered : (stores : List Stored) (places : List Place) (doubt : Option Doubt) (step : Step) (answer : Answer) → IsFit (spreading stores places doubt)
    → (all_tell (held_by stores) ≡ true → effect (joined (held_by stores) places doubt) step ≡ record { tree = joined (held_by stores) places doubt; answer = answer })
    → Performs step (spreading stores places doubt) (spreading stores places doubt) (Ok answer)
answered stores places doubt step answer fit h = record {
  tree = goes_cond (λ x y. effect x step ≡ record { tree = y; answer = answer }) (all_tell (held_by stores)) (all_tell (held_by stores)) (joined (held_by stores) places doubt) (joined (held_by stores) places doubt) refl h;
  faults = refl;
  fit = fit;
}

pub no_room : (stores : List Stored) (places : List Place) (k : ℕ) (step : Step) → slice_get places k ≡ None → number_in step ≡ Some k
    → IsFit (spreading stores places None) → Performs step (spreading stores places None) (spreading stores places None) (Ok NoRoom)
no_room stores places k step at n fit =
    let J = joined (held_by stores) places None in
    answered stores places None step NoRoom fit (λ tell.
    ap (λ s. effect J s) (sym (at_same step k n)) ∙ effect_at step J k k n
    ∙ ap (λ x. or_no_room J k (room_outcome step) x) (get_map_none (λ q. or_blank (room_at (held_by stores) q)) places k at))
