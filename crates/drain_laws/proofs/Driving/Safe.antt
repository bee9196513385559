-- A program of a drain is safe where each question that it comes to is right, whatever is replied and told before.
use Rattle.std.proofs.Common.{◌≡◌, inl, inr, ℕ, List, [], ◌∷◌, Some, refl, sym, ◌∙◌, subst}
use Rattle.std.specs.Prelude.{Result, Ok, Err}
use Rattle.store_api.specs.declared.tree.Tree.{Tree}
use Rattle.store_api.specs.Acts.{Stored}
use Rattle.store_api.specs.Step.{Step}
use Rattle.store_laws.specs.Tells.{Tells}
use Rattle.store_laws.proofs.Facts.{acts_told}
use Rattle.mount_model.specs.declared.call.Call.{Call}
use Rattle.mount_model.specs.History.{Event}
use Rattle.mount_sound.specs.Owed.{IsLawful}
use Rattle.mount_model.specs.Running.{unbroken}
use Rattle.reader_laws.specs.Moments.{Moment, next_moment}
use Rattle.drain_copy.specs.declared.outcome.DrainStuck.{DrainStuck}
use Rattle.drain_copy.specs.Asking.{acts, calls, ends}
use Rattle.mount_model.specs.Making.{Told}
use Rattle.drain_copy.specs.Telling.{DrainsOn, Outcome, on_good}
use Rattle.drain_sound.specs.Draining.{Act, Happening, at_source, at_target}
use Rattle.drain_laws.specs.Driving.{AreMade, Drives, IsReplied, IsTold}

-- What holds of the source at each moment, and of the target's tree; what is asked of calls and steps; and what holds in the end.
module _ (Now : Moment → Type 0) (Good : Tree → Type 0) (Asks : Call → Tree → Type 0) (Does : Step → Tree → Type 0) (Post : Outcome → Tree → Type 0) where
  abbrev pub IsSafe : DrainsOn → Tree → Type 0
  IsSafe (ends outcome) t = Post outcome t
  IsSafe (calls call k) t = Asks call t × ((m : Moment) (e : Event) → Now m → IsLawful m.state (e ∷ []) → e.ask ≡ unbroken call → IsSafe (k e.reply) t)
  IsSafe (acts step k) t = Does step t × ((told : Told) (after : Tree) → Tells step t told after → Good after → IsSafe (k told) after)

  pub safe_on : {X : Type 0} (next : X → DrainsOn) (r : Result X DrainStuck) (t : Tree) → ((x : X) → r ≡ Ok x → IsSafe (next x) t) → ((why : DrainStuck) → r ≡ Err why → Post (Err why) t) → IsSafe (on_good next r) t
  safe_on next (Ok x) t h bad = h x refl
  safe_on next (Err why) t h bad = bad why refl

  -- ---- who drives a safe program

  -- the call of the event is one that is asked for
  abbrev pub IsAsked : Event → Tree → Type 0
  IsAsked e t = (call : Call) × (e.ask ≡ unbroken call) × Asks call t

  -- Each of the caller's calls is right, and so is each step; and where it has ended, that holds.
  abbrev pub IsTraced : ℕ → Tree → List Happening → DrainsOn → Type 0
  IsTraced caller t [] left = (outcome : Outcome) → left ≡ ends outcome → Post outcome t
  IsTraced caller t (at_source e ∷ rest) left = (e.caller ≡ caller → IsAsked e t) × IsTraced caller t rest left
  IsTraced caller t (at_target a ∷ rest) left = Does a.step t × ((after : Tree) × (a.after.tree ≡ Some after) × Tells a.step t a.answer after × Good after × IsTraced caller after rest left)

  replied : (p next : DrainsOn) (m : Moment) (t : Tree) (e : Event) → IsSafe p t → IsReplied p e next → Now m → IsLawful m.state (e ∷ []) → IsAsked e t × IsSafe next t
  replied (ends x) next m t e safe is now l = absurd is
  replied (calls call k) next m t e safe is now l = ((call, is.0, safe.0), subst (λ p. IsSafe p t) (sym is.1) (safe.1 m e now l is.0))
  replied (acts step k) next m t e safe is now l = absurd is

  told_on : (p next : DrainsOn) (t : Tree) (a : Act) → IsSafe p t → IsTold p a next → Does a.step t × ((after : Tree) → Tells a.step t a.answer after → Good after → IsSafe next after)
  told_on (ends x) next t a safe is = absurd is
  told_on (calls call k) next t a safe is = absurd is
  told_on (acts step k) next t a safe is = (
    subst (λ s. Does s t) (sym is.0) safe.0,
    λ after tells good. subst (λ p. IsSafe p after) (sym is.1) (safe.1 a.answer after (subst (λ s. Tells s t a.answer after) is.0 tells) good),
  )

  module _ (caller : ℕ) (now_on : (m : Moment) (e : Event) → Now m → IsLawful m.state (e ∷ []) → Now (next_moment m e))
      (good_on : (step : Step) (t after : Tree) (told : Told) → Good t → Does step t → Tells step t told after → Good after) where
    pub traced : (p : DrainsOn) (m : Moment) (store : Stored) (t : Tree) (happened : List Happening) (left : DrainsOn) → IsSafe p t → Now m → Good t → store.tree ≡ Some t → AreMade m store happened → Drives caller p happened left → IsTraced caller t happened left
    traced p m store t [] left safe now good told made drives = λ outcome is. subst (λ q. IsSafe q t) (sym drives ∙ is) safe
    traced p m store t (at_source e ∷ rest) left safe now good told (l, made) (inl (other, drives)) =
        (λ own. absurd (other own), traced p (next_moment m e) store t rest left safe (now_on m e now l) good told made drives)
    traced p m store t (at_source e ∷ rest) left safe now good told (l, made) (inr (own, (next, is, drives))) =
        let r = replied p next m t e safe is now l in
        (λ same. r.0, traced next (next_moment m e) store t rest left r.1 (now_on m e now l) good told made drives)
    traced p m store t (at_target a ∷ rest) left safe now good told (acted, made) (next, is, drives) =
        let s = told_on p next t a safe is in
        let after = acts_told a.step store a.after t a.answer told acted in
        let good_after : Good after.0 = good_on a.step t after.0 a.answer good s.0 after.2 in
        (s.0, (after.0, after.1, after.2, good_after, traced next m a.after after.0 rest left (s.1 after.0 after.2 good_after) now good_after after.1 made drives))
