-- What a safe program or process gives, in a history that a turn keeps.
use Rattle.std.proofs.Common.{◌≡◌, ℕ, List, [], ◌∷◌, ◌++◌, length, sym, ap, ◌∙◌, subst, arith}
use mathlib.Core.Logic.{dite}
use native.Mathlib.Decide.{ℕ_discrete}
use Rattle.turn_object.specs.declared.history.Entry.{Entry}
use Rattle.turn_object.specs.History.{state_after, Happens}
use Rattle.turn_object.specs.Callers.{made_by}
use Rattle.mount_model.specs.Program.{Program, done, ask}
use Rattle.mount_model.specs.Process.{Process, leads_to, ends, pauses, tells, asks, shares}
use Rattle.mount_model.specs.Calls.{AreCallsOf, AreCallsOfEach}
use Rattle.mount_model.specs.Safe.{AreOthers, Lasts, IsSafe, AreFree, IsSafeProcess}
use Rattle.turn_object.proofs.Facts.{state_append, happens_rest, happens_first}
use Rattle.mount_model.proofs.Stories.Parts.{entries_first, entries_not_first, at_first}

module _ {A R S : Type 0} where
  module _ (step : S → ℕ → A → R → S → Type 0) (may : S → ℕ → A → Type 0) where
    pub others-append : (caller : ℕ) (state : S) (xs ys : List (Entry A R S)) → AreOthers step may caller state xs → AreOthers step may caller (state_after state xs) ys → AreOthers step may caller state (xs ++ ys)
    others-append caller state [] ys a b = b
    others-append caller state (e ∷ es) ys a b = (a.0, a.1, a.2, others-append caller e.after es ys a.3 b)

    -- entries that are none of this caller's are those of others
    pub others_of : (caller : ℕ) (state : S) (xs : List (Entry A R S)) → Happens step may state xs → made_by caller xs ≡ [] → AreOthers step may caller state xs
    others_of caller state [] happens none = tt
    others_of caller state (x ∷ xs) happens none = dite (ℕ_discrete x.caller caller)
        (λ is. let l : length (made_by caller (x ∷ xs)) ≡ 0 = ap length none in let k : length (made_by caller (x ∷ xs)) ≡ length (x ∷ made_by caller xs) = ap length (entries_first caller x xs is) in absurd (omega arith))
        (λ other. (other, happens.0, happens.1, others_of caller x.after xs happens.2 (sym (entries_not_first caller x xs other) ∙ none)))

    -- what lasts in a state lasts after others called
    lasts_along : (caller : ℕ) (state : S) (fact : S → Type 0) (others : List (Entry A R S)) → AreOthers step may caller state others → Lasts step may caller state fact → Lasts step may caller (state_after state others) fact
    lasts_along caller state fact others o lasts = λ more m. subst fact (state_append state others more) (lasts (others ++ more) (others-append caller state others more o m))

    -- a safe process stays so while others call
    pub process_lasts : {X L : Type 0} (caller : ℕ) (p : Process A R X L) (state : S) (others : List (Entry A R S)) → AreOthers step may caller state others → IsSafeProcess step may caller p state → IsSafeProcess step may caller p (state_after state others)
    process_lasts caller ends state others o s = tt
    process_lasts caller (pauses p) state others o s = process_lasts caller p state others o s
    process_lasts caller (tells line p) state others o s = process_lasts caller p state others o s
    process_lasts caller (asks q k) state others o s =
        lasts_along caller state (λ z. may z caller q × ((reply : R) (after : S) → step z caller q reply after → IsSafeProcess step may caller (k reply) after)) others o s
    process_lasts {X} caller (shares ps k alone) state others o s =
        (lasts_along caller state (λ z. AreFree step may ps z × ((calls : List (List (Entry A R S))) (results : List X) → AreCallsOfEach ps calls results → IsSafeProcess step may caller (k results) z)) others o s.0, process_lasts caller alone state others o s.1)

    -- the program by which a process goes on is safe where the process is
    pub safe_first : {X L Y : Type 0} (caller : ℕ) (p : Program A R Y) (next : Y → Process A R X L) (state : S) → IsSafeProcess step may caller (leads_to p next) state → IsSafe step may caller p state
    safe_first caller (done y) next state s = tt
    safe_first caller (ask q k) next state s = λ others o. let t = s others o in (t.0, λ reply after st. safe_first caller (k reply) next after (t.1 reply after st))

    -- once its calls are made, what follows is safe
    pub safe_along : {X L Y : Type 0} (caller : ℕ) (p : Program A R Y) (next : Y → Process A R X L) (state : S) (part calls : List (Entry A R S)) (result : Y)
        → Happens step may state part → made_by caller part ≡ calls → AreCallsOf p calls result → IsSafeProcess step may caller (leads_to p next) state → IsSafeProcess step may caller (next result) (state_after state part)
    safe_along caller (done y) next state part calls result happens is made s =
        subst (λ z. IsSafeProcess step may caller (next z) (state_after state part)) made.1 (process_lasts caller (next y) state part (others_of caller state part happens (is ∙ made.0)) s)
    safe_along caller (ask q k) next state part [] result happens is made s = absurd made
    safe_along caller (ask q k) next state part (e ∷ calls) result happens is made s =
        let t = at_first caller part e calls is in
        let whole : Happens step may state (t.before ++ e ∷ t.after) = subst (Happens step may state) t.all happens in
        let at = happens_rest step may state t.before (e ∷ t.after) whole in
        let here = s t.before (others_of caller state t.before (happens_first step may state t.before (e ∷ t.after) whole) t.none) in
        let st : step (state_after state t.before) caller q e.reply e.after =
        subst (λ (z : A). step (state_after state t.before) caller z e.reply e.after) made.0 (subst (λ (z : ℕ). step (state_after state t.before) z e.ask e.reply e.after) t.own at.1) in
        subst (λ (z : S). IsSafeProcess step may caller (next result) z) (sym (ap (state_after state) t.all ∙ state_append state t.before (e ∷ t.after)))
        (safe_along caller (k e.reply) next e.after t.after calls result at.2 t.others made.1 (here.1 e.reply e.after st))
