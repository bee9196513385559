-- What is safe for a pass may be asked by it, and stays safe after the call.
use Rattle.std.proofs.Common.{ℕ, [], ◌∷◌, ◌++◌, sym, ap, ◌∙◌, subst}
use Rattle.turn_object.specs.declared.history.Entry.{Entry}
use Rattle.turn_object.specs.declared.front.Front.{Front}
use Rattle.turn_object.specs.History.{entry, state_after, Happens}
use Rattle.turn_object.specs.Front.{KeepsIn, IsLegalFront}
use Rattle.turn_object.specs.Calls.{MayAsk, IsCalled}
use Rattle.mount_model.specs.Program.{Program, ask}
use Rattle.mount_model.specs.Process.{Process, asks}
use Rattle.mount_model.specs.Safe.{AreOthers, IsSafe, PassSafe, PassSafeProcess}
use Rattle.turn_object.proofs.Facts.{state_append, happens_rest, happens_first}
use Rattle.mount_model.proofs.Stories.Numbers.{can_be_number, called_number, can_before_call}
use Rattle.mount_model.proofs.Stories.Safety.{others_of}

module _ {A R S : Type 0} where
  module _ (step : S → ℕ → A → R → S → Type 0) (may : S → ℕ → A → Type 0) (start : S) where
    pub pass_may : {X : Type 0} (v : Front A R S) (q : A) (k : R → Program A R X) → PassSafe step may start v (ask q k) → MayAsk may start v q
    pass_may v q k s caller can = (s caller can [] tt).0

    pub process_may : {X L : Type 0} (v : Front A R S) (q : A) (k : R → Process A R X L) → PassSafeProcess step may start v (asks q k) → MayAsk may start v q
    process_may v q k s caller can = (s caller can [] tt).0

    -- what stands between happened after what the pass had seen
    pub happens_between : (v w : Front A R S) (q : A) (reply : R) → IsLegalFront step may start w → (c : IsCalled step may start v q reply w) → Happens step may (state_after start v.seen) c.between
    happens_between v w q reply front c =
        let e : Entry A R S = entry c.caller q reply c.after in
        let all : Happens step may start ((v.seen ++ c.between) ++ e ∷ []) = subst (Happens step may start) c.seen front.legal.happens in
        happens_rest step may start v.seen c.between (happens_first step may start (v.seen ++ c.between) (e ∷ []) all)

    -- after a call the rest is safe, whatever went on before it
    pub pass_goes : {X : Type 0} (v w : Front A R S) (q : A) (k : R → Program A R X) (reply : R) → KeepsIn v.seen v.mine → IsCalled step may start v q reply w → IsLegalFront step may start w → PassSafe step may start v (ask q k) → PassSafe step may start w (k reply)
    pass_goes v w q k reply keeps c front s caller can =
        let e : Entry A R S = entry c.caller q reply c.after in
        let was = can_before_call step may start v w q reply c caller can in
        let t = called_number step may start v w q reply keeps c caller (can_be_number step may start w.seen w.mine caller front.legal front.own can) in
        let others : AreOthers step may caller (state_after start v.seen) c.between = others_of step may caller (state_after start v.seen) c.between (happens_between v w q reply front c) t.1 in
        let st : step (state_after (state_after start v.seen) c.between) caller q reply c.after =
        subst (λ (z : S). step z caller q reply c.after) (state_append start v.seen c.between) (subst (λ (z : ℕ). step (state_after start (v.seen ++ c.between)) z q reply c.after) was.0 c.stepped) in
        let rest = (s caller was.1 c.between others).1 reply c.after st in
        subst (λ (z : S). IsSafe step may caller (k reply) z) (sym (ap (state_after start) c.seen ∙ state_append start (v.seen ++ c.between) (e ∷ []))) rest
