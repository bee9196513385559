-- What a pass does, step by step: it makes a program, it calls, it tells lines, and it sees what others did.
use Rattle.std.proofs.Common.{◌≡◌, ℕ, List, [], ◌∷◌, ◌++◌, sym, refl, ap, ◌∙◌, subst, append_assoc}
use Rattle.std.proofs.lemmas.List.{append-nil}
use Rattle.turn_object.specs.declared.history.Entry.{Entry}
use Rattle.turn_object.specs.declared.history.Ended.{Ended}
use Rattle.turn_object.specs.declared.front.Front.{Front}
use Rattle.turn_object.specs.History.{state_after, StartsWith, Happens}
use Rattle.turn_object.specs.Callers.{MayCallAs}
use Rattle.turn_object.specs.Front.{KeepsIn, IsHistory, IsLegalFront}
use Rattle.turn_object.specs.Calls.{IsCalled}
use Rattle.mount_model.specs.Program.{Program, done, ask}
use Rattle.mount_model.specs.Process.{Process, leads_to, tells, asks}
use Rattle.mount_model.specs.Plays.{Plays}
use Rattle.mount_model.specs.MakesCalls.{with_numbers}
use Rattle.mount_model.specs.Safe.{IsSafeProcess, PassSafeProcess}
use Rattle.mount_model.specs.Going.{HasMade, HasGone}
use Rattle.turn_object.proofs.Facts.{state_append, happens_rest}
use Rattle.mount_model.proofs.Stories.Making.{made_none, made_more, all_made}
use Rattle.mount_model.proofs.Stories.Numbers.{none_since, numbers-append, can_be_number, could_be}
use Rattle.mount_model.proofs.Stories.Playing.{plays_made}
use Rattle.mount_model.proofs.Stories.Safety.{others_of, process_lasts, safe_along}

module _ {A R S : Type 0} where
  pub went_none : {X L : Type 0} (v : Front A R S) (p : Process A R X L) → HasGone v p v p []
  went_none v p = record {
    part = [];
    workers = [];
    seen = sym (append-nil v.seen);
    ended = sym (append-nil v.ended);
    parts = refl;
    number = λ n is. is;
    plays = λ n is more later after left plays. plays;
  }

  -- one after the other
  pub went_then : {X L : Type 0} (v u w : Front A R S) (p q r : Process A R X L) (first second : List L) → HasGone v p u q first → HasGone u q w r second → HasGone v p w r (first ++ second)
  went_then {X} {L} v u w p q r first second a b = record {
    part = a.part ++ b.part;
    workers = a.workers ++ b.workers;
    seen = b.seen ∙ (ap (λ (z : List (Entry A R S)). z ++ b.part) a.seen ∙ append_assoc v.seen a.part b.part);
    ended = b.ended ∙ (ap (λ (z : List (Ended A R S)). z ++ with_numbers b.workers) a.ended ∙ (append_assoc v.ended (with_numbers a.workers) (with_numbers b.workers) ∙ ap (λ (z : List (Ended A R S)). v.ended ++ z) (sym (numbers-append a.workers b.workers))));
    parts = b.parts ∙ a.parts;
    number = λ n is. a.number n (b.number n is);
    plays = λ n is more later after left plays.
        let t = a.plays n (b.number n is) (b.part ++ more) (b.workers ++ later) (second ++ after) left (b.plays n is more later after left plays) in
        let P : List (Entry A R S) × (List (List (Entry A R S)) × List L) → Type 0 = λ z. Plays n p z.0 z.1.0 z.1.1 left in
        subst P (λ i. (sym (append_assoc a.part b.part more) i, (sym (append_assoc a.workers b.workers later) i, sym (append_assoc first second after) i))) t;
  }

  -- a line is told
  pub went_tells : {X L : Type 0} (v : Front A R S) (line : L) (p : Process A R X L) → HasGone v (tells line p) v p (line ∷ [])
  went_tells v line p = record {
    part = [];
    workers = [];
    seen = sym (append-nil v.seen);
    ended = sym (append-nil v.ended);
    parts = refl;
    number = λ n is. is;
    plays = λ n is more later after left plays. (after, refl, plays);
  }

  -- a program that was made is what its process went through
  pub went_made : {X L Y : Type 0} (v w : Front A R S) (p : Program A R Y) (y : Y) (next : Y → Process A R X L) → HasMade v p w (done y) → HasGone v (leads_to p next) w (next y) []
  went_made {X} {L} v w p y next m = record {
    part = m.part;
    workers = [];
    seen = m.seen;
    ended = m.ended ∙ sym (append-nil v.ended);
    parts = m.parts;
    number = λ n is. (m.number n is).0;
    plays = λ n is more later after left plays.
        plays_made n p next m.part m.calls y more later after left (m.number n is).1 (all_made v w p y m) plays;
  }

  module _ (step : S → ℕ → A → R → S → Type 0) (may : S → ℕ → A → Type 0) (start : S) where
    -- and what follows is safe
    pub safe_made : {X L Y : Type 0} (v w : Front A R S) (p : Program A R Y) (y : Y) (next : Y → Process A R X L) → HasMade v p w (done y) → IsLegalFront step may start w
        → PassSafeProcess step may start v (leads_to p next) → PassSafeProcess step may start w (next y)
    safe_made v w p y next m front s caller can =
        let t = m.number caller (can_be_number step may start w.seen w.mine caller front.legal front.own can) in
        let legal : Happens step may start (v.seen ++ m.part) = subst (Happens step may start) m.seen front.legal.happens in
        let safe = safe_along step may caller p next (state_after start v.seen) m.part m.calls y (happens_rest step may start v.seen m.part legal) t.1 (all_made v w p y m) (s caller (m.could caller can)) in
        subst (λ (z : S). IsSafeProcess step may caller (next y) z) (sym (ap (state_after start) m.seen ∙ state_append start v.seen m.part)) safe

    -- one call of a process, for an actor that is driven call by call
    pub made_call : (v w : Front A R S) (q : A) (reply : R) → KeepsIn v.seen v.mine → IsCalled step may start v q reply w → HasMade v (ask q (λ r. done r)) w (done reply)
    made_call v w q reply keeps c = made_more step may start v v w (ask q (λ r. done r)) q (λ r. done r) reply keeps (made_none v (ask q (λ r. done r))) c

    pub went_call : {X L : Type 0} (v w : Front A R S) (q : A) (k : R → Process A R X L) (reply : R) → KeepsIn v.seen v.mine → IsCalled step may start v q reply w → HasGone v (asks q k) w (k reply) []
    went_call v w q k reply keeps c = went_made v w (ask q (λ r. done r)) reply k (made_call v w q reply keeps c)

    pub safe_call : {X L : Type 0} (v w : Front A R S) (q : A) (k : R → Process A R X L) (reply : R) → KeepsIn v.seen v.mine → IsCalled step may start v q reply w → IsLegalFront step may start w → PassSafeProcess step may start v (asks q k) → PassSafeProcess step may start w (k reply)
    safe_call v w q k reply keeps c front s = safe_made v w (ask q (λ r. done r)) reply k (made_call v w q reply keeps c) front s

    -- a pass that only sees more is safe as before
    pub safe_sees : {X L : Type 0} (v w : Front A R S) (p : Process A R X L) → StartsWith w.seen v.seen → w.mine ≡ v.mine → KeepsIn v.seen v.mine → IsLegalFront step may start w → PassSafeProcess step may start v p → PassSafeProcess step may start w p
    safe_sees v w p more mine keeps front s caller can =
        let can' : MayCallAs (v.seen ++ more.0) v.mine caller = subst (λ (z : List (Entry A R S) × List (Entry A R S)). MayCallAs z.0 z.1 caller) (λ i. (more.1 i, mine i)) can in
        let own : KeepsIn (v.seen ++ more.0) v.mine = subst (λ (z : List (Entry A R S) × List (Entry A R S)). KeepsIn z.0 z.1) (λ i. (more.1 i, mine i)) front.own in
        let legal : IsHistory step may start (v.seen ++ more.0) = subst (IsHistory step may start) more.1 front.legal in
        let is = can_be_number step may start (v.seen ++ more.0) v.mine caller legal own can' in
        let t = none_since caller v.seen more.0 v.mine keeps is.0 is.1 in
        let others = others_of step may caller (state_after start v.seen) more.0 (happens_rest step may start v.seen more.0 legal.happens) t.1 in
        subst (λ (z : S). IsSafeProcess step may caller p z) (sym (ap (state_after start) more.1 ∙ state_append start v.seen more.0))
        (process_lasts step may caller p (state_after start v.seen) more.0 others (s caller (could_be v.seen more.0 v.mine caller can')))
