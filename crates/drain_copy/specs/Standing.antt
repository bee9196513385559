-- Where one stands in a program with two sides, and how it goes on.
use Rattle.std.specs.Prelude.{◌≡◌}
use Rattle.store_api.specs.Owned.{step_given}
use Rattle.mount_model.specs.declared.reply.Reply.{Reply}
use Rattle.mount_model.specs.Step.{OwedBy}
use Rattle.drain_copy.specs.declared.points.DrainNext.{DrainNext}
use Rattle.drain_copy.specs.declared.points.DrainNext.TheVariants.{Source, Target, End}
use Rattle.drain_copy.specs.Asking.{acts, calls, ends}
use Rattle.mount_model.specs.Making.{Told}
use Rattle.drain_copy.specs.Telling.{DrainsOn, Outcome}

-- It is to go on with this program; or a call was given, or a step, after whose reply or answer it goes on so.
pub data Standing : Type 0 where
  ready : DrainsOn → Standing
  awaits_reply : (Reply → DrainsOn) → Standing
  awaits_answer : (Told → DrainsOn) → Standing

abbrev pub ended : Outcome → Standing
ended outcome = ready (ends outcome)

abbrev pub IsReady : Standing → Type 0
IsReady (ready p) = Unit {0}
IsReady (awaits_reply k) = ⊥
IsReady (awaits_answer k) = ⊥

abbrev pub AwaitsReply : Standing → Type 0
AwaitsReply (ready p) = ⊥
AwaitsReply (awaits_reply k) = Unit {0}
AwaitsReply (awaits_answer k) = ⊥

abbrev pub AwaitsAnswer : Standing → Type 0
AwaitsAnswer (ready p) = ⊥
AwaitsAnswer (awaits_reply k) = ⊥
AwaitsAnswer (awaits_answer k) = Unit {0}

abbrev pub HasEnded : Standing → Type 0
HasEnded (ready (ends outcome)) = Unit {0}
HasEnded (ready (calls call k)) = ⊥
HasEnded (ready (acts step k)) = ⊥
HasEnded (awaits_reply k) = ⊥
HasEnded (awaits_answer k) = ⊥

-- the next question is given, or there is none
abbrev pub IsGiven : Standing → DrainNext → Standing → Type 0
IsGiven (ready (ends outcome)) End new = new ≡ ended outcome
IsGiven (ready (calls call k)) (Source given) new = (given ≡ call) × (new ≡ awaits_reply k)
IsGiven (ready (acts step k)) (Target given) new = (step_given given ≡ step) × (new ≡ awaits_answer k)
IsGiven old next new = ⊥

-- the caller may make its call
abbrev pub IsOwedNext : DrainNext → Type 0
IsOwedNext (Source call) = OwedBy call
IsOwedNext (Target step) = Unit {0}
IsOwedNext End = Unit {0}

-- the reply has come, and it goes on with this
abbrev pub GoesOnAfter : Standing → Reply → Standing → Type 0
GoesOnAfter (awaits_reply k) reply new = new ≡ ready (k reply)
GoesOnAfter old reply new = ⊥

-- the answer has come
abbrev pub GoesOnTold : Standing → Told → Standing → Type 0
GoesOnTold (awaits_answer k) told new = new ≡ ready (k told)
GoesOnTold old told new = ⊥
