-- How a statement ends, whatever is replied: what holds at each of its ends.
use Rattle.std.proofs.Common.{◌≡◌, ◌≢◌, List, Bool, true, false, Option, Some, None, refl}
use Rattle.std.specs.Prelude.{⊤, Result, if◌then◌else◌}
use Rattle.mount_model.specs.Program.{Program, done, ask, followed_by}
use Rattle.mount_model.specs.Process.{ends, pauses, tells, asks, shares}
use Rattle.mount_model.specs.declared.call.Call.{Call}
use Rattle.mount_model.specs.declared.reply.Reply.{Reply}
use Rattle.mount_model.specs.declared.stuck.Stuck.{Stuck}
use Rattle.index_reader.specs.declared.sharing.Share.{Share}
use Rattle.actor_core.specs.declared.kept.Stop.{Stop}
use Rattle.actor_core.specs.Endings.{Ending}
use Rattle.actor_core.specs.Stopping.{carried, is_due, one_nearer}
use Rattle.actor_core.specs.Work.{Work}

-- whatever is replied, and whatever its workers come to, it tells a line, and ends so
abbrev pub EndsAs : (Ending → Type 0) → Work → Type 0
EndsAs P ends = ⊥
EndsAs P (pauses work) = ⊥
EndsAs P (tells ending work) = P ending
EndsAs P (asks question k) = (reply : Reply) → EndsAs P (k reply)
EndsAs P (shares programs k alone) = ((results : List (Result Share Stuck)) → EndsAs P (k results)) × EndsAs P alone

pub either : (P : Ending → Type 0) (b : Bool) (p q : Work) → (b ≡ true → EndsAs P p) → (b ≡ false → EndsAs P q) → EndsAs P (if b then p else q)
either P true p q x y = x refl
either P false p q x y = y refl

-- ---- what a program results in

abbrev pub ResultsIn : {R : Type 0} → (R → Type 0) → Program Call Reply R → Type 0
ResultsIn Q (done r) = Q r
ResultsIn Q (ask question k) = (reply : Reply) → ResultsIn Q (k reply)

pub any_result : {R : Type 0} (p : Program Call Reply R) → ResultsIn (λ r. ⊤) p
any_result (done r) = tt
any_result (ask question k) = λ reply. any_result (k reply)

pub results_then : {R S : Type 0} (Q : R → Type 0) (P : S → Type 0) (p : Program Call Reply R) (next : R → Program Call Reply S) → ResultsIn Q p → ((r : R) → Q r → ResultsIn P (next r)) → ResultsIn P (followed_by p next)
results_then Q P (done r) next results goes = goes r results
results_then Q P (ask question k) next results goes = λ reply. results_then Q P (k reply) next (results reply) goes

-- ---- a program that a stop may break off

-- A stop is left only where one was armed.
abbrev pub IsLeftOf : Option Stop → Option Stop → Type 0
IsLeftOf stop left = stop ≡ None → left ≡ None

pub some_stop : (s : Stop) → Some s ≢ None
some_stop s is = absurd (cc)

pub carried_ends : {R : Type 0} (P : Ending → Type 0) (Q : R → Type 0) (p : Program Call Reply R) (stop : Option Stop) (next : Option Stop → R → Work) (halted : Work)
    → ResultsIn Q p → ((left : Option Stop) (r : R) → Q r → IsLeftOf stop left → EndsAs P (next left r)) → (stop ≢ None → EndsAs P halted) → EndsAs P (carried p stop next halted)
carried_ends P Q (done r) stop next halted results goes stops = goes stop r results (λ is. is)
carried_ends P Q (ask call k) None next halted results goes stops = λ reply. carried_ends P Q (k reply) None next halted (results reply) goes stops
carried_ends P Q (ask call k) (Some s) next halted results goes stops =
    λ reply. either P (is_due (Some s)) halted (carried (k reply) (one_nearer (Some s)) next halted) (λ due. stops (some_stop s))
    (λ later. carried_ends P Q (k reply) (one_nearer (Some s)) next halted (results reply) (λ left r q is. goes left r q (λ none. absurd (some_stop s none))) (λ some. stops (some_stop s)))

-- what follows from how it ends
pub ends_so : (P Q : Ending → Type 0) (work : Work) → ((e : Ending) → P e → Q e) → EndsAs P work → EndsAs Q work
ends_so P Q ends goes is = absurd is
ends_so P Q (pauses work) goes is = absurd is
ends_so P Q (tells ending work) goes is = goes ending is
ends_so P Q (asks question k) goes is = λ reply. ends_so P Q (k reply) goes (is reply)
ends_so P Q (shares programs k alone) goes is = ((λ results. ends_so P Q (k results) goes (is.0 results)), ends_so P Q alone goes is.1)
