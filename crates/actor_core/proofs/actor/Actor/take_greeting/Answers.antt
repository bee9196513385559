use Rattle.std.proofs.Common.{◌≡◌, ◌<◌, ℕ, ap, sym, ◌∙◌, subst, false}
use Rattle.std.specs.Prelude.{OnOk}
use Rattle.actor_core.specs.declared.actor.State.TheVariants.{Working, Greeting}
use Rattle.actor_core.specs.Progress.{Progress, with_reply}
use Rattle.actor_core.specs.Standings.{doing_ready, greeting, progress_of, calls_left, doing_left, state_left}
use Rattle.actor_core.proofs.Carrying.{asked_along, greeting_same, placed}
use Rattle.actor_core.proofs.Doings.{more_left}
use Rattle.actor_core.proofs.actor.Actor.take_greeting.Goals as goal

pub returns-in-Greeting : goal.returns-in-Greeting
returns-in-Greeting c =
    let was = c.args.self.now in
    let n = c.state_taken.new.self.number in
    let k = c.state_taken.new.self.kept in
    let s = c.state_taken.new.self.stop in
    let d = c.in-Greeting.doing in
    let taken = c.take_reply in
    let state = sym c.state_taken.ensures.state ∙ c.in-Greeting.is in
    let here : progress_of was ≡ greeting n (doing_ready k s d) =
    placed was n k s (Greeting d) state (sym c.state_taken.ensures.kept) (sym c.state_taken.ensures.number) (sym c.state_taken.ensures.stop) in
    let greets = greeting_same n (doing_ready k s d) (asked_along (progress_of was) (greeting n (doing_ready k s d)) here c.requires.asked) in
    let here_now : progress_of c.set.new.self ≡ progress_of was =
    placed c.set.new.self n k s (Working d false) c.set.ensures.state c.set.ensures.kept c.set.ensures.number c.set.ensures.stop ∙ sym greets ∙ sym here in
    let P : Progress → Type 0 = λ p. OnOk taken.result (progress_of taken.new.self ≡ with_reply p c.args.reply) in
    let Q : ℕ → Type 0 = λ left. OnOk taken.result (calls_left taken.new.self < left) in
    let fewer : OnOk taken.result (calls_left taken.new.self < calls_left c.set.new.self) = taken.ensures.left in
    record {
      goes_on = subst P here_now taken.ensures.goes_on;
      left = subst Q (sym (ap state_left state)) (more_left taken.result (calls_left taken.new.self) (doing_left d) (subst Q (ap state_left c.set.ensures.state) fewer));
    }
