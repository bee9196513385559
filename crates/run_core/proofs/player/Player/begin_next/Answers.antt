use Rattle.std.proofs.Common.{ℕ, refl, ap, ◌∙◌, ◌++◌, map}
use Rattle.std.specs.Option.{option_to_list}
use Rattle.script_lang.specs.declared.script.Statement.{Statement}
use Rattle.actor_core.specs.Progress.{begun as begun_at}
use Rattle.actor_core.specs.Standings.{progress_of}
use Rattle.run_core.proofs.Players.Turning.{begins_next}
use Rattle.run_core.proofs.player.Player.begin_next.Goals as goal

pub returns-clause-begins : goal.returns-clause-begins
returns-clause-begins c =
    let next = c.in-Some.next.now in
    begins_next c.args.self.now _ next c.requires.idle
    (ap (λ z. map (λ s. s.now) z) (c.pop_front.ensures.items ∙ ap (λ o. option_to_list o ++ c.pop_front.new.self.items) c.in-Some.is)) refl refl
    (c.in_ok-begin.ensures ∙ (ap (λ (n : ℕ). begun_at (progress_of c.args.self.now.actor) n c.in_ok-statement.statement) c.line.ensures
    ∙ ap (λ (z : Statement). begun_at (progress_of c.args.self.now.actor) next.line z) c.in_ok-statement.ensures))
