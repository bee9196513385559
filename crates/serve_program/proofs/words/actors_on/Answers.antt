use Rattle.std.proofs.Common.{◌++◌, ◌∷◌, [], List, ap, ◌∙◌}
use Rattle.script_lang.specs.declared.script.ActorDecl.{ActorDecl}
use Rattle.serve_program.specs.Words.{actor_on}
use Rattle.serve_program.proofs.Actors.{one_actor_more}
use Rattle.serve_program.proofs.words.actors_on.Goals as goal

pub loop-i-preserved : goal.loop-i-preserved
loop-i-preserved c =
    c.in_ok-push.ensures.ok ∙ (ap (λ (z : ActorDecl). c.loop-i.actors ++ z ∷ []) c.actor_on.ensures ∙ (ap (λ (z : List ActorDecl). z ++ actor_on c.args.host ∷ []) c.loop-i.invariant ∙ one_actor_more c.loop-i._i (actor_on c.args.host)))
