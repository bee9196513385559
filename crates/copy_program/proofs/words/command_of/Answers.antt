use Rattle.std.proofs.Common.{List, ℕ, ◌∷◌, ap, codes}
use Rattle.copy_program.proofs.Commands.{command_so, no_command_so}
use Rattle.copy_program.proofs.words.command_of.Goals as goal

pub returns-then-is_put-clause-found : goal.returns-then-is_put-clause-found
returns-then-is_put-clause-found c =
    command_so c.put_of.result (c.args.verb.now ∷ c.args.name ∷ c.args.options.now) (codes "put" ∷ c.args.name ∷ c.args.options.now)
    (ap (λ (v : List ℕ). v ∷ c.args.name ∷ c.args.options.now) (c.is_put.ensures.0 c.if-is_put.true)) c.put_of.ensures.found

pub returns-then-is_put-clause-none : goal.returns-then-is_put-clause-none
returns-then-is_put-clause-none c =
    no_command_so c.put_of.result (c.args.verb.now ∷ c.args.name ∷ c.args.options.now) (codes "put" ∷ c.args.name ∷ c.args.options.now)
    (ap (λ (v : List ℕ). v ∷ c.args.name ∷ c.args.options.now) (c.is_put.ensures.0 c.if-is_put.true)) c.put_of.ensures.none

pub returns-then-is_get-clause-found : goal.returns-then-is_get-clause-found
returns-then-is_get-clause-found c =
    command_so c.get_of.result (c.args.verb.now ∷ c.args.name ∷ c.args.options.now) (codes "get" ∷ c.args.name ∷ c.args.options.now)
    (ap (λ (v : List ℕ). v ∷ c.args.name ∷ c.args.options.now) (c.is_get.ensures.0 c.if-is_get.true)) c.get_of.ensures.found

pub returns-then-is_get-clause-none : goal.returns-then-is_get-clause-none
returns-then-is_get-clause-none c =
    no_command_so c.get_of.result (c.args.verb.now ∷ c.args.name ∷ c.args.options.now) (codes "get" ∷ c.args.name ∷ c.args.options.now)
    (ap (λ (v : List ℕ). v ∷ c.args.name ∷ c.args.options.now) (c.is_get.ensures.0 c.if-is_get.true)) c.get_of.ensures.none
