use Rattle.std.proofs.Common.{◌∙◌, ◌∷◌, ◌++◌, [], ap}
use Rattle.std.specs.Map.{values_of}
use Rattle.script_lang.proofs.Scripts.Keys.{inserted_behind, agree_behind, values_behind}
use Rattle.script_lang.proofs.cast.Cast.push.Goals as goal

pub invariant_of-self-2 : goal.invariant_of-self-2
invariant_of-self-2 c =
    let named = c.in_ok-name.ensures.items ∙ c.bytes.ensures.value in
    let none = rw (← c.self.view_is) at c.requires in
    let behind = c.in_ok-insert.ensures.entries ∙ inserted_behind (λ k. k.items) (λ a. a.name) c.in_ok-name.name c.args.actor c.self.inside.table.entries named c.self.invariant none in
    rw behind (agree_behind (λ k. k.items) (λ a. a.name) c.in_ok-name.name c.args.actor c.self.inside.table.entries named c.self.invariant)

pub returns : goal.returns
returns c =
    let named = c.in_ok-name.ensures.items ∙ c.bytes.ensures.value in
    let none = rw (← c.self.view_is) at c.requires in
    let behind = c.in_ok-insert.ensures.entries ∙ inserted_behind (λ k. k.items) (λ a. a.name) c.in_ok-name.name c.args.actor c.self.inside.table.entries named c.self.invariant none in
    ap values_of behind
    ∙ (values_behind (λ k. k.items) (λ a. a.name) c.in_ok-name.name c.args.actor c.self.inside.table.entries
    ∙ ap (λ actors. actors ++ c.args.actor ∷ []) c.self.view_is)
