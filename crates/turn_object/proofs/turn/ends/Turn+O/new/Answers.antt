use Rattle.std.proofs.Common.{rules, ◌≡◌, sym, subst, List, [], ◌∷◌, Option, Some, None}
use Rattle.atomic_table.specs.Table.{opening}
use Rattle.turn_object.specs.declared.slot.Resting.{Resting}
use Rattle.turn_object.specs.Rule.{IsTurning}
use Rattle.turn_object.specs.Stages.{first_front}
use Rattle.turn_object.proofs.Ends.{opens}
use Rattle.turn_object.proofs.turn.ends.Turn+O.new.Goals as goal

pub new-requires : goal.new-requires
new-requires g c =
    let about = c.of-about.result.value in
    let resting : Resting g.row.O-Ask.Denot g.row.O-Reply.Denot g.row.O.Denot = record { object = c.args.object; last = None } in
    let P : List (Option (Resting g.row.O-Ask.Denot g.row.O-Reply.Denot g.row.O.Denot)) → Type 0 = λ slots. IsTurning g.O.Object.step g.O.Object.may about (opening (0 ∷ 0 ∷ []) slots (first_front about)) in
    let pushed : c.push.new.self.items ≡ Some resting ∷ [] = search rules in
    subst P (sym pushed) (opens g.O.Object.step g.O.Object.may about resting (sym c.of-about.ensures))

pub taken_out-requires-in-Err-new : goal.taken_out-requires-in-Err-new
taken_out-requires-in-Err-new g c =
    let resting : Resting g.row.O-Ask.Denot g.row.O-Reply.Denot g.row.O.Denot = record { object = c.args.object; last = None } in
    let pushed : c.push.new.self.items ≡ Some resting ∷ [] = search rules in
    (resting, search rules)
