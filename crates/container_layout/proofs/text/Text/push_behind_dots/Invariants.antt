use Rattle.std.proofs.Common.{◌≡◌, ◌++◌, drop}
use Rattle.std.specs.List.{flat_map}
use Rattle.container_layout.specs.Numbers.{behind_dot}
use Rattle.container_layout.proofs.text.Text.push_behind_dots.Given as goal

abbrev pub invariant-loop-number : goal.invariant-loop-number
invariant-loop-number l =
    l.self ++ flat_map behind_dot (drop l.number-index l.numbers) ≡ l.initial.self ++ flat_map behind_dot l.numbers
