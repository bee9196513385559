use Rattle.std.proofs.Common.{[], ◌∷◌}
use Rattle.container_layout.specs.Numbers.{dotted}
use Rattle.container_layout.proofs.Dots.{at_none, numbers_behind}
use Rattle.container_layout.proofs.numbers.five_numbers.Goals as goal

pub returns-in_err-second-clause-none : goal.returns-in_err-second-clause-none
returns-in_err-second-clause-none s =
    let one = s.in_ok-first.ensures.found in
    at_none s.from_residual-in_err-second.result (λ a b c d e are.
    let behind_one = numbers_behind s.args.text.now s.in_ok-first.rest.now s.in_ok-first.first one.0 one.1 a b (c ∷ d ∷ e ∷ []) are in
    s.in_err-second.ensures.none b (dotted (c ∷ d ∷ e ∷ [])) behind_one.fit.0 behind_one.printed)

pub returns-in_err-third-clause-none : goal.returns-in_err-third-clause-none
returns-in_err-third-clause-none s =
    let one = s.in_ok-first.ensures.found in
    let two = s.in_ok-second.ensures.found in
    at_none s.from_residual-in_err-third.result (λ a b c d e are.
    let behind_one = numbers_behind s.args.text.now s.in_ok-first.rest.now s.in_ok-first.first one.0 one.1 a b (c ∷ d ∷ e ∷ []) are in
    let behind_two = numbers_behind s.in_ok-first.rest.now s.in_ok-second.rest.now s.in_ok-second.second two.0 two.1 b c (d ∷ e ∷ []) behind_one in
    s.in_err-third.ensures.none c (dotted (d ∷ e ∷ [])) behind_two.fit.0 behind_two.printed)

pub returns-in_err-fourth-clause-none : goal.returns-in_err-fourth-clause-none
returns-in_err-fourth-clause-none s =
    let one = s.in_ok-first.ensures.found in
    let two = s.in_ok-second.ensures.found in
    let three = s.in_ok-third.ensures.found in
    at_none s.from_residual-in_err-fourth.result (λ a b c d e are.
    let behind_one = numbers_behind s.args.text.now s.in_ok-first.rest.now s.in_ok-first.first one.0 one.1 a b (c ∷ d ∷ e ∷ []) are in
    let behind_two = numbers_behind s.in_ok-first.rest.now s.in_ok-second.rest.now s.in_ok-second.second two.0 two.1 b c (d ∷ e ∷ []) behind_one in
    let behind_three = numbers_behind s.in_ok-second.rest.now s.in_ok-third.rest.now s.in_ok-third.third three.0 three.1 c d (e ∷ []) behind_two in
    s.in_err-fourth.ensures.none d e behind_three)
