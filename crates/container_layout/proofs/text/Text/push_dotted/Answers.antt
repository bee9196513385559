use Rattle.std.proofs.Common.{ℕ, ◌-◌, List, ◌++◌, length, take, drop, get_or, sym, ap, ◌∙◌, append_assoc, arith}
use Rattle.std.specs.List.{flat_map}
use Rattle.std.specs.Fmt.{decimal}
use Rattle.std.proofs.lemmas.List.{length-append}
use Rattle.container_layout.specs.Numbers.{behind_dot}
use Rattle.container_layout.proofs.Short.{first_and_others}
use Rattle.container_layout.proofs.text.Text.push_dotted.Goals as goal

pub push_behind_dots-requires : goal.push_behind_dots-requires
push_behind_dots-requires c =
    let numbers = c.args.numbers.now in
    let first = decimal (get_or numbers 0 0) in
    let others = flat_map behind_dot (take (length numbers - 1) (drop 1 numbers)) in
    omega (
      arith,
      ap length c.push_number.ensures,
      length-append c.args.self.now first,
      length-append first others,
      ap length (first_and_others numbers c.in-len1-up.len_at_least),
      c.requires,
    )

pub returns-in-len1-up : goal.returns-in-len1-up
returns-in-len1-up c =
    let numbers = c.args.numbers.now in
    let first = decimal (get_or numbers 0 0) in
    let others = flat_map behind_dot (take (length numbers - 1) (drop 1 numbers)) in
    c.push_behind_dots.ensures ∙ ap (λ (t : List ℕ). t ++ others) c.push_number.ensures ∙ append_assoc c.args.self.now first others
    ∙ ap (λ (t : List ℕ). c.args.self.now ++ t) (sym (first_and_others numbers c.in-len1-up.len_at_least))
