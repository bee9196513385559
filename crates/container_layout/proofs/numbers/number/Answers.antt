use Rattle.std.proofs.Common.{◌≡◌, true, false, refl}
use Rattle.container_layout.proofs.Decimals.{number_begins_plain, number_is_utf8, parsed_is_number, refused_is_no_number}
use Rattle.container_layout.proofs.numbers.number.Goals as goal

pub returns-then-not-begins_plain-clause-none : goal.returns-then-not-begins_plain-clause-none
returns-then-not-begins_plain-clause-none c = λ n is.
    let plain : false ≡ true = c.if-not-begins_plain.ensures.1 (number_begins_plain c.args.text.now n is) in absurd cc

pub returns-in_default-clause-none : goal.returns-in_default-clause-none
returns-in_default-clause-none c = λ n is. c.in_default.ensures.cases.0 (number_is_utf8 c.args.text.now n is)

pub returns-in-Ok-parse-clause-found : goal.returns-in-Ok-parse-clause-found
returns-in-Ok-parse-clause-found c =
    parsed_is_number c.in-Ok.text.now c.args.text.now c.in-Ok-parse.number c.in-Ok.ensures.cases.0 (c.if-not-begins_plain.ensures.0 refl) c.in-Ok-parse.ensures.value.0

pub returns-in-Err-clause-none : goal.returns-in-Err-clause-none
returns-in-Err-clause-none c =
    refused_is_no_number c.in-Ok.text.now c.args.text.now c.in-Ok.ensures.cases.0 (c.if-not-begins_plain.ensures.0 refl) c.in-Err.ensures.value.0
