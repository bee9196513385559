use Rattle.std.proofs.Common.{◌≡◌, ◌^◌, ◌<◌, ℕ, Some, Result, Ok, Err, List, sym, ap, ◌∙◌, rules, arith}
use Rattle.std.specs.Fmt.{decimal}
use Rattle.std.specs.Str.{IsUtf8}
use Rattle.std.specs.Str.Parse.{ParsesUnsigned}
use Rattle.std.proofs.lemmas.Str.{IsUtf8-from_ascii}
use Rattle.std.proofs.lemmas.Fmt.{parse-decimal_wide, IsAscii-decimal_wide}
use Rattle.report_text.proofs.fields.wide_number.Goals as goal

-- a number's spelling is text
is_text : (n : ℕ) (bytes : List ℕ) → n < 2 ^ 128 → bytes ≡ decimal n → IsUtf8 bytes
is_text n bytes small is = rw is (IsUtf8-from_ascii (decimal n) (IsAscii-decimal_wide n (omega arith)))

-- what spells a number is parsed
is_parsed : {E : Type 0} (e : E) (n : ℕ) (bytes text : List ℕ) → n < 2 ^ 128 → text ≡ bytes → bytes ≡ decimal n → ParsesUnsigned 128 10 text (Err e) → ⊥
is_parsed e n bytes text small same is told = let ok = parse-decimal_wide 128 n text (Err e) small (omega arith) (same ∙ is) told in cc

-- and gives that number
parsed : (m n : ℕ) (bytes text : List ℕ) → n < 2 ^ 128 → text ≡ bytes → bytes ≡ decimal n → ParsesUnsigned {E = ℕ} 128 10 text (Ok m) → m ≡ n
parsed m n bytes text small same is told =
    let ok : ◌≡◌ {A = Result ℕ ℕ} (Ok m) (Ok n) = parse-decimal_wide {E = ℕ} 128 n text (Ok m) small (omega arith) (same ∙ is) told in cc

pub returns-in_default-clause-exact : goal.returns-in_default-clause-exact
returns-in_default-clause-exact c n small is = absurd (c.in_default.ensures.cases.0 (is_text n c.args.bytes.now small is))

pub returns-in_default-parse-clause-exact : goal.returns-in_default-parse-clause-exact
returns-in_default-parse-clause-exact c n small is =
    absurd (is_parsed c.in_default-parse.field-0 n c.args.bytes.now c.in-Ok.text.now small c.in-Ok.ensures.cases.0 is c.in_default-parse.ensures.value.0)

pub returns-then-ne-clause-exact : goal.returns-then-ne-clause-exact
returns-then-ne-clause-exact c n small is =
    let same : c.in-Ok-parse.number ≡ n = parsed c.in-Ok-parse.number n c.args.bytes.now c.in-Ok.text.now small c.in-Ok.ensures.cases.0 is c.in-Ok-parse.ensures.value.0 in
    let spelled : c.as_bytes.result.now ≡ c.args.bytes.now = c.as_bytes.ensures.value ∙ c.format.ensures.text ∙ ap decimal same ∙ sym is in
    search (rules, spelled, c.if-ne.ensures)

pub returns-clause-exact : goal.returns-clause-exact
returns-clause-exact c n small is =
    ap Some (parsed c.in-Ok-parse.number n c.args.bytes.now c.in-Ok.text.now small c.in-Ok.ensures.cases.0 is c.in-Ok-parse.ensures.value.0)
