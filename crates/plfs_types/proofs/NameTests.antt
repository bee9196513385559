-- The test of a logical name is the rule.
use Rattle.std.proofs.Common.{◌≡◌, ℕ, true, false, inl, inr, List, [], ◌∷◌, Option, Some, None, length, nat_le, nat_eq, arith, refl, sym, ap, ◌∙◌}
use Rattle.std.specs.Prelude.{◌≤◌, ◌&&◌, ◌↔◌, All, IsTrue, IsSome, IfSome, is_some, ◌≢◌}
use Rattle.std.specs.List.{list_all}
use Rattle.std.proofs.lemmas.Bool.{and_from, and_parts, cases_Bool, false≢true}
use Rattle.std.proofs.lemmas.Bool.Decides.{nat_tests}
use Rattle.std.proofs.lemmas.List.Elements.{All-head, All-tail, All-cons, All-nil}
use Rattle.plfs_types.specs.Names.{is_name_byte, IsLogicalName, may_begin, is_logical, name_of}

abbrev Name : Type 0
Name = List ℕ

abbrev IsNameByte : ℕ → Type 0
IsNameByte b = IsTrue (is_name_byte b)

bytes_pass : (bytes : List ℕ) → list_all is_name_byte bytes ≡ true → All IsNameByte bytes
bytes_pass [] passed = All-nil IsNameByte
bytes_pass (b ∷ bytes) passed =
    let both = and_parts (is_name_byte b) (list_all is_name_byte bytes) passed in
    All-cons IsNameByte b bytes both.0 (bytes_pass bytes both.1)

all_pass : (bytes : List ℕ) → All IsNameByte bytes → list_all is_name_byte bytes ≡ true
all_pass [] all = refl
all_pass (b ∷ bytes) all =
    and_from (is_name_byte b) (list_all is_name_byte bytes) (All-head IsNameByte b bytes all) (all_pass bytes (All-tail IsNameByte b bytes all))

begins_with : (b other : ℕ) → may_begin b ≡ true → may_begin other ≡ false → b ≢ other
begins_with b other begins none e = false≢true (sym none ∙ ap may_begin (sym e) ∙ begins)

begins : (b : ℕ) → b ≢ 46 → b ≢ 45 → may_begin b ≡ true
begins b no_dot no_dash =
    let dot : nat_eq b 46 ≡ false = grind (arith, nat_tests, no_dot) in
    let dash : nat_eq b 45 ≡ false = grind (arith, nat_tests, no_dash) in
    rw (dot, dash) refl

short : (n : ℕ) → nat_le n 64 ≡ true → n ≤ 64
short n passed = grind (arith, nat_tests, passed)

short_passes : (n : ℕ) → n ≤ 64 → nat_le n 64 ≡ true
short_passes n le = grind (arith, nat_tests, le)

pub passes_rule : (name : Name) → is_logical name ≡ true → IsLogicalName name
passes_rule [] passed = absurd (false≢true passed)
passes_rule (b ∷ bytes) passed =
    let first = and_parts (may_begin b) (nat_le (length (b ∷ bytes)) 64 && list_all is_name_byte (b ∷ bytes)) passed in
    let rest = and_parts (nat_le (length (b ∷ bytes)) 64) (list_all is_name_byte (b ∷ bytes)) first.1 in
    record {
      not_empty = omega arith;
      short = short (length (b ∷ bytes)) rest.0;
      bytes = bytes_pass (b ∷ bytes) rest.1;
      no_dot = begins_with b 46 first.0 refl;
      no_dash = begins_with b 45 first.0 refl;
    }

pub rule_passes : (name : Name) → IsLogicalName name → is_logical name ≡ true
rule_passes [] rule = let none : 1 ≤ 0 = rule.not_empty in absurd (omega (arith, none))
rule_passes (b ∷ bytes) rule =
    and_from (may_begin b) (nat_le (length (b ∷ bytes)) 64 && list_all is_name_byte (b ∷ bytes)) (begins b rule.no_dot rule.no_dash)
    (and_from (nat_le (length (b ∷ bytes)) 64) (list_all is_name_byte (b ∷ bytes)) (short_passes (length (b ∷ bytes)) rule.short) (all_pass (b ∷ bytes) rule.bytes))

-- what is read of a name just by the rule
pub decided : {X : Type 0} (name : Name) (read : Option X) → (IsSome read ↔ IsLogicalName name) → is_some read ≡ is_logical name
decided name (Some x) rule = sym (rule_passes name (rule.0 refl))
decided name None rule = elim (cases_Bool (is_logical name)) [
  | inl passed ↦ absurd (false≢true (rule.1 (passes_rule name passed)))
  | inr not_passed ↦ sym not_passed
]

-- what is read of bytes just by the rule
pub read_so : (bytes : List ℕ) (read : Option (List ℕ)) → (IsSome read ↔ IsLogicalName bytes) → IfSome read (λ name. name ≡ bytes) → read ≡ name_of bytes
read_so bytes (Some name) rule value = rw (rule_passes bytes (rule.0 refl)) (ap Some value)
read_so bytes None rule value = elim (cases_Bool (is_logical bytes)) [
  | inl passed ↦ absurd (false≢true (rule.1 (passes_rule bytes passed)))
  | inr not_passed ↦ rw not_passed refl
]
