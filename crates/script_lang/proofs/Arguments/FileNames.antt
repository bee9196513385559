-- The rule for names of files, as a test.
use Rattle.std.proofs.Common.{◌≡◌, ℕ, ◌==◌, ◌&&◌, nat_le, not, Bool, true, false, cond, List, length, get_or, Ok, Err, refl, sym, arith}
use Rattle.std.specs.List.{list_all}
use Rattle.std.proofs.lemmas.List.Sums.{AllPass-from_list_all, list_all-from_AllPass}
use Rattle.std.proofs.lemmas.Bool.Decides.{nat_tests}
use Rattle.plfs_types.specs.Names.{is_name_byte, IsLogicalName}
use Rattle.script_lang.specs.declared.trouble.Kind.{Kind}
use Rattle.script_lang.specs.declared.trouble.Kind.TheVariants.{Name}
use Rattle.script_lang.specs.Names.{is_file_name, file_name}

all_true : (a b c d e : Bool) → a ≡ true → b ≡ true → c ≡ true → d ≡ true → e ≡ true → (a && b && c && d && e) ≡ true
all_true a b c d e ha hb hc hd he = rw (ha, hb, hc, hd, he) refl

passes : (word : List ℕ) → IsLogicalName word → is_file_name word ≡ true
passes word rule =
    all_true (nat_le 1 (length word)) (nat_le (length word) 64) (list_all is_name_byte word) (not (get_or word 0 0 == 46)) (not (get_or word 0 0 == 45))
    (let h = rule.not_empty in grind (arith, nat_tests))
    (let h = rule.short in grind (arith, nat_tests))
    (list_all-from_AllPass is_name_byte word rule.bytes)
    (let h = rule.no_dot in grind (arith, nat_tests))
    (let h = rule.no_dash in grind (arith, nat_tests))

each_true : (a b c d e : Bool) → (a && b && c && d && e) ≡ true → (a ≡ true) × (b ≡ true) × (c ≡ true) × (d ≡ true) × (e ≡ true)
each_true true true true true true h = (refl, refl, refl, refl, refl)
each_true true true true true false h = cc
each_true true true true false e h = cc
each_true true true false d e h = cc
each_true true false c d e h = cc
each_true false b c d e h = cc

pub is_rule : (word : List ℕ) → is_file_name word ≡ true → IsLogicalName word
is_rule word is =
    let each = each_true (nat_le 1 (length word)) (nat_le (length word) 64) (list_all is_name_byte word) (not (get_or word 0 0 == 46)) (not (get_or word 0 0 == 45)) is in
    record {
      not_empty = let h = each.0 in grind (arith, nat_tests);
      short = let h = each.1 in grind (arith, nat_tests);
      bytes = AllPass-from_list_all is_name_byte word each.2;
      no_dot = λ dot. let h = each.3 in grind (arith, nat_tests);
      no_dash = λ dash. let h = each.4 in grind (arith, nat_tests);
    }

-- a word that is a name is handed out
pub file_name_ok : (word name : List ℕ) → IsLogicalName word → name ≡ word → Ok name ≡ file_name word
file_name_ok word name rule same = rw (same, passes word rule) refl

refused : (word : List ℕ) (b : Bool) → is_file_name word ≡ b → (IsLogicalName word → ⊥) → Err Name ≡ cond b (Ok word) (Err Name)
refused word true is none = absurd (none (is_rule word is))
refused word false is none = refl

-- and any other is refused
pub file_name_err : (word : List ℕ) → (IsLogicalName word → ⊥) → Err Name ≡ file_name word
file_name_err word none = refused word (is_file_name word) refl none

named : (word name : List ℕ) (b : Bool) → is_file_name word ≡ b → cond b (Ok word) (Err Name) ≡ Ok name → IsLogicalName name × (word ≡ name)
named word name true is read = let same : word ≡ name = cc in (rw (← same) (is_rule word is), same)
named word name false is read = cc

-- a word that is read as a name is one
pub name_found : (word name : List ℕ) → file_name word ≡ Ok name → IsLogicalName name × (word ≡ name)
name_found word name is = named word name (is_file_name word) refl is

pub name_again : (name : List ℕ) → IsLogicalName name → file_name name ≡ Ok name
name_again name rule = sym (file_name_ok name name rule refl)

chosen : (word : List ℕ) (b : Bool) (kind : Kind) → cond b (Ok word) (Err Name) ≡ Err kind → kind ≡ Name
chosen word true kind is = cc
chosen word false kind is = cc

pub name_refused : (word : List ℕ) (kind : Kind) → file_name word ≡ Err kind → kind ≡ Name
name_refused word kind is = chosen word (is_file_name word) kind is
