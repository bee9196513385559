-- A request that is put into a head and bytes is read again, and what is read is put so.
use Rattle.std.proofs.Common.{◌≡◌, ℕ, ◌+◌, ◌<◌, ◌≤◌, ◌^◌, inl, inr, Bool, true, false, cond, List, [], ◌∷◌, ◌++◌, length, take, drop, Option, Some, None, refl, sym, ap, subst, ◌∙◌, arith, nat_eq}
use Rattle.std.specs.Prelude.{◌==◌, ◌&&◌, nat_le, nat_lt, IfSome, option_map}
use Rattle.std.proofs.lemmas.Bool.{and_from, and_parts, cases_Bool}
use Rattle.std.proofs.lemmas.Bool.Decides.{nat_tests}
use Rattle.std.proofs.lemmas.List.{take-append-drop, take_at, drop_at, length-append, length-take-le, nil_from_length}
use Rattle.plfs_types.specs.Names.{IsLogicalName}
use Rattle.script_lang.specs.declared.script.Data.{Data}
use Rattle.script_lang.specs.declared.script.Data.TheVariants as data_of
use Rattle.script_lang.specs.declared.script.Numbered.{Numbered}
use Rattle.script_lang.specs.declared.script.Statement.{Statement}
use Rattle.script_lang.specs.declared.script.Statement.TheVariants as statement
use Rattle.script_lang.specs.Ranges.{FitsStatement}
use Rattle.frame_format.specs.declared.head.Head.{Head}
use Rattle.frame_format.specs.Asking.{alone_name, if_bare, of_name, written, opened, read_from, cut_to, both_names, renamed, asked_in, numbered, request_of}
use Rattle.plfs_types.specs.Names.{name_of}
use Rattle.frame_format.specs.Requests.{Shape, shaped, shape_of, IsAsked, IsRequest, head_of, payload_of}
use Rattle.frame_format.proofs.NameTests.{name_again, name_found}

abbrev asked_of : Shape → Option Statement
asked_of s = asked_in s.kind s.place s.extent s.payload

-- ---- what is put is read

short : (n m : ℕ) → n ≤ m → nat_le n m ≡ true
short n m le = grind (arith, nat_tests, le)

equal : (n m : ℕ) → n ≡ m → (n == m) ≡ true
equal n m is = grind (arith, nat_tests, is)

named_again : (made : List ℕ → Statement) (name : List ℕ) → IsLogicalName name → of_name made 0 0 name ≡ Some (made name)
named_again made name is = ap (option_map made) (name_again name is)

block_again : (at : ℕ) (bytes : List ℕ) → length bytes ≤ 2 ^ 24 → written at 0 bytes ≡ Some (statement.Write at (data_of.Hex bytes))
block_again at bytes fits = rw (short (length bytes) (2 ^ 24) fits) refl

opened_again : (name : List ℕ) (workers : ℕ) → IsLogicalName name → 1 ≤ workers → workers ≤ 16 → opened workers 0 name ≡ Some (statement.Ropen name workers)
opened_again name workers is some few = rw (short 1 workers some, short workers 16 few) (ap (option_map (λ z. statement.Ropen z workers)) (name_again name is))

read_again : (at len : ℕ) → len ≤ 2 ^ 24 → read_from at len [] ≡ Some (statement.Read at len)
read_again at len few = rw (short len (2 ^ 24) few) refl

cut_again : (name : List ℕ) (size : ℕ) → IsLogicalName name → cut_to size 0 name ≡ Some (statement.Trunc name size)
cut_again name size is = ap (option_map (λ z. statement.Trunc z size)) (name_again name is)

renamed_again : (name to : List ℕ) → IsLogicalName name → IsLogicalName to → renamed 0 (length name) (name ++ to) ≡ Some (statement.Rename name to)
renamed_again name to is is_to =
    let long : length name ≤ length (name ++ to) = omega (arith, length-append name to) in
    rw (short (length name) (length (name ++ to)) long, take_at name to (length name) refl, drop_at name to (length name) refl, name_again name is, name_again to is_to) refl

pub asked_again : (s : Statement) → IsAsked s → asked_of (shape_of s) ≡ Some s
asked_again (statement.Open name) is = named_again statement.Open name is
asked_again (statement.Write at (data_of.Hex bytes)) is = block_again at bytes is
asked_again (statement.Write at (data_of.Text bytes)) is = absurd is
asked_again (statement.Write at (data_of.Fill len byte)) is = absurd is
asked_again (statement.Write at (data_of.Ramp len first)) is = absurd is
asked_again statement.Sync is = refl
asked_again statement.Close is = refl
asked_again (statement.Ropen name workers) is = opened_again name workers is.0 is.1 is.2
asked_again (statement.Read at len) is = read_again at len is
asked_again statement.Refresh is = refl
asked_again statement.Map is = refl
asked_again statement.Rclose is = refl
asked_again (statement.Stat name) is = named_again statement.Stat name is
asked_again (statement.Trunc name size) is = cut_again name size is
asked_again (statement.Rename name to) is = renamed_again name to is.0 is.1
asked_again (statement.Flatten name) is = named_again statement.Flatten name is
asked_again (statement.Recover name) is = named_again statement.Recover name is
asked_again statement.Ls is = refl
asked_again (statement.Verify at content) is = absurd is
asked_again (statement.Stop call bytes) is = absurd is

-- ---- what is read is put so

pub record IsPut (kind place extent : ℕ) (payload : List ℕ) (s : Statement) : Type 0 where
  pub may_be : IsAsked s
  pub so : shaped kind place extent payload ≡ shape_of s
  pub fits : FitsStatement s

is_zero : (n m : ℕ) → (n == m) ≡ true → n ≡ m
is_zero n m is = grind (arith, nat_tests, is)

is_less : (n m : ℕ) → nat_le n m ≡ true → n ≤ m
is_less n m is = grind (arith, nat_tests, is)

same_shape : (k l p q e f : ℕ) (x y : List ℕ) → k ≡ l → p ≡ q → e ≡ f → x ≡ y → shaped k p e x ≡ shaped l q f y
same_shape k l p q e f x y a b c d = λ i. shaped (a i) (b i) (c i) (d i)

-- a test that was passed
passed : {X : Type 0} (b : Bool) (x : Option X) (s : X) → cond b x None ≡ Some s → (b ≡ true) × (x ≡ Some s)
passed true x s is = (refl, is)
passed false x s is = absurd (cc)

mapped : {X Y : Type 0} (f : X → Y) (x : Option X) (y : Y) → option_map f x ≡ Some y → (z : X) × (x ≡ Some z) × (f z ≡ y)
mapped f (Some z) y is = (z, refl, cc)
mapped f None y is = absurd (cc)

some_is : {X : Type 0} (x y : X) → Some x ≡ Some y → x ≡ y
some_is x y is = cc

bare_put : (code : ℕ) (made : Statement) → IsAsked made → FitsStatement made → shape_of made ≡ shaped code 0 0 [] → (kind place extent : ℕ) (payload : List ℕ) (s : Statement) → kind ≡ code → if_bare made place extent payload ≡ Some s → IsPut kind place extent payload s
bare_put code made may fits shape kind place extent payload s is_kind read =
    let p = passed (place == 0 && extent == 0 && length payload == 0) (Some made) s read in
    let last = and_parts (place == 0 && extent == 0) (length payload == 0) p.0 in
    let two = and_parts (place == 0) (extent == 0) last.0 in
    subst (λ z. IsPut kind place extent payload z) (some_is made s p.1) (record {
      may_be = may;
      so = same_shape kind code place 0 extent 0 payload [] is_kind (is_zero place 0 two.0) (is_zero extent 0 two.1) (nil_from_length payload (is_zero (length payload) 0 last.1)) ∙ sym shape;
      fits = fits;
    })

named_put : (code : ℕ) (made : List ℕ → Statement) → ((name : List ℕ) → IsLogicalName name → IsAsked (made name)) → ((name : List ℕ) → FitsStatement (made name)) → ((name : List ℕ) → shape_of (made name) ≡ shaped code 0 0 name)
    → (kind place extent : ℕ) (payload : List ℕ) (s : Statement) → kind ≡ code → of_name made place extent payload ≡ Some s → IsPut kind place extent payload s
named_put code made may fits shape kind place extent payload s is_kind read =
    let m = mapped made (alone_name place extent payload) s read in
    let p = passed (place == 0 && extent == 0) (name_of payload) m.0 m.1 in
    let two = and_parts (place == 0) (extent == 0) p.0 in
    let n = name_found payload m.0 p.1 in
    subst (λ z. IsPut kind place extent payload z) m.2 (record {
      may_be = may m.0 n.1;
      so = same_shape kind code place 0 extent 0 payload m.0 is_kind (is_zero place 0 two.0) (is_zero extent 0 two.1) (sym n.0) ∙ sym (shape m.0);
      fits = fits m.0;
    })

write_put : (kind place extent : ℕ) (payload : List ℕ) (s : Statement) → kind ≡ 2 → written place extent payload ≡ Some s → IsPut kind place extent payload s
write_put kind place extent payload s is_kind read =
    let made : Statement = statement.Write place (data_of.Hex payload) in
    let p = passed (extent == 0 && nat_le (length payload) (2 ^ 24)) (Some made) s read in
    let two = and_parts (extent == 0) (nat_le (length payload) (2 ^ 24)) p.0 in
    let few : length payload ≤ 2 ^ 24 = is_less (length payload) (2 ^ 24) two.1 in
    subst (λ z. IsPut kind place extent payload z) (some_is made s p.1) (record {
      may_be = few;
      so = same_shape kind 2 place place extent 0 payload payload is_kind refl (is_zero extent 0 two.0) refl;
      fits = few;
    })

open_put : (kind place extent : ℕ) (payload : List ℕ) (s : Statement) → kind ≡ 5 → opened place extent payload ≡ Some s → IsPut kind place extent payload s
open_put kind place extent payload s is_kind read =
    let p = passed (nat_le 1 place && nat_le place 16 && extent == 0) (option_map (λ name. statement.Ropen name place) (name_of payload)) s read in
    let last = and_parts (nat_le 1 place && nat_le place 16) (extent == 0) p.0 in
    let two = and_parts (nat_le 1 place) (nat_le place 16) last.0 in
    let m = mapped (λ name. statement.Ropen name place) (name_of payload) s p.1 in
    let n = name_found payload m.0 m.1 in
    let some : 1 ≤ place = is_less 1 place two.0 in
    let few : place ≤ 16 = is_less place 16 two.1 in
    subst (λ z. IsPut kind place extent payload z) m.2 (record {
      may_be = (n.1, some, few);
      so = same_shape kind 5 place place extent 0 payload m.0 is_kind refl (is_zero extent 0 last.1) (sym n.0);
      fits = (some, few);
    })

read_put : (kind place extent : ℕ) (payload : List ℕ) (s : Statement) → kind ≡ 6 → read_from place extent payload ≡ Some s → IsPut kind place extent payload s
read_put kind place extent payload s is_kind read =
    let made : Statement = statement.Read place extent in
    let p = passed (nat_le extent (2 ^ 24) && length payload == 0) (Some made) s read in
    let two = and_parts (nat_le extent (2 ^ 24)) (length payload == 0) p.0 in
    let few : extent ≤ 2 ^ 24 = is_less extent (2 ^ 24) two.0 in
    subst (λ z. IsPut kind place extent payload z) (some_is made s p.1) (record {
      may_be = few;
      so = same_shape kind 6 place place extent extent payload [] is_kind refl refl (nil_from_length payload (is_zero (length payload) 0 two.1));
      fits = few;
    })

cut_put : (kind place extent : ℕ) (payload : List ℕ) (s : Statement) → kind ≡ 11 → cut_to place extent payload ≡ Some s → IsPut kind place extent payload s
cut_put kind place extent payload s is_kind read =
    let p = passed (extent == 0) (option_map (λ name. statement.Trunc name place) (name_of payload)) s read in
    let m = mapped (λ name. statement.Trunc name place) (name_of payload) s p.1 in
    let n = name_found payload m.0 m.1 in
    subst (λ z. IsPut kind place extent payload z) m.2 (record {
      may_be = n.1;
      so = same_shape kind 11 place place extent 0 payload m.0 is_kind refl (is_zero extent 0 p.0) (sym n.0);
      fits = tt;
    })

record AreBoth (a b : Option (List ℕ)) (s : Statement) : Type 0 where
  pub name : List ℕ
  pub to : List ℕ
  pub first : a ≡ Some name
  pub second : b ≡ Some to
  pub made : statement.Rename name to ≡ s

are_both : (a b : Option (List ℕ)) (s : Statement) → both_names a b ≡ Some s → AreBoth a b s
are_both (Some name) (Some to) s is = record { name = name; to = to; first = refl; second = refl; made = some_is (statement.Rename name to) s is }
are_both (Some name) None s is = absurd (cc)
are_both None to s is = absurd (cc)

rename_put : (kind place extent : ℕ) (payload : List ℕ) (s : Statement) → kind ≡ 12 → renamed place extent payload ≡ Some s → IsPut kind place extent payload s
rename_put kind place extent payload s is_kind read =
    let p = passed (place == 0 && nat_le extent (length payload)) (both_names (name_of (take extent payload)) (name_of (drop extent payload))) s read in
    let two = and_parts (place == 0) (nat_le extent (length payload)) p.0 in
    let within : extent ≤ length payload = is_less extent (length payload) two.1 in
    let b = are_both (name_of (take extent payload)) (name_of (drop extent payload)) s p.1 in
    let n = name_found (take extent payload) b.name b.first in
    let m = name_found (drop extent payload) b.to b.second in
    let long : extent ≡ length b.name = sym (ap length n.0 ∙ length-take-le extent payload within) in
    let whole : payload ≡ b.name ++ b.to = sym ((λ i. n.0 i ++ m.0 i) ∙ take-append-drop extent payload) in
    subst (λ z. IsPut kind place extent payload z) b.made (record {
      may_be = (n.1, m.1);
      so = same_shape kind 12 place 0 extent (length b.name) payload (b.name ++ b.to) is_kind (is_zero place 0 two.0) long whole;
      fits = tt;
    })

-- one test of the kind, and those behind it
link : (kind code place extent : ℕ) (payload : List ℕ) (s : Statement) (x rest : Option Statement) → (kind ≡ code → x ≡ Some s → IsPut kind place extent payload s) → (rest ≡ Some s → IsPut kind place extent payload s)
    → cond (kind == code) x rest ≡ Some s → IsPut kind place extent payload s
link kind code place extent payload s x rest here there read = elim (cases_Bool (kind == code)) [
  | inl same ↦ here (is_zero kind code same) (rw same at read)
  | inr other ↦ there (rw other at read)
]

no_kind : (kind place extent : ℕ) (payload : List ℕ) (s : Statement) → None ≡ Some s → IsPut kind place extent payload s
no_kind kind place extent payload s read = absurd (cc)

pub asked_put : (k p e : ℕ) (x : List ℕ) (s : Statement) → asked_in k p e x ≡ Some s → IsPut k p e x s
asked_put k p e x s =
    link k 1 p e x s _ _ (named_put 1 statement.Open (λ name is. is) (λ name. tt) (λ name. refl) k p e x s)
    (link k 2 p e x s _ _ (write_put k p e x s)
    (link k 3 p e x s _ _ (bare_put 3 statement.Sync tt tt refl k p e x s)
    (link k 4 p e x s _ _ (bare_put 4 statement.Close tt tt refl k p e x s)
    (link k 5 p e x s _ _ (open_put k p e x s)
    (link k 6 p e x s _ _ (read_put k p e x s)
    (link k 7 p e x s _ _ (bare_put 7 statement.Refresh tt tt refl k p e x s)
    (link k 8 p e x s _ _ (bare_put 8 statement.Map tt tt refl k p e x s)
    (link k 9 p e x s _ _ (bare_put 9 statement.Rclose tt tt refl k p e x s)
    (link k 10 p e x s _ _ (named_put 10 statement.Stat (λ name is. is) (λ name. tt) (λ name. refl) k p e x s)
    (link k 11 p e x s _ _ (cut_put k p e x s)
    (link k 12 p e x s _ _ (rename_put k p e x s)
    (link k 13 p e x s _ _ (named_put 13 statement.Flatten (λ name is. is) (λ name. tt) (λ name. refl) k p e x s)
    (link k 14 p e x s _ _ (named_put 14 statement.Recover (λ name is. is) (λ name. tt) (λ name. refl) k p e x s)
    (link k 15 p e x s _ _ (bare_put 15 statement.Ls tt tt refl k p e x s) (no_kind k p e x s)))))))))))))))

-- ---- a request

pub request_again : (head : Head) (payload : List ℕ) (asked : Numbered) → IsRequest asked → head ≡ head_of asked → payload ≡ payload_of asked → request_of head payload ≡ Some asked
request_again head payload asked is is_head is_payload =
    let R : Head × List ℕ → Type 0 = λ z. request_of z.0 z.1 ≡ Some asked in
    let few : nat_lt asked.actor 256 ≡ true = grind (arith, nat_tests, is.by_one) in
    let all : (length (payload_of asked) == length (payload_of asked)) ≡ true = equal (length (payload_of asked)) (length (payload_of asked)) refl in
    subst R (λ i. (sym is_head i, sym is_payload i)) (rw (few, all) (ap (option_map (numbered (head_of asked))) (asked_again asked.statement is.may_be)))

pub record IsFound (head : Head) (payload : List ℕ) (asked : Numbered) : Type 0 where
  pub is : IsRequest asked
  pub is_head : head ≡ head_of asked
  pub is_payload : payload ≡ payload_of asked
  pub fits : FitsStatement asked.statement

pub request_found : (head : Head) (payload : List ℕ) (asked : Numbered) → request_of head payload ≡ Some asked → IsFound head payload asked
request_found head payload asked read =
    let p = passed (nat_lt head.actor 256 && head.len == length payload) (option_map (numbered head) (asked_in head.kind head.place head.extent payload)) asked read in
    let two = and_parts (nat_lt head.actor 256) (head.len == length payload) p.0 in
    let few : nat_lt head.actor 256 ≡ true = two.0 in
    let all : head.len ≡ length payload = is_zero head.len (length payload) two.1 in
    let m = mapped (numbered head) (asked_in head.kind head.place head.extent payload) asked p.1 in
    let put = asked_put head.kind head.place head.extent payload m.0 m.1 in
    let shape : Shape = shape_of m.0 in
    let bytes : payload ≡ shape.payload = ap (λ (z : Shape). z.payload) put.so in
    subst (λ (z : Numbered). IsFound head payload z) m.2 (record {
      is = record { by_one = grind (arith, nat_tests, few); may_be = put.may_be };
      is_head = λ i. record { kind = (put.so i).kind; actor = head.actor; number = head.number; place = (put.so i).place; extent = (put.so i).extent; len = (all ∙ ap length bytes) i };
      is_payload = bytes;
      fits = put.fits;
    })
