-- The item of a name.
use Rattle.std.proofs.Common.{◌≡◌, ℕ, zero, suc, ◌+◌, ◌<◌, ◌^◌, inl, inr, ◌==◌, nat_lt, true, false, ◌&&◌, ◌⊎◌, List, [], ◌∷◌, Option, None, Some, refl, ap, ◌∙◌, sym, subst, arith}
use Rattle.std.proofs.lemmas.Bool.{cases_lt, cases_Bool, and_from, and_parts, cond-true, cond-false, lt-ltb}
use Rattle.std.proofs.lemmas.Bool.Decides.{nat_tests}
use Rattle.plfs_types.specs.declared.entries.Trunc.{Trunc}
use Rattle.plfs_types.specs.declared.names.Path.{Path}
use Rattle.container_layout.specs.declared.items.Item.{Item}
use Rattle.container_layout.specs.declared.items.Item.TheVariants as item
use Rattle.container_layout.specs.Items.{IsItem, IsMetaRange}
use Rattle.container_layout.specs.Paths.{path_of, IsIn}
use Rattle.container_layout.proofs.Facts.{one_item}
use Rattle.mount_model.specs.Paths.{Name, truncs, metadata}
use Rattle.container_layout.specs.Paths.{openhosts}
use Rattle.mount_model.specs.declared.names.Metadata.{Metadata}
use Rattle.mount_model.specs.declared.names.OpenEntry.{OpenEntry}
use Rattle.mount_model.specs.Names.{find_below, same_bytes, named, all_or_none, meta_at, meta_in, trunc_at, trunc_in, open_at, open_in}

-- ---- what is found below a number

cases_Option : {X : Type 0} (o : Option X) → (o ≡ None) ⊎ ((x : X) × (o ≡ Some x))
cases_Option None = inl refl
cases_Option (Some x) = inr (x, refl)

-- of what is found something holds that holds of each
found_below : {X : Type 0} (P : X → Type 0) (f : ℕ → Option X) (n : ℕ) → ((k : ℕ) → k < n → (x : X) → f k ≡ Some x → P x) → (x : X) → find_below f n ≡ Some x → P x
found_below P f zero all x h = absurd (cc)
found_below P f (suc n) all x h = elim (cases_Option (find_below f n)) [
  | inl none ↦ (let e : find_below f (suc n) ≡ f n = cc in all n (omega arith) x (sym e ∙ h))
  | inr some ↦ (let e : find_below f (suc n) ≡ Some some.0 = cc in found_below P f n (λ k l y i. all k (omega arith) y i) x (some.1 ∙ sym e ∙ h))
]

none_below : {X : Type 0} (f : ℕ → Option X) (n k : ℕ) → find_below f n ≡ None → k < n → f k ≡ None
none_below f zero k h l = absurd (omega arith)
none_below f (suc n) k h l = elim (cases_Option (find_below f n)) [
  | inl none ↦ elim (cases_lt k n) [
    | inl before ↦ none_below f n k none before
    | inr last ↦ (let at : k ≡ n = omega arith in let e : find_below f (suc n) ≡ f n = cc in ap f at ∙ sym e ∙ h)
  ]
  | inr some ↦ absurd (cc)
]

-- what holds of all that is found, and what is found somewhere, is found
is_found : {X : Type 0} (o : Option X) (x : X) → ((y : X) → o ≡ Some y → y ≡ x) → (o ≡ None → ⊥) → o ≡ Some x
is_found o x one some = elim (cases_Option o) [ inl none ↦ absurd (some none) | inr there ↦ there.1 ∙ ap Some (one there.0 there.1) ]

-- ---- the name of an item

same_bytes-itself : (xs : List ℕ) → same_bytes xs xs ≡ true
same_bytes-itself [] = refl
same_bytes-itself (x ∷ xs) = let e : (x == x) ≡ true = grind (arith, nat_tests) in and_from (x == x) (same_bytes xs xs) e (same_bytes-itself xs)

same_bytes-eq : (xs ys : List ℕ) → same_bytes xs ys ≡ true → xs ≡ ys
same_bytes-eq [] [] h = refl
same_bytes-eq [] (y ∷ ys) h = absurd (cc)
same_bytes-eq (x ∷ xs) [] h = absurd (cc)
same_bytes-eq (x ∷ xs) (y ∷ ys) h =
    let parts = and_parts (x == y) (same_bytes xs ys) h in
    let first : x ≡ y = grind (arith, nat_tests, parts.0) in
    let rest : xs ≡ ys = same_bytes-eq xs ys parts.1 in
    cc

named_true : {X : Type 0} (name : Name) (i : Item) (x : X) → name ≡ (path_of i).file → named name i x ≡ Some x
named_true name i x is = cond-true (same_bytes name (path_of i).file) (Some x) None (subst (λ (other : List ℕ). same_bytes name other ≡ true) is (same_bytes-itself name))

named_found : {X : Type 0} (name : Name) (i : Item) (x y : X) → named name i x ≡ Some y → (name ≡ (path_of i).file) × (y ≡ x)
named_found {X} name i x y h = elim (cases_Bool (same_bytes name (path_of i).file)) [
  | inl same ↦ (let e : Some x ≡ Some y = sym (cond-true (same_bytes name (path_of i).file) (Some x) None same) ∙ h in
      let one : y ≡ x = cc in (same_bytes-eq name (path_of i).file same, one))
  | inr other ↦ (let e : ◌≡◌ {A = Option X} None (Some y) = sym (cond-false (same_bytes name (path_of i).file) (Some x) None other) ∙ h in absurd cc)
]

-- ---- truncates

IsTrunc : Name → Trunc → Type 0
IsTrunc name t = IsIn truncs name (item.Trunc t.stamp t.size)

at_trunc : (name : Name) (stamp : ℕ) → stamp < 2 ^ 63 → (size : ℕ) → size < 2 ^ 40 + 1 → (t : Trunc) → trunc_at name stamp size ≡ Some t → IsTrunc name t
unfolding IsTrunc
at_trunc name stamp fits size small t h = elim (cases_Bool (nat_lt 0 stamp)) [
  | inl some ↦ (let e : named name (item.Trunc stamp size) (record { stamp = stamp; size = size }) ≡ Some t = sym (cond-true (nat_lt 0 stamp) (named name (item.Trunc stamp size) (record { stamp = stamp; size = size })) None some) ∙ h in
      let found = named_found {X = Trunc} name (item.Trunc stamp size) (record { stamp = stamp; size = size }) t e in
      let stamped : 0 < stamp = grind (arith, nat_tests, some) in
      let there : IsIn truncs name (item.Trunc stamp size) = record {
        is_item = record { in_range = record { stamped = omega (arith, stamped); stamp_fits = omega (arith, fits); size_fits = omega (arith, small) }; widths = tt };
        printed = λ i. record { folder = truncs; file = found.0 i };
      } in
      subst (λ (u : Trunc). IsIn truncs name (item.Trunc u.stamp u.size)) (sym found.1) there)
  | inr none ↦ (let e : ◌≡◌ {A = Option Trunc} None (Some t) = sym (cond-false (nat_lt 0 stamp) (named name (item.Trunc stamp size) (record { stamp = stamp; size = size })) None none) ∙ h in absurd cc)
]

-- what is found is the truncate of the name
pub trunc_in-found : (name : Name) (t : Trunc) → trunc_in name ≡ Some t → IsIn truncs name (item.Trunc t.stamp t.size)
unfolding trunc_in IsTrunc
trunc_in-found name t h =
    found_below (IsTrunc name) (λ stamp. find_below (trunc_at name stamp) (2 ^ 40 + 1)) (2 ^ 63) (λ stamp fits.
    found_below (IsTrunc name) (trunc_at name stamp) (2 ^ 40 + 1) (at_trunc name stamp fits)) t h

trunc_of : Item → Trunc
trunc_of (item.Trunc stamp size) = record { stamp = stamp; size = size }
trunc_of other = record { stamp = 0; size = 0 }

-- the truncate whose dropping has the name is found
pub trunc_in-is : (name : Name) (stamp size : ℕ) → IsIn truncs name (item.Trunc stamp size) → trunc_in name ≡ Some (record { stamp = stamp; size = size })
unfolding trunc_in trunc_of
trunc_in-is name stamp size is =
    let made : Trunc = record { stamp = stamp; size = size } in
    let range = is.is_item.in_range in
    is_found (trunc_in name) made
    (λ t h. ap trunc_of (one_item (record { folder = truncs; file = name }) (item.Trunc t.stamp t.size) (item.Trunc stamp size) (trunc_in-found name t h) is))
    (λ none.
    let at : trunc_at name stamp size ≡ None = none_below (trunc_at name stamp) (2 ^ 40 + 1) size
    (none_below (λ s. find_below (trunc_at name s) (2 ^ 40 + 1)) (2 ^ 63) stamp none (omega (arith, range.stamp_fits))) (omega (arith, range.size_fits)) in
    let holds : trunc_at name stamp size ≡ Some made = cond-true (nat_lt 0 stamp) (named name (item.Trunc stamp size) made) None (lt-ltb 0 stamp range.stamped)
    ∙ named_true name (item.Trunc stamp size) made (ap (λ (p : Path). p.file) is.printed) in
    let clash : ◌≡◌ {A = Option Trunc} None (Some made) = sym at ∙ holds in absurd cc)

-- ---- those that have the container open

IsOpen : Name → OpenEntry → Type 0
IsOpen name e = IsIn openhosts name (item.OpenHost e.host e.writer)

at_open : (name : Name) (host : ℕ) → host < 2 ^ 32 → (writer : ℕ) → writer < 2 ^ 64 → (e : OpenEntry) → open_at name host writer ≡ Some e → IsOpen name e
unfolding IsOpen
at_open name host fits writer small e h =
    let found = named_found {X = OpenEntry} name (item.OpenHost host writer) (record { host = host; writer = writer }) e h in
    let there : IsIn openhosts name (item.OpenHost host writer) = record {
      is_item = record { in_range = tt; widths = (fits, small) };
      printed = λ i. record { folder = openhosts; file = found.0 i };
    } in
    subst (λ (u : OpenEntry). IsIn openhosts name (item.OpenHost u.host u.writer)) (sym found.1) there

-- what is found is the writer of the name
pub open_in-found : (name : Name) (e : OpenEntry) → open_in name ≡ Some e → IsIn openhosts name (item.OpenHost e.host e.writer)
unfolding open_in IsOpen
open_in-found name e h =
    found_below (IsOpen name) (λ host. find_below (open_at name host) (2 ^ 64)) (2 ^ 32) (λ host fits.
    found_below (IsOpen name) (open_at name host) (2 ^ 64) (at_open name host fits)) e h

open_of : Item → OpenEntry
open_of (item.OpenHost host writer) = record { host = host; writer = writer }
open_of other = record { host = 0; writer = 0 }

-- the writer whose entry has the name is found
pub open_in-is : (name : Name) (host writer : ℕ) → IsIn openhosts name (item.OpenHost host writer) → open_in name ≡ Some (record { host = host; writer = writer })
unfolding open_in open_of
open_in-is name host writer is =
    let made : OpenEntry = record { host = host; writer = writer } in
    let widths = is.is_item.widths in
    is_found (open_in name) made
    (λ e h. ap open_of (one_item (record { folder = openhosts; file = name }) (item.OpenHost e.host e.writer) (item.OpenHost host writer) (open_in-found name e h) is))
    (λ none.
    let at : open_at name host writer ≡ None = none_below (open_at name host) (2 ^ 64) writer
    (none_below (λ s. find_below (open_at name s) (2 ^ 64)) (2 ^ 32) host none widths.0) widths.1 in
    let holds : open_at name host writer ≡ Some made = named_true name (item.OpenHost host writer) made (ap (λ (p : Path). p.file) is.printed) in
    let clash : ◌≡◌ {A = Option OpenEntry} None (Some made) = sym at ∙ holds in absurd cc)

-- ---- what writers left

IsLeft : Name → Metadata → Type 0
IsLeft name m = IsIn metadata name (item.Meta m.last m.bytes m.stamp m.host m.writer)

range_of : (last bytes stamp : ℕ) → all_or_none last bytes stamp ≡ true → ((last ≡ 0) × (bytes ≡ 0) × (stamp ≡ 0)) ⊎ ((0 < last) × (0 < bytes) × (0 < stamp))
range_of last bytes stamp h = elim (cases_Bool (last == 0)) [
  | inl none ↦ (let both : (bytes == 0) && (stamp == 0) ≡ true = sym (cond-true (last == 0) ((bytes == 0) && (stamp == 0)) (nat_lt 0 bytes && nat_lt 0 stamp) none) ∙ h in
      let parts = and_parts (bytes == 0) (stamp == 0) both in
      inl (grind (arith, nat_tests, none), grind (arith, nat_tests, parts.0), grind (arith, nat_tests, parts.1)))
  | inr some ↦ (let both : nat_lt 0 bytes && nat_lt 0 stamp ≡ true = sym (cond-false (last == 0) ((bytes == 0) && (stamp == 0)) (nat_lt 0 bytes && nat_lt 0 stamp) some) ∙ h in
      let parts = and_parts (nat_lt 0 bytes) (nat_lt 0 stamp) both in
      inr (grind (arith, nat_tests, some), grind (arith, nat_tests, parts.0), grind (arith, nat_tests, parts.1)))
]

in_range : (last bytes stamp : ℕ) → IsMetaRange last bytes stamp → all_or_none last bytes stamp ≡ true
in_range last bytes stamp is = elim is.all_or_none [
  | inl none ↦ (let e : (last == 0) ≡ true = grind (arith, nat_tests, none.0) in
      cond-true (last == 0) ((bytes == 0) && (stamp == 0)) (nat_lt 0 bytes && nat_lt 0 stamp) e
      ∙ and_from (bytes == 0) (stamp == 0) (grind (arith, nat_tests, none.1)) (grind (arith, nat_tests, none.2)))
  | inr some ↦ (let e : (last == 0) ≡ false = grind (arith, nat_tests, some.0) in
      cond-false (last == 0) ((bytes == 0) && (stamp == 0)) (nat_lt 0 bytes && nat_lt 0 stamp) e
      ∙ and_from (nat_lt 0 bytes) (nat_lt 0 stamp) (lt-ltb 0 bytes some.1) (lt-ltb 0 stamp some.2))
]

at_meta : (name : Name) (last : ℕ) → last < 2 ^ 40 + 1 → (bytes : ℕ) → bytes < 2 ^ 56 + 1 → (stamp : ℕ) → stamp < 2 ^ 63 → (host : ℕ) → host < 2 ^ 32 → (writer : ℕ) → writer < 2 ^ 64
    → (m : Metadata) → meta_at name last bytes stamp host writer ≡ Some m → IsLeft name m
unfolding IsLeft
at_meta name last l bytes b stamp s host fits writer small m h =
    let made : Metadata = record { last = last; bytes = bytes; stamp = stamp; host = host; writer = writer } in
    elim (cases_Bool (all_or_none last bytes stamp)) [
      | inl range ↦ (let e : named name (item.Meta last bytes stamp host writer) made ≡ Some m = sym (cond-true (all_or_none last bytes stamp) (named name (item.Meta last bytes stamp host writer) made) None range) ∙ h in
          let found = named_found {X = Metadata} name (item.Meta last bytes stamp host writer) made m e in
          let there : IsIn metadata name (item.Meta last bytes stamp host writer) = record {
            is_item = record {
              in_range = record { last_fits = omega (arith, l); bytes_fit = omega (arith, b); stamp_fits = omega (arith, s); all_or_none = range_of last bytes stamp range };
              widths = (fits, small);
            };
            printed = λ i. record { folder = metadata; file = found.0 i };
          } in
          subst (λ (u : Metadata). IsIn metadata name (item.Meta u.last u.bytes u.stamp u.host u.writer)) (sym found.1) there)
      | inr none ↦ (let e : ◌≡◌ {A = Option Metadata} None (Some m) = sym (cond-false (all_or_none last bytes stamp) (named name (item.Meta last bytes stamp host writer) made) None none) ∙ h in absurd cc)
    ]

-- what is found is what the writer left whose dropping has the name
pub meta_in-found : (name : Name) (m : Metadata) → meta_in name ≡ Some m → IsIn metadata name (item.Meta m.last m.bytes m.stamp m.host m.writer)
unfolding meta_in IsLeft
meta_in-found name m h =
    found_below (IsLeft name) (λ last. find_below (λ bytes. find_below (λ stamp. find_below (λ host. find_below (meta_at name last bytes stamp host) (2 ^ 64)) (2 ^ 32)) (2 ^ 63)) (2 ^ 56 + 1)) (2 ^ 40 + 1) (λ last l.
    found_below (IsLeft name) (λ bytes. find_below (λ stamp. find_below (λ host. find_below (meta_at name last bytes stamp host) (2 ^ 64)) (2 ^ 32)) (2 ^ 63)) (2 ^ 56 + 1) (λ bytes b.
    found_below (IsLeft name) (λ stamp. find_below (λ host. find_below (meta_at name last bytes stamp host) (2 ^ 64)) (2 ^ 32)) (2 ^ 63) (λ stamp s.
    found_below (IsLeft name) (λ host. find_below (meta_at name last bytes stamp host) (2 ^ 64)) (2 ^ 32) (λ host fits.
    found_below (IsLeft name) (meta_at name last bytes stamp host) (2 ^ 64) (at_meta name last l bytes b stamp s host fits))))) m h

left_of : Item → Metadata
left_of (item.Meta last bytes stamp host writer) = record { last = last; bytes = bytes; stamp = stamp; host = host; writer = writer }
left_of other = record { last = 0; bytes = 0; stamp = 0; host = 0; writer = 0 }

none_at : (name : Name) (last bytes stamp host writer : ℕ) → IsItem (item.Meta last bytes stamp host writer) → meta_in name ≡ None → meta_at name last bytes stamp host writer ≡ None
unfolding meta_in
none_at name last bytes stamp host writer is none =
    let range = is.in_range in
    none_below (meta_at name last bytes stamp host) (2 ^ 64) writer
    (none_below (λ h. find_below (meta_at name last bytes stamp h) (2 ^ 64)) (2 ^ 32) host
    (none_below (λ s. find_below (λ h. find_below (meta_at name last bytes s h) (2 ^ 64)) (2 ^ 32)) (2 ^ 63) stamp
    (none_below (λ b. find_below (λ s. find_below (λ h. find_below (meta_at name last b s h) (2 ^ 64)) (2 ^ 32)) (2 ^ 63)) (2 ^ 56 + 1) bytes
    (none_below (λ l. find_below (λ b. find_below (λ s. find_below (λ h. find_below (meta_at name l b s h) (2 ^ 64)) (2 ^ 32)) (2 ^ 63)) (2 ^ 56 + 1)) (2 ^ 40 + 1) last none
    (omega (arith, range.last_fits))) (omega (arith, range.bytes_fit))) (omega (arith, range.stamp_fits))) is.widths.0) is.widths.1

-- what the writer left whose dropping has the name is found
pub meta_in-is : (name : Name) (last bytes stamp host writer : ℕ) → IsIn metadata name (item.Meta last bytes stamp host writer) → meta_in name ≡ Some (record { last = last; bytes = bytes; stamp = stamp; host = host; writer = writer })
unfolding left_of
meta_in-is name last bytes stamp host writer is =
    let made : Metadata = record { last = last; bytes = bytes; stamp = stamp; host = host; writer = writer } in
    is_found (meta_in name) made
    (λ m h. ap left_of (one_item (record { folder = metadata; file = name }) (item.Meta m.last m.bytes m.stamp m.host m.writer) (item.Meta last bytes stamp host writer) (meta_in-found name m h) is))
    (λ none.
    let at : meta_at name last bytes stamp host writer ≡ None = none_at name last bytes stamp host writer is.is_item none in
    let holds : meta_at name last bytes stamp host writer ≡ Some made =
    cond-true (all_or_none last bytes stamp) (named name (item.Meta last bytes stamp host writer) made) None (in_range last bytes stamp is.is_item.in_range)
    ∙ named_true name (item.Meta last bytes stamp host writer) made (ap (λ (p : Path). p.file) is.printed) in
    let clash : ◌≡◌ {A = Option Metadata} None (Some made) = sym at ∙ holds in absurd cc)

-- ---- no item is found where no dropping has the name

pub trunc_in-not : (name : Name) → ((stamp size : ℕ) → IsIn truncs name (item.Trunc stamp size) → ⊥) → trunc_in name ≡ None
trunc_in-not name h = elim (cases_Option (trunc_in name)) [
  | inl none ↦ none
  | inr some ↦ absurd (h some.0.stamp some.0.size (trunc_in-found name some.0 some.1))
]

pub open_in-not : (name : Name) → ((host writer : ℕ) → IsIn openhosts name (item.OpenHost host writer) → ⊥) → open_in name ≡ None
open_in-not name h = elim (cases_Option (open_in name)) [
  | inl none ↦ none
  | inr some ↦ absurd (h some.0.host some.0.writer (open_in-found name some.0 some.1))
]

pub meta_in-not : (name : Name) → ((last bytes stamp host writer : ℕ) → IsIn metadata name (item.Meta last bytes stamp host writer) → ⊥) → meta_in name ≡ None
meta_in-not name h = elim (cases_Option (meta_in name)) [
  | inl none ↦ none
  | inr some ↦ absurd (h some.0.last some.0.bytes some.0.stamp some.0.host some.0.writer (meta_in-found name some.0 some.1))
]
