-- Names of items are short enough to be names.
use Rattle.std.proofs.Common.{◌≡◌, ℕ, ◌+◌, ◌-◌, ◌<◌, ◌≤◌, ◌^◌, ◌%◌, List, [], ◌∷◌, ◌++◌, length, take, drop, get_or, sym, ap, ◌∙◌, arith, append_assoc}
use Rattle.std.specs.Prelude.{codes}
use Rattle.std.specs.List.{flat_map}
use Rattle.std.specs.Fmt.{decimal}
use Rattle.std.proofs.lemmas.List.{length-append, drop_more, take_rest}
use Rattle.std.proofs.lemmas.List.Concat.{flat_map-cons}
use Rattle.std.proofs.lemmas.Fmt.{length-decimal-le}
use Rattle.container_layout.specs.declared.items.Item.{Item}
use Rattle.container_layout.specs.declared.items.Item.TheVariants.{Access, OpenHost, Meta, Trunc, Flat, TmpFlat, Index, Log, Packed, TmpPacked}
use Rattle.container_layout.specs.Items.{IsMetaRange, IsItem}
use Rattle.container_layout.specs.Numbers.{dotted, behind_dot}
use Rattle.container_layout.specs.Paths.{hostdir_of, path_of}
use Rattle.container_layout.proofs.Decimals.{short_decimal}
use Rattle.container_layout.proofs.Dots.{dotted-cons}

pub short_remainder : (host : ℕ) → length (decimal (host % 32)) ≤ 2
short_remainder host = length-decimal-le 2 (host % 32) (omega arith) (omega arith) (omega arith)

pub short_hostdir : (host : ℕ) → length (hostdir_of host) ≤ 96
short_hostdir host = omega (arith, short_remainder host)

pub short_one : (word : List ℕ) (a : ℕ) → length word ≤ 40 → a < 2 ^ 64 → length (word ++ dotted (a ∷ [])) ≤ 96
short_one word a short a_lt = omega (arith, length-append word (decimal a), short_decimal a a_lt)

pub short_two : (word : List ℕ) (a b : ℕ) → length word ≤ 40 → a < 2 ^ 64 → b < 2 ^ 64 → length (word ++ dotted (a ∷ b ∷ [])) ≤ 96
short_two word a b short a_lt b_lt =
    omega (arith, length-append word (decimal a ++ 46 ∷ decimal b), length-append (decimal a) (46 ∷ decimal b), short_decimal a a_lt, short_decimal b b_lt)

pub short_meta : (last bytes stamp host writer : ℕ) → IsMetaRange last bytes stamp → host < 2 ^ 32 → writer < 2 ^ 64
    → length ([] ++ dotted (last ∷ bytes ∷ stamp ∷ host ∷ writer ∷ [])) ≤ 96
short_meta last bytes stamp host writer range host_lt writer_lt =
    omega (
      arith,
      length-append (decimal last) (46 ∷ dotted (bytes ∷ stamp ∷ host ∷ writer ∷ [])),
      length-append (decimal bytes) (46 ∷ dotted (stamp ∷ host ∷ writer ∷ [])),
      length-append (decimal stamp) (46 ∷ dotted (host ∷ writer ∷ [])),
      length-append (decimal host) (46 ∷ dotted (writer ∷ [])),
      length-decimal-le 13 last (omega arith) (omega (arith, range.last_fits)) (omega (arith, range.last_fits)),
      length-decimal-le 17 bytes (omega arith) (omega (arith, range.bytes_fit)) (omega (arith, range.bytes_fit)),
      length-decimal-le 19 stamp (omega arith) (omega (arith, range.stamp_fits)) (omega (arith, range.stamp_fits)),
      length-decimal-le 10 host (omega arith) (omega (arith, host_lt)) (omega (arith, host_lt)),
      short_decimal writer writer_lt,
    )

pub short_file : (item : Item) → IsItem item → length (path_of item).file ≤ 96
short_file Access is = omega arith
short_file (OpenHost host writer) is = short_two [] host writer (omega arith) (omega (arith, is.widths.0)) is.widths.1
short_file (Meta last bytes stamp host writer) is = short_meta last bytes stamp host writer is.in_range is.widths.0 is.widths.1
short_file (Trunc stamp size) is = short_two [] stamp size (omega arith) (omega (arith, is.in_range.stamp_fits)) (omega (arith, is.in_range.size_fits))
short_file (Flat id) is = short_one [] id (omega arith) is.widths
short_file (TmpFlat id) is = short_one (codes "tmp.") id (omega arith) is.widths
short_file (Index host writer) is = short_two (codes "index.") host writer (omega arith) (omega (arith, is.widths.0)) is.widths.1
short_file (Log host writer) is = short_two (codes "log.") host writer (omega arith) (omega (arith, is.widths.0)) is.widths.1
short_file (Packed host writer) is = short_two (codes "index2.") host writer (omega arith) (omega (arith, is.widths.0)) is.widths.1
short_file (TmpPacked host id) is = short_two (codes "tmp2.") host id (omega arith) (omega (arith, is.widths.0)) is.widths.1

pub short_folder : (item : Item) → length (path_of item).folder ≤ 96
short_folder Access = omega arith
short_folder (OpenHost host writer) = omega arith
short_folder (Meta last bytes stamp host writer) = omega arith
short_folder (Trunc stamp size) = omega arith
short_folder (Flat id) = omega arith
short_folder (TmpFlat id) = omega arith
short_folder (Index host writer) = short_hostdir host
short_folder (Log host writer) = short_hostdir host
short_folder (Packed host writer) = short_hostdir host
short_folder (TmpPacked host id) = short_hostdir host

-- ---- writing numbers behind dots, one after the other

regroup : (front d r : List ℕ) → ((front ++ 46 ∷ []) ++ d) ++ r ≡ front ++ (46 ∷ (d ++ r))
regroup front d r = simp append_assoc

-- one more number is written
pub one_more : (front : List ℕ) (numbers : List ℕ) (i : ℕ) (whole : List ℕ) → i < length numbers
    → front ++ flat_map behind_dot (drop i numbers) ≡ whole
    → (front ++ 46 ∷ []) ++ decimal (get_or numbers i 0) ++ flat_map behind_dot (drop (i + 1) numbers) ≡ whole
one_more front numbers i whole here so_far =
    let d : List ℕ = decimal (get_or numbers i 0) in
    let r : List ℕ = flat_map behind_dot (drop (i + 1) numbers) in
    regroup front d r
    ∙ ap (λ (t : List ℕ). front ++ t) (sym (flat_map-cons behind_dot (get_or numbers i 0) (drop (i + 1) numbers)))
    ∙ ap (λ (xs : List ℕ). front ++ flat_map behind_dot xs) (sym (drop_more numbers i 0 here))
    ∙ so_far

-- and has room
pub room_for_more : (front : List ℕ) (numbers : List ℕ) (i : ℕ) (whole : List ℕ) → i < length numbers
    → front ++ flat_map behind_dot (drop i numbers) ≡ whole
    → length front + 1 + length (decimal (get_or numbers i 0)) ≤ length whole
room_for_more front numbers i whole here so_far =
    let d : List ℕ = decimal (get_or numbers i 0) in
    let r : List ℕ = flat_map behind_dot (drop (i + 1) numbers) in
    omega (
      arith,
      ap length (one_more front numbers i whole here so_far),
      length-append ((front ++ 46 ∷ []) ++ d) r,
      length-append (front ++ 46 ∷ []) d,
      length-append front (46 ∷ []),
    )

-- the first number, and the others behind a dot each
pub first_and_others : (numbers : List ℕ) → 1 ≤ length numbers
    → dotted numbers ≡ decimal (get_or numbers 0 0) ++ flat_map behind_dot (take (length numbers - 1) (drop 1 numbers))
first_and_others [] some = absurd (omega arith)
first_and_others (n ∷ ns) some =
    dotted-cons n ns ∙ ap (λ (xs : List ℕ). decimal n ++ flat_map behind_dot xs) (sym (take_rest (n ∷ ns) 1))
