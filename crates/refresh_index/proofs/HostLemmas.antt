-- The hosts that were held and those that a listing tells stand by ascending writer.
use Rattle.std.proofs.Common.{◌≡◌, ℕ, ◌<◌, ◌≤◌, nat_eq, nat_lt, true, false, List, [], ◌∷◌, ◌++◌, map, refl, ap, ◌∙◌, ◌⊎◌, inl, inr, subst, arith}
use Rattle.std.specs.List.{AllByRecursion}
use Rattle.std.specs.Prelude.{if◌then◌else◌}
use Rattle.std.proofs.lemmas.Bool.{cond-false}
use Rattle.std.proofs.lemmas.Bool.Decides.{nat_tests}
use Rattle.std.proofs.lemmas.List.Elements.{All-from_recursion, recursion_from_All}
use Rattle.plain_file.specs.declared.parts.WriterHost.{WriterHost}
use Rattle.index_reader.specs.declared.listing.Dropping.{Dropping}
use Rattle.index_reader.specs.Hosts.{AreByWriter, host_given, hosts_of}
use Rattle.index_reader.specs.Listing.{AreByWriter as AreDroppingsByWriter}
use Rattle.refresh_index.specs.Hosts.{hosts_below, hosts_from, without, hosts_with}

-- each host is of a writer above that of the hosts before it
abbrev pub Rise : List WriterHost → Type 0
Rise [] = Unit {0}
Rise (h ∷ hosts) = AllByRecursion (λ (g : WriterHost). h.writer < g.writer) hosts × Rise hosts

-- the writers are above, or not below, this one
abbrev Above : ℕ → List WriterHost → Type 0
Above n hosts = AllByRecursion (λ (g : WriterHost). n < g.writer) hosts

abbrev Under : ℕ → List WriterHost → Type 0
Under n hosts = AllByRecursion (λ (g : WriterHost). g.writer < n) hosts

unmapped : (P : ℕ → Type 0) (hosts : List WriterHost) → AllByRecursion P (map (λ (h : WriterHost). h.writer) hosts) → AllByRecursion (λ (h : WriterHost). P h.writer) hosts
unmapped P [] all = tt
unmapped P (h ∷ hosts) all = (all.0, unmapped P hosts all.1)

mapped : (P : ℕ → Type 0) (hosts : List WriterHost) → AllByRecursion (λ (h : WriterHost). P h.writer) hosts → AllByRecursion P (map (λ (h : WriterHost). h.writer) hosts)
mapped P [] all = tt
mapped P (h ∷ hosts) all = (all.0, mapped P hosts all.1)

pub rise_by : (hosts : List WriterHost) → AreByWriter hosts → Rise hosts
rise_by [] by = tt
rise_by (h ∷ hosts) by = (unmapped (λ later. h.writer < later) hosts (recursion_from_All (λ later. h.writer < later) (map (λ (h : WriterHost). h.writer) hosts) by.0), rise_by hosts by.1)

pub by_rise : (hosts : List WriterHost) → Rise hosts → AreByWriter hosts
by_rise [] rise = tt
by_rise (h ∷ hosts) rise = (All-from_recursion (λ later. h.writer < later) (map (λ (h : WriterHost). h.writer) hosts) (mapped (λ later. h.writer < later) hosts rise.0), by_rise hosts rise.1)

higher : (n m : ℕ) (hosts : List WriterHost) → n < m → Above m hosts → Above n hosts
higher n m [] l all = tt
higher n m (h ∷ hosts) l all = (omega (arith, l, all.0), higher n m hosts l all.1)

is_less : (a b : ℕ) → nat_lt a b ≡ true → a < b
is_less a b t = grind (arith, nat_tests)

not_less : (a b : ℕ) → nat_lt a b ≡ false → b ≤ a
not_less a b t = grind (arith, nat_tests)

differs : (a b : ℕ) → nat_eq a b ≡ false → b ≤ a → b < a
differs a b t l = grind (arith, nat_tests)

same_number : (a b : ℕ) → nat_eq a b ≡ true → a ≡ b
same_number a b t = grind (arith, nat_tests)

-- ---- the parts of what was held

below_under : (n : ℕ) (held : List WriterHost) → Under n (hosts_below n held)
below_under n [] = tt
below_under n (h ∷ held) = elim (nat_lt h.writer n) as (λ b. nat_lt h.writer n ≡ b → Under n (if b then h ∷ hosts_below n held else [])) [
  | true ↦ λ t. (is_less h.writer n t, below_under n held)
  | false ↦ λ t. tt
] refl

all_below : (P : WriterHost → Type 0) (n : ℕ) (held : List WriterHost) → AllByRecursion P held → AllByRecursion P (hosts_below n held)
all_below P n [] all = tt
all_below P n (h ∷ held) all = elim (nat_lt h.writer n) as (λ b. AllByRecursion P (if b then h ∷ hosts_below n held else [])) [
  | true ↦ (all.0, all_below P n held all.1)
  | false ↦ tt
]

all_from : (P : WriterHost → Type 0) (n : ℕ) (held : List WriterHost) → AllByRecursion P held → AllByRecursion P (without n (hosts_from n held))
all_from P n [] all = tt
all_from P n (h ∷ held) all = elim (nat_lt h.writer n) as (λ b. AllByRecursion P (without n (if b then hosts_from n held else h ∷ held))) [
  | true ↦ all_from P n held all.1
  | false ↦ elim (nat_eq h.writer n) as (λ b. AllByRecursion P (if b then held else h ∷ held)) [ true ↦ all.1 | false ↦ all ]
]

below_rise : (n : ℕ) (held : List WriterHost) → Rise held → Rise (hosts_below n held)
below_rise n [] rise = tt
below_rise n (h ∷ held) rise = elim (nat_lt h.writer n) as (λ b. Rise (if b then h ∷ hosts_below n held else [])) [
  | true ↦ (all_below (λ (g : WriterHost). h.writer < g.writer) n held rise.0, below_rise n held rise.1)
  | false ↦ tt
]

from_rise : (n : ℕ) (held : List WriterHost) → Rise held → Rise (without n (hosts_from n held)) × Above n (without n (hosts_from n held))
from_rise n [] rise = (tt, tt)
from_rise n (h ∷ held) rise = elim (nat_lt h.writer n) as (λ b. nat_lt h.writer n ≡ b → Rise (without n (if b then hosts_from n held else h ∷ held)) × Above n (without n (if b then hosts_from n held else h ∷ held))) [
  | true ↦ λ t. from_rise n held rise.1
  | false ↦ λ t. elim (nat_eq h.writer n) as (λ b. nat_eq h.writer n ≡ b → Rise (if b then held else h ∷ held) × Above n (if b then held else h ∷ held)) [
    | true ↦ λ e. (rise.1, subst (λ w. Above w held) (same_number h.writer n e) rise.0)
    | false ↦ λ e. (let above : n < h.writer = differs h.writer n e (not_less h.writer n t) in (rise, (above, higher n h.writer held above rise.0)))
  ] refl
] refl

-- ---- all of them

-- what is below a number, and then what rises from it on
joined_rise : (n : ℕ) (front back : List WriterHost) → Rise front → Under n front → Rise back → AllByRecursion (λ (g : WriterHost). n ≤ g.writer) back → Rise (front ++ back)
joined_rise n [] back rise under rise_b from = rise_b
joined_rise n (h ∷ front) back rise under rise_b from = (both front rise.0, joined_rise n front back rise.1 under.1 rise_b from)
  where
    after : (gs : List WriterHost) → AllByRecursion (λ (g : WriterHost). n ≤ g.writer) gs → Above h.writer gs
    after [] all = tt
    after (g ∷ gs) all = (omega (arith, under.0, all.0), after gs all.1)

    both : (gs : List WriterHost) → Above h.writer gs → Above h.writer (gs ++ back)
    both [] all = after back from
    both (g ∷ gs) all = (all.0, both gs all.1)

from_above : (n : ℕ) (hosts : List WriterHost) → Above n hosts → AllByRecursion (λ (g : WriterHost). n ≤ g.writer) hosts
from_above n [] all = tt
from_above n (h ∷ hosts) all = (omega (arith, all.0), from_above n hosts all.1)

-- what is above a number stays so
with_above : (n : ℕ) (held : List WriterHost) (ds : List Dropping) → Above n held → AllByRecursion (λ (d : Dropping). n < d.writer) ds → Above n (hosts_with held ds)
with_above n held [] all more = all
with_above n held (d ∷ ds) all more =
    front (with_above n (without d.writer (hosts_from d.writer held)) ds (all_from (λ (g : WriterHost). n < g.writer) d.writer held all) more.1) (hosts_below d.writer held) (all_below (λ (g : WriterHost). n < g.writer) d.writer held all)
  where
    front : Above n (hosts_with (without d.writer (hosts_from d.writer held)) ds) → (gs : List WriterHost) → Above n gs → Above n (gs ++ host_given d ∷ hosts_with (without d.writer (hosts_from d.writer held)) ds)
    front rest [] all = (more.0, rest)
    front rest (g ∷ gs) all = (all.0, front rest gs all.1)

writers_above : (n : ℕ) (ds : List Dropping) → AllByRecursion (λ later. n < later) (map (λ (d : Dropping). d.writer) ds) → AllByRecursion (λ (d : Dropping). n < d.writer) ds
writers_above n [] all = tt
writers_above n (d ∷ ds) all = (all.0, writers_above n ds all.1)

with_rise : (held : List WriterHost) (ds : List Dropping) → Rise held → AreDroppingsByWriter ds → Rise (hosts_with held ds)
with_rise held [] rise by = rise
with_rise held (d ∷ ds) rise by =
    let past = from_rise d.writer held rise in
    let later : AllByRecursion (λ (e : Dropping). d.writer < e.writer) ds = writers_above d.writer ds (recursion_from_All (λ later. d.writer < later) (map (λ (e : Dropping). e.writer) ds) by.0) in
    let rest : Rise (hosts_with (without d.writer (hosts_from d.writer held)) ds) = with_rise (without d.writer (hosts_from d.writer held)) ds past.0 by.1 in
    let above : Above d.writer (hosts_with (without d.writer (hosts_from d.writer held)) ds) = with_above d.writer (without d.writer (hosts_from d.writer held)) ds past.1 later in
    joined_rise d.writer (hosts_below d.writer held) (host_given d ∷ hosts_with (without d.writer (hosts_from d.writer held)) ds)
    (below_rise d.writer held rise) (below_under d.writer held) (above, rest) (omega arith, from_above d.writer (hosts_with (without d.writer (hosts_from d.writer held)) ds) above)

pub hosts_with_order : (held : List WriterHost) (ds : List Dropping) → AreByWriter held → AreDroppingsByWriter ds → AreByWriter (hosts_with held ds)
hosts_with_order held ds rise by = by_rise (hosts_with held ds) (with_rise held ds (rise_by held rise) by)

-- ---- where each writer that is held was listed

-- one of the droppings is of this writer
abbrev pub IsListed : ℕ → List Dropping → Type 0
IsListed w [] = ⊥
IsListed w (d ∷ ds) = (w ≡ d.writer) ⊎ IsListed w ds

none_under : (n : ℕ) (hosts : List WriterHost) → Rise hosts → AllByRecursion (λ (g : WriterHost). n ≤ g.writer) hosts → hosts_below n hosts ≡ []
none_under n [] rise all = refl
none_under n (h ∷ hosts) rise all = cond-false (nat_lt h.writer n) (h ∷ hosts_below n hosts) [] (least h.writer n all.0)
  where
    least : (a b : ℕ) → b ≤ a → nat_lt a b ≡ false
    least a b l = grind (arith, nat_tests)

-- no writer is below the first of those that were listed
not_under : (d : Dropping) (ds : List Dropping) (hosts : List WriterHost) → AllByRecursion (λ (e : Dropping). d.writer < e.writer) ds → AllByRecursion (λ (h : WriterHost). IsListed h.writer (d ∷ ds)) hosts → AllByRecursion (λ (g : WriterHost). d.writer ≤ g.writer) hosts
not_under d ds [] later all = tt
not_under d ds (h ∷ hosts) later all = (least h.writer all.0, not_under d ds hosts later all.1)
  where
    of_later : (w : ℕ) (es : List Dropping) → AllByRecursion (λ (e : Dropping). d.writer < e.writer) es → IsListed w es → d.writer ≤ w
    of_later w [] above is = absurd is
    of_later w (e ∷ es) above (inl same) = omega (arith, above.0, same)
    of_later w (e ∷ es) above (inr more) = of_later w es above.1 more

    least : (w : ℕ) → IsListed w (d ∷ ds) → d.writer ≤ w
    least w (inl same) = omega (arith, same)
    least w (inr more) = of_later w ds later more

-- past the first, each is of one of the others
others_listed : (d : Dropping) (ds : List Dropping) (hosts : List WriterHost) → Above d.writer hosts → AllByRecursion (λ (h : WriterHost). IsListed h.writer (d ∷ ds)) hosts → AllByRecursion (λ (h : WriterHost). IsListed h.writer ds) hosts
others_listed d ds [] above all = tt
others_listed d ds (h ∷ hosts) above all = (other h.writer above.0 all.0, others_listed d ds hosts above.1 all.1)
  where
    other : (w : ℕ) → d.writer < w → IsListed w (d ∷ ds) → IsListed w ds
    other w l (inl same) = absurd (omega (arith, l, same))
    other w l (inr more) = more

-- So a sound container shows the hosts that are listed alone.
pub hosts_with_listed : (held : List WriterHost) (ds : List Dropping) → AreByWriter held → AreDroppingsByWriter ds → AllByRecursion (λ (h : WriterHost). IsListed h.writer ds) held → hosts_with held ds ≡ hosts_of ds
hosts_with_listed held ds by_h by listed = of_rise held ds (rise_by held by_h) by listed
  where
    of_rise : (held : List WriterHost) (ds : List Dropping) → Rise held → AreDroppingsByWriter ds → AllByRecursion (λ (h : WriterHost). IsListed h.writer ds) held → hosts_with held ds ≡ hosts_of ds
    of_rise [] [] rise by all = refl
    of_rise (h ∷ held) [] rise by all = absurd all.0
    of_rise held (d ∷ ds) rise by all =
        let later : AllByRecursion (λ (e : Dropping). d.writer < e.writer) ds = writers_above d.writer ds (recursion_from_All (λ later. d.writer < later) (map (λ (e : Dropping). e.writer) ds) by.0) in
        let least = not_under d ds held later all in
        let past = from_rise d.writer held rise in
        let rest = of_rise (without d.writer (hosts_from d.writer held)) ds past.0 by.1 (others_listed d ds (without d.writer (hosts_from d.writer held)) past.1 (all_from (λ (h : WriterHost). IsListed h.writer (d ∷ ds)) d.writer held all)) in
        ap (λ l. l ++ host_given d ∷ hosts_with (without d.writer (hosts_from d.writer held)) ds) (none_under d.writer held rise least) ∙ ap (λ l. host_given d ∷ l) rest
