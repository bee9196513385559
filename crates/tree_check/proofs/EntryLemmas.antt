-- What is shown of entries in memory.
use Rattle.std.proofs.Common.{◌≡◌, ℕ, zero, suc, ◌+◌, ◌-◌, ◌*◌, ◌/◌, ◌≤◌, ◌<◌, ◌⊎◌, inl, inr, Bool, true, false, nat_le, List, [], ◌∷◌, ◌++◌, length, take, drop, get_or, max, Some, None, refl, ap, sym, ◌∙◌, subst, arith}
use Rattle.std.specs.Prelude.{slice_get, if◌then◌else◌}
use Rattle.std.specs.List.{AllByRecursion}
use Rattle.std.proofs.lemmas.Bool.Decides.{nat_tests}
use Rattle.std.proofs.lemmas.List.{length-drop, take_all}
use Rattle.std.proofs.lemmas.Option.{slice_get-get_or}
use Rattle.plfs_types.specs.declared.limits.TheConstants.{MAX_LOG}
use Rattle.plfs_types.specs.declared.entries.Entry.{Entry}
use Rattle.plfs_types.specs.declared.names.Path.{Path}
use Rattle.index_entry.specs.Entries.{MayFollow, AreEntriesOf, logged, last_stamp}
use Rattle.index_entry.specs.Records.{records_in}
use Rattle.index_entry.specs.Spelling.{entry_in}
use Rattle.index_entry.specs.Within.{within_log}
use Rattle.mount_model.specs.Paths.{Name}
use Rattle.mount_sound.specs.Dropping.{AreBeside}
use Rattle.mount_sound.specs.Entries.{greatest_end}
use Rattle.mount_sound.proofs.Facts.{greatest_end_push, in_order_push, in_order_take, last_stamp_push, logged_push, logged_take}
use Rattle.tree_laws.specs.Checked.{whole_entries}
use Rattle.shape_check.specs.declared.finding.Complaint.TheVariants.{Entry as misplaced, LongLog}
use Rattle.shape_check.specs.declared.finding.Finding.TheVariants.{Broken}
use Rattle.tree_check.specs.Entries.{AreInOrder, AreOrdered, ends_within, EndsWithin, IsMisfit}

-- ---- the entries that bytes are

-- the entries so far, and those that the rest is, are all of them
abbrev pub AreSoFar : List Entry → List ℕ → List Entry → Type 0
AreSoFar all rest entries = entries ++ whole_entries rest ≡ all

one_less : (n m : ℕ) → 40 ≤ n → m ≡ n - 40 → n / 40 ≡ suc (m / 40)
one_less n m long e = omega arith

pub front_first : (rest : List ℕ) → 40 ≤ length rest → whole_entries rest ≡ entry_in rest ∷ whole_entries (drop 40 rest)
front_first rest long =
    let less : length (drop 40 rest) ≡ length rest - 40 = length-drop 40 rest in
    ap (λ (n : ℕ). records_in entry_in 40 n rest) (one_less (length rest) (length (drop 40 rest)) long less)

appended : (front rest : List Entry) (e : Entry) → (front ++ e ∷ []) ++ rest ≡ front ++ e ∷ rest
appended [] rest e = refl
appended (x ∷ front) rest e = ap (λ (l : List Entry). x ∷ l) (appended front rest e)

pub so_far_more : (all : List Entry) (rest : List ℕ) (entries : List Entry) → 40 ≤ length rest → AreSoFar all rest entries → AreSoFar all (drop 40 rest) (entries ++ entry_in rest ∷ [])
so_far_more all rest entries long so_far =
    appended entries (whole_entries (drop 40 rest)) (entry_in rest) ∙ ap (λ (l : List Entry). entries ++ l) (sym (front_first rest long)) ∙ so_far

no_more : (n : ℕ) → n < 40 → n / 40 ≡ 0
no_more n less = omega arith

with_nothing : (xs : List Entry) → xs ++ [] ≡ xs
with_nothing [] = refl
with_nothing (x ∷ xs) = ap (λ (l : List Entry). x ∷ l) (with_nothing xs)

pub so_far_all : (all : List Entry) (rest : List ℕ) (entries : List Entry) → length rest < 40 → AreSoFar all rest entries → entries ≡ all
so_far_all all rest entries short so_far =
    let none : whole_entries rest ≡ [] = ap (λ (n : ℕ). records_in entry_in 40 n rest) (no_more (length rest) short) in
    sym (with_nothing entries) ∙ ap (λ (l : List Entry). entries ++ l) (sym none) ∙ so_far

-- ---- how many have landed

ends_so : (log : ℕ) (e : Entry) → e.physical + e.len ≤ log → nat_le (e.physical + e.len) log ≡ true
ends_so log e ends = grind (arith, nat_tests)

ends_not : (log : ℕ) (e : Entry) → (e.physical + e.len ≤ log → ⊥) → nat_le (e.physical + e.len) log ≡ false
ends_not log e past = elim (nat_le (e.physical + e.len) log) as (λ b. nat_le (e.physical + e.len) log ≡ b → b ≡ false) [
  | true ↦ λ t. absurd (past (grind (arith, nat_tests)))
  | false ↦ λ t. refl
] refl

-- the first so many end within the log, and so do of all as many as those and of the rest
abbrev pub HasPassed : ℕ → List Entry → ℕ → Type 0
HasPassed log entries count = ends_within log entries ≡ count + ends_within log (drop count entries)

at_drop : (entries : List Entry) (i : ℕ) (e : Entry) → slice_get entries i ≡ Some e → drop i entries ≡ e ∷ drop (i + 1) entries
at_drop [] i e at = absurd (cc)
at_drop (x ∷ xs) zero e at = let same : x ≡ e = cc in ap (λ (y : Entry). y ∷ xs) same
at_drop (x ∷ xs) (suc i) e at = let next : suc i + 1 ≡ suc (i + 1) = omega arith in at_drop xs i e at ∙ ap (λ (n : ℕ). e ∷ drop n (x ∷ xs)) (sym next)

pub passed_none : (log : ℕ) (entries : List Entry) → HasPassed log entries 0
passed_none log entries = omega arith

pub passed_more : (log : ℕ) (entries : List Entry) (i : ℕ) (e : Entry) → slice_get entries i ≡ Some e → EndsWithin log e → HasPassed log entries i → HasPassed log entries (i + 1)
passed_more log entries i e at ends passed =
    let here : ends_within log (drop i entries) ≡ suc (ends_within log (drop (i + 1) entries)) =
    ap (ends_within log) (at_drop entries i e at) ∙ ap (λ (b : Bool). if b then suc (ends_within log (drop (i + 1) entries)) else 0) (ends_so log e ends) in
    omega (arith, here, passed)

pub passed_here : (log : ℕ) (entries : List Entry) (i : ℕ) (e : Entry) → slice_get entries i ≡ Some e → (EndsWithin log e → ⊥) → HasPassed log entries i → i ≡ ends_within log entries
passed_here log entries i e at past passed =
    let here : ends_within log (drop i entries) ≡ 0 =
    ap (ends_within log) (at_drop entries i e at) ∙ ap (λ (b : Bool). if b then suc (ends_within log (drop (i + 1) entries)) else 0) (ends_not log e past) in
    omega (arith, here, passed)

drop_all : (entries : List Entry) (i : ℕ) → length entries ≤ i → drop i entries ≡ []
drop_all [] zero past = refl
drop_all [] (suc i) past = refl
drop_all (x ∷ xs) zero past = absurd (omega arith)
drop_all (x ∷ xs) (suc i) past = drop_all xs i (omega arith)

pub passed_all : (log : ℕ) (entries : List Entry) (i : ℕ) → length entries ≡ i → HasPassed log entries i → i ≡ ends_within log entries
passed_all log entries i past passed = omega (arith, passed, ap (ends_within log) (drop_all entries i (omega arith)))

pub ends_length : (log : ℕ) (entries : List Entry) → ends_within log entries ≤ length entries
ends_length log [] = omega arith
ends_length log (e ∷ es) = elim (nat_le (e.physical + e.len) log) as (λ b. (if b then suc (ends_within log es) else 0) ≤ length (e ∷ es)) [
  | true ↦ omega (arith, ends_length log es)
  | false ↦ omega arith
]

-- those that count in bytes are the first of the entries
pub within_is : (log n : ℕ) (bytes : List ℕ) → within_log log n bytes ≡ take (ends_within log (records_in entry_in 40 n bytes)) (records_in entry_in 40 n bytes)
within_is log zero bytes = refl
within_is log (suc n) bytes =
    elim (nat_le ((entry_in bytes).physical + (entry_in bytes).len) log) as (λ b. (if b then entry_in bytes ∷ within_log log n (drop 40 bytes) else [])
    ≡ take (if b then suc (ends_within log (records_in entry_in 40 n (drop 40 bytes))) else 0) (entry_in bytes ∷ records_in entry_in 40 n (drop 40 bytes))) [
      | true ↦ ap (λ (l : List Entry). entry_in bytes ∷ l) (within_is log n (drop 40 bytes))
      | false ↦ refl
    ]

-- ---- the first that may not follow

-- what is known of the first so many
pub record AreFine (writer : ℕ) (entries : List Entry) (i last sum : ℕ) : Type 0 where
  pub in_order : AreEntriesOf writer 0 0 (take i entries)
  pub latest : last ≡ last_stamp 0 (take i entries)
  pub summed : sum ≡ logged (take i entries)
  pub small : sum ≤ MAX_LOG

pub fine_none : (writer : ℕ) (entries : List Entry) → AreFine writer entries 0 0 0
fine_none writer entries = record { in_order = tt; latest = refl; summed = refl; small = omega arith }

one_more : (entries : List Entry) (i : ℕ) (e : Entry) → slice_get entries i ≡ Some e → take (i + 1) entries ≡ take i entries ++ e ∷ []
one_more [] i e at = absurd (cc)
one_more (x ∷ xs) zero e at = let same : x ≡ e = cc in ap (λ (y : Entry). y ∷ []) same
one_more (x ∷ xs) (suc i) e at =
    let next : suc i + 1 ≡ suc (i + 1) = omega arith in
    ap (λ (n : ℕ). take n (x ∷ xs)) next ∙ ap (λ (l : List Entry). x ∷ l) (one_more xs i e at)

pub fine_more : (writer : ℕ) (entries : List Entry) (i last sum : ℕ) (e : Entry) → slice_get entries i ≡ Some e → AreFine writer entries i last sum → MayFollow writer last sum e → e.len ≤ MAX_LOG - sum → AreFine writer entries (i + 1) e.stamp (sum + e.len)
fine_more writer entries i last sum e at fine may few =
    let more : take (i + 1) entries ≡ take i entries ++ e ∷ [] = one_more entries i e at in
    let here : MayFollow writer (last_stamp 0 (take i entries)) (0 + logged (take i entries)) e =
    subst (λ (l : ℕ). MayFollow writer l (0 + logged (take i entries)) e) fine.latest (subst (λ (n : ℕ). MayFollow writer last n e) (omega (arith, fine.summed)) may) in
    record {
      in_order = subst (AreEntriesOf writer 0 0) (sym more) (in_order_push writer 0 0 (take i entries) e fine.in_order here);
      latest = sym (ap (last_stamp 0) more ∙ last_stamp_push 0 (take i entries) e);
      summed = omega (arith, fine.summed, ap logged more, logged_push (take i entries) e);
      small = omega (arith, few, fine.small);
    }

pub fine_all : (writer : ℕ) (entries : List Entry) (i last sum : ℕ) → length entries ≤ i → AreFine writer entries i last sum → AreInOrder writer entries
fine_all writer entries i last sum past fine =
    let all : take i entries ≡ entries = take_all i entries past in
    record {
      in_order = subst (AreEntriesOf writer 0 0) all fine.in_order;
      small = omega (arith, ap logged all, fine.summed, fine.small);
    }

last_of : (writer last offset : ℕ) (front : List Entry) (e : Entry) → AreEntriesOf writer last offset (front ++ e ∷ []) → MayFollow writer (last_stamp last front) (offset + logged front) e
last_of writer last offset [] e o = subst (λ (n : ℕ). MayFollow writer last n e) (omega arith) o.0
last_of writer last offset (x ∷ front) e o = subst (λ (n : ℕ). MayFollow writer (last_stamp x.stamp front) n e) (omega arith) (last_of writer x.stamp (offset + x.len) front e o.1)

within_length : (entries : List Entry) (i : ℕ) (e : Entry) → slice_get entries i ≡ Some e → i < length entries
within_length [] i e at = absurd (cc)
within_length (x ∷ xs) zero e at = omega arith
within_length (x ∷ xs) (suc i) e at = omega (arith, within_length xs i e at)

pub misplaced_at : (room : Name) (path : Path) (writer : ℕ) (entries : List Entry) (i last sum : ℕ) (e : Entry) → slice_get entries i ≡ Some e → AreFine writer entries i last sum → (MayFollow writer last sum e → ⊥)
    → (place : ℕ) → place ≡ 40 * i → IsMisfit room path writer entries (Broken (misplaced room path place))
misplaced_at room path writer entries i last sum e at fine wrong place is = inl (
  i,
  ap (λ (n : ℕ). Broken (misplaced room path n)) is,
  within_length entries i e at,
  fine.in_order,
  λ o. (
      let may : MayFollow writer (last_stamp 0 (take i entries)) (0 + logged (take i entries)) e = last_of writer 0 0 (take i entries) e (subst (AreEntriesOf writer 0 0) (one_more entries i e at) o) in
      wrong (subst (λ (l : ℕ). MayFollow writer l sum e) (sym fine.latest) (subst (λ (n : ℕ). MayFollow writer (last_stamp 0 (take i entries)) n e) (omega (arith, fine.summed)) may))),
)

pub long_at : (room : Name) (path : Path) (writer : ℕ) (entries : List Entry) (i last sum : ℕ) (e : Entry) → slice_get entries i ≡ Some e → AreFine writer entries i last sum → MAX_LOG - sum < e.len
    → IsMisfit room path writer entries (Broken (LongLog room path))
long_at room path writer entries i last sum e at fine past = inr (
  refl,
  omega (arith, past, fine.small, fine.summed, ap logged (one_more entries i e at), logged_push (take i entries) e, logged_take (i + 1) entries),
)

-- ---- what they tell together

-- what the first so many tell
pub record AreSummed (entries : List Entry) (i end bytes stamp : ℕ) : Type 0 where
  pub ends : end ≡ greatest_end (take i entries)
  pub summed : bytes ≡ logged (take i entries)
  pub latest : stamp ≡ last_stamp 0 (take i entries)

pub summed_none : (entries : List Entry) → AreSummed entries 0 0 0 0
summed_none entries = record { ends = refl; summed = refl; latest = refl }

pub summed_more : (entries : List Entry) (i end bytes stamp : ℕ) (e : Entry) → slice_get entries i ≡ Some e → AreSummed entries i end bytes stamp → AreSummed entries (i + 1) (max end (e.at + e.len)) (bytes + e.len) e.stamp
summed_more entries i end bytes stamp e at s =
    let more : take (i + 1) entries ≡ take i entries ++ e ∷ [] = one_more entries i e at in
    record {
      ends = ap (λ (n : ℕ). max n (e.at + e.len)) s.ends ∙ sym (ap greatest_end more ∙ greatest_end_push (take i entries) e);
      summed = omega (arith, s.summed, ap logged more, logged_push (take i entries) e);
      latest = sym (ap (last_stamp 0) more ∙ last_stamp_push 0 (take i entries) e);
    }

pub summed_all : (entries : List Entry) (i end bytes stamp : ℕ) → length entries ≤ i → AreSummed entries i end bytes stamp → (end ≡ greatest_end entries) × (bytes ≡ logged entries) × (stamp ≡ last_stamp 0 entries)
summed_all entries i end bytes stamp past s =
    let all : take i entries ≡ entries = take_all i entries past in
    (s.ends ∙ ap greatest_end all, s.summed ∙ ap logged all, s.latest ∙ ap (last_stamp 0) all)

-- the entry at hand of entries in order
pub follows_at : (writer : ℕ) (entries : List Entry) (i : ℕ) (e : Entry) → slice_get entries i ≡ Some e → AreInOrder writer entries → MayFollow writer (last_stamp 0 (take i entries)) (0 + logged (take i entries)) e
follows_at writer entries i e at o = last_of writer 0 0 (take i entries) e (subst (AreEntriesOf writer 0 0) (one_more entries i e at) (in_order_take (i + 1) writer 0 0 entries o.in_order))

pub sum_fits : (writer : ℕ) (entries : List Entry) (i : ℕ) (e : Entry) → slice_get entries i ≡ Some e → AreInOrder writer entries → logged (take i entries) + e.len ≤ MAX_LOG
sum_fits writer entries i e at o = omega (arith, o.small, ap logged (one_more entries i e at), logged_push (take i entries) e, logged_take (i + 1) entries)

-- the first of entries in order are in order
pub order_front : (writer n : ℕ) (entries : List Entry) → AreInOrder writer entries → AreInOrder writer (take n entries)
order_front writer n entries o = record { in_order = in_order_take n writer 0 0 entries o.in_order; small = omega (arith, o.small, logged_take n entries) }

-- ---- stamps beside a truncate

above_all : (writer last offset stamp : ℕ) (es : List Entry) → AreEntriesOf writer last offset es → stamp ≤ last → AllByRecursion (λ (e : Entry). stamp < e.stamp) es
above_all writer last offset stamp [] o low = tt
above_all writer last offset stamp (e ∷ es) o low = (omega (arith, o.0.later, low), above_all writer e.stamp (offset + e.len) stamp es o.1 (omega (arith, o.0.later, low)))

least : (writer last offset : ℕ) (es : List Entry) → AreEntriesOf writer last offset es → last ≤ last_stamp last es
least writer last offset [] o = omega arith
least writer last offset (e ∷ es) o = omega (arith, o.0.later, least writer e.stamp (offset + e.len) es o.1)

below_all : (writer last offset stamp : ℕ) (es : List Entry) → AreEntriesOf writer last offset es → last_stamp last es < stamp → AllByRecursion (λ (e : Entry). e.stamp < stamp) es
below_all writer last offset stamp [] o high = tt
below_all writer last offset stamp (e ∷ es) o high = (omega (arith, least writer e.stamp (offset + e.len) es o.1, high), below_all writer e.stamp (offset + e.len) stamp es o.1 high)

last_below : (last stamp : ℕ) (e : Entry) (es : List Entry) → AllByRecursion (λ (e : Entry). e.stamp < stamp) (e ∷ es) → last_stamp last (e ∷ es) < stamp
last_below last stamp e [] all = all.0
last_below last stamp e (x ∷ es) all = last_below e.stamp stamp x es all.1

pub beside_none : (stamp : ℕ) → AreBeside stamp []
beside_none stamp = inl tt

first_is : (es : List Entry) (first : Entry) → slice_get es 0 ≡ Some first → (rest : List Entry) × (es ≡ first ∷ rest)
first_is [] first at = absurd (cc)
first_is (x ∷ xs) first at = let same : x ≡ first = cc in (xs, ap (λ (y : Entry). y ∷ xs) same)

outside : (writer stamp : ℕ) (first : Entry) (rest : List Entry) → AreInOrder writer (first ∷ rest) → (last_stamp 0 (first ∷ rest) < stamp) ⊎ (stamp < first.stamp) → AreBeside stamp (first ∷ rest)
outside writer stamp first rest o (inl high) = inl (below_all writer 0 0 stamp (first ∷ rest) o.in_order high)
outside writer stamp first rest o (inr low) = inr (low, above_all writer first.stamp (0 + first.len) stamp rest o.in_order.1 (omega (arith, low)))

inside : (stamp : ℕ) (first : Entry) (rest : List Entry) → first.stamp ≤ stamp → stamp ≤ last_stamp 0 (first ∷ rest) → AreBeside stamp (first ∷ rest) → ⊥
inside stamp first rest low high (inl below) = let less = last_below 0 stamp first rest below in omega (arith, less, high)
inside stamp first rest low high (inr above) = let more = above.0 in omega (arith, more, low)

pub outside_beside : (writer stamp : ℕ) (es : List Entry) (first : Entry) → slice_get es 0 ≡ Some first → AreInOrder writer es → (last_stamp 0 es < stamp) ⊎ (stamp < first.stamp) → AreBeside stamp es
outside_beside writer stamp es first at o out =
    let is = first_is es first at in
    subst (AreBeside stamp) (sym is.1) (outside writer stamp first is.0 (subst (AreInOrder writer) is.1 o) (subst (λ (l : List Entry). (last_stamp 0 l < stamp) ⊎ (stamp < first.stamp)) is.1 out))

pub inside_between : (stamp : ℕ) (es : List Entry) (first : Entry) → slice_get es 0 ≡ Some first → first.stamp ≤ stamp → stamp ≤ last_stamp 0 es → AreBeside stamp es → ⊥
inside_between stamp es first at low high beside =
    let is = first_is es first at in
    inside stamp first is.0 low (subst (λ (l : List Entry). stamp ≤ last_stamp 0 l) is.1 high) (subst (AreBeside stamp) is.1 beside)

pub none_there : (es : List Entry) → slice_get es 0 ≡ None → es ≡ []
none_there [] e = refl
none_there (x ∷ xs) e = absurd (cc)

-- ---- the entry at hand

-- what stands behind the last one
abbrev pub no_entry : Entry
no_entry = record { at = 0; len = 0; physical = 0; stamp = 0; writer = 0 }

abbrev pub entry_at : List Entry → ℕ → Entry
entry_at entries i = get_or entries i no_entry

pub at_hand : (entries : List Entry) (i : ℕ) → i < length entries → slice_get entries i ≡ Some (entry_at entries i)
at_hand entries i less = slice_get-get_or entries i no_entry less

pub ordered : (writer : ℕ) (entries : List Entry) → AreInOrder writer entries → AreOrdered entries
ordered writer entries are = record { writer = writer; are = are }

pub ordered_front : (writer n : ℕ) (entries : List Entry) → AreInOrder writer entries → AreOrdered (take n entries)
ordered_front writer n entries are = record { writer = writer; are = order_front writer n entries are }

pub so_far_next : (all : List Entry) (rest after : List ℕ) (entries more : List Entry) → 40 ≤ length rest → after ≡ drop 40 rest → more ≡ entries ++ entry_in rest ∷ [] → AreSoFar all rest entries → AreSoFar all after more
so_far_next all rest after entries more long back pushed so_far =
    ap (λ (l : List Entry). l ++ whole_entries after) pushed ∙ ap (λ (l : List ℕ). (entries ++ entry_in rest ∷ []) ++ whole_entries l) back ∙ so_far_more all rest entries long so_far
