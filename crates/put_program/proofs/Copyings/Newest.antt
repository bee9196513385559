-- Changes that are all older than others stand behind them.
use Rattle.std.proofs.Common.{◌≡◌, ◌⊎◌, inl, inr, ℕ, ◌-◌, ◌<◌, true, false, List, [], ◌∷◌, ◌++◌, length, replicate, refl, sym, ap, ◌∙◌, subst, arith}
use Rattle.std.specs.Prelude.{if◌then◌else◌}
use Rattle.std.specs.List.{AllByRecursion}
use Rattle.std.specs.Ordering.{is_lt, nat_cmp}
use Rattle.std.specs.declared.cmp.Ordering.TheVariants.{Less, Greater}
use Rattle.std.specs.Cmp.{nat_cmp_is}
use Rattle.std.proofs.lemmas.List.{append-nil}
use Rattle.plfs_types.specs.declared.entries.Trunc.{Trunc}
use Rattle.plain_file.specs.declared.changes.Change.{Change}
use Rattle.plain_file.specs.declared.changes.Change.TheVariants.{Truncate}
use Rattle.plain_file.specs.File.{applied, file_after, sized}
use Rattle.plain_file.specs.Order.{change_cmp, insert_change, newest_first, rank_of}
use Rattle.plain_file.proofs.Facts.{Among}

abbrev pub stamp_of : Change → ℕ
stamp_of c = (rank_of c).stamp

-- the stamp of the first is lower
abbrev pub IsBefore : Change → Change → Type 0
IsBefore c d = stamp_of c < stamp_of d

less_is : (a b : ℕ) → a < b → nat_cmp a b ≡ Less
less_is a b less = sym (nat_cmp_is a b Less less)

greater_is : (a b : ℕ) → b < a → nat_cmp a b ≡ Greater
greater_is a b more = sym (nat_cmp_is a b Greater more)

before_is : (c d : Change) → IsBefore c d → is_lt (change_cmp c d) ≡ true
before_is c d before = rw (less_is (stamp_of c) (stamp_of d) before) refl

behind_is : (c d : Change) → IsBefore d c → is_lt (change_cmp c d) ≡ false
behind_is c d before = rw (greater_is (stamp_of c) (stamp_of d) before) refl

-- ---- what holds of all holds of all in their order

pub all_inserted : (P : Change → Type 0) (c : Change) (changes : List Change) → P c → AllByRecursion P changes → AllByRecursion P (insert_change c changes)
all_inserted P c [] one all = (one, tt)
all_inserted P c (d ∷ changes) one all = elim (is_lt (change_cmp c d)) as (λ b. AllByRecursion P (if b then d ∷ insert_change c changes else c ∷ d ∷ changes)) [
  | true ↦ (all.0, all_inserted P c changes one all.1)
  | false ↦ (one, all)
]

pub all_sorted : (P : Change → Type 0) (changes : List Change) → AllByRecursion P changes → AllByRecursion P (newest_first changes)
all_sorted P [] all = tt
all_sorted P (c ∷ changes) all = all_inserted P c (newest_first changes) all.0 (all_sorted P changes all.1)

-- ---- older ones stand behind

-- one that is older than each of the first goes behind them
old_passes : (c : Change) (first rest : List Change) → AllByRecursion (IsBefore c) first → insert_change c (first ++ rest) ≡ first ++ insert_change c rest
old_passes c [] rest all = refl
old_passes c (d ∷ first) rest all = rw (before_is c d all.0) (ap (λ (l : List Change). d ∷ l) (old_passes c first rest all.1))

-- one that is older than all goes last
pub insert_last : (c : Change) (changes : List Change) → AllByRecursion (IsBefore c) changes → insert_change c changes ≡ changes ++ c ∷ []
insert_last c changes all = ap (insert_change c) (sym (append-nil changes)) ∙ old_passes c changes [] all

-- one that is newer than each of the last goes among the first
new_stays : (c : Change) (first rest : List Change) → AllByRecursion (λ (d : Change). IsBefore d c) rest → insert_change c (first ++ rest) ≡ insert_change c first ++ rest
new_stays c [] [] all = refl
new_stays c [] (d ∷ rest) all = rw (behind_is c d all.0) refl
new_stays c (d ∷ first) rest all = elim (is_lt (change_cmp c d)) as (λ b. (if b then d ∷ insert_change c (first ++ rest) else c ∷ d ∷ (first ++ rest)) ≡ (if b then d ∷ insert_change c first else c ∷ d ∷ first) ++ rest) [
  | true ↦ ap (λ (l : List Change). d ∷ l) (new_stays c first rest all)
  | false ↦ refl
]

-- each of the old ones is older than each of the new ones
abbrev pub AreBefore : List Change → List Change → Type 0
AreBefore olds news = AllByRecursion (λ (c : Change). AllByRecursion (IsBefore c) news) olds

last_before : (d : Change) (news olds : List Change) → AreBefore olds (d ∷ news) → AllByRecursion (λ (c : Change). IsBefore c d) olds × AreBefore olds news
last_before d news [] all = (tt, tt)
last_before d news (c ∷ olds) all = (let rest = last_before d news olds all.1 in ((all.0.0, rest.0), (all.0.1, rest.1)))

news_first : (news olds : List Change) → AreBefore olds news → newest_first (news ++ olds) ≡ newest_first news ++ newest_first olds
news_first [] olds all = refl
news_first (d ∷ news) olds all =
    let parts = last_before d news olds all in
    ap (insert_change d) (news_first news olds parts.1) ∙ new_stays d (newest_first news) (newest_first olds) (all_sorted (λ (c : Change). IsBefore c d) olds parts.0)

pub olds_last : (first news rest : List Change) → AreBefore first news → AreBefore rest news → newest_first (first ++ (news ++ rest)) ≡ newest_first news ++ newest_first (first ++ rest)
olds_last [] news rest one other = news_first news rest other
olds_last (c ∷ first) news rest one other =
    ap (insert_change c) (olds_last first news rest one.1 other)
    ∙ old_passes c (newest_first news) (newest_first (first ++ rest)) (all_sorted (IsBefore c) news one.0)

-- ---- a truncate to nothing hides what is older

-- it is older than the truncate, or the same
abbrev pub IsHiddenBy : Trunc → Change → Type 0
IsHiddenBy t c = IsBefore c (Truncate t) ⊎ (c ≡ Truncate t)

-- the truncate stands first
abbrev StandsFirst : Trunc → List Change → Type 0
StandsFirst t changes = (rest : List Change) × (changes ≡ Truncate t ∷ rest)

same_first : (t : Trunc) (rest : List Change) → StandsFirst t (insert_change (Truncate t) (Truncate t ∷ rest))
same_first t rest = elim (is_lt (change_cmp (Truncate t) (Truncate t))) as (λ b. StandsFirst t (if b then Truncate t ∷ insert_change (Truncate t) rest else Truncate t ∷ Truncate t ∷ rest)) [
  | true ↦ (insert_change (Truncate t) rest, refl)
  | false ↦ (Truncate t ∷ rest, refl)
]

first_over : (t : Trunc) (changes : List Change) → AllByRecursion (IsHiddenBy t) changes → StandsFirst t (insert_change (Truncate t) changes)
first_over t [] all = ([], refl)
first_over t (c ∷ rest) (inl before, all) = (c ∷ rest, rw (behind_is (Truncate t) c before) refl)
first_over t (c ∷ rest) (inr same, all) = subst (λ (d : Change). StandsFirst t (insert_change (Truncate t) (d ∷ rest))) (sym same) (same_first t rest)

stays_first : (t : Trunc) (c : Change) (changes : List Change) → IsHiddenBy t c → StandsFirst t changes → StandsFirst t (insert_change c changes)
stays_first t c changes (inl before) (rest, is) = (insert_change c rest, ap (insert_change c) is ∙ rw (before_is c (Truncate t) before) refl)
stays_first t c changes (inr same) (rest, is) =
    subst (λ (d : Change). StandsFirst t (insert_change d changes)) (sym same) (subst (λ (l : List Change). StandsFirst t (insert_change (Truncate t) l)) (sym is) (same_first t rest))

stands_first : (t : Trunc) (changes : List Change) → AllByRecursion (IsHiddenBy t) changes → Among (Truncate t) changes → StandsFirst t (newest_first changes)
stands_first t [] all among = absurd among
stands_first t (c ∷ changes) all (inl here) = subst (λ (d : Change). StandsFirst t (insert_change d (newest_first changes))) here (first_over t (newest_first changes) (all_sorted (IsHiddenBy t) changes all.1))
stands_first t (c ∷ changes) all (inr later) = stays_first t c (newest_first changes) all.0 (stands_first t changes all.1 later)

none_padded : (n : ℕ) → replicate {A = ℕ} (0 - n) 0 ≡ []
none_padded n = (let none : 0 - n ≡ 0 = omega arith in ap (λ (k : ℕ). replicate {A = ℕ} k 0) none)

cut_to_nothing : (t : Trunc) (file : List ℕ) → t.size ≡ 0 → applied file (Truncate t) ≡ []
cut_to_nothing t file none = ap (λ n. sized n file) none ∙ none_padded (length file)

pub all_hidden : (t : Trunc) (changes : List Change) → t.size ≡ 0 → AllByRecursion (IsHiddenBy t) changes → Among (Truncate t) changes → file_after (newest_first changes) ≡ []
all_hidden t changes none all among = (let first = stands_first t changes all among in ap file_after first.1 ∙ cut_to_nothing t (file_after first.0) none)
