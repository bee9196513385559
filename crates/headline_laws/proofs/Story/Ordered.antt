-- The lines of an actor that ended before a line, and those that began by its end, are the first of the actor's lines.
use Rattle.std.proofs.Common.{◌≡◌, ◌≤◌, ◌<◌, ◌⊎◌, ◌+◌, ◌&&◌, ◌||◌, inl, inr, ℕ, Bool, true, false, nat_eq, nat_lt, List, [], ◌∷◌, ◌++◌, map, filter, refl, sym, ap, ◌∙◌, subst, arith, if◌then◌else◌}
use Rattle.std.specs.Prelude.{not}
use Rattle.std.specs.List.{AllByRecursion}
use Rattle.std.proofs.lemmas.Bool.Decides.{nat_tests}
use Rattle.script_lang.specs.declared.line.Line.{Line}
use Rattle.script_lang.specs.declared.script.Numbered.{Numbered}
use Rattle.script_lang.specs.declared.script.Phase.{Phase}
use Rattle.plain_file.proofs.Facts.{Among}
use Rattle.headline.specs.Run.{Phased, Run, Told, before, beside, own, phased, so_far, surely_before, told}
use Rattle.headline_laws.proofs.OrderlyLines.Answering.{own_actor}
use Rattle.headline_laws.proofs.Story.Apart.{both_true, is_less, is_same, one_true}
use Rattle.headline_laws.proofs.Story.Attributed.{either_part}

-- ---- lines by rising place and phase

abbrev pub IsBehind : Told → Told → Type 0
IsBehind t s = (t.place < s.place) × (t.phase ≤ s.phase)

abbrev pub Ordered : List Told → Type 0
Ordered [] = Unit {0}
Ordered (t ∷ ts) = AllByRecursion (IsBehind t) ts × Ordered ts

abbrev PhasesRise : ℕ → List Phased → Type 0
PhasesRise phase [] = Unit {0}
PhasesRise phase (s ∷ ss) = (phase ≤ s.phase) × PhasesRise s.phase ss

sooner : (phase later : ℕ) (ss : List Phased) → phase ≤ later → PhasesRise later ss → PhasesRise phase ss
sooner phase later [] le rise = tt
sooner phase later (s ∷ ss) le rise = (omega (arith, le, rise.0), rise.1)

in_phase : (phase : ℕ) (ss : List Numbered) (later : List Phased) → PhasesRise phase later → PhasesRise phase (map (λ (s : Numbered). record { phase = phase; is = s }) ss ++ later)
in_phase phase [] later rise = rise
in_phase phase (s ∷ ss) later rise = (omega arith, in_phase phase ss later rise)

phases_rise : (phase : ℕ) (phases : List Phase) → PhasesRise phase (phased phase phases)
phases_rise phase [] = tt
phases_rise phase (first ∷ later) = in_phase phase first.statements (phased (phase + 1) later) (sooner phase (phase + 1) (phased (phase + 1) later) (omega arith) (phases_rise (phase + 1) later))

all_from : (before : Told) (place phase : ℕ) (ss : List Phased) (lines : List Line) → before.place < place → before.phase ≤ phase → PhasesRise phase ss → AllByRecursion (IsBehind before) (beside place ss lines)
all_from before place phase [] lines far late rise = tt
all_from before place phase (s ∷ ss) [] far late rise = tt
all_from before place phase (s ∷ ss) (l ∷ lines) far late rise = ((far, omega (arith, late, rise.0)), all_from before (place + 1) s.phase ss lines (omega (arith, far)) (omega (arith, late, rise.0)) rise.1)

beside_ordered : (place phase : ℕ) (ss : List Phased) (lines : List Line) → PhasesRise phase ss → Ordered (beside place ss lines)
beside_ordered place phase [] lines rise = tt
beside_ordered place phase (s ∷ ss) [] rise = tt
beside_ordered place phase (s ∷ ss) (l ∷ lines) rise =
    let t : Told = record { phase = s.phase; place = place; actor = s.is.actor; statement = s.is.statement; outcome = l.outcome } in
    (all_from t (place + 1) s.phase ss lines (omega arith) (omega arith) rise.1, beside_ordered (place + 1) s.phase ss lines rise.1)

pub told_ordered : (run : Run) → Ordered (told run)
told_ordered run = beside_ordered 0 0 (phased 0 run.script.phases) run.lines (phases_rise 0 run.script.phases)

all_filter : (P : Told → Type 0) (p : Told → Bool) (ts : List Told) → AllByRecursion P ts → AllByRecursion P (filter p ts)
all_filter P p [] all = tt
all_filter P p (t ∷ ts) all = elim (p t) as (λ b. AllByRecursion P (if b then t ∷ filter p ts else filter p ts)) [
  | true ↦ (all.0, all_filter P p ts all.1)
  | false ↦ all_filter P p ts all.1
]

filter_ordered : (p : Told → Bool) (ts : List Told) → Ordered ts → Ordered (filter p ts)
filter_ordered p [] ordered = tt
filter_ordered p (t ∷ ts) ordered = elim (p t) as (λ b. Ordered (if b then t ∷ filter p ts else filter p ts)) [
  | true ↦ (all_filter (IsBehind t) p ts ordered.0, filter_ordered p ts ordered.1)
  | false ↦ filter_ordered p ts ordered.1
]

-- ---- a front of lines

-- these are the first lines, and they alone are so
pub record Front (p : Told → Bool) (xs : List Told) : Type 0 where
  pub front : List Told
  pub rest : List Told
  pub is : xs ≡ front ++ rest
  pub kept : filter p xs ≡ front
  pub good : AllByRecursion (λ (s : Told). p s ≡ true) front
  pub bad : AllByRecursion (λ (s : Told). p s ≡ false) rest

none_kept : (p : Told → Bool) (xs : List Told) → AllByRecursion (λ (s : Told). p s ≡ false) xs → filter p xs ≡ []
none_kept p [] bad = refl
none_kept p (x ∷ xs) bad = ap (λ b. if b then x ∷ filter p xs else filter p xs) bad.0 ∙ none_kept p xs bad.1

-- behind one that isn't so none is
abbrev pub Falls : (Told → Bool) → List Told → Type 0
Falls p [] = Unit {0}
Falls p (x ∷ xs) = (p x ≡ false → AllByRecursion (λ (s : Told). p s ≡ false) xs) × Falls p xs

pub front_of : (p : Told → Bool) (xs : List Told) → Falls p xs → Front p xs
front_of p [] falls = record { front = []; rest = []; is = refl; kept = refl; good = tt; bad = tt }
front_of p (x ∷ xs) falls = by (p x) refl (front_of p xs falls.1)
  where
    by : (b : Bool) → p x ≡ b → Front p xs → Front p (x ∷ xs)
    by true is f = record { front = x ∷ f.front; rest = f.rest; is = ap (λ z. x ∷ z) f.is; kept = ap (λ b. if b then x ∷ filter p xs else filter p xs) is ∙ ap (λ z. x ∷ z) f.kept; good = (is, f.good); bad = f.bad }
    by false is f = let none = falls.0 is in record { front = []; rest = x ∷ xs; is = refl; kept = none_kept p (x ∷ xs) (is, none); good = tt; bad = (is, none) }

-- one filter after the other
swapped : (p q : Told → Bool) (xs : List Told) → filter q (filter p xs) ≡ filter p (filter q xs)
swapped p q [] = refl
swapped p q (x ∷ xs) = elim (p x) as (λ b. p x ≡ b → filter q (if b then x ∷ filter p xs else filter p xs) ≡ filter p (if q x then x ∷ filter q xs else filter q xs)) [
  | true ↦ λ is. elim (q x) as (λ c. (if c then x ∷ filter q (filter p xs) else filter q (filter p xs)) ≡ filter p (if c then x ∷ filter q xs else filter q xs)) [
    | true ↦ ap (λ z. x ∷ z) (swapped p q xs) ∙ sym (ap (λ b. if b then x ∷ filter p (filter q xs) else filter p (filter q xs)) is)
    | false ↦ swapped p q xs
  ]
  | false ↦ λ is. elim (q x) as (λ c. filter q (filter p xs) ≡ filter p (if c then x ∷ filter q xs else filter q xs)) [
    | true ↦ swapped p q xs ∙ sym (ap (λ b. if b then x ∷ filter p (filter q xs) else filter p (filter q xs)) is)
    | false ↦ swapped p q xs
  ]
] refl

-- ---- those before a line, and those that began by its end

less_true : (a b : ℕ) → a < b → nat_lt a b ≡ true
less_true a b le = grind (arith, nat_tests)

same_true : (a b : ℕ) → a ≡ b → nat_eq a b ≡ true
same_true a b is = grind (arith, nat_tests)

and_true : (a b : Bool) → a ≡ true → b ≡ true → (a && b) ≡ true
and_true a b is other = ap (λ x. x && b) is ∙ other

or_second : (a b c : Bool) → b ≡ true → (a || b || c) ≡ true
or_second true b c is = refl
or_second false b c is = ap (λ x. x || c) is

or_third : (a b c : Bool) → c ≡ true → (a || b || c) ≡ true
or_third true b c is = refl
or_third false true c is = refl
or_third false false c is = is

is_false : (b : Bool) → (b ≡ true → ⊥) → b ≡ false
is_false true no_so = absurd (no_so refl)
is_false false no_so = refl

not_true : (b : Bool) → not b ≡ true → b ≡ false
not_true true is = absurd (cc)
not_true false is = refl

not_false : (b : Bool) → not b ≡ false → b ≡ true
not_false true is = refl
not_false false is = absurd (cc)

module _ (run : Run) (free : run.in_order ≡ false) (t : Told) where
  -- what surely before means
  pub sooner_is : (s r : Told) → surely_before run s r ≡ true → (s.place < r.place) × ((s.phase < r.phase) ⊎ (s.actor ≡ r.actor))
  sooner_is s r is =
      let b = both_true (nat_lt s.place r.place) (run.in_order || nat_lt s.phase r.phase || nat_eq s.actor r.actor) is in (
        is_less s.place r.place b.0,
        elim (one_true run.in_order (nat_lt s.phase r.phase) (nat_eq s.actor r.actor) free b.1) as (λ _. (s.phase < r.phase) ⊎ (s.actor ≡ r.actor)) [
          | inl phases ↦ inl (is_less s.phase r.phase phases)
          | inr same ↦ inr (is_same s.actor r.actor same)
        ],
      )

  pub is_sooner : (s r : Told) → s.place < r.place → (s.phase < r.phase) ⊎ (s.actor ≡ r.actor) → surely_before run s r ≡ true
  is_sooner s r far (inl phases) = and_true (nat_lt s.place r.place) (run.in_order || nat_lt s.phase r.phase || nat_eq s.actor r.actor) (less_true s.place r.place far) (or_second run.in_order (nat_lt s.phase r.phase) (nat_eq s.actor r.actor) (less_true s.phase r.phase phases))
  is_sooner s r far (inr same) = and_true (nat_lt s.place r.place) (run.in_order || nat_lt s.phase r.phase || nat_eq s.actor r.actor) (less_true s.place r.place far) (or_third run.in_order (nat_lt s.phase r.phase) (nat_eq s.actor r.actor) (same_true s.actor r.actor same))

  -- what is before isn't behind
  pub not_behind : (s r : Told) → surely_before run s r ≡ true → surely_before run r s ≡ false
  not_behind s r sooner = by (surely_before run r s) refl
    where
      by : (x : Bool) → surely_before run r s ≡ x → surely_before run r s ≡ false
      by false is = is
      by true is = (let far = (sooner_is r s is).0 in let near = (sooner_is s r sooner).0 in absurd (omega (arith, far, near)))

  abbrev pub ends_before : Told → Bool
  ends_before s = surely_before run s t

  abbrev pub has_begun : Told → Bool
  has_begun s = not (surely_before run t s)

  abbrev IsOf : ℕ → Told → Type 0
  IsOf actor s = s.actor ≡ actor

  -- behind one that isn't surely before none is
  before_falls : (actor : ℕ) (xs : List Told) → Ordered xs → AllByRecursion (IsOf actor) xs → Falls ends_before xs
  before_falls actor [] ordered own_ones = tt
  before_falls actor (x ∷ xs) ordered own_ones = (λ is. none xs is ordered.0 own_ones.1, before_falls actor xs ordered.1 own_ones.1)
    where
      earlier : (s : Told) → IsBehind x s → IsOf actor s → ends_before s ≡ true → ends_before x ≡ true
      earlier s behind its is =
          let b = sooner_is s t is in
          let far : x.place < t.place = omega (arith, behind.0, b.0) in
          is_sooner x t far (elim b.1 as (λ _. (x.phase < t.phase) ⊎ (x.actor ≡ t.actor)) [
            | inl phases ↦ inl (let late = behind.1 in omega (arith, late, phases))
            | inr same ↦ inr (own_ones.0 ∙ sym its ∙ same)
          ])

      clash : (b : Bool) → b ≡ true → b ≡ false → ⊥
      clash b on off = cc

      none : (ss : List Told) → ends_before x ≡ false → AllByRecursion (IsBehind x) ss → AllByRecursion (IsOf actor) ss → AllByRecursion (λ (s : Told). ends_before s ≡ false) ss
      none [] is behind its = tt
      none (s ∷ ss) is behind its = (is_false (ends_before s) (λ on. clash (ends_before x) (earlier s behind.0 its.0 on) is), none ss is behind.1 its.1)

  begun_falls : (actor : ℕ) (xs : List Told) → Ordered xs → AllByRecursion (IsOf actor) xs → Falls has_begun xs
  begun_falls actor [] ordered own_ones = tt
  begun_falls actor (x ∷ xs) ordered own_ones = (λ is. none xs (not_false (surely_before run t x) is) ordered.0 own_ones.1, begun_falls actor xs ordered.1 own_ones.1)
    where
      later : (s : Told) → IsBehind x s → IsOf actor s → surely_before run t x ≡ true → surely_before run t s ≡ true
      later s behind its is =
          let b = sooner_is t x is in
          let far : t.place < s.place = omega (arith, behind.0, b.0) in
          is_sooner t s far (elim b.1 as (λ _. (t.phase < s.phase) ⊎ (t.actor ≡ s.actor)) [
            | inl phases ↦ inl (let late = behind.1 in omega (arith, late, phases))
            | inr same ↦ inr (same ∙ own_ones.0 ∙ sym its)
          ])

      none : (ss : List Told) → surely_before run t x ≡ true → AllByRecursion (IsBehind x) ss → AllByRecursion (IsOf actor) ss → AllByRecursion (λ (s : Told). has_begun s ≡ false) ss
      none [] is behind its = tt
      none (s ∷ ss) is behind its = (ap not (later s behind.0 its.0 is), none ss is behind.1 its.1)

  owns_all : (actor : ℕ) (ts : List Told) → ((s : Told) → Among s ts → IsOf actor s) → AllByRecursion (IsOf actor) ts
  owns_all actor [] each = tt
  owns_all actor (t ∷ ts) each = (each t (inl refl), owns_all actor ts (λ s at. each s (inr at)))

  pub own_ordered : (actor : ℕ) → Ordered (own actor (told run))
  own_ordered actor = filter_ordered (λ (s : Told). nat_eq s.actor actor) (told run) (told_ordered run)

  own_all : (actor : ℕ) → AllByRecursion (IsOf actor) (own actor (told run))
  own_all actor = owns_all actor (own actor (told run)) (λ s at. own_actor actor (told run) s at)

  -- the lines of an actor that ended before the line are the first of its lines
  pub ended_first : (actor : ℕ) → Front ends_before (own actor (told run))
  ended_first actor = front_of ends_before (own actor (told run)) (before_falls actor (own actor (told run)) (own_ordered actor) (own_all actor))

  pub ended_are : (actor : ℕ) → own actor (before run t) ≡ (ended_first actor).front
  ended_are actor = swapped ends_before (λ (s : Told). nat_eq s.actor actor) (told run) ∙ (ended_first actor).kept

  -- and so are those that began by its end
  pub begun_first : (actor : ℕ) → Front has_begun (own actor (told run))
  begun_first actor = front_of has_begun (own actor (told run)) (begun_falls actor (own actor (told run)) (own_ordered actor) (own_all actor))

  pub begun_are : (actor : ℕ) → own actor (so_far run t) ≡ (begun_first actor).front
  begun_are actor = swapped has_begun (λ (s : Told). nat_eq s.actor actor) (told run) ∙ (begun_first actor).kept

  -- of another actor, these are of earlier phases, and of later ones
  pub ended_phases : (actor : ℕ) (ss : List Told) → (actor ≡ t.actor → ⊥) → AllByRecursion (IsOf actor) ss → AllByRecursion (λ (s : Told). ends_before s ≡ true) ss → AllByRecursion (λ (s : Told). s.phase < t.phase) ss
  ended_phases actor [] apart own_ones all = tt
  ended_phases actor (s ∷ ss) apart own_ones all = (by (sooner_is s t all.0).1, ended_phases actor ss apart own_ones.1 all.1)
    where
      by : (s.phase < t.phase) ⊎ (s.actor ≡ t.actor) → s.phase < t.phase
      by (inl phases) = phases
      by (inr same) = absurd (apart (sym own_ones.0 ∙ same))

  pub begun_phases : (actor : ℕ) (ss : List Told) → (actor ≡ t.actor → ⊥) → AllByRecursion (IsOf actor) ss → AllByRecursion (λ (s : Told). has_begun s ≡ false) ss → AllByRecursion (λ (s : Told). t.phase + 1 ≤ s.phase) ss
  begun_phases actor [] apart own_ones all = tt
  begun_phases actor (s ∷ ss) apart own_ones all = (by (sooner_is t s (not_false (surely_before run t s) all.0)).1, begun_phases actor ss apart own_ones.1 all.1)
    where
      by : (t.phase < s.phase) ⊎ (t.actor ≡ s.actor) → t.phase + 1 ≤ s.phase
      by (inl phases) = omega (arith, phases)
      by (inr same) = absurd (apart (sym own_ones.0 ∙ sym same))

  pub all_own : (actor : ℕ) (xs ys : List Told) → own actor (told run) ≡ xs ++ ys → AllByRecursion (IsOf actor) xs × AllByRecursion (IsOf actor) ys
  all_own actor xs ys is = parts xs (subst (AllByRecursion (IsOf actor)) is (own_all actor))
    where
      parts : (zs : List Told) → AllByRecursion (IsOf actor) (zs ++ ys) → AllByRecursion (IsOf actor) zs × AllByRecursion (IsOf actor) ys
      parts [] all = (tt, all)
      parts (z ∷ zs) all = (let more = parts zs all.1 in ((all.0, more.0), more.1))

  not_both : (b : Bool) → b ≡ true → b ≡ false → ⊥
  not_both b on off = cc

  -- the line's own actor has begun those before it, and it
  pub begun_own : (rest : List Told) → own t.actor (told run) ≡ own t.actor (before run t) ++ t ∷ rest → own t.actor (so_far run t) ≡ own t.actor (before run t) ++ t ∷ []
  begun_own rest is = begun_are t.actor ∙ by (either_part f.front f.rest earlier t rest (sym f.is ∙ is))
    where
      f : Front has_begun (own t.actor (told run))
      f = begun_first t.actor

      earlier : List Told
      earlier = own t.actor (before run t)

      tail_ordered : (xs : List Told) → Ordered (xs ++ t ∷ rest) → AllByRecursion (IsBehind t) rest
      tail_ordered [] ordered = ordered.0
      tail_ordered (x ∷ xs) ordered = tail_ordered xs ordered.1

      behind : AllByRecursion (IsBehind t) rest
      behind = tail_ordered earlier (subst Ordered is (own_ordered t.actor))

      own_rest : AllByRecursion (IsOf t.actor) rest
      own_rest = (all_own t.actor earlier (t ∷ rest) is).1.1

      last_good : (xs : List Told) (x : Told) (u : List Told) → AllByRecursion (λ (s : Told). has_begun s ≡ true) (xs ++ t ∷ (x ∷ u)) → has_begun x ≡ true
      last_good [] x u good = good.1.0
      last_good (y ∷ xs) x u good = last_good xs x u good.1

      first_bad : (u : List Told) → AllByRecursion (λ (s : Told). has_begun s ≡ false) (u ++ t ∷ rest) → has_begun t ≡ false
      first_bad [] bad = bad.0
      first_bad (y ∷ u) bad = first_bad u bad.1

      ends_there : (u : List Told) → f.front ≡ earlier ++ t ∷ u → rest ≡ u ++ f.rest → f.front ≡ earlier ++ t ∷ []
      ends_there [] front_is rest_is = front_is
      ends_there (x ∷ u) front_is rest_is =
          let far = (subst (AllByRecursion (IsBehind t)) rest_is behind).0 in
          let same = (subst (AllByRecursion (IsOf t.actor)) rest_is own_rest).0 in
          let later : surely_before run t x ≡ true = is_sooner t x far.0 (inr (sym same)) in
          absurd (not_both (has_begun x) (last_good earlier x u (subst (AllByRecursion (λ (s : Told). has_begun s ≡ true)) front_is f.good)) (ap not later))

      by : ((u : List Told) × (f.front ≡ earlier ++ t ∷ u) × (rest ≡ u ++ f.rest)) ⊎ ((u : List Told) × (earlier ≡ f.front ++ u) × (f.rest ≡ u ++ t ∷ rest)) → f.front ≡ earlier ++ t ∷ []
      by (inl (u, front_is, rest_is)) = ends_there u front_is rest_is
      by (inr (u, front_is, rest_is)) =
          let late : surely_before run t t ≡ true = not_false (surely_before run t t) (first_bad u (subst (AllByRecursion (λ (s : Told). has_begun s ≡ false)) rest_is f.bad)) in
          let far = (sooner_is t t late).0 in
          absurd (omega (arith, far))
