-- Who holds a room, and flattenings, once one of them has changed.
use Rattle.std.proofs.Common.{◌≡◌, ℕ, ◌<◌, List, [], ◌∷◌, ◌++◌, map, filter, not, ◌==◌, true, false, nat_eq, ◌||◌, Some, None, refl, sym, ap, ◌∙◌, ◌⊎◌, inl, inr, subst, arith, if◌then◌else◌}
use Rattle.std.specs.List.{All}
use Rattle.std.proofs.lemmas.List.Elements.{All-nil, All-cons, All-head, All-tail, All-map, All-weaker}
use Rattle.mount_model.specs.declared.row.Holder.{Holder}
use Rattle.mount_model.specs.declared.row.Flattening.{Flattening}
use Rattle.mount_model.specs.Table.{holder_at, without_holder, is_held_room, flattening_at, with_flattening, without_flattening}
use Rattle.mount_model.specs.Regular.{Ascend}
use Rattle.mount_model.proofs.Tables.{alike, apart, differ, itself}

abbrev numbers_of : List Holder → List ℕ
numbers_of holders = map (λ (h : Holder). h.number) holders

abbrev ids_of : List Flattening → List ℕ
ids_of flattenings = map (λ (f : Flattening). f.id) flattenings

-- ---- ascending numbers

-- what holds of each number holds of each that has one
pub all-unmap : {X : Type 0} (P : ℕ → Type 0) (of : X → ℕ) (xs : List X) → All P (map of xs) → All (λ (x : X). P (of x)) xs
all-unmap P of [] all = All-nil (λ x. P (of x))
all-unmap P of (x ∷ xs) all = All-cons (λ x. P (of x)) x xs (All-head P (of x) (map of xs) all) (all-unmap P of xs (All-tail P (of x) (map of xs) all))

above_one : (x new : ℕ) (numbers : List ℕ) → All (λ later. x < later) numbers → x < new → All (λ later. x < later) (numbers ++ new ∷ [])
above_one x new [] all less = All-cons (λ later. x < later) new [] less (All-nil (λ later. x < later))
above_one x new (y ∷ numbers) all less =
    All-cons (λ later. x < later) y (numbers ++ new ∷ []) (All-head (λ later. x < later) y numbers all)
    (above_one x new numbers (All-tail (λ later. x < later) y numbers all) less)

pub ascend-push : (numbers : List ℕ) (new : ℕ) → All (λ number. number < new) numbers → Ascend numbers → Ascend (numbers ++ new ∷ [])
ascend-push [] new below a = (All-nil (λ later. new < later), tt)
ascend-push (x ∷ numbers) new below a = (
  above_one x new numbers a.0 (All-head (λ number. number < new) x numbers below),
  ascend-push numbers new (All-tail (λ number. number < new) x numbers below) a.1,
)

-- numbers above one, or below it, are not it
above_apart : (number : ℕ) (numbers : List ℕ) → All (λ later. number < later) numbers → All (λ other. other ≡ number → ⊥) numbers
above_apart number numbers all = All-weaker (λ later. number < later) (λ other. other ≡ number → ⊥) (λ other less same. omega (arith, less, same)) numbers all

-- ---- who is found to hold a room

-- it has the number
pub holder_at_number : (number : ℕ) (holders : List Holder) (h : Holder) → holder_at number holders ≡ Some h → h.number ≡ number
holder_at_number number [] h e = absurd (cc)
holder_at_number number (x ∷ holders) h e = elim (nat_eq x.number number) as (λ b. nat_eq x.number number ≡ b → (if b then Some x else holder_at number holders) ≡ Some h → h.number ≡ number) [
  | true ↦ λ t f. let same : x ≡ h = cc in subst (λ (y : Holder). y.number ≡ number) same (alike x.number number t)
  | false ↦ λ t f. holder_at_number number holders h f
] refl e

-- what holds of all who hold a room holds of it
pub holder_at_all : (P : Holder → Type 0) (number : ℕ) (holders : List Holder) (h : Holder) → All P holders → holder_at number holders ≡ Some h → P h
holder_at_all P number [] h all e = absurd (cc)
holder_at_all P number (x ∷ holders) h all e = elim (nat_eq x.number number) as (λ b. (if b then Some x else holder_at number holders) ≡ Some h → P h) [
  | true ↦ λ f. let same : x ≡ h = cc in subst P same (All-head P x holders all)
  | false ↦ λ f. holder_at_all P number holders h (All-tail P x holders all) f
] e

-- none is found of a number that none has
pub holder_at_none : (number : ℕ) (holders : List Holder) → All (λ (h : Holder). h.number ≡ number → ⊥) holders → holder_at number holders ≡ None
holder_at_none number [] all = refl
holder_at_none number (x ∷ holders) all = elim (nat_eq x.number number) as (λ b. nat_eq x.number number ≡ b → (if b then Some x else holder_at number holders) ≡ None) [
  | true ↦ λ t. absurd (All-head (λ (h : Holder). h.number ≡ number → ⊥) x holders all (alike x.number number t))
  | false ↦ λ t. holder_at_none number holders (All-tail (λ (h : Holder). h.number ≡ number → ⊥) x holders all)
] refl

-- where nobody holds a room, it is another one that each of them holds
pub not_held : (room : ℕ) (holders : List Holder) → is_held_room room holders ≡ false → All (λ (h : Holder). h.room ≡ room → ⊥) holders
not_held room [] e = All-nil (λ (h : Holder). h.room ≡ room → ⊥)
not_held room (x ∷ holders) e = elim (nat_eq x.room room) as (λ b. nat_eq x.room room ≡ b → (b || is_held_room room holders) ≡ false → All (λ (h : Holder). h.room ≡ room → ⊥) (x ∷ holders)) [
  | true ↦ λ t f. absurd (cc)
  | false ↦ λ t f. All-cons (λ (h : Holder). h.room ≡ room → ⊥) x holders (apart x.room room t) (not_held room holders f)
] refl e

-- ---- who holds a room is taken out

pub holder_at_other-without_holder : (number : ℕ) (holders : List Holder) (q : ℕ) → (q ≡ number → ⊥) → holder_at q (without_holder number holders) ≡ holder_at q holders
holder_at_other-without_holder number [] q other = refl
holder_at_other-without_holder number (x ∷ holders) q other = elim (nat_eq x.number number) as (λ b. nat_eq x.number number ≡ b → holder_at q (if b then holders else x ∷ without_holder number holders) ≡ holder_at q (x ∷ holders)) [
  | true ↦ λ t. let there : nat_eq x.number q ≡ false = differ q x.number (λ s. other (s ∙ alike x.number number t)) in rw there refl
  | false ↦ λ t. elim (nat_eq x.number q) as (λ b. (if b then Some x else holder_at q (without_holder number holders)) ≡ (if b then Some x else holder_at q holders)) [ true ↦ refl | false ↦ holder_at_other-without_holder number holders q other ]
] refl

pub all-without_holder : (P : Holder → Type 0) (number : ℕ) (holders : List Holder) → All P holders → All P (without_holder number holders)
all-without_holder P number [] all = All-nil P
all-without_holder P number (x ∷ holders) all = elim (nat_eq x.number number) as (λ b. All P (if b then holders else x ∷ without_holder number holders)) [
  | true ↦ All-tail P x holders all
  | false ↦ All-cons P x (without_holder number holders) (All-head P x holders all) (all-without_holder P number holders (All-tail P x holders all))
]

-- what holds of each number of theirs, or of each room, holds of each that is left
pub all_of-without_holder : (P : ℕ → Type 0) (of : Holder → ℕ) (number : ℕ) (holders : List Holder) → All P (map of holders) → All P (map of (without_holder number holders))
all_of-without_holder P of number holders all = All-map P of (without_holder number holders) (all-without_holder (λ (h : Holder). P (of h)) number holders (all-unmap P of holders all))

pub ascend-without_holder : (number : ℕ) (holders : List Holder) → Ascend (numbers_of holders) → Ascend (numbers_of (without_holder number holders))
ascend-without_holder number [] a = tt
ascend-without_holder number (x ∷ holders) a = elim (nat_eq x.number number) as (λ b. Ascend (numbers_of (if b then holders else x ∷ without_holder number holders))) [
  | true ↦ a.1
  | false ↦ (all_of-without_holder (λ later. x.number < later) (λ (h : Holder). h.number) number holders a.0, ascend-without_holder number holders a.1)
]

-- nobody holds by its number then
pub holder_at-without_holder : (number : ℕ) (holders : List Holder) → Ascend (numbers_of holders) → holder_at number (without_holder number holders) ≡ None
holder_at-without_holder number [] a = refl
holder_at-without_holder number (x ∷ holders) a = elim (nat_eq x.number number) as (λ b. nat_eq x.number number ≡ b → holder_at number (if b then holders else x ∷ without_holder number holders) ≡ None) [
  | true ↦ λ t. holder_at_none number holders
      (subst (λ n. All (λ (h : Holder). h.number ≡ n → ⊥) holders) (alike x.number number t)
      (all-unmap (λ n. n ≡ x.number → ⊥) (λ (h : Holder). h.number) holders (above_apart x.number (numbers_of holders) a.0)))
  | false ↦ λ t. rw t (holder_at-without_holder number holders a.1)
] refl

-- ---- who holds a room is added

pub holder_at_other-push : (holders : List Holder) (new : Holder) (q : ℕ) → (q ≡ new.number → ⊥) → holder_at q (holders ++ new ∷ []) ≡ holder_at q holders
holder_at_other-push [] new q other = let t : nat_eq new.number q ≡ false = differ q new.number other in rw t refl
holder_at_other-push (x ∷ holders) new q other = elim (nat_eq x.number q) as (λ b. (if b then Some x else holder_at q (holders ++ new ∷ [])) ≡ (if b then Some x else holder_at q holders)) [ true ↦ refl | false ↦ holder_at_other-push holders new q other ]

-- where nobody held by its number, it is found
pub holder_at-push : (holders : List Holder) (new : Holder) → holder_at new.number holders ≡ None → holder_at new.number (holders ++ new ∷ []) ≡ Some new
holder_at-push [] new e = rw (itself new.number) refl
holder_at-push (x ∷ holders) new e = elim (nat_eq x.number new.number) as (λ b. (if b then Some x else holder_at new.number holders) ≡ None → (if b then Some x else holder_at new.number (holders ++ new ∷ [])) ≡ Some new) [
  | true ↦ λ f. absurd (cc)
  | false ↦ λ f. holder_at-push holders new f
] e

-- ---- who was found before

-- who is found once one is taken out held before, by another number
pub held_before-without_holder : (number : ℕ) (holders : List Holder) (q : ℕ) (h : Holder) → Ascend (numbers_of holders) → holder_at q (without_holder number holders) ≡ Some h
    → (q ≡ number → ⊥) × (holder_at q holders ≡ Some h)
held_before-without_holder number holders q h a e =
    let other : q ≡ number → ⊥ = λ same. absurd (let none = holder_at-without_holder number holders a in let found = subst (λ n. holder_at n (without_holder number holders) ≡ Some h) same e in cc) in
    (other, sym (holder_at_other-without_holder number holders q other) ∙ e)

-- who is found once one is added held before, or is that one
pub held_before-push : (holders : List Holder) (new : Holder) (q : ℕ) (h : Holder) → holder_at q (holders ++ new ∷ []) ≡ Some h
    → (holder_at q holders ≡ Some h) ⊎ ((q ≡ new.number) × (h ≡ new))
held_before-push [] new q h e = elim (nat_eq new.number q) as (λ b. nat_eq new.number q ≡ b → (if b then Some new else None) ≡ Some h → (holder_at q [] ≡ Some h) ⊎ ((q ≡ new.number) × (h ≡ new))) [
  | true ↦ λ t f. inr (sym (alike new.number q t), cc)
  | false ↦ λ t f. absurd (cc)
] refl e
held_before-push (x ∷ holders) new q h e = elim (nat_eq x.number q) as (λ b. (if b then Some x else holder_at q (holders ++ new ∷ [])) ≡ Some h → ((if b then Some x else holder_at q holders) ≡ Some h) ⊎ ((q ≡ new.number) × (h ≡ new))) [
  | true ↦ λ f. inl f
  | false ↦ λ f. held_before-push holders new q h f
] e

-- who holds by a number still does once one is added
pub still_held-push : (holders : List Holder) (new : Holder) (q : ℕ) (h : Holder) → holder_at q holders ≡ Some h → holder_at q (holders ++ new ∷ []) ≡ Some h
still_held-push [] new q h e = absurd (cc)
still_held-push (x ∷ holders) new q h e = elim (nat_eq x.number q) as (λ b. (if b then Some x else holder_at q holders) ≡ Some h → (if b then Some x else holder_at q (holders ++ new ∷ [])) ≡ Some h) [
  | true ↦ λ f. f
  | false ↦ λ f. still_held-push holders new q h f
] e

-- who holds by a number still does at another caller's end
pub still_held-ended : (caller : ℕ) (holders : List Holder) (q : ℕ) (h : Holder) → holder_at q holders ≡ Some h → (h.owner ≡ caller → ⊥)
    → holder_at q (filter (λ (x : Holder). not (x.owner == caller)) holders) ≡ Some h
still_held-ended caller [] q h e other = absurd (cc)
still_held-ended caller (x ∷ holders) q h e other =
    elim (nat_eq x.owner caller) as (λ b. nat_eq x.owner caller ≡ b → holder_at q (if not b then x ∷ filter (λ (y : Holder). not (y.owner == caller)) holders else filter (λ (y : Holder). not (y.owner == caller)) holders) ≡ Some h) [
      | true ↦ λ o. elim (nat_eq x.number q) as (λ b. (if b then Some x else holder_at q holders) ≡ Some h → holder_at q (filter (λ (y : Holder). not (y.owner == caller)) holders) ≡ Some h) [
        | true ↦ λ f. let same : x ≡ h = cc in absurd (other (subst (λ (y : Holder). y.owner ≡ caller) same (alike x.owner caller o)))
        | false ↦ λ f. still_held-ended caller holders q h f other
      ] e
      | false ↦ λ o. elim (nat_eq x.number q) as (λ b. (if b then Some x else holder_at q holders) ≡ Some h → (if b then Some x else holder_at q (filter (λ (y : Holder). not (y.owner == caller)) holders)) ≡ Some h) [
        | true ↦ λ f. f
        | false ↦ λ f. still_held-ended caller holders q h f other
      ] e
    ] refl

-- who holds by a number after a caller's end is another one, and held before
pub held_before-ended : (caller : ℕ) (holders : List Holder) (q : ℕ) (h : Holder) → Ascend (numbers_of holders) → holder_at q (filter (λ (x : Holder). not (x.owner == caller)) holders) ≡ Some h
    → (holder_at q holders ≡ Some h) × (h.owner ≡ caller → ⊥)
held_before-ended caller [] q h a e = absurd (cc)
held_before-ended caller (x ∷ holders) q h a e =
    elim (nat_eq x.owner caller) as (λ b. nat_eq x.owner caller ≡ b → holder_at q (if not b then x ∷ filter (λ (y : Holder). not (y.owner == caller)) holders else filter (λ (y : Holder). not (y.owner == caller)) holders) ≡ Some h
    → (holder_at q (x ∷ holders) ≡ Some h) × (h.owner ≡ caller → ⊥)) [
      | true ↦ λ o f.
          let (before, other) = held_before-ended caller holders q h a.1 f in
          let less : x.number < h.number = holder_at_all (λ (y : Holder). x.number < y.number) q holders h (all-unmap (λ later. x.number < later) (λ (y : Holder). y.number) holders a.0) before in
          let past : nat_eq x.number q ≡ false = differ q x.number (λ s. omega (arith, less, s, holder_at_number q holders h before)) in
          (rw past before, other)
      | false ↦ λ o f. elim (nat_eq x.number q) as (λ b. (if b then Some x else holder_at q (filter (λ (y : Holder). not (y.owner == caller)) holders)) ≡ Some h → ((if b then Some x else holder_at q holders) ≡ Some h) × (h.owner ≡ caller → ⊥)) [
        | true ↦ λ g. let same : x ≡ h = cc in (g, λ s. apart x.owner caller o (subst (λ (y : Holder). y.owner ≡ caller) (sym same) s))
        | false ↦ λ g. held_before-ended caller holders q h a.1 g
      ] f
    ] refl e

-- ---- the flattening that is found

-- it has the id
pub flattening_at_id : (id : ℕ) (flattenings : List Flattening) (f : Flattening) → flattening_at id flattenings ≡ Some f → f.id ≡ id
flattening_at_id id [] f e = absurd (cc)
flattening_at_id id (x ∷ flattenings) f e = elim (nat_eq x.id id) as (λ b. nat_eq x.id id ≡ b → (if b then Some x else flattening_at id flattenings) ≡ Some f → f.id ≡ id) [
  | true ↦ λ t g. let same : x ≡ f = cc in subst (λ (y : Flattening). y.id ≡ id) same (alike x.id id t)
  | false ↦ λ t g. flattening_at_id id flattenings f g
] refl e

-- what holds of all flattenings holds of it
pub flattening_at_all : (P : Flattening → Type 0) (id : ℕ) (flattenings : List Flattening) (f : Flattening) → All P flattenings → flattening_at id flattenings ≡ Some f → P f
flattening_at_all P id [] f all e = absurd (cc)
flattening_at_all P id (x ∷ flattenings) f all e = elim (nat_eq x.id id) as (λ b. (if b then Some x else flattening_at id flattenings) ≡ Some f → P f) [
  | true ↦ λ g. let same : x ≡ f = cc in subst P same (All-head P x flattenings all)
  | false ↦ λ g. flattening_at_all P id flattenings f (All-tail P x flattenings all) g
] e

-- none is found of an id that none has
pub flattening_at_none : (id : ℕ) (flattenings : List Flattening) → All (λ (f : Flattening). f.id ≡ id → ⊥) flattenings → flattening_at id flattenings ≡ None
flattening_at_none id [] all = refl
flattening_at_none id (x ∷ flattenings) all = elim (nat_eq x.id id) as (λ b. nat_eq x.id id ≡ b → (if b then Some x else flattening_at id flattenings) ≡ None) [
  | true ↦ λ t. absurd (All-head (λ (f : Flattening). f.id ≡ id → ⊥) x flattenings all (alike x.id id t))
  | false ↦ λ t. flattening_at_none id flattenings (All-tail (λ (f : Flattening). f.id ≡ id → ⊥) x flattenings all)
] refl

-- ---- a flattening in place of that of its id

pub flattening_at_other-with_flattening : (new : Flattening) (flattenings : List Flattening) (q : ℕ) → (q ≡ new.id → ⊥) → flattening_at q (with_flattening new flattenings) ≡ flattening_at q flattenings
flattening_at_other-with_flattening new [] q other = refl
flattening_at_other-with_flattening new (x ∷ flattenings) q other = elim (nat_eq x.id new.id) as (λ b. nat_eq x.id new.id ≡ b → flattening_at q (if b then new ∷ flattenings else x ∷ with_flattening new flattenings) ≡ flattening_at q (x ∷ flattenings)) [
  | true ↦ λ t.
      let here : nat_eq new.id q ≡ false = differ q new.id other in
      let there : nat_eq x.id q ≡ false = differ q x.id (λ s. other (s ∙ alike x.id new.id t)) in
      rw (here, there) refl
  | false ↦ λ t. elim (nat_eq x.id q) as (λ b. (if b then Some x else flattening_at q (with_flattening new flattenings)) ≡ (if b then Some x else flattening_at q flattenings)) [ true ↦ refl | false ↦ flattening_at_other-with_flattening new flattenings q other ]
] refl

-- where there was one of its id, it is found
pub flattening_at-with_flattening : (new : Flattening) (flattenings : List Flattening) (f : Flattening) → flattening_at new.id flattenings ≡ Some f → flattening_at new.id (with_flattening new flattenings) ≡ Some new
flattening_at-with_flattening new [] f e = absurd (cc)
flattening_at-with_flattening new (x ∷ flattenings) f e = elim (nat_eq x.id new.id) as (λ b. nat_eq x.id new.id ≡ b → (if b then Some x else flattening_at new.id flattenings) ≡ Some f → flattening_at new.id (if b then new ∷ flattenings else x ∷ with_flattening new flattenings) ≡ Some new) [
  | true ↦ λ t g. rw (itself new.id) refl
  | false ↦ λ t g. rw t (flattening_at-with_flattening new flattenings f g)
] refl e

-- what holds of all flattenings, and goes over to it from one of its id, holds of all
pub all-with_flattening : (P : Flattening → Type 0) (new : Flattening) (flattenings : List Flattening) → ((f : Flattening) → f.id ≡ new.id → P f → P new) → All P flattenings → All P (with_flattening new flattenings)
all-with_flattening P new [] turns all = All-nil P
all-with_flattening P new (x ∷ flattenings) turns all = elim (nat_eq x.id new.id) as (λ b. nat_eq x.id new.id ≡ b → All P (if b then new ∷ flattenings else x ∷ with_flattening new flattenings)) [
  | true ↦ λ t. All-cons P new flattenings (turns x (alike x.id new.id t) (All-head P x flattenings all)) (All-tail P x flattenings all)
  | false ↦ λ t. All-cons P x (with_flattening new flattenings) (All-head P x flattenings all) (all-with_flattening P new flattenings turns (All-tail P x flattenings all))
] refl

-- the ids are the same
pub ids-with_flattening : (new : Flattening) (flattenings : List Flattening) → ids_of (with_flattening new flattenings) ≡ ids_of flattenings
ids-with_flattening new [] = refl
ids-with_flattening new (x ∷ flattenings) = elim (nat_eq x.id new.id) as (λ b. nat_eq x.id new.id ≡ b → ids_of (if b then new ∷ flattenings else x ∷ with_flattening new flattenings) ≡ ids_of (x ∷ flattenings)) [
  | true ↦ λ t. ap (λ n. n ∷ ids_of flattenings) (sym (alike x.id new.id t))
  | false ↦ λ t. ap (λ ns. x.id ∷ ns) (ids-with_flattening new flattenings)
] refl

-- ---- a flattening that is taken out

pub flattening_at_other-without_flattening : (id : ℕ) (flattenings : List Flattening) (q : ℕ) → (q ≡ id → ⊥) → flattening_at q (without_flattening id flattenings) ≡ flattening_at q flattenings
flattening_at_other-without_flattening id [] q other = refl
flattening_at_other-without_flattening id (x ∷ flattenings) q other = elim (nat_eq x.id id) as (λ b. nat_eq x.id id ≡ b → flattening_at q (if b then flattenings else x ∷ without_flattening id flattenings) ≡ flattening_at q (x ∷ flattenings)) [
  | true ↦ λ t. let there : nat_eq x.id q ≡ false = differ q x.id (λ s. other (s ∙ alike x.id id t)) in rw there refl
  | false ↦ λ t. elim (nat_eq x.id q) as (λ b. (if b then Some x else flattening_at q (without_flattening id flattenings)) ≡ (if b then Some x else flattening_at q flattenings)) [ true ↦ refl | false ↦ flattening_at_other-without_flattening id flattenings q other ]
] refl

pub all-without_flattening : (P : Flattening → Type 0) (id : ℕ) (flattenings : List Flattening) → All P flattenings → All P (without_flattening id flattenings)
all-without_flattening P id [] all = All-nil P
all-without_flattening P id (x ∷ flattenings) all = elim (nat_eq x.id id) as (λ b. All P (if b then flattenings else x ∷ without_flattening id flattenings)) [
  | true ↦ All-tail P x flattenings all
  | false ↦ All-cons P x (without_flattening id flattenings) (All-head P x flattenings all) (all-without_flattening P id flattenings (All-tail P x flattenings all))
]

-- what holds of each id, or of each room, holds of each that is left
pub all_of-without_flattening : (P : ℕ → Type 0) (of : Flattening → ℕ) (id : ℕ) (flattenings : List Flattening) → All P (map of flattenings) → All P (map of (without_flattening id flattenings))
all_of-without_flattening P of id flattenings all = All-map P of (without_flattening id flattenings) (all-without_flattening (λ (f : Flattening). P (of f)) id flattenings (all-unmap P of flattenings all))

pub ascend-without_flattening : (id : ℕ) (flattenings : List Flattening) → Ascend (ids_of flattenings) → Ascend (ids_of (without_flattening id flattenings))
ascend-without_flattening id [] a = tt
ascend-without_flattening id (x ∷ flattenings) a = elim (nat_eq x.id id) as (λ b. Ascend (ids_of (if b then flattenings else x ∷ without_flattening id flattenings))) [
  | true ↦ a.1
  | false ↦ (all_of-without_flattening (λ later. x.id < later) (λ (f : Flattening). f.id) id flattenings a.0, ascend-without_flattening id flattenings a.1)
]

-- there is none of its id then
pub flattening_at-without_flattening : (id : ℕ) (flattenings : List Flattening) → Ascend (ids_of flattenings) → flattening_at id (without_flattening id flattenings) ≡ None
flattening_at-without_flattening id [] a = refl
flattening_at-without_flattening id (x ∷ flattenings) a = elim (nat_eq x.id id) as (λ b. nat_eq x.id id ≡ b → flattening_at id (if b then flattenings else x ∷ without_flattening id flattenings) ≡ None) [
  | true ↦ λ t. flattening_at_none id flattenings
      (subst (λ n. All (λ (f : Flattening). f.id ≡ n → ⊥) flattenings) (alike x.id id t)
      (all-unmap (λ n. n ≡ x.id → ⊥) (λ (f : Flattening). f.id) flattenings (above_apart x.id (ids_of flattenings) a.0)))
  | false ↦ λ t. rw t (flattening_at-without_flattening id flattenings a.1)
] refl

-- ---- a flattening that is added

pub flattening_at_other-push : (flattenings : List Flattening) (new : Flattening) (q : ℕ) → (q ≡ new.id → ⊥) → flattening_at q (flattenings ++ new ∷ []) ≡ flattening_at q flattenings
flattening_at_other-push [] new q other = let t : nat_eq new.id q ≡ false = differ q new.id other in rw t refl
flattening_at_other-push (x ∷ flattenings) new q other = elim (nat_eq x.id q) as (λ b. (if b then Some x else flattening_at q (flattenings ++ new ∷ [])) ≡ (if b then Some x else flattening_at q flattenings)) [ true ↦ refl | false ↦ flattening_at_other-push flattenings new q other ]

-- where there was none of its id, it is found
pub flattening_at-push : (flattenings : List Flattening) (new : Flattening) → flattening_at new.id flattenings ≡ None → flattening_at new.id (flattenings ++ new ∷ []) ≡ Some new
flattening_at-push [] new e = rw (itself new.id) refl
flattening_at-push (x ∷ flattenings) new e = elim (nat_eq x.id new.id) as (λ b. (if b then Some x else flattening_at new.id flattenings) ≡ None → (if b then Some x else flattening_at new.id (flattenings ++ new ∷ [])) ≡ Some new) [
  | true ↦ λ g. absurd (cc)
  | false ↦ λ g. flattening_at-push flattenings new g
] e

-- ---- the flattening that was found before

same_found : (new : Flattening) (flattenings : List Flattening) (f : Flattening) → flattening_at new.id (with_flattening new flattenings) ≡ Some f → f ≡ new
same_found new [] f e = absurd (cc)
same_found new (x ∷ flattenings) f e = elim (nat_eq x.id new.id) as (λ b. nat_eq x.id new.id ≡ b → flattening_at new.id (if b then new ∷ flattenings else x ∷ with_flattening new flattenings) ≡ Some f → f ≡ new) [
  | true ↦ λ t g. let here : flattening_at new.id (new ∷ flattenings) ≡ Some new = rw (itself new.id) refl in cc
  | false ↦ λ t g. let there : flattening_at new.id (x ∷ with_flattening new flattenings) ≡ flattening_at new.id (with_flattening new flattenings) = rw t refl in
      same_found new flattenings f (sym there ∙ g)
] refl e

-- what is found once one is replaced was found before, or is the new one
pub found_before-with_flattening : (new : Flattening) (flattenings : List Flattening) (q : ℕ) (f : Flattening) → flattening_at q (with_flattening new flattenings) ≡ Some f
    → ((q ≡ new.id → ⊥) × (flattening_at q flattenings ≡ Some f)) ⊎ ((q ≡ new.id) × (f ≡ new))
found_before-with_flattening new [] q f e = absurd (cc)
found_before-with_flattening new (x ∷ flattenings) q f e = elim (nat_eq q new.id) as (λ b. nat_eq q new.id ≡ b → ((q ≡ new.id → ⊥) × (flattening_at q (x ∷ flattenings) ≡ Some f)) ⊎ ((q ≡ new.id) × (f ≡ new))) [
  | true ↦ λ t. inr (alike q new.id t, same_found new (x ∷ flattenings) f (subst (λ n. flattening_at n (with_flattening new (x ∷ flattenings)) ≡ Some f) (alike q new.id t) e))
  | false ↦ λ t. inl (apart q new.id t, sym (flattening_at_other-with_flattening new (x ∷ flattenings) q (apart q new.id t)) ∙ e)
] refl

-- what is found once one is taken out was found before, by another id
pub found_before-without_flattening : (id : ℕ) (flattenings : List Flattening) (q : ℕ) (f : Flattening) → Ascend (ids_of flattenings) → flattening_at q (without_flattening id flattenings) ≡ Some f
    → (q ≡ id → ⊥) × (flattening_at q flattenings ≡ Some f)
found_before-without_flattening id flattenings q f a e =
    let other : q ≡ id → ⊥ = λ same. absurd (let none = flattening_at-without_flattening id flattenings a in let found = subst (λ n. flattening_at n (without_flattening id flattenings) ≡ Some f) same e in cc) in
    (other, sym (flattening_at_other-without_flattening id flattenings q other) ∙ e)

-- what is found once one is added was found before, or is that one
pub found_before-push : (flattenings : List Flattening) (new : Flattening) (q : ℕ) (f : Flattening) → flattening_at q (flattenings ++ new ∷ []) ≡ Some f
    → (flattening_at q flattenings ≡ Some f) ⊎ ((q ≡ new.id) × (f ≡ new))
found_before-push [] new q f e = elim (nat_eq new.id q) as (λ b. nat_eq new.id q ≡ b → (if b then Some new else None) ≡ Some f → (flattening_at q [] ≡ Some f) ⊎ ((q ≡ new.id) × (f ≡ new))) [
  | true ↦ λ t g. inr (sym (alike new.id q t), cc)
  | false ↦ λ t g. absurd (cc)
] refl e
found_before-push (x ∷ flattenings) new q f e = elim (nat_eq x.id q) as (λ b. (if b then Some x else flattening_at q (flattenings ++ new ∷ [])) ≡ Some f → ((if b then Some x else flattening_at q flattenings) ≡ Some f) ⊎ ((q ≡ new.id) × (f ≡ new))) [
  | true ↦ λ g. inl g
  | false ↦ λ g. found_before-push flattenings new q f g
] e

-- what is found by an id still is once one is added
pub still_found-push : (flattenings : List Flattening) (new : Flattening) (q : ℕ) (f : Flattening) → flattening_at q flattenings ≡ Some f → flattening_at q (flattenings ++ new ∷ []) ≡ Some f
still_found-push [] new q f e = absurd (cc)
still_found-push (x ∷ flattenings) new q f e = elim (nat_eq x.id q) as (λ b. (if b then Some x else flattening_at q flattenings) ≡ Some f → (if b then Some x else flattening_at q (flattenings ++ new ∷ [])) ≡ Some f) [
  | true ↦ λ g. g
  | false ↦ λ g. still_found-push flattenings new q f g
] e

-- what is found by an id still is at another caller's end
pub still_found-ended : (caller : ℕ) (flattenings : List Flattening) (q : ℕ) (f : Flattening) → flattening_at q flattenings ≡ Some f → (f.owner ≡ caller → ⊥)
    → flattening_at q (filter (λ (x : Flattening). not (x.owner == caller)) flattenings) ≡ Some f
still_found-ended caller [] q f e other = absurd (cc)
still_found-ended caller (x ∷ flattenings) q f e other =
    elim (nat_eq x.owner caller) as (λ b. nat_eq x.owner caller ≡ b → flattening_at q (if not b then x ∷ filter (λ (y : Flattening). not (y.owner == caller)) flattenings else filter (λ (y : Flattening). not (y.owner == caller)) flattenings) ≡ Some f) [
      | true ↦ λ o. elim (nat_eq x.id q) as (λ b. (if b then Some x else flattening_at q flattenings) ≡ Some f → flattening_at q (filter (λ (y : Flattening). not (y.owner == caller)) flattenings) ≡ Some f) [
        | true ↦ λ g. let same : x ≡ f = cc in absurd (other (subst (λ (y : Flattening). y.owner ≡ caller) same (alike x.owner caller o)))
        | false ↦ λ g. still_found-ended caller flattenings q f g other
      ] e
      | false ↦ λ o. elim (nat_eq x.id q) as (λ b. (if b then Some x else flattening_at q flattenings) ≡ Some f → (if b then Some x else flattening_at q (filter (λ (y : Flattening). not (y.owner == caller)) flattenings)) ≡ Some f) [
        | true ↦ λ g. g
        | false ↦ λ g. still_found-ended caller flattenings q f g other
      ] e
    ] refl

-- what is found by an id after a caller's end is another one's, and was found before
pub found_before-ended : (caller : ℕ) (flattenings : List Flattening) (q : ℕ) (f : Flattening) → Ascend (ids_of flattenings) → flattening_at q (filter (λ (x : Flattening). not (x.owner == caller)) flattenings) ≡ Some f
    → (flattening_at q flattenings ≡ Some f) × (f.owner ≡ caller → ⊥)
found_before-ended caller [] q f a e = absurd (cc)
found_before-ended caller (x ∷ flattenings) q f a e =
    elim (nat_eq x.owner caller) as (λ b. nat_eq x.owner caller ≡ b → flattening_at q (if not b then x ∷ filter (λ (y : Flattening). not (y.owner == caller)) flattenings else filter (λ (y : Flattening). not (y.owner == caller)) flattenings) ≡ Some f
    → (flattening_at q (x ∷ flattenings) ≡ Some f) × (f.owner ≡ caller → ⊥)) [
      | true ↦ λ o g.
          let (before, other) = found_before-ended caller flattenings q f a.1 g in
          let less : x.id < f.id = flattening_at_all (λ (y : Flattening). x.id < y.id) q flattenings f (all-unmap (λ later. x.id < later) (λ (y : Flattening). y.id) flattenings a.0) before in
          let past : nat_eq x.id q ≡ false = differ q x.id (λ s. omega (arith, less, s, flattening_at_id q flattenings f before)) in
          (rw past before, other)
      | false ↦ λ o g. elim (nat_eq x.id q) as (λ b. (if b then Some x else flattening_at q (filter (λ (y : Flattening). not (y.owner == caller)) flattenings)) ≡ Some f → ((if b then Some x else flattening_at q flattenings) ≡ Some f) × (f.owner ≡ caller → ⊥)) [
        | true ↦ λ k. let same : x ≡ f = cc in (k, λ s. apart x.owner caller o (subst (λ (y : Flattening). y.owner ≡ caller) (sym same) s))
        | false ↦ λ k. found_before-ended caller flattenings q f a.1 k
      ] g
    ] refl e
