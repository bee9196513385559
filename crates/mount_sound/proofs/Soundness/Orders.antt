-- Entries in order, their first ones, and one more of them.
use Rattle.std.proofs.Common.{◌≡◌, ℕ, zero, suc, ◌+◌, ◌≤◌, ◌<◌, List, [], ◌∷◌, ◌++◌, length, take, drop, refl, ap, subst, arith, add-zero, max}
use Rattle.std.specs.List.{AllByRecursion}
use Rattle.plfs_types.specs.declared.entries.Entry.{Entry}
use Rattle.mount_sound.specs.Entries.{MayFollow, AreEntriesOf, logged, last_stamp, greatest_end}

pub in_order_from_0 : (writer last offset : ℕ) (es : List Entry) → AreEntriesOf writer last offset es → AreEntriesOf writer 0 offset es
in_order_from_0 writer last offset [] o = tt
in_order_from_0 writer last offset (e ∷ es) o = (record { some = o.0.some; within = o.0.within; owner = o.0.owner; later = omega (arith, o.0.later); in_range = o.0.in_range; place = o.0.place }, o.1)

pub in_order_push : (writer last offset : ℕ) (es : List Entry) (e : Entry) → AreEntriesOf writer last offset es → MayFollow writer (last_stamp last es) (offset + logged es) e → AreEntriesOf writer last offset (es ++ e ∷ [])
in_order_push writer last offset [] e o m = (rw add-zero at m, tt)
in_order_push writer last offset (x ∷ es) e o m = (o.0, in_order_push writer x.stamp (offset + x.len) es e o.1 (subst (λ n. MayFollow writer (last_stamp x.stamp es) n e) (omega arith) m))

pub logged_push : (es : List Entry) (e : Entry) → logged (es ++ e ∷ []) ≡ logged es + e.len
logged_push [] e = omega arith
logged_push (x ∷ es) e = omega (arith, logged_push es e)

pub last_stamp_push : (last : ℕ) (es : List Entry) (e : Entry) → last_stamp last (es ++ e ∷ []) ≡ e.stamp
last_stamp_push last [] e = refl
last_stamp_push last (x ∷ es) e = last_stamp_push x.stamp es e

pub greatest_end_push : (es : List Entry) (e : Entry) → greatest_end (es ++ e ∷ []) ≡ max (greatest_end es) (e.at + e.len)
greatest_end_push [] e = omega arith
greatest_end_push (x ∷ es) e = omega (arith, greatest_end_push es e)

pub drop_push : (n : ℕ) (es : List Entry) (e : Entry) → n ≤ length es → drop n (es ++ e ∷ []) ≡ drop n es ++ e ∷ []
drop_push zero es e l = refl
drop_push (suc n) [] e l = absurd (omega arith)
drop_push (suc n) (x ∷ es) e l = drop_push n es e (omega arith)

-- the last stamp above a floor is below what is above the floor and the last stamp
pub last_stamp_floor : (floor : ℕ) (es : List Entry) (bound : ℕ) → floor < bound → last_stamp 0 es < bound → last_stamp floor es < bound
last_stamp_floor floor [] bound f l = f
last_stamp_floor floor (e ∷ es) bound f l = l

pub take_all : {A : Type 0} (xs : List A) (n : ℕ) → length xs ≤ n → take n xs ≡ xs
take_all [] zero l = refl
take_all [] (suc n) l = refl
take_all (x ∷ xs) zero l = absurd (omega arith)
take_all (x ∷ xs) (suc n) l = ap (λ ys. x ∷ ys) (take_all xs n (omega arith))

pub drop_past : {A : Type 0} (n : ℕ) (xs : List A) → length xs ≤ n → drop n xs ≡ []
drop_past zero [] l = refl
drop_past (suc n) [] l = refl
drop_past zero (x ∷ xs) l = absurd (omega arith)
drop_past (suc n) (x ∷ xs) l = drop_past n xs (omega arith)

pub take_of_none : {A : Type 0} (n : ℕ) → take {A = A} n [] ≡ []
take_of_none zero = refl
take_of_none (suc n) = refl

-- the first ones of entries above a floor are above it
pub above_floor : (writer last offset stamp : ℕ) (es : List Entry) (n : ℕ) → stamp ≤ last → AreEntriesOf writer last offset es → AllByRecursion (λ (e : Entry). stamp < e.stamp) (take n es)
above_floor writer last offset stamp [] zero l o = tt
above_floor writer last offset stamp [] (suc n) l o = tt
above_floor writer last offset stamp (e ∷ es) zero l o = tt
above_floor writer last offset stamp (e ∷ es) (suc n) l o = (omega (arith, o.0.later), above_floor writer e.stamp (offset + e.len) stamp es n (omega (arith, o.0.later)) o.1)

-- entries in order have bytes
pub some_logged : (writer last offset : ℕ) (es : List Entry) → AreEntriesOf writer last offset es → 1 ≤ length es → 1 ≤ logged es
some_logged writer last offset [] o l = absurd (omega arith)
some_logged writer last offset (e ∷ es) o l = omega (arith, o.0.some)
