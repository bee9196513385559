-- The actors of processes, and their requests.
use Rattle.std.proofs.Common.{◌≡◌, ℕ, ◌+◌, ◌*◌, ◌<◌, ◌≤◌, Bool, true, false, List, length, Option, Some, None, refl, sym, ap, ◌∙◌, arith}
use Rattle.std.specs.Prelude.{◌==◌, nat_lt, if◌then◌else◌, option_map}
use Rattle.std.proofs.lemmas.Bool.Decides.{nat_tests}
use Rattle.script_lang.specs.declared.script.Statement.{Statement}
use Rattle.frame_format.specs.declared.head.Head.{Head}
use Rattle.frame_format.specs.Asking.{asked_in, numbered, request_of}
use Rattle.shared_frames.specs.Placing.{actor_at, moved, placed}

pub below : (n m : ℕ) → n < m → nat_lt n m ≡ true
below n m less = grind (arith, nat_tests, less)

pub beyond : (n m : ℕ) → m ≤ n → nat_lt n m ≡ false
beyond n m least = grind (arith, nat_tests, least)

pub actor_of : (place actor : ℕ) → actor < 16 → actor_at place actor ≡ 16 * place + actor
actor_of place actor less = rw (below actor 16 less) refl

pub actor_none : (place actor : ℕ) → 16 ≤ actor → actor_at place actor ≡ 256
actor_none place actor least = rw (beyond actor 16 least) refl

parts_once : (p q a b : ℕ) → a < 16 → b < 16 → 16 * p + a ≡ 16 * q + b → (p ≡ q) × (a ≡ b)
parts_once p q a b less lower same = (omega (arith, less, lower, same), omega (arith, less, lower, same))

pub apart : (place other actor another : ℕ) → actor < 16 → another < 16 → actor_at place actor ≡ actor_at other another → (place ≡ other) × (actor ≡ another)
apart place other actor another less lower same =
    parts_once place other actor another less lower (sym (actor_of place actor less) ∙ same ∙ actor_of other another lower)

-- ---- requests

abbrev with_actor : Head → ℕ → Head
with_actor head actor = record { kind = head.kind; actor = actor; number = head.number; place = head.place; extent = head.extent; len = head.len }

then_moved : (place : ℕ) (head : Head) (made : Option Statement)
    → option_map (numbered (with_actor head (16 * place + head.actor))) made ≡ option_map (moved place) (option_map (numbered head) made)
then_moved place head (Some made) = refl
then_moved place head None = refl

chosen : (place : ℕ) (head : Head) (b : Bool) (made : Option Statement)
    → (if b then option_map (numbered (with_actor head (16 * place + head.actor))) made else None) ≡ option_map (moved place) (if b then option_map (numbered head) made else None)
chosen place head true made = then_moved place head made
chosen place head false made = refl

pub same : (place : ℕ) (head : Head) (payload : List ℕ) → place < 16 → head.actor < 16 → request_of (placed place head) payload ≡ option_map (moved place) (request_of head payload)
same place head payload few less =
    ap (λ n. request_of (with_actor head n) payload) (actor_of place head.actor less)
    ∙ rw (below (16 * place + head.actor) 256 (omega (arith, few, less)), below head.actor 256 (omega (arith, less)))
    (chosen place head (head.len == length payload) (asked_in head.kind head.place head.extent payload))

pub none : (place : ℕ) (head : Head) (payload : List ℕ) → 16 ≤ head.actor → request_of (placed place head) payload ≡ None
none place head payload least = ap (λ n. request_of (with_actor head n) payload) (actor_none place head.actor least)
