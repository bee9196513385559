-- Players at their places.
use Rattle.std.proofs.Common.{◌≡◌, ◌≢◌, ℕ, zero, suc, ◌+◌, ◌<◌, Bool, cond, List, [], ◌∷◌, length, Some, refl, sym, ap, ◌∙◌, subst, map, drop, get_or, eq-eqb, ne_eqb}
use Rattle.std.specs.Prelude.{set, slice_get}
use Rattle.std.proofs.lemmas.List.{drop_more}
use mathlib.Core.Logic.{dite}
use native.Mathlib.Decide.{ℕ_discrete}
use Rattle.mount_model.specs.State.{State}
use Rattle.mount_model.specs.History.{Event}
use Rattle.script_lang.specs.declared.script.Numbered.{Numbered}
use Rattle.run_core.specs.declared.player.Player.{Player}
use Rattle.run_core.specs.Course.{own}
use Rattle.run_core.specs.Leading.{Leads}
use Rattle.mount_model.specs.History.{AreBy}
use Rattle.run_core.specs.Players.{IsFit}
use Rattle.run_core.specs.World.{AllStand, AllFit, KeepsLines, AllKeep}
use Rattle.run_core.proofs.Players.Fitness.{fit_lasts}
use Rattle.run_core.proofs.Players.Works.{same_some}

-- what stands at a place that was set, and at another one
pub set_here : {X : Type 0} (xs : List X) (i : ℕ) (v p : X) → slice_get (set xs i v) i ≡ Some p → p ≡ v
set_here [] i v p is = absurd (cc)
set_here (x ∷ xs) zero v p is = sym (same_some v p is)
set_here (x ∷ xs) (suc i) v p is = set_here xs i v p is

pub set_there : {X : Type 0} (xs : List X) (i j : ℕ) (v : X) → j ≢ i → slice_get (set xs i v) j ≡ slice_get xs j
set_there [] i j v other = refl
set_there (x ∷ xs) zero zero v other = absurd (other refl)
set_there (x ∷ xs) zero (suc j) v other = refl
set_there (x ∷ xs) (suc i) zero v other = refl
set_there (x ∷ xs) (suc i) (suc j) v other = set_there xs i j v (λ is. other (ap suc is))

pub set_same : {X : Type 0} (xs : List X) (i : ℕ) (x : X) → slice_get xs i ≡ Some x → set xs i x ≡ xs
set_same [] i x is = refl
set_same (y ∷ xs) zero x is = ap (λ z. z ∷ xs) (same_some x y (sym is))
set_same (y ∷ xs) (suc i) x is = ap (λ z. y ∷ z) (set_same xs i x is)

pub map_here : {X Y : Type 0} (f : X → Y) (xs : List X) (i : ℕ) (x : X) → slice_get xs i ≡ Some x → slice_get (map f xs) i ≡ Some (f x)
map_here f [] i x is = absurd (cc)
map_here f (y ∷ xs) zero x is = ap (λ z. Some (f z)) (same_some y x is)
map_here f (y ∷ xs) (suc i) x is = map_here f xs i x is

-- what is so of the one that was set, and of each other one, is so of all
pub at_all : {X : Type 0} (P : ℕ → X → Type 0) (xs ys : List X) (i : ℕ) (v : X) → ys ≡ set xs i v → P i v → ((j : ℕ) (p : X) → j ≢ i → slice_get xs j ≡ Some p → P j p) → (j : ℕ) (p : X) → slice_get ys j ≡ Some p → P j p
at_all {X} P xs ys i v is here there j p stands =
    let found : slice_get (set xs i v) j ≡ Some p = ap (λ (z : List X). slice_get z j) (sym is) ∙ stands in
    dite (ℕ_discrete j i)
    (λ same.
    let at : slice_get (set xs i v) i ≡ Some p = ap (λ k. slice_get (set xs i v) k) (sym same) ∙ found in
    let Q : ℕ × X → Type 0 = λ z. P z.0 z.1 in
    subst Q (λ t. (sym same t, sym (set_here xs i v p at) t)) here)
    (λ other. there j p other (sym (set_there xs i j v other) ∙ found))

-- ---- statements of one actor

pub own_yes : (n : ℕ) (s : Numbered) (ss : List Numbered) → s.actor ≡ n → own n (s ∷ ss) ≡ s ∷ own n ss
own_yes n s ss is = ap (λ (b : Bool). cond b (s ∷ own n ss) (own n ss)) (eq-eqb s.actor n is)

pub own_no : (n : ℕ) (s : Numbered) (ss : List Numbered) → s.actor ≢ n → own n (s ∷ ss) ≡ own n ss
own_no n s ss other = ap (λ (b : Bool). cond b (s ∷ own n ss) (own n ss)) (ne_eqb s.actor n other)

-- ---- all players

pub stand_fit : (statements : List Numbered) (players : List Player) (now : State) → AllStand statements players now → AllFit players now
stand_fit statements players now stand = λ place player here. ((stand place player here).number, (stand place player here).fit)

pub keep_all : (players : List Player) → AllKeep players players
keep_all players = λ place player here. (player, here, record { number = refl; left = refl })

pub keep_both : (a b c : List Player) → AllKeep a b → AllKeep b c → AllKeep a c
keep_both a b c x y = λ place player here.
    let q = y place player here in
    let r = x place q.0 q.1 in
    (r.0, r.1, record { number = q.2.number ∙ r.2.number; left = q.2.left ∙ r.2.left })

pub keep_stand : (statements : List Numbered) (old new : List Player) (start end : State) → AllKeep old new → AllFit new end → AllStand statements old start → AllStand statements new end
keep_stand statements old new start end keep fit stand = λ place player here.
    let q = keep place player here in
    let s = stand place q.0 q.1 in
    let f = fit place player here in
    record { number = f.0; fit = f.1; left = q.2.left ∙ s.left }

pub keep_at : (place : ℕ) (old new : List Player) (before after : Player) → slice_get old place ≡ Some before → KeepsLines before after → new ≡ set old place after → AllKeep old new
keep_at place old new before after here keeps is =
    let K : ℕ → Player → Type 0 = λ j p. (q : Player) × (slice_get old j ≡ Some q) × KeepsLines q p in
    at_all K old new place after is (before, here, keeps) (λ j p other stands. (p, stands, record { number = refl; left = refl }))

-- the player at this place made calls, after which it may go on, and so may the others
pub fit_at : (place : ℕ) (old new : List Player) (before after : Player) (start end : State) (events : List Event) → AllFit old start → slice_get old place ≡ Some before → Leads start events end → AreBy before.number events
    → after.number ≡ before.number → IsFit after end → new ≡ set old place after → AllFit new end
fit_at place old new before after start end events fit here leads by_it same fit_now is =
    let P : ℕ → Player → Type 0 = λ j p. (p.number ≡ j) × IsFit p end in
    let mine : before.number ≡ place = (fit place before here).0 in
    at_all P old new place after is (same ∙ mine, fit_now)
    (λ j p other there.
    let f = fit j p there in
    (f.0, fit_lasts p before.number (λ clash. other (sym (sym mine ∙ (clash ∙ f.0)))) start events end leads by_it f.1))

pub set_found : {X : Type 0} (xs : List X) (i : ℕ) (x v : X) → slice_get xs i ≡ Some x → slice_get (set xs i v) i ≡ Some v
set_found [] i x v is = absurd (cc)
set_found (y ∷ xs) zero x v is = refl
set_found (y ∷ xs) (suc i) x v is = set_found xs i x v is

-- ---- the item of a loop

pub left_item : {X : Type 0} (xs : List X) (i : ℕ) (x : X) → i < length xs → x ≡ get_or xs i x → drop i xs ≡ x ∷ drop (i + 1) xs
left_item xs i x lt is = drop_more xs i x lt ∙ ap (λ z. z ∷ drop (i + 1) xs) (sym is)
