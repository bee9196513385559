-- Lists of which each element is changed, and of actors with their players.
use Rattle.std.proofs.Common.{◌≡◌, ℕ, zero, suc, ◌+◌, ◌<◌, List, [], ◌∷◌, ◌++◌, length, get_or, set, sym, refl, ap, ◌∙◌, subst, arith}
use mathlib.Core.Logic.{dite}
use native.Mathlib.Decide.{ℕ_discrete}
use Rattle.std.specs.Prelude.{◌≢◌, All, slice_index_or}
use Rattle.std.proofs.lemmas.List.{length-set, get_or-set_same, get_or-set_other}
use Rattle.std.proofs.lemmas.List.Elements.{All-nil, All-cons}
use Rattle.script_lang.specs.declared.script.ActorDecl.{ActorDecl}
use Rattle.thread_runs.specs.Runners.{Runner}
use Rattle.thread_runs.specs.Each.{EachAt, ChangedTo}

pub any_default : {T : Type 0} (xs : List T) (i : ℕ) (d e : T) → i < length xs → get_or xs i d ≡ get_or xs i e
any_default [] i d e lt = absurd (omega arith)
any_default (x ∷ xs) zero d e lt = refl
any_default (x ∷ xs) (suc i) d e lt = any_default xs i d e (omega arith)

-- one more element is changed
pub changed_more : {T : Type 0} (R : T → T → Type 0) (i : ℕ) (old now : List T) (p x : T) → ChangedTo R i old now → i < length old → slice_index_or now i p ≡ p → R p x → ChangedTo R (i + 1) old (set now i x)
changed_more {T} R i old now p x c inside is r = record {
  len = length-set now i x ∙ c.len;
  done = λ k d lt. dite (ℕ_discrete k i)
      (λ same.
      let l = c.len in
      let was : get_or old i d ≡ p = sym (c.rest i d (omega arith)) ∙ (any_default now i d p (omega arith) ∙ is) in
      let here : get_or (set now i x) i d ≡ x = get_or-set_same now i x d (omega arith) in
      subst (λ n. R (get_or old n d) (get_or (set now i x) n d)) (sym same) (subst (λ (z : T × T). R z.0 z.1) (λ j. (sym was j, sym here j)) r))
      (λ other. let ne : k ≢ i = other in subst (λ z. R (get_or old k d) z) (sym (get_or-set_other now i k x d ne)) (c.done k d (omega arith)));
  rest = λ k d le. let ne : k ≢ i = λ e. omega arith in get_or-set_other now i k x d ne ∙ c.rest k d (omega arith);
}

-- what holds of each actor and its player, for the players alone
pub each_all : (Holds : ℕ → ActorDecl → Runner → Type 0) (Says : Runner → Type 0) → ((place : ℕ) (declared : ActorDecl) (r : Runner) → Holds place declared r → Says r)
    → (place : ℕ) (actors : List ActorDecl) (runners : List Runner) → EachAt Holds place actors runners → All Says runners
each_all Holds Says f place [] [] each = All-nil Says
each_all Holds Says f place [] (r ∷ rs) each = absurd each
each_all Holds Says f place (a ∷ as') [] each = absurd each
each_all Holds Says f place (a ∷ as') (r ∷ rs) each = All-cons Says r rs (f place a r each.0) (each_all Holds Says f (place + 1) as' rs each.1)

-- what holds once each player is changed
pub each_changed : (Before After : ℕ → ActorDecl → Runner → Type 0) (R : Runner → Runner → Type 0) → ((place : ℕ) (declared : ActorDecl) (old new : Runner) → Before place declared old → R old new → After place declared new)
    → (place : ℕ) (actors : List ActorDecl) (olds news : List Runner) → length news ≡ length olds → ((k : ℕ) (d : Runner) → k < length olds → R (slice_index_or olds k d) (slice_index_or news k d)) → EachAt Before place actors olds → EachAt After place actors news
each_changed Before After R f place [] [] [] len r each = tt
each_changed Before After R f place [] [] (n ∷ ns) len r each = absurd (omega (arith, len))
each_changed Before After R f place [] (o ∷ os) news len r each = absurd each
each_changed Before After R f place (a ∷ as') [] news len r each = absurd each
each_changed Before After R f place (a ∷ as') (o ∷ os) [] len r each = absurd (omega (arith, len))
each_changed Before After R f place (a ∷ as') (o ∷ os) (n ∷ ns) len r each =
    (f place a o n each.0 (r 0 o (omega arith)), each_changed Before After R f (place + 1) as' os ns (omega (arith, len)) (λ k d lt. r (suc k) d (omega arith)) each.1)

-- the same where nothing is changed
pub each_so : (Before After : ℕ → ActorDecl → Runner → Type 0) → ((place : ℕ) (declared : ActorDecl) (r : Runner) → Before place declared r → After place declared r) → (place : ℕ) (actors : List ActorDecl) (runners : List Runner) → EachAt Before place actors runners → EachAt After place actors runners
each_so Before After f place [] [] each = tt
each_so Before After f place [] (r ∷ rs) each = absurd each
each_so Before After f place (a ∷ as') [] each = absurd each
each_so Before After f place (a ∷ as') (r ∷ rs) each = (f place a r each.0, each_so Before After f (place + 1) as' rs each.1)

-- one actor more
pub each_push : (Holds : ℕ → ActorDecl → Runner → Type 0) (place : ℕ) (actors : List ActorDecl) (runners : List Runner) (declared : ActorDecl) (r : Runner) → EachAt Holds place actors runners → Holds (place + length runners) declared r → EachAt Holds place (actors ++ declared ∷ []) (runners ++ r ∷ [])
each_push Holds place [] [] declared r each here = (subst (λ n. Holds n declared r) (omega arith) here, tt)
each_push Holds place [] (x ∷ xs) declared r each here = absurd each
each_push Holds place (a ∷ as') [] declared r each here = absurd each
each_push Holds place (a ∷ as') (x ∷ xs) declared r each here = (each.0, each_push Holds (place + 1) as' xs declared r each.1 (subst (λ n. Holds n declared r) (omega arith) here))

pub each_long : (Holds : ℕ → ActorDecl → Runner → Type 0) (place : ℕ) (actors : List ActorDecl) (runners : List Runner) → EachAt Holds place actors runners → length runners ≡ length actors
each_long Holds place [] [] each = refl
each_long Holds place [] (r ∷ rs) each = absurd each
each_long Holds place (a ∷ as') [] each = absurd each
each_long Holds place (a ∷ as') (r ∷ rs) each = ap (λ n. suc n) (each_long Holds (place + 1) as' rs each.1)
