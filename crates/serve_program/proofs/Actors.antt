-- The actors of the clients.
use Rattle.std.proofs.Common.{◌≡◌, ◌≤◌, ◌<◌, ℕ, ◌+◌, List, [], ◌∷◌, ◌++◌, replicate, length, sym, subst, arith}
use Rattle.std.specs.Prelude.{All}
use Rattle.std.proofs.lemmas.List.{get_or-replicate, length-replicate, replicate-append-replicate}
use Rattle.script_lang.specs.declared.script.ActorDecl.{ActorDecl}
use Rattle.script_lang.specs.Ranges.{FitsActor}
use Rattle.serve_program.specs.Words.{actor_on, actors_on}

pub one_actor_more : (n : ℕ) (actor : ActorDecl) → replicate n actor ++ actor ∷ [] ≡ replicate (n + 1) actor
one_actor_more n actor = replicate-append-replicate n 1 actor

all_alike : {X : Type 0} (P : X → Type 0) (x : X) → P x → (n : ℕ) → All P (replicate n x)
all_alike {X} P x holds n = λ k d below.
    let many : length (replicate n x) ≡ n = length-replicate n x in
    let there : k < n = omega (arith, below, many) in
    subst P (sym (get_or-replicate n k x d there)) holds

pub actors_fit : (host : ℕ) → All FitsActor (actors_on host)
actors_fit host = all_alike FitsActor (actor_on host) (omega arith, omega arith) 256

so_many : (n : ℕ) (actor : ActorDecl) → n ≤ length (replicate n actor)
so_many n actor = let e : length (replicate n actor) ≡ n = length-replicate n actor in omega (arith, e)

actors_many : (host : ℕ) → 256 ≤ length (actors_on host)
actors_many host = so_many 256 (actor_on host)

pub actors_many_of : (host : ℕ) (actors : List ActorDecl) → actors ≡ actors_on host → 256 ≤ length actors
actors_many_of host actors are = subst (λ (z : List ActorDecl). 256 ≤ length z) (sym are) (actors_many host)
