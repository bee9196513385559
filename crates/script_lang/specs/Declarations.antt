-- The declarations of actors.
use Rattle.std.specs.Prelude.{◌≡◌, ◌⊎◌, ℕ, ◌≤◌, ◌<◌, ◌^◌, List, [], ◌∷◌, codes}
use Rattle.std.specs.Fmt.{decimal}
use Rattle.script_lang.specs.declared.script.ActorDecl.{ActorDecl}
use Rattle.script_lang.specs.ActorNames.{IsActorName}
use Rattle.script_lang.specs.Layout.{HasWords, IsPassed}

-- `actor A [HOST [CAP]]`: host 0 and capacity 64 where they are left out
abbrev pub IsDeclaredBy : List (List ℕ) → ActorDecl → Type 0
IsDeclaredBy words actor =
    ((words ≡ codes "actor" ∷ actor.name ∷ []) × (actor.host ≡ 0) × (actor.cap ≡ 64))
    ⊎ ((words ≡ codes "actor" ∷ actor.name ∷ decimal actor.host ∷ []) × (actor.cap ≡ 64))
    ⊎ (words ≡ codes "actor" ∷ actor.name ∷ decimal actor.host ∷ decimal actor.cap ∷ [])

-- the words declare this actor
pub record Declares (words : List (List ℕ)) (actor : ActorDecl) : Type 0 where
  pub rightly : IsActorName actor.name
  pub on_host : actor.host < 2 ^ 32
  pub least : 1 ≤ actor.cap
  pub most : actor.cap ≤ 4096
  pub spelled : IsDeclaredBy words actor

-- the lines declare these actors, one after the other
abbrev pub DeclareAll : List (List ℕ) → List ActorDecl → Type 0
DeclareAll [] actors = actors ≡ []
DeclareAll (line ∷ lines) actors =
    (IsPassed line × DeclareAll lines actors)
    ⊎ ((actor : ActorDecl) × (others : List ActorDecl) × (words : List (List ℕ)) × (actors ≡ actor ∷ others) × HasWords line words × Declares words actor × DeclareAll lines others)
