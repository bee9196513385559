-- The words of `plfs_serve`, and the actors of its clients.
use Rattle.std.specs.Prelude.{◌≡◌, ◌⊎◌, ◌<◌, ◌^◌, ℕ, List, [], ◌∷◌, Option, Some, None, codes, replicate}
use Rattle.std.specs.Fmt.{decimal}
use Rattle.script_lang.specs.declared.script.ActorDecl.{ActorDecl}

-- the words say the host of all writers, which is 0 where they say none
abbrev pub IsHostSaid : List (List ℕ) → ℕ → Type 0
IsHostSaid words host = ((words ≡ []) × (host ≡ 0)) ⊎ ((words ≡ decimal host ∷ []) × (host < 2 ^ 32))

-- behind ROOT may stand `--at` with the folder by which processes come, and behind that the host
abbrev pub IsServeCommand : List (List ℕ) → Option (List ℕ) → ℕ → Type 0
IsServeCommand words None host = IsHostSaid words host
IsServeCommand (flag ∷ word ∷ words) (Some folder) host = (flag ≡ codes "--at") × (word ≡ folder) × IsHostSaid words host
IsServeCommand _ (Some _) _ = ⊥

-- an actor of this host, whose writers keep 64 entries of their index
abbrev pub actor_on : ℕ → ActorDecl
actor_on host = record { host = host; cap = 64; name = [] }

-- 256 of them
abbrev pub actors_on : ℕ → List ActorDecl
actors_on host = replicate 256 (actor_on host)
