-- Words that are no command of an engine.
use Rattle.std.proofs.Common.{ℕ, ◌≡◌, ◌≤◌, ◌<◌, ◌-◌, List, [], ◌∷◌, length, take, drop, Option, Some, None, inl, inr, ap, sym, subst, arith}
use Rattle.std.proofs.lemmas.List.{take_all}
use Rattle.serve_program.specs.Words.{IsHostSaid, IsServeCommand}

-- behind `--at` and a folder stands no host
pub no_host_behind : (words : List (List ℕ)) → 2 ≤ length words → ((host : ℕ) → IsHostSaid (take (length words - 2) (drop 2 words)) host → ⊥)
    → (folder : Option (List ℕ)) (host : ℕ) → IsServeCommand words folder host → ⊥
no_host_behind [] some none folder host is = absurd (omega (arith, some))
no_host_behind (w ∷ []) some none folder host is = absurd (omega (arith, some))
no_host_behind (w ∷ v ∷ words) some none None host (inl (empty, zero)) = let none_there : length (w ∷ v ∷ words) ≡ 0 = ap length empty in omega (arith, none_there)
no_host_behind (w ∷ v ∷ words) some none None host (inr (one, small)) = let one_there : length (w ∷ v ∷ words) ≡ 1 = ap length one in omega (arith, one_there)
no_host_behind (w ∷ v ∷ words) some none (Some folder) host (flag, same, said) =
    let all : take (length (w ∷ v ∷ words) - 2) words ≡ words = take_all (length (w ∷ v ∷ words) - 2) words (omega arith) in
    none host (subst (λ (ws : List (List ℕ)). IsHostSaid ws host) (sym all) said)

-- one word names no folder
pub too_few : (words : List (List ℕ)) → length words < 2 → ((host : ℕ) → IsHostSaid words host → ⊥)
    → (folder : Option (List ℕ)) (host : ℕ) → IsServeCommand words folder host → ⊥
too_few words few none None host is = none host is
too_few [] few none (Some folder) host is = elim is [ ]
too_few (w ∷ []) few none (Some folder) host is = elim is [ ]
too_few (w ∷ v ∷ words) few none (Some folder) host is = absurd (omega (arith, few))
