-- How proofs store what contracts see of a store.
use Rattle.std.specs.Prelude.{ℕ, Option, refl}
use Rattle.std.specs.Coded.{Coded, code_by, coded×, coded_ℕ, coded_option}
use Rattle.store_api.specs.declared.tree.Tree.{Tree}
use Rattle.store_api.specs.contracts.tree.Tree as tree
use Rattle.store_api.specs.Acts.{Stored}

abbrev pub stored_code : Coded Stored
stored_code = code_by (Option Tree × (ℕ × ℕ))
    (coded× (coded_option tree.the_row.coded) (coded× coded_ℕ coded_ℕ))
    (λ s. (s.tree, (s.acts, s.faults))) (λ p. record { tree = p.0; acts = p.1.0; faults = p.1.1 }) (λ _. refl)
