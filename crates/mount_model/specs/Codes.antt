-- How proofs store the state of a mount.
use Rattle.std.specs.Prelude.{ℕ, List, Option, refl}
use Rattle.std.specs.Coded.{Coded, code_by, coded×, coded_ℕ, coded_list, coded_option}
use Rattle.store_api.specs.contracts.tree.Tree as tree
use Rattle.store_api.specs.Acts.{Stored}
use Rattle.mount_model.specs.declared.row.Row.{Row}
use Rattle.mount_model.specs.declared.row.Holder.{Holder}
use Rattle.mount_model.specs.declared.row.Flattening.{Flattening}
use Rattle.mount_model.specs.contracts.row.Row as row
use Rattle.mount_model.specs.contracts.row.Holder as holder
use Rattle.mount_model.specs.contracts.row.Flattening as flattening
use Rattle.mount_model.specs.State.{State, Table}
use Rattle.store_api.specs.Codes.{stored_code}

abbrev pub table_code : Coded Table
table_code = code_by (List Row × (List Holder × List Flattening))
    (coded× (coded_list row.the_row.coded) (coded× (coded_list holder.the_row.coded) (coded_list flattening.the_row.coded)))
    (λ t. (t.writers, (t.holders, t.flattenings)))
    (λ p. record { writers = p.0; holders = p.1.0; flattenings = p.1.1 }) (λ _. refl)

abbrev pub state_code : Coded State
state_code = code_by (Stored × (Stored × (Option (List ℕ) × (ℕ × (ℕ × (ℕ × Table))))))
    (coded× stored_code (coded× stored_code (coded× (coded_option (coded_list coded_ℕ)) (coded× coded_ℕ (coded× coded_ℕ (coded× coded_ℕ table_code))))))
    (λ s. (s.store, (s.opened, (s.times, (s.marks, (s.mount, (s.serial, s.table)))))))
    (λ p. record { store = p.0; opened = p.1.0; times = p.1.1.0; marks = p.1.1.1.0; mount = p.1.1.1.1.0; serial = p.1.1.1.1.1.0; table = p.1.1.1.1.1.1 }) (λ _. refl)
