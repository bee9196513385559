-- How unpacking, naming and packing end in trouble.
use Rattle.std.specs.Prelude.{◌≡◌, Result, Ok, Err}
use Rattle.mount_model.specs.declared.stuck.Stuck.TheVariants.{Fault}
use Rattle.trouble_laws.specs.Undamaged.{IsNoDamage}
use Rattle.pack_files.specs.declared.scan.ScanStuck.{ScanStuck}
use Rattle.pack_files.specs.declared.scan.ScanStuck.TheVariants.{Bad, Stuck}

-- it ended well, in a fault or in a refusal: nothing is told to be damaged, and no place to be bad
abbrev pub TellsNoDamage : {R : Type 0} → Result R ScanStuck → Type 0
TellsNoDamage (Ok result) = Unit {0}
TellsNoDamage (Err (Stuck why)) = IsNoDamage why
TellsNoDamage (Err (Bad place)) = ⊥

-- it ended in a fault
abbrev pub TellsFault : {R : Type 0} → Result R ScanStuck → Type 0
TellsFault told = told ≡ Err (Stuck Fault)
