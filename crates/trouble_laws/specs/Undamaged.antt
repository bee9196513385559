-- Results that tell of no damage.
use Rattle.std.specs.Prelude.{Result, Ok, Err}
use Rattle.mount_model.specs.declared.stuck.Stuck.{Stuck}
use Rattle.mount_model.specs.declared.stuck.Stuck.TheVariants.{Damaged}

-- it is a fault or a refusal
abbrev pub IsNoDamage : Stuck → Type 0
IsNoDamage (Damaged folder file place) = ⊥
IsNoDamage other = Unit {0}

-- it ended well, or in a trouble that is no damage
abbrev pub IsUndamaged : {R : Type 0} → Result R Stuck → Type 0
IsUndamaged (Ok result) = Unit {0}
IsUndamaged (Err why) = IsNoDamage why
