-- Replies that show no damage.
use Rattle.mount_model.specs.declared.reply.Reply.{Reply}
use Rattle.mount_model.specs.declared.reply.Reply.TheVariants.{Damaged}

-- the store showed nothing that no sound container has there
abbrev pub ShowsNoDamage : Reply → Type 0
ShowsNoDamage (Damaged folder file) = ⊥
ShowsNoDamage reply = Unit {0}
