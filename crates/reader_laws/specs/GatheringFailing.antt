-- How a read may end: with the bytes, or otherwise only where the store did.
use Rattle.std.specs.Prelude.{◌≡◌, ◌⊎◌, ℕ, List}
use Rattle.plfs_types.specs.Counts.{HasRisen}
use Rattle.store_api.specs.declared.step.Answer.TheVariants.{Bytes}
use Rattle.mount_model.specs.declared.reply.Reply.{Reply}
use Rattle.mount_model.specs.declared.reply.Reply.TheVariants.{Looked, Fault, NoMemory}
use Rattle.mount_model.specs.State.{State}

-- the bytes, or a fault where the store's count of them rose, or want of memory where nothing was done
abbrev pub BytesOrTrouble : List ℕ → State → Reply → State → Type 0
BytesOrTrouble bytes old reply new =
    (reply ≡ Looked (Bytes bytes))
    ⊎ ((reply ≡ Fault) × HasRisen old.store.faults new.store.faults)
    ⊎ ((reply ≡ NoMemory) × (new ≡ old))
