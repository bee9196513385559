-- What a mount's calls leave of a sound tree.
use Rattle.std.proofs.Common.{ℕ, ◌≡◌, List, Option, Some, sym, subst}
use Rattle.store_api.specs.declared.tree.Tree.{Tree}
use Rattle.store_api.specs.Acts.{Stored}
use Rattle.mount_model.specs.State.{State}
use Rattle.mount_model.specs.Failing.{FailsToMount}
use Rattle.mount_model.specs.Mounting.{IsMounted}
use Rattle.mount_model.specs.declared.mount_trouble.MountTrouble.{MountTrouble}
use Rattle.mount_sound.specs.Sound.{IsSoundFor, IsSoundTree}
use Rattle.mount_sound.specs.Issued.{issued}
use Rattle.mount_sound.proofs.Facts.{mounted_sound, history_keeps, left_sound}
use Rattle.run_core.specs.Leading.{GoesOn}
use Rattle.program_ends.specs.Leaving.{IsRun, Leaves, broke_off, ran}
use Rattle.program_ends.specs.SoundTrees.{TellsSoundTree}

-- a mount was made, and its calls led to what is left
pub was_run : (Calls : State → State → Type 0) (times : Option (List ℕ)) (before after : Stored) (start end : State) → IsMounted 0 times before start → Calls start end → after ≡ end.store → IsRun Calls times before after
was_run Calls times before after start end mounted called left = record { start = start; end = end; mounted = mounted; called = called; left = sym left }

-- the tree that a mount's calls left of a sound one
pub leaves_sound : (times : Option (List ℕ)) (before after : Stored) (tree : Tree) → IsRun GoesOn times before after → before.tree ≡ Some tree → IsSoundTree tree → (left : Tree) × (after.tree ≡ Some left) × IsSoundTree left
leaves_sound times before after tree run told sound =
    let events = run.called.events in
    let ledger = issued sound.issued run.start events in
    let begins : IsSoundFor sound.issued run.start = mounted_sound 0 times before run.start tree run.mounted told sound in
    let ends : IsSoundFor ledger run.end = subst (IsSoundFor ledger) run.called.leads.ends (history_keeps sound.issued run.start events run.called.leads.lawful begins) in
    let Told : Stored → Type 0 = λ stored. stored.tree ≡ Some ends.shape.tree in
    (ends.shape.tree, subst Told run.left ends.shape.told, left_sound ledger run.end ends)

-- what a mounting that broke off leaves of a sound tree is sound
abbrev pub FailingLeavesSound : Type 0
FailingLeavesSound = (opened left : Stored) (trouble : MountTrouble) (tree : Tree) → FailsToMount opened trouble left → opened.tree ≡ Some tree → IsSoundTree tree → (after : Tree) × (left.tree ≡ Some after) × IsSoundTree after

-- so is what a mount's calls leave
pub all_leave_sound : (Calls : State → State → Type 0) → ((start end : State) → Calls start end → GoesOn start end) → (times : Option (List ℕ)) (before after : Stored) → FailingLeavesSound → Leaves Calls times before after → TellsSoundTree before → TellsSoundTree after
all_leave_sound Calls lead times before after failing (broke_off why failed) (tree, told, sound) = failing before after why tree failed told sound
all_leave_sound Calls lead times before after failing (ran run) (tree, told, sound) =
    leaves_sound times before after tree (record { start = run.start; end = run.end; mounted = run.mounted; called = lead run.start run.end run.called; left = run.left }) told sound
