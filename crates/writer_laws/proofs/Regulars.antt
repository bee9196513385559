-- A regular table stays so along a legal history.
use Rattle.std.proofs.Common.{List, [], ◌∷◌}
use Rattle.mount_model.specs.State.{State}
use Rattle.mount_model.specs.Regular.{IsRegular}
use Rattle.mount_model.specs.History.{Event}
use Rattle.mount_model.proofs.Facts.{step_regular}
use Rattle.mount_sound.specs.Owed.{IsLawful}

-- the table is regular before and after each of these events
abbrev pub AreRegular : State → List Event → Type 0
AreRegular start [] = IsRegular start
AreRegular start (event ∷ events) = IsRegular start × AreRegular event.after events

pub are_regular : (start : State) (events : List Event) → IsRegular start → IsLawful start events → AreRegular start events
are_regular start [] regular legal = regular
are_regular start (event ∷ events) regular legal =
    (regular, are_regular event.after events (step_regular start event.after event.caller event.ask event.reply legal.0.numbers legal.1 regular) legal.2)
