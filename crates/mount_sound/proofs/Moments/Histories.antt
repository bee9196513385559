-- A history is lawful where it is legal and no caller owes more than it met.
use Rattle.std.proofs.Common.{List, [], ◌∷◌}
use Rattle.mount_model.specs.State.{State}
use Rattle.mount_model.specs.History.{Event, IsLegal}
use Rattle.mount_sound.specs.Owed.{AreAllowed, IsLawful}

pub lawful_parts : (start : State) (events : List Event) → IsLawful start events → IsLegal start events × AreAllowed start events
lawful_parts start [] lawful = (tt, tt)
lawful_parts start (e ∷ events) lawful = let rest = lawful_parts e.after events lawful.2 in ((lawful.1, rest.0), (lawful.0, rest.1))

pub lawful_of : (start : State) (events : List Event) → IsLegal start events → AreAllowed start events → IsLawful start events
lawful_of start [] legal allowed = tt
lawful_of start (e ∷ events) legal allowed = (allowed.0, legal.0, lawful_of e.after events legal.1 allowed.1)
