-- What is lawful in two parts, one after the other.
use Rattle.std.proofs.Common.{List, [], ◌∷◌, ◌++◌}
use Rattle.mount_model.specs.State.{State}
use Rattle.mount_model.specs.History.{Event, state_after}
use Rattle.mount_sound.specs.Owed.{IsLawful}

pub lawful_first : (start : State) (first rest : List Event) → IsLawful start (first ++ rest) → IsLawful start first
lawful_first start [] rest lawful = tt
lawful_first start (e ∷ first) rest lawful = (lawful.0, lawful.1, lawful_first e.after first rest lawful.2)

pub lawful_rest : (start : State) (first rest : List Event) → IsLawful start (first ++ rest) → IsLawful (state_after start first) rest
lawful_rest start [] rest lawful = lawful
lawful_rest start (e ∷ first) rest lawful = lawful_rest e.after first rest lawful.2
