use Rattle.packing_laws.proofs.SmallFiles.Isolating.{answers_same}
use Rattle.packing_laws.proofs.isolation.other_units_change_no_answer.Goals as goal

pub returns : goal.returns
returns c = λ name p q one other from end since last told found same h k.
    answers_same name p one q other same c.the_units_of_a_region_stand_apart.ensures c.others_change_nothing.ensures from end since last told found h k
