use Rattle.std.proofs.Common.{◌∙◌}
use Rattle.outcomes.proofs.Agreeing.{of_its_length}
use Rattle.outcomes.proofs.data.ramp.Goals as goal

pub ramp_by-requires-clause-begins : goal.ramp_by-requires-clause-begins
ramp_by-requires-clause-begins c = of_its_length c.period-period.result c.args.first 256 c.period-period.ensures

pub ramp_by-requires-2-clause-begins : goal.ramp_by-requires-2-clause-begins
ramp_by-requires-2-clause-begins c = of_its_length c.period-period.result c.args.first 256 c.period-period.ensures

pub ramp_by-requires-3-clause-begins : goal.ramp_by-requires-3-clause-begins
ramp_by-requires-3-clause-begins c = of_its_length c.as_slice.result.now c.args.first 4096 (c.as_slice.ensures.value ∙ c.in_ok-front.ensures)
