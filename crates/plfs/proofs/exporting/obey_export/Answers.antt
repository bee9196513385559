use Rattle.plfs.proofs.exporting.obey_export.Goals as goal

pub returns-in-Err : goal.returns-in-Err
returns-in-Err g c = record { usage = λ wrong. absurd (wrong c.in-Some.command c.in-Some.ensures.found) }

pub returns : goal.returns
returns g c = record { usage = λ wrong. absurd (wrong c.in-Some.command c.in-Some.ensures.found) }
