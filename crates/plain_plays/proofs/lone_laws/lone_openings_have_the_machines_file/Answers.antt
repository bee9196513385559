use Rattle.plain_plays.proofs.PlainSteps.Facts.{idle_mirrors, opens_itself}
use Rattle.plain_plays.proofs.lone_laws.lone_openings_have_the_machines_file.Goals as goal

pub returns-clause-opens : goal.returns-clause-opens
returns-clause-opens c m me p name workers events out some lawful well by o runs = opens_itself m me p name workers some o events out lawful well by runs

pub returns-clause-looks : goal.returns-clause-looks
returns-clause-looks c m p events lawful idle o = idle_mirrors m p events lawful idle o
