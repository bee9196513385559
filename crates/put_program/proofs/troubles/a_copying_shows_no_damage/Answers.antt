use Rattle.put_program.proofs.Copyings.Undamaged.{StatementLaws, copy_undamaged}
use Rattle.put_program.proofs.troubles.a_copying_shows_no_damage.Goals as goal

pub returns : goal.returns
returns c =
    let said = c.a_statement_shows_no_damage.ensures in
    copy_undamaged (record { opening = said.open; writing = said.write; syncing = said.sync; closing = said.close; cutting = said.truncate })
