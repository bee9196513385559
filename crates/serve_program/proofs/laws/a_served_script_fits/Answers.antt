use Rattle.serve_program.proofs.Scripts.{served_script_fits}
use Rattle.serve_program.proofs.laws.a_served_script_fits.Goals as goal

pub returns : goal.returns
returns c = served_script_fits
