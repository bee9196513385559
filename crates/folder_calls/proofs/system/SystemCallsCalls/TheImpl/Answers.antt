use Rattle.std.proofs.Common.{rules}
use Rattle.folder_calls.specs.Calls.{with_call}
use Rattle.folder_calls.proofs.system.SystemCallsCalls.TheImpl.Goals as goal

pub remove_file-tells : goal.remove_file-tells
unfolding with_call
remove_file-tells g x c = search rules
