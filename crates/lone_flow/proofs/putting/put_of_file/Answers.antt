use Rattle.std.proofs.Common.{◌≡◌, ℕ, List, subst}
use Rattle.std.specs.Prelude.{IfOk}
use Rattle.mount_model.specs.Standing.{ready}
use Rattle.pack_files.specs.Putting.{put_program}
use Rattle.pack_files.specs.Puts.{put_standing}
use Rattle.pack_files.specs.declared.put.PackPut.{PackPut}
use Rattle.lone_flow.proofs.putting.put_of_file.Goals as goal

pub returns-in-Ok-clause-standing : goal.returns-in-Ok-clause-standing
returns-in-Ok-clause-standing c =
    subst (λ (content : List ℕ). IfOk c.new.result (λ (put : PackPut). put_standing put ≡ ready (put_program c.args.handle c.args.at (record { name = c.args.file.now.name; content = content }))))
    c.in-Ok.ensures c.new.ensures.standing
