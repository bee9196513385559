-- A statement comes to its end.
use Rattle.std.specs.Prelude.{⊤, List, Result}
use Rattle.mount_model.specs.declared.stuck.Stuck.{Stuck}
use Rattle.mount_model.specs.declared.reply.Reply.{Reply}
use Rattle.index_reader.specs.declared.sharing.Share.{Share}
use Rattle.mount_model.specs.Process.{ends, pauses, tells, asks, shares}
use Rattle.actor_core.specs.Work.{Work}

-- whatever is replied, and whatever its workers come to, it tells its line
abbrev pub ComesToLine : Work → Type 0
ComesToLine ends = ⊥
ComesToLine (pauses work) = ⊥
ComesToLine (tells ending work) = ⊤
ComesToLine (asks question k) = (reply : Reply) → ComesToLine (k reply)
ComesToLine (shares programs k alone) = ((results : List (Result Share Stuck)) → ComesToLine (k results)) × ComesToLine alone
