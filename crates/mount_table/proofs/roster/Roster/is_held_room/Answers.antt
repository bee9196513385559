use Rattle.mount_table.proofs.Holds.{held_among}
use Rattle.mount_table.proofs.roster.Roster.is_held_room.Goals as goal

pub returns : goal.returns
returns c = rw (← c.self.view_is, c.is_held.ensures, c.deref.ensures.value) (held_among c.args.room c.self.inside.holders.items)
