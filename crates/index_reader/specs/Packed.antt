-- What a head of a packed index leads to, and its entries.
use Rattle.std.specs.Prelude.{ℕ, ◌≤◌, List, Ok, Err}
use Rattle.plfs_types.specs.declared.entries.Cover.{Cover}
use Rattle.plfs_types.specs.declared.names.Path.{Path}
use Rattle.mount_model.specs.FlowReplies.{Tries, damage}
use Rattle.mount_model.specs.Program.{done}
use Rattle.index_reader.specs.declared.entries.Tail.{Tail}
use Rattle.index_reader.specs.declared.packed.Headed.{Headed}
use Rattle.index_reader.specs.declared.packed.Headed.TheVariants.{Fault, Covered, More}
use Rattle.index_reader.specs.Packs.{no_tail, pack_rest}
use Rattle.plfs_types.specs.declared.entries.Entry.{Entry}
use Rattle.plfs_types.specs.declared.limits.TheConstants.{MAX_LOG}
use Rattle.index_entry.specs.Entries.{AreEntriesOf, logged}

-- all entries of one writer in their order, from the begin of its log on
pub record IsOfOne (entries : List Entry) : Type 0 where
  pub owner : ℕ
  pub in_order : AreEntriesOf owner 0 0 entries
  pub near : logged entries ≤ MAX_LOG

-- what follows a head that was judged so
abbrev pub headed_program : ℕ → Path → Cover → ℕ → List ℕ → Headed → Tries Tail
headed_program room path cover told head (Fault place) = done (Err (damage path place))
headed_program room path cover told head Covered = done (Ok (no_tail cover))
headed_program room path cover told head More = pack_rest room path cover told head
