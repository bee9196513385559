-- The calls of a statement that looks at a file, as one program.
use Rattle.std.specs.Prelude.{ℕ, [], Ok}
use Rattle.mount_model.specs.Program.{done, followed_by}
use Rattle.mount_model.specs.FlowReplies.{Tries, on_ok}
use Rattle.mount_model.specs.Paths.{Name}
use Rattle.attr_flow.specs.declared.attr.Attr.{Attr}
use Rattle.attr_flow.specs.declared.attr_flow.AttrOut.{AttrOut}
use Rattle.attr_flow.specs.declared.attr_flow.AttrOut.TheVariants.{Cached, MustMerge}
use Rattle.attr_flow.specs.Asking.{attr_program}
use Rattle.index_reader.specs.declared.listing.Listing.{Listing}
use Rattle.index_reader.specs.Opening.{open_at_program, open_read_program}
use Rattle.gather_flow.specs.Shares.{by_itself, programs_from}
use Rattle.index_reader.specs.declared.opened.OpenReader.{OpenReader}
use Rattle.actor_core.specs.Opened.{opens}
use Rattle.actor_core.specs.Telling.{tells_by}

-- what was listed is read as one share, and tells with the truncates
abbrev pub reads_and_tells : Listing → Tries Attr
reads_and_tells listing = by_itself (programs_from 1 listing 0) [] (tells_by listing)

-- where somebody has the file open, its index is gathered
abbrev pub or_gathers : AttrOut → Tries Attr
or_gathers (Cached attr) = done (Ok attr)
or_gathers (MustMerge room) = followed_by (open_at_program room) (on_ok reads_and_tells)

-- all calls that tell of a file
abbrev pub tell_program : Name → Tries Attr
tell_program name = followed_by (attr_program name) (on_ok or_gathers)

-- what was listed is dealt to so many workers, whose shares the actor reads one after the other, and the truncates behind them
abbrev pub reads_and_opens : ℕ → Listing → Tries OpenReader
reads_and_opens workers listing = by_itself (programs_from workers listing 0) [] (opens listing)

-- all calls that open a reader, where the actor makes them all
abbrev pub read_in_program : Name → ℕ → Tries OpenReader
read_in_program name workers = followed_by (open_read_program name) (on_ok (reads_and_opens workers))
