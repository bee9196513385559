-- The statement that tells of a file: by the names of what its writers left, or by its index where somebody has it open.
use Rattle.std.specs.Prelude.{ℕ, List, [], Option, Result, Ok, Err}
use Rattle.mount_model.specs.Program.{done, followed_by}
use Rattle.mount_model.specs.declared.stuck.Stuck.{Stuck}
use Rattle.mount_model.specs.FlowReplies.{Tries, on_ok}
use Rattle.attr_flow.specs.declared.attr.Attr.{Attr}
use Rattle.attr_flow.specs.declared.attr_flow.AttrOut.{AttrOut}
use Rattle.attr_flow.specs.declared.attr_flow.AttrOut.TheVariants.{Cached, MustMerge}
use Rattle.attr_flow.specs.Asking.{attr_program}
use Rattle.index_reader.specs.declared.listing.Listing.{Listing}
use Rattle.index_reader.specs.declared.sharing.Share.{Share}
use Rattle.index_reader.specs.Opening.{open_at_program}
use Rattle.index_reader.specs.Truncs.{trunc_program}
use Rattle.actor_core.specs.declared.kept.Stop.{Stop}
use Rattle.actor_core.specs.declared.kept.Kept.{Kept}
use Rattle.actor_core.specs.Stopping.{carried}
use Rattle.actor_core.specs.Endings.{stopped, told_of}
use Rattle.gather_flow.specs.OneIndex.{attr_of}
use Rattle.gather_flow.specs.Shares.{programs_from, by_itself}
use Rattle.actor_core.specs.Work.{Work, finishes}

-- the truncates are listed behind the shares
abbrev pub tells_by : Listing → List Share → Tries Attr
tells_by listing shares = followed_by (trunc_program listing.room) (on_ok (λ truncs. done (Ok (attr_of listing shares truncs))))

-- the index droppings are read as one share and then the truncates, unless the listing was stuck
abbrev pub if_relisted : Kept → Option Stop → Result Listing Stuck → Work
if_relisted kept stop (Err because) = finishes (told_of kept (Err because))
if_relisted kept stop (Ok listing) =
    carried (by_itself (programs_from 1 listing 0) [] (tells_by listing)) stop (λ left result. finishes (told_of kept result)) (finishes (stopped kept))

-- where somebody has the file open, its index is gathered
abbrev pub if_asked : Kept → Option Stop → Result AttrOut Stuck → Work
if_asked kept stop (Err because) = finishes (told_of kept (Err because))
if_asked kept stop (Ok (Cached attr)) = finishes (told_of kept (Ok attr))
if_asked kept stop (Ok (MustMerge room)) = carried (open_at_program room) stop (if_relisted kept) (finishes (stopped kept))

abbrev pub tells_of_file : Kept → Option Stop → List ℕ → Work
tells_of_file kept stop name = carried (attr_program name) stop (if_asked kept) (finishes (stopped kept))
