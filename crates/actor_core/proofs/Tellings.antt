-- How telling of a file goes on where somebody has it open.
use Rattle.std.proofs.Common.{◌≡◌, ℕ, Option, None, Result, Ok, sym, ap, ◌∙◌}
use Rattle.std.specs.Prelude.{option_map}
use Rattle.mount_model.specs.declared.stuck.Stuck.{Stuck}
use Rattle.mount_model.specs.Standing.{Standing, ready, over, next_of, rest_of}
use Rattle.mount_model.specs.declared.call.Call.{Call}
use Rattle.mount_model.specs.declared.reply.Reply.{Reply}
use Rattle.attr_flow.specs.declared.attr_flow.AttrOut.{AttrOut}
use Rattle.attr_flow.specs.declared.attr_flow.AttrOut.TheVariants.{MustMerge}
use Rattle.index_reader.specs.declared.opening.OpenRead.{OpenRead}
use Rattle.index_reader.specs.Opening.{open_at_program}
use Rattle.index_reader.specs.OpenStages.{open_standing}
use Rattle.actor_core.specs.declared.kept.Stop.{Stop}
use Rattle.actor_core.specs.declared.kept.Kept.{Kept}
use Rattle.actor_core.specs.declared.doing.Doing.TheVariants.{Listing}
use Rattle.actor_core.specs.declared.purpose.Purpose.TheVariants.{Tells}
use Rattle.actor_core.specs.Endings.{stopped}
use Rattle.actor_core.specs.Purposes.{if_listed_for}
use Rattle.actor_core.specs.Stopping.{stoppable}
use Rattle.actor_core.specs.Telling.{if_asked}
use Rattle.actor_core.specs.Work.{finishes}
use Rattle.actor_core.specs.Progress.{IsReady, ask_of, given}
use Rattle.actor_core.specs.Standings.{ready_of, busy, doing_ready}
use Rattle.actor_core.proofs.Carrying.{ends_so}

module _ (number : ℕ) (kept : Kept) (stop : Option Stop) (old new : Standing Call Reply (Result AttrOut Stuck)) (room : ℕ) (flow : OpenRead) where
  relists : IsReady (busy number (ready_of old stop (if_asked kept) (finishes (stopped kept)))) → None ≡ option_map (stoppable stop) (next_of old)
      → rest_of new ≡ rest_of old → rest_of new ≡ over (Ok (MustMerge room)) → open_standing flow ≡ ready (open_at_program room)
      → busy number (doing_ready kept stop (Listing flow Tells)) ≡ busy number (ready_of old stop (if_asked kept) (finishes (stopped kept)))
  relists is_ready none same is begins =
      ap (λ s. busy number (ready_of s stop (if_listed_for Tells kept) (finishes (stopped kept)))) begins
      ∙ sym (ends_so number old new stop (if_asked kept) (finishes (stopped kept)) (Ok (MustMerge room)) is_ready none same is)

  pub relists_asks : IsReady (busy number (ready_of old stop (if_asked kept) (finishes (stopped kept)))) → None ≡ option_map (stoppable stop) (next_of old)
      → rest_of new ≡ rest_of old → rest_of new ≡ over (Ok (MustMerge room)) → open_standing flow ≡ ready (open_at_program room)
      → ask_of (busy number (doing_ready kept stop (Listing flow Tells))) ≡ ask_of (busy number (ready_of old stop (if_asked kept) (finishes (stopped kept))))
  relists_asks is_ready none same is begins = ap (λ p. ask_of p) (relists is_ready none same is begins)

  pub relists_given : IsReady (busy number (ready_of old stop (if_asked kept) (finishes (stopped kept)))) → None ≡ option_map (stoppable stop) (next_of old)
      → rest_of new ≡ rest_of old → rest_of new ≡ over (Ok (MustMerge room)) → open_standing flow ≡ ready (open_at_program room)
      → given (busy number (doing_ready kept stop (Listing flow Tells))) ≡ given (busy number (ready_of old stop (if_asked kept) (finishes (stopped kept))))
  relists_given is_ready none same is begins = ap (λ p. given p) (relists is_ready none same is begins)
