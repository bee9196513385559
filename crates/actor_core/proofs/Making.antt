-- What is made of all that was read of a container may be made at once, where its truncates are listed.
use Rattle.std.proofs.Common.{◌≡◌, List, [], Option, Result, refl, sym, ap, ◌∙◌}
use Rattle.std.specs.Prelude.{if◌then◌else◌}
use Rattle.plfs_types.specs.declared.entries.Trunc.{Trunc}
use Rattle.mount_model.specs.Program.{done, ask, followed_by}
use Rattle.mount_model.specs.Process.{asks}
use Rattle.mount_model.specs.declared.stuck.Stuck.{Stuck}
use Rattle.mount_model.specs.FlowReplies.{Tries}
use Rattle.index_reader.specs.declared.listing.Listing.{Listing}
use Rattle.index_reader.specs.declared.sharing.Share.{Share}
use Rattle.gather_flow.specs.declared.all_read.AllRead.{AllRead}
use Rattle.actor_core.specs.declared.kept.Stop.{Stop}
use Rattle.actor_core.specs.Stopping.{carried, is_due, one_nearer, stoppable}
use Rattle.actor_core.specs.Work.{Work}
use Rattle.gather_flow.specs.Shares.{by_itself}
use Rattle.gather_flow.specs.OneIndex.{made_of}
use Rattle.gather_flow.specs.Gathering.{reads_truncs}
use Rattle.gather_flow.proofs.Making.{makes_it, made_at_once, itself_made}

module _ {R : Type 0} (makes : Listing → List Share → List Trunc → R) where
  carried_made : (p : Tries AllRead) (stop : Option Stop) (next : Option Stop → Result R Stuck → Work) (halted : Work)
      → carried (followed_by p (makes_it makes)) stop next halted ≡ carried p stop (λ left result. next left (made_of makes result)) halted
  carried_made (done result) stop next halted = refl
  carried_made (ask call k) stop next halted = λ i. asks (stoppable stop call) (λ reply. if is_due stop then halted else carried_made (k reply) (one_nearer stop) next halted i)

  pub made_alone : (listing : Listing) (programs : List (Tries Share)) (stop : Option Stop) (next : Option Stop → Result R Stuck → Work) (halted : Work)
      → carried (by_itself programs [] (reads_truncs listing)) stop (λ left result. next left (made_of makes result)) halted ≡ carried (by_itself programs [] (made_at_once makes listing)) stop next halted
  made_alone listing programs stop next halted =
      sym (carried_made (by_itself programs [] (reads_truncs listing)) stop next halted) ∙ ap (λ p. carried p stop next halted) (itself_made makes listing programs [])

  -- the same behind shares that were read
  pub made_behind : (listing : Listing) (shares : List Share) (stop : Option Stop) (next : Option Stop → Result R Stuck → Work) (halted : Work)
      → carried (reads_truncs listing shares) stop (λ left result. next left (made_of makes result)) halted ≡ carried (made_at_once makes listing shares) stop next halted
  made_behind listing shares stop next halted =
      sym (carried_made (reads_truncs listing shares) stop next halted) ∙ ap (λ p. carried p stop next halted) (itself_made makes listing [] shares)
