-- A refresh only looks at what is there.
use Rattle.std.proofs.Common.{ℕ, [], ◌∷◌, Option, Some, None, Result, Ok, Err}
use Rattle.mount_model.specs.Program.{Program, done, ask, followed_by}
use Rattle.store_api.specs.declared.step.Answer.TheVariants.{Names}
use Rattle.mount_model.specs.declared.stuck.Stuck.{Stuck}
use Rattle.mount_model.specs.FlowReplies.{Tries, on_ok}
use Rattle.mount_model.specs.declared.call.Call.{Call}
use Rattle.mount_model.specs.declared.reply.Reply.{Reply}
use Rattle.mount_model.specs.declared.reply.Reply.TheVariants.{Looked, Room}
use Rattle.index_reader.specs.declared.listing.Dropping.{Dropping}
use Rattle.index_reader.specs.declared.listing.Listing.{Listing}
use Rattle.index_reader.specs.declared.sharing.Share.{Share}
use Rattle.index_reader.specs.Opening.{scan_program}
use Rattle.index_reader.specs.Sharing.{share_program}
use Rattle.index_reader.specs.Truncs.{trunc_program}
use Rattle.index_reader.proofs.Facts.{OnlyLooks, listing_looks, share_looks, truncs_looks}
use Rattle.gather_flow.specs.declared.all_read.AllRead.{AllRead}
use Rattle.gather_flow.specs.Dealing.{dealt_to}
use Rattle.gather_flow.specs.Gathering.{if_truncs_listed, reads_truncs, shares_from}
use Rattle.plain_file.specs.declared.parts.ReaderParts.{ReaderParts}
use Rattle.refresh_index.specs.Hosts.{moved}
use Rattle.refresh_index.specs.Refreshing.{all_unpacked, behind, if_gathered, if_listed, reads_on, refresh_program, unless_moved}

then_looks : {R S : Type 0} (p : Program Call Reply R) (next : R → Program Call Reply S) → ((r : R) → OnlyLooks (next r)) → OnlyLooks p → OnlyLooks (followed_by p next)
then_looks (done r) next goes looks = goes r
then_looks (ask q k) next goes looks = (looks.0, λ reply. then_looks (k reply) next goes (looks.1 reply))

on_ok_looks : {A R : Type 0} (next : A → Tries R) → ((a : A) → OnlyLooks (next a)) → (result : Result A Stuck) → OnlyLooks (on_ok next result)
on_ok_looks next goes (Ok a) = goes a
on_ok_looks next goes (Err because) = tt

scan_looks : (room : ℕ) → OnlyLooks (scan_program room)
scan_looks room = ((listing_looks []).1 (Room room)).1 (Looked (Names []))

truncates_look : (listing : Listing) (share : Share) → OnlyLooks (reads_truncs listing (share ∷ []))
truncates_look listing share =
    then_looks (trunc_program listing.room) (on_ok (if_truncs_listed listing (share ∷ [])))
    (λ result. on_ok_looks (if_truncs_listed listing (share ∷ [])) (λ truncs. tt) result) (truncs_looks listing.room)

module _ (held : ReaderParts) where
  gathered_looks : (result : Result AllRead Stuck) → OnlyLooks (if_gathered held result)
  gathered_looks (Ok all) = tt
  gathered_looks (Err why) = tt

  on_looks : (listing : Listing) → OnlyLooks (reads_on held listing)
  on_looks listing =
      then_looks (shares_from 1 (behind held listing) 0 []) (if_gathered held) gathered_looks
      (then_looks (share_program held.room (dealt_to 1 0 0 (all_unpacked listing.droppings)) held.covers) (on_ok (λ share. reads_truncs (behind held listing) (share ∷ [])))
      (λ result. on_ok_looks (λ share. reads_truncs (behind held listing) (share ∷ [])) (λ share. truncates_look (behind held listing) share) result)
      (share_looks held.room (dealt_to 1 0 0 (all_unpacked listing.droppings)) held.covers))

  unless_looks : (o : Option Dropping) (listing : Listing) → OnlyLooks (unless_moved held o (reads_on held listing))
  unless_looks None listing = on_looks listing
  unless_looks (Some d) listing = tt

  listed_looks : (result : Result Listing Stuck) → OnlyLooks (if_listed held result)
  listed_looks (Ok listing) = unless_looks (moved held.hosts listing.droppings) listing
  listed_looks (Err why) = tt

  pub refresh_looks : OnlyLooks (refresh_program held)
  refresh_looks = then_looks (scan_program held.room) (if_listed held) listed_looks (scan_looks held.room)
