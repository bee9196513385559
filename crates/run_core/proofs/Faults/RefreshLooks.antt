-- A refresh whose calls are answered, none of them by a fault, ends in none.
use Rattle.std.proofs.Common.{◌≡◌, ◌-◌, List, [], refl, sym, subst, Option, Some, None, Result, Ok, Err}
use Rattle.std.specs.List.{range_with_len}
use Rattle.plain_file.specs.declared.parts.ReaderParts.{ReaderParts}
use Rattle.mount_model.specs.Program.{Program, done, ask, followed_by}
use Rattle.mount_model.specs.declared.stuck.Stuck.{Stuck}
use Rattle.mount_model.specs.FlowReplies.{Tries}
use Rattle.mount_model.specs.declared.call.Call.{Call}
use Rattle.mount_model.specs.declared.reply.Reply.{Reply}
use Rattle.index_reader.specs.declared.listing.Dropping.{Dropping}
use Rattle.index_reader.specs.declared.listing.Listing.{Listing}
use Rattle.index_reader.specs.declared.sharing.Share.{Share}
use Rattle.index_reader.specs.Opening.{no_flat, scan_program}
use Rattle.index_reader.specs.Truncs.{trunc_program}
use Rattle.gather_flow.specs.Gathering.{if_truncs_listed, reads_truncs, shares_from}
use Rattle.refresh_index.specs.declared.refreshing.RefreshOut.{RefreshOut}
use Rattle.refresh_index.specs.Hosts.{moved}
use Rattle.refresh_index.specs.Refreshing.{behind, if_gathered, if_listed, reads_on, refresh_program, unchanged, unless_moved}
use Rattle.run_core.proofs.Faults.Looking.{IsAnswered, IsFine, Looks, same_fine, then_looks}
use Rattle.run_core.proofs.Faults.OpeningLooks.{each_looks}
use Rattle.run_core.proofs.Faults.ReaderLooks.{top_looks, truncs_look}

-- Where this holds, and each call is answered so, its result is no fault.
abbrev pub OutLooks : Type 0 → Program Call Reply RefreshOut → Type 0
OutLooks well (done out) = well → IsFine out.result
OutLooks well (ask call k) = (reply : Reply) → OutLooks (well × IsAnswered call reply) (k reply)

module _ (held : ReaderParts) where
  then_out : {A : Type 0} (well : Type 0) (p : Tries A) (next : Result A Stuck → Program Call Reply RefreshOut) → ((why : Stuck) → next (Err why) ≡ done (unchanged held why))
      → Looks well p → ((more : Type 0) (a : A) → OutLooks more (next (Ok a))) → OutLooks well (followed_by p next)
  then_out well (done (Ok a)) next bad looks goes = goes well a
  then_out {A} well (done (Err why)) next bad looks goes = subst (OutLooks well) (sym (bad why)) (λ w. same_fine A (Unit {0}) why (looks w))
  then_out well (ask call k) next bad looks goes = λ reply. then_out (well × IsAnswered call reply) (k reply) next bad (looks reply) goes

  truncates_look : (listing : Listing) (shares : List Share) (well : Type 0) → Looks well (reads_truncs listing shares)
  truncates_look listing shares well = then_looks well (trunc_program listing.room) (if_truncs_listed listing shares) (truncs_look listing.room well) (λ more truncs w. refl)

  on_look : (listing : Listing) (well : Type 0) → OutLooks well (reads_on held listing)
  on_look listing well =
      then_out well (shares_from 1 (behind held listing) 0 []) (if_gathered held) (λ why. refl)
      (each_looks 1 (behind held listing) (range_with_len 0 (1 - 0)) [] (reads_truncs (behind held listing)) well (λ more shares. truncates_look (behind held listing) shares more))
      (λ more all w. refl)

  unless_look : (o : Option Dropping) (listing : Listing) (well : Type 0) → OutLooks well (unless_moved held o (reads_on held listing))
  unless_look None listing well = on_look listing well
  unless_look (Some d) listing well = λ w. refl

  pub refresh_look : (well : Type 0) → OutLooks well (refresh_program held)
  refresh_look well =
      then_out well (scan_program held.room) (if_listed held) (λ why. refl) (top_looks held.room 0 no_flat well)
      (λ more listing. unless_look (moved held.hosts listing.droppings) listing more)
