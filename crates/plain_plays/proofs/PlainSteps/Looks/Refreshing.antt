-- The statement that refreshes a reader is a step of a plain machine, where nobody else calls.
use Rattle.std.proofs.Common.{◌≡◌, ◌-◌, ℕ, List, [], ◌++◌, Option, Some, None, Result, Ok, Err, refl, sym, ap, ◌∙◌, subst}
use Rattle.std.specs.Prelude.{slice_get}
use Rattle.std.specs.List.{range_with_len}
use Rattle.container_layout.specs.declared.items.Item.TheVariants as item
use Rattle.plain_file.specs.declared.parts.ReaderParts.{ReaderParts}
use Rattle.script_lang.specs.declared.line.Outcome.{Outcome}
use Rattle.script_lang.specs.declared.line.Outcome.TheVariants.{Reader}
use Rattle.script_lang.specs.declared.script.ActorDecl.{ActorDecl}
use Rattle.script_lang.specs.declared.script.Statement.TheVariants.{Refresh}
use Rattle.mount_model.specs.History.{AreBy, Event}
use Rattle.mount_sound.specs.Owed.{IsLawful}
use Rattle.mount_model.specs.declared.stuck.Stuck.{Stuck}
use Rattle.mount_model.specs.Running.{Runs}
use Rattle.reader_laws.specs.Moments.{Moment, moment_after}
use Rattle.reader_laws.proofs.Gathered.Facts.{grows_after, sound_after}
use Rattle.index_reader.specs.declared.listing.Dropping.{Dropping}
use Rattle.index_reader.specs.declared.listing.Listing.{Listing}
use Rattle.index_reader.specs.declared.opened.OpenReader.{OpenReader}
use Rattle.index_reader.specs.Opened.{parts_of, reader_from}
use Rattle.index_reader.specs.Opening.{scan_program}
use Rattle.index_reader.proofs.Facts.{IsLook}
use Rattle.gather_flow.specs.declared.all_read.AllRead.{AllRead}
use Rattle.gather_flow.specs.Gathering.{shares_from}
use Rattle.refresh_index.specs.declared.refreshing.RefreshOut.{RefreshOut}
use Rattle.refresh_index.specs.Hosts.{moved}
use Rattle.refresh_index.specs.Refreshing.{behind, if_gathered, if_listed, reads_on, refresh_program, unless_moved}
use Rattle.refresh_index.proofs.LookLemmas.{refresh_looks}
use Rattle.refresh_laws.specs.Refreshing.{EndsWith, HasRefreshedIn, RefreshEnds}
use Rattle.refresh_laws.proofs.WholeLemmas.{whole as refresh_ends}
use Rattle.outcomes.specs.Counts.{cut_of}
use Rattle.actor_core.specs.declared.kept.Kept.{Kept}
use Rattle.actor_core.specs.Opened.{reader_refreshed, refresh_told, without_reader}
use Rattle.writer_flow.specs.declared.handle.WriterHandle.{WriterHandle}
use Rattle.plain_machine.specs.Machine.{Plain, PlainActor, PlainReader}
use Rattle.plain_machine.specs.Cases.{InRoom}
use Rattle.plain_machine.specs.Landed.{file_of}
use Rattle.plain_machine.specs.Readers.{Sees, with_reader}
use Rattle.plain_plays.specs.Mirrors.{Mirrors, MirrorsAt, room_then, room_told}
use Rattle.plain_plays.specs.Readers.{MirrorsReader, TakesOnReader}
use Rattle.plain_plays.specs.Served.{GoesWell}
use Rattle.plain_plays.specs.Stepping.{HasActor}
use Rattle.plain_plays.proofs.PlainSteps.Entering.{IsContainerAt, its_room}
use Rattle.plain_plays.proofs.PlainSteps.Steps.Alone.{asked_only}
use Rattle.plain_plays.proofs.PlainSteps.Steps.Making.{some_room}
use Rattle.plain_plays.proofs.PlainSteps.Looks.Answered.{Anything, EndsSo, LooksAt, at_then, looked, no_fault, no_good}
use Rattle.plain_plays.proofs.PlainSteps.Looks.Gathered.{IsOpened, opened_so, sights_of}
use Rattle.plain_plays.proofs.PlainSteps.Looks.Listings.{IsOf, scan_on}
use Rattle.plain_plays.proofs.PlainSteps.Looks.Opened.{line_is, mirrored}
use Rattle.plain_plays.proofs.PlainSteps.Looks.Readers.{lawful_both, on_reader, takes_reader}
use Rattle.plain_plays.proofs.PlainSteps.Looks.Reading.{itself_on}

-- ---- it ends well or in damage

abbrev Ends : RefreshOut → Type 0
Ends out = EndsSo Anything out.result

module _ (held : ReaderParts) where
  all_ends : (result : Result AllRead Stuck) → EndsSo Anything result → LooksAt held.room Ends (if_gathered held result)
  all_ends (Ok all) ends = tt
  all_ends (Err why) ends = no_good {R = AllRead} {S = Unit {0}} Anything Anything why ends

  unless_on : (o : Option Dropping) (listing : Listing) → LooksAt held.room Ends (unless_moved held o (reads_on held listing))
  unless_on None listing = at_then held.room Anything Ends (shares_from 1 (behind held listing) 0 []) (if_gathered held)
      (itself_on held.room (λ listed shares truncs. record { listed = listed; shares = shares; truncs = truncs }) 1 (behind held listing) refl (range_with_len 0 (1 - 0)) []) all_ends
  unless_on (Some d) listing = tt

  listed_ends : (result : Result Listing Stuck) → EndsSo (IsOf held.room) result → LooksAt held.room Ends (if_listed held result)
  listed_ends (Ok listing) ends = unless_on (moved held.hosts listing.droppings) listing
  listed_ends (Err why) ends = no_good {R = Listing} {S = Unit {0}} (IsOf held.room) Anything why ends

  refresh_on : LooksAt held.room Ends (refresh_program held)
  refresh_on = at_then held.room (IsOf held.room) Ends (scan_program held.room) (if_listed held) (scan_on held.room) listed_ends

-- ---- the statement

module _ (m : Moment) (me : ℕ) (p : Plain) (handle : Option WriterHandle) (actor : PlainActor) (declared : ActorDecl) (kept : Kept) (o : Mirrors m p) (has : HasActor m me p handle actor) (reader : OpenReader) (file : PlainReader) (is : actor.reader ≡ Some file) (it : MirrorsReader m reader file) where
  its_container : IsContainerAt reader.room m
  its_container = subst (IsContainerAt reader.room) (sym it.now) ((grows_after it.until it.since it.lawful it.sound).stands reader.room item.Access tt it.container)

  abbrev Held : ReaderParts
  Held = parts_of reader

  -- it was refreshed
  was_refreshed : (events : List Event) (parts : ReaderParts) (result : Result (Unit {0}) Stuck) → EndsWith me m events it.cut Held parts result → EndsSo Anything result → (result ≡ Ok tt) × HasRefreshedIn me m events it.cut (reader_from Held) (reader_from parts)
  was_refreshed events parts (Ok done) ends well = (refl, ends)
  was_refreshed events parts (Err why) ends well = absurd (no_fault {R = Unit {0}} Anything why well ends.1.0)

  -- A refresh ends as the machine's does.
  pub refresh_takes : (events : List Event) (out : RefreshOut) → IsLawful m.state events → GoesWell me events → AreBy me events → Runs me (refresh_program Held) events out
      → TakesOnReader m me declared actor p Refresh (reader_refreshed (without_reader kept) out).outcome (moment_after m events) handle (reader_refreshed (without_reader kept) out).kept.reader
  refresh_takes events out lawful well by runs =
      let l = looked reader.room me Ends events (refresh_program Held) m out o.sound its_container lawful well by (refresh_on Held) runs in
      let all : IsLawful it.until.state (it.since ++ events) = lawful_both it.since events it.until it.lawful (subst (λ (x : Moment). IsLawful x.state events) it.now lawful) in
      let ends : RefreshEnds me m events it.cut Held out = subst (λ x. RefreshEnds me x events it.cut Held out) (sym it.now) (refresh_ends me it.begin it.until Held it.cut it.since events out all it.sound it.container it.has runs) in
      let r = was_refreshed events out.parts out.result ends l.0 in
      let new : OpenReader = reader_from out.parts in
      let n : ℕ = file.room in
      let here : new.room ≡ n = r.1.room ∙ it.room in
      let had : IsContainerAt n m = subst (λ k. IsContainerAt k m) it.room its_container in
      let tree = its_room m o.sound n had in
      let at : room_then m n ≡ Some tree.0 = ap (λ t. room_told t n) o.sound.shape.told ∙ tree.1 in
      let room = some_room m n tree.0 (slice_get p.rooms n) (subst (λ x. MirrorsAt m n x (slice_get p.rooms n)) at (o.rooms n)) in
      let q : IsOpened m n events new = opened_so m n me events new o.sound had lawful (sights_of events (asked_only IsLook me events (refresh_program Held) out (refresh_looks Held) by runs)) r.1.opened in
      let last : Moment = moment_after m events in
      let line = line_is m n events new q here p o room.0 room.1 in
      let outcome : Outcome = refresh_told out.parts out.result in
      let said : outcome ≡ Reader new.size (cut_of new.covers) new.truncs = ap (refresh_told out.parts) r.0 in
      takes_reader m last l.1 (sound_after m events lawful o.sound) me p handle actor declared o has Refresh outcome (Some new) (Some (file_of n room.0)) (mirrored m n events new q here p o room.0 room.1)
      (on_reader actor file p outcome (with_reader me actor (Some (file_of n room.0)) p) (λ f. InRoom p f.room (λ x. Sees me actor p f.room x outcome (with_reader me actor (Some (file_of n room.0)) p))) is (room.0, room.1, (said ∙ line, refl)))
