-- What the statement that refreshes a reader shows.
use Rattle.std.proofs.Common.{◌≡◌, inl, inr, ℕ, List, ◌∷◌, ◌++◌, Option, Some, None, Result, Ok, Err, refl, sym, ap, ◌∙◌, subst}
use Rattle.std.specs.List.{All}
use Rattle.plain_file.specs.declared.parts.ReaderParts.{ReaderParts}
use Rattle.mount_model.specs.Process.{ends}
use Rattle.mount_model.specs.Plays.{Plays}
use Rattle.mount_model.specs.declared.call.Call.TheVariants.{Greet}
use Rattle.mount_model.specs.History.{Event}
use Rattle.mount_sound.specs.Owed.{IsLawful}
use Rattle.mount_model.specs.declared.stuck.Stuck.{Stuck}
use Rattle.mount_model.specs.Running.{Runs}
use Rattle.script_lang.specs.declared.line.Why.TheVariants.{NotOpen}
use Rattle.script_lang.specs.declared.script.Statement.TheVariants.{Refresh}
use Rattle.index_reader.specs.declared.opened.OpenReader.{OpenReader}
use Rattle.index_reader.specs.Opened.{parts_of, reader_from}
use Rattle.reader_laws.specs.Moments.{Moment, IsSoundAt, moment_after}
use Rattle.reader_laws.specs.Seen.{Asked, calls_of}
use Rattle.reader_laws.proofs.Gathered.Facts.{grows_after, legal_first}
use Rattle.reader_laws.specs.Failing.{IsContainerAt}
use Rattle.reader_laws.specs.Opened.{HasOpenReader, HasOpenedIn}
use Rattle.reader_laws.proofs.Facts.{container_later}
use Rattle.refresh_index.specs.declared.refreshing.RefreshOut.{RefreshOut}
use Rattle.refresh_index.specs.Refreshing.{refresh_program}
use Rattle.refresh_laws.specs.Refreshing.{EndsWith}
use Rattle.refresh_laws.proofs.WholeLemmas.{whole}
use Rattle.actor_core.specs.declared.kept.Kept.{Kept}
use Rattle.actor_core.specs.declared.kept.Stop.{Stop}
use Rattle.actor_core.specs.Endings.{Ending, refused, stopped}
use Rattle.actor_core.specs.Opened.{reader_refreshed, without_reader}
use Rattle.actor_core.specs.Readers.{refreshes}
use Rattle.actor_core.specs.Work.{finishes}
use Rattle.outcomes.specs.Outcomes.{stuck_outcome}
use Rattle.headline_laws.specs.OneFile.{OneFile}
use Rattle.headline_laws.specs.Opening.{Stretch}
use Rattle.headline_laws.specs.Showing.{ShowsRefreshed}
use Rattle.headline_laws.proofs.Plays.Callers.Carrying.{CourseOf, EndsSo, carried_on, ended, ended_behind, then_told}
use Rattle.headline_laws.proofs.Plays.Readers.Opened.{Good, HasFile, Keeps, file_of, has_later, opened_keeps, opened_sees, opened_tells}
use Rattle.headline_laws.proofs.Plays.Callers.Standing.{Both, FailedHere, Next, failed, lawful_together, up_to}

module _ (start : Moment) (sound : IsSoundAt start) (n : ℕ) (before greeting : List Event) (greets : All (λ (a : Asked). a.ask.call ≡ Greet) (calls_of n greeting)) where
  abbrev Here : Moment
  Here = moment_after start (before ++ greeting)

  abbrev At : List Event → Stretch
  At mine = record { before = before; events = greeting ++ mine }

  module _ (reader : OpenReader) (former : OneFile) (has : HasFile Here reader former) where
    -- ---- what a refresh comes to

    abbrev Came : List Event → RefreshOut → Type 0
    Came mine out = EndsWith n Here mine former.cut (parts_of reader) out.parts out.result

    came : (mine : List Event) (out : RefreshOut) → Next start (before ++ greeting) mine → Runs n (refresh_program (parts_of reader)) mine out → Came mine out
    came mine out next runs =
        let lawful : IsLawful former.moment.state (has.between ++ mine) = lawful_together former.moment has.between mine has.lawful (subst (λ (m : Moment). IsLawful m.state mine) (sym has.is_now) next.lawful) in
        let held : HasOpenReader has.opened former.moment (reader_from (parts_of reader)) former.cut = record {
          view = has.has.view;
          hosts = has.has.hosts;
          pieces = has.has.pieces;
          size = has.has.size;
          covers = has.has.covers;
        } in
        subst (λ (m : Moment). EndsWith n m mine former.cut (parts_of reader) out.parts out.result) has.is_now
        (whole n has.opened former.moment (parts_of reader) former.cut has.between mine out lawful has.sound has.container held runs)

    -- the room is a container's still
    still_container : (mine first rest : List Event) → Next start (before ++ greeting) mine → mine ≡ first ++ rest → IsContainerAt (moment_after Here first) reader.room
    still_container mine first rest next split =
        let here : IsContainerAt Here reader.room = subst (λ (m : Moment). IsContainerAt m reader.room) has.is_now
        (container_later former.moment (moment_after former.moment has.between) reader.room (grows_after former.moment has.between has.lawful has.sound) has.container) in
        let lawful : IsLawful Here.state first = legal_first Here first rest (subst (IsLawful Here.state) split next.lawful) in
        container_later Here (moment_after Here first) reader.room (grows_after Here first lawful next.sound) here

    refreshed_good : (kept : Kept) (mine : List Event) (parts : ReaderParts) (result : Result (Unit {0}) Stuck) → Both start before greeting mine → EndsWith n Here mine former.cut (parts_of reader) parts result
        → Good start n before greeting (Some former) Refresh mine (reader_refreshed (without_reader kept) (record { parts = parts; result = result }))
    refreshed_good kept mine parts (Ok done) b r =
        let new : OpenReader = reader_from parts in
        let h : HasOpenedIn n Here mine new = r.opened in
        let file : OneFile = file_of n Here mine new h in
        let container : IsContainerAt (moment_after Here h.before) new.room = subst (IsContainerAt (moment_after Here h.before)) (sym r.room) (still_container mine h.before (h.first ∷ h.more ++ h.listing ∷ h.later) b.next h.split) in (
          Some file,
          (
            file,
            refl,
            record {
              earlier = greeting ++ h.before;
              first = h.first;
              sees = opened_sees start n before greeting mine new sound b.next greets h;
              same = r.room ∙ sym has.room;
              above = r.above;
              came = r.more;
              truncates = r.truncates ∙ ap (λ z. z ++ r.more) (sym has.truncates);
            },
            opened_tells n Here mine new h,
          ),
          opened_keeps n Here mine new h b.next.sound b.next.lawful container,
        )
    refreshed_good kept mine parts (Err why) b (same, fails) =
        let f : FailedHere start before (greeting ++ mine) why = failed n start before greeting mine why b.whole fails in
        let later : HasFile (moment_after Here mine) reader former = has_later Here reader former mine has b.next.lawful in (
          Some former,
          subst (λ w. ShowsRefreshed start n (At mine) former (stuck_outcome w) (Some former)) (sym f.fault) (refl, f.rose),
          subst (λ (p : ReaderParts). HasFile (moment_after Here mine) (reader_from p) former) (sym same) later,
        )

  -- ---- the statement

  module _ {L : Type 0} (as_line : Ending → L) (next : Kept → CourseOf L) (kept : Kept) (stop : Option Stop) where
    pub refresh_ends : (r : Option OpenReader) (old : Option OneFile) (part : List Event) (ws : List (List Event)) (lines : List L) (left : CourseOf L) → kept.reader ≡ r → Keeps Here r old → Next start before (greeting ++ part)
        → Plays n (then_told as_line next (refreshes kept stop r)) part ws lines left → EndsSo n as_line next part ws lines left (Good start n before greeting old Refresh)
    refresh_ends None None part ws lines left is keeps at_it plays = ended n as_line next (refused kept NotOpen) ends part ws lines left (Good start n before greeting None Refresh) plays (None, (refl, refl), subst (λ x. Keeps Here x None) (sym is) tt)
    refresh_ends None (Some file) part ws lines left is keeps at_it plays = absurd keeps
    refresh_ends (Some reader) None part ws lines left is keeps at_it plays = absurd keeps
    refresh_ends (Some reader) (Some former) part ws lines left is keeps at_it plays =
        let G = Good start n before greeting (Some former) Refresh in
        elim (carried_on n as_line next (refresh_program (parts_of reader)) stop (λ later out. finishes (reader_refreshed (without_reader kept) out)) (finishes (stopped (without_reader kept))) part ws lines left plays) as (λ _. EndsSo n as_line next part ws lines left G) [
          | inl r ↦
              let b : Both start before greeting r.mine = up_to start before greeting part r.mine r.rest at_it r.all in
              ended_behind n as_line next (reader_refreshed (without_reader kept) r.result) ends part r.mine r.rest ws lines left G r.all r.goes_on
              (refreshed_good reader former keeps kept r.mine r.result.parts r.result.result b (came reader former keeps r.mine r.result b.next r.runs))
          | inr h ↦ ended_behind n as_line next (stopped (without_reader kept)) ends part h.mine h.rest ws lines left G h.all h.goes_on (None, refl, tt)
        ]
