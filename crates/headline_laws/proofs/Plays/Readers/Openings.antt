-- What the statement that opens a reader shows.
use Rattle.std.proofs.Common.{◌≡◌, inl, inr, ℕ, ◌≤◌, ◌-◌, List, [], ◌∷◌, ◌++◌, map, Option, Some, None, Result, Ok, Err, refl, sym, ap, ◌∙◌, subst, append_assoc}
use Rattle.std.specs.List.{All, AllByRecursion, range_with_len}
use Rattle.std.proofs.lemmas.List.{append-nil}
use Rattle.std.proofs.lemmas.List.Elements.{All-from_recursion, recursion_from_All}
use Rattle.plfs_types.specs.declared.entries.Trunc.{Trunc}
use Rattle.plain_file.specs.Runs.{AreRuns}
use Rattle.turn_object.specs.Callers.{made_by}
use Rattle.turn_object.specs.Front.{KeepsIn}
use Rattle.mount_model.specs.Calls.{AreCallsOfEach}
use Rattle.mount_model.specs.Moves.{WorkersCall}
use Rattle.mount_model.specs.Process.{ends}
use Rattle.mount_model.specs.Plays.{Plays}
use Rattle.mount_model.proofs.Stories.Facts.{after_own}
use Rattle.mount_model.specs.declared.call.Call.TheVariants.{Greet}
use Rattle.mount_model.specs.Paths.{Name}
use Rattle.mount_model.specs.History.{Event, state_after}
use Rattle.mount_sound.specs.Owed.{IsLawful}
use Rattle.mount_model.specs.declared.stuck.Stuck.{Stuck}
use Rattle.mount_model.specs.Running.{asking, Runs}
use Rattle.mount_model.specs.FlowReplies.{on_ok}
use Rattle.script_lang.specs.declared.script.Statement.TheVariants.{Ropen}
use Rattle.index_reader.specs.declared.listing.Dropping.{Dropping as Listed}
use Rattle.index_reader.specs.declared.listing.Listing.{Listing}
use Rattle.index_reader.specs.declared.opened.OpenReader.{OpenReader}
use Rattle.index_reader.specs.declared.sharing.Share.{Share}
use Rattle.index_reader.specs.Gathered.{pieces_of_each, IsGatheredOf}
use Rattle.index_reader.specs.Opening.{open_read_program}
use Rattle.index_reader.specs.Sharing.{share_program}
use Rattle.reader_laws.specs.Moments.{Moment, IsNamed, IsSoundAt, moment_after}
use Rattle.reader_laws.specs.Seen.{Asked, calls_of}
use Rattle.reader_laws.proofs.Gathered.Facts.{legal_first, legal_rest, sound_after}
use Rattle.plain_file.proofs.Facts.{Among}
use Rattle.reader_laws.specs.Failing.{FailsByStore}
use Rattle.reader_laws.specs.Opened.{IsReaderOf, HasOpenedIn}
use Rattle.reader_laws.specs.Opening.{droppings_of, shares_of, Work, portions_of, Lists}
use Rattle.reader_laws.specs.Sharing.{in_room}
use Rattle.reader_laws.proofs.Facts.{first_of, listing_fails, opens_alone, opens_each, shares_fail, truncates_fail}
use Rattle.gather_flow.specs.Dealing.{dealt_to}
use Rattle.actor_core.specs.declared.kept.Kept.{Kept}
use Rattle.actor_core.specs.declared.kept.Stop.{Stop}
use Rattle.actor_core.specs.Endings.{Ending, ending, stopped}
use Rattle.gather_flow.specs.OneIndex.{reader_of}
use Rattle.actor_core.specs.Opened.{opens, reader_opened}
use Rattle.outcomes.specs.Outcomes.{stuck_outcome}
use Rattle.gather_flow.specs.Shares.{programs_from, by_itself}
use Rattle.actor_core.specs.Readers.{if_listed, opens_reader}
use Rattle.gather_flow.specs.Workers.{all_of}
use Rattle.actor_core.specs.Sharing.{shared}
use Rattle.actor_core.specs.Stopping.{carried}
use Rattle.actor_core.specs.Work.{Work as Doing, finishes}
use Rattle.sharing_laws.proofs.Facts.{OpensSo, ReadAll, all_among, all_named, dealt, dealt_listed, err_is, opens_so, parts_gathered, parts_of, pieces_run, read_alone, reader_made, runs_by_workers, runs_in_turn, was_listed}
use Rattle.headline_laws.specs.Opening.{Stretch}
use Rattle.headline_laws.specs.Showing.{ShowsOpening}
use Rattle.headline_laws.proofs.Plays.Readers.ByWorkers.{CallsIn, WorkerFailed, none_both, read_by_workers, calls_wider}
use Rattle.headline_laws.proofs.Plays.Callers.Carrying.{CourseOf, EndsSo, carried_on, ended_behind, then_told}
use Rattle.headline_laws.proofs.Plays.Readers.Listings.{finds_first}
use Rattle.headline_laws.proofs.Plays.Readers.Opened.{Good, Keeps, HasOpenedFile, file_opened}
use Rattle.headline_laws.proofs.Plays.Callers.Standing.{AllOf, Both, FailedHere, Next, failed_within, keeps_first, up_to}

module _ (start : Moment) (sound : IsSoundAt start) (n : ℕ) (before greeting : List Event) (greets : All (λ (a : Asked). a.ask.call ≡ Greet) (calls_of n greeting)) where
  abbrev Here : Moment
  Here = moment_after start (before ++ greeting)

  module _ (name : Name) (workers : ℕ) (some : 1 ≤ workers) where
    -- ---- what came of an opening

    abbrev Came : List Event → Result OpenReader Stuck → Type 0
    Came mine (Ok reader) = HasOpenedFile start n before greeting mine name reader
    Came mine (Err why) = FailedHere start before (greeting ++ mine) why

    abbrev At : List Event → Stretch
    At mine = record { before = before; events = greeting ++ mine }

    came_good : (kept : Kept) (mine : List Event) (result : Result OpenReader Stuck) → kept.reader ≡ None → Came mine result → Good start n before greeting None (Ropen name workers) mine (reader_opened kept result)
    came_good kept mine (Ok reader) none o = (Some o.file, (o.file, refl, o.opens, o.tells), o.keeps)
    came_good kept mine (Err why) none f = (
      None,
      subst (λ w. ShowsOpening start n (At mine) name (stuck_outcome w) None) (sym f.fault) (refl, f.rose),
      subst (λ r. Keeps (moment_after Here mine) r None) (sym none) tt,
    )

    stopped_good : (kept : Kept) (mine : List Event) → kept.reader ≡ None → Good start n before greeting None (Ropen name workers) mine (stopped kept)
    stopped_good kept mine none = (None, (refl, tt), subst (λ r. Keeps (moment_after Here mine) r None) (sym none) tt)

    -- ---- behind a listing

    module _ (listing : Listing) (scanning : List Event) (scans : Runs n (open_read_program name) scanning (Ok listing)) where
      lists : Lists (open_read_program name)
      lists = inl (name, refl)

      -- the pieces of what was read are in order, and the droppings have their names
      runs_all : (rest : List Event) (shares : List Share) → Next start (before ++ greeting) (scanning ++ rest) → AllByRecursion (λ (s : Share). AreRuns s.pieces) shares → AllByRecursion AreRuns (listing.flat.pieces ∷ pieces_of_each shares)
      runs_all rest shares next all = pieces_run n Here next.sound (open_read_program name) lists listing scanning scans rest shares next.lawful all

      named_all : (rest : List Event) → Next start (before ++ greeting) (scanning ++ rest) → AllByRecursion (λ (d : Listed). IsNamed (in_room listing.room d)) listing.droppings
      named_all rest next = all_named n Here next.sound (open_read_program name) lists listing scanning scans rest next.lawful

      abbrev numbers : List ℕ
      numbers = range_with_len 0 (workers - 0)

      -- the reader that was made of what was read
      reader_came : (rest : List Event) (shares : List Share) (truncs : List Trunc) (reader : OpenReader) → Both start before greeting (scanning ++ rest) → AllByRecursion (λ (s : Share). AreRuns s.pieces) shares → reader ≡ reader_of listing shares truncs
          → ((parts : _) (made : OpenReader) → IsGatheredOf listing shares truncs parts → IsReaderOf parts made → HasOpenedIn n Here (scanning ++ rest) made) → Came (scanning ++ rest) (Ok reader)
      reader_came rest shares truncs reader b all is opening =
          let runs : AllByRecursion AreRuns (listing.flat.pieces ∷ pieces_of_each shares) = runs_all rest shares b.next all in
          let made : OpenReader = reader_of listing shares truncs in
          let opened : HasOpenedIn n Here (scanning ++ rest) made = opening (parts_of listing shares truncs) made (parts_gathered listing shares truncs runs) (reader_made listing shares truncs runs) in
          subst (HasOpenedFile start n before greeting (scanning ++ rest) name) (sym is) (file_opened start n before greeting (scanning ++ rest) scanning rest name listing made sound b.next greets refl (finds_first n name scanning listing scans) refl opened)

      -- ---- the actor reads the shares by itself

      alone_came : (mine : List Event) (result : Result OpenReader Stuck) → Both start before greeting (scanning ++ mine) → Runs n (by_itself (programs_from workers listing 0) [] (opens listing)) mine result → Came (scanning ++ mine) result
      alone_came mine result b runs = elim (read_alone reader_of n workers listing numbers [] mine result runs) as (λ _. Came (scanning ++ mine) result) [
        | inl r ↦ read_came result r
        | inr f ↦
            let fails : FailsByStore n (state_after Here.state (scanning ++ f.between)) f.reading f.why =
            shares_fail n n (open_read_program name) Here scanning f.between f.reading listing (dealt_to workers f.worker 0 listing.droppings) f.why (subst (λ es. IsLawful Here.state (scanning ++ es)) f.split b.next.lawful) b.next.sound lists scans (dealt_listed workers f.worker listing.droppings) f.runs in
            let split : scanning ++ mine ≡ (scanning ++ f.between) ++ (f.reading ++ []) = ap (λ z. scanning ++ z) f.split ∙ sym (append_assoc scanning f.between f.reading) ∙ ap (λ z. (scanning ++ f.between) ++ z) (sym (append-nil f.reading)) in
            subst (Came (scanning ++ mine)) (sym f.is) (failed_within n start before greeting (scanning ++ mine) (scanning ++ f.between) f.reading [] f.why b.whole split fails)
      ]
        where
          read_came : (out : Result OpenReader Stuck) → ReadAll reader_of n workers listing numbers [] mine out → Came (scanning ++ mine) out
          read_came (Err why) r =
              let fails : FailsByStore n (state_after Here.state (scanning ++ r.gathering)) r.rest why =
              truncates_fail n n (open_read_program name) Here scanning r.gathering r.rest listing why (subst (λ es. IsLawful Here.state (scanning ++ es)) r.split b.next.lawful) b.next.sound lists scans r.opened in
              let split : scanning ++ mine ≡ (scanning ++ r.gathering) ++ (r.rest ++ []) = ap (λ z. scanning ++ z) r.split ∙ sym (append_assoc scanning r.gathering r.rest) ∙ ap (λ z. (scanning ++ r.gathering) ++ z) (sym (append-nil r.rest)) in
              failed_within n start before greeting (scanning ++ mine) (scanning ++ r.gathering) r.rest [] why b.whole split fails
          read_came (Ok reader) r =
              let h = was_listed n Here b.next.sound (open_read_program name) lists listing scanning scans mine b.next.lawful in
              let parted : IsLawful (moment_after Here scanning).state (r.gathering ++ r.rest) = subst (IsLawful (moment_after Here scanning).state) r.split (legal_rest Here scanning mine b.next.lawful) in
              let its : (d : Listed) → Among d (droppings_of r.portions) → Among d listing.droppings = λ d a. all_among workers listing.droppings numbers d (subst (Among d) r.dealt a) in
              let all = runs_in_turn n listing (moment_after Here scanning) r.portions r.gathering (named_all mine b.next) its (legal_first (moment_after Here scanning) r.gathering r.rest parted) (sound_after Here scanning (legal_first Here scanning mine b.next.lawful) b.next.sound) r.reads in
              reader_came mine (shares_of r.portions) r.opened.truncs reader b all r.opened.is
              (λ parts made gathered reads. opens_alone n Here (scanning ++ mine) listing r.portions r.opened.truncs parts made b.next.lawful b.next.sound (record {
                program = open_read_program name;
                lists = lists;
                scanning = scanning;
                gathering = r.gathering;
                listing_truncs = r.rest;
                split = ap (λ z. scanning ++ z) r.split;
                scans = scans;
                dealt = dealt workers listing.droppings r.portions some h.droppings.ascend r.dealt;
                reads = r.reads;
                truncates = r.opened.runs;
              }) gathered reads)

      -- ---- workers read the shares

      same_shares : (a b : List Share) → ◌≡◌ {A = Result (List Share) Stuck} (Ok a) (Ok b) → a ≡ b
      same_shares a b e = cc

      no_shares : (a : List Share) (why : Stuck) → ◌≡◌ {A = Result (List Share) Stuck} (Ok a) (Err why) → ⊥
      no_shares a why e = cc

      -- the shares were read in these events, and the caller goes on with what came of them
      workers_came : (first during following tail : List Event) (these : List (List Event)) (results : List (Result Share Stuck)) (result : Result OpenReader Stuck) → Both start before greeting (scanning ++ (first ++ (during ++ following)))
          → made_by n first ≡ [] → made_by n during ≡ [] → AllByRecursion (KeepsIn during) these → AllByRecursion (KeepsIn (((before ++ greeting) ++ scanning) ++ ((first ++ (during ++ following)) ++ tail))) these
          → AreCallsOfEach (map asking (programs_from workers listing 0)) these results → Runs n (on_ok (opens listing) (all_of results)) following result → Came (scanning ++ (first ++ (during ++ following))) result
      workers_came first during following tail these results result b none_first none_during here whole made runs =
          elim (read_by_workers workers listing numbers (first ++ (during ++ [])) these results (in_part [] following refl refl) made) as (λ _. Came mine result) [
            | inl r ↦ read_so result r.shares (opens_so reader_of n listing (shares_of (portions_of r.works)) following result (subst (λ o. Runs n (on_ok (opens listing) o) following result) r.shares runs))
            | inr f ↦ failed_so result f (subst (λ o. Runs n (on_ok (opens listing) o) following result) f.is runs)
          ]
        where
          mine : List Event
          mine = scanning ++ (first ++ (during ++ following))

          -- the workers' calls in the events up to one of the caller's
          in_part : (upto more : List Event) → following ≡ upto ++ more → made_by n upto ≡ [] → AllByRecursion (CallsIn (first ++ (during ++ upto))) these
          in_part upto more split none =
              let regrouped : (first ++ (during ++ following)) ++ tail ≡ (first ++ (during ++ upto)) ++ (more ++ tail) =
              ap (λ z. (first ++ (during ++ z)) ++ tail) split ∙ ap (λ z. (first ++ z) ++ tail) (sym (append_assoc during upto more)) ∙ ap (λ z. z ++ tail) (sym (append_assoc first (during ++ upto) more)) ∙ append_assoc (first ++ (during ++ upto)) more tail in
              calls_wider n ((before ++ greeting) ++ scanning) first during upto (more ++ tail) these (none_both n first (during ++ upto) none_first (none_both n during upto none_during none))
              (subst (λ es. AllByRecursion (KeepsIn (((before ++ greeting) ++ scanning) ++ es)) these) regrouped whole) here

          failed_so : (out : Result OpenReader Stuck) (f : WorkerFailed workers listing (first ++ (during ++ [])) results) → Runs n (on_ok (opens listing) (Err f.why)) following out → Came mine out
          failed_so (Ok reader) f over = (let clash : ◌≡◌ {A = Result OpenReader Stuck} (Err f.why) (Ok reader) = over.1 in absurd (cc))
          failed_so (Err why) f over =
              let same : f.why ≡ why = err_is {R = OpenReader} f.why why over.1 in
              let part : List Event = first ++ (during ++ []) in
              let split : mine ≡ (scanning ++ []) ++ (part ++ following) =
              ap (λ z. z ++ (first ++ (during ++ following))) (sym (append-nil scanning)) ∙ ap (λ z. (scanning ++ []) ++ z) (sym (append_assoc first (during ++ []) following ∙ ap (λ z. first ++ z) (append_assoc during [] following))) in
              let lawful : IsLawful Here.state (scanning ++ ([] ++ part)) = legal_first Here (scanning ++ part) following (subst (IsLawful Here.state) (split ∙ ap (λ z. z ++ (part ++ following)) (append-nil scanning) ∙ sym (append_assoc scanning part following)) b.next.lawful) in
              let fails : FailsByStore f.caller (state_after Here.state (scanning ++ [])) part f.why =
              shares_fail n f.caller (open_read_program name) Here scanning [] part listing (dealt_to workers f.worker 0 listing.droppings) f.why lawful b.next.sound lists scans (dealt_listed workers f.worker listing.droppings) f.runs in
              subst (FailedHere start before (greeting ++ mine)) same (failed_within f.caller start before greeting mine (scanning ++ []) part following f.why b.whole split fails)

          read_so : {shares : List Share} (out : Result OpenReader Stuck) → all_of results ≡ Ok shares → OpensSo reader_of n listing shares following out → Came mine out
          read_so {shares} (Err why) told reads =
              let split : mine ≡ (scanning ++ (first ++ during)) ++ (following ++ []) =
              ap (λ z. scanning ++ z) (sym (append_assoc first during following)) ∙ sym (append_assoc scanning (first ++ during) following) ∙ ap (λ z. (scanning ++ (first ++ during)) ++ z) (sym (append-nil following)) in
              let lawful : IsLawful Here.state (scanning ++ ((first ++ during) ++ following)) = subst (λ es. IsLawful Here.state (scanning ++ es)) (sym (append_assoc first during following)) b.next.lawful in
              let fails : FailsByStore n (state_after Here.state (scanning ++ (first ++ during))) following why = truncates_fail n n (open_read_program name) Here scanning (first ++ during) following listing why lawful b.next.sound lists scans reads in
              failed_within n start before greeting mine (scanning ++ (first ++ during)) following [] why b.whole split fails
          read_so {shares} (Ok reader) told l =
              let f = first_of n _ _ following (Ok l.truncs) l.runs in
              let part : List Event = first ++ (during ++ f.before) in
              elim (read_by_workers workers listing numbers part these results (in_part f.before (f.event ∷ f.later) f.split f.waits) made) as (λ _. Came mine (Ok reader)) [
                | inl r ↦
                    let same : shares ≡ shares_of (portions_of r.works) = same_shares shares (shares_of (portions_of r.works)) (sym told ∙ r.shares) in
                    let h = was_listed n Here b.next.sound (open_read_program name) lists listing scanning scans (first ++ (during ++ following)) b.next.lawful in
                    let split : first ++ (during ++ following) ≡ part ++ f.event ∷ f.later =
                    ap (λ z. first ++ (during ++ z)) f.split ∙ ap (λ z. first ++ z) (sym (append_assoc during f.before (f.event ∷ f.later))) ∙ sym (append_assoc first (during ++ f.before) (f.event ∷ f.later)) in
                    let there : Moment = moment_after Here scanning in
                    let lawful : IsLawful there.state part = legal_first there part (f.event ∷ f.later) (subst (IsLawful there.state) split (legal_rest Here scanning (first ++ (during ++ following)) b.next.lawful)) in
                    let its : (d : Listed) → Among d (droppings_of (portions_of r.works)) → Among d listing.droppings = λ d a. all_among workers listing.droppings numbers d (subst (Among d) r.dealt a) in
                    let all = runs_by_workers listing there r.works part (named_all (first ++ (during ++ following)) b.next) its lawful (sound_after Here scanning (legal_first Here scanning (first ++ (during ++ following)) b.next.lawful) b.next.sound) r.reads in
                    reader_came (first ++ (during ++ following)) (shares_of (portions_of r.works)) l.truncs reader b all (l.is ∙ ap (λ ss. reader_of listing ss l.truncs) same)
                    (λ parts made_reader gathered reads. opens_each n Here mine listing r.works l.truncs parts made_reader b.next.lawful b.next.sound (record {
                      program = open_read_program name;
                      lists = lists;
                      scanning = scanning;
                      gathering = part;
                      last = f.event;
                      later = f.later;
                      split = ap (λ z. scanning ++ z) split;
                      scans = scans;
                      dealt = dealt workers listing.droppings (portions_of r.works) some h.droppings.ascend r.dealt;
                      reads = All-from_recursion (λ (w : Work). Runs w.worker (share_program listing.room w.portion.droppings listing.flat.covers) part (Ok w.portion.share)) r.works r.reads;
                      by_caller = f.by_caller;
                      truncates = after_own n _ _ f.event f.later (Ok l.truncs) f.by_caller f.asked f.rest;
                    }) gathered reads)
                | inr failure ↦ absurd (no_shares shares failure.why (sym told ∙ failure.is))
              ]

    -- ---- the statement

    module _ {L : Type 0} (as_line : Ending → L) (next : Kept → CourseOf L) (kept : Kept) (none : kept.reader ≡ None) where
      abbrev Ends : List Event → List (List Event) → List L → CourseOf L → Type 0
      Ends part ws lines left = EndsSo n as_line next part ws lines left (Good start n before greeting None (Ropen name workers))

      goes : Option Stop → Result OpenReader Stuck → Doing
      goes later result = finishes (reader_opened kept result)

      -- it is stopped
      halted : (part first rest : List Event) (ws : List (List Event)) (lines : List L) (left : CourseOf L) → part ≡ first ++ rest → Plays n (then_told as_line next (finishes (stopped kept))) rest ws lines left → Ends part ws lines left
      halted part first rest ws lines left split plays = ended_behind n as_line next (stopped kept) ends part first rest ws lines left (Good start n before greeting None (Ropen name workers)) split plays (stopped_good kept first none)

      -- the reader is opened, or a trouble was met
      came : (part mine rest : List Event) (result : Result OpenReader Stuck) (ws : List (List Event)) (lines : List L) (left : CourseOf L) → part ≡ mine ++ rest → Came mine result → Plays n (then_told as_line next (finishes (reader_opened kept result))) rest ws lines left → Ends part ws lines left
      came part mine rest result ws lines left split c plays = ended_behind n as_line next (reader_opened kept result) ends part mine rest ws lines left (Good start n before greeting None (Ropen name workers)) split plays (came_good kept mine result none c)

      alone_ends : (listing : Listing) (scanning : List Event) (scans : Runs n (open_read_program name) scanning (Ok listing)) (stop : Option Stop) (part rest : List Event) (ws : List (List Event)) (lines : List L) (left : CourseOf L) → Next start before (greeting ++ part) → part ≡ scanning ++ rest
          → Plays n (then_told as_line next (carried (by_itself (programs_from workers listing 0) [] (opens listing)) stop (λ later result. finishes (reader_opened kept result)) (finishes (stopped kept)))) rest ws lines left → Ends part ws lines left
      alone_ends listing scanning scans stop part rest ws lines left whole split plays =
          elim (carried_on n as_line next (by_itself (programs_from workers listing 0) [] (opens listing)) stop (λ later result. finishes (reader_opened kept result)) (finishes (stopped kept)) rest ws lines left plays) as (λ _. Ends part ws lines left) [
            | inl r ↦
                let is : part ≡ (scanning ++ r.mine) ++ r.rest = split ∙ ap (λ z. scanning ++ z) r.all ∙ sym (append_assoc scanning r.mine r.rest) in
                came part (scanning ++ r.mine) r.rest r.result ws lines left is (alone_came listing scanning scans r.mine r.result (up_to start before greeting part (scanning ++ r.mine) r.rest whole is) r.runs) r.goes_on
            | inr h ↦ halted part (scanning ++ h.mine) h.rest ws lines left (split ∙ ap (λ z. scanning ++ z) h.all ∙ sym (append_assoc scanning h.mine h.rest)) h.goes_on
          ]

      -- the same where workers were spent
      spend : (part : List Event) (ws these later : List (List Event)) (lines : List L) (left : CourseOf L) → ws ≡ these ++ later → Ends part later lines left → Ends part ws lines left
      spend part ws these later lines left are e = record {
        mine = e.mine;
        rest = e.rest;
        spent = these ++ e.spent;
        others = e.others;
        ending = e.ending;
        more = e.more;
        all = e.all;
        are = are ∙ ap (λ z. these ++ z) e.are ∙ sym (append_assoc these e.spent e.others);
        told = e.told;
        goes_on = e.goes_on;
        good = e.good;
      }

      workers_end : (listing : Listing) (scanning : List Event) (scans : Runs n (open_read_program name) scanning (Ok listing)) (part rest : List Event) (ws : List (List Event)) (lines : List L) (left : CourseOf L) → Next start before (greeting ++ part) → AllOf (before ++ greeting) part ws → part ≡ scanning ++ rest
          → WorkersCall n (map asking (programs_from workers listing 0)) rest ws (λ results after later. Plays n (then_told as_line next (carried (on_ok (opens listing) (all_of results)) None (λ later result. finishes (reader_opened kept result)) (finishes (stopped kept)))) after later lines left) → Ends part ws lines left
      workers_end listing scanning scans part rest ws lines left whole keeps split w =
          let to_after : part ≡ (scanning ++ (w.before ++ w.during)) ++ w.after = split ∙ ap (λ z. scanning ++ z) (w.all ∙ sym (append_assoc w.before w.during w.after)) ∙ sym (append_assoc scanning (w.before ++ w.during) w.after) in
          spend part ws w.these w.later lines left w.are
          (elim (carried_on n as_line next (on_ok (opens listing) (all_of w.results)) None (λ later result. finishes (reader_opened kept result)) (finishes (stopped kept)) w.after w.later lines left w.goes_on) as (λ _. Ends part w.later lines left) [
            | inl r ↦
                let mine : List Event = scanning ++ (w.before ++ (w.during ++ r.mine)) in
                let is : part ≡ mine ++ r.rest =
                split ∙ ap (λ z. scanning ++ z) (w.all ∙ ap (λ z. w.before ++ (w.during ++ z)) r.all ∙ ap (λ z. w.before ++ z) (sym (append_assoc w.during r.mine r.rest)) ∙ sym (append_assoc w.before (w.during ++ r.mine) r.rest))
                ∙ sym (append_assoc scanning (w.before ++ (w.during ++ r.mine)) r.rest) in
                let regrouped : (before ++ greeting) ++ (part ++ keeps.tail) ≡ ((before ++ greeting) ++ scanning) ++ ((w.before ++ (w.during ++ r.mine)) ++ (r.rest ++ keeps.tail)) =
                ap (λ z. (before ++ greeting) ++ (z ++ keeps.tail)) is ∙ ap (λ z. (before ++ greeting) ++ z) (append_assoc mine r.rest keeps.tail ∙ append_assoc scanning (w.before ++ (w.during ++ r.mine)) (r.rest ++ keeps.tail))
                ∙ sym (append_assoc (before ++ greeting) scanning ((w.before ++ (w.during ++ r.mine)) ++ (r.rest ++ keeps.tail))) in
                let here : AllByRecursion (KeepsIn ((before ++ greeting) ++ (part ++ keeps.tail))) w.these =
                keeps_first ((before ++ greeting) ++ (part ++ keeps.tail)) w.these w.later (subst (AllByRecursion (KeepsIn ((before ++ greeting) ++ (part ++ keeps.tail)))) w.are keeps.keeps) in
                came part mine r.rest r.result w.later lines left is
                (workers_came listing scanning scans w.before w.during r.mine (r.rest ++ keeps.tail) w.these w.results r.result (up_to start before greeting part mine r.rest whole is) w.none_before w.none_during
                (recursion_from_All (KeepsIn w.during) w.these w.whole) (subst (λ es. AllByRecursion (KeepsIn es) w.these) regrouped here) w.made r.runs)
                r.goes_on
            | inr h ↦ halted part ((scanning ++ (w.before ++ w.during)) ++ h.mine) h.rest w.later lines left (to_after ∙ ap (λ z. (scanning ++ (w.before ++ w.during)) ++ z) h.all ∙ sym (append_assoc (scanning ++ (w.before ++ w.during)) h.mine h.rest)) h.goes_on
          ])

      shared_ends : (listing : Listing) (scanning : List Event) (scans : Runs n (open_read_program name) scanning (Ok listing)) (stop : Option Stop) (part rest : List Event) (ws : List (List Event)) (lines : List L) (left : CourseOf L) → Next start before (greeting ++ part) → AllOf (before ++ greeting) part ws → part ≡ scanning ++ rest
          → Plays n (then_told as_line next (shared stop (programs_from workers listing 0) (opens listing) (λ later result. finishes (reader_opened kept result)) (finishes (stopped kept)))) rest ws lines left → Ends part ws lines left
      shared_ends listing scanning scans None part rest ws lines left whole keeps split (inl w) = workers_end listing scanning scans part rest ws lines left whole keeps split w
      shared_ends listing scanning scans None part rest ws lines left whole keeps split (inr plays) = alone_ends listing scanning scans None part rest ws lines left whole split plays
      shared_ends listing scanning scans (Some stop) part rest ws lines left whole keeps split plays = alone_ends listing scanning scans (Some stop) part rest ws lines left whole split plays

      -- where the listing came to its end
      listed_ends : (result : Result Listing Stuck) (mine rest : List Event) (stop : Option Stop) (part : List Event) (ws : List (List Event)) (lines : List L) (left : CourseOf L) → Next start before (greeting ++ part) → AllOf (before ++ greeting) part ws → part ≡ mine ++ rest → Runs n (open_read_program name) mine result
          → Plays n (then_told as_line next (if_listed kept workers stop result)) rest ws lines left → Ends part ws lines left
      listed_ends (Ok listing) mine rest stop part ws lines left whole keeps split runs plays = shared_ends listing mine runs stop part rest ws lines left whole keeps split plays
      listed_ends (Err why) mine rest stop part ws lines left whole keeps split runs plays =
          let b : Both start before greeting mine = up_to start before greeting part mine rest whole split in
          let still : Keeps (moment_after Here mine) kept.reader None = subst (λ r. Keeps (moment_after Here mine) r None) (sym none) tt in
          let shows : ShowsOpening start n (At mine) name (stuck_outcome why) None = elim (listing_fails n (open_read_program name) Here mine why b.next.lawful b.next.sound (inl (name, refl)) runs) as (λ _. ShowsOpening start n (At mine) name (stuck_outcome why) None) [
            | inl fails ↦
                let f = failed_within n start before greeting mine [] mine [] why b.whole (sym (append-nil mine)) fails in
                subst (λ w. ShowsOpening start n (At mine) name (stuck_outcome w) None) (sym f.fault) (refl, f.rose)
            | inr lacks ↦ subst (λ w. ShowsOpening start n (At mine) name (stuck_outcome w) None) (sym lacks) (refl, refl)
          ] in
          ended_behind n as_line next (ending (stuck_outcome why) kept) ends part mine rest ws lines left (Good start n before greeting None (Ropen name workers)) split plays (None, shows, still)

      pub opening_ends : (stop : Option Stop) (part : List Event) (ws : List (List Event)) (lines : List L) (left : CourseOf L) → Next start before (greeting ++ part) → AllOf (before ++ greeting) part ws
          → Plays n (then_told as_line next (opens_reader kept stop name workers None)) part ws lines left → EndsSo n as_line next part ws lines left (Good start n before greeting None (Ropen name workers))
      opening_ends stop part ws lines left whole keeps plays =
          elim (carried_on n as_line next (open_read_program name) stop (if_listed kept workers) (finishes (stopped kept)) part ws lines left plays) as (λ _. Ends part ws lines left) [
            | inl r ↦ listed_ends r.result r.mine r.rest r.stop part ws lines left whole keeps r.all r.runs r.goes_on
            | inr h ↦ halted part h.mine h.rest ws lines left h.all h.goes_on
          ]
