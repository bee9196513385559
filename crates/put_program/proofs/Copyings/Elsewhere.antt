-- A copying leaves each container with another name still.
use Rattle.std.proofs.Common.{◌≡◌, ℕ, suc, ◌<◌, inl, inr, Bool, true, false, List, [], ◌∷◌, ◌++◌, Result, Ok, Err, refl, sym, ap, ◌∙◌, subst, arith, append_assoc, append-nil}
use Rattle.std.specs.List.{AllByRecursion}
use Rattle.edge_io.specs.Source.{Given}
use Rattle.store_api.specs.declared.store.Trouble.TheVariants as trouble_of
use Rattle.store_api.specs.declared.step.Answer.TheVariants.{Made, NoFolder}
use Rattle.mount_model.specs.declared.call.Ask.{Ask}
use Rattle.mount_model.specs.declared.call.Call.TheVariants as call
use Rattle.mount_model.specs.declared.reply.Refusal.{Refusal}
use Rattle.mount_model.specs.declared.reply.Reply.{Reply}
use Rattle.mount_model.specs.declared.reply.Reply.TheVariants as reply
use Rattle.mount_model.specs.Entering.{Enters as EntersRoom, EntersAs, draw_check, enter_outcome, entered, next_id}
use Rattle.mount_model.specs.History.{Event, state_after}
use Rattle.mount_model.specs.Making.{Refuses, Told}
use Rattle.mount_model.specs.Paths.{Name, index_path, log_path, trunc_path}
use Rattle.mount_model.specs.State.{State, last_id}
use Rattle.mount_model.proofs.Facts.{match_cases}
use Rattle.mount_sound.specs.Dropping.{bytes_of}
use Rattle.mount_sound.specs.Owed.{IsLawful}
use Rattle.mount_sound.specs.There.{entries_there}
use Rattle.mount_model.specs.declared.stuck.Stuck.{Stuck}
use Rattle.mount_model.specs.Running.{Runs}
use Rattle.lone_flow.specs.Driving.{Makes, greets_first}
use Rattle.trunc_rename.specs.Truncating.{truncate_program}
use Rattle.writer_flow.specs.declared.handle.WriterHandle.{WriterHandle}
use Rattle.writer_flow.specs.Opening.{if_made, open_program}
use Rattle.writer_laws.proofs.Facts.{EnteredBy, entered_by}
use Rattle.reader_laws.specs.Moments.{HadTrunc, IsSoundAt, Moment, file_told, landed_by, moment_after, next_moment}
use Rattle.reader_laws.proofs.Gathered.Facts.{follows, legal_first, legal_rest, moment-append, sound_after}
use Rattle.reader_laws.proofs.Gathered.Moments.Bounds.{trunc_stays}
use Rattle.reader_laws.proofs.Facts.{answered}
use Rattle.packing_laws.proofs.Facts.{IsMade, Opens, comes_both, is_made, opens as opens_writer}
use Rattle.copy_core.specs.declared.copying.Copied.{Copied}
use Rattle.copy_core.specs.Clearing.{BeginsToClear, Clears, free_program}
use Rattle.copy_core.specs.Copying.{BeginsToCopy, BeginsToCopyInto, Copies, CopiesInto, clears, clears_none, opens, opens_none, to_clear, to_copy, to_go_on, to_open}
use Rattle.put_program.specs.Others.{LeavesOthersStill}
use Rattle.put_program.specs.Shown.{IsStill}
use Rattle.put_program.proofs.Copyings.Apart.{Mine, begun_else, by_else}
use Rattle.put_program.proofs.Copyings.Asked.{Asks, Enters, Truncates, all_asked, asks_weaker, made_asks, truncate_asks}
use Rattle.put_program.proofs.Copyings.Cleared.{all_rest, container_of}
use Rattle.put_program.proofs.Copyings.Marking.{truncate_leaves}
use Rattle.put_program.proofs.Copyings.Opened.{apart}
use Rattle.put_program.proofs.Copyings.Spared.{HasContainer, IssuesNone, LandsOnly, MovesNone, all_spared, issued_same, landed_same, named_later}
use Rattle.put_program.proofs.Copyings.Staying.{SparesAll, Stays, Stretch, asked_front, free_spares, front_begun, front_whole, lands_none, lands_none_events, open_spares, sound_there, stays_both, stretch_both}

-- ---- the opening of the writer

drawn_id : (old : State) (caller room host w : ℕ) (rep : Reply) (new : State) → EntersRoom caller room host 1 old rep new → rep ≡ reply.Entered w → next_id old ≡ w
drawn_id old caller room host w rep new enters told = elim (match_cases (draw_check old room) (EntersAs caller room host 1 old rep new) (λ why. Refuses why old rep new) enters) as (λ _. next_id old ≡ w) [
  | inl (none, f) ↦ by f.makes.told (sym told ∙ f.makes.answered)
  | inr (why, is, refused) ↦ absurd (not_both why rep told refused.0)
]
  where
    not_both : (why : Refusal) (r : Reply) → r ≡ reply.Entered w → r ≡ reply.Refused why → ⊥
    not_both why r p q = cc

    by : (t : Told) → reply.Entered w ≡ (enter_outcome (entered old caller room host 1) old.table t).reply → next_id old ≡ w
    by (Ok Made) e = cc
    by (Ok NoFolder) e = absurd (cc)
    by (Ok answer) e = absurd (cc)
    by (Err trouble_of.Fault) e = absurd (cc)
    by (Err trouble_of.NoMemory) e = absurd (cc)

drawn_above : (s : State) → last_id s < next_id s
drawn_above s = omega arith

open_issues : (name : Name) (host : ℕ) → Asks IssuesNone (open_program name host 1)
open_issues name host = (tt, λ rep. asks_weaker (Enters 0) IssuesNone (if_made host 1 rep) (λ q enters. enters.2) (made_asks 0 host 1 rep))

-- a writer that was just opened has issued nothing anywhere
opened_none : (name : Name) (host : ℕ) (handle : WriterHandle) (g : Moment) (events : List Event) (number : ℕ) → IsSoundAt g → IsLawful g.state events → AllByRecursion (λ (e : Event). e.caller ≡ 0) events → Runs 0 (open_program name host 1) events (Ok handle) → (moment_after g events).issued number handle.writer ≡ []
opened_none name host handle g events number sound lawful own runs =
    let e : EnteredBy 0 name host 1 handle.writer g.state events = entered_by 0 name host 1 g.state events (Ok handle) handle sound.regular lawful runs refl in
    let front : List Event = e.first ++ e.making ∷ e.between in
    let all : events ≡ front ++ e.entering ∷ e.rest = e.all ∙ sym (append_assoc e.first (e.making ∷ e.between) (e.entering ∷ e.rest)) in
    let whole : IsLawful g.state (front ++ e.entering ∷ e.rest) = subst (λ (es : List Event). IsLawful g.state es) all lawful in
    let x : Moment = moment_after g front in
    let sound_x : IsSoundAt x = sound_after g front (legal_first g front (e.entering ∷ e.rest) whole) sound in
    let on : IsLawful x.state (e.entering ∷ e.rest) = legal_rest g front (e.entering ∷ e.rest) whole in
    let id : next_id x.state ≡ handle.writer = drawn_id x.state e.entering.caller e.room host handle.writer e.entering.reply e.entering.after (answered x.state e.entering.caller (call.Enter e.room host 1) e.entering.ask e.entering.reply e.entering.after e.enters.1 on.1) e.entered in
    let first : x.issued number handle.writer ≡ [] = sound_x.sound.fresh number handle.writer (subst (λ n. last_id x.state < n) id (drawn_above x.state)) in
    let asked : AllByRecursion (λ (y : Event). IssuesNone y.ask.call) (front ++ e.entering ∷ e.rest) = subst (λ (es : List Event). AllByRecursion (λ (y : Event). IssuesNone y.ask.call) es) all (all_asked IssuesNone (open_program name host 1) events (Ok handle) (open_issues name host) own runs) in
    ap (λ (z : Moment). z.issued number handle.writer) (ap (moment_after g) all ∙ moment-append g front (e.entering ∷ e.rest))
    ∙ issued_same x (e.entering ∷ e.rest) (record { room = number; host = 0; writer = handle.writer }) (all_rest (λ (y : Event). IssuesNone y.ask.call) front (e.entering ∷ e.rest) asked)
    ∙ first

-- ---- the whole

module _ (name : Name) (host number : ℕ) (other : Name) (apart_names : other ≡ name → ⊥) where
  module _ (m : Moment) (start : State) (handle : WriterHandle) (opened : State) (sound : IsSoundAt m) (here : m.state ≡ start) (c : HasContainer m number other) (makes : Makes (open_program name host 1) start (Ok handle) opened) where
    abbrev b : IsMade (open_program name host 1) m (Ok handle) opened
    b = is_made (open_program name host 1) m start (Ok handle) opened here makes

    abbrev x : Moment
    x = moment_after (next_moment m b.greeting) b.events

    sound_x : IsSoundAt x
    sound_x = sound_after m (b.greeting ∷ b.events) b.lawful sound

    at_x : x.state ≡ opened
    at_x = (follows m (b.greeting ∷ b.events)).0 ∙ b.ends

    opening : Stays m x number other
    opening =
        let asked : AllByRecursion (λ (e : Event). SparesAll e.ask.call) (b.greeting ∷ b.events) = (subst (λ (a : Ask). SparesAll a.call) (sym b.asks) (λ w. (tt, tt, tt)), all_asked SparesAll (open_program name host 1) b.events (Ok handle) (open_spares name host) b.alone b.runs) in
        lands_none_events m number other (b.greeting ∷ b.events) sound c b.lawful asked

    none_x : x.issued number handle.writer ≡ []
    none_x = opened_none name host handle (next_moment m b.greeting) b.events number (sound_after m (b.greeting ∷ []) (b.lawful.0, b.lawful.1, tt) sound) b.lawful.2 b.alone b.runs

    mine_x : Mine x handle handle.writer number
    mine_x =
        let o : Opens m handle name host 1 opened b = opens_writer m handle name host 1 opened sound b in
        record {
          row = o.has.row;
          knows = o.has.knows;
          is_writer = refl;
          other = λ is. apart m name host handle opened o.d sound b o.has number other c apart_names (sym o.has.room ∙ is);
        }

    behind : (end : State) → Stretch x number other end → Stretch m number other end
    behind end rest = record {
      to = rest.to;
      comes = comes_both m x rest.to (record { events = b.greeting ∷ b.events; lawful = b.lawful; ends = refl }) rest.comes;
      at = rest.at;
      stays = stays_both m x rest.to number other opening rest.stays;
    }

  into_else : (m : Moment) (start : State) (old : Given) (told : Result Copied Stuck) (end : State) (new : Given) → IsSoundAt m → m.state ≡ start → HasContainer m number other → CopiesInto name host start old told end new → Stretch m number other end
  into_else m start old told end new sound here c (opens handle opened makes by) =
      behind m start handle opened sound here c makes end
      (by_else number other handle.writer (x m start handle opened sound here c makes) opened handle (sound_x m start handle opened sound here c makes) (at_x m start handle opened sound here c makes) (opening m start handle opened sound here c makes).container (mine_x m start handle opened sound here c makes) (none_x m start handle opened sound here c makes)
      old new told end by.written by.after by.writes by.ends)
  into_else m start old told end new sound here c (opens_none why makes same is) = lands_none m number other end sound c (front_whole SparesAll (open_program name host 1) (λ w. (tt, tt, tt)) (open_spares name host) m start (Err why) end here makes)

  begun_into_else : (m : Moment) (start : State) (old : Given) (end : State) (new : Given) → IsSoundAt m → m.state ≡ start → HasContainer m number other → BeginsToCopyInto name host start old end new → Stretch m number other end
  begun_into_else m start old end new sound here c (to_open begins same) = lands_none m number other end sound c (front_begun SparesAll (open_program name host 1) (λ w. (tt, tt, tt)) (open_spares name host) m start end here begins)
  begun_into_else m start old end new sound here c (to_copy handle opened makes by) =
      behind m start handle opened sound here c makes end
      (begun_else number other handle.writer (x m start handle opened sound here c makes) opened handle (sound_x m start handle opened sound here c makes) (at_x m start handle opened sound here c makes) (opening m start handle opened sound here c makes).container (mine_x m start handle opened sound here c makes) (none_x m start handle opened sound here c makes)
      old new end by)

  module _ (m : Moment) (sound : IsSoundAt m) (c : HasContainer m number other) where
    -- a front of a truncate's calls
    truncates : (end : State) (events more : List Event) (result : Result ℕ Stuck) → IsLawful m.state events → AllByRecursion (λ (e : Event). e.caller ≡ 0) events → state_after m.state events ≡ end → Runs 0 (greets_first (truncate_program name 0)) (events ++ more) result → Stretch m number other end
    truncates end events more result lawful own ends runs =
        let asked : (w : ℕ) → AllByRecursion (λ (e : Event). Truncates w e.ask.call) events = λ w. asked_front (Truncates w) (greets_first (truncate_program name 0)) events more result ((tt, tt), λ reply. truncate_asks w name 0) own runs in
        record {
          to = moment_after m events;
          comes = record { events = events; lawful = lawful; ends = refl };
          at = (follows m events).0 ∙ ends;
          stays = record {
            landed = λ d named its. landed_same m events d sound lawful named (all_spared (suc d.writer) d events (λ same. omega (arith, same)) (lands (suc d.writer) events (asked (suc d.writer))));
            truncates = truncate_leaves number other name apart_names m 0 sound c events more result lawful own runs;
            container = named_later m events number other lawful (moves events (asked 0)) c;
          };
        }
      where
        lands : (w : ℕ) (es : List Event) → AllByRecursion (λ (e : Event). Truncates w e.ask.call) es → AllByRecursion (λ (e : Event). LandsOnly w e.ask.call) es
        lands w [] all = tt
        lands w (e ∷ es) all = (all.0.0, lands w es all.1)

        moves : (es : List Event) → AllByRecursion (λ (e : Event). Truncates 0 e.ask.call) es → AllByRecursion (λ (e : Event). MovesNone e.ask.call) es
        moves [] all = tt
        moves (e ∷ es) all = (all.0.1, moves es all.1)

    clears_else : (over : Bool) (told : Result (Unit {0}) Stuck) (end : State) → Clears over name m.state told end → Stretch m number other end
    clears_else false told end makes = lands_none m number other end sound c (front_whole SparesAll (free_program name) (λ w. (tt, tt, tt)) (free_spares name) m m.state told end refl makes)
    clears_else true told end (cut, makes, is) = truncates end makes.events [] cut makes.made.lawful makes.made.own makes.made.ends (subst (λ (es : List Event). Runs 0 (greets_first (truncate_program name 0)) es cut) (sym (append-nil makes.events)) makes.runs)

    begins_clear_else : (over : Bool) (end : State) → BeginsToClear over name m.state end → Stretch m number other end
    begins_clear_else false end begins = lands_none m number other end sound c (front_begun SparesAll (free_program name) (λ w. (tt, tt, tt)) (free_spares name) m m.state end refl begins)
    begins_clear_else true end begins = truncates end begins.events begins.more begins.result begins.made.lawful begins.made.own begins.made.ends begins.front_of

    behind_clear : (over : Bool) (cleared end : State) → Clears over name m.state (Ok tt) cleared → ((y : Moment) → IsSoundAt y → y.state ≡ cleared → HasContainer y number other → Stretch y number other end) → Stretch m number other end
    behind_clear over cleared end makes rest =
        let one = clears_else over (Ok tt) cleared makes in
        stretch_both m number other cleared end one (rest one.to (sound_there m number other cleared sound one) one.at one.stays.container)

    copies_else : (over : Bool) (old : Given) (told : Result Copied Stuck) (end : State) (new : Given) → Copies name host over m.state old told end new → Stretch m number other end
    copies_else over old told end new (clears cleared first into) = behind_clear over cleared end first (λ y sound_y at there. into_else y cleared old told end new sound_y at there into)
    copies_else over old told end new (clears_none why first same is) = clears_else over (Err why) end first

    begins_else : (over : Bool) (old : Given) (end : State) (new : Given) → BeginsToCopy name host over m.state old end new → Stretch m number other end
    begins_else over old end new (to_clear begins same) = begins_clear_else over end begins
    begins_else over old end new (to_go_on cleared first into) = behind_clear over cleared end first (λ y sound_y at there. begun_into_else y cleared old end new sound_y at there into)

-- ---- the container is still

still_then : (m : Moment) (number : ℕ) (name : Name) (end : State) → IsSoundAt m → (s : Stretch m number name end) → (to : Moment) → to.state ≡ end → IsStill m to number
still_then m number name end sound s to at =
    let same : s.to.state.store.tree ≡ to.state.store.tree = ap (λ (z : State). z.store.tree) (s.at ∙ sym at) in
    record {
      no_more_landed = λ d named its. ([], sym (s.stays.landed d named its) ∙ ap (λ t. entries_there (bytes_of (file_told t d.room (index_path d.host d.writer))) (bytes_of (file_told t d.room (log_path d.host d.writer)))) same ∙ sym (append-nil (landed_by to d)));
      no_more_truncates = λ stamp size had. s.stays.truncates stamp size (had_at to s.to stamp size (sym same) had);
      no_fewer_truncates = λ stamp size had. had_at s.to to stamp size same (subst (λ y. HadTrunc y number stamp size) s.comes.ends (trunc_stays m s.comes.events number stamp size s.comes.lawful sound had));
    }
  where
    had_at : (x y : Moment) (stamp size : ℕ) → x.state.store.tree ≡ y.state.store.tree → HadTrunc x number stamp size → HadTrunc y number stamp size
    had_at x y stamp size same had = record { is_item = had.is_item; bytes = had.bytes; there = ap (λ t. file_told t number (trunc_path stamp size)) (sym same) ∙ had.there }

pub copied_still : (name : Name) (host : ℕ) (over : Bool) (start end : State) (old : Given) (told : Result Copied Stuck) (new : Given) → Copies name host over start old told end new → LeavesOthersStill name start end
copied_still name host over start end old told new copies m to other number here there sound named differ =
    still_then m number other end sound (copies_else name host number other differ m sound (container_of m sound other number named) over old told end new (subst (λ (s : State). Copies name host over s old told end new) (sym here) copies)) to there

pub begun_still : (name : Name) (host : ℕ) (over : Bool) (start end : State) (old new : Given) → BeginsToCopy name host over start old end new → LeavesOthersStill name start end
begun_still name host over start end old new begins m to other number here there sound named differ =
    still_then m number other end sound (begins_else name host number other differ m sound (container_of m sound other number named) over old end new (subst (λ (s : State). BeginsToCopy name host over s old end new) (sym here) begins)) to there
