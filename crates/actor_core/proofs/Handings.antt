-- How shares are handed out to workers, and how the actor goes on with what they read.
use Rattle.std.proofs.Common.{◌≡◌, ℕ, List, [], ◌∷◌, map, Option, Some, None, Result, Ok, Err, refl, sym, ap, ◌∙◌, subst, true, false}
use Rattle.std.specs.Prelude.{◌≢◌, option_map, IfSome}
use Rattle.std.proofs.lemmas.Option.{none-some, same_Some}
use Rattle.mount_model.specs.Program.{Program, done, ask, followed_by}
use Rattle.mount_model.specs.declared.stuck.Stuck.{Stuck}
use Rattle.mount_model.specs.Running.{asking}
use Rattle.mount_model.specs.Standing.{Standing, ready, asked as out, Rest, over, awaits, next_of, rest_of, Awaits, IsOver}
use Rattle.mount_model.specs.FlowReplies.{Tries, on_ok}
use Rattle.mount_model.specs.declared.call.Call.{Call}
use Rattle.mount_model.specs.declared.reply.Reply.{Reply}
use Rattle.writer_flow.specs.OpeningStages.{open_standing}
use Rattle.writer_flow.specs.WritingStages.{write_standing}
use Rattle.writer_flow.specs.SyncingStages.{sync_standing}
use Rattle.writer_flow.specs.ClosingStages.{close_standing}
use Rattle.attr_flow.specs.declared.attr_flow.AttrOut.{AttrOut}
use Rattle.attr_flow.specs.declared.attr_flow.AttrOut.TheVariants.{Cached, MustMerge}
use Rattle.attr_flow.specs.Stages.{attr_standing}
use Rattle.index_reader.specs.declared.listing.Listing.{Listing as Listed}
use Rattle.index_reader.specs.declared.opening.OpenRead.{OpenRead}
use Rattle.index_reader.specs.declared.sharing.Share.{Share}
use Rattle.index_reader.specs.declared.sharing.ShareRead.{ShareRead}
use Rattle.index_reader.specs.Opening.{open_at_program}
use Rattle.index_reader.specs.OpenStages.{open_standing as list_standing, open_rest}
use Rattle.index_reader.specs.ReadingStages.{read_standing}
use Rattle.index_reader.specs.Stages.{share_standing}
use Rattle.index_reader.specs.Truncs.{trunc_program}
use Rattle.index_reader.specs.Gathered.{IsJoinedOf}
use Rattle.trunc_rename.specs.TruncateStages.{truncate_standing}
use Rattle.trunc_rename.specs.RenameStages.{rename_standing}
use Rattle.flatten_core.specs.FlattenStages.{flatten_standing}
use Rattle.torn_tail.specs.Stages.{recover_standing}
use Rattle.refresh_index.specs.RefreshStages.{refresh_standing}
use Rattle.gather_flow.specs.declared.gathering.Gathering.{Gathering as Gathers}
use Rattle.gather_flow.specs.Gathering.{reads_truncs, gather_standing, gather_rest}
use Rattle.gather_flow.specs.OneIndex.{reader_of}
use Rattle.gather_flow.specs.Shares.{by_itself, programs_from}
use Rattle.gather_flow.proofs.Joining.{joined_reader}
use Rattle.outcomes.specs.Outcomes.{stuck_outcome}
use Rattle.actor_core.specs.declared.kept.Stop.{Stop}
use Rattle.actor_core.specs.declared.kept.Kept.{Kept}
use Rattle.actor_core.specs.declared.doing.Doing.{Doing}
use Rattle.actor_core.specs.declared.doing.Doing.TheVariants.{Known, Opening, Writing, Syncing, Closing, Listing, Gathering, Reading, Verifying, Telling, Truncating, Renaming, Recovering, Refreshing, Naming, Flattening}
use Rattle.actor_core.specs.declared.actor.State.{State}
use Rattle.actor_core.specs.declared.actor.State.TheVariants.{Idle, Told, Working, HandedOut, Greeting, Greeted}
use Rattle.actor_core.specs.declared.purpose.Purpose.{Purpose}
use Rattle.actor_core.specs.declared.purpose.Purpose.TheVariants.{Opens, Tells}
use Rattle.actor_core.specs.Stopping.{carried, stoppable}
use Rattle.actor_core.specs.Endings.{ending, stopped, opened, wrote, synced, closed, read_from, verified, truncated, renamed, recovered, names_listed, flattened, told_of}
use Rattle.actor_core.specs.Telling.{if_asked, if_relisted, tells_by}
use Rattle.actor_core.specs.Opened.{opens, reader_opened, reader_refreshed}
use Rattle.actor_core.specs.Purposes.{if_listed_for, ended_for}
use Rattle.actor_core.specs.Naming.{names_standing}
use Rattle.actor_core.specs.Work.{Work, finishes}
use Rattle.actor_core.specs.Progress.{Progress, going, handed}
use Rattle.actor_core.specs.Handing.{Handing, handing_in, handing_of, Hands, IsHandedOut, IsHanded}
use Rattle.gather_flow.specs.Workers.{AreMachinesOf, IsOutcomeOf}
use Rattle.actor_core.specs.Standings.{Underway, goes, waits, ready_of, asked_of, busy, greeting, greeting_out, doing_ready, doing_asked, with_shares, state_progress}
use Rattle.actor_core.proofs.Carrying.{ends_so}
use Rattle.actor_core.proofs.Making.{made_behind}

-- ---- where nothing may be handed out, nothing is

pub none_handed : (old new : Progress) → handing_of old ≡ None → new ≡ old → IsHandedOut old None new
none_handed old new none same = let P : Option Handing → Type 0 = λ handing. Hands handing old None new in subst P (sym none) same

none_carried : {R : Type 0} (number : ℕ) (p : Program Call Reply R) (stop : Option Stop) (next : Option Stop → R → Work) (halted : Work)
    → ((result : R) → handing_in number (next stop result) ≡ None) → handing_in number (carried p stop next halted) ≡ None
none_carried number (done result) stop next halted none = none result
none_carried number (ask call k) stop next halted none = refl

none_ready : {R : Type 0} (number : ℕ) (s : Standing Call Reply R) (stop : Option Stop) (next : Option Stop → R → Work) (halted : Work)
    → ((result : R) → handing_in number (next stop result) ≡ None) → handing_of (busy number (ready_of s stop next halted)) ≡ None
none_ready number (ready p) stop next halted none = none_carried number p stop next halted none
none_ready number (out k) stop next halted none = refl

none_out : {R : Type 0} (number : ℕ) (rest : Rest Call Reply R) (stop : Option Stop) (next : Option Stop → R → Work) (halted : Work)
    → handing_of (busy number (asked_of rest stop next halted)) ≡ None
none_out number (over result) stop next halted = refl
none_out number (awaits k) stop next halted = refl

module _ (number : ℕ) (kept : Kept) (stop : Option Stop) where
  none_relisted : (result : Result Listed Stuck) → handing_in number (if_relisted kept stop result) ≡ None
  none_relisted (Err because) = refl
  none_relisted (Ok listing) =
      none_carried number (by_itself (programs_from 1 listing 0) [] (tells_by listing)) stop (λ left result. finishes (told_of kept result)) (finishes (stopped kept)) (λ result. refl)

  none_told : (result : Result AttrOut Stuck) → handing_in number (if_asked kept stop result) ≡ None
  none_told (Err because) = refl
  none_told (Ok (Cached attr)) = refl
  none_told (Ok (MustMerge room)) = none_carried number (open_at_program room) stop (if_relisted kept) (finishes (stopped kept)) none_relisted

  -- only a container that is listed has shares
  pub no_shares : (doing : Doing) → ((flow : OpenRead) (purpose : Purpose) → doing ≢ Listing flow purpose) → handing_of (busy number (doing_ready kept stop doing)) ≡ None
  no_shares (Known outcome) other = refl
  no_shares (Opening flow) other = none_ready number (open_standing flow) stop (λ left result. finishes (opened kept result)) (finishes (stopped kept)) (λ result. refl)
  no_shares (Writing flow at len) other = none_ready number (write_standing flow) stop (λ left made. finishes (wrote kept at len made)) (finishes (stopped kept)) (λ result. refl)
  no_shares (Syncing flow) other = none_ready number (sync_standing flow) stop (λ left made. finishes (synced kept made)) (finishes (stopped kept)) (λ result. refl)
  no_shares (Closing flow) other = none_ready number (close_standing flow) stop (λ left made. finishes (closed kept made)) (finishes (stopped kept)) (λ result. refl)
  no_shares (Listing flow purpose) other = absurd (other flow purpose refl)
  no_shares (Gathering flow purpose) other = none_ready number (gather_standing flow.value) stop (λ left result. finishes (ended_for purpose kept result)) (finishes (stopped kept)) (λ result. refl)
  no_shares (Reading flow at) other = none_ready number (read_standing flow) stop (λ left result. finishes (read_from kept at result)) (finishes (stopped kept)) (λ result. refl)
  no_shares (Verifying flow at content) other = none_ready number (read_standing flow) stop (λ left result. finishes (verified kept at content result)) (finishes (stopped kept)) (λ result. refl)
  no_shares (Telling flow) other = none_ready number (attr_standing flow) stop (if_asked kept) (finishes (stopped kept)) none_told
  no_shares (Truncating flow) other = none_ready number (truncate_standing flow) stop (λ left result. finishes (truncated kept result)) (finishes (stopped kept)) (λ result. refl)
  no_shares (Flattening flow) other = none_ready number (flatten_standing flow.value) stop (λ left result. finishes (flattened kept result)) (finishes (stopped kept)) (λ result. refl)
  no_shares (Renaming flow) other = none_ready number (rename_standing flow) stop (λ left result. finishes (renamed kept result)) (finishes (stopped kept)) (λ result. refl)
  no_shares (Recovering flow) other = none_ready number (recover_standing flow) stop (λ left result. finishes (recovered kept result)) (finishes (stopped kept)) (λ result. refl)
  no_shares (Refreshing flow) other = none_ready number (refresh_standing flow.value) stop (λ left result. finishes (reader_refreshed kept result)) (finishes (stopped kept)) (λ result. refl)
  no_shares (Naming flow) other = none_ready number (names_standing flow) stop (λ left result. finishes (names_listed kept result)) (finishes (stopped kept)) (λ result. refl)

  none_asked : (doing : Doing) → handing_of (busy number (doing_asked kept stop doing)) ≡ None
  none_asked (Known outcome) = refl
  none_asked (Opening flow) = none_out number (rest_of (open_standing flow)) stop (λ left result. finishes (opened kept result)) (finishes (stopped kept))
  none_asked (Writing flow at len) = none_out number (rest_of (write_standing flow)) stop (λ left made. finishes (wrote kept at len made)) (finishes (stopped kept))
  none_asked (Syncing flow) = none_out number (rest_of (sync_standing flow)) stop (λ left made. finishes (synced kept made)) (finishes (stopped kept))
  none_asked (Closing flow) = none_out number (rest_of (close_standing flow)) stop (λ left made. finishes (closed kept made)) (finishes (stopped kept))
  none_asked (Listing flow purpose) = none_out number (rest_of (list_standing flow)) stop (if_listed_for purpose kept) (finishes (stopped kept))
  none_asked (Gathering flow purpose) = none_out number (gather_rest flow.value) stop (λ left result. finishes (ended_for purpose kept result)) (finishes (stopped kept))
  none_asked (Reading flow at) = none_out number (rest_of (read_standing flow)) stop (λ left result. finishes (read_from kept at result)) (finishes (stopped kept))
  none_asked (Verifying flow at content) = none_out number (rest_of (read_standing flow)) stop (λ left result. finishes (verified kept at content result)) (finishes (stopped kept))
  none_asked (Telling flow) = none_out number (rest_of (attr_standing flow)) stop (if_asked kept) (finishes (stopped kept))
  none_asked (Truncating flow) = none_out number (rest_of (truncate_standing flow)) stop (λ left result. finishes (truncated kept result)) (finishes (stopped kept))
  none_asked (Flattening flow) = none_out number (rest_of (flatten_standing flow.value)) stop (λ left result. finishes (flattened kept result)) (finishes (stopped kept))
  none_asked (Renaming flow) = none_out number (rest_of (rename_standing flow)) stop (λ left result. finishes (renamed kept result)) (finishes (stopped kept))
  none_asked (Recovering flow) = none_out number (rest_of (recover_standing flow)) stop (λ left result. finishes (recovered kept result)) (finishes (stopped kept))
  none_asked (Refreshing flow) = none_out number (rest_of (refresh_standing flow.value)) stop (λ left result. finishes (reader_refreshed kept result)) (finishes (stopped kept))
  none_asked (Naming flow) = none_out number (rest_of (names_standing flow)) stop (λ left result. finishes (names_listed kept result)) (finishes (stopped kept))

  none_greeting : (work : Underway) → handing_of (greeting number work) ≡ None
  none_greeting (goes work) = refl
  none_greeting (waits k) = refl

  none_greeted : (work : Underway) → handing_of (greeting_out number work) ≡ None
  none_greeted (goes work) = refl
  none_greeted (waits k) = refl

  -- only a statement whose next call is to be made has shares
  pub not_ready : (state : State) → ((doing : Doing) → state ≢ Working doing false) → handing_of (state_progress number kept stop state) ≡ None
  not_ready Idle other = refl
  not_ready (Told line) other = refl
  not_ready (Working doing false) other = absurd (other doing refl)
  not_ready (Working doing true) other = none_asked doing
  not_ready (HandedOut listed) other = refl
  not_ready (Greeting doing) other = none_greeting (doing_ready kept stop doing)
  not_ready (Greeted doing) other = none_greeted (doing_ready kept stop doing)

  -- a file that is told of has none
  pub tells_none : (flow : OpenRead) → handing_of (busy number (doing_ready kept stop (Listing flow Tells))) ≡ None
  tells_none flow = none_ready number (list_standing flow) stop (if_listed_for Tells kept) (finishes (stopped kept)) none_relisted

-- nor has a statement within which a stop is armed
none_stopping : (number : ℕ) (kept : Kept) (workers : ℕ) (stop : Stop) (result : Result Listed Stuck) → handing_in number (if_listed_for (Opens workers) kept (Some stop) result) ≡ None
none_stopping number kept workers stop (Err because) = refl
none_stopping number kept workers stop (Ok listing) =
    none_carried number (by_itself (programs_from workers listing 0) [] (opens listing)) (Some stop) (λ left result. finishes (reader_opened kept result)) (finishes (stopped kept)) (λ result. refl)

pub stopping_none : (number : ℕ) (kept : Kept) (armed : Option Stop) (stop : Stop) (flow : OpenRead) (workers : ℕ) → armed ≡ Some stop → handing_of (busy number (doing_ready kept armed (Listing flow (Opens workers)))) ≡ None
stopping_none number kept armed stop flow workers is =
    ap (λ s. handing_of (busy number (doing_ready kept s (Listing flow (Opens workers))))) is
    ∙ none_ready number (list_standing flow) (Some stop) (if_listed_for (Opens workers) kept) (finishes (stopped kept)) (none_stopping number kept workers stop)

-- nor one that has a call to make before
pub asking_none : {R : Type 0} (number : ℕ) (s : Standing Call Reply R) (stop : Option Stop) (next : Option Stop → R → Work) (halted : Work) (call : Call)
    → Some call ≡ next_of s → handing_of (busy number (ready_of s stop next halted)) ≡ None
asking_none number (ready (done result)) stop next halted call some = absurd (none-some call (sym some))
asking_none number (ready (ask question k)) stop next halted call some = refl
asking_none number (out k) stop next halted call some = absurd (none-some call (sym some))

-- ---- a machine that was asked for its next call

abbrev awaits_of : {R : Type 0} → (Reply → Program Call Reply R) → Rest Call Reply R
awaits_of k = awaits k

abbrev reply_or : {R : Type 0} → (Reply → Program Call Reply R) → Rest Call Reply R → Reply → Program Call Reply R
reply_or other (over result) = other
reply_or other (awaits k) = k

-- it stands where it did, where it may be asked again
pub asked_again : {R : Type 0} (old new : Program Call Reply R) (call : Call) → Some call ≡ next_of (ready old) → rest_of (ready new) ≡ rest_of (ready old)
    → IfSome (next_of (ready new)) (λ again. next_of (ready old) ≡ Some again) → new ≡ old
asked_again (done result) new call some same again = absurd (none-some call (sym some))
asked_again {R} (ask question k) (done result) call some same again = let P : Rest Call Reply R → Type 0 = λ rest. Awaits rest in absurd (subst P (sym same) tt)
asked_again (ask question k) (ask other l) call some same again =
    let call_same : question ≡ other = same_Some question other again in
    let goes_same : l ≡ k = ap (λ rest. reply_or k rest) same in
    λ i. ask (sym call_same i) (goes_same i)

-- without a call it is at its end
pub at_its_end : {R : Type 0} (old new : Program Call Reply R) → None ≡ next_of (ready old) → rest_of (ready new) ≡ rest_of (ready old) → IsOver (rest_of (ready new))
at_its_end {R} (done result) new none same = let P : Rest Call Reply R → Type 0 = λ rest. IsOver rest in subst P (sym same) tt
at_its_end (ask question k) new none same = absurd (none-some question none)

-- ---- the shares are handed out

pub machines_of : (own : List (Tries Share)) (flows : List ShareRead) → map (λ flow. share_standing flow) flows ≡ map (λ program. ready program) own
    → AreMachinesOf (map asking own) flows
machines_of [] [] same = tt
machines_of [] (flow ∷ flows) same = absurd (cc)
machines_of (program ∷ own) [] same = absurd (cc)
machines_of (program ∷ own) (flow ∷ flows) same =
    let first : share_standing flow ≡ ready program = cc in
    let rest : map (λ (f : ShareRead). share_standing f) flows ≡ map (λ (p : Tries Share). ready p) own = cc in
    (record { own = program; stands = first; asks = refl }, machines_of own flows rest)

module _ (number : ℕ) (kept : Kept) (stop : Option Stop) (workers : ℕ) (old new : OpenRead) where
  listed_so : (result : Result Listed Stuck) → None ≡ next_of (list_standing old) → rest_of (list_standing new) ≡ rest_of (list_standing old) → rest_of (list_standing new) ≡ over result
      → busy number (doing_ready kept stop (Listing old (Opens workers))) ≡ going number (if_listed_for (Opens workers) kept stop result)
  listed_so result none same is =
      ends_so number (list_standing old) (list_standing new) stop (if_listed_for (Opens workers) kept) (finishes (stopped kept)) result tt (ap (option_map (stoppable stop)) none) same is

  pub hands_shares : (listing : Listed) (works : List ShareRead) (after : Progress) → None ≡ next_of (list_standing old) → rest_of (list_standing new) ≡ rest_of (list_standing old) → rest_of (list_standing new) ≡ over (Ok listing)
      → stop ≡ None → map (λ flow. share_standing flow) works ≡ map (λ program. ready program) (programs_from workers listing 0)
      → after ≡ handed number (with_shares kept stop listing) → IsHandedOut (busy number (doing_ready kept stop (Listing old (Opens workers)))) (Some works) after
  hands_shares listing works after none same is unarmed stand waiting =
      let was : busy number (doing_ready kept stop (Listing old (Opens workers))) ≡ going number (if_listed_for (Opens workers) kept None (Ok listing)) =
      listed_so (Ok listing) none same is ∙ ap (λ s. going number (if_listed_for (Opens workers) kept s (Ok listing))) unarmed in
      let P : Progress → Type 0 = λ p. IsHandedOut p (Some works) after in
      subst P (sym was) (machines_of (programs_from workers listing 0) works stand, waiting ∙ ap (λ s. handed number (with_shares kept s listing)) unarmed)

  pub hands_no_shares : (because : Stuck) (after : Progress) → None ≡ next_of (list_standing old) → rest_of (list_standing new) ≡ rest_of (list_standing old) → rest_of (list_standing new) ≡ over (Err because)
      → after ≡ going number (finishes (ending (stuck_outcome because) kept)) → IsHandedOut (busy number (doing_ready kept stop (Listing old (Opens workers)))) None after
  hands_no_shares because after none same is told =
      let was = listed_so (Err because) none same is in
      none_handed (busy number (doing_ready kept stop (Listing old (Opens workers)))) after (ap handing_of was) (told ∙ sym was)

  pub hands_none_yet : (call : Call) (after : Progress) → Some call ≡ next_of (list_standing old) → rest_of (list_standing new) ≡ rest_of (list_standing old)
      → IfSome (next_of (list_standing new)) (λ again. next_of (list_standing old) ≡ Some again)
      → after ≡ busy number (doing_ready kept stop (Listing new (Opens workers))) → IsHandedOut (busy number (doing_ready kept stop (Listing old (Opens workers)))) None after
  hands_none_yet call after some same again is =
      let stands : list_standing new ≡ list_standing old = ap (λ (p : Tries Listed). ready p) (asked_again (open_rest old) (open_rest new) call some same again) in
      none_handed (busy number (doing_ready kept stop (Listing old (Opens workers)))) after
      (asking_none number (list_standing old) stop (if_listed_for (Opens workers) kept) (finishes (stopped kept)) call some)
      (is ∙ ap (λ s. busy number (ready_of s stop (if_listed_for (Opens workers) kept) (finishes (stopped kept)))) stands)

-- ---- what workers read is given back

module _ (number : ℕ) (kept : Kept) (stop : Option Stop) (listing : Listed) (results : List (Result Share Stuck)) where
  -- the truncates are listed behind one share as behind those that it was joined of
  opens_same : (told : List Share) (share : Share) → IsJoinedOf told share → opens listing (share ∷ []) ≡ opens listing told
  opens_same told share joined = λ i. followed_by (trunc_program listing.room) (on_ok (λ truncs. done (Ok (joined_reader listing told share truncs joined i))))

  pub given_share : (share : Share) (g : Gathers) → gather_standing g ≡ ready (reads_truncs listing (share ∷ [])) → IsOutcomeOf results (Ok share)
      → busy number (ready_of (gather_standing g) stop (λ left result. finishes (ended_for (Opens 1) kept result)) (finishes (stopped kept))) ≡ going number (with_shares kept stop listing results)
  given_share share g stands outcome =
      ap (λ s. busy number (ready_of s stop (λ left result. finishes (ended_for (Opens 1) kept result)) (finishes (stopped kept)))) stands
      ∙ ap (going number) (made_behind reader_of listing (share ∷ []) stop (λ left result. finishes (reader_opened kept result)) (finishes (stopped kept)))
      ∙ ap (λ p. going number (carried p stop (λ left result. finishes (reader_opened kept result)) (finishes (stopped kept)))) (opens_same outcome.0 share outcome.2)
      ∙ sym (ap (λ all. going number (carried (on_ok (opens listing) all) stop (λ left result. finishes (reader_opened kept result)) (finishes (stopped kept)))) outcome.1)

  pub given_trouble : (because : Stuck) → IsOutcomeOf results (Err because)
      → going number (finishes (ending (stuck_outcome because) kept)) ≡ going number (with_shares kept stop listing results)
  given_trouble because outcome =
      sym (ap (λ all. going number (carried (on_ok (opens listing) all) stop (λ left result. finishes (reader_opened kept result)) (finishes (stopped kept)))) outcome)

-- ---- who waits for workers

not_busy : (number : ℕ) (work : Underway) → IsHanded (busy number work) → ⊥
not_busy number (goes work) is = is
not_busy number (waits k) is = is

not_greeting : (number : ℕ) (work : Underway) → IsHanded (greeting number work) → ⊥
not_greeting number (goes work) is = is
not_greeting number (waits k) is = is

not_greeted : (number : ℕ) (work : Underway) → IsHanded (greeting_out number work) → ⊥
not_greeted number (goes work) is = is
not_greeted number (waits k) is = is

pub is_handed : (number : ℕ) (kept : Kept) (stop : Option Stop) (state : State) → IsHanded (state_progress number kept stop state) → ((listed : Listed) → state ≢ HandedOut listed) → ⊥
is_handed number kept stop Idle is other = is
is_handed number kept stop (Told line) is other = is
is_handed number kept stop (Working doing false) is other = not_busy number (doing_ready kept stop doing) is
is_handed number kept stop (Working doing true) is other = not_busy number (doing_asked kept stop doing) is
is_handed number kept stop (HandedOut listed) is other = other listed refl
is_handed number kept stop (Greeting doing) is other = not_greeting number (doing_ready kept stop doing) is
is_handed number kept stop (Greeted doing) is other = not_greeted number (doing_ready kept stop doing) is
