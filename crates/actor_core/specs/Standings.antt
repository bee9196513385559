-- Where an actor's fields stand in what it does.
use Rattle.std.specs.Prelude.{ℕ, ◌+◌, ◌^◌, List, Option, Result, true, false}
use Rattle.mount_model.specs.Process.{asks, ends}
use Rattle.mount_model.specs.Standing.{Standing, ready, asked as out, Rest, over, awaits, rest_of, Awaits}
use Rattle.mount_model.specs.declared.stuck.Stuck.{Stuck}
use Rattle.mount_model.specs.Running.{unbroken}
use Rattle.mount_model.specs.FlowReplies.{on_ok}
use Rattle.mount_model.specs.declared.call.Call.{Call}
use Rattle.mount_model.specs.declared.call.Call.TheVariants.{Greet}
use Rattle.mount_model.specs.declared.reply.Reply.{Reply}
use Rattle.writer_flow.specs.OpeningStages.{open_standing, open_left}
use Rattle.writer_flow.specs.WritingStages.{write_standing, write_left}
use Rattle.writer_flow.specs.SyncingStages.{sync_standing, sync_left}
use Rattle.writer_flow.specs.ClosingStages.{close_standing, close_left}
use Rattle.index_reader.specs.declared.listing.Listing.{Listing as Listed}
use Rattle.index_reader.specs.declared.sharing.Share.{Share}
use Rattle.index_reader.specs.OpenStages.{open_standing as list_standing, open_calls_left}
use Rattle.index_reader.specs.ReadingStages.{read_standing, read_left}
use Rattle.attr_flow.specs.Stages.{attr_standing, attr_left}
use Rattle.trunc_rename.specs.TruncateStages.{truncate_standing, truncate_left}
use Rattle.trunc_rename.specs.RenameStages.{rename_standing, rename_left}
use Rattle.flatten_core.specs.FlattenStages.{flatten_standing, flatten_left}
use Rattle.torn_tail.specs.Stages.{recover_standing, recover_left}
use Rattle.refresh_index.specs.RefreshStages.{refresh_standing, refresh_left}
use Rattle.actor_core.specs.declared.kept.Stop.{Stop}
use Rattle.actor_core.specs.declared.kept.Kept.{Kept}
use Rattle.actor_core.specs.declared.doing.Doing.{Doing}
use Rattle.actor_core.specs.declared.doing.Doing.TheVariants.{Known, Opening, Writing, Syncing, Closing, Listing, Gathering, Reading, Verifying, Telling, Truncating, Renaming, Recovering, Refreshing, Naming, Flattening}
use Rattle.actor_core.specs.declared.actor.State.{State}
use Rattle.actor_core.specs.declared.actor.State.TheVariants.{Idle, Told, Working, HandedOut, Greeting, Greeted}
use Rattle.actor_core.specs.declared.actor.Actor.{Actor}
use Rattle.actor_core.specs.Stopping.{carried, carried_on}
use Rattle.actor_core.specs.Endings.{ending, stopped, opened, wrote, synced, closed, read_from, verified, truncated, renamed, recovered, names_listed, flattened}
use Rattle.actor_core.specs.Telling.{if_asked}
use Rattle.actor_core.specs.Purposes.{workers_of, if_listed_for, ended_for}
use Rattle.actor_core.specs.Naming.{names_standing, names_left}
use Rattle.gather_flow.specs.Gathering.{gather_standing, gather_rest, gather_left, shares_bound}
use Rattle.actor_core.specs.Work.{Work, finishes}
use Rattle.actor_core.specs.Opened.{opens, reader_opened, reader_refreshed}
use Rattle.gather_flow.specs.Workers.{all_of}
use Rattle.actor_core.specs.Progress.{Progress, idle, going, asked, handed, told}

-- The machine of the statement at work has a call out.
abbrev pub AwaitsReply : Doing → Type 0
AwaitsReply (Known outcome) = ⊥
AwaitsReply (Opening flow) = Awaits (rest_of (open_standing flow))
AwaitsReply (Writing flow at len) = Awaits (rest_of (write_standing flow))
AwaitsReply (Syncing flow) = Awaits (rest_of (sync_standing flow))
AwaitsReply (Closing flow) = Awaits (rest_of (close_standing flow))
AwaitsReply (Listing flow purpose) = Awaits (rest_of (list_standing flow))
AwaitsReply (Gathering flow purpose) = Awaits (gather_rest flow.value)
AwaitsReply (Reading flow at) = Awaits (rest_of (read_standing flow))
AwaitsReply (Verifying flow at content) = Awaits (rest_of (read_standing flow))
AwaitsReply (Telling flow) = Awaits (rest_of (attr_standing flow))
AwaitsReply (Truncating flow) = Awaits (rest_of (truncate_standing flow))
AwaitsReply (Flattening flow) = Awaits (rest_of (flatten_standing flow.value))
AwaitsReply (Renaming flow) = Awaits (rest_of (rename_standing flow))
AwaitsReply (Recovering flow) = Awaits (rest_of (recover_standing flow))
AwaitsReply (Refreshing flow) = Awaits (rest_of (refresh_standing flow.value))
AwaitsReply (Naming flow) = Awaits (rest_of (names_standing flow))

-- It goes on so, or so with the reply to a call that is out.
pub data Underway : Type 0 where
  goes : Work → Underway
  waits : (Reply → Work) → Underway

module _ {R : Type 0} where
  -- a machine whose next call is to be made
  abbrev pub ready_of : Standing Call Reply R → Option Stop → (Option Stop → R → Work) → Work → Underway
  ready_of (ready program) stop next halted = goes (carried program stop next halted)
  ready_of (out k) stop next halted = waits (carried_on (awaits k) stop next halted)

  -- a machine whose call is out; without one nothing is to come
  abbrev pub asked_of : Rest Call Reply R → Option Stop → (Option Stop → R → Work) → Work → Underway
  asked_of (over result) stop next halted = goes ends
  asked_of (awaits k) stop next halted = waits (carried_on (awaits k) stop next halted)

-- what the statement at work does, where no call is out
abbrev pub doing_ready : Kept → Option Stop → Doing → Underway
doing_ready kept stop (Known outcome) = goes (finishes (ending outcome kept))
doing_ready kept stop (Opening flow) = ready_of (open_standing flow) stop (λ left result. finishes (opened kept result)) (finishes (stopped kept))
doing_ready kept stop (Writing flow at len) = ready_of (write_standing flow) stop (λ left out. finishes (wrote kept at len out)) (finishes (stopped kept))
doing_ready kept stop (Syncing flow) = ready_of (sync_standing flow) stop (λ left out. finishes (synced kept out)) (finishes (stopped kept))
doing_ready kept stop (Closing flow) = ready_of (close_standing flow) stop (λ left out. finishes (closed kept out)) (finishes (stopped kept))
doing_ready kept stop (Listing flow purpose) = ready_of (list_standing flow) stop (if_listed_for purpose kept) (finishes (stopped kept))
doing_ready kept stop (Gathering flow purpose) = ready_of (gather_standing flow.value) stop (λ left result. finishes (ended_for purpose kept result)) (finishes (stopped kept))
doing_ready kept stop (Reading flow at) = ready_of (read_standing flow) stop (λ left result. finishes (read_from kept at result)) (finishes (stopped kept))
doing_ready kept stop (Verifying flow at content) = ready_of (read_standing flow) stop (λ left result. finishes (verified kept at content result)) (finishes (stopped kept))
doing_ready kept stop (Telling flow) = ready_of (attr_standing flow) stop (if_asked kept) (finishes (stopped kept))
doing_ready kept stop (Truncating flow) = ready_of (truncate_standing flow) stop (λ left result. finishes (truncated kept result)) (finishes (stopped kept))
doing_ready kept stop (Flattening flow) = ready_of (flatten_standing flow.value) stop (λ left result. finishes (flattened kept result)) (finishes (stopped kept))
doing_ready kept stop (Renaming flow) = ready_of (rename_standing flow) stop (λ left result. finishes (renamed kept result)) (finishes (stopped kept))
doing_ready kept stop (Recovering flow) = ready_of (recover_standing flow) stop (λ left result. finishes (recovered kept result)) (finishes (stopped kept))
doing_ready kept stop (Refreshing flow) = ready_of (refresh_standing flow.value) stop (λ left result. finishes (reader_refreshed kept result)) (finishes (stopped kept))
doing_ready kept stop (Naming flow) = ready_of (names_standing flow) stop (λ left result. finishes (names_listed kept result)) (finishes (stopped kept))

-- the same, where its call is out
abbrev pub doing_asked : Kept → Option Stop → Doing → Underway
doing_asked kept stop (Known outcome) = goes ends
doing_asked kept stop (Opening flow) = asked_of (rest_of (open_standing flow)) stop (λ left result. finishes (opened kept result)) (finishes (stopped kept))
doing_asked kept stop (Writing flow at len) = asked_of (rest_of (write_standing flow)) stop (λ left out. finishes (wrote kept at len out)) (finishes (stopped kept))
doing_asked kept stop (Syncing flow) = asked_of (rest_of (sync_standing flow)) stop (λ left out. finishes (synced kept out)) (finishes (stopped kept))
doing_asked kept stop (Closing flow) = asked_of (rest_of (close_standing flow)) stop (λ left out. finishes (closed kept out)) (finishes (stopped kept))
doing_asked kept stop (Listing flow purpose) = asked_of (rest_of (list_standing flow)) stop (if_listed_for purpose kept) (finishes (stopped kept))
doing_asked kept stop (Gathering flow purpose) = asked_of (gather_rest flow.value) stop (λ left result. finishes (ended_for purpose kept result)) (finishes (stopped kept))
doing_asked kept stop (Reading flow at) = asked_of (rest_of (read_standing flow)) stop (λ left result. finishes (read_from kept at result)) (finishes (stopped kept))
doing_asked kept stop (Verifying flow at content) = asked_of (rest_of (read_standing flow)) stop (λ left result. finishes (verified kept at content result)) (finishes (stopped kept))
doing_asked kept stop (Telling flow) = asked_of (rest_of (attr_standing flow)) stop (if_asked kept) (finishes (stopped kept))
doing_asked kept stop (Truncating flow) = asked_of (rest_of (truncate_standing flow)) stop (λ left result. finishes (truncated kept result)) (finishes (stopped kept))
doing_asked kept stop (Flattening flow) = asked_of (rest_of (flatten_standing flow.value)) stop (λ left result. finishes (flattened kept result)) (finishes (stopped kept))
doing_asked kept stop (Renaming flow) = asked_of (rest_of (rename_standing flow)) stop (λ left result. finishes (renamed kept result)) (finishes (stopped kept))
doing_asked kept stop (Recovering flow) = asked_of (rest_of (recover_standing flow)) stop (λ left result. finishes (recovered kept result)) (finishes (stopped kept))
doing_asked kept stop (Refreshing flow) = asked_of (rest_of (refresh_standing flow.value)) stop (λ left result. finishes (reader_refreshed kept result)) (finishes (stopped kept))
doing_asked kept stop (Naming flow) = asked_of (rest_of (names_standing flow)) stop (λ left result. finishes (names_listed kept result)) (finishes (stopped kept))

-- how a reader is opened with what its workers came to
abbrev pub with_shares : Kept → Option Stop → Listed → List (Result Share Stuck) → Work
with_shares kept stop listed results = carried (on_ok (opens listed) (all_of results)) stop (λ left result. finishes (reader_opened kept result)) (finishes (stopped kept))

abbrev pub busy : ℕ → Underway → Progress
busy number (goes work) = going number work
busy number (waits k) = asked number k

-- it greets before that
abbrev pub greeting : ℕ → Underway → Progress
greeting number (goes work) = going number (asks (unbroken Greet) (λ reply. work))
greeting number (waits k) = asked number k

-- the greeting is out
abbrev pub greeting_out : ℕ → Underway → Progress
greeting_out number (goes work) = asked number (λ reply. work)
greeting_out number (waits k) = going number ends

abbrev pub state_progress : ℕ → Kept → Option Stop → State → Progress
state_progress number kept stop Idle = idle kept
state_progress number kept stop (Told line) = told line kept
state_progress number kept stop (Working doing false) = busy number (doing_ready kept stop doing)
state_progress number kept stop (Working doing true) = busy number (doing_asked kept stop doing)
state_progress number kept stop (HandedOut listed) = handed number (with_shares kept stop listed)
state_progress number kept stop (Greeting doing) = greeting number (doing_ready kept stop doing)
state_progress number kept stop (Greeted doing) = greeting_out number (doing_ready kept stop doing)

abbrev pub progress_of : Actor → Progress
progress_of actor = state_progress actor.number actor.kept actor.stop actor.state

-- a bound on the calls that list a container of a known room
abbrev pub list_bound : ℕ
list_bound = 2 ^ 64 + 50

-- bounds on the calls that are left
abbrev pub doing_left : Doing → ℕ
doing_left (Known outcome) = 0
doing_left (Opening flow) = open_left flow + 1
doing_left (Writing flow at len) = write_left flow + 1
doing_left (Syncing flow) = sync_left flow + 1
doing_left (Closing flow) = close_left flow + 1
doing_left (Listing flow purpose) = open_calls_left flow + shares_bound (workers_of purpose) + 1
doing_left (Gathering flow purpose) = gather_left flow.value + 1
doing_left (Reading flow at) = read_left flow + 1
doing_left (Verifying flow at content) = read_left flow + 1
doing_left (Telling flow) = attr_left flow + (list_bound + shares_bound 1) + 1
doing_left (Truncating flow) = truncate_left flow + 1
doing_left (Flattening flow) = flatten_left flow.value + 1
doing_left (Renaming flow) = rename_left flow + 1
doing_left (Recovering flow) = recover_left flow + 1
doing_left (Refreshing flow) = refresh_left flow.value + 1
doing_left (Naming flow) = names_left flow + 1

abbrev pub state_left : State → ℕ
state_left Idle = 0
state_left (Told line) = 0
state_left (Working doing is_out) = doing_left doing
state_left (HandedOut listed) = shares_bound 0 + 1
state_left (Greeting doing) = doing_left doing + 1
state_left (Greeted doing) = doing_left doing + 1

-- a bound on the calls that its statement still makes
abbrev pub calls_left : Actor → ℕ
calls_left actor = state_left actor.state
