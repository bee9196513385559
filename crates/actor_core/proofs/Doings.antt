-- What holds of each statement at work.
use Rattle.std.proofs.Common.{◌≡◌, ◌<◌, ◌+◌, ℕ, arith, true, false, Option, Result, Ok, Err, sym, ap, ◌∙◌}
use Rattle.std.specs.Prelude.{OnOk}
use Rattle.mount_model.specs.Standing.{Standing, ready, Rest, rest_of, replied, Awaits}
use Rattle.mount_model.specs.declared.call.Call.{Call}
use Rattle.mount_model.specs.declared.reply.Reply.{Reply}
use Rattle.writer_flow.specs.OpeningStages.{open_standing}
use Rattle.writer_flow.specs.WritingStages.{write_standing}
use Rattle.writer_flow.specs.SyncingStages.{sync_standing}
use Rattle.writer_flow.specs.ClosingStages.{close_standing}
use Rattle.index_reader.specs.OpenStages.{open_standing as list_standing}
use Rattle.index_reader.specs.ReadingStages.{read_standing}
use Rattle.attr_flow.specs.Stages.{attr_standing}
use Rattle.trunc_rename.specs.TruncateStages.{truncate_standing}
use Rattle.trunc_rename.specs.RenameStages.{rename_standing}
use Rattle.flatten_core.specs.FlattenStages.{flatten_standing}
use Rattle.torn_tail.specs.Stages.{recover_standing}
use Rattle.refresh_index.specs.RefreshStages.{refresh_standing}
use Rattle.actor_core.specs.declared.kept.Stop.{Stop}
use Rattle.actor_core.specs.declared.kept.Kept.{Kept}
use Rattle.actor_core.specs.declared.doing.Doing.{Doing}
use Rattle.actor_core.specs.declared.doing.Doing.TheVariants.{Known, Opening, Writing, Syncing, Closing, Listing, Gathering, Reading, Verifying, Telling, Truncating, Renaming, Recovering, Refreshing, Naming, Flattening}
use Rattle.gather_flow.specs.declared.gathering.Gathering.{Gathering as Gathers}
use Rattle.gather_flow.specs.declared.gathering.Gathering.TheVariants.{Shares, Truncs, Ended}
use Rattle.actor_core.specs.Stopping.{is_due, one_nearer}
use Rattle.actor_core.specs.declared.purpose.Purpose.{Purpose}
use Rattle.actor_core.specs.Endings.{stopped, opened, wrote, synced, closed, read_from, verified, truncated, renamed, recovered, names_listed, flattened}
use Rattle.actor_core.specs.Opened.{reader_refreshed}
use Rattle.actor_core.specs.Telling.{if_asked}
use Rattle.actor_core.specs.Purposes.{if_listed_for, ended_for}
use Rattle.actor_core.specs.Naming.{names_standing}
use Rattle.gather_flow.specs.Gathering.{gather_standing, gather_rest}
use Rattle.actor_core.specs.Work.{Work, finishes}
use Rattle.actor_core.specs.Progress.{going, IsAsked, with_reply}
use Rattle.actor_core.specs.Standings.{busy, ready_of, asked_of, doing_ready, doing_asked, doing_left, AwaitsReply}
use Rattle.actor_core.proofs.Carrying.{awaited, stops_so, out_same, replied_so}

-- a statement whose call is out has its reply to come
pub has_call_out : (number : ℕ) (kept : Kept) (stop : Option Stop) (doing : Doing) → IsAsked (busy number (doing_asked kept stop doing)) → AwaitsReply doing
has_call_out number kept stop (Known outcome) is_asked = absurd is_asked
has_call_out number kept stop (Opening flow) is_asked = awaited number (rest_of (open_standing flow)) stop (λ left result. finishes (opened kept result)) (finishes (stopped kept)) is_asked
has_call_out number kept stop (Writing flow at len) is_asked = awaited number (rest_of (write_standing flow)) stop (λ left out. finishes (wrote kept at len out)) (finishes (stopped kept)) is_asked
has_call_out number kept stop (Syncing flow) is_asked = awaited number (rest_of (sync_standing flow)) stop (λ left out. finishes (synced kept out)) (finishes (stopped kept)) is_asked
has_call_out number kept stop (Closing flow) is_asked = awaited number (rest_of (close_standing flow)) stop (λ left out. finishes (closed kept out)) (finishes (stopped kept)) is_asked
has_call_out number kept stop (Listing flow purpose) is_asked = awaited number (rest_of (list_standing flow)) stop (if_listed_for purpose kept) (finishes (stopped kept)) is_asked
has_call_out number kept stop (Gathering flow purpose) is_asked = awaited number (gather_rest flow.value) stop (λ left result. finishes (ended_for purpose kept result)) (finishes (stopped kept)) is_asked
has_call_out number kept stop (Reading flow at) is_asked = awaited number (rest_of (read_standing flow)) stop (λ left result. finishes (read_from kept at result)) (finishes (stopped kept)) is_asked
has_call_out number kept stop (Verifying flow at content) is_asked = awaited number (rest_of (read_standing flow)) stop (λ left result. finishes (verified kept at content result)) (finishes (stopped kept)) is_asked
has_call_out number kept stop (Telling flow) is_asked = awaited number (rest_of (attr_standing flow)) stop (if_asked kept) (finishes (stopped kept)) is_asked
has_call_out number kept stop (Truncating flow) is_asked = awaited number (rest_of (truncate_standing flow)) stop (λ left result. finishes (truncated kept result)) (finishes (stopped kept)) is_asked
has_call_out number kept stop (Flattening flow) is_asked = awaited number (rest_of (flatten_standing flow.value)) stop (λ left result. finishes (flattened kept result)) (finishes (stopped kept)) is_asked
has_call_out number kept stop (Renaming flow) is_asked = awaited number (rest_of (rename_standing flow)) stop (λ left result. finishes (renamed kept result)) (finishes (stopped kept)) is_asked
has_call_out number kept stop (Recovering flow) is_asked = awaited number (rest_of (recover_standing flow)) stop (λ left result. finishes (recovered kept result)) (finishes (stopped kept)) is_asked
has_call_out number kept stop (Refreshing flow) is_asked = awaited number (rest_of (refresh_standing flow.value)) stop (λ left result. finishes (reader_refreshed kept result)) (finishes (stopped kept)) is_asked
has_call_out number kept stop (Naming flow) is_asked = awaited number (rest_of (names_standing flow)) stop (λ left result. finishes (names_listed kept result)) (finishes (stopped kept)) is_asked

-- a statement ends where its actor stops within its call
pub stops_there : (number : ℕ) (kept : Kept) (stop : Option Stop) (doing : Doing) (reply : Reply)
    → IsAsked (busy number (doing_asked kept stop doing)) → is_due stop ≡ true
    → going number (finishes (stopped kept)) ≡ with_reply (busy number (doing_asked kept stop doing)) reply
stops_there number kept stop (Known outcome) reply is_asked due = absurd is_asked
stops_there number kept stop (Opening flow) reply is_asked due = stops_so number (rest_of (open_standing flow)) stop (λ left result. finishes (opened kept result)) (finishes (stopped kept)) reply is_asked due
stops_there number kept stop (Writing flow at len) reply is_asked due = stops_so number (rest_of (write_standing flow)) stop (λ left out. finishes (wrote kept at len out)) (finishes (stopped kept)) reply is_asked due
stops_there number kept stop (Syncing flow) reply is_asked due = stops_so number (rest_of (sync_standing flow)) stop (λ left out. finishes (synced kept out)) (finishes (stopped kept)) reply is_asked due
stops_there number kept stop (Closing flow) reply is_asked due = stops_so number (rest_of (close_standing flow)) stop (λ left out. finishes (closed kept out)) (finishes (stopped kept)) reply is_asked due
stops_there number kept stop (Listing flow purpose) reply is_asked due = stops_so number (rest_of (list_standing flow)) stop (if_listed_for purpose kept) (finishes (stopped kept)) reply is_asked due
stops_there number kept stop (Gathering flow purpose) reply is_asked due = stops_so number (gather_rest flow.value) stop (λ left result. finishes (ended_for purpose kept result)) (finishes (stopped kept)) reply is_asked due
stops_there number kept stop (Reading flow at) reply is_asked due = stops_so number (rest_of (read_standing flow)) stop (λ left result. finishes (read_from kept at result)) (finishes (stopped kept)) reply is_asked due
stops_there number kept stop (Verifying flow at content) reply is_asked due = stops_so number (rest_of (read_standing flow)) stop (λ left result. finishes (verified kept at content result)) (finishes (stopped kept)) reply is_asked due
stops_there number kept stop (Telling flow) reply is_asked due = stops_so number (rest_of (attr_standing flow)) stop (if_asked kept) (finishes (stopped kept)) reply is_asked due
stops_there number kept stop (Truncating flow) reply is_asked due = stops_so number (rest_of (truncate_standing flow)) stop (λ left result. finishes (truncated kept result)) (finishes (stopped kept)) reply is_asked due
stops_there number kept stop (Flattening flow) reply is_asked due = stops_so number (rest_of (flatten_standing flow.value)) stop (λ left result. finishes (flattened kept result)) (finishes (stopped kept)) reply is_asked due
stops_there number kept stop (Renaming flow) reply is_asked due = stops_so number (rest_of (rename_standing flow)) stop (λ left result. finishes (renamed kept result)) (finishes (stopped kept)) reply is_asked due
stops_there number kept stop (Recovering flow) reply is_asked due = stops_so number (rest_of (recover_standing flow)) stop (λ left result. finishes (recovered kept result)) (finishes (stopped kept)) reply is_asked due
stops_there number kept stop (Refreshing flow) reply is_asked due = stops_so number (rest_of (refresh_standing flow.value)) stop (λ left result. finishes (reader_refreshed kept result)) (finishes (stopped kept)) reply is_asked due
stops_there number kept stop (Naming flow) reply is_asked due = stops_so number (rest_of (names_standing flow)) stop (λ left result. finishes (names_listed kept result)) (finishes (stopped kept)) reply is_asked due

-- and it may still make a call
pub some_left : (doing : Doing) → AwaitsReply doing → 0 < doing_left doing
some_left (Known outcome) is_out = absurd is_out
some_left (Opening flow) is_out = omega arith
some_left (Writing flow at len) is_out = omega arith
some_left (Syncing flow) is_out = omega arith
some_left (Closing flow) is_out = omega arith
some_left (Listing flow purpose) is_out = omega arith
some_left (Gathering flow purpose) is_out = omega arith
some_left (Reading flow at) is_out = omega arith
some_left (Verifying flow at content) is_out = omega arith
some_left (Telling flow) is_out = omega arith
some_left (Truncating flow) is_out = omega arith
some_left (Flattening flow) is_out = omega arith
some_left (Renaming flow) is_out = omega arith
some_left (Recovering flow) is_out = omega arith
some_left (Refreshing flow) is_out = omega arith
some_left (Naming flow) is_out = omega arith

-- a statement that was taken for one without a call, and has one out
gather_out : (number : ℕ) (kept : Kept) (stop : Option Stop) (flow : Gathers) (purpose : Purpose)
    → IsAsked (busy number (ready_of (gather_standing flow) stop (λ left result. finishes (ended_for purpose kept result)) (finishes (stopped kept))))
    → busy number (ready_of (gather_standing flow) stop (λ left result. finishes (ended_for purpose kept result)) (finishes (stopped kept)))
    ≡ busy number (asked_of (gather_rest flow) stop (λ left result. finishes (ended_for purpose kept result)) (finishes (stopped kept)))
gather_out number kept stop (Shares flow listed workers worker sofar) purpose is_asked = absurd is_asked
gather_out number kept stop (Truncs flow listed shares) purpose is_asked = absurd is_asked
gather_out number kept stop (Ended result) purpose is_asked = absurd is_asked

pub same_out : (number : ℕ) (kept : Kept) (stop : Option Stop) (doing : Doing) → IsAsked (busy number (doing_ready kept stop doing)) → busy number (doing_ready kept stop doing) ≡ busy number (doing_asked kept stop doing)
same_out number kept stop (Known outcome) is_asked = absurd is_asked
same_out number kept stop (Opening flow) is_asked = out_same number (open_standing flow) stop (λ left result. finishes (opened kept result)) (finishes (stopped kept)) is_asked
same_out number kept stop (Writing flow at len) is_asked = out_same number (write_standing flow) stop (λ left out. finishes (wrote kept at len out)) (finishes (stopped kept)) is_asked
same_out number kept stop (Syncing flow) is_asked = out_same number (sync_standing flow) stop (λ left out. finishes (synced kept out)) (finishes (stopped kept)) is_asked
same_out number kept stop (Closing flow) is_asked = out_same number (close_standing flow) stop (λ left out. finishes (closed kept out)) (finishes (stopped kept)) is_asked
same_out number kept stop (Listing flow purpose) is_asked = out_same number (list_standing flow) stop (if_listed_for purpose kept) (finishes (stopped kept)) is_asked
same_out number kept stop (Reading flow at) is_asked = out_same number (read_standing flow) stop (λ left result. finishes (read_from kept at result)) (finishes (stopped kept)) is_asked
same_out number kept stop (Verifying flow at content) is_asked = out_same number (read_standing flow) stop (λ left result. finishes (verified kept at content result)) (finishes (stopped kept)) is_asked
same_out number kept stop (Telling flow) is_asked = out_same number (attr_standing flow) stop (if_asked kept) (finishes (stopped kept)) is_asked
same_out number kept stop (Truncating flow) is_asked = out_same number (truncate_standing flow) stop (λ left result. finishes (truncated kept result)) (finishes (stopped kept)) is_asked
same_out number kept stop (Flattening flow) is_asked = out_same number (flatten_standing flow.value) stop (λ left result. finishes (flattened kept result)) (finishes (stopped kept)) is_asked
same_out number kept stop (Renaming flow) is_asked = out_same number (rename_standing flow) stop (λ left result. finishes (renamed kept result)) (finishes (stopped kept)) is_asked
same_out number kept stop (Recovering flow) is_asked = out_same number (recover_standing flow) stop (λ left result. finishes (recovered kept result)) (finishes (stopped kept)) is_asked
same_out number kept stop (Refreshing flow) is_asked = out_same number (refresh_standing flow.value) stop (λ left result. finishes (reader_refreshed kept result)) (finishes (stopped kept)) is_asked
same_out number kept stop (Naming flow) is_asked = out_same number (names_standing flow) stop (λ left result. finishes (names_listed kept result)) (finishes (stopped kept)) is_asked
same_out number kept stop (Gathering flow purpose) is_asked = gather_out number kept stop flow.value purpose is_asked

-- a bound and one more
pub more_left : {A E : Type 0} (result : Result A E) (calls bound : ℕ) → OnOk result (calls < bound) → OnOk result (calls < bound + 1)
more_left (Ok a) calls bound fewer = omega (arith, fewer)
more_left (Err because) calls bound fewer = tt

-- what is so of a statement's machine before and after it took a reply is so of the statement
pub takes_so : {R E : Type 0} (rest : Rest Call Reply R) (new : Standing Call Reply R) (next : Kept → Option Stop → R → Work) (was before after : Doing) (result : Result (Unit {0}) E) (reply : Reply) → was ≡ before
    → ((kept : Kept) (stop : Option Stop) → doing_asked kept stop before ≡ asked_of rest stop (next kept) (finishes (stopped kept)))
    → ((kept : Kept) (stop : Option Stop) → doing_ready kept stop after ≡ ready_of new stop (next kept) (finishes (stopped kept)))
    → Awaits rest → OnOk result (new ≡ ready (replied rest reply))
    → OnOk result ((number : ℕ) (kept : Kept) (stop : Option Stop) → is_due stop ≡ false
    → busy number (doing_ready kept (one_nearer stop) after) ≡ with_reply (busy number (doing_asked kept stop was)) reply)
takes_so rest new next was before after (Err why) reply is as_before as_after awaits_it goes = tt
takes_so rest new next was before after (Ok nothing) reply is as_before as_after awaits_it goes = λ number kept stop not_due.
    ap (busy number) (as_after kept (one_nearer stop))
    ∙ replied_so number rest new stop (next kept) (finishes (stopped kept)) reply awaits_it goes not_due
    ∙ sym (ap (λ u. with_reply (busy number u) reply) (ap (doing_asked kept stop) is ∙ as_before kept stop))
