use Rattle.std.proofs.Common.{◌≡◌, refl, subst}
use Rattle.std.specs.Prelude.{OnOk}
use Rattle.mount_model.specs.Standing.{ready, rest_of, replied}
use Rattle.writer_flow.specs.OpeningStages.{open_standing}
use Rattle.writer_flow.specs.WritingStages.{write_standing}
use Rattle.writer_flow.specs.SyncingStages.{sync_standing}
use Rattle.writer_flow.specs.ClosingStages.{close_standing}
use Rattle.index_reader.specs.OpenStages.{open_standing as list_standing}
use Rattle.index_reader.specs.ReadingStages.{read_standing}
use Rattle.attr_flow.specs.Stages.{attr_standing}
use Rattle.trunc_rename.specs.TruncateStages.{truncate_standing}
use Rattle.trunc_rename.specs.RenameStages.{rename_standing}
use Rattle.flatten_core.specs.FlattenStages.{flatten_standing}
use Rattle.torn_tail.specs.Stages.{recover_standing}
use Rattle.refresh_index.specs.RefreshStages.{refresh_standing}
use Rattle.gather_flow.specs.Gathering.{gather_rest, gather_standing}
use Rattle.gather_flow.specs.declared.gathering.Gathering.{Gathering as Gathers}
use Rattle.flatten_core.specs.declared.flattening.FlattenFlow.{FlattenFlow}
use Rattle.refresh_index.specs.declared.refreshing.Refresh.{Refresh}
use Rattle.actor_core.specs.declared.doing.Doing.{Doing}
use Rattle.actor_core.specs.declared.doing.Doing.TheVariants.{Opening, Writing, Syncing, Closing, Listing, Gathering, Reading, Verifying, Telling, Truncating, Renaming, Recovering, Refreshing, Naming, Flattening}
use Rattle.actor_core.specs.Endings.{opened, wrote, synced, closed, read_from, verified, truncated, renamed, recovered, names_listed, flattened}
use Rattle.actor_core.specs.Opened.{reader_refreshed}
use Rattle.actor_core.specs.Telling.{if_asked}
use Rattle.actor_core.specs.Purposes.{if_listed_for, ended_for}
use Rattle.actor_core.specs.Naming.{names_standing}
use Rattle.actor_core.specs.Work.{finishes}
use Rattle.actor_core.specs.Standings.{AwaitsReply}
use Rattle.actor_core.proofs.Doings.{takes_so}
use Rattle.actor_core.proofs.taking.reply_taken_any.Goals as goal

pub returns-in-Opening-clause-goes_on : goal.returns-in-Opening-clause-goes_on
returns-in-Opening-clause-goes_on c =
    let P : Doing → Type 0 = λ doing. AwaitsReply doing in
    takes_so (rest_of (open_standing c.in-Opening.flow)) (open_standing c.take.new.self) (λ kept left result. finishes (opened kept result)) c.args.doing.now (Opening c.in-Opening.flow) (Opening c.take.new.self) c.take.result c.args.reply
    c.in-Opening.is (λ kept stop. refl) (λ kept stop. refl) (subst P c.in-Opening.is c.requires) c.take.ensures.goes_on

pub returns-in-Writing-clause-goes_on : goal.returns-in-Writing-clause-goes_on
returns-in-Writing-clause-goes_on c =
    let P : Doing → Type 0 = λ doing. AwaitsReply doing in
    takes_so (rest_of (write_standing c.in-Writing.flow)) (write_standing c.take-in-Writing.new.self) (λ kept left out. finishes (wrote kept c.in-Writing.at c.in-Writing.len out)) c.args.doing.now (Writing c.in-Writing.flow c.in-Writing.at c.in-Writing.len) (Writing c.take-in-Writing.new.self c.in-Writing.at c.in-Writing.len) c.take-in-Writing.result c.args.reply
    c.in-Writing.is (λ kept stop. refl) (λ kept stop. refl) (subst P c.in-Writing.is c.requires) c.take-in-Writing.ensures.goes_on

pub returns-in-Syncing-clause-goes_on : goal.returns-in-Syncing-clause-goes_on
returns-in-Syncing-clause-goes_on c =
    let P : Doing → Type 0 = λ doing. AwaitsReply doing in
    takes_so (rest_of (sync_standing c.in-Syncing.flow)) (sync_standing c.take-in-Syncing.new.self) (λ kept left out. finishes (synced kept out)) c.args.doing.now (Syncing c.in-Syncing.flow) (Syncing c.take-in-Syncing.new.self) c.take-in-Syncing.result c.args.reply
    c.in-Syncing.is (λ kept stop. refl) (λ kept stop. refl) (subst P c.in-Syncing.is c.requires) c.take-in-Syncing.ensures.goes_on

pub returns-in-Closing-clause-goes_on : goal.returns-in-Closing-clause-goes_on
returns-in-Closing-clause-goes_on c =
    let P : Doing → Type 0 = λ doing. AwaitsReply doing in
    takes_so (rest_of (close_standing c.in-Closing.flow)) (close_standing c.take-in-Closing.new.self) (λ kept left out. finishes (closed kept out)) c.args.doing.now (Closing c.in-Closing.flow) (Closing c.take-in-Closing.new.self) c.take-in-Closing.result c.args.reply
    c.in-Closing.is (λ kept stop. refl) (λ kept stop. refl) (subst P c.in-Closing.is c.requires) c.take-in-Closing.ensures.goes_on

pub returns-in-Listing-clause-goes_on : goal.returns-in-Listing-clause-goes_on
returns-in-Listing-clause-goes_on c =
    let P : Doing → Type 0 = λ doing. AwaitsReply doing in
    takes_so (rest_of (list_standing c.in-Listing.flow)) (list_standing c.take-in-Listing.new.self) (if_listed_for c.in-Listing.purpose) c.args.doing.now (Listing c.in-Listing.flow c.in-Listing.purpose) (Listing c.take-in-Listing.new.self c.in-Listing.purpose) c.take-in-Listing.result c.args.reply
    c.in-Listing.is (λ kept stop. refl) (λ kept stop. refl) (subst P c.in-Listing.is c.requires) c.take-in-Listing.ensures.goes_on

pub returns-in-Gathering-clause-goes_on : goal.returns-in-Gathering-clause-goes_on
returns-in-Gathering-clause-goes_on c =
    let P : Doing → Type 0 = λ doing. AwaitsReply doing in
    let G : Gathers → Type 0 = λ machine. OnOk c.gathering_taken.result (gather_standing c.gathering_taken.new.flow ≡ ready (replied (gather_rest machine) c.args.reply)) in
    takes_so (gather_rest c.in-Gathering.flow.value) (gather_standing c.gathering_taken.new.flow) (λ kept left result. finishes (ended_for c.in-Gathering.purpose kept result)) c.args.doing.now (Gathering c.in-Gathering.flow c.in-Gathering.purpose) (Gathering (record c.in-Gathering.flow { value = c.gathering_taken.new.flow }) c.in-Gathering.purpose) c.gathering_taken.result c.args.reply
    c.in-Gathering.is (λ kept stop. refl) (λ kept stop. refl) (subst P c.in-Gathering.is c.requires) (subst G c.deref_mut.ensures.value c.gathering_taken.ensures.goes_on)

pub returns-in-Reading-clause-goes_on : goal.returns-in-Reading-clause-goes_on
returns-in-Reading-clause-goes_on c =
    let P : Doing → Type 0 = λ doing. AwaitsReply doing in
    takes_so (rest_of (read_standing c.in-Reading.flow)) (read_standing c.take-in-Reading.new.self) (λ kept left result. finishes (read_from kept c.in-Reading.at result)) c.args.doing.now (Reading c.in-Reading.flow c.in-Reading.at) (Reading c.take-in-Reading.new.self c.in-Reading.at) c.take-in-Reading.result c.args.reply
    c.in-Reading.is (λ kept stop. refl) (λ kept stop. refl) (subst P c.in-Reading.is c.requires) c.take-in-Reading.ensures.goes_on

pub returns-in-Verifying-clause-goes_on : goal.returns-in-Verifying-clause-goes_on
returns-in-Verifying-clause-goes_on c =
    let P : Doing → Type 0 = λ doing. AwaitsReply doing in
    takes_so (rest_of (read_standing c.in-Verifying.flow)) (read_standing c.take-in-Verifying.new.self) (λ kept left result. finishes (verified kept c.in-Verifying.at c.in-Verifying.content result)) c.args.doing.now (Verifying c.in-Verifying.flow c.in-Verifying.at c.in-Verifying.content) (Verifying c.take-in-Verifying.new.self c.in-Verifying.at c.in-Verifying.content) c.take-in-Verifying.result c.args.reply
    c.in-Verifying.is (λ kept stop. refl) (λ kept stop. refl) (subst P c.in-Verifying.is c.requires) c.take-in-Verifying.ensures.goes_on

pub returns-in-Telling-clause-goes_on : goal.returns-in-Telling-clause-goes_on
returns-in-Telling-clause-goes_on c =
    let P : Doing → Type 0 = λ doing. AwaitsReply doing in
    takes_so (rest_of (attr_standing c.in-Telling.flow)) (attr_standing c.take-in-Telling.new.self) if_asked c.args.doing.now (Telling c.in-Telling.flow) (Telling c.take-in-Telling.new.self) c.take-in-Telling.result c.args.reply
    c.in-Telling.is (λ kept stop. refl) (λ kept stop. refl) (subst P c.in-Telling.is c.requires) c.take-in-Telling.ensures.goes_on

pub returns-in-Truncating-clause-goes_on : goal.returns-in-Truncating-clause-goes_on
returns-in-Truncating-clause-goes_on c =
    let P : Doing → Type 0 = λ doing. AwaitsReply doing in
    takes_so (rest_of (truncate_standing c.in-Truncating.flow)) (truncate_standing c.take-in-Truncating.new.self) (λ kept left result. finishes (truncated kept result)) c.args.doing.now (Truncating c.in-Truncating.flow) (Truncating c.take-in-Truncating.new.self) c.take-in-Truncating.result c.args.reply
    c.in-Truncating.is (λ kept stop. refl) (λ kept stop. refl) (subst P c.in-Truncating.is c.requires) c.take-in-Truncating.ensures.goes_on

pub returns-in-Flattening-clause-goes_on : goal.returns-in-Flattening-clause-goes_on
returns-in-Flattening-clause-goes_on c =
    let P : Doing → Type 0 = λ doing. AwaitsReply doing in
    let G : FlattenFlow → Type 0 = λ machine. OnOk c.take-in-Flattening.result (flatten_standing c.take-in-Flattening.new.self ≡ ready (replied (rest_of (flatten_standing machine)) c.args.reply)) in
    takes_so (rest_of (flatten_standing c.in-Flattening.flow.value)) (flatten_standing c.take-in-Flattening.new.self) (λ kept left result. finishes (flattened kept result)) c.args.doing.now (Flattening c.in-Flattening.flow) (Flattening (record c.in-Flattening.flow { value = c.take-in-Flattening.new.self })) c.take-in-Flattening.result c.args.reply
    c.in-Flattening.is (λ kept stop. refl) (λ kept stop. refl) (subst P c.in-Flattening.is c.requires) (subst G c.deref_mut-in-Flattening.ensures.value c.take-in-Flattening.ensures.goes_on)

pub returns-in-Renaming-clause-goes_on : goal.returns-in-Renaming-clause-goes_on
returns-in-Renaming-clause-goes_on c =
    let P : Doing → Type 0 = λ doing. AwaitsReply doing in
    takes_so (rest_of (rename_standing c.in-Renaming.flow)) (rename_standing c.take-in-Renaming.new.self) (λ kept left result. finishes (renamed kept result)) c.args.doing.now (Renaming c.in-Renaming.flow) (Renaming c.take-in-Renaming.new.self) c.take-in-Renaming.result c.args.reply
    c.in-Renaming.is (λ kept stop. refl) (λ kept stop. refl) (subst P c.in-Renaming.is c.requires) c.take-in-Renaming.ensures.goes_on

pub returns-in-Recovering-clause-goes_on : goal.returns-in-Recovering-clause-goes_on
returns-in-Recovering-clause-goes_on c =
    let P : Doing → Type 0 = λ doing. AwaitsReply doing in
    takes_so (rest_of (recover_standing c.in-Recovering.flow)) (recover_standing c.take-in-Recovering.new.self) (λ kept left result. finishes (recovered kept result)) c.args.doing.now (Recovering c.in-Recovering.flow) (Recovering c.take-in-Recovering.new.self) c.take-in-Recovering.result c.args.reply
    c.in-Recovering.is (λ kept stop. refl) (λ kept stop. refl) (subst P c.in-Recovering.is c.requires) c.take-in-Recovering.ensures.goes_on

pub returns-in-Refreshing-clause-goes_on : goal.returns-in-Refreshing-clause-goes_on
returns-in-Refreshing-clause-goes_on c =
    let P : Doing → Type 0 = λ doing. AwaitsReply doing in
    let G : Refresh → Type 0 = λ machine. OnOk c.take-in-Refreshing.result (refresh_standing c.take-in-Refreshing.new.self ≡ ready (replied (rest_of (refresh_standing machine)) c.args.reply)) in
    takes_so (rest_of (refresh_standing c.in-Refreshing.flow.value)) (refresh_standing c.take-in-Refreshing.new.self) (λ kept left result. finishes (reader_refreshed kept result)) c.args.doing.now (Refreshing c.in-Refreshing.flow) (Refreshing (record c.in-Refreshing.flow { value = c.take-in-Refreshing.new.self })) c.take-in-Refreshing.result c.args.reply
    c.in-Refreshing.is (λ kept stop. refl) (λ kept stop. refl) (subst P c.in-Refreshing.is c.requires) (subst G c.deref_mut-in-Refreshing.ensures.value c.take-in-Refreshing.ensures.goes_on)

pub returns-in-Naming-clause-goes_on : goal.returns-in-Naming-clause-goes_on
returns-in-Naming-clause-goes_on c =
    let P : Doing → Type 0 = λ doing. AwaitsReply doing in
    takes_so (rest_of (names_standing c.in-Naming.flow)) (names_standing c.take-in-Naming.new.self) (λ kept left result. finishes (names_listed kept result)) c.args.doing.now (Naming c.in-Naming.flow) (Naming c.take-in-Naming.new.self) c.take-in-Naming.result c.args.reply
    c.in-Naming.is (λ kept stop. refl) (λ kept stop. refl) (subst P c.in-Naming.is c.requires) c.take-in-Naming.ensures.goes_on
