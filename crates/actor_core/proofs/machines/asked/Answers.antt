use Rattle.std.proofs.Common.{refl, sym, ap}
use Rattle.writer_flow.specs.OpeningStages.{open_standing}
use Rattle.writer_flow.specs.WritingStages.{write_standing}
use Rattle.writer_flow.specs.SyncingStages.{sync_standing}
use Rattle.writer_flow.specs.ClosingStages.{close_standing}
use Rattle.index_reader.specs.ReadingStages.{read_standing}
use Rattle.trunc_rename.specs.TruncateStages.{truncate_standing}
use Rattle.trunc_rename.specs.RenameStages.{rename_standing}
use Rattle.flatten_core.specs.FlattenStages.{flatten_standing}
use Rattle.torn_tail.specs.Stages.{recover_standing}
use Rattle.refresh_index.specs.RefreshStages.{refresh_standing}
use Rattle.actor_core.specs.declared.doing.Doing.TheVariants.{Opening, Writing, Syncing, Closing, Reading, Verifying, Truncating, Renaming, Recovering, Refreshing, Naming, Flattening}
use Rattle.actor_core.specs.Endings.{opened, wrote, synced, closed, read_from, verified, truncated, renamed, recovered, names_listed, flattened, stopped}
use Rattle.actor_core.specs.Opened.{reader_refreshed}
use Rattle.actor_core.specs.Naming.{names_standing}
use Rattle.actor_core.specs.Work.{finishes}
use Rattle.actor_core.specs.Standings.{ready_of}
use Rattle.actor_core.proofs.OneMachine.{goes_on}
use Rattle.actor_core.proofs.machines.asked.Goals as goal

pub returns-in-Opening-clause-goes_on : goal.returns-in-Opening-clause-goes_on
returns-in-Opening-clause-goes_on c =
    goes_on (open_standing c.in-Opening.flow) (open_standing c.next.new.self) (λ kept left result. finishes (opened kept result)) c.args.doing.now (Opening c.in-Opening.flow) (Opening c.next.new.self) c.in-Opening.is (λ kept stop. refl) (λ kept stop. refl) (λ kept stop. refl) (λ is. is)
    c.next.result c.next.ensures.call c.next.ensures.rest

pub returns-in-Writing-clause-goes_on : goal.returns-in-Writing-clause-goes_on
returns-in-Writing-clause-goes_on c =
    goes_on (write_standing c.in-Writing.flow) (write_standing c.next-in-Writing.new.self) (λ kept left out. finishes (wrote kept c.in-Writing.at c.in-Writing.len out)) c.args.doing.now (Writing c.in-Writing.flow c.in-Writing.at c.in-Writing.len) (Writing c.next-in-Writing.new.self c.in-Writing.at c.in-Writing.len) c.in-Writing.is (λ kept stop. refl) (λ kept stop. refl) (λ kept stop. refl) (λ is. is)
    c.next-in-Writing.result c.next-in-Writing.ensures.call c.next-in-Writing.ensures.rest

pub returns-in-Syncing-clause-goes_on : goal.returns-in-Syncing-clause-goes_on
returns-in-Syncing-clause-goes_on c =
    goes_on (sync_standing c.in-Syncing.flow) (sync_standing c.next-in-Syncing.new.self) (λ kept left out. finishes (synced kept out)) c.args.doing.now (Syncing c.in-Syncing.flow) (Syncing c.next-in-Syncing.new.self) c.in-Syncing.is (λ kept stop. refl) (λ kept stop. refl) (λ kept stop. refl) (λ is. is)
    c.next-in-Syncing.result c.next-in-Syncing.ensures.call c.next-in-Syncing.ensures.rest

pub returns-in-Closing-clause-goes_on : goal.returns-in-Closing-clause-goes_on
returns-in-Closing-clause-goes_on c =
    goes_on (close_standing c.in-Closing.flow) (close_standing c.next-in-Closing.new.self) (λ kept left out. finishes (closed kept out)) c.args.doing.now (Closing c.in-Closing.flow) (Closing c.next-in-Closing.new.self) c.in-Closing.is (λ kept stop. refl) (λ kept stop. refl) (λ kept stop. refl) (λ is. is)
    c.next-in-Closing.result c.next-in-Closing.ensures.call c.next-in-Closing.ensures.rest

pub returns-in-Reading-clause-goes_on : goal.returns-in-Reading-clause-goes_on
returns-in-Reading-clause-goes_on c =
    goes_on (read_standing c.in-Reading.flow) (read_standing c.next-in-Reading.new.self) (λ kept left result. finishes (read_from kept c.in-Reading.at result)) c.args.doing.now (Reading c.in-Reading.flow c.in-Reading.at) (Reading c.next-in-Reading.new.self c.in-Reading.at) c.in-Reading.is (λ kept stop. refl) (λ kept stop. refl) (λ kept stop. refl) (λ is. is)
    c.next-in-Reading.result c.next-in-Reading.ensures.call c.next-in-Reading.ensures.rest

pub returns-in-Verifying-clause-goes_on : goal.returns-in-Verifying-clause-goes_on
returns-in-Verifying-clause-goes_on c =
    goes_on (read_standing c.in-Verifying.flow) (read_standing c.next-in-Verifying.new.self) (λ kept left result. finishes (verified kept c.in-Verifying.at c.in-Verifying.content result)) c.args.doing.now (Verifying c.in-Verifying.flow c.in-Verifying.at c.in-Verifying.content) (Verifying c.next-in-Verifying.new.self c.in-Verifying.at c.in-Verifying.content) c.in-Verifying.is (λ kept stop. refl) (λ kept stop. refl) (λ kept stop. refl) (λ is. is)
    c.next-in-Verifying.result c.next-in-Verifying.ensures.call c.next-in-Verifying.ensures.rest

pub returns-in-Truncating-clause-goes_on : goal.returns-in-Truncating-clause-goes_on
returns-in-Truncating-clause-goes_on c =
    goes_on (truncate_standing c.in-Truncating.flow) (truncate_standing c.next-in-Truncating.new.self) (λ kept left result. finishes (truncated kept result)) c.args.doing.now (Truncating c.in-Truncating.flow) (Truncating c.next-in-Truncating.new.self) c.in-Truncating.is (λ kept stop. refl) (λ kept stop. refl) (λ kept stop. refl) (λ is. is)
    c.next-in-Truncating.result c.next-in-Truncating.ensures.call c.next-in-Truncating.ensures.rest

pub returns-in-Flattening-clause-goes_on : goal.returns-in-Flattening-clause-goes_on
returns-in-Flattening-clause-goes_on c =
    goes_on (flatten_standing c.deref_mut.result.now) (flatten_standing c.next-in-Flattening.new.self) (λ kept left result. finishes (flattened kept result)) c.args.doing.now (Flattening c.in-Flattening.flow) (Flattening (record c.in-Flattening.flow { value = c.next-in-Flattening.new.self })) c.in-Flattening.is (λ kept stop. ap (λ machine. ready_of (flatten_standing machine) stop (λ left result. finishes (flattened kept result)) (finishes (stopped kept))) (sym c.deref_mut.ensures.value)) (λ kept stop. refl) (λ kept stop. refl) (λ is. is)
    c.next-in-Flattening.result c.next-in-Flattening.ensures.call c.next-in-Flattening.ensures.rest

pub returns-in-Renaming-clause-goes_on : goal.returns-in-Renaming-clause-goes_on
returns-in-Renaming-clause-goes_on c =
    goes_on (rename_standing c.in-Renaming.flow) (rename_standing c.next-in-Renaming.new.self) (λ kept left result. finishes (renamed kept result)) c.args.doing.now (Renaming c.in-Renaming.flow) (Renaming c.next-in-Renaming.new.self) c.in-Renaming.is (λ kept stop. refl) (λ kept stop. refl) (λ kept stop. refl) (λ is. is)
    c.next-in-Renaming.result c.next-in-Renaming.ensures.call c.next-in-Renaming.ensures.rest

pub returns-in-Recovering-clause-goes_on : goal.returns-in-Recovering-clause-goes_on
returns-in-Recovering-clause-goes_on c =
    goes_on (recover_standing c.in-Recovering.flow) (recover_standing c.next-in-Recovering.new.self) (λ kept left result. finishes (recovered kept result)) c.args.doing.now (Recovering c.in-Recovering.flow) (Recovering c.next-in-Recovering.new.self) c.in-Recovering.is (λ kept stop. refl) (λ kept stop. refl) (λ kept stop. refl) (λ is. is)
    c.next-in-Recovering.result c.next-in-Recovering.ensures.call c.next-in-Recovering.ensures.rest

pub returns-in-Refreshing-clause-goes_on : goal.returns-in-Refreshing-clause-goes_on
returns-in-Refreshing-clause-goes_on c =
    goes_on (refresh_standing c.deref_mut-in-Refreshing.result.now) (refresh_standing c.next-in-Refreshing.new.self) (λ kept left result. finishes (reader_refreshed kept result)) c.args.doing.now (Refreshing c.in-Refreshing.flow) (Refreshing (record c.in-Refreshing.flow { value = c.next-in-Refreshing.new.self })) c.in-Refreshing.is (λ kept stop. ap (λ machine. ready_of (refresh_standing machine) stop (λ left result. finishes (reader_refreshed kept result)) (finishes (stopped kept))) (sym c.deref_mut-in-Refreshing.ensures.value)) (λ kept stop. refl) (λ kept stop. refl) (λ is. is)
    c.next-in-Refreshing.result c.next-in-Refreshing.ensures.call c.next-in-Refreshing.ensures.rest

pub returns-in-Naming-clause-goes_on : goal.returns-in-Naming-clause-goes_on
returns-in-Naming-clause-goes_on c =
    goes_on (names_standing c.in-Naming.flow) (names_standing c.next-in-Naming.new.self) (λ kept left result. finishes (names_listed kept result)) c.args.doing.now (Naming c.in-Naming.flow) (Naming c.next-in-Naming.new.self) c.in-Naming.is (λ kept stop. refl) (λ kept stop. refl) (λ kept stop. refl) (λ is. is)
    c.next-in-Naming.result c.next-in-Naming.ensures.call c.next-in-Naming.ensures.rest
