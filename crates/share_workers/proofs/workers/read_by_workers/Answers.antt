use Rattle.share_workers.proofs.Facts.{on_err}
use Rattle.std.proofs.Common.{List, length, map, drop, sym, subst, arith}
use Rattle.std.specs.Prelude.{Err}
use Rattle.std.specs.List.{All}
use Rattle.turn_object.specs.History.{state_after}
use Rattle.turn_object.specs.Pass.{start_of, front, seen_of}
use Rattle.mount_model.specs.Step.{IsStep}
use Rattle.mount_model.specs.History.{Event}
use Rattle.mount_sound.specs.Owed.{Permits}
use Rattle.mount_model.specs.declared.stuck.Stuck.TheVariants.{Fault}
use Rattle.mount_model.specs.Program.{done}
use Rattle.mount_model.specs.Going.{HasJoined}
use Rattle.mount_model.specs.Safe.{AreFree}
use Rattle.gather_flow.specs.Workers.{Reading, IsOutcomeOf}
use Rattle.share_workers.specs.Workers.{Reader, CanRead, EachWorks, EachHasWorked, calls_of_worker}
use Rattle.share_workers.proofs.WorkersTogether.{ok_so, all_may, same_programs, each_started, each_worked, given_begun, given_join, joined_from, started_begun, written_back, read_from}
use Rattle.share_workers.proofs.workers.read_by_workers.Goals as goal

pub work_all-requires-after_bounds : goal.work_all-requires-after_bounds
work_all-requires-after_bounds g c = λ κs lives.
    let s = c.split_all.ensures in
    let f = c.requires.free in
    subst (λ (z : List Reader). All (CanRead c.args.turn.now) z) (sym c.as_mut_slice.ensures.value)
    (all_may c.args.turn.now c.args.pass.now f.0 c.args.works c.split_all.new.workers.items f.1 (s.all c.if-not-split_all.false) s.given c.requires.known f.2 (done (Err Fault)))

pub join_all-requires-clause-can : goal.join_all-requires-clause-can
join_all-requires-clause-can g c = given_join c.args.turn.now (seen_of c.args.pass.now) c.split_all.new.workers.items c.split_all.ensures.given

pub returns-clause-read : goal.returns-clause-read
returns-clause-read g c =
    let turn = c.args.turn.now in
    let first = c.args.pass.now in
    let s = c.split_all.ensures in
    let f = c.requires.free in
    let olds = c.split_all.new.workers.items in
    let news = c.work_all.new.workers in
    let results = c.in_ok-results.results.items in
    let worked = subst (λ (z : List Reader). EachWorks turn z news) c.as_mut_slice.ensures.value c.work_all.ensures in
    ok_so c.outcome_of.result (λ outcome. IsOutcomeOf results outcome) _ (λ outcome is programs machines.
    let free = subst (λ (z : List Reading). AreFree IsStep Permits z (state_after (start_of turn) (seen_of first))) (same_programs f.0 programs c.args.works f.1 machines) f.2 in
    let each = each_worked turn first programs c.args.works olds machines (s.all c.if-not-split_all.false) s.given c.requires.known free news worked in
    let size = c.split_all.new.workers.ok.0 in
    let len = worked.len in
    let back = written_back c.split_all.new.workers.len news (drop (length news) olds) (omega (arith, size, len)) in
    let read = c.in_ok-results.ensures.read programs (subst (λ (z : List Event × List Reader). EachHasWorked turn z.0 programs z.1) (λ i. (sym s.same.0 i, back i)) each) in
    (results, read_from (front first) (front c.split_all.new.pass) (front c.join_all-2.new.pass) programs results s.same.0 s.same.1 s.same.2 read, is))
    c.outcome_of.ensures

pub returns-then-not-split_all-clause-broken : goal.returns-then-not-split_all-clause-broken
returns-then-not-split_all-clause-broken g c = λ programs machines.
    let first = c.args.pass.now in
    let s = c.split_all.ensures in
    let workers = c.split_all.new.workers.items in
    given_begun c.args.turn.now (front first) (front c.join_all.new.pass) programs workers
    (joined_from (front first) (front c.split_all.new.pass) (front c.join_all.new.pass) (map calls_of_worker workers) s.same.0 s.same.1 s.same.2 c.join_all.ensures.joined) s.given

pub returns-in_err-results-clause-broken : goal.returns-in_err-results-clause-broken
returns-in_err-results-clause-broken g c = on_err c.from_residual.result _ (
    λ programs machines.
    let turn = c.args.turn.now in
    let first = c.args.pass.now in
    let s = c.split_all.ensures in
    let f = c.requires.free in
    let olds = c.split_all.new.workers.items in
    let news = c.work_all.new.workers in
    let worked = subst (λ (z : List Reader). EachWorks turn z news) c.as_mut_slice.ensures.value c.work_all.ensures in
    let free = subst (λ (z : List Reading). AreFree IsStep Permits z (state_after (start_of turn) (seen_of first))) (same_programs f.0 programs c.args.works f.1 machines) f.2 in
    let started = each_started turn first programs c.args.works olds machines (s.all c.if-not-split_all.false) s.given c.requires.known free news worked in
    let size = c.split_all.new.workers.ok.0 in
    let len = worked.len in
    let back = written_back c.split_all.new.workers.len news (drop (length news) olds) (omega (arith, size, len)) in
    let joined = subst (λ (z : List Reader). HasJoined (front c.split_all.new.pass) (front c.join_all-2.new.pass) (map calls_of_worker z)) (sym back) c.join_all-2.ensures.joined in
    started_begun (front first) (front c.join_all-2.new.pass) programs news (joined_from (front first) (front c.split_all.new.pass) (front c.join_all-2.new.pass) (map calls_of_worker news) s.same.0 s.same.1 s.same.2 joined) started)

pub returns-clause-broken : goal.returns-clause-broken
returns-clause-broken g c = on_err c.outcome_of.result _ (λ programs machines.
    let turn = c.args.turn.now in
    let first = c.args.pass.now in
    let s = c.split_all.ensures in
    let f = c.requires.free in
    let olds = c.split_all.new.workers.items in
    let news = c.work_all.new.workers in
    let worked = subst (λ (z : List Reader). EachWorks turn z news) c.as_mut_slice.ensures.value c.work_all.ensures in
    let free = subst (λ (z : List Reading). AreFree IsStep Permits z (state_after (start_of turn) (seen_of first))) (same_programs f.0 programs c.args.works f.1 machines) f.2 in
    let started = each_started turn first programs c.args.works olds machines (s.all c.if-not-split_all.false) s.given c.requires.known free news worked in
    let size = c.split_all.new.workers.ok.0 in
    let len = worked.len in
    let back = written_back c.split_all.new.workers.len news (drop (length news) olds) (omega (arith, size, len)) in
    let joined = subst (λ (z : List Reader). HasJoined (front c.split_all.new.pass) (front c.join_all-2.new.pass) (map calls_of_worker z)) (sym back) c.join_all-2.ensures.joined in
    started_begun (front first) (front c.join_all-2.new.pass) programs news (joined_from (front first) (front c.split_all.new.pass) (front c.join_all-2.new.pass) (map calls_of_worker news) s.same.0 s.same.1 s.same.2 joined) started)
