use Rattle.std.proofs.Common.{◌≡◌, List, Option, Result, subst}
use Rattle.turn_object.specs.Pass.{start_of, front}
use Rattle.mount_model.specs.declared.stuck.Stuck.{Stuck}
use Rattle.index_reader.specs.declared.sharing.Share.{Share}
use Rattle.index_reader.specs.declared.sharing.ShareRead.{ShareRead}
use Rattle.gather_flow.specs.Workers.{IsOutcomeOf}
use Rattle.actor_core.specs.Handing.{IsHandedOut, with_results}
use Rattle.actor_core.specs.Standings.{progress_of}
use Rattle.mount_core.proofs.Memory.{on_err}
use Rattle.thread_runs.specs.Driving.{IsBrokenOff, IsDriven}
use Rattle.thread_runs.proofs.Driving.{ready_now}
use Rattle.thread_runs.proofs.SharingOut.{on_so, hands_shares, hands_none, is_handed, nothing_broken, shares_broken, shares_driven, shares_free, shares_read_broken, still_driven}
use Rattle.thread_runs.proofs.player.share_out.Goals as goal

pub shares-requires : goal.shares-requires
shares-requires g c = ready_now (start_of c.args.turn.now) (front c.args.pass.now) (progress_of c.args.actor.now) c.requires.may

pub returns-in_default-clause-driven : goal.returns-in_default-clause-driven
returns-in_default-clause-driven g c =
    let old = progress_of c.args.actor.now in
    let mid = progress_of c.shares.new.self in
    still_driven c.args.turn.now c.args.pass.now old mid c.requires.pass c.requires.known c.requires.may c.requires.busy
    (hands_none old mid (subst (λ (z : Option (List ShareRead)). IsHandedOut old z mid) c.in_default.is c.in_ok-works.ensures.handed))

pub read_by_workers-requires-clause-free : goal.read_by_workers-requires-clause-free
read_by_workers-requires-clause-free g c = λ κs lives.
    let old = progress_of c.args.actor.now in
    let mid = progress_of c.shares.new.self in
    let hands = hands_shares old c.in-Some.works mid (subst (λ (z : Option (List ShareRead)). IsHandedOut old z mid) c.in-Some.is c.in_ok-works.ensures.handed) in
    (hands.programs, hands.machines, shares_free c.args.turn.now c.args.pass.now old c.in-Some.works mid c.requires.may hands)

pub give-requires : goal.give-requires
give-requires g c =
    let old = progress_of c.args.actor.now in
    let mid = progress_of c.shares.new.self in
    is_handed old c.in-Some.works mid (hands_shares old c.in-Some.works mid (subst (λ (z : Option (List ShareRead)). IsHandedOut old z mid) c.in-Some.is c.in_ok-works.ensures.handed))

pub returns-clause-driven : goal.returns-clause-driven
returns-clause-driven g c =
    let turn = c.args.turn.now in
    let first = c.args.pass.now in
    let last = c.read_by_workers.new.pass in
    let old = progress_of c.args.actor.now in
    let mid = progress_of c.shares.new.self in
    let now = progress_of c.give.new.self in
    let hands = hands_shares old c.in-Some.works mid (subst (λ (z : Option (List ShareRead)). IsHandedOut old z mid) c.in-Some.is c.in_ok-works.ensures.handed) in
    let read = c.in_ok-outcome.ensures.read hands.programs hands.machines in
    on_so c.give.result ((results : List (Result Share Stuck)) → IsOutcomeOf results c.in_ok-outcome.outcome → now ≡ with_results mid results) (IsDriven turn first old last now)
    (λ goes. shares_driven turn first last old mid now c.in-Some.works read.0 c.requires.known c.requires.may hands c.in_ok-outcome.ensures.after read.1 (goes read.0 read.2))
    c.give.ensures.goes_on

pub returns-in_err-works-clause-broken : goal.returns-in_err-works-clause-broken
returns-in_err-works-clause-broken g c = on_err c.from_residual.result _ (nothing_broken c.args.turn.now c.args.pass.now (progress_of c.args.actor.now))

pub returns-then-as_slice-ge-TOO_MANY-clause-broken : goal.returns-then-as_slice-ge-TOO_MANY-clause-broken
returns-then-as_slice-ge-TOO_MANY-clause-broken g c = nothing_broken c.args.turn.now c.args.pass.now (progress_of c.args.actor.now)

pub returns-in_err-outcome-clause-broken : goal.returns-in_err-outcome-clause-broken
returns-in_err-outcome-clause-broken g c =
    let old = progress_of c.args.actor.now in
    let mid = progress_of c.shares.new.self in
    let hands = hands_shares old c.in-Some.works mid (subst (λ (z : Option (List ShareRead)). IsHandedOut old z mid) c.in-Some.is c.in_ok-works.ensures.handed) in
    on_err c.from_residual-in_err-outcome.result _ (shares_broken c.args.turn.now c.args.pass.now c.read_by_workers.new.pass old mid c.in-Some.works c.requires.known hands c.in_err-outcome.ensures.after (c.in_err-outcome.ensures.broken hands.programs hands.machines))

pub returns-clause-broken : goal.returns-clause-broken
returns-clause-broken g c =
    let turn = c.args.turn.now in
    let first = c.args.pass.now in
    let last = c.read_by_workers.new.pass in
    let old = progress_of c.args.actor.now in
    let mid = progress_of c.shares.new.self in
    let hands = hands_shares old c.in-Some.works mid (subst (λ (z : Option (List ShareRead)). IsHandedOut old z mid) c.in-Some.is c.in_ok-works.ensures.handed) in
    let read = c.in_ok-outcome.ensures.read hands.programs hands.machines in
    on_err c.give.result (IsBrokenOff (front first) old (front last)) (shares_read_broken turn first last old mid c.in-Some.works read.0 c.requires.known hands c.in_ok-outcome.ensures.after read.1)
