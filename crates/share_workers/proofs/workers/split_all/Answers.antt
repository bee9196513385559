use Rattle.std.proofs.Common.{rules, ◌+◌, List, sym, refl, subst, ◌∙◌, arith}
use Rattle.std.proofs.lemmas.List.Elements.{All-push}
use Rattle.std.specs.List.{All}
use Rattle.turn_object.specs.Pass.{seen_of}
use Rattle.share_workers.specs.declared.worker.Part.TheVariants.{ToRead}
use Rattle.share_workers.specs.Workers.{Reader, IsGiven}
use Rattle.share_workers.proofs.WorkersTogether.{split_more, split_room}
use Rattle.share_workers.proofs.workers.split_all.Goals as goal

pub split-requires-clause-parts : goal.split-requires-clause-parts
split-requires-clause-parts g c =
    let inv = c.loop-flow.invariant in
    let room = split_room c.args.works c.loop-flow.flow-iterator.rest.items c.next.new.self.rest.items c.loop-flow.workers.items c.in-Some.flow inv.4 (search rules) in
    let size = c.loop-flow.workers.ok.0 in
    let parts = inv.2 in
    let few = c.requires.parts in
    (omega arith, omega (arith, room, size, parts, few))

pub loop-flow-preserved : goal.loop-flow-preserved
loop-flow-preserved g c =
    let inv = c.loop-flow.invariant in
    let s = c.split.ensures in
    let more = c.in_default.ensures.items in
    let worker : Reader = record { pass = c.split.result; number = c.len.result + 1; part = ToRead c.in-Some.flow } in
    let given : IsGiven c.args.turn.now (seen_of c.args.pass.now) worker = record { pass = s.passes.1; sees = s.seen.1 ∙ inv.1.0; mine = s.given.0; ended = s.given.1; parts = s.divided.1 } in (
      s.passes.0,
      (s.seen.0 ∙ inv.1.0, s.kept.0 ∙ inv.1.1, s.kept.1 ∙ inv.1.2),
      (let l = c.in_default.ensures.len in let d = s.divided.0 in let p = inv.2 in let live = inv.0.live in omega (arith, l, d, p, live)),
      subst (λ (z : List Reader). All (IsGiven c.args.turn.now (seen_of c.args.pass.now)) z) (sym more) (All-push (IsGiven c.args.turn.now (seen_of c.args.pass.now)) c.loop-flow.workers.items worker inv.3 given),
      split_more c.args.works c.loop-flow.flow-iterator.rest.items c.next.new.self.rest.items c.loop-flow.workers.items c.push.new.self.items worker c.in-Some.flow inv.4 (search rules) refl more,
    )
