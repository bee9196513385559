use Rattle.std.proofs.Common.{◌∙◌, ◌-◌, ◌∷◌, [], length, take, ap, arith, append-nil, length-append}
use Rattle.export_program.specs.Passing.{at}
use Rattle.export_program.proofs.Passages.{all_passed, ends_there, goes_further, none_so_far}
use Rattle.export_program.proofs.passing.pass_each.Goals as goal

pub loop-name-init : goal.loop-name-init
loop-name-init g c = none_so_far c.args.names.items (at c.args.mount.now (g.H.Shelf.deeds c.args.shelf.now) (g.O.Sink.taking c.args.out.now)) c.requires

pub pass_told-one-requires : goal.pass_told-one-requires
pass_told-one-requires g c = c.loop-name.invariant.fine

pub returns-then-one-clause-each : goal.returns-then-one-clause-each
returns-then-one-clause-each g c =
    ends_there c.args.names.items (at c.args.mount.now (g.H.Shelf.deeds c.args.shelf.now) (g.O.Sink.taking c.args.out.now)) c.loop-name.rest.items c.pop.new.self.items c.in-Some.name (at c.loop-name.mount (g.H.Shelf.deeds c.loop-name.shelf) (g.O.Sink.taking c.loop-name.out)) c.loop-name.status
    (at c.pass_told-one.new.mount (g.H.Shelf.deeds c.pass_told-one.new.shelf) (g.O.Sink.taking c.pass_told-one.new.out)) c.pass_told-one.result.status c.greater-status.result c.pass_told-one.result.ends c.loop-name.invariant c.in-Some.ensures.items c.pass_told-one.ensures.passes c.greater-status.ensures c.if-one.true

pub loop-name-smaller : goal.loop-name-smaller
loop-name-smaller g c = (let long = ap (λ l. length l) c.in-Some.ensures.items ∙ length-append c.pop.new.self.items (c.in-Some.name ∷ []) in omega (arith, long))

pub loop-name-preserved : goal.loop-name-preserved
loop-name-preserved g c =
    goes_further c.args.names.items (at c.args.mount.now (g.H.Shelf.deeds c.args.shelf.now) (g.O.Sink.taking c.args.out.now)) c.loop-name.rest.items c.pop.new.self.items c.in-Some.name (at c.loop-name.mount (g.H.Shelf.deeds c.loop-name.shelf) (g.O.Sink.taking c.loop-name.out)) c.loop-name.status
    (at c.pass_told-one.new.mount (g.H.Shelf.deeds c.pass_told-one.new.shelf) (g.O.Sink.taking c.pass_told-one.new.out)) c.pass_told-one.result.status c.greater-status.result c.pass_told-one.result.ends c.loop-name.invariant c.in-Some.ensures.items c.pass_told-one.ensures.passes c.greater-status.ensures c.if-one.false c.pass_told-one.ensures.fine

pub returns-clause-each : goal.returns-clause-each
returns-clause-each g c =
    all_passed c.args.names.items (at c.args.mount.now (g.H.Shelf.deeds c.args.shelf.now) (g.O.Sink.taking c.args.out.now)) c.loop-name.rest.items (at c.loop-name.mount (g.H.Shelf.deeds c.loop-name.shelf) (g.O.Sink.taking c.loop-name.out)) c.loop-name.status c.loop-name.invariant
    (c.in_default.ensures.items ∙ append-nil c.pop.new.self.items ∙ c.in_default.ensures.rest ∙ ap (λ n. take (n - 1) c.loop-name.rest.items) c.in_default.ensures.cases.0)

pub returns-clause-fine : goal.returns-clause-fine
returns-clause-fine g c = c.loop-name.invariant.fine
