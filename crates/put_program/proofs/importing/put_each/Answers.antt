use Rattle.std.proofs.Common.{◌∙◌, ◌-◌, ◌∷◌, [], length, take, sym, ap, arith, append-nil, length-append}
use Rattle.put_program.specs.Importing.{sources_of}
use Rattle.put_program.proofs.Imports.{all_put, ends_there, goes_further, none_so_far}
use Rattle.put_program.proofs.importing.put_each.Goals as goal

pub loop-file-init : goal.loop-file-init
loop-file-init g c = none_so_far c.args.host c.args.over (sources_of g.I.Source.given c.args.files.items) c.args.mount.now (g.O.Sink.taking c.args.out.now) c.requires

pub put_named-one-requires : goal.put_named-one-requires
put_named-one-requires g c = c.loop-file.invariant.fine

pub returns-then-not-goes_on-clause-put : goal.returns-then-not-goes_on-clause-put
returns-then-not-goes_on-clause-put g c =
    ends_there g.I.Source.given c.args.host c.args.over (sources_of g.I.Source.given c.args.files.items) c.args.mount.now (g.O.Sink.taking c.args.out.now) c.loop-file.rest.items c.pop.new.self.items c.in-Some.file c.loop-file.mount (g.O.Sink.taking c.loop-file.out) c.loop-file.status
    c.put_named-one.new.mount (g.O.Sink.taking c.put_named-one.new.out) c.put_named-one.result c.greater-status.result c.loop-file.invariant c.in-Some.ensures.items c.put_named-one.ensures.put c.greater-status.ensures (sym c.goes_on.ensures ∙ c.if-not-goes_on.true)

pub loop-file-smaller : goal.loop-file-smaller
loop-file-smaller g c = (let long = ap (λ l. length l) c.in-Some.ensures.items ∙ length-append c.pop.new.self.items (c.in-Some.file ∷ []) in omega (arith, long))

pub loop-file-preserved : goal.loop-file-preserved
loop-file-preserved g c =
    goes_further g.I.Source.given c.args.host c.args.over (sources_of g.I.Source.given c.args.files.items) c.args.mount.now (g.O.Sink.taking c.args.out.now) c.loop-file.rest.items c.pop.new.self.items c.in-Some.file c.loop-file.mount (g.O.Sink.taking c.loop-file.out) c.loop-file.status
    c.put_named-one.new.mount (g.O.Sink.taking c.put_named-one.new.out) c.put_named-one.result c.greater-status.result c.loop-file.invariant c.in-Some.ensures.items c.put_named-one.ensures.put c.greater-status.ensures (sym c.goes_on.ensures ∙ c.if-not-goes_on.false) c.put_named-one.ensures.fine

pub returns-clause-put : goal.returns-clause-put
returns-clause-put g c =
    all_put g.I.Source.given c.args.host c.args.over (sources_of g.I.Source.given c.args.files.items) c.args.mount.now (g.O.Sink.taking c.args.out.now) c.loop-file.rest.items c.loop-file.mount (g.O.Sink.taking c.loop-file.out) c.loop-file.status c.loop-file.invariant (c.in_default.ensures.items ∙ append-nil c.pop.new.self.items ∙ c.in_default.ensures.rest ∙ ap (λ n. take (n - 1) c.loop-file.rest.items) c.in_default.ensures.cases.0)

pub returns-clause-fine : goal.returns-clause-fine
returns-clause-fine g c = c.loop-file.invariant.fine
