use Rattle.std.proofs.Common.{None}
use Rattle.std.specs.Option.{option_map}
use Rattle.program_ends.specs.Ends.{Ends, ends_of}
use Rattle.check_program.proofs.Verdicts.{says_broken, says_fault, says_fine, says_sound, says_verdict, stays}
use Rattle.check_program.proofs.top.check.Goals as goal

pub returns-clause-sound : goal.returns-clause-sound
returns-clause-sound g c tree tells bytes words zero =
    let e : Ends = ends_of None (g.O.Sink.taking c.args.out.now) (g.O.Sink.taking c.run.new.out) (g.S.Store.stored c.args.store) (option_map g.S.Store.stored c.run.result.store) in
    says_sound c.args.words.now e c.run.result.status c.a_checked_tree_is_sound.ensures (c.run.ensures None) tree tells bytes words zero

pub returns-clause-fine : goal.returns-clause-fine
returns-clause-fine g c tree name tells words zero =
    let e : Ends = ends_of None (g.O.Sink.taking c.args.out.now) (g.O.Sink.taking c.run.new.out) (g.S.Store.stored c.args.store) (option_map g.S.Store.stored c.run.result.store) in
    says_fine c.args.words.now e c.run.result.status (c.run.ensures None) tree name tells words zero

pub returns-clause-broken : goal.returns-clause-broken
returns-clause-broken g c tree tells seven =
    let e : Ends = ends_of None (g.O.Sink.taking c.args.out.now) (g.O.Sink.taking c.run.new.out) (g.S.Store.stored c.args.store) (option_map g.S.Store.stored c.run.result.store) in
    says_broken c.args.words.now e c.run.result.status c.a_complaint_denies_soundness.ensures (c.run.ensures None) tree tells seven

pub returns-clause-fault : goal.returns-clause-fault
returns-clause-fault g c four =
    let e : Ends = ends_of None (g.O.Sink.taking c.args.out.now) (g.O.Sink.taking c.run.new.out) (g.S.Store.stored c.args.store) (option_map g.S.Store.stored c.run.result.store) in
    says_fault c.args.words.now e c.run.result.status (c.run.ensures None) four

pub returns-clause-complete : goal.returns-clause-complete
returns-clause-complete g c well =
    let e : Ends = ends_of None (g.O.Sink.taking c.args.out.now) (g.O.Sink.taking c.run.new.out) (g.S.Store.stored c.args.store) (option_map g.S.Store.stored c.run.result.store) in
    says_verdict c.args.words.now e c.run.result.status (c.run.ensures None) well

pub returns-clause-unchanged : goal.returns-clause-unchanged
returns-clause-unchanged g c =
    let e : Ends = ends_of None (g.O.Sink.taking c.args.out.now) (g.O.Sink.taking c.run.new.out) (g.S.Store.stored c.args.store) (option_map g.S.Store.stored c.run.result.store) in
    stays c.args.words.now e c.run.result.status (c.run.ensures None)

pub returns-clause-course : goal.returns-clause-course
returns-clause-course g c = c.run.ensures None
