use Rattle.put_program.specs.Importing.{name_text, named}
use Rattle.put_program.proofs.Imports.{OtherLaws, name_printed, others_still}
use Rattle.put_program.proofs.importing.put_named.Goals as goal

pub returns-clause-put : goal.returns-clause-put
returns-clause-put g c =
    let laws : OtherLaws = record { copied = c.a_copying_leaves_other_containers_still.ensures.copied; broken_off = c.a_copying_leaves_other_containers_still.ensures.broken_off } in
    named (g.O.Sink.taking c.say_name-said.new.out) (g.I.Source.given c.put_mounted.new.input) (name_printed (name_text c.args.name) c.say_name-said.result (g.O.Sink.taking c.args.out.now) (g.O.Sink.taking c.say_name-said.new.out) c.say_name-said.ensures c.if-said-ne0.false) c.put_mounted.ensures.puts
    (others_still laws c.args.mount.now.opened c.args.name c.args.host c.args.over c.args.mount.now (g.I.Source.given c.args.input.now) (g.O.Sink.taking c.say_name-said.new.out) c.put_mounted.new.mount (g.I.Source.given c.put_mounted.new.input) (g.O.Sink.taking c.put_mounted.new.out) c.put_mounted.result c.put_mounted.ensures.puts)
