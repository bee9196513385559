use Rattle.std.proofs.Common.{ℕ, ◌+◌, List, take, drop, sym, subst}
use Rattle.pack_input.specs.declared.files.NamedFile.{NamedFile}
use Rattle.lone_flow.specs.declared.putting.Put.{Put}
use Rattle.lone_flow.specs.declared.putting.Put.TheVariants.{Made, Full, Stopped}
use Rattle.lone_flow.specs.Putting.{IsWithin, PutsEach}
use Rattle.mount_core.proofs.Memory.{on_err}
use Rattle.lone_flow.proofs.SmallPuts.Breaking.{put_broken}
use Rattle.lone_flow.proofs.SmallPuts.Putted.{file_splits, file_taken, puts_more, puts_stop, puts_value}
use Rattle.lone_flow.proofs.putting.put_all.Goals as goal

pub returns-in-Full-clause-puts : goal.returns-in-Full-clause-puts
returns-in-Full-clause-puts g c =
    let f : NamedFile = c.file-item.result in
    let i : ℕ = c.loop-file.file-index in
    puts_stop c.args.region c.args.files.now (take i c.args.files.now) f (drop (i + 1) c.args.files.now) c.args.handle c.args.at c.args.mount.now c.loop-file.placing.handle c.loop-file.placing.place c.loop-file.mount (Full c.in-Full.handle) c.put_file.new.mount
    (file_splits c.args.files.now i f c.loop-file-test.true c.file-item.is) c.loop-file.invariant.puts
    (puts_value c.loop-file.placing.handle c.args.region c.loop-file.placing.place f c.loop-file.mount c.in_ok-handle.field-0 (Full c.in-Full.handle) c.put_file.new.mount c.in-Full.is c.in_ok-handle.ensures.puts) tt

pub returns-in-Stopped-clause-puts : goal.returns-in-Stopped-clause-puts
returns-in-Stopped-clause-puts g c =
    let f : NamedFile = c.file-item.result in
    let i : ℕ = c.loop-file.file-index in
    puts_stop c.args.region c.args.files.now (take i c.args.files.now) f (drop (i + 1) c.args.files.now) c.args.handle c.args.at c.args.mount.now c.loop-file.placing.handle c.loop-file.placing.place c.loop-file.mount (Stopped c.in-Stopped.why) c.put_file.new.mount
    (file_splits c.args.files.now i f c.loop-file-test.true c.file-item.is) c.loop-file.invariant.puts
    (puts_value c.loop-file.placing.handle c.args.region c.loop-file.placing.place f c.loop-file.mount c.in_ok-handle.field-0 (Stopped c.in-Stopped.why) c.put_file.new.mount c.in-Stopped.is c.in_ok-handle.ensures.puts) tt

pub loop-file-preserved : goal.loop-file-preserved
loop-file-preserved g c =
    let f : NamedFile = c.file-item.result in
    let i : ℕ = c.loop-file.file-index in
    let within : IsWithin c.args.region (Made c.in-Made.handle c.in-Made.next) = subst (λ (p : Put). IsWithin c.args.region p) c.in-Made.is c.in_ok-handle.ensures.within in
    record {
      puts = subst (λ (fs : List NamedFile). PutsEach c.args.region fs c.args.handle c.args.at c.args.mount.now c.in-Made.handle c.in-Made.next c.put_file.new.mount)
          (sym (file_taken c.args.files.now i f c.loop-file-test.true c.file-item.is))
          (puts_more c.args.region (take i c.args.files.now) c.args.handle c.args.at c.args.mount.now c.loop-file.placing.handle c.loop-file.placing.place c.loop-file.mount f c.in-Made.handle c.in-Made.next c.put_file.new.mount c.loop-file.invariant.puts
          (puts_value c.loop-file.placing.handle c.args.region c.loop-file.placing.place f c.loop-file.mount c.in_ok-handle.field-0 (Made c.in-Made.handle c.in-Made.next) c.put_file.new.mount c.in-Made.is c.in_ok-handle.ensures.puts));
      from = within.0;
      until = within.1;
      fine = c.in_ok-handle.ensures.fine;
    }

pub returns-in_err-handle-clause-broken_off : goal.returns-in_err-handle-clause-broken_off
returns-in_err-handle-clause-broken_off g c =
    let f : NamedFile = c.file-item.result in
    let i : ℕ = c.loop-file.file-index in
    on_err c.from_residual.result _
    (put_broken c.args.region c.args.files.now (take i c.args.files.now) f (drop (i + 1) c.args.files.now) c.args.handle c.args.at c.args.mount.now c.loop-file.placing.handle c.loop-file.placing.place c.loop-file.mount c.put_file.new.mount
    (file_splits c.args.files.now i f c.loop-file-test.true c.file-item.is) c.loop-file.invariant.puts c.in_err-handle.ensures.broken_off)
