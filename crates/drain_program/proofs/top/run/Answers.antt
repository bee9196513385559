use Rattle.std.proofs.Common.{ap, subst, sym}
use Rattle.std.specs.Option.{option_map}
use Rattle.mount_sound.proofs.Facts.{mounted_fine}
use Rattle.program_ends.specs.Ends.{Ends, ends_of}
use Rattle.drain_copy.specs.Draining.{drain_program}
use Rattle.drain_laws.specs.Driving.{Drives}
use Rattle.drain_program.proofs.RunLemmas.{drained_so, not_drained_so}
use Rattle.drain_program.proofs.TargetLemmas.{DrainLaws}
use Rattle.drain_program.proofs.top.run.Goals as goal

pub drain_mounted-status-requires : goal.drain_mounted-status-requires
drain_mounted-status-requires g c = mounted_fine 0 (g.C.Clock.times c.args.clock) (g.S.Store.stored c.args.store) c.in-Ok.mount c.in-Ok.ensures.ok

pub returns-in-Ok : goal.returns-in-Ok
returns-in-Ok g c =
    let laws : DrainLaws = record {
      fresh = c.a_tree_without_it_is_a_target.ensures;
      loss = c.a_loss_keeps_the_target.ensures;
      lasts = c.a_target_lasts_to_the_next_mount.ensures;
      keeps = c.a_driven_drain_keeps_its_target.ensures.holds;
      copies = c.a_drain_that_ends_well_has_copied.ensures;
      faults = c.a_fault_of_a_drain_is_a_stores.ensures;
      behind = λ number name m store happened left s h made finds drives bare. c.a_drain_reads_behind_its_target.ensures.behind 0 number name m store happened left s h bare made finds drives;
      bare = λ number name m store happened left s h made finds drives bare. c.a_drain_reads_behind_its_target.ensures.lasts 0 number name m store happened left s h bare made finds drives;
      kept = λ number name m store happened left s h made finds drives kept. c.a_drain_copies_what_is_kept.ensures 0 number name m store happened left s h kept made finds drives;
      lost = λ number name m store happened left s h made finds drives drained is tree left_of. c.a_drained_target_keeps_it.ensures 0 number name m store happened drained tree s h made finds (subst (Drives 0 (drain_program name) happened) is drives) left_of;
      shows = λ number name m store happened left s h made finds drives drained is tree left_of. c.a_drained_target_shows_the_source.ensures 0 number name m store happened drained tree s h made finds (subst (Drives 0 (drain_program name) happened) is drives) left_of;
      rests = λ number name m store happened left s h made finds drives all. c.a_drain_without_news_copies_nothing.ensures.nothing 0 number name m store happened left s h made finds all drives;
      none = λ number name m store happened left s h made finds drives drained is all. c.a_drain_without_news_copies_nothing.ensures.none 0 number name m store happened drained s h made finds all (subst (Drives 0 (drain_program name) happened) is drives);
      reasons = λ number name m store happened left s h made finds drives why is. c.a_drain_ends_for_a_reason.ensures 0 number name m store happened why s h made finds (subst (Drives 0 (drain_program name) happened) is drives);
      settled = λ number name m store happened left s h made finds drives drained is. c.a_drain_is_taken_by_one_that_went_on.ensures.none 0 number name m store happened drained s h made finds (subst (Drives 0 (drain_program name) happened) is drives);
      opens = λ number name m store happened left s h made finds drives opens. c.a_target_shows_no_damage.ensures.lasts 0 number name m store happened left s h opens made finds drives;
    } in
    let e : Ends = ends_of (g.C.Clock.times c.args.clock) (g.O.Sink.taking c.args.out.now) (g.O.Sink.taking c.drain_mounted-status.new.out) (g.S.Store.stored c.args.store) (option_map g.S.Store.stored c.ends.result.store) in
    drained_so c.args.name e (g.D.Store.stored c.args.target) (g.D.Store.stored c.ends.result.target) c.ends.result.status laws c.requires c.in-Ok.mount c.drain_mounted-status.new.mount (g.S.Store.stored c.close.result)
    (ap (option_map g.S.Store.stored) c.ends.ensures.store) c.in-Ok.ensures.ok c.close.ensures
    (rw (sym c.ends.ensures.status) at (rw (sym c.ends.ensures.target) at c.drain_mounted-status.ensures))

pub returns-in-Err : goal.returns-in-Err
returns-in-Err g c =
    let e : Ends = ends_of (g.C.Clock.times c.args.clock) (g.O.Sink.taking c.args.out.now) (g.O.Sink.taking c.say_unmounted-status.new.out) (g.S.Store.stored c.args.store) (option_map g.S.Store.stored c.ends-in-Err.result.store) in
    not_drained_so c.args.name e (g.D.Store.stored c.args.target) (g.D.Store.stored c.ends-in-Err.result.target) c.ends-in-Err.result.status c.in-Err.trouble (g.S.Store.stored c.in-Err.store)
    (ap (option_map g.S.Store.stored) c.ends-in-Err.ensures.store) c.in-Err.ensures.err c.in-Err.ensures.fault (ap g.D.Store.stored c.ends-in-Err.ensures.target) (rw (sym c.ends-in-Err.ensures.status) at c.say_unmounted-status.ensures)
