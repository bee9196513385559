use Rattle.std.proofs.Common.{◌∷◌, ◌<◌, List, length, subst, sym, arith}
use Rattle.std.specs.Prelude.{All}
use Rattle.script_lang.specs.declared.script.Numbered.{Numbered}
use Rattle.thread_runs.specs.Parts.{dealt, AreParts}
use Rattle.thread_runs.proofs.Between.{all_ready, passes_past, passes_before, main_known, phase_goes}
use Rattle.thread_runs.proofs.phase.play_phase.Goals as goal

pub begin_all-requires-clause-main : goal.begin_all-requires-clause-main
begin_all-requires-clause-main g c = c.requires.between.3.pass

pub begin_all-requires-clause-parts : goal.begin_all-requires-clause-parts
begin_all-requires-clause-parts g c = let p = c.requires.between.3.parts in let f = c.requires.between.3.few in omega (arith, p, f)

pub begin_all-requires-clause-passes : goal.begin_all-requires-clause-passes
begin_all-requires-clause-passes g c = let b = c.requires.between in passes_before c.args.turn.now b.0 b.1 (c.args.phase.now ∷ b.2) c.args.main.now c.args.players.now b.3

pub deal-parts-requires : goal.deal-parts-requires
deal-parts-requires g c =
    let long = c.begin_all.ensures.changed.len in
    let There : List Numbered → Type 0 = λ z. All (λ (s : Numbered). s.actor < length c.begin_all.new.players) z in
    subst There (sym c.as_slice.ensures) (λ k d lt. let lt = c.requires.there k d lt in omega (arith, long, lt))

pub play_each-requires-after_bounds : goal.play_each-requires-after_bounds
play_each-requires-after_bounds g c = λ κs lives.
    let b = c.requires.between in
    let parts = dealt c.deal-parts.result.each.items in
    let are : AreParts c.args.phase.now.statements parts = subst (λ (z : List Numbered). AreParts z parts) c.as_slice.ensures c.deal-parts.ensures in
    all_ready c.args.turn.now b.0 b.1 (c.args.phase.now ∷ b.2) c.args.phase.now.statements parts c.args.main.now c.args.players.now c.begin_all.new.players b.3 c.begin_all.ensures.changed c.requires.made are

pub gather_all-requires-clause-known : goal.gather_all-requires-clause-known
gather_all-requires-clause-known g c = let b = c.requires.between in main_known c.args.turn.now b.0 b.1 b.2 (length c.args.players.now) c.args.main.now c.begin_all.new.main b.3.known c.begin_all.ensures.keeps.0 c.begin_all.ensures.keeps.1

pub gather_all-requires-clause-passes : goal.gather_all-requires-clause-passes
gather_all-requires-clause-passes g c =
    let b = c.requires.between in
    let parts = dealt c.deal-parts.result.each.items in
    let are : AreParts c.args.phase.now.statements parts = subst (λ (z : List Numbered). AreParts z parts) c.as_slice.ensures c.deal-parts.ensures in
    passes_past c.args.turn.now b.0 b.1 b.2 c.args.phase.now parts are c.args.main.now c.args.players.now c.begin_all.new.players c.play_each.new.players b.3 c.begin_all.ensures.changed c.play_each.ensures

pub returns : goal.returns
returns g c = λ actors phases left between.
    let parts = dealt c.deal-parts.result.each.items in
    let are : AreParts c.args.phase.now.statements parts = subst (λ (z : List Numbered). AreParts z parts) c.as_slice.ensures c.deal-parts.ensures in
    phase_goes c.args.turn.now actors phases left c.args.phase.now parts are c.args.main.now c.begin_all.new.main c.gather_all.new.main c.args.players.now c.begin_all.new.players c.play_each.new.players c.gather_all.new.players between
    c.begin_all.ensures.keeps.0 c.begin_all.ensures.keeps.1 c.begin_all.ensures.changed c.play_each.ensures
    c.gather_all.ensures.main c.gather_all.ensures.known c.gather_all.ensures.keeps c.gather_all.ensures.more c.gather_all.ensures.changed c.gather_all.ensures.seen
