use Rattle.share_workers.proofs.Facts.{on_err}
use Rattle.std.proofs.Common.{refl, sym, ap, ◌∙◌, ◌++◌}
use Rattle.std.specs.Option.{option_to_list}
use Rattle.run_core.specs.declared.player.Player.{Player}
use Rattle.run_core.proofs.Players.Approaching.{same_begins, was_ahead}
use Rattle.run_core.proofs.Players.BrokenTurns.{begun_breaks, pass_not_begun}
use Rattle.run_core.proofs.player.Player.next_line.Goals as goal

pub returns-in-Some-clause-passes : goal.returns-in-Some-clause-passes
returns-in-Some-clause-passes g c = was_ahead c.args.self.now _ c.args.mount.now c.in-Some.line c.requires.fit (c.pop_front.ensures.items ∙ ap (λ o. option_to_list o ++ c.pop_front.new.self.items) c.in-Some.is) refl refl refl

pub returns-in_err-begin_due-clause-broken : goal.returns-in_err-begin_due-clause-broken
returns-in_err-begin_due-clause-broken g c = on_err c.from_residual.result _ (
    pass_not_begun c.args.self.now c.args.mount.now)

pub returns-in_err-line-clause-broken : goal.returns-in_err-line-clause-broken
returns-in_err-line-clause-broken g c = on_err c.from_residual-in_err-line.result _ (
    let popped : Player = record { alloc = c.args.self.now.alloc; number = c.args.self.now.number; actor = c.args.self.now.actor; queue = c.args.self.now.queue; ahead = c.pop_front.new.self } in
    begun_breaks c.args.self.now popped c.args.mount.now c.carry.new.mount
    (same_begins c.args.self.now popped refl refl (sym (c.pop_front.ensures.items ∙ ap (λ o. option_to_list o ++ c.pop_front.new.self.items) c.in_default.is)) refl)
    (begun_breaks popped c.begin_due.new.self c.args.mount.now c.carry.new.mount c.in_ok-begin_due.ensures.begins c.in_err-line.ensures.broken))
