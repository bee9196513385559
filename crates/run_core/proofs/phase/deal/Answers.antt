use Rattle.std.proofs.Common.{◌≡◌, ℕ, ◌<◌, [], ◌∷◌, length, set, refl, sym, subst, get_or, arith}
use Rattle.std.proofs.lemmas.Option.{slice_get-get_or}
use Rattle.script_lang.specs.declared.script.Numbered.{Numbered}
use Rattle.share_workers.proofs.Facts.{taken_item}
use Rattle.run_core.specs.World.{At, IsDealt}
use Rattle.run_core.proofs.Plays.Dealing.{dealt_none, dealt_more}
use Rattle.run_core.proofs.phase.deal.Goals as goal

pub loop-statement-init : goal.loop-statement-init
loop-statement-init c = dealt_none c.args.players.now

pub loop-statement-preserved : goal.loop-statement-preserved
loop-statement-preserved c =
    let s = c.statement-item.result in
    let there : s.actor < length c.args.players.now = subst (λ (z : Numbered). z.actor < length c.args.players.now) (sym c.statement-item.is) (c.requires c.loop-statement.statement-index s c.loop-statement-test.true) in
    let long : length c.loop-statement.players ≡ length c.args.players.now = c.loop-statement.invariant.long in
    let place = c.actor-place.result in
    let its : place ≡ s.actor = c.actor-place.ensures in
    let within : place < length c.loop-statement.players = omega (arith, there, long, its) in
    let new = set c.loop-statement.players place c.give.new.self in
    let given : At place c.loop-statement.players (λ before after. IsDealt (s ∷ []) before after) new = record {
      before = get_or c.loop-statement.players place c.index-players-place.result;
      after = c.give.new.self;
      here = slice_get-get_or c.loop-statement.players place c.index-players-place.result within;
      does = c.in_ok-give.ensures;
      new_is = refl;
    } in
    dealt_more c.args.statements.now c.loop-statement.statement-index s c.args.players.now c.loop-statement.players new (taken_item c.args.statements.now c.loop-statement.statement-index s c.loop-statement-test.true c.statement-item.is) c.loop-statement.invariant
    (subst (λ (n : ℕ). At n c.loop-statement.players (λ before after. IsDealt (s ∷ []) before after) new) its given)
