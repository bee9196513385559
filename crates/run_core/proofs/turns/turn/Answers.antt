use Rattle.share_workers.proofs.Facts.{on_err}
use Rattle.std.proofs.Common.{refl, sym, subst, get_or}
use Rattle.std.proofs.lemmas.Option.{slice_get-get_or}
use Rattle.run_core.specs.Moving.{IsDone}
use Rattle.run_core.proofs.Plays.Tables.{set_here}
use Rattle.run_core.proofs.turns.turn.Goals as goal

pub take_turn-requires : goal.take_turn-requires
take_turn-requires g c = (c.requires.fit c.args.place (get_or c.args.players.now c.args.place c.index-players-place.result) (slice_get-get_or c.args.players.now c.args.place c.index-players-place.result c.requires.there)).1

pub returns-clause-turned : goal.returns-clause-turned
returns-clause-turned g c = record {
  before = get_or c.args.players.now c.args.place c.index-players-place.result;
  after = c.take_turn.new.self;
  here = slice_get-get_or c.args.players.now c.args.place c.index-players-place.result c.requires.there;
  does = c.in_ok-called.ensures.turns;
  new_is = refl;
}

pub returns-clause-done : goal.returns-clause-done
returns-clause-done g c = λ none player here. subst IsDone (sym (set_here c.args.players.now c.args.place c.take_turn.new.self player here)) (c.in_ok-called.ensures.done none)

pub returns-in_err-called-clause-broken : goal.returns-in_err-called-clause-broken
returns-in_err-called-clause-broken g c = on_err c.from_residual.result _ (
    record {
      player = get_or c.args.players.now c.args.place c.index-players-place.result;
      here = slice_get-get_or c.args.players.now c.args.place c.index-players-place.result c.requires.there;
      breaks = c.in_err-called.ensures.broken;
    })
