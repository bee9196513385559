use Rattle.share_workers.proofs.Facts.{on_err}
use Rattle.std.proofs.Common.{refl, get_or}
use Rattle.std.proofs.lemmas.Option.{slice_get-get_or}
use Rattle.run_core.proofs.Players.BrokenTurns.{passed_breaks}
use Rattle.run_core.proofs.ending.pass.Goals as goal

pub returns-clause-passes : goal.returns-clause-passes
returns-clause-passes g c = record {
  line = c.in_ok-line.line;
  lines = c.in_ok-push.ensures.ok;
  at = record {
    before = get_or c.args.players.now c.args.place c.index-players-place.result;
    after = c.next_line.new.self;
    here = slice_get-get_or c.args.players.now c.args.place c.index-players-place.result c.requires.there;
    does = c.in_ok-line.ensures.passes;
    new_is = refl;
  };
}

pub returns-in_err-line-clause-broken : goal.returns-in_err-line-clause-broken
returns-in_err-line-clause-broken g c = on_err c.from_residual.result _ (
    record {
      player = get_or c.args.players.now c.args.place c.index-players-place.result;
      here = slice_get-get_or c.args.players.now c.args.place c.index-players-place.result c.requires.there;
      breaks = c.in_err-line.ensures.broken;
    })

pub returns-in_err-push-clause-broken : goal.returns-in_err-push-clause-broken
returns-in_err-push-clause-broken g c = on_err c.from_residual-in_err-push.result _ (
    record {
      player = get_or c.args.players.now c.args.place c.index-players-place.result;
      here = slice_get-get_or c.args.players.now c.args.place c.index-players-place.result c.requires.there;
      breaks = passed_breaks _ c.next_line.new.self c.args.mount.now c.next_line.new.mount c.in_ok-line.line c.in_ok-line.ensures.passes;
    })
