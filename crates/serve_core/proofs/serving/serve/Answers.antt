use Rattle.share_workers.proofs.Facts.{on_err}
use Rattle.std.proofs.Common.{refl, get_or}
use Rattle.std.proofs.lemmas.Option.{slice_get-get_or}
use Rattle.serve_core.proofs.serving.serve.Goals as goal

pub make-requires-clause-rests : goal.make-requires-clause-rests
make-requires-clause-rests g c =
    (c.requires.rest c.args.asked.actor (get_or c.args.clients.now c.args.asked.actor c.index-clients-place.result) (slice_get-get_or c.args.clients.now c.args.asked.actor c.index-clients-place.result c.requires.there)).1

pub returns-clause-serves : goal.returns-clause-serves
returns-clause-serves g c = record {
  before = get_or c.args.clients.now c.args.asked.actor c.index-clients-place.result;
  after = c.make.new.self;
  here = slice_get-get_or c.args.clients.now c.args.asked.actor c.index-clients-place.result c.requires.there;
  makes = c.in_ok-line.ensures.makes;
  new_is = refl;
}

pub returns-in_err-line-clause-broken : goal.returns-in_err-line-clause-broken
returns-in_err-line-clause-broken g c = on_err c.from_residual.result _ (
    record {
      client = get_or c.args.clients.now c.args.asked.actor c.index-clients-place.result;
      here = slice_get-get_or c.args.clients.now c.args.asked.actor c.index-clients-place.result c.requires.there;
      begins = c.in_err-line.ensures.broken;
    })
