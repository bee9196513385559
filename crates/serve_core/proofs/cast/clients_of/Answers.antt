use Rattle.std.proofs.Common.{◌≡◌, ◌+◌, List, length, take, sym, subst, ◌∙◌, rules}
use Rattle.serve_core.specs.declared.client.Client.{Client}
use Rattle.serve_core.specs.Serving.{AreNew}
use Rattle.share_workers.proofs.Facts.{taken_item}
use Rattle.serve_core.proofs.Casting.{no_clients, one_client_more}
use Rattle.serve_core.proofs.cast.clients_of.Goals as goal

pub loop-declared-init : goal.loop-declared-init
loop-declared-init c = no_clients c.new-clients.result.items c.new-clients.ensures.items

pub loop-declared-preserved : goal.loop-declared-preserved
loop-declared-preserved c =
    let i = c.loop-declared.declared-index in
    let many : c.len-number.result ≡ length c.loop-declared.clients.items = search rules in
    subst (λ (z : List Client). AreNew (take (i + 1) c.args.actors.now) z) (sym c.in-Ok.ensures.items)
    (one_client_more c.args.actors.now i c.declared-item.result c.loop-declared.clients.items c.new-client.result (taken_item c.args.actors.now i c.declared-item.result c.loop-declared-test.true c.declared-item.is) c.loop-declared.invariant
    (c.new-client.ensures.number ∙ many) c.new-client.ensures.keeps)
