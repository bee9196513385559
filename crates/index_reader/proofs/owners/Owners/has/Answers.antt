use Rattle.std.proofs.Common.{◌≡◌, ◌∙◌, sym, subst}
use Rattle.index_reader.specs.Scanning.{has_writer}
use Rattle.index_reader.proofs.Containers.OwnerLemmas.{has_is}
use Rattle.index_reader.proofs.owners.Owners.has.Goals as goal

pub returns : goal.returns
returns c = subst (λ os. c.contains_key.result ≡ has_writer c.args.writer os) c.self.view_is (c.contains_key.ensures ∙ sym (has_is c.args.writer c.self.inside.hosts.entries))
