use Rattle.std.proofs.Common.{◌≡◌, ◌∙◌, ap, false, sym, subst}
use Rattle.index_reader.specs.Scanning.{has_writer, owner, placed}
use Rattle.index_reader.proofs.Containers.OwnerLemmas.{owners, placed_is}
use Rattle.index_reader.proofs.owners.Owners.add.Goals as goal

pub returns : goal.returns
returns c = subst (λ os. owners c.insert.new.self.entries ≡ placed (owner c.args.host c.args.writer) os) c.self.view_is
    (ap owners c.in_ok-insert.ensures.entries ∙ placed_is c.args.writer c.args.host c.self.inside.hosts.entries (subst (λ os. has_writer c.args.writer os ≡ false) (sym c.self.view_is) c.requires))
