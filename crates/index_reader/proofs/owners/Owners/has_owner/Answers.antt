use Rattle.std.proofs.Common.{◌≡◌, nat_eq, false, sym, subst}
use Rattle.index_reader.specs.Opening.{has_owner}
use Rattle.index_reader.proofs.Containers.OwnerLemmas.{has_owner-some, has_owner-none}
use Rattle.index_reader.proofs.owners.Owners.has_owner.Goals as goal

pub returns-in-Some : goal.returns-in-Some
returns-in-Some c = subst (λ os. nat_eq c.in-Some.host.now c.args.owner.now.host ≡ has_owner c.args.owner.now os) c.self.view_is
    (sym (has_owner-some c.args.owner.now c.self.inside.hosts.entries c.in-Some.host.now c.in-Some.ensures.value))

pub returns-in-None : goal.returns-in-None
returns-in-None c = subst (λ os. false ≡ has_owner c.args.owner.now os) c.self.view_is
    (sym (has_owner-none c.args.owner.now c.self.inside.hosts.entries c.in-None.ensures.value))
