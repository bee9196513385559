use Rattle.std.proofs.Common.{◌≡◌, take, map}
use Rattle.store_api.specs.Names.{in_byte_order}
use Rattle.store_api.proofs.names.in_byte_order.Given as goal

abbrev pub invariant-loop-name : goal.invariant-loop-name
invariant-loop-name l = l.ordered.keys ≡ in_byte_order (take l.name-index l.names)

abbrev pub invariant-loop-name-2 : goal.invariant-loop-name-2
invariant-loop-name-2 l = l.list ≡ map (λ name. name.now) l.yielded
