use Rattle.std.proofs.Common.{◌≡◌, Some, sym, subst}
use Rattle.std.specs.Prelude.{IfOk, IfSome}
use Rattle.mount_model.specs.Standing.{next_of}
use Rattle.flatten_core.specs.declared.parts.Part.{Part}
use Rattle.flatten_core.specs.Parts.{parted}
use Rattle.flatten_core.proofs.parts.Part.give.Goals as goal

pub returns-in-Listing-clause-again : goal.returns-in-Listing-clause-again
returns-in-Listing-clause-again c =
    let P : Part → Type 0 = λ p. IfOk c.give_look.result (λ given. IfSome (next_of (parted given.0)) (λ call. next_of (parted p) ≡ Some call)) in
    subst P (sym c.in-Listing.is) c.give_look.ensures.again

pub returns-in-Ending-clause-again : goal.returns-in-Ending-clause-again
returns-in-Ending-clause-again c =
    let P : Part → Type 0 = λ p. IfOk c.give_end.result (λ given. IfSome (next_of (parted given.0)) (λ call. next_of (parted p) ≡ Some call)) in
    subst P (sym c.in-Ending.is) c.give_end.ensures.again
