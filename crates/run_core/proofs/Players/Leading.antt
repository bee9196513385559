-- Calls that lead on.
use Rattle.std.proofs.Common.{◌≡◌, ℕ, List, [], ◌∷◌, ◌++◌, refl, sym, ◌∙◌, subst}
use Rattle.mount_model.specs.declared.call.Ask.{Ask}
use Rattle.mount_model.specs.declared.reply.Reply.{Reply}
use Rattle.mount_model.specs.State.{State}
use Rattle.mount_model.specs.Step.{IsStep}
use Rattle.mount_model.specs.History.{Event, state_after}
use Rattle.mount_sound.specs.Owed.{IsLawful, May}
use Rattle.run_core.specs.Leading.{GoesOn, Leads, MadeCall}
use Rattle.mount_model.specs.History.{AreBy}

-- a call that its caller may make leads on
pub called : (old : State) (caller : ℕ) (ask : Ask) (reply : Reply) (new : State) → May old caller ask → IsStep old caller ask reply new → MadeCall old caller ask reply new
called old caller ask reply new may step = record { lawful = (may, step, tt); ends = refl }

pub leads_none : (start : State) → Leads start [] start
leads_none start = record { lawful = tt; ends = refl }

lawful_both : (a : State) (xs ys : List Event) → IsLawful a xs → IsLawful (state_after a xs) ys → IsLawful a (xs ++ ys)
lawful_both a [] ys x y = y
lawful_both a (e ∷ xs) ys x y = (x.0, x.1, lawful_both e.after xs ys x.2 y)

ends_both : (a : State) (xs ys : List Event) → state_after a (xs ++ ys) ≡ state_after (state_after a xs) ys
ends_both a [] ys = refl
ends_both a (e ∷ xs) ys = ends_both e.after xs ys

-- calls, and then further calls
pub leads_both : (a b c : State) (xs ys : List Event) → Leads a xs b → Leads b ys c → Leads a (xs ++ ys) c
leads_both a b c xs ys x y =
    let Lawful : State → Type 0 = λ s. IsLawful s ys in
    let Ends : State → Type 0 = λ s. state_after s ys ≡ c in
    record {
      lawful = lawful_both a xs ys x.lawful (subst Lawful (sym x.ends) y.lawful);
      ends = ends_both a xs ys ∙ subst Ends (sym x.ends) y.ends;
    }

pub by_both : (caller : ℕ) (xs ys : List Event) → AreBy caller xs → AreBy caller ys → AreBy caller (xs ++ ys)
by_both caller [] ys x y = y
by_both caller (e ∷ xs) ys x y = (x.0, by_both caller xs ys x.1 y)

-- calls of one caller, and further ones of the same caller under the number that it has then
pub by_then : (caller later : ℕ) (xs ys : List Event) → later ≡ caller → AreBy caller xs → AreBy later ys → AreBy caller (xs ++ ys)
by_then caller later xs ys same x y = by_both caller xs ys x (subst (λ (n : ℕ). AreBy n ys) same y)

pub went_none : (a : State) → GoesOn a a
went_none a = record { events = []; leads = leads_none a }

pub went : (a b : State) (xs : List Event) → Leads a xs b → GoesOn a b
went a b xs x = record { events = xs; leads = x }

pub went_both : (a b c : State) → GoesOn a b → GoesOn b c → GoesOn a c
went_both a b c x y = record { events = x.events ++ y.events; leads = leads_both a b c x.events y.events x.leads y.leads }
