-- A truncate at the clock's time, and one that is broken off.
use Rattle.std.proofs.Common.{◌≡◌, ℕ, ◌<◌, ◌^◌, List, Option, None, Ok, nat_eq, false, refl, sym, subst, arith}
use Rattle.std.proofs.lemmas.Bool.Decides.{nat_tests}
use Rattle.edge_io.specs.Clock.{Ticks}
use Rattle.store_api.specs.declared.step.Answer.TheVariants.{Made}
use Rattle.store_api.specs.Step.{Step}
use Rattle.store_api.specs.Acts.{Acts}
use Rattle.mount_model.specs.declared.call.Call.TheVariants.{Mark}
use Rattle.mount_model.specs.State.{State}
use Rattle.mount_model.specs.Making.{Told}
use Rattle.mount_model.specs.Stopping.{MakesPart, TicksFor}
use Rattle.mount_core.specs.Breaking.{BreaksTimed, all_or_none}

-- nothing is made, and so the clock is not asked
pub not_asked : (part : ℕ → Option Step) (holder size top : ℕ) (old : State) → part 0 ≡ None → BreaksTimed part (Mark holder size top) old (Ok Made) old
not_asked part holder size top old none = record {
  time = 0;
  times = old.times;
  ticks = subst (λ (o : Option Step). TicksFor (Mark holder size top) o old.times old.times 0) (sym none) refl;
  made = subst (λ (o : Option Step). MakesPart o old.store old.store (Ok Made)) (sym none) (refl, refl);
  after = refl;
}

-- the clock is asked, and the step is made at its time
pub asked : (k : ℕ) (step : ℕ → Step) (holder size top : ℕ) (old new : State) (told : Told) (times : Option (List ℕ)) (time : ℕ) → (k ≡ 0 → ⊥) → time < 2 ^ 64 → Ticks old.times times time
    → Acts (step time) old.store new.store told → new ≡ record old { store = new.store; times = times } → BreaksTimed (λ t. all_or_none k (step t)) (Mark holder size top) old told new
asked k step holder size top old new told times time some fits ticks made after =
    let test : nat_eq k 0 ≡ false = grind (arith, nat_tests) in
    record {
      time = time;
      times = times;
      ticks = rw test (fits, ticks);
      made = rw test made;
      after = after;
    }
