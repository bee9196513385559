-- What an act on one store is on the list of what stores are.
use Rattle.std.proofs.Common.{◌≡◌, ℕ, List, map, slice_get, slice_set, Some, ap, ◌∙◌}
use Rattle.std.specs.Prelude.{Result, Ok, Err}
use Rattle.store_api.specs.declared.step.Answer.{Answer}
use Rattle.store_api.specs.declared.store.Trouble.{Trouble}
use Rattle.store_api.specs.declared.store.Trouble.TheVariants.{Fault, NoMemory}
use Rattle.store_api.specs.Step.{Step}
use Rattle.store_api.specs.Acts.{Stored, Acts}
use Rattle.store_laws.proofs.Facts.{slice_set_same}
use Rattle.spread_store.specs.Asking.{ActsOn, ActsAt}
use Rattle.spread_store.proofs.Lists.{map_slice_set, get_map}

on : {S : Type 0} (f : S → Stored) (xs : List S) (n : ℕ) (x y : S) (step : Step) (told : Result Answer Trouble) → slice_get xs n ≡ Some x → Acts step (f x) (f y) told → ActsOn n step (map f xs) (map f (slice_set xs n y)) told
on f xs n x y step told at acts = record { before = f x; after = f y; was = get_map f xs n x at; is = map_slice_set f xs n y; acts = acts }

pub asked : {S : Type 0} (f : S → Stored) (xs : List S) (n : ℕ) (x y : S) (step : Step) (told : Result Answer Trouble) → slice_get xs n ≡ Some x → Acts step (f x) (f y) told → ActsAt n step (map f xs) (map f (slice_set xs n y)) told
asked f xs n x y step (Ok answer) at acts = on f xs n x y step (Ok answer) at acts
asked f xs n x y step (Err Fault) at acts = on f xs n x y step (Err Fault) at acts
asked f xs n x y step (Err NoMemory) at acts = map_slice_set f xs n y ∙ ap (λ z. slice_set (map f xs) n z) acts ∙ slice_set_same (map f xs) n (f x) (get_map f xs n x at)
