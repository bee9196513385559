-- One step in the container that is copied to, and what stays there meanwhile.
use Rattle.std.proofs.Common.{◌≡◌, ℕ, List, [], ◌∷◌}
use Rattle.std.specs.Prelude.{Result, Ok, Err}
use Rattle.std.specs.List.{AllByRecursion}
use Rattle.plfs_types.specs.declared.entries.Trunc.{Trunc as Truncate}
use Rattle.store_api.specs.declared.tree.Room.{Room}
use Rattle.store_api.specs.declared.tree.Tree.{Tree}
use Rattle.store_api.specs.Step.{Step}
use Rattle.store_laws.specs.Tells.{Tells}
use Rattle.mount_model.specs.Paths.{Name}
use Rattle.reader_laws.specs.Moments.{IsSoundAt, Moment}
use Rattle.drain_copy.specs.declared.outcome.Drained.{Drained}
use Rattle.drain_copy.specs.declared.outcome.DrainStuck.{DrainStuck}
use Rattle.drain_copy.specs.declared.plan.Due.{Due}
use Rattle.drain_copy.specs.Asking.{acts}
use Rattle.mount_model.specs.Making.{Told}
use Rattle.drain_copy.specs.Telling.{DrainsOn, on_good}
use Rattle.drain_sound.specs.Steps.{IsNamedRoom}
use Rattle.drain_laws.proofs.Planning.Aims.{EndsSo, IsFair, IsFitting, IsGood, IsRight, IsSince, Safely}
use Rattle.drain_laws.proofs.Copying.Mild.{Changes, HasDone, HasFront, HasPut, IsClear, IsMild, all_so, both_so, changes, done_stays, front_stays, put_stays}
use Rattle.drain_laws.proofs.Driving.Safe.{safe_on}

module _ (number : ℕ) (name : Name) (g : Moment) (s : IsSoundAt g) (Sure : Type 0) (dues : List Due) (Post : Drained → Tree → Type 0) (to : ℕ) where
  abbrev Safe : DrainsOn → Tree → Type 0
  Safe program t = Safely number name g Sure dues Post program t

  abbrev Good : Tree → Type 0
  Good t = IsGood number name g Sure dues t

  abbrev Right : Step → Tree → Type 0
  Right step t = IsRight number name g Sure dues step t

  abbrev Named : Tree → Room → Type 0
  Named t room = IsNamedRoom t to name room

  pub on_good_safe : {X : Type 0} (next : X → DrainsOn) (r : Result X DrainStuck) (t : Tree) → ((x : X) → r ≡ Ok x → Safe (next x) t) → ((why : DrainStuck) → r ≡ Err why → IsFair name t why) → Safe (on_good next r) t
  on_good_safe next r t h fair = safe_on (IsSince number name g Sure dues) (IsGood number name g Sure dues) (IsFitting number name g Sure dues) (IsRight number name g Sure dues) (EndsSo name Post) next r t h fair

  -- ---- one step

  pub one_step : {X : Type 0} (A B : Tree → Room → Type 0) (s : Step) (told_so : Told → Result X DrainStuck) (next : X → DrainsOn) → IsMild s
      → ((t : Tree) (room : Room) → Good t → Named t room → A t room → Right s t)
      → ((t after : Tree) (room new : Room) (told : Told) (x : X) → Good t → Good after → Named t room → A t room → Tells s t told after → Changes name to s t after room new → told_so told ≡ Ok x → B after new)
      → ((t after : Tree) (room : Room) (told : Told) (why : DrainStuck) → Good t → Named t room → A t room → Tells s t told after → told_so told ≡ Err why → IsFair name after why)
      → ((t : Tree) (room : Room) (x : X) → Good t → Named t room → B t room → Safe (next x) t)
      → (t : Tree) (room : Room) → Good t → Named t room → A t room → Safe (acts s (λ told. on_good next (told_so told))) t
  one_step A B s told_so next mild is_right goes fair then_safe t room good at a = (
    is_right t room good at a,
    λ told after tells good_after.
        let c = changes name to s t after told room mild tells at in
        on_good_safe next (told_so told) after (λ x e. then_safe after c.0 x good_after c.1.at (goes t after room c.0 told x good good_after at a tells c.1 e)) (λ why e. fair t after room told why good at a tells e),
  )

  -- ---- what is known meanwhile

  -- of the writers that are left, and of those that are done; and of the truncates that are put
  pub record Stuff (rest done : List Due) (put : List Truncate) (t : Tree) (room : Room) : Type 0 where
    pub fronts : AllByRecursion (HasFront name to Sure t room) rest
    pub dones : AllByRecursion (HasDone name to t room) done
    pub puts : AllByRecursion (HasPut name to room) put

  pub stuff_stays : (rest done : List Due) (put : List Truncate) (s : Step) (t after : Tree) (room new : Room) → AllByRecursion (IsClear s to) rest → AllByRecursion (IsClear s to) done → Changes name to s t after room new → Stuff rest done put t room → Stuff rest done put after new
  stuff_stays rest done put s t after room new clear_rest clear_done c st = record {
    fronts = both_so (IsClear s to) (HasFront name to Sure t room) (HasFront name to Sure after new) rest (λ due clear h. front_stays name to Sure s t after room new due clear c h) clear_rest st.fronts;
    dones = both_so (IsClear s to) (HasDone name to t room) (HasDone name to after new) done (λ due clear h. done_stays name to s t after room new due clear c h) clear_done st.dones;
    puts = all_so (HasPut name to room) (HasPut name to new) put (λ x h. put_stays name to s t after room new x c h) st.puts;
  }

  -- a step that writes nothing is clear of all
  pub all_clear : (s : Step) (xs : List Due) → ((due : Due) → IsClear s to due) → AllByRecursion (IsClear s to) xs
  all_clear s [] h = tt
  all_clear s (x ∷ xs) h = (h x, all_clear s xs h)
