-- What a safe program of a drain gives whoever drives it.
use Rattle.std.proofs.Common.{◌≡◌, ℕ, List, [], ◌∷◌, Some, ap, sym, ◌∙◌, subst}
use Rattle.std.specs.Prelude.{Ok, Err}
use Rattle.store_api.specs.declared.tree.Tree.{Tree}
use Rattle.store_api.specs.Acts.{Stored}
use Rattle.store_api.specs.Step.{Step, write_at}
use Rattle.store_laws.specs.Tells.{Tells}
use Rattle.mount_model.specs.declared.call.Ask.{Ask}
use Rattle.mount_model.specs.History.{Event}
use Rattle.mount_model.specs.Paths.{Name}
use Rattle.mount_sound.specs.Owed.{IsLawful}
use Rattle.mount_sound.proofs.Facts.{one_tree}
use Rattle.reader_laws.specs.Moments.{IsSoundAt, Moment, next_moment}
use Rattle.reader_laws.proofs.Gathered.Facts.{grows_after, grows_refl, grows_trans, sound_after}
use Rattle.drain_copy.specs.declared.outcome.Drained.{Drained}
use Rattle.drain_copy.specs.declared.outcome.DrainStuck.{DrainStuck}
use Rattle.drain_copy.specs.declared.plan.Due.{Due}
use Rattle.drain_copy.specs.Asking.{ends}
use Rattle.mount_model.specs.Making.{Told}
use Rattle.drain_copy.specs.Telling.{DrainsOn}
use Rattle.drain_sound.specs.Draining.{Happening, IsDraining, at_source, at_target, target_after}
use Rattle.drain_sound.specs.Fronts.{IsTarget}
use Rattle.drain_sound.specs.Steps.{IsDrainStep, IsNamedRoom}
use Rattle.drain_sound.proofs.Facts.{step_target, told_leaves}
use Rattle.drain_laws.specs.Driving.{AreMade, Drives}
use Rattle.drain_laws.specs.Reading.{AllReadBehind, ReadsBehind}
use Rattle.drain_laws.specs.Resting.{CopiesNothing, WritesNothing}
use Rattle.drain_laws.proofs.Planning.Aims.{EndsSo, HasNews, IsFair, IsFitting, IsGood, IsKeptDue, IsRight, IsSince, Safely, WritesNews}
use Rattle.drain_laws.proofs.Copying.Mild.{all_so}
use Rattle.drain_laws.proofs.Driving.Safe.{IsTraced, traced}
use Rattle.drain_laws.proofs.Planning.Syncs.{kept_next}

module _ (number : ℕ) (name : Name) (g : Moment) (s : IsSoundAt g) (Sure : Type 0) (dues : List Due) (Post : Drained → Tree → Type 0) (caller : ℕ) (left : DrainsOn) where
  abbrev Since : Moment → Type 0
  Since m = IsSince number name g Sure dues m

  abbrev Good : Tree → Type 0
  Good t = IsGood number name g Sure dues t

  abbrev pub Trace : Tree → List Happening → Type 0
  Trace t happened = IsTraced (IsSince number name g Sure dues) (IsGood number name g Sure dues) (IsFitting number name g Sure dues) (IsRight number name g Sure dues) (EndsSo name Post) caller t happened left

  pub since_next : (m : Moment) (e : Event) → Since m → IsLawful m.state (e ∷ []) → Since (next_moment m e)
  since_next m e since l = record {
    sound = sound_after m (e ∷ []) l since.sound;
    grows = grows_trans g m (next_moment m e) since.grows (grows_after m (e ∷ []) l since.sound);
    kept = all_so (IsKeptDue number m) (IsKeptDue number (next_moment m e)) dues (λ due k. kept_next number m since.sound e due l k) since.kept;
  }

  good_step : (step : Step) (t after : Tree) (told : Told) → Good t → IsRight number name g Sure dues step t → Tells step t told after → Good after
  good_step step t after told good right tells = step_target g number name t after step s good (right.is_step g s (grows_refl g)) (told_leaves step t after told tells)

  pub drive_traced : (p : DrainsOn) (m : Moment) (store : Stored) (t : Tree) (happened : List Happening) → Safely number name g Sure dues Post p t → Since m → Good t → store.tree ≡ Some t → AreMade m store happened → Drives caller p happened left → Trace t happened
  drive_traced p m store t happened safe since good told made drives =
      traced (IsSince number name g Sure dues) (IsGood number name g Sure dues) (IsFitting number name g Sure dues) (IsRight number name g Sure dues) (EndsSo name Post) caller since_next good_step p m store t happened left safe since good told made drives

  -- ---- each step is one of a drain

  pub draining_of : (m : Moment) (store : Stored) (t : Tree) (happened : List Happening) → Since m → store.tree ≡ Some t → AreMade m store happened → Trace t happened → IsDraining m number name store happened
  draining_of m store t [] since told made trace = tt
  draining_of m store t (at_source e ∷ rest) since told made trace = (made.0, draining_of (next_moment m e) store t rest (since_next m e since made.0) told made.1 trace.1)
  draining_of m store t (at_target a ∷ rest) since told made trace = (
    made.0,
    λ tree there. subst (λ x. IsDrainStep m number name x a.step) (one_tree t tree store.tree told there) (trace.0.is_step m since.sound since.grows),
    draining_of m a.after trace.1.0 rest since trace.1.1 made.1 trace.1.4,
  )

  -- ---- each Read of a log begins where the target's ends

  pub reads_of : Sure → (store : Stored) (t : Tree) (happened : List Happening) → store.tree ≡ Some t → Trace t happened → AllReadBehind caller name store happened
  reads_of sure store t [] told trace = tt
  reads_of sure store t (at_source e ∷ rest) told trace = (λ own. behind own, reads_of sure store t rest told trace.1)
    where
      behind : e.caller ≡ caller → ReadsBehind name store e.ask.call
      behind own from host writer at len is tree n room there named =
          let (call, asked, fits) = trace.0 own in
          let same : tree ≡ t = one_tree tree t store.tree there told in
          fits.behind sure from host writer at len (sym (ap (λ (a : Ask). a.call) asked) ∙ is) n room (subst (λ x. IsNamedRoom x n name room) same named)
  reads_of sure store t (at_target a ∷ rest) told trace = reads_of sure a.after trace.1.0 rest trace.1.1 trace.1.4

  -- ---- where nothing is new, nothing is copied

  no_write : (step : Step) (t : Tree) → ((due : Due) → HasNews number name g Sure dues due → ⊥) → WritesNews number name g Sure dues step t → WritesNothing step
  no_write (write_at n folder file at bytes) t none news = none news.0 news.1
  no_write step t none news = tt

  pub nothing_of : ((due : Due) → HasNews number name g Sure dues due → ⊥) → (t : Tree) (happened : List Happening) → Trace t happened → CopiesNothing caller happened
  nothing_of none t [] trace = tt
  nothing_of none t (at_source e ∷ rest) trace = (λ own. absurd (let (call, asked, fits) = trace.0 own in none fits.due fits.news), nothing_of none t rest trace.1)
  nothing_of none t (at_target a ∷ rest) trace = (no_write a.step t none trace.0.news, nothing_of none trace.1.0 rest trace.1.4)

  -- ---- what holds in the end

  pub record HasEnd (store : Stored) (drained : Drained) : Type 0 where
    pub after : Tree
    pub told : store.tree ≡ Some after
    pub good : IsTarget g number name after
    pub post : Post drained after

  pub end_of : (store : Stored) (t : Tree) (happened : List Happening) (drained : Drained) → left ≡ ends (Ok drained) → Good t → store.tree ≡ Some t → Trace t happened → HasEnd (target_after store happened) drained
  end_of store t [] drained is good told trace = record { after = t; told = told; good = good; post = trace (Ok drained) is }
  end_of store t (at_source e ∷ rest) drained is good told trace = end_of store t rest drained is good told trace.1
  end_of store t (at_target a ∷ rest) drained is good told trace = end_of a.after trace.1.0 rest drained is trace.1.3 trace.1.1 trace.1.4

  -- or the trouble in which it ended, at the tree that is there then
  pub record HasStopped (store : Stored) (why : DrainStuck) : Type 0 where
    pub after : Tree
    pub told : store.tree ≡ Some after
    pub fair : IsFair name after why

  pub stopped_of : (store : Stored) (t : Tree) (happened : List Happening) (why : DrainStuck) → left ≡ ends (Err why) → store.tree ≡ Some t → Trace t happened → HasStopped (target_after store happened) why
  stopped_of store t [] why is told trace = record { after = t; told = told; fair = trace (Err why) is }
  stopped_of store t (at_source e ∷ rest) why is told trace = stopped_of store t rest why is told trace.1
  stopped_of store t (at_target a ∷ rest) why is told trace = stopped_of a.after trace.1.0 rest why is trace.1.1 trace.1.4
