-- Along the course of a drain its source keeps what the target has, and no log comes without its index dropping.
use Rattle.std.proofs.Common.{◌≡◌, ℕ, List, ◌++◌, Some, ap, sym, ◌∙◌, inl, inr, subst, append_assoc}
use Rattle.store_api.specs.declared.tree.Tree.{Tree}
use Rattle.store_api.specs.Acts.{Stored}
use Rattle.mount_model.specs.Paths.{Name}
use Rattle.mount_sound.proofs.Facts.{one_tree}
use Rattle.reader_laws.specs.Moments.{IsSoundAt, Moment}
use Rattle.reader_laws.proofs.Gathered.Facts.{grows_refl}
use Rattle.drain_copy.specs.Draining.{drain_program}
use Rattle.drain_copy.specs.Telling.{DrainsOn}
use Rattle.drain_sound.specs.Draining.{Happening, source_after, target_after}
use Rattle.drain_sound.specs.Fronts.{IsTarget}
use Rattle.drain_laws.specs.Driving.{AreMade, Drives, FindsRoom}
use Rattle.drain_laws.specs.Ending.{HasOpenhosts}
use Rattle.drain_laws.specs.Gathered.{events_in}
use Rattle.drain_laws.specs.Keeping.{IsKeptBySource}
use Rattle.drain_laws.specs.Reading.{HasNoBareLog}
use Rattle.drain_laws.specs.Resting.{SparesAll, SparesLogs}
use Rattle.drain_laws.proofs.Planning.Aims.{NoBareLog}
use Rattle.drain_laws.proofs.Courses.Course.{HasBegun, course, here, made_on}
use Rattle.drain_laws.proofs.Courses.Drain.{Got, Works, its_dues, its_listing}
use Rattle.drain_laws.proofs.Driving.Happened.{IsIdle, idle_both, idle_tree, idle_weaker, lawful_events, made_first, made_rest, source_both, source_is, target_both}
use Rattle.drain_laws.proofs.Courses.Keeping.{IsKeptAt, Opens, bare_traced, kept_calls, kept_traced, opens_traced}

module _ (caller number : ℕ) (name : Name) (source : Moment) (s : IsSoundAt source) (t : Tree) (target : IsTarget source number name t) (store : Stored) (told : store.tree ≡ Some t) (happened : List Happening) (made : AreMade source store happened) (finds : FindsRoom caller number happened) (left : DrainsOn) (drives : Drives caller (drain_program name) happened left) where
  abbrev Begun : Type 0
  Begun = HasBegun caller number name source s t target store told happened made finds left drives

  -- what holds in the end
  abbrev Ends : Moment → Stored → Type 0
  Ends m its = (after : Tree) → its.tree ≡ Some after → IsKeptAt number name m after

  abbrev BareEnds : Stored → Type 0
  BareEnds its = (after : Tree) → its.tree ≡ Some after → NoBareLog name after

  -- while only the source goes on
  kept_idle : (hs rest : List Happening) → AreMade source store (hs ++ rest) → IsKeptAt number name source t → IsKeptAt number name (source_after source hs) t
  kept_idle hs rest its_made kept =
      subst (λ m. IsKeptAt number name m t) (sym (source_is source hs))
      (kept_calls number name source s source s (grows_refl source) t target (events_in hs) (lawful_events source store hs (made_first source store hs rest its_made)) kept)

  same_tree : (its : Stored) → its.tree ≡ Some t → (after : Tree) → its.tree ≡ Some after → t ≡ after
  same_tree its is after now = one_tree t after its.tree is now

  all_idle : (b : Begun) → IsIdle SparesLogs caller b.all → IsIdle SparesLogs caller happened
  all_idle b idle = subst (IsIdle SparesLogs caller) (sym b.split) (idle_both caller SparesLogs b.first b.all (idle_weaker caller SparesAll SparesLogs b.first (λ call spares. spares.0) b.idle) idle)

  stays_there : IsIdle SparesLogs caller happened → (target_after store happened).tree ≡ Some t
  stays_there idle = idle_tree caller SparesLogs source store t happened idle made told

  kept_none : IsIdle SparesLogs caller happened → IsKeptAt number name source t → Ends (source_after source happened) (target_after store happened)
  kept_none idle kept after now =
      subst (IsKeptAt number name (source_after source happened)) (same_tree (target_after store happened) (stays_there idle) after now)
      (subst (λ m. IsKeptAt number name m t) (sym (source_is source happened)) (kept_calls number name source s source s (grows_refl source) t target (events_in happened) (lawful_events source store happened made) kept))

  bare_none : IsIdle SparesLogs caller happened → NoBareLog name t → BareEnds (target_after store happened)
  bare_none idle none after now = subst (NoBareLog name) (same_tree (target_after store happened) (stays_there idle) after now) none

  abbrev OpensEnds : Type 0
  OpensEnds = (after : Tree) → (target_after store happened).tree ≡ Some after → Opens name after

  opens_none : IsIdle SparesLogs caller happened → Opens name t → OpensEnds
  opens_none idle opens after now = subst (Opens name) (same_tree (target_after store happened) (stays_there idle) after now) opens

  -- where it copies
  module _ (b : Begun) (middle rest : List Happening) (f : b.all ≡ middle ++ rest) where
    both : AreMade (source_after source b.first) (target_after store b.first) (middle ++ rest)
    both = subst (AreMade (source_after source b.first) (target_after store b.first)) f (made_on caller number name source s t target store told happened made finds left drives b)

    split : happened ≡ (b.first ++ middle) ++ rest
    split = b.split ∙ ap (λ l. b.first ++ l) f ∙ sym (append_assoc b.first middle rest)

    source_ends : source_after source happened ≡ source_after (source_after (source_after source b.first) middle) rest
    source_ends = ap (source_after source) split ∙ source_both source (b.first ++ middle) rest ∙ ap (λ m. source_after m rest) (source_both source b.first middle)

    target_ends : target_after store happened ≡ target_after (target_after (target_after store b.first) middle) rest
    target_ends = ap (target_after store) split ∙ target_both store (b.first ++ middle) rest ∙ ap (λ m. target_after m rest) (target_both store b.first middle)

    tree_then : IsIdle SparesLogs caller middle → (target_after (target_after store b.first) middle).tree ≡ Some t
    tree_then idle = idle_tree caller SparesLogs (source_after source b.first) (target_after store b.first) t middle idle (made_first (source_after source b.first) (target_after store b.first) middle rest both) (here caller number name source s t target store told happened made finds left drives b)

    rest_made : AreMade (source_after (source_after source b.first) middle) (target_after (target_after store b.first) middle) rest
    rest_made = made_rest (source_after source b.first) (target_after store b.first) middle rest both

    kept_then : IsKeptAt number name source t → IsKeptAt number name (source_after (source_after source b.first) middle) t
    kept_then kept = subst (λ m. IsKeptAt number name m t) (source_both source b.first middle) (kept_idle (b.first ++ middle) rest (subst (AreMade source store) split made) kept)

  kept_ends : IsKeptAt number name source t → Ends (source_after source happened) (target_after store happened)
  kept_ends kept = elim (course caller number name source s t target store told happened made finds left drives) as (λ _. Ends (source_after source happened) (target_after store happened)) [
    | inl idle ↦ kept_none (idle_weaker caller SparesAll SparesLogs happened (λ call spares. spares.0) idle.0) kept
    | inr b ↦ by_works b b.works
  ]
    where
      by_works : (b : Begun) → Works caller number name source s t target left b.first b.all b.read → Ends (source_after source happened) (target_after store happened)
      by_works b (inl bad) = kept_none (all_idle b (idle_weaker caller SparesAll SparesLogs b.all (λ call spares. spares.0) bad.0)) kept
      by_works b (inr (inl (o, os, new, free, idle, bad))) = kept_none (all_idle b idle) kept
      by_works b (inr (inr (middle, rest, f, idle, y))) = λ after now.
          let x = b.read in
          subst (λ m. IsKeptAt number name m after) (sym (source_ends b middle rest f))
          (kept_traced number name (its_listing caller number name source s t target left b.first b.all x) x.listing_sound (NoBareLog name t) (its_dues caller number name source s t target left b.first b.all x) (Got caller number name source s t target left b.first b.all x) caller left
          (source_after (source_after source b.first) middle) (target_after (target_after store b.first) middle) t rest y.since x.its_target (tree_then b middle rest f idle) (rest_made b middle rest f) y.trace (kept_then b middle rest f kept) after
          (subst (λ (k : Stored). k.tree ≡ Some after) (target_ends b middle rest f) now))

  bare_ends : NoBareLog name t → BareEnds (target_after store happened)
  bare_ends none = elim (course caller number name source s t target store told happened made finds left drives) as (λ _. BareEnds (target_after store happened)) [
    | inl idle ↦ bare_none (idle_weaker caller SparesAll SparesLogs happened (λ call spares. spares.0) idle.0) none
    | inr b ↦ by_works b b.works
  ]
    where
      by_works : (b : Begun) → Works caller number name source s t target left b.first b.all b.read → BareEnds (target_after store happened)
      by_works b (inl bad) = bare_none (all_idle b (idle_weaker caller SparesAll SparesLogs b.all (λ call spares. spares.0) bad.0)) none
      by_works b (inr (inl (o, os, new, free, idle, bad))) = bare_none (all_idle b idle) none
      by_works b (inr (inr (middle, rest, f, idle, y))) = λ after now.
          let x = b.read in
          bare_traced number name (its_listing caller number name source s t target left b.first b.all x) x.listing_sound (NoBareLog name t) (its_dues caller number name source s t target left b.first b.all x) (Got caller number name source s t target left b.first b.all x) caller left
          (target_after (target_after store b.first) middle) t rest x.its_target (tree_then b middle rest f idle) y.trace none after
          (subst (λ (k : Stored). k.tree ≡ Some after) (target_ends b middle rest f) now)

  opens_ends : Opens name t → OpensEnds
  opens_ends opens = elim (course caller number name source s t target store told happened made finds left drives) as (λ _. (after : Tree) → (target_after store happened).tree ≡ Some after → Opens name after) [
    | inl idle ↦ λ after now. opens_none (idle_weaker caller SparesAll SparesLogs happened (λ call spares. spares.0) idle.0) opens after now
    | inr b ↦ by_works b b.works
  ]
    where
      by_works : (b : Begun) → Works caller number name source s t target left b.first b.all b.read → (after : Tree) → (target_after store happened).tree ≡ Some after → Opens name after
      by_works b (inl bad) = λ after now. opens_none (all_idle b (idle_weaker caller SparesAll SparesLogs b.all (λ call spares. spares.0) bad.0)) opens after now
      by_works b (inr (inl (o, os, new, free, idle, bad))) = λ after now. opens_none (all_idle b idle) opens after now
      by_works b (inr (inr (middle, rest, f, idle, y))) = λ after now.
          let x = b.read in
          opens_traced number name (its_listing caller number name source s t target left b.first b.all x) x.listing_sound (NoBareLog name t) (its_dues caller number name source s t target left b.first b.all x) (Got caller number name source s t target left b.first b.all x) caller left
          (target_after (target_after store b.first) middle) t rest x.its_target (tree_then b middle rest f idle) y.trace opens after
          (subst (λ (k : Stored). k.tree ≡ Some after) (target_ends b middle rest f) now)

  pub openhosts_last : HasOpenhosts name store → HasOpenhosts name (target_after store happened)
  openhosts_last opens tree n room now at = opens_ends (λ n room at. opens t n room told at) tree now n room at

  pub kept_by_source : IsKeptBySource source number name store → IsKeptBySource (source_after source happened) number name (target_after store happened)
  kept_by_source kept left_tree there tree n room told_left has_there now at =
      kept_ends (λ left_tree there n room told_left has_there at. kept left_tree there t n room told_left has_there told at) tree now left_tree there n room told_left has_there at

  pub no_bare_log : HasNoBareLog name store → HasNoBareLog name (target_after store happened)
  no_bare_log none tree n room now at host writer is missing = bare_ends (λ n room at host writer is missing. none t n room told at host writer is missing) tree now n room at host writer is missing
