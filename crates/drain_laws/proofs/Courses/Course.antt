-- The course of a drain from its start on, and where it has ended well.
use Rattle.std.proofs.Common.{◌≡◌, ◌⊎◌, ℕ, ◌≤◌, List, [], ◌∷◌, ◌++◌, length, take, Some, ap, sym, ◌∙◌, inl, inr, subst, append_assoc, arith}
use Rattle.std.specs.Prelude.{Ok, Err}
use Rattle.std.proofs.lemmas.List.{append-nil}
use Rattle.store_api.specs.declared.tree.Room.{Room}
use Rattle.store_api.specs.declared.tree.Tree.{Tree}
use Rattle.store_api.specs.Acts.{Stored}
use Rattle.mount_model.specs.declared.call.Call.{Call}
use Rattle.mount_model.specs.History.{Event}
use Rattle.mount_model.specs.Paths.{Name}
use Rattle.mount_sound.specs.Entries.{logged}
use Rattle.mount_sound.specs.Ledger.{entries_in}
use Rattle.mount_sound.proofs.Facts.{logged_take, take_less}
use Rattle.mount_model.specs.declared.stuck.Stuck.TheVariants as stuck
use Rattle.reader_laws.specs.Moments.{Dropping, Grows, IsSoundAt, Moment, landed}
use Rattle.reader_laws.proofs.Gathered.Facts.{entries_stay, grows_after, grows_trans, landed_whole}
use Rattle.drain_copy.specs.declared.outcome.Drained.{Drained}
use Rattle.drain_copy.specs.declared.outcome.DrainStuck.{DrainStuck}
use Rattle.drain_copy.specs.declared.outcome.DrainStuck.TheVariants.{Source}
use Rattle.drain_copy.specs.declared.plan.Due.{Due}
use Rattle.drain_copy.specs.Asking.{ends}
use Rattle.drain_copy.specs.Planning.{taken}
use Rattle.drain_copy.specs.Draining.{drain_program}
use Rattle.drain_copy.specs.Telling.{DrainsOn}
use Rattle.drain_sound.specs.Draining.{Happening, IsDraining, source_after, target_after}
use Rattle.drain_sound.specs.Fronts.{IsTarget, dropping_in}
use Rattle.drain_sound.specs.Views.{HasCopied}
use Rattle.drain_laws.specs.Driving.{AreMade, Drives, FindsRoom}
use Rattle.drain_laws.specs.Gathered.{HasGathered, began_at, events_in, listed_at}
use Rattle.drain_laws.specs.Reading.{AllReadBehind}
use Rattle.drain_laws.specs.Resting.{SparesAll, SparesLogs}
use Rattle.drain_laws.proofs.Planning.Aims.{IsFair, NoBareLog}
use Rattle.drain_laws.proofs.Courses.Coming.{HasRead, comes, sound_then}
use Rattle.drain_laws.proofs.Courses.Sought.{HaltsBy}
use Rattle.drain_laws.proofs.Courses.Drain.{Got, Works, its_dues, its_listing, works_so}
use Rattle.drain_laws.proofs.Courses.Got.{HasGot}
use Rattle.drain_laws.proofs.Driving.Happened.{IsIdle, events_both, idle_draining, idle_reads, idle_tree, idle_weaker, lawful_events, made_first, made_rest, source_both, source_is, target_both}
use Rattle.drain_laws.proofs.Driving.Passing.{IsUnfinished, Passes, goes, stops}
use Rattle.drain_laws.proofs.Driving.Traced.{HasEnd, HasStopped, draining_of, end_of, reads_of, stopped_of}

-- what was gathered in the first events was gathered in all
abbrev pub more_events : (caller number : ℕ) (events more : List Event) → HasGathered caller number events → HasGathered caller number (events ++ more)
more_events caller number events more g = record {
  before = g.before;
  first = g.first;
  between = g.between;
  listing = g.listing;
  later = g.later ++ more;
  split = ap (λ l. l ++ more) g.split ∙ append_assoc g.before ((g.first ∷ g.between) ++ g.listing ∷ g.later) more ∙ ap (λ l. g.before ++ l) (append_assoc (g.first ∷ g.between) (g.listing ∷ g.later) more);
  none_before = g.none_before;
  by_caller = g.by_caller;
  listed_by = g.listed_by;
  lists = g.lists;
}

abbrev pub same_events : (caller number : ℕ) (events others : List Event) → events ≡ others → HasGathered caller number others → HasGathered caller number events
same_events caller number events others e g = record {
  before = g.before;
  first = g.first;
  between = g.between;
  listing = g.listing;
  later = g.later;
  split = e ∙ g.split;
  none_before = g.none_before;
  by_caller = g.by_caller;
  listed_by = g.listed_by;
  lists = g.lists;
}

-- it ended badly, and so not well
pub not_well : (why : DrainStuck) (drained : Drained) → ◌≡◌ {A = DrainsOn} (ends (Err why)) (ends (Ok drained)) → ⊥
not_well why drained e = cc

only_fault : (name : Name) (t : Tree) (why : DrainStuck) → why ≡ Source stuck.Fault → IsFair name t why
only_fault name t why is = subst (IsFair name t) (sym is) tt

spares_logs : (call : Call) → SparesAll call → SparesLogs call
spares_logs call spares = spares.0

-- fewer entries are copied too, and by a later ledger as well
pub copied_moves : (a b : Moment) (s : IsSoundAt a) (number : ℕ) (room : Room) (host writer count more : ℕ) → Grows a b → count ≤ more → more ≤ landed a (dropping_in number host writer) → HasCopied a number room host writer more → HasCopied b number room host writer count
copied_moves a b s number room host writer count more grows few most c =
    let d : Dropping = dropping_in number host writer in
    let some : count ≤ length (a.issued number writer) = omega (arith, few, most, landed_whole a s d c.has.is_item) in
    let same : take count (entries_in (b.issued number writer)) ≡ take count (entries_in (a.issued number writer)) = entries_stay a b d count grows some in
    let first : take count (take more (entries_in (a.issued number writer))) ≡ take count (entries_in (a.issued number writer)) = take_less count more (entries_in (a.issued number writer)) few in
    record {
      bytes = c.bytes;
      has = c.has;
      entries = omega (arith, c.entries, few);
      written = omega (arith, c.written, ap logged same, ap logged first, logged_take count (take more (entries_in (a.issued number writer))));
    }

module _ (caller number : ℕ) (name : Name) (source : Moment) (s : IsSoundAt source) (t : Tree) (target : IsTarget source number name t) (store : Stored) (told : store.tree ≡ Some t) (happened : List Happening) (made : AreMade source store happened) (finds : FindsRoom caller number happened) (left : DrainsOn) (drives : Drives caller (drain_program name) happened left) where
  abbrev Read : List Happening → List Happening → Type 0
  Read first rest = HasRead caller number name source s t target left first rest

  pub record HasBegun : Type 0 where
    pub first : List Happening
    pub all : List Happening
    pub split : happened ≡ first ++ all
    pub idle : IsIdle SparesAll caller first
    pub read : Read first all
    pub works : Works caller number name source s t target left first all read

  -- it stopped before its source was gathered, or worked on
  pub course : (IsIdle SparesAll caller happened × IsUnfinished (HaltsBy caller name source happened) left) ⊎ HasBegun
  course = of_passes (comes caller number name source s t target left store happened told made finds drives)
    where
      of_passes : Passes (HaltsBy caller name source happened) SparesAll caller left (HasRead caller number name source s t target left) happened → (IsIdle SparesAll caller happened × IsUnfinished (HaltsBy caller name source happened) left) ⊎ HasBegun
      of_passes (stops i u) = inl (i, u)
      of_passes (goes first all e i x) = inr (record {
        first = first;
        all = all;
        split = e;
        idle = i;
        read = x;
        works = works_so caller number name source s t target left store told first all (subst (AreMade source store) e made) i x;
      })

  module _ (b : HasBegun) where
    pub all_made : AreMade source store (b.first ++ b.all)
    all_made = subst (AreMade source store) b.split made

    abbrev before : Moment
    before = source_after source b.first

    abbrev its_store : Stored
    its_store = target_after store b.first

    pub made_on : AreMade before its_store b.all
    made_on = made_rest source store b.first b.all all_made

    pub here : its_store.tree ≡ Some t
    here = idle_tree caller SparesAll source store t b.first b.idle (made_first source store b.first b.all all_made) told

  -- ---- each step is one of a drain

  all_draining : (P : Call → Type 0) (m : Moment) (its : Stored) (hs : List Happening) → IsIdle P caller hs → AreMade m its hs → IsDraining m number name its hs
  all_draining P m its hs idle its_made =
      subst (IsDraining m number name its) (append-nil hs) (idle_draining caller P m its number name hs [] idle (subst (AreMade m its) (sym (append-nil hs)) its_made) tt)

  pub draining : IsDraining source number name store happened
  draining = elim course as (λ _. IsDraining source number name store happened) [
    | inl idle ↦ all_draining SparesAll source store happened idle.0 made
    | inr b ↦ subst (IsDraining source number name store) (sym b.split) (idle_draining caller SparesAll source store number name b.first b.all b.idle (all_made b) (by_works b b.works))
  ]
    where
      by_works : (b : HasBegun) → Works caller number name source s t target left b.first b.all b.read → IsDraining (source_after source b.first) number name (target_after store b.first) b.all
      by_works b (inl bad) = all_draining SparesAll (source_after source b.first) (target_after store b.first) b.all bad.0 (made_on b)
      by_works b (inr (inl (o, os, new, free, idle, bad))) = all_draining SparesLogs (source_after source b.first) (target_after store b.first) b.all idle (made_on b)
      by_works b (inr (inr (middle, rest, f, idle, y))) =
          let x = b.read in
          let both : AreMade (source_after source b.first) (target_after store b.first) (middle ++ rest) = subst (AreMade (source_after source b.first) (target_after store b.first)) f (made_on b) in
          subst (IsDraining (source_after source b.first) number name (target_after store b.first)) (sym f)
          (idle_draining caller SparesLogs (source_after source b.first) (target_after store b.first) number name middle rest idle both
          (draining_of number name (its_listing caller number name source s t target left b.first b.all x) x.listing_sound (NoBareLog name t) (its_dues caller number name source s t target left b.first b.all x) (Got caller number name source s t target left b.first b.all x) caller left
          (source_after (source_after source b.first) middle) (target_after (target_after store b.first) middle) t rest y.since
          (idle_tree caller SparesLogs (source_after source b.first) (target_after store b.first) t middle idle (made_first (source_after source b.first) (target_after store b.first) middle rest both) (here b))
          (made_rest (source_after source b.first) (target_after store b.first) middle rest both) y.trace))

  -- ---- each Read of a log begins where the target's ends

  all_reads : (its : Stored) (hs : List Happening) → IsIdle SparesLogs caller hs → AllReadBehind caller name its hs
  all_reads its hs idle = subst (AllReadBehind caller name its) (append-nil hs) (idle_reads caller name its hs [] idle tt)

  pub reads : NoBareLog name t → AllReadBehind caller name store happened
  reads sure = elim course as (λ _. AllReadBehind caller name store happened) [
    | inl idle ↦ all_reads store happened (idle_weaker caller SparesAll SparesLogs happened spares_logs idle.0)
    | inr b ↦ subst (AllReadBehind caller name store) (sym b.split) (idle_reads caller name store b.first b.all (idle_weaker caller SparesAll SparesLogs b.first spares_logs b.idle) (by_works b b.works))
  ]
    where
      by_works : (b : HasBegun) → Works caller number name source s t target left b.first b.all b.read → AllReadBehind caller name (target_after store b.first) b.all
      by_works b (inl bad) = all_reads (target_after store b.first) b.all (idle_weaker caller SparesAll SparesLogs b.all spares_logs bad.0)
      by_works b (inr (inl (o, os, new, free, idle, bad))) = all_reads (target_after store b.first) b.all idle
      by_works b (inr (inr (middle, rest, f, idle, y))) =
          let x = b.read in
          let both : AreMade (source_after source b.first) (target_after store b.first) (middle ++ rest) = subst (AreMade (source_after source b.first) (target_after store b.first)) f (made_on b) in
          subst (AllReadBehind caller name (target_after store b.first)) (sym f)
          (idle_reads caller name (target_after store b.first) middle rest idle
          (reads_of number name (its_listing caller number name source s t target left b.first b.all x) x.listing_sound (NoBareLog name t) (its_dues caller number name source s t target left b.first b.all x) (Got caller number name source s t target left b.first b.all x) caller left
          sure (target_after (target_after store b.first) middle) t rest
          (idle_tree caller SparesLogs (source_after source b.first) (target_after store b.first) t middle idle (made_first (source_after source b.first) (target_after store b.first) middle rest both) (here b)) y.trace))

  -- ---- where it has ended well

  pub record HasFinished (drained : Drained) : Type 0 where
    pub gathered : HasGathered caller number (events_in happened)
    pub begin : Moment
    pub began : Grows (began_at source gathered) begin
    pub from_start : Grows source begin
    pub grows : Grows begin (listed_at source gathered)
    pub listing_sound : IsSoundAt (listed_at source gathered)
    pub to_end : Grows (listed_at source gathered) (source_after source happened)
    pub dues : List Due
    pub after : Tree
    pub now : (target_after store happened).tree ≡ Some after
    pub good : IsTarget (listed_at source gathered) number name after
    pub got : HasGot begin (listed_at source gathered) number name dues drained after

  pub finished : (drained : Drained) → left ≡ ends (Ok drained) → HasFinished drained
  finished drained is = elim course as (λ _. HasFinished drained) [
    | inl idle ↦ absurd (idle.1 (Ok drained) is)
    | inr b ↦ by_works b b.works
  ]
    where
      by_works : (b : HasBegun) → Works caller number name source s t target left b.first b.all b.read → HasFinished drained
      by_works b (inl (idle, (why, taken_so, ended))) = absurd (not_well why drained (sym ended ∙ is))
      by_works b (inr (inl (o, os, new, free, idle, bad))) = absurd (bad (Ok drained) is)
      by_works b (inr (inr (middle, rest, f, idle, y))) =
          let x = b.read in
          let m : Moment = source_after source b.first in
          let its : Stored = target_after store b.first in
          let both : AreMade m its (middle ++ rest) = subst (AreMade m its) f (made_on b) in
          let listing : Moment = its_listing caller number name source s t target left b.first b.all x in
          let end : HasEnd number name listing x.listing_sound (NoBareLog name t) (its_dues caller number name source s t target left b.first b.all x) (Got caller number name source s t target left b.first b.all x) caller left (target_after (target_after its middle) rest) drained =
          end_of number name listing x.listing_sound (NoBareLog name t) (its_dues caller number name source s t target left b.first b.all x) (Got caller number name source s t target left b.first b.all x) caller left
          (target_after its middle) t rest drained is x.its_target (idle_tree caller SparesLogs m its t middle idle (made_first m its middle rest both) (here b)) y.trace in
          let tree_is : target_after store happened ≡ target_after (target_after its middle) rest = ap (target_after store) (b.split ∙ ap (λ l. b.first ++ l) f) ∙ target_both store b.first (middle ++ rest) ∙ target_both its middle rest in
          let ends_at : source_after source happened ≡ source_after m b.all = ap (source_after source) b.split ∙ source_both source b.first b.all in
          let s_m : IsSoundAt m = since_sound b in
          let to_end : Grows m (source_after m b.all) = subst (Grows m) (sym (source_is m b.all)) (grows_after m (events_in b.all) (lawful_events m its b.all (made_on b)) s_m) in
          record {
            gathered = same_events caller number (events_in happened) (events_in b.first ++ events_in b.all) (ap events_in b.split ∙ events_both b.first b.all) (more_events caller number (events_in b.first) (events_in b.all) x.gathered);
            begin = x.begin;
            began = x.began;
            from_start = grows_trans source x.moment x.begin x.begun x.before;
            grows = x.grows;
            listing_sound = x.listing_sound;
            to_end = subst (Grows listing) (sym ends_at) (grows_trans listing m (source_after m b.all) x.since to_end);
            dues = its_dues caller number name source s t target left b.first b.all x;
            after = end.after;
            now = ap (λ (k : Stored). k.tree) tree_is ∙ end.told;
            good = end.good;
            got = end.post;
          }
        where
          since_sound : (b : HasBegun) → IsSoundAt (source_after source b.first)
          since_sound b = sound_then caller number name source s t target left store b.first b.all (all_made b)

  -- ---- where it has ended before it was through

  -- before its source was gathered; or as a writer was taken; or in trouble behind that, at the tree that is there then
  pub data HasStoppedBy (why : DrainStuck) : Type 0 where
    halted : HaltsBy caller name source happened why → HasStoppedBy why
    took : (b : HasBegun) → taken b.read.held b.read.contained.writers ≡ Some why → HasStoppedBy why
    stopped_in : (after : Tree) → (target_after store happened).tree ≡ Some after → IsFair name after why → HasStoppedBy why

  pub stopped : (why : DrainStuck) → left ≡ ends (Err why) → HasStoppedBy why
  stopped why is = elim course as (λ _. HasStoppedBy why) [
    | inl idle ↦ halted (idle.1 (Err why) is)
    | inr b ↦ by_works b b.works
  ]
    where
      one_why : (other : DrainStuck) → ◌≡◌ {A = DrainsOn} (ends (Err other)) (ends (Err why)) → other ≡ why
      one_why other e = cc

      by_works : (b : HasBegun) → Works caller number name source s t target left b.first b.all b.read → HasStoppedBy why
      by_works b (inl (idle, (other, taken_so, ended))) = took b (taken_so ∙ ap (λ w. Some w) (one_why other (sym ended ∙ is)))
      by_works b (inr (inl (o, os, new, free, idle, bad))) =
          let here : (target_after store happened).tree ≡ Some t = ap (λ hs. (target_after store hs).tree) b.split ∙ ap (λ (k : Stored). k.tree) (target_both store b.first b.all) ∙ idle_tree caller SparesLogs (source_after source b.first) (target_after store b.first) t b.all idle (made_on b) (here b) in
          stopped_in t here (only_fault name t why (bad (Err why) is))
      by_works b (inr (inr (middle, rest, f, idle, y))) =
          let x = b.read in
          let m : Moment = source_after source b.first in
          let its : Stored = target_after store b.first in
          let both : AreMade m its (middle ++ rest) = subst (AreMade m its) f (made_on b) in
          let listing : Moment = its_listing caller number name source s t target left b.first b.all x in
          let end : HasStopped number name listing x.listing_sound (NoBareLog name t) (its_dues caller number name source s t target left b.first b.all x) (Got caller number name source s t target left b.first b.all x) caller left (target_after (target_after its middle) rest) why =
          stopped_of number name listing x.listing_sound (NoBareLog name t) (its_dues caller number name source s t target left b.first b.all x) (Got caller number name source s t target left b.first b.all x) caller left
          (target_after its middle) t rest why is (idle_tree caller SparesLogs m its t middle idle (made_first m its middle rest both) (here b)) y.trace in
          let tree_is : target_after store happened ≡ target_after (target_after its middle) rest = ap (target_after store) (b.split ∙ ap (λ l. b.first ++ l) f) ∙ target_both store b.first (middle ++ rest) ∙ target_both its middle rest in
          stopped_in end.after (ap (λ (k : Stored). k.tree) tree_is ∙ end.told) end.fair
