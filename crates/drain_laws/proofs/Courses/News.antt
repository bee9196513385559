-- Where the target has all that has landed, a drain finds nothing new, and copies nothing.
use Rattle.std.proofs.Common.{◌≡◌, ℕ, zero, suc, ◌+◌, ◌-◌, ◌*◌, ◌≤◌, min, List, [], ◌∷◌, ◌++◌, length, take, refl, ap, sym, ◌∙◌, inl, inr, subst, arith}
use Rattle.std.specs.Prelude.{Ok, None, Some, slice_get}
use Rattle.std.specs.List.{AllByRecursion}
use Rattle.std.proofs.lemmas.List.{append-nil}
use Rattle.plain_file.proofs.Facts.{Among, All-Among}
use Rattle.index_entry.proofs.Facts.{length-spelling_all}
use Rattle.store_api.specs.declared.tree.Room.{Room}
use Rattle.store_api.specs.declared.tree.Tree.{Tree}
use Rattle.store_api.specs.Acts.{Stored}
use Rattle.store_laws.specs.Files.{file_at}
use Rattle.store_laws.proofs.Facts.{prefix_length}
use Rattle.mount_model.specs.Paths.{Name, index_path}
use Rattle.mount_sound.specs.Dropping.{bytes_of}
use Rattle.mount_sound.specs.Entries.{logged}
use Rattle.mount_sound.specs.Ledger.{entries_in}
use Rattle.reader_laws.specs.Moments.{Dropping, Grows, IsSoundAt, Moment, Stood, landed}
use Rattle.reader_laws.proofs.Gathered.Facts.{entries_stay, grows_after, grows_trans, landed_whole, length-entries, length_taken, stood_grows}
use Rattle.drain_read.specs.declared.read.WriterRead.{WriterRead}
use Rattle.drain_copy.specs.declared.outcome.Drained.{Drained}
use Rattle.drain_copy.specs.declared.plan.Due.{Due}
use Rattle.drain_copy.specs.declared.plan.Owner.{Owner}
use Rattle.drain_copy.specs.Asking.{ends}
use Rattle.drain_copy.specs.Draining.{drain_program}
use Rattle.drain_copy.specs.Planning.{drained_behind, drained_of, dues_of, nothing_drained, owners_of, taken, with_due}
use Rattle.drain_copy.specs.Telling.{DrainsOn}
use Rattle.drain_sound.specs.Draining.{Happening, at_source, at_target, source_after, target_after}
use Rattle.drain_sound.specs.Fronts.{IsTarget, dropping_in, index_there}
use Rattle.drain_sound.specs.Views.{HasCopied}
use Rattle.drain_laws.specs.Driving.{AreMade, Drives, FindsRoom}
use Rattle.drain_laws.specs.Gathered.{events_in}
use Rattle.drain_laws.specs.Resting.{CopiesNothing, HasAll, SparesAll}
use Rattle.drain_laws.proofs.Planning.Aims.{HasNews, IsPlanned, NoBareLog}
use Rattle.drain_laws.proofs.Courses.Coming.{sound_then}
use Rattle.drain_laws.proofs.Courses.Course.{HasBegun, all_made, course, made_on, not_well}
use Rattle.drain_laws.proofs.Courses.Drain.{Got, HasCome, Works, its_dues, its_listing}
use Rattle.drain_laws.proofs.Planning.Dues.{dues_all, new_owner}
use Rattle.drain_laws.proofs.Courses.Got.{its_due, its_stood, planned}
use Rattle.drain_laws.proofs.Driving.Happened.{IsIdle, idle_nothing, lawful_events, source_both, source_is}
use Rattle.drain_laws.proofs.Driving.Traced.{Trace, nothing_of}

-- where nothing is due, nothing is drained
abbrev IsIdleDue : Due → Type 0
IsIdleDue due = (length due.entries ≡ 0) × (due.bytes ≤ due.log)

with_nothing : (due : Due) (sofar : Drained) → IsIdleDue due → with_due due sofar ≡ sofar
with_nothing due sofar idle =
    let writers : sofar.writers + min (length due.entries) 1 ≡ sofar.writers = omega (arith, idle.0) in
    let entries : sofar.entries + length due.entries ≡ sofar.entries = omega (arith, idle.0) in
    let bytes : sofar.bytes + (due.bytes - due.log) ≡ sofar.bytes = omega (arith, idle.1) in
    λ i. record { writers = writers i; entries = entries i; bytes = bytes i }

none_behind : (dues : List Due) (sofar : Drained) → AllByRecursion IsIdleDue dues → drained_behind sofar dues ≡ sofar
none_behind [] sofar all = refl
none_behind (due ∷ dues) sofar all = ap (λ d. drained_behind d dues) (with_nothing due sofar all.0) ∙ none_behind dues sofar all.1

-- no more was copied than had landed at a moment of which the target is
pub copied_few : (m other : Moment) (s : IsSoundAt m) (number : ℕ) (name : Name) (t : Tree) (target : IsTarget m number name t) (n : ℕ) (room : Room) (host writer count : ℕ) → slice_get t.rooms n ≡ Some room → room.name ≡ name → HasCopied other number room host writer count → count ≤ landed m (dropping_in number host writer)
copied_few m other s number name t target n room host writer count there named c =
    let d : Dropping = dropping_in number host writer in
    let front = (target.drained n room there named).fronts host writer c.has.is_item in
    let few = landed_whole m s d c.has.is_item in
    let long : length (index_there m d) ≡ 40 * landed m d = length-spelling_all (take (landed m d) (entries_in (m.issued number writer))) ∙ ap (λ k. 40 * k) (length_taken (landed m d) (entries_in (m.issued number writer)) (omega (arith, few, length-entries (m.issued number writer)))) in
    omega (arith, c.entries, ap (λ o. length (bytes_of o)) c.has.there, prefix_length (bytes_of (file_at room (index_path host writer))) (index_there m d) front.index, long)

-- what was copied at a later moment was copied at one of which the target is
pub copied_then : (m end : Moment) (s : IsSoundAt m) (number : ℕ) (name : Name) (t : Tree) (target : IsTarget m number name t) (n : ℕ) (room : Room) (host writer count : ℕ) → Grows m end → (there : slice_get t.rooms n ≡ Some room) → room.name ≡ name → HasCopied end number room host writer count → HasCopied m number room host writer count
copied_then m end s number name t target n room host writer count grows there named c =
    let d : Dropping = dropping_in number host writer in
    let short : count ≤ landed m d = copied_few m end s number name t target n room host writer count there named c in
    let same = entries_stay m end d count grows (omega (arith, short, landed_whole m s d c.has.is_item)) in
    record { bytes = c.bytes; has = c.has; entries = c.entries; written = omega (arith, c.written, ap logged same) }

module _ (caller number : ℕ) (name : Name) (source : Moment) (s : IsSoundAt source) (t : Tree) (target : IsTarget source number name t) (store : Stored) (told : store.tree ≡ Some t) (happened : List Happening) (made : AreMade source store happened) (finds : FindsRoom caller number happened) (left : DrainsOn) (drives : Drives caller (drain_program name) happened left)
    (has : HasAll (source_after source happened) number name store) where
  abbrev Begun : Type 0
  Begun = HasBegun caller number name source s t target store told happened made finds left drives

  module _ (b : Begun) (free : taken b.read.held b.read.contained.writers ≡ None) where
    abbrev listing : Moment
    listing = its_listing caller number name source s t target left b.first b.all b.read

    to_end : Grows listing (source_after source happened)
    to_end =
        let m : Moment = source_after source b.first in
        let sound : IsSoundAt m = sound_then caller number name source s t target left store b.first b.all (all_made caller number name source s t target store told happened made finds left drives b) in
        let on : Grows m (source_after m b.all) = subst (Grows m) (sym (source_is m b.all)) (grows_after m (events_in b.all) (lawful_events m (target_after store b.first) b.all (made_on caller number name source s t target store told happened made finds left drives b)) sound) in
        subst (Grows listing) (sym (ap (source_after source) b.split ∙ source_both source b.first b.all)) (grows_trans listing m (source_after m b.all) b.read.since on)

    pub no_news : (w : WriterRead) → Among w b.read.contained.writers → length w.entries ≡ 0
    no_news w a = by_length (length w.entries) refl
      where
        by_length : (k : ℕ) → length w.entries ≡ k → length w.entries ≡ 0
        by_length zero e = e
        by_length (suc k) e =
            let x = b.read in
            let d : Dropping = dropping_in number w.host w.writer in
            let end : Moment = source_after source happened in
            let due = its_due caller number name t x.moment x.sound x.then_target x.held x.knows x.begin listing x.listing_sound x.before x.grows x.contained x.contains free w a in
            let stood : Stood listing d = its_stood caller number name t x.moment x.sound x.then_target x.held x.knows x.begin listing x.listing_sound x.before x.grows x.contained x.contains free w a in
            let more : landed listing d ≤ landed end d = to_end.landed d stood.is_item in
            let (n, room, at, copied) = has t w.host w.writer told (stood_grows listing end d to_end stood) (omega (arith, due.landed, e, more)) in
            let then_copied = copied_then x.moment end x.sound number name t x.then_target n room w.host w.writer (landed end d) (grows_trans x.moment x.begin end x.before (grows_trans x.begin listing end x.grows to_end)) at.there at.named copied in
            absurd (omega (arith, x.knows.counted w.host w.writer (landed end d) n room at then_copied, due.landed, e, more))

    pub all_idle : AllByRecursion IsIdleDue (dues_of b.read.held b.read.contained.writers)
    all_idle =
        let x = b.read in
        let plans = planned caller number name t x.moment x.sound x.then_target x.held x.knows x.begin listing x.listing_sound x.before x.grows x.contained x.contains free in
        both_idle (dues_of x.held x.contained.writers) (dues_all (λ (due : Due). length due.entries ≡ 0) x.held x.contained.writers (λ w a open_. no_news w a)) plans
      where
        both_idle : (xs : List Due) → AllByRecursion (λ (due : Due). length due.entries ≡ 0) xs → AllByRecursion (IsPlanned number name listing (NoBareLog name t) (dues_of b.read.held b.read.contained.writers)) xs → AllByRecursion IsIdleDue xs
        both_idle [] none plans = tt
        both_idle (due ∷ xs) none plans = ((none.0, plans.0.idle none.0), both_idle xs none.1 plans.1)

    no_news_due : (due : Due) → HasNews number name listing (NoBareLog name t) (dues_of b.read.held b.read.contained.writers) due → ⊥
    no_news_due due news =
        let idle : IsIdleDue due = All-Among IsIdleDue (dues_of b.read.held b.read.contained.writers) due all_idle news.0.among in
        omega (arith, idle.0, news.1)

    no_owner : (o : Owner) (os : List Owner) → owners_of b.read.contained.writers ≡ o ∷ os → ⊥
    no_owner o os e = let (w, a, some) = new_owner b.read.contained.writers o os e in omega (arith, no_news w a, some)

    no_owners : owners_of b.read.contained.writers ≡ []
    no_owners = by_owners (owners_of b.read.contained.writers) refl
      where
        by_owners : (os : List Owner) → owners_of b.read.contained.writers ≡ os → owners_of b.read.contained.writers ≡ []
        by_owners [] e = e
        by_owners (o ∷ os) e = absurd (no_owner o os e)

  all_nothing : (hs : List Happening) → IsIdle SparesAll caller hs → CopiesNothing caller hs
  all_nothing hs idle = subst (CopiesNothing caller) (append-nil hs) (idle_nothing caller hs [] idle tt)

  pub nothing_new : CopiesNothing caller happened
  nothing_new = elim (course caller number name source s t target store told happened made finds left drives) as (λ _. CopiesNothing caller happened) [
    | inl idle ↦ all_nothing happened idle.0
    | inr b ↦ subst (CopiesNothing caller) (sym b.split) (idle_nothing caller b.first b.all b.idle (by_works b b.works))
  ]
    where
      by_works : (b : Begun) → Works caller number name source s t target left b.first b.all b.read → CopiesNothing caller b.all
      by_works b (inl bad) = all_nothing b.all bad.0
      by_works b (inr (inl (o, os, new, free, idle, bad))) = absurd (no_owner b free o os new)
      by_works b (inr (inr (middle, rest, f, idle, y))) =
          let x = b.read in
          let none : middle ≡ [] = y.none (no_owners b y.free) in
          subst (CopiesNothing caller) (sym (f ∙ ap (λ l. l ++ rest) none))
          (nothing_of number name (listing b y.free) x.listing_sound (NoBareLog name t) (its_dues caller number name source s t target left b.first b.all x) (Got caller number name source s t target left b.first b.all x) caller left
          (no_news_due b y.free) t rest y.trace)

  pub drained_nothing : (drained : Drained) → left ≡ ends (Ok drained) → drained ≡ nothing_drained
  drained_nothing drained is = elim (course caller number name source s t target store told happened made finds left drives) as (λ _. drained ≡ nothing_drained) [
    | inl idle ↦ absurd (idle.1 (Ok drained) is)
    | inr b ↦ by_works b b.works
  ]
    where
      by_works : (b : Begun) → Works caller number name source s t target left b.first b.all b.read → drained ≡ nothing_drained
      by_works b (inl (idle, (why, taken_so, ended))) = absurd (not_well why drained (sym ended ∙ is))
      by_works b (inr (inl (o, os, new, free, idle, bad))) = absurd (bad (Ok drained) is)
      by_works b (inr (inr (middle, rest, f, idle, y))) = counts_of b middle rest y ∙ none_behind (dues_of b.read.held b.read.contained.writers) nothing_drained (all_idle b y.free)
        where
          counts_of : (b : Begun) (middle rest : List Happening) (y : HasCome caller number name source s t target left b.first b.all b.read middle rest) → drained ≡ drained_of (dues_of b.read.held b.read.contained.writers)
          counts_of b middle rest y = counts_in t rest y.trace
            where
              counts_in : (x : Tree) (hs : List Happening) → Trace number name (listing b y.free) b.read.listing_sound (NoBareLog name t) (its_dues caller number name source s t target left b.first b.all b.read) (Got caller number name source s t target left b.first b.all b.read) caller left x hs → drained ≡ drained_of (dues_of b.read.held b.read.contained.writers)
              counts_in x [] trace = (trace (Ok drained) is).counts
              counts_in x (at_source e ∷ hs) trace = counts_in x hs trace.1
              counts_in x (at_target a ∷ hs) trace = counts_in trace.1.0 hs trace.1.4
