-- What a drain does whose source is gathered, and what it has copied where it ends well.
use Rattle.std.proofs.Common.{◌≡◌, ◌⊎◌, ℕ, List, [], ◌∷◌, ◌++◌, Option, Some, None, refl, sym, inl, inr, subst}
use Rattle.plain_file.proofs.Facts.{Among}
use Rattle.store_api.specs.declared.tree.Tree.{Tree}
use Rattle.store_api.specs.Acts.{Stored}
use Rattle.mount_model.specs.Paths.{Name}
use Rattle.mount_model.specs.declared.stuck.Stuck.TheVariants as stuck
use Rattle.reader_laws.specs.Moments.{Grows, IsSoundAt, Moment, Stood}
use Rattle.reader_laws.proofs.Gathered.Facts.{all_at, grows_after, grows_trans, sound_after}
use Rattle.reader_laws.specs.Failing.{IsContainerAt}
use Rattle.reader_laws.proofs.Facts.{container_later}
use Rattle.reader_laws.proofs.Faults.TailFails.{stood_container}
use Rattle.drain_read.specs.declared.read.WriterRead.{WriterRead}
use Rattle.drain_copy.specs.declared.outcome.Drained.{Drained}
use Rattle.drain_copy.specs.declared.outcome.DrainStuck.{DrainStuck}
use Rattle.drain_copy.specs.declared.outcome.DrainStuck.TheVariants.{Source}
use Rattle.drain_copy.specs.declared.plan.Due.{Due}
use Rattle.drain_copy.specs.declared.plan.Job.{Job}
use Rattle.drain_copy.specs.declared.plan.Owner.{Owner}
use Rattle.std.specs.Prelude.{Err}
use Rattle.drain_copy.specs.Asking.{ends}
use Rattle.drain_copy.specs.Draining.{job_of, makes_marks_room, syncs, unless_taken}
use Rattle.drain_copy.specs.Planning.{drained_of, due_of, dues_of, mounts_of, owners_of, taken}
use Rattle.drain_copy.specs.Telling.{DrainsOn}
use Rattle.drain_sound.specs.Draining.{Happening, source_after, target_after}
use Rattle.drain_sound.specs.Fronts.{IsTarget, dropping_in}
use Rattle.drain_laws.specs.Driving.{AreMade, Drives}
use Rattle.drain_laws.specs.Gathered.{events_in, listed_at}
use Rattle.drain_laws.specs.Resting.{SparesAll, SparesLogs}
use Rattle.drain_laws.proofs.Planning.Aims.{IsKeptDue, IsSince, NoBareLog}
use Rattle.drain_laws.proofs.Courses.Coming.{HasRead, sound_then}
use Rattle.drain_laws.proofs.Planning.Due.{IsDueOf, due_later}
use Rattle.drain_laws.proofs.Planning.Dues.{dues_all, new_owner, owner_among}
use Rattle.drain_laws.proofs.Courses.Got.{HasGot, all_safe, its_due}
use Rattle.drain_laws.proofs.Driving.Happened.{IsIdle, idle_tree, lawful_events, made_first, made_rest, source_is}
use Rattle.drain_laws.proofs.Driving.Passing.{IsUnfinished, Passes, ended, goes, pass_or, stops}
use Rattle.drain_laws.proofs.Planning.Syncs.{HasSynced, all_synced}
use Rattle.drain_laws.proofs.Driving.Traced.{Trace, drive_traced}

module _ (caller number : ℕ) (name : Name) (source : Moment) (s : IsSoundAt source) (t : Tree) (target : IsTarget source number name t) (left : DrainsOn) where
  abbrev Read : List Happening → List Happening → Type 0
  Read first rest = HasRead caller number name source s t target left first rest

  -- what is due, by what was read
  abbrev pub its_dues : (first rest : List Happening) → Read first rest → List Due
  its_dues first rest x = dues_of x.held x.contained.writers

  abbrev pub its_listing : (first rest : List Happening) → Read first rest → Moment
  its_listing first rest x = listed_at source x.gathered

  abbrev pub Got : (first rest : List Happening) → Read first rest → Drained → Tree → Type 0
  Got first rest x drained tree = HasGot x.begin (its_listing first rest x) number name (its_dues first rest x) drained tree

  -- All that was due is synced at the source, and what comes then is traced.
  pub record HasCome (first all : List Happening) (x : Read first all) (middle rest : List Happening) : Type 0 where
    pub free : taken x.held x.contained.writers ≡ None
    pub since : IsSince number name (its_listing first all x) (NoBareLog name t) (its_dues first all x) (source_after (source_after source first) middle)
    pub none : owners_of x.contained.writers ≡ [] → middle ≡ []
    pub trace : Trace number name (its_listing first all x) x.listing_sound (NoBareLog name t) (its_dues first all x) (Got first all x) caller left t rest

  -- the source's store failed
  abbrev pub IsFailed : DrainStuck → Type 0
  IsFailed why = why ≡ Source stuck.Fault

  -- how it went on with what was read: a writer was taken; or it stopped as it synced what is new; or it went on
  abbrev pub Works : (first all : List Happening) → Read first all → Type 0
  Works first all x =
      (IsIdle SparesAll caller all × ((why : DrainStuck) × (taken x.held x.contained.writers ≡ Some why) × (left ≡ ends (Err why))))
      ⊎ ((o : Owner) × (os : List Owner) × (owners_of x.contained.writers ≡ o ∷ os) × (taken x.held x.contained.writers ≡ None) × IsIdle SparesLogs caller all × IsUnfinished IsFailed left)
      ⊎ ((middle : List Happening) × (rest : List Happening) × (all ≡ middle ++ rest) × IsIdle SparesLogs caller middle × HasCome first all x middle rest)

  module _ (store : Stored) (told : store.tree ≡ Some t) (first all : List Happening) (made : AreMade source store (first ++ all)) (idle : IsIdle SparesAll caller first) (x : Read first all) where
    abbrev before : Moment
    before = source_after source first

    abbrev its_store : Stored
    its_store = target_after store first

    before_sound : IsSoundAt before
    before_sound = sound_then caller number name source s t target left store first all made

    made_on : AreMade before its_store all
    made_on = made_rest source store first all made

    here : its_store.tree ≡ Some t
    here = idle_tree caller SparesAll source store t first idle (made_first source store first all made) told

    -- a container that has writers
    its_container : (o : Owner) (os : List Owner) → owners_of x.contained.writers ≡ o ∷ os → IsContainerAt before number
    its_container o os e =
        let (w, a, some) = new_owner x.contained.writers o os e in
        let stood : Stood (its_listing first all x) (dropping_in number w.host w.writer) = all_at (λ (y : WriterRead). Stood (its_listing first all x) (dropping_in number y.host y.writer)) x.contained.writers w x.contains.stood a in
        container_later (its_listing first all x) before number x.since (stood_container (its_listing first all x) x.listing_sound (dropping_in number w.host w.writer) stood)

    room_is : x.contained.room ≡ number
    room_is = x.contains.room

    module _ (free : taken x.held x.contained.writers ≡ None) where
      due_now : (w : WriterRead) → Among w x.contained.writers → IsDueOf number before (due_of x.held w)
      due_now w a =
          due_later number (its_listing first all x) x.listing_sound (due_of x.held w)
          (its_due caller number name t x.moment x.sound x.then_target x.held x.knows x.begin (its_listing first all x) x.listing_sound x.before x.grows x.contained x.contains free w a) before x.since

      comes_so : (middle rest : List Happening) → all ≡ middle ++ rest → IsIdle SparesLogs caller middle → HasSynced number IsFailed refl caller left (owners_of x.contained.writers) (makes_marks_room (job_of name x.held x.contained) (mounts_of x.contained.writers)) before middle rest → HasCome first all x middle rest
      comes_so middle rest e i y =
          let both : AreMade before its_store (middle ++ rest) = subst (AreMade before its_store) e made_on in
          let made_middle = made_first before its_store middle rest both in
          let lawful = lawful_events before its_store middle made_middle in
          let then_sound : IsSoundAt (source_after before middle) = subst IsSoundAt (sym (source_is before middle)) (sound_after before (events_in middle) lawful before_sound) in
          let then_grows : Grows before (source_after before middle) = subst (Grows before) (sym (source_is before middle)) (grows_after before (events_in middle) lawful before_sound) in
          let since : IsSince number name (its_listing first all x) (NoBareLog name t) (its_dues first all x) (source_after before middle) = record {
            sound = then_sound;
            grows = grows_trans (its_listing first all x) before (source_after before middle) x.since then_grows;
            kept = dues_all (IsKeptDue number (source_after before middle)) x.held x.contained.writers (λ w a open_ some tree there.
                y.kept (due_of x.held w) (due_now w a) (owner_among x.contained.writers w a some) some tree there);
          } in
          let from_is : job_of name x.held x.contained ≡ record { name = name; from = number; dues = its_dues first all x; truncs = x.contained.truncs; drained = drained_of (its_dues first all x) } =
          (λ j. record { name = name; from = room_is j; dues = its_dues first all x; truncs = x.contained.truncs; drained = drained_of (its_dues first all x) }) in
          record {
            free = free;
            since = since;
            none = y.none;
            trace = drive_traced number name (its_listing first all x) x.listing_sound (NoBareLog name t) (its_dues first all x) (Got first all x) caller left
                (makes_marks_room (record { name = name; from = number; dues = its_dues first all x; truncs = x.contained.truncs; drained = drained_of (its_dues first all x) }) (mounts_of x.contained.writers))
                (source_after before middle) (target_after its_store middle) t rest
                (all_safe caller number name t x.moment x.sound x.then_target x.held x.knows x.begin (its_listing first all x) x.listing_sound x.before x.grows x.contained x.contains free x.its_target)
                since x.its_target (idle_tree caller SparesLogs before its_store t middle i made_middle here) (made_rest before its_store middle rest both)
                (subst (λ (j : Job). Drives caller (makes_marks_room j (mounts_of x.contained.writers)) rest left) from_is y.drives);
          }

      pub synced_so : Drives caller (syncs x.contained.room (owners_of x.contained.writers) (makes_marks_room (job_of name x.held x.contained) (mounts_of x.contained.writers))) all left → IsContainerAt before number → Passes IsFailed SparesLogs caller left (HasCome first all x) all
      synced_so drives container =
          pass_or IsFailed SparesLogs caller left (HasSynced number IsFailed refl caller left (owners_of x.contained.writers) (makes_marks_room (job_of name x.held x.contained) (mounts_of x.contained.writers)) before) (HasCome first all x) all
          (λ middle rest e i y. inl (comes_so middle rest e i y))
          (all_synced number IsFailed refl caller left (owners_of x.contained.writers) (makes_marks_room (job_of name x.held x.contained) (mounts_of x.contained.writers)) before before_sound container its_store all made_on
          (subst (λ r. Drives caller (syncs r (owners_of x.contained.writers) (makes_marks_room (job_of name x.held x.contained) (mounts_of x.contained.writers))) all left) room_is drives))

    -- it is taken, and ends; or it stops as it syncs what is new; or it goes on
    pub works_so : Works first all x
    works_so = by_taken (taken x.held x.contained.writers) refl
      where
        by_owners : (free : taken x.held x.contained.writers ≡ None) → Drives caller (syncs x.contained.room (owners_of x.contained.writers) (makes_marks_room (job_of name x.held x.contained) (mounts_of x.contained.writers))) all left → (os : List Owner) → owners_of x.contained.writers ≡ os → Works first all x
        by_owners free drives [] e = inr (inr (
          [],
          all,
          refl,
          tt,
          comes_so free [] all refl tt (record {
            kept = λ due due_then among. absurd (subst (Among (record { host = due.host; writer = due.writer })) e among);
            drives = subst (λ os. Drives caller (syncs x.contained.room os (makes_marks_room (job_of name x.held x.contained) (mounts_of x.contained.writers))) all left) e drives;
            none = λ f. refl;
          }),
        ))
        by_owners free drives (o ∷ os) e = of_passes (synced_so free drives (its_container o os e))
          where
            of_passes : Passes IsFailed SparesLogs caller left (HasCome first all x) all → Works first all x
            of_passes (stops i u) = inr (inl (o, os, e, free, i, u))
            of_passes (goes middle rest f i y) = inr (inr (middle, rest, f, i, y))

        by_taken : (o : Option DrainStuck) → taken x.held x.contained.writers ≡ o → Works first all x
        by_taken None free =
            by_owners free (subst (λ o. Drives caller (unless_taken o (syncs x.contained.room (owners_of x.contained.writers) (makes_marks_room (job_of name x.held x.contained) (mounts_of x.contained.writers)))) all left) free x.drives) (owners_of x.contained.writers) refl
        by_taken (Some why) is =
            let r = ended IsFailed SparesAll caller left (Err why) before its_store all made_on (subst (λ o. Drives caller (unless_taken o (syncs x.contained.room (owners_of x.contained.writers) (makes_marks_room (job_of name x.held x.contained) (mounts_of x.contained.writers)))) all left) is x.drives) in
            inl (r.0, (why, is, r.1))
