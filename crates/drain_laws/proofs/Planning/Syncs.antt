-- What is new of each writer is synced at the source, and so no loss of power takes it there.
use Rattle.std.proofs.Common.{◌≡◌, ℕ, ◌+◌, ◌*◌, ◌/◌, ◌≤◌, Bool, true, false, List, [], ◌∷◌, ◌++◌, length, take, Option, Some, refl, ap, sym, ◌∙◌, inl, inr, subst, arith}
use Rattle.std.specs.Prelude.{Ok, slice_get}
use Rattle.plain_file.proofs.Facts.{Among}
use Rattle.plfs_types.specs.declared.entries.Entry.{Entry}
use Rattle.store_api.specs.declared.tree.Room.{Room}
use Rattle.store_api.specs.declared.tree.Tree.{Tree}
use Rattle.store_api.specs.Acts.{Stored}
use Rattle.store_laws.specs.Files.{file_at}
use Rattle.mount_model.specs.declared.call.Ask.{Ask}
use Rattle.mount_model.specs.declared.call.Call.TheVariants.{SyncDropping}
use Rattle.mount_model.specs.declared.reply.Reply.{Reply}
use Rattle.mount_model.specs.declared.reply.Reply.TheVariants.{Done}
use Rattle.mount_model.specs.History.{Event}
use Rattle.mount_model.specs.Paths.{index_path}
use Rattle.mount_model.specs.State.{State}
use Rattle.mount_model.specs.Step.{IsStep}
use Rattle.mount_sound.specs.Dropping.{bytes_of}
use Rattle.mount_sound.specs.Entries.{logged}
use Rattle.mount_sound.specs.Landed.{whole}
use Rattle.mount_sound.specs.Ledger.{entries_in}
use Rattle.mount_sound.specs.Owed.{IsLawful, StandsInRoom}
use Rattle.mount_sound.specs.Recovered.{HasRecovered, IsSyncedWhole}
use Rattle.mount_sound.specs.There.{landed_entries}
use Rattle.mount_sound.proofs.Facts.{has_recovered, its_writers, one_tree, step_keeps_kept, take_less}
use Rattle.mount_model.specs.declared.stuck.Stuck.TheVariants as stuck
use Rattle.mount_model.specs.Running.{unbroken}
use Rattle.recovery_laws.proofs.Facts.{AreLogged, HasFirst, Stays, in_log, logged_stays}
use Rattle.reader_laws.specs.Moments.{Dropping, Grows, IsSoundAt, Moment, landed, moment_after, next_moment}
use Rattle.reader_laws.proofs.Gathered.Facts.{entries_stay, grows_after, in_a_room, in_tree, landed_at, landed_is_first, landed_whole, legal_first, legal_rest, length-entries, length_taken, moment-append, sound_after}
use Rattle.reader_laws.specs.Failing.{IsContainerAt}
use Rattle.reader_laws.proofs.Facts.{container_later}
use Rattle.drain_copy.specs.declared.outcome.DrainStuck.{DrainStuck}
use Rattle.drain_copy.specs.declared.outcome.DrainStuck.TheVariants.{Source}
use Rattle.drain_copy.specs.declared.plan.Due.{Due}
use Rattle.drain_copy.specs.declared.plan.Owner.{Owner}
use Rattle.drain_copy.specs.Draining.{syncs, syncs_second}
use Rattle.drain_copy.specs.Telling.{DrainsOn, kept}
use Rattle.drain_sound.specs.Draining.{Happening, source_after, target_after}
use Rattle.drain_sound.specs.Fronts.{dropping_in}
use Rattle.drain_laws.specs.Driving.{AreMade, Drives}
use Rattle.drain_laws.specs.Gathered.{events_in}
use Rattle.drain_laws.specs.Resting.{SparesLogs}
use Rattle.drain_laws.proofs.Planning.Aims.{IsKeptDue}
use Rattle.drain_laws.proofs.Planning.Due.{IsDueOf, due_later}
use Rattle.drain_laws.proofs.Planning.Unrefused.{sync_ends}
use Rattle.drain_laws.proofs.Driving.Happened.{lawful_events, made_first, made_rest, source_both, source_is}
use Rattle.drain_laws.proofs.Driving.Passing.{HasCalled, IsFairCall, Passes, goes, pass_on, pass_or, passes_call}

-- ---- facts that stay

some_room : (a b : Room) (tree : Tree) (n : ℕ) → slice_get tree.rooms n ≡ Some a → slice_get tree.rooms n ≡ Some b → a ≡ b
some_room a b tree n p q = cc

both_stand : (state : State) (number : ℕ) (one two : Room → Type 0) → StandsInRoom state number one → StandsInRoom state number two → StandsInRoom state number (λ room. one room × two room)
both_stand state number one two a b tree told =
    let x = a tree told in
    let y = b tree told in
    (x.0, x.1, (x.2, subst two (some_room y.0 x.0 tree number y.1 x.1) y.2))

stays_on : (fact : State → Type 0) → Stays fact → (m : Moment) (events : List Event) → IsSoundAt m → IsLawful m.state events → fact m.state → fact (moment_after m events).state
stays_on fact stays m [] s l f = f
stays_on fact stays m (e ∷ events) s l f =
    stays_on fact stays (next_moment m e) events (sound_after m (e ∷ []) (l.0, l.1, tt) s) l.2 (stays m.issued m.state e.after e.caller e.ask e.reply l.0 l.1 s f)

module _ (number : ℕ) where
  abbrev all : Due → ℕ
  all due = due.count + length due.entries

  abbrev its : Due → Dropping
  its due = dropping_in number due.host due.writer

  -- so many first entries, as they were issued at this moment
  abbrev firsts : Moment → Due → List Entry
  firsts m due = take (all due) (entries_in (m.issued number due.writer))

  -- ---- what is due has landed

  has_first : (m : Moment) (s : IsSoundAt m) (due : Due) → IsDueOf number m due → StandsInRoom m.state number (HasFirst due.host due.writer (firsts m due))
  has_first m s due d tree told =
      let same : s.shape.tree ≡ tree = one_tree s.shape.tree tree m.state.store.tree s.shape.told told in
      let r = in_a_room (slice_get s.shape.tree.rooms number) (index_path due.host due.writer) d.stood.bytes (in_tree m s number (index_path due.host due.writer) d.stood.bytes d.stood.there) in
      let were : landed_entries r.0 due.host due.writer ≡ take (landed m (its due)) (entries_in (m.issued number due.writer)) = sym (landed_at m s (its due) r.0 r.1) ∙ landed_is_first m s (its due) d.stood.is_item in
      let most : landed m (its due) ≤ length (entries_in (m.issued number due.writer)) = omega (arith, landed_whole m s (its due) d.stood.is_item, length-entries (m.issued number due.writer)) in
      let count : length (firsts m due) ≡ all due = length_taken (all due) (entries_in (m.issued number due.writer)) (omega (arith, d.landed, most)) in (
        r.0,
        ap (λ (t : Tree). slice_get t.rooms number) (sym same) ∙ r.1,
        record {
          content = d.stood.bytes;
          stands = record { is_item = d.stood.is_item; there = r.2 };
          many = omega (arith, count, d.landed, ap length were, length_taken (landed m (its due)) (entries_in (m.issued number due.writer)) most);
          first = (λ i. take (count i) (were i)) ∙ take_less (all due) (landed m (its due)) (entries_in (m.issued number due.writer)) d.landed;
        },
      )

  -- they are the same later
  same_firsts : (m n : Moment) (s : IsSoundAt m) (due : Due) → IsDueOf number m due → Grows m n → firsts n due ≡ firsts m due
  same_firsts m n s due d grows = entries_stay m n (its due) (all due) grows (omega (arith, d.landed, landed_whole m s (its due) d.stood.is_item))

  -- ---- a sync of its log, and of its index dropping

  done_reply : (reply : Reply) (x : Unit {0}) → kept reply ≡ Ok x → reply ≡ Done
  done_reply Done x e = refl
  done_reply reply x e = absurd (cc)

  -- the sync was made as it was asked
  was_synced : (m : Moment) (s : IsSoundAt m) (e : Event) (host writer : ℕ) (is_log : Bool) (x : Unit {0}) → IsLawful m.state (e ∷ []) → e.ask ≡ unbroken (SyncDropping number host writer is_log) → kept e.reply ≡ Ok x → StandsInRoom e.after number (IsSyncedWhole host writer is_log)
  was_synced m s e host writer is_log x l asked good =
      let done : e.reply ≡ Done = done_reply e.reply x good in
      let step : IsStep m.state e.caller e.ask Done e.after = subst (λ r. IsStep m.state e.caller e.ask r e.after) done l.1 in
      subst (λ c. HasRecovered c e.after) (ap (λ (a : Ask). a.call) asked) (has_recovered m.issued m.state e.after e.caller e.ask s l.0 step)

  -- the events with the sync as the last
  record EndsWith (m : Moment) (events : List Event) (before : Moment) (e : Event) : Type 0 where
    sound : IsSoundAt before
    grows : Grows m before
    lawful : IsLawful before.state (e ∷ [])
    sound_then : IsSoundAt (next_moment before e)
    ends : moment_after m events ≡ next_moment before e

  ends_with : (m : Moment) (s : IsSoundAt m) (events others : List Event) (e : Event) → events ≡ others ++ e ∷ [] → IsLawful m.state events → EndsWith m events (moment_after m others) e
  ends_with m s events others e split l =
      let lawful : IsLawful m.state (others ++ e ∷ []) = subst (IsLawful m.state) split l in
      let first = legal_first m others (e ∷ []) lawful in
      let sound = sound_after m others first s in
      let last = legal_rest m others (e ∷ []) lawful in
      record {
        sound = sound;
        grows = grows_after m others first s;
        lawful = last;
        sound_then = sound_after (moment_after m others) (e ∷ []) last sound;
        ends = ap (moment_after m) split ∙ moment-append m others (e ∷ []);
      }

  log_synced : (m : Moment) (s : IsSoundAt m) (events others : List Event) (e : Event) (due : Due) (x : Unit {0}) → events ≡ others ++ e ∷ [] → IsLawful m.state events → e.ask ≡ unbroken (SyncDropping number due.host due.writer true) → kept e.reply ≡ Ok x → IsDueOf number m due
      → StandsInRoom (moment_after m events).state number (AreLogged due.host due.writer (firsts m due))
  log_synced m s events others e due x split l asked good d =
      let before : Moment = moment_after m others in
      let b = ends_with m s events others e split l in
      let now : Moment = next_moment before e in
      let grows : Grows m now = subst (Grows m) b.ends (grows_after m events l s) in
      let first : StandsInRoom now.state number (HasFirst due.host due.writer (firsts m due)) =
      subst (λ es. StandsInRoom now.state number (HasFirst due.host due.writer es)) (same_firsts m now s due d grows) (has_first now b.sound_then due (due_later number m s due d now grows)) in
      let synced = was_synced before b.sound e due.host due.writer true x b.lawful asked good in
      subst (λ (n : Moment). StandsInRoom n.state number (AreLogged due.host due.writer (firsts m due))) (sym b.ends)
      (λ tree told.
      let y = both_stand now.state number (HasFirst due.host due.writer (firsts m due)) (IsSyncedWhole due.host due.writer true) first synced tree told in
      let same : tree ≡ b.sound_then.shape.tree = one_tree tree b.sound_then.shape.tree now.state.store.tree told b.sound_then.shape.told in
      let there : slice_get b.sound_then.shape.tree.rooms number ≡ Some y.0 = ap (λ (t : Tree). slice_get t.rooms number) (sym same) ∙ y.1 in (
        y.0,
        y.1,
        record {
          has = y.2.0;
          kept = omega (arith, y.2.1.kept, in_log now.issued now.state b.sound_then number y.0 there due.host due.writer (firsts m due) y.2.0, ap (λ f. length (bytes_of f)) y.2.1.stands.there);
        },
      ))

  whole_long : (n k len : ℕ) → k ≤ n → n ≤ len / 40 → 40 * k ≤ len
  whole_long n k len a b = omega (arith, a, b)

  index_synced : (m : Moment) (s : IsSoundAt m) (events others : List Event) (e : Event) (due : Due) (x : Unit {0}) → events ≡ others ++ e ∷ [] → IsLawful m.state events → e.ask ≡ unbroken (SyncDropping number due.host due.writer false) → kept e.reply ≡ Ok x → IsDueOf number m due
      → StandsInRoom m.state number (AreLogged due.host due.writer (firsts m due)) → IsKeptDue number (moment_after m events) due
  index_synced m s events others e due x split l asked good d logs =
      let before : Moment = moment_after m others in
      let b = ends_with m s events others e split l in
      let now : Moment = next_moment before e in
      let grows : Grows m now = subst (Grows m) b.ends (grows_after m events l s) in
      let d_now : IsDueOf number now due = due_later number m s due d now grows in
      let logged_now : StandsInRoom now.state number (AreLogged due.host due.writer (firsts m due)) =
      subst (λ (n : Moment). StandsInRoom n.state number (AreLogged due.host due.writer (firsts m due))) b.ends
      (stays_on (λ state. StandsInRoom state number (AreLogged due.host due.writer (firsts m due))) (λ k old new other ask reply may step sound f. logged_stays k old new other ask reply may step sound number due.host due.writer (firsts m due) f) m events s l logs) in
      let synced = was_synced before b.sound e due.host due.writer false x b.lawful asked good in
      subst (λ n. IsKeptDue number n due) (sym b.ends)
      (λ some tree told.
      let y = both_stand now.state number (AreLogged due.host due.writer (firsts m due)) (IsSyncedWhole due.host due.writer false) logged_now synced tree told in
      let stood = d_now.stood in
      let same : tree ≡ b.sound_then.shape.tree = one_tree tree b.sound_then.shape.tree now.state.store.tree told b.sound_then.shape.told in
      let r = in_a_room (slice_get b.sound_then.shape.tree.rooms number) (index_path due.host due.writer) stood.bytes (in_tree now b.sound_then number (index_path due.host due.writer) stood.bytes stood.there) in
      let one : y.0 ≡ r.0 = some_room y.0 r.0 tree number y.1 (ap (λ (t : Tree). slice_get t.rooms number) same ∙ r.1) in
      let is : y.2.1.content ≡ stood.bytes = some_bytes y.2.1.content stood.bytes (file_at r.0 (index_path due.host due.writer)) (ap (λ k. file_at k (index_path due.host due.writer)) (sym one) ∙ y.2.1.stands.there) r.2 in
      let landed_so = landed_whole now b.sound_then (its due) stood.is_item in
      let long : 40 * all due ≤ length y.2.1.content =
      whole_long (landed now (its due)) (all due) (length y.2.1.content) d_now.landed (omega (arith, landed_so, ap (λ f. whole (bytes_of f)) stood.there, ap length is)) in
      record {
        room = y.0;
        there = y.1;
        are_kept = record {
          bytes = y.2.1.content;
          has = y.2.1.stands;
          issued_were = omega (arith, d_now.landed, landed_so);
          long = long;
          index = omega (arith, long, y.2.1.kept);
          log = omega (arith, y.2.0.kept, ap logged (same_firsts m now s due d grows));
        };
      })
    where
      some_bytes : (a c : List ℕ) (o : Option (List ℕ)) → o ≡ Some a → o ≡ Some c → a ≡ c
      some_bytes a c o p q = cc

  -- ---- what is kept stays kept

  pub kept_next : (m : Moment) (s : IsSoundAt m) (e : Event) (due : Due) → IsLawful m.state (e ∷ []) → IsKeptDue number m due → IsKeptDue number (next_moment m e) due
  kept_next m s e due l k some tree told =
      step_keeps_kept m.issued m.state e.after e.caller e.ask e.reply (l.0.owes s.clean) l.1 (its_writers m.issued m.state s) tree told number due.host due.writer (all due) (k some s.shape.tree s.shape.told)

  pub kept_on : (m : Moment) (s : IsSoundAt m) (events : List Event) (due : Due) → IsLawful m.state events → IsKeptDue number m due → IsKeptDue number (moment_after m events) due
  kept_on m s [] due l k = k
  kept_on m s (e ∷ events) due l k = kept_on (next_moment m e) (sound_after m (e ∷ []) (l.0, l.1, tt) s) events due l.2 (kept_next m s e due (l.0, l.1, tt) k)

  -- ---- all of them

  module _ (Bad : DrainStuck → Type 0) (bad_fault : Bad (Source stuck.Fault)) (caller : ℕ) (left : DrainsOn) where
    -- what was due of these owners as it began is kept
    pub record HasSynced (os : List Owner) (next : DrainsOn) (m : Moment) (first rest : List Happening) : Type 0 where
      pub kept : (due : Due) → IsDueOf number m due → Among (record { host = due.host; writer = due.writer }) os → IsKeptDue number (source_after m first) due
      pub drives : Drives caller next rest left
      pub none : os ≡ [] → first ≡ []

    spares_sync : (host writer : ℕ) (is_log : Bool) → SparesLogs (SyncDropping number host writer is_log)
    spares_sync host writer is_log from h w at len e = cc

    -- a container in a sound state
    abbrev Now : Moment → List Happening → Type 0
    Now m rest = IsSoundAt m × IsContainerAt m number

    fair_sync : (host writer : ℕ) (is_log : Bool) → IsFairCall Bad SparesLogs caller left (SyncDropping number host writer is_log) kept Now
    fair_sync host writer is_log = record {
      on = λ m e rest other now l. (sound_after m (e ∷ []) l now.0, container_later m (next_moment m e) number (grows_after m (e ∷ []) l now.0) now.1);
      fair = λ m e rest why now l own asked bad. subst Bad (sym (sync_ends why m now.0 e number host writer is_log now.1 l asked bad)) bad_fault;
    }

    -- so it is after a part
    now_then : (m : Moment) → IsSoundAt m → IsContainerAt m number → (store : Stored) (first rest : List Happening) → AreMade m store (first ++ rest) → IsSoundAt (source_after m first) × IsContainerAt (source_after m first) number
    now_then m s container store first rest made =
        let lawful = lawful_events m store first (made_first m store first rest made) in
        subst (λ n. IsSoundAt n × IsContainerAt n number) (sym (source_is m first))
        (sound_after m (events_in first) lawful s, container_later m (moment_after m (events_in first)) number (grows_after m (events_in first) lawful s) container)

    abbrev LogCalled : Owner → DrainsOn → List Happening → List Happening → Type 0
    LogCalled o next first rest = HasCalled Bad SparesLogs caller left (SyncDropping number o.host o.writer true) kept (λ done. syncs_second number o next) first rest

    abbrev IndexCalled : Owner → DrainsOn → List Happening → List Happening → Type 0
    IndexCalled o next first rest = HasCalled Bad SparesLogs caller left (SyncDropping number o.host o.writer false) kept (λ done. next) first rest

    module _ (o : Owner) (next : DrainsOn) (m : Moment) (s : IsSoundAt m) (store : Stored) (a b c : List Happening) (made : AreMade m store (a ++ (b ++ c))) (x : LogCalled o next a (b ++ c)) (y : IndexCalled o next b c) where
      middle : Moment
      middle = moment_after m (events_in a)

      lawful_a : IsLawful m.state (events_in a)
      lawful_a = lawful_events m store a (made_first m store a (b ++ c) made)

      sound : IsSoundAt middle
      unfolding middle
      sound = sound_after m (events_in a) lawful_a s

      lawful_b : IsLawful middle.state (events_in b)
      unfolding middle
      lawful_b = subst (λ (n : Moment). IsLawful n.state (events_in b)) (source_is m a) (lawful_events (source_after m a) (target_after store a) b (made_first (source_after m a) (target_after store a) b c (made_rest m store a (b ++ c) made)))

      last : source_after m (a ++ b) ≡ moment_after middle (events_in b)
      unfolding middle
      last = source_both m a b ∙ ap (λ n. source_after n b) (source_is m a) ∙ source_is (moment_after m (events_in a)) b

      pub both_kept : (due : Due) → IsDueOf number m due → o ≡ record { host = due.host; writer = due.writer } → IsKeptDue number (source_after m (a ++ b)) due
      unfolding middle
      both_kept due d is =
          let n : Moment = moment_after m (events_in a) in
          let logs = log_synced m s (events_in a) x.others x.event due x.told x.split lawful_a (x.asked ∙ ap (λ (k : Owner). unbroken (SyncDropping number k.host k.writer true)) is) x.good d in
          let grows : Grows m n = grows_after m (events_in a) lawful_a s in
          let there : StandsInRoom n.state number (AreLogged due.host due.writer (firsts n due)) = subst (λ es. StandsInRoom n.state number (AreLogged due.host due.writer es)) (sym (same_firsts m n s due d grows)) logs in
          subst (λ k. IsKeptDue number k due) (sym last)
          (index_synced n sound (events_in b) y.others y.event due y.told y.split lawful_b (y.asked ∙ ap (λ (k : Owner). unbroken (SyncDropping number k.host k.writer false)) is) y.good (due_later number m s due d n grows) there)

    -- both droppings of one
    one_synced : (o : Owner) (next : DrainsOn) (m : Moment) (s : IsSoundAt m) (container : IsContainerAt m number) (store : Stored) (happened : List Happening) → AreMade m store happened → Drives caller (syncs number (o ∷ []) next) happened left → Passes Bad SparesLogs caller left (HasSynced (o ∷ []) next m) happened
    one_synced o next m s container store happened made drives =
        pass_on Bad SparesLogs caller left (LogCalled o next) (HasSynced (o ∷ []) next m) happened
        (passes_call Bad SparesLogs caller left (SyncDropping number o.host o.writer true) kept (λ done. syncs_second number o next) Now m store happened (fair_sync o.host o.writer true) (s, container) (spares_sync o.host o.writer true) made drives)
        (λ a rest e i x.
        let both : AreMade m store (a ++ rest) = subst (AreMade m store) e made in
        pass_or Bad SparesLogs caller left (IndexCalled o next) (λ b c. HasSynced (o ∷ []) next m (a ++ b) c) rest
        (λ b c f j y. inl (record {
          kept = λ due d among. both_kept o next m s store a b c (subst (λ r. AreMade m store (a ++ r)) f both) (subst (LogCalled o next a) f x) y due d (only_one (record { host = due.host; writer = due.writer }) o among);
          drives = y.drives;
          none = λ e. absurd (cc);
        }))
        (passes_call Bad SparesLogs caller left (SyncDropping number o.host o.writer false) kept (λ done. next) Now (source_after m a) (target_after store a) rest (fair_sync o.host o.writer false) (now_then m s container store a rest both) (spares_sync o.host o.writer false) (made_rest m store a rest both) x.drives))
      where
        only_one : (k o : Owner) → Among k (o ∷ []) → o ≡ k
        only_one k o (inl same) = sym same
        only_one k o (inr none) = absurd none

    pub all_synced : (os : List Owner) (next : DrainsOn) (m : Moment) (s : IsSoundAt m) (container : IsContainerAt m number) (store : Stored) (happened : List Happening) → AreMade m store happened → Drives caller (syncs number os next) happened left → Passes Bad SparesLogs caller left (HasSynced os next m) happened
    all_synced [] next m s container store happened made drives = goes [] happened refl tt (record { kept = λ due d among. absurd among; drives = drives; none = λ e. refl })
    all_synced (o ∷ os) next m s container store happened made drives =
        pass_on Bad SparesLogs caller left (HasSynced (o ∷ []) (syncs number os next) m) (HasSynced (o ∷ os) next m) happened
        (one_synced o (syncs number os next) m s container store happened made drives)
        (λ a rest e i x.
        let both : AreMade m store (a ++ rest) = subst (AreMade m store) e made in
        let now = now_then m s container store a rest both in
        let sound : IsSoundAt (source_after m a) = now.0 in
        pass_or Bad SparesLogs caller left (HasSynced os next (source_after m a)) (λ b c. HasSynced (o ∷ os) next m (a ++ b) c) rest
        (λ b c f j y.
        let all_made : AreMade m store (a ++ (b ++ c)) = subst (λ r. AreMade m store (a ++ r)) f both in
        let lawful_b = lawful_events (source_after m a) (target_after store a) b (made_first (source_after m a) (target_after store a) b c (made_rest m store a (b ++ c) all_made)) in
        let last : source_after m (a ++ b) ≡ moment_after (source_after m a) (events_in b) = source_both m a b ∙ source_is (source_after m a) b in
        inl (record {
          kept = λ due d among. elim among as (λ _. IsKeptDue number (source_after m (a ++ b)) due) [
            | inl same ↦ subst (λ n. IsKeptDue number n due) (sym last) (kept_on (source_after m a) sound (events_in b) due lawful_b (x.kept due d (inl same)))
            | inr more ↦ subst (λ n. IsKeptDue number n due) (sym (source_both m a b)) (y.kept due (due_later number m s due d (source_after m a) (grows_then m s store a rest both)) more)
          ];
          drives = y.drives;
          none = λ g. absurd (cc);
        }))
        (all_synced os next (source_after m a) sound now.1 (target_after store a) rest (made_rest m store a rest both) x.drives))
      where
        grows_then : (m : Moment) → IsSoundAt m → (store : Stored) (first rest : List Happening) → AreMade m store (first ++ rest) → Grows m (source_after m first)
        grows_then m s store first rest made = subst (Grows m) (sym (source_is m first)) (grows_after m (events_in first) (lawful_events m store first (made_first m store first rest made)) s)
