-- Who drives a drain comes to its source being gathered, or stops before that having changed nothing.
use Rattle.std.proofs.Common.{◌≡◌, ◌⊎◌, ℕ, List, [], ◌∷◌, ◌++◌, Option, Some, None, ap, sym, ◌∙◌, inl, inr, subst, append_assoc}
use Rattle.std.specs.Prelude.{Result, Ok, Err}
use Rattle.store_api.specs.declared.tree.Room.{Room}
use Rattle.store_api.specs.declared.tree.Tree.{Tree}
use Rattle.store_api.specs.Acts.{Stored}
use Rattle.store_api.specs.Step.{find_room}
use Rattle.turn_object.specs.Callers.{made_by}
use Rattle.mount_model.specs.declared.call.Call.TheVariants.{Find}
use Rattle.mount_model.specs.History.{Event}
use Rattle.mount_model.specs.Paths.{Name}
use Rattle.mount_sound.specs.Owed.{IsLawful}
use Rattle.mount_model.specs.declared.stuck.Stuck.{Stuck}
use Rattle.mount_model.specs.declared.stuck.Stuck.TheVariants as stuck
use Rattle.mount_model.specs.Running.{Runs}
use Rattle.mount_model.proofs.Stories.Facts.{entries_not_first}
use Rattle.reader_laws.specs.Moments.{Grows, IsSoundAt, Moment, moment_after, next_moment}
use Rattle.reader_laws.proofs.Gathered.Facts.{grows_after, grows_refl, grows_trans, legal_first, legal_rest, moment-append, sound_after}
use Rattle.reader_laws.specs.Failing.{IsContainerAt}
use Rattle.reader_laws.proofs.Facts.{container_later}
use Rattle.drain_read.specs.declared.held.Held.{Held}
use Rattle.drain_read.specs.declared.read.Contained.{Contained}
use Rattle.drain_read.specs.Holding.{held_program}
use Rattle.drain_read.specs.Reading.{contained_program}
use Rattle.drain_copy.specs.declared.outcome.DrainStuck.{DrainStuck}
use Rattle.drain_copy.specs.declared.outcome.DrainStuck.TheVariants.{Source}
use Rattle.drain_copy.specs.Draining.{drain_program, finds_source, gathers, if_gathered, if_held, known_at, reads_target, works_on}
use Rattle.drain_copy.specs.Planning.{nothing_held}
use Rattle.drain_copy.specs.Telling.{DrainsOn, folder_alone, found_room, sought, stuck_there, told_well}
use Rattle.drain_sound.specs.Draining.{Happening, source_after, target_after}
use Rattle.drain_sound.specs.Fronts.{IsTarget}
use Rattle.drain_sound.specs.Steps.{IsNamedRoom}
use Rattle.drain_sound.proofs.Facts.{target_lasts}
use Rattle.drain_laws.specs.Driving.{AreMade, Drives, FindsRoom}
use Rattle.drain_laws.specs.Gathered.{HasGathered, began_at, events_in, listed_at}
use Rattle.drain_laws.specs.Resting.{SparesAll}
use Rattle.drain_laws.proofs.Courses.Sought.{HaltsBy, IsSought, finds_so, found_so, search_told, sought_fair}
use Rattle.drain_laws.proofs.Driving.Happened.{IsIdle, events_both, finds_rest, idle_tree, lawful_events, made_first, made_rest, source_both, source_is}
use Rattle.drain_laws.proofs.Reading.Held.{held_so}
use Rattle.drain_laws.proofs.Driving.Passing.{HasCalled, HasRun, HasSeen, HasTold, IsFairCall, IsUnfinished, Passes, Sees, ended_badly, none_both, pass_on, pass_or, passes_call, passes_calls, passes_look, passes_looks, stops}
use Rattle.drain_laws.proofs.Planning.Known.{known_covers}
use Rattle.drain_laws.proofs.Planning.Unrefused.{find_ends, found_container}
use Rattle.drain_laws.proofs.Reading.Failing.{contained_fails}
use Rattle.drain_laws.proofs.Reading.Undamaged.{held_fails}
use Rattle.drain_laws.proofs.Planning.Plan.{Knows, knows_held, knows_nothing}
use Rattle.drain_laws.proofs.Reading.Read.{HasContained, HasReadContainer, contained_run}
use Rattle.drain_laws.proofs.Reading.Sparing.{spares_contained, spares_find}

module _ (caller number : ℕ) (name : Name) (source : Moment) (s : IsSoundAt source) (t : Tree) (target : IsTarget source number name t) (left : DrainsOn) where
  -- ---- the source after a part

  module _ (store : Stored) (first rest : List Happening) (made : AreMade source store (first ++ rest)) where
    lawful_then : IsLawful source.state (events_in first)
    lawful_then = lawful_events source store first (made_first source store first rest made)

    pub sound_then : IsSoundAt (source_after source first)
    sound_then = subst IsSoundAt (sym (source_is source first)) (sound_after source (events_in first) lawful_then s)

    pub grows_then : Grows source (source_after source first)
    grows_then = subst (Grows source) (sym (source_is source first)) (grows_after source (events_in first) lawful_then s)

    pub target_then : IsTarget (source_after source first) number name t
    target_then = subst (λ x. IsTarget x number name t) (sym (source_is source first)) (target_lasts source number name t (events_in first) lawful_then s target)

  -- ---- what is read

  -- The source was gathered past what the target has, and this is left to do.
  pub record HasRead (first rest : List Happening) : Type 0 where
    pub gathered : HasGathered caller number (events_in first)
    pub begin : Moment
    pub began : Grows (began_at source gathered) begin
    pub listing_sound : IsSoundAt (listed_at source gathered)
    pub since : Grows (listed_at source gathered) (source_after source first)
    pub its_target : IsTarget (listed_at source gathered) number name t
    pub held : Held
    pub moment : Moment
    pub sound : IsSoundAt moment
    pub then_target : IsTarget moment number name t
    pub begun : Grows source moment
    pub knows : Knows moment sound number name t then_target held
    pub before : Grows moment begin
    pub grows : Grows begin (listed_at source gathered)
    pub contained : Contained
    pub contains : HasContained caller (known_at held number) begin (listed_at source gathered) contained
    pub drives : Drives caller (works_on name held contained) rest left

  -- what the target was found to have, at this moment
  pub record HasHeldIt (first : List Happening) : Type 0 where
    pub waits : made_by caller (events_in first) ≡ []
    pub held : Held
    pub moment : Moment
    pub sound : IsSoundAt moment
    pub its_target : IsTarget moment number name t
    pub begun : Grows source moment
    pub since : Grows moment (source_after source first)
    pub knows : Knows moment sound number name t its_target held

  module _ (store : Stored) (happened : List Happening) (told : store.tree ≡ Some t) (made : AreMade source store happened) (finds : FindsRoom caller number happened) where
    abbrev Bad : DrainStuck → Type 0
    Bad why = HaltsBy caller name source happened why

    abbrev Pass : (List Happening → List Happening → Type 0) → List Happening → Type 0
    Pass Behind hs = Passes Bad SparesAll caller left Behind hs

    -- ---- until the source is sought

    -- these calls were others', and these happenings are left
    record IsBefore (m : Moment) (rest : List Happening) : Type 0 where
      before : List Event
      at : m ≡ moment_after source before
      split : events_in happened ≡ before ++ events_in rest
      none : made_by caller before ≡ []
      sound : IsSoundAt m

    fair_find : IsFairCall Bad SparesAll caller left (Find name) found_room IsBefore
    fair_find = record {
      on = λ m e rest other now l. record {
        before = now.before ++ e ∷ [];
        at = ap (λ k. next_moment k e) now.at ∙ sym (moment-append source now.before (e ∷ []));
        split = now.split ∙ sym (append_assoc now.before (e ∷ []) (events_in rest));
        none = none_both caller now.before (e ∷ []) now.none (entries_not_first caller e [] other);
        sound = sound_after m (e ∷ []) l now.sound;
      };
      fair = λ m e rest why now l own asked bad. elim (find_ends m now.sound e name l asked why bad) as (λ _. Bad why) [
        | inl is ↦ subst Bad (sym is) tt
        | inr (is, free) ↦ subst Bad (sym is) (record {
          before = now.before;
          first = e;
          later = events_in rest;
          split = now.split;
          none_before = now.none;
          by_caller = own;
          tree = now.sound.shape.tree;
          told = ap (λ (k : Moment). k.state.store.tree) (sym now.at) ∙ now.sound.shape.told;
          free = free;
        })
      ];
    }

    -- ---- the container is read

    module _ (a b d last : List Happening) (e : happened ≡ a ++ (b ++ (d ++ last))) (x : HasHeldIt a) (y : HasCalled Bad SparesAll caller left (Find name) found_room (gathers name x.held) b (d ++ last)) where
      all_made : AreMade source store (a ++ (b ++ (d ++ last)))
      all_made = subst (AreMade source store) e made

      ab_made : AreMade source store ((a ++ b) ++ (d ++ last))
      ab_made = subst (AreMade source store) (sym (append_assoc a b (d ++ last))) all_made

      begin : Moment
      begin = source_after source (a ++ b)

      before_find : List Event
      before_find = events_in a ++ y.others

      events_ab : events_in (a ++ b) ≡ before_find ++ y.event ∷ []
      unfolding before_find
      events_ab = events_both a b ∙ ap (λ l. events_in a ++ l) y.split ∙ sym (append_assoc (events_in a) y.others (y.event ∷ []))

      begin_is : begin ≡ next_moment (moment_after source before_find) y.event
      unfolding begin before_find
      begin_is = source_is source (a ++ b) ∙ ap (moment_after source) events_ab ∙ moment-append source (events_in a ++ y.others) (y.event ∷ [])

      lawful_ab : IsLawful source.state (before_find ++ y.event ∷ [])
      lawful_ab = subst (IsLawful source.state) events_ab (lawful_then store (a ++ b) (d ++ last) ab_made)

      sound_before : IsSoundAt (moment_after source before_find)
      sound_before = sound_after source before_find (legal_first source before_find (y.event ∷ []) lawful_ab) s

      began_so : Grows (moment_after source before_find) begin
      began_so = subst (Grows (moment_after source before_find)) (sym begin_is) (grows_after (moment_after source before_find) (y.event ∷ []) (legal_rest source before_find (y.event ∷ []) lawful_ab) sound_before)

      begin_sound : IsSoundAt begin
      unfolding begin
      begin_sound = sound_then store (a ++ b) (d ++ last) ab_made

      lawful_d : IsLawful begin.state (events_in d)
      unfolding begin
      lawful_d = lawful_events (source_after source (a ++ b)) (target_after store (a ++ b)) d (made_first (source_after source (a ++ b)) (target_after store (a ++ b)) d last (made_rest source store (a ++ b) (d ++ last) ab_made))

      to_begin : Grows x.moment begin
      unfolding begin
      to_begin =
          let b_made = made_first (source_after source a) (target_after store a) b (d ++ last) (made_rest source store a (b ++ (d ++ last)) all_made) in
          let sound_a = sound_then store a (b ++ (d ++ last)) all_made in
          let ends : source_after source (a ++ b) ≡ moment_after (source_after source a) (events_in b) = source_both source a b ∙ source_is (source_after source a) b in
          grows_trans x.moment (source_after source a) (source_after source (a ++ b)) x.since (subst (Grows (source_after source a)) (sym ends) (grows_after (source_after source a) (events_in b) (lawful_events (source_after source a) (target_after store a) b b_made) sound_a))

      -- the room that was found is a container
      room_is : y.told ≡ number
      unfolding before_find
      room_is =
          let split : events_in happened ≡ (events_in a ++ y.others) ++ y.event ∷ events_in (d ++ last) =
          ap events_in (e ∙ sym (append_assoc a b (d ++ last))) ∙ events_both (a ++ b) (d ++ last) ∙ ap (λ l. l ++ events_in (d ++ last)) events_ab ∙ append_assoc (events_in a ++ y.others) (y.event ∷ []) (events_in (d ++ last)) in
          finds_so caller number happened (events_in a ++ y.others) (events_in (d ++ last)) y.event finds split y.own y.told (found_so y.event.reply y.told y.good)

      container : IsContainerAt begin number
      unfolding begin before_find
      container =
          let before : Moment = moment_after source (events_in a ++ y.others) in
          container_later before (source_after source (a ++ b)) number began_so
          (subst (IsContainerAt before) room_is (found_container before sound_before y.event name (legal_rest source (events_in a ++ y.others) (y.event ∷ []) lawful_ab) y.asked y.told y.good))

      -- so it is read past what the target has, unless the store fails
      pub gather_fails : (why : Stuck) → Runs caller (contained_program (known_at x.held number)) (events_in d) (Err why) → why ≡ stuck.Fault
      unfolding begin
      gather_fails why runs =
          (contained_fails caller (known_at x.held number) x.moment (λ k sound grows its stood. known_covers x.moment x.sound number name t x.its_target x.held x.knows k sound grows its.host its.writer stood)
          (source_after source (a ++ b)) (events_in d) why to_begin begin_sound container lawful_d runs).0

      module _ (contained : Contained) (runs : Runs caller (contained_program (known_at x.held number)) (events_in d) (Ok contained)) (drives : Drives caller (works_on name x.held contained) last left) where
        read : HasReadContainer caller (known_at x.held number) begin (events_in d) contained
        read = contained_run caller (known_at x.held number) begin (events_in d) contained begin_sound lawful_d runs

        gathered_so : HasGathered caller number (events_in (a ++ (b ++ d)))
        unfolding before_find
        gathered_so = record {
          before = events_in a ++ y.others;
          first = y.event;
          between = read.before;
          listing = read.listing;
          later = read.later;
          split = ap events_in (sym (append_assoc a b d)) ∙ events_both (a ++ b) d ∙ (λ i. events_ab i ++ read.split i) ∙ append_assoc (events_in a ++ y.others) (y.event ∷ []) (read.before ++ read.listing ∷ read.later);
          none_before = none_both caller (events_in a) y.others x.waits y.waits;
          by_caller = y.own;
          listed_by = read.listed_by;
          lists = read.lists;
        }

        -- the moment of the listing, counted from the Find's
        listing_is : listed_at source gathered_so ≡ moment_after begin read.before
        unfolding before_find gathered_so
        listing_is = ap (λ (k : Moment). moment_after k read.before) (sym begin_is)

        lawful_listing : IsLawful begin.state (read.before ++ read.listing ∷ read.later)
        lawful_listing = subst (IsLawful begin.state) read.split lawful_d

        sound_listing : IsSoundAt (moment_after begin read.before)
        sound_listing = sound_after begin read.before (legal_first begin read.before (read.listing ∷ read.later) lawful_listing) begin_sound

        goes_on : Grows (moment_after begin read.before) (source_after source (a ++ (b ++ d)))
        unfolding begin
        goes_on =
            let n : Moment = moment_after (source_after source (a ++ b)) read.before in
            let ends : source_after source (a ++ (b ++ d)) ≡ moment_after n (read.listing ∷ read.later) =
            ap (source_after source) (sym (append_assoc a b d)) ∙ source_both source (a ++ b) d ∙ source_is (source_after source (a ++ b)) d ∙ ap (moment_after (source_after source (a ++ b))) read.split ∙ moment-append (source_after source (a ++ b)) read.before (read.listing ∷ read.later) in
            subst (Grows n) (sym ends) (grows_after n (read.listing ∷ read.later) (legal_rest (source_after source (a ++ b)) read.before (read.listing ∷ read.later) lawful_listing) sound_listing)

        target_listing : IsTarget (moment_after begin read.before) number name t
        unfolding begin
        target_listing = target_lasts (source_after source (a ++ b)) number name t read.before (legal_first (source_after source (a ++ b)) read.before (read.listing ∷ read.later) lawful_listing) begin_sound (target_then store (a ++ b) (d ++ last) ab_made)

        pub read_so : HasRead (a ++ (b ++ d)) last
        unfolding gathered_so before_find
        read_so = record {
          gathered = gathered_so;
          begin = begin;
          began = began_so;
          listing_sound = subst IsSoundAt (sym listing_is) sound_listing;
          since = subst (λ k. Grows k (source_after source (a ++ (b ++ d)))) (sym listing_is) goes_on;
          its_target = subst (λ k. IsTarget k number name t) (sym listing_is) target_listing;
          held = x.held;
          moment = x.moment;
          sound = x.sound;
          then_target = x.its_target;
          begun = x.begun;
          knows = x.knows;
          before = to_begin;
          grows = subst (Grows begin) (sym listing_is) (grows_after begin read.before (legal_first begin read.before (read.listing ∷ read.later) lawful_listing) begin_sound);
          contained = contained;
          contains = subst (λ k. HasContained caller (known_at x.held number) begin k contained) (sym listing_is) read.has;
          drives = drives;
        }

    -- ---- the source is sought and read

    after_held : (a rest : List Happening) → happened ≡ a ++ rest → (x : HasHeldIt a) → Drives caller (finds_source name x.held) rest left → Pass (λ first last. HasRead (a ++ first) last) rest
    after_held a rest e x drives =
        let both : AreMade source store (a ++ rest) = subst (AreMade source store) e made in
        let made_on = made_rest source store a rest both in
        pass_on Bad SparesAll caller left (HasCalled Bad SparesAll caller left (Find name) found_room (gathers name x.held)) (λ first last. HasRead (a ++ first) last) rest
        (passes_call Bad SparesAll caller left (Find name) found_room (gathers name x.held) IsBefore (source_after source a) (target_after store a) rest fair_find
        (record { before = events_in a; at = source_is source a; split = ap events_in e ∙ events_both a rest; none = x.waits; sound = sound_then store a rest both }) (spares_find name) made_on drives)
        (λ b c f j y.
        let made_c = made_rest (source_after source a) (target_after store a) b c (subst (AreMade (source_after source a) (target_after store a)) f made_on) in
        let finds_b : FindsRoom caller number (b ++ c) = finds_rest caller number a (b ++ c) (subst (FindsRoom caller number) (e ∙ ap (λ l. a ++ l) f) finds) in
        let room_is : y.told ≡ number = finds_so caller number (b ++ c) y.others (events_in c) y.event finds_b (events_both b c ∙ ap (λ l. l ++ events_in c) y.split ∙ append_assoc y.others (y.event ∷ []) (events_in c)) y.own y.told (found_so y.event.reply y.told y.good) in
        pass_or Bad SparesAll caller left (HasRun Bad SparesAll caller left (contained_program (known_at x.held number)) (if_gathered name x.held)) (λ first last. HasRead (a ++ (b ++ first)) last) c
        (λ d last g k z.
        let made_last = made_rest (source_after (source_after source a) b) (target_after (target_after store a) b) d last (subst (AreMade (source_after (source_after source a) b) (target_after (target_after store a) b)) g made_c) in
        by_out a b d last (e ∙ ap (λ l. a ++ l) (f ∙ ap (λ l. b ++ l) g)) x (subst (HasCalled Bad SparesAll caller left (Find name) found_room (gathers name x.held) b) g y) (source_after (source_after (source_after source a) b) d) (target_after (target_after (target_after store a) b) d) made_last z.0 z.1 z.2)
        (passes_calls Bad SparesAll caller left (contained_program (known_at x.held number)) (if_gathered name x.held) (source_after (source_after source a) b) (target_after (target_after store a) b) c (spares_contained (known_at x.held number)) made_c
        (subst (λ r. Drives caller (gathers name x.held r) c left) room_is y.drives)))
      where
        by_out : (a b d last : List Happening) → happened ≡ a ++ (b ++ (d ++ last)) → (x : HasHeldIt a) → HasCalled Bad SparesAll caller left (Find name) found_room (gathers name x.held) b (d ++ last) → (m : Moment) (its : Stored) → AreMade m its last
            → (out : Result Contained Stuck) → Runs caller (contained_program (known_at x.held number)) (events_in d) out → Drives caller (if_gathered name x.held out) last left → HasRead (a ++ (b ++ d)) last ⊎ (IsIdle SparesAll caller last × IsUnfinished Bad left)
        by_out a b d last e x y m its made_last (Err why) runs drives = inr (ended_badly Bad SparesAll caller left (Source why) m its last (subst (λ w. Bad (Source w)) (sym (gather_fails a b d last e x y why runs)) tt) made_last drives)
        by_out a b d last e x y m its made_last (Ok contained) runs drives = inl (read_so a b d last e x y contained runs drives)

    -- ---- the target is sought and read

    after_sought : (a rest : List Happening) → happened ≡ a ++ rest → IsIdle SparesAll caller a → made_by caller (events_in a) ≡ [] → (found : Option ℕ) → IsSought name t found → Drives caller (reads_target name found) rest left → Pass (λ first last. HasRead (a ++ first) last) rest
    after_sought a rest e i waits None free drives =
        let both : AreMade source store (a ++ rest) = subst (AreMade source store) e made in
        let sound = sound_then store a rest both in
        let its_target = target_then store a rest both in
        after_held a rest e (record {
          waits = waits;
          held = nothing_held;
          moment = source_after source a;
          sound = sound;
          its_target = its_target;
          begun = grows_then store a rest both;
          since = grows_refl (source_after source a);
          knows = knows_nothing (source_after source a) sound number name t its_target free;
        }) drives
    after_sought a rest e i waits (Some n) (room, at) drives =
        let both : AreMade source store (a ++ rest) = subst (AreMade source store) e made in
        let made_on = made_rest source store a rest both in
        let here : (target_after store a).tree ≡ Some t = idle_tree caller SparesAll source store t a i (made_first source store a rest both) told in
        let sound = sound_then store a rest both in
        let its_target = target_then store a rest both in
        pass_on Bad SparesAll caller left (HasSeen Bad SparesAll caller left t (held_program n) (if_held name)) (λ first last. HasRead (a ++ first) last) rest
        (passes_looks Bad SparesAll caller left (held_program n) (if_held name) (source_after source a) (target_after store a) t rest here made_on drives)
        (λ b c f j y.
        let made_c = made_rest (source_after source a) (target_after store a) b c (subst (AreMade (source_after source a) (target_after store a)) f made_on) in
        by_out a b c (e ∙ ap (λ l. a ++ l) f) waits n room at sound its_target (grows_then store a rest both)
        (made_first (source_after source a) (target_after store a) b c (subst (AreMade (source_after source a) (target_after store a)) f made_on)) made_c y.0 y.1 y.2 y.3)
      where
        by_out : (a b c : List Happening) → happened ≡ a ++ (b ++ c) → made_by caller (events_in a) ≡ [] → (n : ℕ) (room : Room) → IsNamedRoom t n name room → (sound : IsSoundAt (source_after source a)) (its_target : IsTarget (source_after source a) number name t) → Grows source (source_after source a)
            → AreMade (source_after source a) (target_after store a) b → AreMade (source_after (source_after source a) b) (target_after (target_after store a) b) c
            → (out : Result Held Stuck) → made_by caller (events_in b) ≡ [] → Sees t (held_program n) out → Drives caller (if_held name out) c left → Pass (λ first last. HasRead (a ++ (b ++ first)) last) c
        by_out a b c e waits n room at sound its_target begun made_b made_c (Err why) none sees drives =
            let fault = held_fails (source_after source a) sound number name t its_target n room at why sees in
            let bad = ended_badly Bad SparesAll caller left (stuck_there why) (source_after (source_after source a) b) (target_after (target_after store a) b) c (subst (λ w. Bad (stuck_there w)) (sym fault) tt) made_c drives in
            stops bad.0 bad.1
        by_out a b c e waits n room at sound its_target begun made_b made_c (Ok held) none sees drives =
            let ends : source_after source (a ++ b) ≡ moment_after (source_after source a) (events_in b) = source_both source a b ∙ source_is (source_after source a) b in
            pass_or Bad SparesAll caller left (λ first last. HasRead ((a ++ b) ++ first) last) (λ first last. HasRead (a ++ (b ++ first)) last) c (λ first last f k z. inl (subst (λ l. HasRead l last) (append_assoc a b first) z))
            (after_held (a ++ b) c (e ∙ sym (append_assoc a b c)) (record {
              waits = ap (made_by caller) (events_both a b) ∙ none_both caller (events_in a) (events_in b) waits none;
              held = held;
              moment = source_after source a;
              sound = sound;
              its_target = its_target;
              begun = begun;
              since = subst (Grows (source_after source a)) (sym ends) (grows_after (source_after source a) (events_in b) (lawful_events (source_after source a) (target_after store a) b made_b) sound);
              knows = knows_held (source_after source a) sound number name t its_target n room at held (held_so (source_after source a) sound number name t its_target n room at held sees);
            }) drives)

    pub comes : Drives caller (drain_program name) happened left → Pass HasRead happened
    comes drives =
        pass_on Bad SparesAll caller left (HasTold Bad SparesAll caller left t (find_room name) (told_well (folder_alone []) sought) (reads_target name)) HasRead happened
        (passes_look Bad SparesAll caller left (find_room name) (told_well (folder_alone []) sought) (reads_target name) source store t happened (λ o why tells e. subst Bad (sym (sought_fair name t t o why tells e)) tt) tt told made drives)
        (λ a rest e i x. after_sought a rest e i x.2 x.1 (search_told name t t x.0 x.1 x.3 x.4) x.5)
