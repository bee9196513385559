-- What the line of a recovery shows, told of the whole stretch of its statement.
use Rattle.std.proofs.Common.{◌≡◌, ℕ, true, false, Bool, inl, inr, ◌⊎◌, List, [], ◌∷◌, ◌++◌, Option, Some, None, Result, Ok, Err, refl, sym, ap, ◌∙◌, subst, append_assoc}
use Rattle.std.specs.Prelude.{if◌then◌else◌}
use Rattle.std.specs.List.{All, AllByRecursion, Any}
use Rattle.std.proofs.lemmas.List.{append-nil}
use Rattle.std.proofs.lemmas.List.Elements.{All-from_recursion}
use Rattle.plfs_types.specs.declared.entries.WriterCount.{WriterCount}
use Rattle.plain_file.proofs.Facts.{Among}
use Rattle.store_api.specs.declared.step.Answer.TheVariants.{Names, NoFolder}
use Rattle.mount_model.specs.declared.call.Ask.{Ask}
use Rattle.mount_model.specs.declared.call.Call.TheVariants.{Find, Look, MendHold}
use Rattle.mount_model.specs.declared.call.Look.TheVariants.{List as ListFolder}
use Rattle.mount_model.specs.declared.reply.Reply.{Reply}
use Rattle.mount_model.specs.declared.reply.Reply.TheVariants.{Looked, Mended, Room}
use Rattle.mount_model.specs.History.{Event}
use Rattle.mount_model.specs.Paths.{Name}
use Rattle.container_layout.specs.Paths.{openhosts}
use Rattle.mount_model.specs.Step.{IsStep}
use Rattle.mount_sound.specs.Owed.{IsLawful, IsNotLive}
use Rattle.mount_model.specs.declared.stuck.Stuck.{Stuck}
use Rattle.mount_model.specs.Running.{Runs, unbroken}
use Rattle.mount_model.proofs.Flows.Facts.{runs_in_two}
use Rattle.mount_model.specs.declared.names.OpenEntry.{OpenEntry}
use Rattle.mount_model.specs.FlowListed.{file_in, or_trouble, told_by}
use Rattle.mount_model.specs.Names.{open_in}
use Rattle.mount_model.specs.Order.{entries_by_writer}
use Rattle.mount_model.specs.Program.{done}
use Rattle.mount_model.specs.FlowReplies.{Tries, failure, given, is_no_folder, names_in, on_ok, room_in, trouble}
use Rattle.torn_tail.specs.declared.recovering.Recovered.{Recovered}
use Rattle.torn_tail.specs.Recovering.{entries_named, hold_mended, lists_open, mends_hold, noted, nothing, recover_program, recovers, recovers_listed}
use Rattle.torn_tail.specs.Writers.{writer_program}
use Rattle.reader_laws.specs.Moments.{IsSoundAt, Moment, landed, moment_after}
use Rattle.reader_laws.proofs.Gathered.Facts.{folder_listed, found_any, legal_first, legal_rest, sound_after}
use Rattle.reader_laws.proofs.Facts.{answered, first_of}
use Rattle.look_laws.proofs.Facts.{AreOf, all_told}
use Rattle.headline_laws.specs.Changing.{IsAnswered}
use Rattle.reader_laws.specs.Naming.{IsRoomNamed}
use Rattle.headline_laws.specs.Opening.{Stretch}
use Rattle.headline_laws.specs.Recovering.{AreTold, Burial, IsBuried, IsFoundLive, IsLive, RecoversFile, RecoversHold, RecoversWriters}
use Rattle.headline_laws.proofs.Plays.Holds.Changes.{one_moment, then_moment}
use Rattle.headline_laws.proofs.Plays.Callers.Finding.{name_found}
use Rattle.headline_laws.proofs.Plays.Holds.Held.{alone, answered_so, found_room, its_step, went_on}
use Rattle.headline_laws.proofs.Plays.DeadWriters.OpenWriters.{Adds, AreToldBehind, IsListed, entries_listed, none_more, one_more, open_writers, writers_of}
use Rattle.headline_laws.proofs.Plays.DeadWriters.Recovered.{EndsSo, writer_so}

module _ (start : Moment) (n : ℕ) (before events : List Event) where
  abbrev Whole : Stretch
  Whole = record { before = before; events = events }

  abbrev At : List Event → Moment
  At first = moment_after start (before ++ first)

  -- a place in the stretch
  record Place (first rest : List Event) : Type 0 where
    pub here : events ≡ first ++ rest
    pub lawful : IsLawful (At first).state rest
    pub sound : IsSoundAt (At first)

  place_is : (first rest other : List Event) → rest ≡ other → Place first rest → Place first other
  place_is first rest other is p = subst (Place first) is p

  place_on : (first more rest : List Event) → Place first (more ++ rest) → Place (first ++ more) rest
  place_on first more rest p = record {
    here = p.here ∙ sym (append_assoc first more rest);
    lawful = subst (λ (m : Moment). IsLawful m.state rest) (then_moment start before first more) (legal_rest (At first) more rest p.lawful);
    sound = subst IsSoundAt (then_moment start before first more) (sound_after (At first) more (legal_first (At first) more rest p.lawful) p.sound);
  }

  -- behind a call, and what others called before it
  place_called : (first rest between : List Event) (event : Event) (later : List Event) → rest ≡ between ++ event ∷ later → Place first rest → Place ((first ++ between) ++ event ∷ []) later
  place_called first rest between event later is p = place_on (first ++ between) (event ∷ []) later (place_on first between (event ∷ later) (place_is first rest (between ++ event ∷ later) is p))

  module _ (room : ℕ) (names : List Name) where
    abbrev IsOut : WriterCount → Type 0
    IsOut told = IsBuried start n Whole room names told

    abbrev IsOn : ℕ → Type 0
    IsOn writer = IsFoundLive start n Whole writer

    -- who was buried in a part of the stretch was buried in it
    out_there : (first mine after : List Event) → events ≡ first ++ (mine ++ after) → (told : WriterCount) → IsBuried (At first) n (alone mine) room names told → IsOut told
    out_there first mine after here told x =
        let b : Burial = x.burial in
        let tail : List Event = b.more ++ b.burying ∷ b.later in
        record {
          burial = record { host = b.host; earlier = first ++ b.earlier; inspecting = b.inspecting; between = b.between; more = b.more; burying = b.burying; later = b.later ++ after };
          split = here
              ∙ ap (λ z. first ++ (z ++ after)) x.split
              ∙ ap (λ z. first ++ z) (append_assoc b.earlier (b.inspecting ∷ b.between ++ tail) after ∙ ap (λ z. b.earlier ++ (b.inspecting ∷ z)) (append_assoc b.between tail after ∙ ap (λ z. b.between ++ z) (append_assoc b.more (b.burying ∷ b.later) after)))
              ∙ sym (append_assoc first b.earlier (b.inspecting ∷ b.between ++ (b.more ++ b.burying ∷ (b.later ++ after))));
          listed = x.listed;
          inspects = x.inspects;
          dead = subst (λ (m : Moment). IsNotLive m.state told.writer) (then_moment start before first b.earlier) x.dead;
          counted = subst (λ m. landed m (record { room = room; host = b.host; writer = told.writer }) ≡ told.count) (one_moment start before first b.earlier (b.inspecting ∷ b.between)) x.counted;
          buries = x.buries;
          gone = x.gone;
        }

    on_there : (first mine after : List Event) → events ≡ first ++ (mine ++ after) → (writer : ℕ) → IsFoundLive (At first) n (alone mine) writer → IsOn writer
    on_there first mine after here writer x = record {
      earlier = first ++ x.earlier;
      inspecting = x.inspecting;
      later = x.later ++ after;
      split = here ∙ ap (λ z. first ++ (z ++ after)) x.split ∙ ap (λ z. first ++ z) (append_assoc x.earlier (x.inspecting ∷ x.later) after) ∙ sym (append_assoc first x.earlier (x.inspecting ∷ (x.later ++ after)));
      inspects = x.inspects;
      live = subst (λ (m : Moment). IsLive m.state writer) (then_moment start before first x.earlier) x.live;
    }

    abbrev Ends : List OpenEntry → Recovered → Result Recovered Stuck → Type 0
    Ends entries sofar (Ok r) = AreToldBehind IsOut IsOn (writers_of entries) sofar r
    Ends entries sofar (Err why) = Unit {0}

    behind : (e : OpenEntry) (entries : List OpenEntry) (sofar next : Recovered) (result : Result Recovered Stuck) → Adds IsOut IsOn e sofar next → Ends entries next result → Ends (e ∷ entries) sofar result
    behind e entries sofar next (Ok r) adds rest = one_more IsOut IsOn e (writers_of entries) sofar next r adds rest
    behind e entries sofar next (Err why) adds rest = tt

    recovers_so : (entries : List OpenEntry) → AllByRecursion (IsListed names) entries → (first rest : List Event) (sofar : Recovered) (result : Result Recovered Stuck) → Place first rest → Runs n (recovers room entries sofar) rest result → Ends entries sofar result
    recovers_so [] listed first rest sofar result p runs = subst (Ends [] sofar) runs.1 (none_more IsOut IsOn sofar)
    recovers_so (e ∷ entries) listed first rest sofar result p runs =
        let t = runs_in_two n (writer_program room e) (on_ok (λ fate. recovers room entries (noted e fate sofar))) rest result runs in
        let q : Place first (t.first ++ t.rest) = place_is first rest (t.first ++ t.rest) t.all p in
        let lawful : IsLawful (At first).state t.first = legal_first (At first) t.first t.rest q.lawful in
        let out : (told : WriterCount) → IsBuried (At first) n (alone t.first) room names told → IsOut told = out_there first t.first t.rest q.here in
        let on : (writer : ℕ) → IsFoundLive (At first) n (alone t.first) writer → IsOn writer = on_there first t.first t.rest q.here in
        let w : EndsSo n room names (At first) t.first lawful q.sound IsOut IsOn out on e t.value = writer_so n room names (At first) t.first lawful q.sound IsOut IsOn out on e listed.0 t.first t.value refl t.runs in
        elim t.value as (λ v. EndsSo n room names (At first) t.first lawful q.sound IsOut IsOn out on e v → Runs n (on_ok (λ fate. recovers room entries (noted e fate sofar)) v) t.rest result → Ends (e ∷ entries) sofar result) [
          | Ok fate ↦ λ adds on_runs. behind e entries sofar (noted e fate sofar) result (adds sofar) (recovers_so entries listed.1 (first ++ t.first) t.rest (noted e fate sofar) result (place_on first t.first t.rest q) on_runs)
          | Err why ↦ λ adds on_runs. subst (Ends (e ∷ entries) sofar) on_runs.1 tt
        ] w t.then_runs

module _ (start : Moment) (n : ℕ) (before events : List Event) where
  abbrev There : List Event → List Event → Type 0
  There first rest = Place start n before events first rest

  module _ (room : ℕ) where
    -- ---- a hold

    among_here : (first : List Event) (event : Event) (later : List Event) → Among event (first ++ event ∷ later)
    among_here [] event later = inl refl
    among_here (x ∷ first) event later = inr (among_here first event later)

    -- what a listing told that found no folder
    abbrev Holds : Recovered → Type 0
    Holds r = (r.buried ≡ []) × (r.alive ≡ []) × Any (λ (event : Event). IsAnswered n (MendHold room) (Mended r.hold) event) events

    same_ok : (a b : Recovered) → ◌≡◌ {A = Result Recovered Stuck} (Ok a) (Ok b) → a ≡ b
    same_ok a b e = cc

    hold_told : (first : List Event) (event : Event) (later : List Event) → events ≡ first ++ event ∷ later → event.caller ≡ n → event.ask ≡ unbroken (MendHold room) → (reply : Reply) → event.reply ≡ reply → (r : Recovered) → hold_mended reply ≡ Ok r → Holds r
    hold_told first event later here own asked (Mended made) told r is = subst Holds (same_ok (record { buried = []; alive = []; hold = made }) r is) (
      refl,
      refl,
      found_any (λ (x : Event). IsAnswered n (MendHold room) (Mended made) x) events event (subst (Among event) (sym here) (among_here first event later)) (answered_so n (MendHold room) (Mended made) event own asked told),
    )
    hold_told first event later here own asked reply told r is = absurd (cc)

    hold_so : (first rest : List Event) (r : Recovered) → There first rest → Runs n (mends_hold room) rest (Ok r) → Holds r
    hold_so first rest r p runs =
        let f = first_of n (MendHold room) (λ reply. done (hold_mended reply)) rest (Ok r) runs in
        let here : events ≡ (first ++ f.before) ++ f.event ∷ f.later = p.here ∙ ap (λ z. first ++ z) f.split ∙ sym (append_assoc first f.before (f.event ∷ f.later)) in
        hold_told (first ++ f.before) f.event f.later here f.by_caller f.asked f.event.reply refl r f.rest.1

    -- ---- who has it open

    -- behind these events it was buried in those, or found live
    abbrev Out : List Event → List Event → List Name → WriterCount → Type 0
    Out first rest names told = IsBuried start n (record { before = before ++ first; events = rest }) room names told

    abbrev On : List Event → List Event → ℕ → Type 0
    On first rest writer = IsFoundLive start n (record { before = before ++ first; events = rest }) writer

    -- what is told is so, of who was listed by these events
    abbrev Tells : List Event → List Event → Reply → Recovered → Type 0
    Tells first rest reply r = ((r.hold ≡ false) × RecoversWriters start n (record { before = before ++ first; events = rest }) room reply r.buried r.alive) ⊎ RecoversHold n (record { before = before; events = events }) room reply r.buried r.alive r.hold

    names_given : (reply : Reply) (names : List Name) → names_in reply ≡ Some names → reply ≡ Looked (Names names)
    names_given (Looked (Names listed)) names e = let same : listed ≡ names = cc in ap (λ k. Looked (Names k)) same
    names_given reply names e = absurd cc

    no_folder : (reply : Reply) → is_no_folder reply ≡ true → reply ≡ Looked NoFolder
    no_folder (Looked NoFolder) e = refl
    no_folder (Looked found) e = absurd (cc)
    no_folder reply e = absurd (cc)

    -- names that were listed tell entries
    entries_told : (reply : Reply) (entries : List OpenEntry) → told_by openhosts (λ names. entries_named names []) reply ≡ Ok entries → (names : List Name) × (reply ≡ Looked (Names names)) × AreOf open_in names entries
    entries_told reply entries e = of (names_in reply) refl e
      where
        of : (o : Option (List Name)) → names_in reply ≡ o → or_trouble o (trouble (file_in openhosts []) reply) (λ names. entries_named names []) ≡ Ok entries → (names : List Name) × (reply ≡ Looked (Names names)) × AreOf open_in names entries
        of None is made = absurd (let clash : ◌≡◌ {A = Result (List OpenEntry) Stuck} (Err (trouble (file_in openhosts []) reply)) (Ok entries) = made in cc)
        of (Some names) is made =
            (names, names_given reply names is, all_told open_in openhosts entries_named (λ sofar. refl) (λ first rest sofar. refl) names entries made)

    listed_so : (m : Moment) (s : IsSoundAt m) (event : Event) → IsStep m.state event.caller event.ask event.reply event.after → event.ask ≡ unbroken (Look room (ListFolder openhosts)) → (first rest : List Event) (r : Recovered) → There first rest
        → (listed : Result (List OpenEntry) Stuck) → told_by openhosts (λ names. entries_named names []) event.reply ≡ listed → Runs n (recovers_listed room listed) rest (Ok r) → Tells first rest event.reply r
    listed_so m s event step asked first rest r p (Ok entries) is runs =
        let k = entries_told event.reply entries is in
        let l = folder_listed m s event.caller room openhosts k.0 event.after (answered m.state event.caller (Look room (ListFolder openhosts)) event.ask (Looked (Names k.0)) event.after asked (subst (λ reply. IsStep m.state event.caller event.ask reply event.after) k.1 step)) in
        let here : moment_after start (before ++ first) ≡ moment_after start ((before ++ first) ++ []) = ap (moment_after start) (sym (append-nil (before ++ first))) in
        let q : Place start n (before ++ first) rest [] rest = record { here = refl; lawful = subst (λ (x : Moment). IsLawful x.state rest) here p.lawful; sound = subst IsSoundAt here p.sound } in
        let t = recovers_so start n (before ++ first) rest room k.0 (entries_by_writer entries) (entries_listed k.0 entries k.2) [] rest nothing (Ok r) q runs in
        inl (
          t.hold,
          record {
            names = k.0;
            listed = k.1;
            writers = writers_of (entries_by_writer entries);
            were_open = open_writers m s room k.0 entries l k.2;
            each = subst (λ b. AreTold (writers_of (entries_by_writer entries)) b r.alive) (sym t.out) (subst (λ a. AreTold (writers_of (entries_by_writer entries)) t.buried a) (sym t.on) t.each);
            taken_out = subst (λ b. All (Out first rest k.0) b) (sym t.out) (All-from_recursion (Out first rest k.0) t.buried t.all_out);
            found_live = subst (λ a. All (On first rest) a) (sym t.on) (All-from_recursion (On first rest) t.alive t.all_on);
          },
        )
    listed_so m s event step asked first rest r p (Err why) is runs = (let clash : ◌≡◌ {A = Result Recovered Stuck} (Err why) (Ok r) = runs.1 in absurd (cc))

    either_so : (m : Moment) (s : IsSoundAt m) (event : Event) → IsStep m.state event.caller event.ask event.reply event.after → event.ask ≡ unbroken (Look room (ListFolder openhosts)) → (first rest : List Event) (r : Recovered) → There first rest
        → (b : Bool) → is_no_folder event.reply ≡ b → Runs n (if b then mends_hold room else recovers_listed room (told_by openhosts (λ names. entries_named names []) event.reply)) rest (Ok r) → Tells first rest event.reply r
    either_so m s event step asked first rest r p true is runs = let h = hold_so first rest r p runs in inr (record { listed = no_folder event.reply is; none_buried = h.0; none_alive = h.1; mended = h.2 })
    either_so m s event step asked first rest r p false is runs = listed_so m s event step asked first rest r p (told_by openhosts (λ names. entries_named names []) event.reply) refl runs

    -- Who has it open was listed, and what is told is so.
    record ListsOpen (first rest : List Event) (r : Recovered) : Type 0 where
      pub more : List Event
      pub listing : Event
      pub later : List Event
      pub split : rest ≡ more ++ listing ∷ later
      pub own : listing.caller ≡ n
      pub asked : listing.ask ≡ unbroken (Look room (ListFolder openhosts))
      pub tells : Tells ((first ++ more) ++ listing ∷ []) later listing.reply r

    open_so : (first rest : List Event) (r : Recovered) → There first rest → Runs n (lists_open room) rest (Ok r) → ListsOpen first rest r
    open_so first rest r p runs =
        let f = first_of n (Look room (ListFolder openhosts)) (λ reply. if is_no_folder reply then mends_hold room else recovers_listed room (told_by openhosts (λ names. entries_named names []) reply)) rest (Ok r) runs in
        let here : There (first ++ f.before) (f.event ∷ f.later) = place_on start n before events first f.before (f.event ∷ f.later) (place_is start n before events first rest (f.before ++ f.event ∷ f.later) f.split p) in
        record {
          more = f.before;
          listing = f.event;
          later = f.later;
          split = f.split;
          own = f.by_caller;
          asked = f.asked;
          tells = either_so (moment_after start (before ++ (first ++ f.before))) here.sound f.event here.lawful.1 f.asked ((first ++ f.before) ++ f.event ∷ []) f.later r (place_called start n before events first rest f.before f.event f.later f.split p) (is_no_folder f.event.reply) refl f.rest;
        }

-- ---- the recovery

found_so : {R : Type 0} (reply : Reply) (next : ℕ → Tries R) (n : ℕ) (later : List Event) (out : R) → Runs n (given (room_in reply) (failure reply) next) later (Ok out) → (room : ℕ) × (reply ≡ Room room) × Runs n (next room) later (Ok out)
found_so reply next n later out runs = let a = went_on (room_in reply) (failure reply) next n later out runs in (a.0, found_room reply a.0 a.1, a.2)

pub recovered : (start : Moment) (n : ℕ) (before greeting mine : List Event) (name : Name) (r : Recovered) → IsLawful (moment_after start (before ++ greeting)).state mine → IsSoundAt (moment_after start (before ++ greeting)) → Runs n (recover_program name) mine (Ok r)
    → RecoversFile start n (record { before = before; events = greeting ++ mine }) name r.buried r.alive r.hold
recovered start n before greeting mine name r lawful sound runs =
    let events : List Event = greeting ++ mine in
    let m : Moment = moment_after start (before ++ greeting) in
    let f = first_of n (Find name) (λ reply. given (room_in reply) (failure reply) lists_open) mine (Ok r) runs in
    let a = found_so f.event.reply lists_open n f.later r f.rest in
    let p : Place start n before events greeting mine = record { here = refl; lawful = lawful; sound = sound } in
    let all : IsLawful m.state (f.before ++ f.event ∷ f.later) = subst (IsLawful m.state) f.split lawful in
    let there : Moment = moment_after m f.before in
    let step : IsStep there.state n (unbroken (Find name)) (Room a.0) f.event.after = its_step n (Find name) (Room a.0) there.state f.event f.by_caller f.asked a.1 (legal_rest m f.before (f.event ∷ f.later) all).1 in
    let named : IsRoomNamed there name a.0 = λ tree has. name_found there.state n name a.0 f.event.after tree (answered there.state n (Find name) (unbroken (Find name)) (Room a.0) f.event.after refl step) has in
    let o = open_so start n before events a.0 ((greeting ++ f.before) ++ f.event ∷ []) f.later r (place_called start n before events greeting mine f.before f.event f.later f.split p) a.2 in
    record {
      room = a.0;
      earlier = greeting ++ f.before;
      finding = f.event;
      more = o.more;
      listing = o.listing;
      later = o.later;
      split = ap (λ z. greeting ++ z) (f.split ∙ ap (λ z. f.before ++ f.event ∷ z) o.split) ∙ sym (append_assoc greeting f.before (f.event ∷ o.more ++ o.listing ∷ o.later));
      finds = answered_so n (Find name) (Room a.0) f.event f.by_caller f.asked a.1;
      named = subst (λ x. IsRoomNamed x name a.0) (then_moment start before greeting f.before) named;
      lists = o.own;
      looks = ap (λ (q : Ask). q.call) o.asked;
      tells = subst (λ z. ((r.hold ≡ false) × RecoversWriters start n (record { before = before ++ z; events = o.later }) a.0 o.listing.reply r.buried r.alive) ⊎ RecoversHold n (record { before = before; events = events }) a.0 o.listing.reply r.buried r.alive r.hold)
          (append_assoc ((greeting ++ f.before) ++ f.event ∷ []) o.more (o.listing ∷ []) ∙ append_assoc (greeting ++ f.before) (f.event ∷ []) (o.more ++ o.listing ∷ []))
          o.tells;
    }
