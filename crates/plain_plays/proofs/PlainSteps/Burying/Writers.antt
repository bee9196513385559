-- The recovery of one writer that is dead buries it, and tells how much of it has landed, where nobody else calls and nothing fails.
use Rattle.std.proofs.Common.{◌≡◌, ◌*◌, ◌/◌, ℕ, true, false, nat_eq, List, [], ◌∷◌, ◌++◌, get_or, length, min, Option, Some, None, Result, Ok, Err, refl, sym, ap, ◌∙◌, inl, inr, subst, arith, if◌then◌else◌}
use Rattle.std.specs.Prelude.{slice_get}
use Rattle.std.proofs.lemmas.Bool.Decides.{nat_tests}
use Rattle.plfs_types.specs.declared.names.Path.{Path}
use Rattle.container_layout.specs.declared.items.Item.TheVariants as item
use Rattle.container_layout.specs.Items.{IsItem}
use Rattle.container_layout.proofs.Facts.{elsewhere}
use Rattle.store_api.specs.Names.{marks_folder}
use Rattle.store_api.specs.declared.step.Answer.{Answer}
use Rattle.store_api.specs.declared.step.Answer.TheVariants as answer
use Rattle.store_api.specs.declared.store.Trouble.TheVariants as trouble_of
use Rattle.store_api.specs.declared.tree.Room.{Room}
use Rattle.store_api.specs.Room.{has_folder}
use Rattle.store_laws.specs.Files.{file_at}
use Rattle.store_laws.specs.Says.{LengthTells}
use Rattle.store_laws.specs.Tells.{Tells}
use Rattle.store_laws.proofs.Facts.{acts_told, length_tells, look_answered}
use Rattle.mount_model.specs.declared.call.Ask.{Ask}
use Rattle.mount_model.specs.declared.call.Call.{Call}
use Rattle.mount_model.specs.declared.call.Call.TheVariants.{Bury, Inspect, Look, Mend, MendMeta, SyncDropping}
use Rattle.mount_model.specs.declared.call.Look.TheVariants.{Length}
use Rattle.mount_model.specs.declared.reply.Refusal.{Refusal}
use Rattle.mount_model.specs.declared.reply.Reply.{Reply}
use Rattle.mount_model.specs.declared.reply.Reply.TheVariants.{Done, Looked, Refused}
use Rattle.mount_model.specs.History.{AreBy, Event}
use Rattle.mount_model.specs.Looking.{length_reply, look_outcome, look_step}
use Rattle.mount_model.specs.Making.{MakesAct, Refuses, Told, or_reason, room_check}
use Rattle.mount_model.specs.Paths.{index_path}
use Rattle.mount_model.specs.Recovering.{alive_check, mend_check}
use Rattle.mount_model.specs.State.{State, Table, last_id}
use Rattle.mount_model.specs.Step.{Answers}
use Rattle.mount_model.proofs.Facts.{match_cases}
use Rattle.mount_sound.specs.Shape.{IsDrawnBy}
use Rattle.mount_sound.proofs.Shapes.Facts.{item_held}
use Rattle.mount_sound.specs.Dropping.{bytes_of}
use Rattle.mount_sound.specs.Issued.{issued_after}
use Rattle.mount_sound.specs.Landed.{whole}
use Rattle.mount_sound.specs.Owed.{IsLawful, May}
use Rattle.mount_sound.specs.There.{entries_there, landed_in}
use Rattle.refusal_laws.specs.Reasons.{IsChecked}
use Rattle.mount_model.specs.Program.{Program, done, followed_by}
use Rattle.mount_model.specs.declared.names.OpenEntry.{OpenEntry}
use Rattle.mount_model.specs.declared.stuck.Stuck.{Stuck}
use Rattle.mount_model.specs.declared.stuck.Stuck.TheVariants as stuck
use Rattle.mount_model.specs.FlowReplies.{given, length_in, on_ok, trouble}
use Rattle.mount_model.specs.Running.{Runs, unbroken}
use Rattle.reader_laws.specs.Moments.{Dropping, IsNamed, IsSoundAt, Moment, file_in_room, file_told, index_then, landed, log_then, moment_after, next_moment}
use Rattle.reader_laws.proofs.Gathered.Facts.{grows_after, landed_at, landed_whole, length_told}
use Rattle.torn_tail.specs.declared.recovering.Recovered.{Recovered}
use Rattle.torn_tail.specs.Recovering.{noted, recovers}
use Rattle.torn_tail.specs.Words.{Run}
use Rattle.torn_tail.specs.Writers.{buries, found, if_done, if_synced, keeps, measures_index, measures_log, mends, mends_meta, syncs_index, syncs_log, writer_program}
use Rattle.plain_plays.specs.Mirrors.{room_then}
use Rattle.trouble_laws.specs.Undamaged.{IsUndamaged}
use Rattle.plain_plays.specs.Served.{GoesWell}
use Rattle.plain_plays.proofs.PlainSteps.Entering.{IsContainerAt, has_room}
use Rattle.plain_plays.proofs.PlainSteps.Reaching.{ended}
use Rattle.plain_plays.proofs.PlainSteps.Steps.Alone.{First, first_call}
use Rattle.plain_plays.proofs.PlainSteps.ByName.Looking.{IsAlike}
use Rattle.plain_plays.proofs.PlainSteps.Looks.Answered.{alike_next, unchecked}
use Rattle.plain_plays.proofs.PlainSteps.Burying.Leaving.{Leaves, bury_leaves, leaves_alike, leaves_both, mend_leaves, meta_leaves, sync_leaves}
use Rattle.plain_plays.proofs.PlainSteps.Burying.Measuring.{HasMeasured, log_on, measured}

-- ---- what isn't there

absent : (o : Option (List ℕ)) → ((bytes : List ℕ) → o ≡ Some bytes → ⊥) → o ≡ None
absent None not = refl
absent (Some bytes) not = absurd (not bytes refl)

-- no reason against a call on a writer that isn't live
no_reason : (o a : Option Refusal) (why : Refusal) → ((w : Refusal) → o ≡ Some w → ⊥) → a ≡ None → or_reason o a ≡ Some why → ⊥
no_reason None a why none free e = let clash : None ≡ Some why = sym free ∙ e in cc
no_reason (Some w) a why none free e = none w refl

absent_told : (path : Path) (told : Told) → Looked answer.Absent ≡ length_reply path told → told ≡ Ok answer.Absent
absent_told path (Ok (answer.Number n)) e = absurd (cc)
absent_told path (Ok answer.Absent) e = refl
absent_told path (Ok other) e = absurd (cc)
absent_told path (Err trouble_of.Fault) e = absurd (cc)
absent_told path (Err trouble_of.NoMemory) e = absurd (cc)

folder_told : (path : Path) (told : Told) → Looked answer.NoFolder ≡ length_reply path told → told ≡ Ok answer.NoFolder
folder_told path (Ok answer.NoFolder) e = refl
folder_told path (Ok other) e = absurd (cc)
folder_told path (Err trouble_of.Fault) e = absurd (cc)
folder_told path (Err trouble_of.NoMemory) e = absurd (cc)

-- the reply to the first call was this one
on_told : {R : Type 0} {m : Moment} {me : ℕ} {q : Call} {k : Reply → Program Call Reply R} {events : List Event} {out : R} (c : First m me q k events out) (r : Reply) → c.event.reply ≡ r → Runs me (k r) c.rest out
on_told {me = me} {k = k} {out = out} c r told = subst (λ x. Runs me (k x) c.rest out) told c.runs

module _ (n me : ℕ) (e : OpenEntry) (is : IsItem (item.OpenHost e.host e.writer)) (es : List OpenEntry) (sofar : Recovered) where
  abbrev Its : Dropping
  Its = record { room = n; host = e.host; writer = e.writer }

  is_named : IsNamed Its
  is_named = record { in_range = tt; widths = is.widths }

  -- The writer isn't live, and so much of it has landed.
  pub record IsLeft (k : ℕ) (x : Moment) : Type 0 where
    pub sound : IsSoundAt x
    pub had : IsContainerAt n x
    pub free : alive_check x.state e.writer ≡ None
    pub many : landed x Its ≡ k
    pub room : Room
    pub at : room_then x n ≡ Some room

  -- It is buried, and that is told of it. The others are to come.
  pub record IsBuried (k : ℕ) (x : Moment) (u : IsLeft k x) (events : List Event) (out : Result Recovered Stuck) : Type 0 where
    pub mid : Moment
    pub leaves : Leaves n (e ∷ []) u.room x mid
    pub sound : IsSoundAt mid
    pub had : IsContainerAt n mid
    pub rest : List Event
    pub lawful : IsLawful mid.state rest
    pub well : GoesWell me rest
    pub by : AreBy me rest
    pub runs : Runs me (recovers n es (record { buried = sofar.buried ++ record { writer = e.writer; count = k } ∷ []; alive = sofar.alive; hold = sofar.hold })) rest out
    pub ends_at : moment_after mid rest ≡ moment_after x events

  container_then : (x : Moment) (event : Event) (rest : List Event) → IsSoundAt x → IsLawful x.state (event ∷ rest) → IsContainerAt n x → IsContainerAt n (next_moment x event)
  container_then x event rest s whole had = (grows_after x (event ∷ []) (whole.0, whole.1, tt) s).stands n item.Access tt had

  module _ (k : ℕ) (x : Moment) (u : IsLeft k x) where
    not_mendable : (writer : ℕ) → writer ≡ e.writer → (why : Refusal) → IsChecked (mend_check x.state n writer) why → ⊥
    not_mendable writer own why check = no_reason (room_check x.state n) (alive_check x.state writer) why (unchecked x u.sound n u.had) (ap (alive_check x.state) own ∙ u.free) check

    -- what is left then
    abbrev then_left : (next : Moment) → IsSoundAt next → IsContainerAt n next → (y : Leaves n [] u.room x next) → IsLeft k next
    then_left next s had y = record {
      sound = s;
      had = had;
      free = ap (λ (t : Table). alive_check (record x.state { table = t }) e.writer) y.table ∙ u.free;
      many = y.landed_is Its is_named ∙ u.many;
      room = y.new;
      at = y.turns.now;
    }

    then_buried : (next : Moment) (rest events : List Event) (out : Result Recovered Stuck) (s : IsSoundAt next) (had : IsContainerAt n next) (y : Leaves n [] u.room x next) → moment_after next rest ≡ moment_after x events → IsBuried k next (then_left next s had y) rest out → IsBuried k x u events out
    then_buried next rest events out s had y ends b = record { mid = b.mid; leaves = leaves_both n [] (e ∷ []) u.room x next b.mid y b.leaves; sound = b.sound; had = b.had; rest = b.rest; lawful = b.lawful; well = b.well; by = b.by; runs = b.runs; ends_at = b.ends_at ∙ ends }

    may_so : (q : Call) (event : Event) (rest : List Event) → IsLawful x.state (event ∷ rest) → event.caller ≡ me → event.ask ≡ unbroken q → May x.state me (unbroken q)
    may_so q event rest whole own asked = subst (May x.state me) asked (subst (λ j. May x.state j event.ask) own whole.0)

    as_many : (count host writer : ℕ) → host ≡ e.host → writer ≡ e.writer → (r : Room) → slice_get u.sound.shape.tree.rooms n ≡ Some r → count ≡ landed_in r host writer → count ≡ k
    as_many count host writer h w r there all =
        let here : landed_in r e.host e.writer ≡ landed x Its = sym (ap length (landed_at x u.sound Its r there)) in
        all ∙ (λ i. landed_in r (h i) (w i)) ∙ here ∙ u.many

  -- ---- it is buried

  bury_ends : (k count : ℕ) (x : Moment) (u : IsLeft k x) → count ≡ k → (events : List Event) (out : Result Recovered Stuck) → IsLawful x.state events → GoesWell me events → AreBy me events → Runs me (followed_by (buries n e count) (on_ok (λ fate. recovers n es (noted e fate sofar)))) events out → IsBuried k x u events out
  bury_ends k count x u same events out lawful well by runs =
      let c = first_call x me (Bury n e.host e.writer) _ events out u.sound lawful well by runs in
      elim c.served as (λ _. IsBuried k x u events out) [
        | inr (why, told, reason) ↦ absurd (elim reason as (λ _. ⊥) [
          | inl check ↦ not_mendable k x u e.writer refl why check
          | inr lacks ↦ has_room x u.sound n u.had (lacks.1 u.sound.shape.tree u.sound.shape.told)
        ])
        | inl told ↦ record {
          mid = next_moment x c.event;
          leaves = bury_leaves x u.sound n u.room u.at me c.event c.rest c.whole e is (may_so k x u (Bury n e.host e.writer) c.event c.rest c.whole c.own c.asked) c.sound c.asked (subst (λ r. Answers x.state me (Bury n e.host e.writer) r c.event.after) told c.answers);
          sound = c.sound;
          had = container_then x c.event c.rest u.sound c.whole u.had;
          rest = c.rest;
          lawful = c.whole.2;
          well = c.well;
          by = c.by;
          runs = subst (λ j. Runs me (recovers n es (record { buried = sofar.buried ++ record { writer = e.writer; count = j } ∷ []; alive = sofar.alive; hold = sofar.hold })) c.rest out) same (on_told c Done told);
          ends_at = c.ends;
        }
      ]

  -- ---- what has landed is told of

  meta_ends : (k : ℕ) (run : Run) → run.cover.writer ≡ e.writer → (x : Moment) (u : IsLeft k x) (events : List Event) (out : Result Recovered Stuck) → IsLawful x.state events → GoesWell me events → AreBy me events → Runs me (followed_by (mends_meta n e run) (on_ok (λ fate. recovers n es (noted e fate sofar)))) events out → IsBuried k x u events out
  meta_ends k run own x u events out lawful well by runs =
      let q : Call = MendMeta n e.host run.cover run.last in
      let c = first_call x me q (λ reply. followed_by (if_done (buries n e run.cover.count) reply) (on_ok (λ fate. recovers n es (noted e fate sofar)))) events out u.sound lawful well by runs in
      let next : Moment = next_moment x c.event in
      elim c.served as (λ _. IsBuried k x u events out) [
        | inr (why, told, reason) ↦ absurd (not_mendable k x u run.cover.writer own why reason)
        | inl told ↦
            let y = meta_leaves x u.sound n u.room u.at me c.event c.rest c.whole e.host run.cover run.last c.asked (subst (λ r. Answers x.state me q r c.event.after) told c.answers) in
            let had = container_then x c.event c.rest u.sound c.whole u.had in
            let may = (may_so k x u q c.event c.rest c.whole c.own c.asked).owes u.sound.clean in
            let stands = may.1 u.sound.shape.tree u.sound.shape.told in
            let all : run.cover.count ≡ landed_in stands.0 e.host run.cover.writer = stands.2.all in
            let same : run.cover.count ≡ k = as_many k x u run.cover.count e.host run.cover.writer refl own stands.0 stands.1 all in
            then_buried k x u next c.rest events out c.sound had y c.ends (bury_ends k run.cover.count next (then_left k x u next c.sound had y) same c.rest out c.whole.2 c.well c.by (on_told c Done told))
      ]

  index_synced : (k : ℕ) (run : Run) → run.cover.writer ≡ e.writer → (x : Moment) (u : IsLeft k x) (events : List Event) (out : Result Recovered Stuck) → IsLawful x.state events → GoesWell me events → AreBy me events → Runs me (followed_by (syncs_index n e run) (on_ok (λ fate. recovers n es (noted e fate sofar)))) events out → IsBuried k x u events out
  index_synced k run own x u events out lawful well by runs =
      let q : Call = SyncDropping n e.host e.writer false in
      let c = first_call x me q (λ reply. followed_by (if_synced (mends_meta n e run) reply) (on_ok (λ fate. recovers n es (noted e fate sofar)))) events out u.sound lawful well by runs in
      let next : Moment = next_moment x c.event in
      elim c.served as (λ _. IsBuried k x u events out) [
        | inr (why, told, reason) ↦ absurd (unchecked x u.sound n u.had why reason)
        | inl told ↦
            let y = sync_leaves x u.sound n u.room u.at me c.event c.rest c.whole e.host e.writer false c.asked (subst (λ r. Answers x.state me q r c.event.after) told c.answers) in
            let had = container_then x c.event c.rest u.sound c.whole u.had in
            then_buried k x u next c.rest events out c.sound had y c.ends (meta_ends k run own next (then_left k x u next c.sound had y) c.rest out c.whole.2 c.well c.by (on_told c Done told))
      ]

  log_synced : (k : ℕ) (run : Run) → run.cover.writer ≡ e.writer → (x : Moment) (u : IsLeft k x) (events : List Event) (out : Result Recovered Stuck) → IsLawful x.state events → GoesWell me events → AreBy me events → Runs me (followed_by (syncs_log n e run) (on_ok (λ fate. recovers n es (noted e fate sofar)))) events out → IsBuried k x u events out
  log_synced k run own x u events out lawful well by runs =
      let q : Call = SyncDropping n e.host e.writer true in
      let c = first_call x me q (λ reply. followed_by (if_synced (syncs_index n e run) reply) (on_ok (λ fate. recovers n es (noted e fate sofar)))) events out u.sound lawful well by runs in
      let next : Moment = next_moment x c.event in
      elim c.served as (λ _. IsBuried k x u events out) [
        | inr (why, told, reason) ↦ absurd (unchecked x u.sound n u.had why reason)
        | inl told ↦
            let y = sync_leaves x u.sound n u.room u.at me c.event c.rest c.whole e.host e.writer true c.asked (subst (λ r. Answers x.state me q r c.event.after) told c.answers) in
            let had = container_then x c.event c.rest u.sound c.whole u.had in
            then_buried k x u next c.rest events out c.sound had y c.ends (index_synced k run own next (then_left k x u next c.sound had y) c.rest out c.whole.2 c.well c.by (on_told c Done told))
      ]

  keeps_end : (k : ℕ) (run : Run) → run.cover.writer ≡ e.writer → (run.cover.count ≡ 0 → k ≡ 0) → (x : Moment) (u : IsLeft k x) (events : List Event) (out : Result Recovered Stuck) → IsLawful x.state events → GoesWell me events → AreBy me events → Runs me (followed_by (keeps n e run) (on_ok (λ fate. recovers n es (noted e fate sofar)))) events out → IsBuried k x u events out
  keeps_end k run own none x u events out lawful well by runs = elim (nat_eq run.cover.count 0) as (λ b. nat_eq run.cover.count 0 ≡ b → Runs me (followed_by (if b then buries n e 0 else syncs_log n e run) (on_ok (λ fate. recovers n es (noted e fate sofar)))) events out → IsBuried k x u events out) [
    | true ↦ λ t on. bury_ends k 0 x u (sym (none (grind (arith, nat_tests)))) events out lawful well by on
    | false ↦ λ t on. log_synced k run own x u events out lawful well by on
  ] refl runs

  mends_end : (k : ℕ) (run : Run) → run.cover.writer ≡ e.writer → (x : Moment) (u : IsLeft k x) (events : List Event) (out : Result Recovered Stuck) → IsLawful x.state events → GoesWell me events → AreBy me events → Runs me (followed_by (mends n e run) (on_ok (λ fate. recovers n es (noted e fate sofar)))) events out → IsBuried k x u events out
  mends_end k run own x u events out lawful well by runs =
      let q : Call = Mend n e.host e.writer run.cover.count in
      let c = first_call x me q (λ reply. followed_by (if_done (keeps n e run) reply) (on_ok (λ fate. recovers n es (noted e fate sofar)))) events out u.sound lawful well by runs in
      let next : Moment = next_moment x c.event in
      elim c.served as (λ _. IsBuried k x u events out) [
        | inr (why, told, reason) ↦ absurd (not_mendable k x u e.writer refl why reason)
        | inl told ↦
            let y = mend_leaves x u.sound n u.room u.at me c.event c.rest c.whole e.host e.writer run.cover.count c.asked (subst (λ r. Answers x.state me q r c.event.after) told c.answers) in
            let had = container_then x c.event c.rest u.sound c.whole u.had in
            let may = (may_so k x u q c.event c.rest c.whole c.own c.asked).owes u.sound.clean in
            let stands = may.1 u.sound.shape.tree u.sound.shape.told in
            let all : run.cover.count ≡ landed_in stands.0 e.host e.writer = stands.2.landed in
            let same : run.cover.count ≡ k = as_many k x u run.cover.count e.host e.writer refl refl stands.0 stands.1 all in
            then_buried k x u next c.rest events out c.sound had y c.ends (keeps_end k run own (λ zero_is. sym same ∙ zero_is) next (then_left k x u next c.sound had y) c.rest out c.whole.2 c.well c.by (on_told c Done told))
      ]

  found_ends : (k told : ℕ) (run : Run) → run.cover.writer ≡ e.writer → (told ≡ 0 → k ≡ 0) → (x : Moment) (u : IsLeft k x) (events : List Event) (out : Result Recovered Stuck) → IsLawful x.state events → GoesWell me events → AreBy me events → Runs me (followed_by (found n e told run) (on_ok (λ fate. recovers n es (noted e fate sofar)))) events out → IsBuried k x u events out
  found_ends k told run own none x u events out lawful well by runs = elim (nat_eq told (40 * run.cover.count)) as (λ b. nat_eq told (40 * run.cover.count) ≡ b → Runs me (followed_by (if b then keeps n e run else mends n e run) (on_ok (λ fate. recovers n es (noted e fate sofar)))) events out → IsBuried k x u events out) [
    | true ↦ λ t on. let same : told ≡ 40 * run.cover.count = grind (arith, nat_tests) in keeps_end k run own (λ zero_is. none (omega (arith, same, zero_is))) x u events out lawful well by on
    | false ↦ λ t on. mends_end k run own x u events out lawful well by on
  ] refl runs

  -- ---- it is measured

  nothing_there : (x : Moment) → index_then x Its ≡ None → landed x Its ≡ 0
  nothing_there x none = ap (λ f. length (entries_there (bytes_of f) (bytes_of (log_then x Its)))) none

  nothing_in : (x : Moment) → IsSoundAt x → (bytes : List ℕ) → index_then x Its ≡ Some bytes → length bytes ≡ 0 → landed x Its ≡ 0
  nothing_in x s bytes there none =
      let w = landed_whole x s Its is_named in
      let long : length (bytes_of (index_then x Its)) ≡ 0 = ap (λ f. length (bytes_of f)) there ∙ none in
      least (length (bytes_of (index_then x Its))) (length (x.issued n e.writer)) (landed x Its) long w
    where
      least : (a b c : ℕ) → a ≡ 0 → c ≡ min (a / 40) b → c ≡ 0
      least a b c z same = let few : a / 40 ≡ 0 = omega (arith, z) in omega (arith, few, same)

  abbrev IndexPath : Path
  IndexPath = index_path e.host e.writer

  -- what an answer to the question for its length says
  said : (x : Moment) (s : IsSoundAt x) (answered : Answer) (after : State) → Answers x.state me (Look n (Length IndexPath)) (Looked answered) after → ((t : Told) → Looked answered ≡ length_reply IndexPath t → t ≡ Ok answered) → LengthTells s.shape.tree n IndexPath answered
  said x s answered after a tells = elim (match_cases (room_check x.state n) (MakesAct (look_step n (Length IndexPath)) (look_outcome (Length IndexPath) x.state) x.state (Looked answered) after) (λ why. Refuses why x.state (Looked answered) after) a) as (λ _. LengthTells s.shape.tree n IndexPath answered) [
    | inr (why, some, refused) ↦ absurd (let clash : Looked answered ≡ Refused why = refused.0 in cc)
    | inl (free, does) ↦
        let step = look_step n (Length IndexPath) in
        let told = tells does.told does.answered in
        let t = acts_told step x.state.store after.store s.shape.tree does.told s.shape.told does.made in
        (look_answered step s.shape.tree (LengthTells s.shape.tree n IndexPath) (length_tells s.shape.tree n IndexPath) answered t.0 (subst (λ y. Tells step s.shape.tree y t.0) told t.2)).1
  ]

  no_index : (x : Moment) (s : IsSoundAt x) (r : Room) → slice_get s.shape.tree.rooms n ≡ Some r → file_at r IndexPath ≡ None → index_then x Its ≡ None
  no_index x s r there none = ap (λ t. file_told t n IndexPath) s.shape.told ∙ ap (λ o. file_in_room o IndexPath) there ∙ none

  -- no file is in a folder that isn't there
  not_housed : (x : Moment) (s : IsSoundAt x) (r : Room) → slice_get s.shape.tree.rooms n ≡ Some r → has_folder r IndexPath.folder ≡ false → file_at r IndexPath ≡ None
  not_housed x s r there none = absent (file_at r IndexPath) (λ bytes found. elim (s.shape.shaped.rooms n r there) as (λ _. ⊥) [
    | inl marks ↦
        let mark = marks.files IndexPath bytes found in
        let clash : marks_folder ≡ IndexPath.folder = sym (ap (λ (p : Path). p.folder) mark.3) in
        elsewhere (ap (λ (l : List ℕ). get_or l 0 0) clash) refl
    | inr container ↦
        let housed : has_folder r IndexPath.folder ≡ true = (item_held (IsDrawnBy (last_id x.state) s.shape.tree) r (item.Index e.host e.writer) bytes container is_named found).housed in
        (let clash : true ≡ false = sym housed ∙ none in cc)
  ])

  -- the index dropping's length was told
  index_told : (k : ℕ) (x : Moment) → IsLeft k x → (answered : Answer) (after : State) → Answers x.state me (Look n (Length IndexPath)) (Looked answered) after → (told : ℕ) → length_in (Looked answered) ≡ Some told → told ≡ 0 → k ≡ 0
  index_told k x u (answer.Number value) after a told is_told zero_is =
      let same : value ≡ told = cc in
      let l = length_told x u.sound me n IndexPath value after a in
      sym u.many ∙ nothing_in x u.sound l.0 l.1 (l.2 ∙ same ∙ zero_is)
  index_told k x u answer.Absent after a told is_told zero_is = let w = said x u.sound answer.Absent after a (absent_told IndexPath) in sym u.many ∙ nothing_there x (no_index x u.sound w.room w.has_room w.none)
  index_told k x u answer.NoFolder after a told is_told zero_is = let w = said x u.sound answer.NoFolder after a (folder_told IndexPath) in sym u.many ∙ nothing_there x (no_index x u.sound w.room w.has_room (not_housed x u.sound w.room w.has_room w.none))
  index_told k x u other after a told is_told zero_is = absurd (cc)

  damaged : (answered : Answer) (events : List Event) (out : Result Recovered Stuck) → IsUndamaged out → Runs me (done (Err (trouble IndexPath (Looked answered)))) events out → ⊥
  damaged answer.NoFolder events out plain runs = subst IsUndamaged (sym (ended me (Err (stuck.Damaged IndexPath.folder [] 0)) events out runs)) plain
  damaged other events out plain runs = subst IsUndamaged (sym (ended me (Err (stuck.Damaged IndexPath.folder IndexPath.file 0)) events out runs)) plain

  index_ends : (k : ℕ) (x : Moment) (u : IsLeft k x) (events : List Event) (out : Result Recovered Stuck) → IsUndamaged out → IsLawful x.state events → GoesWell me events → AreBy me events → Runs me (followed_by (measures_index n e) (on_ok (λ fate. recovers n es (noted e fate sofar)))) events out → IsBuried k x u events out
  index_ends k x u events out plain lawful well by runs =
      let c = first_call x me (Look n (Length IndexPath)) (λ reply. followed_by (given (length_in reply) (trouble IndexPath reply) (measures_log n e)) (on_ok (λ fate. recovers n es (noted e fate sofar)))) events out u.sound lawful well by runs in
      let l = alike_next x u.sound n u.had c.event (c.whole.0, c.whole.1, tt) (Length IndexPath) c.asked in
      elim c.served as (λ _. IsBuried k x u events out) [
        | inr (why, told, reason) ↦ absurd (elim reason as (λ _. ⊥) [
          | inl check ↦ unchecked x u.sound n u.had why check
          | inr lacks ↦ has_room x u.sound n u.had (lacks.1 u.sound.shape.tree u.sound.shape.told)
        ])
        | inl (answered, may, told) ↦
            let a = subst (λ r. Answers x.state me (Look n (Length IndexPath)) r c.event.after) told c.answers in
            onward answered c.event.after a (next_moment x c.event) c.sound l.1 l.0 c.rest c.whole.2 c.well c.by c.ends (length_in (Looked answered)) refl (on_told c (Looked answered) told)
      ]
    where
      onward : (answered : Answer) (after : State) → Answers x.state me (Look n (Length IndexPath)) (Looked answered) after → (next : Moment) → IsSoundAt next → IsContainerAt n next → IsAlike x next → (rest : List Event) → IsLawful next.state rest → GoesWell me rest → AreBy me rest → moment_after next rest ≡ moment_after x events
          → (o : Option ℕ) → length_in (Looked answered) ≡ o → Runs me (followed_by (given o (trouble IndexPath (Looked answered)) (measures_log n e)) (on_ok (λ fate. recovers n es (noted e fate sofar)))) rest out → IsBuried k x u events out
      onward answered after a next s had alike rest l w b ends None is_told on = absurd (damaged answered rest out plain on)
      onward answered after a next s had alike rest l w b ends (Some told) is_told on =
          let y : Leaves n [] u.room x next = leaves_alike n u.room x next u.at alike in
          let v : IsLeft k next = then_left k x u next s had y in
          let h : HasMeasured n e es sofar told me next rest out = measured n e es sofar told me rest (followed_by (measures_log n e told) (on_ok (λ fate. recovers n es (noted e fate sofar)))) next out (log_on n e es sofar told) s had l w b plain on in
          let z : Leaves n [] v.room next h.mid = leaves_alike n v.room next h.mid v.at h.alike in
          let w2 : IsLeft k h.mid = then_left k next v h.mid h.sound h.had z in
          let buried : IsBuried k h.mid w2 h.rest out = found_ends k told h.run h.own (index_told k x u answered after a told is_told) h.mid w2 h.rest out h.lawful h.well h.by h.runs in
          then_buried k x u next rest events out s had y ends (then_buried k next v h.mid h.rest rest out h.sound h.had z h.ends_at buried)

  -- It is buried, and its count is told.
  pub writer_ends : (k : ℕ) (x : Moment) (u : IsLeft k x) (events : List Event) (out : Result Recovered Stuck) → IsUndamaged out → IsLawful x.state events → GoesWell me events → AreBy me events → Runs me (followed_by (writer_program n e) (on_ok (λ fate. recovers n es (noted e fate sofar)))) events out → IsBuried k x u events out
  writer_ends k x u events out plain lawful well by runs =
      let c = first_call x me (Inspect e.writer) (λ reply. followed_by (if_done (measures_index n e) reply) (on_ok (λ fate. recovers n es (noted e fate sofar)))) events out u.sound lawful well by runs in
      let next : Moment = next_moment x c.event in
      elim c.served as (λ _. IsBuried k x u events out) [
        | inr (why, told, reason) ↦ absurd (let clash : None ≡ Some why = sym u.free ∙ reason in cc)
        | inl told ↦
            let same : c.event.after ≡ x.state = inspected c.event.reply c.event.after c.answers in
            let alike : IsAlike x next = record {
              tree = ap (λ (st : State). st.store.tree) same;
              issued = ap (λ (a : Ask). issued_after x.issued x.state a.call c.event.reply) c.asked;
              table = ap (λ (st : State). st.table) same;
              times = ap (λ (st : State). st.times) same;
              marks = ap (λ (st : State). st.marks) same;
              mount = ap (λ (st : State). st.mount) same;
              serial = ap (λ (st : State). st.serial) same;
            } in
            let y : Leaves n [] u.room x next = leaves_alike n u.room x next u.at alike in
            let had = container_then x c.event c.rest u.sound c.whole u.had in
            then_buried k x u next c.rest events out c.sound had y c.ends (index_ends k next (then_left k x u next c.sound had y) c.rest out plain c.whole.2 c.well c.by (on_told c Done told))
      ]
    where
      inspected : (reply : Reply) (after : State) → Answers x.state me (Inspect e.writer) reply after → after ≡ x.state
      inspected reply after a = elim (match_cases (alive_check x.state e.writer) ((reply ≡ Done) × (after ≡ x.state)) (λ why. Refuses why x.state reply after) a) as (λ _. after ≡ x.state) [
        | inl (free, b) ↦ b.1
        | inr (why, some, refused) ↦ refused.1
      ]
