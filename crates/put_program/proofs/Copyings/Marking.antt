-- What a truncate of one container leaves of another one.
use Rattle.std.proofs.Common.{◌≡◌, ℕ, inl, inr, List, [], ◌∷◌, ◌++◌, get_or, Option, Some, None, Result, Ok, Err, refl, sym, ap, ◌∙◌, subst, nat_eq, true, false}
use Rattle.std.specs.Prelude.{if◌then◌else◌, slice_get}
use Rattle.std.specs.List.{AllByRecursion}
use Rattle.container_layout.proofs.Facts.{elsewhere}
use Rattle.store_api.specs.declared.step.Answer.TheVariants.{Absent, Made, NoFolder, NotEmpty, Number}
use Rattle.store_api.specs.declared.store.Trouble.TheVariants as trouble_of
use Rattle.store_api.specs.declared.tree.Room.{Room}
use Rattle.store_api.specs.declared.tree.Tree.{Tree}
use Rattle.store_api.specs.Step.{Step, find_room, length_of, list_folder, read_at, rooms}
use Rattle.store_laws.specs.Files.{file_at}
use Rattle.store_laws.specs.Naming.{NamesFile}
use Rattle.store_laws.specs.Outcomes.{IsLook}
use Rattle.store_laws.specs.Says.{FindTells}
use Rattle.store_laws.specs.Tells.{Tells}
use Rattle.store_laws.specs.There.{IsRoomOf}
use Rattle.store_laws.proofs.Facts.{acts_told, find_tells, keeps_rooms, look_answered}
use Rattle.mount_model.specs.Program.{Program, ask, done}
use Rattle.mount_model.specs.declared.call.Ask.{Ask}
use Rattle.mount_model.specs.declared.call.Call.{Call}
use Rattle.mount_model.specs.declared.call.Call.TheVariants as call
use Rattle.mount_model.specs.declared.call.Look.{Look}
use Rattle.mount_model.specs.declared.reply.Refusal.{Refusal}
use Rattle.mount_model.specs.declared.reply.Reply.{Reply}
use Rattle.mount_model.specs.declared.reply.Reply.TheVariants as reply
use Rattle.mount_model.specs.declared.row.Holder.{Holder}
use Rattle.mount_model.specs.Entering.{draw_check, next_id}
use Rattle.mount_model.specs.Finding.{find_outcome}
use Rattle.mount_model.specs.History.{Event}
use Rattle.mount_model.specs.Holding.{HoldOutcome, HoldsRoom, holding}
use Rattle.mount_model.specs.Making.{Refuses, Told}
use Rattle.mount_model.specs.Paths.{Name, trunc_path}
use Rattle.mount_model.specs.State.{State, Table}
use Rattle.mount_model.specs.Table.{holder_at, holder_of, its_hold}
use Rattle.mount_model.proofs.Facts.{KeepsHolders, answers_keep, held_before-push, match_cases, next_not_held}
use Rattle.mount_sound.specs.Owed.{IsLawful}
use Rattle.mount_sound.proofs.Facts.{OfEachAct, step_acts, trunc_no_flattenings}
use Rattle.mount_model.specs.declared.stuck.Stuck.{Stuck}
use Rattle.mount_model.specs.FlowReplies.{Tries, failure, given, room_in}
use Rattle.mount_model.specs.Running.{Runs, unbroken}
use Rattle.mount_model.proofs.Flows.Facts.{runs_done, runs_next}
use Rattle.lone_flow.specs.Driving.{greets_first}
use Rattle.trunc_rename.specs.Holding.{holder_in, holds, lets_go, or_lets_go}
use Rattle.trunc_rename.specs.Truncating.{lists_metadata, lists_truncs, marked, marks, truncate_program}
use Rattle.reader_laws.specs.Moments.{HadTrunc, IsSoundAt, Moment, file_in_room, file_told, moment_after, next_moment}
use Rattle.reader_laws.proofs.Gathered.Facts.{sound_after}
use Rattle.reader_laws.proofs.Facts.{answered}
use Rattle.put_program.proofs.Copyings.Spared.{HasContainer, MarksNone, MovesNone, no_flattening, stays_next}

-- ---- one call

-- the call puts a truncate by a hold of this room
abbrev MarksIn : Table → ℕ → ℕ → Call → Type 0
MarksIn table caller number (call.Mark holder size top) = (h : Holder) × (holder_of caller holder table.holders ≡ Some h) × (h.room ≡ number)
MarksIn table caller number q = ⊥

abbrev NamesTrunc : Table → ℕ → ℕ → Call → Step → Type 0
NamesTrunc table caller number q step = (stamp size : ℕ) → NamesFile step number (trunc_path stamp size) → MarksIn table caller number q

first_byte : (a b : Name) → a ≡ b → get_or a 0 0 ≡ get_or b 0 0
first_byte a b e = ap (λ (n : Name). get_or n 0 0) e

look_names : (table : Table) (caller number : ℕ) (q : Call) (step : Step) → IsLook step → NamesTrunc table caller number q step
look_names table caller number q rooms look stamp size names = absurd names
look_names table caller number q (find_room name) look stamp size names = absurd names
look_names table caller number q (list_folder k folder) look stamp size names = absurd names
look_names table caller number q (length_of k folder file) look stamp size names = absurd names
look_names table caller number q (read_at k folder file at len) look stamp size names = absurd names
look_names table caller number q step look stamp size names = absurd look

each_names : (old : State) (caller number : ℕ) → OfEachAct old.table (next_id old) caller (NamesTrunc old.table caller number)
each_names old caller number = record {
  looks = look_names old.table caller number;
  rooms = λ name stamp size names. absurd names;
  enters = λ room host most stamp size names. absurd (elsewhere (first_byte _ _ names.1.0) refl);
  hostdirs = λ writer row stamp size names. absurd names;
  indices = λ writer row held stamp size names. absurd (elsewhere (first_byte _ _ names.1.0) refl);
  logs = λ writer row held stamp size names. absurd (elsewhere (first_byte _ _ names.1.0) refl);
  writes = λ writer row held at bytes stamp size names. absurd (elsewhere (first_byte _ _ names.1.0) refl);
  flushes = λ writer row held stamp size names. absurd (elsewhere (first_byte _ _ names.1.0) refl);
  log_syncs = λ writer row stamp size names. absurd names;
  index_syncs = λ writer row stamp size names. absurd names;
  metas = λ writer row stamp size names. absurd (elsewhere (first_byte _ _ names.1.0) refl);
  exits = λ writer row held stamp size names. absurd (elsewhere (first_byte _ _ names.1.0) refl);
  holds = λ room stamp size names. absurd names;
  truncates = λ holder h held put z top item above stamp size names. (h, held, sym names.0);
  renames = λ holder h held to stamp size names. absurd names;
  releases = λ holder h held stamp size names. absurd names;
  starts = λ room f makes stamp size names. absurd ((trunc_no_flattenings stamp size).from f names.1);
  puts = λ flat f held bytes stamp size names. absurd ((trunc_no_flattenings stamp size).from f names.1);
  flat_syncs = λ flat f held stamp size names. absurd names;
  installs = λ flat f held stamp size names. absurd (no_flattening f stamp size names.1);
  packs = λ room host writer f makes numbers stamp size names. absurd ((trunc_no_flattenings stamp size).from f names.1);
  dropping_syncs = λ room host writer is_log numbers stamp size names. absurd names;
  mends = λ room host writer count numbers stamp size names. absurd (elsewhere (first_byte _ _ names.1.0) refl);
  mend_metas = λ room host cover last numbers stamp size names. absurd (elsewhere (first_byte _ _ names.1.0) refl);
  buries = λ room host writer numbers stamp size names. absurd (elsewhere (first_byte _ _ names.1.0) refl);
  mend_holds = λ room stamp size names. absurd names;
}

-- where it puts none there, none comes
none_comes : (m : Moment) (event : Event) (number : ℕ) (name : Name) → IsLawful m.state (event ∷ []) → HasContainer m number name → (MarksIn m.state.table event.caller number event.ask.call → ⊥) → (stamp size : ℕ) → HadTrunc (next_moment m event) number stamp size → HadTrunc m number stamp size
none_comes m event number name lawful c none stamp size now =
    let g = step_acts (NamesTrunc m.state.table event.caller number) m.state event.after event.caller event.ask event.reply c.tree (each_names m.state event.caller number) lawful.1 c.told in
    elim g.2 as (λ _. HadTrunc m number stamp size) [
      | inl same ↦ had g.0 g.1 c.room (ap (λ (t : Tree). slice_get t.rooms number) same ∙ c.there) refl
      | inr a ↦ (let k = keeps_rooms a.step c.tree a.told g.0 a.tells number c.room c.there in had g.0 g.1 k.0 k.1 (k.2.files (trunc_path stamp size) (λ names. none (a.holds stamp size names))))
    ]
  where
    had : (after : Tree) → event.after.store.tree ≡ Some after → (room : Room) → slice_get after.rooms number ≡ Some room → file_at room (trunc_path stamp size) ≡ file_at c.room (trunc_path stamp size) → HadTrunc m number stamp size
    had after told room there same = record {
      is_item = now.is_item;
      bytes = now.bytes;
      there = ap (λ o. file_told o number (trunc_path stamp size)) c.told ∙ ap (λ o. file_in_room o (trunc_path stamp size)) c.there ∙ sym same
          ∙ sym (ap (λ o. file_told o number (trunc_path stamp size)) told ∙ ap (λ o. file_in_room o (trunc_path stamp size)) there) ∙ now.there;
    }

-- ---- a program

module _ (number : ℕ) (name : Name) where
  -- the calls of a front of a run put no truncate into that container
  Leaves : {R : Type 0} → Moment → Program Call Reply R → Type 0
  Leaves {R} m program = (events more : List Event) (result : R) → IsLawful m.state events → AllByRecursion (λ (e : Event). e.caller ≡ 0) events → Runs 0 program (events ++ more) result
      → (stamp size : ℕ) → HadTrunc (moment_after m events) number stamp size → HadTrunc m number stamp size

  leaves_done : {R : Type 0} (m : Moment) (r : R) → Leaves m (done r)
  unfolding Leaves
  leaves_done m r [] more result lawful own runs stamp size had = had
  leaves_done m r (e ∷ events) more result lawful own runs stamp size had = absurd ((runs_done 0 r e (events ++ more) result runs).0 own.0)

  leaves_ask : {R : Type 0} (m : Moment) (q : Call) (k : Reply → Program Call Reply R)
      → ((e : Event) → e.caller ≡ 0 → e.ask ≡ unbroken q → IsLawful m.state (e ∷ []) → ((stamp size : ℕ) → HadTrunc (next_moment m e) number stamp size → HadTrunc m number stamp size) × Leaves (next_moment m e) (k e.reply)) → Leaves m (ask q k)
  unfolding Leaves
  leaves_ask m q k each [] more result lawful own runs stamp size had = had
  leaves_ask m q k each (e ∷ events) more result lawful own runs stamp size had = elim (runs_next 0 q k e (events ++ more) result runs) as (λ _. HadTrunc m number stamp size) [
    | inl (other, r) ↦ absurd (other own.0)
    | inr (mine, asked, r) ↦ (let one = each e own.0 asked (lawful.0, lawful.1, tt) in one.0 stamp size (one.1 events more result lawful.2 own.1 r stamp size had))
  ]

  -- a call that puts none
  quiet : (m : Moment) (q : Call) (e : Event) → MarksNone q → MovesNone q → HasContainer m number name → e.ask ≡ unbroken q → IsLawful m.state (e ∷ [])
      → ((stamp size : ℕ) → HadTrunc (next_moment m e) number stamp size → HadTrunc m number stamp size) × HasContainer (next_moment m e) number name
  quiet m q e marks moves c asks lawful =
      let s = stays_next m e number name lawful c in
      (s.truncates (subst (λ (a : Ask). MarksNone a.call) (sym asks) marks), s.named (subst (λ (a : Ask). MovesNone a.call) (sym asks) moves))

  leaves_go : {R : Type 0} (m : Moment) (holder : ℕ) (outcome : Result R Stuck) → HasContainer m number name → Leaves m (lets_go holder outcome)
  leaves_go m holder outcome c = leaves_ask m (call.Release holder) _ (λ e own asks lawful. ((quiet m (call.Release holder) e tt tt c asks lawful).0, leaves_done (next_moment m e) _))

  -- by this hold no truncate comes there
  abbrev HoldsElse : Moment → ℕ → Type 0
  HoldsElse m holder = (h : Holder) → holder_at holder m.state.table.holders ≡ Some h → h.room ≡ number → ⊥

  its_own : (caller : ℕ) (o : Option Holder) (h : Holder) → its_hold caller o ≡ Some h → o ≡ Some h
  its_own caller None h is = is
  its_own caller (Some x) h is = elim (nat_eq x.owner caller) as (λ b. (if b then Some x else None) ≡ Some h → Some x ≡ Some h) [ true ↦ λ e. e | false ↦ λ e. absurd (cc) ] is

  leaves_marks : (m : Moment) (size holder top : ℕ) → HasContainer m number name → HoldsElse m holder → Leaves m (marks size holder top)
  leaves_marks m size holder top c else_held = leaves_ask m (call.Mark holder size top) _ (λ e own asks lawful.
      let none : MarksIn m.state.table e.caller number e.ask.call → ⊥ = subst (λ (a : Ask). MarksIn m.state.table e.caller number a.call → ⊥) (sym asks) (λ marks. else_held marks.0 (its_own e.caller (holder_at holder m.state.table.holders) marks.0 marks.1) marks.2) in
      (none_comes m e number name lawful c none, leaves_go (next_moment m e) holder (marked e.reply) ((stays_next m e number name lawful c).named (subst (λ (a : Ask). MovesNone a.call) (sym asks) tt))))

  -- a look leaves holds as they are
  looked : (m : Moment) (e : Event) (room holder : ℕ) (look : Look) → e.ask ≡ unbroken (call.Look room look) → IsLawful m.state (e ∷ []) → HoldsElse m holder → HoldsElse (next_moment m e) holder
  looked m e room holder look asks lawful else_held h found =
      let k : KeepsHolders m.state.table e.after.table = answers_keep m.state e.reply e.after e.caller (call.Look room look) tt (answered m.state e.caller (call.Look room look) e.ask e.reply e.after asks lawful.1) in
      else_held h (ap (λ hs. holder_at holder hs) (sym k.holders) ∙ found)

  leaves_or_go : {A R : Type 0} (m : Moment) (holder : ℕ) (next : A → Tries R) (result : Result A Stuck) → HasContainer m number name → ((a : A) → Leaves m (next a)) → Leaves m (or_lets_go holder next result)
  leaves_or_go m holder next (Ok a) c leaves = leaves a
  leaves_or_go {A} {R} m holder next (Err why) c leaves = leaves_go {R = R} m holder (Err why) c

  leaves_truncs : (m : Moment) (size room holder top : ℕ) → HasContainer m number name → HoldsElse m holder → Leaves m (lists_truncs size room holder top)
  leaves_truncs m size room holder top c else_held = leaves_ask m (call.Look room _) _ (λ e own asks lawful.
      let q = quiet m (call.Look room _) e tt tt c asks lawful in
      (q.0, leaves_or_go (next_moment m e) holder (marks size holder) _ q.1 (λ t. leaves_marks (next_moment m e) size holder t q.1 (looked m e room holder _ asks lawful else_held))))

  leaves_metadata : (m : Moment) (size room holder : ℕ) → HasContainer m number name → HoldsElse m holder → Leaves m (lists_metadata size room holder)
  leaves_metadata m size room holder c else_held = leaves_ask m (call.Look room _) _ (λ e own asks lawful.
      let q = quiet m (call.Look room _) e tt tt c asks lawful in
      (q.0, leaves_or_go (next_moment m e) holder (lists_truncs size room holder) _ q.1 (λ t. leaves_truncs (next_moment m e) size room holder t q.1 (looked m e room holder _ asks lawful else_held))))

  -- ---- the container that is held

  -- a hold of another container
  held_else : (m : Moment) (e : Event) (room holder : ℕ) → IsSoundAt m → e.ask ≡ unbroken (call.Hold room) → IsLawful m.state (e ∷ []) → e.reply ≡ reply.Holding holder → (room ≡ number → ⊥) → HoldsElse (next_moment m e) holder
  held_else m e room holder sound asks lawful told other =
      elim (match_cases (draw_check m.state room) (HoldsRoom e.caller room m.state e.reply e.after) (λ why. Refuses why m.state e.reply e.after) (answered m.state e.caller (call.Hold room) e.ask e.reply e.after asks lawful.1)) as (λ _. HoldsElse (next_moment m e) holder) [
        | inl (none, h) ↦ on_told h.told h.outcome
        | inr (why, is, refused) ↦ absurd (not_both why e.reply told refused.0)
      ]
    where
      not_both : (why : Refusal) (r : Reply) → r ≡ reply.Holding holder → r ≡ reply.Refused why → ⊥
      not_both why r p q = cc

      number_is : (a b : ℕ) (r : Reply) → r ≡ reply.Holding a → r ≡ reply.Holding b → a ≡ b
      number_is a b r p q = cc

      none_there : (h : Holder) (o : Option Holder) → o ≡ None → o ≡ Some h → ⊥
      none_there h o none some = cc

      pushed : (after : Table) → after ≡ record m.state.table { holders = m.state.table.holders ++ holding m.state e.caller room ∷ [] } → next_id m.state ≡ holder → (h : Holder) → holder_at holder after.holders ≡ Some h → h.room ≡ number → ⊥
      pushed after is same h found here =
          elim (held_before-push m.state.table.holders (holding m.state e.caller room) holder h (ap (λ (t : Table). holder_at holder t.holders) (sym is) ∙ found)) as (λ _. ⊥) [
            | inl old ↦ none_there h (holder_at (next_id m.state) m.state.table.holders) (next_not_held m.state.mount m.state.serial m.state.marks m.state.table.holders sound.regular.holders) (ap (λ k. holder_at k m.state.table.holders) same ∙ old)
            | inr new ↦ other (ap (λ (x : Holder). x.room) (sym new.1) ∙ here)
          ]

      on_told : (t : Told) → HoldOutcome (holding m.state e.caller room) m.state.table t e.reply e.after.table → HoldsElse (next_moment m e) holder
      on_told (Ok Made) (is, table) = pushed e.after.table table (number_is (next_id m.state) holder e.reply is told)
      on_told (Ok NoFolder) (is, table) = absurd (not_both _ e.reply told is)
      on_told (Ok (NotEmpty least)) (inl (host, writer, at, is), table) = absurd (not_both _ e.reply told is)
      on_told (Ok (NotEmpty least)) (inr (none, is), table) = absurd (cc)
      on_told (Ok answer) (is, table) = absurd (cc)
      on_told (Err trouble_of.Fault) (is, table) = absurd (cc)
      on_told (Err trouble_of.NoMemory) (is, table) = absurd (cc)

  leaves_held : (m : Moment) (size room : ℕ) (rep : Reply) → HasContainer m number name → ((holder : ℕ) → rep ≡ reply.Holding holder → HoldsElse m holder) → Leaves m (given (holder_in rep) (failure rep) (lists_metadata size room))
  leaves_held m size room (reply.Holding holder) c else_held = leaves_metadata m size room holder c (else_held holder refl)
  leaves_held m size room rep c else_held = leaves_done m _

  leaves_hold : (m : Moment) (size room : ℕ) → IsSoundAt m → HasContainer m number name → (room ≡ number → ⊥) → Leaves m (holds room (lists_metadata size room))
  leaves_hold m size room sound c other = leaves_ask m (call.Hold room) _ (λ e own asks lawful.
      let q = quiet m (call.Hold room) e tt tt c asks lawful in
      (q.0, leaves_held (next_moment m e) size room e.reply q.1 (λ holder told. held_else m e room holder sound asks lawful told other)))

  -- ---- the container that is found

  module _ (found : Name) (other : name ≡ found → ⊥) where
    found_told : (table : Table) (tree after : Tree) (told : Told) (room : ℕ) → reply.Room room ≡ (find_outcome table told).reply → Tells (find_room found) tree told after → IsRoomOf tree found room
    found_told table tree after (Ok (Number n)) room e t = subst (λ k. IsRoomOf tree found k) (number_is n room e) (look_answered (find_room found) tree (FindTells tree found) (find_tells tree found) (Number n) after t).1
      where
        number_is : (a b : ℕ) → reply.Room b ≡ reply.Room a → a ≡ b
        number_is a b is = cc
    found_told table tree after (Ok Absent) room e t = absurd (cc)
    found_told table tree after (Ok answer) room e t = absurd (look_answered (find_room found) tree (FindTells tree found) (find_tells tree found) answer after t).1
    found_told table tree after (Err trouble_of.Fault) room e t = absurd (cc)
    found_told table tree after (Err trouble_of.NoMemory) room e t = absurd (cc)

    -- it is another one
    found_else : (m : Moment) (e : Event) (room : ℕ) → IsSoundAt m → HasContainer m number name → e.ask ≡ unbroken (call.Find found) → IsLawful m.state (e ∷ []) → e.reply ≡ reply.Room room → room ≡ number → ⊥
    found_else m e room sound c asks lawful told same =
        let makes = (answered m.state e.caller (call.Find found) e.ask e.reply e.after asks lawful.1).makes in
        let t = acts_told (find_room found) m.state.store e.after.store c.tree makes.told c.told makes.made in
        let is : IsRoomOf c.tree found room = found_told m.state.table c.tree t.0 makes.told room (sym told ∙ makes.answered) t.2 in
        let both : Some c.room ≡ Some is.room = sym c.there ∙ ap (λ k. slice_get c.tree.rooms k) (sym same) ∙ is.has_room in
        let one : c.room ≡ is.room = cc in
        other (sym c.is ∙ ap (λ (r : Room). r.name) one ∙ is.named)

    leaves_found : (m : Moment) (size : ℕ) (rep : Reply) → IsSoundAt m → HasContainer m number name → ((room : ℕ) → rep ≡ reply.Room room → room ≡ number → ⊥) → Leaves m (given (room_in rep) (failure rep) (λ room. holds room (lists_metadata size room)))
    leaves_found m size (reply.Room room) sound c other_room = leaves_hold m size room sound c (other_room room refl)
    leaves_found m size rep sound c other_room = leaves_done m _

    leaves_truncate : (m : Moment) (size : ℕ) → IsSoundAt m → HasContainer m number name → Leaves m (greets_first (truncate_program found size))
    leaves_truncate m size sound c = leaves_ask m call.Greet _ (λ g own greets lawful.
        let q = quiet m call.Greet g tt tt c greets lawful in
        let next : Moment = next_moment m g in
        let sound_next : IsSoundAt next = sound_after m (g ∷ []) lawful sound in (
          q.0,
          leaves_ask next (call.Find found) _ (λ e own_find asks lawful_find.
              let p = quiet next (call.Find found) e tt tt q.1 asks lawful_find in
              (p.0, leaves_found (next_moment next e) size e.reply (sound_after next (e ∷ []) lawful_find sound_next) p.1 (λ room told. found_else next e room sound_next q.1 asks lawful_find told))),
        ))

    pub truncate_leaves : (m : Moment) (size : ℕ) → IsSoundAt m → HasContainer m number name → (events more : List Event) (result : Result ℕ Stuck) → IsLawful m.state events → AllByRecursion (λ (e : Event). e.caller ≡ 0) events → Runs 0 (greets_first (truncate_program found size)) (events ++ more) result
        → (stamp put : ℕ) → HadTrunc (moment_after m events) number stamp put → HadTrunc m number stamp put
    unfolding Leaves
    truncate_leaves m size sound c events more result lawful own runs stamp put had = leaves_truncate m size sound c events more result lawful own runs stamp put had
