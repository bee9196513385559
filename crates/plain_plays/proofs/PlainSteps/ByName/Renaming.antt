-- A rename is a step of a plain machine, where nobody else calls.
use Rattle.std.proofs.Common.{◌≡◌, ◌+◌, ℕ, false, List, Option, Some, None, Result, Ok, Err, refl, sym, ap, ◌∙◌, inl, inr, subst, arith}
use Rattle.std.specs.Prelude.{MatchOption, slice_get}
use Rattle.std.proofs.lemmas.Bool.{cases_eq}
use Rattle.plfs_types.specs.declared.names.Path.{Path}
use Rattle.script_lang.specs.declared.line.Outcome.{Outcome}
use Rattle.script_lang.specs.declared.line.Outcome.TheVariants.{Refused as Refusing, Renamed}
use Rattle.script_lang.specs.declared.line.Why.TheVariants as why
use Rattle.script_lang.specs.declared.script.ActorDecl.{ActorDecl}
use Rattle.script_lang.specs.declared.script.Statement.TheVariants.{Rename}
use Rattle.store_api.specs.declared.step.Answer.TheVariants as answer
use Rattle.store_api.specs.declared.store.Trouble.TheVariants as trouble
use Rattle.store_api.specs.declared.tree.Room.{Room as RoomThere}
use Rattle.store_laws.specs.Changes.{RoomRenamed, with_room}
use Rattle.store_laws.specs.Files.{file_at}
use Rattle.store_laws.specs.There.{IsFree, IsRoomOf}
use Rattle.store_laws.proofs.Facts.{acts_told, file_at_same, has_folder_same, rename_room_told}
use Rattle.mount_model.specs.declared.call.Call.TheVariants.{Move}
use Rattle.mount_model.specs.declared.reply.Refusal.TheVariants as refusal
use Rattle.mount_model.specs.declared.reply.Reply.{Reply}
use Rattle.mount_model.specs.declared.reply.Reply.TheVariants.{Done, Refused}
use Rattle.mount_model.specs.declared.row.Holder.{Holder}
use Rattle.mount_model.specs.History.{Event}
use Rattle.mount_model.specs.Holding.{RenamesRoom, rename_outcome, rename_step}
use Rattle.mount_model.specs.Making.{Refuses, Told}
use Rattle.mount_model.specs.Paths.{Name}
use Rattle.container_layout.specs.Paths.{openhosts}
use Rattle.mount_model.specs.State.{State, Table}
use Rattle.mount_model.specs.Step.{Answers}
use Rattle.mount_model.specs.Table.{holder_of}
use Rattle.mount_model.proofs.Facts.{match_cases}
use Rattle.mount_sound.specs.Owed.{IsLawful}
use Rattle.mount_model.specs.declared.stuck.Stuck.{Stuck}
use Rattle.mount_model.specs.declared.stuck.Stuck.TheVariants as stuck
use Rattle.mount_model.specs.FlowReplies.{failure, given, room_in}
use Rattle.mount_model.specs.Running.{Runs}
use Rattle.reader_laws.specs.Moments.{IsSoundAt, Moment, moment_after, next_moment}
use Rattle.outcomes.specs.Outcomes.{rename_outcome as said_of}
use Rattle.trunc_rename.specs.Holding.{holds, lets_go}
use Rattle.trunc_rename.specs.Renaming.{moved, moves, rename_program}
use Rattle.writer_flow.specs.declared.handle.WriterHandle.{WriterHandle}
use Rattle.plain_machine.specs.Machine.{Plain, PlainActor, PlainRoom}
use Rattle.plain_machine.specs.Becoming.{drawn, with_room as machine_with}
use Rattle.plain_machine.specs.ByName.{Holds, named}
use Rattle.plain_machine.specs.Cases.{IsRefused}
use Rattle.plain_machine.specs.Finding.{find}
use Rattle.plain_machine.specs.Statements.{Takes}
use Rattle.mount_model.specs.History.{AreBy}
use Rattle.plain_plays.specs.Mirrors.{Mirrors, MirrorsRoom, room_then, room_told}
use Rattle.plain_plays.specs.Served.{GoesWell}
use Rattle.plain_plays.specs.Stepping.{HasActor, TakesStep}
use Rattle.plain_plays.proofs.PlainSteps.Reaching.{ended, over_alone}
use Rattle.plain_plays.proofs.PlainSteps.Steps.Alone.{First, first_call}
use Rattle.plain_plays.proofs.PlainSteps.ByName.Found.{finds, no_room, on_room, step_later}
use Rattle.plain_plays.proofs.PlainSteps.ByName.Holding.{HasToItself, table_kept}
use Rattle.plain_plays.proofs.PlainSteps.ByName.Holds.{holding_takes}
use Rattle.plain_plays.proofs.PlainSteps.ByName.LetGo.{HasDone, ends_with, plain_room}
use Rattle.plain_plays.proofs.PlainSteps.ByName.Looking.{changes_nothing, handle_alike}
use Rattle.plain_plays.proofs.PlainSteps.Steps.Making.{found_there, none_there}
use Rattle.plain_plays.proofs.PlainSteps.Steps.Rooms.{set_here, set_there}
use Rattle.plain_plays.proofs.PlainSteps.ByName.Turning.{KeepsTable, Turns, all_kept, truncs_kept, turns_none, turns_so}

-- what the machine does with the room, where it has it to itself
abbrev Moves : Name → ℕ → PlainRoom → Outcome → Plain → Plain → Type 0
Moves to number room outcome new q = MatchOption (find q to) ((outcome ≡ Renamed) × (new ≡ machine_with number (named to room) q)) (λ other. IsRefused outcome why.Exists q new)

moved_told : (table : Table) (told : Told) → Done ≡ (rename_outcome table told).reply → (told ≡ Ok answer.Made) × ((rename_outcome table told).table ≡ table)
moved_told table (Ok answer.Made) e = (refl, refl)
moved_told table (Ok answer.TargetThere) e = absurd (cc)
moved_told table (Ok answer.NoRoom) e = absurd (cc)
moved_told table (Ok answer.NoFolder) e = absurd (cc)
moved_told table (Ok other) e = absurd (cc)
moved_told table (Err trouble.Fault) e = absurd (cc)
moved_told table (Err trouble.NoMemory) e = absurd (cc)

-- the new name was taken
exists_told : (table : Table) (told : Told) → Refused refusal.Exists ≡ (rename_outcome table told).reply → (told ≡ Ok answer.TargetThere) × ((rename_outcome table told).table ≡ table)
exists_told table (Ok answer.TargetThere) e = (refl, refl)
exists_told table (Ok answer.Made) e = absurd (cc)
exists_told table (Ok answer.NoRoom) e = absurd (cc)
exists_told table (Ok answer.NoFolder) e = absurd (cc)
exists_told table (Ok other) e = absurd (cc)
exists_told table (Err trouble.Fault) e = absurd (cc)
exists_told table (Err trouble.NoMemory) e = absurd (cc)

-- ---- names, where a room turns that keeps its own

module _ (m x : Moment) (s : IsSoundAt m) (now : IsSoundAt x) (n : ℕ) (old new : RoomThere) (t : Turns n old new m x) (same : new.name ≡ old.name) where
  at_m : (k : ℕ) → room_then m k ≡ slice_get s.shape.tree.rooms k
  at_m k = ap (λ y. room_told y k) s.shape.told

  at_x : (k : ℕ) → room_then x k ≡ slice_get now.shape.tree.rooms k
  at_x k = ap (λ y. room_told y k) now.shape.told

  -- a room of the one tree is one of the other, of the same name
  later_room : (k : ℕ) (r : RoomThere) → slice_get s.shape.tree.rooms k ≡ Some r → (y : RoomThere) × (slice_get now.shape.tree.rooms k ≡ Some y) × (y.name ≡ r.name)
  later_room k r there = elim (cases_eq k n) as (λ _. (y : RoomThere) × (slice_get now.shape.tree.rooms k ≡ Some y) × (y.name ≡ r.name)) [
    | inl here ↦
        let one : old ≡ r = (let both : Some old ≡ Some r = sym t.was ∙ at_m n ∙ ap (λ j. slice_get s.shape.tree.rooms j) (sym here) ∙ there in cc) in
        (new, ap (λ j. slice_get now.shape.tree.rooms j) here ∙ sym (at_x n) ∙ t.now, same ∙ ap (λ (z : RoomThere). z.name) one)
    | inr other ↦ (r, sym (at_x k) ∙ t.others k other ∙ at_m k ∙ there, refl)
  ]

  earlier_room : (k : ℕ) (r : RoomThere) → slice_get now.shape.tree.rooms k ≡ Some r → (y : RoomThere) × (slice_get s.shape.tree.rooms k ≡ Some y) × (y.name ≡ r.name)
  earlier_room k r there = elim (cases_eq k n) as (λ _. (y : RoomThere) × (slice_get s.shape.tree.rooms k ≡ Some y) × (y.name ≡ r.name)) [
    | inl here ↦
        let one : new ≡ r = (let both : Some new ≡ Some r = sym t.now ∙ at_x n ∙ ap (λ j. slice_get now.shape.tree.rooms j) (sym here) ∙ there in cc) in
        (old, ap (λ j. slice_get s.shape.tree.rooms j) here ∙ sym (at_m n) ∙ t.was, sym same ∙ ap (λ (z : RoomThere). z.name) one)
    | inr other ↦ (r, sym (at_m k) ∙ sym (t.others k other) ∙ at_x k ∙ there, refl)
  ]

  free_before : (to : Name) → IsFree now.shape.tree to → IsFree s.shape.tree to
  free_before to free k r there named = let y = later_room k r there in free k y.0 y.1 (y.2 ∙ named)

  taken_before : (to : Name) (k : ℕ) → IsRoomOf now.shape.tree to k → IsRoomOf s.shape.tree to k
  taken_before to k is =
      let y = earlier_room k is.room is.has_room in
      record {
        room = y.0;
        has_room = y.1;
        named = y.2 ∙ is.named;
        first = λ j other less there named. let z = later_room j other there in is.first j z.0 less z.1 (z.2 ∙ named);
      }

abbrev says : Unit {0} → Outcome
says done = Renamed

module _ (m : Moment) (me : ℕ) (p : Plain) (actor : PlainActor) (handle : Option WriterHandle) (declared : ActorDecl) (name to : Name) (o : Mirrors m p) (has : HasActor m me p handle actor) (n : ℕ) (room : PlainRoom) (there : slice_get p.rooms n ≡ Some room) where
  -- behind the hold
  module _ (holder : ℕ) (x : Moment) (sound : IsSoundAt x) (h : HasToItself me n holder m x) (shows : MirrorsRoom m n h.old room) (takes_on : (outcome : Outcome) (q : Plain) → Moves to n room outcome q (drawn p) → Takes me declared actor p (Rename name to) outcome q) (free : room.is_held ≡ false) (events : List Event) (out : Result (Unit {0}) Stuck) (lawful : IsLawful x.state events) (well : GoesWell me events) (by : AreBy me events) (runs : Runs me (moves to holder) events out) where
    abbrev Call1 : First x me (Move holder to) (λ reply. lets_go holder (moved reply)) events out
    Call1 = first_call x me (Move holder to) (λ reply. lets_go holder (moved reply)) events out sound lawful well by runs

    abbrev After : Moment
    After = next_moment x Call1.event

    abbrev Ends : Moment → Type 0
    Ends last = TakesStep m me declared actor p (Rename name to) (said_of out) last handle

    abbrev Does : Type 0
    Does = Ends (moment_after x events)

    in_tree : slice_get sound.shape.tree.rooms n ≡ Some h.new
    in_tree = sym (ap (λ t. room_told t n) sound.shape.told) ∙ h.turns.now

    -- the call was made on the caller's hold
    record OnIt (reply : Reply) : Type 0 where
      g : Holder
      here : g.room ≡ n
      does : RenamesRoom g to x.state reply Call1.event.after

    on_it : (reply : Reply) → Call1.event.reply ≡ reply → (reply ≡ Refused refusal.NotHolder → ⊥) → OnIt reply
    on_it reply told other =
        let a = subst (λ y. Answers x.state me (Move holder to) y Call1.event.after) told Call1.answers in
        elim (match_cases (holder_of me holder x.state.table.holders) (Refuses refusal.NotHolder x.state reply Call1.event.after) (λ g. RenamesRoom g to x.state reply Call1.event.after) a) as (λ _. OnIt reply) [
          | inl (none, refused) ↦ absurd (other refused.0)
          | inr (g, some, d) ↦ let one : g ≡ h.h = (let both : Some g ≡ Some h.h = sym some ∙ h.holds in cc) in record { g = g; here = ap (λ (y : Holder). y.room) one ∙ h.room_is; does = d }
        ]

    -- what the call left beside the tree
    left_so : (table : Call1.event.after.table ≡ x.state.table) → (marks : Call1.event.after.marks ≡ x.state.marks) → (mount : Call1.event.after.mount ≡ x.state.mount) → (serial : Call1.event.after.serial ≡ x.state.serial) → KeepsTable x After
    left_so table marks mount serial = table_kept x Call1.event (Move holder to) Call1.asked refl (ap (λ (y : Table). y.writers) table) marks mount (omega (arith, serial))

    -- the room has its new name
    renamed_so : Call1.event.reply ≡ Done → Does
    renamed_so told =
        let i = on_it Done told (λ clash. cc) in
        let acts = i.does.makes in
        let t = acts_told (rename_step i.g to) x.state.store Call1.event.after.store sound.shape.tree acts.told sound.shape.told acts.made in
        let made = moved_told x.state.table acts.told acts.answered in
        let c : RoomRenamed sound.shape.tree i.g.room to t.0 = (rename_room_told i.g.room to sound.shape.tree acts.told t.0 t.2).done made.0 in
        let was : slice_get sound.shape.tree.rooms n ≡ Some c.room = ap (λ k. slice_get sound.shape.tree.rooms k) (sym i.here) ∙ c.has_room in
        let one : c.room ≡ h.new = (let both : Some c.room ≡ Some h.new = sym was ∙ in_tree in cc) in
        let table : Call1.event.after.table ≡ x.state.table = ap (λ (y : State). y.table) acts.after ∙ made.1 in
        let serial : Call1.event.after.serial ≡ x.state.serial = ap (λ (y : State). y.serial) acts.after in
        let turns : Turns n h.new c.new x After = turns_so n h.new c.new x After sound.shape.tree t.0 sound.shape.told t.1 in_tree (c.gives ∙ ap (λ k. with_room sound.shape.tree k c.new) i.here) (left_so table (ap (λ (y : State). y.marks) acts.after) (ap (λ (y : State). y.mount) acts.after) serial) in
        let files : (path : Path) → file_at c.new path ≡ file_at h.new path = λ path. file_at_same h.new c.new path (c.same_files ∙ ap (λ (y : RoomThere). y.files) one) in
        let d : HasDone n h.new c.new x After = record { turns = turns; folder = has_folder_same h.new c.new openhosts (c.same_folders ∙ ap (λ (y : RoomThere). y.folders) one); holders = ap (λ (y : Table). y.holders) table; serial = serial } in
        let none : find p to ≡ None = none_there m p o.sound.shape.tree to o o.sound.shape.told (free_before m x o.sound sound n h.old h.new h.turns h.same.name to c.free) in
        subst Ends Call1.ends
        (ends_with says m me p actor handle declared (Rename name to) o has n room there holder x h shows After Call1.sound c.new d (all_kept h.new c.new files) Call1.rest (Ok tt) out Call1.whole.2 Call1.well Call1.by (subst (λ y. Runs me (lets_go holder (moved y)) Call1.rest out) told Call1.runs)
        Renamed (machine_with n (named to room) (drawn p)) to room.truncs refl c.named
        (λ last final all kept final_files. truncs_kept n h.old final m last all (λ path. kept path (files path)) room.truncs shows.truncs)
        (set_here p.rooms n room (named to room) there ∙ ap (λ b. Some (plain_room to b room.truncs room.writers)) free)
        (λ j other. set_there p.rooms n j (named to room) other) refl (ap (λ (y : State). y.times) acts.after ∙ h.times ∙ o.times) refl (ap (λ k. k + 1) o.serial)
        (takes_on Renamed (machine_with n (named to room) (drawn p)) (subst (λ f. MatchOption f ((Renamed ≡ Renamed) × (machine_with n (named to room) (drawn p) ≡ machine_with n (named to room) (drawn p))) (λ other. IsRefused Renamed why.Exists (drawn p) (machine_with n (named to room) (drawn p)))) (sym none) (refl, refl))))

    -- another room has the new name
    exists_so : Call1.event.reply ≡ Refused refusal.Exists → (k : ℕ) → IsRoomOf sound.shape.tree to k → Does
    exists_so told k is =
        let i = on_it (Refused refusal.Exists) told (λ clash. cc) in
        let acts = i.does.makes in
        let t = acts_told (rename_step i.g to) x.state.store Call1.event.after.store sound.shape.tree acts.told sound.shape.told acts.made in
        let kept_so = exists_told x.state.table acts.told acts.answered in
        let stays = (rename_room_told i.g.room to sound.shape.tree acts.told t.0 t.2).stays answer.TargetThere kept_so.0 (λ clash. cc) in
        let table : Call1.event.after.table ≡ x.state.table = ap (λ (y : State). y.table) acts.after ∙ kept_so.1 in
        let serial : Call1.event.after.serial ≡ x.state.serial = ap (λ (y : State). y.serial) acts.after in
        let turns : Turns n h.new h.new x After = turns_none n h.new x After h.turns.now (t.1 ∙ ap Some stays.0 ∙ sym sound.shape.told) (left_so table (ap (λ (y : State). y.marks) acts.after) (ap (λ (y : State). y.mount) acts.after) serial) in
        let d : HasDone n h.new h.new x After = record { turns = turns; folder = refl; holders = ap (λ (y : Table). y.holders) table; serial = serial } in
        let found : find p to ≡ Some k = found_there m p o.sound.shape.tree to k o o.sound.shape.told (taken_before m x o.sound sound n h.old h.new h.turns h.same.name to k is) in
        subst Ends Call1.ends
        (ends_with says m me p actor handle declared (Rename name to) o has n room there holder x h shows After Call1.sound h.new d (all_kept h.new h.new (λ path. refl)) Call1.rest (Err (stuck.Refused refusal.Exists)) out Call1.whole.2 Call1.well Call1.by (subst (λ y. Runs me (lets_go holder (moved y)) Call1.rest out) told Call1.runs)
        (Refusing why.Exists) (drawn p) room.name room.truncs refl (h.same.name ∙ shows.name)
        (λ last final all kept final_files. truncs_kept n h.old final m last all (λ path. kept path refl) room.truncs shows.truncs)
        (there ∙ ap (λ b. Some (plain_room room.name b room.truncs room.writers)) free)
        (λ j other. refl) refl (ap (λ (y : State). y.times) acts.after ∙ h.times ∙ o.times) refl (ap (λ c. c + 1) o.serial)
        (takes_on (Refusing why.Exists) (drawn p) (subst (λ f. MatchOption f ((Refusing why.Exists ≡ Renamed) × (drawn p ≡ machine_with n (named to room) (drawn p))) (λ other. IsRefused (Refusing why.Exists) why.Exists (drawn p) (drawn p))) (sym found) (refl, refl))))

    moves_takes : Does
    moves_takes = elim Call1.served as (λ _. Does) [
      | inl told ↦ renamed_so told
      | inr (reason, told, because) ↦ elim because as (λ _. Does) [
        | inl lost ↦ absurd (let clash : Some h.h ≡ None = sym h.holds ∙ lost.1 in cc)
        | inr (is, shown) ↦ let other = shown sound.shape.tree sound.shape.told in exists_so (told ∙ ap Refused is) other.0 other.1
      ]
    ]

-- A rename ends as the machine's does.
pub rename_takes : (m : Moment) (me : ℕ) (p : Plain) (handle : Option WriterHandle) (actor : PlainActor) (declared : ActorDecl) (name to : Name) (events : List Event) (out : Result (Unit {0}) Stuck) → IsLawful m.state events → GoesWell me events → AreBy me events → Mirrors m p → HasActor m me p handle actor → Runs me (rename_program name to) events out
    → TakesStep m me declared actor p (Rename name to) (said_of out) (moment_after m events) handle
rename_takes m me p handle actor declared name to events out lawful well by o has runs =
    elim (finds m me p o name (λ reply. given (room_in reply) (failure reply) (λ room. holds room (moves to))) events out lawful well by runs) as (λ _. TakesStep m me declared actor p (Rename name to) (said_of out) (moment_after m events) handle) [
      | inr (g, alike, none) ↦
          let missing : Err (stuck.Refused refusal.NoRoom) ≡ out = ended me (Err (stuck.Refused refusal.NoRoom)) g.rest out g.runs in
          let same : g.mid ≡ moment_after m events = ap (moment_after g.mid) (sym (over_alone me (Err (stuck.Refused refusal.NoRoom)) g.rest out g.by g.runs)) ∙ g.ends in
          subst (λ last. TakesStep m me declared actor p (Rename name to) (said_of out) last handle) same
          (changes_nothing m g.mid alike g.sound me declared p actor (Rename name to) (said_of out) handle o has (no_room p name (said_of out) p (λ number room. Holds p room (said_of out) p (Moves to number room (said_of out) p)) none (ap said_of (sym missing), refl)))
      | inl (n, g, f) ↦
          let has_then : HasActor g.mid me p handle actor = record { there = has.there; its_own = handle_alike m g.mid f.alike g.sound p me handle actor.writer has.its_own } in
          let takes_on : (outcome : Outcome) (q : Plain) → Holds p f.room outcome q (Moves to n f.room outcome q) → Takes me declared actor p (Rename name to) outcome q = λ outcome q does. on_room p name outcome q (λ number room. Holds p room outcome q (Moves to number room outcome q)) n f.room f.is f.there does in
          subst (λ last. TakesStep m me declared actor p (Rename name to) (said_of out) last handle) g.ends
          (step_later m g.mid (moment_after g.mid g.rest) me declared actor p (Rename name to) (said_of out) handle f.alike g.sound
          (holding_takes says g.mid me p actor handle declared (Rename name to) f.mirrors has_then n f.room f.there f.old f.at f.has f.had (λ outcome q. Moves to n f.room outcome q) takes_on (moves to) g.rest out g.lawful g.well g.by g.runs
          (λ holder x sound h one next_takes free none rest lawful_then well_then by_then runs_then.
          moves_takes g.mid me p actor handle declared name to f.mirrors has_then n f.room f.there holder x sound h (subst (λ y. MirrorsRoom g.mid n y f.room) (sym one) f.has) next_takes free rest out lawful_then well_then by_then runs_then)))
    ]
