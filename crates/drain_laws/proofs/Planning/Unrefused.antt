-- What the source replies to a search, and to a sync in a container: what was asked for, or the store failed, or no container has the name.
use Rattle.std.proofs.Common.{◌≡◌, ◌≢◌, ℕ, nat_eq, Bool, false, [], ◌∷◌, Option, Some, None, refl, ap, sym, ◌∙◌, ◌⊎◌, inl, inr, subst, arith}
use Rattle.std.specs.Prelude.{Result, Ok, Err, slice_get}
use Rattle.std.proofs.lemmas.Bool.Decides.{nat_tests}
use Rattle.plfs_types.specs.Names.{IsLogicalName}
use Rattle.store_api.specs.declared.step.Answer.{Answer}
use Rattle.store_api.specs.declared.step.Answer.TheVariants.{Absent, Made, NoRoom as NoSuchRoom, Number}
use Rattle.store_api.specs.declared.store.Trouble.TheVariants.{Fault as ToldFault, NoMemory as ToldNoMemory}
use Rattle.store_api.specs.declared.tree.Room.{Room}
use Rattle.store_api.specs.Acts.{Acts}
use Rattle.store_api.specs.Step.{find_room}
use Rattle.store_laws.specs.Says.{FindTells}
use Rattle.store_laws.specs.There.{IsFree}
use Rattle.store_laws.proofs.Facts.{acts_told, find_tells, look_answered, sync_told}
use Rattle.mount_model.specs.declared.call.Call.TheVariants.{Find, SyncDropping}
use Rattle.mount_model.specs.declared.reply.Refusal.{Refusal}
use Rattle.mount_model.specs.declared.reply.Refusal.TheVariants.{NoRoom}
use Rattle.mount_model.specs.declared.reply.Reply.{Reply}
use Rattle.mount_model.specs.declared.reply.Reply.TheVariants as reply_of
use Rattle.mount_model.specs.Finding.{find_outcome}
use Rattle.mount_model.specs.History.{Event}
use Rattle.mount_model.specs.Making.{Refuses, Told, room_check}
use Rattle.mount_model.specs.Paths.{Name, access_path, dropping_path}
use Rattle.mount_model.specs.Recovering.{SyncsIt, done_outcome, sync_dropping_step}
use Rattle.mount_model.specs.State.{State}
use Rattle.mount_model.specs.Step.{Answers}
use Rattle.mount_model.proofs.Facts.{match_cases}
use Rattle.mount_sound.specs.Owed.{IsLawful}
use Rattle.mount_undamaged.specs.Damage.{ShowsNoDamage}
use Rattle.mount_undamaged.proofs.Facts.{step_shows}
use Rattle.mount_model.specs.declared.stuck.Stuck.TheVariants as stuck
use Rattle.mount_model.specs.Running.{unbroken}
use Rattle.reader_laws.specs.Moments.{IsSoundAt, Moment, file_in_room, file_told}
use Rattle.reader_laws.specs.Failing.{IsContainerAt}
use Rattle.reader_laws.proofs.Calls.Troubles.{answered}
use Rattle.reader_laws.proofs.Soundness.LookEnds.{container_of}
use Rattle.drain_copy.specs.declared.outcome.DrainStuck.{DrainStuck}
use Rattle.drain_copy.specs.declared.outcome.DrainStuck.TheVariants.{Source}
use Rattle.drain_copy.specs.Telling.{found_room, kept}
use Rattle.drain_sound.proofs.Facts.{no_marks}

not_marks : (room marks : ℕ) → room ≢ marks → nat_eq room marks ≡ false
not_marks room marks other = grind (arith, nat_tests)

unchecked : (old : State) (room : ℕ) (why : Refusal) → room ≢ old.marks → room_check old room ≡ Some why → ⊥
unchecked old room why other e = let none : nat_eq room old.marks ≡ false = not_marks room old.marks other in let f : None ≡ Some why = rw none at e in cc

is_there : (room : Room) (o : Option Room) → o ≡ Some room → o ≡ None → ⊥
is_there room o has lacks = let clash : Some room ≡ None = sym has ∙ lacks in cc

-- ---- a room with a container's name

named_container : (m : Moment) (s : IsSoundAt m) (n : ℕ) (room : Room) → slice_get s.shape.tree.rooms n ≡ Some room → IsLogicalName room.name → IsContainerAt m n
named_container m s n room there logical = elim (s.shape.shaped.rooms n room there) as (λ _. IsContainerAt m n) [
  | inl marks ↦ absurd (no_marks room.name room logical refl marks.named)
  | inr container ↦ record {
    is_item = record { in_range = tt; widths = tt };
    bytes = [];
    there = ap (λ o. file_told o n access_path) s.shape.told ∙ ap (λ o. file_in_room o access_path) there ∙ container.has_access;
  }
]

-- ---- a sync

module _ (why : DrainStuck) where
  abbrev SyncEnds : Reply → Type 0
  SyncEnds reply = kept reply ≡ Err why → why ≡ Source stuck.Fault

  synced : (reply : Reply) → reply ≡ reply_of.Done → SyncEnds reply
  synced reply is e = let clash : ◌≡◌ {A = Result (Unit {0}) DrainStuck} (Ok tt) (Err why) = subst (λ r. kept r ≡ Err why) is e in absurd (cc)

  faulted : (reply : Reply) → reply ≡ reply_of.Fault → SyncEnds reply
  faulted reply is e = let same : ◌≡◌ {A = Result (Unit {0}) DrainStuck} (Err (Source stuck.Fault)) (Err why) = subst (λ r. kept r ≡ Err why) is e in cc

  starved : (reply : Reply) → reply ≡ reply_of.NoMemory → SyncEnds reply
  starved reply is e = let same : ◌≡◌ {A = Result (Unit {0}) DrainStuck} (Err (Source stuck.Fault)) (Err why) = subst (λ r. kept r ≡ Err why) is e in cc

  undamaged : (folder file : Name) (reply : Reply) → ShowsNoDamage reply → reply ≡ reply_of.Damaged folder file → SyncEnds reply
  undamaged folder file reply none is e = absurd (subst ShowsNoDamage is none)

  pub sync_ends : (m : Moment) (s : IsSoundAt m) (e : Event) (number host writer : ℕ) (is_log : Bool) → IsContainerAt m number → IsLawful m.state (e ∷ []) → e.ask ≡ unbroken (SyncDropping number host writer is_log) → SyncEnds e.reply
  sync_ends m s e number host writer is_log container l asked =
      let f : Answers m.state e.caller (SyncDropping number host writer is_log) e.reply e.after = answered m.state e.caller (SyncDropping number host writer is_log) e.ask e.reply e.after asked l.1 in
      elim (match_cases (room_check m.state number) (SyncsIt number host writer is_log m.state e.reply e.after) (λ r. Refuses r m.state e.reply e.after) f) as (λ _. SyncEnds e.reply) [
        | inl (none, it) ↦ by_told it.makes.told it.makes.answered it.makes.made
        | inr (r, some, refused) ↦ absurd (unchecked m.state number r (container_of m s number container).other some)
      ]
    where
      shows : ShowsNoDamage e.reply
      shows = step_shows m.issued m.state e.after e.caller e.ask e.reply l.0 l.1 s

      by_told : (told : Told) → e.reply ≡ (done_outcome (dropping_path is_log host writer).folder (dropping_path is_log host writer).file m.state.table told).reply → Acts (sync_dropping_step number host writer is_log) m.state.store e.after.store told → SyncEnds e.reply
      by_told (Ok Made) is acts = synced e.reply is
      by_told (Ok NoSuchRoom) is acts =
          let c = container_of m s number container in
          let t = acts_told (sync_dropping_step number host writer is_log) m.state.store e.after.store s.shape.tree (Ok NoSuchRoom) s.shape.told acts in
          absurd (is_there c.room (slice_get s.shape.tree.rooms number) c.there ((sync_told number (dropping_path is_log host writer) s.shape.tree (Ok NoSuchRoom) t.0 t.2).stays NoSuchRoom refl (λ same. cc)).1)
      by_told (Ok answer) is acts = absurd (subst ShowsNoDamage is shows)
      by_told (Err ToldFault) is acts = faulted e.reply is
      by_told (Err ToldNoMemory) is acts = starved e.reply is

-- ---- a search

module _ (m : Moment) (s : IsSoundAt m) (e : Event) (name : Name) (l : IsLawful m.state (e ∷ [])) (asked : e.ask ≡ unbroken (Find name)) where
  finds : Answers m.state e.caller (Find name) e.reply e.after
  finds = answered m.state e.caller (Find name) e.ask e.reply e.after asked l.1

  says : (answer : Answer) → Acts (find_room name) m.state.store e.after.store (Ok answer) → FindTells s.shape.tree name answer
  says answer acts =
      let t = acts_told (find_room name) m.state.store e.after.store s.shape.tree (Ok answer) s.shape.told acts in
      (look_answered (find_room name) s.shape.tree (FindTells s.shape.tree name) (find_tells s.shape.tree name) answer t.0 t.2).1

  -- it found a room, or the store failed, or no room has the name
  abbrev pub FindEnds : DrainStuck → Type 0
  FindEnds why = (why ≡ Source stuck.Fault) ⊎ ((why ≡ Source (stuck.Refused NoRoom)) × IsFree s.shape.tree name)

  pub find_ends : (why : DrainStuck) → found_room e.reply ≡ Err why → FindEnds why
  find_ends why bad = by_told finds.makes.told finds.makes.answered finds.makes.made
    where
      as_told : (reply : Reply) → e.reply ≡ reply → found_room reply ≡ Err why
      as_told reply is = subst (λ r. found_room r ≡ Err why) is bad

      by_told : (told : Told) → e.reply ≡ (find_outcome m.state.table told).reply → Acts (find_room name) m.state.store e.after.store told → FindEnds why
      by_told (Ok (Number room)) is acts = let clash : ◌≡◌ {A = Result ℕ DrainStuck} (Ok room) (Err why) = as_told (reply_of.Room room) is in absurd (cc)
      by_told (Ok Absent) is acts =
          let told : ◌≡◌ {A = Result ℕ DrainStuck} (Err (Source (stuck.Refused NoRoom))) (Err why) = as_told (reply_of.Refused NoRoom) is in
          let same : Source (stuck.Refused NoRoom) ≡ why = cc in
          inr (sym same, says Absent acts)
      by_told (Ok answer) is acts = absurd (says answer acts)
      by_told (Err ToldFault) is acts =
          let told : ◌≡◌ {A = Result ℕ DrainStuck} (Err (Source stuck.Fault)) (Err why) = as_told reply_of.Fault is in
          let same : Source stuck.Fault ≡ why = cc in
          inl (sym same)
      by_told (Err ToldNoMemory) is acts =
          let told : ◌≡◌ {A = Result ℕ DrainStuck} (Err (Source stuck.Fault)) (Err why) = as_told reply_of.NoMemory is in
          let same : Source stuck.Fault ≡ why = cc in
          inl (sym same)

  -- the room that it found is a container
  pub found_container : (room : ℕ) → found_room e.reply ≡ Ok room → IsContainerAt m room
  found_container room good = by_told finds.makes.told finds.makes.answered finds.makes.made
    where
      as_told : (reply : Reply) → e.reply ≡ reply → found_room reply ≡ Ok room
      as_told reply is = subst (λ r. found_room r ≡ Ok room) is good

      by_told : (told : Told) → e.reply ≡ (find_outcome m.state.table told).reply → Acts (find_room name) m.state.store e.after.store told → IsContainerAt m room
      by_told (Ok (Number n)) is acts =
          let told : ◌≡◌ {A = Result ℕ DrainStuck} (Ok n) (Ok room) = as_told (reply_of.Room n) is in
          let same : n ≡ room = cc in
          let its = says (Number n) acts in
          subst (IsContainerAt m) same (named_container m s n its.room its.has_room (subst IsLogicalName (sym its.named) finds.named))
      by_told (Ok Absent) is acts = let clash : ◌≡◌ {A = Result ℕ DrainStuck} (Err (Source (stuck.Refused NoRoom))) (Ok room) = as_told (reply_of.Refused NoRoom) is in absurd (cc)
      by_told (Ok answer) is acts = absurd (says answer acts)
      by_told (Err ToldFault) is acts = let clash : ◌≡◌ {A = Result ℕ DrainStuck} (Err (Source stuck.Fault)) (Ok room) = as_told reply_of.Fault is in absurd (cc)
      by_told (Err ToldNoMemory) is acts = let clash : ◌≡◌ {A = Result ℕ DrainStuck} (Err (Source stuck.Fault)) (Ok room) = as_told reply_of.NoMemory is in absurd (cc)
