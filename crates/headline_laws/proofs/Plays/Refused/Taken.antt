-- A container is found by its name and held, and is not given its other name, since a container has that.
use Rattle.std.proofs.Common.{◌≡◌, ℕ, List, Some, Result, Ok, Err, refl, sym, ap, inl, inr, subst}
use Rattle.store_api.specs.declared.step.Answer.TheVariants.{Made, NoFolder, NoRoom, TargetThere}
use Rattle.store_api.specs.declared.store.Trouble.TheVariants.{Fault, NoMemory}
use Rattle.store_api.specs.declared.tree.Tree.{Tree}
use Rattle.store_laws.specs.Says.{WhyNotRenamed}
use Rattle.store_laws.specs.There.{IsRoomOf}
use Rattle.store_laws.proofs.Facts.{acts_told, rename_room_told}
use Rattle.mount_model.specs.declared.call.Call.TheVariants.{Move}
use Rattle.mount_model.specs.declared.reply.Refusal.TheVariants.{Exists, NotHolder}
use Rattle.mount_model.specs.declared.reply.Reply.{Reply}
use Rattle.mount_model.specs.declared.reply.Reply.TheVariants.{Done, Refused}
use Rattle.mount_model.specs.declared.row.Holder.{Holder}
use Rattle.mount_model.specs.History.{Event}
use Rattle.mount_model.specs.Holding.{rename_outcome, rename_step}
use Rattle.mount_model.specs.Making.{Told}
use Rattle.mount_model.specs.Paths.{Name}
use Rattle.mount_model.specs.State.{State, Table}
use Rattle.mount_model.specs.Step.{Answers}
use Rattle.mount_model.specs.Table.{holder_of}
use Rattle.mount_model.proofs.Facts.{is_holding, match_cases}
use Rattle.mount_sound.specs.Owed.{IsLawful}
use Rattle.mount_model.specs.declared.stuck.Stuck.{Stuck}
use Rattle.mount_model.specs.declared.stuck.Stuck.TheVariants as stuck
use Rattle.mount_model.specs.Running.{Runs, unbroken}
use Rattle.mount_model.specs.FlowReplies.{Tries}
use Rattle.trunc_rename.specs.Holding.{lets_go}
use Rattle.trunc_rename.specs.Renaming.{moved, moves, rename_program}
use Rattle.reader_laws.specs.Moments.{IsSoundAt, Moment, moment_after, next_moment}
use Rattle.reader_laws.proofs.Facts.{answered}
use Rattle.reader_laws.specs.Naming.{IsRoomNamed}
use Rattle.headline_laws.specs.Refusing.{FindsTaken}
use Rattle.headline_laws.proofs.Plays.Holds.Held.{alone, answered_so, change_of, changed, has_called, its_step, one_tree}
use Rattle.headline_laws.proofs.Plays.Refused.BehindHold.{held_first, let_go_err}

-- ---- the other name was taken

told_taken : (table : Table) (told : Told) → Refused Exists ≡ (rename_outcome table told).reply → told ≡ Ok TargetThere
told_taken table (Ok TargetThere) e = refl
told_taken table (Ok Made) e = absurd (cc)
told_taken table (Ok NoRoom) e = absurd (cc)
told_taken table (Ok NoFolder) e = absurd (cc)
told_taken table (Ok other) e = absurd (cc)
told_taken table (Err Fault) e = absurd (cc)
told_taken table (Err NoMemory) e = absurd (cc)

-- The caller has the hold, and a room has the name.
record IsTaken (n holder : ℕ) (to : Name) (m : Moment) (sound : IsSoundAt m) : Type 0 where
  pub h : Holder
  pub held : holder_of n holder m.state.table.holders ≡ Some h
  pub other : ℕ
  pub has : IsRoomOf sound.shape.tree to other

is_taken : (n holder : ℕ) (to : Name) (m : Moment) (sound : IsSoundAt m) (after : State) → Answers m.state n (Move holder to) (Refused Exists) after → IsTaken n holder to m sound
is_taken n holder to m sound after a = elim (match_cases (holder_of n holder m.state.table.holders) _ _ a) as (λ _. IsTaken n holder to m sound) [
  | inl (none, unheld) ↦ absurd (let e : Refused Exists ≡ Refused NotHolder = unheld.0 in cc)
  | inr (h, held, does) ↦
      let is : does.makes.told ≡ Ok TargetThere = told_taken m.state.table does.makes.told does.makes.answered in
      let t = acts_told (rename_step h to) m.state.store after.store sound.shape.tree does.makes.told sound.shape.told does.makes.made in
      let why : WhyNotRenamed sound.shape.tree h.room to TargetThere = ((rename_room_told h.room to sound.shape.tree does.makes.told t.0 t.2).stays TargetThere is (λ e. cc)).1 in
      record { h = h; held = held; other = why.0; has = why.1 }
]

-- ---- the calls of a rename

abbrev WhyTaken : Result (Unit {0}) Stuck
WhyTaken = Err (stuck.Refused Exists)

moved_err : (reply : Reply) → moved reply ≡ WhyTaken → reply ≡ Refused Exists
moved_err (Refused why) e = (let same : why ≡ Exists = cc in ap Refused same)
moved_err Done e = absurd (cc)
moved_err reply e = absurd (cc)

module _ (n : ℕ) (name to : Name) (m : Moment) (events : List Event) (lawful : IsLawful m.state events) (sound : IsSoundAt m) where
  abbrev Moves : ℕ → ℕ → Tries (Unit {0})
  Moves room holder = moves to holder

  pub finds_taken : Runs n (rename_program name to) events WhyTaken → FindsTaken m n (alone events) name to
  finds_taken runs =
      let h = held_first Exists tt n name Moves m events lawful sound runs in
      let k = has_called n h.holder h.room h.now (Move h.holder to) (λ reply. lets_go h.holder (moved reply)) h.rest WhyTaken h.lawful h.sound h.only h.runs in
      let there : Moment = moment_after h.now k.before in
      let told : k.event.reply ≡ Refused Exists = moved_err k.event.reply (let_go_err Exists tt n h.holder (next_moment there k.event) (moved k.event.reply) k.later k.lawful.2 k.runs) in
      let i = is_taken n h.holder to there k.sound k.event.after (answered there.state n (Move h.holder to) (unbroken (Move h.holder to)) (Refused Exists) k.event.after refl (its_step n (Move h.holder to) (Refused Exists) there.state k.event k.own k.asked told k.lawful.1)) in
      let its : i.h.room ≡ h.room = k.only i.h (is_holding n h.holder there.state.table.holders i.h i.held) in
      let named : IsRoomNamed there to i.other = λ tree has. subst (λ (t : Tree). IsRoomOf t to i.other) (one_tree k.sound.shape.tree tree there.state.store.tree k.sound.shape.told has) i.has in
      record {
        change = change_of n m name Moves events WhyTaken h k.before k.event k.later;
        made = changed n m name Moves events WhyTaken (λ holder. Move holder to) (Refused Exists) h k.before k.event k.later k.split (answered_so n (Move h.holder to) (Refused Exists) k.event k.own k.asked told) (i.h, i.held, its);
        other = i.other;
        taken = subst (λ (x : Moment). IsRoomNamed x to i.other) (sym (h.is_now k.before)) named;
      }
