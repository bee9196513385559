-- An opening ends with a new writer of a plain machine, or is refused for its reason.
use Rattle.std.proofs.Common.{◌≡◌, ℕ, true, List, ◌∷◌, Result, Ok, Err, refl, sym, ap, ◌∙◌, inl, inr, subst, length, ◌≤◌, arith, []}
use Rattle.mount_sound.specs.Ledger.{Written}
use Rattle.reader_laws.proofs.Gathered.Facts.{sound_after}
use Rattle.plain_plays.specs.Plainly.{MirrorsOwn, dropping_of, new_writer}
use Rattle.plain_plays.proofs.PlainSteps.Between.{between}
use Rattle.plain_plays.proofs.PlainSteps.Serving.{over}
use Rattle.mount_model.specs.declared.call.Ask.{Ask}
use Rattle.mount_model.specs.declared.call.Call.TheVariants.{Enter, Floor, MakeContainer, MakeHostdir, MakeIndex, MakeLog}
use Rattle.mount_model.specs.declared.reply.Refusal.TheVariants as refusal
use Rattle.mount_model.specs.declared.reply.Reply.TheVariants.{Room}
use Rattle.mount_model.specs.declared.row.Row.{Row}
use Rattle.mount_model.specs.declared.row.Stage.TheVariants as stage
use Rattle.mount_model.specs.Entering.{entered}
use Rattle.mount_model.specs.Flooring.{floored}
use Rattle.mount_model.specs.History.{Event}
use Rattle.mount_model.specs.Paths.{Name}
use Rattle.mount_model.specs.State.{State}
use Rattle.mount_model.specs.Step.{Answers}
use Rattle.mount_model.specs.Table.{at_stage, only}
use Rattle.mount_sound.specs.Owed.{IsLawful}
use Rattle.mount_model.specs.Program.{done}
use Rattle.mount_model.specs.declared.stuck.Stuck.{Stuck}
use Rattle.mount_model.specs.declared.stuck.Stuck.TheVariants as stuck
use Rattle.mount_model.specs.Running.{Runs}
use Rattle.reader_laws.specs.Moments.{IsSoundAt, Moment, next_moment, issued_by, moment_after}
use Rattle.writer_flow.specs.declared.handle.WriterHandle.{WriterHandle}
use Rattle.writer_flow.specs.Handle.{opened_of}
use Rattle.writer_flow.specs.Opening.{enters, finds_floor, if_done, if_entered, if_floored, if_made, makes_hostdir, makes_index, makes_log, open_program}
use Rattle.writer_laws.specs.Knowing.{HasRow}
use Rattle.plain_plays.specs.Calls.{AtSome, HasCalled}
use Rattle.plain_plays.specs.Opens.{IsSpent, OpensOrNot, WasShut, opened, shut, spent}
use Rattle.plain_plays.specs.Served.{GoesWell, HasOpen}
use Rattle.plain_plays.proofs.PlainSteps.Doing.{not_none, row_stays, open_stays}
use Rattle.plain_plays.proofs.PlainSteps.Entering.{IsContainerAt, enter_does, floor_does, has_room, hostdir_does, index_made_does, made_there, only_spent, stands_on, log_made_does}
use Rattle.plain_plays.proofs.PlainSteps.Reaching.{ended, reached, some_later}

-- ---- a new writer comes to be open

module _ (me w cap : ℕ) where
  -- it is open at the end, and else as it was
  abbrev IsOpened : Row → Moment → List Event → Result WriterHandle Stuck → Type 0
  IsOpened row m events out = (out ≡ Ok (opened_of w cap)) × HasOpen me w (at_stage stage.Open row) (moment_after m events).state

  log_ends : (events : List Event) (m : Moment) (row : Row) (out : Result WriterHandle Stuck) → only stage.Indexed row.stage ≡ true → IsSoundAt m → IsLawful m.state events → GoesWell me events → HasRow me w row m.state → Runs me (makes_log w cap) events out → IsOpened row m events out
  log_ends events m row out at sound lawful well has runs =
      let r = reached me (λ x. HasRow me w row x.state) (row_stays me w row) m (MakeLog w) (if_done w (done (Ok (opened_of w cap)))) events out sound lawful well has runs in
      elim r.served as (λ _. IsOpened row m events out) [
        | inl told ↦
            let now : HasOpen me w (at_stage stage.Open row) r.event.after = record { has = log_made_does me w row r.mid.state r.event.after r.holds at (subst (λ x. Answers r.mid.state me (MakeLog w) x r.event.after) told r.answers); is_open = refl } in
            let o = over me w (λ x. HasOpen me w (at_stage stage.Open row) x.state) (open_stays me w (at_stage stage.Open row)) (Ok (opened_of w cap)) (next_moment r.mid r.event) r.rest out now r.then_sound r.lawful (subst (λ x. Runs me (if_done w (done (Ok (opened_of w cap))) x) r.rest out) told r.runs) in
            (sym o.1, subst (λ (x : Moment). HasOpen me w (at_stage stage.Open row) x.state) r.ends o.0)
        | inr (why, told, reason) ↦ not_none me w (only stage.Indexed) row r.mid.state why _ r.holds at reason
      ]

  index_ends : (events : List Event) (m : Moment) (row : Row) (out : Result WriterHandle Stuck) → only stage.Housed row.stage ≡ true → IsSoundAt m → IsLawful m.state events → GoesWell me events → HasRow me w row m.state → Runs me (makes_index w cap) events out → IsOpened row m events out
  index_ends events m row out at sound lawful well has runs =
      let r = reached me (λ x. HasRow me w row x.state) (row_stays me w row) m (MakeIndex w) (if_done w (makes_log w cap)) events out sound lawful well has runs in
      elim r.served as (λ _. IsOpened row m events out) [
        | inl told ↦
            let o = log_ends r.rest (next_moment r.mid r.event) (at_stage stage.Indexed row) out refl r.then_sound r.lawful r.well (index_made_does me w row r.mid.state r.event.after r.holds at (subst (λ x. Answers r.mid.state me (MakeIndex w) x r.event.after) told r.answers)) (subst (λ x. Runs me (if_done w (makes_log w cap) x) r.rest out) told r.runs) in
            (o.0, subst (λ (x : Moment). HasOpen me w (at_stage stage.Open row) x.state) r.ends o.1)
        | inr (why, told, reason) ↦ not_none me w (only stage.Housed) row r.mid.state why _ r.holds at reason
      ]

  pub hostdir_ends : (events : List Event) (m : Moment) (row : Row) (out : Result WriterHandle Stuck) → only stage.Floored row.stage ≡ true → IsSoundAt m → IsLawful m.state events → GoesWell me events → HasRow me w row m.state → Runs me (makes_hostdir w cap) events out → IsOpened row m events out
  hostdir_ends events m row out at sound lawful well has runs =
      let r = reached me (λ x. HasRow me w row x.state) (row_stays me w row) m (MakeHostdir w) (if_done w (makes_index w cap)) events out sound lawful well has runs in
      elim r.served as (λ _. IsOpened row m events out) [
        | inl told ↦
            let o = index_ends r.rest (next_moment r.mid r.event) (at_stage stage.Housed row) out refl r.then_sound r.lawful r.well (hostdir_does me w row r.mid.state r.event.after r.holds at (subst (λ x. Answers r.mid.state me (MakeHostdir w) x r.event.after) told r.answers)) (subst (λ x. Runs me (if_done w (makes_index w cap) x) r.rest out) told r.runs) in
            (o.0, subst (λ (x : Moment). HasOpen me w (at_stage stage.Open row) x.state) r.ends o.1)
        | inr (why, told, reason) ↦ not_none me w (only stage.Floored) row r.mid.state why _ r.holds at reason
      ]

  floor_ends : (events : List Event) (m : Moment) (row : Row) (out : Result WriterHandle Stuck) → only stage.Entered row.stage ≡ true → IsSoundAt m → IsLawful m.state events → GoesWell me events → HasRow me w row m.state → Runs me (finds_floor w cap) events out → (floor : ℕ) × IsOpened (floored floor row) m events out
  floor_ends events m row out at sound lawful well has runs =
      let r = reached me (λ x. HasRow me w row x.state) (row_stays me w row) m (Floor w) (if_floored w cap) events out sound lawful well has runs in
      elim r.served as (λ _. (floor : ℕ) × IsOpened (floored floor row) m events out) [
        | inl (floor, told) ↦
            let f = floor_does me w row r.mid.state r.event.after r.holds floor at (subst (λ x. Answers r.mid.state me (Floor w) x r.event.after) told r.answers) in
            let o = hostdir_ends r.rest (next_moment r.mid r.event) (floored f.0 row) out refl r.then_sound r.lawful r.well f.1 (subst (λ x. Runs me (if_floored w cap x) r.rest out) told r.runs) in
            (f.0, (o.0, subst (λ (x : Moment). HasOpen me w (at_stage stage.Open (floored f.0 row)) x.state) r.ends o.1))
        | inr (why, told, reason) ↦ not_none me w (only stage.Entered) row r.mid.state why _ r.holds at reason
      ]

-- a writer that has entered and is open is a new one of a plain machine
pub is_new : (me w room host cap floor : ℕ) (old : State) (m : Moment) → IsSoundAt m → HasOpen me w (at_stage stage.Open (floored floor (entered old me room host cap))) m.state → MirrorsOwn me room (opened_of w cap) (new_writer w host cap floor) m
is_new me w room host cap floor old m sound open_now =
    let row : Row = at_stage stage.Open (floored floor (entered old me room host cap)) in
    let b = between m me (dropping_of room (new_writer w host cap floor)) row sound open_now.has refl refl in
    record {
      sound = sound;
      row = row;
      opened = open_now;
      room = refl;
      host = refl;
      floor = refl;
      capacity = refl;
      counted = refl;
      issued = none (issued_by m (dropping_of room (new_writer w host cap floor))) b.issued;
      landed_is = omega (arith, b.no_more);
      writer = refl;
      pending = refl;
      cap_is = refl;
      fresh = refl;
    }
  where
    none : (l : List Written) → length l ≡ 0 → l ≡ []
    none [] e = refl
    none (x ∷ l) e = absurd (let clash : 1 ≤ 0 = omega (arith, e) in omega (arith, clash))

-- ---- the opening

-- how it ends behind the call that found or made the room
data EntersOrNot (start : Moment) (me room host cap : ℕ) (events : List Event) (out : Result WriterHandle Stuck) : Type 0 where
  entered_so : (w floor : ℕ) → out ≡ Ok (opened_of w cap) → MirrorsOwn me room (opened_of w cap) (new_writer w host cap floor) (moment_after start events) → EntersOrNot start me room host cap events out
  spent_so : out ≡ Err (stuck.Refused refusal.IdsSpent) → AtSome start events IsSpent → EntersOrNot start me room host cap events out
  shut_so : out ≡ Err (stuck.Refused refusal.Held) → AtSome start events (WasShut room) → EntersOrNot start me room host cap events out

entering : (m : Moment) (me room host cap : ℕ) (events : List Event) (out : Result WriterHandle Stuck) → IsSoundAt m → IsLawful m.state events → GoesWell me events → IsContainerAt room m → Runs me (enters room host cap) events out → EntersOrNot m me room host cap events out
entering m me room host cap events out sound lawful well had runs =
    let r = reached me (IsContainerAt room) (stands_on me room) m (Enter room host cap) (if_entered cap) events out sound lawful well had runs in
    elim r.served as (λ _. EntersOrNot m me room host cap events out) [
      | inl (w, told) ↦
          let has = enter_does r.mid r.sound me room host cap w r.event.after (subst (λ x. Answers r.mid.state me (Enter room host cap) x r.event.after) told r.answers) in
          let f = floor_ends me w cap r.rest (next_moment r.mid r.event) (entered r.mid.state me room host cap) out refl r.then_sound r.lawful r.well has (subst (λ x. Runs me (if_entered cap x) r.rest out) told r.runs) in
          entered_so w f.0 f.1.0 (is_new me w room host cap f.0 r.mid.state (moment_after m events) (sound_after m events lawful sound) (subst (λ (x : Moment). HasOpen me w (at_stage stage.Open (floored f.0 (entered r.mid.state me room host cap))) x.state) r.ends f.1.1))
      | inr (why, told, reason) ↦
          let ends : out ≡ Err (stuck.Refused why) = sym (ended me (Err (stuck.Refused why)) r.rest out (subst (λ x. Runs me (if_entered cap x) r.rest out) told r.runs)) in
          elim reason as (λ _. EntersOrNot m me room host cap events out) [
            | inl check ↦
                let s = only_spent r.mid r.sound room r.holds why check in
                spent_so (ends ∙ ap (λ y. Err (stuck.Refused y)) s.0) (record { before = r.before; later = r.event ∷ r.rest; split = r.split; held = subst IsSpent r.at s.1 })
            | inr other ↦ elim other as (λ _. EntersOrNot m me room host cap events out) [
              | inl lacks ↦ absurd (has_room r.mid r.sound room r.holds (lacks.1 r.sound.shape.tree r.sound.shape.told))
              | inr away ↦ shut_so (ends ∙ ap (λ y. Err (stuck.Refused y)) away.0) (record { before = r.before; later = r.event ∷ r.rest; split = r.split; held = subst (WasShut room) r.at away.1 })
            ]
          ]
    ]

-- An opening opens, or no serial was left, or its container let nobody in.
pub opens_well : (m : Moment) (me : ℕ) (name : Name) (host cap : ℕ) (events : List Event) (out : Result WriterHandle Stuck) → IsSoundAt m → IsLawful m.state events → GoesWell me events → Runs me (open_program name host cap) events out → OpensOrNot m me name host cap events out
opens_well m me name host cap events out sound lawful well runs =
    let r = reached me (λ x. Unit {0}) (λ x event rest s l other u. tt) m (MakeContainer name) (if_made host cap) events out sound lawful well tt runs in
    elim r.served as (λ _. OpensOrNot m me name host cap events out) [
      | inr (why, told, reason) ↦ absurd reason
      | inl (room, told) ↦
          let had : IsContainerAt room (next_moment r.mid r.event) = made_there r.mid me name room r.event r.sound r.then_sound (subst (λ x. Answers r.mid.state me (MakeContainer name) x r.event.after) told r.answers) in
          let called : HasCalled me (MakeContainer name) (Room room) events = record { before = r.before; event = r.event; later = r.rest; split = r.split; own = r.own; asked = ap (λ (a : Ask). a.call) r.asked; told = told } in
          let on = entering (next_moment r.mid r.event) me room host cap r.rest out r.then_sound r.lawful r.well had (subst (λ x. Runs me (if_made host cap x) r.rest out) told r.runs) in
          elim on as (λ _. OpensOrNot m me name host cap events out) [
            | entered_so w floor is mirrors ↦ opened w room floor is called (subst (λ x. MirrorsOwn me room (opened_of w cap) (new_writer w host cap floor) x) r.ends mirrors)
            | spent_so is at ↦ spent is (some_later m r.before r.event r.rest events IsSpent r.split (subst (λ x. AtSome (next_moment x r.event) r.rest IsSpent) r.at at))
            | shut_so is at ↦ shut is room called (some_later m r.before r.event r.rest events (WasShut room) r.split (subst (λ x. AtSome (next_moment x r.event) r.rest (WasShut room)) r.at at))
          ]
    ]
