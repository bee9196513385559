-- No call brings a dead writer of the machine to life.
use Rattle.std.proofs.Common.{◌≡◌, ◌≤◌, ℕ, suc, List, [], ◌∷◌, Option, Some, None, refl, subst, arith}
use Rattle.std.specs.Prelude.{slice_get}
use Rattle.std.specs.List.{AllByRecursion}
use Rattle.store_api.specs.declared.tree.Room.{Room}
use Rattle.mount_model.specs.History.{Event}
use Rattle.mount_model.specs.State.{State, last_id}
use Rattle.mount_model.proofs.Facts.{step_place, step_stays_dead}
use Rattle.mount_sound.specs.Owed.{IsLawful, IsNotLive}
use Rattle.reader_laws.specs.Moments.{Moment, moment_after, next_moment}
use Rattle.script_lang.specs.declared.line.Outcome.{Outcome}
use Rattle.script_lang.specs.declared.script.ActorDecl.{ActorDecl}
use Rattle.script_lang.specs.declared.script.Statement.{Statement}
use Rattle.plain_machine.specs.Machine.{Plain, PlainActor, PlainRoom, PlainWriter}
use Rattle.plain_machine.specs.ByName.{dead}
use Rattle.plain_machine.specs.Statements.{Takes}
use Rattle.plain_plays.specs.Mirrors.{Mirrors, MirrorsAt, MirrorsWriter, room_then}
use Rattle.plain_plays.specs.Saying.{DeadAreOut}
use Rattle.plain_plays.proofs.Dead.{AllOut, OutIfDead, RoomsOut, dead_each, each_dead, out_next, room_at}

-- ---- from moment to moment

-- such ids instead of those
weaker : (Out Others : ℕ → Type 0) → ((id : ℕ) → Out id → Others id) → (ws : List PlainWriter) → AllByRecursion (OutIfDead Out) ws → AllByRecursion (OutIfDead Others) ws
weaker Out Others on [] out = tt
weaker Out Others on (w ∷ ws) out = (λ entered nobodys. on w.id (out.0 entered nobodys), weaker Out Others on ws out.1)

weaker_rooms : (Out Others : ℕ → Type 0) → ((id : ℕ) → Out id → Others id) → (rooms : List PlainRoom) → RoomsOut Out rooms → RoomsOut Others rooms
weaker_rooms Out Others on [] out = tt
weaker_rooms Out Others on (room ∷ rooms) out = (weaker Out Others on room.writers out.0, weaker_rooms Out Others on rooms out.1)

-- the id was drawn, and no writer of the table is live under it
abbrev pub IsOut : State → ℕ → Type 0
IsOut state id = IsNotLive state id × (id ≤ last_id state)

-- It stays so, whatever is called.
out_later : (m : Moment) (events : List Event) (id : ℕ) → IsLawful m.state events → IsOut m.state id → IsOut (moment_after m events).state id
out_later m [] id lawful out = out
out_later m (e ∷ events) id lawful out =
    let place = step_place m.state e.after e.caller e.ask e.reply lawful.1 in
    out_later (next_moment m e) events id lawful.2 (step_stays_dead m.state e.after e.caller e.ask e.reply id lawful.1 (λ same. omega (arith, out.1, same)) out.0, omega (arith, out.1, place.serial, place.mount))

-- the dead of the machine are so
abbrev pub DeadStayOut : State → Plain → Type 0
DeadStayOut state p = AllOut (IsOut state) p

-- A statement leaves them so, and the calls that were made for it.
pub dead_next : (m : Moment) (events : List Event) (place : ℕ) (declared : ActorDecl) (actor : PlainActor) (p : Plain) (statement : Statement) (outcome : Outcome) (new : Plain) → IsLawful m.state events → DeadStayOut m.state p → Takes place declared actor p statement outcome new
    → DeadStayOut (moment_after m events).state new
dead_next m events place declared actor p statement outcome new lawful out t =
    weaker_rooms (IsOut m.state) (IsOut (moment_after m events).state) (λ id x. out_later m events id lawful x) new.rooms (out_next (IsOut m.state) place declared actor p statement outcome new out t)

-- So do calls that leave the machine as it was.
pub dead_later : (m : Moment) (events : List Event) (p : Plain) → IsLawful m.state events → DeadStayOut m.state p → DeadStayOut (moment_after m events).state p
dead_later m events p lawful out = weaker_rooms (IsOut m.state) (IsOut (moment_after m events).state) (λ id x. out_later m events id lawful x) p.rooms out

-- ---- as a play begins, and at a recovery

drawn_too : (m : Moment) (number : ℕ) (ws : List PlainWriter) → AllByRecursion (MirrorsWriter m number) ws → AllByRecursion (OutIfDead (IsNotLive m.state)) ws → AllByRecursion (OutIfDead (IsOut m.state)) ws
drawn_too m number [] mirrors out = tt
drawn_too m number (w ∷ ws) mirrors out = (λ entered nobodys. (out.0 entered nobodys, mirrors.0.drawn), drawn_too m number ws mirrors.1 out.1)

its_writers : (m : Moment) (number : ℕ) (told : Option Room) (room : PlainRoom) → MirrorsAt m number told (Some room) → AllByRecursion (MirrorsWriter m number) room.writers
its_writers m number None room o = absurd o
its_writers m number (Some r) room o = o.writers

rooms_first : (m : Moment) (rooms : List PlainRoom) (at : ℕ → ℕ) → ((n : ℕ) (room : PlainRoom) → slice_get rooms n ≡ Some room → AllByRecursion (MirrorsWriter m (at n)) room.writers) → ((n : ℕ) (room : PlainRoom) → slice_get rooms n ≡ Some room → AllByRecursion (λ (w : PlainWriter). IsNotLive m.state w.id) (dead room))
    → RoomsOut (IsOut m.state) rooms
rooms_first m [] at mirrors out = tt
rooms_first m (room ∷ rooms) at mirrors out =
    (drawn_too m (at 0) room.writers (mirrors 0 room refl) (each_dead (IsNotLive m.state) room.writers (out 0 room refl)), rooms_first m rooms (λ n. at (suc n)) (λ n r e. mirrors (suc n) r e) (λ n r e. out (suc n) r e))

pub dead_first : (m : Moment) (p : Plain) → Mirrors m p → DeadAreOut m.state p → DeadStayOut m.state p
dead_first m p o out = rooms_first m p.rooms (λ n. n) (λ n room e. its_writers m n (room_then m n) room (subst (MirrorsAt m n (room_then m n)) e (o.rooms n))) out

not_live : (state : State) (ws : List PlainWriter) → AllByRecursion (λ (w : PlainWriter). IsOut state w.id) ws → AllByRecursion (λ (w : PlainWriter). IsNotLive state w.id) ws
not_live state [] out = tt
not_live state (w ∷ ws) out = (out.0.0, not_live state ws out.1)

pub dead_are_out : (state : State) (p : Plain) → DeadStayOut state p → DeadAreOut state p
dead_are_out state p out n room e = not_live state (dead room) (dead_each (IsOut state) room.writers (room_at (IsOut state) p.rooms n room out e))
