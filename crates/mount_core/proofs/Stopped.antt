-- A call that was broken off within its act is a stop.
use Rattle.std.proofs.Common.{◌≡◌, ℕ, List, Option, Some, None, refl, subst}
use Rattle.store_api.specs.Acts.{Stored}
use Rattle.mount_model.specs.declared.call.Call.{Call}
use Rattle.mount_model.specs.declared.call.Call.TheVariants.{Greet, Find, MakeContainer, Rooms, Look, Enter, Floor, MakeHostdir, MakeIndex, MakeLog, Write, Flush, SyncLog, SyncIndex, PutMeta, Exit, Hold, Mark, Move, Release, StartFlat, PutFlat, SyncFlat, InstallFlat, StartPack, SyncDropping, Inspect, Mend, MendMeta, Bury, MendHold}
use Rattle.mount_model.specs.declared.reply.Refusal.{Refusal}
use Rattle.mount_model.specs.declared.reply.Reply.{Reply}
use Rattle.mount_model.specs.State.{State}
use Rattle.mount_model.specs.Making.{Told}
use Rattle.mount_model.specs.Entering.{draw_check}
use Rattle.mount_model.specs.Stopping.{part_made, drawn_unless, begun, MakesPart, TicksFor, IsEndedBy, IsWellTyped, Stops}
use Rattle.mount_core.specs.Breaking.{BreaksOff, BreaksCall}

same_store : (check : Option Refusal) (old : State) → (drawn_unless check old).store ≡ old.store
same_store None old = refl
same_store (Some why) old = refl

same_times : (check : Option Refusal) (old : State) → (drawn_unless check old).times ≡ old.times
same_times None old = refl
same_times (Some why) old = refl

module _ (caller k : ℕ) (old : State) (told : Told) (reply : Reply) (middle new : State) where
  -- the clock was not asked
  untimed : (call : Call) → ((times : Option (List ℕ)) → times ≡ old.times → TicksFor call (part_made k 0 old caller call) old.times times 0) → (begun old call).store ≡ old.store → (begun old call).times ≡ old.times
      → IsWellTyped call → BreaksOff (part_made k 0 old caller call) (begun old call) told middle → IsEndedBy told reply middle caller new → Stops caller k call old reply new
  untimed call ticks store times typed b ended = record {
    typed = typed;
    time = 0;
    times = (begun old call).times;
    told = told;
    store = middle.store;
    ticks = ticks (begun old call).times times;
    made = subst (λ (s : Stored). MakesPart (part_made k 0 old caller call) s middle.store told) store b.made;
    after = subst (λ (s : State). IsEndedBy told reply s caller new) b.after ended;
  }

  pub stops : (call : Call) → IsWellTyped call → BreaksCall k old caller call told middle → IsEndedBy told reply middle caller new → Stops caller k call old reply new
  stops (Mark holder size top) typed b ended = record {
    typed = typed;
    time = b.time;
    times = b.times;
    told = told;
    store = middle.store;
    ticks = b.ticks;
    made = b.made;
    after = subst (λ (s : State). IsEndedBy told reply s caller new) b.after ended;
  }
  stops (Enter room host most) typed b ended = untimed (Enter room host most) (λ times e. e) (same_store (draw_check old room) old) (same_times (draw_check old room) old) typed b ended
  stops (Hold room) typed b ended = untimed (Hold room) (λ times e. e) (same_store (draw_check old room) old) (same_times (draw_check old room) old) typed b ended
  stops (StartFlat room) typed b ended = untimed (StartFlat room) (λ times e. e) (same_store (draw_check old room) old) (same_times (draw_check old room) old) typed b ended
  stops (StartPack room host writer) typed b ended = untimed (StartPack room host writer) (λ times e. e) (same_store (draw_check old room) old) (same_times (draw_check old room) old) typed b ended
  stops Greet typed b ended = untimed Greet (λ times e. e) refl refl typed b ended
  stops (Find name) typed b ended = untimed (Find name) (λ times e. e) refl refl typed b ended
  stops (MakeContainer name) typed b ended = untimed (MakeContainer name) (λ times e. e) refl refl typed b ended
  stops Rooms typed b ended = untimed Rooms (λ times e. e) refl refl typed b ended
  stops (Look room look) typed b ended = untimed (Look room look) (λ times e. e) refl refl typed b ended
  stops (Floor writer) typed b ended = untimed (Floor writer) (λ times e. e) refl refl typed b ended
  stops (MakeHostdir writer) typed b ended = untimed (MakeHostdir writer) (λ times e. e) refl refl typed b ended
  stops (MakeIndex writer) typed b ended = untimed (MakeIndex writer) (λ times e. e) refl refl typed b ended
  stops (MakeLog writer) typed b ended = untimed (MakeLog writer) (λ times e. e) refl refl typed b ended
  stops (Write writer at block) typed b ended = untimed (Write writer at block) (λ times e. e) refl refl typed b ended
  stops (Flush writer) typed b ended = untimed (Flush writer) (λ times e. e) refl refl typed b ended
  stops (SyncLog writer) typed b ended = untimed (SyncLog writer) (λ times e. e) refl refl typed b ended
  stops (SyncIndex writer) typed b ended = untimed (SyncIndex writer) (λ times e. e) refl refl typed b ended
  stops (PutMeta writer) typed b ended = untimed (PutMeta writer) (λ times e. e) refl refl typed b ended
  stops (Exit writer) typed b ended = untimed (Exit writer) (λ times e. e) refl refl typed b ended
  stops (Move holder to) typed b ended = untimed (Move holder to) (λ times e. e) refl refl typed b ended
  stops (Release holder) typed b ended = untimed (Release holder) (λ times e. e) refl refl typed b ended
  stops (PutFlat flat bytes) typed b ended = untimed (PutFlat flat bytes) (λ times e. e) refl refl typed b ended
  stops (SyncFlat flat) typed b ended = untimed (SyncFlat flat) (λ times e. e) refl refl typed b ended
  stops (InstallFlat flat) typed b ended = untimed (InstallFlat flat) (λ times e. e) refl refl typed b ended
  stops (SyncDropping room host writer is_log) typed b ended = untimed (SyncDropping room host writer is_log) (λ times e. e) refl refl typed b ended
  stops (Inspect writer) typed b ended = untimed (Inspect writer) (λ times e. e) refl refl typed b ended
  stops (Mend room host writer count) typed b ended = untimed (Mend room host writer count) (λ times e. e) refl refl typed b ended
  stops (MendMeta room host cover last) typed b ended = untimed (MendMeta room host cover last) (λ times e. e) refl refl typed b ended
  stops (Bury room host writer) typed b ended = untimed (Bury room host writer) (λ times e. e) refl refl typed b ended
  stops (MendHold room) typed b ended = untimed (MendHold room) (λ times e. e) refl refl typed b ended
