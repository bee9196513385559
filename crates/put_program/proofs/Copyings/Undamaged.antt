-- A copying from a sound state shows no damage.
use Rattle.std.proofs.Common.{◌≡◌, ℕ, Bool, List, [], ◌∷◌, Option, Some, None, Result, Ok, Err, refl, subst}
use Rattle.edge_io.specs.Source.{Given}
use Rattle.mount_model.specs.Program.{Program, done}
use Rattle.mount_model.specs.declared.stuck.Stuck.{Stuck}
use Rattle.mount_model.specs.declared.stuck.Stuck.TheVariants as stuck
use Rattle.mount_model.specs.declared.call.Call.{Call}
use Rattle.mount_model.specs.declared.call.Call.TheVariants.{Find}
use Rattle.mount_model.specs.declared.reply.Refusal.{Refusal}
use Rattle.mount_model.specs.declared.reply.Refusal.TheVariants as refusal
use Rattle.mount_model.specs.declared.reply.Reply.{Reply}
use Rattle.mount_model.specs.declared.reply.Reply.TheVariants as reply_of
use Rattle.mount_model.specs.Paths.{Name}
use Rattle.mount_model.specs.State.{State}
use Rattle.mount_undamaged.specs.Damage.{ShowsNoDamage}
use Rattle.lone_flow.specs.Driving.{Makes}
use Rattle.writer_flow.specs.declared.handle.WriterHandle.{WriterHandle}
use Rattle.writer_flow.specs.declared.handle.WriterOut.{WriterOut}
use Rattle.writer_flow.specs.Closing.{close_program}
use Rattle.writer_flow.specs.Opening.{open_program}
use Rattle.writer_flow.specs.Syncing.{sync_program}
use Rattle.writer_flow.specs.Writing.{write_program}
use Rattle.trunc_rename.specs.Truncating.{truncate_program}
use Rattle.reader_laws.specs.Moments.{IsSoundAt, Moment, next_moment}
use Rattle.reader_laws.proofs.Gathered.Facts.{sound_after}
use Rattle.trouble_laws.specs.Ends.{AlwaysEnds}
use Rattle.trouble_laws.specs.Undamaged.{IsNoDamage, IsUndamaged}
use Rattle.trouble_laws.proofs.Facts.{ends_call, ends_done}
use Rattle.packing_laws.proofs.Facts.{IsMade, Reaches, is_made, made_reaches}
use Rattle.lone_flow.proofs.SmallPuts.Facts.{LastsBehind, stuck_of}
use Rattle.copy_core.specs.declared.copying.Copied.{Copied}
use Rattle.copy_core.specs.Clearing.{free_as, free_program}
use Rattle.copy_core.specs.Copying.{Copies}
use Rattle.copy_core.proofs.Facts.{CopiesEnd, copy_stuck}

-- ---- the question whether a name is free

refused_undamaged : (why : Refusal) → IsUndamaged (free_as (reply_of.Refused why))
refused_undamaged refusal.NoRoom = tt
refused_undamaged refusal.Held = tt
refused_undamaged (refusal.Busy host id) = tt
refused_undamaged refusal.Exists = tt
refused_undamaged refusal.Full = tt
refused_undamaged refusal.NotFlushed = tt
refused_undamaged refusal.NoMeta = tt
refused_undamaged refusal.TooFar = tt
refused_undamaged refusal.StampsSpent = tt
refused_undamaged refusal.IdsSpent = tt
refused_undamaged refusal.NotOpen = tt
refused_undamaged refusal.NotHolder = tt
refused_undamaged refusal.Alive = tt

free_undamaged : (reply : Reply) → ShowsNoDamage reply → IsUndamaged (free_as reply)
free_undamaged (reply_of.Damaged folder file) shows = absurd shows
free_undamaged (reply_of.Refused why) shows = refused_undamaged why
free_undamaged (reply_of.Room room) shows = tt
free_undamaged reply shows = tt

free_ends : (name : Name) → AlwaysEnds IsUndamaged (free_program name)
free_ends name caller issued start events result lawful sound runs =
    ends_call caller IsUndamaged (Find name) (λ reply. done (free_as reply)) (λ reply shows. ends_done caller IsUndamaged (free_as reply) (free_undamaged reply shows)) start issued events result lawful sound runs

-- ---- the machines

-- what is known of them
pub record StatementLaws : Type 0 where
  pub opening : (name : Name) (host cap : ℕ) → AlwaysEnds IsUndamaged (open_program name host cap)
  pub writing : (handle : WriterHandle) (at : ℕ) (bytes : List ℕ) → AlwaysEnds (λ (out : WriterOut). IsUndamaged out.result) (write_program handle at bytes)
  pub syncing : (handle : WriterHandle) → AlwaysEnds (λ (out : WriterOut). IsUndamaged out.result) (sync_program handle)
  pub closing : (handle : WriterHandle) → AlwaysEnds (λ (out : WriterOut). IsUndamaged out.result) (close_program handle)
  pub cutting : (name : Name) (size : ℕ) → AlwaysEnds IsUndamaged (truncate_program name size)

-- the state is that of a sound moment
record IsSoundState (state : State) : Type 0 where
  pub moment : Moment
  pub at : moment.state ≡ state
  pub sound : IsSoundAt moment

reached_sound : (m : Moment) (end : State) → IsSoundAt m → Reaches m end → IsSoundState end
reached_sound m end sound r = record { moment = r.to; at = r.at; sound = subst (λ (x : Moment). IsSoundAt x) r.comes.ends (sound_after m r.comes.events r.comes.lawful sound) }

sound_lasts : LastsBehind IsSoundState
sound_lasts R program start result end s makes = reached_sound s.moment end s.sound (made_reaches program s.moment result end (is_made program s.moment start result end s.at makes))

always : {R : Type 0} (good : R → Type 0) (program : Program Call Reply R) (start : State) (result : R) (end : State) → AlwaysEnds good program → IsSoundState start → Makes program start result end → good result
always good program start result end law s makes =
    let b : IsMade program s.moment result end = is_made program s.moment start result end s.at makes in
    let g : Moment = next_moment s.moment b.greeting in
    law 0 g.issued g.state b.events result b.lawful.2 (sound_after s.moment (b.greeting ∷ []) (b.lawful.0, b.lawful.1, tt) s.sound) b.runs

stuck_undamaged : (h : Option WriterHandle) (r : Result ℕ Stuck) (why : Stuck) → IsUndamaged r → stuck_of h r ≡ Some why → IsNoDamage why
stuck_undamaged h (Err w) why fine is = let same : w ≡ why = cc in subst (λ (x : Stuck). IsNoDamage x) same fine
stuck_undamaged None (Ok n) why fine is = let same : stuck.Fault ≡ why = cc in subst (λ (x : Stuck). IsNoDamage x) same tt
stuck_undamaged (Some handle) (Ok n) why fine is = absurd (cc)

err_undamaged : (r : Result ℕ Stuck) (why : Stuck) → IsUndamaged r → r ≡ Err why → IsNoDamage why
err_undamaged r why fine is = subst (λ (x : Result ℕ Stuck). IsUndamaged x) is fine

ends : StatementLaws → CopiesEnd IsSoundState (λ why end. IsNoDamage why)
ends laws = record {
  finds = λ name start why end s makes. always IsUndamaged (free_program name) start (Err why) end (free_ends name) s makes;
  cuts = λ name start why end s makes. always IsUndamaged (truncate_program name 0) start (Err why) end (laws.cutting name 0) s makes;
  opens = λ name host start why end s makes. always IsUndamaged (open_program name host 1) start (Err why) end (laws.opening name host 1) s makes;
  writes = λ handle at block start out end s makes why stuck. stuck_undamaged out.handle out.result why (always (λ (o : WriterOut). IsUndamaged o.result) (write_program handle at block) start out end (laws.writing handle at block) s makes) stuck;
  syncs = λ handle start out end s makes why stuck. stuck_undamaged out.handle out.result why (always (λ (o : WriterOut). IsUndamaged o.result) (sync_program handle) start out end (laws.syncing handle) s makes) stuck;
  closes = λ handle start out end s makes why is. err_undamaged out.result why (always (λ (o : WriterOut). IsUndamaged o.result) (close_program handle) start out end (laws.closing handle) s makes) is;
  is_too_far = λ end s. tt;
}

pub copy_undamaged : StatementLaws → (name : Name) (host : ℕ) (over : Bool) (start : Moment) (old : Given) (told : Result Copied Stuck) (end : State) (new : Given) → IsSoundAt start → Copies name host over start.state old told end new → IsUndamaged told
copy_undamaged laws name host over start old (Ok copied) end new sound copies = tt
copy_undamaged laws name host over start old (Err why) end new sound copies =
    copy_stuck IsSoundState (λ w e. IsNoDamage w) sound_lasts (ends laws) name host over start.state old why end new (record { moment = start; at = refl; sound = sound }) copies
