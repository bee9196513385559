-- No step of a sound mount shows damage.
use Rattle.std.proofs.Common.{◌≡◌, ℕ, ◌⊎◌, inl, inr, sym, subst}
use Rattle.mount_model.specs.declared.call.Ask.{Ask}
use Rattle.mount_model.specs.declared.call.Call.{Call}
use Rattle.mount_model.specs.declared.call.Call.TheVariants.{Greet, Find, MakeContainer, Rooms, Look, Enter, Floor, MakeHostdir, MakeIndex, MakeLog, Write, Flush, SyncLog, SyncIndex, PutMeta, Exit, Hold, Mark, Move, Release, StartFlat, PutFlat, SyncFlat, InstallFlat, StartPack, SyncDropping, Inspect, Mend, MendMeta, Bury, MendHold}
use Rattle.mount_model.specs.declared.reply.Reply.{Reply}
use Rattle.mount_model.specs.declared.reply.Reply.TheVariants.{Stopped, NoMemory}
use Rattle.mount_model.specs.State.{State}
use Rattle.mount_model.specs.Step.{Answers, IsStep}
use Rattle.mount_model.proofs.Facts.{step_cases, stop_replies}
use Rattle.mount_undamaged.specs.Damage.{ShowsNoDamage}
use Rattle.mount_sound.specs.Ledger.{Ledger}
use Rattle.mount_sound.specs.Sound.{IsSoundFor}
use Rattle.mount_sound.specs.Owed.{May, Owes}
use Rattle.mount_undamaged.proofs.Flattening.{install_shows, put_flat_shows, start_pack_shows, start_shows, sync_flat_shows}
use Rattle.mount_undamaged.proofs.Holding.{hold_shows, mend_hold_shows, release_shows, rename_shows, truncate_shows}
use Rattle.mount_undamaged.proofs.Recovering.{bury_shows, inspect_shows, mend_meta_shows, mend_shows, sync_dropping_shows}
use Rattle.mount_undamaged.proofs.Looking.{find_shows, make_shows, rooms_show, look_shows}
use Rattle.mount_undamaged.proofs.Writers.{enter_shows, floor_shows, hostdir_shows, index_shows, log_shows, write_shows, flush_shows, sync_log_shows, sync_index_shows, meta_shows, exit_shows}

answers_show : (issued : Ledger) (old : State) (s : IsSoundFor issued old) (caller : ℕ) (call : Call) (reply : Reply) (new : State) → Owes old caller call → Answers old caller call reply new → ShowsNoDamage reply
answers_show issued old s caller Greet reply new o f = subst ShowsNoDamage (sym f.0) tt
answers_show issued old s caller (Find name) reply new o f = find_shows old name reply new s.shape.tree s.shape.told f
answers_show issued old s caller (MakeContainer name) reply new o f = make_shows old name reply new s.shape.tree s.shape.told f
answers_show issued old s caller Rooms reply new o f = rooms_show old reply new s.shape.tree s.shape.told f
answers_show issued old s caller (Look room look) reply new o f = look_shows old room look reply new s.shape.tree s.shape.told f
answers_show issued old s caller (Enter room host most) reply new o f = enter_shows issued old s caller room host most reply new f
answers_show issued old s caller (Floor writer) reply new o f = floor_shows issued old s caller writer reply new f
answers_show issued old s caller (MakeHostdir writer) reply new o f = hostdir_shows issued old s caller writer reply new f
answers_show issued old s caller (MakeIndex writer) reply new o f = index_shows issued old s caller writer reply new f
answers_show issued old s caller (MakeLog writer) reply new o f = log_shows issued old s caller writer reply new f
answers_show issued old s caller (Write writer at block) reply new o f = write_shows issued old s caller writer at block reply new f
answers_show issued old s caller (Flush writer) reply new o f = flush_shows issued old s caller writer reply new f
answers_show issued old s caller (SyncLog writer) reply new o f = sync_log_shows issued old s caller writer reply new f
answers_show issued old s caller (SyncIndex writer) reply new o f = sync_index_shows issued old s caller writer reply new f
answers_show issued old s caller (PutMeta writer) reply new o f = meta_shows issued old s caller writer reply new f
answers_show issued old s caller (Exit writer) reply new o f = exit_shows issued old s caller writer reply new f
answers_show issued old s caller (Hold room) reply new o f = hold_shows issued old s caller room reply new f
answers_show issued old s caller (Mark holder size top) reply new o f = truncate_shows issued old s caller holder size top reply new o f
answers_show issued old s caller (Move holder to) reply new o f = rename_shows old caller holder to reply new s.shape.tree s.shape.told f
answers_show issued old s caller (Release holder) reply new o f = release_shows old caller holder reply new s.shape.tree s.shape.told f
answers_show issued old s caller (StartFlat room) reply new o f = start_shows issued old s caller room reply new f
answers_show issued old s caller (PutFlat flat bytes) reply new o f = put_flat_shows issued old s caller flat bytes reply new f
answers_show issued old s caller (SyncFlat flat) reply new o f = sync_flat_shows issued old s caller flat reply new f
answers_show issued old s caller (InstallFlat flat) reply new o f = install_shows issued old s caller flat reply new f
answers_show issued old s caller (StartPack room host writer) reply new o f = start_pack_shows issued old s caller room host writer reply new o f
answers_show issued old s caller (SyncDropping room host writer is_log) reply new o f = sync_dropping_shows issued old s caller room host writer is_log reply new o f
answers_show issued old s caller (Inspect writer) reply new o f = inspect_shows old writer reply new f
answers_show issued old s caller (Mend room host writer count) reply new o f = mend_shows issued old s caller room host writer count reply new o f
answers_show issued old s caller (MendMeta room host cover last) reply new o f = mend_meta_shows issued old s room host cover last reply new f
answers_show issued old s caller (Bury room host writer) reply new o f = bury_shows old room host writer reply new s.shape.tree s.shape.told f
answers_show issued old s caller (MendHold room) reply new o f = mend_hold_shows old room reply new s.shape.tree s.shape.told f

stop_shows : (reply : Reply) → (reply ≡ Stopped) ⊎ (reply ≡ NoMemory) → ShowsNoDamage reply
stop_shows reply (inl stopped) = subst ShowsNoDamage (sym stopped) tt
stop_shows reply (inr memory) = subst ShowsNoDamage (sym memory) tt

-- No step of a sound mount shows damage.
pub step_shows : (issued : Ledger) (old new : State) (caller : ℕ) (ask : Ask) (reply : Reply) → May old caller ask → IsStep old caller ask reply new → IsSoundFor issued old → ShowsNoDamage reply
step_shows issued old new caller ask reply may step s = step_cases old caller ask reply new (ShowsNoDamage reply) step
    (λ none a. answers_show issued old s caller ask.call reply new (may.owes s.clean) a)
    (λ k some x. stop_shows reply (stop_replies old caller k ask.call reply new x))
