-- The calls for one writer that has the container open: Inspect; where it isn't live Length of its index dropping, Length
-- of its log and Reads of the whole entries; Mend where the index dropping isn't just its landed entries; where there are
-- some, SyncDropping of the log and of the index dropping, and MendMeta; then Bury.
use Rattle.std.specs.Prelude.{ℕ, zero, suc, ◌-◌, ◌*◌, ◌/◌, ◌==◌, nat_le, Bool, true, false, if◌then◌else◌, length, Result, Ok, Err}
use Rattle.mount_model.specs.declared.stuck.Stuck.{Stuck}
use Rattle.mount_model.specs.Program.{done, ask}
use Rattle.mount_model.specs.declared.call.Call.TheVariants.{Look, SyncDropping, Inspect, Mend, MendMeta, Bury}
use Rattle.mount_model.specs.declared.call.Look.TheVariants.{Length, Read}
use Rattle.mount_model.specs.declared.reply.Reply.{Reply}
use Rattle.mount_model.specs.declared.reply.Reply.TheVariants.{Done, Refused}
use Rattle.mount_model.specs.declared.reply.Refusal.TheVariants.{Alive}
use Rattle.mount_model.specs.Paths.{index_path, log_path}
use Rattle.mount_model.specs.declared.names.OpenEntry.{OpenEntry}
use Rattle.mount_model.specs.FlowReplies.{Tries, given, length_in, bytes_in, damage, trouble, failure}
use Rattle.torn_tail.specs.declared.runs.Run.{Run}
use Rattle.torn_tail.specs.declared.entries.Went.{Went}
use Rattle.torn_tail.specs.declared.entries.Went.TheVariants.{On, Ends, Breaks}
use Rattle.torn_tail.specs.declared.fates.Fate.{Fate}
use Rattle.torn_tail.specs.declared.fates.Fate.TheVariants.{Lives, Buried}
use Rattle.torn_tail.specs.Entries.{no_entries, looked}
use Rattle.mount_model.specs.Entries.{reads_of, next_read}

abbrev pub is_alive : Reply → Bool
is_alive (Refused Alive) = true
is_alive reply = false

-- a writer that turns out to be live is passed over
abbrev pub not_done : Reply → Result Fate Stuck
not_done reply = if is_alive reply then Ok Lives else Err (failure reply)

-- it goes on after Done
abbrev pub if_done : Tries Fate → Reply → Tries Fate
if_done next Done = next
if_done next reply = done (not_done reply)

abbrev pub if_synced : Tries Fate → Reply → Tries Fate
if_synced next Done = next
if_synced next reply = done (Err (failure reply))

abbrev pub buries : ℕ → OpenEntry → ℕ → Tries Fate
buries room e count = ask (Bury room e.host e.writer) (if_done (done (Ok (Buried count))))

abbrev pub mends_meta : ℕ → OpenEntry → Run → Tries Fate
mends_meta room e run = ask (MendMeta room e.host run.cover run.last) (if_done (buries room e run.cover.count))

abbrev pub syncs_index : ℕ → OpenEntry → Run → Tries Fate
syncs_index room e run = ask (SyncDropping room e.host e.writer false) (if_synced (mends_meta room e run))

abbrev pub syncs_log : ℕ → OpenEntry → Run → Tries Fate
syncs_log room e run = ask (SyncDropping room e.host e.writer true) (if_synced (syncs_index room e run))

-- where an entry has landed, its writer's metadata dropping is made
abbrev pub keeps : ℕ → OpenEntry → Run → Tries Fate
keeps room e run = if run.cover.count == 0 then buries room e 0 else syncs_log room e run

abbrev pub mends : ℕ → OpenEntry → Run → Tries Fate
mends room e run = ask (Mend room e.host e.writer run.cover.count) (if_done (keeps room e run))

-- the index dropping is so long, and these entries of it have landed
abbrev pub found : ℕ → OpenEntry → ℕ → Run → Tries Fate
found room e told run = if told == 40 * run.cover.count then keeps room e run else mends room e run

-- After a Read: an entry that breaks a rule is damage at its first byte. Else it goes on, unless the Read was short.
abbrev pub if_checked : OpenEntry → (Run → Tries Fate) → (Bool → Run → Tries Fate) → Bool → Went × Run → Tries Fate
if_checked e ends more full (Breaks, run) = done (Err (damage (index_path e.host e.writer) (40 * run.cover.count)))
if_checked e ends more full (Ends, run) = if full then more true run else ends run
if_checked e ends more full (On, run) = if full then more false run else ends run

-- one Read, and what follows: more Reads of so many entries fewer, or the end
abbrev pub reads_then : ℕ → OpenEntry → ℕ → ℕ → ℕ → Bool → Run → (Bool → Run → Tries Fate) → Tries Fate
reads_then room e told log left ended run more = ask
    (Look room (Read (index_path e.host e.writer) (40 * (told / 40 - left)) (40 * next_read left)))
    (λ reply. given (bytes_in reply) (trouble (index_path e.host e.writer) reply)
    (λ bytes. if_checked e (found room e told) more (nat_le (40 * next_read left) (length bytes)) (looked ended log (next_read left) bytes run)))

-- Reads of so many entries that are left of the whole ones, by so many calls
abbrev pub reads : ℕ → ℕ → OpenEntry → ℕ → ℕ → ℕ → Bool → Run → Tries Fate
reads zero room e told log left ended run = found room e told run
reads (suc n) room e told log left ended run = reads_then room e told log left ended run (λ past longer. reads n room e told log (left - next_read left) past longer)

-- the same, by as many calls as they take
abbrev pub reads_left : ℕ → OpenEntry → ℕ → ℕ → ℕ → Bool → Run → Tries Fate
reads_left room e told log left ended run = reads (reads_of left) room e told log left ended run

-- the next Read where some are left, and all that follows
abbrev pub reads_on : ℕ → OpenEntry → ℕ → ℕ → ℕ → Bool → Run → Tries Fate
reads_on room e told log left ended run = reads_then room e told log left ended run (λ past longer. reads_left room e told log (left - next_read left) past longer)

abbrev pub measures_log : ℕ → OpenEntry → ℕ → Tries Fate
measures_log room e told = ask
    (Look room (Length (log_path e.host e.writer)))
    (λ reply. given (length_in reply) (trouble (log_path e.host e.writer) reply)
    (λ log. reads_left room e told log (told / 40) false (no_entries e.writer)))

abbrev pub measures_index : ℕ → OpenEntry → Tries Fate
measures_index room e = ask
    (Look room (Length (index_path e.host e.writer)))
    (λ reply. given (length_in reply) (trouble (index_path e.host e.writer) reply) (measures_log room e))

abbrev pub writer_program : ℕ → OpenEntry → Tries Fate
writer_program room e = ask (Inspect e.writer) (if_done (measures_index room e))
