-- Where the steps for one writer stand in its calls.
use Rattle.std.specs.Prelude.{ℕ, ◌+◌, ◌^◌}
use Rattle.mount_model.specs.Program.{done}
use Rattle.mount_model.specs.declared.names.OpenEntry.{OpenEntry}
use Rattle.mount_model.specs.FlowReplies.{Tries}
use Rattle.torn_tail.specs.declared.fates.Fate.{Fate}
use Rattle.torn_tail.specs.declared.steps.Step.{Step}
use Rattle.torn_tail.specs.declared.steps.Step.TheVariants.{Inspect, Index, Log, Entries, Mend, SyncLog, SyncIndex, Meta, Bury}
use Rattle.torn_tail.specs.declared.writers.After.{After}
use Rattle.torn_tail.specs.declared.writers.After.TheVariants.{GoesOn, Is}
use Rattle.torn_tail.specs.Writers.{writer_program, measures_index, measures_log, reads_on, mends, syncs_log, syncs_index, mends_meta, buries}

abbrev pub step_program : ℕ → OpenEntry → Step → Tries Fate
step_program room e Inspect = writer_program room e
step_program room e Index = measures_index room e
step_program room e (Log told) = measures_log room e told
step_program room e (Entries r) = reads_on room e r.told r.log r.left r.ended r.counted.run
step_program room e (Mend counted) = mends room e counted.run
step_program room e (SyncLog landed) = syncs_log room e landed.counted.run
step_program room e (SyncIndex landed) = syncs_index room e landed.counted.run
step_program room e (Meta landed) = mends_meta room e landed.counted.run
step_program room e (Bury count) = buries room e count

abbrev pub after_program : ℕ → OpenEntry → After → Tries Fate
after_program room e (GoesOn step) = step_program room e step
after_program room e (Is result) = done result

-- bounds on the calls that are left
abbrev pub step_calls : Step → ℕ
step_calls Inspect = 2 ^ 64 + 7
step_calls Index = 2 ^ 64 + 6
step_calls (Log told) = told + 6
step_calls (Entries r) = r.left + 5
step_calls (Mend counted) = 5
step_calls (SyncLog landed) = 4
step_calls (SyncIndex landed) = 3
step_calls (Meta landed) = 2
step_calls (Bury count) = 1

abbrev pub after_calls : After → ℕ
after_calls (GoesOn step) = step_calls step
after_calls (Is result) = 0
