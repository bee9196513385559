-- Each call that packs one writer may be made, and those for the others after it.
use Rattle.std.proofs.Common.{◌≡◌, ◌≤◌, ◌-◌, ◌*◌, ◌/◌, ◌==◌, ℕ, zero, suc, nat_lt, Bool, true, false, List, Option, Some, None, refl, ap, subst, arith}
use Rattle.std.specs.Prelude.{if◌then◌else◌, Result, Ok, Err}
use Rattle.plfs_types.specs.declared.entries.Entry.{Entry}
use Rattle.index_entry.specs.Spelling.{spelling_all}
use Rattle.plfs_types.specs.declared.limits.TheConstants.{MAX_PACKED}
use Rattle.store_api.specs.declared.step.Answer.TheVariants.{Bytes, Number}
use Rattle.mount_model.specs.declared.stuck.Stuck.{Stuck}
use Rattle.mount_model.specs.Running.{asking, unbroken}
use Rattle.mount_model.specs.Program.{done, followed_by}
use Rattle.mount_model.specs.Safe.{IsSafe}
use Rattle.mount_model.specs.declared.names.Metadata.{Metadata}
use Rattle.mount_model.specs.FlowReplies.{Tries, bytes_in, damage, failure, given, on_ok, trouble}
use Rattle.mount_model.specs.declared.call.Call.{Call}
use Rattle.mount_model.specs.declared.call.Call.TheVariants.{InstallFlat, Look, PutFlat, StartPack, SyncFlat}
use Rattle.mount_model.specs.declared.call.Look.TheVariants.{Length, Read}
use Rattle.mount_model.specs.declared.reply.Reply.{Reply}
use Rattle.mount_model.specs.declared.reply.Reply.TheVariants.{Done, Looked, Started}
use Rattle.mount_model.specs.Paths.{index_path}
use Rattle.mount_model.specs.State.{State}
use Rattle.mount_model.specs.Step.{IsStep}
use Rattle.mount_sound.specs.Owed.{Owes, Permits}
use Rattle.recovery_laws.proofs.Holds.Facts.{may_free, safe_ask}
use Rattle.recovery_laws.proofs.Facts.{Cleanly, Stays, asks_safe, cleanly_so, cleanly_stays, cleanly_then, safe_on_ok, stays_both}
use Rattle.migrate_core.specs.declared.migrated.Migrated.{Migrated}
use Rattle.migrate_core.specs.Counting.{noted}
use Rattle.migrate_core.specs.Entries.{checked, no_entries}
use Rattle.migrate_core.specs.Longest.{packing}
use Rattle.migrate_core.specs.Migrating.{migrates}
use Rattle.migrate_core.specs.Words.{Fate, Packed, Tail, is_packed, passed_over}
use Rattle.migrate_core.specs.Writers.{counts_of, flat_in, if_done, installs, or_damage, puts, reads, reads_left, sized, starts, syncs, writer_program}
use Rattle.mount_model.specs.Entries.{next_read, reads_of}
use Rattle.index_reader.specs.Replies.{number_in}
use Rattle.migrate_laws.proofs.Left.{AreLeft, IsLeft, all_left_stay, left_stays}
use Rattle.migrate_laws.proofs.Looking.{of_bytes, of_number}
use Rattle.migrate_laws.proofs.Reading.{Measured, Reading, Ready, begins, measured_at, measured_stays, read_at, reading_stays, ready_now, ready_stays}
use Rattle.migrate_laws.proofs.Starting.{LastsBeside, beside_lasts, put_lasts, started_so}

pub of_flat : (reply : Reply) (flat : ℕ) → flat_in reply ≡ Some flat → reply ≡ Started flat
of_flat (Started told) flat e = let same : told ≡ flat = cc in ap (λ n. Started n) same
of_flat reply flat e = absurd cc

module _ (caller number : ℕ) (m : Metadata) (metas : List Metadata) (sofar : Migrated)
    (rest_safe : (then_so : Migrated) (state : State) → Cleanly (AreLeft number metas) state → IsSafe IsStep Permits caller (asking (migrates number metas then_so)) state) where
  -- the others are packed whatever became of this one
  abbrev Others : State → Type 0
  Others = AreLeft number metas

  -- what follows this writer
  abbrev Then : Result Fate Stuck → Tries Migrated
  Then = on_ok (λ fate. migrates number metas (noted fate sofar))

  -- it may make the calls of this program for the writer, and those for the others
  abbrev Goes : Tries Fate → State → Type 0
  Goes p state = IsSafe IsStep Permits caller (asking (followed_by p Then)) state

  -- with what holds of the writer
  abbrev With : (State → Type 0) → State → Type 0
  With fact state = fact state × AreLeft number metas state

  with_stays : (fact : State → Type 0) → Stays fact → Stays (With fact)
  with_stays fact stays = stays_both fact (AreLeft number metas) stays (all_left_stay number metas)

  others_so : (fact : State → Type 0) (state : State) → Cleanly (With fact) state → Cleanly Others state
  others_so fact state f = cleanly_so (With fact) Others state (λ l s holds. holds.1) f

  ended : (r : Result Fate Stuck) (state : State) → Cleanly Others state → IsSafe IsStep Permits caller (asking (Then r)) state
  ended r state f = safe_on_ok caller r (λ fate. migrates number metas (noted fate sofar)) state (λ fate. rest_safe (noted fate sofar) state f)

  -- a call after which it goes on where that was done
  done_or : (next : Tries Fate) (state : State) → Cleanly Others state → Goes next state → (reply : Reply) → Goes (if_done next reply) state
  done_or next state f goes Done = goes
  done_or next state f goes reply = tt

  -- ---- the packed index is installed

  safe_install : (flat : ℕ) (packed : Packed) (state : State) → Cleanly Others state → Goes (installs flat packed) state
  safe_install flat packed = asks_safe caller Others (all_left_stay number metas) (InstallFlat flat)
      (λ reply. followed_by (if_done (done (Ok (is_packed packed))) reply) Then)
      (λ state f. may_free state caller (InstallFlat flat) (tt, tt) f.0)
      (λ state reply after step may f.
      let now : Cleanly Others after = cleanly_stays Others (all_left_stay number metas) state after caller (unbroken (InstallFlat flat)) reply may step f in
      done_or (done (Ok (is_packed packed))) after now (ended (Ok (is_packed packed)) after now) reply)

  safe_sync : (flat : ℕ) (packed : Packed) (state : State) → Cleanly Others state → Goes (syncs flat packed) state
  safe_sync flat packed = asks_safe caller Others (all_left_stay number metas) (SyncFlat flat)
      (λ reply. followed_by (if_done (installs flat packed) reply) Then)
      (λ state f. may_free state caller (SyncFlat flat) (tt, tt) f.0)
      (λ state reply after step may f.
      let now : Cleanly Others after = cleanly_stays Others (all_left_stay number metas) state after caller (unbroken (SyncFlat flat)) reply may step f in
      done_or (installs flat packed) after now (safe_install flat packed after now) reply)

  -- ---- it is put

  abbrev MayPutNow : ℕ → List ℕ → State → Type 0
  MayPutNow flat bytes state = Owes state caller (PutFlat flat bytes) × AreLeft number metas state

  may_put_lasts : (flat : ℕ) (bytes : List ℕ) → LastsBeside caller (MayPutNow flat bytes)
  may_put_lasts flat bytes l old new other asked reply differ may step s holds = (
    put_lasts caller flat bytes l old new other asked reply differ may step s holds.0,
    all_left_stay number metas l old new other asked reply may step s holds.1,
  )

  safe_put : (flat : ℕ) (bytes : List ℕ) (packed : Packed) (state : State) → Cleanly (MayPutNow flat bytes) state → Goes (puts bytes packed flat) state
  safe_put flat bytes packed = safe_ask caller (Cleanly (MayPutNow flat bytes)) (PutFlat flat bytes)
      (λ reply. followed_by (if_done (syncs flat packed) reply) Then)
      (beside_lasts caller (MayPutNow flat bytes) (may_put_lasts flat bytes))
      (λ state f. (f.0, record { numbers = tt; owes = λ clean. (f.1 clean).0 }))
      (λ state reply after f may step.
      let now : Cleanly Others after = cleanly_then (MayPutNow flat bytes) Others state after caller (unbroken (PutFlat flat bytes)) reply may step f
      (λ l s holds. all_left_stay number metas l state after caller (unbroken (PutFlat flat bytes)) reply may.1 step s holds.1) in
      done_or (syncs flat packed) after now (safe_sync flat packed after now) reply)

  -- ---- it is begun

  safe_start : (es : List Entry) (state : State) → Cleanly (With (Ready number m es)) state → Goes (starts number m (packing es) (counts_of es)) state
  safe_start es = asks_safe caller (With (Ready number m es)) (with_stays (Ready number m es) (ready_stays number m es)) (StartPack number m.host m.writer)
      (λ reply. followed_by (given (flat_in reply) (failure reply) (puts (packing es) (counts_of es))) Then)
      (λ state f. (f.0, record { numbers = tt; owes = λ clean. λ tree told. let x = (f.1 clean).0.0 tree told in (x.0, x.1, (spelling_all es, x.2.stands)) }))
      (λ state reply after step may f. given_flat state reply after step may f (flat_in reply) refl)
    where
      given_flat : (state : State) (reply : Reply) (after : State) → IsStep state caller (unbroken (StartPack number m.host m.writer)) reply after → Permits state caller (unbroken (StartPack number m.host m.writer)) → Cleanly (With (Ready number m es)) state → (o : Option ℕ) → flat_in reply ≡ o
          → Goes (given o (failure reply) (puts (packing es) (counts_of es))) after
      given_flat state reply after step may f None is = tt
      given_flat state reply after step may f (Some flat) is =
          let begun : IsStep state caller (unbroken (StartPack number m.host m.writer)) (Started flat) after = subst (λ r. IsStep state caller (unbroken (StartPack number m.host m.writer)) r after) (of_flat reply flat is) step in
          safe_put flat (packing es) (counts_of es) after
          (cleanly_then (With (Ready number m es)) (MayPutNow flat (packing es)) state after caller (unbroken (StartPack number m.host m.writer)) (Started flat) may begun f
          (λ l s holds. (
            started_so caller number flat m es holds.0.1 holds.0.2 l state after s may.1 begun holds.0.0,
            all_left_stay number metas l state after caller (unbroken (StartPack number m.host m.writer)) (Started flat) may.1 begun s holds.1,
          )))

  -- ---- its entries are read

  abbrev read_call : ℕ → Tail → Call
  read_call left tail = Look number (Read (index_path m.host m.writer) (40 * tail.cover.count) (40 * next_read left))

  safe_reads : (n left : ℕ) (tail : Tail) → left ≤ 4096 * n → (state : State) → Cleanly (With (Reading number m left tail)) state → Goes (reads n number m left tail) state
  safe_reads zero left tail few = λ state f.
      safe_start tail.entries state (cleanly_so (With (Reading number m left tail)) (With (Ready number m tail.entries)) state (λ l s holds. (ready_now number m left tail state (omega (arith, few)) holds.0, holds.1)) f)
  safe_reads (suc n) left tail few = asks_safe caller (With (Reading number m left tail)) (with_stays (Reading number m left tail) (reading_stays number m left tail)) (read_call left tail)
      (λ reply. followed_by (given (bytes_in reply) (trouble (index_path m.host m.writer) reply) (λ bytes. or_damage (index_path m.host m.writer) (λ more. reads n number m (left - next_read left) more) (checked (next_read left) bytes tail))) Then)
      (λ state f. may_free state caller (read_call left tail) (tt, tt) f.0)
      (λ state reply after step may f. given_bytes (λ more now holds. safe_reads n (left - next_read left) more (omega (arith, few)) now holds) state reply after step may f (bytes_in reply) refl)
    where
      went : ((more : Tail) (now : State) → Cleanly (With (Reading number m (left - next_read left) more)) now → Goes (reads n number m (left - next_read left) more) now) → (state : State) (bytes : List ℕ) (after : State) → IsStep state caller (unbroken (read_call left tail)) (Looked (Bytes bytes)) after → Permits state caller (unbroken (read_call left tail)) → Cleanly (With (Reading number m left tail)) state → (r : Result Tail ℕ) → checked (next_read left) bytes tail ≡ r
          → Goes (or_damage (index_path m.host m.writer) (λ more. reads n number m (left - next_read left) more) r) after
      went again state bytes after step may f (Err place) is = tt
      went again state bytes after step may f (Ok more) is =
          again more after
          (cleanly_then (With (Reading number m left tail)) (With (Reading number m (left - next_read left) more)) state after caller (unbroken (read_call left tail)) (Looked (Bytes bytes)) may step f
          (λ l s holds. (
            reading_stays number m (left - next_read left) more l state after caller (unbroken (read_call left tail)) (Looked (Bytes bytes)) may.1 step s (read_at l state s caller number m left tail more bytes after step is holds.0),
            all_left_stay number metas l state after caller (unbroken (read_call left tail)) (Looked (Bytes bytes)) may.1 step s holds.1,
          )))

      given_bytes : ((more : Tail) (now : State) → Cleanly (With (Reading number m (left - next_read left) more)) now → Goes (reads n number m (left - next_read left) more) now) → (state : State) (reply : Reply) (after : State) → IsStep state caller (unbroken (read_call left tail)) reply after → Permits state caller (unbroken (read_call left tail)) → Cleanly (With (Reading number m left tail)) state → (o : Option (List ℕ)) → bytes_in reply ≡ o
          → Goes (given o (trouble (index_path m.host m.writer) reply) (λ bytes. or_damage (index_path m.host m.writer) (λ more. reads n number m (left - next_read left) more) (checked (next_read left) bytes tail))) after
      given_bytes again state reply after step may f None is = tt
      given_bytes again state reply after step may f (Some bytes) is =
          went again state bytes after (subst (λ r. IsStep state caller (unbroken (read_call left tail)) r after) (of_bytes reply bytes is) step) may f (checked (next_read left) bytes tail) refl

  reads_enough : (left : ℕ) → left ≤ 4096 * reads_of left
  reads_enough left = omega arith

  -- ---- its index dropping is measured

  safe_sized : (told : ℕ) (state : State) → Cleanly (With (Measured number m told)) state → Goes (sized number m told (told / 40)) state
  safe_sized told state f = by_size (nat_lt MAX_PACKED (told / 40)) ((told / 40) == 0) refl refl
    where
      by_size : (many none : Bool) → nat_lt MAX_PACKED (told / 40) ≡ many → ((told / 40) == 0) ≡ none
          → Goes (if many then done (Ok passed_over) else (if none then done (Err (damage (index_path m.host m.writer) told)) else reads_left number m (told / 40) (no_entries m.writer))) state
      by_size true none is_many is_none = ended (Ok passed_over) state (others_so (Measured number m told) state f)
      by_size false true is_many is_none = tt
      by_size false false is_many is_none =
          safe_reads (reads_of (told / 40)) (told / 40) (no_entries m.writer) (reads_enough (told / 40)) state
          (cleanly_so (With (Measured number m told)) (With (Reading number m (told / 40) (no_entries m.writer))) state
          (λ l s holds. ((holds.0.0, holds.0.1, begins holds.0.0 m.writer told holds.0.2 is_many is_none), holds.1)) f)

  -- ---- all of its calls

  pub safe_writer : (state : State) → Cleanly (With (IsLeft number m)) state → Goes (writer_program number m) state
  safe_writer = asks_safe caller (With (IsLeft number m)) (with_stays (IsLeft number m) (left_stays number m)) (Look number (Length (index_path m.host m.writer)))
      (λ reply. followed_by (given (number_in reply) (trouble (index_path m.host m.writer) reply) (λ told. sized number m told (told / 40))) Then)
      (λ state f. may_free state caller (Look number (Length (index_path m.host m.writer))) (tt, tt) f.0)
      (λ state reply after step may f. given_length state reply after step may f (number_in reply) refl)
    where
      given_length : (state : State) (reply : Reply) (after : State) → IsStep state caller (unbroken (Look number (Length (index_path m.host m.writer)))) reply after → Permits state caller (unbroken (Look number (Length (index_path m.host m.writer)))) → Cleanly (With (IsLeft number m)) state → (o : Option ℕ) → number_in reply ≡ o
          → Goes (given o (trouble (index_path m.host m.writer) reply) (λ told. sized number m told (told / 40))) after
      given_length state reply after step may f None is = tt
      given_length state reply after step may f (Some told) is =
          let measured : IsStep state caller (unbroken (Look number (Length (index_path m.host m.writer)))) (Looked (Number told)) after = subst (λ r. IsStep state caller (unbroken (Look number (Length (index_path m.host m.writer)))) r after) (of_number reply told is) step in
          safe_sized told after
          (cleanly_then (With (IsLeft number m)) (With (Measured number m told)) state after caller (unbroken (Look number (Length (index_path m.host m.writer)))) (Looked (Number told)) may measured f
          (λ l s holds. (
            measured_stays number m told l state after caller (unbroken (Look number (Length (index_path m.host m.writer)))) (Looked (Number told)) may.1 measured s (measured_at l state s caller number m told after measured holds.0),
            all_left_stay number metas l state after caller (unbroken (Look number (Length (index_path m.host m.writer)))) (Looked (Number told)) may.1 measured s holds.1,
          )))
