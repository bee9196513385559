-- A writer whose migration is at its end has its packed index, or was passed over.
use Rattle.std.proofs.Common.{◌≡◌, ◌≤◌, ◌<◌, ◌-◌, ◌*◌, ◌/◌, ◌^◌, ◌==◌, ℕ, zero, suc, nat_lt, Bool, true, false, List, Option, Some, None, refl, ap, sym, ◌∙◌, ◌⊎◌, inl, inr, subst, arith}
use Rattle.std.specs.Prelude.{if◌then◌else◌, Result, Ok, Err, slice_get}
use Rattle.plfs_types.specs.declared.entries.Entry.{Entry}
use Rattle.plfs_types.specs.declared.limits.TheConstants.{MAX_PACKED}
use Rattle.container_layout.specs.declared.items.Item.TheVariants.{Packed as PackedItem}
use Rattle.store_api.specs.declared.step.Answer.TheVariants.{Bytes, Made, NoFolder, NoRoom, Number}
use Rattle.store_api.specs.declared.store.Trouble.TheVariants as trouble_
use Rattle.store_api.specs.declared.tree.Room.{Room}
use Rattle.store_api.specs.declared.tree.Tree.{Tree}
use Rattle.store_laws.specs.Changes.{Replaced}
use Rattle.store_laws.specs.Files.{file_at}
use Rattle.store_laws.specs.Tells.{made}
use Rattle.store_laws.proofs.Facts.{acts_told, changed_room, replace_told}
use Rattle.mount_model.specs.declared.stuck.Stuck.{Stuck}
use Rattle.mount_model.specs.Running.{unbroken}
use Rattle.mount_model.specs.Program.{done}
use Rattle.mount_model.specs.declared.names.Metadata.{Metadata}
use Rattle.mount_model.specs.FlowReplies.{Tries, bytes_in, damage, failure, given, trouble}
use Rattle.mount_model.specs.declared.call.Call.{Call}
use Rattle.mount_model.specs.declared.call.Call.TheVariants.{InstallFlat, Look, PutFlat, StartPack, SyncFlat}
use Rattle.mount_model.specs.declared.call.Look.TheVariants.{Length, Read}
use Rattle.mount_model.specs.declared.reply.Reply.{Reply}
use Rattle.mount_model.specs.declared.reply.Reply.TheVariants.{Done, Looked, Started}
use Rattle.mount_model.specs.declared.row.Flattening.{Flattening}
use Rattle.mount_model.specs.declared.row.FlatStage.{FlatStage}
use Rattle.mount_model.specs.declared.row.FlatStage.TheVariants.{Begun, Put, Synced}
use Rattle.mount_model.specs.declared.row.Making.{Making}
use Rattle.mount_model.specs.declared.row.Making.TheVariants as making
use Rattle.mount_model.specs.Entering.{draw_check, next_id}
use Rattle.mount_model.specs.Flattening.{begun_flat, install_outcome, install_step, put_flat_outcome, start_outcome, Starts, StartsPackOf, sync_flat_outcome}
use Rattle.mount_model.specs.Making.{Told}
use Rattle.mount_model.specs.Paths.{index_path, installed, installed_item, temporary, temporary_item}
use Rattle.mount_model.specs.State.{State, Table}
use Rattle.mount_model.specs.Step.{IsStep}
use Rattle.mount_model.specs.Table.{flattening_at, flattening_of, with_flattening}
use Rattle.mount_model.proofs.Facts.{IsUnderway, found_before-push, found_before-with_flattening, is_underway, match_cases, next_not_flattened, on_flattening, step_flattened}
use Rattle.mount_sound.specs.Named.{FitsNames}
use Rattle.mount_sound.specs.Items.{HasItem}
use Rattle.mount_sound.specs.Ledger.{Ledger}
use Rattle.mount_sound.specs.Owed.{May, StandsInRoom}
use Rattle.mount_sound.specs.Sound.{IsSoundFor}
use Rattle.mount_sound.proofs.Facts.{apart, flat_container, flat_id_fits, is_installed, is_temporary, item_later, its_flats, moved_to, named_own, one_folder, one_tree, two_kinds}
use Rattle.recovery_laws.proofs.Facts.{Stays}
use Rattle.migrate_core.specs.Entries.{checked, no_entries}
use Rattle.migrate_core.specs.Longest.{packing}
use Rattle.migrate_core.specs.Words.{Fate, Tail, is_packed, passed_over}
use Rattle.migrate_core.specs.Writers.{counts_of, flat_in, if_done, installs, or_damage, puts, reads, reads_left, sized, starts, syncs, writer_program}
use Rattle.mount_model.specs.Entries.{next_read, reads_of}
use Rattle.index_reader.specs.Replies.{number_in}
use Rattle.migrate_laws.proofs.Ends.{Ends, ends_ask, ends_done}
use Rattle.migrate_laws.proofs.Left.{IsLeft, IsWhole, left_stays, whole_stays}
use Rattle.migrate_laws.proofs.Looking.{of_bytes, of_number}
use Rattle.migrate_laws.proofs.Reading.{IsLong, Measured, Reading, Ready, begins, long_now, long_stays, measured_at, measured_stays, read_at, reading_stays, ready_now}
use Rattle.migrate_laws.proofs.Starting.{LastsBeside, no_flattening, start_made}
use Rattle.migrate_laws.proofs.Writers.{of_flat}

-- all entries of the writer are these, and it has a packed index
abbrev pub IsPackedOf : ℕ → Metadata → List Entry → State → Type 0
IsPackedOf number m es state = IsWhole number m es state × StandsInRoom state number (λ room. (bytes : List ℕ) × HasItem room (PackedItem m.host m.writer) bytes)

pub packed_stays : (number : ℕ) (m : Metadata) (es : List Entry) → Stays (IsPackedOf number m es)
packed_stays number m es l old new other asked reply may step s f = (
  whole_stays number m es l old new other asked reply may step s f.0,
  item_later l old new other asked reply may step s (PackedItem m.host m.writer) tt number f.1,
)

-- ---- a packing that was begun

abbrev at_stage : FlatStage → Flattening → Flattening
at_stage stage f = record f { stage = stage }

-- Done is told where the act was made
install_done : (f : Flattening) (table : Table) (told : Told) → (install_outcome f table told).reply ≡ Done → told ≡ made
install_done f table (Ok Made) e = refl
install_done f table (Ok NoRoom) e = absurd (cc)
install_done f table (Ok NoFolder) e = absurd (cc)
install_done f table (Ok answer) e = absurd (cc)
install_done f table (Err trouble_.Fault) e = absurd (cc)
install_done f table (Err trouble_.NoMemory) e = absurd (cc)

module _ (caller number : ℕ) (m : Metadata) where
  abbrev makes : Making
  makes = making.Pack m.host m.writer

  abbrev IsIts : Flattening → Type 0
  IsIts f = (f.room ≡ number) × (f.makes ≡ makes)

  -- what the caller has of this number, it packs for the writer
  abbrev MakesIn : ℕ → List Flattening → Type 0
  MakesIn flat flattenings = (f : Flattening) → flattening_at flat flattenings ≡ Some f → f.owner ≡ caller → IsIts f

  abbrev pub Makes : ℕ → State → Type 0
  Makes flat state = MakesIn flat state.table.flattenings

  pub makes_lasts : (flat : ℕ) → LastsBeside caller (Makes flat)
  makes_lasts flat l old new other asked reply differ may step s holds f found own =
      holds f (step_flattened old new other asked reply flat f s.regular step found (λ same. differ (sym same ∙ own))) own

  comes_to : (flat : ℕ) (stage : FlatStage) (f : Flattening) (flattenings : List Flattening) → flattening_at flat flattenings ≡ Some f → f.owner ≡ caller → MakesIn flat flattenings → MakesIn flat (with_flattening (at_stage stage f) flattenings)
  comes_to flat stage f flattenings found own holds g e its = elim (found_before-with_flattening (at_stage stage f) flattenings flat g e) as (λ _. IsIts g) [
    | inl (other, was) ↦ holds g was its
    | inr (same, is) ↦ (ap (λ (x : Flattening). x.room) is ∙ (holds f found own).0, ap (λ (x : Flattening). x.makes) is ∙ (holds f found own).1)
  ]

  abbrev ComesTo : FlatStage → Flattening → List Flattening → List Flattening → Type 0
  ComesTo stage f old new = (new ≡ with_flattening (at_stage stage f) old) ⊎ (new ≡ old)

  comes_so : (flat : ℕ) (stage : FlatStage) (f : Flattening) (old new : List Flattening) → ComesTo stage f old new → flattening_at flat old ≡ Some f → f.owner ≡ caller → MakesIn flat old → MakesIn flat new
  comes_so flat stage f old new (inl is) found own holds = subst (MakesIn flat) (sym is) (comes_to flat stage f old found own holds)
  comes_so flat stage f old new (inr is) found own holds = subst (MakesIn flat) (sym is) holds

  put_comes : (f : Flattening) (table : Table) (told : Told) → ComesTo Put f table.flattenings (put_flat_outcome f table told).table.flattenings
  put_comes f table (Ok Made) = inl refl
  put_comes f table (Ok answer) = inr refl
  put_comes f table (Err trouble_.Fault) = inr refl
  put_comes f table (Err trouble_.NoMemory) = inr refl

  sync_comes : (f : Flattening) (table : Table) (told : Told) → ComesTo Synced f table.flattenings (sync_flat_outcome f table told).table.flattenings
  sync_comes f table (Ok Made) = inl refl
  sync_comes f table (Ok answer) = inr refl
  sync_comes f table (Err trouble_.Fault) = inr refl
  sync_comes f table (Err trouble_.NoMemory) = inr refl

  put_makes : (flat : ℕ) (bytes : List ℕ) (old : State) (reply : Reply) (new : State) → IsStep old caller (unbroken (PutFlat flat bytes)) reply new → Makes flat old → Makes flat new
  put_makes flat bytes old reply new step holds = on_flattening caller Begun flat old reply new _ (Makes flat new) step.does (λ same. subst (Makes flat) (sym same) holds)
      (λ f is x. comes_so flat Put f old.table.flattenings new.table.flattenings
      (subst (ComesTo Put f old.table.flattenings) (sym (ap (λ (y : State). y.table.flattenings) x.after)) (put_comes f old.table x.told)) is.found is.owned holds)

  sync_makes : (flat : ℕ) (old : State) (reply : Reply) (new : State) → IsStep old caller (unbroken (SyncFlat flat)) reply new → Makes flat old → Makes flat new
  sync_makes flat old reply new step holds = on_flattening caller Put flat old reply new _ (Makes flat new) step.does (λ same. subst (Makes flat) (sym same) holds)
      (λ f is x. comes_so flat Synced f old.table.flattenings new.table.flattenings
      (subst (ComesTo Synced f old.table.flattenings) (sym (ap (λ (y : State). y.table.flattenings) x.after)) (sync_comes f old.table x.told)) is.found is.owned holds)

  start_makes : (flat : ℕ) (l : Ledger) (old new : State) → IsSoundFor l old → IsStep old caller (unbroken (StartPack number m.host m.writer)) (Started flat) new → Makes flat new
  start_makes flat l old new s step = elim (match_cases (draw_check old number) _ _ step.does) as (λ _. Makes flat new) [
    | inl (none, x) ↦ (let p : StartsPackOf caller number m.host m.writer old (Started flat) new = x in begun p.makes)
    | inr (why, is, refused) ↦ absurd (let e = refused.0 in cc)
  ]
    where
      begun : Starts caller number (making.Pack m.host m.writer) old (Started flat) new → Makes flat new
      begun x f found own =
          let mine : Flattening = begun_flat old caller number (making.Pack m.host m.writer) in
          let so = start_made mine old.table x.told flat x.answered in
          let are = ap (λ (y : State). y.table.flattenings) x.after ∙ ap (λ told. (start_outcome mine old.table told).table.flattenings) so.0 in
          elim (found_before-push old.table.flattenings mine flat f (subst (λ fs. flattening_at flat fs ≡ Some f) are found)) as (λ _. IsIts f) [
            | inl was ↦ absurd (no_flattening f flat (next_id old) old.table.flattenings so.1 (next_not_flattened old.mount old.serial old.marks old.table.flattenings s.regular.flattenings) was)
            | inr it ↦ (ap (λ (y : Flattening). y.room) it.1, ap (λ (y : Flattening). y.makes) it.1)
          ]

  -- what was installed is its packed index
  abbrev HasPacked : Room → Type 0
  HasPacked room = (bytes : List ℕ) × HasItem room (PackedItem m.host m.writer) bytes

  installs_its : (flat : ℕ) (l : Ledger) (old new : State) → IsSoundFor l old → IsStep old caller (unbroken (InstallFlat flat)) Done new → Makes flat old → StandsInRoom new number HasPacked
  installs_its flat l old new s step holds = elim (match_cases (flattening_of caller Synced flat old.table.flattenings) _ _ step.does) as (λ _. StandsInRoom new number HasPacked) [
    | inl (none, refused) ↦ absurd (let never = refused.0 in cc)
    | inr (f, its, x) ↦
        let is : IsUnderway caller Synced flat old.table.flattenings f = is_underway caller Synced flat old.table.flattenings f its in
        let own : IsIts f = holds f is.found is.owned in
        let named : FitsNames f.makes = named_own old s.regular s.shape (its_flats l old s) caller Synced flat f is in
        let fits : f.id < 2 ^ 64 = flat_id_fits old s.regular flat f is.found in
        let t = acts_told (install_step f) old.store new.store s.shape.tree x.told s.shape.told x.made in
        let was : Replaced s.shape.tree f.room (temporary f) (installed f).file t.0 = (replace_told f.room (temporary f) (installed f).file s.shape.tree x.told t.0 t.2).done (install_done f old.table x.told (sym x.answered)) in
        elim was as (λ _. StandsInRoom new number HasPacked) [
          | inr same ↦ absurd (apart (temporary_item f.makes f.id) (installed_item f.makes f.id) (is_temporary f.makes f.id named fits) (is_installed f.makes f.id named fits) (two_kinds f.makes f.makes f.id f.id) (sym (one_folder f.makes f.id)) same.0)
          | inl c ↦
              let has : HasItem c.new (installed_item f.makes f.id) c.bytes =
              record { is_item = is_installed f.makes f.id named fits; there = ap (λ p. file_at c.new p) (sym (moved_to f.makes f.id)) ∙ c.now (flat_container old s.regular flat f is.found s.shape c.room c.has_room).paths_differ } in
              let there : slice_get t.0.rooms f.room ≡ Some c.new = ap (λ (y : Tree). slice_get y.rooms f.room) c.gives ∙ changed_room s.shape.tree f.room c.room c.new c.has_room in
              let here : slice_get t.0.rooms number ≡ Some c.new = subst (λ n. slice_get t.0.rooms n ≡ Some c.new) own.0 there in
              let packed : HasPacked c.new = (c.bytes, subst (λ k. HasItem c.new (installed_item k f.id) c.bytes) own.1 has) in
              λ tree told. subst (λ (y : Tree). (room : Room) × (slice_get y.rooms number ≡ Some room) × HasPacked room) (one_tree t.0 tree new.store.tree t.1 told) (c.new, here, packed)
        ]
  ]

  -- ---- the calls for the writer, while something else stays

  module _ (carry : State → Type 0) (carry_stays : Stays carry) where
    -- it was passed over, since it is too long, or it has its packed index
    abbrev pub IsFate : Result Fate Stuck → State → Type 0
    IsFate (Ok fate) state = carry state × (((fate ≡ passed_over) × IsLong number m state) ⊎ ((es : List Entry) × (fate ≡ is_packed (counts_of es)) × IsPackedOf number m es state))
    IsFate (Err why) state = Unit {0}

    abbrev FateEnds : Tries Fate → State → Type 0
    FateEnds program state = Ends caller IsFate program state

    failed : (why : Stuck) (state : State) → FateEnds (done (Err why)) state
    failed why state = ends_done caller IsFate (Err why) (λ now. Unit {0}) (λ l old new other asked reply may step s f. tt) (λ l now s f. tt) state tt

    abbrev With : (State → Type 0) → State → Type 0
    With fact state = carry state × fact state

    with_stays : (fact : State → Type 0) → Stays fact → Stays (With fact)
    with_stays fact stays l old new other asked reply may step s f = (carry_stays l old new other asked reply may step s f.0, stays l old new other asked reply may step s f.1)

    beside : (fact : State → Type 0) → Stays fact → LastsBeside caller fact
    beside fact stays l old new other asked reply differ may step s f = stays l old new other asked reply may step s f

    -- while it is packed
    module _ (es : List Entry) (flat : ℕ) where
      abbrev Underway : State → Type 0
      Underway state = With (IsWhole number m es) state × Makes flat state

      whole_with : Stays (With (IsWhole number m es))
      whole_with = with_stays (IsWhole number m es) (whole_stays number m es)

      underway_lasts : LastsBeside caller Underway
      underway_lasts l old new other asked reply differ may step s f = (whole_with l old new other asked reply may step s f.0, makes_lasts flat l old new other asked reply differ may step s f.1)

      installed_so : (l : Ledger) (state : State) (reply : Reply) (after : State) → May state caller (unbroken (InstallFlat flat)) → IsStep state caller (unbroken (InstallFlat flat)) reply after → IsSoundFor l state → Underway state → FateEnds (if_done (done (Ok (is_packed (counts_of es)))) reply) after
      installed_so l state Done after may step s f =
          let on = whole_with l state after caller (unbroken (InstallFlat flat)) Done may step s f.0 in
          ends_done caller IsFate (Ok (is_packed (counts_of es))) (With (IsPackedOf number m es)) (with_stays (IsPackedOf number m es) (packed_stays number m es))
          (λ k now t p. (p.0, inr (es, refl, p.1))) after (on.0, (on.1, installs_its flat l state after s step f.1))
      installed_so l state reply after may step s f = failed (failure reply) after

      installs_end : (state : State) → Underway state → FateEnds (installs flat (counts_of es)) state
      installs_end = ends_ask caller IsFate Underway underway_lasts (InstallFlat flat) (if_done (done (Ok (is_packed (counts_of es))))) installed_so

      synced : (l : Ledger) (state : State) (reply : Reply) (after : State) → May state caller (unbroken (SyncFlat flat)) → IsStep state caller (unbroken (SyncFlat flat)) reply after → IsSoundFor l state → Underway state → FateEnds (if_done (installs flat (counts_of es)) reply) after
      synced l state Done after may step s f = installs_end after (whole_with l state after caller (unbroken (SyncFlat flat)) Done may step s f.0, sync_makes flat state Done after step f.1)
      synced l state reply after may step s f = failed (failure reply) after

      syncs_end : (state : State) → Underway state → FateEnds (syncs flat (counts_of es)) state
      syncs_end = ends_ask caller IsFate Underway underway_lasts (SyncFlat flat) (if_done (installs flat (counts_of es))) synced

      put_so : (bytes : List ℕ) (l : Ledger) (state : State) (reply : Reply) (after : State) → May state caller (unbroken (PutFlat flat bytes)) → IsStep state caller (unbroken (PutFlat flat bytes)) reply after → IsSoundFor l state → Underway state → FateEnds (if_done (syncs flat (counts_of es)) reply) after
      put_so bytes l state Done after may step s f = syncs_end after (whole_with l state after caller (unbroken (PutFlat flat bytes)) Done may step s f.0, put_makes flat bytes state Done after step f.1)
      put_so bytes l state reply after may step s f = failed (failure reply) after

      puts_end : (bytes : List ℕ) (state : State) → Underway state → FateEnds (puts bytes (counts_of es) flat) state
      puts_end bytes = ends_ask caller IsFate Underway underway_lasts (PutFlat flat bytes) (if_done (syncs flat (counts_of es))) (put_so bytes)

    module _ (es : List Entry) (bytes : List ℕ) where
      started : (l : Ledger) (state : State) (reply : Reply) (after : State) → May state caller (unbroken (StartPack number m.host m.writer)) → IsStep state caller (unbroken (StartPack number m.host m.writer)) reply after → IsSoundFor l state → With (IsWhole number m es) state → (o : Option ℕ) → flat_in reply ≡ o
          → FateEnds (given o (failure reply) (puts bytes (counts_of es))) after
      started l state reply after may step s f None is = failed (failure reply) after
      started l state reply after may step s f (Some flat) is =
          let on : With (IsWhole number m es) after = with_stays (IsWhole number m es) (whole_stays number m es) l state after caller (unbroken (StartPack number m.host m.writer)) reply may step s f in
          puts_end es flat bytes after (on, start_makes flat l state after s (subst (λ r. IsStep state caller (unbroken (StartPack number m.host m.writer)) r after) (of_flat reply flat is) step))

      starts_end : (state : State) → With (IsWhole number m es) state → FateEnds (starts number m bytes (counts_of es)) state
      starts_end = ends_ask caller IsFate (With (IsWhole number m es)) (beside (With (IsWhole number m es)) (with_stays (IsWhole number m es) (whole_stays number m es))) (StartPack number m.host m.writer)
          (λ reply. given (flat_in reply) (failure reply) (puts bytes (counts_of es)))
          (λ l state reply after may step s f. started l state reply after may step s f (flat_in reply) refl)

    -- its entries are read

    abbrev read_call : ℕ → Tail → Call
    read_call left tail = Look number (Read (index_path m.host m.writer) (40 * tail.cover.count) (40 * next_read left))

    abbrev ReadsEnd : ℕ → Type 0
    ReadsEnd n = (left : ℕ) (tail : Tail) → left ≤ 4096 * n → (state : State) → With (Reading number m left tail) state → FateEnds (reads n number m left tail) state

    module _ (n left : ℕ) (tail : Tail) (few : left ≤ 4096 * suc n) (again : ReadsEnd n) where
      abbrev Onward : List ℕ → Tries Fate
      Onward bytes = or_damage (index_path m.host m.writer) (λ more. reads n number m (left - next_read left) more) (checked (next_read left) bytes tail)

      went : (l : Ledger) (state : State) (bytes : List ℕ) (after : State) → May state caller (unbroken (read_call left tail)) → IsStep state caller (unbroken (read_call left tail)) (Looked (Bytes bytes)) after → IsSoundFor l state → With (Reading number m left tail) state → (r : Result Tail ℕ) → checked (next_read left) bytes tail ≡ r
          → FateEnds (or_damage (index_path m.host m.writer) (λ more. reads n number m (left - next_read left) more) r) after
      went l state bytes after may step s f (Err place) is = failed (damage (index_path m.host m.writer) place) after
      went l state bytes after may step s f (Ok more) is =
          again (left - next_read left) more (omega (arith, few)) after (
            carry_stays l state after caller (unbroken (read_call left tail)) (Looked (Bytes bytes)) may step s f.0,
            reading_stays number m (left - next_read left) more l state after caller (unbroken (read_call left tail)) (Looked (Bytes bytes)) may step s (read_at l state s caller number m left tail more bytes after step is f.1),
          )

      given_bytes : (l : Ledger) (state : State) (reply : Reply) (after : State) → May state caller (unbroken (read_call left tail)) → IsStep state caller (unbroken (read_call left tail)) reply after → IsSoundFor l state → With (Reading number m left tail) state → (o : Option (List ℕ)) → bytes_in reply ≡ o
          → FateEnds (given o (trouble (index_path m.host m.writer) reply) Onward) after
      given_bytes l state reply after may step s f None is = failed (trouble (index_path m.host m.writer) reply) after
      given_bytes l state reply after may step s f (Some bytes) is =
          went l state bytes after may (subst (λ r. IsStep state caller (unbroken (read_call left tail)) r after) (of_bytes reply bytes is) step) s f (checked (next_read left) bytes tail) refl

      read_end : (state : State) → With (Reading number m left tail) state → FateEnds (reads (suc n) number m left tail) state
      read_end = ends_ask caller IsFate (With (Reading number m left tail)) (beside (With (Reading number m left tail)) (with_stays (Reading number m left tail) (reading_stays number m left tail))) (read_call left tail)
          (λ reply. given (bytes_in reply) (trouble (index_path m.host m.writer) reply) Onward)
          (λ l state reply after may step s f. given_bytes l state reply after may step s f (bytes_in reply) refl)

    reads_end : (n : ℕ) → ReadsEnd n
    reads_end zero left tail few state f =
        let ready : Ready number m tail.entries state = ready_now number m left tail state (omega (arith, few)) f.1 in
        starts_end tail.entries (packing tail.entries) state (f.0, ready.0)
    reads_end (suc n) left tail few state f = read_end n left tail few (reads_end n) state f

    reads_enough : (left : ℕ) → left ≤ 4096 * reads_of left
    reads_enough left = omega arith

    -- its index dropping is measured

    sized_end : (told : ℕ) (state : State) → With (Measured number m told) state → FateEnds (sized number m told (told / 40)) state
    sized_end told state f = by_size (nat_lt MAX_PACKED (told / 40)) ((told / 40) == 0) refl refl
      where
        by_size : (many none : Bool) → nat_lt MAX_PACKED (told / 40) ≡ many → ((told / 40) == 0) ≡ none
            → FateEnds (if many then done (Ok passed_over) else (if none then done (Err (damage (index_path m.host m.writer) told)) else reads_left number m (told / 40) (no_entries m.writer))) state
        by_size true none is_many is_none =
            ends_done caller IsFate (Ok passed_over) (With (IsLong number m)) (with_stays (IsLong number m) (long_stays number m)) (λ l now s c. (c.0, inl (refl, c.1))) state (f.0, long_now number m told state is_many f.1)
        by_size false true is_many is_none = failed (damage (index_path m.host m.writer) told) state
        by_size false false is_many is_none =
            reads_end (reads_of (told / 40)) (told / 40) (no_entries m.writer) (reads_enough (told / 40)) state
            (f.0, (f.1.0, f.1.1, begins f.1.0 m.writer told f.1.2 is_many is_none))

    -- all of its calls

    abbrev length_call : Call
    length_call = Look number (Length (index_path m.host m.writer))

    given_length : (l : Ledger) (state : State) (reply : Reply) (after : State) → May state caller (unbroken length_call) → IsStep state caller (unbroken length_call) reply after → IsSoundFor l state → With (IsLeft number m) state → (o : Option ℕ) → number_in reply ≡ o
        → FateEnds (given o (trouble (index_path m.host m.writer) reply) (λ told. sized number m told (told / 40))) after
    given_length l state reply after may step s f None is = failed (trouble (index_path m.host m.writer) reply) after
    given_length l state reply after may step s f (Some told) is =
        let measured : IsStep state caller (unbroken length_call) (Looked (Number told)) after = subst (λ r. IsStep state caller (unbroken length_call) r after) (of_number reply told is) step in
        sized_end told after (
          carry_stays l state after caller (unbroken length_call) (Looked (Number told)) may measured s f.0,
          measured_stays number m told l state after caller (unbroken length_call) (Looked (Number told)) may measured s (measured_at l state s caller number m told after measured f.1),
        )

    pub writer_ends : (state : State) → carry state → IsLeft number m state → FateEnds (writer_program number m) state
    writer_ends state c left = ends_ask caller IsFate (With (IsLeft number m)) (beside (With (IsLeft number m)) (with_stays (IsLeft number m) (left_stays number m))) length_call
        (λ reply. given (number_in reply) (trouble (index_path m.host m.writer) reply) (λ told. sized number m told (told / 40)))
        (λ l now reply after may step s f. given_length l now reply after may step s f (number_in reply) refl) state (c, left)
