-- What each call of a flattening leaves, where it did its work: a room as a plain machine has it, and the flattening a stage further.
use Rattle.std.proofs.Common.{◌≡◌, ◌+◌, ℕ, Bool, true, nat_eq, ◌&&◌, List, [], ◌∷◌, ◌++◌, get_or, Some, None, Ok, Err, refl, sym, ap, ◌∙◌, inl, inr, subst, arith, if◌then◌else◌}
use Rattle.std.specs.Prelude.{MatchOption, slice_get}
use Rattle.std.proofs.lemmas.Bool.Decides.{nat_tests}
use Rattle.plfs_types.specs.declared.names.Path.{Path}
use Rattle.container_layout.specs.declared.items.Item.TheVariants as item
use Rattle.container_layout.specs.Paths.{path_of}
use Rattle.container_layout.proofs.Facts.{elsewhere}
use Rattle.store_api.specs.declared.step.Answer.TheVariants as answer
use Rattle.store_api.specs.declared.store.Trouble.TheVariants as trouble
use Rattle.store_api.specs.declared.tree.Room.{Room}
use Rattle.store_api.specs.Step.{Step, create, replace, sync, write_at}
use Rattle.store_laws.specs.Naming.{IsPathOf}
use Rattle.store_laws.proofs.Facts.{create_told, replace_told, sync_told, write_told}
use Rattle.mount_model.specs.declared.call.Call.{Call}
use Rattle.mount_model.specs.declared.call.Call.TheVariants.{InstallFlat, PutFlat, StartFlat, StartPack, SyncDropping, SyncFlat}
use Rattle.mount_model.specs.declared.reply.Refusal.TheVariants.{NotOpen}
use Rattle.mount_model.specs.declared.reply.Reply.{Reply}
use Rattle.mount_model.specs.declared.reply.Reply.TheVariants.{Done, Refused, Started}
use Rattle.mount_model.specs.declared.row.FlatStage.{FlatStage}
use Rattle.mount_model.specs.declared.row.FlatStage.TheVariants.{Begun, Put, Synced}
use Rattle.mount_model.specs.declared.row.Flattening.{Flattening}
use Rattle.mount_model.specs.declared.row.Making.{Making}
use Rattle.mount_model.specs.declared.row.Making.TheVariants as making
use Rattle.mount_model.specs.Entering.{draw_check, next_id}
use Rattle.mount_model.specs.Flattening.{OnFlattening, Starts, StartsPackOf, begun_flat, come_to, install_outcome, install_step, put_flat_outcome, put_flat_step, start_outcome, start_step, sync_flat_outcome, sync_flat_step}
use Rattle.mount_model.specs.History.{Event}
use Rattle.mount_model.specs.Making.{CallOutcome, MakesAct, Refuses, Told, room_check}
use Rattle.mount_model.specs.Paths.{Name, dropping_path, flats, installed, installed_of, temporary, temporary_of}
use Rattle.mount_model.specs.Recovering.{SyncsIt, done_outcome, sync_dropping_step}
use Rattle.mount_model.specs.State.{State, Table}
use Rattle.mount_model.specs.Step.{Answers}
use Rattle.mount_model.specs.Table.{flat_rank, flattening_at, flattening_of, its_flattening, with_flattening}
use Rattle.mount_model.proofs.Facts.{flattening_at-push, flattening_at-with_flattening, flattening_at_id, match_cases, next_not_flattened}
use Rattle.mount_sound.specs.Issued.{issued_after}
use Rattle.mount_model.specs.Running.{unbroken}
use Rattle.reader_laws.specs.Moments.{IsSoundAt, Moment, next_moment}
use Rattle.plain_plays.specs.Mirrors.{room_then}
use Rattle.plain_plays.proofs.PlainSteps.ByName.Holding.{table_kept}
use Rattle.plain_plays.proofs.PlainSteps.Flats.Aside.{IsAside, StaysSo, aside_stays, same_all, same_elsewhere}

-- ---- acts on files that are no droppings, and syncs

first_byte : (a b : Name) → a ≡ b → get_or a 0 0 ≡ get_or b 0 0
first_byte a b e = ap (λ (n : Name). get_or n 0 0) e

sixth_byte : (a b : Name) → a ≡ b → get_or a 5 0 ≡ get_or b 5 0
sixth_byte a b e = ap (λ (n : Name). get_or n 5 0) e

-- The file is no index dropping, no log, no entry of an open writer and no truncate.
record IsOther (folder file : Name) : Type 0 where
  index : (host writer : ℕ) → IsPathOf folder file (path_of (item.Index host writer)) → ⊥
  log : (host writer : ℕ) → IsPathOf folder file (path_of (item.Log host writer)) → ⊥
  opens : (host writer : ℕ) → IsPathOf folder file (path_of (item.OpenHost host writer)) → ⊥
  trunc : (stamp size : ℕ) → IsPathOf folder file (path_of (item.Trunc stamp size)) → ⊥

in_flats : (file : Name) → IsOther flats file
in_flats file = record {
  index = λ host writer x. elsewhere (first_byte _ _ x.0) refl;
  log = λ host writer x. elsewhere (first_byte _ _ x.0) refl;
  opens = λ host writer x. elsewhere (first_byte _ _ x.0) refl;
  trunc = λ stamp size x. elsewhere (first_byte _ _ x.0) refl;
}

-- the file to which a flattening is written
temporary_other : (makes : Making) (id : ℕ) → IsOther (temporary_of makes id).folder (temporary_of makes id).file
temporary_other making.Flat id = in_flats (temporary_of making.Flat id).file
temporary_other (making.Pack h w) id = record {
  index = λ host writer x. elsewhere (first_byte _ _ x.1) refl;
  log = λ host writer x. elsewhere (first_byte _ _ x.1) refl;
  opens = λ host writer x. elsewhere (first_byte _ _ x.0) refl;
  trunc = λ stamp size x. elsewhere (first_byte _ _ x.0) refl;
}

-- the one that it becomes
installed_other : (makes : Making) (id : ℕ) → IsOther (temporary_of makes id).folder (installed_of makes id).file
installed_other making.Flat id = in_flats (installed_of making.Flat id).file
installed_other (making.Pack h w) id = record {
  index = λ host writer x. elsewhere (sixth_byte _ _ x.1) refl;
  log = λ host writer x. elsewhere (first_byte _ _ x.1) refl;
  opens = λ host writer x. elsewhere (first_byte _ _ x.0) refl;
  trunc = λ stamp size x. elsewhere (first_byte _ _ x.0) refl;
}

create_aside : (n : ℕ) (folder file : Name) → IsOther folder file → IsAside n (create n folder file)
create_aside n folder file o = record {
  alone = λ tree after told t k apart. elim (create_told n (record { folder = folder; file = file }) tree told after t).either as (λ _. slice_get after.rooms k ≡ slice_get tree.rooms k) [
    | inl c ↦ same_elsewhere n tree after c.new c.gives k apart
    | inr same ↦ same_all tree after same k
  ];
  room = λ x. x;
  folder = λ x. x;
  index = λ host writer x. o.index host writer x.1;
  log = λ host writer x. o.log host writer x.1;
  opens = λ host writer x. o.opens host writer x.1;
  trunc = λ stamp size x. o.trunc stamp size x.1;
}

write_aside : (n : ℕ) (folder file : Name) (at : ℕ) (bytes : List ℕ) → IsOther folder file → IsAside n (write_at n folder file at bytes)
write_aside n folder file at bytes o = record {
  alone = λ tree after told t k apart. elim (write_told n (record { folder = folder; file = file }) at bytes tree told after t) as (λ _. slice_get after.rooms k ≡ slice_get tree.rooms k) [
    | inl w ↦ let c = w.1 in same_elsewhere n tree after c.new c.gives k apart
    | inr (u, inl same) ↦ same_all tree after same k
    | inr (u, inr p) ↦ let c = p.2 in same_elsewhere n tree after c.new c.gives k apart
  ];
  room = λ x. x;
  folder = λ x. x;
  index = λ host writer x. o.index host writer x.1;
  log = λ host writer x. o.log host writer x.1;
  opens = λ host writer x. o.opens host writer x.1;
  trunc = λ stamp size x. o.trunc stamp size x.1;
}

replace_aside : (n : ℕ) (folder from to : Name) → IsOther folder from → IsOther folder to → IsAside n (replace n folder from to)
replace_aside n folder from to o p = record {
  alone = λ tree after told t k apart. elim (replace_told n (record { folder = folder; file = from }) to tree told after t).either as (λ _. slice_get after.rooms k ≡ slice_get tree.rooms k) [
    | inl (inl c) ↦ same_elsewhere n tree after c.new c.gives k apart
    | inl (inr c) ↦ same_all tree after c.2 k
    | inr same ↦ same_all tree after same k
  ];
  room = λ x. x;
  folder = λ x. x;
  index = λ host writer x. elim x.1 as (λ _. ⊥) [ inl a ↦ o.index host writer a | inr b ↦ p.index host writer b ];
  log = λ host writer x. elim x.1 as (λ _. ⊥) [ inl a ↦ o.log host writer a | inr b ↦ p.log host writer b ];
  opens = λ host writer x. elim x.1 as (λ _. ⊥) [ inl a ↦ o.opens host writer a | inr b ↦ p.opens host writer b ];
  trunc = λ stamp size x. elim x.1 as (λ _. ⊥) [ inl a ↦ o.trunc stamp size a | inr b ↦ p.trunc stamp size b ];
}

-- a sync changes no byte
sync_aside : (n : ℕ) (folder file : Name) → IsAside n (sync n folder file)
sync_aside n folder file = record {
  alone = λ tree after told t k apart. elim (sync_told n (record { folder = folder; file = file }) tree told after t).either as (λ _. slice_get after.rooms k ≡ slice_get tree.rooms k) [
    | inl c ↦ same_elsewhere n tree after c.new c.gives k apart
    | inr same ↦ same_all tree after same k
  ];
  room = λ x. x;
  folder = λ x. x;
  index = λ host writer x. x;
  log = λ host writer x. x;
  opens = λ host writer x. x;
  trunc = λ stamp size x. x;
}

-- ---- the caller's flattening

-- The caller's flattening of this id is in this stage, and makes this of this room.
pub record HasFlat (what : Making) (me n flat : ℕ) (stage : FlatStage) (table : Table) : Type 0 where
  pub f : Flattening
  pub at : flattening_at flat table.flattenings ≡ Some f
  pub owned : f.owner ≡ me
  pub room : f.room ≡ n
  pub makes : f.makes ≡ what
  pub staged : f.stage ≡ stage

itself : (n : ℕ) → nat_eq n n ≡ true
itself n = grind (arith, nat_tests)

pub found_flat : {what : Making} (me n flat : ℕ) (stage : FlatStage) (table : Table) (h : HasFlat what me n flat stage table) → flattening_of me stage flat table.flattenings ≡ Some h.f
found_flat me n flat stage table h =
    let mine : nat_eq h.f.owner me ≡ true = ap (λ k. nat_eq k me) h.owned ∙ itself me in
    let now : nat_eq (flat_rank h.f.stage) (flat_rank stage) ≡ true = ap (λ s. nat_eq (flat_rank s) (flat_rank stage)) h.staged ∙ itself (flat_rank stage) in
    ap (its_flattening me stage) h.at ∙ ap (λ b. if b && nat_eq (flat_rank h.f.stage) (flat_rank stage) then Some h.f else None) mine ∙ ap (λ b. if b then Some h.f else None) now

-- what such a call does is done with it
does_it : {what : Making} (me n flat : ℕ) (stage : FlatStage) (old : State) (reply : Reply) (new : State) (does : Flattening → Type 0) (h : HasFlat what me n flat stage old.table) → OnFlattening me stage flat old reply new does → does h.f
does_it me n flat stage old reply new does h a = subst (λ o. MatchOption o (Refuses NotOpen old reply new) does) (found_flat me n flat stage old.table h) a

-- it has come to this stage
comes_to : {what : Making} (me n flat : ℕ) (stage then_at : FlatStage) (table after : Table) (h : HasFlat what me n flat stage table) → after ≡ come_to then_at h.f table → HasFlat what me n flat then_at after
comes_to me n flat stage then_at table after h e =
    let new : Flattening = record h.f { stage = then_at } in
    let id : h.f.id ≡ flat = flattening_at_id flat table.flattenings h.f h.at in
    let put : flattening_at h.f.id (with_flattening new table.flattenings) ≡ Some new = flattening_at-with_flattening new table.flattenings h.f (subst (λ i. flattening_at i table.flattenings ≡ Some h.f) (sym id) h.at) in
    record {
      f = new;
      at = ap (λ (t : Table). flattening_at flat t.flattenings) e ∙ subst (λ i. flattening_at i (with_flattening new table.flattenings) ≡ Some new) id put;
      owned = h.owned;
      room = h.room;
      makes = h.makes;
      staged = refl;
    }

pub flat_kept : {what : Making} (me n flat : ℕ) (stage : FlatStage) (table after : Table) → after ≡ table → HasFlat what me n flat stage table → HasFlat what me n flat stage after
flat_kept {what} me n flat stage table after same h = subst (HasFlat what me n flat stage) (sym same) h

-- ---- what was told

start_made : (f : Flattening) (table : Table) (told : Told) (flat : ℕ) → Started flat ≡ (start_outcome f table told).reply → ((start_outcome f table told).table ≡ record table { flattenings = table.flattenings ++ f ∷ [] }) × (flat ≡ f.id)
start_made f table (Ok answer.Made) flat e = (refl, cc)
start_made f table (Ok answer.NoRoom) flat e = absurd (cc)
start_made f table (Ok answer.NoFolder) flat e = absurd (cc)
start_made f table (Ok other) flat e = absurd (cc)
start_made f table (Err trouble.Fault) flat e = absurd (cc)
start_made f table (Err trouble.NoMemory) flat e = absurd (cc)

put_made : (f : Flattening) (table : Table) (told : Told) → Done ≡ (put_flat_outcome f table told).reply → (put_flat_outcome f table told).table ≡ come_to Put f table
put_made f table (Ok answer.Made) e = refl
put_made f table (Ok answer.NoRoom) e = absurd (cc)
put_made f table (Ok answer.NoFolder) e = absurd (cc)
put_made f table (Ok other) e = absurd (cc)
put_made f table (Err trouble.Fault) e = absurd (cc)
put_made f table (Err trouble.NoMemory) e = absurd (cc)

synced_made : (f : Flattening) (table : Table) (told : Told) → Done ≡ (sync_flat_outcome f table told).reply → (sync_flat_outcome f table told).table ≡ come_to Synced f table
synced_made f table (Ok answer.Made) e = refl
synced_made f table (Ok answer.NoRoom) e = absurd (cc)
synced_made f table (Ok answer.NoFolder) e = absurd (cc)
synced_made f table (Ok other) e = absurd (cc)
synced_made f table (Err trouble.Fault) e = absurd (cc)
synced_made f table (Err trouble.NoMemory) e = absurd (cc)

install_kept : (f : Flattening) (table : Table) (told : Told) → ((install_outcome f table told).table.writers ≡ table.writers) × ((install_outcome f table told).table.holders ≡ table.holders)
install_kept f table (Ok answer.Made) = (refl, refl)
install_kept f table (Ok other) = (refl, refl)
install_kept f table (Err trouble.Fault) = (refl, refl)
install_kept f table (Err trouble.NoMemory) = (refl, refl)

done_kept : (folder file : Name) (table : Table) (told : Told) → (done_outcome folder file table told).table ≡ table
done_kept folder file table (Ok answer.Made) = refl
done_kept folder file table told = refl

-- ---- the calls

module _ (m : Moment) (s : IsSoundAt m) (n : ℕ) (old : Room) (at : room_then m n ≡ Some old) (me : ℕ) (event : Event) where
  abbrev Next : Moment
  Next = next_moment m event

  -- one that draws no serial
  stays_by : (step : Step) (outcome : Told → CallOutcome) (reply : Reply) (q : Call) (d : MakesAct step outcome m.state reply event.after) → IsAside n step → event.ask ≡ unbroken q → issued_after m.issued m.state q event.reply ≡ m.issued → (outcome d.told).table.writers ≡ m.state.table.writers
      → (outcome d.told).table.holders ≡ m.state.table.holders → StaysSo n 0 old m Next
  stays_by step outcome reply q d aside asked issued writers holders =
      let serial : event.after.serial ≡ m.state.serial = ap (λ (x : State). x.serial) d.after in
      aside_stays m s n 0 old at Next step d.told aside d.made
      (table_kept m event q asked issued (ap (λ (x : State). x.table.writers) d.after ∙ writers) (ap (λ (x : State). x.marks) d.after) (ap (λ (x : State). x.mount) d.after) (omega (arith, serial)))
      (ap (λ (x : State). x.times) d.after) (ap (λ (x : State). x.table.holders) d.after ∙ holders) (omega (arith, serial))

  -- a serial is drawn, and the flattening begins
  begins_so : (what : Making) (flat : ℕ) (q : Call) → event.ask ≡ unbroken q → issued_after m.issued m.state q event.reply ≡ m.issued → Starts me n what m.state (Started flat) event.after → StaysSo n 1 old m Next × HasFlat what me n flat Begun event.after.table × (flat ≡ next_id m.state)
  begins_so what flat q asked issued d =
      let f : Flattening = begun_flat m.state me n what in
      let fs : List Flattening = m.state.table.flattenings in
      let made = start_made f m.state.table d.told flat d.answered in
      let table : event.after.table ≡ record m.state.table { flattenings = fs ++ f ∷ [] } = ap (λ (x : State). x.table) d.after ∙ made.0 in
      let serial : event.after.serial ≡ m.state.serial + 1 = ap (λ (x : State). x.serial) d.after in
      let found : flattening_at f.id (fs ++ f ∷ []) ≡ Some f = flattening_at-push fs f (next_not_flattened m.state.mount m.state.serial m.state.marks fs s.regular.flattenings) in (
        aside_stays m s n 1 old at Next (start_step f) d.told (create_aside n (temporary f).folder (temporary f).file (temporary_other what f.id)) d.made
            (table_kept m event q asked issued (ap (λ (x : Table). x.writers) table) (ap (λ (x : State). x.marks) d.after) (ap (λ (x : State). x.mount) d.after) (omega (arith, serial)))
            (ap (λ (x : State). x.times) d.after) (ap (λ (x : Table). x.holders) table) serial,
        record {
          f = f;
          at = ap (λ (x : Table). flattening_at flat x.flattenings) table ∙ subst (λ i. flattening_at i (fs ++ f ∷ []) ≡ Some f) (sym made.1) found;
          owned = refl;
          room = refl;
          makes = refl;
          staged = refl;
        },
        made.1,
      )

  pub start_does : (flat : ℕ) → event.ask ≡ unbroken (StartFlat n) → Answers m.state me (StartFlat n) (Started flat) event.after → StaysSo n 1 old m Next × HasFlat making.Flat me n flat Begun event.after.table × (flat ≡ next_id m.state)
  start_does flat asked a = elim (match_cases (draw_check m.state n) (Starts me n making.Flat m.state (Started flat) event.after) (λ why. Refuses why m.state (Started flat) event.after) a) as (λ _. StaysSo n 1 old m Next × HasFlat making.Flat me n flat Begun event.after.table × (flat ≡ next_id m.state)) [
    | inr (why, some, refused) ↦ absurd (let e : Started flat ≡ Refused why = refused.0 in cc)
    | inl (free, d) ↦ begins_so making.Flat flat (StartFlat n) asked refl d
  ]

  pub pack_does : (host writer flat : ℕ) → event.ask ≡ unbroken (StartPack n host writer) → Answers m.state me (StartPack n host writer) (Started flat) event.after → StaysSo n 1 old m Next × HasFlat (making.Pack host writer) me n flat Begun event.after.table × (flat ≡ next_id m.state)
  pack_does host writer flat asked a = elim (match_cases (draw_check m.state n) (StartsPackOf me n host writer m.state (Started flat) event.after) (λ why. Refuses why m.state (Started flat) event.after) a) as (λ _. StaysSo n 1 old m Next × HasFlat (making.Pack host writer) me n flat Begun event.after.table × (flat ≡ next_id m.state)) [
    | inr (why, some, refused) ↦ absurd (let e : Started flat ≡ Refused why = refused.0 in cc)
    | inl (free, d) ↦ begins_so (making.Pack host writer) flat (StartPack n host writer) asked refl d.makes
  ]

  module _ (flat : ℕ) where
    -- its bytes are put
    pub put_does : {what : Making} (bytes : List ℕ) → HasFlat what me n flat Begun m.state.table → event.ask ≡ unbroken (PutFlat flat bytes) → Answers m.state me (PutFlat flat bytes) Done event.after → StaysSo n 0 old m Next × HasFlat what me n flat Put event.after.table
    put_does bytes h asked a =
        let d = does_it me n flat Begun m.state Done event.after (λ f. MakesAct (put_flat_step f bytes) (put_flat_outcome f m.state.table) m.state Done event.after) h a in
        let made = put_made h.f m.state.table d.told d.answered in
        let aside : IsAside n (put_flat_step h.f bytes) = subst (λ k. IsAside n (write_at k (temporary h.f).folder (temporary h.f).file 0 bytes)) (sym h.room) (write_aside n (temporary h.f).folder (temporary h.f).file 0 bytes (temporary_other h.f.makes h.f.id)) in (
          stays_by (put_flat_step h.f bytes) (put_flat_outcome h.f m.state.table) Done (PutFlat flat bytes) d aside asked refl (ap (λ (x : Table). x.writers) made) (ap (λ (x : Table). x.holders) made),
          comes_to me n flat Begun Put m.state.table event.after.table h (ap (λ (x : State). x.table) d.after ∙ made),
        )

    -- they are synced
    pub sync_does : {what : Making} → HasFlat what me n flat Put m.state.table → event.ask ≡ unbroken (SyncFlat flat) → Answers m.state me (SyncFlat flat) Done event.after → StaysSo n 0 old m Next × HasFlat what me n flat Synced event.after.table
    sync_does h asked a =
        let d = does_it me n flat Put m.state Done event.after (λ f. MakesAct (sync_flat_step f) (sync_flat_outcome f m.state.table) m.state Done event.after) h a in
        let made = synced_made h.f m.state.table d.told d.answered in
        let aside : IsAside n (sync_flat_step h.f) = subst (λ k. IsAside n (sync k (temporary h.f).folder (temporary h.f).file)) (sym h.room) (sync_aside n (temporary h.f).folder (temporary h.f).file) in (
          stays_by (sync_flat_step h.f) (sync_flat_outcome h.f m.state.table) Done (SyncFlat flat) d aside asked refl (ap (λ (x : Table). x.writers) made) (ap (λ (x : Table). x.holders) made),
          comes_to me n flat Put Synced m.state.table event.after.table h (ap (λ (x : State). x.table) d.after ∙ made),
        )

    -- it is installed
    pub install_does : {what : Making} → HasFlat what me n flat Synced m.state.table → event.ask ≡ unbroken (InstallFlat flat) → Answers m.state me (InstallFlat flat) Done event.after → StaysSo n 0 old m Next
    install_does h asked a =
        let d = does_it me n flat Synced m.state Done event.after (λ f. MakesAct (install_step f) (install_outcome f m.state.table) m.state Done event.after) h a in
        let kept = install_kept h.f m.state.table d.told in
        let aside : IsAside n (install_step h.f) = subst (λ k. IsAside n (replace k (temporary h.f).folder (temporary h.f).file (installed h.f).file)) (sym h.room) (replace_aside n (temporary h.f).folder (temporary h.f).file (installed h.f).file (temporary_other h.f.makes h.f.id) (installed_other h.f.makes h.f.id)) in
        stays_by (install_step h.f) (install_outcome h.f m.state.table) Done (InstallFlat flat) d aside asked refl kept.0 kept.1

  -- a dropping is synced
  pub dropping_does : (host writer : ℕ) (is_log : Bool) → event.ask ≡ unbroken (SyncDropping n host writer is_log) → Answers m.state me (SyncDropping n host writer is_log) Done event.after → StaysSo n 0 old m Next × (event.after.table ≡ m.state.table)
  dropping_does host writer is_log asked a =
      elim (match_cases (room_check m.state n) (SyncsIt n host writer is_log m.state Done event.after) (λ why. Refuses why m.state Done event.after) a) as (λ _. StaysSo n 0 old m Next × (event.after.table ≡ m.state.table)) [
        | inr (why, some, refused) ↦ absurd (let e : Done ≡ Refused why = refused.0 in cc)
        | inl (free, d) ↦
            let path : Path = dropping_path is_log host writer in
            let kept = done_kept path.folder path.file m.state.table d.makes.told in (
              stays_by (sync_dropping_step n host writer is_log) (done_outcome path.folder path.file m.state.table) Done (SyncDropping n host writer is_log) d.makes (sync_aside n path.folder path.file) asked refl (ap (λ (x : Table). x.writers) kept) (ap (λ (x : Table). x.holders) kept),
              ap (λ (x : State). x.table) d.makes.after ∙ kept,
            )
      ]
