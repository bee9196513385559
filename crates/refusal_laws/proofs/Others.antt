-- Why looks, flattenings and the calls of a recovery are refused.
use Rattle.std.proofs.Common.{◌≡◌, ◌⊎◌, ℕ, Bool, true, false, nat_le, if◌then◌else◌, ◌*◌, List, [], length, Some, None, Ok, Err, refl, sym, ◌∙◌, inl, inr, subst}
use Rattle.plfs_types.specs.declared.entries.Cover.{Cover}
use Rattle.plfs_types.specs.declared.names.Path.{Path}
use Rattle.plfs_types.specs.declared.limits.TheConstants.{ENTRY_SIZE}
use Rattle.store_api.specs.declared.step.Answer.TheVariants.{Absent, Bytes, Made, Names, NoFolder, NoRoom, Number, Old}
use Rattle.store_api.specs.declared.store.Trouble.TheVariants.{Fault}
use Rattle.store_api.specs.declared.tree.Room.{Room as RoomThere}
use Rattle.store_api.specs.declared.tree.Tree.{Tree}
use Rattle.store_api.specs.Step.{length_of, list_folder, read_at}
use Rattle.store_laws.specs.Says.{LengthTells, ListTells, ReadTells}
use Rattle.store_laws.specs.Tells.{Tells}
use Rattle.store_laws.specs.There.{LacksRoom}
use Rattle.store_laws.proofs.Facts.{create_told, cut_told, length_tells, list_tells, look_answered, make_folder_told, read_tells, remove_told, replace_told, sync_told, write_refused}
use Rattle.mount_model.specs.declared.call.Look.{Look}
use Rattle.mount_model.specs.declared.call.Look.TheVariants as look
use Rattle.mount_model.specs.declared.reply.Refusal.{Refusal}
use Rattle.mount_model.specs.declared.reply.Refusal.TheVariants as refusal
use Rattle.mount_model.specs.declared.reply.Reply.TheVariants.{Damaged, Looked, Refused}
use Rattle.mount_model.specs.declared.row.FlatStage.{FlatStage}
use Rattle.mount_model.specs.declared.row.FlatStage.TheVariants.{Begun, Put, Synced}
use Rattle.mount_model.specs.declared.row.Flattening.{Flattening}
use Rattle.mount_model.specs.declared.row.Making.{Making}
use Rattle.mount_model.specs.declared.row.Making.TheVariants as making
use Rattle.mount_model.specs.Entering.{draw_check}
use Rattle.mount_model.specs.Flattening.{InstallsFlat, OnFlattening, PutsFlat, Starts, StartsFlat, StartsPack, StartsPackOf, SyncsFlat, begun_flat, install_outcome, install_step, put_flat_outcome, put_flat_step, start_outcome, start_step, sync_flat_outcome, sync_flat_step}
use Rattle.mount_model.specs.Looking.{LooksAt, length_reply, listing_reply, look_outcome, look_step, read_reply}
use Rattle.mount_model.specs.Making.{MakesAct, Refuses, Told, room_check}
use Rattle.mount_model.specs.Paths.{Name, dropping_path, index_path, installed, meta_path, metadata, open_path, temporary}
use Rattle.container_layout.specs.Paths.{openhosts}
use Rattle.mount_model.specs.Recovering.{Buries, BuriesIt, Inspects, Mends, MendsHold, MendsIt, MendsItsMeta, MendsMeta, SyncsDropping, SyncsIt, alive_check, bury_outcome, bury_step, done_outcome, mend_check, mend_hold_check, mend_hold_outcome, mend_hold_step, mend_meta_outcome, mend_meta_step, mend_step, mended_file, sync_dropping_step}
use Rattle.mount_model.specs.State.{State, Table, drawn}
use Rattle.mount_model.specs.Table.{flattening_of}
use Rattle.mount_model.proofs.Facts.{is_underway, match_cases}
use Rattle.mount_sound.specs.Ledger.{Ledger}
use Rattle.mount_sound.specs.Owed.{HasDropping, StandsInRoom}
use Rattle.mount_sound.specs.Sound.{IsSoundFor}
use Rattle.refusal_laws.specs.Reasons.{HasNoFlattening, IsChecked, LacksIt, Shows}
use Rattle.refusal_laws.proofs.Outcomes.{IsPlain, act_lacks, by_check, one_told, otherwise_refused, same_why}

-- ---- outcomes

listing_lacks : (folder : Name) (told : Told) (why : Refusal) → Refused why ≡ listing_reply folder told → (told ≡ Ok NoRoom) × (why ≡ refusal.NoRoom)
listing_lacks folder (Ok (Names names)) why e = absurd (cc)
listing_lacks folder (Ok NoFolder) why e = absurd (cc)
listing_lacks folder told why e = otherwise_refused folder [] told why e

length_lacks : (path : Path) (told : Told) (why : Refusal) → Refused why ≡ length_reply path told → (told ≡ Ok NoRoom) × (why ≡ refusal.NoRoom)
length_lacks path (Ok (Number value)) why e = absurd (cc)
length_lacks path (Ok NoFolder) why e = absurd (cc)
length_lacks path (Ok Absent) why e = absurd (cc)
length_lacks path told why e = otherwise_refused path.folder path.file told why e

no_refusal : (path : Path) (bytes : List ℕ) (why : Refusal) (few : Bool) → Refused why ≡ (if few then Looked (Bytes bytes) else Damaged path.folder path.file) → ⊥
no_refusal path bytes why true e = cc
no_refusal path bytes why false e = cc

read_lacks : (path : Path) (len : ℕ) (told : Told) (why : Refusal) → Refused why ≡ read_reply path len told → (told ≡ Ok NoRoom) × (why ≡ refusal.NoRoom)
read_lacks path len (Ok (Bytes bytes)) why e = absurd (no_refusal path bytes why (nat_le (length bytes) len) e)
read_lacks path len (Ok NoFolder) why e = absurd (cc)
read_lacks path len (Ok Absent) why e = absurd (cc)
read_lacks path len told why e = otherwise_refused path.folder path.file told why e

look_plain : (l : Look) (old : State) → IsPlain (look_outcome l old)
look_plain look.Top old told why e = listing_lacks [] told why e
look_plain (look.List folder) old told why e = listing_lacks folder told why e
look_plain (look.Length path) old told why e = length_lacks path told why e
look_plain (look.Read path at len) old told why e = read_lacks path len told why e

done_plain : (folder file : Name) (table : Table) → IsPlain (done_outcome folder file table)
done_plain folder file table (Ok Made) why e = absurd (cc)
done_plain folder file table told why e = otherwise_refused folder file told why e

mend_meta_plain : (file : Name) (table : Table) → IsPlain (mend_meta_outcome file table)
mend_meta_plain file table (Ok Made) why e = absurd (cc)
mend_meta_plain file table (Ok (Old room)) why e = absurd (cc)
mend_meta_plain file table told why e = otherwise_refused metadata file told why e

bury_plain : (file : Name) (table : Table) → IsPlain (bury_outcome file table)
bury_plain file table (Ok Made) why e = absurd (cc)
bury_plain file table (Ok Absent) why e = absurd (cc)
bury_plain file table (Ok NoFolder) why e = absurd (cc)
bury_plain file table told why e = otherwise_refused openhosts file told why e

mend_hold_plain : (table : Table) → IsPlain (mend_hold_outcome table)
mend_hold_plain table (Ok Made) why e = absurd (cc)
mend_hold_plain table (Ok (Old room)) why e = absurd (cc)
mend_hold_plain table told why e = otherwise_refused openhosts [] told why e

start_plain : (f : Flattening) (table : Table) → IsPlain (start_outcome f table)
start_plain f table (Ok Made) why e = absurd (cc)
start_plain f table told why e = otherwise_refused (temporary f).folder (temporary f).file told why e

put_plain : (f : Flattening) (table : Table) → IsPlain (put_flat_outcome f table)
put_plain f table (Ok Made) why e = absurd (cc)
put_plain f table told why e = otherwise_refused (temporary f).folder (temporary f).file told why e

sync_plain : (f : Flattening) (table : Table) → IsPlain (sync_flat_outcome f table)
sync_plain f table (Ok Made) why e = absurd (cc)
sync_plain f table told why e = otherwise_refused (temporary f).folder (temporary f).file told why e

install_plain : (f : Flattening) (table : Table) → IsPlain (install_outcome f table)
install_plain f table (Ok Made) why e = absurd (cc)
install_plain f table (Err Fault) why e = absurd (cc)
install_plain f table told why e = otherwise_refused (temporary f).folder (temporary f).file told why e

look_lacks : (tree : Tree) (room : ℕ) (l : Look) (after : Tree) → Tells (look_step room l) tree (Ok NoRoom) after → LacksRoom tree room
look_lacks tree room look.Top after t = (look_answered (list_folder room []) tree (ListTells tree room []) (list_tells tree room []) NoRoom after t).1
look_lacks tree room (look.List folder) after t = (look_answered (list_folder room folder) tree (ListTells tree room folder) (list_tells tree room folder) NoRoom after t).1
look_lacks tree room (look.Length path) after t = (look_answered (length_of room path.folder path.file) tree (LengthTells tree room path) (length_tells tree room path) NoRoom after t).1
look_lacks tree room (look.Read path at len) after t = (look_answered (read_at room path.folder path.file at len) tree (ReadTells tree room path at len) (read_tells tree room path at len) NoRoom after t).1

-- ---- calls

module _ (issued : Ledger) (old new : State) (s : IsSoundFor issued old) (caller : ℕ) (why : Refusal) where
  shows : (holds : Tree → Type 0) → holds s.shape.tree → Shows old holds
  shows holds is tree told = subst holds (one_told s.shape.tree tree old.store.tree s.shape.told told) is

  lacking : (room : ℕ) → (why ≡ refusal.NoRoom) × LacksRoom s.shape.tree room → LacksIt old room why
  lacking room l = (l.0, shows (λ tree. LacksRoom tree room) l.1)

  -- an item stands there, so the room does
  stands : (host writer : ℕ) (is_log : Bool) (room : ℕ) → StandsInRoom old room (HasDropping host writer is_log) → LacksRoom s.shape.tree room → ⊥
  stands host writer is_log room owes lacks =
      let r = owes s.shape.tree s.shape.told in
      let clash : Some r.0 ≡ None = sym r.1 ∙ lacks in
      cc

  pub look_reason : (room : ℕ) (l : Look) → LooksAt room l old (Refused why) new → IsChecked (room_check old room) why ⊎ LacksIt old room why
  look_reason room l f = by_check (room_check old room) old new why (MakesAct (look_step room l) (look_outcome l old) old (Refused why) new) (IsChecked (room_check old room) why ⊎ LacksIt old room why) f (λ some. inl some)
      (λ none m. inr (lacking room (act_lacks (look_step room l) (look_outcome l old) old new why s.shape.tree room s.shape.told (look_plain l old) (look_lacks s.shape.tree room l) m)))

  -- a flattening begins
  starts_lacks : (room : ℕ) (makes : Making) → Starts caller room makes old (Refused why) new → (why ≡ refusal.NoRoom) × LacksRoom s.shape.tree room
  starts_lacks room makes m = act_lacks (start_step (begun_flat old caller room makes)) (start_outcome (begun_flat old caller room makes) old.table) (drawn old) new why s.shape.tree room s.shape.told (start_plain (begun_flat old caller room makes) old.table)
      (λ after t. ((create_told room (temporary (begun_flat old caller room makes)) s.shape.tree (Ok NoRoom) after t).stays NoRoom refl (λ e. cc)).1) m

  pub start_reason : (room : ℕ) → StartsFlat caller room old (Refused why) new → IsChecked (draw_check old room) why ⊎ LacksIt old room why
  start_reason room f = by_check (draw_check old room) old new why (Starts caller room making.Flat old (Refused why) new) (IsChecked (draw_check old room) why ⊎ LacksIt old room why) f (λ some. inl some) (λ none m. inr (lacking room (starts_lacks room making.Flat m)))

  pub start_pack_reason : (room host writer : ℕ) → StandsInRoom old room (HasDropping host writer false) → StartsPack caller room host writer old (Refused why) new → IsChecked (draw_check old room) why
  start_pack_reason room host writer owes f = by_check (draw_check old room) old new why (StartsPackOf caller room host writer old (Refused why) new) (IsChecked (draw_check old room) why) f (λ some. some)
      (λ none m. absurd (stands host writer false room owes (starts_lacks room (making.Pack host writer) m.makes).1))

  -- there is no such flattening, or what is made decides
  on_flat : (stage : FlatStage) (flat : ℕ) (does : Flattening → Type 0) → OnFlattening caller stage flat old (Refused why) new does → ((f : Flattening) → does f → LacksRoom s.shape.tree f.room) → HasNoFlattening caller stage flat old why
  on_flat stage flat does on lacks = elim (match_cases (flattening_of caller stage flat old.table.flattenings) (Refuses refusal.NotOpen old (Refused why) new) does on) as (λ _. HasNoFlattening caller stage flat old why) [
    | inl (is, refused) ↦ (same_why why refusal.NotOpen refused.0, is)
    | inr (f, is, made) ↦
        let there = s.flattenings flat f (is_underway caller stage flat old.table.flattenings f is).found in
        absurd (let clash : Some there.0 ≡ None = sym there.1 ∙ lacks f made in cc)
  ]

  pub put_reason : (flat : ℕ) (bytes : List ℕ) → PutsFlat caller flat bytes old (Refused why) new → HasNoFlattening caller Begun flat old why
  put_reason flat bytes on = on_flat Begun flat _ on (λ f m. (act_lacks (put_flat_step f bytes) (put_flat_outcome f old.table) old new why s.shape.tree f.room s.shape.told (put_plain f old.table)
      (λ after t. (write_refused f.room (temporary f) 0 bytes s.shape.tree NoRoom after t (λ e. cc)).1) m).1)

  pub sync_reason : (flat : ℕ) → SyncsFlat caller flat old (Refused why) new → HasNoFlattening caller Put flat old why
  sync_reason flat on = on_flat Put flat _ on (λ f m. (act_lacks (sync_flat_step f) (sync_flat_outcome f old.table) old new why s.shape.tree f.room s.shape.told (sync_plain f old.table)
      (λ after t. ((sync_told f.room (temporary f) s.shape.tree (Ok NoRoom) after t).stays NoRoom refl (λ e. cc)).1) m).1)

  pub install_reason : (flat : ℕ) → InstallsFlat caller flat old (Refused why) new → HasNoFlattening caller Synced flat old why
  install_reason flat on = on_flat Synced flat _ on (λ f m. (act_lacks (install_step f) (install_outcome f old.table) old new why s.shape.tree f.room s.shape.told (install_plain f old.table)
      (λ after t. ((replace_told f.room (temporary f) (installed f).file s.shape.tree (Ok NoRoom) after t).stays NoRoom refl (λ e. cc)).1) m).1)

  -- ---- recovery

  pub dropping_reason : (room host writer : ℕ) (is_log : Bool) → StandsInRoom old room (HasDropping host writer is_log) → SyncsDropping room host writer is_log old (Refused why) new → IsChecked (room_check old room) why
  dropping_reason room host writer is_log owes f = by_check (room_check old room) old new why (SyncsIt room host writer is_log old (Refused why) new) (IsChecked (room_check old room) why) f (λ some. some)
      (λ none m. absurd (stands host writer is_log room owes (act_lacks (sync_dropping_step room host writer is_log) (done_outcome (dropping_path is_log host writer).folder (dropping_path is_log host writer).file old.table) old new why s.shape.tree room s.shape.told (done_plain (dropping_path is_log host writer).folder (dropping_path is_log host writer).file old.table)
      (λ after t. ((sync_told room (dropping_path is_log host writer) s.shape.tree (Ok NoRoom) after t).stays NoRoom refl (λ e. cc)).1) m.makes).1))

  pub inspect_reason : (writer : ℕ) → Inspects writer old (Refused why) new → IsChecked (alive_check old writer) why
  inspect_reason writer f = by_check (alive_check old writer) old new why _ (IsChecked (alive_check old writer) why) f (λ some. some) (λ none m. absurd (let other = m.0 in cc))

  -- the room of what is mended stands
  mends_there : (room : ℕ) (holds : RoomThere → Type 0) → StandsInRoom old room holds → LacksRoom s.shape.tree room → ⊥
  mends_there room holds owes lacks =
      let r = owes s.shape.tree s.shape.told in
      let clash : Some r.0 ≡ None = sym r.1 ∙ lacks in
      cc

  pub mend_reason : (room host writer count : ℕ) (holds : RoomThere → Type 0) → StandsInRoom old room holds → Mends room host writer count old (Refused why) new → IsChecked (mend_check old room writer) why
  mend_reason room host writer count holds owes f = by_check (mend_check old room writer) old new why (MendsIt room host writer count old (Refused why) new) (IsChecked (mend_check old room writer) why) f (λ some. some)
      (λ none m. absurd (mends_there room holds owes (act_lacks (mend_step room host writer count) (done_outcome (index_path host writer).folder (index_path host writer).file old.table) old new why s.shape.tree room s.shape.told (done_plain (index_path host writer).folder (index_path host writer).file old.table)
      (λ after t. ((cut_told room (index_path host writer) (ENTRY_SIZE * count) s.shape.tree (Ok NoRoom) after t).stays NoRoom refl (λ e. cc)).1) m.makes).1))

  pub mend_meta_reason : (room host : ℕ) (cover : Cover) (last : ℕ) (holds : RoomThere → Type 0) → StandsInRoom old room holds → MendsMeta room host cover last old (Refused why) new → IsChecked (mend_check old room cover.writer) why
  mend_meta_reason room host cover last holds owes f = by_check (mend_check old room cover.writer) old new why (MendsItsMeta room host cover last old (Refused why) new) (IsChecked (mend_check old room cover.writer) why) f (λ some. some)
      (λ none m. absurd (mends_there room holds owes (act_lacks (mend_meta_step room host cover last) (mend_meta_outcome (mended_file host cover last) old.table) old new why s.shape.tree room s.shape.told (mend_meta_plain (mended_file host cover last) old.table)
      (λ after t. ((create_told room (meta_path last cover.bytes cover.stamp host cover.writer) s.shape.tree (Ok NoRoom) after t).stays NoRoom refl (λ e. cc)).1) m.makes).1))

  pub bury_reason : (room host writer : ℕ) → Buries room host writer old (Refused why) new → IsChecked (mend_check old room writer) why ⊎ LacksIt old room why
  bury_reason room host writer f = by_check (mend_check old room writer) old new why (BuriesIt room host writer old (Refused why) new) (IsChecked (mend_check old room writer) why ⊎ LacksIt old room why) f (λ some. inl some)
      (λ none m. inr (lacking room (act_lacks (bury_step room host writer) (bury_outcome (open_path host writer).file old.table) old new why s.shape.tree room s.shape.told (bury_plain (open_path host writer).file old.table)
      (λ after t. ((remove_told room (open_path host writer) s.shape.tree (Ok NoRoom) after t).stays NoRoom refl (λ e. cc)).1) m.makes)))

  pub mend_hold_reason : (room : ℕ) → MendsHold room old (Refused why) new → IsChecked (mend_hold_check old room) why ⊎ LacksIt old room why
  mend_hold_reason room f = by_check (mend_hold_check old room) old new why (MakesAct (mend_hold_step room) (mend_hold_outcome old.table) old (Refused why) new) (IsChecked (mend_hold_check old room) why ⊎ LacksIt old room why) f (λ some. inl some)
      (λ none m. inr (lacking room (act_lacks (mend_hold_step room) (mend_hold_outcome old.table) old new why s.shape.tree room s.shape.told (mend_hold_plain old.table)
      (λ after t. ((make_folder_told room openhosts s.shape.tree (Ok NoRoom) after t).stays NoRoom refl (λ e. cc)).1) m)))
