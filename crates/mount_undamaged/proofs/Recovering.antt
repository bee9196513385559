-- Calls on what writers left that are gone show no damage in a sound mount.
use Rattle.std.proofs.Common.{◌≡◌, ◌*◌, ℕ, Some, Bool, true, false, refl, sym, subst, arith}
use Rattle.std.specs.Prelude.{Ok, Err}
use Rattle.plfs_types.specs.declared.entries.Cover.{Cover}
use Rattle.plfs_types.specs.declared.names.Path.{Path}
use Rattle.store_api.specs.declared.step.Answer.{Answer}
use Rattle.store_api.specs.declared.step.Answer.TheVariants.{Made, Old, Absent, NoRoom, NoFolder}
use Rattle.store_api.specs.declared.store.Trouble.TheVariants.{Fault, NoMemory}
use Rattle.store_api.specs.declared.tree.Room.{Room}
use Rattle.store_api.specs.declared.tree.Tree.{Tree}
use Rattle.store_laws.specs.Files.{file_at}
use Rattle.store_laws.specs.Says.{WhyNoFile, WhyNotCreated}
use Rattle.store_laws.specs.There.{EndsBefore, LacksFolder}
use Rattle.store_laws.proofs.Facts.{create_told, cut_told, remove_told, sync_told}
use Rattle.mount_model.specs.declared.call.Call.TheVariants.{SyncDropping, Mend}
use Rattle.mount_model.specs.declared.reply.Reply.{Reply}
use Rattle.mount_model.specs.Making.{Told, otherwise, room_check}
use Rattle.mount_model.specs.Paths.{Name, metadata, dropping_path, index_path, meta_path, open_path}
use Rattle.mount_model.specs.Recovering.{done_outcome, sync_dropping_step, SyncsIt, SyncsDropping, alive_check, Inspects, mend_check, mend_step, MendsIt, Mends, mended_file, mend_meta_step, mend_meta_outcome, MendsItsMeta, MendsMeta, bury_step, bury_outcome, BuriesIt, Buries}
use Rattle.mount_model.specs.State.{State, Table, last_id}
use Rattle.mount_model.proofs.Facts.{is_container, may_mend}
use Rattle.mount_sound.specs.Shape.{IsDrawnBy}
use Rattle.mount_sound.specs.Ledger.{Ledger}
use Rattle.mount_sound.specs.Owed.{HasDropping, MayMend, Owes}
use Rattle.mount_sound.specs.Sound.{IsSoundFor}
use Rattle.mount_sound.proofs.Facts.{landed_fits}
use Rattle.mount_undamaged.specs.Damage.{ShowsNoDamage}
use Rattle.mount_undamaged.proofs.Acting.{IsThere, check_shows, create_other, file_other, folder_there, long_enough, makes_show, write_other}
use Rattle.mount_undamaged.proofs.Containers.{container, file_in}

done_reply : (folder file : Name) (table : Table) (told : Told) → ((answer : Answer) → told ≡ Ok answer → (answer ≡ Made → ⊥) → ShowsNoDamage (otherwise folder file (Ok answer))) → ShowsNoDamage (done_outcome folder file table told).reply
done_reply folder file table (Ok Made) other = tt
done_reply folder file table (Err Fault) other = tt
done_reply folder file table (Err NoMemory) other = tt
done_reply folder file table (Ok answer) other = other answer refl (λ e. cc)

-- ---- a dropping is synced

dropping_at : (room : Room) (host writer : ℕ) (is_log : Bool) → (d : HasDropping host writer is_log room) → file_at room (dropping_path is_log host writer) ≡ Some d.0
dropping_at room host writer true d = d.1.there
dropping_at room host writer false d = d.1.there

pub sync_dropping_shows : (issued : Ledger) (old : State) (s : IsSoundFor issued old) (caller room host writer : ℕ) (is_log : Bool) (reply : Reply) (new : State) → Owes old caller (SyncDropping room host writer is_log) → SyncsDropping room host writer is_log old reply new → ShowsNoDamage reply
sync_dropping_shows issued old s caller room host writer is_log reply new owes f =
    let path : Path = dropping_path is_log host writer in
    check_shows (room_check old room) old reply new (SyncsIt room host writer is_log old reply new) f
    (λ none does.
    let d = owes s.shape.tree s.shape.told in
    let there : IsThere s.shape.tree room path = file_in (IsDrawnBy (last_id old) s.shape.tree) s.shape.tree room d.0 path d.2.0 (container issued old s room (is_container old room none) d.0 d.1) d.1 (dropping_at d.0 host writer is_log d.2) in
    makes_show (sync_dropping_step room host writer is_log) (done_outcome path.folder path.file old.table) old reply new s.shape.tree s.shape.told
    (λ told after t. done_reply path.folder path.file old.table told
    (λ answer said unmade. file_other s.shape.tree room path answer path.folder path.file ((sync_told room path s.shape.tree told after t).stays answer said unmade).1 there)) does.makes)

-- ---- an index dropping is cut

pub inspect_shows : (old : State) (writer : ℕ) (reply : Reply) (new : State) → Inspects writer old reply new → ShowsNoDamage reply
inspect_shows old writer reply new f = check_shows (alive_check old writer) old reply new _ f (λ none does. subst ShowsNoDamage (sym does.0) tt)

pub mend_shows : (issued : Ledger) (old : State) (s : IsSoundFor issued old) (caller room host writer count : ℕ) (reply : Reply) (new : State) → Owes old caller (Mend room host writer count) → Mends room host writer count old reply new → ShowsNoDamage reply
mend_shows issued old s caller room host writer count reply new owes f =
    let path : Path = index_path host writer in
    check_shows (mend_check old room writer) old reply new (MendsIt room host writer count old reply new) f
    (λ none does.
    let d = owes.1 s.shape.tree s.shape.told in
    let m : MayMend host writer count d.0 = d.2 in
    let there : IsThere s.shape.tree room path = file_in (IsDrawnBy (last_id old) s.shape.tree) s.shape.tree room d.0 path m.content (container issued old s room (may_mend old room writer none).0 d.0 d.1) d.1 m.stands.there in
    let long : EndsBefore s.shape.tree room path (40 * count) → ⊥ = long_enough s.shape.tree room d.0 path m.content (40 * count) d.1 m.stands.there (omega (arith, m.landed, landed_fits d.0 host writer m.content m.stands.there)) in
    makes_show (mend_step room host writer count) (done_outcome path.folder path.file old.table) old reply new s.shape.tree s.shape.told
    (λ told after t. done_reply path.folder path.file old.table told
    (λ answer said unmade. write_other s.shape.tree room path (40 * count) answer path.folder path.file ((cut_told room path (40 * count) s.shape.tree told after t).stays answer said unmade).1 there long)) does.makes)

-- ---- a metadata dropping is made

mend_meta_reply : (tree : Tree) (n : ℕ) (path : Path) (table : Table) (told : Told) → ((answer : Answer) → told ≡ Ok answer → (answer ≡ Made → ⊥) → WhyNotCreated tree n path answer) → (LacksFolder tree n path.folder → ⊥) → ShowsNoDamage (mend_meta_outcome path.file table told).reply
mend_meta_reply tree n path table (Ok Made) why housed = tt
mend_meta_reply tree n path table (Ok (Old k)) why housed = tt
mend_meta_reply tree n path table (Err Fault) why housed = tt
mend_meta_reply tree n path table (Err NoMemory) why housed = tt
mend_meta_reply tree n path table (Ok answer) why housed = create_other tree n path answer metadata path.file (why answer refl (λ e. cc)) (λ e. housed) (λ k e h. cc)

pub mend_meta_shows : (issued : Ledger) (old : State) (s : IsSoundFor issued old) (room host : ℕ) (cover : Cover) (last : ℕ) (reply : Reply) (new : State) → MendsMeta room host cover last old reply new → ShowsNoDamage reply
mend_meta_shows issued old s room host cover last reply new f =
    let path : Path = meta_path last cover.bytes cover.stamp host cover.writer in
    check_shows (mend_check old room cover.writer) old reply new (MendsItsMeta room host cover last old reply new) f
    (λ none does.
    let housed : LacksFolder s.shape.tree room metadata → ⊥ = λ l. folder_there s.shape.tree room l.room metadata l.has_room (container issued old s room (may_mend old room cover.writer none).0 l.room l.has_room).has_metadata l in
    makes_show (mend_meta_step room host cover last) (mend_meta_outcome (mended_file host cover last) old.table) old reply new s.shape.tree s.shape.told
    (λ told after t. mend_meta_reply s.shape.tree room path old.table told (λ answer is other. ((create_told room path s.shape.tree told after t).stays answer is other).1) housed) does.makes)

-- ---- a writer is buried

bury_reply : (tree : Tree) (n : ℕ) (path : Path) (table : Table) (told : Told) → ((answer : Answer) → told ≡ Ok answer → (answer ≡ Made → ⊥) → WhyNoFile tree n path answer) → ShowsNoDamage (bury_outcome path.file table told).reply
bury_reply tree n path table (Ok Made) why = tt
bury_reply tree n path table (Ok Absent) why = tt
bury_reply tree n path table (Ok NoFolder) why = tt
bury_reply tree n path table (Ok NoRoom) why = tt
bury_reply tree n path table (Err Fault) why = tt
bury_reply tree n path table (Err NoMemory) why = tt
bury_reply tree n path table (Ok answer) why = absurd (why answer refl (λ e. cc))

pub bury_shows : (old : State) (room host writer : ℕ) (reply : Reply) (new : State) (tree : Tree) → old.store.tree ≡ Some tree → Buries room host writer old reply new → ShowsNoDamage reply
bury_shows old room host writer reply new tree e f =
    let path : Path = open_path host writer in
    check_shows (mend_check old room writer) old reply new (BuriesIt room host writer old reply new) f
    (λ none does. makes_show (bury_step room host writer) (bury_outcome path.file old.table) old reply new tree e
    (λ told after t. bury_reply tree room path old.table told (λ answer is other. ((remove_told room path tree told after t).stays answer is other).1)) does.makes)
