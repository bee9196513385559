-- Calls of a flattening show no damage in a sound mount.
use Rattle.std.proofs.Common.{◌≡◌, ◌<◌, ◌≤◌, ◌+◌, ◌^◌, ℕ, List, refl, subst, arith}
use Rattle.std.specs.Prelude.{None, Ok, Err}
use Rattle.store_api.specs.declared.step.Answer.{Answer}
use Rattle.store_api.specs.declared.step.Answer.TheVariants.{Made}
use Rattle.store_api.specs.declared.store.Trouble.TheVariants.{Fault, NoMemory}
use Rattle.store_api.specs.declared.tree.Tree.{Tree}
use Rattle.store_laws.specs.Says.{WhyNotCreated}
use Rattle.store_laws.specs.Tells.{Tells}
use Rattle.store_laws.specs.There.{HoldsFile, LacksFolder}
use Rattle.store_laws.proofs.Facts.{create_told, replace_told, sync_told, write_refused}
use Rattle.mount_model.specs.declared.reply.Reply.{Reply}
use Rattle.mount_model.specs.declared.row.Flattening.{Flattening}
use Rattle.mount_model.specs.declared.call.Call.TheVariants.{StartPack}
use Rattle.mount_model.specs.declared.row.Making.{Making}
use Rattle.mount_model.specs.declared.row.Making.TheVariants as making
use Rattle.mount_model.specs.declared.row.FlatStage.{FlatStage}
use Rattle.mount_model.specs.declared.row.FlatStage.TheVariants.{Begun, Put, Synced}
use Rattle.mount_model.specs.Entering.{draw_check, next_id}
use Rattle.mount_model.specs.Flattening.{begun_flat, start_step, start_outcome, Starts, StartsFlat, StartsPack, StartsPackOf, put_flat_step, put_flat_outcome, PutsFlat, sync_flat_step, sync_flat_outcome, SyncsFlat, install_step, install_outcome, InstallsFlat}
use Rattle.mount_model.specs.Making.{Told, otherwise, MakesAct}
use Rattle.mount_model.specs.Paths.{flats, index_path, temporary, temporary_item, temporary_of, installed}
use Rattle.mount_model.specs.State.{State, Table, last_id, drawn}
use Rattle.mount_model.proofs.Facts.{IsUnderway, flattening_apart, may_enter}
use Rattle.mount_sound.specs.Container.{IsOfId}
use Rattle.mount_sound.specs.Named.{FitsNames}
use Rattle.mount_sound.specs.Shape.{IsDrawnBy}
use Rattle.mount_sound.proofs.Shapes.Facts.{id_fits, item_drawn}
use Rattle.mount_sound.specs.Ledger.{Ledger}
use Rattle.mount_sound.specs.Owed.{Owes}
use Rattle.mount_sound.specs.Sound.{IsSoundFor}
use Rattle.mount_sound.proofs.Facts.{is_temporary}
use Rattle.mount_undamaged.specs.Damage.{ShowsNoDamage}
use Rattle.mount_undamaged.proofs.Acting.{IsThere, check_shows, create_other, file_other, flattening_shows, folder_there, makes_show, write_other}
use Rattle.mount_undamaged.proofs.Containers.{container, file_in}

-- ---- it begins

start_reply : (tree : Tree) (f : Flattening) (table : Table) (told : Told) → ((answer : Answer) → told ≡ Ok answer → (answer ≡ Made → ⊥) → WhyNotCreated tree f.room (temporary f) answer) → (LacksFolder tree f.room (temporary f).folder → ⊥) → (HoldsFile tree f.room (temporary f) → ⊥) → ShowsNoDamage (start_outcome f table told).reply
start_reply tree f table (Ok Made) why housed fresh = tt
start_reply tree f table (Err Fault) why housed fresh = tt
start_reply tree f table (Err NoMemory) why housed fresh = tt
start_reply tree f table (Ok answer) why housed fresh = create_other tree f.room (temporary f) answer (temporary f).folder (temporary f).file (why answer refl (λ e. cc)) (λ e. housed) (λ k e. fresh)

starts_show : (issued : Ledger) (old : State) (s : IsSoundFor issued old) (caller room : ℕ) (makes : Making) (reply : Reply) (new : State) → FitsNames makes → draw_check old room ≡ None → (LacksFolder s.shape.tree room (temporary_of makes (next_id old)).folder → ⊥) → Starts caller room makes old reply new → ShowsNoDamage reply
starts_show issued old s caller room makes reply new named none housed does =
    let begun : Flattening = begun_flat old caller room makes in
    let c = may_enter old room none in
    let fits : next_id old < 2 ^ 64 = id_fits old.mount (old.serial + 1) s.regular.mount_fits (omega (arith, c.1)) in
    let fresh : HoldsFile s.shape.tree room (temporary begun) → ⊥ = λ h.
    omega (arith, drawn_before old s.shape.tree makes (next_id old) (item_drawn old s.shape.tree room h.room (temporary_item makes (next_id old)) h.bytes s.shape s.shape.told h.has_room c.0 (is_temporary makes (next_id old) named fits) h.there)) in
    makes_show (start_step begun) (start_outcome begun old.table) (drawn old) reply new s.shape.tree s.shape.told
    (λ told after t. start_reply s.shape.tree begun old.table told (λ answer is other. ((create_told room (temporary begun) s.shape.tree told after t).stays answer is other).1) housed fresh) does
  where
    drawn_before : (state : State) (tree : Tree) (makes : Making) (id : ℕ) → IsOfId (IsDrawnBy (last_id state) tree) (temporary_item makes id) → id ≤ last_id state
    drawn_before state tree making.Flat id d = d.1
    drawn_before state tree (making.Pack host writer) id d = d.1

pub start_shows : (issued : Ledger) (old : State) (s : IsSoundFor issued old) (caller room : ℕ) (reply : Reply) (new : State) → StartsFlat caller room old reply new → ShowsNoDamage reply
start_shows issued old s caller room reply new f =
    check_shows (draw_check old room) old reply new (Starts caller room making.Flat old reply new) f
    (λ none does.
    let c = may_enter old room none in
    starts_show issued old s caller room making.Flat reply new tt none (λ l. folder_there s.shape.tree room l.room flats l.has_room (container issued old s room c.0 l.room l.has_room).has_flats l) does)

-- the index dropping that is packed stands in the folder of the temporary file
pub start_pack_shows : (issued : Ledger) (old : State) (s : IsSoundFor issued old) (caller room host writer : ℕ) (reply : Reply) (new : State) → Owes old caller (StartPack room host writer) → StartsPack caller room host writer old reply new → ShowsNoDamage reply
start_pack_shows issued old s caller room host writer reply new owes f =
    check_shows (draw_check old room) old reply new (StartsPackOf caller room host writer old reply new) f
    (λ none does.
    let c = may_enter old room none in
    let d = owes s.shape.tree s.shape.told in
    let there : IsThere s.shape.tree room (index_path host writer) = file_in (IsDrawnBy (last_id old) s.shape.tree) s.shape.tree room d.0 (index_path host writer) d.2.0 (container issued old s room c.0 d.0 d.1) d.1 d.2.1.there in
    starts_show issued old s caller room (making.Pack host writer) reply new does.named none there.housed does.makes)

-- ---- it goes on

-- the temporary file of a flattening is there
there : (issued : Ledger) (old : State) (s : IsSoundFor issued old) (caller : ℕ) (stage : FlatStage) (flat : ℕ) (f : Flattening) → IsUnderway caller stage flat old.table.flattenings f → IsThere s.shape.tree f.room (temporary f)
there issued old s caller stage flat f is =
    let i = s.flattenings flat f is.found in
    let apart = flattening_apart old.mount old.serial old.marks old.table.flattenings flat f s.regular.flattenings is.found in
    file_in (IsDrawnBy (last_id old) s.shape.tree) s.shape.tree f.room i.0 (temporary f) i.2.bytes (container issued old s f.room apart i.0 i.1) i.1 i.2.there

put_reply : (f : Flattening) (table : Table) (told : Told) → ((answer : Answer) → told ≡ Ok answer → (answer ≡ Made → ⊥) → ShowsNoDamage (otherwise (temporary f).folder (temporary f).file (Ok answer))) → ShowsNoDamage (put_flat_outcome f table told).reply
put_reply f table (Ok Made) other = tt
put_reply f table (Err Fault) other = tt
put_reply f table (Err NoMemory) other = tt
put_reply f table (Ok answer) other = other answer refl (λ e. cc)

pub put_flat_shows : (issued : Ledger) (old : State) (s : IsSoundFor issued old) (caller flat : ℕ) (bytes : List ℕ) (reply : Reply) (new : State) → PutsFlat caller flat bytes old reply new → ShowsNoDamage reply
put_flat_shows issued old s caller flat bytes reply new on =
    flattening_shows caller Begun flat old reply new (λ f. MakesAct (put_flat_step f bytes) (put_flat_outcome f old.table) old reply new) on
    (λ f is does. makes_show (put_flat_step f bytes) (put_flat_outcome f old.table) old reply new s.shape.tree s.shape.told
    (λ told after t. put_reply f old.table told
    (λ answer said unmade. write_other s.shape.tree f.room (temporary f) 0 answer (temporary f).folder (temporary f).file
    (write_refused f.room (temporary f) 0 bytes s.shape.tree answer after (subst (λ x. Tells (put_flat_step f bytes) s.shape.tree x after) said t) unmade).1
    (there issued old s caller Begun flat f is) (λ e. omega (arith, e.1)))) does)

sync_reply : (f : Flattening) (table : Table) (told : Told) → ((answer : Answer) → told ≡ Ok answer → (answer ≡ Made → ⊥) → ShowsNoDamage (otherwise (temporary f).folder (temporary f).file (Ok answer))) → ShowsNoDamage (sync_flat_outcome f table told).reply
sync_reply f table (Ok Made) other = tt
sync_reply f table (Err Fault) other = tt
sync_reply f table (Err NoMemory) other = tt
sync_reply f table (Ok answer) other = other answer refl (λ e. cc)

pub sync_flat_shows : (issued : Ledger) (old : State) (s : IsSoundFor issued old) (caller flat : ℕ) (reply : Reply) (new : State) → SyncsFlat caller flat old reply new → ShowsNoDamage reply
sync_flat_shows issued old s caller flat reply new on =
    flattening_shows caller Put flat old reply new (λ f. MakesAct (sync_flat_step f) (sync_flat_outcome f old.table) old reply new) on
    (λ f is does. makes_show (sync_flat_step f) (sync_flat_outcome f old.table) old reply new s.shape.tree s.shape.told
    (λ told after t. sync_reply f old.table told
    (λ answer said unmade. file_other s.shape.tree f.room (temporary f) answer (temporary f).folder (temporary f).file
    ((sync_told f.room (temporary f) s.shape.tree told after t).stays answer said unmade).1
    (there issued old s caller Put flat f is))) does)

install_reply : (f : Flattening) (table : Table) (told : Told) → ((answer : Answer) → told ≡ Ok answer → (answer ≡ Made → ⊥) → ShowsNoDamage (otherwise (temporary f).folder (temporary f).file (Ok answer))) → ShowsNoDamage (install_outcome f table told).reply
install_reply f table (Ok Made) other = tt
install_reply f table (Err Fault) other = tt
install_reply f table (Err NoMemory) other = tt
install_reply f table (Ok answer) other = other answer refl (λ e. cc)

pub install_shows : (issued : Ledger) (old : State) (s : IsSoundFor issued old) (caller flat : ℕ) (reply : Reply) (new : State) → InstallsFlat caller flat old reply new → ShowsNoDamage reply
install_shows issued old s caller flat reply new on =
    flattening_shows caller Synced flat old reply new (λ f. MakesAct (install_step f) (install_outcome f old.table) old reply new) on
    (λ f is does. makes_show (install_step f) (install_outcome f old.table) old reply new s.shape.tree s.shape.told
    (λ told after t. install_reply f old.table told
    (λ answer said unmade. file_other s.shape.tree f.room (temporary f) answer (temporary f).folder (temporary f).file
    ((replace_told f.room (temporary f) (installed f).file s.shape.tree told after t).stays answer said unmade).1
    (there issued old s caller Synced flat f is))) does)
