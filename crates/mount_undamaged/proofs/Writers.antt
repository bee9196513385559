-- Calls on writers show no damage in a sound mount.
use Rattle.std.proofs.Common.{◌≡◌, ◌≢◌, ◌≤◌, ◌<◌, ◌*◌, ◌+◌, ◌^◌, ℕ, List, [], ◌∷◌, length, Option, Some, Bool, true, refl, ap, sym, ◌∙◌, inl, inr, subst, arith}
use Rattle.std.specs.Prelude.{slice_get, MatchOption, Ok, Err}
use Rattle.std.specs.List.{Any}
use Rattle.std.proofs.lemmas.List.Folds.{list_any-from_Any}
use Rattle.plfs_types.specs.declared.entries.Entry.{Entry}
use Rattle.plfs_types.specs.declared.names.Path.{Path}
use Rattle.index_entry.specs.Spelling.{spelling_all}
use Rattle.container_layout.specs.declared.items.Item.TheVariants.{OpenHost}
use Rattle.container_layout.specs.Paths.{hostdir_of}
use Rattle.store_api.specs.declared.step.Answer.{Answer}
use Rattle.store_api.specs.declared.step.Answer.TheVariants.{Made, Old, NoRoom, NoFolder, Names}
use Rattle.store_api.specs.declared.store.Trouble.TheVariants.{Fault, NoMemory}
use Rattle.store_api.specs.declared.tree.Room.{Room}
use Rattle.store_api.specs.declared.tree.Tree.{Tree}
use Rattle.store_api.specs.Room.{has_folder}
use Rattle.store_api.specs.Names.{same_name}
use Rattle.store_api.specs.Step.{list_folder, sync}
use Rattle.store_laws.specs.Files.{file_at}
use Rattle.store_laws.specs.Differ.{is_listed}
use Rattle.store_laws.specs.Prefix.{IsPrefix}
use Rattle.store_laws.specs.Says.{WhyNoFolderMade, WhyNotCreated, ListTells}
use Rattle.store_laws.specs.Tells.{Tells}
use Rattle.store_laws.specs.There.{LacksFolder, HoldsFile, EndsBefore, ListsFolder}
use Rattle.store_laws.proofs.Facts.{list_tells, look_answered, name_refl, prefix_length, acts_told, create_told, remove_told, make_folder_told, sync_told, write_refused}
use Rattle.mount_model.specs.declared.reply.Reply.{Reply}
use Rattle.mount_model.specs.declared.row.Row.{Row}
use Rattle.mount_model.specs.declared.row.Stage.{Stage}
use Rattle.mount_model.specs.declared.row.Stage.TheVariants as stage
use Rattle.mount_model.specs.Building.{build_outcome, hostdir_step, MakesHostdir, index_step, MakesIndex, log_step, MakesLog}
use Rattle.mount_model.specs.Entering.{draw_check, next_id, entered, enter_step, enter_outcome, EntersAs, Enters}
use Rattle.mount_model.specs.Listed.{IsLeastOther, HasStamp}
use Rattle.mount_model.specs.Flooring.{FloorOutcome, FloorsRow, Floors}
use Rattle.mount_model.proofs.Facts.{no_item, IsHeld, at_only, may_enter, row_of_all}
use Rattle.mount_model.specs.Flushing.{flush_step, flush_outcome, FlushesRow, Flushes, sync_log_step, sync_log_outcome, SyncsLog, sync_index_step, sync_index_outcome, SyncsIndex}
use Rattle.mount_model.specs.Leaving.{put_meta_check, put_meta_step, put_meta_outcome, meta_file, PutsMeta, exit_check, exit_step, exit_outcome, Exits}
use Rattle.mount_model.specs.Making.{Told, otherwise, MakesAct, UnlessRefused}
use Rattle.mount_model.specs.Paths.{Name, metadata, truncs, open_path, index_path, log_path, meta_path}
use Rattle.container_layout.specs.Paths.{openhosts}
use Rattle.mount_model.specs.State.{State, Table, last_id, drawn, timed}
use Rattle.mount_model.specs.Table.{rank, only, may_close, is_live}
use Rattle.mount_model.specs.Writing.{write_check, stamp_at, write_step, write_outcome, WritesAt, Writes}
use Rattle.mount_sound.specs.Container.{IsContainer}
use Rattle.mount_sound.specs.Shape.{IsDrawnBy}
use Rattle.mount_sound.proofs.Shapes.Facts.{item_held, id_fits, container_at, shape_of}
use Rattle.mount_undamaged.specs.Damage.{ShowsNoDamage}
use Rattle.mount_sound.specs.Kept.{Begins, IsAtStage, IsKept}
use Rattle.mount_sound.specs.Ledger.{entries_in, content, Ledger}
use Rattle.mount_sound.specs.Dropping.{bytes_of}
use Rattle.mount_sound.specs.Sound.{IsSoundFor}
use Rattle.mount_sound.proofs.Facts.{open_or_closing, new_id, is_open, Own, accounted, its_writers, working, stage_live, Working, its_fit, its_kept, its_stage, its_own, length-content}
use Rattle.mount_undamaged.proofs.Containers.{names_item}
use Rattle.mount_undamaged.proofs.Acting.{one_room, folder_there, file_there, no_file_there, long_enough, folder_other, create_other, IsThere, file_other, write_other, makes_show, writer_shows, check_shows}

-- ---- the room of a writer

-- what a sound mount has of a live writer that the caller has
pub record Place (issued : Ledger) (tree : Tree) (allowed : ℕ → Type 0) (row : Row) : Type 0 where
  pub room : Room
  pub there : slice_get tree.rooms row.room ≡ Some room
  pub container : IsContainer allowed room
  pub id_fits : row.id < 2 ^ 64
  pub host_fits : row.host < 2 ^ 32
  pub kept : IsKept room row (issued row.room row.id)
  pub stage : IsAtStage room row (entries_in (issued row.room row.id))
  pub own : Own room row (issued row.room row.id)

place : (issued : Ledger) (old : State) (s : IsSoundFor issued old) (caller : ℕ) (stages : Stage → Bool) (writer : ℕ) (row : Row) → IsHeld caller stages writer old.table.writers row → rank row.stage < 6 → Place issued s.shape.tree (IsDrawnBy (last_id old) s.shape.tree) row
place issued old s caller stages writer row held live =
    let w : Working (last_id old) issued old.table.writers s.shape.tree row = working issued old writer row s.regular (accounted issued old (its_writers issued old s)) held.found live in
    let p = w.sound.placed row.id row w.stands in
    let apart : row.room ≢ old.marks = row_of_all (λ (x : Row). x.room ≢ old.marks) writer old.table.writers row s.regular.apart held.found in
    let fits = its_fit (last_id old) issued old.table.writers s.shape.tree row w p.0 p.1 in
    record {
      room = p.0;
      there = p.1;
      container = container_at (last_id old) old.marks old.mount row.room s.shape.tree p.0 (shape_of old s.shape) apart p.1;
      id_fits = fits.id;
      host_fits = fits.host;
      kept = its_kept (last_id old) issued old.table.writers s.shape.tree row w p.0 p.1;
      stage = its_stage (last_id old) issued old.table.writers s.shape.tree row w p.0 p.1;
      own = its_own (last_id old) issued old.table.writers s.shape.tree row w p.0 p.1;
    }

-- a file of it is there
there_file : (issued : Ledger) (tree : Tree) (allowed : ℕ → Type 0) (row : Row) (p : Place issued tree allowed row) (path : Path) (bytes : List ℕ) → has_folder p.room path.folder ≡ true → file_at p.room path ≡ Some bytes → IsThere tree row.room path
there_file issued tree allowed row p path bytes folder file = record {
  housed = folder_there tree row.room p.room path.folder p.there folder;
  filed = file_there tree row.room p.room path bytes p.there file;
}

-- ---- entering

enter_reply : (tree : Tree) (n : ℕ) (path : Path) (row : Row) (table : Table) (told : Told) → ((answer : Answer) → told ≡ Ok answer → (answer ≡ Made → ⊥) → WhyNotCreated tree n path answer) → (HoldsFile tree n path → ⊥) → ShowsNoDamage (enter_outcome row table told).reply
enter_reply tree n path row table (Ok Made) why new = tt
enter_reply tree n path row table (Ok NoFolder) why new = tt
enter_reply tree n path row table (Err Fault) why new = tt
enter_reply tree n path row table (Err NoMemory) why new = tt
enter_reply tree n path row table (Ok answer) why new = create_other tree n path answer openhosts (open_path row.host row.id).file (why answer refl (λ e. cc)) (λ e l. cc) (λ k e h. new h)

pub enter_shows : (issued : Ledger) (old : State) (s : IsSoundFor issued old) (caller room host most : ℕ) (reply : Reply) (new : State) → Enters caller room host most old reply new → ShowsNoDamage reply
enter_shows issued old s caller room host most reply new f =
    check_shows (draw_check old room) old reply new (EntersAs caller room host most old reply new) f
    (λ none does.
    let c = may_enter old room none in
    let path : Path = open_path host (next_id old) in
    let fits : next_id old < 2 ^ 64 = id_fits old.mount (old.serial + 1) s.regular.mount_fits (omega (arith, c.1)) in
    let fresh : HoldsFile s.shape.tree room path → ⊥ = λ h.
    no_file_there s.shape.tree room h.room path h.has_room ((new_id old s.shape.tree room h.room s.shape s.shape.told c.0 h.has_room).none (OpenHost host (next_id old)) (is_open host (next_id old) does.host_fits fits) refl) h in
    makes_show (enter_step old room host) (enter_outcome (entered old caller room host most) old.table) (drawn old) reply new s.shape.tree s.shape.told
    (λ told after t. enter_reply s.shape.tree room path (entered old caller room host most) old.table told (λ answer is other. ((create_told room path s.shape.tree told after t).stays answer is other).1) fresh) does.makes)

-- ---- the floor

listed : (name : Name) (names : List Name) → Any (λ (other : Name). other ≡ name) names → is_listed name names ≡ true
listed name names a = list_any-from_Any (λ (other : Name). same_name other name) names (a.0, a.1, a.2, a.3, ap (λ (x : Name). same_name x name) a.4 ∙ name_refl name)

-- no name among the truncates is foreign
none_foreign : (allowed : ℕ → Type 0) (tree : Tree) (n : ℕ) (room : Room) (names : List Name) (name : Name) → slice_get tree.rooms n ≡ Some room → IsContainer allowed room → ListsFolder tree n truncs names → IsLeastOther HasStamp names name → ⊥
none_foreign allowed tree n room names name there c l f =
    let same : l.room ≡ room = one_room l.room room (slice_get tree.rooms n) l.has_room there in
    let i = names_item allowed l.room truncs names name (subst (IsContainer allowed) (sym same) c) refl l.entries (listed name names f.there) in
    no_item name f.foreign i.0 i.1

floor_reply : (allowed : ℕ → Type 0) (tree : Tree) (row : Row) (room : Room) (table new : Table) (told : Told) (reply : Reply) → slice_get tree.rooms row.room ≡ Some room → IsContainer allowed room → ((answer : Answer) → told ≡ Ok answer → ListTells tree row.room truncs answer) → FloorOutcome row table told reply new → ShowsNoDamage reply
floor_reply allowed tree row room table new (Ok (Names names)) reply there c says (inl f) = subst ShowsNoDamage (sym f.2) tt
floor_reply allowed tree row room table new (Ok (Names names)) reply there c says (inr f) = absurd (none_foreign allowed tree row.room room names f.0 there c (says (Names names) refl) f.1)
floor_reply allowed tree row room table new (Ok NoRoom) reply there c says f = subst ShowsNoDamage (sym f.0) tt
floor_reply allowed tree row room table new (Ok NoFolder) reply there c says f = absurd (folder_there tree row.room room truncs there c.has_truncs (says NoFolder refl))
floor_reply allowed tree row room table new (Err Fault) reply there c says f = subst ShowsNoDamage (sym f.0) tt
floor_reply allowed tree row room table new (Err NoMemory) reply there c says f = subst ShowsNoDamage (sym f.0) tt
floor_reply allowed tree row room table new (Ok answer) reply there c says f = absurd (says answer refl)

pub floor_shows : (issued : Ledger) (old : State) (s : IsSoundFor issued old) (caller writer : ℕ) (reply : Reply) (new : State) → Floors caller writer old reply new → ShowsNoDamage reply
floor_shows issued old s caller writer reply new f =
    writer_shows caller (only stage.Entered) writer old reply new (λ row. FloorsRow row old reply new) f
    (λ row held d.
    let at : rank row.stage ≡ 0 = at_only stage.Entered row.stage held.staged in
    let p = place issued old s caller (only stage.Entered) writer row held (omega arith) in
    let t = acts_told (list_folder row.room truncs) old.store new.store s.shape.tree d.told s.shape.told d.made in
    floor_reply (IsDrawnBy (last_id old) s.shape.tree) s.shape.tree row p.room old.table new.table d.told reply p.there p.container
    (λ answer is. (look_answered (list_folder row.room truncs) s.shape.tree (ListTells s.shape.tree row.room truncs) (list_tells s.shape.tree row.room truncs) answer t.0 (subst (λ x. Tells (list_folder row.room truncs) s.shape.tree x t.0) is t.2)).1)
    d.outcome)

-- ---- building

folder_reply : (tree : Tree) (n : ℕ) (folder : Name) (to : Stage) (row : Row) (table : Table) (told : Told) → ((answer : Answer) → told ≡ Ok answer → (answer ≡ Made → ⊥) → WhyNoFolderMade tree n folder answer) → ShowsNoDamage (build_outcome to folder [] row table told).reply
folder_reply tree n folder to row table (Ok Made) why = tt
folder_reply tree n folder to row table (Ok (Old k)) why = tt
folder_reply tree n folder to row table (Err Fault) why = tt
folder_reply tree n folder to row table (Err NoMemory) why = tt
folder_reply tree n folder to row table (Ok answer) why = folder_other tree n folder answer folder [] (why answer refl (λ e. cc)) (λ k e. cc)

file_reply : (tree : Tree) (n : ℕ) (path : Path) (to : Stage) (row : Row) (table : Table) (told : Told) → ((answer : Answer) → told ≡ Ok answer → (answer ≡ Made → ⊥) → WhyNotCreated tree n path answer) → (LacksFolder tree n path.folder → ⊥) → ShowsNoDamage (build_outcome to path.folder path.file row table told).reply
file_reply tree n path to row table (Ok Made) why housed = tt
file_reply tree n path to row table (Ok (Old k)) why housed = tt
file_reply tree n path to row table (Err Fault) why housed = tt
file_reply tree n path to row table (Err NoMemory) why housed = tt
file_reply tree n path to row table (Ok answer) why housed = create_other tree n path answer path.folder path.file (why answer refl (λ e. cc)) (λ e. housed) (λ k e h. cc)

pub hostdir_shows : (issued : Ledger) (old : State) (s : IsSoundFor issued old) (caller writer : ℕ) (reply : Reply) (new : State) → MakesHostdir caller writer old reply new → ShowsNoDamage reply
hostdir_shows issued old s caller writer reply new f =
    writer_shows caller (only stage.Floored) writer old reply new (λ row. MakesAct (hostdir_step row) (build_outcome stage.Housed (hostdir_of row.host) [] row old.table) old reply new) f
    (λ row held makes. makes_show (hostdir_step row) (build_outcome stage.Housed (hostdir_of row.host) [] row old.table) old reply new s.shape.tree s.shape.told
    (λ told after t. folder_reply s.shape.tree row.room (hostdir_of row.host) stage.Housed row old.table told (λ answer is other. ((make_folder_told row.room (hostdir_of row.host) s.shape.tree told after t).stays answer is other).1)) makes)

pub index_shows : (issued : Ledger) (old : State) (s : IsSoundFor issued old) (caller writer : ℕ) (reply : Reply) (new : State) → MakesIndex caller writer old reply new → ShowsNoDamage reply
index_shows issued old s caller writer reply new f =
    writer_shows caller (only stage.Housed) writer old reply new (λ row. MakesAct (index_step row) (build_outcome stage.Indexed (hostdir_of row.host) (index_path row.host row.id).file row old.table) old reply new) f
    (λ row held makes.
    let at : rank row.stage ≡ 2 = at_only stage.Housed row.stage held.staged in
    let p = place issued old s caller (only stage.Housed) writer row held (omega arith) in
    makes_show (index_step row) (build_outcome stage.Indexed (hostdir_of row.host) (index_path row.host row.id).file row old.table) old reply new s.shape.tree s.shape.told
    (λ told after t. file_reply s.shape.tree row.room (index_path row.host row.id) stage.Indexed row old.table told (λ answer is other. ((create_told row.room (index_path row.host row.id) s.shape.tree told after t).stays answer is other).1)
    (folder_there s.shape.tree row.room p.room (hostdir_of row.host) p.there (p.stage.housed (omega arith)))) makes)

pub log_shows : (issued : Ledger) (old : State) (s : IsSoundFor issued old) (caller writer : ℕ) (reply : Reply) (new : State) → MakesLog caller writer old reply new → ShowsNoDamage reply
log_shows issued old s caller writer reply new f =
    writer_shows caller (only stage.Indexed) writer old reply new (λ row. MakesAct (log_step row) (build_outcome stage.Open (hostdir_of row.host) (log_path row.host row.id).file row old.table) old reply new) f
    (λ row held makes.
    let at : rank row.stage ≡ 3 = at_only stage.Indexed row.stage held.staged in
    let p = place issued old s caller (only stage.Indexed) writer row held (omega arith) in
    makes_show (log_step row) (build_outcome stage.Open (hostdir_of row.host) (log_path row.host row.id).file row old.table) old reply new s.shape.tree s.shape.told
    (λ told after t. file_reply s.shape.tree row.room (log_path row.host row.id) stage.Open row old.table told (λ answer is other. ((create_told row.room (log_path row.host row.id) s.shape.tree told after t).stays answer is other).1)
    (folder_there s.shape.tree row.room p.room (hostdir_of row.host) p.there (p.stage.housed (omega arith)))) makes)

-- ---- writing, flushing and syncing

-- the droppings of an open writer are there
record Droppings (tree : Tree) (row : Row) : Type 0 where
  index : IsThere tree row.room (index_path row.host row.id)
  log : IsThere tree row.room (log_path row.host row.id)
  index_long : EndsBefore tree row.room (index_path row.host row.id) (40 * row.landed) → ⊥
  log_long : EndsBefore tree row.room (log_path row.host row.id) row.stored → ⊥

begins : (es : List Entry) (landed : ℕ) (file : Option (List ℕ)) (bytes : List ℕ) → MatchOption file (landed ≡ 0) (Begins es landed) → file ≡ Some bytes → Begins es landed bytes
begins es landed file bytes m e = subst (λ o. MatchOption o (landed ≡ 0) (Begins es landed)) e m

droppings : (issued : Ledger) (old : State) (s : IsSoundFor issued old) (caller writer : ℕ) (row : Row) → IsHeld caller (only stage.Open) writer old.table.writers row → Droppings s.shape.tree row
droppings issued old s caller writer row held =
    let at : rank row.stage ≡ 4 = at_only stage.Open row.stage held.staged in
    let p = place issued old s caller (only stage.Open) writer row held (omega arith) in
    let tree : Tree = s.shape.tree in
    let i = p.stage.indexed (omega arith) in
    let l = p.stage.logged (omega arith) in
    let b : Begins (entries_in (issued row.room row.id)) row.landed i.0 = begins (entries_in (issued row.room row.id)) row.landed (file_at p.room (index_path row.host row.id)) i.0 p.kept.index i.1 in
    let log : IsPrefix (content (issued row.room row.id)) l.0 = subst (λ o. IsPrefix (content (issued row.room row.id)) (bytes_of o)) l.1 p.own.log in
    let long : row.stored ≤ length l.0 = omega (arith, p.kept.numbers.stored, length-content (issued row.room row.id) (s.sound.writes row.room row.id).full, prefix_length (content (issued row.room row.id)) l.0 log) in
    record {
      index = there_file issued tree (IsDrawnBy (last_id old) tree) row p (index_path row.host row.id) i.0 (p.stage.housed (omega arith)) i.1;
      log = there_file issued tree (IsDrawnBy (last_id old) tree) row p (log_path row.host row.id) l.0 (p.stage.housed (omega arith)) l.1;
      index_long = long_enough tree row.room p.room (index_path row.host row.id) i.0 (40 * row.landed) p.there i.1 b.long;
      log_long = long_enough tree row.room p.room (log_path row.host row.id) l.0 row.stored p.there l.1 long;
    }

write_reply : (stamp : ℕ) (row : Row) (at len : ℕ) (table : Table) (told : Told) → ((answer : Answer) → told ≡ Ok answer → (answer ≡ Made → ⊥) → ShowsNoDamage (otherwise (hostdir_of row.host) (log_path row.host row.id).file (Ok answer))) → ShowsNoDamage (write_outcome stamp row at len table told).reply
write_reply stamp row at len table (Ok Made) other = tt
write_reply stamp row at len table (Err Fault) other = tt
write_reply stamp row at len table (Err NoMemory) other = tt
write_reply stamp row at len table (Ok answer) other = other answer refl (λ e. cc)

pub write_shows : (issued : Ledger) (old : State) (s : IsSoundFor issued old) (caller writer at : ℕ) (bytes : List ℕ) (reply : Reply) (new : State) → Writes caller writer at bytes old reply new → ShowsNoDamage reply
write_shows issued old s caller writer at bytes reply new f =
    writer_shows caller (only stage.Open) writer old reply new (λ row. UnlessRefused (write_check row at (length bytes)) old reply new (WritesAt row at bytes old reply new)) f
    (λ row held d. check_shows (write_check row at (length bytes)) old reply new (WritesAt row at bytes old reply new) d
    (λ none w.
    let there = droppings issued old s caller writer row held in
    makes_show (write_step row bytes) (write_outcome (stamp_at w.time row) row at (length bytes) old.table) (timed w.times old) reply new s.shape.tree s.shape.told
    (λ told after t. write_reply (stamp_at w.time row) row at (length bytes) old.table told
    (λ answer is unmade. write_other s.shape.tree row.room (log_path row.host row.id) row.stored answer (hostdir_of row.host) (log_path row.host row.id).file
    (write_refused row.room (log_path row.host row.id) row.stored bytes s.shape.tree answer after (subst (λ x. Tells (write_step row bytes) s.shape.tree x after) is t) unmade).1 there.log there.log_long)) w.makes))

flush_reply : (row : Row) (table : Table) (told : Told) → ((answer : Answer) → told ≡ Ok answer → (answer ≡ Made → ⊥) → ShowsNoDamage (otherwise (hostdir_of row.host) (index_path row.host row.id).file (Ok answer))) → ShowsNoDamage (flush_outcome row table told).reply
flush_reply row table (Ok Made) other = tt
flush_reply row table (Err Fault) other = tt
flush_reply row table (Err NoMemory) other = tt
flush_reply row table (Ok answer) other = other answer refl (λ e. cc)

flush_row : (old : State) (tree : Tree) (row : Row) (pending : List Entry) (reply : Reply) (new : State) → old.store.tree ≡ Some tree → Droppings tree row → FlushesRow row pending old reply new → ShowsNoDamage reply
flush_row old tree row [] reply new told there f = subst ShowsNoDamage (sym f.0) tt
flush_row old tree row (first ∷ rest) reply new told there f =
    makes_show (flush_step row) (flush_outcome row old.table) old reply new tree told
    (λ x after t. flush_reply row old.table x
    (λ answer is unmade. write_other tree row.room (index_path row.host row.id) (40 * row.landed) answer (hostdir_of row.host) (index_path row.host row.id).file
    (write_refused row.room (index_path row.host row.id) (40 * row.landed) (spelling_all row.pending.entries) tree answer after (subst (λ y. Tells (flush_step row) tree y after) is t) unmade).1 there.index there.index_long)) f

pub flush_shows : (issued : Ledger) (old : State) (s : IsSoundFor issued old) (caller writer : ℕ) (reply : Reply) (new : State) → Flushes caller writer old reply new → ShowsNoDamage reply
flush_shows issued old s caller writer reply new f =
    writer_shows caller (only stage.Open) writer old reply new (λ row. FlushesRow row row.pending.entries old reply new) f
    (λ row held d. flush_row old s.shape.tree row row.pending.entries reply new s.shape.told (droppings issued old s caller writer row held) d)

sync_other : (tree : Tree) (n : ℕ) (path : Path) (told : Told) (after : Tree) → Tells (sync n path.folder path.file) tree told after → IsThere tree n path → (answer : Answer) → told ≡ Ok answer → (answer ≡ Made → ⊥) → ShowsNoDamage (otherwise path.folder path.file (Ok answer))
sync_other tree n path told after t i answer is unmade =
    file_other tree n path answer path.folder path.file
    ((sync_told n path tree told after t).stays answer is unmade).1 i

log_reply : (row : Row) (table : Table) (told : Told) → ((answer : Answer) → told ≡ Ok answer → (answer ≡ Made → ⊥) → ShowsNoDamage (otherwise (hostdir_of row.host) (log_path row.host row.id).file (Ok answer))) → ShowsNoDamage (sync_log_outcome row table told).reply
log_reply row table (Ok Made) other = tt
log_reply row table (Err Fault) other = tt
log_reply row table (Err NoMemory) other = tt
log_reply row table (Ok answer) other = other answer refl (λ e. cc)

pub sync_log_shows : (issued : Ledger) (old : State) (s : IsSoundFor issued old) (caller writer : ℕ) (reply : Reply) (new : State) → SyncsLog caller writer old reply new → ShowsNoDamage reply
sync_log_shows issued old s caller writer reply new f =
    writer_shows caller (only stage.Open) writer old reply new (λ row. MakesAct (sync_log_step row) (sync_log_outcome row old.table) old reply new) f
    (λ row held makes.
    let there = droppings issued old s caller writer row held in
    makes_show (sync_log_step row) (sync_log_outcome row old.table) old reply new s.shape.tree s.shape.told
    (λ told after t. log_reply row old.table told (sync_other s.shape.tree row.room (log_path row.host row.id) told after t there.log)) makes)

index_reply : (row : Row) (table : Table) (told : Told) → ((answer : Answer) → told ≡ Ok answer → (answer ≡ Made → ⊥) → ShowsNoDamage (otherwise (hostdir_of row.host) (index_path row.host row.id).file (Ok answer))) → ShowsNoDamage (sync_index_outcome row table told).reply
index_reply row table (Ok Made) other = tt
index_reply row table (Err Fault) other = tt
index_reply row table (Err NoMemory) other = tt
index_reply row table (Ok answer) other = other answer refl (λ e. cc)

pub sync_index_shows : (issued : Ledger) (old : State) (s : IsSoundFor issued old) (caller writer : ℕ) (reply : Reply) (new : State) → SyncsIndex caller writer old reply new → ShowsNoDamage reply
sync_index_shows issued old s caller writer reply new f =
    writer_shows caller (only stage.Open) writer old reply new (λ row. MakesAct (sync_index_step row) (sync_index_outcome row old.table) old reply new) f
    (λ row held makes.
    let there = droppings issued old s caller writer row held in
    makes_show (sync_index_step row) (sync_index_outcome row old.table) old reply new s.shape.tree s.shape.told
    (λ told after t. index_reply row old.table told (sync_other s.shape.tree row.room (index_path row.host row.id) told after t there.index)) makes)

-- ---- leaving

meta_reply : (tree : Tree) (n : ℕ) (path : Path) (row : Row) (table : Table) (told : Told) → path ≡ meta_path row.end row.stored row.last row.host row.id → ((answer : Answer) → told ≡ Ok answer → (answer ≡ Made → ⊥) → WhyNotCreated tree n path answer) → (LacksFolder tree n path.folder → ⊥) → ShowsNoDamage (put_meta_outcome row table told).reply
meta_reply tree n path row table (Ok Made) is why housed = tt
meta_reply tree n path row table (Ok (Old k)) is why housed = tt
meta_reply tree n path row table (Err Fault) is why housed = tt
meta_reply tree n path row table (Err NoMemory) is why housed = tt
meta_reply tree n path row table (Ok answer) is why housed = create_other tree n path answer metadata (meta_file row) (why answer refl (λ e. cc)) (λ e. housed) (λ k e h. cc)

pub meta_shows : (issued : Ledger) (old : State) (s : IsSoundFor issued old) (caller writer : ℕ) (reply : Reply) (new : State) → PutsMeta caller writer old reply new → ShowsNoDamage reply
meta_shows issued old s caller writer reply new f =
    writer_shows caller may_close writer old reply new (λ row. UnlessRefused (put_meta_check row) old reply new (MakesAct (put_meta_step row) (put_meta_outcome row old.table) old reply new)) f
    (λ row held d. check_shows (put_meta_check row) old reply new (MakesAct (put_meta_step row) (put_meta_outcome row old.table) old reply new) d
    (λ none makes.
    let p = place issued old s caller may_close writer row held (open_or_closing (rank row.stage) held.staged).1 in
    let path : Path = meta_path row.end row.stored row.last row.host row.id in
    makes_show (put_meta_step row) (put_meta_outcome row old.table) old reply new s.shape.tree s.shape.told
    (λ told after t. meta_reply s.shape.tree row.room path row old.table told refl (λ answer is other. ((create_told row.room path s.shape.tree told after t).stays answer is other).1)
    (folder_there s.shape.tree row.room p.room metadata p.there p.container.has_metadata)) makes))

exit_reply : (row : Row) (table : Table) (told : Told) → ((answer : Answer) → told ≡ Ok answer → (answer ≡ Made → ⊥) → ShowsNoDamage (otherwise openhosts (open_path row.host row.id).file (Ok answer))) → ShowsNoDamage (exit_outcome row table told).reply
exit_reply row table (Ok Made) other = tt
exit_reply row table (Err Fault) other = tt
exit_reply row table (Err NoMemory) other = tt
exit_reply row table (Ok answer) other = other answer refl (λ e. cc)

pub exit_shows : (issued : Ledger) (old : State) (s : IsSoundFor issued old) (caller writer : ℕ) (reply : Reply) (new : State) → Exits caller writer old reply new → ShowsNoDamage reply
exit_shows issued old s caller writer reply new f =
    writer_shows caller is_live writer old reply new (λ row. UnlessRefused (exit_check row) old reply new (MakesAct (exit_step row) (exit_outcome row old.table) old reply new)) f
    (λ row held d. check_shows (exit_check row) old reply new (MakesAct (exit_step row) (exit_outcome row old.table) old reply new) d
    (λ none makes.
    let p = place issued old s caller is_live writer row held (stage_live row.stage held.staged) in
    let path : Path = open_path row.host row.id in
    let housed = (item_held (IsDrawnBy (last_id old) s.shape.tree) p.room (OpenHost row.host row.id) [] p.container (is_open row.host row.id p.host_fits p.id_fits) p.stage.opened).housed in
    makes_show (exit_step row) (exit_outcome row old.table) old reply new s.shape.tree s.shape.told
    (λ told after t. exit_reply row old.table told
    (λ answer is other. file_other s.shape.tree row.room path answer openhosts path.file ((remove_told row.room path s.shape.tree told after t).stays answer is other).1
    (there_file issued s.shape.tree (IsDrawnBy (last_id old) s.shape.tree) row p path [] housed p.stage.opened))) makes))
