-- Calls that hold a container, truncate it, give it another name and let it go show no damage in a sound mount.
use Rattle.std.proofs.Common.{◌≡◌, ◌<◌, ℕ, List, [], ◌∷◌, Some, true, refl, sym, inl, inr, subst, arith}
use Rattle.std.specs.Prelude.{slice_get, Ok, Err}
use Rattle.container_layout.specs.declared.items.Item.{Item}
use Rattle.container_layout.specs.declared.items.Item.TheVariants.{OpenHost, Trunc}
use Rattle.container_layout.specs.Items.{IsItem}
use Rattle.container_layout.specs.Paths.{IsIn}
use Rattle.container_layout.proofs.Facts.{elsewhere, first_of_folder}
use Rattle.store_api.specs.declared.step.Answer.{Answer}
use Rattle.store_api.specs.declared.step.Answer.TheVariants.{Made, Old, NoRoom, NoFolder, NotEmpty, TargetThere}
use Rattle.store_api.specs.declared.store.Trouble.TheVariants.{Fault, NoMemory}
use Rattle.store_api.specs.declared.tree.Room.{Room}
use Rattle.store_api.specs.declared.tree.Tree.{Tree}
use Rattle.store_laws.specs.Files.{file_at}
use Rattle.store_laws.specs.Differ.{is_listed}
use Rattle.store_laws.specs.Says.{WhyNoFolderMade, WhyNoFolderRemoved, WhyNotCreated, WhyNotRenamed}
use Rattle.store_laws.specs.There.{HoldsFile, LacksFolder, ListsFolder}
use Rattle.store_laws.proofs.Facts.{acts_told, create_told, make_folder_told, name_refl, remove_folder_told, rename_room_told}
use Rattle.mount_model.specs.declared.reply.Reply.{Reply}
use Rattle.mount_model.specs.declared.row.Holder.{Holder}
use Rattle.mount_model.specs.declared.call.Call.TheVariants.{Mark}
use Rattle.mount_model.specs.Entering.{draw_check}
use Rattle.mount_model.specs.Holding.{hold_step, holding, IsNoWriters, NotEmptyReply, HoldOutcome, HoldsRoom, HoldsContainer, truncate_check, truncate_stamp, truncate_step, truncate_outcome, TruncatesAt, Truncates, rename_step, rename_outcome, RenamesRoom, Renames, release_step, release_outcome, Releases}
use Rattle.mount_model.specs.Making.{Told, MakesAct, UnlessRefused}
use Rattle.mount_model.specs.Paths.{Name, truncs, trunc_path}
use Rattle.container_layout.specs.Paths.{openhosts}
use Rattle.mount_model.specs.Recovering.{mend_hold_check, mend_hold_step, mend_hold_outcome, MendsHold}
use Rattle.mount_model.specs.State.{State, Table, last_id, timed}
use Rattle.mount_model.proofs.Facts.{MayTruncate, holder_apart, is_holding, may_enter, may_truncate}
use Rattle.mount_sound.specs.Container.{IsContainer}
use Rattle.mount_sound.specs.Shape.{IsDrawnBy}
use Rattle.mount_sound.specs.Ledger.{Ledger}
use Rattle.mount_sound.specs.Owed.{IsTop, Owes}
use Rattle.mount_sound.specs.Sound.{IsSoundFor}
use Rattle.mount_undamaged.specs.Damage.{ShowsNoDamage}
use Rattle.mount_undamaged.proofs.Acting.{check_shows, create_other, folder_other, folder_there, holder_shows, makes_show}
use Rattle.mount_undamaged.proofs.Containers.{container, names_item}

-- ---- a container is held

-- a name among those who have a container open that is no writer's entry is no item's
no_item : (name : Name) → IsNoWriters name → (item : Item) → IsIn openhosts name item → ⊥
no_item name none (OpenHost host writer) is = none host writer is
no_item name none item is = elsewhere (first_of_folder is.printed) refl

first_listed : (name : Name) (names : List Name) → is_listed name (name ∷ names) ≡ true
first_listed name names = rw (name_refl name) refl

-- the least name in the folder of who has a container open is a writer's entry
least_shows : (allowed : ℕ → Type 0) (tree : Tree) (n : ℕ) (least : Name) (reply : Reply) → ((room : Room) → slice_get tree.rooms n ≡ Some room → IsContainer allowed room) → (more : List Name) × ListsFolder tree n openhosts (least ∷ more) → NotEmptyReply least reply → ShowsNoDamage reply
least_shows allowed tree n least reply c (more, l) (inl f) = subst ShowsNoDamage (sym f.3) tt
least_shows allowed tree n least reply c (more, l) (inr f) =
    let i = names_item allowed l.room openhosts (least ∷ more) least (c l.room l.has_room) refl l.entries (first_listed least more) in
    absurd (no_item least f.0 i.0 i.1)

hold_reply : (allowed : ℕ → Type 0) (tree : Tree) (n : ℕ) (h : Holder) (table new : Table) (told : Told) (reply : Reply) → ((room : Room) → slice_get tree.rooms n ≡ Some room → IsContainer allowed room) → ((answer : Answer) → told ≡ Ok answer → (answer ≡ Made → ⊥) → WhyNoFolderRemoved tree n openhosts answer) → HoldOutcome h table told reply new → ShowsNoDamage reply
hold_reply allowed tree n h table new (Ok Made) reply c why f = subst ShowsNoDamage (sym f.0) tt
hold_reply allowed tree n h table new (Ok NoFolder) reply c why f = subst ShowsNoDamage (sym f.0) tt
hold_reply allowed tree n h table new (Ok NoRoom) reply c why f = subst ShowsNoDamage (sym f.0) tt
hold_reply allowed tree n h table new (Ok (NotEmpty least)) reply c why f = least_shows allowed tree n least reply c (why (NotEmpty least) refl (λ e. cc)) f.0
hold_reply allowed tree n h table new (Err Fault) reply c why f = subst ShowsNoDamage (sym f.0) tt
hold_reply allowed tree n h table new (Err NoMemory) reply c why f = subst ShowsNoDamage (sym f.0) tt
hold_reply allowed tree n h table new (Ok answer) reply c why f = absurd (why answer refl (λ e. cc))

pub hold_shows : (issued : Ledger) (old : State) (s : IsSoundFor issued old) (caller room : ℕ) (reply : Reply) (new : State) → HoldsContainer caller room old reply new → ShowsNoDamage reply
hold_shows issued old s caller room reply new f =
    check_shows (draw_check old room) old reply new (HoldsRoom caller room old reply new) f
    (λ none does.
    let t = acts_told (hold_step room) old.store new.store s.shape.tree does.told s.shape.told does.made in
    hold_reply (IsDrawnBy (last_id old) s.shape.tree) s.shape.tree room (holding old caller room) old.table new.table does.told reply
    (container issued old s room (may_enter old room none).0)
    (λ answer is other. ((remove_folder_told room openhosts s.shape.tree does.told t.0 t.2).stays answer is other).1)
    does.outcome)

-- ---- a truncate

truncate_reply : (tree : Tree) (n stamp size : ℕ) (table : Table) (told : Told) → ((answer : Answer) → told ≡ Ok answer → (answer ≡ Made → ⊥) → WhyNotCreated tree n (trunc_path stamp size) answer) → (LacksFolder tree n truncs → ⊥) → (HoldsFile tree n (trunc_path stamp size) → ⊥) → ShowsNoDamage (truncate_outcome stamp size table told).reply
truncate_reply tree n stamp size table (Ok Made) why housed fresh = tt
truncate_reply tree n stamp size table (Err Fault) why housed fresh = tt
truncate_reply tree n stamp size table (Err NoMemory) why housed fresh = tt
truncate_reply tree n stamp size table (Ok answer) why housed fresh = create_other tree n (trunc_path stamp size) answer truncs (trunc_path stamp size).file (why answer refl (λ e. cc)) (λ e. housed) (λ k e. fresh)

truncate_item : (time size top : ℕ) → MayTruncate size top → IsItem (Trunc (truncate_stamp time top) size)
truncate_item time size top may = record { in_range = record { stamped = omega arith; stamp_fits = omega (arith, may.stamp_left); size_fits = may.near }; widths = tt }

stamp_above : (time top : ℕ) → top < truncate_stamp time top
stamp_above time top = omega arith

-- no truncate of a room has a stamp above its top
fresh_stamp : (room : Room) (top stamp size : ℕ) (bytes : List ℕ) → IsTop room top → IsItem (Trunc stamp size) → top < stamp → file_at room (trunc_path stamp size) ≡ Some bytes → ⊥
fresh_stamp room top stamp size bytes is item above there = omega (arith, above, is.truncates stamp size bytes (record { is_item = item; there = there }))

pub truncate_shows : (issued : Ledger) (old : State) (s : IsSoundFor issued old) (caller holder size top : ℕ) (reply : Reply) (new : State) → Owes old caller (Mark holder size top) → Truncates caller holder size top old reply new → ShowsNoDamage reply
truncate_shows issued old s caller holder size top reply new owes f =
    holder_shows caller holder old reply new (λ h. UnlessRefused (truncate_check size top) old reply new (TruncatesAt h size top old reply new)) f
    (λ h its does. check_shows (truncate_check size top) old reply new (TruncatesAt h size top old reply new) does
    (λ none t.
    let may : MayTruncate size top = may_truncate size top none in
    let stamp : ℕ = truncate_stamp t.time top in
    let apart = holder_apart old.mount old.serial old.marks old.table.holders holder h s.regular.holders (is_holding caller holder old.table.holders h its).found in
    let housed : LacksFolder s.shape.tree h.room truncs → ⊥ = λ l. folder_there s.shape.tree h.room l.room truncs l.has_room (container issued old s h.room apart l.room l.has_room).has_truncs l in
    let fresh : HoldsFile s.shape.tree h.room (trunc_path stamp size) → ⊥ = λ file.
    fresh_stamp file.room top stamp size file.bytes (owes h its s.shape.tree file.room s.shape.told file.has_room) (truncate_item t.time size top may) (stamp_above t.time top) file.there in
    makes_show (truncate_step h stamp size) (truncate_outcome stamp size old.table) (timed t.times old) reply new s.shape.tree s.shape.told
    (λ told after tells. truncate_reply s.shape.tree h.room stamp size old.table told (λ answer is other. ((create_told h.room (trunc_path stamp size) s.shape.tree told after tells).stays answer is other).1) housed fresh) t.makes))

-- ---- another name

rename_reply : (tree : Tree) (n : ℕ) (to : Name) (table : Table) (told : Told) → ((answer : Answer) → told ≡ Ok answer → (answer ≡ Made → ⊥) → WhyNotRenamed tree n to answer) → ShowsNoDamage (rename_outcome table told).reply
rename_reply tree n to table (Ok Made) why = tt
rename_reply tree n to table (Ok TargetThere) why = tt
rename_reply tree n to table (Ok NoRoom) why = tt
rename_reply tree n to table (Err Fault) why = tt
rename_reply tree n to table (Err NoMemory) why = tt
rename_reply tree n to table (Ok answer) why = absurd (why answer refl (λ e. cc))

pub rename_shows : (old : State) (caller holder : ℕ) (to : Name) (reply : Reply) (new : State) (tree : Tree) → old.store.tree ≡ Some tree → Renames caller holder to old reply new → ShowsNoDamage reply
rename_shows old caller holder to reply new tree e f =
    holder_shows caller holder old reply new (λ h. RenamesRoom h to old reply new) f
    (λ h its does. makes_show (rename_step h to) (rename_outcome old.table) old reply new tree e
    (λ told after t. rename_reply tree h.room to old.table told (λ answer is other. ((rename_room_told h.room to tree told after t).stays answer is other).1)) does.makes)

-- ---- it is let go

release_reply : (tree : Tree) (h : Holder) (table : Table) (told : Told) → ((answer : Answer) → told ≡ Ok answer → (answer ≡ Made → ⊥) → WhyNoFolderMade tree h.room openhosts answer) → ShowsNoDamage (release_outcome h table told).reply
release_reply tree h table (Ok Made) why = tt
release_reply tree h table (Ok (Old k)) why = tt
release_reply tree h table (Err Fault) why = tt
release_reply tree h table (Err NoMemory) why = tt
release_reply tree h table (Ok answer) why = folder_other tree h.room openhosts answer openhosts [] (why answer refl (λ e. cc)) (λ k e. cc)

pub release_shows : (old : State) (caller holder : ℕ) (reply : Reply) (new : State) (tree : Tree) → old.store.tree ≡ Some tree → Releases caller holder old reply new → ShowsNoDamage reply
release_shows old caller holder reply new tree e f =
    holder_shows caller holder old reply new (λ h. MakesAct (release_step h) (release_outcome h old.table) old reply new) f
    (λ h its does. makes_show (release_step h) (release_outcome h old.table) old reply new tree e
    (λ told after t. release_reply tree h old.table told (λ answer is other. ((make_folder_told h.room openhosts tree told after t).stays answer is other).1)) does)

mend_hold_reply : (tree : Tree) (n : ℕ) (table : Table) (told : Told) → ((answer : Answer) → told ≡ Ok answer → (answer ≡ Made → ⊥) → WhyNoFolderMade tree n openhosts answer) → ShowsNoDamage (mend_hold_outcome table told).reply
mend_hold_reply tree n table (Ok Made) why = tt
mend_hold_reply tree n table (Ok (Old k)) why = tt
mend_hold_reply tree n table (Err Fault) why = tt
mend_hold_reply tree n table (Err NoMemory) why = tt
mend_hold_reply tree n table (Ok answer) why = folder_other tree n openhosts answer openhosts [] (why answer refl (λ e. cc)) (λ k e. cc)

pub mend_hold_shows : (old : State) (room : ℕ) (reply : Reply) (new : State) (tree : Tree) → old.store.tree ≡ Some tree → MendsHold room old reply new → ShowsNoDamage reply
mend_hold_shows old room reply new tree e f =
    check_shows (mend_hold_check old room) old reply new (MakesAct (mend_hold_step room) (mend_hold_outcome old.table) old reply new) f
    (λ none does. makes_show (mend_hold_step room) (mend_hold_outcome old.table) old reply new tree e
    (λ told after t. mend_hold_reply tree room old.table told (λ answer is other. ((make_folder_told room openhosts tree told after t).stays answer is other).1)) does)
