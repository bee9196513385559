-- Finding a writer's floor keeps soundness.
use Rattle.std.proofs.Common.{◌≡◌, ◌≤◌, ℕ, List, [], ◌∷◌, Option, Some, None, Bool, true, false, refl, ap, sym, ◌∙◌, ◌⊎◌, inl, inr, subst, arith}
use Rattle.std.specs.Prelude.{Ok, is_some, ◌||◌}
use Rattle.std.specs.List.{AllByRecursion}
use Rattle.std.proofs.lemmas.List.Elements.{recursion_from_All}
use Rattle.plfs_types.specs.declared.entries.Entry.{Entry}
use Rattle.container_layout.specs.declared.items.Item.TheVariants.{Trunc}
use Rattle.container_layout.specs.Paths.{path_of}
use Rattle.container_layout.proofs.Facts.{same_items}
use Rattle.store_api.specs.declared.step.Answer.TheVariants.{Names}
use Rattle.store_api.specs.declared.tree.Room.{Room}
use Rattle.store_api.specs.declared.tree.Tree.{Tree}
use Rattle.store_api.specs.Step.{list_folder}
use Rattle.store_api.specs.Names.{same_name}
use Rattle.store_api.specs.Effect.{Effect}
use Rattle.store_laws.specs.Files.{file_at}
use Rattle.store_laws.specs.Differ.{is_listed}
use Rattle.store_laws.specs.Tells.{Tells}
use Rattle.store_laws.specs.There.{AreNamesOf, ListsFolder}
use Rattle.store_laws.specs.Says.{ListTells}
use Rattle.store_laws.proofs.Facts.{name_eq, list_tells, look_told, acts_told}
use Rattle.mount_model.specs.declared.row.Row.{Row}
use Rattle.mount_model.specs.declared.row.Stage.TheVariants as stage
use Rattle.mount_model.specs.declared.reply.Reply.{Reply}
use Rattle.mount_model.specs.Flooring.{floored, FloorOutcome, FloorsRow, Floors}
use Rattle.mount_model.specs.Listed.{IsGreatest, HasStamp}
use Rattle.mount_model.specs.Making.{Told}
use Rattle.mount_model.specs.Paths.{Name, truncs}
use Rattle.mount_model.specs.Regular.{IsRegular}
use Rattle.mount_model.specs.State.{State, Table, last_id, put}
use Rattle.mount_model.specs.Table.{with_row, rank, only}
use Rattle.mount_model.proofs.Facts.{at_only}
use Rattle.mount_sound.specs.Entries.{AreEntriesOf}
use Rattle.mount_sound.specs.Items.{HasItem}
use Rattle.mount_sound.specs.Ledger.{Written, entries_in, Ledger}
use Rattle.mount_sound.specs.Kept.{IsAtStage, IsKept}
use Rattle.mount_sound.specs.Sound.{AreSound}
use Rattle.mount_sound.proofs.Droppings.Building.{not_closing}
use Rattle.mount_sound.proofs.Soundness.Live.{Own}
use Rattle.mount_sound.proofs.Calls.Making.{AreRight, IsAccounted}
use Rattle.mount_sound.proofs.Writers.Stages.{on_writer, working}
use Rattle.mount_sound.proofs.Writers.Working.{Working, Holds, turned_put, turns, its_kept, its_stage, its_own}

-- a name that is listed has what all of them have
listed : (P : Name → Type 0) (name : Name) (names : List Name) → AllByRecursion P names → is_listed name names ≡ true → P name
listed P name [] every e = absurd (cc)
listed P name (x ∷ names) every e = elim (same_name x name) as (λ b. same_name x name ≡ b → (b || is_listed name names) ≡ true → P name) [
  | true ↦ λ t f. subst P (name_eq x name t) every.0
  | false ↦ λ t f. listed P name names every.1 f
] refl e

some_there : (o : Option (List ℕ)) (bytes : List ℕ) (b : Bool) → o ≡ Some bytes → (is_some o || b) ≡ true
some_there None bytes b e = absurd (cc)
some_there (Some x) bytes b e = refl

-- every truncate of the room is at or below the floor that its listing gives
below : (room : Room) (names : List Name) (floor stamp size : ℕ) (inside : List ℕ) → AreNamesOf room truncs names → IsGreatest HasStamp names floor → HasItem room (Trunc stamp size) inside → stamp ≤ floor
below room names floor stamp size inside are f h =
    let name : Name = (path_of (Trunc stamp size)).file in
    let there : is_listed name names ≡ true = are.exactly name ∙ some_there (file_at room (path_of (Trunc stamp size))) inside _ h.there in
    let found = listed (λ (n : Name). (t : ℕ) × HasStamp n t × (t ≤ floor)) name names (recursion_from_All (λ (n : Name). (t : ℕ) × HasStamp n t × (t ≤ floor)) names f.numbers) there in
    let same : Trunc stamp size ≡ Trunc found.0 found.1.0 = same_items (Trunc stamp size) (Trunc found.0 found.1.0) h.is_item found.1.1.is_item found.1.1.printed in
    let stamps : stamp ≡ found.0 = cc in
    omega (arith, stamps, found.2)

order_of_none : (writer floor : ℕ) (es : List Entry) → es ≡ [] → AreEntriesOf writer floor 0 es
order_of_none writer floor es e = subst (AreEntriesOf writer floor 0) (sym e) tt

floored_holds : (room : Room) (row : Row) (floor : ℕ) (names : List Name) (issued : List Written) → rank row.stage ≡ 0 → IsKept room row issued → IsAtStage room row (entries_in issued) → Own room row issued → AreNamesOf room truncs names → IsGreatest HasStamp names floor → Holds room (floored floor row) issued
floored_holds room row floor names issued at k a o are f = record {
  kept = record {
    in_order = order_of_none row.id floor (entries_in issued) (a.unopened (omega arith));
    numbers = record { stored = k.numbers.stored; last = k.numbers.last; end = k.numbers.end; landed = k.numbers.landed; pending = k.numbers.pending; log_mark = k.numbers.log_mark; index_mark = k.numbers.index_mark };
    index = k.index;
    log_long = k.log_long;
    log_kept = k.log_kept;
    index_kept = k.index_kept;
    alive = λ live. record {
      opened = a.opened;
      unopened = λ early. a.unopened (omega arith);
      floored = λ some stamp size inside h. below room names floor stamp size inside are f h;
      housed = λ far. absurd (omega arith);
      indexed = λ far. absurd (omega arith);
      logged = λ far. absurd (omega arith);
      closing = λ m. absurd (not_closing row (omega arith) (a.closing m).0);
      has_meta = a.has_meta;
    };
  };
  live = refl;
  own = record { one_host = o.one_host; log = o.log; told = o.told };
}

floor_found : (last : ℕ) (issued : Ledger) (rows : List Row) (tree : Tree) (row : Row) (floor : ℕ) (names : List Name) → rank row.stage ≡ 0 → Working last issued rows tree row → ListsFolder tree row.room truncs names → IsGreatest HasStamp names floor → AreSound last issued (with_row (floored floor row) rows) tree
floor_found last issued rows tree row floor names at w l f =
    turns last issued rows (with_row (floored floor row) rows) tree row (floored floor row) l.room w l.has_room refl refl refl (turned_put rows (floored floor row))
    (floored_holds l.room row floor names (issued row.room row.id) at (its_kept last issued rows tree row w l.room l.has_room) (its_stage last issued rows tree row w l.room l.has_room) (its_own last issued rows tree row w l.room l.has_room) l.entries f)

-- what the table becomes
floor_cases : (row : Row) (table : Table) (told : Told) (reply : Reply) (after : Table) → FloorOutcome row table told reply after → ((names : List Name) × (floor : ℕ) × (told ≡ Ok (Names names)) × IsGreatest HasStamp names floor × (after ≡ put (floored floor row) table)) ⊎ (after ≡ table)
floor_cases row table (Ok (Names names)) reply after (inl f) = inl (names, f.0, refl, f.1, f.3)
floor_cases row table (Ok (Names names)) reply after (inr d) = inr d.3
floor_cases row table told reply after f = inr f.1

lists : (tree after : Tree) (n : ℕ) (folder : Name) (names : List Name) → Tells (list_folder n folder) tree (Ok (Names names)) after → ListsFolder tree n folder names
lists tree after n folder names t = subst (ListTells tree n folder) (ap (λ (x : Effect). x.answer) t) (list_tells tree n folder).says_so

floor_right : (last : ℕ) (issued : Ledger) (table new : Table) (tree after : Tree) (row : Row) (told : Told) (reply : Reply) → rank row.stage ≡ 0 → Working last issued table.writers tree row → Tells (list_folder row.room truncs) tree told after → FloorOutcome row table told reply new → AreRight last issued new tree
floor_right last issued table new tree after row told reply at w t f = elim (floor_cases row table told reply new f) as (λ _. AreRight last issued new tree) [
  | inl (names, floor, is, found, e) ↦
      let l : ListsFolder tree row.room truncs names = lists tree after row.room truncs names (subst (λ x. Tells (list_folder row.room truncs) tree x after) is t) in
      subst (λ x. AreRight last issued x tree) (sym e) (floor_found last issued table.writers tree row floor names at w l found)
  | inr same ↦ subst (λ x. AreRight last issued x tree) (sym same) (w.sound)
]

floors_row : (issued : Ledger) (old : State) (row : Row) (reply : Reply) (new : State) (a : IsAccounted issued old) → rank row.stage ≡ 0 → Working (last_id old) issued old.table.writers a.tree row → FloorsRow row old reply new → IsAccounted issued new
floors_row issued old row reply new a at w f =
    let t = acts_told (list_folder row.room truncs) old.store new.store a.tree f.told a.told f.made in
    let same : t.0 ≡ a.tree = look_told (list_folder row.room truncs) a.tree f.told t.0 tt t.2 in
    let right : AreRight (last_id old) issued new.table a.tree = floor_right (last_id old) issued old.table new.table a.tree t.0 row f.told reply at w t.2 f.outcome in
    let after : IsAccounted issued (record old { store = new.store; table = new.table }) = record { tree = t.0; told = t.1; right = subst (AreRight (last_id old) issued new.table) (sym same) right } in
    subst (IsAccounted issued) (sym f.after) after

-- Finding a floor keeps soundness.
pub floor_keeps : (issued : Ledger) (old : State) (caller writer : ℕ) (reply : Reply) (new : State) → IsRegular old → Floors caller writer old reply new → IsAccounted issued old → IsAccounted issued new
floor_keeps issued old caller writer reply new r f a =
    on_writer issued old caller (only stage.Entered) writer reply new (λ row. FloorsRow row old reply new) f a
    (λ row stands at does.
    let is : rank row.stage ≡ 0 = at_only stage.Entered row.stage at in
    floors_row issued old row reply new a is (working issued old writer row r a stands (omega arith)) does)
