-- Entering a writer keeps soundness.
use Rattle.std.proofs.Common.{◌≡◌, ◌<◌, ◌+◌, ◌^◌, ℕ, List, [], ◌∷◌, ◌++◌, length, Option, Some, None, refl, sym, ◌∙◌, ◌⊎◌, inl, inr, subst, arith}
use Rattle.std.specs.Prelude.{slice_get, MatchOption, Ok}
use Rattle.container_layout.specs.declared.items.Item.{Item}
use Rattle.container_layout.specs.declared.items.Item.TheVariants.{Access, OpenHost, Meta, Trunc, Flat, TmpFlat, Index, Log, Packed, TmpPacked}
use Rattle.container_layout.specs.Items.{IsItem}
use Rattle.container_layout.specs.Paths.{path_of}
use Rattle.store_api.specs.declared.step.Answer.TheVariants.{Made, NoFolder}
use Rattle.store_api.specs.declared.tree.Room.{Room}
use Rattle.store_api.specs.declared.tree.Tree.{Tree}
use Rattle.store_laws.specs.Files.{file_at}
use Rattle.store_laws.specs.Changes.{Created}
use Rattle.store_laws.specs.Tells.{Tells, made}
use Rattle.store_laws.proofs.Facts.{create_told}
use Rattle.mount_model.specs.declared.row.Row.{Row}
use Rattle.mount_model.specs.declared.reply.Reply.{Reply}
use Rattle.mount_model.specs.Entering.{draw_check, next_id, entered, enter_step, enter_outcome, EntersAs, Enters}
use Rattle.mount_model.specs.Making.{Told}
use Rattle.mount_model.specs.Paths.{open_path, index_path}
use Rattle.mount_model.specs.Regular.{IsRegular}
use Rattle.mount_model.specs.State.{State, Table, last_id, drawn}
use Rattle.mount_model.specs.Table.{row_of}
use Rattle.mount_model.proofs.Facts.{may_enter, row_of_id, row_of_other-push}
use Rattle.mount_sound.specs.Container.{IsOfId, IsContainer}
use Rattle.mount_sound.specs.Shape.{IsDrawnBy, IsShaped}
use Rattle.mount_sound.proofs.Shapes.Facts.{item_held, id_fits}
use Rattle.mount_sound.specs.Items.{HasItemOf}
use Rattle.mount_sound.specs.Ledger.{Ledger}
use Rattle.mount_sound.specs.Dropping.{log_bytes, IsDropping, IsWriter}
use Rattle.mount_sound.specs.Kept.{Begins, IsKept}
use Rattle.mount_sound.specs.Sound.{AreSound}
use Rattle.mount_sound.proofs.Soundness.Items.{SameButItem, same_but_item, owner, is_index, is_open, same_for, same_truncates}
use Rattle.mount_sound.proofs.Soundness.Live.{one_host_kept, had_meta_but}
use Rattle.mount_sound.proofs.Soundness.Local.{local, grown}
use Rattle.mount_sound.proofs.Calls.Making.{AreRight, IsAccounted, one_tree, makes_accounted, all_fit, drawn_by}
use Rattle.mount_sound.proofs.Writers.Stages.{unless_refused}
use Rattle.mount_sound.proofs.Soundness.Tables.{added_row}

-- ---- nothing in the tree has an id that is not drawn yet

-- the room has no item of this writer
pub record IsNew (room : Room) (id : ℕ) : Type 0 where
  pub none : (item : Item) → IsItem item → owner item ≡ Some id → file_at room (path_of item) ≡ None

allowed_owner : (allowed : ℕ → Type 0) (item : Item) (id : ℕ) → owner item ≡ Some id → IsOfId allowed item → allowed id
allowed_owner allowed Access id o w = absurd (cc)
allowed_owner allowed (OpenHost host writer) id o w = let same : writer ≡ id = cc in subst allowed same w
allowed_owner allowed (Meta last bytes stamp host writer) id o w = let same : writer ≡ id = cc in subst allowed same w
allowed_owner allowed (Trunc stamp size) id o w = absurd (cc)
allowed_owner allowed (Flat n) id o w = absurd (cc)
allowed_owner allowed (TmpFlat n) id o w = absurd (cc)
allowed_owner allowed (Index host writer) id o w = let same : writer ≡ id = cc in subst allowed same w
allowed_owner allowed (Log host writer) id o w = let same : writer ≡ id = cc in subst allowed same w
allowed_owner allowed (Packed host writer) id o w = absurd (cc)
allowed_owner allowed (TmpPacked host n) id o w = absurd (cc)

pub absent : (o : Option (List ℕ)) → ((bytes : List ℕ) → o ≡ Some bytes → ⊥) → o ≡ None
absent None never = refl
absent (Some bytes) never = absurd (never bytes refl)

pub new_here : (allowed : ℕ → Type 0) (room : Room) (id : ℕ) → (allowed id → ⊥) → IsContainer allowed room → IsNew room id
new_here allowed room id never c = record {
  none = λ item is o. absent (file_at room (path_of item)) (λ bytes e. never (allowed_owner allowed item id o (item_held allowed room item bytes c is e).id));
}

-- a container has no item of the next id
pub new_id : (old : State) (tree : Tree) (number : ℕ) (room : Room) → IsShaped old → old.store.tree ≡ Some tree → (number ≡ old.marks → ⊥) → slice_get tree.rooms number ≡ Some room → IsNew room (next_id old)
new_id old tree number room s told apart e =
    let same : s.tree ≡ tree = one_tree s.tree tree old.store.tree s.told told in
    let there : slice_get s.tree.rooms number ≡ Some room = subst (λ (t : Tree). slice_get t.rooms number ≡ Some room) (sym same) e in
    elim (s.shaped.rooms number room there) as (λ _. IsNew room (next_id old)) [
      | inl m ↦ absurd (apart (s.shaped.rooms_differ number old.marks room s.marks there s.has_marks (m.named ∙ sym s.is_marks.named)))
      | inr c ↦ new_here (IsDrawnBy (last_id old) s.tree) room (next_id old) (λ d. omega (arith, d.1)) c
    ]

-- ---- the new writer

pub no_file_landed : (file : Option (List ℕ)) (landed : ℕ) (P : List ℕ → Type 0) → file ≡ None → landed ≡ 0 → MatchOption file (landed ≡ 0) P
no_file_landed file landed P none e = subst (λ o. MatchOption o (landed ≡ 0) P) (sym none) e

no_items : (room : Room) (id other : ℕ) → IsNew room id → HasItemOf room other id → ⊥
no_items room id other n (inl i) = let e : file_at room (path_of (Index other id)) ≡ None = n.none (Index other id) i.1.is_item refl in let f = i.1.there in cc
no_items room id other n (inr (inl i)) = let e : file_at room (path_of (OpenHost other id)) ≡ None = n.none (OpenHost other id) i.1.is_item refl in let f = i.1.there in cc
no_items room id other n (inr (inr m)) = let e : file_at room (path_of (Meta m.last m.bytes m.stamp other id)) ≡ None = n.none (Meta m.last m.bytes m.stamp other id) m.has.is_item refl in let f = m.has.there in cc

no_index : (host id : ℕ) (room new : Room) → host < 2 ^ 32 → id < 2 ^ 64 → IsNew room id → SameButItem (OpenHost host id) room new → file_at new (index_path host id) ≡ None
no_index host id room new h i n b = b.others (Index host id) (is_index host id h i) (λ e. cc) ∙ n.none (Index host id) (is_index host id h i) refl

new_writer : (host id : ℕ) (room new : Room) → host < 2 ^ 32 → id < 2 ^ 64 → IsNew room id → SameButItem (OpenHost host id) room new → IsWriter new id []
new_writer host id room new h i n b = record {
  host = host;
  host_fits = h;
  one_host = one_host_kept (OpenHost host id) host id room new refl b (λ other has. absurd (no_items room id other n has));
  landed = 0;
  within = omega arith;
  index = no_file_landed (file_at new (index_path host id)) 0 (IsDropping id [] 0 (length (log_bytes new host id))) (no_index host id room new h i n b) refl;
  log = tt;
  left = λ gone some. absurd (omega arith);
  told = λ last bytes stamp inside has. absurd (no_items room id host n (inr (inr (had_meta_but (OpenHost host id) host id room new (λ l c t e. cc) b (record { last = last; bytes = bytes; stamp = stamp; content = inside; has = has })))));
  settled = λ m. absurd (no_items room id host n (inr (inr (had_meta_but (OpenHost host id) host id room new (λ l c t e. cc) b m))));
  beside = λ stamp size inside has. inl tt;
}

new_kept : (old : State) (caller number host most : ℕ) (room new : Room) → host < 2 ^ 32 → next_id old < 2 ^ 64 → IsNew room (next_id old) → SameButItem (OpenHost host (next_id old)) room new → file_at new (open_path host (next_id old)) ≡ Some [] → IsKept new (entered old caller number host most) []
new_kept old caller number host most room new h i n b now = record {
  in_order = tt;
  numbers = record { stored = refl; last = refl; end = refl; landed = omega arith; pending = refl; log_mark = omega arith; index_mark = omega arith };
  index = no_file_landed (file_at new (index_path host (next_id old))) 0 (Begins [] 0) (no_index host (next_id old) room new h i n b) refl;
  log_long = omega arith;
  log_kept = omega arith;
  index_kept = omega arith;
  alive = λ live. record {
    opened = now;
    unopened = λ early. refl;
    floored = λ far. absurd (omega arith);
    housed = λ far. absurd (omega arith);
    indexed = λ far. absurd (omega arith);
    logged = λ far. absurd (omega arith);
    closing = λ m. absurd (no_items room (next_id old) host n (inr (inr (had_meta_but (OpenHost host (next_id old)) host (next_id old) room new (λ l c t e. cc) b m))));
    has_meta = λ e. absurd (cc);
  };
}

-- the entry was made, and the row may be in the table
entry_made : (old : State) (issued : Ledger) (caller number host most : ℕ) (rows' : List Row) (tree after : Tree) → IsRegular old → IsShaped old → old.store.tree ≡ Some tree → (number ≡ old.marks → ⊥) → host < 2 ^ 32 → next_id old < 2 ^ 64 → AreSound (last_id old) issued old.table.writers tree
    → ((q : ℕ) → (q ≡ next_id old → ⊥) → row_of q rows' ≡ row_of q old.table.writers) → ((x : Row) → row_of (next_id old) rows' ≡ Some x → x ≡ entered old caller number host most)
    → Created tree number (open_path host (next_id old)) after → AreSound (next_id old) issued rows' after
entry_made old issued caller number host most rows' tree after r shape told apart h i s others own c =
    let id : ℕ = next_id old in
    let none : issued number id ≡ [] = s.fresh number id (omega arith) in
    let n : IsNew c.room id = new_id old tree number c.room shape told apart c.has_room in
    let b : SameButItem (OpenHost host id) c.room c.new = same_but_item (OpenHost host id) c.room c.new (is_open host id h i) c.others in
    subst (AreSound id issued rows') (sym c.gives)
    (local number id c.room c.new issued issued old.table.writers rows' tree
    (record {
      there = c.has_room;
      fit = all_fit old r;
      others = others;
      writes = λ m q other. refl;
      files = λ q other. same_for (OpenHost host id) id q c.room c.new refl other b;
      truncates = same_truncates (OpenHost host id) id c.room c.new refl b;
      own = λ x e. subst (λ (y : Row). (y.room ≡ number) × IsKept c.new y (issued number id)) (sym (own x e)) (refl, subst (IsKept c.new (entered old caller number host most)) (sym none) (new_kept old caller number host most c.room c.new h i n b c.now));
      writer = λ small. subst (IsWriter c.new id) (sym none) (new_writer host id c.room c.new h i n b);
      valid = s.writes number id;
    })
    (last_id old) id (omega arith) (omega arith) s)

-- ---- the call

enter_rows : (row : Row) (table : Table) (told : Told) → (told ≡ made) ⊎ ((enter_outcome row table told).table ≡ table)
enter_rows row table (Ok Made) = inl refl
enter_rows row table (Ok NoFolder) = inr refl
enter_rows row table told = inr refl

enter_told : (old : State) (issued : Ledger) (caller number host most : ℕ) (tree : Tree) → IsRegular old → IsShaped old → old.store.tree ≡ Some tree → (number ≡ old.marks → ⊥) → host < 2 ^ 32 → next_id old < 2 ^ 64 → AreRight (last_id old) issued old.table tree
    → (told : Told) (after : Tree) → Tells (enter_step old number host) tree told after → AreRight (next_id old) issued (enter_outcome (entered old caller number host most) old.table told).table after
enter_told old issued caller number host most tree r shape is apart h i a told after t =
    let row : Row = entered old caller number host most in
    let c = create_told number (open_path host (next_id old)) tree told after t in
    let fresh : (x : Row) → row_of (next_id old) old.table.writers ≡ Some x → ⊥ = λ x e. omega (arith, drawn_by old r (next_id old) x e, row_of_id (next_id old) old.table.writers x e) in
    elim (enter_rows row old.table told) as (λ _. AreRight (next_id old) issued (enter_outcome row old.table told).table after) [
      | inl done ↦ subst (λ x. AreRight (next_id old) issued (enter_outcome row old.table x).table after) (sym done) (entry_made old issued caller number host most (old.table.writers ++ row ∷ []) tree after r shape is apart h i a (row_of_other-push old.table.writers row) (λ x e. added_row old.table.writers row x fresh e) (c.done done))
      | inr same ↦ subst (λ x. AreRight (next_id old) issued x after) (sym same) (elim c.either as (λ _. AreSound (next_id old) issued old.table.writers after) [
        | inl file ↦ entry_made old issued caller number host most old.table.writers tree after r shape is apart h i a (λ q other. refl) (λ x e. absurd (fresh x e)) file
        | inr stays ↦ subst (AreSound (next_id old) issued old.table.writers) (sym stays) (grown (last_id old) (next_id old) issued old.table.writers tree (omega arith) a)
      ])
    ]

drawn_accounted : (issued : Ledger) (old : State) → IsAccounted issued old → IsAccounted issued (drawn old)
drawn_accounted issued old a = record {
  tree = a.tree;
  told = a.told;
  right = (grown (last_id old) (next_id old) issued old.table.writers a.tree (omega arith) a.right);
}

-- Entering keeps soundness.
pub enter_keeps : (issued : Ledger) (old : State) (caller room host most : ℕ) (reply : Reply) (new : State) → IsRegular old → IsShaped old → Enters caller room host most old reply new → IsAccounted issued old → IsAccounted issued new
enter_keeps issued old caller room host most reply new r shape f a =
    unless_refused issued (draw_check old room) old reply new (EntersAs caller room host most old reply new) f a
    (λ none does.
    let c = may_enter old room none in
    let fits : next_id old < 2 ^ 64 = id_fits old.mount (old.serial + 1) r.mount_fits (omega (arith, c.1)) in
    makes_accounted (enter_step old room host) (enter_outcome (entered old caller room host most) old.table) (λ x. issued) (drawn old) reply new a.tree a.told
    (enter_told old issued caller room host most a.tree r shape a.told c.0 does.host_fits fits a.right) does.makes)
