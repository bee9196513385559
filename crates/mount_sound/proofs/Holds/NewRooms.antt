-- Making a container keeps soundness.
use Rattle.std.proofs.Common.{◌≡◌, ℕ, zero, suc, List, [], ◌∷◌, ◌++◌, length, Option, Some, None, Bool, false, nat_eq, refl, ap, sym, ◌∙◌, inl, inr, subst, arith}
use Rattle.std.specs.Prelude.{slice_get, Ok, if◌then◌else◌, ◌&&◌}
use Rattle.std.proofs.lemmas.Bool.{cases_eq}
use Rattle.std.proofs.lemmas.Bool.Decides.{nat_tests}
use Rattle.container_layout.specs.declared.items.Item.{Item}
use Rattle.container_layout.specs.declared.items.Item.TheVariants.{OpenHost, Meta, Trunc, Index}
use Rattle.container_layout.specs.Paths.{path_of, hostdir_of}
use Rattle.store_api.specs.declared.step.Answer.TheVariants.{Number, Old}
use Rattle.store_api.specs.declared.tree.Room.{Room}
use Rattle.store_api.specs.declared.tree.Tree.{Tree}
use Rattle.store_api.specs.Step.{make_room}
use Rattle.store_api.specs.Room.{is_top}
use Rattle.store_laws.specs.Files.{file_at}
use Rattle.store_laws.specs.Differ.{is_listed}
use Rattle.store_laws.specs.Changes.{RoomMade}
use Rattle.store_laws.proofs.Facts.{slice_get_before, slice_get_more, make_room_told}
use Rattle.mount_model.specs.declared.row.Row.{Row}
use Rattle.mount_model.specs.declared.reply.Reply.{Reply}
use Rattle.mount_model.specs.Finding.{make_outcome, MakesContainer}
use Rattle.mount_model.specs.Making.{Told}
use Rattle.mount_model.specs.Paths.{Name, new_folders, new_files, index_path}
use Rattle.mount_model.specs.State.{State, Table, last_id}
use Rattle.mount_sound.specs.Items.{HasItem, HasItemOf}
use Rattle.mount_sound.specs.Ledger.{Ledger}
use Rattle.mount_sound.specs.Dropping.{log_bytes, IsDropping, IsWriter}
use Rattle.mount_sound.specs.Sound.{TruncatesDiffer, IsSoundRoom, AreSound}
use Rattle.mount_sound.proofs.Writers.Entering.{no_file_landed}
use Rattle.mount_sound.proofs.Calls.Making.{AreRight, IsAccounted, makes_accounted}

-- ---- a room without items

-- no file of the room is in a folder
pub record IsBare (room : Room) : Type 0 where
  pub none : (item : Item) → is_top (path_of item).folder ≡ false → file_at room (path_of item) ≡ None

pub no_item : (room : Room) (item : Item) (bytes : List ℕ) → IsBare room → is_top (path_of item).folder ≡ false → HasItem room item bytes → ⊥
no_item room item bytes bare below h = let e = bare.none item below in let f = h.there in cc

positive : (n : ℕ) → nat_eq (suc n) 0 ≡ false
positive n = grind (arith, nat_tests)

pub hostdir_below : (host : ℕ) → is_top (hostdir_of host) ≡ false
hostdir_below host = positive _

no_items : (room : Room) (host writer : ℕ) → IsBare room → HasItemOf room host writer → ⊥
no_items room host writer bare (inl i) = no_item room (Index host writer) i.0 bare (hostdir_below host) i.1
no_items room host writer bare (inr (inl i)) = no_item room (OpenHost host writer) i.0 bare refl i.1
no_items room host writer bare (inr (inr m)) = no_item room (Meta m.last m.bytes m.stamp host writer) m.content bare refl m.has

bare_writer : (room : Room) (writer : ℕ) → IsBare room → IsWriter room writer []
bare_writer room writer bare = record {
  host = 0;
  host_fits = omega arith;
  one_host = λ other h. absurd (no_items room other writer bare h);
  landed = 0;
  within = omega arith;
  index = no_file_landed (file_at room (index_path 0 writer)) 0 (IsDropping writer [] 0 (length (log_bytes room 0 writer))) (bare.none (Index 0 writer) (hostdir_below 0)) refl;
  log = tt;
  left = λ gone some. absurd (omega arith);
  told = λ last bytes stamp inside h. absurd (no_item room (Meta last bytes stamp 0 writer) inside bare refl h);
  settled = λ m. absurd (no_item room (Meta m.last m.bytes m.stamp 0 writer) m.content bare refl m.has);
  beside = λ stamp size inside h. inl tt;
}

bare_truncates : (room : Room) → IsBare room → TruncatesDiffer room
bare_truncates room bare stamp size other a b has_a has_b = absurd (no_item room (Trunc stamp size) a bare refl has_a)

not_top : (b l : Bool) (inside outside : Option (List ℕ)) → b ≡ false → (if b && l then inside else outside) ≡ outside
not_top b l inside outside e = rw e refl

pub made_bare : (tree : Tree) (name : Name) (folders files : List Name) (after : Tree) (m : RoomMade tree name folders files after) → IsBare m.new
made_bare tree name folders files after m = record {
  none = λ item below. m.has_files (path_of item) ∙ not_top (is_top (path_of item).folder) (is_listed (path_of item).file files) (Some []) None below;
}

-- ---- the tree with one more room

past : {X : Type 0} (xs : List X) → slice_get xs (length xs) ≡ None
past [] = refl
past (x ∷ xs) = past xs

absent_before : {X : Type 0} (xs : List X) (i : ℕ) (y : X) → slice_get (xs ++ y ∷ []) i ≡ None → slice_get xs i ≡ None
absent_before [] i y e = refl
absent_before (x ∷ xs) zero y e = absurd (cc)
absent_before (x ∷ xs) (suc i) y e = absent_before xs i y e

no_room : (room : Room) (o : Option Room) → o ≡ Some room → o ≡ None → ⊥
no_room room o p q = cc

pub more : (last : ℕ) (issued : Ledger) (rows : List Row) (tree : Tree) (new : Room) → IsBare new → AreSound last issued rows tree → AreSound last issued rows (record { rooms = tree.rooms ++ new ∷ [] })
more last issued rows tree new bare s = record {
  rooms = λ m r e.
      let g = slice_get_more tree.rooms m r new e in
      elim (cases_eq m (length tree.rooms)) as (λ _. IsSoundRoom (issued m) rows m r) [
        | inl at ↦
            let none : slice_get tree.rooms m ≡ None = ap (λ i. slice_get tree.rooms i) at ∙ past tree.rooms in
            subst (IsSoundRoom (issued m) rows m) (sym (g.0 at)) (record {
              writers = λ w fits. subst (IsWriter new w) (sym (s.roomless m w none)) (bare_writer new w bare);
              kept = λ q x f there. let p = s.placed q x f in absurd (no_room p.0 (slice_get tree.rooms m) (ap (λ i. slice_get tree.rooms i) (sym there) ∙ p.1) none);
              truncates = bare_truncates new bare;
            })
        | inr other ↦ s.rooms m r (g.1 other)
      ];
  writes = s.writes;
  placed = λ q x f. let p = s.placed q x f in (p.0, slice_get_before tree.rooms x.room p.0 new p.1);
  fresh = s.fresh;
  roomless = λ m q e. s.roomless m q (absent_before tree.rooms m new e);
}

-- ---- the call

make_rows : (table : Table) (told : Told) → (make_outcome table told).table ≡ table
make_rows table (Ok (Number n)) = refl
make_rows table (Ok (Old n)) = refl
make_rows table told = refl

-- Making a container keeps soundness.
pub container_keeps : (issued : Ledger) (old : State) (name : Name) (reply : Reply) (new : State) → MakesContainer name old reply new → IsAccounted issued old → IsAccounted issued new
container_keeps issued old name reply new f a =
    makes_accounted (make_room name new_folders new_files) (make_outcome old.table) (λ x. issued) old reply new a.tree a.told
    (λ told after t.
    let c = make_room_told name new_folders new_files a.tree told after t in
    subst (λ x. AreRight (last_id old) issued x after) (sym (make_rows old.table told)) (elim c.either as (λ _. AreSound (last_id old) issued old.table.writers after) [
      | inl m ↦ subst (AreSound (last_id old) issued old.table.writers) (sym m.gives) (more (last_id old) issued old.table.writers a.tree m.new (made_bare a.tree name new_folders new_files after m) a.right)
      | inr stays ↦ subst (AreSound (last_id old) issued old.table.writers) (sym stays) a.right
    ]))
    f.makes
