-- A change of a room that leaves every writer's files there, and the truncates, leaves soundness.
use Rattle.std.proofs.Common.{◌≡◌, ◌<◌, ◌^◌, ℕ, List, [], Some, None, sym, ◌∙◌, inl, inr, subst}
use Rattle.std.specs.Prelude.{slice_get, slice_set}
use Rattle.std.proofs.lemmas.Bool.{cases_eq}
use Rattle.store_api.specs.declared.tree.Room.{Room}
use Rattle.store_api.specs.declared.tree.Tree.{Tree}
use Rattle.container_layout.specs.declared.items.Item.TheVariants.{Trunc}
use Rattle.container_layout.specs.Items.{IsItem}
use Rattle.container_layout.specs.Paths.{path_of}
use Rattle.store_laws.specs.Files.{file_at}
use Rattle.store_laws.specs.Changes.{with_room}
use Rattle.store_laws.proofs.Facts.{slice_get-slice_set, slice_get_other-slice_set}
use Rattle.mount_model.specs.declared.row.Row.{Row}
use Rattle.mount_model.specs.Table.{row_of}
use Rattle.mount_model.proofs.Facts.{row_of_id}
use Rattle.mount_sound.specs.Dropping.{IsWriter}
use Rattle.mount_sound.specs.Kept.{IsKept}
use Rattle.mount_sound.specs.Ledger.{Ledger}
use Rattle.mount_sound.specs.Sound.{IsSoundRoom, AreSound}
use Rattle.mount_sound.proofs.Soundness.Items.{SameFor}
use Rattle.mount_sound.proofs.Soundness.Frames.{writer_frame, kept_frame, truncates_frame}
use Rattle.mount_sound.proofs.Soundness.Local.{AllFit, some_room, no_room, in_new}

-- ---- where a room changes and stays sound by itself

module _ (number : ℕ) (room new : Room) (issued : Ledger) (rows : List Row) (tree : Tree) (there : slice_get tree.rooms number ≡ Some room) where
  -- the others are as they were
  pub one_sound : (last : ℕ) → (IsSoundRoom (issued number) rows number room → IsSoundRoom (issued number) rows number new) → AreSound last issued rows tree → AreSound last issued rows (with_room tree number new)
  one_sound last here s = record {
    rooms = λ m r e. elim (cases_eq m number) as (λ _. IsSoundRoom (issued m) rows m r) [
      | inl same ↦
          let is : new ≡ r = some_room new r (slice_get (slice_set tree.rooms number new) number) (slice_get-slice_set tree.rooms number room new there) (subst (λ n. slice_get (slice_set tree.rooms number new) n ≡ Some r) same e) in
          subst (λ n. IsSoundRoom (issued n) rows n r) (sym same) (subst (IsSoundRoom (issued number) rows number) is (here (s.rooms number room there)))
      | inr other ↦ s.rooms m r (sym (slice_get_other-slice_set tree.rooms number m new other) ∙ e)
    ];
    writes = s.writes;
    placed = λ id row e. in_new tree number room new there row.room (s.placed id row e);
    fresh = s.fresh;
    roomless = λ m q e. elim (cases_eq m number) as (λ _. issued m q ≡ []) [
      | inl same ↦ absurd (no_room new (slice_get (slice_set tree.rooms number new) number) (slice_get-slice_set tree.rooms number room new there) (subst (λ n. slice_get (slice_set tree.rooms number new) n ≡ None) same e))
      | inr other ↦ s.roomless m q (sym (slice_get_other-slice_set tree.rooms number m new other) ∙ e)
    ];
  }

  same_here : AllFit rows → ((q : ℕ) → SameFor q room new) → IsSoundRoom (issued number) rows number room → IsSoundRoom (issued number) rows number new
  same_here fit same s = record {
    writers = λ w fits. writer_frame room new w (issued number w) fits (same w) (s.writers w fits);
    kept = λ q x e at. kept_frame x room new (issued number q) (fit q x e) (same x.id) (s.kept q x e at);
    truncates = truncates_frame room new (same 0).truncates s.truncates;
  }

  -- of every writer the room has the same
  pub room_frame : (last : ℕ) → AllFit rows → ((q : ℕ) → SameFor q room new) → AreSound last issued rows tree → AreSound last issued rows (with_room tree number new)
  room_frame last fit same s = one_sound last (same_here fit same) s

  -- What the room holds then of one writer, where of the others it has the same.
  pub record HoldsWriter (id : ℕ) : Type 0 where
    pub files : (q : ℕ) → (q ≡ id → ⊥) → SameFor q room new
    pub truncates : (stamp size : ℕ) → IsItem (Trunc stamp size) → file_at new (path_of (Trunc stamp size)) ≡ file_at room (path_of (Trunc stamp size))
    pub writer : id < 2 ^ 64 → IsWriter new id (issued number id)
    pub kept : (row : Row) → row_of id rows ≡ Some row → row.room ≡ number → IsKept new row (issued number id)

  writer_here : (id : ℕ) → AllFit rows → HoldsWriter id → IsSoundRoom (issued number) rows number room → IsSoundRoom (issued number) rows number new
  writer_here id fit h s = record {
    writers = λ w fits. elim (cases_eq w id) as (λ _. IsWriter new w (issued number w)) [
      | inl same ↦ subst (λ q. IsWriter new q (issued number q)) (sym same) (h.writer (subst (λ q. q < 2 ^ 64) same fits))
      | inr other ↦ writer_frame room new w (issued number w) fits (h.files w other) (s.writers w fits)
    ];
    kept = λ q x e at. elim (cases_eq q id) as (λ _. IsKept new x (issued number q)) [
      | inl same ↦ subst (λ w. IsKept new x (issued number w)) (sym same) (h.kept x (subst (λ w. row_of w rows ≡ Some x) same e) at)
      | inr other ↦ kept_frame x room new (issued number q) (fit q x e) (subst (λ w. SameFor w room new) (sym (row_of_id q rows x e)) (h.files q other)) (s.kept q x e at)
    ];
    truncates = truncates_frame room new h.truncates s.truncates;
  }

  -- one writer's files changed, and what the room holds of it is right
  pub writer_sound : (last id : ℕ) → AllFit rows → HoldsWriter id → AreSound last issued rows tree → AreSound last issued rows (with_room tree number new)
  writer_sound last id fit h s = one_sound last (writer_here id fit h) s
