-- What stands of flattenings, and of flattened indices, once one flattening has gone on.
use Rattle.std.proofs.Common.{◌≡◌, ◌+◌, ◌≤◌, ◌<◌, ◌^◌, ℕ, zero, suc, List, [], ◌++◌, length, drop, Some, refl, ap, sym, ◌∙◌, inl, inr, subst, arith}
use Rattle.std.specs.Prelude.{slice_get}
use Rattle.std.proofs.lemmas.Bool.{cases_eq}
use Rattle.std.proofs.lemmas.List.{append-nil}
use Rattle.container_layout.specs.declared.items.Item.TheVariants.{Flat, Index}
use Rattle.container_layout.specs.declared.items.Item.{Item}
use Rattle.container_layout.specs.Items.{IsItem}
use Rattle.container_layout.specs.Paths.{path_of}
use Rattle.container_layout.proofs.Facts.{same_items}
use Rattle.plfs_types.specs.Bytes.{overwritten}
use Rattle.store_api.specs.declared.tree.Room.{Room}
use Rattle.store_api.specs.declared.tree.Tree.{Tree}
use Rattle.store_laws.specs.Changes.{Moved}
use Rattle.store_laws.specs.Differ.{PathsDiffer}
use Rattle.store_laws.specs.Files.{file_at, kept_at, SameButFile}
use Rattle.store_laws.proofs.Facts.{path_cases}
use Rattle.mount_model.specs.declared.row.Flattening.{Flattening}
use Rattle.mount_model.specs.declared.row.Making.{Making}
use Rattle.mount_model.specs.declared.row.Making.TheVariants as making
use Rattle.mount_model.specs.Paths.{installed_item, installed_of, temporary_item, temporary_of}
use Rattle.mount_model.specs.State.{Table}
use Rattle.mount_model.specs.Table.{flattening_at}
use Rattle.mount_model.proofs.Facts.{flattening_at_id}
use Rattle.mount_sound.specs.Named.{FitsNames}
use Rattle.mount_sound.specs.Flats.{IsBegunIn, IsRightFor, IsFlatteningIn, AreRightFlats, AreBeingMade}
use Rattle.mount_sound.specs.Held.{AreHeld}
use Rattle.mount_sound.specs.Items.{HasItem}
use Rattle.mount_sound.proofs.Calls.Aside.{HasSoundFlats, one_room}
use Rattle.mount_sound.proofs.Indices.FlatPaths.{moved_to}
use Rattle.mount_sound.proofs.Indices.FlatRooms.{FlatChanged, being_made_still, but_moved, but_temporary, flat_held, flat_new, flat_other, index_still, right_still}
use Rattle.mount_sound.proofs.Soundness.Items.{apart}
use Rattle.mount_sound.proofs.Indices.Makings.{is_installed, is_temporary, right_as, two_kinds}

-- ---- a tree in which one flattening has gone on

-- the tables differ in the flattening of this id alone
pub record DiffersIn (id : ℕ) (old new : Table) : Type 0 where
  pub others : (q : ℕ) → (q ≡ id → ⊥) → flattening_at q new.flattenings ≡ flattening_at q old.flattenings
  pub holders : new.holders ≡ old.holders

module _ (tree : Tree) (n : ℕ) (makes : Making) (id : ℕ) (named : FitsNames makes) (small : id < 2 ^ 64) (after : Tree) (c : FlatChanged tree n makes id after) where
  -- what it becomes is right, if it is there, and so is what stands of it, if it is in the table
  pub record HoldsFlat (new : Table) : Type 0 where
    pub flat : (bytes : List ℕ) → HasItem c.new (installed_item makes id) bytes → IsRightFor c.new makes bytes × (length bytes ≤ kept_at c.new (installed_of makes id))
    pub own : (g : Flattening) → flattening_at id new.flattenings ≡ Some g → (g.room ≡ n) × IsFlatteningIn c.new g

  module _ (old new : Table) (d : DiffersIn id old new) (fits : (q : ℕ) (g : Flattening) → flattening_at q old.flattenings ≡ Some g → g.id < 2 ^ 64) (h : HoldsFlat new) (s : HasSoundFlats old tree) where
    right_here : (others : Making) (q : ℕ) (bytes : List ℕ) → HasItem c.new (installed_item others q) bytes → IsRightFor c.new others bytes × (length bytes ≤ kept_at c.new (installed_of others q))
    right_here others q bytes has = elim (path_cases (installed_of others q) (installed_of makes id)) as (λ _. IsRightFor c.new others bytes × (length bytes ≤ kept_at c.new (installed_of others q))) [
      | inl same ↦
          let items : installed_item others q ≡ installed_item makes id = same_items (installed_item others q) (installed_item makes id) has.is_item (is_installed makes id named small) same in
          let right = h.flat bytes (subst (λ i. HasItem c.new i bytes) items has) in
          (right_as c.new makes others id q bytes (sym items) right.0, omega (arith, right.1, ap (λ p. kept_at c.new p) same))
      | inr two ↦
          let not_it : installed_item others q ≡ installed_item makes id → ⊥ = λ e. two (ap (λ i. (path_of i).folder) e) (ap (λ i. (path_of i).file) e) in
          let not_temporary : installed_item others q ≡ temporary_item makes id → ⊥ = λ e. two_kinds makes others id q (sym e) in
          index_still makes id c.room c.new c.same others q bytes (c.same.files (installed_item others q) has.is_item not_temporary not_it) (c.same.kepts (installed_item others q) has.is_item not_temporary not_it) has (s.flats n c.room c.has_room others q)
    ]

    right_after : AreRightFlats after
    right_after number r there others q bytes has = elim (cases_eq number n) as (λ _. IsRightFor r others bytes × (length bytes ≤ kept_at r (installed_of others q))) [
      | inl same ↦
          let is : c.new ≡ r = one_room c.new r (slice_get after.rooms n) (flat_new tree n makes id after c) (ap (λ k. slice_get after.rooms k) (sym same) ∙ there) in
          subst (λ x. IsRightFor x others bytes × (length bytes ≤ kept_at x (installed_of others q))) is (right_here others q bytes (subst (λ x. HasItem x (installed_item others q) bytes) (sym is) has))
      | inr other ↦ s.flats number r (sym (flat_other tree n makes id after c number other) ∙ there) others q bytes has
    ]

    being_made_after : AreBeingMade new.flattenings after
    being_made_after q g e = elim (cases_eq q id) as (λ _. (room : Room) × (slice_get after.rooms g.room ≡ Some room) × IsFlatteningIn room g) [
      | inl same ↦
          let o = h.own g (subst (λ i. flattening_at i new.flattenings ≡ Some g) same e) in
          (c.new, ap (λ k. slice_get after.rooms k) o.0 ∙ flat_new tree n makes id after c, o.1)
      | inr other ↦
          let stood : flattening_at q old.flattenings ≡ Some g = sym (d.others q other) ∙ e in
          let was = s.flattenings q g stood in
          let another : g.id ≡ id → ⊥ = λ same. other (sym (flattening_at_id q old.flattenings g stood) ∙ same) in
          elim (cases_eq g.room n) as (λ _. (room : Room) × (slice_get after.rooms g.room ≡ Some room) × IsFlatteningIn room g) [
            | inl here ↦
                let is : was.0 ≡ c.room = one_room was.0 c.room (slice_get tree.rooms n) (ap (λ k. slice_get tree.rooms k) (sym here) ∙ was.1) c.has_room in
                (c.new, ap (λ k. slice_get after.rooms k) here ∙ flat_new tree n makes id after c, being_made_still makes id c.room c.new c.same g (fits q g stood) another (subst (λ x. IsFlatteningIn x g) is was.2))
            | inr there ↦ (was.0, flat_other tree n makes id after c g.room there ∙ was.1, was.2)
          ]
    ]

    -- What soundness says of flattenings holds after it.
    pub flat_goes_on : HasSoundFlats new after
    flat_goes_on = record {
      held = subst (λ hs. AreHeld hs after) (sym d.holders) (flat_held tree n makes id after c old.holders s.held);
      flats = right_after;
      flattenings = being_made_after;
    }

-- ---- the room in which it goes on

module _ (makes : Making) (id : ℕ) (room new : Room) (named : FitsNames makes) (fits : id < 2 ^ 64) (s : SameButFile (temporary_of makes id) room new) where
  -- what isn't the temporary file is as it was, if that alone has changed
  beside_file : (item : Item) → IsItem item → (item ≡ temporary_item makes id → ⊥) → file_at new (path_of item) ≡ file_at room (path_of item)
  beside_file item is other = s.files (path_of item) (apart item (temporary_item makes id) is (is_temporary makes id named fits) other)

  -- what was installed stays
  pub flat_beside : ((bytes : List ℕ) → HasItem room (installed_item makes id) bytes → IsRightFor room makes bytes × (length bytes ≤ kept_at room (installed_of makes id)))
      → (bytes : List ℕ) → HasItem new (installed_item makes id) bytes → IsRightFor new makes bytes × (length bytes ≤ kept_at new (installed_of makes id))
  flat_beside were bytes has =
      let other : installed_item makes id ≡ temporary_item makes id → ⊥ = λ e. two_kinds makes makes id id (sym e) in
      index_still makes id room new (but_temporary makes id room new named fits s) makes id bytes (beside_file (installed_item makes id) has.is_item other)
      (s.kepts (installed_of makes id) (apart (installed_item makes id) (temporary_item makes id) has.is_item (is_temporary makes id named fits) other)) has were

-- and what it began with
pub begun_beside : (makes : Making) (id : ℕ) (room new : Room) → FitsNames makes → id < 2 ^ 64 → SameButFile (temporary_of makes id) room new → IsBegunIn room makes id → IsBegunIn new makes id
begun_beside making.Flat id room new named fits s none = beside_file making.Flat id room new named fits s (Flat id) (is_installed making.Flat id tt fits) (λ e. two_kinds making.Flat making.Flat id id (sym e)) ∙ none
begun_beside (making.Pack host writer) id room new named fits s begun = (
  begun.0,
  record { is_item = begun.1.is_item; there = beside_file (making.Pack host writer) id room new named fits s (Index host writer) begun.1.is_item (λ e. cc) ∙ begun.1.there },
)

drop_none : (n : ℕ) → drop {A = ℕ} n [] ≡ []
drop_none zero = refl
drop_none (suc n) = refl

-- bytes over an empty file are all that it has
pub over_none : (bytes : List ℕ) → overwritten [] 0 bytes ≡ bytes
over_none bytes = ap (λ end. bytes ++ end) (drop_none (0 + length bytes)) ∙ append-nil bytes

-- a file that was moved to what it becomes is right there, where it was right and synced
pub flat_moved : (tree : Tree) (n : ℕ) (makes : Making) (id : ℕ) (after : Tree) → FitsNames makes → id < 2 ^ 64 → (c : Moved tree n (temporary_of makes id) (installed_of makes id).file after) → PathsDiffer c.room → IsRightFor c.room makes c.bytes → length c.bytes ≤ kept_at c.room (temporary_of makes id)
    → (bytes : List ℕ) → HasItem c.new (installed_item makes id) bytes → IsRightFor c.new makes bytes × (length bytes ≤ kept_at c.new (installed_of makes id))
flat_moved tree n makes id after named fits c differ right kept bytes has =
    let both : Some c.bytes ≡ Some bytes = sym (c.now differ) ∙ ap (λ p. file_at c.new p) (moved_to makes id) ∙ has.there in
    let is : c.bytes ≡ bytes = cc in
    subst (λ b. IsRightFor c.new makes b × (length b ≤ kept_at c.new (installed_of makes id))) is
    (right_still makes id c.room c.new (but_moved tree n makes id after named fits c) makes c.bytes right, omega (arith, kept, c.kept differ, ap (λ p. kept_at c.new p) (moved_to makes id)))
