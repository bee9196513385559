-- What is found of entries, of metadata and of indices is of their files.
use Rattle.std.proofs.Common.{◌≡◌, ℕ, inl, inr, List, Some, Result, Ok, Err, refl, ap, sym, ◌∙◌, subst}
use Rattle.std.specs.Prelude.{IfErr}
use Rattle.std.specs.BTreeMap.{BTreeMap}
use Rattle.plfs_types.specs.declared.entries.Entry.{Entry}
use Rattle.plfs_types.specs.declared.entries.Trunc.{Trunc}
use Rattle.plfs_types.specs.declared.names.Path.{Path}
use Rattle.flat_format.specs.declared.flat.Flat.{Flat}
use Rattle.flat_format.specs.Spelling.{SpellsFlat}
use Rattle.store_api.specs.declared.tree.Room.{Room}
use Rattle.store_api.specs.Acts.{Stored}
use Rattle.mount_sound.specs.Dropping.{bytes_of}
use Rattle.mount_model.specs.Paths.{Name, index_path}
use Rattle.shape_check.specs.declared.files.Place.{Place}
use Rattle.shape_check.specs.declared.finding.Complaint.{Complaint}
use Rattle.shape_check.specs.declared.finding.Finding.{Finding}
use Rattle.shape_check.specs.declared.finding.Finding.TheVariants.{NoMemory}
use Rattle.shape_check.specs.Rightness.{IsFoundIn, IsNoComplaint}
use Rattle.shape_check.proofs.Facts.{found_by, memory_found, unbroken_found}
use Rattle.tree_check.specs.declared.droppings.Dropping.{Dropping}
use Rattle.tree_check.specs.declared.droppings.Left.{Left}
use Rattle.tree_check.specs.declared.owners.Owner.{Owner}
use Rattle.tree_check.specs.Concerning.{IsOfCover, IsOfCovered, IsOfEntries, IsOfFile, IsOfFlat, IsOfLeft}
use Rattle.tree_check.specs.Droppings.{IsBetween, IsLeftWrong}
use Rattle.tree_check.specs.Entries.{IsMisfit}
use Rattle.tree_check.specs.Indices.{FindsOwned, IsDecoded}
use Rattle.tree_check.proofs.FlatLemmas.{IsRead}

misfit_so : (room : Name) (path : Path) (writer : ℕ) (entries : List Entry) (finding : Finding) → IsMisfit room path writer entries finding → IsFoundIn room (IsOfEntries path) finding
misfit_so room path writer entries finding (inl entry) = subst (IsFoundIn room (IsOfEntries path)) (sym entry.1) (refl, (refl, refl))
misfit_so room path writer entries finding (inr long) = subst (IsFoundIn room (IsOfEntries path)) (sym long.0) (refl, (refl, refl))

pub misfit_named : {A : Type 0} (room : Name) (path : Path) (writer : ℕ) (entries : List Entry) (result : Result A Finding) → IfErr result (IsMisfit room path writer entries) → IfErr result (IsFoundIn room (IsOfEntries path))
misfit_named room path writer entries (Ok value) wrong = tt
misfit_named room path writer entries (Err finding) wrong = misfit_so room path writer entries finding wrong

pub between_named : {A : Type 0} (room : Name) (host writer : ℕ) (entries : List Entry) (truncs : List Trunc) (result : Result A Finding) → IfErr result (IsBetween room host writer entries truncs) → IfErr result (IsFoundIn room (IsOfFile (index_path host writer)))
between_named room host writer entries truncs (Ok value) wrong = tt
between_named room host writer entries truncs (Err finding) wrong = subst (IsFoundIn room (IsOfFile (index_path host writer))) (sym wrong.2) (refl, refl)

left_so : (room : Name) (path : Path) (left : Left) (dropping : Dropping) (finding : Finding) → IsLeftWrong room path left dropping finding → IsFoundIn room (IsOfLeft path left.host left.writer) finding
left_so room path left dropping finding (inl untrue) = subst (IsFoundIn room (IsOfLeft path left.host left.writer)) (sym untrue.0) (refl, inl refl)
left_so room path left dropping finding (inr unsettled) = subst (IsFoundIn room (IsOfLeft path left.host left.writer)) (sym unsettled.0) (refl, inr refl)

pub left_named : {A : Type 0} (room : Name) (path : Path) (left : Left) (dropping : Dropping) (result : Result A Finding) → IfErr result (IsLeftWrong room path left dropping) → IfErr result (IsFoundIn room (IsOfLeft path left.host left.writer))
left_named room path left dropping (Ok value) wrong = tt
left_named room path left dropping (Err finding) wrong = left_so room path left dropping finding wrong

-- ---- a flattened index

module _ (place : Place) (owners : BTreeMap ℕ Owner) (path : Path) where
  pub unbroken_owned : {A : Type 0} (R : Room → Complaint → Type 0) (old : Stored) (result : Result A Finding) → IfErr result IsNoComplaint → IfErr result (FindsOwned R place owners path old)
  unbroken_owned R old (Ok value) none = tt
  unbroken_owned R old (Err finding) none = λ tree seen at. unbroken_found place.name (R at.owned.placed.room) finding none

  pub memory_owned : {A : Type 0} (R : Room → Complaint → Type 0) (old : Stored) (result : Result A Finding) → IfErr result (λ finding. finding ≡ NoMemory) → IfErr result (FindsOwned R place owners path old)
  memory_owned R old (Ok value) none = tt
  memory_owned R old (Err finding) none = λ tree seen at. memory_found place.name (R at.owned.placed.room) finding none

  -- what is found of a writer that is covered is found of the index
  pub covered_owned : {A : Type 0} (old : Stored) (bytes : List ℕ) (flat : Flat) (result : Result A Finding) → IsRead place path bytes old → IsDecoded bytes (Some flat) → IfErr result (IsFoundIn place.name (IsOfCover flat.covers))
      → IfErr result (FindsOwned (IsOfCovered path) place owners path old)
  covered_owned old bytes flat (Ok value) read decoded found = tt
  covered_owned old bytes flat (Err finding) read (valid, spells, only) found = λ tree seen at. (
      let same : at.bytes ≡ bytes = sym (ap bytes_of at.there) ∙ read tree seen at.owned.placed in
      found_by place.name (IsOfCover flat.covers) (IsOfCovered path at.owned.placed.room)
      (λ complaint of. record {
        bytes = at.bytes;
        there = at.there;
        flat = flat;
        valid = valid;
        spells = subst (λ (l : List ℕ). SpellsFlat l flat) (sym same) spells;
        covered = of;
      })
      finding found)

  pub flat_owned : {A : Type 0} (old : Stored) (result : Result A Finding) → IfErr result (FindsOwned (IsOfCovered path) place owners path old) → IfErr result (FindsOwned (IsOfFlat path) place owners path old)
  flat_owned old (Ok value) found = tt
  flat_owned old (Err finding) found = λ tree seen at.
      found_by place.name (IsOfCovered path at.owned.placed.room) (IsOfFlat path at.owned.placed.room) (λ complaint of. inr of) finding (found tree seen at)
