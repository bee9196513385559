-- Lists in the order of a number.
use Rattle.std.specs.Prelude.{ℕ, nat_le, if◌then◌else◌, List, [], ◌∷◌}
use Rattle.plfs_types.specs.declared.entries.Trunc.{Trunc}
use Rattle.mount_model.specs.declared.names.Metadata.{Metadata}
use Rattle.mount_model.specs.declared.names.OpenEntry.{OpenEntry}

-- the item before the first one whose number is not less
abbrev pub put_by : {A : Type 0} → (A → ℕ) → A → List A → List A
put_by number a [] = a ∷ []
put_by number a (b ∷ bs) = if nat_le (number a) (number b) then a ∷ b ∷ bs else b ∷ put_by number a bs

-- the items by rising numbers, those of one number in the order that they have
abbrev pub ordered_by : {A : Type 0} → (A → ℕ) → List A → List A
ordered_by number [] = []
ordered_by number (a ∷ rest) = put_by number a (ordered_by number rest)

abbrev pub metadata_by_writer : List Metadata → List Metadata
metadata_by_writer metas = ordered_by (λ (m : Metadata). m.writer) metas

abbrev pub entries_by_writer : List OpenEntry → List OpenEntry
entries_by_writer entries = ordered_by (λ (e : OpenEntry). e.writer) entries

-- by rising stamp, and at one stamp by rising size
abbrev pub truncs_by_stamp : List Trunc → List Trunc
truncs_by_stamp truncs = ordered_by (λ (t : Trunc). t.stamp) (ordered_by (λ (t : Trunc). t.size) truncs)
