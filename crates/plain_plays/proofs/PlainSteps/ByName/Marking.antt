-- What a truncate is told, by the names in its room's folders and by the mark.
use Rattle.std.proofs.Common.{◌≡◌, ◌⊎◌, ◌≤◌, ◌<◌, max, ℕ, Bool, true, false, nat_le, nat_lt, List, [], ◌∷◌, Some, None, Ok, Err, refl, ap, ◌∙◌, inl, inr, arith, if◌then◌else◌}
use Rattle.std.proofs.lemmas.Bool.Decides.{nat_tests}
use Rattle.plfs_types.specs.declared.entries.Trunc.{Trunc}
use Rattle.plfs_types.specs.declared.limits.TheConstants.{MAX_SIZE, MAX_STAMP}
use Rattle.plain_file.proofs.Facts.{Among}
use Rattle.container_layout.specs.declared.items.Item.TheVariants as item
use Rattle.container_layout.specs.Items.{IsItem}
use Rattle.store_api.specs.declared.step.Answer.TheVariants as answer
use Rattle.store_api.specs.declared.store.Trouble.TheVariants as trouble
use Rattle.mount_model.specs.declared.reply.Refusal.{Refusal}
use Rattle.mount_model.specs.declared.reply.Refusal.TheVariants as refusal
use Rattle.mount_model.specs.declared.reply.Reply.TheVariants.{Marked}
use Rattle.mount_model.specs.Holding.{truncate_check, truncate_outcome, truncate_stamp}
use Rattle.mount_model.specs.Making.{Told}
use Rattle.mount_model.specs.Paths.{Name, metadata, truncs}
use Rattle.mount_model.specs.State.{Table}
use Rattle.mount_model.specs.declared.names.Metadata.{Metadata}
use Rattle.mount_model.specs.FlowListed.{known}
use Rattle.mount_model.specs.Names.{meta_in, trunc_in}
use Rattle.trunc_rename.specs.Tops.{metadata_top, truncs_top}

-- ---- the greatest that names tell

pub metas_tell : (names : List Name) (start : ℕ) → ((name : Name) → Among name names → (x : Metadata) × (meta_in name ≡ Some x)) → (top : ℕ) × (metadata_top names start ≡ Ok top)
metas_tell [] start each = (start, refl)
metas_tell (name ∷ names) start each =
    let x = each name (inl refl) in
    let rest = metas_tell names (max start x.0.stamp) (λ other a. each other (inr a)) in
    (rest.0, ap (λ o. known metadata name o (λ (m : Metadata). metadata_top names (max start m.stamp))) x.1 ∙ rest.1)

pub truncs_tell : (names : List Name) (start : ℕ) → ((name : Name) → Among name names → (x : Trunc) × (trunc_in name ≡ Some x)) → (top : ℕ) × (truncs_top names start ≡ Ok top)
truncs_tell [] start each = (start, refl)
truncs_tell (name ∷ names) start each =
    let x = each name (inl refl) in
    let rest = truncs_tell names (max start x.0.stamp) (λ other a. each other (inr a)) in
    (rest.0, ap (λ o. known truncs name o (λ (t : Trunc). truncs_top names (max start t.stamp))) x.1 ∙ rest.1)

pub marked_told : (stamp size : ℕ) (table : Table) (told : Told) (k : ℕ) → Marked k ≡ (truncate_outcome stamp size table told).reply → (told ≡ Ok answer.Made) × (k ≡ stamp) × ((truncate_outcome stamp size table told).table ≡ table)
marked_told stamp size table (Ok answer.Made) k e = (refl, (let same : k ≡ stamp = cc in same), refl)
marked_told stamp size table (Ok answer.NoRoom) k e = absurd (cc)
marked_told stamp size table (Ok answer.NoFolder) k e = absurd (cc)
marked_told stamp size table (Ok other) k e = absurd (cc)
marked_told stamp size table (Err trouble.Fault) k e = absurd (cc)
marked_told stamp size table (Err trouble.NoMemory) k e = absurd (cc)

-- a truncate's item, where a stamp is left and the size is in its range
pub new_item : (time top size : ℕ) → nat_le MAX_STAMP top ≡ false → nat_lt MAX_SIZE size ≡ false → IsItem (item.Trunc (truncate_stamp time top) size)
new_item time top size left near =
    let less : top < MAX_STAMP = grind (arith, nat_tests, left) in
    let within : size ≤ MAX_SIZE = grind (arith, nat_tests, near) in
    record { in_range = record { stamped = omega arith; stamp_fits = omega (arith, less); size_fits = within }; widths = tt }

-- why a truncate is refused
pub check_why : (size top : ℕ) (reason : Refusal) → truncate_check size top ≡ Some reason → ((nat_lt MAX_SIZE size ≡ true) × (reason ≡ refusal.TooFar)) ⊎ ((nat_lt MAX_SIZE size ≡ false) × (nat_le MAX_STAMP top ≡ true) × (reason ≡ refusal.StampsSpent))
check_why size top reason e = by (nat_lt MAX_SIZE size) (nat_le MAX_STAMP top) refl refl e
  where
    by : (a b : Bool) → nat_lt MAX_SIZE size ≡ a → nat_le MAX_STAMP top ≡ b → (if a then Some refusal.TooFar else if b then Some refusal.StampsSpent else None) ≡ Some reason → ((nat_lt MAX_SIZE size ≡ true) × (reason ≡ refusal.TooFar)) ⊎ ((nat_lt MAX_SIZE size ≡ false) × (nat_le MAX_STAMP top ≡ true) × (reason ≡ refusal.StampsSpent))
    by true b x y f = inl (x, (let same : reason ≡ refusal.TooFar = cc in same))
    by false true x y f = inr (x, y, (let same : reason ≡ refusal.StampsSpent = cc in same))
    by false false x y f = absurd (cc)

pub check_none : (size top : ℕ) → truncate_check size top ≡ None → (nat_lt MAX_SIZE size ≡ false) × (nat_le MAX_STAMP top ≡ false)
check_none size top e = by (nat_lt MAX_SIZE size) (nat_le MAX_STAMP top) refl refl e
  where
    by : (a b : Bool) → nat_lt MAX_SIZE size ≡ a → nat_le MAX_STAMP top ≡ b → (if a then Some refusal.TooFar else if b then Some refusal.StampsSpent else None) ≡ None → (nat_lt MAX_SIZE size ≡ false) × (nat_le MAX_STAMP top ≡ false)
    by true b x y f = absurd (cc)
    by false true x y f = absurd (cc)
    by false false x y f = (x, y)
