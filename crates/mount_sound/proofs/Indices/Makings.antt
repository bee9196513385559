-- The items of a flattening: its temporary file, and what that becomes.
use Rattle.std.proofs.Common.{◌≡◌, ◌<◌, ◌^◌, ℕ, List, None, refl, subst}
use Rattle.container_layout.specs.declared.items.Item.TheVariants.{Trunc, Flat, TmpFlat, Packed, TmpPacked}
use Rattle.container_layout.specs.Items.{IsItem}
use Rattle.store_api.specs.declared.tree.Room.{Room}
use Rattle.mount_model.specs.declared.row.Making.{Making}
use Rattle.mount_model.specs.declared.row.Making.TheVariants as making
use Rattle.mount_model.specs.Paths.{installed_item, temporary_item}
use Rattle.mount_sound.specs.Named.{FitsNames}
use Rattle.mount_sound.specs.Flats.{IsBegunIn, IsRightFor, IsRightPack}
use Rattle.mount_sound.proofs.Soundness.Items.{owner}

pub is_temporary : (makes : Making) (id : ℕ) → FitsNames makes → id < 2 ^ 64 → IsItem (temporary_item makes id)
is_temporary making.Flat id named fits = record { in_range = tt; widths = fits }
is_temporary (making.Pack host writer) id named fits = record { in_range = tt; widths = (named.host_fits, fits) }

pub is_installed : (makes : Making) (id : ℕ) → FitsNames makes → id < 2 ^ 64 → IsItem (installed_item makes id)
is_installed making.Flat id named fits = record { in_range = tt; widths = fits }
is_installed (making.Pack host writer) id named fits = record { in_range = tt; widths = (named.host_fits, named.writer_fits) }

-- the numbers of a flattening that stands in its room fit its names
pub named_of : (room : Room) (makes : Making) (id : ℕ) → IsBegunIn room makes id → FitsNames makes
named_of room making.Flat id begun = tt
named_of room (making.Pack host writer) id begun = record { host_fits = begun.1.is_item.widths.0; writer_fits = begun.1.is_item.widths.1 }

-- no writer owns them
pub temporary_unowned : (makes : Making) (id : ℕ) → owner (temporary_item makes id) ≡ None
temporary_unowned making.Flat id = refl
temporary_unowned (making.Pack host writer) id = refl

pub installed_unowned : (makes : Making) (id : ℕ) → owner (installed_item makes id) ≡ None
installed_unowned making.Flat id = refl
installed_unowned (making.Pack host writer) id = refl

-- temporary files differ by their ids
pub one_temporary : (makes others : Making) (a b : ℕ) → temporary_item makes a ≡ temporary_item others b → a ≡ b
one_temporary making.Flat making.Flat a b e = ids a b e
  where
    ids : (x y : ℕ) → TmpFlat x ≡ TmpFlat y → x ≡ y
    ids x y same = cc
one_temporary making.Flat (making.Pack host writer) a b e = absurd (cc)
one_temporary (making.Pack host writer) making.Flat a b e = absurd (cc)
one_temporary (making.Pack host writer) (making.Pack other w) a b e = ids host other a b e
  where
    ids : (h k x y : ℕ) → TmpPacked h x ≡ TmpPacked k y → x ≡ y
    ids h k x y same = cc

-- a temporary file is nothing that was installed
pub two_kinds : (makes others : Making) (a b : ℕ) → temporary_item makes a ≡ installed_item others b → ⊥
two_kinds making.Flat making.Flat a b e = cc
two_kinds making.Flat (making.Pack host writer) a b e = cc
two_kinds (making.Pack host writer) making.Flat a b e = cc
two_kinds (making.Pack host writer) (making.Pack other w) a b e = cc

pub trunc_no_temporary : (stamp size : ℕ) (makes : Making) (id : ℕ) → Trunc stamp size ≡ temporary_item makes id → ⊥
trunc_no_temporary stamp size making.Flat id e = cc
trunc_no_temporary stamp size (making.Pack host writer) id e = cc

pub trunc_no_installed : (stamp size : ℕ) (makes : Making) (id : ℕ) → Trunc stamp size ≡ installed_item makes id → ⊥
trunc_no_installed stamp size making.Flat id e = cc
trunc_no_installed stamp size (making.Pack host writer) id e = cc

-- flattened indices differ by their ids
pub one_flat : (id : ℕ) (makes : Making) (other : ℕ) → Flat id ≡ installed_item makes other → id ≡ other
one_flat id making.Flat other e = ids id other e
  where
    ids : (x y : ℕ) → Flat x ≡ Flat y → x ≡ y
    ids x y same = cc
one_flat id (making.Pack host writer) other e = absurd (cc)

-- what is one installed item is right for one room
pub right_as : (room : Room) (makes others : Making) (a b : ℕ) (bytes : List ℕ) → installed_item makes a ≡ installed_item others b → IsRightFor room makes bytes → IsRightFor room others bytes
right_as room making.Flat making.Flat a b bytes e r = r
right_as room making.Flat (making.Pack host writer) a b bytes e r = absurd (cc)
right_as room (making.Pack host writer) making.Flat a b bytes e r = absurd (cc)
right_as room (making.Pack host writer) (making.Pack other w) a b bytes e r =
    subst (λ x. IsRightPack room x w bytes) (hosts host writer other w e) (subst (λ x. IsRightPack room host x bytes) (writers host writer other w e) r)
  where
    hosts : (h x k y : ℕ) → Packed h x ≡ Packed k y → h ≡ k
    hosts h x k y same = cc

    writers : (h x k y : ℕ) → Packed h x ≡ Packed k y → x ≡ y
    writers h x k y same = cc
