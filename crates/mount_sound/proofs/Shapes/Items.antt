-- Where items stand, and what their files may hold.
use Rattle.std.proofs.Common.{◌≡◌, ℕ, ◌%◌, ◌<◌, ◌^◌, List, [], ◌∷◌, ◌++◌, refl, ap, inr, subst, arith}
use Rattle.std.specs.Prelude.{codes}
use Rattle.std.specs.Fmt.{decimal}
use Rattle.plfs_types.specs.declared.names.Path.{Path}
use Rattle.container_layout.specs.declared.items.Item.{Item}
use Rattle.container_layout.specs.declared.items.Item.TheVariants.{Access, OpenHost, Meta, Trunc, Flat, TmpFlat, Index, Log, Packed, TmpPacked}
use Rattle.container_layout.specs.Items.{IsMetaRange, IsTruncRange}
use Rattle.container_layout.specs.Paths.{path_of, IsAt, hostdir_of}
use Rattle.container_layout.proofs.Facts.{elsewhere, first_of_folder, one_item}
use Rattle.store_api.specs.declared.tree.Room.{Room}
use Rattle.store_laws.specs.Files.{AreTwo}
use Rattle.store_laws.specs.Prefix.{IsPrefix}
use Rattle.store_laws.specs.Changes.{beside}
use Rattle.mount_model.specs.declared.row.Making.{Making}
use Rattle.mount_model.specs.declared.row.Making.TheVariants as making
use Rattle.mount_model.specs.Paths.{Name, access_path, open_path, index_path, log_path, meta_path, trunc_path, flat_path, temporary_item, temporary_of, installed_of}
use Rattle.mount_model.specs.Recovering.{IsHostAndWriter}
use Rattle.mount_model.specs.State.{id_of}
use Rattle.mount_sound.specs.Container.{IsContainerFolder, MayHold, IsOfId, IsItemFile}
use Rattle.mount_sound.specs.Named.{FitsNames}

-- ids have 64 bits
pub id_fits : (mount serial : ℕ) → mount < 2 ^ 32 → serial < 2 ^ 32 → id_of mount serial < 2 ^ 64
id_fits mount serial m s = omega arith

pub access_is_at : IsAt access_path Access
access_is_at = record { is_item = record { in_range = tt; widths = tt }; printed = refl }

pub open_is_at : (host writer : ℕ) → host < 2 ^ 32 → writer < 2 ^ 64 → IsAt (open_path host writer) (OpenHost host writer)
open_is_at host writer h w = record { is_item = record { in_range = tt; widths = (h, w) }; printed = refl }

pub index_is_at : (host writer : ℕ) → host < 2 ^ 32 → writer < 2 ^ 64 → IsAt (index_path host writer) (Index host writer)
index_is_at host writer h w = record { is_item = record { in_range = tt; widths = (h, w) }; printed = refl }

pub log_is_at : (host writer : ℕ) → host < 2 ^ 32 → writer < 2 ^ 64 → IsAt (log_path host writer) (Log host writer)
log_is_at host writer h w = record { is_item = record { in_range = tt; widths = (h, w) }; printed = refl }

pub meta_is_at : (last bytes stamp host writer : ℕ) → IsMetaRange last bytes stamp → host < 2 ^ 32 → writer < 2 ^ 64 → IsAt (meta_path last bytes stamp host writer) (Meta last bytes stamp host writer)
meta_is_at last bytes stamp host writer r h w = record { is_item = record { in_range = r; widths = (h, w) }; printed = refl }

pub trunc_is_at : (stamp size : ℕ) → IsTruncRange stamp size → IsAt (trunc_path stamp size) (Trunc stamp size)
trunc_is_at stamp size r = record { is_item = record { in_range = r; widths = tt }; printed = refl }

-- the file `access` is no other item, so that it holds nothing
pub access_holds : (path : Path) (item : Item) (bytes : List ℕ) → IsAt path item → MayHold item bytes → access_path ≡ path → bytes ≡ []
access_holds path item bytes at holds same =
    let also : IsAt path Access = subst (λ p. IsAt p Access) same access_is_at in
    subst (λ i. MayHold i bytes) (one_item path item Access at also) holds

-- an entry in the folder of open writers is not `access`
pub open_apart : (host writer : ℕ) → AreTwo access_path (open_path host writer)
open_apart host writer folder file = cc

remainder : (host : ℕ) → (host % 32 < 32) × (host % 32 ≡ (host % 32) % 32)
remainder host = (omega arith, omega arith)

-- the folder of a host's droppings is one that a container may have
pub hostdir_is_folder : (host : ℕ) → IsContainerFolder (hostdir_of host)
hostdir_is_folder host = let r = remainder host in inr (inr (inr (inr (inr (host % 32, r.0, ap (λ n. codes "hostdir." ++ decimal n) r.1)))))

-- ---- what a file may hold

pub empty_front : (front bytes : List ℕ) → IsPrefix front bytes → bytes ≡ [] → front ≡ []
empty_front [] bytes p e = refl
empty_front (x ∷ front) [] p e = absurd p
empty_front (x ∷ front) (y ∷ bytes) p e = absurd (cc)

-- what an item may hold, it may lose
pub may_lose : (item : Item) (front bytes : List ℕ) → IsPrefix front bytes → MayHold item bytes → MayHold item front
may_lose Access front bytes p h = empty_front front bytes p h
may_lose (OpenHost host writer) front bytes p h = empty_front front bytes p h
may_lose (Meta last count stamp host writer) front bytes p h = empty_front front bytes p h
may_lose (Trunc stamp size) front bytes p h = empty_front front bytes p h
may_lose (Flat id) front bytes p h = tt
may_lose (TmpFlat id) front bytes p h = tt
may_lose (Index host writer) front bytes p h = tt
may_lose (Log host writer) front bytes p h = tt
may_lose (Packed host writer) front bytes p h = tt
may_lose (TmpPacked host id) front bytes p h = tt

-- whatever item's file stands at this path, it may hold any bytes
abbrev pub MayHoldAny : Path → Type 0
MayHoldAny path = (item : Item) (old bytes : List ℕ) → IsAt path item → MayHold item old → MayHold item bytes

any_of : (path : Path) (item : Item) → IsAt path item → ((bytes : List ℕ) → MayHold item bytes) → MayHoldAny path
any_of path item at any other old bytes also holds = subst (λ i. MayHold i bytes) (one_item path item other at also) (any bytes)

pub index_holds_any : (host writer : ℕ) → host < 2 ^ 32 → writer < 2 ^ 64 → MayHoldAny (index_path host writer)
index_holds_any host writer h w = any_of (index_path host writer) (Index host writer) (index_is_at host writer h w) (λ bytes. tt)

pub log_holds_any : (host writer : ℕ) → host < 2 ^ 32 → writer < 2 ^ 64 → MayHoldAny (log_path host writer)
log_holds_any host writer h w = any_of (log_path host writer) (Log host writer) (log_is_at host writer h w) (λ bytes. tt)

-- ---- flattenings

pub temporary_is_at : (makes : Making) (id : ℕ) → FitsNames makes → id < 2 ^ 64 → IsAt (temporary_of makes id) (temporary_item makes id)
temporary_is_at making.Flat id named fits = record { is_item = record { in_range = tt; widths = fits }; printed = refl }
temporary_is_at (making.Pack host writer) id named fits = record { is_item = record { in_range = tt; widths = (named.host_fits, fits) }; printed = refl }

pub temporary_holds : (makes : Making) (id : ℕ) (bytes : List ℕ) → MayHold (temporary_item makes id) bytes
temporary_holds making.Flat id bytes = tt
temporary_holds (making.Pack host writer) id bytes = tt

pub temporary_of_id : (allowed : ℕ → Type 0) (makes : Making) (id : ℕ) → allowed id → IsOfId allowed (temporary_item makes id)
temporary_of_id allowed making.Flat id of = of
temporary_of_id allowed (making.Pack host writer) id of = of

flat_is_at : (id : ℕ) → id < 2 ^ 64 → IsAt (flat_path id) (Flat id)
flat_is_at id fits = record { is_item = record { in_range = tt; widths = fits }; printed = refl }

pack_is_at : (host writer : ℕ) → IsHostAndWriter host writer → IsAt (path_of (Packed host writer)) (Packed host writer)
pack_is_at host writer named = record { is_item = record { in_range = tt; widths = (named.host_fits, named.writer_fits) }; printed = refl }

-- whatever item's file stands where a packed index is written holds any bytes
pack_holds_any : (host id : ℕ) → MayHoldAny (path_of (TmpPacked host id))
pack_holds_any host id Access old bytes at holds = elsewhere (first_of_folder at.printed) refl
pack_holds_any host id (OpenHost h w) old bytes at holds = elsewhere (first_of_folder at.printed) refl
pack_holds_any host id (Meta last count stamp h w) old bytes at holds = elsewhere (first_of_folder at.printed) refl
pack_holds_any host id (Trunc stamp size) old bytes at holds = elsewhere (first_of_folder at.printed) refl
pack_holds_any host id (Flat flat) old bytes at holds = tt
pack_holds_any host id (TmpFlat flat) old bytes at holds = tt
pack_holds_any host id (Index h w) old bytes at holds = tt
pack_holds_any host id (Log h w) old bytes at holds = tt
pack_holds_any host id (Packed h w) old bytes at holds = tt
pack_holds_any host id (TmpPacked h w) old bytes at holds = tt

pub temporary_holds_any : (makes : Making) (id : ℕ) → id < 2 ^ 64 → MayHoldAny (temporary_of makes id)
temporary_holds_any making.Flat id fits = any_of (path_of (TmpFlat id)) (TmpFlat id) (temporary_is_at making.Flat id tt fits) (λ bytes. tt)
temporary_holds_any (making.Pack host writer) id fits = pack_holds_any host id

-- a packed index is of a writer of an allowed id
abbrev pub MakesAllowed : (ℕ → Type 0) → Making → Type 0
MakesAllowed allowed making.Flat = Unit {0}
MakesAllowed allowed (making.Pack host writer) = IsHostAndWriter host writer × allowed writer

-- the temporary file may get the name of what it was made for
pub may_install : (makes : Making) (id : ℕ) → id < 2 ^ 64 → (allowed : ℕ → Type 0) → MakesAllowed allowed makes → (room : Room) (bytes : List ℕ) → IsItemFile allowed room (temporary_of makes id) bytes → IsItemFile allowed room (beside (temporary_of makes id) (installed_of makes id).file) bytes
may_install making.Flat id fits allowed of room bytes f =
    let same : f.item ≡ TmpFlat id = one_item (path_of (TmpFlat id)) f.item (TmpFlat id) f.is_at (temporary_is_at making.Flat id tt fits) in
    let own : IsOfId allowed (TmpFlat id) = subst (IsOfId allowed) same f.id in
    record { item = Flat id; is_at = flat_is_at id fits; holds = tt; id = own; housed = f.housed }
may_install (making.Pack host writer) id fits allowed of room bytes f = record { item = Packed host writer; is_at = pack_is_at host writer of.0; holds = tt; id = of.1; housed = f.housed }

pub temporary_apart : (makes : Making) (id : ℕ) (file : Name) → AreTwo access_path (beside (temporary_of makes id) file)
temporary_apart making.Flat id file folder same = cc
temporary_apart (making.Pack host writer) id file folder same = cc
