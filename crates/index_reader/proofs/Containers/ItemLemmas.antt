-- The item of a path.
use Rattle.std.proofs.Common.{◌≡◌, ◌⊎◌, inl, inr, ℕ, ◌<◌, ◌^◌, true, false, Option, None, Some, refl, ap, ◌∙◌, sym, subst}
use Rattle.std.proofs.lemmas.Bool.{cases_Bool, and_from, and_parts, cond-true, cond-false}
use Rattle.plfs_types.specs.declared.names.Path.{Path}
use Rattle.plain_file.proofs.Facts.{cases_Option}
use Rattle.container_layout.specs.declared.items.Item.{Item}
use Rattle.container_layout.specs.declared.items.Item.TheVariants as item
use Rattle.container_layout.specs.Items.{IsItem}
use Rattle.container_layout.specs.Paths.{path_of, IsAt}
use Rattle.container_layout.proofs.Facts.{one_item}
use Rattle.mount_model.specs.Names.{or_else}
use Rattle.index_reader.specs.Searching.{same_bytes}
use Rattle.index_reader.specs.Items.{same_path, item_at, item_of_id, item_of_host, flat_item, hostdir_item, is_flats, is_of_hostdir}
use Rattle.index_reader.proofs.Containers.Searching.{same_bytes-itself, same_bytes-eq, found_below, none_below}

-- ---- one item

same_path-eq : (p q : Path) → same_path p q ≡ true → p ≡ q
same_path-eq p q h =
    let parts = and_parts (same_bytes p.folder q.folder) (same_bytes p.file q.file) h in
    let folders : p.folder ≡ q.folder = same_bytes-eq p.folder q.folder parts.0 in
    let files : p.file ≡ q.file = same_bytes-eq p.file q.file parts.1 in
    λ i. record { folder = folders i; file = files i }

same_path-itself : (p : Path) → same_path p p ≡ true
same_path-itself p = and_from (same_bytes p.folder p.folder) (same_bytes p.file p.file) (same_bytes-itself p.folder) (same_bytes-itself p.file)

at_found : (it : Item) (path : Path) (x : Item) → item_at it path ≡ Some x → (x ≡ it) × (path ≡ path_of it)
at_found it path x h = elim (cases_Bool (same_path path (path_of it))) [
  | inl same ↦ (let e : Some it ≡ Some x = sym (cond-true (same_path path (path_of it)) (Some it) None same) ∙ h in
      let is : x ≡ it = cc in
      (is, same_path-eq path (path_of it) same))
  | inr other ↦ (let e : None ≡ Some x = sym (cond-false (same_path path (path_of it)) (Some it) None other) ∙ h in absurd (cc))
]

at_itself : (it : Item) (path : Path) → path ≡ path_of it → item_at it path ≡ Some it
at_itself it path is = cond-true (same_path path (path_of it)) (Some it) None (subst (λ (p : Path). same_path p (path_of it) ≡ true) (sym is) (same_path-itself (path_of it)))

-- ---- of one kind

-- a number below 2 ^ 64 with which the kind has this path
pub record IsOfKind (kind : ℕ → Item) (path : Path) (x : Item) : Type 0 where
  pub number : ℕ
  pub fits : number < 2 ^ 64
  pub is : x ≡ kind number
  pub printed : path ≡ path_of (kind number)

of_id-found : (kind : ℕ → Item) (path : Path) (x : Item) → item_of_id kind path ≡ Some x → IsOfKind kind path x
unfolding item_of_id
of_id-found kind path x h =
    let found = found_below (λ id. item_at (kind id) path) (2 ^ 64) x h in
    let at = at_found (kind found.0) path x found.2 in
    record { number = found.0; fits = found.1; is = at.0; printed = at.1 }

of_id-none : (kind : ℕ → Item) (path : Path) (id : ℕ) → item_of_id kind path ≡ None → id < 2 ^ 64 → path ≡ path_of (kind id) → ⊥
unfolding item_of_id
of_id-none kind path id none fits is =
    let no_item : item_at (kind id) path ≡ None = none_below (λ n. item_at (kind n) path) (2 ^ 64) id none fits in
    let clash : None ≡ Some (kind id) = sym no_item ∙ at_itself (kind id) path is in
    absurd (cc)

pub record IsOfHost (kind : ℕ → ℕ → Item) (path : Path) (x : Item) : Type 0 where
  pub host : ℕ
  pub host_fits : host < 2 ^ 32
  pub rest : IsOfKind (kind host) path x

of_host-found : (kind : ℕ → ℕ → Item) (path : Path) (x : Item) → item_of_host kind path ≡ Some x → IsOfHost kind path x
unfolding item_of_host
of_host-found kind path x h =
    let found = found_below (λ host. item_of_id (kind host) path) (2 ^ 32) x h in
    record { host = found.0; host_fits = found.1; rest = of_id-found (kind found.0) path x found.2 }

of_host-none : (kind : ℕ → ℕ → Item) (path : Path) (host number : ℕ) → item_of_host kind path ≡ None → host < 2 ^ 32 → number < 2 ^ 64 → path ≡ path_of (kind host number) → ⊥
unfolding item_of_host
of_host-none kind path host number none host_fits fits is =
    of_id-none (kind host) path number (none_below (λ h. item_of_id (kind h) path) (2 ^ 32) host none host_fits) fits is

-- ---- of one folder

is_at : (it : Item) (path : Path) → IsItem it → path ≡ path_of it → IsAt path it
is_at it path is printed = record { is_item = is; printed = printed }

id_at : (kind : ℕ → Item) (path : Path) (x : Item) → ((n : ℕ) → n < 2 ^ 64 → IsItem (kind n)) → IsOfKind kind path x → IsAt path x
id_at kind path x are k = subst (λ (y : Item). IsAt path y) (sym k.is) (is_at (kind k.number) path (are k.number k.fits) k.printed)

host_at : (kind : ℕ → ℕ → Item) (path : Path) (x : Item) → ((h n : ℕ) → h < 2 ^ 32 → n < 2 ^ 64 → IsItem (kind h n)) → IsOfHost kind path x → IsAt path x
host_at kind path x are k = id_at (kind k.host) path x (λ n fits. are k.host n k.host_fits fits) k.rest

-- what is found by one of two ways
either : {X : Type 0} (a b : Option X) (x : X) → or_else a b ≡ Some x → (a ≡ Some x) ⊎ ((a ≡ None) × (b ≡ Some x))
either None b x h = inr (refl, h)
either (Some y) b x h = inl h

neither : {X : Type 0} (a b : Option X) → or_else a b ≡ None → (a ≡ None) × (b ≡ None)
neither None b h = (refl, h)
neither (Some y) b h = absurd (cc)

-- what is found is the item of the path
pub flat_item-at : (path : Path) (x : Item) → flat_item path ≡ Some x → IsAt path x
flat_item-at path x h = elim (either (item_of_id (λ id. item.Flat id) path) (item_of_id (λ id. item.TmpFlat id) path) x h) [
  | inl first ↦ id_at (λ id. item.Flat id) path x (λ n fits. record { in_range = tt; widths = fits }) (of_id-found (λ id. item.Flat id) path x first)
  | inr second ↦ id_at (λ id. item.TmpFlat id) path x (λ n fits. record { in_range = tt; widths = fits }) (of_id-found (λ id. item.TmpFlat id) path x second.1)
]

pub hostdir_item-at : (path : Path) (x : Item) → hostdir_item path ≡ Some x → IsAt path x
hostdir_item-at path x h = elim (either (item_of_host (λ host writer. item.Index host writer) path) _ x h) [
  | inl one ↦ host_at (λ host writer. item.Index host writer) path x (λ h n a b. record { in_range = tt; widths = (a, b) }) (of_host-found (λ host writer. item.Index host writer) path x one)
  | inr rest ↦ elim (either (item_of_host (λ host writer. item.Log host writer) path) _ x rest.1) [
    | inl two ↦ host_at (λ host writer. item.Log host writer) path x (λ h n a b. record { in_range = tt; widths = (a, b) }) (of_host-found (λ host writer. item.Log host writer) path x two)
    | inr more ↦ elim (either (item_of_host (λ host writer. item.Packed host writer) path) (item_of_host (λ host id. item.TmpPacked host id) path) x more.1) [
      | inl three ↦ host_at (λ host writer. item.Packed host writer) path x (λ h n a b. record { in_range = tt; widths = (a, b) }) (of_host-found (λ host writer. item.Packed host writer) path x three)
      | inr four ↦ host_at (λ host id. item.TmpPacked host id) path x (λ h n a b. record { in_range = tt; widths = (a, b) }) (of_host-found (λ host id. item.TmpPacked host id) path x four.1)
    ]
  ]
]

same_found : (path : Path) (found : Option Item) (it : Item) → ((x : Item) → found ≡ Some x → IsAt path x) → (found ≡ None → ⊥) → IsAt path it → found ≡ Some it
same_found path found it sound some at = elim (cases_Option found) [
  | inl none ↦ absurd (some none)
  | inr one ↦ (let same : one.0 ≡ it = one_item path one.0 it (sound one.0 one.1) at in one.1 ∙ ap Some same)
]

-- each item of the folder is found
pub flat_item-flat : (path : Path) (id : ℕ) → IsAt path (item.Flat id) → flat_item path ≡ Some (item.Flat id)
flat_item-flat path id at = same_found path (flat_item path) (item.Flat id) (flat_item-at path)
    (λ none. of_id-none (λ n. item.Flat n) path id (neither (item_of_id (λ id. item.Flat id) path) (item_of_id (λ id. item.TmpFlat id) path) none).0 at.is_item.widths at.printed) at

pub flat_item-tmp : (path : Path) (id : ℕ) → IsAt path (item.TmpFlat id) → flat_item path ≡ Some (item.TmpFlat id)
flat_item-tmp path id at = same_found path (flat_item path) (item.TmpFlat id) (flat_item-at path)
    (λ none. of_id-none (λ n. item.TmpFlat n) path id (neither (item_of_id (λ id. item.Flat id) path) (item_of_id (λ id. item.TmpFlat id) path) none).1 at.is_item.widths at.printed) at

no_hostdir_item : (path : Path) → hostdir_item path ≡ None → (item_of_host (λ host writer. item.Index host writer) path ≡ None) × (item_of_host (λ host writer. item.Log host writer) path ≡ None) × (item_of_host (λ host writer. item.Packed host writer) path ≡ None) × (item_of_host (λ host id. item.TmpPacked host id) path ≡ None)
no_hostdir_item path none =
    let a = neither (item_of_host (λ host writer. item.Index host writer) path) _ none in
    let b = neither (item_of_host (λ host writer. item.Log host writer) path) _ a.1 in
    let c = neither (item_of_host (λ host writer. item.Packed host writer) path) (item_of_host (λ host id. item.TmpPacked host id) path) b.1 in
    (a.0, b.0, c.0, c.1)

pub hostdir_item-index : (path : Path) (host writer : ℕ) → IsAt path (item.Index host writer) → hostdir_item path ≡ Some (item.Index host writer)
hostdir_item-index path host writer at = same_found path (hostdir_item path) (item.Index host writer) (hostdir_item-at path)
    (λ none. of_host-none (λ h w. item.Index h w) path host writer (no_hostdir_item path none).0 at.is_item.widths.0 at.is_item.widths.1 at.printed) at

pub hostdir_item-log : (path : Path) (host writer : ℕ) → IsAt path (item.Log host writer) → hostdir_item path ≡ Some (item.Log host writer)
hostdir_item-log path host writer at = same_found path (hostdir_item path) (item.Log host writer) (hostdir_item-at path)
    (λ none. of_host-none (λ h w. item.Log h w) path host writer (no_hostdir_item path none).1 at.is_item.widths.0 at.is_item.widths.1 at.printed) at

pub hostdir_item-packed : (path : Path) (host writer : ℕ) → IsAt path (item.Packed host writer) → hostdir_item path ≡ Some (item.Packed host writer)
hostdir_item-packed path host writer at = same_found path (hostdir_item path) (item.Packed host writer) (hostdir_item-at path)
    (λ none. of_host-none (λ h w. item.Packed h w) path host writer (no_hostdir_item path none).2 at.is_item.widths.0 at.is_item.widths.1 at.printed) at

pub hostdir_item-tmp : (path : Path) (host id : ℕ) → IsAt path (item.TmpPacked host id) → hostdir_item path ≡ Some (item.TmpPacked host id)
hostdir_item-tmp path host id at = same_found path (hostdir_item path) (item.TmpPacked host id) (hostdir_item-at path)
    (λ none. of_host-none (λ h n. item.TmpPacked h n) path host id (no_hostdir_item path none).3 at.is_item.widths.0 at.is_item.widths.1 at.printed) at

-- ---- what is read of a path

pub flat_item-here : (path : Path) (it : Item) → is_flats it ≡ true → IsAt path it → flat_item path ≡ Some it
flat_item-here path (item.Flat id) h at = flat_item-flat path id at
flat_item-here path (item.TmpFlat id) h at = flat_item-tmp path id at
flat_item-here path other h at = absurd (cc)

flat_kind : (path : Path) (x : Item) → flat_item path ≡ Some x → is_flats x ≡ true
flat_kind path x h = elim (either (item_of_id (λ id. item.Flat id) path) (item_of_id (λ id. item.TmpFlat id) path) x h) [
  | inl first ↦ ap is_flats (of_id-found (λ id. item.Flat id) path x first).is
  | inr second ↦ ap is_flats (of_id-found (λ id. item.TmpFlat id) path x second.1).is
]

pub flat_item-other : (path : Path) (it : Item) → is_flats it ≡ false → IsAt path it → flat_item path ≡ None
flat_item-other path it h at = elim (cases_Option (flat_item path)) [
  | inl none ↦ none
  | inr one ↦ (let same : one.0 ≡ it = one_item path one.0 it (flat_item-at path one.0 one.1) at in
      let clash : true ≡ false = sym (flat_kind path one.0 one.1) ∙ ap is_flats same ∙ h in absurd (cc))
]

pub flat_item-none : (path : Path) → ((it : Item) → IsAt path it → ⊥) → flat_item path ≡ None
flat_item-none path h = elim (cases_Option (flat_item path)) [
  | inl none ↦ none
  | inr one ↦ absurd (h one.0 (flat_item-at path one.0 one.1))
]

pub hostdir_item-here : (path : Path) (it : Item) → is_of_hostdir it ≡ true → IsAt path it → hostdir_item path ≡ Some it
hostdir_item-here path (item.Index host writer) h at = hostdir_item-index path host writer at
hostdir_item-here path (item.Log host writer) h at = hostdir_item-log path host writer at
hostdir_item-here path (item.Packed host writer) h at = hostdir_item-packed path host writer at
hostdir_item-here path (item.TmpPacked host id) h at = hostdir_item-tmp path host id at
hostdir_item-here path other h at = absurd (cc)

hostdir_kind : (path : Path) (x : Item) → hostdir_item path ≡ Some x → is_of_hostdir x ≡ true
hostdir_kind path x h = elim (either (item_of_host (λ host writer. item.Index host writer) path) _ x h) [
  | inl one ↦ ap is_of_hostdir (of_host-found (λ host writer. item.Index host writer) path x one).rest.is
  | inr rest ↦ elim (either (item_of_host (λ host writer. item.Log host writer) path) _ x rest.1) [
    | inl two ↦ ap is_of_hostdir (of_host-found (λ host writer. item.Log host writer) path x two).rest.is
    | inr more ↦ elim (either (item_of_host (λ host writer. item.Packed host writer) path) (item_of_host (λ host id. item.TmpPacked host id) path) x more.1) [
      | inl three ↦ ap is_of_hostdir (of_host-found (λ host writer. item.Packed host writer) path x three).rest.is
      | inr four ↦ ap is_of_hostdir (of_host-found (λ host id. item.TmpPacked host id) path x four.1).rest.is
    ]
  ]
]

pub hostdir_item-other : (path : Path) (it : Item) → is_of_hostdir it ≡ false → IsAt path it → hostdir_item path ≡ None
hostdir_item-other path it h at = elim (cases_Option (hostdir_item path)) [
  | inl none ↦ none
  | inr one ↦ (let same : one.0 ≡ it = one_item path one.0 it (hostdir_item-at path one.0 one.1) at in
      let clash : true ≡ false = sym (hostdir_kind path one.0 one.1) ∙ ap is_of_hostdir same ∙ h in absurd (cc))
]

pub hostdir_item-none : (path : Path) → ((it : Item) → IsAt path it → ⊥) → hostdir_item path ≡ None
hostdir_item-none path h = elim (cases_Option (hostdir_item path)) [
  | inl none ↦ none
  | inr one ↦ absurd (h one.0 (hostdir_item-at path one.0 one.1))
]
