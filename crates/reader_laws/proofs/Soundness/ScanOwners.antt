-- The listing of a folder of droppings in a sound state finds no second dropping of a writer.
use Rattle.std.proofs.Common.{◌≡◌, ℕ, nat_eq, true, false, List, [], ◌∷◌, Option, Some, refl, ap, sym, ◌∙◌, inl, inr, subst, arith}
use Rattle.std.specs.Prelude.{Ok, Err, is_some}
use Rattle.std.specs.List.{AllByRecursion}
use Rattle.std.proofs.lemmas.Bool.{cases_Bool, cond-true, cond-false}
use Rattle.std.proofs.lemmas.Bool.Decides.{nat_tests}
use Rattle.plfs_types.specs.declared.names.Path.{Path}
use Rattle.plain_file.proofs.Facts.{Among, All-Among}
use Rattle.container_layout.specs.declared.items.Item.{Item}
use Rattle.container_layout.specs.declared.items.Item.TheVariants as item
use Rattle.container_layout.specs.Paths.{IsAt, hostdir_of}
use Rattle.store_laws.specs.Differ.{NamesDiffer, is_listed}
use Rattle.mount_model.specs.FlowReplies.{damage}
use Rattle.mount_model.specs.FlowListed.{file_in}
use Rattle.mount_model.specs.Paths.{Name}
use Rattle.index_reader.specs.declared.scanning.Scan.{Scan}
use Rattle.index_reader.specs.Items.{hostdir_item}
use Rattle.index_reader.specs.Scanning.{has_writer, owner, owner_of, placed, taken, taken_all}
use Rattle.index_reader.proofs.Facts.{hostdir_item-at}
use Rattle.reader_laws.specs.Moments.{Moment, IsSoundAt, HadItem}
use Rattle.reader_laws.proofs.Gathered.Facts.{All-weaker, among_listed}
use Rattle.reader_laws.proofs.Soundness.HadItems.{one_index_host, one_pack_host}
use Rattle.reader_laws.proofs.Containers.Scanning.{Owner, all_placed}

-- ---- the owner of a writer

-- the first owner of a writer that is there
pub record HasOwner (writer : ℕ) (owners : List Owner) : Type 0 where
  pub o : Owner
  pub its : Among o owners
  pub is : o.writer ≡ writer
  pub found : owner_of writer owners ≡ Some o

equal : (a b : ℕ) → nat_eq a b ≡ true → a ≡ b
equal a b t = grind (arith, nat_tests)

unequal : (a b : ℕ) → a ≡ b → nat_eq a b ≡ false → ⊥
unequal a b e t = let yes_ : nat_eq a b ≡ true = grind (arith, nat_tests) in let clash : true ≡ false = sym yes_ ∙ t in cc

pub owner_there : (writer : ℕ) (owners : List Owner) → has_writer writer owners ≡ true → HasOwner writer owners
owner_there writer [] has = absurd (cc)
owner_there writer (p ∷ owners) has = elim (cases_Bool (nat_eq p.writer writer)) [
  | inl here ↦ record { o = p; its = inl refl; is = equal p.writer writer here; found = cond-true (nat_eq p.writer writer) (Some p) (owner_of writer owners) here }
  | inr other ↦
      let past : owner_of writer (p ∷ owners) ≡ owner_of writer owners = cond-false (nat_eq p.writer writer) (Some p) (owner_of writer owners) other in
      let h = owner_there writer owners (sym (ap is_some past) ∙ has) in
      record { o = h.o; its = inr h.its; is = h.is; found = past ∙ h.found }
]

pub has_its : (o : Owner) (owners : List Owner) → Among o owners → has_writer o.writer owners ≡ true
has_its o [] a = absurd a
has_its o (p ∷ owners) a = elim (cases_Bool (nat_eq p.writer o.writer)) [
  | inl here ↦ ap is_some (cond-true (nat_eq p.writer o.writer) (Some p) (owner_of o.writer owners) here)
  | inr other ↦ ap is_some (cond-false (nat_eq p.writer o.writer) (Some p) (owner_of o.writer owners) other) ∙ later a other (λ b. has_its o owners b)
]
  where
    later : Among o (p ∷ owners) → nat_eq p.writer o.writer ≡ false → (Among o owners → has_writer o.writer owners ≡ true) → has_writer o.writer owners ≡ true
    later (inl same) other on = absurd (unequal p.writer o.writer (sym (ap (λ (x : Owner). x.writer) same)) other)
    later (inr b) other on = on b

-- ---- the names of a folder

-- which item of a writer is meant
abbrev Kind : Type 0
Kind = ℕ → ℕ → Item

module _ (m : Moment) (s : IsSoundAt m) (room k : ℕ) where
  abbrev folder_ : Name
  folder_ = hostdir_of k

  -- the owner's item stands, and is of none of these names
  abbrev pub IsBefore : Kind → List Name → Owner → Type 0
  IsBefore kind names o = HadItem m room (kind o.host o.writer) × ((name : Name) → Among name names → IsAt (file_in folder_ name) (kind o.host o.writer) → ⊥)

  -- a writer has one host
  abbrev OneHost : Kind → Type 0
  OneHost kind = (host other writer : ℕ) → HadItem m room (kind host writer) → HadItem m room (kind other writer) → host ≡ other

  none_has : (kind : Kind) → OneHost kind → (name : Name) (names : List Name) (owners : List Owner) (host writer : ℕ) → AllByRecursion (IsBefore kind (name ∷ names)) owners → HadItem m room (kind host writer) → IsAt (file_in folder_ name) (kind host writer) → has_writer writer owners ≡ false
  none_has kind one name names owners host writer before had at = elim (cases_Bool (has_writer writer owners)) [
    | inl has ↦
        let h = owner_there writer owners has in
        let b : IsBefore kind (name ∷ names) h.o = All-Among (IsBefore kind (name ∷ names)) owners h.o before h.its in
        let its : HadItem m room (kind h.o.host writer) = subst (λ w. HadItem m room (kind h.o.host w)) h.is b.0 in
        let host_is : host ≡ h.o.host = one host h.o.host writer had its in
        absurd (b.1 name (inl refl) (subst (λ w. IsAt (file_in folder_ name) (kind h.o.host w)) (sym h.is) (subst (λ x. IsAt (file_in folder_ name) (kind x writer)) host_is at)))
    | inr none ↦ none
  ]

  fewer : (kind : Kind) (name : Name) (names : List Name) (owners : List Owner) → AllByRecursion (IsBefore kind (name ∷ names)) owners → AllByRecursion (IsBefore kind names) owners
  fewer kind name names owners before = All-weaker (IsBefore kind (name ∷ names)) (IsBefore kind names) owners (λ o b. (b.0, λ n a. b.1 n (inr a))) before

  not_again : (name : Name) (names : List Name) → is_listed name names ≡ false → Among name names → ⊥
  not_again name names none a = let listed = among_listed name names a in cc

  one_more : (kind : Kind) (name : Name) (names : List Name) (owners : List Owner) (host writer : ℕ) → is_listed name names ≡ false → AllByRecursion (IsBefore kind (name ∷ names)) owners → HadItem m room (kind host writer) → IsAt (file_in folder_ name) (kind host writer)
      → AllByRecursion (IsBefore kind names) (placed (owner host writer) owners)
  one_more kind name names owners host writer differ before had at =
      all_placed (IsBefore kind names) (owner host writer) owners
      (had, λ n a its. not_again name names differ (subst (λ x. Among x names) (ap (λ (p : Path). p.file) (its.printed ∙ sym at.printed)) a))
      (fewer kind name names owners before)

  -- the name is that of a file in this folder, whose item stands
  abbrev pub IsKnown : Name → Type 0
  IsKnown name = (it : Item) × (hostdir_item (file_in folder_ name) ≡ Some it) × HadItem m room it

  -- each name is one more, and none is a second one of its writer
  pub all_taken_so : (names : List Name) (scan : Scan) → NamesDiffer names → ((name : Name) → Among name names → IsKnown name)
      → AllByRecursion (IsBefore (λ h w. item.Index h w) names) scan.indices → AllByRecursion (IsBefore (λ h w. item.Packed h w) names) scan.packs → (new : Scan) × (taken_all folder_ names scan ≡ Ok new)
  all_taken_so [] scan differ each indices packs = (scan, refl)
  all_taken_so (name ∷ names) scan differ each indices packs =
      let here = each name (inl refl) in
      by_item (λ from i p. all_taken_so names from differ.1 (λ n a. each n (inr a)) i p) here.0 here.1 here.2
    where
      path : Path
      path = file_in folder_ name

      more : (o : Option Item) (it : Item) → o ≡ Some it → (from : Scan) → taken path (Some it) scan (λ x. taken_all folder_ names x) ≡ taken_all folder_ names from → (new : Scan) × (taken_all folder_ names from ≡ Ok new) → (new : Scan) × (taken path o scan (λ x. taken_all folder_ names x) ≡ Ok new)
      more o it found from is g = (g.0, ap (λ x. taken path x scan (λ y. taken_all folder_ names y)) found ∙ is ∙ g.1)

      by_item : ((from : Scan) → AllByRecursion (IsBefore (λ h w. item.Index h w) names) from.indices → AllByRecursion (IsBefore (λ h w. item.Packed h w) names) from.packs → (new : Scan) × (taken_all folder_ names from ≡ Ok new)) → (it : Item) → hostdir_item path ≡ Some it → HadItem m room it → (new : Scan) × (taken_all folder_ (name ∷ names) scan ≡ Ok new)
      by_item on (item.Index host writer) found had =
          let at : IsAt path (item.Index host writer) = hostdir_item-at path (item.Index host writer) found in
          let from : Scan = record { indices = placed (owner host writer) scan.indices; packs = scan.packs } in
          let none = none_has (λ h w. item.Index h w) (λ h o w a b. one_index_host m s room h o w a b) name names scan.indices host writer indices had at in
          more (hostdir_item path) (item.Index host writer) found from (cond-false (has_writer writer scan.indices) (Err (damage path 0)) (taken_all folder_ names from) none)
          (on from (one_more (λ h w. item.Index h w) name names scan.indices host writer differ.0 indices had at) (fewer (λ h w. item.Packed h w) name names scan.packs packs))
      by_item on (item.Packed host writer) found had =
          let at : IsAt path (item.Packed host writer) = hostdir_item-at path (item.Packed host writer) found in
          let from : Scan = record { indices = scan.indices; packs = placed (owner host writer) scan.packs } in
          let none = none_has (λ h w. item.Packed h w) (λ h o w a b. one_pack_host m s room h o w a b) name names scan.packs host writer packs had at in
          more (hostdir_item path) (item.Packed host writer) found from (cond-false (has_writer writer scan.packs) (Err (damage path 0)) (taken_all folder_ names from) none)
          (on from (fewer (λ h w. item.Index h w) name names scan.indices indices) (one_more (λ h w. item.Packed h w) name names scan.packs host writer differ.0 packs had at))
      by_item on other found had =
          more (hostdir_item path) other found scan refl (on scan (fewer (λ h w. item.Index h w) name names scan.indices indices) (fewer (λ h w. item.Packed h w) name names scan.packs packs))
