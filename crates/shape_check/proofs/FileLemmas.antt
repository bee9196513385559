-- What is shown of a file of a container.
use Rattle.std.proofs.Common.{◌≡◌, ℕ, ◌⊎◌, inl, inr, ◌↔◌, Bool, true, false, List, [], length, Option, Some, None, refl, ap, sym, ◌∙◌, subst}
use Rattle.std.specs.Prelude.{◌≢◌, slice_get, IsTrue, IfErr, OnOk, Result, Ok, Err}
use Rattle.std.proofs.lemmas.Bool.{false≢true}
use Rattle.plfs_types.specs.declared.names.Path.{Path}
use Rattle.container_layout.specs.declared.items.Item.{Item}
use Rattle.container_layout.specs.declared.items.Item.TheVariants.{Access, OpenHost, Meta, Trunc, Flat, TmpFlat, Index, Log, Packed, TmpPacked}
use Rattle.store_api.specs.declared.tree.Room.{Room}
use Rattle.store_api.specs.declared.tree.Tree.{Tree}
use Rattle.store_api.specs.Acts.{Stored}
use Rattle.store_laws.specs.Files.{file_at}
use Rattle.mount_sound.specs.Container.{MayHold, IsOfId}
use Rattle.mount_sound.specs.Marks.{IsOfMark}
use Rattle.shape_check.specs.declared.files.Place.{Place}
use Rattle.shape_check.specs.declared.finding.Finding.{Finding}
use Rattle.shape_check.specs.declared.finding.Finding.TheVariants.{Broken}
use Rattle.shape_check.specs.declared.finding.Complaint.TheVariants as variant
use Rattle.shape_check.specs.Files.{IsPlaced, OfPlace, IsFineItem, IsItemOf, IsNoItem, IsDrawn, HasItemFile, holds_bytes, id_in}
use Rattle.shape_check.specs.Places.{HasMarks}
use Rattle.shape_check.specs.Rightness.{Fails}
use Rattle.shape_check.specs.Seeing.{IsSeen, IsLookedAt, HasRoom}
use Rattle.shape_check.specs.Told.{TellsLength}
use Rattle.shape_check.proofs.MarkLemmas.{no_file, empty}
use Rattle.shape_check.proofs.Seen.{seen_on, risen_on}

abbrev Shows : Stored → ℕ → Path → Option ℕ → Type 0
Shows old number path found = (tree : Tree) (held : Room) → IsSeen old tree → slice_get tree.rooms number ≡ Some held → TellsLength held path found

pub no_place : (place : Place) (old new : Stored) (finding : Finding) → Fails (HasRoom place.number) old new finding → Fails (IsPlaced place) old new finding
no_place place old new finding f = record { cause = f.cause; right = λ tree seen at. f.right tree seen (at.room, at.there) }

pub file_gone : (place : Place) (old : Stored) (path : Path) → Shows old place.number path None → OfPlace (IsFineItem path) place old
file_gone place old path shows = λ tree seen at bytes b. (
    let none : file_at at.room path ≡ None = no_file at.room path (λ bytes b. (at.listable.orderly.rooms place.number at.room at.there).housed path bytes b) (shows tree at.room seen at.there) in
    absurd (cc))

-- ---- items

none : (bytes : List ℕ) → length bytes ≡ 0 → bytes ≡ []
none bytes e = empty bytes e

may : (item : Item) (bytes : List ℕ) → (holds_bytes item ≡ true) ⊎ (length bytes ≡ 0) → MayHold item bytes
may Access bytes (inl e) = absurd (false≢true e)
may Access bytes (inr e) = none bytes e
may (OpenHost host writer) bytes (inl e) = absurd (false≢true e)
may (OpenHost host writer) bytes (inr e) = none bytes e
may (Meta last sum stamp host writer) bytes (inl e) = absurd (false≢true e)
may (Meta last sum stamp host writer) bytes (inr e) = none bytes e
may (Trunc stamp size) bytes (inl e) = absurd (false≢true e)
may (Trunc stamp size) bytes (inr e) = none bytes e
may (Flat id) bytes either = tt
may (TmpFlat id) bytes either = tt
may (Index host writer) bytes either = tt
may (Log host writer) bytes either = tt
may (Packed host writer) bytes either = tt
may (TmpPacked host id) bytes either = tt

may_not : (item : Item) (bytes : List ℕ) → holds_bytes item ≡ false → (length bytes ≢ 0) → MayHold item bytes → ⊥
may_not Access bytes e some is = some (ap (λ (l : List ℕ). length l) is)
may_not (OpenHost host writer) bytes e some is = some (ap (λ (l : List ℕ). length l) is)
may_not (Meta last sum stamp host writer) bytes e some is = some (ap (λ (l : List ℕ). length l) is)
may_not (Trunc stamp size) bytes e some is = some (ap (λ (l : List ℕ). length l) is)
may_not (Flat id) bytes e some is = absurd (false≢true (sym e))
may_not (TmpFlat id) bytes e some is = absurd (false≢true (sym e))
may_not (Index host writer) bytes e some is = absurd (false≢true (sym e))
may_not (Log host writer) bytes e some is = absurd (false≢true (sym e))
may_not (Packed host writer) bytes e some is = absurd (false≢true (sym e))
may_not (TmpPacked host id) bytes e some is = absurd (false≢true (sym e))

drawn_so : (tree : Tree) (item : Item) → IsDrawn (id_in item) tree → IsOfId (IsOfMark tree) item
drawn_so tree Access d = tt
drawn_so tree (OpenHost host writer) d = d
drawn_so tree (Meta last sum stamp host writer) d = d
drawn_so tree (Trunc stamp size) d = tt
drawn_so tree (Flat id) d = d
drawn_so tree (TmpFlat id) d = d
drawn_so tree (Index host writer) d = d
drawn_so tree (Log host writer) d = d
drawn_so tree (Packed host writer) d = d
drawn_so tree (TmpPacked host id) d = d

so_drawn : (tree : Tree) (item : Item) → IsOfId (IsOfMark tree) item → IsDrawn (id_in item) tree
so_drawn tree Access d = tt
so_drawn tree (OpenHost host writer) d = d
so_drawn tree (Meta last sum stamp host writer) d = d
so_drawn tree (Trunc stamp size) d = tt
so_drawn tree (Flat id) d = d
so_drawn tree (TmpFlat id) d = d
so_drawn tree (Index host writer) d = d
so_drawn tree (Log host writer) d = d
so_drawn tree (Packed host writer) d = d
so_drawn tree (TmpPacked host id) d = d

-- ---- ids

its_marks : (place : Place) (tree : Tree) → IsPlaced place tree → HasMarks place.marks tree
its_marks place tree at = record { listable = at.listable; tells = at.marks }

pub marked_fails : (place : Place) (path : Path) (id : ℕ) (old new : Stored) (finding : Finding) → Fails (HasMarks place.marks) old new finding → Fails (HasItemFile place path (Some id)) old new finding
marked_fails place path id old new finding f = record { cause = f.cause; right = λ tree seen has. f.right tree seen (its_marks place tree has.placed) }

abbrev Tells : Place → ℕ → Stored → Bool → Type 0
Tells place id old is = (tree : Tree) → IsSeen old tree → HasMarks place.marks tree → (IsTrue is ↔ IsOfMark tree id)

pub marked_fine : (place : Place) (id : ℕ) (old : Stored) (is : Bool) → Tells place id old is → is ≡ true → (tree : Tree) → IsSeen old tree → IsPlaced place tree → IsDrawn (Some id) tree
marked_fine place id old true tells e tree seen at = (tells tree seen (its_marks place tree at)).0 refl
marked_fine place id old false tells e tree seen at = absurd (false≢true e)

pub marked_wrong : (place : Place) (path : Path) (id : ℕ) (old new : Stored) (is : Bool) → Tells place id old is → is ≡ false → Fails (HasItemFile place path (Some id)) old new (Broken (variant.Unmarked place.name path))
marked_wrong place path id old new is tells e = record {
  cause = λ e. absurd (cc);
  right = λ tree seen has. (
    has.placed.other,
    (
      place.number,
      has.placed.room,
      has.placed.there,
      has.placed.named,
      (
        has.bytes,
        has.item,
        has.there,
        has.is_at,
        λ of_id. (
            let drawn : IsDrawn (Some id) tree = subst (λ (o : Option ℕ). IsDrawn o tree) (sym has.named) (so_drawn tree has.item of_id) in
            let true_is : is ≡ true = (tells tree seen (its_marks place tree has.placed)).1 drawn in
            false≢true (sym e ∙ true_is)),
      ),
    ),
  );
}

-- ---- files

pub item_wrong : (place : Place) (path : Path) (len : ℕ) (old new : Stored) (finding : Finding) → Shows old place.number path (Some len) → IsNoItem place.name path len finding → Fails (IsPlaced place) old new finding
item_wrong place path len old new finding shows (inl (is, wrong)) = subst (λ (f : Finding). Fails (IsPlaced place) old new f) (sym is) (record {
  cause = λ e. absurd (cc);
  right = λ tree seen at. (let t = shows tree at.room seen at.there in (at.other, (place.number, at.room, at.there, at.named, (t.0, t.1, wrong))));
})
item_wrong place path len old new finding shows (inr (is, some, (item, is_at, holds))) = subst (λ (f : Finding). Fails (IsPlaced place) old new f) (sym is) (record {
  cause = λ e. absurd (cc);
  right = λ tree seen at. (let t = shows tree at.room seen at.there in
      (at.other, (place.number, at.room, at.there, at.named, (t.0, item, t.1, is_at, may_not item t.0 holds (λ e. some (sym t.2 ∙ e))))));
})

pub items_wrong : (place : Place) (path : Path) (len : ℕ) (old new : Stored) (result : Result Unit Finding) → Shows old place.number path (Some len) → IfErr result (IsNoItem place.name path len) → IfErr result (Fails (IsPlaced place) old new)
items_wrong place path len old new (Ok done) shows wrong = tt
items_wrong place path len old new (Err finding) shows wrong = item_wrong place path len old new finding shows wrong

pub item_fails : (place : Place) (path : Path) (len : ℕ) (id : Option ℕ) (old mid new : Stored) (result : Result Unit Finding) → IsLookedAt old mid → Shows old place.number path (Some len) → IsItemOf path len id
    → IfErr result (Fails (HasItemFile place path id) mid new) → IfErr result (Fails (IsPlaced place) old new)
item_fails place path len id old mid new (Ok done) looked shows is f = tt
item_fails place path len id old mid new (Err finding) looked shows is f = record {
  cause = λ e. risen_on old.faults mid.faults new.faults looked.counted (f.cause e);
  right = λ tree seen at. (let t = shows tree at.room seen at.there in
      f.right tree (seen_on old mid tree looked seen) (record { placed = at; bytes = t.0; there = t.1; item = is.item; is_at = is.is_at; named = is.named }));
}

pub item_fine : (place : Place) (path : Path) (len : ℕ) (id : Option ℕ) (old mid : Stored) (result : Result Unit Finding) → IsLookedAt old mid → Shows old place.number path (Some len) → IsItemOf path len id
    → OnOk result ((tree : Tree) → IsSeen mid tree → IsPlaced place tree → IsDrawn id tree) → OnOk result (OfPlace (IsFineItem path) place old)
item_fine place path len id old mid (Err finding) looked shows is drawn = tt
item_fine place path len id old mid (Ok done) looked shows is drawn = λ tree seen at bytes b. (
    let t = shows tree at.room seen at.there in
    let same : t.0 ≡ bytes = cc in
    let long : length bytes ≡ len = ap (λ (l : List ℕ). length l) (sym same) ∙ t.2 in
    record {
      item = is.item;
      is_at = is.is_at;
      holds = may is.item bytes (subst (λ (n : ℕ). (holds_bytes is.item ≡ true) ⊎ (n ≡ 0)) (sym long) is.holds);
      id = drawn_so tree is.item (subst (λ (o : Option ℕ). IsDrawn o tree) is.named (drawn tree (seen_on old mid tree looked seen) at));
      housed = (at.listable.orderly.rooms place.number at.room at.there).housed path bytes b;
    })
