-- What items of a container tell of one another, in a sound state.
use Rattle.std.proofs.Common.{◌≡◌, ℕ, List, Option, Some, ap, sym, ◌∙◌, inl, subst}
use Rattle.std.specs.Prelude.{slice_get}
use Rattle.container_layout.specs.declared.items.Item.{Item}
use Rattle.container_layout.specs.declared.items.Item.TheVariants as item
use Rattle.container_layout.specs.Paths.{path_of}
use Rattle.store_api.specs.declared.tree.Room.{Room}
use Rattle.mount_model.specs.declared.row.Making.TheVariants as making
use Rattle.mount_sound.specs.Dropping.{IsWriter}
use Rattle.mount_sound.specs.Flats.{IsRightPack}
use Rattle.mount_sound.specs.Items.{HasItem}
use Rattle.reader_laws.specs.Moments.{Moment, IsSoundAt, HadItem, file_in_room, file_told}
use Rattle.reader_laws.proofs.Gathered.Facts.{in_a_room, in_tree}

pub same_room : (a b : Room) (o : Option Room) → o ≡ Some a → o ≡ Some b → a ≡ b
same_room a b o p q = cc

-- a room that has an item, as the store then told it
pub record HasIt (m : Moment) (s : IsSoundAt m) (number : ℕ) (it : Item) : Type 0 where
  pub room : Room
  pub bytes : List ℕ
  pub there : slice_get s.shape.tree.rooms number ≡ Some room
  pub has : HasItem room it bytes

pub has_item : (m : Moment) (s : IsSoundAt m) (number : ℕ) (it : Item) → HadItem m number it → HasIt m s number it
has_item m s number it had =
    let r = in_a_room (slice_get s.shape.tree.rooms number) (path_of it) had.bytes (in_tree m s number (path_of it) had.bytes had.there) in
    record { room = r.0; bytes = had.bytes; there = r.1; has = record { is_item = had.is_item; there = r.2 } }

pub had_item : (m : Moment) (s : IsSoundAt m) (number : ℕ) (it : Item) (room : Room) (bytes : List ℕ) → slice_get s.shape.tree.rooms number ≡ Some room → HasItem room it bytes → HadItem m number it
had_item m s number it room bytes there has = record { is_item = has.is_item; bytes = bytes; there = ap (λ o. file_told o number (path_of it)) s.shape.told ∙ ap (λ o. file_in_room o (path_of it)) there ∙ has.there }

-- all index droppings of one writer are of one host
pub one_index_host : (m : Moment) (s : IsSoundAt m) (number host other writer : ℕ) → HadItem m number (item.Index host writer) → HadItem m number (item.Index other writer) → host ≡ other
one_index_host m s number host other writer a b =
    let x = has_item m s number (item.Index host writer) a in
    let y = has_item m s number (item.Index other writer) b in
    let w : IsWriter x.room writer (m.issued number writer) = (s.sound.rooms number x.room x.there).writers writer a.is_item.widths.1 in
    let same : y.room ≡ x.room = same_room y.room x.room (slice_get s.shape.tree.rooms number) y.there x.there in
    let here : HasItem x.room (item.Index other writer) y.bytes = subst (λ r. HasItem r (item.Index other writer) y.bytes) same y.has in
    w.one_host host (inl (x.bytes, x.has)) ∙ sym (w.one_host other (inl (y.bytes, here)))

-- a packed index has its index dropping beside it
pub pack_has_index : (m : Moment) (s : IsSoundAt m) (number host writer : ℕ) → HadItem m number (item.Packed host writer) → HadItem m number (item.Index host writer)
pack_has_index m s number host writer had =
    let x = has_item m s number (item.Packed host writer) had in
    let right : IsRightPack x.room host writer x.bytes = (s.flats number x.room x.there (making.Pack host writer) 0 x.bytes x.has).0 in
    had_item m s number (item.Index host writer) x.room right.content x.there right.stands

pub one_pack_host : (m : Moment) (s : IsSoundAt m) (number host other writer : ℕ) → HadItem m number (item.Packed host writer) → HadItem m number (item.Packed other writer) → host ≡ other
one_pack_host m s number host other writer a b = one_index_host m s number host other writer (pack_has_index m s number host writer a) (pack_has_index m s number other writer b)
