-- A roll stays regular where one of its rows changes.
use Rattle.std.proofs.Common.{◌≡◌, ℕ, ◌<◌, List, length, get_or, Option, Some, None, refl, ap, sym, subst}
use Rattle.std.specs.Prelude.{slice_get, slice_set, remove, ◌≢◌, IfSome}
use Rattle.std.proofs.lemmas.Option.{slice_get_read}
use Rattle.std.proofs.lemmas.List.Elements.{All-set}
use Rattle.store_api.specs.Acts.{Stored}
use Rattle.mount_model.specs.declared.row.Row.{Row}
use Rattle.mount_model.specs.State.{put, take_out}
use Rattle.mount_model.specs.Regular.{IsRegular, IsCounted, IsDrawn}
use Rattle.mount_table.specs.Roll.{Roll, IsRegularRoll, with_table, state_of, unknown}
use Rattle.mount_table.specs.Standing.{AtPlace}
use Rattle.mount_table.proofs.Rows.{All-at, All-remove, with_row_at, without_row_at, ascending_set, ascending_remove}

pub read : (rows : List Row) (place : ℕ) (row : Row) → place < length rows → row ≡ get_or rows place row → slice_get rows place ≡ Some row
read rows place row lt is = slice_get_read rows (length rows) place row refl lt is

-- a row that lies in memory beside something is the one that contracts see there
pub same_row : (rows : List Row) (place : ℕ) (row seen : Row) → row ≡ seen → seen ≡ get_or rows place seen → row ≡ get_or rows place row
same_row rows place row seen is stands = subst (λ (r : Row). r ≡ get_or rows place r) (sym is) stands

-- what holds of the row that was read holds of the row at its place
pub at_place : (roll : Roll) (place : ℕ) (row : Row) (P : Row → Type 0) → place < length roll.table.writers → row ≡ get_or roll.table.writers place row → P row → AtPlace roll.table place P
at_place roll place row P lt is holds = rw (read roll.table.writers place row lt is) holds

pub from_place : (roll : Roll) (place : ℕ) (row : Row) (P : Row → Type 0) → slice_get roll.table.writers place ≡ Some row → AtPlace roll.table place P → P row
from_place roll place row P stands holds = rw stands at holds

-- the place is within the rows, as they lie in memory and as contracts see them
pub within : (roll now : Roll) (place : ℕ) → roll ≡ now → place < length now.table.writers → place < length roll.table.writers
within roll now place view lt = subst (λ (r : Roll). place < length r.table.writers) (sym view) lt

-- what contracts say of the row at its place holds of the row that was read there
pub here : (roll now : Roll) (place : ℕ) (row : Row) (P : Row → Type 0) → roll ≡ now → place < length now.table.writers → row ≡ get_or roll.table.writers place row → AtPlace now.table place P → P row
here roll now place row P view lt is holds =
    from_place roll place row P (read roll.table.writers place row (within roll now place view lt) is) (subst (λ (n : Roll). AtPlace n.table place P) (sym view) holds)

pub at_now : (roll now : Roll) (place : ℕ) (row : Row) (P : Row → Type 0) → roll ≡ now → place < length now.table.writers → row ≡ get_or roll.table.writers place row → P row → AtPlace now.table place P
at_now roll now place row P view lt is holds =
    subst (λ (n : Roll). AtPlace n.table place P) view (at_place roll place row P (within roll now place view lt) is holds)

pub counted_at : (roll now : Roll) (place : ℕ) (row : Row) → roll ≡ now → IsRegularRoll roll → place < length now.table.writers → row ≡ get_or roll.table.writers place row → IsCounted row
counted_at roll now place row view regular lt is = All-at IsCounted roll.table.writers place row regular.counted (read roll.table.writers place row (within roll now place view lt) is)

-- another row of the same writer may stand in a row's place
pub put_keeps : (roll now : Roll) (place : ℕ) (row new : Row) → roll ≡ now → IsRegularRoll roll → place < length now.table.writers → row ≡ get_or roll.table.writers place row → IsCounted new → new.id ≡ row.id → new.room ≡ row.room → IsRegularRoll (with_table (record roll.table { writers = slice_set roll.table.writers place new }) roll)
put_keeps roll now place row new view regular lt is counted same_id same_room =
    let rows = roll.table.writers in
    let stands = read rows place row (within roll now place view lt) is in
    let state = state_of unknown unknown None roll in
    let drawn_row : IsDrawn state row.id = All-at (λ (r : Row). IsDrawn state r.id) rows place row regular.drawn stands in
    let apart_row : row.room ≢ roll.marks = All-at (λ (r : Row). r.room ≢ roll.marks) rows place row regular.apart stands in
    record {
      mount_fits = regular.mount_fits;
      serial_fits = regular.serial_fits;
      counted = All-set IsCounted rows place new counted regular.counted;
      ascending = ascending_set rows place row new regular.ascending stands same_id;
      drawn = All-set (λ (r : Row). IsDrawn state r.id) rows place new (subst (IsDrawn state) (sym same_id) drawn_row) regular.drawn;
      apart = All-set (λ (r : Row). r.room ≢ roll.marks) rows place new (subst (λ (n : ℕ). n ≢ roll.marks) (sym same_room) apart_row) regular.apart;
      holders = regular.holders;
      flattenings = regular.flattenings;
    }

-- then the roll is the one in which the writer's row was changed so
pub put_is : (roll now : Roll) (place : ℕ) (row : Row) (change : Row → Row) → roll ≡ now → IsRegularRoll roll → place < length now.table.writers → row ≡ get_or roll.table.writers place row → (change row).id ≡ row.id → AtPlace now.table place (λ r. with_table (record roll.table { writers = slice_set roll.table.writers place (change row) }) roll ≡ with_table (put (change r) now.table) now)
put_is roll now place row change view regular lt is same_id =
    let rows = roll.table.writers in
    let here = within roll now place view lt in
    let stands = read rows place row here is in
    let same = with_row_at rows place row (change row) regular.ascending stands same_id in
    subst (λ (n : Roll). AtPlace n.table place (λ r. with_table (record roll.table { writers = slice_set rows place (change row) }) roll ≡ with_table (put (change r) n.table) n)) view
    (at_place roll place row (λ r. with_table (record roll.table { writers = slice_set rows place (change row) }) roll ≡ with_table (put (change r) roll.table) roll) here is
    (ap (λ (l : List Row). with_table (record roll.table { writers = l }) roll) (sym same)))

taken : (roll : Roll) (place : ℕ) → IsRegularRoll roll → (found : Option Row) → slice_get roll.table.writers place ≡ found → IfSome found (λ row. with_table (record roll.table { writers = remove roll.table.writers place }) roll ≡ with_table (take_out row.id roll.table) roll)
taken roll place regular None is = tt
taken roll place regular (Some row) is =
    ap (λ (rows : List Row). with_table (record roll.table { writers = rows }) roll) (sym (without_row_at roll.table.writers place row regular.ascending is))

pub take_out_keeps : (roll : Roll) (place : ℕ) → IsRegularRoll roll → IsRegularRoll (with_table (record roll.table { writers = remove roll.table.writers place }) roll)
take_out_keeps roll place regular =
    let rows = roll.table.writers in
    let state = state_of unknown unknown None roll in
    record {
      mount_fits = regular.mount_fits;
      serial_fits = regular.serial_fits;
      counted = All-remove IsCounted rows place regular.counted;
      ascending = ascending_remove rows place regular.ascending;
      drawn = All-remove (λ (r : Row). IsDrawn state r.id) rows place regular.drawn;
      apart = All-remove (λ (r : Row). r.room ≢ roll.marks) rows place regular.apart;
      holders = regular.holders;
      flattenings = regular.flattenings;
    }

pub take_out_is : (roll now : Roll) (place : ℕ) → roll ≡ now → IsRegularRoll roll → AtPlace now.table place (λ row. with_table (record roll.table { writers = remove roll.table.writers place }) roll ≡ with_table (take_out row.id now.table) now)
take_out_is roll now place view regular =
    subst (λ (n : Roll). AtPlace n.table place (λ row. with_table (record roll.table { writers = remove roll.table.writers place }) roll ≡ with_table (take_out row.id n.table) n)) view
    (taken roll place regular (slice_get roll.table.writers place) refl)

-- whatever the store and the clock are
pub regular_as : (store opened : Stored) (times : Option (List ℕ)) (roll : Roll) → IsRegularRoll roll → IsRegular (state_of store opened times roll)
regular_as store opened times roll regular = record {
  mount_fits = regular.mount_fits;
  serial_fits = regular.serial_fits;
  counted = regular.counted;
  ascending = regular.ascending;
  drawn = regular.drawn;
  apart = regular.apart;
  holders = regular.holders;
  flattenings = regular.flattenings;
}
