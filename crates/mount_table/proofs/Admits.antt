-- A roll stays regular where a serial is drawn, and where a writer is added or taken from the end.
use Rattle.std.proofs.Common.{◌≡◌, ℕ, zero, suc, ◌+◌, ◌-◌, ◌^◌, ◌<◌, ◌≤◌, List, [], ◌∷◌, ◌++◌, length, take, map, refl, sym, subst, arith, inl, None, false, nat_eq}
use Rattle.std.specs.Prelude.{◌≢◌, nat_le}
use Rattle.std.specs.List.{All}
use Rattle.std.proofs.lemmas.List.{take_at, length_push}
use Rattle.std.proofs.lemmas.List.Elements.{All-nil, All-push, All-weaker, All-take}
use Rattle.std.proofs.lemmas.Bool.Decides.{nat_tests}
use Rattle.index_entry.specs.Valid.{IsValidEntry}
use Rattle.mount_model.specs.declared.row.Row.{Row}
use Rattle.mount_model.specs.declared.row.Holder.{Holder}
use Rattle.mount_model.specs.declared.row.Flattening.{Flattening}
use Rattle.mount_model.specs.State.{State, id_of}
use Rattle.mount_model.specs.Entering.{entered, draw_check, next_id}
use Rattle.mount_model.specs.Regular.{IsCounted, IsDrawn, IsOfSerial, AreAscending}
use Rattle.mount_model.proofs.Facts.{all-unmap, drawn_later as drawn_more}
use Rattle.mount_table.specs.Roll.{Roll, IsRegularRoll, bare}
use Rattle.mount_table.specs.Admitting.{with_next, with_writers, IsNextId, IsNewcomer}
use Rattle.mount_table.proofs.Rows.{ascending_push}

pub drawn_later : (roll : Roll) (id : ℕ) → IsDrawn (bare roll) id → IsDrawn (bare (with_next roll)) id
drawn_later roll id drawn = (drawn.0, drawn.1, omega (arith, drawn.2), drawn.3)

pub next_keeps : (roll : Roll) → IsRegularRoll roll → roll.serial + 1 < 2 ^ 32 → IsRegularRoll (with_next roll)
next_keeps roll regular fits = record {
  mount_fits = regular.mount_fits;
  serial_fits = fits;
  counted = regular.counted;
  ascending = regular.ascending;
  drawn = All-weaker (λ (row : Row). IsDrawn (bare roll) row.id) (λ (row : Row). IsDrawn (bare (with_next roll)) row.id) (λ row drawn. drawn_later roll row.id drawn) roll.table.writers regular.drawn;
  apart = regular.apart;
  holders = drawn_more roll.mount roll.serial roll.marks _ _ regular.holders;
  flattenings = drawn_more roll.mount roll.serial roll.marks _ _ regular.flattenings;
}

-- no reason refuses it
pub granted : (roll : Roll) (room : ℕ) → room ≢ roll.marks → roll.serial + 1 < 2 ^ 32 → draw_check (bare roll) room ≡ None
granted roll room apart fits =
    let other : nat_eq room roll.marks ≡ false = grind (arith, nat_tests) in
    let more : nat_le (2 ^ 32 - 1) roll.serial ≡ false = grind (arith, nat_tests) in
    rw (other, more) refl

-- the next id is above those that were drawn
pub next_above : (roll : Roll) → IsRegularRoll roll → All (λ (row : Row). row.id < next_id (bare roll)) roll.table.writers
next_above roll regular =
    All-weaker (λ (row : Row). IsDrawn (bare roll) row.id) (λ (row : Row). row.id < next_id (bare roll)) (λ row drawn. omega (arith, drawn.2, drawn.3)) roll.table.writers regular.drawn

all_below : {A : Type 0} (key : A → ℕ) (mount last : ℕ) (xs : List A) → All (IsOfSerial mount last) (map key xs) → All (λ (x : A). key x < id_of mount (last + 1)) xs
all_below {A} key mount last xs all =
    All-weaker (λ (x : A). IsOfSerial mount last (key x)) (λ (x : A). key x < id_of mount (last + 1)) (λ x drawn. omega (arith, drawn.2, drawn.3)) xs (all-unmap (IsOfSerial mount last) key xs all)

pub next_above_holders : (roll : Roll) → IsRegularRoll roll → All (λ (h : Holder). h.number < next_id (bare roll)) roll.table.holders
next_above_holders roll regular = all_below (λ (h : Holder). h.number) roll.mount roll.serial roll.table.holders regular.holders.drawn

pub next_above_flattenings : (roll : Roll) → IsRegularRoll roll → All (λ (f : Flattening). f.id < next_id (bare roll)) roll.table.flattenings
next_above_flattenings roll regular = all_below (λ (f : Flattening). f.id) roll.mount roll.serial roll.table.flattenings regular.flattenings.drawn

pub add_keeps : (roll : Roll) (row : Row) → IsRegularRoll roll → IsNewcomer roll row → IsRegularRoll (with_writers (roll.table.writers ++ row ∷ []) roll)
add_keeps roll row regular new = record {
  mount_fits = regular.mount_fits;
  serial_fits = regular.serial_fits;
  counted = All-push IsCounted roll.table.writers row regular.counted new.counted;
  ascending = ascending_push roll.table.writers row regular.ascending new.above;
  drawn = All-push (λ (r : Row). IsDrawn (bare roll) r.id) roll.table.writers row regular.drawn new.drawn;
  apart = All-push (λ (r : Row). r.room ≢ roll.marks) roll.table.writers row regular.apart new.apart;
  holders = regular.holders;
  flattenings = regular.flattenings;
}

ascending_take : (n : ℕ) (rows : List Row) → AreAscending rows → AreAscending (take n rows)
ascending_take zero rows rises = tt
ascending_take (suc n) [] rises = tt
ascending_take (suc n) (row ∷ rows) rises = (All-take (λ (r : Row). row.id < r.id) n rows rises.0, ascending_take n rows rises.1)

pub take_keeps : (roll : Roll) (n : ℕ) → IsRegularRoll roll → IsRegularRoll (with_writers (take n roll.table.writers) roll)
take_keeps roll n regular = record {
  mount_fits = regular.mount_fits;
  serial_fits = regular.serial_fits;
  counted = All-take IsCounted n roll.table.writers regular.counted;
  ascending = ascending_take n roll.table.writers regular.ascending;
  drawn = All-take (λ (r : Row). IsDrawn (bare roll) r.id) n roll.table.writers regular.drawn;
  apart = All-take (λ (r : Row). r.room ≢ roll.marks) n roll.table.writers regular.apart;
  holders = regular.holders;
  flattenings = regular.flattenings;
}

-- without its last row
pub front : (rows writers : List Row) (row : Row) → writers ≡ rows ++ row ∷ [] → take (length writers - 1) writers ≡ rows
front rows writers row is =
    let count : length rows ≡ length (rows ++ row ∷ []) - 1 = omega (arith, length_push rows row) in
    subst (λ (l : List Row). take (length l - 1) l ≡ rows) (sym is) (take_at rows (row ∷ []) (length (rows ++ row ∷ []) - 1) count)

pub entered_counted : (state : State) (caller room host capacity : ℕ) → host < 2 ^ 32 → 1 ≤ capacity → capacity ≤ 4096 → IsCounted (entered state caller room host capacity)
entered_counted state caller room host capacity host_fits some few = record {
  host_fits = host_fits;
  some_cap = some;
  cap_fits = few;
  log_marked = omega arith;
  index_marked = omega arith;
  within_cap = omega arith;
  valid = All-nil IsValidEntry;
  entries = omega arith;
  stored_fits = omega arith;
  end_fits = omega arith;
  last_fits = omega arith;
  floor_fits = omega arith;
  written = inl (refl, refl, refl);
}

pub newcomer : (old new : Roll) (id caller room host capacity : ℕ) → IsNextId room old id new → host < 2 ^ 32 → 1 ≤ capacity → capacity ≤ 4096 → IsNewcomer new (entered (bare old) caller room host capacity)
newcomer old new id caller room host capacity next host_fits some few =
    subst (λ (r : Roll). IsNewcomer r (entered (bare old) caller room host capacity)) (sym next.left) (record {
      counted = entered_counted (bare old) caller room host capacity host_fits some few;
      drawn = (old.serial + 1, omega arith, omega arith, refl);
      apart = next.apart;
      above = subst (λ (n : ℕ). All (λ (row : Row). row.id < n) old.table.writers) next.id_is next.above;
    })
