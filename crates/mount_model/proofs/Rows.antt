-- The rows of a table stay regular where one of them changes.
use Rattle.std.proofs.Common.{◌≡◌, ◌≢◌, ℕ, ◌+◌, ◌<◌, ◌^◌, List, [], ◌∷◌, ◌++◌, map, filter, Bool, true, false, Some, None, sym, subst, arith, if◌then◌else◌}
use Rattle.std.specs.List.{All}
use Rattle.std.proofs.lemmas.List.{map-append}
use Rattle.std.proofs.lemmas.List.Elements.{All-nil, All-cons, All-head, All-tail, All-append, All-map, All-weaker}
use Rattle.mount_model.specs.declared.row.Row.{Row}
use Rattle.mount_model.specs.declared.row.Holder.{Holder}
use Rattle.mount_model.specs.declared.row.Flattening.{Flattening}
use Rattle.mount_model.specs.State.{State, Table, id_of}
use Rattle.mount_model.specs.Table.{row_of, with_row, without_row, holder_at, without_holder, flattening_at, with_flattening, without_flattening}
use Rattle.mount_model.specs.Regular.{IsCounted, AreAscending, IsOfSerial, Ascend, AreDrawn, AreHolders, AreFlattenings, IsRegular}
use Rattle.mount_model.proofs.Tables.{row_of_all, all-with_row, ascending-with_row, all-without_row, ascending-without_row, ascending-push}
use Rattle.mount_model.proofs.Holders as held

-- what is regular of the rows, of a mount whose last serial and marks' room these are
pub record AreRegular (mount last marks : ℕ) (rows : List Row) : Type 0 where
  pub counted : All IsCounted rows
  pub ascending : AreAscending rows
  pub drawn : All (λ (row : Row). IsOfSerial mount last row.id) rows
  pub apart : All (λ (row : Row). row.room ≢ marks) rows

-- what is regular of a table, in a state
pub record AreRegularFor (state : State) (table : Table) : Type 0 where
  pub writers : AreRegular state.mount state.serial state.marks table.writers
  pub holders : AreHolders state.mount state.serial state.marks table.holders
  pub flattenings : AreFlattenings state.mount state.serial state.marks table.flattenings

pub rows_of : (state : State) → IsRegular state → AreRegularFor state state.table
rows_of state r = record {
  writers = record { counted = r.counted; ascending = r.ascending; drawn = r.drawn; apart = r.apart };
  holders = r.holders;
  flattenings = r.flattenings;
}

pub regular_of : (state : State) → state.mount < 2 ^ 32 → state.serial < 2 ^ 32 → AreRegularFor state state.table → IsRegular state
regular_of state mount serial r = record {
  mount_fits = mount;
  serial_fits = serial;
  counted = r.writers.counted;
  ascending = r.writers.ascending;
  drawn = r.writers.drawn;
  apart = r.writers.apart;
  holders = r.holders;
  flattenings = r.flattenings;
}

-- another state of the same mount, with the same serials
pub regular_for : (state other : State) (table : Table) → other.mount ≡ state.mount → other.serial ≡ state.serial → other.marks ≡ state.marks → AreRegularFor state table → AreRegularFor other table
regular_for state other table mount serial marks r = record {
  writers = rw (mount, serial, marks) r.writers;
  holders = rw (mount, serial, marks) r.holders;
  flattenings = rw (mount, serial, marks) r.flattenings;
}

-- ---- one row

-- what is regular of the row that is found
pub record IsRegularRow (mount last marks : ℕ) (row : Row) : Type 0 where
  pub counted : IsCounted row
  pub drawn : IsOfSerial mount last row.id
  pub apart : row.room ≢ marks

pub regular_row : (mount last marks id : ℕ) (rows : List Row) (row : Row) → AreRegular mount last marks rows → row_of id rows ≡ Some row → IsRegularRow mount last marks row
regular_row mount last marks id rows row r e = record {
  counted = row_of_all IsCounted id rows row r.counted e;
  drawn = row_of_all (λ (x : Row). IsOfSerial mount last x.id) id rows row r.drawn e;
  apart = row_of_all (λ (x : Row). x.room ≢ marks) id rows row r.apart e;
}

-- ---- rows that change

pub regular_put : (mount last marks : ℕ) (rows : List Row) (new : Row) → IsRegularRow mount last marks new → AreRegular mount last marks rows → AreRegular mount last marks (with_row new rows)
regular_put mount last marks rows new is r = record {
  counted = all-with_row IsCounted new rows (λ row same c. is.counted) r.counted;
  ascending = ascending-with_row new rows r.ascending;
  drawn = all-with_row (λ (x : Row). IsOfSerial mount last x.id) new rows (λ row same d. is.drawn) r.drawn;
  apart = all-with_row (λ (x : Row). x.room ≢ marks) new rows (λ row same a. is.apart) r.apart;
}

pub regular_taken : (mount last marks id : ℕ) (rows : List Row) → AreRegular mount last marks rows → AreRegular mount last marks (without_row id rows)
regular_taken mount last marks id rows r = record {
  counted = all-without_row IsCounted id rows r.counted;
  ascending = ascending-without_row id rows r.ascending;
  drawn = all-without_row (λ (x : Row). IsOfSerial mount last x.id) id rows r.drawn;
  apart = all-without_row (λ (x : Row). x.room ≢ marks) id rows r.apart;
}

later_serial : (mount last id : ℕ) → IsOfSerial mount last id → IsOfSerial mount (last + 1) id
later_serial mount last id (serial, some, within, is) = (serial, some, omega (arith, within), is)

-- a serial is drawn
pub regular_drawn : (mount last marks : ℕ) (rows : List Row) → AreRegular mount last marks rows → AreRegular mount (last + 1) marks rows
regular_drawn mount last marks rows r = record {
  counted = r.counted;
  ascending = r.ascending;
  drawn = All-weaker (λ (x : Row). IsOfSerial mount last x.id) (λ (x : Row). IsOfSerial mount (last + 1) x.id) (λ x d. later_serial mount last x.id d) rows r.drawn;
  apart = r.apart;
}

below_next : (mount last id : ℕ) → IsOfSerial mount last id → id < id_of mount (last + 1)
below_next mount last id (serial, some, within, is) = omega (arith, within, is)

-- and a row is added that has it
pub regular_pushed : (mount last marks : ℕ) (rows : List Row) (new : Row) → new.id ≡ id_of mount (last + 1) → IsCounted new → new.room ≢ marks
    → AreRegular mount last marks rows → AreRegular mount (last + 1) marks (rows ++ new ∷ [])
regular_pushed mount last marks rows new is counted apart r =
    let wider = regular_drawn mount last marks rows r in
    let less : All (λ (row : Row). row.id < new.id) rows =
    All-weaker (λ (x : Row). IsOfSerial mount last x.id) (λ (x : Row). x.id < new.id) (λ x d. omega (arith, below_next mount last x.id d, is)) rows r.drawn in
    record {
      counted = All-append IsCounted rows (new ∷ []) r.counted (All-cons IsCounted new [] counted (All-nil IsCounted));
      ascending = ascending-push rows new less r.ascending;
      drawn = All-append (λ (x : Row). IsOfSerial mount (last + 1) x.id) rows (new ∷ []) wider.drawn
          (All-cons (λ (x : Row). IsOfSerial mount (last + 1) x.id) new [] (last + 1, omega arith, omega arith, is) (All-nil (λ (x : Row). IsOfSerial mount (last + 1) x.id)));
      apart = All-append (λ (x : Row). x.room ≢ marks) rows (new ∷ []) r.apart (All-cons (λ (x : Row). x.room ≢ marks) new [] apart (All-nil (λ (x : Row). x.room ≢ marks)));
    }

-- ---- who holds a room, and flattenings

none_drawn : (mount last marks : ℕ) → AreDrawn mount last marks [] []
none_drawn mount last marks = record { ascending = tt; drawn = All-nil (IsOfSerial mount last); apart = All-nil (λ room. room ≢ marks) }

pub no_holders : (mount last marks : ℕ) → AreHolders mount last marks []
no_holders mount last marks = none_drawn mount last marks

pub no_flattenings : (mount last marks : ℕ) → AreFlattenings mount last marks []
no_flattenings mount last marks = none_drawn mount last marks

-- a serial is drawn
pub drawn_later : (mount last marks : ℕ) (numbers rooms : List ℕ) → AreDrawn mount last marks numbers rooms → AreDrawn mount (last + 1) marks numbers rooms
drawn_later mount last marks numbers rooms d = record {
  ascending = d.ascending;
  drawn = All-weaker (IsOfSerial mount last) (IsOfSerial mount (last + 1)) (λ id is. later_serial mount last id is) numbers d.drawn;
  apart = d.apart;
}

-- and a number is added that has it
drawn_pushed : (mount last marks number room : ℕ) (numbers rooms : List ℕ) → number ≡ id_of mount (last + 1) → room ≢ marks
    → AreDrawn mount last marks numbers rooms → AreDrawn mount (last + 1) marks (numbers ++ number ∷ []) (rooms ++ room ∷ [])
drawn_pushed mount last marks number room numbers rooms is apart d =
    let wider = drawn_later mount last marks numbers rooms d in
    let less : All (λ other. other < number) numbers =
    All-weaker (IsOfSerial mount last) (λ other. other < number) (λ other o. omega (arith, below_next mount last other o, is)) numbers d.drawn in
    record {
      ascending = held.ascend-push numbers number less d.ascending;
      drawn = All-append (IsOfSerial mount (last + 1)) numbers (number ∷ []) wider.drawn
          (All-cons (IsOfSerial mount (last + 1)) number [] (last + 1, omega arith, omega arith, is) (All-nil (IsOfSerial mount (last + 1))));
      apart = All-append (λ r. r ≢ marks) rooms (room ∷ []) d.apart (All-cons (λ r. r ≢ marks) room [] apart (All-nil (λ r. r ≢ marks)));
    }

-- none has the next number
next_apart : (mount last marks : ℕ) (numbers rooms : List ℕ) → AreDrawn mount last marks numbers rooms → All (λ number. number ≡ id_of mount (last + 1) → ⊥) numbers
next_apart mount last marks numbers rooms d =
    All-weaker (IsOfSerial mount last) (λ number. number ≡ id_of mount (last + 1) → ⊥) (λ number o same. omega (arith, below_next mount last number o, same)) numbers d.drawn

module _ (mount last marks : ℕ) (holders : List Holder) where
  pub holders_pushed : (new : Holder) → new.number ≡ id_of mount (last + 1) → new.room ≢ marks → AreHolders mount last marks holders → AreHolders mount (last + 1) marks (holders ++ new ∷ [])
  holders_pushed new is apart are =
      rw (map-append (λ (h : Holder). h.number) holders (new ∷ []), map-append (λ (h : Holder). h.room) holders (new ∷ []))
      (drawn_pushed mount last marks new.number new.room (map (λ (h : Holder). h.number) holders) (map (λ (h : Holder). h.room) holders) is apart are)

  pub holders_without : (number : ℕ) → AreHolders mount last marks holders → AreHolders mount last marks (without_holder number holders)
  holders_without number are = record {
    ascending = held.ascend-without_holder number holders are.ascending;
    drawn = held.all_of-without_holder (IsOfSerial mount last) (λ (h : Holder). h.number) number holders are.drawn;
    apart = held.all_of-without_holder (λ room. room ≢ marks) (λ (h : Holder). h.room) number holders are.apart;
  }

  -- who is found to hold a room holds no marks' room
  pub holder_apart : (number : ℕ) (h : Holder) → AreHolders mount last marks holders → holder_at number holders ≡ Some h → h.room ≢ marks
  holder_apart number h are found = held.holder_at_all (λ (x : Holder). x.room ≢ marks) number holders h
      (held.all-unmap (λ room. room ≢ marks) (λ (x : Holder). x.room) holders are.apart) found

  -- nobody holds by the next number
  pub next_not_held : AreHolders mount last marks holders → holder_at (id_of mount (last + 1)) holders ≡ None
  next_not_held are = held.holder_at_none (id_of mount (last + 1)) holders
      (held.all-unmap (λ number. number ≡ id_of mount (last + 1) → ⊥) (λ (h : Holder). h.number) holders (next_apart mount last marks _ _ are))

module _ (mount last marks : ℕ) (flattenings : List Flattening) where
  pub flattenings_pushed : (new : Flattening) → new.id ≡ id_of mount (last + 1) → new.room ≢ marks → AreFlattenings mount last marks flattenings → AreFlattenings mount (last + 1) marks (flattenings ++ new ∷ [])
  flattenings_pushed new is apart are =
      rw (map-append (λ (f : Flattening). f.id) flattenings (new ∷ []), map-append (λ (f : Flattening). f.room) flattenings (new ∷ []))
      (drawn_pushed mount last marks new.id new.room (map (λ (f : Flattening). f.id) flattenings) (map (λ (f : Flattening). f.room) flattenings) is apart are)

  pub flattenings_with : (new : Flattening) → new.room ≢ marks → AreFlattenings mount last marks flattenings → AreFlattenings mount last marks (with_flattening new flattenings)
  flattenings_with new apart are = record {
    ascending = subst Ascend (sym (held.ids-with_flattening new flattenings)) are.ascending;
    drawn = subst (All (IsOfSerial mount last)) (sym (held.ids-with_flattening new flattenings)) are.drawn;
    apart = All-map (λ room. room ≢ marks) (λ (f : Flattening). f.room) (with_flattening new flattenings)
        (held.all-with_flattening (λ (f : Flattening). f.room ≢ marks) new flattenings (λ f same a. apart)
        (held.all-unmap (λ room. room ≢ marks) (λ (f : Flattening). f.room) flattenings are.apart));
  }

  pub flattenings_without : (id : ℕ) → AreFlattenings mount last marks flattenings → AreFlattenings mount last marks (without_flattening id flattenings)
  flattenings_without id are = record {
    ascending = held.ascend-without_flattening id flattenings are.ascending;
    drawn = held.all_of-without_flattening (IsOfSerial mount last) (λ (f : Flattening). f.id) id flattenings are.drawn;
    apart = held.all_of-without_flattening (λ room. room ≢ marks) (λ (f : Flattening). f.room) id flattenings are.apart;
  }

  -- the flattening that is found is of no marks' room
  pub flattening_apart : (id : ℕ) (f : Flattening) → AreFlattenings mount last marks flattenings → flattening_at id flattenings ≡ Some f → f.room ≢ marks
  flattening_apart id f are found = held.flattening_at_all (λ (x : Flattening). x.room ≢ marks) id flattenings f
      (held.all-unmap (λ room. room ≢ marks) (λ (x : Flattening). x.room) flattenings are.apart) found

  -- no flattening has the next id
  pub next_not_flattened : AreFlattenings mount last marks flattenings → flattening_at (id_of mount (last + 1)) flattenings ≡ None
  next_not_flattened are = held.flattening_at_none (id_of mount (last + 1)) flattenings
      (held.all-unmap (λ id. id ≡ id_of mount (last + 1) → ⊥) (λ (f : Flattening). f.id) flattenings (next_apart mount last marks _ _ are))

-- some of them go
module _ {X : Type 0} (number room : X → ℕ) (stays : X → Bool) where
  all_some : (P : ℕ → Type 0) (of : X → ℕ) (xs : List X) → All P (map of xs) → All P (map of (filter stays xs))
  all_some P of [] all = all
  all_some P of (x ∷ xs) all = elim (stays x) as (λ b. All P (map of (if b then x ∷ filter stays xs else filter stays xs))) [
    | true ↦ All-cons P (of x) (map of (filter stays xs)) (All-head P (of x) (map of xs) all) (all_some P of xs (All-tail P (of x) (map of xs) all))
    | false ↦ all_some P of xs (All-tail P (of x) (map of xs) all)
  ]

  ascend_some : (xs : List X) → Ascend (map number xs) → Ascend (map number (filter stays xs))
  ascend_some [] a = tt
  ascend_some (x ∷ xs) a = elim (stays x) as (λ b. Ascend (map number (if b then x ∷ filter stays xs else filter stays xs))) [
    | true ↦ (all_some (λ later. number x < later) number xs a.0, ascend_some xs a.1)
    | false ↦ ascend_some xs a.1
  ]

  pub some_drawn : (mount last marks : ℕ) (xs : List X) → AreDrawn mount last marks (map number xs) (map room xs) → AreDrawn mount last marks (map number (filter stays xs)) (map room (filter stays xs))
  some_drawn mount last marks xs d = record {
    ascending = ascend_some xs d.ascending;
    drawn = all_some (IsOfSerial mount last) number xs d.drawn;
    apart = all_some (λ room. room ≢ marks) room xs d.apart;
  }
