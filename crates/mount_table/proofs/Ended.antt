-- Rows that are ended one after the other.
use Rattle.std.proofs.Common.{◌≡◌, ℕ, zero, suc, ◌+◌, ◌<◌, ◌≤◌, List, [], ◌∷◌, ◌++◌, length, map, filter, not, ◌==◌, take, drop, get_or, refl, ap, sym, ◌∙◌, subst, arith}
use Rattle.std.specs.Prelude.{slice_set}
use Rattle.std.proofs.lemmas.List.{length-map}
use Rattle.mount_model.specs.declared.row.Row.{Row}
use Rattle.mount_model.specs.declared.row.Holder.{Holder}
use Rattle.mount_model.specs.declared.row.Flattening.{Flattening}
use Rattle.mount_model.specs.Stopping.{row_ended}
use Rattle.mount_model.proofs.Facts.{ended_regular}
use Rattle.mount_table.specs.Roll.{Roll, bare, IsRegularRoll}
use Rattle.mount_table.specs.Ending.{ended_to}

set_ended : (caller i : ℕ) (rows : List Row) (row : Row) → i < length rows → row ≡ get_or (ended_to caller i rows) i row → slice_set (ended_to caller i rows) i (row_ended caller row) ≡ ended_to caller (suc i) rows
set_ended caller i [] row lt is = absurd (omega arith)
set_ended caller zero (x ∷ rows) row lt is = ap (λ (r : Row). row_ended caller r ∷ rows) is
set_ended caller (suc i) (x ∷ rows) row lt is = ap (λ (rs : List Row). row_ended caller x ∷ rs) (set_ended caller i rows row (omega arith) is)

one_more : (caller i : ℕ) (rows : List Row) → ended_to caller (suc i) rows ≡ ended_to caller (i + 1) rows
one_more caller i rows = let e : suc i ≡ i + 1 = omega arith in ap (λ n. ended_to caller n rows) e

pub next_ended : (caller i : ℕ) (rows now : List Row) (row : Row) → now ≡ ended_to caller i rows → i < length rows → row ≡ get_or now i row → slice_set now i (row_ended caller (get_or now i row)) ≡ ended_to caller (i + 1) rows
next_ended caller i rows now row known lt is =
    ap (λ (r : Row). slice_set now i (row_ended caller r)) (sym is) ∙ ap (λ (l : List Row). slice_set l i (row_ended caller row)) known ∙ set_ended caller i rows row lt (subst (λ (l : List Row). row ≡ get_or l i row) known is) ∙ one_more caller i rows

pub all_ended : (caller i : ℕ) (rows : List Row) → length rows ≤ i → ended_to caller i rows ≡ map (row_ended caller) rows
all_ended caller zero [] le = refl
all_ended caller (suc i) [] le = refl
all_ended caller zero (x ∷ rows) le = absurd (omega arith)
all_ended caller (suc i) (x ∷ rows) le = ap (λ (rs : List Row). row_ended caller x ∷ rs) (all_ended caller i rows (omega arith))

-- ---- rows that were written back

none_left : (new items : List Row) → length items ≤ length new → drop (length new) items ≡ []
none_left [] [] le = refl
none_left [] (x ∷ items) le = absurd (omega arith)
none_left (y ∷ new) [] le = refl
none_left (y ∷ new) (x ∷ items) le = none_left new items (omega arith)

all_taken : (rows : List Row) → take (length rows) (rows ++ []) ≡ rows
all_taken [] = refl
all_taken (x ∷ rows) = ap (λ (rs : List Row). x ∷ rs) (all_taken rows)

pub written_back : (caller len : ℕ) (items new : List Row) → new ≡ map (row_ended caller) items → len ≡ length items → take len (new ++ drop (length new) items) ≡ map (row_ended caller) items
written_back caller len items new is same =
    let long : length new ≡ length items = ap length is ∙ length-map items (row_ended caller) in
    let count : len ≡ length new = same ∙ sym long in
    ap (λ (l : List Row). take len (new ++ l)) (none_left new items (omega (arith, long))) ∙ ap (λ n. take n (new ++ [])) count ∙ all_taken new ∙ is

-- ---- the roll of a caller at its end

abbrev stay_holders : ℕ → Roll → List Holder
stay_holders caller roll = filter (λ (h : Holder). not (h.owner == caller)) roll.table.holders

abbrev stay_flattenings : ℕ → Roll → List Flattening
stay_flattenings caller roll = filter (λ (f : Flattening). not (f.owner == caller)) roll.table.flattenings

pub ended_keeps : (caller : ℕ) (roll : Roll) (holders : List Holder) (flattenings : List Flattening) → holders ≡ stay_holders caller roll → flattenings ≡ stay_flattenings caller roll → IsRegularRoll roll
    → IsRegularRoll (record roll { table = record { writers = map (row_ended caller) roll.table.writers; holders = holders; flattenings = flattenings } })
ended_keeps caller roll holders flattenings holders_are flattenings_are regular =
    let r = ended_regular caller (bare roll) regular in
    rw (holders_are, flattenings_are) (record {
      mount_fits = r.mount_fits;
      serial_fits = r.serial_fits;
      counted = r.counted;
      ascending = r.ascending;
      drawn = r.drawn;
      apart = r.apart;
      holders = r.holders;
      flattenings = r.flattenings;
    })
