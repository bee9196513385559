-- A roll stays regular where a holder or a flattening is added, changed, or taken out.
use Rattle.std.proofs.Common.{◌≡◌, ◌≢◌, ℕ, zero, suc, ◌<◌, List, [], ◌∷◌, ◌++◌, length, map, take, get_or, Option, Some, None, nat_eq, true, false, arith, refl, ap, sym, ◌∙◌, subst, ◌==◌, ◌||◌, if◌then◌else◌}
use Rattle.std.specs.Prelude.{slice_get, slice_set, remove}
use Rattle.std.specs.List.{All, list_any}
use Rattle.std.proofs.lemmas.Option.{none-some, same_Some, slice_get_read}
use Rattle.std.proofs.lemmas.List.{map_push, take-map}
use Rattle.std.proofs.lemmas.List.Elements.{All-cons, All-map, All-push, All-take, All-head, All-tail}
use Rattle.container_layout.specs.declared.items.Item.{Item}
use Rattle.container_layout.specs.declared.items.Item.TheVariants.{OpenHost}
use Rattle.container_layout.specs.Paths.{IsAt, IsIn}
use Rattle.mount_model.specs.declared.row.Holder.{Holder}
use Rattle.mount_model.specs.declared.row.Flattening.{Flattening}
use Rattle.mount_model.specs.declared.row.FlatStage.{FlatStage}
use Rattle.mount_model.specs.Paths.{Name}
use Rattle.container_layout.specs.Paths.{openhosts}
use Rattle.mount_model.specs.Table.{holder_at, without_holder, is_held_room, flattening_at, with_flattening, without_flattening}
use Rattle.mount_model.specs.Holding.{IsNoWriters, let_go}
use Rattle.mount_model.specs.Flattening.{come_to, drop_flat}
use Rattle.mount_model.specs.Regular.{IsOfSerial, Ascend, AreDrawn, AreHolders, AreFlattenings}
use Rattle.mount_model.proofs.Facts.{ascend-push, flattening_at_id}
use Rattle.mount_table.specs.Roll.{Roll, IsRegularRoll, with_table}
use Rattle.mount_table.specs.Admitting.{with_holders, with_flattenings, IsNewHolder, IsNewFlattening}
use Rattle.mount_table.proofs.Rows.{same_test, other_test}
use Rattle.mount_table.proofs.Numbered.{item_of, without, without_none, without_found, ascend_take, map_replaced, at_map}

-- ---- the words of the table are those of items by number

pub holder_is : (number : ℕ) (holders : List Holder) → holder_at number holders ≡ item_of (λ (h : Holder). h.number) number holders
holder_is number [] = refl
holder_is number (h ∷ holders) = ap (λ (o : Option Holder). if h.number == number then Some h else o) (holder_is number holders)

without_holder_is : (number : ℕ) (holders : List Holder) → without_holder number holders ≡ without (λ (h : Holder). h.number) number holders
without_holder_is number [] = refl
without_holder_is number (h ∷ holders) = ap (λ (hs : List Holder). if h.number == number then holders else h ∷ hs) (without_holder_is number holders)

pub flattening_is : (id : ℕ) (flattenings : List Flattening) → flattening_at id flattenings ≡ item_of (λ (f : Flattening). f.id) id flattenings
flattening_is id [] = refl
flattening_is id (f ∷ flattenings) = ap (λ (o : Option Flattening). if f.id == id then Some f else o) (flattening_is id flattenings)

without_flattening_is : (id : ℕ) (flattenings : List Flattening) → without_flattening id flattenings ≡ without (λ (f : Flattening). f.id) id flattenings
without_flattening_is id [] = refl
without_flattening_is id (f ∷ flattenings) = ap (λ (fs : List Flattening). if f.id == id then flattenings else f ∷ fs) (without_flattening_is id flattenings)

pub held_among : (room : ℕ) (holders : List Holder) → list_any (λ (h : Holder). nat_eq h.room room) holders ≡ is_held_room room holders
held_among room [] = refl
held_among room (h ∷ holders) = ap (λ b. h.room == room || b) (held_among room holders)

-- ---- numbers that were drawn

drawn_pushed : (mount last marks number room : ℕ) (numbers rooms : List ℕ) → IsOfSerial mount last number → room ≢ marks → All (λ other. other < number) numbers → AreDrawn mount last marks numbers rooms → AreDrawn mount last marks (numbers ++ number ∷ []) (rooms ++ room ∷ [])
drawn_pushed mount last marks number room numbers rooms new apart above d = record {
  ascending = ascend-push numbers number above d.ascending;
  drawn = All-push (IsOfSerial mount last) numbers number d.drawn new;
  apart = All-push (λ r. r ≢ marks) rooms room d.apart apart;
}

drawn_taken : (mount last marks n : ℕ) (numbers rooms : List ℕ) → AreDrawn mount last marks numbers rooms → AreDrawn mount last marks (take n numbers) (take n rooms)
drawn_taken mount last marks n numbers rooms d = record {
  ascending = ascend_take n numbers d.ascending;
  drawn = All-take (IsOfSerial mount last) n numbers d.drawn;
  apart = All-take (λ r. r ≢ marks) n rooms d.apart;
}

all_without : {A : Type 0} (key : A → ℕ) (P : ℕ → Type 0) (of : A → ℕ) (n : ℕ) (xs : List A) → All P (map of xs) → All P (map of (without key n xs))
all_without key P of n [] all = all
all_without {A} key P of n (x ∷ xs) all = elim (nat_eq (key x) n) as (λ b. All P (map of (if b then xs else x ∷ without key n xs))) [
  | true ↦ All-tail P (of x) (map of xs) all
  | false ↦ All-cons P (of x) (map of (without key n xs)) (All-head P (of x) (map of xs) all) (all_without key P of n xs (All-tail P (of x) (map of xs) all))
]

ascend_without : {A : Type 0} (key : A → ℕ) (n : ℕ) (xs : List A) → Ascend (map key xs) → Ascend (map key (without key n xs))
ascend_without key n [] rises = tt
ascend_without {A} key n (x ∷ xs) rises = elim (nat_eq (key x) n) as (λ b. Ascend (map key (if b then xs else x ∷ without key n xs))) [
  | true ↦ rises.1
  | false ↦ (all_without key (λ later. key x < later) key n xs rises.0, ascend_without key n xs rises.1)
]

drawn_without : {A : Type 0} (key room : A → ℕ) (mount last marks n : ℕ) (xs : List A) → AreDrawn mount last marks (map key xs) (map room xs) → AreDrawn mount last marks (map key (without key n xs)) (map room (without key n xs))
drawn_without key room mount last marks n xs d = record {
  ascending = ascend_without key n xs d.ascending;
  drawn = all_without key (IsOfSerial mount last) key n xs d.drawn;
  apart = all_without key (λ r. r ≢ marks) room n xs d.apart;
}

-- ---- a regular roll with other holders, or other flattenings

holders_keep : (roll : Roll) (holders : List Holder) → IsRegularRoll roll → AreHolders roll.mount roll.serial roll.marks holders → IsRegularRoll (with_holders holders roll)
holders_keep roll holders r are = record {
  mount_fits = r.mount_fits;
  serial_fits = r.serial_fits;
  counted = r.counted;
  ascending = r.ascending;
  drawn = r.drawn;
  apart = r.apart;
  holders = are;
  flattenings = r.flattenings;
}

flattenings_keep : (roll : Roll) (flattenings : List Flattening) → IsRegularRoll roll → AreFlattenings roll.mount roll.serial roll.marks flattenings → IsRegularRoll (with_flattenings flattenings roll)
flattenings_keep roll flattenings r are = record {
  mount_fits = r.mount_fits;
  serial_fits = r.serial_fits;
  counted = r.counted;
  ascending = r.ascending;
  drawn = r.drawn;
  apart = r.apart;
  holders = r.holders;
  flattenings = are;
}

pub add_holder_keeps : (roll : Roll) (h : Holder) → IsRegularRoll roll → IsNewHolder roll h → IsRegularRoll (with_holders (roll.table.holders ++ h ∷ []) roll)
add_holder_keeps roll h r new =
    let hs = roll.table.holders in
    holders_keep roll (hs ++ h ∷ []) r
    (rw (map_push (λ (x : Holder). x.number) hs h, map_push (λ (x : Holder). x.room) hs h)
    (drawn_pushed roll.mount roll.serial roll.marks h.number h.room (map (λ (x : Holder). x.number) hs) (map (λ (x : Holder). x.room) hs) new.drawn new.apart
    (All-map (λ other. other < h.number) (λ (x : Holder). x.number) hs new.above) r.holders))

pub take_holders_keeps : (roll : Roll) (n : ℕ) → IsRegularRoll roll → IsRegularRoll (with_holders (take n roll.table.holders) roll)
take_holders_keeps roll n r =
    let hs = roll.table.holders in
    holders_keep roll (take n hs) r
    (rw (← take-map (λ (x : Holder). x.number) n hs, ← take-map (λ (x : Holder). x.room) n hs)
    (drawn_taken roll.mount roll.serial roll.marks n (map (λ (x : Holder). x.number) hs) (map (λ (x : Holder). x.room) hs) r.holders))

pub add_flattening_keeps : (roll : Roll) (f : Flattening) → IsRegularRoll roll → IsNewFlattening roll f → IsRegularRoll (with_flattenings (roll.table.flattenings ++ f ∷ []) roll)
add_flattening_keeps roll f r new =
    let fs = roll.table.flattenings in
    flattenings_keep roll (fs ++ f ∷ []) r
    (rw (map_push (λ (x : Flattening). x.id) fs f, map_push (λ (x : Flattening). x.room) fs f)
    (drawn_pushed roll.mount roll.serial roll.marks f.id f.room (map (λ (x : Flattening). x.id) fs) (map (λ (x : Flattening). x.room) fs) new.drawn new.apart
    (All-map (λ other. other < f.id) (λ (x : Flattening). x.id) fs new.above) r.flattenings))

pub take_flattenings_keeps : (roll : Roll) (n : ℕ) → IsRegularRoll roll → IsRegularRoll (with_flattenings (take n roll.table.flattenings) roll)
take_flattenings_keeps roll n r =
    let fs = roll.table.flattenings in
    flattenings_keep roll (take n fs) r
    (rw (← take-map (λ (x : Flattening). x.id) n fs, ← take-map (λ (x : Flattening). x.room) n fs)
    (drawn_taken roll.mount roll.serial roll.marks n (map (λ (x : Flattening). x.id) fs) (map (λ (x : Flattening). x.room) fs) r.flattenings))

-- ---- one that was searched for is taken out

pub holder_out : (number place : ℕ) (holders : List Holder) → Ascend (map (λ (h : Holder). h.number) holders) → slice_get holders place ≡ holder_at number holders → place < length holders → without_holder number holders ≡ remove holders place
holder_out number place holders rises is lt = without_holder_is number holders ∙ without_found (λ (h : Holder). h.number) number place holders None rises (is ∙ holder_is number holders) lt

pub let_go_keeps : (roll : Roll) (number place : ℕ) → IsRegularRoll roll → slice_get roll.table.holders place ≡ holder_at number roll.table.holders → place < length roll.table.holders → IsRegularRoll (with_holders (remove roll.table.holders place) roll)
let_go_keeps roll number place r is lt =
    let hs = roll.table.holders in
    let same = without_found (λ (h : Holder). h.number) number place hs None r.holders.ascending (is ∙ holder_is number hs) lt in
    holders_keep roll (remove hs place) r
    (subst (λ (l : List Holder). AreHolders roll.mount roll.serial roll.marks l) same
    (drawn_without (λ (h : Holder). h.number) (λ (h : Holder). h.room) roll.mount roll.serial roll.marks number hs r.holders))

pub let_go_is : (roll now : Roll) (number place : ℕ) → roll ≡ now → IsRegularRoll roll → slice_get roll.table.holders place ≡ holder_at number roll.table.holders → place < length roll.table.holders → with_holders (remove roll.table.holders place) roll ≡ with_table (let_go number now.table) now
let_go_is roll now number place view r is lt =
    subst (λ (n : Roll). with_holders (remove roll.table.holders place) roll ≡ with_table (let_go number n.table) n) view
    (ap (λ (hs : List Holder). with_holders hs roll) (sym (holder_out number place roll.table.holders r.holders.ascending is lt)))

pub let_go_none : (roll now : Roll) (number : ℕ) → roll ≡ now → holder_at number roll.table.holders ≡ None → now ≡ with_table (let_go number now.table) now
let_go_none roll now number view none =
    let hs = roll.table.holders in
    let same = without_holder_is number hs ∙ without_none (λ (h : Holder). h.number) number hs (sym (holder_is number hs) ∙ none) in
    subst (λ (n : Roll). n ≡ with_table (let_go number n.table) n) view (ap (λ (l : List Holder). with_holders l roll) (sym same))

pub flattening_out : (id place : ℕ) (flattenings : List Flattening) → Ascend (map (λ (f : Flattening). f.id) flattenings) → slice_get flattenings place ≡ flattening_at id flattenings → place < length flattenings → without_flattening id flattenings ≡ remove flattenings place
flattening_out id place flattenings rises is lt = without_flattening_is id flattenings ∙ without_found (λ (f : Flattening). f.id) id place flattenings None rises (is ∙ flattening_is id flattenings) lt

pub drop_flat_keeps : (roll : Roll) (id place : ℕ) → IsRegularRoll roll → slice_get roll.table.flattenings place ≡ flattening_at id roll.table.flattenings → place < length roll.table.flattenings → IsRegularRoll (with_flattenings (remove roll.table.flattenings place) roll)
drop_flat_keeps roll id place r is lt =
    let fs = roll.table.flattenings in
    let same = without_found (λ (f : Flattening). f.id) id place fs None r.flattenings.ascending (is ∙ flattening_is id fs) lt in
    flattenings_keep roll (remove fs place) r
    (subst (λ (l : List Flattening). AreFlattenings roll.mount roll.serial roll.marks l) same
    (drawn_without (λ (f : Flattening). f.id) (λ (f : Flattening). f.room) roll.mount roll.serial roll.marks id fs r.flattenings))

pub drop_flat_is : (roll now : Roll) (id place : ℕ) → roll ≡ now → IsRegularRoll roll → slice_get roll.table.flattenings place ≡ flattening_at id roll.table.flattenings → place < length roll.table.flattenings → with_flattenings (remove roll.table.flattenings place) roll ≡ with_table (drop_flat id now.table) now
drop_flat_is roll now id place view r is lt =
    subst (λ (n : Roll). with_flattenings (remove roll.table.flattenings place) roll ≡ with_table (drop_flat id n.table) n) view
    (ap (λ (fs : List Flattening). with_flattenings fs roll) (sym (flattening_out id place roll.table.flattenings r.flattenings.ascending is lt)))

pub drop_flat_none : (roll now : Roll) (id : ℕ) → roll ≡ now → flattening_at id roll.table.flattenings ≡ None → now ≡ with_table (drop_flat id now.table) now
drop_flat_none roll now id view none =
    let fs = roll.table.flattenings in
    let same = without_flattening_is id fs ∙ without_none (λ (f : Flattening). f.id) id fs (sym (flattening_is id fs) ∙ none) in
    subst (λ (n : Roll). n ≡ with_table (drop_flat id n.table) n) view (ap (λ (l : List Flattening). with_flattenings l roll) (sym same))

-- ---- a flattening comes to another stage

pub staged_keeps : (roll : Roll) (place : ℕ) (f new : Flattening) → IsRegularRoll roll → slice_get roll.table.flattenings place ≡ Some f → new.id ≡ f.id → new.room ≡ f.room → IsRegularRoll (with_flattenings (slice_set roll.table.flattenings place new) roll)
staged_keeps roll place f new r stands same_id same_room =
    let fs = roll.table.flattenings in
    flattenings_keep roll (slice_set fs place new) r
    (rw (map_replaced (λ (x : Flattening). x.id) place fs f new stands same_id, map_replaced (λ (x : Flattening). x.room) place fs f new stands same_room) r.flattenings)

with_flattening_at : (fs : List Flattening) (i : ℕ) (f new : Flattening) → Ascend (map (λ (x : Flattening). x.id) fs) → slice_get fs i ≡ Some f → new.id ≡ f.id → with_flattening new fs ≡ slice_set fs i new
with_flattening_at [] i f new rises stands same = absurd (none-some f stands)
with_flattening_at (x ∷ fs) zero f new rises stands same =
    let test : nat_eq x.id new.id ≡ true = same_test x.id new.id (ap (λ (y : Flattening). y.id) (same_Some x f stands) ∙ sym same) in
    rw test refl
with_flattening_at (x ∷ fs) (suc i) f new rises stands same =
    let above : x.id < f.id = at_map (λ (y : Flattening). y.id) (λ later. x.id < later) i fs f rises.0 stands in
    let other : x.id ≡ new.id → ⊥ = λ e. omega (arith, e, same, above) in
    rw (other_test x.id new.id other) (ap (λ (l : List Flattening). x ∷ l) (with_flattening_at fs i f new rises.1 stands same))

-- what was read at the place is the flattening that was searched for
read_is : (fs : List Flattening) (id place : ℕ) (f g : Flattening) → slice_get fs place ≡ flattening_at id fs → place < length fs → flattening_at id fs ≡ Some f → g ≡ get_or fs place g → g ≡ f
read_is fs id place f g is lt there read = same_Some g f (sym (slice_get_read fs (length fs) place g refl lt read) ∙ is ∙ there)

pub come_to_keeps : (roll : Roll) (id place : ℕ) (g new : Flattening) → IsRegularRoll roll → place < length roll.table.flattenings → g ≡ get_or roll.table.flattenings place g → new.id ≡ g.id → new.room ≡ g.room → IsRegularRoll (with_flattenings (slice_set roll.table.flattenings place new) roll)
come_to_keeps roll id place g new r lt read same_id same_room =
    staged_keeps roll place g new r (slice_get_read roll.table.flattenings (length roll.table.flattenings) place g refl lt read) same_id same_room

pub come_to_is : (roll now : Roll) (place : ℕ) (stage : FlatStage) (f g : Flattening) → roll ≡ now → IsRegularRoll roll → slice_get roll.table.flattenings place ≡ flattening_at f.id roll.table.flattenings → place < length roll.table.flattenings
    → flattening_at f.id now.table.flattenings ≡ Some f → g ≡ get_or roll.table.flattenings place g → with_flattenings (slice_set roll.table.flattenings place (record g { stage = stage })) roll ≡ with_table (come_to stage f now.table) now
come_to_is roll now place stage f g view r is lt there read =
    let fs = roll.table.flattenings in
    let here : flattening_at f.id fs ≡ Some f = subst (λ (n : Roll). flattening_at f.id n.table.flattenings ≡ Some f) (sym view) there in
    let same = read_is fs f.id place f g is lt here read in
    subst (λ (n : Roll). with_flattenings (slice_set fs place (record g { stage = stage })) roll ≡ with_table (come_to stage f n.table) n) view
    (ap (λ (x : Flattening). with_flattenings (slice_set fs place (record x { stage = stage })) roll) same
    ∙ ap (λ (l : List Flattening). with_flattenings l roll) (sym (with_flattening_at fs place f (record f { stage = stage }) r.flattenings.ascending (is ∙ here) refl)))

-- one that was not found is not there
pub not_there : (roll now : Roll) (f : Flattening) → roll ≡ now → flattening_at f.id roll.table.flattenings ≡ None → flattening_at f.id now.table.flattenings ≡ Some f → ⊥
not_there roll now f view none there = none-some f (sym none ∙ subst (λ (n : Roll). flattening_at f.id n.table.flattenings ≡ Some f) (sym view) there)

-- what was found by its id has it
pub found_there : (roll now : Roll) (id place : ℕ) (g : Flattening) → roll ≡ now → slice_get roll.table.flattenings place ≡ flattening_at id roll.table.flattenings → place < length roll.table.flattenings → g ≡ get_or roll.table.flattenings place g → flattening_at g.id now.table.flattenings ≡ Some g
found_there roll now id place g view is lt read =
    let fs = roll.table.flattenings in
    let there : flattening_at id fs ≡ Some g = sym is ∙ slice_get_read fs (length fs) place g refl lt read in
    subst (λ (n : Roll). flattening_at g.id n.table.flattenings ≡ Some g) view
    (subst (λ n. flattening_at n fs ≡ Some g) (sym (flattening_at_id id fs g there)) there)

-- ---- the folder of who has a container open

pub no_entry : (folder name : Name) (found : Option Item) → folder ≡ openhosts → ((item : Item) → IsAt (record { folder = folder; file = name }) item → found ≡ Some item) → found ≡ None → IsNoWriters name
no_entry folder name found is only none host writer at =
    none-some (OpenHost host writer) (sym none ∙ only (OpenHost host writer) (subst (λ (f : Name). IsIn f name (OpenHost host writer)) (sym is) at))
