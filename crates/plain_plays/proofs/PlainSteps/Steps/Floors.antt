-- The floor of a writer that opens is the greatest stamp of the truncates of its room.
use Rattle.std.proofs.Common.{◌≡◌, ◌≤◌, ℕ, true, List, [], ◌∷◌, Some, Ok, Err, refl, sym, ap, ◌∙◌, inl, inr, subst, arith}
use Rattle.plfs_types.specs.declared.entries.Trunc.{Trunc}
use Rattle.container_layout.specs.declared.items.Item.TheVariants as item
use Rattle.container_layout.proofs.Facts.{same_items}
use Rattle.plain_file.proofs.Facts.{Among}
use Rattle.store_api.specs.declared.step.Answer.TheVariants as answer
use Rattle.store_api.specs.declared.store.Trouble.TheVariants as trouble
use Rattle.store_api.specs.Step.{list_folder}
use Rattle.store_laws.specs.Files.{file_at}
use Rattle.store_laws.specs.Says.{ListTells}
use Rattle.store_laws.specs.Tells.{Tells}
use Rattle.store_laws.specs.There.{ListsFolder}
use Rattle.store_laws.proofs.Facts.{acts_told, list_tells, look_answered}
use Rattle.mount_model.specs.declared.call.Call.TheVariants.{Floor}
use Rattle.mount_model.specs.declared.reply.Reply.TheVariants.{Floored}
use Rattle.mount_model.specs.declared.row.Row.{Row}
use Rattle.mount_model.specs.declared.row.Stage.TheVariants as stage
use Rattle.mount_model.specs.Flooring.{FloorOutcome, FloorsRow, floored}
use Rattle.mount_model.specs.Listed.{HasStamp, IsGreatest}
use Rattle.mount_model.specs.Making.{Told}
use Rattle.mount_model.specs.Paths.{Name, trunc_path, truncs}
use Rattle.mount_model.specs.State.{State, Table, put}
use Rattle.mount_model.specs.Step.{Answers}
use Rattle.mount_model.specs.Table.{only}
use Rattle.reader_laws.specs.GatheringListing.{AreTruncsAt}
use Rattle.reader_laws.specs.Moments.{HadTrunc, IsSoundAt, Moment, file_in_room, file_told}
use Rattle.reader_laws.proofs.Gathered.Facts.{all_at, among, any_found, file_named}
use Rattle.writer_laws.specs.Knowing.{HasRow}
use Rattle.plain_machine.specs.Landed.{last_trunc_of}
use Rattle.plain_plays.proofs.PlainSteps.Doing.{its_row, put_row}
use Rattle.plain_plays.proofs.PlainSteps.Truncating.{had_listed}

-- ---- the greatest stamp of truncates

pub below_last : (ts : List Trunc) (t : Trunc) → Among t ts → t.stamp ≤ last_trunc_of ts
below_last [] t a = absurd a
below_last (x ∷ ts) t (inl same) = omega (arith, ap (λ (y : Trunc). y.stamp) same)
below_last (x ∷ ts) t (inr a) = let l = below_last ts t a in omega (arith, l)

pub last_below : (ts : List Trunc) (top : ℕ) → ((t : Trunc) → Among t ts → t.stamp ≤ top) → last_trunc_of ts ≤ top
last_below [] top each = omega arith
last_below (x ∷ ts) top each = let a = each x (inl refl) in let b = last_below ts top (λ t m. each t (inr m)) in omega (arith, a, b)

-- ---- what was told of a floor

pub record FlooredSo (row : Row) (table after : Table) (told : Told) : Type 0 where
  pub floor : ℕ
  pub names : List Name
  pub listed : told ≡ Ok (answer.Names names)
  pub greatest : IsGreatest HasStamp names floor
  pub put_so : after ≡ put (floored floor row) table

floor_so : (row : Row) (table after : Table) (told : Told) (floor : ℕ) → FloorOutcome row table told (Floored floor) after → FlooredSo row table after told
floor_so row table after (Ok (answer.Names names)) floor (inl f) = record { floor = f.0; names = names; listed = refl; greatest = f.1; put_so = f.3 }
floor_so row table after (Ok (answer.Names names)) floor (inr f) = absurd (let other = f.2 in cc)
floor_so row table after (Ok answer.NoRoom) floor f = absurd (let other = f.0 in cc)
floor_so row table after (Ok answer.NoFolder) floor f = absurd (let other = f.0 in cc)
floor_so row table after (Ok told) floor f = absurd (let other = f.0 in cc)
floor_so row table after (Err trouble.Fault) floor f = absurd (let other = f.0 in cc)
floor_so row table after (Err trouble.NoMemory) floor f = absurd (let other = f.0 in cc)

module _ (m : Moment) (s : IsSoundAt m) (room floor : ℕ) (names : List Name) (ts : List Trunc) (l : ListsFolder s.shape.tree room truncs names) (g : IsGreatest HasStamp names floor) (are : AreTruncsAt m room ts) where
  -- one that is named stands in the room
  named_below : (name : Name) (stamp : ℕ) → Among name names → HasStamp name stamp → stamp ≤ last_trunc_of ts
  named_below name stamp a h =
      let t : Trunc = record { stamp = stamp; size = h.0 } in
      below_last ts t (among ts t (are.all t (had_listed m s room truncs name names (item.Trunc stamp h.0) l refl a h.1)))

  reached : floor ≤ last_trunc_of ts
  reached = elim g.reached as (λ _. floor ≤ last_trunc_of ts) [
    | inl none ↦ let zero_is = none.1 in omega (arith, zero_is)
    | inr any ↦ let f = any_found (λ name. HasStamp name floor) names any in named_below f.0 floor f.1 f.2
  ]

  -- one that stands in the room is named
  its_file : (t : Trunc) → HadTrunc m room t.stamp t.size → Among (trunc_path t.stamp t.size).file names
  its_file t had =
      let told : file_at l.room (trunc_path t.stamp t.size) ≡ Some had.bytes = sym (ap (λ o. file_told o room (trunc_path t.stamp t.size)) s.shape.told ∙ ap (λ o. file_in_room o (trunc_path t.stamp t.size)) l.has_room) ∙ had.there in
      file_named l.room truncs (trunc_path t.stamp t.size).file names had.bytes l.entries told

  stands_below : (t : Trunc) → Among t ts → t.stamp ≤ floor
  stands_below t a =
      let had : HadTrunc m room t.stamp t.size = all_at (λ (x : Trunc). HadTrunc m room x.stamp x.size) ts t are.there a in
      let k = all_at (λ name. (number : ℕ) × HasStamp name number × (number ≤ floor)) names (trunc_path t.stamp t.size).file g.numbers (its_file t had) in
      let other : item.Trunc k.0 k.1.0 ≡ item.Trunc t.stamp t.size = same_items (item.Trunc k.0 k.1.0) (item.Trunc t.stamp t.size) k.1.1.is_item had.is_item (sym k.1.1.printed) in
      let stamp : k.0 ≡ t.stamp = cc in
      let below = k.2 in
      omega (arith, below, stamp)

  pub floor_is_last : floor ≡ last_trunc_of ts
  floor_is_last = let a = reached in let b = last_below ts floor stands_below in omega (arith, a, b)

-- ---- the call

-- The writer has the greatest stamp as its floor.
pub floor_call : (m : Moment) (s : IsSoundAt m) (me w : ℕ) (row : Row) (new : State) (told : ℕ) (ts : List Trunc) → HasRow me w row m.state → only stage.Entered row.stage ≡ true → AreTruncsAt m row.room ts → Answers m.state me (Floor w) (Floored told) new → HasRow me w (floored (last_trunc_of ts) row) new
floor_call m s me w row new told ts h at are a =
    let d = its_row me w (only stage.Entered) row m.state (Floored told) new (λ r. FloorsRow r m.state (Floored told) new) h at a in
    let f = floor_so row m.state.table new.table d.told told d.outcome in
    let t = acts_told (list_folder row.room truncs) m.state.store new.store s.shape.tree d.told s.shape.told d.made in
    let l : ListsFolder s.shape.tree row.room truncs f.names = (look_answered (list_folder row.room truncs) s.shape.tree (ListTells s.shape.tree row.room truncs) (list_tells s.shape.tree row.room truncs) (answer.Names f.names) t.0 (subst (λ o. Tells (list_folder row.room truncs) s.shape.tree o t.0) f.listed t.2)).1 in
    let is : f.floor ≡ last_trunc_of ts = floor_is_last m s row.room f.floor f.names ts l f.greatest are in
    put_row me w row (floored (last_trunc_of ts) row) m.state new h refl refl (f.put_so ∙ ap (λ k. put (floored k row) m.state.table) is)
