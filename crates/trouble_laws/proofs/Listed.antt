-- What a listing of a container's folder tells in a sound state, and that each of its names is an item's.
use Rattle.std.proofs.Common.{◌≡◌, ◌≤◌, ℕ, Bool, true, false, List, [], get_or, Option, Some, refl, ap, sym, ◌∙◌, ◌⊎◌, inl, inr, subst}
use Rattle.std.specs.Prelude.{Result, Ok, Err, slice_get, if◌then◌else◌}
use Rattle.plfs_types.specs.declared.entries.Trunc.{Trunc}
use Rattle.plfs_types.specs.declared.names.Path.{Path}
use Rattle.plain_file.proofs.Facts.{Among}
use Rattle.container_layout.specs.declared.items.Item.{Item}
use Rattle.container_layout.specs.declared.items.Item.TheVariants as item
use Rattle.container_layout.specs.Paths.{IsIn, path_of}
use Rattle.container_layout.proofs.Facts.{elsewhere}
use Rattle.store_api.specs.declared.step.Answer.{Answer}
use Rattle.store_api.specs.declared.step.Answer.TheVariants as answer
use Rattle.store_api.specs.declared.store.Trouble.TheVariants as trouble_
use Rattle.store_api.specs.declared.tree.Room.{Room}
use Rattle.store_api.specs.Acts.{Acts}
use Rattle.store_api.specs.Room.{has_folder, is_top}
use Rattle.store_laws.specs.Files.{file_at}
use Rattle.store_laws.specs.Says.{ListTells}
use Rattle.store_laws.specs.There.{LacksFolder, ListsFolder}
use Rattle.store_laws.proofs.Facts.{acts_told, list_tells, look_answered}
use Rattle.mount_model.specs.declared.call.Call.TheVariants.{Look}
use Rattle.mount_model.specs.declared.call.Look.TheVariants.{List as ListFolder, Top}
use Rattle.mount_model.specs.declared.reply.Reply.{Reply}
use Rattle.mount_model.specs.declared.reply.Reply.TheVariants.{Damaged, Looked}
use Rattle.mount_model.specs.Looking.{listing_reply, look_outcome, look_step}
use Rattle.mount_model.specs.Making.{MakesAct, Refuses, Told, room_check}
use Rattle.mount_model.specs.Paths.{Name, metadata, truncs}
use Rattle.container_layout.specs.Paths.{openhosts}
use Rattle.mount_model.specs.Recovering.{IsHostAndWriter}
use Rattle.mount_model.specs.State.{State, last_id}
use Rattle.mount_model.specs.Step.{IsStep}
use Rattle.mount_model.proofs.Facts.{is_container, match_cases}
use Rattle.mount_sound.specs.Container.{IsContainer, IsOfId}
use Rattle.mount_sound.specs.Shape.{IsDrawnBy}
use Rattle.mount_sound.proofs.Shapes.Facts.{container_at, shape_of}
use Rattle.mount_sound.specs.Items.{HasItem}
use Rattle.mount_sound.specs.Ledger.{Ledger}
use Rattle.mount_sound.specs.Sound.{IsSoundFor}
use Rattle.mount_model.specs.declared.stuck.Stuck.{Stuck}
use Rattle.mount_model.specs.Running.{unbroken}
use Rattle.mount_model.specs.declared.names.Metadata.{Metadata}
use Rattle.mount_model.specs.declared.names.OpenEntry.{OpenEntry}
use Rattle.mount_model.specs.FlowListed.{file_in, known, or_trouble, told_by}
use Rattle.mount_model.specs.Names.{meta_in, open_in, trunc_in}
use Rattle.mount_model.specs.FlowReplies.{damage, is_no_folder}
use Rattle.mount_model.proofs.Flows.Facts.{meta_in-is, open_in-is, trunc_in-is}
use Rattle.reader_laws.proofs.Gathered.Facts.{named_file}
use Rattle.trouble_laws.specs.Undamaged.{IsUndamaged}

-- ---- a reply that tells nothing

-- it is a refusal, or the store failed
abbrev pub IsPlain : Reply → Type 0
IsPlain (Looked found) = ⊥
IsPlain (Damaged folder file) = ⊥
IsPlain reply = Unit {0}

pub told_plain : {A : Type 0} (folder : Name) (tells : List Name → Result A Stuck) (reply : Reply) → IsPlain reply → IsUndamaged (told_by folder tells reply)
told_plain folder tells (Looked found) plain = absurd plain
told_plain folder tells (Damaged at file) plain = absurd plain
told_plain folder tells reply plain = tt

-- ---- a listing

-- what is there of a container's folder
pub record IsListed (issued : Ledger) (state : State) (s : IsSoundFor issued state) (number : ℕ) (folder : Name) (names : List Name) : Type 0 where
  pub lists : ListsFolder s.shape.tree number folder names
  pub apart : number ≡ state.marks → ⊥
  pub is : IsContainer (IsDrawnBy (last_id state) s.shape.tree) lists.room

-- the container has no such folder
pub record IsLacking (issued : Ledger) (state : State) (s : IsSoundFor issued state) (number : ℕ) (folder : Name) : Type 0 where
  pub lacks : LacksFolder s.shape.tree number folder
  pub is : IsContainer (IsDrawnBy (last_id state) s.shape.tree) lacks.room

-- a listing names what is there, or there is no such folder, or nothing is told
abbrev pub ListEnds : (issued : Ledger) (state : State) → IsSoundFor issued state → ℕ → Name → Reply → Type 0
ListEnds issued state s number folder reply =
    ((names : List Name) × IsListed issued state s number folder names × (reply ≡ Looked (answer.Names names)))
    ⊎ (IsLacking issued state s number folder × (reply ≡ Looked answer.NoFolder))
    ⊎ IsPlain reply

module _ (issued : Ledger) (state : State) (s : IsSoundFor issued state) (caller number : ℕ) (folder : Name) (reply : Reply) (after : State) where
  its_container : (room : Room) → (number ≡ state.marks → ⊥) → slice_get s.shape.tree.rooms number ≡ Some room → IsContainer (IsDrawnBy (last_id state) s.shape.tree) room
  its_container room apart there = container_at (last_id state) state.marks state.mount number s.shape.tree room (shape_of state s.shape) apart there

  by_answer : (number ≡ state.marks → ⊥) → (found : Answer) → ListTells s.shape.tree number folder found → reply ≡ listing_reply folder (Ok found) → ListEnds issued state s number folder reply
  by_answer apart (answer.Names names) says is = inl (names, record { lists = says; apart = apart; is = its_container says.room apart says.has_room }, is)
  by_answer apart answer.NoFolder says is = inr (inl (record { lacks = says; is = its_container says.room apart says.has_room }, is))
  by_answer apart answer.NoRoom says is = inr (inr (subst IsPlain (sym is) tt))
  by_answer apart found says is = absurd says

  by_told : (number ≡ state.marks → ⊥) → (told : Told) → Acts (look_step number (ListFolder folder)) state.store after.store told → reply ≡ listing_reply folder told → ListEnds issued state s number folder reply
  by_told apart (Ok found) made is =
      let t = acts_told (look_step number (ListFolder folder)) state.store after.store s.shape.tree (Ok found) s.shape.told made in
      by_answer apart found (look_answered (look_step number (ListFolder folder)) s.shape.tree (ListTells s.shape.tree number folder) (list_tells s.shape.tree number folder) found t.0 t.2).1 is
  by_told apart (Err trouble_.Fault) made is = inr (inr (subst IsPlain (sym is) tt))
  by_told apart (Err trouble_.NoMemory) made is = inr (inr (subst IsPlain (sym is) tt))

  pub list_ends : IsStep state caller (unbroken (Look number (ListFolder folder))) reply after → ListEnds issued state s number folder reply
  list_ends step =
      elim (match_cases (room_check state number) (MakesAct (look_step number (ListFolder folder)) (look_outcome (ListFolder folder) state) state reply after) (λ why. Refuses why state reply after) step.does) as (λ _. ListEnds issued state s number folder reply) [
        | inl (none, m) ↦ by_told (is_container state number none) m.told m.made m.answered
        | inr (why, some, refused) ↦ inr (inr (subst IsPlain (sym refused.0) tt))
      ]

  both_ways : {b : Bool} → b ≡ true → b ≡ false → ⊥
  both_ways p q = let clash : true ≡ false = sym p ∙ q in cc

  -- of a folder that each container has
  pub told_of_names : {A : Type 0} (tells : List Name → Result A Stuck) → IsStep state caller (unbroken (Look number (ListFolder folder))) reply after
      → ((room : Room) → IsContainer (IsDrawnBy (last_id state) s.shape.tree) room → has_folder room folder ≡ true)
      → ((names : List Name) → IsListed issued state s number folder names → IsUndamaged (tells names)) → IsUndamaged (told_by folder tells reply)
  told_of_names tells step has knows = elim (list_ends step) as (λ _. IsUndamaged (told_by folder tells reply)) [
    | inl (names, l, is) ↦ subst (λ r. IsUndamaged (told_by folder tells r)) (sym is) (knows names l)
    | inr (inl (l, is)) ↦ absurd (both_ways (has l.lacks.room l.is) l.lacks.none)
    | inr (inr plain) ↦ told_plain folder tells reply plain
  ]

  plain_folder : (r : Reply) → IsPlain r → is_no_folder r ≡ false
  plain_folder (Looked found) plain = absurd plain
  plain_folder (Damaged at file) plain = absurd plain
  plain_folder r plain = refl

  -- of a folder that may be absent
  pub told_where_there : {A : Type 0} (absent : Result A Stuck) (tells : List Name → Result A Stuck) → IsStep state caller (unbroken (Look number (ListFolder folder))) reply after → IsUndamaged absent
      → ((names : List Name) → IsListed issued state s number folder names → IsUndamaged (tells names)) → IsUndamaged (if is_no_folder reply then absent else told_by folder tells reply)
  told_where_there absent tells step none knows = elim (list_ends step) as (λ _. IsUndamaged (if is_no_folder reply then absent else told_by folder tells reply)) [
    | inl (names, l, is) ↦ subst (λ r. IsUndamaged (if is_no_folder r then absent else told_by folder tells r)) (sym is) (knows names l)
    | inr (inl (l, is)) ↦ subst (λ r. IsUndamaged (if is_no_folder r then absent else told_by folder tells r)) (sym is) none
    | inr (inr plain) ↦ subst (λ b. IsUndamaged (if b then absent else told_by folder tells reply)) (sym (plain_folder reply plain)) (told_plain folder tells reply plain)
  ]

-- the same of a listing of a container's top
pub top_ends : (issued : Ledger) (state : State) (s : IsSoundFor issued state) (caller number : ℕ) (reply : Reply) (after : State) → IsStep state caller (unbroken (Look number Top)) reply after → ListEnds issued state s number [] reply
top_ends issued state s caller number reply after step =
    elim (match_cases (room_check state number) (MakesAct (look_step number Top) (look_outcome Top state) state reply after) (λ why. Refuses why state reply after) step.does) as (λ _. ListEnds issued state s number [] reply) [
      | inl (none, m) ↦ by_told issued state s caller number [] reply after (is_container state number none) m.told m.made m.answered
      | inr (why, some, refused) ↦ inr (inr (subst IsPlain (sym refused.0) tt))
    ]

-- ---- names

-- it goes on with an item that is known
pub known_so : {A B : Type 0} (folder name : Name) (found : Option A) (next : A → Result B Stuck) (a : A) → found ≡ Some a → IsUndamaged (next a) → IsUndamaged (known folder name found next)
known_so folder name found next a is good = subst (λ o. IsUndamaged (or_trouble o (damage (file_in folder name) 0) next)) (sym is) good

meta_item : (it : Item) → (path_of it).folder ≡ metadata → (last bytes stamp host writer : ℕ) × (it ≡ item.Meta last bytes stamp host writer)
meta_item (item.Meta last bytes stamp host writer) e = (last, bytes, stamp, host, writer, refl)
meta_item other e = elsewhere (ap (λ (l : List ℕ). get_or l 0 0) e) refl

trunc_item : (it : Item) → (path_of it).folder ≡ truncs → (stamp size : ℕ) × (it ≡ item.Trunc stamp size)
trunc_item (item.Trunc stamp size) e = (stamp, size, refl)
trunc_item other e = elsewhere (ap (λ (l : List ℕ). get_or l 0 0) e) refl

open_item : (it : Item) → (path_of it).folder ≡ openhosts → (host writer : ℕ) × (it ≡ item.OpenHost host writer)
open_item (item.OpenHost host writer) e = (host, writer, refl)
open_item other e = elsewhere (ap (λ (l : List ℕ). get_or l 0 0) e) refl

module _ (issued : Ledger) (state : State) (s : IsSoundFor issued state) (number : ℕ) (folder : Name) (below : is_top folder ≡ false) (names : List Name) (l : IsListed issued state s number folder names) (name : Name) (a : Among name names) where
  -- the file of a name
  pub record IsNamed : Type 0 where
    pub item : Item
    pub is : IsIn folder name item
    pub of_folder : (path_of item).folder ≡ folder
    pub id : IsOfId (IsDrawnBy (last_id state) s.shape.tree) item

  pub its_item : IsNamed
  its_item =
      let f = named_file l.lists.room folder name names below l.lists.entries a in
      let i = l.is.files (record { folder = folder; file = name }) f.0 f.1 in
      record { item = i.item; is = i.is_at; of_folder = sym (ap (λ (p : Path). p.folder) i.is_at.printed); id = i.id }

-- each name of these folders is known
module _ (issued : Ledger) (state : State) (s : IsSoundFor issued state) (number : ℕ) (names : List Name) where
  -- a metadata dropping that is there
  pub metas_there : (l : IsListed issued state s number metadata names) (name : Name) → Among name names → (m : Metadata) × (meta_in name ≡ Some m) × ((content : List ℕ) × HasItem l.lists.room (item.Meta m.last m.bytes m.stamp m.host m.writer) content)
  metas_there l name a =
      let n = its_item issued state s number metadata refl names l name a in
      let m = meta_item n.item n.of_folder in
      let is : IsIn metadata name (item.Meta m.0 m.1 m.2 m.3 m.4) = subst (IsIn metadata name) m.5 n.is in
      let f = named_file l.lists.room metadata name names refl l.lists.entries a in (
        record { last = m.0; bytes = m.1; stamp = m.2; host = m.3; writer = m.4 },
        meta_in-is name m.0 m.1 m.2 m.3 m.4 is,
        (f.0, record { is_item = is.is_item; there = ap (λ p. file_at l.lists.room p) (sym is.printed) ∙ f.1 }),
      )

  pub metas_known : IsListed issued state s number metadata names → (name : Name) → Among name names → (m : Metadata) × (meta_in name ≡ Some m)
  metas_known l name a = let x = metas_there l name a in (x.0, x.1)

  pub truncs_known : IsListed issued state s number truncs names → (name : Name) → Among name names → (t : Trunc) × (trunc_in name ≡ Some t)
  truncs_known l name a =
      let n = its_item issued state s number truncs refl names l name a in
      let t = trunc_item n.item n.of_folder in
      (record { stamp = t.0; size = t.1 }, trunc_in-is name t.0 t.1 (subst (IsIn truncs name) t.2 n.is))

  -- a writer that has the container open: its numbers are in their ranges, and its id was drawn
  pub record IsOpen (e : OpenEntry) : Type 0 where
    pub fits : IsHostAndWriter e.host e.writer
    pub drawn : e.writer ≤ last_id state

  pub entries_open : IsListed issued state s number openhosts names → (name : Name) → Among name names → (e : OpenEntry) × (open_in name ≡ Some e) × IsOpen e
  entries_open l name a =
      let n = its_item issued state s number openhosts refl names l name a in
      let e = open_item n.item n.of_folder in
      let is : IsIn openhosts name (item.OpenHost e.0 e.1) = subst (IsIn openhosts name) e.2 n.is in
      let id : IsDrawnBy (last_id state) s.shape.tree e.1 = subst (IsOfId (IsDrawnBy (last_id state) s.shape.tree)) e.2 n.id in
      (record { host = e.0; writer = e.1 }, open_in-is name e.0 e.1 is, record { fits = record { host_fits = is.is_item.widths.0; writer_fits = is.is_item.widths.1 }; drawn = id.1 })

  pub entries_known : IsListed issued state s number openhosts names → (name : Name) → Among name names → (e : OpenEntry) × (open_in name ≡ Some e)
  entries_known l name a = let o = entries_open l name a in (o.0, o.1)
