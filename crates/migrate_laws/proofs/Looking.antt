-- What an answered look at an index dropping says of the room at that moment.
use Rattle.std.proofs.Common.{◌≡◌, ℕ, List, length, true, false, take, drop, Option, Some, None, refl, ap, sym, ◌∙◌, subst, inl, inr, ◌||◌}
use Rattle.std.specs.Prelude.{Bool, Ok, Err, if◌then◌else◌, is_some, ◌&&◌, nat_le, slice_get}
use Rattle.plfs_types.specs.declared.names.Path.{Path}
use Rattle.store_api.specs.declared.tree.Room.{Room}
use Rattle.store_api.specs.declared.tree.Tree.{Tree}
use Rattle.store_api.specs.declared.step.Answer.{Answer}
use Rattle.store_api.specs.declared.step.Answer.TheVariants.{Names, Number, Bytes}
use Rattle.store_api.specs.declared.store.Trouble.TheVariants.{Fault, NoMemory}
use Rattle.store_api.specs.Effect.{effect}
use Rattle.store_laws.specs.Differ.{is_listed}
use Rattle.store_laws.specs.Files.{file_at}
use Rattle.store_laws.specs.Outcomes.{Looks}
use Rattle.store_laws.specs.Says.{LengthTells, ReadTells}
use Rattle.store_laws.specs.There.{ListsFolder}
use Rattle.store_laws.specs.Tells.{Tells}
use Rattle.store_laws.proofs.Facts.{acts_told, length_tells, look_answered, read_tells}
use Rattle.container_layout.specs.declared.items.Item.TheVariants.{Meta}
use Rattle.container_layout.specs.Paths.{IsIn, path_of}
use Rattle.mount_model.specs.Running.{unbroken}
use Rattle.mount_model.specs.declared.call.Call.TheVariants.{Look}
use Rattle.mount_model.specs.declared.call.Look.{Look as Sight}
use Rattle.mount_model.specs.declared.call.Look.TheVariants.{Length, List as ListFolder, Read}
use Rattle.mount_model.specs.declared.reply.Reply.{Reply}
use Rattle.mount_model.specs.declared.reply.Reply.TheVariants.{Looked, Damaged, Refused}
use Rattle.mount_model.specs.Looking.{look_step, look_outcome, length_reply, read_reply}
use Rattle.mount_model.specs.Making.{MakesAct, Refuses, Told, room_check}
use Rattle.mount_model.specs.Paths.{Name, metadata}
use Rattle.mount_model.specs.State.{State}
use Rattle.mount_model.specs.Step.{IsStep}
use Rattle.mount_model.proofs.Facts.{match_cases}
use Rattle.mount_sound.specs.Items.{HasItem}
use Rattle.mount_sound.specs.Ledger.{Ledger}
use Rattle.mount_sound.specs.Owed.{StandsInRoom}
use Rattle.mount_sound.specs.Sound.{IsSoundFor}
use Rattle.mount_sound.proofs.Facts.{one_tree, some_room}
use Rattle.recovery_laws.proofs.Holds.Facts.{file_named, folder_listed}
use Rattle.mount_model.specs.declared.names.Metadata.{Metadata}
use Rattle.mount_model.specs.Names.{meta_in}
use Rattle.mount_model.specs.FlowReplies.{bytes_in, names_in}
use Rattle.mount_model.proofs.Flows.Facts.{meta_in-is}
use Rattle.index_reader.specs.Replies.{number_in}
use Rattle.migrate_laws.specs.Closed.{HasClosed, WriterOf}
use Rattle.migrate_laws.proofs.Left.{IsLeft}

-- ---- replies

pub of_bytes : (reply : Reply) (bytes : List ℕ) → bytes_in reply ≡ Some bytes → reply ≡ Looked (Bytes bytes)
of_bytes (Looked (Bytes told)) bytes e = let same : told ≡ bytes = cc in ap (λ b. Looked (Bytes b)) same
of_bytes reply bytes e = absurd cc

pub of_number : (reply : Reply) (n : ℕ) → number_in reply ≡ Some n → reply ≡ Looked (Number n)
of_number (Looked (Number value)) n e = let same : value ≡ n = cc in ap (λ k. Looked (Number k)) same
of_number reply n e = absurd cc

pub of_names : (reply : Reply) (names : List Name) → names_in reply ≡ Some names → reply ≡ Looked (Names names)
of_names (Looked (Names listed)) names e = let same : listed ≡ names = cc in ap (λ n. Looked (Names n)) same
of_names reply names e = absurd cc

-- ---- answers

abbrev Made : ℕ → Sight → State → Answer → State → Type 0
Made room look old answer new = MakesAct (look_step room look) (look_outcome look old) old (Looked answer) new

made : (old : State) (caller room : ℕ) (look : Sight) (answer : Answer) (new : State) → IsStep old caller (unbroken (Look room look)) (Looked answer) new → Made room look old answer new
made old caller room look answer new f = elim (match_cases (room_check old room) (Made room look old answer new) (λ why. Refuses why old (Looked answer) new) f.does) as (λ _. Made room look old answer new) [
  | inl (none, m) ↦ m
  | inr (why, some, r) ↦ absurd (let e : Looked answer ≡ Refused why = r.0 in cc)
]

number_told : (path : Path) (told : Told) (value : ℕ) → Looked (Number value) ≡ length_reply path told → told ≡ Ok (Number value)
number_told path (Ok (Number n)) value e = let same : n ≡ value = cc in ap (λ k. Ok (Number k)) same
number_told path (Ok answer) value e = absurd (cc)
number_told path (Err Fault) value e = absurd (cc)
number_told path (Err NoMemory) value e = absurd (cc)

abbrev told_bytes : List ℕ → Told
told_bytes bytes = Ok (Bytes bytes)

bytes_told : (path : Path) (len : ℕ) (told : Told) (bytes : List ℕ) → Looked (Bytes bytes) ≡ read_reply path len told → told ≡ Ok (Bytes bytes)
bytes_told path len (Ok (Bytes read)) bytes e = elim (nat_le (length read) len) as (λ b. Looked (Bytes bytes) ≡ (if b then Looked (Bytes read) else Damaged path.folder path.file) → told_bytes read ≡ told_bytes bytes) [
  | true ↦ λ f. let same : read ≡ bytes = cc in ap told_bytes same
  | false ↦ λ f. absurd (cc)
] e
bytes_told path len (Ok answer) bytes e = absurd (cc)
bytes_told path len (Err Fault) bytes e = absurd (cc)
bytes_told path len (Err NoMemory) bytes e = absurd (cc)

module _ (old : State) (tree : Tree) (told : old.store.tree ≡ Some tree) (caller number : ℕ) (path : Path) where
  -- what an answer to a look says of the tree of its moment
  says_of : (look : Sight) (answer : Answer) (new : State) (says : Answer → Type 0) (l : Made number look old answer new) → l.told ≡ Ok answer → Looks tree says (effect tree (look_step number look)) → says answer
  says_of look answer new says l is looks =
      let t = acts_told (look_step number look) old.store new.store tree l.told told l.made in
      (look_answered (look_step number look) tree says looks answer t.0 (subst (λ o. Tells (look_step number look) tree o t.0) is t.2)).1

  -- A Length that was answered tells the file's length.
  pub length_told : (value : ℕ) (new : State) → IsStep old caller (unbroken (Look number (Length path))) (Looked (Number value)) new → (room : Room) × (bytes : List ℕ) × (slice_get tree.rooms number ≡ Some room) × (file_at room path ≡ Some bytes) × (length bytes ≡ value)
  length_told value new f =
      let l = made old caller number (Length path) (Number value) new f in
      let says = says_of (Length path) (Number value) new (LengthTells tree number path) l (number_told path l.told value l.answered) (length_tells tree number path) in
      (says.0.room, says.0.bytes, says.0.has_room, says.0.there, says.1)

  -- A Read tells the file's bytes.
  pub read_told : (at len : ℕ) (bytes : List ℕ) (new : State) → IsStep old caller (unbroken (Look number (Read path at len))) (Looked (Bytes bytes)) new → (room : Room) × (all : List ℕ) × (slice_get tree.rooms number ≡ Some room) × (file_at room path ≡ Some all) × (bytes ≡ take len (drop at all))
  read_told at len bytes new f =
      let l = made old caller number (Read path at len) (Bytes bytes) new f in
      let says = says_of (Read path at len) (Bytes bytes) new (ReadTells tree number path at len) l (bytes_told path len l.told bytes l.answered) (read_tells tree number path at len) in
      (says.0.room, says.0.bytes, says.0.has_room, says.0.there, says.1)

-- ---- the metadata

some_file : (o : Option (List ℕ)) (b : Bool) → (is_some o || (false && b)) ≡ true → (bytes : List ℕ) × (o ≡ Some bytes)
some_file (Some bytes) b e = (bytes, refl)
some_file None b e = absurd (let clash : false ≡ true = e in cc)

-- its metadata dropping of these numbers stands
abbrev pub IsStanding : ℕ → Metadata → State → Type 0
IsStanding number m state = StandsInRoom state number (λ room. (content : List ℕ) × HasItem room (Meta m.last m.bytes m.stamp m.host m.writer) content)

pub standing_left : (number : ℕ) (m : Metadata) (state : State) → IsStanding number m state → IsLeft number m state
standing_left number m state f = λ tree told. let x = f tree told in (x.0, x.1, record { last = m.last; bytes = m.bytes; stamp = m.stamp; content = x.2.0; has = x.2.1 })

module _ (l : Ledger) (state : State) (s : IsSoundFor l state) (caller number : ℕ) (names : List Name) (after : State) (step : IsStep state caller (unbroken (Look number (ListFolder metadata))) (Looked (Names names)) after) where
  lists : ListsFolder s.shape.tree number metadata names
  lists = folder_listed state s.shape.tree caller number metadata names after s.shape.told step

  -- a metadata dropping that was listed stands
  pub standing_at : (name : Name) (m : Metadata) → is_listed name names ≡ true → IsIn metadata name (Meta m.last m.bytes m.stamp m.host m.writer) → IsStanding number m state
  standing_at name m listed is =
      let file = some_file (file_at lists.room (record { folder = metadata; file = name })) (is_listed name lists.room.folders) (sym (lists.entries.exactly name) ∙ listed) in
      let has : HasItem lists.room (Meta m.last m.bytes m.stamp m.host m.writer) file.0 = record { is_item = is.is_item; there = ap (λ p. file_at lists.room p) (sym is.printed) ∙ file.1 } in
      λ tree told. subst (λ (t : Tree). (room : Room) × (slice_get t.rooms number ≡ Some room) × ((content : List ℕ) × HasItem room (Meta m.last m.bytes m.stamp m.host m.writer) content)) (one_tree s.shape.tree tree state.store.tree s.shape.told told) (lists.room, lists.has_room, (file.0, has))

  pub left_at : (name : Name) (m : Metadata) → is_listed name names ≡ true → IsIn metadata name (Meta m.last m.bytes m.stamp m.host m.writer) → IsLeft number m state
  left_at name m listed is = standing_left number m state (standing_at name m listed is)

  -- one that stands is listed
  pub closed_listed : (w : WriterOf) → StandsInRoom state number (HasClosed w) → (m : Metadata) × (m.writer ≡ w.writer) × ((name : Name) × (is_listed name names ≡ true) × (meta_in name ≡ Some m))
  closed_listed w closed =
      let x = closed s.shape.tree s.shape.told in
      let h : HasClosed w x.0 = x.2 in
      let same : x.0 ≡ lists.room = some_room x.0 lists.room (slice_get s.shape.tree.rooms number) x.1 lists.has_room in
      let has : HasItem lists.room (Meta h.last h.bytes h.stamp w.host w.writer) h.content = subst (λ r. HasItem r (Meta h.last h.bytes h.stamp w.host w.writer) h.content) same h.stands in
      let name : Name = (path_of (Meta h.last h.bytes h.stamp w.host w.writer)).file in (
        record { last = h.last; bytes = h.bytes; stamp = h.stamp; host = w.host; writer = w.writer },
        refl,
        (name, file_named lists.room metadata name names h.content lists.entries has.there, meta_in-is name h.last h.bytes h.stamp w.host w.writer (record { is_item = has.is_item; printed = refl })),
      )
