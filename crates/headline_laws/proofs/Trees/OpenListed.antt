-- Of a listing of who has a container open: whose entries it names, and what is known of these.
use Rattle.std.proofs.Common.{◌≡◌, ◌≤◌, inl, inr, ℕ, true, false, List, get_or, Option, Some, refl, sym, ap, ◌∙◌, subst}
use Rattle.std.specs.Prelude.{Err, Ok, slice_get}
use Rattle.std.specs.List.{Any}
use Rattle.plfs_types.specs.declared.names.Path.{Path}
use Rattle.container_layout.specs.declared.items.Item.{Item}
use Rattle.container_layout.specs.declared.items.Item.TheVariants.{Index, OpenHost}
use Rattle.container_layout.specs.Paths.{IsIn, openhosts, path_of}
use Rattle.container_layout.proofs.Facts.{elsewhere}
use Rattle.store_api.specs.declared.tree.Room.{Room}
use Rattle.store_api.specs.declared.step.Answer.TheVariants.{NoFolder}
use Rattle.store_api.specs.declared.store.Trouble.TheVariants as trouble
use Rattle.store_api.specs.Room.{has_folder, is_top}
use Rattle.store_laws.specs.Files.{file_at}
use Rattle.store_laws.specs.Says.{ListTells}
use Rattle.store_laws.specs.Tells.{Tells}
use Rattle.store_laws.specs.There.{LacksFolder, ListsFolder}
use Rattle.store_laws.proofs.Facts.{acts_told, list_tells, look_answered}
use Rattle.mount_model.specs.declared.call.Call.TheVariants.{Look}
use Rattle.mount_model.specs.declared.call.Look.TheVariants.{List as ListFolder}
use Rattle.mount_model.specs.declared.reply.Reply.TheVariants.{Looked, Refused}
use Rattle.mount_model.specs.Looking.{listing_reply, look_outcome, look_step}
use Rattle.mount_model.specs.Making.{MakesAct, Refuses, Told, room_check}
use Rattle.mount_model.specs.Paths.{Name, open_path}
use Rattle.mount_model.specs.State.{State, last_id}
use Rattle.mount_model.specs.Step.{Answers}
use Rattle.mount_model.proofs.Facts.{is_container, match_cases}
use Rattle.mount_sound.specs.Marks.{IsMarksRoom}
use Rattle.mount_sound.specs.Shape.{IsDrawnBy}
use Rattle.mount_sound.proofs.Shapes.Facts.{container_at, item_drawn, item_held, shape_of}
use Rattle.mount_sound.specs.Dropping.{IsWriter as IsWriterOf}
use Rattle.mount_sound.specs.Items.{HasItem}
use Rattle.mount_sound.proofs.Facts.{some_room}
use Rattle.reader_laws.specs.Moments.{HadItem, IsSoundAt, Moment, Stood, file_in_room, file_told}
use Rattle.reader_laws.proofs.Gathered.Facts.{any_found, file_named, found_any, in_a_room, in_tree, named_file}
use Rattle.headline_laws.specs.Recovering.{IsOpenName}

module _ (m : Moment) (s : IsSoundAt m) (number : ℕ) where
  -- an item that stood is one of the room
  record IsOfRoom (item : Item) : Type 0 where
    pub room : Room
    pub there : slice_get s.shape.tree.rooms number ≡ Some room
    pub bytes : List ℕ
    pub has : HasItem room item bytes

  of_room : (item : Item) → HadItem m number item → IsOfRoom item
  of_room item had =
      let r = in_a_room (slice_get s.shape.tree.rooms number) (path_of item) had.bytes (in_tree m s number (path_of item) had.bytes had.there) in
      record { room = r.0; there = r.1; bytes = had.bytes; has = record { is_item = had.is_item; there = r.2 } }

  same_room : (x y : Room) (o : Option Room) → o ≡ Some x → o ≡ Some y → y ≡ x
  same_room x y o is also = cc

  -- all entries of one writer are of one host
  pub one_entry : (host other id : ℕ) → HadItem m number (OpenHost host id) → HadItem m number (OpenHost other id) → host ≡ other
  one_entry host other id a b =
      let x = of_room (OpenHost host id) a in
      let y = of_room (OpenHost other id) b in
      let rooms : y.room ≡ x.room = same_room x.room y.room (slice_get s.shape.tree.rooms number) x.there y.there in
      let w : IsWriterOf x.room id (m.issued number id) = (s.sound.rooms number x.room x.there).writers id a.is_item.widths.1 in
      w.one_host host (inr (inl (x.bytes, x.has))) ∙ sym (w.one_host other (inr (inl (y.bytes, subst (λ r. HasItem r (OpenHost other id) y.bytes) rooms y.has))))

  -- which is that of its index
  pub entry_of_index : (host other id : ℕ) → HadItem m number (OpenHost host id) → Stood m (record { room = number; host = other; writer = id }) → host ≡ other
  entry_of_index host other id a b =
      let x = of_room (OpenHost host id) a in
      let y = of_room (Index other id) b in
      let rooms : y.room ≡ x.room = same_room x.room y.room (slice_get s.shape.tree.rooms number) x.there y.there in
      let w : IsWriterOf x.room id (m.issued number id) = (s.sound.rooms number x.room x.there).writers id a.is_item.widths.1 in
      w.one_host host (inr (inl (x.bytes, x.has))) ∙ sym (w.one_host other (inl (y.bytes, subst (λ r. HasItem r (Index other id) y.bytes) rooms y.has)))

  -- its number was drawn
  pub entry_drawn : (host id : ℕ) → HadItem m number (OpenHost host id) → id ≤ last_id m.state
  entry_drawn host id a = (item_drawn m.state s.shape.tree number x.room (OpenHost host id) x.bytes s.shape s.shape.told x.there apart a.is_item x.has.there).1
    where
      x : IsOfRoom (OpenHost host id)
      x = of_room (OpenHost host id) a

      no_mark : (r : Room) → IsMarksRoom r → file_at r (open_path host id) ≡ Some x.bytes → ⊥
      no_mark r marks is = let f = marks.files (open_path host id) x.bytes is in elsewhere (ap (λ (p : Path). get_or p.folder 0 0) f.3) refl

      apart : number ≡ m.state.marks → ⊥
      apart same =
          let one : x.room ≡ s.shape.marks = some_room x.room s.shape.marks (slice_get s.shape.tree.rooms m.state.marks) (ap (λ n. slice_get s.shape.tree.rooms n) (sym same) ∙ x.there) s.shape.has_marks in
          no_mark s.shape.marks s.shape.is_marks (ap (λ r. file_at r (open_path host id)) (sym one) ∙ x.has.there)

  -- ---- where there is no folder of them

  abbrev Made : State → Type 0
  Made after = MakesAct (look_step number (ListFolder openhosts)) (look_outcome (ListFolder openhosts) m.state) m.state (Looked NoFolder) after

  looked_at : (n : ℕ) (after : State) → Answers m.state n (Look number (ListFolder openhosts)) (Looked NoFolder) after → (number ≡ m.state.marks → ⊥) × Made after
  looked_at n after a = elim (match_cases (room_check m.state number) (Made after) (λ why. Refuses why m.state (Looked NoFolder) after) a) as (λ _. (number ≡ m.state.marks → ⊥) × Made after) [
    | inl (none, made) ↦ (is_container m.state number none, made)
    | inr (why, some, refused) ↦ absurd (let e : Looked NoFolder ≡ Refused why = refused.0 in cc)
  ]

  folder_told : (told : Told) → Looked NoFolder ≡ listing_reply openhosts told → told ≡ Ok NoFolder
  folder_told (Ok NoFolder) e = refl
  folder_told (Ok answer) e = absurd (cc)
  folder_told (Err trouble.Fault) e = absurd (cc)
  folder_told (Err trouble.NoMemory) e = absurd (cc)

  lacks_it : (after : State) → Made after → LacksFolder s.shape.tree number openhosts
  lacks_it after l =
      let t = acts_told (look_step number (ListFolder openhosts)) m.state.store after.store s.shape.tree l.told s.shape.told l.made in
      (look_answered (look_step number (ListFolder openhosts)) s.shape.tree (ListTells s.shape.tree number openhosts) (list_tells s.shape.tree number openhosts) NoFolder t.0
      (subst (λ o. Tells (look_step number (ListFolder openhosts)) s.shape.tree o t.0) (folder_told l.told l.answered) t.2)).1

  pub folder_lacking : (n : ℕ) (after : State) → Answers m.state n (Look number (ListFolder openhosts)) (Looked NoFolder) after → LacksFolder s.shape.tree number openhosts
  folder_lacking n after a = lacks_it after (looked_at n after a).1

  -- no entry stood
  pub none_stood : (n : ℕ) (after : State) → Answers m.state n (Look number (ListFolder openhosts)) (Looked NoFolder) after → (host id : ℕ) → HadItem m number (OpenHost host id) → ⊥
  none_stood n after a host id had =
      let l = looked_at n after a in
      let lacks = lacks_it after l.1 in
      let x = of_room (OpenHost host id) had in
      let one : x.room ≡ lacks.room = same_room lacks.room x.room (slice_get s.shape.tree.rooms number) lacks.has_room x.there in
      let c = container_at (last_id m.state) m.state.marks m.state.mount number s.shape.tree x.room (shape_of m.state s.shape) l.0 x.there in
      let housed : has_folder x.room openhosts ≡ true = (item_held (IsDrawnBy (last_id m.state) s.shape.tree) x.room (OpenHost host id) x.bytes c x.has.is_item x.has.there).housed in
      let clash : true ≡ false = sym housed ∙ ap (λ r. has_folder r openhosts) one ∙ lacks.none in
      cc

  -- ---- by its listing

  module _ (names : List Name) (l : ListsFolder s.shape.tree number openhosts names) where
    below_top : is_top openhosts ≡ false
    below_top = refl

    -- an entry of which there is a name stood
    pub named_stood : (host id : ℕ) → Any (λ name. IsIn openhosts name (OpenHost host id)) names → HadItem m number (OpenHost host id)
    named_stood host id any =
        let f = any_found (λ name. IsIn openhosts name (OpenHost host id)) names any in
        let file = named_file l.room openhosts f.0 names below_top l.entries f.1 in
        record {
          is_item = f.2.is_item;
          bytes = file.0;
          there = ap (λ o. file_told o number (open_path host id)) s.shape.told ∙ ap (λ r. file_in_room r (open_path host id)) l.has_room ∙ subst (λ (p : Path). file_at l.room p ≡ Some file.0) f.2.printed file.1;
        }

    -- and of one that stood there is a name
    pub stood_named : (host id : ℕ) → HadItem m number (OpenHost host id) → Any (λ name. IsOpenName name id) names
    stood_named host id had =
        let x = of_room (OpenHost host id) had in
        let one : x.room ≡ l.room = same_room l.room x.room (slice_get s.shape.tree.rooms number) l.has_room x.there in
        let name : Name = (path_of (OpenHost host id)).file in
        let among = file_named l.room openhosts name names x.bytes l.entries (subst (λ r. file_at r (open_path host id) ≡ Some x.bytes) one x.has.there) in
        found_any (λ n. IsOpenName n id) names name among (host, record { is_item = had.is_item; printed = refl })
