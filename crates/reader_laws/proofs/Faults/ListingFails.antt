-- A listing of a container fails only by the store, or since there is no such container.
use Rattle.std.proofs.Common.{◌≡◌, ◌≢◌, ℕ, ◌-◌, nat_eq, true, false, List, [], ◌∷◌, ◌++◌, drop, length, Option, Some, None, refl, ap, sym, ◌∙◌, ◌⊎◌, inl, inr, subst, arith}
use Rattle.std.specs.Prelude.{Result, Ok, Err, slice_get, slice_index}
use Rattle.std.proofs.lemmas.Bool.{cases_eq, cond-true}
use Rattle.std.proofs.lemmas.Bool.Decides.{nat_tests}
use Rattle.plfs_types.specs.Names.{IsLogicalName}
use Rattle.plfs_types.specs.declared.entries.Cover.{Cover}
use Rattle.plfs_types.specs.declared.entries.Entry.{Entry}
use Rattle.plfs_types.specs.declared.names.Path.{Path}
use Rattle.plain_file.proofs.Facts.{Among, cases_Option}
use Rattle.container_layout.specs.declared.items.Item.{Item}
use Rattle.container_layout.specs.declared.items.Item.TheVariants as item
use Rattle.container_layout.specs.Items.{IsItem}
use Rattle.flat_format.specs.declared.flat.Flat.{Flat}
use Rattle.store_api.specs.declared.tree.Room.{Room}
use Rattle.store_api.specs.declared.step.Answer.{Answer}
use Rattle.store_api.specs.declared.step.Answer.TheVariants as told
use Rattle.store_api.specs.declared.store.Trouble.TheVariants as trouble_
use Rattle.store_api.specs.Acts.{Acts}
use Rattle.store_api.specs.Step.{find_room}
use Rattle.store_api.specs.Room.{is_top}
use Rattle.store_laws.specs.Files.{file_at}
use Rattle.store_laws.specs.Says.{FindTells, ListTells}
use Rattle.store_laws.specs.There.{ListsFolder}
use Rattle.store_laws.proofs.Facts.{acts_told, find_tells, list_tells, look_answered}
use Rattle.mount_model.specs.declared.call.Call.TheVariants.{Find, Look}
use Rattle.mount_model.specs.declared.call.Look.TheVariants as sight
use Rattle.mount_model.specs.declared.reply.Refusal.{Refusal}
use Rattle.mount_model.specs.declared.reply.Refusal.TheVariants.{NoRoom}
use Rattle.mount_model.specs.declared.reply.Reply.{Reply}
use Rattle.mount_model.specs.declared.reply.Reply.TheVariants as reply_
use Rattle.mount_model.specs.declared.row.Making.TheVariants as making
use Rattle.mount_model.specs.Finding.{find_outcome}
use Rattle.mount_model.specs.Looking.{look_outcome, look_reply, look_step}
use Rattle.mount_model.specs.Making.{MakesAct, Refuses, Told, room_check}
use Rattle.mount_model.specs.Paths.{Name, access_path, flat_path, flats}
use Rattle.store_api.specs.Names.{marks_name}
use Rattle.mount_model.specs.State.{State, last_id}
use Rattle.mount_model.specs.Step.{Answers}
use Rattle.mount_model.specs.History.{Event}
use Rattle.mount_model.proofs.Facts.{match_cases}
use Rattle.mount_sound.specs.Container.{IsContainer}
use Rattle.mount_sound.specs.Shape.{IsDrawnBy}
use Rattle.mount_sound.proofs.Shapes.Facts.{container_at, shape_of}
use Rattle.mount_sound.specs.Flats.{AreCovered, IsCovered}
use Rattle.mount_sound.specs.Owed.{IsLawful}
use Rattle.mount_model.specs.Program.{done}
use Rattle.mount_model.specs.declared.stuck.Stuck.{Stuck}
use Rattle.mount_model.specs.declared.stuck.Stuck.TheVariants as stuck
use Rattle.mount_model.specs.Running.{Runs}
use Rattle.mount_model.specs.FlowReplies.{Tries, given, names_in, on_ok, room_in, trouble}
use Rattle.mount_model.specs.FlowListed.{file_in}
use Rattle.mount_model.proofs.Flows.Facts.{runs_in_two}
use Rattle.index_reader.specs.declared.listing.Listing.{Listing}
use Rattle.index_reader.specs.FileReads.{bytes_left, parts_of}
use Rattle.index_reader.specs.FlatRules.{flat_told}
use Rattle.index_reader.specs.Items.{flat_item}
use Rattle.index_reader.specs.Newest.{flats_path, newest_in}
use Rattle.index_reader.specs.Opening.{flat_bytes, flat_or_damage, flat_program, if_newest, no_flat, open_at_program, open_read_program, top_program}
use Rattle.index_reader.specs.Replies.{number_in}
use Rattle.index_reader.proofs.Facts.{flat_item-here, flat_told-valid}
use Rattle.turn_object.specs.Callers.{made_by}
use Rattle.reader_laws.specs.Flats.{IsFlatName}
use Rattle.reader_laws.specs.Moments.{Moment, IsSoundAt, Grows, HadItem, file_in_room, file_told, file_then, moment_after, next_moment}
use Rattle.reader_laws.specs.Seen.{IsSeen}
use Rattle.reader_laws.proofs.Gathered.Facts.{any_found, flat_right, follows, grows_after, held_then, legal_first, legal_rest, named_file, seen, sound_after, WasRight}
use Rattle.reader_laws.specs.Failing.{FailsByStore, FailsOrLacks, IsContainerAt}
use Rattle.reader_laws.specs.Opening.{Lists}
use Rattle.reader_laws.proofs.Calls.Calling.{calls_are}
use Rattle.reader_laws.proofs.Faults.Failing.{here_fails, later_fails, same_trouble}
use Rattle.reader_laws.proofs.Containers.FileRuns.{HasBytes, parts_run}
use Rattle.reader_laws.proofs.Containers.FlatBytes.{plain_bytes, plain_fails}
use Rattle.reader_laws.proofs.Containers.FlatRuns.{HasFlat, flat_run, newest_named, spells_there}
use Rattle.reader_laws.proofs.Soundness.HadItems.{had_item}
use Rattle.reader_laws.proofs.Calls.Histories.{first_of}
use Rattle.reader_laws.proofs.Soundness.KnownNames.{flats_known, newest_told}
use Rattle.reader_laws.proofs.Containers.Listings.{FromFirst, from_first}
use Rattle.reader_laws.proofs.Soundness.LookEnds.{Fails, HasContainer, container_of, container_later, length_ends, list_ends, look_ends}
use Rattle.reader_laws.proofs.Faults.PackFails.{parts_fail}
use Rattle.reader_laws.proofs.Faults.ScanFails.{CoversStand, covers_later, top_fails}
use Rattle.reader_laws.proofs.Calls.Troubles.{answered, fails_first, fails_rest}
use Rattle.reader_laws.proofs.Faults.TruncFails.{name_is_item}

no_ok : {X : Type 0} (x : X) (why : Stuck) (r : Result X Stuck) → r ≡ Ok x → r ≡ Err why → ⊥
no_ok x why r a b = let clash : Ok x ≡ Err why = sym a ∙ b in cc

-- ---- the newest flattened index

one_file : (a b : List ℕ) (o : Option (List ℕ)) → o ≡ Some a → o ≡ Some b → a ≡ b
one_file a b o p q = cc

not_both : (bytes : List ℕ) (o : Option (List ℕ)) → o ≡ Some bytes → o ≡ None → ⊥
not_both bytes o p q = let clash : Some bytes ≡ None = sym p ∙ q in cc

none_dropped : (bytes : List ℕ) → drop 0 bytes ≡ bytes
none_dropped [] = refl
none_dropped (b ∷ bytes) = refl

module _ (caller room id : ℕ) (is : IsItem (item.Flat id)) where
  abbrev path_ : Path
  path_ = flat_path id

  abbrev then_ : List ℕ → Tries Flat
  then_ b = done (flat_or_damage id (flat_told b))

  -- its bytes are right, or couldn't be read
  bytes_fail : (bytes : List ℕ) (m : Moment) (events : List Event) (why : Stuck) → IsSoundAt m → IsContainerAt m room → file_then m room path_ ≡ Some bytes → IsLawful m.state events → Runs caller (flat_bytes room id (length bytes)) events (Err why) → FailsByStore caller m.state events why
  bytes_fail bytes m events why s container there lawful runs =
      let size : ℕ = length bytes in
      let r = spells_there m s room id bytes is there in
      let plain : Runs caller (plain_bytes room id size) events (Err why) = plain_fails caller room id is bytes r.0 r.2 why m (moment_after m events) (made_by caller events) there
      (subst (λ a. IsSeen caller m a (moment_after m events)) (calls_are caller events) (seen caller m events lawful s)) runs in
      let two = runs_in_two caller (bytes_left room path_ size size []) (on_ok then_) events (Err why) plain in
      let both : IsLawful m.state (two.first ++ two.rest) = subst (IsLawful m.state) two.all lawful in
      subst (λ es. FailsByStore caller m.state es why) (sym two.all) (by_value two.value two.first two.rest both two.runs two.then_runs)
    where
      by_value : (value : Result (List ℕ) Stuck) (first rest : List Event) → IsLawful m.state (first ++ rest) → Runs caller (bytes_left room path_ (length bytes) (length bytes) []) first value → Runs caller (on_ok then_ value) rest (Err why) → FailsByStore caller m.state (first ++ rest) why
      by_value (Err other) first rest both mine ends =
          let same : other ≡ why = same_trouble {R = Flat} other why ends.1 in
          fails_first caller m.state first rest why both
          (parts_fail caller making.Flat room id bytes (parts_of (length bytes)) m (length bytes) (length bytes) [] first why is s container there (legal_first m first rest both)
          (subst (λ w. Runs caller (bytes_left room path_ (length bytes) (length bytes) []) first (Err w)) same mine))
      by_value (Ok content) first rest both mine ends =
          let l1 = legal_first m first rest both in
          let read : HasBytes room path_ (length bytes - length bytes) (length bytes) (made_by caller first) bytes [] content = parts_run caller making.Flat room id (parts_of (length bytes)) (length bytes) (length bytes) m (moment_after m first) (made_by caller first) bytes [] content is there refl (omega arith) refl
          (subst (λ a. IsSeen caller m a (moment_after m first)) (calls_are caller first) (seen caller m first l1 s)) mine in
          let begins : length bytes - length bytes ≡ 0 = omega arith in
          let all : content ≡ bytes = read.whole ∙ ap (λ n. drop n bytes) begins ∙ none_dropped bytes in
          let r = spells_there m s room id bytes is there in
          let gives : flat_or_damage id (flat_told content) ≡ Ok r.0 = ap (λ b. flat_or_damage id (flat_told b)) all ∙ ap (flat_or_damage id) (flat_told-valid bytes r.0 r.1 r.2) in
          absurd (no_ok r.0 why (flat_or_damage id (flat_told content)) gives ends.1)

  -- The program of a flattened index that stands.
  flat_fails : (m : Moment) (events : List Event) (why : Stuck) (bytes : List ℕ) → IsSoundAt m → IsContainerAt m room → file_then m room path_ ≡ Some bytes → IsLawful m.state events → Runs caller (flat_program room id) events (Err why) → FailsByStore caller m.state events why
  flat_fails m events why bytes s container there lawful runs =
      let f = first_of caller _ _ events (Err why) runs in
      let e : Event = f.event in
      let next : ℕ → Tries Flat = flat_bytes room id in
      let p : FromFirst m f.before e f.later = from_first m events f.before e f.later f.split lawful s in
      let here : Moment = moment_after m f.before in
      let goes : Grows m here = grows_after m f.before (legal_first m f.before (e ∷ f.later) (subst (IsLawful m.state) f.split lawful)) s in
      let held : IsContainerAt here room = container_later m here room goes container in
      let c : HasContainer here p.here room = container_of here p.here room held in
      let now : file_then here room path_ ≡ Some bytes = goes.indices making.Flat room id bytes is there in
      let onward : Moment = next_moment here e in
      let step : Grows here onward = grows_after here (e ∷ []) (legal_first here (e ∷ []) f.later p.rest) p.here in
      elim (length_ends here p.here e.caller room path_ e.reply e.after c c.is.has_flats (answered here.state e.caller _ e.ask e.reply e.after f.asked p.rest.1)) as (λ _. FailsByStore caller m.state events why) [
        | inl (size, file, long, told_) ↦
            let whole : size ≡ length bytes = sym long ∙ ap length (one_file file.bytes bytes (file_then here room path_) (held_then here p.here room path_ file) now) in
            later_fails caller m events f.before e f.later why f.split lawful
            (bytes_fail bytes onward f.later why p.next (container_later here onward room step held) (step.indices making.Flat room id bytes is now) p.rest.2
            (subst (λ n. Runs caller (flat_bytes room id n) f.later (Err why)) whole (subst (λ reply. Runs caller (given (number_in reply) (trouble path_ reply) next) f.later (Err why)) told_ f.rest)))
        | inr (inl (none, told_)) ↦ absurd (not_both bytes (file_then here room path_) now (ap (λ o. file_told o room path_) p.here.shape.told ∙ ap (λ o. file_in_room o path_) c.there ∙ none))
        | inr (inr fails) ↦ here_fails caller m events f.before e f.later why f.split lawful number_in path_ next f.by_caller refl refl fails f.rest
      ]

-- the covers of a flattened index that was right then have their index droppings
covers_stand : (m : Moment) (s : IsSoundAt m) (number : ℕ) (room : Room) → slice_get s.shape.tree.rooms number ≡ Some room → (covers : List Cover) (entries : List Entry) → AreCovered room covers entries → CoversStand m number covers
covers_stand m s number room there [] entries are = tt
covers_stand m s number room there (c ∷ covers) entries are =
    let is : IsCovered room c = are.0 in
    ((is.host, had_item m s number (item.Index is.host c.writer) room is.content there is.stands), covers_stand m s number room there covers are.1.0 are.1.2)

-- ---- behind the names of the flattened indices

newest_fails : (caller room : ℕ) (newest : Option ℕ) (m : Moment) (events : List Event) (why : Stuck) → IsSoundAt m → IsContainerAt m room → ((id : ℕ) → newest ≡ Some id → HadItem m room (item.Flat id)) → IsLawful m.state events → Runs caller (if_newest room newest) events (Err why) → FailsByStore caller m.state events why
newest_fails caller room None m events why s container had lawful runs = top_fails caller room 0 no_flat m events why s container tt lawful runs
newest_fails caller room (Some id) m events why s container had lawful runs =
    let two = runs_in_two caller (flat_program room id) (on_ok (λ flat. top_program room id flat)) events (Err why) runs in
    let both : IsLawful m.state (two.first ++ two.rest) = subst (IsLawful m.state) two.all lawful in
    subst (λ es. FailsByStore caller m.state es why) (sym two.all) (by_value two.value two.first two.rest both two.runs two.then_runs)
  where
    its : HadItem m room (item.Flat id)
    its = had id refl

    by_value : (value : Result Flat Stuck) (first rest : List Event) → IsLawful m.state (first ++ rest) → Runs caller (flat_program room id) first value → Runs caller (on_ok (λ flat. top_program room id flat) value) rest (Err why) → FailsByStore caller m.state (first ++ rest) why
    by_value (Err other) first rest both mine ends =
        let same : other ≡ why = same_trouble {R = Listing} other why ends.1 in
        fails_first caller m.state first rest why both (flat_fails caller room id its.is_item m first why its.bytes s container its.there (legal_first m first rest both) (subst (λ w. Runs caller (flat_program room id) first (Err w)) same mine))
    by_value (Ok flat) first rest both mine ends =
        let l1 = legal_first m first rest both in
        let middle : Moment = moment_after m first in
        let goes : Grows m middle = grows_after m first l1 s in
        let h : HasFlat caller room id first flat = flat_run caller room id m middle first flat its.is_item (seen caller m first l1 s) mine in
        let w : WasRight m middle room flat = flat_right caller room id m middle _ h.content flat (seen caller m first l1 s) its.is_item h.reads h.spells in
        let stand : CoversStand middle room flat.covers = covers_later w.m middle room flat.covers w.ends (covers_stand w.m w.sound room w.room w.there flat.covers w.entries w.covered) in
        fails_rest caller m.state first rest why both
        (subst (λ st. FailsByStore caller st rest why) (follows m first).0
        (top_fails caller room id flat middle rest why (sound_after m first l1 s) (container_later m middle room goes container) stand (legal_rest m first rest both) ends))

-- ---- a room that may be no container

lacked : (a b : ℕ) → a ≡ b → nat_eq a b ≡ true
lacked a b e = grind (arith, nat_tests)

-- a room other than that of the marks is a container
room_stands : (m : Moment) (s : IsSoundAt m) (number : ℕ) (room : Room) → number ≢ m.state.marks → slice_get s.shape.tree.rooms number ≡ Some room → IsContainerAt m number
room_stands m s number room other there =
    let c : IsContainer (IsDrawnBy (last_id m.state) s.shape.tree) room = container_at (last_id m.state) m.state.marks m.state.mount number s.shape.tree room (shape_of m.state s.shape) other there in
    record {
      is_item = record { in_range = tt; widths = tt };
      bytes = [];
      there = ap (λ o. file_told o number access_path) s.shape.told ∙ ap (λ o. file_in_room o access_path) there ∙ c.has_access;
    }

-- a look at a folder of a room: it is a container, or the call is refused or fails
first_look : (m : Moment) (s : IsSoundAt m) (caller room : ℕ) (reply : Reply) (new : State) → Answers m.state caller (Look room (sight.List flats)) reply new → IsContainerAt m room ⊎ (reply ≡ reply_.Refused NoRoom) ⊎ Fails m.state reply new
first_look m s caller room reply new f = elim (cases_eq room m.state.marks) as (λ _. IsContainerAt m room ⊎ (reply ≡ reply_.Refused NoRoom) ⊎ Fails m.state reply new) [
  | inl same ↦ elim (match_cases (room_check m.state room) (MakesAct (look_step room (sight.List flats)) (look_outcome (sight.List flats) m.state) m.state reply new) (λ why. Refuses why m.state reply new) f) as (λ _. IsContainerAt m room ⊎ (reply ≡ reply_.Refused NoRoom) ⊎ Fails m.state reply new) [
    | inl (none, makes) ↦ absurd (checked same none)
    | inr (why, some, refused) ↦ inr (inl (refused.0 ∙ ap (λ w. reply_.Refused w) (reason why same some)))
  ]
  | inr other ↦ elim (cases_Option (slice_get s.shape.tree.rooms room)) [
    | inr (r, there) ↦ inl (room_stands m s room r other there)
    | inl none ↦ elim (look_ends m s caller room (sight.List flats) reply new (ListTells s.shape.tree room flats) other (list_tells s.shape.tree room flats) f) as (λ _. IsContainerAt m room ⊎ (reply ≡ reply_.Refused NoRoom) ⊎ Fails m.state reply new) [
      | inl (answer, says, is) ↦ inr (inl (refused_so none answer says is))
      | inr fails ↦ inr (inr fails)
    ]
  ]
]
  where
    its_check : room ≡ m.state.marks → room_check m.state room ≡ Some NoRoom
    its_check same = cond-true (nat_eq room m.state.marks) (Some NoRoom) None (lacked room m.state.marks same)

    checked : room ≡ m.state.marks → room_check m.state room ≡ None → ⊥
    checked same none = let clash : Some NoRoom ≡ None = sym (its_check same) ∙ none in cc

    reason : (why : Refusal) → room ≡ m.state.marks → room_check m.state room ≡ Some why → why ≡ NoRoom
    reason why same some = let both : Some NoRoom ≡ Some why = sym (its_check same) ∙ some in cc

    no_room : (r : Room) → slice_get s.shape.tree.rooms room ≡ None → slice_get s.shape.tree.rooms room ≡ Some r → ⊥
    no_room r none some = let clash : None ≡ Some r = sym none ∙ some in cc

    refused_so : slice_get s.shape.tree.rooms room ≡ None → (answer : Answer) → ListTells s.shape.tree room flats answer → reply ≡ look_reply (sight.List flats) (Ok answer) → reply ≡ reply_.Refused NoRoom
    refused_so none told.NoRoom says is = is
    refused_so none (told.Names names) says is = absurd (no_room says.room none says.has_room)
    refused_so none told.NoFolder says is = absurd (no_room says.room none says.has_room)
    refused_so none other says is = absurd says

same_refusal : {R : Type 0} (a b : Stuck) → ◌≡◌ {A = Result R Stuck} (Err a) (Err b) → b ≡ a
same_refusal a b e = cc

-- The program that lists the room of this number.
at_fails : (caller room : ℕ) (m : Moment) (events : List Event) (why : Stuck) → IsSoundAt m → IsLawful m.state events → Runs caller (open_at_program room) events (Err why) → FailsOrLacks caller m.state events why
at_fails caller room m events why s lawful runs =
    let path : Path = flats_path [] in
    let then_ : List Name → Tries Listing = λ names. on_ok (if_newest room) (newest_in names None) in
    let f = first_of caller _ _ events (Err why) runs in
    let e : Event = f.event in
    let p : FromFirst m f.before e f.later = from_first m events f.before e f.later f.split lawful s in
    let here : Moment = moment_after m f.before in
    let step = answered here.state e.caller _ e.ask e.reply e.after f.asked p.rest.1 in
    elim (first_look here p.here e.caller room e.reply e.after step) as (λ _. FailsOrLacks caller m.state events why) [
      | inl held ↦ inl (from_names f.before e f.later f.split f.by_caller p held step f.rest)
      | inr (inl refused) ↦ inr (same_refusal {R = Listing} (stuck.Refused NoRoom) why (subst (λ reply. Runs caller (given (names_in reply) (trouble path reply) then_) f.later (Err why)) refused f.rest).1)
      | inr (inr fails) ↦ inl (here_fails caller m events f.before e f.later why f.split lawful names_in path then_ f.by_caller refl refl fails f.rest)
    ]
  where
    from_names : (before : List Event) (e : Event) (later : List Event) (split : events ≡ before ++ e ∷ later) → e.caller ≡ caller → (p : FromFirst m before e later) → IsContainerAt (moment_after m before) room → Answers (moment_after m before).state e.caller (Look room (sight.List flats)) e.reply e.after
        → Runs caller (given (names_in e.reply) (trouble (flats_path []) e.reply) (λ names. on_ok (if_newest room) (newest_in names None))) later (Err why) → FailsByStore caller m.state events why
    from_names before e later split own p held step rest =
        let here : Moment = moment_after m before in
        let onward : Moment = next_moment here e in
        let then_ : List Name → Tries Listing = λ names. on_ok (if_newest room) (newest_in names None) in
        let c : HasContainer here p.here room = container_of here p.here room held in
        let goes : Grows here onward = grows_after here (e ∷ []) (legal_first here (e ∷ []) later p.rest) p.here in
        elim (list_ends here p.here e.caller room flats e.reply e.after c c.is.has_flats step) as (λ _. FailsByStore caller m.state events why) [
          | inl (names, l, is) ↦
              let t = newest_told names None (λ name a. (let i = its_item here p.here names c l name a in (i.0, i.1))) in
              later_fails caller m events before e later why split lawful
              (newest_fails caller room t.0 onward later why p.next (container_later here onward room goes held)
              (λ id newest. goes.stands room (item.Flat id) tt (newest_stands here p.here names c l id (t.1 ∙ ap (λ o. Ok o) newest)))
              p.rest.2 (subst (λ r. Runs caller (on_ok (if_newest room) r) later (Err why)) t.1 (subst (λ reply. Runs caller (given (names_in reply) (trouble (flats_path []) reply) then_) later (Err why)) is rest)))
          | inr fails ↦ here_fails caller m events before e later why split lawful names_in (flats_path []) then_ own refl refl fails rest
        ]
      where
        below : is_top flats ≡ false
        below = refl

        its_item : (x : Moment) (t : IsSoundAt x) (names : List Name) (c : HasContainer x t room) → ListsFolder t.shape.tree room flats names → (name : Name) → Among name names → (it : Item) × (flat_item (flats_path name) ≡ Some it)
        its_item x t names c l name a =
            let i = name_is_item x t room flats names c l below name a in
            (i.1.item, flat_item-here (flats_path name) i.1.item (flats_known i.1.item (sym (ap (λ (q : Path). q.folder) i.1.is_at.printed))) i.1.is_at)

        newest_stands : (x : Moment) (t : IsSoundAt x) (names : List Name) (c : HasContainer x t room) → ListsFolder t.shape.tree room flats names → (id : ℕ) → newest_in names None ≡ Ok (Some id) → HadItem x room (item.Flat id)
        newest_stands x t names c l id newest =
            let n = newest_named names id newest in
            let (name, a, at) = any_found (λ name. IsFlatName name id) names n.named in
            let f = named_file l.room flats name names below l.entries a in
            had_item x t room (item.Flat id) l.room f.0 l.has_room (record { is_item = at.is_item; there = subst (λ q. file_at l.room q ≡ Some f.0) at.printed f.1 })

-- ---- a container's name

dotted_name : (name : Name) → IsLogicalName name → name ≡ marks_name → ⊥
dotted_name name logical is = logical.no_dot (ap (λ n. slice_index n 0) is)

-- a search finds a container, or is refused or fails
find_ends : (m : Moment) (s : IsSoundAt m) (caller : ℕ) (name : Name) (reply : Reply) (new : State) → Answers m.state caller (Find name) reply new → ((number : ℕ) × (reply ≡ reply_.Room number)) ⊎ (reply ≡ reply_.Refused NoRoom) ⊎ Fails m.state reply new
find_ends m s caller name reply new f = by_told f.makes.told f.makes.made f.makes.answered
  where
    by_answer : (answer : Answer) → FindTells s.shape.tree name answer → reply ≡ (find_outcome m.state.table (Ok answer)).reply → ((number : ℕ) × (reply ≡ reply_.Room number)) ⊎ (reply ≡ reply_.Refused NoRoom) ⊎ Fails m.state reply new
    by_answer (told.Number number) says is = inl (number, is)
    by_answer told.Absent says is = inr (inl is)
    by_answer other says is = absurd says

    by_told : (t : Told) → Acts (find_room name) m.state.store new.store t → reply ≡ (find_outcome m.state.table t).reply → ((number : ℕ) × (reply ≡ reply_.Room number)) ⊎ (reply ≡ reply_.Refused NoRoom) ⊎ Fails m.state reply new
    by_told (Ok answer) made is =
        let t = acts_told (find_room name) m.state.store new.store s.shape.tree (Ok answer) s.shape.told made in
        by_answer answer (look_answered (find_room name) s.shape.tree (FindTells s.shape.tree name) (find_tells s.shape.tree name) answer t.0 t.2).1 is
    by_told (Err trouble_.Fault) made is = inr (inr (inl (is, made.cause)))
    by_told (Err trouble_.NoMemory) made is = inr (inr (inr is))

named_fails : (caller : ℕ) (name : Name) (m : Moment) (events : List Event) (why : Stuck) → IsSoundAt m → IsLawful m.state events → Runs caller (open_read_program name) events (Err why) → FailsOrLacks caller m.state events why
named_fails caller name m events why s lawful runs =
    let path : Path = file_in [] [] in
    let f = first_of caller _ _ events (Err why) runs in
    let e : Event = f.event in
    let p : FromFirst m f.before e f.later = from_first m events f.before e f.later f.split lawful s in
    let here : Moment = moment_after m f.before in
    elim (find_ends here p.here e.caller name e.reply e.after (answered here.state e.caller _ e.ask e.reply e.after f.asked p.rest.1)) as (λ _. FailsOrLacks caller m.state events why) [
      | inl (number, is) ↦ later f.before e f.later f.split (at_fails caller number (next_moment here e) f.later why p.next p.rest.2 (subst (λ reply. Runs caller (given (room_in reply) (trouble path reply) open_at_program) f.later (Err why)) is f.rest))
      | inr (inl refused) ↦ inr (same_refusal {R = Listing} (stuck.Refused NoRoom) why (subst (λ reply. Runs caller (given (room_in reply) (trouble path reply) open_at_program) f.later (Err why)) refused f.rest).1)
      | inr (inr fails) ↦ inl (here_fails caller m events f.before e f.later why f.split lawful room_in path open_at_program f.by_caller refl refl fails f.rest)
    ]
  where
    later : (before : List Event) (e : Event) (rest : List Event) → events ≡ before ++ e ∷ rest → FailsOrLacks caller e.after rest why → FailsOrLacks caller m.state events why
    later before e rest split (inl fails) = inl (later_fails caller m events before e rest why split lawful fails)
    later before e rest split (inr lacks) = inr lacks

-- The program of a listing.
pub listing_fails : (caller : ℕ) (program : Tries Listing) (m : Moment) (events : List Event) (why : Stuck) → IsLawful m.state events → IsSoundAt m → Lists program → Runs caller program events (Err why) → FailsOrLacks caller m.state events why
listing_fails caller program m events why lawful s (inl (name, is)) runs = named_fails caller name m events why s lawful (subst (λ q. Runs caller q events (Err why)) is runs)
listing_fails caller program m events why lawful s (inr (room, is)) runs = at_fails caller room m events why s lawful (subst (λ q. Runs caller q events (Err why)) is runs)
