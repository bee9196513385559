-- What the call that finds a container tells.
use Rattle.std.proofs.Common.{◌≡◌, ◌<◌, ℕ, List, [], ◌∷◌, ◌++◌, length, Option, Some, inl, inr, refl, sym, ap, ◌∙◌, subst, arith, append_assoc}
use Rattle.std.specs.Prelude.{Ok, Err, slice_get, slice_index}
use Rattle.std.proofs.lemmas.Bool.{cases_eq}
use Rattle.store_api.specs.declared.step.Answer.TheVariants.{Number, Old}
use Rattle.store_api.specs.declared.store.Trouble.TheVariants.{Fault, NoMemory}
use Rattle.store_api.specs.declared.tree.Room.{Room as Folder}
use Rattle.store_api.specs.declared.tree.Tree.{Tree}
use Rattle.store_api.specs.Step.{find_room, make_room}
use Rattle.store_laws.specs.Changes.{RoomMade}
use Rattle.store_laws.specs.Outcomes.{MadeOrNot}
use Rattle.store_laws.specs.Says.{FindTells, WhyNoRoomMade}
use Rattle.store_laws.specs.Tells.{Tells}
use Rattle.store_laws.specs.There.{IsRoomOf}
use Rattle.store_laws.proofs.Facts.{acts_told, added_room, find_tells, look_answered, make_room_told, slice_get_more}
use Rattle.mount_model.specs.declared.call.Call.TheVariants.{Find, MakeContainer}
use Rattle.mount_model.specs.declared.reply.Reply.TheVariants.{Room}
use Rattle.mount_model.specs.Finding.{find_outcome, make_outcome}
use Rattle.mount_model.specs.History.{Event}
use Rattle.mount_model.specs.Making.{Told}
use Rattle.mount_model.specs.Paths.{Name, access_path, new_files, new_folders}
use Rattle.mount_model.specs.State.{State, Table}
use Rattle.mount_model.specs.Step.{Answers, IsStep}
use Rattle.mount_sound.specs.Owed.{IsLawful}
use Rattle.mount_model.specs.Running.{unbroken}
use Rattle.reader_laws.specs.Moments.{IsSoundAt, Moment, file_in_room, file_told, moment_after, next_moment}
use Rattle.reader_laws.proofs.Gathered.Facts.{legal_first, legal_rest, moment-append, sound_after}
use Rattle.reader_laws.specs.Failing.{IsContainerAt}
use Rattle.reader_laws.proofs.Facts.{answered}
use Rattle.reader_laws.specs.Naming.{IsRoomNamed}
use Rattle.headline_laws.proofs.Plays.Callers.Standing.{Next}

number_found : (table : Table) (told : Told) (room : ℕ) → Room room ≡ (find_outcome table told).reply → told ≡ Ok (Number room)
number_found table (Ok (Number n)) room e = let same : n ≡ room = cc in ap (λ k. Ok (Number k)) same
number_found table (Ok answer) room e = absurd (cc)
number_found table (Err Fault) room e = absurd (cc)
number_found table (Err NoMemory) room e = absurd (cc)

-- it is told of the first room of this name
pub name_found : (old : State) (caller : ℕ) (name : Name) (room : ℕ) (new : State) (tree : Tree) → Answers old caller (Find name) (Room room) new → old.store.tree ≡ Some tree → IsRoomOf tree name room
name_found old caller name room new tree finds has =
    let m = finds.makes in
    let t = acts_told (find_room name) old.store new.store tree m.told has m.made in
    (look_answered (find_room name) tree (FindTells tree name) (find_tells tree name) (Number room) t.0 (subst (λ o. Tells (find_room name) tree o t.0) (number_found old.table m.told room m.answered) t.2)).1

-- what was found is a container
pub container_found : (m : Moment) (s : IsSoundAt m) (n room : ℕ) (name : Name) (after : State) → Answers m.state n (Find name) (Room room) after → IsContainerAt m room
container_found m s n room name after a =
    let is : IsRoomOf s.shape.tree name room = name_found m.state n name room after s.shape.tree a s.shape.told in
    elim (s.shape.shaped.rooms room is.room is.has_room) as (λ _. IsContainerAt m room) [
      | inl marks ↦ absurd (a.named.no_dot (ap (λ l. slice_index l 0) (sym is.named ∙ marks.named)))
      | inr c ↦ record {
        is_item = record { in_range = tt; widths = tt };
        bytes = [];
        there = ap (λ o. file_told o room access_path) s.shape.told ∙ ap (λ o. file_in_room o access_path) is.has_room ∙ c.has_access;
      }
    ]

-- ---- a container that was found or made

-- the room that was told is the first of this name then
pub made_named : (tree after : Tree) (name : Name) (folders files : List Name) (told : Told) (table : Table) (room : ℕ) → Room room ≡ (make_outcome table told).reply → MadeOrNot tree (Number (length tree.rooms)) (RoomMade tree name folders files) (WhyNoRoomMade tree name) told after → IsRoomOf after name room
made_named tree after name folders files (Ok (Number n)) table room e m =
    let same : n ≡ room = cc in
    elim (cases_eq n (length tree.rooms)) as (λ _. IsRoomOf after name room) [
      | inl last ↦
          let r = m.done (ap (λ k. Ok (Number k)) last) in
          subst (λ t. IsRoomOf t name room) (sym r.gives) (subst (IsRoomOf (record { rooms = tree.rooms ++ r.new ∷ [] }) name) (sym last ∙ same) (record {
            room = r.new;
            has_room = added_room tree r.new;
            named = r.named;
            first = λ k other below there is. r.free k other (was_there tree k other r.new below there) is;
          }))
      | inr other ↦ absurd (m.stays (Number n) refl (λ is. other (number_is n (length tree.rooms) is))).1
    ]
  where
    number_is : (a b : ℕ) → Number a ≡ Number b → a ≡ b
    number_is a b is = cc

    was_there : (t : Tree) (k : ℕ) (other new : Folder) → k < length t.rooms → slice_get (t.rooms ++ new ∷ []) k ≡ Some other → slice_get t.rooms k ≡ Some other
    was_there t k other new below there = (slice_get_more t.rooms k other new there).1 (λ last. omega (arith, below, last))
made_named tree after name folders files (Ok (Old n)) table room e m =
    let same : n ≡ room = cc in
    let s = m.stays (Old n) refl (λ is. cc) in
    subst (IsRoomOf after name) same (subst (λ t. IsRoomOf t name n) (sym s.0) s.1)
made_named tree after name folders files (Ok answer) table room e m = absurd (cc)
made_named tree after name folders files (Err Fault) table room e m = absurd (cc)
made_named tree after name folders files (Err NoMemory) table room e m = absurd (cc)

some_tree : (a b : Tree) (o : Option Tree) → o ≡ Some a → o ≡ Some b → a ≡ b
some_tree a b o e f = cc

-- In some events of a statement a container was found or made: its room is the first of this name behind that call.
pub name_made : (start : Moment) (before greeting mine first rest : List Event) (making : Event) (name : Name) (room : ℕ) → Next start (before ++ greeting) mine → mine ≡ first ++ making ∷ rest → making.ask ≡ unbroken (MakeContainer name) → making.reply ≡ Room room
    → IsRoomNamed (moment_after start (before ++ ((greeting ++ first) ++ making ∷ []))) name room
name_made start before greeting mine first rest making name room next split asks told tree has =
    let now : Moment = moment_after start (before ++ greeting) in
    let there : Moment = moment_after now first in
    let all : IsLawful now.state (first ++ making ∷ rest) = subst (IsLawful now.state) split next.lawful in
    let legal = legal_rest now first (making ∷ rest) all in
    let sound : IsSoundAt there = sound_after now first (legal_first now first (making ∷ rest) all) next.sound in
    let m = answered there.state making.caller (MakeContainer name) making.ask (Room room) making.after asks (subst (λ reply. IsStep there.state making.caller making.ask reply making.after) told legal.1) in
    let acts = m.makes in
    let t = acts_told (make_room name new_folders new_files) there.state.store making.after.store sound.shape.tree acts.told sound.shape.told acts.made in
    let is : IsRoomOf t.0 name room = made_named sound.shape.tree t.0 name new_folders new_files acts.told there.state.table room acts.answered (make_room_told name new_folders new_files sound.shape.tree acts.told t.0 t.2) in
    let at : moment_after start (before ++ ((greeting ++ first) ++ making ∷ [])) ≡ next_moment there making = ap (moment_after start) (ap (λ z. before ++ z) (append_assoc greeting first (making ∷ [])) ∙ sym (append_assoc before greeting (first ++ making ∷ []))) ∙ moment-append start (before ++ greeting) (first ++ making ∷ []) ∙ moment-append now first (making ∷ []) in
    let tree_is : making.after.store.tree ≡ Some tree = ap (λ (x : Moment). x.state.store.tree) (sym at) ∙ has in
    subst (λ x. IsRoomOf x name room) (some_tree t.0 tree making.after.store.tree t.1 tree_is) is
