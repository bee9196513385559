-- How looks at a container end in a sound state: they tell what is there, or the store failed.
use Rattle.std.proofs.Common.{◌≡◌, ℕ, nat_eq, Bool, true, false, List, [], length, get_or, Option, Some, None, refl, ap, sym, ◌∙◌, ◌⊎◌, inl, inr, subst, arith}
use Rattle.std.specs.Prelude.{◌≢◌, Ok, Err, slice_get}
use Rattle.std.proofs.lemmas.Bool.Decides.{nat_tests}
use Rattle.plfs_types.specs.Counts.{HasRisen}
use Rattle.plfs_types.specs.declared.names.Path.{Path}
use Rattle.container_layout.specs.declared.items.Item.TheVariants.{Access}
use Rattle.container_layout.proofs.Facts.{elsewhere}
use Rattle.store_api.specs.declared.tree.Room.{Room}
use Rattle.store_api.specs.declared.step.Answer.{Answer}
use Rattle.store_api.specs.declared.step.Answer.TheVariants as told
use Rattle.store_api.specs.declared.store.Trouble.TheVariants as trouble
use Rattle.store_api.specs.Acts.{Acts}
use Rattle.store_api.specs.Effect.{effect}
use Rattle.store_api.specs.Room.{has_folder}
use Rattle.store_laws.specs.Files.{file_at}
use Rattle.store_laws.specs.There.{HoldsFile, ListsFolder}
use Rattle.store_laws.specs.Outcomes.{Looks}
use Rattle.store_laws.specs.Says.{ListTells, LengthTells}
use Rattle.store_laws.proofs.Facts.{acts_told, list_tells, length_tells, look_answered}
use Rattle.mount_model.specs.declared.call.Call.TheVariants.{Look}
use Rattle.mount_model.specs.declared.call.Look.{Look as Sight}
use Rattle.mount_model.specs.declared.call.Look.TheVariants as sight
use Rattle.mount_model.specs.declared.reply.Reply.{Reply}
use Rattle.mount_model.specs.declared.reply.Reply.TheVariants.{Looked, Fault, NoMemory}
use Rattle.mount_model.specs.declared.reply.Refusal.{Refusal}
use Rattle.mount_model.specs.Paths.{Name, access_path}
use Rattle.store_api.specs.Names.{marks_folder}
use Rattle.mount_model.specs.State.{State, last_id}
use Rattle.mount_model.specs.Making.{Told, MakesAct, Refuses, room_check}
use Rattle.mount_model.specs.Looking.{look_step, look_outcome, look_reply}
use Rattle.mount_model.specs.Step.{Answers}
use Rattle.mount_model.proofs.Facts.{match_cases}
use Rattle.mount_sound.specs.Container.{IsContainer}
use Rattle.mount_sound.specs.Shape.{IsDrawnBy}
use Rattle.reader_laws.specs.Moments.{Moment, IsSoundAt, Grows}
use Rattle.reader_laws.proofs.Gathered.Facts.{in_a_room, in_tree}
use Rattle.reader_laws.specs.Failing.{IsContainerAt}

-- ---- a container

-- a container in the tree of a sound state
pub record HasContainer (m : Moment) (s : IsSoundAt m) (number : ℕ) : Type 0 where
  pub room : Room
  pub there : slice_get s.shape.tree.rooms number ≡ Some room
  pub is : IsContainer (IsDrawnBy (last_id m.state) s.shape.tree) room
  pub other : number ≢ m.state.marks

pub container_of : (m : Moment) (s : IsSoundAt m) (number : ℕ) → IsContainerAt m number → HasContainer m s number
container_of m s number had =
    let f = in_a_room (slice_get s.shape.tree.rooms number) access_path had.bytes (in_tree m s number access_path had.bytes had.there) in
    record {
      room = f.0;
      there = f.1;
      is = elim (s.shape.shaped.rooms number f.0 f.1) as (λ _. IsContainer (IsDrawnBy (last_id m.state) s.shape.tree) f.0) [
        | inl marks ↦ (let mark = marks.files access_path had.bytes f.2 in absurd (no_mark (ap (λ (p : Path). p.folder) mark.3)))
        | inr container ↦ container
      ];
      other = λ same.
          let both : Some f.0 ≡ Some s.shape.marks = sym f.1 ∙ ap (λ n. slice_get s.shape.tree.rooms n) same ∙ s.shape.has_marks in
          let one : f.0 ≡ s.shape.marks = cc in
          let mark = s.shape.is_marks.files access_path had.bytes (subst (λ r. file_at r access_path ≡ Some had.bytes) one f.2) in
          no_mark (ap (λ (p : Path). p.folder) mark.3);
    }
  where
    no_mark : [] ≡ marks_folder → ⊥
    no_mark clash = elsewhere (ap (λ (l : List ℕ). get_or l 0 0) clash) refl

pub container_later : (a b : Moment) (number : ℕ) → Grows a b → IsContainerAt a number → IsContainerAt b number
container_later a b number grows had = grows.stands number Access tt had

-- ---- a look

-- the call failed, where the store's count of faults rose, or wanted memory
abbrev pub Fails : State → Reply → State → Type 0
Fails old reply new = ((reply ≡ Fault) × HasRisen old.store.faults new.store.faults) ⊎ (reply ≡ NoMemory)

not_marks : (room marks : ℕ) → room ≢ marks → nat_eq room marks ≡ false
not_marks room marks other = grind (arith, nat_tests)

unchecked : (old : State) (room : ℕ) (why : Refusal) → room ≢ old.marks → room_check old room ≡ Some why → ⊥
unchecked old room why other e = let none : nat_eq room old.marks ≡ false = not_marks room old.marks other in let f : None ≡ Some why = rw none at e in cc

faulted : (look : Sight) → look_reply look (Err trouble.Fault) ≡ Fault
faulted sight.Top = refl
faulted (sight.List folder) = refl
faulted (sight.Length path) = refl
faulted (sight.Read path at len) = refl

wanted : (look : Sight) → look_reply look (Err trouble.NoMemory) ≡ NoMemory
wanted sight.Top = refl
wanted (sight.List folder) = refl
wanted (sight.Length path) = refl
wanted (sight.Read path at len) = refl

-- the look told an answer that says so
abbrev pub Told_ : Sight → (Answer → Type 0) → Reply → Type 0
Told_ look says reply = (answer : Answer) × says answer × (reply ≡ look_reply look (Ok answer))

pub look_ends : (m : Moment) (s : IsSoundAt m) (caller room : ℕ) (look : Sight) (reply : Reply) (new : State) (says : Answer → Type 0) → room ≢ m.state.marks → Looks s.shape.tree says (effect s.shape.tree (look_step room look)) → Answers m.state caller (Look room look) reply new
    → Told_ look says reply ⊎ Fails m.state reply new
look_ends m s caller room look reply new says other looks f =
    elim (match_cases (room_check m.state room) (MakesAct (look_step room look) (look_outcome look m.state) m.state reply new) (λ why. Refuses why m.state reply new) f) as (λ _. Told_ look says reply ⊎ Fails m.state reply new) [
      | inl (none, l) ↦ by_told l.told l.made l.answered
      | inr (why, some, refused) ↦ absurd (unchecked m.state room why other some)
    ]
  where
    by_told : (t : Told) → Acts (look_step room look) m.state.store new.store t → reply ≡ look_reply look t → Told_ look says reply ⊎ Fails m.state reply new
    by_told (Ok answer) made is =
        let t = acts_told (look_step room look) m.state.store new.store s.shape.tree (Ok answer) s.shape.told made in
        inl (answer, (look_answered (look_step room look) s.shape.tree says looks answer t.0 t.2).1, is)
    by_told (Err trouble.Fault) made is = inr (inl (is ∙ faulted look, made.cause))
    by_told (Err trouble.NoMemory) made is = inr (inr (is ∙ wanted look))

-- ---- each look

one_room : (a b : Room) (o : Option Room) → o ≡ Some a → o ≡ Some b → a ≡ b
one_room a b o p q = cc

clash : (a : Room) (o : Option Room) → o ≡ Some a → o ≡ None → ⊥
clash a o p q = let both : Some a ≡ None = sym p ∙ q in cc

-- a listing of a folder that is there names its entries
pub list_ends : (m : Moment) (s : IsSoundAt m) (caller room : ℕ) (folder : Name) (reply : Reply) (new : State) (c : HasContainer m s room) → has_folder c.room folder ≡ true → Answers m.state caller (Look room (sight.List folder)) reply new
    → ((names : List Name) × ListsFolder s.shape.tree room folder names × (reply ≡ Looked (told.Names names))) ⊎ Fails m.state reply new
list_ends m s caller room folder reply new c has f = elim (look_ends m s caller room (sight.List folder) reply new (ListTells s.shape.tree room folder) c.other (list_tells s.shape.tree room folder) f) as (λ _. ((names : List Name) × ListsFolder s.shape.tree room folder names × (reply ≡ Looked (told.Names names))) ⊎ Fails m.state reply new) [
  | inl (answer, says, is) ↦ inl (named answer says is)
  | inr fails ↦ inr fails
]
  where
    named : (answer : Answer) → ListTells s.shape.tree room folder answer → reply ≡ look_reply (sight.List folder) (Ok answer) → (names : List Name) × ListsFolder s.shape.tree room folder names × (reply ≡ Looked (told.Names names))
    named (told.Names names) says is = (names, says, is)
    named told.NoRoom says is = absurd (clash c.room (slice_get s.shape.tree.rooms room) c.there says)
    named told.NoFolder says is = absurd (both (sym (ap (λ r. has_folder r folder) (one_room c.room says.room (slice_get s.shape.tree.rooms room) c.there says.has_room)) ∙ has) says.none)
      where
        both : {b : Bool} → b ≡ true → b ≡ false → ⊥
        both p q = let e : true ≡ false = sym p ∙ q in cc
    named other says is = absurd says

pub top_ends : (m : Moment) (s : IsSoundAt m) (caller room : ℕ) (reply : Reply) (new : State) (c : HasContainer m s room) → Answers m.state caller (Look room sight.Top) reply new
    → ((names : List Name) × ListsFolder s.shape.tree room [] names × (reply ≡ Looked (told.Names names))) ⊎ Fails m.state reply new
top_ends m s caller room reply new c f = elim (look_ends m s caller room sight.Top reply new (ListTells s.shape.tree room []) c.other (list_tells s.shape.tree room []) f) as (λ _. ((names : List Name) × ListsFolder s.shape.tree room [] names × (reply ≡ Looked (told.Names names))) ⊎ Fails m.state reply new) [
  | inl (answer, says, is) ↦ inl (named answer says is)
  | inr fails ↦ inr fails
]
  where
    named : (answer : Answer) → ListTells s.shape.tree room [] answer → reply ≡ look_reply sight.Top (Ok answer) → (names : List Name) × ListsFolder s.shape.tree room [] names × (reply ≡ Looked (told.Names names))
    named (told.Names names) says is = (names, says, is)
    named told.NoRoom says is = absurd (clash c.room (slice_get s.shape.tree.rooms room) c.there says)
    named told.NoFolder says is = absurd (let e : true ≡ false = says.none in cc)
    named other says is = absurd says

-- the length of a file in a folder that is there, which may be absent
pub length_ends : (m : Moment) (s : IsSoundAt m) (caller room : ℕ) (path : Path) (reply : Reply) (new : State) (c : HasContainer m s room) → has_folder c.room path.folder ≡ true → Answers m.state caller (Look room (sight.Length path)) reply new
    → ((size : ℕ) × (held : HoldsFile s.shape.tree room path) × (length held.bytes ≡ size) × (reply ≡ Looked (told.Number size))) ⊎ ((file_at c.room path ≡ None) × (reply ≡ Looked told.Absent)) ⊎ Fails m.state reply new
length_ends m s caller room path reply new c has f = elim (look_ends m s caller room (sight.Length path) reply new (LengthTells s.shape.tree room path) c.other (length_tells s.shape.tree room path) f) as (λ _. ((size : ℕ) × (held : HoldsFile s.shape.tree room path) × (length held.bytes ≡ size) × (reply ≡ Looked (told.Number size))) ⊎ ((file_at c.room path ≡ None) × (reply ≡ Looked told.Absent)) ⊎ Fails m.state reply new) [
  | inl (answer, says, is) ↦ sized answer says is
  | inr fails ↦ inr (inr fails)
]
  where
    both : {b : Bool} → b ≡ true → b ≡ false → ⊥
    both p q = let e : true ≡ false = sym p ∙ q in cc

    sized : (answer : Answer) → LengthTells s.shape.tree room path answer → reply ≡ look_reply (sight.Length path) (Ok answer)
        → ((size : ℕ) × (held : HoldsFile s.shape.tree room path) × (length held.bytes ≡ size) × (reply ≡ Looked (told.Number size))) ⊎ ((file_at c.room path ≡ None) × (reply ≡ Looked told.Absent)) ⊎ Fails m.state reply new
    sized (told.Number size) says is = inl (size, says.0, says.1, is)
    sized told.NoRoom says is = absurd (clash c.room (slice_get s.shape.tree.rooms room) c.there says)
    sized told.NoFolder says is = absurd (both (sym (ap (λ r. has_folder r path.folder) (one_room c.room says.room (slice_get s.shape.tree.rooms room) c.there says.has_room)) ∙ has) says.none)
    sized told.Absent says is = inr (inl (ap (λ r. file_at r path) (one_room c.room says.room (slice_get s.shape.tree.rooms room) c.there says.has_room) ∙ says.none, is))
    sized other says is = absurd says
