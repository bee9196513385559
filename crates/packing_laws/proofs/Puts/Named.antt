-- The container that a writer opens is the first of its name then.
use Rattle.std.proofs.Common.{◌≡◌, ◌<◌, ℕ, List, [], ◌∷◌, ◌++◌, length, Some, Ok, Err, refl, sym, ap, ◌∙◌, subst, inl, inr, append_assoc, arith}
use Rattle.std.specs.Prelude.{slice_get}
use Rattle.std.proofs.lemmas.Bool.{cases_eq}
use Rattle.store_api.specs.declared.step.Answer.TheVariants.{Number, Old}
use Rattle.store_api.specs.declared.store.Trouble.TheVariants.{Fault, NoMemory}
use Rattle.store_api.specs.declared.tree.Room.{Room as Folder}
use Rattle.store_api.specs.declared.tree.Tree.{Tree}
use Rattle.store_api.specs.Step.{make_room}
use Rattle.store_laws.specs.Changes.{RoomMade}
use Rattle.store_laws.specs.Outcomes.{MadeOrNot}
use Rattle.store_laws.specs.Says.{WhyNoRoomMade}
use Rattle.store_laws.specs.There.{IsRoomOf}
use Rattle.store_laws.proofs.Facts.{acts_told, added_room, make_room_told, slice_get_more}
use Rattle.mount_model.specs.declared.call.Call.TheVariants.{MakeContainer}
use Rattle.mount_model.specs.declared.reply.Reply.TheVariants.{Room}
use Rattle.mount_model.specs.Finding.{make_outcome}
use Rattle.mount_model.specs.History.{Event, state_after}
use Rattle.mount_model.specs.Making.{Told}
use Rattle.mount_model.specs.Paths.{Name, new_files, new_folders}
use Rattle.mount_model.specs.State.{State, Table}
use Rattle.mount_model.specs.Step.{IsStep}
use Rattle.mount_sound.specs.Owed.{IsLawful}
use Rattle.mount_sound.proofs.Facts.{one_tree}
use Rattle.mount_model.specs.Running.{unbroken}
use Rattle.writer_flow.specs.declared.handle.WriterHandle.{WriterHandle}
use Rattle.writer_flow.specs.Opening.{open_program}
use Rattle.writer_laws.specs.Knowing.{HasRow}
use Rattle.writer_laws.proofs.Facts.{EnteredBy, entered_by}
use Rattle.reader_laws.specs.Moments.{Dropping, IsSoundAt, Moment, moment_after, next_moment}
use Rattle.reader_laws.proofs.Gathered.Facts.{follows, legal_first, legal_rest, moment-append, sound_after}
use Rattle.reader_laws.proofs.Facts.{answered}
use Rattle.reader_laws.specs.Naming.{IsRoomNamed}
use Rattle.packing_laws.proofs.OnlyUnits.Alone.{Comes, IsMade, behind}
use Rattle.packing_laws.proofs.Puts.Putting.{HasWritten}

-- ---- what the call that finds or makes it tells

number_is : (a b : ℕ) → Number a ≡ Number b → a ≡ b
number_is a b is = cc

was_there : (t : Tree) (k : ℕ) (other new : Folder) → k < length t.rooms → slice_get (t.rooms ++ new ∷ []) k ≡ Some other → slice_get t.rooms k ≡ Some other
was_there t k other new below there = (slice_get_more t.rooms k other new there).1 (λ last. omega (arith, below, last))

made_named : (tree after : Tree) (name : Name) (folders files : List Name) (told : Told) (table : Table) (room : ℕ) → Room room ≡ (make_outcome table told).reply → MadeOrNot tree (Number (length tree.rooms)) (RoomMade tree name folders files) (WhyNoRoomMade tree name) told after → IsRoomOf after name room
made_named tree after name folders files (Ok (Number n)) table room e m =
    let same : n ≡ room = cc in
    elim (cases_eq n (length tree.rooms)) as (λ _. IsRoomOf after name room) [
      | inl last ↦
          let r = m.done (ap (λ k. Ok (Number k)) last) in
          subst (λ t. IsRoomOf t name room) (sym r.gives) (subst (IsRoomOf (record { rooms = tree.rooms ++ r.new ∷ [] }) name) (sym last ∙ same) (record {
            room = r.new;
            has_room = added_room tree r.new;
            named = r.named;
            first = λ k other below there is. r.free k other (was_there tree k other r.new below there) is;
          }))
      | inr other ↦ absurd (m.stays (Number n) refl (λ is. other (number_is n (length tree.rooms) is))).1
    ]
made_named tree after name folders files (Ok (Old n)) table room e m =
    let same : n ≡ room = cc in
    let s = m.stays (Old n) refl (λ is. cc) in
    subst (IsRoomOf after name) same (subst (λ t. IsRoomOf t name n) (sym s.0) s.1)
made_named tree after name folders files (Ok answer) table room e m = absurd (cc)
made_named tree after name folders files (Err Fault) table room e m = absurd (cc)
made_named tree after name folders files (Err NoMemory) table room e m = absurd (cc)

making_named : (m : Moment) (making : Event) (rest : List Event) (name : Name) (room : ℕ) → IsSoundAt m → IsLawful m.state (making ∷ rest) → making.ask ≡ unbroken (MakeContainer name) → making.reply ≡ Room room → IsRoomNamed (next_moment m making) name room
making_named m making rest name room sound lawful asks told tree has =
    let a = answered m.state making.caller (MakeContainer name) making.ask (Room room) making.after asks (subst (λ reply. IsStep m.state making.caller making.ask reply making.after) told lawful.1) in
    let acts = a.makes in
    let t = acts_told (make_room name new_folders new_files) m.state.store making.after.store sound.shape.tree acts.told sound.shape.told acts.made in
    let is : IsRoomOf t.0 name room = made_named sound.shape.tree t.0 name new_folders new_files acts.told m.state.table room acts.answered (make_room_told name new_folders new_files sound.shape.tree acts.told t.0 t.2) in
    subst (λ x. IsRoomOf x name room) (one_tree t.0 tree making.after.store.tree t.1 has) is

-- ---- as a writer is opened

-- the moment at which the writer's container had the name, and what led there and on
pub record Named (m : Moment) (name : Name) (room : ℕ) (to : Moment) : Type 0 where
  pub opening : List Event
  pub lawful : IsLawful m.state opening
  pub named : IsRoomNamed (moment_after m opening) name room
  pub on : Comes (moment_after m opening) to

named_parts : (m : Moment) (name : Name) (room : ℕ) (events first later : List Event) (making : Event) → IsSoundAt m → IsLawful m.state events → events ≡ first ++ making ∷ later → making.ask ≡ unbroken (MakeContainer name) → making.reply ≡ Room room → Named m name room (moment_after m events)
named_parts m name room events first later making sound lawful all asks told =
    let whole : IsLawful m.state (first ++ making ∷ later) = subst (λ (es : List Event). IsLawful m.state es) all lawful in
    let mid : Moment = moment_after m first in
    let on : IsLawful mid.state (making ∷ later) = legal_rest m first (making ∷ later) whole in
    let sound_mid : IsSoundAt mid = sound_after m first (legal_first m first (making ∷ later) whole) sound in
    let at : moment_after m (first ++ making ∷ []) ≡ next_moment mid making = moment-append m first (making ∷ []) in
    let front : IsLawful m.state (first ++ making ∷ []) = legal_first m (first ++ making ∷ []) later (subst (λ (es : List Event). IsLawful m.state es) (sym (append_assoc first (making ∷ []) later)) whole) in
    let Leads : Moment → Type 0 = λ x. Comes x (moment_after m events) in
    let goes : Leads (next_moment mid making) = record { events = later; lawful = on.2; ends = sym (ap (moment_after m) all ∙ moment-append m first (making ∷ later)) } in
    record {
      opening = first ++ making ∷ [];
      lawful = front;
      named = subst (λ x. IsRoomNamed x name room) (sym at) (making_named mid making later name room sound_mid on asks told);
      on = subst Leads (sym at) goes;
    }

pub writer_named : (m : Moment) (handle : WriterHandle) (name : Name) (host cap : ℕ) (end : State) (d : Dropping) → IsSoundAt m → (b : IsMade (open_program name host cap) m (Ok handle) end) → HasWritten (behind (open_program name host cap) m (Ok handle) end b) handle d []
    → Named (next_moment m b.greeting) name d.room (behind (open_program name host cap) m (Ok handle) end b)
writer_named m handle name host cap end d sound b h =
    let g : Moment = next_moment m b.greeting in
    let sound_g : IsSoundAt g = sound_after m (b.greeting ∷ []) (b.lawful.0, b.lawful.1, tt) sound in
    let e : EnteredBy 0 name host cap handle.writer g.state b.events = entered_by 0 name host cap g.state b.events (Ok handle) handle sound_g.regular b.lawful.2 b.runs refl in
    let has : HasRow 0 handle.writer h.row (state_after g.state b.events) = subst (λ s. HasRow 0 handle.writer h.row s) (follows g b.events).0 h.knows.has in
    let room : e.room ≡ d.room = sym (e.placed h.row has).0 ∙ h.room in
    subst (λ r. Named g name r (moment_after g b.events)) room (named_parts g name e.room b.events e.first (e.between ++ e.entering ∷ e.rest) e.making sound_g b.lawful.2 e.all e.makes.1 e.made)
