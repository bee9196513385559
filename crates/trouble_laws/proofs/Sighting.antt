-- What the looks of a migration tell shows no damage.
use Rattle.std.proofs.Common.{◌≡◌, ◌≢◌, ℕ, Bool, true, false, List, length, take, drop, get_or, Option, Some, None, refl, ap, sym, ◌∙◌, ◌⊎◌, inl, inr, subst}
use Rattle.std.specs.Prelude.{Ok, Err, slice_get}
use Rattle.plfs_types.specs.declared.names.Path.{Path}
use Rattle.container_layout.proofs.Facts.{elsewhere}
use Rattle.store_api.specs.declared.step.Answer.{Answer}
use Rattle.store_api.specs.declared.step.Answer.TheVariants as answer
use Rattle.store_api.specs.declared.store.Trouble.TheVariants as trouble_
use Rattle.store_api.specs.declared.tree.Room.{Room}
use Rattle.store_api.specs.Acts.{Acts}
use Rattle.store_api.specs.Room.{has_folder}
use Rattle.store_laws.specs.Files.{file_at}
use Rattle.store_laws.specs.Says.{LengthTells}
use Rattle.store_laws.proofs.Facts.{acts_told, length_tells, look_answered}
use Rattle.mount_model.specs.declared.call.Call.TheVariants.{Look}
use Rattle.mount_model.specs.declared.call.Look.TheVariants.{Length, Read}
use Rattle.mount_model.specs.declared.reply.Reply.{Reply}
use Rattle.mount_model.specs.declared.reply.Reply.TheVariants.{Damaged, Looked}
use Rattle.mount_model.specs.Looking.{length_reply, look_outcome, look_step}
use Rattle.mount_model.specs.Making.{MakesAct, Refuses, Told, room_check}
use Rattle.mount_model.specs.Paths.{index_path}
use Rattle.mount_model.specs.State.{State, last_id}
use Rattle.mount_model.specs.Step.{IsStep}
use Rattle.mount_model.proofs.Facts.{is_container, match_cases}
use Rattle.mount_sound.specs.Container.{IsContainer}
use Rattle.mount_sound.specs.Shape.{IsDrawnBy}
use Rattle.mount_sound.proofs.Shapes.Facts.{container_at, shape_of}
use Rattle.mount_sound.specs.Ledger.{Ledger}
use Rattle.mount_sound.specs.Sound.{IsSoundFor}
use Rattle.mount_sound.proofs.Facts.{some_room}
use Rattle.mount_model.specs.Running.{unbroken}
use Rattle.mount_model.specs.declared.names.Metadata.{Metadata}
use Rattle.mount_model.specs.FlowReplies.{bytes_in, trouble, names_in}
use Rattle.index_reader.specs.Replies.{number_in}
use Rattle.reader_laws.specs.Moments.{Moment, file_in_room, file_told, file_then}
use Rattle.reader_laws.proofs.Gathered.Facts.{read_ends}
use Rattle.reader_laws.proofs.Facts.{answered}
use Rattle.trouble_laws.specs.Undamaged.{IsNoDamage}
use Rattle.trouble_laws.proofs.Listed.{IsPlain}

pub both_ways : {b : Bool} → b ≡ true → b ≡ false → ⊥
both_ways p q = let clash : true ≡ false = sym p ∙ q in cc

one_file : (a b : List ℕ) (o : Option (List ℕ)) → o ≡ Some a → o ≡ Some b → a ≡ b
one_file a b o p q = cc

-- ---- replies that tell nothing

pub plain_trouble : (path : Path) (reply : Reply) → IsPlain reply → IsNoDamage (trouble path reply)
plain_trouble path (Looked found_) plain = absurd plain
plain_trouble path (Damaged folder file) plain = absurd plain
plain_trouble path reply plain = tt

pub plain_top_trouble : (path : Path) (reply : Reply) → IsPlain reply → IsNoDamage (trouble path reply)
plain_top_trouble path (Looked found_) plain = absurd plain
plain_top_trouble path (Damaged folder file) plain = absurd plain
plain_top_trouble path reply plain = tt

pub plain_number : (reply : Reply) → IsPlain reply → number_in reply ≡ None
plain_number (Looked found_) plain = absurd plain
plain_number (Damaged folder file) plain = absurd plain
plain_number reply plain = refl

pub plain_bytes : (reply : Reply) → IsPlain reply → bytes_in reply ≡ None
plain_bytes (Looked found_) plain = absurd plain
plain_bytes (Damaged folder file) plain = absurd plain
plain_bytes reply plain = refl

pub plain_names : (reply : Reply) → IsPlain reply → names_in reply ≡ None
plain_names (Looked found_) plain = absurd plain
plain_names (Damaged folder file) plain = absurd plain
plain_names reply plain = refl

-- ---- looks at an index dropping that is there

module _ (issued : Ledger) (state : State) (s : IsSoundFor issued state) (number : ℕ) (m : Metadata) (bytes : List ℕ) (room : Room) (there : slice_get s.shape.tree.rooms number ≡ Some room) (here : file_at room (index_path m.host m.writer) ≡ Some bytes) where
  abbrev its_path : Path
  its_path = index_path m.host m.writer

  abbrev BytesOr : Reply → Reply → Type 0
  BytesOr told_ reply = (reply ≡ told_) ⊎ IsPlain reply

  abbrev Sized : Reply → Type 0
  Sized reply = BytesOr (Looked (answer.Number (length bytes))) reply

  housed : number ≢ state.marks → has_folder room (index_path m.host m.writer).folder ≡ true
  housed apart =
      let c : IsContainer (IsDrawnBy (last_id state) s.shape.tree) room = container_at (last_id state) state.marks state.mount number s.shape.tree room (shape_of state s.shape) apart there in
      (c.files (index_path m.host m.writer) bytes here).housed

  sized_by : number ≢ state.marks → (reply : Reply) (found_ : Answer) → LengthTells s.shape.tree number (index_path m.host m.writer) found_ → reply ≡ length_reply (index_path m.host m.writer) (Ok found_) → Sized reply
  sized_by apart reply (answer.Number size) says is =
      let same : says.0.room ≡ room = some_room says.0.room room (slice_get s.shape.tree.rooms number) says.0.has_room there in
      let one : says.0.bytes ≡ bytes = one_file says.0.bytes bytes (file_at room (index_path m.host m.writer)) (subst (λ r. file_at r (index_path m.host m.writer) ≡ Some says.0.bytes) same says.0.there) here in
      inl (is ∙ ap (λ n. Looked (answer.Number n)) (sym says.1 ∙ ap length one))
  sized_by apart reply answer.Absent says is =
      let same : says.room ≡ room = some_room says.room room (slice_get s.shape.tree.rooms number) says.has_room there in
      let none : file_at room (index_path m.host m.writer) ≡ None = subst (λ r. file_at r (index_path m.host m.writer) ≡ None) same says.none in
      absurd (let clash : Some bytes ≡ None = sym here ∙ none in cc)
  sized_by apart reply answer.NoFolder says is =
      let same : says.room ≡ room = some_room says.room room (slice_get s.shape.tree.rooms number) says.has_room there in
      absurd (both_ways (housed apart) (subst (λ r. has_folder r (index_path m.host m.writer).folder ≡ false) same says.none))
  sized_by apart reply answer.NoRoom says is = inr (subst IsPlain (sym is) tt)
  sized_by apart reply found_ says is = absurd says

  sized_told : number ≢ state.marks → (reply : Reply) (after : State) (told : Told) → Acts (look_step number (Length (index_path m.host m.writer))) state.store after.store told → reply ≡ length_reply (index_path m.host m.writer) told → Sized reply
  sized_told apart reply after (Ok found_) made is =
      let t = acts_told (look_step number (Length its_path)) state.store after.store s.shape.tree (Ok found_) s.shape.told made in
      sized_by apart reply found_ (look_answered (look_step number (Length its_path)) s.shape.tree (LengthTells s.shape.tree number its_path) (length_tells s.shape.tree number its_path) found_ t.0 t.2).1 is
  sized_told apart reply after (Err trouble_.Fault) made is = inr (subst IsPlain (sym is) tt)
  sized_told apart reply after (Err trouble_.NoMemory) made is = inr (subst IsPlain (sym is) tt)

  -- its length is told
  pub sized_ends : (caller : ℕ) (reply : Reply) (after : State) → IsStep state caller (unbroken (Look number (Length (index_path m.host m.writer)))) reply after → Sized reply
  sized_ends caller reply after step =
      elim (match_cases (room_check state number) (MakesAct (look_step number (Length its_path)) (look_outcome (Length its_path) state) state reply after) (λ why. Refuses why state reply after) step.does) as (λ _. Sized reply) [
        | inl (none, a) ↦ sized_told (is_container state number none) reply after a.told a.made a.answered
        | inr (why, some, refused) ↦ inr (subst IsPlain (sym refused.0) tt)
      ]

  -- it is in no room of marks
  apart_of : number ≢ state.marks
  apart_of same =
      let one : room ≡ s.shape.marks = some_room room s.shape.marks (slice_get s.shape.tree.rooms number) there (ap (λ n. slice_get s.shape.tree.rooms n) same ∙ s.shape.has_marks) in
      let mark = s.shape.is_marks.files its_path bytes (subst (λ r. file_at r its_path ≡ Some bytes) one here) in
      elsewhere (ap (λ (p : Path). get_or p.folder 0 0) mark.3) refl

  -- its bytes are told
  pub read_so : (caller at len : ℕ) (reply : Reply) (after : State) → IsStep state caller (unbroken (Look number (Read (index_path m.host m.writer) at len))) reply after → BytesOr (Looked (answer.Bytes (take len (drop at bytes)))) reply
  read_so caller at len reply after step =
      let now : Moment = record { state = state; issued = issued } in
      let then_ : file_then now number its_path ≡ Some bytes = ap (λ o. file_told o number its_path) s.shape.told ∙ ap (λ o. file_in_room o its_path) there ∙ here in
      elim (read_ends now s caller number its_path at len bytes reply after apart_of then_ (answered state caller (Look number (Read its_path at len)) (unbroken (Look number (Read its_path at len))) reply after refl step))
      as (λ _. BytesOr (Looked (answer.Bytes (take len (drop at bytes)))) reply) [
        | inl is ↦ inl is
        | inr (inl (is, rose)) ↦ inr (subst IsPlain (sym is) tt)
        | inr (inr (is, same)) ↦ inr (subst IsPlain (sym is) tt)
      ]
