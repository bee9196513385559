-- Where a look tells that an index dropping has no bytes, or isn't there, none of its entries have landed.
use Rattle.std.proofs.Common.{◌≡◌, ℕ, inl, inr, true, false, List, [], ◌∷◌, length, Option, Some, None, Ok, Err, refl, sym, ap, ◌∙◌, subst, arith}
use Rattle.plfs_types.specs.declared.names.Path.{Path}
use Rattle.container_layout.specs.declared.items.Item.TheVariants.{Index}
use Rattle.plain_file.proofs.Facts.{cases_Option}
use Rattle.store_api.specs.declared.step.Answer.TheVariants.{Absent, NoFolder, Number}
use Rattle.store_api.specs.declared.store.Trouble.TheVariants as trouble_of
use Rattle.store_api.specs.Room.{has_folder}
use Rattle.store_laws.specs.Files.{file_at}
use Rattle.store_laws.specs.Says.{LengthTells}
use Rattle.store_laws.specs.Tells.{Tells}
use Rattle.store_laws.specs.There.{LacksFolder}
use Rattle.store_laws.proofs.Facts.{acts_told, length_tells, look_answered}
use Rattle.mount_model.specs.declared.call.Call.TheVariants.{Look}
use Rattle.mount_model.specs.declared.call.Look.TheVariants.{Length}
use Rattle.mount_model.specs.declared.reply.Reply.{Reply}
use Rattle.mount_model.specs.declared.reply.Reply.TheVariants.{Looked, Refused}
use Rattle.mount_model.specs.Looking.{length_reply, look_outcome, look_step}
use Rattle.mount_model.specs.Making.{MakesAct, Refuses, Told, room_check}
use Rattle.mount_model.specs.Paths.{index_path}
use Rattle.mount_model.specs.State.{State, last_id}
use Rattle.mount_model.specs.Step.{Answers}
use Rattle.mount_model.proofs.Facts.{is_container, match_cases}
use Rattle.mount_sound.specs.Shape.{IsDrawnBy}
use Rattle.mount_sound.proofs.Shapes.Facts.{container_at, item_held, shape_of}
use Rattle.mount_sound.specs.Dropping.{bytes_of}
use Rattle.mount_sound.specs.There.{entries_there}
use Rattle.mount_model.specs.FlowReplies.{length_in}
use Rattle.reader_laws.specs.Moments.{Dropping, IsNamed, IsSoundAt, Moment, file_in_room, file_told, index_then, landed, log_then}
use Rattle.reader_laws.proofs.Gathered.Containers.Looking.{absence_told, length_told}

module _ (n room host writer : ℕ) where
  abbrev d : Dropping
  d = record { room = room; host = host; writer = writer }

  no_bytes : (bytes : List ℕ) → length bytes ≡ 0 → bytes ≡ []
  no_bytes [] is = refl
  no_bytes (b ∷ bytes) is = absurd (omega (arith, is))

  none_landed : (x : Moment) (file : Option (List ℕ)) → index_then x d ≡ file → bytes_of file ≡ [] → landed x d ≡ 0
  none_landed x file is empty = ap (λ b. length (entries_there b (bytes_of (log_then x d)))) (ap bytes_of is ∙ empty)

  some_told : (value told : ℕ) → Some value ≡ Some told → told ≡ 0 → value ≡ 0
  some_told value told is zero_is = (let same : value ≡ told = cc in same ∙ zero_is)

  abbrev Made : State → State → Type 0
  Made old after = MakesAct (look_step room (Length (index_path host writer))) (look_outcome (Length (index_path host writer)) old) old (Looked NoFolder) after

  looked_at : (old after : State) → Answers old n (Look room (Length (index_path host writer))) (Looked NoFolder) after → (room ≡ old.marks → ⊥) × Made old after
  looked_at old after a = elim (match_cases (room_check old room) (Made old after) (λ why. Refuses why old (Looked NoFolder) after) a) as (λ _. (room ≡ old.marks → ⊥) × Made old after) [
    | inl (none, made) ↦ (is_container old room none, made)
    | inr (why, some, refused) ↦ absurd (let e : Looked NoFolder ≡ Refused why = refused.0 in cc)
  ]

  folder_told : (path : Path) (told : Told) → Looked NoFolder ≡ length_reply path told → told ≡ Ok NoFolder
  folder_told path (Ok NoFolder) e = refl
  folder_told path (Ok answer) e = absurd (cc)
  folder_told path (Err trouble_of.Fault) e = absurd (cc)
  folder_told path (Err trouble_of.NoMemory) e = absurd (cc)

  says_of : (x : Moment) (s : IsSoundAt x) (after : State) → Made x.state after → LacksFolder s.shape.tree room (index_path host writer).folder
  says_of x s after l =
      let path : Path = index_path host writer in
      let t = acts_told (look_step room (Length path)) x.state.store after.store s.shape.tree l.told s.shape.told l.made in
      (look_answered (look_step room (Length path)) s.shape.tree (LengthTells s.shape.tree room path) (length_tells s.shape.tree room path) NoFolder t.0 (subst (λ o. Tells (look_step room (Length path)) s.shape.tree o t.0) (folder_told path l.told l.answered) t.2)).1

  -- where its folder is not there, neither is it
  no_folder : (x : Moment) (s : IsSoundAt x) (after : State) → IsNamed d → Answers x.state n (Look room (Length (index_path host writer))) (Looked NoFolder) after → index_then x d ≡ None
  no_folder x s after is a =
      let path : Path = index_path host writer in
      let l = looked_at x.state after a in
      let lacks : LacksFolder s.shape.tree room path.folder = says_of x s after l.1 in
      elim (cases_Option (file_at lacks.room path)) as (λ _. index_then x d ≡ None) [
        | inl none ↦ ap (λ o. file_told o room path) s.shape.told ∙ ap (λ o. file_in_room o path) lacks.has_room ∙ none
        | inr some ↦ absurd (let c = container_at (last_id x.state) x.state.marks x.state.mount room s.shape.tree lacks.room (shape_of x.state s.shape) l.0 lacks.has_room in
            let housed : has_folder lacks.room path.folder ≡ true = (item_held (IsDrawnBy (last_id x.state) s.shape.tree) lacks.room (Index host writer) some.0 c is some.1).housed in
            let clash : true ≡ false = sym housed ∙ lacks.none in cc)
      ]

  pub empty_there : (x : Moment) (s : IsSoundAt x) (after : State) (reply : Reply) (told : ℕ) → Answers x.state n (Look room (Length (index_path host writer))) reply after → length_in reply ≡ Some told → told ≡ 0 → IsNamed d → landed x d ≡ 0
  empty_there x s after (Looked (Number value)) told a is zero_is named =
      let t = length_told x s n room (index_path host writer) value after a in
      none_landed x (Some t.0) t.1 (no_bytes t.0 (t.2 ∙ some_told value told is zero_is))
  empty_there x s after (Looked Absent) told a is zero_is named = none_landed x None (absence_told x s n room (index_path host writer) after a) refl
  empty_there x s after (Looked NoFolder) told a is zero_is named = none_landed x None (no_folder x s after named a) refl
  empty_there x s after reply told a is zero_is named = absurd (cc)
