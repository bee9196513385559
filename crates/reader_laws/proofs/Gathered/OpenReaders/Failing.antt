-- A read of a file that is there fails only where the store did.
use Rattle.std.proofs.Common.{◌≡◌, ℕ, ◌≤◌, ◌+◌, nat_le, nat_eq, List, [], ◌∷◌, length, length-append, get_or, take, drop, true, false, Option, Some, None, refl, ap, sym, ◌∙◌, inl, inr, subst, arith}
use Rattle.std.specs.Prelude.{◌≢◌, slice_get, Ok, Err, if◌then◌else◌}
use Rattle.std.proofs.lemmas.Bool.Decides.{nat_tests}
use Rattle.std.proofs.lemmas.List.{length-take}
use Rattle.plfs_types.specs.declared.entries.Trunc.{Trunc}
use Rattle.plfs_types.specs.declared.names.Path.{Path}
use Rattle.container_layout.proofs.Facts.{elsewhere}
use Rattle.store_api.specs.declared.step.Answer.{Answer}
use Rattle.store_api.specs.declared.step.Answer.TheVariants.{Bytes}
use Rattle.store_api.specs.declared.store.Trouble.TheVariants.{Fault, NoMemory}
use Rattle.store_api.specs.Acts.{Acts}
use Rattle.store_api.specs.Effect.{Effect}
use Rattle.store_laws.specs.Files.{file_at}
use Rattle.store_laws.specs.Prefix.{IsPrefix}
use Rattle.store_laws.specs.There.{HoldsFile}
use Rattle.store_laws.specs.Tells.{Tells}
use Rattle.store_laws.proofs.Facts.{read_there, acts_told}
use Rattle.mount_model.specs.declared.call.Call.TheVariants.{Look}
use Rattle.mount_model.specs.declared.call.Look.TheVariants.{Read}
use Rattle.mount_model.specs.declared.reply.Reply.{Reply}
use Rattle.mount_model.specs.declared.reply.Reply.TheVariants.{Looked, Damaged}
use Rattle.mount_model.specs.declared.reply.Refusal.{Refusal}
use Rattle.mount_model.specs.Paths.{index_path, log_path}
use Rattle.mount_model.specs.State.{State, last_id}
use Rattle.mount_model.specs.Making.{Told, MakesAct, Refuses, room_check}
use Rattle.mount_model.specs.Looking.{look_step, look_outcome, read_reply}
use Rattle.mount_model.specs.Step.{Answers}
use Rattle.mount_sound.proofs.Shapes.Facts.{shape_of, container_at}
use Rattle.mount_sound.specs.Ledger.{content}
use Rattle.mount_sound.specs.Dropping.{bytes_of}
use Rattle.mount_model.proofs.Facts.{match_cases}
use Rattle.reader_laws.specs.GatheringFailing.{BytesOrTrouble}
use Rattle.reader_laws.specs.Gathering.{Gathered}
use Rattle.plfs_types.specs.Places.{IsAmong}
use Rattle.reader_laws.specs.Moments.{Moment, IsSoundAt, file_in_room, file_told, file_then, Dropping, Stood, issued_by, log_then, Grows}
use Rattle.reader_laws.specs.GatheringOpening.{HasView}
use Rattle.reader_laws.proofs.Gathered.Moments.Growing.{in_a_room, stood_grows}
use Rattle.reader_laws.proofs.Gathered.Logs.Fronts.{in_tree, stands, content-append, log_slice}
use Rattle.reader_laws.proofs.Gathered.Containers.Members.{among}
use Rattle.reader_laws.proofs.Gathered.OpenReaders.Answering.{prefix_of}

-- a file of a container is held, with its folder
held : (m : Moment) (s : IsSoundAt m) (room : ℕ) (path : Path) (bytes : List ℕ) → room ≢ m.state.marks → file_then m room path ≡ Some bytes → (h : HoldsFile s.shape.tree room path) × (h.bytes ≡ bytes)
held m s room path bytes other there =
    let r = in_a_room (slice_get s.shape.tree.rooms room) path bytes (in_tree m s room path bytes there) in
    let c = container_at (last_id m.state) m.state.marks m.state.mount room s.shape.tree r.0 (shape_of m.state s.shape) other r.1 in
    (record { room = r.0; bytes = bytes; has_room = r.1; folder = (c.files path bytes r.2).housed; there = r.2 }, refl)

not_marks : (room marks : ℕ) → room ≢ marks → nat_eq room marks ≡ false
not_marks room marks other = grind (arith, nat_tests)

unchecked : (old : State) (room : ℕ) (why : Refusal) → room ≢ old.marks → room_check old room ≡ Some why → ⊥
unchecked old room why other e = let none : nat_eq room old.marks ≡ false = not_marks room old.marks other in let f : None ≡ Some why = rw none at e in cc

no_more : (n len : ℕ) → n ≤ len → nat_le n len ≡ true
no_more n len l = grind (arith, nat_tests)

-- the reply to what the store told
ends : (path : Path) (at len : ℕ) (room : ℕ) (bytes : List ℕ) (old new : State) (told : Told) → ((answer : Answer) → told ≡ Ok answer → answer ≡ Bytes bytes) → length bytes ≤ len → Acts (look_step room (Read path at len)) old.store new.store told → new ≡ record old { store = new.store }
    → BytesOrTrouble bytes old (read_reply path len told) new
ends path at len room bytes old new (Ok answer) is short made after =
    let e : read_reply path len (Ok answer) ≡ (if nat_le (length bytes) len then Looked (Bytes bytes) else Damaged path.folder path.file) = ap (λ a. read_reply path len (Ok a)) (is answer refl) in
    inl (e ∙ rw (no_more (length bytes) len short) refl)
ends path at len room bytes old new (Err Fault) is short made after = inr (inl (refl, made.cause))
ends path at len room bytes old new (Err NoMemory) is short made after = inr (inr (refl, after ∙ ap (λ st. record old { store = st }) made))

no_longer : (len at : ℕ) (bytes : List ℕ) → length (take len (drop at bytes)) ≤ len
no_longer len at bytes = omega (arith, length-take len (drop at bytes))

-- A read of a file of a container gives its bytes, or the store's count of faults rose, or memory was wanting.
pub read_ends : (m : Moment) (s : IsSoundAt m) (caller room : ℕ) (path : Path) (at len : ℕ) (bytes : List ℕ) (reply : Reply) (new : State) → room ≢ m.state.marks → file_then m room path ≡ Some bytes → Answers m.state caller (Look room (Read path at len)) reply new
    → BytesOrTrouble (take len (drop at bytes)) m.state reply new
read_ends m s caller room path at len bytes reply new other there f =
    elim (match_cases (room_check m.state room) (MakesAct (look_step room (Read path at len)) (look_outcome (Read path at len) m.state) m.state reply new) (λ why. Refuses why m.state reply new) f) as (λ _. BytesOrTrouble (take len (drop at bytes)) m.state reply new) [
      | inl (none, l) ↦
          let h = held m s room path bytes other there in
          let t = acts_told (look_step room (Read path at len)) m.state.store new.store s.shape.tree l.told s.shape.told l.made in
          let tells : (answer : Answer) → l.told ≡ Ok answer → answer ≡ Bytes (take len (drop at bytes)) =
          λ answer e.
          let made : Tells (look_step room (Read path at len)) s.shape.tree (Ok answer) t.0 = subst (λ o. Tells (look_step room (Read path at len)) s.shape.tree o t.0) e t.2 in
          sym (ap (λ (x : Effect). x.answer) made) ∙ read_there s.shape.tree room path at len h.0 ∙ ap (λ b. Bytes (take len (drop at b))) h.1 in
          subst (λ r. BytesOrTrouble (take len (drop at bytes)) m.state r new) (sym l.answered)
          (ends path at len room (take len (drop at bytes)) m.state new l.told tells (no_longer len at bytes) l.made l.after)
      | inr (why, some, refused) ↦ absurd (unchecked m.state room why other some)
    ]

-- ---------- reads of logs

-- a room with an index dropping is that of no marks
container_room : (m : Moment) (s : IsSoundAt m) (d : Dropping) → Stood m d → d.room ≢ m.state.marks
container_room m s d stood same =
    let f = in_a_room (slice_get s.shape.tree.rooms d.room) (index_path d.host d.writer) stood.bytes (in_tree m s d.room (index_path d.host d.writer) stood.bytes stood.there) in
    let both : Some f.0 ≡ Some s.shape.marks = sym f.1 ∙ ap (λ n. slice_get s.shape.tree.rooms n) same ∙ s.shape.has_marks in
    let one : f.0 ≡ s.shape.marks = cc in
    let mark = s.shape.is_marks.files (index_path d.host d.writer) stood.bytes (subst (λ r. file_at r (index_path d.host d.writer) ≡ Some stood.bytes) one f.2) in
    elsewhere (ap (λ (p : Path). get_or p.folder 0 0) mark.3) refl

some_log : (front : List ℕ) (log : Option (List ℕ)) → IsPrefix front (bytes_of log) → 1 ≤ length front → (bytes : List ℕ) × (log ≡ Some bytes)
some_log front (Some bytes) prefix long = (bytes, refl)
some_log [] None prefix long = absurd (omega arith)
some_log (x ∷ front) None prefix long = absurd prefix

-- the log of a writer that has issued bytes is there
log_there : (m : Moment) (s : IsSoundAt m) (d : Dropping) → Stood m d → 1 ≤ length (content (issued_by m d)) → (log : List ℕ) × (log_then m d ≡ Some log)
log_there m s d stood long =
    let w = stands m s d stood.bytes stood.is_item stood.there in
    let l = some_log (content (issued_by m d)) (file_at w.room (log_path w.writer.host d.writer)) w.writer.log long in
    (l.0, ap (λ o. file_told o d.room (log_path d.host d.writer)) s.shape.told ∙ ap (λ o. file_in_room o (log_path d.host d.writer)) w.there ∙ ap (λ h. file_at w.room (log_path h d.writer)) w.host ∙ l.1)

-- Whenever an open reader reads bytes of its cut from a log, it gets them, or the store's count of faults rose, or
-- memory was wanting.
pub log_ends : (start end m : Moment) (room : ℕ) (cut : List Gathered) (truncs : List Trunc) (g : Gathered) (caller at len : ℕ) (reply : Reply) (new : State) → HasView start end room cut truncs → IsAmong g cut → Grows end m → IsSoundAt m
    → 1 ≤ len → at + len ≤ length (content (issued_by end g.dropping)) → Answers m.state caller (Look g.dropping.room (Read (log_path g.dropping.host g.dropping.writer) at len)) reply new
    → BytesOrTrouble (take len (drop at (content (issued_by end g.dropping)))) m.state reply new
log_ends start end m room cut truncs g caller at len reply new view its goes s some within f =
    let d : Dropping = g.dropping in
    let stood : Stood m d = stood_grows end m d goes (prefix_of start end cut g view.admissible (among cut g its)).stands in
    let more = goes.issued d.room d.writer in
    let longer : length (content (issued_by m d)) ≡ length (content (issued_by end d)) + length (content more.0) = ap (λ w. length (content w)) more.1 ∙ ap length (content-append (issued_by end d) more.0) ∙ length-append (content (issued_by end d)) (content more.0) in
    let l = log_there m s d stood (omega (arith, within, some, longer)) in
    let bytes : take len (drop at l.0) ≡ take len (drop at (content (issued_by end d))) = log_slice end m s d stood.bytes l.0 at len stood.is_item goes stood.there l.1 within in
    subst (λ b. BytesOrTrouble b m.state reply new) bytes (read_ends m s caller d.room (log_path d.host d.writer) at len l.0 reply new (container_room m s d stood) l.1 f)
