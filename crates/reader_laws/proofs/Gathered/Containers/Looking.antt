-- What the reply to a look says of the moment at which it was made.
use Rattle.std.proofs.Common.{◌≡◌, ℕ, List, [], length, take, drop, Some, None, refl, ap, sym, ◌∙◌, subst, true, false, inl, inr}
use Rattle.std.specs.Prelude.{Ok, Err, nat_le, if◌then◌else◌}
use Rattle.plfs_types.specs.declared.names.Path.{Path}
use Rattle.store_api.specs.declared.step.Answer.{Answer}
use Rattle.store_api.specs.declared.step.Answer.TheVariants.{Names, Number, Bytes, Absent, NoFolder}
use Rattle.store_api.specs.declared.store.Trouble.TheVariants.{Fault, NoMemory}
use Rattle.store_api.specs.Effect.{effect}
use Rattle.store_laws.specs.There.{HoldsFile, LacksFile, ListsFolder}
use Rattle.store_laws.specs.Outcomes.{Looks}
use Rattle.store_laws.specs.Says.{ListTells, LengthTells, ReadTells}
use Rattle.store_laws.specs.Tells.{Tells}
use Rattle.store_laws.proofs.Facts.{acts_told, list_tells, length_tells, read_tells, look_answered}
use Rattle.mount_model.specs.declared.call.Call.TheVariants.{Look}
use Rattle.mount_model.specs.declared.call.Look.{Look as Sight}
use Rattle.mount_model.specs.declared.call.Look.TheVariants.{Top, List as ListFolder, Length, Read}
use Rattle.mount_model.specs.declared.reply.Reply.TheVariants.{Looked, Refused, Damaged}
use Rattle.mount_model.specs.Paths.{Name}
use Rattle.mount_model.specs.State.{State}
use Rattle.mount_model.specs.Making.{Told, MakesAct, Refuses, room_check}
use Rattle.mount_model.specs.Looking.{look_step, look_outcome, listing_reply, length_reply, read_reply}
use Rattle.mount_model.specs.Step.{Answers}
use Rattle.mount_model.proofs.Facts.{match_cases}
use Rattle.reader_laws.specs.Moments.{Moment, IsSoundAt, file_in_room, file_told, file_then}

-- ---------- what the store told

-- the act of a look that was answered
abbrev Made : ℕ → Sight → State → Answer → State → Type 0
Made room look old answer new = MakesAct (look_step room look) (look_outcome look old) old (Looked answer) new

made : (old : State) (caller room : ℕ) (look : Sight) (answer : Answer) (new : State) → Answers old caller (Look room look) (Looked answer) new → Made room look old answer new
made old caller room look answer new f = elim (match_cases (room_check old room) (Made room look old answer new) (λ why. Refuses why old (Looked answer) new) f) as (λ _. Made room look old answer new) [
  | inl (none, m) ↦ m
  | inr (why, some, r) ↦ absurd (let e : Looked answer ≡ Refused why = r.0 in cc)
]

names_told : (folder : Name) (told : Told) (names : List Name) → Looked (Names names) ≡ listing_reply folder told → told ≡ Ok (Names names)
names_told folder (Ok (Names listed)) names e = let same : listed ≡ names = cc in ap (λ n. Ok (Names n)) same
names_told folder (Ok answer) names e = absurd (cc)
names_told folder (Err Fault) names e = absurd (cc)
names_told folder (Err NoMemory) names e = absurd (cc)

number_told : (path : Path) (told : Told) (value : ℕ) → Looked (Number value) ≡ length_reply path told → told ≡ Ok (Number value)
number_told path (Ok (Number n)) value e = let same : n ≡ value = cc in ap (λ k. Ok (Number k)) same
number_told path (Ok answer) value e = absurd (cc)
number_told path (Err Fault) value e = absurd (cc)
number_told path (Err NoMemory) value e = absurd (cc)

absent_told : (path : Path) (told : Told) → Looked Absent ≡ length_reply path told → told ≡ Ok Absent
absent_told path (Ok Absent) e = refl
absent_told path (Ok NoFolder) e = absurd (cc)
absent_told path (Ok (Number n)) e = absurd (cc)
absent_told path (Ok answer) e = absurd (cc)
absent_told path (Err Fault) e = absurd (cc)
absent_told path (Err NoMemory) e = absurd (cc)

abbrev told_bytes : List ℕ → Told
told_bytes bytes = Ok (Bytes bytes)

bytes_told : (path : Path) (len : ℕ) (told : Told) (bytes : List ℕ) → Looked (Bytes bytes) ≡ read_reply path len told → told ≡ Ok (Bytes bytes)
bytes_told path len (Ok (Bytes read)) bytes e = elim (nat_le (length read) len) as (λ b. Looked (Bytes bytes) ≡ (if b then Looked (Bytes read) else Damaged path.folder path.file) → told_bytes read ≡ told_bytes bytes) [
  | true ↦ λ f. let same : read ≡ bytes = cc in ap told_bytes same
  | false ↦ λ f. absurd (cc)
] e
bytes_told path len (Ok answer) bytes e = absurd (cc)
bytes_told path len (Err Fault) bytes e = absurd (cc)
bytes_told path len (Err NoMemory) bytes e = absurd (cc)

-- what an answer to a look says of the tree of its moment
says_of : (m : Moment) (s : IsSoundAt m) (room : ℕ) (look : Sight) (answer : Answer) (new : State) (says : Answer → Type 0) (l : Made room look m.state answer new) → l.told ≡ Ok answer → Looks s.shape.tree says (effect s.shape.tree (look_step room look)) → says answer
says_of m s room look answer new says l is looks =
    let t = acts_told (look_step room look) m.state.store new.store s.shape.tree l.told s.shape.told l.made in
    (look_answered (look_step room look) s.shape.tree says looks answer t.0 (subst (λ o. Tells (look_step room look) s.shape.tree o t.0) is t.2)).1

-- ---------- listings

-- A listing of the top names what stands there.
pub top_listed : (m : Moment) (s : IsSoundAt m) (caller room : ℕ) (names : List Name) (new : State) → Answers m.state caller (Look room Top) (Looked (Names names)) new → ListsFolder s.shape.tree room [] names
top_listed m s caller room names new f =
    let l = made m.state caller room Top (Names names) new f in
    says_of m s room Top (Names names) new (ListTells s.shape.tree room []) l (names_told [] l.told names l.answered) (list_tells s.shape.tree room [])

-- A listing of a folder names what stands in it.
pub folder_listed : (m : Moment) (s : IsSoundAt m) (caller room : ℕ) (folder : Name) (names : List Name) (new : State) → Answers m.state caller (Look room (ListFolder folder)) (Looked (Names names)) new → ListsFolder s.shape.tree room folder names
folder_listed m s caller room folder names new f =
    let l = made m.state caller room (ListFolder folder) (Names names) new f in
    says_of m s room (ListFolder folder) (Names names) new (ListTells s.shape.tree room folder) l (names_told folder l.told names l.answered) (list_tells s.shape.tree room folder)

-- ---------- files

-- a file that the tree holds was there at its moment
pub held_then : (m : Moment) (s : IsSoundAt m) (room : ℕ) (path : Path) (held : HoldsFile s.shape.tree room path) → file_then m room path ≡ Some held.bytes
held_then m s room path held = ap (λ o. file_told o room path) s.shape.told ∙ ap (λ o. file_in_room o path) held.has_room ∙ held.there

-- A Length tells the file's length.
pub length_told : (m : Moment) (s : IsSoundAt m) (caller room : ℕ) (path : Path) (told : ℕ) (new : State) → Answers m.state caller (Look room (Length path)) (Looked (Number told)) new
    → (bytes : List ℕ) × (file_then m room path ≡ Some bytes) × (length bytes ≡ told)
length_told m s caller room path told new f =
    let l = made m.state caller room (Length path) (Number told) new f in
    let says = says_of m s room (Length path) (Number told) new (LengthTells s.shape.tree room path) l (number_told path l.told told l.answered) (length_tells s.shape.tree room path) in
    (says.0.bytes, held_then m s room path says.0, says.1)

-- where a Length finds no file, there is none
pub absence_told : (m : Moment) (s : IsSoundAt m) (caller room : ℕ) (path : Path) (new : State) → Answers m.state caller (Look room (Length path)) (Looked Absent) new → file_then m room path ≡ None
absence_told m s caller room path new f =
    let l = made m.state caller room (Length path) Absent new f in
    let lacks : LacksFile s.shape.tree room path = says_of m s room (Length path) Absent new (LengthTells s.shape.tree room path) l (absent_told path l.told l.answered) (length_tells s.shape.tree room path) in
    ap (λ o. file_told o room path) s.shape.told ∙ ap (λ o. file_in_room o path) lacks.has_room ∙ lacks.none

-- A Read tells the file's bytes.
pub read_told : (m : Moment) (s : IsSoundAt m) (caller room : ℕ) (path : Path) (at len : ℕ) (told : List ℕ) (new : State) → Answers m.state caller (Look room (Read path at len)) (Looked (Bytes told)) new
    → (bytes : List ℕ) × (file_then m room path ≡ Some bytes) × (take len (drop at bytes) ≡ told)
read_told m s caller room path at len told new f =
    let l = made m.state caller room (Read path at len) (Bytes told) new f in
    let says = says_of m s room (Read path at len) (Bytes told) new (ReadTells s.shape.tree room path at len) l (bytes_told path len l.told told l.answered) (read_tells s.shape.tree room path at len) in
    (says.0.bytes, held_then m s room path says.0, sym says.1)
