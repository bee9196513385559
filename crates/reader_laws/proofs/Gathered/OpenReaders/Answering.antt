-- What a reader answers is the plain file of its cut.
use Rattle.std.proofs.Common.{refl, ◌≡◌, ℕ, ◌+◌, ◌≤◌, List, [], ◌∷◌, ◌++◌, length, take, drop, replicate, ap, sym, ◌∙◌, inl, inr, subst, arith}
use Rattle.std.specs.List.{AllByRecursion, All}
use Rattle.plfs_types.specs.declared.entries.Trunc.{Trunc}
use Rattle.plain_file.specs.declared.pieces.Piece.{Piece}
use Rattle.plain_file.specs.File.{slice, HasItsBytes, plain_size}
use Rattle.plain_file.specs.Shows.{truncs_of}
use Rattle.plain_file.specs.Runs.{ArePieces, ArePiecesOf}
use Rattle.plain_file.specs.Size.{size_from}
use Rattle.plain_file.specs.Logs.{IsLogged}
use Rattle.plain_file.proofs.Facts.{Among, size-from_pieces}
use Rattle.read_plan.specs.declared.part.Part.{Part}
use Rattle.read_plan.specs.declared.part.Part.TheVariants.{Hole, From}
use Rattle.read_plan.specs.Parts.{spelled}
use Rattle.read_plan.specs.Plan.{plan_of}
use Rattle.read_plan.proofs.Facts.{spelled-plan}
use Rattle.mount_model.specs.Paths.{log_path}
use Rattle.mount_sound.specs.Ledger.{entries_in, content}
use Rattle.reader_laws.specs.Moments.{Moment, IsSoundAt, Dropping, Stood, issued_by, Grows}
use Rattle.reader_laws.specs.Seen.{Asked, IsSeenCall, IsSeen}
use Rattle.reader_laws.specs.Gathering.{Gathered, IsPrefixOf, IsAdmissible}
use Rattle.reader_laws.specs.View.{writes_in, changes_in, view, WritersRise, logs_of, IsLogRead, IsAnswer}
use Rattle.reader_laws.specs.Parts.{IsOfLog, IsPartOf}
use Rattle.reader_laws.proofs.Gathered.Moments.Growing.{grows_trans, stood_grows}
use Rattle.reader_laws.proofs.Gathered.Containers.Looking.{read_told}
use Rattle.reader_laws.proofs.Gathered.Logs.Fronts.{log_slice}
use Rattle.reader_laws.proofs.Gathered.Containers.Replied.{answers_as}
use Rattle.reader_laws.proofs.Gathered.OpenReaders.Viewing.{entries_of-changes, truncs_of-changes, bytes_all, logged_all, keys_differ}
use Rattle.reader_laws.proofs.Gathered.OpenReaders.Parts.{plan_within}
use Rattle.reader_laws.proofs.Gathered.Containers.Members.{any_found, among}

room_of : (room : ℕ) (cut : List Gathered) (g : Gathered) → WritersRise room cut → Among g cut → g.dropping.room ≡ room
room_of room [] g rise a = absurd a
room_of room (h ∷ cut) g rise (inl same) = ap (λ (x : Gathered). x.dropping.room) same ∙ rise.0
room_of room (h ∷ cut) g rise (inr more) = room_of room cut g rise.2 more

pub prefix_of : (start end : Moment) (cut : List Gathered) (g : Gathered) → IsAdmissible start end cut → Among g cut → IsPrefixOf start end g
prefix_of start end [] g a i = absurd i
prefix_of start end (h ∷ cut) g a (inl same) = subst (IsPrefixOf start end) (sym same) a.0
prefix_of start end (h ∷ cut) g a (inr more) = prefix_of start end cut g a.1 more

-- Whenever a log is read later, its bytes are those that its writer had issued when the cut was made.
log_read : (caller : ℕ) (start end from next : Moment) (room : ℕ) (cut : List Gathered) (writer at len : ℕ) (bytes : List ℕ) (asked : Asked) → IsAdmissible start end cut → WritersRise room cut → Grows end from → IsSeenCall caller from asked next
    → IsLogRead cut writer at len bytes asked → at + len ≤ length (logs_of end room writer) → bytes ≡ slice (logs_of end room writer) at len
log_read caller start end from next room cut writer at len bytes asked admissible rise grows call read within =
    let g : Gathered = read.of in
    let d : Dropping = g.dropping in
    let its : Among g cut = among cut g read.gathered in
    let its_room : d.room ≡ room = room_of room cut g rise its in
    let log_is : content (issued_by end d) ≡ logs_of end room writer = ap (λ r. content (end.issued r d.writer)) its_room ∙ ap (λ w. content (end.issued room w)) read.log_of in
    let t = read_told call.before call.sound caller d.room (log_path d.host d.writer) at len bytes next.state (answers_as call.before.state caller asked.ask _ asked.reply _ next.state read.call read.reply refl call.answers) in
    let goes : Grows end call.before = grows_trans end from call.before grows call.waits in
    let there : Stood call.before d = stood_grows end call.before d goes (prefix_of start end cut g admissible its).stands in
    sym t.2 ∙ log_slice end call.before call.sound d there.bytes t.0 at len there.is_item goes there.there t.1 (omega (arith, within, ap length log_is)) ∙ ap (λ l. take len (drop at l)) log_is

-- a part lies in what the log of its writer is to have
in_log : (end : Moment) (room : ℕ) (cut : List Gathered) (writer at len : ℕ) → WritersRise room cut → IsPartOf end cut (From writer at len) → at + len ≤ length (logs_of end room writer)
in_log end room cut writer at len rise part =
    let found = any_found (IsOfLog end writer at len) cut part in
    let d : Dropping = found.0.dropping in
    let log_is : content (issued_by end d) ≡ logs_of end room writer = ap (λ r. content (end.issued r d.writer)) (room_of room cut found.0 rise found.1) ∙ ap (λ w. content (end.issued room w)) found.2.log_of in
    omega (arith, found.2.within, ap length log_is)

answer_spelled : (caller : ℕ) (start end from later : Moment) (room : ℕ) (cut : List Gathered) (parts : List Part) (asked : List Asked) (answer : List ℕ) → IsAdmissible start end cut → WritersRise room cut → Grows end from → IsSeen caller from asked later
    → AllByRecursion (IsPartOf end cut) parts → IsAnswer cut parts asked answer → answer ≡ spelled (logs_of end room) parts
answer_spelled caller start end from later room cut [] [] answer admissible rise grows seen within is = is
answer_spelled caller start end from later room cut [] (a ∷ asked) answer admissible rise grows seen within is = absurd is
answer_spelled caller start end from later room cut (Hole len ∷ parts) asked answer admissible rise grows seen within (more, rest, split) =
    split ∙ ap (λ b. replicate len 0 ++ b) (answer_spelled caller start end from later room cut parts asked more admissible rise grows seen within.1 rest)
answer_spelled caller start end from later room cut (From writer at len ∷ parts) [] answer admissible rise grows seen within is = absurd is
answer_spelled caller start end from later room cut (From writer at len ∷ parts) (a ∷ asked) answer admissible rise grows (next, call, seen) within (bytes, more, read, rest, split) =
    let first : bytes ≡ slice (logs_of end room writer) at len = log_read caller start end from next room cut writer at len bytes a admissible rise grows call read (in_log end room cut writer at len rise within.0) in
    let on : Grows end next = grows_trans end from next grows (grows_trans from call.before next call.waits call.goes) in
    split ∙ ap (λ b. b ++ more) first ∙ ap (λ b. slice (logs_of end room writer) at len ++ b) (answer_spelled caller start end next later room cut parts asked more admissible rise on seen within.1 rest)

-- the pieces of the entries that were read and the listed truncates are those of the cut's changes
pub pieces_of : (end : Moment) (cut : List Gathered) (truncs : List Trunc) (pieces : List Piece) → ArePieces (entries_in (writes_in end cut)) truncs pieces → ArePiecesOf (changes_in end cut truncs) pieces
pieces_of end cut truncs pieces are =
    let e = entries_of-changes (writes_in end cut) truncs in
    let t = truncs_of-changes (writes_in end cut) truncs in
    subst (λ es. ArePieces es (truncs_of (changes_in end cut truncs)) pieces) (sym e) (subst (λ ts. ArePieces (entries_in (writes_in end cut)) ts pieces) (sym t) are)

-- the size of the plain file, from the pieces of its entries and its truncates
pub size_of_pieces : (end : Moment) (room : ℕ) (cut : List Gathered) (truncs : List Trunc) (pieces : List Piece) → IsSoundAt end → WritersRise room cut → ArePieces (entries_in (writes_in end cut)) [] pieces → plain_size (changes_in end cut truncs) ≡ size_from pieces truncs
size_of_pieces end room cut truncs pieces s rise are =
    size-from_pieces (changes_in end cut truncs) pieces (keys_differ end s room cut truncs rise) (bytes_all end s room cut truncs rise)
    (subst (λ es. ArePieces es [] pieces) (sym (entries_of-changes (writes_in end cut) truncs)) are)
    ∙ ap (size_from pieces) (truncs_of-changes (writes_in end cut) truncs)

-- A reader's answer is a slice of the plain file of its cut and truncates.
pub answer_is_slice : (caller : ℕ) (start end from later : Moment) (room : ℕ) (cut : List Gathered) (truncs : List Trunc) (pieces : List Piece) (size at len : ℕ) (asked : List Asked) (answer : List ℕ) → IsSoundAt end → IsAdmissible start end cut → WritersRise room cut
    → ArePieces (entries_in (writes_in end cut)) truncs pieces → size ≡ plain_size (changes_in end cut truncs)
    → Grows end from → IsSeen caller from asked later → IsAnswer cut (plan_of pieces size at len) asked answer → answer ≡ slice (view end cut truncs) at len
answer_is_slice caller start end from later room cut truncs pieces size at len asked answer s admissible rise runs is grows seen answers =
    let are : ArePiecesOf (changes_in end cut truncs) pieces = pieces_of end cut truncs pieces runs in
    let bytes : All HasItsBytes (changes_in end cut truncs) = bytes_all end s room cut truncs rise in
    let logged : All (IsLogged (logs_of end room)) (changes_in end cut truncs) = logged_all end s room cut truncs rise in
    answer_spelled caller start end from later room cut (plan_of pieces size at len) asked answer admissible rise grows seen (plan_within end cut truncs pieces size at len s runs) answers
    ∙ spelled-plan (changes_in end cut truncs) (logs_of end room) pieces size at len (keys_differ end s room cut truncs rise) bytes logged are is
