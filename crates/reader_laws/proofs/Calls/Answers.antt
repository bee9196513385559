-- Who runs the program of a read has the answer to it.
use Rattle.std.proofs.Common.{◌≡◌, ℕ, ◌≤◌, false, nat_lt, List, [], ◌∷◌, ◌++◌, length, take, refl, ap, sym, ◌∙◌, subst, arith, append_assoc}
use Rattle.std.specs.Prelude.{Ok, replicate}
use Rattle.std.specs.List.{AllByRecursion, Any}
use Rattle.std.proofs.Math.Seq.{take-length}
use Rattle.std.proofs.lemmas.Bool.Decides.{nat_tests}
use Rattle.std.proofs.lemmas.List.{append-nil}
use Rattle.mount_model.specs.declared.call.Ask.{Ask}
use Rattle.mount_model.specs.declared.call.Call.TheVariants.{Look}
use Rattle.mount_model.specs.declared.call.Look.TheVariants.{Read}
use Rattle.mount_model.specs.declared.reply.Reply.TheVariants.{Looked}
use Rattle.store_api.specs.declared.step.Answer.TheVariants as told
use Rattle.mount_model.specs.Paths.{log_path}
use Rattle.mount_model.specs.History.{Event}
use Rattle.read_plan.specs.declared.part.Part.{Part}
use Rattle.read_plan.specs.declared.part.Part.TheVariants.{Hole, From}
use Rattle.mount_model.specs.Calls.{AreCallsOf}
use Rattle.mount_model.specs.Running.{asking}
use Rattle.mount_model.specs.FlowReplies.{bytes_in}
use Rattle.plain_file.specs.declared.parts.WriterHost.{WriterHost as Listed}
use Rattle.index_reader.specs.Hosts.{host_of}
use Rattle.index_reader.specs.Reading.{placed_all, spells, read_program}
use Rattle.reader_laws.specs.Seen.{Asked, asked_in}
use Rattle.reader_laws.specs.Gathering.{Gathered}
use Rattle.reader_laws.specs.View.{IsLogRead, IsAnswer}
use Rattle.reader_laws.proofs.Calls.Calling.{asked_all, given_so, passed_so, same_ok, bytes_given, FitsRead}

-- the log of a part is that of one of the cut, whose host is the one that was listed
pub record IsHosted (room : ℕ) (ds : List Listed) (cut : List Gathered) (writer : ℕ) : Type 0 where
  pub of : Gathered
  pub gathered : Any (λ g. g ≡ of) cut
  pub log_of : of.dropping.writer ≡ writer
  pub its_room : of.dropping.room ≡ room
  pub its_host : of.dropping.host ≡ host_of writer ds

abbrev pub HasHost : ℕ → List Listed → List Gathered → Part → Type 0
HasHost room ds cut (Hole len) = Unit {0}
HasHost room ds cut (From writer at len) = IsHosted room ds cut writer

-- the bytes that a program came to, behind those it began with
record HasAnswer (cut : List Gathered) (parts : List Part) (asked : List Asked) (sofar out : List ℕ) : Type 0 where
  pub answer : List ℕ
  pub is : IsAnswer cut parts asked answer
  pub whole : out ≡ sofar ++ answer

whole_read : (len : ℕ) (bytes : List ℕ) → nat_lt (length bytes) len ≡ false → length bytes ≤ len → take len bytes ≡ bytes
whole_read len bytes t most =
    let least : len ≤ length bytes = grind (arith, nat_tests, t) in
    let same : len ≡ length bytes = omega (arith, least, most) in
    ap (λ n. take n bytes) same ∙ take-length bytes

log_read : (room writer at len : ℕ) (ds : List Listed) (cut : List Gathered) (bytes : List ℕ) (asked : Asked) → IsHosted room ds cut writer → asked.ask.call ≡ Look room (Read (log_path (host_of writer ds) writer) at len) → asked.reply ≡ Looked (told.Bytes bytes) → IsLogRead cut writer at len bytes asked
log_read room writer at len ds cut bytes asked h call reply = record {
  of = h.of;
  gathered = h.gathered;
  log_of = h.log_of;
  call = call
      ∙ ap (λ (r : ℕ). Look r (Read (log_path (host_of writer ds) writer) at len)) (sym h.its_room)
      ∙ ap (λ (k : ℕ). Look h.of.dropping.room (Read (log_path k writer) at len)) (sym h.its_host)
      ∙ ap (λ (w : ℕ). Look h.of.dropping.room (Read (log_path h.of.dropping.host w) at len)) (sym h.log_of);
  reply = reply;
}

spells_run : (room : ℕ) (ds : List Listed) (cut : List Gathered) (parts : List Part) (sofar out : List ℕ) (calls : List Event) → AllByRecursion (HasHost room ds cut) parts → AllByRecursion FitsRead (asked_all calls)
    → AreCallsOf (asking (spells room (placed_all ds parts) sofar)) calls (Ok out) → HasAnswer cut parts (asked_all calls) sofar out
spells_run room ds cut [] sofar out calls hosted fit made =
    subst (λ es. HasAnswer cut [] (asked_all es) sofar out) (sym made.0) (record { answer = []; is = refl; whole = sym (same_ok sofar out made.1) ∙ sym (append-nil sofar) })
spells_run room ds cut (Hole len ∷ parts) sofar out calls hosted fit made =
    let h = spells_run room ds cut parts (sofar ++ replicate len 0) out calls hosted.1 fit made in
    record { answer = replicate len 0 ++ h.answer; is = (h.answer, h.is, refl); whole = h.whole ∙ append_assoc sofar (replicate len 0) h.answer }
spells_run room ds cut (From writer at len ∷ parts) sofar out [] hosted fit made = absurd made
spells_run room ds cut (From writer at len ∷ parts) sofar out (e ∷ calls) hosted fit (asked, made) =
    let path = log_path (host_of writer ds) writer in
    let g = given_so (bytes_in e.reply) _ _ calls out made in
    let bytes : List ℕ = g.0 in
    let p = passed_so (nat_lt (length bytes) len) _ _ calls out g.2 in
    let call : e.ask.call ≡ Look room (Read path at len) = ap (λ (a : Ask). a.call) asked in
    let reply = bytes_given e.reply bytes g.1 in
    let all : take len bytes ≡ bytes = whole_read len bytes p.0 (fit.0.most room path at len bytes call reply) in
    let h = spells_run room ds cut parts (sofar ++ take len bytes) out calls hosted.1 fit.1 p.1 in
    record {
      answer = bytes ++ h.answer;
      is = (bytes, h.answer, log_read room writer at len ds cut bytes (asked_in e) hosted.0 call reply, h.is, refl);
      whole = h.whole ∙ ap (λ b. sofar ++ b ++ h.answer) all ∙ append_assoc sofar bytes h.answer;
    }

-- The answer to a read, of parts whose logs are of the cut.
pub answer_run : (room : ℕ) (ds : List Listed) (cut : List Gathered) (parts : List Part) (out : List ℕ) (calls : List Event) → AllByRecursion (HasHost room ds cut) parts → AllByRecursion FitsRead (asked_all calls)
    → AreCallsOf (asking (read_program room ds parts)) calls (Ok out) → IsAnswer cut parts (asked_all calls) out
answer_run room ds cut parts out calls hosted fit made =
    let h = spells_run room ds cut parts [] out calls hosted fit made in
    subst (IsAnswer cut parts (asked_all calls)) (sym h.whole) h.is
