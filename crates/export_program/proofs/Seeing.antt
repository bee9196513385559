-- What was written is the file that was seen.
use Rattle.std.proofs.Common.{◌≡◌, ℕ, ◌+◌, ◌*◌, ◌≤◌, inl, inr, List, [], ◌∷◌, ◌++◌, length, take, Option, Some, None, Result, Ok, Err, refl, sym, ap, ◌∙◌, subst, append_assoc, append-nil, take-add, arith}
use Rattle.std.specs.List.{AllByRecursion}
use Rattle.std.proofs.lemmas.Grind.{div_ceil_times}
use Rattle.std.proofs.lemmas.List.{take_all}
use Rattle.edge_io.specs.Sink.{Taking, TakesOn}
use Rattle.mount_model.specs.Program.{Program}
use Rattle.mount_model.specs.Running.{Runs}
use Rattle.mount_model.proofs.Flows.Facts.{runs_next}
use Rattle.mount_model.specs.declared.call.Call.{Call}
use Rattle.mount_model.specs.declared.call.Call.TheVariants.{Greet}
use Rattle.mount_model.specs.declared.reply.Reply.{Reply}
use Rattle.mount_model.specs.History.{Event, state_after}
use Rattle.mount_model.specs.Paths.{Name}
use Rattle.mount_model.specs.State.{State}
use Rattle.mount_sound.specs.Owed.{IsLawful}
use Rattle.lone_flow.specs.Driving.{Makes, greets_first}
use Rattle.plain_file.specs.File.{slice}
use Rattle.index_reader.specs.declared.opened.OpenReader.{OpenReader}
use Rattle.reader_laws.specs.Moments.{Moment, IsSoundAt, next_moment}
use Rattle.reader_laws.proofs.Gathered.Facts.{sound_after}
use Rattle.reader_laws.specs.Opened.{HasOpenedIn}
use Rattle.opening_flow.specs.Opening.{opening_program}
use Rattle.packing_laws.specs.Seen.{file_seen, moment_seen}
use Rattle.packing_laws.proofs.Unpacking.Facts.{Follows, HasReached, HasSeen, OpeningsEnd, ReadLaw, ReadsTell, follows, has_seen, reads_tell}
use Rattle.export_program.specs.declared.piece.Unwritten.{Unwritten}
use Rattle.export_program.specs.Exporting.{WritesFile, WritesOut, ended, opens, opens_stuck, whole}
use Rattle.export_program.specs.Pieces.{HaveWritten, bytes_of, piece_length, piece_program, pieces_of}
use Rattle.export_program.specs.Seen.{IsSeenWhole}
use Rattle.program_ends.specs.Output.{IsPrinted}

-- ---- what was written

none_taken : (old : Option (List ℕ)) → TakesOn [] old old
none_taken None = refl
none_taken (Some before) = ap Some (sym (append-nil before))

taken_both : (first second : List ℕ) (old mid new : Option (List ℕ)) → TakesOn first old mid → TakesOn second mid new → TakesOn (first ++ second) old new
taken_both first second None mid new a b = let P : Option (List ℕ) → Type 0 = λ o. TakesOn second o new in subst P a b
taken_both first second (Some before) mid new a b =
    let P : Option (List ℕ) → Type 0 = λ o. TakesOn second o new in
    subst P a b ∙ ap Some (append_assoc before first second)

none_written : (taking : Taking) → IsPrinted [] taking taking
none_written taking = record { bytes = none_taken taking.taken; faults = omega arith; stalls = omega arith }

written_both : (first second : List ℕ) (old mid new : Taking) → IsPrinted first old mid → IsPrinted second mid new → IsPrinted (first ++ second) old new
written_both first second old mid new a b = record { bytes = taken_both first second old.taken mid.taken new.taken a.bytes b.bytes; faults = omega (arith, a.faults, b.faults); stalls = omega (arith, a.stalls, b.stalls) }

all_written : (reader : OpenReader) (start : State) (taking : Taking) (pieces : List (List ℕ)) (end : State) (after : Taking) → HaveWritten reader start taking pieces end after → IsPrinted (bytes_of pieces) taking after
all_written reader start taking [] end after (still, same) = subst (λ (t : Taking). IsPrinted [] taking t) (sym same) (none_written taking)
all_written reader start taking (piece ∷ earlier) end after (mid, taken, before, made, is) = written_both (bytes_of earlier) piece taking taken after (all_written reader start taking earlier mid taken before) is

-- ---- what was read

module _ (reader : OpenReader) (file : List ℕ) (from : State) (tell : ReadsTell reader file from) where
  -- the first pieces are a front of the file
  pub front_read : (start : State) (taking : Taking) (pieces : List (List ℕ)) (end : State) (after : Taking) → HasReached from start → HaveWritten reader start taking pieces end after
      → HasReached from end × (bytes_of pieces ≡ take (length pieces * piece_length) file)
  front_read start taking [] end after reached (still, same) = (subst (λ (s : State). HasReached from s) (sym still) reached, refl)
  front_read start taking (piece ∷ earlier) end after reached (mid, taken, before, made, is) =
      let so_far = front_read start taking earlier mid taken reached before in
      let f : Follows from (piece_program reader (length earlier)) (Ok piece) end = follows from mid end (piece_program reader (length earlier)) (Ok piece) so_far.0 made in
      let read : piece ≡ slice file (length earlier * piece_length) piece_length = tell f.waited f.mine (length earlier * piece_length) piece_length piece f.lawful f.runs in
      let long : length earlier * piece_length + piece_length ≡ length (piece ∷ earlier) * piece_length = omega arith in (
        record { events = f.waited ++ f.mine; lawful = f.lawful; ends = f.ends },
        ap (λ (b : List ℕ). b ++ piece) so_far.1 ∙ ap (λ (b : List ℕ). take (length earlier * piece_length) file ++ b) read ∙ sym (take-add (length earlier * piece_length) piece_length file) ∙ ap (λ (n : ℕ). take n file) long,
      )

  -- all of them are all of it
  pub all_read : (start : State) (taking : Taking) (pieces : List (List ℕ)) (end : State) (after : Taking) → HasReached from start → HaveWritten reader start taking pieces end after → length pieces ≡ pieces_of (length file) → bytes_of pieces ≡ file
  all_read start taking pieces end after reached written count =
      let front = front_read start taking pieces end after reached written in
      let bound = (div_ceil_times (length file) piece_length (omega arith)).0 in
      let enough : length file ≤ length pieces * piece_length = subst (λ (n : ℕ). length file ≤ n * piece_length) (sym count) bound in
      front.1 ∙ take_all (length pieces * piece_length) file enough

-- ---- the opening

-- its calls behind the greeting
pub record IsBehind {R : Type 0} (program : Program Call Reply R) (start : State) (result : R) (end : State) : Type 0 where
  pub greeting : Event
  pub events : List Event
  pub lawful : IsLawful start (greeting ∷ events)
  pub own : AllByRecursion (λ (e : Event). e.caller ≡ 0) (greeting ∷ events)
  pub runs : Runs 0 program events result
  pub ends : state_after start (greeting ∷ events) ≡ end

behind_greeting : {R : Type 0} (program : Program Call Reply R) (start : State) (events : List Event) (result : R) → IsLawful start events → AllByRecursion (λ (e : Event). e.caller ≡ 0) events → Runs 0 (greets_first program) events result
    → IsBehind program start result (state_after start events)
behind_greeting program start [] result lawful own runs = absurd runs
behind_greeting program start (e ∷ es) result lawful own runs = elim (runs_next 0 Greet (λ reply. program) e es result runs) as (λ _. IsBehind program start result (state_after e.after es)) [
  | inl (other, on) ↦ absurd (other own.0)
  | inr (mine, asked, on) ↦ record { greeting = e; events = es; lawful = lawful; own = own; runs = on; ends = refl }
]

pub behind : {R : Type 0} (program : Program Call Reply R) (start : State) (result : R) (end : State) → Makes program start result end → IsBehind program start result end
behind program start result end m = subst (λ (s : State). IsBehind program start result s) m.made.ends (behind_greeting program start m.events result m.made.lawful m.made.own m.runs)

abbrev size_in : Result ℕ Unwritten → ℕ
size_in (Ok size) = size
size_in (Err why) = 0

seen_so : (reader : OpenReader) (file : List ℕ) (from : State) → ReadsTell reader file from → (at : State) (taking : Taking) (size : ℕ) (end : State) (after : Taking) → HasReached from at → reader.size ≡ length file → WritesOut reader at taking (Ok size) end after
    → IsPrinted file taking after × (size ≡ length file)
seen_so reader file from tell at taking size end after reached long (whole pieces written count told) =
    let all : bytes_of pieces ≡ file = all_read reader file from tell at taking pieces end after reached written (count ∙ ap (λ (n : ℕ). pieces_of n) long) in
    (subst (λ (b : List ℕ). IsPrinted b taking after) all (all_written reader at taking pieces end after written), ap size_in told ∙ long)
seen_so reader file from tell at taking size end after reached long (ended pieces why mid taken written writes told) = absurd (cc)

pub seen_whole : OpeningsEnd → ReadLaw → (name : Name) (start : Moment) (taking : Taking) (size : ℕ) (end : State) (after : Taking) → IsSoundAt start → WritesFile name start.state taking (Ok size) end after → IsSeenWhole name start taking size after
seen_whole opening_law read_law name start taking size end after sound (opens reader at makes writes) =
    let b : IsBehind (opening_program name 1) start.state (Ok reader) at = behind (opening_program name 1) start.state (Ok reader) at makes in
    let begun : Moment = next_moment start b.greeting in
    let fine : IsSoundAt begun = sound_after start (b.greeting ∷ []) (b.lawful.0, b.lawful.1, tt) sound in
    let o : HasOpenedIn 0 begun b.events reader = opening_law 0 1 name begun b.events (Ok reader) (omega arith) b.lawful.2 fine b.runs in
    let s : HasSeen (moment_seen begun b.events reader o) at = subst (λ (z : State). HasSeen (moment_seen begun b.events reader o) z) b.ends (has_seen begun b.events reader o b.lawful.2 fine) in
    let told = seen_so reader (file_seen begun b.events reader o) (moment_seen begun b.events reader o).state (reads_tell begun b.events reader o s.sound read_law) at taking size end after s.reached o.has.size writes in
    record { sees = record { greeting = b.greeting; opening = b.events; reader = reader; lawful = b.lawful; alone = b.own; runs = b.runs; opened = o }; written = told.0; long = told.1 }
seen_whole opening_law read_law name start taking size end after sound (opens_stuck why told same makes) = absurd (cc)
