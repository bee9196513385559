-- The calls of a run that writes out all files.
use Rattle.std.proofs.Common.{◌≡◌, ℕ, inl, inr, Bool, false, List, [], ◌∷◌, ◌++◌, length, Option, Result, Ok, Err, refl, sym, ap, subst, append-nil}
use Rattle.std.specs.List.{AllByRecursion}
use Rattle.edge_io.specs.Sink.{Taking}
use Rattle.mount_model.specs.State.{State}
use Rattle.mount_model.specs.History.{Event}
use Rattle.mount_model.specs.declared.call.Ask.{Ask}
use Rattle.mount_model.specs.declared.call.Call.{Call}
use Rattle.mount_model.specs.declared.reply.Reply.{Reply}
use Rattle.actor_core.specs.Names.{names_program}
use Rattle.mount_model.specs.Program.{AsksOnly, Program, done, ask}
use Rattle.mount_model.specs.Running.{Runs}
use Rattle.mount_model.proofs.Flows.Facts.{runs_done, runs_next}
use Rattle.lone_flow.specs.Driving.{BeginsToMake, Makes, greets_first}
use Rattle.opening_flow.specs.Opening.{opening_program}
use Rattle.lone_flow.proofs.SmallReads.Looked.{made_both}
use Rattle.index_reader.specs.declared.opened.OpenReader.{OpenReader}
use Rattle.run_core.specs.Leading.{GoesOn}
use Rattle.program_ends.specs.Leaving.{ran}
use Rattle.program_ends.specs.Ends.{Ends}
use Rattle.program_ends.specs.SoundTrees.{LeavesSoundTree, TellsSoundTree}
use Rattle.program_ends.proofs.Facts.{FailingLeavesSound, all_leave_sound, was_run}
use Rattle.export_program.specs.declared.piece.Unwritten.{Unwritten}
use Rattle.export_program.specs.declared.piece.Unwritten.TheVariants as unwritten
use Rattle.export_program.specs.Exporting.{BeginsToWrite, BeginsToWriteOut, WritesFile, WritesOut}
use Rattle.export_program.specs.Exporting as exporting
use Rattle.export_program.specs.Looking.{ChangesNothing, HasOnlyLooked}
use Rattle.export_program.specs.Pieces.{HaveWritten, WritesPiece, piece_program}
use Rattle.export_program.specs.declared.filling.Filled.{Filled}
use Rattle.export_program.specs.Course.{ExportCourse, exported, unmounted}
use Rattle.export_program.specs.Passing.{At, HavePassed, Passes, PassesFile, WritesAll, at}
use Rattle.export_program.specs.Passing as passing
use Rattle.export_program.specs.Filling.{BeginsToFill, Fills, FillsMade}
use Rattle.export_program.specs.Filling as filling
use Rattle.export_program.specs.Shelf.{Deed}
use Rattle.export_program.proofs.Looks.{names_look, opening_looks, piece_looks}

none_called : (s : State) → HasOnlyLooked s s
none_called s = record { events = []; made = record { lawful = tt; ends = refl; own = tt }; look = tt }

still : (start end : State) → end ≡ start → HasOnlyLooked start end
still start end same = subst (λ (s : State). HasOnlyLooked start s) (sym same) (none_called start)

pub all_both : {A : Type 0} (P : A → Type 0) (first second : List A) → AllByRecursion P first → AllByRecursion P second → AllByRecursion P (first ++ second)
all_both P [] second one other = other
all_both P (x ∷ first) second one other = (one.0, all_both P first second one.1 other)

pub called_both : (a b c : State) → HasOnlyLooked a b → HasOnlyLooked b c → HasOnlyLooked a c
called_both a b c one other = record {
  events = one.events ++ other.events;
  made = made_both a b c one.events other.events one.made other.made;
  look = all_both (λ (e : Event). ChangesNothing e.ask.call) one.events other.events one.look other.look;
}

goes : (start end : State) → HasOnlyLooked start end → GoesOn start end
goes start end l = record { events = l.events; leads = record { lawful = l.made.lawful; ends = l.made.ends } }

-- ---- a program that changes nothing

abbrev AllOwn : List Event → Type 0
AllOwn events = AllByRecursion (λ (e : Event). e.caller ≡ 0) events

abbrev AllLook : List Event → Type 0
AllLook events = AllByRecursion (λ (e : Event). ChangesNothing e.ask.call) events

-- the calls of a front of a run
look_in : {R : Type 0} (program : Program Call Reply R) (events more : List Event) (result : R) → AsksOnly ChangesNothing program → AllOwn events → Runs 0 program (events ++ more) result → AllLook events
look_in program [] more result looks own runs = tt
look_in (done out) (e ∷ events) more result looks own runs = absurd ((runs_done 0 out e (events ++ more) result runs).0 own.0)
look_in (ask call k) (e ∷ events) more result looks own runs = elim (runs_next 0 call k e (events ++ more) result runs) as (λ _. AllLook (e ∷ events)) [
  | inl (other, r) ↦ absurd (other own.0)
  | inr (mine, asked, r) ↦ (subst (λ (a : Ask). ChangesNothing a.call) (sym asked) looks.0, look_in (k e.reply) events more result (looks.1 e.reply) own.1 r)
]

pub makes_lead : {R : Type 0} (program : Program Call Reply R) → AsksOnly ChangesNothing program → (start : State) (result : R) (end : State) → Makes program start result end → HasOnlyLooked start end
makes_lead program looks start result end m = record {
  events = m.events;
  made = m.made;
  look = look_in (greets_first program) m.events [] result (tt, λ reply. looks) m.made.own (subst (λ (z : List Event). Runs 0 (greets_first program) z result) (sym (append-nil m.events)) m.runs);
}

begins_lead : {R : Type 0} (program : Program Call Reply R) → AsksOnly ChangesNothing program → (start end : State) → BeginsToMake program start end → HasOnlyLooked start end
begins_lead program looks start end b = record { events = b.events; made = b.made; look = look_in (greets_first program) b.events b.more b.result (tt, λ reply. looks) b.made.own b.front_of }

-- ---- one file

pub written_leads : (reader : OpenReader) (start : State) (taking : Taking) (pieces : List (List ℕ)) (end : State) (after : Taking) → HaveWritten reader start taking pieces end after → HasOnlyLooked start end
written_leads reader start taking [] end after (same, untaken) = still start end same
written_leads reader start taking (piece ∷ earlier) end after (mid, taken, before, made, is) =
    called_both start mid end (written_leads reader start taking earlier mid taken before) (makes_lead (piece_program reader (length earlier)) (piece_looks reader (length earlier)) mid (Ok piece) end made)

piece_leads : (reader : OpenReader) (k : ℕ) (start : State) (taking : Taking) (why : Unwritten) (end : State) (after : Taking) → WritesPiece reader k start taking (Err why) end after → HasOnlyLooked start end
piece_leads reader k start taking (unwritten.Stuck why) end after (made, same) = makes_lead (piece_program reader k) (piece_looks reader k) start (Err why) end made
piece_leads reader k start taking unwritten.Broken end after (piece, made, cut) = makes_lead (piece_program reader k) (piece_looks reader k) start (Ok piece) end made

out_leads : (reader : OpenReader) (start : State) (taking : Taking) (told : Result ℕ Unwritten) (end : State) (after : Taking) → WritesOut reader start taking told end after → HasOnlyLooked start end
out_leads reader start taking told end after (exporting.whole pieces written count is) = written_leads reader start taking pieces end after written
out_leads reader start taking told end after (exporting.ended pieces why mid taken written next is) =
    called_both start mid end (written_leads reader start taking pieces mid taken written) (piece_leads reader _ mid taken why end after next)

file_leads : (name : List ℕ) (start : State) (taking : Taking) (told : Result ℕ Unwritten) (end : State) (after : Taking) → WritesFile name start taking told end after → HasOnlyLooked start end
file_leads name start taking told end after (exporting.opens reader opened makes out) = called_both start opened end (makes_lead (opening_program name 1) (opening_looks name) start (Ok reader) opened makes) (out_leads reader opened taking told end after out)
file_leads name start taking told end after (exporting.opens_stuck why is same makes) = makes_lead (opening_program name 1) (opening_looks name) start (Err why) end makes

begun_leads : (name : List ℕ) (start : State) (taking : Taking) (end : State) (after : Taking) → BeginsToWrite name start taking end after → HasOnlyLooked start end
begun_leads name start taking end after (exporting.to_open begins same) = begins_lead (opening_program name 1) (opening_looks name) start end begins
begun_leads name start taking end after (exporting.to_write reader opened makes b) =
    called_both start opened end (makes_lead (opening_program name 1) (opening_looks name) start (Ok reader) opened makes) (called_both opened b.mid end (written_leads reader opened taking b.pieces b.mid after b.written) (begins_lead (piece_program reader (length b.pieces)) (piece_looks reader (length b.pieces)) b.mid end b.begins))

made_file_leads : (name : List ℕ) (taking : Taking) (start : State) (deeds : Option (List Deed)) (told : Filled) (end : State) (deeds_after : Option (List Deed)) → FillsMade name taking start deeds told end deeds_after → HasOnlyLooked start end
made_file_leads name taking start deeds told end deeds_after (filling.whole size after writes keeps) = file_leads name start taking _ end after writes
made_file_leads name taking start deeds told end deeds_after (filling.stuck why after writes same is) = file_leads name start taking _ end after writes
made_file_leads name taking start deeds told end deeds_after (filling.broken after writes same is) = file_leads name start taking _ end after writes

fill_leads : (name : List ℕ) (start : State) (deeds : Option (List Deed)) (told : Filled) (end : State) (deeds_after : Option (List Deed)) → Fills name start deeds told end deeds_after → HasOnlyLooked start end
fill_leads name start deeds told end deeds_after (filling.fills taking empty f) = made_file_leads name taking start deeds told end deeds_after f
fill_leads name start deeds told end deeds_after (filling.exists adds same is) = still start end same
fill_leads name start deeds told end deeds_after (filling.failed adds same is) = still start end same

begun_fill_leads : (name : List ℕ) (start : State) (deeds : Option (List Deed)) (end : State) (deeds_after : Option (List Deed)) → BeginsToFill name start deeds end deeds_after → HasOnlyLooked start end
begun_fill_leads name start deeds end deeds_after (filling.in_filling taking empty (filling.in_writing after begins same)) = begun_leads name start taking end after begins
begun_fill_leads name start deeds end deeds_after (filling.in_filling taking empty (filling.in_keeping size after writes adds)) = file_leads name start taking _ end after writes
begun_fill_leads name start deeds end deeds_after (filling.in_making adds same) = still start end same

passed_file_leads : (name : List ℕ) (old new : At) (status : ℕ) (ends : Bool) → PassesFile name old new status ends → HasOnlyLooked old.state new.state
passed_file_leads name old new status ends (passing.fills told f truly line) = fill_leads name old.state old.deeds told new.state new.deeds f
passed_file_leads name old new status ends (passing.broke_off begins untold is last) = begun_fill_leads name old.state old.deeds new.state new.deeds begins

pub passes_lead : (name : List ℕ) (old new : At) (status : ℕ) (ends : Bool) → Passes name old new status ends → HasOnlyLooked old.state new.state
passes_lead name old new status ends (passing.passes logical f) = passed_file_leads name old new status ends f
passes_lead name old new status ends (passing.none other same is last) = still old.state new.state (ap (λ (a : At). a.state) same)

pub have_lead : (old : At) (names : List (List ℕ)) (new : At) (ends : Bool) (greatest : ℕ) → HavePassed old names new ends greatest → HasOnlyLooked old.state new.state
have_lead old [] new ends greatest h = still old.state new.state (ap (λ (a : At). a.state) h.0)
have_lead old (name ∷ names) new ends greatest (mid, so_far, status, earlier, one, is) = called_both old.state mid.state new.state (have_lead old names mid false so_far earlier) (passes_lead name mid new status ends one)

pub all_lead : (old new : At) (status : ℕ) → WritesAll old new status → HasOnlyLooked old.state new.state
all_lead old new status (passing.listed names mid makes each) = called_both old.state mid new.state (makes_lead names_program names_look old.state (Ok names) mid makes) (have_lead (at mid old.deeds old.taking) each.passed new each.ends status each.have)
all_lead old new status (passing.unlisted why makes truly deeds said) = makes_lead names_program names_look old.state (Err why) new.state makes
all_lead old new status (passing.unnamed begins deeds untold is) = begins_lead names_program names_look old.state new.state begins

-- ---- the run

pub exported_leaves : (deeds deeds_after : Option (List Deed)) (e : Ends) (status : ℕ) → FailingLeavesSound → ExportCourse deeds deeds_after e status → TellsSoundTree e.stored → LeavesSoundTree e.stored_after
exported_leaves deeds deeds_after e status failing (unmounted why after is failed same undamaged said) (tree, told, sound) = (after, is, failing e.stored after why tree failed told sound)
exported_leaves deeds deeds_after e status failing (exported after is i) told =
    (after, is, all_leave_sound HasOnlyLooked goes e.times e.stored after failing (ran (was_run HasOnlyLooked e.times e.stored after i.start i.end i.mounted (all_lead (at i.start deeds e.taking) (at i.end deeds_after e.taking_after) status i.writes) (sym i.left))) told)
