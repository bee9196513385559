-- What an actor does in a whole run.
use Rattle.std.specs.Prelude.{ℕ, ◌==◌, List, [], ◌∷◌, Result}
use Rattle.std.specs.List.{filter}
use Rattle.mount_model.specs.declared.call.Ask.{Ask}
use Rattle.mount_model.specs.declared.reply.Reply.{Reply}
use Rattle.mount_model.specs.declared.stuck.Stuck.{Stuck}
use Rattle.index_reader.specs.declared.sharing.Share.{Share}
use Rattle.mount_model.specs.Process.{Process, ends, pauses, tells, asks, shares}
use Rattle.script_lang.specs.declared.line.Line.{Line}
use Rattle.script_lang.specs.declared.script.ActorDecl.{ActorDecl}
use Rattle.script_lang.specs.declared.script.Numbered.{Numbered}
use Rattle.script_lang.specs.declared.script.Phase.{Phase}
use Rattle.actor_core.specs.declared.kept.Kept.{Kept}
use Rattle.actor_core.specs.Work.{Work}
use Rattle.actor_core.specs.Progress.{fresh, line_of}
use Rattle.actor_core.specs.Statements.{work_of}

-- It makes calls of the mount, and tells the lines of its statements. The shares of a reader may be read by workers.
abbrev pub Course : Type 0
Course = Process Ask Reply (Result Share Stuck) Line

-- a statement's calls and its line, and then what follows with what the actor keeps
abbrev pub then_line : ℕ → (Kept → Course) → Work → Course
then_line number next ends = ends
then_line number next (pauses work) = pauses (then_line number next work)
then_line number next (tells ending work) = tells (line_of number ending) (next ending.kept)
then_line number next (asks question k) = asks question (λ reply. then_line number next (k reply))
then_line number next (shares programs k alone) = shares programs (λ results. then_line number next (k results)) (then_line number next alone)

-- these statements, one after the other
abbrev pub one_by_one : List Numbered → (Kept → Course) → Kept → Course
one_by_one [] next kept = next kept
one_by_one (s ∷ ss) next kept = then_line s.line (λ left. one_by_one ss next left) (work_of kept s.statement)

-- of these statements, those of the actor at this place
abbrev pub own : ℕ → List Numbered → List Numbered
own actor statements = filter (λ (s : Numbered). s.actor == actor) statements

-- its statements of each phase as they are written, and then a pause
abbrev pub through : ℕ → List Phase → Kept → Course
through actor [] kept = ends
through actor (phase ∷ phases) kept = one_by_one (own actor phase.statements) (λ left. pauses (through actor phases left)) kept

-- the whole run of the actor that is declared so at this place
abbrev pub course_of : ℕ → List Phase → ActorDecl → Course
course_of actor phases declared = through actor phases (fresh declared.host declared.cap)
