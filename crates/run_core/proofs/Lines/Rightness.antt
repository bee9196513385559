-- The lines of a play are right.
use Rattle.std.proofs.Common.{◌≡◌, ◌≢◌, ℕ, ◌+◌, ◌<◌, List, [], ◌∷◌, ◌++◌, length, map, refl, sym, ap, ◌∙◌, subst, arith}
use Rattle.std.specs.Prelude.{All, Result}
use Rattle.std.proofs.lemmas.List.{map-append, length-map}
use Rattle.std.proofs.lemmas.List.Elements.{All-nil, All-cons}
use Rattle.mount_model.specs.declared.call.Ask.{Ask}
use Rattle.mount_model.specs.declared.reply.Reply.{Reply}
use Rattle.mount_model.specs.State.{State}
use Rattle.mount_model.specs.declared.stuck.Stuck.{Stuck}
use Rattle.index_reader.specs.declared.sharing.Share.{Share}
use Rattle.mount_model.specs.MakesCalls.{MakesCalls}
use Rattle.mount_model.specs.OneThread.{Differ}
use Rattle.mount_model.specs.Performers.{Performer, NoneAhead, numbers_of, left_of, told_at, told_by_each}
use Rattle.mount_model.specs.InTurns.{statements_of}
use Rattle.mount_model.proofs.Stories.Facts.{turns_made, turns_tell}
use Rattle.script_lang.specs.declared.line.Line.{Line}
use Rattle.script_lang.specs.declared.script.ActorDecl.{ActorDecl}
use Rattle.script_lang.specs.declared.script.Numbered.{Numbered}
use Rattle.script_lang.specs.declared.script.Phase.{Phase}
use Rattle.script_lang.specs.declared.script.Script.{Script}
use Rattle.run_core.specs.Written.{is_greeting, whose, written_of}
use Rattle.run_core.specs.Cast.{cast_from, cast, statements_in}
use Rattle.run_core.specs.Play.{IsPlay, IsRight}

-- the numbers from a place on differ from each before it
later_differ : (n place : ℕ) (phases : List Phase) (actors : List ActorDecl) → n < place → All (λ m. m ≢ n) (numbers_of (cast_from place phases actors))
later_differ n place phases [] before = All-nil (λ m. m ≢ n)
later_differ n place phases (d ∷ ds) before = All-cons (λ m. m ≢ n) place (numbers_of (cast_from (place + 1) phases ds)) (λ is. omega (arith, is, before)) (later_differ n (place + 1) phases ds (omega (arith, before)))

cast_differs : (place : ℕ) (phases : List Phase) (actors : List ActorDecl) → Differ (numbers_of (cast_from place phases actors))
cast_differs place phases [] = tt
cast_differs place phases (d ∷ ds) = (later_differ place (place + 1) phases ds (omega arith), cast_differs (place + 1) phases ds)

cast_fresh : (place : ℕ) (phases : List Phase) (actors : List ActorDecl) → NoneAhead (cast_from place phases actors)
cast_fresh place phases [] = All-nil (λ (one : Performer Ask Reply (Result Share Stuck) Line). one.ahead ≡ [])
cast_fresh place phases (d ∷ ds) = All-cons (λ (one : Performer Ask Reply (Result Share Stuck) Line). one.ahead ≡ []) _ (cast_from (place + 1) phases ds) refl (cast_fresh (place + 1) phases ds)

same_lines : (place : ℕ) (phases : List Phase) (actors : List ActorDecl) (places : List ℕ) (lines : List Line) → told_by_each place (cast_from place phases actors) places lines ≡ told_by_each place actors places lines
same_lines place phases [] places lines = refl
same_lines place phases (d ∷ ds) places lines = ap (λ z. told_at place places lines ∷ z) (same_lines (place + 1) phases ds places lines)

same_statements : (phases : List Phase) → statements_of (map written_of phases) ≡ whose (statements_in phases)
same_statements [] = refl
same_statements (phase ∷ phases) = ap (λ z. whose phase.statements ++ z) (same_statements phases) ∙ sym (map-append (λ (s : Numbered). s.actor) phase.statements (statements_in phases))

pub play_right : (script : Script) (start : State) (lines : List Line) (end : State) → IsPlay script start lines end → IsRight script start lines end
play_right script start lines end p =
    let phases = map written_of script.phases in
    let actors = cast script in
    let made = turns_made is_greeting phases actors p.history lines (cast_differs 0 script.phases script.actors) (cast_fresh 0 script.phases script.actors) p.in_turns in
    let each : told_by_each 0 actors (statements_of phases) lines ≡ told_by_each 0 script.actors (whose (statements_in script.phases)) lines =
    ap (λ z. told_by_each 0 actors z lines) (same_statements script.phases) ∙ same_lines 0 script.phases script.actors (whose (statements_in script.phases)) lines in
    record {
      history = p.history;
      leads = p.leads;
      had_memory = p.had_memory;
      calls = subst (λ z. MakesCalls (left_of actors) p.history z) each made;
      long = turns_tell is_greeting phases actors p.history lines p.in_turns ∙ (ap length (same_statements script.phases) ∙ length-map (statements_in script.phases) (λ (s : Numbered). s.actor));
    }

-- by the play's own calls
pub play_history : (script : Script) (start : State) (lines : List Line) (end : State) (p : IsPlay script start lines end) → (play_right script start lines end p).history ≡ p.history
unfolding play_right
play_history script start lines end p = refl
