-- The clients as they are made.
use Rattle.std.proofs.Common.{◌≡◌, ℕ, suc, ◌+◌, List, [], ◌∷◌, ◌++◌, length, Some, refl, sym, ap, ◌∙◌, subst, map, take, arith}
use Rattle.std.specs.Prelude.{slice_get, Result}
use Rattle.mount_model.specs.declared.call.Ask.{Ask}
use Rattle.mount_model.specs.declared.reply.Reply.{Reply}
use Rattle.mount_model.specs.declared.stuck.Stuck.{Stuck}
use Rattle.index_reader.specs.declared.sharing.Share.{Share}
use Rattle.mount_model.specs.Performers.{Performer, performer}
use Rattle.script_lang.specs.declared.line.Line.{Line}
use Rattle.script_lang.specs.declared.script.ActorDecl.{ActorDecl}
use Rattle.script_lang.specs.declared.script.Phase.{Phase}
use Rattle.actor_core.specs.Progress.{Progress, IsIdle, idle, fresh}
use Rattle.actor_core.specs.Standings.{progress_of}
use Rattle.run_core.specs.Cast.{cast_from}
use Rattle.run_core.specs.Course.{through, course_of}
use Rattle.serve_core.specs.declared.client.Client.{Client}
use Rattle.serve_core.specs.Making.{AreAtRest, IsAtRest}
use Rattle.serve_core.specs.Serving.{AreNew, left_to, waiting}
use Rattle.serve_core.proofs.Tables.{at_end, length_both, map_both}

pub no_clients : (clients : List Client) → clients ≡ [] → AreNew [] clients
no_clients clients none = subst (λ z. AreNew [] z) (sym none) (record { cast = λ later. refl; rest = λ place client here. absurd (cc); long = refl })

cast_both : (place : ℕ) (later : List Phase) (first : List ActorDecl) (one : ActorDecl) → cast_from place later (first ++ one ∷ []) ≡ cast_from place later first ++ performer (place + length first) (course_of (place + length first) later one) [] ∷ []
cast_both place later [] one = ap (λ n. performer n (course_of n later one) [] ∷ []) (omega arith)
cast_both place later (d ∷ ds) one =
    let number : (place + 1) + length ds ≡ place + suc (length ds) = omega arith in
    ap (λ z. performer place (course_of place later d) [] ∷ z) (cast_both (place + 1) later ds one ∙ ap (λ n. cast_from (place + 1) later ds ++ performer n (course_of n later one) [] ∷ []) number)

abbrev Stands : ℕ → Client → Type 0
Stands place client = (client.number ≡ place) × IsAtRest client

-- one client more, behind the others
pub one_client_more : (actors : List ActorDecl) (i : ℕ) (one : ActorDecl) (clients : List Client) (client : Client) → take (i + 1) actors ≡ take i actors ++ one ∷ [] → AreNew (take i actors) clients → client.number ≡ length clients
    → progress_of client.actor ≡ idle (fresh one.host one.cap) → AreNew (take (i + 1) actors) (clients ++ client ∷ [])
one_client_more actors i one clients client taken c number progress =
    let first = take i actors in
    let place : client.number ≡ length first = number ∙ c.long in
    let rests : IsAtRest client = subst IsIdle (sym progress) tt in
    let zero_more : (n : ℕ) → 0 + n ≡ n = λ n. omega arith in
    record {
      cast = λ later.
          let seen : waiting later client ≡ performer (length first) (course_of (length first) later one) [] =
          (let C : ℕ × Progress → Performer Ask Reply (Result Share Stuck) Line = λ z. performer z.0 (left_to z.1 (through z.0 later)) [] in ap C (λ k. (place k, progress k))) in
          map_both (waiting later) clients client ∙ ((λ k. c.cast later k ++ seen k ∷ []) ∙ (sym (cast_both 0 later first one ∙ ap (λ n. cast_from 0 later first ++ performer n (course_of n later one) [] ∷ []) (zero_more (length first))) ∙ ap (cast_from 0 later) (sym taken)));
      rest = λ n p here.
          subst (λ m. Stands m p) (zero_more n)
          (at_end Stands 0 clients client (λ j q there. subst (λ m. Stands m q) (sym (zero_more j)) (c.rest j q there)) (number ∙ sym (zero_more (length clients)), rests) n p here);
      long = length_both clients client ∙ (ap (λ n. n + 1) c.long ∙ (sym (length_both first one) ∙ ap length (sym taken)));
    }
