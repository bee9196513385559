-- How actors enter a run.
use Rattle.std.proofs.Common.{◌≡◌, ℕ, ◌+◌, ◌^◌, ◌<◌, ◌≤◌, List, [], ◌∷◌, ◌++◌, length, sym, ◌∙◌, subst, arith, length-append, append-nil, take}
use Rattle.std.proofs.lemmas.List.{length-take-le}
use Rattle.std.proofs.lemmas.List.Elements.{All-nil}
use Rattle.std.specs.List.{All}
use Rattle.turn_object.specs.Front.{IsHistory, IsLegalFront}
use Rattle.turn_object.specs.Pass.{start_of, front, parts_of, mine_of, seen_of, ended_of, IsPassOf}
use Rattle.turn_object.proofs.Facts.{legal_new}
use Rattle.mount_model.specs.Players.{player, HasPlayed}
use Rattle.mount_model.proofs.Stories.Facts.{played_none}
use Rattle.mount_model.specs.Step.{IsStep}
use Rattle.mount_model.specs.History.{Event}
use Rattle.mount_sound.specs.Owed.{Permits}
use Rattle.mount_sound.specs.Sound.{IsFine}
use Rattle.script_lang.specs.declared.line.Line.{Line}
use Rattle.script_lang.specs.declared.script.ActorDecl.{ActorDecl}
use Rattle.script_lang.specs.declared.script.Phase.{Phase}
use Rattle.actor_core.specs.Progress.{fresh}
use Rattle.run_core.specs.Course.{course_of}
use Rattle.mount_core.specs.Memory.{HadMemory}
use Rattle.share_workers.specs.Passes.{ThePass, TheTurn}
use Rattle.thread_runs.specs.Reaching.{up_to}
use Rattle.thread_runs.specs.Going.{EndedWithMemory}
use Rattle.thread_runs.specs.Runners.{Runner}
use Rattle.thread_runs.specs.Each.{EachAt}
use Rattle.thread_runs.specs.Phases.{AnyCall, HasActed, IsFollower}
use Rattle.thread_runs.specs.Running.{Between, HaveAll, CanLeave, IsNewcomer, Enters}
use Rattle.thread_runs.proofs.Each.{each_all, each_so, each_push, each_long}
use Rattle.thread_runs.proofs.Phasing.{begun_acted, free, known_free}

module _ {P : Type 0} (turn : TheTurn P) where
  known_new : (pass : ThePass) → seen_of pass ≡ [] → mine_of pass ≡ [] → ended_of pass ≡ [] → IsLegalFront IsStep Permits (start_of turn) (front pass)
  known_new pass seen mine ended = legal_new IsStep Permits (start_of turn) (front pass) (subst (λ (z : List Event). IsHistory IsStep Permits (start_of turn) z) (sym seen) (record { happens = tt; numbered = tt })) mine ended

  pub enters_none : (main : ThePass) (runners : List Runner) → IsPassOf turn main → seen_of main ≡ [] → mine_of main ≡ [] → ended_of main ≡ [] → parts_of main ≡ 2 ^ 40 → runners ≡ [] → Enters turn [] main runners
  enters_none main runners pass seen mine ended parts none = subst (λ (z : List Runner). Enters turn [] main z) (sym none) (record { pass = pass; seen = seen; mine = mine; ended = ended; parts = omega (arith, parts); each = tt })

  pub enters_more : (main now : ThePass) (runners news : List Runner) (r : Runner) (actors later : List ActorDecl) (declared : ActorDecl) → Enters turn actors main runners → IsPassOf turn now → seen_of now ≡ seen_of main → mine_of now ≡ mine_of main → ended_of now ≡ ended_of main → parts_of now + 2 ^ 20 ≡ parts_of main
      → IsNewcomer turn (length runners) declared r → news ≡ runners ++ r ∷ [] → later ≡ actors ++ declared ∷ [] → Enters turn later now news
  enters_more main now runners news r actors later declared e pass seen mine ended parts new these are =
      let Q : List ActorDecl × List Runner → Type 0 = λ z. Enters turn z.0 now z.1 in
      subst Q (λ i. (sym are i, sym these i)) (record {
        pass = pass;
        seen = seen ∙ e.seen;
        mine = mine ∙ e.mine;
        ended = ended ∙ e.ended;
        parts = let n = length-append runners (r ∷ []) in let p = e.parts in omega (arith, n, p, parts);
        each = each_push (IsNewcomer turn) 0 actors runners declared r e.each (let at : length runners ≡ 0 + length runners = omega arith in subst (λ n. IsNewcomer turn n declared r) at new);
      })

  pub have_all : (actors : List ActorDecl) (main : ThePass) (runners : List Runner) → Enters turn actors main runners → HaveAll turn main runners
  have_all actors main runners e = record {
    pass = e.pass;
    known = known_new main e.seen e.mine e.ended;
    parts = e.parts;
    each = each_all (IsNewcomer turn) (CanLeave turn) (λ place declared r n. record { pass = n.pass; parts = n.parts }) 0 actors runners e.each;
  }

  -- an actor that has done nothing is at the beginning of its course
  first_acted : (phases : List Phase) (place : ℕ) (declared : ActorDecl) (r : Runner) → IsNewcomer turn place declared r → HasActed (start_of turn) phases phases [] [] place declared r
  first_acted phases place declared r n =
      let process = course_of place phases declared in
      let known = known_free (start_of turn) (front r.pass) (known_new r.pass n.seen n.mine n.ended) in
      let played = played_none IsStep AnyCall (start_of turn) process (front r.pass) known n.seen n.mine n.ended (free (start_of turn) (front r.pass) process) in
      let Q : List Line → Type 0 = λ z. HasPlayed IsStep AnyCall (start_of turn) [] [] (player process (front r.pass) process z) in
      record {
        kept = fresh declared.host declared.cap;
        rests = n.rests;
        at = n.at;
        played = subst Q (sym n.lines) played;
        as_far = λ reach.
            let cut = up_to reach process in
            let R : List Line → Type 0 = λ z. HasPlayed IsStep AnyCall (start_of turn) [] [] (player cut (front r.pass) cut z) in
            (reach, subst R (sym n.lines) (played_none IsStep AnyCall (start_of turn) cut (front r.pass) known n.seen n.mine n.ended (free (start_of turn) (front r.pass) cut)));
        memory = subst HadMemory (sym n.mine) tt;
        workers_memory = subst (λ z. All EndedWithMemory z) (sym n.ended) (All-nil EndedWithMemory);
      }

  pub first_between : (actors : List ActorDecl) (phases : List Phase) (main : ThePass) (runners : List Runner) → Enters turn actors main runners → length actors ≤ 256 → IsFine (start_of turn) → Between turn actors phases phases main runners
  first_between actors phases main runners e few fine = record {
    blocks = [];
    fine = fine;
    pass = e.pass;
    known = known_new main e.seen e.mine e.ended;
    none = e.mine;
    no_ended = e.ended;
    in_phases = e.seen;
    parts = e.parts;
    few = let n = each_long (IsNewcomer turn) 0 actors runners e.each in omega (arith, n, few);
    each =
        let F : List Event → Type 0 = λ z. EachAt (IsFollower turn phases phases z []) 0 actors runners in
        subst F (sym e.seen) (each_so (IsNewcomer turn) (IsFollower turn phases phases [] []) (λ place declared r n. record {
          pass = n.pass;
          parts = n.parts;
          known = known_new r.pass n.seen n.mine n.ended;
          behind = ([], sym n.seen ∙ sym (append-nil (seen_of r.pass)));
          acted = λ _. first_acted phases place declared r n;
          begun = λ _. begun_acted (start_of turn) phases phases [] [] place declared r (first_acted phases place declared r n);
        }) 0 actors runners e.each);
  }

  -- there are no more actors than were declared
  pub entered_few : (actors : List ActorDecl) (i : ℕ) (main : ThePass) (runners : List Runner) → Enters turn (take i actors) main runners → i < length actors → length actors ≤ 256 → length runners ≤ 256
  entered_few actors i main runners e below few =
      let long = each_long (IsNewcomer turn) 0 (take i actors) runners e.each in
      let short = length-take-le i actors (omega (arith, below)) in
      omega (arith, long, short, below, few)
