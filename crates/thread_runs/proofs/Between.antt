-- From one phase to the next.
use Rattle.std.proofs.Common.{◌≡◌, ℕ, ◌<◌, List, [], ◌∷◌, ◌++◌, length, sym, ap, ◌∙◌, subst, arith, append_assoc, append-nil}
use Rattle.std.specs.Prelude.{All}
use Rattle.turn_object.specs.History.{StartsWith}
use Rattle.turn_object.specs.Front.{IsLegalFront}
use Rattle.turn_object.specs.Pass.{start_of, front, parts_of, seen_of, IsPassOf}
use Rattle.turn_object.proofs.Facts.{legal_kept}
use Rattle.mount_model.specs.MakesCalls.{one_history}
use Rattle.mount_model.specs.Step.{IsStep}
use Rattle.mount_model.specs.History.{Event}
use Rattle.mount_sound.specs.Owed.{Permits}
use Rattle.script_lang.specs.declared.script.ActorDecl.{ActorDecl}
use Rattle.script_lang.specs.declared.script.Numbered.{Numbered}
use Rattle.script_lang.specs.declared.script.Phase.{Phase}
use Rattle.run_core.specs.Players.{IsMade}
use Rattle.share_workers.specs.Passes.{ThePass, TheTurn}
use Rattle.thread_runs.specs.Parts.{AreParts}
use Rattle.thread_runs.specs.Runners.{Runner, IsReadyFor, Played, EachPlayed}
use Rattle.thread_runs.specs.Each.{EachAt, ChangedTo}
use Rattle.thread_runs.specs.Phases.{Keeps, IsFollower, IsLevel, IsPast, IsGathered, CaughtUp, HandedOver}
use Rattle.thread_runs.specs.Running.{Between}
use Rattle.thread_runs.proofs.Dealing.{made_parts}
use Rattle.thread_runs.proofs.Each.{each_all, each_changed, each_so}
use Rattle.thread_runs.proofs.Phasing.{level_of, ready_level, past_of, gathered_of, follower_of}

joined_more : (blocks : List (List Event)) (block : List Event) → one_history (blocks ++ block ∷ []) ≡ one_history blocks ++ block
joined_more [] block = append-nil block
joined_more (b ∷ blocks) block = ap (λ z. b ++ z) (joined_more blocks block) ∙ sym (append_assoc b (one_history blocks) block)

module _ {P : Type 0} (turn : TheTurn P) (actors : List ActorDecl) (phases left : List Phase) where
  pub passes_before : (main : ThePass) (runners : List Runner) → Between turn actors phases left main runners → All (λ (r : Runner). IsPassOf turn r.pass) runners
  passes_before main runners b = each_all (IsFollower turn phases left (seen_of main) b.blocks) (λ r. IsPassOf turn r.pass) (λ place declared r f. f.pass) 0 actors runners b.each

  pub main_known : (n : ℕ) (m0 m1 : ThePass) → IsLegalFront IsStep Permits (start_of turn) (front m0) → Keeps 0 n m0 m1 → seen_of m1 ≡ seen_of m0 → IsLegalFront IsStep Permits (start_of turn) (front m1)
  main_known n m0 m1 known keeps seen = legal_kept IsStep Permits (start_of turn) (front m0) (front m1) known seen keeps.mine keeps.ended

  pub all_level : (main : ThePass) (olds begun : List Runner) (b : Between turn actors phases left main olds) → ChangedTo (CaughtUp turn (seen_of main)) (length olds) olds begun → EachAt (IsLevel turn phases left (seen_of main) b.blocks) 0 actors begun
  all_level main olds begun b c =
      each_changed (IsFollower turn phases left (seen_of main) b.blocks) (IsLevel turn phases left (seen_of main) b.blocks) (CaughtUp turn (seen_of main)) (λ place declared old new f t. level_of turn phases left (seen_of main) b.blocks place declared old new f t)
      0 actors olds begun c.len c.done b.each

  pub all_ready : (statements : List Numbered) (parts : List (List Numbered)) (main : ThePass) (olds begun : List Runner) → Between turn actors phases left main olds → ChangedTo (CaughtUp turn (seen_of main)) (length olds) olds begun → All IsMade statements → AreParts statements parts → All (IsReadyFor turn parts) begun
  all_ready statements parts main olds begun b c made are =
      each_all (IsLevel turn phases left (seen_of main) b.blocks) (IsReadyFor turn parts) (λ place declared r l. ready_level turn phases left (seen_of main) b.blocks place declared parts r b.fine (made_parts statements parts made are) l) 0 actors begun (all_level main olds begun b c)

module _ {P : Type 0} (turn : TheTurn P) (actors : List ActorDecl) (phases left : List Phase) (phase : Phase) (parts : List (List Numbered)) (are : AreParts phase.statements parts) where
  all_past : (main : ThePass) (olds begun played : List Runner) (b : Between turn actors phases (phase ∷ left) main olds) → ChangedTo (CaughtUp turn (seen_of main)) (length olds) olds begun → EachPlayed turn parts begun played → EachAt (IsPast turn phases left (seen_of main) b.blocks) 0 actors played
  all_past main olds begun played b c p =
      each_changed (IsLevel turn phases (phase ∷ left) (seen_of main) b.blocks) (IsPast turn phases left (seen_of main) b.blocks) (Played turn parts) (λ place declared old new l t. past_of turn phases left phase (seen_of main) b.blocks place declared parts old new are l t)
      0 actors begun played p.len p.each (all_level turn actors phases (phase ∷ left) main olds begun b c)

  pub passes_past : (main : ThePass) (olds begun played : List Runner) → Between turn actors phases (phase ∷ left) main olds → ChangedTo (CaughtUp turn (seen_of main)) (length olds) olds begun → EachPlayed turn parts begun played
      → All (λ (r : Runner). IsPassOf turn r.pass × (1 < parts_of r.pass)) played
  passes_past main olds begun played b c p =
      each_all (IsPast turn phases left (seen_of main) b.blocks) (λ r. IsPassOf turn r.pass × (1 < parts_of r.pass)) (λ place declared r t. (t.pass, let q = t.parts in omega (arith, q))) 0 actors played (all_past main olds begun played b c p)

  pub phase_goes : (m0 m1 m2 : ThePass) (olds begun played gathered : List Runner) → Between turn actors phases (phase ∷ left) m0 olds
      → Keeps 0 (length olds) m0 m1 → seen_of m1 ≡ seen_of m0 → ChangedTo (CaughtUp turn (seen_of m0)) (length olds) olds begun
      → EachPlayed turn parts begun played
      → IsPassOf turn m2 → IsLegalFront IsStep Permits (start_of turn) (front m2) → Keeps (length played) 0 m1 m2 → StartsWith (seen_of m2) (seen_of m1) → ChangedTo (HandedOver turn) (length played) played gathered → All (λ (r : Runner). StartsWith (seen_of m2) (seen_of r.pass)) played
      → Between turn actors phases left m2 gathered
  phase_goes m0 m1 m2 olds begun played gathered b keeps01 seen01 caught each pass2 known2 keeps12 more handed seen =
      let history = seen_of m0 in
      let rest = more.0 in
      let l1 = caught.len in
      let l2 = each.len in
      let l3 = handed.len in
      let whole : seen_of m2 ≡ history ++ rest = more.1 ∙ ap (λ z. z ++ rest) seen01 in
      let R : Runner → Runner → Type 0 = λ old new. HandedOver turn old new × StartsWith (seen_of m2) (seen_of old.pass) in
      let gathers : EachAt (λ place declared r. IsGathered turn phases left history b.blocks place declared (seen_of m2) r) 0 actors gathered =
      each_changed (IsPast turn phases left history b.blocks) (λ place declared r. IsGathered turn phases left history b.blocks place declared (seen_of m2) r) R
      (λ place declared old new p t. gathered_of turn phases left history b.blocks place declared (seen_of m2) old new p t.0 t.1) 0 actors played gathered l3 (λ k d lt. (handed.done k d lt, seen k d lt)) (all_past m0 olds begun played b caught each) in
      let G : List Event → Type 0 = λ z. EachAt (λ place declared r. IsGathered turn phases left history b.blocks place declared z r) 0 actors gathered in
      let F : List Event → Type 0 = λ z. EachAt (IsFollower turn phases left z (b.blocks ++ rest ∷ [])) 0 actors gathered in
      record {
        blocks = b.blocks ++ rest ∷ [];
        fine = b.fine;
        pass = pass2;
        known = known2;
        none = keeps12.mine ∙ (keeps01.mine ∙ b.none);
        no_ended = keeps12.ended ∙ (keeps01.ended ∙ b.no_ended);
        in_phases = whole ∙ (ap (λ z. z ++ rest) b.in_phases ∙ sym (joined_more b.blocks rest));
        parts = let p = b.parts in let q = keeps01.parts in let r = keeps12.parts in omega (arith, p, q, r, l1, l2, l3);
        few = let f = b.few in omega (arith, f, l1, l2, l3);
        each = subst F (sym whole)
            (each_so (λ place declared r. IsGathered turn phases left history b.blocks place declared (history ++ rest) r) (IsFollower turn phases left (history ++ rest) (b.blocks ++ rest ∷ []))
            (λ place declared r g. follower_of turn phases left history b.blocks place declared rest r g) 0 actors gathered (subst G whole gathers));
      }
