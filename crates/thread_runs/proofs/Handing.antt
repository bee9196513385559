-- What the parts of a run give to one another.
use Rattle.std.proofs.Common.{◌≡◌, ℕ, List, ◌++◌, length, take, drop, sym, ap, ◌∙◌, subst}
use Rattle.std.proofs.Math.Seq.{take-append_seam}
use Rattle.std.specs.Prelude.{Result, Ok, Err, IfOk}
use Rattle.script_lang.specs.declared.script.ActorDecl.{ActorDecl}
use Rattle.script_lang.specs.declared.script.Phase.{Phase}
use Rattle.share_workers.specs.Passes.{ThePass, TheTurn}
use Rattle.thread_runs.specs.Runners.{Runner}
use Rattle.thread_runs.specs.Phases.{IsFollower}
use Rattle.thread_runs.specs.Running.{Between}
use Rattle.thread_runs.specs.Collecting.{IsOkWith}
use Rattle.turn_object.specs.Pass.{seen_of}
use Rattle.thread_runs.proofs.Each.{each_long}

pub ok_is : {A E : Type 0} (r : Result A E) (F : A → Type 0) (a : A) → r ≡ Ok a → IfOk r F → F a
ok_is r F a is holds = subst (λ z. IfOk z F) is holds

pub ok_with : {A E : Type 0} (r : Result A E) (F : A → Type 0) (a : A) → r ≡ Ok a → F a → IsOkWith r F
ok_with r F a is holds = subst (λ z. IsOkWith z F) (sym is) holds

-- what holds of an Ok, and that there is one
pub ok_both : {A E : Type 0} (r : Result A E) (F G : A → Type 0) → IfOk r F → IsOkWith r G → (a : A) × F a × G a
ok_both (Ok a) F G f g = (a, f, g)
ok_both (Err e) F G f g = absurd g

module _ {P : Type 0} (turn : TheTurn P) (actors : List ActorDecl) (phases : List Phase) where
  pub actors_long : (left : List Phase) (main : ThePass) (runners : List Runner) → Between turn actors phases left main runners → length runners ≡ length actors
  actors_long left main runners b = each_long (IsFollower turn phases left (seen_of main) b.blocks) 0 actors runners b.each

  -- what is written back of a slice of all actors is all actors
  pub written_back : (left now_left : List Phase) (main now : ThePass) (olds news : List Runner) (len : ℕ) → len ≡ length olds → Between turn actors phases left main olds → Between turn actors phases now_left now news
      → Between turn actors phases now_left now (take len (news ++ drop (length news) olds))
  written_back left now_left main now olds news len is before after =
      let many : len ≡ length news = is ∙ (actors_long left main olds before ∙ sym (actors_long now_left now news after)) in
      let whole : take len (news ++ drop (length news) olds) ≡ news = ap (λ n. take n (news ++ drop (length news) olds)) many ∙ take-append_seam news (drop (length news) olds) in
      subst (λ (z : List Runner). Between turn actors phases now_left now z) (sym whole) after
