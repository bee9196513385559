-- Each line that tells of a refusal has one of its statement's reasons, and what ends too far is neither made nor refused for want of a stamp.
use Rattle.std.proofs.Common.{◌≡◌, ◌⊎◌, inl, inr, ℕ, List, [], ◌++◌, Some, refl, sym, ◌∙◌, subst}
use Rattle.mount_model.specs.History.{Event}
use Rattle.mount_model.specs.State.{State}
use Rattle.mount_sound.specs.Owed.{IsLawful}
use Rattle.reader_laws.specs.Moments.{IsSoundAt, Moment, moment_after}
use Rattle.reader_laws.proofs.Gathered.Facts.{legal_first, legal_rest, sound_after}
use Rattle.script_lang.specs.Ranges.{FitsScript}
use Rattle.script_lang.specs.declared.line.Outcome.{Outcome}
use Rattle.script_lang.specs.declared.line.Outcome.TheVariants as line
use Rattle.script_lang.specs.declared.line.Why.{Why}
use Rattle.script_lang.specs.declared.line.Why.TheVariants as why_is
use Rattle.script_lang.specs.declared.script.Statement.{Statement}
use Rattle.script_lang.specs.declared.script.Statement.TheVariants as say
use Rattle.actor_core.specs.declared.kept.Kept.{Kept}
use Rattle.actor_core.specs.Statements.{disarmed}
use Rattle.run_core.specs.Play.{IsRight}
use Rattle.headline_laws.proofs.Plays.Facts.{Next, next_first}
use Rattle.headline.specs.Run.{IsLine, Run, Says, Told}
use Rattle.headline.specs.Causes.{EndsTooFar}
use Rattle.headline.specs.Reasons.{HadPlace, HasReasons, IsReasonOf}
use Rattle.headline.specs.Refusals.{HasRefusals, UsesReader}
use Rattle.headline_laws.proofs.Landed.Machines.{alive_does, greets}
use Rattle.headline_laws.proofs.Reasons.Statements.{FarIf, IsShownHere, ShowsReason, does_show}
use Rattle.headline_laws.proofs.Statements.Does.{Ended, did, was_gone}
use Rattle.headline_laws.proofs.Story.Lines.{chain_of, whole_history}
use Rattle.headline_laws.proofs.Story.Parts.{PartOf}
use Rattle.headline_laws.proofs.Story.Refused.{refusals_told, stands_here}
use Rattle.headline_laws.proofs.Story.Shown.{here_next}

-- ---- statements of a reader

uses_kind : (s : Statement) (why : Why) → UsesReader s → why ≡ why_is.NotOpen → IsReasonOf s why
uses_kind (say.Read at len) why uses is = subst (IsReasonOf (say.Read at len)) (sym is) tt
uses_kind (say.Verify at content) why uses is = subst (IsReasonOf (say.Verify at content)) (sym is) tt
uses_kind say.Map why uses is = subst (IsReasonOf say.Map) (sym is) tt
uses_kind say.Refresh why uses is = subst (IsReasonOf say.Refresh) (sym is) tt
uses_kind say.Rclose why uses is = subst (IsReasonOf say.Rclose) (sym is) tt
uses_kind s why uses is = absurd uses

opens_kind : (name : List ℕ) (workers : ℕ) (why : Why) (A : Type 0) → (why ≡ why_is.NoFile) ⊎ ((why ≡ why_is.AlreadyOpen) × A) → IsReasonOf (say.Ropen name workers) why
opens_kind name workers why A (inl is) = subst (IsReasonOf (say.Ropen name workers)) (sym is) tt
opens_kind name workers why A (inr is) = subst (IsReasonOf (say.Ropen name workers)) (sym is.0) tt

-- ---- a line in its part

module _ (m : Moment) (sound : IsSoundAt m) (n : ℕ) (history : List Event) (blocks : List (List Event)) (whole : Next m [] history) (kept : Kept) (t : Told) (p : PartOf n history blocks kept t.phase t.statement) where
  shows_here : IsShownHere t.statement → ShowsReason t.statement p.e.outcome
  shows_here here = by p.ended
    where
      now : Moment
      now = moment_after m p.earlier

      next : Next m p.earlier p.mine
      next = next_first m p.earlier p.mine p.later (here_next m sound n history blocks whole p.earlier p.mine p.later p.split)

      none_said : (s : Statement) → ShowsReason s line.Gone
      none_said s = tt

      by : Ended kept t.statement p.e → ShowsReason t.statement p.e.outcome
      by (was_gone is over after) = subst (ShowsReason t.statement) (sym over) (none_said t.statement)
      by (did alive d) =
          let g = greets n kept t.statement p.mine p.spent p.e p.comes in
          let both : IsLawful now.state (g.first ++ g.rest) = subst (IsLawful now.state) g.all next.lawful in
          let first : IsLawful now.state g.first = legal_first now g.first g.rest both in
          does_show n (disarmed g.left) g.left.armed (moment_after now g.first) g.rest p.spent p.e (sound_after now g.first first next.sound) (legal_rest now g.first g.rest both) t.statement here (alive_does n g.left t.statement g.rest p.spent p.e (g.gone_is ∙ alive) g.comes)

-- ---- the law

module _ (run : Run) (m : Moment) (end : State) (fits : FitsScript run.script) (sound : IsSoundAt m) (right : IsRight run.script m.state run.lines end) where
  shown : (t : Told) → IsLine run t → IsShownHere t.statement → ShowsReason t.statement t.outcome
  shown t is_line here =
      let l = stands_here run m end fits sound right t is_line in
      subst (ShowsReason t.statement) (sym l.says) (shows_here m sound (chain_of run m end fits sound right t is_line).parts.number right.history right.calls.blocks (whole_history run m end fits sound right) l.kept t l.part here)

  refusals : HasRefusals run
  refusals = refusals_told run m end fits sound right

  kinds_told : (t : Told) (why : Why) → Says run t (line.Refused why) → IsReasonOf t.statement why
  kinds_told t why says = by t.statement refl
    where
      mine : (s : Statement) → t.statement ≡ s → IsShownHere s → IsReasonOf s why
      mine s is here = subst (λ x. IsReasonOf x why) is (subst (ShowsReason t.statement) says.says (shown t says.is_line (subst IsShownHere (sym is) here))).kind

      reads : (s : Statement) → t.statement ≡ s → UsesReader s → IsReasonOf s why
      reads s is uses = uses_kind s why uses (refusals.uses t why says (subst UsesReader (sym is) uses)).0

      by : (s : Statement) → t.statement ≡ s → IsReasonOf t.statement why
      by s is = subst (λ x. IsReasonOf x why) (sym is) (of s is)
        where
          of : (s : Statement) → t.statement ≡ s → IsReasonOf s why
          of (say.Open name) is = mine (say.Open name) is tt
          of (say.Write at content) is = mine (say.Write at content) is tt
          of say.Sync is = mine say.Sync is tt
          of say.Close is = mine say.Close is tt
          of (say.Ropen name workers) is = opens_kind name workers why _ (refusals.opens t name workers why says is)
          of (say.Read at len) is = reads (say.Read at len) is tt
          of (say.Verify at content) is = reads (say.Verify at content) is tt
          of say.Map is = reads say.Map is tt
          of say.Refresh is = reads say.Refresh is tt
          of say.Rclose is = reads say.Rclose is tt
          of (say.Stat name) is = mine (say.Stat name) is tt
          of (say.Flatten name) is = mine (say.Flatten name) is tt
          of (say.Recover name) is = mine (say.Recover name) is tt
          of (say.Trunc name size) is = mine (say.Trunc name size) is tt
          of (say.Rename name to) is = mine (say.Rename name to) is tt
          of say.Ls is = mine say.Ls is tt
          of (say.Stop call bytes) is = mine (say.Stop call bytes) is tt

  -- what ends at all
  ends_here : (s : Statement) → EndsTooFar s → IsShownHere s
  ends_here (say.Write at content) far = tt
  ends_here (say.Trunc name size) far = tt
  ends_here s far = absurd far

  placed : (s : Statement) (o : Outcome) → HadPlace o → ShowsReason s o → EndsTooFar s → ⊥
  placed s (line.Wrote at len (Some stamp)) had shows = shows
  placed s (line.Truncated stamp) had shows = shows
  placed s (line.Refused why_is.StampsSpent) had shows = shows.near refl
  placed s o had shows = absurd had

  -- the law of this file
  pub reasons_told : HasReasons run
  reasons_told = record {
    kinds = kinds_told;
    within = λ t is_line had far. placed t.statement t.outcome had (shown t is_line (ends_here t.statement far)) far;
    far = λ t name size says is.
        let shows = shown t says.is_line (subst IsShownHere (sym is) tt) in
        let far_so = (subst (ShowsReason t.statement) says.says shows).far refl in
        far_is t.statement name size is far_so;
  }
    where
      far_is : (s : Statement) (name : List ℕ) (size : ℕ) → s ≡ say.Trunc name size → FarIf s → EndsTooFar s
      far_is s name size is far = subst (λ x. EndsTooFar x) (sym is) (subst FarIf is far)
