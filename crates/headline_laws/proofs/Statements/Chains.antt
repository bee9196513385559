-- The lines of an actor, one after the other: each is the end of its statement, with what the actor keeps.
use Rattle.std.proofs.Common.{◌≡◌, inl, inr, ℕ, List, [], ◌∷◌, ◌++◌, refl, sym, ap, ◌∙◌, subst}
use Rattle.std.specs.Prelude.{◌==◌, Result}
use Rattle.std.proofs.lemmas.List.Elements.{filter-append}
use Rattle.std.proofs.lemmas.List.{append-nil}
use Rattle.mount_model.specs.Process.{asks, ends, pauses, shares, tells}
use Rattle.mount_model.specs.Plays.{Plays, PlaysAll}
use Rattle.mount_model.specs.History.{Event}
use Rattle.mount_model.specs.State.{State}
use Rattle.mount_model.specs.declared.stuck.Stuck.{Stuck}
use Rattle.index_reader.specs.declared.sharing.Share.{Share}
use Rattle.script_lang.specs.declared.line.Line.{Line}
use Rattle.script_lang.specs.declared.script.Numbered.{Numbered}
use Rattle.script_lang.specs.declared.script.Phase.{Phase}
use Rattle.actor_core.specs.declared.kept.Kept.{Kept}
use Rattle.actor_core.specs.Endings.{Ending}
use Rattle.actor_core.specs.Progress.{line_of}
use Rattle.actor_core.specs.Statements.{work_of}
use Rattle.actor_core.specs.Work.{Work}
use Rattle.run_core.specs.Cast.{statements_in}
use Rattle.run_core.specs.Course.{Course, one_by_one, own, then_line, through}
use Rattle.headline_laws.proofs.Statements.Ends.{EndsAs}
use Rattle.headline_laws.proofs.Statements.Does.{Ended, statement_ends}

-- one line for each statement, which ended so, the actor keeping this before the first
abbrev pub Chain : Kept → List Numbered → List Line → Type 0
Chain kept [] lines = lines ≡ []
Chain kept (s ∷ ss) [] = ⊥
Chain kept (s ∷ ss) (line ∷ lines) = (e : Ending) × (line ≡ line_of s.line e) × Ended kept s.statement e × Chain e.kept ss lines

module _ (n : ℕ) where
  -- ---- one statement

  -- the actor told the line of a statement that ended so, and goes on behind it
  pub record ToldOne (P : Ending → Type 0) (number : ℕ) (next : Kept → Course) (lines : List Line) (left : Course) : Type 0 where
    pub e : Ending
    pub more : List Line
    pub part : List Event
    pub workers : List (List Event)
    pub lines_are : lines ≡ line_of number e ∷ more
    pub good : P e
    pub goes_on : Plays n (next e.kept) part workers more left

  told_end : (P : Ending → Type 0) (number : ℕ) (next : Kept → Course) (work : Work) (part : List Event) (workers : List (List Event)) (lines : List Line) (left : Course) → EndsAs P work → Plays n (then_line number next work) part workers lines left → ToldOne P number next lines left
  told_end P number next ends part workers lines left is plays = absurd is
  told_end P number next (pauses work) part workers lines left is plays = absurd is
  told_end P number next (tells e work) part workers lines left is plays = record { e = e; more = plays.0; part = part; workers = workers; lines_are = plays.1; good = is; goes_on = plays.2 }
  told_end P number next (asks q k) part workers lines left is plays = told_end P number next (k plays.call.reply) plays.after workers lines left (is plays.call.reply) plays.goes_on
  told_end P number next (shares programs k alone) part workers lines left is (inl w) = told_end P number next (k w.results) w.after w.later lines left (is.0 w.results) w.goes_on
  told_end P number next (shares programs k alone) part workers lines left is (inr plays) = told_end P number next alone part workers lines left is.1 plays

  -- ---- one phase

  record ToldSome (kept : Kept) (ss : List Numbered) (next : Kept → Course) (lines : List Line) (left : Course) : Type 0 where
    pub after : Kept
    pub told : List Line
    pub more : List Line
    pub part : List Event
    pub workers : List (List Event)
    pub lines_are : lines ≡ told ++ more
    pub goes_on : Plays n (next after) part workers more left
    pub chains : (later : List Numbered) (ls : List Line) → Chain after later ls → Chain kept (ss ++ later) (told ++ ls)

  told_some : (ss : List Numbered) (next : Kept → Course) (kept : Kept) (part : List Event) (workers : List (List Event)) (lines : List Line) (left : Course) → Plays n (one_by_one ss next kept) part workers lines left → ToldSome kept ss next lines left
  told_some [] next kept part workers lines left plays = record { after = kept; told = []; more = lines; part = part; workers = workers; lines_are = refl; goes_on = plays; chains = λ later ls chain. chain }
  told_some (s ∷ ss) next kept part workers lines left plays =
      let t = told_end (Ended kept s.statement) s.line (λ after. one_by_one ss next after) (work_of kept s.statement) part workers lines left (statement_ends kept s.statement) plays in
      let r = told_some ss next t.e.kept t.part t.workers t.more left t.goes_on in
      record {
        after = r.after;
        told = line_of s.line t.e ∷ r.told;
        more = r.more;
        part = r.part;
        workers = r.workers;
        lines_are = t.lines_are ∙ ap (λ ls. line_of s.line t.e ∷ ls) r.lines_are;
        goes_on = r.goes_on;
        chains = λ later ls chain. (t.e, refl, t.good, r.chains later ls chain);
      }

  -- ---- one phase after the other

  own_first : (actor : ℕ) (phase : Phase) (phases : List Phase) → own actor (statements_in (phase ∷ phases)) ≡ own actor phase.statements ++ own actor (statements_in phases)
  own_first actor phase phases = filter-append (λ (s : Numbered). s.actor == actor) phase.statements (statements_in phases)

  tells_none : (blocks : List (List Event)) (workers : List (List Event)) (lines : List Line) → PlaysAll {X = Result Share Stuck} n ends blocks workers lines ends → lines ≡ []
  tells_none [] workers lines plays = plays.1
  tells_none (block ∷ blocks) workers lines p =
      let rest : p.more ≡ [] = tells_none blocks p.later p.more (subst (λ q. PlaysAll n q blocks p.later p.more ends) p.plays.1 p.goes_on) in
      p.lines_are ∙ ap (λ z. z ++ p.more) p.plays.0.no_lines ∙ rest

  phase_chains : (actor : ℕ) (phase : Phase) (phases : List Phase) (kept : Kept) (part : List Event) (these : List (List Event)) (told : List Line) (left : Course) (lines more : List Line) → lines ≡ told ++ more
      → Plays n (through actor (phase ∷ phases) kept) part these told left → ((after : Kept) → left ≡ through actor phases after → Chain after (own actor (statements_in phases)) more) → Chain kept (own actor (statements_in (phase ∷ phases))) lines
  phase_chains actor phase phases kept part these told left lines more are plays later =
      let r = told_some (own actor phase.statements) (λ after. pauses (through actor phases after)) kept part these told left plays in
      let none : r.more ≡ [] = r.goes_on.0.no_lines in
      let all : lines ≡ r.told ++ more = are ∙ ap (λ z. z ++ more) (r.lines_are ∙ ap (λ z. r.told ++ z) none ∙ append-nil r.told) in
      let chain = r.chains (own actor (statements_in phases)) more (later r.after r.goes_on.1) in
      subst (λ ss. Chain kept ss lines) (sym (own_first actor phase phases)) (subst (λ ls. Chain kept (own actor phase.statements ++ own actor (statements_in phases)) ls) (sym all) chain)

  pub through_chains : (actor : ℕ) (phases : List Phase) (blocks : List (List Event)) (kept : Kept) (workers : List (List Event)) (lines : List Line) → PlaysAll n (through actor phases kept) blocks workers lines ends → Chain kept (own actor (statements_in phases)) lines
  through_chains actor [] blocks kept workers lines plays = tells_none blocks workers lines plays
  through_chains actor (phase ∷ phases) [] kept workers lines plays =
      let rests : Plays {S = State} {X = Result Share Stuck} n ends [] [] [] ends = (record { calls = refl; no_workers = refl; no_lines = refl }, refl) in
      phase_chains actor phase phases kept [] [] [] ends lines [] plays.1 (subst (λ (q : Course). Plays {S = State} n q [] [] [] ends) plays.2 rests) (λ after is. through_chains actor phases [] after [] [] (refl, refl, is))
  through_chains actor (phase ∷ phases) (block ∷ blocks) kept workers lines p =
      phase_chains actor phase phases kept block p.these p.told p.left lines p.more p.lines_are p.plays (λ after is. through_chains actor phases blocks after p.later p.more (subst (λ q. PlaysAll n q blocks p.later p.more ends) is p.goes_on))
