-- One line for each statement, in their order.
use Rattle.std.proofs.Common.{◌≡◌, ◌+◌, ℕ, true, false, nat_eq, List, [], ◌∷◌, ◌++◌, length, map, Option, Some, None, refl, sym, ap, ◌∙◌, subst, arith, if◌then◌else◌, slice_get}
use Rattle.std.specs.List.{AllByRecursion}
use Rattle.std.proofs.lemmas.Bool.Decides.{nat_tests}
use Rattle.mount_model.specs.State.{State}
use Rattle.script_lang.specs.declared.line.Line.{Line}
use Rattle.script_lang.specs.declared.script.ActorDecl.{ActorDecl}
use Rattle.script_lang.specs.declared.script.Numbered.{Numbered}
use Rattle.script_lang.specs.declared.script.Phase.{Phase}
use Rattle.script_lang.specs.declared.script.Script.{Script}
use Rattle.run_core.specs.Course.{own}
use Rattle.run_core.specs.Written.{whose}
use Rattle.run_core.specs.Cast.{statements_in}
use Rattle.run_core.specs.Play.{IsRight}
use Rattle.mount_model.specs.Performers.{told_at}
use Rattle.reader_laws.specs.Moments.{Moment}
use Rattle.headline_laws.specs.OneFile.{OneFile}
use Rattle.headline_laws.specs.OneWriter.{OneWriter}
use Rattle.headline_laws.specs.Opening.{Stretch}
use Rattle.headline_laws.specs.Readers.{ReadersShow, ShowsEach}
use Rattle.headline.specs.Run.{Phased, phased}

abbrev numbers : List Line → List ℕ
numbers lines = map (λ (l : Line). l.number) lines

abbrev places : List Numbered → List ℕ
places ss = map (λ (s : Numbered). s.line) ss

each_numbers : (start : Moment) (caller : ℕ) (stretch : Stretch) (file : Option OneFile) (writer : Option OneWriter) (ss : List Numbered) (lines : List Line) → ShowsEach start caller stretch file writer ss lines → numbers lines ≡ places ss
each_numbers start caller stretch file writer [] lines shows = ap (λ ls. numbers ls) shows
each_numbers start caller stretch file writer (s ∷ ss) [] shows = absurd shows
each_numbers start caller stretch file writer (s ∷ ss) (l ∷ lines) (mine, rest, new_file, new_writer, split, number, shows, writes, more) =
    ap (λ n. n ∷ numbers lines) number ∙ ap (λ ns. s.line ∷ ns) (each_numbers start caller (record { before = stretch.before ++ mine; events = rest }) new_file new_writer ss lines more)

first_of : List ℕ → ℕ
first_of [] = 0
first_of (n ∷ ns) = n

rest_of : List ℕ → List ℕ
rest_of [] = []
rest_of (n ∷ ns) = ns

abbrev Agree : ℕ → List Numbered → List Line → Type 0
Agree a ss lines = numbers (told_at a (whose ss) lines) ≡ places (own a ss)

agree_here : (s : Numbered) (ss : List Numbered) (l : Line) (lines : List Line) → Agree s.actor (s ∷ ss) (l ∷ lines) → l.number ≡ s.line
unfolding first_of
agree_here s ss l lines agree =
    let same : nat_eq s.actor s.actor ≡ true = grind (arith, nat_tests) in
    ap first_of (subst (λ b. numbers (if b then l ∷ told_at s.actor (whose ss) lines else told_at s.actor (whose ss) lines) ≡ places (if b then s ∷ own s.actor ss else own s.actor ss)) same agree)

agree_rest : (a : ℕ) (s : Numbered) (ss : List Numbered) (l : Line) (lines : List Line) → Agree a (s ∷ ss) (l ∷ lines) → Agree a ss lines
unfolding rest_of
agree_rest a s ss l lines agree =
    elim (nat_eq s.actor a) as (λ b. numbers (if b then l ∷ told_at a (whose ss) lines else told_at a (whose ss) lines) ≡ places (if b then s ∷ own a ss else own a ss) → Agree a ss lines) [
      | true ↦ λ h. ap rest_of h
      | false ↦ λ h. h
    ] agree

whole : (P : ℕ → Type 0) (ss : List Numbered) (lines : List Line) → length lines ≡ length ss → AllByRecursion (λ (s : Numbered). P s.actor) ss → ((a : ℕ) → P a → Agree a ss lines) → numbers lines ≡ places ss
whole P [] [] long all agree = refl
whole P [] (l ∷ lines) long all agree = absurd (omega (arith, long))
whole P (s ∷ ss) [] long all agree = absurd (omega (arith, long))
whole P (s ∷ ss) (l ∷ lines) long all agree =
    ap (λ n. n ∷ numbers lines) (agree_here s ss l lines (agree s.actor all.0))
    ∙ ap (λ ns. s.line ∷ ns) (whole P ss lines (omega (arith, long)) all.1 (λ a p. agree_rest a s ss l lines (agree a p)))

abbrev lines_of : List Phased → List ℕ
lines_of ss = map (λ (s : Phased). s.is.line) ss

lines_both : (xs ys : List Phased) → lines_of (xs ++ ys) ≡ lines_of xs ++ lines_of ys
lines_both [] ys = refl
lines_both (x ∷ xs) ys = ap (λ ns. x.is.line ∷ ns) (lines_both xs ys)

places_both : (xs ys : List Numbered) → places (xs ++ ys) ≡ places xs ++ places ys
places_both [] ys = refl
places_both (x ∷ xs) ys = ap (λ ns. x.line ∷ ns) (places_both xs ys)

lines_in : (phase : ℕ) (ss : List Numbered) → lines_of (map (λ (s : Numbered). record { phase = phase; is = s }) ss) ≡ places ss
lines_in phase [] = refl
lines_in phase (s ∷ ss) = ap (λ ns. s.line ∷ ns) (lines_in phase ss)

lines_places : (phase : ℕ) (phases : List Phase) → lines_of (phased phase phases) ≡ places (statements_in phases)
lines_places phase [] = refl
lines_places phase (p ∷ phases) =
    lines_both (map (λ (s : Numbered). record { phase = phase; is = s }) p.statements) (phased (phase + 1) phases)
    ∙ ap (λ ns. ns ++ lines_of (phased (phase + 1) phases)) (lines_in phase p.statements)
    ∙ ap (λ ns. places p.statements ++ ns) (lines_places (phase + 1) phases)
    ∙ sym (places_both p.statements (statements_in phases))

abbrev IsDeclared : Script → ℕ → Type 0
IsDeclared script a = (declared : ActorDecl) × (slice_get script.actors a ≡ Some declared)

-- The field `numbered` of the headline, from the law of the lines of a play.
pub numbers_told : (script : Script) (start : Moment) (lines : List Line) (end : State) (right : IsRight script start.state lines end) → ReadersShow script start lines end right
    → AllByRecursion (λ (s : Numbered). (declared : ActorDecl) × (slice_get script.actors s.actor ≡ Some declared)) (statements_in script.phases)
    → map (λ (l : Line). l.number) lines ≡ map (λ (s : Phased). s.is.line) (phased 0 script.phases)
numbers_told script start lines end right show declared =
    whole (IsDeclared script) (statements_in script.phases) lines right.long declared (λ a d.
    let shown = show a d.0 d.1 in
    each_numbers start shown.0.number (record { before = []; events = right.history }) None None (own a (statements_in script.phases)) (told_at a (whose (statements_in script.phases)) lines) shown.2)
    ∙ sym (lines_places 0 script.phases)
