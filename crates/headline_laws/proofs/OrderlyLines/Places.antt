-- Where the lines of an actor stand among all lines.
use Rattle.std.proofs.Common.{◌≡◌, ◌≤◌, ◌+◌, ◌&&◌, ◌||◌, inl, inr, ℕ, Bool, true, false, nat_eq, nat_lt, List, [], ◌∷◌, ◌++◌, map, filter, refl, sym, ap, ◌∙◌, subst, arith, if◌then◌else◌}
use Rattle.std.proofs.lemmas.Bool.Decides.{nat_tests}
use Rattle.script_lang.specs.declared.line.Line.{Line}
use Rattle.script_lang.specs.declared.script.Numbered.{Numbered}
use Rattle.script_lang.specs.declared.script.Phase.{Phase}
use Rattle.run_core.specs.Written.{whose}
use Rattle.run_core.specs.Cast.{statements_in}
use Rattle.headline.specs.Run.{Phased, Run, Told, beside, own, phased, told}
use Rattle.plain_file.proofs.Facts.{Among}

-- whose statements they are
abbrev pub actors : List Phased → List ℕ
actors ss = map (λ (s : Phased). s.is.actor) ss

-- ---- the lines of the actor before one of its own

-- all of these come from this place on, one behind the other
abbrev pub Rise : ℕ → List Told → Type 0
Rise place [] = Unit {0}
Rise place (t ∷ ts) = (place ≤ t.place) × Rise (t.place + 1) ts

pub beside_rise : (place : ℕ) (ss : List Phased) (lines : List Line) → Rise place (beside place ss lines)
beside_rise place [] lines = tt
beside_rise place (s ∷ ss) [] = tt
beside_rise place (s ∷ ss) (l ∷ lines) = (omega arith, beside_rise (place + 1) ss lines)

pub among_later : (place : ℕ) (ts : List Told) (t : Told) → Rise place ts → Among t ts → place ≤ t.place
among_later place [] t rise at = absurd at
among_later place (s ∷ ts) t rise (inl is) = subst (λ z. place ≤ z.place) (sym is) rise.0
among_later place (s ∷ ts) t rise (inr at) = let far : s.place + 1 ≤ t.place = among_later (s.place + 1) ts t rise.1 at in omega (arith, far, rise.0)

module _ (run : Run) (t : Told) where
  abbrev pub sb : Told → Bool
  sb s = nat_lt s.place t.place && (run.in_order || nat_lt s.phase t.phase || nat_eq s.actor t.actor)

  not_and : (a b : Bool) → a ≡ false → (a && b) ≡ false
  not_and a b is = subst (λ z. (z && b) ≡ false) (sym is) refl

  or_last : (a b c : Bool) → c ≡ true → (a || b || c) ≡ true
  or_last true b c is = refl
  or_last false true c is = refl
  or_last false false c is = is

  none_before : (ts : List Told) (place : ℕ) → t.place ≤ place → Rise place ts → filter sb ts ≡ []
  none_before [] place far rise = refl
  none_before (s ∷ ts) place far rise =
      let late : nat_lt s.place t.place ≡ false = let more = rise.0 in grind (arith, nat_tests) in
      let no : sb s ≡ false = not_and (nat_lt s.place t.place) (run.in_order || nat_lt s.phase t.phase || nat_eq s.actor t.actor) late in
      subst (λ b. (if b then s ∷ filter sb ts else filter sb ts) ≡ []) (sym no) (none_before ts (s.place + 1) (omega (arith, far, rise.0)) rise.1)

  pub record Split (ts : List Told) : Type 0 where
    pub rest : List Told
    pub is : own t.actor ts ≡ own t.actor (filter sb ts) ++ t ∷ rest

  own_first : (xs : List Told) → own t.actor (t ∷ xs) ≡ t ∷ own t.actor xs
  own_first xs = let same : nat_eq t.actor t.actor ≡ true = grind (arith, nat_tests) in subst (λ b. (if b then t ∷ own t.actor xs else own t.actor xs) ≡ t ∷ own t.actor xs) (sym same) refl

  pub split_at : (place : ℕ) (ts : List Told) → Rise place ts → Among t ts → Split ts
  split_at place [] rise at = absurd at
  split_at place (s ∷ ts) rise (inl is) =
      subst (λ z. Rise place (z ∷ ts) → Split (z ∷ ts)) is (λ r.
      let late : nat_lt t.place t.place ≡ false = grind (arith, nat_tests) in
      let no : sb t ≡ false = not_and (nat_lt t.place t.place) (run.in_order || nat_lt t.phase t.phase || nat_eq t.actor t.actor) late in
      let none : filter sb (t ∷ ts) ≡ [] = subst (λ b. (if b then t ∷ filter sb ts else filter sb ts) ≡ []) (sym no) (none_before ts (t.place + 1) (omega arith) r.1) in
      record { rest = own t.actor ts; is = own_first ts ∙ sym (ap (λ xs. own t.actor xs ++ t ∷ own t.actor ts) none) }) rise
  split_at place (s ∷ ts) rise (inr at) =
      let more = split_at (s.place + 1) ts rise.1 at in
      let far : s.place + 1 ≤ t.place = among_later (s.place + 1) ts t rise.1 at in
      let soon : nat_lt s.place t.place ≡ true = grind (arith, nat_tests) in
      let here : sb s ≡ (run.in_order || nat_lt s.phase t.phase || nat_eq s.actor t.actor) = subst (λ b. (b && (run.in_order || nat_lt s.phase t.phase || nat_eq s.actor t.actor)) ≡ (run.in_order || nat_lt s.phase t.phase || nat_eq s.actor t.actor)) (sym soon) refl in
      elim (nat_eq s.actor t.actor) as (λ b. nat_eq s.actor t.actor ≡ b → (own_s : own t.actor (s ∷ ts) ≡ (if b then s ∷ own t.actor ts else own t.actor ts)) → ((xs : List Told) → own t.actor (s ∷ xs) ≡ (if b then s ∷ own t.actor xs else own t.actor xs)) → Split (s ∷ ts)) [
        | true ↦ λ own_is o each.
            let yes : sb s ≡ true = here ∙ or_last run.in_order (nat_lt s.phase t.phase) (nat_eq s.actor t.actor) own_is in
            let kept_s : filter sb (s ∷ ts) ≡ s ∷ filter sb ts = subst (λ b. (if b then s ∷ filter sb ts else filter sb ts) ≡ s ∷ filter sb ts) (sym yes) refl in
            record { rest = more.rest; is = o ∙ ap (λ xs. s ∷ xs) more.is ∙ sym (ap (λ xs. xs ++ t ∷ more.rest) (ap (λ xs. own t.actor xs) kept_s ∙ each (filter sb ts))) }
        | false ↦ λ own_is o each.
            let passed : own t.actor (filter sb (s ∷ ts)) ≡ own t.actor (filter sb ts) = elim (sb s) as (λ b. own t.actor (if b then s ∷ filter sb ts else filter sb ts) ≡ own t.actor (filter sb ts)) [
              | true ↦ each (filter sb ts)
              | false ↦ refl
            ] in
            record { rest = more.rest; is = o ∙ more.is ∙ sym (ap (λ xs. xs ++ t ∷ more.rest) passed) }
      ] refl refl (λ xs. refl)

-- the statements of all phases have the actors that they have phase by phase
actors_both : (xs ys : List Phased) → actors (xs ++ ys) ≡ actors xs ++ actors ys
actors_both [] ys = refl
actors_both (x ∷ xs) ys = ap (λ ns. x.is.actor ∷ ns) (actors_both xs ys)

whose_both : (xs ys : List Numbered) → whose (xs ++ ys) ≡ whose xs ++ whose ys
whose_both [] ys = refl
whose_both (x ∷ xs) ys = ap (λ ns. x.actor ∷ ns) (whose_both xs ys)

actors_in : (phase : ℕ) (ss : List Numbered) → actors (map (λ (s : Numbered). record { phase = phase; is = s }) ss) ≡ whose ss
actors_in phase [] = refl
actors_in phase (s ∷ ss) = ap (λ ns. s.actor ∷ ns) (actors_in phase ss)

pub actors_whose : (phase : ℕ) (phases : List Phase) → actors (phased phase phases) ≡ whose (statements_in phases)
actors_whose phase [] = refl
actors_whose phase (p ∷ phases) =
    actors_both (map (λ (s : Numbered). record { phase = phase; is = s }) p.statements) (phased (phase + 1) phases)
    ∙ ap (λ ns. ns ++ actors (phased (phase + 1) phases)) (actors_in phase p.statements)
    ∙ ap (λ ns. whose p.statements ++ ns) (actors_whose (phase + 1) phases)
    ∙ sym (whose_both p.statements (statements_in phases))

-- the statements of all phases are those of each with its phase
is_both : (xs ys : List Phased) → map (λ (s : Phased). s.is) (xs ++ ys) ≡ map (λ (s : Phased). s.is) xs ++ map (λ (s : Phased). s.is) ys
is_both [] ys = refl
is_both (x ∷ xs) ys = ap (λ ns. x.is ∷ ns) (is_both xs ys)

is_in : (phase : ℕ) (ss : List Numbered) → map (λ (s : Phased). s.is) (map (λ (s : Numbered). record { phase = phase; is = s }) ss) ≡ ss
is_in phase [] = refl
is_in phase (s ∷ ss) = ap (λ ns. s ∷ ns) (is_in phase ss)

pub statements_phased : (phase : ℕ) (phases : List Phase) → map (λ (s : Phased). s.is) (phased phase phases) ≡ statements_in phases
statements_phased phase [] = refl
statements_phased phase (p ∷ phases) =
    is_both (map (λ (s : Numbered). record { phase = phase; is = s }) p.statements) (phased (phase + 1) phases)
    ∙ ap (λ ns. ns ++ map (λ (s : Phased). s.is) (phased (phase + 1) phases)) (is_in phase p.statements)
    ∙ ap (λ ns. p.statements ++ ns) (statements_phased (phase + 1) phases)

-- ---- a line of an actor, and those before it

-- the lines of its actor are those before it, it, and further ones
pub own_split : (run : Run) (t : Told) → Among t (told run) → Split run t (told run)
own_split run t at = split_at run t 0 (told run) (beside_rise 0 (phased 0 run.script.phases) run.lines) at

-- each line beside a statement is one of the lines
pub line_of : (place : ℕ) (ss : List Phased) (lines : List Line) (t : Told) → Among t (beside place ss lines) → (l : Line) × Among l lines × (l.outcome ≡ t.outcome)
line_of place [] lines t at = absurd at
line_of place (s ∷ ss) [] t at = absurd at
line_of place (s ∷ ss) (l ∷ lines) t (inl is) = (l, inl refl, sym (ap (λ (z : Told). z.outcome) is))
line_of place (s ∷ ss) (l ∷ lines) t (inr at) = let more = line_of (place + 1) ss lines t at in (more.0, inr more.1, more.2)
