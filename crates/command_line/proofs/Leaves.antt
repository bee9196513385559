-- Which words a subcommand takes: just as many as it has operands.
use Rattle.std.proofs.Common.{◌≡◌, ◌≢◌, ◌∙◌, ℕ, Bool, true, false, refl, sym, ap, ap₂, List, [], ◌∷◌, Some, None, codes}
use Rattle.clap.specs.Words.{Kinds, Rule, Shape, Text}
use Rattle.clap.specs.Kinds.{or_else}
use Rattle.clap.specs.Faults.{check_fault, defaults_fault, level_fault, settle_fault, step_fault, walk_fault}
use Rattle.clap.specs.Simple.{filled, new_shape, rows_at, with_index}
use Rattle.clap.specs.Walk.{Held, Names, Walk, finished, idle, nothing_held, settled, subcommand_met, value, walk, walked}
use Rattle.clap.specs.declared.error.kind.ErrorKind.{ErrorKind}
use Rattle.clap.specs.declared.error.kind.ErrorKind.TheVariants as kind
use Rattle.clap.proofs.OnLiterals.{clap_on_literals}
use Rattle.command_line.specs.Options.{is_option}
use Rattle.command_line.specs.Parser.{operand, spelled}
use Rattle.command_line.proofs.Walking.{looking, turn_on, walk_on}

-- how many operands a command has
pub data Operands : Type 0 where
  bare : Operands
  one : Operands
  two : Operands

abbrev pub first_rule : Rule
first_rule = with_index 1 (filled (operand (codes "first")))

abbrev pub second_rule : Rule
second_rule = with_index 2 (filled (operand (codes "second")))

abbrev pub rules_for : Operands → List Rule
rules_for bare = []
rules_for one = first_rule ∷ []
rules_for two = first_rule ∷ second_rule ∷ []

-- the subcommand of a verb, as it is built
abbrev pub leaf : Text × Operands → Shape
leaf verb = record (new_shape verb.0) { rules = rules_for verb.1; no_binary_name = true; disable_help_flag = true; disable_help_subcommand = true; is_built = true }

-- the words are as many as the operands
abbrev pub Fill : Operands → List Text → Type 0
Fill bare [] = Unit {0}
Fill bare (a ∷ more) = ⊥
Fill one [] = ⊥
Fill one (a ∷ []) = Unit {0}
Fill one (a ∷ b ∷ more) = ⊥
Fill two [] = ⊥
Fill two (a ∷ []) = ⊥
Fill two (a ∷ b ∷ []) = Unit {0}
Fill two (a ∷ b ∷ c ∷ more) = ⊥

-- no word is an option
abbrev pub AreOperands : List Text → Type 0
AreOperands [] = Unit {0}
AreOperands (word ∷ words) = (is_option word ≡ false) × AreOperands words

-- a level's fault by its walk, and what its turns and the level below it have
abbrev pub end_fault : Shape → Bool → Kinds → Walk → Kinds → Kinds
end_fault s has below w turns =
    or_else turns
    (or_else below (or_else (settle_fault s.rules s.args_override_self w.held)
    (or_else (defaults_fault (settled s.rules w.held).rows s.rules) (check_fault s (finished s.rules w.held) has))))

abbrev pub leaf_fault : Text × Operands → List Text → Kinds
leaf_fault verb words = level_fault (leaf verb) [] nothing_held words false []

-- what is held after one operand, and after two
abbrev after_one : Text → Held
after_one a = record nothing_held { pending = Some (codes "first", a ∷ []) }

abbrev after_two : Text → Text → Held
after_two a b = record (settled (rules_for two) (after_one a)) { pending = Some (codes "second", b ∷ []) }

or_else-nil : (turn rest : Kinds) → turn ≡ [] → or_else turn rest ≡ rest
or_else-nil turn rest is = rw is refl

walk_one : (a : Text) → is_option a ≡ false → walk (rules_for one) [] nothing_held (a ∷ []) ≡ looking (after_one a) 2
unfolding clap_on_literals
walk_one a plain = walk_on (rules_for one) [] nothing_held 1 a plain refl

turns_one : (name a : Text) → is_option a ≡ false → walk_fault (leaf (name, one)) [] (looking nothing_held 1) (a ∷ []) ≡ []
unfolding clap_on_literals
turns_one name a plain = or_else-nil _ _ (turn_on (leaf (name, one)) [] nothing_held 1 a plain refl)

walk_two : (a b : Text) → is_option a ≡ false → is_option b ≡ false → walk (rules_for two) [] nothing_held (a ∷ b ∷ []) ≡ looking (after_two a b) 3
unfolding clap_on_literals
walk_two a b plain_a plain_b =
    ap (λ w. walked (rules_for two) [] w b) (walk_on (rules_for two) [] nothing_held 1 a plain_a refl)
    ∙ walk_on (rules_for two) [] (after_one a) 2 b plain_b refl

turns_two : (name a b : Text) → is_option a ≡ false → is_option b ≡ false → walk_fault (leaf (name, two)) [] (looking nothing_held 1) (a ∷ b ∷ []) ≡ []
unfolding clap_on_literals
turns_two name a b plain_a plain_b =
    or_else-nil _ _ (turn_on (leaf (name, two)) [] nothing_held 1 a plain_a refl)
    ∙ ap (λ w. walk_fault (leaf (name, two)) [] w (b ∷ [])) (walk_on (rules_for two) [] nothing_held 1 a plain_a refl)
    ∙ or_else-nil _ _ (turn_on (leaf (name, two)) [] (after_one a) 2 b plain_b refl)

-- words that fill the operands are taken
pub leaf_takes : (verb : Text × Operands) (words : List Text) → AreOperands words → Fill verb.1 words → leaf_fault verb words ≡ []
unfolding clap_on_literals
leaf_takes (name, bare) [] plain fill = refl
leaf_takes (name, bare) (a ∷ more) plain fill = absurd fill
leaf_takes (name, one) [] plain fill = absurd fill
leaf_takes (name, one) (a ∷ []) plain fill = ap₂ (end_fault (leaf (name, one)) false []) (walk_one a plain.0) (turns_one name a plain.0)
leaf_takes (name, one) (a ∷ b ∷ more) plain fill = absurd fill
leaf_takes (name, two) [] plain fill = absurd fill
leaf_takes (name, two) (a ∷ []) plain fill = absurd fill
leaf_takes (name, two) (a ∷ b ∷ []) plain fill = ap₂ (end_fault (leaf (name, two)) false []) (walk_two a b plain.0 plain.1.0) (turns_two name a b plain.0 plain.1.0)
leaf_takes (name, two) (a ∷ b ∷ c ∷ more) plain fill = absurd fill

or_else-cons : (kind : ErrorKind) (kinds turn rest : Kinds) → turn ≡ kind ∷ kinds → or_else turn rest ≡ kind ∷ kinds
or_else-cons kind kinds turn rest is = rw is refl

-- a level whose turns fail, fails
faulty : (s : Shape) (has : Bool) (below : Kinds) (w : Walk) (turns : Kinds) (kind : ErrorKind) (kinds : Kinds) → turns ≡ kind ∷ kinds → end_fault s has below w turns ≢ []
faulty s has below w turns kind kinds is none = let bad : kind ∷ kinds ≡ [] = sym (or_else-cons kind kinds turns _ is) ∙ none in cc

-- a level fails at the first word that is no operand
pub stray : (s : Shape) (names : Names) (has : Bool) (below : Kinds) (w : Walk) (held : Held) (position : ℕ) (word : Text) (more : List Text) (kind : ErrorKind) (kinds : Kinds)
    → is_option word ≡ false → subcommand_met names idle word ≡ None → step_fault s position held value ≡ kind ∷ kinds
    → end_fault s has below w (walk_fault s names (looking held position) (word ∷ more)) ≢ []
unfolding walk_fault
stray s names has below w held position word more kind kinds plain other is =
    faulty s has below w _ kind kinds (or_else-cons kind kinds _ _ (turn_on s names held position word plain other ∙ is))

-- words that are taken fill the operands
pub leaf_filled : (verb : Text × Operands) (words : List Text) → AreOperands words → leaf_fault verb words ≡ [] → Fill verb.1 words
unfolding clap_on_literals
leaf_filled (name, bare) [] plain none = tt
leaf_filled (name, bare) (a ∷ more) plain none =
    absurd (stray (leaf (name, bare)) [] false [] (walk [] [] nothing_held (a ∷ more)) nothing_held 1 a more kind.UnknownArgument [] plain.0 refl refl none)
leaf_filled (name, one) [] plain none = cc
leaf_filled (name, one) (a ∷ []) plain none = tt
leaf_filled (name, one) (a ∷ b ∷ more) plain none =
    let end = walk (rules_for one) [] nothing_held (a ∷ b ∷ more) in
    let turns = or_else-nil _ _ (turn_on (leaf (name, one)) [] nothing_held 1 a plain.0 refl)
    ∙ ap (λ w. walk_fault (leaf (name, one)) [] w (b ∷ more)) (walk_on (rules_for one) [] nothing_held 1 a plain.0 refl) in
    absurd (stray (leaf (name, one)) [] false [] end (after_one a) 2 b more kind.UnknownArgument [] plain.1.0 refl refl (sym (ap (end_fault (leaf (name, one)) false [] end) turns) ∙ none))
leaf_filled (name, two) [] plain none = cc
leaf_filled (name, two) (a ∷ []) plain none =
    let turns = or_else-nil _ _ (turn_on (leaf (name, two)) [] nothing_held 1 a plain.0 refl) in
    let walks = walk_on (rules_for two) [] nothing_held 1 a plain.0 refl in
    let bad : kind.MissingRequiredArgument ∷ [] ≡ [] = sym (ap₂ (end_fault (leaf (name, two)) false []) walks turns) ∙ none in
    cc
leaf_filled (name, two) (a ∷ b ∷ []) plain none = tt
leaf_filled (name, two) (a ∷ b ∷ c ∷ more) plain none =
    let end = walk (rules_for two) [] nothing_held (a ∷ b ∷ c ∷ more) in
    let turns = or_else-nil _ _ (turn_on (leaf (name, two)) [] nothing_held 1 a plain.0 refl)
    ∙ ap (λ w. walk_fault (leaf (name, two)) [] w (b ∷ c ∷ more)) (walk_on (rules_for two) [] nothing_held 1 a plain.0 refl)
    ∙ or_else-nil _ _ (turn_on (leaf (name, two)) [] (after_one a) 2 b plain.1.0 refl)
    ∙ ap (λ w. walk_fault (leaf (name, two)) [] w (c ∷ more)) (walk_on (rules_for two) [] (after_one a) 2 b plain.1.0 refl) in
    absurd (stray (leaf (name, two)) [] false [] end (after_two a b) 3 c more kind.UnknownArgument [] plain.1.1.0 refl refl (sym (ap (end_fault (leaf (name, two)) false [] end) turns) ∙ none))

-- the rows of words that fill the operands spell them
pub leaf_spells : (verb : Text × Operands) (words : List Text) → AreOperands words → Fill verb.1 words → spelled (Some (rows_at (leaf verb) words)) ≡ verb.0 ∷ words
unfolding clap_on_literals
leaf_spells (name, bare) [] plain fill = refl
leaf_spells (name, bare) (a ∷ more) plain fill = absurd fill
leaf_spells (name, one) [] plain fill = absurd fill
leaf_spells (name, one) (a ∷ []) plain fill = ap (λ w. spelled (Some (name, finished (rules_for one) w.held))) (walk_one a plain.0)
leaf_spells (name, one) (a ∷ b ∷ more) plain fill = absurd fill
leaf_spells (name, two) [] plain fill = absurd fill
leaf_spells (name, two) (a ∷ []) plain fill = absurd fill
leaf_spells (name, two) (a ∷ b ∷ []) plain fill = ap (λ w. spelled (Some (name, finished (rules_for two) w.held))) (walk_two a b plain.0 plain.1.0)
leaf_spells (name, two) (a ∷ b ∷ c ∷ more) plain fill = absurd fill
