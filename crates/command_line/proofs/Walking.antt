-- What a walk makes of words that are no options: a verb stops it, and every other word is an operand.
use Rattle.std.proofs.Common.{◌≡◌, ◌∙◌, ◌++◌, ◌&&◌, ℕ, Bool, true, false, refl, sym, ap, append-nil, append_assoc, List, [], ◌∷◌, Some, None}
use Rattle.std.specs.Prelude.{if◌then◌else◌, option_and_then}
use Rattle.clap.specs.Lexer.{long_of, long_of_rest, short_of, short_of_rest, strip_byte}
use Rattle.std.specs.List.{fold}
use Rattle.std.specs.Str.{bytes_eq}
use Rattle.clap.specs.Words.{Rule, Shape, Text}
use Rattle.clap.specs.Faults.{step_fault, turn_fault, walk_fault}
use Rattle.clap.specs.Walk.{Held, Names, Walk, arg_by_index, idle, nothing_held, subcommand_met, to_positional, value, walked}
use Rattle.command_line.specs.Options.{is_option}

-- a walk that still looks for operands, and one that has met a subcommand
abbrev pub looking : Held → ℕ → Walk
looking held position = record { held = held; waiting = idle; position = position; is_trailing = false; stopped = None }

abbrev pub met : Text → List Text → Walk
met name words = record (looking nothing_held 1) { stopped = Some (name, words) }

-- ---- operands

no_hyphen : (word : Text) → is_option word ≡ false → strip_byte 45 word ≡ None
no_hyphen [] plain = refl
no_hyphen (x ∷ xs) plain = ap (λ b. if b then Some xs else None) plain

no_long : (word : Text) → is_option word ≡ false → long_of word ≡ None
no_long word plain = ap (λ o. option_and_then long_of_rest (option_and_then (strip_byte 45) o)) (no_hyphen word plain)

no_short : (word : Text) → is_option word ≡ false → short_of word ≡ None
no_short word plain = ap (option_and_then short_of_rest) (no_hyphen word plain)

no_dashes : (word : Text) → is_option word ≡ false → bytes_eq word (45 ∷ 45 ∷ []) ≡ false
no_dashes [] plain = refl
no_dashes (x ∷ xs) plain = ap (λ b. b && bytes_eq xs (45 ∷ [])) plain

pub turn_on : (s : Shape) (names : Names) (held : Held) (position : ℕ) (word : Text) → is_option word ≡ false → subcommand_met names idle word ≡ None
    → turn_fault s names (looking held position) word ≡ step_fault s position held value
turn_on s names held position word plain other =
    let dashes = no_dashes word plain in let long = no_long word plain in let short = no_short word plain in rw (other, dashes, long, short) refl

pub walk_on : (rules : List Rule) (names : Names) (held : Held) (position : ℕ) (word : Text) → is_option word ≡ false → subcommand_met names idle word ≡ None
    → walked rules names (looking held position) word ≡ to_positional rules (arg_by_index rules position) word (looking held position) held
unfolding walked
walk_on rules names held position word plain other =
    let dashes = no_dashes word plain in let long = no_long word plain in let short = no_short word plain in rw (other, dashes, long, short) refl

-- ---- subcommands

or_right : (b : Bool) → (b && false) ≡ false
or_right true = refl
or_right false = refl

pub turn_met : (s : Shape) (names : Names) (word name : Text) → s.disable_help_subcommand ≡ true → subcommand_met names idle word ≡ Some name
    → turn_fault s names (looking nothing_held 1) word ≡ []
turn_met s names word name no_help is = rw (is, no_help, or_right) refl

pub walk_met : (rules : List Rule) (names : Names) (word name : Text) → subcommand_met names idle word ≡ Some name
    → walked rules names (looking nothing_held 1) word ≡ met name []
unfolding walked
walk_met rules names word name is = rw is refl

pub walk_behind : (rules : List Rule) (names : Names) (name : Text) (front words : List Text) → fold (walked rules names) (met name front) words ≡ met name (front ++ words)
unfolding walked
walk_behind rules names name front [] = ap (met name) (sym (append-nil front))
walk_behind rules names name front (word ∷ words) = walk_behind rules names name (front ++ word ∷ []) words ∙ ap (met name) (append_assoc front (word ∷ []) words)

pub turns_behind : (s : Shape) (names : Names) (name : Text) (front words : List Text) → walk_fault s names (met name front) words ≡ []
unfolding walk_fault walked
turns_behind s names name front [] = refl
turns_behind s names name front (word ∷ words) = turns_behind s names name (front ++ word ∷ []) words
