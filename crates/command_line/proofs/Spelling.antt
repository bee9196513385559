-- What the parser's matches spell.
use Rattle.std.proofs.Common.{◌≡◌, ◌∙◌, refl, sym, ap, ap₂, List, Option, Some, None, option_map, codes}
use Rattle.std.specs.Borrow.{Bor}
use Rattle.clap.specs.Words.{Row, Text, first_value, rows_of, subcommand_name_of, subcommand_rows_of}
use Rattle.clap.specs.declared.parser.matches.ArgMatches.{ArgMatches}
use Rattle.clap.specs.declared.parser.matches.Found.{Found}
use Rattle.clap.proofs.WalkLemmas.{first_value-rows}
use Rattle.command_line.specs.Parser.{listed, spelled}

-- a name and rows, where there are both
abbrev paired : {B : Type 0} → (B → Text) → (B → List Row) → Option B → Option (Text × List Row)
paired f g = option_map (λ b. (f b, g b))

-- of what both are, where each is known by itself
both : {B : Type 0} (f : B → Text) (g : B → List Row) (o : Option B) (name : Text) (rows : List Row) → Some name ≡ option_map f o
    → Some rows ≡ option_map (λ (p : Text × List Row). p.1) (paired f g o) → paired f g o ≡ Some (name, rows)
both f g None name rows named has = cc
both f g (Some b) name rows named has = let one : name ≡ f b = cc in let other : rows ≡ g b = cc in rw (one, other) refl

pub spelled_as : (m : ArgMatches) (verb : Text) (found : Found) (first second : Option (Bor Text)) → Some verb ≡ subcommand_name_of m
    → Some (rows_of found) ≡ option_map (λ (p : Text × List Row). p.1) (subcommand_rows_of m) → option_map (λ s. s.now) first ≡ first_value found (codes "first")
    → option_map (λ s. s.now) second ≡ first_value found (codes "second")
    → spelled (subcommand_rows_of m) ≡ listed verb (option_map (λ s. s.now) first) (option_map (λ s. s.now) second)
spelled_as m verb found first second named has is_first is_second =
    ap spelled (both _ _ _ verb (rows_of found) named has)
    ∙ ap₂ (listed verb) (sym (is_first ∙ first_value-rows found (codes "first"))) (sym (is_second ∙ first_value-rows found (codes "second")))
