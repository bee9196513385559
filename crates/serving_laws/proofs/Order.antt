-- Of two requests of an engine the one ended before the other began.
use Rattle.std.proofs.Common.{◌≡◌, ◌<◌, ◌+◌, ◌&&◌, ◌||◌, ℕ, true, false, nat_eq, nat_lt, List, [], ◌∷◌, refl, ◌∙◌, subst, arith}
use Rattle.std.specs.Prelude.{All}
use Rattle.std.proofs.lemmas.Bool.Decides.{nat_tests}
use Rattle.std.proofs.lemmas.List.Elements.{All-cons, All-nil}
use Rattle.script_lang.specs.declared.line.Line.{Line}
use Rattle.script_lang.specs.declared.script.Numbered.{Numbered}
use Rattle.headline.specs.Run.{Told, beside, phased, surely_before}
use Rattle.plfs_types.specs.Places.{IsAmong}
use Rattle.store_api.specs.Acts.{Stored}
use Rattle.store_api.specs.declared.tree.Tree.{Tree}
use Rattle.program_ends.specs.Ends.{Ends}
use Rattle.serve_core.specs.Serving.{each_alone}
use Rattle.serving_laws.specs.Served.{seen_of}
use Rattle.headline.specs.Run.{IsLine}

abbrev IsPlaced : Told → Type 0
IsPlaced t = t.phase ≡ t.place

-- each is a phase by itself
all_placed : (n : ℕ) (asked : List Numbered) (lines : List Line) → All IsPlaced (beside n (phased n (each_alone asked)) lines)
all_placed n [] lines = All-nil IsPlaced
all_placed n (one ∷ later) [] = All-nil IsPlaced
all_placed n (one ∷ later) (line ∷ lines) = All-cons IsPlaced _ _ refl (all_placed (n + 1) later lines)

placed : (t : Told) (lines : List Told) → All IsPlaced lines → IsAmong t lines → IsPlaced t
placed t lines all is = subst IsPlaced (is.3 ∙ is.4) (all is.0 is.1 is.2)

sooner : (s t : Told) → IsPlaced s → IsPlaced t → s.place < t.place → (nat_lt s.place t.place && (false || nat_lt s.phase t.phase || nat_eq s.actor t.actor)) ≡ true
sooner s t s_placed t_placed less =
    let by_place : nat_lt s.place t.place ≡ true = grind (arith, nat_tests) in
    let by_phase : nat_lt s.phase t.phase ≡ true = grind (arith, nat_tests) in
    λ i. by_place i && (false || by_phase i || nat_eq s.actor t.actor)

pub in_order : (host : ℕ) (e : Ends) (asked : List Numbered) (lines : List Line) (left : Stored) (before after : Tree) (s t : Told)
    → IsLine (seen_of host e asked lines before left after) s → IsLine (seen_of host e asked lines before left after) t → s.place < t.place → surely_before (seen_of host e asked lines before left after) s t ≡ true
in_order host e asked lines left before after s t s_is t_is less =
    let run = seen_of host e asked lines before left after in
    let all = all_placed 0 _ lines in
    sooner s t (placed s _ all s_is) (placed t _ all t_is) less
