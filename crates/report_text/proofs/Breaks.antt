-- The line that bytes break at.
use Rattle.std.proofs.Common.{◌≡◌, ℕ, suc, ◌+◌, ◌<◌, List, [], ◌∷◌, ◌++◌, length, refl, sym, ap, ◌∙◌, arith, append_assoc}
use Rattle.std.specs.Prelude.{All}
use Rattle.std.specs.List.{AllByRecursion}
use Rattle.std.proofs.lemmas.Option.{some_pair_parts}
use Rattle.script_lang.specs.declared.line.Line.{Line}
use Rattle.report_text.specs.Read.{BreaksAtLine}
use Rattle.report_text.specs.Text.{text_of, text_of_line, body_of_line}
use Rattle.report_text.specs.Widths.{IsLine}
use Rattle.report_text.proofs.Begins.{begins, text_not_empty}
use Rattle.report_text.proofs.Texts.{by_recursion}

-- no line's text begins there
abbrev NoneBegins : List ℕ → Type 0
NoneBegins rest = (l : Line) (o : List ℕ) → IsLine l → rest ≡ text_of_line l ++ o → ⊥

-- two lines at the front of the same bytes leave the same
same_behind : (l m : Line) (x y : List ℕ) → IsLine l → IsLine m → text_of_line l ++ x ≡ text_of_line m ++ y → x ≡ y
same_behind l m x y l_fits m_fits is =
    (some_pair_parts (body_of_line l) (body_of_line m) x y (sym (begins (text_of_line l ++ x) l x l_fits refl) ∙ begins (text_of_line l ++ x) m y m_fits is)).1

as_long : (front others : List Line) (rest left : List ℕ) → AllByRecursion IsLine front → AllByRecursion IsLine others → NoneBegins rest → NoneBegins left → text_of front ++ rest ≡ text_of others ++ left → length front ≡ length others
as_long [] [] rest left fits others_fit none none_left is = refl
as_long [] (m ∷ others) rest left fits others_fit none none_left is = absurd (none m (text_of others ++ left) others_fit.0 (is ∙ append_assoc (text_of_line m) (text_of others) left))
as_long (l ∷ front) [] rest left fits others_fit none none_left is = absurd (none_left l (text_of front ++ rest) fits.0 (sym is ∙ append_assoc (text_of_line l) (text_of front) rest))
as_long (l ∷ front) (m ∷ others) rest left fits others_fit none none_left is =
    let joined : text_of_line l ++ (text_of front ++ rest) ≡ text_of_line m ++ (text_of others ++ left) =
    sym (append_assoc (text_of_line l) (text_of front) rest) ∙ is ∙ append_assoc (text_of_line m) (text_of others) left in
    ap suc (as_long front others rest left fits.1 others_fit.1 none none_left (same_behind l m (text_of front ++ rest) (text_of others ++ left) fits.0 others_fit.0 joined))

pub one_break : (bytes : List ℕ) (a b : ℕ) → BreaksAtLine bytes a → BreaksAtLine bytes b → a ≡ b
one_break bytes a b h k =
    let long = as_long h.front k.front h.rest k.rest (by_recursion IsLine h.front h.front_fits) (by_recursion IsLine k.front k.front_fits) h.no_line k.no_line (sym h.parts ∙ k.parts) in
    h.place ∙ ap (λ (n : ℕ). n + 1) long ∙ sym k.place

no_break : (lines front : List Line) (rest : List ℕ) → AllByRecursion IsLine lines → AllByRecursion IsLine front → 0 < length rest → NoneBegins rest → text_of lines ≡ text_of front ++ rest → ⊥
no_break [] [] rest fit front_fits some none is = let empty : length rest ≡ 0 = ap length (sym is) in omega arith
no_break [] (m ∷ front) rest fit front_fits some none is = text_not_empty m (text_of front ++ rest) (ap length (sym (is ∙ append_assoc (text_of_line m) (text_of front) rest)))
no_break (l ∷ lines) [] rest fit front_fits some none is = none l (text_of lines) fit.0 (sym is)
no_break (l ∷ lines) (m ∷ front) rest fit front_fits some none is =
    no_break lines front rest fit.1 front_fits.1 some none (same_behind l m (text_of lines) (text_of front ++ rest) fit.0 front_fits.0 (is ∙ append_assoc (text_of_line m) (text_of front) rest))

pub breaks_nowhere : (lines : List Line) (number : ℕ) → All IsLine lines → BreaksAtLine (text_of lines) number → ⊥
breaks_nowhere lines number fit h = no_break lines h.front h.rest (by_recursion IsLine lines fit) (by_recursion IsLine h.front h.front_fits) h.some_left h.no_line h.parts
