-- Lines at the front of bytes.
use Rattle.std.proofs.Common.{◌≡◌, ℕ, ◌+◌, ◌<◌, List, [], ◌∷◌, ◌++◌, length, Option, Some, Err, refl, sym, ap, ◌∙◌, arith, append_assoc, append-nil, Bor}
use Rattle.std.specs.Prelude.{All}
use Rattle.std.specs.List.{AllByRecursion}
use Rattle.std.proofs.lemmas.List.{length-append}
use Rattle.std.proofs.lemmas.List.Concat.{flat_map-append}
use Rattle.std.proofs.lemmas.List.Elements.{All-nil, All-push}
use Rattle.std.proofs.lemmas.Option.{none-some}
use Rattle.report_text.specs.Read.{BreaksAtLine}
use Rattle.report_text.proofs.Texts.{by_recursion}
use Rattle.script_lang.specs.declared.line.Line.{Line}
use Rattle.report_text.specs.declared.trouble.Trouble.{Trouble}
use Rattle.report_text.specs.declared.trouble.Trouble.TheVariants.{Bad, NoMemory}
use Rattle.report_text.specs.Text.{text_of, text_of_line, body_of_line}
use Rattle.report_text.specs.Widths.{IsLine}
use Rattle.report_text.specs.Reading.{OnlyGives, FailsAsText, cut}
use Rattle.report_text.proofs.Cuts.{cut-at}
use Rattle.report_text.proofs.Lines.{body_avoids_feed}

-- where a line's text begins, the bytes are cut behind it
pub begins : (bytes : List ℕ) (line : Line) (others : List ℕ) → IsLine line → bytes ≡ text_of_line line ++ others → cut 10 bytes ≡ Some (body_of_line line, others)
begins bytes line others h is = ap (cut 10) (is ∙ append_assoc (body_of_line line) (10 ∷ []) others) ∙ cut-at 10 (body_of_line line) others (body_avoids_feed line h)

-- what is left of lines once some were read
pub record Continues (read : List Line) (rest : List ℕ) (all : List Line) : Type 0 where
  pub more : List Line
  pub joined : all ≡ read ++ more
  pub more_fit : AllByRecursion IsLine more
  pub left : rest ≡ text_of more

-- an error where something is read is want of memory
pub err_only : {X Y Z : Type 0} (view : X → Y) (e : Trouble) (read : Option Z) (z : Z) (y : Y) → read ≡ Some z → FailsAsText e read → OnlyGives view (Err e) y
err_only view Bad read z y is bad = absurd (none-some z (sym bad ∙ is))
err_only view NoMemory read z y is bad = tt

pub err_passes : {X Y V W : Type 0} (view : X → Y) (seen : V → W) (e : Trouble) (y : Y) (w : W) → OnlyGives view (Err e) y → OnlyGives seen (Err e) w
err_passes view seen Bad y w h = absurd h
err_passes view seen NoMemory y w h = tt

pub never_bad : {X Y : Type 0} (view : X → Y) (e : Trouble) (y : Y) → e ≡ Bad → OnlyGives view (Err e) y → ⊥
never_bad view Bad y is h = h
never_bad view NoMemory y is h = cc

abbrev pub seen : Line × Bor (List ℕ) → Line × List ℕ
seen q = (q.0, q.1.now)

pub text_not_empty : (line : Line) (others : List ℕ) → length (text_of_line line ++ others) ≡ 0 → ⊥
text_not_empty line others e = omega (arith, length-append (text_of_line line) others, length-append (body_of_line line) (10 ∷ []))

-- how far the lines of the bytes were read
pub record Progress (bytes : List ℕ) (lines : List Line) (rest : List ℕ) : Type 0 where
  pub parts : bytes ≡ text_of lines ++ rest
  pub fit : All IsLine lines
  pub continues : (all : List Line) → AllByRecursion IsLine all → bytes ≡ text_of all → Continues lines rest all

pub progress_starts : (bytes : List ℕ) → Progress bytes [] bytes
progress_starts bytes = record { parts = refl; fit = All-nil IsLine; continues = λ all h is. record { more = all; joined = refl; more_fit = h; left = is } }

abbrev pub LineAndRest : Type 0
LineAndRest = Line × List ℕ

abbrev pub Same : Line → List ℕ → Line → List ℕ → Type 0
Same a x b y = (a ≡ b) × (x ≡ y)

abbrev pub pair_of : Line → List ℕ → LineAndRest
pair_of line rest = (line, rest)

pub both_same : (a : Line) (x : List ℕ) (b : Line) (y : List ℕ) → pair_of a x ≡ pair_of b y → Same a x b y
both_same a x b y e = (ap (λ (p : LineAndRest). p.0) e, ap (λ (p : LineAndRest). p.1) e)

pub pair_same : (a : Line) (x : List ℕ) (b : Line) (y : List ℕ) → a ≡ b → x ≡ y → pair_of a x ≡ pair_of b y
pair_same a x b y e f = cc

goes_on : (lines : List Line) (rest : List ℕ) (line : Line) (others : List ℕ) (all more : List Line) → ((l : Line) (o : List ℕ) → IsLine l → rest ≡ text_of_line l ++ o → Same line others l o) → 0 < length rest
    → all ≡ lines ++ more → AllByRecursion IsLine more → rest ≡ text_of more → Continues (lines ++ line ∷ []) others all
goes_on lines rest line others all [] only some joined fit left = absurd (let none : length rest ≡ 0 = ap length left in omega arith)
goes_on lines rest line others all (l ∷ more) only some joined fit left =
    let same = only l (text_of more) fit.0 left in
    record { more = more; joined = joined ∙ sym (append_assoc lines (l ∷ []) more) ∙ ap (λ (x : Line). (lines ++ x ∷ []) ++ more) (sym same.0); more_fit = fit.1; left = same.1 }

pub progress_step : (bytes : List ℕ) (lines : List Line) (rest : List ℕ) (line : Line) (others : List ℕ) → Progress bytes lines rest → 0 < length rest → IsLine line → rest ≡ text_of_line line ++ others
    → ((l : Line) (o : List ℕ) → IsLine l → rest ≡ text_of_line l ++ o → Same line others l o) → Progress bytes (lines ++ line ∷ []) others
progress_step bytes lines rest line others h some line_fits is only = record {
  parts =
      h.parts ∙ ap (λ (x : List ℕ). text_of lines ++ x) is
      ∙ sym (ap (λ (x : List ℕ). x ++ others) (flat_map-append text_of_line lines (line ∷ []) ∙ ap (λ (x : List ℕ). text_of lines ++ x) (append-nil (text_of_line line))) ∙ append_assoc (text_of lines) (text_of_line line) others);
  fit = All-push IsLine lines line h.fit line_fits;
  continues = λ all fit spelled. let k = h.continues all fit spelled in goes_on lines rest line others all k.more only some k.joined k.more_fit k.left;
}

no_rest : (rest : List ℕ) (more : List Line) → ((l : Line) (o : List ℕ) → IsLine l → rest ≡ text_of_line l ++ o → ⊥) → 0 < length rest → AllByRecursion IsLine more → rest ≡ text_of more → ⊥
no_rest rest [] never some fit left = let none : length rest ≡ 0 = ap length left in omega arith
no_rest rest (l ∷ more) never some fit left = never l (text_of more) fit.0 left

-- where never line's text begins, the bytes are never lines' text
pub breaks_only : (bytes : List ℕ) (lines : List Line) (rest : List ℕ) → Progress bytes lines rest → 0 < length rest → ((l : Line) (o : List ℕ) → IsLine l → rest ≡ text_of_line l ++ o → ⊥)
    → (all : List Line) → All IsLine all → bytes ≡ text_of all → ⊥
breaks_only bytes lines rest h some never all fit is =
    let k = h.continues all (by_recursion IsLine all fit) is in no_rest rest k.more never some k.more_fit k.left

pub breaks_first : (bytes : List ℕ) (lines : List Line) (rest : List ℕ) → Progress bytes lines rest → 0 < length rest → ((l : Line) (o : List ℕ) → IsLine l → rest ≡ text_of_line l ++ o → ⊥) → BreaksAtLine bytes (length lines + 1)
breaks_first bytes lines rest h some never = record { front = lines; rest = rest; parts = h.parts; front_fits = h.fit; place = refl; some_left = some; no_line = never }

pub all_printed : (bytes : List ℕ) (lines : List Line) (rest : List ℕ) → Progress bytes lines rest → length rest ≡ 0 → All IsLine lines × (bytes ≡ text_of lines)
all_printed bytes lines [] h none = (h.fit, h.parts ∙ append-nil (text_of lines))
all_printed bytes lines (b ∷ rest) h none = absurd (omega arith)

ends_there : (read : List Line) (rest : List ℕ) (all : List Line) → length rest ≡ 0 → Continues read rest all → read ≡ all
ends_there read rest all none h = no_more h.more (ap length (sym h.left) ∙ none) h.joined
  where
    no_more : (more : List Line) → length (text_of more) ≡ 0 → all ≡ read ++ more → read ≡ all
    no_more [] e joined = sym (joined ∙ append-nil read)
    no_more (line ∷ more) e joined = absurd (text_not_empty line (text_of more) e)

pub all_read : (bytes : List ℕ) (lines : List Line) (rest : List ℕ) → Progress bytes lines rest → length rest ≡ 0 → (all : List Line) → All IsLine all → bytes ≡ text_of all → lines ≡ all
all_read bytes lines rest h none all fit is = ends_there lines rest all none (h.continues all (by_recursion IsLine all fit) is)
