-- How the lines of all actors are put in the order in which their statements are written.
use Rattle.std.proofs.Common.{◌≡◌, ◌≢◌, ℕ, zero, suc, ◌+◌, ◌<◌, ◌≤◌, Bool, true, false, List, [], ◌∷◌, ◌++◌, length, set, get_or, Some, eq-eqb, ne_eqb, take, drop, sym, refl, ap, ◌∙◌, subst, arith, length-append, append_assoc, append-nil}
use mathlib.Core.Logic.{dite}
use native.Mathlib.Decide.{ℕ_discrete}
use Rattle.std.specs.Prelude.{slice_get, nat_eq, if◌then◌else◌}
use Rattle.std.proofs.lemmas.List.{length-set, map-append, length-map, take-append-drop}
use Rattle.std.proofs.Math.Seq.{take-length}
use Rattle.script_lang.specs.declared.line.Line.{Line}
use Rattle.script_lang.specs.declared.script.Numbered.{Numbered}
use Rattle.script_lang.specs.declared.script.Phase.{Phase}
use Rattle.mount_model.specs.Performers.{told_at}
use Rattle.run_core.specs.Cast.{statements_in}
use Rattle.run_core.specs.Course.{own}
use Rattle.run_core.specs.Written.{whose}
use Rattle.run_core.proofs.Facts.{own_both, left_item, own_no, own_yes}
use Rattle.share_workers.proofs.Facts.{taken_item}
use Rattle.thread_runs.specs.declared.told.Told.{Told}
use Rattle.thread_runs.specs.Collecting.{lines_in, Suffice, HasLine, HaveLines, TakesOne, AreTaken, TakesAll, ArePut}

-- ---- lines at a place

told_both : (place : ℕ) (places more : List ℕ) (lines others : List Line) → length lines ≡ length places → told_at place (places ++ more) (lines ++ others) ≡ told_at place places lines ++ told_at place more others
told_both place [] more [] others long = refl
told_both place [] more (l ∷ lines) others long = absurd (omega (arith, long))
told_both place (p ∷ places) more [] others long = absurd (omega (arith, long))
told_both place (p ∷ places) more (l ∷ lines) others long = by (nat_eq p place) (told_both place places more lines others (omega (arith, long)))
  where
    by : (b : Bool) → told_at place (places ++ more) (lines ++ others) ≡ told_at place places lines ++ told_at place more others → (if b then l ∷ told_at place (places ++ more) (lines ++ others) else told_at place (places ++ more) (lines ++ others)) ≡ (if b then l ∷ told_at place places lines else told_at place places lines) ++ told_at place more others
    by true rest = ap (λ z. l ∷ z) rest
    by false rest = rest

nat_same : (n : ℕ) → nat_eq n n ≡ true
nat_same n = eq-eqb n n refl

nat_other : (m n : ℕ) → m ≢ n → nat_eq m n ≡ false
nat_other m n ne = ne_eqb m n ne

-- as many as the actor's statements among these
told_long : (place : ℕ) (statements : List Numbered) (lines : List Line) → length lines ≡ length (whose statements) → length (told_at place (whose statements) lines) ≡ length (own place statements)
told_long place [] lines long = refl
told_long place (s ∷ ss) [] long = absurd (omega (arith, long))
told_long place (s ∷ ss) (l ∷ lines) long =
    let rest = told_long place ss lines (omega (arith, long)) in
    dite (ℕ_discrete s.actor place)
    (λ is.
    let yes : nat_eq s.actor place ≡ true = ap (λ n. nat_eq n place) is ∙ nat_same place in
    ap (λ (b : Bool). length (if b then l ∷ told_at place (whose ss) lines else told_at place (whose ss) lines)) yes ∙ (ap (λ n. suc n) rest ∙ sym (ap length (own_yes place s ss is))))
    (λ other.
    let no : nat_eq s.actor place ≡ false = nat_other s.actor place other in
    ap (λ (b : Bool). length (if b then l ∷ told_at place (whose ss) lines else told_at place (whose ss) lines)) no ∙ (rest ∙ sym (ap length (own_no place s ss other))))

-- ---- lists of lists

pub get_set_same : {X : Type 0} (xs : List X) (i : ℕ) (x v : X) → slice_get xs i ≡ Some x → slice_get (set xs i v) i ≡ Some v
get_set_same [] i x v is = absurd (cc)
get_set_same (y ∷ xs) zero x v is = refl
get_set_same (y ∷ xs) (suc i) x v is = get_set_same xs i x v is

pub get_set_other : {X : Type 0} (xs : List X) (i j : ℕ) (v : X) → j ≢ i → slice_get (set xs i v) j ≡ slice_get xs j
get_set_other [] i j v ne = refl
get_set_other (y ∷ xs) zero zero v ne = absurd (ne refl)
get_set_other (y ∷ xs) zero (suc j) v ne = refl
get_set_other (y ∷ xs) (suc i) zero v ne = refl
get_set_other (y ∷ xs) (suc i) (suc j) v ne = get_set_other xs i j v (λ is. ne (ap (λ k. suc k) is))

found : (all : List (List Line)) (place : ℕ) → place < length all → (told : List Line) × (slice_get all place ≡ Some told)
found [] place lt = absurd (omega (arith, lt))
found (t ∷ all) zero lt = (t, refl)
found (t ∷ all) (suc place) lt = found all place (omega (arith, lt))

pub same_some : {X : Type 0} (a b : X) → Some a ≡ Some b → a ≡ b
same_some a b e = cc

get_index : (all : List Told) (i : ℕ) (d : Told) → i < length all → slice_get (lines_in all) i ≡ Some (get_or all i d).lines.items
get_index [] i d lt = absurd (omega (arith, lt))
get_index (x ∷ all) zero d lt = refl
get_index (x ∷ all) (suc i) d lt = get_index all i d (omega (arith, lt))

pub item_at : (all : List Told) (i : ℕ) (told : Told) → i < length all → told ≡ get_or all i told → slice_get (lines_in all) i ≡ Some told.lines.items
item_at all i told lt is = get_index all i told lt ∙ ap (λ (z : Told). Some z.lines.items) (sym is)

lines_set : (all : List Told) (i : ℕ) (t : Told) → lines_in (set all i t) ≡ set (lines_in all) i t.lines.items
lines_set [] i t = refl
lines_set (x ∷ all) zero t = refl
lines_set (x ∷ all) (suc i) t = ap (λ z. x.lines.items ∷ z) (lines_set all i t)

-- ---- taking lines

pub takes_one : (place : ℕ) (lines later : List Line) (all new : List Told) (old after : Told) (line : Line) → slice_get (lines_in all) place ≡ Some old.lines.items → old.lines.items ≡ line ∷ after.lines.items → new ≡ set all place after → later ≡ lines ++ line ∷ []
    → TakesOne place lines (lines_in all) later (lines_in new)
takes_one place lines later all new old after line here pops is grew = record {
  line = line;
  rest = after.lines.items;
  here = here ∙ ap (λ z. Some z) pops;
  new_is = ap lines_in is ∙ lines_set all place after;
  lines = grew;
}

pub taken_none : (all : List (List Line)) → AreTaken [] [] all all
taken_none all = record { long = refl; len = refl; each = λ place told here. (told, here, refl) }

taken_one : (places : List ℕ) (lines : List Line) (lines_old lines_new : List Line) (a : ℕ) (old mid new : List (List Line)) → AreTaken places lines old mid → (t : TakesOne a lines_old mid lines_new new) → AreTaken (places ++ a ∷ []) (lines ++ t.line ∷ []) old new
taken_one places lines lines_old lines_new a old mid new x t = record {
  long = let l = x.long in length-append lines (t.line ∷ []) ∙ (omega (arith, l, length-append places (a ∷ [])));
  len = ap length t.new_is ∙ (length-set mid a t.rest ∙ x.len);
  each = λ place told here.
      let b = x.each place told here in
      let more = told_both place places (a ∷ []) lines (t.line ∷ []) x.long in
      dite (ℕ_discrete place a)
      (λ is.
      let there : slice_get mid place ≡ Some (t.line ∷ t.rest) = ap (slice_get mid) is ∙ t.here in
      let left_is : b.0 ≡ t.line ∷ t.rest = same_some b.0 (t.line ∷ t.rest) (sym b.1 ∙ there) in
      let yes : nat_eq a place ≡ true = ap (nat_eq a) is ∙ nat_same a in
      let one : told_at place (a ∷ []) (t.line ∷ []) ≡ t.line ∷ [] = ap (λ (z : Bool). if z then t.line ∷ [] else []) yes in
      let now : slice_get new place ≡ Some t.rest = ap (λ z. slice_get z place) t.new_is ∙ (ap (λ k. slice_get (set mid a t.rest) k) is ∙ get_set_same mid a (t.line ∷ t.rest) t.rest t.here) in
      (t.rest, now, b.2 ∙ (ap (λ z. told_at place places lines ++ z) left_is ∙ (sym (append_assoc (told_at place places lines) (t.line ∷ []) t.rest) ∙ ap (λ z. z ++ t.rest) (ap (λ z. told_at place places lines ++ z) (sym one) ∙ sym more)))))
      (λ other.
      let no : nat_eq a place ≡ false = nat_other a place (λ is. other (sym is)) in
      let none : told_at place (a ∷ []) (t.line ∷ []) ≡ [] = ap (λ (z : Bool). if z then t.line ∷ [] else []) no in
      let now : slice_get new place ≡ Some b.0 = ap (λ z. slice_get z place) t.new_is ∙ (get_set_other mid a place t.rest other ∙ b.1) in
      (b.0, now, b.2 ∙ ap (λ z. z ++ b.0) (sym (append-nil (told_at place places lines)) ∙ (ap (λ z. told_at place places lines ++ z) (sym none) ∙ sym more))));
}

taken_both : (places more : List ℕ) (lines others : List Line) (old mid new : List (List Line)) → AreTaken places lines old mid → AreTaken more others mid new → AreTaken (places ++ more) (lines ++ others) old new
taken_both places more lines others old mid new x y = record {
  long = let l = x.long in let m = y.long in length-append lines others ∙ omega (arith, l, m, length-append places more);
  len = y.len ∙ x.len;
  each = λ place told here.
      let a = x.each place told here in
      let b = y.each place a.0 a.1 in
      (b.0, b.1, a.2 ∙ (ap (λ z. told_at place places lines ++ z) b.2 ∙ (sym (append_assoc (told_at place places lines) (told_at place more others) b.0) ∙ ap (λ z. z ++ b.0) (sym (told_both place places more lines others x.long)))));
}

-- what is left suffices for the statements that are left
pub suffice_left : (first rest : List Numbered) (lines : List Line) (old new : List (List Line)) → AreTaken (whose first) lines old new → Suffice (first ++ rest) old → Suffice rest new
suffice_left first rest lines old new x enough place left here =
    let lt = inside new place left here in
    let l = x.len in
    let was = found old place (omega (arith, lt, l)) in
    let b = x.each place was.0 was.1 in
    let same : b.0 ≡ left = same_some b.0 left (sym b.1 ∙ here) in
    let all = enough place was.0 was.1 in
    let split = ap length (own_both place first rest) ∙ length-append (own place first) (own place rest) in
    let many : length was.0 ≡ length (own place first) + length left = ap length b.2 ∙ (length-append (told_at place (whose first) lines) b.0 ∙ (λ i. told_long place first lines x.long i + length (same i))) in
    omega (arith, all, split, many)
  where
    inside : (all : List (List Line)) (place : ℕ) (told : List Line) → slice_get all place ≡ Some told → place < length all
    inside [] place told here = absurd (cc)
    inside (t ∷ all) zero told here = omega arith
    inside (t ∷ all) (suc place) told here = let lt = inside all place told here in omega (arith, lt)

pub suffice_first : (first rest : List Numbered) (all : List (List Line)) → Suffice (first ++ rest) all → Suffice first all
suffice_first first rest all enough place told here =
    let many = enough place told here in
    let split = ap length (own_both place first rest) ∙ length-append (own place first) (own place rest) in
    omega (arith, many, split)

pub have_suffice : (statements : List Numbered) (all : List (List Line)) → HaveLines statements all → Suffice statements all
have_suffice statements all have place told here = let same = have place told here in omega (arith, same)

-- the next statement has its line
pub has_line : (s : Numbered) (rest : List Numbered) (all : List Told) → Suffice (s ∷ rest) (lines_in all) → s.actor < length all → HasLine (lines_in all) s.actor
has_line s rest all enough lt =
    let there = found (lines_in all) s.actor (omega (arith, lt, length-map all (λ (t : Told). t.lines.items))) in
    let many = enough s.actor there.0 there.1 in
    let some = ap length (own_yes s.actor s rest refl) in
    by there.0 there.1 (omega (arith, many, some))
  where
    by : (told : List Line) → slice_get (lines_in all) s.actor ≡ Some told → 1 ≤ length told → HasLine (lines_in all) s.actor
    by [] here few = absurd (omega (arith, few))
    by (line ∷ more) here few = (line, more, here)

-- it is there
pub no_line : (all : List Told) (place : ℕ) (told : Told) → HasLine (lines_in all) place → place < length all → told ≡ get_or all place told → told.lines.items ≡ [] → ⊥
no_line all place told has lt is none = absurd (omega (arith, ap length (same_some told.lines.items (has.0 ∷ has.1) (sym (item_at all place told lt is) ∙ has.2)), ap length none))

-- ---- all statements

pub takes_none : (lines : List Line) (all : List (List Line)) → TakesAll [] lines all lines all
takes_none lines all = record { taken = []; lines = sym (append-nil lines); each = taken_none all }

pub takes_more : (first : List Numbered) (s : Numbered) (more : List Numbered) (lines mid_lines new_lines : List Line) (old mid new : List (List Line)) → more ≡ first ++ s ∷ [] → TakesAll first lines old mid_lines mid → TakesOne s.actor mid_lines mid new_lines new → TakesAll more lines old new_lines new
takes_more first s more lines mid_lines new_lines old mid new is x t =
    let both : whose more ≡ whose first ++ s.actor ∷ [] = ap whose is ∙ map-append (λ (z : Numbered). z.actor) first (s ∷ []) in
    let Q : List ℕ → Type 0 = λ z. AreTaken z (x.taken ++ t.line ∷ []) old new in
    record {
      taken = x.taken ++ t.line ∷ [];
      lines = t.lines ∙ (ap (λ z. z ++ t.line ∷ []) x.lines ∙ append_assoc lines x.taken (t.line ∷ []));
      each = subst Q (sym both) (taken_one (whose first) x.taken mid_lines new_lines s.actor old mid new x.each t);
    }

pub takes_both : (first rest more : List Numbered) (lines mid_lines new_lines : List Line) (old mid new : List (List Line)) → more ≡ first ++ rest → TakesAll first lines old mid_lines mid → TakesAll rest mid_lines mid new_lines new → TakesAll more lines old new_lines new
takes_both first rest more lines mid_lines new_lines old mid new is x y =
    let both : whose more ≡ whose first ++ whose rest = ap whose is ∙ map-append (λ (z : Numbered). z.actor) first rest in
    let Q : List ℕ → Type 0 = λ z. AreTaken z (x.taken ++ y.taken) old new in
    record {
      taken = x.taken ++ y.taken;
      lines = y.lines ∙ (ap (λ z. z ++ y.taken) x.lines ∙ append_assoc lines x.taken y.taken);
      each = subst Q (sym both) (taken_both (whose first) (whose rest) x.taken y.taken old mid new x.each y.each);
    }

statements_both : (xs ys : List Phase) → statements_in (xs ++ ys) ≡ statements_in xs ++ statements_in ys
statements_both [] ys = refl
statements_both (x ∷ xs) ys = ap (λ z. x.statements ++ z) (statements_both xs ys) ∙ sym (append_assoc x.statements (statements_in xs) (statements_in ys))

-- ---- in a loop over statements, or over phases

pub next_line : (statements : List Numbered) (i : ℕ) (s : Numbered) (lines now : List Line) (olds nows : List Told) → i < length statements → s ≡ get_or statements i s → Suffice statements (lines_in olds) → TakesAll (take i statements) lines (lines_in olds) now (lines_in nows) → s.actor < length nows → HasLine (lines_in nows) s.actor
next_line statements i s lines now olds nows lt is enough x there =
    let whole : statements ≡ take i statements ++ drop i statements = sym (take-append-drop i statements) in
    let rest = suffice_left (take i statements) (drop i statements) x.taken (lines_in olds) (lines_in nows) x.each (subst (λ z. Suffice z (lines_in olds)) whole enough) in
    has_line s (drop (i + 1) statements) nows (subst (λ z. Suffice z (lines_in nows)) (left_item statements i s lt is) rest) there

pub next_taken : (statements : List Numbered) (i : ℕ) (s : Numbered) (lines now later : List Line) (olds nows news : List Told) → i < length statements → s ≡ get_or statements i s → TakesAll (take i statements) lines (lines_in olds) now (lines_in nows) → TakesOne s.actor now (lines_in nows) later (lines_in news)
    → TakesAll (take (i + 1) statements) lines (lines_in olds) later (lines_in news)
next_taken statements i s lines now later olds nows news lt is x t = takes_more (take i statements) s (take (i + 1) statements) lines now later (lines_in olds) (lines_in nows) (lines_in news) (taken_item statements i s lt is) x t

pub long_one : (place : ℕ) (now later : List Line) (nows news : List Told) → TakesOne place now (lines_in nows) later (lines_in news) → length news ≡ length nows
long_one place now later nows news t = sym (length-map news (λ (x : Told). x.lines.items)) ∙ (ap length t.new_is ∙ (length-set (lines_in nows) place t.rest ∙ length-map nows (λ (x : Told). x.lines.items)))

pub long_all : (statements : List Numbered) (now later : List Line) (nows news : List Told) → TakesAll statements now (lines_in nows) later (lines_in news) → length news ≡ length nows
long_all statements now later nows news x = sym (length-map news (λ (x : Told). x.lines.items)) ∙ (x.each.len ∙ length-map nows (λ (x : Told). x.lines.items))

pub next_phase : (phases : List Phase) (i : ℕ) (phase : Phase) (now : List Line) (olds nows : List Told) → i < length phases → phase ≡ get_or phases i phase → HaveLines (statements_in phases) (lines_in olds) → TakesAll (statements_in (take i phases)) [] (lines_in olds) now (lines_in nows) → Suffice phase.statements (lines_in nows)
next_phase phases i phase now olds nows lt is have x =
    let whole : statements_in phases ≡ statements_in (take i phases) ++ statements_in (drop i phases) = ap statements_in (sym (take-append-drop i phases)) ∙ statements_both (take i phases) (drop i phases) in
    let rest = suffice_left (statements_in (take i phases)) (statements_in (drop i phases)) x.taken (lines_in olds) (lines_in nows) x.each (subst (λ z. Suffice z (lines_in olds)) whole (have_suffice (statements_in phases) (lines_in olds) have)) in
    suffice_first phase.statements (statements_in (drop (i + 1) phases)) (lines_in nows) (subst (λ z. Suffice (statements_in z) (lines_in nows)) (left_item phases i phase lt is) rest)

pub phase_taken : (phases : List Phase) (i : ℕ) (phase : Phase) (now later : List Line) (olds nows news : List Told) → i < length phases → phase ≡ get_or phases i phase → TakesAll (statements_in (take i phases)) [] (lines_in olds) now (lines_in nows) → TakesAll phase.statements now (lines_in nows) later (lines_in news)
    → TakesAll (statements_in (take (i + 1) phases)) [] (lines_in olds) later (lines_in news)
phase_taken phases i phase now later olds nows news lt is x y =
    let more : statements_in (take (i + 1) phases) ≡ statements_in (take i phases) ++ phase.statements =
    ap statements_in (taken_item phases i phase lt is) ∙ (statements_both (take i phases) (phase ∷ []) ∙ ap (λ z. statements_in (take i phases) ++ z) (append-nil phase.statements)) in
    takes_both (statements_in (take i phases)) phase.statements (statements_in (take (i + 1) phases)) [] now later (lines_in olds) (lines_in nows) (lines_in news) more x y

-- where all statements had their lines, none is left
pub all_put : (statements : List Numbered) (lines : List Line) (old new : List (List Line)) → HaveLines statements old → TakesAll statements [] old lines new → ArePut statements old lines
all_put statements lines old new have x = record {
  long = ap length x.lines ∙ (x.each.long ∙ length-map statements (λ (s : Numbered). s.actor));
  each = λ place told here.
      let b = x.each.each place told here in
      let all = have place told here in
      let many : length told ≡ length (own place statements) + length b.0 = ap length b.2 ∙ (length-append (told_at place (whose statements) x.taken) b.0 ∙ ap (λ n. n + length b.0) (told_long place statements x.taken x.each.long)) in
      let none : b.0 ≡ [] = no_items b.0 (omega (arith, all, many)) in
      b.2 ∙ (ap (λ z. told_at place (whose statements) x.taken ++ z) none ∙ (append-nil (told_at place (whose statements) x.taken) ∙ ap (told_at place (whose statements)) (sym x.lines)));
}
  where
    no_items : {X : Type 0} (xs : List X) → length xs ≡ 0 → xs ≡ []
    no_items [] is = refl
    no_items (x ∷ xs) is = absurd (omega (arith, is))

pub whole_taken : (phases : List Phase) (i : ℕ) (lines : List Line) (old new : List (List Line)) → i ≡ length phases → HaveLines (statements_in phases) old → TakesAll (statements_in (take i phases)) [] old lines new → ArePut (statements_in phases) old lines
whole_taken phases i lines old new is have x =
    let all : take i phases ≡ phases = ap (λ n. take n phases) is ∙ take-length phases in
    all_put (statements_in phases) lines old new have (subst (λ (z : List Phase). TakesAll (statements_in z) [] old lines new) all x)
