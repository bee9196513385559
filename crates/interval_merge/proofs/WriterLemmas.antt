-- Entries of one writer: those that go forward become pieces as they stand.
use Rattle.std.proofs.Common.{◌≡◌, ℕ, ◌+◌, ◌<◌, ◌≤◌, inl, inr, Bool, true, false, ◌&&◌, nat_lt, nat_le, List, [], ◌∷◌, ◌++◌, length, get_or, take, drop, map, filter, Option, None, Some, option_map, refl, ap, ◌∙◌, sym, subst, arith, append_assoc, add-one, drop-cons}
use Rattle.std.proofs.lemmas.Bool.{cases_Bool, cond-true, cond-false, and_from, and_left, and_parts, ltb-true}
use Rattle.std.proofs.lemmas.List.{append-nil, take-append-drop}
use Rattle.plfs_types.specs.declared.entries.Entry.{Entry}
use Rattle.plain_file.specs.declared.pieces.Piece.{Piece}
use Rattle.plain_file.specs.Newest.{covers, survives, newer, newest, newest_at}
use Rattle.plain_file.specs.Sources.{Source, source_of, source_in, source_at, has_byte}
use Rattle.plain_file.specs.Runs.{AreRuns, ArePieces}
use Rattle.plain_file.proofs.Facts.{has-before}
use Rattle.interval_merge.specs.Sweep.{AllEndBy, Extends}
use Rattle.interval_merge.specs.Lists.{joined, ArePiecesOfEach}
use Rattle.interval_merge.specs.Writer.{piece_of, AscendFrom}

-- what shows of entries that go forward

shown-skipped : (e : Entry) (es : List Entry) (x : ℕ) → covers e x ≡ false → newest_at (e ∷ es) [] x ≡ newest_at es [] x
shown-skipped e es x out =
    let p : Entry → Bool = λ (d : Entry). covers d x && survives [] x d in
    ap newest (cond-false (p e) (e ∷ filter p es) (filter p es) (and_left (covers e x) true out))

shown-covered : (e : Entry) (es : List Entry) (x : ℕ) → covers e x ≡ true → newest_at (e ∷ es) [] x ≡ newer (Some e) (newest_at es [] x)
shown-covered e es x within =
    let p : Entry → Bool = λ (d : Entry). covers d x && survives [] x d in
    ap newest (cond-true (p e) (e ∷ filter p es) (filter p es) (and_from (covers e x) true within refl))

-- none of them shows before the place from which they go
quiet_before : (from : ℕ) (es : List Entry) (x : ℕ) → AscendFrom from es → x < from → newest_at es [] x ≡ None
quiet_before from [] x up h = refl
quiet_before from (e ∷ es) x up h = shown-skipped e es x (has-before (piece_of e) x (omega (arith, up.0))) ∙ quiet_before (e.at + e.len) es x up.1 (omega (arith, up.0))

covered_below : (e : Entry) (x : ℕ) → covers e x ≡ true → x < e.at + e.len
covered_below e x h = ltb-true x (e.at + e.len) (and_parts (nat_le e.at x) (nat_lt x (e.at + e.len)) h).1

forward-shown : (from : ℕ) (es : List Entry) → AscendFrom from es → (x : ℕ) → source_at (map piece_of es) x ≡ option_map (source_of x) (newest_at es [] x)
forward-shown from [] up x = refl
forward-shown from (e ∷ es) up x = elim (cases_Bool (covers e x)) [
  | inl within ↦ cond-true (has_byte (piece_of e) x) (Some (source_in x (piece_of e))) (source_at (map piece_of es) x) within
      ∙ sym (ap (option_map (source_of x)) (shown-covered e es x within ∙ ap (newer (Some e)) (quiet_before (e.at + e.len) es x up.1 (covered_below e x within))))
  | inr out ↦ cond-false (has_byte (piece_of e) x) (Some (source_in x (piece_of e))) (source_at (map piece_of es) x) out
      ∙ forward-shown (e.at + e.len) es up.1 x ∙ sym (ap (option_map (source_of x)) (shown-skipped e es x out))
]

pub ArePieces-forward : (es : List Entry) (runs : List Piece) → AscendFrom 0 es → AreRuns runs → ((x : ℕ) → source_at runs x ≡ source_at (map piece_of es) x) → ArePieces es [] runs
ArePieces-forward es runs up are says = record { runs = are; shown = λ x. says x ∙ forward-shown 0 es up x }

-- the loop that lays the entries down as runs

-- the runs so far and the entries that are left say what all entries say
pub record Laid (runs : List Piece) (left whole : List Entry) : Type 0 where
  pub reach : ℕ
  pub are : AreRuns runs
  pub ends : AllEndBy reach runs
  pub forward : AscendFrom reach left
  pub says : (x : ℕ) → source_at (runs ++ map piece_of left) x ≡ source_at (map piece_of whole) x

pub Laid-start : (whole : List Entry) → AscendFrom 0 whole → Laid [] whole whole
Laid-start whole up = record { reach = 0; are = tt; ends = tt; forward = up; says = λ x. refl }

ends_more : (n m : ℕ) (runs : List Piece) → AllEndBy n runs → n ≤ m → AllEndBy m runs
ends_more n m [] all le = tt
ends_more n m (p ∷ runs) all le = (omega (arith, all.0), ends_more n m runs all.1 le)

pub Laid-ready : (runs : List Piece) (e : Entry) (left whole : List Entry) → Laid runs (e ∷ left) whole → AllEndBy e.at runs
Laid-ready runs e left whole laid = ends_more laid.reach e.at runs laid.ends laid.forward.0

-- the first of two that is there
abbrev first_of : Option Source → Option Source → Option Source
first_of None other = other
first_of (Some s) other = Some s

behind : (a more : List Piece) (x : ℕ) → source_at (a ++ more) x ≡ first_of (source_at a x) (source_at more x)
behind [] more x = refl
behind (p ∷ a) more x = elim (cases_Bool (has_byte p x)) [
  | inl here ↦ cond-true (has_byte p x) (Some (source_in x p)) (source_at (a ++ more) x) here
      ∙ sym (ap (λ o. first_of o (source_at more x)) (cond-true (has_byte p x) (Some (source_in x p)) (source_at a x) here))
  | inr out ↦ cond-false (has_byte p x) (Some (source_in x p)) (source_at (a ++ more) x) out ∙ behind a more x
      ∙ sym (ap (λ o. first_of o (source_at more x)) (cond-false (has_byte p x) (Some (source_in x p)) (source_at a x) out))
]

-- what more says behind two lists that say the same
same_behind : (a b more : List Piece) (x : ℕ) → source_at a x ≡ source_at b x → source_at (a ++ more) x ≡ source_at (b ++ more) x
same_behind a b more x h = behind a more x ∙ ap (λ o. first_of o (source_at more x)) h ∙ sym (behind b more x)

pub Laid-more : (runs new : List Piece) (e : Entry) (left whole : List Entry) → Laid runs (e ∷ left) whole → Extends runs (piece_of e) new → Laid new left whole
Laid-more runs new e left whole laid more = record {
  reach = e.at + e.len;
  are = more.runs;
  ends = more.ends;
  forward = laid.forward.1;
  says = λ x. same_behind new (runs ++ piece_of e ∷ []) (map piece_of left) x (more.says x)
      ∙ ap (λ ps. source_at ps x) (append_assoc runs (piece_of e ∷ []) (map piece_of left)) ∙ laid.says x;
}

pub Laid-end : (runs : List Piece) (left whole : List Entry) → left ≡ [] → Laid runs left whole → (x : ℕ) → source_at runs x ≡ source_at (map piece_of whole) x
Laid-end runs left whole none laid x =
    sym (ap (λ ps. source_at ps x) (ap (λ es. runs ++ map piece_of es) none ∙ append-nil runs)) ∙ laid.says x

-- the loop over parts that go forward

-- the lists so far are those of the entries before the ones that are left
pub record Grouped (lists : List (List Piece)) (left whole : List Entry) : Type 0 where
  pub groups : List (List Entry)
  pub are : ArePiecesOfEach groups lists
  pub split : joined groups ++ left ≡ whole

pub Grouped-start : (whole : List Entry) → Grouped [] whole whole
Grouped-start whole = record { groups = []; are = tt; split = refl }

each-append : (groups : List (List Entry)) (lists : List (List Piece)) (es : List Entry) (pieces : List Piece) → ArePiecesOfEach groups lists → ArePieces es [] pieces
    → ArePiecesOfEach (groups ++ es ∷ []) (lists ++ pieces ∷ [])
each-append [] [] es pieces are one = (one, tt)
each-append [] (p ∷ lists) es pieces are one = absurd are
each-append (g ∷ groups) [] es pieces are one = absurd are
each-append (g ∷ groups) (p ∷ lists) es pieces are one = (are.0, each-append groups lists es pieces are.1 one)

joined-append : (groups : List (List Entry)) (es : List Entry) → joined (groups ++ es ∷ []) ≡ joined groups ++ es
joined-append [] es = append-nil es
joined-append (g ∷ groups) es = ap (λ more. g ++ more) (joined-append groups es) ∙ sym (append_assoc g (joined groups) es)

pub Grouped-more : (lists : List (List Piece)) (pieces : List Piece) (left first rest whole : List Entry) → Grouped lists left whole → left ≡ first ++ rest → ArePieces first [] pieces
    → Grouped (lists ++ pieces ∷ []) rest whole
Grouped-more lists pieces left first rest whole grouped cut are = record {
  groups = grouped.groups ++ first ∷ [];
  are = each-append grouped.groups lists first pieces grouped.are are;
  split = ap (λ es. es ++ rest) (joined-append grouped.groups first) ∙ append_assoc (joined grouped.groups) first rest ∙ ap (λ es. joined grouped.groups ++ es) (sym cut) ∙ grouped.split;
}

-- a list cut in two
pub cut_in_two : (left first rest : List Entry) (n : ℕ) → first ≡ take n left → rest ≡ drop n left → left ≡ first ++ rest
cut_in_two left first rest n f r = sym (ap (λ es. es ++ rest) f ∙ ap (λ es. take n left ++ es) r ∙ take-append-drop n left)

pub Grouped-end : (lists : List (List Piece)) (left whole : List Entry) (merged : List Piece) → left ≡ [] → Grouped lists left whole
    → ((entries : List (List Entry)) → ArePiecesOfEach entries lists → ArePieces (joined entries) [] merged) → ArePieces whole [] merged
Grouped-end lists left whole merged none grouped are =
    let e : joined grouped.groups ≡ whole = sym (ap (λ es. joined grouped.groups ++ es) none ∙ append-nil (joined grouped.groups)) ∙ grouped.split in
    let P : List Entry → Type 0 = λ es. ArePieces es [] merged in
    subst P e (are grouped.groups grouped.are)

pub Laid-at : (runs : List Piece) (i : ℕ) (d : Entry) (es whole : List Entry) → i < length es → Laid runs (drop i es) whole → Laid runs (get_or es i d ∷ drop (i + 1) es) whole
Laid-at runs i d es whole h laid =
    let P : List Entry → Type 0 = λ left. Laid runs left whole in
    let e : drop i es ≡ get_or es i d ∷ drop (i + 1) es = rw (add-one, drop-cons es i d) refl in
    subst P e laid
