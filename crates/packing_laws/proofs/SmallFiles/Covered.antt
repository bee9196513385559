-- Which write shows at a byte, where nothing was truncated.
use Rattle.std.proofs.Common.{◌≡◌, ℕ, ◌+◌, ◌<◌, ◌≤◌, inl, inr, Bool, true, false, ◌&&◌, cond, List, [], ◌∷◌, filter, Option, None, Some, ap, ◌∙◌, sym, subst, arith}
use Rattle.std.proofs.lemmas.Bool.{and_from, and_parts, cases_Bool, cond-true, cond-false}
use Rattle.std.proofs.lemmas.Bool.Decides.{nat_tests}
use Rattle.plfs_types.specs.declared.entries.Entry.{Entry}
use Rattle.plfs_types.specs.declared.entries.Trunc.{Trunc}
use Rattle.plain_file.specs.declared.changes.Change.{Change}
use Rattle.plain_file.specs.declared.changes.Change.TheVariants.{Write, Truncate}
use Rattle.plain_file.specs.Newest.{covers, survives, is_newer, newer, newest}
use Rattle.plain_file.specs.Shows.{entries_of, truncs_of, write_at}
use Rattle.plain_file.proofs.Facts.{Among, filtered-Among, newest-is}

covers_so : (e : Entry) (x : ℕ) → e.at ≤ x → x < e.at + e.len → covers e x ≡ true
covers_so e x from until = grind (arith, nat_tests)

pub covers_not : (e : Entry) (x : ℕ) → covers e x ≡ true → (e.at ≤ x) × (x < e.at + e.len)
covers_not e x is = (grind (arith, nat_tests), grind (arith, nat_tests))

-- the write that shows there covers the byte
pub shown_covers : (changes : List Change) (x : ℕ) (e : Entry) → write_at changes x ≡ Some e → (e.at ≤ x) × (x < e.at + e.len)
shown_covers changes x e is =
    let p : Entry → Bool = λ (d : Entry). covers d x && survives (truncs_of changes) x d in
    let kept = filtered-Among p (entries_of changes) e (newest-is (filter p (entries_of changes)) e is).0 in
    covers_not e x (and_parts (covers e x) (survives (truncs_of changes) x e) kept.0).0

newer_some : (e : Entry) (o : Option Entry) → newer (Some e) o ≡ None → ⊥
newer_some e None h = cc
newer_some e (Some d) h = elim (cases_Bool (is_newer d e)) [
  | inl above ↦ (let c = sym (cond-true (is_newer d e) (Some d) (Some e) above) ∙ h in cc)
  | inr below ↦ (let c = sym (cond-false (is_newer d e) (Some d) (Some e) below) ∙ h in cc)
]

newest_none : (es : List Entry) (e : Entry) → newest es ≡ None → Among e es → ⊥
newest_none [] e h among = among
newest_none (d ∷ es) e h among = newer_some d (newest es) h

among_kept : {X : Type 0} (p : X → Bool) (xs : List X) (x : X) → p x ≡ true → Among x xs → Among x (filter p xs)
among_kept p [] x t h = absurd h
among_kept {X} p (y ∷ ys) x t h =
    let P : List X → Type 0 = λ zs. Among x zs in
    elim h [
      | inl e ↦ subst P (sym (cond-true (p y) (y ∷ filter p ys) (filter p ys) (ap p (sym e) ∙ t))) (inl e)
      | inr later ↦ (let rest = among_kept p ys x t later in elim (p y) as (λ b. Among x (cond b (y ∷ filter p ys) (filter p ys))) [ true ↦ inr rest | false ↦ rest ])
    ]

-- where a write covers a byte one shows there
pub covered_shows : (changes : List Change) (x : ℕ) (e : Entry) → truncs_of changes ≡ [] → Among e (entries_of changes) → e.at ≤ x → x < e.at + e.len → write_at changes x ≡ None → ⊥
covered_shows changes x e none among from until unshown =
    let p : Entry → Bool = λ (d : Entry). covers d x && survives (truncs_of changes) x d in
    let lives : survives (truncs_of changes) x e ≡ true = ap (λ (ts : List Trunc). survives ts x e) none in
    newest_none (filter p (entries_of changes)) e unshown (among_kept p (entries_of changes) e (and_from (covers e x) (survives (truncs_of changes) x e) (covers_so e x from until) lives) among)

pub entry_among : (changes : List Change) (e : Entry) (bytes : List ℕ) → Among (Write e bytes) changes → Among e (entries_of changes)
entry_among [] e bytes h = absurd h
entry_among (Write d more ∷ changes) e bytes h = elim h [ inl x ↦ (let same : e ≡ d = cc in inl same) | inr later ↦ inr (entry_among changes e bytes later) ]
entry_among (Truncate t ∷ changes) e bytes h = elim h [ inl x ↦ absurd (cc) | inr later ↦ entry_among changes e bytes later ]
