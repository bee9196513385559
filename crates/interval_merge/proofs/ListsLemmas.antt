-- Many lists of pieces: what they say together.
use Rattle.std.proofs.Common.{◌≡◌, ℕ, inl, inr, Bool, true, false, List, [], ◌∷◌, ◌++◌, take, drop, Option, None, Some, option_map, Result, Ok, IfOk, refl, ap, ◌∙◌, sym, subst, arith}
use Rattle.std.proofs.lemmas.Bool.{cases_Bool, cond-true, cond-false}
use Rattle.std.proofs.lemmas.Bool.Decides.{nat_tests}
use Rattle.std.proofs.lemmas.List.{take-append-drop}
use Rattle.std.specs.Prelude.{◌||◌, ◌&&◌, ◌==◌, nat_lt}
use Rattle.plfs_types.specs.declared.entries.Entry.{Entry}
use Rattle.plain_file.specs.declared.pieces.Piece.{Piece}
use Rattle.plain_file.specs.Newest.{newest_at}
use Rattle.plain_file.specs.Sources.{Source, source_of, source_at, newer_source}
use Rattle.plain_file.specs.Runs.{AreRuns, ArePieces}
use Rattle.plain_file.proofs.Facts.{newest_at-append, newer_source-of}
use Rattle.interval_merge.specs.Lists.{newest_source, joined, ArePiecesOfEach}

-- whether t has the greater key
abbrev above : Source → Source → Bool
above t s = nat_lt s.stamp t.stamp || (s.stamp == t.stamp && nat_lt s.writer t.writer)

newer-yes : (s t : Source) → above t s ≡ true → newer_source (Some s) (Some t) ≡ Some t
newer-yes s t h = cond-true (above t s) (Some t) (Some s) h

newer-no : (s t : Source) → above t s ≡ false → newer_source (Some s) (Some t) ≡ Some s
newer-no s t h = cond-false (above t s) (Some t) (Some s) h

above_above : (a b c : Source) → above b a ≡ true → above c b ≡ true → above c a ≡ true
above_above a b c h k = grind (arith, nat_tests)

none_above : (a b c : Source) → above b a ≡ false → above c b ≡ false → above c a ≡ false
none_above a b c h k = grind (arith, nat_tests)

pub newer_source-none : (o : Option Source) → newer_source o None ≡ o
newer_source-none None = refl
newer_source-none (Some s) = refl

pub newer_source-assoc : (o p q : Option Source) → newer_source (newer_source o p) q ≡ newer_source o (newer_source p q)
newer_source-assoc None p q = refl
newer_source-assoc (Some a) None q = refl
newer_source-assoc (Some a) (Some b) None = newer_source-none (newer_source (Some a) (Some b))
newer_source-assoc (Some a) (Some b) (Some c) = elim (cases_Bool (above b a)) [
  | inl ba ↦ ap (λ o. newer_source o (Some c)) (newer-yes a b ba) ∙ elim (cases_Bool (above c b)) [
    | inl cb ↦ newer-yes b c cb ∙ sym (ap (newer_source (Some a)) (newer-yes b c cb) ∙ newer-yes a c (above_above a b c ba cb))
    | inr bc ↦ newer-no b c bc ∙ sym (ap (newer_source (Some a)) (newer-no b c bc) ∙ newer-yes a b ba)
  ]
  | inr ab ↦ ap (λ o. newer_source o (Some c)) (newer-no a b ab) ∙ elim (cases_Bool (above c b)) [
    | inl cb ↦ sym (ap (newer_source (Some a)) (newer-yes b c cb))
    | inr bc ↦ newer-no a c (none_above a b c ab bc) ∙ sym (ap (newer_source (Some a)) (newer-no b c bc) ∙ newer-no a b ab)
  ]
]

pub newest_source-append : (front back : List (List Piece)) (x : ℕ) → newest_source (front ++ back) x ≡ newer_source (newest_source front x) (newest_source back x)
newest_source-append [] back x = refl
newest_source-append (pieces ∷ front) back x =
    ap (newer_source (source_at pieces x)) (newest_source-append front back x)
    ∙ sym (newer_source-assoc (source_at pieces x) (newest_source front x) (newest_source back x))

-- a list cut in two
pub halves : (lists front back : List (List Piece)) (at : ℕ) → front ≡ take at lists → back ≡ drop at lists → lists ≡ front ++ back
halves lists front back at f b = sym (ap (λ ls. ls ++ back) f ∙ ap (λ ls. take at lists ++ ls) b ∙ take-append-drop at lists)

-- two merged halves say what all lists say
pub newest_source-halves : (lists front back : List (List Piece)) (a b merged : List Piece) → lists ≡ front ++ back
    → ((x : ℕ) → source_at a x ≡ newest_source front x) → ((x : ℕ) → source_at b x ≡ newest_source back x)
    → ((x : ℕ) → source_at merged x ≡ newer_source (source_at a x) (source_at b x)) → (x : ℕ) → source_at merged x ≡ newest_source lists x
newest_source-halves lists front back a b merged e of_a of_b says x =
    says x ∙ ap (λ o. newer_source o (source_at b x)) (of_a x) ∙ ap (newer_source (newest_source front x)) (of_b x)
    ∙ sym (newest_source-append front back x) ∙ sym (ap (λ ls. newest_source ls x) e)

shown : (entries : List (List Entry)) (lists : List (List Piece)) → ArePiecesOfEach entries lists → (x : ℕ)
    → newest_source lists x ≡ option_map (source_of x) (newest_at (joined entries) [] x)
shown [] [] are x = refl
shown [] (pieces ∷ lists) are x = absurd are
shown (es ∷ more) [] are x = absurd are
shown (es ∷ more) (pieces ∷ lists) are x =
    ap (λ o. newer_source o (newest_source lists x)) (are.0.shown x)
    ∙ ap (newer_source (option_map (source_of x) (newest_at es [] x))) (shown more lists are.1 x)
    ∙ sym (ap (option_map (source_of x)) (newest_at-append es (joined more) [] x) ∙ newer_source-of x (newest_at es [] x) (newest_at (joined more) [] x))

-- Runs that say what the lists say together are the pieces of all entries.
pub ArePieces-joined : (entries : List (List Entry)) (lists : List (List Piece)) (merged : List Piece) → AreRuns merged
    → ((x : ℕ) → source_at merged x ≡ newest_source lists x) → ArePiecesOfEach entries lists → ArePieces (joined entries) [] merged
ArePieces-joined entries lists merged runs says are = record { runs = runs; shown = λ x. says x ∙ shown entries lists are x }

-- what holds of the value in an Ok
pub told_of : {A E : Type 0} (P : A → Type 0) (r : Result A E) (v : A) → IfOk r P → r ≡ Ok v → P v
told_of P r v h e = subst (λ s. IfOk s P) e h
