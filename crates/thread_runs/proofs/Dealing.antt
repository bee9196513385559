-- How the statements of a phase are dealt out.
use Rattle.std.proofs.Common.{◌≡◌, ℕ, zero, suc, ◌<◌, true, false, List, [], ◌∷◌, ◌++◌, length, set, get_or, Some, sym, refl, ap, ◌∙◌, subst, arith, append-nil}
use mathlib.Core.Logic.{dite}
use native.Mathlib.Decide.{ℕ_discrete}
use Rattle.std.specs.Borrow.{Bor}
use Rattle.std.specs.Prelude.{All, slice_get, ◌==◌, cond, map}
use Rattle.std.proofs.lemmas.List.{map-append, map-set}
use Rattle.std.proofs.lemmas.List.Elements.{All-nil, All-cons, All-head, All-tail}
use Rattle.script_lang.specs.declared.script.Numbered.{Numbered}
use Rattle.run_core.specs.Course.{own}
use Rattle.run_core.specs.Players.{IsMade}
use Rattle.run_core.proofs.Facts.{own_both, own_no, own_yes}
use Rattle.thread_runs.specs.declared.parts.Part.{Part}
use Rattle.thread_runs.specs.Parts.{statements_of, dealt, AreParts}
use Rattle.thread_runs.proofs.WrittenOrder.{get_set_same, get_set_other, same_some}

-- ---- what is made

made_own : (place : ℕ) (statements : List Numbered) → All IsMade statements → All IsMade (own place statements)
made_own place [] made = All-nil IsMade
made_own place (s ∷ ss) made =
    let rest = made_own place ss (All-tail IsMade s ss made) in
    elim (s.actor == place) as (λ b. All IsMade (cond b (s ∷ own place ss) (own place ss))) [
      | true ↦ All-cons IsMade s (own place ss) (All-head IsMade s ss made) rest
      | false ↦ rest
    ]

pub made_parts : (statements : List Numbered) (parts : List (List Numbered)) → All IsMade statements → AreParts statements parts → (place : ℕ) (part : List Numbered) → slice_get parts place ≡ Some part → All IsMade part
made_parts statements parts made are place part here = subst (λ z. All IsMade z) (sym (are place part here)) (made_own place statements made)

-- the next one of a part
pub made_item : (part : List (Bor Numbered)) (i : ℕ) (s : Bor Numbered) → All IsMade (map (λ z. z.now) part) → i < length part → s ≡ get_or part i s → IsMade s.now
made_item [] i s made lt is = absurd (omega (arith, lt))
made_item (x ∷ part) zero s made lt is = subst (λ z. IsMade z.now) (sym is) (All-head IsMade x.now (map (λ z. z.now) part) made)
made_item (x ∷ part) (suc i) s made lt is = made_item part i s (All-tail IsMade x.now (map (λ z. z.now) part) made) (omega (arith, lt)) is

-- ---- parts without statements

pub no_parts : (statements : List Numbered) → AreParts statements []
no_parts statements place part here = absurd (cc)

empty_more : (parts : List (List Numbered)) → AreParts [] parts → AreParts [] (parts ++ [] ∷ [])
empty_more [] empty zero part here = sym (same_some [] part here)
empty_more [] empty (suc place) part here = absurd (cc)
empty_more (x ∷ parts) empty zero part here = empty zero part here
empty_more (x ∷ parts) empty (suc place) part here = empty_more parts (λ at p there. empty (suc at) p there) place part here

pub empty_push : (parts : List Part) (part : Part) → AreParts [] (dealt parts) → part.statements.items ≡ [] → AreParts [] (dealt (parts ++ part ∷ []))
empty_push parts part empty none =
    let more : dealt (parts ++ part ∷ []) ≡ dealt parts ++ [] ∷ [] = map-append statements_of parts (part ∷ []) ∙ ap (λ z. dealt parts ++ map (λ s. s.now) z ∷ []) none in
    subst (λ z. AreParts [] z) (sym more) (empty_more (dealt parts) empty)

-- ---- one statement more

part_at : (parts : List Part) (i : ℕ) (d : Part) → i < length parts → slice_get (dealt parts) i ≡ Some (statements_of (get_or parts i d))
part_at [] i d lt = absurd (omega (arith, lt))
part_at (x ∷ parts) zero d lt = refl
part_at (x ∷ parts) (suc i) d lt = part_at parts i d (omega (arith, lt))

pub part_here : (parts : List Part) (i : ℕ) (part : Part) → i < length parts → part ≡ get_or parts i part → slice_get (dealt parts) i ≡ Some (statements_of part)
part_here parts i part lt is = part_at parts i part lt ∙ ap (λ (z : Part). Some (statements_of z)) (sym is)

pub dealt_more : (first more : List Numbered) (s : Numbered) (parts : List Part) (d after : Part) → more ≡ first ++ s ∷ [] → AreParts first (dealt parts) → s.actor < length parts
    → statements_of after ≡ statements_of (get_or parts s.actor d) ++ s ∷ [] → AreParts more (dealt (set parts s.actor after))
dealt_more first more s parts d after split are lt grew = λ place part here.
    let old = get_or parts s.actor d in
    let news : dealt (set parts s.actor after) ≡ set (dealt parts) s.actor (statements_of after) = map-set statements_of parts s.actor after in
    let there : slice_get (set (dealt parts) s.actor (statements_of after)) place ≡ Some part = ap (λ z. slice_get z place) (sym news) ∙ here in
    let found = part_at parts s.actor d lt in
    let both : own place more ≡ own place first ++ own place (s ∷ []) = ap (own place) split ∙ own_both place first (s ∷ []) in
    dite (ℕ_discrete place s.actor)
    (λ same.
    let now : Some (statements_of after) ≡ Some part = sym (get_set_same (dealt parts) s.actor (statements_of old) (statements_of after) found) ∙ (ap (λ n. slice_get (set (dealt parts) s.actor (statements_of after)) n) (sym same) ∙ there) in
    let first_is : statements_of old ≡ own place first = are place (statements_of old) (ap (slice_get (dealt parts)) same ∙ found) in
    sym (same_some (statements_of after) part now) ∙ (grew ∙ (ap (λ z. z ++ s ∷ []) first_is ∙ (ap (λ z. own place first ++ z) (sym (own_yes place s [] (sym same))) ∙ sym both))))
    (λ other.
    let as_before = are place part (sym (get_set_other (dealt parts) s.actor place (statements_of after) other) ∙ there) in
    as_before ∙ (sym (append-nil (own place first)) ∙ (ap (λ z. own place first ++ z) (sym (own_no place s [] (λ is. other (sym is)))) ∙ sym both)))
