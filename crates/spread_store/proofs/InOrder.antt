-- Stores that make a step one after the other.
use Rattle.std.proofs.Common.{◌≡◌, ◌≤◌, ◌+◌, inl, inr, ℕ, List, length, slice_get, Some, refl, ap, sym, ◌∙◌, subst, arith}
use Rattle.std.specs.Prelude.{Ok}
use Rattle.std.proofs.lemmas.Option.{slice_get_past}
use Rattle.store_api.specs.declared.step.Answer.{Answer}
use Rattle.store_api.specs.Step.{Step}
use Rattle.store_api.specs.Acts.{Stored, Acts}
use Rattle.store_laws.proofs.Facts.{slice_get-slice_set, slice_get_other-slice_set}
use Rattle.spread_store.specs.Asking.{ActsAt}
use Rattle.spread_store.specs.Searches.{HasAnswered, FirstAnswered}
use Rattle.spread_store.proofs.Lists.{length_slice_set}
use Rattle.spread_store.proofs.Held.{nat_cases}

pub none_answered : (step : Step) (Fits : Answer → Type 0) (stores : List Stored) → FirstAnswered step Fits 0 stores stores
none_answered step Fits stores = record { answered = λ i before l e. absurd (omega arith); others = λ i l. refl; as_many = refl }

pub more_answered : (step : Step) (Fits : Answer → Type 0) (n : ℕ) (old mid new : List Stored) (answer : Answer) → Fits answer
    → FirstAnswered step Fits n old mid → ActsAt n step mid new (Ok answer) → FirstAnswered step Fits (n + 1) old new
more_answered step Fits n old mid new answer fits f a = record {
  answered = λ i before l e. elim (nat_cases i n) as (λ _. (after : Stored) × (slice_get new i ≡ Some after) × HasAnswered step Fits before after) [
    | inl at ↦
        let was : slice_get mid n ≡ Some before = f.others n (omega arith) ∙ ap (λ k. slice_get old k) (sym at) ∙ e in
        let known = a.was in
        let same : a.before ≡ before = cc in (
          a.after,
          ap (λ k. slice_get new k) at ∙ ap (λ xs. slice_get xs n) a.is ∙ slice_get-slice_set mid n a.before a.after a.was,
          record { answer = answer; fits = fits; acts = subst (λ b. Acts step b a.after (Ok answer)) same a.acts },
        )
    | inr other ↦
        let x = f.answered i before (omega (arith, l, other)) e in
        (x.0, ap (λ xs. slice_get xs i) a.is ∙ slice_get_other-slice_set mid n i a.after other ∙ x.1, x.2)
  ];
  others = λ i l. ap (λ xs. slice_get xs i) a.is ∙ slice_get_other-slice_set mid n i a.after (λ at. absurd (omega (arith, l, at))) ∙ f.others i (omega (arith, l));
  as_many = ap length a.is ∙ length_slice_set mid n a.after ∙ f.as_many;
}

pub widened : (step : Step) (Fits Holds : Answer → Type 0) (n : ℕ) (old new : List Stored) → ((answer : Answer) → Fits answer → Holds answer) → FirstAnswered step Fits n old new → FirstAnswered step Holds n old new
widened step Fits Holds n old new more f = record {
  answered = λ i before l e. let x = f.answered i before l e in (x.0, x.1, record { answer = x.2.answer; fits = more x.2.answer x.2.fits; acts = x.2.acts });
  others = f.others;
  as_many = f.as_many;
}

pub all_answered : (step : Step) (Fits : Answer → Type 0) (n : ℕ) (old new : List Stored) → length old ≤ n → FirstAnswered step Fits n old new → FirstAnswered step Fits (length old) old new
all_answered step Fits n old new long f = record {
  answered = λ i before l e. f.answered i before (omega (arith, l, long)) e;
  others = λ i l. let many = f.as_many in slice_get_past new i (omega (arith, l, many)) ∙ sym (slice_get_past old i l);
  as_many = f.as_many;
}
