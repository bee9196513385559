-- A call whose act was told, and whose reply and table were settled by that.
use Rattle.std.proofs.Common.{◌≡◌, ℕ, ◌<◌, List, length, Option, Some, None, ap, sym, subst, ◌∙◌, inl, inr, arith}
use Rattle.std.specs.Prelude.{IfSome, MatchOption, slice_get}
use Rattle.std.proofs.lemmas.Option.{slice_get_cases}
use Rattle.store_api.specs.Step.{Step, list_folder}
use Rattle.store_api.specs.Acts.{Stored, Acts}
use Rattle.mount_model.specs.declared.row.Row.{Row}
use Rattle.mount_model.specs.declared.reply.Reply.{Reply}
use Rattle.mount_model.specs.declared.reply.Refusal.{Refusal}
use Rattle.mount_model.specs.Paths.{truncs}
use Rattle.mount_model.specs.State.{State}
use Rattle.mount_model.specs.Making.{Told, CallOutcome, MakesAct, UnlessRefused}
use Rattle.mount_model.specs.Flooring.{FloorOutcome, FloorsRow}
use Rattle.mount_table.specs.Roll.{Roll, state_of, with_table}
use Rattle.mount_table.specs.Settling.{IsSettled}

pub settled : (old opened new : Stored) (times : Option (List ℕ)) (roll left : Roll) (step : Step) (outcome : Told → CallOutcome) (told : Told) (reply : Reply) → Acts step old new told → IsSettled (outcome told) roll reply left
    → MakesAct step outcome (state_of old opened times roll) reply (state_of new opened times left)
settled old opened new times roll left step outcome told reply made is = record {
  told = told;
  made = made;
  answered = is.answered;
  after = ap (λ (r : Roll). state_of new opened times r) is.left;
}

-- what holds of the row that is there
pub of_row : (there : Option Row) (row : Row) (Says : Row → Type 0) → there ≡ Some row → IfSome there Says → Says row
of_row there row Says is says = subst (λ (o : Option Row). IfSome o Says) is says

-- what holds where that row is the caller's writer
pub of_writer : {A : Type 0} (Refused : Type 0) (there found : Option A) (row : A) (Does : A → Type 0) → there ≡ found → there ≡ Some row → Does row → MatchOption found Refused Does
of_writer {A} Refused there found row Does same is does = subst (λ (o : Option A). MatchOption o Refused Does) (sym is ∙ same) does

-- what is done at the place of that row
pub at_row : (there : Option Row) (row : Row) (Does : Row → Type 0) → there ≡ Some row → Does row → IfSome there Does
at_row there row Does is does = subst (λ (o : Option Row). IfSome o Does) (sym is) does

-- a floor was found, or wasn't
pub floored : (old opened new : Stored) (times : Option (List ℕ)) (roll left : Roll) (row : Row) (told : Told) (reply : Reply) → Acts (list_folder row.room truncs) old new told → FloorOutcome row roll.table told reply left.table → left ≡ with_table left.table roll
    → FloorsRow row (state_of old opened times roll) reply (state_of new opened times left)
floored old opened new times roll left row told reply made outcome rest = record {
  told = told;
  made = made;
  outcome = outcome;
  after = ap (λ (r : Roll). state_of new opened times r) rest;
}

-- no reason was found
pub not_refused : (found check : Option Refusal) (old : State) (reply : Reply) (new : State) (Does : Type 0) → found ≡ check → found ≡ None → Does → UnlessRefused check old reply new Does
not_refused found check old reply new Does same none does = subst (λ (o : Option Refusal). UnlessRefused o old reply new Does) (sym none ∙ same) does

-- what is done at the place at which the caller's writer was found
pub at_found : (Refused : Type 0) (rows : List Row) (place : ℕ) (found : Option Row) (Does : Row → Type 0) → place < length rows → slice_get rows place ≡ found → IfSome (slice_get rows place) Does → MatchOption found Refused Does
at_found Refused rows place found Does within same does = elim (slice_get_cases rows place).1 [
  | inl there ↦ of_writer Refused (slice_get rows place) found there.0 Does same there.2 (of_row (slice_get rows place) there.0 Does there.2 does)
  | inr past ↦ absurd (let le = past.0 in omega arith)
]
