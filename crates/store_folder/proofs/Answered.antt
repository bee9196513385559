-- Calls of which none failed: those by which a step was answered.
use Rattle.std.proofs.Common.{◌≡◌, ℕ, ◌+◌, List, [], ◌∷◌, false, cond, Some, None, refl, ap, ◌∙◌, arith}
use Rattle.std.proofs.lemmas.List.Sums.{fold-append}
use Rattle.folder_calls.specs.Calls.{Call, Log, has_failed, failed_calls, with_call}
use Rattle.store_folder.specs.ForEach.{Asking, ForEach}

module _ {F : Type 0} where
  -- as many calls had failed before
  abbrev pub NoneFailed : Log F → Log F → Type 0
  NoneFailed log later = failed_calls later ≡ failed_calls log

  added : (log : Log F) (call : Call F) → has_failed call ≡ false → NoneFailed log (with_call log call)
  unfolding failed_calls with_call
  added None call well = refl
  added (Some log) call well = fold-append (λ n call. n + cond (has_failed call) 1 0) 0 log (call ∷ []) ∙ ap (λ b. failed_calls (Some log) + cond b 1 0) well ∙ omega arith

  -- no call was made
  pub unchanged : {log later : Log F} → later ≡ log → NoneFailed log later
  unchanged same = ap failed_calls same

  -- one call, or several
  pub one : (log later : Log F) (a : Call F) → later ≡ with_call log a → has_failed a ≡ false → NoneFailed log later
  one log later a made well = ap failed_calls made ∙ added log a well

  pub two : (log later : Log F) (a b : Call F) → later ≡ with_call (with_call log a) b → has_failed a ≡ false → has_failed b ≡ false → NoneFailed log later
  two log later a b made first well = one (with_call log a) later b made well ∙ added log a first

  pub three : (log later : Log F) (a b c : Call F) → later ≡ with_call (with_call (with_call log a) b) c → has_failed a ≡ false → has_failed b ≡ false → has_failed c ≡ false → NoneFailed log later
  three log later a b c made first second well = one (with_call (with_call log a) b) later c made well ∙ two log _ a b refl first second

  pub four : (log later : Log F) (a b c d : Call F) → later ≡ with_call (with_call (with_call (with_call log a) b) c) d → has_failed a ≡ false → has_failed b ≡ false → has_failed c ≡ false → has_failed d ≡ false → NoneFailed log later
  four log later a b c d made first second third well = one (with_call (with_call (with_call log a) b) c) later d made well ∙ three log _ a b c refl first second third

  -- calls for each of some names
  pub each : (asking : Asking F) → ((name : List ℕ) (log later : Log F) → asking name log later → NoneFailed log later) → (names : List (List ℕ)) (log later : Log F) → ForEach asking names log later → NoneFailed log later
  each asking well [] log later made = unchanged made
  each asking well (name ∷ names) log later made = each asking well names made.0 later made.2 ∙ well name log made.0 made.1
