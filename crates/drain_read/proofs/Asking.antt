-- A machine whose call is out, and then what its result leads to.
use Rattle.std.proofs.Common.{◌≡◌, Some, None, ap, sym, ◌∙◌}
use Rattle.std.proofs.lemmas.Option.{none-some, same_Some}
use Rattle.mount_model.specs.Program.{Program, done, ask, followed_by}
use Rattle.mount_model.specs.Standing.{Standing, ready, over, awaits, next_of, rest_of, replied}

module _ {A R X Y : Type 0} (next : X → Program A R Y) where
  -- once its call is out, the machine and all that follows are what they were before
  pub asked_on : (p : Program A R X) (s t : Standing A R X) (call : A) → s ≡ ready p → Some call ≡ next_of s → rest_of t ≡ rest_of s
      → ask call (λ reply. followed_by (replied (rest_of t) reply) next) ≡ followed_by p next
  asked_on (done x) s t call is some same = absurd (none-some call (sym (some ∙ ap next_of is)))
  asked_on (ask q k) s t call is some same =
      let rest : rest_of t ≡ awaits k = same ∙ ap rest_of is in
      let question : call ≡ q = same_Some call q (some ∙ ap next_of is) in
      ap (λ r. ask call (λ reply. followed_by (replied r reply) next)) rest ∙ ap (λ c. ask c (λ reply. followed_by (k reply) next)) question

  -- a machine without a further call has come to its result
  pub ended_on : (p : Program A R X) (s t : Standing A R X) (x : X) → s ≡ ready p → None ≡ next_of s → rest_of t ≡ rest_of s → rest_of t ≡ over x → followed_by p next ≡ next x
  ended_on (done y) s t x is none same end =
      let same_end : rest_of {A = A} {R = R} (ready (done y)) ≡ over x = sym (same ∙ ap rest_of is) ∙ end in
      let one : y ≡ x = cc in
      ap next one
  ended_on (ask q k) s t x is none same end = absurd (none-some q (none ∙ ap next_of is))
