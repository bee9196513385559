-- A machine, and then what its result leads to.
use Rattle.std.specs.Prelude.{Bool, true, false, Option, Some, None}
use Rattle.mount_model.specs.Program.{Program, ask, followed_by}
use Rattle.mount_model.specs.Standing.{Standing, ready, asked, Rest, over, awaits, rest_of}

-- what stands so, and then what follows of its result
abbrev pub then_on : {A R X Y : Type 0} → Standing A R X → (X → Program A R Y) → Standing A R Y
then_on (ready program) next = ready (followed_by program next)
then_on (asked k) next = asked (λ reply. followed_by (k reply) next)

-- what comes after the question, of the machine or of what its result leads to
abbrev pub rest_then : {A R X Y : Type 0} → Rest A R X → (X → Program A R Y) → Rest A R Y
rest_then (over result) next = rest_of (ready (next result))
rest_then (awaits k) next = awaits (λ reply. followed_by (k reply) next)

-- there is a question whose reply is to come
abbrev pub is_awaiting : {A R X : Type 0} → Rest A R X → Bool
is_awaiting (over result) = false
is_awaiting (awaits k) = true

-- a question that isn't given yet, or was given, and then what its reply leads to
abbrev pub calling : {A R X Y : Type 0} → Option A → Rest A R X → (X → Program A R Y) → Standing A R Y
calling call (over result) next = ready (next result)
calling (Some call) (awaits k) next = ready (ask call (λ reply. followed_by (k reply) next))
calling None (awaits k) next = asked (λ reply. followed_by (k reply) next)
