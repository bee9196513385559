-- Where a machine stands in its program.
use Rattle.std.specs.Prelude.{Option, Some, None}
use Rattle.mount_model.specs.Program.{AsksOnly, Program, done, ask}

-- It is to go on with this program, or a question was given for which it goes on so with the reply.
pub data Standing (Ask Reply Result : Type 0) : Type 0 where
  ready : Program Ask Reply Result → Standing Ask Reply Result
  asked : (Reply → Program Ask Reply Result) → Standing Ask Reply Result

-- the question to give, where there is one
abbrev pub next_of : {A R X : Type 0} → Standing A R X → Option A
next_of (ready (done result)) = None
next_of (ready (ask q k)) = Some q
next_of (asked k) = None

-- What comes after the question: the result where there is none, or what the reply decides.
pub data Rest (Ask Reply Result : Type 0) : Type 0 where
  over : Result → Rest Ask Reply Result
  awaits : (Reply → Program Ask Reply Result) → Rest Ask Reply Result

abbrev pub rest_of : {A R X : Type 0} → Standing A R X → Rest A R X
rest_of (ready (done result)) = over result
rest_of (ready (ask q k)) = awaits k
rest_of (asked k) = awaits k

-- the program once the reply has come
abbrev pub replied : {A R X : Type 0} → Rest A R X → R → Program A R X
replied (over result) reply = done result
replied (awaits k) reply = k reply

-- there is a question whose reply is to come
abbrev pub Awaits : {A R X : Type 0} → Rest A R X → Type 0
Awaits (over result) = ⊥
Awaits (awaits k) = Unit {0}

-- there is a result
abbrev pub IsOver : {A R X : Type 0} → Rest A R X → Type 0
IsOver (over result) = Unit {0}
IsOver (awaits k) = ⊥

-- no question is out
abbrev pub IsFresh : {A R X : Type 0} → Standing A R X → Type 0
IsFresh (ready p) = Unit {0}
IsFresh (asked k) = ⊥

-- every question that is to come is one of these
abbrev pub HasOnly : {A R X : Type 0} → (A → Type 0) → Standing A R X → Type 0
HasOnly these (ready p) = AsksOnly these p
HasOnly {R = R} these (asked k) = (reply : R) → AsksOnly these (k reply)
