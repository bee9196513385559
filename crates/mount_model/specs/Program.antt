-- What a caller asks next, and how it goes on with each reply.

-- A program is done with a result, or it asks and goes on with the reply.
pub data Program (Ask Reply Result : Type 0) : Type 0 where
  done : Result → Program Ask Reply Result
  ask : Ask → (Reply → Program Ask Reply Result) → Program Ask Reply Result

-- one program after another, which goes on with its result
abbrev pub followed_by : {Ask Reply Result Next : Type 0} → Program Ask Reply Result → (Result → Program Ask Reply Next) → Program Ask Reply Next
followed_by (done result) next = next result
followed_by (ask question k) next = ask question (λ reply. followed_by (k reply) next)

-- every question of the program is one of these
abbrev pub AsksOnly : {Ask Reply Result : Type 0} → (Ask → Type 0) → Program Ask Reply Result → Type 0
AsksOnly these (done result) = Unit {0}
AsksOnly {Reply = Reply} these (ask question k) = these question × ((reply : Reply) → AsksOnly these (k reply))
