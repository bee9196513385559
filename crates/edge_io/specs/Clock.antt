-- Which times a clock gives.
use Rattle.std.specs.Prelude.{◌≡◌, ℕ, ◌-◌, ◌^◌, min, map, List, [], ◌∷◌, Option, Some, None, Result, Ok, Err}
use Rattle.std.specs.Duration.{as_nanos}
use Rattle.std.specs.declared.time.Duration.{Duration}

-- the first of the times to come, and 0 where there is none
abbrev pub first_time : List ℕ → ℕ
first_time [] = 0
first_time (time ∷ later) = time

-- the times to come after the first one was given: the last one stays for ever
abbrev pub later_times : List ℕ → List ℕ
later_times [] = []
later_times (last ∷ []) = last ∷ []
later_times (time ∷ next ∷ later) = next ∷ later

-- a told clock gives the first of its times, and one that isn't told stays untold
abbrev pub Ticks : Option (List ℕ) → Option (List ℕ) → ℕ → Type 0
Ticks None new time = new ≡ None
Ticks (Some times) new time = (time ≡ first_time times) × (new ≡ Some (later_times times))

-- a reading in nanoseconds, and 0 where it gives no time
abbrev pub nanoseconds_in : {X : Type 0} → Result Duration X → ℕ
nanoseconds_in (Ok time) = as_nanos time
nanoseconds_in (Err _) = 0

-- nanoseconds, as far as 64 bits count them
abbrev pub capped : ℕ → ℕ
capped nanoseconds = min nanoseconds (2 ^ 64 - 1)

-- the times of a clock over these readings
abbrev pub times_of : Option (List ℕ) → Option (List ℕ)
times_of None = None
times_of (Some readings) = Some (map capped readings)
