-- One caller's calls in a legal history.
use Rattle.std.proofs.Common.{◌≡◌, ℕ, List, [], ◌∷◌, ◌++◌, refl, subst, true, false, nat_eq, arith}
use Rattle.std.specs.Prelude.{if◌then◌else◌}
use Rattle.std.proofs.lemmas.Bool.Decides.{nat_tests}
use Rattle.mount_model.specs.Step.{IsStep}
use Rattle.mount_model.specs.History.{Event}
use Rattle.mount_sound.specs.Owed.{IsLawful}
use Rattle.reader_laws.specs.Moments.{Moment, IsSoundAt, next_moment, moment_after, Grows}
use Rattle.reader_laws.specs.Seen.{Asked, asked_in, calls_of, IsSeen}
use Rattle.reader_laws.proofs.Gathered.Moments.Growing.{grows_refl, grows_trans}
use Rattle.reader_laws.proofs.Gathered.Moments.Stepping.{sound_next, grows_next}

pub alike : (a b : ℕ) → nat_eq a b ≡ true → a ≡ b
alike a b t = grind (arith, nat_tests)

pub sound_after : (m : Moment) (events : List Event) → IsLawful m.state events → IsSoundAt m → IsSoundAt (moment_after m events)
sound_after m [] legal sound = sound
sound_after m (e ∷ rest) legal sound = sound_after (next_moment m e) rest legal.2 (sound_next m e rest legal sound)

-- Later moments of a legal history extend earlier ones.
pub grows_after : (m : Moment) (events : List Event) → IsLawful m.state events → IsSoundAt m → Grows m (moment_after m events)
grows_after m [] legal sound = grows_refl m
grows_after m (e ∷ rest) legal sound = grows_trans m (next_moment m e) (moment_after (next_moment m e) rest) (grows_next m e rest legal sound) (grows_after (next_moment m e) rest legal.2 (sound_next m e rest legal sound))

seen_from : (caller : ℕ) (start now : Moment) (events : List Event) → Grows start now → IsLawful now.state events → IsSoundAt now → IsSeen caller start (calls_of caller events) (moment_after now events)
seen_from caller start now [] waited legal sound = waited
seen_from caller start now (e ∷ rest) waited legal sound =
    let next : Moment = next_moment now e in
    let goes : Grows now next = grows_next now e rest legal sound in
    let sound_then : IsSoundAt next = sound_next now e rest legal sound in
    elim (nat_eq e.caller caller) as (λ b. nat_eq e.caller caller ≡ b → IsSeen caller start (if b then asked_in e ∷ calls_of caller rest else calls_of caller rest) (moment_after next rest)) [
      | true ↦ λ t. (next, record { before = now; waits = waited; sound = sound; answers = subst (λ c. IsStep now.state c e.ask e.reply e.after) (alike e.caller caller t) legal.1; goes = goes }, seen_from caller next next rest (grows_refl next) legal.2 sound_then)
      | false ↦ λ t. seen_from caller start next rest (grows_trans start now next waited goes) legal.2 sound_then
    ] refl

-- A caller sees its own calls, whatever the others did between them.
pub seen : (caller : ℕ) (m : Moment) (events : List Event) → IsLawful m.state events → IsSoundAt m → IsSeen caller m (calls_of caller events) (moment_after m events)
seen caller m events legal sound = seen_from caller m m events (grows_refl m) legal sound

pub seen_grows : (caller : ℕ) (start end : Moment) (asked : List Asked) → IsSeen caller start asked end → Grows start end
seen_grows caller start end [] s = s
seen_grows caller start end (a ∷ rest) (next, call, s) = grows_trans start call.before end call.waits (grows_trans call.before next end call.goes (seen_grows caller next end rest s))

-- calls in two parts, with the moment between them
pub seen_split : (caller : ℕ) (start end : Moment) (mine others : List Asked) → IsSeen caller start (mine ++ others) end → (middle : Moment) × IsSeen caller start mine middle × IsSeen caller middle others end
seen_split caller start end [] others s = (start, grows_refl start, s)
seen_split caller start end (a ∷ mine) others (next, call, s) = let r = seen_split caller next end mine others s in (r.0, (next, call, r.1), r.2)

-- others may go on at the end
pub seen_more : (caller : ℕ) (start middle end : Moment) (asked : List Asked) → IsSeen caller start asked middle → Grows middle end → IsSeen caller start asked end
seen_more caller start middle end [] s g = grows_trans start middle end s g
seen_more caller start middle end (a ∷ rest) (next, call, s) g = (next, call, seen_more caller next middle end rest s g)

-- and at the start
pub seen_waits : (caller : ℕ) (start middle end : Moment) (asked : List Asked) → Grows start middle → IsSeen caller middle asked end → IsSeen caller start asked end
seen_waits caller start middle end [] g s = grows_trans start middle end g s
seen_waits caller start middle end (a ∷ rest) g (next, call, s) = (next, record { before = call.before; waits = grows_trans start middle call.before g call.waits; sound = call.sound; answers = call.answers; goes = call.goes }, s)
