-- Greetings and looks leave a plain machine as it is.
use Rattle.std.proofs.Common.{◌≡◌, ℕ, List, [], ◌∷◌, None, refl}
use Rattle.mount_model.specs.declared.call.Call.{Call}
use Rattle.mount_model.specs.declared.call.Call.TheVariants.{Find, Greet, Look}
use Rattle.mount_model.specs.declared.reply.Reply.{Reply}
use Rattle.mount_model.specs.History.{Event}
use Rattle.mount_model.specs.State.{State}
use Rattle.mount_model.specs.Step.{Answers}
use Rattle.mount_sound.specs.Issued.{issued_after}
use Rattle.mount_sound.specs.Owed.{IsLawful}
use Rattle.migrate_laws.specs.Moments.{IsLooking}
use Rattle.reader_laws.specs.Moments.{IsSoundAt, Moment, moment_after, next_moment}
use Rattle.reader_laws.proofs.Gathered.Facts.{sound_after}
use Rattle.writer_laws.proofs.Stops.{whole_answers}
use Rattle.plain_machine.specs.Machine.{Plain}
use Rattle.plain_plays.specs.ByItself.{AreIdle}
use Rattle.plain_plays.specs.Mirrors.{Mirrors}
use Rattle.plain_plays.proofs.PlainSteps.ByName.Looking.{IsAlike, alike_both, alike_same, machine_alike, same_state, sight_alike}

idle_so : (m : Moment) → IsSoundAt m → (caller : ℕ) (call : Call) (reply : Reply) (after : State) → IsLooking call → Answers m.state caller call reply after → IsAlike m (record { state = after; issued = issued_after m.issued m.state call reply })
idle_so m sound caller Greet reply after is a = same_state m sound Greet reply after a.1 refl
idle_so m sound caller (Find name) reply after is a = sight_alike m sound caller (Find name) reply after tt a
idle_so m sound caller (Look room look) reply after is a = sight_alike m sound caller (Look room look) reply after tt a
idle_so m sound caller call reply after is a = absurd is

idle_alike : (m : Moment) → IsSoundAt m → (e : Event) → IsLawful m.state (e ∷ []) → e.ask.stop ≡ None → IsLooking e.ask.call → IsAlike m (next_moment m e)
idle_alike m sound e lawful whole is = idle_so m sound e.caller e.ask.call e.reply e.after is (whole_answers m.state e.caller e.ask e.reply e.after whole lawful.1)

all_alike : (events : List Event) (m : Moment) → IsSoundAt m → IsLawful m.state events → AreIdle events → IsAlike m (moment_after m events)
all_alike [] m sound lawful are = alike_same m
all_alike (e ∷ events) m sound lawful are =
    let first : IsLawful m.state (e ∷ []) = (lawful.0, lawful.1, tt) in
    alike_both m (next_moment m e) (moment_after m (e ∷ events)) (idle_alike m sound e first are.0.0 are.0.1) (all_alike events (next_moment m e) (sound_after m (e ∷ []) first sound) lawful.2 are.1)

-- Who only greets and looks leaves the machine as it was.
pub idle_mirrors : (m : Moment) (p : Plain) (events : List Event) → IsLawful m.state events → AreIdle events → Mirrors m p → Mirrors (moment_after m events) p
idle_mirrors m p events lawful are o = machine_alike m (moment_after m events) (all_alike events m o.sound lawful are) (sound_after m events lawful o.sound) p o
