-- Where no line was told none waits.
use Rattle.std.proofs.Common.{◌≡◌, ℕ, Option, None, refl, true, false}
use Rattle.std.specs.Prelude.{◌≢◌}
use Rattle.script_lang.specs.declared.line.Line.{Line}
use Rattle.actor_core.specs.declared.actor.State.{State}
use Rattle.actor_core.specs.declared.actor.State.TheVariants.{Idle, Told, Working, HandedOut, Greeting, Greeted}
use Rattle.actor_core.specs.declared.kept.Kept.{Kept}
use Rattle.actor_core.specs.declared.kept.Stop.{Stop}
use Rattle.actor_core.specs.Progress.{line_taken, waiting_line}
use Rattle.actor_core.specs.Standings.{Underway, goes, waits, busy, greeting, greeting_out, doing_ready, doing_asked, state_progress}

none_busy : (number : ℕ) (work : Underway) → waiting_line (busy number work) ≡ None
none_busy number (goes work) = refl
none_busy number (waits k) = refl

same_busy : (number : ℕ) (work : Underway) → line_taken (busy number work) ≡ busy number work
same_busy number (goes work) = refl
same_busy number (waits k) = refl

none_greeting : (number : ℕ) (work : Underway) → waiting_line (greeting number work) ≡ None
none_greeting number (goes work) = refl
none_greeting number (waits k) = refl

same_greeting : (number : ℕ) (work : Underway) → line_taken (greeting number work) ≡ greeting number work
same_greeting number (goes work) = refl
same_greeting number (waits k) = refl

none_greeted : (number : ℕ) (work : Underway) → waiting_line (greeting_out number work) ≡ None
none_greeted number (goes work) = refl
none_greeted number (waits k) = refl

same_greeted : (number : ℕ) (work : Underway) → line_taken (greeting_out number work) ≡ greeting_out number work
same_greeted number (goes work) = refl
same_greeted number (waits k) = refl

-- so of a state in which none was told
module _ (number : ℕ) (kept : Kept) (stop : Option Stop) where
  pub no_line : (state : State) → ((line : Line) → state ≢ Told line) → waiting_line (state_progress number kept stop state) ≡ None
  no_line Idle none = refl
  no_line (Told line) none = absurd (none line refl)
  no_line (Working doing false) none = none_busy number (doing_ready kept stop doing)
  no_line (Working doing true) none = none_busy number (doing_asked kept stop doing)
  no_line (HandedOut listed) none = refl
  no_line (Greeting doing) none = none_greeting number (doing_ready kept stop doing)
  no_line (Greeted doing) none = none_greeted number (doing_ready kept stop doing)

  pub none_taken : (state : State) → ((line : Line) → state ≢ Told line) → line_taken (state_progress number kept stop state) ≡ state_progress number kept stop state
  none_taken Idle none = refl
  none_taken (Told line) none = absurd (none line refl)
  none_taken (Working doing false) none = same_busy number (doing_ready kept stop doing)
  none_taken (Working doing true) none = same_busy number (doing_asked kept stop doing)
  none_taken (HandedOut listed) none = refl
  none_taken (Greeting doing) none = same_greeting number (doing_ready kept stop doing)
  none_taken (Greeted doing) none = same_greeted number (doing_ready kept stop doing)
