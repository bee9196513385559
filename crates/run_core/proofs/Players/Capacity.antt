-- An actor's capacity is in its range.
use Rattle.std.proofs.Common.{◌≡◌, ◌≤◌, ℕ, refl, sym, ap, ◌∙◌, subst, true, false}
use Rattle.actor_core.specs.declared.kept.Kept.{Kept}
use Rattle.actor_core.specs.declared.kept.Stop.{Stop}
use Rattle.actor_core.specs.declared.actor.Actor.{Actor}
use Rattle.actor_core.specs.declared.actor.State.{State}
use Rattle.actor_core.specs.declared.actor.State.TheVariants.{Idle, Told, Working, HandedOut, Greeting, Greeted}
use Rattle.actor_core.specs.Progress.{Progress, idle, going, asked, told}
use Rattle.actor_core.specs.Standings.{Underway, goes, waits, busy, greeting, greeting_out, doing_ready, doing_asked, state_progress, progress_of}
use Rattle.std.specs.Prelude.{Option}

-- what an idle actor keeps
abbrev kept_or : Kept → Progress → Kept
kept_or other (idle kept) = kept
kept_or other progress = other

busy_keeps : (kept : Kept) (number : ℕ) (u : Underway) → kept_or kept (busy number u) ≡ kept
busy_keeps kept number (goes work) = refl
busy_keeps kept number (waits k) = refl

greeting_keeps : (kept : Kept) (number : ℕ) (u : Underway) → kept_or kept (greeting number u) ≡ kept
greeting_keeps kept number (goes work) = refl
greeting_keeps kept number (waits k) = refl

out_keeps : (kept : Kept) (number : ℕ) (u : Underway) → kept_or kept (greeting_out number u) ≡ kept
out_keeps kept number (goes work) = refl
out_keeps kept number (waits k) = refl

keeps : (number : ℕ) (kept : Kept) (stop : Option Stop) (state : State) → kept_or kept (state_progress number kept stop state) ≡ kept
keeps number kept stop Idle = refl
keeps number kept stop (Told line) = refl
keeps number kept stop (Working doing false) = busy_keeps kept number (doing_ready kept stop doing)
keeps number kept stop (Working doing true) = busy_keeps kept number (doing_asked kept stop doing)
keeps number kept stop (HandedOut listed) = refl
keeps number kept stop (Greeting doing) = greeting_keeps kept number (doing_ready kept stop doing)
keeps number kept stop (Greeted doing) = out_keeps kept number (doing_ready kept stop doing)

pub capacity : (actor : Actor) (kept : Kept) → progress_of actor ≡ idle kept → (1 ≤ kept.cap) × (kept.cap ≤ 4096)
capacity actor kept is =
    let same : actor.kept ≡ kept = sym (keeps actor.number actor.kept actor.stop actor.state) ∙ ap (kept_or actor.kept) is in
    subst (λ (k : Kept). (1 ≤ k.cap) × (k.cap ≤ 4096)) same (actor.some, actor.few)
