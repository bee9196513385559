-- A player that may go on still may once others called, and after a call of its own.
use Rattle.std.proofs.Common.{◌≡◌, ◌≢◌, ℕ, List, [], ◌∷◌, sym, ◌∙◌, subst}
use Rattle.std.specs.Prelude.{All}
use Rattle.mount_model.specs.declared.call.Ask.{Ask}
use Rattle.mount_model.specs.declared.reply.Reply.{Reply}
use Rattle.mount_model.specs.State.{State}
use Rattle.mount_model.specs.History.{Event, state_after}
use Rattle.mount_model.specs.Step.{IsStep}
use Rattle.mount_sound.specs.Owed.{IsLawful, Permits}
use Rattle.mount_sound.specs.Sound.{IsFine}
use Rattle.mount_sound.proofs.Facts.{step_fine}
use Rattle.mount_model.specs.Safe.{AreOthers, IsSafeProcess}
use Rattle.mount_model.proofs.Stories.Facts.{process_lasts}
use Rattle.script_lang.specs.declared.script.Numbered.{Numbered}
use Rattle.actor_core.specs.declared.kept.Kept.{Kept}
use Rattle.actor_core.specs.Progress.{Progress, idle, going, asked, handed, told}
use Rattle.actor_core.specs.Standings.{progress_of}
use Rattle.run_core.specs.declared.player.Player.{Player}
use Rattle.run_core.specs.Leading.{Leads}
use Rattle.mount_model.specs.History.{AreBy}
use Rattle.run_core.specs.Players.{IsFit, IsMade, IsSafeProgress, waiting_in}

fine_along : (old : State) (events : List Event) (new : State) → Leads old events new → IsFine old → IsFine new
fine_along old events new leads fine = subst IsFine leads.ends (along old events leads.lawful fine)
  where
    along : (old : State) (events : List Event) → IsLawful old events → IsFine old → IsFine (state_after old events)
    along old [] lawful fine = fine
    along old (e ∷ es) lawful fine = along e.after es lawful.2 (step_fine old e.after e.caller e.ask e.reply lawful.0 lawful.1 fine)

-- lawful calls of another caller, from a fine state
others_of : (number other : ℕ) → other ≢ number → (old : State) (events : List Event) → IsFine old → IsLawful old events → AreBy other events → AreOthers IsStep Permits number old events
others_of number other apart old [] fine lawful by_it = tt
others_of number other apart old (e ∷ es) fine lawful by_it = (
  (λ same. apart (sym by_it.0 ∙ same)),
  (fine, lawful.0),
  lawful.1,
  others_of number other apart e.after es (step_fine old e.after e.caller e.ask e.reply lawful.0 lawful.1 fine) lawful.2 by_it.1,
)

safe_lasts : (number other : ℕ) → other ≢ number → (progress : Progress) (old : State) (events : List Event) (new : State) → Leads old events new → AreBy other events → IsFine old → IsSafeProgress number progress old → IsSafeProgress number progress new
safe_lasts number other apart (idle kept) old events new leads by_it fine safe = tt
safe_lasts number other apart (going line work) old events new leads by_it fine safe = (
  safe.0,
  subst (λ (z : State). IsSafeProcess IsStep Permits number work z) leads.ends (process_lasts IsStep Permits number work old events (others_of number other apart old events fine leads.lawful by_it) safe.1),
)
safe_lasts number other apart (asked line k) old events new leads by_it fine safe = absurd safe
safe_lasts number other apart (handed line k) old events new leads by_it fine safe = absurd safe
safe_lasts number other apart (told line kept) old events new leads by_it fine safe = tt

-- a player may go on after another caller's calls
pub fit_lasts : (player : Player) (other : ℕ) → other ≢ player.number → (old : State) (events : List Event) (new : State) → Leads old events new → AreBy other events → IsFit player old → IsFit player new
fit_lasts player other apart old events new leads by_it fit = record {
  fine = fine_along old events new leads fit.fine;
  safe = safe_lasts player.number other apart (progress_of player.actor) old events new leads by_it fit.fine fit.safe;
  made = fit.made;
}

-- with no statement in progress a player may go on
pub idle_fit : (player : Player) (now : State) (kept : Kept) → progress_of player.actor ≡ idle kept → All IsMade (waiting_in player) → IsFine now → IsFit player now
idle_fit player now kept is made fine = record {
  fine = fine;
  safe = (let P : Progress → Type 0 = λ z. IsSafeProgress player.number z now in subst P (sym is) tt);
  made = made;
}
