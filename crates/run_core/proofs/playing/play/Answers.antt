use Rattle.share_workers.proofs.Facts.{on_err}
use Rattle.std.proofs.Common.{◌≡◌, ℕ, List, sym, subst}
use Rattle.std.specs.Prelude.{All}
use Rattle.script_lang.specs.declared.script.ActorDecl.{ActorDecl}
use Rattle.script_lang.specs.declared.script.Phase.{Phase}
use Rattle.script_lang.specs.Ranges.{FitsPhase}
use Rattle.run_core.specs.declared.player.Player.{Player}
use Rattle.run_core.specs.World.{IsCast, PlayedSoFar}
use Rattle.run_core.specs.Broken.{PlayIsBroken}
use Rattle.run_core.proofs.Plays.BrokenPlays.{cast_breaks, play_not_begun}
use Rattle.run_core.proofs.Plays.Phases.{is_play}
use Rattle.run_core.proofs.Lines.Caused.{play_caused}
use Rattle.run_core.proofs.Lines.WorksText.{play_has_text}
use Rattle.run_core.proofs.playing.play.Goals as goal

pub play_all-requires-clause-fits : goal.play_all-requires-clause-fits
play_all-requires-clause-fits g c =
    let here : c.deref_mut.result.now ≡ c.in_ok-players.players.items = c.deref_mut.ensures.value in
    let Casts : List ActorDecl × List Player → Type 0 = λ z. IsCast z.0 z.1 in
    let cast : IsCast c.args.script.now.actors c.deref_mut.result.now = subst Casts (λ i. (c.as_slice.ensures i, sym here i)) c.in_ok-players.ensures in
    let Fits : ℕ × List Phase → Type 0 = λ z. All (FitsPhase z.0) z.1 in
    subst Fits (λ i. (sym cast.long i, sym c.as_slice-phases.ensures i)) c.requires.playable.fits.phased

pub play_all-requires-clause-stand : goal.play_all-requires-clause-stand
play_all-requires-clause-stand g c =
    let here : c.deref_mut.result.now ≡ c.in_ok-players.players.items = c.deref_mut.ensures.value in
    let Casts : List ActorDecl × List Player → Type 0 = λ z. IsCast z.0 z.1 in
    let cast : IsCast c.args.script.now.actors c.deref_mut.result.now = subst Casts (λ i. (c.as_slice.ensures i, sym here i)) c.in_ok-players.ensures in
    cast.stand c.args.mount.now c.requires.fine

pub returns-clause-plays : goal.returns-clause-plays
returns-clause-plays g c =
    let here : c.deref_mut.result.now ≡ c.in_ok-players.players.items = c.deref_mut.ensures.value in
    let Casts : List ActorDecl × List Player → Type 0 = λ z. IsCast z.0 z.1 in
    let cast : IsCast c.args.script.now.actors c.deref_mut.result.now = subst Casts (λ i. (c.as_slice.ensures i, sym here i)) c.in_ok-players.ensures in
    is_play c.args.script.now c.play_all.new.lines c.deref_mut.result.now c.play_all.new.players c.args.mount.now c.play_all.new.mount cast
    (subst (λ (z : List Phase). PlayedSoFar z c.play_all.new.lines c.deref_mut.result.now c.args.mount.now c.play_all.new.players c.play_all.new.mount) c.as_slice-phases.ensures c.in_ok-play_all.ensures.played)

pub returns-clause-text : goal.returns-clause-text
returns-clause-text g c =
    let here : c.deref_mut.result.now ≡ c.in_ok-players.players.items = c.deref_mut.ensures.value in
    let Casts : List ActorDecl × List Player → Type 0 = λ z. IsCast z.0 z.1 in
    let cast : IsCast c.args.script.now.actors c.deref_mut.result.now = subst Casts (λ i. (c.as_slice.ensures i, sym here i)) c.in_ok-players.ensures in
    let play = is_play c.args.script.now c.play_all.new.lines c.deref_mut.result.now c.play_all.new.players c.args.mount.now c.play_all.new.mount cast
    (subst (λ (z : List Phase). PlayedSoFar z c.play_all.new.lines c.deref_mut.result.now c.args.mount.now c.play_all.new.players c.play_all.new.mount) c.as_slice-phases.ensures c.in_ok-play_all.ensures.played) in
    play_has_text c.args.script.now c.args.mount.now c.play_all.new.lines c.play_all.new.mount c.requires.playable play

pub returns-clause-cause : goal.returns-clause-cause
returns-clause-cause g c =
    let here : c.deref_mut.result.now ≡ c.in_ok-players.players.items = c.deref_mut.ensures.value in
    let Casts : List ActorDecl × List Player → Type 0 = λ z. IsCast z.0 z.1 in
    let cast : IsCast c.args.script.now.actors c.deref_mut.result.now = subst Casts (λ i. (c.as_slice.ensures i, sym here i)) c.in_ok-players.ensures in
    let play = is_play c.args.script.now c.play_all.new.lines c.deref_mut.result.now c.play_all.new.players c.args.mount.now c.play_all.new.mount cast
    (subst (λ (z : List Phase). PlayedSoFar z c.play_all.new.lines c.deref_mut.result.now c.args.mount.now c.play_all.new.players c.play_all.new.mount) c.as_slice-phases.ensures c.in_ok-play_all.ensures.played) in
    play_caused c.args.script.now c.args.mount.now c.play_all.new.lines c.play_all.new.mount c.requires.playable play

pub returns-in_err-players-clause-broken : goal.returns-in_err-players-clause-broken
returns-in_err-players-clause-broken g c = on_err c.from_residual.result _ (
    play_not_begun c.args.script.now c.args.mount.now)

pub returns-in_err-play_all-clause-broken : goal.returns-in_err-play_all-clause-broken
returns-in_err-play_all-clause-broken g c = on_err c.from_residual-in_err-play_all.result _ (
    let here : c.deref_mut.result.now ≡ c.in_ok-players.players.items = c.deref_mut.ensures.value in
    let Casts : List ActorDecl × List Player → Type 0 = λ z. IsCast z.0 z.1 in
    let cast : IsCast c.args.script.now.actors c.deref_mut.result.now = subst Casts (λ i. (c.as_slice.ensures i, sym here i)) c.in_ok-players.ensures in
    cast_breaks c.args.script.now c.deref_mut.result.now c.args.mount.now c.play_all.new.mount cast
    (subst (λ (z : List Phase). PlayIsBroken z c.deref_mut.result.now c.args.mount.now c.play_all.new.mount) c.as_slice-phases.ensures c.in_err-play_all.ensures.broken))
