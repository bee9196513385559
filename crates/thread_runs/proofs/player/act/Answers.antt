use Rattle.std.proofs.Common.{◌≡◌, ℕ, ◌∷◌, [], refl, subst}
use Rattle.mount_core.proofs.Memory.{on_err}
use Rattle.actor_core.specs.Progress.{begun}
use Rattle.actor_core.specs.Standings.{progress_of}
use Rattle.thread_runs.proofs.Acting.{begun_may, begun_busy, acted_by, broken_behind, broken_within, nothing_acted}
use Rattle.thread_runs.proofs.player.act.Goals as goal

pub drive-requires-clause-may : goal.drive-requires-clause-may
drive-requires-clause-may g c =
    let began = subst (λ (n : ℕ). progress_of c.begin.new.self ≡ begun (progress_of c.args.player.now.actor) n c.in_ok-copy.copy) c.line.ensures c.in_ok-begin.ensures in
    λ κs lives.
    begun_may c.args.turn.now c.args.player.now.pass c.args.player.now.actor (progress_of c.begin.new.self) c.args.statement.now.line c.in_ok-copy.copy c.requires.may c.requires.idle began

pub drive-requires-clause-busy : goal.drive-requires-clause-busy
drive-requires-clause-busy g c =
    let began = subst (λ (n : ℕ). progress_of c.begin.new.self ≡ begun (progress_of c.args.player.now.actor) n c.in_ok-copy.copy) c.line.ensures c.in_ok-begin.ensures in
    λ κs lives. begun_busy (progress_of c.args.player.now.actor) (progress_of c.begin.new.self) c.args.statement.now.line c.in_ok-copy.copy c.requires.idle began

pub returns-clause-acted : goal.returns-clause-acted
returns-clause-acted g c =
    let began = subst (λ (n : ℕ). progress_of c.begin.new.self ≡ begun (progress_of c.args.player.now.actor) n c.in_ok-copy.copy) c.line.ensures c.in_ok-begin.ensures in
    acted_by c.args.statement.now c.args.player.now _ (progress_of c.begin.new.self) c.in_ok-copy.copy c.in_ok-line.line c.requires.idle began c.in_ok-copy.ensures c.in_ok-line.ensures.comes c.in_ok-push.ensures refl

pub returns-in_err-copy-clause-broken : goal.returns-in_err-copy-clause-broken
returns-in_err-copy-clause-broken g c = on_err c.from_residual.result _ (nothing_acted (c.args.statement.now ∷ []) c.args.player.now _ c.requires.idle refl)

pub returns-in_err-begin-clause-broken : goal.returns-in_err-begin-clause-broken
returns-in_err-begin-clause-broken g c = on_err c.from_residual-in_err-begin.result _ (nothing_acted (c.args.statement.now ∷ []) c.args.player.now _ c.requires.idle refl)

pub returns-in_err-line-clause-broken : goal.returns-in_err-line-clause-broken
returns-in_err-line-clause-broken g c =
    let began = subst (λ (n : ℕ). progress_of c.begin.new.self ≡ begun (progress_of c.args.player.now.actor) n c.in_ok-copy.copy) c.line.ensures c.in_ok-begin.ensures in
    on_err c.from_residual-in_err-line.result _ (broken_within c.args.statement.now c.args.player.now _ (progress_of c.begin.new.self) c.in_ok-copy.copy c.requires.idle began c.in_ok-copy.ensures c.in_err-line.ensures.broken)

pub returns-in_err-push-clause-broken : goal.returns-in_err-push-clause-broken
returns-in_err-push-clause-broken g c =
    let began = subst (λ (n : ℕ). progress_of c.begin.new.self ≡ begun (progress_of c.args.player.now.actor) n c.in_ok-copy.copy) c.line.ensures c.in_ok-begin.ensures in
    on_err c.from_residual-in_err-push.result _ (broken_behind c.args.statement.now c.args.player.now _ (progress_of c.begin.new.self) c.in_ok-copy.copy c.in_ok-line.line _ c.requires.idle began c.in_ok-copy.ensures c.in_ok-line.ensures.comes)
