use Rattle.std.proofs.Common.{rules, ◌≡◌, ℕ, ◌+◌, ◌<◌, [], ◌∷◌, ◌++◌, length, take, set, get_or, sym, subst, ◌∙◌}
use Rattle.std.proofs.lemmas.List.{length-set}
use Rattle.share_workers.proofs.Facts.{taken_item}
use Rattle.thread_runs.specs.Parts.{statements_of, dealt, AreParts}
use Rattle.thread_runs.proofs.Dealing.{dealt_more}
use Rattle.thread_runs.proofs.parts.deal_out.Goals as goal

pub loop-statement-preserved : goal.loop-statement-preserved
loop-statement-preserved c =
    let all = c.args.statements.now in
    let i = c.loop-statement.statement-index in
    let s = c.statement-item.result in
    let parts = c.loop-statement.parts in
    let inv = c.loop-statement.invariant in
    let lt = c.loop-statement-test.true in
    let place = c.actor-place.result in
    let its : place ≡ s.actor = c.actor-place.ensures in
    let part = c.index-parts-place.result in
    let after = c.push.new.self in
    let grew = subst (λ (n : ℕ). statements_of after ≡ statements_of (get_or parts n part) ++ s ∷ []) its c.in_ok-push.ensures in
    let there : s.actor < length parts = search rules in (
      length-set parts place after ∙ inv.0,
      subst (λ (n : ℕ). AreParts (take (i + 1) all) (dealt (set parts n after))) (sym its)
          (dealt_more (take i all) (take (i + 1) all) s parts part after (taken_item all i s lt c.statement-item.is) inv.1 there grew),
    )
