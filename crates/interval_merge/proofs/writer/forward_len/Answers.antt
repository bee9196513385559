use Rattle.std.proofs.Common.{◌≡◌, [], List, take, length, subst, arith, ℕ}
use Rattle.std.proofs.lemmas.List.{append-nil}
use Rattle.plfs_types.specs.declared.entries.Entry.{Entry}
use Rattle.interval_merge.specs.Writer.{AscendFrom}
use Rattle.interval_merge.proofs.writer.forward_len.Goals as goal

pub returns-then-entry-end-clause-forward : goal.returns-then-entry-end-clause-forward
returns-then-entry-end-clause-forward c =
    let P : List Entry → Type 0 = λ es. AscendFrom 0 es in
    subst P (append-nil (take c.loop-i.i c.args.entries.now)) (c.loop-i.invariant.forward [] tt)

pub returns-clause-forward : goal.returns-clause-forward
returns-clause-forward c =
    let P : List Entry → Type 0 = λ es. AscendFrom 0 es in
    let Q : ℕ → Type 0 = λ n. AscendFrom 0 (take n c.args.entries.now) in
    let all : c.loop-i.i ≡ length c.args.entries.now = omega arith in
    subst Q all (subst P (append-nil (take c.loop-i.i c.args.entries.now)) (c.loop-i.invariant.forward [] tt))
