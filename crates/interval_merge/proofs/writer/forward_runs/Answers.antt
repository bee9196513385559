use Rattle.std.proofs.Common.{◌+◌, ◌∷◌, ◌++◌, [], ℕ, List, drop, get_or, option_to_list, ap, sym, subst, arith}
use Rattle.plfs_types.specs.declared.entries.Entry.{Entry}
use Rattle.plain_file.specs.declared.pieces.Piece.{Piece}
use Rattle.interval_merge.specs.Sweep.{AllEndBy, Extends}
use Rattle.interval_merge.proofs.WriterLemmas.{Laid-at, Laid-ready, Laid-more}
use Rattle.interval_merge.proofs.writer.forward_runs.Goals as goal

pub extend-requires-clause-ends : goal.extend-requires-clause-ends
extend-requires-clause-ends c =
    let es = c.args.entries.now in
    let i = c.loop-entry.entry-index in
    let e : Entry = get_or es i (record { at = 0; len = 0; physical = 0; stamp = 0; writer = 0 }) in
    let runs : List Piece = c.loop-entry.done ++ option_to_list c.loop-entry.last in
    let P : ℕ → Type 0 = λ n. AllEndBy n runs in
    subst P (sym (ap (λ (p : Piece). p.at) c.whole_piece.ensures)) (Laid-ready runs e (drop (i + 1) es) es (Laid-at runs i _ es es (omega arith) c.loop-entry.invariant.laid))

pub loop-entry-preserved : goal.loop-entry-preserved
loop-entry-preserved c =
    let es = c.args.entries.now in
    let i = c.loop-entry.entry-index in
    let e : Entry = get_or es i (record { at = 0; len = 0; physical = 0; stamp = 0; writer = 0 }) in
    let runs : List Piece = c.loop-entry.done ++ option_to_list c.loop-entry.last in
    let new : List Piece = c.extend.new.done ++ c.in_ok-extend.field-0 ∷ [] in
    let P : Piece → Type 0 = λ p. Extends runs p new in
    record {
      laid = Laid-more runs new e (drop (i + 1) es) es (Laid-at runs i _ es es (omega arith) c.loop-entry.invariant.laid) (subst P c.whole_piece.ensures c.in_ok-extend.ensures);
      started = λ none. absurd (cc);
    }
