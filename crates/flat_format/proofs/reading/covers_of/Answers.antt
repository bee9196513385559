use Rattle.std.proofs.Common.{◌≡◌, sym, ap, ◌∙◌, refl, subst, List, [], ◌∷◌, ◌++◌, arith, drop, ◌+◌}
use Rattle.plfs_types.specs.declared.entries.Cover.{Cover}
use Rattle.index_entry.proofs.Facts.{grows}
use Rattle.flat_format.specs.Covers.{AreCovers}
use Rattle.flat_format.specs.Reading.{cover_in, covers_in}
use Rattle.flat_format.proofs.Breaking.{breaks}
use Rattle.flat_format.proofs.reading.covers_of.Goals as goal

pub returns-then-not-can_follow-clause-bad : goal.returns-then-not-can_follow-clause-bad
returns-then-not-can_follow-clause-bad c =
    let more : covers_in (c.loop-index.index + 1) c.args.bytes.now ≡ c.loop-index.covers.items ++ c.cover_at-cover.result ∷ [] =
    grows cover_in 32 24 c.loop-index.index c.args.bytes.now c.loop-index.covers.items c.cover_at-cover.result c.loop-index.invariant.read c.cover_at-cover.ensures in
    let seen : c.loop-index.covers.items ++ c.cover_at-cover.result ∷ [] ≡ c.as_slice.result.now ++ c.cover_at-cover.result ∷ [] =
    ap (λ (covers : List Cover). covers ++ c.cover_at-cover.result ∷ []) (sym c.as_slice.ensures.value) in
    let P : List Cover → Type 0 = λ covers. AreCovers covers in (
      c.loop-index.index,
      breaks AreCovers cover_in 32 c.args.count c.loop-index.index (drop 24 c.args.bytes.now) (omega arith)
          (subst P c.loop-index.invariant.read c.loop-index.invariant.valid)
          (λ are. absurd (cc (c.can_follow.ensures.1 (subst P (more ∙ seen) are), c.if-not-can_follow.true))),
      refl,
    )

pub loop-index-preserved : goal.loop-index-preserved
loop-index-preserved c =
    let more : covers_in (c.loop-index.index + 1) c.args.bytes.now ≡ c.loop-index.covers.items ++ c.cover_at-cover.result ∷ [] =
    grows cover_in 32 24 c.loop-index.index c.args.bytes.now c.loop-index.covers.items c.cover_at-cover.result c.loop-index.invariant.read c.cover_at-cover.ensures in
    let seen : c.as_slice.result.now ++ c.cover_at-cover.result ∷ [] ≡ c.loop-index.covers.items ++ c.cover_at-cover.result ∷ [] =
    ap (λ (covers : List Cover). covers ++ c.cover_at-cover.result ∷ []) c.as_slice.ensures.value in
    let P : List Cover → Type 0 = λ covers. AreCovers covers in
    record {
      read = c.in_ok-push.ensures.items ∙ sym more;
      valid = subst P (seen ∙ sym c.in_ok-push.ensures.items) (c.if-not-can_follow.ensures.0 refl);
    }
