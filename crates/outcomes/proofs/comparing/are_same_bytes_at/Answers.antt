use Rattle.std.proofs.Common.{drop, take}
use Rattle.std.proofs.lemmas.Simd.{length-chunk}
use Rattle.outcomes.proofs.Lanes.{no_mask}
use Rattle.outcomes.proofs.comparing.are_same_bytes_at.Goals as goal

pub returns : goal.returns
returns c =
    let a = c.args.a.now in
    let b = c.args.b.now in
    let at = c.args.at in
    no_mask (take 64 (drop at a)) (take 64 (drop at b)) (length-chunk at 64 a c.requires.0) (length-chunk at 64 b c.requires.1)
