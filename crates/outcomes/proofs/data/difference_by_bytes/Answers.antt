use Rattle.std.proofs.Common.{◌<◌, ◌≤◌, length, drop, sym, ◌∙◌, arith}
use Rattle.outcomes.specs.Data.{bytes_of}
use Rattle.outcomes.proofs.DataLemmas.{length_is, none_past, ended_at, differs_at}
use Rattle.outcomes.proofs.data.difference_by_bytes.Goals as goal
use Rattle.outcomes.proofs.data.difference_by_bytes.Goals.{then-j-found-via-then-j-found, then-j-found-via-else-j-found+then-found-j}

pub returns-then-j-found : goal.returns-then-j-found
returns-then-j-found c =
    let wanted = bytes_of c.args.content.now in
    let within : c.loop-j.j < length wanted = omega (arith, length_is c.args.content.now, c.length-len.ensures, c.loop-j-test.true) in
    elim c.then-j-found.branch [
      | then-j-found-via-then-j-found w ↦
          sym (ended_at wanted c.args.found.now c.loop-j.j c.loop-j.j within w.if-j-found.true) ∙ c.loop-j.invariant
      | then-j-found-via-else-j-found+then-found-j w ↦
          sym (differs_at wanted c.args.found.now c.loop-j.j c.loop-j.j within (omega (arith, w.if-j-found.false)) (λ e. w.if-found-j.true (e ∙ sym w.byte_at.ensures))) ∙ c.loop-j.invariant
    ]

pub returns : goal.returns
returns c =
    let wanted = bytes_of c.args.content.now in
    let past : length wanted ≤ c.loop-j.j = omega (arith, length_is c.args.content.now, c.length-len.ensures, c.loop-j-test.false) in
    sym (none_past wanted (drop c.loop-j.j c.args.found.now) c.loop-j.j c.loop-j.j past) ∙ c.loop-j.invariant
