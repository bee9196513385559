use Rattle.std.proofs.Common.{sym, subst, ◌∙◌}
use Rattle.frame_streams.specs.declared.filling.Ending.{Ending}
use Rattle.frame_streams.specs.Filling.{HasFilled}
use Rattle.frame_streams.proofs.Arrivals.{begun_if, joined_if, none_begun}
use Rattle.frame_streams.proofs.Outputs.{on_err}
use Rattle.frame_streams.proofs.arriving.next_frame.Goals as goal

pub returns-in_err-front-clause-begun : goal.returns-in_err-front-clause-begun
returns-in_err-front-clause-begun g c =
    on_err c.from_residual.result _ (none_begun (g.I.Source.given c.args.input.now) (g.I.Source.given c.read_bytes.new.input) c.in_err-front.ensures.unread)

pub returns-in-Full-clause-arrives : goal.returns-in-Full-clause-arrives
returns-in-Full-clause-arrives g c =
    let given = g.I.Source.given in
    let Fills : Ending → Type 0 = λ z. HasFilled 48 c.in_ok-front.front.bytes z (given c.args.input.now) (given c.read_bytes.new.input) in
    joined_if c.behind_head.result c.in_ok-front.front.bytes c.read-head.result (given c.args.input.now) (given c.read_bytes.new.input) (given c.behind_head.new.input) (subst Fills c.in-Full.is c.in_ok-front.ensures.fills)
    (sym c.as_slice.ensures ∙ c.read-head.ensures.found) c.behind_head.ensures.arrives

pub returns-in-Full-clause-begun : goal.returns-in-Full-clause-begun
returns-in-Full-clause-begun g c =
    let given = g.I.Source.given in
    let Fills : Ending → Type 0 = λ z. HasFilled 48 c.in_ok-front.front.bytes z (given c.args.input.now) (given c.read_bytes.new.input) in
    begun_if c.behind_head.result c.in_ok-front.front.bytes c.read-head.result (given c.args.input.now) (given c.read_bytes.new.input) (given c.behind_head.new.input) (subst Fills c.in-Full.is c.in_ok-front.ensures.fills)
    (sym c.as_slice.ensures ∙ c.read-head.ensures.found) c.behind_head.ensures.unread
