use Rattle.std.proofs.Common.{◌≡◌, ◌∙◌, drop}
use Rattle.index_entry.specs.Spelling.{number_in}
use Rattle.index_entry.proofs.Facts.{number_further}
use Rattle.index_pack.specs.Reading.{run_in}
use Rattle.index_pack.proofs.unpacking.run_at.Goals as goal

pub returns : goal.returns
unfolding run_in
returns c =
    let rest = drop c.args.place c.args.bytes.now in
    let start_is : c.number_at.result ≡ number_in 0 rest = c.number_at.ensures in
    let stride_is : c.number_at-2.result ≡ number_in 8 rest = c.number_at-2.ensures ∙ number_further 8 c.args.place c.args.bytes.now in
    let len_is : c.number_at-3.result ≡ number_in 16 rest = c.number_at-3.ensures ∙ number_further 16 c.args.place c.args.bytes.now in
    let count_is : c.number_at-4.result ≡ number_in 24 rest = c.number_at-4.ensures ∙ number_further 24 c.args.place c.args.bytes.now in
    let physical_is : c.number_at-5.result ≡ number_in 32 rest = c.number_at-5.ensures ∙ number_further 32 c.args.place c.args.bytes.now in
    let stamp_is : c.number_at-6.result ≡ number_in 40 rest = c.number_at-6.ensures ∙ number_further 40 c.args.place c.args.bytes.now in
    let step_is : c.number_at-7.result ≡ number_in 48 rest = c.number_at-7.ensures ∙ number_further 48 c.args.place c.args.bytes.now in
    let writer_is : c.number_at-8.result ≡ number_in 56 rest = c.number_at-8.ensures ∙ number_further 56 c.args.place c.args.bytes.now in
    λ i. record { start = start_is i; stride = stride_is i; len = len_is i; count = count_is i; physical = physical_is i; stamp = stamp_is i; step = step_is i; writer = writer_is i }
