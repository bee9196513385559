use Rattle.std.proofs.Common.{◌≡◌, ◌∙◌, drop}
use Rattle.index_entry.specs.Spelling.{number_in}
use Rattle.index_entry.proofs.Facts.{number_further}
use Rattle.flat_format.specs.Reading.{cover_in}
use Rattle.flat_format.proofs.reading.cover_at.Goals as goal

pub returns : goal.returns
unfolding cover_in
returns c =
    let record_bytes = drop c.args.place c.args.bytes.now in
    let a : c.number_at.result ≡ number_in 0 record_bytes = c.number_at.ensures in
    let b : c.number_at-2.result ≡ number_in 8 record_bytes = c.number_at-2.ensures ∙ number_further 8 c.args.place c.args.bytes.now in
    let d : c.number_at-3.result ≡ number_in 16 record_bytes = c.number_at-3.ensures ∙ number_further 16 c.args.place c.args.bytes.now in
    let e : c.number_at-4.result ≡ number_in 24 record_bytes = c.number_at-4.ensures ∙ number_further 24 c.args.place c.args.bytes.now in
    λ i. record { writer = a i; count = b i; bytes = d i; stamp = e i }
