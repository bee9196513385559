use Rattle.std.proofs.Common.{◌≡◌, length, ap, ◌∙◌, subst, rules}
use Rattle.index_entry.specs.Spelling.{number_in}
use Rattle.index_pack.specs.Spelling.{Packs}
use Rattle.migrate_core.specs.Longest.{run_count}
use Rattle.migrate_core.proofs.LongestLemmas.{packing_is, run_count_is}
use Rattle.migrate_core.proofs.packing.pack_read.Goals as goal

pub returns-clause-bytes : goal.returns-clause-bytes
returns-clause-bytes c =
    let same : c.as_slice.result.now ≡ c.args.tail.entries = search rules in
    packing_is c.in_ok-bytes.bytes c.args.tail.entries (subst (Packs c.in_ok-bytes.bytes) same c.in_ok-bytes.ensures)

pub returns-clause-counts : goal.returns-clause-counts
returns-clause-counts c =
    let same : c.as_slice.result.now ≡ c.args.tail.entries = search rules in
    let many : c.count.result ≡ length c.args.tail.entries = search rules in
    let read : c.as_slice-2.result.now ≡ c.in_ok-bytes.bytes = search rules in
    let runs : c.number_at-runs.result ≡ run_count c.args.tail.entries =
    c.number_at-runs.ensures ∙ ap (number_in 16) read ∙ run_count_is c.in_ok-bytes.bytes c.args.tail.entries (subst (Packs c.in_ok-bytes.bytes) same c.in_ok-bytes.ensures) in
    λ i. record { entries = many i; runs = runs i }
