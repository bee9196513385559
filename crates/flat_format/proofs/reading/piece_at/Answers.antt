use Rattle.std.proofs.Common.{◌≡◌, ap, refl, subst, rules, List, ℕ, take, drop}
use Rattle.index_entry.specs.Spelling.{Spells}
use Rattle.index_entry.proofs.Facts.{entry_is, none_valid}
use Rattle.flat_format.specs.Reading.{as_piece}
use Rattle.flat_format.proofs.reading.piece_at.Goals as goal

pub returns-in-Ok-clause-value : goal.returns-in-Ok-clause-value
returns-in-Ok-clause-value c =
    let same : c.copy_from_slice.new.self ≡ take 40 (drop c.args.place c.args.bytes.now) = search rules in
    let P : List ℕ → Type 0 = λ bytes. Spells bytes c.in-Ok.entry in
    ap as_piece (entry_is (drop c.args.place c.args.bytes.now) c.in-Ok.entry (subst P same c.in-Ok.ensures.found.1))

pub returns-in-Err-clause-none : goal.returns-in-Err-clause-none
returns-in-Err-clause-none c =
    let same : c.copy_from_slice.new.self ≡ take 40 (drop c.args.place c.args.bytes.now) = search rules in
    λ valid. none_valid (drop c.args.place c.args.bytes.now) c.copy_from_slice.new.self c.in-Err.field-0 same ((c.in-Err.ensures.exact c.in-Err.field-0).0 refl) valid
