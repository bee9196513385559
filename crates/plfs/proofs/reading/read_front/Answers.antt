use Rattle.std.proofs.Common.{◌≡◌, ℕ, List, [], ◌++◌, take, Option, subst}
use Rattle.std.specs.Prelude.{IfSome, option_map}
use Rattle.plfs.proofs.reading.read_front.Goals as goal

-- what was read of the front of a reader, from nothing on
front : {R : Type 0} (remaining : R → Option (List ℕ)) (limit most : ℕ) (inner reader : R) (start items : List ℕ) → limit ≡ most → inner ≡ reader → start ≡ []
    → IfSome (option_map (take limit) (remaining inner)) (λ xs. items ≡ start ++ xs) → IfSome (option_map (take most) (remaining reader)) (λ read. items ≡ [] ++ read)
front {R} remaining limit most inner reader start items limited its fresh told =
    let Limited : ℕ → Type 0 = λ n. IfSome (option_map (take n) (remaining inner)) (λ xs. items ≡ start ++ xs) in
    let Its : R → Type 0 = λ r. IfSome (option_map (take most) (remaining r)) (λ xs. items ≡ start ++ xs) in
    let Fresh : List ℕ → Type 0 = λ s. IfSome (option_map (take most) (remaining reader)) (λ xs. items ≡ s ++ xs) in
    subst Fresh fresh (subst Its its (subst Limited limited told))

pub returns : goal.returns
returns g c = record {
  bytes = front g.R.Read.remaining c.take.result.limit 1048577 c.take.result.inner c.args.reader c.in_ok-input.input.items c.read_to_end.new.buf.items c.take.ensures.limit c.take.ensures.inner c.in_ok-input.ensures.items c.in_ok-read_to_end.ensures.bytes;
}
