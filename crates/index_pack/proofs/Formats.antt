-- Runs are a format.
use Rattle.std.proofs.Common.{◌≡◌, ℕ, List, ◌++◌, refl, ap, ◌∙◌, arith, append_assoc}
use Rattle.std.proofs.lemmas.Nat.{from_le_bytes-to_le_bytes_8}
use Rattle.index_entry.specs.Spelling.{number_in}
use Rattle.index_entry.specs.Records.{IsFormat}
use Rattle.index_entry.proofs.Facts.{grown, number_back, number_fits}
use Rattle.index_pack.specs.declared.runs.Run.{Run}
use Rattle.index_pack.specs.Reading.{run_in}
use Rattle.index_pack.specs.Spelling.{run_spelling, FitsRun}

pub runs_format : IsFormat Run 64 run_spelling run_in FitsRun
unfolding run_spelling run_in
runs_format = record {
  wide = λ r. refl;
  again = λ r rest fits. (
      let a : number_in 0 (run_spelling r ++ rest) ≡ r.start = from_le_bytes-to_le_bytes_8 r.start fits.start_fits in
      let b : number_in 8 (run_spelling r ++ rest) ≡ r.stride = from_le_bytes-to_le_bytes_8 r.stride fits.stride_fits in
      let d : number_in 16 (run_spelling r ++ rest) ≡ r.len = from_le_bytes-to_le_bytes_8 r.len fits.len_fits in
      let e : number_in 24 (run_spelling r ++ rest) ≡ r.count = from_le_bytes-to_le_bytes_8 r.count fits.count_fits in
      let f : number_in 32 (run_spelling r ++ rest) ≡ r.physical = from_le_bytes-to_le_bytes_8 r.physical fits.physical_fits in
      let g : number_in 40 (run_spelling r ++ rest) ≡ r.stamp = from_le_bytes-to_le_bytes_8 r.stamp fits.stamp_fits in
      let h : number_in 48 (run_spelling r ++ rest) ≡ r.step = from_le_bytes-to_le_bytes_8 r.step fits.step_fits in
      let k : number_in 56 (run_spelling r ++ rest) ≡ r.writer = from_le_bytes-to_le_bytes_8 r.writer fits.writer_fits in
      λ i. record { start = a i; stride = b i; len = d i; count = e i; physical = f i; stamp = g i; step = h i; writer = k i });
  back = λ bytes are long.
      grown 56 bytes _ are (omega arith) (grown 48 bytes _ are (omega arith) (grown 40 bytes _ are (omega arith) (grown 32 bytes _ are (omega arith)
      (grown 24 bytes _ are (omega arith) (grown 16 bytes _ are (omega arith) (grown 8 bytes _ are (omega arith) (number_back 0 bytes are (omega arith))))))));
  fits = λ bytes are. record {
    start_fits = number_fits 0 bytes are;
    stride_fits = number_fits 8 bytes are;
    len_fits = number_fits 16 bytes are;
    count_fits = number_fits 24 bytes are;
    physical_fits = number_fits 32 bytes are;
    stamp_fits = number_fits 40 bytes are;
    step_fits = number_fits 48 bytes are;
    writer_fits = number_fits 56 bytes are;
  };
}

-- eight numbers, each behind what is there
pub eight_in_turn : (old s t u v w x y z a b c d e f g h : List ℕ) → a ≡ old ++ s → b ≡ a ++ t → c ≡ b ++ u → d ≡ c ++ v → e ≡ d ++ w → f ≡ e ++ x → g ≡ f ++ y → h ≡ g ++ z
    → h ≡ old ++ (s ++ t ++ u ++ v ++ w ++ x ++ y ++ z)
eight_in_turn old s t u v w x y z a b c d e f g h one two three four five six seven eight =
    let regrouped : old ++ s ++ t ++ u ++ v ++ w ++ x ++ y ++ z ≡ old ++ (s ++ t ++ u ++ v ++ w ++ x ++ y ++ z) = simp append_assoc in
    eight ∙ ap (λ (l : List ℕ). l ++ z) (seven ∙ ap (λ (l : List ℕ). l ++ y) (six ∙ ap (λ (l : List ℕ). l ++ x) (five ∙ ap (λ (l : List ℕ). l ++ w)
    (four ∙ ap (λ (l : List ℕ). l ++ v) (three ∙ ap (λ (l : List ℕ). l ++ u) (two ∙ ap (λ (l : List ℕ). l ++ t) one)))))) ∙ regrouped
