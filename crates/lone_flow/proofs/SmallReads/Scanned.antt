-- Scans of one region after the other.
use Rattle.std.proofs.Common.{◌≡◌, ℕ, ◌+◌, List, [], ◌∷◌, ◌++◌, length, Ok, refl, ap, subst, arith}
use Rattle.std.proofs.lemmas.List.{length-append}
use Rattle.mount_model.specs.State.{State}
use Rattle.lone_flow.specs.Driving.{Makes}
use Rattle.index_reader.specs.declared.opened.OpenReader.{OpenReader}
use Rattle.unit_format.specs.declared.finding.Region.{Region}
use Rattle.pack_files.specs.Scanning.{scan_program}
use Rattle.lone_flow.specs.Scans.{ScansFrom}

pub scans_more : (reader : OpenReader) (region at : ℕ) (start : State) (regions : List Region) (mid : State) (r : Region) (end : State) → at ≡ region + length regions
    → ScansFrom reader region start regions mid → Makes (scan_program reader at) mid (Ok r) end → ScansFrom reader region start (regions ++ r ∷ []) end
scans_more reader region at start [] mid r end is same makes =
    let here : at ≡ region = omega (arith, is) in
    (end, subst (λ (s : State). Makes (scan_program reader region) s (Ok r) end) same (subst (λ (n : ℕ). Makes (scan_program reader n) mid (Ok r) end) here makes), refl)
scans_more reader region at start (q ∷ regions) mid r end is (next, first, others) makes =
    (next, first, scans_more reader (region + 1) at next regions mid r end (omega (arith, is)) others makes)

pub one_longer : (regions new : List Region) (r : Region) (n : ℕ) → new ≡ regions ++ r ∷ [] → length regions ≡ n → length new ≡ n + 1
one_longer regions new r n is long =
    let parts : length (regions ++ r ∷ []) ≡ length regions + 1 = length-append regions (r ∷ []) in
    omega (arith, parts, long, ap (λ (rs : List Region). length rs) is)
