-- What a reader gathered of a writer lies between what had landed at its first call and at its listing, and so between floor and ceiling.
use Rattle.std.proofs.Common.{◌≡◌, ◌≤◌, inl, inr, ℕ, List, length, ap, arith}
use Rattle.std.specs.List.{Any}
use Rattle.plfs_types.specs.declared.entries.Trunc.{Trunc}
use Rattle.mount_model.specs.History.{Event}
use Rattle.mount_sound.specs.Owed.{IsLawful}
use Rattle.mount_sound.specs.Dropping.{bytes_of}
use Rattle.mount_sound.specs.There.{entries_there}
use Rattle.reader_laws.specs.Gathering.{Gathered, IsPrefixOf}
use Rattle.reader_laws.specs.Moments.{Dropping, IsNamed, IsSoundAt, Moment, Stood, index_then, landed, log_then, moment_after}
use Rattle.reader_laws.specs.GatheringOpening.{HasView}
use Rattle.reader_laws.proofs.Gathered.Facts.{any_found, found_any, grows_after, prefix_of}
use Rattle.plain_file.proofs.Facts.{Among, cases_Option}

-- an index dropping of which something has landed stands
landed_stood : (m : Moment) (d : Dropping) → IsNamed d → 1 ≤ landed m d → Stood m d
landed_stood m d named some = elim (cases_Option (index_then m d)) as (λ _. Stood m d) [
  | inl absent ↦
      let none : landed m d ≡ 0 = ap (λ o. length (entries_there (bytes_of o) (bytes_of (log_then m d)))) absent in
      absurd (let clash : 1 ≤ 0 = omega (arith, some, none) in omega (arith, clash))
  | inr (bytes, there) ↦ record { is_item = named; bytes = bytes; there = there }
]

-- the cut has at least so many of the writer
pub at_least : (first end : Moment) (room : ℕ) (cut : List Gathered) (truncs : List Trunc) (d : Dropping) (least : ℕ) → IsNamed d → HasView first end room cut truncs → d.room ≡ room → 1 ≤ least → least ≤ landed first d → Any (λ (g : Gathered). (g.dropping ≡ d) × (least ≤ g.count)) cut
at_least first end room cut truncs d least named view its some there =
    let f = any_found (λ (g : Gathered). g.dropping ≡ d) cut (view.complete d its (landed_stood first d named (omega (arith, some, there)))) in
    let p : IsPrefixOf first end f.0 = prefix_of first end cut f.0 view.admissible f.1 in
    found_any (λ (g : Gathered). (g.dropping ≡ d) × (least ≤ g.count)) cut f.0 f.1 (f.2, omega (arith, there, p.least, ap (λ x. landed first x) f.2))

-- and at most so many
pub at_most : (first end : Moment) (room : ℕ) (cut : List Gathered) (truncs : List Trunc) (g : Gathered) (most : ℕ) → HasView first end room cut truncs → Among g cut → landed end g.dropping ≤ most → g.count ≤ most
at_most first end room cut truncs g most view among there = omega (arith, (prefix_of first end cut g view.admissible among).most, there)

-- A writer's floor had landed by a moment before the reader's first call, and no more than its ceiling by a moment behind its listing.
pub cut_between : (early first end late : Moment) (waits gathers follows : List Event) (room : ℕ) (cut : List Gathered) (truncs : List Trunc) (d : Dropping) (floor ceiling : ℕ)
    → IsNamed d → IsSoundAt early → IsSoundAt end → IsLawful early.state waits → IsLawful end.state follows → first ≡ moment_after early waits → late ≡ moment_after end follows → HasView first end room cut truncs → d.room ≡ room → floor ≤ landed early d → landed late d ≤ ceiling
    → (1 ≤ floor → Any (λ (g : Gathered). (g.dropping ≡ d) × (floor ≤ g.count)) cut) × ((g : Gathered) → Among g cut → g.dropping ≡ d → g.count ≤ ceiling)
cut_between early first end late waits gathers follows room cut truncs d floor ceiling named sound there lawful later is_first is_late view its low high = (
  λ some. at_least first end room cut truncs d floor named view its some (omega (arith, low, (grows_after early waits lawful sound).landed d named, ap (λ m. landed m d) is_first)),
  λ g among same. at_most first end room cut truncs g ceiling view among (omega (arith, ap (λ x. landed end x) same, (grows_after end follows later there).landed d named, ap (λ m. landed m d) is_late, high)),
)
