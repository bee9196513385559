-- The numbers of a run are in their ranges, whatever bytes it counted.
use Rattle.std.proofs.Common.{◌≡◌, ℕ, zero, suc, ◌+◌, ◌-◌, ◌<◌, ◌≤◌, min, Bool, true, false, ◌==◌, nat_le, nat_lt, List, drop, sym, subst, inl, inr, arith}
use Rattle.std.specs.Prelude.{if◌then◌else◌}
use Rattle.std.proofs.lemmas.Bool.{cases_Bool, and_parts, cond-true, cond-false}
use Rattle.std.proofs.lemmas.Bool.Decides.{nat_tests}
use Rattle.plfs_types.specs.declared.entries.Cover.{Cover}
use Rattle.plfs_types.specs.declared.entries.Entry.{Entry}
use Rattle.plfs_types.specs.declared.limits.TheConstants.{MAX_LOG, MAX_SIZE, MAX_STAMP}
use Rattle.container_layout.specs.Items.{IsMetaRange}
use Rattle.index_entry.specs.Spelling.{entry_in}
use Rattle.mount_model.specs.Entries.{is_next}
use Rattle.torn_tail.specs.Entries.{no_entries, longer, checked, looked}
use Rattle.torn_tail.specs.Words.{Went, Run, ends, breaks}
use Rattle.recovery_laws.proofs.Counting.{came}

-- entries whose numbers are in their ranges
pub record IsCounted (run : Run) : Type 0 where
  pub counted : run.cover.count ≤ run.cover.bytes
  pub logged : run.cover.bytes ≤ MAX_LOG
  pub rising : run.cover.count ≤ run.cover.stamp
  pub stamped : run.cover.stamp ≤ MAX_STAMP
  pub reaching : min 1 run.cover.count ≤ run.last
  pub near : run.last ≤ MAX_SIZE

pub none_counted : (writer : ℕ) → IsCounted (no_entries writer)
none_counted writer = record { counted = omega arith; logged = omega arith; rising = omega arith; stamped = omega arith; reaching = omega arith; near = omega arith }

one_more : (run : Run) (e : Entry) → is_next run.cover e ≡ true → IsCounted run → IsCounted (longer e run)
one_more run e h c =
    let cover : Cover = run.cover in
    let a = and_parts (nat_lt 0 e.len) _ h in
    let b = and_parts (nat_le e.at MAX_SIZE) _ a.1 in
    let d = and_parts (nat_le e.len (MAX_SIZE - e.at)) _ b.1 in
    let f = and_parts (nat_lt run.cover.stamp e.stamp) _ d.1 in
    let g = and_parts (nat_le e.stamp MAX_STAMP) _ f.1 in
    let i = and_parts (e.writer == run.cover.writer) _ g.1 in
    let j = and_parts (e.physical == run.cover.bytes) _ i.1 in
    let k = and_parts (nat_le e.physical MAX_LOG) _ j.1 in
    let some : 0 < e.len = grind (arith, nat_tests, a.0) in
    let at : e.at ≤ MAX_SIZE = grind (arith, nat_tests, b.0) in
    let len : e.len ≤ MAX_SIZE - e.at = grind (arith, nat_tests, d.0) in
    let rises : run.cover.stamp < e.stamp = grind (arith, nat_tests, f.0) in
    let stamp : e.stamp ≤ MAX_STAMP = grind (arith, nat_tests, g.0) in
    let place : e.physical ≡ run.cover.bytes = grind (arith, nat_tests, j.0) in
    let physical : e.physical ≤ MAX_LOG = grind (arith, nat_tests, k.0) in
    let behind : e.len ≤ MAX_LOG - e.physical = grind (arith, nat_tests, k.1) in
    record {
      counted = omega (arith, c.counted, some);
      logged = omega (arith, place, physical, behind);
      rising = omega (arith, c.rising, rises);
      stamped = stamp;
      reaching = omega (arith, some);
      near = omega (arith, c.near, at, len);
    }

-- So it is after any entries that were checked.
pub checked_counts : (log n : ℕ) (bytes : List ℕ) (first : Run) → IsCounted first → IsCounted (checked log n bytes first).1
checked_counts log zero bytes first c = c
checked_counts log (suc n) bytes first c =
    let e : Entry = entry_in bytes in
    let P : Went × Run → Type 0 = λ p. IsCounted p.1 in
    elim (cases_Bool (is_next first.cover e)) as (λ _. IsCounted (checked log (suc n) bytes first).1) [
      | inl next ↦
          let more = checked_counts log n (drop 40 bytes) (longer e first) (one_more first e next c) in
          subst P (sym (cond-true (is_next first.cover e) (if nat_le (e.physical + e.len) log then checked log n (drop 40 bytes) (longer e first) else came ends first) (came breaks first) next))
          (elim (nat_le (e.physical + e.len) log) as (λ b. P (if b then checked log n (drop 40 bytes) (longer e first) else came ends first)) [
            | true ↦ more
            | false ↦ c
          ])
      | inr other ↦ subst P (sym (cond-false (is_next first.cover e) (if nat_le (e.physical + e.len) log then checked log n (drop 40 bytes) (longer e first) else came ends first) (came breaks first) other)) c
    ]

pub looked_counts : (past : Bool) (log asked : ℕ) (bytes : List ℕ) (run : Run) → IsCounted run → IsCounted (looked past log asked bytes run).1
looked_counts true log asked bytes run c = c
looked_counts false log asked bytes run c = checked_counts log _ bytes run c

-- what is left of some entries has all three numbers
pub meta_range : (run : Run) → 1 ≤ run.cover.count → IsCounted run → IsMetaRange run.last run.cover.bytes run.cover.stamp
meta_range run some c = record {
  last_fits = c.near;
  bytes_fit = c.logged;
  stamp_fits = c.stamped;
  all_or_none = inr (omega (arith, some, c.reaching), omega (arith, some, c.counted), omega (arith, some, c.rising));
}
