-- The numbers of a run.
use Rattle.std.proofs.Common.{◌≡◌, ◌+◌, ◌-◌, ◌<◌, ◌≤◌, min, true, ◌==◌, nat_le, nat_lt, inr, arith}
use Rattle.std.proofs.lemmas.Bool.{and_parts}
use Rattle.std.proofs.lemmas.Bool.Decides.{nat_tests}
use Rattle.plfs_types.specs.declared.entries.Cover.{Cover}
use Rattle.plfs_types.specs.declared.entries.Entry.{Entry}
use Rattle.plfs_types.specs.declared.limits.TheConstants.{MAX_LOG, MAX_SIZE, MAX_STAMP}
use Rattle.container_layout.specs.Items.{IsMetaRange}
use Rattle.mount_model.specs.Entries.{is_next}
use Rattle.torn_tail.specs.declared.runs.Run.{Run}

-- what holds of an entry that may come next
pub record Follows (cover : Cover) (e : Entry) : Type 0 where
  pub some : 0 < e.len
  pub near : e.at + e.len ≤ MAX_SIZE
  pub rises : cover.stamp < e.stamp
  pub stamped : e.stamp ≤ MAX_STAMP
  pub writer : e.writer ≡ cover.writer
  pub place : e.physical ≡ cover.bytes
  pub logged : e.physical + e.len ≤ MAX_LOG

pub next_rules : (cover : Cover) (e : Entry) → is_next cover e ≡ true → Follows cover e
next_rules cover e h =
    let a = and_parts (nat_lt 0 e.len) _ h in
    let b = and_parts (nat_le e.at MAX_SIZE) _ a.1 in
    let c = and_parts (nat_le e.len (MAX_SIZE - e.at)) _ b.1 in
    let d = and_parts (nat_lt cover.stamp e.stamp) _ c.1 in
    let f = and_parts (nat_le e.stamp MAX_STAMP) _ d.1 in
    let g = and_parts (e.writer == cover.writer) _ f.1 in
    let i = and_parts (e.physical == cover.bytes) _ g.1 in
    let j = and_parts (nat_le e.physical MAX_LOG) _ i.1 in
    let at : e.at ≤ MAX_SIZE = grind (arith, nat_tests, b.0) in
    let len : e.len ≤ MAX_SIZE - e.at = grind (arith, nat_tests, c.0) in
    let physical : e.physical ≤ MAX_LOG = grind (arith, nat_tests, j.0) in
    let behind : e.len ≤ MAX_LOG - e.physical = grind (arith, nat_tests, j.1) in
    record {
      some = grind (arith, nat_tests, a.0);
      near = omega (arith, at, len);
      rises = grind (arith, nat_tests, d.0);
      stamped = grind (arith, nat_tests, f.0);
      writer = grind (arith, nat_tests, g.0);
      place = grind (arith, nat_tests, i.0);
      logged = omega (arith, physical, behind);
    }

-- what is left of some entries has all three numbers
pub meta_range : (run : Run) → 1 ≤ run.cover.count → run.cover.count ≤ run.cover.bytes → run.cover.bytes ≤ MAX_LOG → run.cover.count ≤ run.cover.stamp → run.cover.stamp ≤ MAX_STAMP
    → min 1 run.cover.count ≤ run.last → run.last ≤ MAX_SIZE → IsMetaRange run.last run.cover.bytes run.cover.stamp
meta_range run some counted logged rising stamped reaching near = record {
  last_fits = near;
  bytes_fit = logged;
  stamp_fits = stamped;
  all_or_none = inr (omega (arith, some, reaching), omega (arith, some, counted), omega (arith, some, rising));
}
