-- Blocks written one behind the other, and one more.
use Rattle.std.proofs.Common.{◌≡◌, ℕ, ◌+◌, ◌≤◌, ◌<◌, Bool, true, false, List, [], ◌∷◌, ◌++◌, length, Option, Some, None, Result, Ok, Err, refl, sym, ap, ◌∙◌, subst, arith}
use Rattle.std.proofs.lemmas.List.{append-nil}
use Rattle.plfs_types.specs.Counts.{HasRisen}
use Rattle.plfs_types.specs.declared.bytes.TheConstants.{MAX_BLOCK}
use Rattle.edge_io.specs.Source.{Given, HandsOver}
use Rattle.mount_model.specs.State.{State}
use Rattle.mount_model.specs.declared.stuck.Stuck.{Stuck}
use Rattle.writer_flow.specs.declared.handle.WriterHandle.{WriterHandle}
use Rattle.copy_core.specs.declared.reading.Ending.{Ending}
use Rattle.copy_core.specs.declared.reading.Ending.TheVariants.{AtEnd, Failed, Full}
use Rattle.copy_core.specs.declared.writing.Placing.{Placing}
use Rattle.copy_core.specs.declared.writing.Step.{Step}
use Rattle.copy_core.specs.declared.writing.Step.TheVariants as step
use Rattle.copy_core.specs.declared.writing.Wrote.{Wrote}
use Rattle.copy_core.specs.declared.writing.Wrote.TheVariants.{Made, Stopped}
use Rattle.copy_core.specs.Blocks.{joined}
use Rattle.copy_core.specs.Reading.{HasFilled}
use Rattle.copy_core.specs.Writing.{EndsAs, HasWritten, IsWritten, Steps, WritesBytes, WritesEach, WritesWhole, beginning, no_bytes, some_bytes, step_as, wrote_of}
use Rattle.copy_core.proofs.Blocks.{full_and_last, full_blocks, full_more, joined_more, length_more}
use Rattle.copy_core.proofs.Readings.{handed_both, handed_none}

pub made_at : (n : ℕ) (h : Option WriterHandle) (r : Result ℕ Stuck) (next : Placing) → Made next ≡ wrote_of n h r → next.at ≡ n
made_at n h (Err why) next is = absurd (cc)
made_at n None (Ok stamp) next is = absurd (cc)
made_at n (Some handle) (Ok stamp) next is =
    let same : next ≡ record { handle = handle; at = n } = cc in
    ap (λ (p : Placing). p.at) same

pub written_at : (placing : Placing) (bytes : List ℕ) (start : State) (next : Placing) (end : State) → IsWritten placing bytes start (Made next) end → next.at ≡ placing.at + length bytes
written_at placing bytes start next end w = made_at (placing.at + length bytes) w.out.handle w.out.result next w.told_so

pub writes_more : (blocks : List (List ℕ)) (first : Placing) (start : State) (last : Placing) (between : State) (bytes : List ℕ) (next : Placing) (end : State)
    → WritesEach blocks first start last between → IsWritten last bytes between (Made next) end → WritesEach (blocks ++ bytes ∷ []) first start next end
writes_more [] first start last between bytes next end (same, over) w =
    (next, end, subst (λ (s : State). IsWritten first bytes s (Made next) end) over (subst (λ (p : Placing). IsWritten p bytes between (Made next) end) same w), (refl, refl))
writes_more (b ∷ blocks) first start last between bytes next end (then, mid, one, others) w = (then, mid, one, writes_more blocks then mid last between bytes next end others w)

handed_more : (blocks : List (List ℕ)) (bytes : List ℕ) (old mid new : Option (List ℕ)) → HandsOver (joined blocks) old mid → HandsOver bytes mid new → HandsOver (joined (blocks ++ bytes ∷ [])) old new
handed_more blocks bytes old mid new first then = subst (λ (all : List ℕ). HandsOver all old new) (sym (joined_more blocks bytes)) (handed_both (joined blocks) bytes old mid new first then)

pub written_none : (handle : WriterHandle) (start : State) (old : Given) → HasWritten handle start old (beginning handle) start old
written_none handle start old = record { blocks = []; full = tt; handed = handed_none old.left; faults = refl; count = refl; writes = (refl, refl) }

pub written_more : (handle : WriterHandle) (start : State) (old : Given) (last : Placing) (between : State) (mid : Given) (next : Placing) (end : State) (new : Given)
    → HasWritten handle start old last between mid → Steps last between mid (step.More next) end new → HasWritten handle start old next end new
written_more handle start old last between mid next end new w (bytes, long, handed, faults, made) = record {
  blocks = w.blocks ++ bytes ∷ [];
  full = full_more w.blocks bytes w.full long;
  handed = handed_more w.blocks bytes old.left mid.left new.left w.handed handed;
  faults = faults ∙ w.faults;
  count = written_at last bytes between next end made ∙ (ap (λ n. n + length bytes) w.count ∙ sym (length_more w.blocks bytes));
  writes = writes_more w.blocks (beginning handle) start last between bytes next end w.writes made;
}

-- the next place is a block further on
pub goes_on : (last : Placing) (between : State) (mid : Given) (next : Placing) (end : State) (new : Given) → Steps last between mid (step.More next) end new → next.at ≡ last.at + MAX_BLOCK
goes_on last between mid next end new (bytes, long, handed, faults, made) = written_at last bytes between next end made ∙ ap (λ n. last.at + n) long

ends_later : (is_whole : Bool) (old mid new : Given) → mid.faults ≡ old.faults → EndsAs is_whole mid new → EndsAs is_whole old new
ends_later true old mid new same (over, faults) = (over, faults ∙ same)
ends_later false old mid new same risen = subst (λ n. HasRisen n new.faults) same risen

whole_so : (handle : WriterHandle) (is_whole : Bool) (start : State) (old : Given) (last : Placing) (between : State) (mid : Given) (final : Placing) (end : State) (new : Given) (bytes : List ℕ)
    → HasWritten handle start old last between mid → length bytes < MAX_BLOCK → HandsOver bytes mid.left new.left → EndsAs is_whole mid new → WritesBytes last bytes between (Made final) end → WritesWhole handle is_whole start old final end new
whole_so handle is_whole start old last between mid final end new bytes w short handed ends (some_bytes some made) = record {
  blocks = w.blocks ++ bytes ∷ [];
  are = full_and_last w.blocks bytes w.full (some, omega (arith, short));
  handed = handed_more w.blocks bytes old.left mid.left new.left w.handed handed;
  ends = ends_later is_whole old mid new w.faults ends;
  count = written_at last bytes between final end made ∙ (ap (λ n. n + length bytes) w.count ∙ sym (length_more w.blocks bytes));
  writes = writes_more w.blocks (beginning handle) start last between bytes final end w.writes made;
}
whole_so handle is_whole start old last between mid final end new bytes w short handed ends (no_bytes none is over) =
    let same : final ≡ last = cc in
    let none_handed : HandsOver [] mid.left new.left = subst (λ (bs : List ℕ). HandsOver bs mid.left new.left) none handed in
    record {
      blocks = w.blocks;
      are = full_blocks w.blocks w.full;
      handed = subst (λ (bs : List ℕ). HandsOver bs old.left new.left) (append-nil (joined w.blocks)) (handed_both (joined w.blocks) [] old.left mid.left new.left w.handed none_handed);
      ends = ends_later is_whole old mid new w.faults ends;
      count = ap (λ (p : Placing). p.at) same ∙ w.count;
      writes = subst (λ (p : Placing). WritesEach w.blocks (beginning handle) start p end) (sym same) (subst (λ (s : State). WritesEach w.blocks (beginning handle) start last s) (sym over) w.writes);
    }

pub written_whole : (handle : WriterHandle) (is_whole : Bool) (start : State) (old : Given) (last : Placing) (between : State) (mid : Given) (final : Placing) (end : State) (new : Given)
    → HasWritten handle start old last between mid → Steps last between mid (step.Last final is_whole) end new → WritesWhole handle is_whole start old final end new
written_whole handle is_whole start old last between mid final end new w (bytes, short, handed, ends, writes) = whole_so handle is_whole start old last between mid final end new bytes w short handed ends writes

-- what a block came to, by another name
pub step_value : (placing : Placing) (start : State) (old : Given) (told other : Step) (end : State) (new : Given) → told ≡ other → Steps placing start old told end new → Steps placing start old other end new
step_value placing start old told other end new same steps = subst (λ (s : Step). Steps placing start old s end new) same steps

-- ---- one block

pub no_longer : (bytes : List ℕ) (ending : Ending) (old new : Given) → HasFilled bytes ending old new → length bytes ≤ MAX_BLOCK
no_longer bytes Full old new h = omega (arith, h.ends.0)
no_longer bytes AtEnd old new h = omega (arith, h.ends.0)
no_longer bytes Failed old new h = omega (arith, h.ends.0)

full_written : (placing : Placing) (bytes : List ℕ) (start : State) (told : Wrote) (end : State) → length bytes ≡ MAX_BLOCK → WritesBytes placing bytes start told end → IsWritten placing bytes start told end
full_written placing bytes start told end long (some_bytes some w) = w
full_written placing bytes start told end long (no_bytes none is over) = (let short : length bytes ≡ 0 = ap (λ (bs : List ℕ). length bs) none in absurd (omega (arith, long, short)))

stopped_so : (placing : Placing) (bytes : List ℕ) (ending : Ending) (start : State) (why : Stuck) (end : State) (old new : Given) → HasFilled bytes ending old new → WritesBytes placing bytes start (Stopped why) end → Steps placing start old (step.Stopped why) end new
stopped_so placing bytes ending start why end old new h (some_bytes some w) = (bytes, ending, (some, no_longer bytes ending old new h), h, w)
stopped_so placing bytes ending start why end old new h (no_bytes none is over) = absurd (cc)

pub steps_so : (placing : Placing) (bytes : List ℕ) (ending : Ending) (wrote : Wrote) (start : State) (old : Given) (end : State) (new : Given) → HasFilled bytes ending old new → WritesBytes placing bytes start wrote end → Steps placing start old (step_as ending wrote) end new
steps_so placing bytes ending (Stopped why) start old end new h w = stopped_so placing bytes ending start why end old new h w
steps_so placing bytes Full (Made next) start old end new h w = (bytes, h.ends.0, h.handed, h.ends.1, full_written placing bytes start (Made next) end h.ends.0 w)
steps_so placing bytes AtEnd (Made next) start old end new h w = (bytes, h.ends.0, h.handed, (h.ends.1, h.ends.2), w)
steps_so placing bytes Failed (Made next) start old end new h w = (bytes, h.ends.0, h.handed, h.ends.1, w)
