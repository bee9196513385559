-- The first bytes of what a writer issued are sound droppings.
use Rattle.std.proofs.Common.{◌≡◌, ℕ, List, [], ◌++◌, length, take, Some, refl, ap, sym, ◌∙◌, inl, arith}
use Rattle.std.proofs.lemmas.List.{append-nil}
use Rattle.std.proofs.Math.Seq.{take-length}
use Rattle.index_entry.specs.Spelling.{spelling_all}
use Rattle.store_laws.specs.Prefix.{IsPrefix}
use Rattle.store_laws.proofs.Facts.{prefix_length}
use Rattle.mount_sound.specs.Entries.{logged}
use Rattle.mount_sound.specs.Dropping.{IsDropping}
use Rattle.mount_sound.specs.Ledger.{Written, AreWritesOf, content, entries_in}
use Rattle.mount_sound.proofs.Facts.{content_take, entries_take, front_of_front, length-content, writes_take}
use Rattle.reader_laws.proofs.Gathered.Facts.{length-entries}
use Rattle.mount_losses.proofs.Losing.{IndexLost, index_lost}
use Rattle.drain_sound.specs.Fronts.{IsSoundFront}

-- what a writer whose writes have all landed left is a dropping
whole : (writer : ℕ) (issued : List Written) → AreWritesOf writer issued → IsDropping writer issued (length issued) (length (content issued)) (spelling_all (entries_in issued))
whole writer issued v =
    let all : take (length issued) (entries_in issued) ≡ entries_in issued = ap (λ n. take n (entries_in issued)) (sym (length-entries issued)) ∙ take-length (entries_in issued) in
    record {
      more = [];
      tail = [];
      spelled = sym (append-nil (spelling_all (take (length issued) (entries_in issued) ++ [])) ∙ ap spelling_all (append-nil (take (length issued) (entries_in issued)) ∙ all));
      torn = omega arith;
      in_order = tt;
      few = omega arith;
      past = tt;
      behind = inl refl;
    }

pub front_sound : (writer : ℕ) (issued : List Written) (index log : List ℕ) → AreWritesOf writer issued → IsPrefix index (spelling_all (entries_in issued)) → IsPrefix log (content issued) → IsSoundFront writer issued index log
front_sound writer issued index log v of_index of_log =
    let l : IndexLost writer issued (length issued) (length log) (Some index) =
    index_lost writer issued (length issued) (length (content issued)) (length log) (spelling_all (entries_in issued)) index (whole writer issued v) (omega arith) v (prefix_length log (content issued) of_log) of_index in
    let long : length (content (take l.count issued)) ≡ logged (take l.count (entries_in issued)) = length-content (take l.count issued) (writes_take l.count writer issued v).full ∙ ap logged (entries_take l.count issued) in
    record {
      count = l.count;
      within = l.within;
      dropping = l.index;
      logs = front_of_front (content (take l.count issued)) log (content issued) (content_take l.count issued) of_log (omega (arith, long, l.fits));
      all = l.keeps;
    }
