-- What a room holds of a writer that writes.
use Rattle.std.proofs.Common.{◌≡◌, ◌≤◌, ◌<◌, ◌+◌, ◌^◌, ℕ, List, [], ◌∷◌, ◌++◌, length, drop, max, Option, Some, None, refl, ap, sym, ◌∙◌, subst, arith, length-append, append_assoc}
use Rattle.std.specs.Prelude.{MatchOption}
use Rattle.std.proofs.lemmas.List.{map-append, append-nil}
use Rattle.plfs_types.specs.Bytes.{overwritten}
use Rattle.plfs_types.specs.declared.entries.Entry.{Entry}
use Rattle.index_entry.specs.Spelling.{spelling_all}
use Rattle.index_entry.proofs.Facts.{spelling_all-append}
use Rattle.container_layout.specs.declared.items.Item.TheVariants.{OpenHost, Meta, Index, Log}
use Rattle.container_layout.specs.Paths.{hostdir_of}
use Rattle.store_api.specs.declared.tree.Room.{Room}
use Rattle.store_laws.specs.Files.{file_at, kept_at}
use Rattle.store_laws.specs.Prefix.{IsPrefix}
use Rattle.store_laws.proofs.Facts.{prefix-append, prefix-over, prefix_front, prefix_length}
use Rattle.mount_model.specs.declared.row.Row.{Row}
use Rattle.mount_model.specs.Paths.{index_path, log_path}
use Rattle.mount_model.specs.Table.{rank}
use Rattle.mount_model.specs.Writing.{entry_of, wrote}
use Rattle.mount_model.proofs.Facts.{MayWrite, IsStamp}
use Rattle.mount_sound.specs.Entries.{MayFollow, AreEntriesOf, logged, last_stamp, greatest_end}
use Rattle.mount_sound.specs.Ledger.{Written, entries_in, content, AreFull, AreWritesOf}
use Rattle.mount_sound.specs.Issued.{written_by}
use Rattle.mount_sound.specs.Items.{HasItem}
use Rattle.mount_sound.specs.Dropping.{bytes_of, log_bytes}
use Rattle.mount_sound.specs.Kept.{AreItsNumbers, Begins, IsAtStage, IsKept}
use Rattle.mount_sound.proofs.Droppings.Building.{not_closing}
use Rattle.mount_sound.proofs.Soundness.Frames.{Fits}
use Rattle.mount_sound.proofs.Soundness.Items.{SameButItem, is_index, is_open}
use Rattle.mount_sound.proofs.Soundness.Live.{Own, one_host_kept, had_meta_but, has_meta_but, had_trunc_but}
use Rattle.mount_sound.proofs.Soundness.Orders.{in_order_push, in_order_from_0, logged_push, last_stamp_push, greatest_end_push, drop_push, last_stamp_floor}
use Rattle.mount_sound.proofs.Writers.Stages.{live_stage}
use Rattle.mount_sound.proofs.Writers.Working.{Holds}

-- ---- one more write

begins_push : (issued : List Entry) (landed : ℕ) (e : Entry) (file : Option (List ℕ)) → MatchOption file (landed ≡ 0) (Begins issued landed) → MatchOption file (landed ≡ 0) (Begins (issued ++ e ∷ []) landed)
begins_push issued landed e None m = m
begins_push issued landed e (Some bytes) m = record {
  prefix = subst (IsPrefix bytes) (sym (spelling_all-append issued (e ∷ []))) (prefix-append bytes (spelling_all issued) (spelling_all (e ∷ [])) m.prefix);
  long = m.long;
}

pub entries_push : (issued : List Written) (w : Written) → entries_in (issued ++ w ∷ []) ≡ entries_in issued ++ w.entry ∷ []
entries_push issued w = map-append (λ (v : Written). v.entry) issued (w ∷ [])

content_push : (issued : List Written) (w : Written) → content (issued ++ w ∷ []) ≡ content issued ++ w.bytes
content_push [] w = append-nil w.bytes
content_push (v ∷ issued) w = ap (λ c. v.bytes ++ c) (content_push issued w) ∙ sym (append_assoc v.bytes (content issued) w.bytes)

pub length-content : (issued : List Written) → AreFull issued → length (content issued) ≡ logged (entries_in issued)
length-content [] f = refl
length-content (w ∷ issued) f = omega (arith, length-append w.bytes (content issued), f.0, length-content issued f.1)

full_push : (issued : List Written) (w : Written) → AreFull issued → length w.bytes ≡ w.entry.len → AreFull (issued ++ w ∷ [])
full_push [] w f e = (e, tt)
full_push (v ∷ issued) w f e = (f.0, full_push issued w f.1 e)

-- ---- the log

-- the log with these bytes just past what was issued
log_written : (row : Row) (issued : List Written) (old bytes : List ℕ) → row.stored ≡ logged (entries_in issued) → AreFull issued → IsPrefix (content issued) old → IsPrefix (content issued ++ bytes) (overwritten old row.stored bytes)
log_written row issued old bytes stored full p = prefix-over (content issued) old bytes row.stored p (omega (arith, stored, length-content issued full))

log_there : (room : Room) (row : Row) (issued : List Written) (old : List ℕ) → IsPrefix (content issued) (log_bytes room row.host row.id) → file_at room (log_path row.host row.id) ≡ Some old → IsPrefix (content issued) old
log_there room row issued old p e = subst (λ o. IsPrefix (content issued) (bytes_of o)) e p

-- so the log begins with what was issued before
still_begins : (room new : Room) (row : Row) (issued : List Written) (old bytes : List ℕ) → row.stored ≡ logged (entries_in issued) → AreFull issued → IsPrefix (content issued) (log_bytes room row.host row.id) → file_at room (log_path row.host row.id) ≡ Some old → file_at new (log_path row.host row.id) ≡ Some (overwritten old row.stored bytes)
    → IsPrefix (content issued) (log_bytes new row.host row.id)
still_begins room new row issued old bytes stored full p there now =
    subst (λ f. IsPrefix (content issued) (bytes_of f)) (sym now) (prefix_front (content issued) bytes (overwritten old row.stored bytes) (log_written row issued old bytes stored full (log_there room row issued old p there)))

-- and is as long as its mark
mark_within : (row : Row) (issued : List Written) (log : List ℕ) → AreItsNumbers row (entries_in issued) → AreFull issued → IsPrefix (content issued) log → row.log_mark ≤ length log
mark_within row issued log n full p = omega (arith, n.log_mark, n.stored, length-content issued full, prefix_length (content issued) log p)

-- the stage of a writer whose log was written, with more in its buffer
logging_stage : (room new : Room) (row : Row) (bytes : List ℕ) (es : List Entry) → Fits row → rank row.stage ≡ 4 → IsAtStage room row es → SameButItem (Log row.host row.id) room new → file_at new (log_path row.host row.id) ≡ Some bytes
    → (last stored end : ℕ) (pending es' : List Entry) → IsAtStage new (record row { last = last; stored = stored; end = end; pending = record row.pending { entries = pending } }) es'
logging_stage room new row bytes es fits at a b now last stored end pending es' = record {
  opened = b.others (OpenHost row.host row.id) (is_open row.host row.id fits.host fits.id) (λ e. cc) ∙ a.opened;
  unopened = λ early. absurd (omega arith);
  floored = λ some stamp size inside h. a.floored some stamp size inside (had_trunc_but (Log row.host row.id) row.id room new stamp size inside refl b h);
  housed = λ some. b.folders (hostdir_of row.host) (a.housed some);
  indexed = λ some. let i = a.indexed some in (i.0, b.others (Index row.host row.id) (is_index row.host row.id fits.host fits.id) (λ e. cc) ∙ i.1);
  logged = λ some. (bytes, now);
  closing = λ m. absurd (not_closing row (omega arith) (a.closing (had_meta_but (Log row.host row.id) row.host row.id room new (λ l c t e. cc) b m)).0);
  has_meta = λ e. has_meta_but (Log row.host row.id) row.host row.id room new (λ l c t e. cc) b (a.has_meta e);
}

index_same : (room new : Room) (row : Row) (es : List Entry) → Fits row → SameButItem (Log row.host row.id) room new → MatchOption (file_at room (index_path row.host row.id)) (row.landed ≡ 0) (Begins es row.landed) → MatchOption (file_at new (index_path row.host row.id)) (row.landed ≡ 0) (Begins es row.landed)
index_same room new row es fits b m = subst (λ o. MatchOption o (row.landed ≡ 0) (Begins es row.landed)) (sym (b.others (Index row.host row.id) (is_index row.host row.id fits.host fits.id) (λ e. cc))) m

-- an open writer has no metadata dropping
no_meta : (room new : Room) (row : Row) (es : List Entry) (last bytes stamp : ℕ) (inside : List ℕ) → rank row.stage ≡ 4 → IsAtStage room row es → SameButItem (Log row.host row.id) room new → HasItem new (Meta last bytes stamp row.host row.id) inside → ⊥
no_meta room new row es last bytes stamp inside at a b h =
    not_closing row (omega arith) (a.closing (had_meta_but (Log row.host row.id) row.host row.id room new (λ l c t e. cc) b (record { last = last; bytes = bytes; stamp = stamp; content = inside; has = h }))).0

-- a part of the bytes was logged, and the row stays
pub log_part_holds : (room new : Room) (row : Row) (issued : List Written) (old bytes : List ℕ) → Fits row → rank row.stage ≡ 4 → IsKept room row issued → IsAtStage room row (entries_in issued) → Own room row issued → AreFull issued → SameButItem (Log row.host row.id) room new
    → file_at room (log_path row.host row.id) ≡ Some old → file_at new (log_path row.host row.id) ≡ Some (overwritten old row.stored bytes) → row.log_mark ≤ kept_at new (log_path row.host row.id) → Holds new row issued
log_part_holds room new row issued old bytes fits at k a o full b there now kept =
    let begins = still_begins room new row issued old bytes k.numbers.stored full o.log there now in record {
      kept = record {
        in_order = k.in_order;
        numbers = k.numbers;
        index = index_same room new row (entries_in issued) fits b k.index;
        log_long = mark_within row issued (log_bytes new row.host row.id) k.numbers full begins;
        log_kept = kept;
        index_kept = omega (arith, k.index_kept, b.kepts (Index row.host row.id) (is_index row.host row.id fits.host fits.id) (λ e. cc));
        alive = λ live. logging_stage room new row (overwritten old row.stored bytes) (entries_in issued) fits at a b now row.last row.stored row.end row.pending.entries (entries_in issued);
      };
      live = live_stage row.stage (omega arith);
      own = record {
        one_host = one_host_kept (Log row.host row.id) row.host row.id room new refl b o.one_host;
        log = begins;
        told = λ last count stamp inside h. absurd (no_meta room new row (entries_in issued) last count stamp inside at a b h);
      };
    }

may_follow : (stamp : ℕ) (row : Row) (es : List Entry) (at len : ℕ) → row.stored ≡ logged es → row.last ≡ last_stamp 0 es → row.last < stamp → row.floor < stamp → stamp < 2 ^ 63 → MayWrite row at len → 1 ≤ len → MayFollow row.id (last_stamp row.floor es) (0 + logged es) (entry_of stamp row at len)
may_follow stamp row es at len stored last past above fits f some = record {
  some = some;
  within = f.near;
  owner = refl;
  later = last_stamp_floor row.floor es stamp above (omega (arith, last));
  in_range = omega (arith, fits);
  place = omega (arith, stored);
}

in_order_wrote : (stamp : ℕ) (room : Room) (row : Row) (issued : List Written) (at : ℕ) (bytes : List ℕ) → IsKept room row issued → IsStamp row.last row.floor stamp → MayWrite row at (length bytes) → 1 ≤ length bytes → AreEntriesOf row.id row.floor 0 (entries_in (issued ++ written_by row stamp at bytes ∷ []))
in_order_wrote stamp room row issued at bytes k s f some =
    subst (AreEntriesOf row.id row.floor 0) (sym (entries_push issued (written_by row stamp at bytes)))
    (in_order_push row.id row.floor 0 (entries_in issued) (entry_of stamp row at (length bytes)) k.in_order (may_follow stamp row (entries_in issued) at (length bytes) k.numbers.stored k.numbers.last s.later s.above s.fits f some))

-- all bytes were logged, and the row has their entry
pub log_whole_holds : (stamp : ℕ) (room new : Room) (row : Row) (issued : List Written) (old : List ℕ) (at : ℕ) (bytes : List ℕ) → Fits row → rank row.stage ≡ 4 → IsKept room row issued → IsAtStage room row (entries_in issued) → Own room row issued → AreFull issued → SameButItem (Log row.host row.id) room new
    → IsStamp row.last row.floor stamp → MayWrite row at (length bytes) → 1 ≤ length bytes → file_at room (log_path row.host row.id) ≡ Some old → file_at new (log_path row.host row.id) ≡ Some (overwritten old row.stored bytes) → row.log_mark ≤ kept_at new (log_path row.host row.id) → Holds new (wrote stamp row at (length bytes)) (issued ++ written_by row stamp at bytes ∷ [])
log_whole_holds stamp room new row issued old at bytes fits is k a o full b s f some there now kept =
    let e : Entry = entry_of stamp row at (length bytes) in
    let es : List Entry = entries_in issued in
    let push : es ++ e ∷ [] ≡ entries_in (issued ++ written_by row stamp at bytes ∷ []) = sym (entries_push issued (written_by row stamp at bytes)) in
    record {
      kept = record {
        in_order = in_order_wrote stamp room row issued at bytes k s f some;
        numbers = record {
          stored = omega (arith, k.numbers.stored, logged_push es e, ap logged push);
          last = sym (last_stamp_push 0 es e) ∙ ap (last_stamp 0) push;
          end = omega (arith, k.numbers.end, greatest_end_push es e, ap greatest_end push);
          landed = omega (arith, k.numbers.landed, length-append es (e ∷ []), ap length push);
          log_mark = omega (arith, k.numbers.log_mark);
          index_mark = k.numbers.index_mark;
          pending = ap (λ p. p ++ e ∷ []) k.numbers.pending ∙ sym (drop_push row.landed es e k.numbers.landed) ∙ ap (drop row.landed) push;
        };
        index = subst (λ l. MatchOption (file_at new (index_path row.host row.id)) (row.landed ≡ 0) (Begins l row.landed)) push
            (begins_push es row.landed e (file_at new (index_path row.host row.id)) (index_same room new row es fits b k.index));
        log_long = mark_within row issued (log_bytes new row.host row.id) k.numbers full (still_begins room new row issued old bytes k.numbers.stored full o.log there now);
        log_kept = kept;
        index_kept = omega (arith, k.index_kept, b.kepts (Index row.host row.id) (is_index row.host row.id fits.host fits.id) (λ e. cc));
        alive = λ live. logging_stage room new row (overwritten old row.stored bytes) es fits is a b now stamp (row.stored + length bytes) (max row.end (at + length bytes)) (row.pending.entries ++ e ∷ []) (entries_in (issued ++ written_by row stamp at bytes ∷ []));
      };
      live = live_stage row.stage (omega arith);
      own = record {
        one_host = one_host_kept (Log row.host row.id) row.host row.id room new refl b o.one_host;
        log = subst (λ c. IsPrefix c (log_bytes new row.host row.id)) (sym (content_push issued (written_by row stamp at bytes)))
            (subst (λ x. IsPrefix (content issued ++ bytes) (bytes_of x)) (sym now) (log_written row issued old bytes k.numbers.stored full (log_there room row issued old o.log there)));
        told = λ last count time inside h. absurd (no_meta room new row es last count time inside is a b h);
      };
    }

-- the writer's writes with one more
pub writes_wrote : (stamp : ℕ) (room : Room) (row : Row) (issued : List Written) (at : ℕ) (bytes : List ℕ) → IsKept room row issued → AreWritesOf row.id issued → IsStamp row.last row.floor stamp → MayWrite row at (length bytes) → 1 ≤ length bytes → AreWritesOf row.id (issued ++ written_by row stamp at bytes ∷ [])
writes_wrote stamp room row issued at bytes k w s f some = record {
  in_order = in_order_from_0 row.id row.floor 0 (entries_in (issued ++ written_by row stamp at bytes ∷ [])) (in_order_wrote stamp room row issued at bytes k s f some);
  full = full_push issued (written_by row stamp at bytes) w.full refl;
  small = omega (arith, k.numbers.stored, f.few, logged_push (entries_in issued) (entry_of stamp row at (length bytes)), ap logged (entries_push issued (written_by row stamp at bytes)));
}
