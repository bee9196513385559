-- What is kept of a writer stays kept, whatever a call does.
use Rattle.std.proofs.Common.{◌≡◌, ℕ, ◌*◌, ◌≤◌, List, ◌++◌, length, take, Option, Some, None, refl, ap, sym, ◌∙◌, inl, inr, subst, arith}
use Rattle.std.proofs.lemmas.Bool.{cases_lt}
use Rattle.std.proofs.lemmas.List.{length-map, map-append, take-append-le, length-append}
use Rattle.container_layout.specs.declared.items.Item.TheVariants.{Index}
use Rattle.container_layout.specs.Items.{IsItem}
use Rattle.store_api.specs.declared.tree.Tree.{Tree}
use Rattle.store_api.specs.Step.{Step}
use Rattle.store_laws.specs.Files.{file_at, kept_at}
use Rattle.store_laws.specs.Prefix.{IsPrefix}
use Rattle.store_laws.specs.Tells.{Tells}
use Rattle.store_laws.specs.Losing.{KeepsFront}
use Rattle.store_laws.proofs.Facts.{prefix_length, kept_at_none, none_in, kept_told}
use Rattle.mount_model.specs.declared.call.Ask.{Ask}
use Rattle.mount_model.specs.declared.call.Call.{Call}
use Rattle.mount_model.specs.declared.reply.Reply.{Reply}
use Rattle.mount_model.specs.Making.{Told}
use Rattle.mount_model.specs.Paths.{index_path, log_path}
use Rattle.mount_model.specs.State.{State}
use Rattle.mount_model.specs.Step.{IsStep}
use Rattle.mount_sound.specs.Entries.{logged}
use Rattle.mount_sound.specs.Ledger.{Written, entries_in, content, Ledger}
use Rattle.mount_sound.specs.Dropping.{bytes_of, log_bytes, IsWriter}
use Rattle.mount_sound.specs.Growing.{IsMore}
use Rattle.mount_sound.specs.Issued.{issued_after}
use Rattle.mount_sound.specs.Keeping.{kept_in}
use Rattle.mount_sound.specs.Owed.{Owes}
use Rattle.mount_sound.proofs.Calls.Acting.{ActsOn, step_acts, acts_so}
use Rattle.mount_sound.proofs.Moments.Growing.{call_issues}
use Rattle.mount_sound.proofs.Kept.Keeping.{AreKeptIn, kept_most}
use Rattle.mount_sound.proofs.Soundness.Landing.{logged_take}
use Rattle.mount_sound.proofs.Calls.Making.{HasSoundWriters, one_tree}
use Rattle.mount_sound.proofs.Writers.WriteEntries.{length-content}
use Rattle.mount_sound.proofs.Kept.KeptActs.{Spared, its_acts}

-- ---- what is there then

module _ (l : Ledger) (old : State) (s : HasSoundWriters l old) (number host writer count : ℕ) (k : AreKeptIn s.shape.tree number host writer (l number writer) count) where
  index_item : IsItem (Index host writer)
  index_item = k.are_kept.has.is_item

  its_writer : IsWriter k.room writer (l number writer)
  its_writer = (s.sound.rooms number k.room k.there).writers writer index_item.widths.1

  -- the log is there, where bytes of it are kept
  log_there : 1 ≤ logged (take count (entries_in (l number writer))) → KeepsFront s.shape.tree number (log_path host writer) (logged (take count (entries_in (l number writer))))
  log_there some = found (file_at k.room (log_path host writer)) refl
    where
      found : (file : Option (List ℕ)) → file_at k.room (log_path host writer) ≡ file → KeepsFront s.shape.tree number (log_path host writer) (logged (take count (entries_in (l number writer))))
      found None e = absurd (omega (arith, some, k.are_kept.log, kept_at_none k.room (log_path host writer) (none_in k.room (log_path host writer) e)))
      found (Some bytes) e =
          let same : its_writer.host ≡ host = sym (its_writer.one_host host (inl (k.are_kept.bytes, k.are_kept.has))) in
          let begins : IsPrefix (content (l number writer)) (log_bytes k.room host writer) = subst (λ x. IsPrefix (content (l number writer)) (log_bytes k.room x writer)) same its_writer.log in
          record {
            room = k.room;
            bytes = bytes;
            has_room = k.there;
            there = e;
            long = omega (arith, logged_take count (entries_in (l number writer)), length-content (l number writer) (s.sound.writes number writer).full, prefix_length (content (l number writer)) (log_bytes k.room host writer) begins, ap (λ f. length (bytes_of f)) e);
            kept = k.are_kept.log;
          }

  index_there : KeepsFront s.shape.tree number (index_path host writer) (40 * count)
  index_there = record { room = k.room; bytes = k.are_kept.bytes; has_room = k.there; there = k.are_kept.has.there; long = k.are_kept.long; kept = k.are_kept.index }

  stay : (step : Step) (told : Told) (after : Tree) → Spared l old s number host writer count k step → Tells step s.shape.tree told after → AreKeptIn after number host writer (l number writer) count
  stay step told after spared t =
      let i = (kept_told step s.shape.tree told after number (index_path host writer) (40 * count) spared.index t index_there).0 in
      record {
        room = i.room;
        there = i.has_room;
        are_kept = record {
          bytes = i.bytes;
          has = record { is_item = index_item; there = i.there };
          issued_were = k.are_kept.issued_were;
          long = i.long;
          index = i.kept;
          log = elim (cases_lt 0 (logged (take count (entries_in (l number writer))))) as (λ _. logged (take count (entries_in (l number writer))) ≤ kept_at i.room (log_path host writer)) [
            | inl some ↦
                let g = (kept_told step s.shape.tree told after number (log_path host writer) (logged (take count (entries_in (l number writer)))) spared.log t (log_there (omega (arith, some)))).0 in
                let both : Some g.room ≡ Some i.room = sym g.has_room ∙ i.has_room in
                let same : g.room ≡ i.room = cc in
                subst (λ r. logged (take count (entries_in (l number writer))) ≤ kept_at r (log_path host writer)) same g.kept
            | inr least ↦ omega (arith, least)
          ];
        };
      }

  goes_on : (after : Tree) → ActsOn (Spared l old s number host writer count k) s.shape.tree after → AreKeptIn after number host writer (l number writer) count
  goes_on after (inl same) = subst (λ t. AreKeptIn t number host writer (l number writer) count) (sym same) k
  goes_on after (inr a) = stay a.step a.told after a.holds a.tells

-- more issues change none of the first
more_issued : (tree : Tree) (number host writer count : ℕ) (few many : List Written) → IsMore few many → AreKeptIn tree number host writer few count → AreKeptIn tree number host writer many count
more_issued tree number host writer count few many more k =
    let entries : entries_in many ≡ entries_in few ++ entries_in more.0 = ap entries_in more.1 ∙ map-append (λ (w : Written). w.entry) few more.0 in
    let first : take count (entries_in many) ≡ take count (entries_in few) = ap (λ es. take count es) entries ∙ take-append-le count (entries_in few) (entries_in more.0) (omega (arith, k.are_kept.issued_were, length-map few (λ (w : Written). w.entry))) in
    record {
      room = k.room;
      there = k.there;
      are_kept = record {
        bytes = k.are_kept.bytes;
        has = k.are_kept.has;
        issued_were = omega (arith, k.are_kept.issued_were, ap length more.1, length-append few more.0);
        long = k.are_kept.long;
        index = k.are_kept.index;
        log = omega (arith, k.are_kept.log, ap logged first);
      };
    }

-- What is kept of a writer stays kept through each step.
pub step_keeps_kept : (l : Ledger) (old new : State) (caller : ℕ) (ask : Ask) (reply : Reply) → Owes old caller ask.call → IsStep old caller ask reply new → (s : HasSoundWriters l old) (tree : Tree) → new.store.tree ≡ Some tree → (number host writer count : ℕ)
    → AreKeptIn s.shape.tree number host writer (l number writer) count → AreKeptIn tree number host writer (issued_after l old ask.call reply number writer) count
step_keeps_kept l old new caller ask reply owes step s tree told number host writer count k =
    let P : Call → Step → Type 0 = λ call x. Owes old caller call → Spared l old s number host writer count k x in
    let g = step_acts P old new caller ask reply s.shape.tree (its_acts l old s number host writer count k caller) step s.shape.told in
    let acts : ActsOn (Spared l old s number host writer count k) s.shape.tree g.0 = acts_so (P ask.call) (Spared l old s number host writer count k) s.shape.tree g.0 (λ x holds. holds owes) g.2 in
    let same : g.0 ≡ tree = one_tree g.0 tree new.store.tree g.1 told in
    more_issued tree number host writer count (l number writer) (issued_after l old ask.call reply number writer) (call_issues l old ask.call reply number writer)
    (subst (λ x. AreKeptIn x number host writer (l number writer) count) same (goes_on l old s number host writer count k g.0 acts))

-- no fewer are kept
pub kept_no_less : (l : Ledger) (state : State) (s : HasSoundWriters l state) (number host writer count : ℕ) → (k : AreKeptIn s.shape.tree number host writer (l number writer) count) → count ≤ kept_in k.room host writer
kept_no_less l state s number host writer count k =
    let a = k.are_kept in
    let w : IsWriter k.room writer (l number writer) = (s.sound.rooms number k.room k.there).writers writer a.has.is_item.widths.1 in
    kept_most k.room host writer (l number writer) w (s.sound.writes number writer) a.bytes a.has count a.issued_were a.long a.index a.log
