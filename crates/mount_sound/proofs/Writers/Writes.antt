-- A write keeps soundness, whatever its act leaves.
use Rattle.std.proofs.Common.{◌≡◌, ◌≤◌, ℕ, List, [], ◌∷◌, ◌++◌, length, take, Option, Some, true, false, nat_eq, refl, sym, inl, inr, subst, arith}
use Rattle.std.specs.Prelude.{Ok, Err}
use Rattle.std.proofs.lemmas.Bool.Decides.{nat_tests}
use Rattle.std.proofs.lemmas.Bool.{cases_eq}
use Rattle.container_layout.specs.declared.items.Item.TheVariants.{Log}
use Rattle.store_api.specs.declared.step.Answer.TheVariants.{Made}
use Rattle.store_api.specs.declared.store.Trouble.TheVariants.{Fault, NoMemory}
use Rattle.store_api.specs.declared.tree.Tree.{Tree}
use Rattle.store_laws.specs.Changes.{Wrote}
use Rattle.store_laws.specs.Files.{kept_at}
use Rattle.store_laws.proofs.Facts.{kept_before, write_told}
use Rattle.store_laws.specs.Tells.{Tells, made}
use Rattle.mount_model.specs.declared.row.Row.{Row}
use Rattle.mount_model.specs.declared.row.Stage.TheVariants as stage
use Rattle.mount_model.specs.declared.reply.Reply.{Reply}
use Rattle.mount_model.specs.declared.reply.Refusal.{Refusal}
use Rattle.mount_model.specs.declared.reply.Refusal.TheVariants.{NotOpen}
use Rattle.mount_model.specs.Making.{Told, Refuses, UnlessRefused}
use Rattle.mount_model.specs.Paths.{log_path}
use Rattle.mount_model.specs.Regular.{IsRegular}
use Rattle.mount_model.specs.State.{State, Table, last_id, timed}
use Rattle.mount_model.specs.Table.{with_row, row_of, held_by, rank, only}
use Rattle.mount_model.specs.Writing.{write_check, stamp_at, wrote, write_step, write_outcome, WritesAt, Writes}
use Rattle.mount_model.proofs.Facts.{at_only, match_cases, is_held, MayWrite, may_write, IsStamp, next_is_stamp}
use Rattle.mount_sound.specs.Ledger.{Written, AreWritesOf, Ledger}
use Rattle.mount_sound.specs.Issued.{with_write, written_by, noted}
use Rattle.mount_sound.specs.Sound.{AreSound}
use Rattle.mount_sound.proofs.Soundness.Items.{SameButItem, same_but_item, is_log}
use Rattle.mount_sound.proofs.Soundness.Local.{SameBut}
use Rattle.mount_sound.proofs.Calls.Making.{AreRight, IsAccounted, makes_accounted, refused_accounted}
use Rattle.mount_sound.proofs.Writers.Stages.{working}
use Rattle.mount_sound.proofs.Writers.Working.{Working, Holds, turned_same, turned_put, spares, works, works_on, its_fit, its_kept, its_stage, its_own}
use Rattle.mount_sound.proofs.Writers.WriteEntries.{log_part_holds, log_whole_holds, writes_wrote}

apart : (a b : ℕ) → (a ≡ b → ⊥) → nat_eq a b ≡ false
apart a b other = grind (arith, nat_tests)

alike : (a b : ℕ) → a ≡ b → nat_eq a b ≡ true
alike a b same = grind (arith, nat_tests)

pub with_write_other : (issued : Ledger) (row : Row) (w : Written) → SameBut row.room row.id issued (with_write issued row w)
with_write_other issued row w m q other = elim (cases_eq m row.room) as (λ _. with_write issued row w m q ≡ issued m q) [
  | inl here ↦ elim (cases_eq q row.id) as (λ _. with_write issued row w m q ≡ issued m q) [
    | inl mine ↦ absurd (other here mine)
    | inr elsewhere ↦ rw (alike m row.room here, apart q row.id elsewhere) refl
  ]
  | inr elsewhere ↦ rw (apart m row.room elsewhere) refl
]

pub with_write_own : (issued : Ledger) (row : Row) (w : Written) → with_write issued row w row.room row.id ≡ issued row.room row.id ++ w ∷ []
with_write_own issued row w = rw (alike row.room row.room refl, alike row.id row.id refl) refl

-- a part of the bytes was logged
log_part : (last : ℕ) (issued : Ledger) (rows : List Row) (tree after : Tree) (row : Row) (bytes : List ℕ) → rank row.stage ≡ 4 → Working last issued rows tree row → Wrote tree row.room (log_path row.host row.id) row.stored bytes after → AreSound last issued rows after
log_part last issued rows tree after row bytes at w c =
    let fits = its_fit last issued rows tree row w c.room c.has_room in
    let b : SameButItem (Log row.host row.id) c.room c.new = same_but_item (Log row.host row.id) c.room c.new (is_log row.host row.id fits.host fits.id) c.others in
    subst (AreSound last issued rows) (sym c.gives)
    (works_on last issued rows rows tree row row c.room c.new w c.has_room refl refl refl (turned_same rows row.id row w.stands) (spares (Log row.host row.id) row.id c.room c.new refl b)
    (log_part_holds c.room c.new row (issued row.room row.id) c.old bytes fits at (its_kept last issued rows tree row w c.room c.has_room) (its_stage last issued rows tree row w c.room c.has_room) (its_own last issued rows tree row w c.room c.has_room) (w.sound.writes row.room row.id).full b c.there c.now (omega (arith, c.kept, kept_before (kept_at c.room (log_path row.host row.id)) c.old row.stored bytes c.within, (its_kept last issued rows tree row w c.room c.has_room).log_kept, (its_kept last issued rows tree row w c.room c.has_room).numbers.log_mark))))

-- all were
log_whole : (last stamp : ℕ) (issued : Ledger) (rows : List Row) (tree after : Tree) (row : Row) (at : ℕ) (bytes : List ℕ) → rank row.stage ≡ 4 → Working last issued rows tree row → IsStamp row.last row.floor stamp → MayWrite row at (length bytes) → 1 ≤ length bytes → Wrote tree row.room (log_path row.host row.id) row.stored bytes after
    → AreSound last (with_write issued row (written_by row stamp at bytes)) (with_row (wrote stamp row at (length bytes)) rows) after
log_whole last stamp issued rows tree after row at bytes is w s f some c =
    let fits = its_fit last issued rows tree row w c.room c.has_room in
    let k = its_kept last issued rows tree row w c.room c.has_room in
    let b : SameButItem (Log row.host row.id) c.room c.new = same_but_item (Log row.host row.id) c.room c.new (is_log row.host row.id fits.host fits.id) c.others in
    let issued' : Ledger = with_write issued row (written_by row stamp at bytes) in
    let own : issued row.room row.id ++ written_by row stamp at bytes ∷ [] ≡ issued' row.room row.id = sym (with_write_own issued row (written_by row stamp at bytes)) in
    subst (AreSound last issued' (with_row (wrote stamp row at (length bytes)) rows)) (sym c.gives)
    (works last issued issued' rows (with_row (wrote stamp row at (length bytes)) rows) tree row (wrote stamp row at (length bytes)) c.room c.new w c.has_room refl refl refl (turned_put rows (wrote stamp row at (length bytes))) (with_write_other issued row (written_by row stamp at bytes)) (spares (Log row.host row.id) row.id c.room c.new refl b)
    (subst (Holds c.new (wrote stamp row at (length bytes))) own
    (log_whole_holds stamp c.room c.new row (issued row.room row.id) c.old at bytes fits is k (its_stage last issued rows tree row w c.room c.has_room) (its_own last issued rows tree row w c.room c.has_room) (w.sound.writes row.room row.id).full b s f some c.there c.now (omega (arith, c.kept, kept_before (kept_at c.room (log_path row.host row.id)) c.old row.stored bytes c.within, k.log_kept, k.numbers.log_mark))))
    (subst (AreWritesOf row.id) own (writes_wrote stamp c.room row (issued row.room row.id) at bytes k (w.sound.writes row.room row.id) s f some)))

-- where the act was not made, nothing is issued and the table stays
not_noted : (issued : Ledger) (stamp : ℕ) (row : Row) (at : ℕ) (bytes : List ℕ) (table : Table) (told : Told) → (told ≡ made → ⊥) → (noted issued (Some row) at bytes (write_outcome stamp row at (length bytes) table told).reply ≡ issued) × ((write_outcome stamp row at (length bytes) table told).table ≡ table)
not_noted issued stamp row at bytes table (Ok Made) other = absurd (other refl)
not_noted issued stamp row at bytes table (Err Fault) other = (refl, refl)
not_noted issued stamp row at bytes table (Err NoMemory) other = (refl, refl)
not_noted issued stamp row at bytes table told other = (refl, refl)

write_outcomes : (last stamp : ℕ) (issued : Ledger) (table : Table) (tree : Tree) (row : Row) (at : ℕ) (bytes : List ℕ) → rank row.stage ≡ 4 → Working last issued table.writers tree row → IsStamp row.last row.floor stamp → MayWrite row at (length bytes) → 1 ≤ length bytes
    → (told : Told) (after : Tree) → Tells (write_step row bytes) tree told after → AreRight last (noted issued (Some row) at bytes (write_outcome stamp row at (length bytes) table told).reply) (write_outcome stamp row at (length bytes) table told).table after
write_outcomes last stamp issued table tree row at bytes is w s f some told after t = elim (write_told row.room (log_path row.host row.id) row.stored bytes tree told after t) as (λ _. AreRight last (noted issued (Some row) at bytes (write_outcome stamp row at (length bytes) table told).reply) (write_outcome stamp row at (length bytes) table told).table after) [
  | inl done ↦ subst (λ x. AreRight last (noted issued (Some row) at bytes (write_outcome stamp row at (length bytes) table x).reply) (write_outcome stamp row at (length bytes) table x).table after) (sym done.0)
      (log_whole last stamp issued table.writers tree after row at bytes is w s f some done.1)
  | inr stays ↦
      let n = not_noted issued stamp row at bytes table told stays.0 in
      let right : AreRight last issued table after = (elim stays.1 as (λ _. AreSound last issued table.writers after) [
        | inl same ↦ subst (AreSound last issued table.writers) (sym same) w.sound
        | inr part ↦ log_part last issued table.writers tree after row (take part.0 bytes) is w part.2
      ]) in
      subst (λ l. AreRight last l (write_outcome stamp row at (length bytes) table told).table after) (sym n.0) (subst (λ x. AreRight last issued x after) (sym n.1) right)
]

write_row : (issued : Ledger) (old : State) (row : Row) (at : ℕ) (bytes : List ℕ) (reply : Reply) (new : State) → (a : IsAccounted issued old) → rank row.stage ≡ 4 → Working (last_id old) issued old.table.writers a.tree row → UnlessRefused (write_check row at (length bytes)) old reply new (WritesAt row at bytes old reply new) → IsAccounted (noted issued (Some row) at bytes reply) new
write_row issued old row at bytes reply new a is w f = elim (match_cases (write_check row at (length bytes)) (WritesAt row at bytes old reply new) (λ why. Refuses why old reply new) f) as (λ _. IsAccounted (noted issued (Some row) at bytes reply) new) [
  | inl (none, writes) ↦
      let m = may_write row at (length bytes) none in
      makes_accounted (write_step row bytes) (write_outcome (stamp_at writes.time row) row at (length bytes) old.table) (λ r. noted issued (Some row) at bytes r) (timed writes.times old) reply new a.tree a.told
      (write_outcomes (last_id old) (stamp_at writes.time row) issued old.table a.tree row at bytes is w (next_is_stamp writes.time row.last row.floor m.last m.floor) m writes.some) writes.makes
  | inr (why, some, refused) ↦ subst (λ r. IsAccounted (noted issued (Some row) at bytes r) new) (sym refused.0) (refused_accounted issued why old reply new refused a)
]

refused_noted : (issued : Ledger) (row : Option Row) (at : ℕ) (bytes : List ℕ) (why : Refusal) (old : State) (reply : Reply) (new : State) → Refuses why old reply new → IsAccounted issued old → IsAccounted (noted issued row at bytes reply) new
refused_noted issued row at bytes why old reply new refused a = subst (λ r. IsAccounted (noted issued row at bytes r) new) (sym refused.0) (refused_accounted issued why old reply new refused a)

-- A write keeps soundness, for what is issued then.
pub write_keeps : (issued : Ledger) (old : State) (caller writer at : ℕ) (bytes : List ℕ) (reply : Reply) (new : State) → IsRegular old → Writes caller writer at bytes old reply new → IsAccounted issued old → IsAccounted (noted issued (row_of writer old.table.writers) at bytes reply) new
write_keeps issued old caller writer at bytes reply new r f a =
    elim (match_cases (held_by caller (only stage.Open) (row_of writer old.table.writers)) (Refuses NotOpen old reply new) (λ row. UnlessRefused (write_check row at (length bytes)) old reply new (WritesAt row at bytes old reply new)) f) as (λ _. IsAccounted (noted issued (row_of writer old.table.writers) at bytes reply) new) [
      | inl (none, refused) ↦ refused_noted issued (row_of writer old.table.writers) at bytes NotOpen old reply new refused a
      | inr (row, held, does) ↦
          let h = is_held caller (only stage.Open) writer old.table.writers row held in
          let is : rank row.stage ≡ 4 = at_only stage.Open row.stage h.staged in
          subst (λ o. IsAccounted (noted issued o at bytes reply) new) (sym h.found)
          (write_row issued old row at bytes reply new a is (working issued old writer row r a h.found (omega arith)) does)
    ]
