-- A caller's end keeps soundness: its writers are dead, with the marks of what they synced.
use Rattle.std.proofs.Common.{◌≡◌, ℕ, List, [], ◌∷◌, map, true, false, nat_eq, Some, refl, sym, ap, ◌∙◌, ◌⊎◌, inl, inr, subst}
use Rattle.std.specs.Prelude.{if◌then◌else◌, slice_get}
use Rattle.store_api.specs.declared.tree.Room.{Room}
use Rattle.store_api.specs.declared.tree.Tree.{Tree}
use Rattle.mount_model.specs.declared.call.Call.{Call}
use Rattle.mount_model.specs.declared.call.Call.TheVariants.{Greet}
use Rattle.mount_model.specs.declared.reply.Reply.{Reply}
use Rattle.mount_model.specs.declared.reply.Reply.TheVariants.{Fault, NoMemory, Stopped}
use Rattle.mount_model.specs.declared.row.Row.{Row}
use Rattle.mount_model.specs.declared.row.Stage.TheVariants as stage
use Rattle.mount_model.specs.Table.{row_of, at_stage}
use Rattle.mount_model.specs.State.{State, Table, id_of, last_id}
use Rattle.mount_model.specs.Stopping.{row_ended, without_caller}
use Rattle.mount_model.specs.Stopped.{StopsShort}
use Rattle.mount_sound.specs.Ledger.{Written, Ledger, entries_in}
use Rattle.mount_sound.specs.Issued.{issued_after}
use Rattle.mount_sound.specs.Kept.{IsKept}
use Rattle.mount_sound.specs.Sound.{IsSoundRoom, AreSound}
use Rattle.mount_sound.proofs.Calls.Making.{AreRight, IsAccounted}
use Rattle.mount_sound.proofs.Writers.Stages.{numbers_at}

-- ---- a row of a caller at its end

ended_kept : (room : Room) (caller : ℕ) (row : Row) (issued : List Written) → IsKept room row issued → IsKept room (row_ended caller row) issued
ended_kept room caller row issued k = elim (nat_eq row.owner caller) as (λ b. IsKept room (if b then at_stage stage.Dead row else row) issued) [
  | true ↦ record {
    in_order = k.in_order;
    numbers = numbers_at row stage.Dead (entries_in issued) k.numbers;
    index = k.index;
    log_long = k.log_long;
    log_kept = k.log_kept;
    index_kept = k.index_kept;
    alive = λ live. absurd (cc);
  }
  | false ↦ k
]

ended_place : (caller : ℕ) (row : Row) → (row_ended caller row).room ≡ row.room
ended_place caller row = elim (nat_eq row.owner caller) as (λ b. (if b then at_stage stage.Dead row else row).room ≡ row.room) [ true ↦ refl | false ↦ refl ]

ended_name : (caller : ℕ) (row : Row) → (row_ended caller row).id ≡ row.id
ended_name caller row = elim (nat_eq row.owner caller) as (λ b. (if b then at_stage stage.Dead row else row).id ≡ row.id) [ true ↦ refl | false ↦ refl ]

-- it was in the table before
was_there : (caller id : ℕ) (rows : List Row) (row : Row) → row_of id (map (row_ended caller) rows) ≡ Some row → (before : Row) × (row_of id rows ≡ Some before) × (row ≡ row_ended caller before)
was_there caller id [] row e = absurd (cc)
was_there caller id (x ∷ rows) row e =
    elim (nat_eq x.id id) as (λ b. (if b then Some (row_ended caller x) else row_of id (map (row_ended caller) rows)) ≡ Some row → (before : Row) × ((if b then Some x else row_of id rows) ≡ Some before) × (row ≡ row_ended caller before)) [
      | true ↦ λ f. (x, refl, cc)
      | false ↦ λ f. was_there caller id rows row f
    ] (subst (λ n. (if nat_eq n id then Some (row_ended caller x) else row_of id (map (row_ended caller) rows)) ≡ Some row) (ended_name caller x) e)

-- ---- the table of one

ended_room : (issued : ℕ → List Written) (caller : ℕ) (rows : List Row) (number : ℕ) (room : Room) → IsSoundRoom issued rows number room → IsSoundRoom issued (map (row_ended caller) rows) number room
ended_room issued caller rows number room s = record {
  writers = s.writers;
  kept = λ id row found at.
      let (before, was, is) = was_there caller id rows row found in
      subst (λ (r : Row). IsKept room r (issued id)) (sym is)
      (ended_kept room caller before (issued id) (s.kept id before was (sym (ended_place caller before) ∙ sym (ap (λ (r : Row). r.room) is) ∙ at)));
  truncates = s.truncates;
}

ended_sound : (last : ℕ) (issued : Ledger) (caller : ℕ) (rows : List Row) (tree : Tree) → AreSound last issued rows tree → AreSound last issued (map (row_ended caller) rows) tree
ended_sound last issued caller rows tree s = record {
  rooms = λ number room there. ended_room (issued number) caller rows number room (s.rooms number room there);
  writes = s.writes;
  placed = λ id row found.
      let (before, was, is) = was_there caller id rows row found in
      let p = s.placed id before was in
      (p.0, subst (λ n. slice_get tree.rooms n ≡ Some p.0) (sym (ap (λ (r : Row). r.room) is ∙ ended_place caller before)) p.1);
  fresh = s.fresh;
  roomless = s.roomless;
}

-- What a call that was cut short left stays accounted for at its caller's end.
pub end_accounted : (issued : Ledger) (caller : ℕ) (cut new : State) → StopsShort cut new → (new.table ≡ cut.table) ⊎ (new.table ≡ without_caller caller cut.table) → IsAccounted issued cut → IsAccounted issued new
end_accounted issued caller cut new like table a = record {
  tree = a.tree;
  told = like.tree ∙ a.told;
  right = subst (λ n. AreRight (id_of n new.serial) issued new.table a.tree) (sym like.mount)
      (subst (λ n. AreRight (id_of cut.mount n) issued new.table a.tree) (sym like.serial)
      (elim table as (λ _. AreRight (last_id cut) issued new.table a.tree) [
        | inl same ↦ subst (λ (t : Table). AreRight (last_id cut) issued t a.tree) (sym same) a.right
        | inr without ↦ subst (λ (t : Table). AreRight (last_id cut) issued t a.tree) (sym without) (ended_sound (last_id cut) issued caller cut.table.writers a.tree a.right)
      ]));
}

-- ---- such a call issues nothing

pub cut_issues : (issued : Ledger) (old : State) (call : Call) (reply : Reply) → (reply ≡ Fault) ⊎ (reply ≡ NoMemory) → issued_after issued old call reply ≡ issued
cut_issues issued old call reply (inl fault) = subst (λ r. issued_after issued old call r ≡ issued) (sym fault) (at_fault issued old call)
  where
    at_fault : (issued : Ledger) (old : State) (call : Call) → issued_after issued old call Fault ≡ issued
    at_fault issued old Greet = refl
    at_fault issued old call = refl
cut_issues issued old call reply (inr memory) = subst (λ r. issued_after issued old call r ≡ issued) (sym memory) (at_want issued old call)
  where
    at_want : (issued : Ledger) (old : State) (call : Call) → issued_after issued old call NoMemory ≡ issued
    at_want issued old Greet = refl
    at_want issued old call = refl

pub stop_issues : (issued : Ledger) (old : State) (call : Call) (reply : Reply) → (reply ≡ Stopped) ⊎ (reply ≡ NoMemory) → issued_after issued old call reply ≡ issued
stop_issues issued old call reply (inl stopped) = subst (λ r. issued_after issued old call r ≡ issued) (sym stopped) (at_stop issued old call)
  where
    at_stop : (issued : Ledger) (old : State) (call : Call) → issued_after issued old call Stopped ≡ issued
    at_stop issued old Greet = refl
    at_stop issued old call = refl
stop_issues issued old call reply (inr memory) = cut_issues issued old call reply (inr memory)
