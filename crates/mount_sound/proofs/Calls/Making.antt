-- A call that makes one act keeps soundness, if its outcome does at each thing that the act may tell.
use Rattle.std.proofs.Common.{◌≡◌, ◌≤◌, ◌<◌, ◌^◌, ℕ, Option, Some, sym, subst, arith}
use Rattle.store_api.specs.declared.tree.Tree.{Tree}
use Rattle.store_api.specs.Step.{Step}
use Rattle.store_laws.specs.Tells.{Tells}
use Rattle.store_laws.proofs.Facts.{acts_told}
use Rattle.mount_model.specs.declared.row.Row.{Row}
use Rattle.mount_model.specs.declared.reply.Reply.{Reply}
use Rattle.mount_model.specs.declared.reply.Refusal.{Refusal}
use Rattle.mount_model.specs.Table.{row_of}
use Rattle.mount_model.specs.State.{State, Table, last_id}
use Rattle.mount_model.specs.Making.{Told, CallOutcome, MakesAct, Refuses}
use Rattle.mount_model.specs.Regular.{IsRegular, IsCounted, IsDrawn}
use Rattle.mount_model.proofs.Facts.{row_of_all}
use Rattle.mount_sound.specs.Shape.{IsShaped}
use Rattle.mount_sound.proofs.Shapes.Facts.{id_fits}
use Rattle.mount_sound.specs.Ledger.{Ledger}
use Rattle.mount_sound.specs.Sound.{AreSound, IsSoundFor}
use Rattle.mount_sound.proofs.Soundness.Local.{AllFit}

-- the table's writers and the tree are right for what was issued
abbrev pub AreRight : ℕ → Ledger → Table → Tree → Type 0
AreRight last issued table tree = AreSound last issued table.writers tree

-- what soundness says of writers beside the table's rules and the tree's shape
pub record IsAccounted (issued : Ledger) (state : State) : Type 0 where
  pub tree : Tree
  pub told : state.store.tree ≡ Some tree
  pub right : AreRight (last_id state) issued state.table tree

-- what soundness says of writers: the rest of it rests on this
pub record HasSoundWriters (issued : Ledger) (state : State) : Type 0 where
  pub regular : IsRegular state
  pub shape : IsShaped state
  pub sound : AreSound (last_id state) issued state.table.writers shape.tree

abbrev pub its_writers : (issued : Ledger) (state : State) → IsSoundFor issued state → HasSoundWriters issued state
its_writers issued state s = record { regular = s.regular; shape = s.shape; sound = s.sound }

abbrev pub accounted : (issued : Ledger) (state : State) → HasSoundWriters issued state → IsAccounted issued state
accounted issued state s = record { tree = s.shape.tree; told = s.shape.told; right = s.sound }

pub one_tree : (a b : Tree) (o : Option Tree) → o ≡ Some a → o ≡ Some b → a ≡ b
one_tree a b o p q = cc

pub writers_for : (issued : Ledger) (state : State) → IsRegular state → IsShaped state → IsAccounted issued state → HasSoundWriters issued state
writers_for issued state regular shape a = record {
  regular = regular;
  shape = shape;
  sound = subst (λ t. AreSound (last_id state) issued state.table.writers t) (one_tree a.tree shape.tree state.store.tree a.told shape.told) a.right;
}

pub accounted_as : (issued : Ledger) (old new : State) → new ≡ old → IsAccounted issued old → IsAccounted issued new
accounted_as issued old new e a = subst (IsAccounted issued) (sym e) a

-- The state before the act may have drawn a serial or asked the clock. What was issued then depends on the reply.
pub makes_accounted : (step : Step) (outcome : Told → CallOutcome) (issued : Reply → Ledger) (old : State) (reply : Reply) (new : State) (tree : Tree) → old.store.tree ≡ Some tree
    → ((told : Told) (after : Tree) → Tells step tree told after → AreRight (last_id old) (issued (outcome told).reply) (outcome told).table after)
    → MakesAct step outcome old reply new → IsAccounted (issued reply) new
makes_accounted step outcome issued old reply new tree e keeps m =
    let t = acts_told step old.store new.store tree m.told e m.made in
    let a : IsAccounted (issued (outcome m.told).reply) (record old { store = new.store; table = (outcome m.told).table }) = record { tree = t.0; told = t.1; right = keeps m.told t.0 t.2 } in
    subst (λ r. IsAccounted (issued r) new) (sym m.answered) (subst (IsAccounted (issued (outcome m.told).reply)) (sym m.after) a)

pub refused_accounted : (issued : Ledger) (why : Refusal) (old : State) (reply : Reply) (new : State) → Refuses why old reply new → IsAccounted issued old → IsAccounted issued new
refused_accounted issued why old reply new r a = accounted_as issued old new r.1 a

-- ---- what a regular table says of its rows

drawn_of : (state : State) → IsRegular state → (id : ℕ) (row : Row) → row_of id state.table.writers ≡ Some row → IsDrawn state row.id
drawn_of state r id row e = row_of_all (λ (x : Row). IsDrawn state x.id) id state.table.writers row r.drawn e

pub all_fit : (state : State) → IsRegular state → AllFit state.table.writers
all_fit state r id row e =
    let d = drawn_of state r id row e in
    record {
      host = (row_of_all IsCounted id state.table.writers row r.counted e).host_fits;
      id = subst (λ i. i < 2 ^ 64) (sym d.3) (id_fits state.mount d.0 r.mount_fits (omega (arith, d.2, r.serial_fits)));
    }

pub drawn_by : (state : State) → IsRegular state → (id : ℕ) (row : Row) → row_of id state.table.writers ≡ Some row → row.id ≤ last_id state
drawn_by state r id row e = let d = drawn_of state r id row e in omega (arith, d.2, d.3)
