-- Calls whose acts change nothing keep soundness.
use Rattle.std.proofs.Common.{◌≡◌, ℕ, Some, refl, ap, sym, ◌∙◌, subst}
use Rattle.std.specs.Prelude.{Ok}
use Rattle.store_api.specs.declared.step.Answer.TheVariants.{Number, Absent}
use Rattle.store_api.specs.Step.{Step, find_room, rooms as all_rooms}
use Rattle.store_laws.specs.Outcomes.{IsLook}
use Rattle.store_laws.proofs.Facts.{look_told, acts_told}
use Rattle.mount_model.specs.declared.call.Look.{Look}
use Rattle.mount_model.specs.declared.call.Look.TheVariants.{Top, List as ListFolder, Length, Read}
use Rattle.mount_model.specs.declared.reply.Reply.{Reply}
use Rattle.mount_model.specs.Finding.{find_outcome, Finds, NamesRooms}
use Rattle.mount_model.specs.Looking.{look_step, look_outcome, LooksAt}
use Rattle.mount_model.specs.Making.{Told, CallOutcome, MakesAct, room_check}
use Rattle.mount_model.specs.Paths.{Name}
use Rattle.mount_model.specs.State.{State, Table, last_id}
use Rattle.mount_sound.specs.Ledger.{Ledger}
use Rattle.mount_sound.proofs.Calls.Making.{AreRight, IsAccounted, makes_accounted}
use Rattle.mount_sound.proofs.Writers.Stages.{unless_refused}

-- the tree stays, and so does the table
looks_keep : (issued : Ledger) (step : Step) (outcome : Told → CallOutcome) (old : State) (reply : Reply) (new : State) → IsLook step → ((told : Told) → (outcome told).table ≡ old.table) → MakesAct step outcome old reply new → IsAccounted issued old → IsAccounted issued new
looks_keep issued step outcome old reply new look same makes a =
    makes_accounted step outcome (λ x. issued) old reply new a.tree a.told
    (λ told after t. subst (λ x. AreRight (last_id old) issued x after) (sym (same told)) (subst (AreRight (last_id old) issued old.table) (sym (look_told step a.tree told after look t)) a.right))
    makes

is_look : (room : ℕ) (look : Look) → IsLook (look_step room look)
is_look room Top = tt
is_look room (ListFolder folder) = tt
is_look room (Length path) = tt
is_look room (Read path at len) = tt

-- Looking at a container keeps soundness.
pub look_keeps : (issued : Ledger) (old : State) (room : ℕ) (look : Look) (reply : Reply) (new : State) → LooksAt room look old reply new → IsAccounted issued old → IsAccounted issued new
look_keeps issued old room look reply new f a =
    unless_refused issued (room_check old room) old reply new (MakesAct (look_step room look) (look_outcome look old) old reply new) f a
    (λ none makes. looks_keep issued (look_step room look) (look_outcome look old) old reply new (is_look room look) (λ told. refl) makes a)

find_rows : (table : Table) (told : Told) → (find_outcome table told).table ≡ table
find_rows table (Ok (Number room)) = refl
find_rows table (Ok Absent) = refl
find_rows table told = refl

-- Finding a container keeps soundness.
pub find_keeps : (issued : Ledger) (old : State) (name : Name) (reply : Reply) (new : State) → Finds name old reply new → IsAccounted issued old → IsAccounted issued new
find_keeps issued old name reply new f a = looks_keep issued (find_room name) (find_outcome old.table) old reply new tt (find_rows old.table) f.makes a

-- Naming the containers keeps soundness.
pub rooms_keep : (issued : Ledger) (old : State) (reply : Reply) (new : State) → NamesRooms old reply new → IsAccounted issued old → IsAccounted issued new
rooms_keep issued old reply new f a =
    let t = acts_told all_rooms old.store new.store a.tree f.told a.told f.made in
    let same : t.0 ≡ a.tree = look_told all_rooms a.tree f.told t.0 tt t.2 in
    let after : IsAccounted issued (record old { store = new.store }) = record { tree = a.tree; told = t.1 ∙ ap (λ x. Some x) same; right = a.right } in
    subst (IsAccounted issued) (sym f.after) after
