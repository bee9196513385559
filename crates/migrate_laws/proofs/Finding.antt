-- The call that finds a container tells the room that has the name.
use Rattle.std.proofs.Common.{◌≡◌, ℕ, Some, ap, subst}
use Rattle.std.specs.Prelude.{Ok, Err}
use Rattle.store_api.specs.declared.step.Answer.TheVariants.{Number}
use Rattle.store_api.specs.declared.store.Trouble.TheVariants.{Fault, NoMemory}
use Rattle.store_api.specs.Step.{find_room}
use Rattle.store_laws.specs.Says.{FindTells}
use Rattle.store_laws.specs.Tells.{Tells}
use Rattle.store_laws.proofs.Facts.{acts_told, find_tells, look_answered}
use Rattle.mount_model.specs.FlowReplies.{room_in}
use Rattle.mount_model.specs.Running.{unbroken}
use Rattle.mount_model.specs.declared.call.Call.TheVariants.{Find}
use Rattle.mount_model.specs.declared.reply.Reply.{Reply}
use Rattle.mount_model.specs.declared.reply.Reply.TheVariants.{Room}
use Rattle.mount_model.specs.Finding.{Finds, find_outcome}
use Rattle.mount_model.specs.Making.{Told}
use Rattle.mount_model.specs.Paths.{Name}
use Rattle.mount_model.specs.State.{State, Table}
use Rattle.mount_model.specs.Step.{IsStep}
use Rattle.migrate_laws.specs.Moments.{IsNamed}

of_room : (reply : Reply) (number : ℕ) → room_in reply ≡ Some number → reply ≡ Room number
of_room (Room found) number e = let same : found ≡ number = cc in ap (λ n. Room n) same
of_room reply number e = absurd cc

number_found : (table : Table) (told : Told) (number : ℕ) → Room number ≡ (find_outcome table told).reply → told ≡ Ok (Number number)
number_found table (Ok (Number n)) number e = let same : n ≡ number = cc in ap (λ k. Ok (Number k)) same
number_found table (Ok answer) number e = absurd (cc)
number_found table (Err Fault) number e = absurd (cc)
number_found table (Err NoMemory) number e = absurd (cc)

pub found_named : (old : State) (caller : ℕ) (name : Name) (reply : Reply) (new : State) (number : ℕ) → IsStep old caller (unbroken (Find name)) reply new → room_in reply ≡ Some number → IsNamed name number old
found_named old caller name reply new number step is tree has =
    let told : IsStep old caller (unbroken (Find name)) (Room number) new = subst (λ r. IsStep old caller (unbroken (Find name)) r new) (of_room reply number is) step in
    let finds : Finds name old (Room number) new = told.does in
    let m = finds.makes in
    let t = acts_told (find_room name) old.store new.store tree m.told has m.made in
    (look_answered (find_room name) tree (FindTells tree name) (find_tells tree name) (Number number) t.0 (subst (λ o. Tells (find_room name) tree o t.0) (number_found old.table m.told number m.answered) t.2)).1
