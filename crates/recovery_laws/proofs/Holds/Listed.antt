-- What a listing that was answered says of the room at that moment.
use Rattle.std.proofs.Common.{◌≡◌, ℕ, List, true, ◌||◌, Some, ap, ◌∙◌, subst, inl, inr}
use Rattle.std.specs.Prelude.{Ok, Err, is_some, ◌&&◌}
use Rattle.plfs_types.specs.declared.names.Path.{Path}
use Rattle.store_api.specs.declared.tree.Room.{Room}
use Rattle.store_api.specs.declared.tree.Tree.{Tree}
use Rattle.store_api.specs.declared.step.Answer.{Answer}
use Rattle.store_api.specs.declared.step.Answer.TheVariants.{Names}
use Rattle.store_api.specs.declared.store.Trouble.TheVariants.{Fault, NoMemory}
use Rattle.store_api.specs.Room.{is_top}
use Rattle.store_laws.specs.Differ.{is_listed}
use Rattle.store_laws.specs.Files.{file_at}
use Rattle.store_laws.specs.There.{ListsFolder, AreNamesOf}
use Rattle.store_laws.specs.Says.{ListTells}
use Rattle.store_laws.specs.Tells.{Tells}
use Rattle.store_laws.proofs.Facts.{acts_told, list_tells, look_answered}
use Rattle.mount_model.specs.Running.{unbroken}
use Rattle.mount_model.specs.declared.call.Call.TheVariants.{Look}
use Rattle.mount_model.specs.declared.call.Look.{Look as Sight}
use Rattle.mount_model.specs.declared.call.Look.TheVariants.{List as ListFolder}
use Rattle.mount_model.specs.declared.reply.Reply.TheVariants.{Looked, Refused}
use Rattle.mount_model.specs.Paths.{Name}
use Rattle.mount_model.specs.State.{State}
use Rattle.mount_model.specs.Making.{Told, MakesAct, Refuses, room_check}
use Rattle.mount_model.specs.Looking.{look_step, look_outcome, listing_reply}
use Rattle.mount_model.specs.Step.{IsStep}
use Rattle.mount_model.proofs.Facts.{match_cases}

abbrev Made : ℕ → Sight → State → Answer → State → Type 0
Made room look old answer new = MakesAct (look_step room look) (look_outcome look old) old (Looked answer) new

made : (old : State) (caller room : ℕ) (look : Sight) (answer : Answer) (new : State) → IsStep old caller (unbroken (Look room look)) (Looked answer) new → Made room look old answer new
made old caller room look answer new f = elim (match_cases (room_check old room) (Made room look old answer new) (λ why. Refuses why old (Looked answer) new) f.does) as (λ _. Made room look old answer new) [
  | inl (none, m) ↦ m
  | inr (why, some, r) ↦ absurd (let e : Looked answer ≡ Refused why = r.0 in cc)
]

names_told : (folder : Name) (told : Told) (names : List Name) → Looked (Names names) ≡ listing_reply folder told → told ≡ Ok (Names names)
names_told folder (Ok (Names listed)) names e = let same : listed ≡ names = cc in ap (λ n. Ok (Names n)) same
names_told folder (Ok answer) names e = absurd (cc)
names_told folder (Err Fault) names e = absurd (cc)
names_told folder (Err NoMemory) names e = absurd (cc)

-- A listing of a folder names what stands in it.
pub folder_listed : (old : State) (tree : Tree) (caller room : ℕ) (folder : Name) (names : List Name) (new : State) → old.store.tree ≡ Some tree → IsStep old caller (unbroken (Look room (ListFolder folder))) (Looked (Names names)) new → ListsFolder tree room folder names
folder_listed old tree caller room folder names new told f =
    let l = made old caller room (ListFolder folder) (Names names) new f in
    let t = acts_told (look_step room (ListFolder folder)) old.store new.store tree l.told told l.made in
    (look_answered (look_step room (ListFolder folder)) tree (ListTells tree room folder) (list_tells tree room folder) (Names names) t.0
    (subst (λ o. Tells (look_step room (ListFolder folder)) tree o t.0) (names_told folder l.told names l.answered) t.2)).1

abbrev file_of : Name → Name → Path
file_of folder name = record { folder = folder; file = name }

-- a file that is there is named
pub file_named : (room : Room) (folder name : Name) (names : List Name) (bytes : List ℕ) → AreNamesOf room folder names → file_at room (file_of folder name) ≡ Some bytes → is_listed name names ≡ true
file_named room folder name names bytes are e = are.exactly name ∙ ap (λ o. is_some o || (is_top folder && is_listed name room.folders)) e
