-- A list of truncates of a container fails only by the store.
use Rattle.std.proofs.Common.{◌≡◌, ℕ, false, List, [], ◌∷◌, get_or, Option, Some, refl, ap, sym, ◌∙◌, inl, inr, subst}
use Rattle.std.specs.Prelude.{Result, Ok, Err}
use Rattle.plfs_types.specs.declared.entries.Trunc.{Trunc}
use Rattle.plfs_types.specs.declared.names.Path.{Path}
use Rattle.plain_file.proofs.Facts.{Among}
use Rattle.container_layout.specs.declared.items.Item.{Item}
use Rattle.container_layout.specs.declared.items.Item.TheVariants as item
use Rattle.container_layout.specs.Paths.{IsAt, path_of}
use Rattle.container_layout.proofs.Facts.{elsewhere}
use Rattle.store_api.specs.declared.tree.Room.{Room}
use Rattle.store_api.specs.Room.{is_top}
use Rattle.store_laws.specs.Files.{file_at}
use Rattle.store_laws.specs.There.{ListsFolder}
use Rattle.mount_sound.specs.Container.{IsItemFile}
use Rattle.mount_sound.specs.Shape.{IsDrawnBy}
use Rattle.mount_model.specs.Paths.{Name, truncs as truncs_folder}
use Rattle.mount_model.specs.State.{last_id}
use Rattle.mount_model.specs.History.{Event}
use Rattle.mount_sound.specs.Owed.{IsLawful}
use Rattle.mount_model.specs.Program.{done}
use Rattle.mount_model.specs.declared.stuck.Stuck.{Stuck}
use Rattle.mount_model.specs.Running.{Runs}
use Rattle.mount_model.specs.FlowReplies.{given, names_in, trouble}
use Rattle.mount_model.specs.Names.{trunc_in}
use Rattle.index_reader.specs.Truncs.{if_trunc, inserted, truncs_of, truncs_path, trunc_program}
use Rattle.mount_model.proofs.Flows.Facts.{trunc_in-is}
use Rattle.reader_laws.specs.Moments.{Moment, IsSoundAt, moment_after}
use Rattle.reader_laws.proofs.Gathered.Facts.{file_of, grows_after, legal_first, named_file}
use Rattle.reader_laws.specs.Failing.{FailsByStore, IsContainerAt}
use Rattle.reader_laws.proofs.Faults.Failing.{here_fails}
use Rattle.reader_laws.proofs.Calls.Histories.{first_of}
use Rattle.reader_laws.proofs.Containers.Listings.{FromFirst, from_first}
use Rattle.reader_laws.proofs.Soundness.LookEnds.{HasContainer, container_of, container_later, list_ends}
use Rattle.reader_laws.proofs.Calls.Troubles.{answered}

-- ---- what stands in a folder

one_room : (a b : Room) (o : Option Room) → o ≡ Some a → o ≡ Some b → a ≡ b
one_room a b o p q = cc

-- a name in a folder of a container is an item's
pub name_is_item : (m : Moment) (s : IsSoundAt m) (number : ℕ) (folder : Name) (names : List Name) (c : HasContainer m s number) (l : ListsFolder s.shape.tree number folder names) → is_top folder ≡ false → (name : Name) → Among name names
    → (bytes : List ℕ) × IsItemFile (IsDrawnBy (last_id m.state) s.shape.tree) c.room (file_of folder name) bytes
name_is_item m s number folder names c l below name a =
    let f = named_file l.room folder name names below l.entries a in
    let same : l.room ≡ c.room = one_room l.room c.room _ l.has_room c.there in
    (f.0, c.is.files (file_of folder name) f.0 (subst (λ r. file_at r (file_of folder name) ≡ Some f.0) same f.1))

-- ---- truncates

trunc_item : (it : Item) → (path_of it).folder ≡ truncs_folder → (stamp size : ℕ) × (it ≡ item.Trunc stamp size)
trunc_item (item.Trunc stamp size) e = (stamp, size, refl)
trunc_item other e = elsewhere (ap (λ (l : List ℕ). get_or l 0 0) e) refl

below_top : is_top truncs_folder ≡ false
below_top = refl

all_told : (names : List Name) (sofar : List Trunc) → ((name : Name) → Among name names → (t : Trunc) × (trunc_in name ≡ Some t)) → (ts : List Trunc) × (truncs_of names sofar ≡ Ok ts)
all_told [] sofar each = (sofar, refl)
all_told (name ∷ names) sofar each =
    let here = each name (inl refl) in
    let rest = all_told names (inserted here.0 sofar) (λ n a. each n (inr a)) in
    (rest.0, ap (λ o. if_trunc name o (λ t. truncs_of names (inserted t sofar))) here.1 ∙ rest.1)

never_both : {R : Type 0} (r : Result R Stuck) (x : R) (why : Stuck) → r ≡ Ok x → r ≡ Err why → ⊥
never_both r x why a b = let clash : Ok x ≡ Err why = sym a ∙ b in cc

pub truncs_fail : (caller room : ℕ) (start : Moment) (events : List Event) (why : Stuck) → IsLawful start.state events → IsSoundAt start → IsContainerAt start room → Runs caller (trunc_program room) events (Err why) → FailsByStore caller start.state events why
truncs_fail caller room start events why lawful sound container runs =
    let f = first_of caller _ _ events (Err why) runs in
    let e : Event = f.event in
    let p : FromFirst start f.before e f.later = from_first start events f.before e f.later f.split lawful sound in
    let m : Moment = moment_after start f.before in
    let l1 = legal_first start f.before (e ∷ f.later) (subst (IsLawful start.state) f.split lawful) in
    let c : HasContainer m p.here room = container_of m p.here room (container_later start m room (grows_after start f.before l1 sound) container) in
    elim (list_ends m p.here e.caller room truncs_folder e.reply e.after c c.is.has_truncs (answered m.state e.caller _ e.ask e.reply e.after f.asked p.rest.1)) as (λ _. FailsByStore caller start.state events why) [
      | inl (names, l, is) ↦
          let all = all_told names [] (λ name a.
          let file = name_is_item m p.here room truncs_folder names c l below_top name a in
          let it = trunc_item file.1.item (sym (ap (λ (q : Path). q.folder) file.1.is_at.printed)) in
          (record { stamp = it.0; size = it.1 }, trunc_in-is name it.0 it.1 (subst (IsAt (file_of truncs_folder name)) it.2 file.1.is_at))) in
          let ends : Runs caller (done (truncs_of names [])) f.later (Err why) = subst (λ reply. Runs caller (given (names_in reply) (trouble (truncs_path []) reply) (λ ns. done (truncs_of ns []))) f.later (Err why)) is f.rest in
          absurd (never_both (truncs_of names []) all.0 why all.1 ends.1)
      | inr fails ↦ here_fails caller start events f.before e f.later why f.split lawful names_in (truncs_path []) (λ ns. done (truncs_of ns [])) f.by_caller refl refl fails f.rest
    ]
