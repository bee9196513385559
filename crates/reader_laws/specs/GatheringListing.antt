-- What listings of a container's folders tell of its droppings and truncates.
use Rattle.std.specs.Prelude.{◌≡◌, ◌≢◌, ◌⊎◌, ◌<◌, ◌%◌, ℕ, List, [], ◌∷◌, ◌++◌}
use Rattle.std.specs.List.{All, Any, AllByRecursion}
use Rattle.plfs_types.specs.declared.entries.Trunc.{Trunc}
use Rattle.container_layout.specs.declared.items.Item.TheVariants as item
use Rattle.container_layout.specs.Paths.{IsIn, hostdir_of, path_of}
use Rattle.store_api.specs.declared.step.Answer.TheVariants.{Names}
use Rattle.mount_model.specs.declared.call.Call.TheVariants.{Look}
use Rattle.mount_model.specs.declared.call.Look.{Look as Sight}
use Rattle.mount_model.specs.declared.call.Look.TheVariants.{Top, List as ListFolder}
use Rattle.mount_model.specs.declared.reply.Reply.TheVariants.{Looked}
use Rattle.mount_model.specs.Paths.{Name, truncs}
use Rattle.reader_laws.specs.Moments.{Moment, Dropping, Stood, HadTrunc}
use Rattle.reader_laws.specs.Seen.{Asked}
use Rattle.plfs_types.specs.Places.{IsAmong}
use Rattle.container_layout.specs.Paths.{hostdirs}

-- names were asked and told
pub record IsListed (room : ℕ) (look : Sight) (names : List Name) (asked : Asked) : Type 0 where
  pub call : asked.ask.call ≡ Look room look
  pub reply : asked.reply ≡ Looked (Names names)

-- ---- truncates

-- the stamps rise
abbrev pub StampsRise : List Trunc → Type 0
StampsRise [] = Unit {0}
StampsRise (t ∷ ts) = AllByRecursion (λ (later : Trunc). t.stamp < later.stamp) ts × StampsRise ts

-- the name is that of the truncate's dropping
abbrev pub IsTruncName : Name → Trunc → Type 0
IsTruncName name t = IsIn truncs name (item.Trunc t.stamp t.size)

-- the truncates that these names are of, by rising stamp
pub record AreTruncsOf (names : List Name) (ts : List Trunc) : Type 0 where
  pub rise : StampsRise ts
  pub named : All (λ (t : Trunc). Any (λ name. IsTruncName name t) names) ts
  pub all : (t : Trunc) → Any (λ name. IsTruncName name t) names → IsAmong t ts

-- all truncates that stood in the room at that moment, by rising stamp
pub record AreTruncsAt (moment : Moment) (room : ℕ) (ts : List Trunc) : Type 0 where
  pub rise : StampsRise ts
  pub there : All (λ (t : Trunc). HadTrunc moment room t.stamp t.size) ts
  pub all : (t : Trunc) → HadTrunc moment room t.stamp t.size → IsAmong t ts

-- ---- droppings

-- the name is that of the index dropping of this writer, in the folder of droppings of this number
pub record IsIndexName (room k : ℕ) (name : Name) (d : Dropping) : Type 0 where
  pub room_is : d.room ≡ room
  pub folder : d.host % 32 ≡ k
  pub named : IsIn (hostdir_of k) name (item.Index d.host d.writer)

-- the index droppings that these names in that folder are of, in the order of the names
abbrev pub AreDroppingsOf : ℕ → ℕ → List Name → List Dropping → Type 0
AreDroppingsOf room k [] ds = ds ≡ []
AreDroppingsOf room k (name ∷ names) ds =
    ((d : Dropping) × (rest : List Dropping) × IsIndexName room k name d × (ds ≡ d ∷ rest) × AreDroppingsOf room k names rest)
    ⊎ (((d : Dropping) → IsIndexName room k name d → ⊥) × AreDroppingsOf room k names ds)

-- The folder of droppings of this number is listed, and these droppings are found.
pub record ListsHostdir (room k : ℕ) (ds : List Dropping) (asked : Asked) : Type 0 where
  pub names : List Name
  pub lists : IsListed room (ListFolder (hostdir_of k)) names asked
  pub found : AreDroppingsOf room k names ds

-- It is listed where the top named it, and else nothing is asked of it.
abbrev pub ShowsHostdir : ℕ → List Name → ℕ → List Asked → List Dropping → Type 0
ShowsHostdir room top k asked ds =
    ((IsAmong (hostdir_of k) top → ⊥) × (asked ≡ []) × (ds ≡ []))
    ⊎ (IsAmong (hostdir_of k) top × ((call : Asked) × (asked ≡ call ∷ []) × ListsHostdir room k ds call))

-- So are the folders of these numbers, one after the other.
abbrev pub ListsHostdirs : ℕ → List Name → List ℕ → List Asked → List Dropping → Type 0
ListsHostdirs room top [] asked ds = (asked ≡ []) × (ds ≡ [])
ListsHostdirs room top (k ∷ ks) asked ds =
    (mine rest : List Asked) × (here others : List Dropping) × (asked ≡ mine ++ rest) × (ds ≡ here ++ others) × ShowsHostdir room top k mine here × ListsHostdirs room top ks rest others

-- The scan of a container: its top, then each folder of droppings.
pub record IsScan (room : ℕ) (ds : List Dropping) (asked : List Asked) : Type 0 where
  pub first : Asked
  pub rest : List Asked
  pub calls : asked ≡ first ∷ rest
  pub top : List Name
  pub lists : IsListed room Top top first
  pub hostdirs : ListsHostdirs room top hostdirs rest ds

-- the scan named the packed index of this writer
abbrev pub NamesPack : List Asked → Dropping → Type 0
NamesPack scan d = Any (λ (asked : Asked). (names : List Name) × IsListed d.room (ListFolder (hostdir_of d.host)) names asked × IsAmong (path_of (item.Packed d.host d.writer)).file names) scan

-- no two of the droppings are of one writer
abbrev pub WritersDiffer : List Dropping → Type 0
WritersDiffer [] = Unit {0}
WritersDiffer (d ∷ ds) = AllByRecursion (λ (e : Dropping). e.writer ≢ d.writer) ds × WritersDiffer ds

-- These are index droppings of the room that stood at the later moment, one a writer, and all that stood at the earlier
-- one are among them.
pub record AreFound (start end : Moment) (room : ℕ) (ds : List Dropping) : Type 0 where
  pub stood : All (λ (d : Dropping). (d.room ≡ room) × Stood end d) ds
  pub complete : (d : Dropping) → d.room ≡ room → Stood start d → IsAmong d ds
  pub differ : WritersDiffer ds
