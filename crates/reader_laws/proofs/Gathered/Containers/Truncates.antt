-- The list of truncates has exactly those that stood at its moment.
use Rattle.std.proofs.Common.{◌≡◌, ℕ, List, [], ◌∷◌, false, Some, refl, ap, sym, ◌∙◌, subst}
use Rattle.std.specs.Prelude.{slice_get}
use Rattle.std.specs.List.{Any, AllByRecursion}
use Rattle.std.proofs.lemmas.List.Elements.{All-from_recursion, recursion_from_All}
use Rattle.plfs_types.specs.declared.entries.Trunc.{Trunc}
use Rattle.plfs_types.specs.declared.names.Path.{Path}
use Rattle.store_api.specs.Room.{is_top}
use Rattle.store_laws.specs.Files.{file_at}
use Rattle.store_laws.specs.There.{ListsFolder}
use Rattle.mount_model.specs.Paths.{Name, truncs as truncs_folder, trunc_path}
use Rattle.mount_model.specs.State.{State}
use Rattle.mount_model.specs.Step.{IsStep}
use Rattle.reader_laws.specs.Moments.{Moment, IsSoundAt, file_in_room, file_told, HadTrunc}
use Rattle.reader_laws.specs.Seen.{Asked}
use Rattle.reader_laws.specs.GatheringListing.{IsTruncName, AreTruncsOf, AreTruncsAt}
use Rattle.reader_laws.specs.GatheringOpening.{ListsTruncs}
use Rattle.reader_laws.proofs.Gathered.Moments.Growing.{in_a_room}
use Rattle.reader_laws.proofs.Gathered.Containers.Looking.{folder_listed}
use Rattle.reader_laws.proofs.Gathered.Logs.Fronts.{in_tree}
use Rattle.reader_laws.proofs.Gathered.Containers.Replied.{answers_as}
use Rattle.reader_laws.proofs.Gathered.Containers.Members.{any_found, found_any}
use Rattle.reader_laws.proofs.Gathered.Containers.Entries.{file_named, named_file}

below_top : is_top truncs_folder ≡ false
below_top = refl

-- a name that is listed is that of a truncate that stood
stood : (m : Moment) (s : IsSoundAt m) (room : ℕ) (names : List Name) (l : ListsFolder s.shape.tree room truncs_folder names) (t : Trunc) → Any (λ name. IsTruncName name t) names → HadTrunc m room t.stamp t.size
stood m s room names l t any =
    let (name, a, is) = any_found (λ name. IsTruncName name t) names any in
    let f = named_file l.room truncs_folder name names below_top l.entries a in
    let here : file_at l.room (trunc_path t.stamp t.size) ≡ Some f.0 = subst (λ (p : Path). file_at l.room p ≡ Some f.0) is.printed f.1 in
    record { is_item = is.is_item; bytes = f.0; there = ap (λ o. file_told o room (trunc_path t.stamp t.size)) s.shape.told ∙ ap (λ o. file_in_room o (trunc_path t.stamp t.size)) l.has_room ∙ here }

-- a truncate that stood is named
named : (m : Moment) (s : IsSoundAt m) (room : ℕ) (names : List Name) (l : ListsFolder s.shape.tree room truncs_folder names) (t : Trunc) → HadTrunc m room t.stamp t.size → Any (λ name. IsTruncName name t) names
named m s room names l t had =
    let path : Path = trunc_path t.stamp t.size in
    let f = in_a_room (slice_get s.shape.tree.rooms room) path had.bytes (in_tree m s room path had.bytes had.there) in
    let both : Some f.0 ≡ Some l.room = sym f.1 ∙ l.has_room in
    let same : f.0 ≡ l.room = cc in
    let here : file_at l.room path ≡ Some had.bytes = subst (λ x. file_at x path ≡ Some had.bytes) same f.2 in
    found_any (λ name. IsTruncName name t) names path.file (file_named l.room truncs_folder path.file names had.bytes l.entries here) record { is_item = had.is_item; printed = refl }

all_stood : (m : Moment) (s : IsSoundAt m) (room : ℕ) (names : List Name) (l : ListsFolder s.shape.tree room truncs_folder names) (ts : List Trunc) → AllByRecursion (λ (t : Trunc). Any (λ name. IsTruncName name t) names) ts → AllByRecursion (λ (t : Trunc). HadTrunc m room t.stamp t.size) ts
all_stood m s room names l [] all = tt
all_stood m s room names l (t ∷ ts) all = (stood m s room names l t all.0, all_stood m s room names l ts all.1)

-- What was listed at a moment are the truncates of then.
pub truncs_listed : (m : Moment) (s : IsSoundAt m) (caller room : ℕ) (ts : List Trunc) (asked : Asked) (new : State) → IsStep m.state caller asked.ask asked.reply new → ListsTruncs room ts asked → AreTruncsAt m room ts
truncs_listed m s caller room ts asked new answers lists =
    let l = folder_listed m s caller room truncs_folder lists.names new (answers_as m.state caller asked.ask _ asked.reply _ new lists.lists.call lists.lists.reply refl answers) in
    let told : AreTruncsOf lists.names ts = lists.told in
    record {
      rise = told.rise;
      there = All-from_recursion (λ (t : Trunc). HadTrunc m room t.stamp t.size) ts (all_stood m s room lists.names l ts (recursion_from_All (λ (t : Trunc). Any (λ name. IsTruncName name t) lists.names) ts told.named));
      all = λ t had. told.all t (named m s room lists.names l t had);
    }
