-- Steps that make or remove a folder.
use Rattle.std.proofs.Common.{◌≡◌, ℕ, Bool, true, false, ◌||◌, [], ◌∷◌, ◌++◌, slice_get, Some, refl, sym, inl, inr, if◌then◌else◌}
use Rattle.std.proofs.lemmas.List.Folds.{list_any-append}
use Rattle.store_api.specs.declared.tree.Room.{Room}
use Rattle.store_api.specs.declared.tree.Tree.{Tree}
use Rattle.store_api.specs.declared.step.Answer.TheVariants.{Made, Old}
use Rattle.store_api.specs.Step.{Name, make_folder}
use Rattle.store_api.specs.Names.{same_name}
use Rattle.store_api.specs.Room.{stays, becomes, is_top, has_folder, folder_made}
use Rattle.store_api.specs.Effect.{Effect, effect, room_after}
use Rattle.store_laws.specs.Differ.{is_listed}
use Rattle.store_laws.specs.Changes.{FolderMade}
use Rattle.store_laws.specs.Says.{WhyNoFolderMade}
use Rattle.store_laws.specs.Outcomes.{ChangesOrStays}
use Rattle.store_laws.proofs.Names.Naming.{name_refl, name_other}
use Rattle.store_laws.proofs.Names.Differing.{names_more}
use Rattle.store_laws.proofs.Steps.Entering.{room_cases, stays_in}

-- the room with one more folder
abbrev pub with_folder : Room → Name → Room
with_folder room folder = record room { folders = room.folders ++ folder ∷ [] }

at_end : (a b : Bool) → (a || (b || (true || false))) ≡ true
at_end true b = refl
at_end false true = refl
at_end false false = refl

with_folder_now : (room : Room) (folder : Name) → has_folder (with_folder room folder) folder ≡ true
with_folder_now room folder = rw (list_any-append (λ name. same_name name folder) room.folders (folder ∷ []), name_refl folder) (at_end (is_top folder) (is_listed folder room.folders))

nothing_more : (a b : Bool) → (a || (b || (false || false))) ≡ (a || b)
nothing_more true b = refl
nothing_more false true = refl
nothing_more false false = refl

with_folder_other : (room : Room) (folder other : Name) → (other ≡ folder → ⊥) → has_folder (with_folder room folder) other ≡ has_folder room other
with_folder_other room folder other apart =
    let differs : same_name folder other ≡ false = name_other folder other (λ same. apart (sym same)) in
    rw (list_any-append (λ name. same_name name other) room.folders (folder ∷ []), differs) (nothing_more (is_top other) (is_listed other room.folders))

unlisted : (a b : Bool) → (a || b) ≡ false → b ≡ false
unlisted true b e = absurd (cc)
unlisted false b e = e

-- how the step ends
abbrev Makes : Tree → ℕ → Name → Effect → Type 0
Makes tree n folder out = ChangesOrStays tree Made (FolderMade tree n folder) (WhyNoFolderMade tree n folder) out

by_folder : (tree : Tree) (n : ℕ) (folder : Name) (room : Room) → slice_get tree.rooms n ≡ Some room → (b : Bool) → has_folder room folder ≡ b
    → Makes tree n folder (room_after tree n (if b then stays room (Old 0) else becomes (with_folder room folder)))
by_folder tree n folder room e true there =
    inr (stays_in tree n room (Old 0) Made (WhyNoFolderMade tree n folder) e (λ m. cc) (refl, record { room = room; has_room = e; there = there }))
by_folder tree n folder room e false none = inl (
  refl,
  record {
    room = room;
    new = with_folder room folder;
    has_room = e;
    none = none;
    now = with_folder_now room folder;
    others = record { name = refl; folders = with_folder_other room folder; files = refl };
    differ = λ d. names_more room.folders folder d (unlisted (is_top folder) (is_listed folder room.folders) none);
    gives = refl;
  },
)

-- a folder is made, or the tree stays
pub make_folder_cases : (tree : Tree) (n : ℕ) (folder : Name) → ChangesOrStays tree Made (FolderMade tree n folder) (WhyNoFolderMade tree n folder) (effect tree (make_folder n folder))
make_folder_cases tree n folder =
    room_cases tree n (λ r. folder_made r folder) (Makes tree n folder)
    (λ none. inr record { same = refl; unmade = λ m. cc; why = none })
    (λ room e. by_folder tree n folder room e (has_folder room folder) refl)
