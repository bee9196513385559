-- Steps that remove a file, or give it another name.
use Rattle.std.proofs.Common.{ℕ, refl, inl, inr}
use Rattle.plfs_types.specs.declared.names.Path.{Path}
use Rattle.store_api.specs.declared.tree.Tree.{Tree}
use Rattle.store_api.specs.declared.step.Answer.TheVariants.{Made, Absent, NoFolder}
use Rattle.store_api.specs.Step.{remove as remove_file}
use Rattle.store_api.specs.Room.{becomes, file_removed}
use Rattle.store_api.specs.Effect.{Effect, effect, room_after}
use Rattle.store_laws.specs.Changes.{Removed}
use Rattle.store_laws.specs.Says.{WhyNoFile}
use Rattle.store_laws.specs.Outcomes.{ChangesOrStays}
use Rattle.store_laws.proofs.Steps.Rooms.{file_at_found, file_at_none, without, without_others, without_gone}
use Rattle.store_laws.proofs.Names.Differing.{files_removed}
use Rattle.store_laws.proofs.Steps.Entering.{room_cases, file_cases, stays_in}

-- how the step ends
abbrev Removes : Tree → ℕ → Path → Effect → Type 0
Removes tree n path out = ChangesOrStays tree Made (Removed tree n path) (WhyNoFile tree n path) out

-- a file is removed, or the tree stays
pub remove_cases : (tree : Tree) (n : ℕ) (path : Path) → ChangesOrStays tree Made (Removed tree n path) (WhyNoFile tree n path) (effect tree (remove_file n path.folder path.file))
remove_cases tree n path =
    room_cases tree n (λ r. file_removed r path.folder path.file) (Removes tree n path)
    (λ none. inr record { same = refl; unmade = λ m. cc; why = none })
    (λ room e. file_cases room path (λ place file. becomes (without room place)) (λ out. Removes tree n path (room_after tree n out))
    (λ none. inr (stays_in tree n room NoFolder Made (WhyNoFile tree n path) e (λ m. cc) record { room = room; has_room = e; none = none }))
    (λ there none. inr (stays_in tree n room Absent Made (WhyNoFile tree n path) e (λ m. cc) record { room = room; has_room = e; folder = there; none = file_at_none room path none }))
    (λ place file there f. inl (
      refl,
      record {
        room = room;
        old = file.bytes;
        new = without room place;
        has_room = e;
        folder = there;
        there = file_at_found room path file f.found;
        gone = λ d. file_at_none (without room place) path (without_gone room path place file f.stands f.has_path d);
        others = without_others room path place file f.stands f.has_path;
        differ = λ d. files_removed room.files place d;
        gives = refl;
      },
    )))
