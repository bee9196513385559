-- A step that syncs a file.
use Rattle.std.proofs.Common.{ℕ, refl, inl, inr}
use Rattle.plfs_types.specs.declared.names.Path.{Path}
use Rattle.store_api.specs.declared.tree.Tree.{Tree}
use Rattle.store_api.specs.declared.step.Answer.TheVariants.{Made, Absent, NoFolder}
use Rattle.store_api.specs.Step.{sync as sync_file}
use Rattle.store_api.specs.Kept.{synced}
use Rattle.store_api.specs.Room.{becomes, with_file, file_synced}
use Rattle.store_api.specs.Effect.{Effect, effect, room_after}
use Rattle.store_laws.specs.Changes.{WasSynced}
use Rattle.store_laws.specs.Says.{WhyNoFile}
use Rattle.store_laws.specs.Outcomes.{ChangesOrStays}
use Rattle.store_laws.proofs.Steps.Rooms.{file_at_found, file_at_none, with_file_now, with_file_kept, with_file_others}
use Rattle.store_laws.proofs.Names.Differing.{files_set}
use Rattle.store_laws.proofs.Steps.Entering.{room_cases, file_cases, stays_in}

-- how the step ends
abbrev Syncs : Tree → ℕ → Path → Effect → Type 0
Syncs tree n path out = ChangesOrStays tree Made (WasSynced tree n path) (WhyNoFile tree n path) out

-- a file is synced, or the tree stays
pub sync_cases : (tree : Tree) (n : ℕ) (path : Path) → ChangesOrStays tree Made (WasSynced tree n path) (WhyNoFile tree n path) (effect tree (sync_file n path.folder path.file))
sync_cases tree n path =
    room_cases tree n (λ r. file_synced r path.folder path.file) (Syncs tree n path)
    (λ none. inr record { same = refl; unmade = λ m. cc; why = none })
    (λ room e. file_cases room path (λ place file. becomes (with_file room place (synced file))) (λ out. Syncs tree n path (room_after tree n out))
    (λ none. inr (stays_in tree n room NoFolder Made (WhyNoFile tree n path) e (λ m. cc) record { room = room; has_room = e; none = none }))
    (λ there none. inr (stays_in tree n room Absent Made (WhyNoFile tree n path) e (λ m. cc) record { room = room; has_room = e; folder = there; none = file_at_none room path none }))
    (λ place file there f. inl (
      refl,
      record {
        room = room;
        old = file.bytes;
        new = with_file room place (synced file);
        has_room = e;
        folder = there;
        there = file_at_found room path file f.found;
        now = with_file_now room path place (synced file) f.placed f.has_path;
        kept = with_file_kept room path place (synced file) f.placed f.has_path;
        others = with_file_others room path place file (synced file) f.stands f.has_path f.has_path;
        differ = files_set room.files place file (synced file) f.stands refl;
        gives = refl;
      },
    )))
