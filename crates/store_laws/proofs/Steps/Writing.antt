-- Steps that write a file, or cut it.
use Rattle.std.proofs.Common.{◌≡◌, ◌≤◌, ◌<◌, ℕ, Bool, true, false, List, length, min, nat_le, slice_get, Some, refl, ap, sym, ◌∙◌, inl, inr, arith, if◌then◌else◌}
use Rattle.std.proofs.lemmas.Bool.Decides.{nat_tests}
use Rattle.plfs_types.specs.Bytes.{overwritten}
use Rattle.plfs_types.specs.declared.names.Path.{Path}
use Rattle.store_api.specs.declared.tree.File.{File}
use Rattle.store_api.specs.declared.tree.Room.{Room}
use Rattle.store_api.specs.declared.tree.Tree.{Tree}
use Rattle.store_api.specs.declared.step.Answer.TheVariants.{Made, Absent, NoFolder, Beyond}
use Rattle.store_api.specs.Kept.{kept_after}
use Rattle.store_api.specs.Step.{write_at, cut}
use Rattle.store_api.specs.Kept.{written, shortened}
use Rattle.store_api.specs.Room.{Outcome, stays, becomes, has_folder, in_file, with_file}
use Rattle.store_api.specs.Effect.{Effect, effect, room_after, in_room}
use Rattle.store_laws.specs.Files.{file_at, kept_at, SameButFile}
use Rattle.store_laws.specs.Differ.{PathsDiffer}
use Rattle.store_laws.specs.Changes.{with_room, Wrote, WasCut}
use Rattle.store_laws.specs.Says.{WhyNotWritten}
use Rattle.store_laws.specs.Outcomes.{ChangesOrStays}
use Rattle.store_laws.proofs.Steps.Rooms.{file_at_found, file_at_none, kept_at_found, with_file_now, with_file_kept, with_file_others}
use Rattle.store_laws.proofs.Names.Differing.{files_set}
use Rattle.store_laws.proofs.Steps.Entering.{FoundAt, room_cases, file_cases, stays_in}

-- a file of the room has got other bytes
record Rewritten (tree : Tree) (n : ℕ) (path : Path) (at : ℕ) (change : File → File) (after : Tree) : Type 0 where
  room : Room
  file : File
  new : Room
  has_room : slice_get tree.rooms n ≡ Some room
  folder : has_folder room path.folder ≡ true
  there : file_at room path ≡ Some file.bytes
  kept : kept_at room path ≡ file.kept
  within : at ≤ length file.bytes
  now : file_at new path ≡ Some (change file).bytes
  kept_now : kept_at new path ≡ (change file).kept
  others : SameButFile path room new
  differ : PathsDiffer room → PathsDiffer new
  gives : after ≡ with_room tree n new

-- how the step ends
abbrev Rewrites : Tree → ℕ → Path → ℕ → (File → File) → Effect → Type 0
Rewrites tree n path at change out = ChangesOrStays tree Made (Rewritten tree n path at change) (WhyNotWritten tree n path at) out

-- what becomes of the file, unless it ends before the place
abbrev rewritten : Room → ℕ → (File → File) → ℕ → File → Outcome
rewritten room at change place file =
    if nat_le at (length file.bytes)
    then becomes (with_file room place (change file))
    else stays room Beyond

longer : (a b : ℕ) → nat_le a b ≡ true → a ≤ b
longer a b e = grind (arith, nat_tests)

shorter : (a b : ℕ) → nat_le a b ≡ false → b < a
shorter a b e = grind (arith, nat_tests)

module _ (tree : Tree) (n : ℕ) (path : Path) (at : ℕ) (change : File → File) (stands : (file : File) → (change file).path ≡ file.path) where
  by_length : (room : Room) (place : ℕ) (file : File) → slice_get tree.rooms n ≡ Some room → has_folder room path.folder ≡ true → FoundAt room path place file → (b : Bool) → nat_le at (length file.bytes) ≡ b
      → Rewrites tree n path at change (room_after tree n (if b then becomes (with_file room place (change file)) else stays room Beyond))
  by_length room place file e there f true fits =
      inl (
        refl,
        record {
          room = room;
          file = file;
          new = with_file room place (change file);
          has_room = e;
          folder = there;
          there = file_at_found room path file f.found;
          kept = kept_at_found room path file f.found;
          within = longer at (length file.bytes) fits;
          now = with_file_now room path place (change file) f.placed (stands file ∙ f.has_path);
          kept_now = with_file_kept room path place (change file) f.placed (stands file ∙ f.has_path);
          others = with_file_others room path place file (change file) f.stands f.has_path (stands file ∙ f.has_path);
          differ = files_set room.files place file (change file) f.stands (stands file);
          gives = refl;
        },
      )
  by_length room place file e there f false past =
      inr (stays_in tree n room Beyond Made (WhyNotWritten tree n path at) e (λ m. cc)
      (record { room = room; bytes = file.bytes; has_room = e; folder = there; there = file_at_found room path file f.found }, shorter at (length file.bytes) past))

  in_its_room : (room : Room) → slice_get tree.rooms n ≡ Some room → Rewrites tree n path at change (room_after tree n (in_file room path.folder path.file (rewritten room at change)))
  in_its_room room e =
      file_cases room path (rewritten room at change) (λ out. Rewrites tree n path at change (room_after tree n out))
      (λ none. inr (stays_in tree n room NoFolder Made (WhyNotWritten tree n path at) e (λ m. cc) record { room = room; has_room = e; none = none }))
      (λ there none. inr (stays_in tree n room Absent Made (WhyNotWritten tree n path at) e (λ m. cc) record { room = room; has_room = e; folder = there; none = file_at_none room path none }))
      (λ place file there found. by_length room place file e there found (nat_le at (length file.bytes)) refl)

  rewrite_cases : Rewrites tree n path at change (in_room tree n (λ r. in_file r path.folder path.file (rewritten r at change)))
  rewrite_cases =
      room_cases tree n (λ r. in_file r path.folder path.file (rewritten r at change)) (Rewrites tree n path at change)
      (λ none. inr record { same = refl; unmade = λ m. cc; why = none })
      in_its_room

wrote : (tree : Tree) (n : ℕ) (path : Path) (at : ℕ) (bytes : List ℕ) (after : Tree) → Rewritten tree n path at (λ file. written file at bytes) after → Wrote tree n path at bytes after
wrote tree n path at bytes after r = record {
  room = r.room;
  old = r.file.bytes;
  new = r.new;
  has_room = r.has_room;
  folder = r.folder;
  there = r.there;
  within = r.within;
  now = r.now;
  kept = r.kept_now ∙ ap (λ k. kept_after k r.file.bytes (overwritten r.file.bytes at bytes)) (sym r.kept);
  others = r.others;
  differ = r.differ;
  gives = r.gives;
}

was_cut : (tree : Tree) (n : ℕ) (path : Path) (len : ℕ) (after : Tree) → Rewritten tree n path len (λ file. shortened file len) after → WasCut tree n path len after
was_cut tree n path len after r = record {
  room = r.room;
  old = r.file.bytes;
  new = r.new;
  has_room = r.has_room;
  folder = r.folder;
  there = r.there;
  within = r.within;
  now = r.now;
  kept = r.kept_now ∙ ap (λ k. min k len) (sym r.kept);
  others = r.others;
  differ = r.differ;
  gives = r.gives;
}

-- a write writes, or leaves the tree
pub write_cases : (tree : Tree) (n : ℕ) (path : Path) (at : ℕ) (bytes : List ℕ) → ChangesOrStays tree Made (Wrote tree n path at bytes) (WhyNotWritten tree n path at) (effect tree (write_at n path.folder path.file at bytes))
write_cases tree n path at bytes = elim (rewrite_cases tree n path at (λ file. written file at bytes) (λ file. refl)) [
  | inl r ↦ inl (r.0, wrote tree n path at bytes _ r.1)
  | inr s ↦ inr s
]

-- a cut cuts, or leaves the tree
pub cut_cases : (tree : Tree) (n : ℕ) (path : Path) (len : ℕ) → ChangesOrStays tree Made (WasCut tree n path len) (WhyNotWritten tree n path len) (effect tree (cut n path.folder path.file len))
cut_cases tree n path len = elim (rewrite_cases tree n path len (λ file. shortened file len) (λ file. refl)) [
  | inl r ↦ inl (r.0, was_cut tree n path len _ r.1)
  | inr s ↦ inr s
]
