-- The steps that a drain makes at its target, and when it may make them.
use Rattle.std.specs.Prelude.{◌≡◌, ◌≤◌, ◌<◌, ◌*◌, ◌^◌, ℕ, [], ◌∷◌, length, take, drop, Some, slice_get}
use Rattle.plfs_types.specs.declared.limits.TheConstants.{ENTRY_SIZE}
use Rattle.container_layout.specs.Paths.{hostdir_of}
use Rattle.store_api.specs.declared.tree.Room.{Room}
use Rattle.store_api.specs.declared.tree.Tree.{Tree}
use Rattle.store_api.specs.Step.{Step, create, make_folder, make_room, sync, write_at}
use Rattle.store_laws.specs.Files.{file_at}
use Rattle.store_laws.specs.Outcomes.{IsLook}
use Rattle.mount_model.specs.Paths.{Name, index_path, log_path, mark_path, new_files, new_folders, open_path, trunc_path}
use Rattle.store_api.specs.Names.{marks_folder}
use Rattle.store_api.specs.Names.{marks_name}
use Rattle.mount_sound.specs.Marks.{IsOfMark}
use Rattle.mount_sound.specs.Dropping.{bytes_of, log_bytes}
use Rattle.mount_sound.specs.Items.{HasMeta}
use Rattle.reader_laws.specs.Moments.{HadTrunc, Moment, Stood}
use Rattle.drain_sound.specs.Fronts.{index_there, log_there, dropping_in}

-- the room of this number has this name
pub record IsNamedRoom (tree : Tree) (n : ℕ) (name : Name) (room : Room) : Type 0 where
  pub there : slice_get tree.rooms n ≡ Some room
  pub named : room.name ≡ name

-- A writer that may be copied: it stands at the source with this host, the mount that it is of has its mark at the target,
-- and no metadata dropping there tells that it has left.
pub record MayCopy (source : Moment) (number : ℕ) (tree : Tree) (room : Room) (host writer : ℕ) : Type 0 where
  pub stood : Stood source (dropping_in number host writer)
  pub marked : IsOfMark tree writer
  pub unsettled : HasMeta room host writer → ⊥

-- A writer whose droppings are copied: its entry of an open writer stands too.
pub record IsCopied (source : Moment) (number : ℕ) (tree : Tree) (room : Room) (host writer : ℕ) : Type 0 where
  pub may : MayCopy source number tree room host writer
  pub opened : file_at room (open_path host writer) ≡ Some []

-- The steps of a drain from the source's room of this number into the container of this name, at a target that has this tree.
pub data IsDrainStep (source : Moment) (number : ℕ) (name : Name) (tree : Tree) : Step → Type 0 where
  looks : (step : Step) → IsLook step → IsDrainStep source number name tree step
  -- the room of marks, and in it the mark of a mount
  marks : IsDrainStep source number name tree (make_room marks_name (marks_folder ∷ []) [])
  mark : (n mount : ℕ) (room : Room) → IsNamedRoom tree n marks_name room → 1 ≤ mount → mount < 2 ^ 32 → IsDrainStep source number name tree (create n (mark_path mount).folder (mark_path mount).file)
  container : IsDrainStep source number name tree (make_room name new_folders new_files)
  -- a writer's entry of an open writer, the folder of its host, and its droppings
  opens : (n host writer : ℕ) (room : Room) → IsNamedRoom tree n name room → MayCopy source number tree room host writer → IsDrainStep source number name tree (create n (open_path host writer).folder (open_path host writer).file)
  houses : (n host : ℕ) (room : Room) → IsNamedRoom tree n name room → IsDrainStep source number name tree (make_folder n (hostdir_of host))
  index : (n host writer : ℕ) (room : Room) → IsNamedRoom tree n name room → IsCopied source number tree room host writer → IsDrainStep source number name tree (create n (index_path host writer).folder (index_path host writer).file)
  log : (n host writer : ℕ) (room : Room) → IsNamedRoom tree n name room → IsCopied source number tree room host writer → IsDrainStep source number name tree (create n (log_path host writer).folder (log_path host writer).file)
  -- bytes of its log, from a place within it or its end on; bytes of its entries, from one of them on that is there
  writes_log : (n host writer at len : ℕ) (room : Room) → IsNamedRoom tree n name room → IsCopied source number tree room host writer
      → at ≤ length (log_bytes room host writer)
      → IsDrainStep source number name tree (write_at n (log_path host writer).folder (log_path host writer).file at (take len (drop at (log_there source (dropping_in number host writer)))))
  writes_index : (n host writer from len : ℕ) (room : Room) → IsNamedRoom tree n name room → IsCopied source number tree room host writer
      → ENTRY_SIZE * from ≤ length (bytes_of (file_at room (index_path host writer)))
      → IsDrainStep source number name tree (write_at n (index_path host writer).folder (index_path host writer).file (ENTRY_SIZE * from) (take len (drop (ENTRY_SIZE * from) (index_there source (dropping_in number host writer)))))
  -- their syncs
  syncs_log : (n host writer : ℕ) (room : Room) → IsNamedRoom tree n name room → IsDrainStep source number name tree (sync n (log_path host writer).folder (log_path host writer).file)
  syncs_index : (n host writer : ℕ) (room : Room) → IsNamedRoom tree n name room → IsDrainStep source number name tree (sync n (index_path host writer).folder (index_path host writer).file)
  -- a truncate of the source
  truncates : (n stamp size : ℕ) (room : Room) → IsNamedRoom tree n name room → HadTrunc source number stamp size → IsDrainStep source number name tree (create n (trunc_path stamp size).folder (trunc_path stamp size).file)
