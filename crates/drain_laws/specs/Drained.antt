-- What a drain that ended well leaves at its target.
use Rattle.std.specs.Prelude.{◌≤◌, ℕ, List}
use Rattle.container_layout.specs.declared.items.Item.TheVariants.{Trunc}
use Rattle.store_api.specs.declared.tree.Room.{Room}
use Rattle.store_api.specs.declared.tree.Tree.{Tree}
use Rattle.mount_model.specs.Paths.{Name}
use Rattle.mount_sound.specs.Items.{HasItem}
use Rattle.reader_laws.specs.Moments.{HadTrunc, Moment, Stood, landed}
use Rattle.drain_sound.specs.Fronts.{dropping_in}
use Rattle.drain_sound.specs.Steps.{IsNamedRoom}
use Rattle.drain_sound.specs.Views.{HasCopied}

-- The container has of each writer, whole and with their bytes, the entries that had landed at the source as the drain began, and
-- each truncate that stood there then.
pub record HasDrained (start source : Moment) (number : ℕ) (name : Name) (tree : Tree) : Type 0 where
  pub n : ℕ
  pub room : Room
  pub at : IsNamedRoom tree n name room
  pub entries : (host writer : ℕ) → Stood start (dropping_in number host writer) → 1 ≤ landed start (dropping_in number host writer) → HasCopied source number room host writer (landed start (dropping_in number host writer))
  pub truncates : (stamp size : ℕ) → HadTrunc start number stamp size → (bytes : List ℕ) × HasItem room (Trunc stamp size) bytes
