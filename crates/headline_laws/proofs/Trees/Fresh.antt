-- A writer that a line opened has a number that no writer of the tree before has.
use Rattle.std.proofs.Common.{◌≡◌, ◌≤◌, ◌<◌, ℕ, List, Option, Some, refl, ap, arith}
use Rattle.std.specs.Prelude.{get_or, slice_get}
use Rattle.container_layout.specs.declared.items.Item.TheVariants.{Index}
use Rattle.container_layout.specs.Items.{IsItem}
use Rattle.container_layout.specs.Paths.{path_of}
use Rattle.container_layout.proofs.Facts.{elsewhere}
use Rattle.store_api.specs.Acts.{Stored}
use Rattle.mount_model.specs.Mounting.{IsMounted}
use Rattle.mount_model.specs.State.{State, last_id}
use Rattle.mount_sound.specs.Sound.{IsSoundTree}
use Rattle.mount_sound.proofs.Facts.{drawn_there}
use Rattle.reader_laws.specs.Moments.{HadItem}
use Rattle.reader_laws.proofs.Gathered.Facts.{in_a_room, in_tree}
use Rattle.script_lang.specs.Ranges.{FitsScript}
use Rattle.script_lang.specs.declared.line.Outcome.TheVariants as line
use Rattle.run_core.specs.Play.{IsRight}
use Rattle.headline.specs.Run.{Run, Says, Told}
use Rattle.headline.specs.Trees.{Has}
use Rattle.headline_laws.proofs.Story.Entered.{entered_new}
use Rattle.headline_laws.proofs.Trees.Old.{Begin, begins_with, sound_begin}
use Rattle.headline_laws.proofs.Trees.WriterStands.{line_stands}

module _ (run : Run) (times : Option (List ℕ)) (mount : Stored) (start end : State) (fits : FitsScript run.script) (mounted : IsMounted 0 times mount start) (tells : mount.tree ≡ Some run.before) (sound : IsSoundTree run.before)
    (right : IsRight run.script start run.lines end) where
  -- all numbers of the tree before were drawn by then
  drawn_before : (n host id : ℕ) → IsItem (Index host id) → Has run.before n (Index host id) → id ≤ last_id start
  drawn_before n host id is_item has =
      let m = Begin run times mount start end fits mounted tells sound right in
      let s = sound_begin run times mount start end fits mounted tells sound right in
      let had : HadItem m n (Index host id) = begins_with run times mount start end fits mounted tells sound right n (Index host id) is_item (λ e. elsewhere (ap (λ (name : List ℕ). get_or name 0 0) e) refl) has in
      let r = in_a_room (slice_get s.shape.tree.rooms n) (path_of (Index host id)) had.bytes (in_tree m s n (path_of (Index host id)) had.bytes had.there) in
      drawn_there m.issued m.state s n r.0 r.1 host id had.bytes (record { is_item = is_item; there = r.2 })

  -- the law of this file
  pub number_new : (t : Told) (id n host : ℕ) → Says run t (line.Opened id) → IsItem (Index host id) → Has run.before n (Index host id) → ⊥
  number_new t id n host says is_item has =
      let l = line_stands run (Begin run times mount start end fits mounted tells sound right) end fits (sound_begin run times mount start end fits mounted tells sound right) right t id says in
      let s = l.stands in
      let its = s.its_id in
      let above : last_id start < s.dropping.writer = entered_new start right.history l.number s.dropping right.leads.lawful s.entered in
      let below = drawn_before n host id is_item has in
      omega (arith, its, above, below)
