-- What a loss of power leaves of a target is one.
use Rattle.std.proofs.Common.{◌≡◌, ℕ, List, [], Option, Some, None, refl, sym, ◌∙◌, inl, inr, subst}
use Rattle.container_layout.specs.declared.items.Item.TheVariants.{OpenHost, Index, Trunc}
use Rattle.plfs_types.specs.declared.names.Path.{Path}
use Rattle.store_api.specs.declared.tree.Room.{Room}
use Rattle.store_api.specs.declared.tree.Tree.{Tree}
use Rattle.store_api.specs.Loss.{Loses}
use Rattle.store_laws.specs.Files.{file_at}
use Rattle.store_laws.specs.Losing.{HasLost, HaveLost}
use Rattle.store_laws.specs.Prefix.{IsPrefix}
use Rattle.store_laws.proofs.Facts.{have_lost, prefix_trans, room_back}
use Rattle.mount_model.specs.Paths.{Name, index_path, log_path}
use Rattle.mount_sound.specs.Dropping.{bytes_of}
use Rattle.mount_sound.specs.Items.{HasItemOf}
use Rattle.mount_sound.specs.Sound.{IsSoundTree}
use Rattle.mount_losses.specs.Losing.{LosesUnkept}
use Rattle.mount_losses.proofs.Losing.{had_item, had_meta}
use Rattle.reader_laws.specs.Moments.{Moment}
use Rattle.drain_sound.specs.Fronts.{IsDrainedFrom, IsTarget, index_there, log_there, dropping_in}
use Rattle.drain_sound.proofs.Writes.{more_trans}

-- a file has its first bytes left, where a missing one counts as empty
front_left : (room new : Room) (path : Path) (found : Option (List ℕ)) → HasLost room new → file_at room path ≡ found → IsPrefix (bytes_of (file_at new path)) (bytes_of found)
front_left room new path None h e = subst (λ f. IsPrefix (bytes_of f) []) (sym (h.none path e)) tt
front_left room new path (Some bytes) h e = let l = h.files path bytes e in subst (λ f. IsPrefix (bytes_of f) bytes) (sym l.there) l.begins

had_item_of : (room new : Room) (host writer : ℕ) → HasLost room new → HasItemOf new host writer → HasItemOf room host writer
had_item_of room new host writer h (inl i) = inl (had_item room new (Index host writer) i.0 h i.1)
had_item_of room new host writer h (inr (inl i)) = inr (inl (had_item room new (OpenHost host writer) i.0 h i.1))
had_item_of room new host writer h (inr (inr m)) = inr (inr (had_meta room new host writer h m))

lost_drained : (source : Moment) (number : ℕ) (room new : Room) → HasLost room new → IsDrainedFrom source number room → IsDrainedFrom source number new
lost_drained source number room new h d = record {
  hosts = λ host writer i. d.hosts host writer (had_item_of room new host writer h i);
  fronts = λ host writer is.
      let f = d.fronts host writer is in
      record {
        index = prefix_trans (bytes_of (file_at new (index_path host writer))) (bytes_of (file_at room (index_path host writer))) (index_there source (dropping_in number host writer)) (front_left room new (index_path host writer) (file_at room (index_path host writer)) h refl) f.index;
        log = prefix_trans (bytes_of (file_at new (log_path host writer))) (bytes_of (file_at room (log_path host writer))) (log_there source (dropping_in number host writer)) (front_left room new (log_path host writer) (file_at room (log_path host writer)) h refl) f.log;
      };
  truncates = λ stamp size front i. let was = had_item room new (Trunc stamp size) front h i in d.truncates stamp size was.0 was.1;
}

pub lost_target : (source : Moment) (number : ℕ) (name : Name) (tree lost : Tree) → ((s : IsSoundTree tree) → LosesUnkept s.issued tree lost) → IsTarget source number name tree → Loses tree lost → IsTarget source number name lost
lost_target source number name tree lost loses t l =
    let h : HaveLost tree lost = have_lost tree lost l in
    let u : LosesUnkept t.sound.issued tree lost = loses t.sound in
    record {
      logical = t.logical;
      sound = u.sound;
      drained = λ n new there named.
          let was = room_back tree lost n new h there in
          lost_drained source number was.0 new was.2 (t.drained n was.0 was.1 (sym was.2.name ∙ named));
      first = λ n new there named writer.
          let was = room_back tree lost n new h there in
          more_trans (u.sound.issued n writer) (t.sound.issued n writer) (source.issued number writer) (u.first n writer) (t.first n was.0 was.1 (sym was.2.name ∙ named) writer);
    }
