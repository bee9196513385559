-- What a loss of power leaves of what a drain has copied is all of it.
use Rattle.std.proofs.Common.{◌≡◌, ℕ, ◌*◌, ◌≤◌, List, length, take, Option, Some, ap, sym, ◌∙◌, inl, inr, subst, arith}
use Rattle.std.specs.Prelude.{slice_get}
use Rattle.plfs_types.specs.declared.names.Path.{Path}
use Rattle.container_layout.specs.declared.items.Item.TheVariants.{Trunc}
use Rattle.container_layout.specs.Paths.{path_of}
use Rattle.store_api.specs.declared.tree.Room.{Room}
use Rattle.store_api.specs.declared.tree.Tree.{Tree}
use Rattle.store_api.specs.Acts.{Stored}
use Rattle.store_api.specs.Loss.{Loses}
use Rattle.store_laws.specs.Files.{file_at, kept_at}
use Rattle.store_laws.specs.Losing.{HasLost}
use Rattle.store_laws.proofs.Facts.{have_lost}
use Rattle.mount_model.specs.Paths.{Name, index_path, log_path}
use Rattle.mount_sound.specs.Dropping.{bytes_of}
use Rattle.mount_sound.specs.Entries.{logged}
use Rattle.mount_sound.specs.Ledger.{entries_in}
use Rattle.reader_laws.specs.Moments.{Moment, landed}
use Rattle.drain_copy.specs.declared.outcome.Drained.{Drained}
use Rattle.drain_copy.specs.declared.plan.Due.{Due}
use Rattle.drain_sound.specs.Fronts.{dropping_in}
use Rattle.drain_laws.specs.Keeping.{IsLeftOf}
use Rattle.drain_laws.proofs.Courses.Got.{HasGot, HasKept}
use Rattle.drain_laws.proofs.Copying.Mild.{IsKeptTo, some_room}
use Rattle.drain_laws.proofs.Courses.Viewing.{HasAt}

-- so much of the file is there after a loss of power
kept_long : (t : Tree) (n : ℕ) (room new : Room) (path : Path) (front : ℕ) → slice_get t.rooms n ≡ Some room → HasLost room new → IsKeptTo t n path front → front ≤ length (bytes_of (file_at new path))
kept_long t n room new path front there lost (inl none) = omega (arith, none)
kept_long t n room new path front there lost (inr k) =
    let same : k.room ≡ room = some_room k.room room (slice_get t.rooms n) k.has_room there in
    let file : file_at room path ≡ Some k.bytes = ap (λ r. file_at r path) (sym same) ∙ k.there in
    let l = lost.files path k.bytes file in
    omega (arith, l.long, k.long, k.kept, ap (λ r. kept_at r path) same, ap (λ o. length (bytes_of o)) l.there)

module _ (first last : Moment) (number : ℕ) (name : Name) (dues : List Due) (drained : Drained) (t : Tree) (got : HasGot first last number name dues drained t) where
  as_it_is : HasAt first last number name t
  as_it_is = record {
    n = got.n;
    room = got.room;
    at = got.at;
    entries = λ host writer stood some. (got.entries host writer stood some).copied;
    truncates = got.truncates;
  }

  as_lost : (tree : Tree) → Loses t tree → HasAt first last number name tree
  as_lost tree loses =
      let h = (have_lost t tree loses).rooms got.n got.room got.at.there in
      record {
        n = got.n;
        room = h.0;
        at = record { there = h.1; named = h.2.name ∙ got.at.named };
        entries = λ host writer stood some.
            let k : HasKept last number t got.n got.room host writer (landed first (dropping_in number host writer)) = got.entries host writer stood some in
            let l = h.2.files (index_path host writer) k.copied.bytes k.copied.has.there in
            record {
              bytes = l.front;
              has = record { is_item = k.copied.has.is_item; there = l.there };
              entries = omega (arith, kept_long t got.n got.room h.0 (index_path host writer) (40 * landed first (dropping_in number host writer)) got.at.there h.2 k.index_kept, ap (λ o. length (bytes_of o)) l.there);
              written = kept_long t got.n got.room h.0 (log_path host writer) (logged (take (landed first (dropping_in number host writer)) (entries_in (last.issued number writer)))) got.at.there h.2 k.log_kept;
            };
        truncates = λ stamp size had.
            let x = got.truncates stamp size had in
            let l = h.2.files (path_of (Trunc stamp size)) x.0 x.1.there in
            (l.front, record { is_item = x.1.is_item; there = l.there });
      }

  pub left_at : (store : Stored) (tree : Tree) → store.tree ≡ Some t → IsLeftOf store tree → HasAt first last number name tree
  left_at store tree told left =
      let same : left.told ≡ t = one left.told t store.tree left.tells told in
      elim left.left as (λ _. HasAt first last number name tree) [
        | inl is ↦ subst (HasAt first last number name) (sym (is ∙ same)) as_it_is
        | inr loses ↦ as_lost tree (subst (λ x. Loses x tree) same loses)
      ]
    where
      one : (a b : Tree) (o : Option Tree) → o ≡ Some a → o ≡ Some b → a ≡ b
      one a b o p q = cc
