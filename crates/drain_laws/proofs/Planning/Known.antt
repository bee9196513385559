-- What is known of a source's writers by what its target has is so: each cover is of first entries that have landed.
use Rattle.std.proofs.Common.{◌≡◌, ℕ, List, [], ◌∷◌, take, Option, Some, None, refl, ap, sym, ◌∙◌, subst, arith}
use Rattle.plfs_types.specs.declared.entries.Cover.{Cover}
use Rattle.plfs_types.specs.declared.entries.Entry.{Entry}
use Rattle.store_api.specs.declared.tree.Tree.{Tree}
use Rattle.mount_model.specs.Paths.{Name}
use Rattle.mount_sound.specs.Ledger.{entries_in}
use Rattle.index_reader.specs.Covered.{cover_of, or_nothing}
use Rattle.reader_laws.specs.Moments.{Grows, IsSoundAt, Moment, Stood}
use Rattle.reader_laws.specs.Covering.{cover_with, empty_cover}
use Rattle.reader_laws.proofs.Faults.TailFails.{IsCoverOf}
use Rattle.drain_read.specs.declared.held.Held.{Held}
use Rattle.drain_read.specs.declared.held.Mirror.{Mirror}
use Rattle.drain_copy.specs.Planning.{covers_of, mirror_in}
use Rattle.drain_sound.specs.Fronts.{IsTarget, dropping_in}
use Rattle.drain_laws.proofs.Planning.Plan.{Knows, cover_in, known_cover}

-- a cover of no entries tells of none
pub none_tells : (writer : ℕ) (es : List Entry) → empty_cover writer ≡ cover_with (empty_cover writer) (take 0 es)
none_tells writer [] = refl
none_tells writer (e ∷ es) = refl

module _ (m : Moment) (s : IsSoundAt m) (number : ℕ) (name : Name) (t : Tree) (target : IsTarget m number name t) (held : Held) (knows : Knows m s number name t target held) where
  pub known_covers : (n : Moment) → IsSoundAt n → Grows m n → (host writer : ℕ) → Stood n (dropping_in number host writer) → IsCoverOf n (dropping_in number host writer) (cover_of writer (covers_of held.mirrors))
  known_covers n sound grows host writer stood = by_mirror (mirror_in held.mirrors writer) refl
    where
      by_mirror : (found : Option Mirror) → mirror_in held.mirrors writer ≡ found → IsCoverOf n (dropping_in number host writer) (cover_of writer (covers_of held.mirrors))
      by_mirror None e =
          let c : cover_of writer (covers_of held.mirrors) ≡ empty_cover writer = ap (or_nothing writer) (known_cover held.mirrors writer ∙ ap cover_in e) in
          record {
            tells = subst (λ (x : Cover). x ≡ cover_with (empty_cover writer) (take x.count (entries_in (n.issued number writer)))) (sym c) (none_tells writer (entries_in (n.issued number writer)));
            had = omega (arith, ap (λ (x : Cover). x.count) c);
          }
      by_mirror (Some x) e =
          let c : cover_of writer (covers_of held.mirrors) ≡ x.cover = ap (or_nothing writer) (known_cover held.mirrors writer ∙ ap cover_in e) in
          let y = knows.mirrored n sound grows host writer stood x e in
          record {
            tells = subst (λ (z : Cover). z ≡ cover_with (empty_cover writer) (take z.count (entries_in (n.issued number writer)))) (sym c) y.tells;
            had = omega (arith, ap (λ (z : Cover). z.count) c, y.was_landed, grows.landed (dropping_in number host writer) stood.is_item);
          }
