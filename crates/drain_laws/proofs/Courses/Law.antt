-- What a drain that ended well has copied, and what its target shows.
use Rattle.std.proofs.Common.{◌≡◌, ℕ, ◌≤◌, min, List, ◌∷◌, ◌++◌, length, Option, Some, None, refl, ap, sym, ◌∙◌, inl, inr, subst, arith}
use Rattle.std.specs.Prelude.{Ok}
use Rattle.container_layout.specs.declared.items.Item.TheVariants.{Trunc}
use Rattle.store_api.specs.declared.tree.Tree.{Tree}
use Rattle.store_api.specs.Acts.{Stored}
use Rattle.store_api.specs.Loss.{Loses}
use Rattle.mount_model.specs.Paths.{Name}
use Rattle.mount_sound.specs.Dropping.{bytes_of}
use Rattle.mount_sound.specs.Landed.{whole}
use Rattle.mount_sound.specs.Owed.{IsLawful}
use Rattle.reader_laws.specs.Moments.{Dropping, IsSoundAt, Moment, Stood, index_then, issued_by, landed}
use Rattle.reader_laws.proofs.Gathered.Facts.{grows_refl, grows_trans, landed_whole, legal_first, sound_after, stood_grows}
use Rattle.drain_copy.specs.declared.outcome.Drained.{Drained}
use Rattle.drain_copy.specs.Asking.{ends}
use Rattle.drain_copy.specs.Draining.{drain_program}
use Rattle.drain_sound.specs.Draining.{Happening, source_after, target_after}
use Rattle.drain_sound.specs.Fronts.{IsTarget, dropping_in}
use Rattle.drain_laws.specs.Drained.{HasDrained}
use Rattle.drain_laws.specs.Driving.{AreMade, Drives, FindsRoom}
use Rattle.drain_laws.specs.Gathered.{HasGathered, began_at, events_in, listed_at}
use Rattle.drain_laws.specs.Keeping.{IsLeftOf}
use Rattle.drain_laws.specs.Showing.{ShowsSource}
use Rattle.drain_laws.proofs.Courses.Course.{HasFinished, copied_moves, finished}
use Rattle.drain_laws.proofs.Driving.Happened.{lawful_events}
use Rattle.drain_laws.proofs.Courses.Left.{left_at}
use Rattle.drain_laws.proofs.Courses.Viewing.{HasAt, shows_source}

module _ (caller number : ℕ) (name : Name) (source : Moment) (s : IsSoundAt source) (t : Tree) (target : IsTarget source number name t) (store : Stored) (told : store.tree ≡ Some t) (happened : List Happening) (made : AreMade source store happened) (finds : FindsRoom caller number happened) (drained : Drained) (drives : Drives caller (drain_program name) happened (ends (Ok drained))) where
  abbrev Finished : Type 0
  Finished = HasFinished caller number name source s t target store told happened made finds (ends (Ok drained)) drives drained

  f : Finished
  f = finished caller number name source s t target store told happened made finds (ends (Ok drained)) drives drained refl

  abbrev listing : Moment
  listing = listed_at source f.gathered

  its_tree : (tree : Tree) → IsLeftOf (target_after store happened) tree → HasAt f.begin listing number name tree
  its_tree tree left = left_at f.begin listing number name f.dues drained f.after f.got (target_after store happened) tree f.now left

  pub has_drained : (tree : Tree) → IsLeftOf (target_after store happened) tree → HasDrained source (source_after source happened) number name tree
  has_drained tree left =
      let has = its_tree tree left in
      record {
        n = has.n;
        room = has.room;
        at = has.at;
        entries = λ host writer stood some.
            let d : Dropping = dropping_in number host writer in
            let few : landed source d ≤ landed f.begin d = f.from_start.landed d stood.is_item in
            copied_moves listing (source_after source happened) f.listing_sound number has.room host writer (landed source d) (landed f.begin d) f.to_end few (f.grows.landed d stood.is_item)
            (has.entries host writer (stood_grows source f.begin d f.from_start stood) (omega (arith, some, few)));
        truncates = λ stamp size had. has.truncates stamp size ((grows_trans source f.begin listing f.from_start f.grows).stands number (Trunc stamp size) tt had);
      }

  pub drained_there : (after : Tree) × ((target_after store happened).tree ≡ Some after) × HasDrained source (source_after source happened) number name after
  drained_there = (f.after, f.now, has_drained f.after (record { told = f.after; tells = f.now; left = inl refl }))

  -- ---- what readers see

  abbrev began : Moment
  began = began_at source f.gathered

  began_sound : IsSoundAt began
  began_sound =
      sound_after source f.gathered.before
      (legal_first source f.gathered.before ((f.gathered.first ∷ f.gathered.between) ++ f.gathered.listing ∷ f.gathered.later) (subst (IsLawful source.state) f.gathered.split (lawful_events source store happened made))) s

  has_began : (tree : Tree) → IsLeftOf (target_after store happened) tree → HasAt began listing number name tree
  has_began tree left =
      let has = its_tree tree left in
      record {
        n = has.n;
        room = has.room;
        at = has.at;
        entries = λ host writer stood some.
            let d : Dropping = dropping_in number host writer in
            let few : landed began d ≤ landed f.begin d = f.began.landed d stood.is_item in
            copied_moves listing listing f.listing_sound number has.room host writer (landed began d) (landed f.begin d) (grows_refl listing) few (f.grows.landed d stood.is_item)
            (has.entries host writer (stood_grows began f.begin d f.began stood) (omega (arith, some, few)));
        truncates = has.truncates;
      }

  backed : (host writer : ℕ) → 1 ≤ landed began (dropping_in number host writer) → Stood listing (dropping_in number host writer) → Stood began (dropping_in number host writer)
  backed host writer some stood = by_file (index_then began (dropping_in number host writer)) refl
    where
      none : (n : ℕ) → min 0 n ≡ 0
      none n = omega arith

      by_file : (file : Option (List ℕ)) → index_then began (dropping_in number host writer) ≡ file → Stood began (dropping_in number host writer)
      by_file None e =
          let d : Dropping = dropping_in number host writer in
          absurd (omega (arith, some, landed_whole began began_sound d stood.is_item, ap (λ o. min (whole (bytes_of o)) (length (issued_by began d))) e, none (length (issued_by began d))))
      by_file (Some bytes) e = record { is_item = stood.is_item; bytes = bytes; there = e }

  left_target : ((tree lost : Tree) → IsTarget listing number name tree → Loses tree lost → IsTarget listing number name lost) → (tree : Tree) → IsLeftOf (target_after store happened) tree → IsTarget listing number name tree
  left_target loses tree left =
      let same : left.told ≡ f.after = one left.told f.after (target_after store happened).tree left.tells f.now in
      elim left.left as (λ _. IsTarget listing number name tree) [
        | inl is ↦ subst (IsTarget listing number name) (sym (is ∙ same)) f.good
        | inr l ↦ loses f.after tree f.good (subst (λ x. Loses x tree) same l)
      ]
    where
      one : (a b : Tree) (o : Option Tree) → o ≡ Some a → o ≡ Some b → a ≡ b
      one a b o p q = cc

  pub shows_it : ((last : Moment) (tree lost : Tree) → IsTarget last number name tree → Loses tree lost → IsTarget last number name lost) → (tree : Tree) → IsLeftOf (target_after store happened) tree
      → (g : HasGathered caller number (events_in happened)) × ShowsSource (began_at source g) (listed_at source g) number name tree
  shows_it loses tree left = (f.gathered, shows_source began listing f.listing_sound number name tree (left_target (loses listing) tree left) (has_began tree left) backed)
