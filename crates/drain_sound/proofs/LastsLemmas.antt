-- A target stays one where all that the source had is there, and so while the source goes on.
use Rattle.std.proofs.Common.{◌≡◌, ℕ, zero, suc, ◌≤◌, ◌<◌, ◌^◌, List, [], ◌∷◌, ◌++◌, length, take, Option, Some, None, refl, ap, sym, ◌∙◌, inl, inr, subst, arith}
use Rattle.std.specs.Prelude.{MatchOption}
use Rattle.std.proofs.lemmas.Bool.{cases_lt}
use Rattle.std.proofs.lemmas.List.{take-append-le}
use Rattle.container_layout.specs.declared.items.Item.TheVariants.{Index, Trunc}
use Rattle.index_entry.specs.Spelling.{spelling_all}
use Rattle.index_entry.proofs.Facts.{spelling_all-append}
use Rattle.store_api.specs.declared.tree.Room.{Room}
use Rattle.store_api.specs.declared.tree.Tree.{Tree}
use Rattle.store_laws.specs.Files.{file_at}
use Rattle.store_laws.specs.Prefix.{IsPrefix}
use Rattle.store_laws.proofs.Facts.{prefix_trans}
use Rattle.mount_model.specs.History.{Event}
use Rattle.mount_model.specs.Paths.{Name, index_path, log_path}
use Rattle.mount_sound.specs.Dropping.{IsDropping, IsWriter, bytes_of, log_bytes}
use Rattle.mount_sound.specs.Growing.{IsMore}
use Rattle.mount_sound.specs.Items.{HasItem}
use Rattle.mount_sound.specs.Ledger.{Written, content, entries_in}
use Rattle.mount_sound.specs.Owed.{IsLawful}
use Rattle.mount_sound.proofs.Facts.{entries_take, is_index}
use Rattle.reader_laws.specs.Moments.{Dropping, Grows, HadTrunc, IsNamed, IsSoundAt, Moment, Stood, issued_by, landed, moment_after}
use Rattle.reader_laws.proofs.Gathered.Facts.{grows_after, landed_whole, stood_grows}
use Rattle.drain_sound.specs.Fronts.{IsDrainedFrom, IsTarget, index_there, log_there, dropping_in}
use Rattle.drain_sound.proofs.WriterLemmas.{few_landed}
use Rattle.drain_sound.proofs.Writes.{more_none, more_take, more_trans}

-- ---- a source that has all that another had

-- What stood in the room stands, and what had landed of each writer there is the first that has.
pub record HasAllOf (old new : Moment) (number : ℕ) : Type 0 where
  pub stood : (host writer : ℕ) → Stood old (dropping_in number host writer) → Stood new (dropping_in number host writer)
  pub truncates : (stamp size : ℕ) → HadTrunc old number stamp size → HadTrunc new number stamp size
  pub landed : (host writer : ℕ) → IsNamed (dropping_in number host writer) → IsMore (take (landed old (dropping_in number host writer)) (old.issued number writer)) (take (landed new (dropping_in number host writer)) (new.issued number writer))

-- the first writes of a list that begins with these
prefix_append : (a b : List ℕ) → IsPrefix a (a ++ b)
prefix_append [] b = tt
prefix_append (x ∷ a) b = (refl, prefix_append a b)

entries_append : (a b : List Written) → entries_in (a ++ b) ≡ entries_in a ++ entries_in b
entries_append [] b = refl
entries_append (w ∷ a) b = ap (λ es. w.entry ∷ es) (entries_append a b)

content_append : (a b : List Written) → IsPrefix (content a) (content (a ++ b))
content_append [] b = tt
content_append (w ∷ a) b = prefix_same w.bytes (content a) (content (a ++ b)) (content_append a b)
  where
    prefix_same : (x y z : List ℕ) → IsPrefix y z → IsPrefix (x ++ y) (x ++ z)
    prefix_same [] y z p = p
    prefix_same (c ∷ x) y z p = (refl, prefix_same x y z p)

pub index_more : (a b : List Written) → IsMore a b → IsPrefix (spelling_all (entries_in a)) (spelling_all (entries_in b))
index_more a b more =
    subst (IsPrefix (spelling_all (entries_in a))) (sym (ap (λ ws. spelling_all (entries_in ws)) more.1 ∙ ap spelling_all (entries_append a more.0) ∙ spelling_all-append (entries_in a) (entries_in more.0)))
    (prefix_append (spelling_all (entries_in a)) (spelling_all (entries_in more.0)))

pub log_more : (a b : List Written) → IsMore a b → IsPrefix (content a) (content b)
log_more a b more = subst (λ ws. IsPrefix (content a) (content ws)) (sym more.1) (content_append a more.0)

take_within : (n m : ℕ) (ws : List Written) → n ≤ m → take n (take m ws) ≡ take n ws
take_within zero zero [] l = refl
take_within zero zero (x ∷ ws) l = refl
take_within zero (suc m) [] l = refl
take_within zero (suc m) (x ∷ ws) l = refl
take_within (suc n) zero ws l = absurd (omega arith)
take_within (suc n) (suc m) [] l = refl
take_within (suc n) (suc m) (x ∷ ws) l = ap (λ t. x ∷ t) (take_within n m ws (omega arith))

pub take_whole : (ws : List Written) → take (length ws) ws ≡ ws
take_whole [] = refl
take_whole (w ∷ ws) = ap (λ t. w ∷ t) (take_whole ws)

pub nothing : (ws : List Written) → length ws ≡ 0 → ws ≡ []
nothing [] e = refl
nothing (w ∷ ws) e = absurd (omega (arith, e))

module _ (old new : Moment) (s : IsSoundAt old) (number : ℕ) (has : HasAllOf old new number) where
  drained_there : (room : Room) → IsDrainedFrom old number room → IsDrainedFrom new number room
  drained_there room d = record {
    hosts = λ host writer i. has.stood host writer (d.hosts host writer i);
    fronts = λ host writer is.
        let f = d.fronts host writer is in
        let of : Dropping = dropping_in number host writer in
        let more = has.landed host writer is in
        let before : spelling_all (entries_in (take (landed old of) (issued_by old of))) ≡ index_there old of = ap spelling_all (entries_take (landed old of) (issued_by old of)) in
        let after : spelling_all (entries_in (take (landed new of) (issued_by new of))) ≡ index_there new of = ap spelling_all (entries_take (landed new of) (issued_by new of)) in
        record {
          index = prefix_trans (bytes_of (file_at room (index_path host writer))) (index_there old of) (index_there new of) f.index
              (subst (λ x. IsPrefix x (index_there new of)) before (subst (λ y. IsPrefix (spelling_all (entries_in (take (landed old of) (issued_by old of)))) y) after (index_more (take (landed old of) (issued_by old of)) (take (landed new of) (issued_by new of)) more)));
          log = prefix_trans (bytes_of (file_at room (log_path host writer))) (log_there old of) (log_there new of) f.log (log_more (take (landed old of) (issued_by old of)) (take (landed new of) (issued_by new of)) more);
        };
    truncates = λ stamp size bytes i. has.truncates stamp size (d.truncates stamp size bytes i);
  }

  -- what a target's writer issued is the first of what is issued there now
  first_there : (room : Room) (writer : ℕ) (issued : List Written) → writer < 2 ^ 64 → IsDrainedFrom old number room → (w : IsWriter room writer issued) → w.landed ≡ length issued → IsMore issued (old.issued number writer) → IsMore issued (new.issued number writer)
  first_there room writer issued fits d w all more = by_file (file_at room (index_path w.host writer)) refl w.index
    where
      by_file : (found : Option (List ℕ)) → file_at room (index_path w.host writer) ≡ found → MatchOption found (w.landed ≡ 0) (IsDropping writer issued w.landed (length (log_bytes room w.host writer))) → IsMore issued (new.issued number writer)
      by_file None e none = subst (λ ws. IsMore ws (new.issued number writer)) (sym (nothing issued (omega (arith, all, none)))) (more_none (new.issued number writer))
      by_file (Some bytes) e dropping =
          let item : HasItem room (Index w.host writer) bytes = record { is_item = is_index w.host writer w.host_fits fits; there = e } in
          let of : Dropping = dropping_in number w.host writer in
          let count : length issued ≤ landed old of = omega (arith, all, few_landed old s number room writer issued d w bytes item) in
          let is : take (length issued) (take (landed old of) (old.issued number writer)) ≡ issued =
          take_within (length issued) (landed old of) (old.issued number writer) count
          ∙ ap (λ ws. take (length issued) ws) more.1 ∙ take-append-le (length issued) issued more.0 (omega arith) ∙ take_whole issued in
          subst (λ ws. IsMore ws (new.issued number writer)) is
          (more_trans (take (length issued) (take (landed old of) (old.issued number writer))) (take (landed old of) (old.issued number writer)) (new.issued number writer) (more_take (length issued) (take (landed old of) (old.issued number writer)))
          (more_trans (take (landed old of) (old.issued number writer)) (take (landed new of) (new.issued number writer)) (new.issued number writer) (has.landed w.host writer item.is_item) (more_take (landed new of) (new.issued number writer))))

  pub target_there : (name : Name) (tree : Tree) → IsTarget old number name tree → IsTarget new number name tree
  target_there name tree t = record {
    logical = t.logical;
    sound = t.sound;
    drained = λ n room there named. drained_there room (t.drained n room there named);
    first = λ n room there named writer. elim (cases_lt writer (2 ^ 64)) as (λ _. IsMore (t.sound.issued n writer) (new.issued number writer)) [
      | inl fits ↦ first_there room writer (t.sound.issued n writer) fits (t.drained n room there named) ((t.sound.rooms n room there).writers writer fits) (t.sound.all_landed n room there writer fits) (t.first n room there named writer)
      | inr past ↦ subst (λ ws. IsMore ws (new.issued number writer)) (sym (t.sound.fitting n writer past)) (more_none (new.issued number writer))
    ];
  }

-- ---- while the source goes on

-- the first of a longer list
pub less_more : (n m : ℕ) (ws : List Written) → n ≤ m → IsMore (take n ws) (take m ws)
less_more n m ws l = subst (λ x. IsMore x (take m ws)) (take_within n m ws l) (more_take n (take m ws))

grown_has : (old new : Moment) (s : IsSoundAt old) (number : ℕ) → Grows old new → HasAllOf old new number
grown_has old new s number grows = record {
  stood = λ host writer a. stood_grows old new (dropping_in number host writer) grows a;
  truncates = λ stamp size h. grows.stands number (Trunc stamp size) tt h;
  landed = λ host writer is.
      let d : Dropping = dropping_in number host writer in
      let more = grows.issued number writer in
      let count : landed old d ≤ length (old.issued number writer) = omega (arith, landed_whole old s d is) in
      let same : take (landed old d) (new.issued number writer) ≡ take (landed old d) (old.issued number writer) = ap (λ ws. take (landed old d) ws) more.1 ∙ take-append-le (landed old d) (old.issued number writer) more.0 count in
      subst (λ ws. IsMore ws (take (landed new d) (new.issued number writer))) same (less_more (landed old d) (landed new d) (new.issued number writer) (grows.landed d is));
}

pub target_lasts : (source : Moment) (number : ℕ) (name : Name) (tree : Tree) (events : List Event) → IsLawful source.state events → IsSoundAt source → IsTarget source number name tree → IsTarget (moment_after source events) number name tree
target_lasts source number name tree events lawful s t =
    target_there source (moment_after source events) s number (grown_has source (moment_after source events) s number (grows_after source events lawful s)) name tree t
