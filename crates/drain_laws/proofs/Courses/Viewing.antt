-- A reader of a target that was drained sees the source as it was gathered.
use Rattle.std.proofs.Common.{◌≡◌, ℕ, zero, suc, ◌≤◌, List, [], ◌∷◌, ◌++◌, Option, Some, refl, ap, sym, ◌∙◌, inl, inr, subst, arith}
use Rattle.std.specs.Prelude.{slice_get}
use Rattle.plain_file.proofs.Facts.{Among}
use Rattle.plfs_types.specs.declared.entries.Trunc.{Trunc as Truncate}
use Rattle.container_layout.specs.declared.items.Item.TheVariants.{Trunc}
use Rattle.store_api.specs.declared.tree.Room.{Room}
use Rattle.store_api.specs.declared.tree.Tree.{Tree}
use Rattle.store_api.specs.Acts.{Stored}
use Rattle.mount_model.specs.History.{Event}
use Rattle.mount_model.specs.Mounting.{IsMounted}
use Rattle.mount_model.specs.Paths.{Name}
use Rattle.mount_model.specs.State.{State}
use Rattle.mount_sound.specs.Items.{HasItem}
use Rattle.mount_sound.specs.Owed.{IsLawful}
use Rattle.reader_laws.specs.Gathering.{Gathered, IsAdmissible, IsPrefixOf}
use Rattle.reader_laws.specs.Moments.{Dropping, Grows, HadTrunc, IsSoundAt, Moment, Stood, landed, moment_after}
use Rattle.reader_laws.specs.GatheringOpening.{HasView}
use Rattle.reader_laws.specs.View.{WritersRise, view as view_of}
use Rattle.reader_laws.proofs.Gathered.Facts.{any_found, found_any, grows_after, moment-append}
use Rattle.drain_sound.specs.Fronts.{IsTarget, dropping_in}
use Rattle.drain_sound.specs.Steps.{IsNamedRoom}
use Rattle.drain_sound.specs.Views.{HasCopied, StaysQuiet, cut_there, mounted_there}
use Rattle.drain_sound.proofs.Facts.{begins_sound as begins_so, landed_then, misses_nothing, prefix_there, seen_there, stood_source}
use Rattle.drain_laws.specs.Showing.{IsViewThere, NoWriterCame, ShowsSource}
use Rattle.drain_laws.proofs.Copying.Mild.{some_room}
use Rattle.drain_laws.proofs.Driving.Happened.{lawful_both}

-- the container of the tree has the entries that had landed at the first moment, and the truncates of the last
pub record HasAt (first last : Moment) (number : ℕ) (name : Name) (tree : Tree) : Type 0 where
  pub n : ℕ
  pub room : Room
  pub at : IsNamedRoom tree n name room
  pub entries : (host writer : ℕ) → Stood first (dropping_in number host writer) → 1 ≤ landed first (dropping_in number host writer) → HasCopied last number room host writer (landed first (dropping_in number host writer))
  pub truncates : (stamp size : ℕ) → HadTrunc last number stamp size → (bytes : List ℕ) × HasItem room (Trunc stamp size) bytes

module _ (first last : Moment) (last_sound : IsSoundAt last) (number : ℕ) (name : Name) (tree : Tree) (target : IsTarget last number name tree) (has : HasAt first last number name tree) (backed : (host writer : ℕ) → 1 ≤ landed first (dropping_in number host writer) → Stood last (dropping_in number host writer) → Stood first (dropping_in number host writer)) where
  module _ (n : ℕ) (room : Room) (serial : ℕ) (times : Option (List ℕ)) (opened : Stored) (start : State) (before gathering : List Event) (cut : List Gathered) (truncs : List Truncate)
      (at : IsNamedRoom tree n name room) (m : IsMounted serial times opened start) (told : opened.tree ≡ Some tree)
      (lawful : IsLawful start before) (goes_on : IsLawful (moment_after (mounted_there target.sound start) before).state gathering) where
    abbrev begins : Moment
    begins = mounted_there target.sound start

    abbrev opens : Moment
    opens = moment_after begins before

    abbrev end : Moment
    end = moment_after opens gathering

    module _ (quiet : StaysQuiet begins end n) (alone : NoWriterCame begins end n) (view : HasView opens end n cut truncs) where
      all : List Event
      all = before ++ gathering

      same : moment_after begins all ≡ end
      unfolding all
      same = moment-append begins before gathering

      lawful_all : IsLawful start all
      unfolding all
      lawful_all = lawful_both begins before gathering lawful goes_on

      quiet_all : StaysQuiet begins (moment_after begins all) n
      quiet_all = subst (λ e. StaysQuiet begins e n) (sym same) quiet

      view_all : HasView opens (moment_after begins all) n cut truncs
      view_all = subst (λ e. HasView opens e n cut truncs) (sym same) view

      one : room ≡ has.room
      one =
          let number_is : n ≡ has.n = target.sound.shaped.rooms_differ n has.n room has.room at.there has.at.there (at.named ∙ sym has.at.named) in
          some_room room has.room (slice_get tree.rooms has.n) (subst (λ k. slice_get tree.rooms k ≡ Some room) number_is at.there) has.at.there

      copied : (host writer : ℕ) → Stood first (dropping_in number host writer) → 1 ≤ landed first (dropping_in number host writer) → HasCopied last number room host writer (landed first (dropping_in number host writer))
      copied host writer stood some = subst (λ r. HasCopied last number r host writer (landed first (dropping_in number host writer))) (sym one) (has.entries host writer stood some)

      grows : Grows begins opens
      grows = grows_after begins before lawful (begins_so last last_sound number name tree target n room at.there at.named serial times opened start m told)

      -- no fewer are counted of a writer than had landed
      least : (g : Gathered) → g.dropping.room ≡ n → IsPrefixOf opens end g → Stood last (dropping_in number g.dropping.host g.dropping.writer) → landed first (dropping_in number g.dropping.host g.dropping.writer) ≤ g.count
      least g of p stood = by_count (landed first (dropping_in number g.dropping.host g.dropping.writer)) refl
        where
          by_count : (k : ℕ) → landed first (dropping_in number g.dropping.host g.dropping.writer) ≡ k → k ≤ g.count
          by_count zero e = omega arith
          by_count (suc k) e =
              let some : 1 ≤ landed first (dropping_in number g.dropping.host g.dropping.writer) = omega (arith, e) in
              let c = copied g.dropping.host g.dropping.writer (backed g.dropping.host g.dropping.writer some stood) some in
              let began = landed_then last last_sound number name tree target n room at.there at.named serial times opened start m told g.dropping.host g.dropping.writer (landed first (dropping_in number g.dropping.host g.dropping.writer)) c in
              let is : dropping_in n g.dropping.host g.dropping.writer ≡ g.dropping = ap (λ k. dropping_in k g.dropping.host g.dropping.writer) (sym of) in
              omega (arith, e, began, grows.landed (dropping_in n g.dropping.host g.dropping.writer) c.has.is_item, ap (landed opens) is, p.least)

      admissible : (gs : List Gathered) → WritersRise n gs → IsAdmissible opens end gs → IsAdmissible first last (cut_there number gs)
      admissible [] rise a = tt
      admissible (g ∷ gs) rise a =
          let stood_n : Stood end (dropping_in n g.dropping.host g.dropping.writer) = subst (λ k. Stood end (dropping_in k g.dropping.host g.dropping.writer)) rise.0 a.0.stands in
          let stood : Stood last (dropping_in number g.dropping.host g.dropping.writer) =
          stood_source last last_sound number name tree target n room at.there at.named serial times opened start m told g.dropping.host g.dropping.writer (alone g.dropping.host g.dropping.writer stood_n) in
          let p_all : IsPrefixOf opens (moment_after begins all) g = subst (λ e. IsPrefixOf opens e g) (sym same) a.0 in (
            prefix_there last last_sound number name tree target n room at.there at.named serial times opened start m told all lawful_all quiet_all opens first g rise.0 stood (least g rise.0 a.0 stood) p_all,
            admissible gs rise.2 a.1,
          )

      in_cut_there : (gs : List Gathered) (g : Gathered) → Among g gs → Among (record g { dropping = dropping_in number g.dropping.host g.dropping.writer }) (cut_there number gs)
      in_cut_there [] g a = absurd a
      in_cut_there (x ∷ gs) g (inl is) = inl (ap (λ (y : Gathered). record y { dropping = dropping_in number y.dropping.host y.dropping.writer }) is)
      in_cut_there (x ∷ gs) g (inr a) = inr (in_cut_there gs g a)

      pub view_there : IsViewThere first last number end cut truncs
      view_there =
          let seen = seen_there last last_sound number name tree target n room at.there at.named serial times opened start m told all lawful_all quiet_all opens cut truncs view_all in
          let misses = misses_nothing last last_sound number name tree target n room at.there at.named serial times opened start m told before gathering lawful goes_on cut truncs view in
          record {
            admissible = admissible cut view.rise view.admissible;
            complete = λ d its stood some.
                let is : dropping_in number d.host d.writer ≡ d = ap (λ k. dropping_in k d.host d.writer) (sym its) in
                let there : Stood first (dropping_in number d.host d.writer) = subst (Stood first) (sym is) stood in
                let many : 1 ≤ landed first (dropping_in number d.host d.writer) = subst (λ k. 1 ≤ landed first k) (sym is) some in
                let (g, a, of) = any_found (λ (g : Gathered). (g.dropping ≡ dropping_in n d.host d.writer) × (landed first (dropping_in number d.host d.writer) ≤ g.count)) cut (misses.entries d.host d.writer (landed first (dropping_in number d.host d.writer)) (copied d.host d.writer there many)) in
                found_any (λ (g : Gathered). g.dropping ≡ d) (cut_there number cut) (record g { dropping = dropping_in number g.dropping.host g.dropping.writer }) (in_cut_there cut g a)
                (ap (λ (x : Dropping). dropping_in number x.host x.writer) of.0 ∙ is);
            truncates = record {
              rise = view.all_truncs.rise;
              there = seen.truncates;
              all = λ x had. (let t = has.truncates x.stamp x.size had in misses.truncates x t.0 (subst (λ r. HasItem r (Trunc x.stamp x.size) t.0) (sym one) t.1));
            };
            same = subst (λ e. view_of e cut truncs ≡ view_of last (cut_there number cut) truncs) same seen.same;
          }

  pub shows_source : ShowsSource first last number name tree
  shows_source = record {
    target = target;
    seen = λ n room serial times opened start before gathering cut truncs at m told lawful goes_on quiet alone view. view_there n room serial times opened start before gathering cut truncs at m told lawful goes_on quiet alone view;
  }
