-- The counts of a line that shows a file: no less than had landed before its part, and no more than had by its end.
use Rattle.std.proofs.Common.{◌≡◌, ◌≤◌, ◌+◌, inl, inr, ℕ, List, [], ◌∷◌, ◌++◌, length, Option, Some, sym, ap, ◌∙◌, subst, arith, append_assoc, length-append}
use Rattle.plfs_types.specs.declared.entries.Trunc.{Trunc}
use Rattle.plfs_types.specs.declared.entries.WriterCount.{WriterCount}
use Rattle.store_api.specs.Acts.{Stored}
use Rattle.mount_model.specs.History.{Event}
use Rattle.mount_model.specs.Mounting.{IsMounted}
use Rattle.mount_model.specs.State.{State}
use Rattle.mount_sound.specs.Sound.{IsSoundTree}
use Rattle.reader_laws.specs.Gathering.{Gathered}
use Rattle.reader_laws.specs.Moments.{Dropping, IsSoundAt, Moment, Stood, landed, moment_after}
use Rattle.reader_laws.specs.View.{WritersRise}
use Rattle.reader_laws.proofs.Gathered.Facts.{prefix_of}
use Rattle.plain_file.proofs.Facts.{Among}
use Rattle.script_lang.specs.Ranges.{FitsScript}
use Rattle.run_core.specs.Play.{IsRight}
use Rattle.headline_laws.proofs.Plays.Facts.{Next}
use Rattle.headline.specs.Run.{Run, Told}
use Rattle.headline.specs.Changes.{Writing}
use Rattle.headline_laws.proofs.Landed.Counting.{count_between, counted_in}
use Rattle.headline_laws.proofs.Story.Lines.{AnyLine, whole_history}
use Rattle.headline_laws.proofs.Trees.Sights.{Sight}
use Rattle.headline_laws.proofs.Contents.OpenedWriter.{First as First_of, Home as Home_of, landed_rises, same_dropping, sound_first as sound_first_of, stands_last}

rises_in : (room : ℕ) (cut : List Gathered) (g : Gathered) → WritersRise room cut → Among g cut → g.dropping.room ≡ room
rises_in room [] g rise at = absurd at
rises_in room (h ∷ cut) g rise (inl same) = ap (λ (x : Gathered). x.dropping.room) same ∙ rise.0
rises_in room (h ∷ cut) g rise (inr at) = rises_in room cut g rise.2 at

module _ (run : Run) (times : Option (List ℕ)) (mount : Stored) (start end : State) (fits : FitsScript run.script) (mounted : IsMounted 0 times mount start) (tells : mount.tree ≡ Some run.before) (sound : IsSoundTree run.before)
    (right : IsRight run.script start run.lines end) (left : end.store.tree ≡ Some run.after) where
  abbrev First : Moment
  First = First_of run times mount start end fits mounted tells sound right left

  abbrev sound_first : IsSoundAt First
  sound_first = sound_first_of run times mount start end fits mounted tells sound right left

  abbrev Home : Told → ℕ
  Home = Home_of run times mount start end fits mounted tells sound right left

  abbrev Whole : Next First [] right.history
  Whole = whole_history run First end fits sound_first right

  abbrev Last : Moment
  Last = moment_after First right.history

  module _ (t : Told) (cut : List WriterCount) (truncs : List Trunc) where
    record Bounded (d : Dropping) (from till : List Event) : Type 0 where
      pub low : landed (moment_after First from) d ≤ counted_in d.writer cut
      pub high : counted_in d.writer cut ≤ landed (moment_after First till) d

    pub record BoundedLine (d : Dropping) (earlier mine : List Event) : Type 0 where
      pub low : (x xs : List Event) → right.history ≡ x ++ xs → length x ≤ length earlier → landed (moment_after First x) d ≤ counted_in d.writer cut
      pub high : (y ys : List Event) → right.history ≡ y ++ ys → length earlier + length mine ≤ length y → counted_in d.writer cut ≤ landed (moment_after First y) d

    pub bounded_line : (r : Option Told) (w : Writing) (l : AnyLine run First end fits sound_first right r w t) → Sight run First end fits sound_first right l cut truncs → (d : Dropping) → Stood Last d → d.room ≡ Home t → BoundedLine d l.line.part.earlier l.line.part.mine
    bounded_line r w l sight d stood home = from sight
      where
        from : Sight run First end fits sound_first right l cut truncs → BoundedLine d l.line.part.earlier l.line.part.mine
        from z = record {
          low = λ x xs is short. (let low = bounds.low in let rise = landed_rises run times mount start end fits mounted tells sound right left d x front xs (z.begun ++ z.rest) stood.is_item is split (let long = length-append l.line.part.earlier z.earlier in omega (arith, short, long)) in omega (arith, low, rise));
          high = λ y ys is far. (let high = bounds.high in let rise = landed_rises run times mount start end fits mounted tells sound right left d upto y z.rest ys stood.is_item z.split is (omega (arith, far, short)) in omega (arith, high, rise));
        }
          where
            front : List Event
            front = l.line.part.earlier ++ z.earlier

            upto : List Event
            upto = l.line.part.earlier ++ z.upto

            split : right.history ≡ front ++ (z.begun ++ z.rest)
            split = z.split ∙ ap (λ u. (l.line.part.earlier ++ u) ++ z.rest) z.upto_is ∙ ap (λ u. u ++ z.rest) (sym (append_assoc l.line.part.earlier z.earlier z.begun)) ∙ append_assoc front z.begun z.rest

            its_room : d.room ≡ z.file.room
            its_room = home ∙ z.in_room

            one : (g : Gathered) → Among g z.file.cut → g.dropping.writer ≡ d.writer → g.dropping ≡ d
            one g at same =
                let p = prefix_of (moment_after First front) z.file.moment z.file.cut g z.sees.view.admissible at in
                let there : Stood (moment_after First upto) g.dropping = subst (λ x. Stood x g.dropping) z.moment p.stands in
                same_dropping run times mount start end fits mounted tells sound right left d g.dropping stood (stands_last run times mount start end fits mounted tells sound right left upto z.rest g.dropping z.split there) (rises_in z.file.room z.file.cut g z.sees.view.rise at ∙ sym its_room) same

            bounds : Bounded d front upto
            bounds =
                let b = count_between (moment_after First front) z.file.moment z.file.room z.file.cut z.file.truncs d stood.is_item z.sees.view its_room one in
                record {
                  low = subst (λ c. landed (moment_after First front) d ≤ counted_in d.writer c) (sym z.counts) b.0;
                  high = subst (λ x. counted_in d.writer cut ≤ landed x d) z.moment (subst (λ c. counted_in d.writer c ≤ landed z.file.moment d) (sym z.counts) b.1);
                }

            short : length upto ≤ length l.line.part.earlier + length l.line.part.mine
            short = z.within
