-- The stamp of a truncate that a line tells: the clock's time, or the next above one that stood in the container.
use Rattle.std.proofs.Common.{◌≡◌, inl, inr, ◌+◌, ◌≤◌, ◌<◌, ◌-◌, ◌^◌, ℕ, List, [], ◌∷◌, ◌++◌, length, max, min, Option, Some, refl, sym, ap, ◌∙◌, subst, arith, append_assoc}
use Rattle.plfs_types.specs.Stamps.{next_stamp}
use Rattle.plfs_types.specs.declared.limits.TheConstants.{MAX_STAMP}
use Rattle.container_layout.specs.declared.items.Item.TheVariants.{Meta, Trunc}
use Rattle.store_api.specs.Acts.{Stored}
use Rattle.mount_model.specs.History.{Event}
use Rattle.mount_model.specs.Mounting.{IsMounted}
use Rattle.mount_model.specs.State.{State}
use Rattle.mount_model.proofs.Facts.{next_is_stamp}
use Rattle.mount_sound.specs.Sound.{IsSoundTree}
use Rattle.reader_laws.specs.Moments.{IsSoundAt, Moment, moment_after}
use Rattle.script_lang.specs.Ranges.{FitsScript}
use Rattle.script_lang.specs.declared.line.Outcome.TheVariants as line
use Rattle.script_lang.specs.declared.script.Statement.{Statement}
use Rattle.script_lang.specs.declared.script.Statement.TheVariants.{Trunc as Truncates}
use Rattle.actor_core.specs.declared.kept.Kept.{Kept}
use Rattle.actor_core.specs.Endings.{Ending}
use Rattle.run_core.specs.Play.{IsRight}
use Rattle.headline_laws.specs.Changing.{IsTimed, IsTopIn}
use Rattle.headline.specs.Run.{Run, Says, Told}
use Rattle.headline.specs.Files.{reader_at}
use Rattle.headline.specs.Changes.{IsStamp, IsStampIn, Writing, writing_at}
use Rattle.headline_laws.proofs.Contents.OpenedWriter.{First, Home, sound_first}
use Rattle.headline_laws.proofs.Stamps.Times.{ticked}
use Rattle.headline_laws.proofs.Stamps.Wrote.{times_left}
use Rattle.headline_laws.proofs.Statements.Did.{IsOfKindOr}
use Rattle.headline_laws.proofs.Statements.Does.{Ended, did, was_gone}
use Rattle.headline_laws.proofs.Story.Lines.{AnyLine, line_here}
use Rattle.headline_laws.proofs.Trees.Marked.{made_trunc}
use Rattle.headline_laws.proofs.Trees.Reading.{in_part, stands_after}

trunc_of : (s : Statement) (stamp : ℕ) → IsOfKindOr s (line.Truncated stamp) → (name : List ℕ) × (size : ℕ) × (s ≡ Truncates name size)
trunc_of (Truncates name size) stamp kind = (name, size, refl)
trunc_of s stamp kind = absurd kind

was_trunc : (kept : Kept) (s : Statement) (e : Ending) (stamp : ℕ) → e.outcome ≡ line.Truncated stamp → Ended kept s e → (name : List ℕ) × (size : ℕ) × (s ≡ Truncates name size)
was_trunc kept s e stamp says (was_gone is over now) = absurd (let clash : line.Gone ≡ line.Truncated stamp = sym over ∙ says in cc)
was_trunc kept s e stamp says (did lives d) = trunc_of s stamp (subst (IsOfKindOr s) says d.kind)

-- the next stamp above one is that above it alone
next_above : (time top : ℕ) → next_stamp time top top ≡ max (min time (2 ^ 62)) (max (0 + 1) (top + 1))
next_above time top = (let same : max (top + 1) (top + 1) ≡ max (0 + 1) (top + 1) = omega arith in ap (λ k. max (min time (2 ^ 62)) k) same)

fits_so : (time top : ℕ) → top < MAX_STAMP → next_stamp time top top ≤ MAX_STAMP
fits_so time top less =
    let most : MAX_STAMP ≡ 2 ^ 63 - 1 = refl in
    let small : top < 2 ^ 63 - 1 = omega (arith, less, most) in
    let below = (next_is_stamp time top top small small).fits in
    omega (arith, most, below)

module _ (run : Run) (mount : Stored) (start end : State) (fits : FitsScript run.script) (mounted : IsMounted 0 run.times mount start) (tells : mount.tree ≡ Some run.before) (sound : IsSoundTree run.before)
    (right : IsRight run.script start run.lines end) (left : end.store.tree ≡ Some run.after) where
  abbrev Begins : Moment
  Begins = First run run.times mount start end fits mounted tells sound right left

  abbrev sound_begins : IsSoundAt Begins
  sound_begins = sound_first run run.times mount start end fits mounted tells sound right left

  abbrev HomeOf : Told → ℕ
  HomeOf t = Home run run.times mount start end fits mounted tells sound right left t

  -- what stood in the container stands in the tree after
  pub top_left : (pre post : List Event) → right.history ≡ pre ++ post → (room top : ℕ) → IsTopIn (moment_after Begins pre) room top → IsStampIn run room top
  top_left pre post is room top (inl zero_is) = inl (inl zero_is)
  top_left pre post is room top (inr (inl (size, had))) = inl (inr (size, stands_after run Begins end fits sound_begins right left pre post room (Trunc top size) is tt had))
  top_left pre post is room top (inr (inr (last, bytes, host, writer, had))) = inr (last, bytes, host, writer, stands_after run Begins end fits sound_begins right left pre post room (Meta last bytes top host writer) is tt had)

  module _ (t : Told) (stamp : ℕ) (says : Says run t (line.Truncated stamp)) where
    -- where it was marked
    record Timed : Type 0 where
      pub pre : List Event
      pub e : Event
      pub post : List Event
      pub is : right.history ≡ pre ++ e ∷ post
      pub timed : IsTimed (moment_after Begins pre) (HomeOf t) stamp

    timed_by : (r : Option Told) (w : Writing) → AnyLine run Begins end fits sound_begins right r w t → Timed
    timed_by r w l =
        let p = l.line.part in
        let h = l.line.shown in
        let asked = was_trunc l.line.kept t.statement p.e stamp (sym l.line.says ∙ says.says) p.ended in
        let made = made_trunc Begins l.number p.earlier h.front (length run.after.rooms) l.line.file h.new h.new_writer asked.0 asked.1 stamp t.statement t.outcome asked.2 says.says h.shows in
        let rest : List Event = made.later ++ (h.rest ++ p.later) in
        let upto : right.history ≡ (p.earlier ++ (made.until ++ made.marking ∷ [])) ++ rest = in_part right.history p.earlier p.mine p.later h.front h.rest (made.until ++ made.marking ∷ []) made.later p.split h.split made.split in
        record {
          pre = p.earlier ++ made.until;
          e = made.marking;
          post = rest;
          is = upto ∙ ap (λ z. z ++ rest) (sym (append_assoc p.earlier made.until (made.marking ∷ []))) ∙ append_assoc (p.earlier ++ made.until) (made.marking ∷ []) rest;
          timed = subst (λ k. IsTimed (moment_after Begins (p.earlier ++ made.until)) k stamp) (sym l.line.here) made.cuts.timed;
        }

    -- the law of this file
    pub truncate_stamped : IsStamp run (IsStampIn run (HomeOf t)) 0 stamp
    truncate_stamped =
        let k = timed_by (reader_at run t) (writing_at run t) (line_here run Begins end fits sound_begins right t says.is_line) in
        let i = k.timed in
        record {
          time = i.time;
          clock = (ticked run.times (moment_after Begins k.pre).state.times i.times i.time (times_left run mount start end fits mounted tells sound right left k.pre k.e k.post k.is) i.ticks).1;
          stood = i.top;
          is_there = top_left k.pre (k.e ∷ k.post) k.is (HomeOf t) i.top i.stood;
          is = i.is ∙ next_above i.time i.top;
          fits = subst (λ z. z ≤ MAX_STAMP) (sym i.is) (fits_so i.time i.top i.left);
        }
