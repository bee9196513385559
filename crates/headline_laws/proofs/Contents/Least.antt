-- What holds of as many writes of a writer as had landed when a line began holds of as many as the lines before it make sure.
use Rattle.std.proofs.Common.{◌≡◌, ◌⊎◌, ◌≤◌, ◌<◌, ◌+◌, inl, inr, ℕ, Bool, true, false, nat_eq, List, [], ◌∷◌, ◌++◌, length, Option, Some, refl, sym, ◌∙◌, subst, arith, length-append}
use Rattle.std.specs.Prelude.{slice_get}
use Rattle.std.specs.List.{AllByRecursion}
use Rattle.std.proofs.lemmas.Bool.Decides.{nat_tests}
use Rattle.store_api.specs.Acts.{Stored}
use Rattle.mount_model.specs.History.{Event}
use Rattle.mount_model.specs.Mounting.{IsMounted}
use Rattle.mount_model.specs.State.{State}
use Rattle.mount_sound.specs.Sound.{IsSoundTree}
use Rattle.plain_file.proofs.Facts.{Among}
use Rattle.reader_laws.specs.Moments.{Dropping, IsSoundAt, Moment, Stood, landed, moment_after}
use Rattle.reader_laws.proofs.Gathered.Facts.{among}
use Rattle.script_lang.specs.Ranges.{FitsScript}
use Rattle.script_lang.specs.declared.line.Outcome.TheVariants as line
use Rattle.run_core.specs.Play.{IsRight}
use Rattle.headline_laws.proofs.Plays.Facts.{Next}
use Rattle.headline.specs.Run.{IsLine, Run, Says, Told, before, own, surely_before, told}
use Rattle.headline.specs.Files.{reader_after, reader_at}
use Rattle.headline.specs.Changes.{Writing, writing_after, writing_at}
use Rattle.headline.specs.Writers.{Account, account, account_of, cap_of, nothing}
use Rattle.headline_laws.proofs.Contents.FirstOpen.{FirstOpen, OpensNot, all_first, all_rest, first_open, none_told}
use Rattle.headline_laws.proofs.Contents.OpenedWriter.{Behind, First, Home, ItsDropping, Last, Opening, Whole, account_is, go, its, sound_first, started}
use Rattle.headline_laws.proofs.Landed.Folded.{least_landed}
use Rattle.headline_laws.proofs.OrderlyLines.Answering.{among_own}
use Rattle.headline_laws.proofs.OrderlyLines.Places.{own_split}
use Rattle.headline_laws.proofs.Statements.Known.{Known, known_waits}
use Rattle.headline_laws.proofs.Story.Attributed.{either_part}
use Rattle.headline_laws.proofs.Story.Lines.{AnyLine, ChainOf, HasRooms, chain_of, line_here}
use Rattle.headline_laws.proofs.Story.Ordered.{Front, all_own, ended_are, ended_first, ended_phases}
use Rattle.headline_laws.proofs.Story.Parts.{begins_rise, idles_long}
use Rattle.headline_laws.proofs.Story.Shown.{ShownEach}

module _ (run : Run) (times : Option (List ℕ)) (mount : Stored) (start end : State) (fits : FitsScript run.script) (mounted : IsMounted 0 times mount start) (tells : mount.tree ≡ Some run.before) (sound : IsSoundTree run.before)
    (right : IsRight run.script start run.lines end) (left : end.store.tree ≡ Some run.after) where
  abbrev Begins : Moment
  Begins = First run times mount start end fits mounted tells sound right left

  abbrev sound_begins : IsSoundAt Begins
  sound_begins = sound_first run times mount start end fits mounted tells sound right left

  abbrev Homes : Told → ℕ
  Homes = Home run times mount start end fits mounted tells sound right left

  abbrev All_of : Next Begins [] right.history
  All_of = Whole run times mount start end fits mounted tells sound right left

  abbrev Ends : Moment
  Ends = Last run times mount start end fits mounted tells sound right left

  abbrev Its : ℕ → Type 0
  Its actor = ChainOf run Begins end fits sound_begins right actor

  -- of each writer of the line's container, where the line's part begins, and for any smaller number
  abbrev pub HoldsBy : (ℕ → ℕ → Type 0) → Told → Type 0
  HoldsBy P t = (r : Option Told) (w : Writing) (l : AnyLine run Begins end fits sound_begins right r w t) (d : Dropping) → Stood Ends d → d.room ≡ Homes t → (x xs : List Event) → right.history ≡ x ++ xs → length x ≤ length l.line.part.earlier → P d.writer (landed (moment_after Begins x) d)

  module _ (P : ℕ → ℕ → Type 0) (down : (id fewer many : ℕ) → fewer ≤ many → P id many → P id fewer) (zero_too : (id : ℕ) → P id 0) (t : Told) (is_line : IsLine run t) (holds : HoldsBy P t) (o : Told) (id : ℕ) (opened : Says run o (line.Opened id)) (home : Homes o ≡ Homes t) where
    module _ (actor : ℕ) (c : Its actor) (fo : FirstOpen id (own actor (told run))) where
      abbrev Cap : ℕ
      Cap = cap_of (slice_get run.script.actors actor)

      abbrev Low : List Told → Type 0
      Low ts = P id (account_of id Cap (nothing false) ts).least

      low_none : (ts : List Told) → AllByRecursion (OpensNot id) ts → Low ts
      low_none ts none = subst (λ (a : Account). P id a.least) (sym (none_told id Cap ts none)) (zero_too id)

      abbrev b : Opening run times mount start end fits mounted tells sound right left actor c id fo.o.phase fo.post []
      b = started run times mount start end fits mounted tells sound right left actor c id fo.pre fo.o fo.post fo.is fo.says

      its_d : ItsDropping run times mount start end fits mounted tells sound right left o id opened b.d
      its_d = its run times mount start end fits mounted tells sound right left o id opened actor c fo.o.phase fo.post [] b

      abbrev Behind_it : List Told → List Told → Type 0
      Behind_it u rest = Behind run times mount start end fits mounted tells sound right left actor c id fo.o.phase fo.post [] b u rest

      go_on : (u rest : List Told) → fo.post ≡ u ++ rest → Behind_it u rest
      go_on u rest is = go run times mount start end fits mounted tells sound right left actor c id fo.o.phase fo.post [] b u rest is

      -- behind these lines of the actor, where that is before the line
      low_some : (u rest : List Told) (T : Behind_it u rest) → (r : Option Told) (w : Writing) (l : AnyLine run Begins end fits sound_begins right r w t) → length T.from ≤ length l.line.part.earlier → Low (fo.pre ++ fo.o ∷ u)
      low_some u rest T r w l short =
          let there : P b.d.writer (landed (moment_after Begins T.from) b.d) = holds r w l b.d its_d.stood (its_d.room ∙ home) T.from T.later T.is short in
          let least = least_landed c.parts.number b.d b.cap (moment_after Begins T.from) T.kept (account_of b.d.writer b.cap (nothing true) u) T.keeps in
          let here : P b.d.writer (account_of b.d.writer b.cap (nothing true) u).least = down b.d.writer (account_of b.d.writer b.cap (nothing true) u).least (landed (moment_after Begins T.from) b.d) least there in
          subst (λ (a : Account). P id a.least) (sym (account_is run times mount start end fits mounted tells sound right left actor c id fo.o.phase fo.post [] b fo.pre fo.o u fo.says)) (subst (λ k. P k (account_of b.d.writer b.cap (nothing true) u).least) b.its_id here)

      -- of another actor than the line's
      apart_low : run.in_order ≡ false → (actor ≡ t.actor → ⊥) → Low (own actor (before run t))
      apart_low free apart = subst Low (sym (ended_are run free t actor)) (by (either_part f.front f.rest fo.pre fo.o fo.post (sym f.is ∙ fo.is)))
        where
          f : Front (λ (s : Told). surely_before run s t) (own actor (told run))
          f = ended_first run free t actor

          l : AnyLine run Begins end fits sound_begins right (reader_at run t) (writing_at run t) t
          l = line_here run Begins end fits sound_begins right t is_line

          behind : (u : List Told) → f.front ≡ fo.pre ++ fo.o ∷ u → Behind_it u f.rest → Low (fo.pre ++ fo.o ∷ u)
          behind u front_is T =
              let early = all_rest (λ (s : Told). s.phase < t.phase) fo.pre (fo.o ∷ u) (subst (AllByRecursion (λ (s : Told). s.phase < t.phase)) front_is (ended_phases run free t actor f.front apart (all_own run free t actor f.front f.rest f.is).0 f.good)) in
              let its_phase = early.0 in
              let rise = begins_rise right.calls.blocks (fo.o.phase + 1) t.phase (omega (arith, its_phase)) in
              let long = length-append b.earlier b.mine in
              let begun = b.within in
              let short = T.within t.phase (omega (arith, rise, long, begun)) early.1 in
              let late = l.line.part.from_phase in
              low_some u f.rest T (reader_at run t) (writing_at run t) l (omega (arith, short, late))

          by : ((u : List Told) × (f.front ≡ fo.pre ++ fo.o ∷ u) × (fo.post ≡ u ++ f.rest)) ⊎ ((u : List Told) × (fo.pre ≡ f.front ++ u) × (f.rest ≡ u ++ fo.o ∷ fo.post)) → Low f.front
          by (inl (u, front_is, post_is)) = subst Low (sym front_is) (behind u front_is (go_on u f.rest post_is))
          by (inr (u, pre_is, rest_is)) = low_none f.front (all_first (OpensNot id) f.front u (subst (AllByRecursion (OpensNot id)) pre_is fo.none))

    -- of the line's own actor
    module _ (c : Its t.actor) (fo : FirstOpen id (own t.actor (told run))) (rest : List Told) (split : own t.actor (told run) ≡ own t.actor (before run t) ++ t ∷ rest) where
      own_some : (u : List Told) → Behind_it t.actor c fo u (t ∷ rest) → Low t.actor c fo (fo.pre ++ fo.o ∷ u)
      own_some u T = from T.more T.rooms_are
        where
          at : Opening run times mount start end fits mounted tells sound right left t.actor c id fo.o.phase fo.post []
          at = b t.actor c fo

          from : (each : ShownEach Begins sound_begins c.parts.number right.history right.calls.blocks All_of T.from T.kept T.file T.writer (t ∷ rest)) → HasRooms Begins sound_begins c.parts.number right.history right.calls.blocks All_of (length run.after.rooms) Homes T.from T.kept T.file T.writer (t ∷ rest) each → Low t.actor c fo (fo.pre ++ fo.o ∷ u)
          from (p, told_so, idle, s, more) rooms_are = low_some t.actor c fo u (t ∷ rest) T (reader_after at.reader u) (writing_after at.writing u) its_line (idles_long c.parts.number right.history right.calls.blocks T.from p.earlier idle)
            where
              its_line : AnyLine run Begins end fits sound_begins right (reader_after at.reader u) (writing_after at.writing u) t
              its_line = record {
                number = c.parts.number;
                line = record {
                  kept = T.kept;
                  file = T.file;
                  writer = T.writer;
                  part = p;
                  says = told_so;
                  shown = s;
                  known = subst (λ es. Known Homes c.parts.number es (reader_after at.reader u) (writing_after at.writing u) T.file T.writer) (sym idle.is) (known_waits Homes c.parts.number T.from idle.idle (reader_after at.reader u) (writing_after at.writing u) T.file T.writer T.known);
                  here = rooms_are.0;
                };
              }

      own_low : Low t.actor c fo (own t.actor (before run t))
      own_low = by (either_part (own t.actor (before run t)) (t ∷ rest) fo.pre fo.o fo.post (sym split ∙ fo.is))
        where
          by : ((u : List Told) × (own t.actor (before run t) ≡ fo.pre ++ fo.o ∷ u) × (fo.post ≡ u ++ t ∷ rest)) ⊎ ((u : List Told) × (fo.pre ≡ own t.actor (before run t) ++ u) × (t ∷ rest ≡ u ++ fo.o ∷ fo.post)) → Low t.actor c fo (own t.actor (before run t))
          by (inl (u, earlier_is, post_is)) = subst (Low t.actor c fo) (sym earlier_is) (own_some u (go_on t.actor c fo u (t ∷ rest) post_is))
          by (inr (u, pre_is, rest_is)) = low_none t.actor c fo (own t.actor (before run t)) (all_first (OpensNot id) (own t.actor (before run t)) u (subst (AllByRecursion (OpensNot id)) pre_is fo.none))

    -- The law of this file.
    pub least_holds : run.in_order ≡ false → P id (account run o.actor id (before run t)).least
    least_holds free = by (nat_eq o.actor t.actor) refl
      where
        there : Among o (own o.actor (told run))
        there = among_own (told run) o (among (told run) o opened.is_line)

        Sure : ℕ → Type 0
        Sure actor = P id (account run actor id (before run t)).least

        by_own : o.actor ≡ t.actor → Sure t.actor
        by_own same =
            let split = own_split run t (among (told run) t is_line) in
            own_low (chain_of run Begins end fits sound_begins right t is_line) (first_open id (own t.actor (told run)) o (subst (λ a. Among o (own a (told run))) same there) opened.says) split.rest split.is

        same_actor : nat_eq o.actor t.actor ≡ true → o.actor ≡ t.actor
        same_actor is = grind (arith, nat_tests)

        other_actor : nat_eq o.actor t.actor ≡ false → o.actor ≡ t.actor → ⊥
        other_actor off is = let on : nat_eq o.actor t.actor ≡ true = grind (arith, nat_tests) in let clash : true ≡ false = sym on ∙ off in absurd (cc)

        by : (x : Bool) → nat_eq o.actor t.actor ≡ x → Sure o.actor
        by true is = subst Sure (sym (same_actor is)) (by_own (same_actor is))
        by false off = apart_low o.actor (chain_of run Begins end fits sound_begins right o opened.is_line) (first_open id (own o.actor (told run)) o there opened.says) free (other_actor off)
