-- Each count of a line that counts what had landed in its part lies between what the lines make sure to have landed and what they allow.
use Rattle.std.proofs.Common.{◌≡◌, ◌⊎◌, ◌≤◌, ◌+◌, inl, inr, ℕ, Bool, true, false, nat_eq, List, [], ◌∷◌, ◌++◌, length, Option, Some, None, refl, sym, ap, ◌∙◌, subst, arith, append_assoc, length-append}
use Rattle.std.specs.Prelude.{slice_get}
use Rattle.std.specs.List.{AllByRecursion}
use Rattle.std.proofs.lemmas.Bool.Decides.{nat_tests}
use Rattle.std.proofs.lemmas.List.{append-nil}
use Rattle.plfs_types.specs.declared.entries.Trunc.{Trunc}
use Rattle.plfs_types.specs.declared.entries.WriterCount.{WriterCount}
use Rattle.store_api.specs.Acts.{Stored}
use Rattle.mount_model.specs.History.{Event}
use Rattle.mount_model.specs.Mounting.{IsMounted}
use Rattle.mount_model.specs.State.{State}
use Rattle.mount_sound.specs.Sound.{IsSoundTree}
use Rattle.reader_laws.specs.Moments.{Dropping, IsSoundAt, Moment, Stood, landed, moment_after}
use Rattle.reader_laws.proofs.Gathered.Facts.{among}
use Rattle.plain_file.proofs.Facts.{Among}
use Rattle.script_lang.specs.Ranges.{FitsScript}
use Rattle.script_lang.specs.declared.line.Outcome.TheVariants as line
use Rattle.actor_core.specs.Statements.{work_of}
use Rattle.run_core.specs.Play.{IsRight}
use Rattle.headline_laws.proofs.Plays.Facts.{Next}
use Rattle.headline.specs.Run.{IsLine, Run, Says, Told, before, own, so_far, told}
use Rattle.headline.specs.Files.{reader_after, reader_at, reader_next}
use Rattle.headline.specs.Changes.{Writing, none as no_writing, writing_after, writing_at, writing_next}
use Rattle.headline.specs.Writers.{Account, account, account_of, cap_of, nothing, told_of}
use Rattle.headline_laws.proofs.Landed.Beginning.{LineAt, line_at}
use Rattle.headline_laws.proofs.Landed.Bounded.{Keeps, idle_keeps, line_keeps}
use Rattle.headline_laws.proofs.Landed.Counting.{counted_in}
use Rattle.headline_laws.proofs.Landed.Folded.{Through, UpTo, most_landed, up_to}
use Rattle.headline_laws.proofs.OrderlyLines.Answering.{among_own}
use Rattle.headline_laws.proofs.OrderlyLines.Places.{own_split}
use Rattle.headline_laws.proofs.Statements.Hosts.{SameHost, comes_so, declared_of, statement_host}
use Rattle.headline_laws.proofs.Statements.Known.{HasEntered, Known, entered_more, known_waits}
use Rattle.headline_laws.proofs.Story.Attributed.{either_part, head_of, tail_of}
use Rattle.headline_laws.proofs.Story.Lines.{AnyLine, ChainOf, HasRooms, chain_of, line_here, nothing_known, whole_history}
use Rattle.headline_laws.proofs.Story.Ordered.{Front, all_own, begun_are, begun_first, begun_own, begun_phases, has_begun}
use Rattle.headline_laws.proofs.Story.Parts.{begins, begins_rise}
use Rattle.headline_laws.proofs.Story.Shown.{ShownEach}
use Rattle.headline_laws.proofs.Contents.FirstOpen.{FirstOpen, OpensNot, account_more, all_first, all_rest, first_open, none_told}
use Rattle.headline_laws.proofs.Contents.OpenedWriter.{Behind as Behind_of, Chain as Chain_of, First as First_of, Home as Home_of, Opening as Opening_of, account_is as account_is_of, chain_as as chain_as_of, go as go_of, its as its_of, none_before as none_before_of, opening, sound_first as sound_first_of, started as started_of}
use Rattle.headline_laws.proofs.Contents.Least.{least_holds}
use Rattle.headline_laws.proofs.Contents.LineBounds.{BoundedLine as BoundedLine_of}

module _ (run : Run) (times : Option (List ℕ)) (mount : Stored) (start end : State) (fits : FitsScript run.script) (mounted : IsMounted 0 times mount start) (tells : mount.tree ≡ Some run.before) (sound : IsSoundTree run.before)
    (right : IsRight run.script start run.lines end) (left : end.store.tree ≡ Some run.after) where
  abbrev First : Moment
  First = First_of run times mount start end fits mounted tells sound right left

  abbrev sound_first : IsSoundAt First
  sound_first = sound_first_of run times mount start end fits mounted tells sound right left

  abbrev Home : Told → ℕ
  Home = Home_of run times mount start end fits mounted tells sound right left

  abbrev Whole : Next First [] right.history
  Whole = whole_history run First end fits sound_first right

  abbrev Last : Moment
  Last = moment_after First right.history

  abbrev Opening : (actor : ℕ) → ChainOf run First end fits sound_first right actor → ℕ → ℕ → List Told → List Event → Type 0
  Opening actor c id phase post done = Opening_of run times mount start end fits mounted tells sound right left actor c id phase post done

  module _ (t : Told) (cut : List WriterCount) (truncs : List Trunc) (is_line : IsLine run t) (opens_none : (other : ℕ) → t.outcome ≡ line.Opened other → ⊥) where
    abbrev BoundedLine : Dropping → List Event → List Event → Type 0
    BoundedLine d earlier mine = BoundedLine_of run times mount start end fits mounted tells sound right left t cut truncs d earlier mine

    -- ---- one writer of the container

    module _ (o : Told) (id : ℕ) (opened : Says run o (line.Opened id)) (home : Home o ≡ Home t)
        (bounded : (r : Option Told) (w : Writing) (l : AnyLine run First end fits sound_first right r w t) (d : Dropping) → Stood Last d → d.room ≡ Home t → d.writer ≡ id → BoundedLine d l.line.part.earlier l.line.part.mine) where
      -- which one it is
      record ItsDropping (d : Dropping) : Type 0 where
        pub stood : Stood Last d
        pub room : d.room ≡ Home t

      module _ (actor : ℕ) (c : ChainOf run First end fits sound_first right actor) where
        abbrev n : ℕ
        n = c.parts.number

        module _ (phase : ℕ) (post : List Told) (done : List Event) (b : Opening actor c id phase post done) where
          its : ItsDropping b.d
          its = let i = its_of run times mount start end fits mounted tells sound right left o id opened actor c phase post done b in record { stood = i.stood; room = i.room ∙ home }

          none_before : (y ys : List Event) → right.history ≡ y ++ ys → length y ≤ length b.earlier → landed (moment_after First y) b.d ≤ 0
          none_before = none_before_of run times mount start end fits mounted tells sound right left o id opened actor c phase post done b

          abbrev Behind : List Told → List Told → Type 0
          Behind u rest = Behind_of run times mount start end fits mounted tells sound right left actor c id phase post done b u rest

          go : (u rest : List Told) → post ≡ u ++ rest → Behind u rest
          go = go_of run times mount start end fits mounted tells sound right left actor c id phase post done b

          account_is : (pre : List Told) (q : Told) (u : List Told) → q.outcome ≡ line.Opened id → account_of id (cap_of (slice_get run.script.actors actor)) (nothing false) (pre ++ q ∷ u) ≡ account_of b.d.writer b.cap (nothing true) u
          account_is = account_is_of run times mount start end fits mounted tells sound right left actor c id phase post done b

        abbrev Chain : List Told → Type 0
        Chain ts = Chain_of run times mount start end fits mounted tells sound right left actor c ts

        chain_as : (ts : List Told) → own actor (told run) ≡ ts → Chain ts
        chain_as = chain_as_of run times mount start end fits mounted tells sound right left actor c

        started : (pre : List Told) (q : Told) (post : List Told) → own actor (told run) ≡ pre ++ q ∷ post → q.outcome ≡ line.Opened id → Opening actor c id q.phase post []
        started = started_of run times mount start end fits mounted tells sound right left actor c id

        abbrev Cap : ℕ
        Cap = cap_of (slice_get run.script.actors actor)

        abbrev High : List Told → Type 0
        High ts = counted_in id cut ≤ (account_of id Cap (nothing false) ts).most

        -- where no line has opened it
        high_none : (ts : List Told) → AllByRecursion (OpensNot id) ts → counted_in id cut ≤ 0 → High ts
        high_none ts none zero_is = subst (λ (a : Account). counted_in id cut ≤ a.most) (sym (none_told id Cap ts none)) zero_is

        -- where one has
        module _ (phase : ℕ) (post : List Told) (done : List Event) (b : Opening actor c id phase post done) where
          high_some : (pre : List Told) (q : Told) (u : List Told) → q.outcome ≡ line.Opened id → counted_in b.d.writer cut ≤ (account_of b.d.writer b.cap (nothing true) u).most → High (pre ++ q ∷ u)
          high_some pre q u says high = subst (λ (a : Account). counted_in id cut ≤ a.most) (sym (account_is phase post done b pre q u says)) (subst (λ k. counted_in k cut ≤ (account_of b.d.writer b.cap (nothing true) u).most) b.its_id high)

        -- ---- a writer of another actor

        module _ (free : run.in_order ≡ false) (apart : actor ≡ t.actor → ⊥) (fo : FirstOpen id (own actor (told run))) where
          abbrev b : Opening actor c id fo.o.phase fo.post []
          b = started fo.pre fo.o fo.post fo.is fo.says

          abbrev l : AnyLine run First end fits sound_first right (reader_at run t) (writing_at run t) t
          l = line_here run First end fits sound_first right t is_line

          its_d : ItsDropping b.d
          its_d = its fo.o.phase fo.post [] b

          line_is : BoundedLine b.d l.line.part.earlier l.line.part.mine
          line_is = bounded (reader_at run t) (writing_at run t) l b.d its_d.stood its_d.room b.its_id

          abbrev its_end : List Event
          its_end = l.line.part.earlier ++ l.line.part.mine

          its_split : right.history ≡ its_end ++ l.line.part.later
          its_split = l.line.part.split ∙ sym (append_assoc l.line.part.earlier l.line.part.mine l.line.part.later)

          its_long : length its_end ≡ length l.line.part.earlier + length l.line.part.mine
          its_long = length-append l.line.part.earlier l.line.part.mine

          apart_high : High (own actor (so_far run t))
          apart_high = subst High (sym (begun_are run free t actor)) (by (either_part f.front f.rest fo.pre fo.o fo.post (sym f.is ∙ fo.is)))
            where
              f : Front (λ (s : Told). has_begun run free t s) (own actor (told run))
              f = begun_first run free t actor

              late : AllByRecursion (λ (s : Told). t.phase + 1 ≤ s.phase) f.rest
              late = begun_phases run free t actor f.rest apart (all_own run free t actor f.front f.rest f.is).1 f.bad

              far_end : {later : List Event} (till : List Event) → right.history ≡ till ++ later → (begins right.calls.blocks (t.phase + 1) ≤ length till) ⊎ (later ≡ []) → length l.line.part.earlier + length l.line.part.mine ≤ length till
              far_end till is (inl far) = let within = l.line.part.within_phase in omega (arith, far, within)
              far_end till is (inr none) =
                  let all : right.history ≡ till = is ∙ ap (λ z. till ++ z) none ∙ append-nil till in
                  let both : its_end ++ l.line.part.later ≡ till = sym its_split ∙ all in
                  let long = length-append its_end l.line.part.later in
                  let same = ap length both in
                  let its_own = its_long in
                  omega (arith, long, same, its_own)

              behind : (u : List Told) → Through First sound_first n right.history right.calls.blocks Whole (length run.after.rooms) b.cap b.d Home (b.earlier ++ b.mine) b.reader b.writing (nothing true) u f.rest → High (fo.pre ++ fo.o ∷ u)
              behind u T = from (up_to First sound_first n right.history right.calls.blocks Whole (length run.after.rooms) b.cap b.d T.from T.kept T.file T.writer (account_of b.d.writer b.cap (nothing true) u) f.rest T.more T.keeps)
                where
                  from : UpTo First sound_first n right.history right.calls.blocks Whole (length run.after.rooms) b.cap b.d T.from (account_of b.d.writer b.cap (nothing true) u).most f.rest → High (fo.pre ++ fo.o ∷ u)
                  from U =
                      let high = line_is.high U.till U.later U.is (far_end U.till U.is (U.behind (t.phase + 1) late)) in
                      let most = U.high in
                      high_some fo.o.phase fo.post [] b fo.pre fo.o u fo.says (omega (arith, high, most))

              by : ((u : List Told) × (f.front ≡ fo.pre ++ fo.o ∷ u) × (fo.post ≡ u ++ f.rest)) ⊎ ((u : List Told) × (fo.pre ≡ f.front ++ u) × (f.rest ≡ u ++ fo.o ∷ fo.post)) → High f.front
              by (inl (u, front_is, post_is)) = subst High (sym front_is) (behind u (go fo.o.phase fo.post [] b u f.rest post_is))
              by (inr (u, pre_is, rest_is)) =
                  let its_phase = (all_rest (λ (s : Told). t.phase + 1 ≤ s.phase) u (fo.o ∷ fo.post) (subst (AllByRecursion (λ (s : Told). t.phase + 1 ≤ s.phase)) rest_is late)).0 in
                  let rise = begins_rise right.calls.blocks (t.phase + 1) fo.o.phase its_phase in
                  let within = l.line.part.within_phase in
                  let from = b.from_phase in
                  let its_own = its_long in
                  let zero_is = none_before fo.o.phase fo.post [] b its_end l.line.part.later its_split (omega (arith, its_own, within, rise, from)) in
                  let high = line_is.high its_end l.line.part.later its_split (omega (arith, its_own)) in
                  high_none f.front (all_first (OpensNot id) f.front u (subst (AllByRecursion (OpensNot id)) pre_is fo.none)) (subst (λ k. counted_in k cut ≤ 0) b.its_id (omega (arith, high, zero_is)))

      -- ---- a writer of the line's own actor

      module _ (free : run.in_order ≡ false) (c : ChainOf run First end fits sound_first right t.actor) (fo : FirstOpen id (own t.actor (told run))) (rest : List Told) (split : own t.actor (told run) ≡ own t.actor (before run t) ++ t ∷ rest) where
        abbrev Earlier : List Told
        Earlier = own t.actor (before run t)

        opens_not : OpensNot id t
        opens_not = opens_none id

        abbrev HighIt : List Told → Type 0
        HighIt ts = High t.actor c (ts ++ t ∷ [])

        both_none : (ts : List Told) (x : Told) → AllByRecursion (OpensNot id) ts → OpensNot id x → AllByRecursion (OpensNot id) (ts ++ x ∷ [])
        both_none [] x none one = (one, tt)
        both_none (y ∷ ts) x none one = (none.0, both_none ts x none.1 one)

        -- it was opened before
        module _ (u : List Told) (post_is : fo.post ≡ u ++ t ∷ rest) where
          abbrev b_own : Opening t.actor c id fo.o.phase fo.post []
          b_own = started t.actor c fo.pre fo.o fo.post fo.is fo.says

          abbrev acc_own : Account
          acc_own = account_of b_own.d.writer b_own.cap (nothing true) u

          own_some : Through First sound_first c.parts.number right.history right.calls.blocks Whole (length run.after.rooms) b_own.cap b_own.d Home (b_own.earlier ++ b_own.mine) b_own.reader b_own.writing (nothing true) u (t ∷ rest) → HighIt (fo.pre ++ fo.o ∷ u)
          own_some T = from T.more T.rooms_are
            where
              from : (each : ShownEach First sound_first c.parts.number right.history right.calls.blocks Whole T.from T.kept T.file T.writer (t ∷ rest)) → HasRooms First sound_first c.parts.number right.history right.calls.blocks Whole (length run.after.rooms) Home T.from T.kept T.file T.writer (t ∷ rest) each → HighIt (fo.pre ++ fo.o ∷ u)
              from (p, told_so, idle, s, more) rooms_are = subst (High t.actor c) (sym (append_assoc fo.pre (fo.o ∷ u) (t ∷ []))) (high_some t.actor c fo.o.phase fo.post [] b_own fo.pre fo.o (u ++ t ∷ []) fo.says (subst (λ (a : Account). counted_in b_own.d.writer cut ≤ a.most) (sym (account_more b_own.d.writer b_own.cap (nothing true) u t)) (let high = line_is.high (p.earlier ++ p.mine) p.later split_so (let long = length-append p.earlier p.mine in omega (arith, long)) in let most = most_landed c.parts.number b_own.d b_own.cap (moment_after First (p.earlier ++ p.mine)) p.e.kept (told_of b_own.d.writer b_own.cap acc_own t.statement t.outcome) keeps in omega (arith, high, most))))
                where
                  its_d : ItsDropping b_own.d
                  its_d = its t.actor c fo.o.phase fo.post [] b_own

                  its_line : AnyLine run First end fits sound_first right (reader_after b_own.reader u) (writing_after b_own.writing u) t
                  its_line = record {
                    number = c.parts.number;
                    line = record {
                      kept = T.kept;
                      file = T.file;
                      writer = T.writer;
                      part = p;
                      says = told_so;
                      shown = s;
                      known = subst (λ es. Known Home c.parts.number es (reader_after b_own.reader u) (writing_after b_own.writing u) T.file T.writer) (sym idle.is) (known_waits Home c.parts.number T.from idle.idle (reader_after b_own.reader u) (writing_after b_own.writing u) T.file T.writer T.known);
                      here = rooms_are.0;
                    };
                  }

                  line_is : BoundedLine b_own.d p.earlier p.mine
                  line_is = bounded (reader_after b_own.reader u) (writing_after b_own.writing u) its_line b_own.d its_d.stood its_d.room b_own.its_id

                  split_so : right.history ≡ (p.earlier ++ p.mine) ++ p.later
                  split_so = p.split ∙ sym (append_assoc p.earlier p.mine p.later)

                  entered_here : HasEntered c.parts.number p.earlier b_own.d
                  entered_here = subst (λ es. HasEntered c.parts.number es b_own.d) (sym idle.is) (entered_more c.parts.number T.from idle.idle b_own.d T.entered)

                  keeps : Keeps First sound_first c.parts.number right.history right.calls.blocks Whole b_own.cap b_own.d (p.earlier ++ p.mine) p.e.kept (told_of b_own.d.writer b_own.cap acc_own t.statement t.outcome)
                  keeps = line_keeps First sound_first c.parts.number right.history right.calls.blocks Whole b_own.cap b_own.d T.kept T.file T.writer t p told_so s acc_own entered_here
                      (idle_keeps First sound_first c.parts.number right.history right.calls.blocks Whole b_own.cap b_own.d T.from p.earlier (p.mine ++ p.later) T.kept acc_own p.split idle T.keeps)

        -- it is opened behind the line
        own_none : (u : List Told) → fo.pre ≡ Earlier ++ u → t ∷ rest ≡ u ++ fo.o ∷ fo.post → HighIt Earlier
        own_none [] pre_is rest_is = absurd (opens_not (ap (λ (z : Told). z.outcome) (head_of t fo.o rest fo.post rest_is) ∙ fo.says))
        own_none (y ∷ u) pre_is rest_is = by (chain_as t.actor c (Earlier ++ t ∷ rest) split)
          where
            none : AllByRecursion (OpensNot id) Earlier
            none = all_first (OpensNot id) Earlier (y ∷ u) (subst (AllByRecursion (OpensNot id)) pre_is fo.none)

            later_is : rest ≡ u ++ fo.o ∷ fo.post
            later_is = tail_of t y rest (u ++ fo.o ∷ fo.post) rest_is

            by : Chain t.actor c (Earlier ++ t ∷ rest) → HighIt Earlier
            by (each, rooms_are) = at_line (line_at First sound_first c.parts.number right.history right.calls.blocks Whole (length run.after.rooms) Home Earlier t rest [] c.parts.kept None None None no_writing each rooms_are (nothing_known run First end fits sound_first right c.parts.number))
              where
                at_line : LineAt First sound_first c.parts.number right.history right.calls.blocks Whole (length run.after.rooms) Home [] c.parts.kept None no_writing Earlier t rest → HighIt Earlier
                at_line l = high_none t.actor c (Earlier ++ t ∷ []) (both_none Earlier t none opens_not) (opened_then (then_opening (subst Behind_it later_is (l.more, l.rooms_are))))
                  where
                    ends : List Event
                    ends = l.part.earlier ++ l.part.mine

                    Behind_it : List Told → Type 0
                    Behind_it ts = (more : ShownEach First sound_first c.parts.number right.history right.calls.blocks Whole ends l.part.e.kept l.shown.new l.shown.new_writer ts) × HasRooms First sound_first c.parts.number right.history right.calls.blocks Whole (length run.after.rooms) Home ends l.part.e.kept l.shown.new l.shown.new_writer ts more

                    declared_so : declared_of l.part.e.kept ≡ declared_of c.parts.kept
                    declared_so = comes_so c.parts.number (SameHost l.kept) (work_of l.kept t.statement) l.part.mine l.part.spent l.part.e (statement_host l.kept t.statement) l.part.comes ∙ l.declared

                    then_opening : Behind_it (u ++ fo.o ∷ fo.post) → Opening t.actor c id fo.o.phase fo.post ends
                    then_opening (more, rooms_then) = opening run times mount start end fits mounted tells sound right left t.actor c id u fo.o fo.post ends l.part.e.kept l.shown.new l.shown.new_writer (reader_next (reader_after None Earlier) t t.outcome) (writing_next (writing_after no_writing Earlier) t.statement t.outcome) more rooms_then l.behind declared_so fo.says

                    its_line : AnyLine run First end fits sound_first right (reader_after None Earlier) (writing_after no_writing Earlier) t
                    its_line = record { number = c.parts.number; line = record { kept = l.kept; file = l.file; writer = l.writer; part = l.part; says = l.says; shown = l.shown; known = l.known; here = l.here } }

                    split_so : right.history ≡ ends ++ l.part.later
                    split_so = l.part.split ∙ sym (append_assoc l.part.earlier l.part.mine l.part.later)

                    opened_then : Opening t.actor c id fo.o.phase fo.post ends → counted_in id cut ≤ 0
                    opened_then b =
                        let its_d = its t.actor c fo.o.phase fo.post ends b in
                        let line_is = bounded (reader_after None Earlier) (writing_after no_writing Earlier) its_line b.d its_d.stood its_d.room b.its_id in
                        let long = length-append l.part.earlier l.part.mine in
                        let high = line_is.high ends l.part.later split_so (omega (arith, long)) in
                        let zero_is = none_before t.actor c fo.o.phase fo.post ends b ends l.part.later split_so b.behind in
                        subst (λ k. counted_in k cut ≤ 0) b.its_id (omega (arith, high, zero_is))

        own_high : HighIt Earlier
        own_high = by (either_part Earlier (t ∷ rest) fo.pre fo.o fo.post (sym split ∙ fo.is))
          where
            by : ((u : List Told) × (Earlier ≡ fo.pre ++ fo.o ∷ u) × (fo.post ≡ u ++ t ∷ rest)) ⊎ ((u : List Told) × (fo.pre ≡ Earlier ++ u) × (t ∷ rest ≡ u ++ fo.o ∷ fo.post)) → HighIt Earlier
            by (inl (u, earlier_is, post_is)) = subst HighIt (sym earlier_is) (own_some u post_is (go t.actor c fo.o.phase fo.post [] (started t.actor c fo.pre fo.o fo.post fo.is fo.says) u (t ∷ rest) post_is))
            by (inr (u, pre_is, rest_is)) = own_none u pre_is rest_is

      -- ---- of any actor

      abbrev At_most : ℕ → Type 0
      At_most actor = counted_in id cut ≤ (account run actor id (so_far run t)).most

      most_counted : run.in_order ≡ false → At_most o.actor
      most_counted free = by (nat_eq o.actor t.actor) refl
        where
          there : Among o (own o.actor (told run))
          there = among_own (told run) o (among (told run) o opened.is_line)

          by_own : o.actor ≡ t.actor → At_most t.actor
          by_own same =
              let split = own_split run t (among (told run) t is_line) in
              let c = chain_of run First end fits sound_first right t is_line in
              let fo = first_open id (own t.actor (told run)) o (subst (λ a. Among o (own a (told run))) same there) opened.says in
              subst (High t.actor c) (sym (begun_own run free t split.rest split.is)) (own_high free c fo split.rest split.is)

          by_other : (o.actor ≡ t.actor → ⊥) → At_most o.actor
          by_other apart =
              let c = chain_of run First end fits sound_first right o opened.is_line in
              let fo = first_open id (own o.actor (told run)) o there opened.says in
              apart_high o.actor c free apart fo

          same_actor : nat_eq o.actor t.actor ≡ true → o.actor ≡ t.actor
          same_actor is = grind (arith, nat_tests)

          other_actor : nat_eq o.actor t.actor ≡ false → o.actor ≡ t.actor → ⊥
          other_actor off is = let on : nat_eq o.actor t.actor ≡ true = grind (arith, nat_tests) in let clash : true ≡ false = sym on ∙ off in absurd (cc)

          by : (x : Bool) → nat_eq o.actor t.actor ≡ x → At_most o.actor
          by true is = subst At_most (sym (same_actor is)) (by_own (same_actor is))
          by false off = by_other (other_actor off)

      -- The law of this file: it lies between what is sure and what may be.
      pub opened_between : run.in_order ≡ false → ((account run o.actor id (before run t)).least ≤ counted_in id cut) × At_most o.actor
      opened_between free = (
        least_holds run times mount start end fits mounted tells sound right left (λ w many. w ≡ id → many ≤ counted_in w cut) (λ w fewer many le all is. (let few = all is in omega (arith, le, few))) (λ w is. omega arith) t is_line
            (λ r w l d stood home_is x xs is short its_id. (bounded r w l d stood home_is its_id).low x xs is short) o id opened home free refl,
        most_counted free,
      )
