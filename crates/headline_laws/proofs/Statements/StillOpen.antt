-- A writer that a line opened: by the end of a later line either its actor has it still, or a line of its actor ended it: a stop, or a close that told its number or a fault.
use Rattle.std.proofs.Common.{◌≡◌, ◌⊎◌, ◌<◌, inl, inr, ℕ, Bool, true, false, nat_eq, List, [], ◌∷◌, ◌++◌, Option, Some, refl, sym, ap, ◌∙◌, subst, arith, append_assoc}
use Rattle.std.specs.Prelude.{not}
use Rattle.std.specs.List.{AllByRecursion}
use Rattle.std.proofs.lemmas.List.{append-nil}
use Rattle.plain_file.proofs.Facts.{Among}
use Rattle.store_api.specs.Acts.{Stored}
use Rattle.mount_model.specs.Mounting.{IsMounted}
use Rattle.mount_model.specs.State.{State}
use Rattle.mount_sound.specs.Sound.{IsSoundTree}
use Rattle.mount_sound.proofs.Facts.{mounted_fine}
use Rattle.reader_laws.specs.Moments.{IsSoundAt, Moment}
use Rattle.reader_laws.proofs.Gathered.Facts.{among, among_right, is_among}
use Rattle.script_lang.specs.Ranges.{FitsScript}
use Rattle.script_lang.specs.declared.line.Outcome.{Outcome}
use Rattle.script_lang.specs.declared.line.Outcome.TheVariants as line
use Rattle.script_lang.specs.declared.line.Why.{Why}
use Rattle.script_lang.specs.declared.line.Why.TheVariants.{NotOpen}
use Rattle.script_lang.specs.declared.script.Statement.{Statement}
use Rattle.script_lang.specs.declared.script.Statement.TheVariants as say
use Rattle.run_core.specs.Play.{IsRight}
use Rattle.headline_laws.proofs.Plays.Facts.{Next}
use Rattle.headline.specs.Run.{IsLine, Run, Says, Told, before, own, surely_before, told}
use Rattle.headline.specs.Writers.{nothing}
use Rattle.headline.specs.Changes.{MayBeDead, Writing, id_of, none, writer, writing_after, writing_at, writing_next}
use Rattle.headline.specs.Kinds.{IsOfKind}
use Rattle.headline.specs.Reasons.{IsReasonOf}
use Rattle.headline.specs.Recovered.{IsStillOpen}
use Rattle.headline_laws.proofs.Contents.OpenedWriter.{First, Opening, Whole, entered_so, sound_first, started}
use Rattle.headline_laws.proofs.OrderlyLines.Answering.{among_filter, among_own, own_actor}
use Rattle.headline_laws.proofs.OrderlyLines.Orderly.{kinds_told}
use Rattle.headline_laws.proofs.OrderlyLines.Places.{own_split}
use Rattle.headline_laws.proofs.Reasons.Told.{reasons_told}
use Rattle.headline_laws.proofs.Reasons.Unready.{IsOfWriter, IsReady, line_ready}
use Rattle.headline_laws.proofs.Statements.Does.{Ended, did, was_gone}
use Rattle.headline_laws.proofs.Statements.Did.{StopsSo}
use Rattle.headline_laws.proofs.Statements.Known.{HasEntered}
use Rattle.headline_laws.proofs.Statements.LivingLines.{GoesOn}
use Rattle.headline_laws.proofs.Statements.SureLines.{SureAt, sure_at, sure_writing}
use Rattle.headline_laws.proofs.Story.Attributed.{either_part, tail_of}
use Rattle.headline_laws.proofs.Story.Lines.{ChainOf, chain_of, line_here, writing_append}
use Rattle.headline_laws.proofs.Story.Ordered.{Front, IsBehind, Ordered, begun_first, has_begun, own_ordered}
use Rattle.headline_laws.proofs.Story.Shown.{ShownEach}
use Rattle.headline_laws.proofs.Trees.WriterStands.{was_open}

-- ---- lists

clashes : (b : Bool) → b ≡ true → b ≡ false → ⊥
clashes b on off = cc

at_one : (P : Told → Type 0) (xs : List Told) (x : Told) → AllByRecursion P xs → Among x xs → P x
at_one P [] x all at = absurd at
at_one P (y ∷ xs) x all (inl same) = subst P (sym same) all.0
at_one P (y ∷ xs) x all (inr at) = at_one P xs x all.1 at

one_more : (P : Told → Type 0) (xs : List Told) (x : Told) → AllByRecursion P xs → P x → AllByRecursion P (xs ++ x ∷ [])
one_more P [] x all p = (p, tt)
one_more P (y ∷ xs) x all p = (all.0, one_more P xs x all.1 p)

-- in which part it is
in_part : (x : Told) (xs ys : List Told) → Among x (xs ++ ys) → Among x xs ⊎ Among x ys
in_part x [] ys at = inr at
in_part x (z ∷ xs) ys (inl same) = inl (inl same)
in_part x (z ∷ xs) ys (inr at) = by (in_part x xs ys at)
  where
    by : Among x xs ⊎ Among x ys → Among x (z ∷ xs) ⊎ Among x ys
    by (inl first) = inl (inr first)
    by (inr rest) = inr rest

ordered_rest : (xs ys : List Told) → Ordered (xs ++ ys) → Ordered ys
ordered_rest [] ys o = o
ordered_rest (x ∷ xs) ys o = ordered_rest xs ys o.1

-- those before it have lower places
ordered_before : (xs : List Told) (o : Told) (ys : List Told) (x : Told) → Ordered (xs ++ o ∷ ys) → Among x xs → x.place < o.place
ordered_before [] o ys x ordered at = absurd at
ordered_before (z ∷ xs) o ys x ordered (inl same) = subst (λ (y : Told). y.place < o.place) (sym same) (at_one (IsBehind z) (xs ++ o ∷ ys) o ordered.0 (among_right o xs (o ∷ ys) (inl refl))).0
ordered_before (z ∷ xs) o ys x ordered (inr at) = ordered_before xs o ys x ordered.1 at

not_again : (s : Told) (ys : List Told) → Ordered (s ∷ ys) → Among s ys → ⊥
not_again s ys ordered at = let far : s.place < s.place = (at_one (IsBehind s) ys s ordered.0 at).0 in omega (arith, far)

-- the lines of an actor before one of them
same_front : (xs ys zs ws : List Told) (s : Told) → Ordered (xs ++ s ∷ ys) → Ordered (zs ++ s ∷ ws) → xs ++ s ∷ ys ≡ zs ++ s ∷ ws → xs ≡ zs
same_front xs ys zs ws s ordered also is = by (either_part xs (s ∷ ys) zs s ws is)
  where
    from : (u : List Told) → zs ≡ xs ++ u → s ∷ ys ≡ u ++ s ∷ ws → xs ≡ zs
    from [] front rest = sym (front ∙ append-nil xs)
    from (z ∷ u) front rest = absurd (not_again s ys (ordered_rest xs (s ∷ ys) ordered) (subst (Among s) (sym (tail_of s z ys (u ++ s ∷ ws) rest)) (among_right s u (s ∷ ws) (inl refl))))

    by : ((u : List Told) × (xs ≡ zs ++ s ∷ u) × (ws ≡ u ++ s ∷ ys)) ⊎ ((u : List Told) × (zs ≡ xs ++ u) × (s ∷ ys ≡ u ++ s ∷ ws)) → xs ≡ zs
    by (inl (u, front, rest)) = absurd (not_again s ws (ordered_rest zs (s ∷ ws) also) (subst (Among s) (sym rest) (among_right s u (s ∷ ys) (inl refl))))
    by (inr (u, front, rest)) = from u front rest

-- ---- what a line is

stops_or : (o : Outcome) → (o ≡ line.Stopped) ⊎ (o ≡ line.Stopped → ⊥)
stops_or line.Stopped = inl refl
stops_or o = inr (λ is. cc)

closes_or : (s : Statement) → (s ≡ say.Close) ⊎ (s ≡ say.Close → ⊥)
closes_or say.Close = inl refl
closes_or s = inr (λ is. cc)

-- a close that is made of an open writer tells its number, or a fault
close_ends : (o : Outcome) → IsOfKind say.Close o → IsReady o → ((why : Why) → o ≡ line.Refused why → IsReasonOf say.Close why) → (o ≡ line.Stopped → ⊥) → (o ≡ line.Gone → ⊥) → (o ≡ line.Fault) ⊎ ((count : ℕ) × (o ≡ line.Closed count))
close_ends (line.Closed count) kind ready reasons runs lives = inr (count, refl)
close_ends line.Fault kind ready reasons runs lives = inl refl
close_ends line.Stopped kind ready reasons runs lives = absurd (runs refl)
close_ends line.Gone kind ready reasons runs lives = absurd (lives refl)
close_ends (line.Refused NotOpen) kind ready reasons runs lives = absurd ready
close_ends (line.Refused why) kind ready reasons runs lives = absurd (reasons why refl)
close_ends o kind ready reasons runs lives = absurd kind

module _ (run : Run) (times : Option (List ℕ)) (mount : Stored) (start end : State) (fits : FitsScript run.script) (mounted : IsMounted 0 times mount start) (tells : mount.tree ≡ Some run.before) (sound : IsSoundTree run.before)
    (right : IsRight run.script start run.lines end) (left : end.store.tree ≡ Some run.after) where
  abbrev Begins : Moment
  Begins = First run times mount start end fits mounted tells sound right left

  abbrev sound_begins : IsSoundAt Begins
  sound_begins = sound_first run times mount start end fits mounted tells sound right left

  abbrev WholeOf : Next Begins [] right.history
  WholeOf = Whole run times mount start end fits mounted tells sound right left

  kinds : (t : Told) → IsLine run t → IsOfKind t.statement t.outcome
  kinds = kinds_told run start end fits (mounted_fine 0 times mount start mounted) (run.before, ap (λ (s : Stored). s.tree) mounted.opened_is ∙ tells, sound) right

  reasons : (t : Told) (why : Why) → Says run t (line.Refused why) → IsReasonOf t.statement why
  reasons t why says = (reasons_told run Begins end fits sound_begins right).kinds t why says

  module _ (free : run.in_order ≡ false) (t o : Told) (id : ℕ) (opened : Says run o (line.Opened id)) where
    abbrev c : ChainOf run Begins end fits sound_begins right o.actor
    c = chain_of run Begins end fits sound_begins right o opened.is_line

    abbrev Earlier : List Told
    Earlier = own o.actor (before run o)

    module _ (post : List Told) (split : own o.actor (told run) ≡ Earlier ++ o ∷ post) where
      abbrev b : Opening run times mount start end fits mounted tells sound right left o.actor c id o.phase post []
      b = started run times mount start end fits mounted tells sound right left o.actor c id Earlier o post split opened.says

      entered : HasEntered c.parts.number (b.earlier ++ b.mine) b.d
      entered = entered_so run times mount start end fits mounted tells sound right left o.actor c id o.phase post [] b

      ordered : Ordered (Earlier ++ o ∷ post)
      ordered = subst Ordered split (own_ordered run free t o.actor)

      -- ---- a line behind it, where all between go on

      module _ (v : List Told) (s : Told) (w : List Told) (is : post ≡ v ++ s ∷ w) (goes_on : AllByRecursion GoesOn v) where
        each : ShownEach Begins sound_begins c.parts.number right.history right.calls.blocks WholeOf (b.earlier ++ b.mine) b.kept b.file b.writer (v ++ s ∷ w)
        each = subst (λ ts. ShownEach Begins sound_begins c.parts.number right.history right.calls.blocks WholeOf (b.earlier ++ b.mine) b.kept b.file b.writer ts) is b.more

        x : SureAt Begins sound_begins c.parts.number right.history right.calls.blocks WholeOf b.cap b.d s
        x = sure_at Begins sound_begins c.parts.number right.history right.calls.blocks WholeOf b.cap b.d v s w (b.earlier ++ b.mine) b.kept b.file b.writer (nothing true) each entered b.keeps b.open_now b.caps b.alive b.fresh goes_on

        s_own : own o.actor (told run) ≡ (Earlier ++ o ∷ v) ++ s ∷ w
        s_own = split ∙ ap (λ z. Earlier ++ o ∷ z) is ∙ sym (append_assoc Earlier (o ∷ v) (s ∷ w))

        s_among : Among s (own o.actor (told run))
        s_among = subst (Among s) (sym s_own) (among_right s (Earlier ++ o ∷ v) (s ∷ w) (inl refl))

        s_actor : s.actor ≡ o.actor
        s_actor = own_actor o.actor (told run) s s_among

        s_line : IsLine run s
        s_line = is_among (told run) s (among_filter (λ (z : Told). nat_eq z.actor o.actor) (told run) s s_among)

        before_is : own s.actor (before run s) ≡ Earlier ++ o ∷ v
        before_is =
            let its = own_split run s (among (told run) s s_line) in
            same_front (own s.actor (before run s)) its.rest (Earlier ++ o ∷ v) w s (subst Ordered its.is (own_ordered run free s s.actor)) (subst Ordered s_own (own_ordered run free t o.actor)) (sym its.is ∙ ap (λ a. own a (told run)) s_actor ∙ s_own)

        asked_open : (name : List ℕ) × (o.statement ≡ say.Open name)
        asked_open = (let l = line_here run Begins end fits sound_begins right o opened.is_line in was_open l.line.kept o.statement l.line.part.e id (sym l.line.says ∙ opened.says) l.line.part.ended)

        opens_it : (z : Writing) → writing_next z o.statement o.outcome ≡ writer id
        opens_it z = ap (λ y. writing_next z y o.outcome) asked_open.1 ∙ ap (λ y. writing_next z (say.Open asked_open.0) y) opened.says

        writing_is : writing_at run s ≡ writer id
        writing_is = ap (writing_after none) before_is ∙ writing_append none Earlier o v ∙ ap (λ z. writing_after z v) (opens_it (writing_after none Earlier))
            ∙ sure_writing Begins sound_begins c.parts.number right.history right.calls.blocks WholeOf b.cap b.d v s w (b.earlier ++ b.mine) b.kept b.file b.writer (nothing true) each entered b.keeps b.open_now b.alive b.fresh goes_on id

        not_gone : s.outcome ≡ line.Gone → ⊥
        not_gone gone = by x.p.ended
          where
            by : Ended x.kept s.statement x.p.e → ⊥
            by (was_gone was out now) = clashes x.kept.gone was x.alive
            by (did lives d) = subst (λ y. StopsSo x.kept.armed false y x.p.e.kept.gone) (sym x.says ∙ gone) d.stops

        -- it may end the writer
        ends_it : surely_before run t s ≡ false → (s.outcome ≡ line.Stopped → ⊥) → s.statement ≡ say.Close → MayBeDead run t o.actor id
        ends_it begun runs close = record {
          s = s;
          is_line = s_line;
          own_line = s_actor;
          begun = begun;
          ends = inr (close, ap id_of writing_is, close_ends s.outcome (subst (λ y. IsOfKind y s.outcome) close (kinds s s_line)) ready (λ why says. subst (λ y. IsReasonOf y why) close (reasons s why (record { is_line = s_line; says = says }))) runs not_gone);
        }
          where
            ready : IsReady s.outcome
            ready = subst IsReady (sym x.says) (line_ready Begins sound_begins c.parts.number right.history right.calls.blocks WholeOf b.cap b.d s x (subst IsOfWriter (sym close) tt))

      -- ---- all lines behind it that began by the end of the line t

      module _ (u rest : List Told) (is : post ≡ u ++ rest) (begun : AllByRecursion (λ (s : Told). surely_before run t s ≡ false) u) where
        scan : (v w : List Told) → u ≡ v ++ w → AllByRecursion GoesOn v → AllByRecursion (λ (s : Told). surely_before run t s ≡ false) w → AllByRecursion GoesOn u ⊎ MayBeDead run t o.actor id
        scan v [] all goes_on begun_w = inl (subst (AllByRecursion GoesOn) (sym (all ∙ append-nil v)) goes_on)
        scan v (s ∷ w) all goes_on begun_w = by (stops_or s.outcome) (closes_or s.statement) (λ runs unclosed. scan (v ++ s ∷ []) w (all ∙ sym (append_assoc v (s ∷ []) w)) (one_more GoesOn v s goes_on (unclosed, runs)) begun_w.1)
          where
            there : post ≡ v ++ s ∷ (w ++ rest)
            there = is ∙ ap (λ z. z ++ rest) all ∙ append_assoc v (s ∷ w) rest

            by : (s.outcome ≡ line.Stopped) ⊎ (s.outcome ≡ line.Stopped → ⊥) → (s.statement ≡ say.Close) ⊎ (s.statement ≡ say.Close → ⊥) → ((s.outcome ≡ line.Stopped → ⊥) → (s.statement ≡ say.Close → ⊥) → AllByRecursion GoesOn u ⊎ MayBeDead run t o.actor id) → AllByRecursion GoesOn u ⊎ MayBeDead run t o.actor id
            by (inl stop) close later = inr (record { s = s; is_line = s_line v s (w ++ rest) there goes_on; own_line = s_actor v s (w ++ rest) there goes_on; begun = begun_w.0; ends = inl stop })
            by (inr runs) (inl close) later = inr (ends_it v s (w ++ rest) there goes_on begun_w.0 runs close)
            by (inr runs) (inr unclosed) later = later runs unclosed

      f : Front (has_begun run free t) (own o.actor (told run))
      f = begun_first run free t o.actor

      off : (y : Bool) → not y ≡ true → y ≡ false
      off true on = absurd (cc)
      off false on = refl

      on : (y : Bool) → not y ≡ false → y ≡ true
      on true is_off = refl
      on false is_off = absurd (cc)

      begun_so : (ss : List Told) → AllByRecursion (λ (s : Told). has_begun run free t s ≡ true) ss → AllByRecursion (λ (s : Told). surely_before run t s ≡ false) ss
      begun_so [] all = tt
      begun_so (s ∷ ss) all = (off (surely_before run t s) all.0, begun_so ss all.1)

      all_behind : (xs ys : List Told) (P : Told → Type 0) → AllByRecursion P (xs ++ ys) → AllByRecursion P ys
      all_behind [] ys P all = all
      all_behind (x ∷ xs) ys P all = all_behind xs ys P all.1

      abbrev Either : Type 0
      Either = IsStillOpen run t o ⊎ MayBeDead run t o.actor id

      -- a line of the actor behind the opening that began by then is one of these
      among_those : (u : List Told) → f.front ≡ Earlier ++ o ∷ u → (s : Told) → IsLine run s → s.actor ≡ o.actor → o.place < s.place → surely_before run t s ≡ false → Among s u
      among_those u front_is s is_line same far begun = by (in_part s f.front f.rest (subst (Among s) f.is (subst (λ a. Among s (own a (told run))) same (among_own (told run) s (among (told run) s is_line)))))
        where
          ordered_front : Ordered (Earlier ++ o ∷ post)
          ordered_front = ordered

          in_front : Among s Earlier ⊎ Among s (o ∷ u) → Among s u
          in_front (inl at) = absurd (let low = ordered_before Earlier o post s ordered at in omega (arith, low, far))
          in_front (inr (inl it)) = absurd (let one = ap (λ (z : Told). z.place) it in omega (arith, one, far))
          in_front (inr (inr at)) = at

          by : Among s f.front ⊎ Among s f.rest → Among s u
          by (inl at) = in_front (in_part s Earlier (o ∷ u) (subst (Among s) front_is at))
          by (inr at) = absurd (clashes (surely_before run t s) (on (surely_before run t s) (at_one (λ (z : Told). has_begun run free t z ≡ false) f.rest s f.bad at)) begun)

      either_so : surely_before run t o ≡ false → Either
      either_so early = by (either_part f.front f.rest Earlier o post (sym f.is ∙ split))
        where
          -- it began before the line t did
          o_begun : has_begun run free t o ≡ true
          o_begun = ap not early

          by : ((u : List Told) × (f.front ≡ Earlier ++ o ∷ u) × (post ≡ u ++ f.rest)) ⊎ ((u : List Told) × (Earlier ≡ f.front ++ u) × (f.rest ≡ u ++ o ∷ post)) → Either
          by (inr (u, earlier_is, rest_is)) = absurd (clashes (has_begun run free t o) o_begun (at_one (λ (z : Told). has_begun run free t z ≡ false) f.rest o f.bad (subst (Among o) (sym rest_is) (among_right o u (o ∷ post) (inl refl)))))
          by (inl (u, front_is, post_is)) = from (scan u f.rest post_is all_u [] u refl tt all_u)
            where
              all_u : AllByRecursion (λ (s : Told). surely_before run t s ≡ false) u
              all_u = begun_so u (all_behind (Earlier ++ o ∷ []) u (λ (s : Told). has_begun run free t s ≡ true) (subst (AllByRecursion (λ (s : Told). has_begun run free t s ≡ true)) (front_is ∙ sym (append_assoc Earlier (o ∷ []) u)) f.good))

              from : AllByRecursion GoesOn u ⊎ MayBeDead run t o.actor id → Either
              from (inl goes_on) = inl (λ s is_line same far begun. at_one GoesOn u s goes_on (among_those u front_is s is_line same far begun))
              from (inr dead) = inr dead

    -- the law of this file
    pub still_or_dead : surely_before run t o ≡ false → IsStillOpen run t o ⊎ MayBeDead run t o.actor id
    still_or_dead early = (let its = own_split run o (among (told run) o opened.is_line) in either_so its.rest its.is early)
