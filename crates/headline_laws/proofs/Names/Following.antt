-- The namings of a run may follow each other so: none before one that ended before it began, and each line gives one name at most.
use Rattle.std.proofs.Common.{◌≡◌, ◌≤◌, ◌<◌, ◌⊎◌, ◌+◌, inl, inr, ℕ, Bool, true, false, List, [], ◌∷◌, ◌++◌, length, Option, refl, sym, ap, ◌∙◌, subst, arith, append_assoc, length-append}
use Rattle.std.specs.List.{All, AllByRecursion, Any}
use Rattle.std.proofs.lemmas.Bool.{cases_lt}
use Rattle.std.proofs.lemmas.List.{append-nil}
use Rattle.std.proofs.lemmas.List.Elements.{All-from_recursion}
use Rattle.plain_file.proofs.Facts.{Among}
use Rattle.turn_object.specs.Callers.{made_by}
use Rattle.mount_model.specs.declared.call.Call.TheVariants.{MakeContainer, Move}
use Rattle.mount_model.specs.History.{Event}
use Rattle.mount_model.specs.Paths.{Name}
use Rattle.mount_model.specs.State.{State}
use Rattle.mount_sound.specs.Owed.{IsLawful}
use Rattle.reader_laws.specs.Moments.{IsSoundAt, Moment, moment_after, next_moment}
use Rattle.reader_laws.proofs.Gathered.Facts.{among, found_any, legal_first, legal_rest, moment-append, sound_after}
use Rattle.reader_laws.proofs.Gathered.Moments.Stepping.{sound_next}
use Rattle.script_lang.specs.Ranges.{FitsScript}
use Rattle.script_lang.specs.declared.line.Outcome.TheVariants as line
use Rattle.script_lang.specs.declared.line.Why.TheVariants.{Held, IdsSpent}
use Rattle.script_lang.specs.declared.script.Statement.TheVariants.{Open, Rename}
use Rattle.run_core.specs.Play.{IsRight}
use Rattle.headline_laws.proofs.Plays.Facts.{MayAsk}
use Rattle.headline.specs.Run.{IsLine, Run, Told, phased, surely_before, told}
use Rattle.headline.specs.Files.{reader_at}
use Rattle.headline.specs.Changes.{Writing, writing_at}
use Rattle.headline.specs.Names.{BrokeOff, MayBeNamed, MayName, Naming, made as may_make, moved as may_move, named}
use Rattle.headline_laws.proofs.Makers.Holds.{IsMark}
use Rattle.headline_laws.proofs.Names.ByOpening.{made_number, opens_alone, opens_so}
use Rattle.headline_laws.proofs.Names.ByRename.{MovedBy, ends_so, moved_by, moves_alone, of_number}
use Rattle.headline_laws.proofs.Makers.NewNames.{NewName, made, moved, names_differ, names_now, names_of, with_name}
use Rattle.headline_laws.proofs.OrderlyLines.Places.{beside_rise}
use Rattle.headline_laws.proofs.Story.Attributed.{either_part, head_of, none_there, tail_of}
use Rattle.headline_laws.proofs.Story.Lines.{container, room_of, whole_history}
use Rattle.headline_laws.proofs.Story.Listing.{name_of_room, room_of_name}
use Rattle.headline_laws.proofs.Story.OneOpener.{one_place}
use Rattle.headline_laws.proofs.Story.Shown.{IsShown}
use Rattle.headline_laws.proofs.Story.Namings.{AreGiven, GaveName, InTwo, are_given, gave_at, given_in_two, namings, names_then}
use Rattle.headline_laws.proofs.Story.Spans.{Placed, PlacedCall, Span, by_actor, placed_here, same_place, span_of, spans_apart}

-- lists that are one have the same parts
same_parts : (xs ys rest more : List Event) → length xs ≡ length ys → xs ++ rest ≡ ys ++ more → (xs ≡ ys) × (rest ≡ more)
same_parts [] [] rest more long is = (refl, is)
same_parts [] (y ∷ ys) rest more long is = absurd (omega (arith, long))
same_parts (x ∷ xs) [] rest more long is = absurd (omega (arith, long))
same_parts (x ∷ xs) (y ∷ ys) rest more long is =
    let t = same_parts xs ys rest more (omega (arith, long)) (tail_of x y (xs ++ rest) (ys ++ more) is) in
    (ap (λ z. z ∷ xs) (head_of x y (xs ++ rest) (ys ++ more) is) ∙ ap (λ zs. y ∷ zs) t.0, t.1)

-- of two places in one list the later one lies behind
behind_it : (mine first later first_two later_two : List Event) (e f : Event) → mine ≡ first ++ e ∷ later → mine ≡ first_two ++ f ∷ later_two → length first < length first_two → (v : List Event) × (later ≡ v ++ f ∷ later_two)
behind_it mine first later first_two later_two e f one two less = elim (either_part first (e ∷ later) first_two f later_two (sym one ∙ two)) as (λ _. (v : List Event) × (later ≡ v ++ f ∷ later_two)) [
  | inl (u, front, back) ↦ let long = ap length front ∙ length-append first_two (f ∷ u) in absurd (omega (arith, long, less))
  | inr (u, front, back) ↦ first_or_later u front back
]
  where
    first_or_later : (u : List Event) → first_two ≡ first ++ u → e ∷ later ≡ u ++ f ∷ later_two → (v : List Event) × (later ≡ v ++ f ∷ later_two)
    first_or_later [] front back = let long = ap length (front ∙ append-nil first) in absurd (omega (arith, long, less))
    first_or_later (y ∷ u) front back = (u, tail_of e y later (u ++ f ∷ later_two) back)

module _ (run : Run) (m : Moment) (end : State) (fits : FitsScript run.script) (sound : IsSoundAt m) (right : IsRight run.script m.state run.lines end) where
  abbrev Call_at : List Event → Event → Type 0
  Call_at pre e = PlacedCall run m end fits sound right pre e

  -- a naming by a call of the history, behind so many others
  record Given (limit : ℕ) (x : Naming) : Type 0 where
    pub pre : List Event
    pub e : Event
    pub post : List Event
    pub whole : right.history ≡ pre ++ e ∷ post
    pub far : limit ≤ length pre
    pub gave : GaveName run m end fits sound right pre e x
    pub new : names_now e.after ≡ with_name (names_then run m end fits sound right pre) x.number x.name

  sooner : (low high : ℕ) (ns : List Naming) → low ≤ high → AllByRecursion (Given high) ns → AllByRecursion (Given low) ns
  sooner low high [] le all = tt
  sooner low high (x ∷ ns) le all =
      let g = all.0 in
      let far = g.far in
      (record { pre = g.pre; e = g.e; post = g.post; whole = g.whole; far = omega (arith, far, le); gave = g.gave; new = g.new }, sooner low high ns le all.1)

  each_by : (done events : List Event) (ns : List Naming) → right.history ≡ done ++ events → AreGiven run m end fits sound right done events ns → AllByRecursion (Given (length done)) ns
  each_by done [] ns all are = subst (AllByRecursion (Given (length done))) (sym are) tt
  each_by done (e ∷ events) ns all (inl (same, more)) =
      let long = length-append done (e ∷ []) in
      sooner (length done) (length (done ++ e ∷ [])) ns (omega (arith, long)) (each_by (done ++ e ∷ []) events ns (all ∙ sym (append_assoc done (e ∷ []) events)) more)
  each_by done (e ∷ events) ns all (inr (x, later, is, gave, new, more)) =
      let long = length-append done (e ∷ []) in
      subst (AllByRecursion (Given (length done))) (sym is) (
        record { pre = done; e = e; post = events; whole = all; far = omega arith; gave = gave; new = new },
        sooner (length done) (length (done ++ e ∷ [])) later (omega (arith, long)) (each_by (done ++ e ∷ []) events later (all ∙ sym (append_assoc done (e ∷ []) events)) more),
      )

  -- ---- one naming

  module _ {limit : ℕ} (x : Naming) (g : Given limit x) where
    abbrev C : Call_at g.pre g.e
    C = g.gave.call

    abbrev Names : List Name
    Names = names_then run m end fits sound right g.pre

    differs : names_now g.e.after ≡ Names → ⊥
    differs same = by g.gave.gives
      where
        by : NewName g.e.ask.call (moment_after m g.pre).state.table Names x.number x.name → ⊥
        by (made asked is free) = names_differ Names x.number x.name free (sym g.new ∙ same)
        by (moved holder h asked held is less free) = names_differ Names x.number x.name free (sym g.new ∙ same)

    opened : (asked : g.e.ask.call ≡ MakeContainer x.name) → C.t.statement ≡ Open x.name
    opened asked = subst (MayAsk C.line.its.line.kept C.t.statement) asked C.asks

    renamed : (holder : ℕ) (asked : g.e.ask.call ≡ Move holder x.name) → (old : Name) × (C.t.statement ≡ Rename old x.name)
    renamed holder asked = subst (MayAsk C.line.its.line.kept C.t.statement) asked C.asks

    new_there : x.number ≡ length Names → names_now g.e.after ≡ with_name Names (length Names) x.name
    new_there is = g.new ∙ ap (λ k. with_name Names k x.name) is

    may_name : MayName Names x
    may_name = by g.gave.gives
      where
        by : NewName g.e.ask.call (moment_after m g.pre).state.table Names x.number x.name → MayName Names x
        by (made asked is free) =
            let ends = opens_so run m end fits sound right g.pre g.e g.post g.whole C x.name (opened asked) asked differs (new_there is) in
            may_make (ap (λ (t : Told). t.statement) g.gave.by ∙ opened asked) (subst (λ (t : Told). ((id : ℕ) × (t.outcome ≡ line.Opened id)) ⊎ (t.outcome ≡ line.Refused Held) ⊎ (t.outcome ≡ line.Refused IdsSpent) ⊎ BrokeOff t.outcome) (sym g.gave.by) ends) is free
        by (moved holder h asked held is less free) =
            let r = renamed holder asked in
            let ends = ends_so run m end fits sound right g.pre g.e g.post g.whole C r.0 x.name r.1 differs holder h asked held in
            may_move r.0 (ap (λ (t : Told). t.statement) g.gave.by ∙ r.1) (subst (λ (t : Told). (t.outcome ≡ line.Renamed) ⊎ BrokeOff t.outcome) (sym g.gave.by) ends) less free

    its_number : container run m end fits sound right x.by ≡ x.number
    its_number = ap (container run m end fits sound right) g.gave.by ∙ by g.gave.gives
      where
        by : NewName g.e.ask.call (moment_after m g.pre).state.table Names x.number x.name → container run m end fits sound right C.t ≡ x.number
        by (made asked is free) = made_number run m end fits sound right g.pre g.e g.post g.whole C x.name (opened asked) asked differs (new_there is) ∙ sym is
        by (moved holder h asked held is less free) =
            let r = renamed holder asked in
            of_number run m end fits sound right g.pre g.e g.post g.whole C r.0 x.name r.1 differs holder h asked held ∙ sym is

  -- ---- two namings

  one_line : (s t : Told) → IsLine run s → IsLine run t → s.place ≡ t.place → s ≡ t
  one_line s t is_s is_t same = same_place 0 (told run) s t (beside_rise 0 (phased 0 run.script.phases) run.lines) (among (told run) s is_s) (among (told run) t is_t) same

  module _ {limit far : ℕ} (x y : Naming) (g : Given limit x) (h : Given far y) (less : length g.pre < length h.pre) where
    abbrev First : Call_at g.pre g.e
    First = g.gave.call

    abbrev Second : Call_at h.pre h.e
    Second = h.gave.call

    -- of one line the later naming's call would lie behind the first one's in its part
    record InOne : Type 0 where
      pub back : List Event
      pub is : First.later ≡ back ++ h.e ∷ Second.later
      pub own : h.e.caller ≡ First.line.its.number

    in_one : First.t ≡ Second.t → InOne
    in_one same =
        let p = First.line.its.line.part in
        let q = Second.line.its.line.part in
        let spans = sym First.line.placed ∙ ap (span_of run m end fits sound right) same ∙ Second.line.placed in
        let numbers : First.line.its.number ≡ Second.line.its.number = ap (λ (z : Span). z.number) spans in
        let froms : length p.earlier ≡ length q.earlier = ap (λ (z : Span). z.from) spans in
        let tos : length p.earlier + length p.mine ≡ length q.earlier + length q.mine = ap (λ (z : Span). z.to) spans in
        let begins = same_parts p.earlier q.earlier (p.mine ++ p.later) (q.mine ++ q.later) froms (sym p.split ∙ q.split) in
        let mines = same_parts p.mine q.mine p.later q.later (omega (arith, froms, tos)) begins.1 in
        let one = ap length First.before_is ∙ length-append p.earlier First.first in
        let two = ap length Second.before_is ∙ length-append q.earlier Second.first in
        let b = behind_it p.mine First.first First.later Second.first Second.later g.e h.e First.in_it (mines.0 ∙ Second.in_it) (omega (arith, one, two, froms, less)) in
        record { back = b.0; is = b.1; own = Second.own ∙ sym numbers }

    two_statements : (name old other : Name) → Open name ≡ Rename old other → ⊥
    two_statements name old other is = cc

    not_in_one : First.t ≡ Second.t → ⊥
    not_in_one same = by g.gave.gives h.gave.gives
      where
        o : InOne
        o = in_one same

        statements : First.t.statement ≡ Second.t.statement
        statements = ap (λ (t : Told). t.statement) same

        by : NewName g.e.ask.call (moment_after m g.pre).state.table (names_then run m end fits sound right g.pre) x.number x.name → NewName h.e.ask.call (moment_after m h.pre).state.table (names_then run m end fits sound right h.pre) y.number y.name → ⊥
        by (made asked is free) (made asks also unused) =
            opens_alone run m end fits sound right g.pre g.e g.post g.whole First x.name (opened x g asked) asked (differs x g) (new_there x g is) o.back h.e Second.later o.is o.own y.name asks
        by (made asked is free) (moved holder k asks held also within unused) = (let r = renamed y h holder asks in two_statements x.name r.0 y.name (sym (opened x g asked) ∙ statements ∙ r.1))
        by (moved holder k asked held is within free) (made asks also unused) = (let r = renamed x g holder asked in two_statements y.name r.0 x.name (sym (opened y h asks) ∙ sym statements ∙ r.1))
        by (moved holder k asked held is within free) (moved holder2 k2 asks held2 also within2 unused) =
            let r = renamed x g holder asked in
            moves_alone run m end fits sound right g.pre g.e g.post g.whole First r.0 x.name r.1 (differs x g) holder k asked held o.back h.e Second.later o.is o.own (subst IsMark (sym asks) tt)

    other_line : x.by.place ≡ y.by.place → ⊥
    other_line same =
        not_in_one (one_line First.t Second.t First.is_line Second.is_line (ap (λ (t : Told). t.place) (sym g.gave.by) ∙ same ∙ ap (λ (t : Told). t.place) h.gave.by))

  -- ---- all of them

  module _ (free : run.in_order ≡ false) where
    not_so : (b : Bool) → (b ≡ true → ⊥) → b ≡ false
    not_so true no_so = absurd (no_so refl)
    not_so false no_so = refl

    its_line : {limit : ℕ} (x : Naming) → Given limit x → IsLine run x.by
    its_line x g = subst (IsLine run) (sym g.gave.by) g.gave.call.is_line

    abbrev InOrder : Naming → Naming → Type 0
    InOrder x y = (surely_before run y.by x.by ≡ false) × (y.by.place ≡ x.by.place → ⊥)

    one_after : {limit far : ℕ} (x y : Naming) (g : Given limit x) (h : Given far y) → length g.pre < length h.pre → InOrder x y
    one_after x y g h less = (
      not_so (surely_before run y.by x.by) (λ sooner_one.
          let a = gave_at run m end fits sound right g.pre g.e x (length g.pre + 1) (omega arith) g.gave in
          let b = gave_at run m end fits sound right h.pre h.e y (length h.pre + 1) (omega arith) h.gave in
          let apart = spans_apart run m end fits sound right free y.by x.by (its_line y h) (its_line x g) sooner_one in
          let from = a.from in
          let a_high = a.below in
          let b_low = b.above in
          let to = b.to in
          omega (arith, apart, from, a_high, b_low, to, less)),
      λ same. other_line x y g h less (sym same),
    )

    all_after : {limit : ℕ} (x : Naming) (g : Given limit x) (ns : List Naming) → AllByRecursion (Given (length g.pre + 1)) ns → AllByRecursion (λ (y : Naming). InOrder x y) ns
    all_after x g [] all = tt
    all_after x g (y ∷ ns) all = (let far = all.0.far in one_after x y g all.0 (omega (arith, far)), all_after x g ns all.1)

    -- they may follow each other so
    pub may_be : (done events : List Event) (ns : List Naming) → right.history ≡ done ++ events → AreGiven run m end fits sound right done events ns → MayBeNamed run (names_then run m end fits sound right done) ns
    may_be done [] ns all are = subst (MayBeNamed run (names_then run m end fits sound right done)) (sym are) tt
    may_be done (e ∷ events) ns all (inl (same, more)) =
        subst (λ zs. MayBeNamed run zs ns) (ap (λ (z : Moment). names_now z.state) (moment-append m done (e ∷ [])) ∙ same) (may_be (done ++ e ∷ []) events ns (all ∙ sym (append_assoc done (e ∷ []) events)) more)
    may_be done (e ∷ events) ns all (inr (x, later, is, gave, new, more)) =
        let g : Given (length done) x = record { pre = done; e = e; post = events; whole = all; far = omega arith; gave = gave; new = new } in
        let on : right.history ≡ (done ++ e ∷ []) ++ events = all ∙ sym (append_assoc done (e ∷ []) events) in
        let long = length-append done (e ∷ []) in
        let behind : AllByRecursion (Given (length done + 1)) later = sooner (length done + 1) (length (done ++ e ∷ [])) later (omega (arith, long)) (each_by (done ++ e ∷ []) events later on more) in
        let rest : MayBeNamed run (named (names_then run m end fits sound right done) (x ∷ [])) later = subst (λ zs. MayBeNamed run zs later) (ap (λ (z : Moment). names_now z.state) (moment-append m done (e ∷ [])) ∙ new) (may_be (done ++ e ∷ []) events later on more) in
        subst (MayBeNamed run (names_then run m end fits sound right done)) (sym is) (its_line x g, may_name x g, all_after x g later behind, rest)

    -- each is of the container of which its line speaks
    found_by : (limit : ℕ) (ns : List Naming) → AllByRecursion (Given limit) ns → AllByRecursion (λ (x : Naming). container run m end fits sound right x.by ≡ x.number) ns
    found_by limit [] all = tt
    found_by limit (x ∷ ns) all = (its_number x all.0, found_by limit ns all.1)

    pub all_found : All (λ (x : Naming). container run m end fits sound right x.by ≡ x.number) (namings run m end fits sound right)
    all_found = All-from_recursion (λ (x : Naming). container run m end fits sound right x.by ≡ x.number) (namings run m end fits sound right) (found_by 0 (namings run m end fits sound right) (each_by [] right.history (namings run m end fits sound right) refl (are_given run m end fits sound right)))

    pub all_may_be : MayBeNamed run (names_now m.state) (namings run m end fits sound right)
    all_may_be = may_be [] right.history (namings run m end fits sound right) refl (are_given run m end fits sound right)

    -- ---- a line that tells of a rename

    -- of two lines in whose parts the one call is, each is the other
    same_line : (s t : Told) (r q : Option Told) (w v : Writing) (l : Placed run m end fits sound right r w s) (k : Placed run m end fits sound right q v t) → IsLine run s → IsLine run t → (pre : List Event) (e : Event) (post : List Event) → right.history ≡ pre ++ e ∷ post → e.caller ≡ l.its.number → e.caller ≡ k.its.number
        → (span_of run m end fits sound right s).from ≤ length pre → length pre < (span_of run m end fits sound right s).to → (span_of run m end fits sound right t).from ≤ length pre → length pre < (span_of run m end fits sound right t).to → s ≡ t
    same_line s t r q w v l k is_s is_t pre e post whole own_s own_t from_s to_s from_t to_t =
        one_line s t is_s is_t (by (cases_lt s.place t.place))
      where
        made_some : made_by l.role.number right.history ≡ [] → ⊥
        made_some none = none_there l.role.number right.history pre e post whole none (own_s ∙ sym l.role_number)

        actors : s.actor ≡ t.actor
        actors = one_place right.history right.calls.roles s.actor t.actor l.role k.role l.role_there k.role_there (l.role_number ∙ sym own_s ∙ own_t ∙ sym k.role_number) made_some right.calls.apart

        by : (s.place < t.place) ⊎ (t.place ≤ s.place) → s.place ≡ t.place
        by (inl less) = (let apart = by_actor run m end fits sound right s t is_s is_t less actors in absurd (omega (arith, apart, to_s, from_t)))
        by (inr le) = elim (cases_lt t.place s.place) as (λ _. s.place ≡ t.place) [
          | inl less ↦ let apart = by_actor run m end fits sound right t s is_t is_s less (sym actors) in absurd (omega (arith, apart, to_t, from_s))
          | inr also ↦ omega (arith, le, also)
        ]

    -- one of the namings is by it
    pub renamed_by : (t : Told) (old to : Name) → IsLine run t → t.statement ≡ Rename old to → t.outcome ≡ line.Renamed → Any (λ (x : Naming). x.by ≡ t) (namings run m end fits sound right)
    renamed_by t old to is_line asks told = by two.of_later
      where
        l : Placed run m end fits sound right (reader_at run t) (writing_at run t) t
        l = placed_here run m end fits sound right t is_line

        P : List Event
        P = l.its.line.part.earlier

        s : IsShown m sound l.its.number right.history right.calls.blocks (whole_history run m end fits sound right) l.its.line.kept l.its.line.file l.its.line.writer t P l.its.line.part.mine
        s = l.its.line.shown

        z : MovedBy m l.its.number P s.front (length run.after.rooms) l.its.line.file s.new s.new_writer old to (room_of m l.its.number (record { before = P; events = s.front }) (length run.after.rooms) l.its.line.file s.new s.new_writer t.statement t.outcome s.shows)
        z = moved_by m l.its.number P s.front (length run.after.rooms) l.its.line.file s.new s.new_writer old to t.statement t.outcome asks told s.shows

        pre : List Event
        pre = P ++ z.until

        post : List Event
        post = z.later ++ (s.rest ++ l.its.line.part.later)

        mine : l.its.line.part.mine ≡ z.until ++ z.changing ∷ (z.later ++ s.rest)
        mine = s.split ∙ ap (λ es. es ++ s.rest) z.split ∙ append_assoc z.until (z.changing ∷ z.later) s.rest

        whole : right.history ≡ pre ++ z.changing ∷ post
        whole =
            l.its.line.part.split ∙ ap (λ es. P ++ (es ++ l.its.line.part.later)) (s.split ∙ ap (λ es. es ++ s.rest) z.split)
            ∙ ap (λ es. P ++ es) (append_assoc (z.until ++ z.changing ∷ z.later) s.rest l.its.line.part.later ∙ append_assoc z.until (z.changing ∷ z.later) (s.rest ++ l.its.line.part.later)) ∙ sym (append_assoc P z.until (z.changing ∷ post))

        lawful : IsLawful m.state (pre ++ z.changing ∷ post)
        lawful = subst (IsLawful m.state) whole right.leads.lawful

        now : IsSoundAt (moment_after m pre)
        now = sound_after m pre (legal_first m pre (z.changing ∷ post) lawful) sound

        next : IsSoundAt (next_moment (moment_after m pre) z.changing)
        next = sound_next (moment_after m pre) z.changing post (legal_rest m pre (z.changing ∷ post) lawful) now

        -- no container had the name, and one has it then
        differ : names_now z.changing.after ≡ names_then run m end fits sound right pre → ⊥
        differ same =
            let r = z.named next.shape.tree next.shape.told in
            let there : Among z.its_name (names_now z.changing.after) = subst (Among z.its_name) (sym (ap names_of next.shape.told)) (room_of_name next.shape.tree.rooms z.its_name _ r.room r.has_room r.named) in
            let f = name_of_room now.shape.tree.rooms z.its_name (subst (Among z.its_name) (same ∙ ap names_of now.shape.told) there) in
            z.free now.shape.tree now.shape.told f.number f.room f.there f.is

        two : InTwo run m end fits sound right [] pre (z.changing ∷ post) (namings run m end fits sound right)
        two = given_in_two run m end fits sound right [] pre (z.changing ∷ post) (namings run m end fits sound right) (subst (λ es. AreGiven run m end fits sound right [] es (namings run m end fits sound right)) whole (are_given run m end fits sound right))

        in_front : (x : Naming) (xs ys : List Naming) → Among x (xs ++ x ∷ ys)
        in_front x [] ys = inl refl
        in_front x (y ∷ xs) ys = inr (in_front x xs ys)

        by : AreGiven run m end fits sound right pre (z.changing ∷ post) two.later → Any (λ (x : Naming). x.by ≡ t) (namings run m end fits sound right)
        by (inl (same, more)) = absurd (differ same)
        by (inr (x, more, is, gave, new, rest)) =
            let a = gave_at run m end fits sound right pre z.changing x (length pre + 1) (omega arith) gave in
            let from = a.from in
            let to = a.to in
            let above = a.above in
            let below = a.below in
            let its_from : (span_of run m end fits sound right gave.call.t).from ≤ length pre = subst (λ u. (span_of run m end fits sound right u).from ≤ length pre) gave.by (omega (arith, from, below)) in
            let its_to : length pre < (span_of run m end fits sound right gave.call.t).to = subst (λ u. length pre < (span_of run m end fits sound right u).to) gave.by (omega (arith, to, above)) in
            let my_from = ap (λ (q : Span). q.from) l.placed in
            let my_to = ap (λ (q : Span). q.to) l.placed in
            let long = length-append P z.until in
            let many = ap length mine ∙ length-append z.until (z.changing ∷ (z.later ++ s.rest)) in
            let one : gave.call.t ≡ t = same_line gave.call.t t gave.call.reader (reader_at run t) gave.call.writing (writing_at run t) gave.call.line l gave.call.is_line is_line pre z.changing post whole gave.call.own z.changes.own its_from its_to (omega (arith, my_from, long)) (omega (arith, my_to, long, many)) in
            found_any (λ (n : Naming). n.by ≡ t) (namings run m end fits sound right) x (subst (Among x) (sym (two.is ∙ ap (λ ns. two.first ++ ns) is)) (in_front x two.first more)) (gave.by ∙ one)
