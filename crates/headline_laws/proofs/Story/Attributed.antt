-- Each call of the history that makes a container, writes, truncates or renames is one of an actor, made in the part of one of its lines, whose statement may ask it.
use Rattle.std.proofs.Common.{◌≡◌, ◌≤◌, ◌⊎◌, ◌+◌, ◌||◌, inl, inr, ℕ, zero, suc, Bool, true, false, List, [], ◌∷◌, ◌++◌, length, Option, Some, None, refl, sym, ap, ◌∙◌, subst, arith, append_assoc, length-append, nat_eq, nat_lt, if◌then◌else◌}
use Rattle.std.specs.Prelude.{slice_get}
use Rattle.std.specs.List.{Any}
use Rattle.std.proofs.lemmas.Bool.Decides.{nat_tests}
use Rattle.std.proofs.lemmas.Option.{same_Some}
use Rattle.turn_object.specs.Callers.{IsOwn, made_by}
use Rattle.turn_object.specs.Front.{KeepsIn}
use Rattle.mount_model.specs.MakesCalls.{EachPlays, Role, callers}
use Rattle.mount_model.specs.Performers.{left_of, told_at, told_by_each}
use Rattle.mount_model.specs.Plays.{PlaysAll}
use Rattle.mount_model.specs.Process.{asks, ends, pauses, shares, tells}
use Rattle.mount_model.proofs.Stories.Facts.{entries_both, entries_first}
use Rattle.mount_model.specs.declared.call.Ask.{Ask}
use Rattle.mount_model.specs.declared.call.Call.{Call}
use Rattle.mount_model.specs.declared.reply.Reply.{Reply}
use Rattle.mount_model.specs.History.{Event}
use Rattle.mount_model.specs.State.{State}
use Rattle.reader_laws.specs.Moments.{Dropping, IsSoundAt, Moment}
use Rattle.reader_laws.proofs.Gathered.Facts.{all_at, among, any_found, is_among}
use Rattle.plain_file.proofs.Facts.{Among}
use Rattle.script_lang.specs.Ranges.{FitsScript}
use Rattle.script_lang.specs.declared.line.Line.{Line}
use Rattle.script_lang.specs.declared.line.Outcome.TheVariants as outcome
use Rattle.script_lang.specs.declared.script.ActorDecl.{ActorDecl}
use Rattle.script_lang.specs.declared.script.Phase.{Phase}
use Rattle.actor_core.specs.declared.kept.Kept.{Kept}
use Rattle.actor_core.specs.Endings.{Ending}
use Rattle.actor_core.specs.Progress.{fresh}
use Rattle.actor_core.specs.Statements.{work_of}
use Rattle.actor_core.specs.Work.{Work}
use Rattle.run_core.specs.Cast.{cast_from, statements_in}
use Rattle.run_core.specs.Course.{course_of}
use Rattle.run_core.specs.Play.{IsRight}
use Rattle.run_core.specs.Written.{whose}
use Rattle.headline_laws.proofs.Plays.Facts.{Anyhow, ComesTo, GoesSo, IsQuiet, IsQuietly, MayAsk, Next, either_goes, statement_asks}
use Rattle.headline_laws.specs.OneFile.{OneFile}
use Rattle.headline_laws.specs.OneWriter.{OneWriter}
use Rattle.headline_laws.specs.Opening.{Stretch}
use Rattle.headline_laws.specs.Writing.{ShowsWriting}
use Rattle.headline.specs.Run.{IsLine, Run, Told, own, phased, surely_before, told}
use Rattle.headline.specs.Files.{reader_at, reader_next}
use Rattle.headline.specs.Writers.{host_of}
use Rattle.headline.specs.Changes.{Writing, none, writing_at, writing_next}
use Rattle.headline_laws.proofs.OrderlyLines.Answering.{among_filter, among_own, own_actor, own_rise}
use Rattle.headline_laws.proofs.OrderlyLines.Places.{Rise, among_later, beside_rise}
use Rattle.headline_laws.proofs.Statements.Hosts.{SameHost, comes_so, statement_host}
use Rattle.headline_laws.proofs.Statements.Known.{Known, known_next, known_waits, writer_step}
use Rattle.headline_laws.proofs.Story.Apart.{both_true, is_less, is_same, one_true}
use Rattle.headline_laws.proofs.Story.Lines.{AnyLine, HasRooms, ShownLine, chain_here, container, line_here, nothing_known, reads_in, whole_history}
use Rattle.headline_laws.proofs.Story.Parts.{LinePart, phases_apart}
use Rattle.headline_laws.proofs.Story.Quiet.{AllQuiet, AreQuiet, all_quiet, through_quiet}
use Rattle.headline_laws.proofs.Story.Shown.{ShownEach}

-- ---- an event among others

pub head_of : {X : Type 0} (a b : X) (xs ys : List X) → a ∷ xs ≡ b ∷ ys → a ≡ b
head_of a b xs ys same = cc

pub tail_of : {X : Type 0} (a b : X) (xs ys : List X) → a ∷ xs ≡ b ∷ ys → xs ≡ ys
tail_of a b xs ys same = cc

-- one of the first events, or one of the others
pub either_part : {X : Type 0} (first rest pre : List X) (x : X) (post : List X) → first ++ rest ≡ pre ++ x ∷ post → ((u : List X) × (first ≡ pre ++ x ∷ u) × (post ≡ u ++ rest)) ⊎ ((u : List X) × (pre ≡ first ++ u) × (rest ≡ u ++ x ∷ post))
either_part [] rest pre x post is = inr (pre, refl, is)
either_part (y ∷ first) rest [] x post is = inl (first, ap (λ z. z ∷ first) (head_of y x (first ++ rest) post is), sym (tail_of y x (first ++ rest) post is))
either_part {X} (y ∷ first) rest (z ∷ pre) x post is = elim (either_part first rest pre x post (tail_of y z (first ++ rest) (pre ++ x ∷ post) is)) as (λ _. ((u : List X) × (y ∷ first ≡ (z ∷ pre) ++ x ∷ u) × (post ≡ u ++ rest)) ⊎ ((u : List X) × (z ∷ pre ≡ (y ∷ first) ++ u) × (rest ≡ u ++ x ∷ post))) [
  | inl (u, front, later) ↦ inl (u, ap (λ zs. y ∷ zs) front ∙ ap (λ w. w ∷ (pre ++ x ∷ u)) (head_of y z (first ++ rest) (pre ++ x ∷ post) is), later)
  | inr (u, front, later) ↦ inr (u, ap (λ zs. z ∷ zs) front ∙ ap (λ w. w ∷ (first ++ u)) (sym (head_of y z (first ++ rest) (pre ++ x ∷ post) is)), later)
]

-- a caller that makes no call has none
none_of : (n : ℕ) (pre : List Event) (e : Event) (post : List Event) → made_by n (pre ++ e ∷ post) ≡ [] → e.caller ≡ n → ⊥
none_of n pre e post calls its = not_none (made_by n pre) (sym (ap (λ z. made_by n pre ++ z) (entries_first n e post its)) ∙ sym (entries_both n pre (e ∷ post)) ∙ calls)
  where
    not_none : (xs : List Event) → xs ++ (e ∷ made_by n post) ≡ [] → ⊥
    not_none [] is = absurd (cc)
    not_none (x ∷ xs) is = absurd (cc)

pub none_there : (n : ℕ) (events pre : List Event) (e : Event) (post : List Event) → events ≡ pre ++ e ∷ post → made_by n events ≡ [] → e.caller ≡ n → ⊥
none_there n events pre e post is calls its = none_of n pre e post (ap (made_by n) (sym is) ∙ calls) its

-- ---- the actor's own calls in a part

module _ (n : ℕ) (these : Call → Type 0) (good : Ending → Type 0) where
  pub came_asks : (work : Work) (mine : List Event) (spent : List (List Event)) (e : Ending) → GoesSo these good work → ComesTo n work mine spent e → (pre : List Event) (ev : Event) (post : List Event) → mine ≡ pre ++ ev ∷ post → ev.caller ≡ n → these ev.ask.call
  came_asks ends mine spent e goes comes pre ev post is its = absurd goes
  came_asks (pauses work) mine spent e goes comes pre ev post is its = absurd goes
  came_asks (tells end work) mine spent e goes comes pre ev post is its = absurd (none_there n mine pre ev post is (ap (made_by n) comes.0) its)
  came_asks (asks question k) mine spent e goes m pre ev post is its =
      elim (either_part m.before (m.call ∷ m.after) pre ev post (sym m.all ∙ is)) as (λ _. these ev.ask.call) [
        | inl (u, front, later) ↦ absurd (none_there n m.before pre ev u front m.none_before its)
        | inr (u, front, later) ↦ first_or_later u later (λ v more. came_asks (k m.call.reply) m.after spent e (either_goes these good question.stop (k m.call.reply) (goes.1 m.call.reply)) m.goes_on v ev post more its)
      ]
    where
      first_or_later : (u : List Event) → m.call ∷ m.after ≡ u ++ ev ∷ post → ((v : List Event) → m.after ≡ v ++ ev ∷ post → these ev.ask.call) → these ev.ask.call
      first_or_later [] later rest = subst (λ (x : Event). these x.ask.call) (head_of m.call ev m.after post later) (subst (λ (q : Ask). these q.call) (sym m.asked) goes.0)
      first_or_later (y ∷ u) later rest = rest u (tail_of m.call y m.after (u ++ ev ∷ post) later)
  came_asks (shares programs k alone) mine spent e goes (inl w) pre ev post is its =
      elim (either_part w.before (w.during ++ w.after) pre ev post (sym w.all ∙ is)) as (λ _. these ev.ask.call) [
        | inl (u, front, later) ↦ absurd (none_there n w.before pre ev u front w.none_before its)
        | inr (u, front, later) ↦ elim (either_part w.during w.after u ev post later) as (λ _. these ev.ask.call) [
          | inl (v, middle, more) ↦ absurd (none_there n w.during u ev v middle w.none_during its)
          | inr (v, middle, more) ↦ came_asks (k w.results) w.after w.later e (goes.0 w.results) w.goes_on v ev post more its
        ]
      ]
  came_asks (shares programs k alone) mine spent e goes (inr comes) pre ev post is its = came_asks alone mine spent e goes.1 comes pre ev post is its

-- ---- who made a call

abbrev ItsRole : Type 0
ItsRole = Role Ask Reply State

-- the actor of a role
record ActorOf (phases : List Phase) (blocks : List (List Event)) (actors : List ActorDecl) (from place : ℕ) (role : ItsRole) : Type 0 where
  pub declared : ActorDecl
  pub there : slice_get actors place ≡ Some declared
  pub at : ℕ
  pub lines : List Line
  pub plays : PlaysAll role.number (course_of at phases declared) blocks role.workers lines ends

actor_of : (phases : List Phase) (blocks : List (List Event)) (told : List ℕ) (lines : List Line) (from : ℕ) (actors : List ActorDecl) (roles : List ItsRole) (place : ℕ) (role : ItsRole) → EachPlays (left_of (cast_from from phases actors)) blocks roles (told_by_each from actors told lines) → slice_get roles place ≡ Some role
    → ActorOf phases blocks actors from place role
actor_of phases blocks told lines from [] [] place role each here = absurd (cc)
actor_of phases blocks told lines from [] (r ∷ roles) place role each here = absurd each
actor_of phases blocks told lines from (d ∷ actors) [] place role each here = absurd (cc)
actor_of phases blocks told lines from (d ∷ actors) (r ∷ roles) zero role each here =
    let same : r ≡ role = same_Some r role here in
    record { declared = d; there = refl; at = from; lines = told_at from told lines; plays = subst (λ (x : ItsRole). PlaysAll x.number (course_of from phases d) blocks x.workers (told_at from told lines) ends) same each.0 }
actor_of phases blocks told lines from (d ∷ actors) (r ∷ roles) (suc place) role each here =
    let a = actor_of phases blocks told lines (from + 1) actors roles place role each.1 here in
    record { declared = a.declared; there = a.there; at = a.at; lines = a.lines; plays = a.plays }

-- whose calls they are
record WhoseCalls (history : List Event) (roles : List ItsRole) (calls : List Event) : Type 0 where
  pub place : ℕ
  pub role : ItsRole
  pub there : slice_get roles place ≡ Some role
  pub are : Among calls role.workers ⊎ (calls ≡ made_by role.number history)

whose_calls : (history : List Event) (roles : List ItsRole) (calls : List Event) → Among calls (callers history roles) → WhoseCalls history roles calls
whose_calls history [] calls at = absurd at
whose_calls history (role ∷ roles) calls at = elim (in_either role.workers (made_by role.number history ∷ callers history roles) at) as (λ _. WhoseCalls history (role ∷ roles) calls) [
  | inl worker ↦ record { place = 0; role = role; there = refl; are = inl worker }
  | inr (inl same) ↦ record { place = 0; role = role; there = refl; are = inr same }
  | inr (inr later) ↦ let w = whose_calls history roles calls later in record { place = suc w.place; role = w.role; there = w.there; are = w.are }
]
  where
    in_either : (xs ys : List (List Event)) → Among calls (xs ++ ys) → Among calls xs ⊎ Among calls ys
    in_either [] ys there = inr there
    in_either (x ∷ xs) ys (inl same) = inl (inl same)
    in_either (x ∷ xs) ys (inr there) = elim (in_either xs ys there) as (λ _. Among calls (x ∷ xs) ⊎ Among calls ys) [
      | inl one ↦ inl (inr one)
      | inr other ↦ inr other
    ]

-- each call of a caller is one of its own
made_there : (n : ℕ) (pre : List Event) (e : Event) (post : List Event) → e.caller ≡ n → Among e (made_by n (pre ++ e ∷ post))
made_there n pre e post its = subst (Among e) (sym (entries_both n pre (e ∷ post) ∙ ap (λ z. made_by n pre ++ z) (entries_first n e post its))) (behind (made_by n pre))
  where
    behind : (xs : List Event) → Among e (xs ++ e ∷ made_by n post)
    behind [] = inl refl
    behind (x ∷ xs) = inr (behind xs)

pub own_of : (n : ℕ) (events : List Event) (e : Event) → Among e (made_by n events) → e.caller ≡ n
own_of n [] e at = absurd at
own_of n (x ∷ events) e at = by (nat_eq x.caller n) refl at (λ later. own_of n events e later)
  where
    by : (b : Bool) → nat_eq x.caller n ≡ b → Among e (if b then x ∷ made_by n events else made_by n events) → (Among e (made_by n events) → e.caller ≡ n) → e.caller ≡ n
    by true is (inl same) rest = let its : x.caller ≡ n = grind (arith, nat_tests) in ap (λ (z : Event). z.caller) same ∙ its
    by true is (inr later) rest = rest later
    by false is later rest = rest later

quiet_at : (calls : List Event) (e : Event) → AreQuiet calls → Among e calls → IsQuietly e.ask
quiet_at [] e quiet at = absurd at
quiet_at (x ∷ calls) e quiet (inl same) = subst (λ (z : Event). IsQuietly z.ask) (sym same) quiet.0
quiet_at (x ∷ calls) e quiet (inr at) = quiet_at calls e quiet.1 at

quiet_among : (workers : List (List Event)) (calls : List Event) → AllQuiet workers → Among calls workers → AreQuiet calls
quiet_among [] calls quiet at = absurd at
quiet_among (x ∷ workers) calls quiet (inl same) = subst AreQuiet (sym same) quiet.0
quiet_among (x ∷ workers) calls quiet (inr at) = quiet_among workers calls quiet.1 at

-- a call that isn't quiet is an actor's own
pub record OwnCall (run : Run) (start end : State) (right : IsRight run.script start run.lines end) (e : Event) : Type 0 where
  pub place : ℕ
  pub declared : ActorDecl
  pub there : slice_get run.script.actors place ≡ Some declared
  pub role : ItsRole
  pub role_there : slice_get right.calls.roles place ≡ Some role
  pub own : e.caller ≡ role.number

pub own_call : (run : Run) (start end : State) (right : IsRight run.script start run.lines end) (pre : List Event) (e : Event) (post : List Event) → right.history ≡ pre ++ e ∷ post → (IsQuiet e.ask.call → ⊥) → OwnCall run start end right e
own_call run start end right pre e post is loud =
    let history = right.history in
    let roles = right.calls.roles in
    let at : Among e history = subst (Among e) (sym is) (there pre) in
    let anybody = all_at (λ (x : Event). Any (λ (calls : List Event). IsOwn calls x.caller) (callers history roles)) history e right.calls.nobody_else at in
    let f = any_found (λ (calls : List Event). IsOwn calls e.caller) (callers history roles) anybody in
    let w = whose_calls history roles f.0 f.1 in
    let a = actor_of run.script.phases right.calls.blocks (whose (statements_in run.script.phases)) run.lines 0 run.script.actors roles w.place w.role right.calls.plays w.there in
    elim w.are as (λ _. OwnCall run start end right e) [
      | inl worker ↦
          let quiet = quiet_among w.role.workers f.0 (all_quiet w.role.number (course_of a.at run.script.phases a.declared) right.calls.blocks w.role.workers a.lines (through_quiet a.at run.script.phases (fresh a.declared.host a.declared.cap)) a.plays) worker in
          let keeps : KeepsIn history f.0 = all_at (KeepsIn history) (callers history roles) f.0 right.calls.whole f.1 in
          absurd (loud (quiet_at f.0 e quiet (its_calls f.0 keeps f.2)))
      | inr mine ↦ record { place = w.place; declared = a.declared; there = a.there; role = w.role; role_there = w.there; own = its_number w.role.number f.0 mine f.2 }
    ]
  where
    there : (xs : List Event) → Among e (xs ++ e ∷ post)
    there [] = inl refl
    there (x ∷ xs) = inr (there xs)

    its_calls : (calls : List Event) → KeepsIn right.history calls → IsOwn calls e.caller → Among e calls
    its_calls [] keeps its = absurd its
    its_calls (c ∷ calls) keeps its = subst (Among e) keeps (subst (λ es. Among e (made_by c.caller es)) (sym is) (made_there c.caller pre e post (sym its)))

    its_number : (number : ℕ) (calls : List Event) → calls ≡ made_by number right.history → IsOwn calls e.caller → e.caller ≡ number
    its_number number [] mine its = absurd its
    its_number number (c ∷ calls) mine its = sym its ∙ own_of number right.history c (subst (Among c) mine (inl refl))

-- ---- in the part of which line

-- a line of these, which opened this writer
pub record OpenedBy (Good : Told → Type 0) (x : OneWriter) : Type 0 where
  pub line : Told
  pub good : Good line
  pub says : line.outcome ≡ outcome.Opened x.dropping.writer

-- behind a line that is one of these the writer was opened by one, where it was before
opened_next : (Good : Told → Type 0) (m : Moment) (n : ℕ) (stretch : Stretch) (t : Told) (old new : Option OneWriter) → Good t → ShowsWriting m n stretch old t.statement t.outcome new → ((x : OneWriter) → old ≡ Some x → OpenedBy Good x) → (x : OneWriter) → new ≡ Some x → OpenedBy Good x
opened_next Good m n stretch t old new good shows had x is = elim (writer_step m n stretch old t.statement t.outcome new shows) as (λ _. OpenedBy Good x) [
  | inl opens ↦
      let one : opens.it ≡ x = same_Some opens.it x (sym opens.has ∙ is) in
      record { line = t; good = good; says = opens.says ∙ ap (λ k. outcome.Opened k) (opens.its_id ∙ ap (λ (y : OneWriter). y.dropping.writer) one) }
  | inr keeps ↦
      let k = keeps.same x is in
      let o = had k.0 k.1 in
      record { line = o.line; good = o.good; says = o.says ∙ ap (λ (d : Dropping). outcome.Opened d.writer) (sym k.2) }
]

module _ (m : Moment) (sound : IsSoundAt m) (n : ℕ) (history : List Event) (blocks : List (List Event)) (whole : Next m [] history) (nothing : ℕ) where
  -- the part of a line ends by there
  pub record EndsBy (of : Told → ℕ) (q : Told) (limit : ℕ) : Type 0 where
    pub reader : Option Told
    pub writing : Writing
    pub line : ShownLine m sound n history blocks whole nothing of reader writing q
    pub ends : length line.part.earlier + length line.part.mine ≤ limit

  -- the event is in the part of this line
  pub record InLine (Good : Told → Type 0) (of : Told → ℕ) (pre : List Event) (e : Event) (ts : List Told) : Type 0 where
    pub t : Told
    pub at : Among t ts
    pub reader : Option Told
    pub writing : Writing
    pub line : ShownLine m sound n history blocks whole nothing of reader writing t
    pub first : List Event
    pub later : List Event
    pub in_it : line.part.mine ≡ first ++ e ∷ later
    pub before_is : pre ≡ line.part.earlier ++ first
    pub opened : (x : OneWriter) → line.writer ≡ Some x → OpenedBy Good x
    -- the parts of the lines before it end before it
    pub sooner : (q : Told) → Among q ts → EndsBy of q (length line.part.earlier) ⊎ (t.place ≤ q.place)

  at_or_behind : (A : Told → Type 0) (place : ℕ) (t : Told) (ts : List Told) → Rise place (t ∷ ts) → (q : Told) → Among q (t ∷ ts) → A q ⊎ (t.place ≤ q.place)
  at_or_behind A place t ts rise q (inl same) = let is : q.place ≡ t.place = ap (λ (x : Told). x.place) same in inr (omega (arith, is))
  at_or_behind A place t ts rise q (inr at) = let far : t.place + 1 ≤ q.place = among_later (t.place + 1) ts q rise.1 at in inr (omega (arith, far))

  find_line : (Good : Told → Type 0) (of : Told → ℕ) (sofar : List Event) (kept : Kept) (file : Option OneFile) (writer : Option OneWriter) (ts : List Told) (r : Option Told) (w : Writing) (each : ShownEach m sound n history blocks whole sofar kept file writer ts) → HasRooms m sound n history blocks whole nothing of sofar kept file writer ts each → Known of n sofar r w file writer
      → ((t : Told) → Among t ts → Good t) → ((x : OneWriter) → writer ≡ Some x → OpenedBy Good x)
      → (place : ℕ) → Rise place ts → (pre : List Event) (e : Event) (post : List Event) → history ≡ pre ++ e ∷ post → e.caller ≡ n → length sofar ≤ length pre → (f : InLine Good of pre e ts) × (length sofar ≤ length f.line.part.earlier) × (f.line.kept.host ≡ kept.host)
  find_line Good of sofar kept file writer [] r w idle rooms_are k all had place rise pre e post is its far = elim (either_part sofar idle.idle pre e post (sym idle.is ∙ is)) as (λ _. (f : InLine Good of pre e []) × (length sofar ≤ length f.line.part.earlier) × (f.line.kept.host ≡ kept.host)) [
    | inl (u, front, later) ↦ let long = ap length front ∙ length-append pre (e ∷ u) in absurd (omega (arith, long, far))
    | inr (u, front, later) ↦ absurd (none_there n idle.idle u e post later idle.none its)
  ]
  find_line Good of sofar kept file writer (t ∷ ts) r w (p, says, idle, s, more) rooms_are k all had place rise pre e post is its far =
      let before : Known of n p.earlier r w file writer = subst (λ es. Known of n es r w file writer) (sym idle.is) (known_waits of n sofar idle.idle r w file writer k) in
      let after = known_next of m n p.earlier s.front s.rest r w t file s.new writer s.new_writer s.shows s.writes (reads_in of m n (record { before = p.earlier; events = s.front }) nothing file s.new s.new_writer t t.statement t.outcome s.shows rooms_are.0) before in
      let idles = ap length idle.is ∙ length-append sofar idle.idle in
      let idle_long : length sofar ≤ length p.earlier = omega (arith, idles) in
      elim (either_part p.earlier (p.mine ++ p.later) pre e post (sym p.split ∙ is)) as (λ _. (f : InLine Good of pre e (t ∷ ts)) × (length sofar ≤ length f.line.part.earlier) × (f.line.kept.host ≡ kept.host)) [
        | inl (u, front, later) ↦ elim (either_part sofar idle.idle pre e u (sym idle.is ∙ front)) as (λ _. (f : InLine Good of pre e (t ∷ ts)) × (length sofar ≤ length f.line.part.earlier) × (f.line.kept.host ≡ kept.host)) [
          | inl (v, early, rest) ↦ let long = ap length early ∙ length-append pre (e ∷ v) in absurd (omega (arith, long, far))
          | inr (v, early, rest) ↦ absurd (none_there n idle.idle v e u rest idle.none its)
        ]
        | inr (u, front, later) ↦ elim (either_part p.mine p.later u e post later) as (λ _. (f : InLine Good of pre e (t ∷ ts)) × (length sofar ≤ length f.line.part.earlier) × (f.line.kept.host ≡ kept.host)) [
          | inl (v, inside, rest) ↦ (
            record {
              t = t;
              at = inl refl;
              reader = r;
              writing = w;
              line = record { kept = kept; file = file; writer = writer; part = p; says = says; shown = s; known = before; here = rooms_are.0 };
              first = u;
              later = v;
              in_it = inside;
              before_is = front;
              opened = had;
              sooner = at_or_behind (λ q. EndsBy of q (length p.earlier)) place t ts rise;
            },
            idle_long,
            refl,
          )
          | inr (v, inside, rest) ↦
              let behind : pre ≡ (p.earlier ++ p.mine) ++ v = front ∙ ap (λ z. p.earlier ++ z) inside ∙ sym (append_assoc p.earlier p.mine v) in
              let long = ap length behind ∙ length-append (p.earlier ++ p.mine) v in
              let (f, far_on, hosts) = find_line Good of (p.earlier ++ p.mine) p.e.kept s.new s.new_writer ts (reader_next r t t.outcome) (writing_next w t.statement t.outcome) more rooms_are.1 (subst (λ es. Known of n (p.earlier ++ es) (reader_next r t t.outcome) (writing_next w t.statement t.outcome) s.new s.new_writer) (sym s.split) after)
              (λ q at. all q (inr at)) (opened_next Good m n (record { before = p.earlier; events = s.front }) t writer s.new_writer (all t (inl refl)) s.writes had) (t.place + 1) rise.1 pre e post is its (omega (arith, long)) in
              let both = length-append p.earlier p.mine in
              let here : EndsBy of t (length f.line.part.earlier) = record { reader = r; writing = w; line = record { kept = kept; file = file; writer = writer; part = p; says = says; shown = s; known = before; here = rooms_are.0 }; ends = omega (arith, far_on, both) } in
              (record { t = f.t; at = inr f.at; reader = f.reader; writing = f.writing; line = f.line; first = f.first; later = f.later; in_it = f.in_it; before_is = f.before_is; opened = f.opened; sooner = λ q at. first_or f.t q (length f.line.part.earlier) here at (f.sooner q) }, omega (arith, far_on, both, idle_long), hosts ∙ ap (λ (x : ℕ × ℕ). x.0) (comes_so n (SameHost kept) (work_of kept t.statement) p.mine p.spent p.e (statement_host kept t.statement) p.comes))
        ]
      ]
    where
      first_or : (found q : Told) (limit : ℕ) → EndsBy of t limit → Among q (t ∷ ts) → (Among q ts → EndsBy of q limit ⊎ (found.place ≤ q.place)) → EndsBy of q limit ⊎ (found.place ≤ q.place)
      first_or found q limit here (inl same) rest = inl (subst (λ x. EndsBy of x limit) (sym same) here)
      first_or found q limit here (inr later) rest = rest later

-- ---- the law of this file

module _ (run : Run) (m : Moment) (end : State) (fits : FitsScript run.script) (sound : IsSoundAt m) (right : IsRight run.script m.state run.lines end) where
  -- the part of a line ends by there
  pub record LineBy (q : Told) (limit : ℕ) : Type 0 where
    pub reader : Option Told
    pub writing : Writing
    pub line : AnyLine run m end fits sound right reader writing q
    pub ends : length line.line.part.earlier + length line.line.part.mine ≤ limit

  -- the call was made in the part of this line, by its actor, whose statement may ask it
  pub record Attributed (pre : List Event) (e : Event) : Type 0 where
    pub t : Told
    pub is_line : IsLine run t
    pub reader : Option Told
    pub writing : Writing
    pub line : AnyLine run m end fits sound right reader writing t
    pub first : List Event
    pub later : List Event
    pub in_it : line.line.part.mine ≡ first ++ e ∷ later
    pub before_is : pre ≡ line.line.part.earlier ++ first
    pub own : e.caller ≡ line.number
    pub role : ItsRole
    pub role_there : slice_get right.calls.roles t.actor ≡ Some role
    pub its_number : e.caller ≡ role.number
    pub opened : (x : OneWriter) → line.line.writer ≡ Some x → OpenedBy (IsLine run) x
    pub asks : MayAsk line.line.kept t.statement e.ask.call
    pub its_host : line.line.kept.host ≡ host_of (slice_get run.script.actors t.actor)
    -- the parts of the actor's lines before it end before it
    pub sooner : (q : Told) → IsLine run q → q.actor ≡ t.actor → LineBy q (length line.line.part.earlier) ⊎ (t.place ≤ q.place)

  own_line : (actor : ℕ) (ts : List Told) (t : Told) → Among t (own actor ts) → Among t ts
  own_line actor ts t at = among_filter (λ (s : Told). nat_eq s.actor actor) ts t at

  pub attributed : (pre : List Event) (e : Event) (post : List Event) → right.history ≡ pre ++ e ∷ post → (IsQuiet e.ask.call → ⊥) → Attributed pre e
  attributed pre e post is loud =
      let o = own_call run m.state end right pre e post is loud in
      let c = chain_here run m end fits sound right o.place o.declared o.there in
      let n = c.parts.number in
      let its : e.caller ≡ n = o.own ∙ c.parts.is_role o.role o.role_there in
      let (f, from, hosts) = find_line m sound n right.history right.calls.blocks (whole_history run m end fits sound right) (length run.after.rooms) (IsLine run) (container run m end fits sound right) [] c.parts.kept None None (own o.place (told run)) None none c.each c.rooms_are (nothing_known run m end fits sound right n)
      (λ q at. is_among (told run) q (own_line o.place (told run) q at)) (λ x is. absurd (cc)) 0 (own_rise o.place 0 (told run) (beside_rise 0 (phased 0 run.script.phases) run.lines)) pre e post is its (omega arith) in
      let at_place : f.t.actor ≡ o.place = own_actor o.place (told run) f.t f.at in
      record {
        t = f.t;
        is_line = is_among (told run) f.t (own_line o.place (told run) f.t f.at);
        reader = f.reader;
        writing = f.writing;
        line = record { number = n; line = f.line };
        first = f.first;
        later = f.later;
        in_it = f.in_it;
        before_is = f.before_is;
        own = its;
        role = o.role;
        role_there = ap (slice_get right.calls.roles) at_place ∙ o.role_there;
        its_number = o.own;
        opened = f.opened;
        asks = came_asks n (MayAsk f.line.kept f.t.statement) Anyhow (work_of f.line.kept f.t.statement) f.line.part.mine f.line.part.spent f.line.part.e (statement_asks f.line.kept f.t.statement) f.line.part.comes f.first e f.later f.in_it its;
        its_host = hosts ∙ c.parts.host ∙ ap (λ k. host_of (slice_get run.script.actors k)) (sym at_place);
        sooner = λ q is_line same. elim (f.sooner q (subst (λ k. Among q (own k (told run))) (same ∙ at_place) (among_own (told run) q (among (told run) q is_line)))) as (λ _. LineBy q (length f.line.part.earlier) ⊎ (f.t.place ≤ q.place)) [
          | inl l ↦ inl (record { reader = l.reader; writing = l.writing; line = record { number = n; line = l.line }; ends = l.ends })
          | inr far ↦ inr far
        ];
      }

  -- where a line surely ended before the line of the call began, its part ends before the call
  pub ends_before : (pre : List Event) (e : Event) (a : Attributed pre e) (t : Told) → IsLine run t → run.in_order ≡ false → surely_before run t a.t ≡ true → LineBy t (length pre)
  ends_before pre e a t is_line free sooner =
      let places = both_true (nat_lt t.place a.t.place) (run.in_order || nat_lt t.phase a.t.phase || nat_eq t.actor a.t.actor) sooner in
      let front = ap length a.before_is ∙ length-append a.line.line.part.earlier a.first in
      elim (one_true run.in_order (nat_lt t.phase a.t.phase) (nat_eq t.actor a.t.actor) free places.1) as (λ _. LineBy t (length pre)) [
        | inl phases ↦
            let l = line_here run m end fits sound right t is_line in
            let p : LinePart l.number right.history right.calls.blocks t = record { kept = l.line.kept; part = l.line.part; says = l.line.says } in
            let q : LinePart a.line.number right.history right.calls.blocks a.t = record { kept = a.line.line.kept; part = a.line.line.part; says = a.line.line.says } in
            let apart = phases_apart l.number a.line.number right.history right.calls.blocks t a.t p q (is_less t.phase a.t.phase phases) in
            record { reader = reader_at run t; writing = writing_at run t; line = l; ends = omega (arith, apart, front) }
        | inr same ↦ elim (a.sooner t is_line (is_same t.actor a.t.actor same)) as (λ _. LineBy t (length pre)) [
          | inr far ↦ let near = is_less t.place a.t.place places.0 in absurd (omega (arith, far, near))
          | inl l ↦ let ends = l.ends in record { reader = l.reader; writing = l.writing; line = l.line; ends = omega (arith, ends, front) }
        ]
      ]
