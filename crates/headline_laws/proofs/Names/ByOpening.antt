-- A naming by an opening: its line is one that may open a writer, and speaks of the container that it made.
use Rattle.std.proofs.Common.{◌≡◌, ◌⊎◌, ◌<◌, ◌+◌, ◌&&◌, inl, inr, ℕ, Bool, true, false, nat_eq, nat_lt, List, [], ◌∷◌, ◌++◌, length, Option, Some, None, refl, sym, ap, ◌∙◌, subst, arith, append_assoc, length-append, if◌then◌else◌}
use Rattle.std.specs.Prelude.{⊤}
use Rattle.std.proofs.lemmas.List.{append-nil, length-map}
use Rattle.std.proofs.lemmas.Bool.Decides.{nat_tests}
use Rattle.plain_file.proofs.Facts.{Among}
use Rattle.store_api.specs.declared.tree.Room.{Room}
use Rattle.store_api.specs.declared.tree.Tree.{Tree}
use Rattle.turn_object.specs.Callers.{made_by}
use Rattle.mount_model.proofs.Stories.Facts.{entries_both}
use Rattle.mount_model.specs.declared.call.Ask.{Ask}
use Rattle.mount_model.specs.declared.call.Call.{Call}
use Rattle.mount_model.specs.declared.call.Call.TheVariants.{Enter, Greet, MakeContainer, Move}
use Rattle.mount_model.specs.declared.reply.Reply.{Reply}
use Rattle.mount_model.specs.declared.reply.Reply.TheVariants as reply
use Rattle.mount_model.specs.History.{Event}
use Rattle.mount_model.specs.Paths.{Name}
use Rattle.mount_model.specs.State.{State}
use Rattle.mount_model.specs.Step.{Answers}
use Rattle.mount_sound.specs.Owed.{IsLawful}
use Rattle.reader_laws.specs.Moments.{IsSoundAt, Moment, moment_after, next_moment}
use Rattle.reader_laws.proofs.Gathered.Facts.{legal_first, legal_rest, moment-append, sound_after}
use Rattle.reader_laws.proofs.Gathered.Moments.Stepping.{sound_next}
use Rattle.script_lang.specs.Ranges.{FitsScript}
use Rattle.script_lang.specs.declared.line.Outcome.{Outcome}
use Rattle.script_lang.specs.declared.line.Outcome.TheVariants as line
use Rattle.script_lang.specs.declared.line.Why.{Why}
use Rattle.script_lang.specs.declared.line.Why.TheVariants.{AlreadyOpen, Held, IdsSpent}
use Rattle.script_lang.specs.declared.script.Statement.{Statement}
use Rattle.script_lang.specs.declared.script.Statement.TheVariants.{Open}
use Rattle.actor_core.specs.Statements.{work_of}
use Rattle.run_core.specs.Play.{IsRight}
use Rattle.headline_laws.specs.OneFile.{OneFile}
use Rattle.headline_laws.specs.OneWriter.{OneWriter, OpensOneWriter}
use Rattle.headline_laws.specs.Opening.{Stretch}
use Rattle.headline_laws.specs.Showing.{Shows}
use Rattle.headline_laws.specs.Writing.{ShowsWriting}
use Rattle.headline_laws.proofs.Plays.Facts.{ComesTo}
use Rattle.headline.specs.Run.{Run, Told, told}
use Rattle.headline.specs.Names.{BrokeOff, failed, stopped}
use Rattle.headline.specs.Reasons.{IsReasonOf}
use Rattle.headline_laws.proofs.Makers.Holding.{answered_call}
use Rattle.headline_laws.proofs.Makers.NewNames.{added, another, made, makes_number, moved, names_now, names_of, stay, step_names, with_name}
use Rattle.headline_laws.proofs.Makers.KnownIndices.{undamaged as opens_undamaged}
use Rattle.headline_laws.proofs.Names.ByRename.{kind_told}
use Rattle.headline_laws.proofs.Names.Seeks.{Behind, IsSought, OnlyGreets, Sought, sought}
use Rattle.headline_laws.proofs.Reasons.Told.{reasons_told}
use Rattle.headline_laws.proofs.Statements.Did.{IsOfKindOr}
use Rattle.headline_laws.proofs.Story.Attributed.{either_part, head_of, none_there, tail_of}
use Rattle.headline_laws.proofs.Story.Lines.{AnyLine, container, entered_or, entered_room, first_entered, first_made, made_room, many_in, many_rooms, room_of, writer_room}
use Rattle.headline_laws.proofs.Story.Spans.{PlacedCall}

-- ---- the container of an opening

module _ (m : Moment) (n : ℕ) (before front : List Event) (nothing : ℕ) (old new : Option OneFile) (writer w : Option OneWriter) (name : Name) (id : ℕ) where
  abbrev Within : Stretch
  Within = record { before = before; events = front }

  -- the call that found or made it
  record OpenMade (room : ℕ) : Type 0 where
    pub until : List Event
    pub making : Event
    pub later : List Event
    pub split : front ≡ until ++ making ∷ later
    pub own : making.caller ≡ n
    pub asked : making.ask.call ≡ MakeContainer name
    pub told : making.reply ≡ reply.Room room

  opened_by : (name2 : Name) → name2 ≡ name → (it : OneWriter) → OpensOneWriter m n Within name2 it → OpenMade it.dropping.room
  opened_by name2 same it o = record {
    until = o.earlier;
    making = o.making;
    later = o.between ++ o.entering ∷ o.later;
    split = o.split;
    own = o.makes.0;
    asked = ap (λ (a : Ask). a.call) o.makes.1 ∙ ap MakeContainer same;
    told = o.made;
  }

  made_in : (name2 : Name) → name2 ≡ name → (id2 : ℕ) (mine : Option OneWriter) → ShowsWriting m n Within mine (Open name2) (line.Opened id2) w → OpenMade (writer_room nothing w)
  made_in name2 same id2 (Some x) writes = absurd writes.0
  made_in name2 same id2 None (it, has, is, opens) = subst (λ (x : Option OneWriter). OpenMade (writer_room nothing x)) (sym has) (opened_by name2 same it opens)

  open_made : (s : Statement) (o : Outcome) → s ≡ Open name → o ≡ line.Opened id → (shows : Shows m n Within old s o new) → ShowsWriting m n Within writer s o w → OpenMade (room_of m n Within nothing old new w s o shows)
  open_made (Open name2) (line.Opened id2) is says shows writes = made_in name2 (cc) id2 writer writes
  open_made s o is says shows writes = absurd (cc)

-- no writer was opened
abbrev pub IsUnopened : Outcome → Type 0
IsUnopened (line.Refused why) = ⊤
IsUnopened line.Fault = ⊤
IsUnopened line.Stopped = ⊤
IsUnopened other = ⊥

module _ (m : Moment) (n : ℕ) (before front : List Event) (nothing : ℕ) (old new : Option OneFile) (w : Option OneWriter) (name : Name) where
  pub unopened_room : (s : Statement) (o : Outcome) → s ≡ Open name → IsUnopened o → (shows : Shows m n (record { before = before; events = front }) old s o new)
      → room_of m n (record { before = before; events = front }) nothing old new w s o shows ≡ entered_room n (made_room m n (record { before = before; events = front }) nothing) front
  unopened_room (Open name2) line.Fault is un shows = refl
  unopened_room (Open name2) line.Stopped is un shows = refl
  unopened_room (Open name2) (line.Refused why) is un shows = refl
  unopened_room (Open name2) o is un shows = absurd un
  unopened_room s o is un shows = absurd (cc)

-- a call that enters asks for the container that was told
abbrev pub EntersOnly : Reply → Call → Type 0
EntersOnly r (Enter room host most) = r ≡ reply.Room room
EntersOnly r call = ⊤

pub enters_behind : (r : Reply) (call : Call) → Behind r call → EntersOnly r call
enters_behind r (Enter room host most) is = is
enters_behind r call is = tt

pub first_only : (d : ℕ) (r : Reply) (xs : List Event) → ((x : Event) → Among x xs → EntersOnly r x.ask.call) → (first_entered d xs ≡ d) ⊎ ((room : ℕ) × (r ≡ reply.Room room) × (first_entered d xs ≡ room))
first_only d r [] each = inl refl
first_only d r (x ∷ xs) each = by x.ask.call (each x (inl refl)) (first_only d r xs (λ y at. each y (inr at)))
  where
    by : (call : Call) → EntersOnly r call → (first_entered d xs ≡ d) ⊎ ((room : ℕ) × (r ≡ reply.Room room) × (first_entered d xs ≡ room)) → (entered_or call (first_entered d xs) ≡ d) ⊎ ((room : ℕ) × (r ≡ reply.Room room) × (entered_or call (first_entered d xs) ≡ room))
    by (Enter room host most) is later = inr (room, is, refl)
    by call is later = later

-- a call of the caller's own, with what was called before it and behind it
pub record OwnAmong (n : ℕ) (events : List Event) (x : Event) : Type 0 where
  pub a : List Event
  pub b : List Event
  pub is : events ≡ a ++ x ∷ b
  pub own : x.caller ≡ n

pub own_among : (n : ℕ) (events : List Event) (x : Event) → Among x (made_by n events) → OwnAmong n events x
own_among n [] x at = absurd at
own_among n (e ∷ events) x at = by (nat_eq e.caller n) refl at (λ more. own_among n events x more)
  where
    later : OwnAmong n events x → OwnAmong n (e ∷ events) x
    later o = record { a = e ∷ o.a; b = o.b; is = ap (λ z. e ∷ z) o.is; own = o.own }

    by : (b : Bool) → nat_eq e.caller n ≡ b → Among x (if b then e ∷ made_by n events else made_by n events) → (Among x (made_by n events) → OwnAmong n events x) → OwnAmong n (e ∷ events) x
    by true is (inl same) rest = (let its : e.caller ≡ n = grind (arith, nat_tests) in record { a = []; b = events; is = ap (λ z. z ∷ events) (sym same); own = ap (λ (z : Event). z.caller) same ∙ its })
    by true is (inr more) rest = later (rest more)
    by false is more rest = later (rest more)

-- as many names as containers
pub many_names : (o : Option Tree) → many_in o ≡ length (names_of o)
many_names None = refl
many_names (Some tree) = sym (length-map tree.rooms (λ (r : Room). r.name))

greets_same : (m : Moment) (e : Event) (rest : List Event) → IsSoundAt m → IsLawful m.state (e ∷ rest) → e.ask.call ≡ Greet → names_now e.after ≡ names_now m.state
greets_same m e rest sound lawful greets = elim (step_names m.state e.after e.caller e.ask e.reply sound.shape.tree lawful.1 sound.shape.told) as (λ _. names_now e.after ≡ names_now m.state) [
  | stay same ↦ same
  | another number name (made asked is free) more ↦ absurd (let clash : MakeContainer name ≡ Greet = sym asked ∙ greets in cc)
  | another number name (moved holder h asked held is less free) more ↦ absurd (let clash : Move holder name ≡ Greet = sym asked ∙ greets in cc)
]

-- the call is the first of its caller's that made a container
made_there : (n : ℕ) (call : Call) (d : ℕ) (m : Moment) (a : List Event) (e : Event) (u : List Event) → IsSoundAt m → IsLawful m.state a → OnlyGreets n call a → e.caller ≡ n → many_rooms (moment_after m a).state < many_rooms e.after → first_made n d m.state (a ++ e ∷ u) ≡ many_rooms (moment_after m a).state
made_there n call d m [] e u sound lawful greets own more =
    let its : nat_eq e.caller n ≡ true = grind (arith, nat_tests) in
    let rises : nat_lt (many_rooms m.state) (many_rooms e.after) ≡ true = grind (arith, nat_tests) in
    ap (λ b. if b && nat_lt (many_rooms m.state) (many_rooms e.after) then many_rooms m.state else first_made n d e.after u) its ∙ ap (λ b. if b then many_rooms m.state else first_made n d e.after u) rises
made_there n call d m (x ∷ a) e u sound lawful greets own more =
    by (nat_eq x.caller n) refl ∙ made_there n call d (next_moment m x) a e u (sound_next m x a lawful sound) lawful.2 (λ b y v is its. greets (x ∷ b) y v (ap (λ z. x ∷ z) is) its) own more
  where
    rest : ℕ
    rest = first_made n d x.after (a ++ e ∷ u)

    by : (b : Bool) → nat_eq x.caller n ≡ b → (if nat_eq x.caller n && nat_lt (many_rooms m.state) (many_rooms x.after) then many_rooms m.state else rest) ≡ rest
    by false is = ap (λ b. if b && nat_lt (many_rooms m.state) (many_rooms x.after) then many_rooms m.state else rest) is
    by true is =
        let its : x.caller ≡ n = grind (arith, nat_tests) in
        let names = greets_same m x a sound lawful (greets [] x a refl its) in
        let many : many_rooms x.after ≡ many_rooms m.state = many_names x.after.store.tree ∙ ap length names ∙ sym (many_names m.state.store.tree) in
        let still : nat_lt (many_rooms m.state) (many_rooms x.after) ≡ false = grind (arith, nat_tests) in
        ap (λ b. if b && nat_lt (many_rooms m.state) (many_rooms x.after) then many_rooms m.state else rest) is ∙ ap (λ b. if b then many_rooms m.state else rest) still

module _ (run : Run) (m : Moment) (end : State) (fits : FitsScript run.script) (sound : IsSoundAt m) (right : IsRight run.script m.state run.lines end) where
  abbrev Of : Told → ℕ
  Of = container run m end fits sound right

  abbrev Nothing : ℕ
  Nothing = length run.after.rooms

  -- ---- a call that made a container

  module _ (pre : List Event) (e : Event) (post : List Event) (whole : right.history ≡ pre ++ e ∷ post) (c : PlacedCall run m end fits sound right pre e) where
    abbrev L : AnyLine run m end fits sound right c.reader c.writing c.t
    L = c.line.its

    abbrev N : ℕ
    N = L.number

    abbrev P : List Event
    P = L.line.part.earlier

    abbrev Mine : List Event
    Mine = L.line.part.mine

    lawful : IsLawful m.state (pre ++ e ∷ post)
    lawful = subst (IsLawful m.state) whole right.leads.lawful

    abbrev At : Moment
    At = moment_after m pre

    sound_at : IsSoundAt At
    sound_at = sound_after m pre (legal_first m pre (e ∷ post) lawful) sound

    here : IsLawful At.state (e ∷ post)
    here = legal_rest m pre (e ∷ post) lawful

    abbrev Changed : Type 0
    Changed = names_now e.after ≡ names_now At.state → ⊥

    module _ (name : Name) (says : c.t.statement ≡ Open name) (asked : e.ask.call ≡ MakeContainer name) (differ : Changed) (new : names_now e.after ≡ with_name (names_now At.state) (length (names_now At.state)) name) where
      -- before it only a greeting was called, and behind it no other container is made, or entered
      pub record Alone : Type 0 where
        pub greets : OnlyGreets N (MakeContainer name) c.first
        pub behind : (a : List Event) (x : Event) (b : List Event) → c.later ≡ a ++ x ∷ b → x.caller ≡ N → Behind e.reply x.ask.call
        pub ended : IsSought L.line.part.e.outcome

      not_greet : e.ask.call ≡ Greet → ⊥
      not_greet is = (let clash : MakeContainer name ≡ Greet = sym asked ∙ is in cc)

      not_behind : (r : Reply) → Behind r e.ask.call → ⊥
      not_behind r is = subst (Behind r) asked is

      alone_of : Sought N (MakeContainer name) Mine L.line.part.e → Alone
      alone_of z = elim (either_part z.before (z.event ∷ z.after) c.first e c.later (sym z.is ∙ c.in_it)) as (λ _. Alone) [
        | inl (u, front, later) ↦ absurd (not_greet (z.greets c.first e u front c.own))
        | inr (u, front, later) ↦ first_or_later u front later
      ]
        where
          first_or_later : (u : List Event) → c.first ≡ z.before ++ u → z.event ∷ z.after ≡ u ++ e ∷ c.later → Alone
          first_or_later [] front later =
              let one : z.event ≡ e = head_of z.event e z.after c.later later in
              record {
                greets = subst (OnlyGreets N (MakeContainer name)) (sym (append-nil z.before) ∙ sym front) z.greets;
                behind = λ a x b is own. subst (λ (y : Event). Behind y.reply x.ask.call) one (z.behind a x b (tail_of z.event e z.after c.later later ∙ is) own);
                ended = z.ended;
              }
          first_or_later (y ∷ u) front later = absurd (not_behind z.event.reply (z.behind u e c.later (tail_of z.event y z.after (u ++ e ∷ c.later) later) c.own))

      pub alone : Alone
      alone = elim (sought N (MakeContainer name) L.line.kept (Open name) Mine L.line.part.spent L.line.part.e refl (subst (λ s. ComesTo N (work_of L.line.kept s) Mine L.line.part.spent L.line.part.e) says L.line.part.comes)) as (λ _. Alone) [
        | inl only ↦ absurd (not_greet (only c.first e c.later c.in_it c.own))
        | inr z ↦ alone_of z
      ]

      pub opens_alone : (a : List Event) (x : Event) (b : List Event) → c.later ≡ a ++ x ∷ b → x.caller ≡ N → (other : Name) → x.ask.call ≡ MakeContainer other → ⊥
      opens_alone a x b is own other makes = subst (Behind e.reply) makes (alone.behind a x b is own)

      -- so there is no other
      pub the_one : (a : List Event) (x : Event) (b : List Event) → Mine ≡ a ++ x ∷ b → x.caller ≡ N → x.ask.call ≡ MakeContainer name → x ≡ e
      the_one a x b is own makes = elim (either_part c.first (e ∷ c.later) a x b (sym c.in_it ∙ is)) as (λ _. x ≡ e) [
        | inl (u, front, later) ↦ absurd (let clash : MakeContainer name ≡ Greet = sym makes ∙ alone.greets a x u front own in cc)
        | inr (u, front, later) ↦ first_or_later u later
      ]
        where
          first_or_later : (u : List Event) → e ∷ c.later ≡ u ++ x ∷ b → x ≡ e
          first_or_later [] later = sym (head_of e x c.later b later)
          first_or_later (y ∷ u) later = absurd (subst (Behind e.reply) makes (alone.behind u x b (tail_of e y c.later (u ++ x ∷ b) later) own))

      -- ---- how its line ended

      abbrev Opens : Type 0
      Opens = ((id : ℕ) × (c.t.outcome ≡ line.Opened id)) ⊎ (c.t.outcome ≡ line.Refused Held) ⊎ (c.t.outcome ≡ line.Refused IdsSpent) ⊎ BrokeOff c.t.outcome

      by_why : (why : Why) → c.t.outcome ≡ line.Refused why → IsSought (line.Refused why) → IsReasonOf (Open name) why → Opens
      by_why Held told is may = inr (inl told)
      by_why IdsSpent told is may = inr (inr (inl told))
      by_why AlreadyOpen told is may = absurd is
      by_why why told is may = absurd may

      by_outcome : (o : Outcome) → c.t.outcome ≡ o → IsSought o → (o ≡ line.Gone) ⊎ IsOfKindOr (Open name) o → Opens
      by_outcome (line.Opened id) told is kind = inl (id, told)
      by_outcome line.Fault told is kind = inr (inr (inr (failed told)))
      by_outcome line.Stopped told is kind = inr (inr (inr (stopped told)))
      by_outcome (line.Refused why) told is kind = by_why why told is (subst (λ s. IsReasonOf s why) says ((reasons_told run m end fits sound right).kinds c.t why (record { is_line = c.is_line; says = told })))
      by_outcome (line.Damaged folder file place) told is kind =
          let s = L.line.shown in
          absurd (opens_undamaged m N P s.front Nothing L.line.file s.new s.new_writer name c.t.statement folder file place c.t.outcome says told s.shows)
      by_outcome line.Gone told is kind = absurd is
      by_outcome o told is (inl clash) = absurd (cc)
      by_outcome o told is (inr kind) = absurd kind

      pub opens_so : Opens
      opens_so = by_outcome c.t.outcome refl (subst IsSought (sym L.line.says) alone.ended) (subst (λ s. (c.t.outcome ≡ line.Gone) ⊎ IsOfKindOr s c.t.outcome) says (kind_told L.line.kept c.t.statement L.line.part.e c.t.outcome (sym L.line.says) L.line.part.ended))

      -- ---- the container of its line

      told_number : (room : ℕ) → e.reply ≡ reply.Room room → room ≡ length (names_now At.state)
      told_number room is =
          let a : Answers At.state e.caller e.ask.call e.reply e.after = answered_call At.state e here.1 (λ x. let clash : reply.Stopped ≡ reply.Room room = sym x ∙ is in cc) (λ x. let clash : reply.NoMemory ≡ reply.Room room = sym x ∙ is in cc) in
          makes_number At.state e.after e.caller name room sound_at.shape.tree (subst (λ r. Answers At.state e.caller (MakeContainer name) r e.after) is (subst (λ q. Answers At.state e.caller q e.reply e.after) asked a)) sound_at.shape.told differ

      number_opened : (id : ℕ) → c.t.outcome ≡ line.Opened id → Of c.t ≡ length (names_now At.state)
      number_opened id told =
          let s = L.line.shown in
          let z = open_made m N P s.front Nothing L.line.file s.new L.line.writer s.new_writer name id c.t.statement c.t.outcome says told s.shows s.writes in
          let in_it : Mine ≡ z.until ++ z.making ∷ (z.later ++ s.rest) = s.split ∙ ap (λ es. es ++ s.rest) z.split ∙ append_assoc z.until (z.making ∷ z.later) s.rest in
          let one : z.making ≡ e = the_one z.until z.making (z.later ++ s.rest) in_it z.own z.asked in
          L.line.here ∙ told_number _ (ap (λ (x : Event). x.reply) (sym one) ∙ z.told)

      -- where no writer was opened
      abbrev Default : ℕ
      Default = made_room m N (record { before = P; events = L.line.shown.front }) Nothing

      front_entered : entered_room N Default L.line.shown.front ≡ entered_room N Default Mine
      front_entered =
          let s = L.line.shown in
          ap (first_entered Default) (sym (ap (made_by N) s.split ∙ entries_both N s.front s.rest ∙ ap (λ z. made_by N s.front ++ z) s.none_behind ∙ append-nil (made_by N s.front)))

      -- each of its own calls that enters asks for the container that was told
      enters_it : (x : Event) → Among x (made_by N Mine) → EntersOnly e.reply x.ask.call
      enters_it x at =
          let h = own_among N Mine x at in
          elim (either_part c.first (e ∷ c.later) h.a x h.b (sym c.in_it ∙ h.is)) as (λ _. EntersOnly e.reply x.ask.call) [
            | inl (u, front, later) ↦ subst (EntersOnly e.reply) (sym (alone.greets h.a x u front h.own)) tt
            | inr (u, front, later) ↦ first_or_later h.own h.b u later
          ]
        where
          first_or_later : x.caller ≡ N → (b : List Event) (u : List Event) → e ∷ c.later ≡ u ++ x ∷ b → EntersOnly e.reply x.ask.call
          first_or_later own b [] later = subst (EntersOnly e.reply) (sym asked ∙ ap (λ (z : Event). z.ask.call) (head_of e x c.later b later)) tt
          first_or_later own b (y ∷ u) later = enters_behind e.reply x.ask.call (alone.behind u x b (tail_of e y c.later (u ++ x ∷ b) later) own)

      default_is : Default ≡ length (names_now At.state)
      default_is =
          let s = L.line.shown in
          elim (either_part s.front s.rest c.first e c.later (sym s.split ∙ c.in_it)) as (λ _. Default ≡ length (names_now At.state)) [
            | inr (u, front, later) ↦ absurd (none_there N s.rest u e c.later later s.none_behind c.own)
            | inl (u, front, later) ↦
                let p = L.line.part in
                let all : right.history ≡ P ++ (c.first ++ (e ∷ u ++ (s.rest ++ p.later))) =
                p.split ∙ ap (λ z. P ++ (z ++ p.later)) (s.split ∙ ap (λ z. z ++ s.rest) front) ∙ ap (λ z. P ++ z) (append_assoc (c.first ++ e ∷ u) s.rest p.later ∙ append_assoc c.first (e ∷ u) (s.rest ++ p.later)) in
                let law : IsLawful m.state (P ++ (c.first ++ (e ∷ u ++ (s.rest ++ p.later)))) = subst (IsLawful m.state) all right.leads.lawful in
                let begin : Moment = moment_after m P in
                let on : IsLawful begin.state (c.first ++ (e ∷ u ++ (s.rest ++ p.later))) = legal_rest m P (c.first ++ (e ∷ u ++ (s.rest ++ p.later))) law in
                let then_is : moment_after begin c.first ≡ At = sym (moment-append m P c.first) ∙ ap (moment_after m) (sym c.before_is) in
                let longer : length (names_now e.after) ≡ length (names_now At.state) + 1 = ap length (new ∙ added (names_now At.state) name) ∙ length-append (names_now At.state) (name ∷ []) in
                let more : many_rooms (moment_after begin c.first).state < many_rooms e.after =
                (let x = ap (λ (z : Moment). many_rooms z.state) then_is in let y = many_names At.state.store.tree in let z = many_names e.after.store.tree in omega (arith, x, y, z, longer)) in
                ap (first_made N Nothing begin.state) front
                ∙ made_there N (MakeContainer name) Nothing begin c.first e u (sound_after m P (legal_first m P (c.first ++ (e ∷ u ++ (s.rest ++ p.later))) law) sound) (legal_first begin c.first (e ∷ u ++ (s.rest ++ p.later)) on) alone.greets c.own more
                ∙ ap (λ (z : Moment). many_rooms z.state) then_is ∙ many_names At.state.store.tree
          ]

      entered_is : entered_room N Default Mine ≡ length (names_now At.state)
      entered_is = elim (first_only Default e.reply (made_by N Mine) enters_it) as (λ _. entered_room N Default Mine ≡ length (names_now At.state)) [
        | inl none ↦ none ∙ default_is
        | inr (room, told, is) ↦ is ∙ told_number room told
      ]

      number_else : (o : Outcome) → IsUnopened o → c.t.outcome ≡ o → Of c.t ≡ length (names_now At.state)
      number_else o un told =
          let s = L.line.shown in
          L.line.here ∙ unopened_room m N P s.front Nothing L.line.file s.new s.new_writer name c.t.statement c.t.outcome says (subst IsUnopened (sym told) un) s.shows ∙ front_entered ∙ entered_is

      pub made_number : Of c.t ≡ length (names_now At.state)
      made_number = by opens_so
        where
          by : Opens → Of c.t ≡ length (names_now At.state)
          by (inl (id, told)) = number_opened id told
          by (inr (inl told)) = number_else (line.Refused Held) tt told
          by (inr (inr (inl told))) = number_else (line.Refused IdsSpent) tt told
          by (inr (inr (inr (failed told)))) = number_else line.Fault tt told
          by (inr (inr (inr (stopped told)))) = number_else line.Stopped tt told
