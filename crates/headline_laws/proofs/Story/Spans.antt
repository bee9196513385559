-- Where in the history the part of each line stands. Of a line that is surely before another the part ends where that of the other begins, or before that.
use Rattle.std.proofs.Common.{◌≡◌, ◌≤◌, ◌<◌, ◌+◌, ◌||◌, inl, inr, ℕ, true, false, nat_eq, nat_lt, List, [], ◌∷◌, ◌++◌, length, Option, Some, None, refl, sym, ap, ◌∙◌, subst, arith, append_assoc, length-append, if◌then◌else◌}
use Rattle.std.specs.Prelude.{⊤, slice_get}
use Rattle.std.proofs.lemmas.Bool.Decides.{nat_tests}
use Rattle.mount_model.specs.declared.call.Ask.{Ask}
use Rattle.mount_model.specs.declared.reply.Reply.{Reply}
use Rattle.mount_model.specs.History.{Event}
use Rattle.mount_model.specs.MakesCalls.{Role}
use Rattle.mount_model.specs.State.{State}
use Rattle.reader_laws.specs.Moments.{IsSoundAt, Moment}
use Rattle.reader_laws.proofs.Gathered.Facts.{among, is_among}
use Rattle.plain_file.proofs.Facts.{Among}
use Rattle.script_lang.specs.Ranges.{FitsScript}
use Rattle.script_lang.specs.declared.script.ActorDecl.{ActorDecl}
use Rattle.script_lang.specs.declared.script.Statement.{Statement}
use Rattle.actor_core.specs.declared.kept.Kept.{Kept}
use Rattle.actor_core.specs.Statements.{work_of}
use Rattle.run_core.specs.Cast.{statements_in}
use Rattle.run_core.specs.Play.{IsRight}
use Rattle.run_core.specs.Written.{whose}
use Rattle.headline_laws.specs.OneFile.{OneFile}
use Rattle.headline_laws.specs.OneWriter.{OneWriter}
use Rattle.headline_laws.proofs.Plays.Facts.{Anyhow, IsQuiet, MayAsk, Next, its_role, statement_asks}
use Rattle.headline.specs.Run.{IsLine, Run, Told, before, own, phased, surely_before, told}
use Rattle.headline.specs.Files.{reader_after, reader_at, reader_next}
use Rattle.headline.specs.Changes.{Writing, none, writing_after, writing_at, writing_next}
use Rattle.headline_laws.proofs.OrderlyLines.Answering.{among_filter, among_own, own_actor, own_rise}
use Rattle.headline_laws.proofs.OrderlyLines.Orderly.{plays_here}
use Rattle.headline_laws.proofs.OrderlyLines.Places.{Rise, among_later, beside_rise, own_split}
use Rattle.headline_laws.proofs.Statements.Known.{Known, known_next, known_waits}
use Rattle.headline_laws.proofs.Story.Apart.{both_true, is_less, is_same, one_true, parts_of}
use Rattle.headline_laws.proofs.Story.Attributed.{came_asks, either_part, none_there, own_call}
use Rattle.headline_laws.proofs.Story.Lines.{AnyLine, ChainOf, HasRooms, ShownLine, at_places, container, each_of, has_rooms, nothing_known, reads_in, whole_history}
use Rattle.headline_laws.proofs.Story.Parts.{LinePart, PartOf, phases_apart}
use Rattle.headline_laws.proofs.Story.Shown.{ShownEach}

-- Under this number the actor of a line calls. So many events stand before its part, and before its end.
pub record Span : Type 0 where
  pub number : ℕ
  pub from : ℕ
  pub to : ℕ

-- ---- the lines of one actor

module _ (m : Moment) (sound : IsSoundAt m) (n : ℕ) (history : List Event) (blocks : List (List Event)) (whole : Next m [] history) where
  abbrev pub span_here : {kept : Kept} {phase : ℕ} {statement : Statement} → PartOf n history blocks kept phase statement → Span
  span_here p = record { number = n; from = length p.earlier; to = length p.earlier + length p.mine }

  -- that of the line at a place
  unfoldable pub spans : (nothing : Span) (done : List Event) (kept : Kept) (file : Option OneFile) (writer : Option OneWriter) (ts : List Told) → ShownEach m sound n history blocks whole done kept file writer ts → ℕ → Span
  spans nothing done kept file writer [] each place = nothing
  spans nothing done kept file writer (t ∷ ts) (p, says, idle, s, more) place = if nat_eq t.place place then span_here p else spans nothing (p.earlier ++ p.mine) p.e.kept s.new s.new_writer ts more place

  -- these are the spans of the lines
  abbrev pub HasSpans : (Told → Span) → (done : List Event) (kept : Kept) (file : Option OneFile) (writer : Option OneWriter) (ts : List Told) → ShownEach m sound n history blocks whole done kept file writer ts → Type 0
  HasSpans at done kept file writer [] each = ⊤
  HasSpans at done kept file writer (t ∷ ts) (p, says, idle, s, more) = (at t ≡ span_here p) × HasSpans at (p.earlier ++ p.mine) p.e.kept s.new s.new_writer ts more

  pub has_spans : (nothing : Span) (at : Told → Span) (place : ℕ) (done : List Event) (kept : Kept) (file : Option OneFile) (writer : Option OneWriter) (ts : List Told) (each : ShownEach m sound n history blocks whole done kept file writer ts) → Rise place ts
      → ((s : Told) → Among s ts → at s ≡ spans nothing done kept file writer ts each s.place) → HasSpans at done kept file writer ts each
  unfolding spans
  has_spans nothing at place done kept file writer [] each rise are = tt
  has_spans nothing at place done kept file writer (t ∷ ts) (p, says, idle, s, more) rise are =
      let later : Told → Span = λ r. spans nothing (p.earlier ++ p.mine) p.e.kept s.new s.new_writer ts more r.place in
      let here : nat_eq t.place t.place ≡ true = grind (arith, nat_tests) in (
        are t (inl refl) ∙ ap (λ b. if b then span_here p else later t) here,
        has_spans nothing at (t.place + 1) (p.earlier ++ p.mine) p.e.kept s.new s.new_writer ts more rise.1
            (λ r at_it. let far : t.place + 1 ≤ r.place = among_later (t.place + 1) ts r rise.1 at_it in
            let other : nat_eq t.place r.place ≡ false = grind (arith, nat_tests) in
            are r (inr at_it) ∙ ap (λ b. if b then span_here p else later r) other),
      )

  -- each stands behind what was done
  spans_far : (at : Told → Span) (done : List Event) (kept : Kept) (file : Option OneFile) (writer : Option OneWriter) (ts : List Told) (each : ShownEach m sound n history blocks whole done kept file writer ts) → HasSpans at done kept file writer ts each → (t : Told) → Among t ts → length done ≤ (at t).from
  spans_far at done kept file writer [] each are t it = absurd it
  spans_far at done kept file writer (x ∷ ts) (p, says, idle, s, more) are t (inl same) =
      let long = ap length idle.is ∙ length-append done idle.idle in
      let from : (at t).from ≡ length p.earlier = ap (λ z. (at z).from) same ∙ ap (λ (z : Span). z.from) are.0 in
      omega (arith, long, from)
  spans_far at done kept file writer (x ∷ ts) (p, says, idle, s, more) are t (inr it) =
      let long = ap length idle.is ∙ length-append done idle.idle in
      let both = length-append p.earlier p.mine in
      let far = spans_far at (p.earlier ++ p.mine) p.e.kept s.new s.new_writer ts more are.1 t it in
      omega (arith, long, both, far)

  -- that of a later line of the actor stands behind
  pub spans_rise : (at : Told → Span) (place : ℕ) (done : List Event) (kept : Kept) (file : Option OneFile) (writer : Option OneWriter) (ts : List Told) (each : ShownEach m sound n history blocks whole done kept file writer ts) → HasSpans at done kept file writer ts each → Rise place ts
      → (s t : Told) → Among s ts → Among t ts → s.place < t.place → (at s).to ≤ (at t).from
  spans_rise at place done kept file writer [] each are rise s t its it far = absurd its
  spans_rise at place done kept file writer (x ∷ ts) (p, says, idle, h, more) are rise s t (inl is) (inl same) far =
      let one : s.place ≡ x.place = ap (λ (z : Told). z.place) is in
      let other : t.place ≡ x.place = ap (λ (z : Told). z.place) same in
      absurd (omega (arith, one, other, far))
  spans_rise at place done kept file writer (x ∷ ts) (p, says, idle, h, more) are rise s t (inl is) (inr it) far =
      let to : (at s).to ≡ length p.earlier + length p.mine = ap (λ z. (at z).to) is ∙ ap (λ (z : Span). z.to) are.0 in
      let both = length-append p.earlier p.mine in
      let behind = spans_far at (p.earlier ++ p.mine) p.e.kept h.new h.new_writer ts more are.1 t it in
      omega (arith, to, both, behind)
  spans_rise at place done kept file writer (x ∷ ts) (p, says, idle, h, more) are rise s t (inr its) (inl same) far =
      let late : x.place + 1 ≤ s.place = among_later (x.place + 1) ts s rise.1 its in
      let other : t.place ≡ x.place = ap (λ (z : Told). z.place) same in
      absurd (omega (arith, late, other, far))
  spans_rise at place done kept file writer (x ∷ ts) (p, says, idle, h, more) are rise s t (inr its) (inr it) far = spans_rise at (x.place + 1) (p.earlier ++ p.mine) p.e.kept h.new h.new_writer ts more are.1 rise.1 s t its it far

  module _ (nothing : ℕ) where
    -- a line in its part, which stands there
    pub record PlacedLine (of : Told → ℕ) (at : Told → Span) (r : Option Told) (w : Writing) (t : Told) : Type 0 where
      pub line : ShownLine m sound n history blocks whole nothing of r w t
      pub placed : at t ≡ span_here line.part

    pub placed_at : (of : Told → ℕ) (at : Told → Span) (ts : List Told) (t : Told) (rest : List Told) (done : List Event) (kept : Kept) (file : Option OneFile) (writer : Option OneWriter) (r : Option Told) (w : Writing) (each : ShownEach m sound n history blocks whole done kept file writer (ts ++ t ∷ rest))
        → HasRooms m sound n history blocks whole nothing of done kept file writer (ts ++ t ∷ rest) each → HasSpans at done kept file writer (ts ++ t ∷ rest) each → Known of n done r w file writer → PlacedLine of at (reader_after r ts) (writing_after w ts) t
    placed_at of at [] t rest done kept file writer r w (p, says, idle, s, more) rooms_are spans_are k = record {
      line = record { kept = kept; file = file; writer = writer; part = p; says = says; shown = s; known = subst (λ es. Known of n es r w file writer) (sym idle.is) (known_waits of n done idle.idle r w file writer k); here = rooms_are.0 };
      placed = spans_are.0;
    }
    placed_at of at (q ∷ ts) t rest done kept file writer r w (p, says, idle, s, more) rooms_are spans_are k =
        let before : Known of n p.earlier r w file writer = subst (λ es. Known of n es r w file writer) (sym idle.is) (known_waits of n done idle.idle r w file writer k) in
        let after = known_next of m n p.earlier s.front s.rest r w q file s.new writer s.new_writer s.shows s.writes (reads_in of m n (record { before = p.earlier; events = s.front }) nothing file s.new s.new_writer q q.statement q.outcome s.shows rooms_are.0) before in
        placed_at of at ts t rest (p.earlier ++ p.mine) p.e.kept s.new s.new_writer (reader_next r q q.outcome) (writing_next w q.statement q.outcome) more rooms_are.1 spans_are.1
        (subst (λ es. Known of n (p.earlier ++ es) (reader_next r q q.outcome) (writing_next w q.statement q.outcome) s.new s.new_writer) (sym s.split) after)

    -- the event is in the part of this line
    pub record InPlace (of : Told → ℕ) (at : Told → Span) (pre : List Event) (e : Event) (ts : List Told) : Type 0 where
      pub t : Told
      pub there : Among t ts
      pub reader : Option Told
      pub writing : Writing
      pub its : PlacedLine of at reader writing t
      pub first : List Event
      pub later : List Event
      pub in_it : its.line.part.mine ≡ first ++ e ∷ later
      pub before_is : pre ≡ its.line.part.earlier ++ first

    pub find_place : (of : Told → ℕ) (at : Told → Span) (done : List Event) (kept : Kept) (file : Option OneFile) (writer : Option OneWriter) (ts : List Told) (r : Option Told) (w : Writing) (each : ShownEach m sound n history blocks whole done kept file writer ts)
        → HasRooms m sound n history blocks whole nothing of done kept file writer ts each → HasSpans at done kept file writer ts each → Known of n done r w file writer → (pre : List Event) (e : Event) (post : List Event) → history ≡ pre ++ e ∷ post → e.caller ≡ n → length done ≤ length pre → InPlace of at pre e ts
    find_place of at done kept file writer [] r w idle rooms_are spans_are k pre e post is its far = elim (either_part done idle.idle pre e post (sym idle.is ∙ is)) as (λ _. InPlace of at pre e []) [
      | inl (u, front, later) ↦ let long = ap length front ∙ length-append pre (e ∷ u) in absurd (omega (arith, long, far))
      | inr (u, front, later) ↦ absurd (none_there n idle.idle u e post later idle.none its)
    ]
    find_place of at done kept file writer (t ∷ ts) r w (p, says, idle, s, more) rooms_are spans_are k pre e post is its far =
        let before : Known of n p.earlier r w file writer = subst (λ es. Known of n es r w file writer) (sym idle.is) (known_waits of n done idle.idle r w file writer k) in
        let after = known_next of m n p.earlier s.front s.rest r w t file s.new writer s.new_writer s.shows s.writes (reads_in of m n (record { before = p.earlier; events = s.front }) nothing file s.new s.new_writer t t.statement t.outcome s.shows rooms_are.0) before in
        elim (either_part p.earlier (p.mine ++ p.later) pre e post (sym p.split ∙ is)) as (λ _. InPlace of at pre e (t ∷ ts)) [
          | inl (u, front, later) ↦ elim (either_part done idle.idle pre e u (sym idle.is ∙ front)) as (λ _. InPlace of at pre e (t ∷ ts)) [
            | inl (v, early, rest) ↦ let long = ap length early ∙ length-append pre (e ∷ v) in absurd (omega (arith, long, far))
            | inr (v, early, rest) ↦ absurd (none_there n idle.idle v e u rest idle.none its)
          ]
          | inr (u, front, later) ↦ elim (either_part p.mine p.later u e post later) as (λ _. InPlace of at pre e (t ∷ ts)) [
            | inl (v, inside, rest) ↦ record {
              t = t;
              there = inl refl;
              reader = r;
              writing = w;
              its = record { line = record { kept = kept; file = file; writer = writer; part = p; says = says; shown = s; known = before; here = rooms_are.0 }; placed = spans_are.0 };
              first = u;
              later = v;
              in_it = inside;
              before_is = front;
            }
            | inr (v, inside, rest) ↦
                let behind : pre ≡ (p.earlier ++ p.mine) ++ v = front ∙ ap (λ z. p.earlier ++ z) inside ∙ sym (append_assoc p.earlier p.mine v) in
                let long = ap length behind ∙ length-append (p.earlier ++ p.mine) v in
                let f = find_place of at (p.earlier ++ p.mine) p.e.kept s.new s.new_writer ts (reader_next r t t.outcome) (writing_next w t.statement t.outcome) more rooms_are.1 spans_are.1
                (subst (λ es. Known of n (p.earlier ++ es) (reader_next r t t.outcome) (writing_next w t.statement t.outcome) s.new s.new_writer) (sym s.split) after) pre e post is its (omega (arith, long)) in
                record { t = f.t; there = inr f.there; reader = f.reader; writing = f.writing; its = f.its; first = f.first; later = f.later; in_it = f.in_it; before_is = f.before_is }
          ]
        ]

-- ---- all lines

-- of lines that rise one stands at a place
pub same_place : (place : ℕ) (ts : List Told) (s t : Told) → Rise place ts → Among s ts → Among t ts → s.place ≡ t.place → s ≡ t
same_place place [] s t rise its it same = absurd its
same_place place (x ∷ ts) s t rise (inl is) (inl also) same = is ∙ sym also
same_place place (x ∷ ts) s t rise (inl is) (inr it) same =
    let late : x.place + 1 ≤ t.place = among_later (x.place + 1) ts t rise.1 it in
    let one : s.place ≡ x.place = ap (λ (z : Told). z.place) is in
    absurd (omega (arith, late, one, same))
same_place place (x ∷ ts) s t rise (inr its) (inl also) same =
    let late : x.place + 1 ≤ s.place = among_later (x.place + 1) ts s rise.1 its in
    let one : t.place ≡ x.place = ap (λ (z : Told). z.place) also in
    absurd (omega (arith, late, one, same))
same_place place (x ∷ ts) s t rise (inr its) (inr it) same = same_place (x.place + 1) ts s t rise.1 its it same

module _ (run : Run) (m : Moment) (end : State) (fits : FitsScript run.script) (sound : IsSoundAt m) (right : IsRight run.script m.state run.lines end) where
  abbrev NoSpan : Span
  NoSpan = record { number = 0; from = 0; to = 0 }

  abbrev Nothing : ℕ
  Nothing = length run.after.rooms

  abbrev Of : Told → ℕ
  Of = container run m end fits sound right

  abbrev Whole : Next m [] right.history
  Whole = whole_history run m end fits sound right

  -- that of each line of an actor, by the line's place
  abbrev spans_by : (actor : ℕ) (d : Option ActorDecl) → slice_get run.script.actors actor ≡ d → ℕ → Span
  spans_by actor None here place = NoSpan
  spans_by actor (Some d) here place =
      let o = parts_of run m.state end fits right actor d here in
      spans m sound o.number right.history right.calls.blocks Whole NoSpan [] o.kept None None (own actor (told run)) (each_of run m end fits sound right actor o) place

  abbrev pub span_of : Told → Span
  span_of t = spans_by t.actor (slice_get run.script.actors t.actor) refl t.place

  -- the chain of an actor, in which the lines have these containers and these spans
  pub record PlacedChain (actor : ℕ) : Type 0 where
    pub chain : ChainOf run m end fits sound right actor
    pub spans_are : HasSpans m sound chain.parts.number right.history right.calls.blocks Whole span_of [] chain.parts.kept None None (own actor (told run)) chain.each

  placed_chain : (actor : ℕ) (d : ActorDecl) → slice_get run.script.actors actor ≡ Some d → PlacedChain actor
  placed_chain actor d here =
      by (slice_get run.script.actors actor) refl here (λ t same. ap (λ a. at_places run m end fits sound right a (slice_get run.script.actors a) refl t.place) same) (λ t same. ap (λ a. spans_by a (slice_get run.script.actors a) refl t.place) same)
    where
      by : (o : Option ActorDecl) (e : slice_get run.script.actors actor ≡ o) → o ≡ Some d → ((t : Told) → t.actor ≡ actor → Of t ≡ at_places run m end fits sound right actor o e t.place) → ((t : Told) → t.actor ≡ actor → span_of t ≡ spans_by actor o e t.place) → PlacedChain actor
      by None e same rooms_at spans_at = absurd (cc)
      by (Some declared) e same rooms_at spans_at =
          let o = parts_of run m.state end fits right actor declared e in
          let rise = own_rise actor 0 (told run) (beside_rise 0 (phased 0 run.script.phases) run.lines) in
          let each = each_of run m end fits sound right actor o in
          record {
            chain = record {
              parts = o;
              each = each;
              rooms_are = has_rooms m sound o.number right.history right.calls.blocks Whole Nothing Of 0 [] o.kept None None (own actor (told run)) each rise (λ s it. rooms_at s (own_actor actor (told run) s it));
            };
            spans_are = has_spans m sound o.number right.history right.calls.blocks Whole NoSpan span_of 0 [] o.kept None None (own actor (told run)) each rise (λ s it. spans_at s (own_actor actor (told run) s it));
          }

  placed_chain_of : (t : Told) → IsLine run t → PlacedChain t.actor
  placed_chain_of t is_line = (let (d, here, p) = plays_here run m.state end fits right t is_line in placed_chain t.actor d here)

  -- ---- a line in its place

  pub record Placed (r : Option Told) (w : Writing) (t : Told) : Type 0 where
    pub its : AnyLine run m end fits sound right r w t
    pub placed : span_of t ≡ record { number = its.number; from = length its.line.part.earlier; to = length its.line.part.earlier + length its.line.part.mine }
    pub role : Role Ask Reply State
    pub role_there : slice_get right.calls.roles t.actor ≡ Some role
    pub role_number : role.number ≡ its.number

  -- the chain of an actor's lines, however they are split
  abbrev ChainIs : {actor : ℕ} → PlacedChain actor → List Told → Type 0
  ChainIs c all =
      (each : ShownEach m sound c.chain.parts.number right.history right.calls.blocks Whole [] c.chain.parts.kept None None all)
      × HasRooms m sound c.chain.parts.number right.history right.calls.blocks Whole Nothing Of [] c.chain.parts.kept None None all each
      × HasSpans m sound c.chain.parts.number right.history right.calls.blocks Whole span_of [] c.chain.parts.kept None None all each

  pub placed_here : (t : Told) → IsLine run t → Placed (reader_at run t) (writing_at run t) t
  placed_here t is_line =
      let (d, here, p) = plays_here run m.state end fits right t is_line in
      let c = placed_chain t.actor d here in
      let r = its_role run.script.phases right.calls.blocks (whose (statements_in run.script.phases)) run.lines 0 run.script.actors right.calls.roles t.actor d right.calls.plays here in
      let split = own_split run t (among (told run) t is_line) in
      let chain : ChainIs c (own t.actor (before run t) ++ t ∷ split.rest) = subst (ChainIs c) split.is (c.chain.each, c.chain.rooms_are, c.spans_are) in
      let l = placed_at m sound c.chain.parts.number right.history right.calls.blocks Whole Nothing Of span_of (own t.actor (before run t)) t split.rest [] c.chain.parts.kept None None None none chain.0 chain.1 chain.2 (nothing_known run m end fits sound right c.chain.parts.number) in
      record { its = record { number = c.chain.parts.number; line = l.line }; placed = l.placed; role = r.role; role_there = r.there; role_number = c.chain.parts.is_role r.role r.there }

  -- ---- one before the other

  by_phase : (s t : Told) → IsLine run s → IsLine run t → s.phase < t.phase → (span_of s).to ≤ (span_of t).from
  by_phase s t is_s is_t sooner =
      let l = placed_here s is_s in
      let k = placed_here t is_t in
      let p : LinePart l.its.number right.history right.calls.blocks s = record { kept = l.its.line.kept; part = l.its.line.part; says = l.its.line.says } in
      let q : LinePart k.its.number right.history right.calls.blocks t = record { kept = k.its.line.kept; part = k.its.line.part; says = k.its.line.says } in
      let apart = phases_apart l.its.number k.its.number right.history right.calls.blocks s t p q sooner in
      let to = ap (λ (z : Span). z.to) l.placed in
      let from = ap (λ (z : Span). z.from) k.placed in
      omega (arith, apart, to, from)

  pub by_actor : (s t : Told) → IsLine run s → IsLine run t → s.place < t.place → s.actor ≡ t.actor → (span_of s).to ≤ (span_of t).from
  by_actor s t is_s is_t far same =
      let c = placed_chain_of t is_t in
      spans_rise m sound c.chain.parts.number right.history right.calls.blocks Whole span_of 0 [] c.chain.parts.kept None None (own t.actor (told run)) c.chain.each c.spans_are (own_rise t.actor 0 (told run) (beside_rise 0 (phased 0 run.script.phases) run.lines)) s t
      (subst (λ a. Among s (own a (told run))) same (among_own (told run) s (among (told run) s is_s))) (among_own (told run) t (among (told run) t is_t)) far

  -- the law of this file
  pub spans_apart : run.in_order ≡ false → (s t : Told) → IsLine run s → IsLine run t → surely_before run s t ≡ true → (span_of s).to ≤ (span_of t).from
  spans_apart free s t is_s is_t sooner =
      let places = both_true (nat_lt s.place t.place) (run.in_order || nat_lt s.phase t.phase || nat_eq s.actor t.actor) sooner in
      elim (one_true run.in_order (nat_lt s.phase t.phase) (nat_eq s.actor t.actor) free places.1) as (λ _. (span_of s).to ≤ (span_of t).from) [
        | inl phases ↦ by_phase s t is_s is_t (is_less s.phase t.phase phases)
        | inr same ↦ by_actor s t is_s is_t (is_less s.place t.place places.0) (is_same s.actor t.actor same)
      ]

  -- ---- a call in the part of its line

  -- the call was made in the part of this line, by its actor, whose statement may ask it
  pub record PlacedCall (pre : List Event) (e : Event) : Type 0 where
    pub t : Told
    pub is_line : IsLine run t
    pub reader : Option Told
    pub writing : Writing
    pub line : Placed reader writing t
    pub first : List Event
    pub later : List Event
    pub in_it : line.its.line.part.mine ≡ first ++ e ∷ later
    pub before_is : pre ≡ line.its.line.part.earlier ++ first
    pub own : e.caller ≡ line.its.number
    pub asks : MayAsk line.its.line.kept t.statement e.ask.call

  pub placed_call : (pre : List Event) (e : Event) (post : List Event) → right.history ≡ pre ++ e ∷ post → (IsQuiet e.ask.call → ⊥) → PlacedCall pre e
  placed_call pre e post is loud =
      let o = own_call run m.state end right pre e post is loud in
      let c = placed_chain o.place o.declared o.there in
      let n = c.chain.parts.number in
      let its : e.caller ≡ n = o.own ∙ c.chain.parts.is_role o.role o.role_there in
      let at_place : (x : Told) → Among x (own o.place (told run)) → x.actor ≡ o.place = λ x it. own_actor o.place (told run) x it in
      let f = find_place m sound n right.history right.calls.blocks Whole Nothing Of span_of [] c.chain.parts.kept None None (own o.place (told run)) None none c.chain.each c.chain.rooms_are c.spans_are (nothing_known run m end fits sound right n) pre e post is its (omega arith) in
      record {
        t = f.t;
        is_line = is_among (told run) f.t (among_filter (λ (s : Told). nat_eq s.actor o.place) (told run) f.t f.there);
        reader = f.reader;
        writing = f.writing;
        line = record { its = record { number = n; line = f.its.line }; placed = f.its.placed; role = o.role; role_there = ap (slice_get right.calls.roles) (at_place f.t f.there) ∙ o.role_there; role_number = c.chain.parts.is_role o.role o.role_there };
        first = f.first;
        later = f.later;
        in_it = f.in_it;
        before_is = f.before_is;
        own = its;
        asks = came_asks n (MayAsk f.its.line.kept f.t.statement) Anyhow (work_of f.its.line.kept f.t.statement) f.its.line.part.mine f.its.line.part.spent f.its.line.part.e (statement_asks f.its.line.kept f.t.statement) f.its.line.part.comes f.first e f.later f.in_it its;
      }
