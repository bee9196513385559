-- A line in its part, and where a call lies that another line made: before that part or behind it, or both lines were made at one time.
use Rattle.std.proofs.Common.{◌≡◌, ◌≤◌, ◌<◌, ◌+◌, ◌⊎◌, ◌||◌, inl, inr, ℕ, Bool, true, false, nat_eq, nat_lt, List, [], ◌∷◌, ◌++◌, length, Option, None, refl, sym, ap, ◌∙◌, subst, arith, length-append}
use Rattle.std.specs.Prelude.{slice_get}
use Rattle.std.proofs.lemmas.Bool.{cases_eq}
use Rattle.mount_model.specs.History.{Event}
use Rattle.mount_model.specs.State.{State}
use Rattle.reader_laws.specs.Moments.{IsSoundAt, Moment}
use Rattle.reader_laws.proofs.Gathered.Facts.{among, is_among}
use Rattle.plain_file.proofs.Facts.{Among}
use Rattle.script_lang.specs.Ranges.{FitsScript}
use Rattle.actor_core.specs.declared.kept.Kept.{Kept}
use Rattle.actor_core.specs.Statements.{work_of}
use Rattle.run_core.specs.Play.{IsRight}
use Rattle.headline_laws.specs.OneFile.{OneFile}
use Rattle.headline_laws.specs.OneWriter.{OneWriter}
use Rattle.headline_laws.proofs.Plays.Facts.{Anyhow, IsQuiet, MayAsk, Next, statement_asks}
use Rattle.headline.specs.Run.{IsLine, Run, Told, own, phased, surely_before, told}
use Rattle.headline.specs.Files.{reader_next}
use Rattle.headline.specs.Changes.{Writing, none, writing_next}
use Rattle.headline_laws.proofs.OrderlyLines.Answering.{among_filter, among_own, own_rise}
use Rattle.headline_laws.proofs.OrderlyLines.Places.{Rise, among_later, beside_rise}
use Rattle.headline_laws.proofs.Statements.Known.{Known, known_next, known_waits}
use Rattle.headline_laws.proofs.Story.Apart.{both_true, is_less, is_same, one_true}
use Rattle.headline_laws.proofs.Story.Attributed.{attributed, came_asks, either_part, none_there}
use Rattle.headline_laws.proofs.Story.Lines.{AnyLine, ChainOf, HasRooms, ShownLine, chain_of, container, nothing_known, reads_in, whole_history}
use Rattle.headline_laws.proofs.Story.Parts.{LinePart, phases_apart}
use Rattle.headline_laws.proofs.Story.Shown.{ShownEach}

-- ---- among the lines of one actor

module _ (m : Moment) (sound : IsSoundAt m) (n : ℕ) (history : List Event) (blocks : List (List Event)) (whole : Next m [] history) (nothing : ℕ) (of : Told → ℕ) where
  -- a line in its part
  pub record InPart (t : Told) : Type 0 where
    pub reader : Option Told
    pub writing : Writing
    pub line : ShownLine m sound n history blocks whole nothing of reader writing t

  abbrev pub begins : {t : Told} → InPart t → ℕ
  begins l = length l.line.part.earlier

  abbrev pub finishes : {t : Told} → InPart t → ℕ
  finishes l = length l.line.part.earlier + length l.line.part.mine

  -- the call lies in its part
  pub record CallOf (s : Told) (pre : List Event) (e : Event) : Type 0 where
    pub its : InPart s
    pub first : List Event
    pub later : List Event
    pub in_it : its.line.part.mine ≡ first ++ e ∷ later
    pub before_is : pre ≡ its.line.part.earlier ++ first

  -- an own call is one of an earlier line, of the line itself, or one behind it
  pub data Around (t : Told) (l : InPart t) (ts : List Told) (pre : List Event) (e : Event) : Type 0 where
    before_it : (s : Told) → Among s ts → s.place < t.place → (c : CallOf s pre e) → finishes c.its ≤ begins l → Around t l ts pre e
    within : (first later : List Event) → l.line.part.mine ≡ first ++ e ∷ later → pre ≡ l.line.part.earlier ++ first → Around t l ts pre e
    past : finishes l ≤ length pre → Around t l ts pre e

  pub record LineAround (t : Told) (ts : List Told) (limit : ℕ) : Type 0 where
    pub its : InPart t
    pub from : limit ≤ begins its
    pub each : (pre : List Event) (e : Event) (post : List Event) → history ≡ pre ++ e ∷ post → e.caller ≡ n → limit ≤ length pre → Around t its ts pre e

  one_more : (x t : Told) (l : InPart t) (ts : List Told) (pre : List Event) (e : Event) → Around t l ts pre e → Around t l (x ∷ ts) pre e
  one_more x t l ts pre e (before_it s at less c ends) = before_it s (inr at) less c ends
  one_more x t l ts pre e (within first later in_it before) = within first later in_it before
  one_more x t l ts pre e (past far) = past far

  pub line_around : (sofar : List Event) (kept : Kept) (file : Option OneFile) (writer : Option OneWriter) (ts : List Told) (r : Option Told) (w : Writing) (each : ShownEach m sound n history blocks whole sofar kept file writer ts) → HasRooms m sound n history blocks whole nothing of sofar kept file writer ts each → Known of n sofar r w file writer
      → (place : ℕ) → Rise place ts → (t : Told) → Among t ts → LineAround t ts (length sofar)
  line_around sofar kept file writer [] r w each rooms_are k place rise t at = absurd at
  line_around sofar kept file writer (x ∷ ts) r w (p, says, idle, s, more) rooms_are k place rise t at =
      by at (λ after later. line_around (p.earlier ++ p.mine) p.e.kept s.new s.new_writer ts (reader_next r x x.outcome) (writing_next w x.statement x.outcome) more rooms_are.1 after (x.place + 1) rise.1 t later)
    where
      before : Known of n p.earlier r w file writer
      before = subst (λ es. Known of n es r w file writer) (sym idle.is) (known_waits of n sofar idle.idle r w file writer k)

      after : Known of n (p.earlier ++ p.mine) (reader_next r x x.outcome) (writing_next w x.statement x.outcome) s.new s.new_writer
      after = subst (λ es. Known of n (p.earlier ++ es) (reader_next r x x.outcome) (writing_next w x.statement x.outcome) s.new s.new_writer) (sym s.split)
          (known_next of m n p.earlier s.front s.rest r w x file s.new writer s.new_writer s.shows s.writes (reads_in of m n (record { before = p.earlier; events = s.front }) nothing file s.new s.new_writer x x.statement x.outcome s.shows rooms_are.0) before)

      here : InPart x
      here = record { reader = r; writing = w; line = record { kept = kept; file = file; writer = writer; part = p; says = says; shown = s; known = before; here = rooms_are.0 } }

      idle_long : length sofar ≤ length p.earlier
      idle_long = let idles = ap length idle.is ∙ length-append sofar idle.idle in omega (arith, idles)

      -- it lies in this part, or behind it
      parted : (P : Type 0) (pre : List Event) (e : Event) (post : List Event) → history ≡ pre ++ e ∷ post → e.caller ≡ n → length sofar ≤ length pre → ((u v : List Event) → p.mine ≡ u ++ e ∷ v → pre ≡ p.earlier ++ u → P) → (finishes here ≤ length pre → P) → P
      parted P pre e post is own far in_it beyond = elim (either_part p.earlier (p.mine ++ p.later) pre e post (sym p.split ∙ is)) as (λ _. P) [
        | inl (u, front, later) ↦ elim (either_part sofar idle.idle pre e u (sym idle.is ∙ front)) as (λ _. P) [
          | inl (v, early, rest) ↦ let long = ap length early ∙ length-append pre (e ∷ v) in absurd (omega (arith, long, far))
          | inr (v, early, rest) ↦ absurd (none_there n idle.idle v e u rest idle.none own)
        ]
        | inr (u, front, later) ↦ elim (either_part p.mine p.later u e post later) as (λ _. P) [
          | inl (v, inside, rest) ↦ in_it u v inside front
          | inr (v, inside, rest) ↦ (let long = ap length front ∙ length-append p.earlier u in let more_long = ap length inside ∙ length-append p.mine v in beyond (omega (arith, long, more_long)))
        ]
      ]

      at_head : LineAround x (x ∷ ts) (length sofar)
      at_head = record {
        its = here;
        from = idle_long;
        each = λ pre e post is own far. parted (Around x here (x ∷ ts) pre e) pre e post is own far (λ u v in_it front. within u v in_it front) (λ ends. past ends);
      }

      in_rest : Among t ts → LineAround t ts (length (p.earlier ++ p.mine)) → LineAround t (x ∷ ts) (length sofar)
      in_rest later a =
          let both = length-append p.earlier p.mine in
          let from = a.from in
          let less : x.place + 1 ≤ t.place = among_later (x.place + 1) ts t rise.1 later in
          record {
            its = a.its;
            from = omega (arith, both, from, idle_long);
            each = λ pre e post is own far. parted (Around t a.its (x ∷ ts) pre e) pre e post is own far
                (λ u v in_it front. before_it x (inl refl) (omega (arith, less)) (record { its = here; first = u; later = v; in_it = in_it; before_is = front }) (omega (arith, both, from)))
                (λ ends. one_more x t a.its ts pre e (a.each pre e post is own (omega (arith, both, ends))));
          }

      by : Among t (x ∷ ts) → (Known of n (p.earlier ++ p.mine) (reader_next r x x.outcome) (writing_next w x.statement x.outcome) s.new s.new_writer → Among t ts → LineAround t ts (length (p.earlier ++ p.mine))) → LineAround t (x ∷ ts) (length sofar)
      by (inl same) more_of = subst (λ y. LineAround y (x ∷ ts) (length sofar)) (sym same) at_head
      by (inr later) more_of = in_rest later (more_of after later)

-- ---- among all lines

-- of lines that rise two of one place are one
pub one_line : (place : ℕ) (ts : List Told) (a b : Told) → Rise place ts → Among a ts → Among b ts → a.place ≡ b.place → a ≡ b
one_line place [] a b rise at also same = absurd at
one_line place (x ∷ ts) a b rise (inl p) (inl q) same = p ∙ sym q
one_line place (x ∷ ts) a b rise (inl p) (inr q) same = let far : x.place + 1 ≤ b.place = among_later (x.place + 1) ts b rise.1 q in let is : a.place ≡ x.place = ap (λ (z : Told). z.place) p in absurd (omega (arith, far, is, same))
one_line place (x ∷ ts) a b rise (inr p) (inl q) same = let far : x.place + 1 ≤ a.place = among_later (x.place + 1) ts a rise.1 p in let is : b.place ≡ x.place = ap (λ (z : Told). z.place) q in absurd (omega (arith, far, is, same))
one_line place (x ∷ ts) a b rise (inr p) (inr q) same = one_line (x.place + 1) ts a b rise.1 p q same

not_so : (b : Bool) → (b ≡ true → ⊥) → b ≡ false
not_so true never = absurd (never refl)
not_so false never = refl

module _ (run : Run) (m : Moment) (end : State) (fits : FitsScript run.script) (sound : IsSoundAt m) (right : IsRight run.script m.state run.lines end) where
  -- the line that made the call, in its part
  pub record Caller (pre : List Event) (e : Event) : Type 0 where
    pub t : Told
    pub is_line : IsLine run t
    pub reader : Option Told
    pub writing : Writing
    pub line : AnyLine run m end fits sound right reader writing t
    pub first : List Event
    pub later : List Event
    pub in_it : line.line.part.mine ≡ first ++ e ∷ later
    pub before_is : pre ≡ line.line.part.earlier ++ first
    pub own : e.caller ≡ line.number
    pub asks : MayAsk line.line.kept t.statement e.ask.call

  -- the line itself made it, it lies behind the line's part, or another line made it: one that ended before, or was made at the same time
  pub data Found (t : Told) (reader : Option Told) (writing : Writing) (l : AnyLine run m end fits sound right reader writing t) (pre : List Event) (e : Event) : Type 0 where
    itself : (first later : List Event) → l.line.part.mine ≡ first ++ e ∷ later → e.caller ≡ l.number → Found t reader writing l pre e
    behind : length l.line.part.earlier + length l.line.part.mine ≤ length pre → Found t reader writing l pre e
    by_other : (c : Caller pre e) → (c.t.place ≡ t.place → ⊥) → surely_before run t c.t ≡ false → (surely_before run c.t t ≡ false) ⊎ (length c.line.line.part.earlier + length c.line.line.part.mine ≤ length l.line.part.earlier) → Found t reader writing l pre e

  pub record Surrounded (t : Told) : Type 0 where
    pub reader : Option Told
    pub writing : Writing
    pub line : AnyLine run m end fits sound right reader writing t
    pub each : (pre : List Event) (e : Event) (post : List Event) → right.history ≡ pre ++ e ∷ post → (IsQuiet e.ask.call → ⊥) → Found t reader writing line pre e

  -- the law of this file
  pub surrounded : run.in_order ≡ false → (t : Told) → IsLine run t → Surrounded t
  surrounded free t is_line = record { reader = l.its.reader; writing = l.its.writing; line = record { number = n; line = l.its.line }; each = each }
    where
      c : ChainOf run m end fits sound right t.actor
      c = chain_of run m end fits sound right t is_line

      n : ℕ
      n = c.parts.number

      rise : Rise 0 (told run)
      rise = beside_rise 0 (phased 0 run.script.phases) run.lines

      l : LineAround m sound n right.history right.calls.blocks (whole_history run m end fits sound right) (length run.after.rooms) (container run m end fits sound right) t (own t.actor (told run)) 0
      l = line_around m sound n right.history right.calls.blocks (whole_history run m end fits sound right) (length run.after.rooms) (container run m end fits sound right) [] c.parts.kept None None (own t.actor (told run)) None none c.each c.rooms_are (nothing_known run m end fits sound right n) 0 (own_rise t.actor 0 (told run) rise) t (among_own (told run) t (among (told run) t is_line))

      Its : List Event → Event → Type 0
      Its pre e = Found t l.its.reader l.its.writing (record { number = n; line = l.its.line }) pre e

      by_own : (pre : List Event) (e : Event) → e.caller ≡ n → Around m sound n right.history right.calls.blocks (whole_history run m end fits sound right) (length run.after.rooms) (container run m end fits sound right) t l.its (own t.actor (told run)) pre e → Its pre e
      by_own pre e its (within first later in_it before) = itself first later in_it its
      by_own pre e its (past far) = behind far
      by_own pre e its (before_it s at less k ends) =
          let p = k.its.line.part in
          by_other
          (record {
            t = s;
            is_line = is_among (told run) s (among_filter (λ (x : Told). nat_eq x.actor t.actor) (told run) s at);
            reader = k.its.reader;
            writing = k.its.writing;
            line = record { number = n; line = k.its.line };
            first = k.first;
            later = k.later;
            in_it = k.in_it;
            before_is = k.before_is;
            own = its;
            asks = came_asks n (MayAsk k.its.line.kept s.statement) Anyhow (work_of k.its.line.kept s.statement) p.mine p.spent p.e (statement_asks k.its.line.kept s.statement) p.comes k.first e k.later k.in_it its;
          })
          (λ same. omega (arith, less, same))
          (not_so (surely_before run t s) (λ is. let early = is_less t.place s.place (both_true (nat_lt t.place s.place) (run.in_order || nat_lt t.phase s.phase || nat_eq t.actor s.actor) is).0 in omega (arith, early, less)))
          (inr ends)

      each : (pre : List Event) (e : Event) (post : List Event) → right.history ≡ pre ++ e ∷ post → (IsQuiet e.ask.call → ⊥) → Its pre e
      each pre e post is loud = elim (cases_eq e.caller n) as (λ _. Its pre e) [
        | inl its ↦ by_own pre e its (l.each pre e post is its (omega arith))
        | inr other ↦ other_one other
      ]
        where
          other_one : (e.caller ≡ n → ⊥) → Its pre e
          other_one other =
              let a = attributed run m end fits sound right pre e post is loud in
              let apart : a.t.actor ≡ t.actor → ⊥ = λ same. other (a.its_number ∙ c.parts.is_role a.role (ap (slice_get right.calls.roles) (sym same) ∙ a.role_there)) in
              let one : LinePart a.line.number right.history right.calls.blocks a.t = record { kept = a.line.line.kept; part = a.line.line.part; says = a.line.line.says } in
              let mine : LinePart n right.history right.calls.blocks t = record { kept = l.its.line.kept; part = l.its.line.part; says = l.its.line.says } in
              let front = ap length a.before_is ∙ length-append a.line.line.part.earlier a.first in
              let phases : (x y : Told) → (x.actor ≡ y.actor → ⊥) → surely_before run x y ≡ true → x.phase < y.phase = λ x y two sooner_so. phases_so x y two sooner_so in
              let maker : Caller pre e = record { t = a.t; is_line = a.is_line; reader = a.reader; writing = a.writing; line = a.line; first = a.first; later = a.later; in_it = a.in_it; before_is = a.before_is; own = a.own; asks = a.asks } in
              let places : a.t.place ≡ t.place → ⊥ = λ same. apart (ap (λ (z : Told). z.actor) (one_line 0 (told run) a.t t rise (among (told run) a.t a.is_line) (among (told run) t is_line) same)) in
              elim (surely_before run t a.t) as (λ b. surely_before run t a.t ≡ b → Its pre e) [
                | true ↦ λ sooner_so.
                    let ends = phases_apart n a.line.number right.history right.calls.blocks t a.t mine one (phases t a.t (λ same. apart (sym same)) sooner_so) in
                    behind (omega (arith, ends, front))
                | false ↦ λ not_sooner. elim (surely_before run a.t t) as (λ b. surely_before run a.t t ≡ b → Its pre e) [
                  | true ↦ λ sooner_so. by_other maker places not_sooner (inr (phases_apart a.line.number n right.history right.calls.blocks a.t t one mine (phases a.t t apart sooner_so)))
                  | false ↦ λ not_either. by_other maker places not_sooner (inl not_either)
                ] refl
              ] refl
            where
              phases_so : (x y : Told) → (x.actor ≡ y.actor → ⊥) → surely_before run x y ≡ true → x.phase < y.phase
              phases_so x y two sooner_so =
                  let both = both_true (nat_lt x.place y.place) (run.in_order || nat_lt x.phase y.phase || nat_eq x.actor y.actor) sooner_so in
                  elim (one_true run.in_order (nat_lt x.phase y.phase) (nat_eq x.actor y.actor) free both.1) as (λ _. x.phase < y.phase) [
                    | inl less ↦ is_less x.phase y.phase less
                    | inr same ↦ absurd (two (is_same x.actor y.actor same))
                  ]
