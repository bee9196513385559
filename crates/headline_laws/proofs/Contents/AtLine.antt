-- A line whose actor has a writer: the line that opened this one, and where the part of the line begins.
use Rattle.std.proofs.Common.{◌≡◌, ◌⊎◌, ◌≤◌, ◌<◌, ◌+◌, ◌||◌, inl, inr, ℕ, Bool, true, false, nat_eq, nat_lt, List, [], ◌∷◌, ◌++◌, length, Option, Some, None, refl, sym, ap, ◌∙◌, subst, arith, append_assoc, length-append, if◌then◌else◌}
use Rattle.std.specs.Prelude.{⊤, slice_get}
use Rattle.std.specs.List.{AllByRecursion}
use Rattle.container_layout.specs.Items.{IsItem}
use Rattle.container_layout.specs.declared.items.Item.TheVariants.{Index}
use Rattle.plain_file.proofs.Facts.{Among}
use Rattle.store_api.specs.Acts.{Stored}
use Rattle.mount_model.specs.Mounting.{IsMounted}
use Rattle.mount_model.specs.State.{State}
use Rattle.mount_sound.specs.Sound.{IsSoundTree}
use Rattle.reader_laws.specs.Moments.{Dropping, IsSoundAt, Moment}
use Rattle.reader_laws.proofs.Gathered.Facts.{among, is_among}
use Rattle.script_lang.specs.Ranges.{FitsScript}
use Rattle.script_lang.specs.declared.line.Outcome.{Outcome}
use Rattle.script_lang.specs.declared.line.Outcome.TheVariants as line
use Rattle.script_lang.specs.declared.script.Statement.{Statement}
use Rattle.script_lang.specs.declared.script.Statement.TheVariants as say
use Rattle.actor_core.specs.declared.kept.Kept.{Kept}
use Rattle.run_core.specs.Play.{IsRight}
use Rattle.headline_laws.specs.OneFile.{OneFile}
use Rattle.headline_laws.specs.OneWriter.{OneWriter}
use Rattle.headline_laws.proofs.Plays.Facts.{Next}
use Rattle.headline.specs.Run.{IsLine, Run, Says, Told, before, own, phased, surely_before, told}
use Rattle.headline.specs.Trees.{Has}
use Rattle.headline.specs.Writers.{Account, account, account_of, after_line, cap_of, host_of, nothing, told_of}
use Rattle.headline.specs.Files.{reader_after, reader_at, reader_next}
use Rattle.headline.specs.Changes.{Writing, id_of, none, writer_at, writing_after, writing_at, writing_next}
use Rattle.headline_laws.proofs.Contents.FirstOpen.{FirstOpen, OpensNot, all_first, all_rest, first_open}
use Rattle.headline_laws.proofs.Contents.OpenedWriter.{Behind, First, Home, Opening, Whole, account_is, entered_so, go, its, sound_first, started}
use Rattle.headline_laws.proofs.Landed.Bounded.{Keeps, idle_keeps}
use Rattle.headline_laws.proofs.Landed.Machines.{sync_latest, write_latest}
use Rattle.headline_laws.proofs.OrderlyLines.Answering.{among_own, own_rise}
use Rattle.headline_laws.proofs.OrderlyLines.Places.{Rise, beside_rise, own_split}
use Rattle.headline_laws.proofs.Statements.Known.{HasEntered, IsNotOpened, Known, entered_more, known_next, known_waits, same_next}
use Rattle.headline_laws.proofs.Statements.LivingLines.{never_opened}
use Rattle.headline_laws.proofs.Story.Apart.{both_true, halves, is_less, is_same, one_true}
use Rattle.headline_laws.proofs.Story.Attributed.{either_part}
use Rattle.headline_laws.proofs.Story.Lines.{AnyLine, ChainOf, HasRooms, chain_of, line_here, reads_in, room_here, shown_at, stands_behind, writing_append}
use Rattle.headline_laws.proofs.Story.Parts.{LinePart, PartOf, phases_apart}
use Rattle.headline_laws.proofs.Story.Shown.{IsShown, ShownEach}
use Rattle.headline_laws.proofs.Trees.Fresh.{number_new}
use Rattle.headline_laws.proofs.Trees.WriterStands.{was_open}
use Rattle.outcomes.specs.Data.{bytes_of}

-- ---- which writer the lines say

-- only the opening of a writer has the line of one
abbrev OpensByOpen : Statement → Outcome → Type 0
OpensByOpen s (line.Opened id) = (name : List ℕ) × (s ≡ say.Open name)
OpensByOpen s o = ⊤

abbrev Orderly : Told → Type 0
Orderly t = OpensByOpen t.statement t.outcome

same_id : (x y : ℕ) → Some x ≡ Some y → x ≡ y
same_id x y is = cc

open_next : (v : Writing) (s : Statement) (name : List ℕ) (id other : ℕ) → s ≡ say.Open name → id_of (writing_next v s (line.Opened other)) ≡ Some id → line.Opened other ≡ line.Opened id
open_next v s name id other is has = ap (λ k. line.Opened k) (same_id other id (subst (λ z. id_of (writing_next v z (line.Opened other)) ≡ Some id) is has))

line_latest : (id cap : ℕ) (a : Account) (s : Statement) (o : Outcome) → (after_line id cap a s o).latest ≡ a.latest
line_latest id cap a (say.Write at content) o = write_latest id cap at (bytes_of content) a o
line_latest id cap a say.Sync o = sync_latest a o
line_latest id cap a say.Close o = sync_latest a o
line_latest id cap a s o = refl

either_latest : (b : Bool) (x a : Account) → x.latest ≡ a.latest → (if b then x else a).latest ≡ a.latest
either_latest true x a same = same
either_latest false x a same = refl

told_latest : (id cap : ℕ) (a : Account) (s : Statement) (o : Outcome) → IsNotOpened o → (told_of id cap a s o).latest ≡ a.latest
told_latest id cap a s (line.Opened other) not = absurd not
told_latest id cap a s o not = either_latest a.latest (after_line id cap a s o) a (line_latest id cap a s o)

-- where the actor has it behind a line that opens it not, it had it before, and it is the latest still
record HadIt (id cap : ℕ) (a : Account) (v : Writing) (s : Statement) (o : Outcome) : Type 0 where
  pub had : id_of v ≡ Some id
  pub latest : (told_of id cap a s o).latest ≡ a.latest

had_it : (id cap : ℕ) (a : Account) (v : Writing) (s : Statement) (o : Outcome) → (o ≡ line.Opened id → ⊥) → OpensByOpen s o → id_of (writing_next v s o) ≡ Some id → HadIt id cap a v s o
had_it id cap a v s (line.Opened other) not (name, is) has = absurd (not (open_next v s name id other is has))
had_it id cap a v s o not by_open has = record { had = same_next v s o id tt has; latest = told_latest id cap a s o tt }

latest_stays : (id cap : ℕ) (ts : List Told) (a : Account) (v : Writing) → AllByRecursion (OpensNot id) ts → AllByRecursion Orderly ts → id_of (writing_after v ts) ≡ Some id → (id_of v ≡ Some id) × (a.latest ≡ true → (account_of id cap a ts).latest ≡ true)
latest_stays id cap [] a v not orderly has = (has, λ latest. latest)
latest_stays id cap (t ∷ ts) a v not orderly has =
    let r = latest_stays id cap ts (told_of id cap a t.statement t.outcome) (writing_next v t.statement t.outcome) not.1 orderly.1 has in
    let h = had_it id cap a v t.statement t.outcome not.0 orderly.0 r.0 in
    (h.had, λ latest. r.1 (h.latest ∙ latest))

-- a line of the actor opened it
pub record OpenedIn (id : ℕ) (ts : List Told) : Type 0 where
  pub line_of : Told
  pub among_them : Among line_of ts
  pub says : line_of.outcome ≡ line.Opened id

opened_or : (id : ℕ) (v : Writing) (s : Statement) (o : Outcome) → OpensByOpen s o → id_of (writing_next v s o) ≡ Some id → (id_of v ≡ Some id) ⊎ (o ≡ line.Opened id)
opened_or id v s (line.Opened other) (name, is) has = inr (open_next v s name id other is has)
opened_or id v s o by_open has = inl (same_next v s o id tt has)

opened_in : (id : ℕ) (ts : List Told) (v : Writing) → AllByRecursion Orderly ts → id_of (writing_after v ts) ≡ Some id → (id_of v ≡ Some id) ⊎ OpenedIn id ts
opened_in id [] v orderly has = inl has
opened_in id (t ∷ ts) v orderly has = by (opened_in id ts (writing_next v t.statement t.outcome) orderly.1 has)
  where
    here : (id_of v ≡ Some id) ⊎ (t.outcome ≡ line.Opened id) → (id_of v ≡ Some id) ⊎ OpenedIn id (t ∷ ts)
    here (inl had) = inl had
    here (inr says) = inr (record { line_of = t; among_them = inl refl; says = says })

    by : (id_of (writing_next v t.statement t.outcome) ≡ Some id) ⊎ OpenedIn id ts → (id_of v ≡ Some id) ⊎ OpenedIn id (t ∷ ts)
    by (inl had) = here (opened_or id v t.statement t.outcome orderly.0 had)
    by (inr o) = inr (record { line_of = o.line_of; among_them = inr o.among_them; says = o.says })

opened_from : (id : ℕ) (ts : List Told) → (id_of none ≡ Some id) ⊎ OpenedIn id ts → OpenedIn id ts
opened_from id ts (inl had) = absurd (let clash : None ≡ Some id = had in cc)
opened_from id ts (inr o) = o

either_own : (b : Bool) (t s : Told) (owned ts : List Told) → Among t (if b then s ∷ owned else owned) → (Among t owned → Among t ts) → Among t (s ∷ ts)
either_own true t s owned ts (inl same) more = inl same
either_own true t s owned ts (inr rest) more = inr (more rest)
either_own false t s owned ts rest more = inr (more rest)

pub own_line : (actor : ℕ) (ts : List Told) (t : Told) → Among t (own actor ts) → Among t ts
own_line actor [] t at = absurd at
own_line actor (s ∷ ts) t at = either_own (nat_eq s.actor actor) t s (own actor ts) ts at (λ rest. own_line actor ts t rest)

all_of : (P : Told → Type 0) (ts : List Told) → ((t : Told) → Among t ts → P t) → AllByRecursion P ts
all_of P [] each = tt
all_of P (t ∷ ts) each = (each t (inl refl), all_of P ts (λ s at. each s (inr at)))

among_first : (t : Told) (xs ys : List Told) → Among t xs → Among t (xs ++ ys)
among_first t [] ys at = absurd at
among_first t (x ∷ xs) ys (inl same) = inl same
among_first t (x ∷ xs) ys (inr at) = inr (among_first t xs ys at)

pub none_among : (id : ℕ) (ts : List Told) (t : Told) → AllByRecursion (OpensNot id) ts → Among t ts → t.outcome ≡ line.Opened id → ⊥
none_among id [] t opens at says = absurd at
none_among id (x ∷ ts) t opens (inl same) says = opens.0 (ap (λ (z : Told). z.outcome) (sym same) ∙ says)
none_among id (x ∷ ts) t opens (inr at) says = none_among id ts t opens.1 at says

module _ (run : Run) (times : Option (List ℕ)) (mount : Stored) (start end : State) (fits : FitsScript run.script) (mounted : IsMounted 0 times mount start) (tells : mount.tree ≡ Some run.before) (sound : IsSoundTree run.before)
    (right : IsRight run.script start run.lines end) (left : end.store.tree ≡ Some run.after) where
  abbrev Begins : Moment
  Begins = First run times mount start end fits mounted tells sound right left

  abbrev sound_begins : IsSoundAt Begins
  sound_begins = sound_first run times mount start end fits mounted tells sound right left

  abbrev WholeOf : Next Begins [] right.history
  WholeOf = Whole run times mount start end fits mounted tells sound right left

  abbrev HomeOf : Told → ℕ
  HomeOf t = Home run times mount start end fits mounted tells sound right left t

  line_orderly : (t : Told) → IsLine run t → Orderly t
  line_orderly t is_line = by t.outcome refl
    where
      by : (o : Outcome) → t.outcome ≡ o → OpensByOpen t.statement o
      by (line.Opened id) is = (let l = line_here run Begins end fits sound_begins right t is_line in was_open l.line.kept t.statement l.line.part.e id (sym l.line.says ∙ is) l.line.part.ended)
      by o is = tt

  own_orderly : (actor : ℕ) → AllByRecursion Orderly (own actor (told run))
  own_orderly actor = all_of Orderly (own actor (told run)) (λ t at. line_orderly t (is_among (told run) t (own_line actor (told run) t at)))

  -- where the part of the line t begins: the writer is that of its actor, and what is kept of it
  pub record AtLine (t : Told) (id : ℕ) : Type 0 where
    pub c : ChainOf run Begins end fits sound_begins right t.actor
    pub d : Dropping
    pub home_is : (o : Told) → Says run o (line.Opened id) → d ≡ record { room = HomeOf o; host = host_of (slice_get run.script.actors o.actor); writer = id }
    pub cap : ℕ
    pub kept : Kept
    pub file : Option OneFile
    pub writer : Option OneWriter
    pub p : PartOf c.parts.number right.history right.calls.blocks kept t.phase t.statement
    pub says : t.outcome ≡ p.e.outcome
    pub shown : IsShown Begins sound_begins c.parts.number right.history right.calls.blocks WholeOf kept file writer t p.earlier p.mine
    pub acc : Account
    pub latest : acc.latest ≡ true
    pub entered : HasEntered c.parts.number p.earlier d
    pub keeps : Keeps Begins sound_begins c.parts.number right.history right.calls.blocks WholeOf cap d p.earlier kept acc
    -- the line that opened it, and those before, between and behind
    pub pre : List Told
    pub o : Told
    pub between : List Told
    pub rest : List Told
    pub opens : o.outcome ≡ line.Opened id
    pub before_is : own t.actor (before run t) ≡ pre ++ o ∷ between
    pub all_is : own t.actor (told run) ≡ pre ++ o ∷ (between ++ t ∷ rest)
    pub account_so : account run t.actor id (before run t) ≡ acc
    -- its container, and the actor's lines behind it
    pub reader : Option Told
    pub writing : Writing
    pub known : Known HomeOf c.parts.number p.earlier reader writing file writer
    pub here : HomeOf t ≡ room_here Begins sound_begins c.parts.number right.history right.calls.blocks WholeOf (length run.after.rooms) shown
    pub more : ShownEach Begins sound_begins c.parts.number right.history right.calls.blocks WholeOf (p.earlier ++ p.mine) p.e.kept shown.new shown.new_writer rest
    pub rooms_are : HasRooms Begins sound_begins c.parts.number right.history right.calls.blocks WholeOf (length run.after.rooms) HomeOf (p.earlier ++ p.mine) p.e.kept shown.new shown.new_writer rest more

  module _ (t : Told) (id : ℕ) (is_line : IsLine run t) (its_id : writer_at run t ≡ Some id) where
    abbrev pub Earlier : List Told
    Earlier = own t.actor (before run t)

    abbrev c : ChainOf run Begins end fits sound_begins right t.actor
    c = chain_of run Begins end fits sound_begins right t is_line

    abbrev pub rest : List Told
    rest = (own_split run t (among (told run) t is_line)).rest

    pub split : own t.actor (told run) ≡ Earlier ++ t ∷ rest
    split = (own_split run t (among (told run) t is_line)).is

    orderly : AllByRecursion Orderly (Earlier ++ t ∷ rest)
    orderly = subst (AllByRecursion Orderly) split (own_orderly t.actor)

    pub opener : OpenedIn id Earlier
    opener = opened_from id Earlier (opened_in id Earlier none (all_first Orderly Earlier (t ∷ rest) orderly) its_id)

    pub fo : FirstOpen id (own t.actor (told run))
    fo = first_open id (own t.actor (told run)) opener.line_of (subst (Among opener.line_of) (sym split) (among_first opener.line_of Earlier (t ∷ rest) opener.among_them)) opener.says

    abbrev b : Opening run times mount start end fits mounted tells sound right left t.actor c id fo.o.phase fo.post []
    b = started run times mount start end fits mounted tells sound right left t.actor c id fo.pre fo.o fo.post fo.is fo.says

    -- it stands behind the one that opened it
    module _ (u : List Told) (earlier_is : Earlier ≡ fo.pre ++ fo.o ∷ u) (post_is : fo.post ≡ u ++ t ∷ rest) where
      abbrev acc : Account
      acc = account_of b.d.writer b.cap (nothing true) u

      not_again : AllByRecursion (OpensNot b.d.writer) u
      not_again = all_first (OpensNot b.d.writer) u (t ∷ rest) (subst (AllByRecursion (OpensNot b.d.writer)) post_is
          (never_opened Begins sound_begins c.parts.number right.history right.calls.blocks WholeOf b.d (b.earlier ++ b.mine) b.kept b.file b.writer fo.post b.more (entered_so run times mount start end fits mounted tells sound right left t.actor c id fo.o.phase fo.post [] b)))

      orderly_u : AllByRecursion Orderly u
      orderly_u = (all_rest Orderly fo.pre (fo.o ∷ u) (subst (AllByRecursion Orderly) earlier_is (all_first Orderly Earlier (t ∷ rest) orderly))).1

      writing_u : id_of (writing_after (writing_next (writing_after none fo.pre) fo.o.statement fo.o.outcome) u) ≡ Some b.d.writer
      writing_u = ap id_of (sym (writing_append none fo.pre fo.o u)) ∙ ap (λ ts. id_of (writing_after none ts)) (sym earlier_is) ∙ its_id ∙ ap (λ k. Some k) (sym b.its_id)

      latest : acc.latest ≡ true
      latest = (latest_stays b.d.writer b.cap u (nothing true) (writing_next (writing_after none fo.pre) fo.o.statement fo.o.outcome) not_again orderly_u writing_u).1 refl

      begun : Behind run times mount start end fits mounted tells sound right left t.actor c id fo.o.phase fo.post [] b u (t ∷ rest) → AtLine t id
      begun T = by T.more T.rooms_are
        where
          by : (each : ShownEach Begins sound_begins c.parts.number right.history right.calls.blocks WholeOf T.from T.kept T.file T.writer (t ∷ rest)) → HasRooms Begins sound_begins c.parts.number right.history right.calls.blocks WholeOf (length run.after.rooms) HomeOf T.from T.kept T.file T.writer (t ∷ rest) each → AtLine t id
          by (p, told_so, idle, s, more) rooms_are = record {
            c = c;
            d = b.d;
            home_is = λ o opens. (let i = its run times mount start end fits mounted tells sound right left o id opens t.actor c fo.o.phase fo.post [] b in λ k. record { room = i.room k; host = i.host k; writer = b.its_id k });
            cap = b.cap;
            kept = T.kept;
            file = T.file;
            writer = T.writer;
            p = p;
            says = told_so;
            shown = s;
            acc = acc;
            latest = latest;
            entered = subst (λ es. HasEntered c.parts.number es b.d) (sym idle.is) (entered_more c.parts.number T.from idle.idle b.d T.entered);
            keeps = idle_keeps Begins sound_begins c.parts.number right.history right.calls.blocks WholeOf b.cap b.d T.from p.earlier (p.mine ++ p.later) T.kept acc p.split idle T.keeps;
            pre = fo.pre;
            o = fo.o;
            between = u;
            rest = rest;
            opens = fo.says;
            before_is = earlier_is;
            all_is = fo.is ∙ ap (λ z. fo.pre ++ fo.o ∷ z) post_is;
            account_so = ap (account_of id (cap_of (slice_get run.script.actors t.actor)) (nothing false)) earlier_is ∙ account_is run times mount start end fits mounted tells sound right left t.actor c id fo.o.phase fo.post [] b fo.pre fo.o u fo.says;
            reader = reader_after b.reader u;
            writing = writing_after b.writing u;
            known = subst (λ es. Known HomeOf c.parts.number es (reader_after b.reader u) (writing_after b.writing u) T.file T.writer) (sym idle.is) (known_waits HomeOf c.parts.number T.from idle.idle (reader_after b.reader u) (writing_after b.writing u) T.file T.writer T.known);
            here = rooms_are.0;
            more = more;
            rooms_are = rooms_are.1;
          }

    pub at_line : AtLine t id
    at_line = by (either_part Earlier (t ∷ rest) fo.pre fo.o fo.post (sym split ∙ fo.is))
      where
        by : ((u : List Told) × (Earlier ≡ fo.pre ++ fo.o ∷ u) × (fo.post ≡ u ++ t ∷ rest)) ⊎ ((u : List Told) × (fo.pre ≡ Earlier ++ u) × (t ∷ rest ≡ u ++ fo.o ∷ fo.post)) → AtLine t id
        by (inl (u, earlier_is, post_is)) = begun u earlier_is post_is (go run times mount start end fits mounted tells sound right left t.actor c id fo.o.phase fo.post [] b u (t ∷ rest) post_is)
        by (inr (u, pre_is, rest_is)) = absurd (none_among id Earlier opener.line_of (all_first (OpensNot id) Earlier u (subst (AllByRecursion (OpensNot id)) pre_is fo.none)) opener.among_them opener.says)

    -- no writer of the tree before has its number
    pub not_old : (n host : ℕ) → IsItem (Index host id) → Has run.before n (Index host id) → ⊥
    not_old n host is_item has =
        let at : IsLine run opener.line_of = is_among (told run) opener.line_of (own_line t.actor (told run) opener.line_of (subst (Among opener.line_of) (sym split) (among_first opener.line_of Earlier (t ∷ rest) opener.among_them))) in
        number_new run times mount start end fits mounted tells sound right opener.line_of id n host (record { is_line = at; says = opener.says }) is_item has

  -- ---- a line that is surely behind another

  -- its part lies behind that of the other
  pub record LiesBehind (t : Told) (id : ℕ) (i : AtLine t id) (q : Told) : Type 0 where
    pub reader : Option Told
    pub writing : Writing
    pub its_line : AnyLine run Begins end fits sound_begins right reader writing q
    pub behind : length i.p.earlier + length i.p.mine ≤ length its_line.line.part.earlier

  module _ (t : Told) (id : ℕ) (i : AtLine t id) (q : Told) (is_line : IsLine run q) where
    of_actor : t.place < q.place → q.actor ≡ t.actor → LiesBehind t id i q
    of_actor far same =
        let there : Among q (own t.actor (told run)) = subst (λ a. Among q (own a (told run))) same (among_own (told run) q (among (told run) q is_line)) in
        let rise : Rise 0 (own t.actor (told run)) = own_rise t.actor 0 (told run) (beside_rise 0 (phased 0 run.script.phases) run.lines) in
        let all : own t.actor (told run) ≡ (i.pre ++ i.o ∷ i.between) ++ t ∷ i.rest = i.all_is ∙ sym (append_assoc i.pre (i.o ∷ i.between) (t ∷ i.rest)) in
        let at : Among q i.rest = stands_behind run Begins end fits sound_begins right t q (i.pre ++ i.o ∷ i.between) i.rest 0 (subst (Rise 0) all rise) far (subst (Among q) all there) in
        let h = halves q i.rest at in
        from h.front h.rest h.is (subst Chain h.is (i.more, i.rooms_are))
      where
        Chain : List Told → Type 0
        Chain ts =
            (each : ShownEach Begins sound_begins i.c.parts.number right.history right.calls.blocks WholeOf (i.p.earlier ++ i.p.mine) i.p.e.kept i.shown.new i.shown.new_writer ts)
            × HasRooms Begins sound_begins i.c.parts.number right.history right.calls.blocks WholeOf (length run.after.rooms) HomeOf (i.p.earlier ++ i.p.mine) i.p.e.kept i.shown.new i.shown.new_writer ts each

        from : (front rest : List Told) → i.rest ≡ front ++ q ∷ rest → Chain (front ++ q ∷ rest) → LiesBehind t id i q
        from front rest is (each, rooms_are) =
            let s = i.shown in
            let after = known_next HomeOf Begins i.c.parts.number i.p.earlier s.front s.rest i.reader i.writing t i.file s.new i.writer s.new_writer s.shows s.writes
            (reads_in HomeOf Begins i.c.parts.number (record { before = i.p.earlier; events = s.front }) (length run.after.rooms) i.file s.new s.new_writer t t.statement t.outcome s.shows i.here) i.known in
            let known_then = subst (λ es. Known HomeOf i.c.parts.number (i.p.earlier ++ es) (reader_next i.reader t t.outcome) (writing_next i.writing t.statement t.outcome) s.new s.new_writer) (sym s.split) after in
            let l = shown_at Begins sound_begins i.c.parts.number right.history right.calls.blocks WholeOf (length run.after.rooms) HomeOf front q rest (i.p.earlier ++ i.p.mine) i.p.e.kept s.new s.new_writer (reader_next i.reader t t.outcome) (writing_next i.writing t.statement t.outcome) each rooms_are known_then in
            let far = l.1 in
            let long = length-append i.p.earlier i.p.mine in
            record {
              reader = reader_after (reader_next i.reader t t.outcome) front;
              writing = writing_after (writing_next i.writing t.statement t.outcome) front;
              its_line = record { number = i.c.parts.number; line = l.0 };
              behind = omega (arith, far, long);
            }

    of_phase : t.phase < q.phase → LiesBehind t id i q
    of_phase sooner =
        let l = line_here run Begins end fits sound_begins right q is_line in
        let one : LinePart i.c.parts.number right.history right.calls.blocks t = record { kept = i.kept; part = i.p; says = i.says } in
        let other : LinePart l.number right.history right.calls.blocks q = record { kept = l.line.kept; part = l.line.part; says = l.line.says } in
        record { reader = reader_at run q; writing = writing_at run q; its_line = l; behind = phases_apart i.c.parts.number l.number right.history right.calls.blocks t q one other sooner }

    pub lies_behind : run.in_order ≡ false → surely_before run t q ≡ true → LiesBehind t id i q
    lies_behind free sooner =
        let places = both_true (nat_lt t.place q.place) (run.in_order || nat_lt t.phase q.phase || nat_eq t.actor q.actor) sooner in
        elim (one_true run.in_order (nat_lt t.phase q.phase) (nat_eq t.actor q.actor) free places.1) as (λ _. LiesBehind t id i q) [
          | inl phases ↦ of_phase (is_less t.phase q.phase phases)
          | inr same ↦ of_actor (is_less t.place q.place places.0) (sym (is_same t.actor q.actor same))
        ]
