-- One line of the actor of a writer: behind it as much has landed as the lines tell, where it was so before.
use Rattle.std.proofs.Common.{◌≡◌, ◌⊎◌, ◌≤◌, inl, inr, ℕ, Bool, true, false, nat_eq, List, [], ◌++◌, length, Option, Some, None, refl, sym, ap, ◌∙◌, subst, arith, if◌then◌else◌}
use Rattle.std.proofs.lemmas.Bool.Decides.{nat_tests}
use Rattle.mount_model.specs.History.{Event}
use Rattle.mount_model.proofs.Facts.{IsOnNoWriter}
use Rattle.mount_sound.specs.Owed.{IsLawful}
use Rattle.writer_laws.specs.Waiting.{LetsBe}
use Rattle.reader_laws.specs.Moments.{Dropping, IsSoundAt, Moment, landed, moment_after}
use Rattle.reader_laws.proofs.Gathered.Facts.{legal_first, legal_rest, moment-append}
use Rattle.writer_flow.specs.declared.handle.WriterHandle.{WriterHandle}
use Rattle.script_lang.specs.declared.line.Outcome.{Outcome}
use Rattle.script_lang.specs.declared.line.Outcome.TheVariants as line
use Rattle.script_lang.specs.declared.line.Why.TheVariants.{AlreadyOpen, NotOpen}
use Rattle.script_lang.specs.declared.script.Data.{Data}
use Rattle.script_lang.specs.declared.script.Statement.{Statement}
use Rattle.script_lang.specs.declared.script.Statement.TheVariants as say
use Rattle.index_reader.specs.declared.opened.OpenReader.{OpenReader}
use Rattle.outcomes.specs.Data.{bytes_of}
use Rattle.actor_core.specs.declared.kept.Kept.{Kept}
use Rattle.actor_core.specs.declared.kept.Stop.{Stop}
use Rattle.actor_core.specs.Endings.{gone}
use Rattle.actor_core.specs.Statements.{disarmed, does, work_of}
use Rattle.actor_core.specs.Work.{finishes}
use Rattle.actor_core.specs.Writers.{closes, syncs, writes as writes_statement}
use Rattle.run_core.specs.Leading.{HadMemory}
use Rattle.headline_laws.specs.Ending.{DoesNothing}
use Rattle.headline_laws.specs.OneFile.{OneFile}
use Rattle.headline_laws.specs.OneWriter.{OneWriter}
use Rattle.headline_laws.specs.Writing.{ShowsWriting}
use Rattle.headline_laws.proofs.Plays.Facts.{ComesTo, GoesSo, IsSparing, KeepsIts, LetsUpTo, Next, Writes, came_good, came_up_to, lets_both, lets_none, next_first, statement_spares}
use Rattle.headline.specs.Run.{Told}
use Rattle.headline.specs.Causes.{WasMade}
use Rattle.headline.specs.Writers.{Account, after_line, after_sync, after_write, any_landed, nothing, told_of}
use Rattle.headline_laws.proofs.Contents.Entering.{never_twice, opens_in}
use Rattle.headline_laws.proofs.Landed.Lasting.{AfterSpared, after_spared, holds_still, memory_rest, out, still}
use Rattle.headline_laws.proofs.Landed.Between.{AtPlace}
use Rattle.headline_laws.proofs.Landed.Gone.{HasGone}
use Rattle.headline_laws.proofs.Landed.Machines.{Greeted, IsOpenSo, IsOutSo, KeepsTo, alive_does, close_departs, closes_end, greets, syncs_end, writes_end}
use Rattle.headline_laws.proofs.Landed.Settled.{IsSettled, settled_later}
use Rattle.headline_laws.proofs.Landed.Writes.{HoldsNow}
use Rattle.headline_laws.proofs.Statements.Did.{Did, Had, IsOfKindOr, IsOpen, IsThere, OpensSo, WritesSo}
use Rattle.headline_laws.proofs.Statements.Does.{Ended, did, was_gone}
use Rattle.headline_laws.proofs.Statements.Known.{HasEntered, IsNotOpened, KeepsOld, OpensNew, entered_more, writer_step}
use Rattle.headline_laws.proofs.Story.Parts.{Idles, PartOf}
use Rattle.headline_laws.proofs.Story.Shown.{IsShown, here_next}

-- ---- what is told of a line

true_not_false : (b : Bool) → b ≡ true → b ≡ false → ⊥
true_not_false b x y = cc

-- a statement opens no writer where its actor has one
pub none_opened : (writer : Option WriterHandle) (handle : WriterHandle) (reader : Option OpenReader) (s : Statement) (o : Outcome) → writer ≡ Some handle → IsOfKindOr s o → (WasMade o → Had writer reader s) → IsNotOpened o
none_opened writer handle reader (say.Open name) (line.Opened id) has kind uses = absurd (let none : writer ≡ None = uses tt in let clash : Some handle ≡ None = sym has ∙ none in cc)
none_opened writer handle reader s (line.Opened id) has kind uses = absurd kind
none_opened writer handle reader s o has kind uses = tt

-- the account behind a line that opens none
told_line : (id cap : ℕ) (acc : Account) (s : Statement) (o : Outcome) → IsNotOpened o → acc.latest ≡ true → told_of id cap acc s o ≡ after_line id cap acc s o
told_line id cap acc s (line.Opened other) not latest = absurd not
told_line id cap acc s o not latest = ap (λ b. if b then after_line id cap acc s o else acc) latest

told_other : (id cap : ℕ) (acc : Account) (s : Statement) (o : Outcome) → IsNotOpened o → acc.latest ≡ false → told_of id cap acc s o ≡ acc
told_other id cap acc s (line.Opened other) not latest = absurd not
told_other id cap acc s o not latest = ap (λ b. if b then after_line id cap acc s o else acc) latest

gone_same : (id cap : ℕ) (acc : Account) (s : Statement) → after_line id cap acc s line.Gone ≡ acc
gone_same id cap acc (say.Write at content) = refl
gone_same id cap acc say.Sync = refl
gone_same id cap acc say.Close = refl
gone_same id cap acc s = refl

gone_told : (id cap : ℕ) (acc : Account) (s : Statement) → told_of id cap acc s line.Gone ≡ acc
gone_told id cap acc s = elim acc.latest as (λ b. (if b then after_line id cap acc s line.Gone else acc) ≡ acc) [
  | true ↦ gone_same id cap acc s
  | false ↦ refl
]

-- an actor without a writer has none behind a line that opens none
none_stays : (is : Option WriterHandle) → (IsThere is → ⊥) → is ≡ None
none_stays None not = refl
none_stays (Some handle) not = absurd (not tt)

open_none : (o : Outcome) (is : Option WriterHandle) → IsNotOpened o → OpensSo None o is → is ≡ None
open_none (line.Opened id) is not writes = absurd not
open_none (line.Refused AlreadyOpen) is not writes = none_stays is writes.1
open_none o is not writes = writes

writer_none : (s : Statement) (o : Outcome) (is : Option WriterHandle) → IsNotOpened o → WritesSo None s o is → is ≡ None
writer_none (say.Open name) o is not writes = open_none o is not writes
writer_none say.Close (line.Closed count) is not writes = writes
writer_none say.Close o is not writes = none_stays is writes
writer_none s o is not writes = none_stays is writes.1

-- where it does nothing, the line is one of these
by_nothing : (P : Account → Type 0) (after : Outcome → Account) (o : Outcome) → DoesNothing NotOpen o → P (after (line.Refused NotOpen)) → P (after line.Gone) → P (after o)
by_nothing P after (line.Refused why) does refuses gone_so = subst (λ w. P (after (line.Refused w))) (sym does) refuses
by_nothing P after line.Gone does refuses gone_so = gone_so
by_nothing P after o does refuses gone_so = absurd does

-- ---- a line

module _ (m : Moment) (sound : IsSoundAt m) (n : ℕ) (history : List Event) (blocks : List (List Event)) (whole : Next m [] history) (cap : ℕ) (d : Dropping) where
  abbrev pub Keeps : List Event → Kept → Account → Type 0
  Keeps done kept acc = KeepsTo n d cap (moment_after m done) kept acc

  -- while its actor makes no call
  pub idle_keeps : (done later rest : List Event) (kept : Kept) (acc : Account) → history ≡ later ++ rest → Idles n history blocks done later → Keeps done kept acc → Keeps later kept acc
  idle_keeps done later rest kept acc is i keeps = subst (λ x. KeepsTo n d cap x kept acc) ends (by keeps)
    where
      now : Moment
      now = moment_after m done

      ends : moment_after now i.idle ≡ moment_after m later
      ends = sym (moment-append m done i.idle) ∙ ap (moment_after m) (sym i.is)

      lawful : IsLawful now.state i.idle
      lawful = legal_rest m done i.idle (legal_first m (done ++ i.idle) rest (subst (IsLawful m.state) (is ∙ ap (λ z. z ++ rest) i.is) whole.lawful))

      by : KeepsTo n d cap now kept acc → KeepsTo n d cap (moment_after now i.idle) kept acc
      by (inl o) = let h = holds_still n d now o.row acc i.idle o.at o.holds lawful (lets_none n d.writer i.idle i.none) in inl (record { latest = o.latest; handle = o.handle; row = o.row; keeps = o.keeps; is = o.is; told = o.told; at = h.at; holds = h.holds })
      by (inr o) = inr (record { settled = settled_later now i.idle d acc o.settled lawful; idle = o.idle })

  module _ (kept : Kept) (file : Option OneFile) (writer : Option OneWriter) (t : Told) (p : PartOf n history blocks kept t.phase t.statement) (says : t.outcome ≡ p.e.outcome) (s : IsShown m sound n history blocks whole kept file writer t p.earlier p.mine) (acc : Account) where
    abbrev now : Moment
    now = moment_after m p.earlier

    next : Next m p.earlier p.mine
    next = next_first m p.earlier p.mine p.later (here_next m sound n history blocks whole p.earlier p.mine p.later p.split)

    abbrev P : Account → Type 0
    P a = KeepsTo n d cap (moment_after now p.mine) p.e.kept a

    comes_so : (z : Statement) → t.statement ≡ z → ComesTo n (work_of kept z) p.mine p.spent p.e
    comes_so z is = subst (λ x. ComesTo n (work_of kept x) p.mine p.spent p.e) is p.comes

    -- an actor that was stopped but greets
    gone_lets : kept.gone ≡ true → LetsBe n d.writer p.mine
    gone_lets is = by (greets n kept t.statement p.mine p.spent p.e p.comes)
      where
        by : Greeted n kept t.statement p.mine p.spent p.e → LetsBe n d.writer p.mine
        by g =
            let over = subst (λ b. ComesTo n (if b then finishes (gone g.left) else does (disarmed g.left) g.left.armed t.statement) g.rest p.spent p.e) (g.gone_is ∙ is) g.comes in
            subst (LetsBe n d.writer) (sym g.all) (lets_both n d.writer g.first g.rest (g.lets_be d.writer) (subst (LetsBe n d.writer) (sym over.0) (lets_none n d.writer [] refl)))

    -- ---- of a writer that is open

    module _ (o : IsOpenSo n d cap now kept acc) where
      gone_open : kept.gone ≡ true → p.e.outcome ≡ line.Gone → p.e.kept.gone ≡ true → P (told_of d.writer cap acc t.statement t.outcome)
      gone_open is over after =
          let h = holds_still n d now o.row acc p.mine o.at o.holds next.lawful (gone_lets is) in
          let same : told_of d.writer cap acc t.statement t.outcome ≡ acc = ap (told_of d.writer cap acc t.statement) (says ∙ over) ∙ gone_told d.writer cap acc t.statement in
          subst P (sym same) (inl (record { latest = o.latest; handle = o.handle; row = o.row; keeps = λ alive. absurd (true_not_false p.e.kept.gone after alive); is = o.is; told = o.told; at = h.at; holds = h.holds }))

      module _ (alive : kept.gone ≡ false) (dd : Did kept.armed false None kept.writer kept.reader t.statement p.e) where
        not_opened : IsNotOpened t.outcome
        not_opened = subst IsNotOpened (sym says) (none_opened kept.writer o.handle kept.reader t.statement p.e.outcome (o.keeps alive) dd.kind dd.uses)

        by_after : (z : Statement) → t.statement ≡ z → P (after_line d.writer cap acc z p.e.outcome) → P (told_of d.writer cap acc t.statement t.outcome)
        by_after z is good = subst P (ap (λ x. after_line d.writer cap acc x p.e.outcome) (sym is) ∙ ap (after_line d.writer cap acc t.statement) (sym says) ∙ sym (told_line d.writer cap acc t.statement t.outcome not_opened o.latest)) good

        -- a statement on no writer
        spared_line : (z : Statement) → t.statement ≡ z → IsSparing (Some o.handle) z → P acc
        spared_line z is spares = by (after_spared n d now o.row acc p.mine p.e o.at o.holds next.lawful next.had up)
          where
            goes : GoesSo IsOnNoWriter (KeepsIts kept.writer) (work_of kept z)
            goes = statement_spares kept z (subst (λ w. IsSparing w z) (sym (o.keeps alive)) spares)

            up : LetsUpTo n d.writer p.mine p.e
            up = came_up_to n d.writer (KeepsIts kept.writer) (work_of kept z) p.mine p.spent p.e goes (comes_so z is)

            same : p.e.kept.writer ≡ kept.writer
            same = came_good n IsOnNoWriter (KeepsIts kept.writer) (work_of kept z) p.mine p.spent p.e goes (comes_so z is)

            by : AfterSpared n d now o.row acc p.mine p.e → P acc
            by (still h) = inl (record { latest = o.latest; handle = o.handle; row = o.row; keeps = λ alive_then. same ∙ o.keeps alive; is = o.is; told = o.told; at = h.at; holds = h.holds })
            by (out over settled) = inr (record { settled = settled; idle = λ latest. inl over })

        -- the statement itself, behind a greeting
        pub record AtStatement (z : Statement) : Type 0 where
          pub left : Kept
          pub armed : Option Stop
          pub has : left.writer ≡ Some o.handle
          pub mid : Moment
          pub rest : List Event
          pub at : AtPlace mid n d o.row
          pub holds : HoldsNow mid d o.row acc
          pub lawful : IsLawful mid.state rest
          pub had : HadMemory rest
          pub comes : ComesTo n (does left armed z) rest p.spent p.e
          pub ends : moment_after mid rest ≡ moment_after now p.mine

        pub at_statement : (z : Statement) → t.statement ≡ z → AtStatement z
        at_statement z is =
            let g = greets n kept z p.mine p.spent p.e (comes_so z is) in
            let both : IsLawful now.state (g.first ++ g.rest) = subst (IsLawful now.state) g.all next.lawful in
            let h = holds_still n d now o.row acc g.first o.at o.holds (legal_first now g.first g.rest both) (g.lets_be d.writer) in
            record {
              left = disarmed g.left;
              armed = g.left.armed;
              has = g.writer ∙ o.keeps alive;
              mid = moment_after now g.first;
              rest = g.rest;
              at = h.at;
              holds = h.holds;
              lawful = legal_rest now g.first g.rest both;
              had = memory_rest g.first g.rest (subst HadMemory g.all next.had);
              comes = alive_does n g.left z g.rest p.spent p.e (g.gone_is ∙ alive) g.comes;
              ends = sym (moment-append now g.first g.rest) ∙ ap (moment_after now) (sym g.all);
            }

        stays : (z : Statement) → t.statement ≡ z → WritesSo kept.writer z p.e.outcome p.e.kept.writer
        stays z is = subst (λ x. WritesSo kept.writer x p.e.outcome p.e.kept.writer) is dd.writes

        is_open : o.handle.closing ≡ false → IsOpen kept.writer
        is_open fresh = subst IsOpen (sym (o.keeps alive)) fresh

        write_here : (at : ℕ) (content : Data) → t.statement ≡ say.Write at content → P (after_write d.writer cap at (bytes_of content) acc p.e.outcome)
        write_here at content is =
            let a = at_statement (say.Write at content) is in
            subst (λ x. KeepsTo n d cap x p.e.kept (after_write d.writer cap at (bytes_of content) acc p.e.outcome)) a.ends
            (writes_end n d cap a.left a.armed o.handle a.has a.mid o.row acc o.latest o.is o.told a.at a.holds at content a.rest p.spent p.e (λ fresh. (stays (say.Write at content) is).0 (is_open fresh)) a.lawful a.had
            (subst (λ w. ComesTo n (writes_statement a.left a.armed at (bytes_of content) w) a.rest p.spent p.e) a.has a.comes))

        sync_here : t.statement ≡ say.Sync → P (after_sync acc p.e.outcome)
        sync_here is =
            let a = at_statement say.Sync is in
            subst (λ x. KeepsTo n d cap x p.e.kept (after_sync acc p.e.outcome)) a.ends
            (syncs_end n d cap a.left a.armed o.handle a.has a.mid o.row acc o.latest o.is o.told a.at a.holds a.rest p.spent p.e (λ fresh. (stays say.Sync is).0 (is_open fresh)) a.lawful a.had
            (subst (λ w. ComesTo n (syncs a.left a.armed w) a.rest p.spent p.e) a.has a.comes))

        close_here : t.statement ≡ say.Close → P (after_sync acc p.e.outcome)
        close_here is =
            let a = at_statement say.Close is in
            subst (λ x. KeepsTo n d cap x p.e.kept (after_sync acc p.e.outcome)) a.ends
            (closes_end n d cap a.left a.armed o.handle a.has a.mid o.row acc o.latest o.is o.told a.at a.holds a.rest p.spent p.e a.lawful a.had
            (subst (λ w. ComesTo n (closes a.left a.armed w) a.rest p.spent p.e) a.has a.comes))

        departs_here : t.statement ≡ say.Close → (count : ℕ) → p.e.outcome ≡ line.Closed count → HasGone (moment_after now p.mine) d
        departs_here is count closes_so =
            let a = at_statement say.Close is in
            subst (λ x. HasGone x d) a.ends
            (close_departs n d cap a.left a.armed o.handle a.has a.mid o.row acc o.latest o.is o.told a.at a.holds a.rest p.spent p.e a.lawful a.had
            (subst (λ w. ComesTo n (closes a.left a.armed w) a.rest p.spent p.e) a.has a.comes) count closes_so)

        by_statement : (z : Statement) → t.statement ≡ z → P (after_line d.writer cap acc z p.e.outcome)
        by_statement (say.Write at content) is = write_here at content is
        by_statement say.Sync is = sync_here is
        by_statement say.Close is = close_here is
        by_statement z is = spared_line z is tt

      open_line : Ended kept t.statement p.e → P (told_of d.writer cap acc t.statement t.outcome)
      open_line (was_gone is over after) = gone_open is over after
      open_line (did alive dd) = by_after alive dd t.statement refl (by_statement alive dd t.statement refl)

    -- ---- of a writer that is out

    module _ (entered : HasEntered n p.earlier d) (o : IsOutSo n d cap now kept acc) where
      later_out : IsSettled (moment_after now p.mine) d acc
      later_out = settled_later now p.mine d acc o.settled next.lawful

      -- of any account that says no more
      out_so : (a : Account) → a.least ≡ acc.least → (a.most ≡ acc.most) ⊎ (a.most ≡ length acc.writes) → a.writes ≡ acc.writes → (a.latest ≡ true → (p.e.kept.gone ≡ true) ⊎ (p.e.kept.writer ≡ None)) → P a
      out_so a low high same idle = inr (record { settled = record { out = later_out.out; least = omega (arith, low, later_out.least); most = by high; few = omega (arith, ap length same, later_out.few) }; idle = idle })
        where
          by : (a.most ≡ acc.most) ⊎ (a.most ≡ length acc.writes) → landed (moment_after now p.mine) d ≤ a.most
          by (inl is) = omega (arith, is, later_out.most)
          by (inr is) = omega (arith, is, later_out.few)

      not_again : (other : ℕ) → OpensNew m n (record { before = p.earlier; events = s.front }) t.statement t.outcome s.new_writer → t.outcome ≡ line.Opened other → other ≡ d.writer → ⊥
      not_again other opens says_so same =
          let mine : HasEntered n p.mine opens.it.dropping = subst (λ es. HasEntered n es opens.it.dropping) (sym s.split) (entered_more n s.front s.rest opens.it.dropping (opens_in m n p.earlier s.front opens.name opens.it opens.opens)) in
          never_twice m history p.earlier p.mine p.later n d opens.it.dropping whole.lawful p.split entered mine (sym opens.its_id ∙ one opens.id other (sym opens.says ∙ says_so) ∙ same)
        where
          one : (x y : ℕ) → line.Opened x ≡ line.Opened y → x ≡ y
          one x y is = cc

      opened_other : (other : ℕ) → t.outcome ≡ line.Opened other → P (told_of d.writer cap acc t.statement (line.Opened other))
      opened_other other says_so = by (nat_eq other d.writer) refl
        where
          If : Bool → Account
          If b = if b then nothing true else record { latest = false; writes = acc.writes; least = acc.least; most = acc.most }

          is_it : nat_eq other d.writer ≡ true → other ≡ d.writer
          is_it is = grind (arith, nat_tests)

          opened_it : OpensNew m n (record { before = p.earlier; events = s.front }) t.statement t.outcome s.new_writer ⊎ KeepsOld writer t.outcome s.new_writer → nat_eq other d.writer ≡ true → P (If true)
          opened_it (inl opens) is = absurd (not_again other opens says_so (is_it is))
          opened_it (inr keeps) is = absurd (subst IsNotOpened says_so keeps.not_opened)

          by : (b : Bool) → nat_eq other d.writer ≡ b → P (If (nat_eq other d.writer))
          by true is = subst (λ b. P (If b)) (sym is) (opened_it (writer_step m n (record { before = p.earlier; events = s.front }) writer t.statement t.outcome s.new_writer s.writes) is)
          by false is = subst (λ b. P (If b)) (sym is) (out_so (If false) refl (inl refl) refl (λ latest. absurd (true_not_false false latest refl)))

      no_writer : kept.writer ≡ None → kept.gone ≡ false → writer ≡ None
      no_writer none alive = by writer (subst (λ w. Writes n p.earlier (moment_after m p.earlier).state w writer) none (s.had.known alive))
        where
          by : (w : Option OneWriter) → Writes n p.earlier (moment_after m p.earlier).state None w → w ≡ None
          by None known = refl
          by (Some it) known = absurd known

      -- its actor has none
      module _ (not : IsNotOpened t.outcome) (latest : acc.latest ≡ true) (alive : kept.gone ≡ false) (dd : Did kept.armed false None kept.writer kept.reader t.statement p.e) (none : kept.writer ≡ None) where
        still_none : p.e.kept.writer ≡ None
        still_none = writer_none t.statement p.e.outcome p.e.kept.writer (subst IsNotOpened says not) (subst (λ w. WritesSo w t.statement p.e.outcome p.e.kept.writer) none dd.writes)

        same_out : P acc
        same_out = out_so acc refl (inl refl) refl (λ latest_is. inr still_none)

        any_out : P (any_landed acc)
        any_out = out_so (any_landed acc) refl (inr refl) refl (λ latest_is. inr still_none)

        shows_none : ShowsWriting m n (record { before = p.earlier; events = s.front }) None t.statement t.outcome s.new_writer
        shows_none = subst (λ w. ShowsWriting m n (record { before = p.earlier; events = s.front }) w t.statement t.outcome s.new_writer) (no_writer none alive) s.writes

        by_none : (z : Statement) (x : Outcome) → ShowsWriting m n (record { before = p.earlier; events = s.front }) None z x s.new_writer → P (after_line d.writer cap acc z x)
        by_none (say.Write at content) x shows = by_nothing P (after_write d.writer cap at (bytes_of content) acc) x shows.1 any_out same_out
        by_none say.Sync x shows = by_nothing P (after_sync acc) x shows.1 any_out same_out
        by_none say.Close x shows = by_nothing P (after_sync acc) x shows.1 any_out same_out
        by_none z x shows = same_out

        none_line : P (told_of d.writer cap acc t.statement t.outcome)
        none_line = subst P (sym (told_line d.writer cap acc t.statement t.outcome not latest)) (by_none t.statement t.outcome shows_none)

      latest_line : IsNotOpened t.outcome → acc.latest ≡ true → Ended kept t.statement p.e → P (told_of d.writer cap acc t.statement t.outcome)
      latest_line not latest (was_gone is over after) = subst P (sym (ap (told_of d.writer cap acc t.statement) (says ∙ over) ∙ gone_told d.writer cap acc t.statement)) (out_so acc refl (inl refl) refl (λ latest_is. inl after))
      latest_line not latest (did alive dd) = by (o.idle latest)
        where
          by : (kept.gone ≡ true) ⊎ (kept.writer ≡ None) → P (told_of d.writer cap acc t.statement t.outcome)
          by (inl is) = absurd (true_not_false kept.gone is alive)
          by (inr none) = none_line not latest alive dd none

      other_line : IsNotOpened t.outcome → P (told_of d.writer cap acc t.statement t.outcome)
      other_line not = by acc.latest refl
        where
          by : (b : Bool) → acc.latest ≡ b → P (told_of d.writer cap acc t.statement t.outcome)
          by true latest = latest_line not latest p.ended
          by false latest = subst P (sym (told_other d.writer cap acc t.statement t.outcome not latest)) (out_so acc refl (inl refl) refl (λ latest_is. absurd (true_not_false acc.latest latest_is latest)))

      out_line : P (told_of d.writer cap acc t.statement t.outcome)
      out_line = by t.outcome refl
        where
          by : (x : Outcome) → t.outcome ≡ x → P (told_of d.writer cap acc t.statement t.outcome)
          by (line.Opened other) is = subst (λ x. P (told_of d.writer cap acc t.statement x)) (sym is) (opened_other other is)
          by x is = other_line (subst IsNotOpened (sym is) tt)

    -- So it is behind the line.
    pub line_keeps : HasEntered n p.earlier d → Keeps p.earlier kept acc → Keeps (p.earlier ++ p.mine) p.e.kept (told_of d.writer cap acc t.statement t.outcome)
    line_keeps entered keeps = subst (λ x. KeepsTo n d cap x p.e.kept (told_of d.writer cap acc t.statement t.outcome)) (sym (moment-append m p.earlier p.mine)) (by keeps)
      where
        by : KeepsTo n d cap now kept acc → P (told_of d.writer cap acc t.statement t.outcome)
        by (inl o) = open_line o p.ended
        by (inr o) = out_line entered o

    -- Behind the line of a close that tells a number the writer has left.
    pub line_departs : (count : ℕ) → acc.latest ≡ true → t.statement ≡ say.Close → t.outcome ≡ line.Closed count → Keeps p.earlier kept acc → HasGone (moment_after m (p.earlier ++ p.mine)) d
    line_departs count latest asked closes_so keeps = subst (λ x. HasGone x d) (sym (moment-append m p.earlier p.mine)) (by keeps p.ended)
      where
        told : p.e.outcome ≡ line.Closed count
        told = sym says ∙ closes_so

        not_gone : p.e.outcome ≡ line.Gone → ⊥
        not_gone is = let clash : line.Gone ≡ line.Closed count = sym is ∙ told in absurd (cc)

        had_writer : (w : Option WriterHandle) (reader : Option OpenReader) (z : Statement) (x : Outcome) → w ≡ None → z ≡ say.Close → x ≡ line.Closed count → (WasMade x → Had w reader z) → ⊥
        had_writer w reader z x none is is_closed uses = subst IsThere none (subst (Had w reader) is (uses (subst WasMade (sym is_closed) tt)))

        by : KeepsTo n d cap now kept acc → Ended kept t.statement p.e → HasGone (moment_after now p.mine) d
        by keeps (was_gone is over after) = absurd (not_gone over)
        by (inl o) (did alive dd) = departs_here o alive dd asked count told
        by (inr o) (did alive dd) = elim (o.idle latest) as (λ _. HasGone (moment_after now p.mine) d) [
          | inl is ↦ absurd (true_not_false kept.gone is alive)
          | inr none ↦ absurd (had_writer kept.writer kept.reader t.statement p.e.outcome none asked told dd.uses)
        ]
