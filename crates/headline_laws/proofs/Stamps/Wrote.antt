-- The stamp of a write that a line tells: the clock's time, or the next above the writer's last stamp and a truncate's.
use Rattle.std.proofs.Common.{◌≡◌, ◌⊎◌, inl, inr, ◌+◌, ◌≤◌, ◌<◌, ◌-◌, ◌^◌, ℕ, true, false, nat_eq, List, [], ◌∷◌, ◌++◌, length, map, Option, Some, None, Ok, Err, refl, sym, ap, ◌∙◌, subst, arith, append_assoc}
use Rattle.std.specs.Prelude.{slice_get}
use Rattle.std.proofs.lemmas.Bool.Decides.{nat_tests}
use Rattle.plfs_types.specs.Stamps.{next_stamp}
use Rattle.plfs_types.specs.declared.limits.TheConstants.{MAX_SIZE, MAX_STAMP}
use Rattle.container_layout.specs.declared.items.Item.TheVariants.{Trunc}
use Rattle.edge_io.specs.Clock.{Ticks}
use Rattle.store_api.specs.Acts.{Stored}
use Rattle.store_api.specs.declared.step.Answer.TheVariants.{Made}
use Rattle.store_api.specs.declared.store.Trouble.TheVariants.{Fault, NoMemory}
use Rattle.mount_model.specs.declared.call.Ask.{Ask}
use Rattle.mount_model.specs.declared.call.Call.TheVariants.{Write}
use Rattle.mount_model.specs.declared.reply.Refusal.TheVariants.{NotOpen}
use Rattle.mount_model.specs.declared.reply.Reply.TheVariants.{Refused, Wrote}
use Rattle.mount_model.specs.declared.row.Row.{Row}
use Rattle.mount_model.specs.declared.row.Stage.TheVariants as stage
use Rattle.mount_model.specs.History.{Event}
use Rattle.mount_model.specs.Making.{Refuses, Told as ActTold, UnlessRefused}
use Rattle.mount_model.specs.Mounting.{IsMounted}
use Rattle.mount_model.specs.Running.{unbroken}
use Rattle.mount_model.specs.State.{State, Table}
use Rattle.mount_model.specs.Step.{Answers}
use Rattle.mount_model.specs.Table.{only, row_of, writer_of}
use Rattle.mount_model.specs.Writing.{WritesAt, stamp_at, write_check, write_outcome}
use Rattle.mount_model.proofs.Facts.{MayWrite, is_held, match_cases, may_write, next_is_stamp}
use Rattle.mount_sound.specs.Entries.{last_stamp}
use Rattle.mount_sound.specs.Kept.{IsKept}
use Rattle.mount_sound.specs.Ledger.{Written, change_of, entries_in}
use Rattle.mount_sound.specs.Owed.{IsLawful}
use Rattle.mount_sound.specs.Sound.{IsSoundTree}
use Rattle.writer_laws.specs.Counting.{writes_told}
use Rattle.writer_laws.proofs.Stops.{whole_answers}
use Rattle.reader_laws.specs.Moments.{Dropping, IsSoundAt, Moment, moment_after}
use Rattle.plain_file.proofs.Facts.{Among}
use Rattle.reader_laws.proofs.Gathered.Facts.{any_found, is_among, legal_first, legal_rest}
use Rattle.script_lang.specs.Ranges.{FitsScript}
use Rattle.script_lang.specs.declared.line.Outcome.{Outcome}
use Rattle.script_lang.specs.declared.line.Outcome.TheVariants as line
use Rattle.script_lang.specs.declared.script.Data.{Data}
use Rattle.script_lang.specs.declared.script.Statement.{Statement}
use Rattle.script_lang.specs.declared.script.Statement.TheVariants as say
use Rattle.outcomes.specs.Data.{bytes_of}
use Rattle.actor_core.specs.declared.kept.Kept.{Kept}
use Rattle.run_core.specs.Play.{IsRight}
use Rattle.headline_laws.specs.OneFile.{OneFile}
use Rattle.headline_laws.specs.OneWriter.{OneWriter}
use Rattle.headline_laws.specs.Opening.{Stretch}
use Rattle.headline_laws.specs.Writing.{ShowsWriting}
use Rattle.headline_laws.proofs.Plays.Facts.{Next}
use Rattle.headline.specs.Run.{IsLine, Run, Says, Told, before, told}
use Rattle.headline.specs.Writers.{Account, account, account_of, cap_of, nothing, told_of}
use Rattle.headline.specs.Changes.{IsNextStamp, IsTruncStamp, last_stamp_of, writer_at}
use Rattle.headline_laws.proofs.Contents.Accounts.{Agrees, FromLine, account_from, at_more, entered_writes, from_line, line_goes, row_here, sound_here, starts, waited}
use Rattle.headline_laws.proofs.Contents.AtLine.{AtLine, at_line, own_line}
use Rattle.headline_laws.proofs.Contents.Counted.{homes}
use Rattle.headline_laws.proofs.Contents.Entering.{entered_behind, in_between, opens_in}
use Rattle.headline_laws.proofs.Contents.Issues.{Halved, IsRowIn, IsWrite, halved, one_counted}
use Rattle.headline_laws.proofs.Contents.OpenedWriter.{First, Home, Whole, its_dropping, sound_first}
use Rattle.headline_laws.proofs.Contents.WriterLine.{IsNoWrite, WriterLine, a_write, an_opening, neither, writer_line}
use Rattle.headline_laws.proofs.OrderlyLines.Synced.{IsOther}
use Rattle.headline_laws.proofs.Statements.Known.{HasEntered, IsNotOpened, KeepsOld, OpensNew, entered_more, entered_next, writer_step}
use Rattle.headline_laws.proofs.Story.Lines.{among_there}
use Rattle.headline_laws.proofs.Story.Parts.{Idles, PartOf}
use Rattle.headline_laws.proofs.Story.Shown.{IsShown, ShownEach}
use Rattle.headline_laws.proofs.Stamps.Floors.{AreFloored, IsStandingStamp, floor_of, floored_after}
use Rattle.headline_laws.proofs.Stamps.Times.{AreLeft, left_after, left_first, ticked}
use Rattle.headline_laws.proofs.Trees.Reading.{stands_after}

-- ---- the write that was answered

-- the clock was asked, and the stamp is the next one of the row
record IsStamped (old : State) (row : Row) (at len stamp : ℕ) : Type 0 where
  pub time : ℕ
  pub times : Option (List ℕ)
  pub ticks : Ticks old.times times time
  pub is : stamp ≡ next_stamp time row.last row.floor
  pub may : MayWrite row at len

wrote_stamp : (time : ℕ) (row : Row) (at len : ℕ) (table : Table) (told : ActTold) (stamp : ℕ) → Wrote stamp ≡ (write_outcome time row at len table told).reply → stamp ≡ time
wrote_stamp time row at len table (Ok Made) stamp is = cc
wrote_stamp time row at len table (Err Fault) stamp is = absurd (cc)
wrote_stamp time row at len table (Err NoMemory) stamp is = absurd (cc)
wrote_stamp time row at len table told stamp is = absurd (cc)

same_row : (a b : Row) (o : Option Row) → o ≡ Some a → o ≡ Some b → a ≡ b
same_row a b o p q = cc

write_stamped : (n id at : ℕ) (bytes : List ℕ) (stamp : ℕ) (old new : State) → Answers old n (Write id at bytes) (Wrote stamp) new → (row : Row) → row_of id old.table.writers ≡ Some row → IsStamped old row at (length bytes) stamp
write_stamped n id at bytes stamp old new a row has = elim (match_cases (writer_of n (only stage.Open) id old.table.writers) (Refuses NotOpen old (Wrote stamp) new) (λ r. UnlessRefused (write_check r at (length bytes)) old (Wrote stamp) new (WritesAt r at bytes old (Wrote stamp) new)) a) as (λ _. IsStamped old row at (length bytes) stamp) [
  | inl (none, refused) ↦ absurd (let clash : Wrote stamp ≡ Refused NotOpen = refused.0 in cc)
  | inr (r, held, u) ↦ subst (λ x. IsStamped old x at (length bytes) stamp) (same_row r row (row_of id old.table.writers) (is_held n (only stage.Open) id old.table.writers r held).found has) (unrefused r u)
]
  where
    unrefused : (r : Row) → UnlessRefused (write_check r at (length bytes)) old (Wrote stamp) new (WritesAt r at bytes old (Wrote stamp) new) → IsStamped old r at (length bytes) stamp
    unrefused r u = elim (match_cases (write_check r at (length bytes)) (WritesAt r at bytes old (Wrote stamp) new) (λ why. Refuses why old (Wrote stamp) new) u) as (λ _. IsStamped old r at (length bytes) stamp) [
      | inl (none, w) ↦ record { time = w.time; times = w.times; ticks = w.ticks; is = wrote_stamp (stamp_at w.time r) r at (length bytes) old.table w.makes.told stamp w.makes.answered; may = may_write r at (length bytes) none }
      | inr (why, some, refused) ↦ absurd (let clash : Wrote stamp ≡ Refused why = refused.0 in cc)
    ]

-- ---- the last stamp that was issued is that of the account

last_same : (ws : List Written) (s : ℕ) (w : Written) → last_stamp s (entries_in (w ∷ ws)) ≡ last_stamp_of (map change_of (w ∷ ws))
last_same [] s w = refl
last_same (v ∷ ws) s w = last_same ws w.entry.stamp v

last_issued : (ws : List Written) → last_stamp 0 (entries_in ws) ≡ last_stamp_of (map change_of ws)
last_issued [] = refl
last_issued (w ∷ ws) = last_same ws 0 w

pub row_last : (m : Moment) (sound : IsSoundAt m) (room id : ℕ) (of : IsRowIn m.state room id) → of.row.last ≡ last_stamp_of (map change_of (m.issued room id))
row_last m sound room id of =
    let there = sound.sound.placed id of.row of.held in
    let kept : IsKept there.0 of.row (m.issued of.row.room id) = (sound.sound.rooms of.row.room there.0 there.1).kept id of.row of.held refl in
    kept.numbers.last ∙ ap (λ k. last_stamp 0 (entries_in (m.issued k id))) of.here ∙ last_issued (m.issued room id)

-- ---- along the lines of one actor

same_id : (x y : ℕ) → true ≡ nat_eq x y → x ≡ y
same_id x y is = (let equal : nat_eq x y ≡ true = sym is in grind (arith, nat_tests))

module _ (m : Moment) (sound : IsSoundAt m) (n : ℕ) (history : List Event) (blocks : List (List Event)) (whole : Next m [] history) (id cap : ℕ) (d : Dropping) (d_id : d.writer ≡ id)
    (only_its : (pre : List Event) (e : Event) (post : List Event) → history ≡ pre ++ e ∷ post → IsWrite id e → (e.caller ≡ n) × IsRowIn (moment_after m pre).state d.room id) where
  -- as the line t begins the account of the lines before it is that of what was issued, and the writer was entered
  pub record AgreesAt (t : Told) (a : Account) : Type 0 where
    pub kept : Kept
    pub file : Option OneFile
    pub writer : Option OneWriter
    pub p : PartOf n history blocks kept t.phase t.statement
    pub says : t.outcome ≡ p.e.outcome
    pub shown : IsShown m sound n history blocks whole kept file writer t p.earlier p.mine
    pub agrees : Agrees m sound n history blocks whole id cap d d_id only_its writer p.earlier a
    pub known : (x : OneWriter) → writer ≡ Some x → HasEntered n p.earlier x.dropping

  -- who has a writer entered it
  abbrev IsKnown : List Event → Option OneWriter → Type 0
  IsKnown done writer = (x : OneWriter) → writer ≡ Some x → HasEntered n done x.dropping

  known_idle : (done later : List Event) (writer : Option OneWriter) → Idles n history blocks done later → IsKnown done writer → IsKnown later writer
  known_idle done later writer i known x has = subst (λ es. HasEntered n es x.dropping) (sym i.is) (entered_more n done i.idle x.dropping (known x has))

  known_line : (kept : Kept) (file : Option OneFile) (writer : Option OneWriter) (q : Told) (earlier mine : List Event) (s : IsShown m sound n history blocks whole kept file writer q earlier mine) → IsKnown earlier writer → IsKnown (earlier ++ mine) s.new_writer
  known_line kept file writer q earlier mine s known x has =
      let step = writer_step m n (record { before = earlier; events = s.front }) writer q.statement q.outcome s.new_writer s.writes in
      let then_entered : HasEntered n (earlier ++ s.front) x.dropping = entered_next m n earlier s.front q.statement q.outcome writer s.new_writer step known x has in
      subst (λ es. HasEntered n (earlier ++ es) x.dropping) (sym s.split) (subst (λ es. HasEntered n es x.dropping) (append_assoc earlier s.front s.rest) (entered_more n (earlier ++ s.front) s.rest x.dropping then_entered))

  account_at : (done : List Event) (kept : Kept) (file : Option OneFile) (writer : Option OneWriter) (ts : List Told) (t : Told) (rest : List Told) (a : Account) → ShownEach m sound n history blocks whole done kept file writer (ts ++ t ∷ rest) → HasEntered n done d
      → Agrees m sound n history blocks whole id cap d d_id only_its writer done a → IsKnown done writer → AgreesAt t (account_of id cap a ts)
  account_at done kept file writer [] t rest a (p, says, idle, s, more) entered agrees known = record {
    kept = kept;
    file = file;
    writer = writer;
    p = p;
    says = says;
    shown = s;
    agrees = waited m sound n history blocks whole id cap d d_id only_its done p.earlier (p.mine ++ p.later) p.split idle writer a agrees;
    known = known_idle done p.earlier writer idle known;
  }
  account_at done kept file writer (q ∷ ts) t rest a (p, says, idle, s, more) entered agrees known =
      let here = waited m sound n history blocks whole id cap d d_id only_its done p.earlier (p.mine ++ p.later) p.split idle writer a agrees in
      let entered_here : HasEntered n p.earlier d = subst (λ es. HasEntered n es d) (sym idle.is) (entered_more n done idle.idle d entered) in
      account_at (p.earlier ++ p.mine) p.e.kept s.new s.new_writer ts t rest (told_of id cap a q.statement q.outcome) more (entered_more n p.earlier p.mine d entered_here)
      (line_goes m sound n history blocks whole id cap d d_id only_its kept file writer q p says s a entered_here here) (known_line kept file writer q p.earlier p.mine s (known_idle done p.earlier writer idle known))

  -- where its line tells of a write, an event of its part wrote these bytes, and the row's last stamp is that of the account
  record WroteSo (a : Account) (place len stamp : ℕ) : Type 0 where
    pub pre : List Event
    pub e : Event
    pub post : List Event
    pub is : history ≡ pre ++ e ∷ post
    pub at : ℕ
    pub bytes : List ℕ
    pub asked : e.ask ≡ unbroken (Write id at bytes)
    pub told_so : e.reply ≡ Wrote stamp
    pub place_is : place ≡ at
    pub len_is : len ≡ length bytes
    pub row : IsRowIn (moment_after m pre).state d.room id
    pub last : row.row.last ≡ last_stamp_of a.writes

  placed_so : (stretch : Stretch) (z : Statement) (at : ℕ) (content : Data) (old : Option OneWriter) (x : OneWriter) (o : Outcome) (place len stamp : ℕ) (new : Option OneWriter) → z ≡ say.Write at content → old ≡ Some x → o ≡ line.Wrote place len (Some stamp) → ShowsWriting m n stretch old z o new → (place ≡ at) × (len ≡ length (bytes_of content))
  placed_so stretch z at content old x o place len stamp new asked has says shows =
      let s = subst (λ y. ShowsWriting m n stretch (Some x) (say.Write at content) y new) says (subst (λ y. ShowsWriting m n stretch (Some x) y o new) asked (subst (λ y. ShowsWriting m n stretch y z o new) has shows)) in
      (s.0, s.1)

  one_wrote : (a b c d e f : ℕ) → line.Wrote a b (Some c) ≡ line.Wrote d e (Some f) → (a ≡ d) × (b ≡ e) × (c ≡ f)
  one_wrote a b c d e f is = (cc, cc, cc)

  wrote_so : (t : Told) (a : Account) → a.latest ≡ true → AgreesAt t a → (place len stamp : ℕ) → t.outcome ≡ line.Wrote place len (Some stamp) → WroteSo a place len stamp
  wrote_so t a latest k place len stamp wrote = by (writer_line m n (record { before = k.p.earlier; events = k.shown.front }) t.statement k.writer t.outcome k.shown.new_writer k.shown.writes)
    where
      p : PartOf n history blocks k.kept t.phase t.statement
      p = k.p

      s : IsShown m sound n history blocks whole k.kept k.file k.writer t p.earlier p.mine
      s = k.shown

      by_call : (x : OneWriter) (at : ℕ) (content : Data) → t.statement ≡ say.Write at content → k.writer ≡ Some x → x.dropping.writer ≡ id → (e : Event) → Halved e s.front → writes_told id s.front ≡ 1 → e.ask ≡ unbroken (Write id at (bytes_of content)) → e.reply ≡ Wrote stamp → WroteSo a place len stamp
      by_call x at content asked has same e h one call told_it =
          let w : IsWrite id e = record { at = at; block = bytes_of content; stamp = stamp; asked = ap (λ (q : Ask). q.call) call; told = told_it } in
          let none = one_counted id h.front e h.rest w (ap (writes_told id) (sym h.is) ∙ one) in
          let mine : p.mine ≡ h.front ++ e ∷ (h.rest ++ s.rest) = s.split ∙ ap (λ z. z ++ s.rest) h.is ∙ append_assoc h.front (e ∷ h.rest) s.rest in
          let row : IsRowIn (moment_after m (p.earlier ++ h.front)).state d.room id = row_here m sound n history blocks whole id cap d d_id only_its k.kept k.file k.writer t p k.says s h.front e (h.rest ++ s.rest) mine w in
          let sound_then : IsSoundAt (moment_after m (p.earlier ++ h.front)) = sound_here m sound n history blocks whole id cap d d_id only_its k.kept k.file k.writer t p k.says s h.front e (h.rest ++ s.rest) mine in
          let places = placed_so (record { before = p.earlier; events = s.front }) t.statement at content k.writer x t.outcome place len stamp s.new_writer asked has wrote s.writes in
          record {
            pre = p.earlier ++ h.front;
            e = e;
            post = (h.rest ++ s.rest) ++ p.later;
            is = p.split ∙ ap (λ z. p.earlier ++ (z ++ p.later)) mine ∙ in_between p.earlier h.front e (h.rest ++ s.rest) p.later;
            at = at;
            bytes = bytes_of content;
            asked = call;
            told_so = told_it;
            place_is = places.0;
            len_is = places.1;
            row = row;
            last = row_last (moment_after m (p.earlier ++ h.front)) sound_then d.room id row
                ∙ ap (λ ws. last_stamp_of (map change_of ws)) (at_more m sound n history blocks whole id cap d d_id only_its p.earlier h.front none.0) ∙ ap last_stamp_of k.agrees.writes;
          }

      by : WriterLine m n (record { before = p.earlier; events = s.front }) k.writer t.statement t.outcome s.new_writer → WroteSo a place len stamp
      by (an_opening opens) = absurd (let clash : line.Opened opens.id ≡ line.Wrote place len (Some stamp) = sym opens.says ∙ wrote in cc)
      by (neither is keeps none) = absurd (subst IsOther wrote is)
      by (a_write x at place2 len2 stamp2 content asked says_so has new once) =
          let same : x.dropping.writer ≡ id = same_id x.dropping.writer id (sym latest ∙ k.agrees.latest x has) in
          let stamps = one_wrote place2 len2 stamp2 place len stamp (sym says_so ∙ wrote) in
          let f = any_found (λ (e : Event). (e.caller ≡ n) × (e.ask ≡ unbroken (Write x.dropping.writer at (bytes_of content))) × (e.reply ≡ Wrote stamp2)) s.front once.asks in
          by_call x at content asked has same f.0 (halved f.0 s.front f.1) (subst (λ w. writes_told w s.front ≡ 1) same once.alone) (f.2.1 ∙ ap (λ w. unbroken (Write w at (bytes_of content))) same) (f.2.2 ∙ ap (λ z. Wrote z) stamps.2)

-- ---- the line

module _ (run : Run) (mount : Stored) (start end : State) (fits : FitsScript run.script) (mounted : IsMounted 0 run.times mount start) (tells : mount.tree ≡ Some run.before) (sound : IsSoundTree run.before)
    (right : IsRight run.script start run.lines end) (left : end.store.tree ≡ Some run.after) where
  abbrev Begins : Moment
  Begins = First run run.times mount start end fits mounted tells sound right left

  abbrev sound_begins : IsSoundAt Begins
  sound_begins = sound_first run run.times mount start end fits mounted tells sound right left

  abbrev WholeOf : Next Begins [] right.history
  WholeOf = Whole run run.times mount start end fits mounted tells sound right left

  abbrev HomeOf : Told → ℕ
  HomeOf t = Home run run.times mount start end fits mounted tells sound right left t

  lawful_to : (pre : List Event) (e : Event) (post : List Event) → right.history ≡ pre ++ e ∷ post → IsLawful Begins.state (pre ++ e ∷ post)
  lawful_to pre e post is = subst (IsLawful Begins.state) is right.leads.lawful

  -- the clock's times that are left then
  pub times_left : (pre : List Event) (e : Event) (post : List Event) → right.history ≡ pre ++ e ∷ post → AreLeft run.times (moment_after Begins pre).state.times
  times_left pre e post is = left_after run.times Begins pre (legal_first Begins pre (e ∷ post) (lawful_to pre e post is)) (left_first run.times mount start mounted)

  -- a row's floor is a stamp that stands in the tree after
  pub floor_left : (pre rest : List Event) → right.history ≡ pre ++ rest → (room id : ℕ) (of : IsRowIn (moment_after Begins pre).state room id) → IsTruncStamp run room of.row.floor
  floor_left pre rest is room id of = subst (λ r. IsTruncStamp run r of.row.floor) of.here (by (floor_of (moment_after Begins pre) id of.row of.held all))
    where
      all : AreFloored (IsStandingStamp (moment_after Begins pre)) (moment_after Begins pre).state.table.writers
      all = floored_after Begins pre sound_begins (legal_first Begins pre rest (subst (IsLawful Begins.state) is right.leads.lawful)) (subst (AreFloored (IsStandingStamp Begins)) (sym mounted.no_writers) tt)

      by : IsStandingStamp (moment_after Begins pre) of.row.room of.row.floor → IsTruncStamp run of.row.room of.row.floor
      by (inl zero_is) = inl zero_is
      by (inr (size, had)) = inr (size, stands_after run Begins end fits sound_begins right left pre rest of.row.room (Trunc of.row.floor size) is tt had)

  module _ (t : Told) (id : ℕ) (is_line : IsLine run t) (its : writer_at run t ≡ Some id) where
    abbrev pub Account_here : Account
    Account_here = account run t.actor id (before run t)

    -- the dropping of the writer, and where the part of the line begins
    pub record HasAccount : Type 0 where
      pub number : ℕ
      pub cap : ℕ
      pub d : Dropping
      pub d_id : d.writer ≡ id
      pub entered : HasEntered number right.history d
      pub latest : Account_here.latest ≡ true
      pub at : AgreesAt Begins sound_begins number right.history right.calls.blocks WholeOf id cap d d_id (entered_writes run Begins end fits sound_begins right number id d d_id entered) t Account_here
      -- the line that opened it
      pub o : Told
      pub opens : Says run o (line.Opened id)

    pub has_account : HasAccount
    has_account = by (at_line run run.times mount start end fits mounted tells sound right left t id is_line its)
      where
        by : AtLine run run.times mount start end fits mounted tells sound right left t id → HasAccount
        by k = opened (writer_step Begins n (record { before = f.part.earlier; events = f.shown.front }) f.writer k.o.statement k.o.outcome f.shown.new_writer f.shown.writes)
          where
            n : ℕ
            n = k.c.parts.number

            cap : ℕ
            cap = cap_of (slice_get run.script.actors t.actor)

            each : ShownEach Begins sound_begins n right.history right.calls.blocks WholeOf [] k.c.parts.kept None None (k.pre ++ k.o ∷ (k.between ++ t ∷ k.rest))
            each = subst (λ ts. ShownEach Begins sound_begins n right.history right.calls.blocks WholeOf [] k.c.parts.kept None None ts) k.all_is k.c.each

            f : FromLine Begins sound_begins n right.history right.calls.blocks WholeOf k.o (k.between ++ t ∷ k.rest)
            f = from_line Begins sound_begins n right.history right.calls.blocks WholeOf k.pre k.o (k.between ++ t ∷ k.rest) [] k.c.parts.kept None None each

            account_is : Account_here ≡ account_of id cap (nothing true) k.between
            account_is = ap (account_of id cap (nothing false)) k.before_is ∙ account_from id cap (nothing false) k.pre k.o k.between k.opens

            same : (x y : ℕ) → line.Opened x ≡ line.Opened y → x ≡ y
            same x y is = cc

            same_one : (x y : OneWriter) → Some x ≡ Some y → x ≡ y
            same_one x y is = cc

            opened : OpensNew Begins n (record { before = f.part.earlier; events = f.shown.front }) k.o.statement k.o.outcome f.shown.new_writer ⊎ KeepsOld f.writer k.o.outcome f.shown.new_writer → HasAccount
            opened (inr keeps) = absurd (subst IsNotOpened k.opens keeps.not_opened)
            opened (inl opens) = record {
              number = n;
              cap = cap;
              d = d;
              d_id = d_id;
              entered = entered;
              latest = ap (λ (a : Account). a.latest) k.account_so ∙ k.latest;
              at = subst (λ a. AgreesAt Begins sound_begins n right.history right.calls.blocks WholeOf id cap d d_id (entered_writes run Begins end fits sound_begins right n id d d_id entered) t a) (sym account_is) agrees;
              o = k.o;
              opens = record { is_line = is_among (told run) k.o (own_line t.actor (told run) k.o (subst (Among k.o) (sym k.all_is) (among_there k.o k.pre (k.between ++ t ∷ k.rest)))); says = k.opens };
            }
              where
                d : Dropping
                d = opens.it.dropping

                d_id : d.writer ≡ id
                d_id = sym opens.its_id ∙ same opens.id id (sym opens.says ∙ k.opens)

                mine : HasEntered n f.part.mine d
                mine = subst (λ es. HasEntered n es d) (sym f.shown.split) (entered_more n f.shown.front f.shown.rest d (opens_in Begins n f.part.earlier f.shown.front opens.name opens.it opens.opens))

                entered : HasEntered n right.history d
                entered = subst (λ es. HasEntered n es d) (sym f.part.split) (entered_behind n f.part.earlier (f.part.mine ++ f.part.later) d (entered_more n f.part.mine f.part.later d mine))

                agrees : AgreesAt Begins sound_begins n right.history right.calls.blocks WholeOf id cap d d_id (entered_writes run Begins end fits sound_begins right n id d d_id entered) t (account_of id cap (nothing true) k.between)
                agrees = account_at Begins sound_begins n right.history right.calls.blocks WholeOf id cap d d_id (entered_writes run Begins end fits sound_begins right n id d d_id entered) (f.part.earlier ++ f.part.mine) f.part.e.kept f.shown.new f.shown.new_writer k.between t k.rest (nothing true) f.more (entered_behind n f.part.earlier f.part.mine d mine)
                    (starts Begins sound_begins n right.history right.calls.blocks WholeOf id cap d d_id (entered_writes run Begins end fits sound_begins right n id d d_id entered) f.kept f.file f.writer k.o f.part f.says f.shown (subst IsNoWrite (sym opens.asked) tt) opens.it opens.has d_id mine)
                    (λ x has. subst (λ (y : OneWriter). HasEntered n (f.part.earlier ++ f.part.mine) y.dropping) (same_one opens.it x (sym opens.has ∙ has)) (entered_behind n f.part.earlier f.part.mine d mine))

  module _ (t : Told) (at len stamp id : ℕ) (says : Says run t (line.Wrote at len (Some stamp))) (its : writer_at run t ≡ Some id) where
    -- the dropping of the writer, and the write
    record ByLine : Type 0 where
      pub number : ℕ
      pub d : Dropping
      pub d_id : d.writer ≡ id
      pub entered : HasEntered number right.history d
      pub pre : List Event
      pub e : Event
      pub post : List Event
      pub is : right.history ≡ pre ++ e ∷ post
      pub row : IsRowIn (moment_after Begins pre).state d.room id
      pub last : row.row.last ≡ last_stamp_of (account run t.actor id (before run t)).writes
      pub stamped : IsStamped (moment_after Begins pre).state row.row at len stamp

    by_line : ByLine
    by_line = by (has_account t id says.is_line its)
      where
        by : HasAccount t id says.is_line its → ByLine
        by k = found (wrote_so Begins sound_begins k.number right.history right.calls.blocks WholeOf id k.cap k.d k.d_id (entered_writes run Begins end fits sound_begins right k.number id k.d k.d_id k.entered) t (account run t.actor id (before run t)) k.latest k.at at len stamp says.says)
          where
            found : WroteSo Begins sound_begins k.number right.history right.calls.blocks WholeOf id k.cap k.d k.d_id (entered_writes run Begins end fits sound_begins right k.number id k.d k.d_id k.entered) (account run t.actor id (before run t)) at len stamp → ByLine
            found w =
                let lawful : IsLawful (moment_after Begins w.pre).state (w.e ∷ w.post) = legal_rest Begins w.pre (w.e ∷ w.post) (lawful_to w.pre w.e w.post w.is) in
                let answers : Answers (moment_after Begins w.pre).state w.e.caller w.e.ask.call w.e.reply w.e.after = whole_answers (moment_after Begins w.pre).state w.e.caller w.e.ask w.e.reply w.e.after (ap (λ (q : Ask). q.stop) w.asked) lawful.1 in
                let wrote : Answers (moment_after Begins w.pre).state w.e.caller (Write id w.at w.bytes) (Wrote stamp) w.e.after =
                subst (λ r. Answers (moment_after Begins w.pre).state w.e.caller (Write id w.at w.bytes) r w.e.after) w.told_so (subst (λ c. Answers (moment_after Begins w.pre).state w.e.caller c w.e.reply w.e.after) (ap (λ (q : Ask). q.call) w.asked) answers) in
                record {
                  number = k.number;
                  d = k.d;
                  d_id = k.d_id;
                  entered = k.entered;
                  pre = w.pre;
                  e = w.e;
                  post = w.post;
                  is = w.is;
                  row = w.row;
                  last = w.last;
                  stamped = subst (λ z. IsStamped (moment_after Begins w.pre).state w.row.row z len stamp) (sym w.place_is) (subst (λ z. IsStamped (moment_after Begins w.pre).state w.row.row w.at z stamp) (sym w.len_is) (write_stamped w.e.caller id w.at w.bytes stamp (moment_after Begins w.pre).state w.e.after wrote w.row.row w.row.held));
                }

    fits_so : (row : Row) (time : ℕ) → stamp ≡ next_stamp time row.last row.floor → MayWrite row at len → stamp ≤ MAX_STAMP
    fits_so row time is may =
        let most : MAX_STAMP ≡ 2 ^ 63 - 1 = refl in
        let below : stamp < 2 ^ 63 = subst (λ z. z < 2 ^ 63) (sym is) (next_is_stamp time row.last row.floor may.last may.floor).fits in
        omega (arith, most, below)

    near_so : (row : Row) → MayWrite row at len → at + len ≤ MAX_SIZE
    near_so row may = (let most : MAX_SIZE ≡ 2 ^ 40 = refl in let near = may.near in omega (arith, most, near))

    -- the law of this file
    pub next_stamped : IsNextStamp run (homes run run.times mount start end fits mounted tells sound right left) t at len id stamp
    next_stamped = (let w = by_line in record {
      within = near_so w.row.row w.stamped.may;
      is = λ o is_line opens. (let room = (its_dropping run run.times mount start end fits mounted tells sound right left o id (record { is_line = is_line; says = opens }) w.number w.d w.entered w.d_id).room in record {
        time = w.stamped.time;
        clock = (ticked run.times (moment_after Begins w.pre).state.times w.stamped.times w.stamped.time (times_left w.pre w.e w.post w.is) w.stamped.ticks).1;
        stood = w.row.row.floor;
        is_there = subst (λ r. IsTruncStamp run r w.row.row.floor) room (floor_left w.pre (w.e ∷ w.post) w.is w.d.room id w.row);
        is = w.stamped.is ∙ ap (λ l. next_stamp w.stamped.time l w.row.row.floor) w.last;
        fits = fits_so w.row.row w.stamped.time w.stamped.is w.stamped.may;
      });
    })
