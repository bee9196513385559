-- What was issued by a writer that a line opened is what the lines of its actor account for, in their order.
use Rattle.std.proofs.Common.{◌≡◌, ◌⊎◌, ◌+◌, inl, inr, ℕ, Bool, true, false, nat_eq, List, [], ◌∷◌, ◌++◌, length, map, Option, Some, None, refl, sym, ap, ◌∙◌, subst, arith, append_assoc, if◌then◌else◌}
use Rattle.std.specs.Prelude.{slice_get}
use Rattle.std.proofs.lemmas.Bool.Decides.{nat_tests}
use Rattle.std.proofs.lemmas.List.{append-nil, map-append}
use Rattle.std.proofs.lemmas.List.Recursion.{is_sum_by}
use Rattle.turn_object.specs.Callers.{made_by}
use Rattle.plain_file.specs.declared.changes.Change.{Change}
use Rattle.plain_file.specs.declared.changes.Change.TheVariants.{Write as Changes}
use Rattle.plain_file.specs.File.{stored_by, stored_bytes}
use Rattle.mount_model.specs.declared.call.Ask.{Ask}
use Rattle.mount_model.specs.declared.call.Call.TheVariants.{Write}
use Rattle.mount_model.specs.declared.reply.Reply.TheVariants.{Wrote}
use Rattle.mount_model.specs.History.{Event}
use Rattle.mount_model.specs.State.{State}
use Rattle.mount_model.proofs.Facts.{row_of_id}
use Rattle.mount_sound.specs.Entries.{logged}
use Rattle.mount_sound.specs.Issued.{issued_after, written_by}
use Rattle.mount_sound.specs.Kept.{IsKept}
use Rattle.mount_sound.specs.Ledger.{Written as Entry, entries_in}
use Rattle.mount_sound.specs.Owed.{IsLawful}
use Rattle.mount_model.specs.Running.{unbroken}
use Rattle.writer_laws.specs.Counting.{writes_told}
use Rattle.reader_laws.specs.Moments.{Dropping, IsSoundAt, Moment, moment_after}
use Rattle.mount_sound.specs.Ledger.{change_of}
use Rattle.reader_laws.proofs.Gathered.Facts.{among, any_found, legal_first, legal_rest, moment-append, sound_after}
use Rattle.script_lang.specs.Ranges.{FitsScript}
use Rattle.script_lang.specs.declared.line.Outcome.{Outcome}
use Rattle.script_lang.specs.declared.line.Outcome.TheVariants as line
use Rattle.script_lang.specs.declared.script.Data.{Data}
use Rattle.script_lang.specs.declared.script.Statement.{Statement}
use Rattle.script_lang.specs.declared.script.Statement.TheVariants as say
use Rattle.outcomes.specs.Data.{bytes_of}
use Rattle.actor_core.specs.declared.kept.Kept.{Kept}
use Rattle.run_core.specs.Play.{IsRight}
use Rattle.headline_laws.specs.OneFile.{OneFile}
use Rattle.headline_laws.specs.OneWriter.{OneWriter, WritesOnce, one_more as and_one}
use Rattle.headline_laws.proofs.Plays.Facts.{Next}
use Rattle.headline.specs.Run.{Run, Says, Told, before, own, told}
use Rattle.headline.specs.Writers.{Account, account, account_of, cap_of, made_room, nothing, one_more as write_more, told_of}
use Rattle.headline_laws.proofs.OrderlyLines.Places.{own_split}
use Rattle.headline_laws.proofs.OrderlyLines.Synced.{IsOther, room_same, told_same}
use Rattle.headline_laws.proofs.Statements.Known.{HasEntered, IsNotOpened, KeepsOld, OpensNew, entered_more, writer_step}
use Rattle.headline_laws.proofs.Story.Attributed.{none_there}
use Rattle.headline_laws.proofs.Story.Entered.{entered_once}
use Rattle.headline_laws.proofs.Story.Lines.{chain_of, container, whole_history}
use Rattle.headline_laws.proofs.Story.Parts.{Idles, PartOf}
use Rattle.headline_laws.proofs.Story.Shown.{IsShown, ShownEach}
use Rattle.headline_laws.proofs.Trees.Reading.{OpenedSo, opened_line}
use Rattle.headline_laws.proofs.Contents.Issues.{Halved, IsRowIn, IsWrite, NoneWritten, halved, none_both, none_counted, nothing_issued, one_counted, write_issues}
use Rattle.headline_laws.proofs.Contents.Unwritten.{WasOver, write_calls}
use Rattle.headline_laws.proofs.Contents.Written.{WriteOf, whole_write, write_of, written}
use Rattle.headline_laws.proofs.Contents.Entering.{entered_behind, in_between, never_twice, new_there, none_behind, one_between, opens_in}
use Rattle.headline_laws.proofs.Contents.WriterLine.{IsNoWrite, WriterLine, a_write, an_opening, neither, writer_line}

-- ---- one entry

abbrev total : List Change → ℕ
total [] = 0
total (c ∷ changes) = stored_by c + total changes

total_logged : (ws : List Entry) → total (map change_of ws) ≡ logged (entries_in ws)
total_logged [] = refl
total_logged (w ∷ ws) = ap (λ k. w.entry.len + k) (total_logged ws)

pub stored_logged : (ws : List Entry) → stored_bytes (map change_of ws) ≡ logged (entries_in ws)
stored_logged ws = sym (is_sum_by total stored_by refl (λ _ _. refl) (map change_of ws)) ∙ total_logged ws

-- the row of a writer tells how many bytes it stored
pub row_stored : (m : Moment) (sound : IsSoundAt m) (room id : ℕ) (of : IsRowIn m.state room id) → of.row.stored ≡ logged (entries_in (m.issued room id))
row_stored m sound room id of =
    let there = sound.sound.placed id of.row of.held in
    let kept : IsKept there.0 of.row (m.issued of.row.room id) = (sound.sound.rooms of.row.room there.0 there.1).kept id of.row of.held refl in
    kept.numbers.stored ∙ ap (λ k. logged (entries_in (m.issued k id))) of.here

-- its change, where the account has so many writes
entry_change : (m : Moment) (sound : IsSoundAt m) (room id : ℕ) (of : IsRowIn m.state room id) (stamp at : ℕ) (bytes : List ℕ) (writes : List Change) → map change_of (m.issued room id) ≡ writes
    → change_of (written_by of.row stamp at bytes) ≡ Changes (record { at = at; len = length bytes; physical = stored_bytes writes; stamp = stamp; writer = id }) bytes
entry_change m sound room id of stamp at bytes writes are =
    ap (λ k. Changes (record { at = at; len = length bytes; physical = k; stamp = stamp; writer = of.row.id }) bytes) (row_stored m sound room id of ∙ sym (stored_logged (m.issued room id)) ∙ ap stored_bytes are)
    ∙ ap (λ k. Changes (record { at = at; len = length bytes; physical = stored_bytes writes; stamp = stamp; writer = k }) bytes) (row_of_id id m.state.table.writers of.row of.held)

is_equal : (x y : ℕ) → x ≡ y → nat_eq x y ≡ true
is_equal x y same = grind (arith, nat_tests)

-- ---- the lines of one actor

module _ (m : Moment) (sound : IsSoundAt m) (n : ℕ) (history : List Event) (blocks : List (List Event)) (whole : Next m [] history) (id cap : ℕ) (d : Dropping) (d_id : d.writer ≡ id)
    (only_its : (pre : List Event) (e : Event) (post : List Event) → history ≡ pre ++ e ∷ post → IsWrite id e → (e.caller ≡ n) × IsRowIn (moment_after m pre).state d.room id) where
  abbrev At : List Event → List Entry
  At done = (moment_after m done).issued d.room id

  pub at_more : (done es : List Event) → NoneWritten id es → At (done ++ es) ≡ At done
  at_more done es none = ap (λ (x : Moment). x.issued d.room id) (moment-append m done es) ∙ nothing_issued (moment_after m done) es d.room id none

  -- a write that is answered is issued
  at_write : (upto : List Event) (e : Event) (at : ℕ) (bytes : List ℕ) (stamp : ℕ) → e.ask.call ≡ Write id at bytes → e.reply ≡ Wrote stamp → (of : IsRowIn (moment_after m upto).state d.room id) → At (upto ++ e ∷ []) ≡ At upto ++ written_by of.row stamp at bytes ∷ []
  at_write upto e at bytes stamp asked told of =
      ap (λ (y : Moment). y.issued d.room id) (moment-append m upto (e ∷ []))
      ∙ ap (λ c. issued_after (moment_after m upto).issued (moment_after m upto).state c e.reply d.room id) asked
      ∙ ap (λ r. issued_after (moment_after m upto).issued (moment_after m upto).state (Write id at bytes) r d.room id) told
      ∙ write_issues (moment_after m upto).issued (moment_after m upto).state d.room id at bytes stamp of

  -- so the account has one more, where no other is among these events
  one_goes : (earlier front : List Event) (e : Event) (rest : List Event) (at : ℕ) (bytes : List ℕ) (stamp : ℕ) (writes : List Change) → NoneWritten id front → NoneWritten id rest → e.ask.call ≡ Write id at bytes → e.reply ≡ Wrote stamp → (of : IsRowIn (moment_after m (earlier ++ front)).state d.room id) → IsSoundAt (moment_after m (earlier ++ front)) → map change_of (At earlier) ≡ writes
      → map change_of (At (earlier ++ (front ++ e ∷ rest))) ≡ writes ++ Changes (record { at = at; len = length bytes; physical = stored_bytes writes; stamp = stamp; writer = id }) bytes ∷ []
  one_goes earlier front e rest at bytes stamp writes none_before none_after asked told of there_sound are =
      let so_far : map change_of (At (earlier ++ front)) ≡ writes = ap (map change_of) (at_more earlier front none_before) ∙ are in
      ap (λ es. map change_of (At es)) (one_between earlier front e rest) ∙ ap (map change_of) (at_more ((earlier ++ front) ++ e ∷ []) rest none_after ∙ at_write (earlier ++ front) e at bytes stamp asked told of)
      ∙ map-append change_of (At (earlier ++ front)) (written_by of.row stamp at bytes ∷ []) ∙ ap (λ z. z ++ change_of (written_by of.row stamp at bytes) ∷ []) so_far
      ∙ ap (λ z. writes ++ z ∷ []) (entry_change (moment_after m (earlier ++ front)) there_sound d.room id of stamp at bytes writes so_far)

  -- where the actor makes no call, no write of its writer is answered
  idle_none : (pre es post : List Event) → history ≡ pre ++ (es ++ post) → made_by n es ≡ [] → NoneWritten id es
  idle_none pre es post is calls a e b split w =
      let all : history ≡ (pre ++ a) ++ e ∷ (b ++ post) = is ∙ ap (λ z. pre ++ (z ++ post)) split ∙ in_between pre a e b post in
      none_there n es a e b split calls (only_its (pre ++ a) e (b ++ post) all w).0

  -- behind a line: whether the account's writer is the actor's, and its writes
  pub record Agrees (writer : Option OneWriter) (done : List Event) (a : Account) : Type 0 where
    pub latest : (x : OneWriter) → writer ≡ Some x → a.latest ≡ nat_eq x.dropping.writer id
    pub writes : map change_of (At done) ≡ a.writes

  module _ (kept : Kept) (file : Option OneFile) (writer : Option OneWriter) (t : Told) (p : PartOf n history blocks kept t.phase t.statement) (says : t.outcome ≡ p.e.outcome) (s : IsShown m sound n history blocks whole kept file writer t p.earlier p.mine) where
    in_history : (a : List Event) (e : Event) (b : List Event) → p.mine ≡ a ++ e ∷ b → history ≡ (p.earlier ++ a) ++ e ∷ (b ++ p.later)
    in_history a e b split = p.split ∙ ap (λ z. p.earlier ++ (z ++ p.later)) split ∙ in_between p.earlier a e b p.later

    lawful_here : (a : List Event) (e : Event) (b : List Event) → p.mine ≡ a ++ e ∷ b → IsLawful m.state ((p.earlier ++ a) ++ e ∷ (b ++ p.later))
    lawful_here a e b split = subst (IsLawful m.state) (in_history a e b split) whole.lawful

    pub sound_here : (a : List Event) (e : Event) (b : List Event) → p.mine ≡ a ++ e ∷ b → IsSoundAt (moment_after m (p.earlier ++ a))
    sound_here a e b split = sound_after m (p.earlier ++ a) (legal_first m (p.earlier ++ a) (e ∷ (b ++ p.later)) (lawful_here a e b split)) sound

    pub row_here : (a : List Event) (e : Event) (b : List Event) → p.mine ≡ a ++ e ∷ b → IsWrite id e → IsRowIn (moment_after m (p.earlier ++ a)).state d.room id
    row_here a e b split w = (only_its (p.earlier ++ a) e (b ++ p.later) (in_history a e b split) w).1

    -- who writes in the part
    writes_here : (a : List Event) (e : Event) (b : List Event) → p.mine ≡ a ++ e ∷ b → IsWrite id e → WriteOf m sound n history blocks whole kept writer t (p.earlier ++ a) e id
    writes_here a e b split w = write_of m sound n history blocks whole kept file writer t p s a e b id split (only_its (p.earlier ++ a) e (b ++ p.later) (in_history a e b split) w).0 w

    no_write_statement : (z : Statement) (at : ℕ) (content : Data) → IsNoWrite z → z ≡ say.Write at content → ⊥
    no_write_statement z at content none is = subst IsNoWrite is none

    no_write_there : IsNoWrite t.statement → NoneWritten id p.mine
    no_write_there none a e b split w = (let o = writes_here a e b split w in no_write_statement t.statement o.at o.content none o.says)

    -- behind the statement's calls others call
    pub rest_none : NoneWritten id s.rest
    rest_none =
        let is : history ≡ (p.earlier ++ s.front) ++ (s.rest ++ p.later) = p.split ∙ ap (λ z. p.earlier ++ (z ++ p.later)) s.split ∙ ap (λ z. p.earlier ++ z) (append_assoc s.front s.rest p.later) ∙ sym (append_assoc p.earlier s.front (s.rest ++ p.later)) in
        idle_none (p.earlier ++ s.front) s.rest p.later is s.none_behind

    by_front : NoneWritten id s.front → NoneWritten id p.mine
    by_front front = subst (NoneWritten id) (sym s.split) (none_both id s.front s.rest front rest_none)

    over_end : (t.outcome ≡ line.Stopped) ⊎ (t.outcome ≡ line.Gone) → WasOver p.e
    over_end (inl is) = inl (sym says ∙ is)
    over_end (inr is) = inr (sym says ∙ is)

    stopped_none : (t.outcome ≡ line.Stopped) ⊎ (t.outcome ≡ line.Gone) → NoneWritten id p.mine
    stopped_none over a e b split w = not_over a e b split w (writes_here a e b split w)
      where
        not_over : (a : List Event) (e : Event) (b : List Event) → p.mine ≡ a ++ e ∷ b → IsWrite id e → WriteOf m sound n history blocks whole kept writer t (p.earlier ++ a) e id → ⊥
        not_over a e b split w o =
            (write_calls n kept o.at o.content t.statement o.says p.mine p.spent p.e p.comes a e b split (only_its (p.earlier ++ a) e (b ++ p.later) (in_history a e b split) w).0).1 (over_end over) id w.at w.block w.stamp
            (whole_write (moment_after m (p.earlier ++ a)).state e w.stamp (legal_rest m (p.earlier ++ a) (e ∷ (b ++ p.later)) (lawful_here a e b split)).1 w.told) w.asked w.told

    counted_none : ((x : OneWriter) → writer ≡ Some x → writes_told x.dropping.writer s.front ≡ 0) → NoneWritten id s.front
    counted_none none a e b split w =
        let there : p.mine ≡ a ++ e ∷ (b ++ s.rest) = s.split ∙ ap (λ z. z ++ s.rest) split ∙ append_assoc a (e ∷ b) s.rest in
        let o = writes_here a e (b ++ s.rest) there w in
        none_counted id s.front (subst (λ k. writes_told k s.front ≡ 0) o.its_id (none o.it o.has)) a e b split w

    -- ---- behind the line

    abbrev Behind : Account → Statement → Outcome → Type 0
    Behind acc z o = Agrees s.new_writer (p.earlier ++ p.mine) (told_of id cap acc z o)

    same_told : (acc : Account) (z : Statement) (o : Outcome) → IsOther o → KeepsOld writer o s.new_writer → NoneWritten id p.mine → Agrees writer p.earlier acc → Behind acc z o
    same_told acc z o is keeps none agrees =
        let same = told_same id cap acc z o is in
        record {
          latest = λ x has. (let k = keeps.same x has in same.latest ∙ agrees.latest k.0 k.1 ∙ ap (λ (y : Dropping). nat_eq y.writer id) (sym k.2));
          writes = ap (map change_of) (at_more p.earlier p.mine none) ∙ agrees.writes ∙ sym same.writes;
        }

    opened_other : (acc : Account) (z : Statement) (other : ℕ) → nat_eq other id ≡ false → ((told_of id cap acc z (line.Opened other)).latest ≡ false) × ((told_of id cap acc z (line.Opened other)).writes ≡ acc.writes)
    opened_other acc z other off = subst (λ b. ((if b then nothing true else record { latest = false; writes = acc.writes; least = acc.least; most = acc.most }).latest ≡ false) × ((if b then nothing true else record { latest = false; writes = acc.writes; least = acc.least; most = acc.most }).writes ≡ acc.writes)) (sym off) (refl, refl)

    differ : (x y : ℕ) → (x ≡ y → ⊥) → nat_eq x y ≡ false
    differ x y apart = by (nat_eq x y) refl
      where
        by : (b : Bool) → nat_eq x y ≡ b → b ≡ false
        by true is = absurd (apart (let same : x ≡ y = grind (arith, nat_tests) in same))
        by false is = refl

    same_one : (x y : OneWriter) → Some x ≡ Some y → x ≡ y
    same_one x y is = cc

    -- another writer is opened, since this one was entered before
    opens_line : (acc : Account) → HasEntered n p.earlier d → OpensNew m n (record { before = p.earlier; events = s.front }) t.statement t.outcome s.new_writer → Agrees writer p.earlier acc → Behind acc t.statement t.outcome
    opens_line acc entered o agrees = subst (λ x. Behind acc t.statement x) (sym o.says) (told_so (opened_other acc t.statement o.id off))
      where
        apart : o.it.dropping.writer ≡ id → ⊥
        apart same = never_twice m history p.earlier p.mine p.later n d o.it.dropping whole.lawful p.split entered (subst (λ es. HasEntered n es o.it.dropping) (sym s.split) (entered_more n s.front s.rest o.it.dropping (opens_in m n p.earlier s.front o.name o.it o.opens))) (same ∙ sym d_id)

        off : nat_eq o.id id ≡ false
        off = differ o.id id (λ same. apart (sym o.its_id ∙ same))

        told_so : ((told_of id cap acc t.statement (line.Opened o.id)).latest ≡ false) × ((told_of id cap acc t.statement (line.Opened o.id)).writes ≡ acc.writes) → Behind acc t.statement (line.Opened o.id)
        told_so (latest, writes) = record {
          latest = λ x has. latest ∙ sym off ∙ ap (λ k. nat_eq k id) (o.its_id ∙ ap (λ (y : OneWriter). y.dropping.writer) (same_one o.it x (sym o.has ∙ has)));
          writes = ap (map change_of) (at_more p.earlier p.mine (no_write_there (subst IsNoWrite (sym o.asked) tt))) ∙ agrees.writes ∙ sym writes;
        }

    -- nothing was issued by a writer that was entered in this part
    nothing_yet : IsNoWrite t.statement → HasEntered n p.mine d → At (p.earlier ++ p.mine) ≡ []
    nothing_yet none k =
        ap (λ es. At es) (ap (λ z. p.earlier ++ z) k.all ∙ sym (append_assoc p.earlier k.first (k.event ∷ k.later)))
        ∙ at_more (p.earlier ++ k.first) (k.event ∷ k.later) (none_behind id k.first (k.event ∷ k.later) (subst (NoneWritten id) k.all (no_write_there none)))
        ∙ subst (λ w. (moment_after m (p.earlier ++ k.first)).issued d.room w ≡ []) d_id (new_there m sound history p.earlier p.mine p.later n d whole.lawful p.split k)

    pub starts : IsNoWrite t.statement → (it : OneWriter) → s.new_writer ≡ Some it → it.dropping.writer ≡ id → HasEntered n p.mine d → Agrees s.new_writer (p.earlier ++ p.mine) (nothing true)
    starts none it has same k = record {
      latest = λ x is. sym (is_equal x.dropping.writer id (ap (λ (y : OneWriter). y.dropping.writer) (same_one x it (sym is ∙ has)) ∙ same));
      writes = ap (map change_of) (nothing_yet none k);
    }

    -- the account with one write more
    abbrev Wrote_so : ℕ → ℕ → List ℕ → Account → Account
    Wrote_so at stamp bytes acc = write_more id at bytes stamp (made_room cap acc)

    its_dropping : (x : OneWriter) → s.new_writer ≡ Some (and_one x) → (y : OneWriter) → s.new_writer ≡ Some y → y.dropping ≡ x.dropping
    its_dropping x new y is = ap (λ (z : OneWriter). z.dropping) (sym (same_one (and_one x) y (sym new ∙ is)))

    -- where one call is this write, which the statement made
    wrote_by : (acc : Account) (x : OneWriter) (at stamp : ℕ) (bytes : List ℕ) (front : List Event) (e : Event) (rest : List Event) → s.front ≡ front ++ e ∷ rest → IsWrite id e → e.ask.call ≡ Write id at bytes → e.reply ≡ Wrote stamp → writes_told id s.front ≡ 1 → x.dropping.writer ≡ id → writer ≡ Some x → s.new_writer ≡ Some (and_one x) → Agrees writer p.earlier acc
        → Agrees s.new_writer (p.earlier ++ p.mine) (Wrote_so at stamp bytes acc)
    wrote_by acc x at stamp bytes front e rest split w asked told one same has new agrees =
        let none = one_counted id front e rest w (ap (writes_told id) (sym split) ∙ one) in
        let mine : p.mine ≡ front ++ e ∷ (rest ++ s.rest) = s.split ∙ ap (λ z. z ++ s.rest) split ∙ append_assoc front (e ∷ rest) s.rest in
        record {
          latest = λ y is_it. (room_same cap acc).latest ∙ agrees.latest x has ∙ ap (λ (z : Dropping). nat_eq z.writer id) (sym (its_dropping x new y is_it));
          writes = ap (λ es. map change_of (At (p.earlier ++ es))) mine
              ∙ one_goes p.earlier front e (rest ++ s.rest) at bytes stamp (made_room cap acc).writes none.0 (none_both id rest s.rest none.1 rest_none) asked told (row_here front e (rest ++ s.rest) mine w) (sound_here front e (rest ++ s.rest) mine) (agrees.writes ∙ sym (room_same cap acc).writes);
        }

    -- by another writer
    wrote_other : (acc : Account) (x : OneWriter) → (x.dropping.writer ≡ id → ⊥) → writer ≡ Some x → s.new_writer ≡ Some (and_one x) → Agrees writer p.earlier acc → Agrees s.new_writer (p.earlier ++ p.mine) acc
    wrote_other acc x apart has new agrees = record {
      latest = λ y is_it. agrees.latest x has ∙ ap (λ (z : Dropping). nat_eq z.writer id) (sym (its_dropping x new y is_it));
      writes = ap (map change_of) (at_more p.earlier p.mine (λ a e b split w. not_by a e b split w (writes_here a e b split w))) ∙ agrees.writes;
    }
      where
        not_by : (a : List Event) (e : Event) (b : List Event) → p.mine ≡ a ++ e ∷ b → IsWrite id e → WriteOf m sound n history blocks whole kept writer t (p.earlier ++ a) e id → ⊥
        not_by a e b split w o = apart (ap (λ (y : OneWriter). y.dropping.writer) (same_one x o.it (sym has ∙ o.has)) ∙ o.its_id)

    wrote_line : (acc : Account) (x : OneWriter) (at place len stamp : ℕ) (content : Data) → writer ≡ Some x → s.new_writer ≡ Some (and_one x) → WritesOnce n s.front x at (bytes_of content) stamp → Agrees writer p.earlier acc → Behind acc (say.Write at content) (line.Wrote place len (Some stamp))
    wrote_line acc x at place len stamp content has new once agrees = by (nat_eq x.dropping.writer id) refl
      where
        If : Bool → Type 0
        If b = Agrees s.new_writer (p.earlier ++ p.mine) (if b then Wrote_so at stamp (bytes_of content) acc else acc)

        same_id : nat_eq x.dropping.writer id ≡ true → x.dropping.writer ≡ id
        same_id is = grind (arith, nat_tests)

        not_this : nat_eq x.dropping.writer id ≡ false → x.dropping.writer ≡ id → ⊥
        not_this off same = let on : nat_eq x.dropping.writer id ≡ true = grind (arith, nat_tests) in let clash : true ≡ false = sym on ∙ off in absurd (cc)

        on_call : (e : Event) (h : Halved e s.front) → (e.caller ≡ n) × (e.ask ≡ unbroken (Write x.dropping.writer at (bytes_of content))) × (e.reply ≡ Wrote stamp) → x.dropping.writer ≡ id → Agrees s.new_writer (p.earlier ++ p.mine) (Wrote_so at stamp (bytes_of content) acc)
        on_call e h (own, asked, told) same =
            let call : e.ask.call ≡ Write id at (bytes_of content) = ap (λ (a : Ask). a.call) asked ∙ ap (λ k. Write k at (bytes_of content)) same in
            wrote_by acc x at stamp (bytes_of content) h.front e h.rest h.is (record { at = at; block = bytes_of content; stamp = stamp; asked = call; told = told }) call told (subst (λ k. writes_told k s.front ≡ 1) same once.alone) same has new agrees

        by : (b : Bool) → nat_eq x.dropping.writer id ≡ b → Behind acc (say.Write at content) (line.Wrote place len (Some stamp))
        by true is =
            let f = any_found (λ (e : Event). (e.caller ≡ n) × (e.ask ≡ unbroken (Write x.dropping.writer at (bytes_of content))) × (e.reply ≡ Wrote stamp)) s.front once.asks in
            subst If (sym (agrees.latest x has ∙ is)) (on_call f.0 (halved f.0 s.front f.1) f.2 (same_id is))
        by false is = subst If (sym (agrees.latest x has ∙ is)) (wrote_other acc x (not_this is) has new agrees)

    pub line_goes : (acc : Account) → HasEntered n p.earlier d → Agrees writer p.earlier acc → Behind acc t.statement t.outcome
    line_goes acc entered agrees = by (writer_line m n (record { before = p.earlier; events = s.front }) t.statement writer t.outcome s.new_writer s.writes)
      where
        none_by : IsNoWrite t.statement ⊎ ((t.outcome ≡ line.Stopped) ⊎ (t.outcome ≡ line.Gone)) ⊎ ((x : OneWriter) → writer ≡ Some x → writes_told x.dropping.writer s.front ≡ 0) → NoneWritten id p.mine
        none_by (inl none) = no_write_there none
        none_by (inr (inl over)) = stopped_none over
        none_by (inr (inr none)) = by_front (counted_none none)

        by : WriterLine m n (record { before = p.earlier; events = s.front }) writer t.statement t.outcome s.new_writer → Behind acc t.statement t.outcome
        by (an_opening o) = opens_line acc entered o agrees
        by (a_write x at place len stamp content asked says_so has new once) = subst (λ z. Behind acc z t.outcome) (sym asked) (subst (λ o. Behind acc (say.Write at content) o) (sym says_so) (wrote_line acc x at place len stamp content has new once agrees))
        by (neither is keeps none) = same_told acc t.statement t.outcome is keeps (none_by none) agrees

  -- ---- one line after the other

  agrees_later : (writer : Option OneWriter) (done idle : List Event) (a : Account) → NoneWritten id idle → Agrees writer done a → Agrees writer (done ++ idle) a
  agrees_later writer done idle a none agrees = record { latest = agrees.latest; writes = ap (map change_of) (at_more done idle none) ∙ agrees.writes }

  pub waited : (done later rest : List Event) → history ≡ later ++ rest → Idles n history blocks done later → (writer : Option OneWriter) (a : Account) → Agrees writer done a → Agrees writer later a
  waited done later rest is i writer a agrees =
      subst (λ es. Agrees writer es a) (sym i.is) (agrees_later writer done i.idle a (idle_none done i.idle rest (is ∙ ap (λ z. z ++ rest) i.is ∙ append_assoc done i.idle rest) i.none) agrees)

  pub account_goes : (done : List Event) (kept : Kept) (file : Option OneFile) (writer : Option OneWriter) (ts : List Told) (a : Account) → ShownEach m sound n history blocks whole done kept file writer ts → HasEntered n done d → Agrees writer done a
      → map change_of (At history) ≡ (account_of id cap a ts).writes
  account_goes done kept file writer [] a idle entered agrees = (waited done history [] (sym (append-nil history)) idle writer a agrees).writes
  account_goes done kept file writer (t ∷ ts) a (p, says, idle, s, more) entered agrees =
      let here : Agrees writer p.earlier a = waited done p.earlier (p.mine ++ p.later) p.split idle writer a agrees in
      let known : HasEntered n p.earlier d = subst (λ es. HasEntered n es d) (sym idle.is) (entered_more n done idle.idle d entered) in
      account_goes (p.earlier ++ p.mine) p.e.kept s.new s.new_writer ts (told_of id cap a t.statement t.outcome) more (entered_more n p.earlier p.mine d known) (line_goes kept file writer t p says s a known here)

-- ---- from the line on that opened the writer

-- what comes behind a line
pub record FromLine (m : Moment) (sound : IsSoundAt m) (n : ℕ) (history : List Event) (blocks : List (List Event)) (whole : Next m [] history) (t : Told) (rest : List Told) : Type 0 where
  pub kept : Kept
  pub file : Option OneFile
  pub writer : Option OneWriter
  pub part : PartOf n history blocks kept t.phase t.statement
  pub says : t.outcome ≡ part.e.outcome
  pub shown : IsShown m sound n history blocks whole kept file writer t part.earlier part.mine
  pub more : ShownEach m sound n history blocks whole (part.earlier ++ part.mine) part.e.kept shown.new shown.new_writer rest

pub from_line : (m : Moment) (sound : IsSoundAt m) (n : ℕ) (history : List Event) (blocks : List (List Event)) (whole : Next m [] history) (ts : List Told) (t : Told) (rest : List Told) (done : List Event) (kept : Kept) (file : Option OneFile) (writer : Option OneWriter)
    → ShownEach m sound n history blocks whole done kept file writer (ts ++ t ∷ rest) → FromLine m sound n history blocks whole t rest
from_line m sound n history blocks whole [] t rest done kept file writer (p, says, idle, s, more) = record { kept = kept; file = file; writer = writer; part = p; says = says; shown = s; more = more }
from_line m sound n history blocks whole (q ∷ ts) t rest done kept file writer (p, says, idle, s, more) = from_line m sound n history blocks whole ts t rest (p.earlier ++ p.mine) p.e.kept s.new s.new_writer more

pub account_from : (id cap : ℕ) (a : Account) (ts : List Told) (t : Told) (rest : List Told) → t.outcome ≡ line.Opened id → account_of id cap a (ts ++ t ∷ rest) ≡ account_of id cap (nothing true) rest
account_from id cap a [] t rest says =
    let same : nat_eq id id ≡ true = grind (arith, nat_tests) in
    ap (λ o. account_of id cap (told_of id cap a t.statement o) rest) says ∙ ap (λ b. account_of id cap (if b then nothing true else record { latest = false; writes = a.writes; least = a.least; most = a.most }) rest) same
account_from id cap a (q ∷ ts) t rest says = account_from id cap (told_of id cap a q.statement q.outcome) ts t rest says

module _ (run : Run) (m : Moment) (end : State) (fits : FitsScript run.script) (sound : IsSoundAt m) (right : IsRight run.script m.state run.lines end) where
  abbrev All : Next m [] right.history
  All = whole_history run m end fits sound right

  -- who entered as a writer writes by it, and nobody else does
  pub entered_writes : (n id : ℕ) (d : Dropping) → d.writer ≡ id → HasEntered n right.history d → (pre : List Event) (e : Event) (post : List Event) → right.history ≡ pre ++ e ∷ post → IsWrite id e → (e.caller ≡ n) × IsRowIn (moment_after m pre).state d.room id
  entered_writes n id d d_id entered pre e post is w =
      let v = written run m end fits sound right pre e post id is w in
      let all : right.history ≡ v.done ++ (v.first ++ e ∷ post) = is ∙ ap (λ z. z ++ e ∷ post) v.before_is ∙ append_assoc v.done v.first (e ∷ post) in
      let one = entered_once m.state right.history v.number n v.it.dropping d right.leads.lawful (subst (λ es. HasEntered v.number es v.it.dropping) (sym all) (entered_more v.number v.done (v.first ++ e ∷ post) v.it.dropping v.entered)) entered (v.its_id ∙ sym d_id) in
      (v.own ∙ one.caller, record { row = v.of.row; held = v.of.held; here = v.of.here ∙ one.room })

  -- the writer that a line opened
  from_it : (o : Told) (id : ℕ) → Says run o (line.Opened id) → (n cap : ℕ) (rest : List Told) (f : FromLine m sound n right.history right.calls.blocks All o rest) (it : OneWriter) → f.shown.new_writer ≡ Some it → IsNoWrite o.statement → it.dropping.writer ≡ id → HasEntered n f.part.mine it.dropping → HasEntered n right.history it.dropping
      → map change_of ((moment_after m right.history).issued (container run m end fits sound right o) id) ≡ (account_of id cap (nothing true) rest).writes
  from_it o id says n cap rest f it has is_no its k entered = ap (λ r. map change_of ((moment_after m right.history).issued r id)) (home (opened_line run m end fits sound right o id says)) ∙ goes
    where
      home : OpenedSo run m end fits sound right o id → container run m end fits sound right o ≡ it.dropping.room
      home x = x.in_room ∙ sym (entered_once m.state right.history n x.number it.dropping x.dropping right.leads.lawful entered x.entered (its ∙ sym x.its_id)).room

      goes : map change_of ((moment_after m right.history).issued it.dropping.room id) ≡ (account_of id cap (nothing true) rest).writes
      goes = account_goes m sound n right.history right.calls.blocks All id cap it.dropping its (entered_writes n id it.dropping its entered) (f.part.earlier ++ f.part.mine) f.part.e.kept f.shown.new f.shown.new_writer rest (nothing true) f.more (entered_behind n f.part.earlier f.part.mine it.dropping k)
          (starts m sound n right.history right.calls.blocks All id cap it.dropping its (entered_writes n id it.dropping its entered) f.kept f.file f.writer o f.part f.says f.shown is_no it has its k)

  from_opened : (o : Told) (id : ℕ) → Says run o (line.Opened id) → (n cap : ℕ) (rest : List Told) (f : FromLine m sound n right.history right.calls.blocks All o rest) → OpensNew m n (record { before = f.part.earlier; events = f.shown.front }) o.statement o.outcome f.shown.new_writer
      → map change_of ((moment_after m right.history).issued (container run m end fits sound right o) id) ≡ (account_of id cap (nothing true) rest).writes
  from_opened o id says n cap rest f opens = from_it o id says n cap rest f opens.it opens.has (subst IsNoWrite (sym opens.asked) tt) (sym opens.its_id ∙ same (sym opens.says ∙ says.says)) mine (all mine)
    where
      same : line.Opened opens.id ≡ line.Opened id → opens.id ≡ id
      same is = cc

      mine : HasEntered n f.part.mine opens.it.dropping
      mine = subst (λ es. HasEntered n es opens.it.dropping) (sym f.shown.split) (entered_more n f.shown.front f.shown.rest opens.it.dropping (opens_in m n f.part.earlier f.shown.front opens.name opens.it opens.opens))

      all : HasEntered n f.part.mine opens.it.dropping → HasEntered n right.history opens.it.dropping
      all k = subst (λ es. HasEntered n es opens.it.dropping) (sym f.part.split) (entered_behind n f.part.earlier (f.part.mine ++ f.part.later) opens.it.dropping (entered_more n f.part.mine f.part.later opens.it.dropping k))

  -- the law of this file
  pub issued_told : (o : Told) (id : ℕ) → Says run o (line.Opened id) → map change_of ((moment_after m right.history).issued (container run m end fits sound right o) id) ≡ (account run o.actor id (told run)).writes
  issued_told o id says =
      let c = chain_of run m end fits sound right o says.is_line in
      let n : ℕ = c.parts.number in
      let cap : ℕ = cap_of (slice_get run.script.actors o.actor) in
      let split = own_split run o (among (told run) o says.is_line) in
      let each = subst (λ ts. ShownEach m sound n right.history right.calls.blocks All [] c.parts.kept None None ts) split.is c.each in
      let f = from_line m sound n right.history right.calls.blocks All (own o.actor (before run o)) o split.rest [] c.parts.kept None None each in
      elim (writer_step m n (record { before = f.part.earlier; events = f.shown.front }) f.writer o.statement o.outcome f.shown.new_writer f.shown.writes) as (λ _. map change_of ((moment_after m right.history).issued (container run m end fits sound right o) id) ≡ (account run o.actor id (told run)).writes) [
        | inl opens ↦ from_opened o id says n cap split.rest f opens ∙ ap (λ (a : Account). a.writes) (sym (ap (λ ts. account_of id cap (nothing false) ts) split.is ∙ account_from id cap (nothing false) (own o.actor (before run o)) o split.rest says.says))
        | inr keeps ↦ absurd (subst IsNotOpened says.says keeps.not_opened)
      ]
