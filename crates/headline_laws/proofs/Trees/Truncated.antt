-- What a told truncate does: it stands in the tree after, above all that had surely landed before its line, and below all that is written behind it.
use Rattle.std.proofs.Common.{◌≡◌, ◌≤◌, ◌<◌, ◌+◌, ℕ, zero, suc, true, false, List, [], ◌∷◌, ◌++◌, length, map, take, get_or, Option, Some, None, refl, sym, ap, ◌∙◌, subst, arith, append_assoc, length-append}
use Rattle.std.specs.Prelude.{slice_get}
use Rattle.std.specs.List.{All, AllByRecursion}
use Rattle.std.proofs.lemmas.List.{append-nil, take-append-le}
use Rattle.std.proofs.lemmas.List.Elements.{All-from_recursion, recursion_from_All}
use Rattle.plfs_types.specs.declared.entries.Entry.{Entry}
use Rattle.plain_file.specs.declared.changes.Change.{Change}
use Rattle.container_layout.specs.declared.items.Item.{Item}
use Rattle.container_layout.specs.declared.items.Item.TheVariants.{Index, Trunc as TruncItem}
use Rattle.container_layout.specs.Items.{IsItem}
use Rattle.container_layout.specs.Paths.{path_of}
use Rattle.container_layout.proofs.Facts.{elsewhere}
use Rattle.store_api.specs.Acts.{Stored}
use Rattle.store_api.specs.declared.tree.Room.{Room}
use Rattle.store_api.specs.declared.tree.Tree.{Tree}
use Rattle.mount_model.specs.Mounting.{IsMounted}
use Rattle.mount_model.specs.declared.call.Ask.{Ask}
use Rattle.mount_model.specs.declared.call.Call.TheVariants.{Write as AsksWrite}
use Rattle.mount_model.specs.declared.reply.Reply.TheVariants.{Wrote}
use Rattle.mount_model.specs.History.{Event}
use Rattle.mount_model.specs.State.{State}
use Rattle.mount_sound.specs.Dropping.{bytes_of}
use Rattle.mount_sound.specs.Excluding.{IsAboveAll}
use Rattle.mount_sound.specs.Items.{HasItem}
use Rattle.mount_sound.specs.Issued.{issued_after, written_by}
use Rattle.mount_sound.specs.Ledger.{Written, entries_in}
use Rattle.mount_sound.specs.Owed.{InRoom, IsLawful}
use Rattle.mount_sound.specs.Sound.{IsSoundTree}
use Rattle.mount_sound.specs.There.{entries_there}
use Rattle.mount_sound.proofs.Facts.{take_all}
use Rattle.reader_laws.specs.Moments.{Dropping, IsNamed, IsSoundAt, Moment, Stood, index_then, issued_by, landed, landed_by, log_then, moment_after}
use Rattle.mount_sound.specs.Ledger.{change_of}
use Rattle.mount_model.specs.Running.{unbroken}
use Rattle.reader_laws.proofs.Gathered.Facts.{any_found, in_a_room, in_tree, landed_at, landed_is_first, landed_whole, legal_first, legal_rest, moment-append, sound_after}
use Rattle.script_lang.specs.Ranges.{FitsScript}
use Rattle.script_lang.specs.declared.line.Outcome.TheVariants as line
use Rattle.script_lang.specs.declared.script.Statement.TheVariants.{Trunc as Truncates}
use Rattle.outcomes.specs.Data.{bytes_of as bytes_of_data}
use Rattle.run_core.specs.Play.{IsRight}
use Rattle.headline_laws.specs.Changing.{IssuesAbove}
use Rattle.headline_laws.specs.OneWriter.{OneWriter, WritesOnce}
use Rattle.headline.specs.Run.{IsLine, Run, Says, Told, before, so_far, surely_before, told}
use Rattle.headline.specs.Trees.{Has, landed_writes}
use Rattle.headline.specs.Files.{reader_at}
use Rattle.headline.specs.Writers.{Writer, account}
use Rattle.headline.specs.Views.{IsWriter, opened, stamp_of, stood}
use Rattle.headline.specs.Changes.{Writing, id_of, writer_at, writing_at}
use Rattle.headline.specs.Left.{IsLeft}
use Rattle.headline.specs.Truncated.{HasTruncated}
use Rattle.headline_laws.proofs.Contents.Accounts.{entered_writes, issued_told}
use Rattle.headline_laws.proofs.Contents.Counted.{homes}
use Rattle.headline_laws.proofs.Contents.Issues.{IsRowIn, halved, write_issues}
use Rattle.headline_laws.proofs.Contents.Least.{HoldsBy, least_holds}
use Rattle.headline_laws.proofs.Contents.OpenedWriter.{First, Home, Last, its_dropping, landed_rises, sound_first, sound_last, stands_last}
use Rattle.headline_laws.proofs.Contents.WriterLine.{WriterLine, a_write, an_opening, neither, writer_line}
use Rattle.headline_laws.proofs.OrderlyLines.Synced.{IsOther}
use Rattle.headline_laws.proofs.Statements.Known.{HasEntered, entered_more}
use Rattle.headline_laws.proofs.Story.Attributed.{tail_of}
use Rattle.headline_laws.proofs.Story.Lines.{AnyLine, ShownLine, TwoHere, container, line_here, two_here, whole_history}
use Rattle.headline_laws.proofs.Trees.Left.{tells_first}
use Rattle.headline_laws.proofs.Trees.Marked.{made_trunc}
use Rattle.headline_laws.proofs.Trees.Old.{begins_with, is_there, landed_then}
use Rattle.headline_laws.proofs.Trees.Reading.{fronts, grows_to, in_part, last_tree, lawful_to, stands_after}
use Rattle.headline_laws.proofs.Trees.Still.{file_of, still, take_map}

-- ---- writes below a stamp

abbrev pub AreBelow : ℕ → List Change → Type 0
AreBelow stamp ws = AllByRecursion (λ (c : Change). stamp_of c < stamp) ws

fewer_below : (stamp fewer many : ℕ) (ws : List Change) → fewer ≤ many → AreBelow stamp (take many ws) → AreBelow stamp (take fewer ws)
fewer_below stamp zero many ws le all = tt
fewer_below stamp (suc fewer) zero ws le all = absurd (omega (arith, le))
fewer_below stamp (suc fewer) (suc many) [] le all = tt
fewer_below stamp (suc fewer) (suc many) (w ∷ ws) le all = (all.0, fewer_below stamp fewer many ws (omega (arith, le)) all.1)

entries_below : (stamp many : ℕ) (ws : List Written) → AllByRecursion (λ (e : Entry). e.stamp < stamp) (take many (entries_in ws)) → AreBelow stamp (take many (map change_of ws))
entries_below stamp zero ws all = tt
entries_below stamp (suc many) [] all = tt
entries_below stamp (suc many) (w ∷ ws) all = (all.0, entries_below stamp many ws all.1)

-- all that had landed is below a stamp that is above the room
landed_below : (m : Moment) (s : IsSoundAt m) (number stamp : ℕ) → InRoom m.state number (λ r. IsAboveAll r stamp) → (d : Dropping) → IsNamed d → d.room ≡ number → AllByRecursion (λ (e : Entry). e.stamp < stamp) (landed_by m d)
landed_below m s number stamp above d named room = by (index_then m d) refl
  where
    by : (file : Option (List ℕ)) → index_then m d ≡ file → AllByRecursion (λ (e : Entry). e.stamp < stamp) (landed_by m d)
    by None absent =
        let none : landed_by m d ≡ [] = ap (λ o. entries_there (bytes_of o) (bytes_of (log_then m d))) absent in
        subst (AllByRecursion (λ (e : Entry). e.stamp < stamp)) (sym none) tt
    by (Some bytes) there =
        let r = in_a_room (slice_get s.shape.tree.rooms d.room) (path_of (Index d.host d.writer)) bytes (in_tree m s d.room (path_of (Index d.host d.writer)) bytes there) in
        subst (AllByRecursion (λ (e : Entry). e.stamp < stamp)) (sym (landed_at m s d r.0 r.1))
        ((above s.shape.tree r.0 s.shape.told (ap (λ n. slice_get s.shape.tree.rooms n) (sym room) ∙ r.1)).entries d.host d.writer bytes (record { is_item = named; there = r.2 }))

module _ (run : Run) (times : Option (List ℕ)) (mount : Stored) (start end : State) (fits : FitsScript run.script) (mounted : IsMounted 0 times mount start) (tells : mount.tree ≡ Some run.before) (sound : IsSoundTree run.before)
    (right : IsRight run.script start run.lines end) (left : end.store.tree ≡ Some run.after) where
  abbrev Begins : Moment
  Begins = First run times mount start end fits mounted tells sound right left

  abbrev sound_begins : IsSoundAt Begins
  sound_begins = sound_first run times mount start end fits mounted tells sound right left

  abbrev Ends : Moment
  Ends = Last run times mount start end fits mounted tells sound right left

  abbrev Homes : Told → ℕ
  Homes = Home run times mount start end fits mounted tells sound right left

  -- all that is issued in the line's container
  abbrev Issued : Told → ℕ → List Change
  Issued t id = map change_of (Ends.issued (Homes t) id)

  module _ (t : Told) (name : List ℕ) (size stamp : ℕ) (says : Says run t (line.Truncated stamp)) (asked : t.statement ≡ Truncates name size) where
    -- where it was marked
    record Marked (earlier mine : List Event) : Type 0 where
      pub until : List Event
      pub upto : List Event
      pub between : List Event
      pub rest : List Event
      pub upto_is : upto ≡ until ++ between
      pub split : right.history ≡ upto ++ rest
      pub late : length earlier ≤ length until
      pub soon : length upto ≤ length earlier + length mine
      pub above : InRoom (moment_after Begins until).state (Homes t) (λ r. IsAboveAll r stamp)
      pub below : IssuesAbove (moment_after Begins upto) (Homes t) stamp
      pub named : IsItem (TruncItem stamp size)
      pub stands : Has run.after (Homes t) (TruncItem stamp size)

    marked : (r : Option Told) (w : Writing) (l : AnyLine run Begins end fits sound_begins right r w t) → Marked l.line.part.earlier l.line.part.mine
    marked r w l =
        let p = l.line.part in
        let h = l.line.shown in
        let made = made_trunc Begins l.number p.earlier h.front (length run.after.rooms) l.line.file h.new h.new_writer name size stamp t.statement t.outcome asked says.says h.shows in
        let upto : List Event = p.earlier ++ (made.until ++ made.marking ∷ []) in
        let split : right.history ≡ upto ++ (made.later ++ (h.rest ++ p.later)) = in_part right.history p.earlier p.mine p.later h.front h.rest (made.until ++ made.marking ∷ []) made.later p.split h.split made.split in
        let long = length-append p.earlier made.until in
        record {
          until = p.earlier ++ made.until;
          upto = upto;
          between = made.marking ∷ [];
          rest = made.later ++ (h.rest ++ p.later);
          upto_is = sym (append_assoc p.earlier made.until (made.marking ∷ []));
          split = split;
          late = omega (arith, long);
          soon = (let whole = length-append p.earlier (made.until ++ made.marking ∷ []) in let its = ap length h.split ∙ length-append h.front h.rest in let front = ap length made.split ∙ length-append (made.until ++ made.marking ∷ []) made.later in omega (arith, whole, its, front));
          above = subst (λ k. InRoom (moment_after Begins (p.earlier ++ made.until)).state k (λ r. IsAboveAll r stamp)) (sym l.line.here) made.cuts.above;
          below = subst (λ k. IssuesAbove (moment_after Begins upto) k stamp) (sym l.line.here) made.cuts.below;
          named = made.stands.is_item;
          stands = subst (λ k. Has run.after k (TruncItem stamp size)) (sym l.line.here) (stands_after run Begins end fits sound_begins right left upto (made.later ++ (h.rest ++ p.later)) _ (TruncItem stamp size) split tt made.stands);
        }

    pub truncate_stands : Has run.after (Homes t) (TruncItem stamp size)
    truncate_stands = (marked (reader_at run t) (writing_at run t) (line_here run Begins end fits sound_begins right t says.is_line)).stands

    -- no other stands under the stamp
    in_last : (item : Item) → IsItem item → Has run.after (Homes t) item → (room : Room) × (slice_get run.after.rooms (Homes t) ≡ Some room) × ((bytes : List ℕ) × HasItem room item bytes)
    in_last item is_item (bytes, is) =
        let r = in_a_room (slice_get run.after.rooms (Homes t)) (path_of item) bytes (sym (file_of run.after (Homes t) item) ∙ is) in
        (r.0, r.1, (bytes, record { is_item = is_item; there = r.2 }))

    same_room : (x y : Room) (o : Option Room) → o ≡ Some x → o ≡ Some y → x ≡ y
    same_room x y o is also = cc

    same_tree : (x y : Tree) (o : Option Tree) → o ≡ Some x → o ≡ Some y → x ≡ y
    same_tree x y o is also = cc

    pub truncate_alone : (other : ℕ) → IsItem (TruncItem stamp other) → Has run.after (Homes t) (TruncItem stamp other) → other ≡ size
    truncate_alone other is_item has =
        let k = marked (reader_at run t) (writing_at run t) (line_here run Begins end fits sound_begins right t says.is_line) in
        let last = sound_last run times mount start end fits mounted tells sound right left in
        let tree : run.after ≡ last.shape.tree = same_tree run.after last.shape.tree Ends.state.store.tree (last_tree run Begins end fits sound_begins right left) last.shape.told in
        let x = in_last (TruncItem stamp size) k.named k.stands in
        let y = in_last (TruncItem stamp other) is_item has in
        let one : y.0 ≡ x.0 = same_room y.0 x.0 (slice_get run.after.rooms (Homes t)) y.1 x.1 in
        (last.sound.rooms (Homes t) x.0 (ap (λ (r : Tree). slice_get r.rooms (Homes t)) (sym tree) ∙ x.1)).truncates stamp other size y.2.0 x.2.0 (subst (λ r. HasItem r (TruncItem stamp other) y.2.0) one y.2.1) x.2.1

    -- so many writes of a writer of the container are below
    abbrev Below : ℕ → ℕ → Type 0
    Below id many = AreBelow stamp (take many (Issued t id))

    holds_below : HoldsBy run times mount start end fits mounted tells sound right left Below t
    holds_below r w l d stands home x xs is short =
        let k = marked r w l in
        let now : Moment = moment_after Begins k.until in
        let after : right.history ≡ k.until ++ (k.between ++ k.rest) = k.split ∙ ap (λ z. z ++ k.rest) k.upto_is ∙ append_assoc k.until k.between k.rest in
        let s : IsSoundAt now = sound_after Begins k.until (lawful_to run Begins end fits sound_begins right k.until (k.between ++ k.rest) after) sound_begins in
        let first = landed_below now s (Homes t) stamp k.above d stands.is_item home in
        let many : ℕ = landed now d in
        let ones : AreBelow stamp (take many (map change_of (issued_by now d))) = entries_below stamp many (issued_by now d) (subst (AllByRecursion (λ (e : Entry). e.stamp < stamp)) (landed_is_first now s d stands.is_item) first) in
        let grown = (grows_to run Begins end fits sound_begins right k.until (k.between ++ k.rest) [] (after ∙ sym (append-nil (k.until ++ (k.between ++ k.rest))))).issued d.room d.writer in
        let last : (moment_after Begins (k.until ++ (k.between ++ k.rest))).issued d.room d.writer ≡ Ends.issued (Homes t) d.writer = ap (λ es. (moment_after Begins es).issued d.room d.writer) (sym after) ∙ ap (λ n. Ends.issued n d.writer) home in
        let few : many ≤ length (issued_by now d) = few_landed now s d stands.is_item in
        let same : take many (map change_of (issued_by now d)) ≡ take many (Issued t d.writer) =
        take_map change_of many (issued_by now d) ∙ ap (map change_of) (sym (take-append-le many (issued_by now d) grown.0 few)) ∙ ap (λ ws. map change_of (take many ws)) (sym grown.1 ∙ last) ∙ sym (take_map change_of many (Ends.issued (Homes t) d.writer)) in
        let late = k.late in
        fewer_below stamp (landed (moment_after Begins x) d) many (Issued t d.writer) (landed_rises run times mount start end fits mounted tells sound right left d x k.until xs (k.between ++ k.rest) stands.is_item is after (omega (arith, short, late))) (subst (AreBelow stamp) same ones)
      where
        few_landed : (m : Moment) (s : IsSoundAt m) (d : Dropping) → IsNamed d → landed m d ≤ length (issued_by m d)
        few_landed m s d named = (let all = landed_whole m s d named in omega (arith, all))

    -- ---- each writer

    old_above : (host id : ℕ) → IsItem (Index host id) → Has run.before (Homes t) (Index host id) → AreBelow stamp (landed_writes run.before (Homes t) host id)
    old_above host id is_item has =
        let d : Dropping = record { room = Homes t; host = host; writer = id } in
        let f = is_there run times mount start end fits mounted tells sound right (Homes t) (Index host id) has in
        let had : Stood Begins d = begins_with run times mount start end fits mounted tells sound right (Homes t) (Index host id) is_item (λ e. elsewhere (ap (λ (name : List ℕ). get_or name 0 0) e) refl) has in
        let last : Stood Ends d = stands_last run times mount start end fits mounted tells sound right left [] right.history d refl had in
        let one = landed_then run times mount start end fits mounted tells sound right d f.room f.bytes f.there (record { is_item = is_item; there = f.has }) [] right.history refl in
        let other = landed_then run times mount start end fits mounted tells sound right d f.room f.bytes f.there (record { is_item = is_item; there = f.has }) right.history [] (sym (append-nil right.history)) in
        let below : Below id (landed Begins d) = holds_below (reader_at run t) (writing_at run t) (line_here run Begins end fits sound_begins right t says.is_line) d last refl [] right.history refl (omega arith) in
        let tells_it = tells_first run times mount start end fits mounted tells sound right left d last in
        let those : IsLeft run (Homes t) _ = (still run times mount start right.history end mounted tells sound right.leads left).writers (Homes t) host id has in
        let writes : List Change = landed_writes run.before (Homes t) host id in
        let least = those.at_least in
        let all : take those.count writes ≡ writes = take_all writes those.count (omega (arith, least)) in
        let is : writes ≡ take (landed Ends d) (Issued t id) = sym all ∙ sym those.landed ∙ tells_it.writes in
        subst (AreBelow stamp) (sym is) (subst (λ k. AreBelow stamp (take k (Issued t id))) (one ∙ sym other) below)

    pub truncate_above : run.in_order ≡ false → (w : Writer) → IsWriter run (homes run times mount start end fits mounted tells sound right left) (Homes t) (before run t) (so_far run t) w → All (λ v. stamp_of v < stamp) (take w.least w.writes)
    truncate_above free w (stood is_item has is) =
        let all = old_above w.host w.id is_item has in
        subst (λ (x : Writer). All (λ v. stamp_of v < stamp) (take x.least x.writes)) (sym is)
        (All-from_recursion (λ (v : Change). stamp_of v < stamp) (take (length (landed_writes run.before (Homes t) w.host w.id)) (landed_writes run.before (Homes t) w.host w.id))
        (subst (AreBelow stamp) (sym (take_all (landed_writes run.before (Homes t) w.host w.id) (length (landed_writes run.before (Homes t) w.host w.id)) (omega arith))) all))
    truncate_above free w (opened o is_line told_so home is) =
        let opens : Says run o (line.Opened w.id) = record { is_line = is_line; says = told_so } in
        let low : Below w.id (account run o.actor w.id (before run t)).least = least_holds run times mount start end fits mounted tells sound right left Below (λ id fewer many le. fewer_below stamp fewer many (Issued t id) le) (λ id. tt) t says.is_line holds_below o w.id opens home free in
        let writes : Issued t w.id ≡ (account run o.actor w.id (told run)).writes = ap (λ n. map change_of (Ends.issued n w.id)) (sym home) ∙ issued_told run Begins end fits sound_begins right o w.id opens in
        subst (λ (x : Writer). All (λ v. stamp_of v < stamp) (take x.least x.writes)) (sym is)
        (All-from_recursion (λ (v : Change). stamp_of v < stamp) (take (account run o.actor w.id (before run t)).least (account run o.actor w.id (told run)).writes) (subst (λ ws. AreBelow stamp (take (account run o.actor w.id (before run t)).least ws)) writes low))

    -- ---- what is written later

    -- the writes that came are those of the later moment
    came_rest : {X : Type 0} (xs ys zs : List X) → xs ++ ys ≡ xs ++ zs → ys ≡ zs
    came_rest [] ys zs is = is
    came_rest (x ∷ xs) ys zs is = came_rest xs ys zs (tail_of x x (xs ++ ys) (xs ++ zs) is)

    last_of : (P : Written → Type 0) (xs : List Written) (x : Written) → AllByRecursion P (xs ++ x ∷ []) → P x
    last_of P [] x all = all.0
    last_of P (y ∷ xs) x all = last_of P xs x all.1

    -- a write that was answered behind the mark
    write_above : (upto gap rest : List Event) (e : Event) (id at : ℕ) (bytes : List ℕ) (other : ℕ) → IssuesAbove (moment_after Begins upto) (Homes t) stamp → right.history ≡ (upto ++ gap) ++ e ∷ rest → e.ask.call ≡ AsksWrite id at bytes → e.reply ≡ Wrote other → IsRowIn (moment_after Begins (upto ++ gap)).state (Homes t) id → stamp < other
    write_above upto gap rest e id at bytes other issues is asked told_so of =
        let now : Moment = moment_after Begins upto in
        let whole : right.history ≡ (upto ++ (gap ++ e ∷ [])) ++ rest = is ∙ sym (append_assoc (upto ++ gap) (e ∷ []) rest) ∙ ap (λ z. z ++ rest) (append_assoc upto gap (e ∷ [])) in
        let lawful : IsLawful now.state (gap ++ e ∷ []) = legal_rest Begins upto (gap ++ e ∷ []) (lawful_to run Begins end fits sound_begins right (upto ++ (gap ++ e ∷ [])) rest whole) in
        let first = issues gap id (legal_first now gap (e ∷ []) lawful) in
        let then_one = issues (gap ++ e ∷ []) id lawful in
        let here : moment_after now gap ≡ moment_after Begins (upto ++ gap) = sym (moment-append Begins upto gap) in
        let row : IsRowIn (moment_after now gap).state (Homes t) id = subst (λ (x : Moment). IsRowIn x.state (Homes t) id) (sym here) of in
        let x : Written = written_by row.row other at bytes in
        let issued : (moment_after now (gap ++ e ∷ [])).issued (Homes t) id ≡ (moment_after now gap).issued (Homes t) id ++ x ∷ [] =
        ap (λ (y : Moment). y.issued (Homes t) id) (moment-append now gap (e ∷ []))
        ∙ ap (λ c. issued_after (moment_after now gap).issued (moment_after now gap).state c e.reply (Homes t) id) asked
        ∙ ap (λ r. issued_after (moment_after now gap).issued (moment_after now gap).state (AsksWrite id at bytes) r (Homes t) id) told_so
        ∙ write_issues (moment_after now gap).issued (moment_after now gap).state (Homes t) id at bytes other row in
        let more : now.issued (Homes t) id ++ then_one.0 ≡ now.issued (Homes t) id ++ (first.0 ++ x ∷ []) = sym then_one.1 ∙ issued ∙ ap (λ z. z ++ x ∷ []) first.1 ∙ append_assoc (now.issued (Homes t) id) first.0 (x ∷ []) in
        let all : AllByRecursion (λ (w : Written). stamp < w.entry.stamp) (first.0 ++ x ∷ []) = subst (AllByRecursion (λ (w : Written). stamp < w.entry.stamp)) (came_rest (now.issued (Homes t) id) then_one.0 (first.0 ++ x ∷ []) more) (recursion_from_All (λ (w : Written). stamp < w.entry.stamp) then_one.0 then_one.2) in
        last_of (λ (w : Written). stamp < w.entry.stamp) first.0 x all

    pub truncate_below : run.in_order ≡ false → (s o : Told) (place len other id : ℕ) → IsLine run s → surely_before run t s ≡ true → s.outcome ≡ line.Wrote place len (Some other) → writer_at run s ≡ Some id → IsLine run o → o.outcome ≡ line.Opened id → Homes o ≡ Homes t → stamp < other
    truncate_below free s o place len other id is_s sooner wrote its is_o told_o home = by (writer_line Begins two.other.number (record { before = q.part.earlier; events = q.shown.front }) s.statement q.writer s.outcome q.shown.new_writer q.shown.writes)
      where
        two : TwoHere run Begins end fits sound_begins right t s
        two = two_here run Begins end fits sound_begins right free t s says.is_line is_s sooner

        q : ShownLine Begins sound_begins two.other.number right.history right.calls.blocks (whole_history run Begins end fits sound_begins right) (length run.after.rooms) (container run Begins end fits sound_begins right) two.reader_then two.writing_then s
        q = two.other.line

        n : ℕ
        n = two.other.number

        one_stamp : (a b c d e f : ℕ) → line.Wrote a b (Some c) ≡ line.Wrote d e (Some f) → c ≡ f
        one_stamp a b c d e f is = cc

        written_so : (x : OneWriter) (at stamp2 : ℕ) (bytes : List ℕ) → q.writer ≡ Some x → stamp2 ≡ other → WritesOnce n q.shown.front x at bytes stamp2 → stamp < other
        written_so x at stamp2 bytes has same once =
            let k = marked (reader_at run t) (writing_at run t) two.one in
            let its_id : x.dropping.writer ≡ id = q.known.its id (ap id_of two.writing_is ∙ its) x has in
            let entered : HasEntered n right.history x.dropping = subst (λ es. HasEntered n es x.dropping) (sym q.part.split) (entered_more n q.part.earlier (q.part.mine ++ q.part.later) x.dropping (q.known.entered x has)) in
            let d = its_dropping run times mount start end fits mounted tells sound right left o id (record { is_line = is_o; says = told_o }) n x.dropping entered its_id in
            let f = any_found (λ (e : Event). (e.caller ≡ n) × (e.ask ≡ unbroken (AsksWrite x.dropping.writer at bytes)) × (e.reply ≡ Wrote stamp2)) q.shown.front once.asks in
            let e : Event = f.0 in
            let h = halved e q.shown.front f.1 in
            let pre : List Event = q.part.earlier ++ h.front in
            let split : right.history ≡ pre ++ e ∷ (h.rest ++ (q.shown.rest ++ q.part.later)) =
            q.part.split ∙ ap (λ z. q.part.earlier ++ (z ++ q.part.later)) (q.shown.split ∙ ap (λ z. z ++ q.shown.rest) h.is)
            ∙ ap (λ z. q.part.earlier ++ z) (append_assoc (h.front ++ e ∷ h.rest) q.shown.rest q.part.later ∙ append_assoc h.front (e ∷ h.rest) (q.shown.rest ++ q.part.later))
            ∙ sym (append_assoc q.part.earlier h.front (e ∷ (h.rest ++ (q.shown.rest ++ q.part.later)))) in
            let long = length-append q.part.earlier h.front in
            let soon = k.soon in
            let behind = two.behind in
            let gap = fronts k.upto k.rest pre (e ∷ (h.rest ++ (q.shown.rest ++ q.part.later))) (sym k.split ∙ split) (omega (arith, long, soon, behind)) in
            let asked : e.ask.call ≡ AsksWrite id at bytes = ap (λ (a : Ask). a.call) f.2.1 ∙ ap (λ w. AsksWrite w at bytes) its_id in
            let told_it : e.reply ≡ Wrote other = f.2.2 ∙ ap (λ w. Wrote w) same in
            let row : IsRowIn (moment_after Begins pre).state x.dropping.room id = (entered_writes run Begins end fits sound_begins right n id x.dropping its_id entered pre e (h.rest ++ (q.shown.rest ++ q.part.later)) split (record { at = at; block = bytes; stamp = other; asked = asked; told = told_it })).1 in
            let here : IsRowIn (moment_after Begins (k.upto ++ gap.0)).state (Homes t) id = subst (λ es. IsRowIn (moment_after Begins es).state (Homes t) id) gap.1 (subst (λ r. IsRowIn (moment_after Begins pre).state r id) (d.room ∙ home) row) in
            write_above k.upto gap.0 (h.rest ++ (q.shown.rest ++ q.part.later)) e id at bytes other k.below (split ∙ ap (λ z. z ++ e ∷ (h.rest ++ (q.shown.rest ++ q.part.later))) gap.1) asked told_it here

        by : WriterLine Begins n (record { before = q.part.earlier; events = q.shown.front }) q.writer s.statement s.outcome q.shown.new_writer → stamp < other
        by (an_opening opens) = absurd (let clash : line.Opened opens.id ≡ line.Wrote place len (Some other) = sym opens.says ∙ wrote in cc)
        by (a_write x at place2 len2 stamp2 content asked says_so has new once) = written_so x at stamp2 (bytes_of_data content) has (one_stamp place2 len2 stamp2 place len other (sym says_so ∙ wrote)) once
        by (neither is keeps none) = absurd (subst IsOther wrote is)

  -- the law of this file
  pub truncates_told : run.in_order ≡ false → HasTruncated run (homes run times mount start end fits mounted tells sound right left)
  truncates_told free = record {
    cuts = λ t name size stamp says asked. record {
      stands = truncate_stands t name size stamp says asked;
      above = truncate_above t name size stamp says asked free;
      alone = truncate_alone t name size stamp says asked;
      below = truncate_below t name size stamp says asked free;
    };
  }
