-- What a reader's line shows of that which was told before.
use Rattle.std.proofs.Common.{◌≡◌, ◌≤◌, ◌+◌, ◌⊎◌, inl, inr, ℕ, true, false, List, [], ◌∷◌, ◌++◌, length, map, Option, Some, None, refl, sym, ap, ◌∙◌, subst, arith, append_assoc, length-append}
use Rattle.std.specs.List.{All, AllByRecursion, Any}
use Rattle.std.proofs.lemmas.List.{append-nil}
use Rattle.std.proofs.lemmas.List.Elements.{All-from_recursion, recursion_from_All}
use Rattle.plfs_types.specs.declared.entries.Trunc.{Trunc}
use Rattle.plfs_types.specs.declared.entries.WriterCount.{WriterCount}
use Rattle.container_layout.specs.declared.items.Item.{Item}
use Rattle.container_layout.specs.declared.items.Item.TheVariants.{Index, Trunc as TruncItem}
use Rattle.container_layout.specs.Paths.{path_of}
use Rattle.mount_model.specs.History.{Event}
use Rattle.mount_model.specs.State.{State}
use Rattle.mount_sound.specs.Growing.{Stays}
use Rattle.mount_sound.specs.Owed.{IsLawful}
use Rattle.reader_laws.specs.Bounds.{IsSyncedIn}
use Rattle.reader_laws.specs.Gathering.{Gathered, IsAdmissible}
use Rattle.reader_laws.specs.Moments.{Dropping, Grows, HadItem, HadTrunc, IsSoundAt, Moment, Stood, file_told, moment_after}
use Rattle.reader_laws.specs.View.{WritersRise}
use Rattle.reader_laws.proofs.Gathered.Facts.{All-weaker, any_found, follows, found_any, grows_after, legal_first, legal_rest, moment-append, sound_after}
use Rattle.script_lang.specs.Ranges.{FitsScript}
use Rattle.script_lang.specs.declared.line.Outcome.{Outcome}
use Rattle.script_lang.specs.declared.line.Outcome.TheVariants as line
use Rattle.script_lang.specs.declared.script.Statement.{Statement}
use Rattle.script_lang.specs.declared.script.Statement.TheVariants.{Close, Flatten, Ls, Map, Open, Read, Recover, Refresh, Rename, Rclose, Ropen, Stat, Stop as Arms, Sync, Trunc as Truncate, Verify, Write}
use Rattle.run_core.specs.Play.{IsRight}
use Rattle.headline_laws.specs.OneFile.{OneFile, printed_cut}
use Rattle.headline_laws.specs.OneWriter.{OneWriter}
use Rattle.headline_laws.specs.Opening.{SeesOneFile, Stretch}
use Rattle.headline_laws.specs.Showing.{Shows, TellsOneFile}
use Rattle.headline_laws.specs.Writing.{ShowsWriting}
use Rattle.headline_laws.proofs.Plays.Facts.{any_back, any_front}
use Rattle.headline.specs.Run.{IsLine, Run, Says, Told, surely_before}
use Rattle.plfs_types.specs.Places.{IsAmong}
use Rattle.headline.specs.Trees.{Has}
use Rattle.headline.specs.Views.{IdsRise, item_of}
use Rattle.headline.specs.Files.{reader_at}
use Rattle.headline.specs.Changes.{Writing, writer_at, writing_at}
use Rattle.headline.specs.Readers.{HasReaders, SeesWhatWasTold}
use Rattle.headline_laws.proofs.OrderlyLines.Answering.{printed_there}
use Rattle.headline_laws.proofs.Story.Entered.{entered_once}
use Rattle.headline_laws.proofs.Statements.Known.{HasEntered, IsNotOpened, entered_more, opens_entered, ReadsIn, writer_step}
use Rattle.headline_laws.proofs.Story.Lines.{AnyLine, TwoHere, container, line_here, reads_in, room_of, two_here}
use Rattle.headline_laws.proofs.Story.Namings.{story_of}
use Rattle.headline_laws.proofs.Trees.Marked.{made_trunc}
use Rattle.headline_laws.proofs.Trees.Printed.{IsCounted, ids_rise, printed_all, stamps_rise}
use Rattle.headline_laws.proofs.Trees.Still.{file_of}

-- ---- places in a history

heads : (a b : Event) (xs ys : List Event) → a ∷ xs ≡ b ∷ ys → a ≡ b
heads a b xs ys is = cc

tails : (a b : Event) (xs ys : List Event) → a ∷ xs ≡ b ∷ ys → xs ≡ ys
tails a b xs ys is = cc

-- the shorter of two fronts of a history begins the longer one
pub fronts : (a b c d : List Event) → a ++ b ≡ c ++ d → length a ≤ length c → (gap : List Event) × (c ≡ a ++ gap)
fronts [] b c d is le = (c, refl)
fronts (x ∷ a) b [] d is le = absurd (omega (arith, le))
fronts (x ∷ a) b (y ∷ c) d is le =
    let more = fronts a b c d (tails x y (a ++ b) (c ++ d) is) (omega (arith, le)) in
    (more.0, ap (λ z. z ∷ c) (sym (heads x y (a ++ b) (c ++ d) is)) ∙ ap (λ z. x ∷ z) more.1)

-- ---- a line of a reader

-- its file, as its actor saw it from its first call on
pub record SeesSo (m : Moment) (n : ℕ) (before front : List Event) (old new : Option OneFile) (s : Statement) (size : ℕ) (cut : List WriterCount) (truncs : List Trunc) : Type 0 where
  pub file : OneFile
  pub has : new ≡ Some file
  pub earlier : List Event
  pub first : Event
  pub sees : SeesOneFile m n (record { before = before; events = front }) earlier first file
  pub tells : TellsOneFile size cut truncs file
  pub refreshes : s ≡ Refresh → (former : OneFile) × (old ≡ Some former) × (file.room ≡ former.room)

not_refresh : (name : List ℕ) (workers : ℕ) → Ropen name workers ≡ Refresh → ⊥
not_refresh name workers is = cc

module _ (m : Moment) (n : ℕ) (before front : List Event) (size : ℕ) (cut : List WriterCount) (truncs : List Trunc) where
  abbrev There : Stretch
  There = record { before = before; events = front }

  abbrev Said : Outcome
  Said = line.Reader size cut truncs

  pub sees_so : (s : Statement) (old new : Option OneFile) → Shows m n There old s Said new → SeesSo m n before front old new s size cut truncs
  sees_so (Ropen name workers) None new (file, has, opens, tells) = record { file = file; has = has; earlier = opens.earlier; first = opens.first; sees = opens.sees; tells = tells; refreshes = λ is. absurd (not_refresh name workers is) }
  sees_so (Ropen name workers) (Some old) new shows = absurd shows.1
  sees_so Refresh None new shows = absurd shows.1
  sees_so Refresh (Some former) new (file, has, refreshes, tells) = record { file = file; has = has; earlier = refreshes.earlier; first = refreshes.first; sees = refreshes.sees; tells = tells; refreshes = λ is. (former, refl, refreshes.same) }
  sees_so (Read at len) None new shows = absurd shows.1
  sees_so (Read at len) (Some file) new shows = absurd shows.1
  sees_so (Verify at content) None new shows = absurd shows.1
  sees_so (Verify at content) (Some file) new shows = absurd shows.1
  sees_so Map None new shows = absurd shows.1
  sees_so Map (Some file) new shows = absurd (let clash = shows.1 in cc)
  sees_so Rclose None new shows = absurd shows.1
  sees_so Rclose (Some file) new shows = absurd (let clash = shows.1 in cc)
  sees_so (Stat name) old new shows = absurd shows.1
  sees_so (Truncate name length) old new shows = absurd shows.1
  sees_so (Rename name to) old new shows = absurd shows.1
  sees_so (Recover name) old new shows = absurd shows.1
  sees_so (Flatten name) old new shows = absurd shows.1
  sees_so (Open name) old new shows = absurd shows.1
  sees_so (Write at content) old new shows = absurd shows.1
  sees_so Sync old new shows = absurd shows.1
  sees_so Close old new shows = absurd shows.1
  sees_so Ls old new shows = absurd shows.1
  sees_so (Arms call bytes) old new shows = absurd shows.1

-- ---- a line of a sync or a close

-- its writer was told that so many are synced
record SyncsSo (before front : List Event) (writer : Option OneWriter) (count : ℕ) : Type 0 where
  pub it : OneWriter
  pub has : writer ≡ Some it
  pub synced : IsSyncedIn (before ++ front) it.dropping count

module _ (m : Moment) (n : ℕ) (before front : List Event) (count : ℕ) where
  synced_so : (s : Statement) (old new : Option OneWriter) → ShowsWriting m n (record { before = before; events = front }) old s (line.Synced count) new → SyncsSo before front old count
  synced_so Sync None new shows = absurd shows.1
  synced_so Sync (Some it) new shows = record { it = it; has = refl; synced = any_back _ before front shows.1 }
  synced_so Close None new shows = absurd shows.1
  synced_so Close (Some it) new shows = absurd shows.0
  synced_so (Open name) None new shows = absurd shows.0
  synced_so (Open name) (Some it) new shows = absurd shows.0
  synced_so (Write at content) None new shows = absurd shows.1
  synced_so (Write at content) (Some it) new shows = absurd shows.0
  synced_so s old new shows = absurd shows.0

  closed_so : (s : Statement) (old new : Option OneWriter) → ShowsWriting m n (record { before = before; events = front }) old s (line.Closed count) new → SyncsSo before front old count
  closed_so Sync None new shows = absurd shows.1
  closed_so Sync (Some it) new shows = absurd shows.0
  closed_so Close None new shows = absurd shows.1
  closed_so Close (Some it) new shows = record { it = it; has = refl; synced = shows.1 }
  closed_so (Open name) None new shows = absurd shows.0
  closed_so (Open name) (Some it) new shows = absurd shows.0
  closed_so (Write at content) None new shows = absurd shows.1
  closed_so (Write at content) (Some it) new shows = absurd shows.0
  closed_so s old new shows = absurd shows.0

-- ---- a line of an opening

-- the container of an opening is that of its writer
opened_room : (m : Moment) (n : ℕ) (stretch : Stretch) (nothing : ℕ) (old new : Option OneFile) (w : Option OneWriter) (id : ℕ) (s : Statement) (o : Outcome) → o ≡ line.Opened id → (shows : Shows m n stretch old s o new) (it : OneWriter) → w ≡ Some it → room_of m n stretch nothing old new w s o shows ≡ it.dropping.room
opened_room m n stretch nothing old new w id s (line.Opened other) says shows it has = ap (λ (x : Option OneWriter). room_of m n stretch nothing old new x s (line.Opened other) shows) has
opened_room m n stretch nothing old new w id s o says shows it has = absurd (cc)

-- ---- the fields

-- behind these, in a part of a history that has these first events
pub in_part : (history earlier mine later front rest upto more : List Event) → history ≡ earlier ++ (mine ++ later) → mine ≡ front ++ rest → front ≡ upto ++ more → history ≡ (earlier ++ upto) ++ (more ++ (rest ++ later))
in_part history earlier mine later front rest upto more is its front_is =
    is ∙ ap (λ z. earlier ++ (z ++ later)) its ∙ ap (λ z. earlier ++ ((z ++ rest) ++ later)) front_is
    ∙ ap (λ z. earlier ++ z) (append_assoc (upto ++ more) rest later ∙ append_assoc upto more (rest ++ later))
    ∙ sym (append_assoc earlier upto (more ++ (rest ++ later)))

module _ (run : Run) (m : Moment) (end : State) (fits : FitsScript run.script) (sound : IsSoundAt m) (right : IsRight run.script m.state run.lines end) where
  abbrev pub Of : Told → ℕ
  Of = container run m end fits sound right

  -- ---- of moments

  pub lawful_to : (c rest : List Event) → right.history ≡ c ++ rest → IsLawful m.state c
  lawful_to c rest is = legal_first m c rest (subst (IsLawful m.state) is right.leads.lawful)

  pub grows_to : (a gap rest : List Event) → right.history ≡ (a ++ gap) ++ rest → Grows (moment_after m a) (moment_after m (a ++ gap))
  grows_to a gap rest is =
      let lawful : IsLawful m.state (a ++ gap) = lawful_to (a ++ gap) rest is in
      subst (Grows (moment_after m a)) (sym (moment-append m a gap)) (grows_after (moment_after m a) gap (legal_rest m a gap lawful) (sound_after m a (legal_first m a gap lawful) sound))

  -- ---- a reader's line in its part

  abbrev pub ItsLine : Option Told → Writing → Told → Type 0
  ItsLine r w t = AnyLine run m end fits sound right r w t

  -- its file, and the events up to the listing of truncates
  pub record ReaderLine {r : Option Told} {w : Writing} {t : Told} (l : ItsLine r w t) (size : ℕ) (cut : List WriterCount) (truncs : List Trunc) : Type 0 where
    pub so : SeesSo m l.number l.line.part.earlier l.line.shown.front l.line.file l.line.shown.new t.statement size cut truncs
    pub in_room : Of t ≡ so.file.room
    pub upto : List Event
    pub rest : List Event
    pub split : right.history ≡ (l.line.part.earlier ++ upto) ++ rest
    pub moment : so.file.moment ≡ moment_after m (l.line.part.earlier ++ upto)
    pub begun : List Event
    pub upto_is : upto ≡ so.earlier ++ begun
    pub within : length (l.line.part.earlier ++ upto) ≤ length l.line.part.earlier + length l.line.part.mine

  pub reader_line : (r : Option Told) (w : Writing) (t : Told) (l : ItsLine r w t) (size : ℕ) (cut : List WriterCount) (truncs : List Trunc) → t.outcome ≡ line.Reader size cut truncs → ReaderLine l size cut truncs
  reader_line r w t l size cut truncs says =
      let h = l.line.shown in
      let p = l.line.part in
      let stretch : Stretch = record { before = p.earlier; events = h.front } in
      let z = sees_so m l.number p.earlier h.front size cut truncs t.statement l.line.file h.new (subst (λ o. Shows m l.number stretch l.line.file t.statement o h.new) says h.shows) in
      let reads : ReadsIn Of t (line.Reader size cut truncs) h.new = subst (λ o. ReadsIn Of t o h.new) says (reads_in Of m l.number stretch (length run.after.rooms) l.line.file h.new h.new_writer t t.statement t.outcome h.shows l.line.here) in
      let till : List Event = z.earlier ++ z.first ∷ z.sees.more in
      let front : h.front ≡ till ++ (z.sees.listing ∷ z.sees.later) = z.sees.split ∙ sym (append_assoc z.earlier (z.first ∷ z.sees.more) (z.sees.listing ∷ z.sees.later)) in
      record {
        so = z;
        in_room = reads z.file z.has;
        upto = till;
        rest = (z.sees.listing ∷ z.sees.later) ++ (h.rest ++ p.later);
        split = in_part right.history p.earlier p.mine p.later h.front h.rest till (z.sees.listing ∷ z.sees.later) p.split h.split front;
        moment = z.sees.until;
        begun = z.first ∷ z.sees.more;
        upto_is = refl;
        within = (let long = length-append p.earlier till in let all = ap length h.split ∙ length-append h.front h.rest in let its = ap length front ∙ length-append till (z.sees.listing ∷ z.sees.later) in omega (arith, long, all, its));
      }

  -- what was so in a part that ended before the line's began
  abbrev pub ends_before : {s t : Told} → TwoHere run m end fits sound right s t → List Event → List Event → Type 0
  ends_before two upto gap = two.other.line.part.earlier ≡ (two.one.line.part.earlier ++ upto) ++ gap

  pub before_it : (s t : Told) (two : TwoHere run m end fits sound right s t) (upto later : List Event) → two.one.line.shown.front ≡ upto ++ later → (gap : List Event) × ends_before two upto gap
  before_it s t two upto later front =
      let p = two.one.line.part in
      let h = two.one.line.shown in
      let q = two.other.line.part in
      let split = in_part right.history p.earlier p.mine p.later h.front h.rest upto later p.split h.split front in
      let behind = two.behind in
      let one = length-append p.earlier upto in
      let mine = ap length h.split ∙ length-append h.front h.rest in
      let its = ap length front ∙ length-append upto later in
      fronts (p.earlier ++ upto) (later ++ (h.rest ++ p.later)) q.earlier (q.mine ++ q.later) (sym split ∙ q.split) (omega (arith, behind, one, mine, its))

  -- ---- synced and closed

  -- who entered in the first events of a part did so in the history
  entered_all : (n : ℕ) (done rest : List Event) (d : Dropping) → right.history ≡ done ++ rest → HasEntered n done d → HasEntered n right.history d
  entered_all n done rest d is h = subst (λ es. HasEntered n es d) (sym is) (entered_more n done rest d h)

  pub record OpenedSo (o : Told) (id : ℕ) : Type 0 where
    pub number : ℕ
    pub dropping : Dropping
    pub its_id : dropping.writer ≡ id
    pub in_room : Of o ≡ dropping.room
    pub entered : HasEntered number right.history dropping

  pub opened_line : (o : Told) (id : ℕ) → Says run o (line.Opened id) → OpenedSo o id
  opened_line o id says =
      let l = line_here run m end fits sound right o says.is_line in
      let p = l.line.part in
      let h = l.line.shown in
      let stretch : Stretch = record { before = p.earlier; events = h.front } in
      elim (writer_step m l.number stretch l.line.writer o.statement o.outcome h.new_writer h.writes) as (λ _. OpenedSo o id) [
        | inl opens ↦
            let ids : line.Opened opens.id ≡ line.Opened id = sym opens.says ∙ says.says in
            let same : opens.id ≡ id = cc in
            let split = in_part right.history p.earlier p.mine p.later h.front h.rest h.front [] p.split h.split (sym (append-nil h.front)) in
            record {
              number = l.number;
              dropping = opens.it.dropping;
              its_id = sym opens.its_id ∙ same;
              in_room = l.line.here ∙ opened_room m l.number stretch (length run.after.rooms) l.line.file h.new h.new_writer id o.statement o.outcome says.says h.shows opens.it opens.has;
              entered = entered_all l.number (p.earlier ++ h.front) ([] ++ (h.rest ++ p.later)) opens.it.dropping split (opens_entered m l.number p.earlier h.front opens.name opens.it opens.opens);
            }
        | inr keeps ↦ absurd (subst IsNotOpened says.says keeps.not_opened)
      ]

  -- so many writes were told as synced of a writer that has this dropping, in a part before this one
  record SyncedBefore (s t : Told) (two : TwoHere run m end fits sound right s t) (n id : ℕ) : Type 0 where
    pub dropping : Dropping
    pub its_id : dropping.writer ≡ id
    pub entered : HasEntered two.one.number right.history dropping
    pub synced : IsSyncedIn two.other.line.part.earlier dropping n

  either_synced : (s : Told) (n number : ℕ) (before front : List Event) (old new : Option OneWriter) → ShowsWriting m number (record { before = before; events = front }) old s.statement s.outcome new → Says run s (line.Synced n) ⊎ Says run s (line.Closed n) → SyncsSo before front old n
  either_synced s n number before front old new shows (inl says) = synced_so m number before front n s.statement old new (subst (λ o. ShowsWriting m number (record { before = before; events = front }) old s.statement o new) says.says shows)
  either_synced s n number before front old new shows (inr says) = closed_so m number before front n s.statement old new (subst (λ o. ShowsWriting m number (record { before = before; events = front }) old s.statement o new) says.says shows)

  synced_before : (s t : Told) (two : TwoHere run m end fits sound right s t) (n id : ℕ) → Says run s (line.Synced n) ⊎ Says run s (line.Closed n) → writer_at run s ≡ Some id → SyncedBefore s t two n id
  synced_before s t two n id says its =
      let l = two.one.line in
      let p = l.part in
      let h = l.shown in
      let y = either_synced s n two.one.number p.earlier h.front l.writer h.new_writer h.writes says in
      let b = before_it s t two h.front [] (sym (append-nil h.front)) in
      record {
        dropping = y.it.dropping;
        its_id = l.known.its id its y.it y.has;
        entered = entered_all two.one.number p.earlier (p.mine ++ p.later) y.it.dropping p.split (l.known.entered y.it y.has);
        synced = subst (λ es. IsSyncedIn es y.it.dropping n) (sym b.1) (any_front _ (p.earlier ++ h.front) b.0 y.synced);
      }

  synced_seen : run.in_order ≡ false → (t s o : Told) (size : ℕ) (cut : List WriterCount) (truncs : List Trunc) (n id : ℕ) → Says run t (line.Reader size cut truncs) → Says run s (line.Synced n) ⊎ Says run s (line.Closed n) → IsLine run s → writer_at run s ≡ Some id → surely_before run s t ≡ true → Says run o (line.Opened id) → Of o ≡ Of t → 1 ≤ n
      → Any (λ (c : WriterCount). (c.writer ≡ id) × (n ≤ c.count)) cut
  synced_seen free t s o size cut truncs n id says told is_line its sooner opened same some =
      let two = two_here run m end fits sound right free s t is_line says.is_line sooner in
      let y = synced_before s t two n id told its in
      let x = opened_line o id opened in
      let one = entered_once m.state right.history two.one.number x.number y.dropping x.dropping right.leads.lawful y.entered x.entered (y.its_id ∙ sym x.its_id) in
      let z = reader_line two.reader_then two.writing_then t two.other size cut truncs says.says in
      let room : y.dropping.room ≡ z.so.file.room = one.room ∙ sym x.in_room ∙ same ∙ z.in_room in
      let seen = z.so.sees.synced y.dropping n room (any_front _ two.other.line.part.earlier z.so.earlier y.synced) in
      let f = any_found (λ (g : Gathered). (g.dropping ≡ y.dropping) × (n ≤ g.count)) z.so.file.cut seen in
      let many : n ≤ f.0.count = f.2.1 in
      subst (λ c. Any (λ (c : WriterCount). (c.writer ≡ id) × (n ≤ c.count)) c) (sym z.so.tells.counts)
      (found_any (λ (c : WriterCount). (c.writer ≡ id) × (n ≤ c.count)) (printed_cut z.so.file.cut) (record { writer = f.0.dropping.writer; count = f.0.count }) (printed_there z.so.file.cut f.0 f.1 (omega (arith, some, many)))
      (ap (λ (d : Dropping). d.writer) f.2.0 ∙ y.its_id, many))

  -- ---- truncates

  truncate_seen : run.in_order ≡ false → (t s : Told) (size : ℕ) (cut : List WriterCount) (truncs : List Trunc) (name : List ℕ) (stamp many : ℕ) → Says run t (line.Reader size cut truncs) → Says run s (line.Truncated stamp) → s.statement ≡ Truncate name many → surely_before run s t ≡ true → Of s ≡ Of t
      → IsAmong (record { stamp = stamp; size = many }) truncs
  truncate_seen free t s size cut truncs name stamp many says told asked sooner same =
      let two = two_here run m end fits sound right free s t told.is_line says.is_line sooner in
      let l = two.one.line in
      let p = l.part in
      let h = l.shown in
      let z = reader_line two.reader_then two.writing_then t two.other size cut truncs says.says in
      let made = made_trunc m two.one.number p.earlier h.front (length run.after.rooms) l.file h.new h.new_writer name many stamp s.statement s.outcome asked told.says h.shows in
      let upto : List Event = made.until ++ made.marking ∷ [] in
      let b = before_it s t two upto made.later made.split in
      let there : (p.earlier ++ upto) ++ (b.0 ++ z.upto) ≡ two.other.line.part.earlier ++ z.upto = sym (append_assoc (p.earlier ++ upto) b.0 z.upto) ∙ ap (λ es. es ++ z.upto) (sym b.1) in
      let grows = grows_to (p.earlier ++ upto) (b.0 ++ z.upto) z.rest (z.split ∙ ap (λ es. es ++ z.rest) (sym there)) in
      let room : _ ≡ z.so.file.room = sym l.here ∙ same ∙ z.in_room in
      let had : HadTrunc (moment_after m ((p.earlier ++ upto) ++ (b.0 ++ z.upto))) z.so.file.room stamp many = subst (λ k. HadTrunc (moment_after m ((p.earlier ++ upto) ++ (b.0 ++ z.upto))) k stamp many) room (grows.stands _ (TruncItem stamp many) tt made.stands) in
      subst (λ ts. IsAmong (record { stamp = stamp; size = many }) ts) (sym z.so.tells.truncates)
      (z.so.sees.view.all_truncs.all (record { stamp = stamp; size = many }) (subst (λ x. HadTrunc x z.so.file.room stamp many) (ap (moment_after m) there ∙ sym z.moment) had))

  -- ---- what stands in the tree after

  abbrev StoodThere : Moment → Gathered → Type 0
  StoodThere moment g = Stood moment g.dropping

  module _ (left : end.store.tree ≡ Some run.after) where
    pub last_tree : (moment_after m right.history).state.store.tree ≡ Some run.after
    last_tree = ap (λ (s : State). s.store.tree) ((follows m right.history).0 ∙ right.leads.ends) ∙ left

    -- an item of the last moment stands there
    pub last_item : (room : ℕ) (item : Item) → HadItem (moment_after m right.history) room item → Has run.after room item
    last_item room item last = (last.bytes, file_of run.after room item ∙ ap (λ o. file_told o room (path_of item)) (sym last_tree) ∙ last.there)

    pub stands_after : (c rest : List Event) (room : ℕ) (item : Item) → right.history ≡ c ++ rest → Stays item → HadItem (moment_after m c) room item → Has run.after room item
    stands_after c rest room item is stays had =
        let grows = grows_to c rest [] (is ∙ sym (append-nil (c ++ rest))) in
        let last : HadItem (moment_after m right.history) room item = subst (λ es. HadItem (moment_after m es) room item) (sym is) (grows.stands room item stays had) in
        last_item room item last

    abbrev IsCountedThere : Told → WriterCount → Type 0
    IsCountedThere t c = (1 ≤ c.count) × ((host : ℕ) × Has run.after (Of t) (Index host c.writer))

    line_of_either : (s : Told) (n : ℕ) → Says run s (line.Synced n) ⊎ Says run s (line.Closed n) → IsLine run s
    line_of_either s n (inl says) = says.is_line
    line_of_either s n (inr says) = says.is_line

    its_prefixes : (start moment : Moment) (cut : List Gathered) → IsAdmissible start moment cut → AllByRecursion (StoodThere moment) cut
    its_prefixes start moment [] all = tt
    its_prefixes start moment (g ∷ cut) all = (all.0.stands, its_prefixes start moment cut all.1)

    counted_there : (t : Told) (moment : Moment) (room : ℕ) (cut : List Gathered) → WritersRise room cut → AllByRecursion (StoodThere moment) cut → ((item : Item) → Stays item → HadItem moment room item → Has run.after (Of t) item) → AllByRecursion (IsCounted (IsCountedThere t)) cut
    counted_there t moment room [] rise all stands = tt
    counted_there t moment room (g ∷ cut) rise all stands = (
      λ some. (some, (g.dropping.host, stands (Index g.dropping.host g.dropping.writer) tt (subst (λ k. HadItem moment k (Index g.dropping.host g.dropping.writer)) rise.0 all.0))),
      counted_there t moment room cut rise.2 all.1 stands,
    )

    -- what the line tells of its container
    sees_what : run.in_order ≡ false → (t : Told) (size : ℕ) (cut : List WriterCount) (truncs : List Trunc) → Says run t (line.Reader size cut truncs) → SeesWhatWasTold run (story_of run m end fits sound right) t cut truncs
    sees_what free t size cut truncs says =
        let l = line_here run m end fits sound right t says.is_line in
        let z = reader_line (reader_at run t) (writing_at run t) t l size cut truncs says.says in
        let file : OneFile = z.so.file in
        let view = z.so.sees.view in
        let stands : (item : Item) → Stays item → HadItem file.moment file.room item → Has run.after (Of t) item =
        λ item stays had. subst (λ k. Has run.after k item) (sym z.in_room) (stands_after (l.line.part.earlier ++ z.upto) z.rest file.room item z.split stays (subst (λ x. HadItem x file.room item) z.moment had)) in
        record {
          synced = λ s o n id told its sooner opened same some. synced_seen free t s o size cut truncs n id says told (line_of_either s n told) its sooner opened same some;
          counted = subst (λ c. All (IsCountedThere t) c) (sym z.so.tells.counts)
              (All-from_recursion (IsCountedThere t) (printed_cut file.cut) (printed_all (IsCountedThere t) file.cut (counted_there t file.moment file.room file.cut view.rise (its_prefixes _ file.moment file.cut view.admissible) stands)));
          writers_rise = subst (λ c. IdsRise (map (λ (c : WriterCount). c.writer) c)) (sym z.so.tells.counts) (ids_rise file.room file.cut view.rise);
          truncated = λ s name stamp many told asked sooner same. truncate_seen free t s size cut truncs name stamp many says told asked sooner same;
          stamps_rise = subst (λ ts. IdsRise (map (λ (u : Trunc). u.stamp) ts)) (sym z.so.tells.truncates) (stamps_rise file.truncs view.all_truncs.rise);
          stay = subst (λ ts. All (λ (u : Trunc). Has run.after (Of t) (item_of u)) ts) (sym z.so.tells.truncates)
              (All-from_recursion (λ (u : Trunc). Has run.after (Of t) (item_of u)) file.truncs
              (All-weaker (λ (u : Trunc). HadTrunc file.moment file.room u.stamp u.size) (λ (u : Trunc). Has run.after (Of t) (item_of u)) file.truncs (λ u had. stands (item_of u) tt had) (recursion_from_All (λ (u : Trunc). HadTrunc file.moment file.room u.stamp u.size) file.truncs view.all_truncs.there)));
          refreshed = λ former asked had. (let r = z.so.refreshes asked in z.in_room ∙ r.2 ∙ sym (l.line.known.reads former had r.0 r.1));
        }

    pub readers_told : run.in_order ≡ false → HasReaders run (story_of run m end fits sound right)
    readers_told free = record { sees = sees_what free }
