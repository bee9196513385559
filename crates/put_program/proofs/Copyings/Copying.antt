-- A source that was copied: no loss of power takes one of its writes.
use Rattle.std.proofs.Common.{◌≡◌, ◌⊎◌, ℕ, ◌+◌, Bool, List, [], ◌∷◌, ◌++◌, length, Option, Some, None, Result, Ok, Err, refl, sym, ap, ◌∙◌, subst}
use Rattle.std.specs.List.{AllByRecursion}
use Rattle.std.proofs.lemmas.List.{append-nil, append_assoc}
use Rattle.edge_io.specs.Source.{Given, HandsOver}
use Rattle.mount_model.specs.History.{Event, state_after}
use Rattle.mount_model.specs.Paths.{Name}
use Rattle.mount_model.specs.State.{State}
use Rattle.mount_sound.specs.Ledger.{Written}
use Rattle.mount_sound.specs.Owed.{IsLawful}
use Rattle.mount_model.specs.declared.stuck.Stuck.{Stuck}
use Rattle.mount_model.specs.declared.stuck.Stuck.TheVariants.{Fault}
use Rattle.lone_flow.specs.Driving.{Makes}
use Rattle.mount_model.specs.Program.{Program}
use Rattle.mount_model.specs.declared.call.Call.{Call}
use Rattle.mount_model.specs.declared.reply.Reply.{Reply}
use Rattle.writer_flow.specs.declared.handle.WriterHandle.{WriterHandle}
use Rattle.writer_flow.specs.declared.handle.WriterOut.{WriterOut}
use Rattle.writer_flow.specs.Closing.{close_program}
use Rattle.writer_flow.specs.Opening.{open_program}
use Rattle.writer_flow.specs.Syncing.{sync_program}
use Rattle.writer_flow.specs.Writing.{write_program}
use Rattle.reader_laws.specs.Moments.{Dropping, IsSoundAt, Moment, issued_by, moment_after, next_moment}
use Rattle.reader_laws.proofs.Gathered.Facts.{follows, sound_after}
use Rattle.reader_laws.specs.Naming.{IsRoomNamed}
use Rattle.lone_flow.specs.Settling.{Closes, Settles}
use Rattle.packing_laws.specs.Lasting.{KeepsWrites}
use Rattle.packing_laws.proofs.Facts.{Adds, Comes, HasWritten, IsMade, KeptLaw, Named, Opens, Reaches, adds, comes_both, comes_none, is_made, keeps_later, made_reaches, opens as opens_writer, reaches_on, synced_keeps, writer_named}
use Rattle.copy_core.specs.declared.copying.Copied.{Copied}
use Rattle.copy_core.proofs.Facts.{Place, Told, made_told, told_cases}
use Rattle.copy_core.specs.Blocks.{AreBlocks, joined}
use Rattle.copy_core.specs.Copying.{Copies, CopiesInto, EndsAfter, EndsWrites, clears, clears_none, opens, opens_none}
use Rattle.copy_core.specs.Writing.{EndsAs, WritesAll, WritesEach, WritesWhole, beginning}
use Rattle.writer_laws.specs.Counting.{entry_count}
use Rattle.writer_laws.specs.Knowing.{IsSynced, Knows}
use Rattle.writer_laws.proofs.Facts.{sync_ends}
use Rattle.headline_laws.specs.Changing.{IsFreeName}
use Rattle.put_program.specs.Copied.{ArePlaced, IsKeptCopy}
use Rattle.put_program.specs.Shown.{ShowsOnly}
use Rattle.put_program.proofs.Copyings.Asked.{Asks, Settles as Settling, Spares, all_asked, asks_weaker, close_asks, sync_asks, write_asks}
use Rattle.put_program.proofs.Copyings.Cleared.{Emptied, cleared}
use Rattle.put_program.proofs.Copyings.Opened.{Beside, beside_made, greeted, opened_beside, shows_only}
use Rattle.put_program.proofs.Copyings.Spared.{IssuesNone, issued_same}

-- ---- all writes

record Wrotes (m : Moment) (last : Place) (d : Dropping) (writes : List Written) (at : ℕ) (blocks : List (List ℕ)) (end : State) : Type 0 where
  pub reaches : Reaches m end
  pub more : List Written
  pub placed : ArePlaced at blocks more
  pub has : HasWritten reaches.to last.handle d (writes ++ more)
  pub beside : Beside reaches.to d

wrote_each : (blocks : List (List ℕ)) (m : Moment) (start : State) (placing last : Place) (end : State) (d : Dropping) (writes : List Written) → IsSoundAt m → m.state ≡ start → HasWritten m placing.handle d writes → Beside m d → WritesEach blocks placing start last end → Wrotes m last d writes placing.at blocks end
wrote_each [] m start placing last end d writes sound here h beside (same, over) =
    let all : HasWritten m last.handle d writes = subst (λ (p : Place). HasWritten m p.handle d writes) (sym same) h in
    record {
      reaches = record { to = m; comes = comes_none m; at = here ∙ sym over };
      more = [];
      placed = tt;
      has = subst (λ ws. HasWritten m last.handle d ws) (sym (append-nil writes)) all;
      beside = beside;
    }
wrote_each (block ∷ blocks) m start placing last end d writes sound here h beside (next, between, w, others) =
    let t = made_told (placing.at + length block) w.out.handle w.out.result next w.told_so in
    let b : IsMade (write_program placing.handle placing.at block) m w.out between = is_made (write_program placing.handle placing.at block) m start w.out between here w.makes in
    let a : Adds m placing.handle next.handle placing.at block d writes between = adds m placing.handle next.handle placing.at block t.0 d writes w.out between h b t.1 t.2 in
    let sound_next : IsSoundAt a.reaches.to = subst (λ x. IsSoundAt x) a.reaches.comes.ends (sound_after m a.reaches.comes.events a.reaches.comes.lawful sound) in
    let asks : Asks (Spares d.writer) (write_program placing.handle placing.at block) = subst (λ w. Asks (Spares w) (write_program placing.handle placing.at block)) h.is_writer (write_asks placing.handle placing.at block) in
    let then : Beside a.reaches.to d = beside_made (write_program placing.handle placing.at block) m a.reaches.to w.out between d sound b asks a.reaches.comes a.reaches.at beside in
    let rest : Wrotes a.reaches.to last d (writes ++ a.w ∷ []) next.at blocks end = wrote_each blocks a.reaches.to between next last end d (writes ++ a.w ∷ []) sound_next a.reaches.at a.has then others in
    record {
      reaches = reaches_on m a.reaches.to end a.reaches.comes rest.reaches;
      more = a.w ∷ rest.more;
      placed = (a.at_is, a.bytes_are, subst (λ n. ArePlaced n blocks rest.more) t.3 rest.placed);
      has = subst (λ ws. HasWritten rest.reaches.to last.handle d ws) (append_assoc writes (a.w ∷ []) rest.more) rest.has;
      beside = rest.beside;
    }

-- ---- the end of the writer

no_trouble : (why : Stuck) → ◌≡◌ {A = Result (Unit {0}) Stuck} (Ok tt) (Err why) → ⊥
no_trouble why is = cc

-- the close that followed a sync
record Closed (h : Option WriterHandle) (r : Result ℕ Stuck) (start end : State) : Type 0 where
  handle : WriterHandle
  n : ℕ
  is : h ≡ Some handle
  told : r ≡ Ok n
  out : WriterOut
  makes : Makes (close_program handle) start out end

settled : (h : Option WriterHandle) (r : Result ℕ Stuck) (start end : State) → Closes h r start (Ok tt) end → Closed h r start end
settled h (Err why) start end c = absurd (no_trouble why c.0)
settled None (Ok n) start end c = absurd (no_trouble Fault c.0)
settled (Some handle) (Ok n) start end c = record { handle = handle; n = n; is = refl; told = refl; out = c.0; makes = c.1 }

-- what no loss of power takes, and how it was come to
record Kept (m : Moment) (d : Dropping) (writes : List Written) (end : State) : Type 0 where
  pub reaches : Reaches m end
  pub keeps : KeepsWrites reaches.to d writes
  pub shows : ShowsOnly reaches.to d writes

-- the writer of a sync goes on to its close
same_writer : (m : Moment) (handle : WriterHandle) (d : Dropping) (writes : List Written) (out : WriterOut) (end : State) → HasWritten m handle d writes → (b : IsMade (sync_program handle) m out end) → (left : WriterHandle) → out.handle ≡ Some left → left.writer ≡ d.writer
same_writer m handle d writes out end h b left is =
    let g : Moment = next_moment m b.greeting in
    let knows : Knows 0 handle h.row g.state = subst (λ (s : State). Knows 0 handle h.row s) (sym (greeted m b.greeting b.events b.lawful b.asks)) h.knows in
    let y : IsSynced 0 handle (entry_count h.row) out (state_after g.state b.events) = sync_ends 0 handle h.row g.state b.events out knows b.lawful.2 b.runs in
    ap (λ (x : WriterHandle). x.writer) (one y.handle left out.handle y.kept is) ∙ y.same ∙ h.is_writer
  where
    one : (a c : WriterHandle) (o : Option WriterHandle) → o ≡ Some a → o ≡ Some c → c ≡ a
    one a c o p q = cc

-- a program that settles a writer issues nothing
settling : {R : Type 0} (program : Program Call Reply R) (m : Moment) (result : R) (end : State) (d : Dropping) (w : ℕ) → (b : IsMade program m result end) → Asks (Settling w) program → issued_by (moment_after m (b.greeting ∷ b.events)) d ≡ issued_by m d
settling program m result end d w b asks = issued_same m (b.greeting ∷ b.events) d (subst (λ a. IssuesNone a.call) (sym b.asks) tt, none b.events (all_asked (Settling w) program b.events result asks b.alone b.runs))
  where
    none : (events : List Event) → AllByRecursion (λ (e : Event). Settling w e.ask.call) events → AllByRecursion (λ (e : Event). IssuesNone e.ask.call) events
    none [] all = tt
    none (e ∷ events) all = (all.0.1, none events all.1)

spares_too : {R : Type 0} (w : ℕ) (program : Program Call Reply R) → Asks (Settling w) program → Asks (Spares w) program
spares_too w program asks = asks_weaker (Settling w) (Spares w) program (λ q both. both.0) asks

kept : KeptLaw → (m : Moment) (handle : WriterHandle) (d : Dropping) (writes : List Written) (start end : State) → IsSoundAt m → m.state ≡ start → HasWritten m handle d writes → Beside m d → Settles handle start (Ok tt) end → Kept m d writes end
kept law m handle d writes start end sound here h beside s =
    let c = settled s.synced.handle s.synced.result s.between end s.closes in
    let b : IsMade (sync_program handle) m s.synced s.between = is_made (sync_program handle) m start s.synced s.between here s.syncs in
    let one : Reaches m s.between = made_reaches (sync_program handle) m s.synced s.between b in
    let keeps : KeepsWrites one.to d writes = synced_keeps m handle d writes s.synced s.between c.n sound h b c.told in
    let sound_one : IsSoundAt one.to = subst (λ x. IsSoundAt x) one.comes.ends (sound_after m one.comes.events one.comes.lawful sound) in
    let e : IsMade (close_program c.handle) one.to c.out end = is_made (close_program c.handle) one.to s.between c.out end one.at c.makes in
    let two : Reaches one.to end = made_reaches (close_program c.handle) one.to c.out end e in
    let syncs : Asks (Settling d.writer) (sync_program handle) = subst (λ w. Asks (Settling w) (sync_program handle)) h.is_writer (sync_asks handle) in
    let closes : Asks (Settling d.writer) (close_program c.handle) = subst (λ w. Asks (Settling w) (close_program c.handle)) (same_writer m handle d writes s.synced s.between h b c.handle c.is) (close_asks c.handle) in
    let beside_one : Beside one.to d = beside_made (sync_program handle) m one.to s.synced s.between d sound b (spares_too d.writer (sync_program handle) syncs) one.comes one.at beside in
    let beside_two : Beside two.to d = beside_made (close_program c.handle) one.to two.to c.out end d sound_one e (spares_too d.writer (close_program c.handle) closes) two.comes two.at beside_one in
    let issued : issued_by two.to d ≡ writes = settling (close_program c.handle) one.to c.out end d d.writer e closes ∙ settling (sync_program handle) m s.synced s.between d d.writer b syncs ∙ h.issued in
    record {
      reaches = reaches_on m one.to end one.comes two;
      keeps = subst (λ x. KeepsWrites x d writes) two.comes.ends (keeps_later law one.to two.comes.events d writes sound_one two.comes.lawful keeps);
      shows = shows_only two.to d writes issued beside_two;
    }

-- ---- the whole

ok_not : (a : Copied) (why : Stuck) → ◌≡◌ {A = Result Copied Stuck} (Ok a) (Err why) → ⊥
ok_not a why e = cc

-- what a writer that was opened wrote, synced and closed
record CopyBehind (met : Moment) (d : Dropping) (id : ℕ) (old : Given) (copied : Copied) (end : State) (new : Given) : Type 0 where
  pub blocks : List (List ℕ)
  pub are : AreBlocks blocks
  pub handed : HandsOver (joined blocks) old.left new.left
  pub ends : EndsAs copied.is_whole old new
  pub count : copied.bytes ≡ length (joined blocks)
  pub same : copied.writer ≡ id
  pub events : List Event
  pub lawful : IsLawful met.state events
  pub ends_at : state_after met.state events ≡ end
  pub writes : List Written
  pub placed : ArePlaced 0 blocks writes
  pub keeps : KeepsWrites (moment_after met events) d writes
  pub shows : ShowsOnly (moment_after met events) d writes

behind_all : KeptLaw → (met to : Moment) (start : State) (handle : WriterHandle) (d : Dropping) (old : Given) (copied : Copied) (end : State) (new : Given) → IsSoundAt met → Comes met to → to.state ≡ start → HasWritten to handle d [] → Beside to d → (last : Place) (is_whole : Bool) (after : State)
    → WritesWhole handle is_whole start old last after new → EndsAfter handle.writer last is_whole after (Ok copied) end → CopyBehind met d handle.writer old copied end new
behind_all law met to start handle d old copied end new sound on here h beside last is_whole after w (is, settles) =
    let sound_to : IsSoundAt to = subst (λ x. IsSoundAt x) on.ends (sound_after met on.events on.lawful sound) in
    let p : Wrotes to last d [] 0 w.blocks after = wrote_each w.blocks to start (beginning handle) last after d [] sound_to here h beside w.writes in
    let onward : Comes met p.reaches.to = comes_both met to p.reaches.to on p.reaches.comes in
    let sound_then : IsSoundAt p.reaches.to = subst (λ x. IsSoundAt x) onward.ends (sound_after met onward.events onward.lawful sound) in
    let k : Kept p.reaches.to d p.more end = kept law p.reaches.to last.handle d p.more after end sound_then p.reaches.at p.has p.beside settles in
    let all : Comes met k.reaches.to = comes_both met p.reaches.to k.reaches.to onward k.reaches.comes in
    record {
      blocks = w.blocks;
      are = w.are;
      handed = w.handed;
      ends = subst (λ (c : Copied). EndsAs c.is_whole old new) (sym is) w.ends;
      count = ap (λ (c : Copied). c.bytes) is ∙ w.count;
      same = ap (λ (c : Copied). c.writer) is;
      events = all.events;
      lawful = all.lawful;
      ends_at = sym (follows met all.events).0 ∙ ap (λ (x : Moment). x.state) all.ends ∙ k.reaches.at;
      writes = p.more;
      placed = p.placed;
      keeps = subst (λ x. KeepsWrites x d p.more) (sym all.ends) k.keeps;
      shows = subst (λ x. ShowsOnly x d p.more) (sym all.ends) k.shows;
    }

behind : KeptLaw → (met to : Moment) (start : State) (handle : WriterHandle) (d : Dropping) (old : Given) (copied : Copied) (end : State) (new : Given) → IsSoundAt met → Comes met to → to.state ≡ start → HasWritten to handle d [] → Beside to d → (told : Told) (after : State)
    → WritesAll handle start old told after new → EndsWrites handle.writer told after (Ok copied) end → CopyBehind met d handle.writer old copied end new
behind law met to start handle d old copied end new sound on here h beside told after =
    told_cases (λ t. WritesAll handle start old t after new → EndsWrites handle.writer t after (Ok copied) end → CopyBehind met d handle.writer old copied end new)
    (λ last is_whole w ends. behind_all law met to start handle d old copied end new sound on here h beside last is_whole after w ends)
    (λ why w ends. absurd (ok_not copied why ends.0)) told

into : KeptLaw → (name : Name) (host : ℕ) (m from : Moment) (start : State) (old : Given) (copied : Copied) (end : State) (new : Given) → IsSoundAt m → Comes m from → from.state ≡ start → IsFreeName from name ⊎ Emptied from name → CopiesInto name host start old (Ok copied) end new → IsKeptCopy name m old copied end new
into law name host m from start old copied end new sound comes here before (opens handle opened makes by) =
    let b : IsMade (open_program name host 1) from (Ok handle) opened = is_made (open_program name host 1) from start (Ok handle) opened here makes in
    let r : Reaches from opened = made_reaches (open_program name host 1) from (Ok handle) opened b in
    let sound_from : IsSoundAt from = subst (λ x. IsSoundAt x) comes.ends (sound_after m comes.events comes.lawful sound) in
    let o : Opens from handle name host 1 opened b = opens_writer from handle name host 1 opened sound_from b in
    let n : Named (next_moment from b.greeting) name o.d.room r.to = writer_named from handle name host 1 opened o.d sound_from b o.has in
    let greets : Comes from (next_moment from b.greeting) = record { events = b.greeting ∷ []; lawful = (b.lawful.0, b.lawful.1, tt); ends = refl } in
    let leads : Comes (next_moment from b.greeting) (moment_after (next_moment from b.greeting) n.opening) = record { events = n.opening; lawful = n.lawful; ends = refl } in
    let whole : Comes m (moment_after (next_moment from b.greeting) n.opening) = comes_both m from (moment_after (next_moment from b.greeting) n.opening) comes (comes_both from (next_moment from b.greeting) (moment_after (next_moment from b.greeting) n.opening) greets leads) in
    let met : Moment = moment_after m whole.events in
    let on : Comes met r.to = subst (λ x. Comes x r.to) (sym whole.ends) n.on in
    let c : CopyBehind met o.d handle.writer old copied end new = behind law met r.to opened handle o.d old copied end new (sound_after m whole.events whole.lawful sound) on r.at o.has (opened_beside from name host handle opened o.d sound_from b o.has before) by.written by.after by.writes by.ends in
    record {
      blocks = c.blocks;
      are = c.are;
      handed = c.handed;
      ends = c.ends;
      count = c.count;
      copy = record {
        opening = whole.events;
        lawful = whole.lawful;
        writer = o.d;
        is = sym o.has.is_writer ∙ sym c.same;
        named = subst (λ x. IsRoomNamed x name o.d.room) (sym whole.ends) n.named;
        events = c.events;
        lawful_then = c.lawful;
        ends = c.ends_at;
        writes = c.writes;
        placed = c.placed;
        keeps = c.keeps;
        shows_only = c.shows;
      };
    }
into law name host m from start old copied end new sound comes here before (opens_none why makes same is) = absurd (ok_not copied why is)

pub copied_kept : KeptLaw → (name : Name) (host : ℕ) (over : Bool) (m : Moment) (old : Given) (copied : Copied) (end : State) (new : Given) → IsSoundAt m → Copies name host over m.state old (Ok copied) end new → IsKeptCopy name m old copied end new
copied_kept law name host over m old copied end new sound (clears between first rest) =
    let r = cleared over name m between sound first in
    into law name host m r.reaches.to between old copied end new sound r.reaches.comes r.reaches.at r.is rest
copied_kept law name host over m old copied end new sound (clears_none why first same is) = absurd (ok_not copied why is)
