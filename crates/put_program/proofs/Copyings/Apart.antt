-- What a writer of one container leaves of another one.
use Rattle.std.proofs.Common.{◌≡◌, ℕ, ◌+◌, inl, inr, Bool, List, [], ◌∷◌, length, Option, Some, None, Result, Ok, Err, refl, sym, ap, ◌∙◌, subst, arith}
use Rattle.std.specs.List.{AllByRecursion}
use Rattle.std.proofs.lemmas.Bool.{cases_eq}
use Rattle.plfs_types.specs.declared.entries.Entry.{Entry}
use Rattle.edge_io.specs.Source.{Given}
use Rattle.turn_object.specs.Callers.{made_by}
use Rattle.mount_model.proofs.Stories.Facts.{entries_first}
use Rattle.mount_model.specs.Program.{Program, ask, done}
use Rattle.mount_model.specs.declared.call.Ask.{Ask}
use Rattle.mount_model.specs.declared.call.Call.{Call}
use Rattle.mount_model.specs.declared.call.Call.TheVariants as call
use Rattle.mount_model.specs.declared.reply.Reply.{Reply}
use Rattle.mount_model.specs.declared.row.Row.{Row}
use Rattle.mount_model.specs.History.{Event, state_after}
use Rattle.mount_model.specs.Paths.{Name}
use Rattle.mount_model.specs.State.{State}
use Rattle.mount_model.specs.Table.{row_of}
use Rattle.mount_model.proofs.Facts.{row_of_id}
use Rattle.mount_sound.specs.Owed.{IsLawful}
use Rattle.mount_model.specs.declared.stuck.Stuck.{Stuck}
use Rattle.lone_flow.specs.Driving.{Makes}
use Rattle.writer_flow.specs.declared.handle.WriterHandle.{WriterHandle}
use Rattle.writer_flow.specs.declared.handle.WriterOut.{WriterOut}
use Rattle.writer_flow.specs.Closing.{close_program}
use Rattle.writer_flow.specs.Syncing.{sync_program}
use Rattle.writer_flow.specs.Writing.{write_program}
use Rattle.writer_laws.specs.Counting.{StaysIn, StaysInAt, entry_count}
use Rattle.writer_laws.specs.Knowing.{HasRow, IsSynced, KeepsHandle, Knows}
use Rattle.writer_laws.proofs.Facts.{Goes, goes, some_eq, sync_ends, write_ends, write_list}
use Rattle.reader_laws.specs.Moments.{Dropping, IsNamed, IsSoundAt, Moment, issued_by, landed_by, moment_after, next_moment}
use Rattle.reader_laws.proofs.Gathered.Facts.{follows, landed_whole, sound_after}
use Rattle.reader_laws.proofs.Gathered.Moments.Issuing.{step_issues_or_not}
use Rattle.lone_flow.specs.Settling.{BeginsToClose, BeginsToSettle, Closes, Settles, to_close, to_sync}
use Rattle.packing_laws.proofs.Facts.{IsMade, comes_both, comes_none, is_made}
use Rattle.copy_core.specs.declared.copying.Copied.{Copied}
use Rattle.copy_core.proofs.Facts.{Place, Told as Written, made_told, told_cases}
use Rattle.copy_core.specs.Copying.{BeginsToCopyBy, EndsAfter, EndsWrites, to_end, to_write}
use Rattle.copy_core.specs.Writing.{BeginsStep, WritesAll, WritesEach, WritesUpTo, WritesWhole, beginning, stuck, to_read, to_write as in_write, too_far}
use Rattle.put_program.proofs.Copyings.Asked.{Asks, ExitsNone, Settles as Settling, Spares, all_asked, close_asks, sync_asks, write_asks, write_stays}
use Rattle.put_program.proofs.Copyings.Opened.{greeted}
use Rattle.put_program.proofs.Copyings.Spared.{AllSpare, HasContainer, IssuesNone, issued_same, lets_events}
use Rattle.put_program.proofs.Copyings.Staying.{Front, Stays, Stretch, front_begun, front_whole, stays_both, stretch_both, stretch_none}

-- ---- calls of a writer of another container

-- what has landed was issued
none_landed : (m : Moment) (d : Dropping) → IsSoundAt m → IsNamed d → issued_by m d ≡ [] → landed_by m d ≡ []
none_landed m d sound named none =
    let long : length (issued_by m d) ≡ 0 = ap (λ ws. length ws) none in
    let whole = landed_whole m sound d named in
    no_entry (landed_by m d) (omega (arith, whole, long))
  where
    no_entry : (es : List Entry) → length es ≡ 0 → es ≡ []
    no_entry [] is = refl
    no_entry (e ∷ es) is = absurd (omega (arith, is))

-- Until then nothing lands there, and the writer has issued nothing there.
pub record Along (m to : Moment) (number : ℕ) (name : Name) (w : ℕ) : Type 0 where
  pub stays : Stays m to number name
  pub none : to.issued number w ≡ []

lands_else : (m : Moment) (number : ℕ) (name : Name) (w : ℕ) (events : List Event) → IsSoundAt m → HasContainer m number name → IsLawful m.state events → AllSpare w events → m.issued number w ≡ [] → (moment_after m events).issued number w ≡ [] → Along m (moment_after m events) number name w
lands_else m number name w events sound c lawful spares before after =
    let to : Moment = moment_after m events in
    let lets = lets_events m events number w name sound lawful spares c in
    record {
      stays = record {
        landed = λ d named its. elim (cases_eq d.writer w) as (λ _. landed_by to d ≡ landed_by m d) [
          | inl same ↦ none_landed to d (sound_after m events lawful sound) named (mine to d after its same) ∙ sym (none_landed m d sound named (mine m d before its same))
          | inr other ↦ lets.0.landed d named its other
        ];
        truncates = lets.0.truncates;
        container = lets.1;
      };
      none = after;
    }
  where
    mine : (x : Moment) (d : Dropping) → x.issued number w ≡ [] → d.room ≡ number → d.writer ≡ w → issued_by x d ≡ []
    mine x d none its same = ap (λ r. x.issued r d.writer) its ∙ ap (λ k. x.issued number k) same ∙ none

-- ---- a writer that is synced and closed

settles_else : (m : Moment) (number : ℕ) (name : Name) (w : ℕ) (end : State) → IsSoundAt m → HasContainer m number name → m.issued number w ≡ [] → (f : Front (Settling w) m end) → Along m (moment_after m f.events) number name w
settles_else m number name w end sound c none f = lands_else m number name w f.events sound c f.lawful (spares f.events f.asks) none (issued_same m f.events (record { room = number; host = 0; writer = w }) (issues f.events f.asks) ∙ none)
  where
    spares : (es : List Event) → AllByRecursion (λ (e : Event). Settling w e.ask.call) es → AllSpare w es
    spares [] all = tt
    spares (e ∷ es) all = (all.0.0, spares es all.1)

    issues : (es : List Event) → AllByRecursion (λ (e : Event). Settling w e.ask.call) es → AllByRecursion (λ (e : Event). IssuesNone e.ask.call) es
    issues [] all = tt
    issues (e ∷ es) all = (all.0.1, issues es all.1)

-- ---- a writer that writes

stays_at : (w : ℕ) (q : Call) (rep : Reply) → ExitsNone q → StaysInAt w q rep
stays_at w (call.Exit writer) rep none = absurd none
stays_at w q rep none = tt

-- a writer of another container issues nothing there
issues_else : (w number : ℕ) (row : Row) (m : Moment) (events : List Event) → HasRow 0 w row m.state → (row.room ≡ number → ⊥) → IsLawful m.state events → AllByRecursion (λ (e : Event). e.caller ≡ 0) events → AllByRecursion (λ (e : Event). ExitsNone e.ask.call) events → m.issued number w ≡ []
    → (moment_after m events).issued number w ≡ []
issues_else w number row m [] has other lawful own exits none = none
issues_else w number row m (e ∷ events) has other lawful own exits none =
    let one : StaysIn w (made_by 0 (e ∷ [])) = subst (StaysIn w) (sym (entries_first 0 e [] own.0)) (stays_at w e.ask.call e.reply exits.0, tt) in
    let g = goes 0 w row m.state (e ∷ []) has (lawful.0, lawful.1, tt) one in
    issues_else w number g.after (next_moment m e) events g.has (λ same. other (sym g.placed.0 ∙ same)) lawful.2 own.1 exits.1 (here ∙ none)
  where
    here : (next_moment m e).issued number w ≡ m.issued number w
    here = elim (step_issues_or_not m.issued m.state e.caller e.ask e.reply e.after number w lawful.1) as (λ _. (next_moment m e).issued number w ≡ m.issued number w) [
      | inl same ↦ same
      | inr o ↦
          let its : w ≡ o.id = o.of ∙ row_of_id o.id m.state.table.writers o.row o.held in
          let same : row ≡ o.row = some_eq row o.row (row_of w m.state.table.writers) has.there (ap (λ k. row_of k m.state.table.writers) its ∙ o.held) in
          absurd (other (ap (λ (r : Row). r.room) same ∙ sym o.here))
    ]

abbrev Writes : ℕ → Call → Type 0
Writes w q = Spares w q × ExitsNone q

write_both : (handle : WriterHandle) (at : ℕ) (block : List ℕ) → Asks (Writes handle.writer) (write_program handle at block)
write_both handle at block = asks_two (Spares handle.writer) ExitsNone (write_program handle at block) (write_asks handle at block) (write_stays handle at block)
  where
    asks_two : {R : Type 0} (P Q : Call → Type 0) (program : Program Call Reply R) → Asks P program → Asks Q program → Asks (λ q. P q × Q q) program
    asks_two P Q (done r) one other = tt
    asks_two P Q (ask q k) one other = ((one.0, other.0), λ reply. asks_two P Q (k reply) (one.1 reply) (other.1 reply))

-- the caller has this writer, of another container
pub record Mine (m : Moment) (handle : WriterHandle) (w number : ℕ) : Type 0 where
  pub row : Row
  pub knows : Knows 0 handle row m.state
  pub is_writer : handle.writer ≡ w
  pub other : row.room ≡ number → ⊥

writes_else : (m : Moment) (number : ℕ) (name : Name) (w : ℕ) (handle : WriterHandle) (events : List Event) → IsSoundAt m → HasContainer m number name → Mine m handle w number → m.issued number w ≡ [] → IsLawful m.state events → AllByRecursion (λ (e : Event). e.caller ≡ 0) events → AllByRecursion (λ (e : Event). Writes w e.ask.call) events
    → Along m (moment_after m events) number name w
writes_else m number name w handle events sound c mine none lawful own asks =
    let has : HasRow 0 w mine.row m.state = subst (λ k. HasRow 0 k mine.row m.state) mine.is_writer mine.knows.has in
    lands_else m number name w events sound c lawful (spares events asks) none (issues_else w number mine.row m events has mine.other lawful own (exits events asks) none)
  where
    spares : (es : List Event) → AllByRecursion (λ (e : Event). Writes w e.ask.call) es → AllSpare w es
    spares [] all = tt
    spares (e ∷ es) all = (all.0.0, spares es all.1)

    exits : (es : List Event) → AllByRecursion (λ (e : Event). Writes w e.ask.call) es → AllByRecursion (λ (e : Event). ExitsNone e.ask.call) es
    exits [] all = tt
    exits (e ∷ es) all = (all.0.1, exits es all.1)

-- behind a write that was made the caller has it still
next_mine : (m : Moment) (handle next : WriterHandle) (at : ℕ) (block : List ℕ) (out : WriterOut) (end : State) (w number : ℕ) → Mine m handle w number → (b : IsMade (write_program handle at block) m out end) → out.handle ≡ Some next → Mine (moment_after m (b.greeting ∷ b.events)) next w number
next_mine m handle next at block out end w number mine b back =
    let g : Moment = next_moment m b.greeting in
    let knows : Knows 0 handle mine.row g.state = subst (λ (s : State). Knows 0 handle mine.row s) (sym (greeted m b.greeting b.events b.lawful b.asks)) mine.knows in
    let k : KeepsHandle 0 handle out (state_after g.state b.events) = write_ends 0 handle mine.row at block g.state b.events out knows b.lawful.2 b.runs in
    let went : Goes 0 handle.writer mine.row b.events (state_after g.state b.events) = goes 0 handle.writer mine.row g.state b.events knows.has b.lawful.2 (write_list handle at block (made_by 0 b.events) out b.runs).stays in
    let same : k.handle ≡ next = one k.handle next out.handle k.kept back in
    let has : HasRow 0 handle.writer k.row (state_after g.state b.events) = subst (λ n. HasRow 0 n k.row (state_after g.state b.events)) k.same k.knows.has in
    let row : k.row ≡ went.after = some_eq k.row went.after (row_of handle.writer (state_after g.state b.events).table.writers) has.there went.has.there in
    record {
      row = k.row;
      knows = subst (λ (s : State). Knows 0 next k.row s) (sym (follows g b.events).0) (subst (λ x. Knows 0 x k.row (state_after g.state b.events)) same k.knows);
      is_writer = ap (λ (x : WriterHandle). x.writer) (sym same) ∙ k.same ∙ mine.is_writer;
      other = λ is. mine.other (sym (ap (λ (r : Row). r.room) row ∙ went.placed.0) ∙ is);
    }
  where
    one : (a c : WriterHandle) (o : Option WriterHandle) → o ≡ Some a → o ≡ Some c → a ≡ c
    one a c o p q = cc

-- ---- one stretch behind the other

pub record Writing (m : Moment) (number : ℕ) (name : Name) (w : ℕ) (handle : WriterHandle) (end : State) : Type 0 where
  pub stretch : Stretch m number name end
  pub none : stretch.to.issued number w ≡ []
  pub mine : Mine stretch.to handle w number

so_far : (m : Moment) (number : ℕ) (name : Name) (w : ℕ) (events : List Event) (end : State) → IsLawful m.state events → state_after m.state events ≡ end → Along m (moment_after m events) number name w → Stretch m number name end
so_far m number name w events end lawful ends a = record { to = moment_after m events; comes = record { events = events; lawful = lawful; ends = refl }; at = (follows m events).0 ∙ ends; stays = a.stays }

writes_each : (blocks : List (List ℕ)) (m : Moment) (start : State) (placing last : Place) (end : State) (number : ℕ) (name : Name) (w : ℕ) → IsSoundAt m → m.state ≡ start → HasContainer m number name → Mine m placing.handle w number → m.issued number w ≡ [] → WritesEach blocks placing start last end → Writing m number name w last.handle end
writes_each [] m start placing last end number name w sound here c mine none (same, over) = record {
  stretch = record { to = m; comes = comes_none m; at = here ∙ sym over; stays = record { landed = λ d named its. refl; truncates = λ stamp size had. had; container = c } };
  none = none;
  mine = subst (λ (p : Place). Mine m p.handle w number) (sym same) mine;
}
writes_each (block ∷ blocks) m start placing last end number name w sound here c mine none (next, between, written, others) =
    let program = write_program placing.handle placing.at block in
    let t = made_told (placing.at + length block) written.out.handle written.out.result next written.told_so in
    let b : IsMade program m written.out between = is_made program m start written.out between here written.makes in
    let events : List Event = b.greeting ∷ b.events in
    let asks : Asks (Writes w) program = subst (λ k. Asks (Writes k) program) mine.is_writer (write_both placing.handle placing.at block) in
    let called : AllByRecursion (λ (e : Event). Writes w e.ask.call) events = (subst (λ (a : Ask). Writes w a.call) (sym b.asks) ((tt, tt, tt), tt), all_asked (Writes w) program b.events written.out asks b.alone b.runs) in
    let a : Along m (moment_after m events) number name w = writes_else m number name w placing.handle events sound c mine none b.lawful (b.own, b.alone) called in
    let sound_next : IsSoundAt (moment_after m events) = sound_after m events b.lawful sound in
    let rest : Writing (moment_after m events) number name w last.handle end = writes_each blocks (moment_after m events) between next last end number name w sound_next ((follows m events).0 ∙ b.ends) a.stays.container (next_mine m placing.handle next.handle placing.at block written.out between w number mine b t.2) a.none others in
    record {
      stretch = record {
        to = rest.stretch.to;
        comes = comes_both m (moment_after m events) rest.stretch.to (record { events = events; lawful = b.lawful; ends = refl }) rest.stretch.comes;
        at = rest.stretch.at;
        stays = stays_both m (moment_after m events) rest.stretch.to number name a.stays rest.stretch.stays;
      };
      none = rest.none;
      mine = rest.mine;
    }

-- a write that was not made, or that was broken off
stuck_else : (m : Moment) (number : ℕ) (name : Name) (w : ℕ) (handle : WriterHandle) (end : State) → IsSoundAt m → HasContainer m number name → Mine m handle w number → m.issued number w ≡ [] → Front (Writes w) m end → Stretch m number name end
stuck_else m number name w handle end sound c mine none f = so_far m number name w f.events end f.lawful f.ends (writes_else m number name w handle f.events sound c mine none f.lawful f.own f.asks)

-- ---- the end of the writer

-- the writer of a sync goes on to its close
left_mine : (m : Moment) (handle left : WriterHandle) (out : WriterOut) (end : State) (w number : ℕ) → Mine m handle w number → (b : IsMade (sync_program handle) m out end) → out.handle ≡ Some left → left.writer ≡ w
left_mine m handle left out end w number mine b is =
    let g : Moment = next_moment m b.greeting in
    let knows : Knows 0 handle mine.row g.state = subst (λ (s : State). Knows 0 handle mine.row s) (sym (greeted m b.greeting b.events b.lawful b.asks)) mine.knows in
    let y : IsSynced 0 handle (entry_count mine.row) out (state_after g.state b.events) = sync_ends 0 handle mine.row g.state b.events out knows b.lawful.2 b.runs in
    ap (λ (x : WriterHandle). x.writer) (one y.handle left out.handle y.kept is) ∙ y.same ∙ mine.is_writer
  where
    one : (a c : WriterHandle) (o : Option WriterHandle) → o ≡ Some a → o ≡ Some c → c ≡ a
    one a c o p q = cc

module _ (number : ℕ) (name : Name) (w : ℕ) where
  syncs_ask : (handle : WriterHandle) → handle.writer ≡ w → Asks (Settling w) (sync_program handle)
  syncs_ask handle is = subst (λ k. Asks (Settling k) (sync_program handle)) is (sync_asks handle)

  closes_ask : (handle : WriterHandle) → handle.writer ≡ w → Asks (Settling w) (close_program handle)
  closes_ask handle is = subst (λ k. Asks (Settling k) (close_program handle)) is (close_asks handle)

  settle_front : (m : Moment) (end : State) → IsSoundAt m → HasContainer m number name → m.issued number w ≡ [] → (f : Front (Settling w) m end) → Stretch m number name end
  settle_front m end sound c none f = so_far m number name w f.events end f.lawful f.ends (settles_else m number name w end sound c none f)

  -- a close behind a sync
  closes_else : (m : Moment) (handle : Option WriterHandle) (result : Result ℕ Stuck) (told : Result (Unit {0}) Stuck) (start end : State) → IsSoundAt m → m.state ≡ start → HasContainer m number name → m.issued number w ≡ [] → ((left : WriterHandle) → handle ≡ Some left → left.writer ≡ w) → Closes handle result start told end
      → Stretch m number name end
  closes_else m handle (Err why) told start end sound here c none its (is, same) = stretch_none m number name end c (here ∙ sym same)
  closes_else m None (Ok landed) told start end sound here c none its (is, same) = stretch_none m number name end c (here ∙ sym same)
  closes_else m (Some handle) (Ok landed) told start end sound here c none its (out, makes, is) =
      settle_front m end sound c none (front_whole (Settling w) (close_program handle) ((tt, tt, tt), tt) (closes_ask handle (its handle refl)) m start out end here makes)

  begins_close_else : (m : Moment) (handle : Option WriterHandle) (result : Result ℕ Stuck) (start end : State) → IsSoundAt m → m.state ≡ start → HasContainer m number name → m.issued number w ≡ [] → ((left : WriterHandle) → handle ≡ Some left → left.writer ≡ w) → BeginsToClose handle result start end → Stretch m number name end
  begins_close_else m handle (Err why) start end sound here c none its begins = absurd begins
  begins_close_else m None (Ok landed) start end sound here c none its begins = absurd begins
  begins_close_else m (Some handle) (Ok landed) start end sound here c none its begins =
      settle_front m end sound c none (front_begun (Settling w) (close_program handle) ((tt, tt, tt), tt) (closes_ask handle (its handle refl)) m start end here begins)

  -- a sync, and what comes behind it
  synced_else : (m : Moment) (handle : WriterHandle) (out : WriterOut) (start between end : State) → IsSoundAt m → m.state ≡ start → HasContainer m number name → Mine m handle w number → m.issued number w ≡ [] → Makes (sync_program handle) start out between
      → ((x : Moment) → IsSoundAt x → x.state ≡ between → HasContainer x number name → x.issued number w ≡ [] → ((left : WriterHandle) → out.handle ≡ Some left → left.writer ≡ w) → Stretch x number name end) → Stretch m number name end
  synced_else m handle out start between end sound here c mine none makes then =
      let f : Front (Settling w) m between = front_whole (Settling w) (sync_program handle) ((tt, tt, tt), tt) (syncs_ask handle mine.is_writer) m start out between here makes in
      let a : Along m (moment_after m f.events) number name w = settles_else m number name w between sound c none f in
      let b : IsMade (sync_program handle) m out between = is_made (sync_program handle) m start out between here makes in
      let one : Stretch m number name between = so_far m number name w f.events between f.lawful f.ends a in
      let x : Moment = moment_after m f.events in
      let rest : Stretch x number name end = then x (sound_after m f.events f.lawful sound) ((follows m f.events).0 ∙ f.ends) a.stays.container a.none (λ left is. left_mine m handle left out between w number mine b is) in
      record {
        to = rest.to;
        comes = comes_both m x rest.to (record { events = f.events; lawful = f.lawful; ends = refl }) rest.comes;
        at = rest.at;
        stays = stays_both m x rest.to number name a.stays rest.stays;
      }

  settle_else : (m : Moment) (handle : WriterHandle) (told : Result (Unit {0}) Stuck) (start end : State) → IsSoundAt m → m.state ≡ start → HasContainer m number name → Mine m handle w number → m.issued number w ≡ [] → Settles handle start told end → Stretch m number name end
  settle_else m handle told start end sound here c mine none s =
      synced_else m handle s.synced start s.between end sound here c mine none s.syncs (λ x sound_x at there none_x its. closes_else x s.synced.handle s.synced.result told s.between end sound_x at there none_x its s.closes)

  begins_settle_else : (m : Moment) (handle : WriterHandle) (start end : State) → IsSoundAt m → m.state ≡ start → HasContainer m number name → Mine m handle w number → m.issued number w ≡ [] → BeginsToSettle handle start end → Stretch m number name end
  begins_settle_else m handle start end sound here c mine none (to_sync begins) = settle_front m end sound c none (front_begun (Settling w) (sync_program handle) ((tt, tt, tt), tt) (syncs_ask handle mine.is_writer) m start end here begins)
  begins_settle_else m handle start end sound here c mine none (to_close synced between makes begins) =
      synced_else m handle synced start between end sound here c mine none makes (λ x sound_x at there none_x its. begins_close_else x synced.handle synced.result between end sound_x at there none_x its begins)

  -- ---- the writes of a source

  behind_writes : (m : Moment) (handle : WriterHandle) (end : State) → (x : Writing m number name w handle end) → IsSoundAt m → IsSoundAt x.stretch.to
  behind_writes m handle end x sound = subst (λ y. IsSoundAt y) x.stretch.comes.ends (sound_after m x.stretch.comes.events x.stretch.comes.lawful sound)

  writing_ask : (handle : WriterHandle) (at : ℕ) (block : List ℕ) → handle.writer ≡ w → Asks (Writes w) (write_program handle at block)
  writing_ask handle at block is = subst (λ k. Asks (Writes k) (write_program handle at block)) is (write_both handle at block)

  module _ (m : Moment) (start : State) (handle : WriterHandle) (sound : IsSoundAt m) (here : m.state ≡ start) (c : HasContainer m number name) (mine : Mine m handle w number) (none : m.issued number w ≡ []) where
    each : (blocks : List (List ℕ)) (last : Place) (end : State) → WritesEach blocks (beginning handle) start last end → Writing m number name w last.handle end
    each blocks last end writes = writes_each blocks m start (beginning handle) last end number name w sound here c mine none writes

    then : (last : Place) (after end : State) → (x : Writing m number name w last.handle after) → Stretch x.stretch.to number name end → Stretch m number name end
    then last after end x rest = stretch_both m number name after end x.stretch rest

    by_all : (old new : Given) (last : Place) (is_whole : Bool) (after end : State) (told : Result Copied Stuck) → WritesWhole handle is_whole start old last after new → EndsAfter handle.writer last is_whole after told end → Stretch m number name end
    by_all old new last is_whole after end (Ok copied) wrote (is, settles) =
        let x = each wrote.blocks last after wrote.writes in
        then last after end x (settle_else x.stretch.to last.handle (Ok tt) after end (behind_writes m last.handle after x sound) x.stretch.at x.stretch.stays.container x.mine x.none settles)
    by_all old new last is_whole after end (Err why) wrote settles =
        let x = each wrote.blocks last after wrote.writes in
        then last after end x (settle_else x.stretch.to last.handle (Err why) after end (behind_writes m last.handle after x sound) x.stretch.at x.stretch.stays.container x.mine x.none settles)

    by_stopped : (old new : Given) (why : Stuck) (end : State) → WritesUpTo handle start old why end new → Stretch m number name end
    by_stopped old new why end (stuck last between mid wrote (block, ending, fits, filled, written)) =
        let x = each wrote.blocks last between wrote.writes in
        let program = write_program last.handle last.at block in
        then last between end x (stuck_else x.stretch.to number name w last.handle end (behind_writes m last.handle between x sound) x.stretch.stays.container x.mine x.none
        (front_whole (Writes w) program ((tt, tt, tt), tt) (writing_ask last.handle last.at block x.mine.is_writer) x.stretch.to between written.out end x.stretch.at written.makes))
    by_stopped old new why end (too_far last wrote far is) = (each wrote.blocks last end wrote.writes).stretch

    pub by_else : (old new : Given) (told : Result Copied Stuck) (end : State) → (written : Written) (after : State) → WritesAll handle start old written after new → EndsWrites handle.writer written after told end → Stretch m number name end
    by_else old new told end written after = told_cases (λ t. WritesAll handle start old t after new → EndsWrites handle.writer t after told end → Stretch m number name end)
        (λ last is_whole wrote ends. by_all old new last is_whole after end told wrote ends)
        (λ why wrote ends. (let s = by_stopped old new why after wrote in record { to = s.to; comes = s.comes; at = s.at ∙ sym ends.1; stays = s.stays }))
        written

    step_else : (last : Place) (old new : Given) (between end : State) → (x : Writing m number name w last.handle between) → BeginsStep last between old end new → Stretch x.stretch.to number name end
    step_else last old new between end x (to_read same is) = stretch_none x.stretch.to number name end x.stretch.stays.container (x.stretch.at ∙ sym is)
    step_else last old new between end x (in_write block ending fits filled begins) =
        stuck_else x.stretch.to number name w last.handle end (behind_writes m last.handle between x sound) x.stretch.stays.container x.mine x.none
        (front_begun (Writes w) (write_program last.handle last.at block) ((tt, tt, tt), tt) (writing_ask last.handle last.at block x.mine.is_writer) x.stretch.to between end x.stretch.at begins)

    pub begun_else : (old new : Given) (end : State) → BeginsToCopyBy handle start old end new → Stretch m number name end
    begun_else old new end (to_write b) =
        let x = each b.written.blocks b.last b.between b.written.writes in
        then b.last b.between end x (step_else b.last b.mid new b.between end x b.next)
    begun_else old new end (to_end last is_whole after wrote begins) =
        let x = each wrote.blocks last after wrote.writes in
        then last after end x (begins_settle_else x.stretch.to last.handle after end (behind_writes m last.handle after x sound) x.stretch.at x.stretch.stays.container x.mine x.none begins)
