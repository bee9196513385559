-- A writer's calls leave all else as it was, from moment to moment.
use Rattle.std.proofs.Common.{◌≡◌, ◌≤◌, ℕ, Bool, true, false, ◌&&◌, nat_eq, List, [], ◌∷◌, ◌++◌, length, Option, Some, None, refl, sym, ap, ◌∙◌, subst, arith, if◌then◌else◌}
use Rattle.std.specs.List.{AllByRecursion}
use Rattle.std.proofs.lemmas.Bool.Decides.{nat_tests}
use mathlib.Core.Logic.{dite}
use native.Mathlib.Decide.{ℕ_discrete}
use Rattle.plfs_types.specs.declared.names.Path.{Path}
use Rattle.container_layout.specs.declared.items.Item.{Item}
use Rattle.container_layout.specs.declared.items.Item.TheVariants.{Index, Log}
use Rattle.container_layout.specs.Items.{IsItem}
use Rattle.container_layout.specs.Paths.{path_of}
use Rattle.store_api.specs.declared.tree.Room.{Room}
use Rattle.store_api.specs.declared.tree.Tree.{Tree}
use Rattle.store_api.specs.Step.{Step}
use Rattle.plfs_types.specs.declared.entries.Entry.{Entry}
use Rattle.mount_model.specs.declared.call.Call.{Call}
use Rattle.mount_model.specs.declared.call.Call.TheVariants.{Enter, Exit, Floor, Flush, Hold, InstallFlat, MakeHostdir, MakeIndex, MakeLog, PutFlat, PutMeta, Release, StartFlat, StartPack, SyncFlat, SyncIndex, SyncLog, Write}
use Rattle.mount_model.specs.declared.reply.Reply.{Reply}
use Rattle.mount_model.specs.declared.reply.Reply.TheVariants.{Wrote}
use Rattle.mount_model.specs.declared.row.Row.{Row}
use Rattle.mount_model.specs.Entering.{next_id}
use Rattle.mount_model.specs.Flooring.{FloorsRow}
use Rattle.mount_model.specs.Flushing.{FlushesRow}
use Rattle.mount_model.specs.History.{Event}
use Rattle.mount_model.specs.Making.{CallOutcome, MakesAct, Told}
use Rattle.mount_model.specs.State.{State, last_id}
use Rattle.mount_model.specs.Step.{Answers}
use Rattle.mount_model.specs.Table.{is_live, row_of}
use Rattle.mount_model.specs.Writing.{WritesAt}
use Rattle.mount_model.proofs.Facts.{IsElsewhere, answers_keep, on_writer, row_of_id, step_place, step_stays_dead, unless_refused}
use Rattle.mount_sound.specs.Issued.{issued_after, noted, with_write, written_by}
use Rattle.mount_sound.specs.Ledger.{Ledger, Written}
use Rattle.mount_sound.specs.Owed.{IsLawful}
use Rattle.mount_sound.specs.There.{entries_there}
use Rattle.mount_sound.specs.Dropping.{bytes_of}
use Rattle.mount_sound.proofs.Facts.{ActsOn, acts_so, is_log, step_acts}
use Rattle.reader_laws.specs.Moments.{Dropping, HadItem, IsNamed, IsSoundAt, Moment, file_in_room, file_then, file_told, index_then, landed, log_then, moment_after, next_moment}
use Rattle.reader_laws.proofs.Gathered.Facts.{sound_after}
use Rattle.writer_laws.specs.Counting.{StaysInAt}
use Rattle.writer_laws.specs.Knowing.{HasRow}
use Rattle.writer_laws.specs.Waiting.{IsOn}
use Rattle.writer_laws.proofs.Stops.{any_kept, spared_row, whole_answers}
use Rattle.plain_plays.specs.Mirrors.{is_live_in, room_then, room_told}
use Rattle.plain_plays.proofs.PlainSteps.Steps.Others.{IsItsCall, IsOthers, IsPlaced, SameAtBut, SparesOthers, acts_leave_others, its, spare_others}

-- ---- files at two moments

file_by_room : (tree : Option Tree) (n : ℕ) (path : Path) → file_told tree n path ≡ file_in_room (room_told tree n) path
file_by_room None n path = refl
file_by_room (Some tree) n path = refl

same_file : (d : Dropping) (n : ℕ) (o new : Option Room) → SameAtBut d n o new → (item : Item) → IsItem item → IsOthers d n item → file_in_room new (path_of item) ≡ file_in_room o (path_of item)
same_file d n None None s item is others = refl
same_file d n None (Some new) s item is others = absurd s
same_file d n (Some room) None s item is others = absurd s
same_file d n (Some room) (Some new) s item is others = s.files item is others

-- ---- what such calls leave

-- All that is another's is as it was: rooms, files, what was issued, and who is live in the table.
pub record LeavesOthers (d : Dropping) (old new : Moment) : Type 0 where
  pub rooms : (n : ℕ) → SameAtBut d n (room_then old n) (room_then new n)
  pub issued : (n w : ℕ) → ((n ≡ d.room) × (w ≡ d.writer) → ⊥) → new.issued n w ≡ old.issued n w
  pub live : (n w : ℕ) → w ≤ last_id old.state → ((n ≡ d.room) × (w ≡ d.writer) → ⊥) → is_live_in n (row_of w new.state.table.writers) ≡ is_live_in n (row_of w old.state.table.writers)
  pub holders : new.state.table.holders ≡ old.state.table.holders
  pub marks : new.state.marks ≡ old.state.marks
  pub mount : new.state.mount ≡ old.state.mount
  pub drawn : old.state.serial ≤ new.state.serial

later_id : (a b : State) → b.mount ≡ a.mount → a.serial ≤ b.serial → last_id a ≤ last_id b
later_id a b mount serial = omega (arith, mount, serial)

pub last_later : (d : Dropping) (old new : Moment) → LeavesOthers d old new → last_id old.state ≤ last_id new.state
last_later d old new l = later_id old.state new.state l.mount l.drawn

both_but : (d : Dropping) (n : ℕ) (a b c : Option Room) → SameAtBut d n a b → SameAtBut d n b c → SameAtBut d n a c
both_but d n None None None s t = tt
both_but d n (Some a) (Some b) (Some c) s t = record { name = t.name ∙ s.name; opens = t.opens ∙ s.opens; files = λ item is others. t.files item is others ∙ s.files item is others }
both_but d n None (Some b) c s t = absurd s
both_but d n (Some a) None c s t = absurd s
both_but d n None None (Some c) s t = absurd t
both_but d n (Some a) (Some b) None s t = absurd t

pub leaves_both : (d : Dropping) (a b c : Moment) → LeavesOthers d a b → LeavesOthers d b c → LeavesOthers d a c
leaves_both d a b c s t = record {
  rooms = λ n. both_but d n (room_then a n) (room_then b n) (room_then c n) (s.rooms n) (t.rooms n);
  issued = λ n w apart. t.issued n w apart ∙ s.issued n w apart;
  live = λ n w drawn apart. t.live n w (let l = last_later d a b s in omega (arith, drawn, l)) apart ∙ s.live n w drawn apart;
  holders = t.holders ∙ s.holders;
  marks = t.marks ∙ s.marks;
  mount = t.mount ∙ s.mount;
  drawn = omega (arith, s.drawn, t.drawn);
}

pub leaves_none : (d : Dropping) (a : Moment) → LeavesOthers d a a
leaves_none d a = record { rooms = λ n. same_all n (room_then a n); issued = λ n w apart. refl; live = λ n w drawn apart. refl; holders = refl; marks = refl; mount = refl; drawn = omega arith }
  where
    same_all : (n : ℕ) (o : Option Room) → SameAtBut d n o o
    same_all n None = tt
    same_all n (Some room) = record { name = refl; opens = refl; files = λ item is others. refl }

-- ---- what was issued

with_others : (issued : Ledger) (row : Row) (x : Written) (n w : ℕ) → ((n ≡ row.room) × (w ≡ row.id) → ⊥) → with_write issued row x n w ≡ issued n w
with_others issued row x n w apart = elim (nat_eq n row.room) as (λ a. nat_eq n row.room ≡ a → (if a && nat_eq w row.id then issued n w ++ x ∷ [] else issued n w) ≡ issued n w) [
  | true ↦ λ here. elim (nat_eq w row.id) as (λ b. nat_eq w row.id ≡ b → (if true && b then issued n w ++ x ∷ [] else issued n w) ≡ issued n w) [
    | true ↦ λ of. absurd (apart (equal n row.room here, equal w row.id of))
    | false ↦ λ of. refl
  ] refl
  | false ↦ λ here. refl
] refl
  where
    equal : (x y : ℕ) → nat_eq x y ≡ true → x ≡ y
    equal x y e = grind (arith, nat_tests)

noted_others : (issued : Ledger) (o : Option Row) (at : ℕ) (block : List ℕ) (reply : Reply) (n w : ℕ) → ((row : Row) → o ≡ Some row → (n ≡ row.room) × (w ≡ row.id) → ⊥) → noted issued o at block reply n w ≡ issued n w
noted_others issued None at block (Wrote stamp) n w apart = refl
noted_others issued (Some row) at block (Wrote stamp) n w apart = with_others issued row (written_by row stamp at block) n w (apart row refl)
noted_others issued o at block reply n w apart = refl

issued_others : (d : Dropping) (next : ℕ) (issued : Ledger) (old : State) (call : Call) (reply : Reply) (n w : ℕ) → IsItsCall next d call → IsPlaced d old.table → ((n ≡ d.room) × (w ≡ d.writer) → ⊥) → issued_after issued old call reply n w ≡ issued n w
issued_others d next issued old (Write id at block) reply n w on placed apart =
    noted_others issued (row_of id old.table.writers) at block reply n w
    (λ row held both.
    let same = placed row (subst (λ k. row_of k old.table.writers ≡ Some row) on held) in
    apart (both.0 ∙ ap (λ (x : Dropping). x.room) same, both.1 ∙ ap (λ (x : Dropping). x.writer) same))
issued_others d next issued old call reply n w on placed apart = refl

-- ---- who is live

dead_in : (n : ℕ) (o : Option Row) → ((row : Row) → o ≡ Some row → is_live row.stage ≡ false) → is_live_in n o ≡ false
dead_in n None dead = refl
dead_in n (Some row) dead = rw (dead row refl) refl

elsewhere_in : (n room : ℕ) (o : Option Row) → ((row : Row) → o ≡ Some row → row.room ≡ room) → (n ≡ room → ⊥) → is_live_in n o ≡ false
elsewhere_in n room None placed apart = refl
elsewhere_in n room (Some row) placed apart =
    let differ : row.room ≡ n → ⊥ = λ same. apart (sym same ∙ placed row refl) in
    let t : nat_eq row.room n ≡ false = grind (arith, nat_tests) in
    rw t (never (is_live row.stage))
  where
    never : (b : Bool) → (b && false) ≡ false
    never true = refl
    never false = refl

not_on : (next : ℕ) (d : Dropping) (w : ℕ) (call : Call) → IsItsCall next d call → (w ≡ d.writer → ⊥) → IsOn w call → ⊥
not_on next d w (Floor id) its apart on = apart (sym on ∙ its)
not_on next d w (MakeHostdir id) its apart on = apart (sym on ∙ its)
not_on next d w (MakeIndex id) its apart on = apart (sym on ∙ its)
not_on next d w (MakeLog id) its apart on = apart (sym on ∙ its)
not_on next d w (Write id at block) its apart on = apart (sym on ∙ its)
not_on next d w (Flush id) its apart on = apart (sym on ∙ its)
not_on next d w (SyncLog id) its apart on = apart (sym on ∙ its)
not_on next d w (SyncIndex id) its apart on = apart (sym on ∙ its)
not_on next d w (PutMeta id) its apart on = apart (sym on ∙ its)
not_on next d w (Exit id) its apart on = apart (sym on ∙ its)
not_on next d w call its apart on = absurd on

its_elsewhere : (next : ℕ) (d : Dropping) (call : Call) → IsItsCall next d call → IsElsewhere call
its_elsewhere next d (Hold room) its = its
its_elsewhere next d (Release holder) its = its
its_elsewhere next d (StartFlat room) its = its
its_elsewhere next d (PutFlat flat bytes) its = its
its_elsewhere next d (SyncFlat flat) its = its
its_elsewhere next d (InstallFlat flat) its = its
its_elsewhere next d (StartPack room host writer) its = its
its_elsewhere next d call its = tt

module _ (m : Moment) (e : Event) (rest : List Event) (d : Dropping) (sound : IsSoundAt m) (lawful : IsLawful m.state (e ∷ rest)) (whole : e.ask.stop ≡ None) (on : IsItsCall (next_id m.state) d e.ask.call) where
  undrawn : (w : ℕ) → w ≤ last_id m.state → w ≡ next_id m.state → ⊥
  undrawn w drawn same = omega (arith, drawn, same)

  stays_live : (n w : ℕ) → w ≤ last_id m.state → (w ≡ d.writer → ⊥) → (o : Option Row) → row_of w m.state.table.writers ≡ o → is_live_in n (row_of w e.after.table.writers) ≡ is_live_in n o
  stays_live n w drawn apart None none =
      dead_in n (row_of w e.after.table.writers) (step_stays_dead m.state e.after e.caller e.ask e.reply w lawful.1 (undrawn w drawn) (λ row held. absurd (let clash : Some row ≡ None = sym held ∙ none in cc)))
  stays_live n w drawn apart (Some row) held = elim (is_live row.stage) as (λ b. is_live row.stage ≡ b → is_live_in n (row_of w e.after.table.writers) ≡ is_live_in n (Some row)) [
    | true ↦ λ live. ap (is_live_in n) (spared_row row.owner w row m.state e.caller e.ask e.reply e.after (λ mine. (whole, not_on (next_id m.state) d w e.ask.call on apart)) (record { there = held; owned = refl }) lawful.1).there
    | false ↦ λ dead.
        dead_in n (row_of w e.after.table.writers) (step_stays_dead m.state e.after e.caller e.ask e.reply w lawful.1 (undrawn w drawn) (λ r f. let same : row ≡ r = one r (sym held ∙ f) in subst (λ (x : Row). is_live x.stage ≡ false) same dead)) ∙ sym (dead_in n (Some row) (λ r f. let same : row ≡ r = one r f in subst (λ (x : Row). is_live x.stage ≡ false) same dead))
  ] refl
    where
      one : (r : Row) → Some row ≡ Some r → row ≡ r
      one r f = cc

  module _ (named : IsNamed d) (placed : IsPlaced d m.state.table) (then_placed : IsPlaced d e.after.table) where
    others_live : (n w : ℕ) → w ≤ last_id m.state → ((n ≡ d.room) × (w ≡ d.writer) → ⊥) → is_live_in n (row_of w e.after.table.writers) ≡ is_live_in n (row_of w m.state.table.writers)
    others_live n w drawn apart = dite (ℕ_discrete w d.writer)
        (λ same.
        let away : n ≡ d.room → ⊥ = λ here. apart (here, same) in
        elsewhere_in n d.room (row_of w e.after.table.writers) (λ row held. ap (λ (x : Dropping). x.room) (then_placed row (subst (λ k. row_of k e.after.table.writers ≡ Some row) same held))) away
        ∙ sym (elsewhere_in n d.room (row_of w m.state.table.writers) (λ row held. ap (λ (x : Dropping). x.room) (placed row (subst (λ k. row_of k m.state.table.writers ≡ Some row) same held))) away))
        (λ other. stays_live n w drawn other (row_of w m.state.table.writers) refl)

    -- what one call leaves
    pub leaves_next : LeavesOthers d m (next_moment m e)
    leaves_next =
        let P : Call → Step → Type 0 = λ call step. IsItsCall (next_id m.state) d call → SparesOthers d step in
        let tree : Tree = sound.shape.tree in
        let g = step_acts P m.state e.after e.caller e.ask e.reply tree (spare_others d named m.state.table (next_id m.state) e.caller placed) lawful.1 sound.shape.told in
        let a : ActsOn (SparesOthers d) tree g.0 = acts_so (P e.ask.call) (SparesOthers d) tree g.0 (λ step spares. spares on) g.2 in
        let k = step_place m.state e.after e.caller e.ask e.reply lawful.1 in
        record {
          rooms = λ n. subst (λ o. SameAtBut d n (room_told o n) (room_told e.after.store.tree n)) (sym sound.shape.told) (subst (λ o. SameAtBut d n (room_told (Some tree) n) (room_told o n)) (sym g.1) (acts_leave_others d tree g.0 n a));
          issued = λ n w apart. issued_others d (next_id m.state) m.issued m.state e.ask.call e.reply n w on placed apart;
          live = others_live;
          holders = (answers_keep m.state e.reply e.after e.caller e.ask.call (its_elsewhere (next_id m.state) d e.ask.call on) (whole_answers m.state e.caller e.ask e.reply e.after whole lawful.1)).holders;
          marks = k.marks;
          mount = k.mount;
          drawn = k.serial;
        }

-- ---- the clock and the serials

abbrev pub IsNoWrite : Call → Type 0
IsNoWrite (Write id at block) = ⊥
IsNoWrite call = Unit {0}

abbrev pub IsNoExit : Call → Type 0
IsNoExit (Exit id) = ⊥
IsNoExit call = Unit {0}

-- no serial is drawn, and unless it is a write the clock isn't asked
abbrev KeepsClock : Call → State → State → Type 0
KeepsClock call old new = (new.serial ≡ old.serial) × (IsNoWrite call → new.times ≡ old.times)

module _ (old : State) (caller : ℕ) (reply : Reply) (new : State) (call : Call) where
  clock_as : new ≡ old → KeepsClock call old new
  clock_as e = (ap (λ (s : State). s.serial) e, λ none. ap (λ (s : State). s.times) e)

  clock_by : (step : Step) (outcome : Told → CallOutcome) → MakesAct step outcome old reply new → KeepsClock call old new
  clock_by step outcome made = (ap (λ (s : State). s.serial) made.after, λ none. ap (λ (s : State). s.times) made.after)

clock_flush : (old : State) (row : Row) (pending : List Entry) (reply : Reply) (new : State) (call : Call) → FlushesRow row pending old reply new → KeepsClock call old new
clock_flush old row [] reply new call f = (ap (λ (s : State). s.serial) f.1, λ none. ap (λ (s : State). s.times) f.1)
clock_flush old row (first ∷ more) reply new call f = (ap (λ (s : State). s.serial) f.after, λ none. ap (λ (s : State). s.times) f.after)

clock_on : (old : State) (caller : ℕ) (w : ℕ) (call : Call) (reply : Reply) (new : State) → IsOn w call → Answers old caller call reply new → KeepsClock call old new
clock_on old caller w (Floor id) reply new on a = on_writer caller _ id old reply new _ (KeepsClock (Floor id) old new) a (clock_as old caller reply new (Floor id)) (λ row h (f : FloorsRow row old reply new). (ap (λ (s : State). s.serial) f.after, λ none. ap (λ (s : State). s.times) f.after))
clock_on old caller w (MakeHostdir id) reply new on a = on_writer caller _ id old reply new _ (KeepsClock (MakeHostdir id) old new) a (clock_as old caller reply new (MakeHostdir id)) (λ row h made. clock_by old caller reply new (MakeHostdir id) _ _ made)
clock_on old caller w (MakeIndex id) reply new on a = on_writer caller _ id old reply new _ (KeepsClock (MakeIndex id) old new) a (clock_as old caller reply new (MakeIndex id)) (λ row h made. clock_by old caller reply new (MakeIndex id) _ _ made)
clock_on old caller w (MakeLog id) reply new on a = on_writer caller _ id old reply new _ (KeepsClock (MakeLog id) old new) a (clock_as old caller reply new (MakeLog id)) (λ row h made. clock_by old caller reply new (MakeLog id) _ _ made)
clock_on old caller w (Write id at block) reply new on a =
    on_writer caller _ id old reply new _ (KeepsClock (Write id at block) old new) a (clock_as old caller reply new (Write id at block))
    (λ row h u. unless_refused _ old reply new _ (KeepsClock (Write id at block) old new) u (clock_as old caller reply new (Write id at block)) (λ none (x : WritesAt row at block old reply new). (ap (λ (s : State). s.serial) x.makes.after, λ no_write. absurd no_write)))
clock_on old caller w (Flush id) reply new on a = on_writer caller _ id old reply new _ (KeepsClock (Flush id) old new) a (clock_as old caller reply new (Flush id)) (λ row h f. clock_flush old row row.pending.entries reply new (Flush id) f)
clock_on old caller w (SyncLog id) reply new on a = on_writer caller _ id old reply new _ (KeepsClock (SyncLog id) old new) a (clock_as old caller reply new (SyncLog id)) (λ row h made. clock_by old caller reply new (SyncLog id) _ _ made)
clock_on old caller w (SyncIndex id) reply new on a = on_writer caller _ id old reply new _ (KeepsClock (SyncIndex id) old new) a (clock_as old caller reply new (SyncIndex id)) (λ row h made. clock_by old caller reply new (SyncIndex id) _ _ made)
clock_on old caller w (PutMeta id) reply new on a =
    on_writer caller _ id old reply new _ (KeepsClock (PutMeta id) old new) a (clock_as old caller reply new (PutMeta id))
    (λ row h u. unless_refused _ old reply new _ (KeepsClock (PutMeta id) old new) u (clock_as old caller reply new (PutMeta id)) (λ none made. clock_by old caller reply new (PutMeta id) _ _ made))
clock_on old caller w (Exit id) reply new on a =
    on_writer caller _ id old reply new _ (KeepsClock (Exit id) old new) a (clock_as old caller reply new (Exit id))
    (λ row h u. unless_refused _ old reply new _ (KeepsClock (Exit id) old new) u (clock_as old caller reply new (Exit id)) (λ none made. clock_by old caller reply new (Exit id) _ _ made))
clock_on old caller w call reply new on a = absurd on

-- a call on the writer draws no serial; unless it writes, it doesn't ask the clock
pub clock_next : (m : Moment) (e : Event) (rest : List Event) (w : ℕ) → IsLawful m.state (e ∷ rest) → e.ask.stop ≡ None → IsOn w e.ask.call → KeepsClock e.ask.call m.state e.after
clock_next m e rest w lawful whole on = clock_on m.state e.caller w e.ask.call e.reply e.after on (whole_answers m.state e.caller e.ask e.reply e.after whole lawful.1)

-- ---- a run of such calls

-- the caller has the writer in the table, in this room and of this host
pub record HasIt (me : ℕ) (d : Dropping) (state : State) : Type 0 where
  pub row : Row
  pub has : HasRow me d.writer row state
  pub same : its row.room row.host row.id ≡ d

pub its_place : (me : ℕ) (d : Dropping) (state : State) → HasIt me d state → IsPlaced d state.table
its_place me d state h row held = let one : h.row ≡ row = same_row h.row row (row_of d.writer state.table.writers) h.has.there held in subst (λ (r : Row). its r.room r.host r.id ≡ d) one h.same
  where
    same_row : (a b : Row) (o : Option Row) → o ≡ Some a → o ≡ Some b → a ≡ b
    same_row a b o p q = cc

stays_in : (w : ℕ) (call : Call) (reply : Reply) → IsNoExit call → StaysInAt w call reply
stays_in w (Exit id) reply none = absurd none
stays_in w call reply none = tt

pub its_next : (m : Moment) (e : Event) (rest : List Event) (me : ℕ) (d : Dropping) → IsLawful m.state (e ∷ rest) → IsNoExit e.ask.call → HasIt me d m.state → HasIt me d e.after
its_next m e rest me d lawful none h =
    let k = any_kept me d.writer h.row m.state e.caller e.ask e.reply e.after h.has lawful.1 (stays_in d.writer e.ask.call e.reply none) in
    record {
      row = k.after;
      has = k.has;
      same = (λ i. its (k.placed.0 i) (k.placed.1 i) ((row_of_id d.writer e.after.table.writers k.after k.has.there ∙ sym (row_of_id d.writer m.state.table.writers h.row h.has.there)) i)) ∙ h.same;
    }

-- these are whole calls on the writer, none of which is an exit
abbrev pub AreItsCalls : Dropping → List Event → Type 0
AreItsCalls d events = AllByRecursion (λ (e : Event). (e.ask.stop ≡ None) × IsOn d.writer e.ask.call × IsNoExit e.ask.call) events

on_its : (next : ℕ) (d : Dropping) (call : Call) → IsOn d.writer call → IsItsCall next d call
on_its next d (Enter room host capacity) on = absurd on
on_its next d call on = on

-- what they leave, and that the writer is still the caller's
pub record LeavesRun (me : ℕ) (d : Dropping) (old new : Moment) : Type 0 where
  pub others : LeavesOthers d old new
  pub its_own : HasIt me d new.state
  pub serial : new.state.serial ≡ old.state.serial

pub leaves_one : (m : Moment) (e : Event) (rest : List Event) (me : ℕ) (d : Dropping) → IsNamed d → IsSoundAt m → IsLawful m.state (e ∷ rest) → HasIt me d m.state → e.ask.stop ≡ None → IsOn d.writer e.ask.call → IsNoExit e.ask.call → LeavesRun me d m (next_moment m e)
leaves_one m e rest me d named sound lawful h whole on none =
    let next : HasIt me d e.after = its_next m e rest me d lawful none h in
    record {
      others = leaves_next m e rest d sound lawful whole (on_its (next_id m.state) d e.ask.call on) named (its_place me d m.state h) (its_place me d e.after next);
      its_own = next;
      serial = (clock_next m e rest d.writer lawful whole on).0;
    }

pub leaves_run : (events : List Event) (m : Moment) (me : ℕ) (d : Dropping) → IsNamed d → IsSoundAt m → IsLawful m.state events → HasIt me d m.state → AreItsCalls d events → LeavesRun me d m (moment_after m events)
leaves_run [] m me d named sound lawful h calls = record { others = leaves_none d m; its_own = h; serial = refl }
leaves_run (e ∷ events) m me d named sound lawful h calls =
    let one = leaves_one m e events me d named sound lawful h calls.0.0 calls.0.1 calls.0.2 in
    let more = leaves_run events (next_moment m e) me d named (sound_after m (e ∷ []) (lawful.0, lawful.1, tt) sound) lawful.2 one.its_own calls.1 in
    record {
      others = leaves_both d m (next_moment m e) (moment_after (next_moment m e) events) one.others more.others;
      its_own = more.its_own;
      serial = more.serial ∙ one.serial;
    }

-- where none of them writes, the clock isn't asked
pub times_run : (events : List Event) (m : Moment) (w : ℕ) → IsLawful m.state events → AllByRecursion (λ (e : Event). (e.ask.stop ≡ None) × IsOn w e.ask.call × IsNoWrite e.ask.call) events → (moment_after m events).state.times ≡ m.state.times
times_run [] m w lawful calls = refl
times_run (e ∷ events) m w lawful calls = times_run events (next_moment m e) w lawful.2 calls.1 ∙ (clock_next m e events w lawful calls.0.0 calls.0.1).1 calls.0.2

-- ---- what has landed of others, and which of their items stand

module _ (d : Dropping) (old new : Moment) (l : LeavesOthers d old new) where
  pub item_then : (n : ℕ) (item : Item) → IsItem item → IsOthers d n item → file_then new n (path_of item) ≡ file_then old n (path_of item)
  item_then n item is others =
      file_by_room new.state.store.tree n (path_of item) ∙ same_file d n (room_then old n) (room_then new n) (l.rooms n) item is others ∙ sym (file_by_room old.state.store.tree n (path_of item))

  pub had_then : (n : ℕ) (item : Item) → IsOthers d n item → HadItem new n item → HadItem old n item
  had_then n item others had = record { is_item = had.is_item; bytes = had.bytes; there = sym (item_then n item had.is_item others) ∙ had.there }

  pub has_then : (n : ℕ) (item : Item) → IsOthers d n item → HadItem old n item → HadItem new n item
  has_then n item others had = record { is_item = had.is_item; bytes = had.bytes; there = item_then n item had.is_item others ∙ had.there }

  pub landed_then : (x : Dropping) → IsNamed x → (x ≡ d → ⊥) → landed new x ≡ landed old x
  landed_then x named apart =
      let index : index_then new x ≡ index_then old x = item_then x.room (Index x.host x.writer) named apart in
      let log : log_then new x ≡ log_then old x = item_then x.room (Log x.host x.writer) (is_log x.host x.writer named.widths.0 named.widths.1) apart in
      ap (λ o. length (entries_there (bytes_of o) (bytes_of (log_then new x)))) index ∙ ap (λ o. length (entries_there (bytes_of (index_then old x)) (bytes_of o))) log
