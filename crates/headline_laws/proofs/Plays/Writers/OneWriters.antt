-- The writer that an actor keeps is the one that it has open.
use Rattle.std.proofs.Common.{◌≡◌, ℕ, true, false, List, [], ◌∷◌, ◌++◌, Option, Some, None, inl, refl, sym, ap, ◌∙◌, subst, arith, append_assoc}
use Rattle.std.specs.List.{Any}
use Rattle.turn_object.proofs.Facts.{state_append}
use Rattle.mount_model.specs.declared.call.Ask.{Ask}
use Rattle.mount_model.specs.declared.call.Call.TheVariants.{SyncIndex}
use Rattle.mount_model.specs.declared.reply.Reply.TheVariants.{Synced}
use Rattle.mount_model.specs.declared.row.Row.{Row}
use Rattle.mount_model.specs.History.{Event, state_after}
use Rattle.mount_model.specs.State.{State}
use Rattle.mount_sound.specs.Owed.{IsLawful}
use Rattle.writer_flow.specs.declared.handle.WriterHandle.{WriterHandle}
use Rattle.writer_laws.specs.Counting.{entry_count, writes_told}
use Rattle.writer_laws.specs.Knowing.{HasRow, Knows}
use Rattle.writer_laws.specs.Waiting.{LetsBe}
use Rattle.mount_sound.proofs.Facts.{lawful_first}
use Rattle.writer_laws.proofs.Facts.{SyncedBy, goes, handle_waits, none_told, writes_both}
use Rattle.reader_laws.specs.Bounds.{IsOf, IsSyncedIn}
use Rattle.reader_laws.specs.Moments.{Dropping}
use Rattle.reader_laws.proofs.Gathered.Facts.{among_left, among_right, any_found, found_any}
use Rattle.actor_core.specs.declared.kept.Kept.{Kept}
use Rattle.headline_laws.specs.OneWriter.{OneWriter, WritesNone}

-- ---- one of some events

pub any_front : (P : Event → Type 0) (first rest : List Event) → Any P first → Any P (first ++ rest)
any_front P first rest any = (let f = any_found P first any in found_any P (first ++ rest) f.0 (among_left f.0 first rest f.1) f.2)

pub any_back : (P : Event → Type 0) (first rest : List Event) → Any P rest → Any P (first ++ rest)
any_back P first rest any = (let f = any_found P rest any in found_any P (first ++ rest) f.0 (among_right f.0 first rest f.1) f.2)

pub any_here : (P : Event → Type 0) (events first rest : List Event) (event : Event) → events ≡ first ++ event ∷ rest → P event → Any P events
any_here P events first rest event is good = subst (Any P) (sym is) (found_any P (first ++ event ∷ rest) event (among_right event first (event ∷ rest) (inl refl)) good)

-- ---- what is known of it

-- The caller's writer is this one: its entries go there, and it has so many. Once its metadata dropping was asked for, all of them were synced.
pub record OfWriter (n : ℕ) (sofar : List Event) (state : State) (handle : WriterHandle) (writer : OneWriter) : Type 0 where
  pub row : Row
  pub knows : Knows n handle row state
  pub is_writer : handle.writer ≡ writer.dropping.writer
  pub room : row.room ≡ writer.dropping.room
  pub host : row.host ≡ writer.dropping.host
  pub total : entry_count row ≡ writer.count
  pub told : handle.closing ≡ true → (handle.landed ≡ writer.count) × IsSyncedIn sofar writer.dropping writer.count

-- what an actor keeps as its writer is what it has open
abbrev pub Writes : ℕ → List Event → State → Option WriterHandle → Option OneWriter → Type 0
Writes n sofar state None None = Unit {0}
Writes n sofar state None (Some writer) = ⊥
Writes n sofar state (Some handle) None = ⊥
Writes n sofar state (Some handle) (Some writer) = OfWriter n sofar state handle writer

-- nothing is known of the writer of an actor that was stopped
abbrev pub KeepsWriter : ℕ → List Event → State → Kept → Option OneWriter → Type 0
KeepsWriter n sofar state kept writer = kept.gone ≡ false → Writes n sofar state kept.writer writer

-- ---- in events in which the caller lets it be

pub writes_later : (n : ℕ) (sofar : List Event) (state : State) (kept : Option WriterHandle) (writer : Option OneWriter) (events : List Event) → IsLawful state events → ((id : ℕ) → LetsBe n id events) → Writes n sofar state kept writer
    → Writes n (sofar ++ events) (state_after state events) kept writer × WritesNone writer events
writes_later n sofar state None None events lawful lets keeps = (tt, tt)
writes_later n sofar state None (Some writer) events lawful lets keeps = absurd keeps
writes_later n sofar state (Some handle) None events lawful lets keeps = absurd keeps
writes_later n sofar state (Some handle) (Some writer) events lawful lets keeps = (
  record {
    row = keeps.row;
    knows = handle_waits n handle keeps.row state events keeps.knows lawful (lets handle.writer);
    is_writer = keeps.is_writer;
    room = keeps.room;
    host = keeps.host;
    total = keeps.total;
    told = λ closing. (let t = keeps.told closing in (t.0, any_front _ sofar events t.1));
  },
  subst (λ id. writes_told id events ≡ 0) keeps.is_writer (none_told n handle.writer keeps.row state events keeps.knows.has lawful (lets handle.writer)),
)

pub none_both : (writer : Option OneWriter) (first rest : List Event) → WritesNone writer first → WritesNone writer rest → WritesNone writer (first ++ rest)
none_both None first rest one other = tt
none_both (Some writer) first rest one other = (let both = writes_both writer.dropping.writer first rest in omega (arith, both, one, other))

-- ---- a sync

-- what a sync told is told of where the entries of its writer go
pub synced_there : (n count : ℕ) (handle : WriterHandle) (row : Row) (d : Dropping) (state : State) (events : List Event) → HasRow n handle.writer row state → IsLawful state events → handle.writer ≡ d.writer → row.room ≡ d.room → row.host ≡ d.host
    → SyncedBy n handle.writer count events → IsSyncedIn events d count
synced_there n count handle row d state events has lawful is room host y =
    let front : List Event = y.first ++ y.event ∷ [] in
    let split : events ≡ front ++ y.rest = y.all ∙ sym (append_assoc y.first (y.event ∷ []) y.rest) in
    let g = goes n handle.writer row state front has (lawful_first state front y.rest (subst (IsLawful state) split lawful)) y.stays in
    let at : HasRow n handle.writer g.after y.event.after = subst (HasRow n handle.writer g.after) (state_append state y.first (y.event ∷ [])) g.has in
    any_here (λ (e : Event). (e.ask.call ≡ SyncIndex d.writer) × (e.reply ≡ Synced count) × IsOf e.after d) events y.first y.rest y.event y.all
    (ap (λ (a : Ask). a.call) y.asks ∙ ap SyncIndex is, y.told, of_row y.event.after g.after (subst (λ w. HasRow n w g.after y.event.after) is at) (g.placed.0 ∙ room) (g.placed.1 ∙ host))
  where
    of_row : (now : State) (after : Row) → HasRow n d.writer after now → after.room ≡ d.room → after.host ≡ d.host → IsOf now d
    of_row now after its at_room at_host = record { row = after; held = its.there; room = at_room; host = at_host }
