-- What a caller's calls in a lawful history from a sound state are.
use Rattle.std.proofs.Common.{◌≡◌, ℕ, List, [], ◌∷◌, ◌++◌, refl, ap, sym, ◌∙◌, inl, inr, subst}
use Rattle.std.specs.Prelude.{Ok}
use Rattle.std.specs.List.{AllByRecursion}
use Rattle.plfs_types.specs.declared.entries.Trunc.{Trunc}
use Rattle.mount_model.specs.declared.call.Call.{Call}
use Rattle.mount_model.specs.declared.reply.Reply.{Reply}
use Rattle.mount_model.specs.History.{Event}
use Rattle.mount_sound.specs.Owed.{IsLawful}
use Rattle.mount_model.specs.Program.{Program, ask}
use Rattle.mount_model.specs.Running.{unbroken, Runs}
use Rattle.mount_model.specs.FlowReplies.{names_in}
use Rattle.mount_model.proofs.Flows.Facts.{runs_next}
use Rattle.turn_object.specs.Callers.{made_by}
use Rattle.index_reader.specs.declared.opened.OpenReader.{OpenReader}
use Rattle.index_reader.specs.Truncs.{trunc_program}
use Rattle.reader_laws.specs.Moments.{Moment, IsSoundAt, moment_after}
use Rattle.reader_laws.specs.Seen.{Asked, asked_in, calls_of}
use Rattle.reader_laws.specs.GatheringOpening.{ListsTruncs}
use Rattle.reader_laws.proofs.Gathered.Facts.{its_call, legal_first, legal_rest, seen, sound_after}
use Rattle.reader_laws.specs.Listing.{HasListedTruncs}
use Rattle.mount_model.proofs.Stories.Facts.{entries_not_first}
use Rattle.reader_laws.proofs.Calls.Calling.{asked_all, calls_append, calls_are, given_so, FitsRead, reads_fit}
use Rattle.reader_laws.proofs.Calls.Truncating.{truncs_told}

-- what a caller reads fits
pub fit : (caller : ℕ) (start : Moment) (events : List Event) → IsLawful start.state events → IsSoundAt start → AllByRecursion FitsRead (calls_of caller events)
fit caller start events lawful sound = reads_fit caller start (moment_after start events) (calls_of caller events) (seen caller start events lawful sound)

-- ---- the first call of a program

-- The program's first call has its place among the events.
pub record IsFirstOf {X : Type 0} (caller : ℕ) (q : Call) (k : Reply → Program Call Reply X) (events : List Event) (out : X) : Type 0 where
  pub before : List Event
  pub event : Event
  pub later : List Event
  pub split : events ≡ before ++ event ∷ later
  pub waits : made_by caller before ≡ []
  pub by_caller : event.caller ≡ caller
  pub asked : event.ask ≡ unbroken q
  pub rest : Runs caller (k event.reply) later out

pub first_of : {X : Type 0} (caller : ℕ) (q : Call) (k : Reply → Program Call Reply X) (events : List Event) (out : X) → Runs caller (ask q k) events out → IsFirstOf caller q k events out
first_of caller q k [] out runs = absurd runs
first_of caller q k (e ∷ events) out runs = elim (runs_next caller q k e events out runs) as (λ _. IsFirstOf caller q k (e ∷ events) out) [
  | inl (other, runs') ↦
      let f = first_of caller q k events out runs' in
      record { before = e ∷ f.before; event = f.event; later = f.later; split = ap (λ l. e ∷ l) f.split; waits = entries_not_first caller e f.before other ∙ f.waits; by_caller = f.by_caller; asked = f.asked; rest = f.rest }
  | inr (mine, asked, runs') ↦ record { before = []; event = e; later = events; split = refl; waits = refl; by_caller = mine; asked = asked; rest = runs' }
]

-- ---- truncates

pub truncs_listed : (caller room : ℕ) (start : Moment) (events : List Event) (truncs : List Trunc) → IsLawful start.state events → IsSoundAt start → Runs caller (trunc_program room) events (Ok truncs) → HasListedTruncs caller room events truncs
truncs_listed caller room start events truncs lawful sound runs =
    let f = first_of caller _ _ events (Ok truncs) runs in
    let all : IsLawful start.state (f.before ++ f.event ∷ f.later) = subst (IsLawful start.state) f.split lawful in
    let m : Moment = moment_after start f.before in
    let s : IsSoundAt m = sound_after start f.before (legal_first start f.before (f.event ∷ f.later) all) sound in
    let rest = legal_rest start f.before (f.event ∷ f.later) all in
    let g = given_so (names_in f.event.reply) _ _ (made_by caller f.later) truncs f.rest in
    let none : made_by caller f.later ≡ [] = g.2.0 in
    record {
      before = f.before;
      listing = f.event;
      later = f.later;
      split = f.split;
      waits = calls_are caller f.before ∙ ap asked_all f.waits;
      lists = f.by_caller;
      rests = calls_are caller f.later ∙ ap asked_all none;
      truncates = truncs_told m s f.event.caller room f.event g.0 truncs rest.1 f.asked g.1 g.2.1;
    }

-- the same of a reader of this room, which has these truncates
pub listed_by : (reader : OpenReader) (room : ℕ) (truncs : List Trunc) (asked : Asked) → reader.room ≡ room → reader.truncs ≡ truncs → ListsTruncs room truncs asked → ListsTruncs reader.room reader.truncs asked
listed_by reader room truncs asked room_is truncs_are lists = subst (λ r. ListsTruncs r reader.truncs asked) (sym room_is) (subst (λ ts. ListsTruncs room ts asked) (sym truncs_are) lists)

-- where the caller's call comes first among the events
pub truncs_first : (caller room : ℕ) (m : Moment) (last : Event) (later : List Event) (truncs : List Trunc) → IsLawful m.state (last ∷ later) → IsSoundAt m → last.caller ≡ caller → Runs caller (trunc_program room) (last ∷ later) (Ok truncs) → ListsTruncs room truncs (asked_in last)
truncs_first caller room m last later truncs lawful s own runs = elim (runs_next caller _ _ last later (Ok truncs) runs) as (λ _. ListsTruncs room truncs (asked_in last)) [
  | inl (other, runs') ↦ absurd (other own)
  | inr (mine, asked, runs') ↦
      let g = given_so (names_in last.reply) _ _ (made_by caller later) truncs runs' in
      truncs_told m s last.caller room last g.0 truncs lawful.1 asked g.1 g.2.1
]

-- the caller's calls begin with its first
pub calls_from : {X : Type 0} (caller : ℕ) (q : Call) (k : Reply → Program Call Reply X) (events : List Event) (out : X) (f : IsFirstOf caller q k events out) → calls_of caller events ≡ asked_in f.event ∷ calls_of caller f.later
calls_from caller q k events out f =
    ap (calls_of caller) f.split ∙ calls_append caller f.before (f.event ∷ f.later) ∙ ap (λ l. l ++ calls_of caller (f.event ∷ f.later)) (calls_are caller f.before ∙ ap asked_all f.waits) ∙ its_call caller f.event f.later f.by_caller
