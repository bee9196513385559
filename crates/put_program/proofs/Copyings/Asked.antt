-- What the programs of a copying ask.
use Rattle.std.proofs.Common.{◌≡◌, inl, inr, ℕ, Bool, true, false, List, [], ◌∷◌, ◌++◌, Option, Some, None, Result, Ok, Err, refl, sym, ap, ◌∙◌, subst, nat_eq, nat_le}
use Rattle.std.specs.Prelude.{if◌then◌else◌}
use Rattle.std.specs.List.{AllByRecursion}
use Rattle.mount_model.specs.declared.call.Ask.{Ask}
use Rattle.mount_model.specs.declared.call.Call.{Call}
use Rattle.mount_model.specs.declared.call.Call.TheVariants as call
use Rattle.mount_model.specs.declared.reply.Reply.{Reply}
use Rattle.mount_model.specs.declared.reply.Reply.TheVariants as reply
use Rattle.mount_model.specs.History.{Event}
use Rattle.mount_model.specs.Paths.{Name}
use Rattle.mount_model.specs.Program.{Program, ask, done, followed_by}
use Rattle.mount_model.specs.declared.stuck.Stuck.{Stuck}
use Rattle.mount_model.specs.FlowReplies.{Tries, failure, given, room_in}
use Rattle.mount_model.specs.Running.{Runs}
use Rattle.mount_model.proofs.Flows.Facts.{runs_done, runs_next}
use Rattle.trunc_rename.specs.Holding.{holder_in, holds, lets_go, or_lets_go}
use Rattle.trunc_rename.specs.Truncating.{lists_metadata, lists_truncs, marked, marks, truncate_program}
use Rattle.writer_flow.specs.declared.handle.WriterHandle.{WriterHandle}
use Rattle.writer_flow.specs.declared.handle.WriterOut.{WriterOut}
use Rattle.writer_flow.specs.Closing.{after_sync, close_from, close_program, if_kept, if_left, if_put, puts_meta}
use Rattle.writer_flow.specs.Handle.{flushed_of, opened_of}
use Rattle.writer_flow.specs.Opening.{Opening, if_done, if_entered, if_floored, if_made, makes_hostdir, makes_index, makes_log}
use Rattle.writer_flow.specs.Syncing.{flushes_and_syncs, if_log_synced, if_synced, sync_program, syncs_index}
use Rattle.writer_flow.specs.Writing.{flush_then, if_flushed, if_wrote, write_program, writes}
use Rattle.put_program.proofs.Copyings.Spared.{IssuesNone, LandsOnly, MarksNone, MovesNone}

-- ---- calls of a program

-- whatever is replied, this holds of each call
abbrev pub Asks : {R : Type 0} → (Call → Type 0) → Program Call Reply R → Type 0
Asks P (done r) = Unit {0}
Asks P (ask q k) = P q × ((reply : Reply) → Asks P (k reply))

pub all_asked : {R : Type 0} (P : Call → Type 0) (program : Program Call Reply R) (events : List Event) (result : R) → Asks P program → AllByRecursion (λ (e : Event). e.caller ≡ 0) events → Runs 0 program events result → AllByRecursion (λ (e : Event). P e.ask.call) events
all_asked P program [] result asks own runs = tt
all_asked P (done out) (e ∷ events) result asks own runs = absurd ((runs_done 0 out e events result runs).0 own.0)
all_asked P (ask q k) (e ∷ events) result asks own runs = elim (runs_next 0 q k e events result runs) as (λ _. AllByRecursion (λ (x : Event). P x.ask.call) (e ∷ events)) [
  | inl (other, r) ↦ absurd (other own.0)
  | inr (mine, asked, r) ↦ (subst (λ (a : Ask). P a.call) (sym asked) asks.0, all_asked P (k e.reply) events result (asks.1 e.reply) own.1 r)
]

asks_both : {R S : Type 0} (P : Call → Type 0) (p : Program Call Reply R) (next : R → Program Call Reply S) → Asks P p → ((r : R) → Asks P (next r)) → Asks P (followed_by p next)
asks_both P (done r) next one other = other r
asks_both P (ask q k) next one other = (one.0, λ reply. asks_both P (k reply) next (one.1 reply) other)

-- ---- a writer's programs

-- the call lands nothing but of this writer, puts no truncate, and gives no container another name
abbrev pub Spares : ℕ → Call → Type 0
Spares writer q = LandsOnly writer q × MarksNone q × MovesNone q

-- nor does it issue a write
abbrev pub Settles : ℕ → Call → Type 0
Settles writer q = Spares writer q × IssuesNone q

wrote_done : (w : ℕ) (handle : WriterHandle) (rep : Reply) → Asks (Spares w) (if_wrote handle rep)
wrote_done w handle (reply.Wrote stamp) = tt
wrote_done w handle rep = tt

writes_ask : (handle : WriterHandle) (at : ℕ) (block : List ℕ) (w : ℕ) → Asks (Spares w) (writes handle at block)
writes_ask handle at block w = ((tt, tt, tt), wrote_done w handle)

flushed_then : (P : Call → Type 0) (handle : WriterHandle) (next : Program Call Reply WriterOut) → Asks P next → (rep : Reply) → Asks P (if_flushed handle next rep)
flushed_then P handle next asks (reply.Flushed landed) = asks
flushed_then P handle next asks rep = tt

pub write_asks : (handle : WriterHandle) (at : ℕ) (block : List ℕ) → Asks (Spares handle.writer) (write_program handle at block)
write_asks handle at block = elim (nat_le handle.cap handle.pending) as (λ b. Asks (Spares handle.writer) (if b then flush_then handle (writes (flushed_of handle) at block) else writes handle at block)) [
  | true ↦ ((refl, tt, tt), flushed_then (Spares handle.writer) handle (writes (flushed_of handle) at block) (writes_ask (flushed_of handle) at block handle.writer))
  | false ↦ writes_ask handle at block handle.writer
]

-- the call takes no writer out
abbrev pub ExitsNone : Call → Type 0
ExitsNone (call.Exit writer) = ⊥
ExitsNone q = Unit {0}

wrote_stays : (handle : WriterHandle) (rep : Reply) → Asks ExitsNone (if_wrote handle rep)
wrote_stays handle (reply.Wrote stamp) = tt
wrote_stays handle rep = tt

pub write_stays : (handle : WriterHandle) (at : ℕ) (block : List ℕ) → Asks ExitsNone (write_program handle at block)
write_stays handle at block = elim (nat_le handle.cap handle.pending) as (λ b. Asks ExitsNone (if b then flush_then handle (writes (flushed_of handle) at block) else writes handle at block)) [
  | true ↦ (tt, flushed_then ExitsNone handle (writes (flushed_of handle) at block) (tt, wrote_stays (flushed_of handle)))
  | false ↦ (tt, wrote_stays handle)
]

synced_done : (w : ℕ) (handle : WriterHandle) (rep : Reply) → Asks (Settles w) (if_synced handle rep)
synced_done w handle (reply.Synced landed) = tt
synced_done w handle rep = tt

index_asks : (w : ℕ) (handle : WriterHandle) → Asks (Settles w) (syncs_index handle)
index_asks w handle = (((tt, tt, tt), tt), synced_done w handle)

flushes_ask : (handle : WriterHandle) → Asks (Settles handle.writer) (flushes_and_syncs handle)
flushes_ask handle = elim (nat_eq handle.pending 0) as (λ b. Asks (Settles handle.writer) (if b then syncs_index handle else flush_then handle (syncs_index (flushed_of handle)))) [
  | true ↦ index_asks handle.writer handle
  | false ↦ (((refl, tt, tt), tt), flushed_then (Settles handle.writer) handle (syncs_index (flushed_of handle)) (index_asks handle.writer (flushed_of handle)))
]

log_synced : (handle : WriterHandle) (rep : Reply) → Asks (Settles handle.writer) (if_log_synced handle rep)
log_synced handle reply.Done = flushes_ask handle
log_synced handle rep = tt

pub sync_asks : (handle : WriterHandle) → Asks (Settles handle.writer) (sync_program handle)
sync_asks handle = (((tt, tt, tt), tt), log_synced handle)

left_done : (w : ℕ) (handle : WriterHandle) (rep : Reply) → Asks (Settles w) (if_left handle rep)
left_done w handle reply.Done = tt
left_done w handle reply.Fault = tt
left_done w handle rep = tt

put_done : (w : ℕ) (handle : WriterHandle) (rep : Reply) → Asks (Settles w) (if_put handle rep)
put_done w handle reply.Done = (((tt, tt, tt), tt), left_done w handle)
put_done w handle rep = tt

meta_asks : (w : ℕ) (handle : WriterHandle) → Asks (Settles w) (puts_meta handle)
meta_asks w handle = (((tt, tt, tt), tt), put_done w _)

kept_asks : (w : ℕ) (handle : Option WriterHandle) (result : Result ℕ Stuck) → Asks (Settles w) (if_kept handle result)
kept_asks w (Some handle) (Ok landed) = meta_asks w handle
kept_asks w None (Ok landed) = tt
kept_asks w (Some handle) (Err why) = tt
kept_asks w None (Err why) = tt

close_asks_from : (closing : Bool) (handle : WriterHandle) → Asks (Settles handle.writer) (close_from closing handle)
close_asks_from true handle = meta_asks handle.writer handle
close_asks_from false handle = asks_both (Settles handle.writer) (sync_program handle) after_sync (sync_asks handle) (λ out. kept_asks handle.writer out.handle out.result)

pub close_asks : (handle : WriterHandle) → Asks (Settles handle.writer) (close_program handle)
close_asks handle = close_asks_from handle.closing handle

-- ---- the opening of a writer

-- the call makes no container
abbrev pub MakesNone : Call → Type 0
MakesNone (call.MakeContainer name) = ⊥
MakesNone q = Unit {0}

-- it is one of those behind the first call of an opening
abbrev pub Enters : ℕ → Call → Type 0
Enters w q = Spares w q × MakesNone q × IssuesNone q

done_asks : (w id : ℕ) (next : Opening) → Asks (Enters w) next → (rep : Reply) → Asks (Enters w) (if_done id next rep)
done_asks w id next asks reply.Done = asks
done_asks w id next asks rep = (((tt, tt, tt), tt, tt), λ other. tt)

log_asks : (w id most : ℕ) → Asks (Enters w) (makes_log id most)
log_asks w id most = (((tt, tt, tt), tt, tt), done_asks w id (done (Ok (opened_of id most))) tt)

index_makes : (w id most : ℕ) → Asks (Enters w) (makes_index id most)
index_makes w id most = (((tt, tt, tt), tt, tt), done_asks w id (makes_log id most) (log_asks w id most))

hostdir_asks : (w id most : ℕ) → Asks (Enters w) (makes_hostdir id most)
hostdir_asks w id most = (((tt, tt, tt), tt, tt), done_asks w id (makes_index id most) (index_makes w id most))

floored_asks : (w id most : ℕ) (rep : Reply) → Asks (Enters w) (if_floored id most rep)
floored_asks w id most (reply.Floored floor) = hostdir_asks w id most
floored_asks w id most rep = (((tt, tt, tt), tt, tt), λ other. tt)

entered_asks : (w most : ℕ) (rep : Reply) → Asks (Enters w) (if_entered most rep)
entered_asks w most (reply.Entered id) = (((tt, tt, tt), tt, tt), floored_asks w id most)
entered_asks w most rep = tt

pub made_asks : (w host most : ℕ) (rep : Reply) → Asks (Enters w) (if_made host most rep)
made_asks w host most (reply.Room room) = (((tt, tt, tt), tt, tt), entered_asks w most)
made_asks w host most rep = tt

-- ---- a truncate

-- behind its truncate a program puts no other one
abbrev pub MarksLast : {R : Type 0} → Program Call Reply R → Type 0
MarksLast (done r) = Unit {0}
MarksLast (ask q k) = ((holder size top : ℕ) → q ≡ call.Mark holder size top → (reply : Reply) → Asks MarksNone (k reply)) × ((reply : Reply) → MarksLast (k reply))

pub none_behind : {R : Type 0} (program : Program Call Reply R) (events first later : List Event) (e : Event) (holder size top : ℕ) (result : R) → MarksLast program → AllByRecursion (λ (x : Event). x.caller ≡ 0) events → Runs 0 program events result
    → events ≡ first ++ e ∷ later → e.ask.call ≡ call.Mark holder size top → AllByRecursion (λ (x : Event). MarksNone x.ask.call) later
none_behind program [] first later e holder size top result last own runs split marks = absurd (no_events first later e split)
  where
    no_events : (front rest : List Event) (x : Event) → [] ≡ front ++ x ∷ rest → ⊥
    no_events [] rest x is = cc
    no_events (y ∷ front) rest x is = cc
none_behind (done out) (x ∷ events) first later e holder size top result last own runs split marks = absurd ((runs_done 0 out x events result runs).0 own.0)
none_behind (ask q k) (x ∷ events) [] later e holder size top result last own runs split marks = elim (runs_next 0 q k x events result runs) as (λ _. AllByRecursion (λ (y : Event). MarksNone y.ask.call) later) [
  | inl (other, r) ↦ absurd (other own.0)
  | inr (mine, asked, r) ↦
      let head : x ≡ e = heads split in
      let is : q ≡ call.Mark holder size top = sym (ap (λ (a : Ask). a.call) asked) ∙ ap (λ (y : Event). y.ask.call) head ∙ marks in
      subst (λ (l : List Event). AllByRecursion (λ (y : Event). MarksNone y.ask.call) l) (tails split) (all_asked MarksNone (k x.reply) events result (last.0 holder size top is x.reply) own.1 r)
]
  where
    heads : x ∷ events ≡ e ∷ later → x ≡ e
    heads is = cc

    tails : x ∷ events ≡ e ∷ later → events ≡ later
    tails is = cc
none_behind (ask q k) (x ∷ events) (y ∷ first) later e holder size top result last own runs split marks = elim (runs_next 0 q k x events result runs) as (λ _. AllByRecursion (λ (z : Event). MarksNone z.ask.call) later) [
  | inl (other, r) ↦ absurd (other own.0)
  | inr (mine, asked, r) ↦ none_behind (k x.reply) events first later e holder size top result (last.1 x.reply) own.1 r (tails split) marks
]
  where
    tails : x ∷ events ≡ y ∷ (first ++ e ∷ later) → events ≡ first ++ e ∷ later
    tails is = cc

-- the calls of a truncate land nothing and give no other name
abbrev pub Truncates : ℕ → Call → Type 0
Truncates w q = LandsOnly w q × MovesNone q

-- the call finds no container
abbrev pub FindsNone : Call → Type 0
FindsNone (call.Find name) = ⊥
FindsNone q = Unit {0}

-- those behind the first also find none
abbrev pub Holds : ℕ → Call → Type 0
Holds w q = LandsOnly w q × MovesNone q × FindsNone q

given_asks : {A R : Type 0} (P : Call → Type 0) (found : Option A) (why : Stuck) (next : A → Tries R) → ((a : A) → Asks P (next a)) → Asks P (given found why next)
given_asks P None why next asks = tt
given_asks P (Some a) why next asks = asks a

go_asks : {R : Type 0} (w holder : ℕ) (result : Result R Stuck) → Asks (Holds w) (lets_go holder result)
go_asks w holder result = ((tt, tt, tt), λ reply. tt)

or_go_asks : {A R : Type 0} (w holder : ℕ) (next : A → Tries R) (result : Result A Stuck) → ((a : A) → Asks (Holds w) (next a)) → Asks (Holds w) (or_lets_go holder next result)
or_go_asks w holder next (Ok a) asks = asks a
or_go_asks {A} {R} w holder next (Err why) asks = go_asks {R = R} w holder (Err why)

marks_ask : (w size holder top : ℕ) → Asks (Holds w) (marks size holder top)
marks_ask w size holder top = ((tt, tt, tt), λ reply. go_asks w holder (marked reply))

truncs_ask : (w size room holder top : ℕ) → Asks (Holds w) (lists_truncs size room holder top)
truncs_ask w size room holder top = ((tt, tt, tt), λ reply. or_go_asks w holder (marks size holder) _ (marks_ask w size holder))

metadata_asks : (w size room holder : ℕ) → Asks (Holds w) (lists_metadata size room holder)
metadata_asks w size room holder = ((tt, tt, tt), λ reply. or_go_asks w holder (lists_truncs size room holder) _ (truncs_ask w size room holder))

pub hold_asks : (w size room : ℕ) → Asks (Holds w) (holds room (lists_metadata size room))
hold_asks w size room = ((tt, tt, tt), λ reply. given_asks {R = ℕ} (Holds w) (holder_in reply) (failure reply) (lists_metadata size room) (metadata_asks w size room))

pub asks_weaker : {R : Type 0} (P Q : Call → Type 0) (program : Program Call Reply R) → ((q : Call) → P q → Q q) → Asks P program → Asks Q program
asks_weaker P Q (done r) so asks = tt
asks_weaker P Q (ask q k) so asks = (so q asks.0, λ reply. asks_weaker P Q (k reply) so (asks.1 reply))

pub truncate_asks : (w : ℕ) (name : Name) (size : ℕ) → Asks (Truncates w) (truncate_program name size)
truncate_asks w name size = ((tt, tt), λ reply. given_asks {R = ℕ} (Truncates w) (room_in reply) (failure reply) (λ room. holds room (lists_metadata size room)) (λ room. asks_weaker (Holds w) (Truncates w) (holds room (lists_metadata size room)) (λ q h. (h.0, h.1)) (hold_asks w size room)))

-- it puts one truncate, and then none

go_last : {R : Type 0} (holder : ℕ) (result : Result R Stuck) → MarksLast (lets_go holder result)
go_last holder result = (λ h size top is reply. absurd (not_mark is), λ reply. tt)
  where
    not_mark : {h size top : ℕ} → call.Release holder ≡ call.Mark h size top → ⊥
    not_mark is = cc

or_go_last : {A R : Type 0} (holder : ℕ) (next : A → Tries R) (result : Result A Stuck) → ((a : A) → MarksLast (next a)) → MarksLast (or_lets_go holder next result)
or_go_last holder next (Ok a) last = last a
or_go_last {A} {R} holder next (Err why) last = go_last {R = R} holder (Err why)

given_last : {A R : Type 0} (found : Option A) (why : Stuck) (next : A → Tries R) → ((a : A) → MarksLast (next a)) → MarksLast (given found why next)
given_last None why next last = tt
given_last (Some a) why next last = last a

pub truncate_last : (name : Name) (size : ℕ) → MarksLast (truncate_program name size)
truncate_last name size = (λ h s top is rep. absurd (cc), λ rep. given_last {R = ℕ} (room_in rep) (failure rep) (λ room. holds room (lists_metadata size room)) (λ room. (λ h s top is other. absurd (cc), λ other. given_last {R = ℕ} (holder_in other) (failure other) (lists_metadata size room) (metadata_last room))))
  where
    marks_last : (holder top : ℕ) → MarksLast (marks size holder top)
    marks_last holder top = (λ h s t is reply. (tt, λ other. tt), λ reply. go_last holder (marked reply))

    truncs_last : (room holder top : ℕ) → MarksLast (lists_truncs size room holder top)
    truncs_last room holder top = (λ h s t is reply. absurd (cc), λ reply. or_go_last holder (marks size holder) _ (marks_last holder))

    metadata_last : (room holder : ℕ) → MarksLast (lists_metadata size room holder)
    metadata_last room holder = (λ h s t is reply. absurd (cc), λ reply. or_go_last holder (lists_truncs size room holder) _ (truncs_last room holder))
