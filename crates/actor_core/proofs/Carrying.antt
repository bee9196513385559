-- What an actor makes of its machine's calls and of their replies.
use Rattle.std.proofs.Common.{◌≡◌, ℕ, List, length, nat_eq, arith, true, false, Option, Some, None, refl, sym, ap, ◌∙◌, subst}
use Rattle.std.specs.Prelude.{if◌then◌else◌, option_map}
use Rattle.std.proofs.lemmas.Bool.Decides.{nat_tests}
use Rattle.std.proofs.lemmas.Option.{none-some}
use Rattle.mount_model.specs.Program.{done, ask}
use Rattle.mount_model.specs.Process.{asks}
use Rattle.mount_model.specs.Running.{unbroken}
use Rattle.mount_model.specs.declared.call.Call.TheVariants.{Greet}
use Rattle.writer_flow.specs.declared.handle.WriterHandle.{WriterHandle}
use Rattle.writer_flow.specs.declared.handle.WriterOut.{WriterOut}
use Rattle.writer_flow.specs.Writing.{write_program}
use Rattle.plain_file.specs.declared.parts.ReaderParts.{ReaderParts}
use Rattle.index_reader.specs.declared.opened.OpenReader.{OpenReader}
use Rattle.index_reader.specs.Opened.{parts_of}
use Rattle.refresh_index.specs.declared.refreshing.RefreshOut.{RefreshOut}
use Rattle.refresh_index.specs.Refreshing.{refresh_program}
use Rattle.actor_core.specs.Endings.{wrote, stopped}
use Rattle.actor_core.specs.Opened.{reader_refreshed}
use Rattle.actor_core.specs.Writers.{writes}
use Rattle.actor_core.specs.Readers.{refreshes}
use Rattle.mount_model.specs.Standing.{Standing, ready, asked as out, Rest, over, awaits, next_of, rest_of, replied, Awaits, IsOver}
use Rattle.mount_model.specs.declared.call.Call.{Call}
use Rattle.mount_model.specs.declared.call.Ask.{Ask}
use Rattle.mount_model.specs.declared.reply.Reply.{Reply}
use Rattle.actor_core.specs.declared.kept.Stop.{Stop}
use Rattle.actor_core.specs.Stopping.{is_due, one_nearer, stoppable}
use Rattle.actor_core.specs.Work.{Work, finishes}
use Rattle.actor_core.specs.Progress.{Progress, idle, begun, IsIdle, going, IsReady, IsAsked, ask_of, given, with_reply}
use Rattle.actor_core.specs.declared.kept.Kept.{Kept}
use Rattle.actor_core.specs.declared.actor.Actor.{Actor}
use Rattle.actor_core.specs.declared.actor.State.{State}
use Rattle.actor_core.specs.Standings.{Underway, goes, waits, ready_of, asked_of, busy, greeting, greeting_out, doing_ready, doing_asked, progress_of, state_progress}
use Rattle.actor_core.specs.declared.actor.State.TheVariants.{Idle, Told, Working, HandedOut, Greeting, Greeted}
use Rattle.script_lang.specs.declared.script.Statement.{Statement}
use Rattle.actor_core.specs.Statements.{greeted, greeted_work}

-- a machine that has no next call is at its end
pub at_end : {R : Type 0} (number : ℕ) (old new : Standing Call Reply R) (stop : Option Stop) (next : Option Stop → R → Work) (halted : Work)
    → IsReady (busy number (ready_of old stop next halted)) → None ≡ option_map (stoppable stop) (next_of old) → rest_of new ≡ rest_of old → IsOver (rest_of new)
at_end {R} number (ready (done result)) new stop next halted is_ready none same = let P : Rest Call Reply R → Type 0 = λ rest. IsOver rest in subst P (sym same) tt
at_end number (ready (ask call k)) new stop next halted is_ready none same = absurd (none-some (stoppable stop call) none)
at_end number (out k) new stop next halted is_ready none same = absurd is_ready

abbrev over_of : {R : Type 0} → R → Rest Call Reply R
over_of r = over r

-- the result of a rest that is over
abbrev result_or : {R : Type 0} → R → Rest Call Reply R → R
result_or other (over r) = r
result_or other (awaits k) = other

pub same_result : {R : Type 0} (a b : R) → over_of a ≡ over_of b → a ≡ b
same_result a b e = ap (λ rest. result_or a rest) e

-- its result leads on
pub ends_so : {R : Type 0} (number : ℕ) (old new : Standing Call Reply R) (stop : Option Stop) (next : Option Stop → R → Work) (halted : Work) (result : R)
    → IsReady (busy number (ready_of old stop next halted)) → None ≡ option_map (stoppable stop) (next_of old) → rest_of new ≡ rest_of old → rest_of new ≡ over result
    → busy number (ready_of old stop next halted) ≡ going number (next stop result)
ends_so number (ready (done made)) new stop next halted result is_ready none same is =
    ap (λ r. going number (next stop r)) (same_result made result (sym same ∙ is))
ends_so number (ready (ask call k)) new stop next halted result is_ready none same is = absurd (none-some (stoppable stop call) none)
ends_so number (out k) new stop next halted result is_ready none same is = absurd is_ready

-- its next call is the actor's
pub asks_so : {R : Type 0} (number : ℕ) (old new : Standing Call Reply R) (stop : Option Stop) (next : Option Stop → R → Work) (halted : Work) (question : Ask)
    → IsReady (busy number (ready_of old stop next halted)) → Some question ≡ option_map (stoppable stop) (next_of old)
    → Some question ≡ ask_of (busy number (ready_of old stop next halted))
asks_so number (ready (done result)) new stop next halted question is_ready some = absurd (none-some question (sym some))
asks_so number (ready (ask call k)) new stop next halted question is_ready some = some
asks_so number (out k) new stop next halted question is_ready some = absurd is_ready

-- and is out then
pub is_out : {R : Type 0} (number : ℕ) (old new : Standing Call Reply R) (stop : Option Stop) (next : Option Stop → R → Work) (halted : Work) (question : Ask)
    → IsReady (busy number (ready_of old stop next halted)) → Some question ≡ option_map (stoppable stop) (next_of old) → rest_of new ≡ rest_of old
    → busy number (asked_of (rest_of new) stop next halted) ≡ given (busy number (ready_of old stop next halted))
is_out number (ready (done result)) new stop next halted question is_ready some same = absurd (none-some question (sym some))
is_out number (ready (ask call k)) new stop next halted question is_ready some same = ap (λ rest. busy number (asked_of rest stop next halted)) same
is_out number (out k) new stop next halted question is_ready some same = absurd is_ready

-- a call that is out has its reply to come
pub awaited : {R : Type 0} (number : ℕ) (rest : Rest Call Reply R) (stop : Option Stop) (next : Option Stop → R → Work) (halted : Work)
    → IsAsked (busy number (asked_of rest stop next halted)) → Awaits rest
awaited number (over result) stop next halted is_asked = absurd is_asked
awaited number (awaits k) stop next halted is_asked = tt

-- a reply that the actor doesn't stop at goes to the machine
pub replied_so : {R : Type 0} (number : ℕ) (rest : Rest Call Reply R) (new : Standing Call Reply R) (stop : Option Stop) (next : Option Stop → R → Work) (halted : Work) (reply : Reply)
    → Awaits rest → new ≡ ready (replied rest reply) → is_due stop ≡ false
    → busy number (ready_of new (one_nearer stop) next halted) ≡ with_reply (busy number (asked_of rest stop next halted)) reply
replied_so number (over result) new stop next halted reply awaits_it so_goes not_due = absurd awaits_it
replied_so number (awaits k) new stop next halted reply awaits_it so_goes not_due = rw (so_goes, not_due) refl

-- a reply that the actor stops at ends the statement
pub stops_so : {R : Type 0} (number : ℕ) (rest : Rest Call Reply R) (stop : Option Stop) (next : Option Stop → R → Work) (halted : Work) (reply : Reply)
    → IsAsked (busy number (asked_of rest stop next halted)) → is_due stop ≡ true
    → going number halted ≡ with_reply (busy number (asked_of rest stop next halted)) reply
stops_so number (over result) stop next halted reply is_asked due = absurd is_asked
stops_so number (awaits k) stop next halted reply is_asked due = rw due refl

-- an actor whose fields are these
pub placed : (a : Actor) (number : ℕ) (kept : Kept) (stop : Option Stop) (state : State)
    → a.state ≡ state → a.kept ≡ kept → a.number ≡ number → a.stop ≡ stop → progress_of a ≡ state_progress number kept stop state
placed a number kept stop state is_state is_kept is_number is_stop = λ i. state_progress (is_number i) (is_kept i) (is_stop i) (is_state i)

-- a machine that was taken for one without a call, and has one out
pub out_same : {R : Type 0} (number : ℕ) (s : Standing Call Reply R) (stop : Option Stop) (next : Option Stop → R → Work) (halted : Work)
    → IsAsked (busy number (ready_of s stop next halted)) → busy number (ready_of s stop next halted) ≡ busy number (asked_of (rest_of s) stop next halted)
out_same number (ready p) stop next halted is_asked = absurd is_asked
out_same number (out k) stop next halted is_asked = refl

pub greeting_same : (number : ℕ) (u : Underway) → IsAsked (greeting number u) → greeting number u ≡ busy number u
greeting_same number (goes work) is_asked = absurd is_asked
greeting_same number (waits k) is_asked = refl

-- its next call is the actor's, and is out then: both at once
pub asked_along : (a b : Progress) → a ≡ b → IsAsked a → IsAsked b
asked_along a b e is_asked = let P : Progress → Type 0 = λ p. IsAsked p in subst P e is_asked

-- an idle actor begins a statement so, where it has greeted
pub begins : (was : Progress) (kept : Kept) (number : ℕ) (statement : Statement) (u : Underway) → was ≡ idle kept → kept.greeted ≡ true → u ≡ goes (greeted_work (greeted kept) statement)
    → busy number u ≡ begun was number statement
begins was kept number statement u is_idle is_greeted is =
    ap (busy number) is
    ∙ ap (λ b. going number (greeted_work (record kept { greeted = b }) statement)) (sym is_greeted)
    ∙ sym (ap (λ p. begun p number statement) is_idle ∙ ap (λ b. going number (if b then greeted_work kept statement else asks (unbroken Greet) (λ reply. greeted_work (greeted kept) statement))) is_greeted)

not_idle : (number : ℕ) (u : Underway) → IsIdle (busy number u) → ⊥
not_idle number (goes work) is = is
not_idle number (waits k) is = is

not_idle_greeting : (number : ℕ) (u : Underway) → IsIdle (greeting number u) → ⊥
not_idle_greeting number (goes work) is = is
not_idle_greeting number (waits k) is = is

not_idle_greeted : (number : ℕ) (u : Underway) → IsIdle (greeting_out number u) → ⊥
not_idle_greeted number (goes work) is = is
not_idle_greeted number (waits k) is = is

pub idle_so : (number : ℕ) (kept : Kept) (stop : Option Stop) (state : State) → IsIdle (state_progress number kept stop state) → state_progress number kept stop state ≡ idle kept
idle_so number kept stop Idle is = refl
idle_so number kept stop (Told line) is = absurd is
idle_so number kept stop (Working doing false) is = absurd (not_idle number (doing_ready kept stop doing) is)
idle_so number kept stop (Working doing true) is = absurd (not_idle number (doing_asked kept stop doing) is)
idle_so number kept stop (HandedOut listed) is = absurd is
idle_so number kept stop (Greeting doing) is = absurd (not_idle_greeting number (doing_ready kept stop doing) is)
idle_so number kept stop (Greeted doing) is = absurd (not_idle_greeted number (doing_ready kept stop doing) is)

-- a write of some bytes begins with its machine's program
pub written : (kept : Kept) (stop : Option Stop) (at len : ℕ) (bytes : List ℕ) (handle : WriterHandle) (s : Standing Call Reply WriterOut) (writer : Option WriterHandle)
    → s ≡ ready (write_program handle at bytes) → writer ≡ Some handle → handle.closing ≡ false → len ≡ length bytes → (len ≡ 0 → ⊥)
    → ready_of s stop (λ left out. finishes (wrote kept at len out)) (finishes (stopped kept)) ≡ goes (writes kept stop at bytes writer)
written kept stop at len bytes handle s writer is some may_write counted some_bytes =
    let none : nat_eq (length bytes) 0 ≡ false = grind (arith, nat_tests, counted, some_bytes) in
    rw (is, some, may_write, counted, none) refl

-- a machine that refreshes the reader of these parts, where the actor has this one meanwhile
abbrev refresh_ready : Kept → Option Stop → Option OpenReader → Standing Call Reply RefreshOut → Underway
refresh_ready kept stop after s = ready_of s stop (λ left ended. finishes (reader_refreshed (record kept { reader = after }) ended)) (finishes (stopped (record kept { reader = after })))

-- a refresh begins with its machine's program, and the actor has no reader meanwhile
pub refreshing : (kept : Kept) (stop : Option Stop) (held : ReaderParts) (reader : OpenReader) (was after : Option OpenReader) (s : Standing Call Reply RefreshOut)
    → s ≡ ready (refresh_program held) → held ≡ parts_of reader → was ≡ Some reader → after ≡ None
    → ready_of s stop (λ left ended. finishes (reader_refreshed (record kept { reader = after }) ended)) (finishes (stopped (record kept { reader = after }))) ≡ goes (refreshes kept stop was)
refreshing kept stop held reader was after s is parts some none =
    ap (λ at. refresh_ready kept stop after at) is
    ∙ ap (λ these. refresh_ready kept stop after (ready (refresh_program these))) parts
    ∙ ap (λ keeps. refresh_ready kept stop keeps (ready (refresh_program (parts_of reader)))) none
    ∙ ap (λ found. goes (refreshes kept stop found)) (sym some)
