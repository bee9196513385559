-- What the statement of a write asks: no call takes its writer out, and where it is stopped, none was answered as a write.
use Rattle.std.proofs.Common.{◌≡◌, ◌⊎◌, inl, inr, ℕ, Bool, true, false, nat_eq, nat_le, List, [], ◌∷◌, ◌++◌, length, Option, Some, None, sym, ap, ◌∙◌, subst, if◌then◌else◌}
use Rattle.std.specs.Prelude.{⊤}
use Rattle.turn_object.specs.Callers.{made_by}
use Rattle.mount_model.specs.Process.{asks, ends, pauses, shares, tells}
use Rattle.mount_model.specs.declared.call.Ask.{Ask}
use Rattle.mount_model.specs.declared.call.Call.{Call}
use Rattle.mount_model.specs.declared.call.Call.TheVariants.{Exit, Greet, Write}
use Rattle.mount_model.specs.declared.reply.Reply.{Reply}
use Rattle.mount_model.specs.declared.reply.Reply.TheVariants as reply
use Rattle.mount_model.specs.History.{Event}
use Rattle.mount_model.specs.Running.{unbroken}
use Rattle.script_lang.specs.declared.line.Outcome.TheVariants as line
use Rattle.script_lang.specs.declared.line.Why.TheVariants.{NotOpen}
use Rattle.script_lang.specs.declared.script.Data.{Data}
use Rattle.script_lang.specs.declared.script.Statement.{Statement}
use Rattle.script_lang.specs.declared.script.Statement.TheVariants as say
use Rattle.writer_flow.specs.declared.handle.WriterHandle.{WriterHandle}
use Rattle.writer_flow.specs.declared.handle.WriterOut.{WriterOut}
use Rattle.writer_flow.specs.Handle.{flushed_of}
use Rattle.writer_flow.specs.Writing.{flush_then, if_flushed, if_wrote, write_program, writes}
use Rattle.outcomes.specs.Data.{bytes_of}
use Rattle.actor_core.specs.declared.kept.Kept.{Kept}
use Rattle.actor_core.specs.declared.kept.Stop.{Stop}
use Rattle.actor_core.specs.Endings.{Ending, gone, refused, stopped, wrote, wrote_nothing}
use Rattle.actor_core.specs.Statements.{disarmed, does, greeted, greeted_work, work_of}
use Rattle.actor_core.specs.Stopping.{carried, is_due, one_nearer, stoppable}
use Rattle.actor_core.specs.Work.{Work, finishes}
use Rattle.actor_core.specs.Writers.{writes as writes_statement, writes_bytes}
use Rattle.headline_laws.proofs.Plays.Facts.{Anyhow, ComesTo, GoesSo}
use Rattle.headline_laws.proofs.Statements.Ends.{EndsAs}
use Rattle.headline_laws.proofs.Statements.Hosts.{comes_so}
use Rattle.headline_laws.proofs.Story.Attributed.{either_part, head_of, none_there, tail_of}

-- ---- each call of a statement

abbrev pub IsNoExit : Call → Type 0
IsNoExit (Exit writer) = ⊥
IsNoExit call = ⊤

-- it was no whole write that was answered
abbrev pub IsUnwritten : Ask → Reply → Type 0
IsUnwritten question r = (id at : ℕ) (block : List ℕ) (stamp : ℕ) → question.stop ≡ None → question.call ≡ Write id at block → r ≡ reply.Wrote stamp → ⊥

abbrev pub WasOver : Ending → Type 0
WasOver e = (e.outcome ≡ line.Stopped) ⊎ (e.outcome ≡ line.Gone)

-- no call takes a writer out, and none that a stopped statement makes is answered as a write
abbrev EachCall : Work → Type 0
EachCall ends = ⊤
EachCall (pauses work) = ⊤
EachCall (tells e work) = ⊤
EachCall (asks question k) = IsNoExit question.call × ((r : Reply) → (IsUnwritten question r ⊎ EndsAs (λ e. WasOver e → ⊥) (k r)) × EachCall (k r))
EachCall (shares programs k alone) = ((results : List _) → EachCall (k results)) × EachCall alone

each_call : (n : ℕ) (work : Work) (mine : List Event) (spent : List (List Event)) (e : Ending) → EachCall work → ComesTo n work mine spent e → (pre : List Event) (ev : Event) (post : List Event) → mine ≡ pre ++ ev ∷ post → ev.caller ≡ n
    → IsNoExit ev.ask.call × (WasOver e → IsUnwritten ev.ask ev.reply)
each_call n ends mine spent e each comes pre ev post is its = absurd comes
each_call n (pauses work) mine spent e each comes pre ev post is its = absurd comes
each_call n (tells end work) mine spent e each comes pre ev post is its = absurd (none_there n mine pre ev post is (ap (made_by n) comes.0) its)
each_call n (asks question k) mine spent e each m pre ev post is its =
    elim (either_part m.before (m.call ∷ m.after) pre ev post (sym m.all ∙ is)) as (λ _. IsNoExit ev.ask.call × (WasOver e → IsUnwritten ev.ask ev.reply)) [
      | inl (u, front, later) ↦ absurd (none_there n m.before pre ev u front m.none_before its)
      | inr (u, front, later) ↦ first_or_later u later (λ v more. each_call n (k m.call.reply) m.after spent e (each.1 m.call.reply).1 m.goes_on v ev post more its)
    ]
  where
    here : IsNoExit m.call.ask.call × (WasOver e → IsUnwritten m.call.ask m.call.reply)
    here = (
      subst (λ (q : Ask). IsNoExit q.call) (sym m.asked) each.0,
      λ over. elim (each.1 m.call.reply).0 as (λ _. IsUnwritten m.call.ask m.call.reply) [
        | inl un ↦ subst (λ (q : Ask). IsUnwritten q m.call.reply) (sym m.asked) un
        | inr never ↦ absurd (comes_so n (λ x. WasOver x → ⊥) (k m.call.reply) m.after spent e never m.goes_on over)
      ],
    )

    first_or_later : (u : List Event) → m.call ∷ m.after ≡ u ++ ev ∷ post → ((v : List Event) → m.after ≡ v ++ ev ∷ post → IsNoExit ev.ask.call × (WasOver e → IsUnwritten ev.ask ev.reply)) → IsNoExit ev.ask.call × (WasOver e → IsUnwritten ev.ask ev.reply)
    first_or_later [] later rest = subst (λ (x : Event). IsNoExit x.ask.call × (WasOver e → IsUnwritten x.ask x.reply)) (head_of m.call ev m.after post later) here
    first_or_later (y ∷ u) later rest = rest u (tail_of m.call y m.after (u ++ ev ∷ post) later)
each_call n (shares programs k alone) mine spent e each (inl w) pre ev post is its =
    elim (either_part w.before (w.during ++ w.after) pre ev post (sym w.all ∙ is)) as (λ _. IsNoExit ev.ask.call × (WasOver e → IsUnwritten ev.ask ev.reply)) [
      | inl (u, front, later) ↦ absurd (none_there n w.before pre ev u front w.none_before its)
      | inr (u, front, later) ↦ elim (either_part w.during w.after u ev post later) as (λ _. IsNoExit ev.ask.call × (WasOver e → IsUnwritten ev.ask ev.reply)) [
        | inl (v, middle, more) ↦ absurd (none_there n w.during u ev v middle w.none_during its)
        | inr (v, middle, more) ↦ each_call n (k w.results) w.after w.later e (each.0 w.results) w.goes_on v ev post more its
      ]
    ]
each_call n (shares programs k alone) mine spent e each (inr comes) pre ev post is its = each_call n alone mine spent e each.1 comes pre ev post is its

-- ---- those of a write

module _ (kept : Kept) (at : ℕ) (bytes : List ℕ) where
  abbrev Next : Option Stop → WriterOut → Work
  Next left out = finishes (wrote kept at (length bytes) out)

  abbrev Halted : Work
  Halted = finishes (stopped kept)

  wrote_each : (handle : WriterHandle) (r : Reply) (b : Bool) (armed : Option Stop) → EachCall (if b then Halted else carried (if_wrote handle r) armed Next Halted)
  wrote_each handle r true armed = tt
  wrote_each handle (reply.Wrote stamp) false armed = tt
  wrote_each handle r false armed = tt

  never_over : (stamp : ℕ) → (line.Wrote at (length bytes) (Some stamp) ≡ line.Stopped) ⊎ (line.Wrote at (length bytes) (Some stamp) ≡ line.Gone) → ⊥
  never_over stamp (inl is) = absurd (cc)
  never_over stamp (inr is) = absurd (cc)

  wrote_end : (w : ℕ) (stop : Option ℕ) (handle : WriterHandle) (armed : Option Stop) (r : Reply) → IsUnwritten (record { call = Write w at bytes; stop = stop }) r ⊎ EndsAs (λ e. WasOver e → ⊥) (carried (if_wrote handle r) armed Next Halted)
  wrote_end w stop handle armed (reply.Wrote stamp) = inr (never_over stamp)
  wrote_end w stop handle armed r = inl (λ id at2 block stamp whole call told. absurd (cc))

  writes_reply : (handle : WriterHandle) (armed : Option Stop) (r : Reply) → IsUnwritten (stoppable armed (Write handle.writer at bytes)) r ⊎ EndsAs (λ e. WasOver e → ⊥) (if is_due armed then Halted else carried (if_wrote handle r) (one_nearer armed) Next Halted)
  writes_reply handle None r = wrote_end handle.writer None handle None r
  writes_reply handle (Some stop) r =
      elim (nat_eq stop.call 1) as (λ b. IsUnwritten (record { call = Write handle.writer at bytes; stop = if b then Some stop.bytes else None }) r ⊎ EndsAs (λ e. WasOver e → ⊥) (if b then Halted else carried (if_wrote handle r) (one_nearer (Some stop)) Next Halted)) [
        | true ↦ inl (λ id at2 block stamp whole call told. let clash : Some stop.bytes ≡ None = whole in absurd (cc))
        | false ↦ wrote_end handle.writer None handle (one_nearer (Some stop)) r
      ]

  writes_each : (handle : WriterHandle) (armed : Option Stop) → EachCall (carried (writes handle at bytes) armed Next Halted)
  writes_each handle armed = (tt, λ r. (writes_reply handle armed r, wrote_each handle r (is_due armed) (one_nearer armed)))

  flushed_each : (handle : WriterHandle) (r : Reply) (b : Bool) (armed : Option Stop) → EachCall (if b then Halted else carried (if_flushed handle (writes (flushed_of handle) at bytes) r) armed Next Halted)
  flushed_each handle r true armed = tt
  flushed_each handle (reply.Flushed landed) false armed = writes_each (flushed_of handle) armed
  flushed_each handle r false armed = tt

  program_each : (handle : WriterHandle) (armed : Option Stop) → EachCall (carried (write_program handle at bytes) armed Next Halted)
  program_each handle armed = elim (nat_le handle.cap handle.pending) as (λ b. EachCall (carried (if b then flush_then handle (writes (flushed_of handle) at bytes) else writes handle at bytes) armed Next Halted)) [
    | true ↦ (tt, λ r. (inl (λ id at2 block stamp whole call told. absurd (cc)), flushed_each handle r (is_due armed) (one_nearer armed)))
    | false ↦ writes_each handle armed
  ]

  statement_each : (armed : Option Stop) (writer : Option WriterHandle) → EachCall (writes_statement kept armed at bytes writer)
  statement_each armed None = tt
  statement_each armed (Some handle) = elim handle.closing as (λ b. EachCall (if b then finishes (refused kept NotOpen) else writes_bytes kept armed at bytes handle)) [
    | true ↦ tt
    | false ↦ elim (nat_eq (length bytes) 0) as (λ b. EachCall (if b then finishes (wrote_nothing kept at) else carried (write_program handle at bytes) armed Next Halted)) [
      | true ↦ tt
      | false ↦ program_each handle armed
    ]
  ]

greeted_each : (kept : Kept) (at : ℕ) (content : Data) → EachCall (greeted_work kept (say.Write at content))
greeted_each kept at content = elim kept.gone as (λ b. EachCall (if b then finishes (gone kept) else does (disarmed kept) kept.armed (say.Write at content))) [
  | true ↦ tt
  | false ↦ statement_each (disarmed kept) at (bytes_of content) kept.armed kept.writer
]

write_each : (kept : Kept) (at : ℕ) (content : Data) → EachCall (work_of kept (say.Write at content))
write_each kept at content = elim kept.greeted as (λ b. EachCall (if b then greeted_work kept (say.Write at content) else asks (unbroken Greet) (λ r. greeted_work (greeted kept) (say.Write at content)))) [
  | true ↦ greeted_each kept at content
  | false ↦ (tt, λ r. (inl (λ id at2 block stamp whole call told. absurd (cc)), greeted_each (greeted kept) at content))
]

-- the law of this file
pub write_calls : (n : ℕ) (kept : Kept) (at : ℕ) (content : Data) (s : Statement) → s ≡ say.Write at content → (mine : List Event) (spent : List (List Event)) (e : Ending) → ComesTo n (work_of kept s) mine spent e → (pre : List Event) (ev : Event) (post : List Event) → mine ≡ pre ++ ev ∷ post → ev.caller ≡ n
    → IsNoExit ev.ask.call × (WasOver e → IsUnwritten ev.ask ev.reply)
write_calls n kept at content s says mine spent e comes pre ev post is its =
    each_call n (work_of kept (say.Write at content)) mine spent e (write_each kept at content) (subst (λ z. ComesTo n (work_of kept z) mine spent e) says comes) pre ev post is its

-- ---- an actor that was stopped before

abbrev pub IsGreet : Call → Type 0
IsGreet Greet = ⊤
IsGreet call = ⊥

-- it only greets
pub gone_greets : (kept : Kept) (s : Statement) → kept.gone ≡ true → GoesSo IsGreet Anyhow (work_of kept s)
gone_greets kept s is = elim kept.greeted as (λ b. GoesSo IsGreet Anyhow (if b then greeted_work kept s else asks (unbroken Greet) (λ r. greeted_work (greeted kept) s))) [
  | true ↦ subst (λ b. GoesSo IsGreet Anyhow (if b then finishes (gone kept) else does (disarmed kept) kept.armed s)) (sym is) tt
  | false ↦ (tt, λ r. subst (λ b. GoesSo IsGreet Anyhow (if b then finishes (gone (greeted kept)) else does (disarmed (greeted kept)) kept.armed s)) (sym is) tt)
]
