-- The statement that recovers a file is a step of a plain machine, where nobody else calls and no dead writer is live elsewhere.
use Rattle.std.proofs.Common.{◌≡◌, ℕ, true, false, List, Option, Some, None, Result, Err, refl, sym, ap, ◌∙◌, inl, inr, subst, if◌then◌else◌}
use Rattle.std.specs.Prelude.{slice_get}
use Rattle.std.specs.List.{AllByRecursion}
use Rattle.plain_file.proofs.Facts.{All-Among, Among}
use Rattle.script_lang.specs.declared.line.Outcome.{Outcome}
use Rattle.script_lang.specs.declared.script.ActorDecl.{ActorDecl}
use Rattle.script_lang.specs.declared.script.Statement.TheVariants.{Recover}
use Rattle.mount_model.specs.declared.reply.Refusal.TheVariants as refusal
use Rattle.mount_model.specs.declared.row.Row.{Row}
use Rattle.mount_model.specs.History.{AreBy, Event}
use Rattle.mount_model.specs.Paths.{Name}
use Rattle.mount_model.specs.Recovering.{alive_check, live_reason}
use Rattle.mount_model.specs.State.{Table}
use Rattle.mount_model.specs.Table.{is_live, row_of}
use Rattle.mount_sound.specs.Owed.{IsLawful, IsNotLive}
use Rattle.mount_model.specs.declared.stuck.Stuck.{Stuck}
use Rattle.mount_model.specs.declared.stuck.Stuck.TheVariants as stuck
use Rattle.mount_model.specs.FlowReplies.{failure, given, room_in}
use Rattle.mount_model.specs.Running.{Runs}
use Rattle.reader_laws.specs.Moments.{Moment, moment_after}
use Rattle.outcomes.specs.Outcomes.{recover_outcome}
use Rattle.torn_tail.specs.declared.recovering.Recovered.{Recovered}
use Rattle.torn_tail.specs.Recovering.{lists_open, recover_program}
use Rattle.trouble_laws.specs.Undamaged.{IsUndamaged}
use Rattle.trouble_laws.proofs.Facts.{recover_ends}
use Rattle.writer_flow.specs.declared.handle.WriterHandle.{WriterHandle}
use Rattle.plain_machine.specs.Machine.{Plain, PlainActor, PlainRoom, PlainWriter}
use Rattle.plain_machine.specs.ByName.{dead}
use Rattle.plain_machine.specs.Finding.{find}
use Rattle.plain_machine.specs.Statements.{Takes}
use Rattle.plain_plays.specs.Mirrors.{Mirrors}
use Rattle.plain_plays.specs.Served.{GoesWell}
use Rattle.plain_plays.specs.Stepping.{HasActor, TakesStep}
use Rattle.plain_plays.proofs.PlainSteps.Reaching.{ended, over_alone}
use Rattle.plain_plays.proofs.PlainSteps.ByName.Found.{finds, no_room, on_room, step_later}
use Rattle.plain_plays.proofs.PlainSteps.ByName.Looking.{changes_nothing, handle_alike}
use Rattle.plain_plays.proofs.PlainSteps.ByName.Mended.{held_takes}
use Rattle.plain_plays.proofs.PlainSteps.Burying.Statement.{RecoversRoom, opens_takes}

not_live : (o : Option Row) → ((row : Row) → o ≡ Some row → is_live row.stage ≡ false) → live_reason o ≡ None
not_live None dead_so = refl
not_live (Some row) dead_so = ap (λ b. if b then Some refusal.Alive else None) (dead_so row refl)

-- A recovery ends as the machine's does.
pub recover_takes : (m : Moment) (me : ℕ) (p : Plain) (handle : Option WriterHandle) (actor : PlainActor) (declared : ActorDecl) (name : Name) (events : List Event) (out : Result Recovered Stuck) → IsLawful m.state events → GoesWell me events → AreBy me events → Mirrors m p → HasActor m me p handle actor
    → ((number : ℕ) (room : PlainRoom) → find p name ≡ Some number → slice_get p.rooms number ≡ Some room → AllByRecursion (λ (w : PlainWriter). IsNotLive m.state w.id) (dead room)) → Runs me (recover_program name) events out → TakesStep m me declared actor p (Recover name) (recover_outcome out) (moment_after m events) handle
recover_takes m me p handle actor declared name events out lawful well by o has are_dead runs =
    let plain : IsUndamaged out = recover_ends me name m.state m.issued events out lawful o.sound runs in
    elim (finds m me p o name (λ reply. given (room_in reply) (failure reply) lists_open) events out lawful well by runs) as (λ _. TakesStep m me declared actor p (Recover name) (recover_outcome out) (moment_after m events) handle) [
      | inr (g, alike, none) ↦
          let missing : Err (stuck.Refused refusal.NoRoom) ≡ out = ended me (Err (stuck.Refused refusal.NoRoom)) g.rest out g.runs in
          let same : g.mid ≡ moment_after m events = ap (moment_after g.mid) (sym (over_alone me (Err (stuck.Refused refusal.NoRoom)) g.rest out g.by g.runs)) ∙ g.ends in
          subst (λ last. TakesStep m me declared actor p (Recover name) (recover_outcome out) last handle) same
          (changes_nothing m g.mid alike g.sound me declared p actor (Recover name) (recover_outcome out) handle o has (no_room p name (recover_outcome out) p (λ number room. RecoversRoom p number room (recover_outcome out) p) none (ap recover_outcome (sym missing), refl)))
      | inl (n, g, f) ↦
          let has_then : HasActor g.mid me p handle actor = record { there = has.there; its_own = handle_alike m g.mid f.alike g.sound p me handle actor.writer has.its_own } in
          let takes_on : (outcome : Outcome) (q : Plain) → RecoversRoom p n f.room outcome q → Takes me declared actor p (Recover name) outcome q = λ outcome q does. on_room p name outcome q (λ number room. RecoversRoom p number room outcome q) n f.room f.is f.there does in
          let Done : Type 0 = TakesStep g.mid me declared actor p (Recover name) (recover_outcome out) (moment_after g.mid g.rest) handle in
          let gone : (w : PlainWriter) → Among w (dead f.room) → alive_check g.mid.state w.id ≡ None = λ w a.
          ap (λ (t : Table). live_reason (row_of w.id t.writers)) f.alike.table ∙ not_live (row_of w.id m.state.table.writers) (All-Among (λ (x : PlainWriter). IsNotLive m.state x.id) (dead f.room) w (are_dead n f.room f.is f.there) a) in
          let ends : Done = elim f.room.is_held as (λ b. f.room.is_held ≡ b → Done) [
            | true ↦ λ held. held_takes g.mid me p handle actor declared name f.mirrors has_then n f.room f.there f.old f.at f.has f.had held takes_on g.rest out g.lawful g.well g.by g.runs
            | false ↦ λ free. opens_takes g.mid me p handle actor declared name f.mirrors has_then n f.room f.there f.old f.at f.has f.had free gone takes_on g.rest out plain g.lawful g.well g.by g.runs
          ] refl in
          subst (λ last. TakesStep m me declared actor p (Recover name) (recover_outcome out) last handle) g.ends
          (step_later m g.mid (moment_after g.mid g.rest) me declared actor p (Recover name) (recover_outcome out) handle f.alike g.sound ends)
    ]
