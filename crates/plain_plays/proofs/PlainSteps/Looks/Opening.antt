-- The statement that opens a reader is a step of a plain machine, where nobody else calls and the actor reads the shares by itself.
use Rattle.std.proofs.Common.{◌≡◌, ◌≤◌, ℕ, List, [], Option, Some, None, Result, Ok, Err, refl, sym, ap, ◌∙◌, inl, inr, subst}
use Rattle.std.specs.Prelude.{MatchOption}
use Rattle.script_lang.specs.declared.line.Outcome.{Outcome}
use Rattle.script_lang.specs.declared.line.Outcome.TheVariants.{Reader}
use Rattle.script_lang.specs.declared.line.Why.TheVariants.{AlreadyOpen}
use Rattle.script_lang.specs.declared.script.ActorDecl.{ActorDecl}
use Rattle.script_lang.specs.declared.script.Statement.TheVariants.{Ropen}
use Rattle.mount_model.specs.declared.reply.Refusal.TheVariants as refusal
use Rattle.mount_model.specs.History.{AreBy, Event}
use Rattle.mount_model.specs.Paths.{Name}
use Rattle.mount_sound.specs.Owed.{IsLawful}
use Rattle.mount_model.specs.declared.stuck.Stuck.{Stuck}
use Rattle.mount_model.specs.declared.stuck.Stuck.TheVariants as stuck
use Rattle.mount_model.specs.FlowListed.{file_in}
use Rattle.mount_model.specs.FlowReplies.{given, on_ok, room_in, trouble}
use Rattle.mount_model.specs.Running.{Runs}
use Rattle.mount_model.specs.Program.{followed_by}
use Rattle.reader_laws.specs.Moments.{Moment, moment_after}
use Rattle.reader_laws.proofs.Gathered.Facts.{sound_after}
use Rattle.index_reader.specs.declared.opened.OpenReader.{OpenReader}
use Rattle.index_reader.specs.Opening.{open_at_program}
use Rattle.gather_flow.specs.OneIndex.{reader_of}
use Rattle.outcomes.specs.Counts.{cut_of}
use Rattle.actor_core.specs.declared.kept.Kept.{Kept}
use Rattle.actor_core.specs.Opened.{reader_opened}
use Rattle.writer_flow.specs.declared.handle.WriterHandle.{WriterHandle}
use Rattle.plain_machine.specs.Machine.{Plain, PlainActor, PlainReader}
use Rattle.plain_machine.specs.Cases.{IsRefused, OnRoom}
use Rattle.plain_machine.specs.Landed.{file_of}
use Rattle.plain_machine.specs.Readers.{Sees, with_reader}
use Rattle.plain_plays.specs.Asking.{read_in_program, reads_and_opens}
use Rattle.plain_plays.specs.Mirrors.{Mirrors}
use Rattle.plain_plays.specs.Readers.{HasReader, MirrorsReader, TakesOnReader}
use Rattle.plain_plays.specs.Served.{GoesWell}
use Rattle.plain_plays.specs.Stepping.{HasActor}
use Rattle.plain_plays.proofs.PlainSteps.Reaching.{ended, over_alone}
use Rattle.plain_plays.proofs.PlainSteps.ByName.Found.{finds, no_room, on_room}
use Rattle.plain_plays.proofs.PlainSteps.ByName.Looking.{alike_both}
use Rattle.plain_plays.proofs.PlainSteps.Looks.Gathered.{HasGathered, gathered}
use Rattle.plain_plays.proofs.PlainSteps.Looks.Opened.{line_is, mirrored}
use Rattle.plain_plays.proofs.PlainSteps.Looks.Readers.{takes_nothing, takes_reader}

module _ (m : Moment) (me : ℕ) (p : Plain) (handle : Option WriterHandle) (actor : PlainActor) (declared : ActorDecl) (name : Name) (workers : ℕ) (kept : Kept) (o : Mirrors m p) (has : HasActor m me p handle actor) (none : kept.reader ≡ None) (is : actor.reader ≡ None) where
  abbrev Opens : Outcome → Plain → Type 0
  Opens outcome new = MatchOption actor.reader (OnRoom p name outcome new (λ number room. Sees me actor p number room outcome new)) (λ file. IsRefused outcome AlreadyOpen p new)

  opens_so : (outcome : Outcome) (new : Plain) → OnRoom p name outcome new (λ number room. Sees me actor p number room outcome new) → Opens outcome new
  opens_so outcome new does = subst (λ x. MatchOption x (OnRoom p name outcome new (λ number room. Sees me actor p number room outcome new)) (λ file. IsRefused outcome AlreadyOpen p new)) (sym is) does

  abbrev Step : Result OpenReader Stuck → Moment → Type 0
  Step r last = TakesOnReader m me declared actor p (Ropen name workers) (reader_opened kept r).outcome last handle (reader_opened kept r).kept.reader

  -- An opening of a reader ends as the machine's does.
  pub opening_takes : (events : List Event) (out : Result OpenReader Stuck) → 1 ≤ workers → IsLawful m.state events → GoesWell me events → AreBy me events → Runs me (read_in_program name workers) events out
      → TakesOnReader m me declared actor p (Ropen name workers) (reader_opened kept out).outcome (moment_after m events) handle (reader_opened kept out).kept.reader
  opening_takes events out some lawful well by runs = elim (finds m me p o name (λ reply. followed_by (given (room_in reply) (trouble (file_in [] []) reply) open_at_program) (on_ok (reads_and_opens workers))) events out lawful well by runs) as (λ _. Step out (moment_after m events)) [
    | inr (g, alike, missing) ↦
        let over : Err (stuck.Refused refusal.NoRoom) ≡ out = ended me (Err (stuck.Refused refusal.NoRoom)) g.rest out g.runs in
        let last : g.mid ≡ moment_after m events = ap (moment_after g.mid) (sym (over_alone me (Err (stuck.Refused refusal.NoRoom)) g.rest out g.by g.runs)) ∙ g.ends in
        let bad : Result OpenReader Stuck = Err (stuck.Refused refusal.NoRoom) in
        subst (λ r. Step r (moment_after m events)) over (subst (Step bad) last
        (takes_nothing m g.mid alike g.sound me p handle actor declared o has (Ropen name workers) (reader_opened kept bad).outcome kept.reader (subst (HasReader g.mid kept.reader) (sym is) (subst (λ r. HasReader g.mid r None) (sym none) tt))
        (opens_so (reader_opened kept bad).outcome p (no_room p name (reader_opened kept bad).outcome p (λ number room. Sees me actor p number room (reader_opened kept bad).outcome p) missing (refl, refl)))))
    | inl (n, g, f) ↦
        let h : HasGathered reader_of workers g.mid n g.rest out = gathered reader_of workers some n me g.mid g.rest out g.sound f.had g.lawful g.well g.by g.runs in
        let reader : OpenReader = reader_of h.listing h.shares h.truncs in
        let file : PlainReader = file_of n f.room in
        let last : Moment = moment_after g.mid g.rest in
        let it : MirrorsReader last reader file = mirrored g.mid n g.rest reader h.opened h.room p f.mirrors f.room f.there in
        let line = line_is g.mid n g.rest reader h.opened h.room p f.mirrors f.room f.there in
        let good : Result OpenReader Stuck = Ok reader in
        subst (λ r. Step r (moment_after m events)) (sym h.is) (subst (Step good) g.ends
        (takes_reader m last (alike_both m g.mid last f.alike h.last) (sound_after g.mid g.rest g.lawful g.sound) me p handle actor declared o has (Ropen name workers) (Reader reader.size (cut_of reader.covers) reader.truncs) (Some reader) (Some file) it
        (opens_so (Reader reader.size (cut_of reader.covers) reader.truncs) (with_reader me actor (Some file) p) (on_room p name (Reader reader.size (cut_of reader.covers) reader.truncs) (with_reader me actor (Some file) p) (λ number room. Sees me actor p number room (Reader reader.size (cut_of reader.covers) reader.truncs) (with_reader me actor (Some file) p)) n f.room f.is f.there (line, refl)))))
  ]
