-- A caller that opens a reader by itself has the plain machine's file, and leaves the machine as it is.
use Rattle.std.proofs.Common.{◌≡◌, ◌≤◌, ℕ, List, [], ◌++◌, Result, Ok, Err, refl, sym, ap, ◌∙◌, inl, inr, subst}
use Rattle.mount_model.specs.declared.reply.Refusal.TheVariants as refusal
use Rattle.mount_model.specs.declared.stuck.Stuck.{Stuck}
use Rattle.mount_model.specs.declared.stuck.Stuck.TheVariants as stuck
use Rattle.mount_model.specs.FlowListed.{file_in}
use Rattle.mount_model.specs.FlowReplies.{given, on_ok, room_in, trouble}
use Rattle.mount_model.specs.History.{AreBy, Event}
use Rattle.mount_model.specs.Paths.{Name}
use Rattle.mount_model.specs.Program.{followed_by}
use Rattle.mount_model.specs.Running.{Runs}
use Rattle.mount_model.proofs.Flows.Facts.{runs_in_two}
use Rattle.mount_sound.specs.Owed.{IsLawful}
use Rattle.reader_laws.specs.Moments.{Moment, moment_after}
use Rattle.reader_laws.proofs.Gathered.Facts.{legal_first, moment-append, sound_after}
use Rattle.index_reader.specs.declared.listing.Listing.{Listing}
use Rattle.index_reader.specs.declared.opened.OpenReader.{OpenReader}
use Rattle.index_reader.specs.Opening.{open_at_program}
use Rattle.gather_flow.specs.declared.all_read.AllRead.{AllRead}
use Rattle.gather_flow.specs.OneIndex.{reader_of}
use Rattle.opening_flow.specs.Opening.{opening_program, opens, reads_as}
use Rattle.plain_machine.specs.Machine.{Plain}
use Rattle.plain_machine.specs.Landed.{file_of}
use Rattle.plain_plays.specs.ByItself.{OpensByItself, missing, opened}
use Rattle.plain_plays.specs.Mirrors.{Mirrors}
use Rattle.plain_plays.specs.Readers.{MirrorsReader}
use Rattle.plain_plays.specs.Served.{GoesWell}
use Rattle.plain_plays.proofs.PlainSteps.Reaching.{ended, over_alone}
use Rattle.plain_plays.proofs.PlainSteps.Serving.{well_first}
use Rattle.plain_plays.proofs.PlainSteps.Steps.Alone.{by_first, by_rest}
use Rattle.plain_plays.proofs.PlainSteps.ByName.Found.{IsFound, finds}
use Rattle.plain_plays.proofs.PlainSteps.ByName.Looking.{machine_alike}
use Rattle.plain_plays.proofs.PlainSteps.Flats.Flattening.{all_of, threefold}
use Rattle.plain_plays.proofs.PlainSteps.Looks.Gathered.{HasGathered, gathered, gathers, reads_listed}
use Rattle.plain_plays.proofs.PlainSteps.Looks.Opened.{mirrored}

-- what follows the finding is a gathering, and then the reader
in_two : (workers room : ℕ) → followed_by (gathers all_of workers room) (on_ok reads_as) ≡ followed_by (open_at_program room) (on_ok (opens workers))
in_two workers room = threefold (open_at_program room) (on_ok (reads_listed all_of workers)) (on_ok reads_as) ∙ (λ i. followed_by (open_at_program room) (λ result. each result i))
  where
    each : (result : Result Listing Stuck) → followed_by (on_ok (reads_listed all_of workers) result) (on_ok reads_as) ≡ on_ok (opens workers) result
    each (Ok listing) = refl
    each (Err why) = refl

module _ (m : Moment) (me : ℕ) (p : Plain) (name : Name) (workers : ℕ) (some : 1 ≤ workers) (o : Mirrors m p) where
  abbrev Ends : Result OpenReader Stuck → Moment → Type 0
  Ends out last = OpensByItself p name last out × Mirrors last p

  -- ---- the file is there

  module _ (mid : Moment) (n : ℕ) (f : IsFound m mid p name n) where
    gathered_ends : (events : List Event) (out : Result OpenReader Stuck) → IsLawful mid.state events → GoesWell me events → AreBy me events → Runs me (followed_by (open_at_program n) (on_ok (opens workers))) events out → Ends out (moment_after mid events)
    gathered_ends events out lawful well by runs =
        let on : Runs me (followed_by (gathers all_of workers n) (on_ok reads_as)) events out = subst (λ q. Runs me q events out) (sym (in_two workers n)) runs in
        let two = runs_in_two me (gathers all_of workers n) (on_ok reads_as) events out on in
        let whole : IsLawful mid.state (two.first ++ two.rest) = subst (IsLawful mid.state) two.all lawful in
        let went : GoesWell me (two.first ++ two.rest) = subst (GoesWell me) two.all well in
        let mine : AreBy me (two.first ++ two.rest) = subst (AreBy me) two.all by in
        let l1 = legal_first mid two.first two.rest whole in
        let h : HasGathered all_of workers mid n two.first two.value = gathered all_of workers some n me mid two.first two.value f.mirrors.sound f.had l1 (well_first me two.first two.rest went) (by_first me two.first two.rest mine) two.runs in
        let all : AllRead = all_of h.listing h.shares h.truncs in
        let reader : OpenReader = reader_of h.listing h.shares h.truncs in
        let last : Moment = moment_after mid two.first in
        let over : Runs me (reads_as all) two.rest out = subst (λ v. Runs me (on_ok reads_as v) two.rest out) h.is two.then_runs in
        let good : Result OpenReader Stuck = Ok reader in
        let is : good ≡ out = ended me good two.rest out over in
        let nothing : two.rest ≡ [] = over_alone me good two.rest out (by_rest me two.first two.rest mine) over in
        let ends : last ≡ moment_after mid events = sym (ap (moment_after mid) two.all ∙ moment-append mid two.first two.rest ∙ ap (moment_after last) nothing) in
        let it : MirrorsReader last reader (file_of n f.room) = mirrored mid n two.first reader h.opened h.room p f.mirrors f.room f.there in
        subst (Ends out) ends (opened reader n f.room f.is f.there (sym is) it, machine_alike mid last h.last (sound_after mid two.first l1 f.mirrors.sound) p f.mirrors)

  -- ---- all of it

  pub opens_itself : (events : List Event) (out : Result OpenReader Stuck) → IsLawful m.state events → GoesWell me events → AreBy me events → Runs me (opening_program name workers) events out → OpensByItself p name (moment_after m events) out × Mirrors (moment_after m events) p
  opens_itself events out lawful well by runs = elim (finds m me p o name (λ reply. followed_by (given (room_in reply) (trouble (file_in [] []) reply) open_at_program) (on_ok (opens workers))) events out lawful well by runs) as (λ _. Ends out (moment_after m events)) [
    | inr (g, alike, none) ↦
        let bad : Result OpenReader Stuck = Err (stuck.Refused refusal.NoRoom) in
        let is : bad ≡ out = ended me bad g.rest out g.runs in
        let last : g.mid ≡ moment_after m events = ap (moment_after g.mid) (sym (over_alone me bad g.rest out g.by g.runs)) ∙ g.ends in
        subst (Ends out) last (missing none (sym is), machine_alike m g.mid alike g.sound p o)
    | inl (n, g, f) ↦ subst (Ends out) g.ends (gathered_ends g.mid n f g.rest out g.lawful g.well g.by g.runs)
  ]
