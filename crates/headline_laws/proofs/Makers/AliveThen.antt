-- A writer whose entry stood in the part of a line, and whose entry a line made: it is alive by then.
use Rattle.std.proofs.Common.{◌≡◌, ◌≤◌, ◌+◌, inl, inr, ℕ, Bool, true, false, nat_eq, List, [], ◌∷◌, ◌++◌, length, Option, Some, refl, sym, ap, ◌∙◌, subst, arith, append_assoc, length-append}
use Rattle.plain_file.proofs.Facts.{Among}
use Rattle.container_layout.specs.declared.items.Item.TheVariants.{OpenHost}
use Rattle.store_api.specs.Acts.{Stored}
use Rattle.mount_model.specs.History.{Event}
use Rattle.mount_model.specs.Mounting.{IsMounted}
use Rattle.mount_model.specs.State.{State}
use Rattle.mount_sound.specs.Owed.{IsLawful}
use Rattle.mount_sound.specs.Sound.{IsSoundTree}
use Rattle.reader_laws.specs.Moments.{Dropping, HadItem, IsSoundAt, Moment, moment_after, next_moment}
use Rattle.reader_laws.proofs.Gathered.Facts.{is_among, legal_first, sound_after}
use Rattle.script_lang.specs.Ranges.{FitsScript}
use Rattle.script_lang.specs.declared.line.Outcome.TheVariants as line
use Rattle.run_core.specs.Play.{IsRight}
use Rattle.headline.specs.Run.{IsLine, Run, Says, Told, own, surely_before, told}
use Rattle.headline.specs.Names.{Story}
use Rattle.headline.specs.Changes.{IsAlive, Writing, writer_at}
use Rattle.headline_laws.proofs.Contents.AtLine.{AtLine, LiesBehind, lies_behind}
use Rattle.headline_laws.proofs.Contents.Counted.{homes}
use Rattle.headline_laws.proofs.Contents.OpenedWriter.{First, Home, sound_first}
use Rattle.headline_laws.proofs.Contents.OpenUntil.{drawn_rises}
use Rattle.headline_laws.proofs.Landed.Gone.{HasGone}
use Rattle.headline_laws.proofs.Makers.KnownEntries.{EnteredBy, entered_by_line}
use Rattle.headline_laws.proofs.Makers.NewEntries.{NewEntry, stood_or_new}
use Rattle.headline_laws.proofs.Makers.OneEntry.{one_entering}
use Rattle.headline_laws.proofs.OrderlyLines.Answering.{among_filter}
use Rattle.headline_laws.proofs.Statements.Known.{HasEntered, entered_more}
use Rattle.headline_laws.proofs.Story.Attributed.{ends_before}
use Rattle.headline_laws.proofs.Story.Lines.{AnyLine, among_there}
use Rattle.headline_laws.proofs.Trees.Away.{IsAway}
use Rattle.headline_laws.proofs.Trees.Departed.{gone_here, its}
use Rattle.headline_laws.proofs.Trees.OpenListed.{entry_drawn}
use Rattle.headline_laws.proofs.Trees.Recovered.{StoodIn, away_not, away_rises}

pub not_before : (b : Bool) → {c : Bool} → c ≡ b → (c ≡ true → ⊥) → c ≡ false
not_before true is never = absurd (never is)
not_before false is never = is

module _ (run : Run) (times : Option (List ℕ)) (mount : Stored) (start end : State) (fits : FitsScript run.script) (mounted : IsMounted 0 times mount start) (tells : mount.tree ≡ Some run.before) (sound : IsSoundTree run.before)
    (right : IsRight run.script start run.lines end) (left : end.store.tree ≡ Some run.after) where
  abbrev Begins : Moment
  Begins = First run times mount start end fits mounted tells sound right left

  abbrev sound_begins : IsSoundAt Begins
  sound_begins = sound_first run times mount start end fits mounted tells sound right left

  abbrev HomeOf : Told → ℕ
  HomeOf t = Home run times mount start end fits mounted tells sound right left t

  abbrev Homes : Story
  Homes = homes run times mount start end fits mounted tells sound right left

  abbrev Stood_so : (t : Told) (host id : ℕ) (r : Option Told) (w : Writing) → AnyLine run Begins end fits sound_begins right r w t → Type 0
  Stood_so t host id r w l = StoodIn run times mount start end fits mounted tells sound right left t host id r w l

  lawful_to : (x xs : List Event) → right.history ≡ x ++ xs → IsLawful Begins.state x
  lawful_to x xs is = legal_first Begins x xs (subst (IsLawful Begins.state) is right.leads.lawful)

  sound_to : (x xs : List Event) → right.history ≡ x ++ xs → IsSoundAt (moment_after Begins x)
  sound_to x xs is = sound_after Begins x (lawful_to x xs is) sound_begins

  -- ---- a writer that has entered

  module _ (n : ℕ) (d : Dropping) (entered : HasEntered n right.history d) (id number : ℕ) (id_is : d.writer ≡ id) where
    -- an entry of its number that a call made is its own
    pub its_entering : (es rest : List Event) → right.history ≡ es ++ rest → (host : ℕ) → NewEntry Begins es number host id → (d.room ≡ number) × (d.host ≡ host)
    its_entering es rest all host new =
        one_entering Begins sound_begins right.history right.leads.lawful n d entered new.pre new.event (new.post ++ rest) (all ∙ ap (λ z. z ++ rest) new.is ∙ append_assoc new.pre (new.event ∷ new.post) rest) number host
        (record { most = new.makes.most; asked = new.makes.asked; its_id = new.makes.its_id ∙ sym id_is }) (subst (λ w. HadItem (next_moment (moment_after Begins new.pre) new.event) number (OpenHost host w)) (sym id_is) new.had)

  -- ---- a line in whose part the entry stood

  module _ (free : run.in_order ≡ false) (t : Told) (id : ℕ) (is_line : IsLine run t) (es rest : List Event) (all : right.history ≡ es ++ rest) (host : ℕ) (new : NewEntry Begins es (HomeOf t) host id)
      (stood_in : (r : Option Told) (w : Writing) (l : AnyLine run Begins end fits sound_begins right r w t) → (other : ℕ) × Stood_so t other id r w l) where
    whole : right.history ≡ new.pre ++ new.event ∷ (new.post ++ rest)
    whole = all ∙ ap (λ z. z ++ rest) new.is ∙ append_assoc new.pre (new.event ∷ new.post) rest

    by : EnteredBy run Begins end fits sound_begins right es rest all (HomeOf t) host id new
    by = entered_by_line run Begins end fits sound_begins right es rest all (HomeOf t) host id new

    -- none of its number stood before it was made
    not_sooner : (x xs : List Event) → right.history ≡ x ++ xs → (other : ℕ) → HadItem (moment_after Begins x) (HomeOf t) (OpenHost other id) → length x ≤ length new.pre → ⊥
    not_sooner x xs is other had short =
        let drawn = entry_drawn (moment_after Begins x) (sound_to x xs is) (HomeOf t) other id had in
        let rise = drawn_rises run times mount start end fits mounted tells sound right left x new.pre xs (new.event ∷ (new.post ++ rest)) is whole short in
        let next = new.makes.its_id in
        omega (arith, drawn, rise, next)

    began : surely_before run t by.its.t ≡ true → ⊥
    began sooner =
        let l = ends_before run Begins end fits sound_begins right new.pre new.event by.its t is_line free sooner in
        let k = stood_in l.reader l.writing l.line in
        let inside = k.1.within in
        let ends = l.ends in
        not_sooner k.1.es k.1.rest k.1.all k.0 k.1.entry (omega (arith, inside, ends))

    -- no line before closed it
    not_closed : (s : Told) (count : ℕ) → IsLine run s → surely_before run s t ≡ true → s.outcome ≡ line.Closed count → writer_at run s ≡ Some id → ⊥
    not_closed s count of_run sooner said has =
        let says_so : Says run s (line.Closed count) = record { is_line = of_run; says = said } in
        let i : AtLine run times mount start end fits mounted tells sound right left s id = its run times mount start end fits mounted tells sound right left s count id says_so has in
        let g : HasGone (moment_after Begins (i.p.earlier ++ i.p.mine)) i.d = gone_here run times mount start end fits mounted tells sound right left s count id says_so has in
        let b : LiesBehind run times mount start end fits mounted tells sound right left s id i t = lies_behind run times mount start end fits mounted tells sound right left s id i t is_line free sooner in
        let stood_then = stood_in b.reader b.writing b.its_line in
        let other = stood_then.0 in
        let k = stood_then.1 in
        let opener : Among i.o (own s.actor (told run)) = subst (Among i.o) (sym i.all_is) (among_there i.o i.pre (i.between ++ s ∷ i.rest)) in
        let opened_so : Says run i.o (line.Opened id) = record { is_line = is_among (told run) i.o (among_filter (λ (x : Told). nat_eq x.actor s.actor) (told run) i.o opener); says = i.opens } in
        let id_is : i.d.writer ≡ id = ap (λ (d : Dropping). d.writer) (i.home_is i.o opened_so) in
        let entered : HasEntered i.c.parts.number right.history i.d = subst (λ es. HasEntered i.c.parts.number es i.d) (sym i.p.split) (entered_more i.c.parts.number i.p.earlier (i.p.mine ++ i.p.later) i.d i.entered) in
        let one = one_of i.c.parts.number i.d entered id_is other k.es k.rest k.all k.entry in
        let far = b.behind in
        let late = k.behind in
        let long = length-append i.p.earlier i.p.mine in
        let away : IsAway (moment_after Begins k.es) i.d = away_rises run times mount start end fits mounted tells sound right left (i.p.earlier ++ i.p.mine) i.p.later k.es k.rest (i.p.split ∙ sym (append_assoc i.p.earlier i.p.mine i.p.later)) k.all (omega (arith, far, late, long)) i.d g.out.named g.away in
        away_not run times mount start end fits mounted tells sound right left (moment_after Begins k.es) i.d away
        (subst (λ r. HadItem (moment_after Begins k.es) r (OpenHost i.d.host i.d.writer)) (sym one.0) (subst (λ h. HadItem (moment_after Begins k.es) (HomeOf t) (OpenHost h i.d.writer)) (sym one.1) (subst (λ w. HadItem (moment_after Begins k.es) (HomeOf t) (OpenHost other w)) (sym id_is) k.entry)))
      where
        one_of : (n : ℕ) (d : Dropping) → HasEntered n right.history d → d.writer ≡ id → (other : ℕ) (x xs : List Event) (is : right.history ≡ x ++ xs) → HadItem (moment_after Begins x) (HomeOf t) (OpenHost other id) → (d.room ≡ HomeOf t) × (d.host ≡ other)
        one_of n d entered id_is other x xs is had = elim (stood_or_new Begins x sound_begins (lawful_to x xs is) (HomeOf t) other id had) as (λ _. (d.room ≡ HomeOf t) × (d.host ≡ other)) [
          | inl was ↦ absurd (not_sooner [] right.history refl other was (omega arith))
          | inr made ↦ its_entering n d entered id (HomeOf t) id_is x xs is other made
        ]

    -- the law of this file
    pub is_alive : IsAlive run Homes t host id
    is_alive = record { o = by.its.t; begun = not_before (surely_before run t by.its.t) refl began; opens = by.opens; unclosed = not_closed }
