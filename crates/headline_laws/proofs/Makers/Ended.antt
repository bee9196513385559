-- Which lines opened the writers that a recovery took out, or that it tells as alive.
use Rattle.std.proofs.Common.{◌≡◌, ◌+◌, inl, inr, ℕ, Bool, true, false, List, [], ◌∷◌, ◌++◌, Option, Some, refl, sym, ap, ◌∙◌, subst, arith, append_assoc, length-append}
use Rattle.std.proofs.lemmas.List.Elements.{All-from_recursion}
use Rattle.plain_file.proofs.Facts.{Among}
use Rattle.plfs_types.specs.Places.{IsAmong}
use Rattle.plfs_types.specs.declared.entries.WriterCount.{WriterCount}
use Rattle.container_layout.specs.declared.items.Item.TheVariants.{OpenHost}
use Rattle.store_api.specs.Acts.{Stored}
use Rattle.mount_model.specs.History.{Event}
use Rattle.mount_model.specs.Mounting.{IsMounted}
use Rattle.mount_model.specs.State.{State}
use Rattle.mount_sound.specs.Owed.{IsLawful}
use Rattle.mount_sound.specs.Sound.{IsSoundTree}
use Rattle.reader_laws.specs.Moments.{HadItem, IsSoundAt, Moment, moment_after}
use Rattle.reader_laws.proofs.Gathered.Facts.{legal_first, legal_rest, sound_after}
use Rattle.script_lang.specs.Ranges.{FitsScript}
use Rattle.script_lang.specs.declared.line.Outcome.TheVariants as line
use Rattle.run_core.specs.Play.{IsRight}
use Rattle.headline.specs.Run.{Run, Says, Told, surely_before}
use Rattle.headline.specs.Names.{Story}
use Rattle.headline.specs.Files.{reader_at}
use Rattle.headline.specs.Changes.{Buries, IsAlive, MayBeDead, Writing, writing_at}
use Rattle.headline.specs.Recovered.{HasRecovered}
use Rattle.headline.specs.Ended.{HasEnded}
use Rattle.headline_laws.proofs.Contents.Counted.{homes}
use Rattle.headline_laws.proofs.Contents.OpenUntil.{drawn_rises}
use Rattle.headline_laws.proofs.Contents.OpenedWriter.{First, Home, Whole, its_dropping, sound_first}
use Rattle.headline_laws.proofs.Landed.Beginning.{begun_line}
use Rattle.headline_laws.proofs.Makers.AliveThen.{is_alive, its_entering, not_before}
use Rattle.headline_laws.proofs.Makers.NewEntries.{stood_or_new}
use Rattle.headline_laws.proofs.Statements.StillOpen.{still_or_dead}
use Rattle.headline_laws.proofs.Story.Entered.{later_entered}
use Rattle.headline_laws.proofs.Story.Lines.{AnyLine, TwoHere, line_here, two_here}
use Rattle.headline_laws.proofs.Story.Ordered.{not_behind}
use Rattle.headline_laws.proofs.Trees.OpenListed.{entry_drawn}
use Rattle.headline_laws.proofs.Trees.Recovered.{LivedIn, StoodIn, TakenSo, alive_lived, each_among, never_live, recoveries_told, taken_each, taken_stood}
use Rattle.headline_laws.proofs.Trees.WriterStands.{LineStands, line_stands}

module _ (run : Run) (times : Option (List ℕ)) (mount : Stored) (start end : State) (fits : FitsScript run.script) (mounted : IsMounted 0 times mount start) (tells : mount.tree ≡ Some run.before) (sound : IsSoundTree run.before)
    (right : IsRight run.script start run.lines end) (left : end.store.tree ≡ Some run.after) (free : run.in_order ≡ false) where
  abbrev Begins : Moment
  Begins = First run times mount start end fits mounted tells sound right left

  abbrev sound_begins : IsSoundAt Begins
  sound_begins = sound_first run times mount start end fits mounted tells sound right left

  abbrev HomeOf : Told → ℕ
  HomeOf t = Home run times mount start end fits mounted tells sound right left t

  abbrev Homes : Story
  Homes = homes run times mount start end fits mounted tells sound right left

  abbrev LineOf : Told → Option Told → Writing → Type 0
  LineOf t r w = AnyLine run Begins end fits sound_begins right r w t

  abbrev Stood_so : (t : Told) (host id : ℕ) (r : Option Told) (w : Writing) → LineOf t r w → Type 0
  Stood_so t host id r w l = StoodIn run times mount start end fits mounted tells sound right left t host id r w l

  lawful_to : (x xs : List Event) → right.history ≡ x ++ xs → IsLawful Begins.state x
  lawful_to x xs is = legal_first Begins x xs (subst (IsLawful Begins.state) is right.leads.lawful)

  sound_to : (x xs : List Event) → right.history ≡ x ++ xs → IsSoundAt (moment_after Begins x)
  sound_to x xs is = sound_after Begins x (lawful_to x xs is) sound_begins

  module _ (t : Told) (out : List WriterCount) (alive : List ℕ) (hold : Bool) (says : Says run t (line.Recovered out alive hold)) where
    abbrev here : LineOf t (reader_at run t) (writing_at run t)
    here = line_here run Begins end fits sound_begins right t says.is_line

    -- ---- of one that was taken out, the line that opened it

    module _ (b : WriterCount) (at : Among b out) (o : Told) (opened : Says run o (line.Opened b.writer)) where
      stood_by : (r : Option Told) (w : Writing) (l : LineOf t r w) → (host : ℕ) × Stood_so t host b.writer r w l
      stood_by = taken_stood run times mount start end fits mounted tells sound right left t out alive hold says b at

      abbrev stands : LineStands run Begins right.history o b.writer
      stands = line_stands run Begins end fits sound_begins right o b.writer opened

      -- its number was drawn as it entered, so no entry of it stood at first
      not_first : (host : ℕ) → HadItem Begins (HomeOf t) (OpenHost host b.writer) → ⊥
      not_first host had =
          let s = stands.stands in
          let e = s.entered in
          let drawn = entry_drawn Begins sound_begins (HomeOf t) host b.writer had in
          let new = later_entered Begins.state e.first e.event e.later stands.number s.dropping.room s.dropping.host e.most s.dropping.writer (subst (IsLawful Begins.state) e.all right.leads.lawful) e.own e.asked e.entered in
          let its = s.its_id in
          omega (arith, drawn, new, its)

      -- the entry that was listed is that by which it entered, in the container of its line
      home : HomeOf o ≡ HomeOf t
      home = by (stood_by (reader_at run t) (writing_at run t) here)
        where
          by : (host : ℕ) × Stood_so t host b.writer (reader_at run t) (writing_at run t) here → HomeOf o ≡ HomeOf t
          by (host, k) = elim (stood_or_new Begins k.es sound_begins (lawful_to k.es k.rest k.all) (HomeOf t) host b.writer k.entry) as (λ _. HomeOf o ≡ HomeOf t) [
            | inl was ↦ absurd (not_first host was)
            | inr new ↦
                let s = stands.stands in
                let its = its_dropping run times mount start end fits mounted tells sound right left o b.writer opened stands.number s.dropping s.entered s.its_id in
                let one = its_entering run times mount start end fits mounted tells sound right left stands.number s.dropping s.entered b.writer (HomeOf t) s.its_id k.es k.rest k.all host new in
                sym its.room ∙ one.0
          ]

      -- it was opened before the listing
      not_late : surely_before run t o ≡ true → ⊥
      not_late sooner =
          let two : TwoHere run Begins end fits sound_begins right t o = two_here run Begins end fits sound_begins right free t o says.is_line opened.is_line sooner in
          by two (stood_by (reader_at run t) (writing_at run t) two.one)
        where
          by : (two : TwoHere run Begins end fits sound_begins right t o) → (host : ℕ) × Stood_so t host b.writer (reader_at run t) (writing_at run t) two.one → ⊥
          by two (host, k) =
              let l = two.other in
              let p = l.line.part in
              let w = begun_line Begins sound_begins l.number right.history right.calls.blocks (Whole run times mount start end fits mounted tells sound right left) b.writer l.line.kept o p l.line.says opened.says in
              let e = w.entered in
              let upto : List Event = p.earlier ++ e.first in
              let behind : List Event = e.later ++ p.later in
              let split : right.history ≡ upto ++ (e.event ∷ behind) =
              p.split ∙ ap (λ z. p.earlier ++ (z ++ p.later)) e.all ∙ ap (λ z. p.earlier ++ z) (append_assoc e.first (e.event ∷ e.later) p.later) ∙ sym (append_assoc p.earlier e.first (e.event ∷ behind)) in
              let on : IsLawful (moment_after Begins upto).state (e.event ∷ behind) = legal_rest Begins upto (e.event ∷ behind) (subst (IsLawful Begins.state) split right.leads.lawful) in
              let long = length-append p.earlier e.first in
              let within = k.within in
              let far = two.behind in
              let drawn = entry_drawn (moment_after Begins k.es) (sound_to k.es k.rest k.all) (HomeOf t) host b.writer k.entry in
              let rise = drawn_rises run times mount start end fits mounted tells sound right left k.es upto k.rest (e.event ∷ behind) k.all split (omega (arith, within, far, long)) in
              let new = later_entered (moment_after Begins upto).state [] e.event behind l.number w.d.room w.d.host e.most w.d.writer on e.own e.asked e.entered in
              let its = w.its_id in
              omega (arith, drawn, rise, new, its)

      early : surely_before run t o ≡ false
      early = not_before (surely_before run t o) refl not_late

      died : MayBeDead run t o.actor b.writer
      died = elim (still_or_dead run times mount start end fits mounted tells sound right left free t o b.writer opened early) as (λ _. MayBeDead run t o.actor b.writer) [
        | inl still ↦ absurd ((taken_each run times mount start end fits mounted tells sound right left t out alive hold says free b at).takes.dead o opened.is_line opened.says home early still)
        | inr dead ↦ dead
      ]

    buries : (b : WriterCount) → Among b out → Buries run Homes t b
    buries b at = by (taken_each run times mount start end fits mounted tells sound right left t out alive hold says free b at)
      where
        by : TakenSo run times mount start end fits mounted tells sound right left t b → Buries run Homes t b
        by k = record {
          host = k.takes.host;
          gone = k.takes.gone k.takes.host k.is_item;
          dead = λ o is_line opens. (let opened : Says run o (line.Opened b.writer) = record { is_line = is_line; says = opens } in (home b at o opened, died b at o opened));
          counted = k.takes.counted;
          landed = k.takes.landed;
          known = k.takes.known;
        }

    -- ---- of one that is told as alive

    module _ (id : ℕ) (at : Among id alive) where
      abbrev Lived_so : (r : Option Told) (w : Writing) → LineOf t r w → Type 0
      Lived_so r w l = LivedIn run times mount start end fits mounted tells sound right left t id r w l

      lived : (r : Option Told) (w : Writing) (l : LineOf t r w) → Lived_so r w l
      lived = alive_lived run times mount start end fits mounted tells sound right left t out alive hold says id at

      lives : (host : ℕ) × IsAlive run Homes t host id
      lives = by (lived (reader_at run t) (writing_at run t) here)
        where
          by : Lived_so (reader_at run t) (writing_at run t) here → (host : ℕ) × IsAlive run Homes t host id
          by k =
              let s = k.stood_in in
              elim (stood_or_new Begins s.es sound_begins (lawful_to s.es s.rest s.all) (HomeOf t) k.host id s.entry) as (λ _. (host : ℕ) × IsAlive run Homes t host id) [
                | inl was ↦ absurd (never_live run times mount start end fits mounted tells sound right left (HomeOf t) k.host id was k.found k.more k.found_is k.live)
                | inr new ↦ (k.host, is_alive run times mount start end fits mounted tells sound right left free t id says.is_line s.es s.rest s.all k.host new (λ r w l. (let z = lived r w l in (z.host, z.stood_in))))
              ]

  recovered : HasRecovered run Homes
  recovered = recoveries_told run times mount start end fits mounted tells sound right left free

  -- one that can't be dead is named
  named : (t o : Told) (out : List WriterCount) (alive : List ℕ) (id : ℕ) → Says run t (line.Recovered out alive false) → Says run o (line.Opened id) → HomeOf o ≡ HomeOf t → surely_before run o t ≡ true → (MayBeDead run t o.actor id → ⊥) → IsAmong id alive
  named t o out alive id says opened home sooner lives = elim (still_or_dead run times mount start end fits mounted tells sound right left free t o id opened (not_behind run free t o t sooner)) as (λ _. IsAmong id alive) [
    | inl still ↦ recovered.named t o out alive false id says opened home sooner still
    | inr dead ↦ absurd (lives dead)
  ]

  -- the law of this file
  pub recoveries_end : HasEnded run Homes
  recoveries_end = record {
    taken_out = λ t out alive hold says. All-from_recursion (Buries run Homes t) out (each_among (Buries run Homes t) out (buries t out alive hold says));
    left = λ t out alive hold says. All-from_recursion (λ id. (host : ℕ) × IsAlive run Homes t host id) alive (each_among (λ id. (host : ℕ) × IsAlive run Homes t host id) alive (lives t out alive hold says));
    all_named = named;
  }
