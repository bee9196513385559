-- What is refused as busy: the writer that it tells has the container open. Its entry is of the tree before, and no recovery took it out, or a line opened it
-- and none closed it.
use Rattle.std.proofs.Common.{◌≡◌, ◌+◌, inl, inr, ℕ, Bool, true, false, List, ◌∷◌, ◌++◌, length, Option, Some, sym, ap, ◌∙◌, subst, arith, append_assoc, length-append}
use Rattle.std.specs.List.{Any}
use Rattle.plfs_types.specs.declared.entries.WriterCount.{WriterCount}
use Rattle.container_layout.specs.declared.items.Item.TheVariants.{OpenHost}
use Rattle.store_api.specs.Acts.{Stored}
use Rattle.mount_model.specs.History.{Event}
use Rattle.mount_model.specs.Mounting.{IsMounted}
use Rattle.mount_model.specs.State.{State}
use Rattle.mount_sound.specs.Owed.{IsLawful}
use Rattle.mount_sound.specs.Sound.{IsSoundTree}
use Rattle.reader_laws.specs.Moments.{HadItem, IsSoundAt, Moment, moment_after}
use Rattle.reader_laws.proofs.Gathered.Facts.{any_found, legal_first}
use Rattle.script_lang.specs.Ranges.{FitsScript}
use Rattle.script_lang.specs.declared.line.Outcome.{Outcome}
use Rattle.script_lang.specs.declared.line.Outcome.TheVariants as line
use Rattle.script_lang.specs.declared.line.Why.TheVariants.{Busy}
use Rattle.script_lang.specs.declared.script.Statement.{Statement}
use Rattle.script_lang.specs.declared.script.Statement.TheVariants as say
use Rattle.run_core.specs.Play.{IsRight}
use Rattle.headline_laws.specs.OneFile.{OneFile}
use Rattle.headline_laws.specs.OneWriter.{OneWriter}
use Rattle.headline_laws.specs.Opening.{Stretch}
use Rattle.headline_laws.specs.Refusing.{FindsOpen}
use Rattle.headline_laws.specs.Showing.{Shows}
use Rattle.headline.specs.Run.{IsLine, Run, Says, Told, surely_before}
use Rattle.headline.specs.Names.{Story}
use Rattle.headline.specs.Files.{reader_at}
use Rattle.headline.specs.Changes.{Holds, Writing, writing_at}
use Rattle.headline.specs.Causes.{IsOpenIn, alive, stood}
use Rattle.headline.specs.Reasons.{IsReasonOf}
use Rattle.headline_laws.proofs.Contents.Counted.{homes}
use Rattle.headline_laws.proofs.Contents.OpenedWriter.{First, Home, sound_first}
use Rattle.headline_laws.proofs.Makers.KnownEntries.{entry_before}
use Rattle.headline_laws.proofs.Makers.NewEntries.{NewEntry, stood_or_new}
use Rattle.headline_laws.proofs.Makers.AliveThen.{is_alive}
use Rattle.headline_laws.proofs.Story.Lines.{AnyLine, TwoHere, line_here, room_of, two_here}
use Rattle.headline_laws.proofs.Trees.Recovered.{StoodIn, taken_gone}

-- ---- the line

module _ (m : Moment) (n : ℕ) (before front : List Event) where
  abbrev There : Stretch
  There = record { before = before; events = front }

  -- at a moment of the stretch the entry stood
  pub record EntryStood (host id room : ℕ) : Type 0 where
    pub till : List Event
    pub rest : List Event
    pub is : front ≡ till ++ rest
    pub entry : HadItem (moment_after m (before ++ till)) room (OpenHost host id)

  found_open : (name : List ℕ) (host id : ℕ) (f : FindsOpen m n There name host id) → EntryStood host id f.attempt.room
  found_open name host id f = record {
    till = f.attempt.earlier ++ (f.attempt.finding ∷ f.attempt.between);
    rest = f.attempt.holding ∷ f.attempt.later;
    is = f.made.split ∙ sym (append_assoc f.attempt.earlier (f.attempt.finding ∷ f.attempt.between) (f.attempt.holding ∷ f.attempt.later));
    entry = f.entry.stands;
  }

  as_told : (host id room : ℕ) (host2 id2 : ℕ) → line.Refused (Busy host2 id2) ≡ line.Refused (Busy host id) → EntryStood host2 id2 room → EntryStood host id room
  as_told host id room host2 id2 is stands =
      let hosts : host2 ≡ host = cc in
      let ids : id2 ≡ id = cc in
      subst (λ k. EntryStood host k room) ids (subst (λ k. EntryStood k id2 room) hosts stands)

  module _ (nothing : ℕ) (old new : Option OneFile) (w : Option OneWriter) (host id : ℕ) where
    abbrev Stands : (s : Statement) (o : Outcome) → Shows m n There old s o new → Type 0
    Stands s o shows = EntryStood host id (room_of m n There nothing old new w s o shows)

    trunc_busy : (name : List ℕ) (size : ℕ) (o : Outcome) → o ≡ line.Refused (Busy host id) → (shows : Shows m n There old (say.Trunc name size) o new) → Stands (say.Trunc name size) o shows
    trunc_busy name size (line.Refused (Busy host2 id2)) is shows = as_told host id shows.1.attempt.room host2 id2 is (found_open name host2 id2 shows.1)
    trunc_busy name size o is shows = absurd (cc)

    rename_busy : (name to : List ℕ) (o : Outcome) → o ≡ line.Refused (Busy host id) → (shows : Shows m n There old (say.Rename name to) o new) → Stands (say.Rename name to) o shows
    rename_busy name to (line.Refused (Busy host2 id2)) is shows = as_told host id shows.1.attempt.room host2 id2 is (found_open name host2 id2 shows.1)
    rename_busy name to o is shows = absurd (cc)

    busy_there : (s : Statement) (o : Outcome) → IsReasonOf s (Busy host id) → o ≡ line.Refused (Busy host id) → (shows : Shows m n There old s o new) → Stands s o shows
    busy_there (say.Trunc name size) o may is shows = trunc_busy name size o is shows
    busy_there (say.Rename name to) o may is shows = rename_busy name to o is shows
    busy_there s o may is shows = absurd may

-- it truncates or renames
pub busy_holds : (s : Statement) (host id : ℕ) → IsReasonOf s (Busy host id) → Holds s
busy_holds (say.Trunc name size) host id may = tt
busy_holds (say.Rename name to) host id may = tt
busy_holds s host id may = absurd may

module _ (run : Run) (times : Option (List ℕ)) (mount : Stored) (start end : State) (fits : FitsScript run.script) (mounted : IsMounted 0 times mount start) (tells : mount.tree ≡ Some run.before) (sound : IsSoundTree run.before)
    (right : IsRight run.script start run.lines end) (left : end.store.tree ≡ Some run.after) where
  abbrev Begins : Moment
  Begins = First run times mount start end fits mounted tells sound right left

  abbrev sound_begins : IsSoundAt Begins
  sound_begins = sound_first run times mount start end fits mounted tells sound right left

  abbrev HomeOf : Told → ℕ
  HomeOf t = Home run times mount start end fits mounted tells sound right left t

  abbrev Homes : Story
  Homes = homes run times mount start end fits mounted tells sound right left

  module _ (free : run.in_order ≡ false) (t : Told) (host id : ℕ) (says : Says run t (line.Refused (Busy host id))) (may : IsReasonOf t.statement (Busy host id)) where
    abbrev LineOf : Option Told → Writing → Told → Type 0
    LineOf r w s = AnyLine run Begins end fits sound_begins right r w s

    -- within its part the entry stood, however the lines of its actor are split
    abbrev Stood_so : (r : Option Told) (w : Writing) → LineOf r w t → Type 0
    Stood_so r w l = StoodIn run times mount start end fits mounted tells sound right left t host id r w l

    stood_in : (r : Option Told) (w : Writing) (l : LineOf r w t) → Stood_so r w l
    stood_in r w l =
        by (subst (EntryStood Begins l.number l.line.part.earlier l.line.shown.front host id) (sym l.line.here)
        (busy_there Begins l.number l.line.part.earlier l.line.shown.front (length run.after.rooms) l.line.file l.line.shown.new l.line.shown.new_writer host id t.statement t.outcome may says.says l.line.shown.shows))
      where
        by : EntryStood Begins l.number l.line.part.earlier l.line.shown.front host id (HomeOf t) → Stood_so r w l
        by k =
            let p = l.line.part in
            let h = l.line.shown in
            let long = length-append p.earlier k.till in
            let inside = ap length h.split ∙ length-append h.front h.rest in
            let parts = ap length k.is ∙ length-append k.till k.rest in
            record {
              es = p.earlier ++ k.till;
              rest = k.rest ++ (h.rest ++ p.later);
              all = p.split ∙ ap (λ z. p.earlier ++ (z ++ p.later)) (h.split ∙ ap (λ z. z ++ h.rest) k.is)
                  ∙ ap (λ z. p.earlier ++ z) (append_assoc (k.till ++ k.rest) h.rest p.later ∙ append_assoc k.till k.rest (h.rest ++ p.later))
                  ∙ sym (append_assoc p.earlier k.till (k.rest ++ (h.rest ++ p.later)));
              behind = omega (arith, long);
              within = omega (arith, long, inside, parts);
              entry = k.entry;
            }

    lawful_to : (x xs : List Event) → right.history ≡ x ++ xs → IsLawful Begins.state x
    lawful_to x xs is = legal_first Begins x xs (subst (IsLawful Begins.state) is right.leads.lawful)

    L : LineOf (reader_at run t) (writing_at run t) t
    L = line_here run Begins end fits sound_begins right t says.is_line

    a : Stood_so (reader_at run t) (writing_at run t) L
    a = stood_in (reader_at run t) (writing_at run t) L

    -- ---- an entry of the tree before

    not_taken : (s : Told) (buried : List WriterCount) (living : List ℕ) (hold : Bool) → IsLine run s → surely_before run s t ≡ true → HomeOf s ≡ HomeOf t → s.outcome ≡ line.Recovered buried living hold → Any (λ (b : WriterCount). b.writer ≡ id) buried → ⊥
    not_taken s buried living hold is_line sooner home said any =
        let two : TwoHere run Begins end fits sound_begins right s t = two_here run Begins end fits sound_begins right free s t is_line says.is_line sooner in
        let k = stood_in two.reader_then two.writing_then two.other in
        let f = any_found (λ (b : WriterCount). b.writer ≡ id) buried any in
        let far = two.behind in
        let late = k.behind in
        taken_gone run times mount start end fits mounted tells sound right left s buried living hold (record { is_line = is_line; says = said }) (reader_at run s) (writing_at run s) two.one f.0 f.1 host k.es k.rest k.all (omega (arith, far, late))
        (subst (λ r. HadItem (moment_after Begins k.es) r (OpenHost host f.0.writer)) (sym home) (subst (λ w. HadItem (moment_after Begins k.es) (HomeOf t) (OpenHost host w)) (sym f.2) k.entry))

    -- ---- an entry that a line made

    is_alive_then : NewEntry Begins a.es (HomeOf t) host id → IsOpenIn run Homes t host id
    is_alive_then new = alive (is_alive run times mount start end fits mounted tells sound right left free t id says.is_line a.es a.rest a.all host new (λ r w l. (host, stood_in r w l)))

    -- the law of this file
    pub is_open_in : IsOpenIn run Homes t host id
    is_open_in = elim (stood_or_new Begins a.es sound_begins (lawful_to a.es a.rest a.all) (HomeOf t) host id a.entry) as (λ _. IsOpenIn run Homes t host id) [
      | inl was ↦ stood (entry_before run times mount start end fits mounted tells sound right left (HomeOf t) host id was) not_taken
      | inr new ↦ is_alive_then new
    ]
