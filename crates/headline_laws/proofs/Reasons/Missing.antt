-- A statement that is refused since there is no file found none, where no statement renames: none stood before, and no line before spoke of one.
use Rattle.std.proofs.Common.{◌≡◌, ℕ, true, false, List, [], ◌∷◌, ◌++◌, length, Option, Some, None, refl, sym, ap, ◌∙◌, subst, append_assoc}
use Rattle.store_api.specs.Acts.{Stored}
use Rattle.mount_model.specs.History.{Event}
use Rattle.mount_model.specs.Mounting.{IsMounted}
use Rattle.mount_model.specs.Paths.{Name}
use Rattle.mount_model.specs.State.{State}
use Rattle.mount_sound.specs.Owed.{IsLawful}
use Rattle.mount_sound.specs.Sound.{IsSoundTree}
use Rattle.reader_laws.specs.Moments.{IsSoundAt, Moment, moment_after}
use Rattle.reader_laws.proofs.Gathered.Facts.{among, legal_first, legal_rest, moment-append, sound_after}
use Rattle.script_lang.specs.Ranges.{FitsScript}
use Rattle.script_lang.specs.declared.line.Outcome.TheVariants as line
use Rattle.run_core.specs.Play.{IsRight}
use Rattle.headline.specs.Run.{IsLine, Run, Says, Told, surely_before}
use Rattle.plfs_types.specs.Places.{IsAmong}
use Rattle.headline.specs.Names.{name_of, names_in}
use Rattle.headline.specs.Readers.{RenamesNone, SpeaksOf}
use Rattle.headline.specs.Files.{reader_at}
use Rattle.headline.specs.Changes.{Writing, writing_at}
use Rattle.headline_laws.proofs.Contents.OpenedWriter.{First, sound_first}
use Rattle.headline_laws.proofs.Story.Lines.{AnyLine, line_here, room_of, two_here}
use Rattle.headline_laws.proofs.Story.Listing.{name_of_room}
use Rattle.headline_laws.proofs.Story.Named.{HasName, NamedAt, named_at}
use Rattle.headline_laws.proofs.Trees.Reading.{before_it}
use Rattle.script_lang.specs.declared.line.Why.TheVariants.{NoFile}
use Rattle.script_lang.specs.declared.script.Statement.{Statement}
use Rattle.script_lang.specs.declared.script.Statement.TheVariants.{Flatten, Open, Recover, Rename, Ropen, Stat, Trunc}
use Rattle.actor_core.specs.declared.kept.Kept.{Kept}
use Rattle.actor_core.specs.declared.kept.Stop.{Stop}
use Rattle.actor_core.specs.Statements.{disarmed, does, work_of}
use Rattle.headline_laws.proofs.Plays.Facts.{ComesTo}
use Rattle.headline_laws.specs.Changing.{IsFreeName}
use Rattle.headline_laws.specs.Refusing.{FindsNone}
use Rattle.headline_laws.specs.Showing.{Shows}
use Rattle.headline.specs.Missing.{HasMissing}
use Rattle.headline.specs.Reasons.{IsReasonOf}
use Rattle.headline_laws.proofs.Landed.Machines.{alive_does, greets}
use Rattle.headline_laws.proofs.Reasons.Lacking.{FreeIn, flatten_missing, opens_missing, recover_missing, stat_missing}
use Rattle.headline_laws.proofs.Reasons.Told.{reasons_told}
use Rattle.headline_laws.proofs.Statements.Does.{Ended, did, was_gone}
use Rattle.headline_laws.proofs.Story.Parts.{PartOf}
use Rattle.headline_laws.proofs.Trees.Listed.{mounting_names, stays_to}

module _ (run : Run) (times : Option (List ℕ)) (mount : Stored) (start end : State) (fits : FitsScript run.script) (mounted : IsMounted 0 times mount start) (tells : mount.tree ≡ Some run.before) (sound : IsSoundTree run.before)
    (right : IsRight run.script start run.lines end) (left : end.store.tree ≡ Some run.after) (free : run.in_order ≡ false) where
  abbrev Begins : Moment
  Begins = First run times mount start end fits mounted tells sound right left

  abbrev sound_begins : IsSoundAt Begins
  sound_begins = sound_first run times mount start end fits mounted tells sound right left

  abbrev Line : Option Told → Writing → Told → Type 0
  Line r w t = AnyLine run Begins end fits sound_begins right r w t

  -- no container had the name when it was sought
  pub record FreeAt {r : Option Told} {w : Writing} {t : Told} (l : Line r w t) (name : Name) : Type 0 where
    pub upto : List Event
    pub rest : List Event
    pub split : right.history ≡ (l.line.part.earlier ++ upto) ++ rest
    pub inside : (more : List Event) × (l.line.part.mine ≡ upto ++ more)
    pub none : IsFreeName (moment_after Begins (l.line.part.earlier ++ upto)) name

  -- by what the line shows
  shown_free : (r : Option Told) (w : Writing) (t : Told) (l : Line r w t) (name : Name) → FindsNone Begins l.number (record { before = l.line.part.earlier; events = l.line.shown.front }) name → FreeAt l name
  shown_free r w t l name f =
      let p = l.line.part in
      let h = l.line.shown in
      let mine : p.mine ≡ f.earlier ++ (f.finding ∷ (f.later ++ h.rest)) = h.split ∙ ap (λ z. z ++ h.rest) f.split ∙ append_assoc f.earlier (f.finding ∷ f.later) h.rest in
      record {
        upto = f.earlier;
        rest = f.finding ∷ (f.later ++ (h.rest ++ p.later));
        split = p.split ∙ ap (λ z. p.earlier ++ (z ++ p.later)) (h.split ∙ ap (λ z. z ++ h.rest) f.split)
            ∙ ap (λ z. p.earlier ++ z) (append_assoc (f.earlier ++ f.finding ∷ f.later) h.rest p.later ∙ append_assoc f.earlier (f.finding ∷ f.later) (h.rest ++ p.later)) ∙ sym (append_assoc p.earlier f.earlier (f.finding ∷ (f.later ++ (h.rest ++ p.later))));
        inside = (f.finding ∷ (f.later ++ h.rest), mine);
        none = f.free;
      }

  -- what a line shows, where its statement and its outcome are these
  shown_as : (r : Option Told) (w : Writing) (t : Told) (l : Line r w t) (s : Statement) → t.outcome ≡ line.Refused NoFile → t.statement ≡ s → Shows Begins l.number (record { before = l.line.part.earlier; events = l.line.shown.front }) l.line.file s (line.Refused NoFile) l.line.shown.new
  shown_as r w t l s says asked =
      let p = l.line.part in
      let h = l.line.shown in
      subst (λ x. Shows Begins l.number (record { before = p.earlier; events = h.front }) l.line.file x (line.Refused NoFile) h.new) asked (subst (λ o. Shows Begins l.number (record { before = p.earlier; events = h.front }) l.line.file t.statement o h.new) says h.shows)

  truncates_free : (r : Option Told) (w : Writing) (t : Told) (l : Line r w t) (name : Name) (size : ℕ) → t.outcome ≡ line.Refused NoFile → t.statement ≡ Trunc name size → FreeAt l name
  truncates_free r w t l name size says asked = shown_free r w t l name (shown_as r w t l (Trunc name size) says asked).1

  renames_free : (r : Option Told) (w : Writing) (t : Told) (l : Line r w t) (name to : Name) → t.outcome ≡ line.Refused NoFile → t.statement ≡ Rename name to → FreeAt l name
  renames_free r w t l name to says asked = shown_free r w t l name (shown_as r w t l (Rename name to) says asked).1

  module _ (r : Option Told) (w : Writing) (t : Told) (l : Line r w t) (name : Name) (says : t.outcome ≡ line.Refused NoFile) where
    abbrev P : PartOf l.number right.history right.calls.blocks l.line.kept t.phase t.statement
    P = l.line.part

    abbrev Now : Moment
    Now = moment_after Begins P.earlier

    told : P.e.outcome ≡ line.Refused NoFile
    told = sym l.line.says ∙ says

    alive : l.line.kept.gone ≡ false
    alive = by P.ended
      where
        by : Ended l.line.kept t.statement P.e → l.line.kept.gone ≡ false
        by (was_gone is out now) = absurd (let clash : line.Gone ≡ line.Refused NoFile = sym out ∙ told in cc)
        by (did lives d) = lives

    -- what the statement does is refused so only where none had the name
    abbrev Misses : Statement → Type 0
    Misses s = (left : Kept) (stop : Option Stop) (at : Moment) (mine : List Event) → IsSoundAt at → IsLawful at.state mine → ComesTo l.number (does left stop s) mine P.spent P.e → FreeIn at mine name

    free_so : (s : Statement) → t.statement ≡ s → Misses s → FreeAt l name
    free_so s is misses =
        let whole : IsLawful Begins.state (P.earlier ++ (P.mine ++ P.later)) = subst (IsLawful Begins.state) P.split right.leads.lawful in
        let now : IsSoundAt Now = sound_after Begins P.earlier (legal_first Begins P.earlier (P.mine ++ P.later) whole) sound_begins in
        let its : IsLawful Now.state P.mine = legal_first Now P.mine P.later (legal_rest Begins P.earlier (P.mine ++ P.later) whole) in
        let g = greets l.number l.line.kept s P.mine P.spent P.e (subst (λ x. ComesTo l.number (work_of l.line.kept x) P.mine P.spent P.e) is P.comes) in
        let both : IsLawful Now.state (g.first ++ g.rest) = subst (IsLawful Now.state) g.all its in
        let first : IsLawful Now.state g.first = legal_first Now g.first g.rest both in
        let f = misses (disarmed g.left) g.left.armed (moment_after Now g.first) g.rest (sound_after Now g.first first now) (legal_rest Now g.first g.rest both) (alive_does l.number g.left s g.rest P.spent P.e (g.gone_is ∙ alive) g.comes) in
        record {
          upto = g.first ++ f.upto;
          rest = f.rest ++ P.later;
          split = P.split ∙ ap (λ z. P.earlier ++ (z ++ P.later)) (g.all ∙ ap (λ z. g.first ++ z) f.split ∙ sym (append_assoc g.first f.upto f.rest)) ∙ ap (λ z. P.earlier ++ z) (append_assoc (g.first ++ f.upto) f.rest P.later)
              ∙ sym (append_assoc P.earlier (g.first ++ f.upto) (f.rest ++ P.later));
          inside = (f.rest, g.all ∙ ap (λ z. g.first ++ z) f.split ∙ sym (append_assoc g.first f.upto f.rest));
          none = subst (λ (x : Moment). IsFreeName x name) (sym (moment-append Begins P.earlier (g.first ++ f.upto) ∙ moment-append Now g.first f.upto)) f.none;
        }

    pub free_at : IsLine run t → name_of t.statement ≡ Some name → FreeAt l name
    free_at is_line asked = by t.statement refl asked kind
      where
        kind : IsReasonOf t.statement NoFile
        kind = (reasons_told run Begins end fits sound_begins right).kinds t NoFile (record { is_line = is_line; says = says })

        one : (n : Name) → Some n ≡ Some name → n ≡ name
        one n same = cc

        by : (s : Statement) → t.statement ≡ s → name_of s ≡ Some name → IsReasonOf t.statement NoFile → FreeAt l name
        by (Trunc n size) is same kind = truncates_free r w t l name size says (is ∙ ap (λ x. Trunc x size) (one n same))
        by (Stat n) is same kind = free_so (Stat name) (is ∙ ap (λ x. Stat x) (one n same)) (λ left stop at mine s lawful comes. stat_missing l.number left name P.spent P.e told stop at mine s lawful comes)
        by (Flatten n) is same kind = free_so (Flatten name) (is ∙ ap (λ x. Flatten x) (one n same)) (λ left stop at mine s lawful comes. flatten_missing l.number left name P.spent P.e told stop at mine s lawful comes)
        by (Recover n) is same kind = free_so (Recover name) (is ∙ ap (λ x. Recover x) (one n same)) (λ left stop at mine s lawful comes. recover_missing l.number left name P.spent P.e told stop at mine s lawful comes)
        by (Ropen n workers) is same kind = free_so (Ropen name workers) (is ∙ ap (λ x. Ropen x workers) (one n same)) (λ left stop at mine s lawful comes. opens_missing l.number left name P.spent P.e told stop at mine s lawful workers comes)
        by (Rename n to) is same kind = renames_free r w t l name to says (is ∙ ap (λ x. Rename x to) (one n same))
        by (Open n) is same kind = absurd (subst (λ x. IsReasonOf x NoFile) is kind)
        by s is same kind = absurd (let clash : None ≡ Some name = same in cc)

  -- so none has it
  has_none : {r : Option Told} {w : Writing} {t : Told} (l : Line r w t) (name : Name) (z : FreeAt l name) (n : ℕ) → HasName (moment_after Begins (l.line.part.earlier ++ z.upto)).state n name → ⊥
  has_none l name z n has = z.none has.tree has.told n has.room has.there has.is

  stood_not : RenamesNone run → (t : Told) (name : Name) → Says run t (line.Refused NoFile) → name_of t.statement ≡ Some name → IsAmong name (names_in run.before) → ⊥
  stood_not none t name says asked at =
      let l = line_here run Begins end fits sound_begins right t says.is_line in
      let z = free_at (reader_at run t) (writing_at run t) t l name says.says says.is_line asked in
      let f = name_of_room run.before.rooms name (among (names_in run.before) name at) in
      has_none l name z f.number
      (stays_to run times mount start end fits mounted tells sound right left free none [] (l.line.part.earlier ++ z.upto) z.rest z.split f.number name (mounting_names times mount start run.before f.number name mounted tells f.room f.there f.is))

  spoken_not : RenamesNone run → (t s : Told) (name : Name) → Says run t (line.Refused NoFile) → name_of t.statement ≡ Some name → IsLine run s → SpeaksOf name s.statement s.outcome → surely_before run s t ≡ true → ⊥
  spoken_not none t s name says asked is_line speaks sooner =
      let two = two_here run Begins end fits sound_begins right free s t is_line says.is_line sooner in
      let l = two.one.line in
      let p = l.part in
      let h = l.shown in
      let k : ℕ = room_of Begins two.one.number (record { before = p.earlier; events = h.front }) (length run.after.rooms) l.file h.new h.new_writer s.statement s.outcome h.shows in
      let a : NamedAt Begins p.earlier h.front name k = named_at Begins two.one.number p.earlier h.front (length run.after.rooms) name l.file h.new l.writer h.new_writer s.statement s.outcome speaks h.shows h.writes in
      let g = before_it run Begins end fits sound_begins right s t two a.upto a.later a.split in
      let z = free_at two.reader_then two.writing_then t two.other name says.says says.is_line asked in
      let c : List Event = p.earlier ++ a.upto in
      let there : two.other.line.part.earlier ++ z.upto ≡ c ++ (g.0 ++ z.upto) = ap (λ es. es ++ z.upto) g.1 ∙ append_assoc c g.0 z.upto in
      let split : right.history ≡ c ++ ((g.0 ++ z.upto) ++ z.rest) = z.split ∙ ap (λ es. es ++ z.rest) there ∙ append_assoc c (g.0 ++ z.upto) z.rest in
      let now : IsSoundAt (moment_after Begins c) = sound_after Begins c (legal_first Begins c ((g.0 ++ z.upto) ++ z.rest) (subst (IsLawful Begins.state) split right.leads.lawful)) sound_begins in
      let room = a.named now.shape.tree now.shape.told in
      let then_named = stays_to run times mount start end fits mounted tells sound right left free none c (g.0 ++ z.upto) z.rest split k name (record { tree = now.shape.tree; told = now.shape.told; room = room.room; there = room.has_room; is = room.named }) in
      has_none two.other name z k (subst (λ es. HasName (moment_after Begins es).state k name) (sym there) then_named)

  -- the law of this file
  pub missing_told : HasMissing run
  missing_told = record { stood = stood_not; spoken = spoken_not }
