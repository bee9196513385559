-- A writer that a line opened, and that its actor has at the end, has its entry in the folder of open writers.
use Rattle.std.proofs.Common.{◌≡◌, ℕ, true, List, [], ◌∷◌, ◌++◌, Option, Some, inl, inr, refl, sym, ap, ◌∙◌, subst}
use Rattle.std.specs.Prelude.{slice_get}
use Rattle.std.specs.List.{AllByRecursion}
use Rattle.std.proofs.lemmas.List.{append-nil}
use Rattle.std.proofs.lemmas.List.Elements.{recursion_from_All}
use Rattle.container_layout.specs.declared.items.Item.TheVariants.{OpenHost}
use Rattle.store_api.specs.Acts.{Stored}
use Rattle.mount_model.specs.declared.row.Row.{Row}
use Rattle.mount_model.specs.declared.row.Stage.{Stage}
use Rattle.mount_model.specs.Mounting.{IsMounted}
use Rattle.mount_model.specs.Paths.{open_path}
use Rattle.mount_model.specs.State.{State}
use Rattle.mount_model.specs.Table.{is_live, row_of}
use Rattle.mount_sound.specs.Sound.{IsSoundTree}
use Rattle.mount_sound.proofs.Facts.{all_fit}
use Rattle.reader_laws.specs.Moments.{Dropping, HadItem, IsSoundAt, Moment, file_in_room, file_told}
use Rattle.reader_laws.proofs.Gathered.Facts.{among}
use Rattle.script_lang.specs.Ranges.{FitsScript}
use Rattle.script_lang.specs.declared.line.Outcome.{Outcome}
use Rattle.script_lang.specs.declared.line.Outcome.TheVariants as line
use Rattle.script_lang.specs.declared.line.Why.TheVariants.{AlreadyOpen}
use Rattle.script_lang.specs.declared.script.Statement.{Statement}
use Rattle.script_lang.specs.declared.script.Statement.TheVariants as say
use Rattle.actor_core.specs.declared.kept.Kept.{Kept}
use Rattle.run_core.specs.Play.{IsRight}
use Rattle.headline.specs.Run.{IsLine, Run, Says, Told, own, told}
use Rattle.headline.specs.Trees.{Has}
use Rattle.headline.specs.Writers.{Account, Writer, account_of, host_of, nothing}
use Rattle.headline.specs.Views.{IsWriter, opened, stood}
use Rattle.headline.specs.Changes.{Writing, in_doubt, none, unsure, writer, writing_after, writing_next}
use Rattle.headline.specs.Left.{StaysOpen}
use Rattle.headline_laws.proofs.Contents.Counted.{homes}
use Rattle.headline_laws.proofs.Contents.FirstOpen.{FirstOpen, OpensNot, all_rest, first_open}
use Rattle.headline_laws.proofs.Contents.OpenedWriter.{Behind, First, Home, Last, Opening, Whole, entered_so, go, its, sound_first, sound_last, started}
use Rattle.headline_laws.proofs.Landed.Between.{AtPlace}
use Rattle.headline_laws.proofs.Landed.Bounded.{Keeps, idle_keeps}
use Rattle.headline_laws.proofs.Statements.LivingLines.{GoesOn, lines_open, never_opened, not_out}
use Rattle.headline_laws.proofs.OrderlyLines.Answering.{among_own}
use Rattle.headline_laws.proofs.Statements.Known.{HasEntered}
use Rattle.headline_laws.proofs.Story.Lines.{ChainOf, chain_of, writing_append}
use Rattle.headline_laws.proofs.Trees.Fresh.{number_new}
use Rattle.headline_laws.proofs.Trees.Openings.{IsOpenNow}
use Rattle.headline_laws.proofs.Trees.Reading.{last_item}

-- ---- where the actor has it at the end, no line behind its opening is of a close

doubted : (id : ℕ) (v : Writing) → in_doubt v ≡ writer id → ⊥
doubted id none is = cc
doubted id (unsure other) is = cc
doubted id (writer other) is = cc

same_writer : (x y : ℕ) → writer x ≡ writer y → x ≡ y
same_writer x y is = cc

sure_one : (id : ℕ) (v : Writing) (s : Statement) (o : Outcome) → (o ≡ line.Opened id → ⊥) → writing_next v s o ≡ writer id → (v ≡ writer id) × (s ≡ say.Close → ⊥)
sure_one id v (say.Open name) (line.Opened other) not is = absurd (not (ap (λ k. line.Opened k) (same_writer other id is)))
sure_one id v (say.Open name) (line.Refused AlreadyOpen) not is = (is, λ clash. cc)
sure_one id v (say.Open name) o not is = absurd (let clash : none ≡ writer id = is in cc)
sure_one id v say.Close (line.Closed count) not is = absurd (let clash : none ≡ writer id = is in cc)
sure_one id v say.Close o not is = absurd (doubted id v is)
sure_one id v s o not is = (is, λ clash. cc)

pub sure_stays : (id : ℕ) (ts : List Told) (v : Writing) → AllByRecursion (OpensNot id) ts → writing_after v ts ≡ writer id → (v ≡ writer id) × AllByRecursion (λ (t : Told). t.statement ≡ say.Close → ⊥) ts
sure_stays id [] v not is = (is, tt)
sure_stays id (t ∷ ts) v not is =
    let r = sure_stays id ts (writing_next v t.statement t.outcome) not.1 is in
    let q = sure_one id v t.statement t.outcome not.0 r.0 in
    (q.0, (q.1, r.1))

pub both_all : (P Q : Told → Type 0) (ts : List Told) → AllByRecursion P ts → AllByRecursion Q ts → AllByRecursion (λ t. P t × Q t) ts
both_all P Q [] p q = tt
both_all P Q (t ∷ ts) p q = ((p.0, q.0), both_all P Q ts p.1 q.1)

one_row : (a b : Row) (o : Option Row) → o ≡ Some a → o ≡ Some b → a ≡ b
one_row a b o p q = cc

-- ---- the entry of an open writer

-- a row that is open has it
pub entry_stands : (n : ℕ) (m : Moment) → IsSoundAt m → (d : Dropping) (row : Row) → AtPlace m n d row → (o : IsOpenNow n d.writer m.state) → HadItem m d.room (OpenHost d.host d.writer)
entry_stands n m s d row at o =
    let same : o.row ≡ row = one_row o.row row (row_of d.writer m.state.table.writers) o.has.there at.has.there in
    let placed = s.sound.placed d.writer o.row o.has.there in
    let kept = (s.sound.rooms o.row.room placed.0 placed.1).kept d.writer o.row o.has.there refl in
    let stands = (kept.alive (subst (λ (x : Stage). is_live x ≡ true) (sym o.is_open) refl)).opened in
    let fits = all_fit m.state s.regular d.writer o.row o.has.there in
    let had : HadItem m o.row.room (OpenHost o.row.host o.row.id) = record {
      is_item = record { in_range = tt; widths = (fits.host, fits.id) };
      bytes = [];
      there = ap (λ t. file_told t o.row.room (open_path o.row.host o.row.id)) s.shape.told ∙ ap (λ r. file_in_room r (open_path o.row.host o.row.id)) placed.1 ∙ stands;
    } in
    subst (λ r. HadItem m r (OpenHost d.host d.writer)) (ap (λ (r : Row). r.room) same ∙ at.room) (subst (λ h. HadItem m o.row.room (OpenHost h d.writer)) (ap (λ (r : Row). r.host) same ∙ at.host) (subst (λ k. HadItem m o.row.room (OpenHost o.row.host k)) o.id had))

module _ (run : Run) (times : Option (List ℕ)) (mount : Stored) (start end : State) (fits : FitsScript run.script) (mounted : IsMounted 0 times mount start) (tells : mount.tree ≡ Some run.before) (sound : IsSoundTree run.before)
    (right : IsRight run.script start run.lines end) (left : end.store.tree ≡ Some run.after) where
  abbrev Begins : Moment
  Begins = First run times mount start end fits mounted tells sound right left

  abbrev sound_begins : IsSoundAt Begins
  sound_begins = sound_first run times mount start end fits mounted tells sound right left

  abbrev Ends : Moment
  Ends = Last run times mount start end fits mounted tells sound right left

  -- the line t opened it, and its actor has it at the end
  module _ (t : Told) (id : ℕ) (is_line : IsLine run t) (stays : StaysOpen run t id) (c : ChainOf run Begins end fits sound_begins right t.actor) (fo : FirstOpen id (own t.actor (told run))) where
    abbrev b : Opening run times mount start end fits mounted tells sound right left t.actor c id fo.o.phase fo.post []
    b = started run times mount start end fits mounted tells sound right left t.actor c id fo.pre fo.o fo.post fo.is fo.says

    entered : HasEntered c.parts.number (b.earlier ++ b.mine) b.d
    entered = entered_so run times mount start end fits mounted tells sound right left t.actor c id fo.o.phase fo.post [] b

    not_again : AllByRecursion (OpensNot id) fo.post
    not_again = subst (λ k. AllByRecursion (OpensNot k) fo.post) b.its_id (never_opened Begins sound_begins c.parts.number right.history right.calls.blocks (Whole run times mount start end fits mounted tells sound right left) b.d (b.earlier ++ b.mine) b.kept b.file b.writer fo.post b.more entered)

    goes_on : AllByRecursion GoesOn fo.post
    goes_on =
        both_all (λ (s : Told). s.statement ≡ say.Close → ⊥) (λ (s : Told). s.outcome ≡ line.Stopped → ⊥) fo.post
        (sure_stays id fo.post (writing_next (writing_after none fo.pre) fo.o.statement fo.o.outcome) not_again (sym (writing_append none fo.pre fo.o fo.post) ∙ ap (writing_after none) (sym fo.is) ∙ stays.had)).1
        (all_rest (λ (s : Told). s.outcome ≡ line.Stopped → ⊥) fo.pre (fo.o ∷ fo.post) (subst (AllByRecursion (λ (s : Told). s.outcome ≡ line.Stopped → ⊥)) fo.is (recursion_from_All (λ (s : Told). s.outcome ≡ line.Stopped → ⊥) (own t.actor (told run)) stays.alive))).1

    open_last : IsOpenNow c.parts.number b.d.writer Ends.state
    open_last = lines_open Begins sound_begins c.parts.number right.history right.calls.blocks (Whole run times mount start end fits mounted tells sound right left) b.cap b.d (b.earlier ++ b.mine) b.kept b.file b.writer (nothing true) fo.post b.more entered b.keeps b.open_now b.alive goes_on

    entry_last : HadItem Ends b.d.room (OpenHost b.d.host b.d.writer)
    entry_last = by (go run times mount start end fits mounted tells sound right left t.actor c id fo.o.phase fo.post [] b fo.post [] (sym (append-nil fo.post)))
      where
        acc : Account
        acc = account_of b.d.writer b.cap (nothing true) fo.post

        from : (kept : Kept) → Keeps Begins sound_begins c.parts.number right.history right.calls.blocks (Whole run times mount start end fits mounted tells sound right left) b.cap b.d right.history kept acc → HadItem Ends b.d.room (OpenHost b.d.host b.d.writer)
        from kept (inl i) = entry_stands c.parts.number Ends (sound_last run times mount start end fits mounted tells sound right left) b.d i.row i.at open_last
        from kept (inr out) = absurd (not_out Begins sound_begins c.parts.number right.history right.calls.blocks (Whole run times mount start end fits mounted tells sound right left) b.cap b.d right.history kept acc open_last out)

        by : Behind run times mount start end fits mounted tells sound right left t.actor c id fo.o.phase fo.post [] b fo.post [] → HadItem Ends b.d.room (OpenHost b.d.host b.d.writer)
        by T = from T.kept (idle_keeps Begins sound_begins c.parts.number right.history right.calls.blocks (Whole run times mount start end fits mounted tells sound right left) b.cap b.d T.from right.history [] T.kept acc (sym (append-nil right.history)) T.more T.keeps)

    -- whichever line tells of it
    its_entry : (o : Told) → Says run o (line.Opened id) → Has run.after (Home run times mount start end fits mounted tells sound right left o) (OpenHost (host_of (slice_get run.script.actors o.actor)) id)
    its_entry o says =
        let i = its run times mount start end fits mounted tells sound right left o id says t.actor c fo.o.phase fo.post [] b in
        let has : Has run.after b.d.room (OpenHost b.d.host b.d.writer) = last_item run Begins end fits sound_begins right left b.d.room (OpenHost b.d.host b.d.writer) entry_last in
        subst (λ r. Has run.after r (OpenHost (host_of (slice_get run.script.actors o.actor)) id)) i.room (subst (λ h. Has run.after b.d.room (OpenHost h id)) i.host (subst (λ k. Has run.after b.d.room (OpenHost b.d.host k)) b.its_id has))

  -- the law of this file
  pub writers_kept : (t : Told) (n : ℕ) (w : Writer) → IsLine run t → StaysOpen run t w.id → IsWriter run (homes run times mount start end fits mounted tells sound right left) n (told run) (told run) w → Has run.after n (OpenHost w.host w.id)
  writers_kept t n w is_line stays (stood is_item has is) = absurd (number_new run times mount start end fits mounted tells sound right t w.id n w.host (record { is_line = is_line; says = stays.opened }) is_item has)
  writers_kept t n w is_line stays (opened o o_line says home is) =
      let c = chain_of run Begins end fits sound_begins right t is_line in
      let fo = first_open w.id (own t.actor (told run)) t (among_own (told run) t (among (told run) t is_line)) stays.opened in
      let has = its_entry t w.id is_line stays c fo o (record { is_line = o_line; says = says }) in
      subst (λ r. Has run.after r (OpenHost w.host w.id)) home (subst (λ h. Has run.after (Home run times mount start end fits mounted tells sound right left o) (OpenHost h w.id)) (sym (ap (λ (x : Writer). x.host) is)) has)
