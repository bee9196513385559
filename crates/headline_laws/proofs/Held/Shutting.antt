-- The container of a line that holds, and the moment at which a line found its container shut.
use Rattle.std.proofs.Common.{◌≡◌, ◌⊎◌, inl, inr, ℕ, true, false, List, [], ◌∷◌, ◌++◌, Option, Some, Ok, Err, refl, sym, ap, ◌∙◌, subst, append_assoc}
use Rattle.turn_object.specs.Callers.{made_by}
use Rattle.container_layout.specs.Paths.{openhosts}
use Rattle.mount_model.proofs.Stories.Facts.{entries_both, entries_first}
use Rattle.plain_file.proofs.Facts.{Among}
use Rattle.plfs_types.specs.declared.entries.WriterCount.{WriterCount}
use Rattle.store_api.specs.declared.step.Answer.TheVariants.{Made, Old}
use Rattle.store_api.specs.declared.store.Trouble.TheVariants.{Fault, NoMemory}
use Rattle.store_api.specs.declared.tree.Tree.{Tree}
use Rattle.store_laws.specs.There.{LacksFolder}
use Rattle.store_laws.proofs.Facts.{acts_told, make_folder_told}
use Rattle.mount_model.specs.declared.call.Call.{Call}
use Rattle.mount_model.specs.declared.call.Call.TheVariants.{Hold, MendHold}
use Rattle.mount_model.specs.declared.reply.Refusal.{Refusal}
use Rattle.mount_model.specs.declared.reply.Refusal.TheVariants as refusal
use Rattle.mount_model.specs.declared.reply.Reply.{Reply}
use Rattle.mount_model.specs.declared.reply.Reply.TheVariants as reply
use Rattle.mount_model.specs.Entering.{draw_check}
use Rattle.mount_model.specs.History.{Event}
use Rattle.mount_model.specs.Holding.{HoldsRoom}
use Rattle.mount_model.specs.Making.{MakesAct, Refuses, Told}
use Rattle.mount_model.specs.Recovering.{mend_hold_check, mend_hold_outcome, mend_hold_step}
use Rattle.mount_model.specs.Step.{Answers, IsStep}
use Rattle.mount_model.proofs.Facts.{match_cases, may_enter, may_mend_hold}
use Rattle.reader_laws.specs.Moments.{IsSoundAt, Moment}
use Rattle.reader_laws.proofs.Gathered.Facts.{any_found}
use Rattle.script_lang.specs.declared.line.Outcome.{Outcome}
use Rattle.script_lang.specs.declared.line.Outcome.TheVariants as line
use Rattle.script_lang.specs.declared.line.Why.TheVariants.{Busy, Exists, Held, StampsSpent}
use Rattle.script_lang.specs.declared.script.Statement.{Statement}
use Rattle.script_lang.specs.declared.script.Statement.TheVariants as say
use Rattle.actor_core.specs.declared.kept.Kept.{Kept}
use Rattle.actor_core.specs.Endings.{Ending}
use Rattle.headline_laws.specs.Changing.{Change, IsAnswered, IsChange}
use Rattle.headline_laws.specs.OneFile.{OneFile}
use Rattle.headline_laws.specs.OneWriter.{OneWriter}
use Rattle.headline_laws.specs.Opening.{Stretch}
use Rattle.headline_laws.specs.Recovering.{RecoversFile}
use Rattle.headline_laws.specs.Refusing.{Attempt, FindsHeld, IsAttempt, WasShut}
use Rattle.headline_laws.specs.Showing.{Shows}
use Rattle.headline_laws.proofs.Plays.Facts.{HoldsSo}
use Rattle.headline_laws.proofs.Makers.Holding.{answered_call}
use Rattle.headline_laws.proofs.Reasons.Holds.{draw_so}
use Rattle.headline_laws.proofs.Statements.Did.{IsOfKindOr}
use Rattle.headline_laws.proofs.Statements.Does.{Ended, did, was_gone}
use Rattle.headline_laws.proofs.Story.Lines.{entered_room, held_room, last_mended, mended_or, mended_room, room_of}

-- ---- the container of a line that holds

module _ (m : Moment) (n : ℕ) (before front : List Event) (nothing : ℕ) (old new : Option OneFile) (w : Option OneWriter) where
  abbrev There : Stretch
  There = record { before = before; events = front }

  -- its own call that holds
  pub record HoldsIn (room : ℕ) : Type 0 where
    pub u : List Event
    pub event : Event
    pub v : List Event
    pub is : front ≡ u ++ event ∷ v
    pub own : event.caller ≡ n
    pub asked : event.ask.call ≡ Hold room
    pub told : Reply
    pub replied : event.reply ≡ told

  change_holds : (name : List ℕ) (call : ℕ → Call) (answer : Reply) (c : Change) → IsChange m n There name call answer c → HoldsIn c.room
  change_holds name call answer c i = record {
    u = c.earlier ++ (c.finding ∷ c.between);
    event = c.holding;
    v = c.more ++ c.changing ∷ c.later;
    is = i.split ∙ sym (append_assoc c.earlier (c.finding ∷ c.between) (c.holding ∷ c.more ++ c.changing ∷ c.later));
    own = i.holds.own;
    asked = i.holds.asked;
    told = reply.Holding c.holder;
    replied = i.holds.told;
  }

  attempt_holds : (name : List ℕ) (why : Refusal) (a : Attempt) → IsAttempt m n There name why a → HoldsIn a.room
  attempt_holds name why a i = record {
    u = a.earlier ++ (a.finding ∷ a.between);
    event = a.holding;
    v = a.later;
    is = i.split ∙ sym (append_assoc a.earlier (a.finding ∷ a.between) (a.holding ∷ a.later));
    own = i.refuses.own;
    asked = i.refuses.asked;
    told = reply.Refused why;
    replied = i.refuses.told;
  }

  abbrev Its : (s : Statement) (o : Outcome) → Shows m n There old s o new → Type 0
  Its s o shows = (room_of m n There nothing old new w s o shows ≡ held_room n nothing front) ⊎ HoldsIn (room_of m n There nothing old new w s o shows)

  trunc_held : (name : List ℕ) (size : ℕ) (o : Outcome) → IsOfKindOr (say.Trunc name size) o → (shows : Shows m n There old (say.Trunc name size) o new) → Its (say.Trunc name size) o shows
  trunc_held name size (line.Truncated stamp) kind shows = inr (change_holds name _ _ shows.1.change shows.1.made)
  trunc_held name size (line.Refused StampsSpent) kind shows = inr (change_holds name _ _ shows.1.change shows.1.made)
  trunc_held name size (line.Refused (Busy host id)) kind shows = inr (attempt_holds name _ shows.1.attempt shows.1.made)
  trunc_held name size (line.Reader many cut truncs) kind shows = absurd kind
  trunc_held name size (line.Opened id) kind shows = absurd kind
  trunc_held name size o kind shows = inl refl

  rename_held : (name to : List ℕ) (o : Outcome) → IsOfKindOr (say.Rename name to) o → (shows : Shows m n There old (say.Rename name to) o new) → Its (say.Rename name to) o shows
  rename_held name to line.Renamed kind shows = inr (change_holds name _ _ shows.1.change shows.1.made)
  rename_held name to (line.Refused (Busy host id)) kind shows = inr (attempt_holds name _ shows.1.attempt shows.1.made)
  rename_held name to (line.Refused Exists) kind shows = inr (change_holds name _ _ shows.1.change shows.1.made)
  rename_held name to (line.Reader many cut truncs) kind shows = absurd kind
  rename_held name to (line.Opened id) kind shows = absurd kind
  rename_held name to o kind shows = inl refl

  -- it speaks of the container that it is to hold
  pub its_hold : (s : Statement) (o : Outcome) → HoldsSo s → IsOfKindOr s o → (shows : Shows m n There old s o new) → Its s o shows
  its_hold (say.Trunc name size) o so kind shows = trunc_held name size o kind shows
  its_hold (say.Rename name to) o so kind shows = rename_held name to o kind shows
  its_hold s o (inl (name, size, is)) kind shows = absurd (cc)
  its_hold s o (inr (name, to, is)) kind shows = absurd (cc)

  -- ---- what lines show that were refused as held

  pub find_held : (s : Statement) (o : Outcome) → HoldsSo s → o ≡ line.Refused Held → Shows m n There old s o new → (name : List ℕ) × FindsHeld m n There name
  find_held (say.Trunc name size) (line.Refused Held) so is shows = (name, shows.1)
  find_held (say.Rename name to) (line.Refused Held) so is shows = (name, shows.1)
  find_held s o (inl (name, size, same)) is shows = absurd (cc)
  find_held s o (inr (name, to, same)) is shows = absurd (cc)

  pub open_room : (name : List ℕ) (s : Statement) (o : Outcome) → s ≡ say.Open name → o ≡ line.Refused Held → (shows : Shows m n There old s o new) → (entered_else : ℕ) × (room_of m n There nothing old new w s o shows ≡ entered_room n entered_else front)
  open_room name (say.Open name2) (line.Refused Held) is told shows = (_, refl)
  open_room name s o is told shows = absurd (cc)

  pub recover_room : (name : List ℕ) (s : Statement) (o : Outcome) → s ≡ say.Recover name → o ≡ line.Refused Held → (shows : Shows m n There old s o new) → room_of m n There nothing old new w s o shows ≡ mended_room n nothing front
  recover_room name (say.Recover name2) (line.Refused Held) is told shows = refl
  recover_room name s o is told shows = absurd (cc)

  -- ---- a recovery that ended a hold

  -- it made the folder again
  pub record Mends (room : ℕ) : Type 0 where
    pub u : List Event
    pub event : Event
    pub v : List Event
    pub is : front ≡ u ++ event ∷ v
    pub mends : IsAnswered n (MendHold room) (reply.Mended true) event

  among_split : (x : Event) (xs : List Event) → Among x xs → (u : List Event) × (v : List Event) × (xs ≡ u ++ x ∷ v)
  among_split x [] at = absurd at
  among_split x (y ∷ ys) (inl same) = ([], ys, ap (λ z. z ∷ ys) (sym same))
  among_split x (y ∷ ys) (inr at) = (let (u, v, is) = among_split x ys at in (y ∷ u, v, ap (λ z. y ∷ z) is))

  mended_in : (name : List ℕ) (buried : List WriterCount) (alive : List ℕ) (f : RecoversFile m n There name buried alive true) → Mends f.room
  mended_in name buried alive f = elim f.tells as (λ _. Mends f.room) [
    | inl (clash, writers) ↦ absurd (cc)
    | inr h ↦
        let x = any_found (λ (e : Event). IsAnswered n (MendHold f.room) (reply.Mended true) e) front h.mended in
        let (u, v, is) = among_split x.0 front x.1 in
        record { u = u; event = x.0; v = v; is = is; mends = x.2 }
  ]

  pub recover_mends : (s : Statement) (o : Outcome) (buried : List WriterCount) (alive : List ℕ) → o ≡ line.Recovered buried alive true → IsOfKindOr s o → (shows : Shows m n There old s o new) → (name : List ℕ) × (s ≡ say.Recover name) × Mends (room_of m n There nothing old new w s o shows)
  recover_mends (say.Recover name) (line.Recovered buried2 alive2 true) buried alive is kind shows = (name, refl, mended_in name buried2 alive2 shows.1)
  recover_mends (say.Recover name) (line.Recovered buried2 alive2 false) buried alive is kind shows = absurd (cc)
  recover_mends s (line.Recovered buried2 alive2 hold) buried alive is kind shows = absurd kind
  recover_mends s o buried alive is kind shows = absurd (cc)

-- the kind of its line
pub kind_so : (s : Statement) (kept : Kept) (e : Ending) → HoldsSo s → Ended kept s e → IsOfKindOr s e.outcome
kind_so s kept e so (did lives d) = d.kind
kind_so s kept e (inl (name, size, is)) (was_gone gone out now) = subst (λ x. IsOfKindOr x e.outcome) (sym is) (subst (IsOfKindOr (say.Trunc name size)) (sym out) tt)
kind_so s kept e (inr (name, to, is)) (was_gone gone out now) = subst (λ x. IsOfKindOr x e.outcome) (sym is) (subst (IsOfKindOr (say.Rename name to)) (sym out) tt)

-- ---- the container of its last call

last_one : (nothing : ℕ) (xs : List Event) (e : Event) → last_mended nothing (xs ++ e ∷ []) ≡ mended_or e.ask.call nothing
last_one nothing [] e = refl
last_one nothing (x ∷ []) e = refl
last_one nothing (x ∷ y ∷ xs) e = last_one nothing (y ∷ xs) e

pub mended_is : (n nothing room : ℕ) (events first : List Event) (e : Event) (rest : List Event) → events ≡ first ++ e ∷ rest → e.caller ≡ n → e.ask.call ≡ MendHold room → made_by n rest ≡ [] → mended_room n nothing events ≡ room
mended_is n nothing room events first e rest is own asked none =
    ap (last_mended nothing) (ap (made_by n) is ∙ entries_both n first (e ∷ rest) ∙ ap (λ z. made_by n first ++ z) (entries_first n e rest own ∙ ap (λ z. e ∷ z) none)) ∙ last_one nothing (made_by n first) e ∙ ap (λ c. mended_or c nothing) asked

-- ---- one call

-- one that was refused as held is on no room of marks
pub held_apart : (m : Moment) (n room : ℕ) (e : Event) → IsStep m.state e.caller e.ask e.reply e.after → e.caller ≡ n → e.ask.call ≡ Hold room → e.reply ≡ reply.Refused refusal.Held → room ≡ m.state.marks → ⊥
held_apart m n room e step own asked told = elim (match_cases (draw_check m.state room) (HoldsRoom e.caller room m.state e.reply e.after) (λ why. Refuses why m.state e.reply e.after) answers) as (λ _. room ≡ m.state.marks → ⊥) [
  | inl (none, does) ↦ (may_enter m.state room none).0
  | inr (why, some, refused) ↦ absurd (
      let is : reply.Refused refusal.Held ≡ reply.Refused why = sym told ∙ refused.0 in
      let same : refusal.Held ≡ why = cc in
      elim (draw_so m.state room why some) as (λ _. ⊥) [
        | inl none ↦ (let clash : refusal.Held ≡ refusal.NoRoom = same ∙ none in cc)
        | inr spent ↦ (let clash : refusal.Held ≡ refusal.IdsSpent = same ∙ spent in cc)
      ]
      )
]
  where
    answers : Answers m.state e.caller (Hold room) e.reply e.after
    answers = subst (λ c. Answers m.state e.caller c e.reply e.after) asked (answered_call m.state e step (λ is. let clash : reply.Stopped ≡ reply.Refused refusal.Held = sym is ∙ told in absurd (cc)) (λ is. let clash : reply.NoMemory ≡ reply.Refused refusal.Held = sym is ∙ told in absurd (cc)))

one_tree : (a b : Tree) (o : Option Tree) → o ≡ Some a → o ≡ Some b → a ≡ b
one_tree a b o p q = cc

-- one that ended a hold found the container shut
pub mended_shut : (m : Moment) (s : IsSoundAt m) (n room : ℕ) (e : Event) → IsStep m.state e.caller e.ask e.reply e.after → IsAnswered n (MendHold room) (reply.Mended true) e → WasShut m room × (room ≡ m.state.marks → ⊥)
mended_shut m s n room e step i = elim (match_cases (mend_hold_check m.state room) Acted (λ why. Refuses why m.state e.reply e.after) answers) as (λ _. WasShut m room × (room ≡ m.state.marks → ⊥)) [
  | inl (none, does) ↦ (
    (let t = acts_told (mend_hold_step room) m.state.store e.after.store s.shape.tree does.told s.shape.told does.made in
        let c = (make_folder_told room openhosts s.shape.tree does.told t.0 t.2).done (was_made does.told (sym i.told ∙ does.answered)) in
        λ tree told. subst (λ x. LacksFolder x room openhosts) (one_tree s.shape.tree tree m.state.store.tree s.shape.told told) (record { room = c.room; has_room = c.has_room; none = c.none })),
    (may_mend_hold m.state room none).0,
  )
  | inr (why, some, refused) ↦ absurd (let clash : reply.Mended true ≡ reply.Refused why = sym i.told ∙ refused.0 in cc)
]
  where
    Acted : Type 0
    Acted = MakesAct (mend_hold_step room) (mend_hold_outcome m.state.table) m.state e.reply e.after

    answers : Answers m.state e.caller (MendHold room) e.reply e.after
    answers = subst (λ c. Answers m.state e.caller c e.reply e.after) i.asked (answered_call m.state e step (λ is. let clash : reply.Stopped ≡ reply.Mended true = sym is ∙ i.told in absurd (cc)) (λ is. let clash : reply.NoMemory ≡ reply.Mended true = sym is ∙ i.told in absurd (cc)))

    was_made : (told : Told) → reply.Mended true ≡ (mend_hold_outcome m.state.table told).reply → told ≡ Ok Made
    was_made (Ok Made) is = refl
    was_made (Ok (Old k)) is = absurd (cc)
    was_made (Ok answer) is = absurd (cc)
    was_made (Err Fault) is = absurd (cc)
    was_made (Err NoMemory) is = absurd (cc)
