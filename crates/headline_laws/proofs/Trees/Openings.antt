-- Where a writer was opened, its index and its log stand from then on.
use Rattle.std.proofs.Common.{◌≡◌, ◌≤◌, inl, inr, ℕ, true, List, [], ◌∷◌, ◌++◌, Some, None, Result, Ok, Err, refl, sym, ap, ◌∙◌, subst, arith, append_assoc}
use Rattle.turn_object.specs.Callers.{made_by}
use Rattle.mount_model.specs.Calls.{AreCallsOf}
use Rattle.mount_model.specs.Program.{Program, ask, done}
use Rattle.mount_model.specs.Running.{Runs, asking, unbroken}
use Rattle.mount_model.specs.declared.stuck.Stuck.{Stuck}
use Rattle.mount_model.proofs.Flows.Facts.{runs_next}
use Rattle.store_api.specs.declared.step.Answer.TheVariants.{Made, NoFolder, NoRoom, Old}
use Rattle.store_api.specs.declared.store.Trouble.TheVariants as trouble
use Rattle.container_layout.specs.declared.items.Item.TheVariants.{Index, Log}
use Rattle.mount_model.specs.declared.call.Ask.{Ask}
use Rattle.mount_model.specs.declared.call.Call.{Call}
use Rattle.mount_model.specs.declared.call.Call.TheVariants as call
use Rattle.mount_model.specs.declared.reply.Reply.{Reply}
use Rattle.mount_model.specs.declared.reply.Reply.TheVariants as reply
use Rattle.mount_model.specs.declared.reply.Refusal.TheVariants.{NotOpen}
use Rattle.mount_model.specs.declared.row.Row.{Row}
use Rattle.mount_model.specs.declared.row.Stage.{Stage}
use Rattle.mount_model.specs.declared.row.Stage.TheVariants as stage
use Rattle.mount_model.specs.Building.{build_outcome, log_step}
use Rattle.mount_model.specs.History.{Event}
use Rattle.mount_model.specs.Making.{MakesAct, Refuses, Told}
use Rattle.mount_model.specs.Paths.{Name, index_path, log_path}
use Rattle.container_layout.specs.Paths.{hostdir_of}
use Rattle.mount_model.specs.State.{State, Table, put}
use Rattle.mount_model.specs.Step.{Answers, IsStep}
use Rattle.mount_model.specs.Table.{at_stage, is_live, only, rank, row_of, writer_of}
use Rattle.mount_model.proofs.Facts.{is_held, match_cases, row_of-with_row, step_cases}
use Rattle.mount_sound.proofs.Facts.{all_fit}
use Rattle.reader_laws.specs.Moments.{HadItem, IsSoundAt, Moment, file_in_room, file_told}
use Rattle.writer_flow.specs.declared.handle.WriterHandle.{WriterHandle}
use Rattle.writer_flow.specs.Ending.{trouble as trouble_of}
use Rattle.writer_flow.specs.Handle.{opened_of}
use Rattle.writer_flow.specs.Opening.{Opening, enters, finds_floor, if_done, if_entered, if_floored, if_made, leaves, makes_index, makes_log, open_program}
use Rattle.writer_laws.specs.Knowing.{HasRow}

-- ---- the call that makes the log is the last of an opening

module _ (n : ℕ) where
  -- the next call of a program
  record NextCall {R : Type 0} (q : Call) (k : Reply → Program Call Reply R) (events : List Event) (out : R) : Type 0 where
    pub first : List Event
    pub event : Event
    pub rest : List Event
    pub all : events ≡ first ++ event ∷ rest
    pub own : event.caller ≡ n
    pub asked : event.ask ≡ unbroken q
    pub runs : Runs n (k event.reply) rest out

  next_call_of : {R : Type 0} (q : Call) (k : Reply → Program Call Reply R) (events : List Event) (out : R) → Runs n (ask q k) events out → NextCall q k events out
  next_call_of q k [] out runs = absurd runs
  next_call_of q k (event ∷ events) out runs = elim (runs_next n q k event events out runs) as (λ _. NextCall q k (event ∷ events) out) [
    | inl (other, more) ↦ let c = next_call_of q k events out more in record { first = event ∷ c.first; event = c.event; rest = c.rest; all = ap (λ z. event ∷ z) c.all; own = c.own; asked = c.asked; runs = c.runs }
    | inr (mine, asked, more) ↦ record { first = []; event = event; rest = events; all = refl; own = mine; asked = asked; runs = more }
  ]

  -- its log was made by a call of the caller, behind which it made none
  pub record LogMade (w : ℕ) (events : List Event) : Type 0 where
    pub first : List Event
    pub event : Event
    pub rest : List Event
    pub all : events ≡ first ++ event ∷ rest
    pub own : event.caller ≡ n
    pub asked : event.ask ≡ unbroken (call.MakeLog w)
    pub made : event.reply ≡ reply.Done
    pub none : made_by n rest ≡ []

  behind_call : (w : ℕ) (events first rest : List Event) (event : Event) → events ≡ first ++ event ∷ rest → LogMade w rest → LogMade w events
  behind_call w events first rest event all l = record {
    first = first ++ event ∷ l.first;
    event = l.event;
    rest = l.rest;
    all = all ∙ ap (λ z. first ++ event ∷ z) l.all ∙ sym (append_assoc first (event ∷ l.first) (l.event ∷ l.rest));
    own = l.own;
    asked = l.asked;
    made = l.made;
    none = l.none;
  }

  -- this program ends with a handle of this writer only where its log was made
  abbrev MakesIt : ℕ → Opening → Type 0
  MakesIt w p = (events : List Event) (handle : WriterHandle) → Runs n p events (Ok handle) → (handle.writer ≡ w) × LogMade w events

  not_ok : (why : Stuck) (handle : WriterHandle) → Err why ≡ Ok handle → ⊥
  not_ok why handle is = cc

  left_not : (w : ℕ) (why : Stuck) (handle : WriterHandle) (calls : List Event) → AreCallsOf (asking (leaves w why)) calls (Ok handle) → ⊥
  left_not w why handle [] runs = runs
  left_not w why handle (event ∷ calls) runs = not_ok why handle runs.1.1

  same_writer : (w cap : ℕ) (handle : WriterHandle) (out : Result WriterHandle Stuck) → Ok (opened_of w cap) ≡ out → out ≡ Ok handle → handle.writer ≡ w
  same_writer w cap handle out is ends = (let same : opened_of w cap ≡ handle = same_ok (opened_of w cap) handle out is ends in sym (ap (λ (h : WriterHandle). h.writer) same))
    where
      same_ok : (x y : WriterHandle) (b : Result WriterHandle Stuck) → Ok x ≡ b → b ≡ Ok y → x ≡ y
      same_ok x y b p q = cc

  log_behind : (w cap : ℕ) (handle : WriterHandle) (rest : List Event) (rep : Reply) → Runs n (if_done w (done (Ok (opened_of w cap))) rep) rest (Ok handle) → (handle.writer ≡ w) × (rep ≡ reply.Done) × (made_by n rest ≡ [])
  log_behind w cap handle rest reply.Done runs = (same_writer w cap handle (Ok handle) runs.1 refl, refl, runs.0)
  log_behind w cap handle rest rep runs = absurd (left_not w (trouble_of rep) handle (made_by n rest) runs)

  log_makes : (w cap : ℕ) → MakesIt w (makes_log w cap)
  log_makes w cap events handle runs =
      let c = next_call_of (call.MakeLog w) (if_done w (done (Ok (opened_of w cap)))) events (Ok handle) runs in
      let b = log_behind w cap handle c.rest c.event.reply c.runs in
      (b.0, record { first = c.first; event = c.event; rest = c.rest; all = c.all; own = c.own; asked = c.asked; made = b.1; none = b.2 })

  done_makes : (w : ℕ) (q : Call) (next : Opening) → MakesIt w next → MakesIt w (ask q (if_done w next))
  done_makes w q next makes events handle runs =
      let c = next_call_of q (if_done w next) events (Ok handle) runs in
      let b = behind c.event.reply c.rest c.runs in
      (b.0, behind_call w events c.first c.rest c.event c.all b.1)
    where
      behind : (rep : Reply) (rest : List Event) → Runs n (if_done w next rep) rest (Ok handle) → (handle.writer ≡ w) × LogMade w rest
      behind reply.Done rest more = makes rest handle more
      behind rep rest more = absurd (left_not w (trouble_of rep) handle (made_by n rest) more)

  floored_makes : (w cap : ℕ) → MakesIt w (finds_floor w cap)
  floored_makes w cap events handle runs =
      let c = next_call_of (call.Floor w) (if_floored w cap) events (Ok handle) runs in
      let b = behind c.event.reply c.rest c.runs in
      (b.0, behind_call w events c.first c.rest c.event c.all b.1)
    where
      behind : (rep : Reply) (rest : List Event) → Runs n (if_floored w cap rep) rest (Ok handle) → (handle.writer ≡ w) × LogMade w rest
      behind (reply.Floored floor) rest more = done_makes w (call.MakeHostdir w) (makes_index w cap) (done_makes w (call.MakeIndex w) (makes_log w cap) (log_makes w cap)) rest handle more
      behind rep rest more = absurd (left_not w (trouble_of rep) handle (made_by n rest) more)

  entered_makes : (room host cap : ℕ) (events : List Event) (handle : WriterHandle) → Runs n (enters room host cap) events (Ok handle) → LogMade handle.writer events
  entered_makes room host cap events handle runs =
      let c = next_call_of (call.Enter room host cap) (if_entered cap) events (Ok handle) runs in
      behind_call handle.writer events c.first c.rest c.event c.all (behind c.event.reply c.rest c.runs)
    where
      behind : (rep : Reply) (rest : List Event) → Runs n (if_entered cap rep) rest (Ok handle) → LogMade handle.writer rest
      behind (reply.Entered w) rest more = let b = floored_makes w cap rest handle more in subst (λ x. LogMade x rest) (sym b.0) b.1
      behind rep rest more = absurd (not_ok (trouble_of rep) handle more.1)

  pub opening_makes : (name : List ℕ) (host cap : ℕ) (events : List Event) (handle : WriterHandle) → Runs n (open_program name host cap) events (Ok handle) → LogMade handle.writer events
  opening_makes name host cap events handle runs =
      let c = next_call_of (call.MakeContainer name) (if_made host cap) events (Ok handle) runs in
      behind_call handle.writer events c.first c.rest c.event c.all (behind c.event.reply c.rest c.runs)
    where
      behind : (rep : Reply) (rest : List Event) → Runs n (if_made host cap rep) rest (Ok handle) → LogMade handle.writer rest
      behind (reply.Room room) rest more = entered_makes room host cap rest handle more
      behind rep rest more = absurd (not_ok (trouble_of rep) handle more.1)

  -- ---- what stands then

  -- the writer's row is open
  pub record IsOpenNow (w : ℕ) (state : State) : Type 0 where
    pub row : Row
    pub has : HasRow n w row state
    pub is_open : row.stage ≡ stage.Open
    pub id : row.id ≡ w

  built : (at : Stage) (folder file : Name) (row : Row) (table : Table) (told : Told) → reply.Done ≡ (build_outcome at folder file row table told).reply → (build_outcome at folder file row table told).table ≡ put (at_stage at row) table
  built at folder file row table (Ok Made) is = refl
  built at folder file row table (Ok (Old room)) is = refl
  built at folder file row table (Ok NoRoom) is = absurd (cc)
  built at folder file row table (Ok NoFolder) is = absurd (cc)
  built at folder file row table (Ok answer) is = absurd (cc)
  built at folder file row table (Err trouble.Fault) is = absurd (cc)
  built at folder file row table (Err trouble.NoMemory) is = absurd (cc)

  log_answered : (w : ℕ) (old : State) (rep : Reply) (new : State) → rep ≡ reply.Done → Answers old n (call.MakeLog w) rep new → IsOpenNow w new
  log_answered w old rep new made a =
      elim (match_cases (writer_of n (only stage.Indexed) w old.table.writers) (Refuses NotOpen old rep new) (λ row. MakesAct (log_step row) (build_outcome stage.Open (hostdir_of row.host) (log_path row.host row.id).file row old.table) old rep new) a) as (λ _. IsOpenNow w new) [
        | inl (none, refuses) ↦ absurd (let clash : reply.Done ≡ reply.Refused NotOpen = sym made ∙ refuses.0 in cc)
        | inr (row, held, m) ↦
            let h = is_held n (only stage.Indexed) w old.table.writers row held in
            let new_row : Row = at_stage stage.Open row in
            let rows : new.table.writers ≡ (put new_row old.table).writers = ap (λ (s : State). s.table.writers) m.after ∙ ap (λ (t : Table). t.writers) (built stage.Open (hostdir_of row.host) (log_path row.host row.id).file row old.table m.told (sym made ∙ m.answered)) in
            record {
              row = new_row;
              has = record {
                there = ap (λ rs. row_of w rs) rows ∙ ap (λ k. row_of k (put new_row old.table).writers) (sym h.is) ∙ row_of-with_row new_row old.table.writers row (ap (λ k. row_of k old.table.writers) h.is ∙ h.found);
                owned = h.owned;
              };
              is_open = refl;
              id = h.is;
            }
      ]

  pub log_opens : (w : ℕ) (old : State) (event : Event) → IsStep old event.caller event.ask event.reply event.after → event.caller ≡ n → event.ask ≡ unbroken (call.MakeLog w) → event.reply ≡ reply.Done → IsOpenNow w event.after
  log_opens w old event step own asked made =
      let answers : Answers old event.caller event.ask.call event.reply event.after = step_cases old event.caller event.ask event.reply event.after (Answers old event.caller event.ask.call event.reply event.after) step
      (λ none a. a)
      (λ k some x. let clash : None ≡ Some k = sym (ap (λ (a : Ask). a.stop) asked) ∙ some in absurd (cc)) in
      log_answered w old event.reply event.after made (subst (λ c. Answers old n c event.reply event.after) (ap (λ (a : Ask). a.call) asked) (subst (λ m. Answers old m event.ask.call event.reply event.after) own answers))

  -- the row's room has its index and its log
  pub open_stands : (m : Moment) → IsSoundAt m → (w : ℕ) → (o : IsOpenNow w m.state) → HadItem m o.row.room (Index o.row.host w) × HadItem m o.row.room (Log o.row.host w)
  open_stands m s w o =
      let placed = s.sound.placed w o.row o.has.there in
      let kept = (s.sound.rooms o.row.room placed.0 placed.1).kept w o.row o.has.there refl in
      let at = kept.alive (subst (λ (x : Stage). is_live x ≡ true) (sym o.is_open) refl) in
      let fits = all_fit m.state s.regular w o.row o.has.there in
      let i = at.indexed (subst (λ (x : Stage). 3 ≤ rank x) (sym o.is_open) (omega arith)) in
      let l = at.logged (subst (λ (x : Stage). 4 ≤ rank x) (sym o.is_open) (omega arith)) in
      let id : o.row.id ≡ w = o.id in (
        subst (λ x. HadItem m o.row.room (Index o.row.host x)) id (record {
          is_item = record { in_range = tt; widths = (fits.host, fits.id) };
          bytes = i.0;
          there = ap (λ t. file_told t o.row.room (index_path o.row.host o.row.id)) s.shape.told ∙ ap (λ r. file_in_room r (index_path o.row.host o.row.id)) placed.1 ∙ i.1;
        }),
        subst (λ x. HadItem m o.row.room (Log o.row.host x)) id (record {
          is_item = record { in_range = tt; widths = (fits.host, fits.id) };
          bytes = l.0;
          there = ap (λ t. file_told t o.row.room (log_path o.row.host o.row.id)) s.shape.told ∙ ap (λ r. file_in_room r (log_path o.row.host o.row.id)) placed.1 ∙ l.1;
        }),
      )
