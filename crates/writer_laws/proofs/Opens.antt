-- What an opening leaves.
use Rattle.std.proofs.Common.{◌≡◌, ℕ, ◌+◌, ◌*◌, ◌^◌, ◌≤◌, List, [], ◌∷◌, ◌++◌, Some, None, refl, sym, ap, ◌∙◌, inl, inr, subst, arith, true, false, nat_eq}
use Rattle.std.specs.Prelude.{Result, Ok, Err, if◌then◌else◌}
use Rattle.std.specs.List.{All}
use Rattle.std.proofs.lemmas.List.Elements.{All-head, All-tail}
use Rattle.std.proofs.lemmas.Bool.Decides.{nat_tests}
use Rattle.mount_model.specs.declared.stuck.Stuck.{Stuck}
use Rattle.mount_model.specs.Program.{Program, done, ask}
use Rattle.mount_model.specs.declared.call.Ask.{Ask}
use Rattle.mount_model.specs.declared.call.Call.{Call}
use Rattle.mount_model.specs.declared.call.Call.TheVariants as call
use Rattle.mount_model.specs.declared.reply.Reply.{Reply}
use Rattle.mount_model.specs.declared.reply.Reply.TheVariants as reply
use Rattle.mount_model.specs.declared.reply.Refusal.{Refusal}
use Rattle.mount_model.specs.declared.row.Row.{Row}
use Rattle.mount_model.specs.Table.{row_of}
use Rattle.mount_model.specs.State.{State, Table}
use Rattle.mount_model.specs.History.{Event, state_after}
use Rattle.mount_model.specs.Entering.{next_id, entered, draw_check, enter_outcome, EntersAs}
use Rattle.mount_model.specs.Regular.{IsDrawn, IsRegular}
use Rattle.mount_model.specs.Step.{Answers}
use Rattle.mount_sound.specs.Owed.{IsLawful}
use Rattle.writer_flow.specs.declared.handle.WriterHandle.{WriterHandle}
use Rattle.writer_flow.specs.Handle.{opened_of}
use Rattle.writer_flow.specs.Ending.{trouble}
use Rattle.writer_flow.specs.Opening.{Opening, leaves, if_done, makes_log, makes_index, makes_hostdir, if_floored, finds_floor, if_entered, if_made, open_program}
use Rattle.mount_model.specs.Running.{Runs}
use Rattle.mount_model.proofs.Flows.Facts.{runs_next}
use Rattle.writer_laws.proofs.Regulars.{AreRegular, are_regular}
use Rattle.writer_laws.specs.Counting.{entry_count, wrote_by, StaysInAt}
use Rattle.writer_laws.specs.Knowing.{HasRow, IsOpened}
use Rattle.writer_laws.proofs.Stops.{whole_answers}
use Rattle.writer_laws.proofs.Steps.{step_kept, unless_refused, enter_table}
use Rattle.writer_laws.proofs.Machines.{reached, finished}

-- ---- a new row

new_found : (new : Row) (rows : List Row) → row_of new.id rows ≡ None → row_of new.id (rows ++ new ∷ []) ≡ Some new
new_found new [] e = let t : nat_eq new.id new.id ≡ true = grind (arith, nat_tests) in rw t refl
new_found new (r ∷ rows) e = elim (nat_eq r.id new.id) as (λ b. (if b then Some r else row_of new.id rows) ≡ None → (if b then Some r else row_of new.id (rows ++ new ∷ [])) ≡ Some new) [ true ↦ λ f. cc | false ↦ λ f. new_found new rows f ] e

undrawn : (mount serial last id next : ℕ) → serial ≤ last → id ≡ mount * 2 ^ 32 + serial → next ≡ mount * 2 ^ 32 + (last + 1) → nat_eq id next ≡ false
undrawn mount serial last id next l e f = let away : id ≡ next → ⊥ = λ s. omega arith in grind (arith, nat_tests)

never_drawn : (old : State) (rows : List Row) → All (λ (row : Row). IsDrawn old row.id) rows → row_of (next_id old) rows ≡ None
never_drawn old [] a = refl
never_drawn old (r ∷ rows) a =
    let d : IsDrawn old r.id = All-head (λ (row : Row). IsDrawn old row.id) r rows a in
    rw (undrawn old.mount d.0 old.serial r.id (next_id old) d.2 d.3 refl) (never_drawn old rows (All-tail (λ (row : Row). IsDrawn old row.id) r rows a))

entered_number : (n m : ℕ) (rep : Reply) → rep ≡ reply.Entered n → rep ≡ reply.Entered m → n ≡ m
entered_number n m rep e f = cc

not_refused : (why : Refusal) (w : ℕ) (rep : Reply) → rep ≡ reply.Refused why → rep ≡ reply.Entered w → ⊥
not_refused why w rep e f = cc

-- a caller has entered: the writer is its own, and has no entries
pub record EnteredOwn (me w room host : ℕ) (new : State) : Type 0 where
  pub row : Row
  pub has : HasRow me w row new
  pub none : entry_count row ≡ 0
  pub placed : (row.room ≡ room) × (row.host ≡ host)

pub enter_own : (me room host most w : ℕ) (old : State) (rep : Reply) (new : State) → IsRegular old → Answers old me (call.Enter room host most) rep new → rep ≡ reply.Entered w → EnteredOwn me w room host new
enter_own me room host most w old rep new regular a said = elim (unless_refused (draw_check old room) old rep new (EntersAs me room host most old rep new) a) as (λ _. EnteredOwn me w room host new) [
  | inl (why, refused) ↦ let f = refused.0 in absurd (not_refused why w rep f said)
  | inr f ↦
      let mine : Row = entered old me room host most in
      let t : new.table ≡ (enter_outcome mine old.table f.makes.told).table = ap (λ (s : State). s.table) f.makes.after in
      elim (enter_table mine old.table f.makes.told) as (λ _. EnteredOwn me w room host new) [
        | inl (told, is) ↦
            let rows : new.table.writers ≡ old.table.writers ++ mine ∷ [] = ap (λ (s : Table). s.writers) t ∙ is in
            let number : next_id old ≡ w = entered_number (next_id old) w rep (f.makes.answered ∙ told) said in
            let at : row_of (next_id old) (old.table.writers ++ mine ∷ []) ≡ Some mine = new_found mine old.table.writers (never_drawn old old.table.writers regular.drawn) in
            record {
              row = mine;
              has = record { there = subst (λ rs. row_of w rs ≡ Some mine) (sym rows) (subst (λ i. row_of i (old.table.writers ++ mine ∷ []) ≡ Some mine) number at); owned = refl };
              none = refl;
              placed = (refl, refl);
            }
        | inr (never, is) ↦ absurd (never w (sym f.makes.answered ∙ said))
      ]
]

-- ---- the opening

-- The next call was made, from a regular state.
record Asked {R : Type 0} (me : ℕ) (q : Call) (k : Reply → Program Call Reply R) (last : State) (out : R) : Type 0 where
  mid : State
  rep : Reply
  next : State
  rest : List Event
  regular : IsRegular mid
  answers : Answers mid me q rep next
  all : AreRegular next rest
  legal : IsLawful next rest
  runs : Runs me (k rep) rest out
  ends : state_after next rest ≡ last

asks : {R : Type 0} (me : ℕ) (q : Call) (k : Reply → Program Call Reply R) (start : State) (events : List Event) (out : R) → AreRegular start events → IsLawful start events → Runs me (ask q k) events out → Asked me q k (state_after start events) out
asks me q k start [] out a l r = absurd r
asks me q k start (event ∷ events) out a l r = elim (runs_next me q k event events out r) as (λ _. Asked me q k (state_after event.after events) out) [
  | inl (other, r') ↦ asks me q k event.after events out a.1 l.2 r'
  | inr (mine, asked, r') ↦ record {
    mid = start;
    rep = event.reply;
    next = event.after;
    rest = events;
    regular = a.0;
    answers = subst (λ c. Answers start me c event.reply event.after) (ap (λ (a : Ask). a.call) asked) (subst (λ n. Answers start n event.ask.call event.reply event.after) mine (whole_answers start event.caller event.ask event.reply event.after (ap (λ (a : Ask). a.stop) asked) l.1));
    all = a.1;
    legal = l.2;
    runs = r';
    ends = refl;
  }
]

err_not_ok : (why : Stuck) (handle : WriterHandle) (a : Result WriterHandle Stuck) → Err why ≡ a → a ≡ Ok handle → ⊥
err_not_ok why handle a e f = cc

-- after a trouble there is no handle
no_handle : (me : ℕ) (why : Stuck) (events : List Event) (out : Result WriterHandle Stuck) (handle : WriterHandle) → out ≡ Ok handle → Runs me (done (Err why)) events out → ⊥
no_handle me why events out handle e r = err_not_ok why handle out r.1 e

no_handle_left : (me w : ℕ) (why : Stuck) (events : List Event) (out : Result WriterHandle Stuck) (handle : WriterHandle) → out ≡ Ok handle → Runs me (leaves w why) events out → ⊥
no_handle_left me w why [] out handle e r = r
no_handle_left me w why (event ∷ events) out handle e r = elim (runs_next me (call.Exit w) (λ reply. done (Err why)) event events out r) as (λ _. ⊥) [
  | inl (other, r') ↦ no_handle_left me w why events out handle e r'
  | inr (mine, asked, r') ↦ no_handle me why events out handle e r'
]

empty : (row after : Row) (told : ℕ) → entry_count row ≡ 0 → told ≡ 0 → entry_count after ≡ entry_count row + told → entry_count after ≡ 0
empty row after told e n f = omega arith

same_ok : (a b : WriterHandle) (o : Result WriterHandle Stuck) → Ok a ≡ o → o ≡ Ok b → a ≡ b
same_ok a b o e f = cc

-- the last call was answered
opened_so : (me w most : ℕ) (row : Row) (start : State) (events : List Event) (out : Result WriterHandle Stuck) (handle : WriterHandle) → HasRow me w row start → entry_count row ≡ 0 → out ≡ Ok handle → IsLawful start events → Runs me (done (Ok (opened_of w most))) events out → IsOpened me handle (state_after start events)
opened_so me w most row start events out handle h none e l r =
    let f = finished me w row (Ok (opened_of w most)) start events out h l r in
    let is : opened_of w most ≡ handle = same_ok (opened_of w most) handle out f.1 e in
    subst (λ x. IsOpened me x (state_after start events)) is (record { row = row; knows = record { has = f.0; pending = omega arith }; none = none; fresh = refl })

-- this program leaves the writer open and empty, where it ends with a handle
abbrev Opens : ℕ → ℕ → Opening → Type 0
Opens me w p = (row : Row) (start : State) (events : List Event) (out : Result WriterHandle Stuck) (handle : WriterHandle) → HasRow me w row start → entry_count row ≡ 0 → out ≡ Ok handle → IsLawful start events → Runs me p events out → IsOpened me handle (state_after start events)

asks_on : (me w : ℕ) (q : Call) (k : Reply → Opening) → ((rep : Reply) → StaysInAt w q rep) → ((rep : Reply) → wrote_by w q rep ≡ 0) → ((rep : Reply) → Opens me w (k rep)) → Opens me w (ask q k)
asks_on me w q k stays none next row start events out handle h zero e l r =
    let g = reached me w row q k start events out h l r in
    let kept = step_kept me w row g.mid me q g.rep g.next g.has g.answers (stays g.rep) in
    let none_yet : entry_count kept.after ≡ 0 = empty row kept.after (wrote_by w q g.rep) zero (none g.rep) kept.total in
    subst (IsOpened me handle) g.ends (next g.rep kept.after g.next g.rest out handle kept.has none_yet e g.legal g.runs)

fails : (me w : ℕ) (why : Stuck) → Opens me w (leaves w why)
fails me w why row start events out handle h zero e l r = absurd (no_handle_left me w why events out handle e r)

if_done_opens : (me w : ℕ) (p : Opening) → Opens me w p → (rep : Reply) → Opens me w (if_done w p rep)
if_done_opens me w p next reply.Done = next
if_done_opens me w p next rep = fails me w (trouble rep)

log_opens : (me w most : ℕ) → Opens me w (makes_log w most)
log_opens me w most = asks_on me w (call.MakeLog w) (if_done w (done (Ok (opened_of w most)))) (λ rep. tt) (λ rep. refl) (if_done_opens me w (done (Ok (opened_of w most))) (opened_so me w most))

index_opens : (me w most : ℕ) → Opens me w (makes_index w most)
index_opens me w most = asks_on me w (call.MakeIndex w) (if_done w (makes_log w most)) (λ rep. tt) (λ rep. refl) (if_done_opens me w (makes_log w most) (log_opens me w most))

hostdir_opens : (me w most : ℕ) → Opens me w (makes_hostdir w most)
hostdir_opens me w most = asks_on me w (call.MakeHostdir w) (if_done w (makes_index w most)) (λ rep. tt) (λ rep. refl) (if_done_opens me w (makes_index w most) (index_opens me w most))

if_floored_opens : (me w most : ℕ) (rep : Reply) → Opens me w (if_floored w most rep)
if_floored_opens me w most (reply.Floored floor) = hostdir_opens me w most
if_floored_opens me w most rep = fails me w (trouble rep)

floor_opens : (me w most : ℕ) → Opens me w (finds_floor w most)
floor_opens me w most = asks_on me w (call.Floor w) (if_floored w most) (λ rep. tt) (λ rep. refl) (if_floored_opens me w most)

-- the reply to Enter has come
after_enter : (me room host most : ℕ) (rep : Reply) (before start : State) (events : List Event) (out : Result WriterHandle Stuck) (handle : WriterHandle) → IsRegular before → Answers before me (call.Enter room host most) rep start → out ≡ Ok handle → IsLawful start events → Runs me (if_entered most rep) events out → IsOpened me handle (state_after start events)
after_enter me room host most (reply.Entered w) before start events out handle regular a e l r =
    let o = enter_own me room host most w before (reply.Entered w) start regular a refl in
    floor_opens me w most o.row start events out handle o.has o.none e l r
after_enter me room host most rep before start events out handle regular a e l r = absurd (no_handle me (trouble rep) events out handle e r)

-- the reply to MakeContainer has come
after_make : (me host most : ℕ) (rep : Reply) (start : State) (events : List Event) (out : Result WriterHandle Stuck) (handle : WriterHandle) → AreRegular start events → out ≡ Ok handle → IsLawful start events → Runs me (if_made host most rep) events out → IsOpened me handle (state_after start events)
after_make me host most (reply.Room room) start events out handle regular e l r =
    let g = asks me (call.Enter room host most) (if_entered most) start events out regular l r in
    subst (IsOpened me handle) g.ends (after_enter me room host most g.rep g.mid g.next g.rest out handle g.regular g.answers e g.legal g.runs)
after_make me host most rep start events out handle regular e l r = absurd (no_handle me (trouble rep) events out handle e r)

-- An opening, in a history of regular states.
pub open_ends : (me : ℕ) (name : List ℕ) (host most : ℕ) (start : State) (events : List Event) (out : Result WriterHandle Stuck) (handle : WriterHandle) → AreRegular start events → IsLawful start events → Runs me (open_program name host most) events out → out ≡ Ok handle → IsOpened me handle (state_after start events)
open_ends me name host most start events out handle regular l r e =
    let g = asks me (call.MakeContainer name) (if_made host most) start events out regular l r in
    subst (IsOpened me handle) g.ends (after_make me host most g.rep g.next g.rest out handle g.all e g.legal g.runs)

-- the same from one regular state on
pub opened_ends : (me : ℕ) (name : List ℕ) (host most : ℕ) (start : State) (events : List Event) (out : Result WriterHandle Stuck) (handle : WriterHandle) → IsRegular start → IsLawful start events → Runs me (open_program name host most) events out → out ≡ Ok handle → IsOpened me handle (state_after start events)
opened_ends me name host most start events out handle regular legal runs is = open_ends me name host most start events out handle (are_regular start events regular legal) legal runs is
