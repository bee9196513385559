-- What a close leaves.
use Rattle.std.proofs.Common.{◌≡◌, ℕ, List, [], ◌∷◌, ◌++◌, Option, Some, None, refl, sym, ap, ◌∙◌, subst, true, false, Bool}
use Rattle.std.specs.Prelude.{Result, Ok, Err}
use Rattle.mount_model.specs.declared.stuck.Stuck.{Stuck}
use Rattle.mount_model.specs.declared.stuck.Stuck.TheVariants as stuck
use Rattle.mount_model.specs.Program.{done}
use Rattle.mount_model.specs.declared.call.Call.TheVariants as call
use Rattle.mount_model.specs.declared.reply.Reply.{Reply}
use Rattle.mount_model.specs.declared.reply.Reply.TheVariants as reply
use Rattle.mount_model.specs.declared.row.Row.{Row}
use Rattle.mount_model.specs.State.{State}
use Rattle.mount_model.specs.History.{Event, state_after}
use Rattle.mount_model.specs.Step.{Answers}
use Rattle.mount_sound.specs.Owed.{IsLawful}
use Rattle.mount_sound.proofs.Facts.{lawful_first, lawful_rest}
use Rattle.writer_flow.specs.declared.handle.WriterHandle.{WriterHandle}
use Rattle.writer_flow.specs.declared.handle.WriterOut.{WriterOut}
use Rattle.writer_flow.specs.Handle.{closing_of}
use Rattle.writer_flow.specs.Ending.{stays_with, gone_with, trouble}
use Rattle.writer_flow.specs.Syncing.{sync_program}
use Rattle.writer_flow.specs.Closing.{if_left, if_put, exits, puts_meta, if_kept, after_sync, close_from, close_program}
use Rattle.mount_model.specs.Running.{Runs}
use Rattle.writer_laws.specs.Counting.{entry_count}
use Rattle.writer_laws.specs.Knowing.{Knows, StaysOpen, IsClosed}
use Rattle.turn_object.proofs.Facts.{state_append}
use Rattle.mount_model.proofs.Flows.Facts.{runs_in_two}
use Rattle.writer_laws.proofs.Own.{put_meta_own, exit_own}
use Rattle.writer_laws.proofs.Machines.{reached, finished, sync_ends}

some_handle : (a b : WriterHandle) (o : Option WriterHandle) → o ≡ Some a → o ≡ Some b → a ≡ b
some_handle a b o e f = cc

ok_number : (m n : ℕ) (a b : Result ℕ Stuck) → a ≡ Ok m → a ≡ b → b ≡ Ok n → n ≡ m
ok_number m n a b e f g = cc

never_ok : (why : Stuck) (n : ℕ) (b : Result ℕ Stuck) → Err why ≡ b → b ≡ Ok n → ⊥
never_ok why n b e f = cc

no_handle : (left : WriterHandle) (o : Option WriterHandle) → None ≡ o → o ≡ Some left → ⊥
no_handle left o a b = cc

-- it failed, and the writer stays with this handle
stays_so : (me : ℕ) (handle first : WriterHandle) (row : Row) (count : ℕ) (why : Stuck) (start : State) (events : List Event) (out : WriterOut) → handle.writer ≡ first.writer → Knows me handle row start → entry_count row ≡ count → (handle.closing ≡ true → handle.landed ≡ count) → IsLawful start events → Runs me (done (stays_with handle (Err why))) events out → IsClosed me first count out (state_after start events)
stays_so me handle first row count why start events out same k total told l r =
    let f = finished me handle.writer row (stays_with handle (Err why)) start events out k.has l r in
    record {
      stays = λ left e.
          let is : handle ≡ left = some_handle handle left out.handle (sym (ap (λ (o : WriterOut). o.handle) f.1)) e in
          subst (λ h. StaysOpen me first h count (state_after start events)) is (record { row = row; same = same; knows = record { has = f.0; pending = k.pending }; total = total; told = told });
      number = λ n e. let a : Err why ≡ out.result = ap (λ (o : WriterOut). o.result) f.1 in absurd (never_ok why n out.result a e);
    }

gone_so : (me : ℕ) (first : WriterHandle) (count : ℕ) (result : Result ℕ Stuck) (state : State) (events : List Event) (out : WriterOut) → ((n : ℕ) → result ≡ Ok n → n ≡ count) → Runs me (done (gone_with result)) events out → IsClosed me first count out state
gone_so me first count result state events out number r =
    let f = r.1 in
    record {
      stays = λ left e. let a : None ≡ out.handle = ap (λ (o : WriterOut). o.handle) f in absurd (no_handle left out.handle a e);
      number = λ n e. number n (ap (λ (o : WriterOut). o.result) f ∙ e);
    }

-- the reply to Exit has come
after_exit : (me : ℕ) (handle first : WriterHandle) (row : Row) (count : ℕ) (rep : Reply) (before start : State) (events : List Event) (out : WriterOut) → handle.writer ≡ first.writer → Knows me handle row before → entry_count row ≡ count → handle.landed ≡ count → Answers before me (call.Exit handle.writer) rep start → IsLawful start events → Runs me (if_left handle rep) events out → IsClosed me first count out (state_after start events)
after_exit me handle first row count reply.Done before start events out same k total told a l r = gone_so me first count (Ok handle.landed) (state_after start events) events out (λ n e. ok_number handle.landed n (Ok handle.landed) (Ok handle.landed) refl refl e ∙ told) r
after_exit me handle first row count reply.Fault before start events out same k total told a l r = gone_so me first count (Err stuck.Fault) (state_after start events) events out (λ n e. cc) r
after_exit me handle first row count rep before start events out same k total told a l r =
    let h = exit_own me handle.writer row before rep start k.has a (λ e. cc) (λ e. cc) in
    stays_so me handle first row count (trouble rep) start events out same (record { has = h; pending = k.pending }) total (λ c. told) l r

before_exit : (me : ℕ) (handle first : WriterHandle) (row : Row) (count : ℕ) (start : State) (events : List Event) (out : WriterOut) → handle.writer ≡ first.writer → Knows me handle row start → entry_count row ≡ count → handle.landed ≡ count → IsLawful start events → Runs me (exits handle) events out → IsClosed me first count out (state_after start events)
before_exit me handle first row count start events out same k total told l r =
    let g = reached me handle.writer row (call.Exit handle.writer) (if_left handle) start events out k.has l r in
    subst (IsClosed me first count out) g.ends
    (after_exit me handle first row count g.rep g.mid g.next g.rest out same (record { has = g.has; pending = k.pending }) total told g.answers g.legal g.runs)

-- the reply to PutMeta has come
after_meta : (me : ℕ) (handle first : WriterHandle) (row : Row) (count : ℕ) (rep : Reply) (start : State) (events : List Event) (out : WriterOut) → handle.writer ≡ first.writer → Knows me handle row start → entry_count row ≡ count → handle.landed ≡ count → IsLawful start events → Runs me (if_put handle rep) events out → IsClosed me first count out (state_after start events)
after_meta me handle first row count reply.Done start events out same k total told l r = before_exit me handle first row count start events out same k total told l r
after_meta me handle first row count rep start events out same k total told l r = stays_so me handle first row count (trouble rep) start events out same k total (λ c. told) l r

before_meta : (me : ℕ) (handle first : WriterHandle) (row : Row) (count : ℕ) (start : State) (events : List Event) (out : WriterOut) → handle.writer ≡ first.writer → Knows me handle row start → entry_count row ≡ count → handle.landed ≡ count → IsLawful start events → Runs me (puts_meta handle) events out → IsClosed me first count out (state_after start events)
before_meta me handle first row count start events out same k total told l r =
    let g = reached me handle.writer row (call.PutMeta handle.writer) (if_put (closing_of handle)) start events out k.has l r in
    let o = put_meta_own me handle.writer row g.mid g.rep g.next g.has g.answers in
    subst (IsClosed me first count out) g.ends
    (after_meta me (closing_of handle) first o.after count g.rep g.next g.rest out same (record { has = o.has; pending = k.pending ∙ sym o.pending }) (o.total ∙ total) told g.legal g.runs)

-- the sync has ended
kept_on : (me : ℕ) (handle first : WriterHandle) (row : Row) (count : ℕ) (result : Result ℕ Stuck) (start : State) (events : List Event) (out : WriterOut) → handle.writer ≡ first.writer → Knows me handle row start → entry_count row ≡ count → (handle.closing ≡ true → handle.landed ≡ count) → ((n : ℕ) → result ≡ Ok n → handle.landed ≡ count) → IsLawful start events → Runs me (if_kept (Some handle) result) events out → IsClosed me first count out (state_after start events)
kept_on me handle first row count (Ok n) start events out same k total told number l r = before_meta me handle first row count start events out same k total (number n refl) l r
kept_on me handle first row count (Err why) start events out same k total told number l r = stays_so me handle first row count why start events out same k total told l r

not_both : (a b : Bool) → a ≡ b → b ≡ false → a ≡ true → ⊥
not_both a b e f g = cc

-- A close, of a writer whose handle tells of its buffer.
pub close_ends : (me : ℕ) (handle : WriterHandle) (row : Row) (start : State) (events : List Event) (out : WriterOut) → Knows me handle row start → (handle.closing ≡ true → handle.landed ≡ entry_count row) → IsLawful start events → Runs me (close_program handle) events out → IsClosed me handle (entry_count row) out (state_after start events)
close_ends me handle row start events out k told l r =
    elim handle.closing as (λ b. handle.closing ≡ b → (b ≡ true → handle.landed ≡ entry_count row) → Runs me (close_from b handle) events out → IsClosed me handle (entry_count row) out (state_after start events)) [
      | true ↦ λ is all r'. before_meta me handle handle row (entry_count row) start events out refl k refl (all refl) l r'
      | false ↦ λ is all r'.
          let s = runs_in_two me (sync_program handle) after_sync events out r' in
          let legal : IsLawful start (s.first ++ s.rest) = subst (IsLawful start) s.all l in
          let y = sync_ends me handle row start s.first s.value k (lawful_first start s.first s.rest legal) s.runs in
          let then_runs : Runs me (if_kept (Some y.handle) s.value.result) s.rest out = subst (λ h. Runs me (if_kept h s.value.result) s.rest out) y.kept s.then_runs in
          subst (IsClosed me handle (entry_count row) out) (sym (ap (state_after start) s.all ∙ state_append start s.first s.rest))
          (kept_on me y.handle handle y.row (entry_count row) s.value.result (state_after start s.first) s.rest out y.same y.knows y.total (λ c. absurd (not_both y.handle.closing handle.closing y.closing_is is c)) (λ n e. let q = y.number n e in q.1 ∙ q.0) (lawful_rest start s.first s.rest legal) then_runs)
    ] refl told r
