-- Who issues writes: an open writer of the table, and all that is in its index dropping was issued.
use Rattle.std.proofs.Common.{◌≡◌, ℕ, ◌≤◌, ◌<◌, ◌^◌, true, false, nat_eq, List, [], ◌∷◌, ◌++◌, length, Option, Some, None, refl, ap, sym, ◌∙◌, ◌⊎◌, inl, inr, subst, arith}
use Rattle.std.specs.Prelude.{MatchOption, ◌&&◌, if◌then◌else◌}
use Rattle.std.proofs.lemmas.Bool.Decides.{nat_tests}
use Rattle.plfs_types.specs.declared.entries.Entry.{Entry}
use Rattle.index_entry.specs.Spelling.{spelling_all}
use Rattle.index_entry.proofs.Facts.{length-spelling_all}
use Rattle.store_api.specs.declared.tree.Room.{Room}
use Rattle.store_laws.specs.Files.{file_at}
use Rattle.store_laws.proofs.Facts.{prefix_length}
use Rattle.mount_model.specs.declared.call.Ask.{Ask}
use Rattle.mount_model.specs.declared.call.Call.{Call}
use Rattle.mount_model.specs.declared.call.Call.TheVariants.{Write}
use Rattle.mount_model.specs.declared.reply.Reply.{Reply}
use Rattle.mount_model.specs.declared.reply.Reply.TheVariants.{Wrote}
use Rattle.mount_model.specs.declared.reply.Refusal.TheVariants.{NotOpen}
use Rattle.mount_model.specs.declared.row.Row.{Row}
use Rattle.mount_model.specs.declared.row.Stage.TheVariants as stage
use Rattle.mount_model.specs.Paths.{open_path, index_path}
use Rattle.mount_model.specs.State.{State}
use Rattle.mount_model.specs.Table.{row_of, writer_of, only, rank}
use Rattle.mount_model.specs.Making.{OnWriter, Refuses, UnlessRefused}
use Rattle.mount_model.specs.Writing.{write_check, WritesAt}
use Rattle.mount_model.specs.Step.{Answers, IsStep}
use Rattle.mount_model.proofs.Facts.{match_cases, is_held, at_only, step_cases, row_of_id, stop_replies}
use Rattle.mount_sound.specs.Ledger.{Written, entries_in, Ledger}
use Rattle.mount_sound.specs.Issued.{with_write, written_by, noted, issued_after}
use Rattle.mount_sound.specs.Dropping.{bytes_of, IsWriter}
use Rattle.mount_sound.specs.Kept.{Begins, IsAtStage, IsKept}
use Rattle.mount_sound.specs.Landed.{whole}
use Rattle.mount_sound.proofs.Facts.{Fits, all_fit, live_stage, stop_issues}
use Rattle.reader_laws.specs.Moments.{Moment, IsSoundAt, Dropping, IsNamed, issued_by, index_then}
use Rattle.reader_laws.proofs.Gathered.Logs.Fronts.{stands, length-entries}

-- a call on an open writer that wasn't refused
pub open_row : {R : Type 0} (caller writer : ℕ) (old : State) (reply : Reply) (new : State) (does : Row → Type 0) → OnWriter caller (only stage.Open) writer old reply new does
    → (Refuses NotOpen old reply new → R) → ((row : Row) → row.id ≡ writer → row_of writer old.table.writers ≡ Some row → rank row.stage ≡ 4 → does row → R) → R
open_row {R} caller writer old reply new does f refused each = elim (match_cases (writer_of caller (only stage.Open) writer old.table.writers) (Refuses NotOpen old reply new) does f) as (λ _. R) [
  | inl (none, r) ↦ refused r
  | inr (row, held, done) ↦
      let h = is_held caller (only stage.Open) writer old.table.writers row held in
      each row h.is h.found (at_only stage.Open row.stage h.staged) done
]

-- it is of an open writer's row
pub record IsOpenRow (old : State) (number writer : ℕ) : Type 0 where
  pub id : ℕ
  pub row : Row
  pub held : row_of id old.table.writers ≡ Some row
  pub ready : rank row.stage ≡ 4
  pub here : number ≡ row.room
  pub of : writer ≡ row.id

nat_equal : (x y : ℕ) → nat_eq x y ≡ true → x ≡ y
nat_equal x y e = grind (arith, nat_tests)

own_or_not : (before : Ledger) (old : State) (id : ℕ) (row : Row) (w : Written) (number writer : ℕ) → row_of id old.table.writers ≡ Some row → rank row.stage ≡ 4 → (with_write before row w number writer ≡ before number writer) ⊎ IsOpenRow old number writer
own_or_not before old id row w number writer held ready = elim (nat_eq number row.room) as (λ a. nat_eq number row.room ≡ a → ((if a && nat_eq writer row.id then before number writer ++ w ∷ [] else before number writer) ≡ before number writer) ⊎ IsOpenRow old number writer) [
  | true ↦ λ here. elim (nat_eq writer row.id) as (λ b. nat_eq writer row.id ≡ b → ((if true && b then before number writer ++ w ∷ [] else before number writer) ≡ before number writer) ⊎ IsOpenRow old number writer) [
    | true ↦ λ of. inr (record { id = id; row = row; held = held; ready = ready; here = nat_equal number row.room here; of = nat_equal writer row.id of })
    | false ↦ λ of. inl refl
  ] refl
  | false ↦ λ here. inl refl
] refl

noted_or_not : (before : Ledger) (old : State) (id : ℕ) (row : Row) (at : ℕ) (bytes : List ℕ) (reply : Reply) (number writer : ℕ) → row_of id old.table.writers ≡ Some row → rank row.stage ≡ 4 → (noted before (Some row) at bytes reply number writer ≡ before number writer) ⊎ IsOpenRow old number writer
noted_or_not before old id row at bytes (Wrote stamp) number writer held ready = own_or_not before old id row (written_by row stamp at bytes) number writer held ready
noted_or_not before old id row at bytes reply number writer held ready = inl refl

-- a call issues nothing of this writer, or that is an open writer of the table
pub issues_or_not : (before : Ledger) (old : State) (caller : ℕ) (call : Call) (reply : Reply) (new : State) (number writer : ℕ) → Answers old caller call reply new → (issued_after before old call reply number writer ≡ before number writer) ⊎ IsOpenRow old number writer
issues_or_not before old caller (Write id at block) reply new number writer a =
    open_row caller id old reply new (λ row. UnlessRefused (write_check row at (length block)) old reply new (WritesAt row at block old reply new)) a
    (λ r. inl (ap (λ x. noted before (row_of id old.table.writers) at block x number writer) r.0))
    (λ row is held ready does. subst (λ f. (noted before f at block reply number writer ≡ before number writer) ⊎ IsOpenRow old number writer) (sym held) (noted_or_not before old id row at block reply number writer held ready))
issues_or_not before old caller call reply new number writer a = inl refl

-- so it is of a step
pub step_issues_or_not : (before : Ledger) (old : State) (caller : ℕ) (ask : Ask) (reply : Reply) (new : State) (number writer : ℕ) → IsStep old caller ask reply new → (issued_after before old ask.call reply number writer ≡ before number writer) ⊎ IsOpenRow old number writer
step_issues_or_not before old caller ask reply new number writer step = step_cases old caller ask reply new ((issued_after before old ask.call reply number writer ≡ before number writer) ⊎ IsOpenRow old number writer) step
    (λ none a. issues_or_not before old caller ask.call reply new number writer a)
    (λ k some x. inl (ap (λ (l : Ledger). l number writer) (stop_issues before old ask.call reply (stop_replies old caller k ask.call reply new x))))

begun : (landed : ℕ) (issued : List Entry) (file : Option (List ℕ)) → MatchOption file (landed ≡ 0) (Begins issued landed) → whole (bytes_of file) ≤ length issued
begun landed issued None m = omega arith
begun landed issued (Some bytes) m = omega (arith, prefix_length bytes (spelling_all issued) m.prefix, length-spelling_all issued)

same_host : (room : Room) (row : Row) (writer : ℕ) (issued : List Written) (w : IsWriter room writer issued) → Fits row → writer ≡ row.id → IsAtStage room row (entries_in issued) → w.host ≡ row.host
same_host room row writer issued w fits of a =
    sym (w.one_host row.host (inr (inl ([], record { is_item = record { in_range = tt; widths = (fits.host, subst (λ x. x < 2 ^ 64) (sym of) fits.id) }; there = ap (λ x. file_at room (open_path row.host x)) of ∙ a.opened }))))

-- all that is in the dropping of a writer of the table was issued
row_within : (m : Moment) (s : IsSoundAt m) (d : Dropping) (file : Option (List ℕ)) (id : ℕ) (row : Row) → IsNamed d → row_of id m.state.table.writers ≡ Some row → d.room ≡ row.room → d.writer ≡ row.id → ((bytes : List ℕ) → file ≡ Some bytes → d.host ≡ row.host) → index_then m d ≡ file → whole (bytes_of file) ≤ length (issued_by m d)
row_within m s d None id row named held here of host e = omega arith
row_within m s d (Some bytes) id row named held here of host e =
    let st = stands m s d bytes named e in
    let is : row.id ≡ id = row_of_id id m.state.table.writers row held in
    let k : IsKept st.room row (m.issued d.room d.writer) = subst (λ w. IsKept st.room row (m.issued d.room w)) (sym (of ∙ is)) ((s.sound.rooms d.room st.room st.there).kept id row held (sym here)) in
    let file : file_at st.room (index_path row.host row.id) ≡ Some bytes = ap (λ h. file_at st.room (index_path h row.id)) (sym (host bytes refl)) ∙ ap (λ x. file_at st.room (index_path d.host x)) (sym of) ∙ st.at in
    omega (arith, subst (λ f. whole (bytes_of f) ≤ length (entries_in (m.issued d.room d.writer))) file (begun row.landed (entries_in (m.issued d.room d.writer)) (file_at st.room (index_path row.host row.id)) k.index), length-entries (m.issued d.room d.writer))

pub open_within : (m : Moment) (s : IsSoundAt m) (d : Dropping) (file : Option (List ℕ)) → IsNamed d → IsOpenRow m.state d.room d.writer → index_then m d ≡ file → whole (bytes_of file) ≤ length (issued_by m d)
open_within m s d file named o e =
    row_within m s d file o.id o.row named o.held o.here o.of
    (λ bytes is.
    let st = stands m s d bytes named (e ∙ is) in
    let same : o.row.id ≡ o.id = row_of_id o.id m.state.table.writers o.row o.held in
    let k : IsKept st.room o.row (m.issued d.room d.writer) = subst (λ w. IsKept st.room o.row (m.issued d.room w)) (sym (o.of ∙ same)) ((s.sound.rooms d.room st.room st.there).kept o.id o.row o.held (sym o.here)) in
    st.host ∙ same_host st.room o.row d.writer (m.issued d.room d.writer) st.writer (all_fit m.state s.regular o.id o.row o.held) o.of (k.alive (live_stage o.row.stage (omega (arith, o.ready)))))
    e
