-- What is issued behind a truncate has a later stamp.
use Rattle.std.proofs.Common.{◌≡◌, ℕ, ◌<◌, ◌≤◌, true, false, nat_eq, List, [], ◌∷◌, ◌++◌, length, Some, refl, sym, ap, ◌∙◌, inl, inr, subst, arith, append_assoc, Ok, Err}
use Rattle.std.specs.Prelude.{◌&&◌, if◌then◌else◌, slice_get}
use Rattle.std.specs.List.{AllByRecursion}
use Rattle.std.proofs.lemmas.List.{append-nil}
use Rattle.std.proofs.lemmas.Bool.Decides.{nat_tests}
use Rattle.plfs_types.specs.declared.names.Path.{Path}
use Rattle.store_api.specs.declared.step.Answer.TheVariants.{Made, NoFolder, NoRoom}
use Rattle.store_api.specs.declared.store.Trouble.TheVariants.{Fault, NoMemory as NoneLeft}
use Rattle.store_laws.specs.Files.{file_at}
use Rattle.mount_model.specs.declared.call.Call.{Call}
use Rattle.mount_model.specs.declared.call.Call.TheVariants.{Write}
use Rattle.mount_model.specs.declared.reply.Reply.{Reply}
use Rattle.mount_model.specs.declared.reply.Reply.TheVariants.{Refused, Wrote}
use Rattle.mount_model.specs.declared.row.Row.{Row}
use Rattle.mount_model.specs.History.{Event}
use Rattle.mount_model.specs.Making.{Refuses, Told, UnlessRefused}
use Rattle.mount_model.specs.Paths.{trunc_path}
use Rattle.mount_model.specs.State.{State, Table}
use Rattle.mount_model.specs.Step.{Answers, IsStep}
use Rattle.mount_model.specs.Table.{rank, row_of}
use Rattle.mount_model.specs.Writing.{WritesAt, stamp_at, write_check, write_outcome}
use Rattle.mount_model.proofs.Facts.{match_cases, step_cases, stop_replies}
use Rattle.mount_sound.specs.Issued.{issued_after, noted, with_write, written_by}
use Rattle.mount_sound.specs.Kept.{IsKept}
use Rattle.mount_sound.specs.Ledger.{Ledger, Written}
use Rattle.mount_sound.specs.Owed.{IsLawful}
use Rattle.mount_sound.proofs.Facts.{live_stage, stop_issues}
use Rattle.reader_laws.specs.Moments.{HadTrunc, IsSoundAt, Moment, moment_after, next_moment}
use Rattle.reader_laws.proofs.Gathered.Moments.Bounds.{trunc_stays}
use Rattle.reader_laws.proofs.Gathered.Facts.{All-append, in_a_room, in_tree, sound_after}
use Rattle.reader_laws.proofs.Gathered.Moments.Issuing.{open_row}

-- the later ones are the earlier ones, and such as have stamps above this one
abbrev pub IsMoreAbove : ℕ → List Written → List Written → Type 0
IsMoreAbove stamp earlier later = (more : List Written) × (later ≡ earlier ++ more) × AllByRecursion (λ (w : Written). stamp < w.entry.stamp) more

none_more : (stamp : ℕ) (writes : List Written) → IsMoreAbove stamp writes writes
none_more stamp writes = ([], sym (append-nil writes), tt)

both_more : (stamp : ℕ) (a b c : List Written) → IsMoreAbove stamp a b → IsMoreAbove stamp b c → IsMoreAbove stamp a c
both_more stamp a b c one other = (
  one.0 ++ other.0,
  other.1 ∙ ap (λ z. z ++ other.0) one.1 ∙ append_assoc a one.0 other.0,
  All-append (λ (w : Written). stamp < w.entry.stamp) one.0 other.0 one.2 other.2,
)

-- ---- one write

same_number : (a b : ℕ) → nat_eq a b ≡ true → a ≡ b
same_number a b e = grind (arith, nat_tests)

noted_above : (stamp : ℕ) (before : Ledger) (row : Row) (w : Written) (number writer : ℕ) → (number ≡ row.room → stamp < w.entry.stamp) → IsMoreAbove stamp (before number writer) (with_write before row w number writer)
noted_above stamp before row w number writer above = elim (nat_eq number row.room) as (λ a. nat_eq number row.room ≡ a → IsMoreAbove stamp (before number writer) (if a && nat_eq writer row.id then before number writer ++ w ∷ [] else before number writer)) [
  | true ↦ λ here. elim (nat_eq writer row.id) as (λ b. IsMoreAbove stamp (before number writer) (if true && b then before number writer ++ w ∷ [] else before number writer)) [
    | true ↦ (w ∷ [], refl, (above (same_number number row.room here), tt))
    | false ↦ none_more stamp (before number writer)
  ]
  | false ↦ λ here. none_more stamp (before number writer)
] refl

wrote_stamp : (stamp : ℕ) (row : Row) (at len : ℕ) (table : Table) (told : Told) (other : ℕ) → Wrote other ≡ (write_outcome stamp row at len table told).reply → other ≡ stamp
wrote_stamp stamp row at len table (Ok Made) other e = cc
wrote_stamp stamp row at len table (Ok NoRoom) other e = absurd (cc)
wrote_stamp stamp row at len table (Ok NoFolder) other e = absurd (cc)
wrote_stamp stamp row at len table (Ok answer) other e = absurd (cc)
wrote_stamp stamp row at len table (Err Fault) other e = absurd (cc)
wrote_stamp stamp row at len table (Err NoneLeft) other e = absurd (cc)

-- a write's stamp is above its writer's floor
above_floor : (old : State) (row : Row) (at : ℕ) (block : List ℕ) (stamp : ℕ) (new : State) → UnlessRefused (write_check row at (length block)) old (Wrote stamp) new (WritesAt row at block old (Wrote stamp) new) → row.floor < stamp
above_floor old row at block stamp new does = elim (match_cases (write_check row at (length block)) (WritesAt row at block old (Wrote stamp) new) (λ why. Refuses why old (Wrote stamp) new) does) as (λ _. row.floor < stamp) [
  | inr (why, some, refused) ↦ absurd (let e : Wrote stamp ≡ Refused why = refused.0 in cc)
  | inl (none, w) ↦
      let is : stamp ≡ stamp_at w.time row = wrote_stamp (stamp_at w.time row) row at (length block) old.table w.makes.told stamp w.makes.answered in
      omega (arith, is)
]

-- the floor of an open writer is at least the stamp of each truncate of its room
floor_least : (m : Moment) → IsSoundAt m → (writer : ℕ) (row : Row) (stamp size : ℕ) → row_of writer m.state.table.writers ≡ Some row → rank row.stage ≡ 4 → HadTrunc m row.room stamp size → stamp ≤ row.floor
floor_least m s writer row stamp size held ready had =
    let p = s.sound.placed writer row held in
    let k : IsKept p.0 row (m.issued row.room writer) = (s.sound.rooms row.room p.0 p.1).kept writer row held refl in
    let path : Path = trunc_path stamp size in
    let r = in_a_room (slice_get s.shape.tree.rooms row.room) path had.bytes (in_tree m s row.room path had.bytes had.there) in
    let both : Some r.0 ≡ Some p.0 = sym r.1 ∙ p.1 in
    let same : r.0 ≡ p.0 = cc in
    (k.alive (live_stage row.stage (omega (arith, ready)))).floored (omega (arith, ready)) stamp size had.bytes (record { is_item = had.is_item; there = subst (λ x. file_at x path ≡ Some had.bytes) same r.2 })

-- ---- one step

module _ (m : Moment) (sound : IsSoundAt m) (number writer stamp size : ℕ) (had : HadTrunc m number stamp size) where
  write_above : (id : ℕ) (row : Row) (at : ℕ) (block : List ℕ) (reply : Reply) (new : State) → row_of id m.state.table.writers ≡ Some row → rank row.stage ≡ 4 → UnlessRefused (write_check row at (length block)) m.state reply new (WritesAt row at block m.state reply new)
      → IsMoreAbove stamp (m.issued number writer) (noted m.issued (Some row) at block reply number writer)
  write_above id row at block (Wrote later) new held ready does = noted_above stamp m.issued row (written_by row later at block) number writer
      (λ here. omega (arith, above_floor m.state row at block later new does, floor_least m sound id row stamp size held ready (subst (λ r. HadTrunc m r stamp size) here had)))
  write_above id row at block reply new held ready does = none_more stamp (m.issued number writer)

  call_above : (caller : ℕ) (call : Call) (reply : Reply) (new : State) → Answers m.state caller call reply new → IsMoreAbove stamp (m.issued number writer) (issued_after m.issued m.state call reply number writer)
  call_above caller (Write id at block) reply new a = open_row caller id m.state reply new (λ row. UnlessRefused (write_check row at (length block)) m.state reply new (WritesAt row at block m.state reply new)) a
      (λ r. subst (λ x. IsMoreAbove stamp (m.issued number writer) (noted m.issued (row_of id m.state.table.writers) at block x number writer)) (sym r.0) (none_more stamp (m.issued number writer)))
      (λ row is held ready does. subst (λ f. IsMoreAbove stamp (m.issued number writer) (noted m.issued f at block reply number writer)) (sym held) (write_above id row at block reply new held ready does))
  call_above caller call reply new a = none_more stamp (m.issued number writer)

  step_above : (event : Event) → IsStep m.state event.caller event.ask event.reply event.after → IsMoreAbove stamp (m.issued number writer) ((next_moment m event).issued number writer)
  step_above event step = step_cases m.state event.caller event.ask event.reply event.after (IsMoreAbove stamp (m.issued number writer) ((next_moment m event).issued number writer)) step
      (λ none a. call_above event.caller event.ask.call event.reply event.after a)
      (λ k some x. subst (IsMoreAbove stamp (m.issued number writer)) (sym (ap (λ (l : Ledger). l number writer) (stop_issues m.issued m.state event.ask.call event.reply (stop_replies m.state event.caller k event.ask.call event.reply event.after x)))) (none_more stamp (m.issued number writer)))

-- ---- all that comes later

pub issues_above : (m : Moment) (events : List Event) (number writer stamp size : ℕ) → IsLawful m.state events → IsSoundAt m → HadTrunc m number stamp size → IsMoreAbove stamp (m.issued number writer) ((moment_after m events).issued number writer)
issues_above m [] number writer stamp size lawful sound had = none_more stamp (m.issued number writer)
issues_above m (event ∷ events) number writer stamp size lawful sound had =
    let next : Moment = next_moment m event in
    let one : IsLawful m.state (event ∷ []) = (lawful.0, lawful.1, tt) in
    both_more stamp (m.issued number writer) (next.issued number writer) ((moment_after next events).issued number writer) (step_above m sound number writer stamp size had event lawful.1)
    (issues_above next events number writer stamp size lawful.2 (sound_after m (event ∷ []) one sound) (trunc_stays m (event ∷ []) number stamp size one sound had))
