-- What a call issues: the write that it asks, where that is answered.
use Rattle.std.proofs.Common.{◌≡◌, ◌⊎◌, ◌&&◌, inl, inr, ℕ, Bool, true, false, nat_eq, List, [], ◌∷◌, ◌++◌, Option, Some, None, refl, sym, ap, ◌∙◌, arith, if◌then◌else◌}
use Rattle.std.proofs.lemmas.Bool.Decides.{nat_tests}
use Rattle.plain_file.proofs.Facts.{Among}
use Rattle.mount_model.specs.declared.call.Call.{Call}
use Rattle.mount_model.specs.declared.call.Call.TheVariants.{Write}
use Rattle.mount_model.specs.declared.reply.Reply.{Reply}
use Rattle.mount_model.specs.declared.reply.Reply.TheVariants.{Wrote}
use Rattle.mount_model.specs.declared.row.Row.{Row}
use Rattle.mount_model.specs.History.{Event}
use Rattle.mount_model.specs.State.{State}
use Rattle.mount_model.specs.Table.{row_of}
use Rattle.mount_model.proofs.Facts.{row_of_id}
use Rattle.mount_sound.specs.Issued.{issued_after, noted_by, written_by}
use Rattle.mount_sound.specs.Ledger.{Ledger, Written}
use Rattle.writer_laws.specs.Counting.{wrote_by, writes_told}
use Rattle.writer_laws.proofs.Facts.{writes_both}
use Rattle.reader_laws.specs.Moments.{Moment, moment_after, next_moment}
use Rattle.headline_laws.proofs.Story.Attributed.{either_part}

-- ---- one call

-- a write of this writer, which was answered
pub record IsWrite (id : ℕ) (e : Event) : Type 0 where
  pub at : ℕ
  pub block : List ℕ
  pub stamp : ℕ
  pub asked : e.ask.call ≡ Write id at block
  pub told : e.reply ≡ Wrote stamp

-- the table has the writer, in this container
pub record IsRowIn (state : State) (room id : ℕ) : Type 0 where
  pub row : Row
  pub held : row_of id state.table.writers ≡ Some row
  pub here : row.room ≡ room

pub record Issues (old : State) (c : Call) (r : Reply) (room id : ℕ) : Type 0 where
  pub at : ℕ
  pub block : List ℕ
  pub stamp : ℕ
  pub asked : c ≡ Write id at block
  pub told : r ≡ Wrote stamp
  pub of : IsRowIn old room id

nat_same : (x y : ℕ) → nat_eq x y ≡ true → x ≡ y
nat_same x y e = grind (arith, nat_tests)

is_same : (x y : ℕ) → x ≡ y → nat_eq x y ≡ true
is_same x y e = grind (arith, nat_tests)

abbrev Later : Ledger → Row → Written → ℕ → ℕ → Bool → Bool → List Written
Later issued row w room id a b = if a && b then issued room id ++ w ∷ [] else issued room id

write_case : (issued : Ledger) (old : State) (w at : ℕ) (block : List ℕ) (stamp room id : ℕ) (o : Option Row) → row_of w old.table.writers ≡ o → (issued_after issued old (Write w at block) (Wrote stamp) room id ≡ issued room id) ⊎ Issues old (Write w at block) (Wrote stamp) room id
write_case issued old w at block stamp room id None is = inl (ap (λ o. noted_by issued o stamp at block room id) is)
write_case issued old w at block stamp room id (Some row) is = by (nat_eq room row.room) (nat_eq id row.id) refl refl
  where
    x : Written
    x = written_by row stamp at block

    whole : issued_after issued old (Write w at block) (Wrote stamp) room id ≡ Later issued row x room id (nat_eq room row.room) (nat_eq id row.id)
    whole = ap (λ o. noted_by issued o stamp at block room id) is

    by : (a b : Bool) → nat_eq room row.room ≡ a → nat_eq id row.id ≡ b → (issued_after issued old (Write w at block) (Wrote stamp) room id ≡ issued room id) ⊎ Issues old (Write w at block) (Wrote stamp) room id
    by false b far off = inl (whole ∙ ap (λ a. Later issued row x room id a (nat_eq id row.id)) far)
    by true false here off = inl (whole ∙ ap (λ a. Later issued row x room id a (nat_eq id row.id)) here ∙ ap (λ c. Later issued row x room id true c) off)
    by true true here off =
        let its : id ≡ w = nat_same id row.id off ∙ row_of_id w old.table.writers row is in
        inr (record { at = at; block = block; stamp = stamp; asked = ap (λ k. Write k at block) (sym its); told = refl; of = record { row = row; held = ap (λ k. row_of k old.table.writers) its ∙ is; here = sym (nat_same room row.room here) } })

-- nothing is issued of a writer in a container but by a write of it, whose row is there
pub call_issues : (issued : Ledger) (old : State) (c : Call) (r : Reply) (room id : ℕ) → (issued_after issued old c r room id ≡ issued room id) ⊎ Issues old c r room id
call_issues issued old (Write w at block) (Wrote stamp) room id = write_case issued old w at block stamp room id (row_of w old.table.writers) refl
call_issues issued old (Write w at block) r room id = inl refl
call_issues issued old c r room id = inl refl

-- and by that it is
pub write_issues : (issued : Ledger) (old : State) (room id at : ℕ) (block : List ℕ) (stamp : ℕ) (of : IsRowIn old room id) → issued_after issued old (Write id at block) (Wrote stamp) room id ≡ issued room id ++ written_by of.row stamp at block ∷ []
write_issues issued old room id at block stamp of =
    let x = written_by of.row stamp at block in
    ap (λ o. noted_by issued o stamp at block room id) of.held ∙ ap (λ a. Later issued of.row x room id a (nat_eq id of.row.id)) (is_same room of.row.room (sym of.here))
    ∙ ap (λ b. Later issued of.row x room id true b) (is_same id of.row.id (sym (row_of_id id old.table.writers of.row of.held)))

-- ---- events

-- none of them is a write of the writer that was answered
abbrev pub NoneWritten : ℕ → List Event → Type 0
NoneWritten id es = (pre : List Event) (e : Event) (post : List Event) → es ≡ pre ++ e ∷ post → IsWrite id e → ⊥

pub nothing_issued : (m : Moment) (es : List Event) (room id : ℕ) → NoneWritten id es → (moment_after m es).issued room id ≡ m.issued room id
nothing_issued m [] room id none = refl
nothing_issued m (e ∷ es) room id none = nothing_issued (next_moment m e) es room id (λ pre x post is w. none (e ∷ pre) x post (ap (λ z. e ∷ z) is) w) ∙ by (call_issues m.issued m.state e.ask.call e.reply room id)
  where
    by : ((next_moment m e).issued room id ≡ m.issued room id) ⊎ Issues m.state e.ask.call e.reply room id → (next_moment m e).issued room id ≡ m.issued room id
    by (inl same) = same
    by (inr its) = absurd (none [] e es refl (record { at = its.at; block = its.block; stamp = its.stamp; asked = its.asked; told = its.told }))

-- where more was issued, there is one
pub record FoundWrite (m : Moment) (es : List Event) (room id : ℕ) : Type 0 where
  pub pre : List Event
  pub event : Event
  pub post : List Event
  pub is : es ≡ pre ++ event ∷ post
  pub write : IsWrite id event
  pub of : IsRowIn (moment_after m pre).state room id

pub found_write : (m : Moment) (es : List Event) (room id : ℕ) → ((moment_after m es).issued room id ≡ m.issued room id → ⊥) → FoundWrite m es room id
found_write m [] room id differs = absurd (differs refl)
found_write m (e ∷ es) room id differs = by (call_issues m.issued m.state e.ask.call e.reply room id) (λ same. found_write (next_moment m e) es room id (λ is. differs (is ∙ same)))
  where
    by : ((next_moment m e).issued room id ≡ m.issued room id) ⊎ Issues m.state e.ask.call e.reply room id → ((next_moment m e).issued room id ≡ m.issued room id → FoundWrite (next_moment m e) es room id) → FoundWrite m (e ∷ es) room id
    by (inl same) later =
        let f = later same in
        record { pre = e ∷ f.pre; event = f.event; post = f.post; is = ap (λ z. e ∷ z) f.is; write = f.write; of = f.of }
    by (inr its) later = record { pre = []; event = e; post = es; is = refl; write = record { at = its.at; block = its.block; stamp = its.stamp; asked = its.asked; told = its.told }; of = its.of }

-- ---- by the count of writes

one_told : (id at : ℕ) (block : List ℕ) (stamp : ℕ) → wrote_by id (Write id at block) (Wrote stamp) ≡ 1
one_told id at block stamp = let t : nat_eq id id ≡ true = grind (arith, nat_tests) in rw t refl

pub write_told : (id : ℕ) (e : Event) → IsWrite id e → wrote_by id e.ask.call e.reply ≡ 1
write_told id e w = ap (λ c. wrote_by id c e.reply) w.asked ∙ ap (λ r. wrote_by id (Write id w.at w.block) r) w.told ∙ one_told id w.at w.block w.stamp

pub none_counted : (id : ℕ) (es : List Event) → writes_told id es ≡ 0 → NoneWritten id es
none_counted id es none pre e post is w =
    let both = writes_both id pre (e ∷ post) in
    let here = write_told id e w in
    let same = ap (writes_told id) is in
    omega (arith, none, both, here, same)

-- an event among others
pub record Halved (x : Event) (xs : List Event) : Type 0 where
  pub front : List Event
  pub rest : List Event
  pub is : xs ≡ front ++ x ∷ rest

pub halved : (x : Event) (xs : List Event) → Among x xs → Halved x xs
halved x [] at = absurd at
halved x (y ∷ ys) (inl same) = record { front = []; rest = ys; is = ap (λ z. z ∷ ys) (sym same) }
halved x (y ∷ ys) (inr at) = let more = halved x ys at in record { front = y ∷ more.front; rest = more.rest; is = ap (λ z. y ∷ z) more.is }

-- of events with one write there are none before it and none behind it
pub one_counted : (id : ℕ) (front : List Event) (e : Event) (rest : List Event) → IsWrite id e → writes_told id (front ++ e ∷ rest) ≡ 1 → NoneWritten id front × NoneWritten id rest
one_counted id front e rest w one =
    let both = writes_both id front (e ∷ rest) in
    let here = write_told id e w in
    (none_counted id front (omega (arith, one, both, here)), none_counted id rest (omega (arith, one, both, here)))

pub none_both : (id : ℕ) (xs ys : List Event) → NoneWritten id xs → NoneWritten id ys → NoneWritten id (xs ++ ys)
none_both id xs ys one other pre e post is w = elim (either_part xs ys pre e post is) as (λ _. ⊥) [
  | inl (u, front, later) ↦ one pre e u front w
  | inr (u, front, later) ↦ other u e post later w
]
