-- A machine whose writers stand in one room each goes on so: a new writer has a new id.
use Rattle.std.proofs.Common.{◌≡◌, ◌≤◌, ◌⊎◌, inl, inr, ◌+◌, ◌*◌, ◌^◌, ℕ, zero, suc, Bool, true, false, ◌||◌, nat_eq, nat_le, nat_lt, List, [], ◌∷◌, ◌++◌, length, map, Option, Some, None, refl, sym, ap, ◌∙◌, subst, if◌then◌else◌, arith}
use Rattle.std.specs.Prelude.{◌==◌, ◌&&◌, set, slice_get}
use Rattle.std.specs.List.{AllByRecursion}
use Rattle.std.proofs.lemmas.Bool.Decides.{nat_tests}
use Rattle.plfs_types.specs.declared.limits.TheConstants.{MAX_LOG, MAX_SIZE, MAX_STAMP}
use Rattle.store_api.specs.declared.tree.Room.{Room}
use Rattle.mount_model.specs.Paths.{Name}
use Rattle.mount_model.specs.State.{last_id}
use Rattle.mount_sound.specs.Entries.{logged}
use Rattle.mount_sound.specs.Ledger.{entries_in}
use Rattle.reader_laws.specs.Moments.{Moment}
use Rattle.script_lang.specs.declared.line.Line.{Line}
use Rattle.script_lang.specs.declared.line.Outcome.{Outcome}
use Rattle.script_lang.specs.declared.line.Why.TheVariants.{Busy, Held, IdsSpent}
use Rattle.script_lang.specs.declared.script.ActorDecl.{ActorDecl}
use Rattle.script_lang.specs.declared.script.Numbered.{Numbered}
use Rattle.script_lang.specs.declared.script.Statement.{Statement}
use Rattle.script_lang.specs.declared.script.Statement.TheVariants.{Close, Flatten, Ls, Map, Open, Rclose, Read, Recover, Refresh, Rename, Ropen, Stat, Stop as Arms, Sync, Trunc, Verify, Write}
use Rattle.outcomes.specs.Data.{bytes_of}
use Rattle.plain_machine.specs.Machine.{Plain, PlainActor, PlainOwn, PlainReader, PlainRoom, PlainWriter}
use Rattle.plain_machine.specs.Becoming.{drawn, empty_room, is_spent, made, made_room, next_of}
use Rattle.plain_machine.specs.ByName.{IsLeastOpen}
use Rattle.plain_machine.specs.Cases.{IsRefused, OnOwn, OnReader, OnRoom, When}
use Rattle.plain_machine.specs.Finding.{find, open_writers}
use Rattle.plain_machine.specs.Landed.{last_of, top_of}
use Rattle.plain_machine.specs.Running.{TakesAll}
use Rattle.plain_machine.specs.Statements.{Takes}
use Rattle.plain_machine.specs.Writers.{Enters, WritesNow, entered, entering}
use Rattle.plain_plays.specs.Apart.{AreApart, HasId}
use Rattle.plain_plays.specs.Beginning.{first_machine}
use Rattle.plain_plays.specs.Mirrors.{Mirrors, MirrorsAt, MirrorsWriter, room_then}
use Rattle.plain_plays.proofs.Dead.{either_so, maybe_so, none_there, some_is}

equal : (x y : ℕ) → nat_eq x y ≡ true → x ≡ y
equal x y e = grind (arith, nat_tests)

-- ---- ids of a room

push_ids : (ws : List PlainWriter) (w : PlainWriter) (id : ℕ) → HasId id (ws ++ w ∷ []) → HasId id ws ⊎ (w.id ≡ id)
push_ids [] w id (inl is) = inr is
push_ids [] w id (inr none) = absurd none
push_ids (x ∷ ws) w id (inl is) = inl (inl is)
push_ids (x ∷ ws) w id (inr later) = elim (push_ids ws w id later) as (λ _. HasId id (x ∷ ws) ⊎ (w.id ≡ id)) [ inl old ↦ inl (inr old) | inr new ↦ inr new ]

kept_id : (w x : PlainWriter) (b : Bool) → nat_eq x.id w.id ≡ b → (if b then w else x).id ≡ x.id
kept_id w x true same = sym (equal x.id w.id same)
kept_id w x false other = refl

with_ids : (w : PlainWriter) (ws : List PlainWriter) (id : ℕ) → HasId id (map (λ (x : PlainWriter). if x.id == w.id then w else x) ws) → HasId id ws
with_ids w [] id has = has
with_ids w (x ∷ ws) id (inl is) = inl (sym (kept_id w x (nat_eq x.id w.id) refl) ∙ is)
with_ids w (x ∷ ws) id (inr later) = inr (with_ids w ws id later)

shut_ids : (ws : List PlainWriter) (id : ℕ) → HasId id (map (λ (w : PlainWriter). record w { is_open = w.is_open && w.is_owned }) ws) → HasId id ws
shut_ids [] id has = has
shut_ids (w ∷ ws) id (inl is) = inl is
shut_ids (w ∷ ws) id (inr later) = inr (shut_ids ws id later)

-- ---- ids of the rooms

-- a writer of this id stands in the room of this number
abbrev IdIn : List PlainRoom → ℕ → ℕ → Type 0
IdIn rooms n id = (room : PlainRoom) × (slice_get rooms n ≡ Some room) × HasId id room.writers

moved : (a b : PlainRoom) (id : ℕ) → Some a ≡ Some b → HasId id b.writers → HasId id a.writers
moved a b id same has = subst (λ (y : PlainRoom). HasId id y.writers) (sym (some_is a b same)) has

set_ids : (Extra : ℕ → ℕ → Type 0) (rooms : List PlainRoom) (n : ℕ) (room next : PlainRoom) → slice_get rooms n ≡ Some room → ((id : ℕ) → HasId id next.writers → HasId id room.writers ⊎ Extra n id) → (k id : ℕ) → IdIn (set rooms n next) k id → IdIn rooms k id ⊎ Extra k id
set_ids Extra [] n room next at goes k id there = absurd (none_there n room at)
set_ids Extra (r ∷ rooms) zero room next at goes zero id (x, is, has) = elim (goes id (moved next x id is has)) as (λ _. IdIn (r ∷ rooms) 0 id ⊎ Extra 0 id) [
  | inl old ↦ inl (r, refl, moved r room id at old)
  | inr new ↦ inr new
]
set_ids Extra (r ∷ rooms) zero room next at goes (suc k) id there = inl there
set_ids Extra (r ∷ rooms) (suc n) room next at goes zero id there = inl there
set_ids Extra (r ∷ rooms) (suc n) room next at goes (suc k) id there = set_ids (λ j i. Extra (suc j) i) rooms n room next at goes k id there

more_ids : (rooms : List PlainRoom) (name : Name) (k id : ℕ) → IdIn (rooms ++ empty_room name ∷ []) k id → IdIn rooms k id
more_ids [] name zero id (x, is, has) = absurd (moved (empty_room name) x id is has)
more_ids [] name (suc k) id (x, is, has) = absurd (none_there k x is)
more_ids (r ∷ rooms) name zero id there = there
more_ids (r ∷ rooms) name (suc k) id there = more_ids rooms name k id there

-- ---- a step

-- the id is the next one, in the room of this number
abbrev IsNext : Plain → Plain → ℕ → ℕ → ℕ → Type 0
IsNext p new at n id = (n ≡ at) × (id ≡ next_of p) × (p.serial + 1 ≤ new.serial)

-- Each id stands where it stood, but for the next one, which may be new in one room.
record Comes (p new : Plain) : Type 0 where
  mark : new.mark ≡ p.mark
  serial : p.serial ≤ new.serial
  at : ℕ
  ids : (n id : ℕ) → IdIn new.rooms n id → IdIn p.rooms n id ⊎ IsNext p new at n id

same_comes : (p new now : Plain) → new ≡ now → now.rooms ≡ p.rooms → now.mark ≡ p.mark → p.serial ≤ now.serial → Comes p new
same_comes p new now is rooms mark serial = record {
  mark = ap (λ (q : Plain). q.mark) is ∙ mark;
  serial = subst (λ (q : Plain). p.serial ≤ q.serial) (sym is) serial;
  at = 0;
  ids = λ n id there. inl (subst (λ (rs : List PlainRoom). IdIn rs n id) (ap (λ (q : Plain). q.rooms) is ∙ rooms) there);
}

put_comes : (p new now : Plain) (n : ℕ) (room next : PlainRoom) → new ≡ now → now.rooms ≡ set p.rooms n next → now.mark ≡ p.mark → p.serial ≤ now.serial → slice_get p.rooms n ≡ Some room → ((id : ℕ) → HasId id next.writers → HasId id room.writers ⊎ IsNext p now n n id) → Comes p new
put_comes p new now n room next is rooms mark serial there goes =
    let here : Comes p now = record {
      mark = mark;
      serial = serial;
      at = n;
      ids = λ k id stands. set_ids (IsNext p now n) p.rooms n room next there goes k id (subst (λ (rs : List PlainRoom). IdIn rs k id) rooms stands);
    } in
    subst (Comes p) (sym is) here

no_less : (n : ℕ) → n ≤ n
no_less n = omega arith

one_more : (n : ℕ) → n ≤ n + 1
one_more n = omega arith

-- ---- cases

module _ (p new : Plain) (outcome : Outcome) where
  on_own : (actor : PlainActor) (does : PlainOwn → PlainRoom → PlainWriter → Type 0) → ((own : PlainOwn) (room : PlainRoom) (w : PlainWriter) → slice_get p.rooms own.room ≡ Some room → does own room w → Comes p new) → OnOwn actor p outcome new does → Comes p new
  on_own actor does goes o = maybe_so actor.writer _ _ (λ r. same_comes p new p r.1 refl refl (no_less p.serial)) (λ own x. goes own x.0 x.1 x.2 x.4) o

  on_reader : (actor : PlainActor) (does : PlainReader → Type 0) → ((file : PlainReader) → does file → Comes p new) → OnReader actor p outcome new does → Comes p new
  on_reader actor does goes o = maybe_so actor.reader _ _ (λ r. same_comes p new p r.1 refl refl (no_less p.serial)) goes o

  on_room : (name : Name) (does : ℕ → PlainRoom → Type 0) → ((n : ℕ) (room : PlainRoom) → slice_get p.rooms n ≡ Some room → does n room → Comes p new) → OnRoom p name outcome new does → Comes p new
  on_room name does goes o = maybe_so (find p name) _ _ (λ r. same_comes p new p r.1 refl refl (no_less p.serial)) (λ n x. goes n x.0 x.1 x.2) o

  holds : (room : PlainRoom) (Goes : Type 0) → When (is_spent p) (IsRefused outcome IdsSpent p new) (When room.is_held (IsRefused outcome Held (drawn p) new) (When (length (open_writers room) == 0) Goes ((w : PlainWriter) × IsLeastOpen room w × IsRefused outcome (Busy w.host w.id) (drawn p) new)))
      → (Goes → Comes p new) → Comes p new
  holds room Goes h goes = either_so (is_spent p) _ _ (λ r. same_comes p new p r.1 refl refl (no_less p.serial))
      (λ x. either_so room.is_held _ _ (λ r. same_comes p new (drawn p) r.1 refl refl (one_more p.serial))
      (λ y. either_so (length (open_writers room) == 0) _ _ goes (λ z. same_comes p new (drawn p) z.2.1 refl refl (one_more p.serial)) y) x) h

-- ---- the statements

-- the machine with the room that is made has its ids
made_comes : (p new : Plain) (name : Name) (o : Option ℕ) → Comes (made p name o).0 new → Comes p new
made_comes p new name (Some n) c = c
made_comes p new name None c = record {
  mark = c.mark;
  serial = c.serial;
  at = c.at;
  ids = λ n id there. elim (c.ids n id there) as (λ _. IdIn p.rooms n id ⊎ IsNext p new c.at n id) [ inl old ↦ inl (more_ids p.rooms name n id old) | inr next ↦ inr next ];
}

enters : (place : ℕ) (declared : ActorDecl) (actor : PlainActor) (p new : Plain) (n : ℕ) (room : PlainRoom) (outcome : Outcome) → slice_get p.rooms n ≡ Some room → Enters place declared actor p n room outcome new → Comes p new
enters place declared actor p new n room outcome there e = either_so (is_spent p) _ _ (λ r. same_comes p new p r.1 refl refl (no_less p.serial))
    (λ x. either_so room.is_held _ _ (λ r. same_comes p new (drawn p) r.1 refl refl (one_more p.serial))
    (λ y. put_comes p new _ n room (entered (entering p declared room) room) y.1 refl refl (one_more p.serial) there (λ id has. elim (push_ids room.writers (entering p declared room) id has) as (λ _. HasId id room.writers ⊎ ((n ≡ n) × (id ≡ next_of p) × (p.serial + 1 ≤ p.serial + 1))) [
      | inl old ↦ inl old
      | inr is ↦ inr (refl, sym is, no_less (p.serial + 1))
    ])) x) e

writes : (p new : Plain) (own : PlainOwn) (room : PlainRoom) (w : PlainWriter) (at : ℕ) (bytes : List ℕ) (outcome : Outcome) → slice_get p.rooms own.room ≡ Some room → WritesNow p own room w at bytes outcome new → Comes p new
writes p new own room w at bytes outcome there o =
    either_so (nat_lt MAX_SIZE (at + length bytes) || nat_lt MAX_LOG (logged (entries_in w.issued) + length bytes)) _ _ (λ r. put_comes p new _ own.room room _ r.1 refl refl (no_less p.serial) there (λ id has. inl (with_ids w room.writers id has)))
    (λ x. either_so (nat_le MAX_STAMP (last_of w.issued) || nat_le MAX_STAMP w.floor) _ _ (λ r. put_comes p new _ own.room room _ r.1 refl refl (no_less p.serial) there (λ id has. inl (with_ids w room.writers id has)))
    (λ y. put_comes p new _ own.room room _ y.3.1 refl refl (no_less p.serial) there (λ id has. inl (with_ids _ room.writers id has))) x) o

step_comes : (place : ℕ) (declared : ActorDecl) (actor : PlainActor) (p : Plain) (statement : Statement) (outcome : Outcome) (new : Plain) → Takes place declared actor p statement outcome new → Comes p new
step_comes place declared actor p (Open name) outcome new t = maybe_so actor.writer _ _
    (λ x. made_comes p new name (find p name) (enters place declared actor (made p name (find p name)).0 new (made p name (find p name)).1 x.0 outcome x.1 x.2))
    (λ own r. same_comes p new p r.1 refl refl (no_less p.serial)) t
step_comes place declared actor p (Write at content) outcome new t = on_own p new outcome actor _
    (λ own room w there x. either_so (length (bytes_of content) == 0) _ _ (λ y. same_comes p new p y.1 refl refl (no_less p.serial)) (λ y. writes p new own room (made_room w) at (bytes_of content) outcome there y) x) t
step_comes place declared actor p Sync outcome new t = on_own p new outcome actor _
    (λ own room w there x. put_comes p new _ own.room room _ x.1 refl refl (no_less p.serial) there (λ id has. inl (with_ids _ room.writers id has))) t
step_comes place declared actor p Close outcome new t = on_own p new outcome actor _
    (λ own room w there x. put_comes p new _ own.room room _ x.1 refl refl (no_less p.serial) there (λ id has. inl (with_ids _ room.writers id has))) t
step_comes place declared actor p (Ropen name workers) outcome new t = maybe_so actor.reader _ _
    (λ x. on_room p new outcome name _ (λ n room there y. same_comes p new _ y.1 refl refl (no_less p.serial)) x)
    (λ file r. same_comes p new p r.1 refl refl (no_less p.serial)) t
step_comes place declared actor p (Read at len) outcome new t = on_reader p new outcome actor _ (λ file x. same_comes p new p x.1 refl refl (no_less p.serial)) t
step_comes place declared actor p (Verify at content) outcome new t = on_reader p new outcome actor _ (λ file x. same_comes p new p x.1 refl refl (no_less p.serial)) t
step_comes place declared actor p Map outcome new t = on_reader p new outcome actor _ (λ file x. same_comes p new p x.3 refl refl (no_less p.serial)) t
step_comes place declared actor p Refresh outcome new t = on_reader p new outcome actor _ (λ file x. same_comes p new _ x.2.1 refl refl (no_less p.serial)) t
step_comes place declared actor p Rclose outcome new t = on_reader p new outcome actor _ (λ file x. same_comes p new _ x.1 refl refl (no_less p.serial)) t
step_comes place declared actor p (Stat name) outcome new t = on_room p new outcome name _ (λ n room there x. same_comes p new p x.1 refl refl (no_less p.serial)) t
step_comes place declared actor p (Trunc name size) outcome new t = on_room p new outcome name _
    (λ n room there x. holds p new outcome room _ x
    (λ y. either_so (nat_lt MAX_SIZE size) _ _ (λ r. same_comes p new (drawn p) r.1 refl refl (one_more p.serial))
    (λ z. either_so (nat_le MAX_STAMP (top_of room)) _ _ (λ r. same_comes p new (drawn p) r.1 refl refl (one_more p.serial))
    (λ v. put_comes p new _ n room _ v.3.1 refl refl (one_more p.serial) there (λ id has. inl has)) z) y)) t
step_comes place declared actor p (Rename name to) outcome new t = on_room p new outcome name _
    (λ n room there x. holds p new outcome room _ x
    (λ y. maybe_so (find (drawn p) to) _ _ (λ r. put_comes p new _ n room _ r.1 refl refl (one_more p.serial) there (λ id has. inl has)) (λ other r. same_comes p new (drawn p) r.1 refl refl (one_more p.serial)) y)) t
step_comes place declared actor p (Flatten name) outcome new t = on_room p new outcome name _
    (λ n room there x. either_so (is_spent p) _ _ (λ r. same_comes p new p r.1 refl refl (no_less p.serial)) (λ y. same_comes p new (drawn p) y.3 refl refl (one_more p.serial)) x) t
step_comes place declared actor p (Recover name) outcome new t = on_room p new outcome name _
    (λ n room there x. either_so room.is_held _ _ (λ r. put_comes p new _ n room _ r.1 refl refl (no_less p.serial) there (λ id has. inl has))
    (λ r. put_comes p new _ n room _ r.1 refl refl (no_less p.serial) there (λ id has. inl (shut_ids room.writers id has))) x) t
step_comes place declared actor p Ls outcome new t = same_comes p new p t.1 refl refl (no_less p.serial)
step_comes place declared actor p (Arms call bytes) outcome new t = absurd t

-- ---- statements one after the other

-- each id was drawn
abbrev pub AreDrawn : Plain → Type 0
AreDrawn p = (n id : ℕ) → IdIn p.rooms n id → id ≤ p.mark * 2 ^ 32 + p.serial

drawn_next : (p new : Plain) → Comes p new → AreDrawn p → AreDrawn new
drawn_next p new c before n id there =
    let mark : new.mark * 2 ^ 32 ≡ p.mark * 2 ^ 32 = ap (λ k. k * 2 ^ 32) c.mark in
    elim (c.ids n id there) as (λ _. id ≤ new.mark * 2 ^ 32 + new.serial) [
      | inl old ↦ (let most = before n id old in let more = c.serial in omega (arith, most, more, mark))
      | inr next ↦ (let is : id ≡ p.mark * 2 ^ 32 + (p.serial + 1) = next.1 in let more = next.2 in omega (arith, is, more, mark))
    ]

too_late : (mark serial id : ℕ) → id ≤ mark * 2 ^ 32 + serial → id ≡ mark * 2 ^ 32 + (serial + 1) → ⊥
too_late mark serial id most is = omega (arith, most, is)

apart_next : (p new : Plain) → Comes p new → AreDrawn p → AreApart p → AreApart new
apart_next p new c drawn_all apart id n k a b at_n at_k has_a has_b = both (c.ids n id (a, at_n, has_a)) (c.ids k id (b, at_k, has_b))
  where
    both : IdIn p.rooms n id ⊎ IsNext p new c.at n id → IdIn p.rooms k id ⊎ IsNext p new c.at k id → n ≡ k
    both (inl (x, at_x, has_x)) (inl (y, at_y, has_y)) = apart id n k x y at_x at_y has_x has_y
    both (inl old) (inr next) = absurd (too_late p.mark p.serial id (drawn_all n id old) next.1)
    both (inr next) (inl old) = absurd (too_late p.mark p.serial id (drawn_all k id old) next.1)
    both (inr one) (inr two) = one.0 ∙ sym two.0

-- Statements one after the other keep the ids apart.
pub all_apart : (actors : List ActorDecl) (p : Plain) (statements : List Numbered) (lines : List Line) (last : Plain) → AreDrawn p → AreApart p → TakesAll actors p statements lines last → AreApart last
all_apart actors p [] [] last drawn_all apart takes = subst AreApart (sym takes) apart
all_apart actors p [] (line ∷ lines) last drawn_all apart takes = absurd takes
all_apart actors p (s ∷ statements) [] last drawn_all apart takes = absurd takes
all_apart actors p (s ∷ statements) (line ∷ lines) last drawn_all apart (next, (declared, actor, is, its, numbered, step), rest) =
    let c = step_comes s.actor declared actor p s.statement line.outcome next step in
    all_apart actors next statements lines last (drawn_next p next c drawn_all) (apart_next p next c drawn_all apart) rest

-- ---- as a play begins

one_drawn : (m : Moment) (n id : ℕ) (ws : List PlainWriter) → AllByRecursion (MirrorsWriter m n) ws → HasId id ws → id ≤ last_id m.state
one_drawn m n id [] each has = absurd has
one_drawn m n id (w ∷ ws) each (inl is) = subst (λ k. k ≤ last_id m.state) is each.0.drawn
one_drawn m n id (w ∷ ws) each (inr later) = one_drawn m n id ws each.1 later

its_writers : (m : Moment) (n : ℕ) (told : Option Room) (room : PlainRoom) → MirrorsAt m n told (Some room) → AllByRecursion (MirrorsWriter m n) room.writers
its_writers m n None room o = absurd o
its_writers m n (Some r) room o = o.writers

pub drawn_first : (m : Moment) (p : Plain) → Mirrors m p → AreDrawn p
drawn_first m p o n id (room, there, has) =
    let most = one_drawn m n id room.writers (its_writers m n (room_then m n) room (subst (MirrorsAt m n (room_then m n)) there (o.rooms n))) has in
    subst (λ (z : ℕ × ℕ). id ≤ z.0 * 2 ^ 32 + z.1) (λ i. (o.mark i, o.serial i)) most

-- the machine of a store without rooms
pub first_apart : (actors : List PlainActor) (times : Option (List ℕ)) (mark : ℕ) → AreApart (first_machine actors times mark)
first_apart actors times mark id zero k a b at_n at_k has_a has_b = absurd (moved _ a id at_n has_a)
first_apart actors times mark id (suc n) k a b at_n at_k has_a has_b = absurd (none_there n a at_n)
