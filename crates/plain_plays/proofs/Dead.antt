-- Each step of a plain machine leaves dead only writers that were.
use Rattle.std.proofs.Common.{◌≡◌, ◌+◌, ◌-◌, ℕ, zero, suc, Bool, true, false, not, cond, ◌||◌, nat_le, nat_lt, List, [], ◌∷◌, ◌++◌, length, map, Option, Some, None, refl, sym, ap, ◌∙◌, subst, if◌then◌else◌}
use Rattle.std.specs.Prelude.{◌==◌, ◌&&◌, MatchOption, set, slice_get}
use Rattle.std.specs.List.{AllByRecursion, filter}
use Rattle.plfs_types.specs.declared.limits.TheConstants.{MAX_LOG, MAX_SIZE, MAX_STAMP}
use Rattle.mount_model.specs.Paths.{Name}
use Rattle.mount_sound.specs.Entries.{logged}
use Rattle.mount_sound.specs.Ledger.{entries_in}
use Rattle.script_lang.specs.declared.line.Outcome.{Outcome}
use Rattle.script_lang.specs.declared.line.Why.{Why}
use Rattle.script_lang.specs.declared.line.Why.TheVariants.{Busy, Held, IdsSpent}
use Rattle.script_lang.specs.declared.script.ActorDecl.{ActorDecl}
use Rattle.script_lang.specs.declared.script.Statement.{Statement}
use Rattle.script_lang.specs.declared.script.Statement.TheVariants.{Close, Flatten, Ls, Map, Open, Rclose, Read, Recover, Refresh, Rename, Ropen, Stat, Stop as Arms, Sync, Trunc, Verify, Write}
use Rattle.outcomes.specs.Data.{bytes_of}
use Rattle.plain_machine.specs.Machine.{Plain, PlainActor, PlainOwn, PlainReader, PlainRoom, PlainWriter}
use Rattle.plain_machine.specs.Becoming.{all_landed, drawn, empty_room, is_spent, made, made_room, room_with}
use Rattle.plain_machine.specs.ByName.{IsLeastOpen}
use Rattle.plain_machine.specs.Cases.{IsRefused, OnOwn, OnReader, OnRoom, When}
use Rattle.plain_machine.specs.Finding.{find, open_writers, owned_writer, writer_in, writer_of_room}
use Rattle.plain_machine.specs.Landed.{last_of, top_of}
use Rattle.plain_machine.specs.Statements.{Takes}
use Rattle.plain_machine.specs.Writers.{Enters, WritesNow, entering}

abbrev unowned : PlainWriter → Bool
unowned w = not w.is_owned

abbrev opened : PlainWriter → Bool
opened w = w.is_open

true_not : (b : Bool) → b ≡ false → b ≡ true → ⊥
true_not b f t = let e : true ≡ false = sym t ∙ f in cc

pub some_is : {X : Type 0} (a b : X) → Some a ≡ Some b → a ≡ b
some_is a b e = cc

pub none_there : {X : Type 0} (n : ℕ) (x : X) → slice_get [] n ≡ Some x → ⊥
none_there n x e = cc

pub either_so : {C : Type 0} (b : Bool) (X Y : Type 0) → (X → C) → (Y → C) → When b X Y → C
either_so true X Y yes_so no_so x = yes_so x
either_so false X Y yes_so no_so y = no_so y

pub maybe_so : {A C : Type 0} (o : Option A) (X : Type 0) (Y : A → Type 0) → (X → C) → ((a : A) → Y a → C) → MatchOption o X Y → C
maybe_so None X Y none_so some_so x = none_so x
maybe_so (Some a) X Y none_so some_so y = some_so a y

-- ids of which something holds
module _ (Out : ℕ → Type 0) where
  -- one that has its room open and is no actor's has such an id
  abbrev pub OutIfDead : PlainWriter → Type 0
  OutIfDead w = w.is_open ≡ true → w.is_owned ≡ false → Out w.id

  abbrev pub RoomOut : PlainRoom → Type 0
  RoomOut room = AllByRecursion OutIfDead room.writers

  abbrev pub RoomsOut : List PlainRoom → Type 0
  RoomsOut rooms = AllByRecursion RoomOut rooms

  -- each writer that is dead in a room has such an id
  abbrev pub AllOut : Plain → Type 0
  AllOut p = RoomsOut p.rooms

  -- ---- the dead of a room

  abbrev IdIsOut : PlainWriter → Type 0
  IdIsOut w = Out w.id

  pub each_dead : (ws : List PlainWriter) → AllByRecursion IdIsOut (filter unowned (filter opened ws)) → AllByRecursion OutIfDead ws
  each_dead [] each = tt
  each_dead (w ∷ ws) each = elim w.is_open as (λ b. w.is_open ≡ b → AllByRecursion IdIsOut (filter unowned (cond b (w ∷ filter opened ws) (filter opened ws))) → AllByRecursion OutIfDead (w ∷ ws)) [
    | false ↦ λ shut rest. (λ entered nobodys. absurd (true_not w.is_open shut entered), each_dead ws rest)
    | true ↦ λ entered all. elim w.is_owned as (λ b. w.is_owned ≡ b → AllByRecursion IdIsOut (cond (not b) (w ∷ filter unowned (filter opened ws)) (filter unowned (filter opened ws))) → AllByRecursion OutIfDead (w ∷ ws)) [
      | true ↦ λ owned rest. (λ still nobodys. absurd (true_not w.is_owned nobodys owned), each_dead ws rest)
      | false ↦ λ nobodys rest. (λ still none. rest.0, each_dead ws rest.1)
    ] refl all
  ] refl each

  pub dead_each : (ws : List PlainWriter) → AllByRecursion OutIfDead ws → AllByRecursion IdIsOut (filter unowned (filter opened ws))
  dead_each [] out = tt
  dead_each (w ∷ ws) out = elim w.is_open as (λ b. w.is_open ≡ b → AllByRecursion IdIsOut (filter unowned (cond b (w ∷ filter opened ws) (filter opened ws)))) [
    | false ↦ λ shut. dead_each ws out.1
    | true ↦ λ entered. elim w.is_owned as (λ b. w.is_owned ≡ b → AllByRecursion IdIsOut (cond (not b) (w ∷ filter unowned (filter opened ws)) (filter unowned (filter opened ws)))) [
      | true ↦ λ owned. dead_each ws out.1
      | false ↦ λ nobodys. (out.0 entered nobodys, dead_each ws out.1)
    ] refl
  ] refl

  -- ---- all rooms

  pub room_at : (rooms : List PlainRoom) (n : ℕ) (room : PlainRoom) → RoomsOut rooms → slice_get rooms n ≡ Some room → RoomOut room
  room_at [] n room out e = absurd (none_there n room e)
  room_at (r ∷ rooms) zero room out e = subst RoomOut (some_is r room e) out.0
  room_at (r ∷ rooms) (suc n) room out e = room_at rooms n room out.1 e

  set_out : (rooms : List PlainRoom) (n : ℕ) (room : PlainRoom) → RoomsOut rooms → RoomOut room → RoomsOut (set rooms n room)
  set_out [] n room out new = tt
  set_out (r ∷ rooms) zero room out new = (new, out.1)
  set_out (r ∷ rooms) (suc n) room out new = (out.0, set_out rooms n room out.1 new)

  more_out : (rooms : List PlainRoom) (room : PlainRoom) → RoomsOut rooms → RoomOut room → RoomsOut (rooms ++ room ∷ [])
  more_out [] room out new = (new, tt)
  more_out (r ∷ rooms) room out new = (out.0, more_out rooms room out.1 new)

  -- ---- writers of a room

  writers_push : (ws : List PlainWriter) (w : PlainWriter) → AllByRecursion OutIfDead ws → OutIfDead w → AllByRecursion OutIfDead (ws ++ w ∷ [])
  writers_push [] w out new = (new, tt)
  writers_push (x ∷ ws) w out new = (out.0, writers_push ws w out.1 new)

  either_out : (b : Bool) (v w : PlainWriter) → OutIfDead v → OutIfDead w → OutIfDead (if b then v else w)
  either_out true v w a b = a
  either_out false v w a b = b

  with_out : (w : PlainWriter) (ws : List PlainWriter) → OutIfDead w → AllByRecursion OutIfDead ws → AllByRecursion OutIfDead (map (λ (x : PlainWriter). if x.id == w.id then w else x) ws)
  with_out w [] new out = tt
  with_out w (x ∷ ws) new out = (either_out (x.id == w.id) w x new out.0, with_out w ws new out.1)

  found_out : (id : ℕ) (ws : List PlainWriter) (w : PlainWriter) → AllByRecursion OutIfDead ws → writer_in id ws ≡ Some w → OutIfDead w
  found_out id [] w out e = absurd (none_is w e)
    where
      none_is : (w : PlainWriter) → None ≡ Some w → ⊥
      none_is w e = cc
  found_out id (x ∷ ws) w out e = elim (x.id == id) as (λ b. (if b then Some x else writer_in id ws) ≡ Some w → OutIfDead w) [
    | true ↦ λ is. subst OutIfDead (some_is x w is) out.0
    | false ↦ λ is. found_out id ws w out.1 is
  ] e

  own_out : (p : Plain) (own : PlainOwn) (room : PlainRoom) (w : PlainWriter) → AllOut p → slice_get p.rooms own.room ≡ Some room → owned_writer p own ≡ Some w → OutIfDead w
  own_out p own room w out there owned =
      let found : writer_in own.id room.writers ≡ Some w = sym (ap (λ r. writer_of_room own.id r) there) ∙ owned in
      found_out own.id room.writers w (room_at p.rooms own.room room out there) found

  made_writer_out : (w : PlainWriter) → OutIfDead w → OutIfDead (made_room w)
  made_writer_out w out = either_out (nat_le w.capacity (length w.issued - w.landed)) (all_landed w) w out out

  -- a room of the machine is so now
  put_out : (p new : Plain) (n : ℕ) (room next : PlainRoom) → AllOut p → slice_get p.rooms n ≡ Some room → (RoomOut room → RoomOut next) → new.rooms ≡ set p.rooms n next → AllOut new
  put_out p new n room next out there goes is = subst RoomsOut (sym is) (set_out p.rooms n next out (goes (room_at p.rooms n room out there)))

  -- ---- cases

  -- the rooms are as before
  same_out : (p new now : Plain) → AllOut p → new ≡ now → now.rooms ≡ p.rooms → AllOut new
  same_out p new now out is same = subst RoomsOut (sym (ap (λ (q : Plain). q.rooms) is ∙ same)) out

  module _ (p new : Plain) (outcome : Outcome) (out : AllOut p) where
    refused_out : (now : Plain) (why : Why) → now.rooms ≡ p.rooms → IsRefused outcome why now new → AllOut new
    refused_out now why same r = same_out p new now out r.1 same

    on_own_out : (actor : PlainActor) (does : PlainOwn → PlainRoom → PlainWriter → Type 0) → ((own : PlainOwn) (room : PlainRoom) (w : PlainWriter) → slice_get p.rooms own.room ≡ Some room → OutIfDead w → does own room w → AllOut new) → OnOwn actor p outcome new does → AllOut new
    on_own_out actor does goes o = maybe_so actor.writer _ _ (λ r. same_out p new p out r.1 refl) (λ own x. goes own x.0 x.1 x.2 (own_out p own x.0 x.1 out x.2 x.3) x.4) o

    on_reader_out : (actor : PlainActor) (does : PlainReader → Type 0) → ((file : PlainReader) → does file → AllOut new) → OnReader actor p outcome new does → AllOut new
    on_reader_out actor does goes o = maybe_so actor.reader _ _ (λ r. same_out p new p out r.1 refl) goes o

    on_room_out : (name : Name) (does : ℕ → PlainRoom → Type 0) → ((n : ℕ) (room : PlainRoom) → slice_get p.rooms n ≡ Some room → does n room → AllOut new) → OnRoom p name outcome new does → AllOut new
    on_room_out name does goes o = maybe_so (find p name) _ _ (λ r. same_out p new p out r.1 refl) (λ n x. goes n x.0 x.1 x.2) o

    holds_out : (room : PlainRoom) (Goes : Type 0) → When (is_spent p) (IsRefused outcome IdsSpent p new) (When room.is_held (IsRefused outcome Held (drawn p) new) (When (length (open_writers room) == 0) Goes ((w : PlainWriter) × IsLeastOpen room w × IsRefused outcome (Busy w.host w.id) (drawn p) new)))
        → (Goes → AllOut new) → AllOut new
    holds_out room Goes h goes = either_so (is_spent p) _ _ (λ r. same_out p new p out r.1 refl)
        (λ x. either_so room.is_held _ _ (λ r. same_out p new (drawn p) out r.1 refl)
        (λ y. either_so (length (open_writers room) == 0) _ _ goes (λ z. same_out p new (drawn p) out z.2.1 refl) y) x) h

  -- ---- the statements

  made_out : (p : Plain) (name : Name) (o : Option ℕ) → AllOut p → AllOut (made p name o).0
  made_out p name (Some n) out = out
  made_out p name None out = more_out p.rooms (empty_room name) out tt

  enters_out : (place : ℕ) (declared : ActorDecl) (actor : PlainActor) (p new : Plain) (n : ℕ) (room : PlainRoom) (outcome : Outcome) → AllOut p → slice_get p.rooms n ≡ Some room → Enters place declared actor p n room outcome new → AllOut new
  enters_out place declared actor p new n room outcome out there e = either_so (is_spent p) _ _ (λ r. same_out p new p out r.1 refl)
      (λ x. either_so room.is_held _ _ (λ r. same_out p new (drawn p) out r.1 refl)
      (λ y. put_out p new n room _ out there (λ before. writers_push room.writers (entering p declared room) before (λ entered nobodys. absurd (true_not true nobodys refl))) (ap (λ (q : Plain). q.rooms) y.1)) x) e

  writes_out : (p new : Plain) (own : PlainOwn) (room : PlainRoom) (w : PlainWriter) (at : ℕ) (bytes : List ℕ) (outcome : Outcome) → AllOut p → slice_get p.rooms own.room ≡ Some room → OutIfDead w → WritesNow p own room w at bytes outcome new → AllOut new
  writes_out p new own room w at bytes outcome out there its o =
      either_so (nat_lt MAX_SIZE (at + length bytes) || nat_lt MAX_LOG (logged (entries_in w.issued) + length bytes)) _ _ (λ r. put_out p new own.room room (room_with w room) out there (with_out w room.writers its) (ap (λ (q : Plain). q.rooms) r.1))
      (λ x. either_so (nat_le MAX_STAMP (last_of w.issued) || nat_le MAX_STAMP w.floor) _ _ (λ r. put_out p new own.room room (room_with w room) out there (with_out w room.writers its) (ap (λ (q : Plain). q.rooms) r.1))
      (λ y. put_out p new own.room room _ out there (with_out _ room.writers its) (ap (λ (q : Plain). q.rooms) y.3.1)) x) o

  shut_out : (ws : List PlainWriter) → AllByRecursion OutIfDead (map (λ (w : PlainWriter). record w { is_open = w.is_open && w.is_owned }) ws)
  shut_out [] = tt
  shut_out (w ∷ ws) = (both w.id w.is_open w.is_owned, shut_out ws)
    where
      both : (id : ℕ) (entered owned : Bool) → entered && owned ≡ true → owned ≡ false → Out id
      both id true owned e nobodys = absurd (true_not owned nobodys e)
      both id false owned e nobodys = absurd (true_not false refl e)

  -- A step leaves no other writer dead.
  pub out_next : (place : ℕ) (declared : ActorDecl) (actor : PlainActor) (p : Plain) (statement : Statement) (outcome : Outcome) (new : Plain) → AllOut p → Takes place declared actor p statement outcome new → AllOut new
  out_next place declared actor p (Open name) outcome new out t = maybe_so actor.writer _ _
      (λ x. enters_out place declared actor (made p name (find p name)).0 new (made p name (find p name)).1 x.0 outcome (made_out p name (find p name) out) x.1 x.2)
      (λ own r. same_out p new p out r.1 refl) t
  out_next place declared actor p (Write at content) outcome new out t = on_own_out p new outcome out actor _
      (λ own room w there its x. either_so (length (bytes_of content) == 0) _ _ (λ y. same_out p new p out y.1 refl) (λ y. writes_out p new own room (made_room w) at (bytes_of content) outcome out there (made_writer_out w its) y) x) t
  out_next place declared actor p Sync outcome new out t = on_own_out p new outcome out actor _
      (λ own room w there its x. put_out p new own.room room (room_with (all_landed w) room) out there (with_out (all_landed w) room.writers its) (ap (λ (q : Plain). q.rooms) x.1)) t
  out_next place declared actor p Close outcome new out t = on_own_out p new outcome out actor _
      (λ own room w there its x. put_out p new own.room room _ out there (with_out _ room.writers (λ entered nobodys. absurd (true_not false refl entered))) (ap (λ (q : Plain). q.rooms) x.1)) t
  out_next place declared actor p (Ropen name workers) outcome new out t = maybe_so actor.reader _ _
      (λ x. on_room_out p new outcome out name _ (λ n room there y. same_out p new _ out y.1 refl) x)
      (λ file r. same_out p new p out r.1 refl) t
  out_next place declared actor p (Read at len) outcome new out t = on_reader_out p new outcome out actor _ (λ file x. same_out p new p out x.1 refl) t
  out_next place declared actor p (Verify at content) outcome new out t = on_reader_out p new outcome out actor _ (λ file x. same_out p new p out x.1 refl) t
  out_next place declared actor p Map outcome new out t = on_reader_out p new outcome out actor _ (λ file x. same_out p new p out x.3 refl) t
  out_next place declared actor p Refresh outcome new out t = on_reader_out p new outcome out actor _ (λ file x. same_out p new _ out x.2.1 refl) t
  out_next place declared actor p Rclose outcome new out t = on_reader_out p new outcome out actor _ (λ file x. same_out p new _ out x.1 refl) t
  out_next place declared actor p (Stat name) outcome new out t = on_room_out p new outcome out name _ (λ n room there x. same_out p new p out x.1 refl) t
  out_next place declared actor p (Trunc name size) outcome new out t = on_room_out p new outcome out name _
      (λ n room there x. holds_out p new outcome out room _ x
      (λ y. either_so (nat_lt MAX_SIZE size) _ _ (λ r. same_out p new (drawn p) out r.1 refl)
      (λ z. either_so (nat_le MAX_STAMP (top_of room)) _ _ (λ r. same_out p new (drawn p) out r.1 refl)
      (λ v. put_out p new n room _ out there (λ before. before) (ap (λ (q : Plain). q.rooms) v.3.1)) z) y)) t
  out_next place declared actor p (Rename name to) outcome new out t = on_room_out p new outcome out name _
      (λ n room there x. holds_out p new outcome out room _ x
      (λ y. maybe_so (find (drawn p) to) _ _ (λ r. put_out p new n room _ out there (λ before. before) (ap (λ (q : Plain). q.rooms) r.1)) (λ other r. same_out p new (drawn p) out r.1 refl) y)) t
  out_next place declared actor p (Flatten name) outcome new out t = on_room_out p new outcome out name _
      (λ n room there x. either_so (is_spent p) _ _ (λ r. same_out p new p out r.1 refl) (λ y. same_out p new (drawn p) out y.3 refl) x) t
  out_next place declared actor p (Recover name) outcome new out t = on_room_out p new outcome out name _
      (λ n room there x. either_so room.is_held _ _ (λ r. put_out p new n room _ out there (λ before. before) (ap (λ (q : Plain). q.rooms) r.1))
      (λ r. put_out p new n room _ out there (λ before. shut_out room.writers) (ap (λ (q : Plain). q.rooms) r.1)) x) t
  out_next place declared actor p Ls outcome new out t = same_out p new p out t.1 refl
  out_next place declared actor p (Arms call bytes) outcome new out t = absurd t
