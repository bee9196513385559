-- A plain machine goes on with the mount where one writer's calls were made: its room has another writer in its place, and all else is as it was.
use Rattle.std.proofs.Common.{◌≡◌, ◌≤◌, ◌<◌, ℕ, zero, suc, true, false, nat_eq, List, [], ◌∷◌, ◌++◌, map, Option, Some, None, refl, sym, ap, ◌∙◌, inl, inr, subst, arith, if◌then◌else◌}
use Rattle.std.specs.Prelude.{◌==◌, is_some, set, slice_get}
use Rattle.std.specs.List.{AllByRecursion, Any}
use Rattle.std.proofs.lemmas.Bool.{cases_eq}
use Rattle.std.proofs.lemmas.Bool.Decides.{nat_tests}
use Rattle.std.proofs.lemmas.List.Elements.{All-from_recursion, recursion_from_All}
use mathlib.Core.Logic.{dite}
use native.Mathlib.Decide.{ℕ_discrete}
use Rattle.plfs_types.specs.declared.entries.Trunc.{Trunc}
use Rattle.container_layout.specs.declared.items.Item.TheVariants as item
use Rattle.plain_file.proofs.Facts.{All-Among, Among}
use Rattle.store_api.specs.declared.tree.Room.{Room}
use Rattle.mount_model.specs.State.{last_id}
use Rattle.reader_laws.specs.GatheringListing.{AreTruncsAt}
use Rattle.reader_laws.specs.Moments.{Dropping, HadTrunc, IsNamed, IsSoundAt, Moment}
use Rattle.reader_laws.proofs.Gathered.Facts.{All-weaker, among_left, among_right, any_found, found_any}
use Rattle.plain_machine.specs.Machine.{Plain, PlainRoom, PlainWriter}
use Rattle.plain_machine.specs.Becoming.{room_with}
use Rattle.plain_machine.specs.Finding.{writer_in}
use Rattle.plain_machine.specs.Writers.{entered}
use Rattle.plain_plays.specs.Mirrors.{HasTrace, IdsRise, Mirrors, MirrorsAt, MirrorsRoom, MirrorsWriter, room_then}
use Rattle.plain_plays.specs.Plainly.{dropping_of}
use Rattle.plain_plays.proofs.PlainSteps.Steps.Leaving.{LeavesOthers, had_then, has_then, item_then, landed_then, last_later}
use Rattle.plain_plays.proofs.PlainSteps.Steps.Others.{SameAtBut, SameRoomBut}

-- ---- lists

pub set_here : {X : Type 0} (xs : List X) (i : ℕ) (x y : X) → slice_get xs i ≡ Some x → slice_get (set xs i y) i ≡ Some y
set_here [] i x y e = absurd (cc)
set_here (z ∷ xs) zero x y e = refl
set_here (z ∷ xs) (suc i) x y e = set_here xs i x y e

pub set_there : {X : Type 0} (xs : List X) (i j : ℕ) (y : X) → (j ≡ i → ⊥) → slice_get (set xs i y) j ≡ slice_get xs j
set_there [] i j y e = refl
set_there (z ∷ xs) zero zero y e = absurd (e refl)
set_there (z ∷ xs) (suc i) zero y e = refl
set_there (z ∷ xs) zero (suc j) y e = refl
set_there (z ∷ xs) (suc i) (suc j) y e = set_there xs i j y (λ s. e (ap suc s))

among_map : {X Y : Type 0} (f : X → Y) (xs : List X) (x : X) → Among x xs → Among (f x) (map f xs)
among_map f [] x a = absurd a
among_map f (y ∷ xs) x (inl e) = inl (ap f e)
among_map f (y ∷ xs) x (inr a) = inr (among_map f xs x a)

equal : (x y : ℕ) → nat_eq x y ≡ true → x ≡ y
equal x y e = grind (arith, nat_tests)

apart : (x y : ℕ) → nat_eq x y ≡ false → x ≡ y → ⊥
apart x y e same = absurd (let t : nat_eq x y ≡ true = grind (arith, nat_tests) in let clash : true ≡ false = sym t ∙ e in cc)

-- ---- writers of a list, by their ids

pub writer_among : (id : ℕ) (ws : List PlainWriter) (w : PlainWriter) → writer_in id ws ≡ Some w → Among w ws × (w.id ≡ id)
writer_among id [] w e = absurd (cc)
writer_among id (x ∷ ws) w e = elim (nat_eq x.id id) as (λ b. nat_eq x.id id ≡ b → (if b then Some x else writer_in id ws) ≡ Some w → Among w (x ∷ ws) × (w.id ≡ id)) [
  | true ↦ λ t f. let same : x ≡ w = cc in (inl (sym same), sym (ap (λ (y : PlainWriter). y.id) same) ∙ equal x.id id t)
  | false ↦ λ t f. let r = writer_among id ws w f in (inr r.0, r.1)
] refl e

pub one_of_id : (id : ℕ) (ws : List PlainWriter) (w u : PlainWriter) → IdsRise ws → writer_in id ws ≡ Some w → Among u ws → u.id ≡ id → u ≡ w
one_of_id id [] w u rise e a is = absurd a
one_of_id id (x ∷ ws) w u rise e a is = elim (nat_eq x.id id) as (λ b. nat_eq x.id id ≡ b → (if b then Some x else writer_in id ws) ≡ Some w → u ≡ w) [
  | true ↦ λ t f.
      let same : x ≡ w = cc in
      elim a as (λ _. u ≡ w) [
        | inl here ↦ here ∙ same
        | inr later ↦ absurd (let below : x.id < u.id = All-Among (λ (y : PlainWriter). x.id < y.id) ws u rise.0 later in omega (arith, below, is, equal x.id id t))
      ]
  | false ↦ λ t f. elim a as (λ _. u ≡ w) [
    | inl here ↦ absurd (apart x.id id t (sym (ap (λ (y : PlainWriter). y.id) here) ∙ is))
    | inr later ↦ one_of_id id ws w u rise.1 f later is
  ]
] refl e

-- this one in the place of that of its id
abbrev pub in_place : PlainWriter → PlainWriter → PlainWriter
in_place v x = if x.id == v.id then v else x

id_kept : (v x : PlainWriter) → (in_place v x).id ≡ x.id
id_kept v x = elim (nat_eq x.id v.id) as (λ b. nat_eq x.id v.id ≡ b → (if b then v else x).id ≡ x.id) [ true ↦ λ t. sym (equal x.id v.id t) | false ↦ λ t. refl ] refl

below_kept : (n : ℕ) (v : PlainWriter) (ws : List PlainWriter) → AllByRecursion (λ (y : PlainWriter). n < y.id) ws → AllByRecursion (λ (y : PlainWriter). n < y.id) (map (in_place v) ws)
below_kept n v [] a = tt
below_kept n v (x ∷ ws) a = (omega (arith, a.0, id_kept v x), below_kept n v ws a.1)

pub rise_kept : (v : PlainWriter) (ws : List PlainWriter) → IdsRise ws → IdsRise (map (in_place v) ws)
rise_kept v [] r = tt
rise_kept v (x ∷ ws) r = (subst (λ n. AllByRecursion (λ (y : PlainWriter). n < y.id) (map (in_place v) ws)) (sym (id_kept v x)) (below_kept x.id v ws r.0), rise_kept v ws r.1)

-- the one of the id itself
put_itself : (v w : PlainWriter) → w.id ≡ v.id → in_place v w ≡ v
put_itself v w same = let t : nat_eq w.id v.id ≡ true = grind (arith, nat_tests) in rw t refl

-- ---- at the next moment

module _ (m next : Moment) (d : Dropping) (l : LeavesOthers d m next) where
  writer_on : (n : ℕ) (w : PlainWriter) → ((n ≡ d.room) × (w.id ≡ d.writer) → ⊥) → MirrorsWriter m n w → MirrorsWriter next n w
  writer_on n w away o =
      let other : dropping_of n w ≡ d → ⊥ = λ same. away (ap (λ (x : Dropping). x.room) same, ap (λ (x : Dropping). x.writer) same) in
      record {
        named = o.named;
        drawn = let k = last_later d m next l in omega (arith, o.drawn, k);
        issued = l.issued n w.id away ∙ o.issued;
        landed_is = landed_then d m next l (dropping_of n w) o.named other ∙ o.landed_is;
        opens = ap is_some (item_then d m next l n (item.OpenHost w.host w.id) (record { in_range = tt; widths = o.named.widths }) other) ∙ o.opens;
        owned = l.live n w.id o.drawn away ∙ o.owned;
      }

  trace_back : (x : Dropping) → IsNamed x → (x ≡ d → ⊥) → HasTrace next x → HasTrace m x
  trace_back x named other (inl some) = inl (subst (λ k. 1 ≤ k) (landed_then d m next l x named other) some)
  trace_back x named other (inr had) = inr (had_then d m next l x.room (item.OpenHost x.host x.writer) other had)

  pub truncs_on : (n : ℕ) (ts : List Trunc) → AreTruncsAt m n ts → AreTruncsAt next n ts
  truncs_on n ts are = record {
    rise = are.rise;
    there = All-from_recursion (λ (t : Trunc). HadTrunc next n t.stamp t.size) ts (All-weaker (λ (t : Trunc). HadTrunc m n t.stamp t.size) (λ (t : Trunc). HadTrunc next n t.stamp t.size) ts (λ t had. has_then d m next l n (item.Trunc t.stamp t.size) tt had) (recursion_from_All (λ (t : Trunc). HadTrunc m n t.stamp t.size) ts are.there));
    all = λ t had. are.all t (had_then d m next l n (item.Trunc t.stamp t.size) tt had);
  }

  -- a room of other writers
  room_on : (n : ℕ) (r new : Room) (room : PlainRoom) → (n ≡ d.room → ⊥) → SameRoomBut d n r new → MirrorsRoom m n r room → MirrorsRoom next n new room
  room_on n r new room away s o = record {
    name = s.name ∙ o.name;
    held = λ other. s.opens ∙ o.held (λ same. other (same ∙ sym l.marks));
    truncs = truncs_on n room.truncs o.truncs;
    writers = All-weaker (MirrorsWriter m n) (MirrorsWriter next n) room.writers (λ w x. writer_on n w (λ both. away both.0) x) o.writers;
    rise = o.rise;
    all = λ x named here trace. o.all x named here (trace_back x named (λ same. away (sym here ∙ ap (λ (y : Dropping). y.room) same)) trace);
  }

  at_on : (n : ℕ) (r new : Option Room) (q : Option PlainRoom) → (n ≡ d.room → ⊥) → SameAtBut d n r new → MirrorsAt m n r q → MirrorsAt next n new q
  at_on n None None None away s o = tt
  at_on n (Some r) (Some new) (Some room) away s o = room_on n r new room away s o
  at_on n None (Some new) q away s o = absurd s
  at_on n (Some r) None q away s o = absurd s
  at_on n None None (Some room) away s o = absurd o
  at_on n (Some r) (Some new) None away s o = absurd o

  -- ---- the room of the writer

  module _ (w v : PlainWriter) (id : v.id ≡ w.id) (host : v.host ≡ w.host) (is : dropping_of d.room w ≡ d) (now : MirrorsWriter next d.room v) where
    all_put : (ws : List PlainWriter) → AllByRecursion (MirrorsWriter m d.room) ws → AllByRecursion (MirrorsWriter next d.room) (map (in_place v) ws)
    all_put [] o = tt
    all_put (x ∷ ws) o = (
      elim (nat_eq x.id v.id) as (λ b. nat_eq x.id v.id ≡ b → MirrorsWriter next d.room (if b then v else x)) [
        | true ↦ λ t. now
        | false ↦ λ t. writer_on d.room x (λ both. apart x.id v.id t (both.1 ∙ sym (ap (λ (y : Dropping). y.writer) is) ∙ sym id)) o.0
      ] refl,
      all_put ws o.1,
    )

    image : (x : Dropping) (ws : List PlainWriter) (u : PlainWriter) → IdsRise ws → writer_in w.id ws ≡ Some w → Among u ws → dropping_of d.room u ≡ x → dropping_of d.room (in_place v u) ≡ x
    image x ws u rise e a same = elim (nat_eq u.id v.id) as (λ b. nat_eq u.id v.id ≡ b → dropping_of d.room (if b then v else u) ≡ x) [
      | true ↦ λ t.
          let one : u ≡ w = one_of_id w.id ws w u rise e a (equal u.id v.id t ∙ id) in
          (λ i. record { room = d.room; host = (host ∙ sym (ap (λ (y : PlainWriter). y.host) one)) i; writer = (sym (equal u.id v.id t)) i }) ∙ same
      | false ↦ λ t. same
    ] refl

    pub room_put : (r new : Room) (room : PlainRoom) → SameRoomBut d d.room r new → MirrorsRoom m d.room r room → writer_in w.id room.writers ≡ Some w → MirrorsRoom next d.room new (room_with v room)
    room_put r new room s o e = record {
      name = s.name ∙ o.name;
      held = λ other. s.opens ∙ o.held (λ same. other (same ∙ sym l.marks));
      truncs = truncs_on d.room room.truncs o.truncs;
      writers = all_put room.writers o.writers;
      rise = rise_kept v room.writers o.rise;
      all = λ x named here trace. dite (ℕ_discrete x.host d.host)
          (λ h. dite (ℕ_discrete x.writer d.writer)
          (λ q. found x (is ∙ sym (λ i. record { room = here i; host = h i; writer = q i })))
          (λ other. earlier x (o.all x named here (trace_back x named (λ same. other (ap (λ (y : Dropping). y.writer) same)) trace))))
          (λ other. earlier x (o.all x named here (trace_back x named (λ same. other (ap (λ (y : Dropping). y.host) same)) trace)));
    }
      where
        found : (x : Dropping) → dropping_of d.room w ≡ x → Any (λ (y : PlainWriter). dropping_of d.room y ≡ x) (map (in_place v) room.writers)
        found x same =
            let a = writer_among w.id room.writers w e in
            found_any (λ (y : PlainWriter). dropping_of d.room y ≡ x) (map (in_place v) room.writers) (in_place v w) (among_map (in_place v) room.writers w a.0) (image x room.writers w o.rise e a.0 same)

        earlier : (x : Dropping) → Any (λ (y : PlainWriter). dropping_of d.room y ≡ x) room.writers → Any (λ (y : PlainWriter). dropping_of d.room y ≡ x) (map (in_place v) room.writers)
        earlier x any =
            let f = any_found (λ (y : PlainWriter). dropping_of d.room y ≡ x) room.writers any in
            found_any (λ (y : PlainWriter). dropping_of d.room y ≡ x) (map (in_place v) room.writers) (in_place v f.0) (among_map (in_place v) room.writers f.0 f.1) (image x room.writers f.0 o.rise e f.1 f.2)

    at_put : (r new : Option Room) (room : PlainRoom) → SameAtBut d d.room r new → MirrorsAt m d.room r (Some room) → writer_in w.id room.writers ≡ Some w → MirrorsAt next d.room new (Some (room_with v room))
    at_put None new room s o e = absurd o
    at_put (Some r) None room s o e = absurd s
    at_put (Some r) (Some new) room s o e = room_put r new room s o e

    -- the machine with this writer in place of that one
    pub machine_put : (p q : Plain) (room : PlainRoom) → Mirrors m p → slice_get p.rooms d.room ≡ Some room → writer_in w.id room.writers ≡ Some w → IsSoundAt next → q.rooms ≡ set p.rooms d.room (room_with v room) → next.state.times ≡ q.times → q.mark ≡ p.mark → next.state.serial ≡ q.serial → Mirrors next q
    machine_put p q room o there e sound rooms times mark serial = record {
      sound = sound;
      rooms = λ n. subst (λ (rs : List PlainRoom). MirrorsAt next n (room_then next n) (slice_get rs n)) (sym rooms) (elim (cases_eq n d.room) as (λ _. MirrorsAt next n (room_then next n) (slice_get (set p.rooms d.room (room_with v room)) n)) [
        | inl here ↦
            subst (λ k. MirrorsAt next k (room_then next k) (slice_get (set p.rooms d.room (room_with v room)) k)) (sym here) (subst (MirrorsAt next d.room (room_then next d.room)) (sym (set_here p.rooms d.room room (room_with v room) there)) (at_put (room_then m d.room) (room_then next d.room) room (l.rooms d.room) (subst (MirrorsAt m d.room (room_then m d.room)) there (o.rooms d.room)) e))
        | inr other ↦ subst (MirrorsAt next n (room_then next n)) (sym (set_there p.rooms d.room n (room_with v room) other)) (at_on n (room_then m n) (room_then next n) (slice_get p.rooms n) other (l.rooms n) (o.rooms n))
      ]);
      times = times;
      mark = l.mount ∙ o.mark ∙ sym mark;
      serial = serial;
      none_hold = l.holders ∙ o.none_hold;
    }

-- ---- a writer more

above : (n : ℕ) (v : PlainWriter) (ws : List PlainWriter) → n < v.id → AllByRecursion (λ (y : PlainWriter). n < y.id) ws → AllByRecursion (λ (y : PlainWriter). n < y.id) (ws ++ v ∷ [])
above n v [] less a = (less, tt)
above n v (x ∷ ws) less a = (a.0, above n v ws less a.1)

rise_push : (last : ℕ) (v : PlainWriter) (ws : List PlainWriter) → last < v.id → AllByRecursion (λ (y : PlainWriter). y.id ≤ last) ws → IdsRise ws → IdsRise (ws ++ v ∷ [])
rise_push last v [] less within rise = (tt, tt)
rise_push last v (x ∷ ws) less within rise = (above x.id v ws (omega (arith, within.0, less)) rise.0, rise_push last v ws less within.1 rise.1)

module _ (m next : Moment) (d : Dropping) (l : LeavesOthers d m next) (v : PlainWriter) (is : dropping_of d.room v ≡ d) (now : MirrorsWriter next d.room v) (fresh : last_id m.state < d.writer) where
  all_push : (ws : List PlainWriter) → AllByRecursion (MirrorsWriter m d.room) ws → AllByRecursion (MirrorsWriter next d.room) (ws ++ v ∷ [])
  all_push [] o = (now, tt)
  all_push (x ∷ ws) o = (writer_on m next d l d.room x (λ both. let k = o.0.drawn in omega (arith, k, fresh, both.1)) o.0, all_push ws o.1)

  room_push : (r new : Room) (room : PlainRoom) → SameRoomBut d d.room r new → MirrorsRoom m d.room r room → MirrorsRoom next d.room new (entered v room)
  room_push r new room s o = record {
    name = s.name ∙ o.name;
    held = λ other. s.opens ∙ o.held (λ same. other (same ∙ sym l.marks));
    truncs = truncs_on m next d l d.room room.truncs o.truncs;
    writers = all_push room.writers o.writers;
    rise = rise_push (last_id m.state) v room.writers (let id : v.id ≡ d.writer = ap (λ (y : Dropping). y.writer) is in omega (arith, fresh, id)) (All-weaker (MirrorsWriter m d.room) (λ (y : PlainWriter). y.id ≤ last_id m.state) room.writers (λ y x. x.drawn) o.writers) o.rise;
    all = λ x named here trace. dite (ℕ_discrete x.host d.host)
        (λ h. dite (ℕ_discrete x.writer d.writer)
        (λ q. found_any (λ (y : PlainWriter). dropping_of d.room y ≡ x) (room.writers ++ v ∷ []) v (among_right v room.writers (v ∷ []) (inl refl)) (is ∙ sym (λ i. record { room = here i; host = h i; writer = q i })))
        (λ other. earlier x (o.all x named here (trace_back m next d l x named (λ same. other (ap (λ (y : Dropping). y.writer) same)) trace))))
        (λ other. earlier x (o.all x named here (trace_back m next d l x named (λ same. other (ap (λ (y : Dropping). y.host) same)) trace)));
  }
    where
      earlier : (x : Dropping) → Any (λ (y : PlainWriter). dropping_of d.room y ≡ x) room.writers → Any (λ (y : PlainWriter). dropping_of d.room y ≡ x) (room.writers ++ v ∷ [])
      earlier x any =
          let f = any_found (λ (y : PlainWriter). dropping_of d.room y ≡ x) room.writers any in
          found_any (λ (y : PlainWriter). dropping_of d.room y ≡ x) (room.writers ++ v ∷ []) f.0 (among_left f.0 room.writers (v ∷ []) f.1) f.2

  push_at : (r new : Option Room) (room : PlainRoom) → SameAtBut d d.room r new → MirrorsAt m d.room r (Some room) → MirrorsAt next d.room new (Some (entered v room))
  push_at None new room s o = absurd o
  push_at (Some r) None room s o = absurd s
  push_at (Some r) (Some new) room s o = room_push r new room s o

  -- the machine with this writer behind the others of its room
  pub machine_push : (p q : Plain) (room : PlainRoom) → Mirrors m p → slice_get p.rooms d.room ≡ Some room → IsSoundAt next → q.rooms ≡ set p.rooms d.room (entered v room) → next.state.times ≡ q.times → q.mark ≡ p.mark → next.state.serial ≡ q.serial → Mirrors next q
  machine_push p q room o there sound rooms times mark serial = record {
    sound = sound;
    rooms = λ n. subst (λ (rs : List PlainRoom). MirrorsAt next n (room_then next n) (slice_get rs n)) (sym rooms) (elim (cases_eq n d.room) as (λ _. MirrorsAt next n (room_then next n) (slice_get (set p.rooms d.room (entered v room)) n)) [
      | inl here ↦
          subst (λ k. MirrorsAt next k (room_then next k) (slice_get (set p.rooms d.room (entered v room)) k)) (sym here) (subst (MirrorsAt next d.room (room_then next d.room)) (sym (set_here p.rooms d.room room (entered v room) there)) (push_at (room_then m d.room) (room_then next d.room) room (l.rooms d.room) (subst (MirrorsAt m d.room (room_then m d.room)) there (o.rooms d.room))))
      | inr other ↦ subst (MirrorsAt next n (room_then next n)) (sym (set_there p.rooms d.room n (entered v room) other)) (at_on m next d l n (room_then m n) (room_then next n) (slice_get p.rooms n) other (l.rooms n) (o.rooms n))
    ]);
    times = times;
    mark = l.mount ∙ o.mark ∙ sym mark;
    serial = serial;
    none_hold = l.holders ∙ o.none_hold;
  }
