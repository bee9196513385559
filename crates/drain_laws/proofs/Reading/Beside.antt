-- A mount that is thought over a target: what it reads there is what a drain reads.
use Rattle.std.proofs.Common.{◌≡◌, ◌≢◌, ℕ, ◌-◌, ◌^◌, nat_eq, nat_le, length, Bool, true, false, List, [], ◌∷◌, Some, None, refl, ap, sym, ◌∙◌, ◌⊎◌, inl, inr, subst, arith}
use Rattle.std.specs.Prelude.{Result, Ok, Err, slice_get, if◌then◌else◌}
use Rattle.std.proofs.lemmas.Bool.{cond-false}
use Rattle.std.proofs.lemmas.Bool.Decides.{nat_tests}
use Rattle.std.proofs.lemmas.List.Elements.{All-from_recursion}
use Rattle.plain_file.proofs.Facts.{Among}
use Rattle.plfs_types.specs.Counts.{next_count}
use Rattle.container_layout.specs.declared.items.Item.{Item}
use Rattle.container_layout.specs.declared.items.Item.TheVariants.{Access, Flat, Index, Log, Meta, OpenHost, Packed, TmpFlat, TmpPacked, Trunc}
use Rattle.store_api.specs.declared.step.Answer.{Answer}
use Rattle.store_api.specs.declared.step.Answer.TheVariants.{Absent, Bytes, Names, NoFolder, NoRoom, Number}
use Rattle.store_api.specs.declared.store.Trouble.TheVariants.{Fault, NoMemory}
use Rattle.store_api.specs.declared.tree.Room.{Room}
use Rattle.store_api.specs.declared.tree.Tree.{Tree}
use Rattle.store_api.specs.Acts.{Stored}
use Rattle.store_api.specs.Effect.{Effect, effect, or_no_room as in_some}
use Rattle.store_api.specs.Room.{bytes_read, folder_listed, length_told}
use Rattle.store_laws.specs.Files.{file_at}
use Rattle.store_laws.specs.Outcomes.{IsLook}
use Rattle.store_laws.specs.Tells.{Tells}
use Rattle.store_laws.proofs.Facts.{look_same}
use Rattle.mount_model.specs.declared.call.Call.TheVariants.{Look}
use Rattle.mount_model.specs.declared.call.Look.{Look as Sight}
use Rattle.mount_model.specs.declared.call.Look.TheVariants.{Top, List as ListFolder, Length, Read}
use Rattle.mount_model.specs.declared.reply.Refusal.TheVariants as no_room
use Rattle.mount_model.specs.declared.reply.Reply.{Reply}
use Rattle.mount_model.specs.declared.reply.Reply.TheVariants as reply
use Rattle.mount_model.specs.History.{Event}
use Rattle.mount_model.specs.Looking.{LooksAt, look_step as mount_step, look_reply as mount_reply, look_outcome}
use Rattle.mount_model.specs.Making.{MakesAct, UnlessRefused, room_check}
use Rattle.mount_model.specs.Paths.{mark_path}
use Rattle.mount_model.specs.Regular.{IsCounted, IsDrawn, IsOfSerial}
use Rattle.mount_model.specs.State.{State, Table, last_id}
use Rattle.mount_sound.specs.Marks.{IsMarksRoom, IsOfMark}
use Rattle.mount_sound.specs.Container.{IsContainer, IsOfId}
use Rattle.mount_sound.specs.Shape.{IsDrawnBy}
use Rattle.mount_sound.specs.Owed.{IsLawful}
use Rattle.mount_sound.specs.Sound.{IsSoundTree}
use Rattle.mount_model.specs.declared.stuck.Stuck.{Stuck}
use Rattle.mount_model.specs.declared.stuck.Stuck.TheVariants as stuck
use Rattle.mount_model.specs.FlowReplies.{Tries}
use Rattle.mount_model.specs.Running.{Runs, asking, unbroken}
use Rattle.mount_model.specs.Program.{done, ask}
use Rattle.mount_model.proofs.Stories.Facts.{after_own}
use Rattle.reader_laws.specs.Moments.{IsSoundAt, Moment, moment_after}
use Rattle.drain_copy.specs.Asking.{look_reply, look_step}
use Rattle.mount_model.specs.Making.{Told}
use Rattle.drain_laws.proofs.Driving.Passing.{Sees}

-- ---- a mount that has drawn all ids

abbrev pub IsMarked : Tree → ℕ → Room → Type 0
IsMarked t n room = (slice_get t.rooms n ≡ Some room) × IsMarksRoom room × (file_at room (mark_path (2 ^ 32 - 1)) ≡ Some [])

-- a container where more ids are allowed
wider_id : (few many : ℕ → Type 0) (item : Item) → ((id : ℕ) → few id → many id) → IsOfId few item → IsOfId many item
wider_id few many Access more of = tt
wider_id few many (OpenHost host writer) more of = more writer of
wider_id few many (Meta last bytes stamp host writer) more of = more writer of
wider_id few many (Trunc stamp size) more of = tt
wider_id few many (Flat id) more of = more id of
wider_id few many (TmpFlat id) more of = more id of
wider_id few many (Index host writer) more of = more writer of
wider_id few many (Log host writer) more of = more writer of
wider_id few many (Packed host writer) more of = more writer of
wider_id few many (TmpPacked host id) more of = more id of

wider_room : (few many : ℕ → Type 0) (room : Room) → ((id : ℕ) → few id → many id) → IsMarksRoom room ⊎ IsContainer few room → IsMarksRoom room ⊎ IsContainer many room
wider_room few many room more (inl m) = inl m
wider_room few many room more (inr c) = inr (record {
  named = c.named;
  folders_differ = c.folders_differ;
  paths_differ = c.paths_differ;
  has_metadata = c.has_metadata;
  has_truncs = c.has_truncs;
  has_flats = c.has_flats;
  has_access = c.has_access;
  folders = c.folders;
  top_unlisted = c.top_unlisted;
  files = λ path bytes e. (let f = c.files path bytes e in record { item = f.item; is_at = f.is_at; holds = f.holds; id = wider_id few many f.item more f.id; housed = f.housed });
})

-- an answer is replied to by no want of memory
never_wants : (look : Sight) (answer : Answer) → mount_reply look (Ok answer) ≡ reply.NoMemory → ⊥
never_wants Top (Names names) is = cc
never_wants Top NoFolder is = cc
never_wants Top NoRoom is = cc
never_wants Top answer is = cc
never_wants (ListFolder folder) (Names names) is = cc
never_wants (ListFolder folder) NoFolder is = cc
never_wants (ListFolder folder) NoRoom is = cc
never_wants (ListFolder folder) answer is = cc
never_wants (Length path) (Number value) is = cc
never_wants (Length path) NoFolder is = cc
never_wants (Length path) Absent is = cc
never_wants (Length path) NoRoom is = cc
never_wants (Length path) answer is = cc
never_wants (Read path at len) (Bytes bytes) is = by_length (nat_le (length bytes) len) is
  where
    by_length : (b : Bool) → (if b then reply.Looked (Bytes bytes) else reply.Damaged path.folder path.file) ≡ reply.NoMemory → ⊥
    by_length true e = cc
    by_length false e = cc
never_wants (Read path at len) NoFolder is = cc
never_wants (Read path at len) Absent is = cc
never_wants (Read path at len) NoRoom is = cc
never_wants (Read path at len) answer is = cc

module _ (t : Tree) (sound : IsSoundTree t) (marks : ℕ) (room : Room) (marked : IsMarked t marks room) where
  abbrev store : ℕ → Stored
  store k = record { tree = Some t; acts = k; faults = 0 }

  abbrev no_table : Table
  no_table = record { writers = []; holders = []; flattenings = [] }

  abbrev state : ℕ → State
  state k = record { store = store k; opened = store 0; times = None; marks = marks; mount = 2 ^ 32 - 1; serial = 2 ^ 32 - 1; table = no_table }

  abbrev pub beside : ℕ → Moment
  beside k = record { state = state k; issued = sound.issued }

  all_drawn : (k id : ℕ) → IsOfMark t id → IsDrawnBy (last_id (state k)) t id
  all_drawn k id of = (of, omega (arith, of.is, of.mount_fits, of.serial_fits))

  pub beside_sound : (k : ℕ) → IsSoundAt (beside k)
  beside_sound k = record {
    clean = (t, refl, sound);
    regular = record {
      mount_fits = omega arith;
      serial_fits = omega arith;
      counted = All-from_recursion IsCounted [] tt;
      ascending = tt;
      drawn = All-from_recursion (λ row. IsDrawn (state k) row.id) [] tt;
      apart = All-from_recursion (λ row. row.room ≢ marks) [] tt;
      holders = record { ascending = tt; drawn = All-from_recursion (IsOfSerial (2 ^ 32 - 1) (2 ^ 32 - 1)) [] tt; apart = All-from_recursion (λ r. r ≢ marks) [] tt };
      flattenings = record { ascending = tt; drawn = All-from_recursion (IsOfSerial (2 ^ 32 - 1) (2 ^ 32 - 1)) [] tt; apart = All-from_recursion (λ r. r ≢ marks) [] tt };
    };
    shape = record {
      tree = t;
      told = refl;
      shaped = record {
        rooms_differ = sound.shaped.rooms_differ;
        rooms = λ n r there. wider_room (IsOfMark t) (IsDrawnBy (last_id (state k)) t) r (all_drawn k) (sound.shaped.rooms n r there);
      };
      marks = room;
      has_marks = marked.0;
      is_marks = marked.1;
      mark = marked.2;
    };
    sound = record {
      rooms = sound.rooms;
      writes = sound.writes;
      placed = λ id row e. absurd (cc);
      fresh = λ number writer far. sound.fitting number writer (omega (arith, far));
      roomless = sound.roomless;
    };
    held = record { each = λ number h e. absurd (cc); alone = λ one other h i e f g. absurd (cc) };
    flats = sound.flats;
    flattenings = λ id f e. absurd (cc);
  }

  -- ---- a look there

  module _ (n : ℕ) (other : n ≡ marks → ⊥) where
    looked : (k : ℕ) (look : Sight) (answer : Answer) → effect t (mount_step n look) ≡ record { tree = t; answer = answer } → LooksAt n look (state k) (mount_reply look (Ok answer)) (state (next_count k))
    looked k look answer e =
        let check : room_check (state k) n ≡ None = cond-false (nat_eq n marks) (Some no_room.NoRoom) None (grind (arith, nat_tests, other)) in
        subst (λ o. UnlessRefused o (state k) (mount_reply look (Ok answer)) (state (next_count k)) (MakesAct (mount_step n look) (look_outcome look (state k)) (state k) (mount_reply look (Ok answer)) (state (next_count k)))) (sym check)
        (record {
          told = Ok answer;
          made = record { tree = (t, refl, e); acts = refl; faults = refl };
          answered = refl;
          after = refl;
        })

    abbrev event : ℕ → Sight → Answer → Event
    event k look answer = record { caller = 0; ask = unbroken (Look n look); reply = mount_reply look (Ok answer); after = state (next_count k) }

    lawful_look : (k : ℕ) (look : Sight) (answer : Answer) → effect t (mount_step n look) ≡ record { tree = t; answer = answer } → IsLawful (state k) (event k look answer ∷ [])
    lawful_look k look answer e = (record { numbers = tt; owes = λ clean. tt }, record { does = looked k look answer e }, tt)

    -- ---- programs that go on with good answers alone

    abbrev pub IsStuck : {X : Type 0} → Tries X → Type 0
    IsStuck p = (why : Stuck) × (p ≡ done (Err why))

    abbrev pub IsFaulted : {X : Type 0} → Tries X → Type 0
    IsFaulted p = p ≡ done (Err stuck.Fault)

    -- Each call is a look at the room. What is told there is replied as a mount would, or ends the program, as what a mount would reply does. So does a fault.
    abbrev pub IsStrict : {X : Type 0} → Tries X → Type 0
    IsStrict (done x) = Unit {0}
    IsStrict (ask call k) =
        ((look : Sight) × (call ≡ Look n look) × ((answer : Answer) → effect t (mount_step n look) ≡ record { tree = t; answer = answer } → (look_reply (Ok answer) ≡ mount_reply look (Ok answer)) ⊎ (IsStuck (k (look_reply (Ok answer))) × IsStuck (k (mount_reply look (Ok answer))))))
        × IsFaulted (k reply.Fault) × IsFaulted (k reply.NoMemory) × ((r : Reply) → IsStrict (k r))

    same_step : (look : Sight) → look_step (Look n look) ≡ mount_step n look
    same_step Top = refl
    same_step (ListFolder folder) = refl
    same_step (Length path) = refl
    same_step (Read path at len) = refl

    -- a look at another tree with the same room
    module _ (seen : Tree) (its : Room) (there : slice_get seen.rooms n ≡ Some its) (here : slice_get t.rooms n ≡ Some its) where
      answer_same : (look : Sight) → (effect seen (mount_step n look)).answer ≡ (effect t (mount_step n look)).answer
      answer_same Top = ap (λ o. (in_some seen n (λ (r : Room). folder_listed r []) o).answer) there ∙ sym (ap (λ o. (in_some t n (λ (r : Room). folder_listed r []) o).answer) here)
      answer_same (ListFolder folder) = ap (λ o. (in_some seen n (λ (r : Room). folder_listed r folder) o).answer) there ∙ sym (ap (λ o. (in_some t n (λ (r : Room). folder_listed r folder) o).answer) here)
      answer_same (Length path) = ap (λ o. (in_some seen n (λ (r : Room). length_told r path.folder path.file) o).answer) there ∙ sym (ap (λ o. (in_some t n (λ (r : Room). length_told r path.folder path.file) o).answer) here)
      answer_same (Read path at len) = ap (λ o. (in_some seen n (λ (r : Room). bytes_read r path.folder path.file at len) o).answer) there ∙ sym (ap (λ o. (in_some t n (λ (r : Room). bytes_read r path.folder path.file at len) o).answer) here)

      only_looks : (look : Sight) → IsLook (mount_step n look)
      only_looks Top = tt
      only_looks (ListFolder folder) = tt
      only_looks (Length path) = tt
      only_looks (Read path at len) = tt

      -- what was told of the one is what the other tells
      told_there : (look : Sight) (answer : Answer) → Tells (mount_step n look) seen (Ok answer) seen → effect t (mount_step n look) ≡ record { tree = t; answer = answer }
      told_there look answer e =
          let same : (effect t (mount_step n look)).answer ≡ answer = sym (answer_same look) ∙ ap (λ (x : Effect). x.answer) e in
          let stays : (effect t (mount_step n look)).tree ≡ t = look_same (mount_step n look) t (only_looks look) in
          λ i. record { tree = stays i; answer = same i }

      -- ---- what is seen so is what a caller of the mount reads

      pub record HasRun {X : Type 0} (p : Tries X) (x : X) (k : ℕ) : Type 0 where
        pub events : List Event
        pub last : ℕ
        pub lawful : IsLawful (state k) events
        pub runs : Runs 0 p events (Ok x)
        pub ends : moment_after (beside k) events ≡ beside last

      not_stuck : {X : Type 0} (p : Tries X) (x : X) → IsStuck p → Sees seen p (Ok x) → ⊥
      not_stuck {X} p x (why, is) sees = let e : ◌≡◌ {A = Result X Stuck} (Err why) (Ok x) = subst (λ q. Sees seen q (Ok x)) is sees in cc

      pub sees_runs : {X : Type 0} (p : Tries X) (x : X) (k : ℕ) → IsStrict p → Sees seen p (Ok x) → HasRun p x k
      sees_runs (done y) x k strict sees = record { events = []; last = k; lawful = tt; runs = (refl, sees); ends = refl }
      sees_runs {X} (ask call next) x k strict (told, tells, sees) = by_told (λ r st se. sees_runs (next r) x (next_count k) st se) told tells sees
        where
          goes_on : ((r : Reply) → IsStrict (next r) → Sees seen (next r) (Ok x) → HasRun (next r) x (next_count k)) → (answer : Answer) → effect t (mount_step n strict.0.0) ≡ record { tree = t; answer = answer } → Sees seen (next (look_reply (Ok answer))) (Ok x) → look_reply (Ok answer) ≡ mount_reply strict.0.0 (Ok answer) → HasRun (ask call next) x k
          goes_on more answer e sees same =
              let r = more (mount_reply strict.0.0 (Ok answer)) (strict.3 (mount_reply strict.0.0 (Ok answer))) (subst (λ y. Sees seen (next y) (Ok x)) same sees) in
              let l = lawful_look k strict.0.0 answer e in
              record {
                events = event k strict.0.0 answer ∷ r.events;
                last = r.last;
                lawful = (l.0, l.1, r.lawful);
                runs = after_own 0 (unbroken call) (λ y. asking (next y)) (event k strict.0.0 answer) r.events (Ok x) refl (ap unbroken (sym strict.0.1)) r.runs;
                ends = r.ends;
              }

          by_told : ((r : Reply) → IsStrict (next r) → Sees seen (next r) (Ok x) → HasRun (next r) x (next_count k)) → (told : Told) → Tells (look_step call) seen told seen → Sees seen (next (look_reply told)) (Ok x) → HasRun (ask call next) x k
          by_told more (Err Fault) tells sees = absurd (not_stuck (next reply.Fault) x (stuck.Fault, strict.1) sees)
          by_told more (Err NoMemory) tells sees = absurd (not_stuck (next reply.NoMemory) x (stuck.Fault, strict.2) sees)
          by_told more (Ok answer) tells sees =
              let here : Tells (mount_step n strict.0.0) seen (Ok answer) seen = subst (λ s. Tells s seen (Ok answer) seen) (ap look_step strict.0.1 ∙ same_step strict.0.0) tells in
              let e = told_there strict.0.0 answer here in
              elim (strict.0.2 answer e) as (λ _. HasRun (ask call next) x k) [
                | inl same ↦ goes_on more answer e sees same
                | inr both ↦ absurd (not_stuck (next (look_reply (Ok answer))) x both.0 sees)
              ]

      -- ---- what is seen in trouble, a caller of the mount reads in trouble, unless the target's store failed

      -- the mount's store didn't fail, and memory wasn't wanting
      pub record HasFailed {X : Type 0} (p : Tries X) (k : ℕ) : Type 0 where
        pub by : Stuck
        pub events : List Event
        pub last : ℕ
        pub lawful : IsLawful (state k) events
        pub runs : Runs 0 p events (Err by)
        pub ends : moment_after (beside k) events ≡ beside last
        pub calm : (e : Event) → Among e events → e.reply ≡ reply.NoMemory → ⊥

      one_trouble : {X : Type 0} (a b : Stuck) → ◌≡◌ {A = Result X Stuck} (Err a) (Err b) → b ≡ a
      one_trouble a b e = cc

      pub sees_fails : {X : Type 0} (p : Tries X) (why : Stuck) (k : ℕ) → IsStrict p → Sees seen p (Err why) → (why ≡ stuck.Fault) ⊎ HasFailed p k
      sees_fails (done y) why k strict sees = inr (record { by = why; events = []; last = k; lawful = tt; runs = (refl, sees); ends = refl; calm = λ e a is. a })
      sees_fails {X} (ask call next) why k strict (told, tells, sees) = by_told (λ r st se. sees_fails (next r) why (next_count k) st se) told tells sees
        where
          behind : (answer : Answer) → effect t (mount_step n strict.0.0) ≡ record { tree = t; answer = answer } → HasFailed (next (mount_reply strict.0.0 (Ok answer))) (next_count k) → HasFailed (ask call next) k
          behind answer e r =
              let l = lawful_look k strict.0.0 answer e in
              record {
                by = r.by;
                events = event k strict.0.0 answer ∷ r.events;
                last = r.last;
                lawful = (l.0, l.1, r.lawful);
                runs = after_own 0 (unbroken call) (λ y. asking (next y)) (event k strict.0.0 answer) r.events (Err r.by) refl (ap unbroken (sym strict.0.1)) r.runs;
                ends = r.ends;
                calm = λ x a is. calm_too answer x a is r.calm;
              }
            where
              calm_too : (answer : Answer) (x : Event) → Among x (event k strict.0.0 answer ∷ r.events) → x.reply ≡ reply.NoMemory → ((y : Event) → Among y r.events → y.reply ≡ reply.NoMemory → ⊥) → ⊥
              calm_too answer x (inl same) is calm = never_wants strict.0.0 answer (ap (λ (y : Event). y.reply) (sym same) ∙ is)
              calm_too answer x (inr a) is calm = calm x a is

          stuck_there : (r : Reply) → IsStuck (next r) → HasFailed (next r) (next_count k)
          stuck_there r (other, is) = record { by = other; events = []; last = next_count k; lawful = tt; runs = subst (λ p. Runs 0 p [] (Err other)) (sym is) (refl, refl); ends = refl; calm = λ e a no. a }

          by_told : ((r : Reply) → IsStrict (next r) → Sees seen (next r) (Err why) → (why ≡ stuck.Fault) ⊎ HasFailed (next r) (next_count k)) → (told : Told) → Tells (look_step call) seen told seen → Sees seen (next (look_reply told)) (Err why) → (why ≡ stuck.Fault) ⊎ HasFailed (ask call next) k
          by_told more (Err Fault) tells sees = inl (one_trouble {X = X} stuck.Fault why (subst (λ p. Sees seen p (Err why)) strict.1 sees))
          by_told more (Err NoMemory) tells sees = inl (one_trouble {X = X} stuck.Fault why (subst (λ p. Sees seen p (Err why)) strict.2 sees))
          by_told more (Ok answer) tells sees =
              let here : Tells (mount_step n strict.0.0) seen (Ok answer) seen = subst (λ s. Tells s seen (Ok answer) seen) (ap look_step strict.0.1 ∙ same_step strict.0.0) tells in
              let e = told_there strict.0.0 answer here in
              elim (strict.0.2 answer e) as (λ _. (why ≡ stuck.Fault) ⊎ HasFailed (ask call next) k) [
                | inl same ↦ elim (more (mount_reply strict.0.0 (Ok answer)) (strict.3 (mount_reply strict.0.0 (Ok answer))) (subst (λ y. Sees seen (next y) (Err why)) same sees)) as (λ _. (why ≡ stuck.Fault) ⊎ HasFailed (ask call next) k) [
                  | inl fault ↦ inl fault
                  | inr r ↦ inr (behind answer e r)
                ]
                | inr both ↦ inr (behind answer e (stuck_there (mount_reply strict.0.0 (Ok answer)) both.1))
              ]
