-- A container that nobody can enter was so at first, or has been since a call that held it.
use Rattle.std.proofs.Common.{◌≡◌, ◌⊎◌, inl, inr, ℕ, zero, suc, Bool, true, false, List, [], ◌∷◌, ◌++◌, get_or, length, Option, Some, None, Ok, Err, refl, sym, ap, ◌∙◌, subst}
use Rattle.std.specs.Prelude.{⊤, slice_get, slice_set}
use Rattle.std.proofs.lemmas.Bool.{cases_eq}
use Rattle.container_layout.specs.Paths.{openhosts}
use Rattle.container_layout.proofs.Facts.{elsewhere}
use Rattle.store_api.specs.declared.step.Answer.TheVariants.{Made, NoFolder, NotEmpty}
use Rattle.store_api.specs.declared.store.Trouble.TheVariants.{Fault, NoMemory}
use Rattle.store_api.specs.declared.tree.Room.{Room}
use Rattle.store_api.specs.declared.tree.Tree.{Tree}
use Rattle.store_api.specs.Effect.{in_room, tree_after}
use Rattle.store_api.specs.Leaves.{in_part, not_made, whole, with_first}
use Rattle.store_api.specs.Room.{Outcome, has_folder}
use Rattle.store_api.specs.Step.{Step, rooms as all_rooms, create, cut, find_room, length_of, list_folder, make_folder, make_room, read_at, remove, remove_folder, rename_room, replace, sync, write_at}
use Rattle.store_laws.specs.Naming.{NamesFolder}
use Rattle.store_laws.specs.Outcomes.{IsLook}
use Rattle.store_laws.specs.Tells.{Tells}
use Rattle.store_laws.specs.There.{HoldsFolder, LacksFolder}
use Rattle.store_laws.proofs.Facts.{acts_told, keeps_rooms, make_folder_told, make_room_told, remove_folder_told, slice_get_more}
use Rattle.mount_model.specs.declared.call.Call.{Call}
use Rattle.mount_model.specs.declared.call.Call.TheVariants.{Hold}
use Rattle.mount_model.specs.declared.reply.Refusal.{Refusal}
use Rattle.mount_model.specs.declared.reply.Reply.{Reply}
use Rattle.mount_model.specs.declared.reply.Reply.TheVariants as reply
use Rattle.mount_model.specs.declared.row.Holder.{Holder}
use Rattle.mount_model.specs.Entering.{draw_check, next_id}
use Rattle.mount_model.specs.History.{Event}
use Rattle.mount_model.specs.Holding.{HoldOutcome, HoldsRoom, hold_step, holding}
use Rattle.mount_model.specs.Making.{Refuses, Told}
use Rattle.mount_model.specs.Paths.{Name, new_files, new_folders}
use Rattle.mount_model.specs.State.{State, Table}
use Rattle.mount_model.specs.Step.{Answers, IsStep}
use Rattle.mount_model.proofs.Facts.{match_cases}
use Rattle.mount_sound.specs.Owed.{IsLawful}
use Rattle.mount_sound.proofs.Facts.{GoesOn, OfEachAct, look_aside, step_acts}
use Rattle.reader_laws.specs.Moments.{IsSoundAt, Moment, moment_after, next_moment}
use Rattle.reader_laws.proofs.Gathered.Moments.Stepping.{sound_next}
use Rattle.headline_laws.specs.Refusing.{WasShut}
use Rattle.headline_laws.proofs.Makers.Holding.{answered_call, whole_answer}

-- ---- steps that make no room

abbrev pub IsNoRoom : Step → Type 0
IsNoRoom (make_room name folders files) = ⊥
IsNoRoom step = ⊤

set_none : {X : Type 0} (xs : List X) (i : ℕ) (x : X) (k : ℕ) → slice_get xs k ≡ None → slice_get (slice_set xs i x) k ≡ None
set_none [] i x k e = e
set_none (z ∷ xs) zero x zero e = absurd (cc)
set_none (z ∷ xs) zero x (suc k) e = e
set_none (z ∷ xs) (suc i) x zero e = absurd (cc)
set_none (z ∷ xs) (suc i) x (suc k) e = set_none xs i x k e

module _ (tree : Tree) (k : ℕ) (none : slice_get tree.rooms k ≡ None) where
  in_none : (n : ℕ) (outcome : Room → Outcome) → slice_get (in_room tree n outcome).tree.rooms k ≡ None
  in_none n outcome = by (slice_get tree.rooms n) refl
    where
      by : (o : Option Room) → slice_get tree.rooms n ≡ o → slice_get (in_room tree n outcome).tree.rooms k ≡ None
      by None e = rw e none
      by (Some r) e = rw e (set_none tree.rooms n (outcome r).room k none)

  after_none : (step : Step) → IsNoRoom step → slice_get (tree_after tree step).rooms k ≡ None
  after_none all_rooms roomless = none
  after_none (find_room name) roomless = none
  after_none (make_room name folders files) roomless = absurd roomless
  after_none (rename_room n to) roomless = in_none n _
  after_none (make_folder n folder) roomless = in_none n _
  after_none (remove_folder n folder) roomless = in_none n _
  after_none (list_folder n folder) roomless = in_none n _
  after_none (create n folder file) roomless = in_none n _
  after_none (remove n folder file) roomless = in_none n _
  after_none (replace n folder from to) roomless = in_none n _
  after_none (length_of n folder file) roomless = in_none n _
  after_none (read_at n folder file at len) roomless = in_none n _
  after_none (write_at n folder file at bytes) roomless = in_none n _
  after_none (cut n folder file len) roomless = in_none n _
  after_none (sync n folder file) roomless = in_none n _

  first_none : (step : Step) (j : ℕ) → IsNoRoom step → IsNoRoom (with_first j step)
  first_none (make_room name folders files) j roomless = roomless
  first_none step j roomless = tt

  pub told_none : (step : Step) (told : Told) (after : Tree) → IsNoRoom step → Tells step tree told after → slice_get after.rooms k ≡ None
  told_none step (Ok answer) after roomless tells = subst (λ (t : Tree). slice_get t.rooms k ≡ None) (ap (λ x. x.tree) tells) (after_none step roomless)
  told_none step (Err Fault) after roomless (not_made same) = subst (λ (t : Tree). slice_get t.rooms k ≡ None) (sym same) none
  told_none step (Err Fault) after roomless (whole same) = subst (λ (t : Tree). slice_get t.rooms k ≡ None) (sym same) (after_none step roomless)
  told_none step (Err Fault) after roomless (in_part j made same) = subst (λ (t : Tree). slice_get t.rooms k ≡ None) (sym same) (after_none (with_first j step) (first_none step j roomless))
  told_none step (Err NoMemory) after roomless same = subst (λ (t : Tree). slice_get t.rooms k ≡ None) (sym same) none

-- ---- what an act does to the folder of who has a container open

first_byte : (a b : List ℕ) → a ≡ b → get_or a 0 0 ≡ get_or b 0 0
first_byte a b e = ap (λ (l : List ℕ). get_or l 0 0) e

-- it leaves it and makes no room, it makes it, it makes a room that has it, or it removes it to hold the container
data Kind (call : Call) (step : Step) : Type 0 where
  aside : ((n : ℕ) → NamesFolder step n openhosts → ⊥) → IsNoRoom step → Kind call step
  opens : (room : ℕ) → step ≡ make_folder room openhosts → Kind call step
  makes : (name : Name) → step ≡ make_room name new_folders new_files → Kind call step
  holds : (room : ℕ) → step ≡ remove_folder room openhosts → call ≡ Hold room → Kind call step

look_makes : (step : Step) → IsLook step → IsNoRoom step
look_makes (make_room name folders files) look = look
look_makes step look = tt

each_kind : (old : State) (caller : ℕ) → OfEachAct old.table (next_id old) caller Kind
each_kind old caller = record {
  looks = λ call step look. aside (look_aside step look).folders (look_makes step look);
  rooms = λ name. makes name refl;
  enters = λ room host most. aside (λ n named. named) tt;
  hostdirs = λ writer row. aside (λ n named. absurd (elsewhere (first_byte _ _ named.1) refl)) tt;
  indices = λ writer row held. aside (λ n named. named) tt;
  logs = λ writer row held. aside (λ n named. named) tt;
  writes = λ writer row held at bytes. aside (λ n named. named) tt;
  flushes = λ writer row held. aside (λ n named. named) tt;
  log_syncs = λ writer row. aside (λ n named. named) tt;
  index_syncs = λ writer row. aside (λ n named. named) tt;
  metas = λ writer row. aside (λ n named. named) tt;
  exits = λ writer row held. aside (λ n named. named) tt;
  holds = λ room. holds room refl refl;
  truncates = λ holder h held stamp size top fits above. aside (λ n named. named) tt;
  renames = λ holder h held to. aside (λ n named. named) tt;
  releases = λ holder h held. opens h.room refl;
  starts = λ room f makes_flat. aside (λ n named. named) tt;
  puts = λ flat f held bytes. aside (λ n named. named) tt;
  flat_syncs = λ flat f held. aside (λ n named. named) tt;
  installs = λ flat f held. aside (λ n named. named) tt;
  packs = λ room host writer f makes_pack fits. aside (λ n named. named) tt;
  dropping_syncs = λ room host writer is_log fits. aside (λ n named. named) tt;
  mends = λ room host writer count fits. aside (λ n named. named) tt;
  mend_metas = λ room host cover last fits. aside (λ n named. named) tt;
  buries = λ room host writer fits. aside (λ n named. named) tt;
  mend_holds = λ room. opens room refl;
}

one_room : (a b : Room) (o : Option Room) → o ≡ Some a → o ≡ Some b → a ≡ b
one_room a b o p q = cc

-- a room has the folder, or lacks it
pub not_both : (tree : Tree) (n : ℕ) → HoldsFolder tree n openhosts → LacksFolder tree n openhosts → ⊥
not_both tree n h l =
    let same : h.room ≡ l.room = one_room h.room l.room (slice_get tree.rooms n) h.has_room l.has_room in
    let clash : true ≡ false = sym h.there ∙ ap (λ (r : Room). has_folder r openhosts) same ∙ l.none in
    cc

module _ (call : Call) (step : Step) (told : Told) (tree after : Tree) (tells : Tells step tree told after) (n : ℕ) where
  spared : HoldsFolder tree n openhosts → (NamesFolder step n openhosts → ⊥) → HoldsFolder after n openhosts
  spared h not =
      let k = keeps_rooms step tree told after tells n h.room h.has_room in
      record { room = k.0; has_room = k.1; there = k.2.folders openhosts not ∙ h.there }

  still_open : HoldsFolder tree n openhosts → Kind call step → HoldsFolder after n openhosts ⊎ (call ≡ Hold n)
  still_open h (aside not roomless) = inl (spared h (not n))
  still_open h (makes name is) = inl (spared h (λ named. subst (λ s. NamesFolder s n openhosts) is named))
  still_open h (opens room is) = elim (cases_eq n room) as (λ _. HoldsFolder after n openhosts ⊎ (call ≡ Hold n)) [
    | inr other ↦ inl (spared h (λ named. other (subst (λ s. NamesFolder s n openhosts) is named).0))
    | inl at ↦ elim (make_folder_told room openhosts tree told after (subst (λ s. Tells s tree told after) is tells)).either as (λ _. HoldsFolder after n openhosts ⊎ (call ≡ Hold n)) [
      | inr same ↦ inl (subst (λ t. HoldsFolder t n openhosts) (sym same) h)
      | inl c ↦ absurd (not_both tree n h (record { room = c.room; has_room = ap (slice_get tree.rooms) at ∙ c.has_room; none = c.none }))
    ]
  ]
  still_open h (holds room is asked) = elim (cases_eq n room) as (λ _. HoldsFolder after n openhosts ⊎ (call ≡ Hold n)) [
    | inr other ↦ inl (spared h (λ named. other (subst (λ s. NamesFolder s n openhosts) is named).0))
    | inl at ↦ inr (asked ∙ ap Hold (sym at))
  ]

  there_not : (l : LacksFolder after n openhosts) → slice_get after.rooms n ≡ None → ⊥
  there_not l none = let clash : Some l.room ≡ None = sym l.has_room ∙ none in cc

  -- a room that is made has it
  new_open : slice_get tree.rooms n ≡ None → Kind call step → LacksFolder after n openhosts → ⊥
  new_open none (aside not roomless) l = there_not l (told_none tree n none step told after roomless tells)
  new_open none (opens room is) l = there_not l (told_none tree n none step told after (subst IsNoRoom (sym is) tt) tells)
  new_open none (holds room is asked) l = there_not l (told_none tree n none step told after (subst IsNoRoom (sym is) tt) tells)
  new_open none (makes name is) l = elim (make_room_told name new_folders new_files tree told after (subst (λ s. Tells s tree told after) is tells)).either as (λ _. ⊥) [
    | inr same ↦ there_not l (ap (λ (t : Tree). slice_get t.rooms n) same ∙ none)
    | inl c ↦
        let g = slice_get_more tree.rooms n l.room c.new (ap (λ (t : Tree). slice_get t.rooms n) (sym c.gives) ∙ l.has_room) in
        elim (cases_eq n (length tree.rooms)) as (λ _. ⊥) [
          | inr other ↦ (let clash : None ≡ Some l.room = sym none ∙ g.1 other in cc)
          | inl at ↦
              let has : has_folder c.new openhosts ≡ true = made_so c.new c.has_folders in
              let clash : true ≡ false = sym has ∙ ap (λ (r : Room). has_folder r openhosts) (sym (g.0 at)) ∙ l.none in
              cc
        ]
  ]
    where
      made_so : (r : Room) → r.folders ≡ new_folders → has_folder r openhosts ≡ true
      made_so r e = subst (λ fs. has_folder (record r { folders = fs }) openhosts ≡ true) (sym e) refl

-- ---- one call

one_tree : (a b : Tree) (o : Option Tree) → o ≡ Some a → o ≡ Some b → a ≡ b
one_tree a b o p q = cc

module _ (m : Moment) (s : IsSoundAt m) (n : ℕ) where
  is_shut : LacksFolder s.shape.tree n openhosts → WasShut m n
  is_shut l = λ tree told. subst (λ t. LacksFolder t n openhosts) (one_tree s.shape.tree tree m.state.store.tree s.shape.told told) l

  -- it was shut, or its folder or the room was not as that
  data Was : Type 0 where
    shut : WasShut m n → Was
    opened : HoldsFolder s.shape.tree n openhosts → Was
    none_yet : slice_get s.shape.tree.rooms n ≡ None → Was

  was : Was
  was = by (slice_get s.shape.tree.rooms n) refl
    where
      in_it : (room : Room) (b : Bool) → slice_get s.shape.tree.rooms n ≡ Some room → has_folder room openhosts ≡ b → Was
      in_it room true there has = opened (record { room = room; has_room = there; there = has })
      in_it room false there has = shut (is_shut (record { room = room; has_room = there; none = has }))

      by : (o : Option Room) → slice_get s.shape.tree.rooms n ≡ o → Was
      by None e = none_yet e
      by (Some room) e = in_it room (has_folder room openhosts) e refl

  pub shut_or_not : WasShut m n ⊎ (WasShut m n → ⊥)
  shut_or_not = by was
    where
      by : Was → WasShut m n ⊎ (WasShut m n → ⊥)
      by (shut w) = inl w
      by (opened h) = inr (λ w. not_both s.shape.tree n h (w s.shape.tree s.shape.told))
      by (none_yet none) = inr (λ w. let l = w s.shape.tree s.shape.told in let clash : Some l.room ≡ None = sym l.has_room ∙ none in cc)

  module _ (e : Event) (lawful : IsStep m.state e.caller e.ask e.reply e.after) where
    -- where it is shut then it was before, or this call holds it
    shut_before : WasShut (next_moment m e) n → WasShut m n ⊎ (e.ask.call ≡ Hold n)
    shut_before now = by was
      where
        g : GoesOn (Kind e.ask.call) s.shape.tree e.after
        g = step_acts Kind m.state e.after e.caller e.ask e.reply s.shape.tree (each_kind m.state e.caller) lawful s.shape.told

        lacks : LacksFolder g.0 n openhosts
        lacks = now g.0 g.1

        by : Was → WasShut m n ⊎ (e.ask.call ≡ Hold n)
        by (shut w) = inl w
        by (opened h) = elim g.2 as (λ _. WasShut m n ⊎ (e.ask.call ≡ Hold n)) [
          | inl same ↦ absurd (not_both s.shape.tree n h (subst (λ t. LacksFolder t n openhosts) same lacks))
          | inr a ↦ elim (still_open e.ask.call a.step a.told s.shape.tree g.0 a.tells n h a.holds) as (λ _. WasShut m n ⊎ (e.ask.call ≡ Hold n)) [
            | inl on ↦ absurd (not_both g.0 n on lacks)
            | inr asked ↦ inr asked
          ]
        ]
        by (none_yet none) = elim g.2 as (λ _. WasShut m n ⊎ (e.ask.call ≡ Hold n)) [
          | inl same ↦ absurd (let clash : Some lacks.room ≡ None = sym lacks.has_room ∙ ap (λ (t : Tree). slice_get t.rooms n) same ∙ none in cc)
          | inr a ↦ absurd (new_open e.ask.call a.step a.told s.shape.tree g.0 a.tells n none a.holds lacks)
        ]

    module _ (absent : WasShut m n → ⊥) (now : WasShut (next_moment m e) n) where
      -- the tree has changed
      same_not : (after : Tree) → e.after.store.tree ≡ Some after → after ≡ s.shape.tree → ⊥
      same_not after told same = absent (is_shut (subst (λ t. LacksFolder t n openhosts) same (now after told)))

      told_so : (h : Holder) (table : Table) (told : Told) (r : Reply) (then : Table) (after : Tree) → e.after.store.tree ≡ Some after → Tells (hold_step n) s.shape.tree told after → HoldOutcome h table told r then → ((holder : ℕ) × (r ≡ reply.Holding holder)) ⊎ (r ≡ reply.Fault)
      told_so h table (Ok Made) r then after is tells o = inl (h.number, o.0)
      told_so h table (Ok NoFolder) r then after is tells o = absurd (same_not after is ((remove_folder_told n openhosts s.shape.tree (Ok NoFolder) after tells).stays NoFolder refl (λ clash. cc)).0)
      told_so h table (Ok (NotEmpty least)) r then after is tells o = absurd (same_not after is ((remove_folder_told n openhosts s.shape.tree (Ok (NotEmpty least)) after tells).stays (NotEmpty least) refl (λ clash. cc)).0)
      told_so h table (Ok answer) r then after is tells o = absurd (same_not after is ((remove_folder_told n openhosts s.shape.tree (Ok answer) after tells).stays answer refl (λ clash. cc)).0)
      told_so h table (Err Fault) r then after is tells o = inr o.0
      told_so h table (Err NoMemory) r then after is tells o = absurd (same_not after is tells)

      held_so : Answers m.state e.caller (Hold n) e.reply e.after → ((holder : ℕ) × (e.reply ≡ reply.Holding holder)) ⊎ (e.reply ≡ reply.Fault)
      held_so a = elim (match_cases (draw_check m.state n) (HoldsRoom e.caller n m.state e.reply e.after) (λ why. Refuses why m.state e.reply e.after) a) as (λ _. ((holder : ℕ) × (e.reply ≡ reply.Holding holder)) ⊎ (e.reply ≡ reply.Fault)) [
        | inr (why, some, refused) ↦ absurd (same_not s.shape.tree (ap (λ (x : State). x.store.tree) refused.1 ∙ s.shape.told) refl)
        | inl (none, does) ↦
            let t = acts_told (hold_step n) m.state.store e.after.store s.shape.tree does.told s.shape.told does.made in
            told_so (holding m.state e.caller n) m.state.table does.told e.reply e.after.table t.0 t.1 t.2 does.outcome
      ]

-- ---- in a history

-- At each moment of these events nobody could enter it.
abbrev pub StaysShut : Moment → List Event → ℕ → Type 0
StaysShut m events n = (first rest : List Event) → events ≡ first ++ rest → WasShut (moment_after m first) n

-- A call held it, which could be entered before, and nobody could enter it since.
pub record ShutBy (m : Moment) (events : List Event) (n : ℕ) : Type 0 where
  pub pre : List Event
  pub event : Event
  pub post : List Event
  pub is : events ≡ pre ++ event ∷ post
  pub asked : event.ask.call ≡ Hold n
  pub since : StaysShut (next_moment (moment_after m pre) event) post n
  -- it was granted, or the store failed; it was not refused
  pub granted : event.ask.stop ≡ None → ((holder : ℕ) × (event.reply ≡ reply.Holding holder)) ⊎ (event.reply ≡ reply.Fault)
  pub unrefused : (why : Refusal) → event.reply ≡ reply.Refused why → ⊥

first_shut : (m : Moment) (s : IsSoundAt m) (n : ℕ) (e : Event) (events : List Event) → IsStep m.state e.caller e.ask e.reply e.after → (WasShut m n → ⊥) → StaysShut (next_moment m e) events n → e.ask.call ≡ Hold n → ShutBy m (e ∷ events) n
first_shut m s n e events step absent since asked = record {
  pre = [];
  event = e;
  post = events;
  is = refl;
  asked = asked;
  since = since;
  granted = λ stop. answered (whole_answer m.state e step stop);
  unrefused = λ why is. elim (answered (answered_call m.state e step (λ x. let clash : reply.Stopped ≡ reply.Refused why = sym x ∙ is in cc) (λ x. let clash : reply.NoMemory ≡ reply.Refused why = sym x ∙ is in cc))) as (λ _. ⊥) [
    | inl (holder, told) ↦ (let clash : reply.Holding holder ≡ reply.Refused why = sym told ∙ is in cc)
    | inr fault ↦ (let clash : reply.Fault ≡ reply.Refused why = sym fault ∙ is in cc)
  ];
}
  where
    answered : Answers m.state e.caller e.ask.call e.reply e.after → ((holder : ℕ) × (e.reply ≡ reply.Holding holder)) ⊎ (e.reply ≡ reply.Fault)
    answered a = held_so m s n e step absent (since [] events refl) (subst (λ c. Answers m.state e.caller c e.reply e.after) asked a)

event_same : (a b : Event) (xs ys : List Event) → a ∷ xs ≡ b ∷ ys → (a ≡ b) × (xs ≡ ys)
event_same a b xs ys same = (cc, cc)

pub shut_since : (m : Moment) (events : List Event) → IsSoundAt m → IsLawful m.state events → (n : ℕ) → WasShut (moment_after m events) n → StaysShut m events n ⊎ ShutBy m events n
shut_since m [] s lawful n now = inl none
  where
    none : StaysShut m [] n
    none [] rest is = now
    none (x ∷ first) rest is = absurd (cc)
shut_since m (e ∷ events) s lawful n now = elim (shut_since (next_moment m e) events (sound_next m e events lawful s) lawful.2 n now) as (λ _. StaysShut m (e ∷ events) n ⊎ ShutBy m (e ∷ events) n) [
  | inr b ↦ inr (record { pre = e ∷ b.pre; event = b.event; post = b.post; is = ap (λ z. e ∷ z) b.is; asked = b.asked; since = b.since; granted = b.granted; unrefused = b.unrefused })
  | inl all ↦ elim (shut_or_not m s n) as (λ _. StaysShut m (e ∷ events) n ⊎ ShutBy m (e ∷ events) n) [
    | inl before ↦ inl (also before all)
    | inr not ↦ elim (shut_before m s n e lawful.1 (all [] events refl)) as (λ _. StaysShut m (e ∷ events) n ⊎ ShutBy m (e ∷ events) n) [
      | inl before ↦ absurd (not before)
      | inr asked ↦ inr (first_shut m s n e events lawful.1 not all asked)
    ]
  ]
]
  where
    also : WasShut m n → StaysShut (next_moment m e) events n → StaysShut m (e ∷ events) n
    also before all [] rest is = before
    also before all (x ∷ first) rest is =
        let same = event_same e x events (first ++ rest) is in
        subst (λ (y : Event). WasShut (moment_after (next_moment m y) first) n) same.0 (all first rest same.1)
