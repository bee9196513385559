-- An entry of an open writer that is gone stays away: nobody enters under a number that was drawn.
use Rattle.std.proofs.Common.{◌≡◌, ◌≤◌, ◌<◌, ◌+◌, ◌-◌, ◌^◌, ◌⊎◌, inl, inr, ℕ, List, [], ◌∷◌, get_or, Option, Some, None, refl, ap, ◌∙◌, arith}
use Rattle.std.specs.Prelude.{slice_get}
use Rattle.std.proofs.lemmas.Bool.{cases_eq}
use Rattle.plfs_types.specs.declared.names.Path.{Path}
use Rattle.container_layout.specs.declared.items.Item.TheVariants.{OpenHost}
use Rattle.container_layout.specs.Items.{IsItem}
use Rattle.container_layout.proofs.Facts.{elsewhere, same_items}
use Rattle.store_api.specs.Step.{Step, create, cut, make_folder, remove, remove_folder, replace, sync, write_at}
use Rattle.store_api.specs.declared.tree.Room.{Room}
use Rattle.store_api.specs.declared.tree.Tree.{Tree}
use Rattle.store_laws.specs.Changes.{Removed}
use Rattle.store_laws.specs.Files.{AreTwo, file_at}
use Rattle.store_laws.specs.Naming.{IsPathOf, NamesFile}
use Rattle.store_laws.specs.Outcomes.{IsLook}
use Rattle.store_laws.specs.Tells.{Tells}
use Rattle.store_laws.proofs.Facts.{keeps_rooms, path_cases, remove_told}
use Rattle.mount_model.specs.declared.call.Ask.{Ask}
use Rattle.mount_model.specs.declared.call.Call.{Call}
use Rattle.mount_model.specs.declared.call.Call.TheVariants.{Enter}
use Rattle.mount_model.specs.declared.reply.Reply.{Reply}
use Rattle.mount_model.specs.declared.row.Flattening.{Flattening}
use Rattle.mount_model.specs.declared.row.Making.{Making}
use Rattle.mount_model.specs.declared.row.Making.TheVariants as making
use Rattle.mount_model.specs.Entering.{draw_check, next_id}
use Rattle.mount_model.specs.History.{Event}
use Rattle.mount_model.specs.Making.{Told}
use Rattle.mount_model.specs.Paths.{Name, installed, open_path, temporary, temporary_of}
use Rattle.container_layout.specs.Paths.{openhosts}
use Rattle.mount_model.specs.State.{State, last_id, timed}
use Rattle.mount_model.specs.Step.{Answers, IsStep}
use Rattle.mount_model.specs.Stopped.{IsLeftBy}
use Rattle.mount_model.proofs.Facts.{match_cases, may_enter, step_cases, stop_left}
use Rattle.mount_sound.proofs.Shapes.Facts.{id_fits}
use Rattle.mount_sound.specs.Owed.{IsLawful}
use Rattle.mount_sound.proofs.Facts.{ActsOn, OfEachAct, answer_acts, is_open}
use Rattle.reader_laws.specs.Moments.{Dropping, IsNamed, IsSoundAt, Moment, moment_after, next_moment}
use Rattle.reader_laws.proofs.Gathered.Moments.Stepping.{sound_next}
use Rattle.headline_laws.proofs.Landed.Leaving.{drawn_next}

-- the room of this number is there, and has no such entry
pub record IsAwayIn (tree : Tree) (number host writer : ℕ) : Type 0 where
  pub room : Room
  pub there : slice_get tree.rooms number ≡ Some room
  pub none : file_at room (open_path host writer) ≡ None

first_byte : (a b : Name) → a ≡ b → get_or a 0 0 ≡ get_or b 0 0
first_byte a b e = ap (λ (l : Name). get_or l 0 0) e

module _ (tree : Tree) (number host writer : ℕ) where
  -- the step makes no such entry
  record KeepsAway (step : Step) : Type 0 where
    pub keeps : (told : Told) (after : Tree) → Tells step tree told after → IsAwayIn tree number host writer → IsAwayIn after number host writer

  unnamed : (step : Step) → (NamesFile step number (open_path host writer) → ⊥) → KeepsAway step
  unnamed step not = record { keeps = λ told after t a. (let k = keeps_rooms step tree told after t number a.room a.there in record { room = k.0; there = k.1; none = k.2.files (open_path host writer) not ∙ a.none }) }

  one_room : (a b : Room) (o : Option Room) → o ≡ Some a → o ≡ Some b → a ≡ b
  one_room a b o p q = cc

  not_both : (o : Option (List ℕ)) (bytes : List ℕ) → o ≡ None → o ≡ Some bytes → ⊥
  not_both o bytes none some = cc

  -- an entry is removed
  taken_out : (n : ℕ) (file : Name) (told : Told) (after : Tree) → Tells (remove n openhosts file) tree told after → IsAwayIn tree number host writer → IsAwayIn after number host writer
  taken_out n file told after t a = by (path_cases (open_path host writer) its) (cases_eq number n)
    where
      its : Path
      its = record { folder = openhosts; file = file }

      same_tree : after ≡ tree → IsAwayIn after number host writer
      same_tree same = record { room = a.room; there = ap (λ (x : Tree). slice_get x.rooms number) same ∙ a.there; none = a.none }

      taken : open_path host writer ≡ its → number ≡ n → Removed tree n its after → IsAwayIn after number host writer
      taken same at c =
          let rooms : a.room ≡ c.room = one_room a.room c.room (slice_get tree.rooms number) a.there (ap (slice_get tree.rooms) at ∙ c.has_room) in
          absurd (not_both (file_at a.room (open_path host writer)) c.old a.none (ap (λ (r : Room). file_at r (open_path host writer)) rooms ∙ ap (file_at c.room) same ∙ c.there))

      either : open_path host writer ≡ its → number ≡ n → Removed tree n its after ⊎ (after ≡ tree) → IsAwayIn after number host writer
      either same at (inl c) = taken same at c
      either same at (inr stays) = same_tree stays

      by : (open_path host writer ≡ its) ⊎ AreTwo (open_path host writer) its → (number ≡ n) ⊎ (number ≡ n → ⊥) → IsAwayIn after number host writer
      by (inr two) at = (unnamed (remove n openhosts file) (λ named. two named.1.0 named.1.1)).keeps told after t a
      by (inl same) (inr other) = (unnamed (remove n openhosts file) (λ named. other named.0)).keeps told after t a
      by (inl same) (inl at) = either same at (remove_told n its tree told after t).either

  removed : (n : ℕ) (file : Name) → KeepsAway (remove n openhosts file)
  removed n file = record { keeps = taken_out n file }

  looks : (step : Step) → IsLook step → KeepsAway step
  looks (make_folder n folder) look = absurd look
  looks (remove_folder n folder) look = absurd look
  looks (create n folder file) look = absurd look
  looks (remove n folder file) look = absurd look
  looks (replace n folder from to) look = absurd look
  looks (write_at n folder file at bytes) look = absurd look
  looks (cut n folder file len) look = absurd look
  looks (sync n folder file) look = absurd look
  looks step look = unnamed step (λ named. named)

  temporary_apart : (makes : Making) (id : ℕ) → openhosts ≡ (temporary_of makes id).folder → ⊥
  temporary_apart making.Flat id e = elsewhere (first_byte _ _ e) refl
  temporary_apart (making.Pack h w) id e = elsewhere (first_byte _ _ e) refl

-- where a call enters, it does so within these bounds
abbrev pub EntersWithin : State → Call → Type 0
EntersWithin old (Enter room host most) = (host < 2 ^ 32) × (old.serial < 2 ^ 32 - 1)
EntersWithin old call = Unit {0}

-- a call enters within its bounds, or changes nothing
pub within : (old : State) (caller : ℕ) (call : Call) (reply : Reply) (new : State) → Answers old caller call reply new → EntersWithin old call ⊎ (new ≡ old)
within old caller (Enter room h most) reply new a = elim (match_cases (draw_check old room) _ _ a) as (λ _. ((h < 2 ^ 32) × (old.serial < 2 ^ 32 - 1)) ⊎ (new ≡ old)) [
  | inl (none, e) ↦ inl (e.host_fits, (may_enter old room none).1)
  | inr (why, is, refused) ↦ inr refused.1
]
within old caller call reply new a = inl tt

module _ (old : State) (tree : Tree) (told : old.store.tree ≡ Some tree) (mount_fits : old.mount < 2 ^ 32) (number host writer : ℕ) (is_item : IsItem (OpenHost host writer)) (drawn : writer ≤ last_id old) where
  abbrev Keeps : Step → Type 0
  Keeps step = KeepsAway tree number host writer step

  enters : (room h : ℕ) → (h < 2 ^ 32) × (old.serial < 2 ^ 32 - 1) → Keeps (create room openhosts (open_path h (next_id old)).file)
  enters room h within = unnamed tree number host writer (create room openhosts (open_path h (next_id old)).file) (λ named.
      let small : next_id old < 2 ^ 64 = id_fits old.mount (old.serial + 1) mount_fits (omega (arith, within.1)) in
      let path : open_path host writer ≡ open_path h (next_id old) = λ i. record { folder = named.1.0 i; file = named.1.1 i } in
      let same : OpenHost host writer ≡ OpenHost h (next_id old) = same_items (OpenHost host writer) (OpenHost h (next_id old)) is_item (is_open h (next_id old) within.0 small) path in
      let ids : writer ≡ next_id old = cc in
      omega (arith, drawn, ids))

  its_acts : (caller : ℕ) → OfEachAct old.table (next_id old) caller (λ call step. EntersWithin old call → Keeps step)
  its_acts caller = record {
    looks = λ call step look w. looks tree number host writer step look;
    rooms = λ name w. un _ (λ named. named);
    enters = λ room h most w. enters room h w;
    hostdirs = λ id row w. un _ (λ named. named);
    indices = λ id row e w. un _ (λ named. elsewhere (first_byte _ _ named.1.0) refl);
    logs = λ id row e w. un _ (λ named. elsewhere (first_byte _ _ named.1.0) refl);
    writes = λ id row e at bytes w. un _ (λ named. elsewhere (first_byte _ _ named.1.0) refl);
    flushes = λ id row e w. un _ (λ named. elsewhere (first_byte _ _ named.1.0) refl);
    log_syncs = λ id row w. un _ (λ named. named);
    index_syncs = λ id row w. un _ (λ named. named);
    metas = λ id row w. un _ (λ named. elsewhere (first_byte _ _ named.1.0) refl);
    exits = λ id row e w. removed tree number host writer row.room (open_path row.host row.id).file;
    holds = λ room w. un _ (λ named. named);
    truncates = λ holder h e stamp size top is above w. un _ (λ named. elsewhere (first_byte _ _ named.1.0) refl);
    renames = λ holder h e to w. un _ (λ named. named);
    releases = λ holder h e w. un _ (λ named. named);
    starts = λ room f makes w. un _ (λ named. temporary_apart tree number host writer f.makes f.id named.1.0);
    packs = λ room h x f makes numbers w. un _ (λ named. temporary_apart tree number host writer f.makes f.id named.1.0);
    puts = λ flat f e bytes w. un _ (λ named. temporary_apart tree number host writer f.makes f.id named.1.0);
    flat_syncs = λ flat f e w. un _ (λ named. named);
    installs = λ flat f e w. un _ (λ named. installing f named.1);
    dropping_syncs = λ room h x is_log names w. un _ (λ named. named);
    mends = λ room h x count names w. un _ (λ named. elsewhere (first_byte _ _ named.1.0) refl);
    mend_metas = λ room h cover last names w. un _ (λ named. elsewhere (first_byte _ _ named.1.0) refl);
    buries = λ room h x names w. removed tree number host writer room (open_path h x).file;
    mend_holds = λ room w. un _ (λ named. named);
  }
    where
      un : (step : Step) → (NamesFile step number (open_path host writer) → ⊥) → Keeps step
      un step not = unnamed tree number host writer step not

      installing : (f : Flattening) → IsPathOf (temporary f).folder (temporary f).file (open_path host writer) ⊎ IsPathOf (temporary f).folder (installed f).file (open_path host writer) → ⊥
      installing f (inl named) = temporary_apart tree number host writer f.makes f.id named.0
      installing f (inr named) = temporary_apart tree number host writer f.makes f.id named.0

  -- its tree later
  abbrev GoesAway : State → Type 0
  GoesAway new = (after : Tree) × (new.store.tree ≡ Some after) × IsAwayIn after number host writer

  answered : (caller : ℕ) (call : Call) (reply : Reply) (new : State) → IsAwayIn tree number host writer → Answers old caller call reply new → GoesAway new
  answered caller call reply new a does = by (within old caller call reply new does)
    where
      acted : (after : Tree) → ActsOn (λ step. EntersWithin old call → Keeps step) tree after → EntersWithin old call → IsAwayIn after number host writer
      acted after (inl same) w = record { room = a.room; there = ap (λ (x : Tree). slice_get x.rooms number) same ∙ a.there; none = a.none }
      acted after (inr act) w = (act.holds w).keeps act.told after act.tells a

      by : EntersWithin old call ⊎ (new ≡ old) → GoesAway new
      by (inr same) = (tree, ap (λ (x : State). x.store.tree) same ∙ told, a)
      by (inl w) =
          let g = answer_acts (λ c step. EntersWithin old c → Keeps step) old caller (its_acts caller) call reply new tree does told in
          (g.0, g.1, acted g.0 g.2 w)

-- Each step leaves it away.
away_step : (old new : State) (tree : Tree) → old.store.tree ≡ Some tree → old.mount < 2 ^ 32 → (number host writer : ℕ) → IsItem (OpenHost host writer) → writer ≤ last_id old → (caller : ℕ) (asked : Ask) (reply : Reply) → IsStep old caller asked reply new → IsAwayIn tree number host writer
    → (after : Tree) × (new.store.tree ≡ Some after) × IsAwayIn after number host writer
away_step old new tree told fits number host writer is_item drawn caller asked reply step a = step_cases old caller asked reply new ((after : Tree) × (new.store.tree ≡ Some after) × IsAwayIn after number host writer) step
    (λ none does. answered old tree told fits number host writer is_item drawn caller asked.call reply new a does)
    (λ k some x.
    let left : IsLeftBy old caller asked.call new = stop_left old caller k asked.call reply new x in
    elim left.short as (λ _. (after : Tree) × (new.store.tree ≡ Some after) × IsAwayIn after number host writer) [
      | inl same ↦ (tree, left.like.tree ∙ ap (λ (s : State). s.store.tree) same ∙ told, a)
      | inr (r, which, does) ↦
          let g = answered (timed None old) tree told fits number host writer is_item drawn caller asked.call r left.cut a does in
          (g.0, left.like.tree ∙ g.1, g.2)
    ])

-- ---- in a history

-- a writer of a drawn number has no entry in its room
pub record IsAway (m : Moment) (d : Dropping) : Type 0 where
  pub tree : Tree
  pub told : m.state.store.tree ≡ Some tree
  pub away : IsAwayIn tree d.room d.host d.writer
  pub drawn : d.writer ≤ last_id m.state

open_item : (d : Dropping) → IsNamed d → IsItem (OpenHost d.host d.writer)
open_item d named = is_open d.host d.writer named.widths.0 named.widths.1

-- so it is whatever is called
pub away_later : (m : Moment) (events : List Event) (d : Dropping) → IsNamed d → IsSoundAt m → IsLawful m.state events → IsAway m d → IsAway (moment_after m events) d
away_later m [] d named sound lawful a = a
away_later m (e ∷ events) d named sound lawful a =
    let s = away_step m.state e.after a.tree a.told sound.regular.mount_fits d.room d.host d.writer (open_item d named) a.drawn e.caller e.ask e.reply lawful.1 a.away in
    away_later (next_moment m e) events d named (sound_next m e events lawful sound) lawful.2
    (record { tree = s.0; told = s.1; away = s.2; drawn = omega (arith, a.drawn, drawn_next m e events lawful) })
