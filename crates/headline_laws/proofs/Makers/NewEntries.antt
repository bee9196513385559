-- Each entry of an open writer that stands stood before, or the call of an opening made it as it entered the container.
use Rattle.std.proofs.Common.{◌≡◌, ◌⊎◌, ◌<◌, ◌-◌, ◌+◌, ◌^◌, inl, inr, ℕ, List, [], ◌∷◌, ◌++◌, get_or, Some, None, Ok, Err, refl, sym, ap, ◌∙◌, subst, arith}
use Rattle.std.proofs.lemmas.Bool.{cases_eq}
use Rattle.container_layout.specs.declared.items.Item.TheVariants.{OpenHost}
use Rattle.container_layout.specs.Items.{IsItem}
use Rattle.container_layout.specs.Paths.{openhosts, path_of}
use Rattle.container_layout.proofs.Facts.{elsewhere, same_items}
use Rattle.store_api.specs.declared.step.Answer.TheVariants.{Made, NoFolder, NoRoom}
use Rattle.store_api.specs.declared.store.Trouble.TheVariants.{Fault, NoMemory}
use Rattle.store_api.specs.declared.tree.Tree.{Tree}
use Rattle.store_api.specs.Step.{Step, create, cut, remove, replace, write_at}
use Rattle.store_laws.specs.Naming.{IsPathOf, NamesFile}
use Rattle.store_laws.specs.Outcomes.{IsLook}
use Rattle.store_laws.specs.Tells.{Tells}
use Rattle.store_laws.proofs.Facts.{acts_told, create_told, path_cases}
use Rattle.mount_model.specs.declared.call.Call.{Call}
use Rattle.mount_model.specs.declared.call.Call.TheVariants.{Enter}
use Rattle.mount_model.specs.declared.reply.Refusal.{Refusal}
use Rattle.mount_model.specs.declared.reply.Reply.{Reply}
use Rattle.mount_model.specs.declared.reply.Reply.TheVariants as reply
use Rattle.mount_model.specs.declared.row.Flattening.{Flattening}
use Rattle.mount_model.specs.declared.row.Making.{Making}
use Rattle.mount_model.specs.declared.row.Making.TheVariants as making
use Rattle.mount_model.specs.Entering.{EntersAs, draw_check, enter_outcome, enter_step, entered, next_id}
use Rattle.mount_model.specs.History.{Event}
use Rattle.mount_model.specs.Making.{Refuses, Told}
use Rattle.mount_model.specs.Paths.{installed, open_path, temporary, temporary_of}
use Rattle.mount_model.specs.State.{State, timed}
use Rattle.mount_model.specs.Step.{Answers, IsStep}
use Rattle.mount_model.specs.Stopped.{IsLeftBy}
use Rattle.mount_model.proofs.Facts.{match_cases, step_cases, stop_left, stop_replies}
use Rattle.mount_sound.proofs.Shapes.Facts.{id_fits}
use Rattle.mount_sound.specs.Owed.{IsLawful}
use Rattle.mount_sound.proofs.Facts.{GoesOn, OfEachAct, is_open, step_acts}
use Rattle.reader_laws.specs.Moments.{HadItem, IsSoundAt, Moment, file_told, moment_after, next_moment}
use Rattle.reader_laws.proofs.Gathered.Moments.Stepping.{sound_next}
use Rattle.headline_laws.proofs.Makers.Back.{ChangesOnly, by_act, has_or_not, same_state, same_tree}
use Rattle.headline_laws.proofs.Trees.Away.{EntersWithin, within}

first_byte : (a b : List ℕ) → a ≡ b → get_or a 0 0 ≡ get_or b 0 0
first_byte a b e = ap (λ (l : List ℕ). get_or l 0 0) e

-- the call enters the container under this host, and the next number is the writer's
pub record MakesEntry (old : State) (number host writer : ℕ) (call : Call) : Type 0 where
  pub most : ℕ
  pub asked : call ≡ Enter number host most
  pub its_id : next_id old ≡ writer

-- the clock has no part in it
untimed : (old : State) (call : Call) → EntersWithin (timed None old) call → EntersWithin old call
untimed old (Enter room host most) w = w
untimed old call w = tt

-- a call enters within its bounds, or leaves the tree
step_within : (m : Moment) (e : Event) → IsStep m.state e.caller e.ask e.reply e.after → EntersWithin m.state e.ask.call ⊎ (e.after.store.tree ≡ m.state.store.tree)
step_within m e lawful = step_cases m.state e.caller e.ask e.reply e.after (EntersWithin m.state e.ask.call ⊎ (e.after.store.tree ≡ m.state.store.tree)) lawful
    (λ none a. either m.state e.after refl refl (within m.state e.caller e.ask.call e.reply e.after a))
    (λ k some x.
    let left : IsLeftBy m.state e.caller e.ask.call e.after = stop_left m.state e.caller k e.ask.call e.reply e.after x in
    elim left.short as (λ _. EntersWithin m.state e.ask.call ⊎ (e.after.store.tree ≡ m.state.store.tree)) [
      | inl same ↦ inr (left.like.tree ∙ ap (λ (s : State). s.store.tree) same)
      | inr (r, which, does) ↦ cut_short left (within (timed None m.state) e.caller e.ask.call r left.cut does)
    ])
  where
    either : (old new : State) → old ≡ m.state → new ≡ e.after → EntersWithin old e.ask.call ⊎ (new ≡ old) → EntersWithin m.state e.ask.call ⊎ (e.after.store.tree ≡ m.state.store.tree)
    either old new is now (inl w) = inl (subst (λ s. EntersWithin s e.ask.call) is w)
    either old new is now (inr same) = inr (ap (λ (s : State). s.store.tree) (sym now ∙ same ∙ is))

    cut_short : (left : IsLeftBy m.state e.caller e.ask.call e.after) → EntersWithin (timed None m.state) e.ask.call ⊎ (left.cut ≡ timed None m.state) → EntersWithin m.state e.ask.call ⊎ (e.after.store.tree ≡ m.state.store.tree)
    cut_short left (inl w) = inl (untimed m.state e.ask.call w)
    cut_short left (inr same) = inr (left.like.tree ∙ ap (λ (s : State). s.store.tree) same)

-- ---- one step

module _ (m : Moment) (s : IsSoundAt m) (e : Event) (lawful : IsStep m.state e.caller e.ask e.reply e.after) (number host writer : ℕ) where
  abbrev Had : Type 0
  Had = HadItem m number (OpenHost host writer)

  abbrev Now : Type 0
  Now = HadItem (next_moment m e) number (OpenHost host writer)

  abbrev Makes : Call → Type 0
  Makes call = MakesEntry m.state number host writer call

  -- its act makes no such entry, or it is that of the writer
  abbrev Spares : Call → Step → Type 0
  Spares call step = EntersWithin m.state call → (NamesFile step number (open_path host writer) → ChangesOnly step) ⊎ Makes call

  looks_at : (step : Step) → IsLook step → NamesFile step number (open_path host writer) → ⊥
  looks_at (create k folder file) look names = look
  looks_at (remove k folder file) look names = look
  looks_at (replace k folder from to) look names = look
  looks_at (write_at k folder file at bytes) look names = look
  looks_at (cut k folder file len) look names = look
  looks_at step look names = names

  temporary_apart : (makes : Making) (id : ℕ) → openhosts ≡ (temporary_of makes id).folder → ⊥
  temporary_apart making.Flat id same = elsewhere (first_byte _ _ same) refl
  temporary_apart (making.Pack h w) id same = elsewhere (first_byte _ _ same) refl

  installing : (f : Flattening) → IsPathOf (temporary f).folder (temporary f).file (open_path host writer) ⊎ IsPathOf (temporary f).folder (installed f).file (open_path host writer) → ⊥
  installing f (inl named) = temporary_apart f.makes f.id named.0
  installing f (inr named) = temporary_apart f.makes f.id named.0

  enters_here : IsItem (OpenHost host writer) → (room h most : ℕ) → (h < 2 ^ 32) × (m.state.serial < 2 ^ 32 - 1) → number ≡ room → open_path host writer ≡ open_path h (next_id m.state) → Makes (Enter room h most)
  enters_here item room h most w here path =
      let small : next_id m.state < 2 ^ 64 = id_fits m.state.mount (m.state.serial + 1) s.regular.mount_fits (let serial = w.1 in omega (arith, serial)) in
      let same : OpenHost host writer ≡ OpenHost h (next_id m.state) = same_items (OpenHost host writer) (OpenHost h (next_id m.state)) item (is_open h (next_id m.state) w.0 small) path in
      let hosts : h ≡ host = cc in
      let ids : next_id m.state ≡ writer = cc in
      record { most = most; asked = ap (λ k. Enter k h most) (sym here) ∙ ap (λ k. Enter number k most) hosts; its_id = ids }

  entering : IsItem (OpenHost host writer) → (room h most : ℕ) → Spares (Enter room h most) (create room openhosts (open_path h (next_id m.state)).file)
  entering item room h most w = elim (cases_eq number room) as (λ _. (NamesFile (create room openhosts (open_path h (next_id m.state)).file) number (open_path host writer) → ChangesOnly (create room openhosts (open_path h (next_id m.state)).file)) ⊎ Makes (Enter room h most)) [
    | inr other ↦ inl (λ names. absurd (other names.0))
    | inl here ↦ elim (path_cases (open_path host writer) (open_path h (next_id m.state))) as (λ _. (NamesFile (create room openhosts (open_path h (next_id m.state)).file) number (open_path host writer) → ChangesOnly (create room openhosts (open_path h (next_id m.state)).file)) ⊎ Makes (Enter room h most)) [
      | inr two ↦ inl (λ names. absurd (two names.1.0 names.1.1))
      | inl same ↦ inr (enters_here item room h most w here same)
    ]
  ]

  each_spares : IsItem (OpenHost host writer) → OfEachAct m.state.table (next_id m.state) e.caller Spares
  each_spares item = record {
    looks = λ call step look w. inl (λ names. absurd (looks_at step look names));
    rooms = λ name w. inl (λ none. absurd none);
    enters = λ room h most. entering item room h most;
    hostdirs = λ id row w. inl (λ none. absurd none);
    indices = λ id row held w. inl (λ names. absurd (elsewhere (first_byte _ _ names.1.0) refl));
    logs = λ id row held w. inl (λ names. absurd (elsewhere (first_byte _ _ names.1.0) refl));
    writes = λ id row held at bytes w. inl (λ names. tt);
    flushes = λ id row held w. inl (λ names. tt);
    log_syncs = λ id row w. inl (λ none. absurd none);
    index_syncs = λ id row w. inl (λ none. absurd none);
    metas = λ id row w. inl (λ names. absurd (elsewhere (first_byte _ _ names.1.0) refl));
    exits = λ id row held w. inl (λ names. tt);
    holds = λ room w. inl (λ none. absurd none);
    truncates = λ holder h held stamp size top is above w. inl (λ names. absurd (elsewhere (first_byte _ _ names.1.0) refl));
    renames = λ holder h held to w. inl (λ none. absurd none);
    releases = λ holder h held w. inl (λ none. absurd none);
    starts = λ room f makes w. inl (λ names. absurd (temporary_apart f.makes f.id names.1.0));
    packs = λ room h x f makes numbers w. inl (λ names. absurd (temporary_apart f.makes f.id names.1.0));
    puts = λ flat f held bytes w. inl (λ names. absurd (temporary_apart f.makes f.id names.1.0));
    flat_syncs = λ flat f held w. inl (λ none. absurd none);
    installs = λ flat f held w. inl (λ names. absurd (installing f names.1));
    dropping_syncs = λ room h x is_log is w. inl (λ none. absurd none);
    mends = λ room h x count is w. inl (λ names. tt);
    mend_metas = λ room h cover last is w. inl (λ names. absurd (elsewhere (first_byte _ _ names.1.0) refl));
    buries = λ room h x is w. inl (λ names. tt);
    mend_holds = λ room w. inl (λ none. absurd none);
  }

  -- the entry stood before, or the call made it
  stood_or_made : Now → Had ⊎ Makes e.ask.call
  stood_or_made had = elim (step_within m e lawful) as (λ _. Had ⊎ Makes e.ask.call) [
    | inr same ↦ inl (record { is_item = had.is_item; bytes = had.bytes; there = ap (λ o. file_told o number (path_of (OpenHost host writer))) (sym same) ∙ had.there })
    | inl w ↦
        let g : GoesOn (Spares e.ask.call) s.shape.tree e.after = step_acts Spares m.state e.after e.caller e.ask e.reply s.shape.tree (each_spares had.is_item) lawful s.shape.told in
        by_act m s e number (OpenHost host writer) refl (Spares e.ask.call) (Makes e.ask.call) (λ step spares. spares w) g.0 g.1 g.2 had
  ]

  -- ---- what is replied where it was made

  module _ (absent : Had → ⊥) (had : Now) where
    -- the reply is no refusal, and of who entered it tells this number
    abbrev pub IsFine : Reply → Type 0
    IsFine (reply.Refused why) = ⊥
    IsFine (reply.Entered w) = w ≡ writer
    IsFine r = Unit {0}

    unmade : (after : Tree) → e.after.store.tree ≡ Some after → after ≡ s.shape.tree → ⊥
    unmade after is same = absent (same_tree m s e number (OpenHost host writer) refl after is same had)

    told_fine : (most : ℕ) → next_id m.state ≡ writer → (told : Told) (after : Tree) → e.after.store.tree ≡ Some after → Tells (enter_step m.state number host) s.shape.tree told after → IsFine (enter_outcome (entered m.state e.caller number host most) m.state.table told).reply
    told_fine most id (Ok Made) after is tells = id
    told_fine most id (Ok NoFolder) after is tells = unmade after is ((create_told number (open_path host (next_id m.state)) s.shape.tree (Ok NoFolder) after tells).stays NoFolder refl (λ clash. cc)).0
    told_fine most id (Ok NoRoom) after is tells = unmade after is ((create_told number (open_path host (next_id m.state)) s.shape.tree (Ok NoRoom) after tells).stays NoRoom refl (λ clash. cc)).0
    told_fine most id (Ok other) after is tells = tt
    told_fine most id (Err Fault) after is tells = tt
    told_fine most id (Err NoMemory) after is tells = tt

    made_fine : (most : ℕ) → next_id m.state ≡ writer → (r : Reply) → Answers m.state e.caller (Enter number host most) r e.after → IsFine r
    made_fine most id r a = elim (match_cases (draw_check m.state number) (EntersAs e.caller number host most m.state r e.after) (λ why. Refuses why m.state r e.after) a) as (λ _. IsFine r) [
      | inr (why, some, refused) ↦ absurd (absent (same_state m s e number (OpenHost host writer) refl refused.1 had))
      | inl (none, f) ↦
          let k = acts_told (enter_step m.state number host) m.state.store e.after.store s.shape.tree f.makes.told s.shape.told f.makes.made in
          subst IsFine (sym f.makes.answered) (told_fine most id f.makes.told k.0 k.1 k.2)
    ]

    replied_fine : Makes e.ask.call → IsFine e.reply
    replied_fine makes = step_cases m.state e.caller e.ask e.reply e.after (IsFine e.reply) lawful
        (λ none a. made_fine makes.most makes.its_id e.reply (subst (λ c. Answers m.state e.caller c e.reply e.after) makes.asked a))
        (λ k some x. either (stop_replies m.state e.caller k e.ask.call e.reply e.after x))
      where
        either : (e.reply ≡ reply.Stopped) ⊎ (e.reply ≡ reply.NoMemory) → IsFine e.reply
        either (inl is) = subst IsFine (sym is) tt
        either (inr is) = subst IsFine (sym is) tt

-- ---- in a history

-- A call of an opening made the entry, which was not there before.
pub record NewEntry (m : Moment) (events : List Event) (number host writer : ℕ) : Type 0 where
  pub pre : List Event
  pub event : Event
  pub post : List Event
  pub is : events ≡ pre ++ event ∷ post
  pub makes : MakesEntry (moment_after m pre).state number host writer event.ask.call
  pub had : HadItem (next_moment (moment_after m pre) event) number (OpenHost host writer)
  pub unrefused : (why : Refusal) → event.reply ≡ reply.Refused why → ⊥
  pub its : (w : ℕ) → event.reply ≡ reply.Entered w → w ≡ writer

first_new : (m : Moment) (e : Event) (events : List Event) (s : IsSoundAt m) → IsStep m.state e.caller e.ask e.reply e.after → (number host writer : ℕ) → HadItem (next_moment m e) number (OpenHost host writer) → (HadItem m number (OpenHost host writer) → ⊥) → NewEntry m (e ∷ events) number host writer
first_new m e events s step number host writer had absent = elim (stood_or_made m s e step number host writer had) as (λ _. NewEntry m (e ∷ events) number host writer) [
  | inl was ↦ absurd (absent was)
  | inr makes ↦ record {
    pre = [];
    event = e;
    post = events;
    is = refl;
    makes = makes;
    had = had;
    unrefused = λ why is. subst (IsFine m s e step number host writer absent had) is (replied_fine m s e step number host writer absent had makes);
    its = λ w is. subst (IsFine m s e step number host writer absent had) is (replied_fine m s e step number host writer absent had makes);
  }
]

-- Each entry that stands stood at first, or is a new one.
pub stood_or_new : (m : Moment) (events : List Event) → IsSoundAt m → IsLawful m.state events → (number host writer : ℕ) → HadItem (moment_after m events) number (OpenHost host writer) → HadItem m number (OpenHost host writer) ⊎ NewEntry m events number host writer
stood_or_new m [] s lawful number host writer had = inl had
stood_or_new m (e ∷ events) s lawful number host writer had = elim (stood_or_new (next_moment m e) events (sound_next m e events lawful s) lawful.2 number host writer had) as (λ _. HadItem m number (OpenHost host writer) ⊎ NewEntry m (e ∷ events) number host writer) [
  | inr new ↦ inr (record { pre = e ∷ new.pre; event = new.event; post = new.post; is = ap (λ z. e ∷ z) new.is; makes = new.makes; had = new.had; unrefused = new.unrefused; its = new.its })
  | inl now ↦ elim (has_or_not m number (OpenHost host writer) had.is_item) as (λ _. HadItem m number (OpenHost host writer) ⊎ NewEntry m (e ∷ events) number host writer) [
    | inl was ↦ inl was
    | inr absent ↦ inr (first_new m e events s lawful.1 number host writer now absent)
  ]
]
