-- Each index that stands stood before, or the call of a writer made it in the writer's container.
use Rattle.std.proofs.Common.{◌≡◌, ◌⊎◌, inl, inr, ℕ, List, [], ◌∷◌, ◌++◌, get_or, Some, Ok, Err, refl, sym, ap, ◌∙◌, subst}
use Rattle.std.proofs.lemmas.Bool.{cases_eq}
use Rattle.container_layout.specs.declared.items.Item.TheVariants.{Index}
use Rattle.container_layout.specs.Items.{IsItem}
use Rattle.container_layout.specs.Paths.{hostdir_of}
use Rattle.container_layout.proofs.Facts.{elsewhere, same_items}
use Rattle.store_api.specs.declared.step.Answer.TheVariants.{Made, NoFolder, NoRoom, Old}
use Rattle.store_api.specs.declared.store.Trouble.TheVariants.{Fault, NoMemory}
use Rattle.store_api.specs.declared.tree.Tree.{Tree}
use Rattle.store_api.specs.Step.{Step, create, cut, remove, replace, write_at}
use Rattle.store_laws.specs.Naming.{IsPathOf, NamesFile}
use Rattle.store_laws.specs.Outcomes.{IsLook}
use Rattle.store_laws.specs.Tells.{Tells}
use Rattle.store_laws.proofs.Facts.{acts_told, create_told, path_cases}
use Rattle.mount_model.specs.declared.call.Call.{Call}
use Rattle.mount_model.specs.declared.call.Call.TheVariants.{MakeIndex}
use Rattle.mount_model.specs.declared.reply.Refusal.{Refusal}
use Rattle.mount_model.specs.declared.reply.Refusal.TheVariants.{NotOpen}
use Rattle.mount_model.specs.declared.reply.Reply.{Reply}
use Rattle.mount_model.specs.declared.reply.Reply.TheVariants as reply
use Rattle.mount_model.specs.declared.row.Flattening.{Flattening}
use Rattle.mount_model.specs.declared.row.Row.{Row}
use Rattle.mount_model.specs.declared.row.Stage.TheVariants as stage
use Rattle.mount_model.specs.Building.{build_outcome, index_step}
use Rattle.mount_model.specs.Entering.{next_id}
use Rattle.mount_model.specs.History.{Event}
use Rattle.mount_model.specs.Making.{MakesAct, Refuses, Told}
use Rattle.mount_model.specs.Paths.{index_path, installed, temporary}
use Rattle.mount_model.specs.Step.{Answers, IsStep}
use Rattle.mount_model.specs.Table.{only, row_of, writer_of}
use Rattle.mount_model.proofs.Facts.{match_cases, row_of_id, step_cases, stop_replies}
use Rattle.mount_sound.specs.Owed.{IsLawful}
use Rattle.mount_sound.proofs.Facts.{Fits, GoesOn, OfEachAct, all_fit, hostdir_below, index_no_flattenings, step_acts}
use Rattle.reader_laws.specs.Moments.{HadItem, IsSoundAt, Moment, moment_after, next_moment}
use Rattle.reader_laws.proofs.Gathered.Moments.Stepping.{sound_next}
use Rattle.headline_laws.proofs.Makers.Back.{ChangesOnly, by_act, has_or_not, same_state, same_tree}

first_byte : (a b : List ℕ) → a ≡ b → get_or a 0 0 ≡ get_or b 0 0
first_byte a b e = ap (λ (l : List ℕ). get_or l 0 0) e

one_index : (h w host writer : ℕ) → Index h w ≡ Index host writer → (h ≡ host) × (w ≡ writer)
one_index h w host writer e = (cc, cc)

-- the call makes the index of this writer, whose row has this container and host
pub record MakesIt (rows : List Row) (number host writer : ℕ) (call : Call) : Type 0 where
  pub asked : call ≡ MakeIndex writer
  pub row : Row
  pub held : row_of writer rows ≡ Some row
  pub room : row.room ≡ number
  pub its_host : row.host ≡ host

-- ---- one step

module _ (m : Moment) (s : IsSoundAt m) (e : Event) (lawful : IsStep m.state e.caller e.ask e.reply e.after) (number host writer : ℕ) where
  abbrev Had : Type 0
  Had = HadItem m number (Index host writer)

  abbrev Now : Type 0
  Now = HadItem (next_moment m e) number (Index host writer)

  abbrev Makes : Call → Type 0
  Makes call = MakesIt m.state.table.writers number host writer call

  -- its act makes no such index, or it is that of the writer
  abbrev Spares : Call → Step → Type 0
  Spares call step = (NamesFile step number (index_path host writer) → ChangesOnly step) ⊎ Makes call

  looks_at : (step : Step) → IsLook step → NamesFile step number (index_path host writer) → ⊥
  looks_at (create k folder file) look names = look
  looks_at (remove k folder file) look names = look
  looks_at (replace k folder from to) look names = look
  looks_at (write_at k folder file at bytes) look names = look
  looks_at (cut k folder file len) look names = look
  looks_at step look names = names

  -- the row is that of the writer, where its index is named
  makes_here : IsItem (Index host writer) → (w : ℕ) (row : Row) → row_of w m.state.table.writers ≡ Some row → number ≡ row.room → index_path host writer ≡ index_path row.host row.id → Makes (MakeIndex w)
  makes_here item w row held here same =
      let fits : Fits row = all_fit m.state s.regular w row held in
      let its : IsItem (Index row.host row.id) = record { in_range = tt; widths = (fits.host, fits.id) } in
      let one = one_index host writer row.host row.id (same_items (Index host writer) (Index row.host row.id) item its same) in
      let id : w ≡ writer = sym (row_of_id w m.state.table.writers row held) ∙ sym one.1 in
      record { asked = ap MakeIndex id; row = row; held = ap (λ k. row_of k m.state.table.writers) (sym id) ∙ held; room = sym here; its_host = sym one.0 }

  making : IsItem (Index host writer) → (w : ℕ) (row : Row) → row_of w m.state.table.writers ≡ Some row → Spares (MakeIndex w) (index_step row)
  making item w row held = elim (cases_eq number row.room) as (λ _. Spares (MakeIndex w) (index_step row)) [
    | inr other ↦ inl (λ names. absurd (other names.0))
    | inl here ↦ elim (path_cases (index_path host writer) (index_path row.host row.id)) as (λ _. Spares (MakeIndex w) (index_step row)) [
      | inr two ↦ inl (λ names. absurd (two names.1.0 names.1.1))
      | inl same ↦ inr (makes_here item w row held here same)
    ]
  ]

  installing : (f : Flattening) → IsPathOf (temporary f).folder (temporary f).file (index_path host writer) ⊎ IsPathOf (temporary f).folder (installed f).file (index_path host writer) → ⊥
  installing f (inl from) = (index_no_flattenings host writer).from f from
  installing f (inr to) = (index_no_flattenings host writer).to f to

  each_spares : IsItem (Index host writer) → OfEachAct m.state.table (next_id m.state) e.caller Spares
  each_spares item = record {
    looks = λ call step look. inl (λ names. absurd (looks_at step look names));
    rooms = λ name. inl (λ none. absurd none);
    enters = λ room h most. inl (λ names. absurd (elsewhere (first_byte _ _ names.1.0) refl));
    hostdirs = λ w row. inl (λ none. absurd none);
    indices = λ w row held. making item w row held;
    logs = λ w row held. inl (λ names. absurd (elsewhere (first_byte _ _ names.1.1) refl));
    writes = λ w row held at bytes. inl (λ names. tt);
    flushes = λ w row held. inl (λ names. tt);
    log_syncs = λ w row. inl (λ none. absurd none);
    index_syncs = λ w row. inl (λ none. absurd none);
    metas = λ w row. inl (λ names. absurd (elsewhere (first_byte _ _ names.1.0) refl));
    exits = λ w row held. inl (λ names. absurd (elsewhere (first_byte _ _ names.1.0) refl));
    holds = λ room. inl (λ none. absurd none);
    truncates = λ holder h held its its_size top is above. inl (λ names. absurd (elsewhere (first_byte _ _ names.1.0) refl));
    renames = λ holder h held to. inl (λ none. absurd none);
    releases = λ holder h held. inl (λ none. absurd none);
    starts = λ room f makes. inl (λ names. absurd ((index_no_flattenings host writer).from f names.1));
    packs = λ room h w f makes numbers. inl (λ names. absurd ((index_no_flattenings host writer).from f names.1));
    puts = λ flat f held bytes. inl (λ names. absurd ((index_no_flattenings host writer).from f names.1));
    flat_syncs = λ flat f held. inl (λ none. absurd none);
    installs = λ flat f held. inl (λ names. absurd (installing f names.1));
    dropping_syncs = λ room h w is_log is. inl (λ none. absurd none);
    mends = λ room h w count is. inl (λ names. tt);
    mend_metas = λ room h cover last is. inl (λ names. absurd (elsewhere (first_byte _ _ names.1.0) refl));
    buries = λ room h w is. inl (λ names. absurd (elsewhere (first_byte _ _ names.1.0) refl));
    mend_holds = λ room. inl (λ none. absurd none);
  }

  -- the index stood before, or the call made it
  stood_or_made : Now → Had ⊎ Makes e.ask.call
  stood_or_made had =
      let g : GoesOn (Spares e.ask.call) s.shape.tree e.after = step_acts Spares m.state e.after e.caller e.ask e.reply s.shape.tree (each_spares had.is_item) lawful s.shape.told in
      by_act m s e number (Index host writer) (hostdir_below host) (Spares e.ask.call) (Makes e.ask.call) (λ step spares. spares) g.0 g.1 g.2 had

  -- ---- what is replied where it was made

  module _ (absent : Had → ⊥) (had : Now) where
    -- the reply is no refusal
    abbrev IsNoRefusal : Reply → Type 0
    IsNoRefusal (reply.Refused why) = ⊥
    IsNoRefusal r = Unit {0}

    told_right : (row : Row) (told : Told) (after : Tree) → e.after.store.tree ≡ Some after → Tells (index_step row) s.shape.tree told after → IsNoRefusal (build_outcome stage.Indexed (hostdir_of row.host) (index_path row.host row.id).file row m.state.table told).reply
    told_right row (Ok NoRoom) after is tells =
        absurd (absent (same_tree m s e number (Index host writer) (hostdir_below host) after is ((create_told row.room (index_path row.host row.id) s.shape.tree (Ok NoRoom) after tells).stays NoRoom refl (λ clash. cc)).0 had))
    told_right row (Ok Made) after is tells = tt
    told_right row (Ok (Old room)) after is tells = tt
    told_right row (Ok NoFolder) after is tells = tt
    told_right row (Ok other) after is tells = tt
    told_right row (Err Fault) after is tells = tt
    told_right row (Err NoMemory) after is tells = tt

    made_right : (r : Reply) → Answers m.state e.caller (MakeIndex writer) r e.after → IsNoRefusal r
    made_right r a = elim (match_cases (writer_of e.caller (only stage.Housed) writer m.state.table.writers) (Refuses NotOpen m.state r e.after) (λ row. MakesAct (index_step row) (build_outcome stage.Indexed (hostdir_of row.host) (index_path row.host row.id).file row m.state.table) m.state r e.after) a) as (λ _. IsNoRefusal r) [
      | inl (none, refused) ↦ absurd (absent (same_state m s e number (Index host writer) (hostdir_below host) refused.1 had))
      | inr (row, held, does) ↦
          let k = acts_told (index_step row) m.state.store e.after.store s.shape.tree does.told s.shape.told does.made in
          subst IsNoRefusal (sym does.answered) (told_right row does.told k.0 k.1 k.2)
    ]

    replied_right : e.ask.call ≡ MakeIndex writer → IsNoRefusal e.reply
    replied_right asked = step_cases m.state e.caller e.ask e.reply e.after (IsNoRefusal e.reply) lawful
        (λ none a. made_right e.reply (subst (λ c. Answers m.state e.caller c e.reply e.after) asked a))
        (λ k some x. either (stop_replies m.state e.caller k e.ask.call e.reply e.after x))
      where
        either : (e.reply ≡ reply.Stopped) ⊎ (e.reply ≡ reply.NoMemory) → IsNoRefusal e.reply
        either (inl is) = subst IsNoRefusal (sym is) tt
        either (inr is) = subst IsNoRefusal (sym is) tt

-- ---- in a history

-- A call of its writer made the index, which was not there before.
pub record NewIndex (m : Moment) (events : List Event) (number host writer : ℕ) : Type 0 where
  pub pre : List Event
  pub event : Event
  pub post : List Event
  pub is : events ≡ pre ++ event ∷ post
  pub makes : MakesIt (moment_after m pre).state.table.writers number host writer event.ask.call
  pub absent : HadItem (moment_after m pre) number (Index host writer) → ⊥
  pub unrefused : (why : Refusal) → event.reply ≡ reply.Refused why → ⊥

first_new : (m : Moment) (e : Event) (events : List Event) (s : IsSoundAt m) → IsStep m.state e.caller e.ask e.reply e.after → (number host writer : ℕ) → HadItem (next_moment m e) number (Index host writer) → (HadItem m number (Index host writer) → ⊥) → NewIndex m (e ∷ events) number host writer
first_new m e events s step number host writer had absent = elim (stood_or_made m s e step number host writer had) as (λ _. NewIndex m (e ∷ events) number host writer) [
  | inl was ↦ absurd (absent was)
  | inr makes ↦ record {
    pre = [];
    event = e;
    post = events;
    is = refl;
    makes = makes;
    absent = absent;
    unrefused = λ why is. subst (IsNoRefusal m s e step number host writer absent had) is (replied_right m s e step number host writer absent had makes.asked);
  }
]

-- Each index that stands stood at first, or is a new one.
pub stood_or_new : (m : Moment) (events : List Event) → IsSoundAt m → IsLawful m.state events → (number host writer : ℕ) → HadItem (moment_after m events) number (Index host writer) → HadItem m number (Index host writer) ⊎ NewIndex m events number host writer
stood_or_new m [] s lawful number host writer had = inl had
stood_or_new m (e ∷ events) s lawful number host writer had = elim (stood_or_new (next_moment m e) events (sound_next m e events lawful s) lawful.2 number host writer had) as (λ _. HadItem m number (Index host writer) ⊎ NewIndex m (e ∷ events) number host writer) [
  | inr new ↦ inr (record { pre = e ∷ new.pre; event = new.event; post = new.post; is = ap (λ z. e ∷ z) new.is; makes = new.makes; absent = new.absent; unrefused = new.unrefused })
  | inl now ↦ elim (has_or_not m number (Index host writer) had.is_item) as (λ _. HadItem m number (Index host writer) ⊎ NewIndex m (e ∷ events) number host writer) [
    | inl was ↦ inl was
    | inr absent ↦ inr (first_new m e events s lawful.1 number host writer now absent)
  ]
]
