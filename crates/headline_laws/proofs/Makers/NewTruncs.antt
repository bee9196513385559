-- Each truncate that stands stood before, or a call made it that its caller made by a hold of the container.
use Rattle.std.proofs.Common.{◌≡◌, ◌⊎◌, ◌<◌, inl, inr, ℕ, List, [], ◌∷◌, ◌++◌, get_or, Some, Ok, Err, refl, sym, ap, subst, arith}
use Rattle.std.proofs.lemmas.Bool.{cases_eq}
use Rattle.plfs_types.specs.declared.limits.TheConstants.{MAX_STAMP}
use Rattle.container_layout.specs.declared.items.Item.TheVariants.{Trunc}
use Rattle.container_layout.specs.Items.{IsItem}
use Rattle.container_layout.proofs.Facts.{elsewhere, same_items}
use Rattle.store_api.specs.declared.step.Answer.TheVariants.{Made, NoFolder, NoRoom}
use Rattle.store_api.specs.declared.store.Trouble.TheVariants.{Fault, NoMemory}
use Rattle.store_api.specs.declared.tree.Tree.{Tree}
use Rattle.store_api.specs.Step.{Step, create, cut, remove, replace, write_at}
use Rattle.store_laws.specs.Naming.{IsPathOf, NamesFile}
use Rattle.store_laws.specs.Outcomes.{IsLook}
use Rattle.store_laws.specs.Tells.{Tells}
use Rattle.store_laws.proofs.Facts.{acts_told, create_told, path_cases}
use Rattle.mount_model.specs.declared.call.Call.{Call}
use Rattle.mount_model.specs.declared.call.Call.TheVariants.{Mark}
use Rattle.mount_model.specs.declared.reply.Refusal.{Refusal}
use Rattle.mount_model.specs.declared.reply.Refusal.TheVariants.{NotHolder}
use Rattle.mount_model.specs.declared.reply.Reply.{Reply}
use Rattle.mount_model.specs.declared.reply.Reply.TheVariants as reply
use Rattle.mount_model.specs.declared.row.Flattening.{Flattening}
use Rattle.mount_model.specs.declared.row.Holder.{Holder}
use Rattle.mount_model.specs.Entering.{next_id}
use Rattle.mount_model.specs.History.{Event}
use Rattle.mount_model.specs.Holding.{TruncatesAt, truncate_check, truncate_outcome, truncate_stamp, truncate_step}
use Rattle.mount_model.specs.Making.{Refuses, Told}
use Rattle.mount_model.specs.Paths.{installed, temporary, trunc_path}
use Rattle.mount_model.specs.State.{Table}
use Rattle.mount_model.specs.Step.{Answers, IsStep}
use Rattle.mount_model.specs.Table.{holder_of}
use Rattle.mount_model.proofs.Facts.{MayTruncate, match_cases, may_truncate, step_cases, stop_replies}
use Rattle.mount_sound.specs.Owed.{IsLawful}
use Rattle.mount_sound.proofs.Facts.{GoesOn, OfEachAct, step_acts, trunc_no_flattenings}
use Rattle.reader_laws.specs.Moments.{HadTrunc, IsSoundAt, Moment, moment_after, next_moment}
use Rattle.reader_laws.proofs.Gathered.Moments.Stepping.{sound_next}
use Rattle.headline_laws.proofs.Makers.Back.{ChangesOnly, by_act, has_or_not, same_state, same_tree}

first_byte : (a b : List ℕ) → a ≡ b → get_or a 0 0 ≡ get_or b 0 0
first_byte a b e = ap (λ (l : List ℕ). get_or l 0 0) e

one_trunc : (s z t u : ℕ) → Trunc s z ≡ Trunc t u → (s ≡ t) × (z ≡ u)
one_trunc s z t u e = (cc, cc)

stamped : (time top size : ℕ) → MayTruncate size top → IsItem (Trunc (truncate_stamp time top) size)
stamped time top size may = let left : top < MAX_STAMP = may.stamp_left in record { in_range = record { stamped = omega arith; stamp_fits = omega (arith, left); size_fits = may.near }; widths = tt }

-- ---- one act

-- the call marks a truncate to this size, by a hold of this container that its caller has
pub record MarksIt (table : Table) (caller number size : ℕ) (call : Call) : Type 0 where
  pub holder : ℕ
  pub top : ℕ
  pub asked : call ≡ Mark holder size top
  pub h : Holder
  pub held : holder_of caller holder table.holders ≡ Some h
  pub room : h.room ≡ number

module _ (table : Table) (caller number stamp size : ℕ) (item : IsItem (Trunc stamp size)) where
  -- its act names no such truncate, or it marks it
  abbrev Spares : Call → Step → Type 0
  Spares call step = (NamesFile step number (trunc_path stamp size) → ⊥) ⊎ MarksIt table caller number size call

  looks_at : (step : Step) → IsLook step → NamesFile step number (trunc_path stamp size) → ⊥
  looks_at (create k folder file) look names = look
  looks_at (remove k folder file) look names = look
  looks_at (replace k folder from to) look names = look
  looks_at (write_at k folder file at bytes) look names = look
  looks_at (cut k folder file len) look names = look
  looks_at step look names = names

  marking : (holder : ℕ) (h : Holder) → holder_of caller holder table.holders ≡ Some h → (its its_size top : ℕ) → IsItem (Trunc its its_size) → Spares (Mark holder its_size top) (truncate_step h its its_size)
  marking holder h held its its_size top is = elim (cases_eq number h.room) as (λ _. Spares (Mark holder its_size top) (truncate_step h its its_size)) [
    | inr other ↦ inl (λ names. other names.0)
    | inl here ↦ elim (path_cases (trunc_path stamp size) (trunc_path its its_size)) as (λ _. Spares (Mark holder its_size top) (truncate_step h its its_size)) [
      | inr two ↦ inl (λ names. two names.1.0 names.1.1)
      | inl same ↦ inr (record { holder = holder; top = top; asked = ap (λ z. Mark holder z top) (sym (one_trunc stamp size its its_size (same_items (Trunc stamp size) (Trunc its its_size) item is same)).1); h = h; held = held; room = sym here })
    ]
  ]

  installing : (f : Flattening) → IsPathOf (temporary f).folder (temporary f).file (trunc_path stamp size) ⊎ IsPathOf (temporary f).folder (installed f).file (trunc_path stamp size) → ⊥
  installing f (inl from) = (trunc_no_flattenings stamp size).from f from
  installing f (inr to) = (trunc_no_flattenings stamp size).to f to

  each_spares : (id : ℕ) → OfEachAct table id caller Spares
  each_spares id = record {
    looks = λ call step look. inl (looks_at step look);
    rooms = λ name. inl (λ none. none);
    enters = λ room host most. inl (λ names. elsewhere (first_byte _ _ names.1.0) refl);
    hostdirs = λ writer row. inl (λ none. none);
    indices = λ writer row held. inl (λ names. elsewhere (first_byte _ _ names.1.0) refl);
    logs = λ writer row held. inl (λ names. elsewhere (first_byte _ _ names.1.0) refl);
    writes = λ writer row held at bytes. inl (λ names. elsewhere (first_byte _ _ names.1.0) refl);
    flushes = λ writer row held. inl (λ names. elsewhere (first_byte _ _ names.1.0) refl);
    log_syncs = λ writer row. inl (λ none. none);
    index_syncs = λ writer row. inl (λ none. none);
    metas = λ writer row. inl (λ names. elsewhere (first_byte _ _ names.1.0) refl);
    exits = λ writer row held. inl (λ names. elsewhere (first_byte _ _ names.1.0) refl);
    holds = λ room. inl (λ none. none);
    truncates = λ holder h held its its_size top is above. marking holder h held its its_size top is;
    renames = λ holder h held to. inl (λ none. none);
    releases = λ holder h held. inl (λ none. none);
    starts = λ room f makes. inl (λ names. (trunc_no_flattenings stamp size).from f names.1);
    packs = λ room host writer f makes numbers. inl (λ names. (trunc_no_flattenings stamp size).from f names.1);
    puts = λ flat f held bytes. inl (λ names. (trunc_no_flattenings stamp size).from f names.1);
    flat_syncs = λ flat f held. inl (λ none. none);
    installs = λ flat f held. inl (λ names. installing f names.1);
    dropping_syncs = λ room host writer is_log is. inl (λ none. none);
    mends = λ room host writer count is. inl (λ names. elsewhere (first_byte _ _ names.1.0) refl);
    mend_metas = λ room host cover last is. inl (λ names. elsewhere (first_byte _ _ names.1.0) refl);
    buries = λ room host writer is. inl (λ names. elsewhere (first_byte _ _ names.1.0) refl);
    mend_holds = λ room. inl (λ none. none);
  }

-- ---- one step

module _ (m : Moment) (s : IsSoundAt m) (e : Event) (lawful : IsStep m.state e.caller e.ask e.reply e.after) (number stamp size : ℕ) where
  abbrev Marks : Type 0
  Marks = MarksIt m.state.table e.caller number size e.ask.call

  abbrev Had : Type 0
  Had = HadTrunc m number stamp size

  abbrev Now : Type 0
  Now = HadTrunc (next_moment m e) number stamp size

  -- the truncate stood before, or the call marked it
  stood_or_marked : Now → Had ⊎ Marks
  stood_or_marked had =
      let P : Call → Step → Type 0 = λ call step. (NamesFile step number (trunc_path stamp size) → ⊥) ⊎ MarksIt m.state.table e.caller number size call in
      let g : GoesOn (P e.ask.call) s.shape.tree e.after = step_acts P m.state e.after e.caller e.ask e.reply s.shape.tree (each_spares m.state.table e.caller number stamp size had.is_item (next_id m.state)) lawful s.shape.told in
      by_act m s e number (Trunc stamp size) refl (P e.ask.call) Marks decides g.0 g.1 g.2 had
    where
      decides : (step : Step) → (NamesFile step number (trunc_path stamp size) → ⊥) ⊎ Marks → (NamesFile step number (trunc_path stamp size) → ChangesOnly step) ⊎ Marks
      decides step (inl spares) = inl (λ names. absurd (spares names))
      decides step (inr marks) = inr marks

  -- ---- what is replied where it was marked

  module _ (absent : Had → ⊥) (had : Now) where
    changed : e.after ≡ m.state → ⊥
    changed same = absent (same_state m s e number (Trunc stamp size) refl same had)

    changed_tree : (after : Tree) → e.after.store.tree ≡ Some after → after ≡ s.shape.tree → ⊥
    changed_tree after told same = absent (same_tree m s e number (Trunc stamp size) refl after told same had)

    abbrev Only : ℕ → Step → Type 0
    Only its step = (NamesFile step number (trunc_path stamp size) → ChangesOnly step) ⊎ (its ≡ stamp)

    -- an act that names one truncate names this one
    its_stamp : (h : Holder) (its its_size : ℕ) → IsItem (Trunc its its_size) → (told : Told) (after : Tree) → e.after.store.tree ≡ Some after → Tells (truncate_step h its its_size) s.shape.tree told after → its ≡ stamp
    its_stamp h its its_size item told after is tells =
        elim (by_act m s e number (Trunc stamp size) refl (λ step. step ≡ truncate_step h its its_size) (its ≡ stamp) decides after is (inr (record { step = truncate_step h its its_size; told = told; holds = refl; tells = tells })) had) as (λ _. its ≡ stamp) [
          | inl was ↦ absurd (absent was)
          | inr same ↦ same
        ]
      where
        names_or : Only its (truncate_step h its its_size)
        names_or = elim (path_cases (trunc_path stamp size) (trunc_path its its_size)) as (λ _. Only its (truncate_step h its its_size)) [
          | inr two ↦ inl (λ names. absurd (two names.1.0 names.1.1))
          | inl same ↦ inr (sym (one_trunc stamp size its its_size (same_items (Trunc stamp size) (Trunc its its_size) had.is_item item same)).0)
        ]

        decides : (step : Step) → step ≡ truncate_step h its its_size → Only its step
        decides step same = subst (Only its) (sym same) names_or

    -- the reply is no refusal, and where it tells a stamp it is that of the truncate
    abbrev IsRight : Reply → Type 0
    IsRight (reply.Refused why) = ⊥
    IsRight (reply.Marked other) = other ≡ stamp
    IsRight r = Unit {0}

    told_right : (h : Holder) (its its_size : ℕ) → IsItem (Trunc its its_size) → (told : Told) (after : Tree) → e.after.store.tree ≡ Some after → Tells (truncate_step h its its_size) s.shape.tree told after → IsRight (truncate_outcome its its_size m.state.table told).reply
    told_right h its its_size item (Ok Made) after is tells = its_stamp h its its_size item (Ok Made) after is tells
    told_right h its its_size item (Ok NoRoom) after is tells = changed_tree after is ((create_told h.room (trunc_path its its_size) s.shape.tree (Ok NoRoom) after tells).stays NoRoom refl (λ clash. cc)).0
    told_right h its its_size item (Ok NoFolder) after is tells = tt
    told_right h its its_size item (Ok other) after is tells = tt
    told_right h its its_size item (Err Fault) after is tells = tt
    told_right h its its_size item (Err NoMemory) after is tells = tt

    refused_not : (why : Refusal) (r : Reply) → Refuses why m.state r e.after → IsRight r
    refused_not why r refuses = absurd (changed refuses.1)

    truncated_right : (holder its_size top : ℕ) (r : Reply) → Answers m.state e.caller (Mark holder its_size top) r e.after → IsRight r
    truncated_right holder its_size top r a = elim (match_cases (holder_of e.caller holder m.state.table.holders) _ _ a) as (λ _. IsRight r) [
      | inl (none, refused) ↦ refused_not NotHolder r refused
      | inr (h, held, does) ↦ elim (match_cases (truncate_check its_size top) (TruncatesAt h its_size top m.state r e.after) (λ why. Refuses why m.state r e.after) does) as (λ _. IsRight r) [
        | inr (why, some, refused) ↦ refused_not why r refused
        | inl (passed, t) ↦
            let its : ℕ = truncate_stamp t.time top in
            let k = acts_told (truncate_step h its its_size) m.state.store e.after.store s.shape.tree t.makes.told s.shape.told t.makes.made in
            subst IsRight (sym t.makes.answered) (told_right h its its_size (stamped t.time top its_size (may_truncate its_size top passed)) t.makes.told k.0 k.1 k.2)
      ]
    ]

    replied_right : (holder its_size top : ℕ) → e.ask.call ≡ Mark holder its_size top → IsRight e.reply
    replied_right holder its_size top asked = step_cases m.state e.caller e.ask e.reply e.after (IsRight e.reply) lawful
        (λ none a. truncated_right holder its_size top e.reply (subst (λ c. Answers m.state e.caller c e.reply e.after) asked a))
        (λ k some x. either (stop_replies m.state e.caller k e.ask.call e.reply e.after x))
      where
        either : (e.reply ≡ reply.Stopped) ⊎ (e.reply ≡ reply.NoMemory) → IsRight e.reply
        either (inl is) = subst IsRight (sym is) tt
        either (inr is) = subst IsRight (sym is) tt

-- ---- in a history

-- A call marked the truncate, which was not there before.
pub record NewTrunc (m : Moment) (events : List Event) (number stamp size : ℕ) : Type 0 where
  pub pre : List Event
  pub event : Event
  pub post : List Event
  pub is : events ≡ pre ++ event ∷ post
  pub marks : MarksIt (moment_after m pre).state.table event.caller number size event.ask.call
  pub absent : HadTrunc (moment_after m pre) number stamp size → ⊥
  pub unrefused : (why : Refusal) → event.reply ≡ reply.Refused why → ⊥
  pub stamp_is : (other : ℕ) → event.reply ≡ reply.Marked other → other ≡ stamp

first_new : (m : Moment) (e : Event) (events : List Event) (s : IsSoundAt m) → IsStep m.state e.caller e.ask e.reply e.after → (number stamp size : ℕ) → HadTrunc (next_moment m e) number stamp size → (HadTrunc m number stamp size → ⊥) → NewTrunc m (e ∷ events) number stamp size
first_new m e events s step number stamp size had absent = elim (stood_or_marked m s e step number stamp size had) as (λ _. NewTrunc m (e ∷ events) number stamp size) [
  | inl was ↦ absurd (absent was)
  | inr marks ↦
      let right = replied_right m s e step number stamp size absent had marks.holder size marks.top marks.asked in
      record {
        pre = [];
        event = e;
        post = events;
        is = refl;
        marks = marks;
        absent = absent;
        unrefused = λ why is. subst (IsRight m s e step number stamp size absent had) is right;
        stamp_is = λ other is. subst (IsRight m s e step number stamp size absent had) is right;
      }
]

-- Each truncate that stands stood at first, or is a new one.
pub stood_or_new : (m : Moment) (events : List Event) → IsSoundAt m → IsLawful m.state events → (number stamp size : ℕ) → HadTrunc (moment_after m events) number stamp size → HadTrunc m number stamp size ⊎ NewTrunc m events number stamp size
stood_or_new m [] s lawful number stamp size had = inl had
stood_or_new m (e ∷ events) s lawful number stamp size had = elim (stood_or_new (next_moment m e) events (sound_next m e events lawful s) lawful.2 number stamp size had) as (λ _. HadTrunc m number stamp size ⊎ NewTrunc m (e ∷ events) number stamp size) [
  | inr new ↦ inr (record { pre = e ∷ new.pre; event = new.event; post = new.post; is = ap (λ z. e ∷ z) new.is; marks = new.marks; absent = new.absent; unrefused = new.unrefused; stamp_is = new.stamp_is })
  | inl now ↦ elim (has_or_not m number (Trunc stamp size) had.is_item) as (λ _. HadTrunc m number stamp size ⊎ NewTrunc m (e ∷ events) number stamp size) [
    | inl was ↦ inl was
    | inr absent ↦ inr (first_new m e events s lawful.1 number stamp size now absent)
  ]
]
