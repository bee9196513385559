-- The first entries that have landed of a writer stay its first, and what of its log is kept stays kept.
use Rattle.std.proofs.Common.{◌≡◌, ◌≤◌, ℕ, List, length, take, Option, Some, None, refl, ap, sym, ◌∙◌, ◌⊎◌, inl, inr, subst, arith}
use Rattle.std.specs.Prelude.{slice_get}
use Rattle.std.proofs.lemmas.Bool.{cases_lt}
use Rattle.plfs_types.specs.declared.entries.Entry.{Entry}
use Rattle.container_layout.specs.declared.items.Item.TheVariants.{Index, Log}
use Rattle.container_layout.specs.Items.{IsItem}
use Rattle.container_layout.proofs.Facts.{elsewhere, same_items}
use Rattle.store_api.specs.declared.tree.Room.{Room}
use Rattle.store_api.specs.declared.tree.Tree.{Tree}
use Rattle.store_api.specs.Step.{Step, remove, replace, write_at, cut}
use Rattle.store_laws.specs.Files.{file_at, kept_at}
use Rattle.store_laws.specs.Losing.{KeepsFront, Spares}
use Rattle.store_laws.specs.Naming.{IsPathOf}
use Rattle.store_laws.specs.Outcomes.{IsLook}
use Rattle.store_laws.specs.Prefix.{IsPrefix}
use Rattle.store_laws.proofs.Facts.{kept_told, prefix_length}
use Rattle.mount_model.specs.declared.call.Ask.{Ask}
use Rattle.mount_model.specs.declared.reply.Reply.{Reply}
use Rattle.mount_model.specs.declared.row.Flattening.{Flattening}
use Rattle.mount_model.specs.declared.row.Row.{Row}
use Rattle.mount_model.specs.Entering.{next_id}
use Rattle.mount_model.specs.Paths.{log_path, installed, temporary}
use Rattle.mount_model.specs.State.{State}
use Rattle.mount_model.specs.Step.{IsStep}
use Rattle.mount_model.specs.Table.{row_of}
use Rattle.mount_model.specs.Writing.{write_step}
use Rattle.mount_model.proofs.Facts.{row_of_id}
use Rattle.mount_sound.specs.Dropping.{IsWriter, bytes_of, log_bytes}
use Rattle.mount_sound.specs.Entries.{logged}
use Rattle.mount_sound.specs.Issued.{issued_after}
use Rattle.mount_sound.specs.Items.{HasItem}
use Rattle.mount_sound.specs.Ledger.{Ledger, content, entries_in}
use Rattle.mount_sound.specs.Owed.{May, StandsInRoom}
use Rattle.mount_sound.specs.Sound.{IsSoundFor}
use Rattle.mount_sound.specs.There.{landed_entries, landed_in}
use Rattle.mount_sound.proofs.Facts.{ActsOn, IsNoFlattenings, OfEachAct, all_fit, call_issues, in_later, is_log, landed_from, later, length-content, letter, log_no_flattenings, logged_take, one_tree, some_room, stay_later, step_acts, take_less, writer_told}

-- These are the first entries that have landed of the writer, whose index dropping is there.
pub record HasFirst (host writer : ℕ) (es : List Entry) (room : Room) : Type 0 where
  pub content : List ℕ
  pub stands : HasItem room (Index host writer) content
  pub many : length es ≤ landed_in room host writer
  pub first : take (length es) (landed_entries room host writer) ≡ es

-- The same, and no loss of power takes their bytes.
pub record AreLogged (host writer : ℕ) (es : List Entry) (room : Room) : Type 0 where
  pub has : HasFirst host writer es room
  pub kept : logged es ≤ kept_at room (log_path host writer)

-- ---- their bytes are in the log

module _ (l : Ledger) (state : State) (s : IsSoundFor l state) (number : ℕ) (room : Room) (there : slice_get s.shape.tree.rooms number ≡ Some room) (host writer : ℕ) (es : List Entry) (h : HasFirst host writer es room) where
  its_writer : IsWriter room writer (l number writer)
  its_writer = (s.sound.rooms number room there).writers writer h.stands.is_item.widths.1

  same_host : its_writer.host ≡ host
  same_host = sym (its_writer.one_host host (inl (h.content, h.stands)))

  issued_first : es ≡ take (length es) (take its_writer.landed (entries_in (l number writer)))
  issued_first = sym h.first ∙ ap (λ xs. take (length es) xs) (ap (λ x. landed_entries room x writer) (sym same_host) ∙ writer_told room writer (l number writer) its_writer h.stands.is_item.widths.1 (s.sound.writes number writer))

  -- they have no more bytes than were issued
  pub issued_bytes : logged es ≤ logged (entries_in (l number writer))
  issued_bytes = omega (arith, ap logged issued_first, logged_take (length es) (take its_writer.landed (entries_in (l number writer))), logged_take its_writer.landed (entries_in (l number writer)))

  pub in_log : logged es ≤ length (log_bytes room host writer)
  in_log =
      let begins : IsPrefix (content (l number writer)) (log_bytes room host writer) = subst (λ x. IsPrefix (content (l number writer)) (log_bytes room x writer)) same_host its_writer.log in
      omega (arith, issued_bytes, length-content (l number writer) (s.sound.writes number writer).full, prefix_length (content (l number writer)) (log_bytes room host writer) begins)

  -- where there are some, the log is there
  pub log_there : 1 ≤ logged es → (bytes : List ℕ) × (file_at room (log_path host writer) ≡ Some bytes) × (logged es ≤ length bytes)
  log_there some = found (file_at room (log_path host writer)) refl
    where
      found : (file : Option (List ℕ)) → file_at room (log_path host writer) ≡ file → (bytes : List ℕ) × (file_at room (log_path host writer) ≡ Some bytes) × (logged es ≤ length bytes)
      found None e = absurd (omega (arith, some, in_log, ap (λ f. length (bytes_of f)) e))
      found (Some bytes) e = (bytes, e, omega (arith, in_log, ap (λ f. length (bytes_of f)) e))

-- ---- what a call's act spares of a log

look_spares : (tree : Tree) (number : ℕ) (host writer front : ℕ) (step : Step) → IsLook step → Spares tree step number (log_path host writer) front
look_spares tree number host writer front (remove n folder file) look = absurd look
look_spares tree number host writer front (replace n folder from to) look = absurd look
look_spares tree number host writer front (write_at n folder file at bytes) look = absurd look
look_spares tree number host writer front (cut n folder file len) look = absurd look
look_spares tree number host writer front step look = tt

log_of : (h w h' w' : ℕ) → Log h w ≡ Log h' w' → w ≡ w'
log_of h w h' w' e = cc

module _ (l : Ledger) (old : State) (s : IsSoundFor l old) (number host writer front : ℕ) (item : IsItem (Log host writer)) (issued : front ≤ logged (entries_in (l number writer))) where
  abbrev SparesLog : Step → Type 0
  SparesLog step = Spares s.shape.tree step number (log_path host writer) front

  log_no : IsNoFlattenings (log_path host writer)
  log_no = log_no_flattenings host writer

  written : (id : ℕ) (row : Row) → row_of id old.table.writers ≡ Some row → (bytes : List ℕ) → SparesLog (write_step row bytes)
  written id row e bytes named =
      let fits = all_fit old s.regular id row e in
      let is : Log host writer ≡ Log row.host row.id = same_items (Log host writer) (Log row.host row.id) item (is_log row.host row.id fits.host fits.id) (λ i. record { folder = named.1.0 i; file = named.1.1 i }) in
      let of : writer ≡ id = log_of host writer row.host row.id is ∙ row_of_id id old.table.writers row e in
      let p = s.sound.placed id row e in
      let stored : row.stored ≡ logged (entries_in (l row.room id)) = ((s.sound.rooms row.room p.0 p.1).kept id row e refl).numbers.stored in
      let same : l number writer ≡ l row.room id = ap (λ n. l n writer) named.0 ∙ ap (λ w. l row.room w) of in
      inl (omega (arith, issued, stored, ap (λ w. logged (entries_in w)) same))

  replaced : (f : Flattening) → IsPathOf (temporary f).folder (temporary f).file (log_path host writer) ⊎ IsPathOf (temporary f).folder (installed f).file (log_path host writer) → ⊥
  replaced f (inl named) = log_no.from f named
  replaced f (inr named) = log_no.to f named

  log_acts : (caller : ℕ) → OfEachAct old.table (next_id old) caller (λ call step. SparesLog step)
  log_acts caller = record {
    looks = λ call step look. look_spares s.shape.tree number host writer front step look;
    rooms = λ name. tt;
    enters = λ room h most. tt;
    hostdirs = λ id row. tt;
    indices = λ id row e. tt;
    logs = λ id row e. tt;
    writes = λ id row e at bytes. written id row e bytes;
    flushes = λ id row e named. absurd (elsewhere (letter 0 _ _ named.1.1) refl);
    log_syncs = λ id row. tt;
    index_syncs = λ id row. tt;
    metas = λ id row. tt;
    exits = λ id row e named. elsewhere (letter 0 _ _ named.1.0) refl;
    holds = λ room. tt;
    truncates = λ holder h e stamp size top is above. tt;
    renames = λ holder h e to. tt;
    releases = λ holder h e. tt;
    starts = λ room f makes. tt;
    packs = λ room h w f makes numbers. tt;
    puts = λ flat f e bytes named. absurd (log_no.from f named.1);
    flat_syncs = λ flat f e. tt;
    installs = λ flat f e named. replaced f named.1;
    dropping_syncs = λ room h w is_log is. tt;
    mends = λ room h w count is named. absurd (elsewhere (letter 0 _ _ named.1.1) refl);
    mend_metas = λ room h cover last is. tt;
    buries = λ room h w is named. elsewhere (letter 0 _ _ named.1.0) refl;
    mend_holds = λ room. tt;
  }

-- ---- a step

module _ (l : Ledger) (old new : State) (caller : ℕ) (ask : Ask) (reply : Reply) (may : May old caller ask) (step : IsStep old caller ask reply new) (s : IsSoundFor l old) where
  abbrev after : IsSoundFor (issued_after l old ask.call reply) new
  after = later l old new caller ask reply may step s

  -- the room that has them has them yet
  first_in : (number : ℕ) (room : Room) → slice_get s.shape.tree.rooms number ≡ Some room → (host writer : ℕ) (es : List Entry) → HasFirst host writer es room → (now : Room) × (slice_get after.shape.tree.rooms number ≡ Some now) × HasFirst host writer es now
  first_in number room there host writer es h =
      let x = stay_later l old new caller ask reply may step s after number room (Index host writer) h.content there tt h.stands in
      let from = landed_from l (issued_after l old ask.call reply) old new s after number room x.0 there x.2 host writer h.content x.1 h.stands x.3 (call_issues l old ask.call reply number writer) x.4 in (
        x.0,
        x.2,
        record {
          content = x.1;
          stands = x.3;
          many = omega (arith, h.many, from.0);
          first = sym (take_less (length es) (landed_in room host writer) (landed_entries x.0 host writer) h.many) ∙ ap (λ xs. take (length es) xs) from.1 ∙ h.first;
        },
      )

  -- They are its first after each step,
  pub first_stays : (number host writer : ℕ) (es : List Entry) → StandsInRoom old number (HasFirst host writer es) → StandsInRoom new number (HasFirst host writer es)
  first_stays number host writer es owed =
      let was = owed s.shape.tree s.shape.told in
      in_later l old new caller ask reply may step s after number (HasFirst host writer es) (first_in number was.0 was.1 host writer es was.2)

  kept_now : (number : ℕ) (room now : Room) → slice_get s.shape.tree.rooms number ≡ Some room → slice_get after.shape.tree.rooms number ≡ Some now → (host writer : ℕ) (es : List Entry) → AreLogged host writer es room → logged es ≤ kept_at now (log_path host writer)
  kept_now number room now there here host writer es a = elim (cases_lt 0 (logged es)) as (λ _. logged es ≤ kept_at now (log_path host writer)) [
    | inr none ↦ omega (arith, none)
    | inl some ↦
        let log = log_there l old s number room there host writer es a.has (omega (arith, some)) in
        let front : KeepsFront s.shape.tree number (log_path host writer) (logged es) = record { room = room; bytes = log.0; has_room = there; there = log.1; long = log.2; kept = a.kept } in
        let item : IsItem (Log host writer) = is_log host writer a.has.stands.is_item.widths.0 a.has.stands.is_item.widths.1 in
        let issued : logged es ≤ logged (entries_in (l number writer)) = issued_bytes l old s number room there host writer es a.has in
        let g = step_acts (λ call x. Spares s.shape.tree x number (log_path host writer) (logged es)) old new caller ask reply s.shape.tree (log_acts l old s number host writer (logged es) item issued caller) step s.shape.told in
        let acts : ActsOn (λ x. Spares s.shape.tree x number (log_path host writer) (logged es)) s.shape.tree after.shape.tree =
        subst (ActsOn (λ x. Spares s.shape.tree x number (log_path host writer) (logged es)) s.shape.tree) (one_tree g.0 after.shape.tree new.store.tree g.1 after.shape.told) g.2 in
        elim acts as (λ _. logged es ≤ kept_at now (log_path host writer)) [
          | inl same ↦ omega (arith, a.kept, ap (λ r. kept_at r (log_path host writer)) (some_room now room (slice_get after.shape.tree.rooms number) here (ap (λ (t : Tree). slice_get t.rooms number) same ∙ there)))
          | inr act ↦
              let k = (kept_told act.step s.shape.tree act.told after.shape.tree number (log_path host writer) (logged es) act.holds act.tells front).0 in
              omega (arith, k.kept, ap (λ r. kept_at r (log_path host writer)) (some_room k.room now (slice_get after.shape.tree.rooms number) k.has_room here))
        ]
  ]

  -- and their bytes stay kept.
  pub logged_stays : (number host writer : ℕ) (es : List Entry) → StandsInRoom old number (AreLogged host writer es) → StandsInRoom new number (AreLogged host writer es)
  logged_stays number host writer es owed =
      let was = owed s.shape.tree s.shape.told in
      let now = first_in number was.0 was.1 host writer es was.2.has in
      in_later l old new caller ask reply may step s after number (AreLogged host writer es) (now.0, now.1, record { has = now.2; kept = kept_now number was.0 now.0 was.1 now.1 host writer es was.2 })
