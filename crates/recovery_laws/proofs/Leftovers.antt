-- What a recovery knows of what a writer left that isn't live, and that it stays so.
use Rattle.std.proofs.Common.{◌≡◌, ◌≤◌, ◌*◌, ◌/◌, ℕ, List, [], ◌∷◌, length, take, false, Some, ap, sym, ◌∙◌, ◌⊎◌, inl, inr, subst, arith}
use Rattle.std.specs.Prelude.{slice_get}
use Rattle.std.specs.List.{AllByRecursion}
use Rattle.std.proofs.lemmas.List.{take_all}
use Rattle.plfs_types.specs.declared.entries.Entry.{Entry}
use Rattle.container_layout.specs.declared.items.Item.TheVariants.{Index, OpenHost}
use Rattle.index_entry.specs.Within.{within_log}
use Rattle.store_api.specs.declared.tree.Room.{Room}
use Rattle.store_api.specs.declared.tree.Tree.{Tree}
use Rattle.mount_model.specs.declared.names.OpenEntry.{OpenEntry}
use Rattle.mount_model.specs.declared.call.Ask.{Ask}
use Rattle.mount_model.specs.declared.reply.Reply.{Reply}
use Rattle.mount_model.specs.Recovering.{IsHostAndWriter}
use Rattle.mount_model.specs.State.{State, last_id}
use Rattle.mount_model.specs.Step.{IsStep}
use Rattle.mount_model.proofs.Facts.{step_place}
use Rattle.mount_sound.specs.Dropping.{bytes_of, log_bytes}
use Rattle.mount_sound.specs.Issued.{issued_after}
use Rattle.mount_sound.specs.Items.{HasItem}
use Rattle.mount_sound.specs.Ledger.{Ledger}
use Rattle.mount_sound.specs.Owed.{InRoom, IsNotLive, May, MayBury, MayMendMeta, StandsInRoom}
use Rattle.mount_sound.specs.Sound.{IsSoundFor}
use Rattle.mount_sound.specs.There.{landed_entries, landed_in}
use Rattle.mount_sound.proofs.Facts.{IsBare, bury_lasts, gone_anywhere, gone_later, hostdir_below, in_later, index_now, its_writers, landed_now, later, mend_meta_lasts, no_item, not_live_later, one_tree, room_was, take_less}
use Rattle.torn_tail.specs.Words.{Run}
use Rattle.recovery_laws.specs.Counting.{TellsOf}
use Rattle.recovery_laws.proofs.Cleanly.{Stays}
use Rattle.recovery_laws.proofs.FirstEntries.{AreLogged, logged_stays}
use Rattle.recovery_laws.proofs.OneHost.{IsOfHost, of_host_stays}

-- ---- an entry among the open writers that was listed

-- its writer was drawn, and what the room has of it is of its host
abbrev pub IsEntered : ℕ → OpenEntry → State → Type 0
IsEntered number e state = IsHostAndWriter e.host e.writer × (e.writer ≤ last_id state) × InRoom state number (IsOfHost e.host e.writer)

abbrev pub AreEntered : ℕ → List OpenEntry → State → Type 0
AreEntered number entries state = AllByRecursion (λ (e : OpenEntry). IsEntered number e state) entries

pub drawn_later : (old new : State) (other : ℕ) (ask : Ask) (reply : Reply) (writer : ℕ) → IsStep old other ask reply new → writer ≤ last_id old → writer ≤ last_id new
drawn_later old new other ask reply writer step drawn = omega (arith, drawn, (step_place old new other ask reply step).serial, (step_place old new other ask reply step).mount)

pub entered_stays : (number : ℕ) (e : OpenEntry) → Stays (IsEntered number e)
entered_stays number e l old new other ask reply may step s f =
    let s' : IsSoundFor (issued_after l old ask.call reply) new = later l old new other ask reply may step s in (
      f.0,
      drawn_later old new other ask reply e.writer step f.1,
      λ tree now told here.
          let at : slice_get s'.shape.tree.rooms number ≡ Some now = ap (λ (t : Tree). slice_get t.rooms number) (one_tree s'.shape.tree tree new.store.tree s'.shape.told told) ∙ here in
          elim (room_was l old new other ask reply may step s s' number now at) as (λ _. IsOfHost e.host e.writer now) [
            | inl (room, there) ↦ of_host_stays l old new other ask reply (may.owes s.clean) step (its_writers l old s) number e.host e.writer f.1 room there (f.2 s.shape.tree room s.shape.told there) tree told now here
            | inr bare ↦ (λ host content has. absurd (bare_has now bare host e.writer content has))
          ],
    )
  where
    bare_has : (now : Room) → IsBare now → (host writer : ℕ) (content : List ℕ) → HasItem now (Index host writer) content ⊎ HasItem now (OpenHost host writer) content → ⊥
    bare_has now bare host writer content (inl h) = no_item now (Index host writer) content bare (hostdir_below host) h
    bare_has now bare host writer content (inr h) = no_item now (OpenHost host writer) content bare (λ i. false) h

pub all_entered_stay : (number : ℕ) (entries : List OpenEntry) → Stays (AreEntered number entries)
all_entered_stay number [] l old new other ask reply may step s f = tt
all_entered_stay number (e ∷ entries) l old new other ask reply may step s f = (entered_stays number e l old new other ask reply may step s f.0, all_entered_stay number entries l old new other ask reply may step s f.1)

-- ---- a writer that isn't live

abbrev pub IsGone : OpenEntry → State → Type 0
IsGone e state = IsNotLive state e.writer × (e.writer ≤ last_id state)

pub gone_stays : (e : OpenEntry) → Stays (IsGone e)
gone_stays e l old new other ask reply may step s f = (not_live_later l old new other ask reply may step s e.writer f.1 f.0, drawn_later old new other ask reply e.writer step f.1)

-- it may be buried
abbrev pub IsBuriable : ℕ → OpenEntry → State → Type 0
IsBuriable number e state = IsNotLive state e.writer × (e.writer ≤ last_id state) × InRoom state number (MayBury e.host e.writer)

pub buriable_stays : (number : ℕ) (e : OpenEntry) → Stays (IsBuriable number e)
buriable_stays number e l old new other ask reply may step s f = bury_lasts l old new other ask reply may step s (later l old new other ask reply may step s) number e.host e.writer f.0 f.1 f.2

-- its metadata dropping may be made
abbrev pub IsTellable : ℕ → OpenEntry → Run → State → Type 0
IsTellable number e run state = IsNotLive state run.cover.writer × StandsInRoom state number (MayMendMeta e.host run.cover run.last)

pub tellable_stays : (number : ℕ) (e : OpenEntry) (run : Run) → Stays (IsTellable number e run)
tellable_stays number e run l old new other ask reply may step s f = mend_meta_lasts l old new other ask reply may step s (later l old new other ask reply may step s) number e.host run.cover run.last f.0 f.1

-- ---- its droppings, as they were measured

-- Its index dropping had these bytes, and has them or the entries of them that count; those have landed, and the log is
-- so long.
pub record IsMeasured (host writer log told : ℕ) (all : List ℕ) (room : Room) : Type 0 where
  pub now : List ℕ
  pub stands : HasItem room (Index host writer) now
  pub cut : (now ≡ all) ⊎ (now ≡ take (40 * length (within_log log (told / 40) all)) all)
  pub landed : landed_entries room host writer ≡ within_log log (told / 40) all
  pub logs : length (log_bytes room host writer) ≡ log

-- its index dropping is exactly the entries that have landed, of which the run tells
pub record IsExact (host writer : ℕ) (run : Run) (room : Room) : Type 0 where
  pub content : List ℕ
  pub stands : HasItem room (Index host writer) content
  pub exact : length content ≡ 40 * run.cover.count
  pub tells : TellsOf writer run (landed_entries room host writer)

module _ (l : Ledger) (old new : State) (other : ℕ) (ask : Ask) (reply : Reply) (may : May old other ask) (step : IsStep old other ask reply new) (s : IsSoundFor l old) (number host writer : ℕ) (dead : IsNotLive old writer) where
  s' : IsSoundFor (issued_after l old ask.call reply) new
  s' = later l old new other ask reply may step s

  measured_in : (log told : ℕ) (all : List ℕ) → StandsInRoom old number (IsMeasured host writer log told all) → StandsInRoom new number (IsMeasured host writer log told all)
  measured_in log told all owed =
      let was = owed s.shape.tree s.shape.told in
      let m : IsMeasured host writer log told all was.0 = was.2 in
      let s' = later l old new other ask reply may step s in
      let g = gone_later l old new other ask reply may step s s' number host writer m.stands.is_item (gone_anywhere number writer old.table.writers dead) was.0 was.1 in
      let i = index_now l old new other ask reply may step s s' number host writer was.0 g.0 was.1 g.1 g.2 m.now m.stands in
      let landed : landed_entries g.0 host writer ≡ within_log log (told / 40) all = landed_now l old new other ask reply may step s s' number host writer was.0 g.0 was.1 g.1 g.2 m.now m.stands ∙ m.landed in
      let n : ℕ = 40 * length (within_log log (told / 40) all) in
      let cuts : 40 * landed_in was.0 host writer ≡ 40 * length (within_log log (told / 40) all) = ap (λ es. 40 * length es) m.landed in
      in_later l old new other ask reply may step s s' number (IsMeasured host writer log told all) (
        g.0,
        g.1,
        record {
          now = i.bytes;
          stands = i.stands;
          cut = elim i.are as (λ _. (i.bytes ≡ all) ⊎ (i.bytes ≡ take (40 * length (within_log log (told / 40) all)) all)) [
            | inl same ↦ elim m.cut as (λ _. (i.bytes ≡ all) ⊎ (i.bytes ≡ take (40 * length (within_log log (told / 40) all)) all)) [
              | inl whole ↦ inl (same ∙ whole)
              | inr part ↦ inr (same ∙ part)
            ]
            | inr (is, long) ↦ elim m.cut as (λ _. (i.bytes ≡ all) ⊎ (i.bytes ≡ take (40 * length (within_log log (told / 40) all)) all)) [
              | inl whole ↦ inr (is ∙ ap (λ k. take k m.now) cuts ∙ ap (λ b. take (40 * length (within_log log (told / 40) all)) b) whole)
              | inr part ↦ inr (is ∙ ap (λ k. take k m.now) cuts ∙ ap (λ b. take (40 * length (within_log log (told / 40) all)) b) part
                  ∙ take_less (40 * length (within_log log (told / 40) all)) (40 * length (within_log log (told / 40) all)) all (omega arith))
            ]
          ];
          landed = landed;
          logs = ap (λ f. length (bytes_of f)) g.2.log ∙ m.logs;
        },
      )

  exact_in : (run : Run) → StandsInRoom old number (IsExact host writer run) → StandsInRoom new number (IsExact host writer run)
  exact_in run owed =
      let was = owed s.shape.tree s.shape.told in
      let m : IsExact host writer run was.0 = was.2 in
      let s' = later l old new other ask reply may step s in
      let g = gone_later l old new other ask reply may step s s' number host writer m.stands.is_item (gone_anywhere number writer old.table.writers dead) was.0 was.1 in
      let i = index_now l old new other ask reply may step s s' number host writer was.0 g.0 was.1 g.1 g.2 m.content m.stands in
      let landed : landed_entries g.0 host writer ≡ landed_entries was.0 host writer = landed_now l old new other ask reply may step s s' number host writer was.0 g.0 was.1 g.1 g.2 m.content m.stands in
      let same : i.bytes ≡ m.content = elim i.are as (λ _. i.bytes ≡ m.content) [
        | inl e ↦ e
        | inr (e, long) ↦ e ∙ take_all (40 * landed_in was.0 host writer) m.content (omega (arith, m.exact, m.tells.counts))
      ] in
      in_later l old new other ask reply may step s s' number (IsExact host writer run) (
        g.0,
        g.1,
        record {
          content = m.content;
          stands = subst (HasItem g.0 (Index host writer)) same i.stands;
          exact = m.exact;
          tells = subst (TellsOf writer run) (sym landed) m.tells;
        },
      )

-- So it was measured, and its writer isn't live.
abbrev pub WasMeasured : ℕ → OpenEntry → ℕ → ℕ → List ℕ → State → Type 0
WasMeasured number e log told all state = IsGone e state × StandsInRoom state number (IsMeasured e.host e.writer log told all)

pub measured_stays : (number : ℕ) (e : OpenEntry) (log told : ℕ) (all : List ℕ) → Stays (WasMeasured number e log told all)
measured_stays number e log told all l old new other ask reply may step s f = (
  gone_stays e l old new other ask reply may step s f.0,
  measured_in l old new other ask reply may step s number e.host e.writer f.0.0 log told all f.1,
)

-- so exactly what landed is there
abbrev pub IsLeftExact : ℕ → OpenEntry → Run → State → Type 0
IsLeftExact number e run state = IsGone e state × StandsInRoom state number (IsExact e.host e.writer run)

pub exact_stays : (number : ℕ) (e : OpenEntry) (run : Run) → Stays (IsLeftExact number e run)
exact_stays number e run l old new other ask reply may step s f = (
  gone_stays e l old new other ask reply may step s f.0,
  exact_in l old new other ask reply may step s number e.host e.writer f.0.0 run f.1,
)

-- and no loss of power takes the bytes of its log
abbrev pub IsLeftLogged : ℕ → OpenEntry → Run → State → Type 0
IsLeftLogged number e run state = (es : List Entry) × TellsOf e.writer run es × StandsInRoom state number (AreLogged e.host e.writer es)

pub left_logged_stays : (number : ℕ) (e : OpenEntry) (run : Run) → Stays (IsLeftLogged number e run)
left_logged_stays number e run l old new other ask reply may step s f = (f.0, f.1, logged_stays l old new other ask reply may step s number e.host e.writer f.0 f.2)
