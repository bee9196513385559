-- Making a metadata dropping keeps soundness.
use Rattle.std.proofs.Common.{◌≡◌, ◌≤◌, ◌<◌, ◌^◌, ℕ, suc, List, [], ◌∷◌, length, Some, None, Bool, true, false, nat_eq, refl, sym, ◌∙◌, ◌⊎◌, inl, inr, subst, arith}
use Rattle.std.specs.Prelude.{MatchOption, Ok, Err, nat_lt, not, ◌||◌, if◌then◌else◌}
use Rattle.std.proofs.lemmas.Bool.{cases_eq}
use Rattle.std.proofs.lemmas.Bool.Decides.{nat_tests}
use Rattle.plfs_types.specs.declared.entries.Entry.{Entry}
use Rattle.container_layout.specs.declared.items.Item.{Item}
use Rattle.container_layout.specs.declared.items.Item.TheVariants.{OpenHost, Meta, Index, Log}
use Rattle.container_layout.specs.Items.{IsItem}
use Rattle.container_layout.specs.Paths.{hostdir_of}
use Rattle.store_api.specs.declared.step.Answer.TheVariants.{Made, Old}
use Rattle.store_api.specs.declared.store.Trouble.TheVariants as trouble
use Rattle.store_api.specs.declared.tree.Room.{Room}
use Rattle.store_api.specs.declared.tree.Tree.{Tree}
use Rattle.store_laws.specs.Changes.{Created}
use Rattle.store_laws.specs.Tells.{Tells, made}
use Rattle.store_laws.specs.There.{HoldsFile}
use Rattle.store_laws.proofs.Facts.{create_told}
use Rattle.mount_model.specs.declared.row.Row.{Row}
use Rattle.mount_model.specs.declared.row.Stage.TheVariants as stage
use Rattle.mount_model.specs.declared.reply.Reply.{Reply}
use Rattle.mount_model.specs.declared.reply.Refusal.TheVariants.{NotFlushed}
use Rattle.mount_model.specs.Leaving.{put_meta_check, put_meta_step, put_meta_outcome, closing as closing_row, closed, PutsMeta}
use Rattle.mount_model.specs.Making.{Told, MakesAct, UnlessRefused}
use Rattle.mount_model.specs.Paths.{meta_path}
use Rattle.mount_model.specs.Regular.{IsRegular, IsCounted}
use Rattle.mount_model.specs.State.{State, Table, last_id, put}
use Rattle.mount_model.specs.Table.{with_row, rank, may_close}
use Rattle.mount_model.proofs.Facts.{row_of_all}
use Rattle.mount_sound.specs.Items.{HasItem, HasMeta}
use Rattle.mount_sound.specs.Ledger.{Written, entries_in, content, Ledger}
use Rattle.mount_sound.specs.Dropping.{IsToldOf}
use Rattle.mount_sound.specs.Kept.{Begins, IsAtStage, IsKept}
use Rattle.mount_sound.specs.Sound.{AreSound}
use Rattle.mount_sound.proofs.Soundness.Frames.{Fits, as_long}
use Rattle.mount_sound.proofs.Soundness.Items.{SameButItem, same_but_item, is_index, is_log, is_open, had}
use Rattle.mount_sound.proofs.Soundness.Live.{Own, one_host_kept, log_kept, had_trunc_but}
use Rattle.mount_sound.proofs.Calls.Making.{AreRight, IsAccounted, makes_accounted}
use Rattle.mount_sound.proofs.Writers.Stages.{on_writer, unless_refused, working}
use Rattle.mount_sound.proofs.Writers.Working.{Working, Holds, Turned, turned_put, spares, works_on, turns, its_fit, its_kept, its_stage, its_own}

-- the metadata dropping of the row
abbrev its_meta : Row → Item
its_meta row = Meta row.end row.stored row.last row.host row.id

pub meta_item : (row : Row) → IsCounted row → row.id < 2 ^ 64 → IsItem (its_meta row)
meta_item row c id = record {
  in_range = record {
    last_fits = c.end_fits;
    bytes_fit = c.stored_fits;
    stamp_fits = omega (arith, c.last_fits);
    all_or_none = elim c.written [
      | inl none ↦ inl (none.1, none.0, none.2)
      | inr some ↦ inr (some.1, some.0, some.2)
    ];
  };
  widths = (c.host_fits, id);
}

-- the row once its metadata dropping was asked for
abbrev after_meta : Bool → Row → Row
after_meta has row = record row { has_meta = has; stage = stage.Closing }

-- an open writer that has nothing pending
pub record IsClosing (row : Row) : Type 0 where
  pub far : 4 ≤ rank row.stage
  pub live : rank row.stage < 6
  pub flushed : row.pending.entries ≡ []
  pub log_synced : row.log_mark ≡ row.stored
  pub index_synced : row.index_mark ≡ row.landed

other_last : (l l' c c' t t' h h' w w' : ℕ) → Meta l c t h w ≡ Meta l' c' t' h' w' → (l ≡ l') × (c ≡ c') × (t ≡ t')
other_last l l' c c' t t' h h' w w' e = (cc, cc, cc)

-- a metadata dropping that was made tells of these entries, and so do the others
pub meta_tells : (last bytes stamp host writer : ℕ) (es : List Entry) → IsToldOf last bytes stamp es → (room new : Room) → SameButItem (Meta last bytes stamp host writer) room new
    → ((l c t : ℕ) (inside : List ℕ) → HasItem room (Meta l c t host writer) inside → IsToldOf l c t es) → (l c t : ℕ) (inside : List ℕ) → HasItem new (Meta l c t host writer) inside → IsToldOf l c t es
meta_tells last bytes stamp host writer es k room new b told l c t inside h =
    let before : (Meta l c t host writer ≡ Meta last bytes stamp host writer → ⊥) → IsToldOf l c t es = λ other. told l c t inside (had room new (Meta l c t host writer) inside (λ is. b.others (Meta l c t host writer) is other) h) in
    elim (cases_eq l last) as (λ _. IsToldOf l c t es) [
      | inr d ↦ before (λ e. d (other_last l last c bytes t stamp host host writer writer e).0)
      | inl same ↦ elim (cases_eq c bytes) as (λ _. IsToldOf l c t es) [
        | inr d ↦ before (λ e. d (other_last l last c bytes t stamp host host writer writer e).1)
        | inl as_many ↦ elim (cases_eq t stamp) as (λ _. IsToldOf l c t es) [
          | inr d ↦ before (λ e. d (other_last l last c bytes t stamp host host writer writer e).2)
          | inl latest ↦ record { end = same ∙ k.end; sum = as_many ∙ k.sum; latest = latest ∙ k.latest }
        ]
      ]
    ]

closing_stage : (room : Room) (row : Row) (has : Bool) (es : List Entry) → IsClosing row → IsAtStage room row es → (has ≡ true → HasMeta room row.host row.id) → IsAtStage room (after_meta has row) es
closing_stage room row has es is a there = record {
  opened = a.opened;
  unopened = λ early. absurd (omega arith);
  floored = λ some. a.floored (omega (arith, is.far));
  housed = λ some. a.housed (omega (arith, is.far));
  indexed = λ some. a.indexed (omega (arith, is.far));
  logged = λ some. a.logged is.far;
  closing = λ m. (refl, is.flushed, is.log_synced, is.index_synced);
  has_meta = there;
}

-- the row closes, and the room stays
closing_holds : (room : Room) (row : Row) (has : Bool) (issued : List Written) → IsClosing row → IsKept room row issued → IsAtStage room row (entries_in issued) → Own room row issued → (has ≡ true → HasMeta room row.host row.id) → Holds room (after_meta has row) issued
closing_holds room row has issued is k a o there = record {
  kept = record {
    in_order = k.in_order;
    numbers = record { stored = k.numbers.stored; last = k.numbers.last; end = k.numbers.end; landed = k.numbers.landed; pending = k.numbers.pending; log_mark = k.numbers.log_mark; index_mark = k.numbers.index_mark };
    index = k.index;
    log_long = k.log_long;
    log_kept = k.log_kept;
    index_kept = k.index_kept;
    alive = λ live. closing_stage room row has (entries_in issued) is a there;
  };
  live = refl;
  own = record { one_host = o.one_host; log = o.log; told = o.told };
}

-- the metadata dropping was made
meta_holds : (room new : Room) (row : Row) (has : Bool) (issued : List Written) → Fits row → IsClosing row → IsKept room row issued → IsAtStage room row (entries_in issued) → Own room row issued → SameButItem (its_meta row) room new → HasMeta new row.host row.id → Holds new (after_meta has row) issued
meta_holds room new row has issued fits is k a o b m = record {
  kept = record {
    in_order = k.in_order;
    numbers = record { stored = k.numbers.stored; last = k.numbers.last; end = k.numbers.end; landed = k.numbers.landed; pending = k.numbers.pending; log_mark = k.numbers.log_mark; index_mark = k.numbers.index_mark };
    index = subst (λ f. MatchOption f (row.landed ≡ 0) (Begins (entries_in issued) row.landed)) (sym (b.others (Index row.host row.id) (is_index row.host row.id fits.host fits.id) (λ e. cc))) k.index;
    log_long = as_long room new row.host row.id row.log_mark (b.others (Log row.host row.id) (is_log row.host row.id fits.host fits.id) (λ e. cc)) k.log_long;
    log_kept = omega (arith, k.log_kept, b.kepts (Log row.host row.id) (is_log row.host row.id fits.host fits.id) (λ e. cc));
    index_kept = omega (arith, k.index_kept, b.kepts (Index row.host row.id) (is_index row.host row.id fits.host fits.id) (λ e. cc));
    alive = λ live. record {
      opened = b.others (OpenHost row.host row.id) (is_open row.host row.id fits.host fits.id) (λ e. cc) ∙ a.opened;
      unopened = λ early. absurd (omega arith);
      floored = λ some stamp size inside h. a.floored (omega (arith, is.far)) stamp size inside (had_trunc_but (its_meta row) row.id room new stamp size inside refl b h);
      housed = λ some. b.folders (hostdir_of row.host) (a.housed (omega (arith, is.far)));
      indexed = λ some. let i = a.indexed (omega (arith, is.far)) in (i.0, b.others (Index row.host row.id) (is_index row.host row.id fits.host fits.id) (λ e. cc) ∙ i.1);
      logged = λ some. let l = a.logged is.far in (l.0, b.others (Log row.host row.id) (is_log row.host row.id fits.host fits.id) (λ e. cc) ∙ l.1);
      closing = λ m. (refl, is.flushed, is.log_synced, is.index_synced);
      has_meta = λ e. m;
    };
  };
  live = refl;
  own = record {
    one_host = one_host_kept (its_meta row) row.host row.id room new refl b o.one_host;
    log = log_kept (its_meta row) row.host row.id room new (content issued) fits.host fits.id (λ e. cc) b o.log;
    told = meta_tells row.end row.stored row.last row.host row.id (entries_in issued) (record { end = k.numbers.end; sum = k.numbers.stored; latest = k.numbers.last }) room new b o.told;
  };
}

meta_made : (last : ℕ) (issued : Ledger) (rows rows' : List Row) (tree after : Tree) (row : Row) (has : Bool) → IsClosing row → IsCounted row → Working last issued rows tree row → Turned rows rows' row.id (after_meta has row) → Created tree row.room (meta_path row.end row.stored row.last row.host row.id) after → AreSound last issued rows' after
meta_made last issued rows rows' tree after row has is counted w turned c =
    let fits = its_fit last issued rows tree row w c.room c.has_room in
    let b : SameButItem (its_meta row) c.room c.new = same_but_item (its_meta row) c.room c.new (meta_item row counted fits.id) c.others in
    let m : HasMeta c.new row.host row.id = record { last = row.end; bytes = row.stored; stamp = row.last; content = []; has = record { is_item = meta_item row counted fits.id; there = c.now } } in
    subst (AreSound last issued rows') (sym c.gives)
    (works_on last issued rows rows' tree row (after_meta has row) c.room c.new w c.has_room refl refl refl turned (spares (its_meta row) row.id c.room c.new refl b)
    (meta_holds c.room c.new row has (issued row.room row.id) fits is (its_kept last issued rows tree row w c.room c.has_room) (its_stage last issued rows tree row w c.room c.has_room) (its_own last issued rows tree row w c.room c.has_room) b m))

meta_was : (last : ℕ) (issued : Ledger) (rows : List Row) (tree : Tree) (row : Row) → IsClosing row → IsCounted row → Working last issued rows tree row → HoldsFile tree row.room (meta_path row.end row.stored row.last row.host row.id) → AreSound last issued (with_row (closed row) rows) tree
meta_was last issued rows tree row is counted w h =
    let fits = its_fit last issued rows tree row w h.room h.has_room in
    turns last issued rows (with_row (closed row) rows) tree row (closed row) h.room w h.has_room refl refl refl (turned_put rows (closed row))
    (closing_holds h.room row true (issued row.room row.id) is (its_kept last issued rows tree row w h.room h.has_room) (its_stage last issued rows tree row w h.room h.has_room) (its_own last issued rows tree row w h.room h.has_room)
    (λ e. record { last = row.end; bytes = row.stored; stamp = row.last; content = h.bytes; has = record { is_item = meta_item row counted fits.id; there = h.there } }))

-- the row closes, and the tree stays
closes : (last : ℕ) (issued : Ledger) (rows : List Row) (tree : Tree) (row : Row) → IsClosing row → Working last issued rows tree row → AreSound last issued (with_row (closing_row row) rows) tree
closes last issued rows tree row is w =
    let p = w.sound.placed row.id row w.stands in
    let a : IsAtStage p.0 row (entries_in (issued row.room row.id)) = its_stage last issued rows tree row w p.0 p.1 in
    turns last issued rows (with_row (closing_row row) rows) tree row (closing_row row) p.0 w p.1 refl refl refl (turned_put rows (closing_row row))
    (closing_holds p.0 row row.has_meta (issued row.room row.id) is (its_kept last issued rows tree row w p.0 p.1) a (its_own last issued rows tree row w p.0 p.1) a.has_meta)

-- what the table becomes
meta_cases : (row : Row) (table : Table) (told : Told) → (told ≡ made) ⊎ ((n : ℕ) × (told ≡ Ok (Old n))) ⊎ (told ≡ Err trouble.NoMemory) ⊎ ((put_meta_outcome row table told).table ≡ put (closing_row row) table)
meta_cases row table (Ok Made) = inl refl
meta_cases row table (Ok (Old n)) = inr (inl (n, refl))
meta_cases row table (Err trouble.NoMemory) = inr (inr (inl refl))
meta_cases row table (Err trouble.Fault) = inr (inr (inr refl))
meta_cases row table told = inr (inr (inr refl))

want : (row : Row) (tree : Tree) (told : Told) (after : Tree) → told ≡ Err trouble.NoMemory → Tells (put_meta_step row) tree told after → after ≡ tree
want row tree told after is t = subst (λ x. Tells (put_meta_step row) tree x after) is t

meta_told : (last : ℕ) (issued : Ledger) (table : Table) (tree : Tree) (row : Row) → IsClosing row → IsCounted row → Working last issued table.writers tree row → (told : Told) (after : Tree) → Tells (put_meta_step row) tree told after → AreRight last issued (put_meta_outcome row table told).table after
meta_told last issued table tree row is counted w told after t =
    let c = create_told row.room (meta_path row.end row.stored row.last row.host row.id) tree told after t in
    elim (meta_cases row table told) as (λ _. AreRight last issued (put_meta_outcome row table told).table after) [
      | inl done ↦ subst (λ x. AreRight last issued (put_meta_outcome row table x).table after) (sym done)
          (meta_made last issued table.writers (with_row (closed row) table.writers) tree after row true is counted w (turned_put table.writers (closed row)) (c.done done))
      | inr (inl (n, was)) ↦
          let s = c.stays (Old n) was (λ e. cc) in
          subst (λ x. AreRight last issued (put_meta_outcome row table x).table after) (sym was)
          (subst (AreSound last issued (with_row (closed row) table.writers)) (sym s.0) (meta_was last issued table.writers tree row is counted w s.1.1))
      | inr (inr (inl none)) ↦ subst (λ x. AreRight last issued (put_meta_outcome row table x).table after) (sym none)
          (subst (AreSound last issued table.writers) (sym (want row tree told after none t)) w.sound)
      | inr (inr (inr same)) ↦ subst (λ x. AreRight last issued x after) (sym same) (elim c.either as (λ _. AreSound last issued (with_row (closing_row row) table.writers) after) [
        | inl new ↦ meta_made last issued table.writers (with_row (closing_row row) table.writers) tree after row row.has_meta is counted w (turned_put table.writers (closing_row row)) new
        | inr stays ↦ subst (AreSound last issued (with_row (closing_row row) table.writers)) (sym stays) (closes last issued table.writers tree row is w)
      ])
    ]

-- ---- the checks

pub open_or_closing : (a : ℕ) → (nat_eq a 4 || nat_eq a 5) ≡ true → (4 ≤ a) × (a < 6)
open_or_closing a e = (grind (arith, nat_tests), grind (arith, nat_tests))

positive : (n : ℕ) → nat_lt 0 (suc n) ≡ false → ⊥
positive n e = grind (arith, nat_tests)

no_reason : (a b c : Bool) → (if a || not b || not c then Some NotFlushed else None) ≡ None → (a ≡ false) × (b ≡ true) × (c ≡ true)
no_reason true b c e = absurd (cc)
no_reason false false c e = absurd (cc)
no_reason false true false e = absurd (cc)
no_reason false true true e = (refl, refl, refl)

equal : (x y : ℕ) → nat_eq x y ≡ true → x ≡ y
equal x y e = grind (arith, nat_tests)

nothing : (entries : List Entry) → nat_lt 0 (length entries) ≡ false → entries ≡ []
nothing [] e = refl
nothing (x ∷ entries) e = absurd (positive (length entries) e)

passed : (row : Row) → put_meta_check row ≡ None → (row.pending.entries ≡ []) × (row.log_mark ≡ row.stored) × (row.index_mark ≡ row.landed)
passed row e =
    let is = no_reason (nat_lt 0 (length row.pending.entries)) (nat_eq row.log_mark row.stored) (nat_eq row.index_mark row.landed) e in
    (nothing row.pending.entries is.0, equal row.log_mark row.stored is.1, equal row.index_mark row.landed is.2)

-- Making a metadata dropping keeps soundness.
pub meta_keeps : (issued : Ledger) (old : State) (caller writer : ℕ) (reply : Reply) (new : State) → IsRegular old → PutsMeta caller writer old reply new → IsAccounted issued old → IsAccounted issued new
meta_keeps issued old caller writer reply new r f a =
    on_writer issued old caller may_close writer reply new (λ row. UnlessRefused (put_meta_check row) old reply new (MakesAct (put_meta_step row) (put_meta_outcome row old.table) old reply new)) f a
    (λ row stands at does.
    let far = open_or_closing (rank row.stage) at in
    let w = working issued old writer row r a stands far.1 in
    unless_refused issued (put_meta_check row) old reply new (MakesAct (put_meta_step row) (put_meta_outcome row old.table) old reply new) does a
    (λ none makes.
    let is : IsClosing row = record { far = far.0; live = far.1; flushed = (passed row none).0; log_synced = (passed row none).1; index_synced = (passed row none).2 } in
    makes_accounted (put_meta_step row) (put_meta_outcome row old.table) (λ x. issued) old reply new a.tree a.told
    (meta_told (last_id old) issued old.table a.tree row is (row_of_all IsCounted writer old.table.writers row r.counted stands) w) makes))
