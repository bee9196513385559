-- What a writer leaves that has left: metadata of all that it wrote, and no entry of an open writer. So it stays.
use Rattle.std.proofs.Common.{◌≡◌, ◌⊎◌, inl, inr, ℕ, zero, suc, true, List, [], ◌∷◌, length, take, Option, Some, Ok, Err, refl, ap, sym, ◌∙◌, subst, arith}
use Rattle.std.specs.Prelude.{slice_get}
use Rattle.container_layout.specs.declared.items.Item.{Item}
use Rattle.container_layout.specs.declared.items.Item.TheVariants.{Meta}
use Rattle.container_layout.specs.Paths.{path_of}
use Rattle.store_api.specs.declared.step.Answer.TheVariants.{Made, NoFolder, NoRoom, Old}
use Rattle.store_api.specs.declared.store.Trouble.TheVariants as trouble
use Rattle.store_api.specs.declared.tree.Room.{Room}
use Rattle.store_laws.specs.Changes.{Removed}
use Rattle.store_laws.proofs.Facts.{acts_told, changed_room, remove_told}
use Rattle.mount_model.specs.declared.call.Ask.{Ask}
use Rattle.mount_model.specs.declared.call.Call.TheVariants.{Exit, PutMeta, Write}
use Rattle.mount_model.specs.declared.reply.Refusal.TheVariants.{NotOpen}
use Rattle.mount_model.specs.declared.reply.Refusal.{Refusal}
use Rattle.mount_model.specs.declared.reply.Reply.{Reply}
use Rattle.mount_model.specs.declared.reply.Reply.TheVariants as reply
use Rattle.mount_model.specs.declared.row.Row.{Row}
use Rattle.mount_model.specs.declared.row.Stage.TheVariants as stage
use Rattle.mount_model.specs.History.{Event}
use Rattle.mount_model.specs.Leaving.{closed, exit_check, exit_outcome, exit_step, put_meta_check, put_meta_outcome}
use Rattle.mount_model.specs.Making.{MakesAct, Told}
use Rattle.mount_model.specs.Paths.{open_path}
use Rattle.mount_model.specs.State.{State, Table}
use Rattle.mount_model.specs.Step.{Answers, IsStep}
use Rattle.mount_model.specs.Table.{is_live, may_close, only, row_of, with_row, writer_of}
use Rattle.mount_model.proofs.Facts.{IsHeld, is_held, match_cases, row_of-with_row, row_of_id, step_cases, stop_replies}
use Rattle.mount_sound.specs.Dropping.{IsWriter}
use Rattle.mount_sound.specs.Entries.{greatest_end, last_stamp, logged}
use Rattle.mount_sound.specs.Items.{HasItem, HasMeta}
use Rattle.mount_sound.specs.Kept.{IsAtStage, IsKept}
use Rattle.mount_sound.specs.Ledger.{entries_in}
use Rattle.mount_sound.specs.Owed.{IsLawful, IsNotLive}
use Rattle.mount_sound.specs.There.{landed_entries}
use Rattle.mount_sound.proofs.Facts.{all_fit, paths_differ, writer_told}
use Rattle.reader_laws.specs.Moments.{Dropping, HadItem, IsSoundAt, Moment, file_in_room, file_told, issued_by, landed, landed_by, moment_after, next_moment}
use Rattle.reader_laws.proofs.Gathered.Facts.{grows_after, landed_at, length-entries}
use Rattle.plfs_types.specs.declared.entries.Entry.{Entry}
use Rattle.writer_laws.specs.Counting.{entry_count}
use Rattle.writer_laws.specs.Knowing.{HasRow}
use Rattle.headline_laws.proofs.Contents.Issues.{Issues, call_issues}
use Rattle.headline_laws.proofs.Landed.Between.{AtPlace, IsBetween, between, its_dropping}
use Rattle.headline_laws.proofs.Landed.Leaving.{drawn_next, row_drawn}
use Rattle.headline_laws.proofs.Landed.Settled.{IsOut, only_live, out_later}
use Rattle.headline_laws.proofs.Trees.Away.{IsAway, away_later}

-- ---- what it leaves

abbrev pub meta_of : List Entry → Dropping → Item
meta_of es d = Meta (greatest_end es) (logged es) (last_stamp 0 es) d.host d.writer

-- Its metadata tell of all that it wrote, and its entry is gone.
pub record HasGone (m : Moment) (d : Dropping) : Type 0 where
  pub out : IsOut m d
  pub away : IsAway m d
  pub meta : HadItem m d.room (meta_of (entries_in (issued_by m d)) d)

-- ---- a writer that is out issues nothing

dead_write : (w at : ℕ) (block : List ℕ) (stamp : ℕ) (old new : State) (caller : ℕ) (asked : Ask) (rep : Reply) → IsNotLive old w → asked.call ≡ Write w at block → rep ≡ reply.Wrote stamp → IsStep old caller asked rep new → ⊥
dead_write w at block stamp old new caller asked rep dead is told step = step_cases old caller asked rep new ⊥ step
    (λ none a. whole (subst (λ c. Answers old caller c rep new) is a))
    (λ k some x. stopped (stop_replies old caller k asked.call rep new x))
  where
    whole : Answers old caller (Write w at block) rep new → ⊥
    whole a = elim (match_cases (writer_of caller (only stage.Open) w old.table.writers) _ _ a) as (λ _. ⊥) [
      | inl (none, refused) ↦ let e : reply.Refused NotOpen ≡ reply.Wrote stamp = sym refused.0 ∙ told in absurd (cc)
      | inr (r, found, does) ↦ let h = is_held caller (only stage.Open) w old.table.writers r found in only_live r.stage h.staged (dead r h.found)
    ]

    stopped : (rep ≡ reply.Stopped) ⊎ (rep ≡ reply.NoMemory) → ⊥
    stopped (inl s) = let e : reply.Stopped ≡ reply.Wrote stamp = sym s ∙ told in absurd (cc)
    stopped (inr s) = let e : reply.NoMemory ≡ reply.Wrote stamp = sym s ∙ told in absurd (cc)

out_issues : (m : Moment) (e : Event) (rest : List Event) (d : Dropping) → IsOut m d → IsLawful m.state (e ∷ rest) → issued_by (next_moment m e) d ≡ issued_by m d
out_issues m e rest d out lawful = by (call_issues m.issued m.state e.ask.call e.reply d.room d.writer)
  where
    by : ((next_moment m e).issued d.room d.writer ≡ m.issued d.room d.writer) ⊎ Issues m.state e.ask.call e.reply d.room d.writer → issued_by (next_moment m e) d ≡ issued_by m d
    by (inl same) = same
    by (inr its) = absurd (dead_write d.writer its.at its.block its.stamp m.state e.after e.caller e.ask e.reply out.dead its.asked its.told lawful.1)

pub gone_later : (m : Moment) (events : List Event) (d : Dropping) → HasGone m d → IsLawful m.state events → HasGone (moment_after m events) d
gone_later m [] d g lawful = g
gone_later m (e ∷ events) d g lawful =
    let one : IsLawful m.state (e ∷ []) = (lawful.0, lawful.1, tt) in
    let same : issued_by (next_moment m e) d ≡ issued_by m d = out_issues m e events d g.out lawful in
    let grows = grows_after m (e ∷ []) one g.out.sound in
    gone_later (next_moment m e) events d
    (record {
      out = (out_later m (e ∷ []) d g.out one).0;
      away = away_later m (e ∷ []) d g.out.named g.out.sound one g.away;
      meta = subst (λ ws. HadItem (next_moment m e) d.room (meta_of (entries_in ws) d)) (sym same) (grows.stands d.room (meta_of (entries_in (issued_by m d)) d) tt g.meta);
    }) lawful.2

-- ---- the metadata of a writer that is about to leave

take_whole : (n : ℕ) (xs : List Entry) → length (take n xs) ≡ length xs → take n xs ≡ xs
take_whole zero [] same = refl
take_whole (suc n) [] same = refl
take_whole zero (x ∷ xs) same = absurd (omega (arith, same))
take_whole (suc n) (x ∷ xs) same = ap (λ z. x ∷ z) (take_whole n xs (omega (arith, same)))

row_meta : (m : Moment) (s : IsSoundAt m) (row : Row) → row_of row.id m.state.table.writers ≡ Some row → is_live row.stage ≡ true → row.has_meta ≡ true → length (landed_by m (its_dropping row)) ≡ length (issued_by m (its_dropping row)) → HadItem m row.room (meta_of (entries_in (issued_by m (its_dropping row))) (its_dropping row))
row_meta m s row held live has all =
    let p = s.sound.placed row.id row held in
    let rooms = s.sound.rooms row.room p.0 p.1 in
    let k : IsKept p.0 row (m.issued row.room row.id) = rooms.kept row.id row held refl in
    let fits = all_fit m.state s.regular row.id row held in
    let at : IsAtStage p.0 row (entries_in (m.issued row.room row.id)) = k.alive live in
    let meta : HasMeta p.0 row.host row.id = at.has_meta has in
    let w : IsWriter p.0 row.id (m.issued row.room row.id) = rooms.writers row.id fits.id in
    let host : row.host ≡ w.host = w.one_host row.host (inr (inr meta)) in
    let es : List Entry = entries_in (m.issued row.room row.id) in
    let landed_is : landed_by m (its_dropping row) ≡ take w.landed es =
    landed_at m s (its_dropping row) p.0 p.1 ∙ ap (λ h. landed_entries p.0 h row.id) host ∙ writer_told p.0 row.id (m.issued row.room row.id) w fits.id (s.sound.writes row.room row.id) in
    let long : length (take w.landed es) ≡ length es = ap length (sym landed_is) ∙ all ∙ sym (length-entries (m.issued row.room row.id)) in
    let whole : take w.landed es ≡ es = take_whole w.landed es long in
    let tells = w.told meta.last meta.bytes meta.stamp meta.content (subst (λ h. HasItem p.0 (Meta meta.last meta.bytes meta.stamp h row.id) meta.content) host meta.has) in
    let ends : meta.last ≡ greatest_end es = tells.end ∙ ap greatest_end whole in
    let sums : meta.bytes ≡ logged es = tells.sum ∙ ap logged whole in
    let stamps : meta.stamp ≡ last_stamp 0 es = tells.latest ∙ ap (last_stamp 0) whole in
    let named : Item = Meta meta.last meta.bytes meta.stamp row.host row.id in
    let had : HadItem m row.room named = record {
      is_item = meta.has.is_item;
      bytes = meta.content;
      there = ap (λ t. file_told t row.room (path_of named)) s.shape.told ∙ ap (λ r. file_in_room r (path_of named)) p.1 ∙ meta.has.there;
    } in
    subst (λ it. HadItem m row.room it) (λ i. Meta (ends i) (sums i) (stamps i) row.host row.id) had

module _ (me : ℕ) (d : Dropping) where
  has_meta_so : (m : Moment) (row : Row) → AtPlace m me d row → is_live row.stage ≡ true → row.has_meta ≡ true → row.landed ≡ entry_count row → HadItem m d.room (meta_of (entries_in (issued_by m d)) d)
  has_meta_so m row at live has counted =
      let id : row.id ≡ d.writer = row_of_id d.writer m.state.table.writers row at.has.there in
      let held : row_of row.id m.state.table.writers ≡ Some row = subst (λ w. row_of w m.state.table.writers ≡ Some row) (sym id) at.has.there in
      let same : its_dropping row ≡ d = λ i. record { room = at.room i; host = at.host i; writer = id i } in
      let b : IsBetween m d row = between m me d row at in
      let all : landed m d ≡ length (issued_by m d) = omega (arith, counted, b.issued, b.no_fewer, b.no_more) in
      subst (λ (x : Dropping). HadItem m x.room (meta_of (entries_in (issued_by m x)) x)) same (row_meta m at.sound row held live has (subst (λ (x : Dropping). landed m x ≡ length (issued_by m x)) (sym same) all))

  -- ---- it leaves

  never_done : (why : Refusal) (rep : Reply) → rep ≡ reply.Refused why → rep ≡ reply.Done → ⊥
  never_done why rep refused done = cc

  only_made : (row : Row) (table : Table) (told : Told) → reply.Done ≡ (exit_outcome row table told).reply → told ≡ Ok Made
  only_made row table (Ok Made) e = refl
  only_made row table (Ok NoRoom) e = absurd (cc)
  only_made row table (Ok NoFolder) e = absurd (cc)
  only_made row table (Ok answer) e = absurd (cc)
  only_made row table (Err trouble.Fault) e = absurd (cc)
  only_made row table (Err trouble.NoMemory) e = absurd (cc)

  same_row : (a b : Row) (o : Option Row) → o ≡ Some a → o ≡ Some b → a ≡ b
  same_row a b o p q = cc

  -- its row, as it is then, and that its entry was removed
  record WasLive (m : Moment) (e : Event) (row : Row) : Type 0 where
    pub live : is_live row.stage ≡ true
    pub away : IsAway (next_moment m e) d

  exited : (m : Moment) (e : Event) (rest : List Event) (row : Row) → AtPlace m me d row → IsLawful m.state (e ∷ rest) → Answers m.state me (Exit d.writer) e.reply e.after → e.reply ≡ reply.Done → WasLive m e row
  exited m e rest row at lawful answers done = elim (match_cases (writer_of me is_live d.writer m.state.table.writers) _ _ answers) as (λ _. WasLive m e row) [
    | inl (none, refused) ↦ absurd (never_done NotOpen e.reply refused.0 done)
    | inr (r, found, u) ↦ elim (match_cases (exit_check r) _ _ u) as (λ _. WasLive m e row) [
      | inr (why, is, refused) ↦ absurd (never_done why e.reply refused.0 done)
      | inl (fine, makes) ↦ left r (is_held me is_live d.writer m.state.table.writers r found) makes
    ]
  ]
    where
      left : (r : Row) → IsHeld me is_live d.writer m.state.table.writers r → MakesAct (exit_step r) (exit_outcome r m.state.table) m.state e.reply e.after → WasLive m e row
      left r h makes =
          let one : r ≡ row = same_row r row (row_of d.writer m.state.table.writers) h.found at.has.there in
          let t = acts_told (exit_step r) m.state.store e.after.store at.sound.shape.tree makes.told at.sound.shape.told makes.made in
          let c : Removed at.sound.shape.tree r.room (open_path r.host r.id) t.0 = (remove_told r.room (open_path r.host r.id) at.sound.shape.tree makes.told t.0 t.2).done (only_made r m.state.table makes.told (sym done ∙ makes.answered)) in
          let id : r.id ≡ d.writer = row_of_id d.writer m.state.table.writers r h.found in
          let room : r.room ≡ d.room = ap (λ (x : Row). x.room) one ∙ at.room in
          let host : r.host ≡ d.host = ap (λ (x : Row). x.host) one ∙ at.host in
          let now : slice_get t.0.rooms r.room ≡ Some c.new = ap (λ tree. slice_get tree.rooms r.room) c.gives ∙ changed_room at.sound.shape.tree r.room c.room c.new c.has_room in
          record {
            live = subst (λ (x : Row). is_live x.stage ≡ true) one h.staged;
            away = record {
              tree = t.0;
              told = t.1;
              away = record {
                room = c.new;
                there = ap (slice_get t.0.rooms) (sym room) ∙ now;
                none = (λ i. open_at c.new (sym host i) (sym id i)) ∙ c.gone (paths_differ m.issued m.state at.sound me r.room c.room c.has_room);
              };
              drawn = omega (arith, row_drawn d.writer row m.state at.sound.regular at.has.there, drawn_next m e rest lawful);
            };
          }
        where
          open_at : Room → ℕ → ℕ → Option (List ℕ)
          open_at room host id = file_in_room (Some room) (open_path host id)

  -- it has left
  pub leaves : (m : Moment) (e : Event) (rest : List Event) (row : Row) → AtPlace m me d row → IsLawful m.state (e ∷ rest) → e.ask.call ≡ Exit d.writer → Answers m.state me (Exit d.writer) e.reply e.after → e.reply ≡ reply.Done → row.has_meta ≡ true → row.landed ≡ entry_count row
      → IsOut (next_moment m e) d → HasGone (next_moment m e) d
  leaves m e rest row at lawful asked answers done has counted out =
      let x = exited m e rest row at lawful answers done in
      let meta = has_meta_so m row at x.live has counted in
      let same : issued_by (next_moment m e) d ≡ issued_by m d = by (call_issues m.issued m.state e.ask.call e.reply d.room d.writer) in
      let grows = grows_after m (e ∷ []) (lawful.0, lawful.1, tt) at.sound in
      record {
        out = out;
        away = x.away;
        meta = subst (λ ws. HadItem (next_moment m e) d.room (meta_of (entries_in ws) d)) (sym same) (grows.stands d.room (meta_of (entries_in (issued_by m d)) d) tt meta);
      }
    where
      by : ((next_moment m e).issued d.room d.writer ≡ m.issued d.room d.writer) ⊎ Issues m.state e.ask.call e.reply d.room d.writer → issued_by (next_moment m e) d ≡ issued_by m d
      by (inl is) = is
      by (inr its) = absurd (let clash : Exit d.writer ≡ Write d.writer its.at its.block = sym asked ∙ its.asked in cc)

-- ---- the metadata were made

-- the writer's row is such a one, as each is whose metadata dropping was made
put_told : (P : Row → Type 0) → ((r : Row) → P (closed r)) → (w : ℕ) (r : Row) (old new : State) (told : Told) → row_of w old.table.writers ≡ Some r → r.id ≡ w → new.table ≡ (put_meta_outcome r old.table told).table → reply.Done ≡ (put_meta_outcome r old.table told).reply → (x : Row) → row_of w new.table.writers ≡ Some x → P x
put_told P each w r old new told held id t done x found = by told t done
  where
    as_closed : new.table.writers ≡ with_row (closed r) old.table.writers → P x
    as_closed rows =
        let at : row_of r.id old.table.writers ≡ Some r = subst (λ n. row_of n old.table.writers ≡ Some r) (sym id) held in
        let put : row_of w new.table.writers ≡ Some (closed r) = ap (row_of w) rows ∙ subst (λ n. row_of n (with_row (closed r) old.table.writers) ≡ Some (closed r)) id (row_of-with_row (closed r) old.table.writers r at) in
        one (closed r) (row_of w new.table.writers) put found (each r)
      where
        one : (y : Row) (o : Option Row) → o ≡ Some y → o ≡ Some x → P y → P x
        one y o p q has = let same : y ≡ x = cc in subst P same has

    by : (it : Told) → new.table ≡ (put_meta_outcome r old.table it).table → reply.Done ≡ (put_meta_outcome r old.table it).reply → P x
    by (Ok Made) table says = as_closed (ap (λ (b : Table). b.writers) table)
    by (Ok (Old room)) table says = as_closed (ap (λ (b : Table). b.writers) table)
    by (Ok NoRoom) table says = absurd (cc)
    by (Ok NoFolder) table says = absurd (cc)
    by (Ok answer) table says = absurd (cc)
    by (Err trouble.Fault) table says = absurd (cc)
    by (Err trouble.NoMemory) table says = absurd (cc)

pub meta_put : (P : Row → Type 0) → ((r : Row) → P (closed r)) → (me w : ℕ) (old new : State) (rep : Reply) → Answers old me (PutMeta w) rep new → rep ≡ reply.Done → (x : Row) → HasRow me w x new → P x
meta_put P each me w old new rep answers done x has = elim (match_cases (writer_of me may_close w old.table.writers) _ _ answers) as (λ _. P x) [
  | inl (none, refused) ↦ absurd (let clash : reply.Refused NotOpen ≡ reply.Done = sym refused.0 ∙ done in cc)
  | inr (r, found, u) ↦ elim (match_cases (put_meta_check r) _ _ u) as (λ _. P x) [
    | inr (why, is, refused) ↦ absurd (let clash : reply.Refused why ≡ reply.Done = sym refused.0 ∙ done in cc)
    | inl (fine, makes) ↦
        let h : IsHeld me may_close w old.table.writers r = is_held me may_close w old.table.writers r found in
        put_told P each w r old new makes.told h.found h.is (ap (λ (s : State). s.table) makes.after) (sym done ∙ makes.answered) x has.there
  ]
]

pub meta_made : (me w : ℕ) (old new : State) (rep : Reply) → Answers old me (PutMeta w) rep new → rep ≡ reply.Done → (x : Row) → HasRow me w x new → x.has_meta ≡ true
meta_made = meta_put (λ x. x.has_meta ≡ true) (λ r. refl)
