-- What a drain has copied is kept at its source; and no log stands at its target without its index dropping.
use Rattle.std.proofs.Common.{◌≡◌, ℕ, ◌+◌, ◌*◌, ◌≤◌, nat_eq, Bool, true, false, List, [], ◌∷◌, length, take, Option, Some, None, refl, ap, sym, ◌∙◌, inl, inr, subst, arith}
use Rattle.std.specs.Prelude.{slice_get}
use Rattle.plain_file.proofs.Facts.{All-Among}
use Rattle.plfs_types.specs.declared.entries.Entry.{Entry}
use Rattle.plfs_types.specs.declared.names.Path.{Path}
use Rattle.container_layout.specs.declared.items.Item.TheVariants.{Index, Log}
use Rattle.container_layout.specs.Items.{IsItem}
use Rattle.container_layout.proofs.Facts.{same_items}
use Rattle.index_entry.specs.Spelling.{spelling_all}
use Rattle.store_api.specs.declared.tree.Room.{Room}
use Rattle.store_api.specs.declared.tree.Tree.{Tree}
use Rattle.store_api.specs.Acts.{Stored}
use Rattle.store_api.specs.Room.{has_folder}
use Rattle.store_api.specs.Step.{Name, Step, write_at}
use Rattle.store_laws.specs.Files.{file_at}
use Rattle.store_laws.specs.Tells.{Tells}
use Rattle.store_laws.proofs.Facts.{prefix_length}
use Rattle.mount_model.specs.History.{Event}
use Rattle.mount_model.specs.Paths.{index_path, log_path}
use Rattle.container_layout.specs.Paths.{openhosts}
use Rattle.mount_sound.specs.Dropping.{bytes_of, log_bytes}
use Rattle.mount_sound.specs.Entries.{logged}
use Rattle.mount_sound.specs.Keeping.{kept_in}
use Rattle.mount_sound.specs.Ledger.{Written, content, entries_in}
use Rattle.mount_sound.specs.Owed.{IsLawful}
use Rattle.mount_sound.proofs.Facts.{AreKept, AreKeptIn, IsBare, are_kept, hostdir_below, its_writers, kept_no_less, one_tree, step_keeps_kept}
use Rattle.reader_laws.specs.Moments.{Dropping, Grows, IsSoundAt, Moment, index_then, landed, moment_after, next_moment}
use Rattle.reader_laws.proofs.Gathered.Facts.{entries_stay, grows_after, grows_refl, grows_trans, in_a_room, in_tree, landed_whole, sound_after}
use Rattle.drain_copy.specs.declared.outcome.Drained.{Drained}
use Rattle.drain_copy.specs.declared.plan.Due.{Due}
use Rattle.mount_model.specs.Making.{Told}
use Rattle.drain_copy.specs.Copying.{index_of, log_of}
use Rattle.drain_copy.specs.Telling.{DrainsOn}
use Rattle.drain_sound.specs.Draining.{Happening, at_source, at_target, source_after, target_after}
use Rattle.drain_sound.specs.Fronts.{IsTarget, dropping_in, index_there, log_there}
use Rattle.drain_sound.specs.Kept.{IsKeptThere}
use Rattle.drain_sound.specs.Steps.{IsNamedRoom}
use Rattle.drain_laws.specs.Driving.{AreMade}
use Rattle.drain_laws.proofs.Planning.Aims.{HasNews, IsKeptDue, IsRight, IsSince, NoBareLog, WritesNews}
use Rattle.drain_laws.proofs.Planning.Dues.{logged_first}
use Rattle.drain_laws.proofs.Copying.Touch.{Goes, bare, room_goes, was, write_end}
use Rattle.drain_laws.proofs.Copying.Mild.{WritesFile, some_room}
use Rattle.drain_laws.proofs.Driving.Traced.{Trace, since_next}

-- ---- paths

abbrev starts_so : List ℕ → Bool
starts_so [] = false
starts_so (letter ∷ name) = nat_eq letter 105

no_log : (h w host writer : ℕ) → index_path h w ≡ log_path host writer → ⊥
no_log h w host writer e = let clash : true ≡ false = ap (λ (p : Path). starts_so p.file) e in cc

log_item : (host writer : ℕ) → IsItem (Index host writer) → IsItem (Log host writer)
log_item host writer is = record { in_range = tt; widths = is.widths }

one_log : (h w host writer : ℕ) → IsItem (Index h w) → IsItem (Index host writer) → log_path h w ≡ log_path host writer → (h ≡ host) × (w ≡ writer)
one_log h w host writer a b e = let same : Log h w ≡ Log host writer = same_items (Log h w) (Log host writer) (log_item h w a) (log_item host writer b) e in (cc, cc)

one_index : (h w host writer : ℕ) → IsItem (Index h w) → IsItem (Index host writer) → index_path h w ≡ index_path host writer → (h ≡ host) × (w ≡ writer)
one_index h w host writer a b e = let same : Index h w ≡ Index host writer = same_items (Index h w) (Index host writer) a b e in (cc, cc)

path_is : (path : Path) (folder file : Name) (of : Path) → (path.folder ≡ folder) × (path.file ≡ file) → folder ≡ of.folder → file ≡ of.file → path ≡ of
path_is path folder file of e f g = λ i. record { folder = (e.0 ∙ f) i; file = (e.1 ∙ g) i }

none_spelled : (es : List Entry) → length (spelling_all (take 0 es)) ≡ 0
none_spelled [] = refl
none_spelled (e ∷ es) = refl

none_written : (ws : List Written) → length (content (take 0 ws)) ≡ 0
none_written [] = refl
none_written (w ∷ ws) = refl

no_item : (xs : List ℕ) → length xs ≤ 0 → xs ≡ []
no_item [] l = refl
no_item (x ∷ xs) l = absurd (omega (arith, l))

-- ---- what the source keeps of it

-- the target's files reach no further than what the source keeps of them
abbrev pub IsKeptAt : ℕ → Name → Moment → Tree → Type 0
IsKeptAt number name m t = (left : Tree) (there : Room) (n : ℕ) (room : Room) → m.state.store.tree ≡ Some left → slice_get left.rooms number ≡ Some there → IsNamedRoom t n name room → IsKeptThere m number there room

-- the container has the folder of those that have it open
abbrev pub Opens : Name → Tree → Type 0
Opens name t = (n : ℕ) (room : Room) → IsNamedRoom t n name room → has_folder room openhosts ≡ true

-- so it is of one writer
abbrev IsKeptOf : Moment → ℕ → Room → Room → ℕ → ℕ → Type 0
IsKeptOf m number there room host writer = (length (bytes_of (file_at room (index_path host writer))) ≤ 40 * kept_in there host writer) × (length (log_bytes room host writer) ≤ logged (take (kept_in there host writer) (entries_in (m.issued number writer))))

module _ (number : ℕ) (name : Name) (g : Moment) (s_g : IsSoundAt g) where
  -- so many bytes of a log are among those of what is kept
  kept_moves : (m n : Moment) (host writer few many : ℕ) → Grows m n → few ≤ many → few ≤ length (m.issued number writer) → logged (take few (entries_in (m.issued number writer))) ≤ logged (take many (entries_in (n.issued number writer)))
  kept_moves m n host writer few many grows l within =
      omega (arith, ap logged (entries_stay m n (dropping_in number host writer) few grows within), logged_first few many (entries_in (n.issued number writer)) l)

  -- so many entries are kept in the room, where they are kept in the tree
  kept_room : (m : Moment) (s : IsSoundAt m) (left : Tree) (there : Room) (host writer count : ℕ) → m.state.store.tree ≡ Some left → slice_get left.rooms number ≡ Some there → AreKeptIn left number host writer (m.issued number writer) count → count ≤ kept_in there host writer
  kept_room m s left there host writer count told has_there k =
      let same : left ≡ s.shape.tree = one_tree left s.shape.tree m.state.store.tree told s.shape.told in
      let k_there : AreKeptIn s.shape.tree number host writer (m.issued number writer) count = subst (λ x. AreKeptIn x number host writer (m.issued number writer) count) same k in
      let room_is : k_there.room ≡ there = some_room k_there.room there (slice_get s.shape.tree.rooms number) k_there.there (subst (λ (x : Tree). slice_get x.rooms number ≡ Some there) same has_there) in
      omega (arith, kept_no_less m.issued m.state (its_writers m.issued m.state s) number host writer count k_there, ap (λ x. kept_in x host writer) room_is)

  -- a call at the source
  module _ (m : Moment) (s : IsSoundAt m) (grows : Grows g m) (t : Tree) (target : IsTarget g number name t) (e : Event) (l : IsLawful m.state (e ∷ [])) (kept : IsKeptAt number name m t) where
    new : Moment
    new = next_moment m e

    new_sound : IsSoundAt new
    unfolding new
    new_sound = sound_after m (e ∷ []) l s

    kept_by : (left : Tree) (there : Room) (n : ℕ) (room : Room) → new.state.store.tree ≡ Some left → slice_get left.rooms number ≡ Some there → IsNamedRoom t n name room → (host writer : ℕ) → IsItem (Index host writer) → (found : Option (List ℕ)) → index_then m (dropping_in number host writer) ≡ found → IsKeptOf new number there room host writer
    unfolding new
    kept_by left there n room told_left has_there at host writer is None none =
        let d : Dropping = dropping_in number host writer in
        let f = (target.drained n room at.there at.named).fronts host writer is in
        let zero_is : landed g d ≡ 0 = omega (arith, landed_whole m s d is, ap (λ o. length (bytes_of o)) none, grows.landed d is) in
        let no_index : length (index_there g d) ≡ 0 = ap (λ k. length (spelling_all (take k (entries_in (g.issued number writer))))) zero_is ∙ none_spelled (entries_in (g.issued number writer)) in
        let no_bytes : length (log_there g d) ≡ 0 = ap (λ k. length (content (take k (g.issued number writer)))) zero_is ∙ none_written (g.issued number writer) in
        (omega (arith, prefix_length (bytes_of (file_at room (index_path host writer))) (index_there g d) f.index, no_index), omega (arith, prefix_length (log_bytes room host writer) (log_there g d) f.log, no_bytes))
    kept_by left there n room told_left has_there at host writer is (Some bytes) some =
        let next : Moment = next_moment m e in
        let r = in_a_room (slice_get s.shape.tree.rooms number) (index_path host writer) bytes (in_tree m s number (index_path host writer) bytes some) in
        let w = (s.sound.rooms number r.0 r.1).writers writer is.widths.1 in
        let count : ℕ = kept_in r.0 host writer in
        let k : AreKept r.0 host writer (m.issued number writer) count = are_kept r.0 host writer (m.issued number writer) w (s.sound.writes number writer) bytes (record { is_item = is; there = r.2 }) in
        let later : AreKeptIn left number host writer (next.issued number writer) count =
        step_keeps_kept m.issued m.state e.after e.caller e.ask e.reply (l.0.owes s.clean) l.1 (its_writers m.issued m.state s) left told_left number host writer count (record { room = r.0; there = r.1; are_kept = k }) in
        let more : count ≤ kept_in there host writer = kept_room next new_sound left there host writer count told_left has_there later in
        let old = kept s.shape.tree r.0 n room s.shape.told r.1 at in (
          omega (arith, old.index host writer is, more),
          omega (arith, old.log host writer is, kept_moves m next host writer count (kept_in there host writer) (grows_after m (e ∷ []) l s) more k.issued_were),
        )

    kept_call : IsKeptAt number name (next_moment m e) t
    unfolding new
    kept_call left there n room told_left has_there at = record {
      index = λ host writer is. (kept_by left there n room told_left has_there at host writer is (index_then m (dropping_in number host writer)) refl).0;
      log = λ host writer is. (kept_by left there n room told_left has_there at host writer is (index_then m (dropping_in number host writer)) refl).1;
    }

  pub kept_calls : (m : Moment) (s : IsSoundAt m) → Grows g m → (t : Tree) → IsTarget g number name t → (events : List Event) → IsLawful m.state events → IsKeptAt number name m t → IsKeptAt number name (moment_after m events) t
  kept_calls m s grows t target [] l kept = kept
  kept_calls m s grows t target (e ∷ events) l kept =
      let one : IsLawful m.state (e ∷ []) = (l.0, l.1, tt) in
      kept_calls (next_moment m e) (sound_after m (e ∷ []) one s) (grows_trans g m (next_moment m e) grows (grows_after m (e ∷ []) one s)) t target events l.2 (kept_call m s grows t target e one kept)

  -- ---- a step at the target

  module _ (Sure : Type 0) (dues : List Due) where
    abbrev Since : Moment → Type 0
    Since m = IsSince number name g Sure dues m

    abbrev News : Due → Type 0
    News due = HasNews number name g Sure dues due

    due_item : (due : Due) → News due → IsItem (Index due.host due.writer)
    due_item due news = news.0.due_then.stood.is_item

    -- so many entries of it are kept at the source
    news_kept : (m : Moment) → Since m → (left : Tree) (there : Room) → m.state.store.tree ≡ Some left → slice_get left.rooms number ≡ Some there → (due : Due) → News due → due.count + length due.entries ≤ kept_in there due.host due.writer
    news_kept m since left there told has_there due news =
        kept_room m since.sound left there due.host due.writer (due.count + length due.entries) told has_there (All-Among (IsKeptDue number m) dues due since.kept news.0.among news.1 left told)

    -- what is written of an index dropping, and of a log
    index_written : (x : Step) (t : Tree) (n host writer : ℕ) → IsItem (Index host writer) → WritesNews number name g Sure dues x t → WritesFile x n (index_path host writer) → (due : Due) × News due × (due.host ≡ host) × (due.writer ≡ writer) × (write_end x ≤ 40 * (due.count + length due.entries))
    index_written (write_at m folder file at bytes) t n host writer is (due, news, inl w) named =
        absurd (no_log host writer due.host due.writer (path_is (index_path host writer) folder file (log_of due) named.1 w.folder_is w.file_is))
    index_written (write_at m folder file at bytes) t n host writer is (due, news, inr w) named =
        let same = one_index host writer due.host due.writer is (due_item due news) (path_is (index_path host writer) folder file (index_of due) named.1 w.folder_is w.file_is) in
        (due, news, sym same.0, sym same.1, w.within)
    index_written x t n host writer is news named = absurd named

    log_written : (x : Step) (t : Tree) (n host writer : ℕ) → IsItem (Index host writer) → WritesNews number name g Sure dues x t → WritesFile x n (log_path host writer) → (due : Due) × News due × (due.host ≡ host) × (due.writer ≡ writer) × (write_end x ≤ due.bytes) × ((k : ℕ) (room : Room) → IsNamedRoom t k name room → (bytes : List ℕ) × (file_at room (index_of due) ≡ Some bytes))
    log_written (write_at m folder file at bytes) t n host writer is (due, news, inl w) named =
        let same = one_log host writer due.host due.writer is (due_item due news) (path_is (log_path host writer) folder file (log_of due) named.1 w.folder_is w.file_is) in
        (due, news, sym same.0, sym same.1, w.within, w.beside)
    log_written (write_at m folder file at bytes) t n host writer is (due, news, inr w) named =
        absurd (no_log due.host due.writer host writer (sym (path_is (log_path host writer) folder file (index_of due) named.1 w.folder_is w.file_is)))
    log_written x t n host writer is news named = absurd named

    module _ (t after : Tree) (good : IsTarget g number name t) (good_after : IsTarget g number name after) (x : Step) (told : Told) (right : IsRight number name g Sure dues x t) (tells : Tells x t told after) where
      goes_there : (n : ℕ) (room : Room) → IsNamedRoom after n name room → Goes x t n name room
      goes_there n room at = room_goes g number name t after good good_after told x (right.is_step g s_g (grows_refl g)) tells n room at

      bare_index : (room : Room) (host writer : ℕ) → IsBare room → length (bytes_of (file_at room (index_path host writer))) ≡ 0
      bare_index room host writer b = ap (λ o. length (bytes_of o)) (b.none (Index host writer) (hostdir_below host))

      bare_log : (room : Room) (host writer : ℕ) → IsBare room → length (log_bytes room host writer) ≡ 0
      bare_log room host writer b = ap (λ o. length (bytes_of o)) (b.none (Log host writer) (hostdir_below host))

      pub kept_step : (m : Moment) → Since m → IsKeptAt number name m t → IsKeptAt number name m after
      kept_step m since kept left there n room told_left has_there at = by_goes (goes_there n room at)
        where
          by_goes : Goes x t n name room → IsKeptThere m number there room
          by_goes (bare b opened) = record {
            index = λ host writer is. omega (arith, bare_index room host writer b);
            log = λ host writer is. omega (arith, bare_log room host writer b);
          }
          by_goes (was old at_old goes) =
              let before = kept left there n old told_left has_there at_old in
              record {
                index = λ host writer is. goes.ends (index_path host writer) (40 * kept_in there host writer) (before.index host writer is) (λ named.
                    let (due, news, h, w, within) = index_written x t n host writer is right.news named in
                    let enough = news_kept m since left there told_left has_there due news in
                    let its : kept_in there due.host due.writer ≡ kept_in there host writer = λ i. kept_in there (h i) (w i) in
                    omega (arith, within, enough, its));
                log = λ host writer is. goes.ends (log_path host writer) (logged (take (kept_in there host writer) (entries_in (m.issued number writer)))) (before.log host writer is) (λ named.
                    let (due, news, h, w, within, beside) = log_written x t n host writer is right.news named in
                    let enough = news_kept m since left there told_left has_there due news in
                    let d = news.0.due_then in
                    let some : due.count + length due.entries ≤ length (g.issued number due.writer) = omega (arith, d.landed, landed_whole g s_g (dropping_in number due.host due.writer) d.stood.is_item) in
                    let moved = kept_moves g m due.host due.writer (due.count + length due.entries) (kept_in there due.host due.writer) since.grows enough some in
                    let its : logged (take (kept_in there due.host due.writer) (entries_in (m.issued number due.writer))) ≡ logged (take (kept_in there host writer) (entries_in (m.issued number writer))) = λ i. logged (take (kept_in there (h i) (w i)) (entries_in (m.issued number (w i)))) in
                    omega (arith, within, d.bytes, moved, its));
              }

      pub bare_step : NoBareLog name t → NoBareLog name after
      bare_step none_bare n room at host writer is missing = no_item (log_bytes room host writer) (by_goes (goes_there n room at))
        where
          by_goes : Goes x t n name room → length (log_bytes room host writer) ≤ 0
          by_goes (bare b opened) = omega (arith, bare_log room host writer b)
          by_goes (was old at_old goes) = by_file (file_at old (index_path host writer)) refl
            where
              by_file : (found : Option (List ℕ)) → file_at old (index_path host writer) ≡ found → length (log_bytes room host writer) ≤ 0
              by_file (Some bytes) e = absurd (let l = goes.stays (index_path host writer) bytes e in let clash : Some l.0 ≡ None = sym l.1 ∙ missing in cc)
              by_file None e = goes.ends (log_path host writer) 0 (omega (arith, ap length (none_bare n old at_old host writer is e))) (λ named.
                  let (due, news, h, w, within, beside) = log_written x t n host writer is right.news named in
                  let there = beside n old at_old in
                  absurd (let clash : Some there.0 ≡ None = sym there.1 ∙ (λ i. file_at old (index_path (h i) (w i))) ∙ e in cc))

      pub opens_step : Opens name t → Opens name after
      opens_step opens n room at = by_goes (goes_there n room at)
        where
          by_goes : Goes x t n name room → has_folder room openhosts ≡ true
          by_goes (bare b opened) = opened
          by_goes (was old at_old goes) = goes.opens (opens n old at_old)

    -- ---- along what happened

    module _ (Post : Drained → Tree → Type 0) (caller : ℕ) (left_over : DrainsOn) where
      abbrev Traced : Tree → List Happening → Type 0
      Traced t happened = Trace number name g s_g Sure dues Post caller left_over t happened

      pub kept_traced : (m : Moment) (store : Stored) (t : Tree) (happened : List Happening) → Since m → IsTarget g number name t → store.tree ≡ Some t → AreMade m store happened → Traced t happened → IsKeptAt number name m t → (after : Tree) → (target_after store happened).tree ≡ Some after → IsKeptAt number name (source_after m happened) after
      kept_traced m store t [] since good told made trace kept after now = subst (IsKeptAt number name m) (one_tree t after store.tree told now) kept
      kept_traced m store t (at_source e ∷ rest) since good told made trace kept after now =
          kept_traced (next_moment m e) store t rest (since_next number name g s_g Sure dues Post caller left_over m e since made.0) good told made.1 trace.1 (kept_call m since.sound since.grows t good e made.0 kept) after now
      kept_traced m store t (at_target a ∷ rest) since good told made trace kept after now =
          kept_traced m a.after trace.1.0 rest since trace.1.3 trace.1.1 made.1 trace.1.4 (kept_step t trace.1.0 good trace.1.3 a.step a.answer trace.0 trace.1.2 m since kept) after now

      pub bare_traced : (store : Stored) (t : Tree) (happened : List Happening) → IsTarget g number name t → store.tree ≡ Some t → Traced t happened → NoBareLog name t → (after : Tree) → (target_after store happened).tree ≡ Some after → NoBareLog name after
      bare_traced store t [] good told trace none after now = subst (NoBareLog name) (one_tree t after store.tree told now) none
      bare_traced store t (at_source e ∷ rest) good told trace none after now = bare_traced store t rest good told trace.1 none after now
      bare_traced store t (at_target a ∷ rest) good told trace none after now =
          bare_traced a.after trace.1.0 rest trace.1.3 trace.1.1 trace.1.4 (bare_step t trace.1.0 good trace.1.3 a.step a.answer trace.0 trace.1.2 none) after now

      pub opens_traced : (store : Stored) (t : Tree) (happened : List Happening) → IsTarget g number name t → store.tree ≡ Some t → Traced t happened → Opens name t → (after : Tree) → (target_after store happened).tree ≡ Some after → Opens name after
      opens_traced store t [] good told trace opens after now = subst (Opens name) (one_tree t after store.tree told now) opens
      opens_traced store t (at_source e ∷ rest) good told trace opens after now = opens_traced store t rest good told trace.1 opens after now
      opens_traced store t (at_target a ∷ rest) good told trace opens after now =
          opens_traced a.after trace.1.0 rest trace.1.3 trace.1.1 trace.1.4 (opens_step t trace.1.0 good trace.1.3 a.step a.answer trace.0 trace.1.2 opens) after now
