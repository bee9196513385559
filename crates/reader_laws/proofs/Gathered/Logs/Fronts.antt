-- What is read of an index dropping or a log is what its writer issued.
use Rattle.std.proofs.Common.{◌≡◌, ℕ, suc, ◌+◌, ◌-◌, ◌≤◌, List, [], ◌∷◌, ◌++◌, length, min, take, drop, Option, Some, None, refl, ap, sym, ◌∙◌, inl, subst, arith, length-append, append_assoc, length-take-le}
use Rattle.std.specs.Prelude.{slice_get}
use Rattle.std.proofs.lemmas.List.{take-append-le, drop-append-le, map-append, length-drop}
use Rattle.plfs_types.specs.declared.entries.Entry.{Entry}
use Rattle.plfs_types.specs.declared.names.Path.{Path}
use Rattle.container_layout.specs.declared.items.Item.TheVariants.{Index}
use Rattle.store_api.specs.declared.tree.Room.{Room}
use Rattle.store_api.specs.declared.tree.Tree.{Tree}
use Rattle.store_laws.specs.Files.{file_at}
use Rattle.store_laws.specs.Prefix.{IsPrefix}
use Rattle.store_laws.proofs.Facts.{prefix_rest}
use Rattle.mount_model.specs.Paths.{index_path, log_path}
use Rattle.mount_sound.specs.Ledger.{Written, entries_in, content}
use Rattle.mount_sound.specs.Items.{HasItem}
use Rattle.mount_sound.specs.Dropping.{bytes_of, log_bytes, IsWriter}
use Rattle.mount_sound.specs.Landed.{HasLanded, whole}
use Rattle.mount_sound.proofs.Facts.{landed_was_issued, landed_is, take_less, writer_told}
use Rattle.mount_sound.specs.There.{entries_there, landed_entries}
use Rattle.reader_laws.specs.Moments.{Moment, IsSoundAt, file_in_room, file_in_tree, file_told, file_then, Dropping, IsNamed, index_then, log_then, issued_by, landed_by, landed, Grows}
use Rattle.reader_laws.proofs.Gathered.Moments.Growing.{in_a_room}

-- bytes within the front of a list
pub front_slice : (a b : List ℕ) (at len : ℕ) → at + len ≤ length a → take len (drop at (a ++ b)) ≡ take len (drop at a)
front_slice a b at len within =
    let rest : length (drop at a) ≡ length a - at = length-drop at a in
    ap (take len) (drop-append-le at a b (omega arith)) ∙ take-append-le len (drop at a) b (omega (arith, rest))

pub in_tree : (m : Moment) (s : IsSoundAt m) (room : ℕ) (path : Path) (bytes : List ℕ) → file_then m room path ≡ Some bytes → file_in_tree s.shape.tree room path ≡ Some bytes
in_tree m s room path bytes e = ap (λ o. file_told o room path) (sym s.shape.told) ∙ e

-- the room that an index dropping stands in, and what is known of both
pub record Stands (m : Moment) (tree : Tree) (d : Dropping) (bytes : List ℕ) : Type 0 where
  pub room : Room
  pub there : slice_get tree.rooms d.room ≡ Some room
  pub at : file_at room (index_path d.host d.writer) ≡ Some bytes
  pub writer : IsWriter room d.writer (issued_by m d)
  pub host : d.host ≡ writer.host
  pub landed : HasLanded room d.host d.writer (issued_by m d) bytes

pub stands : (m : Moment) (s : IsSoundAt m) (d : Dropping) (bytes : List ℕ) → IsNamed d → index_then m d ≡ Some bytes → Stands m s.shape.tree d bytes
stands m s d bytes named e =
    let r = in_a_room (slice_get s.shape.tree.rooms d.room) (index_path d.host d.writer) bytes (in_tree m s d.room (index_path d.host d.writer) bytes e) in
    let w = (s.sound.rooms d.room r.0 r.1).writers d.writer named.widths.1 in
    let item : HasItem r.0 (Index d.host d.writer) bytes = record { is_item = named; there = r.2 } in
    let host : d.host ≡ w.host = w.one_host d.host (inl (bytes, item)) in
    record {
      room = r.0;
      there = r.1;
      at = r.2;
      writer = w;
      host = host;
      landed = landed_was_issued m.issued m.state s d.room r.0 r.1 d.host d.writer bytes item;
    }

pub length-entries : (writes : List Written) → length (entries_in writes) ≡ length writes
length-entries [] = refl
length-entries (w ∷ writes) = ap suc (length-entries writes)

pub length_taken : (n : ℕ) (es : List Entry) → n ≤ length es → length (take n es) ≡ n
length_taken n es l = length-take-le n es l

pub entries-append : (a b : List Written) → entries_in (a ++ b) ≡ entries_in a ++ entries_in b
entries-append a b = map-append (λ (w : Written). w.entry) a b

pub content-append : (a b : List Written) → content (a ++ b) ≡ content a ++ content b
content-append [] b = refl
content-append (w ∷ a) b = ap (λ c. w.bytes ++ c) (content-append a b) ∙ sym (append_assoc w.bytes (content a) (content b))

-- ---------- what has landed

-- the bytes of a file of a room
file_bytes : (m : Moment) (s : IsSoundAt m) (number : ℕ) (room : Room) → slice_get s.shape.tree.rooms number ≡ Some room → (path : Path) → bytes_of (file_then m number path) ≡ bytes_of (file_at room path)
file_bytes m s number room there path = ap (λ o. bytes_of (file_told o number path)) s.shape.told ∙ ap (λ o. bytes_of (file_in_room o path)) there

-- what has landed of a writer is what its room tells
pub landed_at : (m : Moment) (s : IsSoundAt m) (d : Dropping) (room : Room) → slice_get s.shape.tree.rooms d.room ≡ Some room → landed_by m d ≡ landed_entries room d.host d.writer
landed_at m s d room there =
    ap (λ b. entries_there b (bytes_of (log_then m d))) (file_bytes m s d.room room there (index_path d.host d.writer))
    ∙ ap (λ l. entries_there (bytes_of (file_at room (index_path d.host d.writer))) l) (file_bytes m s d.room room there (log_path d.host d.writer))

pub its_log : (m : Moment) (s : IsSoundAt m) (d : Dropping) (bytes : List ℕ) (st : Stands m s.shape.tree d bytes) → log_bytes st.room d.host d.writer ≡ bytes_of (log_then m d)
its_log m s d bytes st = sym (file_bytes m s d.room st.room st.there (log_path d.host d.writer))

-- the entries that have landed are the first that the writer issued
pub landed_told : (m : Moment) (s : IsSoundAt m) (d : Dropping) (bytes : List ℕ) → IsNamed d → index_then m d ≡ Some bytes → landed_by m d ≡ take (min (whole bytes) (length (issued_by m d))) (entries_in (issued_by m d))
landed_told m s d bytes named e =
    let st = stands m s d bytes named e in
    landed_at m s d st.room st.there
    ∙ ap (λ h. landed_entries st.room h d.writer) st.host
    ∙ writer_told st.room d.writer (issued_by m d) st.writer named.widths.1 (s.sound.writes d.room d.writer)
    ∙ ap (λ n. take n (entries_in (issued_by m d))) (landed_is st.room d.host d.writer (issued_by m d) bytes st.writer (record { is_item = named; there = st.at }))

landed_file : (m : Moment) (s : IsSoundAt m) (d : Dropping) (file : Option (List ℕ)) → IsNamed d → index_then m d ≡ file → landed_by m d ≡ take (min (whole (bytes_of file)) (length (issued_by m d))) (entries_in (issued_by m d))
landed_file m s d None named e = ap (λ o. entries_there (bytes_of o) (bytes_of (log_then m d))) e ∙ none_first (length (issued_by m d)) (entries_in (issued_by m d))
  where
    none_taken : (es : List Entry) → [] ≡ take 0 es
    none_taken [] = refl
    none_taken (e ∷ es) = refl

    none_first : (n : ℕ) (es : List Entry) → [] ≡ take (min (whole []) n) es
    none_first n es = let zero_is : min (whole []) n ≡ 0 = omega arith in none_taken es ∙ ap (λ k. take k es) (sym zero_is)
landed_file m s d (Some bytes) named e = landed_told m s d bytes named e

-- they are its whole entries, as far as the writer issued them
pub landed_whole : (m : Moment) (s : IsSoundAt m) (d : Dropping) → IsNamed d → landed m d ≡ min (whole (bytes_of (index_then m d))) (length (issued_by m d))
landed_whole m s d named =
    let n : ℕ = min (whole (bytes_of (index_then m d))) (length (issued_by m d)) in
    ap length (landed_file m s d (index_then m d) named refl) ∙ length_taken n (entries_in (issued_by m d)) (omega (arith, length-entries (issued_by m d)))

pub landed_is_first : (m : Moment) (s : IsSoundAt m) (d : Dropping) → IsNamed d → landed_by m d ≡ take (landed m d) (entries_in (issued_by m d))
landed_is_first m s d named = landed_file m s d (index_then m d) named refl ∙ ap (λ n. take n (entries_in (issued_by m d))) (sym (landed_whole m s d named))

-- the first that a writer issued stay the first
pub entries_stay : (m end : Moment) (d : Dropping) (n : ℕ) → Grows m end → n ≤ length (issued_by m d) → take n (entries_in (issued_by end d)) ≡ take n (entries_in (issued_by m d))
entries_stay m end d n grows l =
    let more = grows.issued d.room d.writer in
    ap (λ w. take n (entries_in w)) more.1 ∙ ap (take n) (entries-append (issued_by m d) more.0) ∙ take-append-le n (entries_in (issued_by m d)) (entries_in more.0) (omega (arith, l, length-entries (issued_by m d)))

pub issued_grows : (a b : Moment) (d : Dropping) → Grows a b → length (issued_by a d) ≤ length (issued_by b d)
issued_grows a b d grows = let more = grows.issued d.room d.writer in omega (arith, ap length more.1, length-append (issued_by a d) more.0)

-- and those of them that had landed stay the first that have
pub landed_stay : (a b : Moment) → IsSoundAt a → IsSoundAt b → (d : Dropping) → IsNamed d → Grows a b → landed_by a d ≡ take (landed a d) (landed_by b d)
landed_stay a b s t d named grows =
    landed_is_first a s d named ∙ sym (entries_stay a b d (landed a d) grows (omega (arith, landed_whole a s d named)))
    ∙ sym (take_less (landed a d) (landed b d) (entries_in (issued_by b d)) (grows.landed d named)) ∙ ap (take (landed a d)) (sym (landed_is_first b t d named))

-- ---------- logs

some_room : (a b : Room) (o : Option Room) → o ≡ Some a → o ≡ Some b → a ≡ b
some_room a b o p q = cc

-- what a writer's log begins with
pub log_begins : (m : Moment) (s : IsSoundAt m) (d : Dropping) (index log : List ℕ) → IsNamed d → index_then m d ≡ Some index → log_then m d ≡ Some log → (rest : List ℕ) × (log ≡ content (issued_by m d) ++ rest)
log_begins m s d index log named e f =
    let w = stands m s d index named e in
    let r = in_a_room (slice_get s.shape.tree.rooms d.room) (log_path d.host d.writer) log (in_tree m s d.room (log_path d.host d.writer) log f) in
    let same : r.0 ≡ w.room = some_room r.0 w.room (slice_get s.shape.tree.rooms d.room) r.1 w.there in
    let bytes : log_bytes w.room w.writer.host d.writer ≡ log =
    ap (λ h. log_bytes w.room h d.writer) (sym w.host) ∙ ap bytes_of (ap (λ x. file_at x (log_path d.host d.writer)) (sym same) ∙ r.2) in
    let begins : IsPrefix (content (issued_by m d)) log = subst (IsPrefix (content (issued_by m d))) bytes w.writer.log in
    (drop (length (content (issued_by m d))) log, prefix_rest (content (issued_by m d)) log begins)

-- Bytes read of a log, within what its writer had issued at an earlier moment, are those that it issued then.
pub log_slice : (then m : Moment) (s : IsSoundAt m) (d : Dropping) (index log : List ℕ) (at len : ℕ) → IsNamed d → Grows then m → index_then m d ≡ Some index → log_then m d ≡ Some log → at + len ≤ length (content (issued_by then d)) → take len (drop at log) ≡ take len (drop at (content (issued_by then d)))
log_slice then m s d index log at len named grows e f within =
    let rest = log_begins m s d index log named e f in
    let more = grows.issued d.room d.writer in
    let now : content (issued_by m d) ≡ content (issued_by then d) ++ content more.0 = ap content more.1 ∙ content-append (issued_by then d) more.0 in
    ap (λ l. take len (drop at l)) (rest.1 ∙ ap (λ c. c ++ rest.0) now ∙ append_assoc (content (issued_by then d)) (content more.0) rest.0)
    ∙ front_slice (content (issued_by then d)) (content more.0 ++ rest.0) at len within
