-- A target stays one for the next mount of its source.
use Rattle.std.proofs.Common.{◌≡◌, ℕ, ◌/◌, List, [], ◌∷◌, ◌++◌, length, take, Option, Some, None, refl, ap, sym, ◌∙◌, subst, arith}
use Rattle.std.specs.Prelude.{slice_get}
use Rattle.std.proofs.lemmas.List.{append-nil}
use Rattle.plfs_types.specs.declared.entries.Entry.{Entry}
use Rattle.container_layout.specs.declared.items.Item.{Item}
use Rattle.container_layout.specs.declared.items.Item.TheVariants.{Index, Log, Trunc}
use Rattle.container_layout.specs.Paths.{path_of}
use Rattle.store_api.specs.declared.tree.Room.{Room}
use Rattle.store_api.specs.declared.tree.Tree.{Tree}
use Rattle.store_api.specs.Acts.{Stored}
use Rattle.store_laws.specs.Prefix.{IsPrefix}
use Rattle.store_laws.proofs.Facts.{prefix_trans}
use Rattle.mount_model.specs.Mounting.{IsMounted}
use Rattle.mount_model.specs.Paths.{Name, index_path, log_path}
use Rattle.mount_model.specs.State.{State}
use Rattle.mount_sound.specs.Dropping.{bytes_of, log_bytes}
use Rattle.mount_sound.specs.Entries.{logged}
use Rattle.mount_sound.specs.Growing.{IsMore}
use Rattle.mount_sound.specs.Ledger.{AreFull, AreWritesOf, Written, content, entries_in}
use Rattle.mount_sound.specs.Sound.{IsSoundTree}
use Rattle.mount_sound.specs.There.{entries_there}
use Rattle.mount_sound.proofs.Facts.{content_take, entries_take, length-content, mounted_sound, writes_take}
use Rattle.reader_laws.specs.Moments.{Dropping, IsNamed, IsSoundAt, Moment, Stood, file_in_room, file_then, file_told, index_then, landed, landed_by, log_then}
use Rattle.reader_laws.proofs.Gathered.Facts.{its_log, landed_is_first, landed_whole, stands}
use Rattle.drain_sound.specs.Fronts.{IsTarget, dropping_in}
use Rattle.drain_sound.specs.Views.{mounted_there}
use Rattle.drain_sound.proofs.ViewLemmas.{SameItems, mounted_items}
use Rattle.drain_sound.proofs.LastsLemmas.{HasAllOf, target_there}
use Rattle.drain_sound.proofs.Writes.{more_none}

-- ---- the next mount

-- full writes of the same entries and bytes are the same
one_list : (a b : List Written) → AreFull a → AreFull b → entries_in a ≡ entries_in b → content a ≡ content b → a ≡ b
one_list [] [] f g e c = refl
one_list [] (w ∷ b) f g e c = absurd (cc)
one_list (w ∷ a) [] f g e c = absurd (cc)
one_list (w ∷ a) (x ∷ b) f g e c =
    let entry : w.entry ≡ x.entry = cc in
    let rest : entries_in a ≡ entries_in b = cc in
    let long : length w.bytes ≡ length x.bytes = f.0 ∙ ap (λ (y : Entry). y.len) entry ∙ sym g.0 in
    let split = two_parts w.bytes x.bytes (content a) (content b) long c in
    ap (λ y. y ∷ a) (λ i. record { entry = entry i; bytes = split.0 i }) ∙ ap (λ ws. x ∷ ws) (one_list a b f.1 g.1 rest split.1)
  where
    two_parts : (p q r t : List ℕ) → length p ≡ length q → p ++ r ≡ q ++ t → (p ≡ q) × (r ≡ t)
    two_parts [] [] r t l e = (refl, e)
    two_parts [] (y ∷ q) r t l e = absurd (omega (arith, l))
    two_parts (x ∷ p) [] r t l e = absurd (omega (arith, l))
    two_parts (x ∷ p) (y ∷ q) r t l e =
        let first : x ≡ y = cc in
        let rest : p ++ r ≡ q ++ t = cc in
        let more = two_parts p q r t (omega (arith, l)) rest in
        (ap (λ z. z ∷ p) first ∙ ap (λ z. y ∷ z) more.0, more.1)

same_prefix : (a b whole : List ℕ) → IsPrefix a whole → IsPrefix b whole → length a ≡ length b → a ≡ b
same_prefix [] [] whole p q l = refl
same_prefix [] (y ∷ b) whole p q l = absurd (omega (arith, l))
same_prefix (x ∷ a) [] whole p q l = absurd (omega (arith, l))
same_prefix (x ∷ a) (y ∷ b) [] p q l = absurd p
same_prefix (x ∷ a) (y ∷ b) (z ∷ whole) p q l = ap (λ c. c ∷ a) (p.0 ∙ sym q.0) ∙ ap (λ r. y ∷ r) (same_prefix a b whole p.1 q.1 (omega (arith, l)))

-- without an index dropping nothing has landed
pub none_landed : (m : Moment) (sound : IsSoundAt m) (d : Dropping) → IsNamed d → index_then m d ≡ None → landed m d ≡ 0
none_landed m sound d is e = omega (arith, landed_whole m sound d is, few (bytes_of (index_then m d)) (ap (λ f. length (bytes_of f)) e))
  where
    few : (bytes : List ℕ) → length bytes ≡ 0 → length bytes / 40 ≡ 0
    few bytes e = omega (arith, e)

-- two moments of two mounts, at which the room has the same files
module _ (old new : Moment) (s : IsSoundAt old) (r : IsSoundAt new) (number : ℕ) (files : (item : Item) → file_then new number (path_of item) ≡ file_then old number (path_of item)) where
  same_landed : (host writer : ℕ) → landed_by new (dropping_in number host writer) ≡ landed_by old (dropping_in number host writer)
  same_landed host writer =
      ap (λ f. entries_there (bytes_of f) (bytes_of (file_then new number (log_path host writer)))) (files (Index host writer))
      ∙ ap (λ f. entries_there (bytes_of (file_then old number (index_path host writer))) (bytes_of f)) (files (Log host writer))

  -- the log begins with what has landed
  log_has : (m : Moment) (sound : IsSoundAt m) (host writer : ℕ) → Stood m (dropping_in number host writer) → IsPrefix (content (take (landed m (dropping_in number host writer)) (m.issued number writer))) (bytes_of (log_then m (dropping_in number host writer)))
  log_has m sound host writer a =
      let d : Dropping = dropping_in number host writer in
      let x = stands m sound d a.bytes a.is_item a.there in
      let log : IsPrefix (content (m.issued number writer)) (log_bytes x.room host writer) = subst (λ h. IsPrefix (content (m.issued number writer)) (log_bytes x.room h writer)) (sym x.host) x.writer.log in
      prefix_trans (content (take (landed m d) (m.issued number writer))) (content (m.issued number writer)) (bytes_of (log_then m d)) (content_take (landed m d) (m.issued number writer))
      (subst (IsPrefix (content (m.issued number writer))) (its_log m sound d a.bytes x) log)

  stood_new : (host writer : ℕ) → Stood old (dropping_in number host writer) → Stood new (dropping_in number host writer)
  stood_new host writer a = record { is_item = a.is_item; bytes = a.bytes; there = files (Index host writer) ∙ a.there }

  same_writes : (host writer : ℕ) → Stood old (dropping_in number host writer) → take (landed old (dropping_in number host writer)) (old.issued number writer) ≡ take (landed new (dropping_in number host writer)) (new.issued number writer)
  same_writes host writer a =
      let d : Dropping = dropping_in number host writer in
      let ws : List Written = take (landed old d) (old.issued number writer) in
      let xs : List Written = take (landed new d) (new.issued number writer) in
      let v : AreWritesOf writer ws = writes_take (landed old d) writer (old.issued number writer) (s.sound.writes number writer) in
      let u : AreWritesOf writer xs = writes_take (landed new d) writer (new.issued number writer) (r.sound.writes number writer) in
      let entries : entries_in ws ≡ entries_in xs =
      entries_take (landed old d) (old.issued number writer) ∙ sym (landed_is_first old s d a.is_item)
      ∙ sym (same_landed host writer)
      ∙ landed_is_first new r d a.is_item ∙ sym (entries_take (landed new d) (new.issued number writer)) in
      let log : bytes_of (log_then new d) ≡ bytes_of (log_then old d) = ap bytes_of (files (Log host writer)) in
      let bytes : content ws ≡ content xs =
      same_prefix (content ws) (content xs) (bytes_of (log_then old d)) (log_has old s host writer a) (subst (IsPrefix (content xs)) log (log_has new r host writer (stood_new host writer a)))
      (length-content ws v.full ∙ ap logged entries ∙ sym (length-content xs u.full)) in
      one_list ws xs v.full u.full entries bytes

  more_of_none : (ws all : List Written) → IsMore (take 0 ws) all
  more_of_none [] all = more_none all
  more_of_none (w ∷ ws) all = more_none all

  landed_more : (host writer : ℕ) → IsNamed (dropping_in number host writer) → IsMore (take (landed old (dropping_in number host writer)) (old.issued number writer)) (take (landed new (dropping_in number host writer)) (new.issued number writer))
  landed_more host writer is = by_file (index_then old (dropping_in number host writer)) refl
    where
      by_file : (found : Option (List ℕ)) → index_then old (dropping_in number host writer) ≡ found → IsMore (take (landed old (dropping_in number host writer)) (old.issued number writer)) (take (landed new (dropping_in number host writer)) (new.issued number writer))
      by_file None e = subst (λ n. IsMore (take n (old.issued number writer)) (take (landed new (dropping_in number host writer)) (new.issued number writer))) (sym (none_landed old s (dropping_in number host writer) is e)) (more_of_none (old.issued number writer) (take (landed new (dropping_in number host writer)) (new.issued number writer)))
      by_file (Some bytes) e = ([], sym (same_writes host writer (record { is_item = is; bytes = bytes; there = e })) ∙ sym (append-nil (take (landed old (dropping_in number host writer)) (old.issued number writer))))

  pub same_files : HasAllOf old new number
  same_files = record {
    stood = stood_new;
    truncates = λ stamp size h. record { is_item = h.is_item; bytes = h.bytes; there = files (Trunc stamp size) ∙ h.there };
    landed = landed_more;
  }

pub next_mount : (source : Moment) (number : ℕ) (name : Name) (tree left : Tree) (room : Room) (serial : ℕ) (times : Option (List ℕ)) (opened : Stored) (start : State) → IsSoundAt source → source.state.store.tree ≡ Some left → slice_get left.rooms number ≡ Some room
    → (sound : IsSoundTree left) → IsMounted serial times opened start → opened.tree ≡ Some left → IsTarget source number name tree → IsTarget (mounted_there sound start) number name tree
next_mount source number name tree left room serial times opened start s told at sound m opens t =
    let r : IsSoundAt (mounted_there sound start) = mounted_sound serial times opened start left m opens sound in
    let i : SameItems r.shape.tree number room = mounted_items serial times opened start left r.shape.tree number room m opens r.shape.told at in
    let files : (item : Item) → file_then (mounted_there sound start) number (path_of item) ≡ file_then source number (path_of item) = λ item.
    ap (λ o. file_told o number (path_of item)) r.shape.told ∙ ap (λ o. file_in_room o (path_of item)) i.there ∙ i.files item
    ∙ sym (ap (λ o. file_told o number (path_of item)) told ∙ ap (λ o. file_in_room o (path_of item)) at) in
    target_there source (mounted_there sound start) s number (same_files source (mounted_there sound start) s r number files) name tree t
