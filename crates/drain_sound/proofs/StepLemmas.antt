-- Each step of a drain, whole or in part, leaves a target.
use Rattle.std.proofs.Common.{◌≡◌, ℕ, ◌*◌, ◌≤◌, List, [], length, take, drop, Option, Some, None, refl, ap, sym, ◌∙◌, inl, inr, subst, arith}
use Rattle.std.specs.Prelude.{Err, slice_get}
use Rattle.plfs_types.specs.Bytes.{overwritten}
use Rattle.plfs_types.specs.declared.names.Path.{Path}
use Rattle.container_layout.specs.declared.items.Item.{Item}
use Rattle.container_layout.specs.declared.items.Item.TheVariants.{OpenHost, Meta, Trunc, Index, Log}
use Rattle.container_layout.specs.Items.{IsItem}
use Rattle.container_layout.specs.Paths.{hostdir_of, path_of}
use Rattle.store_api.specs.declared.store.Trouble.TheVariants.{Fault}
use Rattle.store_api.specs.declared.tree.Room.{Room}
use Rattle.store_api.specs.declared.tree.Tree.{Tree}
use Rattle.store_api.specs.Effect.{tree_after}
use Rattle.store_api.specs.Leaves.{MayLeave, in_part, not_made, whole}
use Rattle.store_api.specs.Step.{Step, create, make_folder, sync, write_at}
use Rattle.store_laws.specs.Changes.{Created, Wrote, with_room}
use Rattle.store_laws.specs.Files.{AreTwo, SameButFile, file_at, kept_at}
use Rattle.store_laws.specs.Losing.{Repeats, Spares}
use Rattle.store_laws.specs.Prefix.{IsPrefix}
use Rattle.store_laws.proofs.Facts.{changed_room, create_told, file_at_same, kept_at_same, kept_told, length-overwritten, look_told, make_folder_cases, prefix_take, prefix_trans, sync_told, write_told}
use Rattle.mount_model.specs.Paths.{Name, access_path, index_path, log_path, open_path, trunc_path}
use Rattle.mount_sound.specs.Marks.{IsOfMark}
use Rattle.mount_sound.specs.Dropping.{bytes_of, log_bytes}
use Rattle.mount_sound.proofs.Facts.{apart, owner, synced_keeps}
use Rattle.reader_laws.specs.Moments.{HadTrunc, IsSoundAt, Moment, Stood}
use Rattle.drain_sound.specs.Fronts.{IsTarget, index_there, log_there, dropping_in}
use Rattle.drain_sound.specs.Steps.{IsCopied, IsDrainStep, IsNamedRoom, MayCopy}
use Rattle.drain_sound.specs.Steps as step
use Rattle.drain_sound.proofs.ContainerLemmas.{GoesOn, room_target, same_goes_on}
use Rattle.drain_sound.proofs.ItemLemmas.{ItemChanged, front_over, front_takes, item_goes_on, same_fronts}
use Rattle.drain_sound.proofs.MarkLemmas.{container_target, marked_target, marks_target}
use Rattle.drain_sound.proofs.ShapeLemmas.{container_filed, folder_container}
use Rattle.drain_sound.proofs.WriterLemmas.{FrontsStay}

one_room : (a b : Room) (o : Option Room) → o ≡ Some a → o ≡ Some b → a ≡ b
one_room a b o p q = cc

one_file : (a b : List ℕ) (o : Option (List ℕ)) → o ≡ Some a → o ≡ Some b → a ≡ b
one_file a b o p q = cc

no_file : (a : List ℕ) (o : Option (List ℕ)) → o ≡ Some a → o ≡ None → ⊥
no_file a o p q = cc

an_index : (host writer : ℕ) → IsItem (Index host writer) → IsItem (Log host writer)
an_index host writer is = record { in_range = tt; widths = is.widths }

an_open : (host writer : ℕ) → IsItem (Index host writer) → IsItem (OpenHost host writer)
an_open host writer is = record { in_range = tt; widths = is.widths }

index_is : (h w host writer : ℕ) → Index h w ≡ Index host writer → (host ≡ h) × (writer ≡ w)
index_is h w host writer e = (cc, cc)

log_is : (h w host writer : ℕ) → Log h w ≡ Log host writer → (host ≡ h) × (writer ≡ w)
log_is h w host writer e = (cc, cc)

trunc_is : (s z stamp size : ℕ) → Trunc s z ≡ Trunc stamp size → (stamp ≡ s) × (size ≡ z)
trunc_is s z stamp size e = (cc, cc)

some_is : (a b : ℕ) → Some a ≡ Some b → a ≡ b
some_is a b e = cc

module _ (source : Moment) (s : IsSoundAt source) (number : ℕ) (name : Name) (tree : Tree) (t : IsTarget source number name tree) (after : Tree) where
  -- ---- where no file changes

  -- the folder of a host
  houses_target : (n host : ℕ) (room : Room) → IsNamedRoom tree n name room → MayLeave tree (make_folder n (hostdir_of host)) after → IsTarget source number name after
  houses_target n host room at l = by_leaving l
    where
      made : after ≡ tree_after tree (make_folder n (hostdir_of host)) → IsTarget source number name after
      made e = elim (make_folder_cases tree n (hostdir_of host)) as (λ _. IsTarget source number name after) [
        | inr stays ↦ subst (IsTarget source number name) (sym (e ∙ stays.same)) t
        | inl (answer, c) ↦
            let same : c.room ≡ room = one_room c.room room (slice_get tree.rooms n) c.has_room at.there in
            let here : IsNamedRoom tree n name c.room = record { there = c.has_room; named = ap (λ (r : Room). r.name) same ∙ at.named } in
            subst (IsTarget source number name) (sym (e ∙ c.gives))
            (room_target source s number name tree t n c.room c.new here
            (same_goes_on source number tree n c.room c.new c.others.name (λ path. file_at_same c.room c.new path c.others.files) (λ path. omega (arith, kept_at_same c.room c.new path c.others.files))
            (λ wider was. folder_container (IsOfMark (with_room tree n c.new)) tree n host c was) (t.drained n c.room here.there here.named)))
      ]

      by_leaving : MayLeave tree (make_folder n (hostdir_of host)) after → IsTarget source number name after
      by_leaving (not_made e) = subst (IsTarget source number name) (sym e) t
      by_leaving (whole e) = made e
      by_leaving (in_part k m e) = made e

  -- a sync of a file of the container that isn't `access`
  syncs_target : (n : ℕ) (path : Path) (room : Room) → IsNamedRoom tree n name room → AreTwo access_path path → MayLeave tree (sync n path.folder path.file) after → IsTarget source number name after
  syncs_target n path room at apart l = elim (sync_told n path tree (Err Fault) after l).either as (λ _. IsTarget source number name after) [
    | inr same ↦ subst (IsTarget source number name) (sym same) t
    | inl c ↦
        let same : c.room ≡ room = one_room c.room room (slice_get tree.rooms n) c.has_room at.there in
        let here : IsNamedRoom tree n name c.room = record { there = c.has_room; named = ap (λ (r : Room). r.name) same ∙ at.named } in
        let k = synced_keeps tree n path after c in
        subst (IsTarget source number name) (sym c.gives)
        (room_target source s number name tree t n c.room c.new here
        (same_goes_on source number tree n c.room c.new c.others.name k.files k.kepts
        (λ wider was. container_filed (IsOfMark (with_room tree n c.new)) c.room c.new path c.old c.others c.differ apart (was.files path c.old c.there) c.now was)
        (t.drained n c.room here.there here.named)))
  ]

  -- ---- where an item has come

  created_target : (n : ℕ) (changed : Item) (room : Room) → IsNamedRoom tree n name room
      → ((c : Created tree n (path_of changed) after) → c.room ≡ room → ItemChanged source number tree c.room c.new changed × ((writer : ℕ) → owner changed ≡ Some writer → GoesOn source number c.room c.new writer))
      → MayLeave tree (create n (path_of changed).folder (path_of changed).file) after → IsTarget source number name after
  created_target n changed room at goes l = elim (create_told n (path_of changed) tree (Err Fault) after l).either as (λ _. IsTarget source number name after) [
    | inr same ↦ subst (IsTarget source number name) (sym same) t
    | inl c ↦
        let same : c.room ≡ room = one_room c.room room (slice_get tree.rooms n) c.has_room at.there in
        let here : IsNamedRoom tree n name c.room = record { there = c.has_room; named = ap (λ (r : Room). r.name) same ∙ at.named } in
        let g = goes c same in
        subst (IsTarget source number name) (sym c.gives)
        (room_target source s number name tree t n c.room c.new here
        (item_goes_on source number tree n c.room c.new changed g.0 (t.drained n c.room here.there here.named) g.1))
  ]

  -- an entry of an open writer
  opens_target : (n host writer : ℕ) (room : Room) → IsNamedRoom tree n name room → MayCopy source number tree room host writer → MayLeave tree (create n (open_path host writer).folder (open_path host writer).file) after → IsTarget source number name after
  opens_target n host writer room at may l = created_target n (OpenHost host writer) room at (λ c same. (changed c, goes c same)) l
    where
      changed : (c : Created tree n (open_path host writer) after) → ItemChanged source number tree c.room c.new (OpenHost host writer)
      changed c = record {
        is_item = an_open host writer may.stood.is_item;
        drains = tt;
        others = c.others;
        differ = c.differ;
        housed = c.folder;
        bytes = [];
        now = c.now;
        holds = refl;
        marked = may.marked;
        stood = λ h w of. subst (λ x. Stood source (dropping_in number x w)) of.0 (subst (λ x. Stood source (dropping_in number host x)) of.1 may.stood);
        index = λ h w e. tt;
        log = λ h w e. tt;
        truncate = λ stamp size e. absurd (cc);
      }

      goes : (c : Created tree n (open_path host writer) after) → c.room ≡ room → (q : ℕ) → Some writer ≡ Some q → GoesOn source number c.room c.new q
      goes c same q e =
          let m : MayCopy source number tree c.room host writer = subst (λ r. MayCopy source number tree r host writer) (sym same) may in
          let is : IsItem (OpenHost host writer) = an_open host writer may.stood.is_item in
          let index : AreTwo (index_path host writer) (open_path host writer) = apart (Index host writer) (OpenHost host writer) may.stood.is_item is (λ x. cc) in
          let log : AreTwo (log_path host writer) (open_path host writer) = apart (Log host writer) (OpenHost host writer) (an_index host writer may.stood.is_item) is (λ x. cc) in
          subst (GoesOn source number c.room c.new) (some_is writer q e) (record {
            host = host;
            stood = may.stood;
            opened = c.now;
            was_unsettled = m.unsettled;
            unsettled = λ x. m.unsettled (record { last = x.last; bytes = x.bytes; stamp = x.stamp; content = x.content; has = record { is_item = x.has.is_item; there = sym (c.others.files (path_of (Meta x.last x.bytes x.stamp host writer)) (apart (Meta x.last x.bytes x.stamp host writer) (OpenHost host writer) x.has.is_item is (λ y. cc))) ∙ x.has.there } });
            index = same_fronts c.room c.new (index_path host writer) (c.others.files (index_path host writer) index) (c.others.kepts (index_path host writer) index);
            log = same_fronts c.room c.new (log_path host writer) (c.others.files (log_path host writer) log) (c.others.kepts (log_path host writer) log);
          })

  -- ---- droppings

  module _ (n host writer : ℕ) (room : Room) (at : IsNamedRoom tree n name room) (copied : IsCopied source number tree room host writer) where
    an : IsItem (Index host writer)
    an = copied.may.stood.is_item

    is_its_log : IsItem (Log host writer)
    is_its_log = an_index host writer an

    its_stood : (h w : ℕ) → (host ≡ h) × (writer ≡ w) → Stood source (dropping_in number h w)
    its_stood h w of = subst (λ x. Stood source (dropping_in number x w)) of.0 (subst (λ x. Stood source (dropping_in number host x)) of.1 copied.may.stood)

    -- what goes on of the writer where its index dropping or its log changes
    goes_on : (was new : Room) (changed : Item) → IsItem changed → was ≡ room → SameButFile (path_of changed) was new → (OpenHost host writer ≡ changed → ⊥) → ((last bytes stamp : ℕ) → Meta last bytes stamp host writer ≡ changed → ⊥)
        → FrontsStay was new (index_path host writer) → FrontsStay was new (log_path host writer) → (q : ℕ) → Some writer ≡ Some q → GoesOn source number was new q
    goes_on was new changed is same others no_open no_meta index log q e =
        let c : IsCopied source number tree was host writer = subst (λ r. IsCopied source number tree r host writer) (sym same) copied in
        subst (GoesOn source number was new) (some_is writer q e) (record {
          host = host;
          stood = copied.may.stood;
          opened = others.files (open_path host writer) (apart (OpenHost host writer) changed (an_open host writer an) is no_open) ∙ c.opened;
          was_unsettled = c.may.unsettled;
          unsettled = λ x. c.may.unsettled (record { last = x.last; bytes = x.bytes; stamp = x.stamp; content = x.content; has = record { is_item = x.has.is_item; there = sym (others.files (path_of (Meta x.last x.bytes x.stamp host writer)) (apart (Meta x.last x.bytes x.stamp host writer) changed x.has.is_item is (no_meta x.last x.bytes x.stamp))) ∙ x.has.there } });
          index = index;
          log = log;
        })

    other_fronts : (was new : Room) (item changed : Item) → IsItem item → IsItem changed → (item ≡ changed → ⊥) → SameButFile (path_of changed) was new → FrontsStay was new (path_of item)
    other_fronts was new item changed is_a is_b other others =
        let two = apart item changed is_a is_b other in
        same_fronts was new (path_of item) (others.files (path_of item) two) (others.kepts (path_of item) two)

    -- the index dropping has come
    index_target : MayLeave tree (create n (index_path host writer).folder (index_path host writer).file) after → IsTarget source number name after
    index_target l = created_target n (Index host writer) room at (λ c same. (
      record {
        is_item = an;
        drains = tt;
        others = c.others;
        differ = c.differ;
        housed = c.folder;
        bytes = [];
        now = c.now;
        holds = tt;
        marked = copied.may.marked;
        stood = its_stood;
        index = λ h w e. tt;
        log = λ h w e. tt;
        truncate = λ stamp size e. absurd (cc);
      },
      goes_on c.room c.new (Index host writer) an same c.others (λ x. cc) (λ last bytes stamp x. cc) (λ old e front long was. absurd (no_file old (file_at c.room (index_path host writer)) e c.none))
          (other_fronts c.room c.new (Log host writer) (Index host writer) is_its_log an (λ x. cc) c.others),
    )) l

    -- the log has come
    log_target : MayLeave tree (create n (log_path host writer).folder (log_path host writer).file) after → IsTarget source number name after
    log_target l = created_target n (Log host writer) room at (λ c same. (
      record {
        is_item = is_its_log;
        drains = tt;
        others = c.others;
        differ = c.differ;
        housed = c.folder;
        bytes = [];
        now = c.now;
        holds = tt;
        marked = copied.may.marked;
        stood = its_stood;
        index = λ h w e. tt;
        log = λ h w e. tt;
        truncate = λ stamp size e. absurd (cc);
      },
      goes_on c.room c.new (Log host writer) is_its_log same c.others (λ x. cc) (λ last bytes stamp x. cc) (other_fronts c.room c.new (Index host writer) (Log host writer) an is_its_log (λ x. cc) c.others)
          (λ old e front long was. absurd (no_file old (file_at c.room (log_path host writer)) e c.none)),
    )) l

    -- what was kept of a file that is written stays kept, where that is spared
    written_fronts : (changed : Item) (place : ℕ) (bytes part : List ℕ) (c : Wrote tree n (path_of changed) place part after) → MayLeave tree (write_at n (path_of changed).folder (path_of changed).file place bytes) after
        → ((old : List ℕ) → file_at c.room (path_of changed) ≡ Some old → (front : ℕ) → front ≤ length old → Spares tree (write_at n (path_of changed).folder (path_of changed).file place bytes) n (path_of changed) front) → FrontsStay c.room c.new (path_of changed)
    written_fronts changed place bytes part c l spares old e front long was =
        let k = kept_told (write_at n (path_of changed).folder (path_of changed).file place bytes) tree (Err Fault) after n (path_of changed) front (spares old e front long) l
        (record { room = c.room; bytes = old; has_room = c.has_room; there = e; long = long; kept = was }) in
        let here : slice_get after.rooms n ≡ Some c.new = ap (λ (x : Tree). slice_get x.rooms n) c.gives ∙ changed_room tree n c.room c.new c.has_room in
        let same : k.0.room ≡ c.new = one_room k.0.room c.new (slice_get after.rooms n) k.0.has_room here in
        record { bytes = k.0.bytes; there = ap (λ r. file_at r (path_of changed)) (sym same) ∙ k.0.there; long = k.0.long; kept = subst (λ r. front ≤ kept_at r (path_of changed)) same k.0.kept }

    -- where it was written, or a part of it
    wrote_target : (changed : Item) (place : ℕ) (bytes : List ℕ) → ((part : List ℕ) → IsPrefix part bytes → (c : Wrote tree n (path_of changed) place part after) → c.room ≡ room → ItemChanged source number tree c.room c.new changed × ((q : ℕ) → owner changed ≡ Some q → GoesOn source number c.room c.new q))
        → MayLeave tree (write_at n (path_of changed).folder (path_of changed).file place bytes) after → IsTarget source number name after
    wrote_target changed place bytes goes l = elim (write_told n (path_of changed) place bytes tree (Err Fault) after l) as (λ _. IsTarget source number name after) [
      | inl (answer, c) ↦ absurd (cc)
      | inr (unmade, inl same) ↦ subst (IsTarget source number name) (sym same) t
      | inr (unmade, inr (k, within, c)) ↦
          let same : c.room ≡ room = one_room c.room room (slice_get tree.rooms n) c.has_room at.there in
          let here : IsNamedRoom tree n name c.room = record { there = c.has_room; named = ap (λ (r : Room). r.name) same ∙ at.named } in
          let g = goes (take k bytes) (prefix_take k bytes) c same in
          subst (IsTarget source number name) (sym c.gives)
          (room_target source s number name tree t n c.room c.new here
          (item_goes_on source number tree n c.room c.new changed g.0 (t.drained n c.room here.there here.named) g.1))
    ]

    -- bytes of the log
    writes_log_target : (place len : ℕ) → place ≤ length (log_bytes room host writer) → MayLeave tree (write_at n (log_path host writer).folder (log_path host writer).file place (take len (drop place (log_there source (dropping_in number host writer))))) after → IsTarget source number name after
    writes_log_target place len behind l =
        let whole_log : List ℕ = log_there source (dropping_in number host writer) in
        let bytes : List ℕ = take len (drop place whole_log) in
        wrote_target (Log host writer) place bytes (λ part p c same.
        let old : bytes_of (file_at c.room (log_path host writer)) ≡ c.old = ap bytes_of c.there in
        let f = (t.drained n c.room c.has_room (ap (λ (r : Room). r.name) same ∙ at.named)).fronts host writer an in
        let was : IsPrefix c.old whole_log = subst (λ b. IsPrefix b whole_log) old f.log in
        let over : (b : List ℕ) → IsPrefix b bytes → IsPrefix (overwritten c.old place b) whole_log = λ b q. front_over whole_log c.old b place was c.within (prefix_trans b bytes (drop place whole_log) q (prefix_take len (drop place whole_log))) in
        let now : IsPrefix (overwritten c.old place part) whole_log = over part p in
        let repeats : (front : ℕ) → front ≤ length c.old → Repeats tree n (log_path host writer) place bytes front = λ front long r file there e k.
        let room_is : r ≡ c.room = one_room r c.room (slice_get tree.rooms n) there c.has_room in
        let is : file ≡ c.old = one_file file c.old (file_at c.room (log_path host writer)) (ap (λ x. file_at x (log_path host writer)) (sym room_is) ∙ e) c.there in
        subst (λ x. take front (overwritten x place (take k bytes)) ≡ take front x) (sym is)
        (front_takes front (overwritten c.old place (take k bytes)) whole_log (over (take k bytes) (prefix_take k bytes)) (omega (arith, long, length-overwritten c.old place (take k bytes) c.within))
        ∙ sym (front_takes front c.old whole_log was long)) in (
          record {
            is_item = is_its_log;
            drains = tt;
            others = c.others;
            differ = c.differ;
            housed = c.folder;
            bytes = overwritten c.old place part;
            now = c.now;
            holds = tt;
            marked = copied.may.marked;
            stood = its_stood;
            index = λ h w e. absurd (cc);
            log = λ h w e. let is = log_is h w host writer e in subst (λ x. IsPrefix (overwritten c.old place part) (log_there source (dropping_in number x w))) is.0 (subst (λ x. IsPrefix (overwritten c.old place part) (log_there source (dropping_in number host x))) is.1 now);
            truncate = λ stamp size e. absurd (cc);
          },
          goes_on c.room c.new (Log host writer) is_its_log same c.others (λ x. cc) (λ last b stamp x. cc) (other_fronts c.room c.new (Index host writer) (Log host writer) an is_its_log (λ x. cc) c.others)
              (written_fronts (Log host writer) place bytes part c l (λ before e front long named. inr (repeats front (omega (arith, long, ap length (one_file before c.old (file_at c.room (log_path host writer)) e c.there)))))),
        )) l

    -- entries of the index dropping
    writes_index_target : (from len : ℕ) → 40 * from ≤ length (bytes_of (file_at room (index_path host writer))) → MayLeave tree (write_at n (index_path host writer).folder (index_path host writer).file (40 * from) (take len (drop (40 * from) (index_there source (dropping_in number host writer))))) after → IsTarget source number name after
    writes_index_target from len behind l =
        let place : ℕ = 40 * from in
        let all : List ℕ = index_there source (dropping_in number host writer) in
        let bytes : List ℕ = take len (drop place all) in
        wrote_target (Index host writer) place bytes (λ part p c same.
        let old : bytes_of (file_at c.room (index_path host writer)) ≡ c.old = ap bytes_of c.there in
        let f = (t.drained n c.room c.has_room (ap (λ (r : Room). r.name) same ∙ at.named)).fronts host writer an in
        let was : IsPrefix c.old all = subst (λ b. IsPrefix b all) old f.index in
        let over : (b : List ℕ) → IsPrefix b bytes → IsPrefix (overwritten c.old place b) all = λ b q. front_over all c.old b place was c.within (prefix_trans b bytes (drop place all) q (prefix_take len (drop place all))) in
        let now : IsPrefix (overwritten c.old place part) all = over part p in
        let repeats : (front : ℕ) → front ≤ length c.old → Repeats tree n (index_path host writer) place bytes front = λ front long r file there e k.
        let room_is : r ≡ c.room = one_room r c.room (slice_get tree.rooms n) there c.has_room in
        let is : file ≡ c.old = one_file file c.old (file_at c.room (index_path host writer)) (ap (λ x. file_at x (index_path host writer)) (sym room_is) ∙ e) c.there in
        subst (λ x. take front (overwritten x place (take k bytes)) ≡ take front x) (sym is)
        (front_takes front (overwritten c.old place (take k bytes)) all (over (take k bytes) (prefix_take k bytes)) (omega (arith, long, length-overwritten c.old place (take k bytes) c.within))
        ∙ sym (front_takes front c.old all was long)) in (
          record {
            is_item = an;
            drains = tt;
            others = c.others;
            differ = c.differ;
            housed = c.folder;
            bytes = overwritten c.old place part;
            now = c.now;
            holds = tt;
            marked = copied.may.marked;
            stood = its_stood;
            index = λ h w e. let is = index_is h w host writer e in subst (λ x. IsPrefix (overwritten c.old place part) (index_there source (dropping_in number x w))) is.0 (subst (λ x. IsPrefix (overwritten c.old place part) (index_there source (dropping_in number host x))) is.1 now);
            log = λ h w e. absurd (cc);
            truncate = λ stamp size e. absurd (cc);
          },
          goes_on c.room c.new (Index host writer) an same c.others (λ x. cc) (λ last b stamp x. cc)
              (written_fronts (Index host writer) place bytes part c l (λ before e front long named. inr (repeats front (omega (arith, long, ap length (one_file before c.old (file_at c.room (index_path host writer)) e c.there))))))
              (other_fronts c.room c.new (Log host writer) (Index host writer) is_its_log an (λ x. cc) c.others),
        )) l

  -- a truncate
  truncates_target : (n stamp size : ℕ) (room : Room) → IsNamedRoom tree n name room → HadTrunc source number stamp size → MayLeave tree (create n (trunc_path stamp size).folder (trunc_path stamp size).file) after → IsTarget source number name after
  truncates_target n stamp size room at had l = created_target n (Trunc stamp size) room at (λ c same. (
    record {
      is_item = had.is_item;
      drains = tt;
      others = c.others;
      differ = c.differ;
      housed = c.folder;
      bytes = [];
      now = c.now;
      holds = refl;
      marked = tt;
      stood = λ h w of. absurd of;
      index = λ h w e. tt;
      log = λ h w e. tt;
      truncate = λ a b e. let is = trunc_is a b stamp size e in subst (λ x. HadTrunc source number x b) is.0 (subst (λ x. HadTrunc source number stamp x) is.1 had);
    },
    λ q e. absurd (cc),
  )) l

-- ---- each step

pub step_target : (source : Moment) (number : ℕ) (name : Name) (tree after : Tree) (x : Step) → IsSoundAt source → IsTarget source number name tree → IsDrainStep source number name tree x → MayLeave tree x after → IsTarget source number name after
step_target source number name tree after x s t (step.looks look is) l = subst (IsTarget source number name) (sym (look_told look tree (Err Fault) after is l)) t
step_target source number name tree after x s t step.marks l = marks_target source number name tree t after l
step_target source number name tree after x s t (step.mark n mount room at some fits) l = marked_target source number name tree t after n mount room at some fits l
step_target source number name tree after x s t step.container l = container_target source number name tree t after l
step_target source number name tree after x s t (step.opens n host writer room at may) l = opens_target source s number name tree t after n host writer room at may l
step_target source number name tree after x s t (step.houses n host room at) l = houses_target source s number name tree t after n host room at l
step_target source number name tree after x s t (step.index n host writer room at copied) l = index_target source s number name tree t after n host writer room at copied l
step_target source number name tree after x s t (step.log n host writer room at copied) l = log_target source s number name tree t after n host writer room at copied l
step_target source number name tree after x s t (step.writes_log n host writer place len room at copied behind) l = writes_log_target source s number name tree t after n host writer room at copied place len behind l
step_target source number name tree after x s t (step.writes_index n host writer from len room at copied behind) l = writes_index_target source s number name tree t after n host writer room at copied from len behind l
step_target source number name tree after x s t (step.syncs_log n host writer room at) l = syncs_target source s number name tree t after n (log_path host writer) room at (λ folder file. cc) l
step_target source number name tree after x s t (step.syncs_index n host writer room at) l = syncs_target source s number name tree t after n (index_path host writer) room at (λ folder file. cc) l
step_target source number name tree after x s t (step.truncates n stamp size room at had) l = truncates_target source s number name tree t after n stamp size room at had l
