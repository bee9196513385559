-- A target shows a drain that reads it no damage: where it ends otherwise than well, the target's store failed.
use Rattle.std.proofs.Common.{◌≡◌, ℕ, true, false, List, [], ◌∷◌, ◌++◌, get_or, Some, None, refl, ap, sym, ◌∙◌, inl, inr, subst, arith}
use Rattle.std.specs.Prelude.{Result, Ok, Err, slice_get}
use Rattle.plain_file.proofs.Facts.{Among}
use Rattle.plfs_types.specs.Counts.{HasRisen}
use Rattle.plfs_types.specs.declared.names.Path.{Path}
use Rattle.container_layout.specs.declared.items.Item.{Item}
use Rattle.container_layout.specs.declared.items.Item.TheVariants as item
use Rattle.container_layout.specs.Paths.{IsIn, path_of}
use Rattle.container_layout.proofs.Facts.{elsewhere}
use Rattle.store_api.specs.declared.step.Answer.{Answer}
use Rattle.store_api.specs.declared.step.Answer.TheVariants.{Absent, Names, NoFolder, NoRoom, Number}
use Rattle.store_api.specs.declared.store.Trouble.TheVariants.{Fault as ToldFault, NoMemory as ToldNoMemory}
use Rattle.store_api.specs.declared.tree.Room.{Room}
use Rattle.store_api.specs.declared.tree.Tree.{Tree}
use Rattle.store_api.specs.Effect.{Effect}
use Rattle.store_api.specs.Room.{has_folder}
use Rattle.store_api.specs.Step.{length_of, list_folder}
use Rattle.store_laws.specs.Files.{file_at}
use Rattle.store_laws.specs.Says.{LengthTells, ListTells}
use Rattle.store_laws.specs.Tells.{Tells}
use Rattle.store_laws.specs.There.{LacksFolder, ListsFolder}
use Rattle.store_laws.proofs.Facts.{length_tells, list_tells}
use Rattle.mount_model.specs.declared.reply.Reply.TheVariants.{NoMemory}
use Rattle.mount_model.specs.History.{Event, state_after}
use Rattle.mount_model.specs.Paths.{Name, access_path, index_path, log_path, metadata}
use Rattle.mount_model.specs.State.{State}
use Rattle.mount_sound.specs.Container.{IsContainer}
use Rattle.mount_sound.specs.Marks.{IsOfMark}
use Rattle.mount_sound.specs.Ledger.{entries_in}
use Rattle.mount_model.specs.declared.names.Metadata.{Metadata}
use Rattle.mount_model.specs.declared.stuck.Stuck.{Stuck}
use Rattle.mount_model.specs.declared.stuck.Stuck.TheVariants as stuck
use Rattle.mount_model.specs.FlowListed.{known, told_by}
use Rattle.mount_model.specs.Names.{meta_in}
use Rattle.mount_model.specs.FlowReplies.{given, on_ok, trouble}
use Rattle.mount_model.proofs.Flows.Facts.{meta_in-is}
use Rattle.index_reader.specs.declared.listing.Dropping.{Dropping as Listed}
use Rattle.index_reader.specs.Replies.{log_length_in}
use Rattle.reader_laws.specs.Moments.{Grows, IsSoundAt, Moment, Stood, file_in_room, moment_after}
use Rattle.reader_laws.proofs.Gathered.Facts.{all_at, any_found, follows, grows_refl}
use Rattle.reader_laws.proofs.Gathered.Containers.Entries.{named_file}
use Rattle.reader_laws.specs.Failing.{FailsByStore, IsContainerAt}
use Rattle.reader_laws.specs.Sharing.{in_room}
use Rattle.reader_laws.proofs.Faults.TailFails.{IsCoverOf}
use Rattle.drain_copy.specs.Asking.{look_reply}
use Rattle.mount_model.specs.Making.{Told}
use Rattle.drain_read.specs.declared.held.Held.{Held}
use Rattle.drain_read.specs.declared.held.Mirror.{Mirror}
use Rattle.drain_read.specs.declared.read.Contained.{Contained}
use Rattle.drain_read.specs.declared.read.WriterRead.{WriterRead}
use Rattle.drain_read.specs.Holding.{held_program, lists_settled, measures, measures_all, mirror_of, settled_named, unknown}
use Rattle.drain_read.specs.Reading.{contained_program}
use Rattle.drain_sound.specs.Fronts.{IsTarget, dropping_in}
use Rattle.drain_sound.specs.Steps.{IsNamedRoom}
use Rattle.drain_sound.proofs.Facts.{container_of}
use Rattle.drain_laws.proofs.Copying.Mild.{some_room}
use Rattle.drain_laws.proofs.Driving.Passing.{Sees}
use Rattle.drain_laws.proofs.Planning.Known.{none_tells}
use Rattle.drain_laws.proofs.Reading.Beside.{HasFailed, beside, beside_sound, sees_fails, sees_runs}
use Rattle.drain_laws.proofs.Reading.Failing.{contained_fails}
use Rattle.drain_laws.proofs.Reading.Held.{sees_in_two}
use Rattle.drain_laws.proofs.Reading.Marked.{MarkedTarget, with_mark}
use Rattle.drain_laws.proofs.Reading.Read.{contained_stood}
use Rattle.drain_laws.proofs.Reading.Strict.{strict_contained}

one_trouble : {X : Type 0} (a b : Stuck) → ◌≡◌ {A = Result X Stuck} (Err a) (Err b) → b ≡ a
one_trouble a b e = cc

no_trouble : {X : Type 0} (x : X) (why : Stuck) → ◌≡◌ {A = Result X Stuck} (Ok x) (Err why) → ⊥
no_trouble x why e = cc

-- ---- metadata

meta_item : (it : Item) → (path_of it).folder ≡ metadata → (m : Metadata) × (it ≡ item.Meta m.last m.bytes m.stamp m.host m.writer)
meta_item (item.Meta last bytes stamp host writer) e = (record { last = last; bytes = bytes; stamp = stamp; host = host; writer = writer }, refl)
meta_item other e = elsewhere (ap (λ (l : List ℕ). get_or l 0 0) e) refl

-- names that are of metadata tell whose they are
all_settled : (names : List Name) (sofar : List ℕ) → ((name : Name) → Among name names → (m : Metadata) × (meta_in name ≡ Some m)) → (settled : List ℕ) × (settled_named names sofar ≡ Ok settled)
all_settled [] sofar each = (sofar, refl)
all_settled (name ∷ names) sofar each =
    let here = each name (inl refl) in
    let rest = all_settled names (sofar ++ here.0.writer ∷ []) (λ x a. each x (inr a)) in
    (rest.0, ap (λ o. known metadata name o (λ (m : Metadata). settled_named names (sofar ++ m.writer ∷ []))) here.1 ∙ rest.1)

module _ (m : Moment) (s : IsSoundAt m) (number : ℕ) (name : Name) (t : Tree) (target : IsTarget m number name t) (n : ℕ) (room : Room) (named : IsNamedRoom t n name room) where
  container : IsContainer (IsOfMark t) room
  container = container_of (IsOfMark t) name room target.logical named.named (target.sound.shaped.rooms n room named.there)

  has_room : slice_get t.rooms n ≡ None → ⊥
  has_room lacks = let clash : Some room ≡ None = sym named.there ∙ lacks in cc

  has_it : (folder : Name) → has_folder room folder ≡ true → LacksFolder t n folder → ⊥
  has_it folder has lacks =
      let same : room ≡ lacks.room = some_room room lacks.room (slice_get t.rooms n) named.there lacks.has_room in
      let clash : true ≡ false = sym has ∙ ap (λ r. has_folder r folder) same ∙ lacks.none in
      cc

  -- ---- the container

  marked : MarkedTarget m number name t
  marked = with_mark m s number name t target

  here : slice_get marked.tree.rooms n ≡ Some room
  here = marked.same n room named

  abbrev start : ℕ → Moment
  start k = beside marked.tree marked.target.sound marked.marks marked.room marked.marked k

  container_there : IsContainerAt (start 0) n
  container_there = record { is_item = record { in_range = tt; widths = tt }; bytes = []; there = ap (λ o. file_in_room o access_path) here ∙ container.has_access }

  nothing_covered : (other : Moment) → IsSoundAt other → Grows (start 0) other → (d : Listed) → Stood other (in_room n d) → IsCoverOf other (in_room n d) (record { writer = d.writer; count = 0; bytes = 0; stamp = 0 })
  nothing_covered other sound grows d stood = record { tells = none_tells d.writer (entries_in (other.issued n d.writer)); had = omega arith }

  not_risen : (a b : ℕ) → a ≡ 0 → b ≡ 0 → HasRisen a b → ⊥
  not_risen a b p q (inl more) = omega (arith, p, q, more)
  not_risen a b p q (inr full) = omega (arith, q, full)

  abbrev Failed : Type 0
  Failed = HasFailed marked.tree marked.target.sound marked.marks marked.room marked.marked n (marked.apart n room named) t room named.there here (contained_program (unknown n)) 0

  never_fails : Failed → ⊥
  never_fails f = by_store (contained_fails 0 (unknown n) (start 0) nothing_covered (start 0) f.events f.by (grows_refl (start 0)) (beside_sound marked.tree marked.target.sound marked.marks marked.room marked.marked 0) container_there f.lawful f.runs)
    where
      ends : state_after (start 0).state f.events ≡ (start f.last).state
      ends = sym (follows (start 0) f.events).0 ∙ ap (λ (x : Moment). x.state) f.ends

      by_store : FailsByStore 0 (start 0).state f.events f.by → ⊥
      by_store (is, inl risen) = not_risen (start 0).state.store.faults (state_after (start 0).state f.events).store.faults refl (ap (λ (x : State). x.store.faults) ends) risen
      by_store (is, inr wants) = let w = any_found (λ (e : Event). (e.caller ≡ 0) × (e.reply ≡ NoMemory)) f.events wants in f.calm w.0 w.1 w.2.1

  contained_stuck : (why : Stuck) → Sees t (contained_program (unknown n)) (Err why) → why ≡ stuck.Fault
  contained_stuck why sees =
      elim (sees_fails marked.tree marked.target.sound marked.marks marked.room marked.marked n (marked.apart n room named) t room named.there here (contained_program (unknown n)) why 0
      (strict_contained marked.tree marked.target.sound marked.marks marked.room marked.marked n (marked.apart n room named) (unknown n) refl) sees) as (λ _. why ≡ stuck.Fault) [
        | inl fault ↦ fault
        | inr f ↦ absurd (never_fails f)
      ]

  -- the writers that were read stand there
  abbrev Stands : WriterRead → Type 0
  Stands w = (bytes : List ℕ) × (file_at room (index_path w.host w.writer) ≡ Some bytes)

  writers_stand : (contained : Contained) → Sees t (contained_program (unknown n)) (Ok contained) → (w : WriterRead) → Among w contained.writers → Stands w
  writers_stand contained sees w a =
      let strict = strict_contained marked.tree marked.target.sound marked.marks marked.room marked.marked n (marked.apart n room named) (unknown n) refl in
      let r = sees_runs marked.tree marked.target.sound marked.marks marked.room marked.marked n (marked.apart n room named) t room named.there here (contained_program (unknown n)) contained 0 strict sees in
      let c = contained_stood 0 (unknown n) (start 0) r.events contained (beside_sound marked.tree marked.target.sound marked.marks marked.room marked.marked 0) r.lawful r.runs in
      let stood : Stood (moment_after (start 0) r.events) (dropping_in n w.host w.writer) = all_at (λ (x : WriterRead). Stood (moment_after (start 0) r.events) (dropping_in n x.host x.writer)) contained.writers w c.1 a in
      let last : Stood (start r.last) (dropping_in n w.host w.writer) = subst (λ k. Stood k (dropping_in n w.host w.writer)) r.ends stood in
      (last.bytes, sym (ap (λ o. file_in_room o (index_path w.host w.writer)) here) ∙ last.there)

  -- ---- the lengths of logs

  measures_fail : (settled : List ℕ) (ws : List WriterRead) (sofar : List Mirror) (why : Stuck) → ((w : WriterRead) → Among w ws → Stands w) → Sees t (measures n settled ws sofar) (Err why) → why ≡ stuck.Fault
  measures_fail settled [] sofar why stand sees = absurd (no_trouble _ why sees)
  measures_fail settled (w ∷ ws) sofar why stand (told, tells, sees) = by_told (λ log on. measures_fail settled ws (sofar ++ mirror_of w log ∷ []) why (λ x a. stand x (inr a)) on) told tells sees
    where
      path : Path
      path = log_path w.host w.writer

      housed : has_folder room (log_path w.host w.writer).folder ≡ true
      housed = let it = stand w (inl refl) in (container.files (index_path w.host w.writer) it.0 it.1).housed

      says : (answer : Answer) → Tells (length_of n (log_path w.host w.writer).folder (log_path w.host w.writer).file) t (Ok answer) t → LengthTells t n (log_path w.host w.writer) answer
      says answer told_so = subst (LengthTells t n (log_path w.host w.writer)) (ap (λ (y : Effect). y.answer) told_so) (length_tells t n (log_path w.host w.writer)).says_so

      by_told : ((log : ℕ) → Sees t (measures n settled ws (sofar ++ mirror_of w log ∷ [])) (Err why) → why ≡ stuck.Fault) → (told : Told) → Tells (length_of n (log_path w.host w.writer).folder (log_path w.host w.writer).file) t told t
          → Sees t (given (log_length_in (look_reply told)) (trouble (log_path w.host w.writer) (look_reply told)) (λ log. measures n settled ws (sofar ++ mirror_of w log ∷ []))) (Err why) → why ≡ stuck.Fault
      by_told more (Ok (Number value)) tells sees = more value sees
      by_told more (Ok Absent) tells sees = more 0 sees
      by_told more (Ok NoFolder) tells sees = absurd (has_it (log_path w.host w.writer).folder housed (says NoFolder tells))
      by_told more (Ok NoRoom) tells sees = absurd (has_room (says NoRoom tells))
      by_told more (Ok answer) tells sees = absurd (says answer tells)
      by_told more (Err ToldFault) tells sees = one_trouble {X = Held} stuck.Fault why sees
      by_told more (Err ToldNoMemory) tells sees = one_trouble {X = Held} stuck.Fault why sees

  -- ---- the metadata

  its_meta : (names : List Name) → ListsFolder t n metadata names → (x : Name) → Among x names → (m : Metadata) × (meta_in x ≡ Some m)
  its_meta names l x a =
      let same : l.room ≡ room = some_room l.room room (slice_get t.rooms n) l.has_room named.there in
      let file = named_file l.room metadata x names refl l.entries a in
      let path : Path = record { folder = metadata; file = x } in
      let it = container.files path file.0 (subst (λ r. file_at r path ≡ Some file.0) same file.1) in
      let its = meta_item it.item (sym (ap (λ (p : Path). p.folder) it.is_at.printed)) in
      (its.0, meta_in-is x its.0.last its.0.bytes its.0.stamp its.0.host its.0.writer (subst (IsIn metadata x) its.1 it.is_at))

  names_fail : (names : List Name) (contained : Contained) (why : Stuck) → ((w : WriterRead) → Among w contained.writers → Stands w) → ListsFolder t n metadata names → (value : Result (List ℕ) Stuck) → settled_named names [] ≡ value → Sees t (on_ok (measures_all n contained.writers) value) (Err why) → why ≡ stuck.Fault
  names_fail names contained why stand l (Ok settled) is sees = measures_fail settled contained.writers [] why stand sees
  names_fail names contained why stand l (Err other) is sees =
      let all = all_settled names [] (its_meta names l) in
      let clash : ◌≡◌ {A = Result (List ℕ) Stuck} (Ok all.0) (Err other) = sym all.1 ∙ is in
      absurd (no_trouble all.0 other clash)

  settled_fail : (contained : Contained) (why : Stuck) → ((w : WriterRead) → Among w contained.writers → Stands w) → Sees t (lists_settled n contained) (Err why) → why ≡ stuck.Fault
  settled_fail contained why stand (told, tells, sees) = by_told told tells sees
    where
      says : (answer : Answer) → Tells (list_folder n metadata) t (Ok answer) t → ListTells t n metadata answer
      says answer told_so = subst (ListTells t n metadata) (ap (λ (y : Effect). y.answer) told_so) (list_tells t n metadata).says_so

      by_told : (told : Told) → Tells (list_folder n metadata) t told t → Sees t (on_ok (measures_all n contained.writers) (told_by metadata (λ names. settled_named names []) (look_reply told))) (Err why) → why ≡ stuck.Fault
      by_told (Ok (Names names)) tells sees = names_fail names contained why stand (says (Names names) tells) (settled_named names []) refl sees
      by_told (Ok NoFolder) tells sees = absurd (has_it metadata container.has_metadata (says NoFolder tells))
      by_told (Ok NoRoom) tells sees = absurd (has_room (says NoRoom tells))
      by_told (Ok answer) tells sees = absurd (says answer tells)
      by_told (Err ToldFault) tells sees = one_trouble {X = Held} stuck.Fault why sees
      by_told (Err ToldNoMemory) tells sees = one_trouble {X = Held} stuck.Fault why sees

  -- ---- all

  pub held_fails : (why : Stuck) → Sees t (held_program n) (Err why) → why ≡ stuck.Fault
  held_fails why sees =
      let r = sees_in_two t (contained_program (unknown n)) (on_ok (lists_settled n)) (Err why) sees in
      by_value r.value r.first r.behind
    where
      by_value : (value : Result Contained Stuck) → Sees t (contained_program (unknown n)) value → Sees t (on_ok (lists_settled n) value) (Err why) → why ≡ stuck.Fault
      by_value (Err other) first behind = one_trouble {X = Held} other why behind ∙ contained_stuck other first
      by_value (Ok contained) first behind = settled_fail contained why (writers_stand contained first) behind
