-- What later readers see of a source that was copied.
use Rattle.std.proofs.Common.{◌≡◌, inl, inr, ℕ, ◌+◌, Bool, true, Option, Some, None, List, [], ◌∷◌, ◌++◌, length, take, map, refl, sym, ap, ◌∙◌, subst, arith}
use Rattle.std.specs.List.{AllByRecursion}
use Rattle.std.proofs.lemmas.List.{append-nil, append_assoc}
use Rattle.std.proofs.Math.Seq.{take-append_seam}
use Rattle.plain_file.specs.File.{plain}
use Rattle.mount_model.specs.History.{Event}
use Rattle.mount_model.specs.Paths.{Name}
use Rattle.mount_model.specs.State.{State}
use Rattle.mount_sound.specs.Ledger.{AreWritesOf, Written}
use Rattle.mount_sound.specs.Owed.{IsLawful}
use Rattle.mount_sound.proofs.Facts.{lawful_first, writes_take}
use Rattle.reader_laws.specs.Gathering.{Gathered}
use Rattle.reader_laws.specs.Moments.{Dropping, IsSoundAt, Moment, file_told, issued_by, landed_by, moment_after, next_moment}
use Rattle.reader_laws.specs.View.{changes_in, cut_off, view, writes_in}
use Rattle.mount_sound.specs.Ledger.{change_of}
use Rattle.reader_laws.proofs.Gathered.Facts.{legal_rest, sound_after}
use Rattle.index_reader.specs.declared.opened.OpenReader.{OpenReader}
use Rattle.reader_laws.specs.Opened.{HasOpenedIn}
use Rattle.packing_laws.specs.Lasting.{HoldsWrites, IsLater, KeepsWrites}
use Rattle.packing_laws.proofs.Facts.{KeptLaw, keeps_later, keeps_mounts, opened_holds}
use Rattle.edge_io.specs.Source.{Given, HandsOver}
use Rattle.mount_model.specs.Entering.{next_id}
use Rattle.mount_model.specs.Paths.{index_path, log_path, trunc_path}
use Rattle.mount_sound.specs.Dropping.{bytes_of}
use Rattle.mount_sound.specs.There.{entries_there}
use Rattle.mount_sound.proofs.Facts.{ActsOn, OfEachAct, step_acts}
use Rattle.store_api.specs.declared.tree.Tree.{Tree}
use Rattle.store_laws.specs.Outcomes.{IsLook}
use Rattle.store_laws.proofs.Facts.{look_told}
use Rattle.lone_flow.specs.Looking.{GreetsOrLooks}
use Rattle.copy_core.specs.declared.copying.Copied.{Copied}
use Rattle.copy_core.specs.Blocks.{joined}
use Rattle.edge_io.specs.Source.{IsAtEnd}
use Rattle.copy_core.specs.Writing.{EndsAs}
use Rattle.put_program.specs.Alone.{HasAlone}
use Rattle.put_program.specs.Copied.{ArePlaced, HasCopied, IsKeptCopy, copied_by}
use Rattle.put_program.specs.CopyingLawsSeen.{LaterReadersSee}
use Rattle.put_program.specs.Shown.{IsStill}
use Rattle.put_program.proofs.Copyings.Views.{seen_alone}
use Rattle.put_program.proofs.Copyings.Files.{plain_blocks}

-- ---- each later reader holds all writes

then_sound : (name : Name) (blocks : List (List ℕ)) (id : ℕ) (start : Moment) (end : State) → IsSoundAt start → (c : HasCopied name blocks id start end) → IsSoundAt (copied_by start c)
then_sound name blocks id start end sound c = sound_after (moment_after start c.opening) c.events c.lawful_then (sound_after start c.opening c.lawful sound)

pub held : KeptLaw → (name : Name) (blocks : List (List ℕ)) (id : ℕ) (start : Moment) (end : State) (mounts caller : ℕ) (now : Moment) (events : List Event) (reader : OpenReader) → IsSoundAt start → (c : HasCopied name blocks id start end) → IsLater mounts (copied_by start c) now
    → IsLawful now.state events → (o : HasOpenedIn caller now events reader) → c.writer.room ≡ reader.room → HoldsWrites (moment_after (moment_after now o.before) (o.first ∷ o.more)) o.cut c.writer c.writes
held law name blocks id start end mounts caller now events reader sound c later lawful o its =
    let k = keeps_mounts law mounts (copied_by start c) now c.writer c.writes (then_sound name blocks id start end sound c) later c.keeps in
    opened_holds law caller now events reader c.writer c.writes k.0 lawful o its k.1

-- ---- a cut with the writes of one writer alone

writes_both : (m : Moment) (cut rest : List Gathered) → writes_in m (cut ++ rest) ≡ writes_in m cut ++ writes_in m rest
writes_both m [] rest = refl
writes_both m (g ∷ cut) rest = ap (λ ws. take g.count (issued_by m g.dropping) ++ ws) (writes_both m cut rest) ∙ sym (append_assoc (take g.count (issued_by m g.dropping)) (writes_in m cut) (writes_in m rest))

none_taken : (n : ℕ) (writes : List Written) → n ≡ 0 → take n writes ≡ []
none_taken n writes none = ap (λ k. take k writes) none

no_writes : (m : Moment) (cut : List Gathered) → AllByRecursion (λ (g : Gathered). g.count ≡ 0) cut → writes_in m cut ≡ []
no_writes m [] none = refl
no_writes m (g ∷ cut) none = ap (λ ws. ws ++ writes_in m cut) (none_taken g.count (issued_by m g.dropping) none.0) ∙ no_writes m cut none.1

own_writes : (m : Moment) (d : Dropping) (n : ℕ) (cut : List Gathered) → HasAlone d n cut → writes_in m cut ≡ take n (issued_by m d)
own_writes m d n cut a =
    ap (writes_in m) a.split
    ∙ writes_both m a.before (a.own ∷ a.behind)
    ∙ ap (λ ws. ws ++ writes_in m (a.own ∷ a.behind)) (no_writes m a.before a.none_before)
    ∙ ap (λ ws. take a.own.count (issued_by m a.own.dropping) ++ ws) (no_writes m a.behind a.none_behind)
    ∙ append-nil (take a.own.count (issued_by m a.own.dropping))
    ∙ ap (λ k. take k (issued_by m a.own.dropping)) a.counts
    ∙ ap (λ (x : Dropping). take n (issued_by m x)) a.is

-- as many writes as blocks
as_many : (at : ℕ) (blocks : List (List ℕ)) (writes : List Written) → ArePlaced at blocks writes → length blocks ≡ length writes
as_many at [] [] placed = refl
as_many at [] (w ∷ writes) placed = absurd placed
as_many at (b ∷ blocks) [] placed = absurd placed
as_many at (b ∷ blocks) (w ∷ writes) placed = (let rest = as_many (at + length b) blocks writes placed.2 in omega (arith, rest))

first_writes : (m : Moment) (d : Dropping) (writes : List Written) → KeepsWrites m d writes → take (length writes) (issued_by m d) ≡ writes
first_writes m d writes (inl none) = ap (λ (ws : List Written). take (length ws) (issued_by m d)) none ∙ sym none
first_writes m d writes (inr k) = ap (take (length writes)) k.first.1 ∙ take-append_seam writes k.first.0

-- the file of these writes alone
alone_file : (m : Moment) (d : Dropping) (blocks : List (List ℕ)) (writes : List Written) → IsSoundAt m → ArePlaced 0 blocks writes → take (length writes) (issued_by m d) ≡ writes → plain (map change_of writes) ≡ joined blocks
alone_file m d blocks writes sound placed first =
    let of : AreWritesOf d.writer writes = subst (AreWritesOf d.writer) first (writes_take (length writes) d.writer (issued_by m d) (sound.sound.writes d.room d.writer)) in
    plain_blocks d.writer blocks writes of.in_order of.full placed

pub sees : KeptLaw → (name : Name) (blocks : List (List ℕ)) (id : ℕ) (start : Moment) (end : State) (mounts caller : ℕ) (now : Moment) (events : List Event) (reader : OpenReader) → IsSoundAt start → (c : HasCopied name blocks id start end) → IsLater mounts (copied_by start c) now
    → IsLawful now.state events → (o : HasOpenedIn caller now events reader) → c.writer.room ≡ reader.room → HasAlone c.writer (length blocks) o.cut → reader.truncs ≡ [] → view (moment_after (moment_after now o.before) (o.first ∷ o.more)) o.cut reader.truncs ≡ joined blocks
sees law name blocks id start end mounts caller now events reader sound c later lawful o its alone none =
    let k = keeps_mounts law mounts (copied_by start c) now c.writer c.writes (then_sound name blocks id start end sound c) later c.keeps in
    let opening : List Event = o.first ∷ o.more in
    let all : IsLawful now.state (o.before ++ (opening ++ o.listing ∷ o.later)) = subst (λ (es : List Event). IsLawful now.state es) o.split lawful in
    let first : IsLawful now.state o.before = lawful_first now.state o.before (opening ++ o.listing ∷ o.later) all in
    let rest : IsLawful (moment_after now o.before).state (opening ++ o.listing ∷ o.later) = legal_rest now o.before (opening ++ o.listing ∷ o.later) all in
    let here : IsLawful (moment_after now o.before).state opening = lawful_first (moment_after now o.before).state opening (o.listing ∷ o.later) rest in
    let sound_first : IsSoundAt (moment_after now o.before) = sound_after now o.before first k.0 in
    let to : Moment = moment_after (moment_after now o.before) opening in
    let sound_to : IsSoundAt to = sound_after (moment_after now o.before) opening here sound_first in
    let keeps : KeepsWrites to c.writer c.writes = keeps_later law (moment_after now o.before) opening c.writer c.writes sound_first here (keeps_later law now o.before c.writer c.writes k.0 first k.1) in
    let taken : take (length c.writes) (issued_by to c.writer) ≡ c.writes = first_writes to c.writer c.writes keeps in
    let seen : writes_in to o.cut ≡ c.writes = own_writes to c.writer (length blocks) o.cut alone ∙ ap (λ n. take n (issued_by to c.writer)) (as_many 0 blocks c.writes c.placed) ∙ taken in
    ap (λ ts. plain (changes_in to o.cut ts)) none
    ∙ ap (λ ws. plain (map change_of ws ++ map cut_off [])) seen
    ∙ ap plain (append-nil (map change_of c.writes))
    ∙ alone_file to c.writer blocks c.writes sound_to c.placed taken

-- ---- a container of which the writes show alone

pub sees_alone : KeptLaw → (name : Name) (blocks : List (List ℕ)) (id : ℕ) (start : Moment) (end : State) → IsSoundAt start → (c : HasCopied name blocks id start end) → LaterReadersSee start c (joined blocks)
sees_alone law name blocks id start end sound c mounts caller now events reader later lawful o its still =
    let k = keeps_mounts law mounts (copied_by start c) now c.writer c.writes (then_sound name blocks id start end sound c) later c.keeps in
    let opening : List Event = o.first ∷ o.more in
    let all : IsLawful now.state (o.before ++ (opening ++ o.listing ∷ o.later)) = subst (λ (es : List Event). IsLawful now.state es) o.split lawful in
    let first : IsLawful now.state o.before = lawful_first now.state o.before (opening ++ o.listing ∷ o.later) all in
    let rest : IsLawful (moment_after now o.before).state (opening ++ o.listing ∷ o.later) = legal_rest now o.before (opening ++ o.listing ∷ o.later) all in
    let here : IsLawful (moment_after now o.before).state opening = lawful_first (moment_after now o.before).state opening (o.listing ∷ o.later) rest in
    let sound_first : IsSoundAt (moment_after now o.before) = sound_after now o.before first k.0 in
    let to : Moment = moment_after (moment_after now o.before) opening in
    let sound_to : IsSoundAt to = sound_after (moment_after now o.before) opening here sound_first in
    let keeps : KeepsWrites to c.writer c.writes = keeps_later law (moment_after now o.before) opening c.writer c.writes sound_first here (keeps_later law now o.before c.writer c.writes k.0 first k.1) in
    let taken : take (length c.writes) (issued_by to c.writer) ≡ c.writes = first_writes to c.writer c.writes keeps in
    let holds : HoldsWrites to o.cut c.writer c.writes = held law name blocks id start end mounts caller now events reader sound c later lawful o its in
    seen_alone (copied_by start c) (moment_after now o.before) to reader.room o.cut reader.truncs c.writer c.writes (then_sound name blocks id start end sound c) sound_to o.has.view its c.shows_only still taken holds
    ∙ alone_file to c.writer blocks c.writes sound_to c.placed taken

-- ---- all of the source

pub all_given : (name : Name) (start : Moment) (old : Given) (copied : Copied) (end : State) (new : Given) (bytes : List ℕ) → (k : IsKeptCopy name start old copied end new) → copied.is_whole ≡ true → old.left ≡ Some bytes → joined k.blocks ≡ bytes
all_given name start old copied end new bytes k whole given =
    by old.left new.left given k.handed (subst (λ (b : Bool). EndsAs b old new) whole k.ends).0
  where
    some_is : (x : List ℕ) → Some x ≡ Some bytes → x ≡ bytes
    some_is x same = cc

    by : (left rest : Option (List ℕ)) → left ≡ Some bytes → HandsOver (joined k.blocks) left rest → IsAtEnd rest → joined k.blocks ≡ bytes
    by None rest is handed at_end = absurd (cc)
    by (Some all) rest is (more, new, had) at_end =
        let none : more ≡ [] = subst (λ (o : Option (List ℕ)). IsAtEnd o) new at_end in
        sym (append-nil (joined k.blocks)) ∙ ap (λ r. joined k.blocks ++ r) (sym none) ∙ sym had ∙ some_is all is

-- ---- a container that is still

still_so : (m to : Moment) (room : ℕ) → to.state.store.tree ≡ m.state.store.tree → IsStill m to room
still_so m to room tree = record {
  no_more_landed = λ d named its. ([], sym (append-nil (landed_by to d) ∙ ap (λ t. entries_there (bytes_of (file_told t d.room (index_path d.host d.writer))) (bytes_of (file_told t d.room (log_path d.host d.writer)))) tree));
  no_more_truncates = λ stamp size had. record { is_item = had.is_item; bytes = had.bytes; there = ap (λ t. file_told t room (trunc_path stamp size)) (sym tree) ∙ had.there };
  no_fewer_truncates = λ stamp size had. record { is_item = had.is_item; bytes = had.bytes; there = ap (λ t. file_told t room (trunc_path stamp size)) tree ∙ had.there };
}

look_acts : (old : State) (caller : ℕ) → OfEachAct old.table (next_id old) caller (λ call step. GreetsOrLooks call → IsLook step)
look_acts old caller = record {
  looks = λ call step look asks. look;
  rooms = λ name no. absurd no;
  enters = λ room host most no. absurd no;
  hostdirs = λ writer row no. absurd no;
  indices = λ writer row there no. absurd no;
  logs = λ writer row there no. absurd no;
  writes = λ writer row there at bytes no. absurd no;
  flushes = λ writer row there no. absurd no;
  log_syncs = λ writer row no. absurd no;
  index_syncs = λ writer row no. absurd no;
  metas = λ writer row no. absurd no;
  exits = λ writer row there no. absurd no;
  holds = λ room no. absurd no;
  truncates = λ holder h there stamp size top item below no. absurd no;
  renames = λ holder h there to no. absurd no;
  releases = λ holder h there no. absurd no;
  starts = λ room f is no. absurd no;
  puts = λ flat f there bytes no. absurd no;
  flat_syncs = λ flat f there no. absurd no;
  installs = λ flat f there no. absurd no;
  packs = λ room host writer f is pair no. absurd no;
  dropping_syncs = λ room host writer is_log pair no. absurd no;
  mends = λ room host writer count pair no. absurd no;
  mend_metas = λ room host cover last pair no. absurd no;
  buries = λ room host writer pair no. absurd no;
  mend_holds = λ room no. absurd no;
}

look_tree : (m : Moment) (e : Event) → IsSoundAt m → IsLawful m.state (e ∷ []) → GreetsOrLooks e.ask.call → e.after.store.tree ≡ m.state.store.tree
look_tree m e sound lawful looks =
    let g = step_acts (λ call step. GreetsOrLooks call → IsLook step) m.state e.after e.caller e.ask e.reply sound.shape.tree (look_acts m.state e.caller) lawful.1 sound.shape.told in
    g.1 ∙ ap (λ t. Some t) (same g.0 g.2) ∙ sym sound.shape.told
  where
    same : (after : Tree) → ActsOn (λ step. GreetsOrLooks e.ask.call → IsLook step) sound.shape.tree after → after ≡ sound.shape.tree
    same after (inl still) = still
    same after (inr a) = look_told a.step sound.shape.tree a.told after (a.holds looks) a.tells

looks_tree : (m : Moment) (events : List Event) → IsSoundAt m → IsLawful m.state events → AllByRecursion (λ (e : Event). GreetsOrLooks e.ask.call) events → (moment_after m events).state.store.tree ≡ m.state.store.tree
looks_tree m [] sound lawful looks = refl
looks_tree m (e ∷ events) sound lawful looks =
    let one : IsLawful m.state (e ∷ []) = (lawful.0, lawful.1, tt) in
    looks_tree (next_moment m e) events (sound_after m (e ∷ []) one sound) lawful.2 looks.1 ∙ look_tree m e sound one looks.0

pub looks_still : (m : Moment) (events : List Event) (room : ℕ) → IsSoundAt m → IsLawful m.state events → AllByRecursion (λ (e : Event). GreetsOrLooks e.ask.call) events → IsStill m (moment_after m events) room
looks_still m events room sound lawful looks = still_so m (moment_after m events) room (looks_tree m events sound lawful looks)
