-- What calls of a recovery leave of a room: all that a plain machine has of it, but for the entries of those who are buried.
use Rattle.std.proofs.Common.{◌≡◌, ◌⊎◌, ◌*◌, ℕ, Bool, List, [], ◌∷◌, ◌++◌, get_or, Some, None, Ok, refl, sym, ap, ◌∙◌, inl, inr, subst, arith}
use Rattle.std.specs.Prelude.{slice_get}
use mathlib.Core.Logic.{dite}
use native.Mathlib.Decide.{ℕ_discrete}
use Rattle.plfs_types.specs.declared.entries.Cover.{Cover}
use Rattle.plfs_types.specs.declared.names.Path.{Path}
use Rattle.plain_file.proofs.Facts.{Among}
use Rattle.container_layout.specs.declared.items.Item.TheVariants as item
use Rattle.container_layout.specs.Items.{IsItem}
use Rattle.container_layout.specs.Paths.{openhosts}
use Rattle.container_layout.proofs.Facts.{elsewhere, same_items}
use Rattle.store_api.specs.declared.step.Answer.TheVariants as answer
use Rattle.store_api.specs.declared.tree.Room.{Room}
use Rattle.store_api.specs.declared.tree.Tree.{Tree}
use Rattle.store_api.specs.Room.{has_folder}
use Rattle.store_api.specs.Step.{Step, create, cut, remove, sync}
use Rattle.store_laws.specs.Files.{file_at}
use Rattle.store_laws.specs.Naming.{IsPathOf, NamesFile, NamesFolder, NamesRoom}
use Rattle.store_laws.specs.Tells.{Tells}
use Rattle.store_laws.proofs.Facts.{acts_told, create_told, cut_told, keeps_rooms, remove_told, sync_told}
use Rattle.mount_model.specs.declared.call.Ask.{Ask}
use Rattle.mount_model.specs.declared.call.Call.{Call}
use Rattle.mount_model.specs.declared.call.Call.TheVariants.{Bury, Mend, MendMeta, SyncDropping}
use Rattle.mount_model.specs.declared.reply.Reply.TheVariants.{Done, Refused}
use Rattle.mount_model.specs.History.{Event}
use Rattle.mount_model.specs.Making.{CallOutcome, MakesAct, Refuses, Told, room_check}
use Rattle.mount_model.specs.Paths.{Name, dropping_path, index_path, metadata, open_path, trunc_path}
use Rattle.mount_model.specs.Recovering.{BuriesIt, MendsIt, MendsItsMeta, SyncsIt, bury_outcome, bury_step, done_outcome, mend_check, mend_meta_outcome, mend_meta_step, mend_step, mended_file, sync_dropping_step}
use Rattle.mount_model.specs.State.{State, Table}
use Rattle.mount_model.specs.Step.{Answers}
use Rattle.mount_model.proofs.Facts.{match_cases}
use Rattle.mount_sound.specs.Issued.{issued_after}
use Rattle.mount_sound.specs.Owed.{IsLawful, May}
use Rattle.mount_sound.specs.Recovered.{HasRecovered}
use Rattle.mount_sound.proofs.Facts.{has_recovered}
use Rattle.mount_model.specs.declared.names.OpenEntry.{OpenEntry}
use Rattle.mount_model.specs.Running.{unbroken}
use Rattle.reader_laws.specs.Bounds.{SparesIndex}
use Rattle.reader_laws.specs.Moments.{Dropping, IsNamed, IsSoundAt, Moment, landed, next_moment}
use Rattle.reader_laws.proofs.Gathered.Moments.Stepping.{lands_none_next}
use Rattle.plain_plays.specs.Mirrors.{room_then, room_told}
use Rattle.plain_plays.proofs.PlainSteps.ByName.Holding.{table_kept}
use Rattle.plain_plays.proofs.PlainSteps.ByName.Looking.{IsAlike, landed_alike}
use Rattle.plain_plays.proofs.PlainSteps.ByName.Turning.{Turns, turns_both}
use Rattle.plain_plays.proofs.PlainSteps.Flats.Aside.{same_all, same_elsewhere}

-- ---- from moment to moment

abbrev pub entry_at : ℕ → ℕ → OpenEntry
entry_at host writer = record { host = host; writer = writer }

-- The entries of these are taken off. All else that a plain machine has of the room is as it was, and so are all other rooms and the table.
pub record Leaves (n : ℕ) (gone : List OpenEntry) (old : Room) (m next : Moment) : Type 0 where
  pub new : Room
  pub turns : Turns n old new m next
  pub name : new.name ≡ old.name
  pub opens : has_folder new openhosts ≡ has_folder old openhosts
  pub truncs : (stamp size : ℕ) → file_at new (trunc_path stamp size) ≡ file_at old (trunc_path stamp size)
  pub landed_is : (d : Dropping) → IsNamed d → landed next d ≡ landed m d
  pub entries : (host writer : ℕ) → IsItem (item.OpenHost host writer) → (file_at new (open_path host writer) ≡ file_at old (open_path host writer)) ⊎ ((file_at new (open_path host writer) ≡ None) × Among (entry_at host writer) gone)
  pub taken : (e : OpenEntry) → IsItem (item.OpenHost e.host e.writer) → Among e gone → file_at new (open_path e.host e.writer) ≡ None
  pub table : next.state.table ≡ m.state.table
  pub times : next.state.times ≡ m.state.times
  pub serial : next.state.serial ≡ m.state.serial

among_first : (e : OpenEntry) (a b : List OpenEntry) → Among e a → Among e (a ++ b)
among_first e [] b x = absurd x
among_first e (y ∷ a) b (inl same) = inl same
among_first e (y ∷ a) b (inr x) = inr (among_first e a b x)

among_last : (e : OpenEntry) (a b : List OpenEntry) → Among e b → Among e (a ++ b)
among_last e [] b x = x
among_last e (y ∷ a) b x = inr (among_last e a b x)

in_either : (e : OpenEntry) (a b : List OpenEntry) → Among e (a ++ b) → Among e a ⊎ Among e b
in_either e [] b x = inr x
in_either e (y ∷ a) b (inl same) = inl (inl same)
in_either e (y ∷ a) b (inr x) = elim (in_either e a b x) as (λ _. Among e (y ∷ a) ⊎ Among e b) [ inl l ↦ inl (inr l) | inr r ↦ inr r ]

pub leaves_both : (n : ℕ) (a b : List OpenEntry) (old : Room) (m mid next : Moment) (x : Leaves n a old m mid) → Leaves n b x.new mid next → Leaves n (a ++ b) old m next
leaves_both n a b old m mid next x y = record {
  new = y.new;
  turns = turns_both n old x.new y.new m mid next x.turns y.turns;
  name = y.name ∙ x.name;
  opens = y.opens ∙ x.opens;
  truncs = λ stamp size. y.truncs stamp size ∙ x.truncs stamp size;
  landed_is = λ d named. y.landed_is d named ∙ x.landed_is d named;
  entries = λ host writer is. elim (y.entries host writer is) as (λ _. (file_at y.new (open_path host writer) ≡ file_at old (open_path host writer)) ⊎ ((file_at y.new (open_path host writer) ≡ None) × Among (entry_at host writer) (a ++ b))) [
    | inr (none, there) ↦ inr (none, among_last (entry_at host writer) a b there)
    | inl same ↦ elim (x.entries host writer is) as (λ _. (file_at y.new (open_path host writer) ≡ file_at old (open_path host writer)) ⊎ ((file_at y.new (open_path host writer) ≡ None) × Among (entry_at host writer) (a ++ b))) [
      | inl before ↦ inl (same ∙ before)
      | inr (none, there) ↦ inr (same ∙ none, among_first (entry_at host writer) a b there)
    ]
  ];
  taken = λ e is among. elim (in_either e a b among) as (λ _. file_at y.new (open_path e.host e.writer) ≡ None) [
    | inr last ↦ y.taken e is last
    | inl first ↦ elim (y.entries e.host e.writer is) as (λ _. file_at y.new (open_path e.host e.writer) ≡ None) [
      | inl same ↦ same ∙ x.taken e is first
      | inr (none, there) ↦ none
    ]
  ];
  table = y.table ∙ x.table;
  times = y.times ∙ x.times;
  serial = y.serial ∙ x.serial;
}

pub leaves_alike : (n : ℕ) (old : Room) (m next : Moment) → room_then m n ≡ Some old → IsAlike m next → Leaves n [] old m next
leaves_alike n old m next at l = record {
  new = old;
  turns = record {
    was = at;
    now = ap (λ t. room_told t n) l.tree ∙ at;
    others = λ k apart. ap (λ t. room_told t k) l.tree;
    issued = l.issued;
    writers = ap (λ (t : Table). t.writers) l.table;
    marks = l.marks;
    mount = l.mount;
    drawn = let same = l.serial in omega (arith, same);
  };
  name = refl;
  opens = refl;
  truncs = λ stamp size. refl;
  landed_is = λ d named. landed_alike m next d l.tree;
  entries = λ host writer is. inl refl;
  taken = λ e is among. absurd among;
  table = l.table;
  times = l.times;
  serial = l.serial;
}

-- ---- an act

-- The step changes no other room, and in this one no name, no folder of open writers, no truncate, and no entry but of these.
record IsMending (n : ℕ) (gone : List OpenEntry) (step : Step) : Type 0 where
  alone : (tree after : Tree) (told : Told) → Tells step tree told after → (k : ℕ) → (k ≡ n → ⊥) → slice_get after.rooms k ≡ slice_get tree.rooms k
  room : NamesRoom step n → ⊥
  folder : NamesFolder step n openhosts → ⊥
  trunc : (stamp size : ℕ) → NamesFile step n (trunc_path stamp size) → ⊥
  opens : (host writer : ℕ) → IsItem (item.OpenHost host writer) → (NamesFile step n (open_path host writer) → ⊥) ⊎ Among (entry_at host writer) gone

first_byte : (a b : Name) → a ≡ b → get_or a 0 0 ≡ get_or b 0 0
first_byte a b e = ap (λ (n : Name). get_or n 0 0) e

sync_mending : (n : ℕ) (folder file : Name) → IsMending n [] (sync n folder file)
sync_mending n folder file = record {
  alone = λ tree after told t k apart. elim (sync_told n (record { folder = folder; file = file }) tree told after t).either as (λ _. slice_get after.rooms k ≡ slice_get tree.rooms k) [
    | inl c ↦ same_elsewhere n tree after c.new c.gives k apart
    | inr same ↦ same_all tree after same k
  ];
  room = λ x. x;
  folder = λ x. x;
  trunc = λ stamp size x. x;
  opens = λ host writer is. inl (λ x. x);
}

meta_mending : (n : ℕ) (file : Name) → IsMending n [] (create n metadata file)
meta_mending n file = record {
  alone = λ tree after told t k apart. elim (create_told n (record { folder = metadata; file = file }) tree told after t).either as (λ _. slice_get after.rooms k ≡ slice_get tree.rooms k) [
    | inl c ↦ same_elsewhere n tree after c.new c.gives k apart
    | inr same ↦ same_all tree after same k
  ];
  room = λ x. x;
  folder = λ x. x;
  trunc = λ stamp size x. elsewhere (first_byte _ _ x.1.0) refl;
  opens = λ host writer is. inl (λ x. elsewhere (first_byte _ _ x.1.0) refl);
}

cut_mending : (n host writer len : ℕ) → IsMending n [] (cut n (index_path host writer).folder (index_path host writer).file len)
cut_mending n host writer len = record {
  alone = λ tree after told t k apart. elim (cut_told n (index_path host writer) len tree told after t).either as (λ _. slice_get after.rooms k ≡ slice_get tree.rooms k) [
    | inl c ↦ same_elsewhere n tree after c.new c.gives k apart
    | inr same ↦ same_all tree after same k
  ];
  room = λ x. x;
  folder = λ x. x;
  trunc = λ stamp size x. elsewhere (first_byte _ _ x.1.0) refl;
  opens = λ h w is. inl (λ x. elsewhere (first_byte _ _ x.1.0) refl);
}

bury_mending : (n : ℕ) (e : OpenEntry) → IsItem (item.OpenHost e.host e.writer) → IsMending n (e ∷ []) (remove n openhosts (open_path e.host e.writer).file)
bury_mending n e is_e = record {
  alone = λ tree after told t k apart. elim (remove_told n (record { folder = openhosts; file = (open_path e.host e.writer).file }) tree told after t).either as (λ _. slice_get after.rooms k ≡ slice_get tree.rooms k) [
    | inl c ↦ same_elsewhere n tree after c.new c.gives k apart
    | inr same ↦ same_all tree after same k
  ];
  room = λ x. x;
  folder = λ x. x;
  trunc = λ stamp size x. elsewhere (first_byte _ _ x.1.0) refl;
  opens = λ host writer is. dite (ℕ_discrete host e.host)
      (λ h. dite (ℕ_discrete writer e.writer)
      (λ w. inr (inl (λ i. entry_at (h i) (w i))))
      (λ other. inl (λ x. other (numbers host writer is x.1).1)))
      (λ other. inl (λ x. other (numbers host writer is x.1).0));
}
  where
    numbers : (host writer : ℕ) → IsItem (item.OpenHost host writer) → IsPathOf openhosts (open_path e.host e.writer).file (open_path host writer) → (host ≡ e.host) × (writer ≡ e.writer)
    numbers host writer is at =
        let same : item.OpenHost host writer ≡ item.OpenHost e.host e.writer = same_items (item.OpenHost host writer) (item.OpenHost e.host e.writer) is is_e (λ i. record { folder = at.0 i; file = at.1 i }) in
        (cc, cc)

-- ---- what was told leaves the table

done_same : (folder file : Name) (table : Table) (told : Told) → (done_outcome folder file table told).table ≡ table
done_same folder file table (Ok answer.Made) = refl
done_same folder file table told = refl

meta_same : (file : Name) (table : Table) (told : Told) → (mend_meta_outcome file table told).table ≡ table
meta_same file table (Ok answer.Made) = refl
meta_same file table (Ok (answer.Old room)) = refl
meta_same file table told = refl

bury_same : (file : Name) (table : Table) (told : Told) → (bury_outcome file table told).table ≡ table
bury_same file table (Ok answer.Made) = refl
bury_same file table (Ok answer.Absent) = refl
bury_same file table (Ok answer.NoFolder) = refl
bury_same file table told = refl

-- ---- the calls

module _ (m : Moment) (s : IsSoundAt m) (n : ℕ) (old : Room) (at : room_then m n ≡ Some old) (me : ℕ) (event : Event) (rest : List Event) (lawful : IsLawful m.state (event ∷ rest)) where
  abbrev Next : Moment
  Next = next_moment m event

  leaves_by : (gone : List OpenEntry) (q : Call) (step : Step) (outcome : Told → CallOutcome) (d : MakesAct step outcome m.state Done event.after) → IsMending n gone step → event.ask ≡ unbroken q → issued_after m.issued m.state q event.reply ≡ m.issued → ((x : Dropping) → SparesIndex q x) → (outcome d.told).table ≡ m.state.table
      → ((e : OpenEntry) → Among e gone → (new : Room) → room_then Next n ≡ Some new → file_at new (open_path e.host e.writer) ≡ None) → Leaves n gone old m Next
  leaves_by gone q step outcome d mending asked issued spares same none =
      let tree : Tree = s.shape.tree in
      let t = acts_told step m.state.store event.after.store tree d.told s.shape.told d.made in
      let in_tree : slice_get tree.rooms n ≡ Some old = sym (ap (λ x. room_told x n) s.shape.told) ∙ at in
      let k = keeps_rooms step tree d.told t.0 t.2 n old in_tree in
      let now : room_then Next n ≡ Some k.0 = ap (λ x. room_told x n) t.1 ∙ k.1 in
      let table : event.after.table ≡ m.state.table = ap (λ (x : State). x.table) d.after ∙ same in
      let serial : event.after.serial ≡ m.state.serial = ap (λ (x : State). x.serial) d.after in
      let kept = table_kept m event q asked issued (ap (λ (x : Table). x.writers) table) (ap (λ (x : State). x.marks) d.after) (ap (λ (x : State). x.mount) d.after) (omega (arith, serial)) in
      record {
        new = k.0;
        turns = record {
          was = at;
          now = now;
          others = λ j apart. ap (λ x. room_told x j) t.1 ∙ mending.alone tree t.0 d.told t.2 j apart ∙ sym (ap (λ x. room_told x j) s.shape.told);
          issued = kept.issued;
          writers = kept.writers;
          marks = kept.marks;
          mount = kept.mount;
          drawn = kept.drawn;
        };
        name = k.2.name mending.room;
        opens = k.2.folders openhosts mending.folder;
        truncs = λ stamp size. k.2.files (trunc_path stamp size) (mending.trunc stamp size);
        landed_is = λ x named. lands_none_next m event rest x named lawful s (subst (λ (a : Ask). SparesIndex a.call x) (sym asked) (spares x));
        entries = λ host writer is. elim (mending.opens host writer is) as (λ _. (file_at k.0 (open_path host writer) ≡ file_at old (open_path host writer)) ⊎ ((file_at k.0 (open_path host writer) ≡ None) × Among (entry_at host writer) gone)) [
          | inl spared ↦ inl (k.2.files (open_path host writer) spared)
          | inr there ↦ inr (none (entry_at host writer) there k.0 now, there)
        ];
        taken = λ e is among. none e among k.0 now;
        table = table;
        times = ap (λ (x : State). x.times) d.after;
        serial = serial;
      }

  pub sync_leaves : (host writer : ℕ) (is_log : Bool) → event.ask ≡ unbroken (SyncDropping n host writer is_log) → Answers m.state me (SyncDropping n host writer is_log) Done event.after → Leaves n [] old m Next
  sync_leaves host writer is_log asked a = elim (match_cases (room_check m.state n) (SyncsIt n host writer is_log m.state Done event.after) (λ why. Refuses why m.state Done event.after) a) as (λ _. Leaves n [] old m Next) [
    | inr (why, some, refused) ↦ absurd (let e : Done ≡ Refused why = refused.0 in cc)
    | inl (free, d) ↦
        let path : Path = dropping_path is_log host writer in
        leaves_by [] (SyncDropping n host writer is_log) (sync_dropping_step n host writer is_log) (done_outcome path.folder path.file m.state.table) d.makes (sync_mending n path.folder path.file) asked refl (λ x. tt) (done_same path.folder path.file m.state.table d.makes.told) (λ e among. absurd among)
  ]

  pub mend_leaves : (host writer count : ℕ) → event.ask ≡ unbroken (Mend n host writer count) → Answers m.state me (Mend n host writer count) Done event.after → Leaves n [] old m Next
  mend_leaves host writer count asked a = elim (match_cases (mend_check m.state n writer) (MendsIt n host writer count m.state Done event.after) (λ why. Refuses why m.state Done event.after) a) as (λ _. Leaves n [] old m Next) [
    | inr (why, some, refused) ↦ absurd (let e : Done ≡ Refused why = refused.0 in cc)
    | inl (free, d) ↦
        let path : Path = index_path host writer in
        leaves_by [] (Mend n host writer count) (mend_step n host writer count) (done_outcome path.folder path.file m.state.table) d.makes (cut_mending n host writer (40 * count)) asked refl (λ x. tt) (done_same path.folder path.file m.state.table d.makes.told) (λ e among. absurd among)
  ]

  pub meta_leaves : (host : ℕ) (cover : Cover) (last : ℕ) → event.ask ≡ unbroken (MendMeta n host cover last) → Answers m.state me (MendMeta n host cover last) Done event.after → Leaves n [] old m Next
  meta_leaves host cover last asked a = elim (match_cases (mend_check m.state n cover.writer) (MendsItsMeta n host cover last m.state Done event.after) (λ why. Refuses why m.state Done event.after) a) as (λ _. Leaves n [] old m Next) [
    | inr (why, some, refused) ↦ absurd (let e : Done ≡ Refused why = refused.0 in cc)
    | inl (free, d) ↦
        let file : Name = mended_file host cover last in
        leaves_by [] (MendMeta n host cover last) (mend_meta_step n host cover last) (mend_meta_outcome file m.state.table) d.makes (meta_mending n file) asked refl (λ x. tt) (meta_same file m.state.table d.makes.told) (λ e among. absurd among)
  ]

  -- the writer is buried
  pub bury_leaves : (e : OpenEntry) → IsItem (item.OpenHost e.host e.writer) → May m.state me (unbroken (Bury n e.host e.writer)) → IsSoundAt Next → event.ask ≡ unbroken (Bury n e.host e.writer) → Answers m.state me (Bury n e.host e.writer) Done event.after → Leaves n (e ∷ []) old m Next
  bury_leaves e is may s2 asked a = elim (match_cases (mend_check m.state n e.writer) (BuriesIt n e.host e.writer m.state Done event.after) (λ why. Refuses why m.state Done event.after) a) as (λ _. Leaves n (e ∷ []) old m Next) [
    | inr (why, some, refused) ↦ absurd (let x : Done ≡ Refused why = refused.0 in cc)
    | inl (free, d) ↦
        let file : Name = (open_path e.host e.writer).file in
        leaves_by (e ∷ []) (Bury n e.host e.writer) (bury_step n e.host e.writer) (bury_outcome file m.state.table) d.makes (bury_mending n e is) asked refl (λ x. tt) (bury_same file m.state.table d.makes.told)
        (λ x among new now. elim among as (λ _. file_at new (open_path x.host x.writer) ≡ None) [ inl same ↦ subst (λ (y : OpenEntry). file_at new (open_path y.host y.writer) ≡ None) (sym same) (taken_off new now) | inr later ↦ absurd later ])
  ]
    where
      done : HasRecovered (Bury n e.host e.writer) event.after
      done = has_recovered m.issued m.state event.after me (unbroken (Bury n e.host e.writer)) s may (record { does = a })

      taken_off : (new : Room) → room_then Next n ≡ Some new → file_at new (open_path e.host e.writer) ≡ None
      taken_off new now =
          let x = done s2.shape.tree s2.shape.told in
          let both : Some x.0 ≡ Some new = sym x.1 ∙ sym (ap (λ t. room_told t n) s2.shape.told) ∙ now in
          let one : x.0 ≡ new = cc in
          subst (λ r. file_at r (open_path e.host e.writer) ≡ None) one x.2
