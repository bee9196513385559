-- A migration shows no damage.
use Rattle.std.proofs.Common.{◌≡◌, ◌≤◌, ◌-◌, ◌*◌, ◌/◌, ℕ, zero, suc, nat_lt, Bool, true, false, List, [], ◌∷◌, ◌++◌, length, take, drop, Option, Some, None, refl, sym, inl, inr, subst, arith}
use Rattle.std.specs.Prelude.{◌==◌, ◌&&◌, not, Result, Ok, Err, if◌then◌else◌}
use Rattle.std.specs.List.{AllByRecursion}
use Rattle.std.proofs.lemmas.Bool.Decides.{nat_tests}
use Rattle.plain_file.proofs.Facts.{Among}
use Rattle.plfs_types.specs.declared.entries.Entry.{Entry}
use Rattle.plfs_types.specs.declared.names.Path.{Path}
use Rattle.index_entry.specs.Spelling.{spelling_all}
use Rattle.index_entry.proofs.Facts.{length-spelling_all}
use Rattle.mount_model.specs.declared.call.Call.{Call}
use Rattle.mount_model.specs.declared.call.Call.TheVariants.{InstallFlat, Look, PutFlat, StartPack, SyncFlat}
use Rattle.mount_model.specs.declared.call.Look.TheVariants.{Length, List as ListFolder, Read, Top}
use Rattle.mount_model.specs.declared.call.Ask.{Ask}
use Rattle.mount_model.specs.declared.reply.Reply.{Reply}
use Rattle.mount_model.specs.declared.reply.Reply.TheVariants.{Damaged, Done, Looked}
use Rattle.mount_model.specs.Paths.{Name, index_path, metadata}
use Rattle.mount_model.specs.State.{State}
use Rattle.mount_model.specs.Step.{IsStep}
use Rattle.mount_sound.specs.Ledger.{Ledger}
use Rattle.mount_sound.specs.Owed.{May}
use Rattle.mount_sound.specs.Sound.{IsSoundFor}
use Rattle.mount_undamaged.specs.Damage.{ShowsNoDamage}
use Rattle.mount_model.specs.declared.stuck.Stuck.{Stuck}
use Rattle.mount_model.specs.Running.{Runs, unbroken}
use Rattle.mount_model.specs.Program.{done}
use Rattle.mount_model.specs.declared.names.Metadata.{Metadata}
use Rattle.mount_model.specs.FlowListed.{file_in, or_trouble, told_by}
use Rattle.mount_model.specs.Names.{meta_in}
use Rattle.mount_model.specs.Order.{metadata_by_writer}
use Rattle.mount_model.specs.FlowReplies.{Tries, bytes_in, damage, failure, given, on_ok, trouble, names_in}
use Rattle.index_reader.specs.declared.listing.Dropping.{Dropping as Listed}
use Rattle.index_reader.specs.declared.listing.Listing.{Listing}
use Rattle.index_reader.specs.Opening.{no_flat, scans}
use Rattle.index_reader.specs.Scanning.{nothing_found}
use Rattle.index_reader.specs.Tops.{shown, top_shows}
use Rattle.container_layout.specs.Paths.{hostdirs}
use Rattle.migrate_core.specs.declared.migrated.Migrated.{Migrated}
use Rattle.migrate_core.specs.Chosen.{chosen, chosen_behind, is_again, is_open_to, metas_named}
use Rattle.migrate_core.specs.Counting.{noted, nothing}
use Rattle.migrate_core.specs.Entries.{checked, no_entries}
use Rattle.migrate_core.specs.Longest.{packing}
use Rattle.migrate_core.specs.Migrating.{lists_metadata, migrate_at_program, migrate_program, migrates, migrates_listed, migrates_shown, scans_then}
use Rattle.migrate_core.specs.Words.{Fate, Packed, Tail, is_packed, passed_over}
use Rattle.migrate_core.specs.Writers.{counts_of, flat_in, if_done, installs, or_damage, puts, reads, reads_left, sized, starts, syncs, writer_program}
use Rattle.mount_model.specs.Entries.{next_read, reads_of}
use Rattle.index_reader.specs.Replies.{number_in}
use Rattle.migrate_laws.proofs.Facts.{IsWhole, IsWholeIn, all_ordered, all_push, whole_stays}
use Rattle.reader_laws.proofs.Facts.{HasShown, shown_at, shown_fails, shown_stays}
use Rattle.trouble_laws.specs.Undamaged.{IsNoDamage, IsUndamaged}
use Rattle.trouble_laws.proofs.Finding.{Anything, anything_stays, failure_plain, found_ends}
use Rattle.trouble_laws.proofs.Flattening.{fault_plain, plain_if}
use Rattle.trouble_laws.proofs.Listed.{IsPlain, list_ends, metas_there, top_ends}
use Rattle.trouble_laws.proofs.PackChecks.{ComeNext, IsOn, read_on}
use Rattle.trouble_laws.proofs.Stamped.{AreAllOf, HasAll, all_now, has_all_stays}
use Rattle.trouble_laws.proofs.Walking.{Ends, Stays, ends_ask, ends_both, ends_call, ends_done, ends_given}
use Rattle.trouble_laws.proofs.Sighting.{both_ways, plain_trouble, plain_top_trouble, plain_number, plain_bytes, plain_names, sized_ends, read_so}

-- ---- one writer

module _ (caller number : ℕ) (m : Metadata) where
  abbrev FateEnds : Tries Fate → State → Type 0
  FateEnds program state = Ends caller IsUndamaged program state

  -- its packed index is made

  if_done_ends : (next : Tries Fate) → ((state : State) → FateEnds next state) → (reply : Reply) → ShowsNoDamage reply → (state : State) → FateEnds (if_done next reply) state
  if_done_ends next on Done shows = on
  if_done_ends next on reply shows = ends_done caller IsUndamaged (Err (failure reply)) (failure_plain reply shows)

  installs_end : (flat : ℕ) (packed : Packed) (state : State) → FateEnds (installs flat packed) state
  installs_end flat packed = ends_call caller IsUndamaged (InstallFlat flat) (if_done (done (Ok (is_packed packed)))) (if_done_ends (done (Ok (is_packed packed))) (ends_done caller IsUndamaged (Ok (is_packed packed)) tt))

  syncs_end : (flat : ℕ) (packed : Packed) (state : State) → FateEnds (syncs flat packed) state
  syncs_end flat packed = ends_call caller IsUndamaged (SyncFlat flat) (if_done (installs flat packed)) (if_done_ends (installs flat packed) (installs_end flat packed))

  puts_end : (bytes : List ℕ) (packed : Packed) (flat : ℕ) (state : State) → FateEnds (puts bytes packed flat) state
  puts_end bytes packed flat = ends_call caller IsUndamaged (PutFlat flat bytes) (if_done (syncs flat packed)) (if_done_ends (syncs flat packed) (syncs_end flat packed))

  starts_end : (bytes : List ℕ) (packed : Packed) (state : State) → FateEnds (starts number m bytes packed) state
  starts_end bytes packed = ends_call caller IsUndamaged (StartPack number m.host m.writer) (λ reply. given (flat_in reply) (failure reply) (puts bytes packed))
      (λ reply shows. ends_given caller (flat_in reply) (failure reply) (puts bytes packed) (failure_plain reply shows) (λ flat is. puts_end bytes packed flat))

  module _ (es : List Entry) where
    abbrev Whole : State → Type 0
    Whole state = IsWhole number m es state

    whole_lasts : Stays Whole
    whole_lasts = whole_stays number m es

    abbrev read_call : ℕ → Tail → Call
    read_call left tail = Look number (Read (index_path m.host m.writer) (40 * tail.cover.count) (40 * next_read left))

    -- its entries are read

    abbrev ReadsEnd : ℕ → Type 0
    ReadsEnd n = (left : ℕ) (tail : Tail) → IsOn es left tail → (state : State) → Whole state → FateEnds (reads n number m left tail) state

    module _ (n left : ℕ) (tail : Tail) (on : IsOn es left tail) (again : ReadsEnd n) where
      abbrev Onward : Reply → Tries Fate
      Onward reply = given (bytes_in reply) (trouble (index_path m.host m.writer) reply) (λ bytes. or_damage (index_path m.host m.writer) (λ more. reads n number m (left - next_read left) more) (checked (next_read left) bytes tail))

      next_end : (issued : Ledger) (state : State) (reply : Reply) (after : State) → May state caller (unbroken (read_call left tail)) → IsStep state caller (unbroken (read_call left tail)) reply after → IsSoundFor issued state → Whole state → FateEnds (Onward reply) after
      next_end issued state reply after may step s f =
          let f' : Whole after = whole_lasts issued state after caller (unbroken (read_call left tail)) reply may step s f in
          let x = f s.shape.tree s.shape.told in
          let w : IsWholeIn m.host m.writer es x.0 = x.2 in
          let bytes : List ℕ = take (40 * next_read left) (drop (40 * tail.cover.count) (spelling_all es)) in
          let r = read_on es left tail bytes on refl in
          elim (read_so issued state s number m (spelling_all es) x.0 x.1 w.stands.there caller (40 * tail.cover.count) (40 * next_read left) reply after step) as (λ _. FateEnds (Onward reply) after) [
            | inl is ↦ subst (λ y. FateEnds (Onward y) after) (sym is)
                (subst (λ y. FateEnds (or_damage (index_path m.host m.writer) (λ more. reads n number m (left - next_read left) more) y) after) (sym r.1) (again (left - next_read left) r.0 r.2 after f'))
            | inr plain ↦ subst (λ o. FateEnds (given o (trouble (index_path m.host m.writer) reply) (λ b. or_damage (index_path m.host m.writer) (λ more. reads n number m (left - next_read left) more) (checked (next_read left) b tail))) after) (sym (plain_bytes reply plain))
                (ends_done caller IsUndamaged (Err (trouble (index_path m.host m.writer) reply)) (plain_trouble (index_path m.host m.writer) reply plain) after)
          ]

      read_end : (state : State) → Whole state → FateEnds (reads (suc n) number m left tail) state
      read_end = ends_ask caller IsUndamaged Whole whole_lasts (read_call left tail) Onward next_end

    reads_end : (n : ℕ) → ReadsEnd n
    reads_end zero left tail on state f = starts_end (packing tail.entries) (counts_of tail.entries) state
    reads_end (suc n) left tail on state f = read_end n left tail on (reads_end n) state f

    -- its index dropping is measured

    which_end : (many none : Bool) (p : Tries Fate) (why : Stuck) → none ≡ false → (state : State) → FateEnds p state → FateEnds (if many then done (Ok passed_over) else (if none then done (Err why) else p)) state
    which_end true none p why is state on = ends_done caller IsUndamaged (Ok passed_over) tt state
    which_end false true p why is state on = absurd (let clash : true ≡ false = is in cc)
    which_end false false p why is state on = on

    not_none : (n : ℕ) → 1 ≤ n → (n == 0) ≡ false
    not_none n some = grind (arith, nat_tests, some)

    sized_end : (told : ℕ) → told ≡ 40 * length es → 1 ≤ length es → ComeNext (no_entries m.writer).cover es → (state : State) → Whole state → FateEnds (sized number m told (told / 40)) state
    sized_end told long some next state f =
        let count : told / 40 ≡ length es = omega (arith, long) in
        let on : IsOn es (told / 40) (no_entries m.writer) = record { rest = omega (arith, count); next = next } in
        which_end _ ((told / 40) == 0) (reads_left number m (told / 40) (no_entries m.writer)) (damage (index_path m.host m.writer) told) (not_none (told / 40) (omega (arith, count, some))) state
        (reads_end (reads_of (told / 40)) (told / 40) (no_entries m.writer) on state f)

    -- all of its calls

    abbrev Measured : Reply → Tries Fate
    Measured reply = given (number_in reply) (trouble (index_path m.host m.writer) reply) (λ told. sized number m told (told / 40))

    writer_ends : 1 ≤ length es → ComeNext (no_entries m.writer).cover es → (state : State) → Whole state → FateEnds (writer_program number m) state
    writer_ends some next = ends_ask caller IsUndamaged Whole whole_lasts (Look number (Length (index_path m.host m.writer))) Measured
        (λ issued state reply after may step s f.
        let f' : Whole after = whole_lasts issued state after caller (unbroken (Look number (Length (index_path m.host m.writer)))) reply may step s f in
        let x = f s.shape.tree s.shape.told in
        let w : IsWholeIn m.host m.writer es x.0 = x.2 in
        elim (sized_ends issued state s number m (spelling_all es) x.0 x.1 w.stands.there caller reply after step) as (λ _. FateEnds (Measured reply) after) [
          | inl is ↦ subst (λ y. FateEnds (Measured y) after) (sym is) (sized_end (length (spelling_all es)) (length-spelling_all es) some next after f')
          | inr plain ↦ subst (λ o. FateEnds (given o (trouble (index_path m.host m.writer) reply) (λ told. sized number m told (told / 40))) after) (sym (plain_number reply plain))
              (ends_done caller IsUndamaged (Err (trouble (index_path m.host m.writer) reply)) (plain_trouble (index_path m.host m.writer) reply plain) after)
        ])

-- ---- one writer after the other

abbrev HaveAll : ℕ → List Metadata → State → Type 0
HaveAll number metas state = AllByRecursion (λ (m : Metadata). HasAll number m state) metas

have_all_stay : (number : ℕ) (metas : List Metadata) → Stays (HaveAll number metas)
have_all_stay number [] issued old new other asked reply may step s f = tt
have_all_stay number (m ∷ metas) issued old new other asked reply may step s f = (has_all_stays number m issued old new other asked reply may step s f.0, have_all_stay number metas issued old new other asked reply may step s f.1)

module _ (caller number : ℕ) where
  -- what became of one writer leads on to the others
  fate_ends : (metas : List Metadata) (sofar : Migrated) → ((then_so : Migrated) (now : State) → HaveAll number metas now → Ends caller IsUndamaged (migrates number metas then_so) now)
      → (result : Result Fate Stuck) → IsUndamaged result → (now : State) → HaveAll number metas now → Ends caller IsUndamaged (on_ok (λ fate. migrates number metas (noted fate sofar)) result) now
  fate_ends metas sofar others (Ok fate) plain now f = others (noted fate sofar) now f
  fate_ends metas sofar others (Err why) plain now f = ends_done caller IsUndamaged (Err why) plain now

  migrates_end : (metas : List Metadata) (sofar : Migrated) (state : State) → HaveAll number metas state → Ends caller IsUndamaged (migrates number metas sofar) state
  migrates_end [] sofar state f = ends_done caller IsUndamaged (Ok sofar) tt state
  migrates_end (m ∷ metas) sofar state f =
      let x : AreAllOf number m f.0.0 state = f.0.1 in
      ends_both caller IsUndamaged IsUndamaged (HaveAll number metas) (have_all_stay number metas) (writer_program number m) (on_ok (λ fate. migrates number metas (noted fate sofar))) state f.1
      (writer_ends caller number m f.0.0 x.some x.next state x.whole)
      (fate_ends metas sofar (λ then_so now have. migrates_end metas then_so now have))

-- ---- those that are chosen

-- it has all of its entries, if it has a stamp
abbrev IsSuch : ℕ → State → Metadata → Type 0
IsSuch number state m = nat_lt 0 m.stamp ≡ true → HasAll number m state

abbrev AreSuch : ℕ → List Metadata → State → Type 0
AreSuch number metas state = AllByRecursion (IsSuch number state) metas

all_such_stay : (number : ℕ) (metas : List Metadata) → Stays (AreSuch number metas)
all_such_stay number [] issued old new other asked reply may step s f = tt
all_such_stay number (m ∷ metas) issued old new other asked reply may step s f = (
  (λ stamped. has_all_stays number m issued old new other asked reply may step s (f.0 stamped)),
  all_such_stay number metas issued old new other asked reply may step s f.1,
)

stamp_of : (a b c : Bool) → (a && (b && c)) ≡ true → b ≡ true
stamp_of true true c e = refl
stamp_of true false c e = e
stamp_of false b c e = absurd (let clash : false ≡ true = e in cc)

module _ (number : ℕ) (state : State) (droppings : List Listed) where
  chosen_have : (last : Option ℕ) (metas sofar : List Metadata) → AreSuch number metas state → HaveAll number sofar state → HaveAll number (chosen_behind droppings last metas sofar) state
  chosen_have last [] sofar a b = b
  chosen_have last (m ∷ metas) sofar a b =
      elim (not (is_again last m) && is_open_to droppings m) as (λ c. (not (is_again last m) && is_open_to droppings m) ≡ c → HaveAll number (if c then chosen_behind droppings (Some m.writer) metas (sofar ++ m ∷ []) else chosen_behind droppings (Some m.writer) metas sofar) state) [
        | true ↦ λ is. chosen_have (Some m.writer) metas (sofar ++ m ∷ []) a.1 (all_push (λ (x : Metadata). HasAll number x state) sofar m b (a.0 (stamp_of (not (is_again last m)) (nat_lt 0 m.stamp) _ is)))
        | false ↦ λ is. chosen_have (Some m.writer) metas sofar a.1 b
      ] refl

  all_chosen : (metas : List Metadata) → AreSuch number metas state → HaveAll number (chosen droppings metas) state
  all_chosen metas a = chosen_have None (metadata_by_writer metas) [] (all_ordered (IsSuch number state) metas a) tt

-- ---- those that are listed

abbrev AreToldSuch : ℕ → State → Result (List Metadata) Stuck → Type 0
AreToldSuch number state (Ok metas) = AreSuch number metas state
AreToldSuch number state (Err why) = IsNoDamage why

module _ (number : ℕ) (state : State) where
  named_such : (names : List Name) (sofar : List Metadata) → ((name : Name) → Among name names → (m : Metadata) × (meta_in name ≡ Some m) × IsSuch number state m) → AreSuch number sofar state → AreToldSuch number state (metas_named names sofar)
  named_such [] sofar each a = a
  named_such (name ∷ names) sofar each a =
      let here = each name (inl refl) in
      subst (λ o. AreToldSuch number state (or_trouble o (damage (file_in metadata name) 0) (λ (m : Metadata). metas_named names (sofar ++ m ∷ [])))) (sym here.1)
      (named_such names (sofar ++ here.0 ∷ []) (λ n b. each n (inr b)) (all_push (IsSuch number state) sofar here.0 a here.2))

  told_such : (reply : Reply) → IsPlain reply → AreToldSuch number state (told_by metadata (λ names. metas_named names []) reply)
  told_such (Looked found_) plain = absurd plain
  told_such (Damaged folder file) plain = absurd plain
  told_such reply plain = tt

has_stamp : (n : ℕ) → nat_lt 0 n ≡ true → 1 ≤ n
has_stamp n h = grind (arith, nat_tests, h)

-- what the listing of the metadata tells
listed_such : (issued : Ledger) (state : State) (s : IsSoundFor issued state) (caller number : ℕ) (reply : Reply) (after : State) → IsStep state caller (unbroken (Look number (ListFolder metadata))) reply after → AreToldSuch number state (told_by metadata (λ names. metas_named names []) reply)
listed_such issued state s caller number reply after step = elim (list_ends issued state s caller number metadata reply after step) as (λ _. AreToldSuch number state (told_by metadata (λ names. metas_named names []) reply)) [
  | inl (names, l, is) ↦ subst (λ r. AreToldSuch number state (told_by metadata (λ names. metas_named names []) r)) (sym is)
      (named_such number state names []
      (λ name a. (let x = metas_there issued state s number names l name a in (x.0, x.1, λ stamped. all_now issued state s number l.lists.room l.lists.has_room x.0 x.2.0 x.2.1 (has_stamp x.0.stamp stamped)))) tt)
  | inr (inl (l, is)) ↦ absurd (both_ways l.is.has_metadata l.lacks.none)
  | inr (inr plain) ↦ told_such number state reply plain
]

-- ---- all of its calls

module _ (caller number : ℕ) where
  -- what the folders of droppings show leads on
  found_lead : (metas : List Metadata) (result : Result Listing Stuck) → IsUndamaged result → (now : State) → AreSuch number metas now → Ends caller IsUndamaged (on_ok (migrates_listed number metas) result) now
  found_lead metas (Ok listing) plain now f = migrates_end caller number (chosen listing.droppings metas) nothing now (all_chosen number now listing.droppings metas f)
  found_lead metas (Err why) plain now f = ends_done caller IsUndamaged (Err why) plain now

  module _ (ks : List ℕ) where
    abbrev Scan : Tries Listing
    Scan = scans number 0 no_flat ks nothing_found

    scans_end : (state : State) → HasShown state number ks → Ends caller IsUndamaged Scan state
    scans_end state h issued events result lawful s runs =
        plain_if result (λ why is. fault_plain why (shown_fails caller number ks issued state events why s h lawful (subst (λ r. Runs caller Scan events r) is runs)).0)

    told_lead : (result : Result (List Metadata) Stuck) (issued : Ledger) (state after : State) (asked : Ask) (reply : Reply) → May state caller asked → IsStep state caller asked reply after → IsSoundFor issued state → AreToldSuch number state result → HasShown after number ks → Ends caller IsUndamaged (scans_then number Scan result) after
    told_lead (Err why) issued state after asked reply may step s plain h = ends_done caller IsUndamaged (Err why) plain after
    told_lead (Ok metas) issued state after asked reply may step s such h =
        ends_both caller IsUndamaged IsUndamaged (AreSuch number metas) (all_such_stay number metas) Scan (on_ok (migrates_listed number metas)) after
        (all_such_stay number metas issued state after caller asked reply may step s such) (scans_end after h) (found_lead metas)

    abbrev metadata_call : Ask
    metadata_call = unbroken (Look number (ListFolder metadata))

    lists_end : (state : State) → HasShown state number ks → Ends caller IsUndamaged (lists_metadata number Scan) state
    lists_end = ends_ask caller IsUndamaged (λ state. HasShown state number ks) (shown_stays number ks) (Look number (ListFolder metadata))
        (λ reply. scans_then number Scan (told_by metadata (λ names. metas_named names []) reply))
        (λ issued state reply after may step s h. told_lead (told_by metadata (λ names. metas_named names []) reply) issued state after metadata_call reply may step s
        (listed_such issued state s caller number reply after step) (shown_stays number ks issued state after caller metadata_call reply may step s h))

  abbrev top_call : Ask
  top_call = unbroken (Look number Top)

  abbrev top_path : Path
  top_path = file_in [] []

  abbrev Behind : List Name → Tries Migrated
  Behind names = on_ok (migrates_shown number) (top_shows names)

  abbrev AtTop : Reply → Tries Migrated
  AtTop reply = given (names_in reply) (trouble top_path reply) Behind

  top_leads : (issued : Ledger) (state : State) (reply : Reply) (after : State) → May state caller top_call → IsStep state caller top_call reply after → IsSoundFor issued state → Ends caller IsUndamaged (AtTop reply) after
  top_leads issued state reply after may step s = elim (top_ends issued state s caller number reply after step) as (λ _. Ends caller IsUndamaged (AtTop reply) after) [
    | inl (names, l, is) ↦
        let t = shown_at issued state s number names l.lists l.apart l.is in
        let ks : List ℕ = shown names hostdirs in
        subst (λ r. Ends caller IsUndamaged (AtTop r) after) (sym is)
        (subst (λ r. Ends caller IsUndamaged (on_ok (migrates_shown number) r) after) (sym t.0)
        (lists_end ks after (shown_stays number ks issued state after caller top_call reply may step s t.1)))
    | inr (inl (l, is)) ↦ absurd (let clash : true ≡ false = l.lacks.none in cc)
    | inr (inr plain) ↦ subst (λ o. Ends caller IsUndamaged (given o (trouble top_path reply) Behind) after) (sym (plain_names reply plain))
        (ends_done caller IsUndamaged (Err (trouble top_path reply)) (plain_top_trouble top_path reply plain) after)
  ]

  at_ends : (state : State) → Ends caller IsUndamaged (migrate_at_program number) state
  at_ends state = ends_ask caller IsUndamaged Anything anything_stays (Look number Top) AtTop (λ issued now reply after may step s f. top_leads issued now reply after may step s) state tt

pub migrate_ends : (caller : ℕ) (name : List ℕ) (state : State) → Ends caller IsUndamaged (migrate_program name) state
migrate_ends caller name = found_ends caller name migrate_at_program (at_ends caller)
