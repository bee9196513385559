-- What a migration shows that is at its end.
use Rattle.std.proofs.Common.{◌≡◌, ◌≢◌, ◌<◌, ◌⊎◌, ℕ, suc, List, [], ◌∷◌, ◌++◌, length, Some, refl, ap, sym, ◌∙◌, inl, inr, subst, arith, append_assoc}
use Rattle.std.specs.Prelude.{Result, Ok, Err, slice_get, map}
use Rattle.std.specs.List.{AllByRecursion, Contains}
use Rattle.std.proofs.lemmas.List.{append-nil}
use Rattle.std.proofs.lemmas.List.Elements.{Contains-append_right}
use Rattle.plfs_types.specs.declared.entries.Entry.{Entry}
use Rattle.container_layout.specs.declared.items.Item.TheVariants.{Packed as PackedItem}
use Rattle.store_api.specs.declared.tree.Room.{Room}
use Rattle.store_api.specs.declared.tree.Tree.{Tree}
use Rattle.mount_model.specs.declared.names.Metadata.{Metadata}
use Rattle.mount_model.specs.declared.stuck.Stuck.{Stuck}
use Rattle.mount_model.specs.FlowReplies.{Tries, on_ok}
use Rattle.mount_model.specs.Program.{done}
use Rattle.mount_model.specs.declared.row.Making.TheVariants as making
use Rattle.mount_model.specs.State.{State}
use Rattle.mount_sound.specs.Flats.{IsRightPack}
use Rattle.mount_sound.specs.Items.{HasItem}
use Rattle.mount_sound.specs.Ledger.{Ledger}
use Rattle.mount_sound.specs.Owed.{StandsInRoom}
use Rattle.mount_sound.specs.Sound.{IsSoundFor}
use Rattle.mount_sound.proofs.Facts.{one_tree, some_room}
use Rattle.recovery_laws.proofs.Facts.{Stays, stays_both}
use Rattle.migrate_core.specs.declared.migrated.Migrated.{Migrated}
use Rattle.migrate_core.specs.Counting.{noted, nothing}
use Rattle.migrate_core.specs.Longest.{run_count}
use Rattle.migrate_core.specs.Migrating.{migrates}
use Rattle.migrate_core.specs.Words.{Fate, is_packed, passed_over}
use Rattle.migrate_core.specs.Writers.{counts_of, writer_program}
use Rattle.migrate_laws.specs.Closed.{AreOnce, IsPacked, WriterOf}
use Rattle.migrate_laws.specs.Packed.{AreApart, Counts, HasPack, HavePacks, PackOf, writer_of}
use Rattle.migrate_laws.proofs.Closing.{of_meta}
use Rattle.migrate_laws.proofs.Ends.{Ends, ends_both, ends_done}
use Rattle.migrate_laws.proofs.Left.{AreLeft, IsWholeIn, all_left_stay}
use Rattle.migrate_laws.proofs.Migrating.{all_push}
use Rattle.migrate_laws.proofs.Packing.{IsFate, IsPackedOf, packed_stays, writer_ends}
use Rattle.migrate_laws.proofs.Reading.{IsLong, long_stays}
use Rattle.migrate_laws.proofs.Rising.{Rises, all_so}

-- ---- writers that were packed

record Packed : Type 0 where
  pub m : Metadata
  pub es : List Entry

abbrev pack_of : Packed → PackOf
pack_of p = record { host = p.m.host; writer = p.m.writer; entries = length p.es; runs = run_count p.es }

abbrev packs_of : List Packed → List PackOf
packs_of [] = []
packs_of (p ∷ ps) = pack_of p ∷ packs_of ps

abbrev ArePacked : ℕ → List Packed → State → Type 0
ArePacked number ps state = AllByRecursion (λ (p : Packed). IsPackedOf number p.m p.es state) ps

are_packed_stay : (number : ℕ) (ps : List Packed) → Stays (ArePacked number ps)
are_packed_stay number [] l old new other asked reply may step s f = tt
are_packed_stay number (p ∷ ps) l old new other asked reply may step s f = (packed_stays number p.m p.es l old new other asked reply may step s f.0, are_packed_stay number ps l old new other asked reply may step s f.1)

module _ (l : Ledger) (state : State) (s : IsSoundFor l state) (number : ℕ) where
  has_pack : (p : Packed) → IsPackedOf number p.m p.es state → StandsInRoom state number (HasPack (pack_of p))
  has_pack p f =
      let w = f.0 s.shape.tree s.shape.told in
      let i = f.1 s.shape.tree s.shape.told in
      let same : i.0 ≡ w.0 = some_room i.0 w.0 (slice_get s.shape.tree.rooms number) i.1 w.1 in
      let has : HasItem w.0 (PackedItem p.m.host p.m.writer) i.2.0 = subst (λ r. HasItem r (PackedItem p.m.host p.m.writer) i.2.0) same i.2.1 in
      let right : IsRightPack w.0 p.m.host p.m.writer i.2.0 = (s.flats number w.0 w.1 (making.Pack p.m.host p.m.writer) 0 i.2.0 has).0 in
      let x : IsWholeIn p.m.host p.m.writer p.es w.0 = w.2 in
      let pack : HasPack (pack_of p) w.0 = record { bytes = i.2.0; stands = has; right = right; all = ap length x.landed; longest = ap run_count x.landed } in
      λ tree told. subst (λ (t : Tree). (room : Room) × (slice_get t.rooms number ≡ Some room) × HasPack (pack_of p) room) (one_tree s.shape.tree tree state.store.tree s.shape.told told) (w.0, w.1, pack)

  have_packs : (ps : List Packed) → ArePacked number ps state → HavePacks number (packs_of ps) state
  have_packs [] f = tt
  have_packs (p ∷ ps) f = (has_pack p f.0, have_packs ps f.1)

-- ---- each is of another writer

abbrev AreUnder : ℕ → List Packed → Type 0
AreUnder writer ps = AllByRecursion (λ (p : Packed). p.m.writer < writer) ps

-- so they are of the writers that are left
abbrev AreUnderAll : List Metadata → List Packed → Type 0
AreUnderAll metas ps = AllByRecursion (λ (m : Metadata). AreUnder m.writer ps) metas

under_one_more : (m : Metadata) (es : List Entry) (metas : List Metadata) (ps : List Packed) → AllByRecursion (λ (x : Metadata). m.writer < x.writer) metas → AreUnderAll metas ps → AreUnderAll metas (record { m = m; es = es } ∷ ps)
under_one_more m es [] ps above under = tt
under_one_more m es (x ∷ metas) ps above under = ((above.0, under.0), under_one_more m es metas ps above.1 under.1)

none_of : (writer : ℕ) (ps : List Packed) → AreUnder writer ps → AllByRecursion (λ (q : PackOf). q.writer ≢ writer) (packs_of ps)
none_of writer [] under = tt
none_of writer (p ∷ ps) under = ((λ same. omega (arith, same, under.0)), none_of writer ps under.1)

none_yet : (metas : List Metadata) → AreUnderAll metas []
none_yet [] = tt
none_yet (m ∷ metas) = (tt, none_yet metas)

-- ---- writers that were passed over

abbrev AreLong : ℕ → List Metadata → State → Type 0
AreLong number ls state = AllByRecursion (λ (m : Metadata). IsLong number m state) ls

are_long_stay : (number : ℕ) (ls : List Metadata) → Stays (AreLong number ls)
are_long_stay number [] l old new other asked reply may step s f = tt
are_long_stay number (m ∷ ls) l old new other asked reply may step s f = (long_stays number m l old new other asked reply may step s f.0, are_long_stay number ls l old new other asked reply may step s f.1)

abbrev pub writers_of : List Metadata → List WriterOf
writers_of [] = []
writers_of (m ∷ ls) = of_meta m ∷ writers_of ls

pub as_many : (ls : List Metadata) → length (writers_of ls) ≡ length ls
as_many [] = refl
as_many (m ∷ ls) = ap (λ n. suc n) (as_many ls)

abbrev AreBelow : ℕ → List Metadata → Type 0
AreBelow writer ls = AllByRecursion (λ (m : Metadata). m.writer < writer) ls

abbrev AreBelowAll : List Metadata → List Metadata → Type 0
AreBelowAll metas ls = AllByRecursion (λ (m : Metadata). AreBelow m.writer ls) metas

below_one_more : (m : Metadata) (metas ls : List Metadata) → AllByRecursion (λ (x : Metadata). m.writer < x.writer) metas → AreBelowAll metas ls → AreBelowAll metas (m ∷ ls)
below_one_more m [] ls above below = tt
below_one_more m (x ∷ metas) ls above below = ((above.0, below.0), below_one_more m metas ls above.1 below.1)

no_such : (writer : ℕ) (ls : List Metadata) → AreBelow writer ls → AllByRecursion (λ (v : WriterOf). v.writer ≢ writer) (writers_of ls)
no_such writer [] below = tt
no_such writer (m ∷ ls) below = ((λ same. omega (arith, same, below.0)), no_such writer ls below.1)

none_below : (metas : List Metadata) → AreBelowAll metas []
none_below [] = tt
none_below (m ∷ metas) = (tt, none_below metas)

-- ---- what became of each

abbrev AmongPacked : Metadata → List Packed → Type 0
AmongPacked m [] = ⊥
AmongPacked m (p ∷ ps) = (p.m ≡ m) ⊎ AmongPacked m ps

abbrev pub AmongLeft : Metadata → List Metadata → Type 0
AmongLeft m [] = ⊥
AmongLeft m (x ∷ ls) = (x ≡ m) ⊎ AmongLeft m ls

abbrev HasCome : List Packed → List Metadata → Metadata → Type 0
HasCome ps ls m = AmongPacked m ps ⊎ AmongLeft m ls

more_packed : (p : Packed) (ps : List Packed) (ls : List Metadata) (m : Metadata) → HasCome ps ls m → HasCome (p ∷ ps) ls m
more_packed p ps ls m (inl is) = inl (inr is)
more_packed p ps ls m (inr is) = inr is

more_left : (x : Metadata) (ps : List Packed) (ls : List Metadata) (m : Metadata) → HasCome ps ls m → HasCome ps (x ∷ ls) m
more_left x ps ls m (inl is) = inl is
more_left x ps ls m (inr is) = inr (inr is)

pub left_there : (m : Metadata) (ls : List Metadata) → AmongLeft m ls → Contains (writers_of ls) (of_meta m)
left_there m [] is = absurd is
left_there m (x ∷ ls) (inl same) = (0, omega arith, ap of_meta same)
left_there m (x ∷ ls) (inr is) = Contains-append_right (of_meta x ∷ []) (writers_of ls) (of_meta m) (left_there m ls is)

counted_there : (m : Metadata) (ps : List Packed) → AmongPacked m ps → Contains (map writer_of (packs_of ps)) (of_meta m)
counted_there m [] is = absurd is
counted_there m (p ∷ ps) (inl same) = (0, omega arith, ap of_meta same)
counted_there m (p ∷ ps) (inr is) = Contains-append_right (of_meta p.m ∷ []) (map writer_of (packs_of ps)) (of_meta m) (counted_there m ps is)

its_pack : (number : ℕ) (m : Metadata) (ps : List Packed) (state : State) → ArePacked number ps state → AmongPacked m ps → StandsInRoom state number (IsPacked (of_meta m))
its_pack number m [] state are is = absurd is
its_pack number m (p ∷ ps) state are (inl same) = subst (λ (x : Metadata). StandsInRoom state number (IsPacked (of_meta x))) same are.0.1
its_pack number m (p ∷ ps) state are (inr is) = its_pack number m ps state are.1 is

-- each is packed and counted so, or passed over
abbrev pub IsDealt : ℕ → List PackOf → List Metadata → State → Metadata → Type 0
IsDealt number packs ls state m = (StandsInRoom state number (IsPacked (of_meta m)) × Contains (map writer_of packs) (of_meta m)) ⊎ AmongLeft m ls

dealt : (number : ℕ) (ps : List Packed) (ls : List Metadata) (state : State) → ArePacked number ps state → (m : Metadata) → HasCome ps ls m → IsDealt number (packs_of ps) ls state m
dealt number ps ls state are m (inl is) = inl (its_pack number m ps state are is, counted_there m ps is)
dealt number ps ls state are m (inr is) = inr is

-- so far, of these that are done and those that are to come
record IsSoFar (such : Metadata → Type 0) (fresh : WriterOf → Type 0) (past metas : List Metadata) (ps : List Packed) (ls : List Metadata) (sofar : Migrated) : Type 0 where
  pub counts : Counts sofar (packs_of ps)
  pub left : sofar.left ≡ length ls
  pub apart : AreApart (packs_of ps)
  pub once : AreOnce (writers_of ls)
  pub rises : Rises metas
  pub under : AreUnderAll metas ps
  pub below : AreBelowAll metas ls
  pub those : AllByRecursion such metas
  pub these : AllByRecursion such ls
  pub come : AllByRecursion (HasCome ps ls) past
  pub new : AllByRecursion (λ (p : PackOf). fresh (writer_of p)) (packs_of ps)

-- ---- how it ends

-- of all these, each was packed or passed over, and they are counted
pub record IsDone (number : ℕ) (such : Metadata → Type 0) (fresh : WriterOf → Type 0) (all : List Metadata) (out : Migrated) (state : State) : Type 0 where
  pub packs : List PackOf
  pub have : HavePacks number packs state
  pub apart : AreApart packs
  pub counts : Counts out packs
  pub new : AllByRecursion (λ (p : PackOf). fresh (writer_of p)) packs
  pub ls : List Metadata
  pub left : out.left ≡ length ls
  pub once : AreOnce (writers_of ls)
  pub these : AllByRecursion such ls
  pub long : AllByRecursion (λ (m : Metadata). IsLong number m state) ls
  pub dealt : AllByRecursion (IsDealt number packs ls state) all

module _ (caller number : ℕ) (such : Metadata → Type 0) (fresh : WriterOf → Type 0) (is_fresh : (m : Metadata) → such m → fresh (of_meta m)) (all : List Metadata) where
  abbrev Told : Result Migrated Stuck → State → Type 0
  Told (Ok out) state = IsDone number such fresh all out state
  Told (Err why) state = Unit {0}

  abbrev EndsTold : Tries Migrated → State → Type 0
  EndsTold program state = Ends caller Told program state

  failed : (why : Stuck) (state : State) → EndsTold (done (Err why)) state
  failed why state = ends_done caller Told (Err why) (λ now. Unit {0}) (λ l old new other asked reply may step s f. tt) (λ l now s f. tt) state tt

  -- ---- writer after writer

  -- what stays of those that were dealt with
  abbrev Came : List Packed → List Metadata → State → Type 0
  Came ps ls state = ArePacked number ps state × AreLong number ls state

  came_stays : (ps : List Packed) (ls : List Metadata) → Stays (Came ps ls)
  came_stays ps ls = stays_both (ArePacked number ps) (AreLong number ls) (are_packed_stay number ps) (are_long_stay number ls)

  abbrev Carried : List Metadata → List Packed → List Metadata → State → Type 0
  Carried metas ps ls state = AreLeft number metas state × Came ps ls state

  carried_stays : (metas : List Metadata) (ps : List Packed) (ls : List Metadata) → Stays (Carried metas ps ls)
  carried_stays metas ps ls = stays_both (AreLeft number metas) (Came ps ls) (all_left_stay number metas) (came_stays ps ls)

  abbrev MigratesEnd : List Metadata → Type 0
  MigratesEnd metas = (past : List Metadata) → past ++ metas ≡ all → (ps : List Packed) (ls : List Metadata) (sofar : Migrated) → IsSoFar such fresh past metas ps ls sofar → (state : State) → Carried metas ps ls state → EndsTold (migrates number metas sofar) state

  module _ (m : Metadata) (metas : List Metadata) (again : MigratesEnd metas) (past : List Metadata) (is_all : past ++ m ∷ metas ≡ all) (ps : List Packed) (ls : List Metadata) (sofar : Migrated) (far : IsSoFar such fresh past (m ∷ metas) ps ls sofar) where
    one_more : (past ++ m ∷ []) ++ metas ≡ all
    one_more = append_assoc past (m ∷ []) metas ∙ is_all

    passed_far : IsSoFar such fresh (past ++ m ∷ []) metas ps (m ∷ ls) (noted passed_over sofar)
    passed_far = record {
      counts = record { writers = far.counts.writers; entries = far.counts.entries; runs = far.counts.runs };
      left = omega (arith, far.left);
      apart = far.apart;
      once = (no_such m.writer ls far.below.0, far.once);
      rises = far.rises.1;
      under = far.under.1;
      below = below_one_more m metas ls far.rises.0 far.below.1;
      those = far.those.1;
      these = (far.those.0, far.these);
      come = all_push (HasCome ps (m ∷ ls)) past m (all_so (HasCome ps ls) (HasCome ps (m ∷ ls)) past (more_left m ps ls) far.come) (inr (inl refl));
      new = far.new;
    }

    packed_far : (es : List Entry) → IsSoFar such fresh (past ++ m ∷ []) metas (record { m = m; es = es } ∷ ps) ls (noted (is_packed (counts_of es)) sofar)
    packed_far es =
        let p : Packed = record { m = m; es = es } in
        record {
          counts = record { writers = omega (arith, far.counts.writers); entries = omega (arith, far.counts.entries); runs = omega (arith, far.counts.runs) };
          left = far.left;
          apart = (none_of m.writer ps far.under.0, far.apart);
          once = far.once;
          rises = far.rises.1;
          under = under_one_more m es metas ps far.rises.0 far.under.1;
          below = far.below.1;
          those = far.those.1;
          these = far.these;
          come = all_push (HasCome (p ∷ ps) ls) past m (all_so (HasCome ps ls) (HasCome (p ∷ ps) ls) past (more_packed p ps ls) far.come) (inl (inl refl));
          new = (is_fresh m far.those.0, far.new);
        }

    fate_ends : (result : Result Fate Stuck) (now : State) → IsFate caller number m (Carried metas ps ls) (carried_stays metas ps ls) result now → EndsTold (on_ok (λ fate. migrates number metas (noted fate sofar)) result) now
    fate_ends (Err why) now come = failed why now
    fate_ends (Ok fate) now come = elim come.1 as (λ _. EndsTold (migrates number metas (noted fate sofar)) now) [
      | inl (is, long) ↦ subst (λ x. EndsTold (migrates number metas (noted x sofar)) now) (sym is)
          (again (past ++ m ∷ []) one_more ps (m ∷ ls) (noted passed_over sofar) passed_far now (come.0.0, (come.0.1.0, (long, come.0.1.1))))
      | inr (es, is, packed) ↦ subst (λ x. EndsTold (migrates number metas (noted x sofar)) now) (sym is)
          (again (past ++ m ∷ []) one_more (record { m = m; es = es } ∷ ps) ls (noted (is_packed (counts_of es)) sofar) (packed_far es) now (come.0.0, ((packed, come.0.1.0), come.0.1.1)))
    ]

  migrates_end : (metas : List Metadata) → MigratesEnd metas
  migrates_end [] past is_all ps ls sofar far state f = ends_done caller Told (Ok sofar) (Came ps ls) (came_stays ps ls)
      (λ l now s came. record {
        packs = packs_of ps;
        have = have_packs l now s number ps came.0;
        apart = far.apart;
        counts = far.counts;
        new = far.new;
        ls = ls;
        left = far.left;
        once = far.once;
        these = far.these;
        long = came.1;
        dealt = subst (AllByRecursion (IsDealt number (packs_of ps) ls now)) (sym (append-nil past) ∙ is_all) (all_so (HasCome ps ls) (IsDealt number (packs_of ps) ls now) past (dealt number ps ls now came.0) far.come);
      }) state f.1
  migrates_end (m ∷ metas) past is_all ps ls sofar far state f =
      ends_both caller Told (IsFate caller number m (Carried metas ps ls) (carried_stays metas ps ls)) (writer_program number m) (on_ok (λ fate. migrates number metas (noted fate sofar))) state
      (writer_ends caller number m (Carried metas ps ls) (carried_stays metas ps ls) state (f.0.1, f.1) f.0.0)
      (fate_ends m metas (migrates_end metas) past is_all ps ls sofar far)

  -- All of them are dealt with.
  pub all_end : Rises all → AllByRecursion such all → (state : State) → AreLeft number all state → EndsTold (migrates number all nothing) state
  all_end rises those state left = migrates_end all [] refl [] [] nothing
      (record {
        counts = record { writers = refl; entries = refl; runs = refl };
        left = refl;
        apart = tt;
        once = tt;
        rises = rises;
        under = none_yet all;
        below = none_below all;
        those = those;
        these = tt;
        come = tt;
        new = tt;
      }) state (left, (tt, tt))
