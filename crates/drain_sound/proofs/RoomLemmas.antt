-- A sound tree where one of its rooms has changed, or one was added.
use Rattle.std.proofs.Common.{◌≡◌, ℕ, zero, suc, ◌≤◌, ◌<◌, ◌^◌, ◌⊎◌, List, [], ◌∷◌, ◌++◌, length, Option, Some, None, refl, ap, sym, ◌∙◌, inl, inr, subst, arith}
use Rattle.std.specs.Prelude.{MatchOption, slice_get}
use Rattle.std.proofs.lemmas.Bool.{cases_eq, cases_lt}
use Rattle.container_layout.specs.declared.items.Item.TheVariants.{OpenHost, Meta, Trunc, Index}
use Rattle.container_layout.specs.Items.{IsItem}
use Rattle.store_api.specs.declared.tree.Room.{Room}
use Rattle.store_api.specs.declared.tree.Tree.{Tree}
use Rattle.store_laws.specs.Changes.{with_room}
use Rattle.store_laws.specs.Files.{file_at, kept_at}
use Rattle.store_laws.proofs.Facts.{changed_room, each_room, each_with_added, other_room}
use Rattle.mount_model.specs.declared.row.Making.{Making}
use Rattle.mount_model.specs.declared.row.Making.TheVariants as making
use Rattle.mount_model.specs.Paths.{index_path, installed_item, installed_of}
use Rattle.mount_sound.specs.Marks.{IsOfMark}
use Rattle.mount_sound.specs.Shape.{IsShapedTree}
use Rattle.mount_sound.specs.Dropping.{IsDropping, bytes_of, log_bytes}
use Rattle.mount_sound.specs.Flats.{AreRightFlats, IsRightFor}
use Rattle.mount_sound.specs.Items.{HasItem, HasItemOf}
use Rattle.mount_sound.specs.Ledger.{AreWritesOf, Ledger, Written}
use Rattle.mount_sound.specs.Sound.{IsSoundTree, TruncatesDiffer}
use Rattle.mount_sound.proofs.Facts.{IsBare, IsWhole, KeepsAllEntries, hostdir_below, no_item, no_room, no_writes, right_frame}
use Rattle.drain_sound.proofs.WriterLemmas.{StaysThere}

-- ---- one room has changed

-- each installed index of the room stays, and what is kept of it
abbrev pub InstalledStay : Room → Room → Type 0
InstalledStay room new = (makes : Making) (id : ℕ) → IsItem (installed_item makes id) → StaysThere room new (installed_item makes id)

module _ (tree : Tree) (s : IsSoundTree tree) (n : ℕ) (room new : Room) (there : slice_get tree.rooms n ≡ Some room) where
  -- they are right for it as it is now
  pub flats_changed : KeepsAllEntries room new → InstalledStay room new → AreRightFlats (with_room tree n new)
  flats_changed keeps stay m r e makes id bytes h = elim (each_room tree n m room new r there e) as (λ _. IsRightFor r makes bytes × (length bytes ≤ kept_at r (installed_of makes id))) [
    | inr other ↦ s.flats m r other.1 makes id bytes h
    | inl here ↦ subst (λ x. IsRightFor x makes bytes × (length bytes ≤ kept_at x (installed_of makes id))) (sym here.1) (at_new (subst (λ x. HasItem x (installed_item makes id) bytes) here.1 h))
  ]
    where
      at_new : HasItem new (installed_item makes id) bytes → IsRightFor new makes bytes × (length bytes ≤ kept_at new (installed_of makes id))
      at_new i =
          let k = stay makes id i.is_item in
          let was : HasItem room (installed_item makes id) bytes = record { is_item = i.is_item; there = sym k.file ∙ i.there } in
          let right = s.flats n room there makes id bytes was in
          (right_frame room new keeps makes bytes right.0, omega (arith, right.1, k.kept, ap (λ f. length (bytes_of f)) was.there))

  module _ (P : ℕ → List Written → Type 0) (each : (q : ℕ) → q < 2 ^ 64 → (issued : List Written) × IsWhole new q issued × AreWritesOf q issued × P q issued) (none : (q : ℕ) → P q []) where
    -- what each writer of the room issued, by its new account
    abbrev here_by : (q : ℕ) → (q < 2 ^ 64) ⊎ (2 ^ 64 ≤ q) → List Written
    here_by q (inl fits) = (each q fits).0
    here_by q (inr past) = []

    abbrev here : ℕ → List Written
    here q = here_by q (cases_lt q (2 ^ 64))

    abbrev now_by : (m q : ℕ) → (m ≡ n) ⊎ (m ≡ n → ⊥) → List Written
    now_by m q (inl same) = here q
    now_by m q (inr other) = s.issued m q

    abbrev now : Ledger
    now m q = now_by m q (cases_eq m n)

    by_is : (q : ℕ) (c : (q < 2 ^ 64) ⊎ (2 ^ 64 ≤ q)) → q < 2 ^ 64 → IsWhole new q (here_by q c)
    by_is q (inl small) fits = (each q small).1
    by_is q (inr past) fits = absurd (omega (arith, past, fits))

    by_writes : (q : ℕ) (c : (q < 2 ^ 64) ⊎ (2 ^ 64 ≤ q)) → AreWritesOf q (here_by q c)
    by_writes q (inl small) = (each q small).2
    by_writes q (inr past) = no_writes q

    by_holds : (q : ℕ) (c : (q < 2 ^ 64) ⊎ (2 ^ 64 ≤ q)) → P q (here_by q c)
    by_holds q (inl small) = (each q small).3
    by_holds q (inr past) = none q

    by_past : (q : ℕ) (c : (q < 2 ^ 64) ⊎ (2 ^ 64 ≤ q)) → 2 ^ 64 ≤ q → here_by q c ≡ []
    by_past q (inl small) past = absurd (omega (arith, past, small))
    by_past q (inr far) past = refl

    by_here : (m q : ℕ) (c : (m ≡ n) ⊎ (m ≡ n → ⊥)) → m ≡ n → now_by m q c ≡ here q
    by_here m q (inl same) e = refl
    by_here m q (inr other) e = absurd (other e)

    by_other : (m q : ℕ) (c : (m ≡ n) ⊎ (m ≡ n → ⊥)) → (m ≡ n → ⊥) → now_by m q c ≡ s.issued m q
    by_other m q (inl same) other = absurd (other same)
    by_other m q (inr apart) other = refl

    is_here : (m q : ℕ) → m ≡ n → now m q ≡ here q
    is_here m q e = by_here m q (cases_eq m n) e

    is_other : (m q : ℕ) → (m ≡ n → ⊥) → now m q ≡ s.issued m q
    is_other m q other = by_other m q (cases_eq m n) other

    whole_now : (m : ℕ) (r : Room) → slice_get (with_room tree n new).rooms m ≡ Some r → (q : ℕ) → q < 2 ^ 64 → IsWhole r q (now m q)
    whole_now m r e q fits = elim (each_room tree n m room new r there e) as (λ _. IsWhole r q (now m q)) [
      | inl at ↦ subst (IsWhole r q) (sym (is_here m q at.0)) (subst (λ x. IsWhole x q (here q)) (sym at.1) (by_is q (cases_lt q (2 ^ 64)) fits))
      | inr other ↦ subst (IsWhole r q) (sym (is_other m q other.0)) ((s.rooms m r other.1).writers q fits, s.all_landed m r other.1 q fits)
    ]

    -- by case: the room, or another
    each_ledger : (Q : ℕ → ℕ → List Written → Type 0) → ((q : ℕ) → Q n q (here q)) → ((m q : ℕ) → (m ≡ n → ⊥) → Q m q (s.issued m q)) → (m q : ℕ) → Q m q (now m q)
    each_ledger Q at other m q = elim (cases_eq m n) as (λ _. Q m q (now m q)) [
      | inl same ↦ subst (Q m q) (sym (is_here m q same)) (subst (λ k. Q k q (here q)) (sym same) (at q))
      | inr apart ↦ subst (Q m q) (sym (is_other m q apart)) (other m q apart)
    ]

    sound_now : IsShapedTree (IsOfMark (with_room tree n new)) (with_room tree n new) → TruncatesDiffer new → AreRightFlats (with_room tree n new) → IsSoundTree (with_room tree n new)
    sound_now shaped differ flats = record {
      shaped = shaped;
      issued = now;
      rooms = λ m r e. record {
        writers = λ q fits. (whole_now m r e q fits).0;
        kept = λ id row found at. absurd (cc);
        truncates = elim (each_room tree n m room new r there e) as (λ _. TruncatesDiffer r) [
          | inl at ↦ subst TruncatesDiffer (sym at.1) differ
          | inr other ↦ (s.rooms m r other.1).truncates
        ];
      };
      writes = each_ledger (λ m q ws. AreWritesOf q ws) (λ q. by_writes q (cases_lt q (2 ^ 64))) (λ m q other. s.writes m q);
      all_landed = λ m r e q fits. (whole_now m r e q fits).1;
      fitting = λ m q past. each_ledger (λ k w ws. 2 ^ 64 ≤ w → ws ≡ []) (λ w far. by_past w (cases_lt w (2 ^ 64)) far) (λ k w other far. s.fitting k w far) m q past;
      roomless = λ m q gone. each_ledger (λ k w ws. slice_get (with_room tree n new).rooms k ≡ None → ws ≡ [])
          (λ w lost. absurd (no_room new (slice_get (with_room tree n new).rooms n) (changed_room tree n room new there) lost))
          (λ k w other lost. s.roomless k w (sym (other_room tree n k new other) ∙ lost)) m q gone;
      flats = flats;
    }

    -- The tree is sound; this holds of the writes of each writer of the room, and those of other rooms are as they were.
    pub record ChangedSound : Type 0 where
      pub sound : IsSoundTree (with_room tree n new)
      pub at : (q : ℕ) → P q (sound.issued n q)
      pub others : (m q : ℕ) → (m ≡ n → ⊥) → sound.issued m q ≡ s.issued m q

    pub changed_sound : IsShapedTree (IsOfMark (with_room tree n new)) (with_room tree n new) → TruncatesDiffer new → AreRightFlats (with_room tree n new) → ChangedSound
    unfolding sound_now
    changed_sound shaped differ flats = record {
      sound = sound_now shaped differ flats;
      at = λ q. subst (P q) (sym (is_here n q refl)) (by_holds q (cases_lt q (2 ^ 64)));
      others = λ m q other. is_other m q other;
    }

-- ---- a room was added

pub no_items : (room : Room) (host writer : ℕ) → IsBare room → HasItemOf room host writer → ⊥
no_items room host writer bare (inl i) = no_item room (Index host writer) i.0 bare (hostdir_below host) i.1
no_items room host writer bare (inr (inl i)) = no_item room (OpenHost host writer) i.0 bare refl i.1
no_items room host writer bare (inr (inr m)) = no_item room (Meta m.last m.bytes m.stamp host writer) m.content bare refl m.has

no_index : (found : Option (List ℕ)) (n : ℕ) (X : List ℕ → Type 0) → found ≡ None → n ≡ 0 → MatchOption found (n ≡ 0) X
no_index None n X e z = z
no_index (Some bytes) n X e z = absurd (cc)

bare_whole : (room : Room) (writer : ℕ) → IsBare room → IsWhole room writer []
bare_whole room writer bare = (
  record {
    host = 0;
    host_fits = omega arith;
    one_host = λ other h. absurd (no_items room other writer bare h);
    landed = 0;
    within = omega arith;
    index = no_index (file_at room (index_path 0 writer)) 0 (IsDropping writer [] 0 (length (log_bytes room 0 writer))) (bare.none (Index 0 writer) (hostdir_below 0)) refl;
    log = tt;
    left = λ gone some. absurd (omega arith);
    told = λ last bytes stamp inside h. absurd (no_item room (Meta last bytes stamp 0 writer) inside bare refl h);
    settled = λ m. absurd (no_item room (Meta m.last m.bytes m.stamp 0 writer) m.content bare refl m.has);
    beside = λ stamp size inside h. inl tt;
  },
  refl,
)

past : {X : Type 0} (xs : List X) → slice_get xs (length xs) ≡ None
past [] = refl
past (x ∷ xs) = past xs

absent_before : {X : Type 0} (xs : List X) (i : ℕ) (y : X) → slice_get (xs ++ y ∷ []) i ≡ None → slice_get xs i ≡ None
absent_before [] i y e = refl
absent_before (x ∷ xs) zero y e = absurd (cc)
absent_before (x ∷ xs) (suc i) y e = absent_before xs i y e

abbrev pub with_added : Tree → Room → Tree
with_added tree new = record { rooms = tree.rooms ++ new ∷ [] }

no_installed : (room : Room) (makes : Making) (id : ℕ) (bytes : List ℕ) → IsBare room → HasItem room (installed_item makes id) bytes → ⊥
no_installed room making.Flat id bytes bare h = no_item room (installed_item making.Flat id) bytes bare refl h
no_installed room (making.Pack host writer) id bytes bare h = no_item room (installed_item (making.Pack host writer) id) bytes bare (hostdir_below host) h

module _ (tree : Tree) (s : IsSoundTree tree) (new : Room) (bare : IsBare new) where
  nobody : (q : ℕ) → s.issued (length tree.rooms) q ≡ []
  nobody q = s.roomless (length tree.rooms) q (past tree.rooms)

  whole_added : (m : ℕ) (r : Room) → slice_get (with_added tree new).rooms m ≡ Some r → (q : ℕ) → q < 2 ^ 64 → IsWhole r q (s.issued m q)
  whole_added m r e q fits = elim (each_with_added tree m new r e) as (λ _. IsWhole r q (s.issued m q)) [
    | inl at ↦ subst (λ x. IsWhole x q (s.issued m q)) (sym at.1) (subst (IsWhole new q) (sym (ap (λ k. s.issued k q) at.0 ∙ nobody q)) (bare_whole new q bare))
    | inr was ↦ ((s.rooms m r was.1).writers q fits, s.all_landed m r was.1 q fits)
  ]

  sound_more : IsShapedTree (IsOfMark (with_added tree new)) (with_added tree new) → IsSoundTree (with_added tree new)
  sound_more shaped = record {
    shaped = shaped;
    issued = s.issued;
    rooms = λ m r e. record {
      writers = λ q fits. (whole_added m r e q fits).0;
      kept = λ id row found at. absurd (cc);
      truncates = elim (each_with_added tree m new r e) as (λ _. TruncatesDiffer r) [
        | inl at ↦ subst TruncatesDiffer (sym at.1) (λ stamp size other a b has_a has_b. absurd (no_item new (Trunc stamp size) a bare refl has_a))
        | inr was ↦ (s.rooms m r was.1).truncates
      ];
    };
    writes = s.writes;
    all_landed = λ m r e q fits. (whole_added m r e q fits).1;
    fitting = s.fitting;
    roomless = λ m q gone. s.roomless m q (absent_before tree.rooms m new gone);
    flats = λ m r e makes id bytes h. elim (each_with_added tree m new r e) as (λ _. IsRightFor r makes bytes × (length bytes ≤ kept_at r (installed_of makes id))) [
      | inl at ↦ absurd (no_installed new makes id bytes bare (subst (λ x. HasItem x (installed_item makes id) bytes) at.1 h))
      | inr was ↦ s.flats m r was.1 makes id bytes h
    ];
  }

  -- The tree is sound, by the account that there was, and nobody wrote in the new room.
  pub record AddedSound : Type 0 where
    pub sound : IsSoundTree (with_added tree new)
    pub same : (m q : ℕ) → sound.issued m q ≡ s.issued m q
    pub nobody_wrote : (q : ℕ) → sound.issued (length tree.rooms) q ≡ []

  pub added_sound : IsShapedTree (IsOfMark (with_added tree new)) (with_added tree new) → AddedSound
  unfolding sound_more
  added_sound shaped = record { sound = sound_more shaped; same = λ m q. refl; nobody_wrote = nobody }
