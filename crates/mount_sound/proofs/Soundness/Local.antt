-- Soundness is local: a call that changes one room and one row is sound where they are.
use Rattle.std.proofs.Common.{◌≡◌, ◌≤◌, ◌<◌, ◌^◌, ℕ, List, [], Option, Some, None, ap, sym, ◌∙◌, inl, inr, subst, arith}
use Rattle.std.specs.Prelude.{slice_get, slice_set}
use Rattle.std.proofs.lemmas.Bool.{cases_eq}
use Rattle.container_layout.specs.declared.items.Item.TheVariants.{Trunc}
use Rattle.container_layout.specs.Items.{IsItem}
use Rattle.container_layout.specs.Paths.{path_of}
use Rattle.store_api.specs.declared.tree.Room.{Room}
use Rattle.store_api.specs.declared.tree.Tree.{Tree}
use Rattle.store_laws.specs.Files.{file_at}
use Rattle.store_laws.specs.Changes.{with_room}
use Rattle.store_laws.proofs.Facts.{slice_get-slice_set, slice_get_other-slice_set, slice_set_same}
use Rattle.mount_model.specs.declared.row.Row.{Row}
use Rattle.mount_model.specs.Table.{row_of}
use Rattle.mount_sound.specs.Ledger.{AreWritesOf, Ledger}
use Rattle.mount_sound.specs.Dropping.{IsWriter}
use Rattle.mount_sound.specs.Kept.{IsKept}
use Rattle.mount_sound.specs.Sound.{IsSoundRoom, AreSoundRooms, AreSound}
use Rattle.mount_sound.proofs.Soundness.Items.{SameFor}
use Rattle.mount_sound.proofs.Soundness.Frames.{Fits, writer_frame, kept_frame, truncates_frame}
use Rattle.mount_model.proofs.Facts.{row_of_id}

-- every row's numbers are those of items
abbrev pub AllFit : List Row → Type 0
AllFit rows = (id : ℕ) (row : Row) → row_of id rows ≡ Some row → Fits row

-- only one writer of one room issued more
abbrev pub SameBut : ℕ → ℕ → Ledger → Ledger → Type 0
SameBut number id issued issued' = (m q : ℕ) → (m ≡ number → q ≡ id → ⊥) → issued' m q ≡ issued m q

-- One room of the tree and one writer's row changed, and what the room holds of that writer is right.
pub record Changes (number id : ℕ) (room new : Room) (issued issued' : Ledger) (rows rows' : List Row) (tree : Tree) : Type 0 where
  pub there : slice_get tree.rooms number ≡ Some room
  pub fit : AllFit rows
  pub others : (q : ℕ) → (q ≡ id → ⊥) → row_of q rows' ≡ row_of q rows
  pub writes : SameBut number id issued issued'
  pub files : (q : ℕ) → (q ≡ id → ⊥) → SameFor q room new
  pub truncates : (stamp size : ℕ) → IsItem (Trunc stamp size) → file_at new (path_of (Trunc stamp size)) ≡ file_at room (path_of (Trunc stamp size))
  pub own : (x : Row) → row_of id rows' ≡ Some x → (x.room ≡ number) × IsKept new x (issued' number id)
  pub writer : id < 2 ^ 64 → IsWriter new id (issued' number id)
  pub valid : AreWritesOf id (issued' number id)

pub some_room : (a b : Room) (o : Option Room) → o ≡ Some a → o ≡ Some b → a ≡ b
some_room a b o p q = cc

pub no_room : (a : Room) (o : Option Room) → o ≡ Some a → o ≡ None → ⊥
no_room a o p q = cc

-- each room is still there
pub in_new : (tree : Tree) (number : ℕ) (room new : Room) → slice_get tree.rooms number ≡ Some room → (m : ℕ) → (x : Room) × (slice_get tree.rooms m ≡ Some x) → (x : Room) × (slice_get (slice_set tree.rooms number new) m ≡ Some x)
in_new tree number room new there m p = elim (cases_eq m number) as (λ _. (x : Room) × (slice_get (slice_set tree.rooms number new) m ≡ Some x)) [
  | inl same ↦ (new, ap (λ n. slice_get (slice_set tree.rooms number new) n) same ∙ slice_get-slice_set tree.rooms number room new there)
  | inr other ↦ (p.0, slice_get_other-slice_set tree.rooms number m new other ∙ p.1)
]

module _ (number id : ℕ) (room new : Room) (issued issued' : Ledger) (rows rows' : List Row) (tree : Tree) (c : Changes number id room new issued issued' rows rows' tree) where
  here : IsSoundRoom (issued number) rows number room → IsSoundRoom (issued' number) rows' number new
  here s = record {
    writers = λ w fits. elim (cases_eq w id) as (λ _. IsWriter new w (issued' number w)) [
      | inl same ↦ subst (λ q. IsWriter new q (issued' number q)) (sym same) (c.writer (subst (λ q. q < 2 ^ 64) same fits))
      | inr other ↦ subst (IsWriter new w) (sym (c.writes number w (λ a b. other b))) (writer_frame room new w (issued number w) fits (c.files w other) (s.writers w fits))
    ];
    kept = λ q x e at. elim (cases_eq q id) as (λ _. IsKept new x (issued' number q)) [
      | inl same ↦ subst (λ w. IsKept new x (issued' number w)) (sym same) (c.own x (subst (λ w. row_of w rows' ≡ Some x) same e)).1
      | inr other ↦
          let stood : row_of q rows ≡ Some x = sym (c.others q other) ∙ e in
          subst (IsKept new x) (sym (c.writes number q (λ a b. other b)))
          (kept_frame x room new (issued number q) (c.fit q x stood) (subst (λ w. SameFor w room new) (sym (row_of_id q rows x stood)) (c.files q other)) (s.kept q x stood at))
    ];
    truncates = truncates_frame room new c.truncates s.truncates;
  }

  elsewhere : (m : ℕ) (r : Room) → (m ≡ number → ⊥) → IsSoundRoom (issued m) rows m r → IsSoundRoom (issued' m) rows' m r
  elsewhere m r other s = record {
    writers = λ w fits. subst (IsWriter r w) (sym (c.writes m w (λ a b. other a))) (s.writers w fits);
    kept = λ q x e at. elim (cases_eq q id) as (λ _. IsKept r x (issued' m q)) [
      | inl mine ↦ absurd (other (sym at ∙ (c.own x (subst (λ w. row_of w rows' ≡ Some x) mine e)).0))
      | inr not_mine ↦ subst (IsKept r x) (sym (c.writes m q (λ a b. other a))) (s.kept q x (sym (c.others q not_mine) ∙ e) at)
    ];
    truncates = s.truncates;
  }

  local_rooms : AreSoundRooms issued rows tree → AreSoundRooms issued' rows' (with_room tree number new)
  local_rooms s m r e = elim (cases_eq m number) as (λ _. IsSoundRoom (issued' m) rows' m r) [
    | inl same ↦
        let is : new ≡ r = some_room new r (slice_get (slice_set tree.rooms number new) number) (slice_get-slice_set tree.rooms number room new c.there) (subst (λ n. slice_get (slice_set tree.rooms number new) n ≡ Some r) same e) in
        subst (λ n. IsSoundRoom (issued' n) rows' n r) (sym same) (subst (IsSoundRoom (issued' number) rows' number) is (here (s number room c.there)))
    | inr other ↦ elsewhere m r other (s m r (sym (slice_get_other-slice_set tree.rooms number m new other) ∙ e))
  ]

  local_writes : ((m q : ℕ) → AreWritesOf q (issued m q)) → (m q : ℕ) → AreWritesOf q (issued' m q)
  local_writes writes m q = elim (cases_eq m number) as (λ _. AreWritesOf q (issued' m q)) [
    | inl at ↦ elim (cases_eq q id) as (λ _. AreWritesOf q (issued' m q)) [
      | inl mine ↦ subst (λ n. AreWritesOf q (issued' n q)) (sym at) (subst (λ w. AreWritesOf w (issued' number w)) (sym mine) c.valid)
      | inr other ↦ subst (AreWritesOf q) (sym (c.writes m q (λ a b. other b))) (writes m q)
    ]
    | inr other ↦ subst (AreWritesOf q) (sym (c.writes m q (λ a b. other a))) (writes m q)
  ]

  local_placed : ((q : ℕ) (r : Row) → row_of q rows ≡ Some r → (x : Room) × (slice_get tree.rooms r.room ≡ Some x)) → (q : ℕ) (r : Row) → row_of q rows' ≡ Some r → (x : Room) × (slice_get (slice_set tree.rooms number new) r.room ≡ Some x)
  local_placed placed q r e = in_new tree number room new c.there r.room (elim (cases_eq q id) as (λ _. (x : Room) × (slice_get tree.rooms r.room ≡ Some x)) [
    | inl mine ↦ (room, ap (λ n. slice_get tree.rooms n) (c.own r (subst (λ w. row_of w rows' ≡ Some r) mine e)).0 ∙ c.there)
    | inr other ↦ placed q r (sym (c.others q other) ∙ e)
  ])

  local_roomless : ((m q : ℕ) → slice_get tree.rooms m ≡ None → issued m q ≡ []) → (m q : ℕ) → slice_get (slice_set tree.rooms number new) m ≡ None → issued' m q ≡ []
  local_roomless roomless m q e = elim (cases_eq m number) as (λ _. issued' m q ≡ []) [
    | inl same ↦ absurd (no_room new (slice_get (slice_set tree.rooms number new) number) (slice_get-slice_set tree.rooms number room new c.there) (subst (λ n. slice_get (slice_set tree.rooms number new) n ≡ None) same e))
    | inr other ↦ c.writes m q (λ a b. other a) ∙ roomless m q (sym (slice_get_other-slice_set tree.rooms number m new other) ∙ e)
  ]

  -- the tree with that room is sound
  pub local : (last last' : ℕ) → last ≤ last' → id ≤ last' → AreSound last issued rows tree → AreSound last' issued' rows' (with_room tree number new)
  local last last' grows drawn s = record {
    rooms = local_rooms s.rooms;
    writes = local_writes s.writes;
    placed = local_placed s.placed;
    fresh = λ m q past. c.writes m q (λ a b. omega arith) ∙ s.fresh m q (omega arith);
    roomless = local_roomless s.roomless;
  }

-- a tree with the room that it has there is the same
pub same_tree : (tree : Tree) (number : ℕ) (room : Room) → slice_get tree.rooms number ≡ Some room → with_room tree number room ≡ tree
same_tree tree number room e = λ i. record { rooms = slice_set_same tree.rooms number room e i }

-- more serials were drawn
pub grown : (last last' : ℕ) (issued : Ledger) (rows : List Row) (tree : Tree) → last ≤ last' → AreSound last issued rows tree → AreSound last' issued rows tree
grown last last' issued rows tree grows s = record {
  rooms = s.rooms;
  writes = s.writes;
  placed = s.placed;
  fresh = λ m q past. s.fresh m q (omega arith);
  roomless = s.roomless;
}
