-- What has landed of the writes of a sound room accounts for it alone.
use Rattle.std.proofs.Common.{◌≡◌, ◌≤◌, ◌<◌, ◌+◌, ◌^◌, ℕ, zero, suc, List, [], ◌∷◌, ◌++◌, length, take, Option, Some, None, refl, ap, sym, ◌∙◌, inl, inr, subst, arith}
use Rattle.std.specs.Prelude.{slice_get, MatchOption}
use Rattle.std.proofs.lemmas.Bool.{cases_lt}
use Rattle.std.proofs.lemmas.List.{length-take-le}
use Rattle.plfs_types.specs.declared.entries.Entry.{Entry}
use Rattle.index_entry.specs.Spelling.{spelling_all}
use Rattle.store_api.specs.declared.tree.Room.{Room}
use Rattle.store_api.specs.declared.tree.Tree.{Tree}
use Rattle.store_laws.specs.Files.{file_at}
use Rattle.store_laws.specs.Prefix.{IsPrefix}
use Rattle.store_laws.proofs.Facts.{prefix_trans}
use Rattle.mount_model.specs.declared.row.Row.{Row}
use Rattle.mount_model.specs.Paths.{index_path}
use Rattle.mount_sound.specs.Entries.{AreEntriesOf, logged, last_stamp}
use Rattle.mount_sound.specs.Ledger.{Written, entries_in, content, AreFull, AreWritesOf, Ledger}
use Rattle.mount_sound.specs.Dropping.{log_bytes, EndPast, IsDropping, IsKeptWhole, IsToldOf, AreBeside, IsWriter}
use Rattle.mount_sound.specs.Sound.{AreSoundRooms}

-- ---- the first writes

pub entries_take : (n : ℕ) (issued : List Written) → entries_in (take n issued) ≡ take n (entries_in issued)
entries_take zero [] = refl
entries_take zero (w ∷ issued) = refl
entries_take (suc n) [] = refl
entries_take (suc n) (w ∷ issued) = ap (λ es. w.entry ∷ es) (entries_take n issued)

take_twice : {A : Type 0} (n : ℕ) (xs : List A) → take n (take n xs) ≡ take n xs
take_twice zero [] = refl
take_twice zero (x ∷ xs) = refl
take_twice (suc n) [] = refl
take_twice (suc n) (x ∷ xs) = ap (λ ys. x ∷ ys) (take_twice n xs)

prefix_same : (a b c : List ℕ) → IsPrefix b c → IsPrefix (a ++ b) (a ++ c)
prefix_same [] b c p = p
prefix_same (x ∷ a) b c p = (refl, prefix_same a b c p)

pub content_take : (n : ℕ) (issued : List Written) → IsPrefix (content (take n issued)) (content issued)
content_take zero [] = tt
content_take zero (w ∷ issued) = tt
content_take (suc n) [] = tt
content_take (suc n) (w ∷ issued) = prefix_same w.bytes (content (take n issued)) (content issued) (content_take n issued)

pub in_order_take : (m writer last offset : ℕ) (es : List Entry) → AreEntriesOf writer last offset es → AreEntriesOf writer last offset (take m es)
in_order_take zero writer last offset [] o = tt
in_order_take zero writer last offset (e ∷ es) o = tt
in_order_take (suc m) writer last offset [] o = tt
in_order_take (suc m) writer last offset (e ∷ es) o = (o.0, in_order_take m writer e.stamp (offset + e.len) es o.1)

pub logged_take : (m : ℕ) (es : List Entry) → logged (take m es) ≤ logged es
logged_take zero [] = omega arith
logged_take zero (e ∷ es) = omega arith
logged_take (suc m) [] = omega arith
logged_take (suc m) (e ∷ es) = omega (arith, logged_take m es)

full_take : (m : ℕ) (issued : List Written) → AreFull issued → AreFull (take m issued)
full_take zero [] f = tt
full_take zero (w ∷ issued) f = tt
full_take (suc m) [] f = tt
full_take (suc m) (w ∷ issued) f = (f.0, full_take m issued f.1)

pub writes_take : (m writer : ℕ) (issued : List Written) → AreWritesOf writer issued → AreWritesOf writer (take m issued)
writes_take m writer issued w = record {
  in_order = subst (AreEntriesOf writer 0 0) (sym (entries_take m issued)) (in_order_take m writer 0 0 (entries_in issued) w.in_order);
  full = full_take m issued w.full;
  small = omega (arith, w.small, logged_take m (entries_in issued), ap logged (entries_take m issued));
}

pub no_writes : (writer : ℕ) → AreWritesOf writer []
no_writes writer = record { in_order = tt; full = tt; small = omega arith }

-- ---- what has landed of a writer's writes

dropping_take : (writer : ℕ) (issued : List Written) (landed log : ℕ) (file : Option (List ℕ)) → landed ≤ length issued → MatchOption file (landed ≡ 0) (IsDropping writer issued landed log) → take landed (entries_in (take landed issued)) ≡ take landed (entries_in issued) → MatchOption file (landed ≡ 0) (IsDropping writer (take landed issued) landed log)
dropping_take writer issued landed log None within m e = m
dropping_take writer issued landed log (Some bytes) within m e = record {
  more = m.more;
  tail = m.tail;
  spelled = m.spelled ∙ ap (λ es. spelling_all (es ++ m.more) ++ m.tail) (sym e);
  torn = m.torn;
  in_order = subst (λ es. AreEntriesOf writer (last_stamp 0 es) (logged es) m.more) (sym e) m.in_order;
  few = omega (arith, m.few, ap logged e);
  past = subst (λ es. EndPast log (logged es) m.more) (sym e) m.past;
  behind = inr (sym (length-take-le landed issued within));
}

pub entries_landed : (landed : ℕ) (issued : List Written) → take landed (entries_in (take landed issued)) ≡ take landed (entries_in issued)
entries_landed landed issued = ap (λ es. take landed es) (entries_take landed issued) ∙ take_twice landed (entries_in issued)

pub landed_writer : (room : Room) (writer : ℕ) (issued : List Written) (w : IsWriter room writer issued) → IsWriter room writer (take w.landed issued)
landed_writer room writer issued w =
    let same : take w.landed (entries_in issued) ≡ take w.landed (entries_in (take w.landed issued)) = sym (entries_landed w.landed issued) in
    record {
      host = w.host;
      host_fits = w.host_fits;
      one_host = w.one_host;
      landed = w.landed;
      within = omega (arith, length-take-le w.landed issued w.within);
      index = dropping_take writer issued w.landed (length (log_bytes room w.host writer)) (file_at room (index_path w.host writer)) w.within w.index (entries_landed w.landed issued);
      log = prefix_trans (content (take w.landed issued)) (content issued) (log_bytes room w.host writer) (content_take w.landed issued) w.log;
      left = w.left;
      told = λ last bytes stamp inside h. subst (IsToldOf last bytes stamp) same (w.told last bytes stamp inside h);
      settled = λ m. subst (IsKeptWhole room w.host writer) same (w.settled m);
      beside = λ stamp size inside h. subst (AreBeside stamp) same (w.beside stamp size inside h);
    }

-- ---- and of all writers'

-- what has landed of the writes of a writer of a room, where that is there
abbrev pub landed_of : (issued : ℕ → List Written) (found : Option Room) → ((room : Room) → found ≡ Some room → (writer : ℕ) → writer < 2 ^ 64 → IsWriter room writer (issued writer)) → ℕ → List Written
landed_of issued None writers writer = []
landed_of issued (Some room) writers writer = elim (cases_lt writer (2 ^ 64)) as (λ _. List Written) [
  | inl fits ↦ take (writers room refl writer fits).landed (issued writer)
  | inr past ↦ []
]

-- it is what has landed of them
pub record IsLandedPart (room : Room) (writer : ℕ) (issued landed : List Written) : Type 0 where
  pub of : IsWriter room writer issued
  pub is : landed ≡ take of.landed issued

has_landed : (issued : ℕ → List Written) (found : Option Room) (writers : (room : Room) → found ≡ Some room → (writer : ℕ) → writer < 2 ^ 64 → IsWriter room writer (issued writer)) (room : Room) → found ≡ Some room → (writer : ℕ) → writer < 2 ^ 64 → IsLandedPart room writer (issued writer) (landed_of issued found writers writer)
has_landed issued None writers room e writer fits = absurd (cc)
has_landed issued (Some r) writers room e writer fits =
    let same : r ≡ room = cc in
    subst (λ x. IsLandedPart x writer (issued writer) (landed_of issued (Some r) writers writer)) same
    (elim (cases_lt writer (2 ^ 64)) as (λ c. IsLandedPart r writer (issued writer) (elim c as (λ _. List Written) [ inl small ↦ take (writers r refl writer small).landed (issued writer) | inr past ↦ [] ])) [
      | inl small ↦ record { of = writers r refl writer small; is = refl }
      | inr past ↦ absurd (omega (arith, past, fits))
    ])

landed_past : (issued : ℕ → List Written) (found : Option Room) (writers : (room : Room) → found ≡ Some room → (writer : ℕ) → writer < 2 ^ 64 → IsWriter room writer (issued writer)) (writer : ℕ) → 2 ^ 64 ≤ writer → landed_of issued found writers writer ≡ []
landed_past issued None writers writer past = refl
landed_past issued (Some r) writers writer past = elim (cases_lt writer (2 ^ 64)) as (λ c. (elim c as (λ _. List Written) [ inl small ↦ take (writers r refl writer small).landed (issued writer) | inr far ↦ [] ]) ≡ []) [
  | inl small ↦ absurd (omega (arith, past, small))
  | inr far ↦ refl
]

landed_nowhere : (issued : ℕ → List Written) (found : Option Room) (writers : (room : Room) → found ≡ Some room → (writer : ℕ) → writer < 2 ^ 64 → IsWriter room writer (issued writer)) (writer : ℕ) → found ≡ None → landed_of issued found writers writer ≡ []
landed_nowhere issued None writers writer e = refl
landed_nowhere issued (Some r) writers writer e = absurd (cc)

landed_writes : (issued : ℕ → List Written) (found : Option Room) (writers : (room : Room) → found ≡ Some room → (writer : ℕ) → writer < 2 ^ 64 → IsWriter room writer (issued writer)) (writer : ℕ) → AreWritesOf writer (issued writer) → AreWritesOf writer (landed_of issued found writers writer)
landed_writes issued None writers writer w = no_writes writer
landed_writes issued (Some r) writers writer w = elim (cases_lt writer (2 ^ 64)) as (λ c. AreWritesOf writer (elim c as (λ _. List Written) [ inl small ↦ take (writers r refl writer small).landed (issued writer) | inr far ↦ [] ])) [
  | inl small ↦ writes_take (writers r refl writer small).landed writer (issued writer) w
  | inr far ↦ no_writes writer
]

-- the room holds what accounts for the writes, and all of them have landed
abbrev pub IsWhole : Room → ℕ → List Written → Type 0
IsWhole room writer issued = (w : IsWriter room writer issued) × (w.landed ≡ length issued)

whole_of : (room : Room) (writer : ℕ) (issued : List Written) (w : IsWriter room writer issued) → IsWhole room writer (take w.landed issued)
unfolding landed_writer
whole_of room writer issued w = (landed_writer room writer issued w, sym (length-take-le w.landed issued w.within))

module _ (issued : Ledger) (rows : List Row) (tree : Tree) (s : AreSoundRooms issued rows tree) where
  -- what has landed of what was issued
  abbrev pub landed_ledger : Ledger
  landed_ledger number writer = landed_of (issued number) (slice_get tree.rooms number) (λ room e. (s number room e).writers) writer

  pub whole : (number : ℕ) (room : Room) → slice_get tree.rooms number ≡ Some room → (writer : ℕ) → writer < 2 ^ 64 → IsWhole room writer (landed_ledger number writer)
  whole number room there writer fits =
      let h = has_landed (issued number) (slice_get tree.rooms number) (λ r e. (s number r e).writers) room there writer fits in
      subst (IsWhole room writer) (sym h.is) (whole_of room writer (issued number writer) h.of)

  pub landed_fitting : (number writer : ℕ) → 2 ^ 64 ≤ writer → landed_ledger number writer ≡ []
  landed_fitting number writer past = landed_past (issued number) (slice_get tree.rooms number) (λ r e. (s number r e).writers) writer past

  pub landed_roomless : (number writer : ℕ) → slice_get tree.rooms number ≡ None → landed_ledger number writer ≡ []
  landed_roomless number writer none = landed_nowhere (issued number) (slice_get tree.rooms number) (λ r e. (s number r e).writers) writer none

  pub landed_valid : ((number writer : ℕ) → AreWritesOf writer (issued number writer)) → (number writer : ℕ) → AreWritesOf writer (landed_ledger number writer)
  landed_valid writes number writer = landed_writes (issued number) (slice_get tree.rooms number) (λ r e. (s number r e).writers) writer (writes number writer)
