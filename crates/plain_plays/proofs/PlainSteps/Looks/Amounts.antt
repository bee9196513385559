-- How many bytes each writer has in a cut, and all of them: those of the plain machine's room, where the cut is what has landed there.
use Rattle.std.proofs.Common.{◌≡◌, ◌≤◌, ◌+◌, ℕ, Bool, true, false, nat_eq, List, [], ◌∷◌, ◌++◌, length, map, refl, sym, ap, ◌∙◌, subst, arith, if◌then◌else◌}
use Rattle.std.specs.Prelude.{take}
use Rattle.std.specs.List.{AllByRecursion}
use Rattle.std.proofs.lemmas.Bool.Decides.{nat_tests}
use Rattle.std.proofs.lemmas.List.{map-append}
use Rattle.std.proofs.lemmas.List.Sums.{sum_by-append, sum_by-cons}
use Rattle.plfs_types.specs.declared.entries.Cover.{Cover}
use Rattle.plfs_types.specs.declared.entries.Entry.{Entry}
use Rattle.plfs_types.specs.declared.entries.ShareBytes.{ShareBytes}
use Rattle.plfs_types.specs.declared.entries.Trunc.{Trunc}
use Rattle.index_entry.specs.Entries.{logged}
use Rattle.plain_file.specs.declared.changes.Change.TheVariants.{Truncate}
use Rattle.plain_file.specs.File.{stored_by, stored_bytes}
use Rattle.mount_sound.specs.Ledger.{Written, change_of, entries_in}
use Rattle.mount_sound.proofs.Facts.{entries_take, in_order_take, logged_append, some_logged}
use Rattle.attr_flow.specs.Shares.{shares_covered, stored_in, with_share}
use Rattle.index_reader.specs.Sharing.{covered}
use Rattle.reader_laws.specs.Gathering.{Gathered, IsPrefixOf}
use Rattle.reader_laws.specs.Moments.{Dropping, IsNamed, IsSoundAt, Moment, Stood, issued_by, landed}
use Rattle.reader_laws.specs.GatheringOpening.{HasView}
use Rattle.reader_laws.specs.View.{own_entries}
use Rattle.reader_laws.proofs.Gathered.Facts.{landed_is_first}
use Rattle.look_laws.specs.Shares.{shares_seen}
use Rattle.reader_laws.specs.Covering.{counts_in, cover_with, empty_cover}
use Rattle.plain_machine.specs.Machine.{PlainRoom, PlainWriter}
use Rattle.plain_machine.specs.Landed.{changes, landed_of, landed_writes, shares}
use Rattle.plain_plays.specs.Mirrors.{MirrorsRoom, MirrorsWriter}
use Rattle.plain_plays.specs.Plainly.{dropping_of}
use Rattle.store_api.specs.declared.tree.Room.{Room}
use Rattle.plain_plays.proofs.PlainSteps.ByName.Cuts.{count_is, droppings_in, droppings_of, only_some, some, some_same}

-- ---- of droppings

module _ (e : Moment) where
  -- the first entries of a writer, as many as have landed
  abbrev there : Dropping → List Entry
  there d = take (landed e d) (entries_in (issued_by e d))

  -- how many bytes these are, of each
  abbrev amounts : List Dropping → List ShareBytes
  amounts [] = []
  amounts (d ∷ ds) = with_share d.writer (logged (there d)) (amounts ds)

  amounts_some : (ds : List Dropping) → amounts (only_some e ds) ≡ amounts ds
  amounts_some [] = refl
  amounts_some (d ∷ ds) = elim (some e d) as (λ b. some e d ≡ b → amounts (if b then d ∷ only_some e ds else only_some e ds) ≡ with_share d.writer (logged (there d)) (amounts ds)) [
    | true ↦ λ t. ap (λ l. with_share d.writer (logged (there d)) l) (amounts_some ds)
    | false ↦ λ t. amounts_some ds ∙ sym (ap (λ k. with_share d.writer (logged (take k (entries_in (issued_by e d)))) (amounts ds)) (none t))
  ] refl
    where
      none : some e d ≡ false → landed e d ≡ 0
      none t = grind (arith, nat_tests)

  -- those of a plain machine's writers
  module _ (sound : IsSoundAt e) (n : ℕ) where
    some_bytes : (d : Dropping) → IsNamed d → 1 ≤ landed e d → 1 ≤ logged (there d)
    some_bytes d named more =
        let long : length (there d) ≡ landed e d = ap (λ (es : List Entry). length es) (sym (landed_is_first e sound d named)) in
        some_logged d.writer 0 0 (there d) (in_order_take (landed e d) d.writer 0 0 (entries_in (issued_by e d)) (sound.sound.writes d.room d.writer).in_order) (omega (arith, long, more))

    one_writer : (w : PlainWriter) (ws : List PlainWriter) → MirrorsWriter e n w → shares (w ∷ ws) ≡ with_share w.id (logged (there (dropping_of n w))) (shares ws)
    one_writer w ws o = elim (nat_eq w.landed 0) as (λ b. nat_eq w.landed 0 ≡ b → (if b then shares ws else record { writer = w.id; bytes = logged (entries_in (landed_of w)) } ∷ shares ws) ≡ with_share w.id (logged (there (dropping_of n w))) (shares ws)) [
      | true ↦ λ t. sym (ap (λ k. with_share w.id (logged (take k (entries_in (issued_by e (dropping_of n w))))) (shares ws)) (none t))
      | false ↦ λ t.
          let more : nat_eq (logged (there (dropping_of n w))) 0 ≡ false = (let k : 1 ≤ logged (there (dropping_of n w)) = some_bytes (dropping_of n w) o.named (some_landed t) in grind (arith, nat_tests)) in
          ap (λ k. record { writer = w.id; bytes = k } ∷ shares ws) same ∙ sym (ap (λ b. if b then shares ws else record { writer = w.id; bytes = logged (there (dropping_of n w)) } ∷ shares ws) more)
    ] refl
      where
        none : nat_eq w.landed 0 ≡ true → landed e (dropping_of n w) ≡ 0
        none t = let k : w.landed ≡ 0 = grind (arith, nat_tests) in o.landed_is ∙ k

        some_landed : nat_eq w.landed 0 ≡ false → 1 ≤ landed e (dropping_of n w)
        some_landed t = let k : 1 ≤ w.landed = grind (arith, nat_tests) in subst (λ z. 1 ≤ z) (sym o.landed_is) k

        same : logged (entries_in (landed_of w)) ≡ logged (there (dropping_of n w))
        same = ap logged (entries_take w.landed w.issued ∙ ap (λ k. take k (entries_in w.issued)) (sym o.landed_is) ∙ ap (λ l. take (landed e (dropping_of n w)) (entries_in l)) (sym o.issued))

    writers_amounts : (ws : List PlainWriter) → AllByRecursion (MirrorsWriter e n) ws → shares ws ≡ amounts (droppings_of n ws)
    writers_amounts [] all = refl
    writers_amounts (w ∷ ws) all = one_writer w ws all.0 ∙ ap (λ l. with_share w.id (logged (there (dropping_of n w))) l) (writers_amounts ws all.1)

-- ---- of a cut

module _ (s e : Moment) (sound : IsSoundAt e) (n : ℕ) (cut : List Gathered) (truncs : List Trunc) (v : HasView s e n cut truncs) (same : (d : Dropping) → landed s d ≡ landed e d) (stays : (d : Dropping) → Stood e d → Stood s d) (r : Room) (room : PlainRoom) (o : MirrorsRoom e n r room) where
  seen_amounts : (gs : List Gathered) → AllByRecursion (IsPrefixOf s e) gs → shares_seen e gs ≡ amounts e (droppings_in gs)
  seen_amounts [] all = refl
  seen_amounts (g ∷ gs) all =
      ap (λ k. with_share g.dropping.writer (logged (take k (entries_in (issued_by e g.dropping)))) (shares_seen e gs)) (count_is s e n cut truncs v same stays r room o g all.0)
      ∙ ap (λ l. with_share g.dropping.writer (logged (there e g.dropping)) l) (seen_amounts gs all.1)

  -- The shares of the cut are those of the machine's room.
  pub shares_same : shares_seen e cut ≡ shares room.writers
  shares_same =
      seen_amounts cut v.admissible ∙ sym (amounts_some e (droppings_in cut)) ∙ ap (amounts e) (some_same s e n cut truncs v same stays r room o) ∙ amounts_some e (droppings_of n room.writers) ∙ sym (writers_amounts e sound n room.writers o.writers)

-- ---- of covers

one_share : (writer : ℕ) (es : List Entry) (covers : List Cover) (rest : List ShareBytes) → shares_covered covers ≡ rest → shares_covered (covered (cover_with (empty_cover writer) es) ++ covers) ≡ with_share writer (logged es) rest
one_share writer [] covers rest e = e
one_share writer (x ∷ es) covers rest e =
    let c : Cover = cover_with (empty_cover writer) (x ∷ es) in
    let more : nat_eq c.count 0 ≡ false = (let k : 1 ≤ c.count = omega arith in grind (arith, nat_tests)) in
    let bytes : c.bytes ≡ logged (x ∷ es) = omega arith in
    ap (λ b. shares_covered ((if b then [] else c ∷ []) ++ covers)) more ∙ ap (λ k. with_share writer k (shares_covered covers)) bytes ∙ ap (with_share writer (logged (x ∷ es))) e

pub covers_seen : (end : Moment) (cut : List Gathered) → shares_covered (counts_in end cut) ≡ shares_seen end cut
covers_seen end [] = refl
covers_seen end (g ∷ cut) = one_share g.dropping.writer (own_entries end g) (counts_in end cut) (shares_seen end cut) (covers_seen end cut)

-- ---- all bytes

writes_stored : (ws : List Written) → stored_bytes (map change_of ws) ≡ logged (entries_in ws)
writes_stored [] = refl
writes_stored (w ∷ ws) = sum_by-cons stored_by (change_of w) (map change_of ws) ∙ ap (λ k. w.entry.len + k) (writes_stored ws)

truncs_stored : (ts : List Trunc) → stored_bytes (map Truncate ts) ≡ 0
truncs_stored [] = refl
truncs_stored (t ∷ ts) = sum_by-cons stored_by (Truncate t) (map Truncate ts) ∙ ap (λ k. stored_by (Truncate t) + k) (truncs_stored ts)

-- of a writer, before others
one_logged : (w : PlainWriter) (ws : List PlainWriter) (rest : ℕ) → stored_in (shares ws) ≡ rest → (b : Bool) → nat_eq w.landed 0 ≡ b → stored_in (if b then shares ws else record { writer = w.id; bytes = logged (entries_in (landed_of w)) } ∷ shares ws) ≡ logged (entries_in (landed_of w)) + rest
one_logged w ws rest e true t = let z = none in omega (arith, e, z)
  where
    none : logged (entries_in (landed_of w)) ≡ 0
    none = let k : w.landed ≡ 0 = grind (arith, nat_tests) in ap (λ z. logged (entries_in (take z w.issued))) k
one_logged w ws rest e false t = ap (λ k. logged (entries_in (landed_of w)) + k) e

shares_logged : (ws : List PlainWriter) → stored_in (shares ws) ≡ logged (entries_in (landed_writes ws))
shares_logged [] = refl
shares_logged (w ∷ ws) =
    one_logged w ws (logged (entries_in (landed_writes ws))) (shares_logged ws) (nat_eq w.landed 0) refl
    ∙ sym (ap logged (map-append (λ (x : Written). x.entry) (landed_of w) (landed_writes ws)) ∙ logged_append (entries_in (landed_of w)) (entries_in (landed_writes ws)))

-- The sum of the shares is how many bytes the room's writes have.
pub stored_same : (ws : List PlainWriter) (ts : List Trunc) → stored_in (shares ws) ≡ stored_bytes (changes (landed_writes ws) ts)
stored_same ws ts =
    let both = sum_by-append stored_by (map change_of (landed_writes ws)) (map Truncate ts) in
    let none = truncs_stored ts in
    let writes = writes_stored (landed_writes ws) in
    let all = shares_logged ws in
    omega (arith, both, none, writes, all)
