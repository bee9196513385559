-- What the table counts of a writer has landed, and no more than it issued.
use Rattle.std.proofs.Common.{◌≡◌, ◌≤◌, ◌-◌, ℕ, List, length, min, Option, Some, None, refl, ap, sym, ◌∙◌, subst, arith, length-drop}
use Rattle.std.specs.Prelude.{MatchOption}
use Rattle.plfs_types.specs.declared.entries.Entry.{Entry}
use Rattle.store_laws.specs.Files.{file_at}
use Rattle.mount_model.specs.declared.row.Row.{Row}
use Rattle.mount_model.specs.Paths.{index_path}
use Rattle.mount_model.specs.Table.{row_of}
use Rattle.mount_model.proofs.Facts.{row_of_id}
use Rattle.mount_sound.specs.Dropping.{bytes_of}
use Rattle.mount_sound.specs.Kept.{Begins, IsKept}
use Rattle.mount_sound.specs.Landed.{whole}
use Rattle.mount_sound.specs.Ledger.{entries_in}
use Rattle.mount_sound.proofs.Facts.{Fits, all_fit}
use Rattle.reader_laws.specs.Moments.{Dropping, IsNamed, IsSoundAt, Moment, file_in_room, file_told, index_then, issued_by, landed}
use Rattle.reader_laws.proofs.Gathered.Facts.{landed_whole, length-entries}
use Rattle.writer_laws.specs.Counting.{entry_count}
use Rattle.writer_laws.specs.Knowing.{HasRow}

kept_landed : (landed : ℕ) (issued : List Entry) (file : Option (List ℕ)) → MatchOption file (landed ≡ 0) (Begins issued landed) → landed ≤ whole (bytes_of file)
kept_landed landed issued None m = omega (arith, m)
kept_landed landed issued (Some bytes) m = omega (arith, m.long)

-- so many entries of the writer have landed as the table counts, or more, and at most all
pub record IsBetween (m : Moment) (d : Dropping) (row : Row) : Type 0 where
  pub named : IsNamed d
  pub issued : length (issued_by m d) ≡ entry_count row
  pub no_fewer : row.landed ≤ landed m d
  pub no_more : landed m d ≤ entry_count row

abbrev pub its_dropping : Row → Dropping
its_dropping row = record { room = row.room; host = row.host; writer = row.id }

row_between : (m : Moment) (s : IsSoundAt m) (row : Row) → row_of row.id m.state.table.writers ≡ Some row → IsBetween m (its_dropping row) row
row_between m s row held =
    let p = s.sound.placed row.id row held in
    let k : IsKept p.0 row (m.issued row.room row.id) = (s.sound.rooms row.room p.0 p.1).kept row.id row held refl in
    let file : file_at p.0 (index_path row.host row.id) ≡ index_then m (its_dropping row) = sym (ap (λ o. file_told o row.room (index_path row.host row.id)) s.shape.told ∙ ap (λ o. file_in_room o (index_path row.host row.id)) p.1) in
    let fits : Fits row = all_fit m.state s.regular row.id row held in
    let is_named : IsNamed (its_dropping row) = record { in_range = tt; widths = (fits.host, fits.id) } in
    let long : length (entries_in (m.issued row.room row.id)) ≡ length (m.issued row.room row.id) = length-entries (m.issued row.room row.id) in
    let pending : length row.pending.entries ≡ length (entries_in (m.issued row.room row.id)) - row.landed = ap length k.numbers.pending ∙ length-drop row.landed (entries_in (m.issued row.room row.id)) in
    let all : length (m.issued row.room row.id) ≡ entry_count row = omega (arith, long, pending, k.numbers.landed) in
    let is : landed m (its_dropping row) ≡ min (whole (bytes_of (index_then m (its_dropping row)))) (length (m.issued row.room row.id)) = landed_whole m s (its_dropping row) is_named in
    let whole_so : row.landed ≤ whole (bytes_of (index_then m (its_dropping row))) = subst (λ f. row.landed ≤ whole (bytes_of f)) file (kept_landed row.landed (entries_in (m.issued row.room row.id)) (file_at p.0 (index_path row.host row.id)) k.index) in
    record { named = is_named; issued = all; no_fewer = omega (arith, is, whole_so, k.numbers.landed, long); no_more = omega (arith, is, all) }

-- the caller's writer goes to this place
pub record AtPlace (m : Moment) (me : ℕ) (d : Dropping) (row : Row) : Type 0 where
  pub sound : IsSoundAt m
  pub has : HasRow me d.writer row m.state
  pub room : row.room ≡ d.room
  pub host : row.host ≡ d.host

pub between : (m : Moment) (me : ℕ) (d : Dropping) (row : Row) → AtPlace m me d row → IsBetween m d row
between m me d row at =
    let id : row.id ≡ d.writer = row_of_id d.writer m.state.table.writers row at.has.there in
    let held : row_of row.id m.state.table.writers ≡ Some row = subst (λ w. row_of w m.state.table.writers ≡ Some row) (sym id) at.has.there in
    let same : its_dropping row ≡ d = λ i. record { room = at.room i; host = at.host i; writer = id i } in
    subst (λ x. IsBetween m x row) same (row_between m at.sound row held)
