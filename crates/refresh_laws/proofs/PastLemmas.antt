-- A refresh reads past what is held.
use Rattle.std.proofs.Common.{◌≡◌, ℕ, zero, suc, ◌+◌, ◌-◌, ◌*◌, ◌/◌, ◌≤◌, nat_lt, nat_le, Bool, true, false, List, [], ◌∷◌, length, Option, Some, None, Result, Ok, Err, refl, sym, subst, arith}
use Rattle.std.specs.Prelude.{if◌then◌else◌}
use Rattle.std.proofs.lemmas.Bool.Decides.{nat_tests}
use Rattle.plain_file.specs.declared.parts.ReaderParts.{ReaderParts}
use Rattle.mount_model.specs.Program.{AsksOnly, Program, done, ask, followed_by}
use Rattle.mount_model.specs.declared.call.Call.{Call}
use Rattle.mount_model.specs.declared.reply.Reply.{Reply}
use Rattle.mount_model.specs.Paths.{index_path, log_path}
use Rattle.mount_model.specs.declared.stuck.Stuck.{Stuck}
use Rattle.mount_model.specs.FlowReplies.{Tries, given, on_ok, bytes_in, names_in, trouble}
use Rattle.index_reader.specs.declared.entries.Tail.{Tail}
use Rattle.index_reader.specs.declared.listing.Dropping.{Dropping}
use Rattle.index_reader.specs.declared.listing.Listing.{Listing}
use Rattle.index_reader.specs.declared.scanning.Scan.{Scan}
use Rattle.index_reader.specs.declared.sharing.Share.{Share}
use Rattle.index_reader.specs.declared.sharing.Sofar.{Sofar}
use Rattle.index_reader.specs.Covered.{cover_of}
use Rattle.index_reader.specs.Opening.{no_flat, scan_program, scans}
use Rattle.index_reader.specs.Packs.{no_tail}
use Rattle.index_reader.specs.Replies.{log_length_in, number_in}
use Rattle.index_reader.specs.Scanning.{nothing_found}
use Rattle.index_reader.specs.Sharing.{added, gathers, nothing, share_program}
use Rattle.index_reader.specs.Tails.{if_logged, if_told, log_then, looked, reads, tail_program}
use Rattle.mount_model.specs.Entries.{next_read, reads_of}
use Rattle.index_reader.specs.Tops.{top_shows}
use Rattle.index_reader.specs.Truncs.{trunc_program}
use Rattle.index_reader.proofs.Facts.{if_checked_asks}
use Rattle.gather_flow.specs.declared.all_read.AllRead.{AllRead}
use Rattle.gather_flow.specs.Dealing.{dealt_to}
use Rattle.gather_flow.specs.Gathering.{if_truncs_listed, reads_truncs, shares_from}
use Rattle.refresh_index.specs.Hosts.{moved}
use Rattle.refresh_index.specs.Refreshing.{all_unpacked, behind, if_gathered, if_listed, reads_on, refresh_program, unless_moved}
use Rattle.refresh_laws.specs.Past.{BeginsPast}
use Rattle.refresh_laws.proofs.EndLemmas.{one_deal}

module _ (held : ReaderParts) where
  abbrev Past : {R : Type 0} → Program Call Reply R → Type 0
  Past p = AsksOnly (BeginsPast held) p

  then_past : {R S : Type 0} (p : Program Call Reply R) (next : R → Program Call Reply S) → ((r : R) → Past (next r)) → Past p → Past (followed_by p next)
  then_past (done r) next goes past = goes r
  then_past (ask q k) next goes past = (past.0, λ reply. then_past (k reply) next goes (past.1 reply))

  given_past : {A R : Type 0} (o : Option A) (why : Stuck) (next : A → Tries R) → ((a : A) → Past (next a)) → Past (given o why next)
  given_past None why next goes = tt
  given_past (Some a) why next goes = goes a

  on_ok_past : {A R : Type 0} (next : A → Tries R) → ((a : A) → Past (next a)) → (result : Result A Stuck) → Past (on_ok next result)
  on_ok_past next goes (Ok a) = goes a
  on_ok_past next goes (Err because) = tt

  if_past : {R : Type 0} (b : Bool) (p q : Tries R) → (b ≡ true → Past p) → (b ≡ false → Past q) → Past (if b then p else q)
  if_past true p q one other = one refl
  if_past false p q one other = other refl

  -- ---- a listing

  scans_past : (room : ℕ) (ks : List ℕ) (scan : Scan) → Past (scans room 0 no_flat ks scan)
  scans_past room [] scan = tt
  scans_past room (k ∷ ks) scan = (
    tt,
    λ reply. given_past (names_in reply) _ _
        (λ names. on_ok_past (λ more. scans room 0 no_flat ks more) (λ more. scans_past room ks more) _),
  )

  scan_past : (room : ℕ) → Past (scan_program room)
  scan_past room = (
    tt,
    λ reply. given_past (names_in reply) _ _
        (λ names. on_ok_past (λ ks. scans room 0 no_flat ks nothing_found) (λ ks. scans_past room ks nothing_found) (top_shows names)),
  )

  -- ---- a share

  reads_past : (n room : ℕ) (d : Dropping) (log whole left : ℕ) (ended : Bool) (tail : Tail)
      → (cover_of d.writer held.covers).count + left ≤ whole → Past (reads n room d log whole left ended tail)
  reads_past zero room d log whole left ended tail few = tt
  reads_past (suc n) room d log whole left ended tail few = (
    (d.host, d.writer, refl, omega (arith, few)),
    λ reply. given_past (bytes_in reply) (trouble (index_path d.host d.writer) reply) _
        (λ bytes. if_checked_asks (BeginsPast held) d (λ past longer. reads n room d log whole (left - next_read left) past longer) (nat_le (40 * next_read left) (length bytes)) (looked ended log (next_read left) bytes tail)
        (λ past longer. reads_past n room d log whole (left - next_read left) past longer (omega (arith, few)))),
  )

  log_past : (room : ℕ) (d : Dropping) (whole : ℕ) → (cover_of d.writer held.covers).count ≤ whole → Past (log_then room d (no_tail (cover_of d.writer held.covers)) whole)
  log_past room d whole few = (
    tt,
    λ reply. given_past (log_length_in reply) (trouble (log_path d.host d.writer) reply) (if_logged room d (no_tail (cover_of d.writer held.covers)) whole)
        (λ log. if_past (nat_lt log (cover_of d.writer held.covers).bytes) _ _ (λ t. tt)
        (λ t. reads_past (reads_of (whole - (cover_of d.writer held.covers).count)) room d log whole (whole - (cover_of d.writer held.covers).count) false (no_tail (cover_of d.writer held.covers)) (omega (arith, few)))),
  )

  no_fewer : (a b : ℕ) → nat_lt a b ≡ false → b ≤ a
  no_fewer a b t = grind (arith, nat_tests)

  tail_past : (room : ℕ) (d : Dropping) → Past (tail_program room d (no_tail (cover_of d.writer held.covers)))
  tail_past room d = (
    tt,
    λ reply. given_past (number_in reply) (trouble (index_path d.host d.writer) reply) (if_told room d (no_tail (cover_of d.writer held.covers)))
        (λ told. if_past (nat_lt (told / 40) (cover_of d.writer held.covers).count) _ _ (λ t. tt) (λ t. log_past room d (told / 40) (no_fewer (told / 40) (cover_of d.writer held.covers).count t))),
  )

  gathers_past : (room : ℕ) (ds : List Dropping) (sofar : Sofar) → Past (gathers room held.covers (all_unpacked ds) sofar)
  gathers_past room [] sofar = tt
  gathers_past room (d ∷ ds) sofar =
      then_past (tail_program room (record { host = d.host; writer = d.writer; packed = false }) (no_tail (cover_of d.writer held.covers))) (on_ok (λ tail. gathers room held.covers (all_unpacked ds) (added tail sofar)))
      (λ result. on_ok_past (λ tail. gathers room held.covers (all_unpacked ds) (added tail sofar)) (λ tail. gathers_past room ds (added tail sofar)) result)
      (tail_past room (record { host = d.host; writer = d.writer; packed = false }))

  share_past : (room : ℕ) (ds : List Dropping) → Past (share_program room (all_unpacked ds) held.covers)
  share_past room ds = gathers_past room ds nothing

  dealt_past : (room : ℕ) (ds : List Dropping) → Past (share_program room (dealt_to 1 0 0 (all_unpacked ds)) held.covers)
  dealt_past room ds = let P : List Dropping → Type 0 = λ es. Past (share_program room es held.covers) in subst P (sym (one_deal 0 (all_unpacked ds))) (share_past room ds)

  -- ---- truncates

  truncs_past : (listing : Listing) (share : Share) → Past (reads_truncs listing (share ∷ []))
  truncs_past listing share =
      then_past (trunc_program listing.room) (on_ok (if_truncs_listed listing (share ∷ [])))
      (λ result. on_ok_past (if_truncs_listed listing (share ∷ [])) (λ truncs. tt) result) (tt, λ reply. given_past (names_in reply) _ _ (λ names. tt))

  -- ---- all of it

  gathered_past : (result : Result AllRead Stuck) → Past (if_gathered held result)
  gathered_past (Ok all) = tt
  gathered_past (Err why) = tt

  on_past : (listing : Listing) → Past (reads_on held listing)
  on_past listing =
      then_past (shares_from 1 (behind held listing) 0 []) (if_gathered held) gathered_past
      (then_past (share_program held.room (dealt_to 1 0 0 (all_unpacked listing.droppings)) held.covers) (on_ok (λ share. reads_truncs (behind held listing) (share ∷ [])))
      (λ result. on_ok_past (λ share. reads_truncs (behind held listing) (share ∷ [])) (λ share. truncs_past (behind held listing) share) result) (dealt_past held.room listing.droppings))

  unless_past : (o : Option Dropping) (listing : Listing) → Past (unless_moved held o (reads_on held listing))
  unless_past None listing = on_past listing
  unless_past (Some d) listing = tt

  listed_past : (result : Result Listing Stuck) → Past (if_listed held result)
  listed_past (Ok listing) = unless_past (moved held.hosts listing.droppings) listing
  listed_past (Err why) = tt

  pub all_past : Past (refresh_program held)
  all_past = then_past (scan_program held.room) (if_listed held) listed_past (scan_past held.room)
