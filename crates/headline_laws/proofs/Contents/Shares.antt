-- What a line tells of a file as shares of bytes says how many writes of each writer it counts.
use Rattle.std.proofs.Common.{◌≡◌, ◌≤◌, ℕ, Bool, true, false, nat_eq, List, [], ◌∷◌, ◌++◌, length, length-append, map, take, Option, Some, refl, sym, ap, ◌∙◌, subst, arith, if◌then◌else◌}
use Rattle.std.proofs.lemmas.Bool.Decides.{nat_tests}
use Rattle.std.proofs.lemmas.List.{append-nil, map-append, take-append-le}
use Rattle.plfs_types.specs.declared.entries.Entry.{Entry}
use Rattle.plfs_types.specs.declared.entries.ShareBytes.{ShareBytes}
use Rattle.plfs_types.specs.declared.entries.WriterCount.{WriterCount}
use Rattle.plain_file.specs.File.{stored_bytes}
use Rattle.store_api.specs.Acts.{Stored}
use Rattle.mount_model.specs.History.{Event}
use Rattle.mount_model.specs.Mounting.{IsMounted}
use Rattle.mount_model.specs.State.{State}
use Rattle.mount_sound.specs.Entries.{logged}
use Rattle.mount_sound.specs.Ledger.{Written, entries_in}
use Rattle.mount_sound.specs.Sound.{IsSoundTree}
use Rattle.attr_flow.specs.Shares.{stored_in}
use Rattle.look_laws.specs.Shares.{shares_seen}
use Rattle.reader_laws.specs.Gathering.{Gathered, IsAdmissible}
use Rattle.reader_laws.specs.Moments.{IsSoundAt, Moment, issued_by, moment_after}
use Rattle.reader_laws.specs.View.{WritersRise, own_entries}
use Rattle.reader_laws.proofs.Gathered.Facts.{length-entries, sound_after}
use Rattle.script_lang.specs.Ranges.{FitsScript}
use Rattle.run_core.specs.Play.{IsRight}
use Rattle.headline_laws.specs.OneFile.{printed_cut}
use Rattle.headline.specs.Run.{Run}
use Rattle.headline.specs.Views.{Seen, shared, writes_of}
use Rattle.headline_laws.proofs.Contents.Amounts.{HaveSome, count_for, front_counted, have_some, some_logged, stored_both}
use Rattle.headline_laws.proofs.Contents.Counted.{Begin, InAll, sound_begin}
use Rattle.headline_laws.proofs.Trees.Reading.{grows_to, lawful_to}

-- the bytes of all shares are those of all writes
pub stored_same : (seen : List Seen) → stored_in (map shared seen) ≡ stored_bytes (writes_of seen)
stored_same [] = refl
stored_same (s ∷ seen) = let more = stored_same seen in let both = stored_both (take s.count s.writer.writes) (writes_of seen) in omega (arith, more, both)

module _ (run : Run) (times : Option (List ℕ)) (mount : Stored) (start end : State) (fits : FitsScript run.script) (mounted : IsMounted 0 times mount start) (tells : mount.tree ≡ Some run.before) (sound : IsSoundTree run.before)
    (right : IsRight run.script start run.lines end) (left : end.store.tree ≡ Some run.after) where
  abbrev First : Moment
  First = Begin run times mount start end fits mounted tells sound right left

  abbrev sound_first : IsSoundAt First
  sound_first = sound_begin run times mount start end fits mounted tells sound right left

  abbrev All : ℕ → ℕ → List Entry
  All room id = entries_in (InAll run times mount start end fits mounted tells sound right left room id)

  -- so many writes a share is, of the writers of this container
  abbrev pub share_count : ℕ → ShareBytes → WriterCount
  share_count room s = record { writer = s.writer; count = count_for (All room s.writer) s.bytes }

  module _ (room : ℕ) (moment : Moment) (es rest : List Event) (is : right.history ≡ es ++ rest) (moment_is : moment ≡ moment_after First es) where
    record Own (g : Gathered) : Type 0 where
      pub some : HaveSome (entries_in (issued_by moment g.dropping))
      pub few : g.count ≤ length (entries_in (issued_by moment g.dropping))
      pub count : count_for (All room g.dropping.writer) (logged (own_entries moment g)) ≡ g.count

    own : (g : Gathered) → g.dropping.room ≡ room → g.count ≤ length (issued_by moment g.dropping) → Own g
    own g here few =
        let id : ℕ = g.dropping.writer in
        let s : IsSoundAt moment = subst IsSoundAt (sym moment_is) (sound_after First es (lawful_to run First end fits sound_first right es rest is) sound_first) in
        let each : HaveSome (entries_in (issued_by moment g.dropping)) = have_some id 0 0 (entries_in (issued_by moment g.dropping)) (s.sound.writes g.dropping.room id).in_order in
        let grown = (grows_to run First end fits sound_first right es rest [] (is ∙ sym (append-nil (es ++ rest)))).issued g.dropping.room id in
        let then_is : (moment_after First es).issued g.dropping.room id ≡ issued_by moment g.dropping = ap (λ (x : Moment). issued_by x g.dropping) (sym moment_is) in
        let all : InAll run times mount start end fits mounted tells sound right left room id ≡ issued_by moment g.dropping ++ grown.0 =
        ap (λ k. InAll run times mount start end fits mounted tells sound right left k id) (sym here) ∙ ap (λ zs. (moment_after First zs).issued g.dropping.room id) is ∙ grown.1 ∙ ap (λ z. z ++ grown.0) then_is in
        let parts : All room id ≡ entries_in (issued_by moment g.dropping) ++ entries_in grown.0 = ap entries_in all ∙ map-append (λ (w : Written). w.entry) (issued_by moment g.dropping) grown.0 in
        let long = length-entries (issued_by moment g.dropping) in
        let small : g.count ≤ length (entries_in (issued_by moment g.dropping)) = omega (arith, few, long) in
        let total = ap length parts in
        let both = length-append (entries_in (issued_by moment g.dropping)) (entries_in grown.0) in
        let front : take g.count (All room id) ≡ own_entries moment g = ap (take g.count) parts ∙ take-append-le g.count (entries_in (issued_by moment g.dropping)) (entries_in grown.0) small in
        let last = sound_after First right.history right.leads.lawful sound_first in
        record {
          some = each;
          few = small;
          count = ap (λ x. count_for (All room id) (logged x)) (sym front) ∙ front_counted (All room id) g.count (have_some id 0 0 (All room id) (last.sound.writes room id).in_order) (omega (arith, small, total, both));
        }

    abbrev Printed : Gathered → List Gathered → Bool → List WriterCount
    Printed g cut b = if b then printed_cut cut else record { writer = g.dropping.writer; count = g.count } ∷ printed_cut cut

    abbrev SharesOf : Gathered → List Gathered → Bool → List ShareBytes
    SharesOf g cut b = if b then shares_seen moment cut else record { writer = g.dropping.writer; bytes = logged (own_entries moment g) } ∷ shares_seen moment cut

    -- the counts that are printed
    pub shares_count : (first : Moment) (cut : List Gathered) → WritersRise room cut → IsAdmissible first moment cut → printed_cut cut ≡ map (share_count room) (shares_seen moment cut)
    shares_count first [] rise all = refl
    shares_count first (g ∷ cut) rise all = by (nat_eq g.count 0) refl (shares_count first cut rise.2 all.1)
      where
        o : Own g
        o = own g rise.0 all.0.were_issued

        is_none : nat_eq g.count 0 ≡ true → nat_eq (logged (own_entries moment g)) 0 ≡ true
        is_none on = let zero_is : g.count ≡ 0 = grind (arith, nat_tests) in ap (λ k. nat_eq (logged (take k (entries_in (issued_by moment g.dropping)))) 0) zero_is

        is_some : nat_eq g.count 0 ≡ false → nat_eq (logged (own_entries moment g)) 0 ≡ false
        is_some off =
            let many : 1 ≤ g.count = grind (arith, nat_tests) in
            let some : 1 ≤ logged (own_entries moment g) = some_logged (entries_in (issued_by moment g.dropping)) g.count o.some many o.few in
            grind (arith, nat_tests)

        by : (b : Bool) → nat_eq g.count 0 ≡ b → printed_cut cut ≡ map (share_count room) (shares_seen moment cut) → printed_cut (g ∷ cut) ≡ map (share_count room) (shares_seen moment (g ∷ cut))
        by true on more = ap (Printed g cut) on ∙ more ∙ sym (ap (λ b. map (share_count room) (SharesOf g cut b)) (is_none on))
        by false off more =
            ap (Printed g cut) off ∙ ap (λ z. record { writer = g.dropping.writer; count = g.count } ∷ z) more
            ∙ ap (λ k. record { writer = g.dropping.writer; count = k } ∷ map (share_count room) (shares_seen moment cut)) (sym o.count)
            ∙ sym (ap (λ b. map (share_count room) (SharesOf g cut b)) (is_some off))
