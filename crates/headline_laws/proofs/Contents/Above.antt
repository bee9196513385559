-- A truncate that stands in the end is one that a reader's line has, or it is above all that the line shows.
use Rattle.std.proofs.Common.{◌≡◌, ◌⊎◌, ◌<◌, inl, inr, ℕ, List, [], ◌∷◌, map, take, Option, Some, None, sym, ap, ◌∙◌, subst}
use Rattle.std.specs.List.{All, AllByRecursion}
use Rattle.std.proofs.lemmas.List.Elements.{All-from_recursion, recursion_from_All}
use Rattle.plfs_types.specs.declared.entries.Entry.{Entry}
use Rattle.plfs_types.specs.declared.entries.Trunc.{Trunc}
use Rattle.plain_file.specs.declared.changes.Change.{Change}
use Rattle.plain_file.proofs.Facts.{cases_Option}
use Rattle.mount_model.specs.Paths.{trunc_path}
use Rattle.mount_model.specs.History.{Event}
use Rattle.mount_sound.specs.Ledger.{Written, entries_in}
use Rattle.mount_sound.specs.Owed.{IsLawful}
use Rattle.mount_sound.proofs.Facts.{take_less}
use Rattle.reader_laws.specs.Gathering.{Gathered, IsAdmissible}
use Rattle.reader_laws.specs.Moments.{Dropping, HadTrunc, IsSoundAt, Moment, file_then, issued_by, landed, landed_by, moment_after}
use Rattle.reader_laws.specs.GatheringOpening.{HasView}
use Rattle.reader_laws.specs.View.{WritersRise, own_entries, writes_in}
use Rattle.mount_sound.specs.Ledger.{change_of}
use Rattle.reader_laws.proofs.Gathered.Facts.{All-append, All-weaker, landed_is_first}
use Rattle.reader_laws.proofs.Gathered.Moments.Bounds.{truncs_above}
use Rattle.reader_laws.proofs.Gathered.Moments.Stepping.{IsAboveThen}
use Rattle.reader_laws.proofs.Gathered.OpenReaders.Viewing.{All-take, entries_split}
use Rattle.plfs_types.specs.Places.{IsAmong}
use Rattle.headline.specs.Views.{stamp_of}

abbrev pub IsBelow : ℕ → Change → Type 0
IsBelow stamp c = stamp_of c < stamp

-- the entries of a cut that had landed when the truncate came are below it
above_cut : (start end : Moment) (room stamp : ℕ) (cut : List Gathered) → IsSoundAt end → WritersRise room cut → IsAdmissible start end cut → IsAboveThen end room stamp → AllByRecursion (λ (e : Entry). e.stamp < stamp) (entries_in (writes_in end cut))
above_cut start end room stamp [] s rise a above = tt
above_cut start end room stamp (g ∷ cut) s rise a above =
    let P : Entry → Type 0 = λ (e : Entry). e.stamp < stamp in
    let d : Dropping = g.dropping in
    let own : own_entries end g ≡ take g.count (landed_by end d) =
    sym (take_less g.count (landed end d) (entries_in (issued_by end d)) a.0.most) ∙ ap (take g.count) (sym (landed_is_first end s d a.0.stands.is_item)) in
    subst (AllByRecursion P) (sym (entries_split end g cut))
    (All-append P (own_entries end g) (entries_in (writes_in end cut))
    (subst (AllByRecursion P) (sym own) (All-take P g.count (landed_by end d) (above.entries d a.0.stands.is_item rise.0)))
    (above_cut start end room stamp cut s rise.2 a.1 above))

changes_below : (stamp : ℕ) (ws : List Written) → AllByRecursion (λ (e : Entry). e.stamp < stamp) (entries_in ws) → AllByRecursion (IsBelow stamp) (map change_of ws)
changes_below stamp [] all = tt
changes_below stamp (w ∷ ws) all = (all.0, changes_below stamp ws all.1)

no_file : (o : Option (List ℕ)) (bytes : List ℕ) → o ≡ None → o ≡ Some bytes → ⊥
no_file o bytes none some = cc

-- the law of this file
pub later_above : (start end : Moment) (events : List Event) (room : ℕ) (cut : List Gathered) (truncs : List Trunc) (u : Trunc) → IsLawful end.state events → IsSoundAt end → HasView start end room cut truncs → HadTrunc (moment_after end events) room u.stamp u.size
    → IsAmong u truncs ⊎ (All (IsBelow u.stamp) (map change_of (writes_in end cut)) × All (λ (v : Trunc). v.stamp < u.stamp) truncs)
later_above start end events room cut truncs u lawful s view had =
    elim (cases_Option (file_then end room (trunc_path u.stamp u.size))) as (λ _. IsAmong u truncs ⊎ (All (IsBelow u.stamp) (map change_of (writes_in end cut)) × All (λ (v : Trunc). v.stamp < u.stamp) truncs)) [
      | inr (bytes, there) ↦ inl (view.all_truncs.all u (record { is_item = had.is_item; bytes = bytes; there = there }))
      | inl absent ↦
          let above : IsAboveThen end room u.stamp = truncs_above end events room u.stamp u.size lawful s (λ h. no_file (file_then end room (trunc_path u.stamp u.size)) h.bytes absent h.there) had in
          inr (
            All-from_recursion (IsBelow u.stamp) (map change_of (writes_in end cut)) (changes_below u.stamp (writes_in end cut) (above_cut start end room u.stamp cut s view.rise view.admissible above)),
            All-from_recursion (λ (v : Trunc). v.stamp < u.stamp) truncs
                (All-weaker (λ (v : Trunc). HadTrunc end room v.stamp v.size) (λ (v : Trunc). v.stamp < u.stamp) truncs (λ v there. above.truncates v.stamp v.size there) (recursion_from_All (λ (v : Trunc). HadTrunc end room v.stamp v.size) truncs view.all_truncs.there)),
          )
    ]
