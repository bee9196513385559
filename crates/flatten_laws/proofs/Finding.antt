-- Where a caller that gathered a container scans it again, each writer that it covers has its dropping there.
use Rattle.std.proofs.Common.{◌≡◌, ℕ, ◌+◌, nat_eq, Bool, true, false, List, [], ◌∷◌, ◌++◌, map, Some, refl, ap, sym, ◌∙◌, inl, inr, subst, arith}
use Rattle.std.specs.Prelude.{Ok, if◌then◌else◌}
use Rattle.std.proofs.lemmas.Bool.{cond-true}
use Rattle.std.proofs.lemmas.Bool.Decides.{nat_tests}
use Rattle.plfs_types.specs.declared.entries.Cover.{Cover}
use Rattle.plain_file.proofs.Facts.{Among}
use Rattle.container_layout.specs.declared.items.Item.TheVariants.{Index}
use Rattle.container_layout.specs.Paths.{path_of}
use Rattle.flat_format.specs.declared.flat.Flat.{Flat}
use Rattle.flat_format.specs.declared.flat.TheConstants.{COVER_SIZE, HEAD_SIZE}
use Rattle.mount_model.specs.History.{Event}
use Rattle.mount_model.specs.State.{State}
use Rattle.mount_sound.specs.Owed.{IsLawful, StandsInRoom}
use Rattle.mount_model.specs.Running.{Runs}
use Rattle.index_reader.specs.declared.listing.Dropping.{Dropping}
use Rattle.index_reader.specs.declared.listing.Listing.{Listing}
use Rattle.index_reader.specs.Found.{item_of}
use Rattle.index_reader.specs.Opening.{scan_program}
use Rattle.flatten_core.specs.Covered.{covered, or_place}
use Rattle.reader_laws.specs.Moments.{Moment, IsSoundAt, Stood, file_in_room, file_told}
use Rattle.recovery_laws.proofs.Facts.{HasFirst}
use Rattle.flatten_laws.proofs.Owns.{Own, own_cover}
use Rattle.flatten_laws.proofs.Scanned.{scanned_finds}
use Rattle.flatten_laws.proofs.Taken.{EachFirst, IsTaken}

-- ---- one that was listed is found

same_number : (a b : ℕ) → a ≡ b → nat_eq a b ≡ true
same_number a b e = grind (arith, nat_tests)

one_found : (w : ℕ) (ds : List Dropping) (d : Dropping) → Among d ds → d.writer ≡ w → (x : Dropping) × (item_of (λ (y : Dropping). y.writer) w ds ≡ Some x)
one_found w [] d a is = absurd a
one_found w (x ∷ ds) d (inl same) is =
    let its : x.writer ≡ w = sym (ap (λ (y : Dropping). y.writer) same) ∙ is in
    (x, cond-true (nat_eq x.writer w) (Some x) (item_of (λ (y : Dropping). y.writer) w ds) (same_number x.writer w its))
one_found w (x ∷ ds) d (inr a) is = elim (nat_eq x.writer w) as (λ b. (y : Dropping) × ((if b then Some x else item_of (λ (z : Dropping). z.writer) w ds) ≡ Some y)) [
  | true ↦ (x, refl)
  | false ↦ one_found w ds d a is
]

all_found : (ds : List Dropping) (place : ℕ) (owns : List Own) (sofar : List Dropping) → ((o : Own) → Among o owns → (d : Dropping) × Among d ds × (d.writer ≡ o.writer)) → (found : List Dropping) × (covered ds place (map own_cover owns) sofar ≡ Ok found)
all_found ds place [] sofar each = (sofar, refl)
all_found ds place (o ∷ owns) sofar each =
    let its = each o (inl refl) in
    let x = one_found o.writer ds its.0 its.1 its.2 in
    let more = all_found ds (place + COVER_SIZE) owns (sofar ++ x.0 ∷ []) (λ p a. each p (inr a)) in
    (more.0, ap (λ q. or_place q place (λ d. covered ds (place + COVER_SIZE) (map own_cover owns) (sofar ++ d ∷ []))) x.1 ∙ more.1)

-- ---- what was gathered stands

first_at : (number : ℕ) (owns : List Own) (state : State) (o : Own) → Among o owns → EachFirst number owns state → StandsInRoom state number (HasFirst o.host o.writer o.entries)
first_at number [] state o a f = absurd a
first_at number (x ∷ owns) state o (inl same) f = subst (λ (y : Own). StandsInRoom state number (HasFirst y.host y.writer y.entries)) (sym same) f.0
first_at number (x ∷ owns) state o (inr a) f = first_at number owns state o a f.1

own_stood : (m : Moment) (s : IsSoundAt m) (number : ℕ) (o : Own) → StandsInRoom m.state number (HasFirst o.host o.writer o.entries) → Stood m (record { room = number; host = o.host; writer = o.writer })
own_stood m s number o first =
    let x = first s.shape.tree s.shape.told in
    record {
      is_item = x.2.stands.is_item;
      bytes = x.2.content;
      there = ap (λ q. file_told q number (path_of (Index o.host o.writer))) s.shape.told ∙ ap (λ q. file_in_room q (path_of (Index o.host o.writer))) x.1 ∙ x.2.stands.there;
    }

-- So none of its covers lacks a dropping.
pub taken_finds : (caller room : ℕ) (index : Flat) (m : Moment) (events : List Event) (listing : Listing) → IsLawful m.state events → IsSoundAt m → Runs caller (scan_program room) events (Ok listing) → IsTaken room index m.state
    → (found : List Dropping) × (covered listing.droppings HEAD_SIZE index.covers [] ≡ Ok found)
taken_finds caller room index m events listing lawful sound runs taken =
    subst (λ (covers : List Cover). (found : List Dropping) × (covered listing.droppings HEAD_SIZE covers [] ≡ Ok found)) taken.covers
    (all_found listing.droppings HEAD_SIZE taken.owns []
    (λ o a. scanned_finds caller room m events listing lawful sound runs o.host o.writer (own_stood m sound room o (first_at room taken.owns m.state o a taken.firsts))))
