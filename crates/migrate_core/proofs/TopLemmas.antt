-- What the top shows, and what follows it.
use Rattle.std.proofs.Common.{◌≡◌, ℕ, List, [], ◌∷◌, ap, sym, subst}
use Rattle.std.specs.Prelude.{Option, Some, None, Result, Ok, Err}
use Rattle.mount_model.specs.Standing.{Awaits, ready, replied, rest_of}
use Rattle.mount_model.specs.declared.stuck.Stuck.{Stuck}
use Rattle.mount_model.specs.FlowReplies.{Tries, given, names_in, on_ok, trouble}
use Rattle.mount_model.specs.FlowListed.{file_in}
use Rattle.mount_model.specs.Program.{done, ask}
use Rattle.mount_model.specs.declared.reply.Reply.{Reply}
use Rattle.mount_model.specs.Paths.{Name}
use Rattle.index_reader.specs.declared.listing.Listing.{Listing}
use Rattle.index_reader.specs.declared.opening.AfterOpen.{AfterOpen}
use Rattle.index_reader.specs.declared.opening.AfterOpen.TheVariants.{GoesOn, Is}
use Rattle.index_reader.specs.Opening.{no_flat, scan_program, scans}
use Rattle.index_reader.specs.OpenStages.{after_open, open_rest, IsAfterOpen}
use Rattle.index_reader.specs.Scanning.{nothing_found}
use Rattle.index_reader.specs.Tops.{top_shows}
use Rattle.migrate_core.specs.declared.migrated.Migrated.{Migrated}
use Rattle.migrate_core.specs.Migrating.{lists_metadata, migrate_at_program, migrates_shown}
use Rattle.migrate_core.specs.Stages.{shown_program}

abbrev scanned : ℕ → List ℕ → Tries Listing
scanned room ks = scans room 0 no_flat ks nothing_found

-- what comes of the folders that the top shows
abbrev of_listing : ℕ → Result (List ℕ) Stuck → Tries Listing
of_listing room ks = on_ok (scanned room) ks

abbrev of_all : ℕ → Result (List ℕ) Stuck → Tries Migrated
of_all room ks = on_ok (migrates_shown room) ks

-- what a trouble ends with
same_trouble : {X : Type 0} (a b : Stuck) → ◌≡◌ {A = Tries X} (done (Err a)) (done (Err b)) → a ≡ b
same_trouble a b e = cc

-- folders that are shown lead on
no_trouble : (room : ℕ) (ks : List ℕ) (why : Stuck) → ◌≡◌ {A = Tries Listing} (scanned room ks) (done (Err why)) → ⊥
no_trouble room [] why e = cc
no_trouble room (k ∷ ks) why e = cc

err_so : (room : ℕ) (o : Option (List Name)) (t why : Stuck) → done (Err why) ≡ given o t (λ names. of_listing room (top_shows names)) → done (Err why) ≡ given o t (λ names. of_all room (top_shows names))
err_so room None t why e = ap (λ (w : Stuck). done (Err w)) (same_trouble why t e)
err_so room (Some names) t why e = of_shown (top_shows names) e
  where
    of_shown : (r : Result (List ℕ) Stuck) → done (Err why) ≡ of_listing room r → done (Err why) ≡ of_all room r
    of_shown (Err w) e = ap (λ (w : Stuck). done (Err w)) (same_trouble why w e)
    of_shown (Ok ks) e = absurd (no_trouble room ks why (sym e))

-- a listing that has not ended in a trouble
IsGood : Tries Listing → Type 0
IsGood (done (Ok listing)) = Unit {0}
IsGood (done (Err why)) = ⊥
IsGood (ask q k) = Unit {0}

good_so : (room : ℕ) (o : Option (List Name)) (t : Stuck) (p : Tries Listing) → IsGood p → p ≡ given o t (λ names. of_listing room (top_shows names)) → lists_metadata room p ≡ given o t (λ names. of_all room (top_shows names))
unfolding IsGood
good_so room None t p good e = absurd (subst IsGood e good)
good_so room (Some names) t p good e = of_shown (top_shows names) e
  where
    of_shown : (r : Result (List ℕ) Stuck) → p ≡ of_listing room r → lists_metadata room p ≡ of_all room r
    of_shown (Err w) e = absurd (subst IsGood e good)
    of_shown (Ok ks) e = ap (lists_metadata room) e

awaits_good : (p : Tries Listing) → Awaits (rest_of (ready p)) → IsGood p
unfolding IsGood
awaits_good (done x) a = absurd a
awaits_good (ask q k) a = tt

pub top_shown : (room : ℕ) (scan : AfterOpen) (reply : Reply) → IsAfterOpen scan → after_open scan ≡ replied (rest_of (ready (scan_program room))) reply → shown_program room scan ≡ replied (rest_of (ready (migrate_at_program room))) reply
unfolding IsGood
top_shown room (Is (Err why)) reply is e = err_so room (names_in reply) (trouble (file_in [] []) reply) why e
top_shown room (Is (Ok listing)) reply is e = good_so room (names_in reply) (trouble (file_in [] []) reply) (done (Ok listing)) tt e
top_shown room (GoesOn flow) reply is e = good_so room (names_in reply) (trouble (file_in [] []) reply) (open_rest flow) (awaits_good (open_rest flow) is) e
