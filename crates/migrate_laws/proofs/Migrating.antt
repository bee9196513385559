-- Each call of a migration may be made.
use Rattle.std.proofs.Common.{◌≡◌, ℕ, nat_le, Bool, true, false, ◌||◌, List, [], ◌∷◌, ◌++◌, Option, Some, None, Result, Ok, Err, refl, subst}
use Rattle.std.specs.Prelude.{not, ◌&&◌, if◌then◌else◌}
use Rattle.std.specs.List.{AllByRecursion}
use Rattle.container_layout.specs.declared.items.Item.TheVariants.{Meta}
use Rattle.container_layout.specs.Paths.{IsIn, hostdir_of}
use Rattle.store_api.specs.declared.step.Answer.TheVariants.{Names}
use Rattle.store_api.specs.Names.{same_name}
use Rattle.store_laws.specs.Differ.{is_listed}
use Rattle.store_laws.proofs.Facts.{name_refl}
use Rattle.mount_model.specs.declared.stuck.Stuck.{Stuck}
use Rattle.mount_model.specs.Running.{asking, unbroken}
use Rattle.mount_model.specs.Program.{Program, done, ask, followed_by}
use Rattle.mount_model.specs.Safe.{IsSafe}
use Rattle.mount_model.specs.declared.names.Metadata.{Metadata}
use Rattle.mount_model.specs.FlowListed.{file_in, or_trouble, told_by}
use Rattle.mount_model.specs.Names.{meta_in}
use Rattle.mount_model.specs.Order.{metadata_by_writer, put_by}
use Rattle.mount_model.specs.FlowReplies.{Tries, damage, failure, given, names_in, on_ok, room_in, trouble}
use Rattle.mount_model.proofs.Flows.Facts.{meta_in-found}
use Rattle.mount_model.specs.declared.call.Call.{Call}
use Rattle.mount_model.specs.declared.call.Call.TheVariants.{Find, Look}
use Rattle.mount_model.specs.declared.call.Look.TheVariants.{List as ListFolder, Top}
use Rattle.mount_model.specs.declared.reply.Reply.{Reply}
use Rattle.mount_model.specs.declared.reply.Reply.TheVariants.{Looked}
use Rattle.mount_model.specs.Paths.{Name, metadata}
use Rattle.mount_model.specs.State.{State}
use Rattle.mount_model.specs.Step.{IsStep}
use Rattle.mount_sound.specs.Owed.{Permits}
use Rattle.mount_sound.specs.Sound.{IsFine}
use Rattle.recovery_laws.proofs.Holds.Facts.{IsFree, fine_lasts, may_free, safe_ask, safe_free}
use Rattle.recovery_laws.proofs.Facts.{Cleanly, Stays, asks_safe, cleanly_so, cleanly_stays, cleanly_then, safe_given, safe_on_ok}
use Rattle.index_reader.specs.declared.listing.Dropping.{Dropping}
use Rattle.index_reader.specs.declared.listing.Listing.{Listing}
use Rattle.index_reader.specs.declared.scanning.Scan.{Scan}
use Rattle.index_reader.specs.Opening.{no_flat, scans}
use Rattle.index_reader.specs.Scanning as scanning
use Rattle.index_reader.specs.Tops.{top_shows}
use Rattle.index_reader.proofs.Facts.{IsLook, OnlyLooks}
use Rattle.migrate_core.specs.declared.migrated.Migrated.{Migrated}
use Rattle.migrate_core.specs.Chosen.{chosen, chosen_behind, is_again, is_open_to, metas_named}
use Rattle.migrate_core.specs.Counting.{nothing}
use Rattle.migrate_core.specs.Migrating.{lists_metadata, migrate_at_program, migrate_program, migrates, migrates_listed, migrates_shown, scans_then}
use Rattle.migrate_laws.proofs.Left.{AreLeft, IsLeft, all_left_stay}
use Rattle.migrate_laws.proofs.Looking.{left_at, of_names}
use Rattle.migrate_laws.proofs.Writers.{safe_writer}

-- ---- writer after writer

safe_migrates : (caller number : ℕ) (metas : List Metadata) (sofar : Migrated) (state : State) → Cleanly (AreLeft number metas) state → IsSafe IsStep Permits caller (asking (migrates number metas sofar)) state
safe_migrates caller number [] sofar state f = tt
safe_migrates caller number (m ∷ metas) sofar state f = safe_writer caller number m metas sofar (λ then_so after holds. safe_migrates caller number metas then_so after holds) state f

-- ---- those that were chosen

pub all_push : (P : Metadata → Type 0) (ms : List Metadata) (m : Metadata) → AllByRecursion P ms → P m → AllByRecursion P (ms ++ m ∷ [])
all_push P [] m a p = (p, tt)
all_push P (x ∷ ms) m a p = (a.0, all_push P ms m a.1 p)

pub all_put : (P : Metadata → Type 0) (m : Metadata) (ms : List Metadata) → P m → AllByRecursion P ms → AllByRecursion P (put_by (λ (x : Metadata). x.writer) m ms)
all_put P m [] p a = (p, tt)
all_put P m (x ∷ ms) p a = elim (nat_le m.writer x.writer) as (λ b. AllByRecursion P (if b then m ∷ x ∷ ms else x ∷ put_by (λ (y : Metadata). y.writer) m ms)) [
  | true ↦ (p, a)
  | false ↦ (a.0, all_put P m ms p a.1)
]

pub all_ordered : (P : Metadata → Type 0) (ms : List Metadata) → AllByRecursion P ms → AllByRecursion P (metadata_by_writer ms)
all_ordered P [] a = tt
all_ordered P (m ∷ ms) a = all_put P m (metadata_by_writer ms) a.0 (all_ordered P ms a.1)

all_behind : (P : Metadata → Type 0) (droppings : List Dropping) (last : Option ℕ) (ms sofar : List Metadata) → AllByRecursion P ms → AllByRecursion P sofar → AllByRecursion P (chosen_behind droppings last ms sofar)
all_behind P droppings last [] sofar a b = b
all_behind P droppings last (m ∷ ms) sofar a b =
    elim (not (is_again last m) && is_open_to droppings m) as (λ c. AllByRecursion P (if c then chosen_behind droppings (Some m.writer) ms (sofar ++ m ∷ []) else chosen_behind droppings (Some m.writer) ms sofar)) [
      | true ↦ all_behind P droppings (Some m.writer) ms (sofar ++ m ∷ []) a.1 (all_push P sofar m b a.0)
      | false ↦ all_behind P droppings (Some m.writer) ms sofar a.1 b
    ]

pub all_chosen : (P : Metadata → Type 0) (droppings : List Dropping) (ms : List Metadata) → AllByRecursion P ms → AllByRecursion P (chosen droppings ms)
all_chosen P droppings ms a = all_behind P droppings None (metadata_by_writer ms) [] (all_ordered P ms a) tt

-- ---- those that were listed

-- what went on went on with what was there
pub went_on : {A B : Type 0} (o : Option A) (why : Stuck) (next : A → Result B Stuck) (b : B) → or_trouble o why next ≡ Ok b → (a : A) × (o ≡ Some a) × (next a ≡ Ok b)
went_on {A} {B} None why next b h = let clash : ◌≡◌ {A = Result B Stuck} (Err why) (Ok b) = h in absurd (not_ok why b clash)
  where
    not_ok : (w : Stuck) (x : B) → ◌≡◌ {A = Result B Stuck} (Err w) (Ok x) → ⊥
    not_ok w x c = cc
went_on (Some a) why next b h = (a, refl, h)

-- what holds of each named one
pub named_all : (P : Metadata → Type 0) (names all : List Name) (sofar metas : List Metadata) → ((name : Name) → is_listed name names ≡ true → is_listed name all ≡ true) → ((name : Name) (m : Metadata) → is_listed name all ≡ true → IsIn metadata name (Meta m.last m.bytes m.stamp m.host m.writer) → P m)
    → metas_named names sofar ≡ Ok metas → AllByRecursion P sofar → AllByRecursion P metas
named_all P [] all sofar metas within each h a = subst (AllByRecursion P) (same_list sofar metas h) a
  where
    same_list : (x y : List Metadata) → ◌≡◌ {A = Result (List Metadata) Stuck} (Ok x) (Ok y) → x ≡ y
    same_list x y e = cc
named_all P (name ∷ names) all sofar metas within each h a =
    let w = went_on (meta_in name) (damage (file_in metadata name) 0) (λ (m : Metadata). metas_named names (sofar ++ m ∷ [])) metas h in
    named_all P names all (sofar ++ w.0 ∷ []) metas
    (λ other listed. within other (or_right (same_name name other) (is_listed other names) listed))
    each w.2
    (all_push P sofar w.0 a (each name w.0 (within name (or_left (same_name name name) (is_listed name names) (name_refl name))) (meta_in-found name w.0 w.1)))
  where
    or_left : (x y : Bool) → x ≡ true → (x || y) ≡ true
    or_left true y e = refl
    or_left false y e = absurd (let clash : false ≡ true = e in cc)

    or_right : (x y : Bool) → y ≡ true → (x || y) ≡ true
    or_right true y e = refl
    or_right false y e = e

-- ---- programs that only look

free_look : (q : Call) → IsLook q → IsFree q
free_look (Find name) look = (tt, tt)
free_look (Look room sight) look = (tt, tt)
free_look q look = absurd look

-- a program that only looks may be made, and then what follows may
looks_then : {R S : Type 0} (caller : ℕ) (fact : State → Type 0) → Stays fact → (p : Program Call Reply R) (next : R → Program Call Reply S) → OnlyLooks p
    → ((r : R) (state : State) → Cleanly fact state → IsSafe IsStep Permits caller (asking (next r)) state)
    → (state : State) → Cleanly fact state → IsSafe IsStep Permits caller (asking (followed_by p next)) state
looks_then caller fact stays (done r) next looks goes state f = goes r state f
looks_then caller fact stays (ask q k) next looks goes state f = asks_safe caller fact stays q (λ reply. followed_by (k reply) next)
    (λ state f. may_free state caller q (free_look q looks.0) f.0)
    (λ state reply after step may f. looks_then caller fact stays (k reply) next (looks.1 reply) goes after (cleanly_stays fact stays state after caller (unbroken q) reply may step f))
    state f

given_looks : {A R : Type 0} (o : Option A) (why : Stuck) (next : A → Tries R) → ((a : A) → OnlyLooks (next a)) → OnlyLooks (given o why next)
given_looks None why next goes = tt
given_looks (Some a) why next goes = goes a

on_ok_looks : {A R : Type 0} (next : A → Tries R) → ((a : A) → OnlyLooks (next a)) → (result : Result A Stuck) → OnlyLooks (on_ok next result)
on_ok_looks next goes (Ok a) = goes a
on_ok_looks next goes (Err because) = tt

pub scans_look : (room : ℕ) (ks : List ℕ) (scan : Scan) → OnlyLooks (scans room 0 no_flat ks scan)
scans_look room [] scan = tt
scans_look room (k ∷ ks) scan = (
  tt,
  λ reply. given_looks (names_in reply) (trouble (file_in (hostdir_of k) []) reply) (λ names. on_ok (λ more. scans room 0 no_flat ks more) (scanning.scanned (hostdir_of k) names scan))
      (λ names. on_ok_looks (λ more. scans room 0 no_flat ks more) (λ more. scans_look room ks more) (scanning.scanned (hostdir_of k) names scan)),
)

-- ---- all of its calls

module _ (caller number : ℕ) where
  safe_chosen : (metas : List Metadata) (listing : Listing) (state : State) → Cleanly (AreLeft number metas) state → IsSafe IsStep Permits caller (asking (migrates_listed number metas listing)) state
  safe_chosen metas listing state f =
      safe_migrates caller number (chosen listing.droppings metas) nothing state
      (cleanly_so (AreLeft number metas) (AreLeft number (chosen listing.droppings metas)) state (λ l s holds. all_chosen (λ (m : Metadata). IsLeft number m state) listing.droppings metas holds) f)

  module _ (scan : Tries Listing) (looks : OnlyLooks scan) where
    safe_scans : (metas : List Metadata) (state : State) → Cleanly (AreLeft number metas) state → IsSafe IsStep Permits caller (asking (followed_by scan (on_ok (migrates_listed number metas)))) state
    safe_scans metas = looks_then caller (AreLeft number metas) (all_left_stay number metas) scan (on_ok (migrates_listed number metas)) looks
        (λ r state f. safe_on_ok caller r (migrates_listed number metas) state (λ listing. safe_chosen metas listing state f))

    safe_listed : (state : State) (reply : Reply) (after : State) → IsStep state caller (unbroken (Look number (ListFolder metadata))) reply after → Permits state caller (unbroken (Look number (ListFolder metadata))) → IsFine state
        → (r : Result (List Metadata) Stuck) → told_by metadata (λ names. metas_named names []) reply ≡ r → IsSafe IsStep Permits caller (asking (scans_then number scan r)) after
    safe_listed state reply after step may fine (Err why) is = tt
    safe_listed state reply after step may fine (Ok metas) is =
        let w = went_on (names_in reply) (trouble (file_in metadata []) reply) (λ names. metas_named names []) metas is in
        let listed : IsStep state caller (unbroken (Look number (ListFolder metadata))) (Looked (Names w.0)) after = subst (λ r. IsStep state caller (unbroken (Look number (ListFolder metadata))) r after) (of_names reply w.0 w.1) step in
        safe_scans metas after
        (cleanly_then (λ x. Unit {0}) (AreLeft number metas) state after caller (unbroken (Look number (ListFolder metadata))) reply may step (fine, λ clean. tt)
        (λ l s holds.
        let now : AreLeft number metas state = named_all (λ (m : Metadata). IsLeft number m state) w.0 w.0 [] metas (λ name h. h) (λ name m h i. left_at l state s caller number w.0 after listed name m h i) w.2 tt in
        all_left_stay number metas l state after caller (unbroken (Look number (ListFolder metadata))) reply may.1 step s now))

    safe_metadata : (state : State) → IsFine state → IsSafe IsStep Permits caller (asking (lists_metadata number scan)) state
    safe_metadata = safe_ask caller IsFine (Look number (ListFolder metadata))
        (λ reply. scans_then number scan (told_by metadata (λ names. metas_named names []) reply))
        (fine_lasts caller) (λ state fine. may_free state caller (Look number (ListFolder metadata)) (tt, tt) fine)
        (λ state reply after fine may step. safe_listed state reply after step may fine (told_by metadata (λ names. metas_named names []) reply) refl)

  safe_shown : (r : Result (List ℕ) Stuck) (state : State) → IsFine state → IsSafe IsStep Permits caller (asking (on_ok (migrates_shown number) r)) state
  safe_shown (Ok ks) state fine = safe_metadata (scans number 0 no_flat ks scanning.nothing_found) (scans_look number ks scanning.nothing_found) state fine
  safe_shown (Err why) state fine = tt

  safe_top : (o : Option (List Name)) (why : Stuck) (state : State) → IsFine state → IsSafe IsStep Permits caller (asking (given o why (λ names. on_ok (migrates_shown number) (top_shows names)))) state
  safe_top None why state fine = tt
  safe_top (Some names) why state fine = safe_shown (top_shows names) state fine

  safe_at : (state : State) → IsFine state → IsSafe IsStep Permits caller (asking (migrate_at_program number)) state
  safe_at = safe_free caller (Look number Top) (λ reply. given (names_in reply) (trouble (file_in [] []) reply) (λ names. on_ok (migrates_shown number) (top_shows names))) (tt, tt)
      (λ reply after fine. safe_top (names_in reply) (trouble (file_in [] []) reply) after fine)

-- From a fine state a caller may make all calls of a migration, whatever others do between them.
pub safe_migration : (caller : ℕ) (name : List ℕ) (state : State) → IsFine state → IsSafe IsStep Permits caller (asking (migrate_program name)) state
safe_migration caller name =
    safe_free caller (Find name) (λ reply. given (room_in reply) (failure reply) migrate_at_program) (tt, tt)
    (λ reply after fine. safe_given caller (room_in reply) (failure reply) migrate_at_program after (λ room. safe_at caller room after fine))
