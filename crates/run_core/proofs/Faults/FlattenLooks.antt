-- The program that flattens a file ends in a fault only where one was answered.
use Rattle.std.proofs.Common.{◌≡◌, inl, inr, ℕ, ◌-◌, List, [], ◌∷◌, Result, Ok, Err, refl, sym, subst}
use Rattle.std.specs.List.{range_with_len}
use Rattle.plfs_types.specs.declared.entries.Cover.{Cover}
use Rattle.flat_format.specs.declared.flat.Flat.{Flat}
use Rattle.flat_format.specs.declared.flat.TheConstants.{HEAD_SIZE}
use Rattle.flat_format.specs.Spelling.{flat_spelling}
use Rattle.mount_model.specs.Program.{done, ask, followed_by}
use Rattle.mount_model.specs.declared.reply.Reply.TheVariants.{Done, Started as BegunAs}
use Rattle.mount_model.specs.Paths.{Name}
use Rattle.mount_model.specs.FlowReplies.{Tries, on_ok}
use Rattle.index_reader.specs.declared.listing.Dropping.{Dropping}
use Rattle.index_reader.specs.declared.listing.Listing.{Listing}
use Rattle.index_reader.specs.declared.sharing.Share.{Share}
use Rattle.index_reader.specs.Opening.{no_flat, open_at_program, scan_program}
use Rattle.index_reader.specs.Truncs.{trunc_program}
use Rattle.gather_flow.specs.Gathering.{if_truncs_listed, reads_truncs, shares_from}
use Rattle.gather_flow.specs.OneIndex.{flat_of}
use Rattle.flatten_core.specs.declared.starting.Started.{Started}
use Rattle.flatten_core.specs.Covered.{covered}
use Rattle.flatten_core.specs.Flattening.{flatten_program, flattened, gathers, installs_gathered, installs_index, lists}
use Rattle.flatten_core.specs.Installing.{done_or, if_done, install_program, installs, puts, syncs, syncs_both, syncs_covered, syncs_flat, syncs_index, syncs_listed}
use Rattle.flatten_core.specs.Starting.{begins, begun, start_program}
use Rattle.run_core.proofs.Faults.EndsWell.{EndsIn, by_reply, is_no_fault}
use Rattle.run_core.proofs.Faults.FilesWell.{find_well}
use Rattle.run_core.proofs.Faults.Looking.{IsAnswered, Looks, same_fine, then_looks}
use Rattle.run_core.proofs.Faults.OpeningLooks.{each_looks}
use Rattle.run_core.proofs.Faults.ReaderLooks.{open_at_looks, top_looks, truncs_look}

abbrev Well : {R : Type 0} → Tries R → Type 0
Well program = EndsIn is_no_fault program

-- what ends well where this holds looks so
ends_look : {R : Type 0} (well : Type 0) (program : Tries R) → (well → Well program) → Looks well program
ends_look well (done result) ends_so = ends_so
ends_look {R} well (ask call k) ends_so = λ reply. ends_look (well × IsAnswered call reply) (k reply) (λ w.
    elim (ends_so w.0 reply w.1.fits) as (λ _. Well (k reply)) [
      | inl none ↦ absurd (w.1.has_memory none)
      | inr rest ↦ elim rest as (λ _. Well (k reply)) [
        | inl bad ↦ absurd (w.1.is_good bad)
        | inr more ↦ more
      ]
    ])

-- one program after another
on_look : {A R : Type 0} (well : Type 0) (program : Tries A) (next : A → Tries R) → Looks well program → ((more : Type 0) (a : A) → Looks more (next a)) → Looks well (followed_by program (on_ok next))
on_look well (done (Ok a)) next looks goes = goes well a
on_look {A} {R} well (done (Err why)) next looks goes = λ w. same_fine A R why (looks w)
on_look well (ask call k) next looks goes = λ reply. on_look (well × IsAnswered call reply) (k reply) next (looks reply) goes

-- ---- it begins

begins_well : (room : ℕ) → Well (begins room)
begins_well room = λ reply fits.
    by_reply is_no_fault (λ r. done (begun room r)) ((flat : ℕ) × (reply ≡ BegunAs flat)) reply fits (λ p. subst (λ r. Well (done (begun room r))) (sym p.1) refl) (λ why. refl) (λ folder file. refl)

start_well : (name : Name) → Well (start_program name)
start_well name = find_well name begins begins_well

-- ---- it installs

installs_well : (flat : ℕ) → Well (installs flat)
installs_well flat = λ reply fits.
    by_reply is_no_fault (λ r. done (done_or r)) (reply ≡ Done) reply fits (λ e. subst (λ r. Well (done (done_or r))) (sym e) refl) (λ why. refl) (λ folder file. refl)

syncs_flat_well : (flat : ℕ) → Well (syncs_flat flat)
syncs_flat_well flat = λ reply fits.
    by_reply is_no_fault (if_done (installs flat)) (reply ≡ Done) reply fits (λ e. subst (λ r. Well (if_done (installs flat) r)) (sym e) (installs_well flat)) (λ why. refl) (λ folder file. refl)

puts_well : (flat : ℕ) (bytes : List ℕ) → Well (puts flat bytes)
puts_well flat bytes = λ reply fits.
    by_reply is_no_fault (if_done (syncs_flat flat)) (reply ≡ Done) reply fits (λ e. subst (λ r. Well (if_done (syncs_flat flat) r)) (sym e) (syncs_flat_well flat)) (λ why. refl) (λ folder file. refl)

index_well : (room : ℕ) (d : Dropping) (next : Tries (Unit {0})) → Well next → Well (syncs_index room d next)
index_well room d next well = λ reply fits.
    by_reply is_no_fault (if_done next) (reply ≡ Done) reply fits (λ e. subst (λ r. Well (if_done next r)) (sym e) well) (λ why. refl) (λ folder file. refl)

both_well : (room : ℕ) (d : Dropping) (next : Tries (Unit {0})) → Well next → Well (syncs_both room d next)
both_well room d next well = λ reply fits.
    by_reply is_no_fault (if_done (syncs_index room d next)) (reply ≡ Done) reply fits (λ e. subst (λ r. Well (if_done (syncs_index room d next) r)) (sym e) (index_well room d next well)) (λ why. refl) (λ folder file. refl)

syncs_well : (room flat : ℕ) (bytes : List ℕ) (droppings : List Dropping) → Well (syncs room flat bytes droppings)
syncs_well room flat bytes [] = puts_well flat bytes
syncs_well room flat bytes (d ∷ ds) = both_well room d (syncs room flat bytes ds) (syncs_well room flat bytes ds)

covered_well : (room flat : ℕ) (bytes : List ℕ) (found : Result (List Dropping) ℕ) → Well (syncs_covered room flat bytes found)
covered_well room flat bytes (Err place) = refl
covered_well room flat bytes (Ok droppings) = syncs_well room flat bytes droppings

install_looks : (room flat : ℕ) (covers : List Cover) (bytes : List ℕ) (well : Type 0) → Looks well (install_program room flat covers bytes)
install_looks room flat covers bytes well =
    on_look well (scan_program room) (syncs_listed room flat covers bytes) (top_looks room 0 no_flat well)
    (λ more listing. ends_look more (syncs_listed room flat covers bytes listing) (λ w. covered_well room flat bytes (covered listing.droppings HEAD_SIZE covers [])))

-- ---- all of it

index_looks : (started : Started) (index : Flat) (well : Type 0) → Looks well (installs_index started index)
index_looks started index well =
    on_look well (install_program started.room started.flat index.covers (flat_spelling index)) (λ installed. done (Ok (flattened started index)))
    (install_looks started.room started.flat index.covers (flat_spelling index) well) (λ more installed w. refl)

listed_looks : (listing : Listing) (shares : List Share) (well : Type 0) → Looks well (reads_truncs listing shares)
listed_looks listing shares well = then_looks well (trunc_program listing.room) (if_truncs_listed listing shares) (truncs_look listing.room well) (λ more truncs w. refl)

gathers_look : (started : Started) (listing : Listing) (well : Type 0) → Looks well (gathers started listing)
gathers_look started listing well =
    on_look well (shares_from 1 listing 0 []) (installs_gathered started)
    (each_looks 1 listing (range_with_len 0 (1 - 0)) [] (reads_truncs listing) well (λ more shares. listed_looks listing shares more))
    (λ more all. index_looks started (flat_of all.listed all.shares) more)

lists_looks : (started : Started) (well : Type 0) → Looks well (lists started)
lists_looks started well = on_look well (open_at_program started.room) (gathers started) (open_at_looks started.room well) (λ more listing. gathers_look started listing more)

pub flatten_looks : (name : Name) (well : Type 0) → Looks well (flatten_program name)
flatten_looks name well = on_look well (start_program name) lists (ends_look well (start_program name) (λ w. start_well name)) (λ more started. lists_looks started more)
