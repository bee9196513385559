-- The shares and the truncates of a reader that its actor opens by itself end in a fault only where one was answered.
use Rattle.std.proofs.Common.{ℕ, ◌-◌, List, [], ◌∷◌, ◌++◌, map, Ok, refl}
use Rattle.std.specs.List.{range_with_len}
use Rattle.mount_model.specs.FlowReplies.{Tries}
use Rattle.mount_model.specs.Program.{done}
use Rattle.index_reader.specs.declared.listing.Listing.{Listing}
use Rattle.index_reader.specs.declared.sharing.Share.{Share}
use Rattle.index_reader.specs.Truncs.{trunc_program}
use Rattle.gather_flow.specs.Dealing.{dealt_to}
use Rattle.actor_core.specs.Opened.{opens, if_truncs}
use Rattle.gather_flow.specs.Shares.{programs_from, worker_program, by_itself}
use Rattle.gather_flow.specs.OneIndex.{attr_of}
use Rattle.actor_core.specs.Telling.{tells_by}
use Rattle.run_core.proofs.Faults.Looking.{Looks, then_looks}
use Rattle.run_core.proofs.Faults.ReaderLooks.{share_looks, truncs_look}

pub each_looks : {R : Type 0} (workers : ℕ) (listing : Listing) (numbers : List ℕ) (sofar : List Share) (next : List Share → Tries R) (well : Type 0) → ((more : Type 0) (shares : List Share) → Looks more (next shares)) → Looks well (by_itself (map (worker_program workers listing) numbers) sofar next)
each_looks workers listing [] sofar next well goes = goes well sofar
each_looks workers listing (worker ∷ numbers) sofar next well goes =
    then_looks well (worker_program workers listing worker) (λ share. by_itself (map (worker_program workers listing) numbers) (sofar ++ share ∷ []) next)
    (share_looks listing.room (dealt_to workers worker 0 listing.droppings) listing.flat.covers well) (λ more share. each_looks workers listing numbers (sofar ++ share ∷ []) next more goes)

-- the same of the truncates behind shares that were read
pub after_looks : (listing : Listing) (shares : List Share) (well : Type 0) → Looks well (opens listing shares)
after_looks listing shares well = then_looks well (trunc_program listing.room) (if_truncs listing shares) (truncs_look listing.room well) (λ more truncs w. refl)

pub opening_looks : (workers : ℕ) (listing : Listing) (well : Type 0) → Looks well (by_itself (programs_from workers listing 0) [] (opens listing))
opening_looks workers listing well = each_looks workers listing (range_with_len 0 (workers - 0)) [] (opens listing) well (λ more shares. after_looks listing shares more)

tells_looks : (listing : Listing) (shares : List Share) (well : Type 0) → Looks well (tells_by listing shares)
tells_looks listing shares well = then_looks well (trunc_program listing.room) (λ truncs. done (Ok (attr_of listing shares truncs))) (truncs_look listing.room well) (λ more truncs w. refl)

-- the same of the index that tells of a file
pub telling_looks : (listing : Listing) (well : Type 0) → Looks well (by_itself (programs_from 1 listing 0) [] (tells_by listing))
telling_looks listing well = each_looks 1 listing (range_with_len 0 (1 - 0)) [] (tells_by listing) well (λ more shares. tells_looks listing shares more)
