-- The machines only look, and looks are free.
use Rattle.std.proofs.Common.{ℕ, zero, suc, ◌+◌, ◌-◌, ◌*◌, Bool, true, false, List, [], ◌∷◌, ◌++◌, length, replicate, take, Option, Some, None, Result, Ok, Err}
use Rattle.std.specs.Prelude.{if◌then◌else◌, nat_lt}
use Rattle.std.specs.Int.{div_ceil}
use Rattle.mount_model.specs.Program.{AsksOnly, Program, done, ask, followed_by}
use Rattle.mount_model.specs.declared.stuck.Stuck.{Stuck as Trouble}
use Rattle.mount_model.specs.FlowReplies.{Tries, bytes_in, given, on_ok}
use Rattle.mount_model.specs.declared.call.Call.{Call}
use Rattle.mount_model.specs.declared.call.Call.TheVariants.{Find, Look}
use Rattle.mount_model.specs.declared.reply.Reply.{Reply}
use Rattle.mount_model.specs.Paths.{Name}
use Rattle.read_plan.specs.Plan.{plan_of}
use Rattle.index_reader.specs.declared.listing.Listing.{Listing}
use Rattle.index_reader.specs.declared.opened.OpenReader.{OpenReader}
use Rattle.index_reader.specs.declared.placing.Placed.{Placed}
use Rattle.index_reader.specs.declared.placing.Placed.TheVariants.{Zeros, Logged}
use Rattle.index_reader.specs.declared.sharing.Share.{Share}
use Rattle.index_reader.specs.Opening.{open_read_program}
use Rattle.index_reader.specs.Reading.{placed_all, read_program, spells}
use Rattle.index_reader.specs.Sharing.{share_program}
use Rattle.index_reader.specs.Truncs.{trunc_program}
use Rattle.index_reader.proofs.Facts.{IsLook, OnlyLooks, listing_looks, share_looks, truncs_looks}
use Rattle.gather_flow.specs.Dealing.{dealt_to}
use Rattle.gather_flow.specs.Gathering.{if_truncs_listed, reads_truncs, shares_from}
use Rattle.opening_flow.specs.Opening.{opening_program, opens, reads_as}
use Rattle.plain_file.specs.declared.parts.WriterHost.{WriterHost}
use Rattle.read_plan.specs.declared.part.Part.{Part}
use Rattle.unit_format.specs.declared.scanner.Scanner.{Scanner}
use Rattle.unit_format.specs.declared.units.TheConstants.{REGION_SIZE}
use Rattle.unit_format.specs.Scanning.{begins_at, eaten, is_settled}
use Rattle.pack_files.specs.Scanning.{after_read, chunk_size, further, region_end, scans, scan_program, told}
use Rattle.lone_flow.specs.Free.{IsFreeCall}

-- ---- looks are free

look_free : (call : Call) → IsLook call → IsFreeCall call
look_free (Find name) is = (tt, tt)
look_free (Look room look) is = (tt, tt)
look_free call is = absurd is

looks_free : {R : Type 0} (program : Program Call Reply R) → OnlyLooks program → AsksOnly IsFreeCall program
looks_free (done result) looks = tt
looks_free (ask call k) looks = (look_free call looks.0, λ reply. looks_free (k reply) (looks.1 reply))

-- ---- one program after another

then_looks : {R S : Type 0} (p : Program Call Reply R) (next : R → Program Call Reply S) → ((r : R) → OnlyLooks (next r)) → OnlyLooks p → OnlyLooks (followed_by p next)
then_looks (done r) next goes looks = goes r
then_looks (ask q k) next goes looks = (looks.0, λ reply. then_looks (k reply) next goes (looks.1 reply))

on_ok_looks : {A R : Type 0} (next : A → Tries R) → ((a : A) → OnlyLooks (next a)) → (result : Result A Trouble) → OnlyLooks (on_ok next result)
on_ok_looks next goes (Ok a) = goes a
on_ok_looks next goes (Err because) = tt

given_looks : {A R : Type 0} (found : Option A) (why : Trouble) (next : A → Tries R) → ((a : A) → OnlyLooks (next a)) → OnlyLooks (given found why next)
given_looks None why next goes = tt
given_looks (Some a) why next goes = goes a

either_looks : {R : Type 0} (b : Bool) (p q : Program Call Reply R) → OnlyLooks p → OnlyLooks q → OnlyLooks (if b then p else q)
either_looks true p q one other = one
either_looks false p q one other = other

-- ---- a read

spells_looks : (room : ℕ) (parts : List Placed) (sofar : List ℕ) → OnlyLooks (spells room parts sofar)
spells_looks room [] sofar = tt
spells_looks room (Zeros len ∷ parts) sofar = spells_looks room parts (sofar ++ replicate len 0)
spells_looks room (Logged p ∷ parts) sofar = (
  tt,
  λ reply. given_looks (bytes_in reply) _ _ (λ bytes. either_looks (nat_lt (length bytes) p.len) _ _ tt (spells_looks room parts (sofar ++ take p.len bytes))),
)

pub read_looks : (room : ℕ) (hosts : List WriterHost) (parts : List Part) → OnlyLooks (read_program room hosts parts)
read_looks room hosts parts = spells_looks room (placed_all hosts parts) []

pub read_free : (room : ℕ) (hosts : List WriterHost) (parts : List Part) → AsksOnly IsFreeCall (read_program room hosts parts)
read_free room hosts parts = looks_free (read_program room hosts parts) (read_looks room hosts parts)

-- ---- a scan

behind_looks : (r : OpenReader) (k next : ℕ) (s : Scanner) → ((t : Scanner) → OnlyLooks (scans r k next t)) → (read : Result (List ℕ) Trouble) → OnlyLooks (after_read r k next s read)
behind_looks r k next s looks (Ok bytes) = looks (eaten s bytes)
behind_looks r k next s looks (Err why) = tt

scans_looks : (r : OpenReader) (k here : ℕ) (s : Scanner) → OnlyLooks (scans r k here s)
scans_looks r zero here s = tt
scans_looks r (suc k) here s =
    either_looks (is_settled s.part) (done (told r.pieces s)) (followed_by (read_program r.room r.hosts (plan_of r.pieces r.size here chunk_size)) (after_read r k (further here) s))
    tt
    (then_looks (read_program r.room r.hosts (plan_of r.pieces r.size here chunk_size)) (after_read r k (further here) s)
    (behind_looks r k (further here) s (λ t. scans_looks r k (further here) t)) (read_looks r.room r.hosts (plan_of r.pieces r.size here chunk_size)))

pub scan_looks : (r : OpenReader) (region : ℕ) → OnlyLooks (scan_program r region)
scan_looks r region =
    let start : ℕ = region * REGION_SIZE in
    let stop : ℕ = region * REGION_SIZE + REGION_SIZE in
    let end : ℕ = region_end r.size start stop in
    scans_looks r (div_ceil (end - start) chunk_size) start (begins_at stop end start [])

pub scan_free : (r : OpenReader) (region : ℕ) → AsksOnly IsFreeCall (scan_program r region)
scan_free r region = looks_free (scan_program r region) (scan_looks r region)

-- ---- an opening

truncates_look : (listing : Listing) (share : Share) → OnlyLooks (reads_truncs listing (share ∷ []))
truncates_look listing share =
    then_looks (trunc_program listing.room) (on_ok (if_truncs_listed listing (share ∷ [])))
    (λ result. on_ok_looks (if_truncs_listed listing (share ∷ [])) (λ truncs. tt) result) (truncs_looks listing.room)

opens_looks : (listing : Listing) → OnlyLooks (opens 1 listing)
opens_looks listing =
    then_looks (shares_from 1 listing 0 []) (on_ok reads_as) (λ result. on_ok_looks reads_as (λ all. tt) result)
    (then_looks (share_program listing.room (dealt_to 1 0 0 listing.droppings) listing.flat.covers) (on_ok (λ share. reads_truncs listing (share ∷ [])))
    (λ result. on_ok_looks (λ share. reads_truncs listing (share ∷ [])) (λ share. truncates_look listing share) result)
    (share_looks listing.room (dealt_to 1 0 0 listing.droppings) listing.flat.covers))

pub opening_looks : (name : Name) → OnlyLooks (opening_program name 1)
opening_looks name = then_looks (open_read_program name) (on_ok (opens 1)) (λ result. on_ok_looks (opens 1) opens_looks result) (listing_looks name)

pub opening_free : (name : Name) → AsksOnly IsFreeCall (opening_program name 1)
opening_free name = looks_free (opening_program name 1) (opening_looks name)
