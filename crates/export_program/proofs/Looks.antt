-- The programs that name all files, open a reader and read a piece change nothing, and such calls are free.
use Rattle.std.proofs.Common.{ℕ, ◌*◌, List, [], ◌∷◌, ◌++◌, length, replicate, take, Bool, true, false, Option, Some, None, Result, Ok, Err}
use Rattle.std.specs.Prelude.{if◌then◌else◌, nat_lt}
use Rattle.mount_model.specs.Program.{AsksOnly, Program, done, ask, followed_by}
use Rattle.mount_model.specs.declared.stuck.Stuck.{Stuck as Trouble}
use Rattle.mount_model.specs.FlowReplies.{Tries, bytes_in, given, on_ok}
use Rattle.mount_model.specs.declared.call.Call.{Call}
use Rattle.mount_model.specs.declared.call.Call.TheVariants.{Find, Greet, Look, Rooms}
use Rattle.mount_model.specs.declared.reply.Reply.{Reply}
use Rattle.mount_model.specs.Paths.{Name}
use Rattle.read_plan.specs.Plan.{plan_of}
use Rattle.read_plan.specs.declared.part.Part.{Part}
use Rattle.plain_file.specs.declared.parts.WriterHost.{WriterHost}
use Rattle.index_reader.specs.declared.listing.Listing.{Listing}
use Rattle.index_reader.specs.declared.opened.OpenReader.{OpenReader}
use Rattle.index_reader.specs.declared.placing.Placed.{Placed}
use Rattle.index_reader.specs.declared.placing.Placed.TheVariants.{Zeros, Logged}
use Rattle.index_reader.specs.declared.sharing.Share.{Share}
use Rattle.index_reader.specs.Opening.{open_read_program}
use Rattle.index_reader.specs.Reading.{placed_all, read_program, spells}
use Rattle.index_reader.specs.Sharing.{share_program}
use Rattle.index_reader.specs.Truncs.{trunc_program}
use Rattle.index_reader.proofs.Facts.{IsLook, OnlyLooks, listing_looks, share_looks, truncs_looks}
use Rattle.gather_flow.specs.Dealing.{dealt_to}
use Rattle.gather_flow.specs.Gathering.{if_truncs_listed, reads_truncs, shares_from}
use Rattle.opening_flow.specs.Opening.{opening_program, opens, reads_as}
use Rattle.actor_core.specs.Names.{names_program}
use Rattle.lone_flow.specs.Free.{IsFreeCall}
use Rattle.export_program.specs.Looking.{ChangesNothing}
use Rattle.export_program.specs.Pieces.{piece_length, piece_program}

abbrev OnlyThese : {R : Type 0} → Program Call Reply R → Type 0
OnlyThese program = AsksOnly ChangesNothing program

-- ---- one program after another

then_look : {R S : Type 0} (p : Program Call Reply R) (next : R → Program Call Reply S) → ((r : R) → OnlyThese (next r)) → OnlyThese p → OnlyThese (followed_by p next)
then_look (done r) next goes looks = goes r
then_look (ask q k) next goes looks = (looks.0, λ reply. then_look (k reply) next goes (looks.1 reply))

on_ok_looks : {A R : Type 0} (next : A → Tries R) → ((a : A) → OnlyThese (next a)) → (result : Result A Trouble) → OnlyThese (on_ok next result)
on_ok_looks next goes (Ok a) = goes a
on_ok_looks next goes (Err because) = tt

given_looks : {A R : Type 0} (found : Option A) (why : Trouble) (next : A → Tries R) → ((a : A) → OnlyThese (next a)) → OnlyThese (given found why next)
given_looks None why next goes = tt
given_looks (Some a) why next goes = goes a

either_looks : {R : Type 0} (b : Bool) (p q : Program Call Reply R) → OnlyThese p → OnlyThese q → OnlyThese (if b then p else q)
either_looks true p q one other = one
either_looks false p q one other = other

look_so : (call : Call) → IsLook call → ChangesNothing call
look_so (Find name) is = tt
look_so (Look room look) is = tt
look_so call is = absurd is

these_so : {R : Type 0} (program : Program Call Reply R) → OnlyLooks program → OnlyThese program
these_so (done result) looks = tt
these_so (ask call k) looks = (look_so call looks.0, λ reply. these_so (k reply) (looks.1 reply))

-- ---- a piece

spells_look : (room : ℕ) (parts : List Placed) (sofar : List ℕ) → OnlyThese (spells room parts sofar)
spells_look room [] sofar = tt
spells_look room (Zeros len ∷ parts) sofar = spells_look room parts (sofar ++ replicate len 0)
spells_look room (Logged p ∷ parts) sofar = (
  tt,
  λ reply. given_looks (bytes_in reply) _ _ (λ bytes. either_looks (nat_lt (length bytes) p.len) _ _ tt (spells_look room parts (sofar ++ take p.len bytes))),
)

read_looks : (room : ℕ) (hosts : List WriterHost) (parts : List Part) → AsksOnly ChangesNothing (read_program room hosts parts)
read_looks room hosts parts = spells_look room (placed_all hosts parts) []

pub piece_looks : (reader : OpenReader) (k : ℕ) → AsksOnly ChangesNothing (piece_program reader k)
piece_looks reader k = read_looks reader.room reader.hosts (plan_of reader.pieces reader.size (k * piece_length) piece_length)

-- ---- the names

pub names_look : AsksOnly ChangesNothing names_program
names_look = (tt, λ reply. tt)

-- ---- an opening

truncates_look : (listing : Listing) (share : Share) → OnlyThese (reads_truncs listing (share ∷ []))
truncates_look listing share =
    then_look (trunc_program listing.room) (on_ok (if_truncs_listed listing (share ∷ [])))
    (λ result. on_ok_looks (if_truncs_listed listing (share ∷ [])) (λ truncs. tt) result) (these_so (trunc_program listing.room) (truncs_looks listing.room))

opens_look : (listing : Listing) → OnlyThese (opens 1 listing)
opens_look listing =
    then_look (shares_from 1 listing 0 []) (on_ok reads_as) (λ result. on_ok_looks reads_as (λ all. tt) result)
    (then_look (share_program listing.room (dealt_to 1 0 0 listing.droppings) listing.flat.covers) (on_ok (λ share. reads_truncs listing (share ∷ [])))
    (λ result. on_ok_looks (λ share. reads_truncs listing (share ∷ [])) (λ share. truncates_look listing share) result)
    (these_so (share_program listing.room (dealt_to 1 0 0 listing.droppings) listing.flat.covers) (share_looks listing.room (dealt_to 1 0 0 listing.droppings) listing.flat.covers)))

pub opening_looks : (name : Name) → AsksOnly ChangesNothing (opening_program name 1)
opening_looks name = then_look (open_read_program name) (on_ok (opens 1)) (λ result. on_ok_looks (opens 1) opens_look result) (these_so (open_read_program name) (listing_looks name))

-- ---- such calls are free

free_so : (call : Call) → ChangesNothing call → IsFreeCall call
free_so Greet is = (tt, tt)
free_so Rooms is = (tt, tt)
free_so (Find name) is = (tt, tt)
free_so (Look room look) is = (tt, tt)
free_so call is = absurd is

all_free : {R : Type 0} (program : Program Call Reply R) → OnlyThese program → AsksOnly IsFreeCall program
all_free (done result) looks = tt
all_free (ask call k) looks = (free_so call looks.0, λ reply. all_free (k reply) (looks.1 reply))

pub read_free : (room : ℕ) (hosts : List WriterHost) (parts : List Part) → AsksOnly IsFreeCall (read_program room hosts parts)
read_free room hosts parts = all_free (read_program room hosts parts) (read_looks room hosts parts)

pub names_free : AsksOnly IsFreeCall names_program
names_free = all_free names_program names_look
