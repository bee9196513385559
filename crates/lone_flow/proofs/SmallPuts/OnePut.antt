-- What is known of one put by what it came to.
use Rattle.std.proofs.Common.{◌≡◌, ℕ, ◌+◌, ◌*◌, ◌<◌, ◌≤◌, Option, Some, None, Result, Ok, Err, refl, sym, ap, ◌∙◌}
use Rattle.mount_model.specs.declared.stuck.Stuck.{Stuck as Trouble}
use Rattle.mount_model.specs.declared.stuck.Stuck.TheVariants.{Fault}
use Rattle.mount_model.specs.State.{State}
use Rattle.lone_flow.specs.Driving.{Makes}
use Rattle.writer_flow.specs.declared.handle.WriterHandle.{WriterHandle}
use Rattle.writer_flow.specs.declared.handle.WriterOut.{WriterOut}
use Rattle.unit_format.specs.declared.units.TheConstants.{REGION_SIZE}
use Rattle.unit_format.specs.Units.{SmallFile, unit_size}
use Rattle.pack_files.specs.Putting.{put_program}
use Rattle.lone_flow.specs.declared.putting.Put.{Put}
use Rattle.lone_flow.specs.declared.putting.Put.TheVariants.{Made, Full, Stopped}
use Rattle.lone_flow.specs.Putting.{Puts, full, made, put_of}

-- what breaks the packing off behind a put or a sync: its trouble, or that it gave no writer back
abbrev pub stuck_of : Option WriterHandle → Result ℕ Trouble → Option Trouble
stuck_of handle (Err why) = Some why
stuck_of None (Ok n) = Some Fault
stuck_of (Some handle) (Ok n) = None

-- its machine ended so, and the file ends in the region
pub record WasPut (handle : WriterHandle) (region at : ℕ) (f : SmallFile) (start : State) (Ended : WriterOut → Type 0) (end : State) : Type 0 where
  pub out : WriterOut
  pub fits : at + unit_size f ≤ (region + 1) * REGION_SIZE
  pub makes : Makes (put_program handle at f) start out end
  pub ended : Ended out

-- the machine gave this writer back, and the next file goes behind this one
abbrev pub GaveBack : WriterHandle → ℕ → ℕ → WriterOut → Type 0
GaveBack writer next behind out = (stamp : ℕ) × (out.result ≡ Ok stamp) × (out.handle ≡ Some writer) × (next ≡ behind)

given_back : (writer : WriterHandle) (next behind : ℕ) (h : Option WriterHandle) (r : Result ℕ Trouble) → Made writer next ≡ put_of behind h r → (stamp : ℕ) × (r ≡ Ok stamp) × (h ≡ Some writer) × (next ≡ behind)
given_back writer next behind h (Err why) is = absurd (cc)
given_back writer next behind None (Ok stamp) is = absurd (cc)
given_back writer next behind (Some handle) (Ok stamp) is =
    let one : writer ≡ handle = cc in
    let other : next ≡ behind = cc in
    (stamp, refl, ap (λ x. Some x) (sym one), other)

made_not_full : (writer handle : WriterHandle) (next : ℕ) → Made writer next ≡ Full handle → ⊥
made_not_full writer handle next is = cc

pub put_made : (handle : WriterHandle) (region at : ℕ) (f : SmallFile) (start : State) (writer : WriterHandle) (next : ℕ) (end : State) → Puts handle region at f start (Made writer next) end → WasPut handle region at f start (GaveBack writer next (at + unit_size f)) end
put_made handle region at f start writer next end (made m) = record { out = m.out; fits = m.fits; makes = m.makes; ended = given_back writer next (at + unit_size f) m.out.handle m.out.result m.told_so }
put_made handle region at f start writer next end (full long) = absurd (made_not_full writer handle next long.told_so)

-- it ended in this trouble
put_stuck : (next : ℕ) (h : Option WriterHandle) (r : Result ℕ Trouble) (why : Trouble) → Stopped why ≡ put_of next h r → stuck_of h r ≡ Some why
put_stuck next h (Err w) why is = cc
put_stuck next None (Ok n) why is = cc
put_stuck next (Some handle) (Ok n) why is = cc

stopped_not_full : (why : Trouble) (handle : WriterHandle) → Stopped why ≡ Full handle → ⊥
stopped_not_full why handle is = cc

pub put_stopped : (handle : WriterHandle) (region at : ℕ) (f : SmallFile) (start : State) (why : Trouble) (end : State) → Puts handle region at f start (Stopped why) end → WasPut handle region at f start (λ out. stuck_of out.handle out.result ≡ Some why) end
put_stopped handle region at f start why end (made m) = record { out = m.out; fits = m.fits; makes = m.makes; ended = put_stuck (at + unit_size f) m.out.handle m.out.result why m.told_so }
put_stopped handle region at f start why end (full long) = absurd (stopped_not_full why handle long.told_so)

-- the file would pass the end of its region
never_full : (last : WriterHandle) (next : ℕ) (h : Option WriterHandle) (r : Result ℕ Trouble) → Full last ≡ put_of next h r → ⊥
never_full last next h (Err why) is = cc
never_full last next None (Ok stamp) is = cc
never_full last next (Some handle) (Ok stamp) is = cc

pub put_full : (handle : WriterHandle) (region at : ℕ) (f : SmallFile) (start : State) (last : WriterHandle) (end : State) → Puts handle region at f start (Full last) end → ((region + 1) * REGION_SIZE < at + unit_size f) × (last ≡ handle) × (end ≡ start)
put_full handle region at f start last end (made m) = absurd (never_full last (at + unit_size f) m.out.handle m.out.result m.told_so)
put_full handle region at f start last end (full long) = let same : last ≡ handle = (let is = long.told_so in cc) in (long.long, same, long.same)
