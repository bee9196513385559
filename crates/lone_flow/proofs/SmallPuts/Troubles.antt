-- What the trouble of a packing is, by how its machines end.
use Rattle.std.proofs.Common.{◌≡◌, ℕ, List, [], ◌∷◌, Option, Some, None, Result, Ok, Err, sym, ap, subst}
use Rattle.mount_model.specs.Program.{Program}
use Rattle.mount_model.specs.declared.stuck.Stuck.{Stuck as Trouble}
use Rattle.mount_model.specs.declared.stuck.Stuck.TheVariants.{Fault}
use Rattle.mount_model.specs.declared.call.Call.{Call}
use Rattle.mount_model.specs.declared.reply.Reply.{Reply}
use Rattle.mount_model.specs.Paths.{Name}
use Rattle.mount_model.specs.State.{State}
use Rattle.lone_flow.specs.Driving.{Makes}
use Rattle.writer_flow.specs.declared.handle.WriterHandle.{WriterHandle}
use Rattle.writer_flow.specs.declared.handle.WriterOut.{WriterOut}
use Rattle.writer_flow.specs.Closing.{close_program}
use Rattle.writer_flow.specs.Opening.{open_program}
use Rattle.writer_flow.specs.Syncing.{sync_program}
use Rattle.unit_format.specs.Units.{SmallFile}
use Rattle.pack_files.specs.Putting.{put_program}
use Rattle.pack_files.specs.declared.scan.ScanStuck.{ScanStuck}
use Rattle.pack_files.specs.declared.scan.ScanStuck.TheVariants.{Bad, Stuck}
use Rattle.pack_input.specs.declared.files.NamedFile.{NamedFile}
use Rattle.lone_flow.specs.declared.packing.Packed.{Packed}
use Rattle.lone_flow.specs.declared.packing.Packed.TheVariants as packed
use Rattle.lone_flow.specs.declared.putting.Put.{Put}
use Rattle.lone_flow.specs.declared.putting.Put.TheVariants.{Made, Full, Stopped}
use Rattle.lone_flow.specs.Packing.{EndsAfter, EndsPuts, PacksFrom, puts as put_so, writer_stuck}
use Rattle.lone_flow.specs.Putting.{Puts, PutsAll, PutsEach, PutsUpTo, full, made, small_file}
use Rattle.lone_flow.specs.Settling.{Closes, Settles, closed_as}
use Rattle.lone_flow.proofs.SmallPuts.OnePut.{WasPut, put_stopped, stuck_of}

-- ---- what is asked of the machines

-- it holds behind each machine that it held before
abbrev pub LastsBehind : (State → Type 0) → Type 1
LastsBehind Holds = (R : Type 0) (program : Program Call Reply R) (start : State) (result : R) (end : State) → Holds start → Makes program start result end → Holds end

-- where it holds, the writer's machines end in such troubles
pub record WritersEnd (Holds : State → Type 0) (Good : Trouble → State → Type 0) : Type 0 where
  pub opens : (name : Name) (start : State) (why : Trouble) (end : State) → Holds start → Makes (open_program name 0 64) start (Err why) end → Good why end
  pub puts : (handle : WriterHandle) (at : ℕ) (f : SmallFile) (start : State) (out : WriterOut) (end : State) → Holds start → Makes (put_program handle at f) start out end → (why : Trouble) → stuck_of out.handle out.result ≡ Some why → Good why end
  pub syncs : (handle : WriterHandle) (start : State) (out : WriterOut) (end : State) → Holds start → Makes (sync_program handle) start out end → (why : Trouble) → stuck_of out.handle out.result ≡ Some why → Good why end
  pub closes : (handle : WriterHandle) (start : State) (out : WriterOut) (end : State) → Holds start → Makes (close_program handle) start out end → (why : Trouble) → out.result ≡ Err why → Good why end

-- so it ended well, or in such a trouble: no place is bad
abbrev pub EndsSo : {R : Type 0} → (Trouble → State → Type 0) → Result R ScanStuck → State → Type 0
EndsSo Good (Ok told) end = Unit {0}
EndsSo Good (Err (Stuck why)) end = Good why end
EndsSo Good (Err (Bad place)) end = ⊥

-- ---- single ends

closed_err : (r : Result ℕ Trouble) (why : Trouble) → Err why ≡ closed_as r → r ≡ Err why
closed_err (Ok n) why is = cc
closed_err (Err w) why is = cc

same_err : (why w : Trouble) → ◌≡◌ {A = Result (Unit {0}) Trouble} (Err why) (Err w) → Some w ≡ Some why
same_err why w is = cc

-- ---- the writer's part

module _ (Holds : State → Type 0) (Good : Trouble → State → Type 0) (lasts : LastsBehind Holds) (e : WritersEnd Holds Good) where
  put_holds : (handle : WriterHandle) (region at : ℕ) (f : SmallFile) (start : State) (told : Put) (end : State) → Holds start → Puts handle region at f start told end → Holds end
  put_holds handle region at f start told end holds (made m) = lasts WriterOut (put_program handle at f) start m.out end holds m.makes
  put_holds handle region at f start told end holds (full long) = subst Holds (sym long.same) holds

  each_holds : (region : ℕ) (files : List NamedFile) (handle : WriterHandle) (at : ℕ) (start : State) (last : WriterHandle) (until : ℕ) (end : State) → Holds start → PutsEach region files handle at start last until end → Holds end
  each_holds region [] handle at start last until end holds (same_writer, same_place, same) = subst Holds (sym same) holds
  each_holds region (f ∷ files) handle at start last until end holds (writer, next, between, one, others) =
      each_holds region files writer next between last until end (put_holds handle region at (small_file f) start (Made writer next) between holds one) others

  up_to_holds : (region : ℕ) (files : List NamedFile) (handle : WriterHandle) (at : ℕ) (start : State) (told : Put) (end : State) → Holds start → (p : PutsUpTo region files handle at start told end) → Holds p.between
  up_to_holds region files handle at start told end holds p = each_holds region p.before handle at start p.writer p.place p.between holds p.puts

  last_stuck : (handle : WriterHandle) (region at : ℕ) (f : SmallFile) (start : State) (why : Trouble) (end : State) → Holds start → Puts handle region at f start (Stopped why) end → Good why end
  last_stuck handle region at f start why end holds one =
      let p : WasPut handle region at f start (λ out. stuck_of out.handle out.result ≡ Some why) end = put_stopped handle region at f start why end one in
      e.puts handle at f start p.out end holds p.makes why p.ended

  close_stuck : (h : Option WriterHandle) (r : Result ℕ Trouble) (start : State) (why : Trouble) (end : State) → Holds start → ((w : Trouble) → stuck_of h r ≡ Some w → Good w start) → Closes h r start (Err why) end → Good why end
  close_stuck h (Err w) start why end holds bad (is, same) = subst (λ (s : State). Good why s) (sym same) (bad why (same_err why w is))
  close_stuck None (Ok n) start why end holds bad (is, same) = subst (λ (s : State). Good why s) (sym same) (bad why (same_err why Fault is))
  close_stuck (Some handle) (Ok n) start why end holds bad (out, makes, is) = e.closes handle start out end holds makes why (closed_err out.result why is)

  settle_stuck : (handle : WriterHandle) (start : State) (why : Trouble) (end : State) → Holds start → Settles handle start (Err why) end → Good why end
  settle_stuck handle start why end holds s =
      close_stuck s.synced.handle s.synced.result s.between why end (lasts WriterOut (sync_program handle) start s.synced s.between holds s.syncs) (e.syncs handle start s.synced s.between holds s.syncs) s.closes

  after_so : (handle : WriterHandle) (out : Packed) (start : State) (told : Result Packed ScanStuck) (end : State) → Holds start → EndsAfter handle out start told end → EndsSo Good told end
  after_so handle out start (Ok told) end holds ends = tt
  after_so handle out start (Err why) end holds (trouble, same, settles) = subst (λ (w : ScanStuck). EndsSo {R = Packed} Good (Err w) end) (sym same) (settle_stuck handle start trouble end holds settles)

  puts_so : (region : ℕ) (files : List NamedFile) (handle : WriterHandle) (at : ℕ) (start : State) (put : Put) (after : State) (told : Result Packed ScanStuck) (end : State) → Holds start → PutsAll region files handle at start put after → EndsPuts put after told end → EndsSo Good told end
  puts_so region files handle at start (Made last next) after told end holds all ends = after_so last (packed.All next) after told end (each_holds region files handle at start last next after holds all) ends
  puts_so region files handle at start (Full last) after told end holds all ends =
      after_so last packed.Full after told end (put_holds all.writer region all.place (small_file all.f) all.between (Full last) after (up_to_holds region files handle at start (Full last) after holds all) all.last) ends
  puts_so region files handle at start (Stopped why) after told end holds all (is, same) =
      subst (λ (t : Result Packed ScanStuck). EndsSo Good t end) (sym is) (subst (λ (s : State). Good why s) (sym same)
      (last_stuck all.writer region all.place (small_file all.f) all.between why after (up_to_holds region files handle at start (Stopped why) after holds all) all.last))

  pub writer_so : (name : Name) (region : ℕ) (files : List NamedFile) (at : ℕ) (start : State) (told : Result Packed ScanStuck) (end : State) → Holds start → PacksFrom name region files at start told end → EndsSo Good told end
  writer_so name region files at start told end holds (put_so handle opened put after makes all ends) =
      puts_so region files handle at opened put after told end (lasts (Result WriterHandle Trouble) (open_program name 0 64) start (Ok handle) opened holds makes) all ends
  writer_so name region files at start told end holds (writer_stuck why makes is) = subst (λ (t : Result Packed ScanStuck). EndsSo Good t end) (sym is) (e.opens name start why end holds makes)
