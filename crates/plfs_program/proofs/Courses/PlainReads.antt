-- Who reads small files by itself is told of the plain machine's file.
use Rattle.std.proofs.Common.{◌≡◌, ℕ, true, List, Option, Some, None, Result, Ok, Err, refl, sym, ap, ◌∙◌, subst, arith}
use Rattle.index_entry.specs.Records.{IsBytes}
use Rattle.plain_file.specs.Runs.{ArePieces}
use Rattle.mount_model.specs.declared.reply.Refusal.TheVariants.{NoRoom}
use Rattle.mount_model.specs.declared.stuck.Stuck.{Stuck as Trouble}
use Rattle.mount_model.specs.declared.stuck.Stuck.TheVariants as stuck
use Rattle.mount_model.specs.Paths.{Name}
use Rattle.mount_model.specs.State.{State}
use Rattle.mount_sound.specs.Ledger.{entries_in}
use Rattle.reader_laws.specs.Moments.{Moment, moment_after, next_moment}
use Rattle.reader_laws.specs.View.{view}
use Rattle.index_reader.specs.declared.opened.OpenReader.{OpenReader}
use Rattle.opening_flow.specs.Opening.{opening_program}
use Rattle.pack_files.specs.declared.scan.ScanStuck.{ScanStuck}
use Rattle.pack_files.specs.declared.scan.ScanStuck.TheVariants as scan
use Rattle.lone_flow.specs.Driving.{Makes}
use Rattle.lone_flow.specs.Naming.{Names, NamesIn}
use Rattle.lone_flow.specs.Naming as naming
use Rattle.lone_flow.specs.Unpacking.{ReadsIn, Unpacks, opens, opens_stuck}
use Rattle.packing_laws.specs.Told.{AreNames, IsContent}
use Rattle.packing_laws.proofs.Unpacking.Facts.{HasReached, ReadLaw, ReadTrouble, ReadsFail, ReadsTell, ScanLaw, ScansTell, content_so, names_so}
use Rattle.outcomes.specs.Outcomes.{stuck_outcome}
use Rattle.script_lang.specs.declared.line.Outcome.TheVariants.{Refused}
use Rattle.plain_machine.specs.Machine.{Plain, PlainReader}
use Rattle.plain_machine.specs.Landed.{bytes_seen, file_of}
use Rattle.plain_plays.specs.ByItself.{OpensByItself, missing, opened}
use Rattle.plain_plays.specs.Mirrors.{Mirrors}
use Rattle.plain_plays.specs.Readers.{MirrorsReader}
use Rattle.plain_plays.specs.Saying.{IsMirrored, MetNoFault}
use Rattle.plain_plays.proofs.Facts.{opens_itself, seen_bytes, state_of}
use Rattle.program_ends.specs.Outcomes.{is_broken_by, is_fault}
use Rattle.plfs_program.specs.PlainCat.{file_named}
use Rattle.plfs_program.specs.PlainSmall.{Finds, StandsInFile, TellsAllNames, TellsContent, ToldPlainly, as_scanned}
use Rattle.plfs_program.specs.SmallFiles.{Does, Told, told_of_file, told_of_names}
use Rattle.plfs_program.proofs.Courses.LoneRuns.{StaysIdle, alone, greeted_mirrors, idle_leaves, names_idle, none_before, reads_idle}
use Rattle.plfs_program.proofs.Courses.PlainCats.{found_file, missing_file}

-- ---- the opening

-- The machine has its file, or has none of the name, and has what the mount has then.
pub record HasOpened (p : Plain) (name : Name) (out : Result OpenReader Trouble) (end : State) : Type 0 where
  pub last : Moment
  pub opens_so : OpensByItself p name last out
  pub mirrors : Mirrors last p
  pub at : last.state ≡ end

has_opened : (m : Moment) (p : Plain) (name : Name) (out : Result OpenReader Trouble) (end : State) → Mirrors m p → Makes (opening_program name 1) m.state out end → MetNoFault m.state end → HasOpened p name out end
has_opened m p name out end o makes none =
    let a = alone (opening_program name 1) m out end makes none in
    let begun : Moment = next_moment m a.greeting in
    let x = opens_itself begun 0 p name 1 (omega arith) (greeted_mirrors (opening_program name 1) m out end p a o) a.events out a.lawful a.well a.by a.runs in
    record { last = moment_after begun a.events; opens_so = x.0; mirrors = x.1; at = a.ends }

same_reader : (a b : OpenReader) → ◌≡◌ {A = Result OpenReader Trouble} (Ok a) (Ok b) → a ≡ b
same_reader a b e = cc

same_trouble : (a b : Trouble) → ◌≡◌ {A = Result OpenReader Trouble} (Err a) (Err b) → a ≡ b
same_trouble a b e = cc

-- ---- what is told

-- nothing but a fault of the store is a trouble of a call
abbrev NoFaultIn : {R : Type 0} → (Result R ScanStuck → Told) → Result R ScanStuck → Type 0
NoFaultIn tells result = is_broken_by is_fault (tells result) ≡ true → ⊥

-- what a caller by itself reads so is told of the machine's file, and the machine stays
abbrev pub ReadsPlainly : {R : Type 0} → Does R → Finds R → (Result R ScanStuck → Told) → Name → Type 0
ReadsPlainly {R} Reads Stands tells name = (m : Moment) (p : Plain) (result : Result R ScanStuck) (end : State) → Mirrors m p → Reads m.state result end → MetNoFault m.state end → (is_broken_by is_fault (tells result) ≡ true → ⊥)
    → ToldPlainly Stands tells (file_named p name) (tells result) × IsMirrored end p

-- there is no file of the name
lacks_so : {R : Type 0} (Stands : Finds R) (tells : Result R ScanStuck → Told) (name : Name) (p : Plain) (trouble : Trouble) (end : State) → ((why : Trouble) → tells (Err (scan.Stuck why)) ≡ Err (stuck_outcome why)) → HasOpened p name (Err trouble) end
    → ToldPlainly Stands tells (file_named p name) (tells (Err (scan.Stuck trouble))) × IsMirrored end p
lacks_so {R} Stands tells name p trouble end says h = (of h.opens_so, record { issued = h.last.issued; mirrors = subst (λ (s : State). Mirrors (record { state = s; issued = h.last.issued }) p) h.at h.mirrors })
  where
    of : OpensByItself p name h.last (Err trouble) → ToldPlainly Stands tells (file_named p name) (tells (Err (scan.Stuck trouble)))
    of (opened reader number room is there told it) = absurd (cc)
    of (missing none told) =
        let why : trouble ≡ stuck.Refused NoRoom = same_trouble trouble (stuck.Refused NoRoom) told in
        subst (λ f. ToldPlainly Stands tells f (tells (Err (scan.Stuck trouble)))) (sym (missing_file name p none)) (says trouble ∙ ap (λ w. Err (stuck_outcome w)) why)

module _ (scan_law : ScanLaw) (read_law : ReadLaw) (read_trouble : ReadTrouble) where
  -- what a reader of the machine's file reads is that file
  module _ (last : Moment) (reader : OpenReader) (file : PlainReader) (it : MirrorsReader last reader file) (are : IsBytes (bytes_seen file)) where
    abbrev Bytes : List ℕ
    Bytes = view it.until it.cut reader.truncs

    bytes_are : IsBytes Bytes
    bytes_are = subst IsBytes (sym (seen_bytes last reader file it)) are

    scans : ScansTell reader Bytes it.until.state
    scans = λ region between scanning told known lawful runs. scan_law 0 region it.begin it.until reader it.cut between scanning told known lawful it.sound it.has bytes_are runs

    tells_bytes : ReadsTell reader Bytes it.until.state
    tells_bytes = λ between reading at len bytes lawful runs. read_law 0 it.begin it.until reader it.cut between reading at len bytes lawful it.sound it.has runs

    tells_trouble : ReadsFail reader it.until.state
    tells_trouble = λ between reading at len why lawful runs. read_trouble 0 it.begin it.until reader it.cut between reading at len why lawful it.sound it.has runs

    reached : (state : State) → last.state ≡ state → HasReached it.until.state state
    reached state at = record { events = it.since; lawful = it.lawful; ends = sym (state_of it.until it.since) ∙ ap (λ (x : Moment). x.state) (sym it.now) ∙ at }

    its_pieces : ArePieces (entries_in file.writes) file.truncs reader.pieces
    its_pieces = subst (λ ts. ArePieces (entries_in file.writes) ts reader.pieces) it.truncs (subst (λ ws. ArePieces (entries_in ws) reader.truncs reader.pieces) it.writes it.has.pieces)

    stands_so : {R : Type 0} (Stands : Finds R) (found : Result R ℕ) → Stands reader.pieces Bytes found → StandsInFile Stands file found
    stands_so Stands found stands = record { pieces = reader.pieces; are = its_pieces; stands = subst (λ b. Stands reader.pieces b found) (seen_bytes last reader file it) stands }

    content_stands : (name : Name) (told : Result (Option (List ℕ)) ScanStuck) (start end : State) → last.state ≡ start → ReadsIn reader name start told end → NoFaultIn told_of_file told → (found : Result (Option (List ℕ)) ℕ) × StandsInFile (TellsContent name) file found × (told_of_file told ≡ told_of_file (as_scanned found))
    content_stands name told start end at read none = of told none (content_so reader Bytes it.until.state name scans tells_bytes tells_trouble start told end (reached start at) read)
      where
        of : (result : Result (Option (List ℕ)) ScanStuck) → NoFaultIn told_of_file result → IsContent reader.pieces Bytes name it.until.state end result → (found : Result (Option (List ℕ)) ℕ) × StandsInFile (TellsContent name) file found × (told_of_file result ≡ told_of_file (as_scanned found))
        of (Ok None) quiet is = (Ok None, stands_so (TellsContent name) (Ok None) is, refl)
        of (Ok (Some content)) quiet is = (Ok (Some content), stands_so (TellsContent name) (Ok (Some content)) is, refl)
        of (Err (scan.Bad place)) quiet is = (Err place, stands_so (TellsContent name) (Err place) is, refl)
        of (Err (scan.Stuck why)) quiet is = absurd (quiet (ap (λ w. is_fault (stuck_outcome w)) is.fails.0))

    names_stand : (told : Result (List Name) ScanStuck) (start end : State) → last.state ≡ start → NamesIn reader start told end → NoFaultIn told_of_names told → (found : Result (List Name) ℕ) × StandsInFile TellsAllNames file found × (told_of_names told ≡ told_of_names (as_scanned found))
    names_stand told start end at read none = of told none (names_so reader Bytes it.until.state scans start told end (reached start at) read)
      where
        of : (result : Result (List Name) ScanStuck) → NoFaultIn told_of_names result → AreNames reader.pieces Bytes it.until.state end result → (found : Result (List Name) ℕ) × StandsInFile TellsAllNames file found × (told_of_names result ≡ told_of_names (as_scanned found))
        of (Ok names) quiet is = (Ok names, stands_so TellsAllNames (Ok names) is, refl)
        of (Err (scan.Bad place)) quiet is = (Err place, stands_so TellsAllNames (Err place) is, refl)
        of (Err (scan.Stuck why)) quiet is = absurd (quiet (ap (λ w. is_fault (stuck_outcome w)) is.fails.0))

  -- ---- the two readings

  -- a reader of the machine's file was opened, and this is told of it
  found_so : {R : Type 0} (Stands : Finds R) (tells : Result R ScanStuck → Told) (name : Name) (p : Plain) (reader : OpenReader) (between : State) (told : Told) → HasOpened p name (Ok reader) between
      → ((last : Moment) (file : PlainReader) → last.state ≡ between → MirrorsReader last reader file → IsBytes (bytes_seen file) → (found : Result R ℕ) × StandsInFile Stands file found × (told ≡ tells (as_scanned found))) → ToldPlainly Stands tells (file_named p name) told
  found_so {R} Stands tells name p reader between told h goes = of h.opens_so
    where
      of : OpensByItself p name h.last (Ok reader) → ToldPlainly Stands tells (file_named p name) told
      of (missing none is) = absurd (cc)
      of (opened other number room is there same it) =
          let mine : MirrorsReader h.last reader (file_of number room) = subst (λ r. MirrorsReader h.last r (file_of number room)) (sym (same_reader reader other same)) it in
          subst (λ f. ToldPlainly Stands tells f told) (sym (found_file name p number room is there)) (goes h.last (file_of number room) h.at mine)

  pub unpacks_plainly : (name file : Name) → ReadsPlainly (Unpacks name file) (TellsContent file) told_of_file name
  unpacks_plainly name file m p result end o (opens reader between makes read) none quiet =
      let idle : StaysIdle between end = reads_idle reader file between result end read in
      let h = has_opened m p name (Ok reader) between o makes (none_before (opening_program name 1) (Ok reader) m.state between end makes idle none) in (
        found_so (TellsContent file) told_of_file name p reader between (told_of_file result) h (λ last its at it are. content_stands last reader its it are file result between end at read quiet),
        idle_leaves h.last p between end h.at idle h.mirrors,
      )
  unpacks_plainly name file m p result end o (opens_stuck trouble is makes) none quiet =
      subst (λ r. ToldPlainly (TellsContent file) told_of_file (file_named p name) (told_of_file r) × IsMirrored end p) (sym is) (lacks_so (TellsContent file) told_of_file name p trouble end (λ why. refl) (has_opened m p name (Err trouble) end o makes none))

  pub names_plainly : (name : Name) → ReadsPlainly (Names name) TellsAllNames told_of_names name
  names_plainly name m p result end o (naming.opens reader between makes read) none quiet =
      let idle : StaysIdle between end = names_idle reader between result end read in
      let h = has_opened m p name (Ok reader) between o makes (none_before (opening_program name 1) (Ok reader) m.state between end makes idle none) in (
        found_so TellsAllNames told_of_names name p reader between (told_of_names result) h (λ last its at it are. names_stand last reader its it are result between end at read quiet),
        idle_leaves h.last p between end h.at idle h.mirrors,
      )
  names_plainly name m p result end o (naming.opens_stuck trouble is makes) none quiet =
      subst (λ r. ToldPlainly TellsAllNames told_of_names (file_named p name) (told_of_names r) × IsMirrored end p) (sym is) (lacks_so TellsAllNames told_of_names name p trouble end (λ why. refl) (has_opened m p name (Err trouble) end o makes none))
