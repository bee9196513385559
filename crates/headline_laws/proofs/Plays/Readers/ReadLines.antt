-- What the statements on an open reader show.
use Rattle.std.proofs.Common.{◌≡◌, inl, inr, ℕ, zero, suc, ◌+◌, ◌≤◌, List, [], ◌∷◌, ◌++◌, length, drop, length-append, Option, Some, None, Result, Ok, Err, refl, sym, ap, ◌∙◌, subst, arith, eq-eqb, ne_eqb}
use Rattle.std.specs.Prelude.{if◌then◌else◌}
use mathlib.Core.Logic.{dite}
use native.Mathlib.Decide.{ℕ_discrete}
use Rattle.std.specs.List.{range_with_len}
use Rattle.std.proofs.lemmas.List.{append-nil, length-map, length-replicate, length-take}
use Rattle.plain_file.specs.File.{slice}
use Rattle.plain_file.specs.Runs.{ArePieces}
use Rattle.read_plan.specs.Plan.{plan_of}
use Rattle.mount_model.specs.Process.{ends}
use Rattle.mount_model.specs.Plays.{Plays}
use Rattle.mount_model.specs.History.{Event, state_after}
use Rattle.mount_sound.specs.Ledger.{entries_in}
use Rattle.mount_sound.specs.Owed.{IsLawful}
use Rattle.mount_model.specs.declared.stuck.Stuck.{Stuck}
use Rattle.mount_model.specs.Running.{Runs}
use Rattle.script_lang.specs.declared.line.Why.TheVariants.{NotOpen}
use Rattle.script_lang.specs.declared.script.Statement.TheVariants.{Read, Verify, Map, Rclose}
use Rattle.script_lang.specs.declared.script.Data.{Data}
use Rattle.script_lang.specs.declared.script.Data.TheVariants as data_of
use Rattle.index_reader.specs.declared.opened.OpenReader.{OpenReader}
use Rattle.index_reader.specs.Reading.{read_program}
use Rattle.reader_laws.specs.Moments.{Moment, moment_after}
use Rattle.reader_laws.specs.View.{view, writes_in}
use Rattle.reader_laws.proofs.Gathered.Facts.{follows}
use Rattle.reader_laws.specs.Failing.{FailsByStore}
use Rattle.reader_laws.proofs.Facts.{reads_bytes, reads_trouble}
use Rattle.outcomes.specs.Data.{ramp_byte, bytes_of, length_of, first_difference, place_past}
use Rattle.actor_core.specs.declared.kept.Kept.{Kept}
use Rattle.actor_core.specs.declared.kept.Stop.{Stop}
use Rattle.actor_core.specs.Endings.{Ending, refused, stopped, read_from, verified, mapped, reader_closed}
use Rattle.outcomes.specs.Outcomes.{stuck_outcome, read_outcome, verify_outcome, difference}
use Rattle.actor_core.specs.Readers.{reads, verifies, maps, closes_reader}
use Rattle.actor_core.specs.Work.{finishes}
use Rattle.headline_laws.specs.OneFile.{OneFile, seen_bytes, ArePiecesSeen}
use Rattle.headline_laws.specs.Opening.{Stretch}
use Rattle.headline_laws.specs.Comparing.{BeginsOtherwise}
use Rattle.headline_laws.specs.Ending.{EndsEarly}
use Rattle.headline_laws.specs.Showing.{ShowsRead, ShowsVerified}
use Rattle.headline_laws.proofs.Plays.Callers.Carrying.{CourseOf, EndsSo, carried_on, ended, ended_behind, then_told}
use Rattle.headline_laws.proofs.Plays.Readers.Opened.{Good, HasFile, Keeps, keeps_later}
use Rattle.headline_laws.proofs.Plays.Callers.Standing.{Both, Next, FailedHere, failed, lawful_together, up_to}

-- ---- comparing

same_head : (x y : ℕ) (xs ys : List ℕ) → x ≡ y → xs ≡ ys → x ∷ xs ≡ y ∷ ys
same_head x y xs ys a b = λ i. a i ∷ b i

-- where nothing differs, and there is no more, they are the same; else the first place that differs is told
pub record DiffersAt (place : ℕ) (wanted found : List ℕ) (at : ℕ) : Type 0 where
  pub same : List ℕ
  pub byte : ℕ
  pub missed : List ℕ
  pub other : List ℕ
  pub wanted_is : wanted ≡ same ++ byte ∷ missed
  pub found_is : found ≡ same ++ other
  pub differs : BeginsOtherwise byte other
  pub at_is : at ≡ place + length same

abbrev Compares : ℕ → List ℕ → List ℕ → Option ℕ → Type 0
Compares place wanted found None = (more : List ℕ) × (found ≡ wanted ++ more)
Compares place wanted found (Some at) = DiffersAt place wanted found at

one_later : (place : ℕ) (b c : ℕ) (wanted found : List ℕ) (o : Option ℕ) → b ≡ c → Compares (place + 1) wanted found o → Compares place (b ∷ wanted) (c ∷ found) o
one_later place b c wanted found None is (more, e) = (more, λ i. (sym is) i ∷ e i)
one_later place b c wanted found (Some at) is d = record {
  same = b ∷ d.same;
  byte = d.byte;
  missed = d.missed;
  other = d.other;
  wanted_is = ap (λ z. b ∷ z) d.wanted_is;
  found_is = λ i. (sym is) i ∷ d.found_is i;
  differs = d.differs;
  at_is = omega (arith, d.at_is);
}

pub compared : (place : ℕ) (wanted found : List ℕ) → Compares place wanted found (first_difference place wanted found)
compared place [] found = (found, refl)
compared place (b ∷ wanted) [] = record { same = []; byte = b; missed = wanted; other = []; wanted_is = refl; found_is = refl; differs = tt; at_is = omega arith }
compared place (b ∷ wanted) (c ∷ found) = dite (ℕ_discrete b c)
    (λ is. subst (λ t. Compares place (b ∷ wanted) (c ∷ found) (if t then first_difference (place + 1) wanted found else Some place)) (sym (eq-eqb b c is)) (one_later place b c wanted found (first_difference (place + 1) wanted found) is (compared (place + 1) wanted found)))
    (λ ne. subst (λ t. Compares place (b ∷ wanted) (c ∷ found) (if t then first_difference (place + 1) wanted found else Some place)) (sym (ne_eqb b c ne))
    (record { same = []; byte = b; missed = wanted; other = c ∷ found; wanted_is = refl; found_is = refl; differs = (λ e. ne (sym e)); at_is = omega arith }))

-- ---- the data

length-range : (from n : ℕ) → length (range_with_len from n) ≡ n
length-range from zero = refl
length-range from (suc n) = ap suc (length-range (from + 1) n)

pub length-data : (content : Data) → length (bytes_of content) ≡ length_of content
length-data (data_of.Hex bytes) = refl
length-data (data_of.Text bytes) = refl
length-data (data_of.Fill len byte) = length-replicate {A = ℕ} len byte
length-data (data_of.Ramp len first) = length-map (range_with_len 0 len) (ramp_byte first) ∙ length-range 0 len

none_over : (wanted more : List ℕ) (n : ℕ) → length (wanted ++ more) ≤ n → length wanted ≡ n → more ≡ []
none_over wanted [] n most is = refl
none_over wanted (x ∷ more) n most is = let l = length-append wanted (x ∷ more) in absurd (omega (arith, most, is, l))

slice_short : (file : List ℕ) (at len : ℕ) → length (slice file at len) ≤ len
slice_short file at len = omega (arith, length-take len (drop at file))

from_none : (k : ℕ) → 0 + k ≡ k
from_none k = omega arith

-- what the comparison shows of the bytes that were read
pub shows_compared : (start : Moment) (stretch : Stretch) (file : OneFile) (at : ℕ) (content : Data) → ShowsVerified start stretch file at content (difference at (first_difference 0 (bytes_of content) (slice (seen_bytes file) at (length_of content))))
shows_compared start stretch file at content =
    of (first_difference 0 (bytes_of content) found) (compared 0 (bytes_of content) found)
  where
    found : List ℕ
    found = slice (seen_bytes file) at (length_of content)

    of : (o : Option ℕ) → Compares 0 (bytes_of content) found o → ShowsVerified start stretch file at content (difference at o)
    of None (more, is) =
        let none : more ≡ [] = none_over (bytes_of content) more (length_of content) (subst (λ z. length z ≤ length_of content) is (slice_short (seen_bytes file) at (length_of content))) (length-data content) in
        is ∙ ap (λ z. bytes_of content ++ z) none ∙ append-nil (bytes_of content)
    of (Some j) d = record { same = d.same; byte = d.byte; missed = d.missed; other = d.other; wanted_is = d.wanted_is; found_is = d.found_is; differs = d.differs; place_is = ap (place_past at) (d.at_is ∙ from_none (length d.same)) }

-- ---- a read

module _ (start : Moment) (n : ℕ) (before greeting : List Event) (kept : Kept) (reader : OpenReader) (file : OneFile) (has : HasFile (moment_after start (before ++ greeting)) reader file) where
  abbrev Mine : List Event → Stretch
  Mine mine = record { before = before; events = greeting ++ mine }

  -- the moment behind the greeting is one at which the file is open
  reads_there : (mine : List Event) → Next start (before ++ greeting) mine → IsLawful file.moment.state (has.between ++ mine)
  reads_there mine next = lawful_together file.moment has.between mine has.lawful (subst (λ (m : Moment). IsLawful m.state mine) (sym has.is_now) next.lawful)

  pub gave : (at len : ℕ) (mine : List Event) (bytes : List ℕ) → Next start (before ++ greeting) mine → Runs n (read_program reader.room reader.hosts (plan_of reader.pieces reader.size at len)) mine (Ok bytes) → bytes ≡ slice (seen_bytes file) at len
  gave at len mine bytes next runs =
      reads_bytes n has.opened file.moment reader file.cut has.between mine at len bytes (reads_there mine next) has.sound has.has runs
      ∙ ap (λ ts. slice (view file.moment file.cut ts) at len) (sym has.truncates)

  pub troubled : (at len : ℕ) (mine : List Event) (why : Stuck) → Next start before (greeting ++ mine) → Next start (before ++ greeting) mine → Runs n (read_program reader.room reader.hosts (plan_of reader.pieces reader.size at len)) mine (Err why) → FailedHere start before (greeting ++ mine) why
  troubled at len mine why whole next runs =
      let fails : FailsByStore n (state_after file.moment.state has.between) mine why = reads_trouble n has.opened file.moment reader file.cut has.between mine at len why (reads_there mine next) has.sound has.has runs in
      let there : state_after file.moment.state has.between ≡ (moment_after start (before ++ greeting)).state = sym (follows file.moment has.between).0 ∙ ap (λ (m : Moment). m.state) has.is_now in
      failed n start before greeting mine why whole (subst (λ st. FailsByStore n st mine why) there fails)

  -- the line of a fault
  early_fault : (mine : List Event) (why : Stuck) → FailedHere start before (greeting ++ mine) why → EndsEarly start (Mine mine) (stuck_outcome why)
  early_fault mine why f = subst (λ w. EndsEarly start (Mine mine) (stuck_outcome w)) (sym f.fault) f.rose

  pub shows_read : (at len : ℕ) (mine : List Event) (result : Result (List ℕ) Stuck) → Next start before (greeting ++ mine) → Next start (before ++ greeting) mine → Runs n (read_program reader.room reader.hosts (plan_of reader.pieces reader.size at len)) mine result
      → ShowsRead start (Mine mine) file at len (read_outcome at result)
  shows_read at len mine (Ok bytes) whole next runs = (refl, gave at len mine bytes next runs)
  shows_read at len mine (Err why) whole next runs =
      let f = troubled at len mine why whole next runs in subst (λ w. ShowsRead start (Mine mine) file at len (stuck_outcome w)) (sym f.fault) f.rose

  pub shows_verified : (at : ℕ) (content : Data) (mine : List Event) (result : Result (List ℕ) Stuck) → Next start before (greeting ++ mine) → Next start (before ++ greeting) mine
      → Runs n (read_program reader.room reader.hosts (plan_of reader.pieces reader.size at (length_of content))) mine result → ShowsVerified start (Mine mine) file at content (verify_outcome at content result)
  shows_verified at content mine (Ok bytes) whole next runs =
      subst (λ bs. ShowsVerified start (Mine mine) file at content (difference at (first_difference 0 (bytes_of content) bs))) (sym (gave at (length_of content) mine bytes next runs)) (shows_compared start (Mine mine) file at content)
  shows_verified at content mine (Err why) whole next runs =
      let f = troubled at (length_of content) mine why whole next runs in subst (λ w. ShowsVerified start (Mine mine) file at content (stuck_outcome w)) (sym f.fault) f.rose

-- ---- the statements

module _ (start : Moment) (n : ℕ) (before greeting : List Event) {L : Type 0} (as_line : Ending → L) (next : Kept → CourseOf L) (kept : Kept) (stop : Option Stop) where
  abbrev Now : Moment
  Now = moment_after start (before ++ greeting)

  -- the reader is kept
  kept_still : (r : Option OpenReader) (old : Option OneFile) (mine : List Event) → kept.reader ≡ r → Keeps Now r old → IsLawful Now.state mine → Keeps (moment_after Now mine) kept.reader old
  kept_still r old mine is keeps lawful = subst (λ x. Keeps (moment_after Now mine) x old) (sym is) (keeps_later Now r old mine lawful keeps)

  nothing_lawful : IsLawful Now.state []
  nothing_lawful = tt

  pub read_ends : (at len : ℕ) (r : Option OpenReader) (old : Option OneFile) (part : List Event) (ws : List (List Event)) (lines : List L) (left : CourseOf L) → kept.reader ≡ r → Keeps Now r old → Next start before (greeting ++ part)
      → Plays n (then_told as_line next (reads kept stop at len r)) part ws lines left → EndsSo n as_line next part ws lines left (Good start n before greeting old (Read at len))
  read_ends at len None None part ws lines left is keeps whole plays = ended n as_line next (refused kept NotOpen) ends part ws lines left (Good start n before greeting None (Read at len)) plays (None, (refl, refl), kept_still None None [] is keeps tt)
  read_ends at len None (Some file) part ws lines left is keeps whole plays = absurd keeps
  read_ends at len (Some reader) None part ws lines left is keeps whole plays = absurd keeps
  read_ends at len (Some reader) (Some file) part ws lines left is keeps whole plays =
      let G = Good start n before greeting (Some file) (Read at len) in
      elim (carried_on n as_line next (read_program reader.room reader.hosts (plan_of reader.pieces reader.size at len)) stop (λ later result. finishes (read_from kept at result)) (finishes (stopped kept)) part ws lines left plays) as (λ _. EndsSo n as_line next part ws lines left G) [
        | inl r ↦
            let b : Both start before greeting r.mine = up_to start before greeting part r.mine r.rest whole r.all in
            ended_behind n as_line next (read_from kept at r.result) ends part r.mine r.rest ws lines left G r.all r.goes_on
            (Some file, (refl, shows_read start n before greeting kept reader file keeps at len r.mine r.result b.whole b.next r.runs), kept_still (Some reader) (Some file) r.mine is keeps b.next.lawful)
        | inr h ↦
            let b : Both start before greeting h.mine = up_to start before greeting part h.mine h.rest whole h.all in
            ended_behind n as_line next (stopped kept) ends part h.mine h.rest ws lines left G h.all h.goes_on (Some file, (refl, tt), kept_still (Some reader) (Some file) h.mine is keeps b.next.lawful)
      ]

  pub verify_ends : (at : ℕ) (content : Data) (r : Option OpenReader) (old : Option OneFile) (part : List Event) (ws : List (List Event)) (lines : List L) (left : CourseOf L) → kept.reader ≡ r → Keeps Now r old → Next start before (greeting ++ part)
      → Plays n (then_told as_line next (verifies kept stop at content r)) part ws lines left → EndsSo n as_line next part ws lines left (Good start n before greeting old (Verify at content))
  verify_ends at content None None part ws lines left is keeps whole plays = ended n as_line next (refused kept NotOpen) ends part ws lines left (Good start n before greeting None (Verify at content)) plays (None, (refl, refl), kept_still None None [] is keeps tt)
  verify_ends at content None (Some file) part ws lines left is keeps whole plays = absurd keeps
  verify_ends at content (Some reader) None part ws lines left is keeps whole plays = absurd keeps
  verify_ends at content (Some reader) (Some file) part ws lines left is keeps whole plays =
      let G = Good start n before greeting (Some file) (Verify at content) in
      elim (carried_on n as_line next (read_program reader.room reader.hosts (plan_of reader.pieces reader.size at (length_of content))) stop (λ later result. finishes (verified kept at content result)) (finishes (stopped kept)) part ws lines left plays) as (λ _. EndsSo n as_line next part ws lines left G) [
        | inl r ↦
            let b : Both start before greeting r.mine = up_to start before greeting part r.mine r.rest whole r.all in
            ended_behind n as_line next (verified kept at content r.result) ends part r.mine r.rest ws lines left G r.all r.goes_on
            (Some file, (refl, shows_verified start n before greeting kept reader file keeps at content r.mine r.result b.whole b.next r.runs), kept_still (Some reader) (Some file) r.mine is keeps b.next.lawful)
        | inr h ↦
            let b : Both start before greeting h.mine = up_to start before greeting part h.mine h.rest whole h.all in
            ended_behind n as_line next (stopped kept) ends part h.mine h.rest ws lines left G h.all h.goes_on (Some file, (refl, tt), kept_still (Some reader) (Some file) h.mine is keeps b.next.lawful)
      ]

  pub map_ends : (r : Option OpenReader) (old : Option OneFile) (part : List Event) (ws : List (List Event)) (lines : List L) (left : CourseOf L) → kept.reader ≡ r → Keeps Now r old
      → Plays n (then_told as_line next (maps kept r)) part ws lines left → EndsSo n as_line next part ws lines left (Good start n before greeting old Map)
  map_ends None None part ws lines left is keeps plays = ended n as_line next (refused kept NotOpen) ends part ws lines left (Good start n before greeting None Map) plays (None, (refl, refl), kept_still None None [] is keeps tt)
  map_ends None (Some file) part ws lines left is keeps plays = absurd keeps
  map_ends (Some reader) None part ws lines left is keeps plays = absurd keeps
  map_ends (Some reader) (Some file) part ws lines left is keeps plays =
      let pieces : ArePiecesSeen file reader.pieces = subst (λ ts. ArePieces (entries_in (writes_in file.moment file.cut)) ts reader.pieces) (sym keeps.truncates) keeps.has.pieces in
      ended n as_line next (mapped kept reader.pieces) ends part ws lines left (Good start n before greeting (Some file) Map) plays (Some file, (refl, (reader.pieces, pieces, refl)), kept_still (Some reader) (Some file) [] is keeps tt)

  pub close_ends : (r : Option OpenReader) (old : Option OneFile) (part : List Event) (ws : List (List Event)) (lines : List L) (left : CourseOf L) → kept.reader ≡ r → Keeps Now r old
      → Plays n (then_told as_line next (closes_reader kept r)) part ws lines left → EndsSo n as_line next part ws lines left (Good start n before greeting old Rclose)
  close_ends None None part ws lines left is keeps plays = ended n as_line next (refused kept NotOpen) ends part ws lines left (Good start n before greeting None Rclose) plays (None, (refl, refl), kept_still None None [] is keeps tt)
  close_ends None (Some file) part ws lines left is keeps plays = absurd keeps
  close_ends (Some reader) None part ws lines left is keeps plays = absurd keeps
  close_ends (Some reader) (Some file) part ws lines left is keeps plays = ended n as_line next (reader_closed kept) ends part ws lines left (Good start n before greeting (Some file) Rclose) plays (None, ((λ e. cc), refl), tt)
