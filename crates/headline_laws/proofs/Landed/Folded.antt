-- The lines of the actor of a writer, one after the other: as much has landed as they tell.
use Rattle.std.proofs.Common.{◌≡◌, ◌⊎◌, ◌≤◌, ◌<◌, ◌+◌, inl, inr, ℕ, List, [], ◌∷◌, ◌++◌, length, Option, refl, sym, ap, ◌∙◌, subst, arith, append_assoc, length-append}
use Rattle.std.specs.List.{AllByRecursion}
use Rattle.std.proofs.lemmas.List.{append-nil}
use Rattle.mount_model.specs.History.{Event}
use Rattle.reader_laws.specs.Moments.{Dropping, IsSoundAt, Moment, landed, moment_after}
use Rattle.actor_core.specs.declared.kept.Kept.{Kept}
use Rattle.headline_laws.specs.OneFile.{OneFile}
use Rattle.headline_laws.specs.OneWriter.{OneWriter}
use Rattle.headline_laws.proofs.Plays.Facts.{Next}
use Rattle.headline.specs.Run.{Told}
use Rattle.headline.specs.Files.{reader_after, reader_next}
use Rattle.headline.specs.Changes.{Writing, writing_after, writing_next}
use Rattle.headline.specs.Writers.{Account, account_of, told_of}
use Rattle.headline_laws.proofs.Landed.Bounded.{Keeps, idle_keeps, line_keeps}
use Rattle.headline_laws.proofs.Landed.Machines.{KeepsTo}
use Rattle.headline_laws.proofs.Statements.Known.{HasEntered, Known, entered_more, known_next, known_waits}
use Rattle.headline_laws.proofs.Story.Lines.{HasRooms, reads_in}
use Rattle.headline_laws.proofs.Story.Parts.{begins, begins_rise}
use Rattle.headline_laws.proofs.Story.Shown.{ShownEach}

-- what is kept to lies between the least and the most
pub least_landed : (n : ℕ) (d : Dropping) (cap : ℕ) (m : Moment) (kept : Kept) (acc : Account) → KeepsTo n d cap m kept acc → acc.least ≤ landed m d
least_landed n d cap m kept acc (inl o) = omega (arith, o.holds.least, o.holds.no_fewer)
least_landed n d cap m kept acc (inr o) = o.settled.least

pub most_landed : (n : ℕ) (d : Dropping) (cap : ℕ) (m : Moment) (kept : Kept) (acc : Account) → KeepsTo n d cap m kept acc → landed m d ≤ acc.most
most_landed n d cap m kept acc (inl o) = o.holds.most
most_landed n d cap m kept acc (inr o) = o.settled.most

module _ (m : Moment) (sound : IsSoundAt m) (n : ℕ) (history : List Event) (blocks : List (List Event)) (whole : Next m [] history) (nothing : ℕ) (cap : ℕ) (d : Dropping) where
  -- Behind the first lines: where their parts end, what is kept there, and the lines behind them.
  pub record Through (of : Told → ℕ) (done : List Event) (r : Option Told) (w : Writing) (acc : Account) (xs rest : List Told) : Type 0 where
    pub from : List Event
    pub later : List Event
    pub is : history ≡ from ++ later
    pub kept : Kept
    pub file : Option OneFile
    pub writer : Option OneWriter
    pub more : ShownEach m sound n history blocks whole from kept file writer rest
    pub rooms_are : HasRooms m sound n history blocks whole nothing of from kept file writer rest more
    pub known : Known of n from (reader_after r xs) (writing_after w xs) file writer
    pub entered : HasEntered n from d
    pub keeps : Keeps m sound n history blocks whole cap d from kept (account_of d.writer cap acc xs)
    -- they end within the phases of these lines
    pub within : (phase : ℕ) → length done ≤ begins blocks phase → AllByRecursion (λ (t : Told). t.phase < phase) xs → length from ≤ begins blocks phase

  pub through : (of : Told → ℕ) (xs rest : List Told) (done later : List Event) (kept : Kept) (file : Option OneFile) (writer : Option OneWriter) (r : Option Told) (w : Writing) (acc : Account) (each : ShownEach m sound n history blocks whole done kept file writer (xs ++ rest))
      → HasRooms m sound n history blocks whole nothing of done kept file writer (xs ++ rest) each → Known of n done r w file writer → history ≡ done ++ later → HasEntered n done d → Keeps m sound n history blocks whole cap d done kept acc → Through of done r w acc xs rest
  through of [] rest done later kept file writer r w acc each rooms_are known is entered keeps = record {
    from = done;
    later = later;
    is = is;
    kept = kept;
    file = file;
    writer = writer;
    more = each;
    rooms_are = rooms_are;
    known = known;
    entered = entered;
    keeps = keeps;
    within = λ phase at all. at;
  }
  through of (q ∷ xs) rest done later kept file writer r w acc (p, says, idle, s, more) rooms_are known is entered keeps =
      let before : Known of n p.earlier r w file writer = subst (λ es. Known of n es r w file writer) (sym idle.is) (known_waits of n done idle.idle r w file writer known) in
      let after = known_next of m n p.earlier s.front s.rest r w q file s.new writer s.new_writer s.shows s.writes (reads_in of m n (record { before = p.earlier; events = s.front }) nothing file s.new s.new_writer q q.statement q.outcome s.shows rooms_are.0) before in
      let known_then = subst (λ es. Known of n (p.earlier ++ es) (reader_next r q q.outcome) (writing_next w q.statement q.outcome) s.new s.new_writer) (sym s.split) after in
      let entered_here : HasEntered n p.earlier d = subst (λ es. HasEntered n es d) (sym idle.is) (entered_more n done idle.idle d entered) in
      let keeps_here = idle_keeps m sound n history blocks whole cap d done p.earlier (p.mine ++ p.later) kept acc p.split idle keeps in
      let t = through of xs rest (p.earlier ++ p.mine) p.later p.e.kept s.new s.new_writer (reader_next r q q.outcome) (writing_next w q.statement q.outcome) (told_of d.writer cap acc q.statement q.outcome) more rooms_are.1 known_then (p.split ∙ sym (append_assoc p.earlier p.mine p.later)) (entered_more n p.earlier p.mine d entered_here)
      (line_keeps m sound n history blocks whole cap d kept file writer q p says s acc entered_here keeps_here) in
      let long = length-append p.earlier p.mine in
      record {
        from = t.from;
        later = t.later;
        is = t.is;
        kept = t.kept;
        file = t.file;
        writer = t.writer;
        more = t.more;
        rooms_are = t.rooms_are;
        known = t.known;
        entered = t.entered;
        keeps = t.keeps;
        within = λ phase at all. t.within phase (let rise = begins_rise blocks (q.phase + 1) phase (let low = all.0 in omega (arith, low)) in let high = p.within_phase in omega (arith, long, rise, high)) all.1;
      }

  -- Up to the next line of the actor no more lands: up to here, or to the end.
  pub record UpTo (from : List Event) (most : ℕ) (rest : List Told) : Type 0 where
    pub till : List Event
    pub later : List Event
    pub is : history ≡ till ++ later
    pub high : landed (moment_after m till) d ≤ most
    pub behind : (phase : ℕ) → AllByRecursion (λ (t : Told). phase ≤ t.phase) rest → (begins blocks phase ≤ length till) ⊎ (later ≡ [])
    pub longer : length from ≤ length till

  pub up_to : (from : List Event) (kept : Kept) (file : Option OneFile) (writer : Option OneWriter) (acc : Account) (rest : List Told) → ShownEach m sound n history blocks whole from kept file writer rest → Keeps m sound n history blocks whole cap d from kept acc → UpTo from acc.most rest
  up_to from kept file writer acc [] idle keeps =
      let all : history ≡ history ++ [] = sym (append-nil history) in
      let long = ap length idle.is ∙ length-append from idle.idle in
      record {
        till = history;
        later = [];
        is = all;
        high = most_landed n d cap (moment_after m history) kept acc (idle_keeps m sound n history blocks whole cap d from history [] kept acc all idle keeps);
        behind = λ phase none. inr refl;
        longer = omega (arith, long);
      }
  up_to from kept file writer acc (q ∷ rest) (p, says, idle, s, more) keeps =
      let long = ap length idle.is ∙ length-append from idle.idle in
      record {
        till = p.earlier;
        later = p.mine ++ p.later;
        is = p.split;
        high = most_landed n d cap (moment_after m p.earlier) kept acc (idle_keeps m sound n history blocks whole cap d from p.earlier (p.mine ++ p.later) kept acc p.split idle keeps);
        behind = λ phase all. inl (let rise = begins_rise blocks phase q.phase all.0 in let low = p.from_phase in omega (arith, rise, low));
        longer = omega (arith, long);
      }
