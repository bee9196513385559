-- Two runs that write out one file print the same, where the faulted acts left the same.
use Rattle.std.proofs.Common.{◌≡◌, ℕ, zero, suc, ◌+◌, ◌-◌, ◌<◌, ◌≤◌, ◌^◌, true, false, ◌⊎◌, inl, inr, List, [], ◌∷◌, ◌++◌, length, Option, Some, None, refl, sym, ap, ◌∙◌, subst, arith}
use Rattle.std.specs.Prelude.{map}
use Rattle.std.specs.List.{All, AllByRecursion, range_with_len}
use Rattle.std.proofs.lemmas.List.{append-nil, map-append}
use Rattle.std.proofs.lemmas.List.Elements.{All-cons, All-head, All-map, All-tail}
use Rattle.edge_io.specs.Source.{Given}
use Rattle.plfs_types.specs.Counts.{HasRisen}
use Rattle.store_api.specs.Acts.{Stored}
use Rattle.script_lang.specs.declared.line.Line.{Line}
use Rattle.script_lang.specs.declared.script.Numbered.{Numbered}
use Rattle.mount_model.specs.State.{State}
use Rattle.mount_model.specs.Mounting.{IsMounted}
use Rattle.report_text.specs.Text.{text_of}
use Rattle.edge_io.specs.Sink.{Taking}
use Rattle.step_laws.specs.Alike.{IsTold, StillCounts, TellsAll}
use Rattle.step_laws.proofs.Facts.{mounts_one, mounted_faults, mounted_tells}
use Rattle.plfs_program.proofs.Replays.FaultedActs.{planned_from}
use Rattle.run_core.specs.Play.{IsPlay}
use Rattle.plfs_program.specs.Cat.{opening, reading, pieces_of, cat_statements, cat_script, reader_size, is_read, IsRead, contents, content_of}
use Rattle.plfs_program.specs.Cat as cat
use Rattle.plfs_program.specs.Catting.{CatCourse, IsReadOut}
use Rattle.plfs_program.specs.Commands.{script_of}
use Rattle.plfs_program.specs.FaultedActs.{left_by_faulted}
use Rattle.plfs_program.specs.Failures.{cat_failures, lines_failures}
use Rattle.program_ends.specs.Ends.{Ends}
use Rattle.plfs_program.specs.Lines.{AreLinesOf, unmounted, mounted}
use Rattle.program_ends.specs.Outcomes.{status_of}
use Rattle.program_ends.specs.Output.{IsPrinted, IsCutOff}
use Rattle.plfs_program.specs.Ways.{by_turns}
use Rattle.plfs_program.specs.Twice.{BeginAlike, HadNoStreamTrouble, PrintAlike}
use Rattle.plfs_program.proofs.SingleRuns.Plays.{one_of}
use Rattle.plfs_program.proofs.SingleRuns.Twice.{none_some, not_cut, print_both, some_one}
use Rattle.plfs_program.proofs.SingleRuns.Works.{IsFirst, plays_begin}

-- ---- more pieces

split : (a c d : ℕ) → c ≤ d → (further : List ℕ) × (range_with_len a d ≡ range_with_len a c ++ further)
split a zero d less = (range_with_len a d, refl)
split a (suc c) zero less = absurd (omega (arith, less))
split a (suc c) (suc d) less = let r = split (a + 1) c d (omega (arith, less)) in (r.0, ap (λ z. a ∷ z) r.1)

more_pieces : (name : List ℕ) (c d : ℕ) → c ≤ d → (further : List Numbered) × (cat_statements name d ≡ cat_statements name c ++ further)
more_pieces name c d less =
    let r = split 0 c d less in
    (map reading r.0, ap (λ z. opening name ∷ z) (ap (λ z. map reading z) r.1 ∙ map-append reading (range_with_len 0 c) r.0))

all_first : (name : List ℕ) (count : ℕ) → All IsFirst (cat_statements name count)
all_first name count = All-cons IsFirst (opening name) (map reading (range_with_len 0 count)) refl (All-map IsFirst reading (range_with_len 0 count) (λ k d lt. refl))

-- ---- lines of both

-- a line behind others that all tell bytes tells bytes
last_read : (lines before more : List Line) (x : Line) → All IsRead lines → lines ≡ (before ++ x ∷ []) ++ more → IsRead x
last_read lines before more x all is = among before (subst (All IsRead) is all)
  where
    among : (before : List Line) → All IsRead ((before ++ x ∷ []) ++ more) → IsRead x
    among [] all = All-head IsRead x more all
    among (y ∷ before) all = among before (All-tail IsRead y ((before ++ x ∷ []) ++ more) all)

inner_read : (a b more : List Line) (x y : Line) → All IsRead b → length a < length b → b ++ y ∷ [] ≡ (a ++ x ∷ []) ++ more → IsRead x
inner_read [] [] more x y all less is = absurd (omega (arith, less))
inner_read [] (z ∷ b) more x y all less is = let same : z ≡ x = cc in subst IsRead same (All-head IsRead z b all)
inner_read (w ∷ a) [] more x y all less is = absurd (omega (arith, less))
inner_read (w ∷ a) (z ∷ b) more x y all less is = let rest : b ++ y ∷ [] ≡ (a ++ x ∷ []) ++ more = cc in inner_read a b more x y (All-tail IsRead z b all) (omega (arith, less)) rest

ends_same : (a b : List Line) (x y : Line) → length a ≡ length b → a ++ x ∷ [] ≡ b ++ y ∷ [] → (a ≡ b) × (x ≡ y)
ends_same [] [] x y long is = let same : x ≡ y = cc in (refl, same)
ends_same [] (z ∷ b) x y long is = absurd (omega (arith, long))
ends_same (w ∷ a) [] x y long is = absurd (omega (arith, long))
ends_same (w ∷ a) (z ∷ b) x y long is =
    let head : w ≡ z = cc in
    let tail : a ++ x ∷ [] ≡ b ++ y ∷ [] = cc in
    let r = ends_same a b x y (omega (arith, long)) tail in
    ((λ i. head i ∷ r.0 i), r.1)

not_read : (x : Line) → IsRead x → is_read x.outcome ≡ false → ⊥
not_read x is not = let e : true ≡ false = sym is ∙ not in cc

one_size : (a b : Line) (size : ℕ) → reader_size a.outcome ≡ Some size → reader_size b.outcome ≡ None → a ≡ b → ⊥
one_size a b size some none same = let e : Some size ≡ None = sym some ∙ ap (λ (l : Line). reader_size l.outcome) same ∙ none in cc

same_size : (a b : Line) (m n : ℕ) → reader_size a.outcome ≡ Some m → reader_size b.outcome ≡ Some n → a ≡ b → m ≡ n
same_size a b m n x y same = let e : Some m ≡ Some n = sym x ∙ ap (λ (l : Line). reader_size l.outcome) same ∙ y in cc

-- ---- plays of both

-- the other way round
turned : (e f : Ends) → BeginAlike e f → BeginAlike f e
turned e f alike = record {
  stored = sym alike.stored;
  told = subst IsTold (sym alike.stored) alike.told;
  counting = subst (λ (s : Stored). s.faults < 2 ^ 64 - 1) (sym alike.stored) alike.counting;
  times = alike.times;
  times_are = alike.times_too;
  times_too = alike.times_are;
}

no_more : (lines told : List Line) → lines ≡ told → (more : List Line) × (told ≡ lines ++ more)
no_more lines told same = ([], sym same ∙ sym (append-nil lines))

starts_one : (e f : Ends) → BeginAlike e f → (start first : State) → IsMounted 0 e.times e.stored start → IsMounted 0 f.times f.stored first → start ≡ first
starts_one e f alike start first m n =
    let P : Option (List ℕ) × Stored → Type 0 = λ z. IsMounted 0 z.0 z.1 first in
    let one : IsMounted 0 (Some alike.times) e.stored start = subst (λ t. IsMounted 0 t e.stored start) alike.times_are m in
    let two : IsMounted 0 (Some alike.times) e.stored first = subst P (λ i. (alike.times_too i, alike.stored i)) n in
    mounts_one 0 (Some alike.times) e.stored start first alike.told one two

start_tells : (e f : Ends) → BeginAlike e f → (start : State) → IsMounted 0 e.times e.stored start → TellsAll start
start_tells e f alike start m = mounted_tells 0 alike.times e.stored start alike.told (subst (λ t. IsMounted 0 t e.stored start) alike.times_are m)

start_room : (e f : Ends) → BeginAlike e f → (start : State) → IsMounted 0 e.times e.stored start → start.store.faults < 2 ^ 64 - 1
start_room e f alike start m = subst (λ n. n < 2 ^ 64 - 1) (sym (mounted_faults 0 e.times e.stored start m)) alike.counting

-- the lines of a run that writes a file out, whose faulted acts left this
pub record OutWith (name : List ℕ) (count : ℕ) (lines : List Line) (e : Ends) (failures : List Stored) : Type 0 where
  pub out : IsReadOut name count lines e
  pub fails : lines_failures out.played.in_turn ≡ failures

module _ (name : List ℕ) (e f : Ends) (alike : BeginAlike e f) (failures : List Stored) (still : AllByRecursion StillCounts failures) (c d : ℕ) (less : c ≤ d) (lines told : List Line) where
  begins_so : (after other : Stored) (x : AreLinesOf by_turns e.times e.stored after (cat_script name c) lines) (y : AreLinesOf by_turns f.times f.stored other (cat_script name d) told) → lines_failures x ≡ failures → lines_failures y ≡ failures
      → (more : List Line) × (told ≡ lines ++ more)
  begins_so after other (unmounted a failed said) y fails too = no_more lines told (one_of (cat_script name d) e f alike failures still lines told after other (unmounted a failed said) y fails too).0
  begins_so after other (mounted m) (unmounted b failed_too said_too) fails too = no_more lines told (one_of (cat_script name c) e f alike failures still lines told after other (mounted m) (unmounted b failed_too said_too) fails too).0
  begins_so after other (mounted m) (mounted n) fails too =
      let further = more_pieces name c d less in
      let starts = starts_one e f alike m.start n.start m.mounted n.mounted in
      let P : State → Type 0 = λ s. (play : IsPlay (cat_script name d) s told n.end) × (left_by_faulted s.store play.history ≡ failures) in
      let again : (play : IsPlay (cat_script name d) m.start told n.end) × (left_by_faulted m.start.store play.history ≡ failures) = subst P (sym starts) (n.play, too) in
      let Q : List Numbered → Type 0 = λ z. (play : IsPlay (script_of z) m.start told n.end) × (left_by_faulted m.start.store play.history ≡ failures) in
      let longer : (play : IsPlay (script_of (cat_statements name c ++ further.0)) m.start told n.end) × (left_by_faulted m.start.store play.history ≡ failures) = subst Q further.1 again in
      let tells = start_tells e f alike m.start m.mounted in
      let room = start_room e f alike m.start m.mounted in
      let plan = planned_from failures still in
      plays_begin plan.plan plan.counts (cat_statements name c) further.0 m.start m.end n.end lines told tells room (all_first name c) (subst (All IsFirst) further.1 (all_first name d)) m.play longer.0
      (plan.keeps m.start m.play.history tells room m.play.leads.lawful m.play.had_memory fails) (plan.keeps m.start longer.0.history tells room longer.0.leads.lawful longer.0.had_memory longer.1)

  pub begins : OutWith name c lines e failures → OutWith name d told f failures → (more : List Line) × (told ≡ lines ++ more)
  begins p q = begins_so p.out.played.after q.out.played.after p.out.played.in_turn q.out.played.in_turn p.fails q.fails

-- ---- what becomes of both

-- what a run told that had its way
pub data Told (name : List ℕ) (e : Ends) (status : ℕ) (failures : List Stored) : Type 0 where
  unopened : (line : Line) → OutWith name 0 (line ∷ []) e failures → reader_size line.outcome ≡ None → IsPrinted (text_of (line ∷ [])) e.taking e.taking_after → status ≡ status_of (line ∷ []) → Told name e status failures
  whole : (opened : Line) (reads : List Line) (size : ℕ) → reader_size opened.outcome ≡ Some size → OutWith name (pieces_of size) (opened ∷ reads) e failures → All IsRead reads → IsPrinted (contents reads) e.taking e.taking_after → status ≡ 0
      → Told name e status failures
  stuck : (opened : Line) (reads : List Line) (last : Line) (size : ℕ) → reader_size opened.outcome ≡ Some size → length reads + 1 ≤ pieces_of size → OutWith name (length reads + 1) (opened ∷ (reads ++ last ∷ [])) e failures → All IsRead reads
      → is_read last.outcome ≡ false → IsPrinted (contents reads) e.taking e.taking_after → status ≡ status_of (last ∷ []) → Told name e status failures

-- what was cut off behind other text
cut_later : (given after : Given) (e : Ends) (mid : Taking) (text more : List ℕ) → HadNoStreamTrouble given after e → IsPrinted text e.taking mid → IsCutOff more mid e.taking_after → ⊥
cut_later given after e mid text more calm printed part = elim part.cause as (λ _. ⊥) [
  | inl risen ↦ calm.sink (subst (λ n. HasRisen n e.taking_after.faults) printed.faults risen)
  | inr stalled ↦ calm.stalls (subst (λ n. HasRisen n e.taking_after.stalls) printed.stalls stalled)
]

out_with : (name : List ℕ) (count : ℕ) (lines : List Line) (e : Ends) (failures : List Stored) (p : IsReadOut name count lines e) → Some (lines_failures p.played.in_turn) ≡ Some failures → OutWith name count lines e failures
out_with name count lines e failures p fails = record { out = p; fails = some_one (lines_failures p.played.in_turn) failures fails }

pub told_so : (given after : Given) (name : List ℕ) (e : Ends) (status : ℕ) (failures : List Stored) → HadNoStreamTrouble given after e → (course : CatCourse name e status) → cat_failures course ≡ Some failures → Told name e status failures
told_so given after name e status failures calm (cat.unopened line played none text is) fails = unopened line (out_with name 0 (line ∷ []) e failures played fails) none text is
told_so given after name e status failures calm (cat.unsaid line played none part is) fails = absurd (not_cut given after e (text_of (line ∷ [])) calm part)
told_so given after name e status failures calm (cat.whole opened reads size has played all text is) fails = whole opened reads size has (out_with name (pieces_of size) (opened ∷ reads) e failures played fails) all text is
told_so given after name e status failures calm (cat.stuck opened reads last size has few played all not text is) fails =
    stuck opened reads last size has few (out_with name (length reads + 1) (opened ∷ (reads ++ last ∷ [])) e failures played fails) all not text is
told_so given after name e status failures calm (cat.broken opened reads last size mid has few played all read text part is) fails =
    absurd (cut_later given after e mid (contents reads) (content_of last.outcome) calm text part)
told_so given after name e status failures calm (cat.starved opened reads went all text is) fails = absurd (none_some failures fails)
told_so given after name e status failures calm (cat.hungry left kept is) fails = absurd (none_some failures fails)

either_way : (c d : ℕ) → (c ≤ d) ⊎ (d ≤ c)
either_way zero d = inl (omega (arith))
either_way (suc c) zero = inr (omega (arith))
either_way (suc c) (suc d) = elim (either_way c d) as (λ _. (suc c ≤ suc d) ⊎ (suc d ≤ suc c)) [
  | inl less ↦ inl (omega (arith, less))
  | inr most ↦ inr (omega (arith, most))
]

module _ (name : List ℕ) (e f : Ends) (alike : BeginAlike e f) (failures : List Stored) (still : AllByRecursion StillCounts failures) where
  firsts_same : (c d : ℕ) (line said : Line) (lines told : List Line) → OutWith name c (line ∷ lines) e failures → OutWith name d (said ∷ told) f failures → line ≡ said
  firsts_same c d line said lines told p q = elim (either_way c d) as (λ _. line ≡ said) [
    | inl less ↦ (let b = begins name e f alike failures still c d less (line ∷ lines) (said ∷ told) p q in let is : said ∷ told ≡ (line ∷ lines) ++ b.0 = b.1 in cc)
    | inr most ↦ (let b = begins name f e (turned e f alike) failures still d c most (said ∷ told) (line ∷ lines) q p in let is : line ∷ lines ≡ (said ∷ told) ++ b.0 = b.1 in cc)
  ]

  -- of the same pieces
  same_count : (c : ℕ) (lines told : List Line) (p : OutWith name c lines e failures) (q : OutWith name c told f failures) → (lines ≡ told) × (p.out.played.after ≡ q.out.played.after)
  same_count c lines told p q = one_of (cat_script name c) e f alike failures still lines told p.out.played.after q.out.played.after p.out.played.in_turn q.out.played.in_turn p.fails q.fails

  left_same : (c : ℕ) (lines told : List Line) (p : OutWith name c lines e failures) (q : OutWith name c told f failures) → e.stored_after ≡ f.stored_after
  left_same c lines told p q = p.out.played.left ∙ ap Some (same_count c lines told p q).1 ∙ sym q.out.played.left

  -- where one was not opened neither was the other
  none_opened : (d size : ℕ) (line opened : Line) (reads : List Line) → OutWith name 0 (line ∷ []) e failures → OutWith name d (opened ∷ reads) f failures → reader_size line.outcome ≡ None → reader_size opened.outcome ≡ Some size → ⊥
  none_opened d size line opened reads p q none some = one_size opened line size some none (sym (firsts_same 0 d line opened [] reads p q))

  -- where one read all pieces the other did not stick
  none_stuck : (size more : ℕ) (opened first : Line) (reads others : List Line) (last : Line) → reader_size opened.outcome ≡ Some size → reader_size first.outcome ≡ Some more → OutWith name (pieces_of size) (opened ∷ reads) e failures
      → length others + 1 ≤ pieces_of more → OutWith name (length others + 1) (first ∷ (others ++ last ∷ [])) f failures → All IsRead reads → is_read last.outcome ≡ false → ⊥
  none_stuck size more opened first reads others last some some_too p few q all not =
      let one : opened ≡ first = firsts_same (pieces_of size) (length others + 1) opened first reads (others ++ last ∷ []) p q in
      let sizes : size ≡ more = same_size opened first size more some some_too one in
      let fewer : length others + 1 ≤ pieces_of size = subst (λ n. length others + 1 ≤ pieces_of n) (sym sizes) few in
      let b = begins name f e (turned e f alike) failures still (length others + 1) (pieces_of size) fewer (first ∷ (others ++ last ∷ [])) (opened ∷ reads) q p in
      let is : opened ∷ reads ≡ first ∷ ((others ++ last ∷ []) ++ b.0) = b.1 in
      let rest : reads ≡ (others ++ last ∷ []) ++ b.0 = cc in
      not_read last (last_read reads others b.0 last all rest) not

  -- where one stuck the other did not go on
  no_further : (first opened : Line) (reads others : List Line) (last end : Line) → OutWith name (length reads + 1) (opened ∷ (reads ++ last ∷ [])) e failures → OutWith name (length others + 1) (first ∷ (others ++ end ∷ [])) f failures
      → All IsRead others → is_read last.outcome ≡ false → length reads < length others → ⊥
  no_further first opened reads others last end p q all not less =
      let b = begins name e f alike failures still (length reads + 1) (length others + 1) (omega (arith, less)) (opened ∷ (reads ++ last ∷ [])) (first ∷ (others ++ end ∷ [])) p q in
      let is : first ∷ (others ++ end ∷ []) ≡ opened ∷ ((reads ++ last ∷ []) ++ b.0) = b.1 in
      let rest : others ++ end ∷ [] ≡ (reads ++ last ∷ []) ++ b.0 = cc in
      not_read last (inner_read reads others b.0 last end all less rest) not

module _ (given after another later : Given) (e f : Ends) (alike : BeginAlike e f) (calm : HadNoStreamTrouble given after e) (calm_too : HadNoStreamTrouble another later f) (failures : List Stored) (still : AllByRecursion StillCounts failures)
    (name : List ℕ) (status other : ℕ) where
  back : BeginAlike f e
  back = turned e f alike

  both : Told name e status failures → Told name f other failures → PrintAlike e f status other
  both (unopened line p none text is) (unopened said q none_too text_too is_too) =
      let same = (same_count name e f alike failures still 0 (line ∷ []) (said ∷ []) p q).0 in
      print_both (text_of (line ∷ [])) e f status other text (subst (λ ls. IsPrinted (text_of ls) f.taking f.taking_after) (sym same) text_too) (is ∙ ap status_of same ∙ sym is_too)
      (left_same name e f alike failures still 0 (line ∷ []) (said ∷ []) p q)
  both (unopened line p none text is) (whole opened reads size has q all text_too is_too) = absurd (none_opened name e f alike failures still (pieces_of size) size line opened reads p q none has)
  both (unopened line p none text is) (stuck opened reads last size has few q all not text_too is_too) = absurd (none_opened name e f alike failures still (length reads + 1) size line opened (reads ++ last ∷ []) p q none has)
  both (whole opened reads size has p all text is) (unopened line q none text_too is_too) = absurd (none_opened name f e back failures still (pieces_of size) size line opened reads q p none has)
  both (stuck opened reads last size has few p all not text is) (unopened line q none text_too is_too) = absurd (none_opened name f e back failures still (length reads + 1) size line opened (reads ++ last ∷ []) q p none has)
  both (whole opened reads size has p all text is) (whole first others more has_too q all_too text_too is_too) =
      let sizes : size ≡ more = same_size opened first size more has has_too (firsts_same name e f alike failures still (pieces_of size) (pieces_of more) opened first reads others p q) in
      let q_so : OutWith name (pieces_of size) (first ∷ others) f failures = subst (λ n. OutWith name (pieces_of n) (first ∷ others) f failures) (sym sizes) q in
      let same : opened ∷ reads ≡ first ∷ others = (same_count name e f alike failures still (pieces_of size) (opened ∷ reads) (first ∷ others) p q_so).0 in
      let rest : reads ≡ others = cc in
      print_both (contents reads) e f status other text (subst (λ ls. IsPrinted (contents ls) f.taking f.taking_after) (sym rest) text_too) (is ∙ sym is_too)
      (left_same name e f alike failures still (pieces_of size) (opened ∷ reads) (first ∷ others) p q_so)
  both (whole opened reads size has p all text is) (stuck first others last more has_too few q all_too not text_too is_too) = absurd (none_stuck name e f alike failures still size more opened first reads others last has has_too p few q all not)
  both (stuck first others last more has_too few q all_too not text_too is_too) (whole opened reads size has p all text is) = absurd (none_stuck name f e back failures still size more opened first reads others last has has_too p few q all not)
  both (stuck opened reads last size has few p all not text is) (stuck first others end more has_too few_too q all_too not_too text_too is_too) =
      let not_less : length reads < length others → ⊥ = no_further name e f alike failures still first opened reads others last end p q all_too not in
      let not_more : length others < length reads → ⊥ = no_further name f e back failures still opened first others reads end last q p all not_too in
      let long : length reads ≡ length others = omega (arith, not_less, not_more) in
      let q_so : OutWith name (length reads + 1) (first ∷ (others ++ end ∷ [])) f failures = subst (λ n. OutWith name (n + 1) (first ∷ (others ++ end ∷ [])) f failures) (sym long) q in
      let same : opened ∷ (reads ++ last ∷ []) ≡ first ∷ (others ++ end ∷ []) = (same_count name e f alike failures still (length reads + 1) (opened ∷ (reads ++ last ∷ [])) (first ∷ (others ++ end ∷ [])) p q_so).0 in
      let rest : reads ++ last ∷ [] ≡ others ++ end ∷ [] = cc in
      let parts = ends_same reads others last end long rest in
      print_both (contents reads) e f status other text (subst (λ ls. IsPrinted (contents ls) f.taking f.taking_after) (sym parts.0) text_too) (is ∙ ap (λ l. status_of (l ∷ [])) parts.1 ∙ sym is_too)
      (left_same name e f alike failures still (length reads + 1) (opened ∷ (reads ++ last ∷ [])) (first ∷ (others ++ end ∷ [])) p q_so)

  pub cat_twice : (a : CatCourse name e status) (b : CatCourse name f other) → cat_failures a ≡ Some failures → cat_failures b ≡ Some failures → PrintAlike e f status other
  cat_twice a b fails too = both (told_so given after name e status failures calm a fails) (told_so another later name f other failures calm_too b too)
