-- A reader that asks the lengths and reads whole entries has a prefix of what each writer issued.
use Rattle.std.proofs.Common.{◌≡◌, ℕ, suc, ◌+◌, ◌-◌, ◌*◌, ◌/◌, ◌≤◌, ◌<◌, ◌^◌, List, [], ◌∷◌, ◌++◌, length, min, take, drop, length-append, append_assoc, Bool, true, false, Some, refl, ap, sym, ◌∙◌, ◌⊎◌, inl, inr, subst, arith}
use Rattle.std.specs.List.{AllByRecursion}
use Rattle.std.proofs.lemmas.Bool.{cases_lt}
use Rattle.std.proofs.lemmas.List.{append-nil, drop-take, drop-drop, length-take, length-drop}
use Rattle.std.proofs.Math.Seq.{take-add}
use Rattle.plfs_types.specs.declared.entries.Entry.{Entry}
use Rattle.index_entry.specs.Spelling.{spelling_all}
use Rattle.index_entry.specs.Within.{within_log}
use Rattle.index_entry.proofs.Facts.{length-spelling_all}
use Rattle.store_laws.proofs.Facts.{prefix_length}
use Rattle.mount_model.specs.Paths.{index_path, log_path}
use Rattle.mount_model.specs.State.{State}
use Rattle.mount_model.specs.Step.{IsStep}
use Rattle.mount_sound.specs.Entries.{AreEntriesOf, logged, last_stamp}
use Rattle.mount_sound.specs.Ledger.{entries_in, content}
use Rattle.mount_sound.specs.Dropping.{bytes_of, log_bytes}
use Rattle.mount_sound.specs.Landed.{whole}
use Rattle.mount_sound.proofs.Facts.{entries_take, in_order_take, length-content, logged_append, logged_take, order_drop, take_less, writes_take}
use Rattle.reader_laws.specs.Moments.{Moment, IsSoundAt, IsNamed, index_then, log_then, Dropping, issued_by, landed, Grows}
use Rattle.reader_laws.specs.Seen.{Asked, IsSeenCall, IsSeen}
use Rattle.reader_laws.specs.Gathering.{IsLogLength, AreReads, Gathered, Gathers, GathersIndex, GathersSo, CoversLanded, GathersAll, IsPrefixOf}
use Rattle.reader_laws.proofs.Gathered.Indices.PackReading.{gathers_pack}
use Rattle.reader_laws.proofs.Gathered.Containers.Replied.{answers_as}
use Rattle.reader_laws.proofs.Gathered.Moments.Growing.{grows_trans, stood_grows, log_grows}
use Rattle.reader_laws.proofs.Gathered.Moments.Seeing.{seen_grows, seen_split, seen_more, seen_waits}
use Rattle.reader_laws.proofs.Gathered.Containers.Looking.{length_told, absence_told, read_told}
use Rattle.reader_laws.proofs.Gathered.Logs.Fronts.{stands, its_log, landed_whole, length-entries, length_taken, entries_stay, issued_grows}
use Rattle.reader_laws.proofs.Gathered.Logs.Within.{Stops, told_from, TellNone, ReadsSoMany, reads_so_many}

-- ---- what is told

-- the length that was told is that of the log
log_told : (m : Moment) (s : IsSoundAt m) (caller : ℕ) (d : Dropping) (log : ℕ) (asked : Asked) (new : State) → IsLogLength d log asked → IsStep m.state caller asked.ask asked.reply new → length (bytes_of (log_then m d)) ≡ log
log_told m s caller d log asked new is a = elim is.reply as (λ _. length (bytes_of (log_then m d)) ≡ log) [
  | inl number ↦
      let t = length_told m s caller d.room (log_path d.host d.writer) log new (answers_as m.state caller asked.ask _ asked.reply _ new is.call number refl a) in
      ap (λ o. length (bytes_of o)) t.1 ∙ t.2
  | inr (absent, none) ↦ ap (λ o. length (bytes_of o)) (absence_told m s caller d.room (log_path d.host d.writer) new (answers_as m.state caller asked.ask _ asked.reply _ new is.call absent refl a)) ∙ sym none
]

-- ---- what one Read gave

-- entries of two parts that follow each other
parts_join : (es : List Entry) (first count more : ℕ) → take count (drop first es) ++ take more (drop (first + count) es) ≡ take (count + more) (drop first es)
parts_join es first count more = ap (λ l. take count (drop first es) ++ take more l) (sym (drop-drop count first es)) ∙ sym (take-add count more (drop first es))

-- entries of a part that was issued are those of the same part later
part_stays : (m end : Moment) (d : Dropping) (first count : ℕ) → Grows m end → first + count ≤ length (issued_by m d) → take count (drop first (entries_in (issued_by end d))) ≡ take count (drop first (entries_in (issued_by m d)))
part_stays m end d first count grows l =
    sym (drop-take first count (entries_in (issued_by end d))) ∙ ap (drop first) (entries_stay m end d (first + count) grows l) ∙ drop-take first count (entries_in (issued_by m d))

-- what one Read gave: entries that had landed, or all that had from there on, and then bytes that tell none
piece_read : (m : Moment) (s : IsSoundAt m) (d : Dropping) (index : List ℕ) (log first count : ℕ) → IsNamed d → index_then m d ≡ Some index → log ≤ length (bytes_of (log_then m d)) → first ≤ landed m d
    → ReadsSoMany log (entries_in (issued_by m d)) (landed m d) first count (take (40 * count) (drop (40 * first) index))
piece_read m s d index log first count named e has from =
    let st = stands m s d index named e in
    let is : st.landed.landed ≡ landed m d = st.landed.is ∙ sym (landed_whole m s d named ∙ ap (λ o. min (whole (bytes_of o)) (length (issued_by m d))) e) in
    subst (λ n. ReadsSoMany log (entries_in (issued_by m d)) n first count (take (40 * count) (drop (40 * first) index))) is
    (reads_so_many log d.writer (length (log_bytes st.room d.host d.writer)) st.landed.landed first count (issued_by m d) index st.landed.dropping named.widths.1 (s.sound.writes d.room d.writer) st.landed.within
    (omega (arith, has, ap length (its_log m s d index st))) (omega (arith, from, is)))

-- ---- what is told of all of them

-- so many entries from the first on are told, of those that had landed at the end; all are that had landed at the start,
-- up to where the Reads were to end, and end within the log
record IsTold (start end : Moment) (d : Dropping) (log first stop : ℕ) (told : List Entry) : Type 0 where
  more : ℕ
  same : told ≡ take more (drop first (entries_in (issued_by end d)))
  most : first + more ≤ landed end d
  within : first + more ≤ length (issued_by end d)
  least : (n : ℕ) → n ≤ landed start d → n ≤ stop → logged (take n (entries_in (issued_by end d))) ≤ log → n ≤ first + more

none_left : (es : List Entry) → [] ≡ take 0 es
none_left [] = refl
none_left (e ∷ es) = refl

-- the bytes of so many entries before one and of the first ones from it on
logged_two : (first count : ℕ) (es : List Entry) → logged (take (first + count) es) ≡ logged (take first es) + logged (take count (drop first es))
logged_two first count es = ap logged (take-add first count es) ∙ logged_append (take first es) (take count (drop first es))

logged_more : (n m : ℕ) (es : List Entry) → n ≤ m → logged (take n es) ≤ logged (take m es)
logged_more n m es l = omega (arith, ap logged (take_less n m es l), logged_take n (take m es))

-- entries that end within the log come before one that ends past it
before_past : (log first count n : ℕ) (es : List Entry) → log < logged (take (suc (first + count)) es) → logged (take n es) ≤ log → n ≤ first + count
before_past log first count n es past l = elim (cases_lt (first + count) n) as (λ _. n ≤ first + count) [
  | inl more ↦ absurd (omega (arith, past, l, logged_more (suc (first + count)) n es (omega (arith, more))))
  | inr few ↦ omega (arith, few)
]

from_none : (n : ℕ) → 0 + n ≡ n
from_none n = omega arith

-- some of the entries of one Read are told, up to one that ends past the log
stopped : (start m end : Moment) (s : IsSoundAt m) (d : Dropping) (log first count stop : ℕ) (told : List Entry) → IsNamed d → Grows m end → first + count ≤ landed m d → first + count ≤ length (issued_by m d)
    → Stops log (logged (take first (entries_in (issued_by m d)))) (take count (drop first (entries_in (issued_by m d)))) told → IsTold start end d log first stop told
stopped start m end s d log first count stop told named goes has within x =
    let now : List Entry = entries_in (issued_by m d) in
    let few : x.count < count = omega (arith, x.some_left, length-take count (drop first now)) in
    let next : logged (take (suc x.count) (take count (drop first now))) ≡ logged (take (suc x.count) (drop first now)) = ap logged (take_less (suc x.count) count (drop first now) (omega (arith, few))) in
    let past : log < logged (take (first + suc x.count) now) = omega (arith, x.past, next, logged_two first (suc x.count) now) in
    let later : logged (take (first + suc x.count) (entries_in (issued_by end d))) ≡ logged (take (first + suc x.count) now) = ap logged (entries_stay m end d (first + suc x.count) goes (omega (arith, few, within))) in
    let one_more : first + suc x.count ≡ suc (first + x.count) = omega arith in
    record {
      more = x.count;
      same = x.same ∙ take_less x.count count (drop first now) (omega (arith, few)) ∙ sym (part_stays m end d first x.count goes (omega (arith, few, within)));
      most = omega (arith, few, has, goes.landed d named);
      within = omega (arith, few, within, issued_grows m end d goes);
      least = λ n in_start in_stop in_log. before_past log first x.count n (entries_in (issued_by end d)) (omega (arith, past, later, ap (λ k. logged (take k (entries_in (issued_by end d)))) one_more)) in_log;
    }

module _ (m end : Moment) (s : IsSoundAt m) (d : Dropping) (named : IsNamed d) (goes : Grows m end) where
  -- of entries that had landed and what stands behind them, all are told, or up to one that ends past the log
  told_of_part : (start : Moment) (log first count stop : ℕ) (rest : List ℕ) → first + count ≤ landed m d → first + count ≤ length (issued_by m d)
      → (within_log log (whole (spelling_all (take count (drop first (entries_in (issued_by m d)))) ++ rest)) (spelling_all (take count (drop first (entries_in (issued_by m d)))) ++ rest) ≡ take count (drop first (entries_in (issued_by m d))) ++ within_log log (whole rest) rest)
      ⊎ IsTold start end d log first stop (within_log log (whole (spelling_all (take count (drop first (entries_in (issued_by m d)))) ++ rest)) (spelling_all (take count (drop first (entries_in (issued_by m d)))) ++ rest))
  told_of_part start log first count stop rest has within =
      let now : List Entry = entries_in (issued_by m d) in
      let part : List Entry = take count (drop first now) in
      let v = s.sound.writes d.room d.writer in
      let order : AreEntriesOf d.writer (last_stamp 0 (take first now)) (logged (take first now)) part =
      in_order_take count d.writer (last_stamp 0 (take first now)) (logged (take first now)) (drop first now)
      (subst (λ k. AreEntriesOf d.writer (last_stamp 0 (take first now)) k (drop first now)) (from_none (logged (take first now))) (order_drop first d.writer 0 0 now v.in_order)) in
      let small : logged (take first now) + logged part < 2 ^ 64 = omega (arith, v.small, logged_two first count now, logged_take (first + count) now) in
      let long : whole (spelling_all part ++ rest) ≡ length part + whole rest = whole_of (length part) (length rest) (length (spelling_all part ++ rest)) (omega (arith, length-append (spelling_all part) rest, length-spelling_all part)) in
      let P : ℕ → Type 0 = λ n. (within_log log n (spelling_all part ++ rest) ≡ part ++ within_log log (whole rest) rest) ⊎ IsTold start end d log first stop (within_log log n (spelling_all part ++ rest)) in
      subst P (sym long) (elim (told_from log d.writer (last_stamp 0 (take first now)) (logged (take first now)) (whole rest) part rest named.widths.1 small order) as (λ _. P (length part + whole rest)) [
        | inl all ↦ inl all
        | inr x ↦ inr (stopped start m end s d log first count stop _ named goes has within x)
      ])
    where
      whole_of : (n k len : ℕ) → len ≡ 40 * n + k → len / 40 ≡ n + k / 40
      whole_of n k len e = omega arith

  -- where the rest tells none, all entries are told that had landed from there on
  told_all : (start : Moment) (log first stop : ℕ) (rest content : List ℕ) → first ≤ landed m d → landed start d ≤ landed m d → within_log log (whole rest) rest ≡ [] → content ≡ spelling_all (take (landed m d - first) (drop first (entries_in (issued_by m d)))) ++ rest
      → IsTold start end d log first stop (within_log log (whole content) content)
  told_all start log first stop rest content from waited none split =
      let now : List Entry = entries_in (issued_by m d) in
      let count : ℕ = landed m d - first in
      let part : List Entry = take count (drop first now) in
      let sum : first + count ≡ landed m d = omega (arith, from) in
      let issued : landed m d ≤ length (issued_by m d) = omega (arith, landed_whole m s d named) in
      let T : List Entry → Type 0 = IsTold start end d log first stop in
      subst (λ b. T (within_log log (whole b) b)) (sym split)
      (elim (told_of_part start log first count stop rest (omega (arith, sum)) (omega (arith, sum, issued))) as (λ _. T (within_log log (whole (spelling_all part ++ rest)) (spelling_all part ++ rest))) [
        | inl all ↦ record {
          more = count;
          same = all ∙ ap (λ l. part ++ l) none ∙ append-nil part ∙ sym (part_stays m end d first count goes (omega (arith, sum, issued)));
          most = omega (arith, sum, goes.landed d named);
          within = omega (arith, sum, issued, issued_grows m end d goes);
          least = λ n in_start in_stop in_log. omega (arith, in_start, waited, sum);
        }
        | inr told ↦ told
      ])

  -- where a further Read follows, it tells what this one doesn't
  told_more : (start next : Moment) (log first count stop : ℕ) (rest content : List ℕ) → first + count ≤ landed m d → landed start d ≤ landed next d
      → IsTold next end d log (first + count) stop (within_log log (whole rest) rest) → content ≡ spelling_all (take count (drop first (entries_in (issued_by m d)))) ++ rest
      → IsTold start end d log first stop (within_log log (whole content) content)
  told_more start next log first count stop rest content has waited later split =
      let now : List Entry = entries_in (issued_by m d) in
      let part : List Entry = take count (drop first now) in
      let issued : landed m d ≤ length (issued_by m d) = omega (arith, landed_whole m s d named) in
      let T : List Entry → Type 0 = IsTold start end d log first stop in
      let sum : (first + count) + later.more ≡ first + (count + later.more) = omega arith in
      subst (λ b. T (within_log log (whole b) b)) (sym split)
      (elim (told_of_part start log first count stop rest has (omega (arith, has, issued))) as (λ _. T (within_log log (whole (spelling_all part ++ rest)) (spelling_all part ++ rest))) [
        | inl all ↦ record {
          more = count + later.more;
          same = all ∙ ap (λ l. part ++ l) later.same ∙ ap (λ l. l ++ take later.more (drop (first + count) (entries_in (issued_by end d)))) (sym (part_stays m end d first count goes (omega (arith, has, issued)))) ∙ parts_join (entries_in (issued_by end d)) first count later.more;
          most = omega (arith, sum, later.most);
          within = omega (arith, sum, later.within);
          least = λ n in_start in_stop in_log. omega (arith, sum, later.least n (omega (arith, in_start, waited)) in_stop in_log);
        }
        | inr told ↦ told
      ])

-- bytes that are too few for an entry tell none
few_tell : (log : ℕ) (bytes : List ℕ) → length bytes < 40 → within_log log (whole bytes) bytes ≡ []
few_tell log bytes few = let none : whole bytes ≡ 0 = omega (arith, few) in ap (λ n. within_log log n bytes) none

rest_tells : (log : ℕ) (rest more : List ℕ) → TellNone log rest → within_log log (whole (rest ++ more)) (rest ++ more) ≡ []
rest_tells log rest more none = none more (whole (rest ++ more))

-- Reads of the entries from one on that had landed tell the ones from there on.
reads_told : (caller : ℕ) (start end : Moment) (d : Dropping) (log first stop : ℕ) (asked : List Asked) (content : List ℕ) → IsNamed d → IsSeen caller start asked end → log ≤ length (bytes_of (log_then start d)) → first ≤ landed start d → first ≤ length (issued_by end d) → AreReads d first stop asked content
    → IsTold start end d log first stop (within_log log (whole content) content)
reads_told caller start end d log first stop [] content named seen has from within (same, empty) =
    subst (λ b. IsTold start end d log first stop (within_log log (whole b) b)) (sym empty) (record {
      more = 0;
      same = none_left (drop first (entries_in (issued_by end d)));
      most = omega (arith, from, seen.landed d named);
      within = omega (arith, within);
      least = λ n in_start in_stop in_log. omega (arith, in_stop, same);
    })
reads_told caller start end d log first stop (a ∷ rest) content named (next, call, seen) has from within (count, bytes, read, inside, gave) =
    let m : Moment = call.before in
    let s = call.sound in
    let t = read_told m s caller d.room (index_path d.host d.writer) (40 * first) (40 * count) bytes next.state (answers_as m.state caller a.ask _ a.reply _ next.state read.call read.reply refl call.answers) in
    let after : Grows m end = grows_trans m next end call.goes (seen_grows caller next end rest seen) in
    let waited : landed start d ≤ landed m d = call.waits.landed d named in
    let on : Grows start next = grows_trans start m next call.waits call.goes in
    let now : List Entry = entries_in (issued_by m d) in
    let issued : landed m d ≤ length (issued_by m d) = omega (arith, landed_whole m s d named) in
    let reads : ReadsSoMany log now (landed m d) first count bytes =
    subst (ReadsSoMany log now (landed m d) first count) t.2 (piece_read m s d t.0 log first count named t.1 (omega (arith, has, log_grows start m d named call.waits)) (omega (arith, from, waited))) in
    elim reads as (λ _. IsTold start end d log first stop (within_log log (whole content) content)) [
      | inl (all, is) ↦
          let long : length bytes ≡ 40 * count = ap length is ∙ length-spelling_all (take count (drop first now)) ∙ ap (λ n. 40 * n) (length_taken count (drop first now) (omega (arith, length-drop first now, length-entries (issued_by m d), all, issued))) in
          (elim gave as (λ _. IsTold start end d log first stop (within_log log (whole content) content)) [
            | inl (full, (others, more, split)) ↦
                told_more m end s d named after start next log first count stop others content all (on.landed d named)
                (reads_told caller next end d log (first + count) stop rest others named seen (omega (arith, has, log_grows start next d named on)) (omega (arith, all, call.goes.landed d named)) (omega (arith, all, issued, issued_grows m end d after)) more)
                (split ∙ ap (λ b. b ++ others) is)
            | inr (short, more, split) ↦ absurd (omega (arith, short, long))
          ])
      | inr (past, (behind, is, (inl few))) ↦
          let part : List Entry = take (landed m d - first) (drop first now) in
          let long : length bytes ≡ 40 * length part + length behind = ap length is ∙ length-append (spelling_all part) behind ∙ ap (λ n. n + length behind) (length-spelling_all part) in
          (elim gave as (λ _. IsTold start end d log first stop (within_log log (whole content) content)) [
            | inl (full, others) ↦ absurd (omega (arith, full, long, few, past, length-take (landed m d - first) (drop first now)))
            | inr (short, last, split) ↦ told_all m end s d named after start log first stop behind content (omega (arith, from, waited)) waited (few_tell log behind few) (split ∙ is)
          ])
      | inr (past, (behind, is, (inr none))) ↦
          let part : List Entry = take (landed m d - first) (drop first now) in
          (elim gave as (λ _. IsTold start end d log first stop (within_log log (whole content) content)) [
            | inl (full, (others, more, split)) ↦
                told_all m end s d named after start log first stop (behind ++ others) content (omega (arith, from, waited)) waited (rest_tells log behind others none)
                (split ∙ ap (λ b. b ++ others) is ∙ append_assoc (spelling_all part) behind others)
            | inr (short, last, split) ↦
                told_all m end s d named after start log first stop behind content (omega (arith, from, waited)) waited
                (ap (λ b. within_log log (whole b) b) (sym (append-nil behind)) ∙ rest_tells log behind [] none) (split ∙ is)
          ])
    ]

-- what had landed ends within the log
pub landed_logged : (m : Moment) (s : IsSoundAt m) (d : Dropping) (index : List ℕ) → IsNamed d → index_then m d ≡ Some index → logged (take (landed m d) (entries_in (issued_by m d))) ≤ length (bytes_of (log_then m d))
landed_logged m s d index named e =
    let st = stands m s d index named e in
    let h = st.landed in
    let is : h.landed ≡ landed m d = h.is ∙ sym (landed_whole m s d named ∙ ap (λ o. min (whole (bytes_of o)) (length (issued_by m d))) e) in
    let long : length (content (take h.landed (issued_by m d))) ≡ logged (take h.landed (entries_in (issued_by m d))) =
    length-content (take h.landed (issued_by m d)) (writes_take h.landed d.writer (issued_by m d) (s.sound.writes d.room d.writer)).full ∙ ap logged (entries_take h.landed (issued_by m d)) in
    omega (arith, ap (λ n. logged (take n (entries_in (issued_by m d)))) is, long, prefix_length (content (take h.landed (issued_by m d))) (log_bytes st.room d.host d.writer) h.logged, ap length (its_log m s d index st))

gathers_one : (caller : ℕ) (start next later end : Moment) (g : Gathered) (asked : List Asked) (named : IsNamed g.dropping) (gathers : GathersIndex g asked) → IsSeenCall caller start gathers.first next → IsSeenCall caller next gathers.second later → IsSeen caller later gathers.reads end → CoversLanded start g → IsPrefixOf start end g
gathers_one caller start next later end g asked named gathers call second seen covers =
    let d : Dropping = g.dropping in
    let m : Moment = call.before in
    let es : List Entry = entries_in (issued_by end d) in
    let length_is = gathers.index_length in
    let t = length_told m call.sound caller d.room (index_path d.host d.writer) gathers.told next.state (answers_as m.state caller gathers.first.ask _ gathers.first.reply _ next.state length_is.call length_is.reply refl call.answers) in
    let log_is : length (bytes_of (log_then second.before d)) ≡ gathers.log = log_told second.before second.sound caller d gathers.log gathers.second later.state gathers.log_length second.answers in
    let to_second : Grows m second.before = grows_trans m next second.before call.goes second.waits in
    let to_later : Grows m later = grows_trans m second.before later to_second second.goes in
    let on : Grows m end = grows_trans m later end to_later (seen_grows caller later end gathers.reads seen) in
    let count_is : landed m d ≡ min (whole t.0) (length (issued_by m d)) = landed_whole m call.sound d named ∙ ap (λ o. min (whole (bytes_of o)) (length (issued_by m d))) t.1 in
    let its : gathers.told / 40 ≡ whole t.0 = ap (λ n. n / 40) (sym t.2) in
    let waited : landed start d ≤ landed m d = call.waits.landed d named in
    let told = reads_told caller later end d gathers.log g.covered (gathers.told / 40) gathers.reads gathers.content named seen
    (omega (arith, log_is, log_grows second.before later d named second.goes)) (omega (arith, covers, waited, to_later.landed d named)) (omega (arith, covers, waited, count_is, issued_grows m end d on)) gathers.bytes in
    let fits : logged (take (landed m d) es) ≤ gathers.log =
    omega (arith, ap logged (entries_stay m end d (landed m d) on (omega (arith, count_is))), landed_logged m call.sound d t.0 named t.1, log_grows m second.before d named to_second, log_is) in
    let tail : g.tail ≡ take told.more (drop g.covered es) = gathers.tail ∙ told.same in
    let count : g.count ≡ g.covered + told.more =
    gathers.count ∙ ap (λ n. g.covered + n) (ap length tail ∙ length_taken told.more (drop g.covered es) (omega (arith, length-drop g.covered es, length-entries (issued_by end d), told.within))) in
    record {
      least = omega (arith, waited, count, told.least (landed m d) (to_later.landed d named) (omega (arith, count_is, its)) fits);
      most = omega (arith, count, told.most);
      were_issued = omega (arith, count, told.within);
      stands = stood_grows m end d on (record { is_item = named; bytes = t.0; there = t.1 });
      entries = tail ∙ sym (drop-take g.covered told.more es) ∙ ap (λ n. drop g.covered (take n es)) (sym count);
    }

gathers_index : (caller : ℕ) (start end : Moment) (g : Gathered) (asked : List Asked) → IsNamed g.dropping → IsSeen caller start asked end → GathersIndex g asked → CoversLanded start g → IsPrefixOf start end g
gathers_index caller start end g asked named seen gathered covers =
    let s : IsSeen caller start (gathered.first ∷ gathered.second ∷ gathered.reads) end = subst (λ a. IsSeen caller start a end) gathered.calls seen in
    gathers_one caller start s.0 s.2.0 end g asked named gathered s.1 s.2.1 s.2.2 covers

-- whether it was gathered of the packed index or not
by_flag : (packed : Bool) (caller : ℕ) (start end : Moment) (g : Gathered) (asked : List Asked) → IsNamed g.dropping → IsSeen caller start asked end → GathersSo packed g asked → CoversLanded start g → IsPrefixOf start end g
by_flag true caller start end g asked named seen reads covers = gathers_pack caller start end g asked named seen reads covers
by_flag false caller start end g asked named seen reads covers = gathers_index caller start end g asked named seen reads covers

-- The law of one writer.
pub gathers : (caller : ℕ) (start end : Moment) (g : Gathered) (asked : List Asked) → IsSeen caller start asked end → Gathers g asked → CoversLanded start g → IsPrefixOf start end g
gathers caller start end g asked seen gathered covers = by_flag g.packed caller start end g asked gathered.named seen gathered.reads covers

-- each that was gathered is a prefix of what its writer issued, where what is covered of it had landed
abbrev pub AdmissibleEach : Moment → Moment → List Gathered → Type 0
AdmissibleEach start end gathered = AllByRecursion (λ (g : Gathered). CoversLanded start g → IsPrefixOf start end g) gathered

-- The law of the cut.
pub gathers_all : (caller : ℕ) (start end : Moment) (gs : List Gathered) (asked : List Asked) → IsSeen caller start asked end → GathersAll gs asked → AdmissibleEach start end gs
gathers_all caller start end [] asked seen gathered = tt
gathers_all caller start end (g ∷ rest) asked seen (mine, others, split, gathered, more) =
    let s = seen_split caller start end mine others (subst (λ a. IsSeen caller start a end) split seen) in (
      λ covers. gathers caller start end g mine (seen_more caller start s.0 end mine s.1 (seen_grows caller s.0 end others s.2)) gathered covers,
      gathers_all caller start end rest others (seen_waits caller start s.0 end others (seen_grows caller start s.0 mine s.1) s.2) more,
    )
