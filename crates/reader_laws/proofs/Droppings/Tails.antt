-- Who runs the program of an index dropping has gathered it.
use Rattle.std.proofs.Common.{◌≡◌, ℕ, zero, suc, ◌+◌, ◌-◌, ◌*◌, ◌/◌, ◌≤◌, ◌<◌, min, Bool, true, false, nat_le, nat_lt, List, [], ◌∷◌, ◌++◌, length, drop, Some, refl, ap, sym, ◌∙◌, ◌⊎◌, inl, inr, subst, arith, length-append, length-drop}
use Rattle.std.specs.Prelude.{Result, Ok, Err, if◌then◌else◌}
use Rattle.std.specs.List.{AllByRecursion}
use Rattle.std.proofs.lemmas.Bool.Decides.{nat_tests}
use Rattle.plfs_types.specs.declared.entries.Cover.{Cover}
use Rattle.index_entry.specs.Spelling.{entry_in}
use Rattle.index_entry.specs.Within.{within_log}
use Rattle.store_api.specs.declared.step.Answer.TheVariants as answer
use Rattle.mount_model.specs.declared.call.Ask.{Ask}
use Rattle.mount_model.specs.declared.reply.Reply.{Reply}
use Rattle.mount_model.specs.declared.reply.Reply.TheVariants.{Looked}
use Rattle.mount_model.specs.Paths.{index_path}
use Rattle.mount_model.specs.History.{Event}
use Rattle.mount_sound.specs.Landed.{whole}
use Rattle.mount_model.specs.Program.{done}
use Rattle.mount_model.specs.Calls.{AreCallsOf}
use Rattle.mount_model.specs.declared.stuck.Stuck.{Stuck}
use Rattle.mount_model.specs.Running.{asking}
use Rattle.mount_model.specs.FlowReplies.{Tries, damage, bytes_in}
use Rattle.mount_model.specs.Entries.{is_next}
use Rattle.index_reader.specs.declared.listing.Dropping.{Dropping as Listed}
use Rattle.index_reader.specs.declared.entries.Tail.{Tail}
use Rattle.index_reader.specs.Replies.{log_length_in, number_in}
use Rattle.index_reader.specs.Entries.{longer, checked}
use Rattle.index_reader.specs.Packs.{no_tail}
use Rattle.index_reader.specs.Tails.{if_checked, looked, reads_left, reads_on, log_then, tail_program}
use Rattle.mount_model.specs.Entries.{next_read}
use Rattle.index_reader.proofs.Indices.TailLemmas.{reads_going_on}
use Rattle.reader_laws.specs.Seen.{asked_in}
use Rattle.reader_laws.specs.Gathering.{IsLength, IsLogLength, IsRead, AreReads, GathersIndex}
use Rattle.reader_laws.specs.Sharing.{in_room, gathered_of}
use Rattle.reader_laws.proofs.Calls.Calling.{asked_all, given_so, passed_so, same_ok, number_given, bytes_given, FitsRead}
use Rattle.reader_laws.proofs.Droppings.Checking.{Longer, no_longer, longer_on, within_more, AllCount, SomeCount, all_here, all_later, some_later, ends_here}

-- ---- what the whole entries of some Reads tell

-- the entries of what was read, which a tail goes on with, unless it had ended
record IsReadOn (log : ℕ) (ended : Bool) (content : List ℕ) (old new : Tail) : Type 0 where
  pub ended_so : ended ≡ true → new ≡ old
  pub goes_on : ended ≡ false → Longer (within_log log (whole content) content) old new

-- the calls of Reads from one entry up to another, and what they gave
record HasReadOn (room : ℕ) (d : Listed) (log first end : ℕ) (ended : Bool) (calls : List Event) (old new : Tail) : Type 0 where
  pub content : List ℕ
  pub reads : AreReads (in_room room d) first end (asked_all calls) content
  pub tells : IsReadOn log ended content old new

nothing_read : (log : ℕ) (ended : Bool) (t : Tail) → IsReadOn log ended [] t t
nothing_read log ended t = record { ended_so = λ e. refl; goes_on = λ e. no_longer t }

not_both : (b : Bool) → b ≡ true → b ≡ false → ⊥
not_both b p q = let clash : true ≡ false = sym p ∙ q in cc

whole_more : (n : ℕ) (a b : List ℕ) → length a ≡ 40 * n → whole (a ++ b) ≡ n + whole b
whole_more n a b long = let both : length (a ++ b) ≡ 40 * n + length b = length-append a b ∙ ap (λ k. k + length b) long in omega (arith, both)

-- what a Read that was full tells, and then the Reads behind it
full_all : (log n : ℕ) (bytes more : List ℕ) (old mid new : Tail) → length bytes ≡ 40 * n → AllCount log n bytes old mid → Longer (within_log log (whole more) more) mid new → Longer (within_log log (whole (bytes ++ more)) (bytes ++ more)) old new
full_all log n bytes more old mid new long first rest =
    subst (λ es. Longer es old new) (sym (ap (λ k. within_log log k (bytes ++ more)) (whole_more n bytes more long) ∙ within_more log n (whole more) bytes more long first.all))
    (longer_on (within_log log n bytes) (within_log log (whole more) more) old mid new first.longer rest)

full_some : (log n : ℕ) (bytes more : List ℕ) (old new : Tail) → length bytes ≡ 40 * n → SomeCount log n bytes old new → Longer (within_log log (whole (bytes ++ more)) (bytes ++ more)) old new
full_some log n bytes more old new long first =
    subst (λ es. Longer es old new) (sym (ap (λ k. within_log log k (bytes ++ more)) (whole_more n bytes more long) ∙ first.ends (whole more) more)) first.longer

-- ---- how a program goes on after it checked entries

-- one of two values, by a test
pub either : {A : Type 0} (test : Bool) (x y : A) (P : A → Type 0) → P (if test then x else y) → ((test ≡ true) × P x) ⊎ ((test ≡ false) × P y)
either true x y P p = inl (refl, p)
either false x y P p = inr (refl, p)

module _ (d : Listed) (more : Bool → Tail → Tries Tail) (full : Bool) (rest : List Event) (new : Tail) where
  -- it goes on from this tail, whose entries have ended or not
  abbrev GoesOn : Bool → Tail → Type 0
  GoesOn past mid = AreCallsOf (asking (if full then more past mid else done (Ok mid))) rest (Ok new)

  abbrev HasChecked : ℕ → ℕ → List ℕ → Tail → Type 0
  HasChecked log n bytes old = ((mid : Tail) × AllCount log n bytes old mid × GoesOn false mid) ⊎ ((mid : Tail) × SomeCount log n bytes old mid × GoesOn true mid)

  checked_so : (log n : ℕ) (bytes : List ℕ) (old : Tail) → 40 * n ≤ length bytes → AreCallsOf (asking (if_checked d more full (checked log n bytes old))) rest (Ok new) → HasChecked log n bytes old
  checked_so log zero bytes old long made = inl (old, all_here log bytes old, made)
  checked_so log (suc n) bytes old long made = elim (either (is_next old.cover (entry_in bytes)) _ _ (λ p. AreCallsOf (asking (if_checked d more full p)) rest (Ok new)) made) as (λ _. HasChecked log (suc n) bytes old) [
    | inl (next, made') ↦ elim (either (nat_le ((entry_in bytes).physical + (entry_in bytes).len) log) _ _ (λ p. AreCallsOf (asking (if_checked d more full p)) rest (Ok new)) made') as (λ _. HasChecked log (suc n) bytes old) [
      | inl (in_log, on) ↦ elim (checked_so log n (drop 40 bytes) (longer (entry_in bytes) old) (omega (arith, length-drop 40 bytes, long)) on) as (λ _. HasChecked log (suc n) bytes old) [
        | inl (mid, all, goes) ↦ inl (mid, all_later log n bytes old long mid next in_log all, goes)
        | inr (mid, some, goes) ↦ inr (mid, some_later log n bytes old long mid next in_log some, goes)
      ]
      | inr (past, goes) ↦ inr (old, ends_here log n bytes old long past, goes)
    ]
    | inr (breaks, made') ↦ (let clash : ◌≡◌ {A = Result Tail Stuck} (Err (damage (index_path d.host d.writer) (40 * old.cover.count))) (Ok new) = made'.1 in absurd (cc))
  ]

-- ---- the Reads

full_size : (count len : ℕ) → nat_le (40 * count) len ≡ true → len ≤ 40 * count → len ≡ 40 * count
full_size count len full most = let least : 40 * count ≤ len = grind (arith, nat_tests, full) in omega (arith, least, most)

short_size : (count len : ℕ) → nat_le (40 * count) len ≡ false → len < 40 * count
short_size count len full = grind (arith, nat_tests, full)

full_count : (count len : ℕ) → len ≡ 40 * count → min (len / 40) count ≡ count
full_count count len e = omega (arith, e)

short_count : (count len : ℕ) → len < 40 * count → min (len / 40) count ≡ len / 40
short_count count len l = omega (arith, l)

checked_few : (count len : ℕ) → 40 * min (len / 40) count ≤ len
checked_few count len = omega arith

-- a Read and then the Reads of what is left
module _ (room : ℕ) (d : Listed) (log whole_ left : ℕ) where
  -- Reads of what is left behind the next
  abbrev reads_later : Bool → Tail → Tries Tail
  reads_later past mid = reads_left room d log whole_ (left - next_read left) past mid

  -- what follows is read as told
  abbrev RestIsRead : List Event → Type 0
  RestIsRead rest = (ended : Bool) (old new : Tail) → AreCallsOf (asking (reads_left room d log whole_ (left - next_read left) ended old)) rest (Ok new)
      → HasReadOn room d log (whole_ - (left - next_read left)) whole_ ended rest old new

  -- the Read itself
  record FirstRead (e : Event) (bytes : List ℕ) : Type 0 where
    pub is : IsRead (in_room room d) (40 * (whole_ - left)) (40 * next_read left) bytes (asked_in e)
    pub most : length bytes ≤ 40 * next_read left

  more_reads : (e : Event) (rest : List Event) (bytes more : List ℕ) → left ≤ whole_ → FirstRead e bytes → length bytes ≡ 40 * next_read left
      → AreReads (in_room room d) (whole_ - (left - next_read left)) whole_ (asked_all rest) more → AreReads (in_room room d) (whole_ - left) whole_ (asked_all (e ∷ rest)) (bytes ++ more)
  more_reads e rest bytes more within r full others =
      let on : whole_ - (left - next_read left) ≡ whole_ - left + next_read left = omega (arith, within) in
      (next_read left, bytes, r.is, omega (arith, within), inl (full, (more, subst (λ k. AreReads (in_room room d) k whole_ (asked_all rest) more) on others, refl)))

  last_read : (e : Event) (rest : List Event) (bytes : List ℕ) → left ≤ whole_ → FirstRead e bytes → length bytes < 40 * next_read left → rest ≡ [] → AreReads (in_room room d) (whole_ - left) whole_ (asked_all (e ∷ rest)) bytes
  last_read e rest bytes within r short none = (next_read left, bytes, r.is, omega (arith, within), inr (short, ap asked_all none, refl))

  -- after a Read whose entries all count
  after_all : (e : Event) (rest : List Event) (bytes : List ℕ) (old mid new : Tail) (full : Bool) → left ≤ whole_ → FirstRead e bytes → nat_le (40 * next_read left) (length bytes) ≡ full → AllCount log (min (length bytes / 40) (next_read left)) bytes old mid → RestIsRead rest
      → GoesOn d reads_later full rest new false mid → HasReadOn room d log (whole_ - left) whole_ false (e ∷ rest) old new
  after_all e rest bytes old mid new true within r test so later made =
      let size : length bytes ≡ 40 * next_read left = full_size (next_read left) (length bytes) test r.most in
      let h = later false mid new made in
      record {
        content = bytes ++ h.content;
        reads = more_reads e rest bytes h.content within r size h.reads;
        tells = record {
          ended_so = λ never. absurd (not_both false never refl);
          goes_on = λ _. full_all log (next_read left) bytes h.content old mid new size (subst (λ n. AllCount log n bytes old mid) (full_count (next_read left) (length bytes) size) so) (h.tells.goes_on refl);
        };
      }
  after_all e rest bytes old mid new false within r test so later made =
      let size : length bytes < 40 * next_read left = short_size (next_read left) (length bytes) test in
      record {
        content = bytes;
        reads = last_read e rest bytes within r size made.0;
        tells = record {
          ended_so = λ never. absurd (not_both false never refl);
          goes_on = λ _. subst (Longer (within_log log (whole bytes) bytes) old) (same_ok mid new made.1) (subst (λ n. Longer (within_log log n bytes) old mid) (short_count (next_read left) (length bytes) size) so.longer);
        };
      }

  -- after one with an entry that ends past the log
  after_some : (e : Event) (rest : List Event) (bytes : List ℕ) (old mid new : Tail) (full : Bool) → left ≤ whole_ → FirstRead e bytes → nat_le (40 * next_read left) (length bytes) ≡ full → SomeCount log (min (length bytes / 40) (next_read left)) bytes old mid → RestIsRead rest
      → GoesOn d reads_later full rest new true mid → HasReadOn room d log (whole_ - left) whole_ false (e ∷ rest) old new
  after_some e rest bytes old mid new true within r test so later made =
      let size : length bytes ≡ 40 * next_read left = full_size (next_read left) (length bytes) test r.most in
      let h = later true mid new made in
      record {
        content = bytes ++ h.content;
        reads = more_reads e rest bytes h.content within r size h.reads;
        tells = record {
          ended_so = λ never. absurd (not_both false never refl);
          goes_on = λ _. subst (Longer (within_log log (whole (bytes ++ h.content)) (bytes ++ h.content)) old) (sym (h.tells.ended_so refl)) (full_some log (next_read left) bytes h.content old mid size (subst (λ n. SomeCount log n bytes old mid) (full_count (next_read left) (length bytes) size) so));
        };
      }
  after_some e rest bytes old mid new false within r test so later made =
      let size : length bytes < 40 * next_read left = short_size (next_read left) (length bytes) test in
      record {
        content = bytes;
        reads = last_read e rest bytes within r size made.0;
        tells = record {
          ended_so = λ never. absurd (not_both false never refl);
          goes_on = λ _. subst (Longer (within_log log (whole bytes) bytes) old) (same_ok mid new made.1) (subst (λ n. Longer (within_log log n bytes) old mid) (short_count (next_read left) (length bytes) size) so.longer);
        };
      }

  -- after a Read whose entries were not looked at any more
  after_end : (e : Event) (rest : List Event) (bytes : List ℕ) (old new : Tail) (full : Bool) → left ≤ whole_ → FirstRead e bytes → nat_le (40 * next_read left) (length bytes) ≡ full → RestIsRead rest → GoesOn d reads_later full rest new true old
      → HasReadOn room d log (whole_ - left) whole_ true (e ∷ rest) old new
  after_end e rest bytes old new true within r test later made =
      let size : length bytes ≡ 40 * next_read left = full_size (next_read left) (length bytes) test r.most in
      let h = later true old new made in
      record { content = bytes ++ h.content; reads = more_reads e rest bytes h.content within r size h.reads; tells = record { ended_so = λ _. h.tells.ended_so refl; goes_on = λ never. absurd (not_both true refl never) } }
  after_end e rest bytes old new false within r test later made =
      let size : length bytes < 40 * next_read left = short_size (next_read left) (length bytes) test in
      record { content = bytes; reads = last_read e rest bytes within r size made.0; tells = record { ended_so = λ _. sym (same_ok old new made.1); goes_on = λ never. absurd (not_both true refl never) } }

  -- after a Read, by whether entries had ended before it
  after_read : (e : Event) (rest : List Event) (bytes : List ℕ) (old new : Tail) (ended : Bool) → left ≤ whole_ → FirstRead e bytes → RestIsRead rest
      → AreCallsOf (asking (if_checked d reads_later (nat_le (40 * next_read left) (length bytes)) (looked ended log (next_read left) bytes old))) rest (Ok new) → HasReadOn room d log (whole_ - left) whole_ ended (e ∷ rest) old new
  after_read e rest bytes old new true within r later made = after_end e rest bytes old new (nat_le (40 * next_read left) (length bytes)) within r refl later made
  after_read e rest bytes old new false within r later made =
      let full : Bool = nat_le (40 * next_read left) (length bytes) in
      elim (checked_so d reads_later full rest new log (min (length bytes / 40) (next_read left)) bytes old (checked_few (next_read left) (length bytes)) made) as (λ _. HasReadOn room d log (whole_ - left) whole_ false (e ∷ rest) old new) [
        | inl (mid, all, goes) ↦ after_all e rest bytes old mid new full within r refl all later goes
        | inr (mid, some, goes) ↦ after_some e rest bytes old mid new full within r refl some later goes
      ]

-- the next Read, where what follows it is read as told
next_run : (room : ℕ) (d : Listed) (log whole_ left : ℕ) (ended : Bool) (old new : Tail) (calls : List Event) → left ≤ whole_ → AllByRecursion FitsRead (asked_all calls) → ((rest : List Event) → AllByRecursion FitsRead (asked_all rest) → RestIsRead room d log whole_ left rest)
    → AreCallsOf (asking (reads_on room d log whole_ left ended old)) calls (Ok new) → HasReadOn room d log (whole_ - left) whole_ ended calls old new
next_run room d log whole_ left ended old new [] within fit later made = absurd made
next_run room d log whole_ left ended old new (e ∷ rest) within fit later (asked, made) =
    let g = given_so (bytes_in e.reply) _ _ rest new made in
    let bytes : List ℕ = g.0 in
    let call = ap (λ (a : Ask). a.call) asked in
    let reply = bytes_given e.reply bytes g.1 in
    let r : FirstRead room d log whole_ left e bytes = record {
      is = record { call = call; reply = reply };
      most = fit.0.most room (index_path d.host d.writer) (40 * (whole_ - left)) (40 * next_read left) bytes call reply;
    } in
    after_read room d log whole_ left e rest bytes old new ended within r (later rest fit.1) g.2

reads_run : (fuel room : ℕ) (d : Listed) (log whole_ left : ℕ) (ended : Bool) (old new : Tail) (calls : List Event) → left ≤ fuel → left ≤ whole_ → AllByRecursion FitsRead (asked_all calls)
    → AreCallsOf (asking (reads_left room d log whole_ left ended old)) calls (Ok new) → HasReadOn room d log (whole_ - left) whole_ ended calls old new
reads_run fuel room d log whole_ zero ended old new calls enough within fit made =
    record { content = []; reads = subst (λ es. AreReads (in_room room d) (whole_ - 0) whole_ (asked_all es) []) (sym made.0) (omega arith, refl); tells = subst (IsReadOn log ended [] old) (same_ok old new made.1) (nothing_read log ended old) }
reads_run zero room d log whole_ (suc k) ended old new calls enough within fit made = absurd (omega (arith, enough))
reads_run (suc fuel) room d log whole_ (suc k) ended old new calls enough within fit made =
    next_run room d log whole_ (suc k) ended old new calls within fit
    (λ rest fits past mid last rest_made. reads_run fuel room d log whole_ (suc k - next_read (suc k)) past mid last rest (omega (arith, enough)) (omega (arith, within)) fits rest_made)
    (subst (λ p. AreCallsOf (asking p) calls (Ok new)) (reads_going_on room log whole_ (suc k) ended d old (omega arith)) made)

-- ---- the lengths

log_given : (reply : Reply) (log : ℕ) → log_length_in reply ≡ Some log → (reply ≡ Looked (answer.Number log)) ⊎ ((reply ≡ Looked answer.Absent) × (log ≡ 0))
log_given (Looked (answer.Number told)) log e = let same : told ≡ log = cc in inl (ap (λ n. Looked (answer.Number n)) same)
log_given (Looked answer.Absent) log e = let same : 0 ≡ log = cc in inr (refl, sym same)
log_given (Looked answer) log e = absurd (cc)
log_given reply log e = absurd (cc)

at_least : (a b : ℕ) → nat_lt a b ≡ false → b ≤ a
at_least a b e = grind (arith, nat_tests)

-- What was read of an index dropping was gathered so, and its entries are pieces of the file.
pub record HasTail (room : ℕ) (d : Listed) (cover : Cover) (calls : List Event) (tail : Tail) : Type 0 where
  pub reads : GathersIndex (gathered_of room d cover tail) (asked_all calls)
  pub longer : Longer tail.entries (no_tail cover) tail

-- after both lengths
tail_read : (room : ℕ) (d : Listed) (cover : Cover) (told log : ℕ) (tail : Tail) (first second : Event) (rest : List Event) → IsLength (in_room room d) told (asked_in first) → IsLogLength (in_room room d) log (asked_in second) → cover.count ≤ told / 40
    → HasReadOn room d log (told / 40 - (told / 40 - cover.count)) (told / 40) false rest (no_tail cover) tail → HasTail room d cover (first ∷ second ∷ rest) tail
tail_read room d cover told log tail first second rest index_length log_length few h =
    let from : told / 40 - (told / 40 - cover.count) ≡ cover.count = omega (arith, few) in
    let longer : Longer (within_log log (whole h.content) h.content) (no_tail cover) tail = h.tells.goes_on refl in
    let entries : tail.entries ≡ within_log log (whole h.content) h.content = longer.entries in
    record {
      reads = record {
        first = asked_in first;
        second = asked_in second;
        reads = asked_all rest;
        calls = refl;
        told = told;
        log = log;
        content = h.content;
        index_length = index_length;
        log_length = log_length;
        bytes = subst (λ k. AreReads (in_room room d) k (told / 40) (asked_all rest) h.content) from h.reads;
        tail = entries;
        count = ap (λ (c : Cover). c.count) longer.cover ∙ ap (λ es. cover.count + length es) (sym entries);
      };
      longer = subst (λ es. Longer es (no_tail cover) tail) (sym entries) longer;
    }

pub tail_run : (room : ℕ) (d : Listed) (cover : Cover) (tail : Tail) (calls : List Event) → AllByRecursion FitsRead (asked_all calls) → AreCallsOf (asking (tail_program room d (no_tail cover))) calls (Ok tail) → HasTail room d cover calls tail
tail_run room d cover tail [] fit made = absurd made
tail_run room d cover tail (first ∷ calls) fit (asked, made) =
    let g = given_so (number_in first.reply) _ _ calls tail made in
    let told : ℕ = g.0 in
    let p = passed_so (nat_lt (told / 40) cover.count) _ _ calls tail g.2 in
    let index_length : IsLength (in_room room d) told (asked_in first) = record { call = ap (λ (a : Ask). a.call) asked; reply = number_given first.reply told g.1 } in
    logged calls fit.1 index_length (at_least (told / 40) cover.count p.0) p.1
  where
    logged : {told : ℕ} (calls : List Event) → AllByRecursion FitsRead (asked_all calls) → IsLength (in_room room d) told (asked_in first) → cover.count ≤ told / 40 → AreCallsOf (asking (log_then room d (no_tail cover) (told / 40))) calls (Ok tail) → HasTail room d cover (first ∷ calls) tail
    logged [] fit index_length few made = absurd made
    logged {told} (second ∷ rest) fit index_length few (asked, made) =
        let g = given_so (log_length_in second.reply) _ _ rest tail made in
        let log : ℕ = g.0 in
        let p = passed_so (nat_lt log cover.bytes) _ _ rest tail g.2 in
        let log_length : IsLogLength (in_room room d) log (asked_in second) = record { call = ap (λ (a : Ask). a.call) asked; reply = log_given second.reply log g.1 } in
        tail_read room d cover told log tail first second rest index_length log_length few
        (reads_run (told / 40 - cover.count) room d log (told / 40) (told / 40 - cover.count) false (no_tail cover) tail rest (omega arith) (omega arith) fit.1 p.1)
