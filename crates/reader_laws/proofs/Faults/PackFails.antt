-- The program of a packed index fails only by the store.
use Rattle.std.proofs.Common.{◌≡◌, ℕ, zero, suc, ◌+◌, ◌-◌, ◌≤◌, nat_le, nat_eq, Bool, true, false, List, [], ◌∷◌, ◌++◌, length, take, drop, Option, Some, None, refl, ap, sym, ◌∙◌, inl, inr, subst, arith}
use Rattle.std.specs.Prelude.{Result, Ok, Err, if◌then◌else◌}
use Rattle.std.proofs.lemmas.Bool.{and_from, cases_Bool, cond-true, cond-false}
use Rattle.std.proofs.lemmas.Bool.Decides.{nat_tests}
use Rattle.std.proofs.lemmas.List.{take-append-drop}
use Rattle.plfs_types.specs.declared.entries.Cover.{Cover}
use Rattle.plfs_types.specs.declared.entries.Entry.{Entry}
use Rattle.plfs_types.specs.declared.names.Path.{Path}
use Rattle.container_layout.specs.declared.items.Item.TheVariants.{Packed}
use Rattle.container_layout.specs.Items.{IsItem}
use Rattle.index_entry.specs.Entries.{AreEntriesOf, logged, last_stamp}
use Rattle.index_entry.specs.Spelling.{number_in as number_at}
use Rattle.index_pack.specs.Spelling.{Packs}
use Rattle.mount_model.specs.declared.row.Making.{Making}
use Rattle.mount_model.specs.declared.row.Making.TheVariants as making
use Rattle.mount_model.specs.Paths.{installed_item, installed_of}
use Rattle.mount_model.specs.State.{State}
use Rattle.mount_model.specs.History.{Event}
use Rattle.mount_sound.specs.Ledger.{entries_in}
use Rattle.mount_sound.specs.Owed.{IsLawful}
use Rattle.mount_sound.proofs.Facts.{in_order_take, take_less}
use Rattle.mount_model.specs.Program.{done}
use Rattle.turn_object.specs.Callers.{made_by}
use Rattle.mount_model.specs.declared.stuck.Stuck.{Stuck}
use Rattle.mount_model.specs.Running.{Runs}
use Rattle.mount_model.specs.FlowReplies.{Tries, given, on_ok, damage, bytes_in, trouble}
use Rattle.mount_model.proofs.Flows.Facts.{runs_in_two}
use Rattle.index_reader.specs.declared.listing.Dropping.{Dropping as Listed}
use Rattle.index_reader.specs.declared.entries.Tail.{Tail}
use Rattle.index_reader.specs.FileReads.{next_part, parts_of, parts, bytes_left}
use Rattle.index_reader.specs.PackRules.{pack_told}
use Rattle.index_reader.specs.Packs.{no_tail, packed_path, head_fault, begins_covered, tail_past, writer_of, pack_tail, pack_rest, if_headed, head_then, pack_program, run_place}
use Rattle.index_reader.specs.Replies.{number_in}
use Rattle.index_reader.proofs.Facts.{pack_told-packs}
use Rattle.reader_laws.specs.Moments.{Moment, IsSoundAt, Dropping, IsNamed, Stood, Grows, HadItem, file_in_room, file_told, file_then, landed_by, landed, issued_by, moment_after, next_moment}
use Rattle.reader_laws.specs.Seen.{IsSeen}
use Rattle.reader_laws.specs.Packs.{pack_of}
use Rattle.reader_laws.proofs.Gathered.Facts.{grows_after, held_then, landed_is_first, legal_first, read_ends, seen, stood_grows}
use Rattle.reader_laws.specs.Failing.{FailsByStore, IsContainerAt}
use Rattle.reader_laws.specs.Sharing.{in_room}
use Rattle.reader_laws.proofs.Calls.Calling.{calls_are}
use Rattle.reader_laws.proofs.Faults.Failing.{here_fails, later_fails}
use Rattle.reader_laws.proofs.Containers.FileRuns.{HasBytes, parts_run}
use Rattle.reader_laws.proofs.Calls.Histories.{first_of}
use Rattle.reader_laws.proofs.Containers.Listings.{FromFirst, from_first}
use Rattle.reader_laws.proofs.Soundness.LookEnds.{HasContainer, container_of, container_later, length_ends}
use Rattle.reader_laws.proofs.Droppings.PackFacts.{pack_item, had_pack, long_enough, no_fault}
use Rattle.reader_laws.proofs.Faults.TailFails.{IsCoverOf, housed, stood_container}
use Rattle.reader_laws.proofs.Calls.Troubles.{answered, fails_first}

no_ok : {R : Type 0} (x : R) (why : Stuck) → ◌≡◌ {A = Result R Stuck} (Ok x) (Err why) → ⊥
no_ok x why e = cc

same_trouble : {R : Type 0} (a b : Stuck) → ◌≡◌ {A = Result R Stuck} (Err a) (Err b) → a ≡ b
same_trouble a b e = cc

-- ---- the bytes of a file that stays as it is

-- more is read where a Read was full
on_full : (caller : ℕ) (full : Bool) (next : Tries (List ℕ)) (out : List ℕ) (later : List Event) (why : Stuck) (state : State) → (Runs caller next later (Err why) → FailsByStore caller state later why) → Runs caller (if full then next else done (Ok out)) later (Err why) → FailsByStore caller state later why
on_full caller true next out later why state on runs = on runs
on_full caller false next out later why state on runs = absurd (no_ok out why runs.1)

pub parts_fail : (caller : ℕ) (makes : Making) (room id : ℕ) (bytes : List ℕ) (n : ℕ) (m : Moment) (told_ left : ℕ) (sofar : List ℕ) (events : List Event) (why : Stuck) → IsItem (installed_item makes id) → IsSoundAt m → IsContainerAt m room → file_then m room (installed_of makes id) ≡ Some bytes → IsLawful m.state events
    → Runs caller (parts n room (installed_of makes id) told_ left sofar) events (Err why) → FailsByStore caller m.state events why
parts_fail caller makes room id bytes zero m told_ left sofar events why is s container there lawful runs = absurd (no_ok sofar why runs.1)
parts_fail caller makes room id bytes (suc n) m told_ left sofar events why is s container there lawful runs =
    let path : Path = installed_of makes id in
    let at : ℕ = told_ - left in
    let len : ℕ = next_part left in
    let got : List ℕ = take len (drop at bytes) in
    let then_ : List ℕ → Tries (List ℕ) = λ more. if nat_le len (length more) then parts n room path told_ (left - len) (sofar ++ more) else done (Ok (sofar ++ more)) in
    let f = first_of caller _ _ events (Err why) runs in
    let e : Event = f.event in
    let p : FromFirst m f.before e f.later = from_first m events f.before e f.later f.split lawful s in
    let here : Moment = moment_after m f.before in
    let goes : Grows m here = grows_after m f.before (legal_first m f.before (e ∷ f.later) (subst (IsLawful m.state) f.split lawful)) s in
    let held : IsContainerAt here room = container_later m here room goes container in
    let c : HasContainer here p.here room = container_of here p.here room held in
    let now : file_then here room path ≡ Some bytes = goes.indices makes room id bytes is there in
    let onward : Moment = next_moment here e in
    let step : Grows here onward = grows_after here (e ∷ []) (legal_first here (e ∷ []) f.later p.rest) p.here in
    elim (read_ends here p.here e.caller room path at len bytes e.reply e.after c.other now (answered here.state e.caller _ e.ask e.reply e.after f.asked p.rest.1)) as (λ _. FailsByStore caller m.state events why) [
      | inl reads ↦
          later_fails caller m events f.before e f.later why f.split lawful
          (on_full caller (nat_le len (length got)) (parts n room path told_ (left - len) (sofar ++ got)) (sofar ++ got) f.later why onward.state
          (λ on. parts_fail caller makes room id bytes n onward told_ (left - len) (sofar ++ got) f.later why is p.next (container_later here onward room step held) (step.indices makes room id bytes is now) p.rest.2 on)
          (subst (λ reply. Runs caller (given (bytes_in reply) (trouble path reply) then_) f.later (Err why)) reads f.rest))
      | inr (inl (fault, risen)) ↦ here_fails caller m events f.before e f.later why f.split lawful bytes_in path then_ f.by_caller refl refl (inl (fault, risen)) f.rest
      | inr (inr (memory, same)) ↦ here_fails caller m events f.before e f.later why f.split lawful bytes_in path then_ f.by_caller refl refl (inr memory) f.rest
    ]

-- ---- what a packed index gives behind a right cover

-- The bytes are a packed index whose first entries the cover tells of.
record IsPackFor (d : Dropping) (cover : Cover) (bytes : List ℕ) : Type 0 where
  pub entries : List Entry
  pub packs : Packs bytes entries
  pub few : cover.count ≤ length entries
  pub gives : pack_tail (pack_of d) cover bytes (pack_told bytes) ≡ Ok (tail_past cover entries)

same : (a b : ℕ) → a ≡ b → nat_eq a b ≡ true
same a b e = grind (arith, nat_tests)

-- they are the writer's
own : (writer : ℕ) (entries : List Entry) → 1 ≤ length entries → AreEntriesOf writer 0 0 entries → writer_of entries ≡ writer
own writer [] some order = absurd (omega (arith, some))
own writer (e ∷ entries) some order = order.0.owner

from_none : (n : ℕ) → 0 + n ≡ n
from_none n = omega arith

pack_for : (m : Moment) (s : IsSoundAt m) (d : Dropping) (cover : Cover) (bytes : List ℕ) → IsNamed d → file_then m d.room (pack_of d) ≡ Some bytes → IsCoverOf m d cover → IsPackFor d cover bytes
pack_for m s d cover bytes named there r =
    let path : Path = pack_of d in
    let entries : List Entry = landed_by m d in
    let packs : Packs bytes entries = had_pack m s d bytes named there in
    let es : List Entry = entries_in (issued_by m d) in
    let first : entries ≡ take (landed m d) es = landed_is_first m s d named in
    let front : take cover.count entries ≡ take cover.count es = ap (take cover.count) first ∙ take_less cover.count (landed m d) es r.had in
    let order : AreEntriesOf d.writer 0 0 entries = subst (AreEntriesOf d.writer 0 0) (sym first) (in_order_take (landed m d) d.writer 0 0 es (s.sound.writes d.room d.writer).in_order) in
    let writer : writer_of entries ≡ cover.writer = own d.writer entries packs.valid.counted.0 order ∙ sym (ap (λ (c : Cover). c.writer) r.tells) in
    let sum : logged (take cover.count entries) ≡ cover.bytes = ap logged front ∙ sym (from_none (logged (take cover.count es))) ∙ sym (ap (λ (c : Cover). c.bytes) r.tells) in
    let latest : last_stamp 0 (take cover.count entries) ≡ cover.stamp = ap (last_stamp 0) front ∙ sym (ap (λ (c : Cover). c.stamp) r.tells) in
    let begins : begins_covered cover entries ≡ true = and_from (nat_eq (logged (take cover.count entries)) cover.bytes) (nat_eq (last_stamp 0 (take cover.count entries)) cover.stamp) (same (logged (take cover.count entries)) cover.bytes sum) (same (last_stamp 0 (take cover.count entries)) cover.stamp latest) in
    let inner : Result Tail Stuck = if begins_covered cover entries then Ok (tail_past cover entries) else Err (damage path (run_place cover.count bytes)) in
    let outer : Result Tail Stuck = Err (damage path 24) in
    record {
      entries = entries;
      packs = packs;
      few = r.had;
      gives = ap (pack_tail path cover bytes) (pack_told-packs bytes entries packs)
          ∙ cond-true (nat_eq (writer_of entries) cover.writer) inner outer (same (writer_of entries) cover.writer writer)
          ∙ cond-true (begins_covered cover entries) (Ok (tail_past cover entries)) (Err (damage path (run_place cover.count bytes))) begins;
    }

-- ---- its program

none_dropped : (bytes : List ℕ) → drop 0 bytes ≡ bytes
none_dropped [] = refl
none_dropped (b ∷ bytes) = refl

one_file : (a b : List ℕ) (o : Option (List ℕ)) → o ≡ Some a → o ≡ Some b → a ≡ b
one_file a b o p q = cc

not_both : (bytes : List ℕ) (o : Option (List ℕ)) → o ≡ Some bytes → o ≡ None → ⊥
not_both bytes o p q = let clash : Some bytes ≡ None = sym p ∙ q in cc

module _ (caller room : ℕ) (d : Listed) (named : IsNamed (in_room room d)) (cover : Cover) (bytes : List ℕ) (pack : IsPackFor (in_room room d) cover bytes) where
  abbrev its : Dropping
  its = in_room room d

  abbrev path_ : Path
  path_ = packed_path d.host d.writer

  abbrev finished : Tries Tail
  finished = done (Ok (no_tail cover))

  abbrev then_ : List ℕ → Tries Tail
  then_ b = done (pack_tail path_ cover b (pack_told b))

  -- what was read of the rest is right, or couldn't be read
  rest_fails : (m : Moment) (events : List Event) (why : Stuck) → IsSoundAt m → IsContainerAt m room → file_then m room (pack_of its) ≡ Some bytes → IsLawful m.state events → Runs caller (pack_rest room path_ cover (length bytes) (take 24 bytes)) events (Err why) → FailsByStore caller m.state events why
  rest_fails m events why s container there lawful runs =
      let size : ℕ = length bytes in
      let two = runs_in_two caller (bytes_left room path_ size (size - 24) (take 24 bytes)) (on_ok then_) events (Err why) runs in
      let both : IsLawful m.state (two.first ++ two.rest) = subst (IsLawful m.state) two.all lawful in
      subst (λ es. FailsByStore caller m.state es why) (sym two.all) (by_value two.value two.first two.rest both two.runs two.then_runs)
    where
      by_value : (value : Result (List ℕ) Stuck) (first rest : List Event) → IsLawful m.state (first ++ rest) → Runs caller (bytes_left room path_ (length bytes) (length bytes - 24) (take 24 bytes)) first value → Runs caller (on_ok then_ value) rest (Err why) → FailsByStore caller m.state (first ++ rest) why
      by_value (Err other) first rest both mine ends =
          let is : other ≡ why = same_trouble {R = Tail} other why ends.1 in
          fails_first caller m.state first rest why both
          (parts_fail caller (making.Pack d.host d.writer) room 0 bytes (parts_of (length bytes - 24)) m (length bytes) (length bytes - 24) (take 24 bytes) first why (pack_item its named) s container there (legal_first m first rest both)
          (subst (λ w. Runs caller (bytes_left room path_ (length bytes) (length bytes - 24) (take 24 bytes)) first (Err w)) is mine))
      by_value (Ok content) first rest both mine ends =
          let l1 = legal_first m first rest both in
          let read : HasBytes room path_ (length bytes - (length bytes - 24)) (length bytes) (made_by caller first) bytes (take 24 bytes) content = parts_run caller (making.Pack d.host d.writer) room 0 (parts_of (length bytes - 24)) (length bytes) (length bytes - 24) m (moment_after m first) (made_by caller first) bytes (take 24 bytes) content (pack_item its named) there refl (omega arith) refl
          (subst (λ a. IsSeen caller m a (moment_after m first)) (calls_are caller first) (seen caller m first l1 s)) mine in
          let begins : length bytes - (length bytes - 24) ≡ 24 = omega (arith, long_enough bytes pack.entries pack.packs) in
          let all : content ≡ bytes = read.whole ∙ ap (λ n. take 24 bytes ++ drop n bytes) begins ∙ take-append-drop 24 bytes in
          let gives : pack_tail path_ cover content (pack_told content) ≡ Ok (tail_past cover pack.entries) = ap (λ b. pack_tail path_ cover b (pack_told b)) all ∙ pack.gives in
          absurd (no_ok (tail_past cover pack.entries) why (sym gives ∙ ends.1))

  -- its head is right
  head_fails : (m : Moment) (head : List ℕ) (events : List Event) (why : Stuck) → head ≡ take 24 bytes → IsSoundAt m → IsContainerAt m room → file_then m room (pack_of its) ≡ Some bytes → IsLawful m.state events
      → Runs caller (if_headed room path_ cover (length bytes) head (head_fault (length bytes) cover.count head)) events (Err why) → FailsByStore caller m.state events why
  head_fails m head events why is s container there lawful runs =
      let told_ : ℕ = length bytes in
      let first : List ℕ = take 24 bytes in
      let at = subst (λ h. Runs caller (if_headed room path_ cover told_ h (head_fault told_ cover.count h)) events (Err why)) is runs in
      let on = subst (λ o. Runs caller (if_headed room path_ cover told_ first o) events (Err why)) (no_fault bytes pack.entries pack.packs cover.count pack.few) at in
      elim (cases_Bool (nat_eq (number_at 8 first) cover.count)) as (λ _. FailsByStore caller m.state events why) [
        | inl all ↦ absurd (no_ok (no_tail cover) why (subst (λ p. Runs caller p events (Err why)) (cond-true (nat_eq (number_at 8 first) cover.count) finished (pack_rest room path_ cover told_ first) all) on).1)
        | inr some ↦ rest_fails m events why s container there lawful (subst (λ p. Runs caller p events (Err why)) (cond-false (nat_eq (number_at 8 first) cover.count) finished (pack_rest room path_ cover told_ first) some) on)
      ]

  after_length : (m : Moment) (events : List Event) (why : Stuck) → IsSoundAt m → IsContainerAt m room → file_then m room (pack_of its) ≡ Some bytes → IsLawful m.state events → Runs caller (head_then room path_ cover (length bytes)) events (Err why) → FailsByStore caller m.state events why
  after_length m events why s container there lawful runs =
      let f = first_of caller _ _ events (Err why) runs in
      let e : Event = f.event in
      let next : List ℕ → Tries Tail = λ head. if_headed room path_ cover (length bytes) head (head_fault (length bytes) cover.count head) in
      let p : FromFirst m f.before e f.later = from_first m events f.before e f.later f.split lawful s in
      let here : Moment = moment_after m f.before in
      let goes : Grows m here = grows_after m f.before (legal_first m f.before (e ∷ f.later) (subst (IsLawful m.state) f.split lawful)) s in
      let held : IsContainerAt here room = container_later m here room goes container in
      let c : HasContainer here p.here room = container_of here p.here room held in
      let now : file_then here room path_ ≡ Some bytes = goes.indices (making.Pack d.host d.writer) room 0 bytes (pack_item its named) there in
      let onward : Moment = next_moment here e in
      let step : Grows here onward = grows_after here (e ∷ []) (legal_first here (e ∷ []) f.later p.rest) p.here in
      elim (read_ends here p.here e.caller room path_ 0 24 bytes e.reply e.after c.other now (answered here.state e.caller _ e.ask e.reply e.after f.asked p.rest.1)) as (λ _. FailsByStore caller m.state events why) [
        | inl reads ↦
            later_fails caller m events f.before e f.later why f.split lawful
            (head_fails onward (take 24 (drop 0 bytes)) f.later why (ap (take 24) (none_dropped bytes)) p.next (container_later here onward room step held) (step.indices (making.Pack d.host d.writer) room 0 bytes (pack_item its named) now) p.rest.2
            (subst (λ reply. Runs caller (given (bytes_in reply) (trouble path_ reply) next) f.later (Err why)) reads f.rest))
        | inr (inl (fault, risen)) ↦ here_fails caller m events f.before e f.later why f.split lawful bytes_in path_ next f.by_caller refl refl (inl (fault, risen)) f.rest
        | inr (inr (memory, unchanged)) ↦ here_fails caller m events f.before e f.later why f.split lawful bytes_in path_ next f.by_caller refl refl (inr memory) f.rest
      ]

  program_fails : (m : Moment) (events : List Event) (why : Stuck) → IsSoundAt m → Stood m its → file_then m room (pack_of its) ≡ Some bytes → IsLawful m.state events → Runs caller (pack_program room path_ cover) events (Err why) → FailsByStore caller m.state events why
  program_fails m events why s stood there lawful runs =
      let f = first_of caller _ _ events (Err why) runs in
      let e : Event = f.event in
      let next : ℕ → Tries Tail = head_then room path_ cover in
      let p : FromFirst m f.before e f.later = from_first m events f.before e f.later f.split lawful s in
      let here : Moment = moment_after m f.before in
      let goes : Grows m here = grows_after m f.before (legal_first m f.before (e ∷ f.later) (subst (IsLawful m.state) f.split lawful)) s in
      let stands : Stood here its = stood_grows m here its goes stood in
      let held : IsContainerAt here room = stood_container here p.here its stands in
      let c : HasContainer here p.here room = container_of here p.here room held in
      let has = housed here p.here its stands c in
      let now : file_then here room path_ ≡ Some bytes = goes.indices (making.Pack d.host d.writer) room 0 bytes (pack_item its named) there in
      let onward : Moment = next_moment here e in
      let step : Grows here onward = grows_after here (e ∷ []) (legal_first here (e ∷ []) f.later p.rest) p.here in
      elim (length_ends here p.here e.caller room path_ e.reply e.after c has.0 (answered here.state e.caller _ e.ask e.reply e.after f.asked p.rest.1)) as (λ _. FailsByStore caller m.state events why) [
        | inl (size, file, long, is) ↦
            let told_ : size ≡ length bytes = sym long ∙ ap length (one_file file.bytes bytes (file_then here room path_) (held_then here p.here room path_ file) now) in
            later_fails caller m events f.before e f.later why f.split lawful
            (after_length onward f.later why p.next (container_later here onward room step held) (step.indices (making.Pack d.host d.writer) room 0 bytes (pack_item its named) now) p.rest.2
            (subst (λ n. Runs caller (head_then room path_ cover n) f.later (Err why)) told_ (subst (λ reply. Runs caller (given (number_in reply) (trouble path_ reply) next) f.later (Err why)) is f.rest)))
        | inr (inl (none, is)) ↦ absurd (not_both bytes (file_then here room path_) now (ap (λ o. file_told o room path_) p.here.shape.told ∙ ap (λ o. file_in_room o path_) c.there ∙ none))
        | inr (inr fails) ↦ here_fails caller m events f.before e f.later why f.split lawful number_in path_ next f.by_caller refl refl fails f.rest
      ]

-- The program of a packed index that stands, behind a cover of entries that have landed.
pub pack_fails : (caller room : ℕ) (d : Listed) (named : IsNamed (in_room room d)) (m : Moment) (cover : Cover) (events : List Event) (why : Stuck) → IsSoundAt m → Stood m (in_room room d) → HadItem m room (Packed d.host d.writer) → IsLawful m.state events → IsCoverOf m (in_room room d) cover
    → Runs caller (pack_program room (packed_path d.host d.writer) cover) events (Err why) → FailsByStore caller m.state events why
pack_fails caller room d named m cover events why s stood had lawful r runs =
    program_fails caller room d named cover had.bytes (pack_for m s (in_room room d) cover had.bytes named had.there r) m events why s stood had.there lawful runs
