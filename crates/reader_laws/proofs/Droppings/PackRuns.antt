-- Who runs the program of a packed index has gathered its writer.
use Rattle.std.proofs.Common.{◌≡◌, ◌≢◌, ℕ, ◌+◌, ◌-◌, ◌≤◌, nat_lt, nat_eq, true, false, List, [], ◌∷◌, ◌++◌, length, take, drop, Option, Some, refl, ap, sym, ◌∙◌, inl, inr, subst, arith}
use Rattle.std.specs.Prelude.{Result, Ok, Err, if◌then◌else◌}
use Rattle.std.proofs.lemmas.Bool.{and_parts, cases_Bool, cond-true, cond-false}
use Rattle.std.proofs.lemmas.Bool.Decides.{nat_tests}
use Rattle.std.proofs.lemmas.List.{append-nil, take-append-drop}
use Rattle.plfs_types.specs.declared.entries.Cover.{Cover}
use Rattle.plfs_types.specs.declared.entries.Entry.{Entry}
use Rattle.plfs_types.specs.declared.names.Path.{Path}
use Rattle.plain_file.proofs.Facts.{cases_Option}
use Rattle.container_layout.specs.declared.items.Item.TheVariants.{Packed}
use Rattle.container_layout.specs.Items.{IsItem}
use Rattle.index_entry.specs.Entries.{logged, last_stamp}
use Rattle.index_entry.specs.Spelling.{number_in as number_at}
use Rattle.index_pack.specs.Spelling.{Packs}
use Rattle.mount_model.specs.declared.call.Ask.{Ask}
use Rattle.mount_model.specs.declared.row.Making.TheVariants as making
use Rattle.mount_model.specs.History.{Event}
use Rattle.mount_model.specs.Program.{done}
use Rattle.turn_object.specs.Callers.{made_by}
use Rattle.mount_model.specs.declared.stuck.Stuck.{Stuck}
use Rattle.mount_model.specs.Running.{Runs}
use Rattle.mount_model.specs.FlowReplies.{Tries, on_ok, damage, bytes_in}
use Rattle.mount_model.proofs.Flows.Facts.{runs_in_two}
use Rattle.index_reader.specs.declared.listing.Dropping.{Dropping as Listed}
use Rattle.index_reader.specs.declared.entries.Tail.{Tail}
use Rattle.index_reader.specs.FileReads.{parts_of, bytes_left}
use Rattle.index_reader.specs.PackRules.{pack_told}
use Rattle.index_reader.specs.Packs.{no_tail, packed_path, head_fault, begins_covered, tail_past, writer_of, pack_tail, pack_rest, if_headed, pack_program, run_place}
use Rattle.index_reader.specs.Replies.{number_in}
use Rattle.index_reader.proofs.Facts.{pack_told-packs}
use Rattle.reader_laws.specs.Moments.{Moment, Dropping, IsNamed, file_then, landed_by}
use Rattle.reader_laws.specs.Seen.{Asked, asked_in, calls_of, IsSeen, IsSeenCall}
use Rattle.reader_laws.specs.Files.{AreFileReads}
use Rattle.reader_laws.specs.Packs.{TellsCount, ReadsRest, ReadsPack, pack_of}
use Rattle.reader_laws.proofs.Gathered.Facts.{alike, answers_as, length_told, read_told}
use Rattle.reader_laws.specs.Sharing.{in_room}
use Rattle.reader_laws.proofs.Calls.Calling.{asked_all, calls_are, calls_append, given_so, same_ok, number_given, bytes_given}
use Rattle.reader_laws.proofs.Droppings.Checking.{Longer}
use Rattle.reader_laws.proofs.Containers.FileRuns.{HasBytes, parts_run}
use Rattle.reader_laws.proofs.Containers.FlatRuns.{part_so}
use Rattle.reader_laws.proofs.Calls.Histories.{first_of, calls_from}
use Rattle.reader_laws.proofs.Droppings.PackFacts.{pack_item, had_pack, tells, count_told, long_enough, not_fewer, past_longer}

-- ---- what its bytes give

never : {X : Type 0} (x : X) (why : Stuck) → ◌≡◌ {A = Result X Stuck} (Err why) (Ok x) → ⊥
never x why e = cc

-- what was made of the entries of a packed index whose first are the covered ones
pub record IsPast (cover : Cover) (entries : List Entry) (tail : Tail) : Type 0 where
  pub is : tail_past cover entries ≡ tail
  pub sum : logged (take cover.count entries) ≡ cover.bytes
  pub latest : last_stamp 0 (take cover.count entries) ≡ cover.stamp

tail_so : (path : Path) (cover : Cover) (bytes : List ℕ) (entries : List Entry) (tail : Tail) → pack_tail path cover bytes (Ok entries) ≡ Ok tail → IsPast cover entries tail
tail_so path cover bytes entries tail made = elim (cases_Bool (nat_eq (writer_of entries) cover.writer)) [
  | inl own ↦ by_covered (sym (cond-true (nat_eq (writer_of entries) cover.writer) _ (Err (damage path 24)) own) ∙ made)
  | inr other ↦ absurd (never tail (damage path 24) (sym (cond-false (nat_eq (writer_of entries) cover.writer) (if begins_covered cover entries then Ok (tail_past cover entries) else Err (damage path (run_place cover.count bytes))) (Err (damage path 24)) other) ∙ made))
]
  where
    by_covered : (if begins_covered cover entries then Ok (tail_past cover entries) else Err (damage path (run_place cover.count bytes))) ≡ Ok tail → IsPast cover entries tail
    by_covered e = elim (cases_Bool (begins_covered cover entries)) [
      | inl covered ↦
          let both = and_parts (nat_eq (logged (take cover.count entries)) cover.bytes) (nat_eq (last_stamp 0 (take cover.count entries)) cover.stamp) covered in
          record {
            is = same_ok (tail_past cover entries) tail (sym (cond-true (begins_covered cover entries) (Ok (tail_past cover entries)) (Err (damage path (run_place cover.count bytes))) covered) ∙ e);
            sum = alike (logged (take cover.count entries)) cover.bytes both.0;
            latest = alike (last_stamp 0 (take cover.count entries)) cover.stamp both.1;
          }
      | inr uncovered ↦ absurd (never tail (damage path (run_place cover.count bytes)) (sym (cond-false (begins_covered cover entries) (Ok (tail_past cover entries)) (Err (damage path (run_place cover.count bytes))) uncovered) ∙ e))
    ]

-- ---- behind the head

-- What was read of a packed index behind its head.
record HasRest (room : ℕ) (d : Listed) (cover : Cover) (told_ : ℕ) (head : List ℕ) (calls : List Asked) (tail : Tail) : Type 0 where
  pub tells : TellsCount head tail.cover.count
  pub rest : ReadsRest (in_room room d) told_ tail.cover.count cover.count head calls tail.entries
  pub longer : Longer tail.entries (no_tail cover) tail

-- it ends well with this
abbrev finished : Tail → Tries Tail
finished tail = done (Ok tail)

at_least : (a b : ℕ) → nat_lt a b ≡ false → b ≤ a
at_least a b e = grind (arith, nat_tests)

unlike : (a b n : ℕ) → nat_eq a b ≡ false → a ≡ n → n ≢ b
unlike a b n e same both = let yes_ : nat_eq a b ≡ true = grind (arith, nat_tests) in let clash : true ≡ false = sym yes_ ∙ e in cc

none_more : (n : ℕ) → n ≡ n + 0
none_more n = omega arith

module _ (caller room : ℕ) (d : Listed) (cover : Cover) (named : IsNamed (in_room room d)) where
  abbrev its : Dropping
  its = in_room room d

  -- all are covered
  all_covered : (told_ : ℕ) (bytes head : List ℕ) (entries : List Entry) (later : List Event) (tail : Tail) → Packs bytes entries → head ≡ take 24 bytes → nat_eq (number_at 8 head) cover.count ≡ true → Runs caller (finished (no_tail cover)) later (Ok tail)
      → HasRest room d cover told_ head (calls_of caller later) tail
  all_covered told_ bytes head entries later tail packs is all made =
      let count : length entries ≡ cover.count = sym (count_told bytes entries packs) ∙ sym (ap (number_at 8) is) ∙ alike (number_at 8 head) cover.count all in
      let here : HasRest room d cover told_ head (calls_of caller later) (no_tail cover) = record {
        tells = subst (TellsCount head) count (subst (λ h. TellsCount h (length entries)) (sym is) (tells bytes entries packs));
        rest = inl (refl, calls_are caller later ∙ ap asked_all made.0, refl);
        longer = record { entries = refl; cover = λ i. record { writer = cover.writer; count = none_more cover.count i; bytes = none_more cover.bytes i; stamp = cover.stamp }; pieces = tt };
      } in
      subst (HasRest room d cover told_ head (calls_of caller later)) (same_ok (no_tail cover) tail made.1) here

  -- some aren't, and the rest is read
  rest_run : (start end : Moment) (told_ : ℕ) (bytes head : List ℕ) (entries : List Entry) (later : List Event) (tail : Tail) → Packs bytes entries → head ≡ take 24 bytes → length bytes ≡ told_ → file_then start room (pack_of its) ≡ Some bytes → cover.count ≤ length entries → nat_eq (number_at 8 head) cover.count ≡ false
      → IsSeen caller start (calls_of caller later) end → Runs caller (pack_rest room (packed_path d.host d.writer) cover told_ head) later (Ok tail) → HasRest room d cover told_ head (calls_of caller later) tail
  rest_run start end told_ bytes head entries later tail packs is size there few some seen runs =
      let path : Path = packed_path d.host d.writer in
      let then_ : List ℕ → Tries Tail = λ b. done (pack_tail path cover b (pack_told b)) in
      let two = runs_in_two caller (bytes_left room path told_ (told_ - 24) head) (on_ok then_) later (Ok tail) runs in
      let v = part_so then_ two.value (made_by caller two.rest) tail two.then_runs in
      let content : List ℕ = v.0 in
      let none : calls_of caller two.rest ≡ [] = calls_are caller two.rest ∙ ap asked_all v.2.0 in
      let calls : calls_of caller later ≡ asked_all (made_by caller two.first) =
      ap (calls_of caller) two.all ∙ calls_append caller two.first two.rest ∙ ap (λ l. calls_of caller two.first ++ l) none ∙ append_nil (calls_of caller two.first) ∙ calls_are caller two.first in
      let read : HasBytes room path (told_ - (told_ - 24)) told_ (made_by caller two.first) bytes head content = parts_run caller (making.Pack d.host d.writer) room 0 (parts_of (told_ - 24)) told_ (told_ - 24) start end (made_by caller two.first) bytes head content (pack_item its named) there size (omega arith) refl
      (subst (λ a. IsSeen caller start a end) calls seen) (subst (λ r. Runs caller (bytes_left room path told_ (told_ - 24) head) two.first r) v.1 two.runs) in
      let begins : told_ - (told_ - 24) ≡ 24 = omega (arith, size, long_enough bytes entries packs) in
      let whole_ : head ++ drop 24 bytes ≡ bytes = ap (λ h. h ++ drop 24 bytes) is ∙ take-append-drop 24 bytes in
      let all : content ≡ bytes = read.whole ∙ ap (λ n. head ++ drop n bytes) begins ∙ whole_ in
      let listed : pack_told content ≡ Ok entries = pack_told-packs content entries (subst (λ b. Packs b entries) (sym all) packs) in
      let past : IsPast cover entries tail = tail_so path cover content entries tail (sym (ap (pack_tail path cover content) listed) ∙ v.2.1) in
      let here : HasRest room d cover told_ head (calls_of caller later) (tail_past cover entries) = record {
        tells = subst (λ h. TellsCount h (length entries)) (sym is) (tells bytes entries packs);
        rest = inr (
          unlike (number_at 8 head) cover.count (length entries) some (ap (number_at 8) is ∙ count_told bytes entries packs),
          (
            drop 24 bytes,
            entries,
            subst (λ a. AreFileReads room path 24 told_ a (drop 24 bytes)) (sym calls) (subst (λ n. AreFileReads room path n told_ (asked_all (made_by caller two.first)) (drop n bytes)) begins read.reads),
            subst (λ b. Packs b entries) (sym whole_) packs,
            refl,
          ),
        );
        longer = past_longer packs.valid.owner cover entries few past.sum past.latest packs.valid.in_order packs.valid.near;
      } in
      subst (HasRest room d cover told_ head (calls_of caller later)) past.is here
    where
      append_nil : {X : Type 0} (xs : List X) → xs ++ [] ≡ xs
      append_nil xs = append-nil xs

  -- after the head
  after_head : (start end : Moment) (told_ : ℕ) (bytes head : List ℕ) (entries : List Entry) (later : List Event) (tail : Tail) → Packs bytes entries → head ≡ take 24 bytes → length bytes ≡ told_ → file_then start room (pack_of its) ≡ Some bytes
      → IsSeen caller start (calls_of caller later) end → Runs caller (if_headed room (packed_path d.host d.writer) cover told_ head (head_fault told_ cover.count head)) later (Ok tail) → HasRest room d cover told_ head (calls_of caller later) tail
  after_head start end told_ bytes head entries later tail packs is size there seen runs = elim (cases_Option (head_fault told_ cover.count head)) [
    | inl none ↦
        let path : Path = packed_path d.host d.writer in
        let on = subst (λ o. Runs caller (if_headed room path cover told_ head o) later (Ok tail)) none runs in
        let few : cover.count ≤ length entries = omega (arith, at_least (number_at 8 head) cover.count (not_fewer told_ cover.count head none), ap (number_at 8) is ∙ count_told bytes entries packs) in
        elim (cases_Bool (nat_eq (number_at 8 head) cover.count)) as (λ _. HasRest room d cover told_ head (calls_of caller later) tail) [
          | inl all ↦ all_covered told_ bytes head entries later tail packs is all (subst (λ p. Runs caller p later (Ok tail)) (cond-true (nat_eq (number_at 8 head) cover.count) (done (Ok (no_tail cover))) (pack_rest room path cover told_ head) all) on)
          | inr some ↦ rest_run start end told_ bytes head entries later tail packs is size there few some seen (subst (λ p. Runs caller p later (Ok tail)) (cond-false (nat_eq (number_at 8 head) cover.count) (done (Ok (no_tail cover))) (pack_rest room path cover told_ head) some) on)
        ]
    | inr (place, some) ↦
        let path : Path = packed_path d.host d.writer in
        let ends = subst (λ o. Runs caller (if_headed room path cover told_ head o) later (Ok tail)) some runs in
        absurd (never tail (damage path place) ends.1)
  ]

  -- ---- the calls

  none_dropped : (bytes : List ℕ) → drop 0 bytes ≡ bytes
  none_dropped [] = refl
  none_dropped (b ∷ bytes) = refl

  one_file : (a b : List ℕ) (o : Option (List ℕ)) → o ≡ Some a → o ≡ Some b → a ≡ b
  one_file a b o p q = cc

  -- What was read of a packed index was gathered so, and its entries are pieces of the file.
  pub record HasPack (calls : List Asked) (tail : Tail) : Type 0 where
    pub reads : ReadsPack its cover.count tail.cover.count tail.entries calls
    pub longer : Longer tail.entries (no_tail cover) tail

  pub pack_run : (start end : Moment) (events : List Event) (tail : Tail) → IsSeen caller start (calls_of caller events) end → Runs caller (pack_program room (packed_path d.host d.writer) cover) events (Ok tail) → HasPack (calls_of caller events) tail
  pack_run start end events tail seen runs =
      let path : Path = packed_path d.host d.writer in
      let f = first_of caller _ _ events (Ok tail) runs in
      let e : Event = f.event in
      let calls = calls_from caller _ _ events (Ok tail) f in
      let s : IsSeen caller start (asked_in e ∷ calls_of caller f.later) end = subst (λ a. IsSeen caller start a end) calls seen in
      let next : Moment = s.0 in
      let call : IsSeenCall caller start (asked_in e) next = s.1 in
      let g = given_so (number_in e.reply) _ _ (made_by caller f.later) tail f.rest in
      let told_ : ℕ = g.0 in
      let asks = ap (λ (a : Ask). a.call) f.asked in
      let reply = number_given e.reply told_ g.1 in
      let m : Moment = call.before in
      let t = length_told m call.sound caller room path told_ next.state (answers_as m.state caller e.ask _ e.reply _ next.state asks reply refl call.answers) in
      let bytes : List ℕ = t.0 in
      let f2 = first_of caller _ _ f.later (Ok tail) g.2 in
      let e2 : Event = f2.event in
      let calls2 = calls_from caller _ _ f.later (Ok tail) f2 in
      let s2 : IsSeen caller next (asked_in e2 ∷ calls_of caller f2.later) end = subst (λ a. IsSeen caller next a end) calls2 s.2 in
      let next2 : Moment = s2.0 in
      let call2 : IsSeenCall caller next (asked_in e2) next2 = s2.1 in
      let g2 = given_so (bytes_in e2.reply) _ _ (made_by caller f2.later) tail f2.rest in
      let head : List ℕ = g2.0 in
      let asks2 = ap (λ (a : Ask). a.call) f2.asked in
      let reply2 = bytes_given e2.reply head g2.1 in
      let m2 : Moment = call2.before in
      let u = read_told m2 call2.sound caller room path 0 24 head next2.state (answers_as m2.state caller e2.ask _ e2.reply _ next2.state asks2 reply2 refl call2.answers) in
      let is : IsItem (Packed d.host d.writer) = pack_item its named in
      let at_next : file_then next room path ≡ Some bytes = call.goes.indices (making.Pack d.host d.writer) room 0 bytes is t.1 in
      let at_second : file_then m2 room path ≡ Some bytes = call2.waits.indices (making.Pack d.host d.writer) room 0 bytes is at_next in
      let at_later : file_then next2 room path ≡ Some bytes = call2.goes.indices (making.Pack d.host d.writer) room 0 bytes is at_second in
      let is_head : head ≡ take 24 bytes = sym u.2 ∙ ap (take 24) (none_dropped u.0 ∙ one_file u.0 bytes (file_then m2 room path) u.1 at_second) in
      let r : HasRest room d cover told_ head (calls_of caller f2.later) tail = after_head next2 end told_ bytes head (landed_by m its) f2.later tail (had_pack m call.sound its bytes named t.1) is_head t.2 at_later s2.2 g2.2 in
      record {
        reads = record {
          first = asked_in e;
          second = asked_in e2;
          reads = calls_of caller f2.later;
          calls = calls ∙ ap (λ l. asked_in e ∷ l) calls2;
          told = told_;
          head = head;
          pack_length = record { call = asks; reply = reply };
          pack_head = record { call = asks2; reply = reply2 };
          tells = r.tells;
          rest = r.rest;
        };
        longer = r.longer;
      }
