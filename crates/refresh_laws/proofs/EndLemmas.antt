-- How the program of a refresh ends.
use Rattle.std.proofs.Common.{◌≡◌, ℕ, ◌+◌, ◌%◌, true, List, [], ◌∷◌, ◌++◌, Option, None, Result, Ok, Err, refl, ap, sym, ◌∙◌, ◌⊎◌, inl, inr, subst, append_assoc, arith}
use Rattle.std.specs.Prelude.{◌==◌}
use Rattle.std.proofs.lemmas.Bool.Decides.{nat_tests}
use Rattle.std.proofs.lemmas.List.{append-nil}
use Rattle.std.proofs.lemmas.List.Elements.{filter-append}
use Rattle.plfs_types.specs.declared.entries.Trunc.{Trunc}
use Rattle.plain_file.specs.declared.parts.ReaderParts.{ReaderParts}
use Rattle.turn_object.specs.Callers.{is_by, made_by}
use Rattle.mount_model.specs.declared.call.Call.{Call}
use Rattle.mount_model.specs.declared.reply.Reply.{Reply}
use Rattle.mount_model.specs.History.{Event}
use Rattle.mount_sound.specs.Owed.{IsLawful}
use Rattle.mount_model.specs.Calls.{AreCallsOf}
use Rattle.mount_model.specs.Program.{Program}
use Rattle.mount_model.specs.declared.stuck.Stuck.{Stuck}
use Rattle.mount_model.specs.FlowReplies.{on_ok}
use Rattle.mount_model.specs.Running.{Runs, asking}
use Rattle.mount_model.proofs.Flows.Facts.{runs_in_two}
use Rattle.index_reader.specs.declared.listing.Dropping.{Dropping as Listed}
use Rattle.index_reader.specs.declared.listing.Listing.{Listing}
use Rattle.index_reader.specs.declared.sharing.Share.{Share}
use Rattle.index_reader.specs.Opened.{reader_from}
use Rattle.index_reader.specs.Opening.{scan_program}
use Rattle.index_reader.specs.Sharing.{share_program}
use Rattle.index_reader.specs.Truncs.{trunc_program}
use Rattle.gather_flow.specs.declared.all_read.AllRead.{AllRead}
use Rattle.gather_flow.specs.Dealing.{dealt_to, its_own}
use Rattle.gather_flow.specs.Gathering.{if_truncs_listed, reads_truncs, shares_from}
use Rattle.gather_flow.specs.OneIndex.{gathered_of}
use Rattle.reader_laws.specs.Moments.{Moment, IsSoundAt, Grows, moment_after}
use Rattle.reader_laws.specs.Gathering.{Gathered}
use Rattle.reader_laws.proofs.Gathered.Facts.{follows, grows_after, legal_first, legal_rest, sound_after}
use Rattle.reader_laws.specs.Failing.{FailsByStore, IsContainerAt}
use Rattle.reader_laws.specs.Opened.{HasOpenReader}
use Rattle.reader_laws.proofs.Facts.{container_later, fails_first, fails_rest}
use Rattle.refresh_index.specs.declared.refreshing.RefreshOut.{RefreshOut}
use Rattle.refresh_index.specs.Hosts.{moved}
use Rattle.refresh_index.specs.Refreshing.{all_unpacked, behind, if_gathered, if_listed, reads_on, refresh_program, refreshed, unchanged, unless_moved}
use Rattle.refresh_laws.specs.Refreshing.{RefreshesAlone}
use Rattle.refresh_laws.proofs.StayLemmas.{none_moved}
use Rattle.refresh_laws.proofs.TroubleLemmas.{scan_fails, share_fails, truncates_fail}

-- a program's calls with what others call after it
runs_more : {R : Type 0} (n : ℕ) (p : Program Call Reply R) (events more : List Event) (out : R) → made_by n more ≡ [] → Runs n p events out → Runs n p (events ++ more) out
runs_more {R} n p events more out none runs =
    subst (λ (z : List Event). AreCallsOf (asking p) z out) (sym (filter-append (is_by n) events more ∙ ap (λ z. made_by n events ++ z) none ∙ append-nil (made_by n events))) runs

-- the one worker has all droppings
first_of_one : (j : ℕ) → (j % 1 == 0) ≡ true
first_of_one j = grind (arith, nat_tests)

pub one_deal : (j : ℕ) (ds : List Listed) → dealt_to 1 0 j ds ≡ ds
one_deal j [] = refl
one_deal j (d ∷ ds) = ap (λ b. its_own b d ++ dealt_to 1 0 (j + 1) ds) (first_of_one j) ∙ ap (λ l. d ∷ l) (one_deal (j + 1) ds)

-- the program read all
pub record HasRead (caller : ℕ) (events : List Event) (held : ReaderParts) (out : RefreshOut) : Type 0 where
  pub scanning : List Event
  pub others : List Event
  pub first : events ≡ scanning ++ others
  pub listing : Listing
  pub share : Share
  pub truncs : List Trunc
  pub scans : Runs caller (scan_program held.room) scanning (Ok listing)
  pub reads : RefreshesAlone caller events (reader_from held) listing share truncs
  pub is : out ≡ record { parts = refreshed held (gathered_of (behind held listing) (share ∷ []) truncs); result = Ok tt }

-- one of its programs was troubled
pub record IsTroubled (caller : ℕ) (m : Moment) (events : List Event) (held : ReaderParts) (out : RefreshOut) : Type 0 where
  pub why : Stuck
  pub fails : FailsByStore caller m.state events why
  pub is : out ≡ unchanged held why

abbrev pub Ends : ℕ → Moment → List Event → ReaderParts → RefreshOut → Type 0
Ends caller m events held out = HasRead caller events held out ⊎ IsTroubled caller m events held out

module _ (caller : ℕ) (start end m : Moment) (held : ReaderParts) (former : List Gathered) (has : HasOpenReader start end (reader_from held) former) (grows : Grows end m) (s : IsSoundAt m)
    (container : IsContainerAt m held.room) where
  fails_after : (n : Moment) (a b : List Event) (why : Stuck) → IsLawful n.state (a ++ b) → FailsByStore caller (moment_after n a).state b why → FailsByStore caller n.state (a ++ b) why
  fails_after n a b why lawful f = fails_rest caller n.state a b why lawful (subst (λ st. FailsByStore caller st b why) (follows n a).0 f)

  -- once the share is read
  listed : (scanning gathering first rest last : List Event) (listing : Listing) (share : Share) (told : Result (List Trunc) Stuck) (value : Result AllRead Stuck) (out : RefreshOut)
      → IsLawful m.state (scanning ++ (gathering ++ ((first ++ rest) ++ last)))
      → Runs caller (scan_program held.room) scanning (Ok listing) → Runs caller (share_program held.room (all_unpacked listing.droppings) held.covers) gathering (Ok share)
      → Runs caller (trunc_program held.room) first told → Runs caller (on_ok (if_truncs_listed (behind held listing) (share ∷ [])) told) rest value → Runs caller (if_gathered held value) last out
      → Ends caller m (scanning ++ (gathering ++ ((first ++ rest) ++ last))) held out
  listed scanning gathering first rest last listing share (Ok truncs) value out lawful scans reads truncates (none, is) ends =
      let all : AllRead = record { listed = behind held listing; shares = share ∷ []; truncs = truncs } in
      let P : Result AllRead Stuck → Type 0 = λ v. Runs caller (if_gathered held v) last out in
      let ended : Runs caller (if_gathered held (Ok all)) last out = subst P (sym is) ends in
      inl (record {
        scanning = scanning;
        others = gathering ++ ((first ++ rest) ++ last);
        first = refl;
        listing = listing;
        share = share;
        truncs = truncs;
        scans = scans;
        reads = record {
          scanning = scanning;
          gathering = gathering;
          listing_truncs = (first ++ rest) ++ last;
          split = refl;
          scans = scans;
          reads = reads;
          truncates = runs_more caller (trunc_program held.room) (first ++ rest) last (Ok truncs) ended.0 (runs_more caller (trunc_program held.room) first rest (Ok truncs) none truncates);
        };
        is = sym ended.1;
      })
  listed scanning gathering first rest last listing share (Err why) value out lawful scans reads truncates (none, is) ends =
      let P : Result AllRead Stuck → Type 0 = λ v. Runs caller (if_gathered held v) last out in
      let ended : Runs caller (if_gathered held (Err why)) last out = subst P (sym is) ends in
      let l1 = legal_rest m scanning (gathering ++ ((first ++ rest) ++ last)) lawful in
      let m1 : Moment = moment_after m scanning in
      let ls = legal_first m scanning (gathering ++ ((first ++ rest) ++ last)) lawful in
      let s1 : IsSoundAt m1 = sound_after m scanning ls s in
      let lg = legal_first m1 gathering ((first ++ rest) ++ last) l1 in
      let m2 : Moment = moment_after m1 gathering in
      let s2 : IsSoundAt m2 = sound_after m1 gathering lg s1 in
      let l2 = legal_rest m1 gathering ((first ++ rest) ++ last) l1 in
      let l3 = legal_first m2 (first ++ rest) last l2 in
      let l4 = legal_first m2 first rest l3 in
      let there : IsContainerAt m2 held.room = container_later m1 m2 held.room (grows_after m1 gathering lg s1) (container_later m m1 held.room (grows_after m scanning ls s) container) in
      let f : FailsByStore caller m2.state first why = truncates_fail caller held.room m2 first why l4 s2 there truncates in
      inr (record {
        why = why;
        fails = fails_after m scanning (gathering ++ ((first ++ rest) ++ last)) why lawful
            (fails_after m1 gathering ((first ++ rest) ++ last) why l1 (fails_first caller m2.state (first ++ rest) last why l2 (fails_first caller m2.state first rest why l3 f)));
        is = sym ended.1;
      })

  -- once the container is listed
  read : (scanning first rest last : List Event) (listing : Listing) (got : Result Share Stuck) (value : Result AllRead Stuck) (out : RefreshOut)
      → IsLawful m.state (scanning ++ ((first ++ rest) ++ last)) → Runs caller (scan_program held.room) scanning (Ok listing)
      → Runs caller (share_program held.room (all_unpacked listing.droppings) held.covers) first got → Runs caller (on_ok (λ share. reads_truncs (behind held listing) (share ∷ [])) got) rest value → Runs caller (if_gathered held value) last out
      → Ends caller m (scanning ++ ((first ++ rest) ++ last)) held out
  read scanning first rest last listing (Ok share) value out lawful scans reads on ends =
      let r = runs_in_two caller (trunc_program held.room) (on_ok (if_truncs_listed (behind held listing) (share ∷ []))) rest value on in
      let same : scanning ++ (first ++ ((r.first ++ r.rest) ++ last)) ≡ scanning ++ ((first ++ rest) ++ last) =
      ap (λ l. scanning ++ (first ++ (l ++ last))) (sym r.all) ∙ ap (λ l. scanning ++ l) (sym (append_assoc first rest last)) in
      subst (λ es. Ends caller m es held out) same
      (listed scanning first r.first r.rest last listing share r.value value out (subst (IsLawful m.state) (sym same) lawful) scans reads r.runs r.then_runs ends)
  read scanning first rest last listing (Err why) value out lawful scans reads (none, is) ends =
      let P : Result AllRead Stuck → Type 0 = λ v. Runs caller (if_gathered held v) last out in
      let ended : Runs caller (if_gathered held (Err why)) last out = subst P (sym is) ends in
      let m1 : Moment = moment_after m scanning in
      let l1 = legal_rest m scanning ((first ++ rest) ++ last) lawful in
      let l2 = legal_first m1 (first ++ rest) last l1 in
      let lf = legal_first m (scanning ++ first) (rest ++ last) (subst (IsLawful m.state) (ap (λ l. scanning ++ l) (append_assoc first rest last) ∙ sym (append_assoc scanning first (rest ++ last))) lawful) in
      let f = share_fails caller start end (reader_from held) former m scanning first listing why has grows lf s scans reads in
      let g : FailsByStore caller m1.state first why = subst (λ st. FailsByStore caller st first why) (sym (follows m scanning).0) f in
      inr (record {
        why = why;
        fails = fails_after m scanning ((first ++ rest) ++ last) why lawful (fails_first caller m1.state (first ++ rest) last why l1 (fails_first caller m1.state first rest why l2 g));
        is = sym ended.1;
      })

  scanned : (first rest : List Event) (told : Result Listing Stuck) (out : RefreshOut) → IsLawful m.state (first ++ rest) → Runs caller (scan_program held.room) first told → Runs caller (if_listed held told) rest out → Ends caller m (first ++ rest) held out
  scanned first rest (Ok listing) out lawful scans on =
      let none : moved held.hosts listing.droppings ≡ None = none_moved caller start end m held former has grows s first listing (legal_first m first rest lawful) scans in
      let P : Option Listed → Type 0 = λ o. Runs caller (unless_moved held o (reads_on held listing)) rest out in
      let goes : Runs caller (reads_on held listing) rest out = subst P none on in
      let r = runs_in_two caller (shares_from 1 (behind held listing) 0 []) (if_gathered held) rest out goes in
      let q = runs_in_two caller (share_program held.room (dealt_to 1 0 0 (all_unpacked listing.droppings)) held.covers) (on_ok (λ share. reads_truncs (behind held listing) (share ∷ []))) r.first r.value r.runs in
      let reads = subst (λ ds. Runs caller (share_program held.room ds held.covers) q.first q.value) (one_deal 0 (all_unpacked listing.droppings)) q.runs in
      let same : first ++ ((q.first ++ q.rest) ++ r.rest) ≡ first ++ rest = ap (λ l. first ++ (l ++ r.rest)) (sym q.all) ∙ ap (λ l. first ++ l) (sym r.all) in
      subst (λ es. Ends caller m es held out) same
      (read first q.first q.rest r.rest listing q.value r.value out (subst (IsLawful m.state) (sym same) lawful) scans reads q.then_runs r.then_runs)
  scanned first rest (Err why) out lawful scans (none, is) =
      inr (record { why = why; fails = fails_first caller m.state first rest why lawful (scan_fails caller held.room m first why s container (legal_first m first rest lawful) scans); is = sym is })

  pub refresh_ends : (events : List Event) (out : RefreshOut) → IsLawful m.state events → Runs caller (refresh_program held) events out → Ends caller m events held out
  refresh_ends events out lawful runs =
      let r = runs_in_two caller (scan_program held.room) (if_listed held) events out runs in
      subst (λ es. Ends caller m es held out) (sym r.all) (scanned r.first r.rest r.value out (subst (IsLawful m.state) r.all lawful) r.runs r.then_runs)
