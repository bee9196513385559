-- A container is listed and read, where nobody else calls and nothing fails: what was gathered is of one cut, and all is as it was.
use Rattle.std.proofs.Common.{◌≡◌, ◌≤◌, ◌-◌, ℕ, List, [], ◌∷◌, ◌++◌, map, None, Result, Ok, Err, refl, sym, ap, ◌∙◌, inl, inr, subst}
use Rattle.std.specs.List.{AllByRecursion, range_with_len}
use Rattle.plfs_types.specs.declared.entries.Trunc.{Trunc}
use Rattle.mount_model.specs.declared.call.Call.{Call}
use Rattle.mount_model.specs.declared.call.Call.TheVariants.{Find, Look}
use Rattle.mount_model.specs.declared.reply.Reply.{Reply}
use Rattle.mount_model.specs.declared.reply.Reply.TheVariants.{Room}
use Rattle.mount_model.specs.History.{AreBy, Event}
use Rattle.mount_sound.specs.Owed.{IsLawful}
use Rattle.mount_model.specs.Program.{Program, ask, done, followed_by}
use Rattle.mount_model.specs.declared.stuck.Stuck.{Stuck}
use Rattle.mount_model.specs.FlowReplies.{Tries, on_ok}
use Rattle.mount_model.specs.Running.{Runs}
use Rattle.mount_model.proofs.Flows.Facts.{runs_in_two}
use Rattle.reader_laws.specs.Gathering.{Gathered}
use Rattle.reader_laws.specs.Moments.{IsSoundAt, Moment, moment_after}
use Rattle.reader_laws.proofs.Gathered.Facts.{All-weaker, legal_first, legal_rest, moment-append, sound_after}
use Rattle.index_reader.specs.declared.listing.Listing.{Listing}
use Rattle.index_reader.specs.declared.opened.OpenReader.{OpenReader}
use Rattle.index_reader.specs.declared.sharing.Share.{Share}
use Rattle.index_reader.specs.Opening.{open_at_program}
use Rattle.index_reader.specs.Truncs.{trunc_program}
use Rattle.index_reader.proofs.Facts.{IsLook, OnlyLooks, listing_looks, share_looks, truncs_looks}
use Rattle.reader_laws.specs.Opened.{HasOpenReader, HasOpenedIn}
use Rattle.reader_laws.specs.Opening.{shares_of}
use Rattle.reader_laws.proofs.Facts.{shares_fail, truncates_fail}
use Rattle.gather_flow.specs.OneIndex.{reader_of}
use Rattle.gather_flow.specs.Shares.{by_itself, programs_from, worker_program}
use Rattle.gather_flow.specs.Dealing.{dealt_to}
use Rattle.sharing_laws.proofs.Facts.{alone_opened, dealt_listed, err_is, read_alone, then_made}
use Rattle.plain_plays.specs.Served.{GoesWell}
use Rattle.plain_plays.proofs.PlainSteps.Entering.{IsContainerAt}
use Rattle.plain_plays.proofs.PlainSteps.Serving.{well_first}
use Rattle.plain_plays.proofs.PlainSteps.Steps.Alone.{asked_only, by_first, by_rest}
use Rattle.plain_plays.proofs.PlainSteps.ByName.Looking.{AreSights, IsAlike, IsSight, alike_both, run_alike}
use Rattle.plain_plays.proofs.PlainSteps.Looks.Answered.{Anything, EndsSo, had_alike, looked, no_fault}
use Rattle.plain_plays.proofs.PlainSteps.Looks.Listings.{listing_ends}
use Rattle.plain_plays.proofs.PlainSteps.Looks.Reading.{itself_on}

-- ---- runs of looks

-- whole calls, each of which looks
abbrev pub AreLooks : List Event → Type 0
AreLooks events = AllByRecursion (λ (e : Event). (e.ask.stop ≡ None) × IsLook e.ask.call) events

look_sight : (call : Call) → IsLook call → IsSight call
look_sight (Find name) is = tt
look_sight (Look room look) is = tt
look_sight other is = absurd is

pub sights_of : (events : List Event) → AreLooks events → AreSights events
sights_of events are = All-weaker _ _ events (λ e is. (is.0, look_sight e.ask.call is.1)) are

pub sights_first : (first rest : List Event) → AreSights (first ++ rest) → AreSights first
sights_first [] rest are = tt
sights_first (e ∷ first) rest are = (are.0, sights_first first rest are.1)

looks_first : (first rest : List Event) → AreLooks (first ++ rest) → AreLooks first
looks_first [] rest are = tt
looks_first (e ∷ first) rest are = (are.0, looks_first first rest are.1)

pub sights_rest : (first rest : List Event) → AreSights (first ++ rest) → AreSights rest
sights_rest [] rest are = are
sights_rest (e ∷ first) rest are = sights_rest first rest are.1

pub well_rest : (me : ℕ) (first rest : List Event) → GoesWell me (first ++ rest) → GoesWell me rest
well_rest me [] rest well = well
well_rest me (e ∷ first) rest well = well_rest me first rest well.1

-- ---- a reader that was opened

-- Its cut lies between two moments, and at both all is as it was.
pub record IsOpened (m : Moment) (n : ℕ) (events : List Event) (reader : OpenReader) : Type 0 where
  pub begin : Moment
  pub until : Moment
  pub begins : IsAlike m begin
  pub ends : IsAlike m until
  pub sound : IsSoundAt until
  pub had : IsContainerAt n until
  pub cut : List Gathered
  pub has : HasOpenReader begin until reader cut
  -- what was called since
  pub since : List Event
  pub lawful : IsLawful until.state since
  pub at : moment_after m events ≡ moment_after until since

prefix_alike : (m : Moment) (before rest : List Event) → IsSoundAt m → IsLawful m.state (before ++ rest) → AreSights (before ++ rest) → IsAlike m (moment_after m before) × IsSoundAt (moment_after m before)
prefix_alike m before rest sound lawful are =
    let first = legal_first m before rest lawful in
    (run_alike before m sound first (sights_first before rest are), sound_after m before first sound)

pub opened_so : (m : Moment) (n me : ℕ) (events : List Event) (reader : OpenReader) → IsSoundAt m → IsContainerAt n m → IsLawful m.state events → AreSights events → HasOpenedIn me m events reader → IsOpened m n events reader
opened_so m n me events reader sound had lawful sights h =
    let behind : List Event = h.first ∷ h.more ++ h.listing ∷ h.later in
    let lawful_so : IsLawful m.state (h.before ++ behind) = subst (IsLawful m.state) h.split lawful in
    let sights_so : AreSights (h.before ++ behind) = subst AreSights h.split sights in
    let start : Moment = moment_after m h.before in
    let until : Moment = moment_after start (h.first ∷ h.more) in
    let a = prefix_alike m h.before behind sound lawful_so sights_so in
    let later = legal_rest m h.before behind lawful_so in
    let b = prefix_alike start (h.first ∷ h.more) (h.listing ∷ h.later) a.1 later (sights_rest h.before behind sights_so) in
    let ends : IsAlike m until = alike_both m start until a.0 b.0 in
    record {
      begin = start;
      until = until;
      begins = a.0;
      ends = ends;
      sound = b.1;
      had = had_alike m sound n had until ends;
      cut = h.cut;
      has = h.has;
      since = h.listing ∷ h.later;
      lawful = legal_rest start (h.first ∷ h.more) (h.listing ∷ h.later) later;
      at = ap (moment_after m) h.split ∙ moment-append m h.before behind ∙ moment-append start (h.first ∷ h.more) (h.listing ∷ h.later);
    }

-- ---- what programs ask

pub then_looks : {R S : Type 0} (p : Program Call Reply R) (next : R → Program Call Reply S) → ((r : R) → OnlyLooks (next r)) → OnlyLooks p → OnlyLooks (followed_by p next)
then_looks (done r) next goes looks = goes r
then_looks (ask q k) next goes looks = (looks.0, λ reply. then_looks (k reply) next goes (looks.1 reply))

pub ok_looks : {A R : Type 0} (next : A → Tries R) → ((a : A) → OnlyLooks (next a)) → (result : Result A Stuck) → OnlyLooks (on_ok next result)
ok_looks next goes (Ok a) = goes a
ok_looks next goes (Err why) = tt

pub listing_at_looks : (room : ℕ) → OnlyLooks (open_at_program room)
listing_at_looks room = (listing_looks []).1 (Room room)

module _ {R : Type 0} (makes : Listing → List Share → List Trunc → R) (workers : ℕ) where
  itself_looks : (listing : Listing) (numbers : List ℕ) (sofar : List Share) → OnlyLooks (by_itself (map (worker_program workers listing) numbers) sofar (then_made makes listing))
  itself_looks listing [] sofar =
      let next : List Trunc → Tries R = λ truncs. done (Ok (makes listing sofar truncs)) in
      then_looks (trunc_program listing.room) (on_ok next) (ok_looks next (λ truncs. tt)) (truncs_looks listing.room)
  itself_looks listing (w ∷ numbers) sofar =
      let next : Share → Tries R = λ share. by_itself (map (worker_program workers listing) numbers) (sofar ++ share ∷ []) (then_made makes listing) in
      then_looks (worker_program workers listing w) (on_ok next) (ok_looks next (λ share. itself_looks listing numbers (sofar ++ share ∷ []))) (share_looks listing.room (dealt_to workers w 0 listing.droppings) listing.flat.covers)

  -- the shares and the truncates of what was listed
  abbrev pub reads_listed : Listing → Tries R
  reads_listed listing = by_itself (programs_from workers listing 0) [] (then_made makes listing)

  abbrev pub gathers : ℕ → Tries R
  gathers room = followed_by (open_at_program room) (on_ok reads_listed)

  pub gathers_looks : (room : ℕ) → OnlyLooks (gathers room)
  gathers_looks room = then_looks (open_at_program room) (on_ok reads_listed) (ok_looks reads_listed (λ listing. itself_looks listing (range_with_len 0 (workers - 0)) [])) (listing_at_looks room)

  -- ---- what was gathered

  -- It is what is made of a reader of the room, and all is as it was.
  pub record HasGathered (m : Moment) (n : ℕ) (events : List Event) (out : Result R Stuck) : Type 0 where
    pub listing : Listing
    pub shares : List Share
    pub truncs : List Trunc
    pub is : out ≡ Ok (makes listing shares truncs)
    pub room : listing.room ≡ n
    pub opened : IsOpened m n events (reader_of listing shares truncs)
    pub last : IsAlike m (moment_after m events)

  pub gathered : (some : 1 ≤ workers) (n me : ℕ) (m : Moment) (events : List Event) (out : Result R Stuck) → IsSoundAt m → IsContainerAt n m → IsLawful m.state events → GoesWell me events → AreBy me events → Runs me (gathers n) events out → HasGathered m n events out
  gathered some n me m events out sound had lawful well by runs =
      let looks : AreLooks events = asked_only IsLook me events (gathers n) out (gathers_looks n) by runs in
      let two = runs_in_two me (open_at_program n) (on_ok reads_listed) events out runs in
      let whole : IsLawful m.state (two.first ++ two.rest) = subst (IsLawful m.state) two.all lawful in
      let went : GoesWell me (two.first ++ two.rest) = subst (GoesWell me) two.all well in
      let mine : AreBy me (two.first ++ two.rest) = subst (AreBy me) two.all by in
      let l = listing_ends n me m two.first two.value sound had (legal_first m two.first two.rest whole) (well_first me two.first two.rest went) (by_first me two.first two.rest mine) two.runs in
      let listing : Listing = l.0 in
      let scans : Runs me (open_at_program n) two.first (Ok listing) = subst (Runs me (open_at_program n) two.first) l.1 two.runs in
      let reads : Runs me (reads_listed listing) two.rest out = subst (λ v. Runs me (on_ok reads_listed v) two.rest out) l.1 two.then_runs in
      behind out listing two.first two.rest two.all whole went mine (subst AreLooks two.all looks) scans l.2 reads
    where
      -- shares and truncates show no damage, and nothing failed
      never : (why : Stuck) (listing : Listing) (scanning rest : List Event) → IsLawful m.state (scanning ++ rest) → GoesWell me (scanning ++ rest) → AreBy me (scanning ++ rest) → AreLooks (scanning ++ rest) → Runs me (open_at_program n) scanning (Ok listing) → listing.room ≡ n → Runs me (reads_listed listing) rest (Err why) → ⊥
      never why listing scanning rest whole went mine looks scans of_room reads =
          let first = legal_first m scanning rest whole in
          let alike : IsAlike m (moment_after m scanning) = run_alike scanning m sound first (sights_of scanning (looks_first scanning rest looks)) in
          let ends : EndsSo {R = R} Anything (Err why) = (looked n me (EndsSo Anything) rest (reads_listed listing) (moment_after m scanning) (Err why) (sound_after m scanning first sound) (had_alike m sound n had (moment_after m scanning) alike) (legal_rest m scanning rest whole) (well_rest me scanning rest went) (by_rest me scanning rest mine) (itself_on n makes workers listing of_room (range_with_len 0 (workers - 0)) []) reads).0 in
          elim (read_alone makes me workers listing (range_with_len 0 (workers - 0)) [] rest (Err why) reads) as (λ _. ⊥) [
            | inl r ↦ no_fault {R = R} Anything why ends (truncates_fail me me (open_at_program n) m scanning r.gathering r.rest listing why (subst (λ es. IsLawful m.state (scanning ++ es)) r.split whole) sound (inr (n, refl)) scans r.opened).0
            | inr f ↦
                let fails = shares_fail me me (open_at_program n) m scanning f.between f.reading listing _ f.why (subst (λ es. IsLawful m.state (scanning ++ es)) f.split whole) sound (inr (n, refl)) scans (dealt_listed workers f.worker listing.droppings) f.runs in
                no_fault {R = R} Anything why ends (err_is {R = R} why f.why f.is ∙ fails.0)
          ]

      behind : (out : Result R Stuck) (listing : Listing) (scanning rest : List Event) → events ≡ scanning ++ rest → IsLawful m.state (scanning ++ rest) → GoesWell me (scanning ++ rest) → AreBy me (scanning ++ rest) → AreLooks (scanning ++ rest) → Runs me (open_at_program n) scanning (Ok listing) → listing.room ≡ n
          → Runs me (reads_listed listing) rest out → HasGathered m n events out
      behind (Err why) listing scanning rest all whole went mine looks scans of_room reads = absurd (never why listing scanning rest whole went mine looks scans of_room reads)
      behind (Ok made) listing scanning rest all whole went mine looks scans of_room reads = elim (read_alone makes me workers listing (range_with_len 0 (workers - 0)) [] rest (Ok made) reads) as (λ _. HasGathered m n events (Ok made)) [
        | inr f ↦ absurd (let clash : ◌≡◌ {A = Result R Stuck} (Ok made) (Err f.why) = f.is in cc)
        | inl r ↦
            let h = alone_opened me m sound (open_at_program n) (inr (n, refl)) listing scanning scans makes workers rest made some whole r in
            record {
              listing = listing;
              shares = shares_of r.portions;
              truncs = r.opened.truncs;
              is = ap Ok r.opened.is;
              room = of_room;
              opened = subst (λ es. IsOpened m n es (reader_of listing (shares_of r.portions) r.opened.truncs)) (sym all) (opened_so m n me (scanning ++ rest) (reader_of listing (shares_of r.portions) r.opened.truncs) sound had whole (sights_of (scanning ++ rest) looks) h);
              last = subst (λ es. IsAlike m (moment_after m es)) (sym all) (run_alike (scanning ++ rest) m sound whole (sights_of (scanning ++ rest) looks));
            }
      ]
