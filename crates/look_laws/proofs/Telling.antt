-- Who looks at a file that nobody has open tells of one plain file.
use Rattle.std.proofs.Common.{◌≡◌, ◌⊎◌, inl, inr, ℕ, true, false, Bool, map, List, [], ◌∷◌, ◌++◌, Option, Some, None, Result, Ok, Err, refl, sym, ap, ◌∙◌, subst, arith, append_assoc}
use Rattle.plfs_types.specs.declared.entries.Trunc.{Trunc}
use Rattle.store_api.specs.declared.step.Answer.TheVariants as answer
use Rattle.store_laws.specs.There.{ListsFolder}
use Rattle.plain_file.proofs.Facts.{Among}
use Rattle.mount_model.specs.declared.call.Ask.{Ask}
use Rattle.mount_model.specs.declared.call.Call.TheVariants.{Find, Look}
use Rattle.mount_model.specs.declared.call.Look.TheVariants.{List as ListFolder}
use Rattle.mount_model.specs.declared.reply.Reply.{Reply}
use Rattle.mount_model.specs.declared.reply.Reply.TheVariants.{Looked, Room}
use Rattle.mount_model.specs.History.{Event}
use Rattle.mount_model.specs.Paths.{Name, metadata, truncs}
use Rattle.container_layout.specs.Paths.{openhosts}
use Rattle.mount_model.specs.Step.{IsStep}
use Rattle.mount_sound.specs.Owed.{IsLawful}
use Rattle.turn_object.specs.Callers.{made_by}
use Rattle.mount_model.specs.Program.{done}
use Rattle.mount_model.specs.declared.stuck.Stuck.{Stuck}
use Rattle.mount_model.specs.Running.{Runs, unbroken}
use Rattle.mount_model.specs.declared.names.Metadata.{Metadata}
use Rattle.mount_model.specs.declared.names.OpenEntry.{OpenEntry}
use Rattle.mount_model.specs.FlowListed.{file_in, or_trouble, told_by}
use Rattle.mount_model.specs.Names.{meta_in, open_in, trunc_in}
use Rattle.mount_model.specs.Order.{metadata_by_writer, truncs_by_stamp}
use Rattle.mount_model.specs.FlowReplies.{Tries, damage, failure, given, names_in, on_ok, room_in, trouble}
use Rattle.attr_flow.specs.declared.attr.Attr.{Attr}
use Rattle.attr_flow.specs.declared.attr_flow.AttrOut.{AttrOut}
use Rattle.attr_flow.specs.declared.attr_flow.AttrOut.TheVariants.{Cached, MustMerge}
use Rattle.attr_flow.specs.Asking.{attr_program, attributes, if_open, lists_metadata, lists_open, lists_truncs}
use Rattle.attr_flow.specs.Attributes.{cached}
use Rattle.attr_flow.specs.Listings.{has_entry, is_open, metadata_named, truncs_named}
use Rattle.attr_flow.specs.Shares.{stored_in}
use Rattle.reader_laws.specs.Gathering.{Gathered}
use Rattle.reader_laws.specs.GatheringListing.{AreTruncsAt}
use Rattle.reader_laws.specs.Moments.{Grows, IsSoundAt, Moment, moment_after, next_moment}
use Rattle.reader_laws.specs.GatheringOpening.{HasView, ListsTruncs}
use Rattle.reader_laws.specs.Seen.{asked_in}
use Rattle.reader_laws.specs.View.{own_entries}
use Rattle.plain_file.specs.Size.{last_trunc}
use Rattle.reader_laws.proofs.Gathered.Facts.{folder_listed, found_any, grows_after, grows_trans, legal_first, legal_rest, moment-append, sound_after, stood_grows}
use Rattle.reader_laws.proofs.Gathered.Containers.Truncates.{truncs_listed}
use Rattle.reader_laws.proofs.Gathered.OpenReaders.Viewing.{tails_are}
use Rattle.reader_laws.proofs.Facts.{answered, calls_are, first_of}
use Rattle.look_laws.specs.Looking.{HasToldOf, TellsOf}
use Rattle.look_laws.proofs.Cuts.{IsLeftOf, cut_left}
use Rattle.look_laws.proofs.Leavings.{AreLeft, HasNobody, are_left, nobody_listed, nobody_there, writer_left}
use Rattle.look_laws.proofs.Named.{AreOf, all_told}
use Rattle.look_laws.proofs.Orders.{among_ordered, ordered_among, rise_ordered}
use Rattle.look_laws.proofs.Sizes.{size_same}
use Rattle.look_laws.proofs.Sums.{shares_same}
use Rattle.look_laws.proofs.Truncates.{last_by_stamp, truncs_named_so}

-- ---- replies

went_on : {A R : Type 0} (found : Option A) (why : Stuck) (next : A → Tries R) (n : ℕ) (events : List Event) (out : R) → Runs n (given found why next) events (Ok out) → (a : A) × (found ≡ Some a) × Runs n (next a) events (Ok out)
went_on {A} {R} None why next n events out made = (let clash : ◌≡◌ {A = Result R Stuck} (Err why) (Ok out) = made.1 in absurd (cc))
went_on (Some a) why next n events out made = (a, refl, made)

was_ok : {A R : Type 0} (result : Result A Stuck) (next : A → Tries R) (n : ℕ) (events : List Event) (out : R) → Runs n (on_ok next result) events (Ok out) → (a : A) × (result ≡ Ok a) × Runs n (next a) events (Ok out)
was_ok (Ok a) next n events out made = (a, refl, made)
was_ok {A} {R} (Err why) next n events out made = (let clash : ◌≡◌ {A = Result R Stuck} (Err why) (Ok out) = made.1 in absurd (cc))

found_room : (reply : Reply) (room : ℕ) → room_in reply ≡ Some room → reply ≡ Room room
found_room (Room r) room e = let same : r ≡ room = cc in ap Room same
found_room reply room e = absurd (cc)

names_given : (reply : Reply) (names : List Name) → names_in reply ≡ Some names → reply ≡ Looked (answer.Names names)
names_given (Looked (answer.Names listed)) names e = let same : listed ≡ names = cc in ap (λ n. Looked (answer.Names n)) same
names_given reply names e = absurd cc

-- what a listing told came of its names
names_told : {A : Type 0} (folder : Name) (tells : List Name → Result A Stuck) (reply : Reply) (a : A) → told_by folder tells reply ≡ Ok a → (names : List Name) × (reply ≡ Looked (answer.Names names)) × (tells names ≡ Ok a)
names_told {A} folder tells reply a e = of (names_in reply) refl e
  where
    of : (o : Option (List Name)) → names_in reply ≡ o → or_trouble o (trouble (file_in folder []) reply) tells ≡ Ok a → (names : List Name) × (reply ≡ Looked (answer.Names names)) × (tells names ≡ Ok a)
    of None is made = absurd (let clash : ◌≡◌ {A = Result A Stuck} (Err (trouble (file_in folder []) reply)) (Ok a) = made in cc)
    of (Some names) is made = (names, names_given reply names is, made)

-- ---- nobody had it open

nobody_has : (n room : ℕ) (attr : Attr) (later : List Event) (result : Result Bool Stuck) → Runs n (on_ok (if_open room) result) later (Ok (Cached attr)) → (result ≡ Ok false) × Runs n (lists_metadata room) later (Ok (Cached attr))
nobody_has n room attr later (Ok true) runs = (let clash : ◌≡◌ {A = Result AttrOut Stuck} (Ok (MustMerge room)) (Ok (Cached attr)) = runs.1 in absurd (cc))
nobody_has n room attr later (Ok false) runs = (refl, runs)
nobody_has n room attr later (Err why) runs = (let clash : ◌≡◌ {A = Result AttrOut Stuck} (Err why) (Ok (Cached attr)) = runs.1 in absurd (cc))

-- a name is that of an entry, or of none that is known
known_none : (name : Name) (o : Option OpenEntry) (rest : Result Bool Stuck) → (rest ≡ Ok false → ⊥) → or_trouble o (damage (file_in openhosts name) 0) (λ entry. rest) ≡ Ok false → ⊥
known_none name None rest never e = cc
known_none name (Some entry) rest never e = never e

never_none : (names : List Name) → has_entry names true ≡ Ok false → ⊥
never_none [] e = (let clash : ◌≡◌ {A = Result Bool Stuck} (Ok true) (Ok false) = e in cc)
never_none (name ∷ names) e = known_none name (open_in name) (has_entry names true) (never_none names) e

nobody_in : (reply : Reply) → is_open reply ≡ Ok false → (reply ≡ Looked answer.NoFolder) ⊎ (reply ≡ Looked (answer.Names []))
nobody_in (Looked answer.NoFolder) e = inl refl
nobody_in (Looked (answer.Names [])) e = inr refl
nobody_in (Looked (answer.Names (name ∷ names))) e = absurd (known_none name (open_in name) (has_entry names true) (never_none names) e)
nobody_in (Looked found) e = absurd (cc)
nobody_in reply e = absurd (cc)

shut_then : (n room : ℕ) (m : Moment) (s : IsSoundAt m) (event : Event) → event.ask ≡ unbroken (Look room (ListFolder openhosts)) → IsStep m.state event.caller event.ask event.reply event.after → is_open event.reply ≡ Ok false → HasNobody m s room
shut_then n room m s event asked step shut = elim (nobody_in event.reply shut) as (λ _. HasNobody m s room) [
  | inl missing ↦ nobody_there event.caller room m s event.after (answered m.state event.caller (Look room (ListFolder openhosts)) event.ask (Looked answer.NoFolder) event.after asked (subst (λ r. IsStep m.state event.caller event.ask r event.after) missing step))
  | inr none ↦ nobody_listed event.caller room m s event.after (answered m.state event.caller (Look room (ListFolder openhosts)) event.ask (Looked (answer.Names [])) event.after asked (subst (λ r. IsStep m.state event.caller event.ask r event.after) none step))
]

-- ---- a listing

listed_then : (room : ℕ) (folder : Name) (m : Moment) (s : IsSoundAt m) (event : Event) (names : List Name) → event.ask ≡ unbroken (Look room (ListFolder folder)) → IsStep m.state event.caller event.ask event.reply event.after → event.reply ≡ Looked (answer.Names names) → ListsFolder s.shape.tree room folder names
listed_then room folder m s event names asked step told =
    folder_listed m s event.caller room folder names event.after (answered m.state event.caller (Look room (ListFolder folder)) event.ask (Looked (answer.Names names)) event.after asked (subst (λ r. IsStep m.state event.caller event.ask r event.after) told step))

-- ---- the attributes

told_attr : (metas : List Metadata) (listed : Result (List Trunc) Stuck) (attr : Attr) → attributes metas listed ≡ Ok (Cached attr) → (ts : List Trunc) × (listed ≡ Ok ts) × (attr ≡ cached metas ts)
told_attr metas (Ok ts) attr e = (ts, refl, let same : cached metas ts ≡ attr = attr_in (cached metas ts) attr e in sym same)
  where
    attr_in : (a b : Attr) → ◌≡◌ {A = Result AttrOut Stuck} (Ok (Cached a)) (Ok (Cached b)) → a ≡ b
    attr_in a b k = cc
told_attr metas (Err why) attr e = absurd (let clash : ◌≡◌ {A = Result AttrOut Stuck} (Err why) (Ok (Cached attr)) = e in cc)

-- ---- places

-- an event in its place, behind others
record IsPlaced (m : Moment) (before : List Event) (event : Event) (later : List Event) : Type 0 where
  pub here : IsSoundAt (moment_after m before)
  pub step : IsStep (moment_after m before).state event.caller event.ask event.reply event.after
  pub next : IsSoundAt (next_moment (moment_after m before) event)
  pub rest : IsLawful event.after later
  pub waits : Grows m (moment_after m before)
  pub goes : Grows (moment_after m before) (next_moment (moment_after m before) event)

placed : (m : Moment) (events before : List Event) (event : Event) (later : List Event) → events ≡ before ++ event ∷ later → IsLawful m.state events → IsSoundAt m → IsPlaced m before event later
placed m events before event later split lawful sound =
    let all : IsLawful m.state (before ++ event ∷ later) = subst (IsLawful m.state) split lawful in
    let first = legal_first m before (event ∷ later) all in
    let there : Moment = moment_after m before in
    let here : IsSoundAt there = sound_after m before first sound in
    let rest : IsLawful there.state (event ∷ later) = legal_rest m before (event ∷ later) all in
    let one : IsLawful there.state (event ∷ []) = (rest.0, rest.1, tt) in
    record { here = here; step = rest.1; next = sound_after there (event ∷ []) one here; rest = rest.2; waits = grows_after m before first sound; goes = grows_after there (event ∷ []) one here }

-- ---- all of it

-- what is told of the moments of its four calls
module _ (start nobody listed end : Moment) (s1 : IsSoundAt nobody) (s2 : IsSoundAt listed) (s3 : IsSoundAt end) (g01 : Grows start nobody) (g12 : Grows nobody listed) (g23 : Grows listed end) (room : ℕ) (shut : HasNobody nobody s1 room) where
  told_at : (names more : List Name) (metas : List Metadata) (ts : List Trunc) (attr : Attr) → ListsFolder s2.shape.tree room metadata names → AreOf meta_in names metas → ListsFolder s3.shape.tree room truncs more → AreTruncsAt end room (truncs_by_stamp ts) → attr ≡ cached metas ts
      → (cut : List Gathered) × HasView start end room cut attr.truncs × TellsOf end cut attr
  told_at names more metas ts attr l are there at is =
      let left : AreLeft listed room metas = are_left listed s2 room names metas l are in
      let g02 : Grows start listed = grows_trans start nobody listed g01 g12 in
      let g03 : Grows start end = grows_trans start listed end g02 g23 in
      let c = cut_left start nobody listed end s1 s2 s3 g01 g12 g23 g02 room shut metas left there.room there.has_room in
      let ordered : List Metadata = metadata_by_writer metas in
      let same : attr.truncs ≡ truncs_by_stamp ts = ap (λ (a : Attr). a.truncs) is in
      let at_end : AreTruncsAt end room attr.truncs = subst (AreTruncsAt end room) (sym same) at in
      let each : (g : Gathered) → Among g c.0 → ((x : Metadata) × Among x metas × IsLeftOf end x g) ⊎ (own_entries end g ≡ []) = c.1.each in
      let all : (x : Metadata) → Among x metas → ((g : Gathered) × Among g c.0 × IsLeftOf end x g) ⊎ ((x.last ≡ 0) × (x.bytes ≡ 0)) = λ x a. c.1.all x a (omega arith) in (
        c.0,
        record {
          rise = c.1.rise;
          admissible = c.1.admissible;
          complete = λ d in_it stood. (let k = c.1.complete d in_it (omega arith) (stood_grows start end d g03 stood) in found_any (λ (g : Gathered). g.dropping ≡ d) c.0 k.0 k.1 k.2);
          all_truncs = at_end;
          entries = tails_are start end c.0 c.1.admissible;
        },
        record {
          size_is = ap (λ (a : Attr). a.size) is ∙ size_same end s3 start room metas ts attr.truncs c.0 (ap last_trunc same ∙ last_by_stamp ts) c.1.admissible c.1.rise at_end each all;
          shares_are = ap (λ (a : Attr). a.shares) is ∙ shares_same end room ordered c.0 (rise_ordered writer_left metas left.differ) c.1.rise (λ g a. in_order metas g (each g a)) (λ x a. all x (ordered_among writer_left x metas a));
          stored_is = ap (λ (a : Attr). a.stored) is ∙ sym (ap stored_in (ap (λ (a : Attr). a.shares) is));
        },
      )
    where
      in_order : (xs : List Metadata) (g : Gathered) → ((x : Metadata) × Among x xs × IsLeftOf end x g) ⊎ (own_entries end g ≡ []) → ((x : Metadata) × Among x (metadata_by_writer xs) × IsLeftOf end x g) ⊎ (own_entries end g ≡ [])
      in_order xs g (inl k) = inl (k.0, among_ordered writer_left k.0 xs k.1, k.2)
      in_order xs g (inr none) = inr none

regrouped : (first : List Event) (one : Event) (second : List Event) (two : Event) (third : List Event) (last : Event) (rest : List Event) → first ++ one ∷ (second ++ two ∷ (third ++ last ∷ rest)) ≡ (first ++ one ∷ (second ++ two ∷ third)) ++ last ∷ rest
regrouped first one second two third last rest = ap (λ z. first ++ one ∷ z) (sym (append_assoc second (two ∷ third) (last ∷ rest))) ∙ sym (append_assoc first (one ∷ (second ++ two ∷ third)) (last ∷ rest))

-- four calls, one behind the other, and what was called around them
four_calls : (events b1 : List Event) (e1 : Event) (l1 b2 : List Event) (e2 : Event) (l2 b3 : List Event) (e3 : Event) (l3 b4 : List Event) (e4 : Event) (l4 : List Event) → events ≡ b1 ++ e1 ∷ l1 → l1 ≡ b2 ++ e2 ∷ l2 → l2 ≡ b3 ++ e3 ∷ l3 → l3 ≡ b4 ++ e4 ∷ l4
    → events ≡ b1 ++ (e1 ∷ (b2 ++ e2 ∷ (b3 ++ e3 ∷ b4)) ++ e4 ∷ l4)
four_calls events b1 e1 l1 b2 e2 l2 b3 e3 l3 b4 e4 l4 one two three four =
    one ∙ ap (λ z. b1 ++ e1 ∷ z) (two ∙ ap (λ z. b2 ++ e2 ∷ z) (three ∙ ap (λ z. b3 ++ e3 ∷ z) four) ∙ regrouped b2 e2 b3 e3 b4 e4 l4)

one_moment : (m : Moment) (e1 : Event) (b2 : List Event) (e2 : Event) (b3 : List Event) (e3 : Event) (b4 : List Event) → moment_after (next_moment (moment_after (next_moment (moment_after (next_moment m e1) b2) e2) b3) e3) b4 ≡ moment_after m (e1 ∷ (b2 ++ e2 ∷ (b3 ++ e3 ∷ b4)))
one_moment m e1 b2 e2 b3 e3 b4 = sym (moment-append (next_moment m e1) b2 (e2 ∷ (b3 ++ e3 ∷ b4)) ∙ moment-append (next_moment (moment_after (next_moment m e1) b2) e2) b3 (e3 ∷ b4))

-- what is told at the moment of the last call, for the events between
assembled : (n : ℕ) (start : Moment) (events : List Event) (name : Name) (attr : Attr) (room : ℕ) (before : List Event) (first : Event) (more : List Event) (listing : Event) (later : List Event) (end : Moment) (ts : List Trunc) → events ≡ before ++ (first ∷ more ++ listing ∷ later) → made_by n before ≡ [] → first.caller ≡ n
    → first.ask ≡ unbroken (Find name) → room_in first.reply ≡ Some room → listing.caller ≡ n → attr.truncs ≡ ts → ListsTruncs room ts (asked_in listing) → end ≡ moment_after (moment_after start before) (first ∷ more)
    → (cut : List Gathered) × HasView (moment_after start before) end room cut attr.truncs × TellsOf end cut attr → HasToldOf n start events name attr
assembled n start events name attr room before first more listing later end ts split waits begins finds found lists are truncates is told = record {
  room = room;
  before = before;
  first = first;
  more = more;
  listing = listing;
  later = later;
  split = split;
  waits = calls_are n before ∙ ap (map asked_in) waits;
  begins = begins;
  finds = ap (λ (q : Ask). q.call) finds;
  found = found_room first.reply room found;
  lists = lists;
  truncates = subst (λ us. ListsTruncs room us (asked_in listing)) (sym are) truncates;
  cut = told.0;
  view = subst (λ m. HasView (moment_after start before) m room told.0 attr.truncs) is told.1;
  tells = subst (λ m. TellsOf m told.0 attr) is told.2;
}

-- Who runs the program that tells of a file, and comes to its end where nobody had it open, has told of one plain file.
pub told_run : (n : ℕ) (start : Moment) (events : List Event) (name : Name) (attr : Attr) → IsLawful start.state events → IsSoundAt start → Runs n (attr_program name) events (Ok (Cached attr)) → HasToldOf n start events name attr
told_run n start events name attr lawful sound runs =
    let out : AttrOut = Cached attr in
    let f1 = first_of n (Find name) _ events (Ok out) runs in
    let a1 = went_on (room_in f1.event.reply) (failure f1.event.reply) lists_open n f1.later out f1.rest in
    let room : ℕ = a1.0 in
    let f2 = first_of n (Look room (ListFolder openhosts)) _ f1.later (Ok out) a1.2 in
    let a2 = nobody_has n room attr f2.later (is_open f2.event.reply) f2.rest in
    let f3 = first_of n (Look room (ListFolder metadata)) _ f2.later (Ok out) a2.1 in
    let a3 = was_ok (told_by metadata (λ names. metadata_named names []) f3.event.reply) (lists_truncs room) n f3.later out f3.rest in
    let f4 = first_of n (Look room (ListFolder truncs)) (λ reply. done (attributes a3.0 (told_by truncs (λ names. truncs_named names []) reply))) f3.later (Ok out) a3.2 in
    let a4 = told_attr a3.0 (told_by truncs (λ names. truncs_named names []) f4.event.reply) attr f4.rest.1 in
    let k3 = names_told metadata (λ names. metadata_named names []) f3.event.reply a3.0 a3.1 in
    let k4 = names_told truncs (λ names. truncs_named names []) f4.event.reply a4.0 a4.1 in
    let metas_are : AreOf meta_in k3.0 a3.0 = all_told meta_in metadata metadata_named (λ sofar. refl) (λ first rest sofar. refl) k3.0 a3.0 k3.2 in
    let truncs_are : AreOf trunc_in k4.0 a4.0 = all_told trunc_in truncs truncs_named (λ sofar. refl) (λ first rest sofar. refl) k4.0 a4.0 k4.2 in
    let p1 = placed start events f1.before f1.event f1.later f1.split lawful sound in
    let m1 : Moment = moment_after start f1.before in
    let n1 : Moment = next_moment m1 f1.event in
    let p2 = placed n1 f1.later f2.before f2.event f2.later f2.split p1.rest p1.next in
    let m2 : Moment = moment_after n1 f2.before in
    let n2 : Moment = next_moment m2 f2.event in
    let p3 = placed n2 f2.later f3.before f3.event f3.later f3.split p2.rest p2.next in
    let m3 : Moment = moment_after n2 f3.before in
    let n3 : Moment = next_moment m3 f3.event in
    let p4 = placed n3 f3.later f4.before f4.event f4.later f4.split p3.rest p3.next in
    let m4 : Moment = moment_after n3 f4.before in
    let l3 = listed_then room metadata m3 p3.here f3.event k3.0 f3.asked p3.step k3.1 in
    let l4 = listed_then room truncs m4 p4.here f4.event k4.0 f4.asked p4.step k4.1 in
    let lists : ListsTruncs room (truncs_by_stamp a4.0) (asked_in f4.event) = record {
      names = k4.0;
      lists = record { call = ap (λ (q : Ask). q.call) f4.asked; reply = k4.1 };
      told = truncs_named_so m4 p4.here room k4.0 a4.0 l4 truncs_are;
    } in
    let at : AreTruncsAt m4 room (truncs_by_stamp a4.0) = truncs_listed m4 p4.here f4.event.caller room (truncs_by_stamp a4.0) (asked_in f4.event) f4.event.after p4.step lists in
    let told = told_at m1 m2 m3 m4 p2.here p3.here p4.here (grows_trans m1 n1 m2 p1.goes p2.waits) (grows_trans m2 n2 m3 p2.goes p3.waits) (grows_trans m3 n3 m4 p3.goes p4.waits) room
    (shut_then n room m2 p2.here f2.event f2.asked p2.step a2.0) k3.0 k4.0 a3.0 a4.0 attr l3 metas_are l4 at a4.2 in
    let more : List Event = f2.before ++ f2.event ∷ (f3.before ++ f3.event ∷ f4.before) in
    assembled n start events name attr room f1.before f1.event more f4.event f4.later m4 (truncs_by_stamp a4.0) (four_calls events f1.before f1.event f1.later f2.before f2.event f2.later f3.before f3.event f3.later f4.before f4.event f4.later f1.split f2.split f3.split f4.split)
    f1.waits f1.by_caller f1.asked a1.1 f4.by_caller (ap (λ (a : Attr). a.truncs) a4.2) lists (one_moment m1 f1.event f2.before f2.event f3.before f3.event f4.before) told
