-- A drain is taken where the target has a metadata dropping of a writer that went on, and there alone.
use Rattle.std.proofs.Common.{◌≡◌, ℕ, ◌≤◌, ◌<◌, Bool, true, false, nat_lt, List, [], ◌∷◌, ◌++◌, Option, Some, None, refl, ap, sym, ◌∙◌, ◌⊎◌, inl, inr, subst, arith}
use Rattle.std.specs.Prelude.{Ok, ◌&&◌}
use Rattle.std.proofs.lemmas.Bool.{cases_Bool, cond-true, cond-false}
use Rattle.std.proofs.lemmas.Bool.Decides.{nat_tests}
use Rattle.plain_file.proofs.Facts.{Among, All-Among}
use Rattle.store_api.specs.declared.step.Answer.{Answer}
use Rattle.store_api.specs.declared.step.Answer.TheVariants.{Absent, Number}
use Rattle.store_api.specs.declared.tree.Room.{Room}
use Rattle.store_api.specs.declared.tree.Tree.{Tree}
use Rattle.store_api.specs.Acts.{Stored}
use Rattle.store_api.specs.Effect.{effect}
use Rattle.store_api.specs.Step.{find_room}
use Rattle.store_laws.specs.Says.{FindTells}
use Rattle.store_laws.specs.There.{IsFree}
use Rattle.store_laws.proofs.Facts.{find_tells}
use Rattle.mount_model.specs.Paths.{Name}
use Rattle.mount_sound.specs.Items.{HasMeta}
use Rattle.mount_sound.proofs.Facts.{one_tree}
use Rattle.reader_laws.specs.Moments.{Dropping, Grows, IsSoundAt, Moment, Stood, landed}
use Rattle.reader_laws.proofs.Gathered.Facts.{all_at, any_found, grows_refl, grows_trans, stood_grows}
use Rattle.drain_read.specs.declared.held.Held.{Held}
use Rattle.drain_read.specs.declared.held.Mirror.{Mirror}
use Rattle.drain_read.specs.declared.read.WriterRead.{WriterRead}
use Rattle.drain_copy.specs.declared.outcome.Drained.{Drained}
use Rattle.drain_copy.specs.declared.outcome.DrainStuck.{DrainStuck}
use Rattle.drain_copy.specs.declared.outcome.DrainStuck.TheVariants.{Taken}
use Rattle.drain_copy.specs.Asking.{ends}
use Rattle.drain_copy.specs.Draining.{drain_program, known_at}
use Rattle.drain_copy.specs.Planning.{count_in, count_there, is_settled, is_taken, mirror_in, taken}
use Rattle.drain_copy.specs.Telling.{DrainsOn}
use Rattle.drain_sound.specs.Draining.{Happening}
use Rattle.drain_sound.specs.Fronts.{IsTarget, dropping_in}
use Rattle.drain_sound.specs.Steps.{IsNamedRoom}
use Rattle.drain_sound.specs.Views.{HasCopied}
use Rattle.drain_sound.proofs.Facts.{one_host_there}
use Rattle.drain_laws.specs.Driving.{AreMade, Drives, FindsRoom}
use Rattle.drain_laws.specs.Ending.{HasAllSettled, IsTaken}
use Rattle.drain_laws.specs.Gathered.{HasGathered, events_in, listed_at}
use Rattle.drain_laws.proofs.Courses.Course.{HasBegun, copied_moves, course, more_events, not_well, same_events}
use Rattle.drain_laws.proofs.Courses.Drain.{Works}
use Rattle.drain_laws.proofs.Courses.News.{copied_few, copied_then}
use Rattle.drain_laws.proofs.Driving.Happened.{events_both}
use Rattle.drain_laws.proofs.Planning.Dues.{none_taken, not_more}
use Rattle.drain_laws.proofs.Planning.Plan.{prefix}
use Rattle.drain_laws.proofs.Reading.Read.{IsReadSo}

-- the writer of which a taken drain tells
record TakenOf (held : Held) (ws : List WriterRead) (why : DrainStuck) : Type 0 where
  w : WriterRead
  among : Among w ws
  settled : is_settled held w.writer ≡ true
  more : count_there held w.writer < w.cover.count
  is : why ≡ Taken w.writer (count_there held w.writer) w.cover.count

both_true : (a b : Bool) → (a && b) ≡ true → (a ≡ true) × (b ≡ true)
both_true true true e = (refl, refl)
both_true true false e = absurd (cc)
both_true false b e = absurd (cc)

below : (a b : ℕ) → nat_lt a b ≡ true → a < b
below a b e = grind (arith, nat_tests, e)

taken_of : (held : Held) (ws : List WriterRead) (why : DrainStuck) → taken held ws ≡ Some why → TakenOf held ws why
taken_of held [] why e = absurd (cc)
taken_of held (w ∷ ws) why e = elim (cases_Bool (is_taken held w)) as (λ _. TakenOf held (w ∷ ws) why) [
  | inl there ↦
      let told : Some (Taken w.writer (count_there held w.writer) w.cover.count) ≡ Some why = sym (cond-true (is_taken held w) (Some (Taken w.writer (count_there held w.writer) w.cover.count)) (taken held ws) there) ∙ e in
      let same : Taken w.writer (count_there held w.writer) w.cover.count ≡ why = cc in
      let both = both_true (is_settled held w.writer) (nat_lt (count_there held w.writer) w.cover.count) there in
      record { w = w; among = inl refl; settled = both.0; more = below (count_there held w.writer) w.cover.count both.1; is = sym same }
  | inr free ↦
      let r = taken_of held ws why (sym (cond-false (is_taken held w) (Some (Taken w.writer (count_there held w.writer) w.cover.count)) (taken held ws) free) ∙ e) in
      record { w = r.w; among = inr r.among; settled = r.settled; more = r.more; is = r.is }
]

-- a room of the name is there or none
named_or_free : (t : Tree) (name : Name) → ((n : ℕ) × (room : Room) × IsNamedRoom t n name room) ⊎ IsFree t name
named_or_free t name = by_answer (effect t (find_room name)).answer (find_tells t name).says_so
  where
    by_answer : (answer : Answer) → FindTells t name answer → ((n : ℕ) × (room : Room) × IsNamedRoom t n name room) ⊎ IsFree t name
    by_answer (Number n) its = inl (n, its.room, record { there = its.has_room; named = its.named })
    by_answer Absent its = inr its
    by_answer answer its = absurd its

module _ (caller number : ℕ) (name : Name) (source : Moment) (s : IsSoundAt source) (t : Tree) (target : IsTarget source number name t) (store : Stored) (told : store.tree ≡ Some t) (happened : List Happening) (made : AreMade source store happened) (finds : FindsRoom caller number happened) (left : DrainsOn) (drives : Drives caller (drain_program name) happened left) where
  abbrev Begun : Type 0
  Begun = HasBegun caller number name source s t target store told happened made finds left drives

  module _ (b : Begun) where
    abbrev listing : Moment
    listing = listed_at source b.read.gathered

    to_begin : Grows source b.read.begin
    to_begin = grows_trans source b.read.moment b.read.begin b.read.begun b.read.before

    to_listing : Grows source (listed_at source b.read.gathered)
    to_listing = grows_trans source b.read.begin (listed_at source b.read.gathered) to_begin b.read.grows

    -- ---- what the target has of a writer

    module _ (n : ℕ) (room : Room) (at : IsNamedRoom t n name room) where
      all_there : (host writer : ℕ) → Stood listing (dropping_in number host writer) → 1 ≤ count_there b.read.held writer → HasCopied source number room host writer (count_there b.read.held writer)
      all_there host writer stood some = by_mirror (mirror_in b.read.held.mirrors writer) refl some
        where
          by_mirror : (found : Option Mirror) → mirror_in b.read.held.mirrors writer ≡ found → 1 ≤ count_in found → HasCopied source number room host writer (count_in found)
          by_mirror None e some = absurd (omega (arith, some))
          by_mirror (Some x) e some =
              let y = b.read.knows.mirrored listing b.read.listing_sound (grows_trans b.read.moment b.read.begin listing b.read.before b.read.grows) host writer stood x e in
              let i = y.index n room at in
              copied_then source listing s number name t target n room host writer x.cover.count to_listing at.there at.named
              (record { bytes = i.0; has = i.1; entries = i.2; written = omega (arith, y.logs, y.log n room at, y.sum) })

      only_there : (host writer count : ℕ) → HasCopied source number room host writer count → count ≤ count_there b.read.held writer
      only_there host writer count c =
          b.read.knows.counted host writer count n room at
          (copied_moves source b.read.moment s number room host writer count count b.read.begun (omega arith) (copied_few source source s number name t target n room host writer count at.there at.named c) c)

    module _ (w : WriterRead) (a : Among w b.read.contained.writers) where
      its_stood : Stood listing (dropping_in number w.host w.writer)
      its_stood = all_at (λ (x : WriterRead). Stood listing (dropping_in number x.host x.writer)) b.read.contained.writers w b.read.contains.stood a

      -- so many were gathered
      record AreGathered : Type 0 where
        least : landed b.read.begin (dropping_in number w.host w.writer) ≤ w.cover.count
        most : w.cover.count ≤ landed listing (dropping_in number w.host w.writer)

      gathered_so : AreGathered
      gathered_so =
          let p = prefix b.read.moment b.read.sound number name t b.read.then_target caller b.read.held b.read.knows b.read.begin listing b.read.listing_sound b.read.before b.read.grows w
          (All-Among (IsReadSo caller (known_at b.read.held number) b.read.begin listing) b.read.contained.writers w b.read.contains.reads a) its_stood in
          record { least = p.least; most = p.most }

      -- the host of its metadata is its own
      its_meta : is_settled b.read.held w.writer ≡ true → (n : ℕ) (room : Room) → IsNamedRoom t n name room → HasMeta room w.host w.writer
      its_meta settled n room at =
          let h = b.read.knows.metas w.writer settled n room at in
          let was : Stood source (dropping_in number h.0 w.writer) = (target.drained n room at.there at.named).hosts h.0 w.writer (inr (inr h.1)) in
          let then_stood : Stood listing (dropping_in number h.0 w.writer) = stood_grows source listing (dropping_in number h.0 w.writer) to_listing was in
          subst (λ o. HasMeta room o w.writer) (one_host_there listing b.read.listing_sound number h.0 w.host w.writer then_stood its_stood) h.1

    -- ---- it is taken

    abbrev gathered : HasGathered caller number (events_in happened)
    gathered = same_events caller number (events_in happened) (events_in b.first ++ events_in b.all) (ap events_in b.split ∙ events_both b.first b.all) (more_events caller number (events_in b.first) (events_in b.all) b.read.gathered)

    abbrev IsTakenSo : DrainStuck → Type 0
    IsTakenSo (Taken writer there here) = IsTaken caller number name source store happened writer there here
    IsTakenSo why = ⊥

    by_room : (w : WriterRead) → Among w b.read.contained.writers → is_settled b.read.held w.writer ≡ true → count_there b.read.held w.writer < w.cover.count → ((n : ℕ) × (room : Room) × IsNamedRoom t n name room) ⊎ IsFree t name
        → IsTaken caller number name source store happened w.writer (count_there b.read.held w.writer) w.cover.count
    by_room w a settled more (inr free) = let clash : true ≡ false = sym settled ∙ (b.read.knows.fresh free w.writer).1 in absurd (cc)
    by_room w a settled more (inl (n, room, at)) =
        let g = gathered_so w a in
        let stood = its_stood w a in
        record {
          host = w.host;
          tree = t;
          told = told;
          n = n;
          room = room;
          at = at;
          settled = its_meta w a settled n room at;
          has = λ some. all_there n room at w.host w.writer stood some;
          only = λ count c. only_there n room at w.host w.writer count c;
          more = more;
          gathered = gathered;
          least = omega (arith, g.least, b.read.began.landed (dropping_in number w.host w.writer) stood.is_item);
          most = g.most;
        }

    pub taken_so : (why : DrainStuck) → taken b.read.held b.read.contained.writers ≡ Some why → IsTakenSo why
    taken_so why e =
        let x = taken_of b.read.held b.read.contained.writers why e in
        subst IsTakenSo (sym x.is) (by_room x.w x.among x.settled x.more (named_or_free t name))

    -- ---- none was taken

    at_most : (c n : ℕ) → nat_lt n c ≡ false → c ≤ n
    at_most c n e = grind (arith, nat_tests, e)

    none_lacks : taken b.read.held b.read.contained.writers ≡ None → (n : ℕ) (room : Room) → IsNamedRoom t n name room → (w : WriterRead) → Among w b.read.contained.writers → HasMeta room w.host w.writer → 1 ≤ landed source (dropping_in number w.host w.writer)
        → HasCopied source number room w.host w.writer (landed source (dropping_in number w.host w.writer))
    none_lacks free n room at w a meta some =
        let d : Dropping = dropping_in number w.host w.writer in
        let settled : is_settled b.read.held w.writer ≡ true = elim (cases_Bool (is_settled b.read.held w.writer)) as (λ _. is_settled b.read.held w.writer ≡ true) [
          | inl is ↦ is
          | inr open_ ↦ absurd (b.read.knows.unsettled w.host w.writer open_ n room at meta)
        ] in
        let all : w.cover.count ≤ count_there b.read.held w.writer = at_most w.cover.count (count_there b.read.held w.writer) (not_more b.read.held w (none_taken b.read.held b.read.contained.writers w free a) settled) in
        let stood = its_stood w a in
        let few : landed source d ≤ count_there b.read.held w.writer = omega (arith, all, (gathered_so w a).least, to_begin.landed d stood.is_item) in
        let c = all_there n room at w.host w.writer stood (omega (arith, some, few)) in
        copied_moves source source s number room w.host w.writer (landed source d) (count_there b.read.held w.writer) (grows_refl source) few (copied_few source source s number name t target n room w.host w.writer (count_there b.read.held w.writer) at.there at.named c) c

    pub settled_whole : taken b.read.held b.read.contained.writers ≡ None → HasAllSettled source number name store
    settled_whole free tree n room host writer now at meta stood some =
        let d : Dropping = dropping_in number host writer in
        let same : tree ≡ t = one_tree tree t store.tree now told in
        let here : IsNamedRoom t n name room = subst (λ x. IsNamedRoom x n name room) same at in
        let (w, a, is) = any_found (λ (x : WriterRead). dropping_in number x.host x.writer ≡ d) b.read.contained.writers (b.read.contains.complete d refl (stood_grows source b.read.begin d to_begin stood)) in
        let host_is : w.host ≡ host = ap (λ (y : Dropping). y.host) is in
        let writer_is : w.writer ≡ writer = ap (λ (y : Dropping). y.writer) is in
        let c = none_lacks free n room here w a (subst (λ o. HasMeta room o w.writer) (sym host_is) (subst (λ v. HasMeta room host v) (sym writer_is) meta)) (omega (arith, some, ap (landed source) is)) in
        subst (λ o. HasCopied source number room o writer (landed source (dropping_in number o writer))) host_is
        (subst (λ v. HasCopied source number room w.host v (landed source (dropping_in number w.host v))) writer_is c)

  pub none_was_taken : (drained : Drained) → left ≡ ends (Ok drained) → HasAllSettled source number name store
  none_was_taken drained is = elim (course caller number name source s t target store told happened made finds left drives) as (λ _. HasAllSettled source number name store) [
    | inl idle ↦ absurd (idle.1 (Ok drained) is)
    | inr b ↦ by_works b b.works
  ]
    where
      by_works : (b : Begun) → Works caller number name source s t target left b.first b.all b.read → HasAllSettled source number name store
      by_works b (inl (idle, (why, taken_so, ended))) = absurd (not_well why drained (sym ended ∙ is))
      by_works b (inr (inl (o, os, new, free, idle, bad))) = absurd (bad (Ok drained) is)
      by_works b (inr (inr (middle, rest, f, idle, y))) = settled_whole b y.free
