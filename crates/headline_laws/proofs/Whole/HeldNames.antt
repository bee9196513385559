-- What is refused as held speaks of its container by its name.
use Rattle.std.proofs.Common.{◌≡◌, ◌≤◌, ◌<◌, ◌+◌, inl, inr, ℕ, zero, suc, false, List, [], ◌∷◌, ◌++◌, length, take, drop, Option, Some, refl, sym, ap, ◌∙◌, subst, arith}
use Rattle.std.specs.Prelude.{map, slice_get}
use Rattle.std.proofs.lemmas.List.{length-map}
use Rattle.store_api.specs.Acts.{Stored}
use Rattle.store_api.specs.declared.tree.Room.{Room}
use Rattle.store_api.specs.declared.tree.Tree.{Tree}
use Rattle.mount_model.specs.History.{Event}
use Rattle.mount_model.specs.Mounting.{IsMounted}
use Rattle.mount_model.specs.Paths.{Name}
use Rattle.mount_model.specs.State.{State}
use Rattle.mount_sound.specs.Owed.{IsLawful}
use Rattle.mount_sound.specs.Sound.{IsSoundTree}
use Rattle.reader_laws.specs.Moments.{IsSoundAt, Moment, moment_after}
use Rattle.reader_laws.proofs.Gathered.Facts.{follows, legal_first, moment-append, sound_after}
use Rattle.script_lang.specs.Ranges.{FitsScript}
use Rattle.script_lang.specs.declared.line.Outcome.TheVariants as line
use Rattle.script_lang.specs.declared.line.Why.TheVariants.{Held}
use Rattle.script_lang.specs.declared.script.Statement.{Statement}
use Rattle.script_lang.specs.declared.script.Statement.TheVariants as say
use Rattle.run_core.specs.Play.{IsRight}
use Rattle.headline.specs.Run.{Run, Says, Told}
use Rattle.headline.specs.Names.{Named, Naming, Story, named, names_in}
use Rattle.headline.specs.Changes.{Holds}
use Rattle.headline.specs.Reasons.{IsReasonOf}
use Rattle.headline_laws.proofs.Contents.Counted.{homes}
use Rattle.headline_laws.proofs.Contents.OpenedWriter.{First, Home, sound_first}
use Rattle.headline_laws.proofs.Held.Around.{surrounded}
use Rattle.headline_laws.proofs.Held.HeldLines.{Es, Rest, es_all, found_open, home_is, row}
use Rattle.headline_laws.proofs.Makers.NewNames.{names_now, names_of}
use Rattle.headline_laws.proofs.Names.Speaking.{are_named, spoken_told}
use Rattle.headline_laws.proofs.Reasons.Told.{reasons_told}
use Rattle.headline_laws.proofs.Story.Namings.{AreGiven, are_given, given_in_two, named_along, namings}

-- ---- names are never fewer

put_long : (names : List Name) (k : ℕ) (x : Name) → length names ≤ length (take k names ++ x ∷ drop (k + 1) names)
put_long [] k x = omega arith
put_long (n ∷ names) zero x = omega arith
put_long (n ∷ names) (suc k) x =
    let one : suc k + 1 ≡ suc (k + 1) = omega arith in
    subst (λ j. length (n ∷ names) ≤ length (take (suc k) (n ∷ names) ++ x ∷ drop j (n ∷ names))) (sym one) (let rest = put_long names k x in omega (arith, rest))

named_long : (names : List Name) (ns : List Naming) → length names ≤ length (named names ns)
named_long names [] = omega arith
named_long names (n ∷ ns) = (let one = put_long names n.number n.name in let rest = named_long (take n.number names ++ n.name ∷ drop (n.number + 1) names) ns in omega (arith, one, rest))

there_less : (rooms : List Room) (i : ℕ) (room : Room) → slice_get rooms i ≡ Some room → i < length rooms
there_less [] i room is = absurd (cc)
there_less (y ∷ rooms) zero room is = omega arith
there_less (y ∷ rooms) (suc i) room is = let less = there_less rooms i room is in omega (arith, less)

names_long : (tree : Tree) → length (names_in tree) ≡ length tree.rooms
names_long tree = length-map tree.rooms (λ (r : Room). r.name)

module _ (run : Run) (times : Option (List ℕ)) (mount : Stored) (start end : State) (fits : FitsScript run.script) (mounted : IsMounted 0 times mount start) (tells : mount.tree ≡ Some run.before) (sound : IsSoundTree run.before)
    (right : IsRight run.script start run.lines end) (left : end.store.tree ≡ Some run.after) (free : run.in_order ≡ false) where
  abbrev Begins : Moment
  Begins = First run times mount start end fits mounted tells sound right left

  abbrev sound_begins : IsSoundAt Begins
  sound_begins = sound_first run times mount start end fits mounted tells sound right left

  abbrev Tale : Story
  Tale = homes run times mount start end fits mounted tells sound right left

  -- the names at a moment are no more than those after
  no_more : (es rest : List Event) → right.history ≡ es ++ rest → length (names_now (moment_after Begins es).state) ≤ length run.after.rooms
  no_more es rest all =
      let two = given_in_two run Begins end fits sound_begins right [] es rest (namings run Begins end fits sound_begins right) (subst (λ z. AreGiven run Begins end fits sound_begins right [] z (namings run Begins end fits sound_begins right)) all (are_given run Begins end fits sound_begins right)) in
      let along = named_along run Begins end fits sound_begins right es rest two.later two.of_later in
      let there : names_in run.after ≡ names_now (moment_after Begins right.history).state = sym (ap names_of (ap (λ (s : State). s.store.tree) ((follows Begins right.history).0 ∙ right.leads.ends) ∙ left)) in
      let behind : moment_after Begins right.history ≡ moment_after (moment_after Begins es) rest = ap (moment_after Begins) all ∙ moment-append Begins es rest in
      let same : names_in run.after ≡ named (names_now (moment_after Begins es).state) two.later = there ∙ ap (λ (x : Moment). names_now x.state) behind ∙ along in
      let few = named_long (names_now (moment_after Begins es).state) two.later in
      let long : length run.after.rooms ≡ length (named (names_now (moment_after Begins es).state) two.later) = sym (names_long run.after) ∙ ap length same in
      omega (arith, few, long)

  sound_to : (es rest : List Event) → right.history ≡ es ++ rest → IsSoundAt (moment_after Begins es)
  sound_to es rest all = sound_after Begins es (legal_first Begins es rest (subst (IsLawful Begins.state) all right.leads.lawful)) sound_begins

  -- what was a container at a moment is one of those after
  is_one : (es rest : List Event) → right.history ≡ es ++ rest → (tree : Tree) → (moment_after Begins es).state.store.tree ≡ Some tree → (k : ℕ) (room : Room) → slice_get tree.rooms k ≡ Some room → k < length run.after.rooms
  is_one es rest all tree told k room there =
      let less = there_less tree.rooms k room there in
      let many : length (names_now (moment_after Begins es).state) ≡ length tree.rooms = ap (λ o. length (names_of o)) told ∙ names_long tree in
      let few = no_more es rest all in
      omega (arith, less, many, few)

  module _ (t : Told) (says : Says run t (line.Refused Held)) where
    by_number : Home run times mount start end fits mounted tells sound right left t < length run.after.rooms → (t.statement ≡ say.Refresh → ⊥) → Named run Tale t
    by_number less other = elim ((are_named run times mount start end fits mounted tells sound right left free).speak t says.is_line less) as (λ _. Named run Tale t) [
      | inl is ↦ is
      | inr refresh ↦ absurd (other refresh)
    ]

    of_open : (name : List ℕ) → t.statement ≡ say.Open name → Named run Tale t
    of_open name is =
        let s = surrounded run Begins end fits sound_begins right free t says.is_line in
        let f = found_open run times mount start end fits mounted tells sound right left t s.reader s.writing s.line name is says.says in
        let z = sound_to f.es f.rest f.all in
        let lacks = f.shut z.shape.tree z.shape.told in
        by_number (is_one f.es f.rest f.all z.shape.tree z.shape.told (Home run times mount start end fits mounted tells sound right left t) lacks.room lacks.has_room) (λ refresh. let clash : say.Open name ≡ say.Refresh = sym is ∙ refresh in cc)

    of_recover : (name : List ℕ) → t.statement ≡ say.Recover name → Named run Tale t
    of_recover name is =
        let s = surrounded run Begins end fits sound_begins right free t says.is_line in
        let es : List Event = Es run times mount start end fits mounted tells sound right left t s name is says.says in
        let rest : List Event = Rest run times mount start end fits mounted tells sound right left t s name is says.says in
        let all : right.history ≡ es ++ rest = es_all run times mount start end fits mounted tells sound right left t s name is says.says in
        let r = row run times mount start end fits mounted tells sound right left t s name is says.says in
        let home = home_is run times mount start end fits mounted tells sound right left t s name is says.says in
        let z = sound_to es rest all in
        let there = z.held.each r.0.number r.0 r.1 in
        let less : r.0.room < length run.after.rooms = is_one es rest all z.shape.tree z.shape.told r.0.room there.room there.there in
        by_number (subst (λ k. k < length run.after.rooms) (r.2 ∙ sym home) less) (λ refresh. let clash : say.Recover name ≡ say.Refresh = sym is ∙ refresh in cc)

    -- the law of this file
    pub held_named : Named run Tale t
    held_named = by t.statement refl ((reasons_told run Begins end fits sound_begins right).kinds t Held says)
      where
        by : (s : Statement) → t.statement ≡ s → IsReasonOf t.statement Held → Named run Tale t
        by (say.Open name) is kind = of_open name is
        by (say.Recover name) is kind = of_recover name is
        by (say.Trunc name size) is kind = (spoken_told run times mount start end fits mounted tells sound right left free).held t says (subst Holds (sym is) tt)
        by (say.Rename name to) is kind = (spoken_told run times mount start end fits mounted tells sound right left free).held t says (subst Holds (sym is) tt)
        by s is kind = absurd (subst (λ x. IsReasonOf x Held) is kind)
