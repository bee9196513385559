-- The namings of a run, in the order of its history: each is of a call that made a container or gave one another name, by the line in whose part it was called.
-- They lead from the names at first to those at each moment.
use Rattle.std.proofs.Common.{◌≡◌, ◌≤◌, ◌<◌, ◌⊎◌, ◌+◌, inl, inr, ℕ, Bool, true, false, List, [], ◌∷◌, ◌++◌, length, Some, refl, sym, ap, ◌∙◌, subst, arith, append_assoc, length-append}
use Rattle.std.specs.List.{AllByRecursion}
use Rattle.std.proofs.lemmas.List.{append-nil}
use Rattle.store_api.specs.declared.tree.Tree.{Tree}
use Rattle.mount_model.specs.declared.call.Call.{Call}
use Rattle.mount_model.specs.History.{Event}
use Rattle.mount_model.specs.Paths.{Name}
use Rattle.mount_model.specs.State.{State, Table}
use Rattle.mount_sound.specs.Owed.{IsLawful}
use Rattle.reader_laws.specs.Moments.{IsSoundAt, Moment, moment_after, next_moment}
use Rattle.reader_laws.proofs.Gathered.Facts.{follows, legal_first, legal_rest, moment-append, sound_after}
use Rattle.script_lang.specs.Ranges.{FitsScript}
use Rattle.run_core.specs.Play.{IsRight}
use Rattle.headline_laws.proofs.Plays.Facts.{IsQuiet}
use Rattle.headline.specs.Run.{IsLine, Run, Told, surely_before}
use Rattle.headline.specs.Names.{AreFirstNames, MayStand, Naming, Story, named, names_in}
use Rattle.headline_laws.proofs.Makers.NewNames.{NewName, another, made, moved, names_now, names_of, stay, step_names, with_name}
use Rattle.headline_laws.proofs.Story.Lines.{container}
use Rattle.headline_laws.proofs.Story.Spans.{PlacedCall, Span, placed_call, span_of, spans_apart}

loud : (call : Call) (table : Table) (names : List Name) (number : ℕ) (name : Name) → NewName call table names number name → IsQuiet call → ⊥
loud call table names number name (made asked is free) quiet = subst IsQuiet asked quiet
loud call table names number name (moved holder h asked held is less free) quiet = subst IsQuiet asked quiet

module _ (run : Run) (m : Moment) (end : State) (fits : FitsScript run.script) (sound : IsSoundAt m) (right : IsRight run.script m.state run.lines end) where
  -- the names at the moment behind these events
  abbrev pub names_then : List Event → List Name
  names_then done = names_now (moment_after m done).state

  -- The call behind these events gave this name, in the part of the naming's line.
  pub record GaveName (done : List Event) (e : Event) (x : Naming) : Type 0 where
    pub call : PlacedCall run m end fits sound right done e
    pub by : x.by ≡ call.t
    pub gives : NewName e.ask.call (moment_after m done).state.table (names_then done) x.number x.name

  -- these are the namings of the events that come behind those that are done
  abbrev pub AreGiven : List Event → List Event → List Naming → Type 0
  AreGiven done [] namings = namings ≡ []
  AreGiven done (e ∷ events) namings =
      ((names_now e.after ≡ names_then done) × AreGiven (done ++ e ∷ []) events namings)
      ⊎ ((x : Naming) × (more : List Naming) × (namings ≡ x ∷ more) × GaveName done e x × (names_now e.after ≡ with_name (names_then done) x.number x.name) × AreGiven (done ++ e ∷ []) events more)

  pub given : (done events : List Event) → right.history ≡ done ++ events → (namings : List Naming) × AreGiven done events namings
  given done [] is = ([], refl)
  given done (e ∷ events) is =
      let whole : IsLawful m.state (done ++ e ∷ events) = subst (IsLawful m.state) is right.leads.lawful in
      let here : IsSoundAt (moment_after m done) = sound_after m done (legal_first m done (e ∷ events) whole) sound in
      let on : IsLawful (moment_after m done).state (e ∷ events) = legal_rest m done (e ∷ events) whole in
      let rest = given (done ++ e ∷ []) events (is ∙ sym (append_assoc done (e ∷ []) events)) in
      elim (step_names (moment_after m done).state e.after e.caller e.ask e.reply here.shape.tree on.1 here.shape.told) as (λ _. (namings : List Naming) × AreGiven done (e ∷ events) namings) [
        | stay same ↦ (rest.0, inl (same, rest.1))
        | another number name new is_new ↦
            let c : PlacedCall run m end fits sound right done e = placed_call run m end fits sound right done e events is (loud e.ask.call (moment_after m done).state.table (names_then done) number name new) in
            let x : Naming = record { by = c.t; number = number; name = name } in
            (x ∷ rest.0, inr (x, rest.0, refl, record { call = c; by = refl; gives = new }, is_new, rest.1))
      ]

  unfoldable pub namings : List Naming
  namings = (given [] right.history refl).0

  pub are_given : AreGiven [] right.history namings
  unfolding namings
  are_given = (given [] right.history refl).1

  -- the story of the run
  abbrev pub story_of : Story
  story_of = record { namings = namings; of = container run m end fits sound right }

  -- ---- the names at a moment

  next_is : (done : List Event) (e : Event) → moment_after m (done ++ e ∷ []) ≡ next_moment (moment_after m done) e
  next_is done e = moment-append m done (e ∷ [])

  pub named_along : (done events : List Event) (ns : List Naming) → AreGiven done events ns → names_now (moment_after (moment_after m done) events).state ≡ named (names_then done) ns
  named_along done [] ns are = ap (named (names_then done)) (sym are)
  named_along done (e ∷ events) ns (inl (same, more)) =
      ap (λ (x : Moment). names_now (moment_after x events).state) (sym (next_is done e)) ∙ named_along (done ++ e ∷ []) events ns more
      ∙ ap (λ zs. named zs ns) (ap (λ (x : Moment). names_now x.state) (next_is done e) ∙ same)
  named_along done (e ∷ events) ns (inr (x, later, is, gave, new, more)) =
      ap (λ (z : Moment). names_now (moment_after z events).state) (sym (next_is done e)) ∙ named_along (done ++ e ∷ []) events later more
      ∙ ap (λ zs. named zs later) (ap (λ (z : Moment). names_now z.state) (next_is done e) ∙ new)
      ∙ ap (named (names_then done)) (sym is)

  -- those of the first events, and those behind them
  pub record InTwo (done a b : List Event) (ns : List Naming) : Type 0 where
    pub first : List Naming
    pub later : List Naming
    pub is : ns ≡ first ++ later
    pub of_first : AreGiven done a first
    pub of_later : AreGiven (done ++ a) b later

  pub given_in_two : (done a b : List Event) (ns : List Naming) → AreGiven done (a ++ b) ns → InTwo done a b ns
  given_in_two done [] b ns are = record { first = []; later = ns; is = refl; of_first = refl; of_later = subst (λ z. AreGiven z b ns) (sym (append-nil done)) are }
  given_in_two done (e ∷ a) b ns (inl (same, more)) =
      let t = given_in_two (done ++ e ∷ []) a b ns more in
      record { first = t.first; later = t.later; is = t.is; of_first = inl (same, t.of_first); of_later = subst (λ z. AreGiven z b t.later) (append_assoc done (e ∷ []) a) t.of_later }
  given_in_two done (e ∷ a) b ns (inr (x, later, is, gave, new, more)) =
      let t = given_in_two (done ++ e ∷ []) a b later more in
      record {
        first = x ∷ t.first;
        later = t.later;
        is = is ∙ ap (λ z. x ∷ z) t.is;
        of_first = inr (x, t.first, refl, gave, new, t.of_first);
        of_later = subst (λ z. AreGiven z b t.later) (append_assoc done (e ∷ []) a) t.of_later;
      }

  -- ---- where each was given

  -- at this place of the history, which is in the part of its line
  pub record GivenAt (low high : ℕ) (x : Naming) : Type 0 where
    pub is_line : IsLine run x.by
    pub at : ℕ
    pub above : low ≤ at
    pub below : at < high
    pub from : (span_of run m end fits sound right x.by).from ≤ at
    pub to : at < (span_of run m end fits sound right x.by).to

  pub gave_at : (done : List Event) (e : Event) (x : Naming) (high : ℕ) → length done < high → GaveName done e x → GivenAt (length done) high x
  gave_at done e x high less g =
      let c = g.call in
      let p = c.line.its.line.part in
      let from : (span_of run m end fits sound right x.by).from ≡ length p.earlier = ap (λ t. (span_of run m end fits sound right t).from) g.by ∙ ap (λ (z : Span). z.from) c.line.placed in
      let to : (span_of run m end fits sound right x.by).to ≡ length p.earlier + length p.mine = ap (λ t. (span_of run m end fits sound right t).to) g.by ∙ ap (λ (z : Span). z.to) c.line.placed in
      let long = ap length c.before_is ∙ length-append p.earlier c.first in
      let inside = ap length c.in_it ∙ length-append c.first (e ∷ c.later) in
      record { is_line = subst (IsLine run) (sym g.by) c.is_line; at = length done; above = omega arith; below = less; from = omega (arith, from, long); to = omega (arith, to, long, inside) }

  wider : (low high low_too high_too : ℕ) (ns : List Naming) → low_too ≤ low → high ≤ high_too → AllByRecursion (GivenAt low high) ns → AllByRecursion (GivenAt low_too high_too) ns
  wider low high low_too high_too [] under over all = tt
  wider low high low_too high_too (x ∷ ns) under over all =
      let g = all.0 in
      let low_is = g.above in
      let high_is = g.below in
      (record { is_line = g.is_line; at = g.at; above = omega (arith, low_is, under); below = omega (arith, high_is, over); from = g.from; to = g.to }, wider low high low_too high_too ns under over all.1)

  pub each_given : (done events : List Event) (ns : List Naming) → AreGiven done events ns → AllByRecursion (GivenAt (length done) (length done + length events)) ns
  each_given done [] ns are = subst (AllByRecursion (GivenAt (length done) (length done + 0))) (sym are) tt
  each_given done (e ∷ events) ns (inl (same, more)) =
      let long = length-append done (e ∷ []) in
      wider (length (done ++ e ∷ [])) (length (done ++ e ∷ []) + length events) (length done) (length done + length (e ∷ events)) ns (omega (arith, long)) (omega (arith, long)) (each_given (done ++ e ∷ []) events ns more)
  each_given done (e ∷ events) ns (inr (x, later, is, gave, new, more)) =
      let long = length-append done (e ∷ []) in
      subst (AllByRecursion (GivenAt (length done) (length done + length (e ∷ events)))) (sym is) (
        gave_at done e x (length done + length (e ∷ events)) (omega arith) gave,
        wider (length (done ++ e ∷ [])) (length (done ++ e ∷ []) + length events) (length done) (length done + length (e ∷ events)) later (omega (arith, long)) (omega (arith, long)) (each_given (done ++ e ∷ []) events later more),
      )

  -- ---- the law of this file

  module _ (free : run.in_order ≡ false) (first : AreFirstNames run (names_now m.state)) where
    not_so : (b : Bool) → (b ≡ true → ⊥) → b ≡ false
    not_so true no_so = absurd (no_so refl)
    not_so false no_so = refl

    -- those that were given before had begun by the end of the line
    have_begun : (t : Told) (limit : ℕ) (ns : List Naming) → IsLine run t → limit ≤ (span_of run m end fits sound right t).to → AllByRecursion (GivenAt 0 limit) ns → AllByRecursion (λ (x : Naming). surely_before run t x.by ≡ false) ns
    have_begun t limit [] is_line within all = tt
    have_begun t limit (x ∷ ns) is_line within all =
        let g = all.0 in
        let high = g.below in
        let from = g.from in
        (not_so (surely_before run t x.by) (λ sooner. (let apart = spans_apart run m end fits sound right free t x.by is_line g.is_line sooner in omega (arith, apart, high, from, within))), have_begun t limit ns is_line within all.1)

    -- those that were given later had not ended before it
    have_not_ended : (t : Told) (limit last : ℕ) (ns : List Naming) → IsLine run t → (span_of run m end fits sound right t).from ≤ limit → AllByRecursion (GivenAt limit last) ns → AllByRecursion (λ (x : Naming). surely_before run x.by t ≡ false) ns
    have_not_ended t limit last [] is_line within all = tt
    have_not_ended t limit last (x ∷ ns) is_line within all =
        let g = all.0 in
        let low = g.above in
        let to = g.to in
        (not_so (surely_before run x.by t) (λ sooner. (let apart = spans_apart run m end fits sound right free x.by t g.is_line is_line sooner in omega (arith, apart, low, to, within))), have_not_ended t limit last ns is_line within all.1)

    -- The names at a moment in the part of a line may be those while its statement is made.
    pub may_stand : (t : Told) → IsLine run t → (done rest : List Event) → right.history ≡ done ++ rest → (span_of run m end fits sound right t).from ≤ length done → length done ≤ (span_of run m end fits sound right t).to → MayStand run story_of t (names_then done)
    may_stand t is_line done rest all from to =
        let plus : 0 + length done ≡ length done = omega arith in
        let two : InTwo [] done rest namings = given_in_two [] done rest namings (subst (λ es. AreGiven [] es namings) all are_given) in
        record {
          first = names_now m.state;
          are_first = first;
          earlier = two.first;
          later = two.later;
          split = two.is;
          begun = have_begun t (length done) two.first is_line to (subst (λ k. AllByRecursion (GivenAt 0 k) two.first) plus (each_given [] done two.first two.of_first));
          not_ended = have_not_ended t (length done) (length done + length rest) two.later is_line from (each_given done rest two.later two.of_later);
          stand = named_along [] done two.first two.of_first;
        }

    -- They lead to the names at the end.
    pub names_left : (tree : Tree) → end.store.tree ≡ Some tree → names_in tree ≡ named (names_now m.state) namings
    names_left tree left = sym (ap names_of (ap (λ (s : State). s.store.tree) ((follows m right.history).0 ∙ right.leads.ends) ∙ left)) ∙ named_along [] right.history namings are_given
