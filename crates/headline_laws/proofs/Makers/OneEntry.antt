-- A number enters once: the call that made the entry of a writer is the one by which it entered.
use Rattle.std.proofs.Common.{◌≡◌, ◌≤◌, ◌⊎◌, inl, inr, ℕ, List, [], ◌∷◌, ◌++◌, sym, ap, ◌∙◌, subst, arith}
use Rattle.container_layout.specs.declared.items.Item.TheVariants.{OpenHost}
use Rattle.mount_model.specs.declared.call.Ask.{Ask}
use Rattle.mount_model.specs.declared.call.Call.TheVariants.{Enter}
use Rattle.mount_model.specs.History.{Event}
use Rattle.mount_model.specs.State.{last_id}
use Rattle.mount_sound.specs.Owed.{IsLawful}
use Rattle.reader_laws.specs.Moments.{Dropping, HadItem, IsSoundAt, Moment, moment_after, next_moment}
use Rattle.reader_laws.proofs.Gathered.Facts.{legal_first, legal_rest, moment-append, sound_after}
use Rattle.reader_laws.proofs.Gathered.Moments.Stepping.{sound_next}
use Rattle.headline_laws.proofs.Contents.OpenUntil.{drawn_later}
use Rattle.headline_laws.proofs.Makers.NewEntries.{MakesEntry}
use Rattle.headline_laws.proofs.Statements.Known.{HasEntered}
use Rattle.headline_laws.proofs.Story.Attributed.{either_part, head_of}
use Rattle.headline_laws.proofs.Story.Entered.{Draws, enter_draws, same_answers}
use Rattle.headline_laws.proofs.Trees.OpenListed.{entry_drawn}

module _ (m : Moment) (sound : IsSoundAt m) (history : List Event) (lawful : IsLawful m.state history) (n : ℕ) (d : Dropping) (h : HasEntered n history d) (pre : List Event) (event : Event) (post : List Event) (is : history ≡ pre ++ event ∷ post) (number host : ℕ)
    (makes : MakesEntry (moment_after m pre).state number host d.writer event.ask.call) (had : HadItem (next_moment (moment_after m pre) event) number (OpenHost host d.writer)) where
  abbrev There : Moment
  There = moment_after m h.first

  abbrev At : Moment
  At = moment_after m pre

  lawful_there : IsLawful m.state (h.first ++ h.event ∷ h.later)
  lawful_there = subst (IsLawful m.state) h.all lawful

  lawful_at : IsLawful m.state (pre ++ event ∷ post)
  lawful_at = subst (IsLawful m.state) is lawful

  on_there : IsLawful There.state (h.event ∷ h.later)
  on_there = legal_rest m h.first (h.event ∷ h.later) lawful_there

  on_at : IsLawful At.state (event ∷ post)
  on_at = legal_rest m pre (event ∷ post) lawful_at

  draws : Draws There.state h.event.after d.writer
  draws = enter_draws n d.room d.host h.most d.writer There.state h.event.reply h.event.after h.entered (same_answers There.state h.event n d.room d.host h.most on_there.1 h.own h.asked)

  -- its number was drawn as the entry was made
  at_drawn : d.writer ≤ last_id (next_moment At event).state
  at_drawn = entry_drawn (next_moment At event) (sound_next At event post on_at (sound_after m pre (legal_first m pre (event ∷ post) lawful_at) sound)) number host d.writer had

  -- not sooner
  not_before : (u : List Event) → h.first ≡ pre ++ event ∷ u → ⊥
  not_before u front =
      let both : IsLawful m.state (pre ++ event ∷ u) = subst (IsLawful m.state) front (legal_first m h.first (h.event ∷ h.later) lawful_there) in
      let on : IsLawful (next_moment At event).state u = (legal_rest m pre (event ∷ u) both).2 in
      let rise = drawn_later (next_moment At event) u on in
      let same : There ≡ moment_after (next_moment At event) u = ap (moment_after m) front ∙ moment-append m pre (event ∷ u) in
      let grown : last_id (next_moment At event).state ≤ last_id There.state = subst (λ (x : Moment). last_id (next_moment At event).state ≤ last_id x.state) (sym same) rise in
      let drawn = at_drawn in
      let next = draws.is_next in
      omega (arith, drawn, grown, next)

  -- nor later
  not_behind : (u : List Event) → pre ≡ h.first ++ h.event ∷ u → ⊥
  not_behind u front =
      let both : IsLawful m.state (h.first ++ h.event ∷ u) = subst (IsLawful m.state) front (legal_first m pre (event ∷ post) lawful_at) in
      let on : IsLawful (next_moment There h.event).state u = (legal_rest m h.first (h.event ∷ u) both).2 in
      let rise = drawn_later (next_moment There h.event) u on in
      let same : At ≡ moment_after (next_moment There h.event) u = ap (moment_after m) front ∙ moment-append m h.first (h.event ∷ u) in
      let grown : last_id h.event.after ≤ last_id At.state = subst (λ (x : Moment). last_id h.event.after ≤ last_id x.state) (sym same) rise in
      let next = draws.is_next in
      let serial = draws.drawn in
      let mount = draws.mount in
      let its = makes.its_id in
      omega (arith, grown, next, serial, mount, its)

  same_event : h.event ≡ event
  same_event = by (either_part h.first (h.event ∷ h.later) pre event post (sym h.all ∙ is))
    where
      from : (u : List Event) → pre ≡ h.first ++ u → h.event ∷ h.later ≡ u ++ event ∷ post → h.event ≡ event
      from [] front later = head_of h.event event h.later post later
      from (y ∷ u) front later = absurd (not_behind u (front ∙ ap (λ x. h.first ++ x ∷ u) (sym (head_of h.event y h.later (u ++ event ∷ post) later))))

      by : ((u : List Event) × (h.first ≡ pre ++ event ∷ u) × (post ≡ u ++ (h.event ∷ h.later))) ⊎ ((u : List Event) × (pre ≡ h.first ++ u) × (h.event ∷ h.later ≡ u ++ event ∷ post)) → h.event ≡ event
      by (inl (u, front, later)) = absurd (not_before u front)
      by (inr (u, front, later)) = from u front later

  -- The law of this file: it entered this container, under this host.
  pub one_entering : (d.room ≡ number) × (d.host ≡ host)
  one_entering =
      let calls : Enter d.room d.host h.most ≡ Enter number host makes.most = sym (ap (λ (a : Ask). a.call) h.asked) ∙ ap (λ (x : Event). x.ask.call) same_event ∙ makes.asked in
      let rooms : d.room ≡ number = cc in
      let hosts : d.host ≡ host = cc in
      (rooms, hosts)
