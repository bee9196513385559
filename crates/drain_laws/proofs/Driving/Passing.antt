-- Who drives a program that only looks, or only asks, goes through it and on, or stops within it.
use Rattle.std.proofs.Common.{◌≡◌, ◌⊎◌, inl, inr, ℕ, List, [], ◌∷◌, ◌++◌, Some, refl, ap, sym, ◌∙◌, subst, append_assoc}
use Rattle.std.specs.Prelude.{Result, Ok, Err}
use Rattle.std.proofs.lemmas.List.Elements.{filter-append}
use Rattle.store_api.specs.declared.tree.Tree.{Tree}
use Rattle.store_api.specs.Acts.{Stored}
use Rattle.store_api.specs.Step.{Step}
use Rattle.store_laws.specs.Outcomes.{IsLook}
use Rattle.store_laws.specs.Tells.{Tells}
use Rattle.store_laws.proofs.Facts.{acts_told, look_told}
use Rattle.turn_object.specs.Callers.{is_by, made_by}
use Rattle.mount_model.specs.declared.call.Ask.{Ask}
use Rattle.mount_model.specs.declared.call.Call.{Call}
use Rattle.mount_model.specs.declared.call.Call.TheVariants.{Look}
use Rattle.mount_model.specs.declared.call.Look.TheVariants.{Top, List as ListFolder, Length, Read}
use Rattle.mount_model.specs.declared.reply.Reply.{Reply}
use Rattle.mount_model.specs.History.{Event}
use Rattle.mount_sound.specs.Owed.{IsLawful}
use Rattle.mount_model.specs.declared.stuck.Stuck.{Stuck}
use Rattle.mount_model.specs.FlowReplies.{Tries}
use Rattle.mount_model.specs.Running.{Runs, asking, unbroken}
use Rattle.mount_model.specs.Program.{Program, done, ask}
use Rattle.mount_model.specs.Calls.{AreCallsOf}
use Rattle.mount_model.proofs.Stories.Facts.{after_own, entries_not_first}
use Rattle.reader_laws.specs.Moments.{Moment, next_moment}
use Rattle.drain_copy.specs.declared.outcome.DrainStuck.{DrainStuck}
use Rattle.drain_copy.specs.Asking.{acts, at_source as on_source, at_target as on_target, calls, ends, look_reply, look_step}
use Rattle.mount_model.specs.Making.{Told}
use Rattle.drain_copy.specs.Telling.{DrainsOn, Outcome, on_good}
use Rattle.drain_sound.specs.Draining.{Happening, at_source, at_target}
use Rattle.drain_laws.specs.Driving.{AreMade, Drives}
use Rattle.drain_laws.specs.Gathered.{events_in}
use Rattle.drain_laws.proofs.Driving.Happened.{IsIdle, idle_both}

-- looks at a tree that stays, and what a program of them comes to
abbrev pub Sees : {X : Type 0} → Tree → Tries X → Result X Stuck → Type 0
Sees t (done x) out = x ≡ out
Sees t (ask call k) out = (told : Told) × Tells (look_step call) t told t × Sees t (k (look_reply told)) out

-- it ended in such a trouble
abbrev pub IsCutShort : (DrainStuck → Type 0) → Outcome → Type 0
IsCutShort Bad (Ok drained) = ⊥
IsCutShort Bad (Err why) = Bad why

-- the program didn't end well, and if at all in such a trouble
abbrev pub IsUnfinished : (DrainStuck → Type 0) → DrainsOn → Type 0
IsUnfinished Bad left = (outcome : Outcome) → left ≡ ends outcome → IsCutShort Bad outcome

-- It stopped within the part, or went through it, and this holds of what came in it and behind it.
pub data Passes (Bad : DrainStuck → Type 0) (P : Call → Type 0) (caller : ℕ) (left : DrainsOn) (Behind : List Happening → List Happening → Type 0) (happened : List Happening) : Type 0 where
  stops : IsIdle P caller happened → IsUnfinished Bad left → Passes Bad P caller left Behind happened
  goes : (first rest : List Happening) → happened ≡ first ++ rest → IsIdle P caller first → Behind first rest → Passes Bad P caller left Behind happened

-- each call of the program is one of these
abbrev pub AsksOnly : {X : Type 0} → (Call → Type 0) → Tries X → Type 0
AsksOnly P (done x) = Unit {0}
AsksOnly P (ask call k) = P call × ((reply : Reply) → AsksOnly P (k reply))

-- others called before a program's calls
pub runs_after : {R : Type 0} (caller : ℕ) (p : Program Call Reply R) (first rest : List Event) (out : R) → made_by caller first ≡ [] → Runs caller p rest out → Runs caller p (first ++ rest) out
runs_after {R} caller p first rest out none runs =
    subst (λ (z : List Event). AreCallsOf (asking p) z out) (sym (filter-append (is_by caller) first rest ∙ ap (λ z. z ++ made_by caller rest) none)) runs

pub none_both : (caller : ℕ) (first rest : List Event) → made_by caller first ≡ [] → made_by caller rest ≡ [] → made_by caller (first ++ rest) ≡ []
none_both caller first rest a b = filter-append (is_by caller) first rest ∙ ap (λ z. z ++ made_by caller rest) a ∙ b

is_look : (call : Call) → IsLook (look_step call)
is_look (Look room Top) = tt
is_look (Look room (ListFolder folder)) = tt
is_look (Look room (Length path)) = tt
is_look (Look room (Read path at len)) = tt
is_look other = tt

module _ (Bad : DrainStuck → Type 0) (P : Call → Type 0) (caller : ℕ) (left : DrainsOn) where
  abbrev Pass : (List Happening → List Happening → Type 0) → List Happening → Type 0
  Pass Behind happened = Passes Bad P caller left Behind happened

  -- one more happening in front
  pub one_more : (A B : List Happening → List Happening → Type 0) (h : Happening) (happened : List Happening) → ((rest : List Happening) → IsIdle P caller rest → IsIdle P caller (h ∷ rest)) → ((first rest : List Happening) → A first rest → B (h ∷ first) rest) → Pass A happened → Pass B (h ∷ happened)
  one_more A B h happened idle more (stops i u) = stops (idle happened i) u
  one_more A B h happened idle more (goes first rest e i a) = goes (h ∷ first) rest (ap (λ l. h ∷ l) e) (idle first i) (more first rest a)

  -- what holds of the parts, by what held of them, or it ended badly behind the first one
  abbrev pub IsBad : List Happening → Type 0
  IsBad rest = IsIdle P caller rest × IsUnfinished Bad left

  pub pass_or : (A B : List Happening → List Happening → Type 0) (happened : List Happening) → ((first rest : List Happening) → happened ≡ first ++ rest → IsIdle P caller first → A first rest → B first rest ⊎ IsBad rest) → Pass A happened → Pass B happened
  pass_or A B happened more (stops i u) = stops i u
  pass_or A B happened more (goes first rest e i x) = elim (more first rest e i x) as (λ _. Pass B happened) [
    | inl y ↦ goes first rest e i y
    | inr bad ↦ stops (subst (IsIdle P caller) (sym e) (idle_both caller P first rest i bad.0)) bad.1
  ]

  -- two parts, one after the other
  pub pass_on : (A B : List Happening → List Happening → Type 0) (happened : List Happening) → Pass A happened → ((first rest : List Happening) → happened ≡ first ++ rest → IsIdle P caller first → A first rest → Pass (λ middle last. B (first ++ middle) last) rest) → Pass B happened
  pass_on A B happened (stops i u) on = stops i u
  pass_on A B happened (goes first rest e i a) on = second (on first rest e i a)
    where
      second : Pass (λ middle last. B (first ++ middle) last) rest → Pass B happened
      second (stops j u) = stops (subst (IsIdle P caller) (sym e) (idle_both caller P first rest i j)) u
      second (goes middle last f j b) = goes (first ++ middle) last (e ∙ ap (λ l. first ++ l) f ∙ sym (append_assoc first middle last)) (idle_both caller P first middle i j) b

  -- the program has ended
  pub ended : (out : Outcome) (m : Moment) (store : Stored) (happened : List Happening) → AreMade m store happened → Drives caller (ends out) happened left → IsIdle P caller happened × (left ≡ ends out)
  ended out m store [] made drives = (tt, drives)
  ended out m store (at_source e ∷ happened) made (inl (other, drives)) = let r = ended out (next_moment m e) store happened made.1 drives in ((λ own. absurd (other own), r.0), r.1)
  ended out m store (at_source e ∷ happened) made (inr (own, (next, is, drives))) = absurd is
  ended out m store (at_target a ∷ happened) made (next, is, drives) = absurd is

  pub ended_badly : (why : DrainStuck) (m : Moment) (store : Stored) (happened : List Happening) → Bad why → AreMade m store happened → Drives caller (ends (Err why)) happened left → IsBad happened
  ended_badly why m store happened bad made drives =
      let r = ended (Err why) m store happened made drives in
      (r.0, λ outcome is. so outcome (sym r.1 ∙ is))
    where
      so : (outcome : Outcome) → ◌≡◌ {A = DrainsOn} (ends (Err why)) (ends outcome) → IsCutShort Bad outcome
      so (Ok drained) e = absurd (cc)
      so (Err other) e = let same : why ≡ other = cc in subst Bad same bad

  -- ---- looks at the target

  -- what the looks came to, and others' calls meanwhile
  abbrev pub HasSeen : {X : Type 0} → Tree → Tries X → (Result X Stuck → DrainsOn) → List Happening → List Happening → Type 0
  HasSeen {X} t p next first rest = (out : Result X Stuck) × (made_by caller (events_in first) ≡ []) × Sees t p out × Drives caller (next out) rest left

  pub passes_looks : {X : Type 0} (p : Tries X) (next : Result X Stuck → DrainsOn) (m : Moment) (store : Stored) (t : Tree) (happened : List Happening) → store.tree ≡ Some t → AreMade m store happened → Drives caller (on_target p next) happened left → Pass (HasSeen t p next) happened
  passes_looks (done x) next m store t happened told made drives = goes [] happened refl tt (x, refl, refl, drives)
  passes_looks (ask call k) next m store t [] told made drives = stops tt (λ outcome is. absurd (open_act (sym drives ∙ is)))
    where
      open_act : {outcome : Outcome} → ◌≡◌ {A = DrainsOn} (acts (look_step call) (λ told. on_target (k (look_reply told)) next)) (ends outcome) → ⊥
      open_act e = cc
  passes_looks {X} (ask call k) next m store t (at_source e ∷ happened) told made (inl (other, drives)) =
      one_more (HasSeen t (ask call k) next) (HasSeen t (ask call k) next) (at_source e) happened (λ rest i. (λ own. absurd (other own), i))
      (λ first rest s. (s.0, entries_not_first caller e (events_in first) other ∙ s.1, s.2, s.3))
      (passes_looks (ask call k) next (next_moment m e) store t happened told made.1 drives)
  passes_looks (ask call k) next m store t (at_source e ∷ happened) told made (inr (own, (after, is, drives))) = absurd is
  passes_looks {X} (ask call k) next m store t (at_target a ∷ happened) told made (then_on, is, drives) =
      let after = acts_told a.step store a.after t a.answer told made.0 in
      let tells : Tells (look_step call) t a.answer after.0 = subst (λ s. Tells s t a.answer after.0) is.0 after.2 in
      let same : after.0 ≡ t = look_told (look_step call) t a.answer after.0 (is_look call) tells in
      one_more (HasSeen t (k (look_reply a.answer)) next) (HasSeen t (ask call k) next) (at_target a) happened (λ rest i. (subst IsLook (sym is.0) (is_look call), i))
      (λ first rest s. (s.0, s.1, (a.answer, subst (Tells (look_step call) t a.answer) same tells, s.2), s.3))
      (passes_looks (k (look_reply a.answer)) next m a.after t happened (after.1 ∙ ap (λ x. Some x) same) made.1 (subst (λ p. Drives caller p happened left) is.1 drives))

  -- one look, which told something
  abbrev pub HasTold : {X : Type 0} → Tree → Step → (Told → Result X DrainStuck) → (X → DrainsOn) → List Happening → List Happening → Type 0
  HasTold {X} t step told_so next first rest = (told : Told) × (x : X) × (made_by caller (events_in first) ≡ []) × Tells step t told t × (told_so told ≡ Ok x) × Drives caller (next x) rest left

  pub passes_look : {X : Type 0} (step : Step) (told_so : Told → Result X DrainStuck) (next : X → DrainsOn) (m : Moment) (store : Stored) (t : Tree) (happened : List Happening) → ((told : Told) (why : DrainStuck) → Tells step t told t → told_so told ≡ Err why → Bad why) → IsLook step → store.tree ≡ Some t → AreMade m store happened → Drives caller (acts step (λ told. on_good next (told_so told))) happened left
      → Pass (HasTold t step told_so next) happened
  passes_look step told_so next m store t [] fair look told made drives = stops tt (λ outcome is. absurd (open_act (sym drives ∙ is)))
    where
      open_act : {outcome : Outcome} → ◌≡◌ {A = DrainsOn} (acts step (λ told. on_good next (told_so told))) (ends outcome) → ⊥
      open_act e = cc
  passes_look step told_so next m store t (at_source e ∷ happened) fair look told made (inl (other, drives)) =
      one_more (HasTold t step told_so next) (HasTold t step told_so next) (at_source e) happened (λ rest i. (λ own. absurd (other own), i))
      (λ first rest s. (s.0, s.1, entries_not_first caller e (events_in first) other ∙ s.2, s.3, s.4, s.5))
      (passes_look step told_so next (next_moment m e) store t happened fair look told made.1 drives)
  passes_look step told_so next m store t (at_source e ∷ happened) fair look told made (inr (own, (after, is, drives))) = absurd is
  passes_look {X} step told_so next m store t (at_target a ∷ happened) fair look told made (then_on, is, drives) =
      let after = acts_told a.step store a.after t a.answer told made.0 in
      let tells : Tells step t a.answer after.0 = subst (λ s. Tells s t a.answer after.0) is.0 after.2 in
      let same : after.0 ≡ t = look_told step t a.answer after.0 look tells in
      by_told (told_so a.answer) refl (subst (Tells step t a.answer) same tells) (subst (λ p. Drives caller p happened left) is.1 drives)
    where
      by_told : (r : Result X DrainStuck) → told_so a.answer ≡ r → Tells step t a.answer t → Drives caller (on_good next r) happened left → Pass (HasTold t step told_so next) (at_target a ∷ happened)
      by_told (Ok x) e tells on = goes (at_target a ∷ []) happened refl (subst IsLook (sym is.0) look, tt) (a.answer, x, refl, tells, e, on)
      by_told (Err why) e tells on =
          let bad = ended_badly why m a.after happened (fair a.answer why tells e) made.1 on in
          stops (subst IsLook (sym is.0) look, bad.0) bad.1

  -- ---- calls at the source

  -- what the calls came to
  abbrev pub HasRun : {X : Type 0} → Tries X → (Result X Stuck → DrainsOn) → List Happening → List Happening → Type 0
  HasRun {X} p next first rest = (out : Result X Stuck) × Runs caller p (events_in first) out × Drives caller (next out) rest left

  pub passes_calls : {X : Type 0} (p : Tries X) (next : Result X Stuck → DrainsOn) (m : Moment) (store : Stored) (happened : List Happening) → AsksOnly P p → AreMade m store happened → Drives caller (on_source p next) happened left → Pass (HasRun p next) happened
  passes_calls (done x) next m store happened only made drives = goes [] happened refl tt (x, (refl, refl), drives)
  passes_calls (ask call k) next m store [] only made drives = stops tt (λ outcome is. absurd (open_call (sym drives ∙ is)))
    where
      open_call : {outcome : Outcome} → ◌≡◌ {A = DrainsOn} (calls call (λ reply. on_source (k reply) next)) (ends outcome) → ⊥
      open_call e = cc
  passes_calls {X} (ask call k) next m store (at_source e ∷ happened) only made (inl (other, drives)) =
      one_more (HasRun (ask call k) next) (HasRun (ask call k) next) (at_source e) happened (λ rest i. (λ own. absurd (other own), i))
      (λ first rest s. (s.0, runs_after caller (ask call k) (e ∷ []) (events_in first) s.0 (entries_not_first caller e [] other) s.1, s.2))
      (passes_calls (ask call k) next (next_moment m e) store happened only made.1 drives)
  passes_calls {X} (ask call k) next m store (at_source e ∷ happened) only made (inr (own, (after, is, drives))) =
      one_more (HasRun (k e.reply) next) (HasRun (ask call k) next) (at_source e) happened (λ rest i. (λ same. subst P (sym (ap (λ (a : Ask). a.call) is.0)) only.0, i))
      (λ first rest s. (s.0, after_own caller (unbroken call) (λ reply. asking (k reply)) e (events_in first) s.0 own is.0 s.1, s.2))
      (passes_calls (k e.reply) next (next_moment m e) store happened (only.1 e.reply) made.1 (subst (λ p. Drives caller p happened left) is.1 drives))
  passes_calls (ask call k) next m store (at_target a ∷ happened) only made (after, is, drives) = absurd is

  -- one call, whose reply told something
  pub record HasCalled {X : Type 0} (call : Call) (told_so : Reply → Result X DrainStuck) (next : X → DrainsOn) (first rest : List Happening) : Type 0 where
    pub others : List Event
    pub event : Event
    pub told : X
    pub split : events_in first ≡ others ++ event ∷ []
    pub waits : made_by caller others ≡ []
    pub own : event.caller ≡ caller
    pub asked : event.ask ≡ unbroken call
    pub good : told_so event.reply ≡ Ok told
    pub drives : Drives caller (next told) rest left

  -- what holds as others call, and that the caller's reply then tells something, or of such a trouble
  pub record IsFairCall {X : Type 0} (call : Call) (told_so : Reply → Result X DrainStuck) (Now : Moment → List Happening → Type 0) : Type 0 where
    pub on : (m : Moment) (e : Event) (rest : List Happening) → (e.caller ≡ caller → ⊥) → Now m (at_source e ∷ rest) → IsLawful m.state (e ∷ []) → Now (next_moment m e) rest
    pub fair : (m : Moment) (e : Event) (rest : List Happening) (why : DrainStuck) → Now m (at_source e ∷ rest) → IsLawful m.state (e ∷ []) → e.caller ≡ caller → e.ask ≡ unbroken call → told_so e.reply ≡ Err why → Bad why

  pub passes_call : {X : Type 0} (call : Call) (told_so : Reply → Result X DrainStuck) (next : X → DrainsOn) (Now : Moment → List Happening → Type 0) (m : Moment) (store : Stored) (happened : List Happening) → IsFairCall call told_so Now → Now m happened → P call → AreMade m store happened → Drives caller (calls call (λ reply. on_good next (told_so reply))) happened left → Pass (HasCalled call told_so next) happened
  passes_call call told_so next Now m store [] f now only made drives = stops tt (λ outcome is. absurd (open_call (sym drives ∙ is)))
    where
      open_call : {outcome : Outcome} → ◌≡◌ {A = DrainsOn} (calls call (λ reply. on_good next (told_so reply))) (ends outcome) → ⊥
      open_call e = cc
  passes_call call told_so next Now m store (at_source e ∷ happened) f now only made (inl (other, drives)) =
      one_more (HasCalled call told_so next) (HasCalled call told_so next) (at_source e) happened (λ rest i. (λ own. absurd (other own), i))
      (λ first rest s. record { others = e ∷ s.others; event = s.event; told = s.told; split = ap (λ es. e ∷ es) s.split; waits = entries_not_first caller e s.others other ∙ s.waits; own = s.own; asked = s.asked; good = s.good; drives = s.drives })
      (passes_call call told_so next Now (next_moment m e) store happened f (f.on m e happened other now made.0) only made.1 drives)
  passes_call {X} call told_so next Now m store (at_source e ∷ happened) f now only made (inr (own, (after, is, drives))) =
      by_told (told_so e.reply) refl (subst (λ p. Drives caller p happened left) is.1 drives)
    where
      its : (rest : List Happening) → IsIdle P caller rest → IsIdle P caller (at_source e ∷ rest)
      its rest i = (λ same. subst P (sym (ap (λ (a : Ask). a.call) is.0)) only, i)

      by_told : (r : Result X DrainStuck) → told_so e.reply ≡ r → Drives caller (on_good next r) happened left → Pass (HasCalled call told_so next) (at_source e ∷ happened)
      by_told (Ok x) good on = goes (at_source e ∷ []) happened refl (its [] tt) (record { others = []; event = e; told = x; split = refl; waits = refl; own = own; asked = is.0; good = good; drives = on })
      by_told (Err why) good on =
          let bad = ended_badly why (next_moment m e) store happened (f.fair m e happened why now made.0 own is.0 good) made.1 on in
          stops (its happened bad.0) bad.1
  passes_call call told_so next Now m store (at_target a ∷ happened) f now only made (after, is, drives) = absurd is
