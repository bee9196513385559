-- A machine, and then what its result leads to.
use Rattle.std.proofs.Common.{◌≡◌, true, false, Option, Some, None, refl, ap, sym, ◌∙◌, subst}
use Rattle.std.proofs.lemmas.Option.{none-some}
use Rattle.std.specs.Prelude.{IfSome}
use Rattle.mount_model.specs.Program.{Program, done, ask, followed_by}
use Rattle.mount_model.specs.Standing.{Standing, ready, asked, Rest, over, awaits, next_of, rest_of, replied, Awaits, IsOver, IsFresh}
use Rattle.mount_model.specs.Composed.{then_on, rest_then, is_awaiting, calling}

-- ---- a machine by itself

pub awaits_so : {A R X : Type 0} (rest : Rest A R X) → is_awaiting rest ≡ true → Awaits rest
awaits_so (over x) a = absurd (let e : false ≡ true = a in cc)
awaits_so (awaits f) a = tt

pub over_so : {A R X : Type 0} (rest : Rest A R X) → is_awaiting rest ≡ false → IsOver rest
over_so (over x) a = tt
over_so (awaits f) a = absurd (let e : true ≡ false = a in cc)

pub some_awaits : {A R X : Type 0} (s : Standing A R X) (call : A) → Some call ≡ next_of s → is_awaiting (rest_of s) ≡ true
some_awaits (ready (done x)) call some = absurd (none-some call (sym some))
some_awaits (ready (ask q f)) call some = refl
some_awaits (asked f) call some = refl

pub again_same : {A R X : Type 0} (s : Standing A R X) → IfSome (next_of s) (λ call. next_of s ≡ Some call)
again_same (ready (done x)) = tt
again_same (ready (ask q f)) = refl
again_same (asked f) = tt

pub fresh_so : {A R X : Type 0} (s : Standing A R X) (p : Program A R X) → s ≡ ready p → IsFresh s
fresh_so {A} {R} {X} s p is = let P : Standing A R X → Type 0 = λ t. IsFresh t in subst P (sym is) tt

-- standings at two programs are one where the programs are
pub ready_same : {A R X : Type 0} (p q : Program A R X) → ready p ≡ ready q → p ≡ q
ready_same p q e = cc

-- a machine without a next call is at its end
pub through : {A R X : Type 0} (old new : Standing A R X) → IsFresh old → None ≡ next_of old → rest_of new ≡ rest_of old → IsOver (rest_of new)
through {A} {R} {X} (ready (done x)) new fresh none same = let P : Rest A R X → Type 0 = λ rest. IsOver rest in subst P (sym same) tt
through (ready (ask q f)) new fresh none same = absurd (none-some q none)
through (asked f) new fresh none same = absurd fresh

the_result : {A R X : Type 0} (rest : Rest A R X) → IsOver rest → (x : X) × (rest ≡ over x)
the_result (over x) is = (x, refl)
the_result (awaits f) is = absurd is

-- ---- a machine, and then what its result leads to

module _ {A R X Y : Type 0} (next : X → Program A R Y) where
  -- it is where the machine is
  pub rest_on : (s : Standing A R X) → rest_of (then_on s next) ≡ rest_then (rest_of s) next
  rest_on (ready (done x)) = refl
  rest_on (ready (ask q f)) = refl
  rest_on (asked f) = refl

  pub same_rest : (s t : Standing A R X) → rest_of s ≡ rest_of t → rest_of (then_on s next) ≡ rest_of (then_on t next)
  same_rest s t same = rest_on s ∙ ap (λ rest. rest_then rest next) same ∙ sym (rest_on t)

  -- the machine's next call is the next one
  pub asks_then : (s : Standing A R X) (call : A) → Some call ≡ next_of s → Some call ≡ next_of (then_on s next)
  asks_then (ready (done x)) call some = absurd (none-some call (sym some))
  asks_then (ready (ask q f)) call some = some
  asks_then (asked f) call some = some

  pub next_then : (s : Standing A R X) → is_awaiting (rest_of s) ≡ true → next_of (then_on s next) ≡ next_of s
  next_then (ready (done x)) a = absurd (let e : false ≡ true = a in cc)
  next_then (ready (ask q f)) a = refl
  next_then (asked f) a = refl

  pub again_then : (s t : Standing A R X) → is_awaiting (rest_of s) ≡ true → is_awaiting (rest_of t) ≡ true → IfSome (next_of s) (λ call. next_of t ≡ Some call)
      → IfSome (next_of (then_on s next)) (λ call. next_of (then_on t next) ≡ Some call)
  again_then (ready (done x)) t a b h = absurd (let e : false ≡ true = a in cc)
  again_then (ready (ask q f)) t a b h = next_then t b ∙ h
  again_then (asked f) t a b h = tt

  -- the reply goes to the machine
  pub reply_then : (s : Standing A R X) (reply : R) → is_awaiting (rest_of s) ≡ true → followed_by (replied (rest_of s) reply) next ≡ replied (rest_of (then_on s next)) reply
  reply_then (ready (done x)) reply a = absurd (let e : false ≡ true = a in cc)
  reply_then (ready (ask q f)) reply a = refl
  reply_then (asked f) reply a = refl

  pub awaiting_then : (s : Standing A R X) → is_awaiting (rest_of s) ≡ true → is_awaiting (rest_of (then_on s next)) ≡ true
  awaiting_then (ready (done x)) a = absurd (let e : false ≡ true = a in cc)
  awaiting_then (ready (ask q f)) a = refl
  awaiting_then (asked f) a = refl

  -- a machine with a call is not at its end, whatever comes after it
  pub not_over : (s : Standing A R X) → is_awaiting (rest_of s) ≡ true → IsOver (rest_of (then_on s next)) → ⊥
  not_over (ready (done x)) a past = absurd (let e : false ≡ true = a in cc)
  not_over (ready (ask q f)) a past = past
  not_over (asked f) a past = past

  -- the result leads on
  pub leads_then : (s : Standing A R X) (x : X) → rest_of s ≡ over x → then_on s next ≡ ready (next x)
  leads_then (ready (done made)) x is = let same : made ≡ x = cc in ap (λ (r : X). ready (next r)) same
  leads_then (ready (ask q f)) x is = absurd (cc)
  leads_then (asked f) x is = absurd (cc)

  -- two machines at one end lead on alike
  pub same_then : (old new : Standing A R X) → rest_of new ≡ rest_of old → IsOver (rest_of new) → then_on new next ≡ then_on old next
  same_then old new same is =
      let r = the_result (rest_of new) is in
      leads_then new r.0 r.1 ∙ sym (leads_then old r.0 (sym same ∙ r.1))

  -- ---- a call that isn't given yet, or was

  pub given_next : (call : Option A) (rest : Rest A R X) → is_awaiting rest ≡ true → call ≡ next_of (calling call rest next)
  given_next call (over x) a = absurd (let e : false ≡ true = a in cc)
  given_next (Some call) (awaits f) a = refl
  given_next None (awaits f) a = refl

  pub given_rest : (call : Option A) (rest : Rest A R X) → rest_of (calling None rest next) ≡ rest_of (calling call rest next)
  given_rest call (over x) = refl
  given_rest (Some call) (awaits f) = refl
  given_rest None (awaits f) = refl

  pub given_again : (P : A → Type 0) (rest : Rest A R X) → is_awaiting rest ≡ true → IfSome (next_of (calling None rest next)) P
  given_again P (over x) a = absurd (let e : false ≡ true = a in cc)
  given_again P (awaits f) a = tt

  pub reply_calling : (call : Option A) (rest : Rest A R X) (reply : R) → is_awaiting rest ≡ true → followed_by (replied rest reply) next ≡ replied (rest_of (calling call rest next)) reply
  reply_calling call (over x) reply a = absurd (let e : false ≡ true = a in cc)
  reply_calling (Some call) (awaits f) reply a = refl
  reply_calling None (awaits f) reply a = refl

  pub calling_not_over : (call : Option A) (rest : Rest A R X) → is_awaiting rest ≡ true → IsOver (rest_of (calling call rest next)) → ⊥
  calling_not_over call (over x) a past = absurd (let e : false ≡ true = a in cc)
  calling_not_over (Some call) (awaits f) a past = past
  calling_not_over None (awaits f) a past = past

  -- the call of a fresh machine
  pub calls_then : (s : Standing A R X) (call : A) (rest : Rest A R X) → IsFresh s → Some call ≡ next_of s → rest ≡ rest_of s → calling (Some call) rest next ≡ then_on s next
  calls_then (ready (done x)) call rest fresh some same = absurd (none-some call (sym some))
  calls_then (ready (ask q f)) call rest fresh some same = ap (λ r. calling (Some call) r next) same ∙ ap (λ o. calling o (awaits f) next) some
  calls_then (asked f) call rest fresh some same = absurd fresh

pub calls_awaits : {A R X : Type 0} (s : Standing A R X) (call : A) (rest : Rest A R X) → IsFresh s → Some call ≡ next_of s → rest ≡ rest_of s → is_awaiting rest ≡ true
calls_awaits (ready (done x)) call rest fresh some same = absurd (none-some call (sym some))
calls_awaits (ready (ask q f)) call rest fresh some same = ap is_awaiting same
calls_awaits (asked f) call rest fresh some same = absurd fresh
