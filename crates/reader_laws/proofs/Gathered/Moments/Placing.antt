-- Histories in parts, and the places of a caller's calls in them.
use Rattle.std.proofs.Common.{◌≡◌, ℕ, List, [], ◌∷◌, ◌++◌, refl, ap, sym, ◌∙◌, arith, true, false, nat_eq}
use Rattle.std.specs.Prelude.{if◌then◌else◌}
use Rattle.std.proofs.lemmas.Bool.Decides.{nat_tests}
use Rattle.mount_model.specs.History.{Event, state_after}
use Rattle.mount_sound.specs.Owed.{IsLawful}
use Rattle.mount_sound.specs.Issued.{issued}
use Rattle.reader_laws.specs.Moments.{Moment, next_moment, moment_after}
use Rattle.reader_laws.specs.Seen.{Asked, asked_in, calls_of, IsPlaceOf}
use Rattle.reader_laws.proofs.Gathered.Moments.Seeing.{alike}

-- ---------- histories in parts

pub legal_first : (start : Moment) (first rest : List Event) → IsLawful start.state (first ++ rest) → IsLawful start.state first
legal_first start [] rest l = tt
legal_first start (e ∷ first) rest l = (l.0, l.1, legal_first (next_moment start e) first rest l.2)

pub legal_rest : (start : Moment) (first rest : List Event) → IsLawful start.state (first ++ rest) → IsLawful (moment_after start first).state rest
legal_rest start [] rest l = l
legal_rest start (e ∷ first) rest l = legal_rest (next_moment start e) first rest l.2

pub moment-append : (start : Moment) (first rest : List Event) → moment_after start (first ++ rest) ≡ moment_after (moment_after start first) rest
moment-append start [] rest = refl
moment-append start (e ∷ first) rest = moment-append (next_moment start e) first rest

-- The moment after events has the state in which they end, and what was issued until then.
pub follows : (moment : Moment) (events : List Event) → ((moment_after moment events).state ≡ state_after moment.state events) × ((moment_after moment events).issued ≡ issued moment.issued moment.state events)
follows moment [] = (refl, refl)
follows moment (e ∷ events) = follows (next_moment moment e) events

-- ---------- places of calls

head_of : (x y : Asked) (xs ys : List Asked) → x ∷ xs ≡ y ∷ ys → (x ≡ y) × (xs ≡ ys)
head_of x y xs ys e = (cc, cc)

passed : (caller : ℕ) (v : Event) (events : List Event) (before : List Asked) (asked : Asked) (after : List Asked) → nat_eq v.caller caller ≡ false → IsPlaceOf caller events before asked after → IsPlaceOf caller (v ∷ events) before asked after
passed caller v events before asked after t p = record { first = v ∷ p.first; event = p.event; rest = p.rest; split = ap (λ l. v ∷ l) p.split; by_caller = p.by_caller; is = p.is; calls_before = rw t p.calls_before; calls_after = p.calls_after }

-- Each call in a caller's list has its place in the history.
pub place_of : (caller : ℕ) (events : List Event) (before : List Asked) (asked : Asked) (after : List Asked) → calls_of caller events ≡ before ++ asked ∷ after → IsPlaceOf caller events before asked after
place_of caller [] [] asked after e = absurd (cc)
place_of caller [] (b ∷ before) asked after e = absurd (cc)
place_of caller (v ∷ events) [] asked after e =
    elim (nat_eq v.caller caller) as (λ t. nat_eq v.caller caller ≡ t → (if t then asked_in v ∷ calls_of caller events else calls_of caller events) ≡ asked ∷ after → IsPlaceOf caller (v ∷ events) [] asked after) [
      | true ↦ λ t f. let h = head_of (asked_in v) asked (calls_of caller events) after f in record { first = []; event = v; rest = events; split = refl; by_caller = alike v.caller caller t; is = h.0; calls_before = refl; calls_after = h.1 }
      | false ↦ λ t f. passed caller v events [] asked after t (place_of caller events [] asked after f)
    ] refl e
place_of caller (v ∷ events) (b ∷ more) asked after e =
    elim (nat_eq v.caller caller) as (λ t. nat_eq v.caller caller ≡ t → (if t then asked_in v ∷ calls_of caller events else calls_of caller events) ≡ b ∷ (more ++ asked ∷ after) → IsPlaceOf caller (v ∷ events) (b ∷ more) asked after) [
      | true ↦ λ t f.
          let h = head_of (asked_in v) b (calls_of caller events) (more ++ asked ∷ after) f in
          let p = place_of caller events more asked after h.1 in
          record { first = v ∷ p.first; event = p.event; rest = p.rest; split = ap (λ l. v ∷ l) p.split; by_caller = p.by_caller; is = p.is; calls_before = rw t (ap (λ l. asked_in v ∷ l) p.calls_before ∙ ap (λ x. x ∷ more) h.0); calls_after = p.calls_after }
      | false ↦ λ t f. passed caller v events (b ∷ more) asked after t (place_of caller events (b ∷ more) asked after f)
    ] refl e

-- a history in two parts, by a caller's calls
pub record Parted (caller : ℕ) (events : List Event) (mine others : List Asked) : Type 0 where
  pub first : List Event
  pub rest : List Event
  pub split : events ≡ first ++ rest
  pub calls_first : calls_of caller first ≡ mine
  pub calls_rest : calls_of caller rest ≡ others

pub its_call : (caller : ℕ) (e : Event) (events : List Event) → e.caller ≡ caller → calls_of caller (e ∷ events) ≡ asked_in e ∷ calls_of caller events
its_call caller e events is = let t : nat_eq e.caller caller ≡ true = grind (arith, nat_tests) in rw t refl

calls-append : (caller : ℕ) (first rest : List Event) → calls_of caller (first ++ rest) ≡ calls_of caller first ++ calls_of caller rest
calls-append caller [] rest = refl
calls-append caller (e ∷ first) rest = elim (nat_eq e.caller caller) as (λ b. (if b then asked_in e ∷ calls_of caller (first ++ rest) else calls_of caller (first ++ rest)) ≡ (if b then asked_in e ∷ calls_of caller first else calls_of caller first) ++ calls_of caller rest) [
  | true ↦ ap (λ l. asked_in e ∷ l) (calls-append caller first rest)
  | false ↦ calls-append caller first rest
]

append_all : (first : List Event) (e : Event) (more rest : List Event) → (first ++ e ∷ more) ++ rest ≡ first ++ e ∷ (more ++ rest)
append_all [] e more rest = refl
append_all (x ∷ first) e more rest = ap (λ l. x ∷ l) (append_all first e more rest)

pub parted : (caller : ℕ) (events : List Event) (mine others : List Asked) → calls_of caller events ≡ mine ++ others → Parted caller events mine others
parted caller events [] others e = record { first = []; rest = events; split = refl; calls_first = refl; calls_rest = e }
parted caller events (a ∷ mine) others e =
    let p = place_of caller events [] a (mine ++ others) e in
    let r = parted caller p.rest mine others p.calls_after in
    record {
      first = p.first ++ p.event ∷ r.first;
      rest = r.rest;
      split = p.split ∙ ap (λ l. p.first ++ p.event ∷ l) r.split ∙ sym (append_all p.first p.event r.first r.rest);
      calls_first = calls-append caller p.first (p.event ∷ r.first) ∙ ap (λ l. l ++ calls_of caller (p.event ∷ r.first)) p.calls_before ∙ its_call caller p.event r.first p.by_caller ∙ ap (λ x. x ∷ calls_of caller r.first) p.is ∙ ap (λ l. a ∷ l) r.calls_first;
      calls_rest = r.calls_rest;
    }
