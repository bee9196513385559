-- What is told of a writer, as numbers.
use Rattle.std.proofs.Common.{◌≡◌, ◌≤◌, ◌<◌, ◌+◌, ◌-◌, ℕ, true, false, nat_eq, nat_le, List, length, length-append, refl, ap, ◌∙◌, arith, sym}
use Rattle.std.specs.Prelude.{if◌then◌else◌}
use Rattle.std.proofs.lemmas.Bool.Decides.{nat_tests}
use Rattle.headline.specs.Writers.{Account, all_landed, any_landed, made_room, one_more}

-- a writer that has issued so many, of which the table counts so many as landed and so many have, is as the lines tell of it
pub record Holds (issued counted landed : ℕ) (acc : Account) : Type 0 where
  pub issued_is : issued ≡ length acc.writes
  pub least : acc.least ≤ counted
  pub most : landed ≤ acc.most
  pub no_fewer : counted ≤ landed
  pub no_more : landed ≤ issued

pub holds_any : (issued counted landed now_counted now_landed : ℕ) (acc : Account) → Holds issued counted landed acc → counted ≤ now_counted → now_counted ≤ now_landed → now_landed ≤ issued → Holds issued now_counted now_landed (any_landed acc)
holds_any issued counted landed now_counted now_landed acc h more few most = record {
  issued_is = h.issued_is;
  least = omega (arith, h.least, more);
  most = omega (arith, h.issued_is, most);
  no_fewer = few;
  no_more = most;
}

pub holds_all : (issued count : ℕ) (acc : Account) → issued ≡ length acc.writes → count ≡ issued → Holds issued issued issued (all_landed count acc)
holds_all issued count acc is all = record { issued_is = is; least = omega (arith, all); most = omega (arith, all); no_fewer = omega arith; no_more = omega arith }

-- the buffer was full, and is empty
pub holds_emptied : (capacity issued counted landed : ℕ) (acc : Account) → Holds issued counted landed acc → capacity + counted ≤ issued → Holds issued issued issued (made_room capacity acc)
holds_emptied capacity issued counted landed acc h full =
    elim (nat_le capacity (length acc.writes - acc.least)) as (λ b. nat_le capacity (length acc.writes - acc.least) ≡ b → Holds issued issued issued (if b then record { latest = acc.latest; writes = acc.writes; least = if nat_eq acc.least acc.most then length acc.writes else acc.least; most = length acc.writes } else acc)) [
      | true ↦ λ t. elim (nat_eq acc.least acc.most) as (λ c. Holds issued issued issued (record { latest = acc.latest; writes = acc.writes; least = if c then length acc.writes else acc.least; most = length acc.writes })) [
        | true ↦ record { issued_is = h.issued_is; least = omega (arith, h.issued_is); most = omega (arith, h.issued_is); no_fewer = omega arith; no_more = omega arith }
        | false ↦ record { issued_is = h.issued_is; least = omega (arith, h.least, h.no_fewer, h.no_more); most = omega (arith, h.issued_is); no_fewer = omega arith; no_more = omega arith }
      ]
      | false ↦ λ t.
          let few : length acc.writes - acc.least < capacity = grind (arith, nat_tests) in
          absurd (let clash : 1 ≤ 0 = omega (arith, few, full, h.least, h.issued_is, h.no_fewer, h.no_more) in omega (arith, clash))
    ] refl

-- it was not, and is as it was
pub holds_unfilled : (capacity issued counted landed : ℕ) (acc : Account) → Holds issued counted landed acc → issued < capacity + counted → Holds issued counted landed (made_room capacity acc)
holds_unfilled capacity issued counted landed acc h room =
    elim (nat_le capacity (length acc.writes - acc.least)) as (λ b. nat_le capacity (length acc.writes - acc.least) ≡ b → Holds issued counted landed (if b then record { latest = acc.latest; writes = acc.writes; least = if nat_eq acc.least acc.most then length acc.writes else acc.least; most = length acc.writes } else acc)) [
      | true ↦ λ t.
          let long : capacity ≤ length acc.writes - acc.least = grind (arith, nat_tests) in
          elim (nat_eq acc.least acc.most) as (λ c. nat_eq acc.least acc.most ≡ c → Holds issued counted landed (record { latest = acc.latest; writes = acc.writes; least = if c then length acc.writes else acc.least; most = length acc.writes })) [
            | true ↦ λ u.
                let same : acc.least ≡ acc.most = grind (arith, nat_tests) in
                absurd (let clash : 1 ≤ 0 = omega (arith, long, room, same, h.issued_is, h.least, h.most, h.no_fewer, h.no_more) in omega (arith, clash))
            | false ↦ λ u. record { issued_is = h.issued_is; least = h.least; most = omega (arith, h.issued_is, h.no_more); no_fewer = h.no_fewer; no_more = h.no_more }
          ] refl
      | false ↦ λ t. h
    ] refl

-- one more was issued, into the buffer
pub holds_one : (issued counted landed id at : ℕ) (bytes : List ℕ) (stamp : ℕ) (acc : Account) → Holds issued counted landed acc → Holds (issued + 1) counted landed (one_more id at bytes stamp acc)
holds_one issued counted landed id at bytes stamp acc h = record { issued_is = ap (λ k. k + 1) h.issued_is ∙ sym (length-append acc.writes _); least = h.least; most = h.most; no_fewer = h.no_fewer; no_more = omega (arith, h.no_more) }
