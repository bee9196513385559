-- Lists of pieces with one more at the end, and the last truncate.
use Rattle.std.proofs.Common.{◌≡◌, ℕ, ◌+◌, ◌-◌, ◌<◌, ◌≤◌, inl, inr, true, false, min, cond, List, [], ◌∷◌, ◌++◌, ◌^◌, length, get_or, Option, None, Some, MatchOption, option_map, option_to_list, refl, ap, ◌∙◌, sym, subst, arith, append_assoc}
use Rattle.std.proofs.lemmas.Bool.{cases_lt, cases_Bool, cond-true, cond-false}
use Rattle.std.proofs.lemmas.Bool.Decides.{nat_tests}
use Rattle.plfs_types.specs.declared.entries.Trunc.{Trunc}
use Rattle.plain_file.specs.declared.pieces.Piece.{Piece}
use Rattle.plain_file.specs.Sources.{newer_source, Source, source_in, source_at, has_byte}
use Rattle.plain_file.specs.Runs.{AreRuns, IsPiece, Follows, Joins, EndsPast}
use Rattle.plain_file.specs.Size.{is_later, later}
use Rattle.plain_file.proofs.Facts.{source_at-here, source_at-past, source_at-before, has-before}
use Rattle.interval_merge.specs.Sweep.{AllEndBy, CanLie, Extends, EndsFrom, IsPart, IsRestFrom, Lays, LiesWithin, SaysUntil}
use Rattle.interval_merge.proofs.ListsLemmas.{newer_source-none}

-- truncates

later-yes : (t u : Trunc) → is_later u t ≡ true → later (Some t) (Some u) ≡ Some u
later-yes t u h = cond-true (is_later u t) (Some u) (Some t) h

later-no : (t u : Trunc) → is_later u t ≡ false → later (Some t) (Some u) ≡ Some t
later-no t u h = cond-false (is_later u t) (Some u) (Some t) h

later_later : (a b c : Trunc) → is_later b a ≡ true → is_later c b ≡ true → is_later c a ≡ true
later_later a b c h k = grind (arith, nat_tests)

none_later : (a b c : Trunc) → is_later b a ≡ false → is_later c b ≡ false → is_later c a ≡ false
none_later a b c h k = grind (arith, nat_tests)

pub later-assoc : (o p q : Option Trunc) → later (later o p) q ≡ later o (later p q)
later-assoc None p q = refl
later-assoc (Some a) None q = refl
later-assoc (Some a) (Some b) None = elim (is_later b a) as (λ t. later (cond t (Some b) (Some a)) None ≡ cond t (Some b) (Some a)) [ true ↦ refl | false ↦ refl ]
later-assoc (Some a) (Some b) (Some c) = elim (cases_Bool (is_later b a)) [
  | inl ba ↦ ap (λ o. later o (Some c)) (later-yes a b ba) ∙ elim (cases_Bool (is_later c b)) [
    | inl cb ↦ later-yes b c cb ∙ sym (ap (later (Some a)) (later-yes b c cb) ∙ later-yes a c (later_later a b c ba cb))
    | inr bc ↦ later-no b c bc ∙ sym (ap (later (Some a)) (later-no b c bc) ∙ later-yes a b ba)
  ]
  | inr ab ↦ ap (λ o. later o (Some c)) (later-no a b ab) ∙ elim (cases_Bool (is_later c b)) [
    | inl cb ↦ sym (ap (later (Some a)) (later-yes b c cb))
    | inr bc ↦ later-no a c (none_later a b c ab bc) ∙ sym (ap (later (Some a)) (later-no b c bc) ∙ later-no a b ab)
  ]
]

pub later-none : (o : Option Trunc) → later o None ≡ o
later-none None = refl
later-none (Some t) = refl

-- runs with one more at the end

Follows-append : (r : Piece) (xs : List Piece) (l p : Piece) → Follows r (xs ++ l ∷ []) → Follows r ((xs ++ l ∷ []) ++ p ∷ [])
Follows-append r [] l p h = h
Follows-append r (x ∷ xs) l p h = h

pub AreRuns-push : (xs : List Piece) (l p : Piece) → AreRuns (xs ++ l ∷ []) → l.at + l.len ≤ p.at → (Joins l p → ⊥) → IsPiece p → AreRuns ((xs ++ l ∷ []) ++ p ∷ [])
AreRuns-push [] l p runs le apart piece = (runs.0, (le, apart), (piece, tt, tt))
AreRuns-push (x ∷ xs) l p runs le apart piece = (runs.0, Follows-append x xs l p runs.1, AreRuns-push xs l p runs.2 le apart piece)

-- a longer piece of the same write in the place of the last one
pub record Grown (l m : Piece) : Type 0 where
  pub at : m.at ≡ l.at
  pub physical : m.physical ≡ l.physical
  pub stamp : m.stamp ≡ l.stamp
  pub writer : m.writer ≡ l.writer

Joins-grown : (r l m : Piece) → Grown l m → Joins r m → Joins r l
Joins-grown r l m g j = record { touch = j.touch ∙ g.at; stamps = j.stamps ∙ g.stamp; writers = j.writers ∙ g.writer; logs = j.logs ∙ g.physical }

Follows-grown : (r : Piece) (xs : List Piece) (l m : Piece) → Grown l m → Follows r (xs ++ l ∷ []) → Follows r (xs ++ m ∷ [])
Follows-grown r [] l m g h = (omega (arith, h.0, g.at), λ j. h.1 (Joins-grown r l m g j))
Follows-grown r (x ∷ xs) l m g h = h

pub AreRuns-grown : (xs : List Piece) (l m : Piece) → Grown l m → IsPiece m → AreRuns (xs ++ l ∷ []) → AreRuns (xs ++ m ∷ [])
AreRuns-grown [] l m g piece runs = (piece, tt, tt)
AreRuns-grown (x ∷ xs) l m g piece runs = (runs.0, Follows-grown x xs l m g runs.1, AreRuns-grown xs l m g piece runs.2)

pub last_is_piece : (xs : List Piece) (l : Piece) → AreRuns (xs ++ l ∷ []) → IsPiece l
last_is_piece [] l runs = runs.0
last_is_piece (x ∷ xs) l runs = last_is_piece xs l runs.2

pub last_ends : (n : ℕ) (xs : List Piece) (l : Piece) → AllEndBy n (xs ++ l ∷ []) → l.at + l.len ≤ n
last_ends n [] l all = all.0
last_ends n (x ∷ xs) l all = last_ends n xs l all.1

AllEndBy-push : (n m : ℕ) (xs : List Piece) (p : Piece) → AllEndBy n xs → n ≤ m → p.at + p.len ≤ m → AllEndBy m (xs ++ p ∷ [])
AllEndBy-push n m [] p all le h = (h, tt)
AllEndBy-push n m (x ∷ xs) p all le h = (omega (arith, all.0), AllEndBy-push n m xs p all.1 le h)

AllEndBy-front : (n : ℕ) (xs : List Piece) (l : Piece) → AllEndBy n (xs ++ l ∷ []) → AllEndBy n xs
AllEndBy-front n [] l all = tt
AllEndBy-front n (x ∷ xs) l all = (all.0, AllEndBy-front n xs l all.1)

-- two ends of a list that say the same at x
source_at-same_end : (xs ys zs : List Piece) (x : ℕ) → source_at ys x ≡ source_at zs x → source_at (xs ++ ys) x ≡ source_at (xs ++ zs) x
source_at-same_end [] ys zs x h = h
source_at-same_end (p ∷ xs) ys zs x h = ap (cond (has_byte p x) (Some (source_in x p))) (source_at-same_end xs ys zs x h)

source_eq : (s t : Source) → s.stamp ≡ t.stamp → s.writer ≡ t.writer → s.place ≡ t.place → s ≡ t
source_eq s t a b c =
    let lhs : ℕ × ℕ × ℕ = (s.stamp, s.writer, s.place) in
    let rhs : ℕ × ℕ × ℕ = (t.stamp, t.writer, t.place) in
    let e : lhs ≡ rhs = cc in
    ap (λ (p : ℕ × ℕ × ℕ). record { stamp = p.0; writer = p.1; place = p.2 }) e

grown_source : (l m : Piece) → Grown l m → (x : ℕ) → source_in x m ≡ source_in x l
grown_source l m g x = source_eq (source_in x m) (source_in x l) g.stamp g.writer (omega (arith, g.at, g.physical))

joined_source : (l p m : Piece) → Joins l p → Grown l m → (x : ℕ) → l.at + l.len ≤ x → source_in x m ≡ source_in x p
joined_source l p m j g x after = source_eq (source_in x m) (source_in x p) (g.stamp ∙ j.stamps) (g.writer ∙ j.writers) (omega (arith, g.at, g.physical, j.touch, j.logs))

-- a grown piece says what the two that it joins say
grown_says : (l p m : Piece) → Joins l p → Grown l m → m.len ≡ l.len + p.len → (x : ℕ) → source_at (m ∷ []) x ≡ source_at (l ∷ p ∷ []) x
grown_says l p m j g len x = elim (cases_lt x l.at) [
  | inl before ↦ cond-false (has_byte m x) (Some (source_in x m)) None (has-before m x (omega (arith, g.at)))
      ∙ sym (cond-false (has_byte l x) (Some (source_in x l)) (source_at (p ∷ []) x) (has-before l x before) ∙ cond-false (has_byte p x) (Some (source_in x p)) None (has-before p x (omega (arith, j.touch))))
  | inr from ↦ elim (cases_lt x (l.at + l.len)) [
    | inl within ↦ source_at-here m [] x (omega (arith, g.at)) (omega (arith, g.at)) ∙ ap Some (grown_source l m g x) ∙ sym (source_at-here l (p ∷ []) x from within)
    | inr after ↦ elim (cases_lt x (p.at + p.len)) [
      | inl in_next ↦ source_at-here m [] x (omega (arith, g.at)) (omega (arith, g.at, j.touch)) ∙ ap Some (joined_source l p m j g x after)
          ∙ sym (source_at-past l (p ∷ []) x after ∙ source_at-here p [] x (omega (arith, j.touch)) in_next)
      | inr past ↦ source_at-past m [] x (omega (arith, g.at, j.touch)) ∙ sym (source_at-past l (p ∷ []) x after ∙ source_at-past p [] x past)
    ]
  ]
]

pub Extends-first : (p : Piece) → IsPiece p → Extends [] p (p ∷ [])
Extends-first p piece = record { runs = (piece, tt, tt); says = λ x. refl; ends = (omega arith, tt) }

pub Extends-push : (xs : List Piece) (l p : Piece) → AreRuns (xs ++ l ∷ []) → AllEndBy p.at (xs ++ l ∷ []) → (Joins l p → ⊥) → IsPiece p → Extends (xs ++ l ∷ []) p ((xs ++ l ∷ []) ++ p ∷ [])
Extends-push xs l p runs ends apart piece = record {
  runs = AreRuns-push xs l p runs (last_ends p.at xs l ends) apart piece;
  says = λ x. refl;
  ends = AllEndBy-push p.at (p.at + p.len) (xs ++ l ∷ []) p ends (omega arith) (omega arith);
}

pub Extends-grown : (xs : List Piece) (l p m : Piece) → AreRuns (xs ++ l ∷ []) → AllEndBy p.at (xs ++ l ∷ []) → Joins l p → IsPiece p → Grown l m → m.len ≡ l.len + p.len → Extends (xs ++ l ∷ []) p (xs ++ m ∷ [])
Extends-grown xs l p m runs ends j piece g len =
    let is_l : IsPiece l = last_is_piece xs l runs in
    let is_m : IsPiece m = record {
      not_empty = omega (arith, is_l.not_empty);
      within = omega (arith, g.at, j.touch, piece.within);
      in_log = omega (arith, g.physical, j.logs, piece.in_log);
    } in
    record {
      runs = AreRuns-grown xs l m g is_m runs;
      says = λ x. source_at-same_end xs (m ∷ []) (l ∷ p ∷ []) x (grown_says l p m j g len x) ∙ sym (ap (λ ps. source_at ps x) (append_assoc xs (l ∷ []) (p ∷ [])));
      ends = AllEndBy-push p.at (p.at + p.len) xs m (AllEndBy-front p.at xs l ends) (omega arith) (omega (arith, g.at, j.touch));
    }

-- a gap before the first piece
pub SaysUntil-gap : (pieces : List Piece) (from : ℕ) (d : Piece) → 0 < length pieces → AreRuns pieces → from < (get_or pieces 0 d).at → SaysUntil pieces from None ((get_or pieces 0 d).at)
SaysUntil-gap [] from d some runs before = absurd (omega arith)
SaysUntil-gap (p ∷ pieces) from d some runs before = record {
  more = before;
  within = omega (arith, runs.0.within);
  first = omega arith;
  holds = tt;
  same = λ x h l. source_at-before p.at (p ∷ pieces) x runs (omega arith) l;
}

-- where the pieces end, nothing follows
quiet_after : (n : ℕ) (pieces : List Piece) (x : ℕ) → AllEndBy n pieces → n ≤ x → source_at pieces x ≡ None
quiet_after n [] x all h = refl
quiet_after n (p ∷ pieces) x all h = source_at-past p pieces x (omega (arith, all.0)) ∙ quiet_after n pieces x all.1 h

AllEndBy-limit : (pieces : List Piece) → AreRuns pieces → AllEndBy (2 ^ 40) pieces
AllEndBy-limit [] runs = tt
AllEndBy-limit (p ∷ pieces) runs = (runs.0.within, AllEndBy-limit pieces runs.2)

AllEndBy-more : (n m : ℕ) (pieces : List Piece) → AllEndBy n pieces → n ≤ m → AllEndBy m pieces
AllEndBy-more n m [] all le = tt
AllEndBy-more n m (p ∷ pieces) all le = (omega (arith, all.0), AllEndBy-more n m pieces all.1 le)

-- a piece at the end changes nothing before it, and is all that is said from there on
pushed_before : (xs : List Piece) (p : Piece) (x : ℕ) → x < p.at → source_at (xs ++ p ∷ []) x ≡ source_at xs x
pushed_before [] p x h = cond-false (has_byte p x) (Some (source_in x p)) None (has-before p x h)
pushed_before (q ∷ xs) p x h = ap (cond (has_byte q x) (Some (source_in x q))) (pushed_before xs p x h)

pushed_at : (xs : List Piece) (p : Piece) (x : ℕ) → AllEndBy p.at xs → p.at ≤ x → source_at (xs ++ p ∷ []) x ≡ source_at (p ∷ []) x
pushed_at [] p x all h = refl
pushed_at (q ∷ xs) p x all h = source_at-past q (xs ++ p ∷ []) x (omega (arith, all.0)) ∙ pushed_at xs p x all.1 h

-- the runs so far say what they should of each byte below `from`
pub record IsMerged (a b runs : List Piece) (from : ℕ) : Type 0 where
  pub runs_are : AreRuns runs
  pub ends : AllEndBy from runs
  pub says : (x : ℕ) → x < from → source_at runs x ≡ newer_source (source_at a x) (source_at b x)

-- where neither list says anything up to `until`, the runs stay
pub IsMerged-gap : (a b runs : List Piece) (from until : ℕ) → from ≤ until → IsMerged a b runs from
    → ((x : ℕ) → from ≤ x → x < until → newer_source (source_at a x) (source_at b x) ≡ None) → IsMerged a b runs until
IsMerged-gap a b runs from until le m none = record {
  runs_are = m.runs_are;
  ends = AllEndBy-more from until runs m.ends le;
  says = λ x h. elim (cases_lt x from) [ inl before ↦ m.says x before | inr past ↦ quiet_after from runs x m.ends past ∙ sym (none x past h) ];
}

-- what is left of both lists says what the lists say
left_say : (a b left_a left_b : List Piece) (from x : ℕ) → IsRestFrom a from left_a → IsRestFrom b from left_b → from ≤ x
    → newer_source (source_at a x) (source_at b x) ≡ newer_source (source_at left_a x) (source_at left_b x)
left_say a b left_a left_b from x la lb h =
    ap (λ o. newer_source o (source_at b x)) (sym (la.same x h)) ∙ ap (newer_source (source_at left_a x)) (sym (lb.same x h))

-- what both lists say next is laid behind the runs
pub IsMerged-part : (a b runs new left_a left_b : List Piece) (from until : ℕ) (piece : Option Piece) → IsMerged a b runs from
    → IsRestFrom a from left_a → IsRestFrom b from left_b → IsPart left_a left_b from piece until → Lays runs piece new → IsMerged a b new until
IsMerged-part a b runs new left_a left_b from until None m la lb part lays =
    let P : List Piece → Type 0 = λ ps. IsMerged a b ps until in
    subst P (sym lays) (IsMerged-gap a b runs from until (omega (arith, part.more)) m (λ x h l. left_say a b left_a left_b from x la lb h ∙ part.same x h l))
IsMerged-part a b runs new left_a left_b from until (Some p) m la lb part lays =
    let P : ℕ → Type 0 = λ n. AllEndBy n new in
    record {
      runs_are = lays.runs;
      ends = subst P part.holds.ends lays.ends;
      says = λ x h. lays.says x ∙ elim (cases_lt x from) [
        | inl before ↦ pushed_before runs p x (omega (arith, part.holds.starts)) ∙ m.says x before
        | inr past_it ↦ (let told : newer_source (source_at a x) (source_at b x) ≡ source_at (p ∷ []) x = left_say a b left_a left_b from x la lb past_it ∙ part.same x past_it h in
            elim (cases_lt x p.at) [
              | inl gap ↦ pushed_before runs p x gap ∙ quiet_after from runs x m.ends past_it ∙ sym (told ∙ cond-false (has_byte p x) (Some (source_in x p)) None (has-before p x gap))
              | inr within ↦ pushed_at runs p x (AllEndBy-more from p.at runs m.ends part.holds.starts) within ∙ sym told
            ])
      ];
    }

pub CanLie-part : (runs : List Piece) (from until : ℕ) (piece : Option Piece) → AllEndBy from runs → MatchOption piece (Unit {0}) (LiesWithin from until) → CanLie runs piece
CanLie-part runs from until None ends holds = tt
CanLie-part runs from until (Some p) ends holds = (holds.piece, AllEndBy-more from p.at runs ends holds.starts)

-- all bytes are done at the limit
pub IsMerged-all : (a b runs : List Piece) → AreRuns a → AreRuns b → IsMerged a b runs (2 ^ 40) → (x : ℕ) → source_at runs x ≡ newer_source (source_at a x) (source_at b x)
IsMerged-all a b runs runs_a runs_b m x = elim (cases_lt x (2 ^ 40)) [
  | inl below ↦ m.says x below
  | inr beyond ↦ quiet_after (2 ^ 40) runs x m.ends beyond
      ∙ sym (ap (λ o. newer_source o (source_at b x)) (quiet_after (2 ^ 40) a x (AllEndBy-limit a runs_a) beyond) ∙ quiet_after (2 ^ 40) b x (AllEndBy-limit b runs_b) beyond)
]

-- what is left after one step
pub IsLeft-more : (a left rest : List Piece) (from until : ℕ) → from ≤ until → IsRestFrom a from left → IsRestFrom left until rest → IsRestFrom a until rest
IsLeft-more a left rest from until le l r = record { runs = r.runs; first = r.first; same = λ x h. r.same x h ∙ l.same x (omega arith) }

starts_past : (a : List Piece) → AreRuns a → EndsPast 0 a
starts_past [] runs = tt
starts_past (p ∷ a) runs = omega (arith, runs.0.not_empty)

pub IsLeft-start : (a : List Piece) → AreRuns a → IsRestFrom a 0 a
IsLeft-start a runs = record { runs = runs; first = starts_past a runs; same = λ x h. refl }

pub EndsFrom-less : (pieces : List Piece) (at until : ℕ) → at ≤ until → EndsFrom until pieces → EndsFrom at pieces
EndsFrom-less [] at until le h = tt
EndsFrom-less (p ∷ pieces) at until le h = omega arith

-- of a first piece its own bytes
alone : (p : Piece) (a : List Piece) (x : ℕ) → AreRuns (p ∷ a) → x < p.at + p.len → source_at (p ∷ a) x ≡ source_at (p ∷ []) x
alone p a x runs l = elim (cases_lt x p.at) [
  | inl before ↦ source_at-before p.at (p ∷ a) x runs (omega arith) before ∙ sym (cond-false (has_byte p x) (Some (source_in x p)) None (has-before p x before))
  | inr from ↦ source_at-here p a x from l ∙ sym (source_at-here p [] x from l)
]

-- the first list's first piece ends before the second one's begins
pub IsPart-first : (a b : List Piece) (from : ℕ) (d : Piece) → 0 < length a → 0 < length b → AreRuns a → AreRuns b → from ≤ (get_or a 0 d).at
    → (get_or a 0 d).at + (get_or a 0 d).len ≤ (get_or b 0 d).at → IsPart a b from (Some (get_or a 0 d)) ((get_or a 0 d).at + (get_or a 0 d).len)
IsPart-first [] b from d some_a some_b runs_a runs_b le before = absurd (omega arith)
IsPart-first (p ∷ a) [] from d some_a some_b runs_a runs_b le before = absurd (omega arith)
IsPart-first (p ∷ a) (q ∷ b) from d some_a some_b runs_a runs_b le before = record {
  more = omega (arith, runs_a.0.not_empty);
  within = runs_a.0.within;
  first_a = omega arith;
  first_b = omega arith;
  holds = record { piece = runs_a.0; starts = le; ends = refl };
  same = λ x h l. ap (newer_source (source_at (p ∷ a) x)) (source_at-before q.at (q ∷ b) x runs_b (omega arith) (omega arith))
      ∙ newer_source-none (source_at (p ∷ a) x) ∙ alone p a x runs_a l;
}

-- the other way round
pub IsPart-second : (a b : List Piece) (from : ℕ) (d : Piece) → 0 < length a → 0 < length b → AreRuns a → AreRuns b → from ≤ (get_or b 0 d).at
    → (get_or b 0 d).at + (get_or b 0 d).len ≤ (get_or a 0 d).at → IsPart a b from (Some (get_or b 0 d)) ((get_or b 0 d).at + (get_or b 0 d).len)
IsPart-second [] b from d some_a some_b runs_a runs_b le before = absurd (omega arith)
IsPart-second (p ∷ a) [] from d some_a some_b runs_a runs_b le before = absurd (omega arith)
IsPart-second (p ∷ a) (q ∷ b) from d some_a some_b runs_a runs_b le before = record {
  more = omega (arith, runs_b.0.not_empty);
  within = runs_b.0.within;
  first_a = omega arith;
  first_b = omega arith;
  holds = record { piece = runs_b.0; starts = le; ends = refl };
  same = λ x h l. ap (λ o. newer_source o (source_at (q ∷ b) x)) (source_at-before p.at (p ∷ a) x runs_a (omega arith) (omega arith)) ∙ alone q b x runs_b l;
}

-- the first pieces may share bytes
pub IsPart-shared : (a b : List Piece) (from until until_a until_b : ℕ) (p q w piece : Option Piece) → until ≡ min until_a until_b
    → SaysUntil a from p until_a → SaysUntil b from q until_b
    → ((x : ℕ) → option_map (source_in x) w ≡ newer_source (option_map (source_in x) p) (option_map (source_in x) q))
    → MatchOption piece (Unit {0}) (LiesWithin from until)
    → ((x : ℕ) → from ≤ x → x < until → option_map (source_in x) w ≡ source_at (option_to_list piece) x) → IsPart a b from piece until
IsPart-shared a b from until until_a until_b p q w piece e sa sb newer_is holds says = record {
  more = omega (arith, sa.more, sb.more);
  within = omega (arith, sa.within);
  first_a = EndsFrom-less a until until_a (omega arith) sa.first;
  first_b = EndsFrom-less b until until_b (omega arith) sb.first;
  holds = holds;
  same = λ x h l. ap (λ o. newer_source o (source_at b x)) (sa.same x h (omega arith)) ∙ ap (newer_source (option_map (source_in x) p)) (sb.same x h (omega arith))
      ∙ sym (newer_is x) ∙ says x h l;
}

-- the piece of the winner says what that says
pub winner_says : (winner piece : Piece) (from until : ℕ) → piece.at ≡ from → piece.len ≡ until - from
    → ((x : ℕ) → from ≤ x → source_in x piece ≡ source_in x winner) → (x : ℕ) → from ≤ x → x < until → Some (source_in x winner) ≡ source_at (piece ∷ []) x
winner_says winner piece from until at len says x h l = ap Some (sym (says x h)) ∙ sym (source_at-here piece [] x (omega arith) (omega arith))

-- after the sweep the runs say what both lists say
pub IsMerged-done : (a b runs final : List Piece) (from : ℕ) → AreRuns a → AreRuns b → from ≤ 2 ^ 40 → 2 ^ 40 ≤ from → IsMerged a b runs from
    → final ≡ runs → (x : ℕ) → source_at final x ≡ newer_source (source_at a x) (source_at b x)
IsMerged-done a b runs final from runs_a runs_b le ge m e x =
    let P : ℕ → Type 0 = λ n. IsMerged a b runs n in
    let all : from ≡ 2 ^ 40 = omega arith in
    ap (λ ps. source_at ps x) e ∙ IsMerged-all a b runs runs_a runs_b (subst P all m) x
