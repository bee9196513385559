-- Units of other names change nothing of what is found.
use Rattle.std.proofs.Common.{◌≡◌, ℕ, ◌<◌, List, [], ◌∷◌, ◌++◌, Option, Some, None, refl, sym, ap, subst, ◌∙◌, inl, inr, ◌⊎◌, arith}
use Rattle.std.specs.List.{All, Contains}
use Rattle.std.proofs.lemmas.Bool.{cases_lt}
use Rattle.std.proofs.lemmas.List.Elements.{All-contains, All-head, All-nil, All-tail, Contains-append_cases, Contains-push_cases}
use Rattle.plfs_types.specs.declared.entries.Key.{Key}
use Rattle.unit_format.specs.declared.finding.Unit.{Unit as Found}
use Rattle.unit_format.specs.declared.finding.Region.{Region}
use Rattle.unit_format.specs.Alike.{StandApart, HasSame, AreAlike}
use Rattle.unit_format.specs.Finding.{IsOlder, ComesBefore, HasNone, IsNewestIn, IsUnheld, NoNewer, AllOlder, IsFileOf, IsFound}

-- ---- units of one region

one_of : {X : Type 0} (x y : X) (xs : List X) → Contains (x ∷ xs) y → (x ≡ y) ⊎ Contains xs y
one_of x y xs has = elim (Contains-append_cases (x ∷ []) xs y has) [
  | inl first ↦ elim (Contains-push_cases [] x y first) [
    | inl none ↦ absurd (All-contains (λ z. ⊥) [] y (All-nil (λ z. ⊥)) none)
    | inr same ↦ inl same
  ]
  | inr later ↦ inr later
]

-- units that stand apart have different places
apart_one : (units : List Found) (u v : Found) → StandApart units → Contains units u → Contains units v → u.at ≡ v.at → u ≡ v
apart_one [] u v apart has_u has_v same = absurd (All-contains (λ (z : Found). ⊥) [] u (All-nil (λ (z : Found). ⊥)) has_u)
apart_one (w ∷ units) u v apart has_u has_v same = elim (one_of w u units has_u) [
  | inl is_u ↦ elim (one_of w v units has_v) [
    | inl is_v ↦ sym is_u ∙ is_v
    | inr later ↦
        let less : w.at < v.at = All-contains (λ (z : Found). w.at < z.at) units v apart.0 later in
        let here : w.at ≡ u.at = ap (λ (z : Found). z.at) is_u in
        absurd (omega (arith, less, here, same))
  ]
  | inr later_u ↦ elim (one_of w v units has_v) [
    | inl is_v ↦
        let less : w.at < u.at = All-contains (λ (z : Found). w.at < z.at) units u apart.0 later_u in
        let here : w.at ≡ v.at = ap (λ (z : Found). z.at) is_v in
        absurd (omega (arith, less, here, same))
    | inr later ↦ apart_one units u v apart.1 later_u later same
  ]
]

same_key : (k l : Key) → k.stamp ≡ l.stamp → k.writer ≡ l.writer → k ≡ l
same_key k l stamp writer =
    let one : k ≡ record { stamp = l.stamp; writer = k.writer } = ap (λ (n : ℕ). record { stamp = n; writer = k.writer }) stamp in
    one ∙ ap (λ (n : ℕ). record { stamp = l.stamp; writer = n }) writer

-- keys of which neither is older are one
neither_older : (k l : Key) → (IsOlder k l → ⊥) → (IsOlder l k → ⊥) → k ≡ l
neither_older k l not_older not_newer = elim (cases_lt k.stamp l.stamp) [
  | inl less ↦ absurd (not_older (inl less))
  | inr most ↦ elim (cases_lt l.stamp k.stamp) [
    | inl less ↦ absurd (not_newer (inl less))
    | inr least ↦
        let stamp : k.stamp ≡ l.stamp = omega (arith, most, least) in
        elim (cases_lt k.writer l.writer) [
          | inl less ↦ absurd (not_older (inr (stamp, less)))
          | inr most_writer ↦ elim (cases_lt l.writer k.writer) [
            | inl less ↦ absurd (not_newer (inr (sym stamp, less)))
            | inr least_writer ↦ same_key k l stamp (omega (arith, most_writer, least_writer))
          ]
        ]
  ]
]

neither_before : (u v : Found) → (ComesBefore u v → ⊥) → (ComesBefore v u → ⊥) → u.at ≡ v.at
neither_before u v not_before not_behind =
    let key : u.key ≡ v.key = neither_older u.key v.key (λ older. not_before (inl older)) (λ newer. not_behind (inl newer)) in
    elim (cases_lt u.at v.at) [
      | inl less ↦ absurd (not_before (inr (key, less)))
      | inr most ↦ elim (cases_lt v.at u.at) [
        | inl less ↦ absurd (not_behind (inr (sym key, less)))
        | inr least ↦ omega (arith, most, least)
      ]
    ]

-- the newest of a name in two regions that are alike
same_newest : (name : List ℕ) (r s : Region) (u v : Found) → StandApart r.units → HasSame name r s → IsNewestIn r.units name u → IsNewestIn s.units name v → u ≡ v
same_newest name r s u v apart alike newest_u newest_v =
    let here : Contains r.units v = (alike v newest_v.named).1 newest_v.there in
    let there : Contains s.units u = (alike u newest_u.named).0 newest_u.there in
    let not_before : ComesBefore u v → ⊥ = All-contains (λ (w : Found). w.name ≡ name → ComesBefore u w → ⊥) r.units v newest_u.newest here newest_v.named in
    let not_behind : ComesBefore v u → ⊥ = All-contains (λ (w : Found). w.name ≡ name → ComesBefore v w → ⊥) s.units u newest_v.newest there newest_u.named in
    apart_one r.units u v apart newest_u.there here (neither_before u v not_before not_behind)

-- ---- all regions

-- the file of a name, region by region
abbrev FileIn : List ℕ → Found → List Region → Type 0
FileIn name u [] = ⊥
FileIn name u (r ∷ regions) = (IsNewestIn r.units name u × All (AllOlder name u.key) regions) ⊎ (NoNewer name u.key r × FileIn name u regions)

file_behind : (name : List ℕ) (u : Found) (before : List Region) (r : Region) (behind : List Region) → All (NoNewer name u.key) before → IsNewestIn r.units name u → All (AllOlder name u.key) behind
    → FileIn name u (before ++ r ∷ behind)
file_behind name u [] r behind none newest older = inl (newest, older)
file_behind name u (s ∷ before) r behind none newest older =
    inr (All-head (NoNewer name u.key) s before none, file_behind name u before r behind (All-tail (NoNewer name u.key) s before none) newest older)

file_in : (regions : List Region) (name : List ℕ) (u : Found) → IsFileOf regions name u → FileIn name u regions
file_in regions name u is = subst (FileIn name u) (sym is.split) (file_behind name u is.before is.region is.behind is.earlier is.newest is.later)

alike_back : (name : List ℕ) (a b : List Region) → AreAlike name a b → AreAlike name b a
alike_back name [] [] alike = tt
alike_back name (r ∷ a) (s ∷ b) alike = (λ u named. ((alike.0 u named).1, (alike.0 u named).0), alike_back name a b alike.1)
alike_back name [] (s ∷ b) alike = absurd alike
alike_back name (r ∷ a) [] alike = absurd alike

-- where all units of the name are older in regions that are alike, so is its file
file_older : (name : List ℕ) (k : Key) (v : Found) (a b : List Region) → AreAlike name a b → All (AllOlder name k) a → FileIn name v b → IsOlder v.key k
file_older name k v [] [] alike older has = absurd has
file_older name k v [] (s ∷ b) alike older has = absurd alike
file_older name k v (r ∷ a) [] alike older has = absurd has
file_older name k v (r ∷ a) (s ∷ b) alike older (inl (newest, later)) =
    All-contains (λ (w : Found). w.name ≡ name → IsOlder w.key k) r.units v (All-head (AllOlder name k) r a older) ((alike.0 v newest.named).1 newest.there) newest.named
file_older name k v (r ∷ a) (s ∷ b) alike older (inr (none, has)) = file_older name k v a b alike.1 (All-tail (AllOlder name k) r a older) has

-- where no unit has the name in regions that are alike, it has no file
no_file : (name : List ℕ) (v : Found) (a b : List Region) → AreAlike name a b → IsUnheld a name → FileIn name v b → ⊥
no_file name v [] [] alike unheld has = has
no_file name v [] (s ∷ b) alike unheld has = alike
no_file name v (r ∷ a) [] alike unheld has = has
no_file name v (r ∷ a) (s ∷ b) alike unheld (inl (newest, later)) =
    All-contains (λ (w : Found). w.name ≡ name → ⊥) r.units v (All-head (λ (q : Region). HasNone name q.units) r a unheld) ((alike.0 v newest.named).1 newest.there) newest.named
no_file name v (r ∷ a) (s ∷ b) alike unheld (inr (none, has)) = no_file name v a b alike.1 (All-tail (λ (q : Region). HasNone name q.units) r a unheld) has

same_file : (name : List ℕ) (a b : List Region) (u v : Found) → All (λ (r : Region). StandApart r.units) a → AreAlike name a b → FileIn name u a → FileIn name v b → u ≡ v
same_file name [] b u v apart alike has_u has_v = absurd has_u
same_file name (r ∷ a) [] u v apart alike has_u has_v = absurd has_v
same_file name (r ∷ a) (s ∷ b) u v apart alike (inl (newest_u, older)) (inl (newest_v, later)) =
    same_newest name r s u v (All-head (λ (q : Region). StandApart q.units) r a apart) alike.0 newest_u newest_v
same_file name (r ∷ a) (s ∷ b) u v apart alike (inl (newest_u, older)) (inr (none, has_v)) =
    absurd (All-contains (λ (w : Found). w.name ≡ name → IsOlder v.key w.key → ⊥) s.units u none ((alike.0 u newest_u.named).0 newest_u.there) newest_u.named
    (file_older name u.key v a b alike.1 older has_v))
same_file name (r ∷ a) (s ∷ b) u v apart alike (inr (none, has_u)) (inl (newest_v, older)) =
    absurd (All-contains (λ (w : Found). w.name ≡ name → IsOlder u.key w.key → ⊥) r.units v none ((alike.0 v newest_v.named).1 newest_v.there) newest_v.named
    (file_older name v.key u b a (alike_back name a b alike.1) older has_u))
same_file name (r ∷ a) (s ∷ b) u v apart alike (inr (none_u, has_u)) (inr (none_v, has_v)) =
    same_file name a b u v (All-tail (λ (q : Region). StandApart q.units) r a apart) alike.1 has_u has_v

pub isolated : (name : List ℕ) (a b : List Region) (one other : Option Found) → All (λ (r : Region). StandApart r.units) a → AreAlike name a b → IsFound a name one → IsFound b name other → one ≡ other
isolated name a b None None apart alike found_one found_other = refl
isolated name a b None (Some v) apart alike unheld is = absurd (no_file name v a b alike unheld (file_in b name v is))
isolated name a b (Some u) None apart alike is unheld = absurd (no_file name u b a (alike_back name a b alike) unheld (file_in a name u is))
isolated name a b (Some u) (Some v) apart alike is_u is_v = ap Some (same_file name a b u v apart alike (file_in a name u is_u) (file_in b name v is_v))
