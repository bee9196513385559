-- Workers read an actor's shares, each as a caller of its own.
use Rattle.std.proofs.Common.{◌≡◌, ◌⊎◌, inl, inr, ℕ, List, [], ◌∷◌, ◌++◌, length, map, Result, Ok, Err, refl, sym, ap, ◌∙◌, subst, arith, append_assoc, length-append}
use Rattle.std.specs.List.{AllByRecursion}
use Rattle.turn_object.specs.Callers.{made_by}
use Rattle.turn_object.specs.Front.{KeepsIn}
use Rattle.mount_model.specs.Calls.{AreCallsOf, AreCallsOfEach}
use Rattle.mount_model.proofs.Stories.Facts.{entries_both}
use Rattle.mount_model.specs.History.{Event}
use Rattle.mount_model.specs.declared.stuck.Stuck.{Stuck}
use Rattle.mount_model.specs.Running.{asking, Runs}
use Rattle.index_reader.specs.declared.listing.Listing.{Listing}
use Rattle.index_reader.specs.declared.sharing.Share.{Share}
use Rattle.index_reader.specs.Sharing.{share_program}
use Rattle.reader_laws.specs.Opening.{droppings_of, shares_of, Work, portions_of}
use Rattle.gather_flow.specs.Dealing.{dealt_to}
use Rattle.gather_flow.specs.Shares.{worker_program}
use Rattle.gather_flow.specs.Workers.{and_share, all_of}
use Rattle.sharing_laws.specs.Dealing.{dealt_all}

-- ---- a caller's calls in a wider part

empty : (xs : List Event) → length xs ≡ 0 → xs ≡ []
empty [] e = refl
empty (x ∷ xs) e = absurd (omega (arith, e))

-- where a caller has all its calls of a history in its middle, it has none at the sides
pub none_aside : (k : ℕ) (before during after : List Event) → made_by k (before ++ (during ++ after)) ≡ made_by k during → (made_by k before ≡ []) × (made_by k after ≡ [])
none_aside k before during after same =
    let is = ap length (sym (entries_both k before (during ++ after) ∙ ap (λ z. made_by k before ++ z) (entries_both k during after)) ∙ same) in
    let l = length-append (made_by k before) (made_by k during ++ made_by k after) in
    let m = length-append (made_by k during) (made_by k after) in
    (empty (made_by k before) (omega (arith, is, l, m)), empty (made_by k after) (omega (arith, is, l, m)))

-- the first of two parts without calls
pub none_first : (k : ℕ) (xs ys : List Event) → made_by k (xs ++ ys) ≡ [] → (made_by k xs ≡ []) × (made_by k ys ≡ [])
none_first k xs ys none =
    let is = ap length (sym (entries_both k xs ys) ∙ none) in
    let l = length-append (made_by k xs) (made_by k ys) in
    (empty (made_by k xs) (omega (arith, is, l)), empty (made_by k ys) (omega (arith, is, l)))

pub none_both : (k : ℕ) (xs ys : List Event) → made_by k xs ≡ [] → made_by k ys ≡ [] → made_by k (xs ++ ys) ≡ []
none_both k xs ys a b = entries_both k xs ys ∙ ap (λ z. z ++ made_by k ys) a ∙ b

-- it has the same calls in a part that is wider
pub same_wider : (k : ℕ) (before during after : List Event) → made_by k before ≡ [] → made_by k after ≡ [] → made_by k (before ++ (during ++ after)) ≡ made_by k during
same_wider k before during after none rest =
    entries_both k before (during ++ after) ∙ ap (λ z. z ++ made_by k (during ++ after)) none ∙ entries_both k during after ∙ ap (λ z. made_by k during ++ z) rest ∙ append_none (made_by k during)
  where
    append_none : (xs : List Event) → xs ++ [] ≡ xs
    append_none [] = refl
    append_none (x ∷ xs) = ap (λ z. x ∷ z) (append_none xs)

-- ---- what the workers read

-- the caller has these calls in the part, under its own number or, where it has none, under one that has none there
abbrev pub CallsIn : List Event → List Event → Type 0
CallsIn part calls = (k : ℕ) × (made_by k part ≡ calls)

-- All workers read their shares.
pub record ReadByWorkers (workers : ℕ) (listing : Listing) (numbers : List ℕ) (part : List Event) (results : List (Result Share Stuck)) : Type 0 where
  pub works : List Work
  pub dealt : droppings_of (portions_of works) ≡ dealt_all workers listing.droppings numbers
  pub reads : AllByRecursion (λ (w : Work). Runs w.worker (share_program listing.room w.portion.droppings listing.flat.covers) part (Ok w.portion.share)) works
  pub shares : all_of results ≡ Ok (shares_of (portions_of works))

-- The share of one ended in the trouble that counts.
pub record WorkerFailed (workers : ℕ) (listing : Listing) (part : List Event) (results : List (Result Share Stuck)) : Type 0 where
  pub caller : ℕ
  pub worker : ℕ
  pub why : Stuck
  pub runs : Runs caller (share_program listing.room (dealt_to workers worker 0 listing.droppings) listing.flat.covers) part (Err why)
  pub is : all_of results ≡ Err why

pub read_by_workers : (workers : ℕ) (listing : Listing) (numbers : List ℕ) (part : List Event) (calls : List (List Event)) (results : List (Result Share Stuck))
    → AllByRecursion (CallsIn part) calls → AreCallsOfEach (map asking (map (worker_program workers listing) numbers)) calls results
    → ReadByWorkers workers listing numbers part results ⊎ WorkerFailed workers listing part results
read_by_workers workers listing [] part [] [] each made = inl (record { works = []; dealt = refl; reads = tt; shares = refl })
read_by_workers workers listing [] part [] (r ∷ results) each made = absurd made
read_by_workers workers listing [] part (c ∷ calls) results each made = absurd made
read_by_workers workers listing (w ∷ numbers) part [] results each made = absurd made
read_by_workers workers listing (w ∷ numbers) part (c ∷ calls) [] each made = absurd made
read_by_workers workers listing (w ∷ numbers) part (c ∷ calls) (Err why ∷ results) each made = inr (record {
  caller = each.0.0;
  worker = w;
  why = why;
  runs = subst (λ (z : List Event). AreCallsOf (asking (worker_program workers listing w)) z (Err why)) (sym each.0.1) made.0;
  is = refl;
})
read_by_workers workers listing (w ∷ numbers) part (c ∷ calls) (Ok share ∷ results) each made =
    elim (read_by_workers workers listing numbers part calls results each.1 made.1)
    as (λ _. ReadByWorkers workers listing (w ∷ numbers) part (Ok share ∷ results) ⊎ WorkerFailed workers listing part (Ok share ∷ results)) [
      | inl r ↦ inl (record {
        works = record { worker = each.0.0; portion = record { droppings = dealt_to workers w 0 listing.droppings; share = share } } ∷ r.works;
        dealt = ap (λ z. dealt_to workers w 0 listing.droppings ++ z) r.dealt;
        reads = (subst (λ (z : List Event). AreCallsOf (asking (worker_program workers listing w)) z (Ok share)) (sym each.0.1) made.0, r.reads);
        shares = ap (and_share share) r.shares;
      })
      | inr f ↦ inr (record { caller = f.caller; worker = f.worker; why = f.why; runs = f.runs; is = ap (and_share share) f.is })
    ]

-- ---- under which numbers they call

-- each worker's calls in a wider part, where it has no others in the history; a worker without calls stands for a caller that has none there
pub calls_wider : (n : ℕ) (earlier before during after later : List Event) (calls : List (List Event)) → made_by n (before ++ (during ++ after)) ≡ []
    → AllByRecursion (KeepsIn (earlier ++ ((before ++ (during ++ after)) ++ later))) calls → AllByRecursion (KeepsIn during) calls → AllByRecursion (CallsIn (before ++ (during ++ after))) calls
calls_wider n earlier before during after later [] none whole here = tt
calls_wider n earlier before during after later ([] ∷ calls) none whole here = ((n, none), calls_wider n earlier before during after later calls none whole.1 here.1)
calls_wider n earlier before during after later ((e ∷ es) ∷ calls) none whole here =
    let k : ℕ = e.caller in
    let part : List Event = before ++ (during ++ after) in
    let regrouped : earlier ++ (part ++ later) ≡ (earlier ++ before) ++ (during ++ (after ++ later)) =
    ap (λ z. earlier ++ z) (append_assoc before (during ++ after) later ∙ ap (λ z. before ++ z) (append_assoc during after later)) ∙ sym (append_assoc earlier before (during ++ (after ++ later))) in
    let same : made_by k ((earlier ++ before) ++ (during ++ (after ++ later))) ≡ made_by k during = ap (made_by k) (sym regrouped) ∙ whole.0 ∙ sym here.0 in
    let sides = none_aside k (earlier ++ before) during (after ++ later) same in
    let wider = same_wider k before during after (none_first k earlier before sides.0).1 (none_first k after later sides.1).0 in
    ((k, wider ∙ here.0), calls_wider n earlier before during after later calls none whole.1 here.1)
