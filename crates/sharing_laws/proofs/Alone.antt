-- An actor gathers a container by itself: it lists it, reads the shares one after the other, and lists the truncates.
use Rattle.std.proofs.Common.{◌≡◌, ◌⊎◌, inl, inr, ℕ, List, [], ◌∷◌, ◌++◌, map, Result, Ok, Err, refl, sym, ap, ◌∙◌, subst, append_assoc}
use Rattle.std.proofs.lemmas.List.{append-nil}
use Rattle.plfs_types.specs.declared.entries.Trunc.{Trunc}
use Rattle.turn_object.specs.Callers.{made_by}
use Rattle.mount_model.specs.Calls.{AreCallsOf}
use Rattle.mount_model.specs.Program.{Program, done, followed_by}
use Rattle.mount_model.proofs.Stories.Facts.{entries_both}
use Rattle.mount_model.specs.declared.call.Call.{Call}
use Rattle.mount_model.specs.declared.reply.Reply.{Reply}
use Rattle.mount_model.specs.History.{Event}
use Rattle.mount_model.specs.declared.stuck.Stuck.{Stuck}
use Rattle.mount_model.specs.Running.{asking, Runs}
use Rattle.mount_model.specs.FlowReplies.{Tries, on_ok}
use Rattle.mount_model.proofs.Flows.Facts.{runs_in_two}
use Rattle.index_reader.specs.declared.listing.Listing.{Listing}
use Rattle.index_reader.specs.declared.sharing.Share.{Share}
use Rattle.index_reader.specs.Sharing.{share_program}
use Rattle.index_reader.specs.Truncs.{trunc_program}
use Rattle.reader_laws.specs.Opening.{Portion, droppings_of, shares_of, ReadsInTurn}
use Rattle.gather_flow.specs.Dealing.{dealt_to}
use Rattle.gather_flow.specs.Shares.{worker_program, by_itself}
use Rattle.sharing_laws.specs.Dealing.{dealt_all}

-- ---- runs of programs

-- others call behind a run
pub runs_more : {R : Type 0} (n : ℕ) (p : Program Call Reply R) (events more : List Event) (out : R) → made_by n more ≡ [] → Runs n p events out → Runs n p (events ++ more) out
runs_more {R} n p events more out none runs = subst (λ (z : List Event). AreCallsOf (asking p) z out) (sym (entries_both n events more ∙ ap (λ z. made_by n events ++ z) none ∙ append-nil (made_by n events))) runs

ok_is : {R : Type 0} (a b : R) → ◌≡◌ {A = Result R Stuck} (Ok a) (Ok b) → a ≡ b
ok_is a b e = cc

pub err_is : {R : Type 0} (a b : Stuck) → ◌≡◌ {A = Result R Stuck} (Err a) (Err b) → a ≡ b
err_is a b e = cc

module _ {R : Type 0} (makes : Listing → List Share → List Trunc → R) where
  -- what is made once the truncates are listed
  abbrev pub made_of : Listing → List Share → List Trunc → Tries R
  made_of listing shares truncs = done (Ok (makes listing shares truncs))

  -- the truncates are listed behind the shares
  abbrev pub then_made : Listing → List Share → Tries R
  then_made listing shares = followed_by (trunc_program listing.room) (on_ok (made_of listing shares))

  -- ---- the truncates

  -- the caller listed the truncates, and has what is made; or that ended in a trouble
  pub record ListedTruncs (n : ℕ) (listing : Listing) (shares : List Share) (events : List Event) (made : R) : Type 0 where
    pub truncs : List Trunc
    pub runs : Runs n (trunc_program listing.room) events (Ok truncs)
    pub is : made ≡ makes listing shares truncs

  abbrev pub OpensSo : ℕ → Listing → List Share → List Event → Result R Stuck → Type 0
  OpensSo n listing shares events (Ok made) = ListedTruncs n listing shares events made
  OpensSo n listing shares events (Err why) = Runs n (trunc_program listing.room) events (Err why)

  pub opens_so : (n : ℕ) (listing : Listing) (shares : List Share) (events : List Event) (out : Result R Stuck) → Runs n (then_made listing shares) events out → OpensSo n listing shares events out
  opens_so n listing shares events out runs =
      let t = runs_in_two n (trunc_program listing.room) (on_ok (made_of listing shares)) events out runs in
      subst (λ es. OpensSo n listing shares es out) (sym t.all) (of t.value t.first t.rest out t.runs t.then_runs)
    where
      of : (value : Result (List Trunc) Stuck) (first rest : List Event) (out : Result R Stuck) → Runs n (trunc_program listing.room) first value → Runs n (on_ok (made_of listing shares) value) rest out → OpensSo n listing shares (first ++ rest) out
      of (Ok truncs) first rest (Ok made) runs ends = record { truncs = truncs; runs = runs_more n (trunc_program listing.room) first rest (Ok truncs) ends.0 runs; is = sym (ok_is {R = R} (makes listing shares truncs) made ends.1) }
      of (Ok truncs) first rest (Err why) runs ends = (let clash : ◌≡◌ {A = Result R Stuck} (Ok (makes listing shares truncs)) (Err why) = ends.1 in absurd (cc))
      of (Err why) first rest (Ok made) runs ends = (let clash : ◌≡◌ {A = Result R Stuck} (Err why) (Ok made) = ends.1 in absurd (cc))
      of (Err why) first rest (Err because) runs ends =
          let same : why ≡ because = err_is {R = R} why because ends.1 in
          runs_more n (trunc_program listing.room) first rest (Err because) ends.0 (subst (λ w. Runs n (trunc_program listing.room) first (Err w)) same runs)

  -- ---- the shares

  -- The caller read all shares, one after the other.
  pub record ReadAll (n workers : ℕ) (listing : Listing) (numbers : List ℕ) (sofar : List Share) (events : List Event) (out : Result R Stuck) : Type 0 where
    pub portions : List Portion
    pub gathering : List Event
    pub rest : List Event
    pub split : events ≡ gathering ++ rest
    pub dealt : droppings_of portions ≡ dealt_all workers listing.droppings numbers
    pub reads : ReadsInTurn n listing.room listing.flat.covers portions gathering
    pub opened : OpensSo n listing (sofar ++ shares_of portions) rest out

  -- One of them ended in a trouble.
  pub record ShareFailed (n workers : ℕ) (listing : Listing) (events : List Event) (out : Result R Stuck) : Type 0 where
    pub worker : ℕ
    pub why : Stuck
    pub between : List Event
    pub reading : List Event
    pub split : events ≡ between ++ reading
    pub runs : Runs n (share_program listing.room (dealt_to workers worker 0 listing.droppings) listing.flat.covers) reading (Err why)
    pub is : out ≡ Err why

  abbrev EitherWay : ℕ → ℕ → Listing → List ℕ → List Share → List Event → Result R Stuck → Type 0
  EitherWay n workers listing numbers sofar events out = ReadAll n workers listing numbers sofar events out ⊎ ShareFailed n workers listing events out

  -- the first share, and those behind it
  reads_on : (n workers : ℕ) (listing : Listing) (w : ℕ) (numbers : List ℕ) (sofar : List Share) (events first rest : List Event) (out : Result R Stuck) (value : Result Share Stuck) → events ≡ first ++ rest → Runs n (worker_program workers listing w) first value
      → Runs n (on_ok (λ share. by_itself (map (worker_program workers listing) numbers) (sofar ++ share ∷ []) (then_made listing)) value) rest out
      → ((share : Share) → Runs n (by_itself (map (worker_program workers listing) numbers) (sofar ++ share ∷ []) (then_made listing)) rest out → EitherWay n workers listing numbers (sofar ++ share ∷ []) rest out)
      → EitherWay n workers listing (w ∷ numbers) sofar events out
  reads_on n workers listing w numbers sofar events first rest out (Err why) split mine ends goes = inr (record {
    worker = w;
    why = why;
    between = [];
    reading = first ++ rest;
    split = split;
    runs = runs_more n (worker_program workers listing w) first rest (Err why) ends.0 mine;
    is = sym ends.1;
  })
  reads_on n workers listing w numbers sofar events first rest out (Ok share) split mine on goes = elim (goes share on) as (λ _. ReadAll n workers listing (w ∷ numbers) sofar events out ⊎ ShareFailed n workers listing events out) [
    | inl r ↦ inl (record {
      portions = record { droppings = dealt_to workers w 0 listing.droppings; share = share } ∷ r.portions;
      gathering = first ++ r.gathering;
      rest = r.rest;
      split = split ∙ ap (λ z. first ++ z) r.split ∙ sym (append_assoc first r.gathering r.rest);
      dealt = ap (λ z. dealt_to workers w 0 listing.droppings ++ z) r.dealt;
      reads = (first, r.gathering, refl, mine, r.reads);
      opened = subst (λ shares. OpensSo n listing shares r.rest out) (append_assoc sofar (share ∷ []) (shares_of r.portions)) r.opened;
    })
    | inr f ↦ inr (record {
      worker = f.worker;
      why = f.why;
      between = first ++ f.between;
      reading = f.reading;
      split = split ∙ ap (λ z. first ++ z) f.split ∙ sym (append_assoc first f.between f.reading);
      runs = f.runs;
      is = f.is;
    })
  ]

  pub read_alone : (n workers : ℕ) (listing : Listing) (numbers : List ℕ) (sofar : List Share) (events : List Event) (out : Result R Stuck) → Runs n (by_itself (map (worker_program workers listing) numbers) sofar (then_made listing)) events out
      → ReadAll n workers listing numbers sofar events out ⊎ ShareFailed n workers listing events out
  read_alone n workers listing [] sofar events out runs = inl (record {
    portions = [];
    gathering = [];
    rest = events;
    split = refl;
    dealt = refl;
    reads = refl;
    opened = subst (λ shares. OpensSo n listing shares events out) (sym (append-nil sofar)) (opens_so n listing sofar events out runs);
  })
  read_alone n workers listing (w ∷ numbers) sofar events out runs =
      let t = runs_in_two n (worker_program workers listing w) (on_ok (λ share. by_itself (map (worker_program workers listing) numbers) (sofar ++ share ∷ []) (then_made listing))) events out runs in
      reads_on n workers listing w numbers sofar events t.first t.rest out t.value t.all t.runs t.then_runs (λ share on. read_alone n workers listing numbers (sofar ++ share ∷ []) t.rest out on)
