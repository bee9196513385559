-- Each call that installs the index of what was gathered may be made.
use Rattle.std.proofs.Common.{Bool, true, false, ◌≡◌, ◌≤◌, ℕ, List, [], ◌∷◌, ◌++◌, map, Some, refl, ap, sym, ◌∙◌, subst, append_assoc}
use Rattle.std.specs.Prelude.{Result, Err, slice_get}
use Rattle.plfs_types.specs.declared.entries.Entry.{Entry}
use Rattle.plain_file.specs.Runs.{ArePieces}
use Rattle.flat_format.specs.declared.flat.Flat.{Flat}
use Rattle.flat_format.specs.Spelling.{flat_spelling}
use Rattle.flat_format.specs.Valid.{IsFlat}
use Rattle.store_api.specs.declared.tree.Room.{Room}
use Rattle.store_api.specs.declared.tree.Tree.{Tree}
use Rattle.mount_model.specs.declared.stuck.Stuck.{Stuck}
use Rattle.mount_model.specs.Running.{asking, unbroken}
use Rattle.mount_model.specs.Program.{followed_by}
use Rattle.mount_model.specs.Safe.{IsSafe}
use Rattle.mount_model.specs.declared.call.Ask.{Ask}
use Rattle.mount_model.specs.declared.call.Call.{Call}
use Rattle.mount_model.specs.declared.call.Call.TheVariants.{InstallFlat, PutFlat, SyncDropping, SyncFlat}
use Rattle.mount_model.specs.declared.reply.Reply.{Reply}
use Rattle.mount_model.specs.declared.reply.Reply.TheVariants.{Done}
use Rattle.mount_model.specs.State.{State}
use Rattle.mount_model.specs.Step.{IsStep}
use Rattle.mount_sound.specs.Flats.{AreCovered, IsRightFlat, IsRightFor}
use Rattle.mount_sound.specs.Ledger.{Ledger}
use Rattle.mount_sound.specs.Owed.{May, MayPut, Owes, Permits, StandsInRoom}
use Rattle.mount_sound.specs.Sound.{IsFine, IsSoundFor}
use Rattle.mount_sound.proofs.Facts.{some_logged, some_room, step_fine}
use Rattle.mount_model.specs.FlowReplies.{Tries, failure}
use Rattle.index_reader.specs.declared.listing.Dropping.{Dropping}
use Rattle.flatten_core.specs.Installing.{done_or, if_done, installs, puts, syncs, syncs_both, syncs_flat, syncs_index}
use Rattle.recovery_laws.proofs.Holds.Facts.{LastsOne, safe_ask, safe_free}
use Rattle.recovery_laws.proofs.Facts.{Cleanly, HasFirst, Stays, cleanly_so, cleanly_then}
use Rattle.flatten_laws.proofs.Owns.{Own, IsOwn, AreOwn, all_entries, own_cover}
use Rattle.flatten_laws.proofs.Taken.{EachFirst}
use Rattle.flatten_laws.proofs.Kept.{EachCovered, HasCovered, HasLogged, IsCoveredSo, covered_stays, covered_then, each_stays, first_stays_so, has_index, has_log, logged_stays_so, logged_then}
use Rattle.flatten_laws.proofs.Pairing.{AreTheirs}
use Rattle.flatten_laws.proofs.Shared.{own_lasts}
use Rattle.flatten_laws.proofs.Started.{IsStarted, LastsBeside, beside_lasts, started_lasts}

-- ---- what lasts

-- what stays lasts while others call
pub beside_stays : (caller : ℕ) (fact : State → Type 0) → Stays fact → LastsBeside caller fact
beside_stays caller fact stays l old new other asked reply differ may step s f = stays l old new other asked reply may step s f

pub beside_both : (caller : ℕ) (one two : State → Type 0) → LastsBeside caller one → LastsBeside caller two → LastsBeside caller (λ state. one state × two state)
beside_both caller one two a b l old new other asked reply differ may step s f = (a l old new other asked reply differ may step s f.0, b l old new other asked reply differ may step s f.1)

each_covered_stays : (number : ℕ) (owns : List Own) → Stays (EachCovered number owns)
each_covered_stays number [] l old new other asked reply may step s f = tt
each_covered_stays number (o ∷ owns) l old new other asked reply may step s f = (covered_stays number o l old new other asked reply may step s f.0, each_covered_stays number owns l old new other asked reply may step s f.1)

covered_both : (number : ℕ) (xs ys : List Own) (state : State) → EachCovered number xs state → EachCovered number ys state → EachCovered number (xs ++ ys) state
covered_both number [] ys state a b = b
covered_both number (x ∷ xs) ys state a b = (a.0, covered_both number xs ys state a.1 b)

-- ---- how far it is

-- The index is of these writers: of some the droppings are synced, and these are the droppings of the others.
pub record IsSyncing (number : ℕ) (index : Flat) (ds : List Dropping) (state : State) : Type 0 where
  pub synced : List Own
  pub owns : List Own
  pub are : AreOwn owns
  pub theirs : AreTheirs ds owns
  pub covers : map own_cover (synced ++ owns) ≡ index.covers
  pub valid : IsFlat index
  pub pieces : ArePieces (all_entries (synced ++ owns)) [] index.pieces
  pub covered : EachCovered number synced state
  pub firsts : EachFirst number owns state

abbrev pub of_dropping : Dropping → List Entry → Own
of_dropping d es = record { host = d.host; writer = d.writer; entries = es }

-- The same, and this holds of the next one's entries.
pub record IsNext (holds : Own → State → Type 0) (number : ℕ) (index : Flat) (d : Dropping) (ds : List Dropping) (state : State) : Type 0 where
  pub synced : List Own
  pub entries : List Entry
  pub owns : List Own
  pub is : IsOwn (of_dropping d entries)
  pub are : AreOwn owns
  pub theirs : AreTheirs ds owns
  pub covers : map own_cover (synced ++ of_dropping d entries ∷ owns) ≡ index.covers
  pub valid : IsFlat index
  pub pieces : ArePieces (all_entries (synced ++ of_dropping d entries ∷ owns)) [] index.pieces
  pub covered : EachCovered number synced state
  pub now : holds (of_dropping d entries) state
  pub firsts : EachFirst number owns state

abbrev pub FirstOf : ℕ → Own → State → Type 0
FirstOf number o state = StandsInRoom state number (HasFirst o.host o.writer o.entries)

next_of : (number : ℕ) (index : Flat) (d : Dropping) (ds : List Dropping) (state : State) → IsSyncing number index (d ∷ ds) state → IsNext (FirstOf number) number index d ds state
next_of number index d ds state f = of f.owns f.are f.theirs f.covers f.pieces f.firsts
  where
    of : (owns : List Own) → AreOwn owns → AreTheirs (d ∷ ds) owns → map own_cover (f.synced ++ owns) ≡ index.covers → ArePieces (all_entries (f.synced ++ owns)) [] index.pieces → EachFirst number owns state → IsNext (FirstOf number) number index d ds state
    of [] are theirs covers pieces firsts = absurd theirs
    of (o ∷ owns) are theirs covers pieces firsts =
        let same : o ≡ of_dropping d o.entries = λ i. record { host = sym theirs.0 i; writer = sym theirs.1 i; entries = o.entries } in
        record {
          synced = f.synced;
          entries = o.entries;
          owns = owns;
          is = subst IsOwn same are.0;
          are = are.1;
          theirs = theirs.2;
          covers = subst (λ x. map own_cover (f.synced ++ x ∷ owns) ≡ index.covers) same covers;
          valid = f.valid;
          pieces = subst (λ x. ArePieces (all_entries (f.synced ++ x ∷ owns)) [] index.pieces) same pieces;
          covered = f.covered;
          now = subst (λ x. FirstOf number x state) same firsts.0;
          firsts = firsts.1;
        }

syncing_stays : (number : ℕ) (index : Flat) (ds : List Dropping) → Stays (IsSyncing number index ds)
syncing_stays number index ds l old new other asked reply may step s f = record {
  synced = f.synced;
  owns = f.owns;
  are = f.are;
  theirs = f.theirs;
  covers = f.covers;
  valid = f.valid;
  pieces = f.pieces;
  covered = each_covered_stays number f.synced l old new other asked reply may step s f.covered;
  firsts = each_stays number f.owns l old new other asked reply may step s f.firsts;
}

-- another thing holds of the next one's entries after a step
next_goes_own : (one two : Own → State → Type 0) (number : ℕ) (index : Flat) (d : Dropping) (ds : List Dropping) (l : Ledger) (old new : State) (other : ℕ) (asked : Ask) (reply : Reply) → May old other asked → IsStep old other asked reply new → IsSoundFor l old
    → (f : IsNext one number index d ds old) → two (of_dropping d f.entries) new → IsNext two number index d ds new
next_goes_own one two number index d ds l old new other asked reply may step s f becomes = record {
  synced = f.synced;
  entries = f.entries;
  owns = f.owns;
  is = f.is;
  are = f.are;
  theirs = f.theirs;
  covers = f.covers;
  valid = f.valid;
  pieces = f.pieces;
  covered = each_covered_stays number f.synced l old new other asked reply may step s f.covered;
  now = becomes;
  firsts = each_stays number f.owns l old new other asked reply may step s f.firsts;
}

next_stays : (holds : Own → State → Type 0) (number : ℕ) (index : Flat) (d : Dropping) (ds : List Dropping) → ((o : Own) → Stays (holds o)) → Stays (IsNext holds number index d ds)
next_stays holds number index d ds stays l old new other asked reply may step s f =
    next_goes_own holds holds number index d ds l old new other asked reply may step s f (stays (of_dropping d f.entries) l old new other asked reply may step s f.now)

-- it is synced, and the others are to be
then_syncing : (number : ℕ) (index : Flat) (d : Dropping) (ds : List Dropping) (state : State) → IsNext (HasCovered number) number index d ds state → IsSyncing number index ds state
then_syncing number index d ds state f =
    let o : Own = of_dropping d f.entries in
    let same : (f.synced ++ o ∷ []) ++ f.owns ≡ f.synced ++ o ∷ f.owns = append_assoc f.synced (o ∷ []) f.owns in
    record {
      synced = f.synced ++ o ∷ [];
      owns = f.owns;
      are = f.are;
      theirs = f.theirs;
      covers = ap (map own_cover) same ∙ f.covers;
      valid = f.valid;
      pieces = subst (λ os. ArePieces (all_entries os) [] index.pieces) (sym same) f.pieces;
      covered = covered_both number f.synced (o ∷ []) state f.covered (f.now, tt);
      firsts = f.firsts;
    }

-- ---- the bytes are right

-- the covers are right in this room
all_covered : (number : ℕ) (tree : Tree) (state : State) → state.store.tree ≡ Some tree → (room : Room) → slice_get tree.rooms number ≡ Some room → (owns : List Own) → EachCovered number owns state → AreCovered room (map own_cover owns) (all_entries owns)
all_covered number tree state told room there [] f = refl
all_covered number tree state told room there (o ∷ owns) f =
    let x = f.0 tree told in
    let here : IsCoveredSo o room = subst (IsCoveredSo o) (some_room x.0 room (slice_get tree.rooms number) x.1 there) x.2 in
    (here.0, (all_entries owns, ap (λ es. es ++ all_entries owns) (sym here.1), all_covered number tree state told room there owns f.1))

-- where all are synced
right : (number : ℕ) (index : Flat) (tree : Tree) (state : State) → state.store.tree ≡ Some tree → (room : Room) → slice_get tree.rooms number ≡ Some room → IsSyncing number index [] state → IsRightFlat room (flat_spelling index)
right number index tree state told room there f = of f.owns f.theirs f.covers f.pieces
  where
    none : (xs : List Own) → xs ++ [] ≡ xs
    none [] = refl
    none (x ∷ xs) = ap (λ l. x ∷ l) (none xs)

    of : (owns : List Own) → AreTheirs [] owns → map own_cover (f.synced ++ owns) ≡ index.covers → ArePieces (all_entries (f.synced ++ owns)) [] index.pieces → IsRightFlat room (flat_spelling index)
    of (o ∷ owns) theirs covers pieces = absurd theirs
    of [] theirs covers pieces = record {
      flat = index;
      valid = f.valid;
      spelled = refl;
      entries = all_entries f.synced;
      covered = subst (λ cs. AreCovered room cs (all_entries f.synced)) (ap (map own_cover) (sym (none f.synced)) ∙ covers) (all_covered number tree state told room there f.synced f.covered);
      pieces = subst (λ os. ArePieces (all_entries os) [] index.pieces) (none f.synced) pieces;
    }

may_put : (caller number flat : ℕ) (index : Flat) (state : State) → IsStarted caller number flat state → IsSyncing number index [] state → Owes state caller (PutFlat flat (flat_spelling index))
may_put caller number flat index state started f x e tree room told there =
    let is = started.0 x e in
    let at : slice_get tree.rooms number ≡ Some room = ap (slice_get tree.rooms) (sym is.0) ∙ there in
    record { empty = (started.1 x e tree room told there).empty; right = subst (λ makes. IsRightFor room makes (flat_spelling index)) (sym is.1) (right number index tree state told room at f) }

-- ---- the calls

-- it went on after Done
done_safe : {R : Type 0} (caller : ℕ) (reply : Reply) (next : Tries (Unit {0})) (k : Result (Unit {0}) Stuck → Tries R) (state : State) → ((why : Stuck) → IsSafe IsStep Permits caller (asking (k (Err why))) state)
    → (reply ≡ Done → IsSafe IsStep Permits caller (asking (followed_by next k)) state) → IsSafe IsStep Permits caller (asking (followed_by (if_done next reply) k)) state
done_safe caller Done next k state ends safe = safe refl
done_safe caller reply next k state ends safe = ends (failure reply)

module _ {R : Type 0} (caller number flat : ℕ) (index : Flat) (k : Result (Unit {0}) Stuck → Tries R) (ends : (result : Result (Unit {0}) Stuck) (state : State) → IsSafe IsStep Permits caller (asking (k result)) state) where
  abbrev SafeWith : Tries (Unit {0}) → State → Type 0
  SafeWith p state = IsSafe IsStep Permits caller (asking (followed_by p k)) state

  -- with what stands of the flattening
  abbrev pub With : (State → Type 0) → State → Type 0
  With fact state = IsStarted caller number flat state × fact state

  with_lasts : (fact : State → Type 0) → Stays fact → LastsOne caller (Cleanly (With fact))
  with_lasts fact stays = beside_lasts caller (With fact) (beside_both caller (IsStarted caller number flat) fact (started_lasts caller number flat) (beside_stays caller fact stays))

  safe_installs : (state : State) → IsFine state → SafeWith (installs flat) state
  safe_installs = safe_free caller (InstallFlat flat) (λ reply. k (done_or reply)) (tt, tt) (λ reply after fine. ends (done_or reply) after)

  safe_syncs_flat : (state : State) → IsFine state → SafeWith (syncs_flat flat) state
  safe_syncs_flat = safe_free caller (SyncFlat flat) (λ reply. followed_by (if_done (installs flat) reply) k) (tt, tt)
      (λ reply after fine. done_safe caller reply (installs flat) k after (λ why. ends (Err why) after) (λ is. safe_installs after fine))

  safe_puts : (state : State) → Cleanly (With (IsSyncing number index [])) state → SafeWith (puts flat (flat_spelling index)) state
  safe_puts = safe_ask caller (Cleanly (With (IsSyncing number index []))) (PutFlat flat (flat_spelling index)) (λ reply. followed_by (if_done (syncs_flat flat) reply) k)
      (with_lasts (IsSyncing number index []) (syncing_stays number index []))
      (λ state f. (f.0, record { numbers = tt; owes = λ clean. let h = f.1 clean in may_put caller number flat index state h.0 h.1 }))
      (λ state reply after f may step. done_safe caller reply (syncs_flat flat) k after (λ why. ends (Err why) after)
      (λ is. safe_syncs_flat after (step_fine state after caller (unbroken (PutFlat flat (flat_spelling index))) reply may.1 step may.0)))

  -- what stands of the flattening stands after a sync, and this holds of the room then
  goes_on : (one two : State → Type 0) → Stays one → (d : Dropping) (is_log : Bool) (state after : State) (reply : Reply) → Permits state caller (unbroken (SyncDropping number d.host d.writer is_log)) → IsStep state caller (unbroken (SyncDropping number d.host d.writer is_log)) reply after
      → ((l : Ledger) → IsSoundFor l state → one state → two after) → Cleanly (With one) state → Cleanly (With two) after
  goes_on one two stays d is_log state after reply may step becomes f =
      let q : Call = SyncDropping number d.host d.writer is_log in
      let kept : Cleanly (With one) after = own_lasts caller (Cleanly (With one)) (with_lasts one stays) state after q reply tt may step f in
      let made : Cleanly two after = cleanly_then (With one) two state after caller (unbroken q) reply may step f (λ l s h. becomes l s h.1) in
      (kept.0, λ clean. ((kept.1 clean).0, made.1 clean))

  module _ (d : Dropping) (ds : List Dropping) (rest_safe : (state : State) → Cleanly (With (IsSyncing number index ds)) state → SafeWith (syncs number flat (flat_spelling index) ds) state) where
    abbrev Rest : Tries (Unit {0})
    Rest = syncs number flat (flat_spelling index) ds

    abbrev Logged : State → Type 0
    Logged = IsNext (HasLogged number) number index d ds

    abbrev First : State → Type 0
    First = IsNext (FirstOf number) number index d ds

    logged_lasts : Stays Logged
    logged_lasts = next_stays (HasLogged number) number index d ds (logged_stays_so number)

    first_lasts : Stays First
    first_lasts = next_stays (FirstOf number) number index d ds (first_stays_so number)

    safe_index : (state : State) → Cleanly (With Logged) state → SafeWith (syncs_index number d Rest) state
    safe_index = safe_ask caller (Cleanly (With Logged)) (SyncDropping number d.host d.writer false) (λ reply. followed_by (if_done Rest reply) k) (with_lasts Logged logged_lasts)
        (λ state f. (f.0, record { numbers = tt; owes = λ clean. let h = (f.1 clean).1 in has_index state number (of_dropping d h.entries) h.now }))
        (λ state reply after f may step. done_safe caller reply Rest k after (λ why. ends (Err why) after)
        (λ is.
        let done_step : IsStep state caller (unbroken (SyncDropping number d.host d.writer false)) Done after = subst (λ r. IsStep state caller (unbroken (SyncDropping number d.host d.writer false)) r after) is step in
        rest_safe after (goes_on Logged (IsSyncing number index ds) logged_lasts d false state after Done may done_step
        (λ l s h. then_syncing number index d ds after
        (next_goes_own (HasLogged number) (HasCovered number) number index d ds l state after caller (unbroken (SyncDropping number d.host d.writer false)) Done may.1 done_step s h
        (covered_then number (of_dropping d h.entries) l state after caller s may.1 done_step h.now))) f)))

    safe_log : (state : State) → Cleanly (With First) state → SafeWith (syncs_both number d Rest) state
    safe_log = safe_ask caller (Cleanly (With First)) (SyncDropping number d.host d.writer true) (λ reply. followed_by (if_done (syncs_index number d Rest) reply) k) (with_lasts First first_lasts)
        (λ state f. (
          f.0,
          record {
            numbers = tt;
            owes = λ clean.
                let h = (f.1 clean).1 in
                let s = f.0.sound clean in
                has_log s.0 state s.1 number (of_dropping d h.entries) (some_logged d.writer 0 0 h.entries h.is.in_order h.is.some) h.now;
          },
        ))
        (λ state reply after f may step. done_safe caller reply (syncs_index number d Rest) k after (λ why. ends (Err why) after)
        (λ is.
        let done_step : IsStep state caller (unbroken (SyncDropping number d.host d.writer true)) Done after = subst (λ r. IsStep state caller (unbroken (SyncDropping number d.host d.writer true)) r after) is step in
        safe_index after (goes_on First Logged first_lasts d true state after Done may done_step
        (λ l s h. next_goes_own (FirstOf number) (HasLogged number) number index d ds l state after caller (unbroken (SyncDropping number d.host d.writer true)) Done may.1 done_step s h
        (logged_then number (of_dropping d h.entries) l state after caller s may.1 done_step h.now)) f)))

  -- The droppings that are left are synced, one after the other, and then the bytes are put.
  pub safe_syncs : (ds : List Dropping) (state : State) → Cleanly (With (IsSyncing number index ds)) state → SafeWith (syncs number flat (flat_spelling index) ds) state
  safe_syncs [] state f = safe_puts state f
  safe_syncs (d ∷ ds) state f =
      safe_log d ds (λ now g. safe_syncs ds now g) state
      (cleanly_so (With (IsSyncing number index (d ∷ ds))) (With (IsNext (FirstOf number) number index d ds)) state (λ l s h. (h.0, next_of number index d ds state h.1)) f)
