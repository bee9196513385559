-- A head, and what came behind it.
use Rattle.std.proofs.Common.{ℕ, ◌≡◌, ◌≢◌, inl, inr, List, [], ◌++◌, Result, Ok, Err, refl, sym, ap, subst, ◌∙◌, append-nil}
use Rattle.std.specs.Prelude.{IfOk, OnErr}
use Rattle.plfs_types.specs.Counts.{HasRisen}
use Rattle.edge_io.specs.Source.{Given, HandsOver}
use Rattle.frame_format.specs.declared.head.Head.{Head}
use Rattle.frame_format.specs.Heads.{head_bytes}
use Rattle.frame_streams.specs.declared.arriving.Arrival.{Arrival}
use Rattle.frame_streams.specs.declared.arriving.Arrival.TheVariants.{Frame, End, Cut, Long, Failed}
use Rattle.frame_streams.specs.declared.filling.Ending.TheVariants as endings
use Rattle.frame_streams.specs.Arriving.{Arrives, ArrivesBehind, Begins, Ends, HasNoRoom, IsBehind, IsOf, in_head, in_payload}
use Rattle.frame_streams.specs.Filling.{HasFilled}
use Rattle.frame_streams.proofs.Readings.{handed_both, handed_none}

some_bytes : (head : Head) (rest : List ℕ) → head_bytes head ++ rest ≢ []
unfolding head_bytes
some_bytes head rest is = cc

are_both : (head : Head) (arrival : Arrival) (rest : List ℕ) → IsBehind head arrival rest → IsOf arrival (head_bytes head ++ rest)
are_both head (Frame whole payload) rest b =
    let P : Head × List ℕ → Type 0 = λ z. IsOf (Frame z.0 z.1) (head_bytes head ++ rest) in
    subst P (λ i. (sym b.0 i, sym b.1 i)) (refl, b.2, b.3)
are_both head End rest b = absurd b
are_both head Cut rest b = (in_payload head rest refl b.0 b.1, some_bytes head rest)
are_both head (Long whole) rest b =
    let P : Head → Type 0 = λ z. IsOf (Long z) (head_bytes head ++ rest) in
    subst P (sym b.0) (ap (λ z. head_bytes head ++ z) b.1 ∙ append-nil (head_bytes head), b.2)
are_both head Failed rest b = in_payload head rest refl b.0 b.1

ends_later : (arrival : Arrival) (old mid new : Given) → mid.faults ≡ old.faults → Ends arrival mid new → Ends arrival old new
ends_later (Frame head payload) old mid new same e = e ∙ same
ends_later End old mid new same e = (e.0, e.1 ∙ same)
ends_later Cut old mid new same e = (e.0, e.1 ∙ same)
ends_later (Long head) old mid new same e = e ∙ same
ends_later Failed old mid new same e = subst (λ n. HasRisen n new.faults) same e

pub joined : (front : List ℕ) (head : Head) (arrival : Arrival) (old mid new : Given) → HasFilled 48 front endings.Full old mid → front ≡ head_bytes head → ArrivesBehind head arrival mid new → Arrives arrival old new
joined front head arrival old mid new f is b = record {
  bytes = head_bytes head ++ b.rest;
  are = are_both head arrival b.rest b.are;
  handed = handed_both (head_bytes head) b.rest old.left mid.left new.left (subst (λ (z : List ℕ). HandsOver z old.left mid.left) is f.handed) b.handed;
  ends = ends_later arrival old mid new f.ends.1 b.ends;
}

-- the source ended before the head
pub ends_so : (front : List ℕ) (old new : Given) → HasFilled 48 front endings.AtEnd old new → front ≡ [] → Arrives End old new
ends_so front old new f none = record { bytes = front; are = none; handed = f.handed; ends = (f.ends.1, f.ends.2) }

pub cut_so : (front : List ℕ) (old new : Given) → HasFilled 48 front endings.AtEnd old new → front ≢ [] → Arrives Cut old new
cut_so front old new f some = record { bytes = front; are = (in_head f.ends.0, some); handed = f.handed; ends = (f.ends.1, f.ends.2) }

pub failed_so : (front : List ℕ) (old new : Given) → HasFilled 48 front endings.Failed old new → Arrives Failed old new
failed_so front old new f = record { bytes = front; are = in_head f.ends.0; handed = f.handed; ends = f.ends.1 }

-- what came behind the head, where memory was not refused
pub joined_if : {E : Type 0} (read : Result Arrival E) (front : List ℕ) (head : Head) (old mid new : Given) → HasFilled 48 front endings.Full old mid → front ≡ head_bytes head → IfOk read (λ arrival. ArrivesBehind head arrival mid new) → IfOk read (λ arrival. Arrives arrival old new)
joined_if (Ok arrival) front head old mid new f is b = joined front head arrival old mid new f is b
joined_if (Err why) front head old mid new f is b = tt

-- ---- where memory was refused

pub none_begun : (old new : Given) → new ≡ old → Begins old new
none_begun old new same = subst (λ (z : Given). Begins old z) (sym same) (record { bytes = []; are = inl refl; handed = handed_none old.left; unfailed = refl })

-- behind the head
begun : (front : List ℕ) (head : Head) (old mid new : Given) → HasFilled 48 front endings.Full old mid → front ≡ head_bytes head → HasNoRoom head mid new → Begins old new
begun front head old mid new f is none = subst (λ (z : Given). Begins old z) (sym none.1) (record { bytes = front; are = inr (head, is, none.0); handed = f.handed; unfailed = f.ends.1 })

pub begun_if : {X E : Type 0} (read : Result X E) (front : List ℕ) (head : Head) (old mid new : Given) → HasFilled 48 front endings.Full old mid → front ≡ head_bytes head → OnErr read (HasNoRoom head mid new) → OnErr read (Begins old new)
begun_if (Ok arrival) front head old mid new f is none = tt
begun_if (Err why) front head old mid new f is none = begun front head old mid new f is none
