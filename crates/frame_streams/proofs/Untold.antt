-- What comes of bytes that aren't told.
use Rattle.std.proofs.Common.{ℕ, ◌≡◌, ◌≤◌, ◌<◌, List, [], ◌∷◌, ◌++◌, length, inl, refl, subst, None, Result, Ok, Err, arith}
use Rattle.std.specs.Prelude.{IfOk}
use Rattle.std.specs.Result.{ForOk}
use Rattle.plfs_types.specs.declared.bytes.TheConstants.{MAX_BLOCK}
use Rattle.edge_io.specs.Source.{Given}
use Rattle.frame_format.specs.declared.head.Head.{Head}
use Rattle.frame_format.specs.Heads.{head_bytes}
use Rattle.frame_streams.specs.declared.arriving.Arrival.{Arrival}
use Rattle.frame_streams.specs.declared.arriving.Arrival.TheVariants.{Frame, End, Cut, Long, Failed}
use Rattle.frame_streams.specs.Arriving.{Arrives, Begins, CountsFault, Ends, IsOf, MayArrive, in_head}

-- bytes of which it may have come
abbrev bytes_of : Arrival → List ℕ
bytes_of (Frame head payload) = head_bytes head ++ payload
bytes_of End = []
bytes_of Cut = 0 ∷ []
bytes_of (Long head) = head_bytes head
bytes_of Failed = []

are_of : (arrival : Arrival) → MayArrive arrival → IsOf arrival (bytes_of arrival)
are_of (Frame head payload) may = (let fits = may.0 head payload refl in (refl, fits.0, fits.1))
are_of End may = refl
are_of Cut may = (in_head (omega arith), λ same. cc)
are_of (Long head) may = (refl, may.1 head refl)
are_of Failed may = in_head (omega arith)

abbrev untold : ℕ → Given
untold faults = record { left = None; faults = faults }

ends_untold : (arrival : Arrival) (before after : ℕ) → CountsFault arrival before after → Ends arrival (untold before) (untold after)
ends_untold (Frame head payload) before after counts = counts
ends_untold End before after counts = (tt, counts)
ends_untold Cut before after counts = (tt, counts)
ends_untold (Long head) before after counts = counts
ends_untold Failed before after counts = counts

pub arrives_untold : (arrival : Arrival) (before after : ℕ) → MayArrive arrival → CountsFault arrival before after → Arrives arrival (record { left = None; faults = before }) (record { left = None; faults = after })
arrives_untold arrival before after may counts = record { bytes = bytes_of arrival; are = are_of arrival may; handed = refl; ends = ends_untold arrival before after counts }

pub begins_untold : (faults : ℕ) → Begins (record { left = None; faults = faults }) (record { left = None; faults = faults })
begins_untold faults = record { bytes = []; are = inl refl; handed = refl; unfailed = refl }

-- what came of some bytes may come
may_of : (arrival : Arrival) (bytes : List ℕ) → IsOf arrival bytes → MayArrive arrival
may_of (Frame head payload) bytes is = (λ h p same. (let long : length payload ≡ head.len = is.1 in let heads : head ≡ h = cc in (cc, subst (λ (a : Head). a.len ≤ MAX_BLOCK) heads is.2)), λ h same. (let no : ⊥ = cc in absurd no))
may_of End bytes is = (λ h p same. (let no : ⊥ = cc in absurd no), λ h same. (let no : ⊥ = cc in absurd no))
may_of Cut bytes is = (λ h p same. (let no : ⊥ = cc in absurd no), λ h same. (let no : ⊥ = cc in absurd no))
may_of (Long head) bytes is = (λ h p same. (let no : ⊥ = cc in absurd no), λ h same. (let heads : head ≡ h = cc in subst (λ (a : Head). MAX_BLOCK < a.len) heads is.1))
may_of Failed bytes is = (λ h p same. (let no : ⊥ = cc in absurd no), λ h same. (let no : ⊥ = cc in absurd no))

pub arrived_may : {E : Type 0} (read : Result Arrival E) (old new : Given) → IfOk read (λ arrival. Arrives arrival old new) → ForOk read MayArrive
arrived_may (Ok arrival) old new a = λ other same. (let one : arrival ≡ other = cc in subst MayArrive one (may_of arrival a.bytes a.are))
arrived_may (Err why) old new a = λ other same. (let no : ⊥ = cc in absurd no)
