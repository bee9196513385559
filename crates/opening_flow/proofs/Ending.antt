-- When an opening is at its end.
use Rattle.std.proofs.Common.{◌≡◌, true, false, refl}
use Rattle.std.specs.Prelude.{◌↔◌, IsTrue}
use Rattle.std.proofs.lemmas.Bool.{false≢true}
use Rattle.mount_model.specs.FlowReplies.{on_ok}
use Rattle.mount_model.specs.Standing.{rest_of, IsOver}
use Rattle.mount_model.proofs.Flows.Composing.{calling_not_over, not_over}
use Rattle.index_reader.specs.OpenStages.{open_standing}
use Rattle.gather_flow.specs.Gathering.{gather_rest}
use Rattle.opening_flow.specs.declared.parts.Part.{Part}
use Rattle.opening_flow.specs.declared.parts.Part.TheVariants.{Listing, Gathering, Ended}
use Rattle.opening_flow.specs.Opening.{opens, reads_as}
use Rattle.opening_flow.specs.Parts.{has_ended, parted, IsPartUnderway}

-- a part that is underway has ended just where no call is to come
pub ended_or_calls : (part : Part) → IsPartUnderway part → IsTrue (has_ended part) ↔ IsOver (rest_of (parted part))
ended_or_calls (Listing scan workers) underway = (λ ended. absurd (false≢true ended), λ past. absurd (not_over (on_ok (opens workers)) (open_standing scan) underway past))
ended_or_calls (Gathering call gathering) underway = (λ ended. absurd (false≢true ended), λ past. absurd (calling_not_over (on_ok reads_as) call (gather_rest gathering) underway.0 past))
ended_or_calls (Ended result) underway = (λ ended. tt, λ past. refl)
