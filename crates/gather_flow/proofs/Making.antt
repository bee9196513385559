-- What is made of all that was read of a container may be made at once, where its truncates are listed.
use Rattle.std.proofs.Common.{◌≡◌, List, [], ◌∷◌, ◌++◌, Result, Ok, Err, refl, ◌∙◌}
use Rattle.plfs_types.specs.declared.entries.Trunc.{Trunc}
use Rattle.mount_model.specs.Program.{Program, done, ask, followed_by}
use Rattle.mount_model.specs.declared.stuck.Stuck.{Stuck}
use Rattle.mount_model.specs.FlowReplies.{Tries, on_ok}
use Rattle.mount_model.specs.declared.call.Call.{Call}
use Rattle.mount_model.specs.declared.reply.Reply.{Reply}
use Rattle.index_reader.specs.declared.listing.Listing.{Listing}
use Rattle.index_reader.specs.declared.sharing.Share.{Share}
use Rattle.index_reader.specs.Truncs.{trunc_program}
use Rattle.gather_flow.specs.declared.all_read.AllRead.{AllRead}
use Rattle.gather_flow.specs.Shares.{by_itself}
use Rattle.gather_flow.specs.OneIndex.{made_of}
use Rattle.gather_flow.specs.Gathering.{if_truncs_listed, reads_truncs}

-- one program after another, and a third after both
grouped : {A B C : Type 0} (p : Program Call Reply A) (next : A → Program Call Reply B) (last : B → Program Call Reply C)
    → followed_by (followed_by p next) last ≡ followed_by p (λ a. followed_by (next a) last)
grouped (done a) next last = refl
grouped (ask call k) next last = λ i. ask call (λ reply. grouped (k reply) next last i)

module _ {R : Type 0} (makes : Listing → List Share → List Trunc → R) where
  abbrev pub makes_it : Result AllRead Stuck → Tries R
  makes_it result = done (made_of makes result)

  -- the truncates are listed, and the whole is made
  abbrev pub made_at_once : Listing → List Share → Tries R
  made_at_once listing shares = followed_by (trunc_program listing.room) (on_ok (λ truncs. done (Ok (makes listing shares truncs))))

  unless_stuck : {A : Type 0} (next : A → Tries AllRead) (result : Result A Stuck) → followed_by (on_ok next result) makes_it ≡ on_ok (λ a. followed_by (next a) makes_it) result
  unless_stuck next (Ok a) = refl
  unless_stuck next (Err because) = refl

  pub itself_made : (listing : Listing) (programs : List (Tries Share)) (sofar : List Share)
      → followed_by (by_itself programs sofar (reads_truncs listing)) makes_it ≡ by_itself programs sofar (made_at_once listing)
  itself_made listing [] sofar =
      grouped (trunc_program listing.room) (on_ok (if_truncs_listed listing sofar)) makes_it
      ∙ (λ i. followed_by (trunc_program listing.room) (λ result. unless_stuck (if_truncs_listed listing sofar) result i))
  itself_made listing (program ∷ programs) sofar =
      grouped program (on_ok (λ share. by_itself programs (sofar ++ share ∷ []) (reads_truncs listing))) makes_it
      ∙ (λ i. followed_by program (λ result. unless_stuck (λ share. by_itself programs (sofar ++ share ∷ []) (reads_truncs listing)) result i))
      ∙ (λ i. followed_by program (on_ok (λ share. itself_made listing programs (sofar ++ share ∷ []) i)))
