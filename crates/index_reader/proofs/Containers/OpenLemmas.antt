-- How the listing of a container goes on.
use Rattle.std.proofs.Common.{◌≡◌, ◌∙◌, ℕ, List, [], None, Option, Some, Ok, ap, refl, sym, subst}
use Rattle.std.specs.Prelude.{Result}
use Rattle.flat_format.specs.declared.flat.Flat.{Flat}
use Rattle.mount_model.specs.declared.stuck.Stuck.{Stuck}
use Rattle.mount_model.specs.Program.{followed_by}
use Rattle.mount_model.specs.Standing.{ready, rest_of, replied}
use Rattle.mount_model.specs.FlowReplies.{Tries, given, names_in, on_ok, trouble}
use Rattle.mount_model.specs.FlowListed.{file_in}
use Rattle.mount_model.specs.Paths.{Name}
use Rattle.mount_model.specs.declared.reply.Reply.{Reply}
use Rattle.index_reader.specs.declared.flats.AfterFlat.{AfterFlat}
use Rattle.index_reader.specs.declared.flats.AfterFlat.TheVariants.{GoesOn}
use Rattle.index_reader.specs.declared.flats.FlatRead.{FlatRead}
use Rattle.index_reader.specs.declared.flats.FlatStep.{FlatStep}
use Rattle.index_reader.specs.declared.flats.FlatStep.TheVariants as step
use Rattle.index_reader.specs.declared.listing.Listing.{Listing}
use Rattle.index_reader.specs.declared.opening.Stage.TheVariants.{Reading}
use Rattle.index_reader.specs.Scanning.{nothing_found}
use Rattle.index_reader.specs.Tops.{top_shows}
use Rattle.index_reader.specs.Newest.{flats_path, newest_in}
use Rattle.index_reader.specs.Opening.{flat_program, if_newest, open_at_program, scans, top_program}
use Rattle.index_reader.specs.OpenStages.{flat_step, flat_left, after_flat, IsOfFlat, open_left}

step_later : (room id : ℕ) (at : FlatStep) (k : Result Flat Stuck → Tries Listing) (reply : Reply) → followed_by (replied (rest_of (ready (flat_step room id at))) reply) k ≡ replied (rest_of (ready (followed_by (flat_step room id at) k))) reply
step_later room id step.Length k reply = refl
step_later room id (step.First told) k reply = refl
step_later room id (step.Bytes f) k reply = refl

-- what follows a flattened index waits until it is read
pub flat_later : (room : ℕ) (f : FlatRead) (reply : Reply) (p : Tries Flat) (q : Tries Listing) → p ≡ replied (rest_of (ready (flat_left room f))) reply
    → q ≡ followed_by p (on_ok (λ flat. top_program room f.id flat)) → q ≡ replied (rest_of (ready (open_left (Reading room f)))) reply
flat_later room f reply p q goes then_is =
    let k = on_ok {A = Flat} {R = Listing} (λ flat. top_program room f.id flat) in
    then_is ∙ ap (λ r. followed_by r k) goes ∙ step_later room f.id f.step k reply

-- it goes on with the same one
pub flat_same : (room id : ℕ) (g : FlatRead) (after : AfterFlat) → after ≡ GoesOn g → IsOfFlat id after → open_left (Reading room g) ≡ followed_by (after_flat room after) (on_ok (λ flat. top_program room id flat))
flat_same room id g after is same =
    let k = on_ok {A = Flat} {R = Listing} (λ flat. top_program room id flat) in
    let ids : g.id ≡ id = subst (IsOfFlat id) is same in
    ap (λ n. followed_by (flat_left room g) (on_ok (λ flat. top_program room n flat))) ids ∙ ap (λ (a : AfterFlat). followed_by (after_flat room a) k) (sym is)

-- what follows the listing of the top
pub top_then : (room id : ℕ) (flat : Flat) (names : List Name) (reply : Reply) (ks : Result (List ℕ) Stuck) (q : Tries Listing) → names_in reply ≡ Some names → ks ≡ top_shows names
    → q ≡ on_ok (λ ks. scans room id flat ks nothing_found) ks → q ≡ replied (rest_of (ready (top_program room id flat))) reply
top_then room id flat names reply ks q tells shows then_is =
    let k = on_ok {A = List ℕ} {R = Listing} (λ ks. scans room id flat ks nothing_found) in
    then_is ∙ ap k shows ∙ ap (λ o. given o (trouble (file_in [] []) reply) (λ names. k (top_shows names))) (sym tells)

-- what follows the listing of the flattened indices
pub newest_then : (room : ℕ) (names : List Name) (reply : Reply) (newest : Result (Option ℕ) Stuck) (found : Option ℕ) (q : Tries Listing) → names_in reply ≡ Some names → newest ≡ newest_in names None → newest ≡ Ok found
    → q ≡ if_newest room found → q ≡ replied (rest_of (ready (open_at_program room))) reply
newest_then room names reply newest found q tells shows is goes =
    let k = on_ok {A = Option ℕ} {R = Listing} (if_newest room) in
    goes ∙ ap k (sym is ∙ shows) ∙ ap (λ o. given o (trouble (flats_path []) reply) (λ names. k (newest_in names None))) (sym tells)

-- the newest one is read
pub newest_read : (room id : ℕ) (found : Option ℕ) (f : FlatRead) → found ≡ Some id → flat_left room f ≡ flat_program room id → f.id ≡ id → open_left (Reading room f) ≡ if_newest room found
newest_read room id found f is starts same =
    ap (λ n. followed_by (flat_left room f) (on_ok {A = Flat} {R = Listing} (λ flat. top_program room n flat))) same
    ∙ ap (λ p. followed_by p (on_ok {A = Flat} {R = Listing} (λ flat. top_program room id flat))) starts ∙ ap (if_newest room) (sym is)
