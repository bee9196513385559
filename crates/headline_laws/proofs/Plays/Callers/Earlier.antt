-- What was opened behind earlier calls was opened by all of them.
use Rattle.std.proofs.Common.{◌≡◌, ℕ, List, [], ◌∷◌, ◌++◌, sym, ap, ◌∙◌, subst, arith, append_assoc}
use Rattle.plfs_types.specs.declared.entries.Trunc.{Trunc}
use Rattle.turn_object.specs.Callers.{made_by}
use Rattle.mount_model.specs.History.{Event}
use Rattle.mount_sound.specs.Owed.{IsLawful}
use Rattle.index_reader.specs.declared.opened.OpenReader.{OpenReader}
use Rattle.reader_laws.specs.Gathering.{Gathered, IsAdmissible}
use Rattle.reader_laws.specs.Moments.{Moment, IsSoundAt, Grows, moment_after}
use Rattle.reader_laws.specs.GatheringOpening.{HasView}
use Rattle.reader_laws.proofs.Gathered.Facts.{grows_after, legal_first, legal_rest, moment-append, sound_after, stood_grows}
use Rattle.reader_laws.specs.Opened.{HasOpenReader, HasOpenedIn}
use Rattle.headline_laws.proofs.Plays.Readers.Opened.{no_calls}

-- of a view from a later moment on
pub view_earlier : (a b end : Moment) (room : ℕ) (cut : List Gathered) (truncs : List Trunc) → Grows a b → HasView b end room cut truncs → HasView a end room cut truncs
view_earlier a b end room cut truncs grows v = record {
  rise = v.rise;
  admissible = each cut v.admissible;
  complete = λ d its stood. v.complete d its (stood_grows a b d grows stood);
  all_truncs = v.all_truncs;
  entries = v.entries;
}
  where
    each : (gs : List Gathered) → IsAdmissible b end gs → IsAdmissible a end gs
    each [] all = tt
    each (g ∷ gs) all = (
      record { least = omega (arith, all.0.least, grows.landed g.dropping all.0.stands.is_item); most = all.0.most; were_issued = all.0.were_issued; stands = all.0.stands; entries = all.0.entries },
      each gs all.1,
    )

-- behind a call of the caller's, and none before that
pub opened_earlier : (n : ℕ) (now : Moment) (front waits : List Event) (event : Event) (more rest : List Event) (reader : OpenReader) → IsSoundAt now → front ≡ waits ++ event ∷ more → IsLawful now.state (front ++ rest) → made_by n waits ≡ [] → event.caller ≡ n → HasOpenedIn n (moment_after now front) rest reader
    → HasOpenedIn n now (front ++ rest) reader
opened_earlier n now front waits event more rest reader sound split lawful none own h =
    let x : List Event = h.before ++ (h.first ∷ h.more) in
    let start : Moment = moment_after now waits in
    let from : Moment = moment_after (moment_after now front) h.before in
    let whole : rest ≡ x ++ (h.listing ∷ h.later) = h.split ∙ sym (append_assoc h.before (h.first ∷ h.more) (h.listing ∷ h.later)) in
    let all : front ++ rest ≡ waits ++ (event ∷ (more ++ x) ++ h.listing ∷ h.later) =
    ap (λ z. z ++ rest) split ∙ append_assoc waits (event ∷ more) rest ∙ ap (λ z. waits ++ event ∷ (more ++ z)) whole ∙ ap (λ z. waits ++ event ∷ z) (sym (append_assoc more x (h.listing ∷ h.later))) in
    let to : (y : List Event) → moment_after (moment_after now front) y ≡ moment_after start (event ∷ (more ++ y)) =
    λ y. sym (moment-append now front y) ∙ ap (moment_after now) (ap (λ z. z ++ y) split ∙ append_assoc waits (event ∷ more) y) ∙ moment-append now waits (event ∷ (more ++ y)) in
    let until : moment_after from (h.first ∷ h.more) ≡ moment_after start (event ∷ (more ++ x)) = sym (moment-append (moment_after now front) h.before (h.first ∷ h.more)) ∙ to x in
    let l0 : IsLawful now.state (waits ++ (event ∷ (more ++ h.before) ++ (h.first ∷ h.more ++ h.listing ∷ h.later))) = subst (IsLawful now.state)
    (ap (λ z. z ++ rest) split ∙ append_assoc waits (event ∷ more) rest ∙ ap (λ z. waits ++ event ∷ (more ++ z)) h.split ∙ ap (λ z. waits ++ event ∷ z) (sym (append_assoc more h.before (h.first ∷ h.more ++ h.listing ∷ h.later)))) lawful in
    let rest0 : IsLawful start.state ((event ∷ (more ++ h.before)) ++ (h.first ∷ h.more ++ h.listing ∷ h.later)) = legal_rest now waits (event ∷ (more ++ h.before) ++ (h.first ∷ h.more ++ h.listing ∷ h.later)) l0 in
    let s0 : IsSoundAt start = sound_after now waits (legal_first now waits (event ∷ (more ++ h.before) ++ (h.first ∷ h.more ++ h.listing ∷ h.later)) l0) sound in
    let grows : Grows start from = subst (Grows start) (sym (to h.before)) (grows_after start (event ∷ (more ++ h.before)) (legal_first start (event ∷ (more ++ h.before)) (h.first ∷ h.more ++ h.listing ∷ h.later) rest0) s0) in
    let end : Moment = moment_after from (h.first ∷ h.more) in
    let has : HasOpenReader start end reader h.cut = record {
      view = view_earlier start from end reader.room h.cut reader.truncs grows h.has.view;
      hosts = h.has.hosts;
      pieces = h.has.pieces;
      size = h.has.size;
      covers = h.has.covers;
    } in
    record {
      before = waits;
      first = event;
      more = more ++ x;
      listing = h.listing;
      later = h.later;
      split = all;
      waits = no_calls n waits none;
      begins = own;
      lists = h.lists;
      truncates = h.truncates;
      cut = h.cut;
      has = subst (λ m. HasOpenReader start m reader h.cut) until has;
    }
