-- The page of a run, field by field, from what is proved of its lines and its story.
use Rattle.std.proofs.Common.{◌≡◌, ◌⊎◌, inl, inr, ℕ, Bool, true, false, List, Option, Some, None, refl, sym, subst}
use Rattle.std.specs.Prelude.{is_some}
use Rattle.plfs_types.specs.declared.entries.ShareBytes.{ShareBytes}
use Rattle.plfs_types.specs.declared.entries.Trunc.{Trunc}
use Rattle.plfs_types.specs.declared.entries.WriterCount.{WriterCount}
use Rattle.container_layout.specs.declared.items.Item.TheVariants.{OpenHost}
use Rattle.mount_sound.specs.Shape.{IsShapedTree}
use Rattle.script_lang.specs.declared.line.Outcome.{Outcome}
use Rattle.script_lang.specs.declared.line.Outcome.TheVariants as line
use Rattle.script_lang.specs.declared.line.Why.{Why}
use Rattle.script_lang.specs.declared.line.Why.TheVariants.{AlreadyOpen, Busy, Exists, Held, IdsSpent, MountsSpent, NoFile, NotOpen, StampsSpent, TooFar}
use Rattle.script_lang.specs.declared.script.Statement.{Statement}
use Rattle.script_lang.specs.declared.script.Statement.TheVariants as say
use Rattle.headline.specs.Run.{IsLine, Run, Says, Told, told}
use Rattle.headline.specs.Trees.{Has}
use Rattle.headline.specs.Writers.{Writer}
use Rattle.headline.specs.Names.{AreNamed, Named, Story, name_of}
use Rattle.headline.specs.Views.{AreTruncs, IsWriter}
use Rattle.headline.specs.Files.{Flattens, ShowsFile, TellsOfFile, reader_at}
use Rattle.headline.specs.Changes.{Opens, Recovers, TruncatesFile, writer_at}
use Rattle.headline.specs.Causes.{AreStampsSpent, HasCause, MayBeReady, WasMade}
use Rattle.headline.specs.Kinds.{IsOfKind}
use Rattle.headline.specs.Left.{AreTruncsLeft, HasLeft, IsLeft, StaysOpen}
use Rattle.headline.specs.Headline.{Headline, IsOrderly}
use Rattle.headline.specs.Contents.{HasContents}
use Rattle.headline.specs.Ended.{HasEnded}
use Rattle.headline.specs.Entries.{HasEntries}
use Rattle.headline.specs.Flattened.{HasFlattened}
use Rattle.headline.specs.Held.{HasHeld}
use Rattle.headline.specs.Indices.{HasIndices}
use Rattle.headline.specs.Opened.{HasOpened}
use Rattle.headline.specs.Readers.{HasOld, HasReaders, SpeaksOf}
use Rattle.headline.specs.Recovered.{HasRecovered}
use Rattle.headline.specs.Refusals.{HasRefusals}
use Rattle.headline.specs.Spoken.{HasSpoken}
use Rattle.headline.specs.Stamped.{HasStamps}
use Rattle.headline.specs.Stats.{HasStats}
use Rattle.headline.specs.Truncated.{HasTruncated}
use Rattle.headline.specs.Truncs.{HasTruncs}
use Rattle.headline.specs.Reasons.{HasReasons, IsReasonOf}
use Rattle.headline.specs.Still.{HasStill}
use Rattle.headline_laws.proofs.Whole.Items.{indices_fit, opens_fit, truncs_fit}

-- what is proved of a run and its story, by parts
pub record Parts (run : Run) (story : Story) : Type 0 where
  pub are_named : AreNamed run story
  pub spoken : HasSpoken run story
  pub opened : HasOpened run story
  pub readers : HasReaders run story
  pub old : HasOld run story
  pub contents : HasContents run story
  pub stats : HasStats run story
  pub stamped : HasStamps run story
  pub truncated : HasTruncated run story
  pub truncs : HasTruncs run story
  pub indices : HasIndices run story
  pub flattened : HasFlattened run story
  pub recovered : HasRecovered run story
  pub ended : HasEnded run story
  pub entries : HasEntries run story
  pub held : HasHeld run story
  pub refusals : HasRefusals run
  pub reasons : HasReasons run
  pub unready : (t : Told) → Says run t (line.Refused NotOpen) → (name_of t.statement ≡ None) × MayBeReady false run t t.statement
  pub spent : (t : Told) → Says run t (line.Refused StampsSpent) → AreStampsSpent run story t
  pub left : (n : ℕ) (w : Writer) → IsWriter run story n (told run) (told run) w → IsLeft run n w
  pub closed : (t : Told) (count n : ℕ) (w : Writer) → Says run t (line.Closed count) → writer_at run t ≡ Some w.id → IsWriter run story n (told run) (told run) w → HasLeft run n w
  pub kept : (t : Told) (n : ℕ) (w : Writer) → IsLine run t → StaysOpen run t w.id → IsWriter run story n (told run) (told run) w → Has run.after n (OpenHost w.host w.id)

-- ---- of which statement a line is

opens_what : (s : Statement) (id : ℕ) → IsOfKind s (line.Opened id) → (name : List ℕ) × (s ≡ say.Open name)
opens_what (say.Open name) id kind = (name, refl)
opens_what s id kind = absurd kind

tells_what : (s : Statement) (size stored : ℕ) (shares : List ShareBytes) (truncs : List Trunc) → IsOfKind s (line.Stat size stored shares truncs) → (name : List ℕ) × (s ≡ say.Stat name)
tells_what (say.Stat name) size stored shares truncs kind = (name, refl)
tells_what s size stored shares truncs kind = absurd kind

flattens_what : (s : Statement) (id many : ℕ) (cut : List WriterCount) → IsOfKind s (line.Flattened id many cut) → (name : List ℕ) × (s ≡ say.Flatten name)
flattens_what (say.Flatten name) id many cut kind = (name, refl)
flattens_what s id many cut kind = absurd kind

recovers_what : (s : Statement) (out : List WriterCount) (alive : List ℕ) (hold : Bool) → IsOfKind s (line.Recovered out alive hold) → (name : List ℕ) × (s ≡ say.Recover name)
recovers_what (say.Recover name) out alive hold kind = (name, refl)
recovers_what s out alive hold kind = absurd kind

truncates_what : (s : Statement) (stamp : ℕ) → IsOfKind s (line.Truncated stamp) → (name : List ℕ) × (size : ℕ) × (s ≡ say.Trunc name size)
truncates_what (say.Trunc name size) stamp kind = (name, size, refl)
truncates_what s stamp kind = absurd kind

reads_what : (s : Statement) (size : ℕ) (cut : List WriterCount) (truncs : List Trunc) → IsOfKind s (line.Reader size cut truncs) → ((name : List ℕ) × (workers : ℕ) × (s ≡ say.Ropen name workers)) ⊎ (s ≡ say.Refresh)
reads_what (say.Ropen name workers) size cut truncs kind = inl (name, workers, refl)
reads_what say.Refresh size cut truncs kind = inr refl
reads_what s size cut truncs kind = absurd kind

some_of : (o : Option Told) → is_some o ≡ true → (former : Told) × (o ≡ Some former)
some_of None none = absurd (cc)
some_of (Some former) is = (former, refl)

-- no statement is refused so
no_mounts : (s : Statement) → IsReasonOf s MountsSpent → ⊥
no_mounts (say.Open name) reason = reason
no_mounts (say.Write at content) reason = reason
no_mounts say.Sync reason = reason
no_mounts say.Close reason = reason
no_mounts (say.Ropen name workers) reason = reason
no_mounts (say.Read at len) reason = reason
no_mounts (say.Verify at content) reason = reason
no_mounts say.Map reason = reason
no_mounts say.Refresh reason = reason
no_mounts say.Rclose reason = reason
no_mounts (say.Stat name) reason = reason
no_mounts (say.Flatten name) reason = reason
no_mounts (say.Recover name) reason = reason
no_mounts (say.Trunc name size) reason = reason
no_mounts (say.Rename name to) reason = reason
no_mounts say.Ls reason = reason
no_mounts (say.Stop call bytes) reason = reason

module _ (run : Run) (story : Story) (allowed known : ℕ → Type 0) (before : IsShapedTree allowed run.before) (after : IsShapedTree known run.after) (orderly : IsOrderly run) (still : HasStill run) (parts : Parts run story)
    (named : (t : Told) → Says run t (line.Refused Held) → Named run story t) (far : (t : Told) → Says run t (line.Refused TooFar) → HasCause run story t TooFar) (ids : (t : Told) → Says run t (line.Refused IdsSpent) → HasCause run story t IdsSpent) where
  of_kind : (t : Told) (o : Outcome) → Says run t o → IsOfKind t.statement o
  of_kind t o says = subst (IsOfKind t.statement) says.says (orderly.kinds t says.is_line)

  -- it speaks of its container by this name
  by_name : (t : Told) (s : Statement) (o : Outcome) (name : List ℕ) → Says run t o → t.statement ≡ s → SpeaksOf name s o → Named run story t
  by_name t s o name says asked speaks = parts.spoken.finds t name says.is_line (subst (λ x. SpeaksOf name x t.outcome) (sym asked) (subst (SpeaksOf name s) (sym says.says) speaks))

  opens : (t : Told) (id : ℕ) → Says run t (line.Opened id) → Opens run story t id
  opens t id says =
      let w = opens_what t.statement id (of_kind t (line.Opened id) says) in
      record {
        finds = by_name t (say.Open w.0) (line.Opened id) w.0 says w.1 refl;
        index = parts.opened.index t id says;
        log = parts.opened.log t id says;
        alone = λ s is_line is. parts.opened.alone s t id (record { is_line = is_line; says = is }) says;
        new = λ n host. parts.opened.new t id n host says;
      }

  -- ---- files

  reader : (t : Told) (size : ℕ) (cut : List WriterCount) (truncs : List Trunc) → Says run t (line.Reader size cut truncs) → ShowsFile run story t size cut truncs
  reader t size cut truncs says =
      let c = parts.contents.shows t size cut truncs says in
      let r = parts.readers.sees t size cut truncs says in
      let of_container : AreTruncs run story t c.seen truncs = record {
        rise = r.stamps_rise;
        stood = λ u has. parts.old.truncs t size cut truncs u says (truncs_fit allowed run.before before (story.of t) u has) has;
        made = λ s u cuts is sooner. r.truncated s cuts.file u.stamp u.size (record { is_line = cuts.is_line; says = is }) cuts.asked sooner cuts.of;
        known = parts.truncs.readers t size cut truncs says;
        stay = r.stay;
        later = λ u has. c.later u (truncs_fit known run.after after (story.of t) u has) has;
      } in
      let by : Named run story t ⊎ ((former : Told) × (t.statement ≡ say.Refresh) × (reader_at run t ≡ Some former) × (story.of t ≡ story.of former)) =
      elim (reads_what t.statement size cut truncs (of_kind t (line.Reader size cut truncs) says)) as (λ _. Named run story t ⊎ ((former : Told) × (t.statement ≡ say.Refresh) × (reader_at run t ≡ Some former) × (story.of t ≡ story.of former))) [
        | inl (name, workers, asked) ↦ inl (by_name t (say.Ropen name workers) (line.Reader size cut truncs) name says asked refl)
        | inr asked ↦
            let ready : MayBeReady true run t say.Refresh = subst (MayBeReady true run t) asked (orderly.made t says.is_line (subst WasMade (sym says.says) tt)) in
            let f = some_of (reader_at run t) ready in
            inr (f.0, asked, f.1, r.refreshed f.0 asked f.1)
      ] in
      record { seen = c.seen; reader = by; may_see = c.may_see; cut_is = c.cut_is; truncs_are = of_container; size_is = c.size_is; answers = c.answers; maps = c.maps }

  stat : (t : Told) (size stored : ℕ) (shares : List ShareBytes) (truncs : List Trunc) → Says run t (line.Stat size stored shares truncs) → TellsOfFile run story t size stored shares truncs
  stat t size stored shares truncs says =
      let c = parts.stats.shows t size stored shares truncs says in
      let w = tells_what t.statement size stored shares truncs (of_kind t (line.Stat size stored shares truncs) says) in
      record {
        finds = by_name t (say.Stat w.0) (line.Stat size stored shares truncs) w.0 says w.1 refl;
        seen = c.seen;
        may_see = c.may_see;
        truncs_are = record {
          rise = c.stamps_rise;
          stood = λ u has. c.stood u (truncs_fit allowed run.before before (story.of t) u has) has;
          made = λ s u cuts is sooner. c.made s cuts.file u.stamp u.size (record { is_line = cuts.is_line; says = is }) cuts.asked sooner cuts.of;
          known = parts.truncs.stats t size stored shares truncs says;
          stay = c.stay;
          later = λ u has. c.later u (truncs_fit known run.after after (story.of t) u has) has;
        };
        size_is = c.size_is;
        stored_is = c.stored_is;
        shares_are = c.shares_are;
      }

  flattened : (t : Told) (id many : ℕ) (cut : List WriterCount) → Says run t (line.Flattened id many cut) → Named run story t × Flattens run story t id many cut
  flattened t id many cut says =
      let w = flattens_what t.statement id many cut (of_kind t (line.Flattened id many cut) says) in
      (by_name t (say.Flatten w.0) (line.Flattened id many cut) w.0 says w.1 refl, parts.flattened.flattens t id many cut says)

  truncated : (t : Told) (stamp : ℕ) → Says run t (line.Truncated stamp) → TruncatesFile run story t stamp
  truncated t stamp says =
      let w = truncates_what t.statement stamp (of_kind t (line.Truncated stamp) says) in
      record {
        name = w.0;
        size = w.1;
        asked = w.2;
        finds = by_name t (say.Trunc w.0 w.1) (line.Truncated stamp) w.0 says w.2 refl;
        cuts = parts.truncated.cuts t w.0 w.1 stamp says w.2;
        is = parts.stamped.truncated t stamp says;
      }

  recovered : (t : Told) (out : List WriterCount) (alive : List ℕ) (hold : Bool) → Says run t (line.Recovered out alive hold) → Recovers run story t out alive hold
  recovered t out alive hold says =
      let w = recovers_what t.statement out alive hold (of_kind t (line.Recovered out alive hold) says) in
      let with_hold : (b : Bool) → hold ≡ b → Says run t (line.Recovered out alive b) = λ b is. subst (λ x. Says run t (line.Recovered out alive x)) is says in
      record {
        finds = by_name t (say.Recover w.0) (line.Recovered out alive hold) w.0 says w.1 refl;
        rise = parts.recovered.rise t out alive hold says;
        taken_out = parts.ended.taken_out t out alive hold says;
        left = parts.ended.left t out alive hold says;
        none_left = λ is host id has. parts.recovered.none_left t out alive hold host id says (opens_fit allowed run.before before (story.of t) host id has) has;
        all_named = λ is o id is_line opened of sooner lives. parts.ended.all_named t o out alive id (with_hold false is) (record { is_line = is_line; says = opened }) of sooner lives;
        held = λ is. (let h = parts.recovered.held t out alive (with_hold true is) in (h.0, h.1, parts.held.ended t out alive (with_hold true is)));
      }

  -- ---- refusals

  cause : (t : Told) (why : Why) → Says run t (line.Refused why) → HasCause run story t why
  cause t NoFile says = parts.spoken.missing t says
  cause t (Busy host id) says = (let b = parts.entries.busy t host id says in (b.0, parts.spoken.busy t host id says, b.1))
  cause t Held says = (named t says, parts.held.refused t says)
  cause t Exists says = parts.spoken.exists t says
  cause t TooFar says = far t says
  cause t StampsSpent says = parts.spent t says
  cause t NotOpen says = parts.unready t says
  cause t AlreadyOpen says = parts.refusals.again t says
  cause t IdsSpent says = ids t says
  cause t MountsSpent says = absurd (no_mounts t.statement (parts.reasons.kinds t MountsSpent says))

  -- ---- the tree after

  truncs_left : (n : ℕ) → AreTruncsLeft run story n
  truncs_left n = record { stood = still.truncs n; known = λ u has. parts.truncs.left n u (truncs_fit known run.after after n u has) has }

  -- the law of this file
  pub whole : Headline run story
  whole = record {
    orderly = orderly;
    names = parts.are_named;
    opened = opens;
    stamped = parts.stamped.wrote;
    reader = reader;
    stat = stat;
    flattened = flattened;
    listed = parts.spoken.listed;
    truncated = truncated;
    renamed = parts.spoken.renamed;
    recovered = recovered;
    refused = cause;
    left = parts.left;
    closed = parts.closed;
    kept = parts.kept;
    truncs = truncs_left;
    indices = λ n host id has. parts.indices.known n host id (indices_fit known run.after after n host id has) has;
    entries = λ n host id has. parts.entries.known n host id (opens_fit known run.after after n host id has) has;
  }
