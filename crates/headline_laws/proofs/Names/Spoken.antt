-- What lines say of names, whatever is renamed meanwhile: the container of a line has the name of its statement at a time of the line, what is listed stood at one
-- time, and where no file was found none had the name.
use Rattle.std.proofs.Common.{◌≡◌, inl, inr, ℕ, false, List, [], ◌∷◌, ◌++◌, length, Option, Some, refl, sym, ap, ◌∙◌, subst, arith, append_assoc, length-append}
use Rattle.std.specs.Prelude.{slice_get}
use Rattle.std.specs.List.{AllByRecursion}
use Rattle.std.proofs.lemmas.List.Elements.{All-from_recursion}
use Rattle.plain_file.proofs.Facts.{Among}
use Rattle.plfs_types.specs.Places.{IsAmong}
use Rattle.store_api.specs.Acts.{Stored}
use Rattle.store_api.specs.Names.{marks_name}
use Rattle.store_api.specs.declared.tree.Tree.{Tree}
use Rattle.mount_model.specs.History.{Event}
use Rattle.mount_model.specs.Mounting.{IsMounted}
use Rattle.mount_model.specs.Paths.{Name}
use Rattle.mount_model.specs.State.{State}
use Rattle.mount_sound.specs.Owed.{IsLawful}
use Rattle.mount_sound.specs.Sound.{IsSoundTree}
use Rattle.reader_laws.specs.Moments.{IsSoundAt, Moment, moment_after}
use Rattle.reader_laws.specs.Naming.{IsRoomNamed}
use Rattle.reader_laws.proofs.Gathered.Facts.{among, is_among, legal_first, sound_after}
use Rattle.script_lang.specs.Ranges.{FitsScript}
use Rattle.script_lang.specs.declared.line.Outcome.{Outcome}
use Rattle.script_lang.specs.declared.line.Outcome.TheVariants as line
use Rattle.script_lang.specs.declared.line.Why.TheVariants.{Busy, Exists, NoFile, StampsSpent}
use Rattle.script_lang.specs.declared.script.Statement.{Statement}
use Rattle.script_lang.specs.declared.script.Statement.TheVariants.{Flatten, Open, Recover, Rename, Ropen, Stat, Trunc}
use Rattle.actor_core.specs.declared.kept.Kept.{Kept}
use Rattle.actor_core.specs.Endings.{Ending}
use Rattle.run_core.specs.Play.{IsRight}
use Rattle.headline.specs.Run.{IsLine, Run, Says, Told}
use Rattle.headline.specs.Names.{IsFree, MayStand, Named, Story, name_of, names_in}
use Rattle.headline.specs.Files.{reader_at}
use Rattle.headline.specs.Changes.{Writing, writing_at}
use Rattle.headline.specs.Listing.{ListsNames}
use Rattle.headline.specs.Causes.{HasCause}
use Rattle.headline.specs.Reasons.{IsReasonOf}
use Rattle.headline.specs.Readers.{SpeaksOf}
use Rattle.headline_laws.proofs.Contents.OpenedWriter.{First, sound_first}
use Rattle.headline_laws.proofs.Makers.NewNames.{names_of}
use Rattle.headline_laws.proofs.Reasons.Missing.{FreeAt, free_at}
use Rattle.headline_laws.proofs.Reasons.Told.{reasons_told}
use Rattle.headline_laws.proofs.Statements.Did.{IsOfKindOr}
use Rattle.headline_laws.proofs.Statements.Does.{Ended, did, was_gone}
use Rattle.headline_laws.proofs.Story.FirstNames.{first_names}
use Rattle.headline_laws.proofs.Story.Listing.{IsNameOf, name_of_room, room_of_name}
use Rattle.headline_laws.proofs.Story.Named.{FindsBy, NamedAt, TakenAt, finds_at, its_name, taken_at}
use Rattle.headline_laws.proofs.Story.Namings.{may_stand, names_then, story_of}
use Rattle.headline_laws.proofs.Story.Lines.{room_of}
use Rattle.headline_laws.proofs.Story.Spans.{Placed, Span, placed_here, span_of}
use Rattle.headline_laws.proofs.Trees.Listed.{ListingAt, in_list, listing, unmarked_so}
use Rattle.headline_laws.proofs.Trees.Reading.{in_part}

-- a statement that finds a container names it
speaks_name : (name : Name) (s : Statement) (o : Outcome) → FindsBy name s o → name_of s ≡ Some name
speaks_name name (Rename asked to) line.Renamed is = ap (λ x. Some x) is
speaks_name name (Rename asked to) (line.Refused (Busy host id)) is = ap (λ x. Some x) is
speaks_name name (Rename asked to) (line.Refused Exists) is = ap (λ x. Some x) is
speaks_name name (Trunc asked many) (line.Refused (Busy host id)) is = ap (λ x. Some x) is
speaks_name name (Trunc asked many) (line.Refused StampsSpent) is = ap (λ x. Some x) is
speaks_name name (Open asked) (line.Opened id) is = ap (λ x. Some x) is
speaks_name name (Ropen asked workers) (line.Reader size cut truncs) is = ap (λ x. Some x) is
speaks_name name (Stat asked) (line.Stat size stored shares truncs) is = ap (λ x. Some x) is
speaks_name name (Trunc asked many) (line.Truncated stamp) is = ap (λ x. Some x) is
speaks_name name (Recover asked) (line.Recovered buried alive hold) is = ap (λ x. Some x) is
speaks_name name (Flatten asked) (line.Flattened id many cut) is = ap (λ x. Some x) is
speaks_name name s o is = absurd is

pub renamed_kind : (kept : Kept) (s : Statement) (e : Ending) → e.outcome ≡ line.Renamed → Ended kept s e → IsOfKindOr s line.Renamed
renamed_kind kept s e says (was_gone is out now) = absurd (let clash : line.Gone ≡ line.Renamed = sym out ∙ says in cc)
renamed_kind kept s e says (did lives d) = subst (IsOfKindOr s) says d.kind

module _ (run : Run) (times : Option (List ℕ)) (mount : Stored) (start end : State) (fits : FitsScript run.script) (mounted : IsMounted 0 times mount start) (tells : mount.tree ≡ Some run.before) (sound : IsSoundTree run.before)
    (right : IsRight run.script start run.lines end) (left : end.store.tree ≡ Some run.after) (free : run.in_order ≡ false) where
  abbrev Begins : Moment
  Begins = First run times mount start end fits mounted tells sound right left

  abbrev sound_begins : IsSoundAt Begins
  sound_begins = sound_first run times mount start end fits mounted tells sound right left

  abbrev Tale : Story
  Tale = story_of run Begins end fits sound_begins right

  abbrev Spanning : Told → Span
  Spanning = span_of run Begins end fits sound_begins right

  abbrev Here : Option Told → Writing → Told → Type 0
  Here r w t = Placed run Begins end fits sound_begins right r w t

  abbrev Then : List Event → List Name
  Then done = names_then run Begins end fits sound_begins right done

  -- ---- a moment in the part of a line

  -- the names may be those while its statement is made
  stands_in : {r : Option Told} {w : Writing} {t : Told} (l : Here r w t) → IsLine run t → (upto more rest : List Event) → l.its.line.part.mine ≡ upto ++ more → right.history ≡ (l.its.line.part.earlier ++ upto) ++ rest → MayStand run Tale t (Then (l.its.line.part.earlier ++ upto))
  stands_in {t = t} l is_line upto more rest inside all =
      let p = l.its.line.part in
      let from = ap (λ (z : Span). z.from) l.placed in
      let to = ap (λ (z : Span). z.to) l.placed in
      let long = length-append p.earlier upto in
      let many = ap length inside ∙ length-append upto more in
      may_stand run Begins end fits sound_begins right free (first_names run times mount start mounted tells) t is_line (p.earlier ++ upto) rest all (omega (arith, from, long)) (omega (arith, to, long, many))

  pub sound_then : (done rest : List Event) → right.history ≡ done ++ rest → IsSoundAt (moment_after Begins done)
  sound_then done rest all = sound_after Begins done (legal_first Begins done rest (subst (IsLawful Begins.state) all right.leads.lawful)) sound_begins

  -- a container that has the name then
  pub named_then : (done rest : List Event) (name : Name) (room : ℕ) → right.history ≡ done ++ rest → IsRoomNamed (moment_after Begins done) name room → slice_get (Then done) room ≡ Some name
  named_then done rest name room all is =
      let s = sound_then done rest all in
      let r = is s.shape.tree s.shape.told in
      ap (λ (ns : List Name). slice_get ns room) (ap names_of s.shape.told) ∙ its_name s.shape.tree room r.room name r.has_room r.named

  -- The line speaks of a container that has its name at this moment.
  pub named_in : {r : Option Told} {w : Writing} {t : Told} (l : Here r w t) → IsLine run t → (name : Name) (room : ℕ) (upto more : List Event) → name_of t.statement ≡ Some name → l.its.line.part.mine ≡ upto ++ more → slice_get (Then (l.its.line.part.earlier ++ upto)) room ≡ Some name → Tale.of t ≡ room
      → Named run Tale t
  named_in {t = t} l is_line name room upto more asked mine there of =
      let p = l.its.line.part in
      let split : right.history ≡ (p.earlier ++ upto) ++ (more ++ p.later) = p.split ∙ ap (λ z. p.earlier ++ (z ++ p.later)) mine ∙ ap (λ z. p.earlier ++ z) (append_assoc upto more p.later) ∙ sym (append_assoc p.earlier upto (more ++ p.later)) in
      record {
        name = name;
        asked = asked;
        names = Then (p.earlier ++ upto);
        stand = stands_in l is_line upto more (more ++ p.later) mine split;
        found = ap (λ k. slice_get (Then (p.earlier ++ upto)) k) of ∙ there;
      }

  pub speaks_there : {r : Option Told} {w : Writing} {t : Told} (l : Here r w t) → IsLine run t → (name : Name) (room : ℕ) (upto later : List Event) → name_of t.statement ≡ Some name → l.its.line.shown.front ≡ upto ++ later → IsRoomNamed (moment_after Begins (l.its.line.part.earlier ++ upto)) name room
      → Tale.of t ≡ room → Named run Tale t
  speaks_there {t = t} l is_line name room upto later asked front named of =
      let p = l.its.line.part in
      let h = l.its.line.shown in
      let split = in_part right.history p.earlier p.mine p.later h.front h.rest upto later p.split h.split front in
      let mine : p.mine ≡ upto ++ (later ++ h.rest) = h.split ∙ ap (λ z. z ++ h.rest) front ∙ append_assoc upto later h.rest in
      named_in l is_line name room upto (later ++ h.rest) asked mine (named_then (p.earlier ++ upto) (later ++ (h.rest ++ p.later)) name room split named) of

  -- ---- the laws of this file

  -- a line that tells of a container speaks of it by its name
  pub finds_its : (t : Told) (name : Name) → IsLine run t → FindsBy name t.statement t.outcome → Named run Tale t
  finds_its t name is_line speaks =
      let l = placed_here run Begins end fits sound_begins right t is_line in
      let p = l.its.line.part in
      let h = l.its.line.shown in
      let room : ℕ = room_of Begins l.its.number (record { before = p.earlier; events = h.front }) (length run.after.rooms) l.its.line.file h.new h.new_writer t.statement t.outcome h.shows in
      let a : NamedAt Begins p.earlier h.front name room = finds_at Begins l.its.number p.earlier h.front (length run.after.rooms) name l.its.line.file h.new l.its.line.writer h.new_writer t.statement t.outcome speaks h.shows h.writes in
      speaks_there l is_line name room a.upto a.later (speaks_name name t.statement t.outcome speaks) a.split a.named l.its.line.here

  pub spoken_its : (t : Told) (name : Name) → IsLine run t → SpeaksOf name t.statement t.outcome → Named run Tale t
  spoken_its t name is_line speaks = finds_its t name is_line (as_found t.statement t.outcome speaks)
    where
      as_found : (s : Statement) (o : Outcome) → SpeaksOf name s o → FindsBy name s o
      as_found (Open asked) (line.Opened id) is = is
      as_found (Ropen asked workers) (line.Reader size cut truncs) is = is
      as_found (Stat asked) (line.Stat size stored shares truncs) is = is
      as_found (Trunc asked many) (line.Truncated stamp) is = is
      as_found (Recover asked) (line.Recovered buried alive hold) is = is
      as_found (Flatten asked) (line.Flattened id many cut) is = is
      as_found s o is = absurd is

  pub renamed_its : (t : Told) → Says run t line.Renamed → Named run Tale t
  renamed_its t says = by t.statement refl (renamed_kind l.its.line.kept t.statement l.its.line.part.e (sym l.its.line.says ∙ says.says) l.its.line.part.ended)
    where
      l : Here (reader_at run t) (writing_at run t) t
      l = placed_here run Begins end fits sound_begins right t says.is_line

      by : (s : Statement) → t.statement ≡ s → IsOfKindOr t.statement line.Renamed → Named run Tale t
      by (Rename name to) is kind = finds_its t name says.is_line (subst (FindsBy name t.statement) (sym says.says) (subst (λ x. FindsBy name x line.Renamed) (sym is) refl))
      by s is kind = absurd (subst (λ x. IsOfKindOr x line.Renamed) is kind)

  pub busy_its : (t : Told) (host id : ℕ) → Says run t (line.Refused (Busy host id)) → Named run Tale t
  busy_its t host id says = by t.statement refl ((reasons_told run Begins end fits sound_begins right).kinds t (Busy host id) says)
    where
      found : (name : Name) (s : Statement) → t.statement ≡ s → FindsBy name s (line.Refused (Busy host id)) → Named run Tale t
      found name s is by_name = finds_its t name says.is_line (subst (FindsBy name t.statement) (sym says.says) (subst (λ x. FindsBy name x (line.Refused (Busy host id))) (sym is) by_name))

      by : (s : Statement) → t.statement ≡ s → IsReasonOf t.statement (Busy host id) → Named run Tale t
      by (Rename name to) is kind = found name (Rename name to) is refl
      by (Trunc name size) is kind = found name (Trunc name size) is refl
      by s is kind = absurd (subst (λ x. IsReasonOf x (Busy host id)) is kind)

  -- a rename is refused since a container has the other name
  pub exists_so : (t : Told) → Says run t (line.Refused Exists) → HasCause run Tale t Exists
  exists_so t says = by t.statement refl ((reasons_told run Begins end fits sound_begins right).kinds t Exists says)
    where
      taken : (name to : Name) → t.statement ≡ Rename name to → HasCause run Tale t Exists
      taken name to is =
          let l = placed_here run Begins end fits sound_begins right t says.is_line in
          let p = l.its.line.part in
          let h = l.its.line.shown in
          let k : TakenAt Begins l.its.number p.earlier h.front (length run.after.rooms) to = taken_at Begins l.its.number p.earlier h.front (length run.after.rooms) name to l.its.line.file h.new t.statement t.outcome is says.says h.shows in
          let split = in_part right.history p.earlier p.mine p.later h.front h.rest k.upto k.later p.split h.split k.split in
          let done : List Event = p.earlier ++ k.upto in
          let s = sound_then done (k.later ++ (h.rest ++ p.later)) split in
          let r = k.named s.shape.tree s.shape.told in
          let mine : p.mine ≡ k.upto ++ (k.later ++ h.rest) = h.split ∙ ap (λ z. z ++ h.rest) k.split ∙ append_assoc k.upto k.later h.rest in
          let there : IsAmong to (Then done) = subst (IsAmong to) (sym (ap names_of s.shape.told)) (is_among (names_in s.shape.tree) to (room_of_name s.shape.tree.rooms to k.other r.room r.has_room r.named)) in (
            finds_its t name says.is_line (subst (FindsBy name t.statement) (sym says.says) (subst (λ x. FindsBy name x (line.Refused Exists)) (sym is) refl)),
            (name, to, Then done, is, stands_in l says.is_line k.upto (k.later ++ h.rest) (k.later ++ (h.rest ++ p.later)) mine split, there),
          )

      by : (s : Statement) → t.statement ≡ s → IsReasonOf t.statement Exists → HasCause run Tale t Exists
      by (Rename name to) is kind = taken name to is
      by s is kind = absurd (subst (λ x. IsReasonOf x Exists) is kind)

  -- what is listed are the names that stood at one time
  pub lists_names : (t : Told) (names : List Name) → Says run t (line.Listed names) → ListsNames run Tale t names
  lists_names t names says =
      let l = placed_here run Begins end fits sound_begins right t says.is_line in
      let p = l.its.line.part in
      let z : ListingAt run times mount start end fits mounted tells sound right left free l.its names = listing run times mount start end fits mounted tells sound right left free (reader_at run t) (writing_at run t) t l.its names says.says in
      let done : List Event = p.earlier ++ z.upto in
      let tree : Tree = z.sound_there.shape.tree in
      let are : Then done ≡ names_in tree = ap names_of z.sound_there.shape.told in
      record {
        names = Then done;
        stand = stands_in l says.is_line z.upto z.inside.0 z.rest z.inside.1 z.split;
        ordered = z.listed.ordered;
        there = All-from_recursion (λ (name : Name). IsAmong name (Then done)) names (each done tree are z.listed.found names (λ name at. at));
        all = λ name at apart. (let f = name_of_room tree.rooms name (among (names_in tree) name (subst (IsAmong name) are at)) in
            in_list run times mount start end fits mounted tells sound right left free l.its names z f.number name apart (record { tree = tree; told = z.sound_there.shape.told; room = f.room; there = f.there; is = f.is }));
        unmarked = λ at. unmarked_so names z.listed.logical (among names marks_name at);
      }
    where
      each : (done : List Event) (tree : Tree) → Then done ≡ names_in tree → ((name : Name) → Among name names → IsNameOf tree.rooms name) → (xs : List Name) → ((name : Name) → Among name xs → Among name names) → AllByRecursion (λ (name : Name). IsAmong name (Then done)) xs
      each done tree are found [] all = tt
      each done tree are found (x ∷ xs) all =
          let f = found x (all x (inl refl)) in
          (subst (IsAmong x) (sym are) (is_among (names_in tree) x (room_of_name tree.rooms x f.number f.room f.there f.is)), each done tree are found xs (λ name at. all name (inr at)))

  -- where no file was found none had the name
  finds_none : (t : Told) (name : Name) → Says run t (line.Refused NoFile) → name_of t.statement ≡ Some name → HasCause run Tale t NoFile
  finds_none t name says asked =
      let l = placed_here run Begins end fits sound_begins right t says.is_line in
      let p = l.its.line.part in
      let z : FreeAt run times mount start end fits mounted tells sound right left free l.its name = free_at run times mount start end fits mounted tells sound right left free (reader_at run t) (writing_at run t) t l.its name says.says says.is_line asked in
      let done : List Event = p.earlier ++ z.upto in
      let s = sound_then done z.rest z.split in
      let are : Then done ≡ names_in s.shape.tree = ap names_of s.shape.told in
      let none : IsFree name (Then done) = λ at. (let f = name_of_room s.shape.tree.rooms name (among (names_in s.shape.tree) name (subst (IsAmong name) are at)) in z.none s.shape.tree s.shape.told f.number f.room f.there f.is) in
      (name, Then done, asked, stands_in l says.is_line z.upto z.inside.0 z.rest z.inside.1 z.split, none)

  pub none_found : (t : Told) → Says run t (line.Refused NoFile) → HasCause run Tale t NoFile
  none_found t says = by t.statement refl ((reasons_told run Begins end fits sound_begins right).kinds t NoFile says)
    where
      by : (s : Statement) → t.statement ≡ s → IsReasonOf t.statement NoFile → HasCause run Tale t NoFile
      by (Ropen name workers) is kind = finds_none t name says (ap name_of is)
      by (Stat name) is kind = finds_none t name says (ap name_of is)
      by (Flatten name) is kind = finds_none t name says (ap name_of is)
      by (Recover name) is kind = finds_none t name says (ap name_of is)
      by (Trunc name size) is kind = finds_none t name says (ap name_of is)
      by (Rename name to) is kind = finds_none t name says (ap name_of is)
      by s is kind = absurd (subst (λ x. IsReasonOf x NoFile) is kind)
