-- A reader's line shows one plain file, of which are all answers of the reader and its maps.
use Rattle.std.proofs.Common.{◌≡◌, ◌≢◌, ◌⊎◌, ◌≤◌, ◌<◌, ◌+◌, inl, inr, ℕ, false, List, [], ◌∷◌, ◌++◌, length, map, Option, Some, None, refl, sym, ap, ◌∙◌, subst, arith}
use Rattle.std.specs.List.{All}
use Rattle.std.proofs.lemmas.List.Elements.{All-from_recursion}
use Rattle.plfs_types.specs.declared.entries.Entry.{Entry}
use Rattle.plfs_types.specs.declared.entries.Trunc.{Trunc}
use Rattle.plfs_types.specs.declared.entries.WriterCount.{WriterCount}
use Rattle.plain_file.specs.declared.changes.Change.{Change}
use Rattle.plain_file.specs.declared.changes.Change.TheVariants.{Truncate}
use Rattle.plain_file.specs.declared.pieces.Piece.{Piece}
use Rattle.plain_file.specs.File.{plain, plain_size}
use Rattle.plain_file.specs.Runs.{ArePieces, ArePiecesOf}
use Rattle.plain_file.specs.Shows.{truncs_of}
use Rattle.plain_file.proofs.Facts.{Among}
use Rattle.container_layout.specs.Items.{IsItem}
use Rattle.container_layout.specs.Paths.{path_of}
use Rattle.store_api.specs.Acts.{Stored}
use Rattle.mount_model.specs.Mounting.{IsMounted}
use Rattle.mount_model.specs.History.{Event}
use Rattle.mount_model.specs.State.{State}
use Rattle.mount_sound.specs.Ledger.{entries_in}
use Rattle.mount_sound.specs.Owed.{IsLawful}
use Rattle.mount_sound.specs.Sound.{IsSoundTree}
use Rattle.reader_laws.specs.Moments.{HadTrunc, IsSoundAt, Moment, file_told, moment_after}
use Rattle.reader_laws.specs.GatheringOpening.{HasView}
use Rattle.reader_laws.specs.View.{WritersRise, changes_in, cut_off, writes_in}
use Rattle.mount_sound.specs.Ledger.{change_of}
use Rattle.reader_laws.proofs.Gathered.Facts.{All-weaker, among, legal_first, legal_rest, moment-append, sound_after}
use Rattle.reader_laws.proofs.Gathered.OpenReaders.Viewing.{entries_of-changes, truncs_of-changes}
use Rattle.script_lang.specs.Ranges.{FitsScript}
use Rattle.script_lang.specs.declared.line.Outcome.TheVariants as line
use Rattle.script_lang.specs.declared.script.Statement.{Statement}
use Rattle.script_lang.specs.declared.script.Statement.TheVariants.{Map}
use Rattle.actor_core.specs.declared.kept.Kept.{Kept}
use Rattle.actor_core.specs.Endings.{Ending}
use Rattle.run_core.specs.Play.{IsRight}
use Rattle.headline_laws.specs.OneFile.{ArePiecesSeen, OneFile}
use Rattle.headline_laws.specs.OneWriter.{OneWriter}
use Rattle.headline_laws.specs.Showing.{TellsOneFile}
use Rattle.headline_laws.proofs.Plays.Facts.{Next}
use Rattle.headline.specs.Run.{IsLine, Run, Says, Told, before, own, phased, told}
use Rattle.plfs_types.specs.Places.{IsAmong}
use Rattle.headline.specs.Trees.{Has}
use Rattle.headline.specs.Views.{IsCut, Seen, changes_of, item_of, writes_of}
use Rattle.headline.specs.Files.{Answers, reader_after, reader_at, reader_next}
use Rattle.outcomes.specs.Outcomes.{entry_of}
use Rattle.headline.specs.Changes.{writing_at}
use Rattle.headline.specs.Contents.{HasContents, ShowsContents}
use Rattle.headline_laws.proofs.OrderlyLines.AnswerSteps.{MapsSo, step_of}
use Rattle.headline_laws.proofs.OrderlyLines.Answering.{AllBehind, SaysOf, Shown, apart_before, later, not_next, own_rise, reader_actor, rise_behind}
use Rattle.headline_laws.proofs.OrderlyLines.Places.{Rise, Split, among_later, beside_rise, own_split}
use Rattle.headline_laws.proofs.Statements.Did.{IsOfKindOr}
use Rattle.headline_laws.proofs.Statements.Does.{Ended, did, was_gone}
use Rattle.headline_laws.proofs.Story.Attributed.{head_of, tail_of}
use Rattle.headline_laws.proofs.Story.Lines.{AnyLine, LineOn, container, line_here, line_on, whole_history}
use Rattle.headline_laws.proofs.Story.Shown.{ShownEach}
use Rattle.headline_laws.proofs.Trees.Reading.{ReaderLine, last_tree, reader_line}
use Rattle.headline_laws.proofs.Trees.Sights.{reader_sees}
use Rattle.headline_laws.proofs.Trees.Still.{file_of}
use Rattle.headline_laws.proofs.Contents.Above.{IsBelow, later_above}
use Rattle.headline_laws.proofs.Contents.Counted.{Begin, HasSeen, IsSeen, all_seen, homes, sound_begin}
use Rattle.headline_laws.proofs.Contents.Cuts.{cut_seen}

-- ---- the lines behind a reader's

steps : (m : Moment) (sound : IsSoundAt m) (n : ℕ) (history : List Event) (blocks : List (List Event)) (whole : Next m [] history) (done : List Event) (kept : Kept) (file : Option OneFile) (writer : Option OneWriter) (ts : List Told) → ShownEach m sound n history blocks whole done kept file writer ts → Shown file ts
steps m sound n history blocks whole done kept file writer [] each = tt
steps m sound n history blocks whole done kept file writer (t ∷ ts) (p, says, idle, s, more) = (
  s.new,
  step_of m n (record { before = p.earlier; events = s.front }) file t.statement t.outcome s.new s.shows,
  steps m sound n history blocks whole (p.earlier ++ p.mine) p.e.kept s.new s.new_writer ts more,
)

rise_rest : (place : ℕ) (xs : List Told) (t : Told) (rest : List Told) → Rise place (xs ++ t ∷ rest) → Rise (t.place + 1) rest
rise_rest place [] t rest rise = rise.1
rise_rest place (x ∷ xs) t rest rise = rise_rest (x.place + 1) xs t rest rise.1

it_is_there : (t : Told) (xs rest : List Told) → Among t (xs ++ t ∷ rest)
it_is_there t [] rest = inl refl
it_is_there t (x ∷ xs) rest = inr (it_is_there t xs rest)

-- a line whose reader is this one stands behind it, and no line between them is one of a reader
record StandsBehind (t s : Told) (rest post : List Told) : Type 0 where
  pub pre : List Told
  pub is : rest ≡ pre ++ s ∷ post
  pub after : reader_after (Some t) pre ≡ Some t

stands_behind : (t : Told) (size : ℕ) (cut : List WriterCount) (truncs : List Trunc) → t.outcome ≡ line.Reader size cut truncs → (place : ℕ) (xs rest ys : List Told) (s : Told) (post : List Told) (r : Option Told) → Rise place (xs ++ t ∷ rest) → xs ++ t ∷ rest ≡ ys ++ s ∷ post → r ≢ Some t → reader_after r ys ≡ Some t
    → StandsBehind t s rest post
stands_behind t size cut truncs says place xs rest [] s post r rise is not after = absurd (not after)
stands_behind t size cut truncs says place [] rest (y ∷ ys) s post r rise is not after =
    let same : t ≡ y = head_of t y rest (ys ++ s ∷ post) is in
    let next : reader_next r y y.outcome ≡ Some t = subst (λ (z : Told). reader_next r z z.outcome ≡ Some t) same (ap (reader_next r t) says) in
    record { pre = ys; is = tail_of t y rest (ys ++ s ∷ post) is; after = ap (λ q. reader_after q ys) (sym next) ∙ after }
stands_behind t size cut truncs says place (x ∷ xs) rest (y ∷ ys) s post r rise is not after =
    let same : x ≡ y = head_of x y (xs ++ t ∷ rest) (ys ++ s ∷ post) is in
    let far : x.place + 1 ≤ t.place = among_later (x.place + 1) (xs ++ t ∷ rest) t rise.1 (it_is_there t xs rest) in
    stands_behind t size cut truncs says (x.place + 1) xs rest ys s post (reader_next r x x.outcome) rise.1 (tail_of x y (xs ++ t ∷ rest) (ys ++ s ∷ post) is) (not_next t r x x.outcome (apart_before t x (omega (arith, far))) not)
    (subst (λ (z : Told). reader_after (reader_next r z z.outcome) ys ≡ Some t) (sym same) after)

-- ---- maps

map_of : (s : Statement) (text : List Entry) → IsOfKindOr s (line.Map text) → s ≡ Map
map_of Map text kind = refl
map_of s text kind = absurd kind

was_map : (kept : Kept) (s : Statement) (e : Ending) (text : List Entry) → e.outcome ≡ line.Map text → Ended kept s e → s ≡ Map
was_map kept s e text says (was_gone is out now) = absurd (let clash : line.Gone ≡ line.Map text = sym out ∙ says in cc)
was_map kept s e text says (did lives d) = map_of s text (subst (IsOfKindOr s) says d.kind)

-- ---- the file

module _ (run : Run) (times : Option (List ℕ)) (mount : Stored) (start end : State) (fits : FitsScript run.script) (mounted : IsMounted 0 times mount start) (tells : mount.tree ≡ Some run.before) (sound : IsSoundTree run.before)
    (right : IsRight run.script start run.lines end) (left : end.store.tree ≡ Some run.after) (free : run.in_order ≡ false) where
  abbrev First : Moment
  First = Begin run times mount start end fits mounted tells sound right left

  abbrev sound_first : IsSoundAt First
  sound_first = sound_begin run times mount start end fits mounted tells sound right left

  abbrev homes_of : Told → ℕ
  homes_of t = container run First end fits sound_first right t

  -- what was listed behind these events, and what stands in the end
  pub above_all : (t : Told) (file : OneFile) (upto rest : List Event) (begun : Moment) → right.history ≡ upto ++ rest → file.moment ≡ moment_after First upto → homes_of t ≡ file.room → HasView begun file.moment file.room file.cut file.truncs → (u : Trunc) → IsItem (item_of u) → Has run.after (homes_of t) (item_of u)
      → IsAmong u file.truncs ⊎ (All (IsBelow u.stamp) (map change_of (writes_in file.moment file.cut)) × All (λ (v : Trunc). v.stamp < u.stamp) file.truncs)
  above_all t file upto rest begun is moment room view u is_item has = later_above begun file.moment rest file.room file.cut file.truncs u lawful_then sound_then view (subst (λ x. HadTrunc x file.room u.stamp u.size) ends (subst (λ k. HadTrunc (moment_after First right.history) k u.stamp u.size) room last))
    where
      lawful_all : IsLawful start (upto ++ rest)
      lawful_all = subst (IsLawful start) is right.leads.lawful

      lawful_then : IsLawful file.moment.state rest
      lawful_then = subst (λ (x : Moment). IsLawful x.state rest) (sym moment) (legal_rest First upto rest lawful_all)

      sound_then : IsSoundAt file.moment
      sound_then = subst IsSoundAt (sym moment) (sound_after First upto (legal_first First upto rest lawful_all) sound_first)

      ends : moment_after First right.history ≡ moment_after file.moment rest
      ends = ap (moment_after First) is ∙ moment-append First upto rest ∙ ap (λ (x : Moment). moment_after x rest) (sym moment)

      last : HadTrunc (moment_after First right.history) (homes_of t) u.stamp u.size
      last = record {
        is_item = is_item;
        bytes = has.0;
        there = ap (λ o. file_told o (homes_of t) (path_of (item_of u))) (last_tree run First end fits sound_first right left) ∙ sym (file_of run.after (homes_of t) (item_of u)) ∙ has.1;
      }

  -- a map of the file
  of_map : (changes : List Change) (s : Told) (text : List Entry) → s.outcome ≡ line.Map text → IsLine run s → (file : OneFile) → ((pieces : List Piece) → ArePiecesSeen file pieces → ArePiecesOf changes pieces) → MapsSo file s.statement s.outcome → (pieces : List Piece) × ArePiecesOf changes pieces × (text ≡ map entry_of pieces)
  of_map changes s text mapped is_line file are so = from (subst (λ o. MapsSo file Map o) mapped (subst (λ x. MapsSo file x s.outcome) (asked (line_here run First end fits sound_first right s is_line)) so))
    where
      asked : AnyLine run First end fits sound_first right (reader_at run s) (writing_at run s) s → s.statement ≡ Map
      asked l = was_map l.line.kept s.statement l.line.part.e text (sym l.line.says ∙ mapped) l.line.part.ended

      from : MapsSo file Map (line.Map text) → (pieces : List Piece) × ArePiecesOf changes pieces × (text ≡ map entry_of pieces)
      from shows = (shows.0, are shows.0 shows.1, shows.2)

  pub pieces_of : (file : OneFile) (pieces : List Piece) → ArePiecesSeen file pieces → ArePiecesOf (changes_in file.moment file.cut file.truncs) pieces
  pieces_of file pieces are =
      subst (λ es. ArePieces es (truncs_of (changes_in file.moment file.cut file.truncs)) pieces) (sym (entries_of-changes (writes_in file.moment file.cut) file.truncs))
      (subst (λ ts. ArePieces (entries_in (writes_in file.moment file.cut)) ts pieces) (sym (truncs_of-changes (writes_in file.moment file.cut) file.truncs)) are)

  -- a line that tells of this file, which its actor has from then on
  of_file : (t : Told) (size : ℕ) (cut : List WriterCount) (truncs : List Trunc) (file : OneFile) (new : Option OneFile) (rest : List Told) → t.outcome ≡ line.Reader size cut truncs → new ≡ Some file → TellsOneFile size cut truncs file → (h : HasSeen run times mount start end fits mounted tells sound right left t file.moment file.cut) → Shown new rest
      → own t.actor (told run) ≡ own t.actor (before run t) ++ t ∷ rest → IsCut run (homes run times mount start end fits mounted tells sound right left) t h.seen
      → ((u : Trunc) → IsItem (item_of u) → Has run.after (homes_of t) (item_of u) → IsAmong u file.truncs ⊎ (All (IsBelow u.stamp) (map change_of (writes_in file.moment file.cut)) × All (λ (v : Trunc). v.stamp < u.stamp) file.truncs))
      → ShowsContents run (homes run times mount start end fits mounted tells sound right left) t size cut truncs
  of_file t size cut truncs file new rest says has so h more split may_see above = record {
    seen = h.seen;
    may_see = may_see;
    first = All-from_recursion (λ (s : Seen). s.count ≤ length s.writer.writes) h.seen (All-weaker (IsSeen run times mount start end fits mounted tells sound right left t) (λ (s : Seen). s.count ≤ length s.writer.writes) h.seen (λ s known. known.1) h.known);
    cut_is = so.counts ∙ h.counts;
    size_is = so.size_is ∙ ap (λ c. plain_size c) (sym changes);
    answers = λ s is_line reader. subst (λ c. Answers (plain c) s.statement s.outcome) (sym changes) (says_of s is_line reader).0;
    maps = λ s text is_line reader mapped. of_map (changes_of h.seen truncs) s text mapped is_line file (subst (λ c. (pieces : List Piece) → ArePiecesSeen file pieces → ArePiecesOf c pieces) (sym changes) (pieces_of file)) (says_of s is_line reader).2;
    later = λ u is_item there. subst (λ ts. IsAmong u ts ⊎ (All (IsBelow u.stamp) (writes_of h.seen) × All (λ (v : Trunc). v.stamp < u.stamp) ts)) (sym so.truncates)
        (subst (λ ws. IsAmong u file.truncs ⊎ (All (IsBelow u.stamp) ws × All (λ (v : Trunc). v.stamp < u.stamp) file.truncs)) (sym h.writes) (above u is_item there));
  }
    where
      changes : changes_of h.seen truncs ≡ changes_in file.moment file.cut file.truncs
      changes = ap (λ ws. ws ++ map (λ u. Truncate u) truncs) h.writes ∙ ap (λ ts. map change_of (writes_in file.moment file.cut) ++ map cut_off ts) so.truncates

      rise : Rise 0 (own t.actor (before run t) ++ t ∷ rest)
      rise = subst (Rise 0) split (own_rise t.actor 0 (told run) (beside_rise 0 (phased 0 run.script.phases) run.lines))

      behind : AllBehind t.place rest
      behind = rise_behind t.place (t.place + 1) rest (omega arith) (rise_rest 0 (own t.actor (before run t)) t rest rise)

      no_reader : None ≡ Some t → ⊥
      no_reader is = cc

      same_file : (f : OneFile) → new ≡ Some f → file ≡ f
      same_file f is = let same : Some file ≡ Some f = sym has ∙ is in cc

      by_place : (s : Told) (post : List Told) → StandsBehind t s rest post → SaysOf file s
      by_place s post b = later t file rest new (Some t) behind more (λ of_it f e. same_file f e) b.pre s post b.is b.after

      by_split : (s : Told) → reader_at run s ≡ Some t → Split run s (told run) → SaysOf file s
      by_split s reader other = by_place s other.rest (stands_behind t size cut truncs says 0 (own t.actor (before run t)) rest (own s.actor (before run s)) s other.rest None rise (sym split ∙ ap (λ n. own n (told run)) (reader_actor run s t reader) ∙ other.is) no_reader reader)

      says_of : (s : Told) → IsLine run s → reader_at run s ≡ Some t → SaysOf file s
      says_of s is_line reader = by_split s reader (own_split run s (among (told run) s is_line))

  -- that it does
  of_line : (t : Told) (size : ℕ) (cut : List WriterCount) (truncs : List Trunc) (says : Says run t (line.Reader size cut truncs)) (l : AnyLine run First end fits sound_first right (reader_at run t) (writing_at run t) t) (rest : List Told) → Shown l.line.shown.new rest → own t.actor (told run) ≡ own t.actor (before run t) ++ t ∷ rest
      → ReaderLine run First end fits sound_first right l size cut truncs → ShowsContents run (homes run times mount start end fits mounted tells sound right left) t size cut truncs
  of_line t size cut truncs says l rest more split z =
      of_file t size cut truncs z.so.file l.line.shown.new rest says.says z.so.has z.so.tells seen_so more split (cut_seen run times mount start end fits mounted tells sound right left free t cut truncs says.is_line (λ other is. opens_none other (sym says.says ∙ is)) (reader_sees run First end fits sound_first right t size cut truncs says.says) z.so.file z.so.tells.counts z.so.sees.view.rise seen_so)
      (above_all t z.so.file (l.line.part.earlier ++ z.upto) z.rest _ z.split z.moment z.in_room z.so.sees.view)
    where
      opens_none : (other : ℕ) → line.Reader size cut truncs ≡ line.Opened other → ⊥
      opens_none other is = cc

      seen_so : HasSeen run times mount start end fits mounted tells sound right left t z.so.file.moment z.so.file.cut
      seen_so = all_seen run times mount start end fits mounted tells sound right left t z.so.file.moment (l.line.part.earlier ++ z.upto) z.rest z.split z.moment _ z.so.file.cut (subst (λ k. WritersRise k z.so.file.cut) (sym z.in_room) z.so.sees.view.rise) z.so.sees.view.admissible

  contents_shown : (t : Told) (size : ℕ) (cut : List WriterCount) (truncs : List Trunc) → Says run t (line.Reader size cut truncs) → ShowsContents run (homes run times mount start end fits mounted tells sound right left) t size cut truncs
  contents_shown t size cut truncs says = from (line_on run First end fits sound_first right t says.is_line)
    where
      from : LineOn run First end fits sound_first right t (own_split run t (among (told run) t says.is_line)).rest → ShowsContents run (homes run times mount start end fits mounted tells sound right left) t size cut truncs
      from on =
          of_line t size cut truncs says on.its (own_split run t (among (told run) t says.is_line)).rest
          (steps First sound_first on.its.number right.history right.calls.blocks (whole_history run First end fits sound_first right) (on.its.line.part.earlier ++ on.its.line.part.mine) on.its.line.part.e.kept on.its.line.shown.new on.its.line.shown.new_writer (own_split run t (among (told run) t says.is_line)).rest on.more)
          (own_split run t (among (told run) t says.is_line)).is
          (reader_line run First end fits sound_first right (reader_at run t) (writing_at run t) t on.its size cut truncs says.says)

  -- the law of this file
  pub contents : HasContents run (homes run times mount start end fits mounted tells sound right left)
  contents = record { shows = contents_shown }
