-- A line that shows a file of its container: a reader's line, and one that tells of a file.
use Rattle.std.proofs.Common.{◌≡◌, ◌≤◌, ◌+◌, ℕ, true, false, List, [], ◌∷◌, ◌++◌, length, map, Option, Some, refl, sym, ap, ◌∙◌, subst, arith, append_assoc, length-append}
use Rattle.std.specs.List.{All}
use Rattle.std.proofs.lemmas.List.Elements.{All-from_recursion, recursion_from_All}
use Rattle.plfs_types.specs.declared.entries.ShareBytes.{ShareBytes}
use Rattle.plfs_types.specs.declared.entries.Trunc.{Trunc}
use Rattle.plfs_types.specs.declared.entries.WriterCount.{WriterCount}
use Rattle.container_layout.specs.declared.items.Item.TheVariants.{Trunc as TruncItem}
use Rattle.mount_model.specs.History.{Event}
use Rattle.mount_model.specs.State.{State}
use Rattle.reader_laws.specs.Moments.{HadTrunc, IsSoundAt, Moment, moment_after}
use Rattle.reader_laws.proofs.Gathered.Facts.{All-weaker}
use Rattle.script_lang.specs.Ranges.{FitsScript}
use Rattle.script_lang.specs.declared.line.Outcome.{Outcome}
use Rattle.script_lang.specs.declared.line.Outcome.TheVariants as line
use Rattle.script_lang.specs.declared.script.Statement.{Statement}
use Rattle.script_lang.specs.declared.script.Statement.TheVariants.{Stat, Trunc as Truncate}
use Rattle.actor_core.specs.declared.kept.Kept.{Kept}
use Rattle.actor_core.specs.Endings.{Ending}
use Rattle.run_core.specs.Play.{IsRight}
use Rattle.headline_laws.specs.OneFile.{OneFile, printed_cut}
use Rattle.headline_laws.specs.OneWriter.{OneWriter}
use Rattle.headline_laws.specs.Opening.{SeesOneFile}
use Rattle.headline_laws.specs.Showing.{Shows}
use Rattle.headline_laws.specs.Telling.{TellsOfFile}
use Rattle.headline.specs.Run.{IsLine, Run, Says, Told, surely_before}
use Rattle.plfs_types.specs.Places.{IsAmong}
use Rattle.headline.specs.Trees.{Has}
use Rattle.headline.specs.Views.{IdsRise, item_of}
use Rattle.headline.specs.Changes.{Writing}
use Rattle.headline_laws.proofs.Statements.Did.{IsOfKindOr}
use Rattle.headline_laws.proofs.Statements.Does.{Ended, did, was_gone}
use Rattle.headline_laws.proofs.Story.Lines.{room_of, two_here}
use Rattle.headline_laws.proofs.Trees.Marked.{made_trunc}
use Rattle.headline_laws.proofs.Trees.Printed.{stamps_rise}
use Rattle.headline_laws.proofs.Trees.Reading.{ItsLine, Of, before_it, grows_to, in_part, reader_line, stands_after}

-- ---- a line that tells of a file

-- of the file it tells so much
abbrev TellsSo : Outcome → OneFile → Type 0
TellsSo (line.Stat size stored shares truncs) file = TellsOfFile size stored shares truncs file
TellsSo o file = ⊥

-- its actor saw the file from its first call on
record StatSo (m : Moment) (n : ℕ) (before front : List Event) (o : Outcome) (room : ℕ) : Type 0 where
  pub file : OneFile
  pub earlier : List Event
  pub first : Event
  pub sees : SeesOneFile m n (record { before = before; events = front }) earlier first file
  pub tells : TellsSo o file
  pub in_room : room ≡ file.room

stat_so : (m : Moment) (n : ℕ) (before front : List Event) (nothing : ℕ) (old new : Option OneFile) (w : Option OneWriter) (name : List ℕ) (size stored : ℕ) (shares : List ShareBytes) (truncs : List Trunc) (s : Statement) (o : Outcome) → s ≡ Stat name → o ≡ line.Stat size stored shares truncs
    → (shows : Shows m n (record { before = before; events = front }) old s o new) → StatSo m n before front o (room_of m n (record { before = before; events = front }) nothing old new w s o shows)
stat_so m n before front nothing old new w name size stored shares truncs (Stat name2) (line.Stat size2 stored2 shares2 truncs2) is says shows = record { file = shows.1.0; earlier = shows.1.1.earlier; first = shows.1.1.first; sees = shows.1.1.sees; tells = shows.1.2; in_room = refl }
stat_so m n before front nothing old new w name size stored shares truncs s o is says shows = absurd (cc)

stat_of : (s : Statement) (size stored : ℕ) (shares : List ShareBytes) (truncs : List Trunc) → IsOfKindOr s (line.Stat size stored shares truncs) → (name : List ℕ) × (s ≡ Stat name)
stat_of (Stat name) size stored shares truncs kind = (name, refl)
stat_of s size stored shares truncs kind = absurd kind

was_stat : (kept : Kept) (s : Statement) (e : Ending) (size stored : ℕ) (shares : List ShareBytes) (truncs : List Trunc) → e.outcome ≡ line.Stat size stored shares truncs → Ended kept s e → (name : List ℕ) × (s ≡ Stat name)
was_stat kept s e size stored shares truncs says (was_gone is out now) = absurd (let clash : line.Gone ≡ line.Stat size stored shares truncs = sym out ∙ says in cc)
was_stat kept s e size stored shares truncs says (did lives d) = stat_of s size stored shares truncs (subst (IsOfKindOr s) says d.kind)

module _ (run : Run) (m : Moment) (end : State) (fits : FitsScript run.script) (sound : IsSoundAt m) (right : IsRight run.script m.state run.lines end) where
  abbrev Line : Option Told → Writing → Told → Type 0
  Line r w t = ItsLine run m end fits sound right r w t

  abbrev Home : Told → ℕ
  Home t = Of run m end fits sound right t

  -- The line shows a file of its container: of this cut, and of these truncates. It was seen up to their listing.
  pub record Sight {r : Option Told} {w : Writing} {t : Told} (l : Line r w t) (cut : List WriterCount) (truncs : List Trunc) : Type 0 where
    pub file : OneFile
    pub earlier : List Event
    pub first : Event
    pub sees : SeesOneFile m l.number (record { before = l.line.part.earlier; events = l.line.shown.front }) earlier first file
    pub counts : cut ≡ printed_cut file.cut
    pub truncates : truncs ≡ file.truncs
    pub in_room : Home t ≡ file.room
    pub upto : List Event
    pub rest : List Event
    pub split : right.history ≡ (l.line.part.earlier ++ upto) ++ rest
    pub moment : file.moment ≡ moment_after m (l.line.part.earlier ++ upto)
    pub begun : List Event
    pub upto_is : upto ≡ earlier ++ begun
    pub within : length (l.line.part.earlier ++ upto) ≤ length l.line.part.earlier + length l.line.part.mine

  -- so it does whichever way its part was found
  abbrev pub Sees : Told → List WriterCount → List Trunc → Type 0
  Sees t cut truncs = (r : Option Told) (w : Writing) (l : Line r w t) → Sight l cut truncs

  -- one of this file
  pub record SightOf {r : Option Told} {w : Writing} {t : Told} (l : Line r w t) (cut : List WriterCount) (truncs : List Trunc) (file : OneFile) : Type 0 where
    pub sight : Sight l cut truncs
    pub is : sight.file ≡ file

  pub sight_of : (r : Option Told) (w : Writing) (t : Told) (l : Line r w t) (cut : List WriterCount) (truncs : List Trunc) (earlier : List Event) (first : Event) (file : OneFile) → SeesOneFile m l.number (record { before = l.line.part.earlier; events = l.line.shown.front }) earlier first file
      → cut ≡ printed_cut file.cut → truncs ≡ file.truncs → Home t ≡ file.room → SightOf l cut truncs file
  sight_of r w t l cut truncs earlier first file sees counts truncates in_room =
      let h = l.line.shown in
      let p = l.line.part in
      let till : List Event = earlier ++ first ∷ sees.more in
      let front : h.front ≡ till ++ (sees.listing ∷ sees.later) = sees.split ∙ sym (append_assoc earlier (first ∷ sees.more) (sees.listing ∷ sees.later)) in
      record {
        sight = record {
          file = file;
          earlier = earlier;
          first = first;
          sees = sees;
          counts = counts;
          truncates = truncates;
          in_room = in_room;
          upto = till;
          rest = (sees.listing ∷ sees.later) ++ (h.rest ++ p.later);
          split = in_part right.history p.earlier p.mine p.later h.front h.rest till (sees.listing ∷ sees.later) p.split h.split front;
          moment = sees.until;
          begun = first ∷ sees.more;
          upto_is = refl;
          within = (let long = length-append p.earlier till in let all = ap length h.split ∙ length-append h.front h.rest in let its = ap length front ∙ length-append till (sees.listing ∷ sees.later) in omega (arith, long, all, its));
        };
        is = refl;
      }

  pub reader_sees : (t : Told) (size : ℕ) (cut : List WriterCount) (truncs : List Trunc) → t.outcome ≡ line.Reader size cut truncs → Sees t cut truncs
  reader_sees t size cut truncs says r w l =
      let z = reader_line run m end fits sound right r w t l size cut truncs says in
      (sight_of r w t l cut truncs z.so.earlier z.so.first z.so.file z.so.sees z.so.tells.counts z.so.tells.truncates z.in_room).sight

  -- ---- the file of which a line tells

  pub record StatLine {r : Option Told} {w : Writing} {t : Told} (l : Line r w t) (size stored : ℕ) (shares : List ShareBytes) (truncs : List Trunc) : Type 0 where
    pub file : OneFile
    pub earlier : List Event
    pub first : Event
    pub sees : SeesOneFile m l.number (record { before = l.line.part.earlier; events = l.line.shown.front }) earlier first file
    pub tells : TellsOfFile size stored shares truncs file
    pub in_room : Home t ≡ file.room

  pub stat_line : (r : Option Told) (w : Writing) (t : Told) (l : Line r w t) (size stored : ℕ) (shares : List ShareBytes) (truncs : List Trunc) → t.outcome ≡ line.Stat size stored shares truncs → StatLine l size stored shares truncs
  stat_line r w t l size stored shares truncs says =
      let p = l.line.part in
      let h = l.line.shown in
      let asked = was_stat l.line.kept t.statement p.e size stored shares truncs (sym l.line.says ∙ says) p.ended in
      let z = stat_so m l.number p.earlier h.front (length run.after.rooms) l.line.file h.new h.new_writer asked.0 size stored shares truncs t.statement t.outcome asked.1 says h.shows in
      record { file = z.file; earlier = z.earlier; first = z.first; sees = z.sees; tells = subst (λ o. TellsSo o z.file) says z.tells; in_room = l.line.here ∙ z.in_room }

  -- ---- its truncates

  -- it has each that a line told before
  pub truncate_in : run.in_order ≡ false → (t s : Told) (cut : List WriterCount) (truncs : List Trunc) (name : List ℕ) (stamp many : ℕ) → IsLine run t → Sees t cut truncs → Says run s (line.Truncated stamp) → s.statement ≡ Truncate name many → surely_before run s t ≡ true → Home s ≡ Home t
      → IsAmong (record { stamp = stamp; size = many }) truncs
  truncate_in free t s cut truncs name stamp many is_line sees told asked sooner same =
      let two = two_here run m end fits sound right free s t told.is_line is_line sooner in
      let l = two.one.line in
      let p = l.part in
      let h = l.shown in
      let z = sees two.reader_then two.writing_then two.other in
      let made = made_trunc m two.one.number p.earlier h.front (length run.after.rooms) l.file h.new h.new_writer name many stamp s.statement s.outcome asked told.says h.shows in
      let upto : List Event = made.until ++ made.marking ∷ [] in
      let b = before_it run m end fits sound right s t two upto made.later made.split in
      let there : (p.earlier ++ upto) ++ (b.0 ++ z.upto) ≡ two.other.line.part.earlier ++ z.upto = sym (append_assoc (p.earlier ++ upto) b.0 z.upto) ∙ ap (λ es. es ++ z.upto) (sym b.1) in
      let grows = grows_to run m end fits sound right (p.earlier ++ upto) (b.0 ++ z.upto) z.rest (z.split ∙ ap (λ es. es ++ z.rest) (sym there)) in
      let room : _ ≡ z.file.room = sym l.here ∙ same ∙ z.in_room in
      let had : HadTrunc (moment_after m ((p.earlier ++ upto) ++ (b.0 ++ z.upto))) z.file.room stamp many = subst (λ k. HadTrunc (moment_after m ((p.earlier ++ upto) ++ (b.0 ++ z.upto))) k stamp many) room (grows.stands _ (TruncItem stamp many) tt made.stands) in
      subst (λ ts. IsAmong (record { stamp = stamp; size = many }) ts) (sym z.truncates)
      (z.sees.view.all_truncs.all (record { stamp = stamp; size = many }) (subst (λ x. HadTrunc x z.file.room stamp many) (ap (moment_after m) there ∙ sym z.moment) had))

  module _ {r : Option Told} {w : Writing} {t : Told} (l : Line r w t) (cut : List WriterCount) (truncs : List Trunc) (z : Sight l cut truncs) where
    -- their stamps rise
    pub stamps_in : IdsRise (map (λ (u : Trunc). u.stamp) truncs)
    stamps_in = subst (λ ts. IdsRise (map (λ (u : Trunc). u.stamp) ts)) (sym z.truncates) (stamps_rise z.file.truncs z.sees.view.all_truncs.rise)

    -- and they stand from then on
    pub stay_in : end.store.tree ≡ Some run.after → All (λ (u : Trunc). Has run.after (Home t) (item_of u)) truncs
    stay_in left =
        subst (λ ts. All (λ (u : Trunc). Has run.after (Home t) (item_of u)) ts) (sym z.truncates)
        (All-from_recursion (λ (u : Trunc). Has run.after (Home t) (item_of u)) z.file.truncs
        (All-weaker (λ (u : Trunc). HadTrunc z.file.moment z.file.room u.stamp u.size) (λ (u : Trunc). Has run.after (Home t) (item_of u)) z.file.truncs
        (λ u had. subst (λ k. Has run.after k (item_of u)) (sym z.in_room) (stands_after run m end fits sound right left (l.line.part.earlier ++ z.upto) z.rest z.file.room (item_of u) z.split tt (subst (λ x. HadTrunc x z.file.room u.stamp u.size) z.moment had)))
        (recursion_from_All (λ (u : Trunc). HadTrunc z.file.moment z.file.room u.stamp u.size) z.file.truncs z.sees.view.all_truncs.there)))
