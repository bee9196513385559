-- Who runs the program of a share has gathered its droppings.
use Rattle.std.proofs.Common.{◌≡◌, ℕ, inl, inr, List, [], ◌∷◌, ◌++◌, map, refl, ap, sym, ◌∙◌, subst, append_assoc}
use Rattle.std.specs.Prelude.{Result, Ok, Err}
use Rattle.std.specs.List.{AllByRecursion}
use Rattle.std.proofs.lemmas.Bool.{cases_Bool, cond-true, cond-false}
use Rattle.std.proofs.lemmas.List.{append-nil}
use Rattle.plfs_types.specs.declared.entries.Cover.{Cover}
use Rattle.plain_file.specs.Runs.{ArePieces}
use Rattle.interval_merge.specs.Writer.{HasPiece}
use Rattle.turn_object.specs.Callers.{made_by}
use Rattle.mount_model.specs.History.{Event}
use Rattle.mount_model.specs.declared.stuck.Stuck.{Stuck}
use Rattle.mount_model.specs.Running.{Runs}
use Rattle.mount_model.specs.FlowReplies.{on_ok}
use Rattle.mount_model.proofs.Flows.Facts.{runs_in_two}
use Rattle.index_reader.specs.declared.listing.Dropping.{Dropping as Listed}
use Rattle.index_reader.specs.declared.entries.Tail.{Tail}
use Rattle.index_reader.specs.declared.sharing.Share.{Share}
use Rattle.index_reader.specs.declared.sharing.Sofar.{Sofar}
use Rattle.index_reader.specs.Covered.{cover_of}
use Rattle.index_reader.specs.Runs.{pieces_of, merged_of}
use Rattle.index_reader.specs.Sharing.{nothing, covered, added, share_of, dropping_program, gathers, share_program}
use Rattle.index_reader.specs.Packs.{no_tail, packed_path, pack_program}
use Rattle.index_reader.specs.Tails.{tail_program}
use Rattle.reader_laws.specs.Moments.{Moment, IsNamed}
use Rattle.reader_laws.specs.Seen.{Asked, calls_of, IsSeen}
use Rattle.reader_laws.specs.Gathering.{Gathered, Gathers, GathersAll, GathersIndex, GathersSo}
use Rattle.reader_laws.specs.View.{tails_of}
use Rattle.reader_laws.proofs.Gathered.Facts.{seen_split}
use Rattle.reader_laws.specs.Covering.{cover_with}
use Rattle.reader_laws.specs.Sharing.{in_room, gathered_of, cover_before, covers_with, IsShareOf}
use Rattle.reader_laws.proofs.Calls.Calling.{asked_all, calls_are, calls_append, FitsRead, reads_fit, same_ok}
use Rattle.reader_laws.proofs.Droppings.Checking.{Longer}
use Rattle.reader_laws.proofs.Droppings.PackRuns.{pack_run}
use Rattle.reader_laws.proofs.Droppings.Pieces.{gathered_pieces}
use Rattle.reader_laws.proofs.Droppings.Tails.{HasTail, tail_run}

-- ---- what holds of both parts

pub all_first : {X : Type 0} (P : X → Type 0) (xs ys : List X) → AllByRecursion P (xs ++ ys) → AllByRecursion P xs
all_first P [] ys all = tt
all_first P (x ∷ xs) ys all = (all.0, all_first P xs ys all.1)

pub all_rest : {X : Type 0} (P : X → Type 0) (xs ys : List X) → AllByRecursion P (xs ++ ys) → AllByRecursion P ys
all_rest P [] ys all = all
all_rest P (x ∷ xs) ys all = all_rest P xs ys all.1

-- ---- a share, dropping by dropping

-- what was gathered of the droppings that were left, and how the share goes on with it
pub record HasGathered (caller room : ℕ) (ds : List Listed) (covers : List Cover) (events : List Event) (old : Sofar) (share : Share) : Type 0 where
  pub gathered : List Gathered
  pub droppings_are : map (λ (g : Gathered). g.dropping) gathered ≡ map (in_room room) ds
  pub packed_are : map (λ (g : Gathered). g.packed) gathered ≡ map (λ (d : Listed). d.packed) ds
  pub covered_so : AllByRecursion (λ (g : Gathered). g.covered ≡ (cover_before covers g).count) gathered
  pub counted : AllByRecursion (λ (g : Gathered). g.count ≡ (cover_with (cover_before covers g) g.tail).count) gathered
  pub gathers : GathersAll gathered (calls_of caller events)
  pub covers_are : share.covers ≡ old.covers ++ covers_with covers gathered
  pub lists_are : share.pieces ≡ merged_of (old.lists ++ map (λ (g : Gathered). pieces_of g.tail) gathered)
  pub pieces : AllByRecursion (λ (g : Gathered). AllByRecursion HasPiece g.tail) gathered

-- no dropping is left
none_left : (caller room : ℕ) (covers : List Cover) (events : List Event) (old : Sofar) → made_by caller events ≡ [] → HasGathered caller room [] covers events old (share_of old)
none_left caller room covers events old none = record {
  gathered = [];
  droppings_are = refl;
  packed_are = refl;
  covered_so = tt;
  counted = tt;
  gathers = calls_are caller events ∙ ap asked_all none;
  covers_are = sym (append-nil old.covers);
  lists_are = ap merged_of (sym (append-nil old.lists));
  pieces = tt;
}

-- What was read of a dropping, or of its packed index, was gathered so, and its entries are pieces of the file.
pub record HasRead (room : ℕ) (d : Listed) (cover : Cover) (calls : List Asked) (tail : Tail) : Type 0 where
  pub gathers : Gathers (gathered_of room d cover tail) calls
  pub longer : Longer tail.entries (no_tail cover) tail

-- one dropping, and then the others
one_more : (caller room : ℕ) (d : Listed) (ds : List Listed) (covers : List Cover) (first rest : List Event) (old : Sofar) (tail : Tail) (share : Share) → HasRead room d (cover_of d.writer covers) (calls_of caller first) tail → HasGathered caller room ds covers rest (added tail old) share
    → HasGathered caller room (d ∷ ds) covers (first ++ rest) old share
one_more caller room d ds covers first rest old tail share t h =
    let cover : Cover = cover_of d.writer covers in
    let g : Gathered = gathered_of room d cover tail in
    let its : covered tail.cover ≡ covered (cover_with cover tail.entries) = ap covered t.longer.cover in
    record {
      gathered = g ∷ h.gathered;
      droppings_are = ap (λ l. in_room room d ∷ l) h.droppings_are;
      packed_are = ap (λ l. d.packed ∷ l) h.packed_are;
      covered_so = (refl, h.covered_so);
      counted = (ap (λ (c : Cover). c.count) t.longer.cover, h.counted);
      gathers = (calls_of caller first, calls_of caller rest, calls_append caller first rest, t.gathers, h.gathers);
      covers_are = h.covers_are ∙ append_assoc old.covers (covered tail.cover) (covers_with covers h.gathered) ∙ ap (λ cs. old.covers ++ (cs ++ covers_with covers h.gathered)) its;
      lists_are = h.lists_are ∙ ap merged_of (append_assoc old.lists (pieces_of tail.entries ∷ []) (map (λ (x : Gathered). pieces_of x.tail) h.gathered));
      pieces = (t.longer.pieces, h.pieces);
    }

-- a dropping is read by itself, or by its packed index
dropping_run : (caller room : ℕ) (d : Listed) (cover : Cover) (start end : Moment) (events : List Event) (tail : Tail) → IsNamed (in_room room d) → IsSeen caller start (calls_of caller events) end → Runs caller (dropping_program room d cover) events (Ok tail) → HasRead room d cover (calls_of caller events) tail
dropping_run caller room d cover start end events tail named seen runs = elim (cases_Bool d.packed) [
  | inl packed ↦
      let runs' = subst (λ p. Runs caller p events (Ok tail)) (cond-true d.packed (pack_program room (packed_path d.host d.writer) cover) (tail_program room d (no_tail cover)) packed) runs in
      let t = pack_run caller room d cover named start end events tail seen runs' in
      record {
        gathers = record { named = named; reads = subst (λ b. GathersSo b (gathered_of room d cover tail) (calls_of caller events)) (sym packed) t.reads };
        longer = t.longer;
      }
  | inr unpacked ↦
      let runs' = subst (λ p. Runs caller p events (Ok tail)) (cond-false d.packed (pack_program room (packed_path d.host d.writer) cover) (tail_program room d (no_tail cover)) unpacked) runs in
      let fit : AllByRecursion FitsRead (calls_of caller events) = reads_fit caller start end (calls_of caller events) seen in
      let t : HasTail room d cover (made_by caller events) tail = tail_run room d cover tail (made_by caller events) (subst (AllByRecursion FitsRead) (calls_are caller events) fit) runs' in
      record {
        gathers = record { named = named; reads = subst (λ b. GathersSo b (gathered_of room d cover tail) (calls_of caller events)) (sym unpacked) (subst (GathersIndex (gathered_of room d cover tail)) (sym (calls_are caller events)) t.reads) };
        longer = t.longer;
      }
]

-- the first dropping, where the others are gathered so
next_run : (caller room : ℕ) (d : Listed) (ds : List Listed) (covers : List Cover) (start middle : Moment) (first rest : List Event) (old : Sofar) (share : Share) (value : Result Tail Stuck) → IsNamed (in_room room d) → IsSeen caller start (calls_of caller first) middle → Runs caller (dropping_program room d (cover_of d.writer covers)) first value
    → Runs caller (on_ok (λ tail. gathers room covers ds (added tail old)) value) rest (Ok share) → ((tail : Tail) → Runs caller (gathers room covers ds (added tail old)) rest (Ok share) → HasGathered caller room ds covers rest (added tail old) share)
    → HasGathered caller room (d ∷ ds) covers (first ++ rest) old share
next_run caller room d ds covers start middle first rest old share (Err why) named seen runs then_runs later = let clash : ◌≡◌ {A = Result Share Stuck} (Err why) (Ok share) = then_runs.1 in absurd (cc)
next_run caller room d ds covers start middle first rest old share (Ok tail) named seen runs then_runs later =
    one_more caller room d ds covers first rest old tail share (dropping_run caller room d (cover_of d.writer covers) start middle first tail named seen runs) (later tail then_runs)

gathers_run : (caller room : ℕ) (ds : List Listed) (covers : List Cover) (start end : Moment) (events : List Event) (old : Sofar) (share : Share) → AllByRecursion (λ (d : Listed). IsNamed (in_room room d)) ds → IsSeen caller start (calls_of caller events) end → Runs caller (gathers room covers ds old) events (Ok share)
    → HasGathered caller room ds covers events old share
gathers_run caller room [] covers start end events old share named seen made = subst (HasGathered caller room [] covers events old) (same_ok (share_of old) share made.1) (none_left caller room covers events old made.0)
gathers_run caller room (d ∷ ds) covers start end events old share named seen made =
    let next = on_ok (λ tail. gathers room covers ds (added tail old)) in
    let two = runs_in_two caller (dropping_program room d (cover_of d.writer covers)) next events (Ok share) made in
    let split : calls_of caller events ≡ calls_of caller two.first ++ calls_of caller two.rest = ap (calls_of caller) two.all ∙ calls_append caller two.first two.rest in
    let s = seen_split caller start end (calls_of caller two.first) (calls_of caller two.rest) (subst (λ a. IsSeen caller start a end) split seen) in
    subst (λ es. HasGathered caller room (d ∷ ds) covers es old share) (sym two.all)
    (next_run caller room d ds covers start s.0 two.first two.rest old share two.value named.0 s.1 two.runs two.then_runs (λ tail then_runs. gathers_run caller room ds covers s.0 end two.rest (added tail old) share named.1 s.2 then_runs))

-- Who runs a share's program has gathered its droppings, and the share has what was gathered.
pub share_run : (caller room : ℕ) (ds : List Listed) (covers : List Cover) (start end : Moment) (events : List Event) (share : Share) → AllByRecursion (λ (d : Listed). IsNamed (in_room room d)) ds → IsSeen caller start (calls_of caller events) end → Runs caller (share_program room ds covers) events (Ok share)
    → (gathered : List Gathered) × GathersAll gathered (calls_of caller events) × IsShareOf room ds covers gathered share
share_run caller room ds covers start end events share named seen made =
    let h = gathers_run caller room ds covers start end events nothing share named seen made in (
      h.gathered,
      h.gathers,
      record {
        droppings_are = h.droppings_are;
        packed_are = h.packed_are;
        covered_so = h.covered_so;
        counted = h.counted;
        covers_are = h.covers_are;
        pieces_are = subst (ArePieces (tails_of h.gathered) []) (sym h.lists_are) (gathered_pieces h.gathered h.pieces);
      },
    )
