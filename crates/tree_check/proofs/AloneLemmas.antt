-- What is shown of pieces that are entries, one by one.
use Rattle.std.proofs.Common.{◌≡◌, ℕ, zero, suc, ◌+◌, ◌≤◌, ◌<◌, ◌↔◌, Bool, true, false, List, [], ◌∷◌, ◌++◌, length, map, take, get_or, Some, Result, Ok, Err, refl, ap, sym, ◌∙◌, subst, arith}
use Rattle.std.specs.Prelude.{slice_get, IsTrue, IfErr, IfOk}
use Rattle.std.specs.BTreeMap.{BTreeMap}
use Rattle.std.proofs.lemmas.Bool.{false≢true}
use Rattle.std.proofs.lemmas.List.{append-nil, take_all}
use Rattle.std.proofs.lemmas.Option.{slice_get-get_or}
use Rattle.plfs_types.specs.declared.entries.Cover.{Cover}
use Rattle.plfs_types.specs.declared.entries.Entry.{Entry}
use Rattle.plain_file.specs.declared.pieces.Piece.{Piece}
use Rattle.plain_file.specs.Runs.{AreRuns, ArePieces}
use Rattle.plain_file.specs.Sources.{source_at}
use Rattle.interval_merge.specs.Writer.{piece_of, AscendFrom}
use Rattle.interval_merge.proofs.WriterLemmas.{ArePieces-forward}
use Rattle.store_api.specs.declared.tree.Room.{Room}
use Rattle.store_api.specs.declared.tree.Tree.{Tree}
use Rattle.store_api.specs.Acts.{Stored}
use Rattle.mount_model.specs.Paths.{Name}
use Rattle.mount_sound.specs.Flats.{AreCovered, covered_entries}
use Rattle.shape_check.specs.declared.files.Place.{Place}
use Rattle.shape_check.specs.declared.finding.Finding.{Finding}
use Rattle.shape_check.specs.Rightness.{IsFoundIn}
use Rattle.shape_check.specs.Seeing.{IsSeen, IsLookedAt}
use Rattle.shape_check.proofs.Facts.{all_found_by, seen_on}
use Rattle.tree_check.specs.declared.owners.Owner.{Owner}
use Rattle.tree_check.specs.Concerning.{IsOfCover, IsOfWriter}
use Rattle.tree_check.specs.Indices.{IsOwned, AreOfCovers}
use Rattle.tree_check.proofs.IndexLemmas.{TellsOne}

-- ---- one by one

-- the first so many are the same
abbrev pub AreSame : List Entry → List Piece → ℕ → Type 0
AreSame entries pieces i = map piece_of (take i entries) ≡ take i pieces

same_next : (entries : List Entry) (pieces : List Piece) (i : ℕ) (entry : Entry) (piece : Piece) → slice_get entries i ≡ Some entry → slice_get pieces i ≡ Some piece → piece_of entry ≡ piece → AreSame entries pieces i → AreSame entries pieces (suc i)
same_next [] pieces i entry piece at at_piece same before = absurd (cc)
same_next (e ∷ entries) [] i entry piece at at_piece same before = absurd (cc)
same_next (e ∷ entries) (p ∷ pieces) zero entry piece at at_piece same before =
    let first : e ≡ entry = cc in
    let first_piece : p ≡ piece = cc in
    ap (λ (q : Piece). q ∷ []) (ap piece_of first ∙ same ∙ sym first_piece)
same_next (e ∷ entries) (p ∷ pieces) (suc i) entry piece at at_piece same before =
    let head : piece_of e ≡ p = cc in
    let tail : AreSame entries pieces i = cc in
    ap (λ (q : Piece). q ∷ map piece_of (take (suc i) entries)) head ∙ ap (λ (l : List Piece). p ∷ l) (same_next entries pieces i entry piece at at_piece same tail)

pub same_more : (entries : List Entry) (pieces : List Piece) (i : ℕ) (entry : Entry) (piece : Piece) (is : Bool) → is ≡ true → (IsTrue is → piece_of entry ≡ piece) → slice_get entries i ≡ Some entry → slice_get pieces i ≡ Some piece → AreSame entries pieces i
    → AreSame entries pieces (i + 1)
same_more entries pieces i entry piece is e same at at_piece before =
    let next : suc i ≡ i + 1 = omega arith in
    subst (AreSame entries pieces) next (same_next entries pieces i entry piece at at_piece (same e) before)

pub same_through : (entries : List Entry) (pieces : List Piece) (i : ℕ) → length entries ≤ i → length pieces ≤ i → AreSame entries pieces i → map piece_of entries ≡ pieces
same_through entries pieces i past past_pieces same = sym (ap (map piece_of) (take_all i entries past)) ∙ same ∙ take_all i pieces past_pieces

-- runs go forward
ascend : (from : ℕ) (e : Entry) (entries : List Entry) → from ≤ e.at → AreRuns (map piece_of (e ∷ entries)) → AscendFrom from (e ∷ entries)
ascend from e [] past runs = (past, tt)
ascend from e (d ∷ entries) past runs = (past, ascend (e.at + e.len) d entries runs.1.0 runs.2)

all_ascend : (entries : List Entry) → AreRuns (map piece_of entries) → AscendFrom 0 entries
all_ascend [] runs = tt
all_ascend (e ∷ entries) runs = ascend 0 e entries (omega arith) runs

-- runs that are entries are their pieces
pub same_pieces : (entries : List Entry) (pieces : List Piece) → AreRuns pieces → map piece_of entries ≡ pieces → ArePieces entries [] pieces
same_pieces entries pieces runs same = ArePieces-forward entries pieces (all_ascend entries (subst AreRuns (sym same) runs)) runs (λ x. ap (λ (l : List Piece). source_at l x) (sym same))

-- ---- one cover

-- a no claims nothing
pub no_claim : (P : Type 0) (is : Bool) → is ≡ false → IsTrue is → P
no_claim P is e so = absurd (false≢true (sym e ∙ so))

-- what is told of the covers
abbrev pub TellsEach : Place → BTreeMap ℕ Owner → List Cover → List (List Piece) → Stored → Type 0
TellsEach place owners covers lists old = (tree : Tree) → IsSeen old tree → (at : IsOwned place owners tree) → AreOfCovers at.placed.room covers lists

-- what stands where there is no cover
abbrev pub no_cover : Cover
no_cover = record { writer = 0; count = 0; bytes = 0; stamp = 0 }

-- the cover of a list of one
pub lone_cover : (covers : List Cover) → 1 ≤ length covers → length covers ≤ 1 → covers ≡ get_or covers 0 no_cover ∷ []
lone_cover [] some few = absurd (omega (arith, some))
lone_cover (c ∷ []) some few = refl
lone_cover (c ∷ d ∷ covers) some few = absurd (omega (arith, few))

-- of one cover alone
pub one_tells : (place : Place) (owners : BTreeMap ℕ Owner) (covers : List Cover) (cover : Cover) (pieces : List Piece) (old : Stored) (result : Result Bool Finding) → covers ≡ cover ∷ []
    → IfOk result (λ is. IsTrue is → TellsOne place owners cover (Some pieces) old) → IfOk result (λ is. IsTrue is → TellsEach place owners covers (pieces ∷ []) old)
one_tells place owners covers cover pieces old (Err finding) alone tells = tt
one_tells place owners covers cover pieces old (Ok is) alone tells = λ yes tree seen at. subst (λ (l : List Cover). AreOfCovers at.placed.room l (pieces ∷ [])) (sym alone) (tells yes tree seen at, tt)

-- and what is found of it
pub one_named : (room : Name) (covers : List Cover) (cover : Cover) (result : Result Bool Finding) → covers ≡ cover ∷ [] → IfErr result (IsFoundIn room (IsOfWriter cover.writer)) → IfErr result (IsFoundIn room (IsOfCover covers))
one_named room covers cover result alone found =
    all_found_by room (IsOfWriter cover.writer) (IsOfCover covers) (λ complaint of. (0, cover, subst (λ (l : List Cover). slice_get l 0 ≡ Some cover) (sym alone) refl, of)) result found

one_of : (room : Room) (covers : List Cover) (pieces : List Piece) → AreOfCovers room covers (pieces ∷ []) → (entries : List Entry) × AreCovered room covers entries × ArePieces entries [] pieces
one_of room [] pieces are = absurd are
one_of room (c ∷ []) pieces are = (
  covered_entries room are.0.0.host c ++ [],
  (are.0.0, ([], refl, refl)),
  subst (λ (es : List Entry). ArePieces es [] pieces) (sym (append-nil (covered_entries room are.0.0.host c))) are.0.1,
)
one_of room (c ∷ d ∷ covers) pieces are = absurd are.1

-- whether the pieces are those of the covered entries
abbrev pub TellsTheirs : Place → BTreeMap ℕ Owner → List Cover → List Piece → Stored → Bool → Type 0
TellsTheirs place owners covers pieces old is = (tree : Tree) → IsSeen old tree → (at : IsOwned place owners tree) → IsTrue is ↔ ((entries : List Entry) × AreCovered at.placed.room covers entries × ArePieces entries [] pieces)

pub alone_tells : (place : Place) (owners : BTreeMap ℕ Owner) (covers : List Cover) (pieces : List Piece) (old : Stored) (is : Bool) → is ≡ true → (IsTrue is → TellsEach place owners covers (pieces ∷ []) old) → TellsTheirs place owners covers pieces old true
alone_tells place owners covers pieces old is e tells = λ tree seen at. (λ yes. one_of at.placed.room covers pieces (tells e tree seen at), λ right. refl)

-- what is told after looks is so before
pub theirs_before : (place : Place) (owners : BTreeMap ℕ Owner) (covers : List Cover) (pieces : List Piece) (old mid : Stored) (result : Result Bool Finding) → IsLookedAt old mid → IfOk result (TellsTheirs place owners covers pieces mid)
    → IfOk result (TellsTheirs place owners covers pieces old)
theirs_before place owners covers pieces old mid (Err finding) looked tells = tt
theirs_before place owners covers pieces old mid (Ok is) looked tells = λ tree seen at. tells tree (seen_on old mid tree looked seen) at

-- ---- the piece at hand

-- what stands behind the last one
abbrev pub no_piece : Piece
no_piece = record { at = 0; len = 0; physical = 0; stamp = 0; writer = 0 }

abbrev pub piece_at : List Piece → ℕ → Piece
piece_at pieces i = get_or pieces i no_piece

pub piece_at_hand : (pieces : List Piece) (i : ℕ) → i < length pieces → slice_get pieces i ≡ Some (piece_at pieces i)
piece_at_hand pieces i less = slice_get-get_or pieces i no_piece less
