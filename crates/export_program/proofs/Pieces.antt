-- Pieces that were written, one behind the other.
use Rattle.std.proofs.Common.{◌≡◌, ℕ, ◌+◌, ◌<◌, List, [], ◌∷◌, length, Result, Ok, Err, refl, sym, ap, ◌∙◌, subst, arith}
use Rattle.std.specs.Prelude.{OnErr, Option}
use Rattle.edge_io.specs.Sink.{Taking}
use Rattle.mount_model.specs.State.{State}
use Rattle.lone_flow.specs.Driving.{BeginsToMake, Makes}
use Rattle.index_reader.specs.declared.opened.OpenReader.{OpenReader}
use Rattle.export_program.specs.declared.piece.Unwritten.{Unwritten}
use Rattle.export_program.specs.Pieces.{HaveWritten, WritesPiece, piece_program, pieces_of}
use Rattle.export_program.specs.Exporting.{BeginsToWriteOut, WritesOut, ended, whole}
use Rattle.export_program.specs.declared.filling.Filled.{Filled}
use Rattle.export_program.specs.Filling.{BeginsToFill, BeginsToFillMade, Fills, FillsMade, fills, in_filling}
use Rattle.export_program.specs.Shelf.{Deed, IsEmpty}

abbrev MakesPiece : OpenReader → ℕ → State → List ℕ → State → Type 0
MakesPiece reader k start piece end = Makes (piece_program reader k) start (Ok piece) end

-- so many pieces were written
pub record SoFar (reader : OpenReader) (start : State) (taking : Taking) (k : ℕ) (now : State) (taken : Taking) : Type 0 where
  pub pieces : List (List ℕ)
  pub written : HaveWritten reader start taking pieces now taken
  pub count : length pieces ≡ k

pub none_so_far : (reader : OpenReader) (start : State) (taking : Taking) → SoFar reader start taking 0 start taking
none_so_far reader start taking = record { pieces = []; written = (refl, refl); count = refl }

pub one_more : (reader : OpenReader) (start : State) (taking : Taking) (k : ℕ) (now : State) (taken : Taking) (later : State) (after : Taking) (told : Unit {0}) → SoFar reader start taking k now taken → WritesPiece reader k now taken (Ok told) later after
    → SoFar reader start taking (k + 1) later after
one_more reader start taking k now taken later after told s (piece, made, is) = record {
  pieces = piece ∷ s.pieces;
  written = (now, taken, s.written, subst (λ (n : ℕ). MakesPiece reader n now piece later) (sym s.count) made, is);
  count = omega (arith, s.count);
}

pub all_so : (reader : OpenReader) (start : State) (taking : Taking) (k size : ℕ) (end : State) (after : Taking) → SoFar reader start taking k end after → k ≡ pieces_of size → size ≡ reader.size → WritesOut reader start taking (Ok size) end after
all_so reader start taking k size end after s all is = whole s.pieces s.written (s.count ∙ all ∙ ap (λ n. pieces_of n) is) (ap Ok is)

pub ends_so : (reader : OpenReader) (start : State) (taking : Taking) (k : ℕ) (now : State) (taken : Taking) (end : State) (after : Taking) (why : Unwritten) → SoFar reader start taking k now taken → WritesPiece reader k now taken (Err why) end after
    → WritesOut reader start taking (Err why) end after
ends_so reader start taking k now taken end after why s writes = ended s.pieces why now taken s.written (subst (λ (n : ℕ). WritesPiece reader n now taken (Err why) end after) (sym s.count) writes) refl

pub breaks_so : (reader : OpenReader) (start : State) (taking : Taking) (k : ℕ) (now : State) (taken : Taking) (end : State) (after : Taking) → SoFar reader start taking k now taken → k < pieces_of reader.size → BeginsToMake (piece_program reader k) now end → after ≡ taken
    → BeginsToWriteOut reader start taking end after
breaks_so reader start taking k now taken end after s more begins same = record {
  pieces = s.pieces;
  mid = now;
  written = subst (λ (t : Taking). HaveWritten reader start taking s.pieces now t) (sym same) s.written;
  not_all = subst (λ (n : ℕ). n < pieces_of reader.size) (sym s.count) more;
  begins = subst (λ (n : ℕ). BeginsToMake (piece_program reader n) now end) (sym s.count) begins;
}

-- what holds where it was refused
pub where_refused : {T E : Type 0} (result : Result T E) (P Q : Type 0) → (P → Q) → OnErr result P → OnErr result Q
where_refused (Ok out) P Q goes holds = tt
where_refused (Err why) P Q goes holds = goes holds

-- a file that was made without bytes, and filled
pub made_fills : (name : List ℕ) (start : State) (deeds mid : Option (List Deed)) (taking : Taking) (told : Filled) (end : State) (deeds_after : Option (List Deed)) → IsEmpty taking → mid ≡ deeds → FillsMade name taking start mid told end deeds_after → Fills name start deeds told end deeds_after
made_fills name start deeds mid taking told end deeds_after empty same f = fills taking empty (subst (λ (d : Option (List Deed)). FillsMade name taking start d told end deeds_after) same f)

pub made_begins : (name : List ℕ) (start : State) (deeds mid : Option (List Deed)) (taking : Taking) (end : State) (deeds_after : Option (List Deed)) → IsEmpty taking → mid ≡ deeds → BeginsToFillMade name taking start mid end deeds_after → BeginsToFill name start deeds end deeds_after
made_begins name start deeds mid taking end deeds_after empty same b = in_filling taking empty (subst (λ (d : Option (List Deed)). BeginsToFillMade name taking start d end deeds_after) same b)
