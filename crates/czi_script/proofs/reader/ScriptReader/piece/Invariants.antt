use Rattle.std.proofs.Common.{◌≡◌, [], ◌-◌, ◌<◌, ◌≤◌, length}
use Rattle.std.specs.Prelude.{is_some}
use Rattle.czi_script.specs.Reader.{IsReader}
use Rattle.czi_script.specs.Pieces.{Passed}
use Rattle.czi_script.proofs.reader.ScriptReader.piece.Given as goal

-- the bytes that the piece has were passed, and where one is wanting none is held
abbrev pub invariant-loop-self : goal.invariant-loop-self
invariant-loop-self g l = record {
  passed : Passed l.fn.self l.self (g.S.Source.input l.fn.input).left (g.S.Source.input l.input).left l.piece.bytes;
  size : l.piece.size ≡ l.fn.size;
  few : length l.piece.bytes ≤ l.piece.size;
  sound : IsReader l.self;
  held : length l.piece.bytes < l.piece.size → l.self.held ≡ [];
  told : is_some (g.S.Source.input l.input).left ≡ is_some (g.S.Source.input l.fn.input).left;
  later : (g.S.Source.input l.fn.input).faults ≤ (g.S.Source.input l.input).faults;
  no_fault : (g.S.Source.input l.input).faults ≡ (g.S.Source.input l.fn.input).faults;
}

abbrev pub decreases-loop-self : goal.decreases-loop-self
decreases-loop-self g l = l.piece.size - length l.piece.bytes
