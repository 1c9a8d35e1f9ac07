use Rattle.std.proofs.Common.{◌≡◌, ℕ, List, ◌+◌, ◌-◌, ◌^◌, ◌≤◌, length}
use Rattle.std.specs.Prelude.{is_some}
use Rattle.czi_script.specs.Pieces.{Passed}
use Rattle.czi_script.proofs.reader.ScriptReader.skip.Given as goal

-- bytes were passed, and so many are wanting
abbrev pub invariant-loop-left : goal.invariant-loop-left
invariant-loop-left g l = record {
  passed : (bytes : List ℕ) × Passed l.fn.self l.self (g.S.Source.input l.fn.input).left (g.S.Source.input l.input).left bytes × (length bytes + l.left ≡ l.fn.count);
  told : is_some (g.S.Source.input l.input).left ≡ is_some (g.S.Source.input l.fn.input).left;
  later : (g.S.Source.input l.fn.input).faults ≤ (g.S.Source.input l.input).faults;
  no_fault : (g.S.Source.input l.input).faults ≡ (g.S.Source.input l.fn.input).faults;
}

abbrev pub decreases-loop-left : goal.decreases-loop-left
decreases-loop-left g l = 2 ^ 40 - l.self.taken
