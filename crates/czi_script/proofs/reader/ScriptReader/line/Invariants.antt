use Rattle.std.proofs.Common.{◌≡◌, ◌<◌, ◌≤◌, ◌-◌, ◌^◌, ℕ, List, length, take}
use Rattle.std.specs.Prelude.{is_some}
use Rattle.czi_script.specs.Script.{HasNo}
use Rattle.czi_script.specs.Pieces.{TookOn}
use Rattle.czi_script.proofs.reader.ScriptReader.line.Given as goal

-- bytes were taken, and none was used
abbrev pub invariant-loop-len : goal.invariant-loop-len
invariant-loop-len g l = record {
  took : (more : List ℕ) × TookOn l.initial.self l.self (g.S.Source.input l.initial.input).left (g.S.Source.input l.input).left more;
  told : is_some (g.S.Source.input l.input).left ≡ is_some (g.S.Source.input l.initial.input).left;
  inside : l.seen ≤ length l.self.held;
  few : l.seen < 4096;
  free : HasNo 10 (take l.seen l.self.held);
  later : (g.S.Source.input l.initial.input).faults ≤ (g.S.Source.input l.input).faults;
  no_fault : (g.S.Source.input l.input).faults ≡ (g.S.Source.input l.initial.input).faults;
}

abbrev pub decreases-loop-len : goal.decreases-loop-len
decreases-loop-len g l = 2 ^ 40 - l.self.taken
