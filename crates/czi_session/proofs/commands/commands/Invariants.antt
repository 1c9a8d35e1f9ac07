use Rattle.std.proofs.Common.{◌≡◌, ◌≤◌, ◌-◌, ◌^◌, ℕ, List, None}
use Rattle.czi_script.specs.Script.{Command as Cmd, End}
use Rattle.czi_script.specs.Reader.{IsReader}
use Rattle.czi_session.specs.Course.{ReadsToPrefix, Starts}
use Rattle.czi_session.proofs.Midway.{Midway, TakenSoFar}
use Rattle.czi_rig.specs.Faults.{FaultsWith}
use Rattle.czi_rig.specs.Passes.{GoesOn}
use Rattle.czi_rig.specs.Moments.{Throughout}
use Rattle.czi_rig.specs.Spans.{InSpans}
use Rattle.czi_session.proofs.commands.commands.Given as goal

abbrev pub invariant-loop-command : goal.invariant-loop-command
invariant-loop-command g l = record {
  midway : (cs : List Cmd) (end : End) (said : List ℕ) (s : g.E.Editor.model.Document) → (h : Starts g.E.Editor.model (g.E.Editor.stands l.initial.editor) (g.S.Source.input l.initial.input).left (g.R.Rig.state l.initial.rig) cs end said s)
      → Midway g.E.Editor.model (g.E.Editor.stands l.editor) l.reader (g.S.Source.input l.input).left (g.R.Rig.state l.rig) s cs end said h.input;
  moments : (cs : List Cmd) (end : End) (said : List ℕ) (s : g.E.Editor.model.Document) → Starts g.E.Editor.model (g.E.Editor.stands l.initial.editor) (g.S.Source.input l.initial.input).left (g.R.Rig.state l.initial.rig) cs end said s
      → (last : List ℕ) → Throughout g.R.Rig l.initial.rig l.rig (ReadsToPrefix g.E.Editor.model s cs last said);
  alike : (cs : List Cmd) (end : End) (said : List ℕ) (s : g.E.Editor.model.Document) → Starts g.E.Editor.model (g.E.Editor.stands l.initial.editor) (g.S.Source.input l.initial.input).left (g.R.Rig.state l.initial.rig) cs end said s
      → InSpans g.R.Rig l.initial.rig l.rig g.E.Editor.model.alike;
  taken : TakenSoFar (g.S.Source.input l.initial.input).left (g.S.Source.input l.input).left l.reader.taken;
  sound : IsReader l.reader;
  none : l.reader.error ≡ None;
  ready : g.E.Editor.ready l.editor (g.R.Rig.state l.rig);
  goes_on : GoesOn (g.R.Rig.state l.initial.rig) (g.R.Rig.state l.rig);
  later : (g.S.Source.input l.initial.input).faults ≤ (g.S.Source.input l.input).faults;
  no_fault : FaultsWith None (g.R.Rig.state l.initial.rig) (g.R.Rig.state l.rig) (g.S.Source.input l.initial.input).faults (g.S.Source.input l.input).faults;
}

abbrev pub decreases-loop-command : goal.decreases-loop-command
decreases-loop-command g l = 2 ^ 40 - l.reader.commands
