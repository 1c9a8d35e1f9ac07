use Rattle.std.proofs.Common.{◌∙◌}
use Rattle.czi_machine.specs.Edit.{detach}
use Rattle.czi_machine.specs.Machine.{after_edit}
use Rattle.czi_engine.proofs.Same.{same_stands}
use Rattle.czi_engine.proofs.engine.Engine.detach.Goals as goal

pub edit-requires-clause-stands : goal.edit-requires-clause-stands
edit-requires-clause-stands g c = same_stands c.args.self.now.state c.prepare_detachment-prepared.new.self.state c.prepare_detachment-prepared.ensures.same (g.R.Rig.state c.args.rig.now) c.requires.stands

pub edit-requires-clause-up : goal.edit-requires-clause-up
edit-requires-clause-up g c = c.prepare_detachment-prepared.ensures.same.down ∙ c.requires.up

pub edit-requires-clause-prepared : goal.edit-requires-clause-prepared
edit-requires-clause-prepared g c = (λ s. after_edit s (detach c.args.name.now), c.args.self.now, c.prepare_detachment-prepared.ensures)

pub returns : goal.returns
returns g c = c.edit.ensures (λ s. after_edit s (detach c.args.name.now)) c.args.self.now c.prepare_detachment-prepared.ensures
