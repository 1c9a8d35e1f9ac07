use Rattle.std.proofs.Common.{◌∙◌, sym}
use Rattle.czi_engine.specs.Devices.{edit_fault}
use Rattle.czi_engine.proofs.OnRig.{edited_as, edited_none}
use Rattle.czi_engine.proofs.engine.Engine.edit.Goals as goal

pub returns-in-Ok : goal.returns-in-Ok
returns-in-Ok g c = λ go was p.
    let ready = rw c.in-Ok.is at p.ready in
    edited_as edit_fault g.R.Rig c.args.rig.now c.commit.new.rig was.state c.args.self.now.state c.commit.new.self.state go c.commit.result p.same (c.commit.ensures go ready.0)

pub returns-in-Err : goal.returns-in-Err
returns-in-Err g c = λ go was p.
    let none = rw c.in-Err.is at p.refusal in
    edited_none edit_fault g.R.Rig c.args.rig.now g.met.R.Rig.only_now c.requires.stands.itself was.state c.args.self.now.state go c.in-Err.error (sym p.same.down ∙ c.requires.up) none.0 p.same none.1
