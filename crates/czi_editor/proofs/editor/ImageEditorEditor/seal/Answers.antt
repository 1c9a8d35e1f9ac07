use Rattle.std.proofs.lemmas.Result.{on_ok_weaker}
use Rattle.czi_editor.proofs.Sealing.{sealed_stands, sealing_alike, sealing_opens}
use Rattle.czi_editor.proofs.editor.ImageEditorEditor.seal.Goals as goal

pub returns-clause-moments : goal.returns-clause-moments
returns-clause-moments g c said b h = sealing_opens g.R.Rig c.args.self.engine c.args.rig.now c.seal.new.rig said b h (c.seal.ensures.leaves h.now h.known)

pub returns-clause-alike : goal.returns-clause-alike
returns-clause-alike g c said b h = sealing_alike g.R.Rig c.args.self.engine c.args.rig.now c.seal.new.rig said b h g.met.R.Rig.only_now (c.seal.ensures.leaves h.now h.known)

pub returns-clause-ok : goal.returns-clause-ok
returns-clause-ok g c = on_ok_weaker c.seal.result (λ closed said b h.
    sealed_stands g.R.Rig c.args.self.engine c.args.rig.now c.seal.new.rig said b h g.met.R.Rig.counts_now g.met.R.Rig.only_now c.seal.ensures.other c.seal.ensures.goes_on (c.seal.ensures.leaves h.now h.known) closed) c.seal.ensures.closed
