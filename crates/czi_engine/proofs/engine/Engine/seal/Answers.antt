use Rattle.czi_rig.specs.declared.file.File.TheVariants.{Image}
use Rattle.czi_rig.proofs.Known.{known_file}
use Rattle.czi_engine.proofs.Fresh.{closes_for_itself}
use Rattle.czi_engine.proofs.engine.Engine.seal.Goals as goal

pub returns-clause-moments : goal.returns-clause-moments
returns-clause-moments g c = λ all is.
    let s = g.R.Rig.state c.args.rig.now in
    c.close.ensures.moments all is (c.requires.stands.image all.image (known_file s Image all is)) (closes_for_itself all (c.requires.stands.itself all is))
