use Rattle.czi_engine.proofs.Oldest.{passes_none}
use Rattle.czi_engine.proofs.engine.EngineState.keep_inverse.Goals as goal

pub push_reserved-requires : goal.push_reserved-requires
push_reserved-requires c = record { within = passes_none c.args.self.now.edits c.requires.ones.1 c.requires.few }
