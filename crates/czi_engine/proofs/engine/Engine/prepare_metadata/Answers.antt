use Rattle.std.proofs.Common.{Ok, Err}
use Rattle.czi_format.specs.Document.{Metadata}
use Rattle.czi_machine.specs.Edit.{set_meta, to_metadata}
use Rattle.czi_plan.specs.Attaching.{metadata_in}
use Rattle.czi_engine.specs.Limits.{metadata_pieces}
use Rattle.czi_engine.proofs.Planned.{limit_passes, limit_refuses, means_as, metadata_means, refused, short_pieces}
use Rattle.czi_engine.proofs.engine.Engine.prepare_metadata.Goals as goal

pub returns-in_err-check_metadata : goal.returns-in_err-check_metadata
returns-in_err-check_metadata c =
    let x = c.args.self.now in
    let s : Metadata = metadata_in c.args.xml.now c.args.tail.now in
    let told = c.in_err-check_metadata.ensures.past in
    refused x (set_meta s) c.from_residual.result c.in_err-check_metadata.field-0.0 told.0 told.1 (means_as x.state (set_meta s) _ (Err told.0) (metadata_means x.state s) (limit_refuses (metadata_pieces s.xml s.tail) _ told.0 told.2)) c.from_residual.ensures.1

pub prepare-requires-clause-allowed : goal.prepare-requires-clause-allowed
prepare-requires-clause-allowed c = let short = short_pieces (metadata_pieces c.args.xml.now c.args.tail.now) c.in_ok-check_metadata.ensures.within in (short.0, short.1.0)

pub returns : goal.returns
returns c =
    let x = c.args.self.now in
    let s : Metadata = metadata_in c.args.xml.now c.args.tail.now in
    c.prepare.ensures (set_meta s) (means_as x.state (set_meta s) _ (Ok (to_metadata s)) (metadata_means x.state s) (limit_passes (metadata_pieces s.xml s.tail) _ c.in_ok-check_metadata.ensures.within))
