use Rattle.std.proofs.Common.{length, ap, ◌∙◌}
use Rattle.czi_format.specs.PaintRefusals.{region_refusal}
use Rattle.czi_paint.proofs.InDocument.{subblocks_are, same_cause, tiles_lie, painter_lies}
use Rattle.czi_paint.proofs.laws.document_painted.Goals as goal

pub returns-clause-subblocks : goal.returns-clause-subblocks
returns-clause-subblocks c = subblocks_are

pub returns-clause-refusal : goal.returns-clause-refusal
returns-clause-refusal c = λ image live x q holds long.
    same_cause q image x.tiles.items (tiles_lie x (length image) long) ∙ ap (region_refusal q) (subblocks_are image live x holds)

pub returns-clause-lies : goal.returns-clause-lies
returns-clause-lies c = painter_lies
