use Rattle.std.proofs.Common.{◌+◌, ◌++◌, ◌∷◌, [], length, ap, ◌∙◌, arith}
use Rattle.czi_body.specs.Staged.{meta_length}
use Rattle.czi_num.specs.Padding.{fill}
use Rattle.czi_plan.specs.Setting.{metadata_of}
use Rattle.czi_plan.proofs.Marking.{adds_both, first_marks}
use Rattle.czi_plan.proofs.Setting.{id_length}
use Rattle.czi_plan.proofs.metadata.stage_metadata.Goals as goal

pub mark_header-requires-clause-id : goal.mark_header-requires-clause-id
mark_header-requires-clause-id c = id_length (metadata_of c.args.new.now) c.args.item.now c.requires.item

pub returns-clause-staged : goal.returns-clause-staged
returns-clause-staged c =
    let d = metadata_of c.args.new.now in
    let put = c.stage_meta-piece.ensures.staged in
    record {
      piece = c.stage_meta-piece.result;
      staged = put.inside;
      long = omega (arith, c.stage_meta-piece.ensures.size, c.requires.long);
      padding = fill (meta_length (length d.xml) (length d.tail));
      bytes = put.reads;
      only = c.put.ensures.items ∙ ap (λ l. l ++ (c.args.item.now.span.at + 32, c.stage_meta-piece.result) ∷ []) c.requires.no_writes;
    }

pub returns-clause-marks : goal.returns-clause-marks
returns-clause-marks c = λ r. first_marks c.requires.no_marks (adds_both (c.mark_pointer.ensures.marks r) (c.mark_header.ensures.marks r))
