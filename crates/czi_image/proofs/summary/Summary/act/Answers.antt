use Rattle.std.proofs.Common.{sym, ◌∙◌}
use Rattle.czi_machine.specs.Change.{changed}
use Rattle.czi_image.specs.Change.{act_of}
use Rattle.czi_image.proofs.Summed.{numbers_changed}
use Rattle.czi_image.proofs.summary.Summary.act.Goals as goal

pub returns-clause-sums : goal.returns-clause-sums
returns-clause-sums c = record {
  numbers = c.act_on.ensures.items ∙ ((λ i. changed (c.number_act.ensures.act i) (c.requires.sums.numbers i)) ∙ sym (numbers_changed (act_of c.args.act.now) c.args.tiles.now));
  entries_len = c.entries_len_after-self.ensures;
}
