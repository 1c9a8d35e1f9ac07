use Rattle.std.proofs.Common.{◌∙◌, ap}
use Rattle.czi_links.specs.Record.{next_place}
use Rattle.czi_links.specs.WriteSet.{WriteSet}
use Rattle.czi_links.proofs.Rising.{next_place-more}
use Rattle.czi_sample.proofs.journals.push_link.Goals as goal

pub returns-clause-from : goal.returns-clause-from
returns-clause-from c = ap (λ (w : WriteSet). next_place 84 w.links) c.push.ensures ∙ next_place-more 84 c.reserve.new.self.links (record { place = c.args.place; bytes = c.args.bytes.now })
