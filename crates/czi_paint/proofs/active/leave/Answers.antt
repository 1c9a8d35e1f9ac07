use Rattle.std.proofs.Common.{ℕ, nat_lt, rules}
use Rattle.std.proofs.lemmas.Fn.{filter_same}
use Rattle.czi_paint.specs.Meeting.{end_row}
use Rattle.czi_paint.proofs.active.leave.Goals as goal

pub returns-clause-left : goal.returns-clause-left
returns-clause-left c = filter_same _ (λ (at : ℕ). nat_lt c.args.j (end_row c.args.patches.now at)) _ (λ x b f r. search rules) c.args.active.now.items c.retain.new.self.items c.retain.ensures.filtered
