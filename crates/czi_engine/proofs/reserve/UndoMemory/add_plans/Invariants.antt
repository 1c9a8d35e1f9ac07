use Rattle.std.proofs.Common.{◌≡◌, ◌≤◌, vec_len}
use Rattle.czi_engine.proofs.reserve.UndoMemory.add_plans.Given as goal

abbrev pub invariant-loop : goal.invariant-loop
invariant-loop l = (l.counter ≤ vec_len l.self.plans) × (vec_len l.initial.self.plans ≤ vec_len l.self.plans) × (l.self.region ≡ l.initial.self.region)
