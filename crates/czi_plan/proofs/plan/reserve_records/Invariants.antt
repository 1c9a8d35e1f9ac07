use Rattle.std.proofs.Common.{◌≤◌, vec_len}
use Rattle.czi_plan.proofs.plan.reserve_records.Given as goal

abbrev pub invariant-loop : goal.invariant-loop
invariant-loop l = l.counter ≤ vec_len l.dimensions
