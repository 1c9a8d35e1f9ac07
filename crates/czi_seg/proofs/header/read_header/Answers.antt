use Rattle.std.proofs.Common.{rules, Some}
use Rattle.czi_format.specs.Segment.{header_at}
use Rattle.czi_seg.proofs.Headers.{anywhere}
use Rattle.czi_seg.proofs.header.read_header.Goals as goal

pub returns-in_err-allocated-clause-anywhere : goal.returns-in_err-allocated-clause-anywhere
unfolding header_at
returns-in_err-allocated-clause-anywhere c = anywhere c.from_residual.result c.args.bytes.now (search rules)

pub returns-in_err-used-clause-anywhere : goal.returns-in_err-used-clause-anywhere
unfolding header_at
returns-in_err-used-clause-anywhere c = anywhere c.from_residual-in_err-used.result c.args.bytes.now (search rules)

pub returns-clause-anywhere : goal.returns-clause-anywhere
unfolding header_at
returns-clause-anywhere c =
    anywhere (Some (record { id = c.from_bytes.result; allocated = c.in_ok-allocated.allocated; used = c.in_ok-used.used })) c.args.bytes.now (search rules)
