use Rattle.std.proofs.Common.{arith}
use Rattle.czi_plan.proofs.Entries.{writes_both}
use Rattle.czi_plan.proofs.directory.write_middle.Goals as goal

pub returns : goal.returns
returns c =
    writes_both _ _ c.args.at c.write_entries-moved_at.result c.write_entries.result c.args.out.now c.write_entries-moved_at.new.out c.write_entries.new.out (omega (arith, c.requires)) c.write_entries-moved_at.ensures c.write_entries.ensures
