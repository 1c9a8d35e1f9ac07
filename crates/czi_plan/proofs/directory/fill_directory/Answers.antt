use Rattle.std.proofs.Common.{ap, ◌∙◌, length}
use Rattle.czi_format.specs.Contents.{directory_head}
use Rattle.czi_plan.specs.Directory.{listed}
use Rattle.czi_plan.proofs.Entries.{filled}
use Rattle.czi_plan.proofs.directory.fill_directory.Goals as goal

pub returns-clause-written : goal.returns-clause-written
returns-clause-written c =
    filled (length c.args.out.now) c.write_listing.result c.args.out.now c.write_directory_head.result c.write_bytes.new.bytes c.write_listing.new.out (listed c.args.listing.now)
    c.requires.zeros (c.write_directory_head.ensures.written ∙ ap directory_head c.count_of.ensures) (ap length c.write_directory_head.ensures.written) c.write_bytes.ensures.written c.write_listing.ensures
