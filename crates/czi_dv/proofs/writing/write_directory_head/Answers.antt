use Rattle.std.proofs.Common.{◌++◌, ap, ◌∙◌}
use Rattle.czi_format.specs.Contents.{entry_count}
use Rattle.czi_format.proofs.Written.{count_again}
use Rattle.czi_dv.proofs.writing.write_directory_head.Goals as goal

pub returns-clause-reads_back : goal.returns-clause-reads_back
returns-clause-reads_back c = λ rest. ap (λ head. entry_count (head ++ rest)) c.write_u32.ensures.written ∙ count_again c.args.count rest c.requires
