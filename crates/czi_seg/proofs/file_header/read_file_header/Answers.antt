use Rattle.std.proofs.Common.{rules}
use Rattle.czi_format.specs.Live.{FileHeader, header_fields}
use Rattle.czi_format.proofs.HeaderRules.{rules_front}
use Rattle.czi_format.proofs.Local.{is_front}
use Rattle.czi_seg.specs.View.{header_of}
use Rattle.czi_seg.proofs.Headers.{says}
use Rattle.czi_seg.proofs.file_header.read_file_header.Goals as goal

pub returns-in_err-header-clause-says : goal.returns-in_err-header-clause-says
returns-in_err-header-clause-says c = search (rules, says)

pub returns-clause-read : goal.returns-clause-read
returns-clause-read c =
    let h : FileHeader = header_fields c.args.bytes.now (header_of 0 c.in_ok-header.header) in
    let front = rules_front c.args.bytes.now h c.in_ok-header.ensures.passes in
    record {
      header = h;
      passes = c.in_ok-header.ensures.passes;
      stands = is_front c.args.bytes.now h front.0;
      first = front.1;
      head = search rules;
      allocated = search rules;
    }
