use Rattle.std.proofs.Common.{◌≡◌, ◌++◌, codes, length, map, take}
use Rattle.czi_image.specs.View.{att_item_of}
use Rattle.czi_report.specs.Text.{lines, number_line, attachment_line}
use Rattle.czi_report.proofs.details.push_attachments.Given as goal

-- the line of each that was passed stands behind their number
abbrev pub invariant-loop-number : goal.invariant-loop-number
invariant-loop-number l = l.out.items ≡ l.fn.out.items ++ (number_line (codes "attachments ") (length l.items) ++ lines attachment_line 0 (map att_item_of (take l.number l.items)))
