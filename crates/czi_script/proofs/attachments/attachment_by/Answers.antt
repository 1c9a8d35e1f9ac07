use Rattle.czi_script.proofs.Values.{wrong_name, wrong_size, wrong_type}
use Rattle.czi_script.proofs.attachments.attachment_by.Goals as goal

pub returns-in_err-padded_by : goal.returns-in_err-padded_by
returns-in_err-padded_by c = rw c.from_residual-in_err-padded_by.ensures (wrong_type c.args.names.now c.in_err-padded_by.ensures)

pub returns-in_err-padded_by-2 : goal.returns-in_err-padded_by-2
returns-in_err-padded_by-2 c = rw c.from_residual-in_err-padded_by-2.ensures (wrong_name c.args.names.now c.in_err-padded_by-2.ensures)

pub returns-in_err-size : goal.returns-in_err-size
returns-in_err-size c = rw c.from_residual-in_err-size.ensures (wrong_size c.args.names.now c.in_err-size.ensures)
