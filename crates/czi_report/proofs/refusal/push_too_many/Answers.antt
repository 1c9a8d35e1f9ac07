use Rattle.std.proofs.Common.{◌≡◌, rules, append_assoc, to_z, of_z, w64}
use Rattle.czi_report.specs.Refusals.{refusal_text}
use Rattle.czi_report.specs.Text.{text_line}
use Rattle.czi_report.proofs.refusal.push_too_many.Goals as goal

pub returns-clause-ok : goal.returns-clause-ok
unfolding refusal_text text_line
returns-clause-ok c =
    let place : to_z w64 (of_z w64 c.args.place) ≡ c.args.place = search rules in
    rw (c.in_ok-end_with_number.ensures.ok, c.in_ok-push_number.ensures.ok, place) (simp append_assoc)
