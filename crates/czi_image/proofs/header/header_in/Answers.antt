use Rattle.std.proofs.Common.{◌≡◌, ◌∙◌, ap, arith, sym, rules, subst, pos, Some, Result, Err, to_z, of_z, w32}
use Rattle.czi_format.specs.Segment.{header_at}
use Rattle.czi_format.specs.Live.{FileHeader, FileHead}
use Rattle.czi_format.specs.Refusals.{Refusal, pending}
use Rattle.czi_seg.specs.View.{header_of}
use Rattle.czi_image.specs.Rules.{first_rules_in}
use Rattle.czi_image.specs.Faults.{Tells}
use Rattle.czi_image.proofs.Headers.{no_segment, long_segment, header_passes, header_pending, header_refused}
use Rattle.czi_image.proofs.Settled.{whole_settled}
use Rattle.czi_image.proofs.header.header_in.Goals as goal

pub returns-in_default-clause-refused : goal.returns-in_default-clause-refused
returns-in_default-clause-refused c = no_segment c.args.front.now c.args.size (sym (c.in_default.ensures.anywhere c.args.front.now 0 (sym c.read_bytes.ensures)))

pub returns-then-head-size-clause-refused : goal.returns-then-head-size-clause-refused
returns-then-head-size-clause-refused c =
    let here : header_at c.args.front.now 0 ≡ Some (header_of 0 c.in-Some.head) = sym (c.in-Some.ensures.anywhere c.args.front.now 0 (sym c.read_bytes.ensures)) in
    long_segment c.args.front.now c.args.size (header_of 0 c.in-Some.head) here (omega arith)

pub returns-then-file-ne0-clause-refused : goal.returns-then-file-ne0-clause-refused
returns-then-file-ne0-clause-refused c =
    let here : header_at c.args.front.now 0 ≡ Some (header_of 0 c.in-Some.head) = sym (c.in-Some.ensures.anywhere c.args.front.now 0 (sym c.read_bytes.ensures)) in
    let value : to_z w32 (of_z w32 c.in-Ok.file.pending) ≡ c.in-Ok.file.pending = search rules in
    header_pending c.args.front.now c.args.size c.in-Ok.file c.in-Some.head c.in-Ok.ensures.read here (omega arith) (λ e. c.if-file-ne0.true (ap (of_z w32) e))
    ∙ ap (λ z. let r : Result FileHeader Refusal = Err (pending z) in r) (sym value)

pub returns-else-file-ne0-clause-found : goal.returns-else-file-ne0-clause-found
returns-else-file-ne0-clause-found c =
    let here : header_at c.args.front.now 0 ≡ Some (header_of 0 c.in-Some.head) = sym (c.in-Some.ensures.anywhere c.args.front.now 0 (sym c.read_bytes.ensures)) in
    let value : to_z w32 (of_z w32 c.in-Ok.file.pending) ≡ c.in-Ok.file.pending = search rules in
    header_passes c.args.front.now c.args.size c.in-Ok.file c.in-Some.head c.in-Ok.ensures.read here (omega arith) (sym value ∙ ap (to_z w32) c.if-file-ne0.false)

pub returns-in-Err-clause-refused : goal.returns-in-Err-clause-refused
returns-in-Err-clause-refused c =
    let here : header_at c.args.front.now 0 ≡ Some (header_of 0 c.in-Some.head) = sym (c.in-Some.ensures.anywhere c.args.front.now 0 (sym c.read_bytes.ensures)) in
    subst (λ f. Tells (first_rules_in c.args.front.now c.args.size) f) (sym c.fault_of.ensures)
    (header_refused c.args.front.now c.args.size c.in-Err.fault c.in-Some.head c.in-Err.ensures.says c.in-Err.ensures.refused here (omega arith))

pub returns-else-file-ne0-clause-settled : goal.returns-else-file-ne0-clause-settled
returns-else-file-ne0-clause-settled c =
    let value : to_z w32 (of_z w32 c.in-Ok.file.pending) ≡ c.in-Ok.file.pending = search rules in
    let none : c.in-Ok.file.pending ≡ pos 0 = sym value ∙ ap (to_z w32) c.if-file-ne0.false in
    whole_settled c.args.front.now (λ k. c.fits-front k) (sym (ap (λ (h : FileHead). h.pending) c.in-Ok.ensures.read.head) ∙ none)
