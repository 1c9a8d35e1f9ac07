use Rattle.std.proofs.Common.{◌≡◌, length, arith, sym, ◌∙◌}
use Rattle.czi_image.proofs.Headers.{no_header, first_shown}
use Rattle.czi_image.proofs.Told.{ok_weaker, err_weaker, tells_same}
use Rattle.czi_image.proofs.Settled.{front_settled}
use Rattle.czi_image.proofs.header.read_header_at_front.Goals as goal

pub returns-then-size-clause-refused : goal.returns-then-size-clause-refused
returns-then-size-clause-refused g c = λ image is. let long : c.args.size ≡ length image = c.requires.size image is in no_header image (omega (arith, long))

pub returns-in-Ok-clause-found : goal.returns-in-Ok-clause-found
returns-in-Ok-clause-found g c = ok_weaker c.header_in.result _ _
    (λ h e image is. sym (first_shown image c.read_at.new.into c.args.size (omega arith) (c.requires.size image is) (c.in-Ok.ensures.bytes image is)) ∙ e)
    c.header_in.ensures.found

pub returns-in-Ok-clause-refused : goal.returns-in-Ok-clause-refused
returns-in-Ok-clause-refused g c = err_weaker c.header_in.result _ _
    (λ f t image is. tells_same _ _ f (sym (first_shown image c.read_at.new.into c.args.size (omega arith) (c.requires.size image is) (c.in-Ok.ensures.bytes image is))) t)
    c.header_in.ensures.refused

pub returns-in-Ok-clause-settled : goal.returns-in-Ok-clause-settled
returns-in-Ok-clause-settled g c = ok_weaker c.header_in.result _ _ (λ h settled image is. front_settled c.read_at.new.into image 112 (omega arith) (c.in-Ok.ensures.bytes image is) settled) c.header_in.ensures.settled
