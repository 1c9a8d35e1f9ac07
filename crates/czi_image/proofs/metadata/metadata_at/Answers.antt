use Rattle.std.proofs.Common.{◌≡◌, ◌∙◌, ap, refl, sym, arith, rules, ℤ, to_z, of_z, w64}
use Rattle.czi_format.specs.Segment.{in_segment, metadata_id}
use Rattle.czi_format.specs.Live.{meta_item}
use Rattle.czi_image.specs.View.{meta_item_of}
use Rattle.czi_image.proofs.Looks.{meta_item_front}
use Rattle.czi_image.proofs.Windows.{nothing_near, read_shown}
use Rattle.czi_image.proofs.metadata.metadata_at.Goals as goal

pub returns-in-None-clause-found : goal.returns-in-None-clause-found
returns-in-None-clause-found g c = λ image is.
    let place : to_z w64 (of_z w64 c.args.position) ≡ c.args.position = search rules in
    sym (nothing_near image metadata_id 288 (to_z w64 (of_z w64 c.args.position)) meta_item_front refl ((rw c.in-None.is at c.in_ok-read_front.ensures.found) image is))
    ∙ ap (λ (z : ℤ). in_segment image metadata_id z meta_item) place

pub returns-in-Some-clause-found : goal.returns-in-Some-clause-found
returns-in-Some-clause-found g c = λ image is.
    let place : to_z w64 (of_z w64 c.args.position) ≡ c.args.position = search rules in
    read_shown meta_item_of c.metadata_in.result image metadata_id c.in-Some.front.bytes 288 40 c.args.size c.in-Some.front.at (to_z w64 (of_z w64 c.args.position)) meta_item_front (omega arith) refl (c.requires.size image is)
    ((rw c.in-Some.is at c.in_ok-read_front.ensures.found) image is) c.metadata_in.ensures.found
    ∙ ap (λ (z : ℤ). in_segment image metadata_id z meta_item) place
