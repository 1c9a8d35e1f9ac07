use Rattle.std.proofs.Common.{◌≡◌, ◌∙◌, ap, refl, sym, arith, rules, ℤ, to_z, of_z, w64}
use Rattle.czi_format.specs.Segment.{in_segment, attdir_id}
use Rattle.czi_format.specs.Live.{attachment_directory}
use Rattle.czi_image.specs.View.{directory_of}
use Rattle.czi_image.proofs.Looks.{attachment_directory_front}
use Rattle.czi_image.proofs.Windows.{nothing_near, read_shown}
use Rattle.czi_image.proofs.directory.attachment_directory_at.Goals as goal

pub returns-in-None-clause-found : goal.returns-in-None-clause-found
returns-in-None-clause-found g c = λ image is.
    let place : to_z w64 (of_z w64 c.args.position) ≡ c.args.position = search rules in
    sym (nothing_near image attdir_id 288 (to_z w64 (of_z w64 c.args.position)) attachment_directory_front refl ((rw c.in-None.is at c.in_ok-read_front.ensures.found) image is))
    ∙ ap (λ (z : ℤ). in_segment image attdir_id z attachment_directory) place

pub returns-in-Some-clause-found : goal.returns-in-Some-clause-found
returns-in-Some-clause-found g c = λ image is.
    let place : to_z w64 (of_z w64 c.args.position) ≡ c.args.position = search rules in
    read_shown directory_of c.attachment_directory_in.result image attdir_id c.in-Some.front.bytes 288 36 c.args.size c.in-Some.front.at (to_z w64 (of_z w64 c.args.position)) attachment_directory_front (omega arith) refl (c.requires.size image is)
    ((rw c.in-Some.is at c.in_ok-read_front.ensures.found) image is) c.attachment_directory_in.ensures.found
    ∙ ap (λ (z : ℤ). in_segment image attdir_id z attachment_directory) place
