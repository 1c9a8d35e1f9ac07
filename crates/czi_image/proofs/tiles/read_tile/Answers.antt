use Rattle.std.proofs.Common.{◌≡◌, ◌∙◌, ap, refl, sym, arith, rules, pos, ℤ, to_z, of_z, w64}
use Rattle.czi_format.specs.Segment.{subblock_id, in_segment}
use Rattle.czi_format.specs.Live.{tile}
use Rattle.czi_doc.specs.View.{info_of}
use Rattle.czi_dv.specs.View.{entry_of}
use Rattle.czi_image.specs.View.{tile_of}
use Rattle.czi_image.proofs.Looks.{tile_front}
use Rattle.czi_image.proofs.Windows.{nothing_near, read_shown}
use Rattle.czi_image.proofs.tiles.read_tile.Goals as goal

pub returns-in-None-clause-found : goal.returns-in-None-clause-found
returns-in-None-clause-found g c = λ image is.
    let place : to_z w64 (of_z w64 c.args.entry.position) ≡ c.args.entry.position = search rules in
    sym (nothing_near image subblock_id 288 (to_z w64 (of_z w64 c.args.entry.position)) (tile_front (entry_of c.args.entry)) refl ((rw c.in-None.is at c.in_ok-read_front.ensures.found) image is))
    ∙ ap (λ (z : ℤ). in_segment image subblock_id z (tile (entry_of c.args.entry))) place

pub returns-in-Some-clause-found : goal.returns-in-Some-clause-found
returns-in-Some-clause-found g c = λ image is.
    let place : to_z w64 (of_z w64 c.args.entry.position) ≡ c.args.entry.position = search rules in
    let front = (rw c.in-Some.is at c.in_ok-read_front.ensures.found) image is in
    read_shown tile_of c.tile_in.result image subblock_id c.in-Some.front.bytes 288 80 c.args.size c.in-Some.front.at (to_z w64 (of_z w64 c.args.entry.position))
    (tile_front (record { info = info_of c.args.entry.info; position = pos c.in-Some.front.at })) (omega arith) refl (c.requires.size image is) front c.tile_in.ensures.found
    ∙ (ap (λ (z : ℤ). in_segment image subblock_id (to_z w64 (of_z w64 c.args.entry.position)) (tile (record { info = info_of c.args.entry.info; position = z }))) (sym front.place)
    ∙ ap (λ (z : ℤ). in_segment image subblock_id z (tile (record { info = info_of c.args.entry.info; position = z }))) place)
