use Rattle.std.proofs.Common.{◌≡◌, ◌∙◌, ap, refl, sym, arith, rules, map, None, Ok, Err, Result, List, ℕ, ℤ, to_z, of_z, w64}
use Rattle.std.proofs.lemmas.Result.{err_from_is_err_and}
use Rattle.czi_rig.specs.declared.file.File.TheVariants.{Image}
use Rattle.czi_format.specs.Partial.{none_or}
use Rattle.czi_format.specs.Segment.{in_segment, directory_id}
use Rattle.czi_format.specs.Live.{directory}
use Rattle.czi_format.specs.Refusals.{Refusal, Tiles, bad_directory, too_many}
use Rattle.czi_image.specs.declared.types.Tile.{Tile}
use Rattle.czi_image.specs.View.{directory_of, tile_of}
use Rattle.czi_image.proofs.Stages as stages
use Rattle.czi_image.proofs.Stages.{then_ok}
use Rattle.czi_image.proofs.Told.{tells_first, tells_same, seen_same}
use Rattle.czi_image.proofs.tiles.read_tiles.Goals as goal

pub returns-in-Ok-Some-None-clause-found : goal.returns-in-Ok-Some-None-clause-found
returns-in-Ok-Some-None-clause-found g c = λ image is.
    let place : to_z w64 (of_z w64 c.args.position) ≡ c.args.position = search rules in
    let found = (rw (c.in-Ok-Some-None.field-0-is, c.in-Ok-Some-None.field-0-0-is) at c.in-Ok-Some-None.ensures.found) image is in
    stages.no_tiles image c.args.position (found ∙ ap (λ (z : ℤ). none_or z (in_segment image directory_id z directory)) place)
    ∙ ap (λ (l : List Tile). let r : Result Tiles Refusal = Ok (record { directory = None; tiles = map tile_of l }) in r) (sym c.new.ensures.items)

pub returns-in-Ok-None-clause-refused : goal.returns-in-Ok-None-clause-refused
returns-in-Ok-None-clause-refused g c = λ image is.
    let place : to_z w64 (of_z w64 c.args.position) ≡ c.args.position = search rules in
    let found = (rw c.in-Ok-None.field-0-is at c.in-Ok-None.ensures.found) image is in
    stages.bad_directory image c.args.position (found ∙ ap (λ (z : ℤ). none_or z (in_segment image directory_id z directory)) place)
    ∙ ap (λ (z : ℤ). let r : Result Tiles Refusal = Err (bad_directory z) in r) (sym place)

pub returns-then-directory-gt-MOST_ENTRIES-clause-refused : goal.returns-then-directory-gt-MOST_ENTRIES-clause-refused
returns-then-directory-gt-MOST_ENTRIES-clause-refused g c = λ image is.
    let place : to_z w64 (of_z w64 c.args.position) ≡ c.args.position = search rules in
    let found = (rw (c.in-Ok-Some-Some.field-0-is, c.in-Ok-Some-Some.field-0-0-is, c.in-Ok-Some-Some.directory-is) at c.in-Ok-Some-Some.ensures.found) image is in
    let count : c.from.result ≡ c.in-Ok-Some-Some.directory.count = search rules in
    stages.many_tiles image c.args.position (directory_of c.in-Ok-Some-Some.directory) (found ∙ ap (λ (z : ℤ). none_or z (in_segment image directory_id z directory)) place) (omega arith)
    ∙ (ap (λ (z : ℤ). let r : Result Tiles Refusal = Err (too_many z c.in-Ok-Some-Some.directory.count) in r) (sym place)
    ∙ ap (λ (n : ℕ). let r : Result Tiles Refusal = Err (too_many (to_z w64 (of_z w64 c.args.position)) n) in r) (sym count))

pub returns-in_err-listed-clause-refused : goal.returns-in_err-listed-clause-refused
returns-in_err-listed-clause-refused g c =
    let p = err_from_is_err_and c.from_residual.result c.from_residual.ensures.1 in
    rw (p.1, p.2) (λ image is.
    let place : to_z w64 (of_z w64 c.args.position) ≡ c.args.position = search rules in
    let found = (rw (c.in-Ok-Some-Some.field-0-is, c.in-Ok-Some-Some.field-0-0-is, c.in-Ok-Some-Some.directory-is) at c.in-Ok-Some-Some.ensures.found) image is in
    tells_same _ _ c.in_err-listed.field-0.0 (stages.some_tiles image c.args.position (directory_of c.in-Ok-Some-Some.directory) (found ∙ ap (λ (z : ℤ). none_or z (in_segment image directory_id z directory)) place) (omega arith))
    (tells_first _ _ c.in_err-listed.field-0.0 ((c.in_err-listed.ensures {u = tt}).refused image (seen_same _ _ Image image c.read_directory.ensures.untouched.same is))))

pub returns-clause-found : goal.returns-clause-found
returns-clause-found g c = λ image is.
    let place : to_z w64 (of_z w64 c.args.position) ≡ c.args.position = search rules in
    let found = (rw (c.in-Ok-Some-Some.field-0-is, c.in-Ok-Some-Some.field-0-0-is, c.in-Ok-Some-Some.directory-is) at c.in-Ok-Some-Some.ensures.found) image is in
    stages.some_tiles image c.args.position (directory_of c.in-Ok-Some-Some.directory) (found ∙ ap (λ (z : ℤ). none_or z (in_segment image directory_id z directory)) place) (omega arith)
    ∙ then_ok _ _ _ _ ((c.in_ok-listed.ensures {u = tt}).found image (seen_same _ _ Image image c.read_directory.ensures.untouched.same is)) refl
