use Rattle.std.proofs.Common.{◌≡◌, ◌∙◌, ap, refl, sym, rules, ℤ, to_z, of_z, w64, subst}
use Rattle.std.proofs.lemmas.Result.{err_from_is_err_and}
use Rattle.czi_rig.specs.declared.file.File.TheVariants.{Image}
use Rattle.czi_format.specs.Refusals.{tile_rules, attachment_rules, metadata_rule}
use Rattle.czi_image.specs.Faults.{Tells}
use Rattle.czi_image.specs.View.{file_header_of, tiles_of, attachments_of}
use Rattle.czi_image.proofs.Stages.{reads_first, behind_header, behind_tiles, behind_attachments, after_header, after_tiles, after_attachments, then_ok}
use Rattle.czi_image.proofs.Told.{tells_first, tells_same, seen_same}
use Rattle.czi_image.proofs.reading.read_live.Goals as goal

pub returns-in_err-header-clause-refused : goal.returns-in_err-header-clause-refused
returns-in_err-header-clause-refused g c =
    let p = err_from_is_err_and c.from_residual.result c.from_residual.ensures.1 in
    rw (p.1, p.2) (λ image is. tells_same _ _ c.in_err-header.field-0.0 (reads_first image) (tells_first _ (behind_header image) c.in_err-header.field-0.0 ((c.in_err-header.ensures {u = tt}).refused image is)))

pub returns-in_err-tiles-clause-refused : goal.returns-in_err-tiles-clause-refused
returns-in_err-tiles-clause-refused g c =
    let p = err_from_is_err_and c.from_residual-in_err-tiles.result c.from_residual-in_err-tiles.ensures.1 in
    rw (p.1, p.2) (λ image is.
    let h = file_header_of c.in_ok-header.header in
    let place : to_z w64 (of_z w64 c.in_ok-header.header.file.directory) ≡ c.in_ok-header.header.file.directory = search rules in
    let after1 = seen_same _ _ Image image c.read_header_at_front.ensures.untouched.same is in
    let first = (c.in_ok-header.ensures {u = tt}).found image is in
    tells_same _ _ c.in_err-tiles.field-0.0 (after_header image h first) (tells_first _ (behind_tiles image h) c.in_err-tiles.field-0.0
    (subst (λ (z : ℤ). Tells (tile_rules image z) c.in_err-tiles.field-0.0) place ((c.in_err-tiles.ensures {u = tt}).refused image after1))))

pub returns-in_err-attached-clause-refused : goal.returns-in_err-attached-clause-refused
returns-in_err-attached-clause-refused g c =
    let p = err_from_is_err_and c.from_residual-in_err-attached.result c.from_residual-in_err-attached.ensures.1 in
    rw (p.1, p.2) (λ image is.
    let h = file_header_of c.in_ok-header.header in
    let place : to_z w64 (of_z w64 c.in_ok-header.header.file.directory) ≡ c.in_ok-header.header.file.directory = search rules in
    let place2 : to_z w64 (of_z w64 c.in_ok-header.header.file.attachments) ≡ c.in_ok-header.header.file.attachments = search rules in
    let after1 = seen_same _ _ Image image c.read_header_at_front.ensures.untouched.same is in
    let after2 = seen_same _ _ Image image c.read_tiles.ensures.untouched.same after1 in
    let first = (c.in_ok-header.ensures {u = tt}).found image is in
    let tiled = (c.in_ok-tiles.ensures {u = tt}).found image after1 in
    tells_same _ _ c.in_err-attached.field-0.0 (after_tiles image h (tiles_of c.in_ok-tiles.tiles) _ first place tiled) (tells_first _ (behind_attachments image h (tiles_of c.in_ok-tiles.tiles)) c.in_err-attached.field-0.0
    (subst (λ (z : ℤ). Tells (attachment_rules image z) c.in_err-attached.field-0.0) place2 ((c.in_err-attached.ensures {u = tt}).refused image after2))))

pub returns-in_err-metadata-clause-refused : goal.returns-in_err-metadata-clause-refused
returns-in_err-metadata-clause-refused g c =
    let p = err_from_is_err_and c.from_residual-in_err-metadata.result c.from_residual-in_err-metadata.ensures.1 in
    rw (p.1, p.2) (λ image is.
    let h = file_header_of c.in_ok-header.header in
    let place : to_z w64 (of_z w64 c.in_ok-header.header.file.directory) ≡ c.in_ok-header.header.file.directory = search rules in
    let place2 : to_z w64 (of_z w64 c.in_ok-header.header.file.attachments) ≡ c.in_ok-header.header.file.attachments = search rules in
    let place3 : to_z w64 (of_z w64 c.in_ok-header.header.file.metadata) ≡ c.in_ok-header.header.file.metadata = search rules in
    let after1 = seen_same _ _ Image image c.read_header_at_front.ensures.untouched.same is in
    let after2 = seen_same _ _ Image image c.read_tiles.ensures.untouched.same after1 in
    let after3 = seen_same _ _ Image image c.read_attachments.ensures.untouched.same after2 in
    let first = (c.in_ok-header.ensures {u = tt}).found image is in
    let tiled = (c.in_ok-tiles.ensures {u = tt}).found image after1 in
    let attached = (c.in_ok-attached.ensures {u = tt}).found image after2 in
    tells_same _ _ c.in_err-metadata.field-0.0 (after_attachments image h (tiles_of c.in_ok-tiles.tiles) (attachments_of c.in_ok-attached.attached) _ _ first place tiled place2 attached)
    (tells_first _ _ c.in_err-metadata.field-0.0
    (subst (λ (z : ℤ). Tells (metadata_rule image z) c.in_err-metadata.field-0.0) place3 ((c.in_err-metadata.ensures {u = tt}).refused image after3))))

pub returns-clause-found : goal.returns-clause-found
returns-clause-found g c = λ image is.
    let h = file_header_of c.in_ok-header.header in
    let place : to_z w64 (of_z w64 c.in_ok-header.header.file.directory) ≡ c.in_ok-header.header.file.directory = search rules in
    let place2 : to_z w64 (of_z w64 c.in_ok-header.header.file.attachments) ≡ c.in_ok-header.header.file.attachments = search rules in
    let place3 : to_z w64 (of_z w64 c.in_ok-header.header.file.metadata) ≡ c.in_ok-header.header.file.metadata = search rules in
    let after1 = seen_same _ _ Image image c.read_header_at_front.ensures.untouched.same is in
    let after2 = seen_same _ _ Image image c.read_tiles.ensures.untouched.same after1 in
    let after3 = seen_same _ _ Image image c.read_attachments.ensures.untouched.same after2 in
    let first = (c.in_ok-header.ensures {u = tt}).found image is in
    let tiled = (c.in_ok-tiles.ensures {u = tt}).found image after1 in
    let attached = (c.in_ok-attached.ensures {u = tt}).found image after2 in
    after_attachments image h (tiles_of c.in_ok-tiles.tiles) (attachments_of c.in_ok-attached.attached) _ _ first place tiled place2 attached
    ∙ then_ok _ _ _ _ (ap (metadata_rule image) (sym place3) ∙ (c.in_ok-metadata.ensures {u = tt}).found image after3) refl
