use Rattle.std.proofs.Common.{◌∙◌, ◌+◌, ap, refl, Some}
use Rattle.std.proofs.lemmas.Result.{err_from_is_err_and}
use Rattle.czi_rig.specs.declared.file.File.TheVariants.{Image}
use Rattle.czi_image.specs.Rules.{a1_rules, item_rules}
use Rattle.czi_image.specs.View.{directory_of}
use Rattle.czi_image.proofs.Stages.{attached_first, a1s_in_window, then_ok}
use Rattle.czi_image.proofs.Told.{ok_weaker, err_weaker, tells_first, tells_same, seen_same}
use Rattle.czi_image.proofs.attachments.read_attached.Goals as goal

pub returns-in_err-entries-clause-refused : goal.returns-in_err-entries-clause-refused
returns-in_err-entries-clause-refused g c =
    let p = err_from_is_err_and c.from_residual-in_err-entries.result c.from_residual-in_err-entries.ensures.1 in
    rw (p.1, p.2) (λ image is.
    let d = directory_of c.args.directory.now in
    let same = ap (a1_rules d.count (d.segment.at + 288)) c.deref.ensures.value ∙ a1s_in_window image c.in_ok-bytes.bytes.items d (c.in_ok-bytes.ensures.bytes image is) c.requires.within.roomy in
    tells_same _ _ c.in_err-entries.field-0.0 (attached_first image (Some d) _ same) (tells_first _ (item_rules image) c.in_err-entries.field-0.0 (c.in_err-entries.ensures {u = tt}).refused))

pub returns-clause-found : goal.returns-clause-found
returns-clause-found g c = ok_weaker c.read_each.result _ _ (λ found e image is.
    let d = directory_of c.args.directory.now in
    let same = ap (a1_rules d.count (d.segment.at + 288)) c.deref.ensures.value ∙ a1s_in_window image c.in_ok-bytes.bytes.items d (c.in_ok-bytes.ensures.bytes image is) c.requires.within.roomy in
    attached_first image (Some d) _ same ∙ then_ok _ (item_rules image) _ _ (c.in_ok-entries.ensures {u = tt}).found (e image (seen_same _ _ Image image c.read_a1_entries.ensures.untouched.same is)))
    c.read_each.ensures.found

pub returns-clause-refused : goal.returns-clause-refused
returns-clause-refused g c = err_weaker c.read_each.result _ _ (λ f t image is.
    let d = directory_of c.args.directory.now in
    let same = ap (a1_rules d.count (d.segment.at + 288)) c.deref.ensures.value ∙ a1s_in_window image c.in_ok-bytes.bytes.items d (c.in_ok-bytes.ensures.bytes image is) c.requires.within.roomy in
    tells_same _ _ f (attached_first image (Some d) _ same ∙ then_ok _ (item_rules image) _ _ (c.in_ok-entries.ensures {u = tt}).found refl)
    (t image (seen_same _ _ Image image c.read_a1_entries.ensures.untouched.same is)))
    c.read_each.ensures.refused
