use Rattle.std.proofs.Common.{◌≡◌, ◌∙◌, ap, sym, rules, ℤ, Option, Result, Err, to_z, of_z, w64}
use Rattle.czi_format.specs.Segment.{in_segment, metadata_id}
use Rattle.czi_format.specs.Live.{MetaItem, meta_item}
use Rattle.czi_format.specs.Refusals.{Refusal, bad_segment}
use Rattle.czi_image.specs.View.{meta_item_of}
use Rattle.czi_image.proofs.Stages.{no_metadata, some_metadata, bad_metadata}
use Rattle.czi_image.proofs.metadata.read_metadata.Goals as goal

pub returns-then-position-eq0-clause-found : goal.returns-then-position-eq0-clause-found
returns-then-position-eq0-clause-found g c = λ image is.
    let place : to_z w64 (of_z w64 c.args.position) ≡ c.args.position = search rules in
    no_metadata image c.args.position (sym place ∙ ap (to_z w64) c.if-position-eq0.true)

pub returns-in-Ok-Some-clause-found : goal.returns-in-Ok-Some-clause-found
returns-in-Ok-Some-clause-found g c = λ image is.
    let place : to_z w64 (of_z w64 c.args.position) ≡ c.args.position = search rules in
    some_metadata image c.args.position (meta_item_of c.in-Ok-Some.item) (λ e. c.if-position-eq0.false (ap (of_z w64) e))
    ((rw (c.in-Ok-Some.field-0-is, c.in-Ok-Some.item-is) at c.in-Ok-Some.ensures.found) image is ∙ ap (λ (z : ℤ). in_segment image metadata_id z meta_item) place)

pub returns-in-Ok-None-clause-refused : goal.returns-in-Ok-None-clause-refused
returns-in-Ok-None-clause-refused g c = λ image is.
    let place : to_z w64 (of_z w64 c.args.position) ≡ c.args.position = search rules in
    bad_metadata image c.args.position (λ e. c.if-position-eq0.false (ap (of_z w64) e))
    ((rw c.in-Ok-None.field-0-is at c.in-Ok-None.ensures.found) image is ∙ ap (λ (z : ℤ). in_segment image metadata_id z meta_item) place)
    ∙ ap (λ (z : ℤ). let r : Result (Option MetaItem) Refusal = Err (bad_segment z) in r) (sym place)
