use Rattle.std.proofs.Common.{◌∙◌}
use Rattle.std.proofs.lemmas.Result.{IfOk-weaker}
use Rattle.czi_script.proofs.RegionWords.{spaced_say_none, text_says}
use Rattle.czi_script.proofs.regions.read_region.Goals as goal

pub returns-then-not-are_unspaced : goal.returns-then-not-are_unspaced
returns-then-not-are_unspaced c = spaced_say_none c.args.fields.now c.are_unspaced.result c.are_unspaced.ensures c.if-not-are_unspaced.true

pub returns : goal.returns
returns c = IfOk-weaker c.region_by.result _ _ (λ found is.
    text_says c.args.fields.now c.are_unspaced.result c.are_unspaced.ensures c.if-not-are_unspaced.false c.deref.result.now (c.deref.ensures.value ∙ c.in_ok-text.ensures) found is) c.region_by.ensures
