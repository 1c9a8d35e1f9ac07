use Rattle.std.proofs.Common.{ℕ, List, length, ◌≤◌, ◌∙◌, subst, sym, arith}
use Rattle.std.proofs.lemmas.Option.{same_Some}
use Rattle.czi_test_image.proofs.walks.survey_of.Goals as goal

pub walk_and_mark-requires-clause-in_image : goal.walk_and_mark-requires-clause-in_image
walk_and_mark-requires-clause-in_image g c = λ image is. record {
  long = subst (λ (l : List ℕ). length c.content.result.now ≤ length l) (same_Some c.content.result.now image (sym c.content.ensures ∙ is)) (omega arith);
  stand = tt;
}
