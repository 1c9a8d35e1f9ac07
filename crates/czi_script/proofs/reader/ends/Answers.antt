use Rattle.std.proofs.Common.{◌≤◌, arith}
use Rattle.std.proofs.lemmas.Bool.Decides.{nat_tests}
use Rattle.czi_script.proofs.Windows.{at_end, same_left, goes_on}
use Rattle.czi_script.proofs.reader.ends.Goals as goal

pub returns-in-Ok-eq0-clause-end : goal.returns-in-Ok-eq0-clause-end
returns-in-Ok-eq0-clause-end g c = at_end c.in-Ok-eq0.field-0 c.take.new.into _ _ (omega (arith, c.in-Ok-eq0.field-0-test)) c.in-Ok-eq0.ensures.taken c.take.ensures.told

pub returns-in-Ok-eq0-clause-same : goal.returns-in-Ok-eq0-clause-same
returns-in-Ok-eq0-clause-same g c = same_left c.in-Ok-eq0.field-0 c.take.new.into _ _ (omega (arith, c.in-Ok-eq0.field-0-test)) c.in-Ok-eq0.ensures.taken c.take.ensures.told

pub returns-in-Ok-clause-stops : goal.returns-in-Ok-clause-stops
returns-in-Ok-clause-stops g c =
    let few : c.in-Ok.field-0 ≤ 1 = c.in-Ok.ensures.bound in
    goes_on c.in-Ok.field-0 c.take.new.into _ _ (λ none. grind (arith, nat_tests, none, c.in-Ok.field-0-test)) few c.in-Ok.ensures.taken
