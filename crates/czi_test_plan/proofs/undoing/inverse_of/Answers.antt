use Rattle.czi_test_plan.proofs.undoing.inverse_of.Goals as goal

pub returns : goal.returns
returns c = record { part = c.in-Some.part; only = c.in_ok-inverse.ensures.0; fits = c.in-Some.ensures }
