use Rattle.std.proofs.Common.{◌≡◌, ◌∙◌, ap, sym, pos, arith, Some, to_z, w64, List, Result, Err}
use Rattle.std.proofs.lemmas.Int.{to_z_pos}
use Rattle.czi_format.specs.Entry.{A1, a1}
use Rattle.czi_format.specs.Refusals.{Refusal, bad_attachment}
use Rattle.czi_att.specs.View.{a1_of}
use Rattle.czi_image.specs.Rules.{a1_rules}
use Rattle.czi_image.proofs.Fronts.{long_a1}
use Rattle.czi_image.proofs.Midway.{midway_next, midway_ends, midway_stops}
use Rattle.czi_image.proofs.entries.take_a1_entries.Goals as goal

pub returns-in_default-clause-refused : goal.returns-in_default-clause-refused
unfolding a1_rules
returns-in_default-clause-refused c =
    let place : to_z w64 c.loop-number.at ≡ pos c.loop-number.at = to_z_pos w64 c.loop-number.at (omega (arith, c.loop-number.invariant.place_is)) in
    midway_stops (λ at. bad_attachment (pos at)) c.loop-number.invariant (omega arith) (sym c.in_default.ensures)
    ∙ ap (λ z. let r : Result (List A1) Refusal = Err (bad_attachment z) in r) (sym place)

pub split_at-requires : goal.split_at-requires
split_at-requires c = long_a1 c.loop-number.rest.now (a1_of c.in-Some.entry) (sym c.in-Some.ensures)

pub loop-number-preserved : goal.loop-number-preserved
loop-number-preserved c =
    let found : a1 c.loop-number.rest.now ≡ Some (a1_of c.in-Some.entry) = sym c.in-Some.ensures in
    rw (c.split_at.ensures.back, c.in_ok-push.ensures.items) (midway_next c.in-Some.entry 128 c.loop-number.invariant (omega arith) found (let same : 128 ≡ 128 = omega arith in same) (long_a1 c.loop-number.rest.now (a1_of c.in-Some.entry) found))

pub returns-clause-found : goal.returns-clause-found
unfolding a1_rules
returns-clause-found c = midway_ends (λ at. bad_attachment (pos at)) c.loop-number.invariant (omega arith)
