use Rattle.std.proofs.Common.{◌≡◌, ◌∙◌, ap, sym, pos, arith, to_z, w64, List, Result, Err}
use Rattle.std.proofs.lemmas.Int.{to_z_pos}
use Rattle.czi_format.specs.Entry.{Entry}
use Rattle.czi_format.specs.Refusals.{Refusal, bad_entry}
use Rattle.czi_image.specs.Rules.{entry_rules}
use Rattle.czi_image.specs.Entries.{ReadsEntry}
use Rattle.czi_image.proofs.Midway.{midway_next, midway_ends, midway_stops}
use Rattle.czi_image.proofs.entries.take_entries.Goals as goal

pub returns-in-None-clause-refused : goal.returns-in-None-clause-refused
unfolding entry_rules
returns-in-None-clause-refused c =
    let place : to_z w64 c.loop-number.at ≡ pos c.loop-number.at = to_z_pos w64 c.loop-number.at (omega (arith, c.loop-number.invariant.place_is)) in
    midway_stops (λ at. bad_entry (pos at)) c.loop-number.invariant (omega arith) (rw c.in-None.is at c.in_ok-entry.ensures)
    ∙ ap (λ z. let r : Result (List Entry) Refusal = Err (bad_entry z) in r) (sym place)

pub loop-number-preserved : goal.loop-number-preserved
loop-number-preserved c =
    let one : ReadsEntry c.loop-number.rest.now c.in-Some.entry c.in-Some.len = rw (c.in-Some.is, c.in-Some.entry-is, c.in-Some.len-is) at c.in_ok-entry.ensures in
    rw (c.split_at.ensures.back, c.in_ok-push-in-Some.ensures.items) (midway_next c.in-Some.entry c.in-Some.len c.loop-number.invariant (omega arith) one.read one.len_is one.fits)

pub returns-clause-found : goal.returns-clause-found
unfolding entry_rules
returns-clause-found c = midway_ends (λ at. bad_entry (pos at)) c.loop-number.invariant (omega arith)
