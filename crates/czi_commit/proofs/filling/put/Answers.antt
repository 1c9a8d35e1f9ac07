use Rattle.std.proofs.Common.{[], ◌∷◌}
use Rattle.czi_links.specs.Record.{Bytes}
use Rattle.czi_commit.specs.Filled.{zeros}
use Rattle.czi_commit.proofs.Standing.{fills_then, prefill_keeps}
use Rattle.czi_commit.proofs.Gaps.{free_parts}
use Rattle.czi_commit.proofs.filling.put.Goals as goal

pub returns-clause-moments : goal.returns-clause-moments
returns-clause-moments g c = λ all is view stands counts free.
    let w : Bytes = record { place = c.args.place; bytes = c.args.bytes.now } in
    let parts = free_parts view (zeros c.args.end c.args.place) (w ∷ []) free in
    let m = g.met.R.Rig in
    fills_then g.R.Rig m.counts_now m.only_now c.args.rig.now c.pad.new.rig c.prefill.new.rig all view is stands counts
    (c.pad.ensures.moments all is view stands counts parts.0) c.pad.ensures.other c.pad.ensures.goes_on
    (λ now is_now keeps_now counts_now.
    prefill_keeps g.R.Rig (c.prefill.ensures.moments now is_now view (λ i j o l. (keeps_now i j o l).0) counts_now parts.1.0)
    (c.prefill.ensures.alone now is_now view (λ i j o l. (keeps_now i j o l).0) counts_now (λ i j o l. (keeps_now i j o l).1) parts.1.0))
