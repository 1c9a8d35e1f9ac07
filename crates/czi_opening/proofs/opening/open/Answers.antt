use Rattle.czi_opening.specs.Course.{Stays}
use Rattle.std.proofs.Common.{refl}
use Rattle.czi_opening.proofs.Standing.{both_rest, from_synced, opens_from, rest_stays}
use Rattle.czi_opening.proofs.Restoring.{synced_devices}
use Rattle.czi_opening.proofs.opening.open.Goals as goal

pub returns-clause-moments : goal.returns-clause-moments
returns-clause-moments g c = λ all is.
    let rig = g.R.Rig in
    let first = c.args.rig.now in
    let mid = c.sync_both.new.rig in
    let ok = c.in_ok-sync_both.ensures in
    let now = synced_devices (rig.state first) (rig.state mid) all is ok.image ok.journal c.sync_both.ensures.said in
    opens_from rig first c.open_synced.new.rig (Stays all) c.open_synced.result
    (from_synced rig first mid c.open_synced.new.rig all (Stays all) g.met.R.Rig.only_now is c.sync_both.ensures.moments c.sync_both.ensures.goes_on.later now
    (rest_stays (both_rest all) refl refl) (c.open_synced.ensures.moments _ now))
