use Rattle.std.proofs.Common.{◌≡◌, ◌++◌, ◌≤◌, length, take, drop, reverse, arith}
use Rattle.std.proofs.lemmas.List.{take_all}
use Rattle.czi_rig.specs.Crash.{disk_in}
use Rattle.czi_rig.proofs.Crashes.{reverse_more, first_is, fill_first, fill_more, fill_left, written_back}
use Rattle.czi_rig.proofs.replay.Replayed.fill.Goals as goal
use Rattle.czi_rig.proofs.replay.Replayed.fill.Goals.{then-long, else-long}

pub loop-at-init : goal.loop-at-init
loop-at-init c =
    let file = (disk_in c.args.self.now).durable in
    let low : c.args.self.now.least ≤ c.if-long.len = elim c.if-long.branch [ then-long w ↦ omega (arith, c.requires.new.no_shorter, c.requires.new.no_longer) | else-long w ↦ omega arith ] in
    fill_first c.args.byte c.if-long.len file c.resize.new.self.items (c.ranges.byte.fits) c.requires.old.bytes c.requires.old.no_shorter low
    (first_is c.args.self.now.least c.if-long.len _ c.args.byte c.in_ok-left.left.items c.args.self.now.synced.items c.deref.result.now c.resize.new.self.items c.in_ok-resize.ensures.items (c.in_ok-left.left.ok.0) c.in_ok-left.ensures.items c.deref.ensures.value)

pub loop-at-preserved : goal.loop-at-preserved
loop-at-preserved c =
    let file = (disk_in c.args.self.now).durable in
    let ranges = c.args.self.now.written.items in
    let i = c.loop-at.at-index in
    let new = c.paint.new.content in
    let old = c.loop-at.left.items in
    let back : take c.loop-at.left.len (new ++ drop (length new) old) ≡ new = written_back c.loop-at.left.len new old (omega (arith, c.paint.ensures.len, c.deref_mut.ensures.len, c.loop-at.left.ok.0)) (omega (arith, c.loop-at.left.ok.0)) in
    rw (back, reverse_more ranges i (0, 0) (omega (arith, c.loop-at-test.true, c.deref-at-items.ensures.len)))
    (fill_more c.args.byte c.if-long.len file (reverse (take i ranges)) _ _ old new c.ranges.byte.fits c.loop-at.invariant (rw (c.deref-at-items.ensures.value, c.deref_mut.ensures.value) at c.paint.ensures))

pub returns-clause-left : goal.returns-clause-left
returns-clause-left c =
    let file = (disk_in c.args.self.now).durable in
    let ranges = c.args.self.now.written.items in
    let all : take c.loop-at.at-index ranges ≡ ranges = take_all c.loop-at.at-index ranges (omega (arith, c.loop-at-test.false, c.deref-at-items.ensures.len)) in
    fill_left c.args.byte c.if-long.len file c.loop-at.left.items (rw all at c.loop-at.invariant)
    (elim c.if-long.branch [ then-long w ↦ omega (arith, c.requires.new.no_shorter, c.requires.new.no_longer) | else-long w ↦ omega arith ])
    (elim c.if-long.branch [ then-long w ↦ omega arith | else-long w ↦ omega (arith, c.requires.new.no_shorter, c.requires.new.no_longer) ])
