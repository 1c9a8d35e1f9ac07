use Rattle.std.proofs.Common.{◌∙◌, ◌≤◌, length, ap, sym, subst}
use Rattle.std.specs.Option.{ForSome}
use Rattle.czi_opening.specs.Answers.{IsJournal}
use Rattle.czi_rig.specs.declared.file.File.TheVariants.{Journal}
use Rattle.czi_rig.specs.Disk.{Everywhere}
use Rattle.czi_rig.specs.State.{known}
use Rattle.std.specs.Prelude.{Option}
use Rattle.czi_rig.specs.Faults.{Device, Faults}
use Rattle.czi_engine.specs.Devices.{device_in, edit_fault, is_device}
use Rattle.czi_engine.specs.Prepared.{edits_after}
use Rattle.czi_engine.specs.Standing.{TakeOneBack}
use Rattle.czi_engine.proofs.Same.{changed_carried, edits_carried, extents_carried, map_carried, memory_carried, number_carried, plan_carried}
use Rattle.czi_engine.proofs.OnRig.{edited_err, edited_ok, failed_at_device, failed_device}
use Rattle.czi_engine.proofs.engine.Engine.commit.Goals as goal

pub take_over-requires-clause-plan : goal.take_over-requires-clause-plan
take_over-requires-clause-plan g c = plan_carried c.args.self.now c.commit_prepared.new.self c.commit_prepared.ensures.kept c.requires.prepared.1.plan

pub take_over-requires-clause-memory : goal.take_over-requires-clause-memory
take_over-requires-clause-memory g c = memory_carried c.args.self.now c.commit_prepared.new.self c.commit_prepared.ensures.kept c.requires.prepared.1.memory

pub take_over-requires-clause-own_map : goal.take_over-requires-clause-own_map
take_over-requires-clause-own_map g c = map_carried c.args.self.now c.commit_prepared.new.self c.commit_prepared.ensures.kept c.requires.stands.own_map

pub take_over-requires-clause-few : goal.take_over-requires-clause-few
take_over-requires-clause-few g c = subst (λ is. length is ≤ 32) (sym c.commit_prepared.ensures.kept.edits) c.requires.stands.few.few

pub take_over-requires-clause-ones : goal.take_over-requires-clause-ones
take_over-requires-clause-ones g c = (c.requires.prepared.1.few.ones.0, subst TakeOneBack (sym c.commit_prepared.ensures.kept.edits) c.requires.stands.few.ones)

pub returns-in-Ok : goal.returns-in-Ok
returns-in-Ok g c = λ go p.
    let x = c.args.self.now in
    let z = c.commit_prepared.new.self in
    let y = c.take_over.new.self.state in
    let k = c.commit_prepared.ensures.kept in
    let a = c.take_over.ensures in
    let e = c.commit_prepared.ensures in
    edited_ok edit_fault g.R.Rig c.args.rig.now c.commit_prepared.new.rig x go (edits_after c.args.inverse x.state) p c.requires.stands e.moments g.met.R.Rig.only_now e.said e.goes_on y (changed_carried x z k y a.index) (extents_carried x z k y a.extents) a.own_map (edits_carried x z k y c.args.inverse a.edits)
    (number_carried x z k y a.number) a.up c.in-Ok.ensures.image c.in-Ok.ensures.committed
    (subst (λ j. ForSome (known (g.R.Rig.state c.commit_prepared.new.rig) Journal) (Everywhere (IsJournal j))) (sym a.journal) c.in-Ok.ensures.journal) (ap (λ j. j.armed) a.journal ∙ c.in-Ok.ensures.armed) c.in-Ok.ensures.cause

pub returns-in-Err : goal.returns-in-Err
returns-in-Err g c = λ go p.
    let e = c.commit_prepared.ensures in
    let told = c.from.ensures in
    edited_err edit_fault g.R.Rig c.args.rig.now c.commit_prepared.new.rig c.args.self.now go (edits_after c.args.inverse c.args.self.now.state) p c.requires.stands e.moments g.met.R.Rig.only_now e.said e.goes_on c.commit_prepared.new.self.state c.from.result
    (ap (λ z. is_device (edit_fault z)) told ∙ failed_device c.in-Err.fault) e.down
    (subst (λ (at : Option Device). Faults at (g.R.Rig.state c.args.rig.now) (g.R.Rig.state c.commit_prepared.new.rig)) (failed_at_device c.in-Err.fault ∙ ap (λ z. device_in (edit_fault z)) (sym told)) c.in-Err.ensures.cause)
