use Rattle.std.proofs.Common.{◌∙◌, drop, ap, sym, subst}
use Rattle.std.specs.Prelude.{Option}
use Rattle.std.specs.Option.{ForSome}
use Rattle.czi_machine.specs.Machine.{after_undo}
use Rattle.czi_opening.specs.Answers.{IsJournal}
use Rattle.czi_rig.specs.declared.file.File.TheVariants.{Journal}
use Rattle.czi_rig.specs.Disk.{Everywhere}
use Rattle.czi_rig.specs.Faults.{Device, Faults}
use Rattle.czi_rig.specs.State.{known}
use Rattle.czi_engine.specs.Devices.{undo_fault}
use Rattle.czi_engine.specs.Editing.{undo_error_of}
use Rattle.czi_engine.proofs.OnRig.{answered, edited_down, edited_err, edited_none, edited_ok, edited_up, undo_failed_at_device, undo_failed_device}
use Rattle.czi_engine.proofs.Same.{changed_carried, extents_carried, number_carried, stays_stands}
use Rattle.czi_engine.proofs.engine.Engine.undo.Goals as goal

pub returns-in_err-prepare_undo : goal.returns-in_err-prepare_undo
returns-in_err-prepare_undo g c =
    let x = c.args.self.now.state in
    let z = c.prepare_undo.new.self.state in
    let none = c.in_err-prepare_undo.ensures.refusal in
    let error = c.in_err-prepare_undo.field-0.0 in
    answered undo_fault g.R.Rig c.args.rig.now c.args.rig.now x z after_undo error c.from_residual.result c.from_residual.ensures.1
    (edited_none undo_fault g.R.Rig c.args.rig.now g.met.R.Rig.only_now c.requires.stands.itself x z after_undo error c.requires.up none.1 none.0 none.2)

pub commit_prepared-requires-clause-stands : goal.commit_prepared-requires-clause-stands
commit_prepared-requires-clause-stands g c = stays_stands c.args.self.now.state c.prepare_undo.new.self.state c.prepare_undo.ensures.same (g.R.Rig.state c.args.rig.now) c.requires.stands

pub returns-in_err-commit_prepared : goal.returns-in_err-commit_prepared
returns-in_err-commit_prepared g c =
    let x = c.args.self.now.state in
    let z = c.prepare_undo.new.self in
    let y = c.commit_prepared.new.self.state in
    let old = c.args.rig.now in
    let new = c.commit_prepared.new.rig in
    let ready = c.in_ok-prepare_undo.ensures.ready in
    let on = stays_stands x z.state c.prepare_undo.ensures.same (g.R.Rig.state old) c.requires.stands in
    let e = c.commit_prepared.ensures in
    let fault = c.in_err-commit_prepared.field-0.0 in
    let error = undo_error_of fault in
    let failed = edited_err undo_fault g.R.Rig old new z after_undo (drop 1 z.state.edits) ready.0 on e.moments g.met.R.Rig.only_now e.said e.goes_on y error (undo_failed_device fault) e.down
    (subst (λ (at : Option Device). Faults at (g.R.Rig.state old) (g.R.Rig.state new)) (undo_failed_at_device fault) (c.in_err-commit_prepared.ensures {u = tt}).cause) in
    answered undo_fault g.R.Rig old new x y after_undo error c.from_residual-in_err-commit_prepared.result c.from_residual-in_err-commit_prepared.ensures.1
    (edited_down undo_fault g.R.Rig old new x z.state y after_undo error (undo_failed_device fault) c.prepare_undo.ensures.same failed)

pub returns : goal.returns
returns g c =
    let x = c.args.self.now.state in
    let z = c.prepare_undo.new.self in
    let w = c.commit_prepared.new.self in
    let y = c.take_back.new.self.state in
    let old = c.args.rig.now in
    let new = c.commit_prepared.new.rig in
    let ready = c.in_ok-prepare_undo.ensures.ready in
    let on = stays_stands x z.state c.prepare_undo.ensures.same (g.R.Rig.state old) c.requires.stands in
    let e = c.commit_prepared.ensures in
    let f = c.in_ok-commit_prepared.ensures {u = tt} in
    let k = e.kept in
    let a = c.take_back.ensures in
    edited_up undo_fault g.R.Rig old new x z.state y after_undo y.number c.prepare_undo.ensures.same
    (edited_ok undo_fault g.R.Rig old new z after_undo (drop 1 z.state.edits) ready.0 on e.moments g.met.R.Rig.only_now e.said e.goes_on y (changed_carried z w k y a.index) (extents_carried z w k y a.extents) a.own_map (a.edits ∙ ap (drop 1) k.edits)
    (number_carried z w k y a.number) a.up f.image f.committed
    (subst (λ j. ForSome (known (g.R.Rig.state new) Journal) (Everywhere (IsJournal j))) (sym a.journal) f.journal) (ap (λ j. j.armed) a.journal ∙ f.armed) f.cause)
