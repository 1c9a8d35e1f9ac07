use Rattle.std.proofs.Common.{refl, subst}
use Rattle.std.specs.Prelude.{Option}
use Rattle.czi_rig.specs.Faults.{Device, Faults}
use Rattle.czi_rig.proofs.Faults.{faults_then}
use Rattle.czi_engine.specs.Creating.{create_device, create_error}
use Rattle.std.proofs.lemmas.Result.{err_from_is_err_and}
use Rattle.czi_format.specs.Empty.{empty_image}
use Rattle.czi_rig.specs.declared.file.File.TheVariants.{Image}
use Rattle.czi_rig.proofs.Known.{known_seen}
use Rattle.czi_engine.specs.declared.engine.Engine.{Engine}
use Rattle.czi_engine.proofs.Created.{begin_moments, creates_from, keeps_from, made_fresh, made_rests, made_so, made_stands, make_moments, same_device}
use Rattle.czi_engine.proofs.engine.Engine.create.Goals as goal

pub returns-in_err-begin-clause-moments : goal.returns-in_err-begin-clause-moments
returns-in_err-begin-clause-moments g c = λ all is.
    let rig = g.R.Rig in
    let p = err_from_is_err_and c.from_residual.result c.from_residual.ensures.1 in
    rw (p.1, p.2) (begin_moments rig g.met.R.Rig.only_now c.args.rig.now c.begin.new.rig all is c.begin.ensures.moments c.begin.ensures.goes_on.later c.begin.ensures.said
    Engine c.args.guid.now c.in_err-begin.field-0.0 c.in_err-begin.ensures.synced)

pub returns-in_err-engine-clause-moments : goal.returns-in_err-engine-clause-moments
returns-in_err-engine-clause-moments g c = λ all is.
    let rig = g.R.Rig in
    let p = err_from_is_err_and c.from_residual-in_err-engine.result c.from_residual-in_err-engine.ensures.1 in
    rw (p.1, p.2) (keeps_from rig g.met.R.Rig.only_now c.args.rig.now c.begin.new.rig all is c.begin.ensures.moments c.begin.ensures.goes_on.later c.begin.ensures.said (c.in_ok-begin.ensures.synced refl))

pub returns-in_err-make-clause-moments : goal.returns-in_err-make-clause-moments
returns-in_err-make-clause-moments g c = λ all is.
    let rig = g.R.Rig in
    let p = err_from_is_err_and c.from_residual-in_err-make.result c.from_residual-in_err-make.ensures.1 in
    rw (p.1, p.2) (make_moments Engine rig c.args.rig.now c.make.new.rig all c.args.guid.now c.in_err-make.field-0.0 c.in_err-make.ensures.device
    (creates_from rig g.met.R.Rig.only_now c.args.rig.now c.begin.new.rig all is c.begin.ensures.moments c.begin.ensures.goes_on.later c.begin.ensures.said
    c.make.new.rig c.args.guid.now (c.in_ok-begin.ensures.synced refl) (c.in_ok-begin.ensures.length all.image.seen (known_seen (rig.state c.args.rig.now) Image all is)) c.make.ensures.moments))

pub returns-clause-moments : goal.returns-clause-moments
returns-clause-moments g c = λ all is.
    let rig = g.R.Rig in
    creates_from rig g.met.R.Rig.only_now c.args.rig.now c.begin.new.rig all is c.begin.ensures.moments c.begin.ensures.goes_on.later c.begin.ensures.said
    c.make.new.rig c.args.guid.now (c.in_ok-begin.ensures.synced refl) (c.in_ok-begin.ensures.length all.image.seen (known_seen (rig.state c.args.rig.now) Image all is)) c.make.ensures.moments

pub returns-clause-rests : goal.returns-clause-rests
returns-clause-rests g c =
    let rig = g.R.Rig in
    made_rests (rig.state c.make.new.rig) (empty_image c.args.guid.now) (made_so (rig.state c.begin.new.rig) (rig.state c.make.new.rig) (empty_image c.args.guid.now) c.in_ok-make.ensures.made) c.in_ok-make.ensures.void c.in_ok-make.ensures.synced

pub returns-clause-stands : goal.returns-clause-stands
returns-clause-stands g c =
    let rig = g.R.Rig in
    let o = c.in_ok-engine.ensures.of in
    made_stands (rig.state c.make.new.rig) (empty_image c.args.guid.now) (made_so (rig.state c.begin.new.rig) (rig.state c.make.new.rig) (empty_image c.args.guid.now) c.in_ok-make.ensures.made) c.in_ok-make.ensures.void c.in_ok-make.ensures.synced
    o.0 c.in_ok-engine.engine.state o.1 o.2 o.3

pub returns-clause-fresh : goal.returns-clause-fresh
returns-clause-fresh g c =
    let rig = g.R.Rig in
    let o = c.in_ok-engine.ensures.of in
    made_fresh (rig.state c.make.new.rig) (empty_image c.args.guid.now) (made_so (rig.state c.begin.new.rig) (rig.state c.make.new.rig) (empty_image c.args.guid.now) c.in_ok-make.ensures.made) c.in_ok-make.ensures.void c.in_ok-make.ensures.synced
    o.0 c.in_ok-engine.engine.state o.1 o.2 o.3

pub returns-in_err-make-clause-cause : goal.returns-in_err-make-clause-cause
returns-in_err-make-clause-cause g c =
    let rig = g.R.Rig in
    let p = err_from_is_err_and c.from_residual-in_err-make.result c.from_residual-in_err-make.ensures.1 in
    rw (p.1, p.2) (faults_then (create_device (create_error c.in_err-make.field-0.0)) (rig.state c.args.rig.now) (rig.state c.begin.new.rig) (rig.state c.make.new.rig) c.in_ok-begin.ensures.cause
    (subst (λ (at : Option Device). Faults at (rig.state c.begin.new.rig) (rig.state c.make.new.rig)) (same_device c.in_err-make.field-0.0) c.in_err-make.ensures.cause))
