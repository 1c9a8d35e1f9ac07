use Rattle.czi_opening.proofs.Restoring.{recovered_rests}
use Rattle.czi_commit.specs.Made.{made, step_of}
use Rattle.czi_test_disk.proofs.commit.append.Goals as goal

pub returns-in-Ok-clause-rest : goal.returns-in-Ok-clause-rest
returns-in-Ok-clause-rest g c =
    let p = c.in_ok-planned.planned in
    recovered_rests _ _ (made c.args.file.now.length (step_of c.args.file.now p.region p.plan)) c.in-Ok.ensures.image
