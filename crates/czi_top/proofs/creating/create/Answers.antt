use Rattle.std.proofs.Common.{◌≡◌, inl, inr, ⊎_elim, rules, length, ap}
use Rattle.czi_rig.specs.declared.file.File.TheVariants as file
use Rattle.czi_rig.specs.Faults.{Faults}
use Rattle.czi_rig.proofs.Known.{goes_then, known_seen}
use Rattle.czi_engine.specs.Creating.{create_device}
use Rattle.czi_session.specs.Stops.{end_device}
use Rattle.czi_session.proofs.Ending.{from_weaker}
use Rattle.czi_top.specs.Creates.{created}
use Rattle.czi_top.proofs.Made.{create_answers, done_ends, done_moments, kept_creates, refuse_ends, refuse_moments}
use Rattle.czi_top.proofs.creating.create.Goals as goal
use Rattle.czi_top.proofs.creating.create.Goals.{in-Ok, in-Err-NotEmpty, in-Err-Memory, in-Err-ImageDevice, in-Err-JournalDevice}

pub returns-clause-ends : goal.returns-clause-ends
unfolding created
returns-clause-ends g c = λ all is.
    let guid = c.args.guid.now in
    let old = g.R.Rig.state c.args.rig.now in
    let mid = g.R.Rig.state c.create.new.rig in
    let image = known_seen old file.Image all is in
    elim c.match-create.branch [
      | in-Ok w ↦ rw (w.rig-is, w.result-is) (done_ends guid all old mid is c.create.ensures.goes_on w.in-Ok.ensures.created c.create.ensures.said w.in-Ok.ensures.rests w.in-Ok.ensures.void
          (g.R.Rig.state w.end_saying.new.rig) w.end_saying.result w.end_saying.ensures.files (w.in-Ok.ensures.length all.image.seen image) w.end_saying.ensures.said)
      | in-Err-NotEmpty w ↦
          let told = rw w.in-Err-NotEmpty.field-0-is at w.in-Err-NotEmpty.ensures.length all.image.seen image in
          rw (w.rig-is, w.result-is) (refuse_ends guid all w.in-Err-NotEmpty.length told.0 told.1 old mid (g.R.Rig.state w.refuse.new.rig) w.refuse.result c.create.ensures.said
          (w.in-Err-NotEmpty.ensures.kept (ap create_device w.in-Err-NotEmpty.field-0-is)) w.refuse.ensures.files w.refuse.ensures.said)
      | in-Err-Memory w ↦ rw (w.rig-is, w.result-is) (w.in-Err-Memory.ensures.kept (ap create_device w.in-Err-Memory.field-0-is), c.create.ensures.said)
      | in-Err-ImageDevice w ↦ rw (w.rig-is, w.result-is) c.create.ensures.said
      | in-Err-JournalDevice w ↦ rw (w.rig-is, w.result-is) c.create.ensures.said
    ]

pub returns-clause-moments : goal.returns-clause-moments
unfolding created
returns-clause-moments g c = λ all is.
    let rig = g.R.Rig in
    let guid = c.args.guid.now in
    let old = c.args.rig.now in
    let mid = c.create.new.rig in
    let sixteen : length guid ≡ 16 = search rules in
    let image = known_seen (rig.state old) file.Image all is in
    elim c.match-create.branch [
      | in-Ok w ↦ rw (w.rig-is, w.result-is) (inr (done_moments rig guid all old mid w.end_saying.new.rig sixteen is c.create.ensures.goes_on w.in-Ok.ensures.created c.create.ensures.said w.in-Ok.ensures.rests
          (w.in-Ok.ensures.length all.image.seen image) (w.in-Ok.ensures.moments all is) w.end_saying.ensures.moments))
      | in-Err-NotEmpty w ↦
          let told = rw w.in-Err-NotEmpty.field-0-is at w.in-Err-NotEmpty.ensures.length all.image.seen image in
          rw (w.rig-is, w.result-is) (inr (refuse_moments guid all w.in-Err-NotEmpty.length told.0 told.1 rig old mid w.refuse.new.rig is (w.in-Err-NotEmpty.ensures.kept (ap create_device w.in-Err-NotEmpty.field-0-is)) c.create.ensures.said
          (rw w.in-Err-NotEmpty.field-0-is at w.in-Err-NotEmpty.ensures.moments all is) w.refuse.ensures.moments))
      | in-Err-Memory w ↦ rw (w.rig-is, w.result-is) (inr (from_weaker rig (kept_creates guid all) (rw w.in-Err-Memory.field-0-is at w.in-Err-Memory.ensures.moments all is)))
      | in-Err-ImageDevice w ↦ rw (w.rig-is, w.result-is) (⊎_elim (λ nothing. inl (nothing, tt)) (λ from. inr (from_weaker rig (λ i j o p. inl p) from)) (rw w.in-Err-ImageDevice.field-0-is at w.in-Err-ImageDevice.ensures.moments all is))
      | in-Err-JournalDevice w ↦ rw (w.rig-is, w.result-is) (⊎_elim (λ nothing. inl (nothing, tt)) (λ from. inr (from_weaker rig (λ i j o p. inl p) from)) (rw w.in-Err-JournalDevice.field-0-is at w.in-Err-JournalDevice.ensures.moments all is))
    ]

pub returns-clause-goes_on : goal.returns-clause-goes_on
returns-clause-goes_on g c =
    let old = g.R.Rig.state c.args.rig.now in
    let mid = g.R.Rig.state c.create.new.rig in
    let went = c.create.ensures.goes_on in
    elim c.match-create.branch [
      | in-Ok w ↦ rw w.rig-is (goes_then old mid (g.R.Rig.state w.end_saying.new.rig) went w.end_saying.ensures.goes_on)
      | in-Err-NotEmpty w ↦ rw w.rig-is (goes_then old mid (g.R.Rig.state w.refuse.new.rig) went w.refuse.ensures.goes_on)
      | in-Err-Memory w ↦ rw w.rig-is went
      | in-Err-ImageDevice w ↦ rw w.rig-is went
      | in-Err-JournalDevice w ↦ rw w.rig-is went
    ]

pub returns-clause-answers : goal.returns-clause-answers
returns-clause-answers g c = λ all is quiet.
    let old = g.R.Rig.state c.args.rig.now in
    let new = g.R.Rig.state c.match-create.rig in
    let cause : Faults (end_device c.match-create.result) old new = search rules in
    create_answers c.args.guid.now all old new c.match-create.result (returns-clause-ends g c all is) cause quiet
