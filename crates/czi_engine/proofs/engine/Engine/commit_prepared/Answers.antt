use Rattle.std.proofs.Common.{◌∙◌, ℕ, List, sym, subst}
use Rattle.czi_commit.specs.Made.{Fits, step_of}
use Rattle.czi_engine.proofs.Fitting.{fits_step, image_guid, image_length}
use Rattle.czi_engine.proofs.engine.Engine.commit_prepared.Goals as goal

pub carry_out-requires-clause-ready : goal.carry_out-requires-clause-ready
carry_out-requires-clause-ready g c =
    let x = c.args.self.now.state in
    let on = c.requires.stands in
    record {
      rest = on.image;
      whole = λ seen is. let some = on.state seen is in image_length some.start seen some.live some.state x some.has;
      guid = λ seen is. let some = on.state seen is in image_guid some.start seen some.live some.state x some.has ∙ sym c.guid.ensures;
      journal = on.armed;
      idle = on.idle;
      staged = c.requires.plan.staged;
      fits = subst (λ (guid : List ℕ). Fits x.index.length (step_of (record { guid = guid; length = x.index.length }) c.args.self.now.scratch.region c.args.self.now.scratch.plan)) (sym c.guid.ensures)
          (fits_step x c.args.self.now.scratch.region c.args.self.now.scratch.plan on.own_map c.requires.plan);
    }
