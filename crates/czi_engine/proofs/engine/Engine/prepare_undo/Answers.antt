use Rattle.std.proofs.Common.{◌≡◌, ◌∙◌, ℕ, suc, ◌+◌, ◌∷◌, drop, length, refl, ap, sym, subst, arith, vec_len}
use Rattle.std.proofs.lemmas.List.{length-map}
use Rattle.czi_num.specs.Span.{span_of}
use Rattle.czi_region.specs.Pieces.{bytes_put, room}
use Rattle.czi_undo.specs.declared.inverse.Inverse.{Inverse}
use Rattle.czi_engine.specs.UndoMemory.{CanGoOn, HasMemoryToUndo}
use Rattle.czi_engine.proofs.Fitting.{its_map}
use Rattle.czi_engine.proofs.Going.{before_here}
use Rattle.czi_engine.proofs.Newest.{few_left, first_is, no_place_to_undo, nothing_to_undo, means_by}
use Rattle.czi_engine.proofs.Room.{follows, goes_on}
use Rattle.czi_engine.proofs.engine.Engine.prepare_undo.Goals as goal

pub newest_of-requires : goal.newest_of-requires
newest_of-requires c = record { of_index = its_map c.args.self.now.state c.requires.own_map c.requires.few.whole }

pub plan-requires-clause-of_index : goal.plan-requires-clause-of_index
plan-requires-clause-of_index c = its_map c.args.self.now.state c.requires.own_map c.requires.few.whole

pub returns-in_default : goal.returns-in_default
returns-in_default c =
    let x = c.args.self.now.state in
    let here = before_here x in
    record {
      same = record { journal = refl; index = here.index; map = here.map; edits = refl; number = refl };
      ready = tt;
      refusal = (record { journal = refl; index = here.index; map = here.map; edits = refl; number = refl; down = refl }, refl, λ start bytes live s has. nothing_to_undo x c.in_default.ensures c.requires.own_map c.requires.few.whole start bytes live s has);
    }

pub returns-in_err-plan : goal.returns-in_err-plan
returns-in_err-plan c =
    let x = c.args.self.now.state in
    let here = before_here x in
    no_place_to_undo c.args.self.now _ c.from_residual.result c.in-Some.inverse.now c.in_err-plan.field-0.0
    (record { journal = refl; index = here.index; map = here.map; edits = refl; number = refl; down = refl }) c.requires.own_map c.requires.few.whole
    (first_is x.edits c.in-Some.inverse.now (sym c.in-Some.ensures.0)) (c.in_err-plan.ensures {u = tt}).refusal c.from_residual.ensures.1

pub returns : goal.returns
returns c =
    let x = c.args.self.now.state in
    let here = before_here x in
    let u = c.plan.new.self in
    let r = c.plan.new.region in
    let p = c.in_ok-plan.plan in
    let i : Inverse = c.in-Some.inverse.now in
    let others : ℕ = length (drop 1 x.edits) in
    let newest : x.edits ≡ i ∷ drop 1 x.edits = first_is x.edits i (sym c.in-Some.ensures.0) in
    let many : length x.edits ≡ suc others = ap length newest in
    let own = c.requires.own_map in
    let e = c.in_ok-plan.ensures {u = tt} in
    let has : HasMemoryToUndo (suc others) x.index x.map (vec_len x.undos.plans) (room x.undos.region) =
    subst (λ (n : ℕ). HasMemoryToUndo n x.index x.map (vec_len x.undos.plans) (room x.undos.region)) many (x.ready c.requires.up (omega (arith, many))) in
    let can : CanGoOn others x.index x.map p (vec_len u.plans) (room r + length (bytes_put r)) = goes_on others x.index x.map p (vec_len x.undos.plans) (room x.undos.region) (vec_len u.plans) (room r + length (bytes_put r))
    e.brief has (ap length own.extents ∙ length-map x.index.extents.items span_of) (omega (arith, e.plans)) (omega (arith, e.size)) in
    record {
      same = record { journal = refl; index = here.index; map = here.map; edits = refl; number = refl };
      ready = (
        record {
          plan = e.plan;
          memory = follows others _ p (vec_len u.plans) (room r + length (bytes_put r)) can;
          few = few_left x.edits c.requires.few;
          means = λ start bytes live s there. means_by i (drop 1 x.edits) newest own c.requires.few.whole start bytes live s there refl e.undoes;
        },
        record { others = others; one = omega (arith, many); memory = can },
      );
      refusal = tt;
    }
