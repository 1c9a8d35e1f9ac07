use Rattle.std.proofs.Common.{ℕ, List, ◌∷◌, take, refl, sym, subst}
use Rattle.czi_format.specs.Live.{Live}
use Rattle.czi_machine.specs.Edit.{DocumentEffect}
use Rattle.czi_machine.specs.Machine.{after_edit}
use Rattle.czi_machine.specs.State.{State}
use Rattle.czi_plan.specs.Does.{Does}
use Rattle.czi_plan.specs.Plan.{IsPlan}
use Rattle.czi_undo.specs.declared.inverse.Inverse.{Inverse}
use Rattle.czi_engine.specs.Prepared.{GoesBy, edits_after}
use Rattle.czi_engine.specs.Standing.{FewKept, HasState, Origin}
use Rattle.czi_engine.specs.Tasks.{effect_of}
use Rattle.czi_engine.specs.declared.engine.Engine.{Engine}
use Rattle.czi_engine.specs.declared.engine.Scratch.{Scratch}
use Rattle.czi_engine.proofs.Fitting.{its_map}
use Rattle.czi_engine.proofs.Inverting.{few_after}
use Rattle.czi_engine.proofs.Going.{before_here, prepared_after}
use Rattle.czi_engine.proofs.Planned.{no_plan, plan_means}
use Rattle.czi_engine.proofs.engine.Engine.prepare.Goals as goal

pub plan-requires-clause-of_index : goal.plan-requires-clause-of_index
plan-requires-clause-of_index c = its_map c.args.self.now.state c.requires.own_map c.requires.few.whole

pub returns-in_err-plan : goal.returns-in_err-plan
returns-in_err-plan c =
    let x = c.args.self.now in
    λ edit means. no_plan x _ edit (effect_of c.args.task x.state.index) c.from_residual.result c.in_err-plan.field-0.0 (before_here x.state) c.requires.own_map means (c.in_err-plan.ensures {u = tt}).full c.from_residual.ensures.1

pub returns : goal.returns
returns c =
    let x = c.args.self.now in
    let y = c.take_memory.new.self in
    let effect : DocumentEffect = effect_of c.args.task x.state.index in
    let e = c.in_ok-plan.ensures {u = tt} in
    let m = c.in_ok-take_memory.ensures {u = tt} in
    let z : Engine = record { state = x.state; scratch = y.scratch } in
    let plan = subst (λ (k : Scratch). IsPlan x.state.index x.state.map k.region k.plan) (sym m.scratch) e.plan in
    let does = subst (λ (k : Scratch). Does x.state.index x.state.map k.region k.plan effect) (sym m.scratch) e.does in
    let undoes = c.in_ok-inverse.ensures {u = tt} in
    let i : Inverse = c.in_ok-inverse.inverse in
    λ edit means. record {
      same = m.same;
      ready = (
        prepared_after (λ s. after_edit s edit) z y (edits_after i y.state) m.same refl m.memory (subst (λ is. FewKept (i ∷ take 31 is)) (sym m.same.edits) (few_after x.state c.args.task i undoes c.requires.few)) plan
            (subst (λ is. (o : Origin) (bytes : List ℕ) (live : Live) (s : State) → HasState o bytes live s x.state → GoesBy (λ s. after_edit s edit) bytes live s z (i ∷ take 31 is)) (sym m.same.edits)
            (plan_means z edit c.args.task i c.requires.own_map undoes means plan does)),
        m.keeps,
      );
      refusal = tt;
    }
