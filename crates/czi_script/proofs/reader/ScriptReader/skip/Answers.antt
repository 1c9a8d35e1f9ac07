use Rattle.std.proofs.Common.{◌≡◌, ◌+◌, ◌-◌, ◌++◌, [], length, refl, sym, ap, ◌∙◌, subst, arith, append-nil}
use Rattle.std.proofs.lemmas.Result.{err_from_is_err_and}
use Rattle.czi_script.specs.declared.kind.Kind.TheVariants.{Cut}
use Rattle.czi_script.specs.declared.error.ScriptError.TheVariants.{Fault}
use Rattle.czi_script.specs.Reader.{Reader, IsReader}
use Rattle.czi_script.specs.Pieces.{Fills, Interrupted}
use Rattle.czi_script.proofs.Passing.{SkipTurn, skip_turn, passed_both, passed_none, interrupted_then, fill_stopped, fill_ended}
use Rattle.czi_script.proofs.reader.ScriptReader.skip.Goals as goal

pub returns-then-left-eq0-clause-ok : goal.returns-then-left-eq0-clause-ok
returns-then-left-eq0-clause-ok g c =
    let i = c.self.inside in
    let old : Reader = record { held = i.window; taken = i.taken; commands = i.commands; error = i.error } in
    let new : Reader = record { held = c.use_front.new.self; taken = i.taken; commands = i.commands; error = i.error } in
    let sound : IsReader old = record { counted = c.self.invariant.0; few = c.self.invariant.1 } in
    let v = c.loop-left.invariant in
    let t : SkipTurn c.args.self.now new (g.S.Source.input c.args.input.now).left (g.S.Source.input c.loop-left.input).left c.args.count (c.loop-left.left - c.min-front.result) =
    skip_turn c.args.self.now c.loop-left.self old new _ _ v.passed.0 c.held.result.now c.args.count c.loop-left.left c.min-front.result c.self.view_is sound v.passed.1 v.passed.2 c.min-front.ensures c.held.ensures c.use_front.ensures refl refl refl in
    let none : c.loop-left.left - c.min-front.result ≡ 0 = c.if-left-eq0.true in
    (t.bytes, t.passed, omega (arith, none, t.sized))

pub returns-in_err-fill-clause-stops : goal.returns-in_err-fill-clause-stops
returns-in_err-fill-clause-stops g c =
    let i = c.self.inside in
    let old : Reader = record { held = i.window; taken = i.taken; commands = i.commands; error = i.error } in
    let new : Reader = record { held = c.use_front.new.self; taken = i.taken; commands = i.commands; error = i.error } in
    let sound : IsReader old = record { counted = c.self.invariant.0; few = c.self.invariant.1 } in
    let v = c.loop-left.invariant in
    let t : SkipTurn c.args.self.now new (g.S.Source.input c.args.input.now).left (g.S.Source.input c.loop-left.input).left c.args.count (c.loop-left.left - c.min-front.result) =
    skip_turn c.args.self.now c.loop-left.self old new _ _ v.passed.0 c.held.result.now c.args.count c.loop-left.left c.min-front.result c.self.view_is sound v.passed.1 v.passed.2 c.min-front.ensures c.held.ensures c.use_front.ensures refl refl refl in
    let p = err_from_is_err_and c.from_residual.result c.from_residual.ensures.1 in
    rw (p.1, p.2) (interrupted_then c.args.self.now new c.fill.new.self _ _ _ t.bytes 0 c.args.count c.in_err-fill.field-0.0 t.passed
    (fill_stopped new c.fill.new.self _ _ 0 c.in_err-fill.field-0.0 c.in_err-fill.ensures.stops (t.held c.if-left-eq0.false)) (omega (arith, t.sized)))

pub returns-then-not-branch-clause-stops : goal.returns-then-not-branch-clause-stops
returns-then-not-branch-clause-stops g c =
    let i = c.self.inside in
    let old : Reader = record { held = i.window; taken = i.taken; commands = i.commands; error = i.error } in
    let new : Reader = record { held = c.use_front.new.self; taken = i.taken; commands = i.commands; error = i.error } in
    let sound : IsReader old = record { counted = c.self.invariant.0; few = c.self.invariant.1 } in
    let v = c.loop-left.invariant in
    let t : SkipTurn c.args.self.now new (g.S.Source.input c.args.input.now).left (g.S.Source.input c.loop-left.input).left c.args.count (c.loop-left.left - c.min-front.result) =
    skip_turn c.args.self.now c.loop-left.self old new _ _ v.passed.0 c.held.result.now c.args.count c.loop-left.left c.min-front.result c.self.view_is sound v.passed.1 v.passed.2 c.min-front.ensures c.held.ensures c.use_front.ensures refl refl refl in
    let fills = subst (λ b. Fills new c.fill.new.self (g.S.Source.input c.loop-left.input).left (g.S.Source.input c.fill.new.input).left b) c.if-not-branch.true c.in_ok-fill.ensures.fills in
    subst (Interrupted c.args.self.now c.fill.new.self (g.S.Source.input c.args.input.now).left (g.S.Source.input c.fill.new.input).left c.args.count) (sym c.fault.ensures)
    (interrupted_then c.args.self.now new c.fill.new.self _ _ (g.S.Source.input c.fill.new.input).left t.bytes 0 c.args.count (Fault (c.fill.new.self.commands + 1) Cut) t.passed (fill_ended new c.fill.new.self _ _ 0 fills (t.held c.if-left-eq0.false)) (omega (arith, t.sized)))

pub loop-left-preserved : goal.loop-left-preserved
loop-left-preserved g c =
    let i = c.self.inside in
    let old : Reader = record { held = i.window; taken = i.taken; commands = i.commands; error = i.error } in
    let new : Reader = record { held = c.use_front.new.self; taken = i.taken; commands = i.commands; error = i.error } in
    let sound : IsReader old = record { counted = c.self.invariant.0; few = c.self.invariant.1 } in
    let v = c.loop-left.invariant in
    let e = c.in_ok-fill.ensures in
    let t : SkipTurn c.args.self.now new (g.S.Source.input c.args.input.now).left (g.S.Source.input c.loop-left.input).left c.args.count (c.loop-left.left - c.min-front.result) =
    skip_turn c.args.self.now c.loop-left.self old new _ _ v.passed.0 c.held.result.now c.args.count c.loop-left.left c.min-front.result c.self.view_is sound v.passed.1 v.passed.2 c.min-front.ensures c.held.ensures c.use_front.ensures refl refl refl in
    record {
      passed = (t.bytes ++ [], passed_both c.args.self.now new c.fill.new.self _ _ _ t.bytes [] t.passed (passed_none new c.fill.new.self _ _ e.fills.more e.fills.took), ap (λ l. length l + (c.loop-left.left - c.min-front.result)) (append-nil t.bytes) ∙ t.sized);
      told = e.told ∙ v.told;
      later = search arith;
      no_fault = e.cause ∙ v.no_fault;
    }
