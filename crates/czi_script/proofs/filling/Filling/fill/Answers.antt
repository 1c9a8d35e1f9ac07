use Rattle.std.proofs.Common.{◌-◌, ◌+◌, take, sym, ap, ◌∙◌, arith}
use Rattle.czi_script.specs.Filled.{Filled}
use Rattle.czi_script.proofs.Windows.{filled_in}
use Rattle.czi_script.proofs.filling.Filling.fill.Goals as goal

pub returns-in-Ok-clause-added : goal.returns-in-Ok-clause-added
returns-in-Ok-clause-added g c =
    let r = c.self.inside in
    let xs = c.deref_mut.result.now in
    let held = sym (ap (λ (f : Filled). f.bytes) c.self.view_is) ∙ ap (take r.count) (sym c.deref_mut.ensures.value) in
    filled_in r.buffer xs c.take.new.into c.args.self.now.bytes r.count (r.count + c.min.result - r.count) c.in-Ok.more (g.S.Source.input c.args.input.now).left (g.S.Source.input c.take.new.self).left
    (search arith) (search arith) (search arith) (sym c.deref_mut.ensures.len) held (search arith) c.in-Ok.ensures.taken c.take.ensures.told
