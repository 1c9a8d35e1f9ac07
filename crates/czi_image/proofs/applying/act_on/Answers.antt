use Rattle.std.proofs.Common.{◌≡◌, ap, sym, ◌∙◌, arith, take, drop, suc, ◌++◌}
use Rattle.czi_machine.specs.Change.{changed}
use Rattle.czi_image.specs.Change.{act_of}
use Rattle.czi_image.proofs.Acting.{removed_out, set_put, came_in}
use Rattle.czi_image.proofs.applying.act_on.Goals as goal

pub returns-in-Out-clause-items : goal.returns-in-Out-clause-items
returns-in-Out-clause-items g c =
    let here : c.remove.new.self.items ≡ take c.in-Out.i c.args.items.now.items ++ drop (suc c.in-Out.i) c.args.items.now.items = c.remove.ensures.items in
    here ∙ (removed_out c.args.items.now.items c.in-Out.i ∙ ap (λ a. changed (act_of a) c.args.items.now.items) (sym c.in-Out.is))

pub returns-in-Put-clause-items : goal.returns-in-Put-clause-items
returns-in-Put-clause-items g c =
    let within = rw c.in-Put.is at c.requires.within in
    set_put c.args.items.now.items c.in-Put.i c.in-Put.item within.0 ∙ ap (λ a. changed (act_of a) c.args.items.now.items) (sym c.in-Put.is)

pub returns-in-Into-clause-items : goal.returns-in-Into-clause-items
returns-in-Into-clause-items g c =
    came_in c.insert.result c.args.items.now.items c.insert.new.self.items c.in-Into.i c.in-Into.item (c.insert.ensures.succeeds (omega (arith, c.requires.room))) c.insert.ensures.items
    ∙ ap (λ a. changed (act_of a) c.args.items.now.items) (sym c.in-Into.is)
