use Rattle.std.proofs.Common.{ap, sym, ◌∙◌, length, arith}
use Rattle.czi_image.proofs.Acting.{acted, acted_all, none_left, within_next, within_one}
use Rattle.czi_image.proofs.applying.act_all.Goals as goal

pub act_on-requires-clause-within : goal.act_on-requires-clause-within
act_on-requires-clause-within g c =
    let left = c.in-Some.ensures.steps.0 in
    let w = rw left at c.loop-act.invariant.within in
    within_one c.in-Some.act c.next.new.self.rest.items (length c.loop-act.items.items) w

pub act_on-requires-clause-room : goal.act_on-requires-clause-room
act_on-requires-clause-room g c = omega (arith, c.loop-act.invariant.room, ap length c.in-Some.ensures.steps.0)

pub loop-act-preserved : goal.loop-act-preserved
loop-act-preserved g c =
    let left = c.in-Some.ensures.steps.0 in
    let within = rw left at c.loop-act.invariant.within in
    let same = rw left at c.loop-act.invariant.acted in
    record {
      acted = ap (acted c.next.new.self.rest.items) c.act_on.ensures.items ∙ same;
      within = rw c.act_on.ensures.items (within_next c.in-Some.act c.next.new.self.rest.items c.loop-act.items.items within);
      room = omega (arith, c.loop-act.invariant.room, ap length left, c.act_on.ensures.len, c.act_on.ensures.capacity);
      capacity = c.act_on.ensures.capacity ∙ c.loop-act.invariant.capacity;
    }

pub returns-clause-items : goal.returns-clause-items
returns-clause-items g c =
    let none = c.in-None.ensures.steps.0 in
    sym (none_left _ c.loop-act.act-iterator.rest.items c.loop-act.items.items c.loop-act.act-iterator.rest.ok.0 none) ∙ (c.loop-act.invariant.acted ∙ sym (acted_all c.args.acts.items c.args.items.now.items c.requires.within))
