use Rattle.std.proofs.Common.{List, [], ◌∷◌, ap, sym, ◌∙◌, length, map, arith, subst}
use Rattle.czi_machine.specs.Change.{changed}
use Rattle.czi_image.specs.Change.{AreWithin, act_of}
use Rattle.czi_image.specs.Summary.{Sums}
use Rattle.czi_image.specs.View.{tile_of}
use Rattle.czi_image.specs.declared.types.Tile.{Tile}
use Rattle.czi_image.proofs.Acting.{acted, acted_all, none_left, within_next, within_one}
use Rattle.czi_image.proofs.applying.act_on_tiles.Goals as goal

pub act-requires-clause-within : goal.act-requires-clause-within
act-requires-clause-within c =
    let w = rw c.in-Some.ensures.steps.0 at c.loop-act.invariant.within in
    subst (λ (tiles : List Tile). AreWithin (c.in-Some.act ∷ []) (length tiles)) (sym c.deref.ensures.value) (within_one c.in-Some.act c.next.new.self.rest.items (length c.loop-act.tiles.items) w)

pub act-requires-clause-sums : goal.act-requires-clause-sums
act-requires-clause-sums c = subst (λ (tiles : List Tile). Sums c.loop-act.summary (map tile_of tiles)) (sym c.deref.ensures.value) c.loop-act.invariant.sums

pub act-requires-clause-room : goal.act-requires-clause-room
act-requires-clause-room c = omega (arith, c.loop-act.invariant.numbers, ap length c.in-Some.ensures.steps.0)

pub act_on-requires-clause-within : goal.act_on-requires-clause-within
act_on-requires-clause-within c = within_one c.in-Some.act c.next.new.self.rest.items (length c.loop-act.tiles.items) (rw c.in-Some.ensures.steps.0 at c.loop-act.invariant.within)

pub act_on-requires-clause-room : goal.act_on-requires-clause-room
act_on-requires-clause-room c = omega (arith, c.loop-act.invariant.room, ap length c.in-Some.ensures.steps.0)

pub loop-act-preserved : goal.loop-act-preserved
loop-act-preserved c =
    let left = c.in-Some.ensures.steps.0 in
    let within = rw left at c.loop-act.invariant.within in
    let same = rw left at c.loop-act.invariant.acted in
    record {
      acted = ap (acted c.next.new.self.rest.items) c.act_on.ensures.items ∙ same;
      within = rw c.act_on.ensures.items (within_next c.in-Some.act c.next.new.self.rest.items c.loop-act.tiles.items within);
      sums = subst (λ (tiles : List Tile). Sums c.act.new.self (map tile_of tiles)) (ap (changed (act_of c.in-Some.act)) c.deref.ensures.value ∙ sym c.act_on.ensures.items) c.act.ensures.sums;
      room = omega (arith, c.loop-act.invariant.room, ap length left, c.act_on.ensures.len, c.act_on.ensures.capacity);
      numbers = omega (arith, c.loop-act.invariant.numbers, ap length left, c.act.ensures.len, c.act.ensures.capacity);
      capacity = c.act_on.ensures.capacity ∙ c.loop-act.invariant.capacity;
      numbers_capacity = c.act.ensures.capacity ∙ c.loop-act.invariant.numbers_capacity;
    }

pub returns-clause-items : goal.returns-clause-items
returns-clause-items c =
    let none = c.in-None.ensures.steps.0 in
    sym (none_left _ c.loop-act.act-iterator.rest.items c.loop-act.tiles.items c.loop-act.act-iterator.rest.ok.0 none) ∙ (c.loop-act.invariant.acted ∙ sym (acted_all c.args.acts.items c.args.tiles.now.items c.requires.within))
