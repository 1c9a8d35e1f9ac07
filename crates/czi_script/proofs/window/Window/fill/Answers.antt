use Rattle.std.proofs.Common.{◌≡◌, ◌<◌, ◌-◌, ◌+◌, length, sym, arith}
use Rattle.std.specs.Vec.{with_items}
use Rattle.czi_script.proofs.Windows.{held_still, kept_in, added_in}
use Rattle.czi_script.proofs.window.Window.fill.Goals as goal

pub returns-in-Err-clause-err : goal.returns-in-Err-clause-err
returns-in-Err-clause-err g c =
    let r = c.self.inside in
    let m = c.make_room-from in
    let v = with_items r.buffer m.new.buffer in
    let xs = c.deref_mut-2.result.now in
    let held = held_still r.buffer m.new.buffer c.deref_mut.result.now xs c.args.self.now m.result.0 m.result.1 r.from r.to (search arith) c.deref_mut-2.ensures.value c.deref_mut.ensures.value m.ensures.held c.self.view_is in
    let size : length xs ≡ 65536 = search arith in
    let room : m.result.1 < 65536 = search arith in
    kept_in v xs c.take.new.into c.args.self.now m.result.0 m.result.1 (m.result.1 + c.min.result - m.result.1) m.ensures.order (omega (arith, size, room)) (search arith) (omega (arith, size, room, c.min.ensures)) (sym c.deref_mut-2.ensures.len) held

pub returns-in-Ok-clause-added : goal.returns-in-Ok-clause-added
returns-in-Ok-clause-added g c =
    let r = c.self.inside in
    let m = c.make_room-from in
    let v = with_items r.buffer m.new.buffer in
    let xs = c.deref_mut-2.result.now in
    let held = held_still r.buffer m.new.buffer c.deref_mut.result.now xs c.args.self.now m.result.0 m.result.1 r.from r.to (search arith) c.deref_mut-2.ensures.value c.deref_mut.ensures.value m.ensures.held c.self.view_is in
    let size : length xs ≡ 65536 = search arith in
    let room : m.result.1 < 65536 = search arith in
    added_in v xs c.take.new.into c.args.self.now m.result.0 m.result.1 (m.result.1 + c.min.result - m.result.1) c.in-Ok.count (g.S.Source.input c.args.input.now).left (g.S.Source.input c.take.new.self).left
    m.ensures.order (omega (arith, size, room)) (search arith) (omega (arith, size, room, c.min.ensures)) (sym c.deref_mut-2.ensures.len) held (search arith) c.in-Ok.ensures.taken c.take.ensures.told
