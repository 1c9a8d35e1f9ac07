use Rattle.std.proofs.Common.{◌≡◌, ◌-◌, length, drop, slice_range, ap, ◌∙◌, arith}
use Rattle.czi_script.proofs.Windows.{later_front, piece_len}
use Rattle.czi_script.proofs.window.Window.use_front.Goals as goal

pub returns : goal.returns
returns c =
    let r = c.self.inside in
    let long : length (slice_range r.buffer.items r.from r.to) ≡ r.to - r.from = piece_len r.buffer.items r.from r.to c.self.invariant.0 c.self.invariant.1 in
    let same : length (slice_range r.buffer.items r.from r.to) ≡ length c.args.self.now = ap length c.self.view_is in
    later_front r.buffer.items r.from r.to c.args.count (omega (arith, long, same, c.self.invariant.0)) ∙ ap (drop c.args.count) c.self.view_is
