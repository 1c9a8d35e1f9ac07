use Rattle.czi_space.proofs.Cut.{longer}
use Rattle.std.proofs.Common.{◌≤◌, arith, ap}
use Rattle.czi_space.specs.State.{MapState}
use Rattle.czi_space.proofs.map.Map.set_length.Goals as goal

pub invariant_of-self : goal.invariant_of-self
invariant_of-self c =
    let more : c.self.inside.image_length ≤ c.args.length = omega (arith, ap (λ (m : MapState). m.length) c.self.view_is, c.requires) in
    record { extents = longer 0 _ _ _ more c.self.invariant.extents; held = c.self.invariant.held }
