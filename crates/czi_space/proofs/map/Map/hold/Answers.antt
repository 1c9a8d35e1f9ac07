use Rattle.std.proofs.Common.{◌≡◌, ◌<◌, vec_len, vec_capacity, map, length, arith, ap, sym, subst, ◌∙◌}
use Rattle.czi_format.specs.Space.{with_held}
use Rattle.czi_num.specs.Span.{span_of}
use Rattle.czi_space.specs.State.{MapState, IsInOrder}
use Rattle.czi_space.proofs.Edited.{on_ok, insert_one}
use Rattle.czi_space.proofs.Held.{held_in_order}
use Rattle.czi_space.proofs.Calls.{held_is}
use Rattle.czi_space.proofs.map.Map.hold.Goals as goal

pub invariant_of-self : goal.invariant_of-self
invariant_of-self c =
    let room : vec_len c.self.inside.held < vec_capacity c.self.inside.held = omega (arith, ap (λ (m : MapState). m.spare) c.self.view_is, c.requires) in
    let all : map span_of c.insert.new.self.items ≡ with_held (span_of c.args.span.now) (map span_of c.self.inside.held.items) =
    held_is _ _ _ c.args.span.now _ c.deref.ensures.value c.coming_before-i.ensures.count
    (ap (map span_of) (on_ok c.insert.result _ _ _ (c.insert.ensures.succeeds room) c.insert.ensures.items) ∙ insert_one span_of _ _ _ (omega (arith, c.coming_before-i.ensures.inside, ap length c.deref.ensures.value))) in
    record { extents = c.self.invariant.extents; held = subst IsInOrder (sym all) (held_in_order _ _ c.self.invariant.held) }

pub returns-clause-map : goal.returns-clause-map
returns-clause-map c =
    let room : vec_len c.self.inside.held < vec_capacity c.self.inside.held = omega (arith, ap (λ (m : MapState). m.spare) c.self.view_is, c.requires) in
    let all : map span_of c.insert.new.self.items ≡ with_held (span_of c.args.span.now) (map span_of c.self.inside.held.items) =
    held_is _ _ _ c.args.span.now _ c.deref.ensures.value c.coming_before-i.ensures.count
    (ap (map span_of) (on_ok c.insert.result _ _ _ (c.insert.ensures.succeeds room) c.insert.ensures.items) ∙ insert_one span_of _ _ _ (omega (arith, c.coming_before-i.ensures.inside, ap length c.deref.ensures.value))) in
    record { extents = ap (λ (m : MapState). m.extents) c.self.view_is; held = all ∙ ap (λ (m : MapState). with_held (span_of c.args.span.now) m.held) c.self.view_is; length = ap (λ (m : MapState). m.length) c.self.view_is }
