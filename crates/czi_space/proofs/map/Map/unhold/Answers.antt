use Rattle.std.proofs.Common.{◌≡◌, map, arith, ap, sym, subst, ◌∙◌}
use Rattle.std.proofs.lemmas.List.{length-map}
use Rattle.czi_format.specs.Space.{released}
use Rattle.czi_num.specs.Span.{span_of}
use Rattle.czi_space.specs.State.{MapState, IsInOrder}
use Rattle.czi_space.proofs.Edited.{remove_one}
use Rattle.czi_space.proofs.Held.{released_in_order}
use Rattle.czi_space.proofs.Calls.{released_there}
use Rattle.czi_space.proofs.map.Map.unhold.Goals as goal

pub remove-requires : goal.remove-requires
remove-requires c =
    let there = released_there _ _ _ (span_of c.args.span.now) _ c.self.invariant.held (ap (λ (m : MapState). m.held) c.self.view_is) c.requires c.deref.ensures.value c.coming_before-i.ensures.count in
    omega (arith, there.inside, length-map c.self.inside.held.items span_of, c.self.inside.held.ok.0)

pub invariant_of-self : goal.invariant_of-self
invariant_of-self c =
    let there = released_there _ _ _ (span_of c.args.span.now) _ c.self.invariant.held (ap (λ (m : MapState). m.held) c.self.view_is) c.requires c.deref.ensures.value c.coming_before-i.ensures.count in
    let left : map span_of c.remove.new.self.items ≡ released (span_of c.args.span.now) (map span_of c.self.inside.held.items) =
    ap (map span_of) c.remove.ensures.items ∙ (remove_one span_of c.self.inside.held.items c.coming_before-i.result (omega (arith, there.inside, length-map c.self.inside.held.items span_of)) ∙ sym there.left) in
    record { extents = c.self.invariant.extents; held = subst IsInOrder (sym left) (released_in_order _ _ c.self.invariant.held) }

pub returns-clause-map : goal.returns-clause-map
returns-clause-map c =
    let there = released_there _ _ _ (span_of c.args.span.now) _ c.self.invariant.held (ap (λ (m : MapState). m.held) c.self.view_is) c.requires c.deref.ensures.value c.coming_before-i.ensures.count in
    let left : map span_of c.remove.new.self.items ≡ released (span_of c.args.span.now) (map span_of c.self.inside.held.items) =
    ap (map span_of) c.remove.ensures.items ∙ (remove_one span_of c.self.inside.held.items c.coming_before-i.result (omega (arith, there.inside, length-map c.self.inside.held.items span_of)) ∙ sym there.left) in
    record { extents = ap (λ (m : MapState). m.extents) c.self.view_is; held = left ∙ ap (λ (m : MapState). released (span_of c.args.span.now) m.held) c.self.view_is; length = ap (λ (m : MapState). m.length) c.self.view_is }
