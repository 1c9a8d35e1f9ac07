use Rattle.std.proofs.Common.{◌≡◌, map, arith, ap, sym, subst, ◌∙◌, refl}
use Rattle.std.specs.List.{take-map}
use Rattle.czi_format.specs.Space.{cut_to}
use Rattle.czi_num.specs.Span.{span_of}
use Rattle.czi_space.specs.State.{MapState, AreExtents}
use Rattle.czi_space.proofs.Cut.{cut_extents}
use Rattle.czi_space.proofs.Calls.{cut_is}
use Rattle.czi_space.proofs.map.Map.cut.Goals as goal

pub invariant_of-self : goal.invariant_of-self
invariant_of-self c =
    let left : map span_of c.truncate.new.self.items ≡ cut_to c.args.length (map span_of c.self.inside.extents.items) =
    cut_is _ _ _ _ _ _ c.self.invariant.extents c.deref.ensures.value c.ending_by-i.ensures.count (ap (map span_of) c.truncate.ensures.items ∙ sym (take-map _ _ _)) in
    record { extents = subst (AreExtents 0 c.args.length) (sym left) (cut_extents 0 _ _ _ (omega arith) c.self.invariant.extents); held = c.self.invariant.held }

pub returns-clause-map : goal.returns-clause-map
returns-clause-map c =
    let left : map span_of c.truncate.new.self.items ≡ cut_to c.args.length (map span_of c.self.inside.extents.items) =
    cut_is _ _ _ _ _ _ c.self.invariant.extents c.deref.ensures.value c.ending_by-i.ensures.count (ap (map span_of) c.truncate.ensures.items ∙ sym (take-map _ _ _)) in
    record { extents = left ∙ ap (λ (m : MapState). cut_to c.args.length m.extents) c.self.view_is; held = ap (λ (m : MapState). m.held) c.self.view_is; length = refl }
