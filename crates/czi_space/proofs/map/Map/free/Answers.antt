use Rattle.std.proofs.Common.{◌≡◌, map, length, arith, ap, sym, subst, ◌∙◌}
use Rattle.czi_format.specs.Space.{with_freed}
use Rattle.czi_num.specs.Span.{span_of}
use Rattle.czi_space.specs.State.{MapState, AreExtents, MeetsNone}
use Rattle.czi_space.proofs.Freed.{freed_extents}
use Rattle.czi_space.proofs.Calls.{freed_there, joined_is, apart_from}
use Rattle.czi_space.proofs.map.Map.free.Goals as goal
use Rattle.czi_space.proofs.map.Map.free.Goals.{then-i-gt0+else-last-span, else-i-gt0}

pub invariant_of-self : goal.invariant_of-self
invariant_of-self c =
    let there = freed_there _ _ _ _ (span_of c.args.span.now) _ c.self.invariant.extents (ap (λ (m : MapState). m.extents) c.self.view_is) c.requires.whole.some c.requires.apart c.deref.ensures.value c.ending_by-i.ensures.count in
    let left : map span_of c.put_over.new.extents.items ≡ with_freed (span_of c.args.span.now) (map span_of c.self.inside.extents.items) = joined_is c.self.inside.extents.items (span_of c.args.span.now) c.ending_by-i.result c.index-last.result.now _ there c.if-i-gt0.true c.index-last.ensures c.if-last-span.true c.put_over.ensures.items in
    record { extents = subst (AreExtents 0 c.self.inside.image_length) (sym left) (freed_extents 0 _ _ _ c.self.invariant.extents c.requires.whole (subst (MeetsNone (span_of c.args.span.now)) (sym (ap (λ (m : MapState). m.extents) c.self.view_is)) c.requires.apart) (omega arith) (omega (arith, c.requires.inside, ap (λ (m : MapState). m.length) c.self.view_is))); held = c.self.invariant.held }

pub returns-then-last-span-clause-map : goal.returns-then-last-span-clause-map
returns-then-last-span-clause-map c =
    let there = freed_there _ _ _ _ (span_of c.args.span.now) _ c.self.invariant.extents (ap (λ (m : MapState). m.extents) c.self.view_is) c.requires.whole.some c.requires.apart c.deref.ensures.value c.ending_by-i.ensures.count in
    let left : map span_of c.put_over.new.extents.items ≡ with_freed (span_of c.args.span.now) (map span_of c.self.inside.extents.items) = joined_is c.self.inside.extents.items (span_of c.args.span.now) c.ending_by-i.result c.index-last.result.now _ there c.if-i-gt0.true c.index-last.ensures c.if-last-span.true c.put_over.ensures.items in
    record { extents = left ∙ ap (λ (m : MapState). with_freed (span_of c.args.span.now) m.extents) c.self.view_is; held = ap (λ (m : MapState). m.held) c.self.view_is; length = ap (λ (m : MapState). m.length) c.self.view_is }

pub invariant_of-self-2 : goal.invariant_of-self-2
invariant_of-self-2 c =
    let there = freed_there _ _ _ _ (span_of c.args.span.now) _ c.self.invariant.extents (ap (λ (m : MapState). m.extents) c.self.view_is) c.requires.whole.some c.requires.apart c.deref.ensures.value c.ending_by-i.ensures.count in
    let left : map span_of c.put_before.new.extents.items ≡ with_freed (span_of c.args.span.now) (map span_of c.self.inside.extents.items) = c.put_before.ensures.items ∙ sym (there.apart (λ d j is ends. elim c.if-i-gt0.branch [
      | then-i-gt0+else-last-span w ↦ apart_from c.self.inside.extents.items (span_of c.args.span.now) c.ending_by-i.result w.index-last.result.now (omega (arith, c.ending_by-i.ensures.inside, ap length c.deref.ensures.value)) w.if-i-gt0.true w.index-last.ensures w.if-last-span.false d j is ends
      | else-i-gt0 w ↦ omega (arith, w.if-i-gt0.false, is)
    ])) in
    record { extents = subst (AreExtents 0 c.self.inside.image_length) (sym left) (freed_extents 0 _ _ _ c.self.invariant.extents c.requires.whole (subst (MeetsNone (span_of c.args.span.now)) (sym (ap (λ (m : MapState). m.extents) c.self.view_is)) c.requires.apart) (omega arith) (omega (arith, c.requires.inside, ap (λ (m : MapState). m.length) c.self.view_is))); held = c.self.invariant.held }

pub returns-clause-map : goal.returns-clause-map
returns-clause-map c =
    let there = freed_there _ _ _ _ (span_of c.args.span.now) _ c.self.invariant.extents (ap (λ (m : MapState). m.extents) c.self.view_is) c.requires.whole.some c.requires.apart c.deref.ensures.value c.ending_by-i.ensures.count in
    let left : map span_of c.put_before.new.extents.items ≡ with_freed (span_of c.args.span.now) (map span_of c.self.inside.extents.items) = c.put_before.ensures.items ∙ sym (there.apart (λ d j is ends. elim c.if-i-gt0.branch [
      | then-i-gt0+else-last-span w ↦ apart_from c.self.inside.extents.items (span_of c.args.span.now) c.ending_by-i.result w.index-last.result.now (omega (arith, c.ending_by-i.ensures.inside, ap length c.deref.ensures.value)) w.if-i-gt0.true w.index-last.ensures w.if-last-span.false d j is ends
      | else-i-gt0 w ↦ omega (arith, w.if-i-gt0.false, is)
    ])) in
    record { extents = left ∙ ap (λ (m : MapState). with_freed (span_of c.args.span.now) m.extents) c.self.view_is; held = ap (λ (m : MapState). m.held) c.self.view_is; length = ap (λ (m : MapState). m.length) c.self.view_is }
