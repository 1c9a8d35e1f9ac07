use Rattle.std.proofs.Common.{◌≡◌, ◌++◌, ℕ, List, take, drop, length, map, arith, sym, ap, ◌∙◌, subst}
use Rattle.std.proofs.Math.Seq.{take-append_seam}
use Rattle.std.proofs.lemmas.List.Sorted.{length_permutation}
use Rattle.std.specs.List.Sorted.{IsPermutation}
use Rattle.czi_format.specs.Span.{span_le, sorted}
use Rattle.czi_num.specs.declared.span.Span.{Span}
use Rattle.czi_seg.specs.declared.header.SegHeader.{SegHeader}
use Rattle.czi_spans.specs.Apart.{first_of}
use Rattle.czi_image.specs.Items.{AreSorted, items_of}
use Rattle.czi_image.proofs.items.sorted_items.Goals as goal

pub returns : goal.returns
returns c =
    let new : List (Span × SegHeader) = c.sort_items.new.items in
    let rest : List (Span × SegHeader) = drop (length new) c.in_ok-items.items.items in
    let old_is : c.deref_mut.result.now ≡ items_of c.args.live.now = c.deref_mut.ensures.value ∙ c.in_ok-items.ensures {u = tt} in
    let same_len : length new ≡ length c.deref_mut.result.now = length_permutation _ _ c.sort_items.ensures.items in
    let len : c.in_ok-items.items.len ≡ length new = omega (arith, same_len, c.deref_mut.ensures.len, c.in_ok-items.items.ok.0) in
    let back : take c.in_ok-items.items.len (new ++ rest) ≡ new = ap (λ (k : ℕ). take k (new ++ rest)) len ∙ take-append_seam new rest in
    subst (AreSorted (items_of c.args.live.now)) (sym back) (record {
      spans = c.sort_items.ensures.spans ∙ ap (λ (l : List (Span × SegHeader)). sorted span_le (map first_of l)) old_is;
      items = subst (λ (l : List (Span × SegHeader)). IsPermutation l new) old_is c.sort_items.ensures.items;
    })
