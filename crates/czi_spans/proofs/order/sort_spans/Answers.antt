use Rattle.std.proofs.Common.{◌≡◌, rules}
use Rattle.std.proofs.lemmas.List.Sorted.{answers_always}
use Rattle.czi_num.specs.Span.{span_of}
use Rattle.czi_spans.proofs.Spans.{key, sorted_by_key}
use Rattle.czi_spans.proofs.order.sort_spans.Goals as goal

pub returns : goal.returns
returns c = sorted_by_key span_of c.args.spans.now c.sort_unstable_by_key.new.self c.sort_unstable_by_key.ensures.permutation
    (c.sort_unstable_by_key.ensures.sorted (key span_of) (answers_always _ (λ a r. r ≡ key span_of a.0.now) _ (λ f a r f' k. search rules)))
