use Rattle.std.proofs.Common.{◌≡◌, rules}
use Rattle.std.proofs.lemmas.List.Sorted.{answers_always}
use Rattle.czi_spans.specs.Apart.{first_of}
use Rattle.czi_spans.proofs.Spans.{key, sorted_by_key}
use Rattle.czi_spans.proofs.order.sort_items.Goals as goal

pub returns-clause-spans : goal.returns-clause-spans
returns-clause-spans g c = sorted_by_key first_of c.args.items.now c.sort_unstable_by_key.new.self c.sort_unstable_by_key.ensures.permutation
    (c.sort_unstable_by_key.ensures.sorted (key first_of) (answers_always _ (λ a r. r ≡ key first_of a.0.now) _ (λ f a r f' k. search rules)))
