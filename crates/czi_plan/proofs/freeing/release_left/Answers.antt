use Rattle.std.proofs.Common.{◌≡◌, ◌++◌, List, map, length, not, ap, sym, ◌∙◌, arith}
use Rattle.czi_format.specs.Layout.{Place}
use Rattle.czi_format.specs.Span.{span_le, sorted}
use Rattle.czi_machine.specs.Places.{can_be_used}
use Rattle.czi_num.specs.Span.{span_of}
use Rattle.czi_num.specs.declared.span.Span.{Span as CodeSpan}
use Rattle.czi_plan.specs.Plan.{dead_of, left_directory, usable_of}
use Rattle.czi_plan.proofs.Order.{taken_whole}
use Rattle.czi_plan.proofs.Parts.{spans_split}
use Rattle.czi_plan.proofs.freeing.release_left.Goals as goal

pub returns-clause-freed : goal.returns-clause-freed
returns-clause-freed g c =
    let left : List Place = map g.I.Listed.place c.args.leaving.now in
    let gone : List Place = left_directory c.args.change.now c.args.directory.now in
    let held : map span_of c.release_items.new.freed.items ≡ usable_of left
    = c.release_items.ensures.freed ∙ ap (λ (l : List CodeSpan). map span_of l ++ usable_of left) c.requires.no_held in
    let copied : c.put_all.new.list.items ≡ c.release_items.new.freed.items
    = c.put_all.ensures.items ∙ (ap (λ l. l ++ c.deref.result.now) c.requires.no_freed ∙ c.deref.ensures.value) in
    let freed : map span_of c.release_directory.new.freed.items ≡ usable_of (left ++ gone)
    = c.release_directory.ensures.freed ∙ (ap (λ l. l ++ usable_of gone) (ap (map span_of) copied ∙ held) ∙ sym (spans_split can_be_used left gone)) in
    let long : length c.sort_spans.new.spans ≡ length c.release_directory.new.freed.items = c.sort_spans.auto.spans ∙ ap length c.deref_mut.ensures.value in
    ap (map span_of) (taken_whole c.release_directory.new.freed.len c.sort_spans.new.spans c.release_directory.new.freed.items long (omega (arith, c.release_directory.new.freed.ok)))
    ∙ (c.sort_spans.ensures ∙ ap (sorted span_le) (ap (map span_of) c.deref_mut.ensures.value ∙ freed))

pub returns-clause-dead : goal.returns-clause-dead
returns-clause-dead g c =
    let left : List Place = map g.I.Listed.place c.args.leaving.now in
    let gone : List Place = left_directory c.args.change.now c.args.directory.now in
    c.release_directory.ensures.dead
    ∙ (ap (λ l. l ++ dead_of gone) (c.release_items.ensures.dead ∙ ap (λ (l : List CodeSpan). map span_of l ++ dead_of left) c.requires.no_dead)
    ∙ sym (spans_split (λ (p : Place). not (can_be_used p)) left gone))
