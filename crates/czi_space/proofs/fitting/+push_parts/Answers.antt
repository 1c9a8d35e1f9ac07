use Rattle.std.proofs.Common.{◌≡◌, ℕ, ◌-◌, ◌<◌, ◌≤◌, true, ◌∷◌, ◌++◌, [], List, refl, map, sym, ap, ◌∙◌, append_assoc, append-nil}
use Rattle.czi_format.specs.Span.{Span, end_of, meets}
use Rattle.czi_format.specs.Space.{from_to, without}
use Rattle.czi_num.specs.Span.{span_of}
use Rattle.czi_space.proofs.Parts.{met, without-nil, some_places, no_places}
use Rattle.czi_space.proofs.Sides.{none_met}
use Rattle.std.proofs.lemmas.List.{map-append}
use Rattle.czi_space.proofs.fitting.+push_parts.Goals as goal
use Rattle.czi_space.proofs.fitting.+push_parts.Goals.{then-run-first+in_ok-push_parts, else-run-first}

both : (held : List Span) (t s : Span) (rest out half after : List Span) → held ≡ t ∷ rest → meets t s ≡ true
    → half ≡ out ++ without rest (from_to s.at t.at) → after ≡ half ++ without rest (from_to (end_of t) (end_of s)) → after ≡ out ++ without held (s ∷ [])
both held t s rest out half after held_is test half_is after_is =
    after_is ∙ (ap (λ l. l ++ without rest (from_to (end_of t) (end_of s))) half_is ∙ (append_assoc out (without rest (from_to s.at t.at)) (without rest (from_to (end_of t) (end_of s)))
    ∙ ap (λ l. out ++ l) (sym (met t s rest test) ∙ ap (λ h. without h (s ∷ [])) (sym held_is))))

part : (a b : ℕ) (held out after : List Span) → a < b → after ≡ out ++ without held (record { at = a; len = b - a } ∷ []) → after ≡ out ++ without held (from_to a b)
part a b held out after h is = is ∙ ap (λ l. out ++ without held l) (sym (some_places a b h))

no_part : (a b : ℕ) (held out after : List Span) → b ≤ a → after ≡ out → after ≡ out ++ without held (from_to a b)
no_part a b held out after h is = is ∙ sym (ap (λ l. out ++ without held l) (no_places a b h) ∙ (ap (λ l. out ++ l) (without-nil held) ∙ append-nil out))

pub returns-in_ok-push_parts-2 : goal.returns-in_ok-push_parts-2
returns-in_ok-push_parts-2 t c =
    let held_is : map span_of c.args.held.now ≡ span_of c.in-Some.first.now ∷ map span_of c.in-Some.rest.now = ap (map span_of) c.in-Some.ensures.cases.0 in
    let half : map span_of c.if-run-first.out.items ≡ map span_of c.args.out.now.items ++ without (map span_of c.in-Some.rest.now) (from_to c.args.run.now.at c.in-Some.first.now.at) = elim c.if-run-first.branch [
      | then-run-first+in_ok-push_parts w ↦ ap (λ v. map span_of v.items) w.out-is ∙ part c.args.run.now.at c.in-Some.first.now.at (map span_of c.in-Some.rest.now) (map span_of c.args.out.now.items) (map span_of w.push_parts-then-run-first.new.out.items) w.if-run-first.true w.in_ok-push_parts.ensures
      | else-run-first w ↦ no_part c.args.run.now.at c.in-Some.first.now.at (map span_of c.in-Some.rest.now) (map span_of c.args.out.now.items) (map span_of c.if-run-first.out.items) w.if-run-first.false (ap (λ v. map span_of v.items) w.out-is)
    ] in
    both (map span_of c.args.held.now) (span_of c.in-Some.first.now) (span_of c.args.run.now) (map span_of c.in-Some.rest.now) (map span_of c.args.out.now.items) (map span_of c.if-run-first.out.items)
    (map span_of c.push_parts-then-from-to.new.out.items) held_is (sym c.if-not-meets.ensures.value) half
    (part (end_of (span_of c.in-Some.first.now)) (end_of (span_of c.args.run.now)) (map span_of c.in-Some.rest.now) (map span_of c.if-run-first.out.items) (map span_of c.push_parts-then-from-to.new.out.items) c.if-from-to.true c.in_ok-push_parts-2.ensures)

pub returns-else-from-to : goal.returns-else-from-to
returns-else-from-to t c =
    let held_is : map span_of c.args.held.now ≡ span_of c.in-Some.first.now ∷ map span_of c.in-Some.rest.now = ap (map span_of) c.in-Some.ensures.cases.0 in
    let half : map span_of c.if-run-first.out.items ≡ map span_of c.args.out.now.items ++ without (map span_of c.in-Some.rest.now) (from_to c.args.run.now.at c.in-Some.first.now.at) = elim c.if-run-first.branch [
      | then-run-first+in_ok-push_parts w ↦ ap (λ v. map span_of v.items) w.out-is ∙ part c.args.run.now.at c.in-Some.first.now.at (map span_of c.in-Some.rest.now) (map span_of c.args.out.now.items) (map span_of w.push_parts-then-run-first.new.out.items) w.if-run-first.true w.in_ok-push_parts.ensures
      | else-run-first w ↦ no_part c.args.run.now.at c.in-Some.first.now.at (map span_of c.in-Some.rest.now) (map span_of c.args.out.now.items) (map span_of c.if-run-first.out.items) w.if-run-first.false (ap (λ v. map span_of v.items) w.out-is)
    ] in
    both (map span_of c.args.held.now) (span_of c.in-Some.first.now) (span_of c.args.run.now) (map span_of c.in-Some.rest.now) (map span_of c.args.out.now.items) (map span_of c.if-run-first.out.items)
    (map span_of c.if-run-first.out.items) held_is (sym c.if-not-meets.ensures.value) half
    (no_part (end_of (span_of c.in-Some.first.now)) (end_of (span_of c.args.run.now)) (map span_of c.in-Some.rest.now) (map span_of c.if-run-first.out.items) (map span_of c.if-run-first.out.items) c.if-from-to.false refl)

pub returns-then-first-run : goal.returns-then-first-run
returns-then-first-run t c =
    let held_is : map span_of c.args.held.now ≡ span_of c.in-Some.first.now ∷ map span_of c.in-Some.rest.now = ap (map span_of) c.in-Some.ensures.cases.0 in
    ap (map span_of) c.in_ok-push-2.ensures.items ∙ (map-append span_of c.args.out.now.items (c.args.run.now ∷ [])
    ∙ sym (ap (λ l. map span_of c.args.out.now.items ++ l) (none_met (span_of c.in-Some.first.now) (map span_of c.in-Some.rest.now) (map span_of c.args.held.now) (span_of c.args.run.now) held_is c.requires c.if-first-run.true)))
