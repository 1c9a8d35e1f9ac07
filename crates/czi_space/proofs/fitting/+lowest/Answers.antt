use Rattle.std.proofs.Common.{◌≡◌, ℕ, ◌-◌, ◌<◌, ◌≤◌, true, refl, ◌∷◌, [], List, Option, Some, None, map, sym, ap, ◌∙◌}
use Rattle.std.specs.Option.{option_or}
use Rattle.czi_format.specs.Span.{Span, end_of, meets}
use Rattle.czi_format.specs.Space.{from_to, without}
use Rattle.czi_num.specs.Span.{span_of}
use Rattle.czi_space.specs.State.{lowest_of}
use Rattle.czi_space.proofs.Parts.{too_short, lowest_met, lowest_nothing, some_places, no_places}
use Rattle.czi_space.proofs.fitting.+lowest.Goals as goal
use Rattle.czi_space.proofs.fitting.+lowest.Goals.{then-run-first+in_default-lowest, else-run-first}

-- the two parts of a run that is met
in_parts : (need : ℕ) (held : List Span) (t s : Span) (rest used : List Span) (before behind r : Option ℕ) → held ≡ t ∷ rest → meets t s ≡ true
    → before ≡ lowest_of need (without used (without rest (from_to s.at t.at))) → behind ≡ lowest_of need (without used (without rest (from_to (end_of t) (end_of s))))
    → r ≡ option_or before behind → r ≡ lowest_of need (without used (without held (s ∷ [])))
in_parts need held t s rest used before behind r held_is test before_is behind_is r_is =
    r_is ∙ (ap (λ z. option_or z behind) before_is ∙ (ap (option_or (lowest_of need (without used (without rest (from_to s.at t.at))))) behind_is
    ∙ (sym (lowest_met need t s rest used test) ∙ ap (λ h. lowest_of need (without used (without h (s ∷ [])))) (sym held_is))))

-- what was found in a part
part : (need a b : ℕ) (held used : List Span) (r : Option ℕ) → a < b → r ≡ lowest_of need (without used (without held (record { at = a; len = b - a } ∷ []))) → r ≡ lowest_of need (without used (without held (from_to a b)))
part need a b held used r h is = is ∙ ap (λ l. lowest_of need (without used (without held l))) (sym (some_places a b h))

no_part : (need a b : ℕ) (held used : List Span) → b ≤ a → None ≡ lowest_of need (without used (without held (from_to a b)))
no_part need a b held used h = sym (ap (λ l. lowest_of need (without used (without held l))) (no_places a b h) ∙ lowest_nothing need held used)

pub returns-then-run-need : goal.returns-then-run-need
returns-then-run-need t c = sym (too_short c.args.need (span_of c.args.run.now) (map span_of c.args.held.now) (map span_of c.args.used.now) c.if-run-need.true)

pub returns-in-Some-lowest : goal.returns-in-Some-lowest
returns-in-Some-lowest t c =
    let held_is : map span_of c.args.held.now ≡ span_of c.in-Some.first.now ∷ map span_of c.in-Some.rest.now = ap (map span_of) c.in-Some.ensures.cases.0 in
    in_parts c.args.need (map span_of c.args.held.now) (span_of c.in-Some.first.now) (span_of c.args.run.now) (map span_of c.in-Some.rest.now) (map span_of c.args.used.now)
    (Some c.in-Some-lowest.at) (lowest_of c.args.need _) (Some c.in-Some-lowest.at) held_is (sym c.if-not-meets.ensures.value)
    (part c.args.need c.args.run.now.at c.in-Some.first.now.at (map span_of c.in-Some.rest.now) (map span_of c.args.used.now) (Some c.in-Some-lowest.at) c.if-run-first.true c.in-Some-lowest.ensures)
    refl refl

pub returns-then-from-to : goal.returns-then-from-to
returns-then-from-to t c =
    let held_is : map span_of c.args.held.now ≡ span_of c.in-Some.first.now ∷ map span_of c.in-Some.rest.now = ap (map span_of) c.in-Some.ensures.cases.0 in
    let before : None ≡ lowest_of c.args.need (without (map span_of c.args.used.now) (without (map span_of c.in-Some.rest.now) (from_to c.args.run.now.at c.in-Some.first.now.at))) = elim c.if-run-first.branch [
      | then-run-first+in_default-lowest w ↦ part c.args.need c.args.run.now.at c.in-Some.first.now.at (map span_of c.in-Some.rest.now) (map span_of c.args.used.now) None w.if-run-first.true (sym w.in_default-lowest.is ∙ w.lowest-then-run-first.ensures)
      | else-run-first w ↦ no_part c.args.need c.args.run.now.at c.in-Some.first.now.at (map span_of c.in-Some.rest.now) (map span_of c.args.used.now) w.if-run-first.false
    ] in
    in_parts c.args.need (map span_of c.args.held.now) (span_of c.in-Some.first.now) (span_of c.args.run.now) (map span_of c.in-Some.rest.now) (map span_of c.args.used.now)
    None c.lowest-then-from-to.result c.lowest-then-from-to.result held_is (sym c.if-not-meets.ensures.value)
    before
    (part c.args.need (end_of (span_of c.in-Some.first.now)) (end_of (span_of c.args.run.now)) (map span_of c.in-Some.rest.now) (map span_of c.args.used.now) c.lowest-then-from-to.result c.if-from-to.true c.lowest-then-from-to.ensures)
    refl

pub returns : goal.returns
returns t c =
    let held_is : map span_of c.args.held.now ≡ span_of c.in-Some.first.now ∷ map span_of c.in-Some.rest.now = ap (map span_of) c.in-Some.ensures.cases.0 in
    let before : None ≡ lowest_of c.args.need (without (map span_of c.args.used.now) (without (map span_of c.in-Some.rest.now) (from_to c.args.run.now.at c.in-Some.first.now.at))) = elim c.if-run-first.branch [
      | then-run-first+in_default-lowest w ↦ part c.args.need c.args.run.now.at c.in-Some.first.now.at (map span_of c.in-Some.rest.now) (map span_of c.args.used.now) None w.if-run-first.true (sym w.in_default-lowest.is ∙ w.lowest-then-run-first.ensures)
      | else-run-first w ↦ no_part c.args.need c.args.run.now.at c.in-Some.first.now.at (map span_of c.in-Some.rest.now) (map span_of c.args.used.now) w.if-run-first.false
    ] in
    in_parts c.args.need (map span_of c.args.held.now) (span_of c.in-Some.first.now) (span_of c.args.run.now) (map span_of c.in-Some.rest.now) (map span_of c.args.used.now)
    None None None held_is (sym c.if-not-meets.ensures.value)
    before
    (no_part c.args.need (end_of (span_of c.in-Some.first.now)) (end_of (span_of c.args.run.now)) (map span_of c.in-Some.rest.now) (map span_of c.args.used.now) c.if-from-to.false)
    refl
