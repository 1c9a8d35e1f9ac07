use Rattle.std.proofs.Common.{◌≡◌, ◌∙◌, ℕ, ◌<◌, ◌≤◌, get_or, length, take, map, ap, sym, arith, inl, inr}
use Rattle.std.proofs.lemmas.Bool.{cases_lt}
use Rattle.std.proofs.lemmas.List.{take_all}
use Rattle.czi_format.specs.Painting.{Query}
use Rattle.czi_doc.specs.QueryView.{query_of}
use Rattle.czi_tiles.specs.Chosen.{chosen_turns, turn_of}
use Rattle.czi_tiles.proofs.Passed.{gap, one_more, none_between}
use Rattle.czi_tiles.proofs.among.turns_among.Goals as goal
use Rattle.czi_tiles.proofs.among.turns_among.Goals.{then-next-at+in_ok-push_chosen, else-next-at}

pub loop-place-preserved : goal.loop-place-preserved
loop-place-preserved c =
    let q : Query = query_of c.args.query.now in
    let at : ℕ = get_or c.args.places.now c.loop-place.place-index 0 in
    let low : get_or c.args.places.now c.loop-place.place-index 0 < length c.args.tiles.now = c.requires.there c.loop-place.place-index 0 c.loop-place-test.true in
    let ahead : (k : ℕ) → c.loop-place.place-index ≤ k → k < length c.args.places.now → get_or c.args.places.now c.loop-place.place-index 0 ≤ get_or c.args.places.now k 0 = λ k from there. c.requires.rising c.loop-place.place-index k 0 from there in
    elim c.if-next-at.branch [
      | then-next-at+in_ok-push_chosen w ↦ record {
        turns = ap (λ v. map turn_of v.items) w.turns-is
            ∙ (one_more q c.args.tiles.now c.loop-place.next at _ _ low
            (gap q c.args.tiles.now c.loop-place.next at w.if-next-at.true (omega (arith, low))
            (none_between q c.args.tiles.now c.args.places.now c.loop-place.next c.loop-place.place-index at c.requires.all c.requires.rising (omega (arith, low)) c.loop-place.invariant.passed ahead))
            c.loop-place.invariant.turns w.in_ok-push_chosen.ensures
            ∙ ap (λ n. chosen_turns q 0 (take n c.args.tiles.now)) (sym w.next-is));
        inside = omega (arith, low, w.next-is);
        passed = λ k before. elim (cases_lt k c.loop-place.place-index) [
          | inl less ↦ omega (arith, c.loop-place.invariant.passed k less, w.next-is, w.if-next-at.true)
          | inr more ↦
              let this : k ≡ c.loop-place.place-index = omega (arith, before, more) in
              let here : get_or c.args.places.now k 0 ≡ get_or c.args.places.now c.loop-place.place-index 0 = ap (λ n. get_or c.args.places.now n 0) this in
              omega (arith, here, w.next-is)
        ];
        last = λ k from there. omega (arith, ahead k (omega (arith, from)) there, w.next-is);
      }
      | else-next-at w ↦ record {
        turns = ap (λ v. map turn_of v.items) w.turns-is ∙ (c.loop-place.invariant.turns ∙ ap (λ n. chosen_turns q 0 (take n c.args.tiles.now)) (sym w.next-is));
        inside = omega (arith, c.loop-place.invariant.inside, w.next-is);
        passed = λ k before. elim (cases_lt k c.loop-place.place-index) [
          | inl less ↦ omega (arith, c.loop-place.invariant.passed k less, w.next-is)
          | inr more ↦
              let this : k ≡ c.loop-place.place-index = omega (arith, before, more) in
              let here : get_or c.args.places.now k 0 ≡ get_or c.args.places.now c.loop-place.place-index 0 = ap (λ n. get_or c.args.places.now n 0) this in
              omega (arith, here, w.next-is, w.if-next-at.false)
        ];
        last = λ k from there. omega (arith, c.loop-place.invariant.last k (omega (arith, from)) there, w.next-is);
      }
    ]

pub returns : goal.returns
returns c =
    let q : Query = query_of c.args.query.now in
    c.loop-place.invariant.turns
    ∙ (gap q c.args.tiles.now c.loop-place.next (length c.args.tiles.now) c.loop-place.invariant.inside (omega arith)
    (none_between q c.args.tiles.now c.args.places.now c.loop-place.next c.loop-place.place-index (length c.args.tiles.now) c.requires.all c.requires.rising (omega arith) c.loop-place.invariant.passed
    (λ k from there. absurd (omega (arith, from, there, c.loop-place-test.false))))
    ∙ ap (chosen_turns q 0) (take_all (length c.args.tiles.now) c.args.tiles.now (omega arith)))
