use Rattle.std.proofs.Common.{◌≡◌, ◌≤◌, ◌<◌, ◌+◌, arith, inl, inr}
use Rattle.std.proofs.lemmas.Bool.{cases_lt}
use Rattle.czi_tiles.specs.Cells.{AddsPlaces, number_of}
use Rattle.czi_tiles.proofs.places.push_all.Goals as goal

pub loop-row-preserved : goal.loop-row-preserved
loop-row-preserved c =
    let first : c.number-first.result ≡ number_of c.args.sheet c.loop-row.row c.args.columns.first = c.number-first.ensures in
    let last : c.number-last.result ≡ number_of c.args.sheet c.loop-row.row c.args.columns.last = c.number-last.ensures in
    let adds : AddsPlaces c.args.cells.now c.number-first.result c.number-last.result c.loop-row.places.items c.push_places.new.places.items = c.in_ok-push_places.ensures in
    record {
      adds = record {
        keeps = λ x h. adds.adds.keeps x (c.loop-row.invariant.adds.keeps x h);
        bound = λ n all old. adds.adds.bound n all (c.loop-row.invariant.adds.bound n all old);
      };
      there = λ row x from to inside there left right. elim (cases_lt row c.loop-row.row) [
        | inl less ↦ adds.adds.keeps x.place (c.loop-row.invariant.there row x from less inside there left right)
        | inr more ↦ elim (cases_lt c.loop-row.row row) [
          | inl past ↦
              let a : number_of c.args.sheet row 0 ≤ x.number = omega (arith, left) in
              let b : x.number < number_of c.args.sheet (row + 1) 0 = omega (arith, right, c.args.columns.small) in
              absurd (omega (arith, c.next_row-row.ensures.none row x past there a b, to))
          | inr here ↦
              let same : row ≡ c.loop-row.row = omega (arith, more, here) in
              let low : c.number-first.result ≤ x.number = omega (arith, left, first, same) in
              let high : x.number ≤ c.number-last.result = omega (arith, right, last, same) in
              adds.there x there low high
        ]
      ];
    }

pub returns : goal.returns
returns c = record {
  adds = c.loop-row.invariant.adds;
  there = λ row x from to. c.loop-row.invariant.there row x from (omega (arith, to, c.loop-row-test.false)) to;
}
