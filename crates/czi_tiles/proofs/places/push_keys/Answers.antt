use Rattle.std.proofs.Common.{◌≡◌, subst, arith, inl, inr}
use Rattle.std.specs.List.{Contains}
use Rattle.std.proofs.lemmas.Bool.{cases_lt}
use Rattle.czi_format.specs.Painting.{point}
use Rattle.czi_doc.specs.QueryView.{query_of}
use Rattle.czi_tiles.specs.Cells.{AddsMet, cell_at, cell_of, sheet_of}
use Rattle.czi_tiles.proofs.places.push_keys.Goals as goal

pub loop-at-init : goal.loop-at-init
loop-at-init c = record {
  adds = record { keeps = λ x h. h; bound = λ n all old. old };
  there = λ k i j place from to. absurd (omega (arith, from, to, c.sheet-at.ensures.value));
}

pub loop-at-preserved : goal.loop-at-preserved
loop-at-preserved c =
    let met : AddsMet (query_of c.args.query.now) c.args.cells.now c.args.level c.loop-at.at c.loop-at.places.items c.push_met.new.places.items = c.in_ok-push_met.ensures in
    record {
      adds = record {
        keeps = λ x h. met.adds.keeps x (c.loop-at.invariant.adds.keeps x h);
        bound = λ n all old. met.adds.bound n all (c.loop-at.invariant.adds.bound n all old);
      };
      there = λ k i j place from to inside low below low_row low_column has. elim (cases_lt (sheet_of c.args.level k) c.loop-at.at) [
        | inl less ↦ met.adds.keeps place (c.loop-at.invariant.there k i j place from less inside low below low_row low_column has)
        | inr more ↦ elim (cases_lt c.loop-at.at (sheet_of c.args.level k)) [
          | inl past ↦
              absurd (omega (
                arith,
                c.next_sheet-at.ensures.none (sheet_of c.args.level k)
                    (cell_at (sheet_of c.args.level k) (cell_of c.args.level (point c.args.query.now.y c.args.query.now.layer j)) (cell_of c.args.level (point c.args.query.now.x c.args.query.now.layer i)) place)
                    past has (omega arith) (omega (arith, low_row, low_column)),
                to,
              ))
          | inr here ↦
              let same : sheet_of c.args.level k ≡ c.loop-at.at = omega (arith, more, here) in
              met.there i j place low below low_row low_column
              (subst (λ s. Contains c.args.cells.now (cell_at s (cell_of c.args.level (point c.args.query.now.y c.args.query.now.layer j)) (cell_of c.args.level (point c.args.query.now.x c.args.query.now.layer i)) place)) same has)
        ]
      ];
    }

pub returns : goal.returns
returns c = record {
  adds = c.loop-at.invariant.adds;
  there = λ k i j place from to low below low_row low_column has. c.loop-at.invariant.there k i j place from (omega (arith, to, c.loop-at-test.false, c.sheet-last.ensures.value)) to low below low_row low_column has;
}
