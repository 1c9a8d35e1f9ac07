use Rattle.std.proofs.Common.{◌+◌, ◌++◌, ◌∷◌, [], List, ap, sym, arith, pos}
use Rattle.czi_format.specs.Bytes.{i32_bytes, i64_bytes}
use Rattle.czi_links.specs.Record.{Bytes}
use Rattle.czi_plan.proofs.Linking.{piece_length}
use Rattle.czi_plan.proofs.Marking.{adds_as, adds_both, adds_one, some_empty, some_full}
use Rattle.czi_plan.proofs.marks.mark_patch.Goals as goal

pub returns-then-entries-gt0-clause-marks : goal.returns-then-entries-gt0-clause-marks
returns-then-entries-gt0-clause-marks c = λ r piece.
    let p = c.args.entries in
    let head : List Bytes = record { place = c.args.at + 24; bytes = i64_bytes (pos c.args.used) } ∷ record { place = c.args.at + 32; bytes = i32_bytes (pos c.args.count) } ∷ [] in
    let both = adds_both (c.mark_pointer.ensures.marks r) (c.mark_count.ensures.marks r) in
    let one = adds_one r c.mark_count.new.marks.items c.put.new.list.items _ c.put.ensures.items (record { size = sym (piece_length r p piece); there = piece }) in
    adds_as (ap (λ l. head ++ l) (sym (some_full r p (c.args.at + 32 + c.args.from) piece c.if-entries-gt0.true))) (adds_both both one)

pub returns-else-entries-gt0-clause-marks : goal.returns-else-entries-gt0-clause-marks
returns-else-entries-gt0-clause-marks c = λ r piece.
    let p = c.args.entries in
    let head : List Bytes = record { place = c.args.at + 24; bytes = i64_bytes (pos c.args.used) } ∷ record { place = c.args.at + 32; bytes = i32_bytes (pos c.args.count) } ∷ [] in
    adds_as (ap (λ l. head ++ l) (sym (some_empty r p (c.args.at + 32 + c.args.from) piece (omega (arith, c.if-entries-gt0.false))))) (adds_both (c.mark_pointer.ensures.marks r) (c.mark_count.ensures.marks r))
