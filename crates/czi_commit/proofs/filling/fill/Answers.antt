use Rattle.std.proofs.Common.{◌≡◌, ◌∙◌, ℕ, ◌≤◌, ◌^◌, ◌+◌, max, None, List, ◌∷◌, length, drop, get_or, sym, ap, subst, arith}
use Rattle.std.specs.Prelude.{option_map}
use Rattle.std.specs.List.{AllByRecursion}
use Rattle.czi_rig.specs.declared.file.File.TheVariants.{Image}
use Rattle.czi_rig.specs.State.{seen_of}
use Rattle.czi_rig.proofs.Faults.{faults_then}
use Rattle.czi_rig.proofs.Known.{goes_then, leaves_then, option_map_then}
use Rattle.czi_links.specs.Record.{Bytes, end_of}
use Rattle.czi_region.specs.declared.block.Piece.{Piece}
use Rattle.czi_region.specs.Pieces.{IsPiece}
use Rattle.czi_vault.specs.Recovered.{with_links}
use Rattle.czi_commit.specs.Filled.{AreFree, filled, with_gap}
use Rattle.czi_plan.specs.Pieces.{AreNear, last_end, bytes_in}
use Rattle.czi_commit.proofs.Standing.{fills_then}
use Rattle.czi_commit.proofs.Gaps.{end_small, free_gap, length-gap, mapped_has, next_of, pieces_next, with_links-gap}
use Rattle.czi_commit.proofs.filling.fill.Goals as goal

pub put-requires-clause-fits : goal.put-requires-clause-fits
put-requires-clause-fits g c =
    let writes = c.args.writes.now in
    let d : ℕ × Piece = (0, record { at = 0; len = 0 }) in
    let w : Bytes = record { place = (get_or writes c.loop-i.i d).0; bytes = c.get-bytes.result.now } in
    let here = pieces_next c.args.region.now writes c.loop-i.i d c.get-bytes.result.now (omega arith) c.get-bytes.ensures in
    end_small c.loop-i.end w (bytes_in c.args.region.now (drop (c.loop-i.i + 1) writes)) (bytes_in c.args.region.now (drop c.loop-i.i writes)) (2 ^ 62) here c.loop-i.invariant.small

pub overflow_add-place : goal.overflow_add-place
overflow_add-place g c =
    let writes = c.args.writes.now in
    let d : ℕ × Piece = (0, record { at = 0; len = 0 }) in
    let w : Bytes = record { place = (get_or writes c.loop-i.i d).0; bytes = c.get-bytes.result.now } in
    let here = pieces_next c.args.region.now writes c.loop-i.i d c.get-bytes.result.now (omega arith) c.get-bytes.ensures in
    let small = end_small c.loop-i.end w (bytes_in c.args.region.now (drop (c.loop-i.i + 1) writes)) (bytes_in c.args.region.now (drop c.loop-i.i writes)) (2 ^ 62) here c.loop-i.invariant.small in
    omega (arith, small)

pub returns-in_err-put-clause-moments : goal.returns-in_err-put-clause-moments
returns-in_err-put-clause-moments g c = λ all is view stands counts free.
    let writes = c.args.writes.now in
    let d : ℕ × Piece = (0, record { at = 0; len = 0 }) in
    let w : Bytes = record { place = (get_or writes c.loop-i.i d).0; bytes = c.get-bytes.result.now } in
    let here = pieces_next c.args.region.now writes c.loop-i.i d c.get-bytes.result.now (omega arith) c.get-bytes.ensures in
    let rest = bytes_in c.args.region.now (drop (c.loop-i.i + 1) writes) in
    let so_far = c.loop-i.invariant.moments all is view stands counts free in
    let gap = free_gap view c.loop-i.end w rest (subst (λ (ps : List Bytes). AreFree view (filled c.loop-i.end ps)) here so_far.0) in
    fills_then g.R.Rig g.met.R.Rig.counts_now g.met.R.Rig.only_now c.args.rig.now c.loop-i.rig c.put.new.rig all view is stands counts so_far.1 c.loop-i.invariant.other c.loop-i.invariant.goes_on
    (λ now is_now stands_now counts_now. c.put.ensures.moments now is_now view stands_now counts_now gap.0)

pub loop-i-preserved : goal.loop-i-preserved
loop-i-preserved g c =
    let s = g.R.Rig.state c.args.rig.now in
    let mid = g.R.Rig.state c.loop-i.rig in
    let new = g.R.Rig.state c.put.new.rig in
    let region = c.args.region.now in
    let writes = c.args.writes.now in
    let end = c.loop-i.end in
    let d : ℕ × Piece = (0, record { at = 0; len = 0 }) in
    let x : ℕ × Piece = get_or writes c.loop-i.i d in
    let w : Bytes = record { place = x.0; bytes = c.get-bytes.result.now } in
    let rest = bytes_in region (drop (c.loop-i.i + 1) writes) in
    let here : bytes_in region (drop c.loop-i.i writes) ≡ w ∷ rest = pieces_next region writes c.loop-i.i d c.get-bytes.result.now (omega arith) c.get-bytes.ensures in
    let next : drop c.loop-i.i writes ≡ x ∷ drop (c.loop-i.i + 1) writes = next_of writes c.loop-i.i d (omega arith) in
    let end_is : c.max-end.result ≡ max end (end_of w) = omega arith in
    let wrote : seen_of new Image ≡ option_map (with_links (with_gap end w)) (seen_of mid Image) = c.in_ok-put.ensures.written in
    record {
      written = ap (λ (n : ℕ). option_map (with_links (filled n rest)) (seen_of new Image)) end_is
          ∙ ap (option_map (with_links (filled (max end (end_of w)) rest))) wrote
          ∙ option_map_then (with_links (with_gap end w)) (with_links (filled (max end (end_of w)) rest)) (with_links (filled end (w ∷ rest))) (seen_of mid Image)
          (λ y. sym (with_links-gap end w (filled (max end (end_of w)) rest) y))
          ∙ ap (λ (ps : List Bytes). option_map (with_links (filled end ps)) (seen_of mid Image)) (sym here)
          ∙ c.loop-i.invariant.written;
      whole = mapped_has (λ (y : List ℕ). length y ≡ end) (λ (y : List ℕ). length y ≡ c.max-end.result) (with_links (with_gap end w)) (seen_of mid Image) (seen_of new Image) wrote c.loop-i.invariant.whole
          (λ y e. length-gap end w y e ∙ sym end_is);
      pieces = (subst (AllByRecursion (λ (v : ℕ × Piece). IsPiece region v.1)) next c.loop-i.invariant.pieces).1;
      near = subst (λ (n : ℕ). AreNear n rest) (sym end_is) (subst (AreNear end) here c.loop-i.invariant.near).1;
      small = subst (λ (n : ℕ). last_end n rest ≤ 2 ^ 62) (sym end_is) (subst (λ (ps : List Bytes). last_end end ps ≤ 2 ^ 62) here c.loop-i.invariant.small);
      other = leaves_then Image s mid new c.loop-i.invariant.other c.put.ensures.other;
      goes_on = goes_then s mid new c.loop-i.invariant.goes_on c.put.ensures.goes_on;
      cause = faults_then None s mid new c.loop-i.invariant.cause c.in_ok-put.ensures.cause;
      moments = λ all is view stands counts free.
          let so_far = c.loop-i.invariant.moments all is view stands counts free in
          let gap = free_gap view end w rest (subst (λ (ps : List Bytes). AreFree view (filled end ps)) here so_far.0) in (
            subst (λ (n : ℕ). AreFree view (filled n rest)) (sym end_is) gap.1,
            fills_then g.R.Rig g.met.R.Rig.counts_now g.met.R.Rig.only_now c.args.rig.now c.loop-i.rig c.put.new.rig all view is stands counts so_far.1 c.loop-i.invariant.other c.loop-i.invariant.goes_on
                (λ now is_now stands_now counts_now. c.put.ensures.moments now is_now view stands_now counts_now gap.0),
          );
    }
