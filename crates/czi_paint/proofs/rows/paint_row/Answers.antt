use Rattle.std.proofs.Common.{◌≡◌, ◌∙◌, ℕ, ◌<◌, ◌≤◌, get_or, length, take, sym, ap, subst, Option, None, option_map, replicate, arith, inl, inr}
use Rattle.std.proofs.lemmas.Bool.{cases_lt}
use Rattle.std.proofs.lemmas.List.{take_all}
use Rattle.czi_rig.specs.Disk.{Disk}
use Rattle.czi_rig.specs.Faults.{Faults}
use Rattle.czi_rig.specs.Quiet.{Untouched}
use Rattle.czi_rig.proofs.Faults.{no_faults, faults_then}
use Rattle.czi_rig.proofs.Quiet.{untouched_here, untouched_then}
use Rattle.czi_paint.specs.Patches.{patched_row}
use Rattle.czi_paint.proofs.Overlays.{blank, step, between, none_between}
use Rattle.czi_paint.proofs.rows.paint_row.Goals as goal
use Rattle.czi_paint.proofs.rows.paint_row.Goals.{then-next-at+in_ok-read_row, else-next-at}

pub loop-place-init : goal.loop-place-init
loop-place-init g c = record {
  row = λ image is. c.fill.ensures.after (λ y h. h) ∙ (ap (λ k. replicate k 0) c.requires.width ∙ sym (blank c.args.size c.args.w image c.args.j));
  no_fault = no_faults (g.R.Rig.state c.args.rig.now);
  untouched = untouched_here g.R.Rig c.args.rig.now;
  inside = omega arith;
  passed = λ k before. absurd (omega (arith, before));
  last = λ k from there. omega arith;
}

pub loop-place-preserved : goal.loop-place-preserved
loop-place-preserved g c =
    let at : ℕ = get_or c.args.active.now c.loop-place.place-index 0 in
    let low : get_or c.args.active.now c.loop-place.place-index 0 < length c.args.patches.now = c.requires.active.there c.loop-place.place-index 0 c.loop-place-test.true in
    let ahead : (k : ℕ) → c.loop-place.place-index ≤ k → k < length c.args.active.now → get_or c.args.active.now c.loop-place.place-index 0 ≤ get_or c.args.active.now k 0 = λ k from there. c.requires.active.rising c.loop-place.place-index k 0 from there in
    elim c.if-next-at.branch [
      | then-next-at+in_ok-read_row w ↦ record {
        row = λ image is. w.out-is
            ∙ (step c.args.size c.args.w image c.loop-place.out w.read_row.new.out c.args.patches.now at c.args.j w.index-patches-at.result low w.index-patches-at.is c.requires.fit (c.requires.in_file image is)
            (c.loop-place.invariant.row image is
            ∙ between c.args.size c.args.w image c.args.patches.now c.loop-place.next at c.args.j w.if-next-at.true (omega (arith, low))
            (none_between c.args.patches.now c.args.active.now c.loop-place.next c.loop-place.place-index at c.args.j c.requires.active (omega (arith, low)) c.loop-place.invariant.passed ahead))
            (w.in_ok-read_row.ensures.bytes image (ap (λ (d : Option Disk). option_map (λ (disk : Disk). disk.seen) d) c.loop-place.invariant.untouched.same.image ∙ is))
            ∙ ap (λ n. patched_row c.args.size c.args.w image (take n c.args.patches.now) c.args.j) (sym w.next-is));
        no_fault = subst (λ r. Faults None (g.R.Rig.state c.args.rig.now) (g.R.Rig.state r)) (sym w.rig-is) (faults_then _ _ _ _ c.loop-place.invariant.no_fault w.in_ok-read_row.ensures.cause);
        untouched = subst (λ r. Untouched g.R.Rig c.args.rig.now r) (sym w.rig-is) (untouched_then g.R.Rig c.loop-place.invariant.untouched w.read_row.ensures.untouched);
        inside = omega (arith, low, w.next-is);
        passed = λ k before. elim (cases_lt k c.loop-place.place-index) [
          | inl less ↦ omega (arith, c.loop-place.invariant.passed k less, w.next-is, w.if-next-at.true)
          | inr more ↦
              let this : k ≡ c.loop-place.place-index = omega (arith, before, more) in
              let here : get_or c.args.active.now k 0 ≡ get_or c.args.active.now c.loop-place.place-index 0 = ap (λ n. get_or c.args.active.now n 0) this in
              omega (arith, here, w.next-is)
        ];
        last = λ k from there. omega (arith, ahead k (omega (arith, from)) there, w.next-is);
      }
      | else-next-at w ↦ record {
        row = λ image is. w.out-is ∙ (c.loop-place.invariant.row image is ∙ ap (λ n. patched_row c.args.size c.args.w image (take n c.args.patches.now) c.args.j) (sym w.next-is));
        no_fault = subst (λ r. Faults None (g.R.Rig.state c.args.rig.now) (g.R.Rig.state r)) (sym w.rig-is) c.loop-place.invariant.no_fault;
        untouched = subst (λ r. Untouched g.R.Rig c.args.rig.now r) (sym w.rig-is) c.loop-place.invariant.untouched;
        inside = omega (arith, c.loop-place.invariant.inside, w.next-is);
        passed = λ k before. elim (cases_lt k c.loop-place.place-index) [
          | inl less ↦ omega (arith, c.loop-place.invariant.passed k less, w.next-is)
          | inr more ↦
              let this : k ≡ c.loop-place.place-index = omega (arith, before, more) in
              let here : get_or c.args.active.now k 0 ≡ get_or c.args.active.now c.loop-place.place-index 0 = ap (λ n. get_or c.args.active.now n 0) this in
              omega (arith, here, w.next-is, w.if-next-at.false)
        ];
        last = λ k from there. omega (arith, c.loop-place.invariant.last k (omega (arith, from)) there, w.next-is);
      }
    ]

pub returns-clause-row : goal.returns-clause-row
returns-clause-row g c = λ image is.
    c.loop-place.invariant.row image is
    ∙ (between c.args.size c.args.w image c.args.patches.now c.loop-place.next (length c.args.patches.now) c.args.j c.loop-place.invariant.inside (omega arith)
    (none_between c.args.patches.now c.args.active.now c.loop-place.next c.loop-place.place-index (length c.args.patches.now) c.args.j c.requires.active (omega arith) c.loop-place.invariant.passed
    (λ k from there. absurd (omega (arith, from, there, c.loop-place-test.false))))
    ∙ ap (λ ps. patched_row c.args.size c.args.w image ps c.args.j) (take_all (length c.args.patches.now) c.args.patches.now (omega arith)))
