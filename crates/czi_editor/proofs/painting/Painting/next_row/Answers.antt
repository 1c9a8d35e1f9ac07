use Rattle.std.proofs.Common.{◌≡◌, ◌+◌, ◌-◌, ◌++◌, ℕ, List, map, take, drop, length, refl, ap, sym, ◌∙◌, arith}
use Rattle.std.proofs.Math.Seq.{take-append_seam}
use Rattle.czi_doc.specs.QueryView.{type_of}
use Rattle.czi_format.specs.Painting.{row}
use Rattle.czi_paint.specs.Patched.{subblock_in}
use Rattle.czi_report.specs.Pnm.{pnm_pixels}
use Rattle.czi_editor.proofs.painting.Painting.next_row.Goals as goal

over : (n : ℕ) (a b : List ℕ) → length a ≡ n → take n (a ++ drop (length a) b) ≡ a
over n a b is = rw (sym is) (take-append_seam a (drop (length a) b))

fewer : (left : ℕ) → (left ≡ 0 → ⊥) → left ≡ left - 1 + 1
fewer left some = omega (arith, some)

pub returns-clause-kept : goal.returns-clause-kept
returns-clause-kept g c = λ q tiles j p.
    let n : length c.pnm_row.new.row ≡ c.args.self.now.row.len = c.pnm_row.auto.row ∙ c.deref_mut-2.ensures.len in
    record {
      paints = c.in_ok-row.ensures.next q tiles j p.paints;
      left = let f = fewer c.args.self.now.left c.if-self-eq0.false in omega (arith, p.left, f);
      pixel = p.pixel;
      row = ap (λ (z : List ℕ). length z) (over c.args.self.now.row.len c.pnm_row.new.row _ n) ∙ n ∙ c.args.self.now.row.ok.0 ∙ p.row;
    }

pub returns-clause-row : goal.returns-clause-row
returns-clause-row g c = λ yes. (
  refl,
  fewer c.args.self.now.left c.if-self-eq0.false,
  λ image is q tiles j p.
      let n : length c.pnm_row.new.row ≡ c.args.self.now.row.len = c.pnm_row.auto.row ∙ c.deref_mut-2.ensures.len in
      let k : length c.row.new.out ≡ c.args.self.now.row.len = c.row.auto.out ∙ c.deref_mut.ensures.len in
      over c.args.self.now.row.len c.pnm_row.new.row _ n ∙ c.pnm_row.ensures ∙ ap (pnm_pixels (type_of c.args.self.now.pixel)) (c.deref_mut-2.ensures.value ∙ over c.args.self.now.row.len c.row.new.out _ k ∙ c.in_ok-row.ensures.row image is q tiles j p.paints)
      ∙ ap (λ t. pnm_pixels t (row q (map (subblock_in image) tiles) j)) p.pixel,
)
