-- Rows of a region, one behind another.
use Rattle.std.proofs.Common.{◌≡◌, ℕ, ◌+◌, List, ◌++◌, ap, sym, ◌∙◌, append_assoc}
use Rattle.czi_format.specs.Document.{Subblock}
use Rattle.czi_format.specs.Painting.{Query, row}
use Rattle.czi_format.proofs.Pixels.{one_more}
use Rattle.czi_report.specs.Pnm.{first_rows, pnm_pixels}

-- The next row behind the rows before it, as PNM has them. So the rows from the top to the last, behind the head, are the file.
pub row_more : (q : Query) (subblocks : List Subblock) (j : ℕ) (before now after bytes : List ℕ) → now ≡ before ++ first_rows q subblocks j → bytes ≡ row q subblocks j
    → after ≡ now ++ pnm_pixels q.pixel bytes → after ≡ before ++ first_rows q subblocks (j + 1)
row_more q subblocks j before now after bytes is row_is more =
    more
    ∙ ((λ i. is i ++ pnm_pixels q.pixel (row_is i))
    ∙ (append_assoc before (first_rows q subblocks j) (pnm_pixels q.pixel (row q subblocks j))
    ∙ ap (λ l. before ++ l) (sym (one_more (λ j. pnm_pixels q.pixel (row q subblocks j)) j))))
