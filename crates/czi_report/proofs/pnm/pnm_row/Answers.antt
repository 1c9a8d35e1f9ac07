use Rattle.std.proofs.Common.{◌≡◌, ◌∙◌, ap, sym}
use Rattle.czi_doc.specs.QueryView.{type_of}
use Rattle.czi_doc.specs.declared.pixel.Pixel.{Pixel}
use Rattle.czi_doc.specs.declared.pixel.Pixel.TheVariants.{Gray8, Gray16, Bgr24, Bgr48}
use Rattle.czi_report.specs.Pnm.{pnm_pixels}
use Rattle.czi_report.proofs.Turning.{single, turned_is}
use Rattle.czi_report.proofs.pnm.pnm_row.Goals as goal

pub returns-in-Gray8 : goal.returns-in-Gray8
returns-in-Gray8 c = single c.args.row.now ∙ (turned_is Gray8 c.args.row.now ∙ ap (λ (p : Pixel). pnm_pixels (type_of p) c.args.row.now) (sym c.in-Gray8.is))

pub returns-in-Gray16 : goal.returns-in-Gray16
returns-in-Gray16 c = c.turn_round.ensures ∙ (turned_is Gray16 c.args.row.now ∙ ap (λ (p : Pixel). pnm_pixels (type_of p) c.args.row.now) (sym c.in-Gray16.is))

pub returns-in-Bgr24 : goal.returns-in-Bgr24
returns-in-Bgr24 c = c.turn_round-in-Bgr24.ensures ∙ (turned_is Bgr24 c.args.row.now ∙ ap (λ (p : Pixel). pnm_pixels (type_of p) c.args.row.now) (sym c.in-Bgr24.is))

pub returns-in-Bgr48 : goal.returns-in-Bgr48
returns-in-Bgr48 c = c.turn_round-in-Bgr48.ensures ∙ (turned_is Bgr48 c.args.row.now ∙ ap (λ (p : Pixel). pnm_pixels (type_of p) c.args.row.now) (sym c.in-Bgr48.is))
