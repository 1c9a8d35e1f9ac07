use Rattle.std.proofs.Common.{◌≡◌, ◌*◌, true, nat_lt, Option, Some, None, refl, ap, sym, ◌∙◌, arith, if◌then◌else◌}
use Rattle.std.proofs.lemmas.Bool.Decides.{nat_tests}
use Rattle.czi_doc.specs.QueryView.{query_of}
use Rattle.czi_format.specs.Painting.{Query}
use Rattle.czi_format.specs.PaintRefusals.{PaintRefusal, too_long, region_bytes}
use Rattle.czi_format.specs.declared.regions.TheConstants.{REGION_LIMIT}
use Rattle.czi_paint.proofs.length.too_long.Goals as goal

pub returns-then-bytes : goal.returns-then-bytes
returns-then-bytes c =
    let q : Query = query_of c.args.query.now in
    let same : c.bytes.result ≡ q.pixel.size = c.bytes.ensures.size in
    let bytes : c.args.query.now.w * c.args.query.now.h * c.bytes.result ≡ region_bytes q = ap (λ n. c.args.query.now.w * c.args.query.now.h * n) same in
    let long : nat_lt REGION_LIMIT (region_bytes q) ≡ true = grind (arith, nat_tests) in (
      too_long (c.args.query.now.w * c.args.query.now.h * c.bytes.result) REGION_LIMIT,
      refl,
      ap (λ b. let o : Option PaintRefusal = if b then Some (too_long (region_bytes q) REGION_LIMIT) else None in o) long ∙ ap (λ n. Some (too_long n REGION_LIMIT)) (sym bytes),
    )
