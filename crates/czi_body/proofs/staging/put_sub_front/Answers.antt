use Rattle.std.proofs.Common.{◌≡◌, ℕ, ◌+◌, List, length, ap, ◌∙◌, arith}
use Rattle.czi_region.specs.Pieces.{bytes_put}
use Rattle.czi_body.specs.Staged.{sub_front}
use Rattle.czi_body.proofs.Staged.{front_put, length-sub_front}
use Rattle.czi_body.proofs.staging.put_sub_front.Goals as goal

pub returns : goal.returns
returns c =
    let entry : List ℕ = c.args.entry.now in
    let front : List ℕ = sub_front entry c.args.meta c.args.pixels c.args.tail in
    let put = front_put (bytes_put c.args.region.now) entry c.sub_sizes.result (bytes_put c.put-sizes.new.self) (bytes_put c.put-own.new.self) (bytes_put c.zeros-filling.new.self)
    c.args.meta c.args.pixels c.args.tail c.saturating_sub.result c.sub_sizes.ensures c.saturating_sub.ensures c.put-sizes.ensures.bytes c.put-own.ensures.bytes c.zeros-filling.ensures.bytes in
    let sizes : length c.sub_sizes.result ≡ 16 = ap length c.sub_sizes.ensures in
    let long : length front ≡ 16 + length entry + c.saturating_sub.result = length-sub_front entry c.args.meta c.args.pixels c.args.tail ∙ omega (arith, c.saturating_sub.ensures) in
    let len : c.put-sizes.result.len + c.put-own.result.len + c.zeros-filling.result.len ≡ length front =
    omega (arith, sizes, long, c.put-sizes.ensures.long, c.put-own.ensures.long, c.zeros-filling.ensures.long) in
    c.whole_piece.ensures c.args.region.now c.zeros-filling.new.self _ front put
    (omega (arith, sizes, long, c.put-sizes.ensures.room, c.put-own.ensures.room, c.zeros-filling.ensures.room)) c.put-sizes.ensures.behind len
