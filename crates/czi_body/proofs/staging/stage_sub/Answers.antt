use Rattle.std.proofs.Common.{◌≡◌, ℕ, ◌+◌, ◌-◌, List, length, ap, ◌∙◌, sym, subst, arith}
use Rattle.czi_format.specs.Data.{subblock_data}
use Rattle.czi_format.specs.Span.{round32}
use Rattle.czi_num.specs.Padding.{fill}
use Rattle.czi_num.proofs.Padding.{filled}
use Rattle.czi_region.specs.Pieces.{PutsPiece, bytes_put, room}
use Rattle.czi_region.specs.declared.block.Piece.{Piece}
use Rattle.czi_body.specs.Staged.{sub_data, sub_length}
use Rattle.czi_body.proofs.Staged.{data_put, parts_data, length-sub_data, length-sub_front, length-subblock_data}
use Rattle.czi_body.proofs.staging.stage_sub.Goals as goal

pub returns : goal.returns
returns c =
    let entry : List ℕ = c.args.entry.now in
    let meta : List ℕ = c.args.meta.now in
    let pixels : List ℕ = c.args.pixels.now in
    let tail : List ℕ = c.args.tail.now in
    let used : ℕ = sub_length (length entry) (length meta) (length pixels) (length tail) in
    let data' : List ℕ = sub_data entry meta pixels tail (fill used) in
    let piece : Piece = record { at = c.put_sub_front-front.result.at; len = c.padded-len.result } in
    let size : c.padded-len.result ≡ round32 used = c.padded-len.ensures.value ∙ ap round32 c.sub_used-used.ensures in
    let padding : c.padded-len.result - c.sub_used-used.result ≡ fill used = λ i. size i - c.sub_used-used.ensures i in
    let put = data_put (bytes_put c.args.region.now) entry meta pixels tail
    (bytes_put c.put_sub_front-front.new.region) (bytes_put c.put_contents.new.region) (bytes_put c.zeros.new.self)
    (c.padded-len.result - c.sub_used-used.result) (fill used) padding c.put_sub_front-front.ensures.put c.put_contents.ensures.bytes c.zeros.ensures.bytes in
    let long : length data' ≡ used + fill used = length-sub_data entry meta pixels tail (fill used) in
    let left : room c.zeros.new.self + (used + fill used) ≡ room c.args.region.now =
    omega (
      arith,
      padding,
      length-sub_front entry (length meta) (length pixels) (length tail),
      c.put_sub_front-front.ensures.left,
      c.put_contents.ensures.room,
      c.zeros.ensures.room,
    ) in
    let staged : PutsPiece c.args.region.now c.zeros.new.self piece data' =
    c.whole_piece.ensures c.args.region.now c.zeros.new.self piece data' put
    (ap (λ n. room c.zeros.new.self + n) long ∙ left) c.put_sub_front-front.ensures.behind (size ∙ sym (long ∙ filled used)) in
    record {
      staged = staged;
      size = size;
      subblock = λ e s are.
          subst (PutsPiece c.args.region.now c.zeros.new.self piece)
          (parts_data e s entry meta pixels tail (fill used) are ∙ ap (λ n. subblock_data e s (fill n)) (sym (length-subblock_data e s entry meta pixels tail are))) staged;
    }
