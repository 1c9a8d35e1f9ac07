use Rattle.std.proofs.Common.{◌≡◌, ℕ, ◌+◌, ◌-◌, List, ◌++◌, pos, length, replicate, ap, ◌∙◌, sym, subst, arith, rules}
use Rattle.std.proofs.lemmas.Int.{to_z-of_z}
use Rattle.std.specs.Int.{cast_signed, cast_unsigned, w64}
use Rattle.czi_format.specs.Bytes.{i32_bytes}
use Rattle.czi_format.specs.Data.{attachment_data}
use Rattle.czi_format.specs.Entry.{A1, IsA1, a1_bytes}
use Rattle.czi_doc.specs.View.{att_of}
use Rattle.czi_num.specs.Padding.{fill}
use Rattle.czi_num.proofs.Padding.{filled}
use Rattle.czi_region.specs.Pieces.{bytes_put, room}
use Rattle.czi_att.specs.Staged.{att_length}
use Rattle.czi_att.proofs.Staged.{attachment_put, length-attachment_data}
use Rattle.czi_att.proofs.staging.stage_att.Goals as goal

pub returns : goal.returns
returns c =
    let a : A1 = record { info = att_of c.args.info.now; position = c.args.position } in
    let bytes : List ℕ = c.args.bytes.now in
    let used : ℕ = att_length (length bytes) in
    let place : cast_signed w64 (cast_unsigned w64 c.args.position) ≡ c.args.position = to_z-of_z w64 c.args.position c.ranges.position in
    let is : c.att_front.result ≡ i32_bytes (pos (length bytes)) ++ (replicate 12 0 ++ (a1_bytes a ++ replicate 112 0)) =
    c.att_front.ensures.written ∙ (λ i. i32_bytes (pos (length bytes)) ++ (replicate 12 0 ++ (a1_bytes (record { info = a.info; position = place i }) ++ replicate 112 0))) in
    let padding : c.att_size-len.result - used ≡ fill used = ap (λ n. n - used) c.att_size-len.ensures.value in
    let put = attachment_put (bytes_put c.args.region.now) c.att_front.result (bytes_put c.put-front.new.self) (bytes_put c.put.new.self) (bytes_put c.zeros.new.self) a bytes (c.att_size-len.result - used) (fill used)
    padding is c.put-front.ensures.bytes c.put.ensures.bytes c.zeros.ensures.bytes in
    let front : length c.att_front.result ≡ 256 = search rules in
    let own : IsA1 a = subst (λ z. IsA1 (record { info = a.info; position = z })) place c.att_front.ensures.own in
    let long : length (attachment_data a bytes (fill used)) ≡ used + fill used = length-attachment_data a bytes (fill used) own in
    let left : room c.zeros.new.self + (used + fill used) ≡ room c.args.region.now =
    omega (arith, padding, front, c.put-front.ensures.room, c.put.ensures.room, c.zeros.ensures.room) in
    record {
      staged = c.whole_piece.ensures c.args.region.now c.zeros.new.self _ (attachment_data a bytes (fill used)) put
          (ap (λ n. room c.zeros.new.self + n) long ∙ left) c.put-front.ensures.behind (c.att_size-len.ensures.value ∙ sym (long ∙ filled used));
      own = own;
      size = c.att_size-len.ensures.value;
    }
