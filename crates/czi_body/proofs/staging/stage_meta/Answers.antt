use Rattle.std.proofs.Common.{◌≡◌, ℕ, ◌+◌, ◌-◌, length, ap, ◌∙◌, sym, arith}
use Rattle.czi_format.specs.Data.{metadata_data}
use Rattle.czi_format.specs.Document.{Metadata}
use Rattle.czi_num.specs.Padding.{fill}
use Rattle.czi_num.proofs.Padding.{filled}
use Rattle.czi_region.specs.Pieces.{bytes_put, room}
use Rattle.czi_body.specs.Staged.{meta_length}
use Rattle.czi_body.proofs.Staged.{metadata_put, length-metadata_data}
use Rattle.czi_body.proofs.staging.stage_meta.Goals as goal

pub returns-clause-staged : goal.returns-clause-staged
returns-clause-staged c =
    let m : Metadata = record { xml = c.args.xml.now; tail = c.args.tail.now } in
    let used : ℕ = meta_length (length m.xml) (length m.tail) in
    let padding : c.padded-len.result - used ≡ fill used = ap (λ n. n - used) c.padded-len.ensures.value in
    let put = metadata_put (bytes_put c.args.region.now) c.meta_front.result (bytes_put c.put-front.new.self) (bytes_put c.put.new.self) (bytes_put c.put-2.new.self) (bytes_put c.zeros.new.self) m (c.padded-len.result - used) (fill used)
    padding c.meta_front.ensures c.put-front.ensures.bytes c.put.ensures.bytes c.put-2.ensures.bytes c.zeros.ensures.bytes in
    let front : length c.meta_front.result ≡ 256 = ap length c.meta_front.ensures in
    let long : length (metadata_data m (fill used)) ≡ used + fill used = length-metadata_data m (fill used) in
    let left : room c.zeros.new.self + (used + fill used) ≡ room c.args.region.now =
    omega (arith, padding, front, c.put-front.ensures.room, c.put.ensures.room, c.put-2.ensures.room, c.zeros.ensures.room) in
    c.whole_piece.ensures c.args.region.now c.zeros.new.self _ (metadata_data m (fill used)) put
    (ap (λ n. room c.zeros.new.self + n) long ∙ left) c.put-front.ensures.behind (c.padded-len.ensures.value ∙ sym (long ∙ filled used))
