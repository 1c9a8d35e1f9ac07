use Rattle.std.proofs.Common.{◌≡◌, ◌++◌, ◌∙◌, List, ℕ, ap, ap₂, length, replicate, rules}
use Rattle.czi_format.specs.Bytes.{i32_at}
use Rattle.czi_format.specs.Empty.{empty_head, empty_image, empty_segment}
use Rattle.czi_format.specs.Live.{file_header_bytes}
use Rattle.czi_format.specs.Segment.{header_bytes}
use Rattle.czi_creation.proofs.Bytes.{first_part, image_written}
use Rattle.czi_creation.proofs.image.empty_image.Goals as goal

pub write_file_header-requires-clause-first : goal.write_file_header-requires-clause-first
write_file_header-requires-clause-first c =
    let long : length c.args.guid.now ≡ 16 = search rules in
    ap (λ (l : List ℕ). i32_at l 48) c.empty_identity.ensures ∙ first_part c.args.guid.now long

pub returns : goal.returns
unfolding empty_image
returns c =
    let guid = c.args.guid.now in
    let one : length c.write_file_header.result ≡ 544 = search rules in
    let two : length c.write_header.result ≡ 32 = search rules in
    let head : c.write_file_header.result ≡ file_header_bytes (empty_head guid) =
    c.write_file_header.ensures.written ∙ ap (λ (identity : List ℕ). file_header_bytes (record (empty_head guid) { identity = identity })) c.empty_identity.ensures in
    let directory : c.write_header.result ≡ header_bytes empty_segment = c.write_header.ensures.written in
    image_written c.write_file_header.result c.write_header.result c.write_bytes.new.bytes c.write_bytes-2.new.bytes one two c.write_bytes.ensures.written c.write_bytes-2.ensures.written
    ∙ ap₂ (λ (a b : List ℕ). a ++ (b ++ replicate 128 0)) head directory
