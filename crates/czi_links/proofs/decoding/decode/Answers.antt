use Rattle.std.proofs.Common.{⊎_elim, ℕ, drop, refl, sym, ◌∙◌, ap, arith}
use Rattle.czi_format.specs.Bytes.{bytes_at}
use Rattle.czi_links.specs.Reading.{OfVersion, holds, links_at, read}
use Rattle.czi_links.proofs.Answering.{other_version, bad_length, reads_as, refused, rules_kept}
use Rattle.czi_links.proofs.decoding.decode.Goals as goal

pub returns-then-version-ne-VERSION-clause-answer : goal.returns-then-version-ne-VERSION-clause-answer
returns-then-version-ne-VERSION-clause-answer c =
    let is = c.read_u32-version.ensures in
    other_version c.args.slot.now (λ one. c.if-version-ne-VERSION.true (is ∙ one)) ∙ ap (λ (v : ℕ). OfVersion v) (sym is)

pub returns-then-length-lt-LEAST_LENGTH-clause-answer : goal.returns-then-length-lt-LEAST_LENGTH-clause-answer
returns-then-length-lt-LEAST_LENGTH-clause-answer c =
    let is = c.read_u64-length.ensures in
    let either = c.then-length-lt-LEAST_LENGTH.either in
    bad_length c.args.slot.now (sym c.read_u32-version.ensures ∙ c.if-version-ne-VERSION.false) (λ least greatest. ⊎_elim (λ short. omega (arith, short, least, is)) (λ long. omega (arith, long.1, greatest, is)) either)

pub returns-in-Err-clause-answer : goal.returns-in-Err-clause-answer
returns-in-Err-clause-answer c =
    let slot = c.args.slot.now in
    let e = reads_as slot (bytes_at slot 4 16) c.read_u32-version.result c.read_u64-length.result c.read_u32-count.result c.read_u32-version.ensures c.if-version-ne-VERSION.false c.read_u64-length.ensures c.if-length-lt-LEAST_LENGTH.false c.if-length-gt-LONGEST.false c.read_u32-count.ensures refl in
    refused (read slot) (bytes_at slot 4 16) c.read_u64-length.result (links_at c.read_u32-count.result 32 84 c.read_u64-length.result (drop 32 slot)) c.read_links.new.into.links c.clear-in-Err.new.self.links c.in-Err.fault e ((c.in-Err.ensures {u = tt}).links)

pub returns-clause-answer : goal.returns-clause-answer
returns-clause-answer c =
    let slot = c.args.slot.now in
    let e = reads_as slot c.read_bytes.result c.read_u32-version.result c.read_u64-length.result c.read_u32-count.result c.read_u32-version.ensures c.if-version-ne-VERSION.false c.read_u64-length.ensures c.if-length-lt-LEAST_LENGTH.false c.if-length-gt-LONGEST.false c.read_u32-count.ensures c.read_bytes.ensures in
    e ∙ ap (holds c.read_bytes.result c.read_u64-length.result) c.in_default.ensures.links

pub returns-clause-rules : goal.returns-clause-rules
returns-clause-rules c =
    let slot = c.args.slot.now in
    let e = reads_as slot c.read_bytes.result c.read_u32-version.result c.read_u64-length.result c.read_u32-count.result c.read_u32-version.ensures c.if-version-ne-VERSION.false c.read_u64-length.ensures c.if-length-lt-LEAST_LENGTH.false c.if-length-gt-LONGEST.false c.read_u32-count.ensures c.read_bytes.ensures in
    rules_kept slot (record { guid = c.read_bytes.result; committed = c.read_u64-length.result; links = c.read_links.new.into.links }) (e ∙ ap (holds c.read_bytes.result c.read_u64-length.result) c.in_default.ensures.links)
