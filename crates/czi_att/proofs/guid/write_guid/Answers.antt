use Rattle.std.proofs.Common.{◌≡◌, ◌∙◌, Some, ap, length, option_map, rules, sym}
use Rattle.czi_format.specs.Bytes.{stored_order}
use Rattle.uuid.specs.Text.{hyphenated_text, lower, parsed}
use Rattle.uuid.proofs.RoundTrips.{swap_twice}
use Rattle.uuid.proofs.TextLemmas.{by_index_length}
use Rattle.czi_att.proofs.guid.write_guid.Goals as goal

pub copy_from_slice-requires : goal.copy_from_slice-requires
copy_from_slice-requires c = sym (ap length (c.as_bytes.ensures.value ∙ c.encode_lower-text.ensures.text) ∙ by_index_length 36 _)

pub returns-clause-text : goal.returns-clause-text
returns-clause-text c =
    c.copy_from_slice.ensures.after
    ∙ (c.as_bytes.ensures.value ∙ (c.encode_lower-text.ensures.text ∙ ap (hyphenated_text lower) (c.hyphenated.ensures ∙ c.from_bytes_le.ensures)))

pub returns-clause-reads_back : goal.returns-clause-reads_back
returns-clause-reads_back c =
    let long : length c.args.guid.now ≡ 16 = search rules in
    ap (option_map stored_order) (ap parsed (c.copy_from_slice.ensures.after ∙ c.as_bytes.ensures.value) ∙ sym c.encode_lower-text.ensures.parsed)
    ∙ (ap (λ id. Some (stored_order id)) (c.hyphenated.ensures ∙ c.from_bytes_le.ensures) ∙ ap Some (swap_twice c.args.guid.now long))
