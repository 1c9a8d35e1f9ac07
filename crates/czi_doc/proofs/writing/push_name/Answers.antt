use Rattle.std.proofs.Common.{◌≡◌, ◌++◌, ◌+◌, drop, get_or, ap, ◌∙◌}
use Rattle.czi_format.specs.Text.{byte_text, bytes_text, up_to_zero}
use Rattle.czi_doc.proofs.Appended.{name_at, name_zero_at, name_over_at, grows_by, grows_both}
use Rattle.czi_doc.proofs.writing.push_name.Goals as goal

pub loop-byte-preserved : goal.loop-byte-preserved
loop-byte-preserved c =
    let grown : c.push_byte.new.out.items ≡ c.loop-byte.out.items ++ byte_text (get_or c.args.name.now c.loop-byte.byte-index 0) = c.in_ok-push_byte.ensures.ok in
    record {
      whole = ap (λ z. z ++ bytes_text (up_to_zero (drop (c.loop-byte.byte-index + 1) c.args.name.now))) grown
          ∙ name_at _ _ _ _ c.loop-byte-test.true c.if-byte-eq0.false c.loop-byte.invariant.whole;
      grows = grows_both _ _ _ c.loop-byte.invariant.grows (grows_by _ _ _ grown);
    }

pub returns-after-loop-byte-clause-ok : goal.returns-after-loop-byte-clause-ok
returns-after-loop-byte-clause-ok c = name_over_at _ _ _ _ c.loop-byte-test.false c.loop-byte.invariant.whole

pub returns-then-byte-eq0-clause-ok : goal.returns-then-byte-eq0-clause-ok
returns-then-byte-eq0-clause-ok c = name_zero_at _ _ _ _ c.loop-byte-test.true c.if-byte-eq0.true c.loop-byte.invariant.whole
