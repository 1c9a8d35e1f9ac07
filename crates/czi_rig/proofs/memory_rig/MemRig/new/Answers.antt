use Rattle.czi_rig.proofs.Clauses.{kept_first}
use Rattle.czi_rig.proofs.memory_rig.MemRig.new.Goals as goal

pub invariant_of-result : goal.invariant_of-result
invariant_of-result c =
    let i = c.in_ok-begun_with in
    let j = c.in_ok-begun_with-2 in
    record {
      kept = kept_first c.args.image.now c.args.journal.now i.field-0.first.items j.field-0.first.items i.field-0.bytes.items j.field-0.bytes.items c.new.result.items c.new-2.result.items
          (record { first_is = i.ensures.first; bytes_are = i.ensures.bytes; fits = λ k. (c.type_inv.image k).fits; small = i.ensures.small })
          (record { first_is = j.ensures.first; bytes_are = j.ensures.bytes; fits = λ k. (c.type_inv.journal k).fits; small = j.ensures.small })
          c.new.ensures.items c.new-2.ensures.items;
    }
