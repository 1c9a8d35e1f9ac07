use Rattle.std.proofs.Common.{◌≡◌, ℕ, suc, ◌+◌, ◌-◌, ◌++◌, [], ◌∷◌, map, ap, length, length-append, sym, ◌∙◌, arith, append-nil}
use Rattle.czi_doc.specs.View.{dim_of}
use Rattle.czi_format.specs.Entry.{dims}
use Rattle.czi_dv.proofs.Records.{dims_more, no_dims}
use Rattle.czi_dv.proofs.reading.read_dims.Goals as goal

pub loop-i-preserved : goal.loop-i-preserved
loop-i-preserved c =
    let k : ℕ = c.args.count - (c.loop-i.i + 1) in
    let one_less : c.args.count - c.loop-i.i ≡ suc k = omega arith in
    let more = dims_more dim_of c.loop-i.list.items c.read_dim.result k c.loop-i.rest.now c.read_dim.ensures in
    let items : c.push.new.self.items ≡ c.loop-i.list.items ++ c.read_dim.result ∷ [] = c.in_ok-push.ensures.items in
    record {
      left = omega (arith, c.split_at.ensures.back_len, c.loop-i.invariant.left);
      count = ap length items ∙ (simp length-append (omega (arith, c.loop-i.invariant.count)));
      whole = ap (λ xs. map dim_of xs ++ dims k c.split_at.result.1.now) items
          ∙ (ap (λ bytes. map dim_of (c.loop-i.list.items ++ c.read_dim.result ∷ []) ++ dims k bytes) c.split_at.ensures.back
          ∙ (more ∙ (ap (λ n. map dim_of c.loop-i.list.items ++ dims n c.loop-i.rest.now) (sym one_less) ∙ c.loop-i.invariant.whole)));
    }

pub returns-clause-records : goal.returns-clause-records
returns-clause-records c =
    let done : c.args.count - c.loop-i.i ≡ 0 = omega arith in
    sym (append-nil (map dim_of c.loop-i.list.items))
    ∙ (sym (ap (λ l. map dim_of c.loop-i.list.items ++ l) (ap (λ n. dims n c.loop-i.rest.now) done ∙ no_dims c.loop-i.rest.now)) ∙ c.loop-i.invariant.whole)
