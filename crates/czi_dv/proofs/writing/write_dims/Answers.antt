use Rattle.std.proofs.Common.{◌++◌, drop, take, ap, sym, ◌∙◌, append-nil, take-append-drop, arith}
use Rattle.czi_doc.specs.View.{dim_of}
use Rattle.czi_dv.proofs.Written.{written_more, written_all}
use Rattle.czi_dv.proofs.writing.write_dims.Goals as goal

pub loop-i-init : goal.loop-i-init
loop-i-init c = record {
  written = sym (ap (λ l. l ++ drop 32 c.args.out.now) (append-nil (take 32 c.args.out.now)) ∙ take-append-drop 32 c.args.out.now);
  records = tt;
}

pub loop-i-preserved : goal.loop-i-preserved
loop-i-preserved c =
    written_more dim_of c.args.list.now c.args.out.now c.loop-i.out c.write_bytes.new.bytes c.loop-i.i _ c.dim_record.result c.loop-i.invariant c.loop-i-test.true c.requires
    c.dim_record.ensures.is c.dim_record.ensures.written c.write_bytes.ensures.written

pub returns-clause-written : goal.returns-clause-written
returns-clause-written c = (written_all dim_of c.args.list.now c.args.out.now c.loop-i.out c.loop-i.i c.loop-i.invariant (omega arith) c.requires).0

pub returns-clause-records : goal.returns-clause-records
returns-clause-records c = (written_all dim_of c.args.list.now c.args.out.now c.loop-i.out c.loop-i.i c.loop-i.invariant (omega arith) c.requires).1
