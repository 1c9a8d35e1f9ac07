use Rattle.czi_format.specs.Text.{dim_text, dims_text}
use Rattle.czi_doc.specs.View.{dim_of}
use Rattle.czi_doc.proofs.Appended.{items_over, grows_by, grows_both, on_err}
use Rattle.czi_doc.proofs.writing.push_dims.Goals as goal

pub returns-in_err-push_dim-2-clause-err : goal.returns-in_err-push_dim-2-clause-err
returns-in_err-push_dim-2-clause-err c = on_err _
    (grows_both _ _ _ (grows_by _ _ _ c.loop-dim.invariant) (grows_both _ _ _ (grows_by _ _ _ c.in_ok-push.ensures.items) c.in_err-push_dim-2.ensures.err))

pub returns-clause-ok : goal.returns-clause-ok
unfolding dims_text
returns-clause-ok c = items_over dim_text dim_of _ _ _ _ _ c.loop-dim-test.false c.loop-dim.invariant
