use Rattle.std.proofs.Common.{rules, w32, SFits, ◌∙◌}
use Rattle.std.proofs.lemmas.Int.{to_z-of_z}
use Rattle.czi_doc.specs.View.{dim_of}
use Rattle.czi_doc.proofs.Appended.{dim_appended, grows_by, grows_same, grows_both, on_err}
use Rattle.czi_doc.proofs.writing.push_dim.Goals as goal

pub returns-in_err-push_number-3-clause-err : goal.returns-in_err-push_number-3-clause-err
returns-in_err-push_number-3-clause-err c = on_err _
    (grows_both _ _ _ (grows_by _ _ _ c.in_ok-push_name.ensures.ok)
    (grows_both _ _ _ (grows_by _ _ _ c.in_ok-push_number.ensures.ok)
    (grows_both _ _ _ (grows_by _ _ _ c.in_ok-push.ensures.items)
    (grows_both _ _ _ (grows_by _ _ _ c.in_ok-push_number-2.ensures.ok)
    (grows_both _ _ _ (grows_by _ _ _ c.in_ok-push-2.ensures.items) (grows_same _ _ c.in_err-push_number-3.ensures.err))))))

pub returns-clause-ok : goal.returns-clause-ok
returns-clause-ok c =
    let start : SFits w32 c.args.dim.now.start = search rules in
    let size : SFits w32 c.args.dim.now.size = search rules in
    let stored : SFits w32 c.stored_size.result = search rules in
    dim_appended (dim_of c.args.dim.now) _ _ _ _ _ _ _ _
    c.in_ok-push_name.ensures.ok (rw (to_z-of_z w32 c.args.dim.now.start start) at c.in_ok-push_number.ensures.ok) c.in_ok-push.ensures.items (rw (to_z-of_z w32 c.args.dim.now.size size) at c.in_ok-push_number-2.ensures.ok) c.in_ok-push-2.ensures.items c.in_ok-push_number-3.ensures.ok (to_z-of_z w32 c.stored_size.result stored ∙ c.stored_size.ensures)
