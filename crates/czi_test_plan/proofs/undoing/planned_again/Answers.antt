use Rattle.std.proofs.Common.{◌≡◌, ℕ, sym, subst}
use Rattle.czi_plan.specs.Conditions.{IsEmpty}
use Rattle.czi_plan.specs.Need.{HasSpare}
use Rattle.czi_plan.specs.declared.need.Need.{Need}
use Rattle.czi_plan.specs.declared.plan.EditPlan.{EditPlan}
use Rattle.czi_test_plan.proofs.undoing.planned_again.Goals as goal

-- a plan of another length is as empty, and has as much memory
empty_too : (p q : EditPlan) (n : ℕ) → q ≡ record p { length = n } → IsEmpty p → IsEmpty q
empty_too p q n same e = subst IsEmpty (sym same) (record { change = e.change; writes = e.writes; links = e.links; used = e.used; freed = e.freed; held = e.held; marks = e.marks; dead = e.dead })

spare_too : (m : Need) (p q : EditPlan) (n : ℕ) → q ≡ record p { length = n } → HasSpare m p → HasSpare m q
spare_too m p q n same h = subst (HasSpare m) (sym same) (record {
  writes = h.writes;
  links = h.links;
  link_bytes = h.link_bytes;
  used = h.used;
  freed = h.freed;
  held = h.held;
  tiles = h.tiles;
  attachments = h.attachments;
  dimensions = h.dimensions;
  marks = h.marks;
  dead = h.dead;
  touched = h.touched;
})

pub plan_inverse-requires-in-Err-clause-empty : goal.plan_inverse-requires-in-Err-clause-empty
plan_inverse-requires-in-Err-clause-empty c = empty_too c.args.out.now _ _ c.in-Err.ensures.left.1 c.requires.empty

pub plan_inverse-requires-in-Err-clause-spare : goal.plan_inverse-requires-in-Err-clause-spare
plan_inverse-requires-in-Err-clause-spare c = spare_too _ c.args.out.now _ _ c.in-Err.ensures.left.1 c.requires.spare

pub plan_inverse-requires-in-Err-clause-room : goal.plan_inverse-requires-in-Err-clause-room
plan_inverse-requires-in-Err-clause-room c = rw c.in-Err.ensures.left.0 c.requires.room
