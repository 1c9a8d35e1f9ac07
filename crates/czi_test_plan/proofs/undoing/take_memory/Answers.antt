use Rattle.std.proofs.Common.{◌∙◌}
use Rattle.czi_plan.specs.Conditions.{IsEmpty}
use Rattle.czi_plan.specs.Need.{PlansSame}
use Rattle.czi_plan.specs.declared.plan.EditPlan.{EditPlan}
use Rattle.czi_test_plan.proofs.undoing.take_memory.Goals as goal

-- a plan with more memory is as empty
empty_too : (p q : EditPlan) → PlansSame p q → IsEmpty p → IsEmpty q
empty_too p q same e = record {
  change = record { directory = same.directory ∙ e.change.directory; tiles = same.tiles ∙ e.change.tiles; attdir = same.attdir ∙ e.change.attdir; attachments = same.attachments ∙ e.change.attachments; metadata = same.metadata ∙ e.change.metadata };
  writes = same.writes ∙ e.writes;
  links = same.links ∙ e.links;
  used = same.used ∙ e.used;
  freed = same.freed ∙ e.freed;
  held = same.held ∙ e.held;
  marks = same.marks ∙ e.marks;
  dead = same.dead ∙ e.dead;
}

pub returns-in_err-reserve-clause-empty : goal.returns-in_err-reserve-clause-empty
returns-in_err-reserve-clause-empty c = empty_too c.args.out.now c.reserve.new.self c.reserve.ensures.same c.requires.empty

pub returns-clause-empty : goal.returns-clause-empty
returns-clause-empty c = empty_too c.args.out.now c.reserve.new.self c.reserve.ensures.same c.requires.empty
