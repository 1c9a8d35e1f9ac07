use Rattle.std.proofs.lemmas.Cmp.{nat_cmp_total}
use Rattle.std.proofs.lemmas.Map.Lookups.{exact_unsigned}
use Rattle.std.proofs.lemmas.Map.Views.{btree_set_contains_iff}
use Rattle.czi_rig.proofs.schedule.is_to_fail.Goals as goal

pub returns : goal.returns
returns c = rw c.contains.ensures (btree_set_contains_iff nat_cmp_total exact_unsigned c.args.to_fail.now c.args.number)
