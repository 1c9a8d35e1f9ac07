use Rattle.std.proofs.Common.{◌≡◌, ◌+◌, ◌≤◌, length, vec_len, vec_capacity}
use Rattle.czi_image.specs.Change.{AreWithin}
use Rattle.czi_image.proofs.Acting.{acted}
use Rattle.czi_image.proofs.applying.act_all.Given as goal

abbrev pub invariant-loop-act : goal.invariant-loop-act
invariant-loop-act g l = record {
  acted : acted l.act-iterator.rest.items l.items.items ≡ acted l.fn.acts.items l.fn.items.items;
  within : AreWithin l.act-iterator.rest.items (length l.items.items);
  room : vec_len l.items + length l.act-iterator.rest.items ≤ vec_capacity l.items;
  capacity : vec_capacity l.items ≡ vec_capacity l.fn.items;
}
