use Rattle.std.proofs.Common.{◌++◌, arith}
use Rattle.czi_plan.specs.Directory.{listed_back, listed_front, listed_middle}
use Rattle.czi_plan.proofs.Entries.{size_of_both, writes_both}
use Rattle.czi_plan.proofs.directory.write_listing.Goals as goal

pub write_middle-back_at-requires : goal.write_middle-back_at-requires
write_middle-back_at-requires c =
    let l = c.args.listing.now in
    omega (arith, c.requires, c.write_entries-middle_at.auto.out, c.write_entries-middle_at.ensures.ends, size_of_both (listed_front l) (listed_middle l ++ listed_back l), size_of_both (listed_middle l) (listed_back l))

pub write_entries-requires : goal.write_entries-requires
write_entries-requires c =
    let l = c.args.listing.now in
    omega (
      arith,
      c.requires,
      c.write_entries-middle_at.auto.out,
      c.write_middle-back_at.auto.out,
      c.write_entries-middle_at.ensures.ends,
      c.write_middle-back_at.ensures.ends,
      size_of_both (listed_front l) (listed_middle l ++ listed_back l),
      size_of_both (listed_middle l) (listed_back l),
    )

pub returns : goal.returns
returns c =
    let l = c.args.listing.now in
    writes_both (listed_front l) (listed_middle l ++ listed_back l) c.args.at c.write_entries-middle_at.result c.write_entries.result c.args.out.now c.write_entries-middle_at.new.out c.write_entries.new.out (omega (arith, c.requires)) c.write_entries-middle_at.ensures
    (writes_both (listed_middle l) (listed_back l) c.write_entries-middle_at.result c.write_middle-back_at.result c.write_entries.result c.write_entries-middle_at.new.out c.write_middle-back_at.new.out c.write_entries.new.out
    (omega (arith, c.requires, c.write_entries-middle_at.auto.out, c.write_entries-middle_at.ensures.ends, size_of_both (listed_front l) (listed_middle l ++ listed_back l))) c.write_middle-back_at.ensures c.write_entries.ensures)
