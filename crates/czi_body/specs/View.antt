-- The fronts of the code, as the format's definitions see them.
use Rattle.czi_format.specs.Contents.{SubHead, MetaHead}
use Rattle.czi_body.specs.declared.fronts.SubHead.{SubHead as CodeSubHead}
use Rattle.czi_body.specs.declared.fronts.MetaHead.{MetaHead as CodeMetaHead}

abbrev pub sub_head_of : CodeSubHead → SubHead
sub_head_of h = record { begin = h.begin; meta = h.meta; pixels = h.pixels; tail = h.tail }

abbrev pub meta_head_of : CodeMetaHead → MetaHead
meta_head_of h = record { xml = h.xml; tail = h.tail }
