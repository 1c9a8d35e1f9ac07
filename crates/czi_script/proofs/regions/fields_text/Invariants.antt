use Rattle.std.proofs.Common.{◌≡◌, map, take}
use Rattle.czi_script.specs.Words.{fields_text}
use Rattle.czi_script.proofs.regions.fields_text.Given as goal

-- the fields so far stand in the text
abbrev pub invariant-loop-field : goal.invariant-loop-field
invariant-loop-field l = l.text.items ≡ fields_text (map (λ s. s.now) (take l.field-index l.fields))
