-- How long the data of a new attachment is.
use Rattle.std.specs.Prelude.{ℕ, ◌+◌}
use Rattle.czi_format.specs.declared.numbers.TheConstants.{CONTENTS}

-- how long the data is without padding, from the length of the attachment
abbrev pub att_length : ℕ → ℕ
att_length n = CONTENTS + n
