-- The replies to edits.
use Rattle.std.specs.Prelude.{ℕ, List, ◌++◌, codes}
use Rattle.czi_machine.specs.Edit.{Refusal, too_long, no_key, duplicate, too_many, nothing, full}
use Rattle.czi_report.specs.Text.{line_feed, number_line, numbers_line}

-- an edit was accepted, as the one with this number
unfoldable pub ok_line : ℕ → List ℕ
ok_line number = number_line (codes "ok ") number

-- it was refused
unfoldable pub no_line : Refusal → List ℕ
no_line (too_long length limit) = numbers_line (codes "no long ") length limit
no_line no_key = codes "no key" ++ line_feed
no_line (duplicate place) = number_line (codes "no duplicate ") place
no_line (too_many count) = number_line (codes "no many ") count
no_line nothing = codes "no nothing" ++ line_feed
no_line (full need length) = numbers_line (codes "no full ") need length
