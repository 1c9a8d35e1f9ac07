-- What a command makes of the machine's state, and its reply.
use Rattle.std.specs.Prelude.{◌≡◌, ℕ, List, None, Result, Ok, Err}
use Rattle.czi_engine.specs.Editing.{Goes, origin_by, state_by}
use Rattle.czi_engine.specs.Standing.{Origin}
use Rattle.czi_machine.specs.Edit.{Edit, Refusal, add, attach, detach, reattach, remove, replace, set_meta, too_long}
use Rattle.czi_machine.specs.Machine.{after_edit, after_undo}
use Rattle.czi_machine.specs.State.{State}
use Rattle.czi_report.specs.Replies.{no_line, ok_line}
use Rattle.czi_report.specs.States.{list_of, info_of, map_of, check_of}
use Rattle.czi_format.specs.Painting.{Query}
use Rattle.czi_format.specs.PaintRefusals.{region_refusal}
use Rattle.czi_editor.specs.Regions.{region_reply}
use Rattle.czi_script.specs.Script.{Command, Add, Replace, Remove, Attach, Reattach, Detach, SetMeta, Undo, Region, Listing, Info, Map, Check, Past}

-- What a command asks of the machine: to go on to another state, or to be told something of the one that there is.
pub data Asked : Type 0 where
  leads : Goes → Asked
  tells : (State → List ℕ) → Asked

abbrev pub edits : Edit → Asked
edits e = leads (λ s. after_edit s e)

abbrev pub asked : Command → Asked
asked (Add info meta pixels tail) = edits (add (record { info = info; meta = meta; pixels = pixels; tail = tail }))
asked (Replace info meta pixels tail) = edits (replace (record { info = info; meta = meta; pixels = pixels; tail = tail }))
asked (Remove dims) = edits (remove dims)
asked (Attach info bytes) = edits (attach (record { info = info; bytes = bytes }))
asked (Reattach info bytes) = edits (reattach (record { info = info; bytes = bytes }))
asked (Detach name) = edits (detach name)
asked (SetMeta xml tail) = edits (set_meta (record { xml = xml; tail = tail }))
asked Undo = leads after_undo
asked (Region q) = tells (λ s. region_reply q s.document.subblocks)
asked Listing = tells (λ s. list_of s.document s.layout)
asked Info = tells (λ s. info_of s.document s.layout)
asked Map = tells map_of
asked Check = tells (λ s. check_of s.layout)
asked (Past len limit) = tells (λ s. no_line (too_long len limit))

-- the reply to a command that goes on, or is refused
abbrev pub edit_reply : Result State Refusal → List ℕ
edit_reply (Ok s) = ok_line s.number
edit_reply (Err refusal) = no_line refusal

-- the state after what was asked, the items that have been there since the start, and the reply
abbrev pub after_asked : State → Asked → State
after_asked s (leads go) = state_by go s
after_asked s (tells text) = s

abbrev pub origin_asked : Origin → State → Asked → Origin
origin_asked o s (leads go) = origin_by go o s
origin_asked o s (tells text) = o

abbrev pub reply_asked : State → Asked → List ℕ
reply_asked s (leads go) = edit_reply (go s)
reply_asked s (tells text) = text s

-- to be told something changes nothing, and neither does what the machine refuses
abbrev pub still_asked : State → Asked → Type 0
still_asked s (leads go) = (refusal : Refusal) × (go s ≡ Err refusal)
still_asked s (tells text) = Unit {0}

-- the state after a command of a script
abbrev pub after : State → Command → State
after s c = after_asked s (asked c)

-- the items that have been there since the start
abbrev pub origin_then : Origin → State → Command → Origin
origin_then o s c = origin_asked o s (asked c)

-- its reply
abbrev pub reply : State → Command → List ℕ
reply s c = reply_asked s (asked c)

-- a query, or a command that the machine refuses
abbrev pub still : State → Command → Type 0
still s c = still_asked s (asked c)

-- a command that looks into the image for its reply: a region that is painted
abbrev pub looks : State → Command → Type 0
looks s c = (q : Query) × (c ≡ Region q) × (region_refusal q s.document.subblocks ≡ None)
