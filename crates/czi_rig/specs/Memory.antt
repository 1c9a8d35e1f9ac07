-- A rig in memory, by its parts.
use Rattle.std.specs.Prelude.{ℕ}
use Rattle.czi_rig.specs.declared.log.Log.{Log}
use Rattle.czi_rig.specs.declared.content.Content.{Content}
use Rattle.czi_rig.specs.Replay.{History, Faults}

-- what its files had at first, and the calls since
abbrev pub history : Content → Content → Log → History
history image journal log = record { image = image.first.items; journal = journal.first.items; calls = log.calls.items }

-- its counts of faults
abbrev pub faults : Content → Content → ℕ → Faults
faults image journal output = record { image = image.faults; journal = journal.faults; output = output }
