-- What was read one after another, and what is still to be read.
use Rattle.std.specs.Prelude.{◌≡◌, ℕ, ◌≤◌, List, ◌++◌, length, Some, Result, Ok, Err}
use Rattle.czi_format.specs.Entry.{entry, entry_len}
use Rattle.czi_dv.specs.View.{entry_of}
use Rattle.czi_dv.specs.declared.entry.Entry.{Entry as CodeEntry}

-- these, and then those that the rest gives
abbrev pub after : {X E : Type 0} → List X → Result (List X) E → Result (List X) E
after done (Ok rest) = Ok (done ++ rest)
after done (Err fault) = Err fault

-- the entry at the front of the bytes, and its length
pub record ReadsEntry (bytes : List ℕ) (e : CodeEntry) (len : ℕ) : Type 0 where
  pub read : entry bytes ≡ Some (entry_of e)
  pub len_is : len ≡ entry_len (entry_of e)
  pub fits : len ≤ length bytes
