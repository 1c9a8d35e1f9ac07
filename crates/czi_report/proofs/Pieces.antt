-- A piece was appended, and then more.
use Rattle.std.proofs.Common.{◌≡◌, ℕ, List, ◌++◌, Result, Ok, Err, OnErr}
use Rattle.czi_doc.specs.Grows.{Grows}
use Rattle.czi_doc.proofs.Appended.{grows_by, grows_both}

pub grows_after : (before piece middle now : List ℕ) → middle ≡ before ++ piece → Grows middle now → Grows before now
grows_after before piece middle now is g = grows_both before middle now (grows_by before middle piece is) g

pub on_err : {T E Q : Type 0} (r : Result T E) → Q → OnErr r Q
on_err (Ok x) q = tt
on_err (Err e) q = q
