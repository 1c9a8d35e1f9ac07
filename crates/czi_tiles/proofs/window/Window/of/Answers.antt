use Rattle.std.proofs.Common.{◌≡◌, ◌-ℤ◌, ◌∙◌, FitsSigned, w32, ◌<◌, ◌*◌, ◌-◌, ◌/◌, min, ℕ, pos, None, Some, ◌+◌, ap, sym, arith}
use Rattle.std.specs.Int.{div_ceil}
use Rattle.std.specs.Int.RustNames.{unsigned_abs}
use Rattle.std.proofs.lemmas.Int.{ints, to_z-of_z}
use Rattle.czi_format.specs.Partial.{natural}
use Rattle.czi_format.specs.Painting.{point}
use Rattle.czi_tiles.proofs.Windows.{no_size, no_stored, nothing, behind_all, window}
use Rattle.czi_tiles.proofs.window.Window.of.Goals as goal
use Rattle.czi_tiles.proofs.window.Window.of.Goals.{then-size-le0-via-then-size-le0, then-size-le0-via-else-size-le0+then-stored-le0, then-size-le0-via-else-size-le0+else-stored-le0+then-first-n}

pub returns-then-size-le0-clause-shows : goal.returns-then-size-le0-clause-shows
returns-then-size-le0-clause-shows c = λ i low.
    let a : FitsSigned w32 c.args.size = c.ranges.size in
    let b : FitsSigned w32 c.args.stored = c.ranges.stored in
    let origin : FitsSigned w32 c.args.origin = c.ranges.origin in
    let start : FitsSigned w32 c.args.start = c.ranges.start in
    let before : (i : ℕ) → i < c.enter-first.result.0 → natural (point c.args.origin c.args.layer i -ℤ c.args.start) ≡ None = simp to_z-of_z at c.enter-first.ensures.before in
    elim c.then-size-le0.branch [
      | then-size-le0-via-then-size-le0 w ↦
          no_size (natural (point c.args.origin c.args.layer i -ℤ c.args.start)) c.args.layer c.args.size c.args.stored (grind (arith, ints, to_z-of_z)) ∙ sym (nothing i)
      | then-size-le0-via-else-size-le0+then-stored-le0 w ↦
          no_stored (natural (point c.args.origin c.args.layer i -ℤ c.args.start)) c.args.layer c.args.size c.args.stored (grind (arith, ints, to_z-of_z)) ∙ sym (nothing i)
      | then-size-le0-via-else-size-le0+else-stored-le0+then-first-n w ↦
          behind_all c.args.layer c.args.n c.enter-first.result.0 c.args.start c.args.size c.args.stored c.args.origin before w.if-first-n.true i low
    ]

pub returns-clause-shows : goal.returns-clause-shows
returns-clause-shows c = λ i low.
    let a : FitsSigned w32 c.args.size = c.ranges.size in
    let b : FitsSigned w32 c.args.stored = c.ranges.stored in
    let origin : FitsSigned w32 c.args.origin = c.ranges.origin in
    let start : FitsSigned w32 c.args.start = c.ranges.start in
    let before : (i : ℕ) → i < c.enter-first.result.0 → natural (point c.args.origin c.args.layer i -ℤ c.args.start) ≡ None = simp to_z-of_z at c.enter-first.ensures.before in
    let after : (t : ℕ) → natural (point c.args.origin c.args.layer (c.enter-first.result.0 + t) -ℤ c.args.start) ≡ Some (c.enter-first.result.1 + t * c.args.layer) = simp to_z-of_z at c.enter-first.ensures.after in
    let size : c.args.size ≡ pos (unsigned_abs c.args.size) = grind (arith, ints, to_z-of_z) in
    let stored : c.args.stored ≡ pos (unsigned_abs c.args.stored) = grind (arith, ints, to_z-of_z) in
    let covered : c.saturating_sub.result ≡ unsigned_abs c.args.size - c.enter-first.result.1 = simp to_z-of_z at c.saturating_sub.ensures in
    let there : c.saturating_sub-there.result ≡ unsigned_abs c.args.stored - c.enter-first.result.1 / c.args.layer = simp to_z-of_z at c.saturating_sub-there.ensures in
    let count : c.min-2.result ≡ min (c.args.n - c.enter-first.result.0) (min (div_ceil (unsigned_abs c.args.size - c.enter-first.result.1) c.args.layer) (unsigned_abs c.args.stored - c.enter-first.result.1 / c.args.layer))
    = c.min-2.ensures ∙ ap (λ n. min (c.args.n - c.enter-first.result.0) n) (c.min.ensures ∙ (ap (λ n. min n c.saturating_sub-there.result) (c.div_ceil-covered.ensures ∙ ap (λ n. div_ceil n c.args.layer) covered)
    ∙ ap (λ n. min (div_ceil (unsigned_abs c.args.size - c.enter-first.result.1) c.args.layer) n) there)) in
    window c.args.layer c.args.n c.enter-first.result.0 c.enter-first.result.1 (unsigned_abs c.args.size) (unsigned_abs c.args.stored) c.min-2.result
    c.args.start c.args.size c.args.stored c.args.origin c.requires size stored before after count i low
