use Rattle.std.proofs.Common.{◌≡◌, ◌+◌, ◌<◌, ◌≤◌, ℕ, ◌++◌, length, refl, ap, arith, length-append}
use Rattle.std.proofs.lemmas.List.{length-replicate}
use Rattle.czi_format.specs.Text.{byte_text}
use Rattle.czi_script.proofs.Padding.{front_begins, front_ends, front_full, front_next, front_stops, some_rest, no_rest}
use Rattle.czi_script.proofs.Spelling.{byte_len}
use Rattle.czi_script.proofs.bytes_text.padded_by.Goals as goal

pub loop-rest-init : goal.loop-rest-init
loop-rest-init g c = record { front = front_begins g.row.N _ _ refl (length-replicate g.row.N 0) }

pub returns-in_err-byte : goal.returns-in_err-byte
returns-in_err-byte g c = rw c.from_residual.ensures (λ field is. front_stops g.row.N _ _ _ _ c.loop-rest.invariant.front (some_rest _ _ c.is_empty.ensures c.loop-rest-test.true) c.in_err-byte.ensures field is)

pub returns-then-count : goal.returns-then-count
returns-then-count g c = λ field is. front_full g.row.N _ _ _ _ _ _ c.loop-rest.invariant.front c.in_ok-byte.ensures c.if-count.true field is

pub bounds-field-count : goal.bounds-field-count
bounds-field-count g c = less _ _ c.loop-rest.invariant.front.fits c.if-count.false
  where
    less : (a b : ℕ) → a ≤ b → (a ≡ b → ⊥) → a < b
    less a b le ne = grind arith

pub overflow_add-count : goal.overflow_add-count
overflow_add-count g c = search arith

pub loop-rest-smaller : goal.loop-rest-smaller
loop-rest-smaller g c =
    let s = c.in_ok-byte.ensures in
    let a : length c.loop-rest.rest.now ≡ length (byte_text c.in_ok-byte.byte ++ c.in_ok-byte.behind.now) = ap length s.0 in
    let b : length (byte_text c.in_ok-byte.byte ++ c.in_ok-byte.behind.now) ≡ length (byte_text c.in_ok-byte.byte) + length c.in_ok-byte.behind.now = length-append (byte_text c.in_ok-byte.byte) c.in_ok-byte.behind.now in
    let d : 1 ≤ length (byte_text c.in_ok-byte.byte) = byte_len c.in_ok-byte.byte in
    omega (arith, a, b, d)

pub loop-rest-preserved : goal.loop-rest-preserved
loop-rest-preserved g c = record { front = front_next g.row.N _ _ _ _ _ _ c.loop-rest.invariant.front c.in_ok-byte.ensures c.if-count.false }

pub returns : goal.returns
returns g c = front_ends g.row.N _ _ _ _ c.loop-rest.invariant.front (no_rest _ _ c.is_empty.ensures c.loop-rest-test.false)
