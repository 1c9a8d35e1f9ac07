-- UpdatePending is 0 where each of its four bytes is.
use Rattle.std.proofs.Common.{◌≡◌, ℕ, zero, suc, ◌+◌, ◌-◌, ◌<◌, ◌≤◌, ◌^◌, pos, List, take, drop, get_or, ap, sym, ◌∙◌, arith}
use Rattle.std.specs.Int.{cast_unsigned, from_le_bytes, w32}
use Rattle.std.proofs.lemmas.Int.{of_z-to_z}
use Rattle.std.proofs.lemmas.List.{get_or-take, get_or-drop}
use Rattle.czi_format.specs.Bytes.{IsBytes, bytes_at, i32_at}
use Rattle.czi_format.specs.Live.{update_pending}
use Rattle.czi_format.proofs.Limits.{part_bytes}
use Rattle.czi_image.specs.Holds.{IsSettled}

below : (bytes : List ℕ) → IsBytes bytes → from_le_bytes w32 bytes < 2 ^ 32
below bytes is = omega (arith, is 0, is 1, is 2, is 3)

zeros_of : (bytes : List ℕ) → from_le_bytes w32 bytes ≡ 0 → (i : ℕ) → i < 4 → get_or bytes i 0 ≡ 0
zeros_of bytes none zero small = omega (arith, none)
zeros_of bytes none (suc zero) small = omega (arith, none)
zeros_of bytes none (suc (suc zero)) small = omega (arith, none)
zeros_of bytes none (suc (suc (suc zero))) small = omega (arith, none)
zeros_of bytes none (suc (suc (suc (suc i)))) small = absurd (omega (arith, small))

part : (bytes : List ℕ) (i : ℕ) → i < 4 → get_or (bytes_at bytes 100 4) i 0 ≡ get_or bytes (100 + i) 0
unfolding bytes_at
part bytes i small = get_or-take 4 (drop 100 bytes) i 0 small ∙ get_or-drop 100 bytes i 0

pub whole_settled : (bytes : List ℕ) → IsBytes bytes → update_pending bytes ≡ pos 0 → IsSettled bytes
unfolding i32_at
whole_settled bytes is whole k from to =
    let four : List ℕ = bytes_at bytes 100 4 in
    let none : from_le_bytes w32 four ≡ 0 = sym (of_z-to_z w32 (from_le_bytes w32 four) (below four (part_bytes bytes 100 4 is))) ∙ ap (cast_unsigned w32) whole in
    ap (λ (q : ℕ). get_or bytes q 0) (let e : k ≡ 100 + (k - 100) = omega (arith, from) in e) ∙ (sym (part bytes (k - 100) (omega (arith, to))) ∙ zeros_of four none (k - 100) (omega (arith, to)))

-- so it is of an image whose front has it
pub front_settled : (front image : List ℕ) (n : ℕ) → 104 ≤ n → front ≡ take n (drop 0 image) → IsSettled front → IsSettled image
front_settled front image n long is settled k from to =
    sym (get_or-take n image k 0 (omega (arith, long, to))) ∙ (ap (λ (b : List ℕ). get_or b k 0) (sym is) ∙ settled k from to)
