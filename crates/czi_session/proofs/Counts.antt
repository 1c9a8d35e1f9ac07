-- How many replies were said.
use Rattle.std.proofs.Common.{◌≡◌, ◌⊎◌, ⊎_elim, ℕ, zero, suc, ◌+◌, ◌<◌, ◌≤◌, List, [], ◌∷◌, length, take, ◌++◌, ap, refl, arith, length-append}
use Rattle.std.specs.List.{concat}
use Rattle.std.proofs.lemmas.Bool.{cases_lt}
use Rattle.czi_session.specs.Course.{Said, BeginsWith, text_at}

-- more replies are longer
longer : (rs : List (List ℕ)) (last : List ℕ) (k n : ℕ) → k < n → k < length rs → length (concat (take k rs)) + length (text_at rs last k) ≤ length (concat (take n rs))
longer [] last k n lt in_rs = absurd (omega arith)
longer (r ∷ rs) last zero zero lt in_rs = absurd (omega arith)
longer (r ∷ rs) last zero (suc n) lt in_rs = omega (arith, length-append r (concat (take n rs)))
longer (r ∷ rs) last (suc k) zero lt in_rs = absurd (omega arith)
longer (r ∷ rs) last (suc k) (suc n) lt in_rs = omega (arith, length-append r (concat (take k rs)), length-append r (concat (take n rs)), longer rs last k n (omega arith) (omega arith))

length_begins : (start bytes : List ℕ) → BeginsWith start bytes → length start ≤ length bytes
length_begins start bytes b = omega (arith, ap (λ (x : List ℕ). length x) b.1, length-append start b.0)

-- the first k replies and less than the next one, or all and something more
pub said_is : (rs : List (List ℕ)) (last part : List ℕ) (k : ℕ) → k ≤ length rs → (length part < length (text_at rs last k)) ⊎ (length rs ≤ k) → Said rs (concat (take k rs) ++ part) k
said_is rs last part k among less = record {
  among = among;
  begins = (part, refl);
  greatest = λ n le begins. ⊎_elim
      (λ short. ⊎_elim
      (λ lt. absurd (omega (arith, length_begins (concat (take n rs)) (concat (take k rs) ++ part) begins, length-append (concat (take k rs)) part, longer rs last k n lt (omega arith), short)))
      (λ ge. ge)
      (cases_lt k n))
      (λ all. omega (arith, le, all)) less;
}

-- the number of replies that were said is one
pub said_one : (rs : List (List ℕ)) (said : List ℕ) (k n : ℕ) → Said rs said k → Said rs said n → k ≡ n
said_one rs said k n a b = omega (arith, a.greatest n b.among b.begins, b.greatest k a.among a.begins)
