-- What a dimension shows from its first point on.
use Rattle.std.proofs.Common.{◌≡◌, ℕ, ◌<◌, ◌≤◌, ◌+◌, ◌*◌, ◌/◌, ◌-◌, ℤ, pos, negsuc, ◌-ℤ◌, ◌≤ℤ◌, Bool, true, false, ◌&&◌, nat_lt, nat_le, min, Option, None, Some, refl, ap, sym, subst, ◌∙◌, arith, inl, inr}
use Rattle.std.specs.Int.{div_ceil}
use Rattle.std.proofs.lemmas.Int.{ints}
use Rattle.std.proofs.lemmas.Bool.{cases_lt}
use Rattle.std.proofs.lemmas.Bool.Decides.{nat_tests}
use Rattle.std.proofs.Math.Nat.{add-mul-div_right, mul-le-mul_right}
use Rattle.czi_format.specs.Partial.{◌>>=◌, natural, given}
use Rattle.czi_format.specs.Painting.{point, stored_pixel}
use Rattle.czi_tiles.specs.Window.{shown_in}
use Rattle.czi_tiles.proofs.Points.{below_gap}

pub given_false : {A : Type 0} (b : Bool) (x : A) → b ≡ false → given b x ≡ None
given_false true x e = cc
given_false false x e = refl

-- a dimension without a size, or of which nothing is stored, shows nothing
pub no_size : (o : Option ℕ) (m : ℕ) (size stored : ℤ) → size ≤ℤ pos 0 → (o >>= λ k. natural size >>= λ n. natural stored >>= λ u. given (nat_lt k n && nat_lt (k / m) u) (k / m)) ≡ None
no_size None m size stored h = refl
no_size (Some k) m (negsuc n) stored h = refl
no_size (Some k) m (pos n) (negsuc u) h = refl
no_size (Some k) m (pos n) (pos u) h =
    let none : n ≡ 0 = omega (arith, ints) in
    given_false (nat_lt k n && nat_lt (k / m) u) (k / m) (grind (arith, nat_tests))

pub no_stored : (o : Option ℕ) (m : ℕ) (size stored : ℤ) → stored ≤ℤ pos 0 → (o >>= λ k. natural size >>= λ n. natural stored >>= λ u. given (nat_lt k n && nat_lt (k / m) u) (k / m)) ≡ None
no_stored None m size stored h = refl
no_stored (Some k) m (negsuc n) stored h = refl
no_stored (Some k) m (pos n) (negsuc u) h = refl
no_stored (Some k) m (pos n) (pos u) h =
    let none : u ≡ 0 = omega (arith, ints) in
    given_false (nat_lt k n && nat_lt (k / m) u) (k / m) (grind (arith, nat_tests))

pub reached : (gap m i : ℕ) → 1 ≤ m → i * m < gap → i < div_ceil gap m
reached gap m i some low = elim (cases_lt i (div_ceil gap m)) [
  | inl less ↦ less
  | inr more ↦ elim (cases_lt (gap / m) i) [
    | inl past ↦
        let h : (gap / m + 1) * m ≤ i * m = mul-le-mul_right m (omega arith) in
        let e : (gap / m + 1) * m ≡ gap / m * m + m = omega arith in
        absurd (omega (arith, h, e))
    | inr at ↦
        let same : i ≡ gap / m = omega arith in
        let h : i * m ≡ gap / m * m = ap (λ n. n * m) same in
        absurd (omega (arith, h))
  ]
]

same_given : (a b : Bool) (x y : ℕ) → (a ≡ true → b ≡ true) → (b ≡ true → a ≡ true) → x ≡ y → given a x ≡ given b y
same_given true true x y f g e = ap Some e
same_given false false x y f g e = refl
same_given true false x y f g e = absurd (let h : false ≡ true = f refl in cc)
same_given false true x y f g e = absurd (let h : false ≡ true = g refl in cc)

-- from the first point on: pixel t of the window
pub shows : (m n first behind s u count t : ℕ) → 1 ≤ m → first + t < n → count ≡ min (n - first) (min (div_ceil (s - behind) m) (u - behind / m))
    → given (nat_lt (behind + t * m) s && nat_lt ((behind + t * m) / m) u) ((behind + t * m) / m) ≡ shown_in first count (behind / m) (first + t)
shows m n first behind s u count t some inside is =
    let quotient : (behind + t * m) / m ≡ behind / m + t = add-mul-div_right behind t (omega arith) in
    let there : t * m < s - behind → t < div_ceil (s - behind) m = reached (s - behind) m t some in
    let back : t < div_ceil (s - behind) m → t * m < s - behind = below_gap (s - behind) m t some in
    same_given _ _ _ _ (λ h. grind (arith, nat_tests)) (λ h. grind (arith, nat_tests)) (omega (arith, quotient))

-- what a dimension shows, by how far a point lies behind its start
abbrev pub seen : Option ℕ → ℕ → ℤ → ℤ → Option ℕ
seen o m size stored = o >>= λ k. natural size >>= λ n. natural stored >>= λ u. given (nat_lt k n && nat_lt (k / m) u) (k / m)

pub nothing : (i : ℕ) → shown_in 0 0 0 i ≡ None
nothing i = given_false (nat_le 0 i && nat_lt i (0 + 0)) (0 + (i - 0)) (grind (arith, nat_tests))

-- nothing is shown where the first pixel is no pixel of the row
pub behind_all : (m n first : ℕ) (start size stored origin : ℤ) → ((i : ℕ) → i < first → natural (point origin m i -ℤ start) ≡ None) → n ≤ first
    → (i : ℕ) → i < n → stored_pixel m start size stored (point origin m i) ≡ shown_in 0 0 0 i
behind_all m n first start size stored origin before late i low =
    let e : natural (point origin m i -ℤ start) ≡ None = before i (omega arith) in
    ap (λ (o : Option ℕ). seen o m size stored) e ∙ sym (nothing i)

from_first : (m n first behind s u count : ℕ) (start size stored origin : ℤ) → 1 ≤ m → size ≡ pos s → stored ≡ pos u
    → ((t : ℕ) → natural (point origin m (first + t) -ℤ start) ≡ Some (behind + t * m)) → count ≡ min (n - first) (min (div_ceil (s - behind) m) (u - behind / m))
    → (t : ℕ) → first + t < n → stored_pixel m start size stored (point origin m (first + t)) ≡ shown_in first count (behind / m) (first + t)
from_first m n first behind s u count start size stored origin some is_size is_stored after is t inside =
    ap (λ (o : Option ℕ). seen o m size stored) (after t)
    ∙ (ap (λ (z : ℤ). seen (Some (behind + t * m)) m z stored) is_size
    ∙ (ap (λ (z : ℤ). seen (Some (behind + t * m)) m (pos s) z) is_stored
    ∙ shows m n first behind s u count t some inside is))

-- the window of a dimension
pub window : (m n first behind s u count : ℕ) (start size stored origin : ℤ) → 1 ≤ m → size ≡ pos s → stored ≡ pos u
    → ((i : ℕ) → i < first → natural (point origin m i -ℤ start) ≡ None) → ((t : ℕ) → natural (point origin m (first + t) -ℤ start) ≡ Some (behind + t * m))
    → count ≡ min (n - first) (min (div_ceil (s - behind) m) (u - behind / m))
    → (i : ℕ) → i < n → stored_pixel m start size stored (point origin m i) ≡ shown_in first count (behind / m) i
window m n first behind s u count start size stored origin some is_size is_stored before after is i low = elim (cases_lt i first) [
  | inl early ↦
      let e : natural (point origin m i -ℤ start) ≡ None = before i early in
      ap (λ (o : Option ℕ). seen o m size stored) e ∙ sym (given_false (nat_le first i && nat_lt i (first + count)) (behind / m + (i - first)) (grind (arith, nat_tests)))
  | inr late ↦
      let t : ℕ = i - first in
      let e : first + t ≡ i = omega arith in
      subst (λ j. stored_pixel m start size stored (point origin m j) ≡ shown_in first count (behind / m) j) e
      (from_first m n first behind s u count start size stored origin some is_size is_stored after is t (omega (arith, e)))
]

pub given_true : {A : Type 0} (b : Bool) (x : A) → b ≡ true → given b x ≡ Some x
given_true true x e = refl
given_true false x e = cc

-- what a window shows inside
pub inside : (first count from i : ℕ) → first ≤ i → i < first + count → shown_in first count from i ≡ Some (from + (i - first))
inside first count from i low high = given_true (nat_le first i && nat_lt i (first + count)) (from + (i - first)) (grind (arith, nat_tests))
