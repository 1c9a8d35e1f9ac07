-- Pixels in a row, of n bytes each: their parts, and a span of them laid over.
use Rattle.std.proofs.Common.{◌≡◌, ℕ, zero, suc, ◌<◌, ◌≤◌, ◌+◌, ◌*◌, ◌-◌, List, ◌++◌, length, take, drop, flat_map, refl, ap, sym, ◌∙◌, arith, append_assoc, append-nil, length-append}
use Rattle.std.specs.List.{range_with_len}
use Rattle.std.proofs.lemmas.List.{take_at, drop_at}
use Rattle.std.proofs.Math.Seq.{take-add}
use Rattle.std.proofs.lemmas.List.{drop-drop}
use Rattle.czi_format.specs.Bytes.{bytes_at, put_at}

-- m pixels from number a on
abbrev pub pixels : (ℕ → List ℕ) → ℕ → ℕ → List ℕ
pixels g a m = flat_map g (range_with_len a m)

pub pixels_split : (g : ℕ → List ℕ) (a m k : ℕ) → pixels g a (m + k) ≡ pixels g a m ++ pixels g (a + m) k
pixels_split g a zero k =
    let e : a + 0 ≡ a = omega arith in
    let f : 0 + k ≡ k = omega arith in
    rw (e, f) refl
pixels_split g a (suc m) k =
    let e : suc m + k ≡ suc (m + k) = omega arith in
    let f : a + suc m ≡ a + 1 + m = omega arith in
    rw (e, f) (ap (λ rest. g a ++ rest) (pixels_split g (a + 1) m k) ∙ sym (append_assoc (g a) (pixels g (a + 1) m) (pixels g (a + 1 + m) k)))

-- one pixel more
pub one_more : (g : ℕ → List ℕ) (m : ℕ) → pixels g 0 (m + 1) ≡ pixels g 0 m ++ g m
one_more g m =
    let z : 0 + m ≡ m = omega arith in
    pixels_split g 0 m 1 ∙ (ap (λ k. pixels g 0 m ++ pixels g k 1) z ∙ ap (λ l. pixels g 0 m ++ l) (append-nil (g m)))

pub length_pixels : (g : ℕ → List ℕ) (n a m : ℕ) → ((i : ℕ) → a ≤ i → i < a + m → length (g i) ≡ n) → length (pixels g a m) ≡ m * n
length_pixels g n a zero each = omega arith
length_pixels g n a (suc m) each =
    let first : length (g a) ≡ n = each a (omega arith) (omega arith) in
    let rest : length (pixels g (a + 1) m) ≡ m * n = length_pixels g n (a + 1) m (λ i low high. each i (omega arith) (omega arith)) in
    let e : suc m * n ≡ n + m * n = omega arith in
    rw (length-append (g a) (pixels g (a + 1) m)) (omega (arith, first, rest, e))

pub same_pixels : (g h : ℕ → List ℕ) (a m : ℕ) → ((i : ℕ) → a ≤ i → i < a + m → g i ≡ h i) → pixels g a m ≡ pixels h a m
same_pixels g h a zero each = refl
same_pixels g h a (suc m) each =
    let first : g a ≡ h a = each a (omega arith) (omega arith) in
    let rest : pixels g (a + 1) m ≡ pixels h (a + 1) m = same_pixels g h (a + 1) m (λ i low high. each i (omega arith) (omega arith)) in
    λ i. first i ++ rest i

pub cut : (src : List ℕ) (at a b : ℕ) → bytes_at src at (a + b) ≡ bytes_at src at a ++ bytes_at src (at + a) b
unfolding bytes_at
cut src at a b = take-add a b (drop at src) ∙ ap (λ rest. take a (drop at src) ++ take b rest) (drop-drop a at src)

-- pixels that stand one behind another in a list of bytes
pub run : (h : ℕ → List ℕ) (src : List ℕ) (n a m base : ℕ) → ((i t : ℕ) → a + t ≡ i → t < m → h i ≡ bytes_at src (base + t * n) n) → pixels h a m ≡ bytes_at src base (m * n)
unfolding bytes_at
run h src n a zero base each = let e : 0 * n ≡ 0 = omega arith in rw e refl
run h src n a (suc m) base each =
    let e : suc m * n ≡ n + m * n = omega arith in
    let z : base + 0 * n ≡ base = omega arith in
    let first : h a ≡ bytes_at src base n = each a 0 (omega arith) (omega arith) ∙ ap (λ k. bytes_at src k n) z in
    let rest : pixels h (a + 1) m ≡ bytes_at src (base + n) (m * n) = run h src n (a + 1) m (base + n) (λ i t is low.
    let s : base + (t + 1) * n ≡ base + n + t * n = omega arith in
    each i (t + 1) (omega arith) (omega arith) ∙ ap (λ k. bytes_at src k n) s) in
    (λ i. first i ++ rest i) ∙ (sym (cut src base n (m * n)) ∙ ap (λ k. bytes_at src base k) (sym e))

-- a span of pixels laid over some of a row
pub laid : (g h all : ℕ → List ℕ) (n first count w : ℕ) → first + count ≤ w → ((i : ℕ) → i < w → length (g i) ≡ n) → ((i : ℕ) → first ≤ i → i < first + count → length (h i) ≡ n)
    → ((i : ℕ) → i < first → all i ≡ g i) → ((i : ℕ) → first ≤ i → i < first + count → all i ≡ h i) → ((i : ℕ) → first + count ≤ i → all i ≡ g i)
    → put_at (pixels g 0 w) (first * n) (pixels h first count) ≡ pixels all 0 w
laid g h all n first count w fits of_g of_h before within behind =
    let rest : ℕ = w - (first + count) in
    let whole : first + (count + rest) ≡ w = omega arith in
    let p1 : List ℕ = pixels g 0 first in
    let p2 : List ℕ = pixels g first count in
    let p3 : List ℕ = pixels g (first + count) rest in
    let b : List ℕ = pixels h first count in
    let z : 0 + first ≡ first = omega arith in
    let cut_at : (f : ℕ → List ℕ) → pixels f 0 w ≡ pixels f 0 first ++ (pixels f first count ++ pixels f (first + count) rest) = λ f.
    ap (λ k. pixels f 0 k) (sym whole) ∙ (pixels_split f 0 first (count + rest) ∙ (ap (λ k. pixels f 0 first ++ pixels f k (count + rest)) z ∙ ap (λ t. pixels f 0 first ++ t) (pixels_split f first count rest))) in
    let long1 : length p1 ≡ first * n = length_pixels g n 0 first (λ i low high. of_g i (omega arith)) in
    let long2 : length p2 ≡ count * n = length_pixels g n first count (λ i low high. of_g i (omega arith)) in
    let long_b : length b ≡ count * n = length_pixels h n first count of_h in
    let front : take (first * n) (p1 ++ (p2 ++ p3)) ≡ p1 = take_at p1 (p2 ++ p3) (first * n) long1 in
    let both : length (p1 ++ p2) ≡ first * n + length b = length-append p1 p2 ∙ omega (arith, long1, long2, long_b) in
    let back : drop (first * n + length b) (p1 ++ (p2 ++ p3)) ≡ p3 = ap (λ l. drop (first * n + length b) l) (sym (append_assoc p1 p2 p3)) ∙ drop_at (p1 ++ p2) p3 (first * n + length b) both in
    let new1 : pixels all 0 first ≡ p1 = same_pixels all g 0 first (λ i low high. before i (omega arith)) in
    let new2 : pixels all first count ≡ b = same_pixels all h first count within in
    let new3 : pixels all (first + count) rest ≡ p3 = same_pixels all g (first + count) rest (λ i low high. behind i low) in
    ap (λ l. take (first * n) l ++ b ++ drop (first * n + length b) l) (cut_at g)
    ∙ ((λ i. front i ++ b ++ back i) ∙ (append_assoc p1 b p3 ∙ sym (cut_at all ∙ λ i. new1 i ++ (new2 i ++ new3 i))))
