-- Pixels turned round, one after another.
use Rattle.std.proofs.Common.{◌≡◌, ℕ, ◌+◌, ◌*◌, ◌-◌, ◌/◌, ◌%◌, ◌<◌, ◌≤◌, List, [], ◌∷◌, ◌++◌, length, take, drop, reverse, refl, ap, sym, ◌∙◌, arith, append_assoc, append-nil}
use Rattle.std.proofs.lemmas.List.{take_at, drop_at, drop-drop, drop_all, take_all, length-reverse}
use Rattle.std.proofs.Math.Nat.{mul-le-mul_right, div-mul-le_self}
use Rattle.std.proofs.lemmas.Nat.{div-add-mod'}
use borrow.Rule.Slice.PartMut.{put_mid}
use Rattle.czi_format.specs.Bytes.{bytes_at}
use Rattle.czi_doc.specs.QueryView.{type_of}
use Rattle.czi_doc.specs.declared.pixel.Pixel.{Pixel}
use Rattle.czi_doc.specs.declared.pixel.Pixel.TheVariants.{Gray8, Gray16, Bgr24, Bgr48}
use Rattle.czi_report.specs.Pnm.{pnm_pixel, pnm_pixels, turned_pixels}
use Rattle.czi_format.proofs.Limits.{length-bytes_at}
use Rattle.czi_format.proofs.Pixels.{pixels, one_more, length_pixels, same_pixels, run}

abbrev pub turned : ℕ → List ℕ → ℕ → List ℕ
turned n old i = reverse (bytes_at old (i * n) n)

turned_long : (n : ℕ) (old : List ℕ) (i : ℕ) → i * n + n ≤ length old → length (turned n old i) ≡ n
turned_long n old i fits = length-reverse (bytes_at old (i * n) n) ∙ length-bytes_at old (i * n) n fits

-- one pixel more
pub turn_more : (n : ℕ) (old row part : List ℕ) (i : ℕ) → (i + 1) * n ≤ length old → row ≡ pixels (turned n old) 0 i ++ drop (i * n) old
    → part ≡ reverse (take (i * n + n - i * n) (drop (i * n) row)) → put_mid (i * n) (i * n + n - i * n) row part ≡ pixels (turned n old) 0 (i + 1) ++ drop ((i + 1) * n) old
unfolding bytes_at
turn_more n old row part i fits is part_is =
    let front : List ℕ = pixels (turned n old) 0 i in
    let next : (i + 1) * n ≡ i * n + n = omega arith in
    let size : i * n + n - i * n ≡ n = omega arith in
    let long : length (pixels (turned n old) 0 i) ≡ i * n = length_pixels (turned n old) n 0 i (λ k low high.
    let more : k * n + n ≤ (i + 1) * n = below k i n (omega (arith, high)) in
    turned_long n old k (omega (arith, more, fits))) in
    let before : take (i * n) row ≡ pixels (turned n old) 0 i = ap (take (i * n)) is ∙ take_at (pixels (turned n old) 0 i) (drop (i * n) old) (i * n) long in
    let behind : drop (i * n) row ≡ drop (i * n) old = ap (drop (i * n)) is ∙ drop_at (pixels (turned n old) 0 i) (drop (i * n) old) (i * n) long in
    let this : part ≡ turned n old i = part_is ∙ (ap (λ k. reverse (take k (drop (i * n) row))) size ∙ ap (λ l. reverse (take n l)) behind) in
    let rest : drop (i * n + n - i * n) (drop (i * n) row) ≡ drop ((i + 1) * n) old = ap (λ k. drop k (drop (i * n) row)) size ∙ (ap (drop n) behind ∙ (drop-drop n (i * n) old ∙ ap (λ k. drop k old) (sym next))) in
    let one : pixels (turned n old) 0 i ++ turned n old i ≡ pixels (turned n old) 0 (i + 1) = sym (one_more (turned n old) i) in
    (λ k. before k ++ (this k ++ rest k)) ∙ (sym (append_assoc (pixels (turned n old) 0 i) (turned n old i) (drop ((i + 1) * n) old)) ∙ ap (λ l. l ++ drop ((i + 1) * n) old) one)
  where
    below : (k i n : ℕ) → k < i → k * n + n ≤ (i + 1) * n
    below k i n h = let m : (k + 1) * n ≤ (i + 1) * n = mul-le-mul_right n (omega arith) in let e : (k + 1) * n ≡ k * n + n = omega arith in omega (arith, m, e)

-- all of them
pub turned_all : (n i : ℕ) (old row : List ℕ) → 1 ≤ n → length old % n ≡ 0 → i ≡ length old / n → row ≡ pixels (turned n old) 0 i ++ drop (i * n) old → row ≡ turned_pixels n old
turned_all n i old row some whole is row_is =
    let long : length old ≤ i * n = let e : i * n ≡ length old / n * n = ap (λ k. k * n) is in omega (arith, e, whole, div-add-mod' (length old) n) in
    row_is ∙ (ap (λ l. pixels (turned n old) 0 i ++ l) (drop_all (i * n) old long) ∙ (append-nil (pixels (turned n old) 0 i) ∙ ap (pixels (turned n old) 0) is))

whole_list : (xs : List ℕ) → bytes_at xs 0 (length xs / 1 * 1) ≡ xs
unfolding bytes_at
whole_list xs = take_all (length xs / 1 * 1) xs (omega arith)

-- a pixel of one byte
pub single : (bytes : List ℕ) → bytes ≡ turned_pixels 1 bytes
single bytes = sym (run (turned 1 bytes) bytes 1 0 (length bytes / 1) 0 (λ i t is low.
    let at : i * 1 ≡ 0 + t * 1 = omega (arith, is) in
    let fits : i * 1 + 1 ≤ length bytes = omega (arith, is, low) in
    one (bytes_at bytes (i * 1) 1) (length-bytes_at bytes (i * 1) 1 fits) ∙ ap (λ k. bytes_at bytes k 1) at)
    ∙ whole_list bytes)
  where
    one : (xs : List ℕ) → length xs ≡ 1 → reverse xs ≡ xs
    one [] e = refl
    one (x ∷ []) e = refl
    one (x ∷ y ∷ zs) e = absurd (omega (arith, e))

-- the samples from the last to the first, each turned round, are all bytes turned round
same_pixel : (p : Pixel) (b : List ℕ) → length b ≡ (type_of p).size → reverse b ≡ pnm_pixel (type_of p) b
unfolding bytes_at
same_pixel Gray8 [] e = absurd (omega (arith, e))
same_pixel Gray8 (a ∷ []) e = refl
same_pixel Gray8 (a ∷ b ∷ more) e = absurd (omega (arith, e))
same_pixel Gray16 [] e = absurd (omega (arith, e))
same_pixel Gray16 (a ∷ []) e = absurd (omega (arith, e))
same_pixel Gray16 (a ∷ b ∷ []) e = refl
same_pixel Gray16 (a ∷ b ∷ c ∷ more) e = absurd (omega (arith, e))
same_pixel Bgr24 [] e = absurd (omega (arith, e))
same_pixel Bgr24 (a ∷ []) e = absurd (omega (arith, e))
same_pixel Bgr24 (a ∷ b ∷ []) e = absurd (omega (arith, e))
same_pixel Bgr24 (a ∷ b ∷ c ∷ []) e = refl
same_pixel Bgr24 (a ∷ b ∷ c ∷ d ∷ more) e = absurd (omega (arith, e))
same_pixel Bgr48 [] e = absurd (omega (arith, e))
same_pixel Bgr48 (a ∷ []) e = absurd (omega (arith, e))
same_pixel Bgr48 (a ∷ b ∷ []) e = absurd (omega (arith, e))
same_pixel Bgr48 (a ∷ b ∷ c ∷ []) e = absurd (omega (arith, e))
same_pixel Bgr48 (a ∷ b ∷ c ∷ d ∷ []) e = absurd (omega (arith, e))
same_pixel Bgr48 (a ∷ b ∷ c ∷ d ∷ f ∷ []) e = absurd (omega (arith, e))
same_pixel Bgr48 (a ∷ b ∷ c ∷ d ∷ f ∷ g ∷ []) e = refl
same_pixel Bgr48 (a ∷ b ∷ c ∷ d ∷ f ∷ g ∷ h ∷ more) e = absurd (omega (arith, e))

-- pixels turned round are pixels as PNM has them
pub turned_is : (p : Pixel) (row : List ℕ) → turned_pixels (type_of p).size row ≡ pnm_pixels (type_of p) row
turned_is p row =
    let n : ℕ = (type_of p).size in
    same_pixels (turned (type_of p).size row) (λ i. pnm_pixel (type_of p) (bytes_at row (i * (type_of p).size) (type_of p).size)) 0 (length row / (type_of p).size) (λ i low high.
    let more : (i + 1) * n ≤ length row / n * n = mul-le-mul_right n (omega (arith, high)) in
    let all : length row / n * n ≤ length row = div-mul-le_self (length row) n in
    let e : (i + 1) * n ≡ i * n + n = omega arith in
    same_pixel p (bytes_at row (i * (type_of p).size) (type_of p).size) (length-bytes_at row (i * n) n (omega (arith, more, all, e))))
