-- A record that is written field by field.
use Rattle.std.proofs.Common.{◌≡◌, ℕ, ◌+◌, ◌≤◌, List, ◌++◌, length, refl, ◌∙◌, ap, arith}
use Rattle.std.proofs.lemmas.List.{append_assoc, length-append}
use Rattle.czi_format.specs.Bytes.{put_at, u32_bytes, u64_bytes}
use Rattle.czi_format.proofs.Fields.{put_both, put_whole}
use Rattle.czi_links.specs.Record.{spell_head}

-- fields side by side from the front on
module _ (out a g d e : List ℕ) (len_a : length a ≡ 4) (len_g : length g ≡ 16) (len_d : length d ≡ 8) (len_e : length e ≡ 4) (len : 32 ≤ length out) where
  two : put_at (put_at out 0 a) 4 g ≡ put_at out 0 (a ++ g)
  two = put_both out 0 4 a g (omega (arith, len_a)) (omega (arith, len_a, len))

  l2 : length (a ++ g) ≡ 20
  l2 = omega (arith, length-append a g, len_a, len_g)

  three : put_at (put_at out 0 (a ++ g)) 20 d ≡ put_at out 0 ((a ++ g) ++ d)
  three = put_both out 0 20 (a ++ g) d (omega (arith, l2)) (omega (arith, l2, len))

  l3 : length ((a ++ g) ++ d) ≡ 28
  l3 = omega (arith, length-append (a ++ g) d, l2, len_d)

  four : put_at (put_at out 0 ((a ++ g) ++ d)) 28 e ≡ put_at out 0 (((a ++ g) ++ d) ++ e)
  four = put_both out 0 28 ((a ++ g) ++ d) e (omega (arith, l3)) (omega (arith, l3, len))

  fields_are : (o1 o2 o3 o4 : List ℕ) → o1 ≡ put_at out 0 a → o2 ≡ put_at o1 4 g → o3 ≡ put_at o2 20 d → o4 ≡ put_at o3 28 e → o4 ≡ put_at out 0 (a ++ (g ++ (d ++ e)))
  fields_are o1 o2 o3 o4 i1 i2 i3 i4 =
      let e2 = i2 ∙ ap (λ (o : List ℕ). put_at o 4 g) i1 ∙ two in
      let e3 = i3 ∙ ap (λ (o : List ℕ). put_at o 20 d) e2 ∙ three in
      i4 ∙ ap (λ (o : List ℕ). put_at o 28 e) e3 ∙ four ∙ ap (put_at out 0) (regroup a g d e)
    where
      regroup : (a g d e : List ℕ) → ((a ++ g) ++ d) ++ e ≡ a ++ (g ++ (d ++ e))
      regroup a g d e = simp append_assoc

pub head_written : (out guid : List ℕ) (committed n : ℕ) (o1 o2 o3 o4 : List ℕ) → length guid ≡ 16 → 32 ≤ length out
    → o1 ≡ put_at out 0 (u32_bytes 1) → o2 ≡ put_at o1 4 guid → o3 ≡ put_at o2 20 (u64_bytes committed) → o4 ≡ put_at o3 28 (u32_bytes n) → o4 ≡ put_at out 0 (spell_head guid committed n)
unfolding spell_head
head_written out guid committed n o1 o2 o3 o4 len_g len i1 i2 i3 i4 = fields_are out (u32_bytes 1) guid (u64_bytes committed) (u32_bytes n) refl len_g refl refl len o1 o2 o3 o4 i1 i2 i3 i4

pub head_len : (guid : List ℕ) (committed n : ℕ) → length guid ≡ 16 → length (spell_head guid committed n) ≡ 32
unfolding spell_head
head_len guid committed n e = omega (arith, e, length-append guid (u64_bytes committed ++ u32_bytes n))

-- a head, and the links behind it up to the end
pub encoded_is : (out guid block : List ℕ) (committed n : ℕ) (o1 o2 : List ℕ) → length guid ≡ 16 → length out ≡ 32 + length block
    → o1 ≡ put_at out 0 (spell_head guid committed n) → o2 ≡ put_at o1 32 block → o2 ≡ spell_head guid committed n ++ block
encoded_is out guid block committed n o1 o2 len_g len i1 i2 =
    let h = head_len guid committed n len_g in
    i2 ∙ ap (λ (o : List ℕ). put_at o 32 block) i1
    ∙ put_both out 0 32 (spell_head guid committed n) block (omega (arith, h)) (omega (arith, h, len))
    ∙ put_whole out (spell_head guid committed n ++ block) (omega (arith, length-append (spell_head guid committed n) block, h, len))
