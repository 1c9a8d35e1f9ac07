-- What a crash leaves while an image is written.
use Rattle.std.proofs.Common.{◌≡◌, ◌⊎◌, inl, inr, ⊎_elim, ℕ, zero, suc, ◌+◌, ◌<◌, Option, None, Some, List, [], ◌∷◌, ◌++◌, length, take, drop, get_or, refl, sym, ◌∙◌, ap, subst, arith}
use Rattle.std.specs.Prelude.{option_map}
use Rattle.std.specs.Option.{ForSome}
use Rattle.std.proofs.lemmas.List.{append-nil, drop_all, ext_get_or, length-drop, places, take_all}
use Rattle.std.proofs.lemmas.Bool.{cases_lt}
use Rattle.czi_rig.specs.declared.rig.Rig.{Ghosts}
use Rattle.czi_rig.specs.declared.file.File.TheVariants.{Image}
use Rattle.czi_rig.specs.Disk.{Disk, Left, at_rest, begun_write, overwritten, settled}
use Rattle.czi_rig.specs.State.{State, Instant, LeavesOther, known}
use Rattle.czi_rig.specs.Moments.{Devices, devices, LeavesWith, Throughout, with_file}
use Rattle.czi_rig.proofs.Known.{file_known, known_file}
use Rattle.czi_rig.proofs.Runs.{weaker}
use Rattle.czi_journal.proofs.Slots.{number_or_not}
use Rattle.czi_creation.specs.Steps.{HasNoFront}

-- no front, or all of these bytes
abbrev pub Writing : List ℕ → Devices → Instant
Writing bytes all image journal said = (HasNoFront image ⊎ (image ≡ bytes)) × Left all.journal.durable journal × (said ≡ all.said)

-- all but the first byte
abbrev pub behind : List ℕ → List ℕ
behind bytes = 0 ∷ drop 1 bytes

pub first_done : (seen : List ℕ) → seen ≡ [] → overwritten 0 (0 ∷ []) seen ≡ 0 ∷ []
first_done seen empty = rw empty

pub second_done : (bytes : List ℕ) → overwritten 1 (drop 1 bytes) (0 ∷ []) ≡ behind bytes
second_done bytes = ap (λ (l : List ℕ). 0 ∷ (drop 1 bytes ++ l)) (drop_all (1 + length (drop 1 bytes)) (0 ∷ []) (omega arith)) ∙ ap (λ (l : List ℕ). 0 ∷ l) (append-nil (drop 1 bytes))

module _ (bytes : List ℕ) (long : length bytes ≡ 704) (front : get_or bytes 0 0 ≡ 0x5A) where
  pub third_done : overwritten 0 (take 1 bytes) (behind bytes) ≡ bytes
  third_done = grind (arith, places)

  -- the first byte
  first_torn : (image : List ℕ) → Left (begun_write 0 1 (settled [])) image → HasNoFront image
  first_torn image l = inl (omega (arith, l.no_longer))

  -- all others
  second_torn : (n : ℕ) (image : List ℕ) → Left (begun_write 1 n (settled (0 ∷ []))) image → HasNoFront image
  second_torn n image l = inr (λ mark. omega (arith, mark, l.same 0 (omega arith) (⊎_elim (λ r. omega (arith, r.0)) (λ none. none))))

  -- and the first again
  third_torn : (image : List ℕ) → Left (begun_write 0 1 (settled (behind bytes))) image → HasNoFront image ⊎ (image ≡ bytes)
  third_torn image l = ⊎_elim (λ mark. inr (ext_get_or 0 image bytes size (λ k lt. each mark k lt))) (λ other. inl (inr other)) (number_or_not (get_or image 0 0) 0x5A)
    where
      size : length image ≡ length bytes
      size = grind (arith, places, l.no_shorter, l.no_longer, long)

      size_behind : length (behind bytes) ≡ 704
      size_behind = grind (arith, places)

      each : get_or image 0 0 ≡ 0x5A → (k : ℕ) → k < length image → get_or image k 0 ≡ get_or bytes k 0
      each mark zero lt = mark ∙ sym front
      each mark (suc k) lt = l.same (suc k) (omega (arith, lt, size, long, size_behind)) (⊎_elim (λ r. omega (arith, r.1)) (λ none. none)) ∙ grind (arith, places)

  module _ {D : Type 0} (rig : Ghosts D) where
    pub first_moments : (old new : D) (all : Devices) → all.image ≡ at_rest [] → Throughout rig old new (LeavesWith all Image (begun_write 0 1 all.image.durable)) → Throughout rig old new (Writing bytes all)
    first_moments old new all empty = weaker rig (λ i j o l. (inl (first_torn i (subst (λ (d : Disk). Left (begun_write 0 1 d.durable) i) empty l.image_is)), l.journal_is, l.said_is))

    pub second_moments : (mid new : D) (all : Devices) (n : ℕ) → Throughout rig mid new (LeavesWith (with_file all Image (at_rest (0 ∷ []))) Image (begun_write 1 n (settled (0 ∷ [])))) → Throughout rig mid new (Writing bytes all)
    second_moments mid new all n = weaker rig (λ i j o l. (inl (second_torn n i l.image_is), l.journal_is, l.said_is))

    pub third_moments : (mid new : D) (all : Devices) (n : ℕ) → n ≡ 1 → Throughout rig mid new (LeavesWith (with_file all Image (at_rest (behind bytes))) Image (begun_write 0 n (settled (behind bytes)))) → Throughout rig mid new (Writing bytes all)
    third_moments mid new all n one = weaker rig (λ i j o l. (third_torn i (subst (λ (k : ℕ). Left (begun_write 0 k (settled (behind bytes))) i) one l.image_is), l.journal_is, l.said_is))

  all_three : (first rest seen : List ℕ) → first ≡ take 1 bytes → rest ≡ drop 1 bytes → seen ≡ [] → overwritten 0 first (overwritten 1 rest (overwritten 0 (0 ∷ []) seen)) ≡ bytes
  all_three first rest seen one others empty =
      ap (λ (x : List ℕ). overwritten 0 x (overwritten 1 rest (overwritten 0 (0 ∷ []) seen))) one
      ∙ ap (λ (x : List ℕ). overwritten 0 (take 1 bytes) (overwritten 1 x (overwritten 0 (0 ∷ []) seen))) others
      ∙ ap (λ (x : List ℕ). overwritten 0 (take 1 bytes) (overwritten 1 (drop 1 bytes) x)) (first_done seen empty) ∙ ap (overwritten 0 (take 1 bytes)) (second_done bytes) ∙ third_done

  -- what is then known of the image
  pub written_all : (first rest : List ℕ) → first ≡ take 1 bytes → rest ≡ drop 1 bytes → (o a b c : Option Disk) → ForSome o (λ (d : Disk). d ≡ at_rest [])
      → a ≡ option_map (λ (d : Disk). at_rest (overwritten 0 (0 ∷ []) d.seen)) o → b ≡ option_map (λ (d : Disk). at_rest (overwritten 1 rest d.seen)) a
      → c ≡ option_map (λ (d : Disk). at_rest (overwritten 0 first d.seen)) b → c ≡ option_map (λ (d : Disk). at_rest bytes) o
  written_all first rest one others o a b c empty e1 e2 e3 =
      e3 ∙ ap (option_map (λ (d : Disk). at_rest (overwritten 0 first d.seen))) (e2 ∙ ap (option_map (λ (d : Disk). at_rest (overwritten 1 rest d.seen))) e1) ∙ through o empty
    where
      through : (o : Option Disk) → ForSome o (λ (d : Disk). d ≡ at_rest [])
          → option_map (λ (d : Disk). at_rest (overwritten 0 first d.seen)) (option_map (λ (d : Disk). at_rest (overwritten 1 rest d.seen)) (option_map (λ (d : Disk). at_rest (overwritten 0 (0 ∷ []) d.seen)) o))
          ≡ option_map (λ (d : Disk). at_rest bytes) o
      through None empty = refl
      through (Some d) empty = ap (λ (x : List ℕ). Some (at_rest x)) (all_three first rest d.seen one others (ap (λ (x : Disk). x.seen) (empty d refl)))

-- all but the first byte
pub others_are : (bytes : List ℕ) → length bytes ≡ 704 → take 703 (drop 1 bytes) ≡ drop 1 bytes
others_are bytes long = take_all 703 (drop 1 bytes) (omega (arith, length-drop 1 bytes, long))

-- the first byte has length 1
pub one_byte : (bytes first : List ℕ) → length bytes ≡ 704 → first ≡ take 1 bytes → length first ≡ 1
one_byte bytes first long is = ap (λ (x : List ℕ). length x) is ∙ grind (arith, places)

-- after the first write, and the second
pub after_first : (s t : State) (all : Devices) → devices s ≡ Some all → all.image ≡ at_rest [] → LeavesOther Image s t
    → known t Image ≡ option_map (λ (d : Disk). at_rest (overwritten 0 (0 ∷ []) d.seen)) (known s Image) → devices t ≡ Some (with_file all Image (at_rest (0 ∷ [])))
after_first s t all is empty other ok = file_known s t Image all (at_rest (0 ∷ [])) is other
    (ok ∙ ap (option_map (λ (d : Disk). at_rest (overwritten 0 (0 ∷ []) d.seen))) (known_file s Image all is) ∙ ap (λ (x : List ℕ). Some (at_rest x)) (first_done all.image.seen (ap (λ (d : Disk). d.seen) empty)))

pub after_second : (bytes rest : List ℕ) → rest ≡ drop 1 bytes → (s t : State) (all : Devices) → devices s ≡ Some (with_file all Image (at_rest (0 ∷ []))) → LeavesOther Image s t
    → known t Image ≡ option_map (λ (d : Disk). at_rest (overwritten 1 rest d.seen)) (known s Image) → devices t ≡ Some (with_file all Image (at_rest (behind bytes)))
after_second bytes rest others s t all is other ok = file_known s t Image (with_file all Image (at_rest (0 ∷ []))) (at_rest (behind bytes)) is other
    (ok ∙ ap (option_map (λ (d : Disk). at_rest (overwritten 1 rest d.seen))) (known_file s Image (with_file all Image (at_rest (0 ∷ []))) is)
    ∙ ap (λ (x : List ℕ). Some (at_rest (overwritten 1 x (0 ∷ [])))) others ∙ ap (λ (x : List ℕ). Some (at_rest x)) (second_done bytes))
