-- An editor that counts, for tests.
use Rattle.std.specs.Prelude.{◌≡◌, ℕ, ◌+◌, ◌^◌, ◌<◌, min, List, [], ◌∷◌, length}
use Rattle.std.proofs.Common.{◌∙◌, ap, subst, sym, lit<}
use Rattle.czi_script.specs.Script.{Command}
use Rattle.czi_rig.specs.Disk.{Disk, Left, IsAtRest}
use Rattle.czi_rig.proofs.Files.{left_settled}
use Rattle.czi_session.specs.Course.{Model, Unsealed}

abbrev pub ok_line : List ℕ
ok_line = 111 ∷ 107 ∷ 10 ∷ []

-- a document is how many bytes the image has, and each command adds one, as far as a device takes it
abbrev pub counting : Model
counting = record {
  Document = ℕ;
  opens = λ image journal s. length image ≡ s;
  alone = λ image s. length image ≡ s;
  recovers = λ image journal bytes. bytes ≡ image;
  alike = λ image journal other_image other_journal. Unit {0};
  begins = λ image journal s. length image ≡ s;
  refuses = λ image journal text. ⊥;
  keeps = λ image journal now_image now_journal. Unit {0};
  holds = λ s journal. Unit {0};
  void = λ journal. Unit {0};
  after = λ s c. min (s + 1) (2 ^ 62);
  reply = λ s c. ok_line;
  still = λ s c. ⊥;
  looks = λ s c. ⊥;
}

-- the image is at rest, and has so many bytes
pub record Counts (image journal : Disk) (s : ℕ) : Type 0 where
  pub rest : IsAtRest image
  pub count : length image.seen ≡ s

pub rests_counts : (image journal : Disk) (s : ℕ) → Counts image journal s → Unsealed counting image journal s
rests_counts image journal s c =
    let same : (i : List ℕ) → Left image.durable i → i ≡ image.seen = λ i l. left_settled image.seen i (subst (λ d. Left d i) (ap (λ (d : Disk). d.durable) c.rest) l) in
    let count : (i : List ℕ) → Left image.durable i → length i ≡ s = λ i l. ap (λ (x : List ℕ). length x) (same i l) ∙ c.count in
    record {
      rests = record { opens = λ i j l k. count i l; alone = count; itself = λ i j l k. sym (same i l); alike = λ i j i' j' l k l' k'. tt };
      holds = record { read = tt; left = λ j k. tt };
    }

pub begins_counts : (image journal : List ℕ) (s : ℕ) → length image ≡ s → Unit {0}
begins_counts image journal s begins = tt

pub says_ok : (s : ℕ) (c : Command) → 0 < length ok_line
says_ok s c = lit< tt

-- no pair is refused
pub refused_once : (image journal text other : List ℕ) → ⊥ → ⊥ → text ≡ other
refused_once image journal text other so also = absurd so
