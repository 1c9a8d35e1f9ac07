-- Bytes text spells its bytes in one way.
use Rattle.std.proofs.Common.{◌≡◌, ◌⊎◌, ℕ, zero, suc, ◌+◌, ◌*◌, ◌-◌, ◌<◌, ◌≤◌, List, [], ◌∷◌, ◌++◌, length, Bool, true, false, ◌&&◌, ◌==◌, refl, ap, sym, ◌∙◌, subst, arith, inl, inr, append-nil, append_assoc, length-append, if◌then◌else◌}
use Rattle.std.specs.Prelude.{◌/◌, ◌%◌, nat_lt, not}
use Rattle.std.specs.Fmt.{digit_glyph}
use Rattle.std.specs.List.{AllByRecursion}
use Rattle.std.proofs.lemmas.Bool.{cases_Bool, eqb-true}
use Rattle.std.proofs.lemmas.Bool.Decides.{nat_tests}
use Rattle.czi_format.specs.Text.{stands_for_itself, byte_text, bytes_text}
use Rattle.czi_script.specs.BytesText.{IsSpelled, IsBytesText, IsPaddedText, padded}
use Rattle.czi_script.specs.Pieces.{SpellsFirst}
use Rattle.czi_script.proofs.Tests.{less_or, no_truth}

-- the number that a digit writes
pub digit_of : ℕ → ℕ
digit_of g = if nat_lt g 58 then g - 48 else g - 87

pub digit_back : (n g : ℕ) → n < 16 → digit_glyph false n ≡ g → digit_of g ≡ n
unfolding digit_of
digit_back n g lt e = elim (cases_Bool (nat_lt n 10)) [
  | inl t ↦ let small : g ≡ 48 + n = sym e ∙ glyph t in back small (grind (arith, nat_tests))
  | inr t ↦ let large : g ≡ 87 + n = sym e ∙ glyph_large t in back_large large (grind (arith, nat_tests))
]
  where
    glyph : nat_lt n 10 ≡ true → digit_glyph false n ≡ 48 + n
    glyph t = rw t

    glyph_large : nat_lt n 10 ≡ false → digit_glyph false n ≡ 87 + n
    glyph_large t = rw t

    back : g ≡ 48 + n → n < 10 → (if nat_lt g 58 then g - 48 else g - 87) ≡ n
    back small few = elim (cases_Bool (nat_lt g 58)) [
      | inl t ↦ let e : (if nat_lt g 58 then g - 48 else g - 87) ≡ g - 48 = rw t in omega (arith, e, small)
      | inr t ↦ absurd (grind (arith, nat_tests))
    ]

    back_large : g ≡ 87 + n → 10 ≤ n → (if nat_lt g 58 then g - 48 else g - 87) ≡ n
    back_large large many = elim (cases_Bool (nat_lt g 58)) [
      | inl t ↦ absurd (grind (arith, nat_tests))
      | inr t ↦ let e : (if nat_lt g 58 then g - 48 else g - 87) ≡ g - 87 = rw t in omega (arith, e, large)
    ]

-- how a byte is spelled
pub spelled_itself : (b : ℕ) → stands_for_itself b ≡ true → byte_text b ≡ b ∷ []
spelled_itself b t = rw t

pub spelled_digits : (b : ℕ) → stands_for_itself b ≡ false → byte_text b ≡ 37 ∷ digit_glyph false (b / 16) ∷ digit_glyph false (b % 16) ∷ []
spelled_digits b t = rw t

-- two spellings that begin one text
pub record SameByte (b c : ℕ) (r s : List ℕ) : Type 0 where
  pub byte : b ≡ c
  pub rest : r ≡ s

head_of : (x y : ℕ) (xs ys : List ℕ) → x ∷ xs ≡ y ∷ ys → x ≡ y
head_of x y xs ys e = cc

tail_of : (x y : ℕ) (xs ys : List ℕ) → x ∷ xs ≡ y ∷ ys → xs ≡ ys
tail_of x y xs ys e = cc

percent : (b : ℕ) → b ≡ 37 → stands_for_itself b ≡ false
percent b e = ap stands_for_itself e

by_digits : (b h l : ℕ) → b < 256 → digit_glyph false (b / 16) ≡ h → digit_glyph false (b % 16) ≡ l → b ≡ digit_of h * 16 + digit_of l
by_digits b h l lt e f =
    let high : digit_of h ≡ b / 16 = digit_back (b / 16) h (omega (arith, lt)) e in
    let low : digit_of l ≡ b % 16 = digit_back (b % 16) l (omega arith) f in
    omega (arith, high, low)

pub byte_once : (b c : ℕ) (r s : List ℕ) → IsSpelled b → IsSpelled c → byte_text b ++ r ≡ byte_text c ++ s → SameByte b c r s
byte_once b c r s p q e = elim (cases_Bool (stands_for_itself b)) [
  | inl t ↦ elim (cases_Bool (stands_for_itself c)) [
    | inl u ↦ let f = ap (λ l. l ++ r) (sym (spelled_itself b t)) ∙ e ∙ ap (λ l. l ++ s) (spelled_itself c u) in record { byte = head_of b c r s f; rest = tail_of b c r s f }
    | inr u ↦ let f = ap (λ l. l ++ r) (sym (spelled_itself b t)) ∙ e ∙ ap (λ l. l ++ s) (spelled_digits c u) in absurd (no_truth (sym t ∙ percent b (head_of b 37 r _ f)))
  ]
  | inr t ↦ elim (cases_Bool (stands_for_itself c)) [
    | inl u ↦ let f = ap (λ l. l ++ r) (sym (spelled_digits b t)) ∙ e ∙ ap (λ l. l ++ s) (spelled_itself c u) in absurd (no_truth (sym u ∙ percent c (sym (head_of 37 c _ s f))))
    | inr u ↦
        let f = ap (λ l. l ++ r) (sym (spelled_digits b t)) ∙ e ∙ ap (λ l. l ++ s) (spelled_digits c u) in
        let g = tail_of 37 37 _ _ f in
        let h = tail_of _ _ _ _ g in
        record {
          byte = by_digits b _ _ p.1 (head_of _ _ _ _ g) (head_of _ _ _ _ h) ∙ sym (by_digits c _ _ q.1 refl refl);
          rest = tail_of _ _ _ _ h;
        }
  ]
]

-- no byte is spelled by nothing
no_cons : (x : ℕ) (xs : List ℕ) → x ∷ xs ≡ [] → ⊥
no_cons x xs e = cc

pub some_text : (b : ℕ) (r : List ℕ) → byte_text b ++ r ≡ [] → ⊥
some_text b r e = elim (cases_Bool (stands_for_itself b)) [
  | inl t ↦ no_cons b r (ap (λ l. l ++ r) (sym (spelled_itself b t)) ∙ e)
  | inr t ↦ no_cons 37 _ (ap (λ l. l ++ r) (sym (spelled_digits b t)) ∙ e)
]

-- bytes that a text spells first, and what it spells behind them
pub record SpelledOn (done bytes rest : List ℕ) : Type 0 where
  pub more : List ℕ
  pub whole : bytes ≡ done ++ more
  pub spelled : rest ≡ bytes_text more
  pub nonzero : AllByRecursion IsSpelled more

pub text_cons : (b : ℕ) (bytes : List ℕ) → bytes_text (b ∷ bytes) ≡ byte_text b ++ bytes_text bytes
unfolding bytes_text
text_cons b bytes = refl

pub text_nil : bytes_text [] ≡ []
unfolding bytes_text
text_nil = refl

pub spelled_on : (done bytes rest : List ℕ) → AllByRecursion IsSpelled done → AllByRecursion IsSpelled bytes → bytes_text done ++ rest ≡ bytes_text bytes → SpelledOn done bytes rest
spelled_on [] bytes rest p q e = record { more = bytes; whole = refl; spelled = ap (λ l. l ++ rest) (sym text_nil) ∙ e; nonzero = q }
spelled_on (b ∷ done) [] rest p q e = absurd (some_text b (bytes_text done ++ rest) (sym (append_assoc (byte_text b) (bytes_text done) rest) ∙ ap (λ l. l ++ rest) (sym (text_cons b done)) ∙ e ∙ text_nil))
spelled_on (b ∷ done) (c ∷ bytes) rest p q e =
    let s : SameByte b c (bytes_text done ++ rest) (bytes_text bytes) = byte_once b c (bytes_text done ++ rest) (bytes_text bytes) p.0 q.0
    (sym (append_assoc (byte_text b) (bytes_text done) rest) ∙ ap (λ l. l ++ rest) (sym (text_cons b done)) ∙ e ∙ text_cons c bytes) in
    let on : SpelledOn done bytes rest = spelled_on done bytes rest p.1 q.1 s.rest in
    record { more = on.more; whole = both b c done bytes on.more s.byte on.whole; spelled = on.spelled; nonzero = on.nonzero }
  where
    both : (x y : ℕ) (xs ys zs : List ℕ) → x ≡ y → ys ≡ xs ++ zs → y ∷ ys ≡ (x ∷ xs) ++ zs
    both x y xs ys zs e f = cc

nothing_spelled : (bytes : List ℕ) → [] ≡ bytes_text bytes → bytes ≡ []
nothing_spelled [] e = refl
nothing_spelled (b ∷ bytes) e = absurd (some_text b (bytes_text bytes) (sym (e ∙ text_cons b bytes)))

pub spelled_once : (a b text : List ℕ) → AllByRecursion IsSpelled a → AllByRecursion IsSpelled b → text ≡ bytes_text a → text ≡ bytes_text b → a ≡ b
spelled_once a b text p q e f =
    let on : SpelledOn a b [] = spelled_on a b [] p q (append-nil (bytes_text a) ∙ sym e ∙ f) in
    sym (on.whole ∙ ap (λ l. a ++ l) (nothing_spelled on.more on.spelled) ∙ append-nil a)

-- a byte that doesn't stand for itself begins the spelling of one that is written by its digits
pub record IsEscaped (text : List ℕ) (b : ℕ) (rest : List ℕ) : Type 0 where
  pub other : stands_for_itself b ≡ false
  pub whole : text ≡ digit_glyph false (b / 16) ∷ digit_glyph false (b % 16) ∷ rest

pub record IsOther (x : ℕ) (text : List ℕ) (b : ℕ) (rest : List ℕ) : Type 0 where
  pub first : x ≡ 37
  pub escaped : IsEscaped text b rest

pub not_itself : (x : ℕ) (text : List ℕ) (b : ℕ) (rest : List ℕ) → stands_for_itself x ≡ false → SpellsFirst (x ∷ text) b rest → IsOther x text b rest
not_itself x text b rest other s = elim (cases_Bool (stands_for_itself b)) [
  | inl t ↦ let f = s.0 ∙ ap (λ l. l ++ rest) (spelled_itself b t) in absurd (no_truth (sym t ∙ ap stands_for_itself (sym (head_of x b text rest f)) ∙ other))
  | inr t ↦ let f = s.0 ∙ ap (λ l. l ++ rest) (spelled_digits b t) in record { first = head_of x 37 text _ f; escaped = record { other = t; whole = tail_of x 37 text _ f } }
]

pub escaped_by : (h l b : ℕ) (text rest : List ℕ) → IsSpelled b → IsEscaped (h ∷ l ∷ text) b rest → b ≡ digit_of h * 16 + digit_of l
escaped_by h l b text rest p s = by_digits b h l p.1 (sym (head_of h _ (l ∷ text) _ s.whole)) (sym (head_of l _ text rest (tail_of h _ (l ∷ text) _ s.whole)))

-- a text of fewer than two bytes is none that is written by its digits
pub escaped_long : (text : List ℕ) (b : ℕ) (rest : List ℕ) → IsEscaped text b rest → 2 ≤ length text
escaped_long text b rest s = let n : length text ≡ suc (suc (length rest)) = ap length s.whole in omega (arith, n)

pub itself_spelled : (x : ℕ) → stands_for_itself x ≡ true → IsSpelled x
itself_spelled x t = (grind (arith, nat_tests), grind (arith, nat_tests))

pub first_itself : (x : ℕ) (text : List ℕ) → stands_for_itself x ≡ true → SpellsFirst (x ∷ text) x text
first_itself x text t = (ap (λ l. l ++ text) (sym (spelled_itself x t)), itself_spelled x t)

pub first_digits : (b : ℕ) (rest : List ℕ) → stands_for_itself b ≡ false → IsSpelled b → SpellsFirst (37 ∷ digit_glyph false (b / 16) ∷ digit_glyph false (b % 16) ∷ rest) b rest
first_digits b rest t some = (ap (λ l. l ++ rest) (sym (spelled_digits b t)), some)

-- whether a text spells a byte first

abbrev FirstOr : List ℕ → Type 0
FirstOr text = ((b : ℕ) × (rest : List ℕ) × SpellsFirst text b rest) ⊎ ((b : ℕ) (rest : List ℕ) → SpellsFirst text b rest → ⊥)

-- the byte that two digits write, where they are its digits
is_written : ℕ → ℕ → ℕ → Bool
is_written h l b = not (stands_for_itself b) && (nat_lt 0 b && (nat_lt b 256 && ((digit_glyph false (b / 16) == h) && (digit_glyph false (b % 16) == l))))

both_true : (a b : Bool) → (a && b) ≡ true → (a ≡ true) × (b ≡ true)
both_true true b e = (refl, e)
both_true false b e = absurd (no_truth (sym e))

written : (h l b : ℕ) (rest : List ℕ) → is_written h l b ≡ true → SpellsFirst (37 ∷ h ∷ l ∷ rest) b rest
unfolding is_written
written h l b rest t =
    let a = both_true (not (stands_for_itself b)) _ t in
    let c = both_true (nat_lt 0 b) _ a.1 in
    let d = both_true (nat_lt b 256) _ c.1 in
    let e = both_true (digit_glyph false (b / 16) == h) (digit_glyph false (b % 16) == l) d.1 in
    let some : IsSpelled b = (few 0 b c.0, few b 256 d.0) in
    subst (λ g. SpellsFirst (37 ∷ g ∷ l ∷ rest) b rest) (eqb-true _ h e.0) (subst (λ g. SpellsFirst (37 ∷ digit_glyph false (b / 16) ∷ g ∷ rest) b rest) (eqb-true _ l e.1) (first_digits b rest (not_true (stands_for_itself b) a.0) some))
  where
    not_true : (a : Bool) → not a ≡ true → a ≡ false
    not_true true e = absurd (no_truth (sym e))
    not_true false e = refl

    few : (m n : ℕ) → nat_lt m n ≡ true → m < n
    few m n e = grind (arith, nat_tests)

not_written : (h l b : ℕ) (rest : List ℕ) → IsSpelled b → IsEscaped (h ∷ l ∷ rest) b rest → is_written h l b ≡ true
unfolding is_written
not_written h l b rest p s =
    all (ap not s.other) (more 0 b p.0) (more b 256 p.1) (same _ h (sym (head_of h _ (l ∷ rest) _ s.whole))) (same _ l (sym (head_of l _ rest rest (tail_of h _ (l ∷ rest) _ s.whole))))
  where
    all : {a b c d e : Bool} → a ≡ true → b ≡ true → c ≡ true → d ≡ true → e ≡ true → (a && (b && (c && (d && e)))) ≡ true
    all p q r s t = rw (p, q, r, s, t)

    more : (m n : ℕ) → m < n → nat_lt m n ≡ true
    more m n lt = grind (arith, nat_tests)

    same : (m n : ℕ) → m ≡ n → (m == n) ≡ true
    same m n e = grind (arith, nat_tests)

digits_or : (x h l : ℕ) (text : List ℕ) → stands_for_itself x ≡ false → FirstOr (x ∷ h ∷ l ∷ text)
digits_or x h l text other = elim (cases_Bool ((x == 37) && is_written h l (digit_of h * 16 + digit_of l))) [
  | inl t ↦ inl (digit_of h * 16 + digit_of l, text, subst (λ y. SpellsFirst (y ∷ h ∷ l ∷ text) (digit_of h * 16 + digit_of l) text) (sym (eqb-true x 37 (both_true (x == 37) _ t).0)) (written h l _ text (both_true (x == 37) _ t).1))
  | inr t ↦ inr (λ b rest s.
      let o : IsOther x (h ∷ l ∷ text) b rest = not_itself x (h ∷ l ∷ text) b rest other s in
      let is : b ≡ digit_of h * 16 + digit_of l = escaped_by h l b text rest s.1 o.escaped in
      let same : text ≡ rest = tail_of l _ text rest (tail_of h _ (l ∷ text) _ o.escaped.whole) in
      let w = not_written h l b rest s.1 (subst (λ r. IsEscaped (h ∷ l ∷ r) b rest) same o.escaped) in
      no_truth (sym (both (eqb o.first) (subst (λ c. is_written h l c ≡ true) is w)) ∙ t))
]
  where
    both : {a b : Bool} → a ≡ true → b ≡ true → (a && b) ≡ true
    both p q = rw (p, q)

    eqb : {m n : ℕ} → m ≡ n → (m == n) ≡ true
    eqb e = grind (arith, nat_tests)

short_or : (x : ℕ) (text : List ℕ) → stands_for_itself x ≡ false → length text < 2 → FirstOr (x ∷ text)
short_or x text other lt = inr (λ b rest s. let n = escaped_long text b rest (not_itself x text b rest other s).escaped in omega (arith, n, lt))

first_or : (text : List ℕ) → FirstOr text
first_or [] = inr (λ b rest s. some_text b rest (sym s.0))
first_or (x ∷ text) = elim (cases_Bool (stands_for_itself x)) [
  | inl t ↦ inl (x, text, first_itself x text t)
  | inr t ↦ other text t
]
  where
    other : (text : List ℕ) → stands_for_itself x ≡ false → FirstOr (x ∷ text)
    other [] t = short_or x [] t (omega arith)
    other (h ∷ []) t = short_or x (h ∷ []) t (omega arith)
    other (h ∷ l ∷ text) t = digits_or x h l text t

-- whether a text spells bytes

abbrev SpelledOr : List ℕ → Type 0
SpelledOr text = ((bytes : List ℕ) × (text ≡ bytes_text bytes) × AllByRecursion IsSpelled bytes) ⊎ ((bytes : List ℕ) → text ≡ bytes_text bytes → AllByRecursion IsSpelled bytes → ⊥)

pub byte_len : (b : ℕ) → 1 ≤ length (byte_text b)
byte_len b = elim (cases_Bool (stands_for_itself b)) [
  | inl t ↦ subst (λ l. 1 ≤ length l) (sym (spelled_itself b t)) (omega arith)
  | inr t ↦ subst (λ l. 1 ≤ length l) (sym (spelled_digits b t)) (omega arith)
]

-- a text, by what stands behind its first byte
spelled_step : (x : ℕ) (text : List ℕ) → FirstOr (x ∷ text) → ((rest : List ℕ) → length rest ≤ length text → SpelledOr rest) → SpelledOr (x ∷ text)
spelled_step x text (inr none) more = inr every
  where
    every : (bytes : List ℕ) → x ∷ text ≡ bytes_text bytes → AllByRecursion IsSpelled bytes → ⊥
    every [] e p = no_cons x text (e ∙ text_nil)
    every (b ∷ bytes) e p = none b (bytes_text bytes) (e ∙ text_cons b bytes, p.0)
spelled_step x text (inl f) more = elim (more f.1 shorter) [
  | inl m ↦ inl (f.0 ∷ m.0, f.2.0 ∙ ap (λ l. byte_text f.0 ++ l) m.1 ∙ sym (text_cons f.0 m.0), (f.2.1, m.2))
  | inr none ↦ inr (every none)
]
  where
    shorter : length f.1 ≤ length text
    shorter =
        let a : suc (length text) ≡ length (byte_text f.0 ++ f.1) = ap length f.2.0 in
        let b : length (byte_text f.0 ++ f.1) ≡ length (byte_text f.0) + length f.1 = length-append (byte_text f.0) f.1 in
        let d : 1 ≤ length (byte_text f.0) = byte_len f.0 in
        omega (arith, a, b, d)

    every : ((bytes : List ℕ) → f.1 ≡ bytes_text bytes → AllByRecursion IsSpelled bytes → ⊥) → (bytes : List ℕ) → x ∷ text ≡ bytes_text bytes → AllByRecursion IsSpelled bytes → ⊥
    every none [] e p = no_cons x text (e ∙ text_nil)
    every none (b ∷ bytes) e p =
        let s : SameByte f.0 b f.1 (bytes_text bytes) = byte_once f.0 b f.1 (bytes_text bytes) f.2.1 p.0 (sym f.2.0 ∙ e ∙ text_cons b bytes) in
        none bytes s.rest p.1

spelled_or : (n : ℕ) (text : List ℕ) → length text ≤ n → SpelledOr text
spelled_or n [] le = inl ([], sym text_nil, tt)
spelled_or zero (x ∷ text) le = absurd (omega arith)
spelled_or (suc n) (x ∷ text) le = spelled_step x text (first_or (x ∷ text)) (λ rest fits. spelled_or n rest (omega (arith, fits, le)))

-- the bytes of a text, and a field that is padded with zeros

spelled_by : (text : List ℕ) → SpelledOr text → List ℕ
spelled_by text (inl s) = s.0
spelled_by text (inr none) = []

pub the_bytes : List ℕ → List ℕ
the_bytes text = spelled_by text (spelled_or (length text) text (omega arith))

by_is : (text bytes : List ℕ) (found : SpelledOr text) → text ≡ bytes_text bytes → AllByRecursion IsSpelled bytes → spelled_by text found ≡ bytes
unfolding spelled_by
by_is text bytes (inl s) e p = spelled_once s.0 bytes text s.2 p s.1 e
by_is text bytes (inr none) e p = absurd (none bytes e p)

pub bytes_is : (most : ℕ) (text bytes : List ℕ) → IsBytesText most text bytes → the_bytes text ≡ bytes
unfolding the_bytes
bytes_is most text bytes is = by_is text bytes (spelled_or (length text) text (omega arith)) is.spelled is.nonzero

pub field_is : (n : ℕ) (text field : List ℕ) → IsPaddedText n text field → padded n (the_bytes text) ≡ field
field_is n text field is = ap (padded n) (bytes_is n text is.0 is.1) ∙ sym is.2

pub bytes_or : (most : ℕ) (text : List ℕ) → ((bytes : List ℕ) × IsBytesText most text bytes) ⊎ ((bytes : List ℕ) → IsBytesText most text bytes → ⊥)
bytes_or most text = elim (spelled_or (length text) text (omega arith)) [
  | inr none ↦ inr (λ bytes is. none bytes is.spelled is.nonzero)
  | inl s ↦ elim (less_or most (length s.0)) [
    | inr few ↦ inl (s.0, record { spelled = s.1; nonzero = s.2; few = few })
    | inl many ↦ inr (λ bytes is. let n : length s.0 ≡ length bytes = ap length (spelled_once s.0 bytes text s.2 is.nonzero s.1 is.spelled) in let few = is.few in omega (arith, n, few, many))
  ]
]

pub field_or : (n : ℕ) (text : List ℕ) → ((field : List ℕ) × IsPaddedText n text field) ⊎ ((field : List ℕ) → IsPaddedText n text field → ⊥)
field_or n text = elim (bytes_or n text) [
  | inl s ↦ inl (padded n s.0, (s.0, s.1, refl))
  | inr none ↦ inr (λ field is. none is.0 is.1)
]
