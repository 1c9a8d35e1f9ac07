-- A field that is filled with the bytes that a text spells, and has zeros behind them.
use Rattle.std.proofs.Common.{◌≡◌, ℕ, zero, suc, ◌+◌, ◌-◌, ◌≤◌, List, [], ◌∷◌, ◌++◌, take, drop, length, replicate, Bool, true, false, ◌==◌, refl, ap, sym, ◌∙◌, subst, arith, append-nil, append_assoc, length-append, length-take, take-append-drop, min, drop-drop}
use Rattle.std.specs.Prelude.{◌≢◌}
use Rattle.std.proofs.Math.ListN.{set}
use Rattle.std.specs.List.{AllByRecursion}
use Rattle.std.proofs.Math.Seq.{take-append_seam}
use Rattle.std.proofs.lemmas.Bool.{eqb-true, ne_eqb}
use Rattle.std.proofs.lemmas.Grind.{flat_map-append}
use Rattle.std.proofs.lemmas.List.{take_more_set, drop-set-lt, length-set}
use Rattle.czi_format.specs.Text.{byte_text, bytes_text}
use Rattle.czi_script.specs.BytesText.{IsSpelled, IsBytesText, IsPaddedText, padded}
use Rattle.czi_script.specs.Pieces.{SpellsFirst}
use Rattle.czi_script.specs.Script.{len_before}
use Rattle.czi_script.proofs.Bytes.{len_on, no_bytes}
use Rattle.czi_script.proofs.Tests.{no_truth}
use Rattle.czi_script.proofs.Spelling.{SpelledOn, spelled_on, some_text, text_cons, text_nil}

-- the front of a field has what the text spells so far
pub record SpelledFront (n count : ℕ) (field text rest : List ℕ) : Type 0 where
  pub fits : count ≤ n
  pub sized : length field ≡ n
  pub spelled : text ≡ bytes_text (take count field) ++ rest
  pub nonzero : AllByRecursion IsSpelled (take count field)
  pub zeros : drop count field ≡ replicate (n - count) 0

pub front_begins : (n : ℕ) (field text : List ℕ) → field ≡ replicate n 0 → length field ≡ n → SpelledFront n 0 field text text
front_begins n field text zeros sized = record { fits = omega arith; sized = sized; spelled = ap (λ l. l ++ text) (sym text_nil); nonzero = tt; zeros = zeros ∙ ap (λ k. replicate k 0) (all n) }
  where
    all : (n : ℕ) → n ≡ n - 0
    all n = omega arith

text_append : (a b : List ℕ) → bytes_text (a ++ b) ≡ bytes_text a ++ bytes_text b
unfolding bytes_text
text_append a b = flat_map-append byte_text a b

one_text : (b : ℕ) → bytes_text (b ∷ []) ≡ byte_text b
one_text b = text_cons b [] ∙ ap (λ l. byte_text b ++ l) text_nil ∙ append-nil (byte_text b)

all_more : (xs : List ℕ) (b : ℕ) → AllByRecursion IsSpelled xs → IsSpelled b → AllByRecursion IsSpelled (xs ++ b ∷ [])
all_more [] b all is = (is, tt)
all_more (x ∷ xs) b all is = (all.0, all_more xs b all.1 is)

pub front_next : (n count b : ℕ) (field text rest more : List ℕ) → SpelledFront n count field text rest → SpellsFirst rest b more → count ≢ n → SpelledFront n (count + 1) (set field count b) text more
front_next n count b field text rest more f s other = record {
  fits = lt;
  sized = length-set field count b ∙ f.sized;
  spelled = f.spelled ∙ ap (λ l. bytes_text (take count field) ++ l) s.0 ∙ sym (append_assoc (bytes_text (take count field)) (byte_text b) more)
      ∙ ap (λ l. l ++ more) (ap (λ l. bytes_text (take count field) ++ l) (sym (one_text b)) ∙ sym (text_append (take count field) (b ∷ [])) ∙ ap bytes_text (sym front));
  nonzero = subst (AllByRecursion IsSpelled) (sym front) (all_more (take count field) b f.nonzero s.1);
  zeros = drop-set-lt (count + 1) field count b (omega arith) ∙ sym (drop-drop 1 count field) ∙ ap (drop 1) f.zeros ∙ ap (λ k. drop 1 (replicate k 0)) one_less;
}
  where
    lt : count + 1 ≤ n
    lt = less count n f.fits other
      where
        less : (a b : ℕ) → a ≤ b → a ≢ b → a + 1 ≤ b
        less a b le ne = grind arith

    front : take (count + 1) (set field count b) ≡ take count field ++ b ∷ []
    front = take_more_set field count b (omega (arith, lt, f.sized))

    one_less : n - count ≡ suc (n - (count + 1))
    one_less = omega (arith, lt)

pub front_ends : (n count : ℕ) (field text rest : List ℕ) → SpelledFront n count field text rest → rest ≡ [] → IsPaddedText n text field
front_ends n count field text rest f none = (
  take count field,
  record { spelled = f.spelled ∙ ap (λ l. bytes_text (take count field) ++ l) none ∙ append-nil (bytes_text (take count field)); nonzero = f.nonzero; few = omega (arith, long, f.fits) },
  sym (take-append-drop count field) ∙ ap (λ l. take count field ++ l) f.zeros ∙ ap (λ k. take count field ++ replicate (n - k) 0) (sym long),
)
  where
    long : length (take count field) ≡ count
    long = let m : length (take count field) ≡ min count (length field) = length-take count field in omega (arith, m, f.fits, f.sized)

-- no field is what a text spells that isn't spelled on

on : (n count : ℕ) (field text rest other : List ℕ) → SpelledFront n count field text rest → (is : IsPaddedText n text other) → SpelledOn (take count field) is.0 rest
on n count field text rest other f is = spelled_on (take count field) is.0 rest f.nonzero is.1.nonzero (sym f.spelled ∙ is.1.spelled)

pub front_stops : (n count : ℕ) (field text rest : List ℕ) → SpelledFront n count field text rest → rest ≢ [] → ((b : ℕ) (more : List ℕ) → SpellsFirst rest b more → ⊥) → (other : List ℕ) → IsPaddedText n text other → ⊥
front_stops n count field text rest f some none other is = by (on n count field text rest other f is).more (on n count field text rest other f is).spelled (on n count field text rest other f is).nonzero
  where
    by : (more : List ℕ) → rest ≡ bytes_text more → AllByRecursion IsSpelled more → ⊥
    by [] e p = some (e ∙ text_nil)
    by (b ∷ more) e p = none b (bytes_text more) (e ∙ text_cons b more, p.0)

pub front_full : (n count b : ℕ) (field text rest more : List ℕ) → SpelledFront n count field text rest → SpellsFirst rest b more → count ≡ n → (other : List ℕ) → IsPaddedText n text other → ⊥
front_full n count b field text rest more f s full other is = by o.more o.spelled o.whole
  where
    o : SpelledOn (take count field) is.0 rest
    o = on n count field text rest other f is

    by : (left : List ℕ) → rest ≡ bytes_text left → is.0 ≡ take count field ++ left → ⊥
    by [] e whole = some_text b more (sym s.0 ∙ e ∙ text_nil)
    by (x ∷ left) e whole =
        let a : length is.0 ≡ length (take count field ++ x ∷ left) = ap length whole in
        let c : length (take count field ++ x ∷ left) ≡ length (take count field) + suc (length left) = length-append (take count field) (x ∷ left) in
        let m : length (take count field) ≡ min count (length field) = length-take count field in
        let few = is.1.few in
        omega (arith, a, c, m, few, full, f.sized)

-- the bytes in front of the zeros

zeros_len : (k : ℕ) → len_before 0 (replicate k 0) ≡ 0
zeros_len zero = refl
zeros_len (suc k) = refl

bytes_len : (bytes : List ℕ) (k : ℕ) → AllByRecursion IsSpelled bytes → len_before 0 (bytes ++ replicate k 0) ≡ length bytes
bytes_len [] k all = zeros_len k
bytes_len (b ∷ bytes) k all = len_on 0 b (bytes ++ replicate k 0) (ne_eqb b 0 (λ e. let some = all.0.0 in omega (arith, e, some))) ∙ ap (λ n. 1 + n) (bytes_len bytes k all.1) ∙ one_more (length bytes)
  where
    one_more : (n : ℕ) → 1 + n ≡ suc n
    one_more n = omega arith

pub front_bytes : (n k : ℕ) (text field name : List ℕ) → IsPaddedText n text field → k ≡ len_before 0 field → name ≡ take k field → IsBytesText n text name
front_bytes n k text field name is k_is name_is = subst (IsBytesText n text) (sym (name_is ∙ ap (λ j. take j field) k_is ∙ ap (λ l. take (len_before 0 l) l) is.2 ∙ ap (λ j. take j (padded n is.0)) (bytes_len is.0 (n - length is.0) is.1.nonzero) ∙ take-append_seam is.0 (replicate (n - length is.0) 0))) is.1

pub no_name : (n : ℕ) (text : List ℕ) → ((field : List ℕ) → IsPaddedText n text field → ⊥) → (name : List ℕ) → IsBytesText n text name → ⊥
no_name n text none name is = none (padded n name) (name, is, refl)

-- whether bytes are left

pub some_rest : (rest : List ℕ) (b : Bool) → b ≡ (length rest == 0) → b ≡ false → rest ≢ []
some_rest rest b is none = λ e. no_truth (sym (ap (λ l. length l == 0) e) ∙ sym is ∙ none)

pub no_rest : (rest : List ℕ) (b : Bool) → b ≡ (length rest == 0) → b ≡ true → rest ≡ []
no_rest rest b is all = no_bytes rest (eqb-true (length rest) 0 (sym is ∙ all))
