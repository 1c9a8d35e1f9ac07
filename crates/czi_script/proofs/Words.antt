-- Words of lines, and what their fields say.
use Rattle.std.proofs.Common.{◌≡◌, ℕ, List, [], ◌∷◌, true, false, Option, Some, None, Result, Ok, Err, refl, ap, sym, ◌∙◌, subst, inl, inr}
use Rattle.std.specs.Prelude.{bytes_eq, is_some, MatchResult}
use Rattle.std.specs.List.{AllByRecursion}
use Rattle.std.proofs.lemmas.Bool.{cases_Bool}
use Rattle.std.proofs.lemmas.Slice.Eq.{bytes_eq-Decides}
use Rattle.czi_format.specs.Partial.{◌>>=◌}
use Rattle.czi_script.specs.declared.kind.Kind.{Kind}
use Rattle.czi_script.specs.declared.kind.Kind.TheVariants.{Cut, Long, Word, Later, Field, Value, Tail}
use Rattle.czi_script.specs.declared.head.Head.{Head as CodeHead}
use Rattle.czi_script.specs.declared.head.Plain.{Plain as CodePlain}
use Rattle.czi_script.specs.declared.fields.Refusal.{Refusal}
use Rattle.czi_script.specs.declared.fields.Refusal.TheVariants.{Kind as OfKind, Memory as NoMemory}
use Rattle.czi_script.specs.Script.{Head, Alone, LineForm, FieldForm, IsHead, IsWrong, AreValues, head_word, word, behind_word, lines, later_words, is_among, fields_for, values_at, values_of}
use Rattle.czi_script.specs.View.{head_of, plain_of}
use Rattle.czi_script.specs.Pieces.{SaysFields, RefusesBy, RefusesFields, GivesNoCommand}
use Rattle.czi_script.proofs.Tests.{no_truth}

-- what holds of the word of each line holds of one whose fields are known
pub each_line : (P : List ℕ → Type 0) (ls : List LineForm) → AllByRecursion (λ (l : LineForm). P l.name) ls → (w : List ℕ) → is_some (fields_for ls w) ≡ true → P w
each_line P [] all w e = absurd (no_truth (sym e))
each_line P (l ∷ ls) all w e = elim (cases_Bool (bytes_eq w l.name)) [
  | inl t ↦ subst P (sym ((bytes_eq-Decides w l.name).0 t)) all.0
  | inr t ↦ each_line P ls all.1 w (sym (others t) ∙ e)
]
  where
    others : bytes_eq w l.name ≡ false → is_some (fields_for (l ∷ ls) w) ≡ is_some (fields_for ls w)
    others t = rw t

-- the words that are built and the others are apart
pub built_not_later : (w : List ℕ) → is_some (fields_for lines w) ≡ true → is_among later_words w ≡ false
built_not_later w e = each_line (λ x. is_among later_words x ≡ false) lines (refl, (refl, (refl, (refl, (refl, (refl, (refl, (refl, (refl, (refl, (refl, (refl, (refl, tt))))))))))))) w e

-- the values of a line whose fields are known
values_by : (line : List ℕ) (fs : List FieldForm) → fields_for lines (word line) ≡ Some fs → values_of line ≡ values_at fs (behind_word line)
values_by line fs e = ap (λ (found : Option (List FieldForm)). found >>= λ fields. values_at fields (behind_word line)) e

pub some_is : {A : Type 0} (o : Option A) (x : A) → o ≡ Some x → is_some o ≡ true
some_is o x e = ap is_some e

pub none_is : {A : Type 0} (o : Option A) → o ≡ None → is_some o ≡ false
none_is o e = ap is_some e

-- What a line says by its fields, or why it is wrong, where its word is one that is built.
module _ (line w : List ℕ) (fs : List FieldForm) (named : word line ≡ w) (known : fields_for lines w ≡ Some fs) where
  here : fields_for lines (word line) ≡ Some fs
  here = ap (fields_for lines) named ∙ known

  pub says_line : (h : Head) → SaysFields w fs (behind_word line) h → IsHead h line
  says_line h s = record { values = s.1.0; named = named ∙ sym s.0; given_so = values_by line fs here ∙ s.1.1; are = s.1.2 }

  refuses_by : (kind : Kind) → RefusesBy w fs (behind_word line) kind → IsWrong kind line
  refuses_by Cut r = r
  refuses_by Long r = r
  refuses_by Word r = absurd r
  refuses_by Later r = absurd r
  refuses_by Field r = (some_is _ fs here, none_is _ (values_by line fs here ∙ r))
  refuses_by Value r = (some_is _ r.0 (values_by line fs here ∙ r.1), λ h is. r.2 h (sym is.named ∙ named) (subst (AreValues h) (same (values_of line) is.values r.0 is.given_so (values_by line fs here ∙ r.1)) is.are))
    where
      same : (o : Option (List (List ℕ))) (a b : List (List ℕ)) → o ≡ Some a → o ≡ Some b → a ≡ b
      same o a b e f = cc
  refuses_by Tail r = r

  pub refuses_line : (refusal : Refusal) → RefusesFields w fs (behind_word line) refusal → GivesNoCommand line refusal
  refuses_line (OfKind kind) r = refuses_by kind r
  refuses_line NoMemory r = tt

pub says_result : (line w : List ℕ) (fs : List FieldForm) (front text : List ℕ) (r : Result CodeHead Refusal) → front ≡ word line → text ≡ behind_word line → (true ≡ bytes_eq front w) → fields_for lines w ≡ Some fs
    → MatchResult r (λ h. SaysFields w fs text (head_of h)) (RefusesFields w fs text) → MatchResult r (λ h. IsHead (head_of h) line) (GivesNoCommand line)
says_result line w fs front text (Ok h) front_is text_is same known s =
    says_line line w fs (sym front_is ∙ (bytes_eq-Decides front w).0 (sym same)) known (head_of h) (subst (λ t. SaysFields w fs t (head_of h)) text_is s)
says_result line w fs front text (Err refusal) front_is text_is same known r =
    refuses_line line w fs (sym front_is ∙ (bytes_eq-Decides front w).0 (sym same)) known refusal (subst (λ t. RefusesFields w fs t refusal) text_is r)

-- a line without fields
pub bare_result : (line : List ℕ) (c : CodePlain) (front text : List ℕ) (r : Result CodeHead Refusal) → front ≡ word line → text ≡ behind_word line → (true ≡ bytes_eq front (head_word (Alone (plain_of c)))) → fields_for lines (head_word (Alone (plain_of c))) ≡ Some []
    → AreValues (Alone (plain_of c)) [] → MatchResult r (λ h. (head_of h ≡ Alone (plain_of c)) × (values_at [] text ≡ Some [])) (λ e. (e ≡ OfKind Field) × (values_at [] text ≡ None))
    → MatchResult r (λ h. IsHead (head_of h) line) (GivesNoCommand line)
bare_result line c front text (Ok h) front_is text_is same known are s =
    says_result line (head_word (Alone (plain_of c))) [] front text (Ok h) front_is text_is same known
    (subst (λ (k : Head). SaysFields (head_word (Alone (plain_of c))) [] text k) (sym s.0) (refl, ([], s.1, are)))
bare_result line c front text (Err refusal) front_is text_is same known are r =
    says_result line (head_word (Alone (plain_of c))) [] front text (Err refusal) front_is text_is same known (subst (RefusesFields (head_word (Alone (plain_of c))) [] text) (sym r.0) r.1)
