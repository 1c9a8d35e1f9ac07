-- Fields say one region, or none.
use Rattle.std.proofs.Common.{◌≡◌, ℕ, List, Bor, map, Bool, true, false, Option, Some, None, refl, ap, sym, ◌∙◌, subst, inl, inr, ◌⊎◌}
use Rattle.std.proofs.lemmas.Bool.{cases_Bool}
use Rattle.std.specs.List.{list_all}
use Rattle.std.proofs.lemmas.List.Folds.{list_all-map}
use Rattle.czi_doc.specs.QueryView.{query_of}
use Rattle.czi_doc.specs.declared.query.Query.{Query as CodeQuery}
use Rattle.std.specs.Prelude.{MatchOption, option_map, unwrap_or}
use Rattle.czi_format.specs.Painting.{Query}
use Rattle.czi_script.specs.declared.regions.RegionTexts.{RegionTexts}
use Rattle.czi_script.specs.declared.kind.Kind.{Kind}
use Rattle.czi_script.specs.declared.fields.Refusal.TheVariants.{Kind as OfKind}
use Rattle.czi_script.specs.Script.{Alone, Paints, RegionValues, region_fields, values_at}
use Rattle.czi_script.specs.Pieces.{Given, RefusesRegion, SaysNoRegion, region_values_in}
use Rattle.czi_script.specs.Words.{IsRegion, SaysRegion, fields_text, is_unspaced}
use Rattle.czi_script.proofs.RegionLines.{SomeRegion, query_at, region_at, region_is, region_or}

-- the values are those that are given
same_values : (text : List ℕ) (values others : List (List ℕ)) → values_at region_fields text ≡ Some values → values_at region_fields text ≡ Some others → values ≡ others
same_values text values others given too = ap (λ o. unwrap_or o values) (sym given ∙ too)

-- values that are no region's leave none to be said
pub none_said : (t : RegionTexts) (text : List ℕ) (kind : Kind) → Some (region_values_in t) ≡ values_at region_fields text → RefusesRegion t (OfKind kind) → SaysNoRegion text
none_said t text kind given r = λ q said. r.1 q (subst (RegionValues q) (same_values text said.0 (region_values_in t) said.1 (sym given)) said.2)

same_query : (q r : Query) → Alone (Paints q) ≡ Alone (Paints r) → q ≡ r
same_query q r e = cc

one_query : (q r : Query) (values : List (List ℕ)) → RegionValues q values → RegionValues r values → q ≡ r
one_query q r values a b = same_query q r (sym (region_is q values a) ∙ region_is r values b)

one_region : (q r : Query) (fields : List (List ℕ)) → IsRegion q fields → IsRegion r fields → q ≡ r
one_region q r fields a b = one_query q r b.values (subst (RegionValues q) (same_values (fields_text fields) a.values b.values a.given_so b.given_so) a.are) b.are

-- fields say one thing
pub said_once : (fields : List (List ℕ)) (said other : Option Query) → SaysRegion fields said → SaysRegion fields other → said ≡ other
said_once fields None None a b = refl
said_once fields None (Some r) a b = absurd (a r b)
said_once fields (Some q) None a b = absurd (b q a)
said_once fields (Some q) (Some r) a b = ap (λ x. Some x) (one_region q r fields a b)

-- and they say something
abbrev pub SaysSome : List (List ℕ) → Type 0
SaysSome fields = (said : Option Query) × SaysRegion fields said

pub some_said : (fields : List (List ℕ)) → SaysSome fields
some_said fields = elim (cases_Bool (list_all is_unspaced fields)) [
  | inl t ↦ with_values t (values_at region_fields (fields_text fields)) refl
  | inr f ↦ (None, λ q r. let h : false ≡ true = sym f ∙ r.unspaced in cc)
]
  where
    with_values : list_all is_unspaced fields ≡ true → (o : Option (List (List ℕ))) → values_at region_fields (fields_text fields) ≡ o → SaysSome fields
    with_values t None e = (None, λ q r. let h : None ≡ Some r.values = sym e ∙ r.given_so in cc)
    with_values t (Some values) e = elim (region_or values) [
      | inl some ↦ (Some some.0, record { unspaced = t; values = values; given_so = e; are = some.1 })
      | inr none ↦ (None, λ q r. none (q, subst (RegionValues q) (same_values (fields_text fields) r.values values r.given_so e) r.are))
    ]

-- ---- reading them

abbrev given_words : List (Bor (List ℕ)) → List (List ℕ)
given_words fields = map (λ (s : Bor (List ℕ)). s.now) fields

unspaced_words : (fields : List (Bor (List ℕ))) (b : Bool) → b ≡ list_all (λ s. is_unspaced s.now) fields → list_all is_unspaced (given_words fields) ≡ b
unspaced_words fields b is = list_all-map is_unspaced (λ (s : Bor (List ℕ)). s.now) fields ∙ sym is

-- a field with a space
pub spaced_say_none : (fields : List (Bor (List ℕ))) (b : Bool) → b ≡ list_all (λ s. is_unspaced s.now) fields → b ≡ false → (q : Query) → IsRegion q (given_words fields) → ⊥
spaced_say_none fields b is none q r = let h : false ≡ true = sym none ∙ (sym (unspaced_words fields b is) ∙ r.unspaced) in cc

-- what their text says, they say
pub text_says : (fields : List (Bor (List ℕ))) (b : Bool) → b ≡ list_all (λ s. is_unspaced s.now) fields → b ≡ true → (text : List ℕ) → text ≡ fields_text (given_words fields) → (found : Option CodeQuery)
    → MatchOption found (SaysNoRegion text) (λ query. Given region_fields text (RegionValues (query_of query))) → SaysRegion (given_words fields) (option_map query_of found)
text_says fields b is all text whole None none = λ q r. none q (r.values, subst (λ t. values_at region_fields t ≡ Some r.values) (sym whole) r.given_so, r.are)
text_says fields b is all text whole (Some query) said = record {
  unspaced = unspaced_words fields b is ∙ all;
  values = said.0;
  given_so = subst (λ t. values_at region_fields t ≡ Some said.0) whole said.1;
  are = said.2;
}
