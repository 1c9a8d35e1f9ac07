-- First fit over the extents in turn.
use Rattle.std.proofs.Common.{◌≡◌, ℕ, ◌+◌, ◌<◌, ◌≤◌, List, [], ◌∷◌, map, drop, length, get_or, max, Option, Some, None, Ok, nat_le, refl, ap, sym, ◌∙◌, add-one}
use Rattle.std.specs.List.{find}
use Rattle.std.specs.Option.{option_or, option_map}
use Rattle.std.proofs.Math.Seq.{drop-cons}
use Rattle.std.proofs.lemmas.List.{drop_all}
use Rattle.czi_format.specs.Span.{Span, end_of}
use Rattle.czi_format.specs.Space.{Space, without, free_runs, use_span, use_all, place_for, place_in, place_past}
use Rattle.czi_space.specs.State.{lowest_of}
use Rattle.czi_space.proofs.Parts.{without-append, lowest-append, lowest_nothing}

-- what is left once spans are used
pub runs-use_all : (space : Space) (used : List Span) → (use_all space used).runs ≡ without used space.runs
runs-use_all space [] = refl
runs-use_all space (s ∷ used) = runs-use_all (use_span space s) used

pub length-use_all : (a b : Space) (used : List Span) → a.length ≡ b.length → (use_all a used).length ≡ (use_all b used).length
length-use_all a b [] e = e
length-use_all a b (s ∷ used) e = length-use_all (use_span a s) (use_span b s) used (ap (λ n. max n (end_of s)) e)

-- what the lowest run says of the place
pub place_found : (space : Space) (need at : ℕ) → lowest_of need space.runs ≡ Some at → place_for space need ≡ Ok at
place_found space need at e = in_runs (find (λ (r : Span). nat_le need r.len) space.runs) e
  where
    in_runs : (o : Option Span) → option_map (λ (s : Span). s.at) o ≡ Some at → place_in space need o ≡ Ok at
    in_runs None f = cc
    in_runs (Some s) f = cc

pub place_not_found : (space : Space) (need : ℕ) → lowest_of need space.runs ≡ None → place_for space need ≡ place_past space need
place_not_found space need e = in_runs (find (λ (r : Span). nat_le need r.len) space.runs) e
  where
    in_runs : (o : Option Span) → option_map (λ (s : Span). s.at) o ≡ None → place_in space need o ≡ place_past space need
    in_runs None f = refl
    in_runs (Some s) f = cc

past_same : (a b : Space) (need : ℕ) → a.length ≡ b.length → place_past a need ≡ place_past b need
past_same a b need e = ap (λ n. place_past (record { runs = []; length = n }) need) e

-- where the lowest run lies in the extents of a list
abbrev pub rest_of : {X : Type 0} → (X → Span) → List Span → List Span → ℕ → List X → Option ℕ
rest_of f held used need xs = lowest_of need (without used (without held (map f xs)))

first_of_rest : {X : Type 0} (f : X → Span) (held used : List Span) (need : ℕ) (xs : List X) (i : ℕ) (d : X) → i < length xs
    → rest_of f held used need (drop i xs) ≡ option_or (rest_of f held used need (get_or xs i d ∷ [])) (rest_of f held used need (drop (i + 1) xs))
first_of_rest f held used need xs i d h =
    let here : drop i xs ≡ get_or xs i d ∷ drop (i + 1) xs = rw (add-one, drop-cons xs i d) in
    ap (λ l. lowest_of need (without used (without held (map f l)))) here
    ∙ (ap (λ l. lowest_of need (without used l)) (without-append held (f (get_or xs i d) ∷ []) (map f (drop (i + 1) xs)))
    ∙ (ap (lowest_of need) (without-append used (without held (f (get_or xs i d) ∷ [])) (without held (map f (drop (i + 1) xs)))) ∙ lowest-append need _ _))

pub found_now : {X : Type 0} (f : X → Span) (held used : List Span) (need n at : ℕ) (xs : List X) (i : ℕ) (d : X) → i < length xs
    → rest_of f held used need (drop i xs) ≡ rest_of f held used need xs → rest_of f held used need (get_or xs i d ∷ []) ≡ Some at
    → place_for (use_all (record { runs = free_runs held (map f xs); length = n }) used) need ≡ Ok at
found_now f held used need n at xs i d h is found =
    let space : Space = record { runs = free_runs held (map f xs); length = n } in
    let all : rest_of f held used need xs ≡ Some at = sym is ∙ (first_of_rest f held used need xs i d h ∙ ap (λ o. option_or o (rest_of f held used need (drop (i + 1) xs))) found) in
    place_found (use_all space used) need at (ap (lowest_of need) (runs-use_all space used) ∙ all)

pub none_now : {X : Type 0} (f : X → Span) (held used : List Span) (need : ℕ) (xs : List X) (i : ℕ) (d : X) → i < length xs
    → rest_of f held used need (drop i xs) ≡ rest_of f held used need xs → rest_of f held used need (get_or xs i d ∷ []) ≡ None
    → rest_of f held used need (drop (i + 1) xs) ≡ rest_of f held used need xs
none_now f held used need xs i d h is none =
    sym (ap (λ o. option_or o (rest_of f held used need (drop (i + 1) xs))) none) ∙ (sym (first_of_rest f held used need xs i d h) ∙ is)

pub none_at_all : {X : Type 0} (f : X → Span) (held used : List Span) (need n m : ℕ) (xs : List X) (i : ℕ) → length xs ≤ i
    → rest_of f held used need (drop i xs) ≡ rest_of f held used need xs → m ≡ (use_all (record { runs = []; length = n }) used).length
    → place_for (use_all (record { runs = free_runs held (map f xs); length = n }) used) need ≡ place_past (record { runs = []; length = m }) need
none_at_all f held used need n m xs i h is m_is =
    let space : Space = record { runs = free_runs held (map f xs); length = n } in
    let none : rest_of f held used need xs ≡ None = sym is ∙ (ap (rest_of f held used need) (drop_all i xs h) ∙ lowest_nothing need held used) in
    place_not_found (use_all space used) need (ap (lowest_of need) (runs-use_all space used) ∙ none)
    ∙ past_same (use_all space used) (record { runs = []; length = m }) need (length-use_all space (record { runs = []; length = n }) used refl ∙ sym m_is)
