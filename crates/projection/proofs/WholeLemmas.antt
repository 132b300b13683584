-- What stays by a selection is the projection to a set of vertices, where it is the selection of what the set keeps.
use Rattle.std.proofs.Common.{◌≡◌, ℕ, zero, suc, List, [], ◌∷◌, map, Bool, false, ◌&&◌, ◌||◌, not, slice_get, refl, ap, ◌∙◌}
use Rattle.std.specs.Option.{option_map_or}
use mathlib.Core.Path.{fun_ext}
use Rattle.bit_rows.specs.Sets.{has}
use Rattle.c_tree.specs.declared.program.Function.{Function}
use Rattle.c_tree.specs.declared.program.Program.{Program}
use Rattle.dep_model.specs.declared.vertex.Vertex.{Vertex}
use Rattle.projection.specs.declared.parts.KeptParts.{KeptParts}
use Rattle.projection.specs.declared.statements.Selection.{Selection}
use Rattle.projection.specs.Kept.{KeptWords, Kept}
use Rattle.projection.specs.KeptVertices.{still_gives, is_taken, is_taken_still, kept_words, keeps_function, keeps_parameter, kept_of, projection}
use Rattle.projection.specs.Names.{stays}
use Rattle.kept_numbers.specs.Pairs.{marked}
use Rattle.projection.specs.Parts.{words_of, AreKept}
use Rattle.projection.specs.Projection.{projected_program}
use Rattle.projection.specs.Referring.{functions_refer}
use Rattle.projection.specs.Selected.{kept_by, program_left, AreSelected}

-- a test of each of a list, at a place
has_map : {A : Type 0} (test : A → Bool) (xs : List A) (n : ℕ) → has (map test xs) n ≡ option_map_or test (slice_get xs n) false
has_map test [] zero = refl
has_map test [] (suc n) = refl
has_map test (x ∷ xs) zero = refl
has_map test (x ∷ xs) (suc n) = has_map test xs n

same_words : {s t : ℕ → Bool} {r q : ℕ → Bool} {a b : ℕ → ℕ → Bool} → s ≡ t → r ≡ q → a ≡ b
    → ◌≡◌ {A = KeptWords} (record { statement = s; result = r; argument = a }) (record { statement = t; result = q; argument = b })
same_words s r a = rw (s, r, a) refl

same_kept : {v w : ℕ → Bool} {s t : ℕ → Bool} {r q : ℕ → Bool} {a b : ℕ → ℕ → Bool} {f h : ℕ → Bool} {m n : ℕ → ℕ → Bool} {g k : ℕ → Bool} → v ≡ w → s ≡ t → r ≡ q → a ≡ b → f ≡ h → m ≡ n → g ≡ k
    → ◌≡◌ {A = Kept ℕ} (record { variable = v; statement = s; result = r; argument = a; function = f; parameter = m; gives = g }) (record { variable = w; statement = t; result = q; argument = b; function = h; parameter = n; gives = k })
same_kept v s r a f m g = rw (v, s, r, a, f, m, g) refl

module _ (p : Program) (vs : List Vertex) (set : List Bool) (m : KeptParts) (kept : AreKept vs set m) where
  words_are : words_of m ≡ kept_words set vs
  words_are = same_words (fun_ext kept.statements) (fun_ext kept.results) (fun_ext (λ i. fun_ext (kept.arguments i)))

  functions_are : has m.functions.items ≡ keeps_function set vs
  functions_are = fun_ext kept.functions

  parameters_are : marked m.parameters ≡ keeps_parameter set vs
  parameters_are = fun_ext (λ f. fun_ext (kept.parameters f))

  -- which variables stay, by what functions, parameters and words are kept
  abbrev variable_by : (ℕ → Bool) → (ℕ → ℕ → Bool) → KeptWords → ℕ → Bool
  variable_by function parameter words x = is_taken_still function parameter 0 p.functions x || (not (is_taken p.functions x) && stays words p x)

  variable_same : {f g : ℕ → Bool} {a b : ℕ → ℕ → Bool} {w v : KeptWords} → f ≡ g → a ≡ b → w ≡ v → variable_by f a w ≡ variable_by g b v
  variable_same f a w = rw (f, a, w) refl

  abbrev gives_by : (ℕ → Bool) → ℕ → Bool
  gives_by statement f = option_map_or (λ (c : Function). still_gives statement c) (slice_get p.functions f) false

  module _ (c : Selection) (variables gives : List Bool) (selected : AreSelected m variables gives c)
      (stay : (x : ℕ) → has variables x ≡ (is_taken_still (has m.functions.items) (marked m.parameters) 0 p.functions x || (not (is_taken p.functions x) && functions_refer (words_of m) p.functions x)))
      (give : gives ≡ map (still_gives (has m.statements.items)) p.functions) where
    variables_are : has c.variables ≡ variable_by (keeps_function set vs) (keeps_parameter set vs) (kept_words set vs)
    variables_are = ap has selected.variables_are ∙ fun_ext stay ∙ variable_same functions_are parameters_are words_are

    statements_are : has c.statements ≡ (kept_words set vs).statement
    statements_are = ap has selected.statements ∙ fun_ext kept.statements

    gives_are : has c.gives.now ≡ gives_by (kept_words set vs).statement
    gives_are =
        ap has (selected.gives_are ∙ give) ∙ fun_ext (has_map (still_gives (has m.statements.items)) p.functions) ∙ ap gives_by (fun_ext kept.statements)

    kept_is : kept_by c ≡ kept_of set vs p
    kept_is =
        same_kept variables_are statements_are
        (ap (λ (q : KeptParts). has q.results.items) selected.parts_are ∙ fun_ext kept.results)
        (ap (λ (q : KeptParts). marked q.arguments) selected.parts_are ∙ fun_ext (λ i. fun_ext (kept.arguments i)))
        (ap has selected.functions ∙ functions_are)
        (ap (λ (q : KeptParts). marked q.parameters) selected.parts_are ∙ parameters_are)
        gives_are

    pub left_is_projection : program_left c p ≡ projection p vs set
    left_is_projection = ap (λ (k : Kept ℕ). projected_program k p) kept_is
