-- The sides of the pointings of a well-formed program are known.
use Rattle.std.proofs.Common.{◌≡◌, ℕ, zero, suc, ◌+◌, ◌<◌, List, [], ◌∷◌, length, map, Bool, true, false, ◌&&◌, ◌||◌, inl, inr, Option, Some, refl, sym, ap, ap₂, ◌∙◌, subst, arith, ltb-true}
use Rattle.std.specs.Prelude.{Contains, nat_lt, is_some, slice_get}
use Rattle.std.specs.List.{list_all}
use Rattle.std.specs.Option.{option_map_or}
use Rattle.std.proofs.lemmas.Bool.{false≢true, and_parts, or_cases}
use Rattle.rule_closure.proofs.ListLemmas.{contains_none, contains_cases}
use Rattle.c_tree.specs.Unlined.{unlined_function, SameButLines}
use Rattle.c_tree.specs.declared.expr.Expr.{Expr}
use Rattle.c_tree.specs.declared.program.Function.{Function}
use Rattle.c_tree.specs.declared.program.Item.{Item}
use Rattle.c_tree.specs.declared.program.Program.{Program}
use Rattle.c_tree.specs.declared.raw.program.RawHead.{RawHead}
use Rattle.c_tree.specs.declared.raw.program.RawProgram.{RawProgram}
use Rattle.c_language.specs.Code.{Returns}
use Rattle.c_language.specs.DeclaredTypes.{defined_functions}
use Rattle.c_language.specs.Phrases.{phrases}
use Rattle.c_language.specs.ProgramOf.{variables_in}
use Rattle.c_language.specs.Programs.{HasProgram, IsWellFormed}
use Rattle.c_language.specs.Scopes.{outset}
use Rattle.c_language.proofs.PhraseLists.{phrases_kept}
use Rattle.c_language.proofs.ProgramParts.{made_of}
use Rattle.dep_model.specs.Doings.{Doing, Does, body_doings, doings_of}
use Rattle.dep_model.specs.MayPoint.{parameters}
use Rattle.dep_model.specs.VertexOrder.{has_result}
use Rattle.dep_model.proofs.DoingForms.{contained_passes}
use Rattle.numbered_texts.proofs.NumbersButLines.{body_unlined, count_same, named_exist}
use Rattle.numbered_texts.proofs.Texts.{text_variables}
use Rattle.points_laws.specs.Known.{AreGlobalsNowhere, HasKnownSides}
use Rattle.points_laws.specs.Laws.{SidesAreKnown}
use Rattle.points_laws.proofs.FunctionSides.{returns_none, returns_fit, parameters_fit, returns_pass, parameters_pass}
use Rattle.points_laws.proofs.GlobalSides.{collected_there, PointsNowhere, items_nowhere}

-- ---- what tests of functions say

returned_in : (fs : List Function) (f i : ℕ) (e : Expr) → list_all returns_fit fs ≡ true → Contains (option_map_or (λ (g : Function). body_doings g.body) (slice_get fs f) []) (Does i (Returns (Some e))) → option_map_or (λ (g : Function). is_some g.result) (slice_get fs f) false ≡ true
returned_in [] f i e h c = absurd (contains_none (Does i (Returns (Some e))) c)
returned_in (g ∷ fs) zero i e h c = elim (or_cases (is_some g.result) (list_all returns_none (body_doings g.body)) (and_parts (returns_fit g) (list_all returns_fit fs) h).0) [
  | inl given ↦ given
  | inr none ↦ absurd (false≢true (contained_passes returns_none (body_doings g.body) (Does i (Returns (Some e))) none c))
]
returned_in (g ∷ fs) (suc f) i e h c = returned_in fs f i e (and_parts (returns_fit g) (list_all returns_fit fs) h).1 c

each_low : (n : ℕ) (xs : List ℕ) (x : ℕ) → list_all (λ y. nat_lt y n) xs ≡ true → Contains xs x → x < n
each_low n [] x h c = absurd (contains_none x c)
each_low n (y ∷ xs) x h c =
    let k = and_parts (nat_lt y n) (list_all (λ z. nat_lt z n) xs) h in
    elim (contains_cases y xs x c) [ inl same ↦ subst (λ z. z < n) same (ltb-true y n k.0) | inr later ↦ each_low n xs x k.1 later ]

parameter_in : (n : ℕ) (fs : List Function) (f x : ℕ) → list_all (parameters_fit n) fs ≡ true → Contains (option_map_or (λ (g : Function). g.params) (slice_get fs f) []) x → x < n
parameter_in n [] f x h c = absurd (contains_none x c)
parameter_in n (g ∷ fs) zero x h c = each_low n g.params x (and_parts (parameters_fit n g) (list_all (parameters_fit n) fs) h).0 c
parameter_in n (g ∷ fs) (suc f) x h c = parameter_in n fs f x (and_parts (parameters_fit n g) (list_all (parameters_fit n) fs) h).1 c

-- ---- texts

module _ (raw : RawProgram) (p : Program) (has : HasProgram raw p) where
  text_returns : list_all returns_fit p.functions ≡ true
  text_returns =
      let heads : (k : ℕ) → slice_get (defined_functions raw) (0 + k) ≡ slice_get (defined_functions raw) k = λ k. let z : 0 + k ≡ k = omega arith in ap (slice_get (defined_functions raw)) z in
      returns_pass raw raw.items outset p.functions (phrases_kept raw has.rules) (made_of raw p has.program).functions heads

  text_parameters : list_all (parameters_fit (length p.vars)) p.functions ≡ true
  text_parameters = parameters_pass raw raw.items outset p.functions (made_of raw p has.program).functions (length p.vars) (omega (arith, text_variables raw p has))

  -- whatever program they are looked at in
  text_globals : (q : Program) (i : Item) → Contains p.items i → PointsNowhere q i
  text_globals q = items_nowhere q raw raw.items outset p.items (phrases_kept raw has.rules) (collected_there (variables_in raw (phrases raw)) p.vars (made_of raw p has.program).vars) (made_of raw p has.program).items

-- ---- lines decide nothing of that

returns_unlined : (fs : List Function) → list_all returns_fit (map unlined_function fs) ≡ list_all returns_fit fs
returns_unlined [] = refl
returns_unlined (f ∷ fs) = ap₂ (λ (a b : Bool). (is_some f.result || a) && b) (ap (list_all returns_none) (body_unlined f.body)) (returns_unlined fs)

parameters_unlined : (n : ℕ) (fs : List Function) → list_all (parameters_fit n) (map unlined_function fs) ≡ list_all (parameters_fit n) fs
parameters_unlined n [] = refl
parameters_unlined n (f ∷ fs) = ap (λ (b : Bool). parameters_fit n f && b) (parameters_unlined n fs)

module _ (p q : Program) (same : SameButLines p q) where
  returns_same : list_all returns_fit p.functions ≡ list_all returns_fit q.functions
  returns_same = sym (returns_unlined p.functions) ∙ ap (λ (r : Program). list_all returns_fit r.functions) same ∙ returns_unlined q.functions

  parameters_same : list_all (parameters_fit (length p.vars)) p.functions ≡ list_all (parameters_fit (length q.vars)) q.functions
  parameters_same =
      sym (parameters_unlined (length p.vars) p.functions) ∙ ap₂ (λ (n : ℕ) (fs : List Function). list_all (parameters_fit n) fs) (count_same p q same) (ap (λ (r : Program). r.functions) same) ∙ parameters_unlined (length q.vars) q.functions

pub sides_known : SidesAreKnown
sides_known p ok =
    let q = ok.same in
    let items : p.items ≡ q.items = ap (λ (r : Program). r.items) ok.but_lines in
    record {
      named = named_exist p ok;
      parameters_in = λ f x c. parameter_in (length p.vars) p.functions f x (parameters_same p q ok.but_lines ∙ text_parameters ok.raw q ok.has) c;
      returns_in = λ f i e c. returned_in p.functions f i e (returns_same p q ok.but_lines ∙ text_returns ok.raw q ok.has) c;
      globals = λ points i a m c given. text_globals ok.raw q ok.has p i (subst (λ (xs : List Item). Contains xs i) items c) points a m given;
    }
