-- A generated program has no arrays and no struct types, so that it keeps the limits.
use Rattle.std.proofs.Common.{◌≡◌, ℕ, zero, suc, ◌<◌, ◌≤◌, ◌^◌, max, List, [], ◌∷◌, ◌++◌, map, Option, Some, None, refl, sym, ap, subst, ◌∙◌, arith}
use Rattle.std.specs.Prelude.{option_map}
use Rattle.c_arith.specs.declared.int_type.IntType.TheVariants.{Int}
use Rattle.c_tree.specs.declared.types.CType.{CType}
use Rattle.c_tree.specs.declared.types.CType.TheVariants as tree
use Rattle.c_tree.specs.declared.program.Program.{Program}
use Rattle.c_tree.specs.declared.program.StructDef.{StructDef}
use Rattle.c_tree.specs.declared.program.Var.{Var}
use Rattle.c_tree.specs.declared.raw.expr.RawType.{RawType}
use Rattle.c_tree.specs.declared.raw.program.RawProgram.{RawProgram}
use Rattle.c_language.specs.DeclaredTypes.{StructText, struct_texts, defined_structs, item_count}
use Rattle.c_language.specs.Limits.{longest, longest_in_structs, longest_in_variables, array_length, cells, struct_cells, cells_behind, greatest_variable, object_cells}
use Rattle.c_language.specs.Lists.{greatest}
use Rattle.c_language.specs.Phrases.{Part, Declares, Phrases, phrases}
use Rattle.c_language.specs.ProgramOf.{collected, ctype_with, variable_of, declared_by, variables_in, struct_tree, program_of}
use Rattle.c_language.specs.Programs.{IsWithinLimits}
use Rattle.c_language.specs.Scopes.{Scope}
use Rattle.c_language.proofs.ProgramParts.{made_of}
use Rattle.c_types_base.proofs.DefinitionLemmas.{structs-append}
use Rattle.c_types_trees.proofs.ShapeLemmas.{ctype-Integer, longest-Integer}
use Rattle.c_types.proofs.LimitLemmas.{cells-Integer}
use Rattle.big_programs.specs.Draws.{choices_drawn, state_before}
use Rattle.big_laws.specs.Trees.{int, function_item, function_items, main_item, generated_tree}
use Rattle.big_laws.proofs.Good.{IsPlain, AreGood}
use Rattle.big_laws.proofs.Nesting.{tree_nests}
use Rattle.big_laws.proofs.Rules.{all_good}

-- ---- struct types

no_structs_in : (x n : ℕ) → struct_texts (function_items x n) ≡ []
no_structs_in x zero = refl
no_structs_in x (suc n) =
    structs-append (function_items x n) (function_item (suc n) (choices_drawn n (state_before x n)) ∷ [])
    ∙ ap (λ (ss : List StructText). ss ++ []) (no_structs_in x n)

no_structs : (seed size : ℕ) → defined_structs (generated_tree seed size) ≡ []
no_structs seed size = structs-append (function_items seed size) (main_item size ∷ []) ∙ ap (λ (ss : List StructText). ss ++ []) (no_structs_in seed size)

-- ---- variables

abbrev integer_type : CType
integer_type = tree.Integer Int

abbrev IsInt : Option Var → Type 0
IsInt None = Unit {0}
IsInt (Some v) = v.shape ≡ integer_type

abbrev AreIntsIf : List (Option Var) → Type 0
AreIntsIf [] = Unit {0}
AreIntsIf (o ∷ os) = IsInt o × AreIntsIf os

abbrev AreInts : List Var → Type 0
AreInts [] = Unit {0}
AreInts (v ∷ vs) = (v.shape ≡ integer_type) × AreInts vs

ints_joined : (xs ys : List (Option Var)) → AreIntsIf xs → AreIntsIf ys → AreIntsIf (xs ++ ys)
ints_joined [] ys first second = second
ints_joined (x ∷ xs) ys first second = (first.0, ints_joined xs ys first.1 second)

module _ (raw : RawProgram) where
  of_shape : (f : CType → Var) → ((t : CType) → (f t).shape ≡ t) → (items : ℕ) (shape : RawType) → shape ≡ int → IsInt (option_map f (ctype_with raw items shape))
  of_shape f own items shape is =
      let made : ctype_with raw items shape ≡ Some integer_type = ap (ctype_with raw items) is ∙ ctype-Integer raw items Int in
      subst (λ (o : Option CType). IsInt (option_map f o)) (sym made) (own integer_type)

  declared_ints : (line : ℕ) (scope : Scope) (part : Part) → IsPlain part → AreIntsIf (declared_by raw line scope part)
  declared_ints line scope (Declares stand var i) plain = (of_shape _ (λ t. refl) (item_count i) var.shape plain, tt)
  declared_ints line scope _ plain = tt

  ints_in : (ps : Phrases) → AreGood raw ps → AreIntsIf (variables_in raw ps)
  ints_in [] h = tt
  ints_in (p ∷ ps) h =
      ints_joined (declared_by raw p.line p.scope p.part) (variables_in raw ps) (declared_ints p.line p.scope p.part h.0.plain) (ints_in ps h.1)

collected_then : (v : Var) (rest : Option (List Var)) (vs : List Var) → v.shape ≡ integer_type → ((ws : List Var) → rest ≡ Some ws → AreInts ws)
    → option_map (λ (ws : List Var). v ∷ ws) rest ≡ Some vs → AreInts vs
collected_then v None vs first later is = absurd cc
collected_then v (Some ws) vs first later is =
    let same : v ∷ ws ≡ vs = cc in
    subst AreInts same (first, later ws refl)

collected_ints : (os : List (Option Var)) → AreIntsIf os → (vs : List Var) → collected os ≡ Some vs → AreInts vs
collected_ints [] h vs is =
    let same : [] ≡ vs = cc in
    subst AreInts same tt
collected_ints (None ∷ os) h vs is = absurd cc
collected_ints (Some v ∷ os) h vs is = collected_then v (collected os) vs h.0 (collected_ints os h.1) is

-- ---- the quantities

no_length : (vs : List Var) → AreInts vs → longest_in_variables vs ≡ 0
no_length [] h = refl
no_length (v ∷ vs) h =
    let one : longest v.shape ≡ 0 = ap longest h.0 ∙ longest-Integer Int in
    omega (arith, one, no_length vs h.1)

one_cell : (vs : List Var) → AreInts vs → greatest_variable [] vs ≤ 1
one_cell [] h = omega arith
one_cell (v ∷ vs) h =
    let one : cells [] v.shape ≡ 1 = ap (cells []) h.0 ∙ cells-Integer [] Int in
    omega (arith, one, one_cell vs h.1)

module _ (seed last : ℕ) (small : suc last < 2 ^ 64) where
  abbrev raw : RawProgram
  raw = generated_tree seed (suc last)

  pub limits_kept : (p : Program) → program_of raw ≡ Some p → IsWithinLimits raw p
  limits_kept p is =
      let parts = made_of raw p is in
      let ints = collected_ints (variables_in raw (phrases raw)) (ints_in raw (phrases raw) (all_good seed last small)) p.vars parts.vars in
      let none : ◌≡◌ {A = Option (List StructDef)} (Some []) (Some p.structs) = sym (ap (λ (ds : List StructText). collected (map (struct_tree raw) ds)) (no_structs seed (suc last))) ∙ parts.structs in
      let empty : p.structs ≡ [] = cc in
      let lengths : array_length p ≡ max 0 (longest_in_variables p.vars) = ap (λ (ss : List StructDef). max (longest_in_structs ss) (longest_in_variables p.vars)) empty in
      let amounts : object_cells p ≡ max 0 (greatest_variable [] p.vars) =
      ap (λ (ss : List StructDef). max (greatest (cells_behind [] ss)) (greatest_variable (cells_behind [] ss) p.vars)) empty in
      let nests = tree_nests seed (suc last) in
      let short = no_length p.vars ints in
      let few = one_cell p.vars ints in
      record { nesting = omega (arith, nests); lengths = omega (arith, lengths, short); cells = omega (arith, amounts, few) }
