-- What stays of the tree of a text is a tree of some tokens, and what stays of its program is well formed.
use Rattle.std.proofs.Common.{◌≡◌, ◌≤◌, ℕ, suc, max, List, [], ◌∷◌, map, Bool, true, false, refl, arith}
use Rattle.std.specs.List.{list_all}
use Rattle.std.proofs.lemmas.Bool.{and_parts, and_from}
use Rattle.c_tree.specs.declared.raw.program.RawItem.{RawItem}
use Rattle.c_tree.specs.declared.raw.program.RawItem.TheVariants.{Include, Tag, Struct, Global, Prototype, Define}
use Rattle.c_language.specs.ItemGrammar.{are_named}
use Rattle.c_language.specs.Lists.{all_true}
use Rattle.c_scope_laws.specs.ThinTexts.{is_named, NamesParameters}
use Rattle.c_tree.specs.declared.program.Program.{Program}
use Rattle.c_tree.specs.declared.program.Var.{Var}
use Rattle.c_tree.specs.declared.raw.program.RawProgram.{RawProgram}
use Rattle.c_language.specs.Limits.{longest, longest_in_variables, cells, struct_cells, greatest_variable}
use Rattle.c_language.specs.Programs.{IsTree, HasProgram, IsWithinLimits, IsWellFormed}
use Rattle.c_language.specs.Syntax.{is_head, is_item, IsSyntax}
use Rattle.kept_numbers.specs.Ranks.{rank}
use Rattle.projection.specs.Kept.{Kept}
use Rattle.projection.specs.Projection.{if_so, projected_var, projected_vars, projected_program}
use Rattle.c_scope_laws.specs.Following.{kept_numbers}
use Rattle.c_scope_laws.specs.ThinnedTexts.{KeepsText, thinned_text}
use Rattle.c_scope_laws.proofs.ItemWalking.{thinner_keeps}
use Rattle.c_scope_laws.proofs.ProgramThinning.{program_thins}
use Rattle.c_scope_laws.proofs.ThinnedTexts.{text_left}
use Rattle.c_print_laws.proofs.SyntaxTrees.{syntax_is_tree, syntax_well_formed}
use Rattle.text_syntax.proofs.Items.{text_is_syntax}
use Rattle.thinned_syntax.proofs.LeftSyntax as syntax
use Rattle.thinned_syntax.proofs.LeftNests as nests
use Rattle.thinned_syntax.proofs.ThinnedTexts.{text_is_left}
use Rattle.c_language.specs.Words.{Bytes}

-- what stays of the tree of some tokens is the tree of some tokens, where what is kept is a text
pub thinned_tree : (k : Kept Bytes) (raw : RawProgram) → IsTree raw → KeepsText k raw → IsTree (thinned_text k raw)
thinned_tree k raw tree closed = syntax_is_tree (thinned_text k raw) (syntax.items_left (text_is_left k raw closed) (text_is_syntax raw tree))

-- ---- limits

module _ {F : Type 0} (k : Kept F) (g : ℕ → ℕ) where
  chosen_longest : (b : Bool) (v : Var) (some vs : List Var) → longest_in_variables some ≤ longest_in_variables vs
      → longest_in_variables (if_so b (projected_var k g v ∷ some) some) ≤ max (longest v.shape) (longest_in_variables vs)
  chosen_longest true v some vs h = omega (arith, h)
  chosen_longest false v some vs h = omega (arith, h)

  variables_longest : (n : ℕ) (vs : List Var) → longest_in_variables (projected_vars k g n vs) ≤ longest_in_variables vs
  variables_longest n [] = omega arith
  variables_longest n (v ∷ vs) = chosen_longest (k.variable n) v (projected_vars k g (suc n) vs) vs (variables_longest (suc n) vs)

  module _ (structs : List ℕ) where
    chosen_greatest : (b : Bool) (v : Var) (some vs : List Var) → greatest_variable structs some ≤ greatest_variable structs vs
        → greatest_variable structs (if_so b (projected_var k g v ∷ some) some) ≤ max (cells structs v.shape) (greatest_variable structs vs)
    chosen_greatest true v some vs h = omega (arith, h)
    chosen_greatest false v some vs h = omega (arith, h)

    variables_greatest : (n : ℕ) (vs : List Var) → greatest_variable structs (projected_vars k g n vs) ≤ greatest_variable structs vs
    variables_greatest n [] = omega arith
    variables_greatest n (v ∷ vs) = chosen_greatest (k.variable n) v (projected_vars k g (suc n) vs) vs (variables_greatest (suc n) vs)

-- ---- names of parameters

items_named : (xs : List RawItem) → list_all is_item xs ≡ true → all_true (map is_named xs) ≡ true
items_named [] h = refl
items_named (x ∷ xs) h = let b = and_parts (is_item x) (list_all is_item xs) h in and_from (is_named x) (all_true (map is_named xs)) (one_named x b.0) (items_named xs b.1)
  where
    one_named : (x : RawItem) → is_item x ≡ true → is_named x ≡ true
    one_named (Include is_stdlib) h = refl
    one_named (Tag l w) h = refl
    one_named (Struct l w members) h = refl
    one_named (Global l v i is_static) h = refl
    one_named (Prototype l head) h = refl
    one_named (Define l head body) h = (and_parts (are_named head.params) _ (and_parts (is_head head) _ h).1).0

-- the parameters of each definition of a tree that is syntax have names
parameters_named : (raw : RawProgram) → IsSyntax raw → NamesParameters raw
parameters_named raw h = items_named raw.items h

-- ---- programs

-- what stays of the program of a tree that is syntax, within the limits, is well formed, where what is kept is a text
pub thinned_well_formed : (k : Kept Bytes) (raw : RawProgram) (p : Program) → IsSyntax raw → HasProgram raw p → IsWithinLimits raw p → KeepsText k raw → IsWellFormed (projected_program (kept_numbers k raw) p)
thinned_well_formed k raw p h has within closed =
    let other = thinned_text k raw in
    let numbers = kept_numbers k raw in
    let q = projected_program numbers p in
    let thin = text_left k raw has.rules closed in
    let left = text_is_left k raw closed in
    let n = nests.items_nest left in
    let l = variables_longest numbers (rank numbers.function) 0 p.vars in
    let c = variables_greatest numbers (rank numbers.function) (struct_cells p) 0 p.vars in
    syntax_well_formed q (record {
      raw = other;
      same = q;
      syntax = syntax.items_left left h;
      has = record {
        rules = λ number line broken. thinner_keeps k raw other thin has.rules number line broken;
        program = program_thins k raw other p (parameters_named raw h) thin has.rules has.program;
      };
      within = record {
        nesting = omega (arith, n, within.nesting);
        lengths = omega (arith, l, within.lengths);
        cells = omega (arith, c, within.cells);
      };
      but_lines = refl;
    })
