-- What is printed of the program of a text is read again as the same program but for lines.
use Rattle.std.proofs.Common.{◌≡◌, ◌≤◌, true, arith, ℕ, max, List, [], ◌∷◌, ◌++◌, map, Some, refl, sym, ap, subst, ◌∙◌}
use Rattle.c_tree.specs.declared.program.Program.{Program}
use Rattle.c_tree.specs.declared.program.Var.{Var}
use Rattle.c_tree.specs.Unlined.{unlined_var, SameButLines}
use Rattle.c_tree.specs.declared.raw.program.RawItem.{RawItem}
use Rattle.c_tree.specs.declared.raw.program.RawProgram.{RawProgram}
use Rattle.c_language.specs.Words.{Bytes}
use Rattle.c_language.specs.TokenForms.{Tokens}
use Rattle.c_language.specs.Tokens.{IsTokens, AreTokensOf}
use Rattle.c_language.specs.declared.token.Before.TheVariants.{Blank}
use Rattle.c_language.specs.Rules.{KeepsRules}
use Rattle.c_language.specs.ProgramOf.{program_of}
use Rattle.c_language.specs.StatementNesting.{program_nesting}
use Rattle.c_language.specs.Layout.{layout}
use Rattle.c_language.specs.Limits.{longest, longest_in_structs, longest_in_variables, array_length, cells, struct_cells, greatest_variable, object_cells}
use Rattle.c_language.specs.Programs.{IsWithinLimits, IsWellFormed}
use Rattle.c_language.specs.Syntax.{IsSyntax}
use Rattle.c_print.specs.Feedless.{feedless}
use Rattle.c_text_layout.specs.RawLayout.{raw_layout}
use Rattle.c_print_laws.specs.ReadAgain.{starless, comment_line, IsReadAgain}
use Rattle.c_print_laws.specs.SyntaxLayout.{HasSyntax}
use Rattle.c_print_laws.proofs.SyntaxLayout.{syntax_behind}
use Rattle.c_print_laws.proofs.SyntaxTrees.{has_syntax}
use Rattle.c_print_laws.proofs.Commented.{behind_comment_line}
use Rattle.c_print_laws.proofs.ItemLayout.{layout_of_tree}
use Rattle.c_print_laws.proofs.ShortLists.{short_lists}
use Rattle.c_print_laws.proofs.HeadForms.{heads_formed}
use Rattle.c_print_laws.proofs.Settling.{settled_program}
use Rattle.c_print_laws.proofs.RulesKept.{settled_keeps, kept_by_settled}
use Rattle.c_print_laws.proofs.SameProgram.{settled_has, has_settled}
use Rattle.c_print_laws.proofs.LineLess.{layouts_same}
use Rattle.text_syntax.proofs.Items.{text_is_syntax}
use Rattle.c_print_laws.proofs.ListForms.{is_counted, fine, lists_counted}
use Rattle.c_language.specs.Lists.{greatest}

-- The layout of the program of a tree that is syntax and keeps all rules is that of the tree.
pub layout_of_text : (raw : RawProgram) (p : Program) → IsSyntax raw → KeepsRules raw → program_of raw ≡ Some p → layout p ≡ raw_layout raw
layout_of_text raw p g keeps is = layout_of_tree raw p is keeps (heads_formed raw g)

-- ---- quantities that have no lines

variables_longest : (vs : List Var) → longest_in_variables (map unlined_var vs) ≡ longest_in_variables vs
variables_longest [] = refl
variables_longest (v ∷ vs) = ap (max (longest v.shape)) (variables_longest vs)

variables_greatest : (structs : List ℕ) (vs : List Var) → greatest_variable structs (map unlined_var vs) ≡ greatest_variable structs vs
variables_greatest structs [] = refl
variables_greatest structs (v ∷ vs) = ap (max (cells structs v.shape)) (variables_greatest structs vs)

-- Programs that are the same but for lines have arrays of the same lengths.
pub lengths_same : (p q : Program) → SameButLines p q → array_length p ≡ array_length q
lengths_same p q same =
    ap (max (longest_in_structs p.structs)) (sym (variables_longest p.vars)) ∙ ap array_length same ∙ ap (max (longest_in_structs q.structs)) (variables_longest q.vars)

-- Programs that are the same but for lines have objects of as many cells.
pub cells_same : (p q : Program) → SameButLines p q → object_cells p ≡ object_cells q
cells_same p q same =
    ap (max (greatest (struct_cells p))) (sym (variables_greatest (struct_cells p) p.vars)) ∙ ap object_cells same
    ∙ ap (max (greatest (struct_cells q))) (variables_greatest (struct_cells q) q.vars)

-- ---- reading again

-- A tree that is the same in all that the layout keeps keeps the rules too, and has the same program but for lines.
pub same_in_layout : (raw found : RawProgram) (p : Program) → IsSyntax raw → IsSyntax found → settled_program found ≡ settled_program raw
    → KeepsRules raw → program_of raw ≡ Some p → KeepsRules found × ((q : Program) × (program_of found ≡ Some q) × SameButLines p q)
same_in_layout raw found p g next same keeps is =
    let first = lists_counted raw g in
    let second = lists_counted found next in
    let middle = settled_has raw is_counted fine first p is in
    let last = has_settled found is_counted fine second middle.0 (ap program_of same ∙ middle.1) in
    (kept_by_settled found is_counted fine second (subst KeepsRules (sym same) (settled_keeps raw is_counted fine first keeps)), (last.0, last.1, middle.2 ∙ last.2))

-- A tree that nests no deeper, with the same program but for lines, keeps the limits too.
limits_kept : (raw found : RawProgram) (p q : Program) → program_nesting found ≤ program_nesting raw → SameButLines p q → IsWithinLimits raw p → IsWithinLimits found q
limits_kept raw found p q n but_lines h =
    let l = lengths_same p q but_lines in
    let c = cells_same p q but_lines in
    record { nesting = omega (arith, n, h.nesting); lengths = omega (arith, l, h.lengths); cells = omega (arith, c, h.cells) }

-- The layout of a program that has syntax is read again behind what its tokens stand behind.
read_behind : (front : Bytes) (line : ℕ) → ((text : Bytes) (ts : Tokens) → IsTokens Blank line text ts → AreTokensOf (front ++ text) ts) → (p : Program) → HasSyntax p → IsReadAgain (front ++ layout p) p
read_behind front line behind p h =
    let raw = h.raw in
    let r = syntax_behind front line behind raw h.syntax (short_lists raw h.same h.has.program h.has.rules h.within.lengths) in
    let again = text_is_syntax r.found (record { tokens = r.tokens; is = r.tree }) in
    let k = same_in_layout raw r.found h.same h.syntax again (ap (λ (xs : List RawItem). record { items = xs }) r.same) h.has.rules h.has.program in
    let laid : layout p ≡ raw_layout raw = layouts_same p h.same h.but_lines ∙ layout_of_text raw h.same h.syntax h.has.rules h.has.program in
    record {
      found = r.found;
      again = k.1.0;
      accepted = record {
        tokens = r.tokens;
        are = subst (λ (text : Bytes). AreTokensOf (front ++ text) r.tokens) (sym laid) r.are;
        tree = r.tree;
        has = record { rules = k.0; program = k.1.1 };
      };
      within = limits_kept raw r.found h.same k.1.0 r.nesting k.1.2 h.within;
      same = h.but_lines ∙ k.1.2;
    }

-- The layout of a well-formed program is read again.
pub layout_is_read_again : (p : Program) → IsWellFormed p → IsReadAgain (layout p) p
layout_is_read_again p h = read_behind [] 1 (λ text ts lexed. lexed) p (has_syntax p h)

-- And so is the layout behind a comment of one line.
pub commented_is_read_again : (inside : Bytes) (p : Program) → feedless inside ≡ true → starless inside ≡ true → IsWellFormed p → IsReadAgain (comment_line inside ++ layout p) p
commented_is_read_again inside p plain calm h = read_behind (comment_line inside) 2 (behind_comment_line inside plain calm) p (has_syntax p h)
