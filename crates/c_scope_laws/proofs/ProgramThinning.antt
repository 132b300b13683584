-- The program of a thinner text is what stays of the program of the text.
use Rattle.std.proofs.Common.{◌≡◌, ℕ, List, map, Option, Some, None, option_map, option_and_then, refl, ap, ap₂, ◌∙◌}
use Rattle.c_tree.specs.declared.types.CType.{CType}
use Rattle.c_tree.specs.declared.program.Item.{Item}
use Rattle.c_tree.specs.declared.program.Var.{Var}
use Rattle.c_tree.specs.declared.program.Member.{Member}
use Rattle.c_tree.specs.declared.program.StructDef.{StructDef}
use Rattle.c_tree.specs.declared.program.Function.{Function}
use Rattle.c_tree.specs.declared.program.Program.{Program}
use Rattle.c_tree.specs.declared.raw.program.RawMember.{RawMember}
use Rattle.c_tree.specs.declared.raw.program.RawProgram.{RawProgram}
use Rattle.c_language.specs.Words.{Bytes}
use Rattle.c_language.specs.ConstantEvaluation.{both}
use Rattle.c_language.specs.DeclaredTypes.{StructText, defined_structs, defined_functions}
use Rattle.c_language.specs.Scopes.{outset}
use Rattle.c_language.specs.Phrases.{scope_at_end, phrases}
use Rattle.c_language.specs.Rules.{IsBroken, KeepsRules}
use Rattle.c_language.specs.ProgramOf.{collected, member_tree, struct_tree, structs_of, items_of, variables_of, functions_of, program_with, program_of}
use Rattle.c_language.proofs.Options.{none_there, some_same}
use Rattle.c_language.proofs.Lists.{maps_same}
use Rattle.c_language.proofs.PhraseLists.{kept_from}
use Rattle.c_scope_laws.specs.Agreement.{SameOutside}
use Rattle.kept_numbers.specs.Ranks.{rank}
use Rattle.projection.specs.Kept.{Kept}
use Rattle.c_scope_laws.specs.Following.{kept_functions, kept_numbers}
use Rattle.c_scope_laws.specs.ThinTexts.{IsThinner, NamesParameters}
use Rattle.projection.specs.Projection.{projected_items, projected_vars, projected_functions, projected_program}
use Rattle.c_scope_laws.proofs.Outside.{ctypes_same}
use Rattle.c_scope_laws.proofs.ItemWalking.{texts_agree, begins_follow, drop_none}
use Rattle.c_scope_laws.proofs.ItemTrees.{stay}
use Rattle.c_scope_laws.proofs.FunctionNumbers.{numbers_kept}
use Rattle.c_scope_laws.proofs.NumberedKept.{vars_numbers}

-- ---- struct types

module _ (raw other : RawProgram) (like : SameOutside raw other) where
  member_same : (m : RawMember) → member_tree other m ≡ member_tree raw m
  member_same m = ap (option_map (λ (t : CType). record { name = m.name; shape = t })) (ctypes_same raw other like 0 m.shape)

  struct_same : (d : StructText) → struct_tree other d ≡ struct_tree raw d
  struct_same d = ap (λ (ms : List (Option Member)). option_map (λ (ms : List Member). record { name = d.tag; members = ms }) (collected ms)) (maps_same (member_tree other) (member_tree raw) member_same d.members)

  structs_same : structs_of other ≡ structs_of raw
  structs_same = ap collected (maps_same (struct_tree other) (struct_tree raw) struct_same (defined_structs other) ∙ ap (map (struct_tree raw)) like.structs)

-- ---- the program

whole_program : (k : Kept ℕ) (n m : ℕ) → m ≡ rank k.statement n → (items items' : Option (List Item)) (vars vars' : Option (List Var)) (structs structs' : Option (List StructDef)) (functions functions' : Option (List Function))
    → ((zs : List Item) → items ≡ Some zs → items' ≡ Some (projected_items k zs)) → ((zs : List Var) → vars ≡ Some zs → vars' ≡ Some (projected_vars k (rank k.function) 0 zs)) → structs' ≡ structs
    → ((zs : List Function) → functions ≡ Some zs → functions' ≡ Some (projected_functions k 0 zs))
    → (p : Program) → option_and_then (λ (items : List Item). option_and_then (λ (vars : List Var). both (program_with n items vars) structs functions) vars) items ≡ Some p
    → option_and_then (λ (items : List Item). option_and_then (λ (vars : List Var). both (program_with m items vars) structs' functions') vars') items' ≡ Some (projected_program k p)
whole_program k n m num None items' vars vars' structs structs' functions functions' a b c d p at = none_there at
whole_program k n m num (Some is) items' None vars' structs structs' functions functions' a b c d p at = none_there at
whole_program k n m num (Some is) items' (Some vs) vars' None structs' functions functions' a b c d p at = none_there at
whole_program k n m num (Some is) items' (Some vs) vars' (Some ss) structs' None functions' a b c d p at = none_there at
whole_program k n m num (Some is) items' (Some vs) vars' (Some ss) structs' (Some fs) functions' a b c d p at =
    ap₂ (λ (i : Option (List Item)) (v : Option (List Var)). option_and_then (λ (items : List Item). option_and_then (λ (vars : List Var). both (program_with m items vars) structs' functions') v) i) (a is refl) (b vs refl)
    ∙ ap₂ (both (program_with m (projected_items k is) (projected_vars k (rank k.function) 0 vs))) c (d fs refl)
    ∙ ap (λ (j : ℕ). Some (program_with j (projected_items k is) (projected_vars k (rank k.function) 0 vs) ss (projected_functions k 0 fs))) num
    ∙ ap (λ (q : Program). Some (projected_program k q)) (some_same at)

pub program_thins : (k : Kept Bytes) (raw other : RawProgram) (p : Program) → NamesParameters raw → IsThinner k raw other → KeepsRules raw → program_of raw ≡ Some p → program_of other ≡ Some (projected_program (kept_numbers k raw) p)
program_thins k raw other p names thin keeps at =
    let texts = texts_agree k raw other thin.items in
    let r = stay k thin.result raw other texts (numbers_kept k raw other thin.items) thin.items 0 0 None None outset (begins_follow k raw other) refl refl (drop_none (defined_functions raw)) (drop_none (defined_functions other))
    (kept_from raw (phrases raw) (λ p c n b. keeps n p.line (IsBroken.by_phrase c b))) names in
    whole_program (kept_numbers k raw) (scope_at_end raw).statements (scope_at_end other).statements r.statements (items_of raw) (items_of other) (variables_of raw) (variables_of other) (structs_of raw) (structs_of other) (functions_of raw) (functions_of other)
    r.items (λ zs is. r.vars.vars zs is ∙ ap Some (vars_numbers k raw (rank (kept_functions k raw)) 0 zs)) (structs_same raw other texts.outside) r.functions p at
