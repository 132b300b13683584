-- Types fit in each well-formed program.
use Rattle.std.proofs.Common.{◌≡◌, ◌+◌, List, [], ◌∷◌, ◌++◌, map, Bool, true, Option, Some, slice_get, refl, sym, ap, ap₂, subst, ◌∙◌, arith}
use Rattle.std.specs.Prelude.{◌&&◌}
use Rattle.std.specs.List.{list_all}
use Rattle.c_tree.specs.Unlined.{unlined, unlined_function, unlined_var, SameButLines}
use Rattle.c_tree.specs.declared.expr.Expr.{Expr}
use Rattle.c_tree.specs.declared.program.Function.{Function}
use Rattle.c_tree.specs.declared.program.Program.{Program}
use Rattle.c_tree.specs.declared.program.Var.{Var}
use Rattle.c_tree.specs.declared.raw.program.RawProgram.{RawProgram}
use Rattle.c_tree.specs.declared.statement.Statement.{Statement}
use Rattle.c_tree.specs.declared.statement.Statement.TheOpen.{Statement-F}
use Rattle.c_tree.proofs.Unlining.{zeroed, fold_unlined}
use Rattle.c_language.specs.DeclaredTypes.{defined_functions}
use Rattle.c_language.specs.Phrases.{phrases}
use Rattle.c_language.specs.ProgramOf.{collected, variables_in}
use Rattle.c_language.specs.Programs.{HasProgram}
use Rattle.c_language.specs.Scopes.{outset}
use Rattle.c_language.specs.Syntax.{IsSyntax}
use Rattle.c_language.specs.TreeTypes.{shape_of}
use Rattle.c_language.specs.declared.expr_type.ExprType.{ExprType}
use Rattle.c_language.proofs.Options.{some_same, more_there}
use Rattle.c_language.proofs.PhraseLists.{phrases_kept}
use Rattle.c_language.proofs.ProgramParts.{IsMadeOf, made_of}
use Rattle.c_print_laws.proofs.Told.{AllStand, stand_all, AreTold}
use Rattle.numbered_texts.proofs.NumbersButLines.{body_unlined}
use Rattle.text_syntax.proofs.Items.{text_is_syntax}
use Rattle.typed_programs.specs.Laws.{ProgramsAreTyped}
use Rattle.typed_programs.specs.Needs.{Need, needs_step, needs_arm, body_needs}
use Rattle.typed_programs.specs.TreeOperands.{Signature, Declarations, signature_of, declarations}
use Rattle.typed_programs.specs.TypedStatements.{need_fits, doing_fits, function_fits, function_needs, item_fits, IsTyped}
use Rattle.typed_programs.proofs.Members.{members_typed, members_stand}
use Rattle.typed_programs.proofs.Seeing.{Known}
use Rattle.typed_programs.proofs.TypedItems.{head_at, heads_stand, globals_fit, functions_fit}
use Rattle.typed_programs.proofs.TypedPhrases.{FunctionsStand}

all_there : {A : Type 0} (os : List (Option A)) (xs : List A) → collected os ≡ Some xs → map Some xs ≡ os
all_there [] xs e = ap (map Some) (sym (some_same e))
all_there (o ∷ os) xs e = let m = more_there o os xs e in ap (map Some) (sym m.same) ∙ ap₂ (λ a as_. a ∷ as_) (sym m.first_there) (all_there os m.rest m.rest_there)

-- ---- the program of a text

module _ (raw : RawProgram) (p : Program) (has : HasProgram raw p) (syntax : IsSyntax raw) where
  abbrev d : Declarations
  d = declarations p

  parts : IsMadeOf raw p
  parts = made_of raw p has.program

  known : Known raw d
  known = record { stand = members_stand raw p.structs parts.structs d refl; typed = members_typed raw p.structs parts.structs }

  told : AreTold raw p 0 (phrases raw)
  told = record {
    kept = phrases_kept raw has.rules;
    stand = subst (AllStand p 0) (all_there (variables_in raw (phrases raw)) p.vars parts.vars) (stand_all p 0 p.vars (λ i. let z : 0 + i ≡ i = omega arith in ap (slice_get p.vars) z));
  }

  functions : FunctionsStand raw d
  functions g head e = head_at raw p (defined_functions raw) p.functions (heads_stand raw p raw.items outset p.functions syntax tt told parts.functions) g head e

  pub text_typed : IsTyped p
  text_typed =
      let fit = functions_fit raw p known functions raw.items outset p.functions syntax tt told (λ k. let z : 0 + k ≡ k = omega arith in ap (slice_get (defined_functions raw)) z) parts.functions in
      record { functions = fit.0; needs = fit.1; globals = globals_fit raw p known raw.items outset p.items tt told parts.items }

-- ---- lines decide nothing of that

needs_free : (x : Statement-F (List Need) (List Need)) → needs_step (zeroed x) ≡ needs_step x
needs_free (Statement-F.Declare id l x i) = refl
needs_free (Statement-F.Assign id l a op b) = refl
needs_free (Statement-F.Bump id l a up before) = refl
needs_free (Statement-F.Invoke id l to f args) = refl
needs_free (Statement-F.Fetch id l to) = refl
needs_free (Statement-F.Write id l a) = refl
needs_free (Statement-F.Print id l format args) = refl
needs_free (Statement-F.Heap id l to cast n) = refl
needs_free (Statement-F.Release id l a) = refl
needs_free (Statement-F.If id l e a b) = refl
needs_free (Statement-F.While id l e b) = refl
needs_free (Statement-F.Do id l e b) = refl
needs_free (Statement-F.For id l i e step b) = refl
needs_free (Statement-F.Switch id l e arms) = refl
needs_free (Statement-F.Block l b) = refl
needs_free (Statement-F.Return id l e) = refl

needs_unlined : (xs : List Statement) → body_needs (map unlined xs) ≡ body_needs xs
needs_unlined [] = refl
needs_unlined (x ∷ xs) = ap₂ (λ (a b : List Need). a ++ b) (fold_unlined needs_step needs_arm needs_free x) (needs_unlined xs)

shapes_unlined : (vs : List Var) → map (λ (v : Var). shape_of v.shape) (map unlined_var vs) ≡ map (λ (v : Var). shape_of v.shape) vs
shapes_unlined [] = refl
shapes_unlined (v ∷ vs) = ap (λ (ts : List ExprType). shape_of v.shape ∷ ts) (shapes_unlined vs)

signatures_unlined : (fs : List Function) → map signature_of (map unlined_function fs) ≡ map signature_of fs
signatures_unlined [] = refl
signatures_unlined (f ∷ fs) = ap (λ (gs : List Signature). signature_of f ∷ gs) (signatures_unlined fs)

functions_unlined : (d : Declarations) (fs : List Function) → list_all (function_fits d) (map unlined_function fs) ≡ list_all (function_fits d) fs
functions_unlined d [] = refl
functions_unlined d (f ∷ fs) = ap₂ (λ (a b : Bool). a && b) (ap (list_all (doing_fits d f.result)) (body_unlined f.body)) (functions_unlined d fs)

all_needs_unlined : (d : Declarations) (fs : List Function) → list_all (function_needs d) (map unlined_function fs) ≡ list_all (function_needs d) fs
all_needs_unlined d [] = refl
all_needs_unlined d (f ∷ fs) = ap₂ (λ (a b : Bool). a && b) (ap (list_all (need_fits d)) (needs_unlined f.body)) (all_needs_unlined d fs)

abbrev declared_from : List ExprType → Program → List Signature → Declarations
declared_from ts p gs = record { variables = ts; structs = p.structs; functions = gs }

module _ (p q : Program) (same : SameButLines p q) where
  declarations_same : declarations p ≡ declarations q
  declarations_same =
      ap₂ (λ ts gs. declared_from ts p gs) (sym (shapes_unlined p.vars)) (sym (signatures_unlined p.functions))
      ∙ ap (λ (r : Program). declared_from (map (λ (v : Var). shape_of v.shape) r.vars) r (map signature_of r.functions)) same
      ∙ ap₂ (λ ts gs. declared_from ts q gs) (shapes_unlined q.vars) (signatures_unlined q.functions)

  typed_same : IsTyped q → IsTyped p
  typed_same h =
      let functions : list_all (function_fits (declarations q)) p.functions ≡ true =
      sym (functions_unlined (declarations q) p.functions) ∙ ap (λ (r : Program). list_all (function_fits (declarations q)) r.functions) same ∙ functions_unlined (declarations q) q.functions ∙ h.functions in
      let needs : list_all (function_needs (declarations q)) p.functions ≡ true =
      sym (all_needs_unlined (declarations q) p.functions) ∙ ap (λ (r : Program). list_all (function_needs (declarations q)) r.functions) same ∙ all_needs_unlined (declarations q) q.functions ∙ h.needs in
      let globals : list_all (item_fits (declarations q)) p.items ≡ true = ap (λ (r : Program). list_all (item_fits (declarations q)) r.items) same ∙ h.globals in
      record {
        functions = ap (λ d. list_all (function_fits d) p.functions) declarations_same ∙ functions;
        needs = ap (λ d. list_all (function_needs d) p.functions) declarations_same ∙ needs;
        globals = ap (λ d. list_all (item_fits d) p.items) declarations_same ∙ globals;
      }

pub programs_typed : ProgramsAreTyped
programs_typed p ok = typed_same p ok.same ok.but_lines (text_typed ok.raw ok.same ok.has (text_is_syntax ok.raw ok.tree))
