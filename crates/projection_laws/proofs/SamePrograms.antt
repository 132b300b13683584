-- What stays of programs that are the same but for lines, and tests of their statements.
use Rattle.std.proofs.Common.{◌≡◌, ℕ, suc, List, [], ◌∷◌, map, Bool, true, false, ◌&&◌, refl, sym, ap, ap₂, ◌∙◌}
use Rattle.std.specs.Prelude.{None, if◌then◌else◌}
use Rattle.std.specs.List.{list_all}
use Rattle.c_tree.specs.Unlined.{unlined, unlined_var, unlined_function, unlined_program, SameButLines}
use Rattle.c_tree.specs.declared.program.Var.{Var}
use Rattle.c_tree.specs.declared.program.Function.{Function}
use Rattle.c_tree.specs.declared.program.Program.{Program}
use Rattle.c_tree.specs.declared.statement.Statement.{Statement}
use Rattle.c_tree.specs.declared.statement.Statement.TheOpen.{Statement-F}
use Rattle.kept_numbers.specs.Ranks.{rank}
use Rattle.projection.specs.Kept.{Kept, chosen}
use Rattle.projection.specs.Projection.{if_so, projected_function, projected_functions, projected_var, projected_vars, projected_program}
use Rattle.projection_laws.specs.Nested.{Nest, nest_step, nest_arm, is_nested, IsNested}
use Rattle.c_tree.proofs.Unlining.{zeroed, fold_unlined}
use Rattle.projection_laws.proofs.ProjectedLines.{all_projected_unlined}

-- ---- steps that read no line

nest_free : (keeps : ℕ → Bool) (x : Statement-F Nest Nest) → nest_step keeps (zeroed x) ≡ nest_step keeps x
nest_free keeps (Statement-F.Declare id l x i) = refl
nest_free keeps (Statement-F.Assign id l a op b) = refl
nest_free keeps (Statement-F.Bump id l a up before) = refl
nest_free keeps (Statement-F.Invoke id l to f args) = refl
nest_free keeps (Statement-F.Fetch id l to) = refl
nest_free keeps (Statement-F.Write id l a) = refl
nest_free keeps (Statement-F.Print id l format args) = refl
nest_free keeps (Statement-F.Heap id l to cast n) = refl
nest_free keeps (Statement-F.Release id l a) = refl
nest_free keeps (Statement-F.If id l e a b) = refl
nest_free keeps (Statement-F.While id l e b) = refl
nest_free keeps (Statement-F.Do id l e b) = refl
nest_free keeps (Statement-F.For id l i e step b) = refl
nest_free keeps (Statement-F.Switch id l e arms) = refl
nest_free keeps (Statement-F.Block l b) = refl
nest_free keeps (Statement-F.Return id l e) = refl

nested_unlined : (keeps : ℕ → Bool) (x : Statement) → is_nested keeps (unlined x) ≡ is_nested keeps x
nested_unlined keeps x = ap (λ (n : Nest). n.fits) (fold_unlined (nest_step keeps) (nest_arm keeps) (nest_free keeps) x)

-- ---- lists

pub list_unlined : (f : Statement → Bool) → ((x : Statement) → f (unlined x) ≡ f x) → (xs : List Statement) → list_all f (map unlined xs) ≡ list_all f xs
list_unlined f same [] = refl
list_unlined f same (x ∷ xs) = ap₂ (λ (a b : Bool). a && b) (same x) (list_unlined f same xs)

-- ---- what stays, without lines

module _ (k : Kept ℕ) (g : ℕ → ℕ) where
  vars_unlined : (n : ℕ) (vs : List Var) → map unlined_var (projected_vars k g n (map unlined_var vs)) ≡ map unlined_var (projected_vars k g n vs)
  vars_unlined n [] = refl
  vars_unlined n (v ∷ vs) = by_test (k.variable n) (vars_unlined (suc n) vs)
    where
      by_test : (b : Bool) → map unlined_var (projected_vars k g (suc n) (map unlined_var vs)) ≡ map unlined_var (projected_vars k g (suc n) vs)
          → map unlined_var (if_so b (projected_var k g (unlined_var v) ∷ projected_vars k g (suc n) (map unlined_var vs)) (projected_vars k g (suc n) (map unlined_var vs)))
          ≡ map unlined_var (if_so b (projected_var k g v ∷ projected_vars k g (suc n) vs) (projected_vars k g (suc n) vs))
      by_test true later = ap (λ (ws : List Var). unlined_var (projected_var k g v) ∷ ws) later
      by_test false later = later

  function_unlined : (n : ℕ) (f : Function) → unlined_function (projected_function k g n (unlined_function f)) ≡ unlined_function (projected_function k g n f)
  function_unlined n f =
      ap (λ (xs : List Statement). record f { line = 0; result = if k.gives n then f.result else None; params = map (rank k.variable) (chosen (k.parameter n) 0 f.params); body = xs })
      (all_projected_unlined k g f.body)

module _ (k : Kept ℕ) where
  functions_unlined : (n : ℕ) (fs : List Function) → map unlined_function (projected_functions k n (map unlined_function fs)) ≡ map unlined_function (projected_functions k n fs)
  functions_unlined n [] = refl
  functions_unlined n (f ∷ fs) = by_test (k.function n) (functions_unlined (suc n) fs)
    where
      by_test : (b : Bool) → map unlined_function (projected_functions k (suc n) (map unlined_function fs)) ≡ map unlined_function (projected_functions k (suc n) fs)
          → map unlined_function (if_so b (projected_function k (rank k.function) n (unlined_function f) ∷ projected_functions k (suc n) (map unlined_function fs)) (projected_functions k (suc n) (map unlined_function fs)))
          ≡ map unlined_function (if_so b (projected_function k (rank k.function) n f ∷ projected_functions k (suc n) fs) (projected_functions k (suc n) fs))
      by_test true later = ap₂ (λ (a : Function) (as_ : List Function). a ∷ as_) (function_unlined k (rank k.function) n f) later
      by_test false later = later

  pub program_unlined : (p : Program) → unlined_program (projected_program k (unlined_program p)) ≡ unlined_program (projected_program k p)
  program_unlined p =
      ap₂ (λ (vs : List Var) (fs : List Function). record (projected_program k p) { vars = vs; functions = fs }) (vars_unlined k (rank k.function) 0 p.vars) (functions_unlined 0 p.functions)

-- a test of statements that reads no line
tests_unlined : (test : Statement → Bool) → ((x : Statement) → test (unlined x) ≡ test x) → (fs : List Function)
    → list_all (λ (f : Function). list_all test f.body) (map unlined_function fs) ≡ list_all (λ (f : Function). list_all test f.body) fs
tests_unlined test same [] = refl
tests_unlined test same (f ∷ fs) = ap₂ (λ (a b : Bool). a && b) (list_unlined test same f.body) (tests_unlined test same fs)

pub tests_same : (test : Statement → Bool) → ((x : Statement) → test (unlined x) ≡ test x) → (p q : Program) → SameButLines p q
    → list_all (λ (f : Function). list_all test f.body) p.functions ≡ list_all (λ (f : Function). list_all test f.body) q.functions
tests_same test same p q h =
    sym (tests_unlined test same p.functions) ∙ ap (λ (r : Program). list_all (λ (f : Function). list_all test f.body) r.functions) h ∙ tests_unlined test same q.functions

pub nested_same : (p q : Program) (keeps : ℕ → Bool) → SameButLines p q → IsNested keeps p → IsNested keeps q
nested_same p q keeps h n = sym (tests_same (is_nested keeps) (nested_unlined keeps) p q h) ∙ n
