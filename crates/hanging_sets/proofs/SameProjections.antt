-- A set keeps the same of programs that are the same but for lines, so that their projections are the same but for lines.
use Rattle.std.proofs.Common.{◌≡◌, ℕ, zero, suc, List, [], ◌∷◌, map, Bool, true, false, ◌&&◌, ◌||◌, not, Option, Some, None, refl, sym, ap, ap₂, ◌∙◌}
use Rattle.std.specs.Prelude.{slice_get}
use Rattle.std.specs.List.{list_any}
use Rattle.std.specs.Option.{option_map_or}
use mathlib.Core.Path.{fun_ext}
use Rattle.c_tree.specs.Unlined.{unlined, unlined_function, unlined_program, SameButLines}
use Rattle.c_tree.specs.declared.program.Function.{Function}
use Rattle.c_tree.specs.declared.program.Program.{Program}
use Rattle.c_tree.specs.declared.statement.Statement.{Statement}
use Rattle.c_tree.specs.declared.statement.Statement.TheOpen.{Statement-F}
use Rattle.c_tree.proofs.Unlining.{zeroed, fold_unlined}
use Rattle.c_language.specs.NameRules.{is_main}
use Rattle.dep_model.specs.declared.vertex.Vertex.{Vertex}
use Rattle.projection.specs.Kept.{KeptWords, Kept, chosen}
use Rattle.projection.specs.KeptVertices.{returns_step, no_return, returns, still_gives, is_among, is_taken, is_taken_still, kept_words, keeps_function, keeps_parameter, keeps_variable, keeps_result, kept_of, projection}
use Rattle.projection.specs.Names.{refers_step, refers_arm, refers, body_refers, stays}
use Rattle.projection.specs.Projection.{projected_program}
use Rattle.projection_laws.proofs.SamePrograms.{program_unlined}

-- ---- folds that read no line

refers_free : (k : KeptWords) (x : Statement-F (ℕ → Bool) (ℕ → Bool)) → refers_step k (zeroed x) ≡ refers_step k x
refers_free k (Statement-F.Declare id l x i) = refl
refers_free k (Statement-F.Assign id l a op b) = refl
refers_free k (Statement-F.Bump id l a up before) = refl
refers_free k (Statement-F.Invoke id l to f args) = refl
refers_free k (Statement-F.Fetch id l to) = refl
refers_free k (Statement-F.Write id l a) = refl
refers_free k (Statement-F.Print id l format args) = refl
refers_free k (Statement-F.Heap id l to cast n) = refl
refers_free k (Statement-F.Release id l a) = refl
refers_free k (Statement-F.If id l e a b) = refl
refers_free k (Statement-F.While id l e b) = refl
refers_free k (Statement-F.Do id l e b) = refl
refers_free k (Statement-F.For id l i e step b) = refl
refers_free k (Statement-F.Switch id l e arms) = refl
refers_free k (Statement-F.Block l b) = refl
refers_free k (Statement-F.Return id l e) = refl

returns_free : (keeps : ℕ → Bool) (x : Statement-F Bool Bool) → returns_step keeps (zeroed x) ≡ returns_step keeps x
returns_free keeps (Statement-F.Declare id l x i) = refl
returns_free keeps (Statement-F.Assign id l a op b) = refl
returns_free keeps (Statement-F.Bump id l a up before) = refl
returns_free keeps (Statement-F.Invoke id l to f args) = refl
returns_free keeps (Statement-F.Fetch id l to) = refl
returns_free keeps (Statement-F.Write id l a) = refl
returns_free keeps (Statement-F.Print id l format args) = refl
returns_free keeps (Statement-F.Heap id l to cast n) = refl
returns_free keeps (Statement-F.Release id l a) = refl
returns_free keeps (Statement-F.If id l e a b) = refl
returns_free keeps (Statement-F.While id l e b) = refl
returns_free keeps (Statement-F.Do id l e b) = refl
returns_free keeps (Statement-F.For id l i e step b) = refl
returns_free keeps (Statement-F.Switch id l e arms) = refl
returns_free keeps (Statement-F.Block l b) = refl
returns_free keeps (Statement-F.Return id l e) = refl

body_unlined : (k : KeptWords) (xs : List Statement) (x : ℕ) → body_refers k (map unlined xs) x ≡ body_refers k xs x
body_unlined k [] x = refl
body_unlined k (y ∷ ys) x = ap₂ (λ (a b : Bool). a || b) (ap (λ (f : ℕ → Bool). f x) (fold_unlined (refers_step k) (refers_arm k) (refers_free k) y)) (body_unlined k ys x)

functions_unlined : (k : KeptWords) (fs : List Function) (x : ℕ) → list_any (λ (f : Function). body_refers k f.body x) (map unlined_function fs) ≡ list_any (λ (f : Function). body_refers k f.body x) fs
functions_unlined k [] x = refl
functions_unlined k (f ∷ fs) x = ap₂ (λ (a b : Bool). a || b) (body_unlined k f.body x) (functions_unlined k fs x)

returns_unlined : (keeps : ℕ → Bool) (xs : List Statement) → list_any (λ (x : Statement). returns keeps x) (map unlined xs) ≡ list_any (λ (x : Statement). returns keeps x) xs
returns_unlined keeps [] = refl
returns_unlined keeps (x ∷ xs) = ap₂ (λ (a b : Bool). a || b) (fold_unlined (returns_step keeps) no_return (returns_free keeps) x) (returns_unlined keeps xs)

taken_unlined : (fs : List Function) (x : ℕ) → is_taken (map unlined_function fs) x ≡ is_taken fs x
taken_unlined [] x = refl
taken_unlined (f ∷ fs) x = ap (λ (b : Bool). is_among f.params x || b) (taken_unlined fs x)

still_unlined : (function : ℕ → Bool) (parameter : ℕ → ℕ → Bool) (n : ℕ) (fs : List Function) (x : ℕ) → is_taken_still function parameter n (map unlined_function fs) x ≡ is_taken_still function parameter n fs x
still_unlined function parameter n [] x = refl
still_unlined function parameter n (f ∷ fs) x = ap (λ (b : Bool). (function n && is_among (chosen (parameter n) 0 f.params) x) || b) (still_unlined function parameter (suc n) fs x)

gives_unlined : (keeps : ℕ → Bool) (fs : List Function) (f : ℕ)
    → option_map_or (λ (c : Function). still_gives keeps c) (slice_get (map unlined_function fs) f) false ≡ option_map_or (λ (c : Function). still_gives keeps c) (slice_get fs f) false
gives_unlined keeps [] f = refl
gives_unlined keeps (c ∷ fs) zero = ap (λ (b : Bool). is_main c.name || b) (returns_unlined keeps c.body)
gives_unlined keeps (c ∷ fs) (suc f) = gives_unlined keeps fs f

module _ (vs : List Vertex) (set : List Bool) where
  variable_unlined : (p : Program) (x : ℕ) → keeps_variable set vs (unlined_program p) x ≡ keeps_variable set vs p x
  variable_unlined p x =
      ap₂ (λ (a b : Bool). a || b) (still_unlined (keeps_function set vs) (keeps_parameter set vs) 0 p.functions x)
      (ap₂ (λ (a b : Bool). a && b) (ap not (taken_unlined p.functions x)) (functions_unlined (kept_words set vs) p.functions x))

  kept_unlined : (p : Program) → kept_of set vs (unlined_program p) ≡ kept_of set vs p
  kept_unlined p =
      ap₂ (λ (variable gives : ℕ → Bool). record {
        variable = variable;
        statement = (kept_words set vs).statement;
        result = (kept_words set vs).result;
        argument = (kept_words set vs).argument;
        function = keeps_function set vs;
        parameter = keeps_parameter set vs;
        gives = gives;
      }) (fun_ext (variable_unlined p)) (fun_ext (gives_unlined (kept_words set vs).statement p.functions))

  projection_unlined : (p : Program) → unlined_program (projection (unlined_program p) vs set) ≡ unlined_program (projection p vs set)
  projection_unlined p = ap (λ (k : Kept ℕ). unlined_program (projected_program k (unlined_program p))) (kept_unlined p) ∙ program_unlined (kept_of set vs p) p

pub projections_same : (p q : Program) (vs : List Vertex) (set : List Bool) → SameButLines p q → SameButLines (projection p vs set) (projection q vs set)
projections_same p q vs set same = sym (projection_unlined vs set p) ∙ ap (λ (r : Program). unlined_program (projection r vs set)) same ∙ projection_unlined vs set q
