-- In a well-formed program each arm of a switch is taken.
use Rattle.std.proofs.Common.{◌≡◌, List, [], ◌∷◌, map, Bool, ◌&&◌, refl, sym, ap, ap₂, ◌∙◌}
use Rattle.std.specs.List.{list_all}
use Rattle.c_tree.specs.Unlined.{unlined, unlined_function, SameButLines}
use Rattle.c_tree.specs.declared.program.Function.{Function}
use Rattle.c_tree.specs.declared.program.Program.{Program}
use Rattle.c_tree.specs.declared.statement.Statement.{Statement}
use Rattle.c_tree.specs.declared.statement.Statement.TheOpen.{Statement-F}
use Rattle.c_tree.proofs.Unlining.{zeroed, fold_unlined}
use Rattle.control_nesting.specs.Laws.{WellFormedTakesAll}
use Rattle.control_nesting.specs.TakenArms.{ArmTakes, takes_step, takes_arm, takes_all, TakesAll}
use Rattle.control_nesting.proofs.TakenTexts.{program_taken}

takes_free : (x : Statement-F Bool ArmTakes) → takes_step (zeroed x) ≡ takes_step x
takes_free (Statement-F.Declare id l x i) = refl
takes_free (Statement-F.Assign id l a op b) = refl
takes_free (Statement-F.Bump id l a up before) = refl
takes_free (Statement-F.Invoke id l to f args) = refl
takes_free (Statement-F.Fetch id l to) = refl
takes_free (Statement-F.Write id l a) = refl
takes_free (Statement-F.Print id l format args) = refl
takes_free (Statement-F.Heap id l to cast n) = refl
takes_free (Statement-F.Release id l a) = refl
takes_free (Statement-F.If id l e a b) = refl
takes_free (Statement-F.While id l e b) = refl
takes_free (Statement-F.Do id l e b) = refl
takes_free (Statement-F.For id l i e step b) = refl
takes_free (Statement-F.Switch id l e arms) = refl
takes_free (Statement-F.Block l b) = refl
takes_free (Statement-F.Return id l e) = refl

takes_unlined : (x : Statement) → takes_all (unlined x) ≡ takes_all x
takes_unlined = fold_unlined takes_step takes_arm takes_free

body_unlined : (xs : List Statement) → list_all takes_all (map unlined xs) ≡ list_all takes_all xs
body_unlined [] = refl
body_unlined (x ∷ xs) = ap₂ (λ (a b : Bool). a && b) (takes_unlined x) (body_unlined xs)

functions_unlined : (fs : List Function) → list_all (λ (f : Function). list_all takes_all f.body) (map unlined_function fs) ≡ list_all (λ (f : Function). list_all takes_all f.body) fs
functions_unlined [] = refl
functions_unlined (f ∷ fs) = ap₂ (λ (a b : Bool). a && b) (body_unlined f.body) (functions_unlined fs)

-- whether all arms are taken is the same where lines are taken out
taken_same : (p q : Program) → SameButLines p q → TakesAll q → TakesAll p
taken_same p q h n =
    sym (functions_unlined p.functions) ∙ ap (λ (r : Program). list_all (λ (f : Function). list_all takes_all f.body) r.functions) h ∙ functions_unlined q.functions ∙ n

pub well_formed_taken : WellFormedTakesAll
well_formed_taken p ok = taken_same p ok.same ok.but_lines (program_taken ok.raw ok.same ok.tree ok.has)
