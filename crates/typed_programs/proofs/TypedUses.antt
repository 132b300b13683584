-- What a program in which types fit tells of one of its statements, and of an expression in it.
use Rattle.std.proofs.Common.{◌≡◌, ℕ, zero, suc, List, [], ◌∷◌, Bool, true, Option, Some, None, slice_get, refl, sym, subst, true≢false}
use Rattle.std.specs.Prelude.{Contains}
use Rattle.std.specs.List.{list_all}
use Rattle.std.proofs.lemmas.Bool.{and_parts}
use Rattle.c_tree.specs.declared.expr.Expr.{Expr}
use Rattle.c_tree.specs.declared.program.Function.{Function}
use Rattle.c_tree.specs.declared.program.Program.{Program}
use Rattle.c_language.specs.ExprRules.{holds_of}
use Rattle.c_language.specs.declared.expr_type.Operand.{Operand}
use Rattle.c_language.proofs.Options.{none_there, some_same}
use Rattle.dep_model.specs.Doings.{Doing, body_doings}
use Rattle.dep_model.proofs.DoingForms.{contained_passes}
use Rattle.typed_programs.specs.TreeOperands.{Declarations, declarations, operand_of}
use Rattle.typed_programs.specs.TypedStatements.{passes, doing_fits, function_fits, IsTyped}

-- what a value that is there passes
pub holds_there : {A : Type 0} (test : A → Bool) (o : Option A) → holds_of test o ≡ true → (x : A) × (o ≡ Some x) × (test x ≡ true)
holds_there test None h = absurd (true≢false (sym h))
holds_there test (Some x) h = (x, refl, h)

-- an expression that passes a test is an operand
pub operand_there : (d : Declarations) (test : Operand → Bool) (e : Expr) → passes d test e ≡ true → (x : Operand) × (operand_of d e ≡ Some x) × (test x ≡ true)
operand_there d test e h = holds_there test (operand_of d e) h

pub all_at : {A : Type 0} (test : A → Bool) (xs : List A) (k : ℕ) (x : A) → list_all test xs ≡ true → slice_get xs k ≡ Some x → test x ≡ true
all_at test [] k x h e = none_there e
all_at test (y ∷ xs) zero x h e = subst (λ z. test z ≡ true) (some_same e) (and_parts (test y) (list_all test xs) h).0
all_at test (y ∷ xs) (suc k) x h e = all_at test xs k x (and_parts (test y) (list_all test xs) h).1 e

-- types fit in each statement of each function
pub doing_typed : (p : Program) → IsTyped p → (f : ℕ) (g : Function) → slice_get p.functions f ≡ Some g → (a : Doing) → Contains (body_doings g.body) a → doing_fits (declarations p) g.result a ≡ true
doing_typed p typed f g at a c = contained_passes (doing_fits (declarations p) g.result) (body_doings g.body) a (all_at (function_fits (declarations p)) p.functions f g typed.functions at) c
