-- Calls: arguments as parameters have them, callers that wait, and ends of functions.
use Rattle.std.proofs.Common.{◌≡◌, ℕ, suc, ◌+◌, ◌<◌, ◌≤◌, List, [], ◌∷◌, ◌++◌, length, drop, get_or, map, append_assoc, Option, Some, None, option_map, refl, sym, ap, ◌∙◌, arith}
use Rattle.std.proofs.lemmas.List.{drop_all, append-nil}
use Rattle.c_language.proofs.Turns.{drop_turn}
use mathlib.Core.Path.{fun_ext}
use Rattle.std.specs.Prelude.{option_and_then, slice_get}
use Rattle.std.specs.Option.{option_map_or}
use Rattle.std.proofs.lemmas.Option.{slice_get-map}
use Rattle.c_tree.specs.declared.program.Program.{Program}
use Rattle.c_meaning.specs.declared.value.Value.{Value}
use Rattle.c_tree.specs.declared.expr.Expr.{Expr}
use Rattle.c_tree.specs.declared.program.Function.{Function}
use Rattle.c_tree.specs.declared.statement.Statement.{Statement}
use Rattle.c_language.specs.Code.{End, declared_in, in_turn, part, code_of, code}
use Rattle.c_meaning.specs.Activations.{Routine, executable, routine_of, code_at, result_at, variables_at, parameter_begun, passed, passed_to, fresh, called}
use Rattle.c_meaning.specs.Steps.{Waiting}
use Rattle.c_meaning.specs.Values.{State, as_type, beside, eval_all}
use Rattle.c_memory.specs.Scenes.{types_of}
use Rattle.c_language.specs.TreeTypes.{type_of_variable, shape_of}
use Rattle.c_language.specs.declared.expr_type.ExprType.{ExprType}
use Rattle.c_machine.specs.declared.runs.Caller.{Caller}
use Rattle.c_machine.specs.Runs.{waiting_of, callers_before}
use Rattle.c_machine.specs.States.{as_parameters, all_passed}
use Rattle.c_acts.proofs.ActLemmas.{values_typed}
use Rattle.c_acts.proofs.MadeLemmas.{values_at}

-- ---- callers

pub callers-push : (cs : List Caller) (c : Caller) (ws : List Waiting) → callers_before (cs ++ c ∷ []) ws ≡ waiting_of c ∷ callers_before cs ws
callers-push [] c ws = refl
callers-push (b ∷ cs) c ws = callers-push cs c (waiting_of b ∷ ws)

-- ---- arguments

module _ (p : Program) where
  abbrev pub go : List ℕ → State → Option (List Value) → Option State
  go xs s o = option_map (λ (ws : List Value). all_passed p xs ws s) o

  go_beside : (x : ℕ) (xs : List ℕ) (s : State) (o : Option Value) (q : Option (List Value)) → option_and_then (λ (w : Value). go xs (parameter_begun (executable p) x s w) q) o ≡ go (x ∷ xs) s (beside o q)
  go_beside x xs s None q = refl
  go_beside x xs s (Some w) None = refl
  go_beside x xs s (Some w) (Some ws) = refl

  pub passed_is : (xs : List ℕ) (vs : List Value) (s : State) → passed (executable p) xs vs s ≡ go xs s (as_parameters p xs vs)
  passed_is [] [] s = refl
  passed_is [] (v ∷ vs) s = refl
  passed_is (x ∷ xs) [] s = refl
  passed_is (x ∷ xs) (v ∷ vs) s =
      ap (λ (k : Value → Option State). option_and_then k (as_type (type_of_variable p x) v)) (fun_ext (λ w. passed_is xs vs (parameter_begun (executable p) x s w)))
      ∙ go_beside x xs s (as_type (type_of_variable p x) v) (as_parameters p xs vs)

  -- one parameter more has begun
  pub pass_turn : (xs : List ℕ) (i x : ℕ) (v : Value) (vs : List Value) (s all : State) → i < length xs → x ≡ get_or xs i x → all_passed p (drop i xs) (v ∷ vs) s ≡ all → all_passed p (drop (i + 1) xs) vs (parameter_begun (executable p) x s v) ≡ all
  pass_turn xs i x v vs s all within is h =
      sym (ap (λ (ys : List ℕ). all_passed p ys (v ∷ vs) s) (drop_turn xs i x within is)) ∙ h

  -- a value without a parameter is left out
  pub pass_past : (xs : List ℕ) (i : ℕ) (v : Value) (vs : List Value) (s all : State) → length xs ≤ i → all_passed p (drop i xs) (v ∷ vs) s ≡ all → all_passed p (drop i xs) vs s ≡ all
  pass_past xs i v vs s all past h =
      ap (λ (ys : List ℕ). all_passed p ys vs s) (drop_all i xs past)
      ∙ sym (ap (λ (ys : List ℕ). all_passed p ys (v ∷ vs) s) (drop_all i xs past))
      ∙ h

  passed_none : (xs : List ℕ) (s : State) → all_passed p xs [] s ≡ s
  passed_none [] s = refl
  passed_none (x ∷ xs) s = refl

  pub pass_end : (xs : List ℕ) (vs : List Value) (s all : State) → length vs ≡ 0 → all_passed p xs vs s ≡ all → s ≡ all
  pass_end xs [] s all e h = sym (passed_none xs s) ∙ h
  pass_end xs (v ∷ vs) s all e h = let no : ⊥ = omega (arith, e) in absurd no

  -- ---- values as parameters have them, as a loop collects them

  pub uneven : (xs : List ℕ) (vs : List Value) → (length vs ≡ length xs → ⊥) → as_parameters p xs vs ≡ None
  uneven [] [] h = absurd (h refl)
  uneven [] (v ∷ vs) h = refl
  uneven (x ∷ xs) [] h = refl
  uneven (x ∷ xs) (v ∷ vs) h =
      ap (beside (as_type (type_of_variable p x) v)) (uneven xs vs (λ e. h (ap suc e))) ∙ none_beside (as_type (type_of_variable p x) v)
    where
      none_beside : (o : Option Value) → beside o None ≡ None
      none_beside None = refl
      none_beside (Some w) = refl

  -- what was collected, with the others
  abbrev pub with_parameters : List Value → List ℕ → List Value → Option (List Value)
  with_parameters done xs vs = option_map (λ (ws : List Value). done ++ ws) (as_parameters p xs vs)

  collected : (done : List Value) (v : Value) (o : Option (List Value)) → option_map (λ (ws : List Value). done ++ ws) (beside (Some v) o) ≡ option_map (λ (ws : List Value). (done ++ v ∷ []) ++ ws) o
  collected done v None = refl
  collected done v (Some ws) = ap Some (sym (append_assoc done (v ∷ []) ws))

  first_parameter : (done : List Value) (xs : List ℕ) (i x : ℕ) (v : Value) (vs : List Value) (t : ExprType) (o : Option Value) → i < length xs → x ≡ get_or xs i x → t ≡ type_of_variable p x → as_type t v ≡ o
      → with_parameters done (drop i xs) (v ∷ vs) ≡ option_map (λ (ws : List Value). done ++ ws) (beside o (as_parameters p (drop (i + 1) xs) vs))
  first_parameter done xs i x v vs t o within is type gives =
      ap (λ (ys : List ℕ). with_parameters done ys (v ∷ vs)) (drop_turn xs i x within is)
      ∙ ap (λ (q : Option Value). option_map (λ (ws : List Value). done ++ ws) (beside q (as_parameters p (drop (i + 1) xs) vs))) (ap (λ (u : ExprType). as_type u v) (sym type) ∙ gives)

  pub parameter_turn : (done next : List Value) (xs : List ℕ) (i x : ℕ) (v w : Value) (vs : List Value) (t : ExprType) (all : Option (List Value)) → i < length xs → x ≡ get_or xs i x → t ≡ type_of_variable p x → as_type t v ≡ Some w
      → next ≡ done ++ w ∷ [] → with_parameters done (drop i xs) (v ∷ vs) ≡ all → with_parameters next (drop (i + 1) xs) vs ≡ all
  parameter_turn done next xs i x v w vs t all within is type gives pushed h =
      ap (λ (d : List Value). with_parameters d (drop (i + 1) xs) vs) pushed
      ∙ sym (collected done w (as_parameters p (drop (i + 1) xs) vs))
      ∙ sym (first_parameter done xs i x v vs t (Some w) within is type gives)
      ∙ h

  pub parameter_none : (done : List Value) (xs : List ℕ) (i x : ℕ) (v : Value) (vs : List Value) (t : ExprType) (all : Option (List Value)) → i < length xs → x ≡ get_or xs i x → t ≡ type_of_variable p x → as_type t v ≡ None
      → with_parameters done (drop i xs) (v ∷ vs) ≡ all → None ≡ all
  parameter_none done xs i x v vs t all within is type gives h =
      sym (first_parameter done xs i x v vs t None within is type gives) ∙ h

  pub parameters_end : (done : List Value) (xs : List ℕ) (i : ℕ) (vs : List Value) (all : Option (List Value)) → length vs ≡ 0 → length xs ≤ i → with_parameters done (drop i xs) vs ≡ all → Some done ≡ all
  parameters_end done xs i [] all e past h =
      ap Some (sym (append-nil done)) ∙ sym (ap (λ (ys : List ℕ). with_parameters done ys []) (drop_all i xs past)) ∙ h
  parameters_end done xs i (v ∷ vs) all e past h = let no : ⊥ = omega (arith, e) in absurd no

  -- ---- the state in which a call begins

  passed_all : (ps : List ℕ) (s : State) (q : Option (List Value)) → option_and_then (λ (vs : List Value). passed (executable p) ps vs s) q ≡ go ps s (option_and_then (as_parameters p ps) q)
  passed_all ps s None = refl
  passed_all ps s (Some vs) = passed_is ps vs s

  routine_at : (g : ℕ) (o : Option Function) → o ≡ slice_get p.functions g → slice_get (map routine_of p.functions) g ≡ option_map routine_of o
  routine_at g o e = slice_get-map routine_of p.functions g ∙ ap (option_map routine_of) (sym e)

  pub called_is : (f g : ℕ) (args : List Expr) (s t : State) (callee : Function) (o : Option (List Value)) → Some callee ≡ slice_get p.functions g → t.frame ≡ s.frame → t.memory ≡ s.memory
      → o ≡ option_and_then (as_parameters p callee.params) (eval_all (types_of p) args t) → called (executable p) f g args s ≡ go callee.params (fresh (executable p) s) o
  called_is f g args s t callee o e ef em is =
      ap (option_and_then (passed_to (executable p) f args s)) (routine_at g (Some callee) e)
      ∙ ap (option_and_then (λ (vs : List Value). passed (executable p) callee.params vs (fresh (executable p) s)))
      (sym (values_typed p (result_at (executable p) f) args s) ∙ sym (values_at (types_of p) args s t ef em))
      ∙ passed_all callee.params (fresh (executable p) s) (eval_all (types_of p) args t)
      ∙ ap (go callee.params (fresh (executable p) s)) (sym is)

  pub called_not : (f g : ℕ) (args : List Expr) (s : State) → None ≡ slice_get p.functions g → called (executable p) f g args s ≡ None
  called_not f g args s e = ap (option_and_then (passed_to (executable p) f args s)) (routine_at g None e)

  -- ---- functions by their numbers

  pub code_found : (g : ℕ) (f : Function) → Some f ≡ slice_get p.functions g → code_at (executable p) g ≡ code f.body
  code_found g f e = ap (λ (o : Option Routine). option_map_or (λ (r : Routine). r.code) o End) (routine_at g (Some f) e)

  pub code_missing : (g : ℕ) → None ≡ slice_get p.functions g → code_at (executable p) g ≡ End
  code_missing g e = ap (λ (o : Option Routine). option_map_or (λ (r : Routine). r.code) o End) (routine_at g None e)

  pub result_found : (g : ℕ) (f : Function) → Some f ≡ slice_get p.functions g → result_at (executable p) g ≡ option_map shape_of f.result
  result_found g f e = ap (λ (o : Option Routine). option_map_or (λ (r : Routine). r.result) o None) (routine_at g (Some f) e)

  pub result_missing : (g : ℕ) → None ≡ slice_get p.functions g → result_at (executable p) g ≡ None
  result_missing g e = ap (λ (o : Option Routine). option_map_or (λ (r : Routine). r.result) o None) (routine_at g None e)

  pub variables_found : (g : ℕ) (f : Function) → Some f ≡ slice_get p.functions g → variables_at (executable p) g ≡ f.params ++ declared_in (map part f.body)
  variables_found g f e = ap (λ (o : Option Routine). option_map_or (λ (r : Routine). r.params ++ r.locals) o []) (routine_at g (Some f) e)

  pub variables_missing : (g : ℕ) → None ≡ slice_get p.functions g → variables_at (executable p) g ≡ []
  variables_missing g e = ap (λ (o : Option Routine). option_map_or (λ (r : Routine). r.params ++ r.locals) o []) (routine_at g None e)

-- a list of statements before the end is its code
pub code_list : (ss : List Statement) → in_turn (map part ss) End ≡ code ss
code_list [] = refl
code_list (x ∷ ss) = ap (code_of x) (code_list ss)
