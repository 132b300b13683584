-- Each well-formed program has its own globals: each begins once, where a run begins, and none is a variable of a function.
use Rattle.std.proofs.Common.{◌≡◌, ◌≢◌, ℕ, zero, suc, ◌+◌, ◌≤◌, ◌<◌, List, [], ◌∷◌, ◌++◌, length, map, Bool, false, Option, Some, None, inl, inr, refl, sym, ap, ◌∙◌, subst, arith, le_refl}
use Rattle.std.specs.Prelude.{Contains, option_map, slice_get, is_none}
use Rattle.std.specs.Option.{option_map_or}
use Rattle.std.proofs.lemmas.Bool.Decides.{eqb_tells}
use Rattle.std.proofs.lemmas.Option.{slice_get-map}
use Rattle.c_language.proofs.Lists.{no_list, head_is, tail_is}
use Rattle.c_language.proofs.Options.{none_there, some_same, map_there, more_there}
use Rattle.c_language.proofs.PhraseLists.{variables-append}
use Rattle.c_language.proofs.ProgramParts.{function_made, made_of}
use Rattle.c_language.specs.Code.{Code, End, Opens, Plain, Fork, Loop, Leaves, Call, code}
use Rattle.c_language.specs.DeclaredTypes.{struct_id, function_id}
use Rattle.c_language.specs.Phrases.{item_phrases, items_phrases, after_item}
use Rattle.c_language.specs.ProgramOf.{collected, init_of, function_tree, functions_from, treed, variables_in, items_from}
use Rattle.c_language.specs.Programs.{IsWellFormed}
use Rattle.c_language.specs.Scopes.{Scope, outset, with_variable, entered, after_all}
use Rattle.c_tree.specs.Unlined.{SameButLines, unlined_var}
use Rattle.c_tree.specs.declared.program.Function.{Function}
use Rattle.c_tree.specs.declared.program.Item.{Item}
use Rattle.c_tree.specs.declared.program.Item.TheVariants as item
use Rattle.c_tree.specs.declared.program.Program.{Program}
use Rattle.c_tree.specs.declared.program.Var.{Var}
use Rattle.c_tree.specs.declared.raw.program.RawHead.{RawHead}
use Rattle.c_tree.specs.declared.raw.program.RawItem.{RawItem}
use Rattle.c_tree.specs.declared.raw.program.RawItem.TheVariants.{Include, Tag, Struct, Global, Prototype, Define}
use Rattle.c_tree.specs.declared.raw.program.RawParam.{RawParam}
use Rattle.c_tree.specs.declared.raw.program.RawProgram.{RawProgram}
use Rattle.c_tree.specs.declared.raw.statement.RawStatement.{RawStatement}
use Rattle.c_meaning.specs.Activations.{Routine, Global as Begun, executable, globals_in, routine_of, code_at}
use Rattle.c_print_laws.proofs.Definitions.{program_parts}
use Rattle.c_print_laws.proofs.Numbers.{item_variables}
use Rattle.c_print_laws.proofs.Told.{AllStand, stand_first, stand_rest, stand_all}
use Rattle.dep_model.specs.DoingEffects.{is_global}
use Rattle.dep_model.specs.MayPoint.{parameters}
use Rattle.dep_model.proofs.Membership.{IsIn, in_of_contains}
use Rattle.kept_texts.proofs.OwnVariables.{after_body_is, entered_more, item_more, params_below, params_later}
use Rattle.simulation_programs.proofs.Lines.{same_executable}
use Rattle.simulation_steps.specs.OwnGlobals.{BeginsNone, globals_of, HasOwnGlobals}
use Rattle.simulation_values.specs.Laws.{GlobalsAreOwn}
use Rattle.simulation_values.proofs.BegunParts.{body_own}
use Rattle.simulation_values.proofs.OwnedVariables.{AllOwned, definition_owned}

-- ---- numbers that rise

abbrev variables_of : List Begun → List ℕ
variables_of gs = map (λ (g : Begun). g.variable) gs

abbrev AreFrom : ℕ → List ℕ → Type 0
AreFrom n [] = Unit {0}
AreFrom n (x ∷ xs) = (n ≤ x) × AreFrom (suc x) xs

from_less : (n k : ℕ) (xs : List ℕ) → n ≤ k → AreFrom k xs → AreFrom n xs
from_less n k [] le h = tt
from_less n k (x ∷ xs) le h = let a = h.0 in (omega (arith, a, le), h.1)

from_low : (n : ℕ) (xs : List ℕ) (i x : ℕ) → AreFrom n xs → slice_get xs i ≡ Some x → n ≤ x
from_low n [] i x h e = none_there e
from_low n (y ∷ xs) zero x h e = subst (λ z. n ≤ z) (some_same e) h.0
from_low n (y ∷ xs) (suc i) x h e = let a = h.0 in let b = from_low (suc y) xs i x h.1 e in omega (arith, a, b)

from_once : (n : ℕ) (xs : List ℕ) (i j x : ℕ) → AreFrom n xs → slice_get xs i ≡ Some x → slice_get xs j ≡ Some x → i ≡ j
from_once n [] i j x h e k = none_there e
from_once n (y ∷ xs) zero zero x h e k = refl
from_once n (y ∷ xs) zero (suc j) x h e k = let a = from_low (suc y) xs j x h.1 k in let b : y ≡ x = some_same e in absurd (omega (arith, a, b))
from_once n (y ∷ xs) (suc i) zero x h e k = let a = from_low (suc y) xs i x h.1 e in let b : y ≡ x = some_same k in absurd (omega (arith, a, b))
from_once n (y ∷ xs) (suc i) (suc j) x h e k = ap suc (from_once (suc y) xs i j x h.1 e k)

-- ---- variables that are owned

owned_in : (p : Program) (n : ℕ) (vs : List (Option Var)) → AllStand p n vs → AllOwned vs → (k : ℕ) → n ≤ k → k < n + length vs → is_global p k ≡ false
owned_in p n [] stand own k low high = absurd (omega (arith, low, high))
owned_in p n (v ∷ vs) stand own k low high =
    elim (eqb_tells n k) [
      | inl x ↦ subst (λ i. is_global p i ≡ false) x.1 (ap (λ (o : Option Var). option_map_or (λ (y : Var). is_none y.owner) o false) stand.0.at ∙ own.0 stand.0.var stand.0.is)
      | inr x ↦ owned_in p (n + 1) vs stand.1 own.1 k (above x.1) (omega (arith, high))
    ]
  where
    above : n ≢ k → n + 1 ≤ k
    above ne = omega (arith, ne, low)

module _ (raw : RawProgram) (p : Program) where
  module _ (x : RawItem) (xs : List RawItem) (scope : Scope) (h : AllStand p scope.variables (variables_in raw (items_phrases raw (x ∷ xs) scope))) where
    abbrev own_list : List (Option Var)
    own_list = variables_in raw (item_phrases raw x scope)

    abbrev later_list : List (Option Var)
    later_list = variables_in raw (items_phrases raw xs (after_item raw x scope))

    both_stand : AllStand p scope.variables (own_list ++ later_list)
    both_stand = subst (AllStand p scope.variables) (variables-append raw (item_phrases raw x scope) (items_phrases raw xs (after_item raw x scope))) h

    own_stand : AllStand p scope.variables own_list
    own_stand = stand_first p scope.variables own_list later_list both_stand

    later_stand : AllStand p (after_item raw x scope).variables later_list
    later_stand = subst (λ n. AllStand p n later_list) (item_variables raw x scope) (stand_rest p scope.variables own_list later_list both_stand)

  -- ---- functions

  pub record OwnsVariables (c : Function) : Type 0 where
    pub parameters_not : (n x : ℕ) → slice_get c.params n ≡ Some x → is_global p x ≡ false
    pub body_not : BeginsNone (is_global p) (code c.body)

  definition_owns : (l : ℕ) (head : RawHead) (body : List RawStatement) (rest : List RawItem) (scope : Scope) (c : Function) (cs : List Function) → AllStand p scope.variables (variables_in raw (items_phrases raw (Define l head body ∷ rest) scope)) → collected (functions_from raw (Define l head body ∷ rest) scope) ≡ Some (c ∷ cs) → function_tree raw l head body scope ≡ Some c → OwnsVariables c
  definition_owns l head body rest scope c cs stand all made =
      record {
        parameters_not = λ n x h. not_global x (params_later raw (c ∷ cs) (Define l head body ∷ rest) scope all 0 n x c refl h) (params_below raw l head body scope c made n x h);
        body_not =
            (let q = function_made raw l head body scope c made in
            let start = entered raw head scope in
            let end : (after_all (map (treed raw) body) start).variables ≡ after.variables = sym (ap (λ (z : Scope). z.variables) (after_body_is raw body start)) in
            let low = entered_more raw head scope in
            subst (λ (f : Function). BeginsNone (is_global p) (code f.body)) (sym q.is) (body_own (is_global p) raw body start q.statements q.statements_there (λ k a b. not_global k (omega (arith, a, low)) (omega (arith, b, end)))));
      }
    where
      after : Scope
      after = after_item raw (Define l head body) scope

      not_global : (k : ℕ) → scope.variables ≤ k → k < (after_item raw (Define l head body) scope).variables → is_global p k ≡ false
      not_global k low high =
          let count = item_variables raw (Define l head body) scope in
          owned_in p scope.variables (variables_in raw (item_phrases raw (Define l head body) scope)) (own_stand (Define l head body) rest scope stand) (definition_owned raw l head body scope) k low (omega (arith, high, count))

  functions_own : (xs : List RawItem) (scope : Scope) (fs : List Function) → AllStand p scope.variables (variables_in raw (items_phrases raw xs scope)) → collected (functions_from raw xs scope) ≡ Some fs → (f : ℕ) (c : Function) → slice_get fs f ≡ Some c → OwnsVariables c
  functions_own [] scope fs stand e f c at = none_there (ap (λ gs. slice_get gs f) (some_same e) ∙ at)
  functions_own (Include b ∷ xs) scope fs stand e f c at = functions_own xs scope fs (later_stand (Include b) xs scope stand) e f c at
  functions_own (Tag l tag ∷ xs) scope fs stand e f c at = functions_own xs scope fs (later_stand (Tag l tag) xs scope stand) e f c at
  functions_own (Struct l tag members ∷ xs) scope fs stand e f c at =
      functions_own xs (after_item raw (Struct l tag members) scope) fs (later_stand (Struct l tag members) xs scope stand) e f c at
  functions_own (Global l v i is_static ∷ xs) scope fs stand e f c at =
      functions_own xs (after_item raw (Global l v i is_static) scope) fs (later_stand (Global l v i is_static) xs scope stand) e f c at
  functions_own (Prototype l head ∷ xs) scope fs stand e f c at =
      functions_own xs (after_item raw (Prototype l head) scope) fs (later_stand (Prototype l head) xs scope stand) e f c at
  functions_own (Define l head body ∷ xs) scope fs stand e f c at =
      let next = after_item raw (Define l head body) scope in
      let z = more_there (function_tree raw l head body scope) (functions_from raw xs next) fs e in
      by_place z.first z.rest f (ap (λ gs. slice_get gs f) z.same ∙ at) (definition_owns l head body xs scope z.first z.rest stand (e ∙ ap Some (sym z.same)) z.first_there) (λ g q. functions_own xs next z.rest (later_stand (Define l head body) xs scope stand) z.rest_there g c q)
    where
      by_place : (first : Function) (rest : List Function) (g : ℕ) → slice_get (first ∷ rest) g ≡ Some c → OwnsVariables first → ((k : ℕ) → slice_get rest k ≡ Some c → OwnsVariables c) → OwnsVariables c
      by_place first rest zero q one others = subst OwnsVariables (some_same q) one
      by_place first rest (suc g) q one others = others g q

  -- ---- globals

  abbrev Rise : ℕ → List Item → Type 0
  Rise n ys = AreFrom n (variables_of (globals_in ys))

  other_item : (n k : ℕ) (i y : Item) (ys : List Item) → i ≡ y → variables_of (globals_in (i ∷ ys)) ≡ variables_of (globals_in ys) → n ≤ k → Rise k ys → Rise n (y ∷ ys)
  other_item n k i y ys is none le h =
      subst (λ z. Rise n (z ∷ ys)) is (subst (AreFrom n) (sym none) (from_less n k (variables_of (globals_in ys)) le h))

  globals_rise : (xs : List RawItem) (scope : Scope) (ys : List Item) → items_from raw xs scope ≡ map Some ys → Rise scope.variables ys
  globals_rise [] scope [] e = tt
  globals_rise [] scope (y ∷ ys) e = no_list (sym e)
  globals_rise (x ∷ xs) scope [] e = no_list e
  globals_rise (Include b ∷ xs) scope (y ∷ ys) e =
      other_item scope.variables scope.variables (item.Include b) y ys (some_same (head_is e)) refl (le_refl scope.variables) (globals_rise xs scope ys (tail_is e))
  globals_rise (Tag l tag ∷ xs) scope (y ∷ ys) e =
      let k = map_there item.Tag (struct_id raw tag) y (head_is e) in
      other_item scope.variables scope.variables (item.Tag k.value) y ys k.same refl (le_refl scope.variables) (globals_rise xs scope ys (tail_is e))
  globals_rise (Struct l tag members ∷ xs) scope (y ∷ ys) e =
      let next = after_item raw (Struct l tag members) scope in
      other_item scope.variables next.variables (item.Struct scope.structs) y ys (some_same (head_is e)) refl (item_more raw (Struct l tag members) scope) (globals_rise xs next ys (tail_is e))
  globals_rise (Global l v i is_static ∷ xs) scope (y ∷ ys) e =
      let next = after_item raw (Global l v i is_static) scope in
      let k = map_there (item.Global scope.variables) (init_of raw (with_variable raw v i scope) i) y (head_is e) in
      let rest = globals_rise xs next ys (tail_is e) in
      let more : suc scope.variables ≤ next.variables = omega arith in
      subst (λ z. Rise scope.variables (z ∷ ys)) k.same (le_refl scope.variables, from_less (suc scope.variables) next.variables (variables_of (globals_in ys)) more rest)
  globals_rise (Prototype l head ∷ xs) scope (y ∷ ys) e =
      let next = after_item raw (Prototype l head) scope in
      let k = map_there (λ (f : ℕ). item.Prototype f (map (λ (q : RawParam). q.name) head.params) head.is_static) (function_id raw head.name) y (head_is e) in
      other_item scope.variables next.variables _ y ys k.same refl (item_more raw (Prototype l head) scope) (globals_rise xs next ys (tail_is e))
  globals_rise (Define l head body ∷ xs) scope (y ∷ ys) e =
      let next = after_item raw (Define l head body) scope in
      other_item scope.variables next.variables (item.Define scope.functions) y ys (some_same (head_is e)) refl (item_more raw (Define l head body) scope) (globals_rise xs next ys (tail_is e))

-- ---- the program of a text

get_of_in : (xs : List ℕ) (x : ℕ) → IsIn xs x → (k : ℕ) × (slice_get xs k ≡ Some x)
get_of_in [] x j = absurd j
get_of_in (y ∷ xs) x (inl e) = (0, ap Some e)
get_of_in (y ∷ xs) x (inr j) = let n = get_of_in xs x j in (suc n.0, n.1)

abbrev code_of : Option Routine → Code
code_of o = option_map_or (λ (r : Routine). r.code) o End

pub same_owns : (raw : RawProgram) (p : Program) → ((f : ℕ) (c : Function) → slice_get p.functions f ≡ Some c → OwnsVariables raw p c) → AreFrom 0 (globals_of p) → HasOwnGlobals p
same_owns raw p owns rise = record {
  once = λ i j x e k. from_once 0 (globals_of p) i j x rise e k;
  parameters_not = λ f x c. by_function f (slice_get p.functions f) refl x (in_of_contains (parameters p f) x c);
  bodies_not = λ f. subst (λ (o : Option Routine). BeginsNone (is_global p) (code_of o)) (sym (slice_get-map routine_of p.functions f)) (by_body f (slice_get p.functions f) refl);
}
  where
    by_function : (f : ℕ) (o : Option Function) → slice_get p.functions f ≡ o → (x : ℕ) → IsIn (option_map_or (λ (g : Function). g.params) o []) x → is_global p x ≡ false
    by_function f None is x i = absurd i
    by_function f (Some c) is x i = let k = get_of_in c.params x i in (owns f c is).parameters_not k.0 x k.1

    by_body : (f : ℕ) (o : Option Function) → slice_get p.functions f ≡ o → BeginsNone (is_global p) (code_of (option_map routine_of o))
    by_body f None is = tt
    by_body f (Some c) is = (owns f c is).body_not

-- of the program that a text has, before its lines are told
pub text_owns : (p : Program) (w : IsWellFormed p) → HasOwnGlobals w.same
text_owns p w =
    let parts = program_parts w.raw w.same w.has.program in
    let stand : AllStand w.same 0 (variables_in w.raw (items_phrases w.raw w.raw.items outset)) = subst (AllStand w.same 0) (sym parts.vars) (stand_all w.same 0 w.same.vars (λ i. ap (slice_get w.same.vars) (omega arith))) in
    same_owns w.raw w.same (functions_own w.raw w.same w.raw.items outset w.same.functions stand (made_of w.raw w.same w.has.program).functions) (globals_rise w.raw w.same w.raw.items outset w.same.items parts.items)

-- ---- lines decide nothing

owner_of : (o : Option Var) → option_map_or (λ (v : Var). is_none v.owner) (option_map unlined_var o) false ≡ option_map_or (λ (v : Var). is_none v.owner) o false
owner_of None = refl
owner_of (Some v) = refl

unlined_global : (p : Program) (x : ℕ) → option_map_or (λ (v : Var). is_none v.owner) (slice_get (map unlined_var p.vars) x) false ≡ is_global p x
unlined_global p x =
    ap (λ (o : Option Var). option_map_or (λ (v : Var). is_none v.owner) o false) (slice_get-map unlined_var p.vars x) ∙ owner_of (slice_get p.vars x)

same_global : (p q : Program) → SameButLines p q → (x : ℕ) → is_global p x ≡ is_global q x
same_global p q same x =
    sym (unlined_global p x) ∙ (ap (λ (r : Program). option_map_or (λ (v : Var). is_none v.owner) (slice_get r.vars x) false) same ∙ unlined_global q x)

begins_same : (these others : ℕ → Bool) → ((x : ℕ) → these x ≡ others x) → (c : Code) → BeginsNone others c → BeginsNone these c
begins_same these others same End h = tt
begins_same these others same (Opens x r) h = (same x ∙ h.0, begins_same these others same r h.1)
begins_same these others same (Plain i a r) h = begins_same these others same r h
begins_same these others same (Fork i e c r) h = ((λ v. begins_same these others same (c v) (h.0 v)), begins_same these others same r h.1)
begins_same these others same (Loop i e b r) h = (begins_same these others same b h.0, begins_same these others same r h.1)
begins_same these others same (Leaves xs r) h = begins_same these others same r h
begins_same these others same (Call i to g args r) h = begins_same these others same r h

abbrev params_of : Option Routine → List ℕ
params_of o = option_map_or (λ (r : Routine). r.params) o []

routine_parameters : (p : Program) (f : ℕ) → params_of (slice_get (executable p).functions f) ≡ parameters p f
routine_parameters p f = ap params_of (slice_get-map routine_of p.functions f) ∙ by_function (slice_get p.functions f)
  where
    by_function : (o : Option Function) → params_of (option_map routine_of o) ≡ option_map_or (λ (g : Function). g.params) o []
    by_function None = refl
    by_function (Some g) = refl

-- the program of a text has its own globals, and so has each that is the same but for lines
pub globals_are_own : GlobalsAreOwn
globals_are_own p w =
    let own = text_owns p w in
    let same = same_executable p w.same w.but_lines in
    let global = same_global p w.same w.but_lines in
    record {
      once = λ i j x e k. own.once i j x (subst (λ z. slice_get (variables_of z.globals) i ≡ Some x) same e) (subst (λ z. slice_get (variables_of z.globals) j ≡ Some x) same k);
      parameters_not = λ f x c. global x ∙ own.parameters_not f x (subst (λ xs. Contains xs x) (sym (routine_parameters p f) ∙ (ap (λ z. params_of (slice_get z.functions f)) same ∙ routine_parameters w.same f)) c);
      bodies_not = λ f. begins_same (is_global p) (is_global w.same) global (code_at (executable p) f) (subst (λ z. BeginsNone (is_global w.same) (code_at z f)) (sym same) (own.bodies_not f));
    }
