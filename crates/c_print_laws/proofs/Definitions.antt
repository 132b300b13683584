-- The functions that a text defines are those of its program.
use Rattle.std.proofs.Common.{◌≡◌, ℕ, zero, suc, ◌+◌, List, [], ◌∷◌, ◌++◌, map, true, Option, Some, None, refl, sym, ap, subst, ◌∙◌, arith, slice_get}
use Rattle.std.specs.Prelude.{is_some, if◌then◌else◌, bytes_eq}
use Rattle.std.specs.Option.{option_map_or}
use Rattle.std.proofs.lemmas.Slice.Eq.{bytes_eq-Decides}
use Rattle.std.proofs.lemmas.Bool.{and_parts}
use Rattle.c_language.proofs.ProgramParts.{made_of}
use Rattle.c_tree.specs.declared.raw.expr.RawType.{RawType}
use Rattle.c_tree.specs.declared.program.Program.{Program}
use Rattle.c_tree.specs.declared.program.Function.{Function}
use Rattle.c_tree.specs.declared.program.Var.{Var}
use Rattle.c_tree.specs.declared.raw.program.RawParam.{RawParam}
use Rattle.c_tree.specs.declared.raw.program.RawHead.{RawHead}
use Rattle.c_tree.specs.declared.raw.program.RawItem.{RawItem}
use Rattle.c_tree.specs.declared.raw.program.RawItem.TheVariants.{Include, Tag, Struct, Global, Prototype, Define}
use Rattle.c_tree.specs.declared.raw.program.RawProgram.{RawProgram}
use Rattle.c_tree.specs.declared.raw.statement.RawStatement.{RawStatement}
use Rattle.c_language.specs.Words.{Bytes, name_of_function}
use Rattle.c_language.specs.ItemGrammar.{are_named}
use Rattle.c_language.specs.DeclaredTypes.{defined_functions, function_texts, function_id}
use Rattle.c_language.specs.Scopes.{Scope, outset, with_named, scope_of_parameters, entered, with_parameter}
use Rattle.c_language.specs.Phrases.{phrase, EndsFunction, DeclaresFunction, parameter_phrases, head_phrases, body_phrases, item_phrases, after_item, items_phrases, phrases}
use Rattle.c_language.specs.ProgramOf.{ctype, ctype_with, ctype_if, variables_in, parameter_ids, function_tree, functions_from, body_of, program_of, struct_tree, items_from}
use Rattle.c_language.specs.DeclaredTypes.{defined_structs}
use Rattle.c_language.specs.Phrases.{scope_at_end}
use Rattle.c_language.proofs.Options.{none_there, some_same, map_there, both_there}
use Rattle.c_language.proofs.PlainTypes.{IsPlain}
use Rattle.c_language.proofs.Tests.{false_true}
use Rattle.c_language.proofs.ScopeNumbers.{function_variables}
use Rattle.c_print_laws.proofs.Options.{collected_are}
use Rattle.c_print_laws.proofs.Named.{positioned}
use Rattle.c_print_laws.proofs.Told.{AreTold, told_first, told_rest, told_later}
use Rattle.c_print_laws.proofs.Numbers.{parameter_count, item_variables, define_functions, prototype_functions}
use Rattle.c_language.proofs.Lists.{no_list, head_is, tail_is}

-- ---- the parts of the program of a text

pub record IsProgramOf (raw : RawProgram) (p : Program) : Type 0 where
  pub items : items_from raw raw.items outset ≡ map Some p.items
  pub vars : variables_in raw (phrases raw) ≡ map Some p.vars
  pub structs : map (struct_tree raw) (defined_structs raw) ≡ map Some p.structs
  pub functions : functions_from raw raw.items outset ≡ map Some p.functions
  pub statements : (scope_at_end raw).statements ≡ p.statements

pub program_parts : (raw : RawProgram) (p : Program) → program_of raw ≡ Some p → IsProgramOf raw p
program_parts raw p h =
    let made = made_of raw p h in
    record {
      items = collected_are (items_from raw raw.items outset) p.items made.items;
      vars = collected_are (variables_in raw (phrases raw)) p.vars made.vars;
      structs = collected_are (map (struct_tree raw) (defined_structs raw)) p.structs made.structs;
      functions = collected_are (functions_from raw raw.items outset) p.functions made.functions;
      statements = made.statements;
    }

-- ---- places behind a number

-- a list stands in another one from a place on
abbrev pub Behind : {A : Type 0} → List A → ℕ → List A → Type 0
Behind all n some = (i : ℕ) → slice_get all (n + i) ≡ slice_get some i

pub behind_first : {A : Type 0} (all : List A) (n : ℕ) (x : A) (some : List A) → Behind all n (x ∷ some) → slice_get all n ≡ Some x
behind_first all n x some h = ap (slice_get all) (omega arith) ∙ h 0

pub behind_rest : {A : Type 0} (all : List A) (n m : ℕ) (x : A) (some : List A) → m ≡ n + 1 → Behind all n (x ∷ some) → Behind all m some
behind_rest all n m x some is h = λ i. ap (slice_get all) (omega (arith, is)) ∙ h (suc i)

pub behind_at : {A : Type 0} (all : List A) (n m : ℕ) (some : List A) → m ≡ n → Behind all n some → Behind all m some
behind_at all n m some is h = subst (λ (k : ℕ). Behind all k some) (sym is) h

-- ---- functions

-- what the grammar says of heads
abbrev pub ParamsPlain : List RawParam → Type 0
ParamsPlain [] = Unit {0}
ParamsPlain (q ∷ qs) = IsPlain q.shape × ParamsPlain qs

abbrev pub ResultPlain : Option RawType → Type 0
ResultPlain None = Unit {0}
ResultPlain (Some t) = IsPlain t

pub record HeadPlain (h : RawHead) : Type 0 where
  pub result : ResultPlain h.result
  pub params : ParamsPlain h.params

abbrev pub ItemFormed : RawItem → Type 0
ItemFormed (Include is_stdlib) = Unit {0}
ItemFormed (Tag l tag) = Unit {0}
ItemFormed (Struct l tag members) = Unit {0}
ItemFormed (Global l v i is_static) = Unit {0}
ItemFormed (Prototype l h) = HeadPlain h
ItemFormed (Define l h body) = HeadPlain h × (are_named h.params ≡ true)

abbrev pub HeadsPlain : List RawItem → Type 0
HeadsPlain [] = Unit {0}
HeadsPlain (x ∷ xs) = ItemFormed x × HeadsPlain xs

module _ (raw : RawProgram) (p : Program) where
  -- the variables of the program are those of the parameters
  abbrev pub ParamsAre : List ℕ → List RawParam → Type 0
  ParamsAre [] [] = Unit {0}
  ParamsAre [] (q ∷ qs) = ⊥
  ParamsAre (x ∷ xs) [] = ⊥
  ParamsAre (x ∷ xs) (q ∷ qs) = ((v : Var) × (slice_get p.vars x ≡ Some v) × (ctype raw q.shape ≡ Some v.shape)) × ParamsAre xs qs

  -- a function of the program with the head that the text gives it
  pub record IsDefinedAs (n : ℕ) (h : RawHead) : Type 0 where
    pub function : Function
    pub at : slice_get p.functions n ≡ Some function
    pub name : function.name ≡ h.name
    pub result : ctype_if raw h.result ≡ Some function.result
    pub params : ParamsAre function.params h.params

  params_more : (q : RawParam) (ps : List RawParam) (name : Option Bytes) (scope : Scope) → is_some name ≡ true
      → AreTold raw p scope.variables (parameter_phrases raw q name scope) → ParamsAre (parameter_ids ps (with_named raw q name scope).variables) ps
      → ParamsAre (if is_some name then scope.variables ∷ parameter_ids ps (scope.variables + 1) else parameter_ids ps scope.variables) (q ∷ ps)
  params_more q ps None scope is told rest = false_true is
  params_more q ps (Some name) scope is told rest =
      let v = told.stand.0 in
      let g = map_there _ (ctype_with raw 0 q.shape) v.var v.is in
      ((v.var, v.at, g.there ∙ ap (λ (x : Var). Some x.shape) g.same), rest)

  pub params_are : (ps : List RawParam) (scope : Scope) → are_named ps ≡ true → AreTold raw p scope.variables (head_phrases raw ps scope) → ParamsAre (parameter_ids ps scope.variables) ps
  params_are [] scope named told = tt
  params_are (q ∷ ps) scope named told =
      let next = with_parameter raw q scope in
      let each = and_parts (is_some q.name) (are_named ps) named in
      let first = told_first raw p scope.variables (parameter_phrases raw q q.name scope) (head_phrases raw ps next) told in
      let later = told_rest raw p scope.variables next.variables (parameter_phrases raw q q.name scope) (head_phrases raw ps next) (parameter_count raw q q.name scope) told in
      params_more q ps q.name scope each.0 first (params_are ps next each.1 later)

  -- what is known at a place between items
  pub record FunctionsAt (scope : Scope) (items : List RawItem) : Type 0 where
    pub functions : List Function
    pub are : functions_from raw items scope ≡ map Some functions
    pub behind : Behind p.functions scope.functions functions
    pub told : AreTold raw p scope.variables (items_phrases raw items scope)
    pub formed : HeadsPlain items

  pub define_told : (l : ℕ) (h : RawHead) (body : List RawStatement) (scope : Scope) → AreTold raw p scope.variables (item_phrases raw (Define l h body) scope)
      → AreTold raw p (scope_of_parameters h scope).variables (head_phrases raw h.params (scope_of_parameters h scope) ++ (body_phrases raw body (entered raw h scope) ++ (phrase l scope (EndsFunction h body) ∷ [])))
  define_told l h body scope told =
      subst (λ (n : ℕ). AreTold raw p n (head_phrases raw h.params (scope_of_parameters h scope) ++ (body_phrases raw body (entered raw h scope) ++ (phrase l scope (EndsFunction h body) ∷ []))))
      (sym (function_variables h.name scope)) (told_later raw p scope.variables (phrase l scope (DeclaresFunction h true)) _ refl told)

  defined_as : (l : ℕ) (h : RawHead) (body : List RawStatement) (scope : Scope) (f : Function) → function_tree raw l h body scope ≡ Some f
      → slice_get p.functions scope.functions ≡ Some f → are_named h.params ≡ true → AreTold raw p scope.variables (item_phrases raw (Define l h body) scope) → IsDefinedAs scope.functions h
  defined_as l h body scope f is at named told =
      let g = both_there _ (ctype_if raw h.result) (body_of raw body (entered raw h scope)) f is in
      let begin = scope_of_parameters h scope in
      let params = params_are h.params begin named (told_first raw p begin.variables (head_phrases raw h.params begin) _ (define_told l h body scope told)) in
      record {
        function = f;
        at = at;
        name = ap (λ (x : Function). x.name) (sym g.same);
        result = g.left_there ∙ ap (λ (x : Function). Some x.result) g.same;
        params = subst (λ (x : Function). ParamsAre x.params h.params) g.same (subst (λ (n : ℕ). ParamsAre (parameter_ids h.params n) h.params) (function_variables h.name scope) params);
      }

  pub same_functions : (scope next : Scope) (x : RawItem) (xs : List RawItem) → next ≡ after_item raw x scope → next.functions ≡ scope.functions
      → functions_from raw (x ∷ xs) scope ≡ functions_from raw xs (after_item raw x scope) → FunctionsAt scope (x ∷ xs) → FunctionsAt next xs
  same_functions scope next x xs is same passes h = record {
    functions = h.functions;
    are = ap (functions_from raw xs) is ∙ sym passes ∙ h.are;
    behind = behind_at p.functions scope.functions next.functions h.functions same h.behind;
    told = subst (λ (z : Scope). AreTold raw p z.variables (items_phrases raw xs z)) (sym is) (told_rest raw p scope.variables (after_item raw x scope).variables (item_phrases raw x scope) (items_phrases raw xs (after_item raw x scope)) (item_variables raw x scope) h.told);
    formed = h.formed.1;
  }

  pub define_later : (l : ℕ) (hd : RawHead) (body : List RawStatement) (xs : List RawItem) (scope : Scope) (f : Function) (fs : List Function)
      → functions_from raw xs (after_item raw (Define l hd body) scope) ≡ map Some fs → Behind p.functions scope.functions (f ∷ fs)
      → AreTold raw p scope.variables (items_phrases raw (Define l hd body ∷ xs) scope) → HeadsPlain xs → FunctionsAt (after_item raw (Define l hd body) scope) xs
  define_later l hd body xs scope f fs are behind told formed =
      let next = after_item raw (Define l hd body) scope in
      record {
        functions = fs;
        are = are;
        behind = behind_rest p.functions scope.functions next.functions f fs (define_functions raw l hd body scope) behind;
        told = told_rest raw p scope.variables next.variables (item_phrases raw (Define l hd body) scope) (items_phrases raw xs next) (item_variables raw (Define l hd body) scope) told;
        formed = formed;
      }

  -- each function that the items define is one of the program, and has its head
  pub definitions : (items : List RawItem) (scope : Scope) → FunctionsAt scope items → (k : ℕ) (h : RawHead) → slice_get (function_texts items) k ≡ Some h → IsDefinedAs (scope.functions + k) h
  definitions [] scope at k h is = none_there is
  definitions (Include is_stdlib ∷ xs) scope at k h is = definitions xs scope (same_functions scope scope (Include is_stdlib) xs refl refl refl at) k h is
  definitions (Tag l tag ∷ xs) scope at k h is = definitions xs scope (same_functions scope scope (Tag l tag) xs refl refl refl at) k h is
  definitions (Struct l tag members ∷ xs) scope at k h is =
      definitions xs (after_item raw (Struct l tag members) scope) (same_functions scope (after_item raw (Struct l tag members) scope) (Struct l tag members) xs refl refl refl at) k h is
  definitions (Global l v i is_static ∷ xs) scope at k h is =
      definitions xs (after_item raw (Global l v i is_static) scope) (same_functions scope (after_item raw (Global l v i is_static) scope) (Global l v i is_static) xs refl refl refl at) k h is
  definitions (Prototype l hd ∷ xs) scope at k h is =
      subst (λ (n : ℕ). IsDefinedAs (n + k) h) (prototype_functions raw l hd scope)
      (definitions xs (after_item raw (Prototype l hd) scope) (same_functions scope (after_item raw (Prototype l hd) scope) (Prototype l hd) xs refl (prototype_functions raw l hd scope) refl at) k h is)
  definitions (Define l hd body ∷ xs) scope at k h is = by_functions at.functions at.are at.behind at.told at.formed (definitions xs (after_item raw (Define l hd body) scope)) k is
    where
      by_functions : (fs : List Function) → functions_from raw (Define l hd body ∷ xs) scope ≡ map Some fs → Behind p.functions scope.functions fs
          → AreTold raw p scope.variables (items_phrases raw (Define l hd body ∷ xs) scope) → HeadsPlain (Define l hd body ∷ xs)
          → (FunctionsAt (after_item raw (Define l hd body) scope) xs → (k : ℕ) (h : RawHead) → slice_get (function_texts xs) k ≡ Some h → IsDefinedAs ((after_item raw (Define l hd body) scope).functions + k) h)
          → (k : ℕ) → slice_get (function_texts (Define l hd body ∷ xs)) k ≡ Some h → IsDefinedAs (scope.functions + k) h
      by_functions [] are behind told formed later k is = no_list are
      by_functions (f ∷ fs) are behind told formed later zero is =
          subst (λ (n : ℕ). IsDefinedAs n h) (omega arith) (subst (IsDefinedAs scope.functions) (some_same is)
          (defined_as l hd body scope f (head_is are) (behind_first p.functions scope.functions f fs behind) formed.0.1
          (told_first raw p scope.variables (item_phrases raw (Define l hd body) scope) (items_phrases raw xs (after_item raw (Define l hd body) scope)) told)))
      by_functions (f ∷ fs) are behind told formed later (suc k) is =
          subst (λ (n : ℕ). IsDefinedAs n h) (number k)
          (later (define_later l hd body xs scope f fs (tail_is are) behind told formed.1) k h is)
        where
          number : (k : ℕ) → (after_item raw (Define l hd body) scope).functions + k ≡ scope.functions + suc k
          number k = let a : (after_item raw (Define l hd body) scope).functions ≡ scope.functions + 1 = define_functions raw l hd body scope in omega (arith, a)

  -- a function has its name
  pub function_named : ((k : ℕ) (h : RawHead) → slice_get (defined_functions raw) k ≡ Some h → IsDefinedAs k h) → (name : Bytes) (k : ℕ) → function_id raw name ≡ Some k → name_of_function p k ≡ name
  function_named defined name k h =
      let x = positioned (λ (f : RawHead). bytes_eq f.name name) (defined_functions raw) k h in
      let d = defined k x.0 x.1 in
      ap (λ (o : Option Function). option_map_or (λ (g : Function). g.name) o []) d.at ∙ d.name ∙ (bytes_eq-Decides x.0.name name).0 x.2
