-- What stays of heads and of arguments: it has the signature of what stays of the definition, and what is unfit of it was unfit.
use Rattle.std.proofs.Common.{◌≡◌, ◌≢◌, ℕ, zero, suc, List, [], ◌∷◌, ◌&&◌, Bool, true, false, Option, Some, None, refl, sym, ap, ap₂, ◌∙◌, arith}
use Rattle.std.specs.Prelude.{Contains, if◌then◌else◌, bytes_eq}
use Rattle.std.specs.List.{find}
use Rattle.std.proofs.lemmas.Bool.{and_parts}
use Rattle.c_tree.specs.declared.raw.expr.RawExpr.{RawExpr}
use Rattle.c_tree.specs.declared.raw.program.RawHead.{RawHead}
use Rattle.c_tree.specs.declared.raw.program.RawParam.{RawParam}
use Rattle.c_tree.specs.declared.raw.program.RawProgram.{RawProgram}
use Rattle.c_tree.specs.declared.raw.statement.RawArg.{RawArg}
use Rattle.c_tree.specs.declared.raw.statement.RawArg.TheVariants as arg
use Rattle.c_language.specs.Words.{Bytes}
use Rattle.c_language.specs.DeclaredTypes.{defined_functions, definition_of, result_type, type_or_void, parameter_types, written_type}
use Rattle.c_language.specs.Scopes.{Scope}
use Rattle.c_language.specs.NameRules.{agree, all_agree, same_signature}
use Rattle.c_language.specs.CallRules.{HasUnfitArgument}
use Rattle.c_language.specs.Uses.{arg_exprs, is_library_function}
use Rattle.c_language.specs.declared.expr_type.ExprType.{ExprType}
use Rattle.c_language.proofs.Options.{none_there, some_same}
use Rattle.c_language.proofs.Tests.{false_true}
use Rattle.c_language.proofs.Lists.{contains_later, same_bytes}
use Rattle.projection.specs.Kept.{chosen}
use Rattle.c_scope_laws.specs.Agreement.{Heads, head_left, args_left}
use Rattle.c_scope_laws.proofs.ChosenLists.{chosen_map}

-- what is found under a name has the name
found_name : (x : Bytes) (h : RawHead) (hs : List RawHead) → find (λ (f : RawHead). bytes_eq f.name x) hs ≡ Some h → h.name ≡ x
found_name x h [] at = none_there at
found_name x h (g ∷ hs) at = by_name (bytes_eq g.name x) refl (λ p. found_name x h hs p) at
  where
    by_name : (b : Bool) → bytes_eq g.name x ≡ b → (find (λ (f : RawHead). bytes_eq f.name x) hs ≡ Some h → h.name ≡ x) → (if b then Some g else find (λ (f : RawHead). bytes_eq f.name x) hs) ≡ Some h → h.name ≡ x
    by_name true same later at = ap (λ (f : RawHead). f.name) (sym (some_same at)) ∙ same_bytes g.name x same
    by_name false differs later at = later at

pub defined_name : (raw : RawProgram) (x : Bytes) (h : RawHead) → definition_of raw x ≡ Some h → h.name ≡ x
defined_name raw x h at = found_name x h (defined_functions raw) at

-- ---- arguments

-- an argument's expression is one of all
arg_front : (a : RawArg) (rest : List RawArg) (x : RawExpr) → Contains (arg_exprs rest) x → Contains (arg_exprs (a ∷ rest)) x
arg_front (arg.Value b) rest x c = contains_later b x (arg_exprs rest) c
arg_front (arg.Literal text) rest x c = c

-- the first argument stays
first_expr : (a : RawArg) (some rest : List RawArg) (x : RawExpr) → (Contains (arg_exprs some) x → Contains (arg_exprs rest) x) → Contains (arg_exprs (a ∷ some)) x → Contains (arg_exprs (a ∷ rest)) x
first_expr (arg.Value b) some rest x later (zero, within, is) = (0, omega arith, is)
first_expr (arg.Value b) some rest x later (suc i, within, is) = contains_later b x (arg_exprs rest) (later (i, omega (arith, within), is))
first_expr (arg.Literal text) some rest x later c = later c

pub chosen_exprs : (test : ℕ → Bool) (n : ℕ) (args : List RawArg) (x : RawExpr) → Contains (arg_exprs (chosen test n args)) x → Contains (arg_exprs args) x
chosen_exprs test n [] x c = c
chosen_exprs test n (a ∷ rest) x c = by_test (test n) (λ h. chosen_exprs test (suc n) rest x h) c
  where
    by_test : (b : Bool) → (Contains (arg_exprs (chosen test (suc n) rest)) x → Contains (arg_exprs rest) x) → Contains (arg_exprs (if b then a ∷ chosen test (suc n) rest else chosen test (suc n) rest)) x → Contains (arg_exprs (a ∷ rest)) x
    by_test true later c = first_expr a (chosen test (suc n) rest) rest x later c
    by_test false later c = arg_front a rest x (later c)

pub left_exprs : (heads : Heads) (f : Bytes) (args : List RawArg) (x : RawExpr) → Contains (arg_exprs (args_left heads f args)) x → Contains (arg_exprs args) x
left_exprs heads f args x c = by_test (is_library_function f) c
  where
    by_test : (b : Bool) → Contains (arg_exprs (if b then args else chosen (heads.parameter f) 0 args)) x → Contains (arg_exprs args) x
    by_test true c = c
    by_test false c = chosen_exprs (heads.parameter f) 0 args x c

-- a call of the library has all its arguments, and one of another function those of the parameters that stay
pub all_args : (heads : Heads) (f : Bytes) (args : List RawArg) → is_library_function f ≡ true → args_left heads f args ≡ args
all_args heads f args known = ap (λ (b : Bool). if b then args else chosen (heads.parameter f) 0 args) known

pub chosen_args : (heads : Heads) (f : Bytes) (args : List RawArg) → is_library_function f ≡ false → args_left heads f args ≡ chosen (heads.parameter f) 0 args
chosen_args heads f args strange = ap (λ (b : Bool). if b then args else chosen (heads.parameter f) 0 args) strange

-- an argument that is unfit among those of the parameters that stay is unfit among all
pub unfit_chosen : (raw : RawProgram) (scope : Scope) (test : ℕ → Bool) (n : ℕ) (ts : List (Option ExprType)) (args : List RawArg)
    → HasUnfitArgument raw scope (chosen test n ts) (chosen test n args) → HasUnfitArgument raw scope ts args
unfit_chosen raw scope test n [] args h = no_types h
  where
    no_types : {A : Type 0} {as_ : List RawArg} → HasUnfitArgument raw scope [] as_ → A
    no_types h = elim h [ ]
unfit_chosen raw scope test n (t ∷ ts) [] h = by_test (test n) h
  where
    no_args : {A : Type 0} {us : List (Option ExprType)} → HasUnfitArgument raw scope us [] → A
    no_args h = elim h [ ]

    by_test : (b : Bool) → HasUnfitArgument raw scope (if b then t ∷ chosen test (suc n) ts else chosen test (suc n) ts) [] → HasUnfitArgument raw scope (t ∷ ts) []
    by_test true h = no_args h
    by_test false h = no_args h
unfit_chosen raw scope test n (t ∷ ts) (a ∷ args) h = by_test (test n) (λ j. unfit_chosen raw scope test (suc n) ts args j) h
  where
    here : (a : RawArg) (t : Option ExprType) → (HasUnfitArgument raw scope (chosen test (suc n) ts) (chosen test (suc n) args) → HasUnfitArgument raw scope ts args)
        → HasUnfitArgument raw scope (t ∷ chosen test (suc n) ts) (a ∷ chosen test (suc n) args) → HasUnfitArgument raw scope (t ∷ ts) (a ∷ args)
    here a t later (HasUnfitArgument.value is isnt) = HasUnfitArgument.value is isnt
    here a t later HasUnfitArgument.literal = HasUnfitArgument.literal
    here a t later (HasUnfitArgument.later h) = HasUnfitArgument.later (later h)

    by_test : (b : Bool) → (HasUnfitArgument raw scope (chosen test (suc n) ts) (chosen test (suc n) args) → HasUnfitArgument raw scope ts args)
        → HasUnfitArgument raw scope (if b then t ∷ chosen test (suc n) ts else chosen test (suc n) ts) (if b then a ∷ chosen test (suc n) args else chosen test (suc n) args)
        → HasUnfitArgument raw scope (t ∷ ts) (a ∷ args)
    by_test true later h = here a t later h
    by_test false later h = HasUnfitArgument.later (later h)

-- ---- heads

module _ (raw : RawProgram) (heads : Heads) where
  pub parameters_left : (h : RawHead) → parameter_types raw (head_left heads h) ≡ chosen (heads.parameter h.name) 0 (parameter_types raw h)
  parameters_left h = chosen_map (λ (p : RawParam). written_type raw p.shape) (heads.parameter h.name) 0 h.params

  pub result_stays : (h : RawHead) → heads.gives h.name ≡ true → (head_left heads h).result ≡ h.result
  result_stays h gives = ap (λ (b : Bool). if b then h.result else None) gives

  -- what gives a result gave one, and does so still
  pub result_there : (h : RawHead) → (head_left heads h).result ≢ None → (heads.gives h.name ≡ true) × (h.result ≢ None)
  result_there h some = by_test (heads.gives h.name) refl
    where
      by_test : (b : Bool) → heads.gives h.name ≡ b → (heads.gives h.name ≡ true) × (h.result ≢ None)
      by_test true gives = (gives, λ none. some (result_stays h gives ∙ none))
      by_test false lost = absurd (some (ap (λ (b : Bool). if b then h.result else None) lost))

  agree_chosen : (test : ℕ → Bool) (n : ℕ) (ss ts : List (Option ExprType)) → all_agree ss ts ≡ true → all_agree (chosen test n ss) (chosen test n ts) ≡ true
  agree_chosen test n [] [] h = refl
  agree_chosen test n [] (t ∷ ts) h = false_true h
  agree_chosen test n (s ∷ ss) [] h = false_true h
  agree_chosen test n (s ∷ ss) (t ∷ ts) h = by_test (test n) (agree_chosen test (suc n) ss ts b.1)
    where
      b : (agree s t ≡ true) × (all_agree ss ts ≡ true)
      b = and_parts (agree s t) (all_agree ss ts) h

      by_test : (c : Bool) → all_agree (chosen test (suc n) ss) (chosen test (suc n) ts) ≡ true
          → all_agree (if c then s ∷ chosen test (suc n) ss else chosen test (suc n) ss) (if c then t ∷ chosen test (suc n) ts else chosen test (suc n) ts) ≡ true
      by_test true later = ap₂ (λ (x y : Bool). x && y) b.0 later
      by_test false later = later

  -- heads of one name with the same signature keep the same signature
  pub signature_left : (h g : RawHead) → g.name ≡ h.name → same_signature raw h g ≡ true → same_signature raw (head_left heads h) (head_left heads g) ≡ true
  signature_left h g name same = ap₂ (λ (x y : Bool). x && y) results parameters
    where
      b : (agree (result_type raw h) (result_type raw g) ≡ true) × (all_agree (parameter_types raw h) (parameter_types raw g) ≡ true)
      b = and_parts (agree (result_type raw h) (result_type raw g)) (all_agree (parameter_types raw h) (parameter_types raw g)) same

      by_gives : (c : Bool) → agree (type_or_void raw (if c then h.result else None)) (type_or_void raw (if c then g.result else None)) ≡ true
      by_gives true = b.0
      by_gives false = refl

      results : agree (result_type raw (head_left heads h)) (result_type raw (head_left heads g)) ≡ true
      results = ap (λ (x : Bytes). agree (result_type raw (head_left heads h)) (type_or_void raw (if heads.gives x then g.result else None))) name ∙ by_gives (heads.gives h.name)

      parameters : all_agree (parameter_types raw (head_left heads h)) (parameter_types raw (head_left heads g)) ≡ true
      parameters =
          ap₂ all_agree (parameters_left h) (parameters_left g ∙ ap (λ (x : Bytes). chosen (heads.parameter x) 0 (parameter_types raw g)) name)
          ∙ agree_chosen (heads.parameter h.name) 0 (parameter_types raw h) (parameter_types raw g) b.1
