-- The phrases of a part of a text: the program has the variables that they declare, and they break no rule.
use Rattle.std.proofs.Common.{◌≡◌, ℕ, suc, ◌+◌, List, [], ◌∷◌, ◌++◌, length, map, Option, Some, refl, sym, ap, subst, ◌∙◌, arith, slice_get}
use Rattle.std.specs.Option.{option_map_or}
use Rattle.c_tree.specs.declared.types.CType.{CType}
use Rattle.c_tree.specs.declared.program.Program.{Program}
use Rattle.c_tree.specs.declared.program.Var.{Var}
use Rattle.c_tree.specs.declared.raw.expr.RawVar.{RawVar}
use Rattle.c_tree.specs.declared.raw.program.RawInit.{RawInit}
use Rattle.c_tree.specs.declared.raw.program.RawProgram.{RawProgram}
use Rattle.c_language.specs.Words.{Bytes, name_of_var, declared}
use Rattle.c_language.specs.Layout.{var_words}
use Rattle.c_language.specs.DeclaredTypes.{item_count, variable_type}
use Rattle.c_language.specs.Scopes.{Scope, Meaning, with_variable}
use Rattle.c_language.specs.Phrases.{Stand, Phrase, Phrases}
use Rattle.c_language.specs.ProgramOf.{ctype_with, is_static_stand, is_parameter_stand, variable_of, declared_by, variables_in}
use Rattle.c_language.specs.Rules.{AreKept}
use Rattle.c_text_layout.specs.RawLayout.{raw_declared}
use Rattle.c_language.proofs.Options.{map_there}
use Rattle.c_language.proofs.PhraseLists.{variables-append, kept_first, kept_second}
use Rattle.c_print_laws.proofs.Counted.{counted}
use Rattle.c_print_laws.proofs.Named.{IsNamed, Fits, fits_append}
use Rattle.c_print_laws.proofs.TypeLayout.{declared_layout}
use Rattle.c_print_laws.proofs.Scoping.{declared_count}
use Rattle.c_language.specs.Options.{IsThere}

-- the program has the variable with the number
pub record Stands (p : Program) (n : ℕ) (v : Option Var) : Type 0 where
  pub var : Var
  pub at : slice_get p.vars n ≡ Some var
  pub is : v ≡ Some var

-- the program has the variables, from the number on
abbrev pub AllStand : Program → ℕ → List (Option Var) → Type 0
AllStand p n [] = Unit {0}
AllStand p n (v ∷ vs) = Stands p n v × AllStand p (n + 1) vs

pub stand_first : (p : Program) (n : ℕ) (vs ws : List (Option Var)) → AllStand p n (vs ++ ws) → AllStand p n vs
stand_first p n [] ws h = tt
stand_first p n (v ∷ vs) ws h = (h.0, stand_first p (n + 1) vs ws h.1)

pub stand_rest : (p : Program) (n : ℕ) (vs ws : List (Option Var)) → AllStand p n (vs ++ ws) → AllStand p (n + length vs) ws
stand_rest p n [] ws h = subst (λ (k : ℕ). AllStand p k ws) (omega arith) h
stand_rest p n (v ∷ vs) ws h = subst (λ (k : ℕ). AllStand p k ws) (omega arith) (stand_rest p (n + 1) vs ws h.1)

pub stand_all : (p : Program) (n : ℕ) (xs : List Var) → ((i : ℕ) → slice_get p.vars (n + i) ≡ slice_get xs i) → AllStand p n (map Some xs)
stand_all p n [] h = tt
stand_all p n (x ∷ xs) h =
    (record { var = x; at = ap (slice_get p.vars) (omega arith) ∙ h 0; is = refl }, stand_all p (n + 1) xs (λ i. ap (slice_get p.vars) (omega arith) ∙ h (suc i)))

module _ (raw : RawProgram) where
  module _ (p : Program) where
    -- the program has the variables that the phrases declare, from the number on, and they break no rule
    pub record AreTold (n : ℕ) (ps : Phrases) : Type 0 where
      pub kept : AreKept raw ps
      pub stand : AllStand p n (variables_in raw ps)

    pub told_first : (n : ℕ) (ps qs : Phrases) → AreTold n (ps ++ qs) → AreTold n ps
    told_first n ps qs h = record {
      kept = kept_first raw ps qs h.kept;
      stand = stand_first p n (variables_in raw ps) (variables_in raw qs) (subst (AllStand p n) (variables-append raw ps qs) h.stand);
    }

    pub told_rest : (n m : ℕ) (ps qs : Phrases) → n + declared_count raw ps ≡ m → AreTold n (ps ++ qs) → AreTold m qs
    told_rest n m ps qs is h = record {
      kept = kept_second raw ps qs h.kept;
      stand = subst (λ (k : ℕ). AllStand p k (variables_in raw qs)) is (stand_rest p n (variables_in raw ps) (variables_in raw qs) (subst (AllStand p n) (variables-append raw ps qs) h.stand));
    }

    -- what follows a phrase that declares nothing
    pub told_later : (n : ℕ) (x : Phrase) (ps : Phrases) → declared_by raw x.line x.scope x.part ≡ [] → AreTold n (x ∷ ps) → AreTold n ps
    told_later n x ps none h = record { kept = h.kept.1; stand = subst (λ (vs : List (Option Var)). AllStand p n (vs ++ variables_in raw ps)) none h.stand }

    module _ (named : IsNamed raw p) where
      -- a variable that is declared
      pub record IsDeclared (scope : Scope) (var : RawVar) (i : RawInit) : Type 0 where
        pub words : var_words p scope.variables ≡ raw_declared (item_count i) var.shape var.name
        pub fits : Fits p scope → Fits p (with_variable raw var i scope)

      at_words : (n : ℕ) (name : Bytes) (t : CType) (line : ℕ) (is_static : _) (owner : Option ℕ) (is_parameter : _)
          → slice_get p.vars n ≡ Some (record { name = name; shape = t; line = line; is_static = is_static; owner = owner; is_parameter = is_parameter })
          → (var_words p n ≡ declared p t name) × (name_of_var p n ≡ name)
      at_words n name t line is_static owner is_parameter h =
          (ap (λ (o : Option Var). option_map_or (λ (v : Var). declared p v.shape v.name) o []) h, ap (λ (o : Option Var). option_map_or (λ (v : Var). v.name) o []) h)

      pub is_declared : (l : ℕ) (owner : Option ℕ) (stand : Stand) (scope : Scope) (var : RawVar) (i : RawInit) → Stands p scope.variables (variable_of raw l owner stand var i) → IsDeclared scope var i
      is_declared l owner stand scope var i h =
          let g = map_there _ (ctype_with raw (item_count i) var.shape) h.var h.is in
          let k = at_words scope.variables var.name g.value l (is_static_stand stand) owner (is_parameter_stand stand) (h.at ∙ ap Some (sym g.same)) in
          record { words = k.0 ∙ declared_layout raw p named (item_count i) var.shape g.value var.name g.there; fits = λ fit. fits_append p scope.names (record { name = var.name; meaning = Meaning.Variable scope.variables (variable_type raw var i) }) fit (k.1, subst IsThere (sym (counted raw (item_count i) var.shape g.value g.there).there) tt) }
