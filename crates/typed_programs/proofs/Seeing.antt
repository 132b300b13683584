-- The expressions of a phrase by which no rule is broken, as operands of the text and of its tree.
use Rattle.std.proofs.Common.{◌≡◌, ℕ, suc, List, [], ◌∷◌, ◌++◌, length, Bool, true, false, cond, Option, Some, None, option_map, find, bytes_eq, refl, sym, ap, ◌∙◌}
use Rattle.std.specs.Prelude.{Contains}
use Rattle.std.proofs.lemmas.Bool.{and_from}
use Rattle.c_tree.specs.declared.expr.Expr.{Expr}
use Rattle.c_tree.specs.declared.raw.expr.RawExpr.{RawExpr}
use Rattle.c_tree.specs.declared.raw.program.RawProgram.{RawProgram}
use Rattle.c_language.specs.Words.{Bytes}
use Rattle.c_language.specs.ExprRules.{holds_of}
use Rattle.c_language.specs.ExprTypes.{is_scalar, member_of}
use Rattle.c_language.specs.ExprTypes as of_text
use Rattle.c_language.specs.Options.{IsThere}
use Rattle.c_language.specs.Phrases.{Part}
use Rattle.c_language.specs.ProgramOf.{collected, expr_of}
use Rattle.c_language.specs.Rules.{BreaksNone}
use Rattle.c_language.specs.Scopes.{Scope, Meaning, Entry, found_in, meaning_in}
use Rattle.c_language.specs.TypeRules.{IsNoTarget}
use Rattle.c_language.specs.Uses.{expressions}
use Rattle.c_language.specs.declared.expr_type.Operand.{Operand}
use Rattle.c_language.proofs.CleanOperands as clean
use Rattle.c_language.proofs.CleanOperands.{IsTypedIf}
use Rattle.c_language.proofs.Lists.{contains_later}
use Rattle.c_language.proofs.Operands.{HasTypeIf, kept_clean}
use Rattle.c_language.proofs.Options.{value_there, some_same, more_there}
use Rattle.typed_programs.specs.TreeOperands.{Declarations, variable_shape, operand_of}
use Rattle.typed_programs.specs.TypedStatements.{passes, is_left_side}
use Rattle.typed_programs.proofs.TextOperands.{HasShapeIf, MembersStand, operand_is}

-- what isn't false is true
pub unless : (b : Bool) → (b ≡ false → ⊥) → b ≡ true
unless true h = refl
unless false h = absurd (h refl)

pub contains_behind : {A : Type 0} (xs ys : List A) (x : A) → Contains ys x → Contains (xs ++ ys) x
contains_behind [] ys x c = c
contains_behind (y ∷ xs) ys x c = contains_later y x (xs ++ ys) (contains_behind xs ys x c)

-- as many values as are collected
pub collected_length : {A : Type 0} (os : List (Option A)) (xs : List A) → collected os ≡ Some xs → length xs ≡ length os
collected_length [] xs e = ap length (sym (some_same e))
collected_length (o ∷ os) xs e = let m = more_there o os xs e in ap length (sym m.same) ∙ ap suc (collected_length os m.rest m.rest_there)

-- ---- names

-- a name stands for a variable that is declared, with its type
abbrev pub Stands : Declarations → Meaning → Type 0
Stands d (Meaning.Variable id t) = (variable_shape d id ≡ t) × IsThere t
Stands d Meaning.Function = Unit {0}

abbrev pub StandIf : Declarations → Option Meaning → Type 0
StandIf d None = Unit {0}
StandIf d (Some m) = Stands d m

abbrev pub NamesStand : Declarations → List Entry → Type 0
NamesStand d [] = Unit {0}
NamesStand d (x ∷ xs) = Stands d x.meaning × NamesStand d xs

pub names_more : (d : Declarations) (es : List Entry) (x : Entry) → NamesStand d es → Stands d x.meaning → NamesStand d (es ++ x ∷ [])
names_more d [] x h k = (k, tt)
names_more d (y ∷ es) x h k = (h.0, names_more d es x h.1 k)

abbrev meaning_of : Option Entry → Option Meaning
meaning_of = option_map (λ (x : Entry). x.meaning)

found_step : (d : Declarations) (b : Bool) (x : Entry) (r : Option Entry) → Stands d x.meaning → StandIf d (meaning_of r) → StandIf d (meaning_of (cond b (Some x) r))
found_step d true x r h k = h
found_step d false x r h k = k

pub name_stands : (d : Declarations) (name : Bytes) (es : List Entry) → NamesStand d es → StandIf d (found_in name es)
name_stands d name [] h = tt
name_stands d name (x ∷ es) h = found_step d (bytes_eq name x.name) x (find (λ (e : Entry). bytes_eq name e.name) es) h.0 (name_stands d name es h.1)

shape_if : (d : Declarations) (m : Option Meaning) → StandIf d m → HasShapeIf d m
shape_if d None h = tt
shape_if d (Some Meaning.Function) h = tt
shape_if d (Some (Meaning.Variable id t)) h = h.0

type_if : (d : Declarations) (m : Option Meaning) → StandIf d m → HasTypeIf m
type_if d None h = tt
type_if d (Some Meaning.Function) h = tt
type_if d (Some (Meaning.Variable id t)) h = h.1

-- ---- expressions

-- the members of the text's struct types are those that are declared, and have types
pub record Known (raw : RawProgram) (d : Declarations) : Type 0 where
  pub stand : MembersStand raw d
  pub typed : (s : ℕ) (name : Bytes) → IsTypedIf raw (member_of raw s name)

-- an expression of a text and its tree are the same operand
pub record Seen (raw : RawProgram) (d : Declarations) (scope : Scope) (a : RawExpr) (x : Expr) : Type 0 where
  pub operand : Operand
  pub text : of_text.operand raw scope a ≡ Some operand
  pub tree : operand_of d x ≡ Some operand

module _ (raw : RawProgram) (d : Declarations) (known : Known raw d) (scope : Scope) (names : NamesStand d scope.names) where
  pub expr_seen : (part : Part) → BreaksNone raw scope part → (a : RawExpr) → Contains (expressions part) a → (x : Expr) → expr_of raw scope a ≡ Some x → Seen raw d scope a x
  expr_seen part kept a c x is =
      let there = clean.operand_there raw scope known.typed (λ name. type_if d (meaning_in scope name) (name_stands d name scope.names names)) a (kept_clean raw scope part kept a c) in
      let v = value_there (of_text.operand raw scope a) there in
      record {
        operand = v.0;
        text = v.1;
        tree = operand_is raw d scope (λ name. shape_if d (meaning_in scope name) (name_stands d name scope.names names)) known.stand a x v.0 is v.1;
      }

module _ (raw : RawProgram) (d : Declarations) (scope : Scope) (a : RawExpr) (x : Expr) (s : Seen raw d scope a x) where
  -- it passes a test that it can't fail
  pub seen_passes : (test : Operand → Bool) → (test s.operand ≡ false → ⊥) → passes d test x ≡ true
  seen_passes test h = ap (holds_of test) s.tree ∙ unless (test s.operand) h

  pub seen_scalar : (IsNoTarget raw scope a → ⊥) → is_scalar s.operand.shape ≡ true
  seen_scalar isnt = unless (is_scalar s.operand.shape) (λ h. isnt (IsNoTarget.no_scalar s.text h))

  -- it is a left side
  pub seen_left : (IsNoTarget raw scope a → ⊥) → passes d is_left_side x ≡ true
  seen_left isnt = ap (holds_of is_left_side) s.tree ∙ and_from s.operand.is_place (is_scalar s.operand.shape) (unless s.operand.is_place (λ h. isnt (IsNoTarget.no_place s.text h))) (seen_scalar isnt)
