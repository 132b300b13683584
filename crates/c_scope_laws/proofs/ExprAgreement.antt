-- An expression has the same type, and the same tree but for the numbers of variables, at places that agree on its names.
use Rattle.std.proofs.Common.{◌≡◌, ℕ, Option, Some, None, refl, sym, ap, ap₂, ◌∙◌}
use Rattle.std.specs.Prelude.{option_map, option_and_then, nat_lt, if◌then◌else◌, Contains}
use Rattle.c_tree.specs.declared.expr.Expr.{Expr}
use Rattle.c_tree.specs.declared.expr.Expr.TheVariants as e
use Rattle.c_tree.specs.declared.expr.MemberId.{MemberId}
use Rattle.c_tree.specs.declared.raw.expr.RawExpr.{RawExpr, out-RawExpr, roll-RawExpr, map-RawExpr, fold-roll-RawExpr}
use Rattle.c_tree.specs.declared.raw.expr.RawExpr.TheOpen.{RawExpr-F}
use Rattle.c_tree.specs.declared.raw.program.RawProgram.{RawProgram}
use Rattle.c_language.specs.Words.{Bytes}
use Rattle.c_language.specs.ConstantEvaluation.{both}
use Rattle.c_language.specs.Scopes.{Scope, Meaning, meaning_in}
use Rattle.c_language.specs.ExprTypes.{a_place, member_type, variable_in, operand_step, operand}
use Rattle.c_language.specs.ExprRules.{seen}
use Rattle.c_language.specs.Uses.{operands_of, deeper}
use Rattle.c_language.specs.ProgramOf.{Told, told_step, told_of, expr_of, variable_number, of_operand, of_pointed}
use Rattle.c_language.specs.declared.expr_type.ExprType.{ExprType}
use Rattle.c_language.specs.declared.expr_type.Operand.{Operand}
use Rattle.c_language.proofs.OptionMaps.{map_turns, both_turns, then_turns}
use Rattle.c_language.proofs.SameStructs.{select_member, select_pointed, of_operands, of_pointeds}
use Rattle.c_scope_laws.specs.Agreement.{NamedIn, SameOutside, moved_meaning, Agree}
use Rattle.projection.specs.Renumbering.{renamed}
use Rattle.c_scope_laws.proofs.Trees.{by_operands, layers_same}
use Rattle.c_scope_laws.proofs.Within.{below, itself}
use Rattle.c_scope_laws.proofs.Outside.{member_types_same, member_ids_same}
use Rattle.c_scope_laws.proofs.RenumberingLemmas.{renamed-Constant, renamed-Null, renamed-Eof, renamed-Variable, renamed-Unary, renamed-Deref, renamed-AddressOf, renamed-Binary, renamed-AndAlso, renamed-OrElse, renamed-Choose, renamed-Cast, renamed-Index, renamed-Member, renamed-Arrow, renamed-Paren}

-- these are all names of an expression
abbrev pub Covers : (Bytes → Type 0) → RawExpr → Type 0
Covers named a = (x : Bytes) → NamedIn a x → named x

-- this is the name of a layer, where it has one
abbrev pub CoversLayer : {A : Type 0} → (Bytes → Type 0) → RawExpr-F A → Type 0
CoversLayer named (RawExpr-F.Variable x) = named x
CoversLayer named _ = Unit {0}

pub covers_layer : {A : Type 0} (named : Bytes → Type 0) (p : RawExpr → A) (l : RawExpr-F RawExpr) → Covers named (roll-RawExpr l) → CoversLayer named (map-RawExpr RawExpr A p l)
covers_layer named p (RawExpr-F.Constant text) h = tt
covers_layer named p RawExpr-F.Null h = tt
covers_layer named p RawExpr-F.Eof h = tt
covers_layer named p (RawExpr-F.Variable x) h = h x (itself x)
covers_layer named p (RawExpr-F.Unary op a) h = tt
covers_layer named p (RawExpr-F.Deref a) h = tt
covers_layer named p (RawExpr-F.AddressOf a) h = tt
covers_layer named p (RawExpr-F.Binary op a b) h = tt
covers_layer named p (RawExpr-F.AndAlso a b) h = tt
covers_layer named p (RawExpr-F.OrElse a b) h = tt
covers_layer named p (RawExpr-F.Choose c a b) h = tt
covers_layer named p (RawExpr-F.Cast t a) h = tt
covers_layer named p (RawExpr-F.Index a i) h = tt
covers_layer named p (RawExpr-F.Member a m) h = tt
covers_layer named p (RawExpr-F.Arrow a m) h = tt
covers_layer named p (RawExpr-F.Paren a) h = tt

module _ (f : ℕ → ℕ) (named : Bytes → Type 0) (raw other : RawProgram) (scope next : Scope) (like : SameOutside raw other) (agree : Agree f named scope next) where
  -- ---- operands

  selected_same : (m : Bytes) (s : Option ℕ) → option_and_then (member_type other next m) s ≡ option_and_then (member_type raw scope m) s
  selected_same m None = refl
  selected_same m (Some k) =
      ap₂ (λ (n : ℕ) (t : Option ExprType). if nat_lt k n then t else None) agree.structs (member_types_same raw other like k m)

  -- a variable with another number is the same operand
  moved_operand : (m : Option Meaning) → variable_in (option_map (moved_meaning f) m) ≡ variable_in m
  moved_operand None = refl
  moved_operand (Some (Meaning.Variable id t)) = refl
  moved_operand (Some Meaning.Function) = refl

  operand_steps : (y : RawExpr-F (Option Operand)) → CoversLayer named y → operand_step other next y ≡ operand_step raw scope y
  operand_steps (RawExpr-F.Constant text) h = refl
  operand_steps RawExpr-F.Null h = refl
  operand_steps RawExpr-F.Eof h = refl
  operand_steps (RawExpr-F.Variable x) h = ap variable_in (agree.names x h) ∙ moved_operand (meaning_in scope x)
  operand_steps (RawExpr-F.Unary op a) h = refl
  operand_steps (RawExpr-F.Deref a) h = refl
  operand_steps (RawExpr-F.AddressOf a) h = refl
  operand_steps (RawExpr-F.Binary op a b) h = refl
  operand_steps (RawExpr-F.AndAlso a b) h = refl
  operand_steps (RawExpr-F.OrElse a b) h = refl
  operand_steps (RawExpr-F.Choose c a b) h = refl
  operand_steps (RawExpr-F.Cast i a) h = refl
  operand_steps (RawExpr-F.Index a b) h = refl
  operand_steps (RawExpr-F.Member a m) h = ap (option_map a_place) (select_member other raw next scope selected_same m a)
  operand_steps (RawExpr-F.Arrow a m) h = ap (option_map a_place) (select_pointed other raw next scope selected_same m a)
  operand_steps (RawExpr-F.Paren a) h = refl

  -- what an operand of a layer names is covered
  below_covers : (l : RawExpr-F RawExpr) (m : RawExpr) → Contains (operands_of l) m → Covers named (roll-RawExpr l) → Covers named m
  below_covers l m k c x n = c x (below l m _ k n)

  pub operands_same : (a : RawExpr) → Covers named a → operand other next a ≡ operand raw scope a
  operands_same = by_operands (λ a. Covers named a → operand other next a ≡ operand raw scope a) (λ l h c.
      fold-roll-RawExpr (Option Operand) (operand_step other next) l
      ∙ ap (operand_step other next) (layers_same (operand raw scope) (operand other next) l (λ m k. h m k (below_covers l m k c)))
      ∙ operand_steps (map-RawExpr RawExpr (Option Operand) (operand raw scope) l) (covers_layer named (operand raw scope) l c)
      ∙ sym (fold-roll-RawExpr (Option Operand) (operand_step raw scope) l))

  -- what is seen of an expression
  pub seen_same : (a : RawExpr) → Covers named a → seen other next a ≡ seen raw scope a
  seen_same a c = layers_same (operand raw scope) (operand other next) (out-RawExpr a) (λ m k. operands_same m (λ x n. c x (deeper k n)))

  -- ---- trees

  pub moved_number : (m : Option Meaning) → variable_number (option_map (moved_meaning f) m) ≡ option_map f (variable_number m)
  moved_number None = refl
  moved_number (Some (Meaning.Variable id t)) = refl
  moved_number (Some Meaning.Function) = refl

  pub numbers_same : (x : Bytes) → named x → variable_number (meaning_in next x) ≡ option_map f (variable_number (meaning_in scope x))
  numbers_same x h = ap variable_number (agree.names x h) ∙ moved_number (meaning_in scope x)

  -- the same operand, and its tree with other numbers
  abbrev moved_told : Told → Told
  moved_told t = record { operand = t.operand; tree = option_map (renamed f) t.tree }

  told_as : {a b : Option Operand} {x y : Option Expr} → a ≡ b → x ≡ y → ◌≡◌ {A = Told} (record { operand = a; tree = x }) (record { operand = b; tree = y })
  told_as h k = ap₂ (λ (p : Option Operand) (q : Option Expr). record { operand = p; tree = q }) h k

  choose_turns : (c a b : Option Expr) → option_and_then (λ (x : Expr). both (e.Choose x) (option_map (renamed f) a) (option_map (renamed f) b)) (option_map (renamed f) c)
      ≡ option_map (renamed f) (option_and_then (λ (x : Expr). both (e.Choose x) a b) c)
  choose_turns c a b = then_turns (renamed f) (renamed f) _ _ (λ x. both_turns (renamed f) (renamed f) (renamed f) (e.Choose x) (e.Choose (renamed f x)) (λ y z. sym (renamed-Choose f x y z)) a b) c

  select_turns : (form : Expr → MemberId → Expr) → ((a : Expr) (m : MemberId) → form (renamed f a) m ≡ renamed f (form a m)) → (m : Option MemberId) (a : Option Expr)
      → option_and_then (λ (x : Expr). option_map (form x) m) (option_map (renamed f) a) ≡ option_map (renamed f) (option_and_then (λ (x : Expr). option_map (form x) m) a)
  select_turns form same None None = refl
  select_turns form same None (Some a) = refl
  select_turns form same (Some m) None = refl
  select_turns form same (Some m) (Some a) = ap Some (same a m)

  told_steps : (p : RawExpr → Told) (l : RawExpr-F RawExpr) → CoversLayer named (map-RawExpr RawExpr Told p l)
      → told_step other next (map-RawExpr RawExpr Told (λ m. moved_told (p m)) l) ≡ moved_told (told_step raw scope (map-RawExpr RawExpr Told p l))
  told_steps p (RawExpr-F.Constant text) h = told_as refl (ap Some (sym (renamed-Constant f text _ _)))
  told_steps p RawExpr-F.Null h = told_as refl (ap Some (sym (renamed-Null f)))
  told_steps p RawExpr-F.Eof h = told_as refl (ap Some (sym (renamed-Eof f)))
  told_steps p (RawExpr-F.Variable x) h =
      told_as (operand_steps (RawExpr-F.Variable x) h)
      (ap (option_map e.Variable) (numbers_same x h) ∙ map_turns f (renamed f) e.Variable e.Variable (λ n. sym (renamed-Variable f n)) (variable_number (meaning_in scope x)))
  told_steps p (RawExpr-F.Unary op a) h = told_as refl (map_turns (renamed f) (renamed f) (e.Unary op) (e.Unary op) (λ x. sym (renamed-Unary f op x)) (p a).tree)
  told_steps p (RawExpr-F.Deref a) h = told_as refl (map_turns (renamed f) (renamed f) e.Deref e.Deref (λ x. sym (renamed-Deref f x)) (p a).tree)
  told_steps p (RawExpr-F.AddressOf a) h = told_as refl (map_turns (renamed f) (renamed f) e.AddressOf e.AddressOf (λ x. sym (renamed-AddressOf f x)) (p a).tree)
  told_steps p (RawExpr-F.Binary op a b) h = told_as refl (both_turns (renamed f) (renamed f) (renamed f) (e.Binary op) (e.Binary op) (λ x y. sym (renamed-Binary f op x y)) (p a).tree (p b).tree)
  told_steps p (RawExpr-F.AndAlso a b) h = told_as refl (both_turns (renamed f) (renamed f) (renamed f) e.AndAlso e.AndAlso (λ x y. sym (renamed-AndAlso f x y)) (p a).tree (p b).tree)
  told_steps p (RawExpr-F.OrElse a b) h = told_as refl (both_turns (renamed f) (renamed f) (renamed f) e.OrElse e.OrElse (λ x y. sym (renamed-OrElse f x y)) (p a).tree (p b).tree)
  told_steps p (RawExpr-F.Choose c a b) h = told_as refl (choose_turns (p c).tree (p a).tree (p b).tree)
  told_steps p (RawExpr-F.Cast t a) h = told_as refl (map_turns (renamed f) (renamed f) (e.Cast t) (e.Cast t) (λ x. sym (renamed-Cast f t x)) (p a).tree)
  told_steps p (RawExpr-F.Index a i) h = told_as refl (both_turns (renamed f) (renamed f) (renamed f) e.Index e.Index (λ x y. sym (renamed-Index f x y)) (p a).tree (p i).tree)
  told_steps p (RawExpr-F.Member a m) h =
      told_as (operand_steps (RawExpr-F.Member (p a).operand m) tt)
      (ap (λ (k : Option MemberId). option_and_then (λ (x : Expr). option_map (e.Member x) k) (option_map (renamed f) (p a).tree)) (of_operands other raw (member_ids_same raw other like) m (p a).operand)
      ∙ select_turns e.Member (λ x k. sym (renamed-Member f x k)) (of_operand raw m (p a).operand) (p a).tree)
  told_steps p (RawExpr-F.Arrow a m) h =
      told_as (operand_steps (RawExpr-F.Arrow (p a).operand m) tt)
      (ap (λ (k : Option MemberId). option_and_then (λ (x : Expr). option_map (e.Arrow x) k) (option_map (renamed f) (p a).tree)) (of_pointeds other raw (member_ids_same raw other like) m (p a).operand)
      ∙ select_turns e.Arrow (λ x k. sym (renamed-Arrow f x k)) (of_pointed raw m (p a).operand) (p a).tree)
  told_steps p (RawExpr-F.Paren a) h = told_as refl (map_turns (renamed f) (renamed f) e.Paren e.Paren (λ x. sym (renamed-Paren f x)) (p a).tree)

  told_same : (a : RawExpr) → Covers named a → told_of other next a ≡ moved_told (told_of raw scope a)
  told_same = by_operands (λ a. Covers named a → told_of other next a ≡ moved_told (told_of raw scope a)) (λ l h c.
      fold-roll-RawExpr Told (told_step other next) l
      ∙ ap (told_step other next) (layers_same (λ m. moved_told (told_of raw scope m)) (told_of other next) l (λ m k. h m k (below_covers l m k c)))
      ∙ told_steps (told_of raw scope) l (covers_layer named (told_of raw scope) l c)
      ∙ ap moved_told (sym (fold-roll-RawExpr Told (told_step raw scope) l)))

  pub exprs_same : (a : RawExpr) → Covers named a → expr_of other next a ≡ option_map (renamed f) (expr_of raw scope a)
  exprs_same a c = ap (λ (t : Told). t.tree) (told_same a c)
