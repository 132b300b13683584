-- The values that the meaning of a program converts, each with the type to which it does (ISO C99 6.3.2.3, 6.5.4, 6.5.15, 6.5.16.1).
use Rattle.std.specs.Prelude.{◌≡◌, ℕ, List, [], ◌∷◌, ◌++◌, map, true, Option, Some, None, is_some, Contains}
use Rattle.c_tree.specs.declared.expr.Expr.{Expr, out-Expr}
use Rattle.c_tree.specs.declared.expr.Expr.TheOpen.{Expr-F}
use Rattle.c_tree.specs.declared.program.Init.{Init}
use Rattle.c_tree.specs.declared.program.Init.TheVariants as init
use Rattle.c_tree.specs.declared.program.Program.{Program}
use Rattle.c_tree.specs.declared.statement.Target.{Target}
use Rattle.c_tree.specs.declared.statement.Target.TheVariants as target
use Rattle.c_language.specs.Code.{Act, Begins, Sets, Bumps, Fetches, Writes, Prints, Allocates, Frees, Returns, Tests}
use Rattle.c_language.specs.Programs.{IsWellFormed}
use Rattle.c_language.specs.declared.expr_type.ExprType.{ExprType}
use Rattle.c_meaning.specs.declared.value.Value.{Value}
use Rattle.c_meaning.specs.declared.value.Value.TheVariants.{Number}
use Rattle.c_meaning.specs.Activations.{executable, types_in}
use Rattle.c_meaning.specs.Acts.{right_of, bumped, next_byte, next_block}
use Rattle.c_meaning.specs.Steps.{Point, Reaches, Waiting, machine, beginning}
use Rattle.c_meaning.specs.Values.{Types, State, as_type, type_of, eval}
use Rattle.dep_model.specs.Doings.{Doing, Does, Calls}
use Rattle.dep_model.specs.MayPoint.{parameters}
use Rattle.run_facts.specs.Effects.{back_in, next_doing}
use Rattle.run_facts.specs.NextExprs.{target_exprs, doing_values, doing_places}
use Rattle.run_facts.specs.PointerLocations.{item_type}

-- a value, where there is one, and the type to which it is converted
pub record Conversion : Type 0 where
  pub value : Option Value
  pub type : ExprType

abbrev pub conversion : Option Value → ExprType → Conversion
conversion v t = record { value = v; type = t }

-- the conversion gives a value: a pointer is converted to a pointer type, and a number to any type
abbrev pub Fits : Conversion → Type 0
Fits c = (v : Value) → c.value ≡ Some v → is_some (as_type c.type v) ≡ true

abbrev pub AllFit : List Conversion → Type 0
AllFit cs = (c : Conversion) → Contains cs c → Fits c

-- ---- parts of expressions

-- the operands of an expression's outermost form
abbrev pub layer_operands : Expr-F Expr → List Expr
layer_operands (Expr-F.Constant text k v) = []
layer_operands Expr-F.Null = []
layer_operands Expr-F.Eof = []
layer_operands (Expr-F.Variable x) = []
layer_operands (Expr-F.Unary op a) = a ∷ []
layer_operands (Expr-F.Deref a) = a ∷ []
layer_operands (Expr-F.AddressOf a) = a ∷ []
layer_operands (Expr-F.Binary op a b) = a ∷ (b ∷ [])
layer_operands (Expr-F.AndAlso a b) = a ∷ (b ∷ [])
layer_operands (Expr-F.OrElse a b) = a ∷ (b ∷ [])
layer_operands (Expr-F.Choose c a b) = c ∷ (a ∷ (b ∷ []))
layer_operands (Expr-F.Cast k a) = a ∷ []
layer_operands (Expr-F.Index a i) = a ∷ (i ∷ [])
layer_operands (Expr-F.Member a m) = a ∷ []
layer_operands (Expr-F.Arrow a m) = a ∷ []
layer_operands (Expr-F.Paren a) = a ∷ []

-- an expression is the whole of another, or a part of one of its operands
pub data IsPart (part : Expr) : Expr → Type 0 where
  whole : IsPart part part
  deeper : {operand e : Expr} → Contains (layer_operands (out-Expr e)) operand → IsPart part operand → IsPart part e

-- ---- conversions in a state

module _ (types : Types) (s : State) where
  -- those of the outermost form of an expression of this type: a cast converts, and a choice whichever operand it takes
  abbrev pub layer_conversions : ExprType → Expr-F Expr → List Conversion
  layer_conversions t (Expr-F.Choose c a b) = conversion (eval types a s) t ∷ (conversion (eval types b s) t ∷ [])
  layer_conversions t (Expr-F.Cast k a) = conversion (eval types a s) t ∷ []
  layer_conversions t _ = []

  -- those of all parts of an expression fit
  abbrev pub PartsFit : Expr → Type 0
  PartsFit e = (part : Expr) → IsPart part e → AllFit (layer_conversions (type_of types part) (out-Expr part))

  abbrev pub init_conversions : ℕ → Init → List Conversion
  init_conversions x init.None = []
  init_conversions x (init.One e) = conversion (eval types e s) (types.typing.variable x) ∷ []
  init_conversions x (init.Items es) = map (λ (e : Expr). conversion (eval types e s) (item_type (types.typing.variable x))) es

  -- of what a target gets
  abbrev pub target_conversions : Target → Option Value → List Conversion
  target_conversions target.None v = []
  target_conversions (target.Place e) v = conversion v (type_of types e) ∷ []
  target_conversions (target.Declared x) v = conversion v (types.typing.variable x) ∷ []

  abbrev pub result_conversions : Option ExprType → Option Expr → List Conversion
  result_conversions (Some t) (Some e) = conversion (eval types e s) t ∷ []
  result_conversions _ _ = []

  abbrev pub act_conversions : Act → List Conversion
  act_conversions (Begins x i) = init_conversions x i
  act_conversions (Sets left op right) = conversion (right_of types op left right s) (type_of types left) ∷ []
  act_conversions (Bumps left up) = conversion (bumped types left up s) (type_of types left) ∷ []
  act_conversions (Fetches to) = target_conversions to (Some (Number (next_byte s.unread)))
  act_conversions (Writes e) = []
  act_conversions (Prints format args) = []
  act_conversions (Allocates to n) = target_conversions to (Some (next_block s))
  act_conversions (Frees e) = []
  act_conversions (Returns e) = result_conversions types.result e
  act_conversions (Tests e) = []

  -- of arguments, for parameters with these numbers
  abbrev pub passed_conversions : List ℕ → List Expr → List Conversion
  passed_conversions [] es = []
  passed_conversions (x ∷ xs) [] = []
  passed_conversions (x ∷ xs) (e ∷ es) = conversion (eval types e s) (types.typing.variable x) ∷ passed_conversions xs es

  abbrev pub doing_conversions : Program → Doing → List Conversion
  doing_conversions p (Does i a) = act_conversions a
  doing_conversions p (Calls i to g args) = passed_conversions (parameters p g) args

-- ---- where a run stands

module _ (p : Program) where
  abbrev pub types_at : ℕ → Types
  types_at f = types_in (executable p) f

  -- what is done next, and each expression in it, converts pointers to pointer types alone; and so does a caller that waits, once what it
  -- has called is at its end
  pub record ConversionsFit (x : Point) : Type 0 where
    pub doings : (d : Doing) → next_doing x.rest ≡ Some d → AllFit (doing_conversions (types_at x.function) x.state p d)
    pub parts : (d : Doing) (e : Expr) → next_doing x.rest ≡ Some d → Contains (doing_values d ++ doing_places d) e → PartsFit (types_at x.function) x.state e
    pub receipts : (w : Waiting) (ws : List Waiting) → x.callers ≡ w ∷ ws
        → AllFit (target_conversions (types_at w.function) (back_in (executable p) x.function w x.state) w.target x.state.returned)
    pub receipt_parts : (w : Waiting) (ws : List Waiting) (e : Expr) → x.callers ≡ w ∷ ws → Contains (target_exprs w.target) e
        → PartsFit (types_at w.function) (back_in (executable p) x.function w x.state) e

-- wherever a run of a well-formed program stands, no pointer is converted to another type than a pointer's
abbrev pub ConversionsAlwaysFit : Type 0
ConversionsAlwaysFit =
    (p : Program) → IsWellFormed p → (input : List ℕ) (x : Point) → Reaches (machine (executable p)) (beginning (executable p) input) x → ConversionsFit p x
